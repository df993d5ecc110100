use Rattle.std.proofs.Common.{◌≡◌, ◌∷◌, ◌++◌, [], suc, length, refl, sym, ap, ◌∙◌, subst, rules}
use Rattle.c_places.specs.Rest.{rest_at, Grown}
use Rattle.c_places.specs.declared.items.Item.{Item}
use Rattle.c_places.proofs.Growing.{add_item, length_push}
use Rattle.c_places.proofs.items.+placing.Goals as goal

pub add_one-returns : goal.add_one-returns
add_one-returns t c =
    let fs = c.args.functions.now in
    let x : Item = record { stmt = c.args.stmt; next = c.args.next; body = c.in_ok-body.body; callee = c.callee_of-callee.result } in
    let pushed : c.push.new.self ≡ c.add_body.new.items ++ x ∷ [] = search rules in
    let len : c.len.result ≡ suc (length c.add_body.new.items) = c.len.ensures ∙ ap length pushed ∙ length_push c.add_body.new.items x in
    let g = add_item fs c.args.items.now c.add_body.new.items x c.args.next c.requires refl c.callee_of-callee.ensures c.in_ok-body.ensures in
    subst (λ at. Grown fs c.args.items.now c.push.new.self at (c.args.stmt.now ∷ rest_at c.args.items.now c.args.next)) (sym len)
    (subst (λ ys. Grown fs c.args.items.now ys (suc (length c.add_body.new.items)) (c.args.stmt.now ∷ rest_at c.args.items.now c.args.next)) (sym pushed) g)
