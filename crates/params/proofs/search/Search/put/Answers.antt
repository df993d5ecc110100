use Rattle.std.proofs.Common.{◌≡◌, ◌<◌, sym, ◌∙◌, ◌∷◌, [], ap, arith, length, subst, set, true, false}
use Rattle.params.specs.Leading.{IsPut, mark}
use Rattle.params.proofs.Searching.{put-new}
use Rattle.params.proofs.search.Search.put.Goals as goal

pub returns-in_ok-push : goal.returns-in_ok-push
returns-in_ok-push c =
    let m = c.args.self.now.marks in
    let w = c.args.self.now.waiting in
    let p = c.args.place in
    let lt : p < length m = (let t = c.if-place-len.true in let e = c.len.ensures in omega (arith, t, e)) in
    let h : mark m p ≡ false = ap (λ l. mark l p) (sym c.as_slice.ensures) ∙ sym c.is_marked.ensures ∙ c.if-not-is_marked.true in
    subst (λ n. IsPut (p ∷ []) m n w c.push.new.self) (sym c.set.ensures) (subst (λ v. IsPut (p ∷ []) m (set m p true) w v) (sym c.in_ok-push.ensures.ok) (put-new m w p lt h))
