use Rattle.std.proofs.Common.{◌≡◌, ◌+◌, ◌++◌, ◌∷◌, [], ℕ, zero, suc, Bool, length, replicate, sym, ap, ◌∙◌, refl, arith, append_assoc, length-append}
use Rattle.std.proofs.lemmas.List.{append-nil, length-replicate}
use Rattle.paged_space.proofs.laying.push_flags.Goals as goal

more : (n : ℕ) (b : Bool) → replicate n b ++ b ∷ [] ≡ replicate (suc n) b
more zero b = refl
more (suc n) b = ap (λ xs. b ∷ xs) (more n b)

pub loop-init : goal.loop-init
loop-init c = record { items = sym (append-nil c.args.writes.now.items); capacity = refl }

pub push_reserved-requires : goal.push_reserved-requires
push_reserved-requires c =
    let i = c.loop.invariant.items in
    let k = c.loop.invariant.capacity in
    let l = ap length i ∙ length-append c.args.writes.now.items (replicate c.loop.counter c.args.flag) in
    let r = length-replicate c.loop.counter c.args.flag in
    let o = c.loop.writes.ok.0 in
    let p = c.args.writes.now.ok.0 in
    let q = c.requires in
    let t = c.loop-test.true in
    omega (arith, l, r, o, p, q, t, k)

pub loop-preserved : goal.loop-preserved
loop-preserved c =
    let s : c.loop.counter + 1 ≡ suc c.loop.counter = omega arith in
    record {
      items = c.push_reserved.ensures.items ∙ ap (λ xs. xs ++ c.args.flag ∷ []) c.loop.invariant.items ∙ append_assoc c.args.writes.now.items (replicate c.loop.counter c.args.flag) (c.args.flag ∷ [])
          ∙ ap (λ xs. c.args.writes.now.items ++ xs) (more c.loop.counter c.args.flag ∙ ap (λ n. replicate n c.args.flag) (sym s));
      capacity = c.push_reserved.ensures.capacity ∙ c.loop.invariant.capacity;
    }

pub returns-clause-items : goal.returns-clause-items
returns-clause-items c = let e : c.loop.counter ≡ c.args.count = omega arith in c.loop.invariant.items ∙ ap (λ n. c.args.writes.now.items ++ replicate n c.args.flag) e
