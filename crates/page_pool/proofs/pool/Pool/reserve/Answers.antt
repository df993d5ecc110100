use Rattle.std.proofs.Common.{◌≡◌, ◌*◌, ◌<◌, ◌^◌, ℕ, zero, suc, length, get_or, take, replicate, arith, refl, sym, ap, ◌∙◌, rules}
use Rattle.std.proofs.Math.Seq.{take-length}
use Rattle.std.proofs.lemmas.List.{length-replicate}
use Rattle.page_pool.proofs.Counts.{fresh_kept}
use Rattle.page_pool.proofs.pool.Pool.reserve.Goals as goal

zeros : (n k : ℕ) → let z : ℕ = 0 in get_or (replicate n z) k 0 ≡ z
zeros zero k = refl
zeros (suc n) zero = refl
zeros (suc n) (suc k) = zeros n k

pub invariant_of-result : goal.invariant_of-result
invariant_of-result c =
    let h : c.in_ok-vec.field-0.items ≡ replicate c.args.frames 0 = search rules in
    let b : c.in_ok-vec-2.field-0.items ≡ replicate (4096 * c.args.frames) 0 = search rules in
    let lh : length c.in_ok-vec.field-0.items ≡ c.args.frames = ap length h ∙ length-replicate c.args.frames 0 in
    let lb : length c.in_ok-vec-2.field-0.items ≡ 4096 * c.args.frames = ap length b ∙ length-replicate (4096 * c.args.frames) 0 in
    let e = c.in_ok-numbers.ensures in
    let e0 = e.0 in
    let few : length c.in_ok-vec.field-0.items < 2 ^ 32 = omega arith in (
      let q : length c.in_ok-vec-2.field-0.items ≡ 4096 * length c.in_ok-vec.field-0.items = omega (arith, lb, lh) in q,
      few,
      fresh_kept _ _ _ lh (λ k. ap (λ xs. get_or xs k 0) h ∙ zeros c.args.frames k) e0 e.1 (ap (λ n. take n c.in_ok-numbers.field-0.items) (sym e0) ∙ take-length c.in_ok-numbers.field-0.items),
    )
