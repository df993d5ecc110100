use Rattle.std.proofs.Common.{ℕ, ◌∷◌, sym, subst, inl, inr}
use Rattle.std.proofs.lemmas.Bool.{cases_Bool}
use Rattle.page_pool.specs.Frames.{Frames}
use Rattle.paged_space.specs.Moves.{StandIn}
use Rattle.paged_space.proofs.Standing.{stand_written}
use Rattle.paged_space.proofs.tests.marked.Goals as goal

pub returns : goal.returns
returns c = λ fs st. elim (cases_Bool c.write.result) [
  | inl t ↦ stand_written _ _ fs c.args.pool.now c.write.new.self (c.write.ensures.written t).own st
  | inr f ↦
      let r = c.write.ensures.refused f in
      subst (λ (p : Frames). StandIn (c.write.new.frame ∷ fs) p) (sym r.1) (subst (λ (n : ℕ). StandIn (n ∷ fs) c.args.pool.now) (sym r.2) st)
]
