-- A table that a point of a body looks up is that of a computed plain jump of the body.
use Rattle.std.proofs.Common.{inl, inr, ◌≡◌, ℕ, subst}
use Rattle.std.specs.Prelude.{true, ◌⊎◌}
use Rattle.std.specs.List.{Contains}
use Rattle.rtl_core.specs.declared.point.Point.{Point}
use Rattle.rtl_core.specs.declared.point.Slot.TheVariants.{Seq, Dyn}
use Rattle.points.specs.declared.block.Next.TheVariants.{Table}
use Rattle.points.specs.Courses.{point}
use Rattle.points.specs.Bodies.{Code, nexts, goes, jumps, back, past, Body, first, next}
use Rattle.points.specs.Flows.{is_computed}
use Rattle.points.specs.ControlLaws.{IsControl}

module _ (code : Code) (control : IsControl code) (entry : ℕ) where
  -- the jump is in the body, with nothing to come there
  abbrev IsJump : ℕ → Type 0
  IsJump a = Body code entry (point a Seq) × (is_computed (code.block_at a) ≡ true)

  of_slot : (q : Point) (a : ℕ) → Body code entry q → q.slot ≡ Dyn a → IsJump a
  of_slot q a first s = absurd (cc)
  of_slot q a (next {p = p} b (goes c)) s = let d = control.delayed p q a c s in (subst (Body code entry) d.0 b, d.1)
  of_slot q a (next b (jumps c t)) s = absurd (cc)
  of_slot q a (next b (back c)) s = absurd (cc)
  of_slot q a (next b (past c t)) s = absurd (cc)

  pub jump_of : (q : Point) (a : ℕ) → Body code entry q → Contains (nexts code q) (Table a) → IsJump a
  jump_of q a b c = by (control.looked_up q a c)
    where
      by : ((q ≡ point a Seq) × (is_computed (code.block_at a) ≡ true)) ⊎ (q.slot ≡ Dyn a) → IsJump a
      by (inl d) = (subst (Body code entry) d.0 b, d.1)
      by (inr s) = of_slot q a b s
