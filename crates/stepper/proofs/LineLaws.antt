-- What stands at an address, by what was found there, and where a line ends.
use Rattle.std.specs.Prelude.{is_none}
use Rattle.std.proofs.Common.{◌≡◌, ℕ, suc, ◌+◌, ◌-◌, ◌^◌, ◌%◌, ◌<◌, ◌≤◌, Bool, true, List, Option, Some, None, refl, sym, ap, ◌∙◌, subst, arith}
use Rattle.rtl_core.specs.declared.inst.GroundInst.{GroundInst}
use Rattle.rtl_core.specs.Code.{code_from}
use Rattle.rtl_core.specs.Grounding.{grounded}
use Rattle.rtl_core.specs.Matching.{Taken, instruction}
use Rattle.decode.specs.At.{found, found_in, found_at}
use Rattle.decode.specs.declared.Found.{Found}
use Rattle.sled_match.specs.declared.matched.MatchedInst.{MatchedInst}
use Rattle.points.specs.declared.block.Standing.{Standing}
use Rattle.points.specs.declared.block.Standing.TheVariants.{Outside, Illegal, Stands}
use Rattle.points.specs.Machine.{Setting, standing, code_standing, match_standing, ground_standing}
use Rattle.stepper.specs.LineEnds.{onward, along, ends_within}

-- what was found is what stands there
abbrev IsStanding : Setting → ℕ → Found → Standing → Type 0
IsStanding setting pc Found.Outside s = s ≡ Outside
IsStanding setting pc Found.Illegal s = s ≡ Illegal
IsStanding setting pc (Found.Inst f) s = s ≡ ground_standing (grounded setting.machine f.inst pc ((pc + f.len) % 2 ^ 32))

of-match : (setting : Setting) (pc : ℕ) (o : Option Taken) → IsStanding setting pc (found o) (match_standing setting.machine pc o)
of-match setting pc None = refl
of-match setting pc (Some t) = refl

of-code : (setting : Setting) (pc : ℕ) (o : Option (List ℕ)) → IsStanding setting pc (found_in setting.encodings o) (code_standing setting pc o)
of-code setting pc None = refl
of-code setting pc (Some bytes) = of-match setting pc (instruction setting.encodings bytes)

of-found : (setting : Setting) (pc : ℕ) (f : Found) → f ≡ found_at setting.encodings setting.frozen pc → IsStanding setting pc f (standing setting pc)
of-found setting pc f e = subst (λ x. IsStanding setting pc x (standing setting pc)) (sym e) (of-code setting pc (code_from setting.frozen pc))

pub stands_outside : (setting : Setting) (pc : ℕ) → Found.Outside ≡ found_at setting.encodings setting.frozen pc → standing setting pc ≡ Outside
stands_outside setting pc e = of-found setting pc Found.Outside e

pub stands_illegal : (setting : Setting) (pc : ℕ) → Found.Illegal ≡ found_at setting.encodings setting.frozen pc → standing setting pc ≡ Illegal
stands_illegal setting pc e = of-found setting pc Found.Illegal e

pub stands_ground : (setting : Setting) (pc : ℕ) (f : MatchedInst) (o : Option GroundInst) → Found.Inst f ≡ found_at setting.encodings setting.frozen pc
    → o ≡ grounded setting.machine f.inst pc ((pc + f.len) % 2 ^ 32) → standing setting pc ≡ ground_standing o
stands_ground setting pc f o e g = of-found setting pc (Found.Inst f) e ∙ ap ground_standing (sym g)

-- ---- its end

module _ (setting : Setting) (i n : ℕ) where
  pub next_ends : i < n → (pc : ℕ) (place : Option ℕ) (all : Bool) → along true (Some pc) (ends_within setting (n - i)) ≡ all
      → place ≡ onward (standing setting pc) → along true place (ends_within setting (n - (i + 1))) ≡ all
  next_ends below pc place all before goes =
      let k = n - (i + 1) in
      let e : n - i ≡ suc k = omega (arith, below) in
      ap (λ p. along true p (ends_within setting k)) goes ∙ sym (ap (λ j. ends_within setting j pc) e) ∙ before

  pub no_more_ends : (place : Option ℕ) (all : Bool) → n ≤ i → along true place (ends_within setting (n - i)) ≡ all → is_none place ≡ all
  no_more_ends None all past before = before
  no_more_ends (Some pc) all past before = let e : n - i ≡ 0 = omega (arith, past) in sym (ap (λ j. ends_within setting j pc) e) ∙ before

  pub ends_ended : (all : Bool) → along true None (ends_within setting (n - i)) ≡ all → true ≡ all
  ends_ended all before = before
