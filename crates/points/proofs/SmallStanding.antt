-- What stands at an address of the small machine: `or` with a constant, or the service; each has four bytes.
use Rattle.std.proofs.Common.{◌≡◌, ℕ, zero, suc, ◌+◌, ◌^◌, ◌%◌, ◌/◌, Bool, true, false, List, [], ◌∷◌, ◌++◌, append_assoc, length, Option, Some, None, refl, sym, ap, ◌∙◌, subst}
use Rattle.std.specs.Prelude.{option_map, option_and_then, nat_lt, if◌then◌else◌, replicate}
use Rattle.std.specs.List.{list_all}
use Rattle.std.specs.Option.{option_or}
use Rattle.rtl_core.specs.declared.encodings.OperandKind.TheVariants.{Field}
use Rattle.rtl_core.specs.declared.expr.Bin.TheVariants.{Or}
use Rattle.rtl_core.specs.declared.expr.Expr.TheVariants as E
use Rattle.rtl_core.specs.declared.inst.GroundInst.{GroundInst}
use Rattle.rtl_core.specs.declared.inst.Inst.{Inst}
use Rattle.rtl_core.specs.declared.transfer.Act.TheVariants as Act
use Rattle.rtl_core.specs.declared.transfer.Transfer.{Transfer}
use Rattle.rtl_core.specs.Grounding.{Argument, Number, Site, grounded, operands_of, operands_read, all_read, Reader, chosen_read, file_place, place_value, assigning}
use Rattle.rtl_core.proofs.GroundLaws.{ground_laws}
use Rattle.rtl_core.specs.declared.encodings.Bind.{Bind}
use Rattle.rtl_core.specs.declared.encodings.Test.{Test}
use Rattle.rtl_core.specs.declared.expr.Order.TheVariants.{Big}
use Rattle.rtl_core.specs.Matching.{Taken, holds, bound, joined, token, type_taken, instruction}
use Rattle.rtl_core.specs.Code.{code_from}
use Rattle.points.specs.declared.block.Standing.{Standing}
use Rattle.points.specs.declared.block.Standing.TheVariants.{Outside, Illegal, Stands}
use Rattle.points.specs.Machine.{standing, code_standing, match_standing, ground_standing, matched}
use Rattle.points.specs.SmallMachine.{small_machine, small_encodings, small_setting, or_kinds, or_tests, or_binds, service_tests}
use Rattle.points.proofs.StepLaws.{HasShape, grounded-shape}

-- the site of an `or`
abbrev pub or_site : ℕ → ℕ → ℕ → ℕ → ℕ → Site
or_site a b c pc next = record { arguments = Number 5 a ∷ Number 13 b ∷ Number 5 c ∷ []; pc = pc; next = next }

-- the transfers of an `or`, with its numbers put in
abbrev pub or_transfers : Site → ℕ → List Transfer
or_transfers site b =
    record { guard = None; act = assigning (file_place small_machine site 0 2) (E.Bin Or (place_value (file_place small_machine site 0 0)) (E.Sext 32 (E.Const 13 b))) } ∷ []

abbrev pub service_transfers : List Transfer
service_transfers = record { guard = None; act = Act.Service } ∷ []

-- transfers of the small machine
pub data IsSmall (pc next : ℕ) : List Transfer → Type 0 where
  ors : (a b c : ℕ) → IsSmall pc next (or_transfers (or_site a b c pc next) b)
  serves : IsSmall pc next service_transfers

-- ---- operands

pub data AreOrOperands : Option (List Argument) → Type 0 where
  none : AreOrOperands None
  three : (a b c : ℕ) → AreOrOperands (Some (Number 5 a ∷ Number 13 b ∷ Number 5 c ∷ []))

abbrev Read : Type 0
Read = Option (List Argument × List ℕ)

-- with these operands before
abbrev with : List Argument → Read → Option (List Argument)
with before r = all_read (option_map (λ s. (before ++ s.0, s.1)) r)

module _ (chosen : Reader) where
  after_third : (a b c : ℕ) (leaves : List ℕ) → AreOrOperands (with (Number 5 a ∷ Number 13 b ∷ Number 5 c ∷ []) (operands_read chosen small_machine [] leaves))
  after_third a b c [] = three a b c
  after_third a b c (d ∷ leaves) = none

  after_second : (a b : ℕ) (leaves : List ℕ) → AreOrOperands (with (Number 5 a ∷ Number 13 b ∷ []) (operands_read chosen small_machine (Field 5 ∷ []) leaves))
  after_second a b [] = none
  after_second a b (c ∷ leaves) = by (nat_lt c (2 ^ 5)) (after_third a b c leaves)
    where
      by : (t : Bool) → AreOrOperands (with (Number 5 a ∷ Number 13 b ∷ Number 5 c ∷ []) (Some ([], leaves)))
          → AreOrOperands (with (Number 5 a ∷ Number 13 b ∷ []) (option_and_then (λ (r : Argument × List ℕ). option_map (λ s. (r.0 ∷ s.0, s.1)) (operands_read chosen small_machine [] r.1)) (if t then Some (Number 5 c, leaves) else None)))
      by true h = h
      by false h = none

  lift : (x : Argument) (before : List Argument) (r : Read) → AreOrOperands (with (before ++ x ∷ []) r) → AreOrOperands (with before (option_map (λ s. (x ∷ s.0, s.1)) r))
  lift x before None h = none
  lift x before (Some s) h = let e : (before ++ x ∷ []) ++ s.0 ≡ before ++ x ∷ s.0 = append_assoc before (x ∷ []) s.0 in subst (λ l. AreOrOperands (all_read (Some (l, s.1)))) e h

  after_first : (a : ℕ) (leaves : List ℕ) → AreOrOperands (with (Number 5 a ∷ []) (operands_read chosen small_machine (Field 13 ∷ Field 5 ∷ []) leaves))
  after_first a [] = none
  after_first a (b ∷ leaves) = by (nat_lt b (2 ^ 13))
    where
      by : (t : Bool) → AreOrOperands (with (Number 5 a ∷ []) (option_and_then (λ (r : Argument × List ℕ). option_map (λ s. (r.0 ∷ s.0, s.1)) (operands_read chosen small_machine (Field 5 ∷ []) r.1)) (if t then Some (Number 13 b, leaves) else None)))
      by true = lift (Number 13 b) (Number 5 a ∷ []) (operands_read chosen small_machine (Field 5 ∷ []) leaves) (after_second a b leaves)
      by false = none

  all-operands : (leaves : List ℕ) → AreOrOperands (all_read (operands_read chosen small_machine or_kinds leaves))
  all-operands [] = none
  all-operands (a ∷ leaves) = by (nat_lt a (2 ^ 5))
    where
      no-before : (r : Read) → AreOrOperands (with [] r) → AreOrOperands (all_read r)
      no-before None h = none
      no-before (Some s) h = h

      by : (t : Bool) → AreOrOperands (all_read (option_and_then (λ (r : Argument × List ℕ). option_map (λ s. (r.0 ∷ s.0, s.1)) (operands_read chosen small_machine (Field 13 ∷ Field 5 ∷ []) r.1)) (if t then Some (Number 5 a, leaves) else None)))
      by true =
          no-before (option_map (λ s. (Number 5 a ∷ s.0, s.1)) (operands_read chosen small_machine (Field 13 ∷ Field 5 ∷ []) leaves))
          (lift (Number 5 a) [] (operands_read chosen small_machine (Field 13 ∷ Field 5 ∷ []) leaves) (after_first a leaves))
      by false = none

-- ---- ground instructions

-- an instruction of the small machine, where there is one
abbrev pub IsSmallInst : ℕ → ℕ → Option GroundInst → Type 0
IsSmallInst pc next None = Unit {0}
IsSmallInst pc next (Some g) = IsSmall pc next g.transfers

-- with a list of operands that is there
some-operands : {A : Type 0} (P : Option A → Type 0) (f : List Argument → Option A) (o : Option (List Argument)) → AreOrOperands o → P None
    → ((a b c : ℕ) → P (f (Number 5 a ∷ Number 13 b ∷ Number 5 c ∷ []))) → P (option_and_then f o)
some-operands P f None h nothing each = nothing
some-operands P f (Some x) (three a b c) nothing each = each a b c

ground-or : (pc next : ℕ) (leaves : List ℕ) → IsSmallInst pc next (grounded small_machine (record { constructor = 0; leaves = leaves }) pc next)
unfolding grounded
ground-or pc next leaves =
    some-operands (IsSmallInst pc next) _ (operands_of small_machine pc next or_kinds leaves) (all-operands (chosen_read (length leaves) small_machine pc next) leaves) tt
    (λ a b c. simp ground_laws (ors a b c))

ground-service : (pc next : ℕ) (leaves : List ℕ) → IsSmallInst pc next (grounded small_machine (record { constructor = 1; leaves = leaves }) pc next)
unfolding grounded
ground-service pc next [] = serves
ground-service pc next (n ∷ leaves) = tt

no-form : (pc next c : ℕ) (leaves : List ℕ) → IsSmallInst pc next (grounded small_machine (record { constructor = suc (suc c); leaves = leaves }) pc next)
unfolding grounded
no-form pc next c leaves = tt

-- whatever was matched
pub ground-small : (pc next : ℕ) (inst : Inst) → IsSmallInst pc next (grounded small_machine inst pc next)
ground-small pc next inst = by inst.constructor inst.leaves
  where
    by : (c : ℕ) (leaves : List ℕ) → IsSmallInst pc next (grounded small_machine (record { constructor = c; leaves = leaves }) pc next)
    by zero leaves = ground-or pc next leaves
    by (suc zero) leaves = ground-service pc next leaves
    by (suc (suc c)) leaves = no-form pc next c leaves

-- ---- lengths

-- what the small machine takes is four bytes
abbrev IsFour : Option Taken → Type 0
IsFour None = Unit {0}
IsFour (Some t) = t.len ≡ 4

four-or : (o p : Option Taken) → IsFour o → IsFour p → IsFour (option_or o p)
four-or None p h k = k
four-or (Some t) p h k = h

-- one item of one word, as a constructor
four-word : (c : ℕ) (tests : List Test) (binds : List Bind) (o : Option ℕ)
    → IsFour (option_map (λ (r : List ℕ × ℕ). let t : Taken = record { constructor = c; leaves = r.0; len = r.1 } in t)
    (option_or (option_map (λ (r : List (List ℕ) × ℕ). (joined r.0, r.1)) (option_and_then (λ (r : List (List ℕ) × ℕ). Some (r.0, 0 + r.1)) (option_and_then (λ tok. if list_all (holds tok) tests then Some (bound tok binds (replicate 8 []), 32 / 8) else None) o))) None))
four-word c tests binds None = tt
four-word c tests binds (Some tok) = by (list_all (holds tok) tests)
  where
    by : (t : Bool) → IsFour (option_map (λ (r : List ℕ × ℕ). let t : Taken = record { constructor = c; leaves = r.0; len = r.1 } in t)
        (option_or (option_map (λ (r : List (List ℕ) × ℕ). (joined r.0, r.1)) (option_and_then (λ (r : List (List ℕ) × ℕ). Some (r.0, 0 + r.1)) (if t then Some (bound tok binds (replicate 8 []), 32 / 8) else None))) None))
    by true = refl
    by false = tt

pub instruction-four : (bytes : List ℕ) → IsFour (instruction small_encodings bytes)
unfolding type_taken
instruction-four bytes = four-or _ _ (four-word 0 or_tests or_binds (token Big 32 bytes)) (four-or _ None (four-word 1 service_tests [] (token Big 32 bytes)) tt)

-- ---- what stands

-- an instruction of the small machine that goes on four bytes further
pub record IsSmallAt (pc : ℕ) (inst : GroundInst) : Type 0 where
  pub small : IsSmall pc inst.next inst.transfers
  pub next : inst.next ≡ (pc + 4) % 2 ^ 32

abbrev IsSmallStanding : ℕ → Standing → Type 0
IsSmallStanding pc Outside = Unit {0}
IsSmallStanding pc Illegal = Unit {0}
IsSmallStanding pc (Stands inst) = IsSmallAt pc inst

ground-at : (pc c next : ℕ) (o : Option GroundInst) → next ≡ (pc + 4) % 2 ^ 32 → IsSmallInst pc next o → HasShape c next o → IsSmallStanding pc (ground_standing o)
ground-at pc c next None e h k = tt
ground-at pc c next (Some g) e h k = record { small = subst (λ n. IsSmall pc n g.transfers) (sym k.1) h; next = k.1 ∙ e }

match-at : (pc : ℕ) (o : Option Taken) → IsFour o → IsSmallStanding pc (match_standing small_machine pc o)
match-at pc None h = tt
match-at pc (Some t) h =
    let next = (pc + t.len) % 2 ^ 32 in
    let inst : Inst = record { constructor = t.constructor; leaves = t.leaves } in
    ground-at pc t.constructor next (matched small_machine pc t) (ap (λ n. (pc + n) % 2 ^ 32) h) (ground-small pc next inst) (grounded-shape small_machine inst pc next)

code-at : (code : List ℕ) (pc : ℕ) (o : Option (List ℕ)) → IsSmallStanding pc (code_standing (small_setting code) pc o)
code-at code pc None = tt
code-at code pc (Some bytes) = match-at pc (instruction small_encodings bytes) (instruction-four bytes)

-- what stands anywhere in a program of the small machine
pub standing-small : (code : List ℕ) (pc : ℕ) (inst : GroundInst) → standing (small_setting code) pc ≡ Stands inst → IsSmallAt pc inst
standing-small code pc inst e = let s = small_setting code in subst (IsSmallStanding pc) e (code-at code pc (code_from s.frozen pc))
