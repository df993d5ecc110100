-- What stands at the addresses of a program of the worked machine.
use Rattle.std.proofs.Common.{◌≡◌, ℕ, ◌+◌, ◌^◌, Bool, true, List, [], ◌∷◌, drop, Option, Some, None, ap, ◌∙◌}
use Rattle.std.specs.Prelude.{get_or, map, nat_lt, option_and_then}
use Rattle.std.specs.List.{list_all}
use Rattle.std.proofs.lemmas.Bool.{and_parts}
use Rattle.rtl_core.specs.Code.{code_from}
use Rattle.rtl_core.specs.Grounding.{grounded, chosen_read}
use Rattle.rtl_core.specs.Matching.{Taken, instruction}
use Rattle.rtl_core.proofs.GroundLaws.{ground_laws}
use Rattle.points.specs.Machine.{code_standing, ground_standing, matched}
use Rattle.worked_control.specs.WorkedMachine.{Op, note, stop, aim, link, flag, jump, jump_annul, branch, branch_annul, go, call, call_aim, ret, ret_past, pad, constructor_of, constant_of, encodings, machine, Program, setting_of}
use Rattle.worked_control.proofs.Computed.{inst_of, Placed}

-- what is matched where an instruction stands
abbrev pub taken_of : Op → Taken
taken_of op = record { constructor = constructor_of op; leaves = constant_of op ∷ []; len = 4 }

abbrev pub is_small : Op → Bool
is_small op = nat_lt (constant_of op) (2 ^ 16)

ground-op : (delay : Option ℕ) (pc : ℕ) (op : Op) → is_small op ≡ true → matched (machine delay) pc (taken_of op) ≡ Some (inst_of delay pc op)
unfolding grounded chosen_read
ground-op delay pc (note n) h = rw h (simp ground_laws)
ground-op delay pc stop h = simp ground_laws
ground-op delay pc (aim n) h = rw h (simp ground_laws)
ground-op delay pc (link n) h = rw h (simp ground_laws)
ground-op delay pc (flag n) h = rw h (simp ground_laws)
ground-op delay pc (jump n) h = rw h (simp ground_laws)
ground-op delay pc (jump_annul n) h = rw h (simp ground_laws)
ground-op delay pc (branch n) h = rw h (simp ground_laws)
ground-op delay pc (branch_annul n) h = rw h (simp ground_laws)
ground-op delay pc go h = simp ground_laws
ground-op delay pc (call n) h = rw h (simp ground_laws)
ground-op delay pc call_aim h = simp ground_laws
ground-op delay pc ret h = simp ground_laws
ground-op delay pc ret_past h = simp ground_laws
ground-op delay pc pad h = simp ground_laws

-- what is matched at the addresses of some instructions, the first at an address
abbrev pub matches : Program → ℕ → List Op → List (Option Taken)
matches p a [] = []
matches p a (op ∷ ops) = option_and_then (instruction encodings) (code_from (setting_of p).frozen a) ∷ matches p (a + 4) ops

-- what is matched in bytes stands there
stands-from : (p : Program) (a : ℕ) (t : Taken) (bytes : Option (List ℕ)) → option_and_then (instruction encodings) bytes ≡ Some t
    → code_standing (setting_of p) a bytes ≡ ground_standing (matched (machine p.delay) a t)
stands-from p a t None e = absurd (let z : None ≡ Some t = e in cc)
stands-from p a t (Some bytes) e = let found : instruction encodings bytes ≡ Some t = e in rw found

pub placed : (p : Program) (a : ℕ) (ops : List Op) → list_all is_small ops ≡ true → matches p a ops ≡ map (λ op. Some (taken_of op)) ops → Placed p a ops
placed p a [] small e = tt
placed p a (op ∷ ops) small e =
    let parts = and_parts (is_small op) (list_all is_small ops) small in (
      stands-from p a (taken_of op) (code_from (setting_of p).frozen a) (ap (λ l. get_or l 0 None) e) ∙ ap ground_standing (ground-op p.delay a op parts.0),
      placed p (a + 4) ops parts.1 (ap (drop 1) e),
    )
