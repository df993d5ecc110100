-- A constructor is read as an operand, and an instruction's operands are read whole.
use Rattle.std.proofs.Common.{◌≡◌, ℕ, zero, suc, ◌-◌, ◌<◌, ◌≤◌, List, length, drop, map, None, Some, sym, ◌∙◌, arith, slice_get, option_map, option_and_then}
use Rattle.std.proofs.lemmas.List.{drop_more, drop_all}
use Rattle.rtl_core.specs.Grounding.{Argument, operands_read, chosen_read, template_argument, all_read}
use Rattle.rtl_core.specs.GroundData.{argument_of}
use Rattle.rtl_core.specs.declared.machine.Machine.{Machine}
use Rattle.rtl_core.specs.declared.machine.Form.{Form}
use Rattle.rtl_core.specs.declared.site.Argument.{Argument as CodeArgument}

-- a constructor that is there
chosen_read-there : (deep : ℕ) (m : Machine) (pc next c : ℕ) (leaves : List ℕ) (form : Form) → 0 < deep → slice_get m.forms c ≡ Some form
    → chosen_read deep m pc next c leaves
    ≡ option_and_then (λ r. option_map (λ a. (a, r.1)) (template_argument m (record { arguments = r.0; pc = pc; next = next }) form.template))
    (operands_read (chosen_read (deep - 1) m pc next) m form.kinds leaves)
unfolding chosen_read
chosen_read-there zero m pc next c leaves form h e = absurd (omega arith)
chosen_read-there (suc d) m pc next c leaves form h e = let p : d ≡ suc d - 1 = omega arith in rw (e, ← p)

-- it stands for what its template does, with its own operands put in
pub chosen_step : (deep : ℕ) (m : Machine) (pc next c : ℕ) (leaves : List ℕ) (form : Form) (arguments : List CodeArgument) (used : ℕ) (a : CodeArgument)
    → 0 < deep → slice_get m.forms c ≡ Some form
    → Some (map argument_of arguments, drop used leaves) ≡ operands_read (chosen_read (deep - 1) m pc next) m form.kinds leaves
    → Some (argument_of a) ≡ template_argument m (record { arguments = map argument_of arguments; pc = pc; next = next }) form.template
    → Some (argument_of a, drop used leaves) ≡ chosen_read deep m pc next c leaves
chosen_step deep m pc next c leaves form arguments used a h e operands argument =
    sym (chosen_read-there deep m pc next c leaves form h e ∙ rw (← operands, ← argument))

-- nothing is left
pub all_read-whole : (arguments : List Argument) (leaves : List ℕ) (used : ℕ) → length leaves ≤ used → all_read (Some (arguments, drop used leaves)) ≡ Some arguments
all_read-whole arguments leaves used h = rw (drop_all used leaves h)

-- numbers are left
pub all_read-left : (arguments : List Argument) (leaves : List ℕ) (used : ℕ) → used < length leaves → all_read (Some (arguments, drop used leaves)) ≡ None
all_read-left arguments leaves used h = rw (drop_more leaves used 0 h)

pub ruleset all_read_steps = (all_read-whole, all_read-left)
