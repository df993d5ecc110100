-- How a step of the machine computes.
use Rattle.std.proofs.Common.{◌≡◌, ℕ, ◌+◌, ◌^◌, ◌%◌, ◌<◌, List, Option, Some, None, false, refl, sym, subst}
use Rattle.std.specs.Prelude.{option_map, option_and_then, slice_get}
use Rattle.std.proofs.Math.Nat.{mod-lt}
use Rattle.std.proofs.lemmas.Nat.{pow_pos}
use Rattle.lockstep.specs.Runs.{Goes}
use Rattle.rtl_core.specs.declared.inst.GroundInst.{GroundInst}
use Rattle.rtl_core.specs.declared.inst.Inst.{Inst}
use Rattle.rtl_core.specs.declared.machine.Machine.{Machine}
use Rattle.rtl_core.specs.Code.{code_from}
use Rattle.rtl_core.specs.Grounding.{grounded, operands_of, template_transfers}
use Rattle.rtl_core.specs.Matching.{Taken, instruction}
use Rattle.points.specs.declared.block.Standing.{Standing}
use Rattle.points.specs.declared.block.Standing.TheVariants.{Outside, Illegal, Stands}
use Rattle.points.specs.Machine.{State, Setting, Did, matched, standing, code_standing, match_standing, ground_standing, step, performed, controlled, at_address}

-- where an instruction is matched and all is put in, the step performs it
pub step-inst : (setting : Setting) (s : State) (bytes : List ℕ) (t : Taken) (inst : GroundInst) → code_from setting.frozen s.point.pc ≡ Some bytes
    → instruction setting.encodings bytes ≡ Some t → matched setting.machine s.point.pc t ≡ Some inst → step setting s ≡ performed setting inst s
step-inst setting s bytes t inst code found ground = rw (code, found, ground)

-- an instruction that neither jumps nor annuls goes on behind itself
pub controlled-goes : (setting : Setting) (did : Did) (s : State) → did.jump ≡ None → did.annul ≡ false → controlled setting did s ≡ Goes (at_address s did.inst.next)
controlled-goes setting did s jump annul = rw (jump, annul)

-- what an instruction with all put in keeps of the one that was matched, and the address behind it
abbrev pub HasShape : ℕ → ℕ → Option GroundInst → Type 0
HasShape c next None = Unit {0}
HasShape c next (Some g) = (g.constructor ≡ c) × (g.next ≡ next)

and_then-shape : {A : Type 0} (c next : ℕ) (o : Option A) (f : A → Option GroundInst) → ((x : A) → HasShape c next (f x)) → HasShape c next (option_and_then f o)
and_then-shape c next None f h = tt
and_then-shape c next (Some x) f h = h x

map-shape : {A : Type 0} (c next : ℕ) (o : Option A) (f : A → GroundInst) → ((x : A) → HasShape c next (Some (f x))) → HasShape c next (option_map f o)
map-shape c next None f h = tt
map-shape c next (Some x) f h = h x

pub grounded-shape : (m : Machine) (inst : Inst) (pc next : ℕ) → HasShape inst.constructor next (grounded m inst pc next)
unfolding grounded
grounded-shape m inst pc next =
    let c = inst.constructor in
    and_then-shape c next (slice_get m.forms c) _ (λ form. and_then-shape c next (operands_of m pc next form.kinds inst.leaves) _
    (λ arguments. map-shape c next (template_transfers m (record { arguments = arguments; pc = pc; next = next }) form.template) _ (λ ts. (refl, refl))))

-- the address behind an instruction has 32 bits
abbrev NextFits : Standing → Type 0
NextFits Outside = Unit {0}
NextFits Illegal = Unit {0}
NextFits (Stands inst) = inst.next < 2 ^ 32

ground-fits : (c next : ℕ) (o : Option GroundInst) → next < 2 ^ 32 → HasShape c next o → NextFits (ground_standing o)
ground-fits c next None lt h = tt
ground-fits c next (Some g) lt h = let P : ℕ → Type 0 = λ n. n < 2 ^ 32 in subst P (sym h.1) lt

match-fits : (m : Machine) (pc : ℕ) (o : Option Taken) → NextFits (match_standing m pc o)
match-fits m pc None = tt
match-fits m pc (Some t) =
    let next = (pc + t.len) % 2 ^ 32 in
    ground-fits t.constructor next (matched m pc t) (mod-lt (pc + t.len) (pow_pos 32)) (grounded-shape m (record { constructor = t.constructor; leaves = t.leaves }) pc next)

code-fits : (setting : Setting) (pc : ℕ) (o : Option (List ℕ)) → NextFits (code_standing setting pc o)
code-fits setting pc None = tt
code-fits setting pc (Some bytes) = match-fits setting.machine pc (instruction setting.encodings bytes)

pub standing-next : (setting : Setting) (pc : ℕ) (inst : GroundInst) → standing setting pc ≡ Stands inst → inst.next < 2 ^ 32
standing-next setting pc inst e = subst NextFits e (code-fits setting pc (code_from setting.frozen pc))
