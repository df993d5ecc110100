-- Where the address behind an instruction lies.
use Rattle.std.proofs.Common.{◌≡◌, ℕ, ◌+◌, ◌%◌, ◌^◌, ◌<◌, ◌≤◌, Bool, true, false, List, Option, Some, None, IfSome, if◌then◌else◌, refl, sym, ◌∙◌, subst, arith}
use Rattle.std.proofs.Math.Nat.{mod-lt}
use Rattle.std.proofs.lemmas.Nat.{pow_pos}
use Rattle.rtl_core.specs.declared.conv.Conv.{Conv}
use Rattle.rtl_core.specs.declared.inst.GroundInst.{GroundInst}
use Rattle.rtl_core.specs.declared.machine.Machine.{Machine}
use Rattle.rtl_core.specs.Code.{code_from}
use Rattle.rtl_core.specs.Matching.{Taken, instruction}
use Rattle.rtl_core.specs.SoundEncodings.{IsSoundEncodings}
use Rattle.points.specs.Kinds.{is_named, behind_pad, second}
use Rattle.points.specs.MatchLengths.{IsLength, IsBehind, AreApart, NextIsBehind, SecondIsBehind}
use Rattle.points.specs.declared.block.Standing.{Standing}
use Rattle.points.specs.declared.block.Standing.TheVariants.{Outside, Illegal, Stands}
use Rattle.points.specs.Machine.{Setting, standing, code_standing, match_standing, ground_standing, matched}
use Rattle.points.proofs.MatchLengths.{match_lengths}
use Rattle.points.proofs.StepLaws.{HasShape, grounded-shape}

-- the address behind an instruction that stands at an address
abbrev IsBehindStanding : ℕ → Standing → Type 0
IsBehindStanding pc Outside = Unit {0}
IsBehindStanding pc Illegal = Unit {0}
IsBehindStanding pc (Stands inst) = IsBehind pc inst.next

behind-ground : (pc bytes c : ℕ) (o : Option GroundInst) → IsLength bytes → HasShape c ((pc + bytes) % 2 ^ 32) o → IsBehindStanding pc (ground_standing o)
behind-ground pc bytes c None long shape = tt
behind-ground pc bytes c (Some g) long shape = record { bytes = bytes; length = long; is = shape.1 }

behind-match : (m : Machine) (pc : ℕ) (o : Option Taken) → IfSome o (λ t. IsLength t.len) → IsBehindStanding pc (match_standing m pc o)
behind-match m pc None h = tt
behind-match m pc (Some t) h =
    behind-ground pc t.len t.constructor (matched m pc t) h (grounded-shape m (record { constructor = t.constructor; leaves = t.leaves }) pc ((pc + t.len) % 2 ^ 32))

lengths : (setting : Setting) (bytes : List ℕ) (o : Option Taken) → IsSoundEncodings setting.encodings → instruction setting.encodings bytes ≡ o → IfSome o (λ t. IsLength t.len)
lengths setting bytes None sound e = tt
lengths setting bytes (Some t) sound e = match_lengths setting.encodings bytes t sound e

behind-code : (setting : Setting) (pc : ℕ) (o : Option (List ℕ)) → IsSoundEncodings setting.encodings → IsBehindStanding pc (code_standing setting pc o)
behind-code setting pc None sound = tt
behind-code setting pc (Some bytes) sound =
    behind-match setting.machine pc (instruction setting.encodings bytes) (lengths setting bytes (instruction setting.encodings bytes) sound refl)

behind-standing : (setting : Setting) (pc : ℕ) → IsSoundEncodings setting.encodings → IsBehindStanding pc (standing setting pc)
behind-standing setting pc sound = behind-code setting pc (code_from setting.frozen pc) sound

-- an address behind another is another
not-itself : (a n : ℕ) → 1 ≤ n → n ≤ 32 → (a + n) % 2 ^ 32 ≡ a → ⊥
not-itself a n some few e = omega arith

apart : (a b : ℕ) → IsBehind a b → AreApart a b
apart a b h =
    (λ e. not-itself a h.bytes h.length.some h.length.few (sym h.is ∙ e), let P : ℕ → Type 0 = λ k. k < 2 ^ 32 in subst P (sym h.is) (mod-lt (a + h.bytes) (pow_pos 32)))

pub next_is_behind : NextIsBehind
next_is_behind setting pc inst sound e = let h = subst (IsBehindStanding pc) e (behind-standing setting pc sound) in (h, apart pc inst.next h)

behind-pad : (conv : Conv) (r : ℕ) (stands : Standing) → IsBehindStanding r stands → IfSome (behind_pad conv stands) (λ s. IsBehind r s)
behind-pad conv r Outside h = tt
behind-pad conv r Illegal h = tt
behind-pad conv r (Stands inst) h = by (is_named conv.pads inst.constructor)
  where
    by : (b : Bool) → IfSome (if b then Some inst.next else None) (λ s. IsBehind r s)
    by true = h
    by false = tt

pub second_is_behind : SecondIsBehind
unfolding second
second_is_behind setting r s sound e =
    let P : Option ℕ → Type 0 = λ o. IfSome o (λ s. IsBehind r s) in
    let h : IsBehind r s = subst P e (behind-pad setting.conv r (standing setting r) (behind-standing setting r sound)) in
    (h, apart r s h)
