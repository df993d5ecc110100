-- The code from an address on is short where its parts are.
use Rattle.std.proofs.Common.{◌≡◌, ℕ, ◌-◌, ◌^◌, ◌<◌, List, [], ◌∷◌, length, drop, Option, None, Some, All, IfSome, Bool, true, false, sym, subst, arith, if◌then◌else◌}
use Rattle.std.proofs.lemmas.List.{length-drop}
use Rattle.std.proofs.lemmas.List.Elements.{All-head, All-tail}
use Rattle.rtl_core.specs.declared.frozen.Frozen.{Frozen}
use Rattle.rtl_core.specs.declared.frozen.FrozenPart.{FrozenPart}
use Rattle.rtl_core.specs.Code.{is_in, part_of, rest_in, code_from}
use Rattle.decode.specs.At.{AreShort}

-- a part has fewer than 2^32 bytes
abbrev IsShort : FrozenPart → Type 0
IsShort p = length p.bytes < 2 ^ 32

part_short : (parts : List FrozenPart) (a : ℕ) → All IsShort parts → IfSome (part_of parts a) IsShort
part_short [] a h = tt
part_short (p ∷ ps) a h = chosen (is_in p a) (All-head IsShort p ps h) (part_short ps a (All-tail IsShort p ps h))
  where
    chosen : (b : Bool) → IsShort p → IfSome (part_of ps a) IsShort → IfSome (if b then Some p else part_of ps a) IsShort
    chosen true here rest = here
    chosen false here rest = rest

rest_short : (a : ℕ) (part : Option FrozenPart) → IfSome part IsShort → IfSome (rest_in a part) (λ bytes. length bytes < 2 ^ 32)
rest_short a None h = tt
rest_short a (Some p) h = chosen p.code
  where
    chosen : (b : Bool) → IfSome (if b then Some (drop (a - p.base) p.bytes) else None) (λ bytes. length bytes < 2 ^ 32)
    chosen true = omega (arith, length-drop (a - p.base) p.bytes, h)
    chosen false = tt

-- the bytes of code from an address on are fewer than 2^32
pub code_short : (f : Frozen) (a : ℕ) (bytes : List ℕ) → AreShort f → code_from f a ≡ Some bytes → length bytes < 2 ^ 32
unfolding code_from
code_short f a bytes h e =
    let P : Option (List ℕ) → Type 0 = λ o. IfSome o (λ bs. length bs < 2 ^ 32) in subst P e (rest_short a (part_of f.parts a) (part_short f.parts a h))
