-- The bytes that no store changes, and those of them that are code.
use Rattle.std.specs.Prelude.{ℕ, ◌+◌, ◌-◌, ◌&&◌, nat_le, nat_lt, Bool, if◌then◌else◌, List, [], ◌∷◌, length, drop, slice_get, is_some, Option, Some, None}
use Rattle.rtl_core.specs.declared.frozen.Frozen.{Frozen}
use Rattle.rtl_core.specs.declared.frozen.FrozenPart.{FrozenPart}

-- whether an address lies in a part
abbrev pub is_in : FrozenPart → ℕ → Bool
is_in p a = nat_le p.base a && nat_lt a (p.base + length p.bytes)

-- the first part in which an address lies
abbrev pub part_of : List FrozenPart → ℕ → Option FrozenPart
part_of [] a = None
part_of (p ∷ ps) a = if is_in p a then Some p else part_of ps a

-- the byte of a part at an address
abbrev pub byte_in : ℕ → Option FrozenPart → Option ℕ
byte_in a None = None
byte_in a (Some p) = slice_get p.bytes (a - p.base)

-- the frozen byte at an address
unfoldable pub frozen_byte : Frozen → ℕ → Option ℕ
frozen_byte f a = byte_in a (part_of f.parts a)

-- the bytes of a code part from an address to its end
abbrev pub rest_in : ℕ → Option FrozenPart → Option (List ℕ)
rest_in a None = None
rest_in a (Some p) = if p.code then Some (drop (a - p.base) p.bytes) else None

-- the bytes of code from an address to the end of its part
unfoldable pub code_from : Frozen → ℕ → Option (List ℕ)
code_from f a = rest_in a (part_of f.parts a)

-- whether an address is code
abbrev pub is_code : Frozen → ℕ → Bool
is_code f a = is_some (code_from f a)
