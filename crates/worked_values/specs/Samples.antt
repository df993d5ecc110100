-- Two small encodings: in one, two constructors match the same bytes; in the other an operand is of a type.
use Rattle.std.specs.Prelude.{ℕ, List, [], ◌∷◌, Option, Some, None, true, codes}
use Rattle.rtl_core.specs.declared.encodings.Coded.{Coded}
use Rattle.rtl_core.specs.declared.encodings.Encodings.{Encodings}
use Rattle.rtl_core.specs.declared.encodings.Item.{Item}
use Rattle.rtl_core.specs.declared.encodings.OperandKind.{OperandKind}
use Rattle.rtl_core.specs.declared.encodings.OperandKind.TheVariants.{Field, Typed}
use Rattle.rtl_core.specs.declared.encodings.Test.{Test}
use Rattle.rtl_core.specs.declared.expr.Order.TheVariants.{Big}

-- a token whose bits from lo to hi are a value
abbrev pub token_with : ℕ → ℕ → ℕ → ℕ → Item
token_with bits lo hi value =
    record { bits = bits; tests = record { lo = lo; hi = hi; equal = true; value = value } ∷ []; binds = []; typed = None }

-- a constructor of one alternative
abbrev pub one_way : List ℕ → List OperandKind → List Item → Coded
one_way name kinds items = record { name = name; kinds = kinds; alternatives = items ∷ [] }

-- words whose two top bits are 0, and the word 0x01000000, which is one of them
abbrev pub overlapping : Encodings
overlapping = record {
  order = Big;
  constructors = one_way (codes "A") [] (token_with 32 30 31 0 ∷ []) ∷ one_way (codes "B") [] (token_with 32 0 31 0x01000000 ∷ []) ∷ [];
  types = (0 ∷ 1 ∷ []) ∷ [];
}

-- a register is a byte; a push is the byte 0x50 and a register
abbrev pub nested : Encodings
nested = record {
  order = Big;
  constructors =
      one_way (codes "R") (Field 8 ∷ []) (record { bits = 8; tests = []; binds = record { lo = 0; hi = 7; operand = 0 } ∷ []; typed = None } ∷ [])
      ∷ one_way (codes "P") (Typed 1 ∷ []) (token_with 8 0 7 0x50 ∷ record { bits = 0; tests = []; binds = []; typed = Some (record { kind = 1; operand = 0 }) } ∷ [])
      ∷ [];
  types = (1 ∷ []) ∷ (0 ∷ []) ∷ [];
}
