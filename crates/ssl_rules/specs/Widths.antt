-- Widths: which numbers are in range, and which two widths that must agree are the first to differ.
use Rattle.std.specs.Prelude.{ℕ, ◌+◌, ◌-◌, ◌^◌, ◌==◌, nat_lt, nat_le, ◌&&◌, Bool, true, is_some, if◌then◌else◌, List, [], ◌∷◌, length, slice_get, unwrap_or, Option, Some, None, option_map, option_and_then}
use Rattle.std.specs.Option.{option_or}
use Rattle.std.specs.List.{list_all}
use Rattle.ssl_syntax.specs.declared.line.CellName.{CellName}
use Rattle.ssl_syntax.specs.declared.line.SslExpr.{SslExpr, fold-SslExpr, map-SslExpr}
use Rattle.ssl_syntax.specs.declared.line.SslExpr.TheOpen.{SslExpr-F}
use Rattle.ssl_syntax.specs.declared.line.SslPlace.{SslPlace}
use Rattle.ssl_syntax.specs.declared.line.SslPlace.TheVariants as place
use Rattle.ssl_syntax.specs.declared.line.SslAct.{SslAct}
use Rattle.ssl_syntax.specs.declared.line.SslAct.TheVariants as act
use Rattle.ssl_syntax.specs.declared.line.SslTransfer.{SslTransfer}
use Rattle.rtl_core.specs.declared.machine.CellPart.{CellPart}
use Rattle.rtl_core.specs.Arithmetic.{result_width}
use Rattle.rtl_core.specs.SoundTemplates.{part_width, file_width}
use Rattle.ssl_rules.specs.declared.tables.Own.TheVariants.{Field, Typed, Param}
use Rattle.ssl_rules.specs.declared.tables.Lone.{Lone}
use Rattle.ssl_rules.specs.declared.tables.Lone.TheVariants as lone
use Rattle.ssl_rules.specs.declared.tables.Function.{Function}
use Rattle.ssl_rules.specs.declared.tables.Tables.{Tables}
use Rattle.ssl_rules.specs.declared.widths.Mismatch.{Mismatch}
use Rattle.ssl_rules.specs.declared.widths.Measure.{Measure}
use Rattle.ssl_rules.specs.Operators.{operator}
use Rattle.ssl_rules.specs.Names.{Scope, parts_named, part_named, function_named, cell_number, field_named, lone_named}

-- ---- ranges

-- a value has 1 to 64 bits
abbrev pub is_width : ℕ → Bool
is_width w = nat_le 1 w && nat_le w 64

-- a width, where it is in range
abbrev pub in_width : ℕ → Option ℕ
in_width w = if is_width w then Some w else None

-- a delay is of 1 to 32 bytes, where there is one
abbrev pub is_delay : Option ℕ → Bool
is_delay None = true
is_delay (Some bytes) = nat_le 1 bytes && nat_le bytes 32

-- the width of the bits lo to hi of something of w bits
abbrev pub slice_width : ℕ → ℕ → ℕ → Option ℕ
slice_width lo hi w = if nat_le lo hi && nat_lt hi w then Some (hi + 1 - lo) else None

-- the width of a constant that fits it
abbrev pub constant_width : ℕ → ℕ → Option ℕ
constant_width value w = if is_width w && nat_lt value (2 ^ w) then Some w else None

-- the width of an extension of something of v bits
abbrev pub extended_width : ℕ → ℕ → Option ℕ
extended_width w v = if nat_le v w && is_width w then Some w else None

-- ---- the widths of names

abbrev pub cell_width : Tables → ℕ → ℕ
cell_width t c = unwrap_or (slice_get t.widths c) 0

-- a CELL, and bits of one
abbrev pub cell_bits : Tables → CellName → Option ℕ
cell_bits t cell = option_map (cell_width t) (cell_number t cell)

abbrev pub cell_slice : Tables → CellName → ℕ → ℕ → Option ℕ
cell_slice t cell lo hi = option_and_then (slice_width lo hi) (cell_bits t cell)

abbrev pub lone_width : Tables → Lone → Option ℕ
lone_width t (lone.Cell c) = Some (cell_width t c)
lone_width t (lone.Own (Field k w)) = Some w
lone_width t (lone.Own (Typed k stands)) = Some stands.width
lone_width t (lone.Own (Param k w)) = in_width w

-- NAME [ NUMBER ]
abbrev pub at_width : Tables → List ℕ → ℕ → Option ℕ
at_width t name index = option_and_then (λ p. in_width (part_width p)) (part_named t name index)

-- NAME [ OP ]: the field's greatest value is an index of the file
abbrev pub indexed_width : List CellPart → ℕ × ℕ → Option ℕ
indexed_width parts field = if nat_le (2 ^ field.1) (length parts) then in_width (file_width (Some parts)) else None

abbrev pub at_op_width : Scope → List ℕ → List ℕ → Option ℕ
at_op_width s name op = option_and_then (λ parts. option_and_then (indexed_width parts) (field_named s op)) (parts_named s.tables name)

-- ---- expressions

-- the second, where both are there
abbrev pub behind : Option ℕ → Option ℕ → Option ℕ
behind first second = option_and_then (λ _. second) first

-- the width of a call, where the arguments are in range
abbrev pub called_width : Bool → Function → Option ℕ
called_width ranged f = if ranged then Some f.width else None

-- the width of a node, from those of its parts; none where a number is out of range. Where parts differ, the left
-- side of an operator and the first branch of a choice count
abbrev pub node_width : Scope → SslExpr-F (Option ℕ) → Option ℕ
node_width s (SslExpr-F.Number value width) = constant_width value width
node_width s (SslExpr-F.Named name) = option_and_then (lone_width s.tables) (lone_named s name)
node_width s (SslExpr-F.At name index) = at_width s.tables name index
node_width s (SslExpr-F.AtOp name op) = at_op_width s name op
node_width s (SslExpr-F.Load bits a) = option_map (λ _. bits) a
node_width s (SslExpr-F.Not a) = a
node_width s (SslExpr-F.Neg a) = a
node_width s (SslExpr-F.Bin op a b) = behind b (option_map (result_width (operator op)) a)
node_width s (SslExpr-F.Bits a lo hi) = option_and_then (slice_width lo hi) a
node_width s (SslExpr-F.Zext width a) = option_and_then (extended_width width) a
node_width s (SslExpr-F.Sext width a) = option_and_then (extended_width width) a
node_width s (SslExpr-F.If c a b) = behind c (behind b a)
node_width s (SslExpr-F.Call name args) = option_and_then (called_width (list_all is_some args)) (function_named s.tables name)
node_width s SslExpr-F.Pc = Some 32
node_width s SslExpr-F.Next = Some 32

-- a width that its place asks for, and one that is there
abbrev pub asked : ℕ → Option ℕ → Option Mismatch
asked want None = None
asked want (Some width) = if width == want then None else Some (record { left = want; right = width })

-- two widths of which none is asked for
abbrev pub paired : Option ℕ → Option ℕ → Option Mismatch
paired None second = None
paired (Some width) second = asked width second

-- arguments, each against its parameter's width, as soon as it is read
abbrev pub args_differ : List ℕ → List Measure → Option Mismatch
args_differ (w ∷ ws) (m ∷ ms) = option_or m.differs (option_or (asked w m.width) (args_differ ws ms))
args_differ _ _ = None

abbrev pub call_differs : Option Function → List Measure → Option Mismatch
call_differs None args = None
call_differs (Some f) args = args_differ f.params args

-- the first two widths of a node that differ: from left to right, a width that a place asks for as soon as the part
-- is read, two that must agree behind both
abbrev pub node_differs : Scope → SslExpr-F Measure → Option Mismatch
node_differs s (SslExpr-F.Load bits a) = option_or a.differs (asked 32 a.width)
node_differs s (SslExpr-F.Not a) = a.differs
node_differs s (SslExpr-F.Neg a) = a.differs
node_differs s (SslExpr-F.Bin op a b) = option_or a.differs (option_or b.differs (paired a.width b.width))
node_differs s (SslExpr-F.Bits a lo hi) = a.differs
node_differs s (SslExpr-F.Zext width a) = a.differs
node_differs s (SslExpr-F.Sext width a) = a.differs
node_differs s (SslExpr-F.If c a b) =
    option_or c.differs (option_or (asked 1 c.width) (option_or a.differs (option_or b.differs (paired a.width b.width))))
node_differs s (SslExpr-F.Call name args) = call_differs (function_named s.tables name) args
node_differs s _ = None

-- the width of an expression, and the first two widths in it that differ
abbrev pub node_measured : Scope → SslExpr-F Measure → Measure
node_measured s node = record { width = node_width s (map-SslExpr Measure (Option ℕ) (λ m. m.width) node); differs = node_differs s node }

abbrev pub measured : Scope → SslExpr → Measure
measured s = fold-SslExpr Measure (node_measured s)

-- an expression whose place asks for a width
abbrev pub asked_of : ℕ → Measure → Option Mismatch
asked_of want m = option_or m.differs (asked want m.width)

-- ---- places, acts and transfers

abbrev pub place_measured : Scope → SslPlace → Measure
place_measured s (place.Named name) = record { width = option_and_then (lone_width s.tables) (lone_named s name); differs = None }
place_measured s (place.At name index) = record { width = at_width s.tables name index; differs = None }
place_measured s (place.AtOp name op) = record { width = at_op_width s name op; differs = None }
place_measured s (place.Bits cell lo hi) = record { width = cell_slice s.tables cell lo hi; differs = None }
place_measured s (place.Load bits address) =
    record { width = option_map (λ _. bits) (measured s address).width; differs = asked_of 32 (measured s address) }

-- the numbers of an act are in range
abbrev pub is_act_in_range : Scope → SslAct → Bool
is_act_in_range s (act.Assign width to value) = is_width width && (is_some (place_measured s to).width && is_some (measured s value).width)
is_act_in_range s (act.Jump target) = is_some (measured s target).width
is_act_in_range s (act.Trap number) = is_some (measured s number).width
is_act_in_range s _ = true

-- the place first, then the value, each against the width of the assignment where that is in range
abbrev pub act_differs : Scope → SslAct → Option Mismatch
act_differs s (act.Assign width to value) =
    if is_width width then option_or (asked_of width (place_measured s to)) (asked_of width (measured s value)) else None
act_differs s (act.Jump target) = asked_of 32 (measured s target)
act_differs s (act.Trap number) = asked_of 32 (measured s number)
act_differs s _ = None

abbrev pub is_guard_in_range : Scope → Option SslExpr → Bool
is_guard_in_range s None = true
is_guard_in_range s (Some guard) = is_some (measured s guard).width

abbrev pub guard_differs : Scope → Option SslExpr → Option Mismatch
guard_differs s None = None
guard_differs s (Some guard) = asked_of 1 (measured s guard)

abbrev pub is_transfer_in_range : Scope → SslTransfer → Bool
is_transfer_in_range s t = is_guard_in_range s t.guard && is_act_in_range s t.act

abbrev pub transfer_differs : Scope → SslTransfer → Option Mismatch
transfer_differs s t = option_or (guard_differs s t.guard) (act_differs s t.act)

-- the first of several that has any
abbrev pub first_differing : {A : Type 0} → (A → Option Mismatch) → List A → Option Mismatch
first_differing differs [] = None
first_differing differs (x ∷ xs) = option_or (differs x) (first_differing differs xs)
