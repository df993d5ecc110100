-- What a name or a sign stands for.
use Rattle.std.specs.Prelude.{ℕ, ◌+◌, ◌-◌, ◌*◌, ◌^◌, ◌==◌, nat_lt, List, [], ◌∷◌, take, drop, slice_index, Option, Some, None, if◌then◌else◌, option_map, option_and_then, codes}
use Rattle.std.specs.Fmt.{decimal}
use Rattle.std.specs.Option.{option_or}
use Rattle.std.specs.Str.{bytes_eq}
use Rattle.std.specs.Str.Parse.{digits_value}
use Rattle.rtl_core.specs.declared.point.Point.{Point}
use Rattle.rtl_core.specs.declared.point.Slot.{Slot}
use Rattle.rtl_core.specs.declared.point.Slot.TheVariants.{Seq, To, Dyn, CallTo, CallDyn, Ret}
use Rattle.c_lang.specs.declared.tree.COp.{COp}
use Rattle.c_lang.specs.declared.tree.COp.TheVariants.{Add, Sub, Mul, Div, Rem, And, Or, Xor, Shl, Shr, Eq, Ne, Lt, Le}
use Rattle.c_lang.specs.declared.tree.Var.{Var}
use Rattle.c_lang.specs.declared.tree.Var.TheVariants.{Ra, Pt, Cell, Temp, Result, Wn, Depth, ServeR, ServeE}
use Rattle.c_text.specs.Words.{hex}

-- the number, where it is below the bound
abbrev pub when_below : ℕ → ℕ → Option ℕ
when_below bound n = if nat_lt n bound then Some n else None

-- ---- numbers in names

-- the number of a name's digits: below the bound, and spelled as numbers in names are
abbrev pub decimal_number : ℕ → List ℕ → Option ℕ
decimal_number bound ds = if bytes_eq (decimal (digits_value 10 ds)) ds then when_below bound (digits_value 10 ds) else None

-- what a byte counts as a digit of base 16, where it is one; for any other byte this may be anything
abbrev pub hex_digit_value : ℕ → ℕ
hex_digit_value b = if nat_lt b 58 then b - 48 else b - 55

-- the number of hexadecimal digits, behind a number of digits in front of them
abbrev pub hex_number : ℕ → List ℕ → ℕ
hex_number n [] = n
hex_number n (b ∷ bs) = hex_number (n * 16 + hex_digit_value b) bs

-- the address that is spelled by exactly these bytes
abbrev pub hex_address : List ℕ → Option ℕ
hex_address ds = if bytes_eq (hex (hex_number 0 ds)) ds then when_below (2 ^ 32) (hex_number 0 ds) else None

-- what a word means behind its front, where it begins so
abbrev pub behind : {A : Type 0} → List ℕ → ℕ → (List ℕ → Option A) → List ℕ → Option A
behind front n of_rest w = if bytes_eq (take n w) front then of_rest (drop n w) else None

-- ---- variables and operators

-- the variable of a letter and a number: a cell, a temporary or a result
abbrev pub var_by_letter : ℕ → List ℕ → Option Var
var_by_letter b ds =
    if b == 99 then option_map Cell (decimal_number 256 ds)
    else (if b == 116 then option_map Temp (decimal_number 65536 ds)
    else (if b == 113 then option_map Result (decimal_number 256 ds) else None))

-- the variable of a fixed name
abbrev pub var_by_name : List ℕ → Option Var
var_by_name w =
    if bytes_eq w (codes "ra") then Some Ra else (if bytes_eq w (codes "pt") then Some Pt else (if bytes_eq w (codes "uq_wn") then Some Wn
    else (if bytes_eq w (codes "uq_depth") then Some Depth else (if bytes_eq w (codes "uq_r") then Some ServeR
    else (if bytes_eq w (codes "uq_e") then Some ServeE else None)))))

-- the variable of a name: `c`, `t` or `q` and a number, or another one
abbrev pub var_of : List ℕ → Option Var
var_of w = option_or (var_by_letter (slice_index w 0) (drop 1 w)) (var_by_name w)

-- the number of the cell, where there is one
abbrev pub cell_in : Option Var → Option ℕ
cell_in (Some (Cell i)) = Some i
cell_in o = None

-- the number of the cell, where the name is that of a cell
abbrev pub cell_of : List ℕ → Option ℕ
cell_of w = cell_in (var_of w)

-- the operator that is written so
abbrev pub operator_of : List ℕ → Option COp
operator_of w =
    if bytes_eq w (codes "+") then Some Add else (if bytes_eq w (codes "-") then Some Sub else (if bytes_eq w (codes "*") then Some Mul
    else (if bytes_eq w (codes "/") then Some Div else (if bytes_eq w (codes "%") then Some Rem else (if bytes_eq w (codes "&") then Some And
    else (if bytes_eq w (codes "|") then Some Or else (if bytes_eq w (codes "^") then Some Xor else (if bytes_eq w (codes "<<") then Some Shl
    else (if bytes_eq w (codes ">>") then Some Shr else (if bytes_eq w (codes "==") then Some Eq else (if bytes_eq w (codes "!=") then Some Ne
    else (if bytes_eq w (codes "<") then Some Lt else (if bytes_eq w (codes "<=") then Some Le else None)))))))))))))

-- ---- functions, segments, labels

-- the address in a function's name
abbrev pub function_of : List ℕ → Option ℕ
function_of w = behind (codes "f_") 2 hex_address w

-- the place in the name of a segment's bytes
abbrev pub segment_of : List ℕ → Option ℕ
segment_of w = behind (codes "uq_seg_") 7 (decimal_number (2 ^ 64)) w

-- `_` and an address, behind another one
abbrev pub call_of : List ℕ → Option Slot
call_of w = option_and_then (λ target. option_map (CallTo target) (behind (codes "_") 1 hex_address (drop 8 w))) (hex_address (take 8 w))

-- the jump that is still to come, of the end of a label
abbrev pub slot_of : List ℕ → Option Slot
slot_of w =
    if bytes_eq w [] then Some Seq
    else (if bytes_eq w (codes "_R") then Some Ret
    else option_or (behind (codes "_T_") 3 (λ ds. option_map To (hex_address ds)) w)
    (option_or (behind (codes "_D_") 3 (λ ds. option_map Dyn (hex_address ds)) w)
    (option_or (behind (codes "_E_") 3 (λ ds. option_map CallDyn (hex_address ds)) w)
    (behind (codes "_C_") 3 call_of w))))

-- the point of an address and a jump to come
abbrev pub point_at : ℕ → Slot → Point
point_at pc slot = record { pc = pc; slot = slot }

-- an address and the end of a label
abbrev pub point_of : List ℕ → Option Point
point_of w = option_and_then (λ pc. option_map (point_at pc) (slot_of (drop 8 w))) (hex_address (take 8 w))

-- the point that a label names
abbrev pub label_of : List ℕ → Option Point
label_of w = behind (codes "L_") 2 point_of w
