-- The names of a C text.
use Rattle.std.specs.Prelude.{ℕ, zero, suc, ◌/◌, ◌%◌, true, List, [], ◌∷◌, ◌++◌, codes}
use Rattle.std.specs.Fmt.{decimal, digit_glyph}
use Rattle.rtl_core.specs.declared.point.Point.{Point}
use Rattle.rtl_core.specs.declared.point.Slot.{Slot}
use Rattle.rtl_core.specs.declared.point.Slot.TheVariants.{Seq, To, Dyn, CallTo, CallDyn, Ret}
use Rattle.c_lang.specs.declared.tree.Var.{Var}
use Rattle.c_lang.specs.declared.tree.Var.TheVariants.{Ra, Pt, Cell, Temp, Result, Wn, Depth, ServeR, ServeE}

-- the last k hexadecimal digits of a number, upper-case
abbrev pub hex_digits : ℕ → ℕ → List ℕ
hex_digits zero n = []
hex_digits (suc k) n = hex_digits k (n / 16) ++ digit_glyph true (n % 16) ∷ []

-- the 8 hexadecimal digits of an address
unfoldable pub hex : ℕ → List ℕ
hex n = hex_digits 8 n

-- the name of a variable
abbrev pub var_word : Var → List ℕ
var_word Ra = codes "ra"
var_word Pt = codes "pt"
var_word (Cell i) = codes "c" ++ decimal i
var_word (Temp k) = codes "t" ++ decimal k
var_word (Result i) = codes "q" ++ decimal i
var_word Wn = codes "uq_wn"
var_word Depth = codes "uq_depth"
var_word ServeR = codes "uq_r"
var_word ServeE = codes "uq_e"

-- the end of a label, for the jump that is still to come
abbrev pub slot_word : Slot → List ℕ
slot_word Seq = []
slot_word (To target) = codes "_T_" ++ hex target
slot_word (Dyn from) = codes "_D_" ++ hex from
slot_word (CallTo target back) = codes "_C_" ++ hex target ++ (codes "_" ++ hex back)
slot_word (CallDyn back) = codes "_E_" ++ hex back
slot_word Ret = codes "_R"

-- the label of a point
abbrev pub label_word : Point → List ℕ
label_word p = codes "L_" ++ hex p.pc ++ slot_word p.slot

-- the name of the function of an address
abbrev pub function_word : ℕ → List ℕ
function_word entry = codes "f_" ++ hex entry

-- the name of the k-th segment's bytes
abbrev pub segment_word : ℕ → List ℕ
segment_word k = codes "uq_seg_" ++ decimal k
