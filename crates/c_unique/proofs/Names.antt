-- A name determines what it names.
use Rattle.std.proofs.Common.{◌≡◌, ℕ, ◌<◌, ◌^◌, List, [], ◌∷◌, ◌++◌, drop, get_or, Option, Some, None, refl, sym, ap, ◌∙◌, arith}
use Rattle.std.specs.Prelude.{◌==◌, if◌then◌else◌, codes}
use Rattle.std.specs.Str.{bytes_eq}
use Rattle.rtl_core.specs.declared.point.Point.{Point}
use Rattle.rtl_core.specs.declared.point.Slot.{Slot}
use Rattle.rtl_core.specs.declared.point.Slot.TheVariants.{Seq, To, Dyn, CallTo, CallDyn, Ret}
use Rattle.c_lang.specs.declared.tree.COp.{COp}
use Rattle.c_lang.specs.declared.tree.COp.TheVariants.{Add, Sub, Mul, Div, Rem, And, Or, Xor, Shl, Shr, Eq, Ne, Lt, Le}
use Rattle.c_lang.specs.declared.tree.Var.{Var}
use Rattle.c_lang.specs.declared.tree.Var.TheVariants.{Ra, Pt, Cell, Temp, Result, Wn, Depth, ServeR, ServeE}
use Rattle.c_lang.specs.Spellable.{var_misfits, slot_misfits, point_misfits}
use Rattle.c_lang.proofs.SpellingLaws.{has_bits}
use Rattle.c_text.specs.Tokens.{Token, plain, word_token}
use Rattle.c_text.specs.Words.{hex, var_word, slot_word, label_word, function_word}
use Rattle.c_text.specs.Expressions.{op_sign}
use Rattle.c_text.proofs.WordTokens.{plain_token}
use Rattle.c_unique.proofs.Digits.{hex_same}

-- ---- variables

-- the number that a token is, if it is one
abbrev number_in : Option Token → ℕ
number_in (Some (plain n)) = n
number_in _ = 0

-- the variable of a name that begins with `uq_`
abbrev fixed_var : List ℕ → Var
fixed_var w = if bytes_eq w (codes "uq_wn") then Wn else (if bytes_eq w (codes "uq_depth") then Depth else (if bytes_eq w (codes "uq_r") then ServeR else ServeE))

-- the variable of a name with this first letter
abbrev lettered : ℕ → List ℕ → Var
lettered b w =
    if b == 99 then Cell (number_in (word_token w)) else (if b == 116 then Temp (number_in (word_token w)) else (if b == 113 then Result (number_in (word_token w))
    else (if b == 114 then Ra else (if b == 112 then Pt else fixed_var (b ∷ w)))))

-- the variable of a name
abbrev var_of : List ℕ → Var
var_of [] = Ra
var_of (b ∷ w) = lettered b w

var_back : (v : Var) → var_misfits v ≡ 0 → var_of (var_word v) ≡ v
var_back Ra h = refl
var_back Pt h = refl
var_back (Cell i) h = ap (λ t. Cell (number_in t)) (plain_token i (omega (arith, has_bits 8 i h)))
var_back (Temp k) h = ap (λ t. Temp (number_in t)) (plain_token k (omega (arith, has_bits 16 k h)))
var_back (Result i) h = ap (λ t. Result (number_in t)) (plain_token i (omega (arith, has_bits 8 i h)))
var_back Wn h = refl
var_back Depth h = refl
var_back ServeR h = refl
var_back ServeE h = refl

pub var_same : (v w : Var) → var_misfits v ≡ 0 → var_misfits w ≡ 0 → var_word v ≡ var_word w → v ≡ w
var_same v w h k e = sym (var_back v h) ∙ ap var_of e ∙ var_back w k

-- ---- labels and functions

-- the letter of the end of a label
abbrev slot_letter : List ℕ → ℕ
slot_letter w = get_or w 1 0

slot_same : (x y : Slot) → slot_misfits x ≡ 0 → slot_misfits y ≡ 0 → slot_word x ≡ slot_word y → x ≡ y
slot_same Seq Seq h k e = refl
slot_same (To a) (To b) h k e = ap To (hex_same a b [] [] (has_bits 32 a h) (has_bits 32 b k) (ap (λ w. drop 3 w ++ []) e)).same
slot_same (Dyn a) (Dyn b) h k e = ap Dyn (hex_same a b [] [] (has_bits 32 a h) (has_bits 32 b k) (ap (λ w. drop 3 w ++ []) e)).same
slot_same (CallTo a b) (CallTo c d) h k e =
    let one = hex_same a c (95 ∷ hex b) (95 ∷ hex d) (has_bits 32 a (omega arith)) (has_bits 32 c (omega arith)) (ap (drop 3) e) in
    let two = hex_same b d [] [] (has_bits 32 b (omega arith)) (has_bits 32 d (omega arith)) (ap (λ w. drop 1 w ++ []) one.rest) in
    let p : a ≡ c = one.same in
    let q : b ≡ d = two.same in
    cc
slot_same (CallDyn a) (CallDyn b) h k e = ap CallDyn (hex_same a b [] [] (has_bits 32 a h) (has_bits 32 b k) (ap (λ w. drop 3 w ++ []) e)).same
slot_same Ret Ret h k e = refl
slot_same x y h k e = absurd (let letters = ap slot_letter e in omega (arith, letters))

pub label_same : (p q : Point) → point_misfits p ≡ 0 → point_misfits q ≡ 0 → label_word p ≡ label_word q → p ≡ q
label_same p q h k e =
    let one = hex_same p.pc q.pc (slot_word p.slot) (slot_word q.slot) (has_bits 32 p.pc (omega arith)) (has_bits 32 q.pc (omega arith)) (ap (drop 2) e) in
    let two = slot_same p.slot q.slot (omega arith) (omega arith) one.rest in
    λ i. record { pc = one.same i; slot = two i }

pub function_same : (a b : ℕ) → a < 2 ^ 32 → b < 2 ^ 32 → function_word a ≡ function_word b → a ≡ b
function_same a b h k e = (hex_same a b [] [] h k (ap (λ w. drop 2 w ++ []) e)).same

-- ---- operators

-- the operator of a sign
abbrev op_of : List ℕ → Option COp
op_of w =
    if bytes_eq w (codes "+") then Some Add else (if bytes_eq w (codes "-") then Some Sub else (if bytes_eq w (codes "*") then Some Mul
    else (if bytes_eq w (codes "/") then Some Div else (if bytes_eq w (codes "%") then Some Rem else (if bytes_eq w (codes "&") then Some And
    else (if bytes_eq w (codes "|") then Some Or else (if bytes_eq w (codes "^") then Some Xor else (if bytes_eq w (codes "<<") then Some Shl
    else (if bytes_eq w (codes ">>") then Some Shr else (if bytes_eq w (codes "==") then Some Eq else (if bytes_eq w (codes "!=") then Some Ne
    else (if bytes_eq w (codes "<") then Some Lt else (if bytes_eq w (codes "<=") then Some Le else None)))))))))))))

op_back : (op : COp) → op_of (op_sign op) ≡ Some op
op_back Add = refl
op_back Sub = refl
op_back Mul = refl
op_back Div = refl
op_back Rem = refl
op_back And = refl
op_back Or = refl
op_back Xor = refl
op_back Shl = refl
op_back Shr = refl
op_back Eq = refl
op_back Ne = refl
op_back Lt = refl
op_back Le = refl

pub op_same : (a b : COp) → op_sign a ≡ op_sign b → a ≡ b
op_same a b e = let both : Some a ≡ Some b = sym (op_back a) ∙ ap op_of e ∙ op_back b in cc

-- no operator is `?`
pub no_question : (op : COp) → op_sign op ≡ codes "?" → ⊥
no_question op e = let both : Some op ≡ None = sym (op_back op) ∙ ap op_of e in cc
