-- The C of each operator has the number that the operator makes.
use Rattle.std.proofs.Common.{◌≡◌, ◌≢◌, ℕ, ◌+◌, ◌-◌, ◌*◌, ◌/◌, ◌^◌, ◌%◌, ◌<◌, ◌≤◌, ◌==◌, Bool, true, false, not, if◌then◌else◌, Some, None, refl, ap, ◌∙◌, arith, nat_lt}
use Rattle.std.specs.Prelude.{bit_and, bit_or, bit_xor, nat_le}
use Rattle.std.proofs.lemmas.Nat.{and_mask, pow_pos}
use Rattle.std.proofs.Math.Nat.{mod-eq_of_lt, div-le_self, mod-le}
use Rattle.std.proofs.lemmas.Bool.{ltb-true, lt-ltb, ne_eqb}
use Rattle.rtl_core.specs.declared.expr.Un.{Un}
use Rattle.rtl_core.specs.declared.expr.Un.TheVariants.{Not, Neg}
use Rattle.rtl_core.specs.declared.expr.Bin.{Bin}
use Rattle.rtl_core.specs.declared.expr.Bin.TheVariants.{Add, Sub, Mul, DivU, DivS, RemU, RemS, And, Or, Xor, Shl, ShrU, ShrS, Eq, Ne, LtU, LtS, LeU, LeS}
use Rattle.rtl_core.specs.Arithmetic.{flag, is_plus, opposite, complement, size, same_sign, signed, shifted_right, binary, unary, is_division, bits_of, with_bits, sign_extended}
use Rattle.rtl_core.proofs.Ranges.{pow_le, complement_lt, size_lt, size_ne, shifted_lt}
use Rattle.c_lang.specs.declared.tree.COp.{COp}
use Rattle.c_lang.specs.declared.tree.COp.TheVariants.{Add as Plus, Sub as Minus, Mul as Times, Div as Over, Rem as Rest, And as Both, Or as Either, Xor as Differ, Shl as Up, Shr as Down, Eq as Same, Ne as Other, Lt as Less, Le as AtMost}
use Rattle.c_lang.specs.declared.tree.CExpr.{CExpr}
use Rattle.c_lang.specs.declared.tree.CExpr.TheVariants.{Num, Bin as Op, Choose}
use Rattle.c_lang.specs.Value.{Vars, value, both, chosen, op_value, word}
use Rattle.c_lang.proofs.ValueLaws.{value-Num, value-Bin, value-Choose, both-Some, chosen-zero, chosen-more}
use Rattle.c_lower.specs.Formula.{masked_c, is_plus_c, opposite_c, complement_c, size_c, same_sign_c, signed_c, shifted_right_c, binary_c, unary_c, bits_c, with_bits_c, sign_extended_c}
use Rattle.c_lower.proofs.Numbers.{masked_word, masked_minus, masked_opposite, minus_word, in_word, bits_low}

value-Bin-of : (vars : Vars) (op : COp) (a b : CExpr) (x y : ℕ) → value vars a ≡ Some x → value vars b ≡ Some y
    → value vars (Op op a b) ≡ op_value op x y
value-Bin-of vars op a b x y e f =
    value-Bin vars op a b ∙ ap (λ o. both op o (value vars b)) e ∙ ap (both op (Some x)) f ∙ both-Some op x y

-- it has this value
pub record Is (vars : Vars) (e : CExpr) (n : ℕ) : Type 0 where
  pub is : value vars e ≡ Some n

pub that : {vars : Vars} {e : CExpr} {m n : ℕ} → Is vars e m → m ≡ n → Is vars e n
that h e = record { is = h.is ∙ ap Some e }

module _ (vars : Vars) where
  pub num : (n : ℕ) → Is vars (Num n) n
  num n = record { is = value-Num vars n }

  -- ---- the operators of C
  pub plus : {a b : CExpr} {x y : ℕ} → Is vars a x → Is vars b y → Is vars (Op Plus a b) ((x + y) % 2 ^ 64)
  unfolding op_value
  plus {a = a} {b = b} {x = x} {y = y} e f = record { is = value-Bin-of vars Plus a b x y e.is f.is }

  pub minus : {a b : CExpr} {x y : ℕ} → Is vars a x → Is vars b y → Is vars (Op Minus a b) ((x + (2 ^ 64 - y)) % 2 ^ 64)
  unfolding op_value
  minus {a = a} {b = b} {x = x} {y = y} e f = record { is = value-Bin-of vars Minus a b x y e.is f.is }

  pub times : {a b : CExpr} {x y : ℕ} → Is vars a x → Is vars b y → Is vars (Op Times a b) ((x * y) % 2 ^ 64)
  unfolding op_value
  times {a = a} {b = b} {x = x} {y = y} e f = record { is = value-Bin-of vars Times a b x y e.is f.is }

  pub over : {a b : CExpr} {x y : ℕ} → Is vars a x → Is vars b y → y ≢ 0 → Is vars (Op Over a b) (x / y)
  unfolding op_value
  over {a = a} {b = b} {x = x} {y = y} e f ne =
      record {
        is = value-Bin-of vars Over a b x y e.is f.is
            ∙ ap (λ t. if t then None else Some (x / y)) (ne_eqb y 0 ne);
      }

  pub remainder : {a b : CExpr} {x y : ℕ} → Is vars a x → Is vars b y → y ≢ 0 → Is vars (Op Rest a b) (x % y)
  unfolding op_value
  remainder {a = a} {b = b} {x = x} {y = y} e f ne =
      record {
        is = value-Bin-of vars Rest a b x y e.is f.is
            ∙ ap (λ t. if t then None else Some (x % y)) (ne_eqb y 0 ne);
      }

  pub conj : {a b : CExpr} {x y : ℕ} → Is vars a x → Is vars b y → Is vars (Op Both a b) (bit_and x y)
  unfolding op_value
  conj {a = a} {b = b} {x = x} {y = y} e f = record { is = value-Bin-of vars Both a b x y e.is f.is }

  pub disj : {a b : CExpr} {x y : ℕ} → Is vars a x → Is vars b y → Is vars (Op Either a b) (bit_or x y)
  unfolding op_value
  disj {a = a} {b = b} {x = x} {y = y} e f = record { is = value-Bin-of vars Either a b x y e.is f.is }

  pub differ : {a b : CExpr} {x y : ℕ} → Is vars a x → Is vars b y → Is vars (Op Differ a b) (bit_xor x y)
  unfolding op_value
  differ {a = a} {b = b} {x = x} {y = y} e f = record { is = value-Bin-of vars Differ a b x y e.is f.is }

  pub up : {a b : CExpr} {x y : ℕ} → Is vars a x → Is vars b y → y < 64 → Is vars (Op Up a b) ((x * 2 ^ y) % 2 ^ 64)
  unfolding op_value
  up {a = a} {b = b} {x = x} {y = y} e f lt =
      record {
        is = value-Bin-of vars Up a b x y e.is f.is
            ∙ ap (λ t. if t then Some ((x * 2 ^ y) % word) else None) (lt-ltb y 64 lt);
      }

  pub down : {a b : CExpr} {x y : ℕ} → Is vars a x → Is vars b y → y < 64 → Is vars (Op Down a b) (x / 2 ^ y)
  unfolding op_value
  down {a = a} {b = b} {x = x} {y = y} e f lt =
      record {
        is = value-Bin-of vars Down a b x y e.is f.is
            ∙ ap (λ t. if t then Some (x / 2 ^ y) else None) (lt-ltb y 64 lt);
      }

  pub same : {a b : CExpr} {x y : ℕ} → Is vars a x → Is vars b y → Is vars (Op Same a b) (flag (x == y))
  unfolding op_value
  same {a = a} {b = b} {x = x} {y = y} e f = record { is = value-Bin-of vars Same a b x y e.is f.is }

  pub other : {a b : CExpr} {x y : ℕ} → Is vars a x → Is vars b y → Is vars (Op Other a b) (flag (not (x == y)))
  unfolding op_value
  other {a = a} {b = b} {x = x} {y = y} e f = record { is = value-Bin-of vars Other a b x y e.is f.is }

  pub less : {a b : CExpr} {x y : ℕ} → Is vars a x → Is vars b y → Is vars (Op Less a b) (flag (nat_lt x y))
  unfolding op_value
  less {a = a} {b = b} {x = x} {y = y} e f = record { is = value-Bin-of vars Less a b x y e.is f.is }

  pub at_most : {a b : CExpr} {x y : ℕ} → Is vars a x → Is vars b y → Is vars (Op AtMost a b) (flag (nat_le x y))
  unfolding op_value
  at_most {a = a} {b = b} {x = x} {y = y} e f = record { is = value-Bin-of vars AtMost a b x y e.is f.is }

  pub choose : (t : Bool) {c a b : CExpr} {x y : ℕ} → Is vars c (flag t) → (t ≡ true → Is vars a x)
      → (t ≡ false → Is vars b y) → Is vars (Choose c a b) (if t then x else y)
  choose true {c = c} {a = a} {b = b} h f g =
      record {
        is = value-Choose vars c a b ∙ ap (λ o. chosen o (value vars a) (value vars b)) h.is
            ∙ chosen-more 1 (value vars a) (value vars b) (omega arith) ∙ (f refl).is;
      }
  choose false {c = c} {a = a} {b = b} h f g =
      record {
        is = value-Choose vars c a b ∙ ap (λ o. chosen o (value vars a) (value vars b)) h.is
            ∙ chosen-zero (value vars a) (value vars b) ∙ (g refl).is;
      }

  module _ (w : ℕ) (w1 : 1 ≤ w) (w64 : w ≤ 64) where
    mask : {a : CExpr} (x : ℕ) → Is vars a (x % 2 ^ 64) → Is vars (masked_c w a) (x % 2 ^ w)
    mask x e = that (conj e (num (2 ^ w - 1))) (masked_word x w w64)

    is_plus_is : {a : CExpr} {x : ℕ} → Is vars a x → Is vars (is_plus_c w a) (flag (is_plus w x))
    is_plus_is e = less e (num (2 ^ (w - 1)))

    opposite_is : {a : CExpr} {x : ℕ} → Is vars a x → x ≤ 2 ^ w → Is vars (opposite_c w a) (opposite w x)
    opposite_is {x = x} e le = that (conj (minus (num 0) e) (num (2 ^ w - 1))) (masked_opposite x w w64 le)

    size_is : {a : CExpr} {x : ℕ} → Is vars a x → x < 2 ^ w → Is vars (size_c w a) (size w x)
    size_is {x = x} e lt = choose (is_plus w x) (is_plus_is e) (λ t. e) (λ t. opposite_is e (omega arith))

    signed_is : (t : Bool) {c a : CExpr} {n : ℕ} → Is vars c (flag t) → Is vars a n → n ≤ 2 ^ w
        → Is vars (signed_c w c a) (signed w t n)
    signed_is t e f le = choose t e (λ h. f) (λ h. opposite_is f le)

    complement_is : {a : CExpr} {x : ℕ} → Is vars a x → x < 2 ^ w → Is vars (complement_c w a) (complement w x)
    complement_is {x = x} e lt =
        that (minus (num (2 ^ w - 1)) e)
        (minus_word (2 ^ w - 1) x (2 ^ 64) (omega arith) (omega (arith, pow_le w 64 w64, pow_pos w)))

    shifted_is : {a b : CExpr} {x y : ℕ} → Is vars a x → Is vars b y
        → Is vars (shifted_right_c w a b) (shifted_right w x y)
    shifted_is {y = y} e f =
        choose (nat_lt y w) (less f (num w)) (λ t. let lt = ltb-true y w t in down e f (omega arith)) (λ t. num 0)

    same_sign_is : {a b : CExpr} {x y : ℕ} → Is vars a x → Is vars b y
        → Is vars (same_sign_c w a b) (flag (same_sign w x y))
    same_sign_is e f = same (is_plus_is e) (is_plus_is f)

    -- ---- the operators of the machine
    pub binary_is : (op : Bin) {a b : CExpr} {x y : ℕ} → Is vars a x → Is vars b y → x < 2 ^ w → y < 2 ^ w
        → (is_division op ≡ true → y ≢ 0) → Is vars (binary_c op w a b) (binary op w x y)
    unfolding binary_c binary
    binary_is Add {x = x} {y = y} e f p q ne = mask (x + y) (plus e f)
    binary_is Sub {x = x} {y = y} e f p q ne =
        that (conj (minus e f) (num (2 ^ w - 1))) (masked_minus x y w w64 (omega arith))
    binary_is Mul {x = x} {y = y} e f p q ne = mask (x * y) (times e f)
    binary_is DivU e f p q ne = over e f (ne refl)
    binary_is DivS {x = x} {y = y} e f p q ne =
        let s = size_lt w x p in let d = div-le_self (size w x) (size w y) in
        signed_is (same_sign w x y) (same_sign_is e f) (over (size_is e p) (size_is f q) (size_ne w y (ne refl) q))
        (omega arith)
    binary_is RemU e f p q ne = remainder e f (ne refl)
    binary_is RemS {x = x} {y = y} e f p q ne =
        let s = size_lt w x p in let d = mod-le (size w x) (size w y) in
        signed_is (is_plus w x) (is_plus_is e) (remainder (size_is e p) (size_is f q) (size_ne w y (ne refl) q))
        (omega arith)
    binary_is And e f p q ne = conj e f
    binary_is Or e f p q ne = disj e f
    binary_is Xor e f p q ne = differ e f
    binary_is Shl {x = x} {y = y} e f p q ne =
        choose (nat_lt y w) (less f (num w)) (λ t. let lt = ltb-true y w t in mask (x * 2 ^ y) (up e f (omega arith)))
        (λ t. num 0)
    binary_is ShrU e f p q ne = shifted_is e f
    binary_is ShrS {x = x} {y = y} e f p q ne =
        choose (is_plus w x) (is_plus_is e) (λ t. shifted_is e f)
        (λ t. complement_is (shifted_is (complement_is e p) f) (shifted_lt w (complement w x) y (complement_lt w x)))
    binary_is Eq e f p q ne = same e f
    binary_is Ne e f p q ne = other e f
    binary_is LtU e f p q ne = less e f
    binary_is LtS {x = x} {y = y} e f p q ne =
        choose (same_sign w x y) (same_sign_is e f) (λ t. less e f) (λ t. is_plus_is f)
    binary_is LeU e f p q ne = at_most e f
    binary_is LeS {x = x} {y = y} e f p q ne =
        choose (same_sign w x y) (same_sign_is e f) (λ t. at_most e f) (λ t. is_plus_is f)

    pub unary_is : (op : Un) {a : CExpr} {x : ℕ} → Is vars a x → x < 2 ^ w → Is vars (unary_c op w a) (unary op w x)
    unfolding unary_c unary
    unary_is Not e p = complement_is e p
    unary_is Neg e p = opposite_is e (omega arith)

  pub bits_is : (lo hi : ℕ) {a : CExpr} {x : ℕ} → lo < 64 → Is vars a x → Is vars (bits_c lo hi a) (bits_of lo hi x)
  bits_is lo hi {x = x} lt e =
      that (conj (down e (num lo) lt) (num (2 ^ (hi + 1 - lo) - 1))) (and_mask (x / 2 ^ lo) (hi + 1 - lo))

  pub sign_extended_is : (v w : ℕ) {a : CExpr} {x : ℕ} → 1 ≤ v → v ≤ w → w ≤ 64 → Is vars a x → x < 2 ^ v
      → Is vars (sign_extended_c v w a) (sign_extended v w x)
  sign_extended_is v w {x = x} v1 vw w64 e lt =
      choose (is_plus v x) (less e (num (2 ^ (v - 1)))) (λ t. e)
      (λ t. that (plus e (num (2 ^ w - 2 ^ v)))
      (mod-eq_of_lt (let a = pow_le v w vw in let b = pow_le w 64 w64 in omega arith)))

  pub with_bits_is : (lo hi w : ℕ) {a v : CExpr} {x y : ℕ} → lo < 64 → lo ≤ hi → hi < w → w ≤ 64 → Is vars a x
      → Is vars v y → x < 2 ^ w → y < 2 ^ (hi + 1 - lo) → with_bits lo hi x y < 2 ^ w
      → Is vars (with_bits_c lo hi a v) (with_bits lo hi x y)
  with_bits_is lo hi w {x = x} {y = y} lt le below w64 e f p q fits =
      let low = bits_low lo (hi + 1 - lo) x in
      let xw = in_word x w w64 p in
      let room = in_word (with_bits lo hi x y) w w64 fits in
      let b : bits_of lo hi x * 2 ^ lo < 2 ^ 64 = omega arith in
      let c : y * 2 ^ lo < 2 ^ 64 = omega arith in
      let taken = that (minus e (that (up (bits_is lo hi lt e) (num lo) lt) (mod-eq_of_lt b)))
      (minus_word x (bits_of lo hi x * 2 ^ lo) (2 ^ 64) low xw) in
      that (plus taken (that (up f (num lo) lt) (mod-eq_of_lt c))) (mod-eq_of_lt room)
