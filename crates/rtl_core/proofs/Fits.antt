-- The value of a sound term fits its width.
use Rattle.std.proofs.Common.{◌≡◌, ℕ, zero, suc, ◌+◌, ◌-◌, ◌*◌, ◌^◌, ◌<◌, ◌≤◌, ◌==◌, Bool, true, false, ◌&&◌, ◌||◌, if◌then◌else◌, Option, Some, None, Result, Ok, Err, List, refl, subst, ⊎_elim, arith}
use Rattle.std.specs.Prelude.{slice_index, unwrap_or}
use Rattle.std.proofs.lemmas.Nat.{pow_pos}
use Rattle.std.proofs.lemmas.Bool.{eqb-true, or_cases}
use Rattle.std.proofs.Math.Nat.{mod-lt, pow-suc, mul-le-mul_right}
use Rattle.byteorder.specs.Endian.{big_from, little_from}
use Rattle.byteorder.proofs.Bytes.{pow256}
use Rattle.rtl_core.specs.declared.expr.Bin.{Bin}
use Rattle.rtl_core.specs.declared.expr.Bin.TheVariants.{Add, Sub, Mul, DivU, DivS, RemU, RemS, And, Or, Xor, Shl, ShrU, ShrS, Eq, Ne, LtU, LtS, LeU, LeS}
use Rattle.rtl_core.specs.declared.expr.Order.{Order}
use Rattle.rtl_core.specs.declared.expr.Order.TheVariants.{Little, Big}
use Rattle.rtl_core.specs.declared.machine.Machine.{Machine}
use Rattle.rtl_core.specs.declared.stop.Trap.{Trap}
use Rattle.rtl_core.specs.Access.{number, is_size, access_fault, unless, loaded}
use Rattle.rtl_core.specs.Arithmetic.{binary, unary, is_division, result_width, bits_of, sign_extended}
use Rattle.rtl_core.specs.Contents.{Contents, byte_of, held_at, is_mapped, bytes_from}
use Rattle.rtl_core.specs.SoundTerms.{IsWidth, IsSoundTerm, AreWidths, Fit}
use Rattle.rtl_core.specs.Terms.{Term, Const, Cell, Load, Unary, Binary, Slice, Zext, Sext, Choice, width_of}
use Rattle.rtl_core.specs.Value.{and_then, choice, value_of}
use Rattle.rtl_core.proofs.Ranges.{pow_le, binary_lt, unary_lt, sign_extended_lt}

-- a number below 2^w, or a trap
abbrev pub FitsIn : ℕ → Result ℕ Trap → Type 0
FitsIn w (Err trap) = Unit {0}
FitsIn w (Ok x) = x < 2 ^ w

-- ---- what is loaded
bytes_lt : (m : Contents) (n a j : ℕ) → slice_index (bytes_from m a n) j < 256
unfolding bytes_from
bytes_lt m zero a j = omega arith
bytes_lt m (suc n) a zero = let pos : 0 < 256 = omega arith in mod-lt (unwrap_or (byte_of (held_at m a)) 0) pos
bytes_lt m (suc n) a (suc j) = bytes_lt m n (a + 1) j

little_lt : (n i : ℕ) (xs : List ℕ) → ((j : ℕ) → slice_index xs j < 256) → little_from i n xs < 256 ^ n
little_lt zero i xs h = omega arith
little_lt (suc n) i xs h = omega (arith, h i, little_lt n (suc i) xs h, pow-suc 256 n)

big_lt : (n i : ℕ) (xs : List ℕ) → ((j : ℕ) → slice_index xs j < 256) → big_from i n xs < 256 ^ n
big_lt zero i xs h = omega arith
big_lt (suc n) i xs h =
    let b : slice_index xs i + 1 ≤ 256 = omega (arith, h i) in
    omega (arith, mul-le-mul_right (256 ^ n) b, big_lt n (suc i) xs h, pow-suc 256 n)

number_lt : (order : Order) (n : ℕ) (xs : List ℕ) → ((j : ℕ) → slice_index xs j < 256) → number order n xs < 2 ^ (8 * n)
number_lt Little n xs h = subst (λ k. little_from 0 n xs < k) (pow256 n) (little_lt n 0 xs h)
number_lt Big n xs h = subst (λ k. big_from 0 n xs < k) (pow256 n) (big_lt n 0 xs h)

pub loaded_fits : (order : Order) (align : Bool) (m : Contents) (n a : ℕ) → FitsIn (8 * n) (loaded order align m n a)
unfolding loaded
loaded_fits order align m n a = by (access_fault align is_mapped m n a)
  where
    by : (fault : Option Trap) → FitsIn (8 * n) (unless fault (number order n (bytes_from m a n)))
    by None = number_lt order n (bytes_from m a n) (bytes_lt m n a)
    by (Some trap) = tt

-- ---- widths
result_bound : (op : Bin) (w : ℕ) → IsWidth w → IsWidth (result_width op w)
result_bound Add w h = h
result_bound Sub w h = h
result_bound Mul w h = h
result_bound DivU w h = h
result_bound DivS w h = h
result_bound RemU w h = h
result_bound RemS w h = h
result_bound And w h = h
result_bound Or w h = h
result_bound Xor w h = h
result_bound Shl w h = h
result_bound ShrU w h = h
result_bound ShrS w h = h
result_bound Eq w h = (omega arith, omega arith)
result_bound Ne w h = (omega arith, omega arith)
result_bound LtU w h = (omega arith, omega arith)
result_bound LtS w h = (omega arith, omega arith)
result_bound LeU w h = (omega arith, omega arith)
result_bound LeS w h = (omega arith, omega arith)

pub size_range : (n : ℕ) → is_size n ≡ true → (1 ≤ n) × (n ≤ 8)
size_range n h =
    ⊎_elim
    (λ f. ⊎_elim
    (λ g. ⊎_elim (λ e. let s = eqb-true n 1 e in (omega arith, omega arith)) (λ e. let s = eqb-true n 2 e in (omega arith, omega arith)) (or_cases (n == 1) (n == 2) g))
    (λ e. let s = eqb-true n 4 e in (omega arith, omega arith)) (or_cases ((n == 1) || (n == 2)) (n == 4) f))
    (λ e. let s = eqb-true n 8 e in (omega arith, omega arith)) (or_cases ((n == 1) || (n == 2) || (n == 4)) (n == 8) h)

pub is_width : (widths : List ℕ) → AreWidths widths → (t : Term) → IsSoundTerm widths t → IsWidth (width_of widths t)
is_width widths ok (Const w n) h = h.0
is_width widths ok (Cell c) h = ok.each c h
is_width widths ok (Load n a) h = let s = size_range n h.2 in (omega arith, omega arith)
is_width widths ok (Unary op a) h = is_width widths ok a h
is_width widths ok (Binary op a b) h = result_bound op (width_of widths a) (is_width widths ok a h.0)
is_width widths ok (Slice a lo hi) h = let i = is_width widths ok a h.0 in (omega arith, omega arith)
is_width widths ok (Zext w a) h = let i = is_width widths ok a h.0 in (omega arith, h.2)
is_width widths ok (Sext w a) h = let i = is_width widths ok a h.0 in (omega arith, h.2)
is_width widths ok (Choice c a b) h = is_width widths ok a h.1

-- ---- values
fits_then : (w : ℕ) (f : ℕ → Result ℕ Trap) (o : Result ℕ Trap) → ((x : ℕ) → o ≡ Ok x → FitsIn w (f x)) → FitsIn w (and_then o f)
fits_then w f (Err trap) h = tt
fits_then w f (Ok x) h = h x refl

fits_unless : (w n : ℕ) (t : Bool) → n < 2 ^ w → FitsIn w (if t then Err Trap.Divide else Ok n)
fits_unless w n true h = tt
fits_unless w n false h = h

fits_choice : (w n x y : ℕ) → x < 2 ^ w → y < 2 ^ w → choice n x y < 2 ^ w
fits_choice w zero x y p q = q
fits_choice w (suc n) x y p q = p

fits_wider : (v w : ℕ) (o : Result ℕ Trap) → v ≤ w → FitsIn v o → FitsIn w o
fits_wider v w (Err trap) le h = tt
fits_wider v w (Ok x) le h = omega (arith, pow_le v w le)

module _ (m : Machine) (ok : AreWidths m.widths) (cells : List ℕ) (fit : Fit m cells) (mem : Contents) where
  pub value_fits : (t : Term) → IsSoundTerm m.widths t → FitsIn (width_of m.widths t) (value_of m cells mem t)
  value_fits (Const w n) h = h.1
  value_fits (Cell c) h = fit.each c h
  value_fits (Load n a) h = fits_then (8 * n) (loaded m.order m.align mem n) (value_of m cells mem a) (λ x e. loaded_fits m.order m.align mem n x)
  value_fits (Unary op a) h = fits_then (width_of m.widths a) (λ x. Ok (unary op (width_of m.widths a) x)) (value_of m cells mem a) (λ x e. unary_lt (width_of m.widths a) op x)
  value_fits (Binary op a b) h =
      let w = width_of m.widths a in
      let fa = value_fits a h.0 in
      let fb = subst (λ v. FitsIn v (value_of m cells mem b)) h.2 (value_fits b h.1) in
      let last = λ (x y : ℕ). if is_division op && (y == 0) then Err Trap.Divide else Ok (binary op w x y) in
      fits_then (result_width op w) (λ x. and_then (value_of m cells mem b) (last x)) (value_of m cells mem a)
      (λ x e. fits_then (result_width op w) (last x) (value_of m cells mem b)
      (λ y f. fits_unless (result_width op w) (binary op w x y) (is_division op && (y == 0)) (binary_lt w op x y (subst (FitsIn w) e fa) (subst (FitsIn w) f fb))))
  value_fits (Slice a lo hi) h = fits_then (hi + 1 - lo) (λ x. Ok (bits_of lo hi x)) (value_of m cells mem a) (λ x e. mod-lt _ (pow_pos (hi + 1 - lo)))
  value_fits (Zext w a) h = fits_wider (width_of m.widths a) w (value_of m cells mem a) h.1 (value_fits a h.0)
  value_fits (Sext w a) h =
      let v = width_of m.widths a in
      fits_then w (λ x. Ok (sign_extended v w x)) (value_of m cells mem a) (λ x e. sign_extended_lt v w x h.1 (subst (FitsIn v) e (value_fits a h.0)))
  value_fits (Choice c a b) h =
      let w = width_of m.widths a in
      let fa = value_fits a h.1 in
      let fb = subst (λ v. FitsIn v (value_of m cells mem b)) h.4 (value_fits b h.2) in
      fits_then w (λ n. and_then (value_of m cells mem a) (λ x. and_then (value_of m cells mem b) (λ y. Ok (choice n x y)))) (value_of m cells mem c)
      (λ n e. fits_then w (λ x. and_then (value_of m cells mem b) (λ y. Ok (choice n x y))) (value_of m cells mem a)
      (λ x f. fits_then w (λ y. Ok (choice n x y)) (value_of m cells mem b) (λ y g. fits_choice w n x y (subst (FitsIn w) f fa) (subst (FitsIn w) g fb))))
