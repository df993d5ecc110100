-- The statements of a term are tidy.
use Rattle.std.proofs.Common.{◌≡◌, ℕ, suc, ◌+◌, ◌-◌, ◌^◌, ◌<◌, ◌≤◌, ◌==◌, ◌||◌, Bool, true, false, if◌then◌else◌, Option, Some, None, List, ◌∷◌, refl, ap, arith}
use Rattle.std.proofs.lemmas.Bool.{eq-eqb}
use Rattle.rtl_core.specs.declared.expr.Un.{Un}
use Rattle.rtl_core.specs.declared.expr.Un.TheVariants.{Not, Neg}
use Rattle.rtl_core.specs.declared.expr.Bin.{Bin}
use Rattle.rtl_core.specs.declared.expr.Bin.TheVariants.{Add, Sub, Mul, DivU, DivS, RemU, RemS, And, Or, Xor, Shl, ShrU, ShrS, Eq, Ne, LtU, LtS, LeU, LeS}
use Rattle.rtl_core.specs.declared.machine.Machine.{Machine}
use Rattle.rtl_core.specs.Arithmetic.{is_division}
use Rattle.rtl_core.specs.SoundTerms.{IsSoundTerm, AreWidths}
use Rattle.rtl_core.proofs.Fits.{is_width}
use Rattle.rtl_core.proofs.Ranges.{pow_le}
use Rattle.rtl_core.specs.Terms.{Term, Const, Cell, Load, Unary, Binary, Slice, Zext, Sext, Choice, width_of}
use Rattle.c_lang.specs.declared.tree.COp.{COp}
use Rattle.c_lang.specs.declared.tree.COp.TheVariants.{Add as Plus, Sub as Minus, Mul as Times, Div as Over, Rem as Rest, And as Both, Or as Either, Xor as Differ, Shl as Up, Shr as Down, Eq as Same, Ne as Other, Lt as Less, Le as AtMost}
use Rattle.c_lang.specs.declared.tree.CExpr.{CExpr}
use Rattle.c_lang.specs.declared.tree.CExpr.TheVariants.{Num, Of, Bin as Op, Choose}
use Rattle.c_lang.specs.declared.tree.Stmt.{Stmt}
use Rattle.c_lang.specs.declared.tree.Stmt.TheVariants.{Set, Load as LoadInto}
use Rattle.c_lang.specs.declared.tree.Var.TheVariants.{Cell as CellVar, Temp}
use Rattle.c_lower.specs.Cells.{cell_c}
use Rattle.c_lower.specs.Code.{temp, guarded, code, need}
use Rattle.c_lower.specs.Formula.{masked_c, is_plus_c, opposite_c, complement_c, size_c, same_sign_c, shifted_right_c, binary_c, unary_c, bits_c, sign_extended_c}
use Rattle.c_lower.specs.Naming.{is_nameable, NamesOnly}
use Rattle.c_lower.specs.Tidy.{with_temp, Reads, number, a_cell, a_temp, two, three, most_nesting, Tidy, ends, sets_temp, loads, tests, stops}
use Rattle.std.proofs.lemmas.Nat.{pow_pos}
use Rattle.c_lower.proofs.Expressions.{needs_one}
use Rattle.c_lower.proofs.Numbers.{in_word}

-- powers and masks of at most 64 bits
half_fits : (w : ℕ) → w ≤ 64 → 2 ^ (w - 1) < 2 ^ 64
half_fits w le = let more = pow_le (w - 1) 63 (omega (arith, le)) in omega (arith, more)

mask_fits : (w : ℕ) → w ≤ 64 → 2 ^ w - 1 < 2 ^ 64
mask_fits w le = in_word (2 ^ w - 1) w le (omega (arith, pow_pos w))

sign_fits : (v w : ℕ) → w ≤ 64 → 2 ^ w - 2 ^ v < 2 ^ 64
sign_fits v w le = in_word (2 ^ w - 2 ^ v) w le (omega (arith, pow_pos w, pow_pos v))

module _ (named : ℕ → Bool) (temps : ℕ) where
  module _ (D : ℕ → Bool) (w : ℕ) (w64 : w ≤ 64) where
    r_plus : {n : ℕ} (a : CExpr) → Reads named temps D n a → Reads named temps D (suc n) (is_plus_c w a)
    r_plus a h = two Less a (Num (2 ^ (w - 1))) h (number (2 ^ (w - 1)) (half_fits w w64))

    pub r_mask : {n : ℕ} (a : CExpr) → Reads named temps D n a → Reads named temps D (suc n) (masked_c w a)
    r_mask a h = two Both a (Num (2 ^ w - 1)) h (number (2 ^ w - 1) (mask_fits w w64))

    r_opposite : {n : ℕ} (a : CExpr) → Reads named temps D n a → Reads named temps D (suc (suc n)) (opposite_c w a)
    r_opposite a h = r_mask (Op Minus (Num 0) a) (two Minus (Num 0) a (number 0 (omega arith)) h)

    r_complement : {n : ℕ} (a : CExpr) → Reads named temps D n a → Reads named temps D (suc n) (complement_c w a)
    r_complement a h = two Minus (Num (2 ^ w - 1)) a (number (2 ^ w - 1) (mask_fits w w64)) h

    -- an operand that stands at any depth
    r_size : (n : ℕ) (a : CExpr) → ((k : ℕ) → Reads named temps D k a)
        → Reads named temps D (suc (suc (suc n))) (size_c w a)
    r_size n a h =
        three (is_plus_c w a) a (opposite_c w a) (r_plus a (h (suc n))) (h (suc (suc n))) (r_opposite a (h n))

    r_same : (n : ℕ) (a b : CExpr) → ((k : ℕ) → Reads named temps D k a) → ((k : ℕ) → Reads named temps D k b)
        → Reads named temps D (suc (suc n)) (same_sign_c w a b)
    r_same n a b h g = two Same (is_plus_c w a) (is_plus_c w b) (r_plus a (h n)) (r_plus b (g n))

    r_shifted : (n : ℕ) (a b : CExpr) → Reads named temps D n a → ((k : ℕ) → Reads named temps D k b)
        → Reads named temps D (suc (suc n)) (shifted_right_c w a b)
    r_shifted n a b h g =
        three (Op Less b (Num w)) (Op Down a b) (Num 0) (two Less b (Num w) (g n) (number w (omega arith))) (two Down a b h (g n))
        (number 0 (omega arith))

    r_sizes : (n : ℕ) (op : COp) (a b : CExpr) → ((k : ℕ) → Reads named temps D k a)
        → ((k : ℕ) → Reads named temps D k b)
        → Reads named temps D (suc (suc (suc (suc n)))) (Op op (size_c w a) (size_c w b))
    r_sizes n op a b h g = two op (size_c w a) (size_c w b) (r_size n a h) (r_size n b g)

    r_binary : (op : Bin) (a b : CExpr) → ((k : ℕ) → Reads named temps D k a) → ((k : ℕ) → Reads named temps D k b)
        → Reads named temps D most_nesting (binary_c op w a b)
    unfolding binary_c
    r_binary Add a b h g = r_mask (Op Plus a b) (two Plus a b (h 5) (g 5))
    r_binary Sub a b h g = r_mask (Op Minus a b) (two Minus a b (h 5) (g 5))
    r_binary Mul a b h g = r_mask (Op Times a b) (two Times a b (h 5) (g 5))
    r_binary DivU a b h g = two Over a b (h 6) (g 6)
    r_binary DivS a b h g =
        let q = Op Over (size_c w a) (size_c w b) in
        three (same_sign_c w a b) q (opposite_c w q) (r_same 4 a b h g) (r_sizes 2 Over a b h g)
        (r_opposite q (r_sizes 0 Over a b h g))
    r_binary RemU a b h g = two Rest a b (h 6) (g 6)
    r_binary RemS a b h g =
        let q = Op Rest (size_c w a) (size_c w b) in
        three (is_plus_c w a) q (opposite_c w q) (r_plus a (h 5)) (r_sizes 2 Rest a b h g)
        (r_opposite q (r_sizes 0 Rest a b h g))
    r_binary And a b h g = two Both a b (h 6) (g 6)
    r_binary Or a b h g = two Either a b (h 6) (g 6)
    r_binary Xor a b h g = two Differ a b (h 6) (g 6)
    r_binary Shl a b h g =
        three (Op Less b (Num w)) (masked_c w (Op Up a b)) (Num 0) (two Less b (Num w) (g 5) (number w (omega arith)))
        (r_mask (Op Up a b) (two Up a b (h 4) (g 4))) (number 0 (omega arith))
    r_binary ShrU a b h g = r_shifted 5 a b (h 5) g
    r_binary ShrS a b h g =
        let m = shifted_right_c w (complement_c w a) b in
        three (is_plus_c w a) (shifted_right_c w a b) (complement_c w m) (r_plus a (h 5)) (r_shifted 4 a b (h 4) g)
        (r_complement m (r_shifted 3 (complement_c w a) b (r_complement a (h 2)) g))
    r_binary Eq a b h g = two Same a b (h 6) (g 6)
    r_binary Ne a b h g = two Other a b (h 6) (g 6)
    r_binary LtU a b h g = two Less a b (h 6) (g 6)
    r_binary LtS a b h g =
        three (same_sign_c w a b) (Op Less a b) (is_plus_c w b) (r_same 4 a b h g) (two Less a b (h 5) (g 5))
        (r_plus b (g 5))
    r_binary LeU a b h g = two AtMost a b (h 6) (g 6)
    r_binary LeS a b h g =
        three (same_sign_c w a b) (Op AtMost a b) (is_plus_c w b) (r_same 4 a b h g) (two AtMost a b (h 5) (g 5))
        (r_plus b (g 5))

    r_unary : (op : Un) (a : CExpr) → ((k : ℕ) → Reads named temps D k a)
        → Reads named temps D most_nesting (unary_c op w a)
    unfolding unary_c
    r_unary Not a h = r_complement a (h 6)
    r_unary Neg a h = r_opposite a (h 5)

  -- all that D has, F has
  abbrev pub More : (ℕ → Bool) → (ℕ → Bool) → Type 0
  More D F = (i : ℕ) → D i ≡ true → F i ≡ true

  pub more_set : (D : ℕ → Bool) (k : ℕ) → More D (with_temp D k)
  more_set D k i h = by (k == i)
    where
      by : (t : Bool) → (if t then true else D i) ≡ true
      by true = refl
      by false = h

  pub now_set : (D : ℕ → Bool) (k : ℕ) → with_temp D k k ≡ true
  now_set D k = ap (λ t. if t then true else D k) (eq-eqb k k refl)

  r_cell : (zero_cell : Option ℕ) (D : ℕ → Bool) (n c : ℕ) → is_nameable zero_cell named c ≡ true
      → Reads named temps D n (cell_c zero_cell c)
  r_cell None D n c h = a_cell c h
  r_cell (Some z) D n c h = by (c == z) h
    where
      by : (t : Bool) → (t || named c) ≡ true → Reads named temps D n (if t then Num 0 else Of (CellVar c))
      by true h = number 0 (omega arith)
      by false h = a_cell c h

  tidy_guard : (t : Bool) (pc k n : ℕ) (D E : ℕ → Bool) (rest : List Stmt) → pc < 2 ^ 32 → k < temps → D k ≡ true
      → Tidy named temps (suc n) D rest E → Tidy named temps (suc n) D (guarded t pc k rest) E
  tidy_guard false pc k n D E rest pc32 lt d h = h
  tidy_guard true pc k n D E rest pc32 lt d h =
      tests {F = D} (Op Same (temp k) (Num 0)) (two Same (temp k) (Num 0) (a_temp k lt d) (number 0 (omega arith)))
      (stops 4 (Num pc) (omega arith) (number pc (omega (arith, pc32))) (ends (λ i e. e))) h

  pub k_in : (t : Term) (k : ℕ) → k + need t ≤ temps → k < temps
  k_in t k h = omega (arith, needs_one t)

  set_last : (n k : ℕ) (D F E : ℕ → Bool) (e : CExpr) (rest : List Stmt) → k < temps → More D F
      → Reads named temps F most_nesting e → ((G : ℕ → Bool) → More D G → G k ≡ true → Tidy named temps n G rest E)
      → Tidy named temps n F (Set (Temp k) e ∷ rest) E
  set_last n k D F E e rest lt m r go =
      sets_temp k e lt r (go (with_temp F k) (λ i h. more_set F k i (m i h)) (now_set F k))

  pub tidy : (m : Machine) → AreWidths m.widths → (pc : ℕ) → pc < 2 ^ 32 → (t : Term) (k n : ℕ) (D E : ℕ → Bool) (rest : List Stmt) → IsSoundTerm m.widths t
      → NamesOnly (is_nameable m.zero named) t → k + need t ≤ temps
      → ((F : ℕ → Bool) → More D F → F k ≡ true → Tidy named temps (suc n) F rest E)
      → Tidy named temps (suc n) D (code m pc t k rest) E
  tidy m ok pc pc32 (Const w x) k n D E rest s u room go =
      sets_temp k (Num x) (omega arith) (number x (in_word x w s.0.1 s.1)) (go (with_temp D k) (more_set D k) (now_set D k))
  tidy m ok pc pc32 (Cell c) k n D E rest s u room go =
      sets_temp k (cell_c m.zero c) (omega arith) (r_cell m.zero D most_nesting c u)
      (go (with_temp D k) (more_set D k) (now_set D k))
  tidy m ok pc pc32 (Load b a) k n D E rest s u room go = tidy m ok pc pc32 a k n D E (LoadInto (Temp k) b (temp k) ∷ rest) s.0 u room
      (λ F more d. loads k b (temp k) (k_in a k room) s.2 (a_temp k (k_in a k room) d)
      (go (with_temp F k) (λ i h. more_set F k i (more i h)) (now_set F k)))
  tidy m ok pc pc32 (Unary op a) k n D E rest s u room go =
      tidy m ok pc pc32 a k n D E (Set (Temp k) (unary_c op (width_of m.widths a) (temp k)) ∷ rest) s u room
      (λ F more d. set_last (suc n) k D F E (unary_c op (width_of m.widths a) (temp k)) rest (k_in a k room) more
      (r_unary F (width_of m.widths a) (is_width m.widths ok a s).1 op (temp k) (λ j. a_temp k (k_in a k room) d)) go)
  tidy m ok pc pc32 (Binary op a b) k n D E rest s u room go =
      let e = binary_c op (width_of m.widths a) (temp k) (temp (k + 1)) in
      let ka = k_in a k (omega arith) in
      let kb = k_in b (k + 1) (omega arith) in
      tidy m ok pc pc32 a k n D E (code m pc b (k + 1) (guarded (is_division op) pc (k + 1) (Set (Temp k) e ∷ rest))) s.0 u.0
      (omega arith)
      (λ F more d. tidy m ok pc pc32 b (k + 1) n F E (guarded (is_division op) pc (k + 1) (Set (Temp k) e ∷ rest)) s.1 u.1
      (omega arith)
      (λ G more2 d2. tidy_guard (is_division op) pc (k + 1) n G E (Set (Temp k) e ∷ rest) pc32 kb d2
      (set_last (suc n) k D G E e rest ka (λ i h. more2 i (more i h))
      (r_binary G (width_of m.widths a) (is_width m.widths ok a s.0).1 op (temp k) (temp (k + 1)) (λ j. a_temp k ka (more2 k d))
      (λ j. a_temp (k + 1) kb d2)) go)))
  tidy m ok pc pc32 (Slice a lo hi) k n D E rest s u room go =
      let e = bits_c lo hi (temp k) in
      let wide = (is_width m.widths ok a s.0).1 in
      tidy m ok pc pc32 a k n D E (Set (Temp k) e ∷ rest) s.0 u room
      (λ F more d. set_last (suc n) k D F E e rest (k_in a k room) more
      (r_mask F (hi + 1 - lo) (omega (arith, wide, s.2)) (Op Down (temp k) (Num lo))
      (two Down (temp k) (Num lo) (a_temp k (k_in a k room) d) (number lo (omega (arith, wide, s.1, s.2))))) go)
  tidy m ok pc pc32 (Zext w a) k n D E rest s u room go = tidy m ok pc pc32 a k n D E rest s.0 u room go
  tidy m ok pc pc32 (Sext w a) k n D E rest s u room go =
      let v = width_of m.widths a in
      let e = sign_extended_c v w (temp k) in
      tidy m ok pc pc32 a k n D E (Set (Temp k) e ∷ rest) s.0 u room
      (λ F more d. let lt = k_in a k room in
      set_last (suc n) k D F E e rest lt more
      (three (is_plus_c v (temp k)) (temp k) (Op Plus (temp k) (Num (2 ^ w - 2 ^ v)))
      (r_plus F v (omega (arith, s.1, s.2)) (temp k) (a_temp k lt d)) (a_temp k lt d)
      (two Plus (temp k) (Num (2 ^ w - 2 ^ v)) (a_temp k lt d) (number (2 ^ w - 2 ^ v) (sign_fits v w s.2)))) go)
  tidy m ok pc pc32 (Choice c a b) k n D E rest s u room go =
      let e = Choose (temp k) (temp (k + 1)) (temp (k + 2)) in
      let kc = k_in c k (omega arith) in
      let ka = k_in a (k + 1) (omega arith) in
      let kb = k_in b (k + 2) (omega arith) in
      tidy m ok pc pc32 c k n D E (code m pc a (k + 1) (code m pc b (k + 2) (Set (Temp k) e ∷ rest))) s.0 u.0 (omega arith)
      (λ F more d. tidy m ok pc pc32 a (k + 1) n F E (code m pc b (k + 2) (Set (Temp k) e ∷ rest)) s.1 u.1 (omega arith)
      (λ G more2 d2. tidy m ok pc pc32 b (k + 2) n G E (Set (Temp k) e ∷ rest) s.2 u.2 (omega arith)
      (λ H more3 d3. set_last (suc n) k D H E e rest kc (λ i h. more3 i (more2 i (more i h)))
      (three (temp k) (temp (k + 1)) (temp (k + 2)) (a_temp k kc (more3 k (more2 k d)))
      (a_temp (k + 1) ka (more3 (k + 1) d2)) (a_temp (k + 2) kb d3)) go)))
