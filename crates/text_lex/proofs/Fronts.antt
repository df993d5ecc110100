-- The longest token at the front of a text, by the kind of its first byte.
use Rattle.std.proofs.Common.{◌≡◌, ℕ, ◌+◌, ◌-◌, ◌<◌, ◌≤◌, Bool, true, false, zero, suc, cond, ◌&&◌, List, [], ◌∷◌, length, take, drop, get_or, Option, Some, None, refl, sym, ap, ◌∙◌, subst, arith, length-take-le}
use Rattle.std.specs.Prelude.{slice_get, nat_le, min, ◌==◌}
use Rattle.std.specs.List.{list_all, prefix_len, position_from}
use Rattle.std.specs.Option.{option_or}
use Rattle.std.specs.Str.{bytes_eq}
use Rattle.std.specs.Str.Parse.{digits_value}
use Rattle.std.proofs.lemmas.Bool.{and_parts, leb-true, eqb-true, false_from_ne_true}
use Rattle.std.proofs.lemmas.Slice.Eq.{bytes_eq-Decides}
use Rattle.std.proofs.lemmas.List.Sums.{prefix_len-le-length}
use Rattle.scan.specs.Scan.{longer, longest, front}
use Rattle.scan.proofs.Longest.{longest_is, longest_cut}
use Rattle.scan.proofs.Words.{run_passes, run_stops}
use Rattle.text_lex.specs.declared.token.Token.{Token}
use Rattle.text_lex.specs.declared.token.Token.TheVariants.{Name, Sign, Bad}
use Rattle.text_lex.specs.Bytes.{is_blank, is_letter, is_decimal, is_hexadecimal, is_name_byte}
use Rattle.text_lex.specs.Tokens.{signs, sign_index, is_joined, sign_at, sign_of, number_token, is_hexadecimal_number, number_of, bad_byte, token_of}

-- a letter begins a name
name_at : (x : ℕ) (xs : List ℕ) (n : ℕ) → is_letter x ≡ true → n ≡ 1 + prefix_len is_name_byte xs → front token_of (x ∷ xs) ≡ Some (n, Name (take n (x ∷ xs)))
unfolding token_of
name_at x xs n h e =
    let short = prefix_len-le-length is_name_byte xs in
    let m : ℕ = prefix_len is_name_byte xs in
    let one : n ≡ suc m = omega arith in
    let whole : token_of (take (suc m) (x ∷ xs)) (slice_get (x ∷ xs) (suc m)) ≡ Some (Name (take (suc m) (x ∷ xs))) = rw (h, run_passes is_name_byte xs m (omega arith)) refl in
    longest_is token_of (length (x ∷ xs)) n (x ∷ xs) (Name (take n (x ∷ xs))) (omega arith) (omega arith)
    (rw one whole)
    (λ k a b. let before : k ≡ suc (k - 1) = omega arith in rw before (rw (h, run_stops is_name_byte xs (k - 1) (omega arith) (omega arith)) refl))

pub name_front : (text : List ℕ) (n : ℕ) → 0 < length text → is_letter (get_or text 0 0) ≡ true → n ≡ prefix_len is_name_byte text → front token_of text ≡ Some (n, Name (take n text))
name_front [] n l h e = absurd (omega arith)
name_front (x ∷ xs) n l h e = name_at x xs n h (e ∙ rw h refl)

-- a digit begins a number
number_word : (x : ℕ) (xs : List ℕ) (k : ℕ) (next : Option ℕ) → 0 < k → is_letter x ≡ false → is_decimal x ≡ true → token_of (take k (x ∷ xs)) next ≡ number_of (take k (x ∷ xs)) next
unfolding token_of
number_word x xs k next l f h = let one : k ≡ suc (k - 1) = omega arith in rw (one, f, h) refl

-- a longer word has the same first three bytes
never_hexadecimal : (text : List ℕ) (k : ℕ) → is_hexadecimal_number (take 3 text) ≡ false → is_hexadecimal_number (take k text) ≡ false
never_hexadecimal [] zero h = refl
never_hexadecimal [] (suc k) h = refl
never_hexadecimal (x ∷ xs) zero h = refl
never_hexadecimal (x ∷ []) (suc zero) h = refl
never_hexadecimal (x ∷ []) (suc (suc k)) h = refl
never_hexadecimal (x ∷ y ∷ xs) (suc zero) h = refl
never_hexadecimal (x ∷ y ∷ []) (suc (suc zero)) h = refl
never_hexadecimal (x ∷ y ∷ []) (suc (suc (suc k))) h = refl
never_hexadecimal (x ∷ y ∷ d ∷ ds) (suc (suc zero)) h = refl
never_hexadecimal (x ∷ y ∷ d ∷ ds) (suc (suc (suc k))) h = by (x == 48) (y == 120) (is_hexadecimal d) h
  where
    by : (p q r : Bool) → (p && q && (r && true)) ≡ false → (p && q && (r && list_all is_hexadecimal (take k ds))) ≡ false
    by true true true h = cc
    by true true false h = refl
    by true false r h = refl
    by false q r h = refl

pub decimal_front : (text : List ℕ) (n : ℕ) → 0 < length text → is_letter (get_or text 0 0) ≡ false → is_decimal (get_or text 0 0) ≡ true → is_hexadecimal_number (take 3 text) ≡ false → n ≡ prefix_len is_decimal text → front token_of text ≡ Some (n, number_token (digits_value 10 (take n text)) (slice_get text n))
decimal_front [] n l f h none e = absurd (omega arith)
decimal_front (x ∷ xs) n l f h none e =
    let short = prefix_len-le-length is_decimal (x ∷ xs) in
    let some : prefix_len is_decimal (x ∷ xs) ≡ 1 + prefix_len is_decimal xs = rw h refl in
    longest_is token_of (length (x ∷ xs)) n (x ∷ xs) (number_token (digits_value 10 (take n (x ∷ xs))) (slice_get (x ∷ xs) n)) (omega arith) (omega arith)
    (number_word x xs n _ (omega arith) f h ∙ ap (λ t. cond t (Some (number_token (digits_value 10 (take n (x ∷ xs))) (slice_get (x ∷ xs) n))) (cond (is_hexadecimal_number (take n (x ∷ xs))) (Some (number_token (digits_value 16 (drop 2 (take n (x ∷ xs)))) (slice_get (x ∷ xs) n))) None)) (run_passes is_decimal (x ∷ xs) n (omega arith)))
    (λ k a b. number_word x xs k _ (omega arith) f h ∙ rw (run_stops is_decimal (x ∷ xs) k (omega arith) b, never_hexadecimal (x ∷ xs) k none) refl)

hexadecimal_at : (d : ℕ) (ds : List ℕ) (n : ℕ) → is_hexadecimal d ≡ true → n ≡ 2 + prefix_len is_hexadecimal (d ∷ ds) → front token_of (48 ∷ 120 ∷ d ∷ ds) ≡ Some (n, number_token (digits_value 16 (take (n - 2) (d ∷ ds))) (slice_get (48 ∷ 120 ∷ d ∷ ds) n))
hexadecimal_at d ds n h e =
    let text : List ℕ = 48 ∷ 120 ∷ d ∷ ds in
    let short = prefix_len-le-length is_hexadecimal ds in
    let m : ℕ = prefix_len is_hexadecimal ds in
    let some : prefix_len is_hexadecimal (d ∷ ds) ≡ 1 + prefix_len is_hexadecimal ds = rw h refl in
    let size : n ≡ suc (suc (suc m)) = omega arith in
    let digits : suc (suc (suc m)) - 2 ≡ suc m = omega arith in
    longest_is token_of (length text) n text (number_token (digits_value 16 (take (n - 2) (d ∷ ds))) (slice_get text n)) (omega arith) (omega arith)
    (number_word 48 (120 ∷ d ∷ ds) n _ (omega arith) refl refl ∙ rw (size, digits) (rw (h, run_passes is_hexadecimal ds m (omega arith)) refl))
    (λ k a b.
    let three : k ≡ suc (suc (suc (k - 3))) = omega arith in
    number_word 48 (120 ∷ d ∷ ds) k _ (omega arith) refl refl ∙ rw three (rw (h, run_stops is_hexadecimal ds (k - 3) (omega arith) (omega arith)) refl))

pub hexadecimal_front : (text : List ℕ) (n : ℕ) → is_hexadecimal_number (take 3 text) ≡ true → n ≡ 2 + prefix_len is_hexadecimal (drop 2 text) → front token_of text ≡ Some (n, number_token (digits_value 16 (take (n - 2) (drop 2 text))) (slice_get text n))
hexadecimal_front [] n h e = cc
hexadecimal_front (x ∷ []) n h e = cc
hexadecimal_front (x ∷ y ∷ []) n h e = cc
hexadecimal_front (x ∷ y ∷ d ∷ ds) n h e =
    let parts = and_parts ((x == 48) && (y == 120)) (is_hexadecimal d && true) h in
    let firsts = and_parts (x == 48) (y == 120) parts.0 in
    let zero_is : x ≡ 48 = eqb-true x 48 firsts.0 in
    let x_is : y ≡ 120 = eqb-true y 120 firsts.1 in
    rw (zero_is, x_is) (hexadecimal_at d ds n (and_parts (is_hexadecimal d) true parts.1).0 e)

-- no sign has more than five bytes
no_long_sign : (w : List ℕ) → 5 < length w → sign_index w ≡ None
unfolding sign_index
no_long_sign w l = by 0 signs refl
  where
    by : (i : ℕ) (ss : List (List ℕ)) → list_all (λ s. nat_le (length s) 5) ss ≡ true → position_from (λ s. bytes_eq s w) i ss ≡ None
    by i [] h = refl
    by i (s ∷ ss) h =
        let parts = and_parts (nat_le (length s) 5) (list_all (λ s. nat_le (length s) 5) ss) h in
        let other = false_from_ne_true (bytes_eq s w) (λ e. let same = ap length ((bytes_eq-Decides s w).0 e) in absurd (omega (arith, leb-true (length s) 5 parts.0))) in
        rw other (by (i + 1) ss parts.1)

-- no sign, before a byte of a name or not
pub unless_joined : (t : Bool) (w : List ℕ) → sign_index w ≡ None → cond t None (sign_at (sign_index w)) ≡ None
unless_joined true w e = refl
unless_joined false w e = ap sign_at e

module _ (x : ℕ) (xs : List ℕ) (letter : is_letter x ≡ false) (digit : is_decimal x ≡ false) where
  sign_word : (k : ℕ) (next : Option ℕ) → 0 < k → token_of (take k (x ∷ xs)) next ≡ option_or (sign_of (take k (x ∷ xs)) next) (bad_byte (take k (x ∷ xs)))
  unfolding token_of
  sign_word k next l = let one : k ≡ suc (k - 1) = omega arith in rw (one, letter, digit) refl

  many_not_bad : (w : List ℕ) → 1 < length w → bad_byte w ≡ None
  many_not_bad [] l = refl
  many_not_bad (b ∷ []) l = absurd (omega arith)
  many_not_bad (b ∷ c ∷ w) l = refl

  no_long_word : (k : ℕ) (next : Option ℕ) → 5 < k → k ≤ length (x ∷ xs) → token_of (take k (x ∷ xs)) next ≡ None
  no_long_word k next l m =
      let size = length-take-le k (x ∷ xs) m in
      let w : List ℕ = take k (x ∷ xs) in
      sign_word k next (omega arith) ∙ rw (unless_joined (is_joined w next) w (no_long_sign w (omega arith)), many_not_bad w (omega arith)) refl

  -- words of more than five bytes need no look
  starts_at : (len : ℕ) → len ≡ min (length (x ∷ xs)) 5 → front token_of (x ∷ xs) ≡ longest token_of len (x ∷ xs)
  starts_at len e = longest_cut token_of (length (x ∷ xs)) len (x ∷ xs) (omega arith) (λ k a b. no_long_word k _ (omega arith) b)

  -- a sign, which no longer word is
  sign_here : (n : ℕ) (t : Token) → sign_of (take (suc n) (x ∷ xs)) (slice_get (x ∷ xs) (suc n)) ≡ Some t → longest token_of (suc n) (x ∷ xs) ≡ Some (suc n, t)
  unfolding longest
  sign_here n t e = ap (λ o. longer o (suc n) (longest token_of n (x ∷ xs))) (sign_word (suc n) _ (omega arith) ∙ ap (λ o. option_or o (bad_byte (take (suc n) (x ∷ xs)))) e)

  -- no sign, and a shorter word may be one
  none_here : (n : ℕ) → 0 < n → suc n ≤ length (x ∷ xs) → sign_of (take (suc n) (x ∷ xs)) (slice_get (x ∷ xs) (suc n)) ≡ None → longest token_of (suc n) (x ∷ xs) ≡ longest token_of n (x ∷ xs)
  unfolding longest
  none_here n p l e = ap (λ o. longer o (suc n) (longest token_of n (x ∷ xs))) (sign_word (suc n) _ (omega arith) ∙ (λ i. option_or (e i) (many_not_bad (take (suc n) (x ∷ xs)) (omega (arith, length-take-le (suc n) (x ∷ xs) l)) i)))

  -- no sign at all
  bad_here : is_blank x ≡ false → sign_of (take 1 (x ∷ xs)) (slice_get (x ∷ xs) 1) ≡ None → longest token_of 1 (x ∷ xs) ≡ Some (1, Bad)
  unfolding longest
  bad_here h e = ap (λ o. longer o 1 None) (sign_word 1 _ (omega arith) ∙ (λ i. option_or (e i) (cond (h i) None (Some Bad))))

pub sign_starts : (text : List ℕ) (len : ℕ) → 0 < length text → is_letter (get_or text 0 0) ≡ false → is_decimal (get_or text 0 0) ≡ false → len ≡ min (length text) 5 → front token_of text ≡ longest token_of len text
sign_starts [] len l f h e = absurd (omega arith)
sign_starts (x ∷ xs) len l f h e = starts_at x xs f h len e

pub sign_found : (text : List ℕ) (len k : ℕ) → 0 < length text → is_letter (get_or text 0 0) ≡ false → is_decimal (get_or text 0 0) ≡ false → 0 < len → sign_at (Some k) ≡ sign_of (take len text) (slice_get text len) → longest token_of len text ≡ Some (len, Sign k)
sign_found [] len k l f h p e = absurd (omega arith)
sign_found (x ∷ xs) len k l f h p e = let one : len ≡ suc (len - 1) = omega arith in subst (λ n. sign_at (Some k) ≡ sign_of (take n (x ∷ xs)) (slice_get (x ∷ xs) n) → longest token_of n (x ∷ xs) ≡ Some (n, Sign k)) (sym one) (λ q. sign_here x xs f h (len - 1) (Sign k) (sym q)) e

pub sign_shorter : (text : List ℕ) (len : ℕ) → is_letter (get_or text 0 0) ≡ false → is_decimal (get_or text 0 0) ≡ false → 1 < len → len ≤ length text → sign_at None ≡ sign_of (take len text) (slice_get text len) → longest token_of len text ≡ longest token_of (len - 1) text
sign_shorter [] len f h p l e = absurd (omega arith)
sign_shorter (x ∷ xs) len f h p l e = let one : len ≡ suc (len - 1) = omega arith in subst (λ n. n ≤ length (x ∷ xs) → sign_at None ≡ sign_of (take n (x ∷ xs)) (slice_get (x ∷ xs) n) → longest token_of n (x ∷ xs) ≡ longest token_of (len - 1) (x ∷ xs)) (sym one) (λ m q. none_here x xs f h (len - 1) (omega arith) m (sym q)) l e

pub sign_bad : (text : List ℕ) → 0 < length text → is_letter (get_or text 0 0) ≡ false → is_decimal (get_or text 0 0) ≡ false → is_blank (get_or text 0 0) ≡ false → sign_at None ≡ sign_of (take 1 text) (slice_get text 1) → longest token_of 1 text ≡ Some (1, Bad)
sign_bad [] l f h b e = absurd (omega arith)
sign_bad (x ∷ xs) l f h b e = bad_here x xs f h b (sym e)
