-- What the longest token in front is: by its first byte a name, a number, a sign or none.
use Rattle.std.proofs.Common.{◌≡◌, ◌≢◌, ℕ, ◌+◌, ◌-◌, ◌<◌, ◌≤◌, Bool, true, false, zero, suc, cond, ◌&&◌, List, [], ◌∷◌, length, take, drop, get_or, Option, Some, None, refl, sym, ap, ◌∙◌, subst, arith, ⊎_elim, length-drop, length-take-le, length-take}
use Rattle.std.specs.Prelude.{codes, nat_le, nat_eq}
use Rattle.std.specs.Char.{is_ascii_digit}
use Rattle.std.specs.List.{list_all, list_any, prefix_len, starts_with}
use Rattle.std.specs.Str.{bytes_eq, all_ascii_digits}
use Rattle.std.specs.Str.Parse.{digits_value}
use Rattle.std.proofs.lemmas.Bool.{and_parts, leb-true, cases_eq, false_from_ne_true, true≢false}
use Rattle.std.proofs.lemmas.Slice.Eq.{bytes_eq-Decides}
use Rattle.std.proofs.lemmas.List.{take-take, drop-take}
use Rattle.std.proofs.lemmas.List.Sums.{prefix_len-le-length}
use Rattle.scan.specs.Scan.{longest, front}
use Rattle.scan.proofs.Longest.{longest_is, longest_cut}
use Rattle.c_text.specs.Tokens.{Token, name, plain, long, sign, is_letter, is_word, is_sign, signs, number_of, digit_count, word_token, token_of}

-- ---- a front whose bytes all pass a test
pub front_passes : (p : ℕ → Bool) (text : List ℕ) (k : ℕ) → k ≤ prefix_len p text → list_all p (take k text) ≡ true
front_passes p text zero l = refl
front_passes p [] (suc k) l = refl
front_passes p (x ∷ text) (suc k) l = by (p x) (front_passes p text k) l
  where
    by : (t : Bool) → (k ≤ prefix_len p text → list_all p (take k text) ≡ true) → suc k ≤ cond t (1 + prefix_len p text) 0 → (t && list_all p (take k text)) ≡ true
    by true ih l = ih (omega arith)
    by false ih l = absurd (omega arith)

front_stops : (p : ℕ → Bool) (text : List ℕ) (k : ℕ) → prefix_len p text < k → k ≤ length text → list_all p (take k text) ≡ false
front_stops p text zero l h = absurd (omega arith)
front_stops p [] (suc k) l h = absurd (omega arith)
front_stops p (x ∷ text) (suc k) l h = by (p x) (front_stops p text k) l
  where
    by : (t : Bool) → (prefix_len p text < k → k ≤ length text → list_all p (take k text) ≡ false) → cond t (1 + prefix_len p text) 0 < suc k → (t && list_all p (take k text)) ≡ false
    by true ih l = ih (omega arith) (omega arith)
    by false ih l = refl

front_of_take : (p : ℕ → Bool) (text : List ℕ) (k : ℕ) → prefix_len p text ≤ k → prefix_len p (take k text) ≡ prefix_len p text
front_of_take p [] zero l = refl
front_of_take p [] (suc k) l = refl
front_of_take p (x ∷ text) zero l = by (p x) l
  where
    by : (t : Bool) → cond t (1 + prefix_len p text) 0 ≤ 0 → 0 ≡ cond t (1 + prefix_len p text) 0
    by true l = absurd (omega arith)
    by false l = refl
front_of_take p (x ∷ text) (suc k) l = by (p x) (front_of_take p text k) l
  where
    by : (t : Bool) → (prefix_len p text ≤ k → prefix_len p (take k text) ≡ prefix_len p text) → cond t (1 + prefix_len p text) 0 ≤ suc k → cond t (1 + prefix_len p (take k text)) 0 ≡ cond t (1 + prefix_len p text) 0
    by true ih l = ap (λ n. 1 + n) (ih (omega arith))
    by false ih l = refl

pub front_is_digits : (text : List ℕ) (n : ℕ) → n ≡ digit_count text → all_ascii_digits (take n text) ≡ true
front_is_digits text n e = front_passes is_ascii_digit text n (omega arith)

-- ---- names
pub name_in_front : (text : List ℕ) (n : ℕ) → 0 < length text → is_letter (get_or text 0 0) ≡ true → n ≡ 1 + prefix_len is_word (drop 1 text) → front token_of text ≡ Some (n, name (take n text))
unfolding word_token
name_in_front [] n l h e = absurd (omega arith)
name_in_front (x ∷ rest) n l h e =
    let short = prefix_len-le-length is_word rest in
    let one : n ≡ suc (prefix_len is_word rest) = omega arith in
    let whole : word_token (take (suc (prefix_len is_word rest)) (x ∷ rest)) ≡ Some (name (take (suc (prefix_len is_word rest)) (x ∷ rest))) = rw (h, front_passes is_word rest (prefix_len is_word rest) (omega arith)) refl in
    longest_is token_of (length (x ∷ rest)) n (x ∷ rest) (name (take n (x ∷ rest))) (omega arith) (omega arith)
    (rw one whole)
    (λ k a b. let before : k ≡ suc (k - 1) = omega arith in rw before (rw (h, front_stops is_word rest (k - 1) (omega arith) (omega arith)) refl))

pub name_fits : (text : List ℕ) (n : ℕ) → 0 < length text → n ≡ prefix_len is_word (drop 1 text) → 1 + n ≤ length text
name_fits text n l e = omega (arith, e, prefix_len-le-length is_word (drop 1 text), length-drop 1 text)

-- ---- numbers: their digits, and so many bytes behind them
number_token : (x : ℕ) (rest : List ℕ) (m k : ℕ) → is_letter x ≡ false → is_ascii_digit x ≡ true → k ≡ prefix_len is_ascii_digit rest + m → word_token (x ∷ take k rest) ≡ number_of (x ∷ take (prefix_len is_ascii_digit rest) rest) (take m (drop (prefix_len is_ascii_digit rest) rest))
unfolding word_token
number_token x rest m k f h e =
    let p : ℕ = prefix_len is_ascii_digit rest in
    let count : 1 + prefix_len is_ascii_digit (take k rest) ≡ suc p = omega (arith, front_of_take is_ascii_digit rest k (omega arith)) in
    let front_is : take p (take k rest) ≡ take p rest = take-take p k rest (omega arith) in
    let back_is : drop p (take k rest) ≡ take m (drop p rest) = ap (λ n. drop p (take n rest)) e ∙ drop-take p m rest in
    let cut : (d : ℕ) → d ≡ suc p → number_of (take d (x ∷ take k rest)) (drop d (x ∷ take k rest)) ≡ number_of (x ∷ take p rest) (take m (drop p rest)) = λ d q. rw q (λ i. number_of (x ∷ front_is i) (back_is i)) in
    rw (f, h) (cut _ count)

-- digits with bytes behind them that are not the suffix are no token
number_with_more : (ds w : List ℕ) → 0 < length w → w ≢ codes "ull" → number_of ds w ≡ None
number_with_more ds [] l n = absurd (omega arith)
number_with_more ds (c ∷ cs) l n = rw (false_from_ne_true (bytes_eq (codes "ull") (c ∷ cs)) (λ e. n (sym ((bytes_eq-Decides (codes "ull") (c ∷ cs)).0 e)))) refl

of_size : (x k : ℕ) (rest : List ℕ) (o : Option Token) → 0 < k → word_token (x ∷ take (k - 1) rest) ≡ o → word_token (take k (x ∷ rest)) ≡ o
of_size x k rest o l e = let one : k ≡ suc (k - 1) = omega arith in rw one e

no_suffix_in : (m : ℕ) (w : List ℕ) → m ≤ length w → (m ≡ 3 → take 3 w ≢ codes "ull") → take m w ≢ codes "ull"
no_suffix_in m w l other e =
    let three : m ≡ 3 = omega (arith, length-take-le m w l, ap length e) in
    other three (subst (λ k. take k w ≡ codes "ull") three e)

first_is_digit : (x : ℕ) (rest : List ℕ) → 0 < digit_count (x ∷ rest) → is_ascii_digit x ≡ true
first_is_digit x rest l = by (is_ascii_digit x) l
  where
    by : (t : Bool) → 0 < cond t (1 + prefix_len is_ascii_digit rest) 0 → t ≡ true
    by true l = refl
    by false l = absurd (omega arith)

pub plain_in_front : (text : List ℕ) (n : ℕ) → is_letter (get_or text 0 0) ≡ false → 0 < digit_count text → n ≡ digit_count text → take 3 (drop n text) ≢ codes "ull" → front token_of text ≡ Some (n, plain (digits_value 10 (take n text)))
plain_in_front [] n f l e other = absurd (omega arith)
plain_in_front (x ∷ rest) n f l e other =
    let h = first_is_digit x rest l in
    let p : ℕ = prefix_len is_ascii_digit rest in
    let one : n ≡ suc p = e ∙ rw h (omega arith) in
    let within = prefix_len-le-length is_ascii_digit rest in
    let behind = length-drop p rest in
    let others : take 3 (drop p rest) ≢ codes "ull" = subst (λ k. take 3 (drop k (x ∷ rest)) ≢ codes "ull") one other in
    longest_is token_of (length (x ∷ rest)) n (x ∷ rest) (plain (digits_value 10 (take n (x ∷ rest)))) (omega arith) (omega arith)
    (rw one (number_token x rest 0 p f h (omega arith)))
    (λ k a b. of_size x k rest None (omega arith)
    (number_token x rest (k - n) (k - 1) f h (omega arith)
    ∙ number_with_more (x ∷ take p rest) (take (k - n) (drop p rest)) (omega (arith, length-take-le (k - n) (drop p rest) (omega arith))) (no_suffix_in (k - n) (drop p rest) (omega arith) (λ q. others))))

pub long_in_front : (text : List ℕ) (n : ℕ) → is_letter (get_or text 0 0) ≡ false → 0 < digit_count text → n ≡ digit_count text → take 3 (drop n text) ≡ codes "ull" → front token_of text ≡ Some (n + 3, long (digits_value 10 (take n text)))
long_in_front [] n f l e other = absurd (omega arith)
long_in_front (x ∷ rest) n f l e other =
    let h = first_is_digit x rest l in
    let p : ℕ = prefix_len is_ascii_digit rest in
    let one : n ≡ suc p = e ∙ rw h (omega arith) in
    let within = prefix_len-le-length is_ascii_digit rest in
    let behind = length-drop p rest in
    let others : take 3 (drop p rest) ≡ codes "ull" = subst (λ k. take 3 (drop k (x ∷ rest)) ≡ codes "ull") one other in
    let three : 3 ≤ length (drop p rest) = omega (arith, length-take 3 (drop p rest), ap length others) in
    longest_is token_of (length (x ∷ rest)) (n + 3) (x ∷ rest) (long (digits_value 10 (take n (x ∷ rest)))) (omega arith) (omega arith)
    (of_size x (n + 3) rest (Some (long (digits_value 10 (take n (x ∷ rest))))) (omega arith)
    (number_token x rest 3 (n + 3 - 1) f h (omega arith) ∙ ap (number_of (x ∷ take p rest)) others ∙ ap (λ k. Some (long (digits_value 10 (take k (x ∷ rest))))) (sym one)))
    (λ k a b. of_size x k rest None (omega arith)
    (number_token x rest (k - n) (k - 1) f h (omega arith)
    ∙ number_with_more (x ∷ take p rest) (take (k - n) (drop p rest)) (omega (arith, length-take-le (k - n) (drop p rest) (omega arith))) (no_suffix_in (k - n) (drop p rest) (omega arith) (λ q. absurd (omega arith)))))

-- `ull` stands behind the digits, or does not
pub suffix_stands : (text w : List ℕ) (n : ℕ) (r : Bool) → w ≡ drop n text → r ≡ starts_with nat_eq w (codes "ull") → r ≡ true → take 3 (drop n text) ≡ codes "ull"
suffix_stands text w n r b e t = ap (take 3) (sym b) ∙ sym ((bytes_eq-Decides (codes "ull") (take 3 w)).0 (sym e ∙ t))

pub no_suffix : (text w : List ℕ) (n : ℕ) (r : Bool) → w ≡ drop n text → r ≡ starts_with nat_eq w (codes "ull") → r ≡ false → take 3 (drop n text) ≢ codes "ull"
no_suffix text w n r b e t same = true≢false (sym ((bytes_eq-Decides (codes "ull") (take 3 w)).1 (sym (ap (take 3) b ∙ same))) ∙ sym e ∙ t)

-- ---- signs

-- a word of three bytes or more is none of the signs
sign_is_short : (w : List ℕ) → 2 < length w → is_sign w ≡ false
sign_is_short w l = by signs refl
  where
    by : (ss : List (List ℕ)) → list_all (λ s. nat_le (length s) 2) ss ≡ true → list_any (λ s. bytes_eq s w) ss ≡ false
    by [] h = refl
    by (s ∷ ss) h =
        let parts = and_parts (nat_le (length s) 2) (list_all (λ s. nat_le (length s) 2) ss) h in
        let other = false_from_ne_true (bytes_eq s w) (λ e. absurd (omega (arith, leb-true (length s) 2 parts.0, ap length ((bytes_eq-Decides s w).0 e)))) in
        rw other (by ss parts.1)

abbrev sign_where : List ℕ → Bool → Option Token
sign_where w b = cond b (Some (sign w)) None

sign_token : (x : ℕ) (rest : List ℕ) (k : ℕ) (b : Bool) → is_letter x ≡ false → is_ascii_digit x ≡ false → 0 < k → is_sign (take k (x ∷ rest)) ≡ b → word_token (take k (x ∷ rest)) ≡ sign_where (take k (x ∷ rest)) b
unfolding word_token
sign_token x rest k b f h l e = let one : k ≡ suc (k - 1) = omega arith in let same = rw one at e in rw one (rw (f, h, same) refl)

module _ (x : ℕ) (rest : List ℕ) (f : is_letter x ≡ false) (h : is_ascii_digit x ≡ false) where
  three_fail : (k : ℕ) → 2 < k → k ≤ length (x ∷ rest) → word_token (take k (x ∷ rest)) ≡ None
  three_fail k l m = sign_token x rest k false f h (omega arith) (sign_is_short (take k (x ∷ rest)) (omega (arith, length-take-le k (x ∷ rest) m)))

  pair_first : 2 ≤ length (x ∷ rest) → is_sign (take 2 (x ∷ rest)) ≡ true → front token_of (x ∷ rest) ≡ Some (2, sign (take 2 (x ∷ rest)))
  pair_first l e = longest_is token_of (length (x ∷ rest)) 2 (x ∷ rest) (sign (take 2 (x ∷ rest))) (omega arith) l (sign_token x rest 2 true f h (omega arith) e) (λ k a b. three_fail k a b)

  longer_fail : (2 ≤ length (x ∷ rest) → is_sign (take 2 (x ∷ rest)) ≡ false) → (k : ℕ) → 1 < k → k ≤ length (x ∷ rest) → word_token (take k (x ∷ rest)) ≡ None
  longer_fail none k a b = ⊎_elim (λ q. rw q (sign_token x rest 2 false f h (omega arith) (none (omega arith)))) (λ q. three_fail k (omega arith) b) (cases_eq k 2)

  point_first : (2 ≤ length (x ∷ rest) → is_sign (take 2 (x ∷ rest)) ≡ false) → is_sign (take 1 (x ∷ rest)) ≡ true → front token_of (x ∷ rest) ≡ Some (1, sign (take 1 (x ∷ rest)))
  point_first none e = longest_is token_of (length (x ∷ rest)) 1 (x ∷ rest) (sign (take 1 (x ∷ rest))) (omega arith) (omega arith) (sign_token x rest 1 true f h (omega arith) e) (longer_fail none)

  nothing_first : (2 ≤ length (x ∷ rest) → is_sign (take 2 (x ∷ rest)) ≡ false) → is_sign (take 1 (x ∷ rest)) ≡ false → front token_of (x ∷ rest) ≡ None
  unfolding longest
  nothing_first none e =
      longest_cut token_of (length (x ∷ rest)) 1 (x ∷ rest) (omega arith) (longer_fail none) ∙ rw (sign_token x rest 1 false f h (omega arith) e) refl

pub pair_in_front : (text : List ℕ) → is_letter (get_or text 0 0) ≡ false → is_ascii_digit (get_or text 0 0) ≡ false → 2 ≤ length text → is_sign (get_or text 0 0 ∷ get_or text 1 0 ∷ []) ≡ true → Some (2, sign (take 2 text)) ≡ front token_of text
pair_in_front [] f h l e = absurd (omega arith)
pair_in_front (x ∷ []) f h l e = absurd (omega arith)
pair_in_front (x ∷ y ∷ rest) f h l e = sym (pair_first x (y ∷ rest) f h l e)

pub pair_is_none : (text : List ℕ) → (2 ≤ length text → is_sign (get_or text 0 0 ∷ get_or text 1 0 ∷ []) ≡ false) → 2 ≤ length text → is_sign (take 2 text) ≡ false
pair_is_none [] none l = absurd (omega arith)
pair_is_none (x ∷ []) none l = absurd (omega arith)
pair_is_none (x ∷ y ∷ rest) none l = none l

pub point_in_front : (text : List ℕ) → 0 < length text → is_letter (get_or text 0 0) ≡ false → is_ascii_digit (get_or text 0 0) ≡ false → (2 ≤ length text → is_sign (get_or text 0 0 ∷ get_or text 1 0 ∷ []) ≡ false) → is_sign (get_or text 0 0 ∷ []) ≡ true → Some (1, sign (take 1 text)) ≡ front token_of text
point_in_front [] l f h none e = absurd (omega arith)
point_in_front (x ∷ rest) l f h none e = sym (point_first x rest f h (pair_is_none (x ∷ rest) none) e)

pub nothing_in_front : (text : List ℕ) → 0 < length text → is_letter (get_or text 0 0) ≡ false → is_ascii_digit (get_or text 0 0) ≡ false → (2 ≤ length text → is_sign (get_or text 0 0 ∷ get_or text 1 0 ∷ []) ≡ false) → is_sign (get_or text 0 0 ∷ []) ≡ false → None ≡ front token_of text
nothing_in_front [] l f h none e = absurd (omega arith)
nothing_in_front (x ∷ rest) l f h none e = sym (nothing_first x rest f h (pair_is_none (x ∷ rest) none) e)

pub end_in_front : (text : List ℕ) → length text ≡ 0 → None ≡ front token_of text
unfolding longest
end_in_front [] e = refl
end_in_front (x ∷ rest) e = absurd (omega arith)

pub digits_in_front : (text : List ℕ) → 0 < length text → is_ascii_digit (get_or text 0 0) ≡ true → 0 < digit_count text
digits_in_front [] l h = absurd (omega arith)
digits_in_front (x ∷ rest) l h = rw h (omega arith)
