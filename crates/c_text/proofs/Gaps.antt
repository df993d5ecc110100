-- A gap has the signs that it shows, and ends the word before it.
use Rattle.std.proofs.Common.{◌≡◌, ℕ, ◌+◌, ◌-◌, ◌<◌, ◌≤◌, ◌==◌, ◌||◌, Bool, true, false, zero, suc, not, List, [], ◌∷◌, ◌++◌, length, take, drop, Some, None, refl, sym, ap, ◌∙◌, subst, arith, ⊎_elim, append_assoc, length-append}
use Rattle.std.specs.Prelude.{codes}
use Rattle.std.specs.Char.{is_ascii_digit}
use Rattle.std.specs.List.{list_all, list_any}
use Rattle.std.specs.Str.{bytes_eq}
use Rattle.std.proofs.lemmas.Bool.{or_cases, eqb-true, eq-eqb, and_parts, and_right}
use Rattle.std.proofs.lemmas.List.{drop-append-le, take_at, drop_at}
use Rattle.scan.specs.Laws.{Writes}
use Rattle.scan.specs.Scan.{lex, front, told}
use Rattle.scan.proofs.Longest.{longest_is}
use Rattle.scan.proofs.Steps.{lex_blank, lex_token, told_nil, told_told}
use Rattle.scan.proofs.Words.{fails_over, unmatched}
use Rattle.c_text.specs.Gaps.{points, is_point, is_gap, ends_word, gap_toks}
use Rattle.c_text.specs.Tokens.{Token, sign, is_blank, is_letter, is_word, is_sign, signs, number_of, digit_count, word_token, token_of}
use Rattle.c_text.proofs.Separated.{no_token, digits_before, three_ways}
use Rattle.c_text.proofs.WordTokens.{sign_token}

-- ---- points

tested : (t : ℕ → Bool) (c : ℕ) (ds : List ℕ) → list_any (λ p. p == c) ds ≡ true → list_all t ds ≡ true → t c ≡ true
tested t c [] h k = cc
tested t c (d ∷ ds) h k =
    let parts = and_parts (t d) (list_all t ds) k in
    ⊎_elim (λ e. subst (λ x. t x ≡ true) (eqb-true d c e) parts.0) (λ e. tested t c ds e parts.1) (or_cases (d == c) (list_any (λ p. p == c) ds) h)

-- what all points pass
at_point : (t : ℕ → Bool) → list_all t points ≡ true → (c : ℕ) → is_point c ≡ true → t c ≡ true
at_point t all c h = tested t c points h all

fails : (b : Bool) → not b ≡ true → b ≡ false
fails false h = refl
fails true h = cc

abbrev is_other : ℕ → ℕ → Bool
is_other c b = not (b == c)

other_self : (c : ℕ) → is_other c c ≡ false
other_self c = ap not (eq-eqb c c refl)

-- a sign without the point, or of one byte
abbrev may_be : ℕ → List ℕ → Bool
may_be c s = list_all (is_other c) s || (length s == 1)

one_byte : (s : List ℕ) (c : ℕ) (a b : List ℕ) → 0 < length a + length b → (length s == 1) ≡ true → bytes_eq s (a ++ c ∷ b) ≡ false
one_byte [] c a b l h = absurd (let long = eqb-true 0 1 h in omega (arith, long))
one_byte (d ∷ []) c [] [] l h = absurd (omega arith)
one_byte (d ∷ []) c [] (y ∷ b) l h = and_right _ _ refl
one_byte (d ∷ []) c (x ∷ []) b l h = and_right _ _ refl
one_byte (d ∷ []) c (x ∷ y ∷ a) b l h = and_right _ _ refl
one_byte (d ∷ e ∷ s) c a b l h = absurd (let long = eqb-true (length (d ∷ e ∷ s)) 1 h in omega (arith, long))

no_sign_of : (c : ℕ) (ss : List (List ℕ)) (a b : List ℕ) → 0 < length a + length b → list_all (may_be c) ss ≡ true → list_any (λ s. bytes_eq s (a ++ c ∷ b)) ss ≡ false
no_sign_of c [] a b l k = refl
no_sign_of c (s ∷ ss) a b l k =
    let parts = and_parts (may_be c s) (list_all (may_be c) ss) k in
    let this : bytes_eq s (a ++ c ∷ b) ≡ false = ⊎_elim (λ e. unmatched (is_other c) c s a b (other_self c) e) (λ e. one_byte s c a b l e) (or_cases _ _ parts.0) in
    rw this (no_sign_of c ss a b l parts.1)

no_sign : (c : ℕ) (a b : List ℕ) → is_point c ≡ true → 0 < length a + length b → is_sign (a ++ c ∷ b) ≡ false
no_sign c a b h l = no_sign_of c signs a b l (at_point (λ p. list_all (may_be p) signs) refl c h)

no_word : (c : ℕ) → is_point c ≡ true → is_word c ≡ false
no_word c h = fails (is_word c) (at_point (λ p. not (is_word p)) refl c h)

no_letter : (c : ℕ) → is_point c ≡ true → is_letter c ≡ false
no_letter c h = fails (is_letter c) (at_point (λ p. not (is_letter p)) refl c h)

no_digit : (c : ℕ) → is_point c ≡ true → is_ascii_digit c ≡ false
no_digit c h = fails (is_ascii_digit c) (at_point (λ p. not (is_ascii_digit p)) refl c h)

no_blank : (c : ℕ) → is_point c ≡ true → is_blank c ≡ false
no_blank c h = fails (is_blank c) (at_point (λ p. not (is_blank p)) refl c h)

no_suffix : (c : ℕ) (a b : List ℕ) → is_point c ≡ true → bytes_eq (codes "ull") (a ++ c ∷ b) ≡ false
no_suffix c a b h = unmatched (is_other c) c (codes "ull") a b (other_self c) (at_point (λ p. list_all (is_other p) (codes "ull")) refl c h)

no_number : (c : ℕ) (ds a b : List ℕ) → is_point c ≡ true → number_of ds (a ++ c ∷ b) ≡ None
no_number c ds [] b h = rw (no_suffix c [] b h) refl
no_number c ds (x ∷ a) b h = rw (no_suffix c (x ∷ a) b h) refl

-- no token goes over a point
over_point : (c x : ℕ) (a b : List ℕ) → is_point c ≡ true → word_token (x ∷ a ++ c ∷ b) ≡ None
unfolding word_token
over_point c x a b h =
    three_ways (is_letter x) (is_ascii_digit x) _ _ _
    (rw (fails_over is_word c a b (no_word c h)) refl)
    (let short = digits_before c (x ∷ a) b (no_digit c h) in
    rw (drop-append-le (digit_count (x ∷ a ++ c ∷ b)) (x ∷ a) (c ∷ b)) (no_number c (take (digit_count (x ∷ a ++ c ∷ b)) (x ∷ a ++ c ∷ b)) (drop (digit_count (x ∷ a ++ c ∷ b)) (x ∷ a)) b h))
    (rw (no_sign c (x ∷ a) b h (omega arith)) refl)

-- nor begins with one and goes on
from_point : (c y : ℕ) (b : List ℕ) → is_point c ≡ true → word_token (c ∷ y ∷ b) ≡ None
unfolding word_token
from_point c y b h = rw (no_letter c h, no_digit c h, no_sign c [] (y ∷ b) h (omega arith)) refl

point_token : (c : ℕ) → is_point c ≡ true → word_token (c ∷ []) ≡ Some (sign (c ∷ []))
point_token c h = sign_token (c ∷ []) (at_point (λ p. is_sign (p ∷ [])) refl c h)

longer : (c : ℕ) → is_point c ≡ true → (k : ℕ) (bs : List ℕ) → 1 < k → k ≤ length (c ∷ bs) → word_token (take k (c ∷ bs)) ≡ None
longer c h zero bs l m = absurd (omega arith)
longer c h (suc zero) bs l m = absurd (omega arith)
longer c h (suc (suc k)) [] l m = absurd (omega arith)
longer c h (suc (suc k)) (y ∷ bs) l m = from_point c y (take k bs) h

lex_point : (c : ℕ) (bs : List ℕ) → is_point c ≡ true → lex token_of is_blank 0 (c ∷ bs) ≡ told (sign (c ∷ []) ∷ []) (lex token_of is_blank 0 bs)
lex_point c bs h =
    let here : front token_of (c ∷ bs) ≡ Some (1, sign (c ∷ [])) = longest_is token_of (length (c ∷ bs)) 1 (c ∷ bs) (sign (c ∷ [])) (omega arith) (omega arith) (point_token c h) (λ k l m. longer c h k bs l m) in
    lex_token token_of is_blank (c ∷ bs) 1 (sign (c ∷ [])) (omega arith) (omega arith) (no_blank c h) here

-- ---- gaps

gap_step : (b : ℕ) (gap rest : List ℕ) (t : Bool) → is_blank b ≡ t → (is_blank b || is_point b) ≡ true → lex token_of is_blank 0 (gap ++ rest) ≡ told (gap_toks gap) (lex token_of is_blank 0 rest)
    → lex token_of is_blank 0 (b ∷ gap ++ rest) ≡ told (gap_toks (b ∷ gap)) (lex token_of is_blank 0 rest)
gap_step b gap rest true e h ih = rw e (lex_blank token_of is_blank (b ∷ gap ++ rest) (omega arith) e ∙ ih)
gap_step b gap rest false e h ih =
    let point : is_point b ≡ true = rw e at h in
    rw e (lex_point b (gap ++ rest) point ∙ ap (told (sign (b ∷ []) ∷ [])) ih ∙ told_told (sign (b ∷ []) ∷ []) (gap_toks gap) (lex token_of is_blank 0 rest))

lex_gap : (gap rest : List ℕ) → is_gap gap ≡ true → lex token_of is_blank 0 (gap ++ rest) ≡ told (gap_toks gap) (lex token_of is_blank 0 rest)
lex_gap [] rest h = sym (told_nil (lex token_of is_blank 0 rest))
lex_gap (b ∷ gap) rest h =
    let parts = and_parts (is_blank b || is_point b) (is_gap gap) h in
    gap_step b gap rest (is_blank b) refl parts.0 (lex_gap gap rest parts.1)

pub writes_gap : (gap : List ℕ) → is_gap gap ≡ true → Writes token_of is_blank gap (gap_toks gap)
writes_gap gap h = record { always = λ rest. lex_gap gap rest h }

-- ---- words

no_token_over : (c x : ℕ) (a b : List ℕ) → (is_blank c || is_point c) ≡ true → word_token (x ∷ a ++ c ∷ b) ≡ None
no_token_over c x a b h = ⊎_elim (λ e. no_token c (x ∷ a) b e) (λ e. over_point c x a b e) (or_cases _ _ h)

take_over : (v w : List ℕ) (n : ℕ) → take (length v + n) (v ++ w) ≡ v ++ take n w
take_over [] w n = grind arith
take_over (x ∷ v) w n = let e : length (x ∷ v) + n ≡ suc (length v + n) = omega arith in rw e (ap (λ l. x ∷ l) (take_over v w n))

reaching : (c x : ℕ) (a bs : List ℕ) → (is_blank c || is_point c) ≡ true → (k : ℕ) → length (x ∷ a) < k → word_token (take k (x ∷ a ++ c ∷ bs)) ≡ None
reaching c x a bs h k l =
    let more : k ≡ length (x ∷ a) + suc (k - length (x ∷ a) - 1) = omega arith in
    let over : take k (x ∷ a ++ c ∷ bs) ≡ x ∷ a ++ c ∷ take (k - length (x ∷ a) - 1) bs
    = ap (λ m. take m (x ∷ a ++ c ∷ bs)) more ∙ take_over (x ∷ a) (c ∷ bs) (suc (k - length (x ∷ a) - 1)) in
    ap word_token over ∙ no_token_over c x a (take (k - length (x ∷ a) - 1) bs) h

word_ink : (x : ℕ) (a : List ℕ) (t : Token) → word_token (x ∷ a) ≡ Some t → is_blank x ≡ false
word_ink x a t e = by (is_blank x) refl
  where
    by : (p : Bool) → is_blank x ≡ p → is_blank x ≡ false
    by true h = let none = no_token x [] a h in cc
    by false h = h

lex_word : (w : List ℕ) (c : ℕ) (bs : List ℕ) (t : Token) → word_token w ≡ Some t → (is_blank c || is_point c) ≡ true
    → lex token_of is_blank 0 (w ++ c ∷ bs) ≡ told (t ∷ []) (lex token_of is_blank 0 (c ∷ bs))
unfolding word_token
lex_word [] c bs t e h = cc
lex_word (x ∷ a) c bs t e h =
    let w : List ℕ = x ∷ a in
    let long = length-append w (c ∷ bs) in
    let here : front token_of (w ++ c ∷ bs) ≡ Some (length w, t)
    = longest_is token_of (length (w ++ c ∷ bs)) (length w) (w ++ c ∷ bs) t (omega arith) (omega (arith, long)) (ap word_token (take_at w (c ∷ bs) (length w) refl) ∙ e)
    (λ k l m. reaching c x a bs h k l) in
    lex_token token_of is_blank (w ++ c ∷ bs) (length w) t (omega (arith, long)) (omega arith) (word_ink x a t e) here
    ∙ ap (λ r. told (t ∷ []) (lex token_of is_blank 0 r)) (drop_at w (c ∷ bs) (length w) refl)

-- a word and the gap behind it
pub writes_word : (w gap : List ℕ) (t : Token) → ends_word gap ≡ true → word_token w ≡ Some t → Writes token_of is_blank (w ++ gap) (t ∷ gap_toks gap)
writes_word w [] t h e = cc
writes_word w (c ∷ gap) t h e =
    let parts = and_parts (is_blank c || is_point c) (is_gap gap) h in
    record {
      always = λ rest. ap (lex token_of is_blank 0) (append_assoc w (c ∷ gap) rest) ∙ lex_word w c (gap ++ rest) t e parts.0
          ∙ ap (told (t ∷ [])) (lex_gap (c ∷ gap) rest h) ∙ told_told (t ∷ []) (gap_toks (c ∷ gap)) (lex token_of is_blank 0 rest);
    }
