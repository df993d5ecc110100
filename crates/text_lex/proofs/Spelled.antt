-- The tokens of what spells them.
use Rattle.std.proofs.Common.{◌≡◌, ◌≢◌, ℕ, ◌+◌, ◌^◌, ◌<◌, ◌≤◌, Bool, true, false, zero, suc, not, cond, ◌&&◌, List, [], ◌∷◌, ◌++◌, length, get_or, Option, Some, None, refl, ap, ◌∙◌, arith, ⊎_elim, append_assoc}
use Rattle.std.specs.Prelude.{◌==◌, nat_le}
use Rattle.std.specs.Char.{digit_value}
use Rattle.std.specs.Fmt.{decimal}
use Rattle.std.specs.Int.{is_in_range}
use Rattle.std.specs.List.{All, list_all, position_from}
use Rattle.std.specs.Str.{bytes_eq}
use Rattle.std.specs.Str.Parse.{digits_value, AllDigits}
use Rattle.std.proofs.lemmas.Bool.{and_parts, and_right, or_right, or_cases, eqb-true, lt-ltb, lt-leb, le-leb, ne_eqb, leb-true, ltb-true, not-true}
use Rattle.std.proofs.lemmas.Fmt.{decimal_is_IsNumeral}
use Rattle.std.proofs.lemmas.List.Elements.{All-head, All-tail}
use Rattle.std.proofs.lemmas.Str.Parse.{digit_from_value}
use Rattle.scan.specs.Laws.{Writes}
use Rattle.scan.proofs.Steps.{lex_word}
use Rattle.scan.proofs.Blanks.{writes_text, writes_both, writes_nothing, writes_all}
use Rattle.text_lex.specs.declared.token.Token.{Token}
use Rattle.text_lex.specs.declared.token.Token.TheVariants.{Name, Number, Sign, Bad}
use Rattle.text_lex.specs.Bytes.{is_blank, is_plain, is_letter, is_decimal, is_name_byte}
use Rattle.text_lex.specs.Tokens.{signs, sign_index, token_of, number_token, all_tokens, tokens_of}
use Rattle.text_lex.specs.Lines.{begins_with}
use Rattle.text_lex.specs.Spelling.{is_name, IsSpelled, spelled, spelling_of, IsWhole}
use Rattle.text_lex.proofs.TokenLaws.{separated}

-- a byte of a token: no blank, plain, and no `#`
abbrev is_inner : ℕ → Bool
is_inner b = is_in_range 33 126 b && not (b == 35)

-- no test of a byte in a range fails
in_range : (lo hi b : ℕ) → is_in_range lo hi b ≡ true → (lo ≤ b) × (b ≤ hi)
in_range lo hi b h = let parts = and_parts (nat_le lo b) (nat_le b hi) h in (leb-true lo b parts.0, leb-true b hi parts.1)

inner : (b : ℕ) → 33 ≤ b → b ≤ 126 → b ≢ 35 → is_inner b ≡ true
inner b l m n = rw (le-leb 33 b l, le-leb b 126 m, ne_eqb b 35 n) refl

letter_inner : (b : ℕ) → is_letter b ≡ true → is_inner b ≡ true
letter_inner b h =
    ⊎_elim
    (λ alphabetic. ⊎_elim
    (λ upper. let r = in_range 65 90 b upper in inner b (omega (arith, r.0)) (omega (arith, r.1)) (omega (arith, r.0)))
    (λ lower. let r = in_range 97 122 b lower in inner b (omega (arith, r.0)) (omega (arith, r.1)) (omega (arith, r.0)))
    (or_cases _ _ alphabetic))
    (λ underline. rw (eqb-true b 95 underline) refl)
    (or_cases _ _ h)

digit_inner : (b : ℕ) → digit_value b < 10 → is_inner b ≡ true
digit_inner b h = let r = digit_from_value b h in inner b (omega (arith, r.0)) (omega (arith, r.1)) (omega (arith, r.0))

name_byte_inner : (b : ℕ) → is_name_byte b ≡ true → is_inner b ≡ true
name_byte_inner b h = ⊎_elim (letter_inner b) (λ d. digit_inner b (ltb-true (digit_value b) 10 d)) (or_cases _ _ h)

all_weaker : (p q : ℕ → Bool) (bs : List ℕ) → ((b : ℕ) → p b ≡ true → q b ≡ true) → list_all p bs ≡ true → list_all q bs ≡ true
all_weaker p q [] f h = refl
all_weaker p q (b ∷ bs) f h = let parts = and_parts (p b) (list_all p bs) h in rw (f b parts.0, all_weaker p q bs f parts.1) refl

digits_pass : (bs : List ℕ) → AllDigits 10 bs → list_all is_decimal bs ≡ true
digits_pass [] h = refl
digits_pass (b ∷ bs) h = rw (lt-ltb (digit_value b) 10 h.0, digits_pass bs h.1) refl

-- a digit is no letter
digit_no_letter : (b : ℕ) → digit_value b < 10 → is_letter b ≡ false
digit_no_letter b h =
    let r = digit_from_value b h in
    rw (lt-leb 65 b (omega (arith, r.1)), lt-leb 97 b (omega (arith, r.1)), ne_eqb b 95 (omega (arith, r.1))) refl

-- what holds of the bytes of each sign
sign_bytes_fit : List ℕ → Bool
sign_bytes_fit [] = false
sign_bytes_fit (b ∷ bs) = not (is_letter b) && not (is_decimal b) && list_all is_inner (b ∷ bs)

name_token : (w : List ℕ) → is_name w ≡ true → token_of w None ≡ Some (Name w)
unfolding token_of
name_token [] h = cc
name_token (b ∷ bs) h = let parts = and_parts (is_letter b) (list_all is_name_byte bs) h in rw (parts.0, parts.1) refl

number_token_of : (w : List ℕ) (n : ℕ) → 0 < length w → AllDigits 10 w → digits_value 10 w ≡ n → n < 2 ^ 64 → token_of w None ≡ Some (Number n)
unfolding token_of
number_token_of [] n l d e small = absurd (omega arith)
number_token_of (b ∷ bs) n l d e small =
    rw (digit_no_letter b d.0, lt-ltb (digit_value b) 10 d.0, digits_pass bs d.1)
    (ap (λ v. Some (number_token v None)) e ∙ ap (λ t. Some (cond (t && true) (Number n) Bad)) (lt-ltb n (2 ^ 64) small))

sign_token : (w : List ℕ) (k : ℕ) → sign_bytes_fit w ≡ true → sign_index w ≡ Some k → token_of w None ≡ Some (Sign k)
unfolding token_of sign_bytes_fit
sign_token [] k h e = cc
sign_token (b ∷ bs) k h e =
    let parts = and_parts (not (is_letter b) && not (is_decimal b)) (list_all is_inner (b ∷ bs)) h in
    let firsts = and_parts (not (is_letter b)) (not (is_decimal b)) parts.0 in
    rw (not-true (is_letter b) firsts.0, not-true (is_decimal b) firsts.1, and_right (b == 37) false refl, e) refl

-- each sign stands at its place, and is found there
is_at : ℕ → Option ℕ → Bool
is_at k None = false
is_at k (Some j) = j == k

finds : ℕ → List (List ℕ) → Bool
finds k [] = true
finds k (s ∷ ss) = is_at k (position_from (λ t. bytes_eq t s) 0 signs) && finds (k + 1) ss

at_some : (k : ℕ) (o : Option ℕ) → is_at k o ≡ true → o ≡ Some k
unfolding is_at
at_some k None h = cc
at_some k (Some j) h = ap Some (eqb-true j k h)

found_at : (i k : ℕ) (ss : List (List ℕ)) → finds i ss ≡ true → k < length ss → position_from (λ t. bytes_eq t (get_or ss k [])) 0 signs ≡ Some (i + k)
unfolding finds
found_at i k [] h l = absurd (omega arith)
found_at i zero (s ∷ ss) h l = let same : i ≡ i + 0 = omega arith in at_some i _ (and_parts _ _ h).0 ∙ ap Some same
found_at i (suc k) (s ∷ ss) h l = let same : i + 1 + k ≡ i + suc k = omega arith in found_at (i + 1) k ss (and_parts _ _ h).1 (omega arith) ∙ ap Some same

sign_found : (k : ℕ) → k < 32 → sign_index (get_or signs k []) ≡ Some k
unfolding sign_index finds is_at
sign_found k l = let same : 0 + k ≡ k = omega arith in found_at 0 k signs refl l ∙ ap Some same

each_fits : (p : List ℕ → Bool) (ss : List (List ℕ)) (k : ℕ) → list_all p ss ≡ true → k < length ss → p (get_or ss k []) ≡ true
each_fits p [] k h l = absurd (omega arith)
each_fits p (s ∷ ss) zero h l = (and_parts _ _ h).0
each_fits p (s ∷ ss) (suc k) h l = each_fits p ss k (and_parts _ _ h).1 (omega arith)

sign_fits : (k : ℕ) → k < 32 → sign_bytes_fit (get_or signs k []) ≡ true
unfolding sign_bytes_fit
sign_fits k l = each_fits sign_bytes_fit signs k refl l

-- what spells a token is this token
spelled_token : (t : Token) → IsSpelled t → token_of (spelled t) None ≡ Some t
spelled_token (Name letters) h = name_token letters h
spelled_token (Number n) h = let d = decimal_is_IsNumeral n h in number_token_of (decimal n) n d.0.0 d.0.1 d.1 h
spelled_token (Sign k) h = sign_token (get_or signs k []) k (sign_fits k h) (sign_found k h)
spelled_token Bad h = absurd h

name_inner : (w : List ℕ) → is_name w ≡ true → (0 < length w) × (list_all is_inner w ≡ true)
name_inner [] h = cc
name_inner (b ∷ bs) h =
    let parts = and_parts (is_letter b) (list_all is_name_byte bs) h in
    (omega arith, rw (letter_inner b parts.0, all_weaker is_name_byte is_inner bs name_byte_inner parts.1) refl)

digits_inner : (w : List ℕ) → AllDigits 10 w → list_all is_inner w ≡ true
digits_inner [] d = refl
digits_inner (b ∷ bs) d = rw (digit_inner b d.0, digits_inner bs d.1) refl

sign_inner : (w : List ℕ) → sign_bytes_fit w ≡ true → (0 < length w) × (list_all is_inner w ≡ true)
unfolding sign_bytes_fit
sign_inner [] h = cc
sign_inner (b ∷ bs) h = (omega arith, (and_parts (not (is_letter b) && not (is_decimal b)) (list_all is_inner (b ∷ bs)) h).1)

-- it has a byte, and only inner ones
spelled_inner : (t : Token) → IsSpelled t → (0 < length (spelled t)) × (list_all is_inner (spelled t) ≡ true)
spelled_inner (Name letters) h = name_inner letters h
spelled_inner (Number n) h = let d = decimal_is_IsNumeral n h in (d.0.0, digits_inner (decimal n) d.0.1)
spelled_inner (Sign k) h = sign_inner (get_or signs k []) (sign_fits k h)
spelled_inner Bad h = absurd h

inner_no_blank : (b : ℕ) → is_inner b ≡ true → is_blank b ≡ false
inner_no_blank b h =
    let r = in_range 33 126 b (and_parts (is_in_range 33 126 b) (not (b == 35)) h).0 in
    rw (ne_eqb b 32 (omega (arith, r.0)), ne_eqb b 9 (omega (arith, r.0))) refl

first_no_blank : (w : List ℕ) → 0 < length w → list_all is_inner w ≡ true → is_blank (get_or w 0 0) ≡ false
first_no_blank [] l h = absurd (omega arith)
first_no_blank (b ∷ bs) l h = inner_no_blank b (and_parts (is_inner b) (list_all is_inner bs) h).0

pub writes_token : (t : Token) (c : ℕ) → IsSpelled t → is_blank c ≡ true → Writes token_of is_blank (spelled t ++ c ∷ []) (t ∷ [])
writes_token t c h blank =
    let fits = spelled_inner t h in
    writes_text token_of is_blank separated c (spelled t) (t ∷ []) blank (lex_word token_of is_blank (spelled t) t fits.0 (first_no_blank (spelled t) fits.0 fits.1) (spelled_token t h))

writes_tokens : (ts : List Token) → All IsSpelled ts → Writes token_of is_blank (spelling_of ts) ts
writes_tokens [] h = writes_nothing
writes_tokens (t ∷ ts) h = writes_both (writes_token t 32 (All-head IsSpelled t ts h) refl) (writes_tokens ts (All-tail IsSpelled t ts h))

pub tokens_spelled : (ts : List Token) → All IsSpelled ts → tokens_of (spelling_of ts) ≡ ts
unfolding tokens_of
tokens_spelled ts h = ap all_tokens (writes_all (writes_tokens ts h))

-- what passes each byte of two texts passes both
pub all_both : (p : ℕ → Bool) (a b : List ℕ) → list_all p a ≡ true → list_all p b ≡ true → list_all p (a ++ b) ≡ true
all_both p [] b f g = g
all_both p (x ∷ a) b f g = let parts = and_parts (p x) (list_all p a) f in rw (parts.0, all_both p a b parts.1 g) refl

spelling_passes : (p : ℕ → Bool) (ts : List Token) → All IsSpelled ts → ((b : ℕ) → is_inner b ≡ true → p b ≡ true) → p 32 ≡ true → list_all p (spelling_of ts) ≡ true
spelling_passes p [] h f blank = refl
spelling_passes p (t ∷ ts) h f blank =
    all_both p (spelled t ++ 32 ∷ []) (spelling_of ts)
    (all_both p (spelled t) (32 ∷ []) (all_weaker is_inner p (spelled t) f (spelled_inner t (All-head IsSpelled t ts h)).1) (rw blank refl))
    (spelling_passes p ts (All-tail IsSpelled t ts h) f blank)

inner_plain : (b : ℕ) → is_inner b ≡ true → is_plain b ≡ true
inner_plain b h =
    let r = in_range 33 126 b (and_parts (is_in_range 33 126 b) (not (b == 35)) h).0 in
    or_right (b == 9) (is_in_range 32 126 b) (rw (le-leb 32 b (omega (arith, r.0)), le-leb b 126 r.1) refl)

begins_there : (w rest : List ℕ) → 0 < length w → list_all is_inner w ≡ true → begins_with (λ b. not (is_blank b)) (w ++ rest) ≡ true
begins_there [] rest l h = absurd (omega arith)
begins_there (b ∷ bs) rest l h = ap not (inner_no_blank b (and_parts (is_inner b) (list_all is_inner bs) h).0)

pub spelled_line : (ts : List Token) → All IsSpelled ts → 0 < length ts → length (spelling_of ts) ≤ 65535 → IsWhole (spelling_of ts)
spelled_line [] h some short = absurd (omega arith)
spelled_line (t ∷ ts) h some short =
    let first = spelled_inner t (All-head IsSpelled t ts h) in
    record {
      begins = ap (begins_with (λ b. not (is_blank b))) (append_assoc (spelled t) (32 ∷ []) (spelling_of ts)) ∙ begins_there (spelled t) (32 ∷ spelling_of ts) first.0 first.1;
      plain = spelling_passes is_plain (t ∷ ts) h inner_plain refl;
      no_comment = spelling_passes (λ b. not (b == 35)) (t ∷ ts) h (λ b inside. (and_parts (is_in_range 33 126 b) (not (b == 35)) inside).1) refl;
      short = short;
    }
