-- Laws of the tokens of a line.
use Rattle.std.proofs.Common.{◌≡◌, ℕ, ◌-◌, ◌<◌, Bool, true, false, zero, suc, not, cond, List, [], ◌∷◌, ◌++◌, length, take, drop, get_or, Option, Some, None, Ok, refl, sym, ap, ◌∙◌, subst, arith, ⊎_elim, append_assoc}
use Rattle.std.specs.Prelude.{slice_get, ◌==◌}
use Rattle.std.specs.Option.{option_or}
use Rattle.std.specs.Str.Parse.{digits_value}
use Rattle.std.proofs.lemmas.Bool.{and_right, and_left, or_cases, eqb-true}
use Rattle.scan.specs.Scan.{longer, longest, front, lex, lexed, told}
use Rattle.scan.specs.Laws.{IsSeparated}
use Rattle.scan.proofs.Words.{fails_over, unlisted}
use Rattle.scan.proofs.Steps.{lex_blank, lex_token}
use Rattle.scan.proofs.Blanks.{lex_over}
use Rattle.text_lex.proofs.Fronts.{unless_joined}
use Rattle.text_lex.specs.declared.token.Token.{Token}
use Rattle.text_lex.specs.declared.token.Token.TheVariants.{Name, Bad}
use Rattle.text_lex.specs.Bytes.{is_blank, is_letter, is_decimal, is_hexadecimal, is_name_byte}
use Rattle.text_lex.specs.Tokens.{signs, sign_index, is_joined, sign_of, number_token, is_hexadecimal_number, bad_byte, token_of, all_tokens, tokens_of}

-- a blank is one of two bytes
at_blank : (P : ℕ → Type 0) (c : ℕ) → is_blank c ≡ true → P 32 → P 9 → P c
at_blank P c h p q = ⊎_elim (λ e. subst P (sym (eqb-true c 32 e)) p) (λ e. subst P (sym (eqb-true c 9 e)) q) (or_cases _ _ h)

sign_over : (c : ℕ) (a b : List ℕ) → is_blank c ≡ true → sign_index (a ++ c ∷ b) ≡ None
unfolding sign_index
sign_over c a b h = unlisted (λ s. not (is_blank s)) c 0 signs a b (ap not h) refl

bad_over : (c : ℕ) (a b : List ℕ) → is_blank c ≡ true → bad_byte (a ++ c ∷ b) ≡ None
bad_over c [] [] h = ap (λ t. cond t None (Some Bad)) h
bad_over c [] (y ∷ b) h = refl
bad_over c (x ∷ []) b h = refl
bad_over c (x ∷ y ∷ a) b h = refl

hexadecimal_over : (c : ℕ) (a b : List ℕ) → is_blank c ≡ true → is_hexadecimal_number (a ++ c ∷ b) ≡ false
hexadecimal_over c [] [] h = refl
hexadecimal_over c [] (y ∷ []) h = refl
hexadecimal_over c [] (y ∷ d ∷ ds) h = and_left _ _ (and_left _ _ (at_blank (λ v. (v == 48) ≡ false) c h refl refl))
hexadecimal_over c (x ∷ []) [] h = refl
hexadecimal_over c (x ∷ []) (d ∷ ds) h = and_left _ _ (and_right _ _ (at_blank (λ v. (v == 120) ≡ false) c h refl refl))
hexadecimal_over c (x ∷ y ∷ []) b h = and_right _ _ (fails_over is_hexadecimal c [] b (at_blank (λ v. is_hexadecimal v ≡ false) c h refl refl))
hexadecimal_over c (x ∷ y ∷ z ∷ a) b h = and_right _ _ (fails_over is_hexadecimal c (z ∷ a) b (at_blank (λ v. is_hexadecimal v ≡ false) c h refl refl))

ways : (p q r s : Bool) (x y z w v : Option Token) → r ≡ false → s ≡ false → x ≡ None → w ≡ None → v ≡ None → cond p x (cond q (cond r y (cond s z None)) (option_or w v)) ≡ None
ways true q r s x y z w v e f g h k = g
ways false true r s x y z w v e f g h k = rw (e, f) refl
ways false false r s x y z w v e f g h k = λ i. option_or (h i) (k i)

-- no token has a blank in it
never_over : (c : ℕ) (a b : List ℕ) (next : Option ℕ) → is_blank c ≡ true → token_of (a ++ c ∷ b) next ≡ None
unfolding token_of
never_over c [] b next h =
    let letter = at_blank (λ v. is_letter v ≡ false) c h refl refl in
    let digit = at_blank (λ v. is_decimal v ≡ false) c h refl refl in
    rw (letter, digit) (λ i. option_or (unless_joined (is_joined (c ∷ b) next) (c ∷ b) (sign_over c [] b h) i) (bad_over c [] b h i))
never_over c (x ∷ a) b next h =
    ways (is_letter x) (is_decimal x) _ _ _ _ _ _ _
    (fails_over is_decimal c (x ∷ a) b (at_blank (λ v. is_decimal v ≡ false) c h refl refl))
    (hexadecimal_over c (x ∷ a) b h)
    (ap (λ t. cond t (Some (Name (x ∷ a ++ c ∷ b))) None) (fails_over is_name_byte c a b (at_blank (λ v. is_name_byte v ≡ false) c h refl refl)))
    (unless_joined (is_joined (x ∷ a ++ c ∷ b) next) (x ∷ a ++ c ∷ b) (sign_over c (x ∷ a) b h))
    (bad_over c (x ∷ a) b h)

-- a blank behind a word is as good as the end
as_end : (c : ℕ) (w : List ℕ) → is_blank c ≡ true → token_of w (Some c) ≡ token_of w None
unfolding token_of
as_end c [] h = refl
as_end c (x ∷ w) h = at_blank (λ v. token_of (x ∷ w) (Some v) ≡ token_of (x ∷ w) None) c h refl refl

pub separated : IsSeparated token_of is_blank
separated = record { never_over = never_over; as_end = as_end }

-- each byte that is no blank begins a token
first_token : (p q : Bool) (x : ℕ) (next : Option ℕ) → is_letter x ≡ p → is_decimal x ≡ q → is_blank x ≡ false → (t : Token) × (token_of (x ∷ []) next ≡ Some t)
unfolding token_of
first_token true q x next e f h = (Name (x ∷ []), rw e refl)
first_token false true x next e f h = (number_token (digits_value 10 (x ∷ [])) next, rw (e, f) refl)
first_token false false x next e f h = (unwrapped (sign_of (x ∷ []) next), rw (e, f, h) (is_some (sign_of (x ∷ []) next)))
  where
    unwrapped : Option Token → Token
    unwrapped None = Bad
    unwrapped (Some t) = t

    is_some : (o : Option Token) → option_or o (Some Bad) ≡ Some (unwrapped o)
    is_some None = refl
    is_some (Some t) = refl

has_front : (x : ℕ) (xs : List ℕ) (n : ℕ) → is_blank x ≡ false → (f : ℕ × Token) × (longest token_of (suc n) (x ∷ xs) ≡ Some f)
unfolding longest
has_front x xs zero h = let first = first_token _ _ x (slice_get (x ∷ xs) 1) refl refl h in ((1, first.0), ap (λ o. longer o 1 None) first.1)
has_front x xs (suc n) h = by (token_of (take (suc (suc n)) (x ∷ xs)) (slice_get (x ∷ xs) (suc (suc n)))) (has_front x xs n h)
  where
    by : (o : Option Token) → (f : ℕ × Token) × (longest token_of (suc n) (x ∷ xs) ≡ Some f) → (f : ℕ × Token) × (longer o (suc (suc n)) (longest token_of (suc n) (x ∷ xs)) ≡ Some f)
    by None before = before
    by (Some t) before = ((suc (suc n), t), refl)

lex_all : (k : ℕ) (bs : List ℕ) → (ts : List Token) × (lex token_of is_blank k bs ≡ Ok ts)
unfolding lex
lex_all k [] = ([], refl)
lex_all (suc k) (b ∷ bs) = lex_all k bs
lex_all zero (b ∷ bs) = by (λ k. lex_all k bs) (is_blank b) refl
  where
    by : ((k : ℕ) → (ts : List Token) × (lex token_of is_blank k bs ≡ Ok ts)) → (t : Bool) → is_blank b ≡ t → (ts : List Token) × (cond t (lex token_of is_blank 0 bs) (lexed (front token_of (b ∷ bs)) (length (b ∷ bs)) (λ skip. lex token_of is_blank skip bs)) ≡ Ok ts)
    by all true e = all 0
    by all false e =
        let first = has_front b bs (length bs) e in
        let rest = all (first.0.0 - 1) in
        (first.0.1 ∷ rest.0, ap (λ o. lexed o (length (b ∷ bs)) (λ skip. lex token_of is_blank skip bs)) first.1 ∙ ap (told (first.0.1 ∷ [])) rest.1)

-- every text has tokens
pub lex_tokens : (bs : List ℕ) → lex token_of is_blank 0 bs ≡ Ok (tokens_of bs)
unfolding tokens_of
lex_tokens bs = let all = lex_all 0 bs in all.1 ∙ sym (ap (λ r. Ok (all_tokens r)) all.1)

pub tokens_none : tokens_of [] ≡ []
unfolding tokens_of lex
tokens_none = refl

pub tokens_blank : (bs : List ℕ) → 0 < length bs → is_blank (get_or bs 0 0) ≡ true → tokens_of bs ≡ tokens_of (drop 1 bs)
unfolding tokens_of
tokens_blank bs l h = ap all_tokens (lex_blank token_of is_blank bs l h)

pub tokens_front : (bs : List ℕ) (n : ℕ) (t : Token) → 0 < length bs → 0 < n → is_blank (get_or bs 0 0) ≡ false → front token_of bs ≡ Some (n, t) → tokens_of bs ≡ t ∷ tokens_of (drop n bs)
unfolding tokens_of
tokens_front bs n t l p h e =
    let rest = lex_tokens (drop n bs) in
    ap all_tokens (lex_token token_of is_blank bs n t l p h e ∙ ap (told (t ∷ [])) rest)

-- a blank separates the tokens of a line
pub tokens_over : (c : ℕ) (a b : List ℕ) → is_blank c ≡ true → tokens_of (a ++ c ∷ b) ≡ tokens_of a ++ tokens_of b
unfolding tokens_of
tokens_over c a b h = ap all_tokens (lex_over token_of is_blank separated c a b 0 (tokens_of a) h (omega arith) (lex_tokens a) ∙ ap (told (tokens_of a)) (lex_tokens b))

pub tokens_end : (bs : List ℕ) → length bs ≡ 0 → tokens_of bs ≡ []
tokens_end [] l = tokens_none
tokens_end (x ∷ xs) l = absurd (omega arith)

-- a token goes from what is left to what is there
pub pushed : (all out new : List Token) (rest back : List ℕ) (t : Token) → all ≡ out ++ tokens_of rest → tokens_of rest ≡ t ∷ tokens_of back → new ≡ out ++ t ∷ [] → all ≡ new ++ tokens_of back
pushed all out new rest back t e f g = e ∙ ap (λ ts. out ++ ts) f ∙ sym (append_assoc out (t ∷ []) (tokens_of back)) ∙ ap (λ ts. ts ++ tokens_of back) (sym g)
