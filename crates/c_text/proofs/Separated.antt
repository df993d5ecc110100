-- No token of a C text has a blank in it.
use Rattle.std.proofs.Common.{◌≡◌, ℕ, ◌+◌, ◌≤◌, Bool, true, false, suc, not, cond, List, [], ◌∷◌, ◌++◌, length, take, drop, Option, None, refl, arith, ◌⊎◌, inl, inr, ⊎_elim}
use Rattle.std.specs.Prelude.{codes}
use Rattle.std.specs.Char.{is_ascii_digit}
use Rattle.std.specs.List.{list_all, list_any}
use Rattle.std.specs.Str.{bytes_eq}
use Rattle.std.proofs.lemmas.Bool.{or_cases, eqb-true, and_parts}
use Rattle.std.proofs.lemmas.List.{drop-append-le}
use Rattle.scan.specs.Laws.{IsSeparated}
use Rattle.scan.proofs.Words.{fails_over, unmatched}
use Rattle.c_text.specs.Tokens.{Token, is_blank, is_letter, is_word, is_sign, signs, number_of, digit_count, word_token, token_of}

abbrev is_ink : ℕ → Bool
is_ink b = not (is_blank b)

-- a blank is one of three
three_blanks : (c : ℕ) → is_blank c ≡ true → (c ≡ 32) ⊎ ((c ≡ 9) ⊎ (c ≡ 10))
three_blanks c h = ⊎_elim (λ p. inl (eqb-true c 32 p)) (λ o. inr (⊎_elim (λ p. inl (eqb-true c 9 p)) (λ p. inr (eqb-true c 10 p)) (or_cases _ _ o))) (or_cases _ _ h)

by_blank : (P : ℕ → Type 0) → P 32 → P 9 → P 10 → (c : ℕ) → is_blank c ≡ true → P c
by_blank P space tab feed c h = ⊎_elim (λ e. rw e space) (λ o. ⊎_elim (λ e. rw e tab) (λ e. rw e feed) o) (three_blanks c h)

ink : (c : ℕ) → is_blank c ≡ true → is_ink c ≡ false
ink c h = by_blank (λ b. is_ink b ≡ false) refl refl refl c h

no_digit : (c : ℕ) → is_blank c ≡ true → is_ascii_digit c ≡ false
no_digit c h = by_blank (λ b. is_ascii_digit b ≡ false) refl refl refl c h

no_word : (c : ℕ) → is_blank c ≡ true → is_word c ≡ false
no_word c h = by_blank (λ b. is_word b ≡ false) refl refl refl c h

no_sign_of : (c : ℕ) (ss : List (List ℕ)) (a b : List ℕ) → is_blank c ≡ true → list_all (list_all is_ink) ss ≡ true → list_any (λ s. bytes_eq s (a ++ c ∷ b)) ss ≡ false
no_sign_of c [] a b h k = refl
no_sign_of c (s ∷ ss) a b h k = rw (unmatched is_ink c s a b (ink c h) (and_parts _ _ k).0) (no_sign_of c ss a b h (and_parts _ _ k).1)

no_sign : (c : ℕ) (a b : List ℕ) → is_blank c ≡ true → is_sign (a ++ c ∷ b) ≡ false
no_sign c a b h = no_sign_of c signs a b h refl

no_number : (c : ℕ) (ds a b : List ℕ) → is_blank c ≡ true → number_of ds (a ++ c ∷ b) ≡ None
no_number c ds [] b h = rw (unmatched is_ink c (codes "ull") [] b (ink c h) refl) refl
no_number c ds (x ∷ a) b h = rw (unmatched is_ink c (codes "ull") (x ∷ a) b (ink c h) refl) refl

pub digits_before : (c : ℕ) (a b : List ℕ) → is_ascii_digit c ≡ false → digit_count (a ++ c ∷ b) ≤ length a
digits_before c [] b h = rw h (omega arith)
digits_before c (x ∷ a) b h = bounded (is_ascii_digit x) _ _ (digits_before c a b h)
  where
    bounded : (t : Bool) (n m : ℕ) → n ≤ m → cond t (1 + n) 0 ≤ suc m
    bounded true n m l = omega arith
    bounded false n m l = omega arith

pub three_ways : (p q : Bool) (x y z : Option Token) → x ≡ None → y ≡ None → z ≡ None → cond p x (cond q y z) ≡ None
three_ways true q x y z f g h = f
three_ways false true x y z f g h = g
three_ways false false x y z f g h = h

pub no_token : (c : ℕ) (a b : List ℕ) → is_blank c ≡ true → word_token (a ++ c ∷ b) ≡ None
unfolding word_token
no_token c [] b h = by_blank (λ x. word_token (x ∷ b) ≡ None) refl refl refl c h
no_token c (x ∷ a) b h =
    three_ways (is_letter x) (is_ascii_digit x) _ _ _
    (rw (fails_over is_word c a b (no_word c h)) refl)
    (let short = digits_before c (x ∷ a) b (no_digit c h) in
    rw (drop-append-le (digit_count (x ∷ a ++ c ∷ b)) (x ∷ a) (c ∷ b)) (no_number c (take (digit_count (x ∷ a ++ c ∷ b)) (x ∷ a ++ c ∷ b)) (drop (digit_count (x ∷ a ++ c ∷ b)) (x ∷ a)) b h))
    (rw (no_sign c (x ∷ a) b h) refl)

pub separated : IsSeparated token_of is_blank
separated = record { never_over = λ c a b next h. no_token c a b h; as_end = λ c w h. refl }
