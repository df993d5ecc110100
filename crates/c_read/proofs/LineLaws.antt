-- The first line of a text, what stands behind it, and the lines of its bytes.
use Rattle.std.proofs.Common.{◌≡◌, ◌≢◌, ℕ, ◌+◌, ◌-◌, ◌<◌, ◌≤◌, ◌^◌, Bool, true, false, cond, zero, suc, List, [], ◌∷◌, ◌++◌, length, take, drop, Option, Some, None, Result, Ok, Err, refl, sym, ap, ◌∙◌, subst, arith, ◌⊎◌, inl, inr, length-drop}
use Rattle.std.specs.Prelude.{not, min, nat_eq, ◌==◌}
use Rattle.std.specs.Cmp.Lexicographic.{other_text, pointwise, same_text}
use Rattle.std.specs.List.{count_by, prefix_len}
use Rattle.std.proofs.Math.Seq.{take-append-add}
use Rattle.std.proofs.lemmas.Bool.{cases_Bool, eqb-true, not-false, not-true}
use Rattle.std.proofs.lemmas.List.{drop-drop}
use Rattle.std.proofs.lemmas.List.Folds.{length-prefix_len}
use Rattle.std.proofs.lemmas.List.Sums.{sum_by-append, sum_by-cons}
use Rattle.scan.specs.Scan.{front, lex, lexed, told}
use Rattle.c_text.specs.Tokens.{Token, is_blank, token_of, tokens}
use Rattle.c_text.specs.Spells.{first_line}
use Rattle.c_scan.specs.Left.{IsLexed, IsUnlexed, left, left_of}
use Rattle.c_read.specs.Texts.{IsLex, behind_line, line_of}

-- a line feed, and any other byte
abbrev is_feed : ℕ → Bool
is_feed b = b == 10

abbrev one_if : Bool → ℕ
one_if t = cond t 1 0

abbrev pub in_line : ℕ → Bool
in_line b = not (b == 10)

pub line_length : (text : List ℕ) (n : ℕ) → n ≡ prefix_len in_line text → n ≡ length (line_of text)
line_length text n e = e ∙ sym (length-prefix_len in_line text)

-- a text cut behind its first line
pub record Cut (text first rest : List ℕ) : Type 0 where
  pub first_is : first ≡ line_of text
  pub rest_is : rest ≡ behind_line text

first_byte : (behind : List ℕ) (k : ℕ) → k ≡ min (length behind) 1 → drop k behind ≡ drop 1 behind
first_byte [] k e = let none : k ≡ 0 = omega (arith, e) in rw none refl
first_byte (b ∷ bs) k e = let one : k ≡ 1 = omega (arith, e) in rw one refl

pub cut : (text first behind rest : List ℕ) (n k : ℕ) → n ≡ length (line_of text) → first ≡ take n text → behind ≡ drop n text → k ≡ min (length behind) 1 → rest ≡ drop k behind → Cut text first rest
cut text first behind rest n k n_is first_is behind_is k_is rest_is = record {
  first_is = first_is ∙ ap (λ m. take m text) (n_is ∙ length-prefix_len in_line text);
  rest_is = rest_is ∙ first_byte behind k k_is ∙ ap (drop 1) behind_is ∙ drop-drop 1 n text ∙ ap (λ m. drop (m + 1) text) n_is;
}

-- ---- the first line, byte by byte

line_ends : (x : ℕ) (xs : List ℕ) → (x == 10) ≡ true → line_of (x ∷ xs) ≡ []
line_ends x xs e = rw e refl

line_more : (x : ℕ) (xs : List ℕ) → (x == 10) ≡ false → line_of (x ∷ xs) ≡ x ∷ line_of xs
line_more x xs e = let one : 1 + prefix_len in_line xs ≡ suc (prefix_len in_line xs) = omega arith in rw e (rw one refl)

-- behind a line that is not the whole text stand a line feed and what is behind it
abbrev IsParted : List ℕ → List ℕ → Type 0
IsParted text line = text ≡ line ++ 10 ∷ drop (length line + 1) text

pub parted : (text : List ℕ) → length (line_of text) < length text → text ≡ line_of text ++ 10 ∷ behind_line text
parted [] l = absurd (omega arith)
parted (x ∷ xs) l = by (cases_Bool (x == 10)) (parted xs)
  where
    by : ((x == 10) ≡ true) ⊎ ((x == 10) ≡ false) → (length (line_of xs) < length xs → xs ≡ line_of xs ++ 10 ∷ behind_line xs) → IsParted (x ∷ xs) (line_of (x ∷ xs))
    by (inl e) rec = subst (IsParted (x ∷ xs)) (sym (line_ends x xs e)) (ap (λ b. b ∷ xs) (eqb-true x 10 e))
    by (inr e) rec =
        let more = line_more x xs e in
        let two : suc (length (line_of xs)) + 1 ≡ suc (length (line_of xs) + 1) = omega arith in
        subst (IsParted (x ∷ xs)) (sym more) (rw two (ap (λ l. x ∷ l) (rec (omega (arith, l, ap length more)))))

-- one byte more
feed_more : (xs : List ℕ) → count_by is_feed (10 ∷ xs) ≡ 1 + count_by is_feed xs
feed_more xs = sum_by-cons (λ x. one_if (is_feed x)) 10 xs

no_feed_more : (x : ℕ) (xs : List ℕ) → (x == 10) ≡ false → count_by is_feed (x ∷ xs) ≡ count_by is_feed xs
no_feed_more x xs e = sum_by-cons (λ x. one_if (is_feed x)) x xs ∙ ap (λ n. n + count_by is_feed xs) (ap one_if e) ∙ (let none : 0 + count_by is_feed xs ≡ count_by is_feed xs = omega arith in none)

no_feeds : (text : List ℕ) → count_by is_feed (line_of text) ≡ 0
no_feeds [] = refl
no_feeds (x ∷ xs) = by (cases_Bool (x == 10)) (no_feeds xs)
  where
    by : ((x == 10) ≡ true) ⊎ ((x == 10) ≡ false) → count_by is_feed (line_of xs) ≡ 0 → count_by is_feed (line_of (x ∷ xs)) ≡ 0
    by (inl e) rec = ap (count_by is_feed) (line_ends x xs e)
    by (inr e) rec = ap (count_by is_feed) (line_more x xs e) ∙ no_feed_more x (line_of xs) e ∙ rec

both_feeds : (xs ys : List ℕ) → count_by is_feed (xs ++ ys) ≡ count_by is_feed xs + count_by is_feed ys
both_feeds xs ys = sum_by-append (λ x. one_if (is_feed x)) xs ys

-- some bytes stand behind the first line
pub some_line : (text : List ℕ) → 0 < length (behind_line text) → length (line_of text) < length text
some_line text l = omega (arith, l, length-drop (length (line_of text) + 1) text)

-- the line feeds in front of a byte behind the first line
feeds_before : (text : List ℕ) (at : ℕ) → 0 < length (behind_line text) → count_by is_feed (take (length (line_of text) + suc at) text) ≡ 1 + count_by is_feed (take at (behind_line text))
feeds_before text at l =
    let whole = parted text (some_line text l) in
    ap (λ t. count_by is_feed (take (length (line_of text) + suc at) t)) whole ∙ ap (count_by is_feed) (take-append-add (line_of text) (10 ∷ behind_line text) (suc at))
    ∙ both_feeds (line_of text) (10 ∷ take at (behind_line text)) ∙ omega (arith, no_feeds text, feed_more (take at (behind_line text)))

pub lex_fault : (text first rest before : List ℕ) (at feeds line : ℕ) → Cut text first rest → IsUnlexed rest at → before ≡ take at rest → feeds ≡ count_by is_feed before → line ≡ 2 + feeds → IsLex text line
lex_fault text first rest before at feeds line c u b f l =
    let inside : length (behind_line text) ≡ length rest = ap length (sym c.rest_is) in
    let size : length (behind_line text) ≡ length text - (length (line_of text) + 1) = length-drop (length (line_of text) + 1) text in
    let place : length text - (length rest - at) ≡ length (line_of text) + suc at = omega (arith, inside, size, u.within) in
    let told : count_by is_feed (take (length text - (length rest - at)) text) ≡ 1 + feeds =
    ap (λ n. count_by is_feed (take n text)) place ∙ feeds_before text at (omega (arith, inside, u.within)) ∙ ap (λ r. 1 + count_by is_feed (take at r)) (sym c.rest_is)
    ∙ ap (λ w. 1 + count_by is_feed w) (sym b) ∙ ap (λ n. 1 + n) (sym f) in
    record {
      left = length rest - at;
      stops = ap tokens (sym c.rest_is) ∙ u.stops;
      line_is = l ∙ omega (arith, told);
    }

-- ---- the tokens of a text

lexed_are : (r : Result (List Token) ℕ) → IsLexed r → r ≡ Ok (left_of r)
lexed_are (Ok ts) h = refl
lexed_are (Err n) h = absurd h

pub lexed_is : (bs : List ℕ) → IsLexed (tokens bs) → tokens bs ≡ Ok (left bs)
unfolding left
lexed_is bs h = lexed_are (tokens bs) h

told_short : (t : Token) (r : Result (List Token) ℕ) (ts : List Token) (bs : List ℕ) → told (t ∷ []) r ≡ Ok ts → ((us : List Token) → r ≡ Ok us → length us ≤ length bs) → length ts ≤ suc (length bs)
told_short t (Ok us) ts bs e f = let same : t ∷ us ≡ ts = cc in omega (arith, f us refl, ap length same)
told_short t (Err n) ts bs e f = absurd (cc)

lex_short : (skip : ℕ) (bs : List ℕ) (ts : List Token) → lex token_of is_blank skip bs ≡ Ok ts → length ts ≤ length bs
unfolding lex
lex_short zero [] ts e = let same : [] ≡ ts = cc in omega (arith, ap length same)
lex_short (suc skip) [] ts e = let same : [] ≡ ts = cc in omega (arith, ap length same)
lex_short (suc skip) (b ∷ bs) ts e = omega (arith, lex_short skip bs ts e)
lex_short zero (b ∷ bs) ts e = by (is_blank b) (front token_of (b ∷ bs)) e (lex_short zero bs ts) (λ k us. lex_short k bs us)
  where
    by : (t : Bool) (o : Option (ℕ × Token)) → cond t (lex token_of is_blank zero bs) (lexed o (length (b ∷ bs)) (λ skip. lex token_of is_blank skip bs)) ≡ Ok ts
        → (lex token_of is_blank zero bs ≡ Ok ts → length ts ≤ length bs) → ((k : ℕ) (us : List Token) → lex token_of is_blank k bs ≡ Ok us → length us ≤ length bs) → length ts ≤ suc (length bs)
    by true o e f g = omega (arith, f e)
    by false None e f g = absurd (cc)
    by false (Some found) e f g = told_short found.1 (lex token_of is_blank (found.0 - 1) bs) ts bs e (g (found.0 - 1))

-- a text has no more tokens than bytes
pub few_tokens : (bs : List ℕ) → IsLexed (tokens bs) → length (left bs) ≤ length bs
few_tokens bs h = lex_short 0 bs (left bs) (lexed_is bs h)

pub tokens_few : (text first rest : List ℕ) (ts : List Token) → Cut text first rest → IsLexed (tokens rest) → length text < 2 ^ 32 - 1 → ts ≡ left rest → length ts < 2 ^ 32 - 2
tokens_few text first rest ts c h l e = omega (arith, l, few_tokens rest h, ap length c.rest_is, length-drop (length (line_of text) + 1) text, ap length e)

-- ---- whether the first line is the one of all C texts

pub other_line : (first : List ℕ) (r : Bool) → r ≡ not (pointwise nat_eq first first_line) → r ≡ true → first ≢ first_line
other_line first r e t = other_text first first_line (sym (not-true (pointwise nat_eq first first_line) (sym e ∙ t)))

pub same_line : (first : List ℕ) (r : Bool) → r ≡ not (pointwise nat_eq first first_line) → r ≡ false → first ≡ first_line
same_line first r e f = same_text first first_line (sym (not-false (pointwise nat_eq first first_line) (sym e ∙ f)))
