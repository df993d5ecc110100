-- Lists with commas between, by their last element, and the numbers of segments row by row.
use Rattle.std.proofs.Common.{◌≡◌, ℕ, ◌*◌, ◌<◌, List, [], ◌∷◌, ◌++◌, length, refl, sym, ap, ◌∙◌, arith, append_assoc}
use Rattle.std.specs.List.{flat_map}
use Rattle.std.proofs.lemmas.List.{append-nil}
use Rattle.c_lang.specs.declared.tree.CSeg.{CSeg}
use Rattle.c_lang.specs.Items.{or_zero, segment_numbers, table_numbers}
use Rattle.c_text.specs.Tokens.{Token, plain, mark}
use Rattle.c_text.specs.Expressions.{commas, listed}

module _ {X : Type 0} (f : X → List Token) where
  -- each with a comma behind it
  abbrev pub fronts : List X → List Token
  fronts xs = flat_map (λ x. f x ++ mark "," ∷ []) xs

  one_more : (x : X) (xs : List X) (ts : List Token) → f x ++ mark "," ∷ (fronts xs ++ ts) ≡ fronts (x ∷ xs) ++ ts
  one_more x xs ts = sym (append_assoc (f x ++ mark "," ∷ []) (fronts xs) ts ∙ append_assoc (f x) (mark "," ∷ []) (fronts xs ++ ts))

  pub commas_last : (front : List X) (last : X) (ts : List Token) → commas f (front ++ last ∷ []) ++ ts ≡ mark "," ∷ (fronts front ++ (f last ++ ts))
  commas_last [] last ts = ap (λ us. mark "," ∷ (us ++ ts)) (append-nil (f last))
  commas_last (x ∷ front) last ts =
      ap (λ us. mark "," ∷ us)
      (append_assoc (f x) (commas f (front ++ last ∷ [])) ts ∙ ap (λ us. f x ++ us) (commas_last front last ts) ∙ one_more x front (f last ++ ts))

  pub listed_last : (front : List X) (last : X) (ts : List Token) → listed f (front ++ last ∷ []) ++ ts ≡ fronts front ++ (f last ++ ts)
  listed_last [] last ts = ap (λ us. us ++ ts) (append-nil (f last))
  listed_last (x ∷ front) last ts =
      append_assoc (f x) (commas f (front ++ last ∷ [])) ts ∙ ap (λ us. f x ++ us) (commas_last front last ts) ∙ one_more x front (f last ++ ts)

abbrev number : ℕ → List Token
number n = plain n ∷ []

-- the numbers of a segment
abbrev pub row_toks : CSeg → List Token
row_toks s = listed number (segment_numbers s)

behind_comma : (front : List CSeg) (last : CSeg) → commas number (table_numbers (front ++ last ∷ [])) ≡ mark "," ∷ listed number (table_numbers (front ++ last ∷ []))
behind_comma [] last = refl
behind_comma (s ∷ front) last = refl

rows_last : (front : List CSeg) (last : CSeg) (ts : List Token) → listed number (table_numbers (front ++ last ∷ [])) ++ ts ≡ fronts row_toks front ++ (row_toks last ++ ts)
rows_last [] last ts = refl
rows_last (s ∷ front) last ts =
    ap (λ us. row_toks s ++ us) (ap (λ us. us ++ ts) (behind_comma front last) ∙ ap (λ us. mark "," ∷ us) (rows_last front last ts))

-- the same where there is a last one
pub zero_rows : (ss front : List CSeg) (last : CSeg) (ts : List Token) → ss ≡ front ++ last ∷ [] → listed number (or_zero (table_numbers ss)) ++ ts ≡ fronts row_toks front ++ (row_toks last ++ ts)
zero_rows ss [] last ts is = rw is (rows_last [] last ts)
zero_rows ss (s ∷ front) last ts is = rw is (rows_last (s ∷ front) last ts)

pub zero_bytes : (bs front : List ℕ) (last : ℕ) (ts : List Token) → bs ≡ front ++ last ∷ [] → listed number (or_zero bs) ++ ts ≡ fronts number front ++ plain last ∷ ts
zero_bytes bs [] last ts is = rw is (listed_last number [] last ts)
zero_bytes bs (b ∷ front) last ts is = rw is (listed_last number (b ∷ front) last ts)

rows_long : (ss : List CSeg) → length (flat_map segment_numbers ss) ≡ 4 * length ss
rows_long [] = refl
rows_long (s ∷ ss) = let behind = rows_long ss in omega (arith, behind)

pub rows_count : (ss : List CSeg) → 0 < length ss → 4 * length ss ≡ length (or_zero (flat_map segment_numbers ss))
rows_count [] p = absurd (omega arith)
rows_count (s ∷ ss) p = let long = rows_long (s ∷ ss) in omega (arith, long)
