-- What stands between the words of a text: blanks, line feeds, and signs that stand in no longer one.
use Rattle.std.specs.Prelude.{ℕ, ◌==◌, ◌||◌, Bool, false, List, [], ◌∷◌, if◌then◌else◌, codes}
use Rattle.std.specs.List.{list_all, list_any}
use Rattle.c_text.specs.Tokens.{Token, sign, is_blank}

-- the signs of one byte that are in no other sign
abbrev pub points : List ℕ
points = codes "(){}[];,:?"

abbrev pub is_point : ℕ → Bool
is_point b = list_any (λ p. p == b) points

-- blanks, line feeds and such signs alone
abbrev pub is_gap : List ℕ → Bool
is_gap bytes = list_all (λ b. is_blank b || is_point b) bytes

-- a gap that is not empty ends a word before it
abbrev pub ends_word : List ℕ → Bool
ends_word [] = false
ends_word (b ∷ bs) = is_gap (b ∷ bs)

-- the signs of a gap
abbrev pub gap_toks : List ℕ → List Token
gap_toks [] = []
gap_toks (b ∷ bs) = if is_blank b then gap_toks bs else sign (b ∷ []) ∷ gap_toks bs
