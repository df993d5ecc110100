-- The binary operators of expressions, by their places in the list of signs.
use Rattle.std.specs.Prelude.{ℕ, ◌==◌, Bool, List, [], ◌∷◌}
use Rattle.std.specs.List.{list_any}

-- `<=!` `>>!` `//!`, `!=`, `<=` `<!` `<<` `>>` `//` `/!`, `=` `&` `|` `+` `-` `*` `/` `<` `^`
abbrev pub binary_signs : List ℕ
binary_signs =
    1 ∷ 2 ∷ 3 ∷ 7 ∷ 9 ∷ 10 ∷ 11 ∷ 12 ∷ 13 ∷ 14 ∷ 22 ∷ 23 ∷ 24 ∷ 25 ∷ 26 ∷ 27 ∷ 28 ∷ 29 ∷ 30 ∷ []

-- the sign is a binary operator
unfoldable pub is_binary : ℕ → Bool
is_binary index = list_any (λ k. index == k) binary_signs
