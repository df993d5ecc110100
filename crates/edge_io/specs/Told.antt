-- Bytes of an object that may tell them. They are None where it doesn't.
use Rattle.std.specs.Prelude.{◌≡◌, ℕ, List, [], ◌++◌, IfSome, Option}
use Rattle.std.specs.Option.{option_map}

-- told bytes with more behind them
abbrev pub followed : Option (List ℕ) → List ℕ → Option (List ℕ)
followed told bytes = option_map (λ xs. xs ++ bytes) told

-- told bytes with more before them
abbrev pub preceded : List ℕ → Option (List ℕ) → Option (List ℕ)
preceded bytes told = option_map (λ xs. bytes ++ xs) told

-- there is none, where that is told
abbrev pub IsNothing : Option (List ℕ) → Type 0
IsNothing told = IfSome told (λ bytes. bytes ≡ [])
