-- The tokens of a text, the longest at each place. What is a token is a parameter: a test of a word and the byte that
-- comes next, or none at the end of the text.
use Rattle.std.specs.Prelude.{ℕ, ◌-◌, Bool, zero, suc, List, [], ◌∷◌, ◌++◌, length, take, Option, Some, None, Result, Ok, Err, if◌then◌else◌, slice_get}

-- the token of n bytes, or else the shorter one
abbrev pub longer : {T : Type 0} → Option T → ℕ → Option (ℕ × T) → Option (ℕ × T)
longer None n shorter = shorter
longer (Some t) n shorter = Some (n, t)

-- the longest token of at most n bytes at the front of a text, with its length
unfoldable pub longest : {T : Type 0} → (List ℕ → Option ℕ → Option T) → ℕ → List ℕ → Option (ℕ × T)
longest token_of zero bs = None
longest token_of (suc n) bs = longer (token_of (take (suc n) bs) (slice_get bs (suc n))) (suc n) (longest token_of n bs)

-- the longest token at the front of a text, with its length
abbrev pub front : {T : Type 0} → (List ℕ → Option ℕ → Option T) → List ℕ → Option (ℕ × T)
front token_of bs = longest token_of (length bs) bs

-- these tokens, and then those
abbrev pub told : {T : Type 0} → List T → Result (List T) ℕ → Result (List T) ℕ
told ts (Ok us) = Ok (ts ++ us)
told ts (Err left) = Err left

-- a token in front of those behind it, or where so many bytes are left no token begins
abbrev pub lexed : {T : Type 0} → Option (ℕ × T) → ℕ → (ℕ → Result (List T) ℕ) → Result (List T) ℕ
lexed None left behind = Err left
lexed (Some found) left behind = told (found.1 ∷ []) (behind (found.0 - 1))

-- The tokens of a text behind its first `skip` bytes, or how many bytes are left where the first byte stands that is no
-- blank and begins no token. A token is told at its first byte, and the bytes that it has besides are skipped.
unfoldable pub lex : {T : Type 0} → (List ℕ → Option ℕ → Option T) → (ℕ → Bool) → ℕ → List ℕ → Result (List T) ℕ
lex token_of is_blank skip [] = Ok []
lex token_of is_blank (suc skip) (b ∷ bs) = lex token_of is_blank skip bs
lex token_of is_blank zero (b ∷ bs) =
    if is_blank b then lex token_of is_blank zero bs
    else lexed (front token_of (b ∷ bs)) (length (b ∷ bs)) (λ skip. lex token_of is_blank skip bs)
