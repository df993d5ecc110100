-- Readers: what they take from the front of a list of tokens, and what is left.
use Rattle.std.specs.Prelude.{◌≡◌, ℕ, zero, suc, ◌==◌, Bool, true, false, List, [], ◌∷◌, ◌++◌, length, drop, Result, Ok, Err, if◌then◌else◌}
use Rattle.std.specs.Str.{bytes_eq}
use Rattle.text_lex.specs.declared.token.Token.{Token}
use Rattle.text_lex.specs.declared.token.Token.TheVariants.{Name, Number, Sign}
use Rattle.line_reading.specs.declared.stop.Stop.{Stop}
use Rattle.line_reading.specs.declared.stop.Stop.TheVariants.{Malformed, NoMemory}
use Rattle.line_reading.specs.Signs.{close_paren, comma}

-- what was read, and the tokens behind it
pub data Read (A : Type 0) : Type 0 where
  fails : Read A
  reads : (value : A) → (rest : List Token) → Read A

abbrev pub Reader : Type 0 → Type 0
Reader A = List Token → Read A

-- a reader behind what was read
abbrev pub after : {A B : Type 0} → Read A → (A → Reader B) → Read B
after fails next = fails
after (reads value rest) next = next value rest

-- one reader, and then another
infixl 10 ◌>>=◌
abbrev pub ◌>>=◌ : {A B : Type 0} → Reader A → (A → Reader B) → Reader B
(first >>= next) ts = after (first ts) next

-- nothing is taken, and this is the value
abbrev pub give : {A : Type 0} → A → Reader A
give value ts = reads value ts

-- nothing can be read
abbrev pub fail : {A : Type 0} → Reader A
fail ts = fails

-- only where the test holds
abbrev pub only_if : {A : Type 0} → Bool → Reader A → Reader A
only_if true next = next
only_if false next = fail

-- a reader of the code gave this, with these tokens left
abbrev pub Told : {A : Type 0} → Result A Stop → List Token → Read A → Type 0
Told (Ok value) rest read = read ≡ reads value rest
Told (Err Malformed) rest read = read ≡ fails
Told (Err NoMemory) rest read = Unit {0}

-- the tokens begin with this sign
abbrev pub begins : ℕ → List Token → Bool
begins index (Sign found ∷ ts) = found == index
begins index ts = false

-- this sign
abbrev pub sign : ℕ → Reader (Unit {0})
sign index ts = if begins index ts then reads tt (drop 1 ts) else fails

-- what is left where this sign may stand in front
abbrev pub without : ℕ → List Token → List Token
without index ts = if begins index ts then drop 1 ts else ts

-- behind this sign one reader, without it the other
abbrev pub chosen : {A : Type 0} → ℕ → Reader A → Reader A → Reader A
chosen index with_it other ts = if begins index ts then with_it (drop 1 ts) else other ts

-- a number
abbrev pub number : Reader ℕ
number (Number value ∷ ts) = reads value ts
number ts = fails

-- the end of the tokens
abbrev pub ending : Reader (Unit {0})
ending [] = reads tt []
ending (t ∷ ts) = fails

-- a name
abbrev pub any_name : Reader (List ℕ)
any_name (Name letters ∷ ts) = reads letters ts
any_name ts = fails

-- the next token is this name
abbrev pub begins_name : List ℕ → List Token → Bool
begins_name letters (Name found ∷ ts) = bytes_eq found letters
begins_name letters ts = false

-- what is left where this name may stand in front
abbrev pub without_name : List ℕ → List Token → List Token
without_name letters ts = if begins_name letters ts then drop 1 ts else ts

-- this name
abbrev pub this_name : List ℕ → Reader (Unit {0})
this_name letters ts = if begins_name letters ts then reads tt (drop 1 ts) else fails

-- these values before those that are read
abbrev pub onto : {A : Type 0} → List A → Read (List A) → Read (List A)
onto xs fails = fails
onto xs (reads ys rest) = reads (xs ++ ys) rest

-- at most so many more things, this sign before each
unfoldable pub up_to : {A : Type 0} → ℕ → ℕ → Reader A → Reader (List A)
up_to zero index one ts = reads [] ts
up_to (suc n) index one ts =
    if begins index ts then after (one (drop 1 ts)) (λ x more. onto (x ∷ []) (up_to n index one more)) else reads [] ts

-- one thing, and as many more as there are, this sign before each
unfoldable pub items : {A : Type 0} → ℕ → Reader A → Reader (List A)
items index one ts = after (one ts) (λ x more. onto (x ∷ []) (up_to (length more) index one more))

-- things with commas between them, or none, and `)`
unfoldable pub in_parens : {A : Type 0} → Reader A → Reader (List A)
in_parens one = chosen close_paren (give []) (items comma one >>= (λ xs. sign close_paren >>= (λ _. give xs)))

-- a logical line to its end
unfoldable pub whole_line : {A : Type 0} → Reader A → Reader A
whole_line one = one >>= (λ value. ending >>= (λ _. give value))
