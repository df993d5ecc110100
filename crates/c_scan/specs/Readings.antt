-- Readers: what they take from the front of a list of tokens, and what is left; and how something is spelled and read.
use Rattle.std.specs.Prelude.{◌≡◌, ℕ, ◌^◌, ◌==◌, Bool, true, false, nat_lt, List, [], ◌∷◌, drop, Option, Some, None, Result, Ok, Err, if◌then◌else◌}
use Rattle.std.specs.Str.{bytes_eq}
use Rattle.c_text.specs.Tokens.{Token, name, plain, long, sign}
use Rattle.c_scan.specs.Names.{when_below}
use Rattle.c_scan.specs.declared.stop.Stop.{Stop}
use Rattle.c_scan.specs.declared.stop.Stop.TheVariants.{Malformed, NoMemory}

-- what a reader tells: a value and the tokens left behind it, or that it finds none
pub data Outcome (A : Type 0) : Type 0 where
  refuses : Outcome A
  takes : (value : A) → (rest : List Token) → Outcome A

-- what takes a value from the front of some tokens
abbrev pub Reader : Type 0 → Type 0
Reader A = List Token → Outcome A

-- one reader, and behind its value another
abbrev pub followed : {A B : Type 0} → Outcome A → (A → Reader B) → Outcome B
followed refuses next = refuses
followed (takes value rest) next = next value rest

-- a function of the code read this, and left these tokens
abbrev pub Tells : {A : Type 0} → Result A Stop → List Token → Outcome A → Type 0
Tells (Ok value) rest read = read ≡ takes value rest
Tells (Err Malformed) rest read = read ≡ refuses
Tells (Err NoMemory) rest read = Unit {0}

-- both tokens are the same name, the same sign, or the same number with a suffix
abbrev pub alike : Token → Token → Bool
alike (name a) (name b) = bytes_eq a b
alike (sign a) (sign b) = bytes_eq a b
alike (long a) (long b) = a == b
alike a b = false

-- the tokens begin with this one
abbrev pub at : Token → List Token → Bool
at t (u ∷ ts) = alike u t
at t [] = false

-- a name comes first
abbrev pub at_name : List Token → Bool
at_name (name w ∷ ts) = true
at_name ts = false

-- a name comes first, and its first byte is `f`
abbrev pub at_function : List Token → Bool
at_function (name (b ∷ w) ∷ ts) = b == 102
at_function ts = false

-- a sign comes first
abbrev pub at_any_sign : List Token → Bool
at_any_sign (sign b ∷ ts) = true
at_any_sign ts = false

-- the number below 2^64 in front, without a suffix and with it
abbrev pub plain_ahead : List Token → Option ℕ
plain_ahead (plain n ∷ ts) = when_below (2 ^ 64) n
plain_ahead ts = None

-- the same with the suffix
abbrev pub long_ahead : List Token → Option ℕ
long_ahead (long n ∷ ts) = when_below (2 ^ 64) n
long_ahead ts = None

-- nothing is left
abbrev pub at_end : List Token → Bool
at_end [] = true
at_end (t ∷ ts) = false

-- how something is spelled, and how it is read
pub record Syntax (A : Type 0) : Type 0 where
  pub spell : A → List Token
  pub read : Reader A

-- this name, sign or number with a suffix
abbrev pub exactly : Token → Syntax (Unit {0})
exactly t = record { spell = λ _. t ∷ []; read = λ ts. if at t ts then takes tt (drop 1 ts) else refuses }

-- a number of at most 64 bits without a suffix, taken from the front
abbrev pub plain_taken : Reader ℕ
plain_taken (plain n ∷ ts) = if nat_lt n (2 ^ 64) then takes n ts else refuses
plain_taken ts = refuses

-- the same with the suffix
abbrev pub long_taken : Reader ℕ
long_taken (long n ∷ ts) = if nat_lt n (2 ^ 64) then takes n ts else refuses
long_taken ts = refuses

-- a number of at most 64 bits without a suffix, and one with it
abbrev pub plain_number : Syntax ℕ
plain_number = record { spell = λ n. plain n ∷ []; read = plain_taken }

-- a number of at most 64 bits with the suffix
abbrev pub long_number : Syntax ℕ
long_number = record { spell = λ n. long n ∷ []; read = long_taken }

-- a number below a bound
abbrev pub below_taken : ℕ → Reader ℕ
below_taken bound (plain n ∷ ts) = if nat_lt n bound then takes n ts else refuses
below_taken bound ts = refuses

-- a number below a bound, both ways
abbrev pub number_below : ℕ → Syntax ℕ
number_below bound = record { spell = λ n. plain n ∷ []; read = below_taken bound }

-- the value of a name or a sign, where it has one
abbrev pub outcome_of : {A : Type 0} → Option A → List Token → Outcome A
outcome_of None ts = refuses
outcome_of (Some x) ts = takes x ts

-- the meaning of the name in front
abbrev pub name_taken : {A : Type 0} → (List ℕ → Option A) → Reader A
name_taken of_word (name w ∷ ts) = outcome_of (of_word w) ts
name_taken of_word ts = refuses

-- what a name means, spelled as the name
abbrev pub name_of : {A : Type 0} → (A → List ℕ) → (List ℕ → Option A) → Syntax A
name_of word of_word = record { spell = λ x. name (word x) ∷ []; read = name_taken of_word }

-- the meaning of the sign in front
abbrev pub sign_taken : {A : Type 0} → (List ℕ → Option A) → Reader A
sign_taken of_sign (sign b ∷ ts) = outcome_of (of_sign b) ts
sign_taken of_sign ts = refuses

-- what a sign means, spelled as the sign
abbrev pub sign_of : {A : Type 0} → (A → List ℕ) → (List ℕ → Option A) → Syntax A
sign_of bytes of_sign = record { spell = λ x. sign (bytes x) ∷ []; read = sign_taken of_sign }
