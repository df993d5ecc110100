-- What a source shows, and how a take changes it.
use Rattle.std.specs.Prelude.{◌≡◌, ◌↔◌, ℕ, ◌+◌, ◌<◌, ◌≤◌, List, [], length, take, MatchResult, IsErrOf, IfSome, Option, Result, Ok, Err}
use Rattle.edge_io.specs.Counts.{counted}
use Rattle.edge_io.specs.Told.{preceded}
use Rattle.edge_io.specs.declared.source.ReadEnd.{ReadEnd}
use Rattle.edge_io.specs.declared.source.ReadEnd.TheVariants.{TooLong}

-- the bytes left, where they are told; how many were given; how often a take failed
pub record Input : Type 0 where
  pub left : Option (List ℕ)
  pub given : ℕ
  pub faults : ℕ

-- the next bytes went into the front of the buffer, or none was moved
abbrev pub Gives : {E : Type 0} → Option (List ℕ) → Option (List ℕ) → Result ℕ E → List ℕ → Type 0
Gives old new result buffer =
    MatchResult result (λ n. old ≡ preceded (take n buffer) new) (λ _. new ≡ old)

-- the number of bytes given after an answer
abbrev pub given_after : {E : Type 0} → ℕ → Result ℕ E → ℕ
given_after given (Ok n) = counted given n
given_after given (Err _) = given

-- where the bytes left are told, n is 0 exactly if there is none
abbrev pub EndsAt : Option (List ℕ) → ℕ → Type 0
EndsAt left n = IfSome left (λ bytes. (n ≡ 0) ↔ (bytes ≡ []))

-- these bytes came
pub record Gave (old new : Input) (bytes : List ℕ) : Type 0 where
  pub left : old.left ≡ preceded bytes new.left
  pub given : new.given ≡ counted old.given (length bytes)

-- some bytes came, and it is too long exactly where they are more than the limit
pub record Came {T : Type 0} (limit : ℕ) (old new : Input) (result : Result T ReadEnd) : Type 0 where
  pub bytes : List ℕ
  pub gave : Gave old new bytes
  pub too_long : IsErrOf result TooLong ↔ (limit < length bytes)

-- more than the limit were given, by a count that may stand at its end
abbrev pub GaveMore : ℕ → ℕ → ℕ → Type 0
GaveMore limit before now = counted before (limit + 1) ≤ now
