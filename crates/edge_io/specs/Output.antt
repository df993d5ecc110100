-- What a sink shows, and how a put changes it.
use Rattle.std.specs.Prelude.{◌≡◌, ◌⊎◌, ℕ, ◌≤◌, ◌<◌, List, length, take, MatchResult, Option, Result}
use Rattle.edge_io.specs.Counts.{Rose}
use Rattle.edge_io.specs.Told.{followed}

-- the bytes taken, where they are told; how often a put failed
pub record Output : Type 0 where
  pub taken : Option (List ℕ)
  pub faults : ℕ

-- the front of the piece was taken, or nothing
abbrev pub Takes : {E : Type 0} → Option (List ℕ) → Option (List ℕ) → Result ℕ E → List ℕ → Type 0
Takes old new result piece =
    MatchResult result (λ n. new ≡ followed old (take n piece)) (λ _. new ≡ old)

-- the sink failed after it took a proper front of the piece
pub record TookPart (old new : Output) (piece : List ℕ) : Type 0 where
  pub count : ℕ
  pub proper : count < length piece
  pub taken : new.taken ≡ followed old.taken (take count piece)
  pub rose : Rose old.faults new.faults

-- whatever the answer: it took the whole piece, or a front of it and its count rose
pub record TookFront (old new : Output) (piece : List ℕ) : Type 0 where
  pub count : ℕ
  pub within : count ≤ length piece
  pub taken : new.taken ≡ followed old.taken (take count piece)
  pub cause : (count ≡ length piece) ⊎ Rose old.faults new.faults
  pub later : old.faults ≤ new.faults
