-- Rows of places, the lists that they come from, and what they lead to.
use Rattle.std.specs.Prelude.{◌≡◌, ◌↔◌, ◌⊎◌, ℕ, ◌+◌, ◌*◌, ◌<◌, ◌≤◌, Bool, true, false, not, List, [], ◌++◌, length, count_by, slice_index, slice_index_or}
use Rattle.std.specs.List.{Contains}

-- the list at a place
abbrev pub row : List (List ℕ) → ℕ → List ℕ
row rows k = slice_index_or rows k []

-- rows hold, for each key, the places of the lists that have it
pub record AreRows (keys : List ℕ) (lists rows : List (List ℕ)) : Type 0 where
  pub count : length rows ≡ length keys
  pub exactly : (j i : ℕ) → j < length keys → Contains (row rows j) i ↔ Contains (row lists i) (slice_index keys j)

-- all that rows lead to from some starts
pub data Leads (rows : List (List ℕ)) (starts : List ℕ) : ℕ → Type 0 where
  start : {p : ℕ} → Contains starts p → Leads rows starts p
  on : {p q : ℕ} → Leads rows starts p → Contains (row rows p) q → Leads rows starts q

-- a mark at a place
abbrev pub mark : List Bool → ℕ → Bool
mark marks k = slice_index_or marks k false

-- some are given, and rows lead to p from them or from the openers
pub record IsUser (rows : List (List ℕ)) (openers given : List ℕ) (p : ℕ) : Type 0 where
  pub some : ℕ
  pub is : Contains given some
  pub led : Leads rows (given ++ openers) p

-- marks at exactly these places
pub record AreUsers (rows : List (List ℕ)) (openers given : List ℕ) (marks : List Bool) : Type 0 where
  pub exactly : (k : ℕ) → k < length rows → (mark marks k ≡ true) ↔ IsUser rows openers given k

-- a column of marks for each row of those given
pub record AreColumns (rows : List (List ℕ)) (openers : List ℕ) (given : List (List ℕ)) (columns : List (List Bool)) : Type 0 where
  pub count : length columns ≡ length given
  pub each : (c : ℕ) → c < length given → AreUsers rows openers (row given c) (slice_index_or columns c [])

-- to the row of each key that a list has, the list's place is added
pub record AreAdded (keys list : List ℕ) (place : ℕ) (old new : List (List ℕ)) : Type 0 where
  pub count : length new ≡ length old
  pub exactly : (j i : ℕ) → j < length keys → Contains (row new j) i ↔ (Contains (row old j) i ⊎ ((i ≡ place) × Contains list (slice_index keys j)))

-- a search: which places were found, and which of them wait to be gone on from
pub record IsPut (xs : List ℕ) (old new : List Bool) (waiting later : List ℕ) : Type 0 where
  pub count : length new ≡ length old
  pub keeps : (k : ℕ) → mark old k ≡ true → mark new k ≡ true
  pub from : (k : ℕ) → mark new k ≡ true → (mark old k ≡ true) ⊎ Contains xs k
  pub all : (k : ℕ) → Contains xs k → k < length old → mark new k ≡ true
  pub waits : (k : ℕ) → Contains waiting k → Contains later k
  pub newly : (k : ℕ) → mark new k ≡ true → (mark old k ≡ true) ⊎ Contains later k
  pub marked : (k : ℕ) → Contains later k → Contains waiting k ⊎ (mark new k ≡ true)
  pub fewer : 2 * count_by not new + length later ≤ 2 * count_by not old + length waiting

-- all found is led to, what does not wait has its row found, and the starts are found
pub record IsOnTheWay (rows : List (List ℕ)) (starts : List ℕ) (marks : List Bool) (waiting : List ℕ) : Type 0 where
  pub count : length marks ≡ length rows
  pub sound : (k : ℕ) → mark marks k ≡ true → Leads rows starts k
  pub waits : (k : ℕ) → Contains waiting k → mark marks k ≡ true
  pub begun : (k : ℕ) → Contains starts k → k < length rows → mark marks k ≡ true
  pub done : (k q : ℕ) → mark marks k ≡ true → Contains (row rows k) q → q < length rows → Contains waiting k ⊎ (mark marks q ≡ true)
