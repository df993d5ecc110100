-- How the frames of one space and its pool may change under stores.
use Rattle.std.specs.Prelude.{◌≡◌, ℕ, ◌+◌, ◌≤◌, ◌<◌, ◌==◌, ◌&&◌, not, Bool, true, false, if◌then◌else◌, List, [], ◌∷◌, ◌++◌, length, slice_index, slice_index_or, count_by}
use Rattle.page_pool.specs.Frames.{Frames, holders_of, frame_byte, spare_of}

-- one where the test holds
abbrev pub one_if : Bool → ℕ
one_if b = if b then 1 else 0

-- how many pages had the frame n and have another one now
unfoldable pub lost : ℕ → List ℕ → List ℕ → ℕ
lost n [] gs = 0
lost n (f ∷ fs) [] = 0
lost n (f ∷ fs) (g ∷ gs) = one_if (not (f == g) && (f == n)) + lost n fs gs

-- how many pages have another frame now
unfoldable pub moves : List ℕ → List ℕ → ℕ
moves [] gs = 0
moves (f ∷ fs) [] = 0
moves (f ∷ fs) (g ∷ gs) = one_if (not (f == g)) + moves fs gs

-- From the frames fs of the pages to gs: only a writable page gets another frame, a fresh one of its own; its old
-- frame loses this holder and keeps one; nothing else changes in the numbers of holders.
pub record IsMoved (writes : List Bool) (fs gs : List ℕ) (old new : Frames) : Type 0 where
  pub long : length gs ≡ length fs
  pub numbers : length new.holders ≡ length old.holders
  pub may : (i : ℕ) → (slice_index gs i ≡ slice_index fs i → ⊥) → slice_index_or writes i false ≡ true
  pub fresh : (i : ℕ) → (slice_index gs i ≡ slice_index fs i → ⊥) → (holders_of old (slice_index gs i) ≡ 0) × (holders_of new (slice_index gs i) ≡ 1)
  pub stays : (n : ℕ) → 1 ≤ holders_of old n → 1 ≤ holders_of new n
  pub loses : (n : ℕ) → 1 ≤ holders_of old n → holders_of new n + lost n fs gs ≡ holders_of old n
  pub others : (n : ℕ) → holders_of old n ≡ 0 → ((i : ℕ) → slice_index gs i ≡ n → slice_index fs i ≡ n) → holders_of new n ≡ 0
  pub spare : spare_of new + moves fs gs ≡ spare_of old

-- these frames stand in the pool: none is held here more often than it has holders
abbrev pub StandIn : List ℕ → Frames → Type 0
StandIn fs s = (n : ℕ) → count_by (λ f. f == n) fs ≤ holders_of s n

-- all other frames that stood in the pool together with these still do, and have their bytes
abbrev pub LeavesHolders : List ℕ → List ℕ → Frames → Frames → Type 0
LeavesHolders fs gs old new =
    (rest : List ℕ) → StandIn (fs ++ rest) old →
    StandIn (gs ++ rest) new × ((n k : ℕ) → 1 ≤ count_by (λ f. f == n) rest → k < 4096 → frame_byte new n k ≡ frame_byte old n k)
