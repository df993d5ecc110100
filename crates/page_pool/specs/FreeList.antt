-- The list of the frames that have no holder.
use Rattle.std.specs.Prelude.{◌≡◌, ℕ, ◌<◌, ◌≤◌, ◌==◌, List, length, take, slice_index, count_by}

-- how often a number stands in a list
abbrev pub times : ℕ → List ℕ → ℕ
times n xs = count_by (λ x. x == n) xs

-- each number in the list is that of a frame without a holder, and stands once
abbrev pub AreFree : List ℕ → List ℕ → Type 0
AreFree holders xs = (n : ℕ) → 1 ≤ times n xs → (n < length holders) × (slice_index holders n ≡ 0) × (times n xs ≡ 1)

-- the first spare places of a list of fixed length hold the numbers of all frames without a holder
pub record ListsFree (holders free : List ℕ) (spare : ℕ) : Type 0 where
  pub room : length free ≡ length holders
  pub counted : spare ≡ count_by (λ h. h == 0) holders
  pub listed : AreFree holders (take spare free)
