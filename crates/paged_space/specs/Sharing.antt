-- Frames that got one more holder each, or lost one.
use Rattle.std.specs.Prelude.{◌≡◌, ℕ, ◌+◌, ◌==◌, ◌<◌, List, length, slice_index, count_by}
use Rattle.page_pool.specs.Frames.{Frames, holders_of, spare_of}

-- each of these frames got one more holder, and nothing else changed
pub record IsShared (fs : List ℕ) (old new : Frames) : Type 0 where
  pub long : length new.holders ≡ length old.holders
  pub bytes : new.bytes ≡ old.bytes
  pub counts : (n : ℕ) → holders_of new n ≡ holders_of old n + count_by (λ f. f == n) fs
  pub spare : spare_of new ≡ spare_of old

-- one of these frames has as many holders as it may have
pub record HasFull (fs : List ℕ) (s : Frames) : Type 0 where
  pub page : ℕ
  pub within : page < length fs
  pub full : holders_of s (slice_index fs page) ≡ 65535

-- each of these frames may have one more holder
abbrev pub HasRoomIn : List ℕ → Frames → Type 0
HasRoomIn fs s = (k : ℕ) → k < length fs → holders_of s (slice_index fs k) < 65535

-- each of these frames lost one holder, and nothing else changed
pub record IsGiven (fs : List ℕ) (old new : Frames) : Type 0 where
  pub long : length new.holders ≡ length old.holders
  pub bytes : new.bytes ≡ old.bytes
  pub counts : (n : ℕ) → holders_of new n + count_by (λ f. f == n) fs ≡ holders_of old n
