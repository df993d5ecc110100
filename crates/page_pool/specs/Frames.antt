-- Frames of 4,096 bytes, each with a number of holders.
use Rattle.std.specs.Prelude.{◌≡◌, ◌≢◌, ℕ, ◌+◌, ◌-◌, ◌*◌, ◌<◌, ◌≤◌, ◌==◌, ◌⊎◌, nat_lt, if◌then◌else◌, List, length, slice_index, slice_set, count_by, take, drop}

-- by number: how many holders a frame has, and the bytes of all frames behind one another
pub record Frames : Type 0 where
  pub holders : List ℕ
  pub bytes : List ℕ

abbrev pub holders_of : Frames → ℕ → ℕ
holders_of s n = slice_index s.holders n

-- the byte of frame n at k
abbrev pub frame_byte : Frames → ℕ → ℕ → ℕ
frame_byte s n k = slice_index s.bytes (4096 * n + k)

-- the bytes of frame n
abbrev pub frame_bytes : Frames → ℕ → List ℕ
frame_bytes s n = take 4096 (drop (4096 * n) s.bytes)

-- how many frames have no holder
abbrev pub spare_of : Frames → ℕ
spare_of s = count_by (λ h. h == 0) s.holders

-- n is the number of a frame that has a holder
abbrev pub IsHeld : Frames → ℕ → Type 0
IsHeld s n = (n < length s.holders) × (1 ≤ holders_of s n)

-- every frame but n has the bytes that it had
abbrev pub KeepsFrames : Frames → Frames → ℕ → Type 0
KeepsFrames old new n = (m k : ℕ) → m ≢ n → k < 4096 → frame_byte new m k ≡ frame_byte old m k

-- frame n, which had no holder, has one and these bytes; nothing else changed
pub record IsTaken (old new : Frames) (n : ℕ) (page : ℕ → ℕ) : Type 0 where
  pub within : n < length old.holders
  pub free : holders_of old n ≡ 0
  pub holders : new.holders ≡ slice_set old.holders n 1
  pub spare : spare_of new + 1 ≡ spare_of old
  pub filled : (k : ℕ) → k < 4096 → frame_byte new n k ≡ page k
  pub others : KeepsFrames old new n

-- a page of zeros
abbrev pub zeros : ℕ → ℕ
zeros k = 0

-- a page that holds some bytes from a place on, and zeros elsewhere
abbrev pub placed : ℕ → List ℕ → ℕ → ℕ
placed at piece k = if nat_lt k at then 0 else slice_index piece (k - at)

-- frame n has one more holder, 65,535 at most; nothing else changed
abbrev pub HasJoined : Frames → Frames → ℕ → Type 0
HasJoined old new n = (holders_of old n < 65535) × (new ≡ record old { holders = slice_set old.holders n (holders_of old n + 1) })

-- frame m is a fresh one, with one holder, which frame n has lost
abbrev pub IsSplit : Frames → Frames → ℕ → ℕ → Type 0
IsSplit old new n m =
    (m < length old.holders) × (holders_of old m ≡ 0) × (new.holders ≡ slice_set (slice_set old.holders n (holders_of old n - 1)) m 1) × (spare_of new + 1 ≡ spare_of old)

-- A holder of frame n holds frame m, and holds it alone: n itself where it was the only holder, else a fresh one. No other frame changed
-- its bytes.
pub record HoldsAlone (old new : Frames) (n m : ℕ) : Type 0 where
  pub alone : holders_of old n ≡ 1 → (m ≡ n) × (new.holders ≡ old.holders)
  pub split : 2 ≤ holders_of old n → IsSplit old new n m
  pub others : KeepsFrames old new m

-- frame m has the bytes that frame n had
abbrev pub HasBytes : Frames → Frames → ℕ → ℕ → Type 0
HasBytes old new n m = (k : ℕ) → k < 4096 → frame_byte new m k ≡ frame_byte old n k

-- frame n was written at one place, by a holder that holds m now
pub record IsWritten (old new : Frames) (n m at byte : ℕ) : Type 0 where
  pub own : HoldsAlone old new n m
  pub here : frame_byte new m at ≡ byte
  pub rest : (k : ℕ) → k < 4096 → k ≢ at → frame_byte new m k ≡ frame_byte old n k

-- p is none of the count places from start on
abbrev pub IsBeside : ℕ → ℕ → ℕ → Type 0
IsBeside start count p = (p < start) ⊎ (start + count ≤ p)

-- frame n was written from one place on, by a holder that holds m now
pub record IsPieceWritten (old new : Frames) (n m at : ℕ) (piece : List ℕ) : Type 0 where
  pub own : HoldsAlone old new n m
  pub here : (i : ℕ) → i < length piece → frame_byte new m (at + i) ≡ slice_index piece i
  pub rest : (k : ℕ) → k < 4096 → IsBeside at (length piece) k → frame_byte new m k ≡ frame_byte old n k

-- a write needs a frame that is not there: the frame has another holder, and none is spare
abbrev pub LacksFrame : Frames → ℕ → Type 0
LacksFrame s n = (2 ≤ holders_of s n) × (spare_of s ≡ 0)
