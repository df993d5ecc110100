-- A memory as a finite map from addresses to a byte and a flag, and what is read and written in it.
use Rattle.std.specs.Prelude.{ℕ, zero, suc, ◌+◌, ◌%◌, ◌^◌, ◌==◌, Bool, true, false, nat_lt, if◌then◌else◌, List, [], ◌∷◌, Option, Some, None, option_map, unwrap_or}

-- a mapped byte, and whether it may be written
pub record Held : Type 0 where
  pub byte : ℕ
  pub writes : Bool

-- what each address holds; none where nothing is mapped
abbrev pub Contents : Type 0
Contents = ℕ → Option Held

-- the byte alone
abbrev pub byte_of : Option Held → Option ℕ
byte_of o = option_map (λ h. h.byte) o

-- whether a byte can be read
abbrev pub is_mapped : Option Held → Bool
is_mapped None = false
is_mapped (Some h) = true

-- whether a byte can be written
abbrev pub is_writable : Option Held → Bool
is_writable None = false
is_writable (Some h) = h.writes

-- the same with this byte, where it may be written
abbrev pub rewritten : Option Held → ℕ → Option Held
rewritten None v = None
rewritten (Some h) v = if h.writes then Some (record h { byte = v }) else Some h

-- one byte written, where it may be
unfoldable pub put : Contents → ℕ → ℕ → Contents
put m a v = λ at. if at == a then rewritten (m at) v else m at

-- what an address holds: nothing is mapped at 2^32 or more
unfoldable pub held_at : Contents → ℕ → Option Held
held_at m a = if nat_lt a (2 ^ 32) then m a else None

-- the first of the n addresses from a on that does not pass, told modulo 2^32
unfoldable pub first_fault : (Option Held → Bool) → Contents → ℕ → ℕ → Option ℕ
first_fault passes m a zero = None
first_fault passes m a (suc n) = if passes (held_at m a) then first_fault passes m (a + 1) n else Some (a % 2 ^ 32)

-- the n bytes from a on, 0 where none is mapped
unfoldable pub bytes_from : Contents → ℕ → ℕ → List ℕ
bytes_from m a zero = []
bytes_from m a (suc n) = (unwrap_or (byte_of (held_at m a)) 0 % 256) ∷ bytes_from m (a + 1) n

-- one byte written where it may be; nothing is written at 2^32 or more
unfoldable pub put_at : Contents → ℕ → ℕ → Contents
put_at m a v = if nat_lt a (2 ^ 32) then put m a v else m

-- bytes written from a on, each where it may be
unfoldable pub put_all : Contents → ℕ → List ℕ → Contents
put_all m a [] = m
put_all m a (v ∷ vs) = put_all (put_at m a v) (a + 1) vs
