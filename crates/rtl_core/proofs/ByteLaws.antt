-- Laws of bytes in a row.
use Rattle.std.proofs.Common.{◌≡◌, ℕ, zero, suc, ◌+◌, ◌-◌, ◌%◌, ◌^◌, ◌<◌, ◌≤◌, Bool, true, false, List, ◌∷◌, ◌++◌, length, take, drop, get_or, set, refl, sym, ap, ◌∙◌, arith, append_assoc, add-one, drop-cons, inl, inr}
use Rattle.std.specs.Prelude.{if◌then◌else◌, Option, Some, None, unwrap_or}
use Rattle.std.specs.Option.{is_some}
use Rattle.std.proofs.lemmas.Bool.{le-ltb, cases_Bool, cases_lt}
use Rattle.std.proofs.lemmas.List.{drop_all, take_all, append-nil, take_more_set}
use Rattle.std.proofs.Math.Nat.{mod-eq_of_lt}
use Rattle.rtl_core.specs.Contents.{Held, Contents, byte_of, is_mapped, held_at, first_fault, bytes_from, put_at, put_all}

-- nothing is held at 2^32 or more
pub held_above : (m : Contents) (a : ℕ) → 2 ^ 32 ≤ a → held_at m a ≡ None
unfolding held_at
held_above m a h = ap (λ b. if b then m a else None) (le-ltb _ _ h)

fault_step : (p : Option Held → Bool) (m : Contents) (a n i : ℕ) → i < n →
    first_fault p m (a + i) (n - i) ≡ (if p (held_at m (a + i)) then first_fault p m (a + (i + 1)) (n - (i + 1)) else Some ((a + i) % 2 ^ 32))
unfolding first_fault
fault_step p m a n i h =
    let e : n - i ≡ suc (n - (i + 1)) = omega arith in
    let d : a + i + 1 ≡ a + (i + 1) = omega arith in
    rw (e, ← d) refl

-- a search whose first address passes goes on
pub fault_next : (p : Option Held → Bool) (m : Contents) (a n i : ℕ) (o : Option ℕ) → i < n → p (held_at m (a + i)) ≡ true →
    o ≡ first_fault p m (a + i) (n - i) → o ≡ first_fault p m (a + (i + 1)) (n - (i + 1))
fault_next p m a n i o h t e = e ∙ fault_step p m a n i h ∙ ap (λ b. if b then first_fault p m (a + (i + 1)) (n - (i + 1)) else Some ((a + i) % 2 ^ 32)) t

-- one whose first address does not is done
pub fault_here : (p : Option Held → Bool) (m : Contents) (a n i : ℕ) (o : Option ℕ) → i < n → p (held_at m (a + i)) ≡ false →
    o ≡ first_fault p m (a + i) (n - i) → o ≡ Some ((a + i) % 2 ^ 32)
fault_here p m a n i o h t e = e ∙ fault_step p m a n i h ∙ ap (λ b. if b then first_fault p m (a + (i + 1)) (n - (i + 1)) else Some ((a + i) % 2 ^ 32)) t

pub fault_end : (p : Option Held → Bool) (m : Contents) (a n i : ℕ) (o : Option ℕ) → n ≤ i →
    o ≡ first_fault p m (a + i) (n - i) → o ≡ None
unfolding first_fault
fault_end p m a n i o h e = let z : n - i ≡ 0 = omega arith in rw z at e

-- what passes lies below 2^32
pub passes_below : (p : Option Held → Bool) (m : Contents) (a : ℕ) → p None ≡ false → p (held_at m a) ≡ true → a < 2 ^ 32
passes_below p m a none h = elim (cases_lt a (2 ^ 32)) [
  | inl l ↦ l
  | inr g ↦ let x : true ≡ false = sym h ∙ ap p (held_above m a g) ∙ none in cc
]

-- where no address is at fault, the first lies below 2^32
pub faultless_below : (p : Option Held → Bool) (m : Contents) (a n : ℕ) → p None ≡ false → 1 ≤ n → first_fault p m a n ≡ None → a < 2 ^ 32
unfolding first_fault
faultless_below p m a zero none h e = absurd (omega arith)
faultless_below p m a (suc n) none h e = elim (cases_Bool (p (held_at m a))) [
  | inl t ↦ passes_below p m a none t
  | inr f ↦ let x : Some (a % 2 ^ 32) ≡ None = sym (ap (λ b. if b then first_fault p m (a + 1) n else Some (a % 2 ^ 32)) f) ∙ e in cc
]

some_same : (h : Option Held) → is_mapped h ≡ is_some (byte_of h)
some_same None = refl
some_same (Some h) = refl

pub mapped_some : (o : Option ℕ) (h : Option Held) (b : Bool) → o ≡ byte_of h → is_some o ≡ b → is_mapped h ≡ b
mapped_some o h b e s = some_same h ∙ ap is_some (sym e) ∙ s

bytes_step : (m : Contents) (a n i : ℕ) → i < n → bytes_from m (a + i) (n - i) ≡ (unwrap_or (byte_of (held_at m (a + i))) 0 % 256) ∷ bytes_from m (a + (i + 1)) (n - (i + 1))
unfolding bytes_from
bytes_step m a n i h =
    let e : n - i ≡ suc (n - (i + 1)) = omega arith in
    let d : a + i + 1 ≡ a + (i + 1) = omega arith in
    rw (e, ← d) refl

-- one more byte read
pub read_next : (m : Contents) (a n i : ℕ) (into all : List ℕ) (v : ℕ) → length into ≡ n → i < n → v < 256 → v ≡ unwrap_or (byte_of (held_at m (a + i))) 0 →
    take i into ++ bytes_from m (a + i) (n - i) ≡ all →
    take (i + 1) (set into i v) ++ bytes_from m (a + (i + 1)) (n - (i + 1)) ≡ all
read_next m a n i into all v l h small e s =
    let w : i < length into = omega arith in
    let d : v ≡ unwrap_or (byte_of (held_at m (a + i))) 0 % 256 = sym (mod-eq_of_lt small) ∙ ap (λ x. x % 256) e in
    rw (take_more_set into i v w, append_assoc, d) (rw bytes_step at s)

pub read_end : (m : Contents) (a n i : ℕ) (into all : List ℕ) → length into ≡ n → n ≤ i →
    take i into ++ bytes_from m (a + i) (n - i) ≡ all → into ≡ all
unfolding bytes_from
read_end m a n i into all l h s =
    let z : n - i ≡ 0 = omega arith in
    let w : length into ≤ i = omega arith in
    sym (append-nil into) ∙ (rw (z, take_all i into w) at s)

-- one more byte written
pub put_next : (m : Contents) (a i : ℕ) (vs : List ℕ) (d : ℕ) → i < length vs →
    put_all m (a + i) (drop i vs) ≡ put_all (put_at m (a + i) (get_or vs i d)) (a + (i + 1)) (drop (i + 1) vs)
unfolding put_all
put_next m a i vs d h =
    let e : a + i + 1 ≡ a + (i + 1) = omega arith in
    let q : drop i vs ≡ get_or vs i d ∷ drop (i + 1) vs = rw add-one (drop-cons vs i d h) in
    rw (q, ← e) refl

pub put_end : (m : Contents) (a i : ℕ) (vs : List ℕ) → length vs ≤ i → put_all m a (drop i vs) ≡ m
unfolding put_all
put_end m a i vs h = rw (drop_all i vs h) refl
