-- Ranges whose bases do not fall, one behind the other.
use Rattle.std.proofs.Common.{◌≡◌, ℕ, zero, suc, ◌+◌, ◌<◌, ◌≤◌, Bool, true, false, ◌&&◌, ◌||◌, not, List, [], ◌∷◌, refl, sym, arith, max, min}
use Rattle.std.specs.Prelude.{nat_le, ◌==◌}
use Rattle.std.specs.List.{list_any, list_all}
use Rattle.std.proofs.lemmas.Bool.{eq-eqb, le-leb, le-ltb, leb-true, ne_eqb}
use Rattle.c_lang.specs.StaticRules.{Range, share_byte, no_two}
use Rattle.c_rules.specs.Spans.{are_apart}

-- each base is no less than the one before, and the first no less than n
abbrev pub Ascend : ℕ → List Range → Type 0
Ascend n [] = Unit {0}
Ascend n (r ∷ rs) = (n ≤ r.base) × Ascend r.base rs

pub ascend_from : (m n : ℕ) (rs : List Range) → m ≤ n → Ascend n rs → Ascend m rs
ascend_from m n [] l a = tt
ascend_from m n (r ∷ rs) l a = (omega (arith, a.0), a.1)

-- a range is empty or begins at this address or behind it
abbrev is_clear : ℕ → Range → Bool
is_clear end r = (r.len == 0) || nat_le end r.base

-- an empty range shares nothing
empty_share : (r s : Range) → r.len ≡ 0 → share_byte r s ≡ false
empty_share r s e = le-ltb (max r.base s.base) (min (r.base + r.len) (s.base + s.len)) (omega (arith, e))

empty_any : (r : Range) (ss : List Range) → r.len ≡ 0 → list_any (share_byte r) ss ≡ false
empty_any r [] e = refl
empty_any r (s ∷ ss) e = rw (empty_share r s e) (empty_any r ss e)

-- a range against a later one
later_share : (r s : Range) → r.base ≤ s.base → 0 < r.len → not (share_byte r s) ≡ is_clear (r.base + r.len) s
later_share r s l p = grind arith

later_any : (r : Range) (ss : List Range) → Ascend r.base ss → 0 < r.len → not (list_any (share_byte r) ss) ≡ list_all (is_clear (r.base + r.len)) ss
later_any r [] a p = refl
later_any r (s ∷ ss) a p = by (share_byte r s) (list_any (share_byte r) ss) _ _ (later_share r s a.0 p) (later_any r ss (ascend_from r.base s.base ss a.0 a.1) p)
  where
    by : (x y u v : Bool) → not x ≡ u → not y ≡ v → not (x || y) ≡ (u && v)
    by true y u v e f = rw (sym e) refl
    by false y u v e f = rw (sym e) f

-- what begins behind n is clear of it
all_clear : (end n : ℕ) (rs : List Range) → end ≤ n → Ascend n rs → list_all (is_clear end) rs ≡ true
all_clear end n [] l a = refl
all_clear end n (r ∷ rs) l a = rw (le-leb end r.base (omega (arith, a.0))) (or_true (r.len == 0) (all_clear end r.base rs (omega (arith, a.0)) a.1))
  where
    or_true : {b : Bool} (t : Bool) → b ≡ true → ((t || true) && b) ≡ true
    or_true true e = e
    or_true false e = e

kept_apart : (b c d e : Bool) → (b ≡ true → c ≡ true) → (b && (d && e)) ≡ ((b && c) && (d && e))
kept_apart true c d e h = rw (h refl) refl
kept_apart false c d e h = refl

-- one range more, by its length
one_range : (end : ℕ) (r : Range) (rs : List Range) → Ascend r.base rs → are_apart end rs ≡ (list_all (is_clear end) rs && no_two share_byte rs)
    → are_apart (r.base + r.len) rs ≡ (list_all (is_clear (r.base + r.len)) rs && no_two share_byte rs) → (len : ℕ) → len ≡ r.len
    → are_apart end (r ∷ rs) ≡ (list_all (is_clear end) (r ∷ rs) && no_two share_byte (r ∷ rs))
one_range end r rs a rest behind zero e =
    let size : (r.len == 0) ≡ true = eq-eqb r.len 0 (sym e) in
    rw (empty_any r rs (sym e), size) rest
one_range end r rs a rest behind (suc len) e =
    let some : 0 < r.len = omega (arith, e) in
    let size : (r.len == 0) ≡ false = ne_eqb r.len 0 (λ z. omega (arith, z)) in
    rw (size, behind, sym (later_any r rs a some))
    (kept_apart (nat_le end r.base) (list_all (is_clear end) rs) (not (list_any (share_byte r) rs)) (no_two share_byte rs) (λ h. all_clear end r.base rs (leb-true end r.base h) a))

pub apart_ascending : (end n : ℕ) (rs : List Range) → Ascend n rs → are_apart end rs ≡ (list_all (is_clear end) rs && no_two share_byte rs)
apart_ascending end n [] a = refl
apart_ascending end n (r ∷ rs) a = one_range end r rs a.1 (apart_ascending end r.base rs a.1) (apart_ascending (r.base + r.len) r.base rs a.1) r.len refl
