-- What is known while a worklist is gone through.
use Rattle.std.proofs.Common.{◌≡◌, ℕ, ◌+◌, ◌<◌, ◌≤◌, Bool, List, [], ◌++◌, length, get_or, sym, ◌∙◌, ap, subst, arith, length-append, inl, inr}
use Rattle.std.specs.Prelude.{◌⊎◌}
use Rattle.std.specs.List.{All, Contains, IsDistinct}
use Rattle.std.proofs.lemmas.List.Elements.{All-append, All-weaker, All-contains, All-contains_itself, at_read}
use Rattle.std.proofs.lemmas.List.{get_or_append_left}
use Rattle.worklist.specs.Closures.{InClosure, start, step, AreMore, IsExtended}
use Rattle.worklist.proofs.Extended.{members_stay}

-- all that was found is reached, the starts are among it, and so is all that is one step behind the first ones of it
pub record IsSearched {T : Type 0} (next : T → List T) (starts keys : List T) (at : ℕ) : Type 0 where
  pub only : All (InClosure next starts) keys
  pub started : All (Contains keys) starts
  pub followed : (k : ℕ) (d : T) → k < at → All (Contains keys) (next (get_or keys k d))

module _ {T : Type 0} (next : T → List T) (starts : List T) where
  -- the starts alone
  pub only_starts : (none keys : List T) → none ≡ [] → IsExtended starts none keys → All (InClosure next starts) keys
  only_starts none keys empty p =
      subst (All (InClosure next starts)) (sym (p.is ∙ ap (λ l. l ++ p.added) empty)) (All-weaker (Contains starts) (InClosure next starts) (λ x c. start c) p.added p.among)

  pub searched_none : (none keys : List T) → none ≡ [] → IsExtended starts none keys → All (Contains keys) starts → IsSearched next starts keys 0
  searched_none none keys empty p h = record { only = only_starts none keys empty p; started = h; followed = λ k d lt. absurd (omega arith) }

  -- what is reached and put last changes nothing
  extended : (xs keys new : List T) (at : ℕ) → at ≤ length keys → IsSearched next starts keys at → IsExtended xs keys new → All (InClosure next starts) xs → IsSearched next starts new at
  extended xs keys new at le e p h = record {
    only = subst (All (InClosure next starts)) (sym p.is) (All-append (InClosure next starts) keys p.added e.only (All-weaker (Contains xs) (InClosure next starts) (λ x c. All-contains (InClosure next starts) xs x h c) p.added p.among));
    started = members_stay xs keys new starts p e.started;
    followed = λ k d lt.
        let within : k < length keys = omega arith in
        let same : get_or new k d ≡ get_or keys k d = ap (λ l. get_or l k d) p.is ∙ get_or_append_left keys p.added d k within in
        subst (λ x. All (Contains new) (next x)) (sym same) (members_stay xs keys new (next (get_or keys k d)) p (e.followed k d lt));
  }

  reached_next : (x : T) → InClosure next starts x → All (InClosure next starts) (next x)
  reached_next x r = All-weaker (Contains (next x)) (InClosure next starts) (λ y c. step r c) (next x) (All-contains_itself (next x))

  below_or_last : (k at : ℕ) → k < at + 1 → (k < at) ⊎ (k ≡ at)
  below_or_last k at h = grind arith

  searched_item : (keys new : List T) (at : ℕ) (x : T) → at < length keys → x ≡ get_or keys at x → IsSearched next starts keys at → IsExtended (next x) keys new → IsSearched next starts new at
  searched_item keys new at x lt is e p =
      let reached : InClosure next starts x = All-contains (InClosure next starts) keys x e.only (at, lt, sym is) in
      extended (next x) keys new at (omega arith) e p (reached_next x reached)

  searched_next : (keys new : List T) (at : ℕ) (x : T) → at < length keys → x ≡ get_or keys at x → IsSearched next starts keys at → IsExtended (next x) keys new → All (Contains new) (next x) → IsSearched next starts new (at + 1)
  searched_next keys new at x lt is e p all =
      let f = searched_item keys new at x lt is e p in
      let here = at_read keys (λ y. All (Contains new) (next y)) at x lt is all in
      record {
        only = f.only;
        started = f.started;
        followed = λ k d h. elim (below_or_last k at h) [ inl below ↦ f.followed k d below | inr same ↦ subst (λ y. All (Contains new) (next y)) (sym (ap (λ j. get_or new j d) same ∙ ap (λ l. get_or l at d) p.is ∙ get_or_append_left keys p.added d at lt)) (here d) ];
      }

  -- one more is looked at, in the words of a loop: the items are those behind x, which stands at the place
  module _ (items keys new shown : List T) (at : ℕ) (x : T) (slice : shown ≡ keys) (lt : at < length keys) (is : x ≡ get_or shown at x) (behind : items ≡ next x) (e : IsSearched next starts keys at) (p : IsExtended items keys new) where
    -- also where not all that is behind it was put
    pub searched_in_part : IsSearched next starts new at
    searched_in_part = searched_item keys new at x lt (is ∙ ap (λ l. get_or l at x) slice) e (subst (λ l. IsExtended l keys new) behind p)

    pub searched_one_more : All (Contains new) items → IsSearched next starts new (at + 1)
    searched_one_more all = searched_next keys new at x lt (is ∙ ap (λ l. get_or l at x) slice) e (subst (λ l. IsExtended l keys new) behind p) (subst (All (Contains new)) behind all)

    pub still_within : at + 1 ≤ length new
    still_within = omega (arith, simp length-append at (ap length p.is))

  -- too many
  pub are_more : (eq : T → T → Bool) (keys : List T) (limit : ℕ) → All (InClosure next starts) keys → (limit < length keys) × IsDistinct eq keys → AreMore eq limit (InClosure next starts)
  are_more eq keys limit all h = record { some = keys; distinct = h.1; all = all; more = h.0 }

  reaches : (keys : List T) → IsSearched next starts keys (length keys) → (x : T) → InClosure next starts x → Contains keys x
  reaches keys e x (start c) = All-contains (Contains keys) starts x e.started c
  reaches keys e y (step {x} r c) =
      let h = reaches keys e x r in
      let all : All (Contains keys) (next (get_or keys h.0 x)) = e.followed h.0 x h.1 in
      All-contains (Contains keys) (next x) y (subst (λ z. All (Contains keys) (next z)) h.2 all) c

  -- all are looked at
  pub searched_all : (keys : List T) (at : ℕ) → at ≤ length keys → length keys ≤ at → IsSearched next starts keys at → (x : T) → InClosure next starts x → Contains keys x
  searched_all keys at le ge e = let same : at ≡ length keys = omega arith in reaches keys (subst (IsSearched next starts keys) same e)
