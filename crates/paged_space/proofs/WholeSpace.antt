-- From one written page to the stands space.
use Rattle.std.proofs.Common.{◌≡◌, ℕ, zero, suc, ◌+◌, ◌%◌, ◌≤◌, ◌<◌, Bool, true, false, List, [], ◌∷◌, ◌++◌, length, take, drop, get_or, set, length-set, get_or-set_same, get_or-set_other, refl, sym, ap, subst, ◌∙◌, arith, inl, inr}
use Rattle.std.specs.Prelude.{◌==◌, ◌⊎◌, ◌≢◌, count_by, Option, Some, None, option_map}
use Rattle.std.specs.Option.{option_and_then}
use Rattle.std.proofs.Math.Path.{fun_ext}
use Rattle.std.proofs.Math.Seq.{take-append_seam}
use Rattle.paged_space.specs.declared.extent.Extent.{Extent}
use Rattle.std.proofs.lemmas.Bool.{cases_eq, cases_lt, eq-eqb, ne_eqb, cond-true, cond-false, cases_Bool}
use Rattle.std.proofs.lemmas.Option.{slice_get_read, same_Some}
use Rattle.rtl_core.specs.Contents.{Contents, Held, put, rewritten, is_writable}
use Rattle.page_pool.specs.Frames.{Frames, holders_of, spare_of, frame_byte, HoldsAlone, IsHeld, IsWritten}
use Rattle.paged_space.specs.PageTable.{is_laid, table, PageTable, place_at, held_in, held_on, may_write, contents_of, IsSound}
use Rattle.std.proofs.lemmas.List.Sums.{sum_by-cons}
use Rattle.paged_space.specs.Moves.{one_if, StandIn}
use Rattle.paged_space.specs.Follows.{Follows, shared_of}
use Rattle.paged_space.specs.FollowsLaws.{follows_same}
use Rattle.paged_space.proofs.OneWrite.{times_some, times_set}
use Rattle.paged_space.proofs.Store.{IsStored, write_stores, not_refused}
use Rattle.paged_space.proofs.Places.{place_within, place_once}

get_or_any : (fs : List ℕ) (k : ℕ) → k < length fs → get_or fs k 0 ≡ get_or fs k (get_or fs k 0)
get_or_any [] k l = absurd (omega (arith, l))
get_or_any (f ∷ fs) zero l = refl
get_or_any (f ∷ fs) (suc k) l = let m : k < length fs = omega (arith, l) in get_or_any fs k m

pub get_at : (t : PageTable) (s : Frames) (a k : ℕ) → k < length t.frames → held_on t s a k ≡ Some (held_in s a (may_write t.writes k) (get_or t.frames k 0))
get_at t s a k l = ap (option_map (held_in s a (may_write t.writes k))) (slice_get_read t.frames (length t.frames) k (get_or t.frames k 0) refl l (get_or_any t.frames k l))

-- what a space holds where its page is known
pub found_at : (t : PageTable) (s : Frames) (a k : ℕ) → place_at t.extents a ≡ Some k → k < length t.frames → contents_of t s a ≡ Some (held_in s a (may_write t.writes k) (get_or t.frames k 0))
unfolding contents_of
found_at t s a k e l = ap (option_and_then (held_on t s a)) e ∙ get_at t s a k l

pub nowhere : (t : PageTable) (s : Frames) (a : ℕ) → place_at t.extents a ≡ None → contents_of t s a ≡ None
unfolding contents_of
nowhere t s a e = ap (option_and_then (held_on t s a)) e

pub place_low : (t : PageTable) (a k : ℕ) → IsSound t → place_at t.extents a ≡ Some k → k < length t.frames
place_low t a k o p = (place_within 0 0 (length t.frames) t.extents a k o.laid p).1

pub held_within : (hs : List ℕ) (n : ℕ) → 1 ≤ get_or hs n 0 → n < length hs
held_within [] n h = absurd (omega (arith, h))
held_within (x ∷ hs) zero h = omega arith
held_within (x ∷ hs) (suc n) h = let r = held_within hs n h in omega (arith, r)

pub standing_held : (fs : List ℕ) (k : ℕ) (s : Frames) → StandIn fs s → k < length fs → IsHeld s (get_or fs k 0)
standing_held fs k s c h =
    let a = c (get_or fs k 0) in
    let t = times_some fs k h in
    let o : 1 ≤ holders_of s (get_or fs k 0) = omega (arith, a, t) in
    (held_within s.holders (get_or fs k 0) o, o)

-- all that is true after a store
pub record IsPut (t u : PageTable) (old new : Frames) (a v : ℕ) : Type 0 where
  pub contents : contents_of u new ≡ put (contents_of t old) a v
  pub stands : StandIn u.frames new
  pub ready : shared_of u new ≤ spare_of new
  pub follows : Follows t u old new

idle : (o : Option Held) (v : ℕ) → is_writable o ≡ false → o ≡ rewritten o v
idle None v f = refl
idle (Some h) v f = sym (cond-false _ _ _ f)

put_idle : (m : Contents) (a v : ℕ) → is_writable (m a) ≡ false → m ≡ put m a v
unfolding put
put_idle m a v f = fun_ext (λ at. elim (cases_eq at a) [
  | inl e ↦ idle (m at) v (ap (λ x. is_writable (m x)) e ∙ f) ∙ sym (cond-true _ _ _ (eq-eqb at a e))
  | inr n ↦ sym (cond-false _ _ _ (ne_eqb at a n))
])

pub idle_facts : (t : PageTable) (a v : ℕ) (s : Frames) → StandIn t.frames s → shared_of t s ≤ spare_of s → is_writable (contents_of t s a) ≡ false → IsPut t t s s a v
idle_facts t a v s c r f = record { contents = put_idle (contents_of t s) a v f; stands = c; ready = r; follows = follows_same t s }

pub drop_one : (n x : ℕ) (fs : List ℕ) → count_by (λ f. f == n) (x ∷ fs) ≡ one_if (x == n) + count_by (λ f. f == n) fs
drop_one n x fs = let s = sum_by-cons (λ y. one_if (y == n)) x fs in omega (arith, s)

-- a frame that stands on two pages is counted twice
twice : (fs : List ℕ) (k i : ℕ) → k < length fs → i < length fs → (i ≡ k → ⊥) → get_or fs i 0 ≡ get_or fs k 0 → 2 ≤ count_by (λ f. f == get_or fs k 0) fs
twice [] k i lk li d e = absurd (omega (arith, lk))
twice (f ∷ fs) zero zero lk li d e = absurd (d refl)
twice (f ∷ fs) zero (suc i) lk li d e =
    let l : i < length fs = omega (arith, li) in
    let t : 1 ≤ count_by (λ x. x == f) fs = subst (λ (n : ℕ). 1 ≤ count_by (λ x. x == n) fs) e (times_some fs i l) in
    let y = ap one_if (eq-eqb f f refl) in
    let s = drop_one f f fs in
    omega (arith, t, y, s)
twice (f ∷ fs) (suc k) zero lk li d e =
    let l : k < length fs = omega (arith, lk) in
    let t = times_some fs k l in
    let y = ap one_if (eq-eqb f (get_or fs k 0) e) in
    let s = drop_one (get_or fs k 0) f fs in
    omega (arith, t, y, s)
twice (f ∷ fs) (suc k) (suc i) lk li d e =
    let l : k < length fs = omega (arith, lk) in
    let m : i < length fs = omega (arith, li) in
    let r = twice fs k i l m (λ q. d (ap suc q)) e in
    let s = drop_one (get_or fs k 0) f fs in
    omega (arith, r, s)

-- bytes of another page are as they were
other_page : (t : PageTable) (k i m : ℕ) (old new : Frames) → StandIn t.frames old → k < length t.frames → i < length t.frames → i ≢ k → HoldsAlone old new (get_or t.frames k 0) m → (x : ℕ) → x < 4096 → frame_byte new (get_or t.frames i 0) x ≡ frame_byte old (get_or t.frames i 0) x
other_page t k i m old new c lk li d p = λ x l.
    p.others (get_or t.frames i 0) x (λ e.
    let h = (standing_held t.frames i old c li).1 in
    let hk = (standing_held t.frames k old c lk).1 in
    elim (cases_lt (holders_of old (get_or t.frames k 0)) 2) [
      | inl s ↦
          let one : holders_of old (get_or t.frames k 0) ≡ 1 = omega (arith, s, hk) in
          let q = (p.alone one).0 in
          let two = twice t.frames k i lk li d (e ∙ q) in
          let cv = c (get_or t.frames k 0) in
          absurd (omega (arith, one, two, cv))
      | inr s ↦ let z = (p.split s).1 in let g = ap (holders_of old) e in absurd (omega (arith, z, g, h))
    ]) l

abbrev pub moved_to : PageTable → ℕ → ℕ → PageTable
moved_to t k m = record t { frames = set t.frames k m }

-- what the written page holds
pub here_at : (t : PageTable) (k m at : ℕ) (new : Frames) → k < length t.frames → place_at t.extents at ≡ Some k → contents_of (moved_to t k m) new at ≡ Some (held_in new at (may_write t.writes k) m)
here_at t k m at new l p =
    let n = length-set t.frames k m in
    found_at (moved_to t k m) new at k p (omega (arith, n, l)) ∙ ap (λ f. Some (held_in new at (may_write t.writes k) f)) (get_or-set_same t.frames k m 0 l)

-- every other page is as it was
pub other_at : (t : PageTable) (k m at : ℕ) (old new : Frames) (place : Option ℕ) → IsSound t → StandIn t.frames old → k < length t.frames → HoldsAlone old new (get_or t.frames k 0) m → place_at t.extents at ≡ place → (place ≡ Some k → ⊥) → contents_of (moved_to t k m) new at ≡ contents_of t old at
other_at t k m at old new None o c l r e d = nowhere (moved_to t k m) new at e ∙ sym (nowhere t old at e)
other_at t k m at old new (Some i) o c l r e d =
    let li = place_low t at i o e in
    let ne : i ≢ k = λ q. d (ap Some q) in
    let n = length-set t.frames k m in
    found_at (moved_to t k m) new at i e (omega (arith, n, li))
    ∙ ap (λ f. Some (held_in new at (may_write t.writes i) f)) (get_or-set_other t.frames k i m 0 ne)
    ∙ ap (λ b. Some (record { byte = b; writes = may_write t.writes i })) (other_page t k i m old new c l li ne r (at % 4096) (omega arith))
    ∙ sym (found_at t old at i e li)

-- either is the page or is not
pub is_page : (o : Option ℕ) (k : ℕ) → (o ≡ Some k) ⊎ (o ≡ Some k → ⊥)
is_page None k = inr (λ e. cc)
is_page (Some i) k = elim (cases_eq i k) [ inl e ↦ inl (ap Some e) | inr n ↦ inr (λ e. n (same_Some i k e)) ]

wrote_at : (t : PageTable) (k m a v at : ℕ) (old new : Frames) → IsSound t → StandIn t.frames old → place_at t.extents a ≡ Some k → may_write t.writes k ≡ true → IsWritten old new (get_or t.frames k 0) m (a % 4096) v → contents_of (moved_to t k m) new at ≡ put (contents_of t old) a v at
unfolding put
wrote_at t k m a v at old new o c p w r =
    let l = place_low t a k o p in
    elim (cases_eq at a) [
      | inl e ↦
          ap (contents_of (moved_to t k m) new) e ∙ here_at t k m a new l p
          ∙ ap (λ b. Some (record { byte = b; writes = may_write t.writes k })) r.here
          ∙ sym (cond-true _ _ _ w)
          ∙ ap (λ x. rewritten x v) (sym (found_at t old a k p l)) ∙ ap (λ x. rewritten (contents_of t old x) v) (sym e)
          ∙ sym (cond-true _ _ _ (eq-eqb at a e))
      | inr n ↦
          elim (is_page (place_at t.extents at) k) [
            | inl q ↦
                let once = place_once 0 0 (length t.frames) t.extents a at k o.laid p q in
                let d : at % 4096 ≢ a % 4096 = λ s. n (omega (arith, once, s)) in
                let lt : at % 4096 < 4096 = omega arith in
                here_at t k m at new l q
                ∙ ap (λ b. Some (record { byte = b; writes = may_write t.writes k })) (r.rest (at % 4096) lt d)
                ∙ sym (found_at t old at k q l)
            | inr q ↦ other_at t k m at old new (place_at t.extents at) o c l r.own refl q
          ]
          ∙ sym (cond-false _ _ _ (ne_eqb at a n))
    ]

-- no frame stands on two pages after a write
pub once_after : (t : PageTable) (k m : ℕ) (old new : Frames) → IsSound t → k < length t.frames → HoldsAlone old new (get_or t.frames k 0) m → StandIn t.frames old → (n : ℕ) → count_by (λ f. f == n) (set t.frames k m) ≤ 1
once_after t k m old new o l p c n =
    let s = times_set n m k t.frames l in
    let u = o.once n in
    elim (cases_eq m n) [
      | inl e ↦
          let y = ap one_if (eq-eqb m n e) in
          let h = (standing_held t.frames k old c l).1 in
          elim (cases_lt (holders_of old (get_or t.frames k 0)) 2) [
            | inl a ↦
                let one : holders_of old (get_or t.frames k 0) ≡ 1 = omega (arith, a, h) in
                let z = ap one_if (eq-eqb (get_or t.frames k 0) n (sym (p.alone one).0 ∙ e)) in
                omega (arith, s, u, y, z)
            | inr a ↦
                let f = (p.split a).1 in
                let cn = c n in
                let g = ap (holders_of old) e in
                let none : count_by (λ f. f == n) t.frames ≡ 0 = omega (arith, f, cn, g) in
                omega (arith, s, none, y)
          ]
      | inr d ↦ let z = ap one_if (ne_eqb m n d) in omega (arith, s, u, z)
    ]

-- what a write that moved the page to m keeps
pub stored_facts : (t : PageTable) (k m : ℕ) (old new : Frames) → IsSound t → StandIn t.frames old → shared_of t old ≤ spare_of old → k < length t.frames → may_write t.writes k ≡ true → HoldsAlone old new (get_or t.frames k 0) m → IsStored t.writes t.frames (set t.frames k m) old new
stored_facts t k m old new o c r l w p = write_stores t.writes t.frames k (get_or t.frames k 0) m old new l (standing_held t.frames k old c l).0 refl w c r p

pub wrote : (t : PageTable) (k m a v : ℕ) (old new : Frames) (done : Bool) → IsSound t → StandIn t.frames old → shared_of t old ≤ spare_of old → place_at t.extents a ≡ Some k → may_write t.writes k ≡ true
    → (done ≡ true → IsWritten old new (get_or t.frames k 0) m (a % 4096) v)
    → (done ≡ false → (2 ≤ holders_of old (get_or t.frames k 0)) × (spare_of old ≡ 0))
    → (done ≡ is_writable (contents_of t old a)) × IsPut t (moved_to t k m) old new a v × ((n : ℕ) → count_by (λ f. f == n) (set t.frames k m) ≤ 1)
wrote t k m a v old new done o c r p w good bad =
    let l = place_low t a k o p in
    let ok : is_writable (contents_of t old a) ≡ true = ap is_writable (found_at t old a k p l) ∙ w in
    elim (cases_Bool done) [
      | inl e ↦
          let wr = good e in
          let st = stored_facts t k m old new o c r l w wr.own in (
            e ∙ sym ok,
            record {
              contents = fun_ext (λ at. wrote_at t k m a v at old new o c p w wr);
              stands = st.stands;
              ready = st.ready;
              follows = record { extents = refl; writes = refl; moved = st.moved; others = st.others };
            },
            once_after t k m old new o l wr.own c,
          )
      | inr e ↦
          let n = bad e in
          let n0 = n.0 in
          let n1 = n.1 in
          let s = not_refused t.writes t.frames k old l w n0 in
          absurd (omega (arith, s, r, n1))
    ]

-- the same pages with other frames, none of which stands twice
pub sound_again : (es : List Extent) (fs gs : List ℕ) (ws : List Bool) (n : ℕ) → IsSound (table es fs ws) → length gs ≡ length fs → n ≡ length fs → ((x : ℕ) → count_by (λ f. f == x) gs ≤ 1) → IsSound (table es (take n (gs ++ drop (length gs) fs)) ws)
sound_again es fs gs ws n o l e once =
    let m : n ≡ length gs = omega (arith, e, l) in
    let f = o.few in
    subst (λ (xs : List ℕ). IsSound (table es xs ws)) (sym (ap (λ k. take k (gs ++ drop (length gs) fs)) m ∙ take-append_seam gs (drop (length gs) fs)))
    (record { laid = ap (is_laid 0 0 es) l ∙ o.laid; flags = o.flags ∙ sym l; once = once; few = omega (arith, l, f) })
