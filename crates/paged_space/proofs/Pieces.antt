-- Bytes written together on one page.
use Rattle.std.proofs.Common.{◌≡◌, ℕ, zero, suc, ◌+◌, ◌-◌, ◌%◌, ◌^◌, ◌≤◌, ◌<◌, Bool, true, false, List, [], ◌∷◌, length, get_or, drop, refl, sym, ap, ◌∙◌, arith, inl, inr}
use Rattle.std.specs.Prelude.{◌⊎◌, slice_index, Some}
use Rattle.std.proofs.Math.Path.{fun_ext}
use Rattle.std.proofs.lemmas.Bool.{cases_lt, eq-eqb, ne_eqb, cond-true, cond-false, lt-ltb}
use Rattle.rtl_core.specs.Contents.{Contents, put, put_at, put_all, rewritten, is_writable}
use Rattle.page_pool.specs.Frames.{Frames, holders_of, spare_of, frame_byte, IsPieceWritten, frame_bytes}
use Rattle.paged_space.specs.PageTable.{PageTable, place_at, may_write, contents_of, IsSound}
use Rattle.paged_space.specs.Lookup.{OnPage}
use Rattle.paged_space.specs.Stored.{IsPieceStored}
use Rattle.paged_space.specs.Moves.{StandIn}
use Rattle.paged_space.specs.Follows.{shared_of}
use Rattle.paged_space.specs.FollowsLaws.{follows_same}
use Rattle.paged_space.proofs.Store.{not_refused}
use Rattle.paged_space.proofs.Places.{place_once}
use Rattle.paged_space.proofs.WholeSpace.{here_at, other_at, is_page, found_at, stored_facts, once_after, moved_to}
use Rattle.paged_space.proofs.Numbers.{run_end, run_passes, page_runs, on_page_low}

pub put_beside : (m : Contents) (a : ℕ) (vs : List ℕ) (at : ℕ) → a + length vs ≤ 2 ^ 32 → (at < a) ⊎ (a + length vs ≤ at) → put_all m a vs at ≡ m at
unfolding put_all put_at put
put_beside m a [] at l o = refl
put_beside m a (v ∷ vs) at l o =
    let k : a < 2 ^ 32 = omega (arith, l) in
    let b : a + 1 + length vs ≤ 2 ^ 32 = omega (arith, l) in
    let n : at ≡ a → ⊥ = λ e. elim o [ inl x ↦ absurd (omega (arith, x, e)) | inr y ↦ absurd (omega (arith, y, e)) ] in
    let p : (at < a + 1) ⊎ (a + 1 + length vs ≤ at) = elim o [ inl x ↦ inl (omega (arith, x)) | inr y ↦ inr (omega (arith, y)) ] in
    put_beside (put_at m a v) (a + 1) vs at b p ∙ ap (λ (f : Contents). f at) (cond-true _ _ _ (lt-ltb _ _ k)) ∙ cond-false _ _ _ (ne_eqb at a n)

-- what stands at one address after some bytes were written from a on
pub put_inside : (m : Contents) (a : ℕ) (vs : List ℕ) (i : ℕ) → a + length vs ≤ 2 ^ 32 → i < length vs → put_all m a vs (a + i) ≡ rewritten (m (a + i)) (slice_index vs i)
unfolding put_all put_at put
put_inside m a [] i l o = absurd (omega (arith, o))
put_inside m a (v ∷ vs) zero l o =
    let k : a < 2 ^ 32 = omega (arith, l) in
    let b : a + 1 + length vs ≤ 2 ^ 32 = omega (arith, l) in
    let z : a + 0 ≡ a = omega arith in
    let before : a + 0 < a + 1 = omega arith in
    put_beside (put_at m a v) (a + 1) vs (a + 0) b (inl before) ∙ ap (λ (f : Contents). f (a + 0)) (cond-true _ _ _ (lt-ltb _ _ k)) ∙ cond-true _ _ _ (eq-eqb (a + 0) a z)
put_inside m a (v ∷ vs) (suc i) l o =
    let k : a < 2 ^ 32 = omega (arith, l) in
    let b : a + 1 + length vs ≤ 2 ^ 32 = omega (arith, l) in
    let j : i < length vs = omega (arith, o) in
    let e : a + 1 + i ≡ a + suc i = omega arith in
    let n : a + suc i ≡ a → ⊥ = λ q. absurd (omega (arith, q)) in
    ap (put_all (put_at m a v) (a + 1) vs) (sym e) ∙ put_inside (put_at m a v) (a + 1) vs i b j ∙ ap (λ x. rewritten (put_at m a v x) (slice_index vs i)) e
    ∙ ap (λ x. rewritten x (slice_index vs i)) (ap (λ (f : Contents). f (a + suc i)) (cond-true _ _ _ (lt-ltb _ _ k)) ∙ cond-false _ _ _ (ne_eqb (a + suc i) a n))

piece_at : (t : PageTable) (k m a : ℕ) (piece : List ℕ) (at : ℕ) (old new : Frames) → IsSound t → StandIn t.frames old → 1 ≤ length piece → OnPage t.extents a (length piece) k → may_write t.writes k ≡ true → IsPieceWritten old new (get_or t.frames k 0) m (a % 4096) piece → contents_of (moved_to t k m) new at ≡ put_all (contents_of t old) a piece at
piece_at t k m a piece at old new o c one p w r =
    let l = on_page_low t a (length piece) k o p one in
    let end = run_end t a (length piece) k o p one in
    let room = p.room in
    let beside : (at < a) ⊎ (a + length piece ≤ at) → contents_of (moved_to t k m) new at ≡ put_all (contents_of t old) a piece at = λ out.
    elim (is_page (place_at t.extents at) k) [
      | inl q ↦
          let z : 0 < length piece = omega (arith, one) in
          let e0 : a + 0 ≡ a = omega arith in
          let once = place_once 0 0 (length t.frames) t.extents a at k o.laid (ap (place_at t.extents) (sym e0) ∙ p.places 0 z) q in
          let lt : at % 4096 < 4096 = omega arith in
          let d : (at % 4096 < a % 4096) ⊎ (a % 4096 + length piece ≤ at % 4096) = elim out [ inl x ↦ inl (omega (arith, once, x)) | inr y ↦ inr (omega (arith, once, y)) ] in
          here_at t k m at new l q ∙ ap (λ b. Some (record { byte = b; writes = may_write t.writes k })) (r.rest (at % 4096) lt d) ∙ sym (found_at t old at k q l)
      | inr q ↦ other_at t k m at old new (place_at t.extents at) o c l r.own refl q
    ]
    ∙ sym (put_beside (contents_of t old) a piece at end out) in
    elim (cases_lt at a) [
      | inl x ↦ beside (inl x)
      | inr x ↦ elim (cases_lt at (a + length piece)) [
        | inl y ↦
            let i : at - a < length piece = omega (arith, x, y) in
            let e : at ≡ a + (at - a) = omega (arith, x) in
            let q : (a + (at - a)) % 4096 ≡ a % 4096 + (at - a) = omega (arith, room, i) in
            ap (contents_of (moved_to t k m) new) e ∙ here_at t k m (a + (at - a)) new l (p.places (at - a) i)
            ∙ ap (λ b. Some (record { byte = b; writes = may_write t.writes k })) (ap (frame_byte new m) q ∙ r.here (at - a) i)
            ∙ sym (cond-true _ _ _ w)
            ∙ ap (λ z. rewritten z (slice_index piece (at - a))) (sym (found_at t old (a + (at - a)) k (p.places (at - a) i) l))
            ∙ sym (put_inside (contents_of t old) a piece (at - a) end i) ∙ ap (put_all (contents_of t old) a piece) (sym e)
        | inr y ↦ beside (inr y)
      ]
    ]

pub not_stored : (t : PageTable) (s : Frames) (a : ℕ) (piece : List ℕ) → IsSound t → StandIn t.frames s → shared_of t s ≤ spare_of s → IsPieceStored t t s s a piece false
not_stored t s a piece o c r = record { contents = refl; fault = λ e. cc; kept = λ _. (refl, refl); stands = c; ready = r; follows = follows_same t s; once = o.once }

pub piece_stored : (t : PageTable) (k m a : ℕ) (piece : List ℕ) (old new : Frames) (done : Bool) → IsSound t → StandIn t.frames old → shared_of t old ≤ spare_of old → 1 ≤ length piece → OnPage t.extents a (length piece) k → may_write t.writes k ≡ true
    → (done ≡ true → IsPieceWritten old new (get_or t.frames k 0) m (a % 4096) piece)
    → (done ≡ false → (2 ≤ holders_of old (get_or t.frames k 0)) × (spare_of old ≡ 0))
    → IsPieceStored t (moved_to t k m) old new a piece done
piece_stored t k m a piece old new false o c r one p w good bad =
    let n = bad refl in
    let n0 = n.0 in
    let n1 = n.1 in
    let s = not_refused t.writes t.frames k old (on_page_low t a (length piece) k o p one) w n0 in
    absurd (omega (arith, s, r, n1))
piece_stored t k m a piece old new true o c r one p w good bad =
    let wr = good refl in
    let l = on_page_low t a (length piece) k o p one in
    let pt = wr.own in
    let st = stored_facts t k m old new o c r l w pt in
    record {
      contents = fun_ext (λ at. piece_at t k m a piece at old new o c one p w wr);
      kept = λ e. cc;
      fault = λ _. run_passes is_writable (contents_of t old) a (length piece) (drop (a % 4096) (frame_bytes old (get_or t.frames k 0))) (may_write t.writes k) (page_runs t old a (length piece) k o p) (run_end t a (length piece) k o p one) (λ b. w);
      stands = st.stands;
      ready = st.ready;
      follows = record { extents = refl; writes = refl; moved = st.moved; others = st.others };
      once = once_after t k m old new o l pt c;
    }
