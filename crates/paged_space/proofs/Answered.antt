-- What `build`, `twin` and `give_back` answer.
use Rattle.std.proofs.Common.{◌≡◌, ℕ, zero, suc, ◌+◌, ◌*◌, ◌≤◌, Bool, true, false, if◌then◌else◌, List, [], ◌∷◌, replicate, refl, sym, ap, subst, ◌∙◌, arith, inl, inr}
use Rattle.std.specs.Prelude.{◌==◌, slice_index, None, Some}
use Rattle.std.specs.List.{filter, list_any, slice_get, sum_by}
use Rattle.std.proofs.lemmas.Bool.{cases_Bool, cond-true, cond-false, eq-eqb}
use Rattle.std.proofs.lemmas.List.Sums.{sum_by-append, sum_by-cons}
use Rattle.std.proofs.lemmas.List.Folds.{sum_by-replicate}
use Rattle.page_pool.specs.Frames.{Frames}
use Rattle.paged_space.specs.declared.range.Range.{Range}
use Rattle.paged_space.specs.PageTable.{IsSound, PageTable, contents_of}
use Rattle.paged_space.specs.Ranges.{IsMapOf, held, holds, memory_of}
use Rattle.paged_space.specs.Faults.{ranges_fault}
use Rattle.paged_space.specs.LaidOut.{IsBuilt, pages_in, writes_of}
use Rattle.paged_space.specs.Sorting.{IsOrder, rises}
use Rattle.paged_space.specs.Built.{IsBuiltFrom, frames_of, touched}
use Rattle.paged_space.specs.Moves.{StandIn, one_if}
use Rattle.paged_space.specs.Sharing.{HasFull, HasRoomIn, IsGiven, IsShared}
use Rattle.paged_space.specs.Together.{frames_of_all}
use Rattle.paged_space.specs.Twins.{writable_pages}
use Rattle.paged_space.specs.Twinned.{IsGivenBack, IsTwinOf}
use Rattle.paged_space.proofs.OneWrite.{times_join}
use Rattle.paged_space.proofs.LaidMap.{memory_next, memory_none}
use Rattle.paged_space.proofs.Others.{among, same_map}
use Rattle.paged_space.proofs.Shares.{fresh_kept, fresh_together, fresh_twins, fresh_unshared, fresh_whole, shared_together}
use Rattle.paged_space.proofs.Sorted.{any_none, clear_once, one_of, order_map, order_pages, times_at, times_cons, times_nil}

-- an address that lies in one of the ranges
some_time : (rs : List Range) (k : ℕ) (r : Range) (a : ℕ) → slice_get rs k ≡ Some r → holds r a ≡ true → 1 ≤ times_at a rs
some_time [] k r a g h = cc
some_time (q ∷ qs) zero r a g h =
    let e : q ≡ r = cc in
    let c = times_cons a q qs in
    let o = one_of q a (ap (λ x. holds x a) e ∙ h) in
    omega (arith, c, o)
some_time (q ∷ qs) (suc k) r a g h = let i = some_time qs k r a g h in let c = times_cons a q qs in omega (arith, i, c)

inside : (rs : List Range) (k : ℕ) (r : Range) (a : ℕ) → times_at a rs ≤ 1 → slice_get rs k ≡ Some r → holds r a ≡ true → memory_of rs a ≡ Some (held r a)
inside [] k r a o g h = cc
inside (q ∷ qs) zero r a o g h =
    let e : q ≡ r = cc in
    memory_next q qs a ∙ cond-true _ _ _ (ap (λ x. holds x a) e ∙ h) ∙ ap (λ x. Some (held x a)) e
inside (q ∷ qs) (suc k) r a o g h =
    let c = times_cons a q qs in
    let s = some_time qs k r a g h in
    elim (cases_Bool (holds q a)) [
      | inl t ↦ let y = one_of q a t in absurd (omega (arith, o, c, s, y))
      | inr f ↦ memory_next q qs a ∙ cond-false _ _ _ f ∙ inside qs k r a (omega (arith, o, c)) g h
    ]

outside : (rs : List Range) (a : ℕ) → list_any (λ r. holds r a) rs ≡ false → memory_of rs a ≡ None
outside [] a f = memory_none a
outside (r ∷ rs) a f =
    let p = any_none (λ x. holds x a) r rs f in
    memory_next r rs a ∙ cond-false _ _ _ p.0 ∙ outside rs a p.1

map_of : (rs : List Range) → ranges_fault [] rs ≡ None → IsMapOf rs (memory_of rs)
map_of rs n = record {
  inside = λ k r a g h. inside rs k r a (clear_once [] rs n (λ b. (let z = times_nil b in omega (arith, z))) a) g h;
  outside = outside rs;
}

-- the pages that a range touches, if it may be written
abbrev to_write : Range → ℕ
to_write r = if r.write then touched r else 0

filtered : (rs : List Range) → sum_by to_write rs ≡ frames_of (filter (λ r. r.write) rs)
filtered [] = refl
filtered (r ∷ rs) =
    let s = sum_by-cons to_write r rs in
    let i = filtered rs in
    elim (cases_Bool r.write) [
      | inl t ↦
          let w : to_write r ≡ touched r = cond-true _ _ _ t in
          let f = ap frames_of (cond-true (r.write) (r ∷ filter (λ x. x.write) rs) (filter (λ x. x.write) rs) t) in
          let c = sum_by-cons touched r (filter (λ x. x.write) rs) in
          omega (arith, s, i, w, f, c)
      | inr t ↦
          let w : to_write r ≡ 0 = cond-false _ _ _ t in
          let f = ap frames_of (cond-false (r.write) (r ∷ filter (λ x. x.write) rs) (filter (λ x. x.write) rs) t) in
          omega (arith, s, i, w, f)
    ]

flags_of : (n : ℕ) (b : Bool) → writable_pages (replicate n b) ≡ (if b then n else 0)
flags_of n true = let s = sum_by-replicate one_if n true in omega (arith, s)
flags_of n false = let s = sum_by-replicate one_if n false in omega (arith, s)

writes_counted : (rs : List Range) → list_any (λ r. r.len == 0) rs ≡ false → writable_pages (writes_of rs) ≡ sum_by to_write rs
unfolding writes_of
writes_counted [] n = refl
writes_counted (r ∷ rs) n =
    let q = any_none (λ x. x.len == 0) r rs n in
    let s = sum_by-cons to_write r rs in
    let j = sum_by-append one_if (replicate (pages_in r) r.write) (writes_of rs) in
    let i = writes_counted rs q.1 in
    let f = flags_of (pages_in r) r.write in
    let t : to_write r ≡ (if r.write then pages_in r else 0) = ap (λ x. if r.write then x else 0) (cond-false _ _ _ q.0) in
    omega (arith, s, j, i, f, t)

nothing_to_write : (r : Range) → r.len ≡ 0 → to_write r ≡ 0
nothing_to_write r e = (let z : touched r ≡ 0 = cond-true _ _ _ (eq-eqb r.len 0 e) in ap (λ x. if r.write then x else 0) z ∙ either r.write)
  where
    either : (b : Bool) → let z : ℕ = 0 in (if b then z else z) ≡ z
    either true = refl
    either false = refl

-- a space of ranges in order is that of the ranges
pub built_from : (xs ys : List Range) (t : PageTable) (a b : Frames) → IsOrder xs ys → rises 0 ys ≡ true → ranges_fault [] xs ≡ None → IsBuilt ys t a b → IsBuiltFrom xs t a b
unfolding frames_of_all
built_from xs ys t a b o r n i =
    let e = i.contents ∙ order_map xs ys o r in
    let l = i.pages ∙ order_pages xs ys o in
    let s = i.fresh.spare in
    record {
      clear = n;
      contents = e;
      map = subst (λ m. IsMapOf xs m) (sym e) (map_of xs n);
      fresh = i.fresh;
      pages = l;
      spare = omega (arith, l, s);
      writable = ap writable_pages i.writes ∙ writes_counted ys o.some ∙ o.sums to_write nothing_to_write ∙ filtered xs;
      stands = fresh_whole _ _ _ i.fresh;
      unshared = fresh_unshared _ _ _ _ i.fresh;
      together = λ ts st. (
        fresh_together _ (frames_of_all ts) _ _ i.fresh st,
        λ k u g. same_map u a b (λ f at h w. fresh_kept _ (frames_of_all ts) _ _ i.fresh st f at (among ts k u f g h) w),
      );
    }

-- every space keeps its map where no byte changes
unchanged : (o : PageTable) (a b : Frames) → b.bytes ≡ a.bytes → contents_of o b ≡ contents_of o a
unchanged o a b e = same_map o a b (λ n k h l. ap (λ xs. slice_index xs (4096 * n + k)) e)

pub not_full : (fs : List ℕ) (s : Frames) → HasRoomIn fs s → HasFull fs s → ⊥
not_full fs s r h = let l = r h.page h.within in let f = h.full in absurd (omega (arith, l, f))

-- a space whose frames got one more holder each
pub twinned : (t u : PageTable) (a b : Frames) → IsSound t → StandIn t.frames a → HasRoomIn t.frames a → u ≡ t → IsShared t.frames a b → IsTwinOf t u a b
unfolding frames_of_all
twinned t u a b o c r e s = subst (λ (x : PageTable). IsTwinOf t x a b) (sym e) (record {
  same = refl;
  contents = unchanged t a b s.bytes;
  shared = s;
  spare = s.spare;
  not_full = not_full t.frames a r;
  together = λ ts st. shared_together t.frames (frames_of_all ts) a b s st;
  maps = λ x. unchanged x a b s.bytes;
  twins = λ h. fresh_twins t a b o.flags o.once c s h.alone h.room;
})

-- a space whose frames lost a holder each
pub given_back : (t : PageTable) (a b : Frames) → IsGiven t.frames a b → IsGivenBack t a b
unfolding frames_of_all
given_back t a b g = record {
  given = g;
  together = λ ts st. (
    λ n. (let k = g.counts n in let d = st n in let j = times_join n t.frames (frames_of_all ts) in omega (arith, k, d, j)),
    λ i x e. unchanged x a b g.bytes,
  );
}
