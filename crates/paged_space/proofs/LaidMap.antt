-- The map of ranges that were laid on pages.
use denote.Ref.{Bor}
use Rattle.std.specs.Option.{option_or}
use Rattle.rtl_core.specs.FirstMemory.{parts_memory}
use Rattle.std.proofs.Common.{if◌then◌else◌, ◌≡◌, ℕ, zero, suc, ◌+◌, ◌-◌, ◌/◌, ◌%◌, ◌^◌, ◌≤◌, ◌<◌, Bool, true, false, cond, List, [], ◌∷◌, ◌++◌, length, get_or, replicate, drop, length-append, refl, sym, ap, subst, ◌∙◌, arith, inl, inr, append_assoc}
use Rattle.std.specs.Prelude.{ltb, slice_index, Some, None}
use Rattle.std.specs.Option.{option_and_then}
use Rattle.std.proofs.Math.Path.{fun_ext}
use Rattle.std.proofs.lemmas.Bool.{cases_lt, cases_Bool, eq-eqb, cond-true, cond-false, lt-ltb, le-ltb, le-leb, leb-true, ltb-true, and_parts, and_from}
use Rattle.std.proofs.lemmas.List.{append-nil, get_or_append_left, get_or-append_right, length-replicate, get_or-replicate}
use Rattle.page_pool.specs.Frames.{Frames, spare_of, frame_byte}
use Rattle.paged_space.specs.declared.range.Range.{Range}
use Rattle.paged_space.specs.declared.extent.Extent.{Extent}
use Rattle.paged_space.specs.PageTable.{PageTable, place_at, held_on, may_write, contents_of, is_laid}
use Rattle.paged_space.specs.LaidOut.{pages_in, address_at, byte_wanted, pages_of_all, extents_of, writes_of, expected, AreFresh, HasGrown, Laid, IsBuilt}
use Rattle.paged_space.proofs.Places.{held_range}
use Rattle.paged_space.proofs.WholeSpace.{get_at}
use Rattle.paged_space.proofs.FreshPages.{fresh_none, fresh_on, taken_apart}
use Rattle.paged_space.specs.Sorting.{rises, values}
use Rattle.paged_space.specs.Ranges.{held, end_of, holds, memory_of}

pub memory_none : (a : ℕ) → memory_of [] a ≡ None
unfolding parts_memory
memory_none a = refl

pub memory_next : (r : Range) (rs : List Range) (a : ℕ) → memory_of (r ∷ rs) a ≡ (if holds r a then Some (held r a) else memory_of rs a)
unfolding parts_memory
memory_next r rs a = by (holds r a)
  where
    by : (b : Bool) → option_or (if b then Some (held r a) else None) (memory_of rs a) ≡ (if b then Some (held r a) else memory_of rs a)
    by true = refl
    by false = refl

pub record Risen (lo : ℕ) (r : Range) (rs : List Range) : Type 0 where
  pub low : lo ≤ r.base
  pub some : 1 ≤ r.len
  pub end : end_of r ≤ 2 ^ 32
  pub rest : rises (end_of r) rs ≡ true

pub rises_head : (low : ℕ) (r : Range) (rs : List Range) → rises low (r ∷ rs) ≡ true → Risen low r rs
unfolding rises
rises_head low r rs o =
    let p = and_parts _ _ o in
    let q = and_parts _ _ p.0 in
    let s = and_parts _ _ p.1 in
    let l = ltb-true 0 r.len q.1 in
    record { low = leb-true _ _ q.0; some = omega (arith, l); end = leb-true _ _ s.0; rest = s.1 }

pub laid_extents : (low at : ℕ) (rs : List Range) → rises low rs ≡ true → is_laid low at (extents_of at rs) (at + pages_of_all rs) ≡ true
unfolding is_laid extents_of pages_of_all
laid_extents low at [] o = let e : at ≡ at + 0 = omega arith in eq-eqb at (at + 0) e
laid_extents low at (r ∷ rs) o =
    let h = rises_head low r rs o in
    let s = h.some in
    let s0 : 0 < r.len = omega (arith, s) in
    let t : at + pages_in r + pages_of_all rs ≡ at + (pages_in r + pages_of_all rs) = omega arith in
    and_from _ _ (and_from _ _ (and_from _ _ (le-leb _ _ h.low) (lt-ltb _ _ s0)) (and_from _ _ (le-leb _ _ h.end) (eq-eqb at at refl)))
    (ap (λ n. is_laid (end_of r) (at + pages_in r) (extents_of (at + pages_in r) rs) n) (sym t) ∙ laid_extents (end_of r) (at + pages_in r) rs h.rest)

pub writes_long : (rs : List Range) → length (writes_of rs) ≡ pages_of_all rs
unfolding writes_of pages_of_all
writes_long [] = refl
writes_long (r ∷ rs) =
    let a = length-append (replicate (pages_in r) r.write) (writes_of rs) in
    let b = length-replicate (pages_in r) r.write in
    let k = writes_long rs in
    omega (arith, a, b, k)

pub expected_here : (r : Range) (rs : List Range) (p k : ℕ) → p < pages_in r → expected (r ∷ rs) p k ≡ byte_wanted r p k
unfolding expected
expected_here r rs p k l = cond-true _ _ _ (lt-ltb _ _ l)

pub expected_later : (r : Range) (rs : List Range) (p k : ℕ) → expected (r ∷ rs) (pages_in r + p) k ≡ expected rs p k
unfolding expected
expected_later r rs p k =
    let l : pages_in r ≤ pages_in r + p = omega arith in
    let e : pages_in r + p - pages_in r ≡ p = omega arith in
    cond-false _ _ _ (le-ltb _ _ l) ∙ ap (λ q. expected rs q k) e

abbrev FilledFrom : ℕ → List Range → List ℕ → Frames → Type 0
FilledFrom at rs fs s = (p k : ℕ) → p < pages_of_all rs → k < 4096 → frame_byte s (slice_index fs (at + p)) k ≡ expected rs p k

abbrev FlagsFrom : ℕ → List Range → List Bool → Type 0
FlagsFrom at rs ws = (p : ℕ) → p < pages_of_all rs → get_or ws (at + p) false ≡ get_or (writes_of rs) p false

flags_here : (r : Range) (rs : List Range) (p : ℕ) → p < pages_in r → get_or (writes_of (r ∷ rs)) p false ≡ r.write
unfolding writes_of
flags_here r rs p l =
    let b = length-replicate (pages_in r) r.write in
    let m : p < length (replicate (pages_in r) r.write) = omega (arith, b, l) in
    get_or_append_left (replicate (pages_in r) r.write) (writes_of rs) false p m ∙ get_or-replicate (pages_in r) p r.write false l

flags_later : (r : Range) (rs : List Range) (p : ℕ) → get_or (writes_of (r ∷ rs)) (pages_in r + p) false ≡ get_or (writes_of rs) p false
unfolding writes_of
flags_later r rs p =
    let b = length-replicate (pages_in r) r.write in
    let l : pages_in r ≤ pages_in r + p = omega arith in
    let e : pages_in r + p - pages_in r ≡ p = omega arith in
    get_or-append_right (replicate (pages_in r) r.write) (writes_of rs) (pages_in r) (pages_in r + p) false b l ∙ ap (λ q. get_or (writes_of rs) q false) e

-- the map from here on
pub laid_map : (low at : ℕ) (rs : List Range) (t : PageTable) (s : Frames) (a : ℕ) → rises low rs ≡ true → FilledFrom at rs t.frames s → FlagsFrom at rs t.writes → at + pages_of_all rs ≤ length t.frames → option_and_then (held_on t s a) (place_at (extents_of at rs) a) ≡ memory_of rs a
unfolding place_at extents_of pages_of_all
laid_map low at [] t s a o f g l = sym (memory_none a)
laid_map low at (r ∷ rs) t s a o f g l =
    let h = rises_head low r rs o in
    elim (cases_Bool (holds r a)) [
      | inl y ↦
          let b = held_range (record { base = r.base; len = r.len; first = at }) a y in
          let b0 = b.0 in
          let b1 = b.1 in
          let p : a / 4096 - r.base / 4096 < pages_in r = omega (arith, b0, b1) in
          let pa : a / 4096 - r.base / 4096 < pages_in r + pages_of_all rs = omega (arith, p) in
          let k : at + (a / 4096 - r.base / 4096) < length t.frames = omega (arith, l, pa) in
          let m : a % 4096 < 4096 = omega arith in
          let ad : address_at r (a / 4096 - r.base / 4096) (a % 4096) ≡ a = omega (arith, b0) in
          ap (option_and_then (held_on t s a)) (cond-true _ _ _ y)
          ∙ get_at t s a (at + (a / 4096 - r.base / 4096)) k
          ∙ ap (λ b. Some (record { byte = b; writes = may_write t.writes (at + (a / 4096 - r.base / 4096)) })) (f (a / 4096 - r.base / 4096) (a % 4096) pa m ∙ expected_here r rs (a / 4096 - r.base / 4096) (a % 4096) p
          ∙ ap (λ v. cond (ltb v r.base) 0 (slice_index r.bytes (v - r.base))) ad ∙ cond-false _ _ _ (le-ltb _ _ b0))
          ∙ ap (λ w. Some (record { byte = slice_index r.bytes (a - r.base); writes = w })) (g (a / 4096 - r.base / 4096) pa ∙ flags_here r rs (a / 4096 - r.base / 4096) p)
          ∙ sym (memory_next r rs a ∙ cond-true _ _ _ y)
      | inr n ↦
          let ll : at + pages_in r + pages_of_all rs ≤ length t.frames = omega (arith, l) in
          let nf : FilledFrom (at + pages_in r) rs t.frames s = λ p k x m.
          let xx : pages_in r + p < pages_in r + pages_of_all rs = omega (arith, x) in
          let e : at + pages_in r + p ≡ at + (pages_in r + p) = omega arith in
          ap (λ q. frame_byte s (slice_index t.frames q) k) e ∙ f (pages_in r + p) k xx m ∙ expected_later r rs p k in
          let ng : FlagsFrom (at + pages_in r) rs t.writes = λ p x.
          let xx : pages_in r + p < pages_in r + pages_of_all rs = omega (arith, x) in
          let e : at + pages_in r + p ≡ at + (pages_in r + p) = omega arith in
          ap (λ q. get_or t.writes q false) e ∙ g (pages_in r + p) xx ∙ flags_later r rs p in
          ap (option_and_then (held_on t s a)) (cond-false _ _ _ n)
          ∙ laid_map (end_of r) (at + pages_in r) rs t s a h.rest nf ng ll
          ∙ sym (memory_next r rs a ∙ cond-false _ _ _ n)
    ]

-- a loop over the ranges
pub none_laid : (rs : List Range) (s : Frames) → Laid rs rs [] [] [] s s
none_laid rs s = record {
  extents = refl;
  writes = refl;
  long = omega arith;
  flags = refl;
  places = omega arith;
  fresh = fresh_none s;
  filled = λ p k l m. absurd (omega (arith, l));
  ahead = λ p k. let z : 0 + p ≡ p = omega arith in ap (λ q. expected rs q k) z;
}

pub one_laid : (rs rest : List Range) (r : Range) (es : List Extent) (fs gs : List ℕ) (ws : List Bool) (a b c : Frames) → Laid rs (r ∷ rest) es fs ws a b → HasGrown r (pages_in r) fs gs b c → Laid rs rest (es ++ record { base = r.base; len = r.len; first = length fs } ∷ []) gs (ws ++ replicate (pages_in r) r.write) a c
unfolding extents_of writes_of pages_of_all
one_laid rs rest r es fs gs ws a b c q g =
    let gl : length gs ≡ length fs + length g.more = ap length g.is ∙ length-append fs g.more in
    let ml = g.long in
    let ql = q.long in
    let pl = q.places in
    let e : length gs ≡ length fs + pages_in r = omega (arith, gl, ml) in
    let wl = length-append ws (replicate (pages_in r) r.write) in
    let rl = length-replicate (pages_in r) r.write in
    let fl = q.flags in
    let el = length-append es (record { base = r.base; len = r.len; first = length fs } ∷ []) in
    record {
      extents = append_assoc es (record { base = r.base; len = r.len; first = length fs } ∷ []) (extents_of (length gs) rest) ∙ ap (λ n. es ++ record { base = r.base; len = r.len; first = length fs } ∷ extents_of n rest) e ∙ q.extents;
      writes = append_assoc ws (replicate (pages_in r) r.write) (writes_of rest) ∙ q.writes;
      long = omega (arith, e, ql);
      flags = omega (arith, wl, rl, fl, e);
      places = omega (arith, el, pl);
      fresh = subst (λ (xs : List ℕ). AreFresh xs a c) (sym g.is) (fresh_on fs g.more a b c q.fresh g.fresh);
      filled = λ p k l m. elim (cases_lt p (length fs)) [
        | inl o ↦
            ap (λ xs. frame_byte c (slice_index xs p) k) g.is ∙ ap (λ f. frame_byte c f k) (get_or_append_left fs g.more 0 p o)
            ∙ g.fresh.bytes (slice_index fs p) k (taken_apart fs g.more a b c p q.fresh g.fresh o) m
            ∙ q.filled p k o m
        | inr o ↦
            let j : p - length fs < pages_in r = omega (arith, o, l, e) in
            let i : length fs + (p - length fs) ≡ p = omega (arith, o) in
            ap (λ xs. frame_byte c (slice_index xs p) k) g.is ∙ ap (λ f. frame_byte c f k) (get_or-append_right fs g.more (length fs) p 0 refl o)
            ∙ g.filled (p - length fs) k j m
            ∙ sym (expected_here r rest (p - length fs) k j) ∙ sym (q.ahead (p - length fs) k) ∙ ap (λ x. expected rs x k) i
      ];
      ahead = λ p k.
          let i : length gs + p ≡ length fs + (pages_in r + p) = omega (arith, e) in
          ap (λ x. expected rs x k) i ∙ q.ahead (pages_in r + p) k ∙ expected_later r rest p k;
    }

pub all_laid : (rs : List Range) (t : PageTable) (old new : Frames) → pages_of_all rs < 2 ^ 32 → rises 0 rs ≡ true → Laid rs [] t.extents t.frames t.writes old new → IsBuilt rs t old new
unfolding contents_of extents_of writes_of pages_of_all
all_laid rs t old new few o q =
    let es : t.extents ≡ extents_of 0 rs = sym (append-nil t.extents) ∙ q.extents in
    let ws : t.writes ≡ writes_of rs = sym (append-nil t.writes) ∙ q.writes in
    let ql = q.long in
    let l : length t.frames ≡ pages_of_all rs = omega (arith, ql) in
    let n : 0 + pages_of_all rs ≡ length t.frames = omega (arith, l) in
    let m : 0 + pages_of_all rs ≤ length t.frames = omega (arith, l) in
    record {
      sound = record {
        laid = ap (λ xs. is_laid 0 0 xs (length t.frames)) es ∙ ap (is_laid 0 0 (extents_of 0 rs)) (sym n) ∙ laid_extents 0 0 rs o;
        flags = q.flags;
        once = q.fresh.once;
        few = omega (arith, few, l);
      };
      contents = fun_ext (λ a. ap (λ xs. option_and_then (held_on t new a) (place_at xs a)) es
          ∙ laid_map 0 0 rs t new a o
          (λ p k x y. let z : 0 + p ≡ p = omega arith in let w : p < length t.frames = omega (arith, x, l) in ap (λ v. frame_byte new (slice_index t.frames v) k) z ∙ q.filled p k w y)
          (λ p x. let z : 0 + p ≡ p = omega arith in ap (λ v. get_or t.writes v false) z ∙ ap (λ xs. get_or xs p false) ws)
          m);
      fresh = q.fresh;
      pages = l;
      writes = ws;
    }

pub rises_each : (low : ℕ) (rs : List Range) (i : ℕ) (d : Range) → rises low rs ≡ true → i < length rs → (1 ≤ (get_or rs i d).len) × (end_of (get_or rs i d) ≤ 2 ^ 32)
rises_each low [] i d o l = absurd (omega (arith, l))
rises_each low (r ∷ rs) zero d o l = let h = rises_head low r rs o in (h.some, h.end)
rises_each low (r ∷ rs) (suc i) d o l = let m : i < length rs = omega (arith, l) in rises_each (end_of r) rs i d (rises_head low r rs o).rest m

pub pages_cons : (r : Range) (rs : List Range) → pages_of_all (r ∷ rs) ≡ pages_in r + pages_of_all rs
unfolding pages_of_all
pages_cons r rs = refl

pub values_drop : (order : List (Bor Range)) (i : ℕ) (b : Bor Range) → i < length order → b ≡ get_or order i b → drop i (values order) ≡ b.now ∷ drop (i + 1) (values order)
values_drop [] i b l e = absurd (omega (arith, l))
values_drop (x ∷ xs) zero b l e = ap (λ (y : Bor Range). y.now ∷ values xs) (sym e)
values_drop (x ∷ xs) (suc i) b l e =
    let m : i < length xs = omega (arith, l) in
    let s : suc i + 1 ≡ suc (i + 1) = omega arith in
    values_drop xs i b m e ∙ ap (λ n. b.now ∷ drop n (values (x ∷ xs))) (sym s)

pub each_of : (low : ℕ) (order : List (Bor Range)) (i : ℕ) (b : Bor Range) → rises low (values order) ≡ true → i < length order → b ≡ get_or order i b → (1 ≤ b.now.len) × (end_of b.now ≤ 2 ^ 32)
each_of low [] i b o l e = absurd (omega (arith, l))
each_of low (x ∷ xs) zero b o l e = let h = rises_head low x.now (values xs) o in subst (λ (y : Bor Range). (1 ≤ y.now.len) × (end_of y.now ≤ 2 ^ 32)) (sym e) (h.some, h.end)
each_of low (x ∷ xs) (suc i) b o l e = let m : i < length xs = omega (arith, l) in each_of (end_of x.now) xs i b (rises_head low x.now (values xs) o).rest m e

pub values_long : (order : List (Bor Range)) → length (values order) ≡ length order
values_long [] = refl
values_long (x ∷ xs) = ap suc (values_long xs)

-- what is left stands in front of one range
pub laid_front : (rs left rest : List Range) (r : Range) (es : List Extent) (fs : List ℕ) (ws : List Bool) (old new : Frames) → left ≡ r ∷ rest → Laid rs left es fs ws old new → Laid rs (r ∷ rest) es fs ws old new
laid_front rs left rest r es fs ws old new e q = subst (λ (xs : List Range). Laid rs xs es fs ws old new) e q

-- the room that one more range finds
pub record Room (rs rest : List Range) (r : Range) (es : List Extent) (fs : List ℕ) (ws : List Bool) (new : Frames) (total spare : ℕ) : Type 0 where
  pub extents : length es < total
  pub frames : length fs + pages_in r ≤ pages_of_all rs
  pub writes : length ws + pages_in r ≤ pages_of_all rs
  pub fits : pages_of_all rs ≤ spare → pages_in r ≤ spare_of new

pub laid_room : (rs rest : List Range) (r : Range) (es : List Extent) (fs : List ℕ) (ws : List Bool) (old new : Frames) (total : ℕ) → Laid rs (r ∷ rest) es fs ws old new → length rs ≡ total → Room rs rest r es fs ws new total (spare_of old)
laid_room rs rest r es fs ws old new total q t =
    let p = q.places in
    let l = q.long in
    let f = q.flags in
    let s = q.fresh.spare in
    let c = pages_cons r rest in
    record { extents = omega (arith, p, t); frames = omega (arith, l, c); writes = omega (arith, l, c, f); fits = λ h. omega (arith, h, l, c, s) }
