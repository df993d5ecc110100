-- What a store leaves of all other spaces.
use Rattle.std.proofs.Common.{◌≡◌, ℕ, zero, suc, ◌%◌, ◌≤◌, ◌<◌, Bool, List, [], ◌∷◌, ◌++◌, refl, sym, ap, subst, arith}
use Rattle.std.specs.Prelude.{◌==◌, count_by, Option, Some, None, option_map}
use Rattle.std.specs.List.{slice_get}
use Rattle.std.specs.Option.{option_and_then}
use Rattle.std.proofs.Math.Path.{fun_ext}
use Rattle.std.proofs.lemmas.Bool.{eq-eqb}
use Rattle.std.proofs.lemmas.List.{append-nil}
use Rattle.std.proofs.lemmas.List.Sums.{sum_by-cons}
use Rattle.page_pool.specs.Frames.{Frames, frame_byte}
use Rattle.paged_space.specs.PageTable.{PageTable, place_at, held_in, held_on, may_write, contents_of}
use Rattle.paged_space.specs.Moves.{one_if, StandIn}
use Rattle.paged_space.specs.Follows.{Follows}
use Rattle.paged_space.specs.Together.{frames_of_all, StandTogether, LeavesOthers}
use Rattle.paged_space.proofs.OneWrite.{times_join}

-- the frame of a page is one of these
get_some : (fs : List ℕ) (k f : ℕ) → slice_get fs k ≡ Some f → 1 ≤ count_by (λ x. x == f) fs
get_some [] k f e = cc
get_some (x ∷ fs) zero f e = let q : x ≡ f = cc in let y = ap one_if (eq-eqb x f q) in let s = sum_by-cons (λ y. one_if (y == f)) x fs in omega (arith, y, s)
get_some (x ∷ fs) (suc k) f e = let r = get_some fs k f e in let s = sum_by-cons (λ y. one_if (y == f)) x fs in omega (arith, r, s)

abbrev Same : List ℕ → Frames → Frames → Type 0
Same fs old new = (n k : ℕ) → 1 ≤ count_by (λ f. f == n) fs → k < 4096 → frame_byte new n k ≡ frame_byte old n k

same_page : (fs : List ℕ) (w : Bool) (a k : ℕ) (old new : Frames) (o : Option ℕ) → slice_get fs k ≡ o → Same fs old new → option_map (held_in new a w) o ≡ option_map (held_in old a w) o
same_page fs w a k old new None e h = refl
same_page fs w a k old new (Some f) e h = ap (λ b. Some (record { byte = b; writes = w })) (h f (a % 4096) (get_some fs k f e) (omega arith))

same_place : (t : PageTable) (a : ℕ) (old new : Frames) (o : Option ℕ) → Same t.frames old new → option_and_then (held_on t new a) o ≡ option_and_then (held_on t old a) o
same_place t a old new None h = refl
same_place t a old new (Some k) h = same_page t.frames (may_write t.writes k) a k old new (slice_get t.frames k) refl h

-- a space whose frames keep their bytes keeps its map
pub same_map : (t : PageTable) (old new : Frames) → Same t.frames old new → contents_of t new ≡ contents_of t old
unfolding contents_of
same_map t old new h = fun_ext (λ a. same_place t a old new (place_at t.extents a) h)

pub among : (ts : List PageTable) (i : ℕ) (t : PageTable) (n : ℕ) → slice_get ts i ≡ Some t → 1 ≤ count_by (λ f. f == n) t.frames → 1 ≤ count_by (λ f. f == n) (frames_of_all ts)
unfolding frames_of_all
among [] i t n e h = cc
among (x ∷ ts) zero t n e h =
    let q : x ≡ t = cc in
    let k : 1 ≤ count_by (λ f. f == n) x.frames = subst (λ (y : PageTable). 1 ≤ count_by (λ f. f == n) y.frames) (sym q) h in
    let j = times_join n x.frames (frames_of_all ts) in omega (arith, j, k)
among (x ∷ ts) (suc i) t n e h = let r = among ts i t n e h in let j = times_join n x.frames (frames_of_all ts) in omega (arith, j, r)

-- all other spaces still stand together with this one, and have their maps
pub others_stay : (t u : PageTable) (old new : Frames) → Follows t u old new → LeavesOthers t u old new
unfolding frames_of_all
others_stay t u old new f = λ ts st.
    let p = f.others (frames_of_all ts) st in
    (p.0, λ i x e. same_map x old new (λ n k h l. p.1 n k (among ts i x n e h) l))

rest_stands : (fs gs : List ℕ) (s : Frames) → StandIn (fs ++ gs) s → StandIn gs s
rest_stands fs gs s c = λ n. let a = c n in let b = times_join n fs gs in omega (arith, a, b)

front_stands : (fs gs : List ℕ) (s : Frames) → StandIn (fs ++ gs) s → StandIn fs s
front_stands fs gs s c = λ n. let a = c n in let b = times_join n fs gs in omega (arith, a, b)

-- each of some spaces that stand together stands in the pool
pub each_stands : (ts : List PageTable) (i : ℕ) (t : PageTable) (s : Frames) → slice_get ts i ≡ Some t → StandTogether ts s → StandIn t.frames s
unfolding frames_of_all
each_stands [] i t s e st = cc
each_stands (x ∷ ts) zero t s e st = let q : x ≡ t = cc in subst (λ (y : PageTable). StandIn y.frames s) q (front_stands x.frames (frames_of_all ts) s st)
each_stands (x ∷ ts) (suc i) t s e st = each_stands ts i t s e (rest_stands x.frames (frames_of_all ts) s st)

-- a space that stands in the pool, as one that stands together with no other
pub one_stands : (t : PageTable) (s : Frames) → StandIn t.frames s → StandTogether (t ∷ []) s
unfolding frames_of_all
one_stands t s c = subst (λ (fs : List ℕ). StandIn fs s) (sym (append-nil t.frames)) c

-- the order of two spaces that stand together does not matter
pub swap_spaces : (t u : PageTable) (ts : List PageTable) (s : Frames) → StandTogether (t ∷ u ∷ ts) s → StandTogether (u ∷ t ∷ ts) s
unfolding frames_of_all
swap_spaces t u ts s c = λ n.
    let a = c n in
    let p = times_join n t.frames (u.frames ++ frames_of_all ts) in
    let q = times_join n u.frames (frames_of_all ts) in
    let v = times_join n u.frames (t.frames ++ frames_of_all ts) in
    let w = times_join n t.frames (frames_of_all ts) in
    omega (arith, a, p, q, v, w)
