-- Numbers whose bytes lie together on one page.
use Rattle.std.proofs.Common.{◌≡◌, ℕ, zero, suc, ◌+◌, ◌-◌, ◌%◌, ◌*◌, ◌^◌, ◌≤◌, ◌<◌, Bool, true, List, [], ◌∷◌, length, get_or, drop, refl, sym, ap, subst, ◌∙◌, arith, inl, inr}
use Rattle.std.specs.Prelude.{slice_index, Option, Some, None, Ok, unwrap_or}
use Rattle.std.proofs.lemmas.Bool.{cases_Bool, cond-true, lt-ltb}
use Rattle.std.proofs.lemmas.List.{get_or-take, get_or-drop}
use Rattle.std.proofs.Math.Nat.{mod-eq_of_lt}
use Rattle.byteorder.specs.Endian.{little_from, big_from}
use Rattle.rtl_core.specs.declared.expr.Order.{Order}
use Rattle.rtl_core.specs.declared.expr.Order.TheVariants.{Little, Big}
use Rattle.rtl_core.specs.Contents.{Contents, Held, held_at, is_mapped, byte_of, first_fault, bytes_from}
use Rattle.rtl_core.specs.Access.{is_size, number}
use Rattle.paged_space.specs.Accesses.{load_answer, or_fault}
use Rattle.page_pool.specs.Frames.{Frames, frame_byte, frame_bytes}
use Rattle.paged_space.specs.declared.extent.Extent.{Extent}
use Rattle.paged_space.specs.PageTable.{PageTable, place_at, is_laid, contents_of, may_write, IsSound, extent_end, pages_of}
use Rattle.paged_space.specs.Lookup.{OnPage}
use Rattle.paged_space.proofs.Places.{laid_head, skip, held_range}
use Rattle.paged_space.proofs.WholeSpace.{found_at, place_low}
use Rattle.paged_space.specs.PageTable.{extent_holds}

abbrev pub AreBytes : List ℕ → Type 0
AreBytes xs = (i : ℕ) → slice_index xs i < 256

-- the n addresses from a on hold these bytes
abbrev pub Runs : Contents → ℕ → ℕ → List ℕ → Bool → Type 0
Runs m a n xs w = (i : ℕ) → i < n → m (a + i) ≡ Some (record { byte = slice_index xs i; writes = w })

run_rest : (m : Contents) (a n : ℕ) (xs : List ℕ) (w : Bool) → Runs m a (suc n) xs w → Runs m (a + 1) n (drop 1 xs) w
run_rest m a n xs w h = λ i l.
    let e : a + 1 + i ≡ a + suc i = omega arith in
    let k : suc i < suc n = omega (arith, l) in
    ap m e ∙ h (suc i) k ∙ ap (λ b. Some (record { byte = b; writes = w })) (shift xs i)
  where
    shift : (xs : List ℕ) (i : ℕ) → slice_index xs (suc i) ≡ slice_index (drop 1 xs) i
    shift [] i = refl
    shift (x ∷ xs) i = refl

run_first : (m : Contents) (a n : ℕ) (xs : List ℕ) (w : Bool) → Runs m a (suc n) xs w → a < 2 ^ 32 → held_at m a ≡ Some (record { byte = slice_index xs 0; writes = w })
unfolding held_at
run_first m a n xs w h l =
    let z : 0 < suc n = omega arith in
    let e : a + 0 ≡ a = omega arith in
    cond-true _ _ _ (lt-ltb _ _ l) ∙ sym (ap m e) ∙ h 0 z

-- none of them is at fault
pub run_passes : (passes : Option Held → Bool) (m : Contents) (a n : ℕ) (xs : List ℕ) (w : Bool) → Runs m a n xs w → a + n ≤ 2 ^ 32 → ((b : ℕ) → passes (Some (record { byte = b; writes = w })) ≡ true) → first_fault passes m a n ≡ None
unfolding first_fault
run_passes p m a zero xs w h l g = refl
run_passes p m a (suc n) xs w h l g =
    let k : a < 2 ^ 32 = omega (arith, l) in
    let j : a + 1 + n ≤ 2 ^ 32 = omega (arith, l) in
    cond-true _ _ _ (ap p (run_first m a n xs w h k) ∙ g (slice_index xs 0)) ∙ run_passes p m (a + 1) n (drop 1 xs) w (run_rest m a n xs w h) j g

-- their bytes are the first of these, modulo 256
pub run_bytes : (m : Contents) (a n : ℕ) (xs : List ℕ) (w : Bool) (i : ℕ) → Runs m a n xs w → a + n ≤ 2 ^ 32 → i < n → slice_index (bytes_from m a n) i ≡ slice_index xs i % 256
unfolding bytes_from
run_bytes m a zero xs w i h l o = absurd (omega (arith, o))
run_bytes m a (suc n) xs w zero h l o = let k : a < 2 ^ 32 = omega (arith, l) in ap (λ x. unwrap_or (byte_of x) 0 % 256) (run_first m a n xs w h k)
run_bytes m a (suc n) xs w (suc i) h l o =
    let j : a + 1 + n ≤ 2 ^ 32 = omega (arith, l) in
    let q : i < n = omega (arith, o) in
    run_bytes m (a + 1) n (drop 1 xs) w i (run_rest m a n xs w h) j q ∙ ap (λ b. b % 256) (back xs i)
  where
    back : (xs : List ℕ) (i : ℕ) → slice_index (drop 1 xs) i ≡ slice_index xs (suc i)
    back [] i = refl
    back (x ∷ xs) i = refl

little_same : (j n : ℕ) (xs ys : List ℕ) → ((i : ℕ) → i < n → slice_index xs (j + i) ≡ slice_index ys (j + i)) → little_from j n xs ≡ little_from j n ys
little_same j zero xs ys h = refl
little_same j (suc n) xs ys h =
    let z : 0 < suc n = omega arith in
    let e : j + 0 ≡ j = omega arith in
    let f : slice_index xs j ≡ slice_index ys j = sym (ap (slice_index xs) e) ∙ h 0 z ∙ ap (slice_index ys) e in
    let r = little_same (suc j) n xs ys (λ i l. let k : suc i < suc n = omega (arith, l) in let q : suc j + i ≡ j + suc i = omega arith in ap (slice_index xs) q ∙ h (suc i) k ∙ sym (ap (slice_index ys) q)) in
    ap (λ b. b + 256 * little_from (suc j) n xs) f ∙ ap (λ b. slice_index ys j + 256 * b) r

big_same : (j n : ℕ) (xs ys : List ℕ) → ((i : ℕ) → i < n → slice_index xs (j + i) ≡ slice_index ys (j + i)) → big_from j n xs ≡ big_from j n ys
big_same j zero xs ys h = refl
big_same j (suc n) xs ys h =
    let z : 0 < suc n = omega arith in
    let e : j + 0 ≡ j = omega arith in
    let f : slice_index xs j ≡ slice_index ys j = sym (ap (slice_index xs) e) ∙ h 0 z ∙ ap (slice_index ys) e in
    let r = big_same (suc j) n xs ys (λ i l. let k : suc i < suc n = omega (arith, l) in let q : suc j + i ≡ j + suc i = omega arith in ap (slice_index xs) q ∙ h (suc i) k ∙ sym (ap (slice_index ys) q)) in
    ap (λ b. b * 256 ^ n + big_from (suc j) n xs) f ∙ ap (λ b. slice_index ys j * 256 ^ n + b) r

pub number_same : (order : Order) (n : ℕ) (xs ys : List ℕ) → ((i : ℕ) → i < n → slice_index xs i ≡ slice_index ys i) → number order n xs ≡ number order n ys
number_same Little n xs ys h = little_same 0 n xs ys (λ i l. let z : 0 + i ≡ i = omega arith in ap (slice_index xs) z ∙ h i l ∙ sym (ap (slice_index ys) z))
number_same Big n xs ys h = big_same 0 n xs ys (λ i l. let z : 0 + i ≡ i = omega arith in ap (slice_index xs) z ∙ h i l ∙ sym (ap (slice_index ys) z))

-- a load of them
pub run_loads : (m : Contents) (order : Order) (a n : ℕ) (xs : List ℕ) (w : Bool) → AreBytes xs → Runs m a n xs w → a + n ≤ 2 ^ 32 → load_answer m order n a ≡ Ok (number order n xs)
run_loads m order a n xs w b h l =
    ap (λ f. or_fault f (number order n (bytes_from m a n))) (run_passes is_mapped m a n xs w h l (λ b. refl))
    ∙ ap Ok (sym (number_same order n xs (bytes_from m a n) (λ i o. sym (run_bytes m a n xs w i h l o ∙ mod-eq_of_lt (b i)))))

-- an address on a page is below 2^32
pub place_small : (low at total : ℕ) (es : List Extent) (a k : ℕ) → is_laid low at es total ≡ true → place_at es a ≡ Some k → a < 2 ^ 32
unfolding place_at
place_small low at total [] a k o p = cc
place_small low at total (e ∷ es) a k o p =
    let q = laid_head low at e es total o in
    let z = q.end in
    elim (cases_Bool (extent_holds e a)) [
      | inl h ↦ let r = (held_range e a h).1 in omega (arith, r, z)
      | inr h ↦ place_small (extent_end e) (at + pages_of e) total es a k q.rest (sym (skip e es a h) ∙ p)
    ]

-- bytes of one page of a space
pub page_runs : (t : PageTable) (s : Frames) (a n k : ℕ) → IsSound t → OnPage t.extents a n k → Runs (contents_of t s) a n (drop (a % 4096) (frame_bytes s (get_or t.frames k 0))) (may_write t.writes k)
page_runs t s a n k o p = λ i l.
    let e = p.places i l in
    let r = p.room in
    let q : (a + i) % 4096 ≡ a % 4096 + i = omega (arith, r, l) in
    let u : a % 4096 + i < 4096 = omega (arith, r, l) in
    found_at t s (a + i) k e (place_low t (a + i) k o e)
    ∙ ap (λ b. Some (record { byte = b; writes = may_write t.writes k }))
    (ap (frame_byte s (get_or t.frames k 0)) q ∙ sym (get_or-drop (4096 * get_or t.frames k 0) s.bytes (a % 4096 + i) 0) ∙ sym (get_or-take 4096 (drop (4096 * get_or t.frames k 0) s.bytes) (a % 4096 + i) 0 u) ∙ sym (get_or-drop (a % 4096) (frame_bytes s (get_or t.frames k 0)) i 0))

pub run_end : (t : PageTable) (a n k : ℕ) → IsSound t → OnPage t.extents a n k → 1 ≤ n → a + n ≤ 2 ^ 32
run_end t a n k o p l =
    let j : n - 1 < n = omega (arith, l) in
    let r = place_small 0 0 (length t.frames) t.extents (a + (n - 1)) k o.laid (p.places (n - 1) j) in
    omega (arith, r, l)

pub size_some : (n : ℕ) → is_size n ≡ true → 1 ≤ n
size_some zero e = cc
size_some (suc n) e = omega arith

pub on_page_low : (t : PageTable) (a n k : ℕ) → IsSound t → OnPage t.extents a n k → 1 ≤ n → k < length t.frames
on_page_low t a n k o p l = let z : 0 < n = omega (arith, l) in place_low t (a + 0) k o (p.places 0 z)

pub page_loads : (t : PageTable) (s : Frames) (order : Order) (a n k : ℕ) (from : List ℕ) → IsSound t → OnPage t.extents a n k → 1 ≤ n → AreBytes from → from ≡ drop (a % 4096) (frame_bytes s (get_or t.frames k 0)) → load_answer (contents_of t s) order n a ≡ Ok (number order n from)
page_loads t s order a n k from o p l b e =
    let xs = drop (a % 4096) (frame_bytes s (get_or t.frames k 0)) in
    run_loads (contents_of t s) order a n xs (may_write t.writes k) (subst (λ (ys : List ℕ). AreBytes ys) e b) (page_runs t s a n k o p) (run_end t a n k o p l)
    ∙ ap (λ ys. Ok (number order n ys)) (sym e)
