-- Ranges in order against ranges without a fault.
use denote.Ref.{Bor}
use Rattle.std.proofs.Common.{◌≡◌, ℕ, zero, suc, ◌+◌, ◌-◌, ◌/◌, ◌%◌, ◌*◌, ◌^◌, ◌≤◌, ◌<◌, Bool, true, false, cond, List, [], ◌∷◌, ◌++◌, length, get_or, take, drop, refl, sym, ap, subst, ◌∙◌, arith, inl, inr, append_assoc}
use Rattle.std.specs.Prelude.{◌==◌, ◌||◌, ◌⊎◌, ◌&&◌, ltb, leb, min, max, Option, Some, None}
use Rattle.std.specs.List.{list_any, sum_by}
use Rattle.std.specs.Option.{option_or}
use Rattle.std.proofs.Math.Path.{fun_ext}
use Rattle.std.proofs.lemmas.Bool.{cases_eq, cases_lt, cases_Bool, eq-eqb, eqb-true, ne_eqb, cond-true, cond-false, lt-ltb, le-leb, leb-true, ltb-true, ltb-false, and_parts, and_from, or_cases, or_left, or_right}
use Rattle.std.proofs.lemmas.List.Sums.{sum_by-append, sum_by-cons}
use Rattle.rtl_core.specs.Contents.{Held}
use Rattle.paged_space.specs.Moves.{one_if}
use Rattle.paged_space.specs.declared.range.Range.{Range}
use Rattle.paged_space.specs.declared.fault.SpaceFault.{SpaceFault}
use Rattle.paged_space.specs.declared.fault.SpaceFault.TheVariants.{PastEnd, Overlap}
use Rattle.paged_space.specs.LaidOut.{pages_in, pages_of_all}
use Rattle.paged_space.specs.Faults.{passes_end, told, range_fault, ranges_fault}
use Rattle.std.specs.List.Sorted.{IsPermutation, IsNonDecreasingBy}
use Rattle.std.proofs.lemmas.List.Sorted.{IsPermutation-map, sum_by-IsPermutation, list_any-IsPermutation}
use Rattle.std.proofs.lemmas.List.{append-nil, take-append-drop, length-take-le}
use Rattle.std.proofs.Math.Seq.{take-suc, take-length}
use Rattle.paged_space.proofs.LaidMap.{memory_next, memory_none, rises_head, values_long}
use Rattle.paged_space.specs.Sorting.{Between, IsOrder, goes_on, kept, nonempty, rises, values}
use Rattle.paged_space.specs.Ranges.{end_of, holds, memory_of, shares}
use Rattle.paged_space.specs.Built.{frames_of, touched}

-- how many of the ranges an address lies in
pub times_at : ℕ → List Range → ℕ
times_at a rs = sum_by (λ r. one_if (holds r a)) rs

pub times_cons : (a : ℕ) (r : Range) (rs : List Range) → times_at a (r ∷ rs) ≡ one_if (holds r a) + times_at a rs
unfolding times_at
times_cons a r rs = sum_by-cons (λ r. one_if (holds r a)) r rs

pub times_nil : (a : ℕ) → times_at a [] ≡ 0
unfolding times_at
times_nil a = refl

times_join : (a : ℕ) (xs ys : List Range) → times_at a (xs ++ ys) ≡ times_at a xs + times_at a ys
unfolding times_at
times_join a xs ys = sum_by-append (λ r. one_if (holds r a)) xs ys

lies_from : (r : Range) (a : ℕ) → r.base ≤ a → a < end_of r → holds r a ≡ true
lies_from r a l h = and_from _ _ (le-leb _ _ l) (lt-ltb _ _ h)

lies_range : (r : Range) (a : ℕ) → holds r a ≡ true → (r.base ≤ a) × (a < end_of r)
lies_range r a h = let p = and_parts _ _ h in (leb-true _ _ p.0, ltb-true _ _ p.1)

pub one_of : (r : Range) (a : ℕ) → holds r a ≡ true → one_if (holds r a) ≡ 1
one_of r a h = ap one_if h

pub none_of : (r : Range) (a : ℕ) → holds r a ≡ false → one_if (holds r a) ≡ 0
none_of r a h = ap one_if h

-- ranges in order share no address
below_low : (low : ℕ) (rs : List Range) (a : ℕ) → rises low rs ≡ true → a < low → times_at a rs ≡ 0
below_low low [] a o l = times_nil a
below_low low (r ∷ rs) a o l =
    let h = rises_head low r rs o in
    let lo = h.low in
    let e : a < end_of r = omega (arith, l, lo) in
    let k = below_low (end_of r) rs a h.rest e in
    let n : holds r a ≡ false = elim (cases_Bool (holds r a)) [ inl t ↦ let p = (lies_range r a t).0 in absurd (omega (arith, p, l, lo)) | inr f ↦ f ] in
    let z = none_of r a n in
    let c = times_cons a r rs in
    omega (arith, k, z, c)

pub rises_once : (low : ℕ) (rs : List Range) (a : ℕ) → rises low rs ≡ true → times_at a rs ≤ 1
rises_once low [] a o = let z = times_nil a in omega (arith, z)
rises_once low (r ∷ rs) a o =
    let h = rises_head low r rs o in
    let c = times_cons a r rs in
    elim (cases_Bool (holds r a)) [
      | inl t ↦ let p = (lies_range r a t).1 in let z = below_low (end_of r) rs a h.rest p in let y = one_of r a t in omega (arith, c, z, y)
      | inr f ↦ let z = none_of r a f in let k = rises_once (end_of r) rs a h.rest in omega (arith, c, z, k)
    ]

-- two ranges that share an address
share_meet : (r s : Range) → shares r s ≡ true → (holds r (max r.base s.base) ≡ true) × (holds s (max r.base s.base) ≡ true)
share_meet r s t =
    let l : max r.base s.base < min (end_of r) (end_of s) = ltb-true _ _ t in
    let a : r.base ≤ max r.base s.base = omega arith in
    let b : max r.base s.base < end_of r = omega (arith, l) in
    let c : s.base ≤ max r.base s.base = omega arith in
    let d : max r.base s.base < end_of s = omega (arith, l) in
    (lies_from r (max r.base s.base) a b, lies_from s (max r.base s.base) c d)

meet_share : (r s : Range) (a : ℕ) → holds r a ≡ true → holds s a ≡ true → shares r s ≡ true
meet_share r s a h k =
    let p = lies_range r a h in
    let q = lies_range s a k in
    let p0 = p.0 in
    let p1 = p.1 in
    let q0 = q.0 in
    let q1 = q.1 in
    let l : max r.base s.base < min (end_of r) (end_of s) = omega (arith, p0, p1, q0, q1) in
    lt-ltb _ _ l

pub record Meeting (r : Range) (xs : List Range) : Type 0 where
  pub address : ℕ
  pub lies : holds r address ≡ true
  pub some : 1 ≤ times_at address xs

any_meets : (r : Range) (xs : List Range) → list_any (shares r) xs ≡ true → Meeting r xs
any_meets r [] t = cc
any_meets r (x ∷ xs) t = elim (or_cases _ _ t) [
  | inl s ↦
      let m = share_meet r x s in
      let c = times_cons (max r.base x.base) x xs in
      let y = one_of x (max r.base x.base) m.1 in
      record { address = max r.base x.base; lies = m.0; some = omega (arith, c, y) }
  | inr l ↦
      let m = any_meets r xs l in
      let c = times_cons m.address x xs in
      let s = m.some in
      record { address = m.address; lies = m.lies; some = omega (arith, c, s) }
]

meets_any : (r : Range) (xs : List Range) (a : ℕ) → holds r a ≡ true → 1 ≤ times_at a xs → list_any (shares r) xs ≡ true
meets_any r [] a h o = let z = times_nil a in absurd (omega (arith, z, o))
meets_any r (x ∷ xs) a h o = elim (cases_Bool (holds x a)) [
  | inl t ↦ or_left _ _ (meet_share r x a h t)
  | inr f ↦ let c = times_cons a x xs in let z = none_of x a f in or_right _ _ (meets_any r xs a h (omega (arith, c, z, o)))
]

-- no address in two of them, and none past the end: no fault
pub no_fault : (earlier rs : List Range) → list_any passes_end rs ≡ false → ((a : ℕ) → times_at a (earlier ++ rs) ≤ 1) → ranges_fault earlier rs ≡ None
unfolding ranges_fault
no_fault earlier [] p o = refl
no_fault earlier (r ∷ rs) p o =
    elim (cases_Bool (passes_end r)) [
      | inl t ↦ let b : list_any passes_end (r ∷ rs) ≡ true = or_left _ _ t in cc
      | inr f ↦ elim (cases_Bool (list_any (shares r) earlier)) [
        | inl s ↦
            let m = any_meets r earlier s in
            let j = times_join m.address earlier (r ∷ rs) in
            let c = times_cons m.address r rs in
            let y = one_of r m.address m.lies in
            let k = m.some in
            let w = o m.address in
            absurd (omega (arith, j, c, y, k, w))
        | inr s ↦
            let first : range_fault earlier (told (length earlier)) r ≡ None = cond-false _ _ _ f ∙ cond-false _ _ _ s in
            let rest : list_any passes_end rs ≡ false = elim (cases_Bool (list_any passes_end rs)) [ inl t ↦ let b : list_any passes_end (r ∷ rs) ≡ true = or_right _ _ t in cc | inr n ↦ n ] in
            ap (λ x. option_or x (ranges_fault (earlier ++ r ∷ []) rs)) first ∙ no_fault (earlier ++ r ∷ []) rs rest (λ a. subst (λ (xs : List Range). times_at a xs ≤ 1) (sym (append_assoc earlier (r ∷ []) rs)) (o a))
      ]
    ]

or_none_first : (o p : Option SpaceFault) → option_or o p ≡ None → o ≡ None
or_none_first None p n = refl
or_none_first (Some f) p n = cc

or_none_second : (o p : Option SpaceFault) → option_or o p ≡ None → p ≡ None
or_none_second None p n = n
or_none_second (Some f) p n = cc

fault_free : (b e : Bool) (i : ℕ) → cond b (Some (PastEnd i)) (cond e (Some (Overlap i)) None) ≡ None → (b ≡ false) × (e ≡ false)
fault_free true e i n = cc
fault_free false true i n = cc
fault_free false false i n = (refl, refl)

or_none : (a b : Bool) → a ≡ false → b ≡ false → (a || b) ≡ false
or_none true b x y = cc
or_none false b x y = y

-- without a fault no address lies in two
pub clear_once : (earlier rs : List Range) → ranges_fault earlier rs ≡ None → ((a : ℕ) → times_at a earlier ≤ 1) → (a : ℕ) → times_at a (earlier ++ rs) ≤ 1
unfolding ranges_fault
clear_once earlier [] n o a = let j = times_join a earlier [] in let z = times_nil a in let w = o a in omega (arith, j, z, w)
clear_once earlier (r ∷ rs) n o a =
    let f = (fault_free (passes_end r) (list_any (shares r) earlier) (told (length earlier)) (or_none_first _ _ n)).1 in
    subst (λ (xs : List Range). times_at a xs ≤ 1) (append_assoc earlier (r ∷ []) rs)
    (clear_once (earlier ++ r ∷ []) rs (or_none_second _ _ n) (λ b.
    let j = times_join b earlier (r ∷ []) in
    let c = times_cons b r [] in
    let z = times_nil b in
    let w = o b in
    elim (cases_Bool (holds r b)) [
      | inl t ↦ elim (cases_lt (times_at b earlier) 1) [
        | inl l ↦ let y = one_of r b t in omega (arith, j, c, z, l, y)
        | inr g ↦ let s = meets_any r earlier b t g in cc
      ]
      | inr t ↦ let y = none_of r b t in omega (arith, j, c, z, w, y)
    ]) a)

pub clear_ends : (earlier rs : List Range) → ranges_fault earlier rs ≡ None → list_any passes_end rs ≡ false
unfolding ranges_fault
clear_ends earlier [] n = refl
clear_ends earlier (r ∷ rs) n =
    let f = (fault_free (passes_end r) (list_any (shares r) earlier) (told (length earlier)) (or_none_first _ _ n)).0 in
    let k = clear_ends (earlier ++ r ∷ []) rs (or_none_second _ _ n) in
    or_none (passes_end r) (list_any passes_end rs) f k

-- ranges by their bases rise, or two of them share an address
pub record Twice (xs : List Range) : Type 0 where
  pub address : ℕ
  pub two : 2 ≤ times_at address xs

abbrev Up : List Range → Type 0
Up ys = (k : ℕ) (d : Range) → k + 1 < length ys → (get_or ys k d).base ≤ (get_or ys (k + 1) d).base

pub any_none : (p : Range → Bool) (r : Range) (rs : List Range) → list_any p (r ∷ rs) ≡ false → (p r ≡ false) × (list_any p rs ≡ false)
any_none p r rs n = (
  (elim (cases_Bool (p r)) [ inl t ↦ let b : list_any p (r ∷ rs) ≡ true = or_left _ _ t in cc | inr f ↦ f ]),
  (elim (cases_Bool (list_any p rs)) [ inl t ↦ let b : list_any p (r ∷ rs) ≡ true = or_right _ _ t in cc | inr f ↦ f ]),
)

rises_from : (low : ℕ) (r : Range) (rs : List Range) → low ≤ r.base → 0 < r.len → end_of r ≤ 2 ^ 32 → rises (end_of r) rs ≡ true → rises low (r ∷ rs) ≡ true
unfolding rises
rises_from low r rs l s e o = and_from _ _ (and_from _ _ (le-leb _ _ l) (lt-ltb _ _ s)) (and_from _ _ (le-leb _ _ e) o)

some_len : (r : Range) → (r.len == 0) ≡ false → 0 < r.len
some_len r f = elim (cases_eq r.len 0) [ inl e ↦ let t = eq-eqb r.len 0 e in cc | inr n ↦ omega (arith, n) ]

pub rise_or_meet : (r : Range) (rs : List Range) → Up (r ∷ rs) → list_any (λ x. x.len == 0) (r ∷ rs) ≡ false → list_any passes_end (r ∷ rs) ≡ false → (rises r.base (r ∷ rs) ≡ true) ⊎ Twice (r ∷ rs)
unfolding rises
rise_or_meet r [] up s p =
    let a = some_len r (any_none (λ x. x.len == 0) r [] s).0 in
    let b = ltb-false _ _ (any_none passes_end r [] p).0 in
    let l : r.base ≤ r.base = omega arith in
    inl (rises_from r.base r [] l a b refl)
rise_or_meet r (x ∷ xs) up s p =
    let sp = any_none (λ x. x.len == 0) r (x ∷ xs) s in
    let pp = any_none passes_end r (x ∷ xs) p in
    let sx = any_none (λ x. x.len == 0) x xs sp.1 in
    let px = any_none passes_end x xs pp.1 in
    let a = some_len r sp.0 in
    let b = ltb-false _ _ pp.0 in
    let ax = some_len x sx.0 in
    let bx = ltb-false _ _ px.0 in
    let l : r.base ≤ r.base = omega arith in
    let u : r.base ≤ x.base = up 0 r (omega arith) in
    elim (rise_or_meet x xs (λ k d m. (let n : suc k + 1 < length (r ∷ x ∷ xs) = omega (arith, m) in let e : suc k + 1 ≡ suc (k + 1) = omega arith in subst (λ (i : ℕ). (get_or (x ∷ xs) k d).base ≤ (get_or (r ∷ x ∷ xs) i d).base) e (up (suc k) d n))) sp.1 pp.1) [
      | inl o ↦ elim (cases_lt x.base (end_of r)) [
        | inl w ↦
            let c = times_cons x.base r (x ∷ xs) in
            let d = times_cons x.base x xs in
            let y = one_of r x.base (lies_from r x.base u w) in
            let lx : x.base ≤ x.base = omega arith in
            let hx : x.base < end_of x = omega (arith, ax) in
            let z = one_of x x.base (lies_from x x.base lx hx) in
            inr (record { address = x.base; two = omega (arith, c, d, y, z) })
        | inr g ↦ inl (rises_from r.base r (x ∷ xs) l a b (rises_from (end_of r) x xs g ax bx (rises_head x.base x xs o).rest))
      ]
      | inr t ↦ let c = times_cons t.address r (x ∷ xs) in let w = t.two in inr (record { address = t.address; two = omega (arith, c, w) })
    ]

-- what an address holds, as a number
pub code : ℕ → Range → ℕ
code a r = cond (holds r a) (1 + (2 * Rattle.std.specs.Prelude.slice_index r.bytes (a - r.base) + one_if r.write)) 0

pub decode : ℕ → Option Held
decode zero = None
decode (suc n) = Some (record { byte = n / 2; writes = (n % 2 == 1) })

flag_back : (b n : ℕ) (w : Bool) → n ≡ 2 * b + one_if w → Some (record { byte = b; writes = w }) ≡ decode (1 + n)
unfolding decode
flag_back b n true e =
    let s : 1 + n ≡ suc n = omega arith in
    let q : b ≡ n / 2 = omega (arith, e) in
    let t : n % 2 ≡ 1 = omega (arith, e) in
    ap (λ x. Some (record { byte = x; writes = true })) q ∙ ap (λ f. Some (record { byte = n / 2; writes = f })) (sym (eq-eqb (n % 2) 1 t)) ∙ ap decode (sym s)
flag_back b n false e =
    let s : 1 + n ≡ suc n = omega arith in
    let q : b ≡ n / 2 = omega (arith, e) in
    let t : n % 2 ≡ 1 → ⊥ = λ u. absurd (omega (arith, e, u)) in
    ap (λ x. Some (record { byte = x; writes = false })) q ∙ ap (λ f. Some (record { byte = n / 2; writes = f })) (sym (ne_eqb (n % 2) 1 t)) ∙ ap decode (sym s)

code_none : (a : ℕ) (rs : List Range) → times_at a rs ≡ 0 → sum_by (code a) rs ≡ 0
unfolding code
code_none a [] z = refl
code_none a (r ∷ rs) z =
    let c = times_cons a r rs in
    let s = sum_by-cons (code a) r rs in
    elim (cases_Bool (holds r a)) [
      | inl t ↦ let y = one_of r a t in absurd (omega (arith, c, y, z))
      | inr f ↦ let y = none_of r a f in let k : times_at a rs ≡ 0 = omega (arith, c, y, z) in let i = code_none a rs k in let q : code a r ≡ 0 = cond-false _ _ _ f in omega (arith, s, i, q)
    ]

-- the map of ranges in which no address lies twice, from a sum
pub map_code : (a : ℕ) (rs : List Range) → times_at a rs ≤ 1 → memory_of rs a ≡ decode (sum_by (code a) rs)
unfolding code decode
map_code a [] o = memory_none a
map_code a (r ∷ rs) o =
    let c = times_cons a r rs in
    let s = sum_by-cons (code a) r rs in
    elim (cases_Bool (holds r a)) [
      | inl t ↦
          let y = one_of r a t in
          let k : times_at a rs ≡ 0 = omega (arith, c, y, o) in
          let i = code_none a rs k in
          let q : code a r ≡ 1 + (2 * Rattle.std.specs.Prelude.slice_index r.bytes (a - r.base) + one_if r.write) = cond-true _ _ _ t in
          let e : sum_by (code a) (r ∷ rs) ≡ 1 + (2 * Rattle.std.specs.Prelude.slice_index r.bytes (a - r.base) + one_if r.write) = omega (arith, s, i, q) in
          memory_next r rs a ∙ cond-true _ _ _ t ∙ flag_back (Rattle.std.specs.Prelude.slice_index r.bytes (a - r.base)) (2 * Rattle.std.specs.Prelude.slice_index r.bytes (a - r.base) + one_if r.write) r.write refl ∙ ap decode (sym e)
      | inr f ↦
          let y = none_of r a f in
          let k : times_at a rs ≤ 1 = omega (arith, c, y, o) in
          let q : code a r ≡ 0 = cond-false _ _ _ f in
          let e : sum_by (code a) (r ∷ rs) ≡ sum_by (code a) rs = omega (arith, s, q) in
          memory_next r rs a ∙ cond-false _ _ _ f ∙ map_code a rs k ∙ ap decode (sym e)
    ]

empty_lies : (r : Range) (a : ℕ) → r.len ≡ 0 → holds r a ≡ false
empty_lies r a e = elim (cases_Bool (holds r a)) [ inl t ↦ let p = lies_range r a t in let p0 = p.0 in let p1 = p.1 in absurd (omega (arith, p0, p1, e)) | inr f ↦ f ]

pub order_times : (xs ys : List Range) (a : ℕ) → IsOrder xs ys → times_at a ys ≡ times_at a xs
unfolding times_at
order_times xs ys a o = o.sums (λ r. one_if (holds r a)) (λ r e. none_of r a (empty_lies r a e))

pub order_map : (xs ys : List Range) → IsOrder xs ys → rises 0 ys ≡ true → memory_of ys ≡ memory_of xs
unfolding code
order_map xs ys o r = fun_ext (λ a.
    let t = order_times xs ys a o in
    let y = rises_once 0 ys a r in
    let x : times_at a xs ≤ 1 = omega (arith, t, y) in
    map_code a ys y ∙ ap decode (o.sums (code a) (λ q e. cond-false _ _ _ (empty_lies q a e))) ∙ sym (map_code a xs x))

-- in order: no fault
pub order_clear : (xs ys : List Range) → IsOrder xs ys → rises 0 ys ≡ true → list_any passes_end xs ≡ false → ranges_fault [] xs ≡ None
order_clear xs ys o r p = no_fault [] xs p (λ a. let t = order_times xs ys a o in let y = rises_once 0 ys a r in omega (arith, t, y))

abbrev past_one : Range → ℕ
past_one r = one_if (ltb 0 r.len && passes_end r)

past_none : (xs : List Range) → list_any passes_end xs ≡ false → sum_by past_one xs ≡ 0
past_none [] p = refl
past_none (x ∷ xs) p =
    let q = any_none passes_end x xs p in
    let s = sum_by-cons past_one x xs in
    let i = past_none xs q.1 in
    let z : past_one x ≡ 0 = elim (cases_Bool (ltb 0 x.len)) [
      | inl t ↦ ap (λ b. one_if (b && passes_end x)) t ∙ ap one_if q.0
      | inr f ↦ ap (λ b. one_if (b && passes_end x)) f
    ] in
    omega (arith, s, i, z)

none_past : (ys : List Range) → list_any (λ x. x.len == 0) ys ≡ false → sum_by past_one ys ≡ 0 → list_any passes_end ys ≡ false
none_past [] n z = refl
none_past (y ∷ ys) n z =
    let q = any_none (λ x. x.len == 0) y ys n in
    let s = sum_by-cons past_one y ys in
    let r : sum_by past_one ys ≡ 0 = omega (arith, s, z) in
    let k = none_past ys q.1 r in
    let h : past_one y ≡ 0 = omega (arith, s, z) in
    elim (cases_Bool (passes_end y)) [
      | inl t ↦ let l = some_len y q.0 in let e : past_one y ≡ 1 = ap (λ b. one_if (b && passes_end y)) (lt-ltb _ _ l) ∙ ap one_if t in absurd (omega (arith, e, h))
      | inr f ↦ or_none (passes_end y) (list_any passes_end ys) f k
    ]

rises_low : (low : ℕ) (ys : List Range) → rises low ys ≡ true → rises 0 ys ≡ true
unfolding rises
rises_low low [] o = refl
rises_low low (y ∷ ys) o = let h = rises_head low y ys o in let s = h.some in let a : 0 ≤ y.base = omega arith in let b : 0 < y.len = omega (arith, s) in rises_from 0 y ys a b h.end h.rest

-- out of order: a fault
pub order_fault : (xs ys : List Range) → IsOrder xs ys → rises 0 ys ≡ false → list_any passes_end xs ≡ false → ranges_fault [] xs ≡ None → ⊥
unfolding rises
order_fault xs [] o r p n = cc
order_fault xs (y ∷ ys) o r p n =
    let z : sum_by past_one (y ∷ ys) ≡ 0 = o.sums past_one (λ q e. (let l : 0 < q.len → ⊥ = λ h. absurd (omega (arith, e, h)) in
    elim (cases_Bool (ltb 0 q.len)) [ inl t ↦ absurd (l (ltb-true _ _ t)) | inr f ↦ ap (λ b. one_if (b && passes_end q)) f ])) ∙ past_none xs p in
    elim (rise_or_meet y ys o.up o.some (none_past (y ∷ ys) o.some z)) [
      | inl t ↦ let u = rises_low y.base (y ∷ ys) t in cc
      | inr t ↦
          let c = clear_once [] xs n (λ a. let w = times_nil a in omega (arith, w)) t.address in
          let e = order_times xs (y ∷ ys) t.address o in
          let w = t.two in
          absurd (omega (arith, c, e, w))
    ]

all_touched : (rs : List Range) → list_any (λ x. x.len == 0) rs ≡ false → pages_of_all rs ≡ sum_by touched rs
unfolding pages_of_all
all_touched [] n = refl
all_touched (r ∷ rs) n =
    let q = any_none (λ x. x.len == 0) r rs n in
    let s = sum_by-cons touched r rs in
    let i = all_touched rs q.1 in
    let t : touched r ≡ pages_in r = cond-false _ _ _ q.0 in
    omega (arith, s, i, t)

-- the pages of all
pub order_pages : (xs ys : List Range) → IsOrder xs ys → pages_of_all ys ≡ frames_of xs
order_pages xs ys o = all_touched ys o.some ∙ o.sums touched (λ r e. cond-true _ _ _ (eq-eqb r.len 0 e))

-- the ranges that are not empty
pub kept_sums : (xs : List Range) (f : Range → ℕ) → ((r : Range) → r.len ≡ 0 → f r ≡ 0) → sum_by f (nonempty xs) ≡ sum_by f xs
unfolding nonempty
kept_sums [] f h = refl
kept_sums (r ∷ rs) f h =
    let i = kept_sums rs f h in
    let s = sum_by-cons f r rs in
    elim (cases_Bool (r.len == 0)) [
      | inl t ↦
          let z = h r (eqb-true _ _ t) in
          ap (λ xs. sum_by f (xs ++ nonempty rs)) (cond-true _ _ _ t) ∙ (let e : sum_by f (nonempty rs) ≡ sum_by f (r ∷ rs) = omega (arith, i, s, z) in e)
      | inr n ↦
          let k = sum_by-cons f r (nonempty rs) in
          ap (λ xs. sum_by f (xs ++ nonempty rs)) (cond-false _ _ _ n) ∙ (let e : sum_by f (r ∷ nonempty rs) ≡ sum_by f (r ∷ rs) = omega (arith, i, s, k) in e)
    ]

pub kept_some : (xs : List Range) → list_any (λ r. r.len == 0) (nonempty xs) ≡ false
unfolding nonempty
kept_some [] = refl
kept_some (r ∷ rs) = elim (cases_Bool (r.len == 0)) [
  | inl t ↦ ap (λ xs. list_any (λ r. r.len == 0) (xs ++ nonempty rs)) (cond-true _ _ _ t) ∙ kept_some rs
  | inr n ↦ ap (λ xs. list_any (λ r. r.len == 0) (xs ++ nonempty rs)) (cond-false _ _ _ n) ∙ or_none (r.len == 0) (list_any (λ r. r.len == 0) (nonempty rs)) n (kept_some rs)
]

pub kept_one : (r : Range) (rs : List Range) → nonempty (r ∷ rs) ≡ kept r ++ nonempty rs
unfolding nonempty
kept_one r rs = refl

value_at : (ys : List (Bor Range)) (k : ℕ) (d : Range) (b : Bor Range) → k < length ys → get_or (values ys) k d ≡ (get_or ys k b).now
value_at [] k d b l = absurd (omega (arith, l))
value_at (y ∷ ys) zero d b l = refl
value_at (y ∷ ys) (suc k) d b l = let m : k < length ys = omega (arith, l) in value_at ys k d b m

values_up : (ys : List (Bor Range)) → IsNonDecreasingBy (λ b. b.now.base) ys → Up (values ys)
values_up [] h = λ k d l. absurd (omega (arith, l))
values_up (y ∷ ys) h = λ k d l.
    let n = values_long (y ∷ ys) in
    let a : k < length (y ∷ ys) = omega (arith, l, n) in
    let b : k + 1 < length (y ∷ ys) = omega (arith, l, n) in
    let c : k ≤ k + 1 = omega arith in
    let g = h k (k + 1) y c b in
    let p = ap (λ (r : Range). r.base) (value_at (y ∷ ys) k d y a) in
    let q = ap (λ (r : Range). r.base) (value_at (y ∷ ys) (k + 1) d y b) in
    omega (arith, g, p, q)

pub sorted_order : (xs : List Range) (us vs : List (Bor Range)) → values us ≡ nonempty xs → IsPermutation us vs → IsNonDecreasingBy (λ b. b.now.base) vs → IsOrder xs (values vs)
sorted_order xs us vs e p u =
    let m = IsPermutation-map (λ (b : Bor Range). b.now) us vs p in
    record {
      sums = λ f h. sum_by-IsPermutation f (values us) (values vs) m ∙ ap (sum_by f) e ∙ kept_sums xs f h;
      up = values_up vs u;
      some = sym (list_any-IsPermutation (λ r. r.len == 0) (values us) (values vs) m) ∙ ap (list_any (λ r. r.len == 0)) e ∙ kept_some xs;
    }

pub rises_cons : (low : ℕ) (r : Range) (rs : List Range) → rises low (r ∷ rs) ≡ (goes_on low r && rises (end_of r) rs)
unfolding rises
rises_cons low r rs = three (leb low r.base && ltb 0 r.len) (leb (end_of r) (2 ^ 32)) (rises (end_of r) rs)
  where
    three : (a b c : Bool) → (a && (b && c)) ≡ ((a && b) && c)
    three true b c = refl
    three false b c = refl

-- a fault of a list is one of its front or of what is behind
pub fault_join : (earlier xs ys : List Range) → ranges_fault earlier (xs ++ ys) ≡ option_or (ranges_fault earlier xs) (ranges_fault (earlier ++ xs) ys)
unfolding ranges_fault
fault_join earlier [] ys = ap (λ zs. ranges_fault zs ys) (sym (append-nil earlier))
fault_join earlier (x ∷ xs) ys =
    ap (option_or (range_fault earlier (told (length earlier)) x)) (fault_join (earlier ++ x ∷ []) xs ys ∙ ap (λ zs. option_or (ranges_fault (earlier ++ x ∷ []) xs) (ranges_fault zs ys)) (append_assoc earlier (x ∷ []) xs))
    ∙ or_assoc (range_fault earlier (told (length earlier)) x) (ranges_fault (earlier ++ x ∷ []) xs) (ranges_fault (earlier ++ x ∷ xs) ys)
  where
    or_assoc : (o p q : Option SpaceFault) → option_or o (option_or p q) ≡ option_or (option_or o p) q
    or_assoc None p q = refl
    or_assoc (Some f) p q = refl

pub none_at_all : ranges_fault [] [] ≡ None
unfolding ranges_fault
none_at_all = refl

-- the one range between a front without a fault and one with a fault has it
pub fault_at : (xs : List Range) (k : ℕ) (r : Range) → Between xs k (k + 1) → r ≡ get_or xs k r → ranges_fault [] xs ≡ Some (cond (passes_end r) (PastEnd (told k)) (Overlap (told k)))
unfolding ranges_fault
fault_at xs k r b e =
    let w = b.within in
    let kl : k < length xs = omega (arith, w) in
    let s : k + 1 ≡ suc k = omega arith in
    let lt : length (take k xs) ≡ k = length-take-le k xs (omega (arith, w)) in
    let t : take (k + 1) xs ≡ take k xs ++ r ∷ [] = ap (λ n. take n xs) s ∙ take-suc xs k r kl ∙ ap (λ y. take k xs ++ y ∷ []) (sym e) in
    let j = fault_join [] (take k xs) (r ∷ []) in
    let f : ranges_fault [] (take (k + 1) xs) ≡ option_or (range_fault (take k xs) (told k) r) None = ap (ranges_fault []) t ∙ j ∙ ap (λ o. option_or o (option_or (range_fault (take k xs) (told (length (take k xs))) r) None)) b.clear ∙ ap (λ n. option_or (range_fault (take k xs) (told n) r) None) lt in
    let g = the_fault (passes_end r) (list_any (shares r) (take k xs)) (told k) (λ z. b.fault (f ∙ ap (λ o. option_or o None) z)) in
    sym (ap (ranges_fault []) (take-append-drop (k + 1) xs)) ∙ fault_join [] (take (k + 1) xs) (drop (k + 1) xs) ∙ ap (λ o. option_or o (ranges_fault (take (k + 1) xs) (drop (k + 1) xs))) (f ∙ ap (λ o. option_or o None) g)
  where
    the_fault : (p e : Bool) (i : ℕ) → (cond p (Some (PastEnd i)) (cond e (Some (Overlap i)) None) ≡ None → ⊥) → cond p (Some (PastEnd i)) (cond e (Some (Overlap i)) None) ≡ Some (cond p (PastEnd i) (Overlap i))
    the_fault true e i n = refl
    the_fault false true i n = refl
    the_fault false false i n = absurd (n refl)

pub past_fault : (xs : List Range) → list_any passes_end xs ≡ true → ranges_fault [] xs ≡ None → ⊥
past_fault xs t n = let c = clear_ends [] xs n in cc

pub drop_next : (xs : List Range) (i : ℕ) (r : Range) → i < length xs → r ≡ get_or xs i r → drop i xs ≡ r ∷ drop (i + 1) xs
drop_next [] i r l e = absurd (omega (arith, l))
drop_next (x ∷ xs) zero r l e = ap (λ y. y ∷ xs) (sym e)
drop_next (x ∷ xs) (suc i) r l e =
    let m : i < length xs = omega (arith, l) in
    let s : suc i + 1 ≡ suc (i + 1) = omega arith in
    drop_next xs i r m e ∙ ap (λ n. r ∷ drop n (x ∷ xs)) (sym s)

drop_end : (xs : List Range) (i : ℕ) → length xs ≤ i → drop i xs ≡ []
drop_end [] zero l = refl
drop_end [] (suc i) l = refl
drop_end (x ∷ xs) zero l = absurd (omega (arith, l))
drop_end (x ∷ xs) (suc i) l = let m : length xs ≤ i = omega (arith, l) in drop_end xs i m

pub nonempty_end : (xs : List Range) (i : ℕ) → length xs ≤ i → nonempty (drop i xs) ≡ []
unfolding nonempty
nonempty_end xs i l = ap nonempty (drop_end xs i l)

pub rises_end : (low : ℕ) (xs : List Range) (i : ℕ) → length xs ≤ i → rises low (drop i xs) ≡ true
unfolding rises
rises_end low xs i l = ap (rises low) (drop_end xs i l)

pub between_all : (xs : List Range) → (ranges_fault [] xs ≡ None → ⊥) → Between xs 0 (length xs)
between_all [] h = absurd (h none_at_all)
between_all (x ∷ xs) h =
    let l : 0 < length (x ∷ xs) = omega arith in
    let w : length (x ∷ xs) ≤ length (x ∷ xs) = omega arith in
    record { order = l; within = w; clear = none_at_all; fault = λ e. h (sym (ap (ranges_fault []) (take-length (x ∷ xs))) ∙ e) }
