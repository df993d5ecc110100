-- The places of pages.
use Rattle.std.proofs.Common.{◌≡◌, ℕ, zero, suc, ◌+◌, ◌-◌, ◌/◌, ◌%◌, ◌^◌, ◌≤◌, ◌<◌, true, false, List, [], ◌∷◌, length, get_or, refl, sym, ap, subst, ◌∙◌, arith, inl, inr}
use Rattle.std.specs.Prelude.{Some, None}
use Rattle.std.proofs.lemmas.Bool.{leb-true, ltb-true, lt-leb, le-leb, le-ltb, lt-ltb, and_parts, and_from, and_left, and_right, cond-true, cond-false, cases_Bool, eqb-true}
use Rattle.std.proofs.lemmas.Option.{same_Some}
use Rattle.paged_space.specs.declared.extent.Extent.{Extent}
use Rattle.paged_space.specs.Lookup.{IsPassed}
use Rattle.paged_space.specs.PageTable.{extent_end, extent_holds, page_at, pages_of, place_at, is_laid}

pub not_below : (e : Extent) (a : ℕ) → a < e.base → extent_holds e a ≡ false
not_below e a h = and_left _ _ (lt-leb _ _ h)

pub not_above : (e : Extent) (a : ℕ) → extent_end e ≤ a → extent_holds e a ≡ false
not_above e a h = and_right _ _ (le-ltb _ _ h)

pub held_from : (e : Extent) (a : ℕ) → e.base ≤ a → a < extent_end e → extent_holds e a ≡ true
held_from e a l h = and_from _ _ (le-leb _ _ l) (lt-ltb _ _ h)

pub held_range : (e : Extent) (a : ℕ) → extent_holds e a ≡ true → (e.base ≤ a) × (a < extent_end e)
held_range e a h = let p = and_parts _ _ h in (leb-true _ _ p.0, ltb-true _ _ p.1)

-- what the head of laid extents keeps
pub record Head (lo pos : ℕ) (e : Extent) (es : List Extent) (tot : ℕ) : Type 0 where
  pub low : lo ≤ e.base
  pub some : 0 < e.len
  pub end : extent_end e ≤ 2 ^ 32
  pub first : e.first ≡ pos
  pub rest : is_laid (extent_end e) (pos + pages_of e) es tot ≡ true

pub laid_head : (low at : ℕ) (e : Extent) (es : List Extent) (total : ℕ) → is_laid low at (e ∷ es) total ≡ true → Head low at e es total
unfolding is_laid
laid_head low at e es total o =
    let p = and_parts _ _ o in
    let q = and_parts _ _ p.0 in
    let r = and_parts _ _ q.0 in
    let s = and_parts _ _ q.1 in
    record { low = leb-true _ _ r.0; some = ltb-true _ _ r.1; end = leb-true _ _ s.0; first = eqb-true _ _ s.1; rest = p.1 }

pub skip : (e : Extent) (es : List Extent) (a : ℕ) → extent_holds e a ≡ false → place_at (e ∷ es) a ≡ place_at es a
unfolding place_at
skip e es a h = cond-false _ _ _ h

pub here : (e : Extent) (es : List Extent) (a : ℕ) → extent_holds e a ≡ true → place_at (e ∷ es) a ≡ Some (page_at e a)
unfolding place_at
here e es a h = cond-true _ _ _ h

pub below_none : (low at total : ℕ) (es : List Extent) (a : ℕ) → is_laid low at es total ≡ true → a < low → place_at es a ≡ None
unfolding place_at
below_none low at total [] a o h = refl
below_none low at total (e ∷ es) a o h =
    let k = laid_head low at e es total o in
    let l = k.low in
    let b : a < e.base = omega (arith, l, h) in
    let c : a < extent_end e = omega (arith, b) in
    skip e es a (not_below e a b) ∙ below_none (extent_end e) (at + pages_of e) total es a k.rest c

-- the first n extents end at or below the address
abbrev pub Below : List Extent → ℕ → ℕ → Type 0
Below es a n = (k : ℕ) (d : Extent) → k < n → extent_end (get_or es k d) ≤ a

pub place_behind : (es : List Extent) (a : ℕ) → Below es a (length es) → place_at es a ≡ None
unfolding place_at
place_behind [] a h = refl
place_behind (e ∷ es) a h =
    let z : 0 < length (e ∷ es) = omega arith in
    skip e es a (not_above e a (h 0 e z)) ∙ place_behind es a (λ k d l. let m : suc k < length (e ∷ es) = omega (arith, l) in h (suc k) d m)

pub place_between : (low at total : ℕ) (es : List Extent) (a n : ℕ) (d : Extent) → is_laid low at es total ≡ true → Below es a n → n < length es → a < (get_or es n d).base → place_at es a ≡ None
place_between low at total [] a n d o h l b = absurd (omega (arith, l))
place_between low at total (e ∷ es) a zero d o h l b =
    let k = laid_head low at e es total o in
    let c : a < extent_end e = omega (arith, b) in
    skip e es a (not_below e a b) ∙ below_none (extent_end e) (at + pages_of e) total es a k.rest c
place_between low at total (e ∷ es) a (suc n) d o h l b =
    let z : 0 < suc n = omega arith in
    let m : n < length es = omega (arith, l) in
    skip e es a (not_above e a (h 0 e z)) ∙ place_between (extent_end e) (at + pages_of e) total es a n d (laid_head low at e es total o).rest (λ k x q. let y : suc k < suc n = omega (arith, q) in h (suc k) x y) m b

pub place_here : (es : List Extent) (a n : ℕ) (d : Extent) → Below es a n → n < length es → (get_or es n d).base ≤ a → a < extent_end (get_or es n d) → place_at es a ≡ Some (page_at (get_or es n d) a)
place_here [] a n d h l b c = absurd (omega (arith, l))
place_here (e ∷ es) a zero d h l b c = here e es a (held_from e a b c)
place_here (e ∷ es) a (suc n) d h l b c =
    let z : 0 < suc n = omega arith in
    let m : n < length es = omega (arith, l) in
    skip e es a (not_above e a (h 0 e z)) ∙ place_here es a n d (λ k x q. let y : suc k < suc n = omega (arith, q) in h (suc k) x y) m b c

-- where the first page of a list of extents stands, and where its last ends
pub laid_total : (low at total : ℕ) (es : List Extent) → is_laid low at es total ≡ true → at ≤ total
unfolding is_laid
laid_total low at total [] o = let e = eqb-true at total o in omega (arith, e)
laid_total low at total (e ∷ es) o = let r = laid_total (extent_end e) (at + pages_of e) total es (laid_head low at e es total o).rest in omega (arith, r)

page_bounds : (e : Extent) (a at : ℕ) → e.first ≡ at → e.base ≤ a → a < extent_end e → (at ≤ page_at e a) × (page_at e a < at + pages_of e)
page_bounds e a at f l h = (omega (arith, f), omega (arith, f, l, h))

pub place_within : (low at total : ℕ) (es : List Extent) (a k : ℕ) → is_laid low at es total ≡ true → place_at es a ≡ Some k → (at ≤ k) × (k < total)
unfolding place_at
place_within low at total [] a k o p = cc
place_within low at total (e ∷ es) a k o p =
    let q = laid_head low at e es total o in
    let t = laid_total (extent_end e) (at + pages_of e) total es q.rest in
    elim (cases_Bool (extent_holds e a)) [
      | inl h ↦
          let r = held_range e a h in
          let s : page_at e a ≡ k = same_Some (page_at e a) k (sym (here e es a h) ∙ p) in
          let b = page_bounds e a at q.first r.0 r.1 in
          let b0 = b.0 in
          let b1 = b.1 in
          (omega (arith, s, b0), omega (arith, s, b1, t))
      | inr h ↦
          let r = place_within (extent_end e) (at + pages_of e) total es a k q.rest (sym (skip e es a h) ∙ p) in
          let r0 = r.0 in
          (omega (arith, r0), r.1)
    ]

-- two addresses on one page of a space lie on one page of memory
pub place_once : (low at total : ℕ) (es : List Extent) (a b k : ℕ) → is_laid low at es total ≡ true → place_at es a ≡ Some k → place_at es b ≡ Some k → a / 4096 ≡ b / 4096
unfolding place_at
place_once low at total [] a b k o p q = cc
place_once low at total (e ∷ es) a b k o p q =
    let y = laid_head low at e es total o in
    let f = y.first in
    elim (cases_Bool (extent_holds e a)) [
      | inl h ↦
          let r = held_range e a h in
          let r0 = r.0 in
          let s : page_at e a ≡ k = same_Some (page_at e a) k (sym (here e es a h) ∙ p) in
          elim (cases_Bool (extent_holds e b)) [
            | inl g ↦
                let t = held_range e b g in
                let t0 = t.0 in
                let u : page_at e b ≡ k = same_Some (page_at e b) k (sym (here e es b g) ∙ q) in
                omega (arith, s, u, r0, t0)
            | inr g ↦
                let w = (place_within (extent_end e) (at + pages_of e) total es b k y.rest (sym (skip e es b g) ∙ q)).0 in
                let x = (page_bounds e a at f r.0 r.1).1 in
                absurd (omega (arith, s, w, x))
          ]
      | inr h ↦
          elim (cases_Bool (extent_holds e b)) [
            | inl g ↦
                let t = held_range e b g in
                let u : page_at e b ≡ k = same_Some (page_at e b) k (sym (here e es b g) ∙ q) in
                let w = (place_within (extent_end e) (at + pages_of e) total es a k y.rest (sym (skip e es a h) ∙ p)).0 in
                let x = (page_bounds e b at f t.0 t.1).1 in
                absurd (omega (arith, u, w, x))
            | inr g ↦ place_once (extent_end e) (at + pages_of e) total es a b k y.rest (sym (skip e es a h) ∙ p) (sym (skip e es b g) ∙ q)
          ]
    ]

-- the ends rise
ends_above : (low at total : ℕ) (es : List Extent) (j : ℕ) (d : Extent) → is_laid low at es total ≡ true → j < length es → low ≤ extent_end (get_or es j d)
ends_above low at total [] j d o h = absurd (omega (arith, h))
ends_above low at total (e ∷ es) zero d o h = let l = (laid_head low at e es total o).low in omega (arith, l)
ends_above low at total (e ∷ es) (suc j) d o h =
    let q = laid_head low at e es total o in
    let l = q.low in
    let k : j < length es = omega (arith, h) in
    let m = ends_above (extent_end e) (at + pages_of e) total es j d q.rest k in
    omega (arith, l, m)

pub ends_rise : (low at total : ℕ) (es : List Extent) → is_laid low at es total ≡ true → (i j : ℕ) (d : Extent) → i ≤ j → j < length es → extent_end (get_or es i d) ≤ extent_end (get_or es j d)
ends_rise low at total [] o i j d l h = absurd (omega (arith, h))
ends_rise low at total (e ∷ es) o zero zero d l h = omega arith
ends_rise low at total (e ∷ es) o zero (suc j) d l h = let k : j < length es = omega (arith, h) in ends_above (extent_end e) (at + pages_of e) total es j d (laid_head low at e es total o).rest k
ends_rise low at total (e ∷ es) o (suc i) zero d l h = absurd (omega (arith, l))
ends_rise low at total (e ∷ es) o (suc i) (suc j) d l h =
    let k : j < length es = omega (arith, h) in
    let m : i ≤ j = omega (arith, l) in
    ends_rise (extent_end e) (at + pages_of e) total es (laid_head low at e es total o).rest i j d m k

-- bytes that lie in one extent and on one page
pub on_page : (es : List Extent) (a n k : ℕ) (d : Extent) → Below es a k → k < length es → (get_or es k d).base ≤ a → a + n ≤ extent_end (get_or es k d) → a % 4096 + n ≤ 4096 → (i : ℕ) → i < n → place_at es (a + i) ≡ Some (page_at (get_or es k d) a)
on_page es a n k d h l b c m i o =
    let lo : (get_or es k d).base ≤ a + i = omega (arith, b) in
    let hi : a + i < extent_end (get_or es k d) = omega (arith, c, o) in
    let q : (a + i) / 4096 ≡ a / 4096 = omega (arith, m, o) in
    place_here es (a + i) k d (λ j x g. let y = h j x g in omega (arith, y)) l lo hi
    ∙ ap (λ p. Some ((get_or es k d).first + (p - (get_or es k d).base / 4096))) q

bases_above : (low at total : ℕ) (es : List Extent) (j : ℕ) (d : Extent) → is_laid low at es total ≡ true → j < length es → low ≤ (get_or es j d).base
bases_above low at total [] j d o h = absurd (omega (arith, h))
bases_above low at total (e ∷ es) zero d o h = (laid_head low at e es total o).low
bases_above low at total (e ∷ es) (suc j) d o h =
    let q = laid_head low at e es total o in
    let l = q.low in
    let k : j < length es = omega (arith, h) in
    let m = bases_above (extent_end e) (at + pages_of e) total es j d q.rest k in
    omega (arith, l, m)

-- an extent begins at or above the end of each earlier one
ends_before : (low at total : ℕ) (es : List Extent) (i j : ℕ) (d c : Extent) → is_laid low at es total ≡ true → i < j → j < length es → extent_end (get_or es i d) ≤ (get_or es j c).base
ends_before low at total [] i j d c o l h = absurd (omega (arith, h))
ends_before low at total (e ∷ es) i zero d c o l h = absurd (omega (arith, l))
ends_before low at total (e ∷ es) zero (suc j) d c o l h = let k : j < length es = omega (arith, h) in bases_above (extent_end e) (at + pages_of e) total es j c (laid_head low at e es total o).rest k
ends_before low at total (e ∷ es) (suc i) (suc j) d c o l h =
    let k : j < length es = omega (arith, h) in
    let m : i < j = omega (arith, l) in
    ends_before (extent_end e) (at + pages_of e) total es i j d c (laid_head low at e es total o).rest m k

get_or_same : (es : List Extent) (n : ℕ) (d c : Extent) → n < length es → get_or es n d ≡ get_or es n c
get_or_same [] n d c h = absurd (omega (arith, h))
get_or_same (e ∷ es) zero d c h = refl
get_or_same (e ∷ es) (suc n) d c h = let k : n < length es = omega (arith, h) in get_or_same es n d c k

-- the extent in which an address lies is the first one that ends above it
pub laid_passed : (total : ℕ) (es : List Extent) (a n : ℕ) → is_laid 0 0 es total ≡ true → n < length es → extent_holds (get_or es n (record { base = 0; len = 0; first = 0 })) a ≡ true → IsPassed es a n
laid_passed total es a n o h t =
    let c : Extent = record { base = 0; len = 0; first = 0 } in
    let r = held_range (get_or es n c) a t in
    let r0 = r.0 in
    record {
      within = omega (arith, h);
      below = λ k d l. let e = ends_before 0 0 total es k n d c o l h in omega (arith, e, r0);
      above = λ d l. subst (λ (e : Extent). a < extent_end e) (get_or_same es n c d h) r.1;
    }
