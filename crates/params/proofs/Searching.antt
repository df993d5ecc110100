-- What a search has found, and what is left of it.
use Rattle.std.proofs.Common.{◌≡◌, ◌≢◌, ℕ, ◌+◌, ◌<◌, ◌≤◌, Bool, true, false, true≢false, List, [], ◌∷◌, ◌++◌, length, get_or, set, take, refl, sym, ◌∙◌, ap, subst, arith, inl, inr, zero, suc, length-append, get_or-set_other, get_or-set_same, cond}
use Rattle.std.specs.Prelude.{◌⊎◌, ◌==◌, not, count_by, replicate}
use Rattle.std.specs.List.{Contains}
use Rattle.std.proofs.lemmas.List.Elements.{Contains-append_left, Contains-append_right, Contains-append_cases}
use Rattle.std.proofs.lemmas.List.Sums.{sum_by-set}
use Rattle.std.proofs.lemmas.List.{take_more}
use Rattle.params.specs.Leading.{row, Leads, start, on, mark, AreUsers, IsPut, IsOnTheWay}
use Rattle.params.proofs.Members.{none-in, only-in, first-in}

marked-within : (marks : List Bool) (k : ℕ) → mark marks k ≡ true → k < length marks
marked-within [] k h = absurd (true≢false (sym h))
marked-within (x ∷ xs) zero h = omega arith
marked-within (x ∷ xs) (suc k) h = let z = marked-within xs k h in omega (arith, z)

row-within : (rows : List (List ℕ)) (k q : ℕ) → Contains (row rows k) q → k < length rows
row-within [] k q h = none-in q h
row-within (x ∷ xs) zero q h = omega arith
row-within (x ∷ xs) (suc k) q h = let z = row-within xs k q h in omega (arith, z)

-- ---- one place

count-set : (marks : List Bool) (k : ℕ) → k < length marks → mark marks k ≡ false → count_by not (set marks k true) + 1 ≡ count_by not marks
count-set marks k lt h =
    let z : ◌≡◌ {A = ℕ} (count_by not (set marks k true) + cond (not (mark marks k)) 1 0) (count_by not marks + 0) = sum_by-set (λ x. cond (not x) 1 0) marks k true false lt in
    let e : ◌≡◌ {A = ℕ} (cond (not (mark marks k)) 1 0) 1 = ap (λ b. cond (not b) 1 0) h in
    omega (arith, z, e)

length-set : (marks : List Bool) (k : ℕ) (b : Bool) → length (set marks k b) ≡ length marks
length-set [] k b = refl
length-set (x ∷ xs) zero b = refl
length-set (x ∷ xs) (suc k) b = let z = length-set xs k b in omega (arith, z)

same-or : (j k : ℕ) → (j ≡ k) ⊎ (j ≢ k)
same-or j k = grind arith

module _ (marks : List Bool) (waiting : List ℕ) (p : ℕ) where
  pub put-none : (length marks ≤ p) ⊎ (mark marks p ≡ true) → IsPut (p ∷ []) marks marks waiting waiting
  put-none h = record {
    count = refl;
    keeps = λ k m. m;
    from = λ k m. inl m;
    all = λ k c lt. elim h [ inl le ↦ absurd (let e = only-in p k c in omega (arith, le, lt, e)) | inr m ↦ subst (λ j. mark marks j ≡ true) (only-in p k c) m ];
    waits = λ k c. c;
    newly = λ k m. inl m;
    marked = λ k c. inl c;
    fewer = omega arith;
  }

  pub put-new : p < length marks → mark marks p ≡ false → IsPut (p ∷ []) marks (set marks p true) waiting (waiting ++ p ∷ [])
  put-new lt h = record {
    count = length-set marks p true;
    keeps = λ k m. other k m (same-or k p);
    from = λ k m. was k m (same-or k p);
    all = λ k c l. subst (λ j. mark (set marks p true) j ≡ true) (only-in p k c) now;
    waits = λ k c. Contains-append_left waiting (p ∷ []) k c;
    newly = λ k m. new k m (same-or k p);
    marked = λ k c. waits k (Contains-append_cases waiting (p ∷ []) k c);
    fewer = let z = count-set marks p lt h in let l = length-append waiting (p ∷ []) in omega (arith, z, l);
  }
    where
      now : mark (set marks p true) p ≡ true
      now = get_or-set_same marks p true false lt

      other : (k : ℕ) → mark marks k ≡ true → (k ≡ p) ⊎ (k ≢ p) → mark (set marks p true) k ≡ true
      other k m (inl e) = subst (λ j. mark (set marks p true) j ≡ true) (sym e) now
      other k m (inr ne) = get_or-set_other marks p k true false ne ∙ m

      was : (k : ℕ) → mark (set marks p true) k ≡ true → (k ≡ p) ⊎ (k ≢ p) → (mark marks k ≡ true) ⊎ Contains (p ∷ []) k
      was k m (inl e) = inr (subst (Contains (p ∷ [])) (sym e) (first-in p []))
      was k m (inr ne) = inl (sym (get_or-set_other marks p k true false ne) ∙ m)

      new : (k : ℕ) → mark (set marks p true) k ≡ true → (k ≡ p) ⊎ (k ≢ p) → (mark marks k ≡ true) ⊎ Contains (waiting ++ p ∷ []) k
      new k m (inl e) = inr (subst (Contains (waiting ++ p ∷ [])) (sym e) (Contains-append_right waiting (p ∷ []) p (first-in p [])))
      new k m (inr ne) = inl (sym (get_or-set_other marks p k true false ne) ∙ m)

      waits : (k : ℕ) → Contains waiting k ⊎ Contains (p ∷ []) k → Contains waiting k ⊎ (mark (set marks p true) k ≡ true)
      waits k (inl c) = inl c
      waits k (inr c) = inr (subst (λ j. mark (set marks p true) j ≡ true) (only-in p k c) now)

-- ---- many places

pub put-nothing : (marks : List Bool) (waiting : List ℕ) → IsPut [] marks marks waiting waiting
put-nothing marks waiting = record {
  count = refl;
  keeps = λ k m. m;
  from = λ k m. inl m;
  all = λ k c lt. none-in k c;
  waits = λ k c. c;
  newly = λ k m. inl m;
  marked = λ k c. inl c;
  fewer = omega arith;
}

pub put-more : (xs ys : List ℕ) (a b c : List Bool) (u v w : List ℕ) → IsPut xs a b u v → IsPut ys b c v w → IsPut (xs ++ ys) a c u w
put-more xs ys a b c u v w f g = record {
  count = g.count ∙ f.count;
  keeps = λ k m. g.keeps k (f.keeps k m);
  from = λ k m. elim (g.from k m) [ inl n ↦ elim (f.from k n) [ inl o ↦ inl o | inr i ↦ inr (Contains-append_left xs ys k i) ] | inr i ↦ inr (Contains-append_right xs ys k i) ];
  all = λ k i lt. elim (Contains-append_cases xs ys k i) [ inl x ↦ g.keeps k (f.all k x lt) | inr y ↦ g.all k y (let e = f.count in omega (arith, lt, e)) ];
  waits = λ k i. g.waits k (f.waits k i);
  newly = λ k m. elim (g.newly k m) [ inl n ↦ elim (f.newly k n) [ inl o ↦ inl o | inr i ↦ inr (g.waits k i) ] | inr i ↦ inr i ];
  marked = λ k i. elim (g.marked k i) [ inl j ↦ elim (f.marked k j) [ inl o ↦ inl o | inr m ↦ inr (g.keeps k m) ] | inr m ↦ inr m ];
  fewer = let x = f.fewer in let y = g.fewer in omega (arith, x, y);
}

-- the item of a loop is one more
pub put-next : (xs : List ℕ) (at x : ℕ) (a b c : List Bool) (u v w : List ℕ) → at < length xs → get_or xs at 0 ≡ x → IsPut (take at xs) a b u v → IsPut (x ∷ []) b c v w → IsPut (take (at + 1) xs) a c u w
put-next xs at x a b c u v w lt is f g = subst (λ l. IsPut l a c u w) (sym (take_more xs at 0 lt ∙ ap (λ y. take at xs ++ y ∷ []) is)) (put-more (take at xs) (x ∷ []) a b c u v w f g)

-- ---- the whole

module _ (rows : List (List ℕ)) (starts : List ℕ) where
  -- one that waited has its row found
  pub gone-on : (marks new : List Bool) (waiting rest later : List ℕ) (p : ℕ) → waiting ≡ rest ++ p ∷ [] → IsOnTheWay rows starts marks waiting → IsPut (row rows p) marks new rest later → IsOnTheWay rows starts new later
  gone-on marks new waiting rest later p e o f = record {
    count = f.count ∙ o.count;
    sound = λ k m. elim (f.from k m) [ inl n ↦ o.sound k n | inr i ↦ on (o.sound p here) i ];
    waits = λ k i. elim (f.marked k i) [ inl j ↦ f.keeps k (o.waits k (subst (λ l. Contains l k) (sym e) (Contains-append_left rest (p ∷ []) k j))) | inr m ↦ m ];
    begun = λ k i lt. f.keeps k (o.begun k i lt);
    done = λ k q m i lt. elim (f.newly k m) [ inl n ↦ old k q i lt (o.done k q n i lt) | inr j ↦ inl j ];
  }
    where
      here : mark marks p ≡ true
      here = o.waits p (subst (λ l. Contains l p) (sym e) (Contains-append_right rest (p ∷ []) p (first-in p [])))

      left : (k q : ℕ) → Contains (row rows k) q → q < length rows → Contains rest k ⊎ Contains (p ∷ []) k → Contains later k ⊎ (mark new q ≡ true)
      left k q i lt (inl j) = inl (f.waits k j)
      left k q i lt (inr j) = inr (f.all q (subst (λ x. Contains (row rows x) q) (sym (only-in p k j)) i) (let z = o.count in omega (arith, lt, z)))

      old : (k q : ℕ) → Contains (row rows k) q → q < length rows → Contains waiting k ⊎ (mark marks q ≡ true) → Contains later k ⊎ (mark new q ≡ true)
      old k q i lt (inl j) = left k q i lt (Contains-append_cases rest (p ∷ []) k (subst (λ l. Contains l k) e j))
      old k q i lt (inr m) = inr (f.keeps q m)

  -- what waited has no row
  pub gone-nowhere : (marks : List Bool) (waiting rest : List ℕ) (p : ℕ) → waiting ≡ rest ++ p ∷ [] → length rows ≤ p → IsOnTheWay rows starts marks waiting → IsOnTheWay rows starts marks rest
  gone-nowhere marks waiting rest p e le o =
      let here = o.waits p (subst (λ l. Contains l p) (sym e) (Contains-append_right rest (p ∷ []) p (first-in p []))) in
      let within = marked-within marks p here in
      absurd (let c = o.count in omega (arith, within, le, c))

  found-all : (marks : List Bool) → IsOnTheWay rows starts marks [] → (k : ℕ) → k < length rows → Leads rows starts k → mark marks k ≡ true
  found-all marks o k lt (start i) = o.begun k i lt
  found-all marks o q lt (on {p = p} l i) = elim (o.done p q (found-all marks o p (row-within rows p q i) l) i lt) [ inl j ↦ none-in p j | inr m ↦ m ]

no-mark : (n k : ℕ) → mark (replicate n false) k ≡ false
no-mark zero k = refl
no-mark (suc n) zero = refl
no-mark (suc n) (suc k) = no-mark n k

length-none : (n : ℕ) → length (replicate n false) ≡ n
length-none zero = refl
length-none (suc n) = let z = length-none n in omega (arith, z)

module _ (rows : List (List ℕ)) (openers given : List ℕ) where
  -- those given and the openers are found first
  pub begun : (none first second : List Bool) (u v w : List ℕ) → none ≡ replicate (length rows) false → u ≡ [] → IsPut given none first u v → IsPut openers first second v w → IsOnTheWay rows (given ++ openers) second w
  begun none first second u v w e z f g = record {
    count = g.count ∙ f.count ∙ ap length e ∙ length-none (length rows);
    sound = λ k m. elim (g.from k m) [ inl n ↦ elim (f.from k n) [ inl o ↦ absurd (not-yet k o) | inr i ↦ start (Contains-append_left given openers k i) ] | inr i ↦ start (Contains-append_right given openers k i) ];
    waits = λ k i. elim (g.marked k i) [ inl j ↦ elim (f.marked k j) [ inl o ↦ none-in k (subst (λ l. Contains l k) z o) | inr m ↦ g.keeps k m ] | inr m ↦ m ];
    begun = λ k i lt. elim (Contains-append_cases given openers k i) [ inl a ↦ g.keeps k (f.all k a (first-lt k lt)) | inr b ↦ g.all k b (let c = f.count in let l = first-lt k lt in omega (arith, c, l)) ];
    done = λ k q m i lt. inl (elim (g.newly k m) [ inl n ↦ elim (f.newly k n) [ inl o ↦ absurd (not-yet k o) | inr j ↦ g.waits k j ] | inr j ↦ j ]);
  }
    where
      not-yet : (k : ℕ) → mark none k ≡ true → ⊥
      not-yet k o = true≢false (sym o ∙ ap (λ l. mark l k) e ∙ no-mark (length rows) k)

      first-lt : (k : ℕ) → k < length rows → k < length none
      first-lt k lt = let n = ap length e ∙ length-none (length rows) in omega (arith, lt, n)

  pub users-found : (marks : List Bool) (x : ℕ) (xs : List ℕ) → given ≡ x ∷ xs → IsOnTheWay rows (given ++ openers) marks [] → AreUsers rows openers given marks
  users-found marks x xs e o = record {
    exactly = λ k lt. (
      (λ m. record { some = x; is = subst (λ l. Contains l x) (sym e) (first-in x xs); led = o.sound k m }),
      (λ u. found-all rows (given ++ openers) marks o k lt u.led),
    );
  }

  pub no-users : (marks : List Bool) → given ≡ [] → marks ≡ replicate (length rows) false → AreUsers rows openers given marks
  no-users marks e z = record {
    exactly = λ k lt. (
      (λ m. absurd (true≢false (sym m ∙ ap (λ l. mark l k) z ∙ no-mark (length rows) k))),
      (λ u. none-in u.some (subst (λ l. Contains l u.some) e u.is)),
    );
  }

pub users-are : (rows : List (List ℕ)) (openers given : List ℕ) (marks : List Bool) → false ≡ (length given == 0) → IsOnTheWay rows (given ++ openers) marks [] → AreUsers rows openers given marks
users-are rows openers [] marks h o = absurd (true≢false (sym h))
users-are rows openers (x ∷ xs) marks h o = users-found rows openers (x ∷ xs) marks x xs refl o
