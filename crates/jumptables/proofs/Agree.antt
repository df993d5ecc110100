-- Partial runs that agree on some cells: what is done alike in both keeps that.
use Rattle.std.proofs.Common.{◌≡◌, ◌≢◌, ℕ, zero, suc, ◌+◌, ◌<◌, ◌≤◌, ◌==◌, Bool, true, false, List, length, get_or, set, Option, None, Some, sym, ◌∙◌, subst, arith, inl, inr}
use Rattle.std.specs.Prelude.{◌⊎◌, if◌then◌else◌, IsTrue}
use Rattle.std.proofs.lemmas.List.{get_or-set_same, get_or-set_other, length-set, get_or_past}
use Rattle.std.proofs.lemmas.Bool.{cases_eq, cases_lt}
use Rattle.rtl_core.specs.declared.conv.ServiceShape.{ServiceShape}
use Rattle.rtl_core.specs.declared.machine.WinShape.{WinShape}
use Rattle.rtl_core.specs.Transfers.{put_cell}
use Rattle.points.specs.Machine.{Setting}
use Rattle.points.specs.PartialRuns.{PartialState, put_flag, forgets, puts, forgets_from, forgets_windows, forgets_flag, forgets_answer}

-- two lists that agree at the places that have P
pub record AgreeOn {A : Type 0} (P : ℕ → Type 0) (d : A) (xs ys : List A) : Type 0 where
  pub count : length xs ≡ length ys
  pub on : (k : ℕ) → P k → get_or xs k d ≡ get_or ys k d

module _ {A : Type 0} (P : ℕ → Type 0) (d : A) where
  pub set-agrees : (xs ys : List A) (k : ℕ) (v : A) → AgreeOn P d xs ys → AgreeOn P d (set xs k v) (set ys k v)
  set-agrees xs ys k v h = record { count = length-set xs k v ∙ h.count ∙ sym (length-set ys k v); on = λ j p. by j p (cases_eq j k) (cases_lt k (length xs)) }
    where
      by : (j : ℕ) → P j → (j ≡ k) ⊎ (j ≢ k) → (k < length xs) ⊎ (length xs ≤ k) → get_or (set xs k v) j d ≡ get_or (set ys k v) j d
      by j p (inr off) l = get_or-set_other xs k j v d off ∙ h.on j p ∙ sym (get_or-set_other ys k j v d off)
      by j p (inl at) (inl lt) = let same = h.count in subst (λ i. get_or (set xs k v) i d ≡ get_or (set ys k v) i d) (sym at) (get_or-set_same xs k v d lt ∙ sym (get_or-set_same ys k v d (omega (arith, same, lt))))
      by j p (inl at) (inr le) = let same = h.count in get_or_past (set xs k v) j d (omega (arith, at, le, length-set xs k v)) ∙ sym (get_or_past (set ys k v) j d (omega (arith, at, le, same, length-set ys k v)))

  pub either-agrees : (b : Bool) (xs ys us vs : List A) → AgreeOn P d xs ys → AgreeOn P d us vs → AgreeOn P d (if b then xs else us) (if b then ys else vs)
  either-agrees true xs ys us vs h g = h
  either-agrees false xs ys us vs h g = g

-- a list that changed at one place
module _ {A : Type 0} (c : ℕ) (d : A) where
  pub changed-at : (xs : List A) (v : A) → AgreeOn (λ k. k ≢ c) d (set xs c v) xs
  changed-at xs v = record { count = length-set xs c v; on = λ k off. get_or-set_other xs c k v d off }

-- two runs that agree on the cells that have P, and on control; where that is asked also on what they come to
pub record Agree (P : ℕ → Type 0) (all : Bool) (k u : PartialState) : Type 0 where
  pub values : AgreeOn P 0 k.values u.values
  pub known : AgreeOn P false k.known u.known
  pub taken : k.taken ≡ u.taken
  pub passes : k.passes ≡ u.passes
  pub untaken : IsTrue all → k.untaken ≡ u.untaken
  pub target : IsTrue all → k.target ≡ u.target

module _ (P : ℕ → Type 0) (all : Bool) (s : Setting) where
  flag-agrees : (z : Option ℕ) (j : ℕ) (b : Bool) (xs ys : List Bool) → AgreeOn P false xs ys → AgreeOn P false (put_flag z j b xs) (put_flag z j b ys)
  flag-agrees None j b xs ys h = set-agrees P false xs ys j b h
  flag-agrees (Some z) j b xs ys h = either-agrees P false (j == z) xs ys (set xs j b) (set ys j b) h (set-agrees P false xs ys j b h)

  cell-agrees : (z : Option ℕ) (j v : ℕ) (xs ys : List ℕ) → AgreeOn P 0 xs ys → AgreeOn P 0 (put_cell z j v xs) (put_cell z j v ys)
  cell-agrees None j v xs ys h = set-agrees P 0 xs ys j v h
  cell-agrees (Some z) j v xs ys h = either-agrees P 0 (j == z) xs ys (set xs j v) (set ys j v) h (set-agrees P 0 xs ys j v h)

  pub forgets-agrees : (j : ℕ) (k u : PartialState) → Agree P all k u → Agree P all (forgets s j k) (forgets s j u)
  forgets-agrees j k u a = record { values = a.values; known = flag-agrees s.machine.zero j false k.known u.known a.known; taken = a.taken; untaken = a.untaken; passes = a.passes; target = a.target }

  pub puts-agrees : (j : ℕ) (o : Option ℕ) (k u : PartialState) → Agree P all k u → Agree P all (puts s j o k) (puts s j o u)
  puts-agrees j None k u a = forgets-agrees j k u a
  puts-agrees j (Some v) k u a = record {
    values = cell-agrees s.machine.zero j v k.values u.values a.values;
    known = flag-agrees s.machine.zero j true k.known u.known a.known;
    taken = a.taken;
    untaken = a.untaken;
    passes = a.passes;
    target = a.target;
  }

  from-agrees : (first n : ℕ) (k u : PartialState) → Agree P all k u → Agree P all (forgets_from s first n k) (forgets_from s first n u)
  from-agrees first zero k u a = a
  from-agrees first (suc n) k u a = from-agrees (first + 1) n (forgets s first k) (forgets s first u) (forgets-agrees first k u a)

  pub windows-agree : (w : Option WinShape) (k u : PartialState) → Agree P all k u → Agree P all (forgets_windows s w k) (forgets_windows s w u)
  windows-agree None k u a = a
  windows-agree (Some w) k u a = from-agrees w.in_first w.count _ _ (from-agrees w.local_first w.count _ _ (from-agrees w.out_first w.count k u a))

  error-agrees : (o : Option ℕ) (k u : PartialState) → Agree P all k u → Agree P all (forgets_flag s o k) (forgets_flag s o u)
  error-agrees None k u a = a
  error-agrees (Some j) k u a = forgets-agrees j k u a

  pub answer-agrees : (o : Option ServiceShape) (k u : PartialState) → Agree P all k u → Agree P all (forgets_answer s o k) (forgets_answer s o u)
  answer-agrees None k u a = a
  answer-agrees (Some shape) k u a = error-agrees shape.error _ _ (forgets-agrees shape.result k u a)

  pub same-put : (j : ℕ) (o r : Option ℕ) (k u : PartialState) → o ≡ r → Agree P all k u → Agree P all (puts s j o k) (puts s j r u)
  same-put j o r k u e a = subst (λ x. Agree P all (puts s j o k) (puts s j x u)) e (puts-agrees j o k u a)
