-- A jump has one table.
use Rattle.std.proofs.Common.{◌≡◌, ℕ, ◌<◌, ◌≤◌, List, length, sym, ◌∙◌, subst, arith, inl, inr}
use Rattle.std.specs.Prelude.{◌⊎◌}
use Rattle.std.specs.Ordering.{nat_cmp}
use Rattle.std.specs.Cmp.{nat_cmp_total}
use Rattle.std.proofs.lemmas.Bool.{cases_lt}
use Rattle.worklist.proofs.Alike.{one_ascending}
use Rattle.rtl_core.specs.declared.inst.GroundInst.{GroundInst}
use Rattle.points.specs.declared.block.Standing.TheVariants.{Stands}
use Rattle.points.specs.Machine.{Setting}
use Rattle.points.specs.PartialRuns.{PartialEnd}
use Rattle.points.specs.Tables.{Trial, IsBefore, shorter, nearer, lower, IsFirst, IsBoundedBy, IsBoundedFor, IsOpenFor, EndsAt, AreTargets, end_for, IsTableOf, bounded, open_ended, none, IsTable}
use Rattle.jumptables.proofs.Walks.{one-chain}

equal : (a b : ℕ) → (a < b → ⊥) → (b < a → ⊥) → a ≡ b
equal a b f g = by (cases_lt a b) (cases_lt b a)
  where
    by : (a < b) ⊎ (b ≤ a) → (b < a) ⊎ (a ≤ b) → a ≡ b
    by (inl x) y = absurd (f x)
    by (inr x) (inl y) = absurd (g y)
    by (inr x) (inr y) = omega arith

one-bound : (f : ℕ → PartialEnd) (m n : ℕ) → IsBoundedBy f m → IsBoundedBy f n → m ≡ n
one-bound f m n a b = equal m n (λ h. b.least.least m h a.least.has) (λ h. a.least.least n h b.least.has)

one-list : (f : ℕ → PartialEnd) (n : ℕ) (xs ys : List ℕ) → AreTargets f n xs → AreTargets f n ys → xs ≡ ys
one-list f n xs ys a b = one_ascending nat_cmp nat_cmp_total xs ys a.rises b.rises (record {
  there = λ x c. let r = a.sound x c in b.whole r.0 x r.1 r.2;
  back = λ x c. let r = b.sound x c in a.whole r.0 x r.1 r.2;
})

module _ (s : Setting) (at : ℕ) where
  one-first : (P : Trial → Type 0) (t u : Trial) → IsFirst s at P t → IsFirst s at P u → t ≡ u
  one-first P t u a b =
      let no : IsBefore t u → ⊥ = b.first t a.trial a.has in
      let nor : IsBefore u t → ⊥ = a.first u b.trial b.has in
      let n = equal (length t.before) (length u.before) (λ h. no (shorter h)) (λ h. nor (shorter h)) in
      let st = equal t.start u.start (λ h. nor (nearer (sym n) h)) (λ h. no (nearer n h)) in
      let c = equal t.cell u.cell (λ h. no (lower n st h)) (λ h. nor (lower (sym n) (sym st) h)) in
      let l = one-chain s at t.start u.start t.before u.before st a.trial.chain b.trial.chain in
      λ i. record { start = st i; before = l i; cell = c i }

  one-end : (f : ℕ → PartialEnd) (m n : ℕ) → EndsAt s.frozen f m → EndsAt s.frozen f n → m ≡ n
  one-end f m n a b = equal m n (λ h. a.ends (let q = b.most in omega arith) (b.gives m h)) (λ h. b.ends (let q = a.most in omega arith) (a.gives n h))

  module _ (jump : GroundInst) where
    abbrev f : Trial → ℕ → PartialEnd
    f t = end_for s jump t

    is-bounded : (t : Trial) (n : ℕ) → IsBoundedBy (f t) n → IsBoundedFor s jump t
    is-bounded t n b = record { bound = n; is = b }

    one-of : (xs ys : List ℕ) → IsTableOf s at jump xs → IsTableOf s at jump ys → xs ≡ ys
    one-of xs ys (bounded {t} {n = m} a b l) (bounded {t = u} {n = n} g c k) =
        let e = one-first (IsBoundedFor s jump) t u a g in
        let q = one-bound (f u) m n (subst (λ x. IsBoundedBy (f x) m) e b) c in
        one-list (f u) n xs ys (subst (λ j. AreTargets (f u) j xs) q (subst (λ x. AreTargets (f x) m xs) e l)) k
    one-of xs ys (bounded {t} {n = m} a b l) (open_ended never g c k) = absurd (never t a.trial (is-bounded t m b))
    one-of xs ys (bounded {t} {n = m} a b l) (none never nor e) = absurd (never t a.trial (is-bounded t m b))
    one-of xs ys (open_ended never a b l) (bounded {t = u} {n = n} g c k) = absurd (never u g.trial (is-bounded u n c))
    one-of xs ys (open_ended {t} {n = m} never a b l) (open_ended {t = u} {n = n} nor g c k) =
        let e = one-first (IsOpenFor s jump) t u a g in
        let q = one-end (f u) m n (subst (λ x. EndsAt s.frozen (f x) m) e b) c in
        one-list (f u) n xs ys (subst (λ j. AreTargets (f u) j xs) q (subst (λ x. AreTargets (f x) m xs) e l)) k
    one-of xs ys (open_ended {t} never a b l) (none nob nor e) = absurd (nor t a.trial a.has)
    one-of xs ys (none never nor e) (bounded {t = u} {n = n} g c k) = absurd (never u g.trial (is-bounded u n c))
    one-of xs ys (none never nor e) (open_ended {t = u} nob g c k) = absurd (nor u g.trial g.has)
    one-of xs ys (none never nor e) (none nob norb h) = e ∙ sym h

  pub one-table : (xs ys : List ℕ) → IsTable s at xs → IsTable s at ys → xs ≡ ys
  one-table xs ys a b =
      let e : Stands a.jump ≡ Stands b.jump = sym a.stands ∙ b.stands in
      let same : a.jump ≡ b.jump = cc in
      one-of b.jump xs ys (subst (λ i. IsTableOf s at i xs) same a.table) b.table
