-- Two systems in lockstep have the same runs.
use Rattle.std.proofs.Common.{◌≡◌, ◌≢◌, ℕ, zero, suc, ◌+◌, ◌*◌, ◌≤◌, List, inl, inr, refl, sym, ap, subst, le_refl, arith}
use Rattle.lockstep.specs.Runs.{Next, Goes, Ends, Fate, Stops, Sticks, after, View, Running, Stopped, Stuck, machine_view, target_view, HasOutput, IsSeenIn, Same}
use Rattle.lockstep.specs.Meets.{Meets, met, more, next_out, Matches, IsOnTheWay, InLockstep, credit_left, InLockstepOnCredit}
use Rattle.lockstep.proofs.Stretches.{come}

module _ (A C S : Type 0) (mstep : A → Next A S) (cstep : C → Next C (Fate S)) (mout : A → List ℕ) (cout : C → List ℕ) (R : A → C → Type 0) where
  -- what the machine shows n steps after x, and the target k steps after z
  abbrev machine_at : ℕ → Next A S → View S
  machine_at n x = machine_view mout (after mstep n x)

  abbrev target_at : ℕ → Next C (Fate S) → View S
  target_at k z = target_view cout (after cstep k z)

  abbrev OnTheWay : A → C → Type 0
  OnTheWay a c = IsOnTheWay mstep mout cout a c

  -- what the target shows k steps after z, the machine shows at most m steps after x
  abbrev IsSeenWithin : ℕ → ℕ → Next A S → Next C (Fate S) → Type 0
  IsSeenWithin m k x z = (n : ℕ) × (n ≤ m) × IsSeenIn (target_at k z) (machine_at n x)

  module _ (credit : A → ℕ) (b bound : ℕ) (below : suc b ≤ bound) (a0 : A) (c0 : C) (h : InLockstepOnCredit mstep cstep mout cout R credit b a0 c0) where
    -- matching places look alike
    alike : (x : Next A S) (z : Next C (Fate S)) → Matches R x z → target_view cout z ≡ machine_view mout x
    alike (Goes a) (Goes c) r = ap Running (h.same_out a c r)
    alike (Goes a) (Ends p e) r = absurd r
    alike (Ends o s) (Goes c) r = absurd r
    alike (Ends o s) (Ends p (Stops t)) r = let e : p ≡ o = r.0 in let f : t ≡ s = r.1 in cc
    alike (Ends o s) (Ends p (Sticks item)) r = absurd r

    -- from matching places the target comes to match each later place of the machine, within the bound and the credit that is there
    match_later : (n : ℕ) (x : Next A S) (z : Next C (Fate S)) → Matches R x z → (k : ℕ) × (k ≤ bound * n + credit_left credit x) × Matches R (after mstep n x) (after cstep k z)
    match_later zero x z r = (0, omega arith, r)
    match_later (suc n) (Goes a) (Goes c) r =
        let s = h.step a c r in
        let m = come cstep (OnTheWay a) (Matches R (mstep a)) s.runs in
        let f = match_later n (mstep a) m.to m.holds in
        (suc (m.count + f.0), omega (arith, m.within, s.paid, below, f.1), subst (Matches R (after mstep n (mstep a))) (sym (m.goes_on f.0)) f.2)
    match_later (suc n) (Goes a) (Ends p e) r = absurd r
    match_later (suc n) (Ends o s) (Goes c) r = absurd r
    match_later (suc n) (Ends o s) (Ends p (Stops t)) r = (0, omega arith, r)
    match_later (suc n) (Ends o s) (Ends p (Sticks item)) r = absurd r

    -- the target comes to match each place of the machine's run, within the bound
    pub matches_each : (n : ℕ) → (k : ℕ) × (k ≤ bound * (n + 1)) × Matches R (after mstep n (Goes a0)) (after cstep k (Goes c0))
    matches_each n =
        let m = come cstep (λ c. cout c ≡ mout a0) (Matches R (Goes a0)) h.start in
        let f = match_later n (Goes a0) m.to m.holds in
        (m.count + f.0, omega (arith, m.within, f.1, below, h.none_at_start), subst (Matches R (after mstep n (Goes a0))) (sym (m.goes_on f.0)) f.2)

    -- what the target shows at a matching place, the machine shows
    seen : (x : Next A S) (z : Next C (Fate S)) → Matches R x z → IsSeenIn (target_view cout z) (machine_view mout x)
    seen (Goes a) (Goes c) r = sym (h.same_out a c r)
    seen (Goes a) (Ends p e) r = absurd r
    seen (Ends o s) (Goes c) r = absurd r
    seen (Ends o s) (Ends p (Stops t)) r = let e : p ≡ o = r.0 in let f : t ≡ s = r.1 in cc
    seen (Ends o s) (Ends p (Sticks item)) r = absurd r

    -- k steps after a place on the way of the machine's step from a, and k steps after matching places
    abbrev Between : ℕ → Type 0
    Between k = (a : A) (m : ℕ) (z : Next C (Fate S)) → Meets cstep (OnTheWay a) (Matches R (mstep a)) m z → IsSeenWithin (k + 1) k (Goes a) z

    abbrev Matched : ℕ → Type 0
    Matched k = (x : Next A S) (z : Next C (Fate S)) → Matches R x z → IsSeenWithin k k x z

    matched_zero : Matched zero
    matched_zero x z r = (0, omega arith, seen x z r)

    matched_suc : (k : ℕ) → Between k → Matched (suc k)
    matched_suc k on (Goes a) (Goes c) r = let s = h.step a c r in let g = on a s.taken (cstep c) s.runs in (g.0, omega (arith, g.1), g.2)
    matched_suc k on (Goes a) (Ends p e) r = absurd r
    matched_suc k on (Ends o s) (Goes c) r = absurd r
    matched_suc k on (Ends o s) (Ends p (Stops t)) r = (0, omega arith, seen (Ends o s) (Ends p (Stops t)) r)
    matched_suc k on (Ends o s) (Ends p (Sticks item)) r = absurd r

    -- an output on the way is the machine's before the step or after it
    output_after : (x : Next A S) (out : List ℕ) → out ≡ next_out mout x → HasOutput (machine_view mout x) out
    output_after (Goes a) out e = sym e
    output_after (Ends o s) out e = sym e

    seen_on_the_way : (a : A) (c : C) → OnTheWay a c → IsSeenWithin 1 0 (Goes a) (Goes c)
    seen_on_the_way a c (inl e) = (0, omega arith, sym e)
    seen_on_the_way a c (inr e) = (1, omega arith, output_after (mstep a) (cout c) e)

    between : (k : ℕ) → Between k
    between zero a m z (met q) = let g = matched_zero (mstep a) z q in (suc g.0, omega (arith, g.1), g.2)
    between zero a m z (more {a = c} le p rest) = seen_on_the_way a c p
    between (suc k) a m z (met q) = let g = matched_suc k (between k) (mstep a) z q in (suc g.0, omega (arith, g.1), g.2)
    between (suc k) a m z (more {a = c} le p rest) = let g = between k a _ (cstep c) rest in (g.0, omega (arith, g.1), g.2)

    matched : (k : ℕ) → Matched k
    matched zero = matched_zero
    matched (suc k) = matched_suc k (between k)

    -- the same from a place before the target has reached the machine's start
    before : (k m : ℕ) (z : Next C (Fate S)) → Meets cstep (λ c. cout c ≡ mout a0) (Matches R (Goes a0)) m z → IsSeenWithin k k (Goes a0) z
    before k m z (met q) = matched k (Goes a0) z q
    before zero m z (more {a = c} le p rest) = (0, omega arith, sym p)
    before (suc k) m z (more {a = c} le p rest) = let g = before k _ (cstep c) rest in (g.0, omega (arith, g.1), g.2)

    -- what is seen is not stuck
    seen_not_stuck : (v w : View S) → IsSeenIn v w → v ≢ Stuck
    seen_not_stuck (Running o) w i = λ e. cc
    seen_not_stuck (Stopped o s) w i = λ e. cc
    seen_not_stuck Stuck w i = absurd i

    -- the runs from a0 and from c0 are the same, for every bound above b
    pub runs_on_credit : Same bound (λ n. machine_view mout (after mstep n (Goes a0))) (λ k. target_view cout (after cstep k (Goes c0)))
    runs_on_credit = record {
      follows = λ n. let f = matches_each n in (f.0, f.1, alike (after mstep n (Goes a0)) (after cstep f.0 (Goes c0)) f.2);
      only = λ k. let g = before k (suc b) (Goes c0) h.start in (g.0, omega (arith, g.1), g.2);
      never_stuck = λ k. let g = before k (suc b) (Goes c0) h.start in seen_not_stuck _ _ g.2;
    }

  -- lockstep without credit, where each step of the machine is at most b + 1 of the target
  pub lockstep_runs : (b bound : ℕ) → suc b ≤ bound → (a0 : A) (c0 : C) → InLockstep mstep cstep mout cout R b a0 c0 → Same bound (λ n. machine_view mout (after mstep n (Goes a0))) (λ k. target_view cout (after cstep k (Goes c0)))
  lockstep_runs b bound below a0 c0 h = runs_on_credit (λ a. 0) b bound below a0 c0 (record {
    same_out = h.same_out;
    start = h.start;
    none_at_start = refl;
    step = λ a c r. record { taken = b; paid = no_credit (mstep a); runs = h.step a c r };
  })
    where
      no_credit : (x : Next A S) → b + credit_left (λ a. 0) x ≤ b + 0
      no_credit (Goes a) = le_refl (b + 0)
      no_credit (Ends o s) = le_refl (b + 0)
