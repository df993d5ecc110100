-- Stretches of a run, and what has to be shown of two systems for their runs to be the same.
use Rattle.std.specs.Prelude.{◌≡◌, ℕ, suc, ◌+◌, ◌≤◌, List, ◌⊎◌}
use Rattle.lockstep.specs.Runs.{Next, Goes, Ends, Fate, Stops, Sticks}

-- within n steps from x the run comes to where Q holds, and P holds of each state before
pub data Meets {A E : Type 0} (step : A → Next A E) (P : A → Type 0) (Q : Next A E → Type 0) : ℕ → Next A E → Type 0 where
  met : {n : ℕ} {x : Next A E} → Q x → Meets step P Q n x
  more : {n m : ℕ} {a : A} → suc n ≤ m → P a → Meets step P Q n (step a) → Meets step P Q m (Goes a)

-- the output once a step is done
abbrev pub next_out : {A S : Type 0} → (A → List ℕ) → Next A S → List ℕ
next_out out (Goes a) = out a
next_out out (Ends o s) = o

-- two states that R relates, or one stop with one output on both sides
abbrev pub Matches : {A C S : Type 0} → (A → C → Type 0) → Next A S → Next C (Fate S) → Type 0
Matches R (Goes a) (Goes c) = R a c
Matches R (Goes a) (Ends o e) = ⊥
Matches R (Ends o s) (Goes c) = ⊥
Matches R (Ends o s) (Ends p (Stops t)) = (p ≡ o) × (t ≡ s)
Matches R (Ends o s) (Ends p (Sticks item)) = ⊥

-- the target's output is the one before the machine's step from a, or the one after it
abbrev pub IsOnTheWay : {A C S : Type 0} → (A → Next A S) → (A → List ℕ) → (C → List ℕ) → A → C → Type 0
IsOnTheWay mstep mout cout a c = (cout c ≡ mout a) ⊎ (cout c ≡ next_out mout (mstep a))

-- the target keeps pace: related states have one output, the start is reached, and one step of the machine is at least 1 and at most b + 1 of the target
pub record InLockstep {A C S : Type 0} (mstep : A → Next A S) (cstep : C → Next C (Fate S)) (mout : A → List ℕ) (cout : C → List ℕ) (R : A → C → Type 0) (b : ℕ) (a0 : A) (c0 : C) : Type 0 where
  pub same_out : (a : A) (c : C) → R a c → cout c ≡ mout a
  pub start : Meets cstep (λ c. cout c ≡ mout a0) (Matches R (Goes a0)) (suc b) (Goes c0)
  pub step : (a : A) (c : C) → R a c → Meets cstep (IsOnTheWay mstep mout cout a) (Matches R (mstep a)) b (cstep c)

-- the credit that is left where a step leads to; at an end none is needed
abbrev pub credit_left : {A S : Type 0} → (A → ℕ) → Next A S → ℕ
credit_left credit (Goes a) = credit a
credit_left credit (Ends o s) = 0

-- the machine's step from a, matched on credit: the steps of the target beyond its first one that are more than b are paid
-- by the credit of a, and the credit that is left behind the step is paid in
pub record StepsOnCredit {A C S : Type 0} (mstep : A → Next A S) (cstep : C → Next C (Fate S)) (mout : A → List ℕ) (cout : C → List ℕ) (R : A → C → Type 0) (credit : A → ℕ) (b : ℕ) (a : A) (c : C) : Type 0 where
  pub taken : ℕ
  pub paid : taken + credit_left credit (mstep a) ≤ b + credit a
  pub runs : Meets cstep (IsOnTheWay mstep mout cout a) (Matches R (mstep a)) taken (cstep c)

-- the target keeps pace on average: one step of the machine may take many of the target where earlier ones took few
pub record InLockstepOnCredit {A C S : Type 0} (mstep : A → Next A S) (cstep : C → Next C (Fate S)) (mout : A → List ℕ) (cout : C → List ℕ) (R : A → C → Type 0) (credit : A → ℕ) (b : ℕ) (a0 : A) (c0 : C) : Type 0 where
  pub same_out : (a : A) (c : C) → R a c → cout c ≡ mout a
  pub start : Meets cstep (λ c. cout c ≡ mout a0) (Matches R (Goes a0)) (suc b) (Goes c0)
  pub none_at_start : credit a0 ≡ 0
  pub step : (a : A) (c : C) → R a c → StepsOnCredit mstep cstep mout cout R credit b a c
