-- Which token is the longest at the front of a text.
use Rattle.std.proofs.Common.{◌≡◌, ◌≢◌, ℕ, ◌<◌, ◌≤◌, zero, suc, List, take, Option, Some, None, sym, ap, ◌∙◌, subst, arith, ⊎_elim}
use Rattle.std.specs.Prelude.{slice_get}
use Rattle.std.proofs.lemmas.Bool.{cases_eq}
use Rattle.std.proofs.lemmas.Option.{some_pair_parts}
use Rattle.scan.specs.Scan.{longer, longest}

module _ {T : Type 0} (token_of : List ℕ → Option ℕ → Option T) where
  -- the word of m bytes, where it is a token and no longer word is one
  pub longest_is : (n m : ℕ) (bs : List ℕ) (t : T) → 0 < m → m ≤ n → token_of (take m bs) (slice_get bs m) ≡ Some t → ((k : ℕ) → m < k → k ≤ n → token_of (take k bs) (slice_get bs k) ≡ None) → longest token_of n bs ≡ Some (m, t)
  unfolding longest
  longest_is zero m bs t p l e none = absurd (omega arith)
  longest_is (suc n) m bs t p l e none =
      ⊎_elim
      (λ (q : m ≡ suc n). subst (λ k. longer (token_of (take k bs) (slice_get bs k)) k (longest token_of n bs) ≡ Some (m, t)) q (ap (λ o. longer o m (longest token_of n bs)) e))
      (λ (q : m ≢ suc n). ap (λ o. longer o (suc n) (longest token_of n bs)) (none (suc n) (omega arith) (omega arith)) ∙ longest_is n m bs t p (omega arith) e (λ k a b. none k a (omega arith)))
      (cases_eq m (suc n))

  -- words of more than m bytes that are no tokens change nothing
  pub longest_cut : (n m : ℕ) (bs : List ℕ) → m ≤ n → ((k : ℕ) → m < k → k ≤ n → token_of (take k bs) (slice_get bs k) ≡ None) → longest token_of n bs ≡ longest token_of m bs
  unfolding longest
  longest_cut zero m bs l none = let same : zero ≡ m = omega arith in ap (λ k. longest token_of k bs) same
  longest_cut (suc n) m bs l none =
      ⊎_elim
      (λ (q : m ≡ suc n). ap (λ k. longest token_of k bs) (sym q))
      (λ (q : m ≢ suc n). ap (λ o. longer o (suc n) (longest token_of n bs)) (none (suc n) (omega arith) (omega arith)) ∙ longest_cut n m bs (omega arith) (λ k a b. none k a (omega arith)))
      (cases_eq m (suc n))

  step_bounds : (n m : ℕ) (bs : List ℕ) (t : T) (o : Option T) → (longest token_of n bs ≡ Some (m, t) → (0 < m) × (m ≤ n)) → longer o (suc n) (longest token_of n bs) ≡ Some (m, t) → (0 < m) × (m ≤ suc n)
  step_bounds n m bs t None before e = let bounds = before e in (bounds.0, omega (arith, bounds.1))
  step_bounds n m bs t (Some u) before e = let size = (some_pair_parts (suc n) m u t e).0 in (omega arith, omega arith)

  -- a longest token has a byte, and lies within
  pub longest_bounds : (n : ℕ) (bs : List ℕ) (m : ℕ) (t : T) → longest token_of n bs ≡ Some (m, t) → (0 < m) × (m ≤ n)
  unfolding longest
  longest_bounds zero bs m t e = cc
  longest_bounds (suc n) bs m t e = step_bounds n m bs t (token_of (take (suc n) bs) (slice_get bs (suc n))) (longest_bounds n bs m t) e
