-- Words of one kind of byte, and words with a foreign byte in them.
use Rattle.std.proofs.Common.{◌≡◌, ℕ, ◌+◌, ◌<◌, ◌≤◌, Bool, true, false, zero, suc, cond, ◌&&◌, List, [], ◌∷◌, ◌++◌, length, take, None, refl, ap, arith, sym, ◌∙◌, ⊎_elim, ◌⊎◌}
use Rattle.std.specs.Prelude.{nat_eq}
use Rattle.std.specs.List.{list_all, prefix_len, position_from}
use Rattle.std.specs.Str.{bytes_eq}
use Rattle.std.proofs.lemmas.Bool.{and_left, and_right, and_parts, cases_Bool, eqb-true, true≢false}

-- the bytes of a run pass
pub run_passes : (p : ℕ → Bool) (bs : List ℕ) (k : ℕ) → k ≤ prefix_len p bs → list_all p (take k bs) ≡ true
run_passes p bs zero l = refl
run_passes p [] (suc k) l = refl
run_passes p (x ∷ bs) (suc k) l = by (p x) (run_passes p bs k) l
  where
    by : (t : Bool) → (k ≤ prefix_len p bs → list_all p (take k bs) ≡ true) → suc k ≤ cond t (1 + prefix_len p bs) 0 → (t && list_all p (take k bs)) ≡ true
    by true ih l = ih (omega arith)
    by false ih l = absurd (omega arith)

-- more bytes than those of the run do not
pub run_stops : (p : ℕ → Bool) (bs : List ℕ) (k : ℕ) → prefix_len p bs < k → k ≤ length bs → list_all p (take k bs) ≡ false
run_stops p bs zero l h = absurd (omega arith)
run_stops p [] (suc k) l h = absurd (omega arith)
run_stops p (x ∷ bs) (suc k) l h = by (p x) (run_stops p bs k) l
  where
    by : (t : Bool) → (prefix_len p bs < k → k ≤ length bs → list_all p (take k bs) ≡ false) → cond t (1 + prefix_len p bs) 0 < suc k → (t && list_all p (take k bs)) ≡ false
    by true ih l = ih (omega arith) (omega arith)
    by false ih l = refl

-- a byte that does not pass
pub fails_over : (p : ℕ → Bool) (c : ℕ) (a b : List ℕ) → p c ≡ false → list_all p (a ++ c ∷ b) ≡ false
fails_over p c [] b h = and_left _ _ h
fails_over p c (x ∷ a) b h = and_right _ _ (fails_over p c a b h)

-- a word whose bytes pass is none that has a byte that does not
pub unmatched : (p : ℕ → Bool) (c : ℕ) (s a b : List ℕ) → p c ≡ false → list_all p s ≡ true → bytes_eq s (a ++ c ∷ b) ≡ false
unmatched p c [] [] b h k = refl
unmatched p c [] (x ∷ a) b h k = refl
unmatched p c (y ∷ s) [] b h k = and_left _ _ (differs (cases_Bool (nat_eq y c)))
  where
    differs : (nat_eq y c ≡ true) ⊎ (nat_eq y c ≡ false) → nat_eq y c ≡ false
    differs = ⊎_elim (λ e. absurd (true≢false (sym (and_parts _ _ k).0 ∙ ap p (eqb-true y c e) ∙ h))) (λ e. e)
unmatched p c (y ∷ s) (x ∷ a) b h k = and_right _ _ (unmatched p c s a b h (and_parts _ _ k).1)

-- nor is it one of a list of such words
pub unlisted : (p : ℕ → Bool) (c i : ℕ) (ss : List (List ℕ)) (a b : List ℕ) → p c ≡ false → list_all (list_all p) ss ≡ true → position_from (λ s. bytes_eq s (a ++ c ∷ b)) i ss ≡ None
unlisted p c i [] a b h k = refl
unlisted p c i (s ∷ ss) a b h k = rw (unmatched p c s a b h (and_parts _ _ k).0) (unlisted p c (i + 1) ss a b h (and_parts _ _ k).1)
