-- Where a physical line ends.
use Rattle.std.proofs.Common.{◌≡◌, ◌≢◌, ℕ, ◌+◌, ◌-◌, ◌<◌, Bool, true, false, suc, cond, not, ◌&&◌, List, [], ◌∷◌, ◌++◌, length, take, drop, get_or, refl, sym, ap, ◌∙◌, subst, arith, ◌⊎◌, inr, ⊎_elim, take-append-drop, eq-eqb}
use Rattle.std.specs.Prelude.{◌==◌}
use Rattle.std.specs.List.{list_all, prefix_len}
use Rattle.std.proofs.lemmas.Bool.{and_parts, and_right, not-true, not-false, eqb-true, ne_eqb}
use Rattle.std.proofs.lemmas.List.{drop_more, take_all}
use Rattle.std.proofs.lemmas.List.Sums.{prefix_len_stops}
use Rattle.scan.proofs.Words.{run_passes}
use Rattle.text_lex.specs.Lines.{onto_first, begins_with, physical_lines}
use Rattle.text_lex.specs.Splits.{without_return}

abbrev is_inside : ℕ → Bool
is_inside b = not (b == 10)

-- a byte that no line feed follows stands in its line
inside : (x : ℕ) (bs : List ℕ) → is_inside x ≡ true → begins_with (λ c. c == 10) bs ≡ false → physical_lines (x ∷ bs) ≡ onto_first x (physical_lines bs)
unfolding physical_lines
inside x bs h k = rw (not-true (x == 10) h, and_right (x == 13) (begins_with (λ c. c == 10) bs) k) refl

last_inside : (x : ℕ) (back : List ℕ) → is_inside x ≡ true → physical_lines (x ∷ 10 ∷ back) ≡ without_return (x ∷ []) ∷ physical_lines back
unfolding physical_lines
last_inside x back h = rw (not-true (x == 10) h) (by (x == 13))
  where
    by : (t : Bool) → cond (t && true) (physical_lines (10 ∷ back)) (onto_first x (physical_lines (10 ∷ back))) ≡ cond t [] (x ∷ []) ∷ physical_lines back
    by true = refl
    by false = refl

-- a line feed ends the line, and a carriage return just before it belongs to the end
pub ended : (f back : List ℕ) → list_all is_inside f ≡ true → physical_lines (f ++ 10 ∷ back) ≡ without_return f ∷ physical_lines back
unfolding physical_lines
ended [] back h = refl
ended (x ∷ []) back h = last_inside x back (and_parts (is_inside x) true h).0
ended (x ∷ y ∷ f) back h =
    let parts = and_parts (is_inside x) (list_all is_inside (y ∷ f)) h in
    inside x (y ∷ f ++ 10 ∷ back) parts.0 (not-true (y == 10) (and_parts (is_inside y) (list_all is_inside f) parts.1).0) ∙ ap (onto_first x) (ended (y ∷ f) back parts.1)

pub unended : (f : List ℕ) → list_all is_inside f ≡ true → physical_lines f ≡ f ∷ []
unfolding physical_lines
unended [] h = refl
unended (x ∷ []) h = inside x [] (and_parts (is_inside x) true h).0 refl
unended (x ∷ y ∷ f) h =
    let parts = and_parts (is_inside x) (list_all is_inside (y ∷ f)) h in
    inside x (y ∷ f) parts.0 (not-true (y == 10) (and_parts (is_inside y) (list_all is_inside f) parts.1).0) ∙ ap (onto_first x) (unended (y ∷ f) parts.1)

module _ (bs : List ℕ) (n : ℕ) (e : n ≡ prefix_len is_inside bs) where
  free : list_all is_inside (take n bs) ≡ true
  free = run_passes is_inside bs n (omega arith)

  -- no line feed at all
  pub whole : n ≡ length bs → physical_lines bs ≡ bs ∷ []
  whole k = unended bs (subst (λ l. list_all is_inside l ≡ true) (take_all n bs (omega arith)) free)

  cut : n < length bs → bs ≡ take n bs ++ 10 ∷ drop (n + 1) bs
  cut l =
      let stops : is_inside (get_or bs n 0) ≡ false = ap (λ i. is_inside (get_or bs i 0)) e ∙ prefix_len_stops is_inside bs 0 (omega arith) in
      let feed : get_or bs n 0 ≡ 10 = eqb-true (get_or bs n 0) 10 (not-false _ stops) in
      sym (take-append-drop n bs) ∙ ap (λ r. take n bs ++ r) (drop_more bs n 0 l ∙ ap (λ b. b ∷ drop (n + 1) bs) feed)

  -- a line feed there
  pub ends_there : n < length bs → physical_lines bs ≡ without_return (take n bs) ∷ physical_lines (drop (n + 1) bs)
  ends_there l = ap physical_lines (cut l) ∙ ended (take n bs) (drop (n + 1) bs) free

pub return_cut : (line : List ℕ) → 0 < length line → get_or line (length line - 1) 0 ≡ 13 → without_return line ≡ take (length line - 1) line
return_cut [] l e = absurd (omega arith)
return_cut (b ∷ []) l e = ap (λ t. cond t [] (b ∷ [])) (eq-eqb b 13 e)
return_cut (b ∷ c ∷ bs) l e =
    let size : length (b ∷ c ∷ bs) - 1 ≡ suc (length bs) = omega arith in
    let less : length (c ∷ bs) - 1 ≡ length bs = omega arith in
    let last : get_or (c ∷ bs) (length (c ∷ bs) - 1) 0 ≡ 13 = ap (λ k. get_or (c ∷ bs) k 0) less ∙ sym (ap (λ k. get_or (b ∷ c ∷ bs) k 0) size) ∙ e in
    ap (λ l. b ∷ l) (return_cut (c ∷ bs) (omega arith) last ∙ ap (λ k. take k (c ∷ bs)) less) ∙ sym (ap (λ k. take k (b ∷ c ∷ bs)) size)

pub return_kept : (line : List ℕ) → (length line ≡ 0) ⊎ (get_or line (length line - 1) 0 ≢ 13) → without_return line ≡ line
return_kept [] e = refl
return_kept (b ∷ []) e = ⊎_elim (λ none. absurd (omega arith)) (λ other. ap (λ t. cond t [] (b ∷ [])) (ne_eqb b 13 other)) e
return_kept (b ∷ c ∷ bs) e =
    let size : length (b ∷ c ∷ bs) - 1 ≡ suc (length bs) = omega arith in
    let less : length (c ∷ bs) - 1 ≡ length bs = omega arith in
    ⊎_elim (λ none. absurd (omega arith))
    (λ other. ap (λ l. b ∷ l) (return_kept (c ∷ bs) (inr (λ last. other (ap (λ k. get_or (b ∷ c ∷ bs) k 0) size ∙ sym (ap (λ k. get_or (c ∷ bs) k 0) less) ∙ last))))) e
