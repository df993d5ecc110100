-- Lists of cells, and variables for them.
use Rattle.std.proofs.Common.{◌≡◌, ◌≢◌, ℕ, suc, ◌≤◌, Bool, true, false, ◌||◌, List, [], ◌∷◌, length, map, ◌⊎◌, inl, inr, Some, refl, sym, ap, ◌∙◌, subst, ⊎_elim, arith, nat_eq, le_refl}
use Rattle.std.specs.Prelude.{slice_index, not, if◌then◌else◌, option_map}
use Rattle.std.proofs.lemmas.Bool.{cases_eq, eq-eqb, ne_eqb}
use Rattle.c_lang.specs.declared.tree.Function.{Function}
use Rattle.c_lang.specs.declared.tree.Var.TheVariants.{Ra, Cell, Result}
use Rattle.c_lang.specs.Value.{Vars}
use Rattle.c_lang.specs.State.{has, with_var}
use Rattle.c_lang.specs.Step.{parameters, cells_set, no_vars}
use Rattle.c_lang.proofs.ValueLaws.{value-Of}
use Rattle.c_control.specs.Frames.{Agree}
use Rattle.c_control.specs.Pieces.{arguments_c, without}
use Rattle.c_control.proofs.Steps.{HaveValues, none, more}

-- ---- members

-- c is a member of the list
abbrev pub In : ℕ → List ℕ → Type 0
In c xs = has xs c ≡ true

pub or-true : (b : Bool) → (b || true) ≡ true
or-true true = refl
or-true false = refl

pub in-here : (c : ℕ) (xs : List ℕ) → In c (c ∷ xs)
in-here c xs = ap (λ b. b || has xs c) (eq-eqb c c refl)

pub in-more : (c x : ℕ) (xs : List ℕ) → In c xs → In c (x ∷ xs)
in-more c x xs i = ap (λ b. nat_eq x c || b) i ∙ or-true (nat_eq x c)

-- it is the first, or one of the others
pub in-cases : (c x : ℕ) (xs : List ℕ) → In c (x ∷ xs) → (c ≡ x) ⊎ In c xs
in-cases c x xs i = ⊎_elim (λ e. inl (sym e)) (λ other. inr (sym (ap (λ b. b || has xs c) (ne_eqb x c other)) ∙ i)) (cases_eq x c)

pub in-none : {A : Type 0} (c : ℕ) → In c [] → A
in-none c i = let no : ⊥ = cc in absurd no

-- ---- the members of one list that are not in another

without-at : (x : ℕ) (xs ys : List ℕ) → without (x ∷ xs) ys ≡ (if not (has ys x) then x ∷ without xs ys else without xs ys)
without-at x xs ys = by (has ys x) refl
  where
    by : (b : Bool) → has ys x ≡ b → without (x ∷ xs) ys ≡ (if not (has ys x) then x ∷ without xs ys else without xs ys)
    by true e = rw e refl
    by false e = rw e refl

pub in-without : (c : ℕ) (xs ys : List ℕ) → In c (without xs ys) → In c xs
in-without c [] ys i = i
in-without c (x ∷ xs) ys i = by (in-without c xs ys) (has ys x) (subst (λ l. In c l) (without-at x xs ys) i)
  where
    by : (In c (without xs ys) → In c xs) → (b : Bool) → In c (if not b then x ∷ without xs ys else without xs ys) → In c (x ∷ xs)
    by rest true j = in-more c x xs (rest j)
    by rest false j = ⊎_elim (λ e. subst (λ k. In k (x ∷ xs)) (sym e) (in-here x xs)) (λ k. in-more c x xs (rest k)) (in-cases c x (without xs ys) j)

-- a member is left, or it is in the other list
pub without-or : (c : ℕ) (xs ys : List ℕ) → In c xs → In c (without xs ys) ⊎ In c ys
without-or c [] ys i = in-none c i
without-or c (x ∷ xs) ys i = by (without-or c xs ys) (has ys x) refl
  where
    back : (b : Bool) → has ys x ≡ b → In c (if not b then x ∷ without xs ys else without xs ys) → In c (without (x ∷ xs) ys)
    back b e j = subst (λ l. In c l) (sym (without-at x xs ys ∙ ap (λ q. if not q then x ∷ without xs ys else without xs ys) e)) j

    by : (In c xs → In c (without xs ys) ⊎ In c ys) → (b : Bool) → has ys x ≡ b → In c (without (x ∷ xs) ys) ⊎ In c ys
    by rest true e = ⊎_elim (λ s. inr (ap (has ys) s ∙ e)) (λ j. ⊎_elim (λ k. inl (back true e k)) (λ k. inr k) (rest j)) (in-cases c x xs i)
    by rest false e =
        ⊎_elim (λ s. inl (back false e (subst (λ k. In k (x ∷ without xs ys)) (sym s) (in-here x (without xs ys)))))
        (λ j. ⊎_elim (λ k. inl (back false e (in-more c x (without xs ys) k))) (λ k. inr k) (rest j)) (in-cases c x xs i)

-- what is left is not in the other list
pub not-without : (c : ℕ) (xs ys : List ℕ) → In c (without xs ys) → In c ys → ⊥
not-without c [] ys i j = in-none c i
not-without c (x ∷ xs) ys i j = by (not-without c xs ys) (has ys x) refl (subst (λ l. In c l) (without-at x xs ys) i)
  where
    by : (In c (without xs ys) → In c ys → ⊥) → (b : Bool) → has ys x ≡ b → In c (if not b then x ∷ without xs ys else without xs ys) → ⊥
    by rest true e k = rest k j
    by rest false e k = ⊎_elim (λ s. let no : ⊥ = let w = sym (ap (has ys) s ∙ e) ∙ j in cc in no) (λ l. rest l j) (in-cases c x (without xs ys) k)

pub without-few : (xs ys : List ℕ) → length (without xs ys) ≤ length xs
without-few [] ys = le_refl 0
without-few (x ∷ xs) ys = by (without-few xs ys) (has ys x) refl
  where
    by : length (without xs ys) ≤ length xs → (b : Bool) → has ys x ≡ b → length (without (x ∷ xs) ys) ≤ suc (length xs)
    by le true e = let is = ap length (without-at x xs ys ∙ ap (λ q. if not q then x ∷ without xs ys else without xs ys) e) in omega (arith, le, is)
    by le false e = let is = ap length (without-at x xs ys ∙ ap (λ q. if not q then x ∷ without xs ys else without xs ys) e) in omega (arith, le, is)

-- ---- variables

-- a cell beside one that was set
pub cell-set : (vars : Vars) (c n d : ℕ) → ((with_var vars (Cell c) n (Cell d) ≡ Some n) × (d ≡ c)) ⊎ ((with_var vars (Cell c) n (Cell d) ≡ vars (Cell d)) × (d ≢ c))
cell-set vars c n d =
    ⊎_elim (λ same. inl (ap (λ b. if b then Some n else vars (Cell d)) (eq-eqb c d same), sym same))
    (λ other. inr (ap (λ b. if b then Some n else vars (Cell d)) (ne_eqb c d other), λ e. other (sym e))) (cases_eq c d)

pub result-set : (globals : Vars) (c n d : ℕ) → ((with_var globals (Result c) n (Result d) ≡ Some n) × (d ≡ c)) ⊎ ((with_var globals (Result c) n (Result d) ≡ globals (Result d)) × (d ≢ c))
result-set globals c n d =
    ⊎_elim (λ same. inl (ap (λ b. if b then Some n else globals (Result d)) (eq-eqb c d same), sym same))
    (λ other. inr (ap (λ b. if b then Some n else globals (Result d)) (ne_eqb c d other), λ e. other (sym e))) (cases_eq c d)

-- ---- parameters

-- the values of cells as arguments
abbrev pub values_at : List ℕ → List ℕ → List ℕ
values_at cells refs = map (λ c. slice_index cells c) refs

pub arguments-have : (vars : Vars) (cells refs : List ℕ) → ((c : ℕ) → In c refs → vars (Cell c) ≡ Some (slice_index cells c)) → HaveValues vars (arguments_c refs) (values_at cells refs)
arguments-have vars cells [] h = none
arguments-have vars cells (c ∷ refs) h = more (value-Of vars (Cell c) ∙ h c (in-here c refs)) (arguments-have vars cells refs (λ d i. h d (in-more d c refs i)))

-- parameters set from the values of cells
pub record AreParameters (f : Function) (ra : ℕ) (cells refs : List ℕ) : Type 0 where
  pub vars : Vars
  pub is : parameters f (ra ∷ values_at cells refs) ≡ Some vars
  pub ra_is : vars Ra ≡ Some ra
  pub agree : Agree refs cells vars

record AreSet (cells refs : List ℕ) : Type 0 where
  vars : Vars
  is : cells_set refs (values_at cells refs) ≡ Some vars
  agree : Agree refs cells vars

are-set : (cells refs : List ℕ) → AreSet cells refs
are-set cells [] = record { vars = no_vars; is = refl; agree = λ c i. in-none c i }
are-set cells (c ∷ refs) =
    let rest = are-set cells refs in
    record {
      vars = with_var rest.vars (Cell c) (slice_index cells c);
      is = ap (option_map (λ vars. with_var vars (Cell c) (slice_index cells c))) rest.is;
      agree = λ d i.
          ⊎_elim (λ h. h.0 ∙ ap (λ k. Some (slice_index cells k)) (sym h.1))
          (λ h. h.0 ∙ rest.agree d (⊎_elim (λ e. absurd (h.1 e)) (λ j. j) (in-cases d c refs i))) (cell-set rest.vars c (slice_index cells c) d);
    }

pub are-parameters : (f : Function) (ra : ℕ) (cells refs : List ℕ) → f.params ≡ refs → AreParameters f ra cells refs
are-parameters f ra cells refs e =
    let set = are-set cells refs in
    record {
      vars = with_var set.vars Ra ra;
      is = ap (λ ps. option_map (λ vars. with_var vars Ra ra) (cells_set ps (values_at cells refs))) e ∙ ap (option_map (λ vars. with_var vars Ra ra)) set.is;
      ra_is = refl;
      agree = set.agree;
    }
