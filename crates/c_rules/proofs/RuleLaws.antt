-- The rules, one item after another.
use Rattle.std.proofs.Common.{◌≡◌, ℕ, suc, ◌+◌, ◌<◌, List, [], ◌∷◌, ◌++◌, length, drop, get_or, Option, Some, None, refl, sym, ap, ◌∙◌, subst, arith}
use Rattle.std.specs.Prelude.{option_map}
use Rattle.std.specs.Option.{option_or}
use Rattle.std.proofs.lemmas.List.{drop_more}
use Rattle.c_lang.specs.Items.{Text, Item, Machine, Segment, Table, Declared, Defined, Main, numbered}
use Rattle.c_lang.specs.StaticRules.{broken_by, first_broken, static_fault}
use Rattle.c_rules.specs.Texts.{code_items, told}
use Rattle.c_rules.specs.declared.rules.Broken.{Broken}

-- the faults of items from the n-th on
abbrev pub faults : {A : Type 0} → Text → (ℕ → A → Item) → ℕ → ℕ → List A → Option (ℕ × ℕ)
faults t item n i xs = first_broken t n (numbered item i xs)

pub next_item : {A : Type 0} (t : Text) (item : ℕ → A → Item) (xs : List A) (i n : ℕ) (x : A) → i < length xs → x ≡ get_or xs i x
    → faults t item n i (drop i xs) ≡ option_or (option_map (λ k. (n, k)) (broken_by t (item i x))) (faults t item (n + 1) (i + 1) (drop (i + 1) xs))
next_item t item xs i n x l is = ap (λ ys. first_broken t n (numbered item i ys)) (drop_more xs i x l ∙ ap (λ y. y ∷ drop (i + 1) xs) (sym is))

pub breaks : {A : Type 0} (t : Text) (item : ℕ → A → Item) (xs : List A) (i n : ℕ) (x : A) (o : Option ℕ) (rule : ℕ) (whole : Option (ℕ × ℕ)) → whole ≡ faults t item n i (drop i xs) → i < length xs → x ≡ get_or xs i x → o ≡ broken_by t (item i x) → o ≡ Some rule
    → Some (n, rule) ≡ whole
breaks t item xs i n x o rule whole e l is found some =
    sym (e ∙ next_item t item xs i n x l is ∙ ap (λ p. option_or (option_map (λ k. (n, k)) p) (faults t item (n + 1) (i + 1) (drop (i + 1) xs))) (sym found ∙ some))

pub passes : {A : Type 0} (t : Text) (item : ℕ → A → Item) (xs : List A) (i n : ℕ) (x : A) (o : Option ℕ) (whole : Option (ℕ × ℕ)) → whole ≡ faults t item n i (drop i xs) → i < length xs → x ≡ get_or xs i x → o ≡ broken_by t (item i x) → o ≡ None
    → whole ≡ faults t item (n + 1) (i + 1) (drop (i + 1) xs)
passes t item xs i n x o whole e l is found none =
    e ∙ next_item t item xs i n x l is ∙ ap (λ p. option_or (option_map (λ k. (n, k)) p) (faults t item (n + 1) (i + 1) (drop (i + 1) xs))) (sym found ∙ none)

or_or : {A : Type 0} (o p q : Option A) → option_or (option_or o p) q ≡ option_or o (option_or p q)
or_or None p q = refl
or_or (Some x) p q = refl

-- items behind others
pub behind : (t : Text) (n : ℕ) (xs ys : List Item) → first_broken t n (xs ++ ys) ≡ option_or (first_broken t n xs) (first_broken t (n + length xs) ys)
behind t n [] ys = let e : n + 0 ≡ n = omega arith in rw e refl
behind t n (x ∷ xs) ys =
    let e : n + 1 + length xs ≡ n + length (x ∷ xs) = omega arith in
    ap (option_or (option_map (λ k. (n, k)) (broken_by t x))) (behind t (n + 1) xs ys ∙ ap (λ m. option_or (first_broken t (n + 1) xs) (first_broken t m ys)) e)
    ∙ sym (or_or (option_map (λ k. (n, k)) (broken_by t x)) (first_broken t (n + 1) xs) (first_broken t (n + length (x ∷ xs)) ys))

pub length_numbered : {A : Type 0} (item : ℕ → A → Item) (k : ℕ) (xs : List A) → length (numbered item k xs) ≡ length xs
length_numbered item k [] = refl
length_numbered item k (x ∷ xs) = ap suc (length_numbered item (k + 1) xs)

pub behind_numbered : {A : Type 0} (t : Text) (item : ℕ → A → Item) (n : ℕ) (xs : List A) (ys : List Item) → first_broken t n (numbered item 0 xs ++ ys) ≡ option_or (faults t item n 0 xs) (first_broken t (n + length xs) ys)
behind_numbered t item n xs ys = behind t n (numbered item 0 xs) ys ∙ ap (λ m. option_or (faults t item n 0 xs) (first_broken t (n + m) ys)) (length_numbered item 0 xs)

-- ---- the same, of items that are read from an equal list

module _ {A : Type 0} (t : Text) (item : ℕ → A → Item) (xs ys : List A) (same : ys ≡ xs) (i n : ℕ) (x : A) (o : Option ℕ) (whole : Option (ℕ × ℕ)) (e : whole ≡ faults t item n i (drop i xs)) (l : i < length ys) (is : x ≡ get_or ys i x)
    (found : o ≡ broken_by t (item i x)) where
  within : i < length xs
  within = subst (λ zs. i < length zs) same l

  at_place : x ≡ get_or xs i x
  at_place = subst (λ zs. x ≡ get_or zs i x) same is

  pub breaks_in : (rule : ℕ) → o ≡ Some rule → Some (n, rule) ≡ whole
  breaks_in rule some = breaks t item xs i n x o rule whole e within at_place found some

  pub passes_in : (m : ℕ) → m ≡ n + 1 → o ≡ None → whole ≡ faults t item m (i + 1) (drop (i + 1) xs)
  passes_in m step none = passes t item xs i n x o whole e within at_place found none ∙ ap (λ k. faults t item k (i + 1) (drop (i + 1) xs)) (sym step)

-- ---- prototypes, functions and the first call

abbrev from_main : Text → ℕ → Option (ℕ × ℕ)
from_main t n = first_broken t n (Main t.entry t.first ∷ [])

abbrev from_functions : Text → ℕ → Option (ℕ × ℕ)
from_functions t n = option_or (faults t Defined n 0 t.functions) (from_main t (n + length t.functions))

whole_code : (t : Text) (n : ℕ) → first_broken t n (code_items t) ≡ option_or (faults t Declared n 0 t.prototypes) (from_functions t (n + length t.prototypes))
whole_code t n =
    behind_numbered t Declared n t.prototypes (numbered Defined 0 t.functions ++ Main t.entry t.first ∷ [])
    ∙ ap (option_or (faults t Declared n 0 t.prototypes)) (behind_numbered t Defined (n + length t.prototypes) t.functions (Main t.entry t.first ∷ []))

module _ (t : Text) (n : ℕ) (first : Option Broken) (e : told first ≡ faults t Declared n 0 t.prototypes) where
  pub first_prototype : (b : Broken) → first ≡ Some b → told (Some b) ≡ first_broken t n (code_items t)
  first_prototype b is = sym (whole_code t n ∙ ap (λ o. option_or o (from_functions t (n + length t.prototypes))) (sym e ∙ ap told is))

  module _ (none : first ≡ None) (m : ℕ) (place : m ≡ n + length t.prototypes) (second : Option Broken) (f : told second ≡ faults t Defined m 0 t.functions) where
    behind_first : first_broken t n (code_items t) ≡ option_or (told second) (from_main t (m + length t.functions))
    behind_first =
        whole_code t n ∙ ap (λ o. option_or o (from_functions t (n + length t.prototypes))) (sym e ∙ ap told none) ∙ ap (from_functions t) (sym place)
        ∙ ap (λ o. option_or o (from_main t (m + length t.functions))) (sym f)

    pub first_function : (b : Broken) → second ≡ Some b → told (Some b) ≡ first_broken t n (code_items t)
    first_function b is = sym (behind_first ∙ ap (λ o. option_or (told o) (from_main t (m + length t.functions))) is)

    module _ (nothing : second ≡ None) (k : ℕ) (end : k ≡ m + length t.functions) (o : Option ℕ) (g : o ≡ broken_by t (Main t.entry t.first)) where
      behind_second : first_broken t n (code_items t) ≡ option_or (option_map (λ r. (k, r)) o) None
      behind_second =
          behind_first ∙ ap (λ p. option_or (told p) (from_main t (m + length t.functions))) nothing ∙ ap (from_main t) (sym end)
          ∙ ap (λ p. option_or (option_map (λ r. (k, r)) p) None) (sym g)

      pub first_call : (rule : ℕ) → o ≡ Some rule → Some (k, rule) ≡ first_broken t n (code_items t)
      first_call rule is = sym (behind_second ∙ ap (λ p. option_or (option_map (λ r. (k, r)) p) None) is)

      pub none_of_code : o ≡ None → None ≡ first_broken t n (code_items t)
      none_of_code is = sym (behind_second ∙ ap (λ p. option_or (option_map (λ r. (k, r)) p) None) is)

-- ---- a whole text

abbrev from_code : Text → Option (ℕ × ℕ)
from_code t = first_broken t (2 + length t.segments + 1) (code_items t)

abbrev from_table : Text → Option (ℕ × ℕ)
from_table t = option_or (option_map (λ k. (2 + length t.segments, k)) (broken_by t (Table t.table))) (from_code t)

abbrev from_segments : Text → Option (ℕ × ℕ)
from_segments t = option_or (faults t Segment 2 0 t.segments) (from_table t)

whole_text : (t : Text) → static_fault t ≡ option_or (option_map (λ k. (1, k)) (broken_by t (Machine t.machine))) (from_segments t)
whole_text t = ap (option_or (option_map (λ k. (1, k)) (broken_by t (Machine t.machine)))) (behind_numbered t Segment 2 t.segments (Table t.table ∷ code_items t))

module _ (t : Text) (o : Option ℕ) (e : o ≡ broken_by t (Machine t.machine)) where
  pub fault_of_machine : (rule : ℕ) → o ≡ Some rule → Some (1, rule) ≡ static_fault t
  fault_of_machine rule is = sym (whole_text t ∙ ap (λ p. option_or (option_map (λ k. (1, k)) p) (from_segments t)) (sym e ∙ is))

  module _ (none : o ≡ None) (place : Option ℕ) (f : faults t Segment 2 0 t.segments ≡ option_map (λ i. (2 + i, 4)) place) where
    behind_machine : static_fault t ≡ option_or (option_map (λ i. (2 + i, 4)) place) (from_table t)
    behind_machine = whole_text t ∙ ap (λ p. option_or (option_map (λ k. (1, k)) p) (from_segments t)) (sym e ∙ none) ∙ ap (λ p. option_or p (from_table t)) f

    pub fault_of_segment : (i : ℕ) → place ≡ Some i → Some (2 + i, 4) ≡ static_fault t
    fault_of_segment i is = sym (behind_machine ∙ ap (λ p. option_or (option_map (λ i. (2 + i, 4)) p) (from_table t)) is)

    module _ (nowhere : place ≡ None) (m : ℕ) (end : m ≡ 2 + length t.segments) (p : Option ℕ) (g : p ≡ broken_by t (Table t.table)) where
      behind_segments : static_fault t ≡ option_or (option_map (λ k. (m, k)) p) (first_broken t (m + 1) (code_items t))
      behind_segments =
          behind_machine ∙ ap (λ q. option_or (option_map (λ i. (2 + i, 4)) q) (from_table t)) nowhere
          ∙ ap (λ n. option_or (option_map (λ k. (n, k)) (broken_by t (Table t.table))) (first_broken t (n + 1) (code_items t))) (sym end)
          ∙ ap (λ q. option_or (option_map (λ k. (m, k)) q) (first_broken t (m + 1) (code_items t))) (sym g)

      pub fault_of_table : (rule : ℕ) → p ≡ Some rule → Some (m, rule) ≡ static_fault t
      fault_of_table rule is = sym (behind_segments ∙ ap (λ q. option_or (option_map (λ k. (m, k)) q) (first_broken t (m + 1) (code_items t))) is)

      pub fault_of_code : p ≡ None → (n : ℕ) → n ≡ m + 1 → (found : Option Broken) → told found ≡ first_broken t n (code_items t) → told found ≡ static_fault t
      fault_of_code is n next found h =
          h ∙ ap (λ k. first_broken t k (code_items t)) next ∙ sym (behind_segments ∙ ap (λ q. option_or (option_map (λ k. (m, k)) q) (first_broken t (m + 1) (code_items t))) is)

pub ruleset item_laws = (breaks, passes)
