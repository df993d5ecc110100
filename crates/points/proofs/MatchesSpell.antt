-- What is matched on sound encodings and a sound machine spells operands of the machine.
use Rattle.std.proofs.Common.{◌≡◌, ◌≢◌, ℕ, zero, suc, ◌+◌, ◌/◌, ◌-◌, ◌==◌, ◌<◌, ◌≤◌, Bool, true, false, true≢false, arith, if◌then◌else◌, List, [], ◌∷◌, ◌++◌, append_assoc, append-nil, length, length-set, get_or, set, slice_get, slice_set, map, drop, replicate, count_by, sum_by, cond, Option, Some, None, option_map, option_and_then, All, IfSome, refl, sym, ap, subst, ◌∙◌, inl, inr}
use Rattle.std.proofs.lemmas.Bool.{cases_eq, ne_eqb, or_cases, eqb-true}
use Rattle.std.proofs.lemmas.List.{get_or-set_same, get_or-set_other}
use Rattle.std.proofs.lemmas.List.Elements.{All-head, All-tail, All-weaker, All-get_or}
use Rattle.std.proofs.lemmas.List.Sums.{sum_by-cons}
use Rattle.std.proofs.lemmas.Option.{same_Some, slice_get_within, slice_get-map, get_or_from_slice_get, IfSome_then}
use Rattle.std.specs.List.{list_all, list_any}
use Rattle.rtl_core.specs.declared.encodings.Bind.{Bind}
use Rattle.rtl_core.specs.declared.encodings.Coded.{Coded}
use Rattle.rtl_core.specs.declared.encodings.Encodings.{Encodings}
use Rattle.rtl_core.specs.declared.encodings.Item.{Item}
use Rattle.rtl_core.specs.declared.encodings.OperandKind.{OperandKind}
use Rattle.rtl_core.specs.declared.encodings.OperandKind.TheVariants.{Field, Typed as TypedKind}
use Rattle.rtl_core.specs.declared.encodings.Typed.{Typed}
use Rattle.rtl_core.specs.declared.expr.Order.{Order}
use Rattle.rtl_core.specs.declared.machine.Form.{Form}
use Rattle.rtl_core.specs.declared.machine.Machine.{Machine}
use Rattle.rtl_core.specs.Arithmetic.{bits_of}
use Rattle.rtl_core.specs.Grounding.{is_of_type}
use Rattle.rtl_core.specs.Matching.{Taken, Finder, type_taken, first_matching, constructor_taken, first_taken, items_taken, item_taken, rest_taken, bound, joined, token, holds, instruction}
use Rattle.rtl_core.specs.SoundEncodings.{IsKind, IsBefore, list_size, most_leaves, IsSoundBind, IsSoundTyped, IsSoundItem, IsSoundAlternative, item_binds, items_bind}
use Rattle.rtl_core.specs.SoundMachine.{AreSound}
use Rattle.rtl_core.specs.SoundTemplates.{IsSoundTemplate}
use Rattle.rtl_core.specs.declared.template.Template.{Template}
use Rattle.rtl_core.proofs.ArithmeticLaws.{bits_lt}
use Rattle.sled_match.proofs.Sizes.{IfSome-and_then as IfSome-then, IfSome-map, IfSome-or, IfSome-any, length-le-list}
use Rattle.points.specs.OperandTrees.{Spell, IsOneOf, is_acts}
use Rattle.points.specs.MatchesGround.{inst_of}

-- ---- what is true of a value where there is one

IfSome-and_then : {A B : Type 0} (f : A → Option B) (o : Option A) (Q : B → Type 0) → ((x : A) → IfSome (f x) Q) → IfSome (option_and_then f o) Q
IfSome-and_then f None Q s = tt
IfSome-and_then f (Some x) Q s = s x

-- it is kept under a test
pub IfSome-where : {A : Type 0} (b : Bool) (P : A → Type 0) (o : Option A) → IfSome o P → IfSome (if b then o else None) P
IfSome-where true P o p = p
IfSome-where false P o p = tt

-- ---- what is spelled

-- the numbers of some operands, and behind them those of others
spell-append : (m : Machine) (kinds more : List OperandKind) (xs ys : List ℕ) → Spell m kinds xs → Spell m more ys → Spell m (kinds ++ more) (xs ++ ys)
spell-append m [] more [] ys s r = r
spell-append m [] more (x ∷ xs) ys s r = absurd s
spell-append m (Field w ∷ kinds) more [] ys s r = absurd s
spell-append m (TypedKind t ∷ kinds) more [] ys s r = absurd s
spell-append m (Field w ∷ kinds) more (n ∷ xs) ys s r = (s.0, spell-append m kinds more xs ys s.1 r)
spell-append m (TypedKind t ∷ kinds) more (c ∷ xs) ys s r =
    (s.0, s.1, s.2, s.3, rw (← append_assoc s.0.kinds kinds more) (spell-append m (s.0.kinds ++ kinds) more xs ys s.4 r))

-- ---- the operands of a constructor

module _ (m : Machine) (kinds : List OperandKind) (few : length kinds ≤ 8) where
  -- each operand that is not due is spelled by its numbers, and there are no others
  record AreSpelled (due : List ℕ) (slots : List (List ℕ)) : Type 0 where
    count : length slots ≡ 8
    each : (k : ℕ) (kind : OperandKind) → slice_get kinds k ≡ Some kind → count_by (λ j. j == k) due ≡ 0 → Spell m (kind ∷ []) (get_or slots k [])
    beyond : (k : ℕ) → slice_get kinds k ≡ None → get_or slots k [] ≡ []

  not-due : (due : List ℕ) (o k : ℕ) → k ≢ o → count_by (λ j. j == k) due ≡ 0 → count_by (λ j. j == k) (o ∷ due) ≡ 0
  not-due due o k ne e = sum_by-cons (λ x. cond (x == k) 1 0) o due ∙ none e
    where
      none : sum_by (λ x. cond (x == k) 1 0) due ≡ 0 → cond (o == k) 1 0 + sum_by (λ x. cond (x == k) 1 0) due ≡ 0
      none z = rw (ne_eqb o k (λ q. ne (sym q)), z) refl

  -- the operand that is due first gets its numbers
  spelled-set : (due : List ℕ) (slots : List (List ℕ)) (o : ℕ) (kind : OperandKind) (xs : List ℕ) → slice_get kinds o ≡ Some kind → Spell m (kind ∷ []) xs
      → AreSpelled (o ∷ due) slots → AreSpelled due (slice_set slots o xs)
  spelled-set due slots o kind xs at s h =
      let there : o < length kinds = slice_get_within kinds o kind at in
      let within : o < length slots = omega (arith, h.count) in
      record { count = length-set slots o xs ∙ h.count; each = each within; beyond = beyond }
    where
      each : o < length slots → (k : ℕ) (other : OperandKind) → slice_get kinds k ≡ Some other → count_by (λ j. j == k) due ≡ 0 → Spell m (other ∷ []) (get_or (set slots o xs) k [])
      each within k other here none =
          elim (cases_eq k o) as (λ _. Spell m (other ∷ []) (get_or (set slots o xs) k [])) [
            | inl e ↦
                let same : kind ≡ other = same_Some kind other (sym at ∙ ap (slice_get kinds) (sym e) ∙ here) in
                let here : get_or (set slots o xs) k [] ≡ xs = ap (λ j. get_or (set slots o xs) j []) e ∙ get_or-set_same slots o xs [] within in
                subst (λ (q : OperandKind). Spell m (q ∷ []) (get_or (set slots o xs) k [])) same (subst (Spell m (kind ∷ [])) (sym here) s)
            | inr ne ↦ subst (Spell m (other ∷ [])) (sym (get_or-set_other slots o k xs [] ne)) (h.each k other here (not-due due o k ne none))
          ]

      beyond : (k : ℕ) → slice_get kinds k ≡ None → get_or (set slots o xs) k [] ≡ []
      beyond k none = elim (cases_eq k o) as (λ _. get_or (set slots o xs) k [] ≡ []) [
        | inl e ↦ absurd (let z : None ≡ Some kind = sym none ∙ ap (slice_get kinds) e ∙ at in cc)
        | inr ne ↦ get_or-set_other slots o k xs [] ne ∙ h.beyond k none
      ]

  bound-spelled : (bits tok : ℕ) (binds : List Bind) (due : List ℕ) (slots : List (List ℕ)) → All (IsSoundBind kinds bits) binds
      → AreSpelled (map (λ b. b.operand) binds ++ due) slots → AreSpelled due (bound tok binds slots)
  bound-spelled bits tok [] due slots all h = h
  bound-spelled bits tok (b ∷ bs) due slots all h =
      bound-spelled bits tok bs due (slice_set slots b.operand (bits_of b.lo b.hi tok ∷ [])) (All-tail (IsSoundBind kinds bits) b bs all)
      (spelled-set (map (λ b. b.operand) bs ++ due) slots b.operand (Field (b.hi + 1 - b.lo)) (bits_of b.lo b.hi tok ∷ [])
      (All-head (IsSoundBind kinds bits) b bs all).2 (bits_lt b.lo b.hi tok, tt) h)

  -- the operand that an item's typed operand is
  abbrev typed_operand : Option Typed → List ℕ
  typed_operand None = []
  typed_operand (Some t) = t.operand ∷ []

  binds-are : (it : Item) (typed : Option Typed) → it.typed ≡ typed → item_binds it ≡ map (λ b. b.operand) it.binds ++ typed_operand typed
  binds-are it None e = rw e refl
  binds-are it (Some t) e = rw e refl

  -- what is found for the typed operands spells them
  record Finds (find : Finder) : Type 0 where
    found : (t : Typed) (bytes : List ℕ) → IsSoundTyped kinds (Some t) → IfSome (find t.kind bytes) (λ r. Spell m (TypedKind t.kind ∷ []) (r.constructor ∷ r.leaves))

  rest-spelled : (find : Finder) → Finds find → (typed : Option Typed) (size : ℕ) (due : List ℕ) (slots : List (List ℕ)) (bytes : List ℕ) → IsSoundTyped kinds typed
      → AreSpelled (typed_operand typed ++ due) slots → IfSome (rest_taken find typed size slots bytes) (λ r. AreSpelled due r.0)
  rest-spelled find finds None size due slots bytes t h = h
  rest-spelled find finds (Some t) size due slots bytes e h =
      IfSome-map (λ r. (slice_set slots t.operand (r.constructor ∷ r.leaves), r.len)) (find t.kind bytes) (λ r. Spell m (TypedKind t.kind ∷ []) (r.constructor ∷ r.leaves))
      (λ r. AreSpelled due r.0) (finds.found t bytes e) (λ r s. spelled-set due slots t.operand (TypedKind t.kind) (r.constructor ∷ r.leaves) e s h)

  item-spelled : (find : Finder) → Finds find → (order : Order) (it : Item) (due : List ℕ) (slots : List (List ℕ)) (bytes : List ℕ) → IsSoundItem kinds it
      → AreSpelled (item_binds it ++ due) slots → IfSome (item_taken find order it slots bytes) (λ r. AreSpelled due r.0)
  item-spelled find finds order it due slots bytes sound h =
      let operands = map (λ b. b.operand) it.binds in
      let apart : item_binds it ++ due ≡ operands ++ (typed_operand it.typed ++ due) =
      ap (λ xs. xs ++ due) (binds-are it it.typed refl) ∙ append_assoc operands (typed_operand it.typed) due
      in
      let due_now : AreSpelled (operands ++ (typed_operand it.typed ++ due)) slots = subst (λ (xs : List ℕ). AreSpelled xs slots) apart h in
      IfSome-and_then _ (token order it.bits bytes) (λ r. AreSpelled due r.0)
      (λ tok. IfSome-where (list_all (holds tok) it.tests) (λ r. AreSpelled due r.0) (rest_taken find it.typed (it.bits / 8) (bound tok it.binds slots) bytes)
      (rest-spelled find finds it.typed (it.bits / 8) due (bound tok it.binds slots) bytes sound.typed
      (bound-spelled it.bits tok it.binds (typed_operand it.typed ++ due) slots sound.binds due_now)))

  items-spelled : (find : Finder) → Finds find → (order : Order) (its : List Item) (slots : List (List ℕ)) (n : ℕ) (bytes : List ℕ) → All (IsSoundItem kinds) its
      → AreSpelled (items_bind its) slots → IfSome (items_taken find order its slots n bytes) (λ r. AreSpelled [] r.0)
  items-spelled find finds order [] slots n bytes sound h = h
  items-spelled find finds order (it ∷ its) slots n bytes sound h =
      IfSome-then (λ r. items_taken find order its r.0 (n + r.1) (drop r.1 bytes)) (item_taken find order it slots bytes) (λ r. AreSpelled (items_bind its) r.0) (λ r. AreSpelled [] r.0)
      (item-spelled find finds order it (items_bind its) slots bytes (All-head (IsSoundItem kinds) it its sound) h)
      (λ r p. items-spelled find finds order its r.0 (n + r.1) (drop r.1 bytes) (All-tail (IsSoundItem kinds) it its sound) p)

  -- no operand has numbers at first
  none-yet : (n k : ℕ) (e : List ℕ) → get_or (replicate n e) k e ≡ e
  none-yet zero k e = refl
  none-yet (suc n) zero e = refl
  none-yet (suc n) (suc k) e = none-yet n k e

  all-due : (due : List ℕ) → ((k : ℕ) → k < length kinds → count_by (λ j. j == k) due ≡ 1) → AreSpelled due (replicate 8 [])
  all-due due one = record {
    count = refl;
    each = λ k kind e none. absurd (let lt : k < length kinds = slice_get_within kinds k kind e in let o = one k lt in omega arith);
    beyond = λ k none. none-yet 8 k [];
  }

-- where no operand is left, no numbers are
joined-none : (slots : List (List ℕ)) → ((k : ℕ) → get_or slots k [] ≡ []) → joined slots ≡ []
joined-none [] none = refl
joined-none (x ∷ slots) none = rw (none 0, joined-none slots (λ k. none (suc k))) refl

-- the numbers of all operands, one behind another
joined-spells : (m : Machine) (kinds : List OperandKind) (slots : List (List ℕ)) → length kinds ≤ length slots
    → ((k : ℕ) (kind : OperandKind) → slice_get kinds k ≡ Some kind → Spell m (kind ∷ []) (get_or slots k []))
    → ((k : ℕ) → slice_get kinds k ≡ None → get_or slots k [] ≡ []) → Spell m kinds (joined slots)
joined-spells m [] slots few each beyond = rw (joined-none slots (λ k. beyond k refl)) tt
joined-spells m (kind ∷ kinds) [] few each beyond = absurd (omega arith)
joined-spells m (kind ∷ kinds) (x ∷ slots) few each beyond =
    spell-append m (kind ∷ []) kinds x (joined slots) (each 0 kind refl)
    (joined-spells m kinds slots (omega arith) (λ k other e. each (suc k) other e) (λ k none. beyond (suc k) none))

-- the first alternative that matches
first-spelled : (m : Machine) (kinds : List OperandKind) (few : length kinds ≤ 8) (find : Finder) → Finds m kinds few find → (order : Order) (alternatives : List (List Item)) (bytes : List ℕ)
    → All (IsSoundAlternative kinds) alternatives → IfSome (first_taken find order alternatives bytes) (λ r. Spell m kinds r.0)
first-spelled m kinds few find finds order [] bytes all = tt
first-spelled m kinds few find finds order (a ∷ rest) bytes all =
    let sound = All-head (IsSoundAlternative kinds) a rest all in
    IfSome-or (option_map (λ r. (joined r.0, r.1)) (items_taken find order a (replicate 8 []) 0 bytes)) (first_taken find order rest bytes) (λ r. Spell m kinds r.0)
    (IfSome-map (λ r. (joined r.0, r.1)) (items_taken find order a (replicate 8 []) 0 bytes) (λ r. AreSpelled m kinds few [] r.0) (λ r. Spell m kinds r.0)
    (items-spelled m kinds few find finds order a (replicate 8 []) 0 bytes sound.each (all-due m kinds few (items_bind a) sound.one))
    (λ r s. joined-spells m kinds r.0 (omega (arith, s.count)) (λ k kind e. s.each k kind e refl) s.beyond))
    (first-spelled m kinds few find finds order rest bytes (All-tail (IsSoundAlternative kinds) a rest all))

-- ---- the constructors of a type

-- what holds of all members holds of one that is found
among : (P : ℕ → Type 0) (c : ℕ) (cs : List ℕ) → All P cs → list_any (λ d. d == c) cs ≡ true → P c
among P c [] all h = absurd (true≢false (sym h))
among P c (d ∷ cs) all h =
    elim (or_cases (d == c) (list_any (λ d. d == c) cs) h) [
      | inl e ↦ subst P (eqb-true d c e) (All-head P d cs all)
      | inr r ↦ among P c cs (All-tail P d cs all) r
    ]

-- the first that matches
first-matching : (taken : ℕ → Option Taken) (P : Taken → Type 0) (cs : List ℕ) → All (λ c. IfSome (taken c) P) cs → IfSome (first_matching taken cs) P
first-matching taken P [] all = tt
first-matching taken P (c ∷ cs) all =
    IfSome-or (taken c) (first_matching taken cs) P (All-head (λ c. IfSome (taken c) P) c cs all) (first-matching taken P cs (All-tail (λ c. IfSome (taken c) P) c cs all))

-- a constructor's form, with the same operands
record HasForm (m : Machine) (c : ℕ) (k : Coded) : Type 0 where
  form : Form
  at : slice_get m.forms c ≡ Some form
  kinds : form.kinds ≡ k.kinds

module _ (enc : Encodings) (m : Machine) (sound : AreSound enc m) where
  form-of : (c : ℕ) (k : Coded) → slice_get enc.constructors c ≡ Some k → HasForm m c k
  form-of c k e = by (slice_get m.forms c) refl
    where
      same : option_map (λ f. f.kinds) (slice_get m.forms c) ≡ Some k.kinds
      same =
          sym (slice_get-map (λ f. f.kinds) m.forms c) ∙ ap (λ xs. slice_get xs c) sound.kinds ∙ slice_get-map (λ k. k.kinds) enc.constructors c
          ∙ ap (option_map (λ k. k.kinds)) e

      by : (o : Option Form) → slice_get m.forms c ≡ o → HasForm m c k
      by None q = absurd (let z : None ≡ Some k.kinds = sym (ap (option_map (λ f. f.kinds)) q) ∙ same in cc)
      by (Some form) q =
          let z : Some form.kinds ≡ Some k.kinds = sym (ap (option_map (λ f. f.kinds)) q) ∙ same in
          record { form = form; at = q; kinds = same_Some form.kinds k.kinds z }

  few-kinds : (c : ℕ) (k : Coded) → slice_get enc.constructors c ≡ Some k → length k.kinds ≤ 8
  few-kinds c k e =
      let size : list_size sound.encodings.most k.kinds ≤ sound.encodings.most (sound.encodings.types.type_of c) = (sound.encodings.sizes c k e).numbers in
      let few : sound.encodings.most (sound.encodings.types.type_of c) ≤ most_leaves = sound.encodings.few (sound.encodings.types.type_of c) in
      let len : length k.kinds ≤ list_size sound.encodings.most k.kinds = length-le-list sound.encodings.most k.kinds in
      omega arith

  -- the numbers of a constructor's operands
  record IsTaken (c : ℕ) (r : Taken) : Type 0 where
    is : r.constructor ≡ c
    form : Form
    at : slice_get m.forms c ≡ Some form
    spelled : Spell m form.kinds r.leaves

  -- a constructor is of a type
  record IsMember (t c : ℕ) : Type 0 where
    there : c < length m.forms
    type : sound.machine.types.type_of c ≡ t

  members : (t : ℕ) (cs : List ℕ) → slice_get enc.types t ≡ Some cs → All (IsMember t) cs
  members t cs e =
      All-weaker (λ c. (c < length m.forms) × (sound.machine.types.type_of c ≡ t)) (IsMember t) (λ c p. record { there = p.0; type = p.1 }) cs
      (sound.machine.types.each t cs (ap (λ types. slice_get types t) sound.types ∙ e)).1

  of-type : (t c : ℕ) → IsMember t c → is_of_type m t c ≡ true
  of-type t c member =
      let listed = sound.machine.types.listed c member.there in
      subst (λ (t : ℕ). is_of_type m t c ≡ true) member.type (rw listed.1 listed.2)

  -- a template of an instruction's constructor stands for transfers, and one of another type for a value or a place
  acts : (t : ℕ) (stands : ℕ → ℕ) (kinds : List OperandKind) (template : Template) → t ≡ 0 → IsSoundTemplate m stands t kinds template → is_acts template ≡ true
  acts zero stands kinds (Template.Acts ts) z s = refl
  acts zero stands kinds (Template.Value e) z s = absurd s
  acts zero stands kinds (Template.Place p) z s = absurd s
  acts (suc t) stands kinds template z s = absurd (omega arith)

  stands-for : (t : ℕ) (stands : ℕ → ℕ) (kinds : List OperandKind) (template : Template) → 0 < t → IsSoundTemplate m stands t kinds template → is_acts template ≡ false
  stands-for zero stands kinds template z s = absurd (omega arith)
  stands-for (suc t) stands kinds (Template.Acts ts) z s = absurd s
  stands-for (suc t) stands kinds (Template.Value e) z s = refl
  stands-for (suc t) stands kinds (Template.Place p) z s = refl

  -- ---- below one instruction's constructor

  module _ (top : ℕ) (is_top : IsMember 0 top) where
    -- all constructors of a type are below it
    IsLow : ℕ → Type 0
    IsLow t = (cs : List ℕ) → slice_get m.types t ≡ Some cs → All (λ d. d < top) cs

    -- a type that is low is not that of instructions
    low-positive : (t : ℕ) → IsLow t → 0 < t
    unfolding IsLow
    low-positive zero low =
        let listed = sound.machine.types.listed top is_top.there in
        let all : All (λ d. d < top) listed.0 = low listed.0 (ap (slice_get m.types) (sym is_top.type) ∙ listed.1) in
        let lt : top < top = among (λ d. d < top) top listed.0 all listed.2 in
        absurd (omega arith)
    low-positive (suc t) low = omega arith

    typed-low : (c : ℕ) (kinds : List OperandKind) (t : Typed) → c ≤ top → All (IsKind m.types c) kinds → IsSoundTyped kinds (Some t) → IsLow t.kind
    unfolding IsLow
    typed-low c kinds t le all e cs q =
        let there : t.operand < length kinds = slice_get_within kinds t.operand (TypedKind t.kind) e in
        let before : IsBefore m.types c t.kind =
        subst (IsKind m.types c) (get_or_from_slice_get kinds t.operand (TypedKind t.kind) (TypedKind t.kind) e) (All-get_or (IsKind m.types c) kinds t.operand (TypedKind t.kind) there all)
        in
        All-weaker (λ d. d < c) (λ d. d < top) (λ d lt. omega arith) cs (subst (All (λ d. d < c)) (same_Some before.0 cs (sym before.1 ∙ q)) before.3)

    -- what is found for low types spells an operand of them
    record FindsLow (find : Finder) : Type 0 where
      found : (t : ℕ) (bytes : List ℕ) → IsLow t → IfSome (find t bytes) (λ r. Spell m (TypedKind t ∷ []) (r.constructor ∷ r.leaves))

    coded-spelled : (find : Finder) → FindsLow find → (bytes : List ℕ) (c : ℕ) (k : Coded) → c ≤ top → slice_get enc.constructors c ≡ Some k
        → IfSome (option_map (λ r. record { constructor = c; leaves = r.0; len = r.1 }) (first_taken find enc.order k.alternatives bytes)) (IsTaken c)
    coded-spelled find finds bytes c k le e =
        let f = form-of c k e in
        let kinds : All (IsKind m.types c) k.kinds = subst (All (IsKind m.types c)) f.kinds (sound.machine.forms c f.form f.at).kinds in
        let few = few-kinds c k e in
        IfSome-map (λ r. record { constructor = c; leaves = r.0; len = r.1 }) (first_taken find enc.order k.alternatives bytes) (λ r. Spell m k.kinds r.0) (IsTaken c)
        (first-spelled m k.kinds few find (record { found = λ t bytes typed. finds.found t.kind bytes (typed-low c k.kinds t le kinds typed) }) enc.order k.alternatives bytes (sound.encodings.each c k e).each)
        (λ r s. record { is = refl; form = f.form; at = f.at; spelled = subst (λ (kinds : List OperandKind). Spell m kinds r.0) (sym f.kinds) s })

    constructor-spelled : (find : Finder) → FindsLow find → (bytes : List ℕ) (c : ℕ) → c ≤ top → IfSome (constructor_taken find enc bytes c) (IsTaken c)
    constructor-spelled find finds bytes c le =
        IfSome-then (λ k. option_map (λ r. record { constructor = c; leaves = r.0; len = r.1 }) (first_taken find enc.order k.alternatives bytes)) (slice_get enc.constructors c)
        (λ k. slice_get enc.constructors c ≡ Some k) (IsTaken c) (IfSome-any (slice_get enc.constructors c) (λ k. slice_get enc.constructors c ≡ Some k) (λ k e. e))
        (λ k e. coded-spelled find finds bytes c k le e)

    -- a constructor of a low type, and its operands behind it
    typed-spelled : (t c : ℕ) (r : Taken) → IsLow t → IsMember t c → IsTaken c r → Spell m (TypedKind t ∷ []) (r.constructor ∷ r.leaves)
    typed-spelled t c r low member taken =
        let s = sound.machine.forms c taken.form taken.at in
        let template : IsSoundTemplate m sound.machine.stands t taken.form.kinds taken.form.template =
        subst (λ (t : ℕ). IsSoundTemplate m sound.machine.stands t taken.form.kinds taken.form.template) member.type s.template
        in
        subst (λ (d : ℕ). Spell m (TypedKind t ∷ []) (d ∷ r.leaves)) (sym taken.is)
        (taken.form, of-type t c member, taken.at, stands-for t sound.machine.stands taken.form.kinds taken.form.template (low-positive t low) template, rw append-nil taken.spelled)

    type-spelled : (find : Finder) → FindsLow find → (t : ℕ) (bytes cs : List ℕ) → IsLow t → slice_get enc.types t ≡ Some cs
        → IfSome (first_matching (constructor_taken find enc bytes) cs) (λ r. Spell m (TypedKind t ∷ []) (r.constructor ∷ r.leaves))
    unfolding IsLow
    type-spelled find finds t bytes cs low e =
        let below : All (λ c. c < top) cs = low cs (ap (λ types. slice_get types t) sound.types ∙ e) in
        first-matching (constructor_taken find enc bytes) (λ r. Spell m (TypedKind t ∷ []) (r.constructor ∷ r.leaves)) cs
        (λ i d lt. each (get_or cs i d) (below i d lt) (members t cs e i d lt))
      where
        each : (c : ℕ) → c < top → IsMember t c → IfSome (constructor_taken find enc bytes c) (λ r. Spell m (TypedKind t ∷ []) (r.constructor ∷ r.leaves))
        each c lt member =
            IfSome_then (constructor_taken find enc bytes c) {P = IsTaken c} {Q = λ r. Spell m (TypedKind t ∷ []) (r.constructor ∷ r.leaves)}
            (constructor-spelled find finds bytes c (omega arith)) (λ r taken. typed-spelled t c r low member taken)

    finds-low : (deep : ℕ) → FindsLow (type_taken deep enc)
    unfolding type_taken
    finds-low zero = record { found = λ t bytes low. tt }
    finds-low (suc deep) = record {
      found = λ t bytes low. IfSome-then (first_matching (constructor_taken (type_taken deep enc) enc bytes)) (slice_get enc.types t) (λ cs. slice_get enc.types t ≡ Some cs)
          (λ r. Spell m (TypedKind t ∷ []) (r.constructor ∷ r.leaves)) (IfSome-any (slice_get enc.types t) (λ cs. slice_get enc.types t ≡ Some cs) (λ cs e. e))
          (λ cs e. type-spelled (type_taken deep enc) (finds-low deep) t bytes cs low e);
    }

  -- ---- instructions

  one-of : (c : ℕ) (r : Taken) → IsMember 0 c → IsTaken c r → IsOneOf m (inst_of r)
  one-of c r member taken =
      let s = sound.machine.forms c taken.form taken.at in
      record {
        form = taken.form;
        at = ap (slice_get m.forms) taken.is ∙ taken.at;
        acts = acts (sound.machine.types.type_of c) sound.machine.stands taken.form.kinds taken.form.template member.type s.template;
        operands = taken.spelled;
      }

  instruction-spelled : (deep : ℕ) (bytes : List ℕ) → IfSome (type_taken deep enc 0 bytes) (λ r. IsOneOf m (inst_of r))
  unfolding type_taken
  instruction-spelled zero bytes = tt
  instruction-spelled (suc deep) bytes =
      IfSome-then (first_matching (constructor_taken (type_taken deep enc) enc bytes)) (slice_get enc.types 0) (λ cs. slice_get enc.types 0 ≡ Some cs)
      (λ r. IsOneOf m (inst_of r)) (IfSome-any (slice_get enc.types 0) (λ cs. slice_get enc.types 0 ≡ Some cs) (λ cs e. e))
      (λ cs e. first-matching (constructor_taken (type_taken deep enc) enc bytes) (λ r. IsOneOf m (inst_of r)) cs (λ i d lt. each (get_or cs i d) (members 0 cs e i d lt)))
    where
      each : (c : ℕ) → IsMember 0 c → IfSome (constructor_taken (type_taken deep enc) enc bytes c) (λ r. IsOneOf m (inst_of r))
      each c member =
          IfSome_then (constructor_taken (type_taken deep enc) enc bytes c) {P = IsTaken c} {Q = λ r. IsOneOf m (inst_of r)}
          (constructor-spelled c member (type_taken deep enc) (finds-low c member deep) bytes c (omega arith)) (λ r taken. one-of c r member taken)

pub matches-spell : (enc : Encodings) (m : Machine) (bytes : List ℕ) (t : Taken) → AreSound enc m → instruction enc bytes ≡ Some t → IsOneOf m (inst_of t)
matches-spell enc m bytes t sound e =
    let P : Option Taken → Type 0 = λ o. IfSome o (λ r. IsOneOf m (inst_of r)) in
    subst P e (instruction-spelled enc m sound (length enc.constructors) bytes)
