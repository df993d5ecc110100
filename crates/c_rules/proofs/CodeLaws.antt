-- The rules of prototypes and functions, by what the code knows of them.
use Rattle.std.proofs.Common.{◌≡◌, ℕ, zero, suc, ◌+◌, ◌<◌, Bool, true, false, cond, ◌||◌, List, [], ◌∷◌, ◌++◌, length, get_or, map, take, Option, Some, None, refl, sym, ap, ◌∙◌, subst, rules, ◌⊎◌, inl, inr}
use Rattle.std.specs.Prelude.{◌==◌, nat_eq, nat_lt, is_some, option_map, slice_get}
use Rattle.std.specs.List.{list_all, list_any}
use Rattle.std.specs.Option.{option_or, option_map_or}
use Rattle.std.specs.HashMap.{HashMap}
use Rattle.std.proofs.lemmas.Bool.{and_parts, cases_Bool, true≢false, eqb-true, eq-eqb}
use Rattle.std.proofs.lemmas.List.{take_more}
use Rattle.indexmap.specs.IndexMap.{get}
use Rattle.rtl_core.specs.declared.point.Point.{Point}
use Rattle.rtl_core.specs.declared.point.Slot.{Slot}
use Rattle.rtl_core.specs.declared.point.Slot.TheVariants.{Seq, To, Dyn, CallTo, CallDyn, Ret}
use Rattle.c_lang.specs.declared.tree.CBlock.{CBlock}
use Rattle.c_lang.specs.declared.tree.Function.{Function}
use Rattle.c_lang.specs.declared.tree.Var.{Var}
use Rattle.c_lang.specs.declared.tree.Var.TheVariants.{Ra, Pt, Cell, Temp, Result, Wn, Depth, ServeR, ServeE}
use Rattle.c_lang.specs.Items.{Text, Prototype, Declared, Defined, Main, Mention, Name, Calling, Access, Label, prototype_of, block_mentions, mentions, together}
use Rattle.c_lang.specs.State.{has, declares}
use Rattle.c_lang.specs.Step.{same_point, same_slot}
use Rattle.c_lang.specs.StaticRules.{broken_by, first_failed, is_counted, is_declared, is_like, no_two, prototype_at, is_access}
use Rattle.c_rules.specs.declared.scope.Scope.{Scope}
use Rattle.c_rules.specs.declared.scope.Kept.{Kept}
use Rattle.c_rules.specs.Distinct.{Holds}
use Rattle.c_rules.specs.Scopes.{Lists, function_failed, has_count, has_name, has_size, kept, names, same_label}
use Rattle.std.proofs.lemmas.List.Folds.{list_any-append}

-- ---- prototypes by their addresses

has_listed : (ps : List Prototype) (x : ℕ) → has (map (λ q. q.entry) ps) x ≡ is_some (prototype_at ps x)
has_listed [] x = refl
has_listed (p ∷ ps) x = by (p.entry == x) (has_listed ps x)
  where
    by : (b : Bool) → has (map (λ q. q.entry) ps) x ≡ is_some (prototype_at ps x) → (b || has (map (λ q. q.entry) ps) x) ≡ is_some (cond b (Some p) (prototype_at ps x))
    by true e = refl
    by false e = e

some_map : {A B : Type 0} (f : A → B) (o : Option A) → is_some (option_map f o) ≡ is_some o
some_map f None = refl
some_map f (Some x) = refl

none_map : {A B : Type 0} (f : A → B) (o : Option A) → option_map f o ≡ None → o ≡ None
none_map f None e = refl
none_map f (Some x) e = absurd cc

at_more : (ps : List Prototype) (p : Prototype) (x : ℕ) → prototype_at (ps ++ p ∷ []) x ≡ option_or (prototype_at ps x) (cond (p.entry == x) (Some p) None)
at_more [] p x = refl
at_more (q ∷ ps) p x = by (q.entry == x) (at_more ps p x)
  where
    by : (b : Bool) → prototype_at (ps ++ p ∷ []) x ≡ option_or (prototype_at ps x) (cond (p.entry == x) (Some p) None) → cond b (Some q) (prototype_at (ps ++ p ∷ []) x) ≡ option_or (cond b (Some q) (prototype_at ps x)) (cond (p.entry == x) (Some p) None)
    by true e = refl
    by false e = e

abbrev count : Prototype → ℕ
count p = length p.params

pub lists_none : {S : Type 0} (calls : HashMap ℕ ℕ S) → calls.entries ≡ [] → Lists calls []
lists_none calls e = record { same = λ x. rw e refl }

pub lists_more : {S : Type 0} (calls new : HashMap ℕ ℕ S) (ps : List Prototype) (p : Prototype) → Lists calls ps → get nat_eq calls p.entry ≡ None → ((q : ℕ) → get nat_eq new q ≡ cond (nat_eq p.entry q) (Some (count p)) (get nat_eq calls q))
    → Lists new (ps ++ p ∷ [])
lists_more calls new ps p l none updates = record { same = λ x. updates x ∙ by x (cases_Bool (p.entry == x)) ∙ sym (ap (option_map count) (at_more ps p x)) }
  where
    absent : prototype_at ps p.entry ≡ None
    absent = none_map count (prototype_at ps p.entry) (sym (l.same p.entry) ∙ none)

    or_none : (o : Option Prototype) → option_or o None ≡ o
    or_none None = refl
    or_none (Some x) = refl

    by : (x : ℕ) → ((p.entry == x) ≡ true) ⊎ ((p.entry == x) ≡ false) → cond (nat_eq p.entry x) (Some (count p)) (get nat_eq calls x) ≡ option_map count (option_or (prototype_at ps x) (cond (p.entry == x) (Some p) None))
    by x (inl e) = rw (e, subst (λ y. prototype_at ps y ≡ None) (eqb-true p.entry x e) absent) refl
    by x (inr e) = rw (e, or_none (prototype_at ps x)) (l.same x)

-- the map of one prototype more, read from an equal list
pub listed_more : {S : Type 0} (calls : HashMap ℕ ℕ S) (xs ys : List Prototype) (same : ys ≡ xs) (i : ℕ) (p : Prototype) → i < length ys → p ≡ get_or ys i p → Lists calls (take i xs ++ p ∷ []) → Lists calls (take (i + 1) xs)
listed_more calls xs ys same i p l is h =
    let at : p ≡ get_or xs i p = subst (λ zs. p ≡ get_or zs i p) same is in
    subst (Lists calls) (sym (take_more xs i p (subst (λ zs. i < length zs) same l) ∙ ap (λ q. take i xs ++ q ∷ []) (sym at))) h

-- a look-up by an equal address, and what an insert changes
pub looked : {S : Type 0} (calls : HashMap ℕ ℕ S) (key entry : ℕ) (old : Option ℕ) (b there : Bool) → key ≡ entry → old ≡ get nat_eq calls key → b ≡ is_some old → b ≡ there → is_some (get nat_eq calls entry) ≡ there
looked calls key entry old b there e f g h = ap (λ k. is_some (get nat_eq calls k)) (sym e) ∙ ap is_some (sym f) ∙ sym g ∙ h

none_at : {A : Type 0} (o : Option A) → is_some o ≡ false → o ≡ None
none_at None e = refl
none_at (Some x) e = absurd cc

pub none_there : {S : Type 0} (calls : HashMap ℕ ℕ S) (entry : ℕ) → is_some (get nat_eq calls entry) ≡ false → get nat_eq calls entry ≡ None
none_there calls entry e = none_at (get nat_eq calls entry) e

pub updated : {S : Type 0} (calls new : HashMap ℕ ℕ S) (key entry value n : ℕ) → key ≡ entry → value ≡ n → ((q : ℕ) → get nat_eq new q ≡ cond (nat_eq key q) (Some value) (get nat_eq calls q))
    → (q : ℕ) → get nat_eq new q ≡ cond (nat_eq entry q) (Some n) (get nat_eq calls q)
updated calls new key entry value n e f u q = u q ∙ (λ i. cond (nat_eq (e i) q) (Some (f i)) (get nat_eq calls q))

-- ---- the rules of a prototype

module _ (t : Text) (k : ℕ) (p : Prototype) where
  pub prototype_twice : no_two (λ x y. x == y) p.params ≡ false → Some 1 ≡ broken_by t (Declared k p)
  prototype_twice e = rw e refl

  pub prototype_again : {S : Type 0} (calls : HashMap ℕ ℕ S) → Lists calls (take k t.prototypes) → no_two (λ x y. x == y) p.params ≡ true → is_some (get nat_eq calls p.entry) ≡ true → Some 1 ≡ broken_by t (Declared k p)
  prototype_again calls l once e =
      let there : has (map (λ q. q.entry) (take k t.prototypes)) p.entry ≡ true =
      has_listed (take k t.prototypes) p.entry ∙ sym (some_map count (prototype_at (take k t.prototypes) p.entry)) ∙ ap is_some (sym (l.same p.entry)) ∙ e in
      rw (once, there) refl

  module _ {S : Type 0} (calls : HashMap ℕ ℕ S) (l : Lists calls (take k t.prototypes)) (once : no_two (λ x y. x == y) p.params ≡ true) (none : get nat_eq calls p.entry ≡ None) (fs : List Function) (same : t.functions ≡ fs) where
    there : has (map (λ q. q.entry) (take k t.prototypes)) p.entry ≡ false
    there = has_listed (take k t.prototypes) p.entry ∙ sym (some_map count (prototype_at (take k t.prototypes) p.entry)) ∙ ap is_some (sym (l.same p.entry) ∙ none)

    pub prototype_unlike : is_like p (option_map prototype_of (slice_get fs k)) ≡ false → Some 2 ≡ broken_by t (Declared k p)
    prototype_unlike e = rw (once, there, same, e) refl

    pub prototype_kept : is_like p (option_map prototype_of (slice_get fs k)) ≡ true → None ≡ broken_by t (Declared k p)
    prototype_kept e = rw (once, there, same, e) refl

-- ---- the first call

module _ {S : Type 0} (t : Text) (calls : HashMap ℕ ℕ S) (l : Lists calls t.prototypes) (entry : ℕ) (first : List ℕ) where
  main_by : (o : Option Prototype) (n : ℕ) → prototype_at t.prototypes entry ≡ o → n ≡ length first → (cond (is_some o) (cond (option_map_or (λ c. n == c) (option_map count o) true) None (Some 3)) (Some 2)) ≡ broken_by t (Main entry first)
  main_by None n e f = rw e refl
  main_by (Some p) n e f = rw (e, f) (by (length first == count p))
    where
      by : (b : Bool) → cond b None (Some 3) ≡ first_failed 1 (true ∷ true ∷ b ∷ true ∷ true ∷ true ∷ [])
      by true = refl
      by false = refl

-- ---- points

no_true : {P : Type 0} → false ≡ true → P
no_true h = absurd (true≢false (sym h))

slot_true : (a b : Slot) → same_slot a b ≡ true → a ≡ b
slot_true Seq Seq h = refl
slot_true (To t) (To u) h = ap To (eqb-true t u h)
slot_true (Dyn t) (Dyn u) h = ap Dyn (eqb-true t u h)
slot_true (CallTo t r) (CallTo u q) h = let l = and_parts (t == u) (r == q) h in (λ i. CallTo (eqb-true t u l.0 i) (eqb-true r q l.1 i))
slot_true (CallDyn t) (CallDyn u) h = ap CallDyn (eqb-true t u h)
slot_true Ret Ret h = refl
slot_true a b h = no_true h

slot_itself : (a : Slot) → same_slot a a ≡ true
slot_itself Seq = refl
slot_itself (To t) = eq-eqb t t refl
slot_itself (Dyn t) = eq-eqb t t refl
slot_itself (CallTo t r) = rw (eq-eqb t t refl, eq-eqb r r refl) refl
slot_itself (CallDyn t) = eq-eqb t t refl
slot_itself Ret = refl

abbrev point : ℕ → Slot → Point
point pc slot = record { pc = pc; slot = slot }

point_true : (a b : Point) → same_point a b ≡ true → a ≡ b
point_true a b h = let l = and_parts (a.pc == b.pc) (same_slot a.slot b.slot) h in (λ i. point (eqb-true a.pc b.pc l.0 i) (slot_true a.slot b.slot l.1 i))

point_itself : (a : Point) → same_point a a ≡ true
point_itself a = rw (eq-eqb a.pc a.pc refl, slot_itself a.slot) refl

label_true : (a b : Point) → same_label a b ≡ true → a ≡ b
label_true a b h = search rules

label_itself : (a : Point) → same_label a a ≡ true
label_itself a = search rules

-- two tests that hold of equal points alone are one
same_labels : (a b : Point) → same_label a b ≡ same_point b a
same_labels a b = by (cases_Bool (same_label a b)) (cases_Bool (same_point b a))
  where
    by : (same_label a b ≡ true) ⊎ (same_label a b ≡ false) → (same_point b a ≡ true) ⊎ (same_point b a ≡ false) → same_label a b ≡ same_point b a
    by (inl e) (inl f) = e ∙ sym f
    by (inr e) (inr f) = e ∙ sym f
    by (inl e) (inr f) = absurd (true≢false (sym (subst (λ c. same_point c a ≡ true) (label_true a b e) (point_itself a)) ∙ f))
    by (inr e) (inl f) = absurd (true≢false (sym (subst (λ c. same_label a c ≡ true) (sym (point_true b a f)) (label_itself a)) ∙ e))

either_way : (a b : Point) → same_label a b ≡ same_point a b
either_way a b = by (cases_Bool (same_label a b)) (cases_Bool (same_point a b))
  where
    by : (same_label a b ≡ true) ⊎ (same_label a b ≡ false) → (same_point a b ≡ true) ⊎ (same_point a b ≡ false) → same_label a b ≡ same_point a b
    by (inl e) (inl f) = e ∙ sym f
    by (inr e) (inr f) = e ∙ sym f
    by (inl e) (inr f) = absurd (true≢false (sym (subst (λ c. same_point a c ≡ true) (label_true a b e) (point_itself a)) ∙ f))
    by (inr e) (inl f) = absurd (true≢false (sym (subst (λ c. same_label a c ≡ true) (point_true a b f) (label_itself a)) ∙ e))

same_any : {A : Type 0} (p q : A → Bool) (xs : List A) → ((x : A) → p x ≡ q x) → list_any p xs ≡ list_any q xs
same_any p q [] h = refl
same_any p q (x ∷ xs) h = rw (h x, same_any p q xs h) refl

same_all : {A : Type 0} (p q : A → Bool) (xs : List A) → ((x : A) → p x ≡ q x) → list_all p xs ≡ list_all q xs
same_all p q [] h = refl
same_all p q (x ∷ xs) h = rw (h x, same_all p q xs h) refl

same_no_two : {A : Type 0} (p q : A → A → Bool) (xs : List A) → ((x y : A) → p x y ≡ q x y) → no_two p xs ≡ no_two q xs
same_no_two p q [] h = refl
same_no_two p q (x ∷ xs) h = rw (same_any (p x) (q x) xs (h x), same_no_two p q xs h) refl

any_mapped : {A B : Type 0} (p : B → Bool) (f : A → B) (xs : List A) → list_any p (map f xs) ≡ list_any (λ x. p (f x)) xs
any_mapped p f [] = refl
any_mapped p f (x ∷ xs) = rw (any_mapped p f xs) refl

-- ---- what a function mentions

pub record Knows (s : Scope) (t : Text) (f : Function) : Type 0 where
  pub cells : Holds nat_eq s.cells.now (f.params ++ f.cells)
  pub temps : s.temps ≡ f.temps
  pub labels : Holds same_label s.labels.now (map (λ b. b.label) f.blocks)
  pub calls : Lists s.calls.now t.prototypes

turned : (x y : ℕ) → nat_eq x y ≡ (y == x)
turned x y = by (cases_Bool (x == y)) (cases_Bool (y == x))
  where
    by : ((x == y) ≡ true) ⊎ ((x == y) ≡ false) → ((y == x) ≡ true) ⊎ ((y == x) ≡ false) → (x == y) ≡ (y == x)
    by (inl a) (inl b) = a ∙ sym b
    by (inr a) (inr b) = a ∙ sym b
    by (inl a) (inr b) = a ∙ sym (eq-eqb y x (sym (eqb-true x y a)))
    by (inr a) (inl b) = eq-eqb x y (sym (eqb-true y x b)) ∙ sym b

module _ (s : Scope) (t : Text) (f : Function) (k : Knows s t f) where
  name_is : (v : Var) → names s v ≡ declares f v
  name_is Ra = refl
  name_is Pt = refl
  name_is (Cell i) =
      k.cells.same i ∙ list_any-append (nat_eq i) f.params f.cells
      ∙ (λ j. same_any (nat_eq i) (λ x. x == i) f.params (turned i) j || same_any (nat_eq i) (λ x. x == i) f.cells (turned i) j)
  name_is (Temp i) = ap (nat_lt i) k.temps
  name_is (Result i) = refl
  name_is Wn = refl
  name_is Depth = refl
  name_is ServeR = refl
  name_is ServeE = refl

  mention_is : (m : Mention) → has_name s m ≡ is_declared t f m
  mention_is (Name v) = name_is v
  mention_is (Calling entry n) = ap is_some (k.calls.same entry) ∙ some_map count (prototype_at t.prototypes entry)
  mention_is (Access n) = refl
  mention_is (Label to) =
      k.labels.same to ∙ any_mapped (same_label to) (λ b. b.label) f.blocks ∙ same_any (λ b. same_label to b.label) (λ b. same_point b.label to) f.blocks (λ b. same_labels to b.label)

  counted_by : (o : Option Prototype) (n : ℕ) → option_map_or (λ c. n == c) (option_map count o) true ≡ option_map_or (λ p. n == length p.params) o true
  counted_by None n = refl
  counted_by (Some p) n = refl

  count_is : (m : Mention) → has_count s m ≡ is_counted t m
  count_is (Name v) = refl
  count_is (Calling entry zero) = refl
  count_is (Calling entry (suc n)) = ap (λ o. option_map_or (λ c. n == c) o true) (k.calls.same entry) ∙ counted_by (prototype_at t.prototypes entry) n
  count_is (Access n) = refl
  count_is (Label to) = refl

  size_is : (m : Mention) → has_size m ≡ is_access m
  size_is (Name v) = refl
  size_is (Calling entry n) = refl
  size_is (Access n) = refl
  size_is (Label to) = refl

  abbrev told : Kept
  told = kept s (mentions f)

  known_is : told.known ≡ list_all (is_declared t f) (mentions f)
  known_is = same_all (has_name s) (is_declared t f) (mentions f) mention_is

  counted_is : told.counted ≡ list_all (is_counted t) (mentions f)
  counted_is = same_all (has_count s) (is_counted t) (mentions f) count_is

  sized_is : told.sized ≡ list_all is_access (mentions f)
  sized_is = same_all has_size is_access (mentions f) size_is

  -- where nothing is declared twice
  pub function_kept : (place : ℕ) (ps : List Prototype) → t.prototypes ≡ ps → no_two (λ x y. x == y) (f.params ++ f.cells) ≡ true → no_two same_label (map (λ b. b.label) f.blocks) ≡ true
      → function_failed f (is_like (prototype_of f) (slice_get ps place)) told ≡ broken_by t (Defined place f)
  function_kept place ps same once labels =
      let apart : no_two same_point (map (λ b. b.label) f.blocks) ≡ true = sym (same_no_two same_label same_point (map (λ b. b.label) f.blocks) either_way) ∙ labels in
      rw (known_is, counted_is, sized_is, once, apart, same) refl

pub function_twice : (t : Text) (place : ℕ) (f : Function) → no_two (λ x y. x == y) (f.params ++ f.cells) ≡ false → Some 1 ≡ broken_by t (Defined place f)
function_twice t place f e = rw e refl

pub labels_twice : (t : Text) (place : ℕ) (f : Function) → no_two (λ x y. x == y) (f.params ++ f.cells) ≡ true → no_two same_label (map (λ b. b.label) f.blocks) ≡ false → Some 1 ≡ broken_by t (Defined place f)
labels_twice t place f once e =
    let twice : no_two same_point (map (λ b. b.label) f.blocks) ≡ false = sym (same_no_two same_label same_point (map (λ b. b.label) f.blocks) either_way) ∙ e in
    rw (once, twice) refl

-- the rule of a function by what the code knows of it
pub rule_is : (t : Text) (place : ℕ) (f : Function) (ps : List Prototype) (s : Scope) (k : Kept) (bs : List CBlock) → k ≡ kept s (together (map block_mentions bs)) → bs ≡ f.blocks → Knows s t f → t.prototypes ≡ ps
    → no_two (λ x y. x == y) (f.params ++ f.cells) ≡ true → no_two same_label (map (λ b. b.label) f.blocks) ≡ true → (declared : Bool) → declared ≡ is_like (prototype_of f) (slice_get ps place) → (o : Option ℕ) → o ≡ function_failed f declared k
    → o ≡ broken_by t (Defined place f)
rule_is t place f ps s k bs e same knows protos once labels declared is o g =
    g ∙ ap (λ b. function_failed f b k) is ∙ ap (function_failed f (is_like (prototype_of f) (slice_get ps place))) (e ∙ ap (λ cs. kept s (together (map block_mentions cs))) same)
    ∙ function_kept s t f knows place ps protos once labels
