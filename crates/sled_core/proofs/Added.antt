-- One constructor more.
use Rattle.std.proofs.Common.{◌≡◌, ◌≢◌, ℕ, zero, suc, ◌+◌, ◌<◌, ◌≤◌, ◌==◌, ◌||◌, ◌⊎◌, inl, inr, max, cond, Bool, true, false, List, [], ◌∷◌, ◌++◌, Option, Some, None, length, fold, ap, refl, sym, subst, ◌∙◌, arith, length-set, codes}
use Rattle.std.specs.Prelude.{All, slice_get, slice_set, sum_by, unwrap_or}
use Rattle.std.proofs.lemmas.List.{length-append}
use Rattle.std.proofs.lemmas.List.Elements.{All-nil, All-cons, All-head, All-tail, All-append, All-weaker}
use Rattle.std.proofs.lemmas.Bool.{eqb-true, eqb-false}
use Rattle.std.proofs.lemmas.Option.{slice_get_within}
use Rattle.rtl_core.proofs.GroundPlaces.{All-slice_get}
use Rattle.rtl_core.specs.declared.encodings.OperandKind.{OperandKind}
use Rattle.rtl_core.specs.declared.encodings.OperandKind.TheVariants as K
use Rattle.rtl_core.specs.declared.encodings.Coded.{Coded}
use Rattle.rtl_core.specs.declared.encodings.Item.{Item}
use Rattle.rtl_core.specs.SoundEncodings.{IsKind, IsSoundAlternative, IsSoundCoded, IsWithin, item_size, list_size}
use Rattle.sled_rules.specs.declared.facts.Facts.{Facts}
use Rattle.sled_rules.specs.declared.meaning.Start.TheVariants.{Nothing}
use Rattle.sled_rules.specs.declared.meaning.Meaning.{Meaning}
use Rattle.sled_rules.specs.declared.meaning.Meaning.TheVariants as means
use Rattle.sled_rules.specs.declared.known.Known.{Known}
use Rattle.sled_rules.specs.declared.known.Size.{Size}
use Rattle.sled_rules.specs.Meanings.{named, is_given}
use Rattle.sled_rules.specs.Operands.{is_listed}
use Rattle.sled_rules.specs.Sizes.{longest_of, most_of}
use Rattle.sled_rules.specs.Counts.{IsCounted}
use Rattle.sled_rules.specs.Known.{grow, mark, with_coded}
use Rattle.sled_rules.specs.Faults.{is_used}
use Rattle.sled_core.proofs.Full.{Full}
use Rattle.sled_core.proofs.Lookups.{get_push, set_same}
use Rattle.sled_core.proofs.Patterns.{all_both}
use Rattle.sled_core.proofs.Types.{AreOf, IsNot, IsOpen, kind_added, open_added, typed_by, typed_last, typed_old, types_added}
use Rattle.sled_core.proofs.Sizes.{HasFacts, IsGrown, IsMarked, IsMarkedKind, all_marked, fold_marked, grow_grown, items_same, kind_stays, list_same, marked_from}
use Rattle.sled_core.proofs.Known.{HasSoundMeaning, IsEntry, IsSoundKnown, entry_weaker, given_last, given_left}

-- what is known where the type t of the next constructor is there, and nothing else has changed
pub record IsOpened (k next : Known) (s : IsSoundKnown k) (ops : List (List ℕ)) (t : ℕ) : Type 0 where
  pub constructors : next.constructors ≡ k.constructors
  pub cs : List ℕ
  pub at : slice_get next.types t ≡ Some cs
  pub types : AreOf s.type_of next.types (length k.constructors)
  pub facts : length next.facts ≡ length next.types
  pub most : (u : ℕ) → most_of next.facts u ≡ most_of k.facts u
  pub longest : (u : ℕ) → longest_of next.facts u ≡ longest_of k.facts u
  pub used : (u : ℕ) → is_used next.facts u ≡ is_used k.facts u
  pub unused : is_used k.facts t ≡ false
  pub kinds : (c : ℕ) (kind : OperandKind) → IsKind k.types c kind → IsKind next.types c kind
  pub meanings : All HasSoundMeaning next.names
  pub name_of : ℕ → List ℕ
  pub instructions : name_of 0 ≡ codes "instruction"
  pub entries : All (IsEntry name_of (λ u. IsOpen next.types u ⊎ (u ≡ t))) next.names
  pub given : (name : List ℕ) → is_given k.names name ≡ true → is_given next.names name ≡ true
  pub same : (u : ℕ) → u ≢ t → name_of u ≡ s.name_of u
  pub fresh : (name : List ℕ) (u : ℕ) → is_listed ops name ≡ true → named k.names name ≡ Some (means.Type u) → u ≢ t

-- a constructor that fits what is known
pub record IsNew (k next : Known) (s : IsSoundKnown k) (t : ℕ) (size : Size) (c : Coded) : Type 0 where
  pub fresh : is_given next.names c.name ≡ false
  pub kinds : All (IsKind k.types (length k.constructors)) c.kinds
  pub other : All (IsNot t) c.kinds
  pub named : All (λ kind. (u : ℕ) → kind ≡ K.Typed u → is_given k.names (s.name_of u) ≡ true) c.kinds
  pub rows : Full (IsSoundAlternative c.kinds) c.alternatives
  pub few : length c.alternatives ≤ 256
  pub numbers : size.numbers ≡ list_size (most_of k.facts) c.kinds
  pub least : size.numbers ≤ 8
  pub bytes : All (λ items. sum_by (item_size (longest_of k.facts)) items ≤ size.bytes) c.alternatives
  pub short : size.bytes ≤ 32
  pub counted : IsCounted (with_coded t size c next)

module _ (k next : Known) (s : IsSoundKnown k) (ops : List (List ℕ)) (t : ℕ) (size : Size) (c : Coded) (o : IsOpened k next s ops t) (w : IsNew k next s t size c) where
  abbrev n : ℕ
  n = length k.constructors

  abbrev after : Known
  after = with_coded t size c next

  types_are : after.types ≡ slice_set next.types t (o.cs ++ n ∷ [])
  types_are = ap (λ l. slice_set next.types t (unwrap_or l [] ++ length next.constructors ∷ [])) o.at ∙ ap (λ l. slice_set next.types t (o.cs ++ length l ∷ [])) o.constructors

  constructors_are : after.constructors ≡ k.constructors ++ c ∷ []
  constructors_are = ap (λ l. l ++ c ∷ []) o.constructors

  -- ---- what is known of types

  inside : t < length next.types
  inside = slice_get_within next.types t o.cs o.at

  grown : IsGrown next.facts (grow next.facts t size) t size
  grown = grow_grown next.facts t size (get_at next.facts t) (there next.facts t (subst (λ m. t < m) (sym o.facts) inside))
    where
      get_at : (fs : List Facts) (t : ℕ) → Facts
      get_at fs t = unwrap_or (slice_get fs t) (record { start = Nothing; most = 0; longest = 0; used = false })

      there : (fs : List Facts) (t : ℕ) → t < length fs → slice_get fs t ≡ Some (get_at fs t)
      there [] t h = absurd (omega (arith, h))
      there (f ∷ fs) zero h = refl
      there (f ∷ fs) (suc t) h = there fs t (omega (arith, h))

  marks : IsMarked (grow next.facts t size) after.facts
  marks = fold_marked (grow next.facts t size) c.kinds

  most_other : (u : ℕ) → u ≢ t → most_of after.facts u ≡ most_of k.facts u
  most_other u h = marks.most u ∙ grown.most_other u h ∙ o.most u

  longest_other : (u : ℕ) → u ≢ t → longest_of after.facts u ≡ longest_of k.facts u
  longest_other u h = marks.longest u ∙ grown.longest_other u h ∙ o.longest u

  most_here : most_of after.facts t ≡ max (most_of k.facts t) size.numbers
  most_here = marks.most t ∙ grown.most ∙ ap (λ m. max m size.numbers) (o.most t)

  longest_here : longest_of after.facts t ≡ max (longest_of k.facts t) size.bytes
  longest_here = marks.longest t ∙ grown.longest ∙ ap (λ m. max m size.bytes) (o.longest t)

  by_type : (P : ℕ → Type 0) → ((u : ℕ) → u ≢ t → P u) → P t → (u : ℕ) → P u
  by_type P other here u = by (u == t) refl
    where
      by : (b : Bool) → (u == t) ≡ b → P u
      by true e = subst P (sym (eqb-true u t e)) here
      by false e = other u (eqb-false u t e)

  more_most : (u : ℕ) → most_of k.facts u ≤ most_of after.facts u
  more_most = by_type (λ u. most_of k.facts u ≤ most_of after.facts u) (λ u h. omega (arith, most_other u h)) (omega (arith, most_here))

  more_longest : (u : ℕ) → longest_of k.facts u ≤ longest_of after.facts u
  more_longest = by_type (λ u. longest_of k.facts u ≤ longest_of after.facts u) (λ u h. omega (arith, longest_other u h)) (omega (arith, longest_here))

  used_after : (u : ℕ) → is_used k.facts u ≡ true → is_used after.facts u ≡ true
  used_after u h = marks.used u (grown.used u ∙ o.used u ∙ h)

  -- ---- older constructors

  not_used : (kind : OperandKind) → IsMarkedKind k.facts kind → IsNot t kind
  not_used (K.Field b) h = tt
  not_used (K.Typed u) h = λ e. let no : is_used k.facts u ≡ false = subst (λ v. is_used k.facts v ≡ false) (sym e) o.unused in cc (h, no)

  old_kinds : (i : ℕ) (ks : List OperandKind) → All (IsMarkedKind k.facts) ks → All (IsKind k.types i) ks → All (IsKind after.types i) ks
  old_kinds i ks m h =
      subst (λ ts. All (IsKind ts i) ks) (sym types_are)
      (all_both (IsMarkedKind k.facts) (IsKind k.types i) (IsKind (slice_set next.types t (o.cs ++ n ∷ [])) i) ks
      (λ kind p q. kind_added next.types i t (o.cs ++ n ∷ []) kind (not_used kind p) (o.kinds i kind q)) m h)

  old_coded : (i : ℕ) (j : Coded) → All (IsMarkedKind k.facts) j.kinds → IsSoundCoded k.types i j → IsSoundCoded after.types i j
  old_coded i j m h = record { kinds = old_kinds i j.kinds m h.kinds; some = h.some; few = h.few; each = h.each }

  old_within : (u : ℕ) (j : Coded) → All (IsMarkedKind k.facts) j.kinds → All (IsSoundAlternative j.kinds) j.alternatives → IsWithin (most_of k.facts) (longest_of k.facts) u j
      → IsWithin (most_of after.facts) (longest_of after.facts) u j
  old_within u j m rows h =
      let others : All (IsNot t) j.kinds = All-weaker (IsMarkedKind k.facts) (IsNot t) not_used j.kinds m in
      record {
        numbers = omega (arith, list_same (most_of k.facts) (most_of after.facts) t most_other j.kinds others, h.numbers, more_most u);
        bytes =
            all_both (IsSoundAlternative j.kinds) (λ items. sum_by (item_size (longest_of k.facts)) items ≤ longest_of k.facts u) (λ items. sum_by (item_size (longest_of after.facts)) items ≤ longest_of after.facts u)
            j.alternatives
            (λ items r b. omega (arith, items_same (longest_of k.facts) (longest_of after.facts) t longest_other j.kinds others items r.each, b, more_longest u)) rows h.bytes;
      }

  -- ---- the new one

  new_kinds : All (IsKind after.types n) c.kinds
  new_kinds =
      subst (λ ts. All (IsKind ts n) c.kinds) (sym types_are)
      (all_both (IsNot t) (IsKind k.types n) (IsKind (slice_set next.types t (o.cs ++ n ∷ [])) n) c.kinds
      (λ kind p q. kind_added next.types n t (o.cs ++ n ∷ []) kind p (o.kinds n kind q)) w.other w.kinds)

  new_coded : IsSoundCoded after.types n c
  new_coded = record { kinds = new_kinds; some = w.rows.some; few = w.few; each = w.rows.each }

  new_within : IsWithin (most_of after.facts) (longest_of after.facts) t c
  new_within = record {
    numbers = omega (arith, list_same (most_of k.facts) (most_of after.facts) t most_other c.kinds w.other, w.numbers, most_here);
    bytes =
        all_both (IsSoundAlternative c.kinds) (λ items. sum_by (item_size (longest_of k.facts)) items ≤ size.bytes) (λ items. sum_by (item_size (longest_of after.facts)) items ≤ longest_of after.facts t)
        c.alternatives
        (λ items r b. omega (arith, items_same (longest_of k.facts) (longest_of after.facts) t longest_other c.kinds w.other items r.each, b, longest_here)) w.rows.each w.bytes;
  }

  has_kind : (kind : OperandKind) → IsKind k.types n kind → HasFacts (grow next.facts t size) kind
  has_kind (K.Field b) h = tt
  has_kind (K.Typed u) h = let there = o.kinds n (K.Typed u) h in omega (arith, slice_get_within next.types u there.0 there.1, o.facts, grown.count)

  new_marked : All (IsMarkedKind after.facts) c.kinds
  new_marked = all_marked (grow next.facts t size) c.kinds (All-weaker (IsKind k.types n) (HasFacts (grow next.facts t size)) has_kind c.kinds w.kinds)

  -- ---- each constructor is an older one, or the new one

  by_constructor : (P : ℕ → Coded → Type 0) → ((i : ℕ) (j : Coded) → i < n → slice_get k.constructors i ≡ Some j → P i j) → P n c → (i : ℕ) (j : Coded) → slice_get after.constructors i ≡ Some j → P i j
  by_constructor P old new i j h = by (get_push k.constructors c i j (subst (λ l. slice_get l i ≡ Some j) constructors_are h))
    where
      by : (slice_get k.constructors i ≡ Some j) ⊎ ((i ≡ length k.constructors) × (c ≡ j)) → P i j
      by (inl e) = old i j (slice_get_within k.constructors i j e) e
      by (inr e) = subst (P i) e.1 (subst (λ m. P m c) (sym e.0) new)

  given_after : (name : List ℕ) → is_given k.names name ≡ true → is_given after.names name ≡ true
  given_after name h = given_left next.names ((c.name, means.Constructor) ∷ []) name (o.given name h)

  -- an older name is another
  name_differs : (i : ℕ) (j : Coded) → slice_get k.constructors i ≡ Some j → c.name ≡ j.name → ⊥
  name_differs i j h e =
      let there : is_given k.names j.name ≡ true = All-slice_get (λ d. is_given k.names d.name ≡ true) k.constructors i j h s.given in
      let yes_ : is_given next.names c.name ≡ true = subst (λ m. is_given next.names m ≡ true) (sym e) (o.given j.name there) in
      let no = w.fresh in
      cc (yes_, no)

  distinct_after : (a b : ℕ) (i j : Coded) → slice_get after.constructors a ≡ Some i → slice_get after.constructors b ≡ Some j → i.name ≡ j.name → a ≡ b
  distinct_after a b i j h g e =
      by_constructor (λ a i. (b : ℕ) (j : Coded) → slice_get after.constructors b ≡ Some j → i.name ≡ j.name → a ≡ b)
      (λ a i lt h. by_constructor (λ b j. i.name ≡ j.name → a ≡ b) (λ b j l g e. s.distinct a b i j h g e) (λ e. absurd (name_differs a i h (sym e))))
      (by_constructor (λ b j. c.name ≡ j.name → n ≡ b) (λ b j l g e. absurd (name_differs b j g e)) (λ e. refl)) a i h b j g e

  old_each : (i : ℕ) (j : Coded) → slice_get k.constructors i ≡ Some j → All (IsSoundAlternative j.kinds) j.alternatives
  old_each i j h = (s.each i j h).each

  named_after : (u : ℕ) → is_used after.facts u ≡ true → is_given after.names (o.name_of u) ≡ true
  named_after u h = marked_from (is_given after.names (o.name_of u) ≡ true) u c.kinds (grow next.facts t size) older newer h
    where
      older : is_used (grow next.facts t size) u ≡ true → is_given after.names (o.name_of u) ≡ true
      older m =
          let was : is_used k.facts u ≡ true = sym (o.used u) ∙ sym (grown.used u) ∙ m in
          let apart : u ≢ t = λ e. let no : is_used k.facts u ≡ false = subst (λ v. is_used k.facts v ≡ false) (sym e) o.unused in cc (was, no) in
          subst (λ l. is_given after.names l ≡ true) (sym (o.same u apart)) (given_after (s.name_of u) (s.named u was))

      one : (kind : OperandKind) → IsNot t kind → ((v : ℕ) → kind ≡ K.Typed v → is_given k.names (s.name_of v) ≡ true) → kind ≡ K.Typed u → is_given after.names (o.name_of u) ≡ true
      one kind apart g e =
          subst (λ l. is_given after.names l ≡ true) (sym (o.same u (subst (IsNot t) e apart))) (given_after (s.name_of u) (g u e))

      newer : All (λ kind. kind ≡ K.Typed u → is_given after.names (o.name_of u) ≡ true) c.kinds
      newer = all_both (IsNot t) (λ kind. (v : ℕ) → kind ≡ K.Typed v → is_given k.names (s.name_of v) ≡ true) (λ kind. kind ≡ K.Typed u → is_given after.names (o.name_of u) ≡ true) c.kinds one w.other w.named

  pub constructor_added : IsSoundKnown (with_coded t size c next)
  constructor_added = record {
    counted = w.counted;
    facts = marks.count ∙ grown.count ∙ o.facts ∙ sym (length-set next.types t (unwrap_or (slice_get next.types t) [] ++ length next.constructors ∷ []));
    meanings = All-append HasSoundMeaning next.names ((c.name, means.Constructor) ∷ []) o.meanings (All-cons HasSoundMeaning (c.name, means.Constructor) [] tt (All-nil HasSoundMeaning));
    name_of = o.name_of;
    instructions = o.instructions;
    entries =
        subst (λ ts. All (IsEntry o.name_of (IsOpen ts)) after.names) (sym types_are)
        (All-append (IsEntry o.name_of (IsOpen (slice_set next.types t (o.cs ++ n ∷ [])))) next.names ((c.name, means.Constructor) ∷ [])
        (All-weaker (IsEntry o.name_of (λ u. IsOpen next.types u ⊎ (u ≡ t))) (IsEntry o.name_of (IsOpen (slice_set next.types t (o.cs ++ n ∷ []))))
        (entry_weaker o.name_of o.name_of (λ u. IsOpen next.types u ⊎ (u ≡ t)) (IsOpen (slice_set next.types t (o.cs ++ n ∷ []))) (λ u h. refl) (λ u h. open_added next.types t n u o.cs o.at h)) next.names o.entries)
        (All-cons (IsEntry o.name_of (IsOpen (slice_set next.types t (o.cs ++ n ∷ [])))) (c.name, means.Constructor) [] tt (All-nil (IsEntry o.name_of (IsOpen (slice_set next.types t (o.cs ++ n ∷ [])))))));
    type_of = typed_by s.type_of n t;
    types =
        subst (λ ts. AreOf (typed_by s.type_of n t) ts (length after.constructors)) (sym types_are)
        (subst (AreOf (typed_by s.type_of n t) (slice_set next.types t (o.cs ++ n ∷ []))) (sym (ap length constructors_are ∙ length-append k.constructors (c ∷ [])))
        (types_added s.type_of next.types n t o.cs o.types o.at));
    given =
        subst (All (λ d. is_given after.names d.name ≡ true)) (sym constructors_are)
        (All-append (λ d. is_given after.names d.name ≡ true) k.constructors (c ∷ [])
        (All-weaker (λ d. is_given k.names d.name ≡ true) (λ d. is_given after.names d.name ≡ true) (λ d h. given_after d.name h) k.constructors s.given)
        (All-cons (λ d. is_given after.names d.name ≡ true) c [] (given_last next.names c.name means.Constructor) (All-nil (λ d. is_given after.names d.name ≡ true))));
    distinct = distinct_after;
    each = by_constructor (λ i j. IsSoundCoded after.types i j) (λ i j lt h. old_coded i j (s.marked i j h) (s.each i j h)) new_coded;
    marked =
        by_constructor (λ i j. All (IsMarkedKind after.facts) j.kinds)
        (λ i j lt h. All-weaker (IsMarkedKind k.facts) (IsMarkedKind after.facts) (kind_stays k.facts after.facts used_after) j.kinds (s.marked i j h)) new_marked;
    named = named_after;
    sizes =
        by_constructor (λ i j. IsWithin (most_of after.facts) (longest_of after.facts) (typed_by s.type_of n t i) j)
        (λ i j lt h. subst (λ u. IsWithin (most_of after.facts) (longest_of after.facts) u j) (sym (typed_old s.type_of n t i lt)) (old_within (s.type_of i) j (s.marked i j h) (old_each i j h) (s.sizes i j h)))
        (subst (λ u. IsWithin (most_of after.facts) (longest_of after.facts) u c) (sym (typed_last s.type_of n t)) new_within);
    few = by_type (λ u. most_of after.facts u ≤ 8) (λ u h. omega (arith, most_other u h, s.few u)) (omega (arith, most_here, s.few t, w.least));
    short = by_type (λ u. longest_of after.facts u ≤ 32) (λ u h. omega (arith, longest_other u h, s.short u)) (omega (arith, longest_here, s.short t, w.short));
  }
