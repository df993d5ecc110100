-- What is known of types, as they are used and grow.
use Rattle.std.proofs.Common.{◌≡◌, ◌≢◌, ℕ, zero, suc, ◌+◌, ◌<◌, ◌≤◌, ◌==◌, ◌||◌, ◌⊎◌, inl, inr, max, cond, Bool, true, false, List, [], ◌∷◌, ◌++◌, Option, Some, None, length, fold, ap, refl, sym, subst, ◌∙◌, arith, length-set}
use Rattle.std.specs.Prelude.{All, slice_get, slice_set, sum_by}
use Rattle.std.specs.Option.{option_map_or}
use Rattle.std.proofs.lemmas.List.{length-append}
use Rattle.std.proofs.lemmas.List.Elements.{All-nil, All-cons, All-head, All-tail, All-weaker}
use Rattle.std.proofs.lemmas.List.Sums.{sum_by-cons}
use Rattle.std.proofs.lemmas.Bool.{eqb-true, eqb-false, eq-eqb}
use Rattle.std.proofs.lemmas.Option.{slice_get_past, slice_get_within}
use Rattle.rtl_core.proofs.GroundPlaces.{All-slice_get}
use Rattle.rtl_core.specs.declared.encodings.OperandKind.{OperandKind}
use Rattle.rtl_core.specs.declared.encodings.OperandKind.TheVariants as K
use Rattle.rtl_core.specs.declared.encodings.Typed.{Typed}
use Rattle.rtl_core.specs.declared.encodings.Item.{Item}
use Rattle.rtl_core.specs.SoundEncodings.{IsSoundItem, IsSoundTyped, item_size, kind_size, list_size}
use Rattle.sled_rules.specs.declared.facts.Facts.{Facts}
use Rattle.sled_rules.specs.declared.known.Size.{Size}
use Rattle.sled_rules.specs.Sizes.{bytes_of, longest, longest_of, most_of}
use Rattle.sled_rules.specs.Known.{grow, grow_type, grown, mark, mark_type, no_facts}
use Rattle.sled_rules.specs.Faults.{is_used}
use Rattle.sled_core.proofs.Lookups.{get_left, get_last, get_push, set_other, set_same}
use Rattle.sled_core.proofs.Types.{IsNot}

-- the same sizes, and at least the same uses
pub record IsMarked (facts next : List Facts) : Type 0 where
  pub most : (t : ℕ) → most_of next t ≡ most_of facts t
  pub longest : (t : ℕ) → longest_of next t ≡ longest_of facts t
  pub used : (t : ℕ) → is_used facts t ≡ true → is_used next t ≡ true
  pub count : length next ≡ length facts

marked_same : (facts : List Facts) → IsMarked facts facts
marked_same facts = record { most = λ t. refl; longest = λ t. refl; used = λ t h. h; count = refl }

marked_behind : (a b c : List Facts) → IsMarked a b → IsMarked b c → IsMarked a c
marked_behind a b c x y = record {
  most = λ t. y.most t ∙ x.most t;
  longest = λ t. y.longest t ∙ x.longest t;
  used = λ t h. y.used t (x.used t h);
  count = y.count ∙ x.count;
}

-- what is known of a type where that of one is set
set_facts : (facts : List Facts) (t u : ℕ) (f g : Facts) → slice_get facts t ≡ Some f → slice_get (slice_set facts t g) u ≡ cond (u == t) (Some g) (slice_get facts u)
set_facts facts t u f g at = by (u == t) refl
  where
    by : (b : Bool) → (u == t) ≡ b → slice_get (slice_set facts t g) u ≡ cond b (Some g) (slice_get facts u)
    by true e = ap (slice_get (slice_set facts t g)) (eqb-true u t e) ∙ set_same facts t f g at
    by false e = set_other facts t u g (eqb-false u t e)

-- of the type itself, or of another
chosen : {X : Type 0} (facts : List Facts) (t u : ℕ) (f g : Facts) (of : Facts → X) (none : X) → slice_get facts t ≡ Some f → of g ≡ of f
    → option_map_or of (slice_get (slice_set facts t g) u) none ≡ option_map_or of (slice_get facts u) none
chosen facts t u f g of none at same = ap (λ o. option_map_or of o none) (set_facts facts t u f g at) ∙ by (u == t) refl
  where
    by : (b : Bool) → (u == t) ≡ b → option_map_or of (cond b (Some g) (slice_get facts u)) none ≡ option_map_or of (slice_get facts u) none
    by true e = same ∙ sym (ap (λ o. option_map_or of o none) (ap (slice_get facts) (eqb-true u t e) ∙ at))
    by false e = refl

mark_set : (facts : List Facts) (t : ℕ) (o : Option Facts) → slice_get facts t ≡ o → IsMarked facts (mark_type facts t o)
mark_set facts t None at = marked_same facts
mark_set facts t (Some f) at =
    let g : Facts = record f { used = true } in
    record {
      most = λ u. chosen facts t u f g (λ f. f.most) 0 at refl;
      longest = λ u. chosen facts t u f g (λ f. f.longest) 0 at refl;
      used = λ u h. ap (λ o. option_map_or (λ f. f.used) o false) (set_facts facts t u f g at) ∙ by u (u == t) h;
      count = length-set facts t g;
    }
  where
    by : (u : ℕ) (b : Bool) → is_used facts u ≡ true → option_map_or (λ f. f.used) (cond b (Some (record f { used = true })) (slice_get facts u)) false ≡ true
    by u true h = refl
    by u false h = h

mark_marked : (facts : List Facts) (kind : OperandKind) → IsMarked facts (mark facts kind)
mark_marked facts (K.Field w) = marked_same facts
mark_marked facts (K.Typed t) = mark_set facts t (slice_get facts t) refl

pub fold_marked : (facts : List Facts) (ks : List OperandKind) → IsMarked facts (fold mark facts ks)
fold_marked facts [] = marked_same facts
fold_marked facts (kind ∷ ks) = marked_behind facts (mark facts kind) (fold mark (mark facts kind) ks) (mark_marked facts kind) (fold_marked (mark facts kind) ks)

-- a type of which nothing is known yet
opened_at : {X : Type 0} (facts : List Facts) (u : ℕ) (of : Facts → X) (none : X) → of no_facts ≡ none
    → option_map_or of (slice_get (facts ++ no_facts ∷ []) u) none ≡ option_map_or of (slice_get facts u) none
opened_at [] zero of none h = h
opened_at [] (suc u) of none h = by u
  where
    by : (u : ℕ) → option_map_or of (slice_get [] u) none ≡ none
    by zero = refl
    by (suc u) = refl
opened_at (f ∷ facts) zero of none h = refl
opened_at (f ∷ facts) (suc u) of none h = opened_at facts u of none h

pub push_most : (facts : List Facts) (t : ℕ) → most_of (facts ++ no_facts ∷ []) t ≡ most_of facts t
push_most facts t = opened_at facts t (λ f. f.most) 0 refl

pub push_longest : (facts : List Facts) (t : ℕ) → longest_of (facts ++ no_facts ∷ []) t ≡ longest_of facts t
push_longest facts t = opened_at facts t (λ f. f.longest) 0 refl

pub push_used : (facts : List Facts) (t : ℕ) → is_used (facts ++ no_facts ∷ []) t ≡ is_used facts t
push_used facts t = opened_at facts t (λ f. f.used) false refl

-- ---- uses

-- a type of an operand is marked
abbrev pub IsMarkedKind : List Facts → OperandKind → Type 0
IsMarkedKind facts (K.Field w) = Unit {0}
IsMarkedKind facts (K.Typed t) = is_used facts t ≡ true

-- a type of an operand is there
abbrev pub HasFacts : List Facts → OperandKind → Type 0
HasFacts facts (K.Field w) = Unit {0}
HasFacts facts (K.Typed t) = t < length facts

pub kind_stays : (facts next : List Facts) → ((t : ℕ) → is_used facts t ≡ true → is_used next t ≡ true) → (kind : OperandKind) → IsMarkedKind facts kind → IsMarkedKind next kind
kind_stays facts next h (K.Field w) m = m
kind_stays facts next h (K.Typed t) m = h t m

marks : (facts : List Facts) (kind : OperandKind) → HasFacts facts kind → IsMarkedKind (mark facts kind) kind
marks facts (K.Field w) h = tt
marks facts (K.Typed t) h = by (slice_get facts t) refl
  where
    inside : (facts : List Facts) (t : ℕ) → t < length facts → slice_get facts t ≡ None → ⊥
    inside [] t h at = omega (arith, h)
    inside (f ∷ facts) zero h at = cc
    inside (f ∷ facts) (suc t) h at = inside facts t (omega (arith, h)) at

    by : (o : Option Facts) → slice_get facts t ≡ o → is_used (mark_type facts t o) t ≡ true
    by (Some f) at = ap (λ o. option_map_or (λ f. f.used) o false) (set_same facts t f (record f { used = true }) at)
    by None at = absurd (inside facts t h at)

has_marked : (facts next : List Facts) → length next ≡ length facts → (kind : OperandKind) → HasFacts facts kind → HasFacts next kind
has_marked facts next e (K.Field w) h = h
has_marked facts next e (K.Typed t) h = subst (λ n. t < n) (sym e) h

-- each operand marks its type
pub all_marked : (facts : List Facts) (ks : List OperandKind) → All (HasFacts facts) ks → All (IsMarkedKind (fold mark facts ks)) ks
all_marked facts [] h = All-nil (IsMarkedKind facts)
all_marked facts (kind ∷ ks) h =
    let next : List Facts = mark facts kind in
    let one : IsMarkedKind next kind = marks facts kind (All-head (HasFacts facts) kind ks h) in
    All-cons (IsMarkedKind (fold mark next ks)) kind ks (kind_stays next (fold mark next ks) (fold_marked next ks).used kind one)
    (all_marked next ks (All-weaker (HasFacts facts) (HasFacts next) (has_marked facts next (mark_marked facts kind).count) ks (All-tail (HasFacts facts) kind ks h)))

-- what is marked behind operands was so before, or is the type of one
marked_once : (G : Type 0) (facts : List Facts) (u : ℕ) (kind : OperandKind) → (is_used facts u ≡ true → G) → (kind ≡ K.Typed u → G) → is_used (mark facts kind) u ≡ true → G
marked_once G facts u (K.Field w) old here h = old h
marked_once G facts u (K.Typed t) old here h = by (slice_get facts t) refl h
  where
    apart : (b : Bool) → (u == t) ≡ b → (f : Facts) → option_map_or (λ f. f.used) (cond b (Some (record f { used = true })) (slice_get facts u)) false ≡ true → G
    apart true e f h = here (ap K.Typed (sym (eqb-true u t e)))
    apart false e f h = old h

    by : (o : Option Facts) → slice_get facts t ≡ o → is_used (mark_type facts t o) u ≡ true → G
    by None at h = old h
    by (Some f) at h = apart (u == t) refl f (sym (ap (λ o. option_map_or (λ f. f.used) o false) (set_facts facts t u f (record f { used = true }) at)) ∙ h)

pub marked_from : (G : Type 0) (u : ℕ) (ks : List OperandKind) (facts : List Facts) → (is_used facts u ≡ true → G) → All (λ kind. kind ≡ K.Typed u → G) ks
    → is_used (fold mark facts ks) u ≡ true → G
marked_from G u [] facts old here h = old h
marked_from G u (kind ∷ ks) facts old here h =
    marked_from G u ks (mark facts kind) (λ m. marked_once G facts u kind old (All-head (λ kind. kind ≡ K.Typed u → G) kind ks here) m)
    (All-tail (λ kind. kind ≡ K.Typed u → G) kind ks here) h

-- ---- growth

-- type t has grown to this size
pub record IsGrown (facts next : List Facts) (t : ℕ) (s : Size) : Type 0 where
  pub most : most_of next t ≡ max (most_of facts t) s.numbers
  pub longest : longest_of next t ≡ max (longest_of facts t) s.bytes
  pub most_other : (u : ℕ) → u ≢ t → most_of next u ≡ most_of facts u
  pub longest_other : (u : ℕ) → u ≢ t → longest_of next u ≡ longest_of facts u
  pub used : (u : ℕ) → is_used next u ≡ is_used facts u
  pub count : length next ≡ length facts

pub grow_grown : (facts : List Facts) (t : ℕ) (s : Size) (f : Facts) → slice_get facts t ≡ Some f → IsGrown facts (grow facts t s) t s
grow_grown facts t s f at =
    subst (λ o. IsGrown facts (grow_type facts t s o) t s) (sym at)
    (record {
      most = ap (λ o. option_map_or (λ f. f.most) o 0) (set_same facts t f (grown s f) at) ∙ ap (λ n. max n s.numbers) (sym (ap (λ o. option_map_or (λ f. f.most) o 0) at));
      longest = ap (λ o. option_map_or (λ f. f.longest) o 0) (set_same facts t f (grown s f) at) ∙ ap (λ n. max n s.bytes) (sym (ap (λ o. option_map_or (λ f. f.longest) o 0) at));
      most_other = λ u h. ap (λ o. option_map_or (λ f. f.most) o 0) (set_other facts t u (grown s f) h);
      longest_other = λ u h. ap (λ o. option_map_or (λ f. f.longest) o 0) (set_other facts t u (grown s f) h);
      used = λ u. chosen facts t u f (grown s f) (λ f. f.used) false at refl;
      count = length-set facts t (grown s f);
    })

-- ---- what does not ask a type t stays as large

kind_same : (most next : ℕ → ℕ) (t : ℕ) → ((u : ℕ) → u ≢ t → next u ≡ most u) → (kind : OperandKind) → IsNot t kind → kind_size next kind ≡ kind_size most kind
kind_same most next t h (K.Field w) n = refl
kind_same most next t h (K.Typed u) n = ap (λ m. 1 + m) (h u n)

pub list_same : (most next : ℕ → ℕ) (t : ℕ) → ((u : ℕ) → u ≢ t → next u ≡ most u) → (ks : List OperandKind) → All (IsNot t) ks → list_size next ks ≡ list_size most ks
list_same most next t h [] n = refl
list_same most next t h (kind ∷ ks) n =
    sum_by-cons (kind_size next) kind ks
    ∙ ap (λ m. m + list_size next ks) (kind_same most next t h kind (All-head (IsNot t) kind ks n))
    ∙ ap (λ m. kind_size most kind + m) (list_same most next t h ks (All-tail (IsNot t) kind ks n))
    ∙ sym (sum_by-cons (kind_size most) kind ks)

item_same : (most next : ℕ → ℕ) (t : ℕ) → ((u : ℕ) → u ≢ t → next u ≡ most u) → (ks : List OperandKind) → All (IsNot t) ks → (it : Item) → IsSoundItem ks it → item_size next it ≡ item_size most it
item_same most next t h ks n it sound = by it.typed sound.typed
  where
    by : (o : Option Typed) → IsSoundTyped ks o → item_size next (record it { typed = o }) ≡ item_size most (record it { typed = o })
    by None s = refl
    by (Some typed) s = h typed.kind (All-slice_get (IsNot t) ks typed.operand (K.Typed typed.kind) s n)

pub items_same : (most next : ℕ → ℕ) (t : ℕ) → ((u : ℕ) → u ≢ t → next u ≡ most u) → (ks : List OperandKind) → All (IsNot t) ks → (items : List Item) → All (IsSoundItem ks) items
    → sum_by (item_size next) items ≡ sum_by (item_size most) items
items_same most next t h ks n [] s = refl
items_same most next t h ks n (it ∷ items) s =
    sum_by-cons (item_size next) it items
    ∙ ap (λ m. m + sum_by (item_size next) items) (item_same most next t h ks n it (All-head (IsSoundItem ks) it items s))
    ∙ ap (λ m. item_size most it + m) (items_same most next t h ks n items (All-tail (IsSoundItem ks) it items s))
    ∙ sym (sum_by-cons (item_size most) it items)

-- ---- the longest of some alternatives

abbrev longest_from : List Facts → ℕ → List (List Item) → ℕ
longest_from facts n rows = fold (λ most items. max most (bytes_of facts items)) n rows

longest_grows : (facts : List Facts) (rows : List (List Item)) (n : ℕ) → n ≤ longest_from facts n rows
longest_grows facts [] n = omega arith
longest_grows facts (items ∷ rows) n = let rest = longest_grows facts rows (max n (bytes_of facts items)) in omega (arith, rest)

longest_each : (facts : List Facts) (rows : List (List Item)) (n : ℕ) → All (λ items. bytes_of facts items ≤ longest_from facts n rows) rows
longest_each facts [] n = All-nil (λ items. bytes_of facts items ≤ n)
longest_each facts (items ∷ rows) n =
    let all : ℕ = longest_from facts (max n (bytes_of facts items)) rows in
    let grows = longest_grows facts rows (max n (bytes_of facts items)) in
    All-cons (λ items. bytes_of facts items ≤ all) items rows (omega (arith, grows)) (longest_each facts rows (max n (bytes_of facts items)))

pub each_longest : (facts : List Facts) (rows : List (List Item)) → All (λ items. bytes_of facts items ≤ longest facts rows) rows
each_longest facts rows = longest_each facts rows 0

longest_within : (facts : List Facts) (rows : List (List Item)) (n most : ℕ) → n ≤ most → All (λ items. bytes_of facts items ≤ most) rows → longest_from facts n rows ≤ most
longest_within facts [] n most h each = h
longest_within facts (items ∷ rows) n most h each =
    let one = All-head (λ items. bytes_of facts items ≤ most) items rows each in
    longest_within facts rows (max n (bytes_of facts items)) most (omega (arith, h, one)) (All-tail (λ items. bytes_of facts items ≤ most) items rows each)

pub longest_short : (facts : List Facts) (rows : List (List Item)) (most : ℕ) → All (λ items. bytes_of facts items ≤ most) rows → longest facts rows ≤ most
longest_short facts rows most each = longest_within facts rows 0 most (omega arith) each
