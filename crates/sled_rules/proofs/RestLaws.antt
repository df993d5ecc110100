-- The parts of an item, and the name behind them.
use Rattle.std.proofs.Common.{◌≡◌, ℕ, ◌<◌, ◌≤◌, ◌+◌, ◌||◌, Bool, List, [], ◌∷◌, ◌++◌, length, get_or, take, fold, Option, None, Some, option_to_list, refl, sym, ap, ◌∙◌, append-nil, append_assoc}
use Rattle.std.proofs.lemmas.List.{take_all, take_more}
use Rattle.std.proofs.lemmas.List.Concat.{flat_map-append}
use Rattle.std.proofs.lemmas.List.Folds.{list_any_more}
use Rattle.std.proofs.lemmas.List.Sums.{fold-append}
use Rattle.std.proofs.lemmas.List.Elements.{filter_map-append}
use Rattle.std.specs.List.{filter_map, flat_map, cons_option, list_any}
use Rattle.sled_syntax.specs.declared.line.Part.{Part}
use Rattle.sled_syntax.specs.declared.line.Part.TheVariants.{Lone}
use Rattle.sled_syntax.specs.declared.line.SledItem.{SledItem}
use Rattle.sled_rules.specs.declared.facts.Facts.{Facts}
use Rattle.sled_rules.specs.declared.meaning.Start.{Start}
use Rattle.sled_rules.specs.declared.meaning.Start.TheVariants.{Nothing}
use Rattle.sled_rules.specs.Meanings.{Table, named}
use Rattle.sled_rules.specs.Operands.{item_binds, name_binds, part_binds}
use Rattle.sled_rules.specs.Starts.{item_start, join, meaning_start, part_start, parts_of, rest_part}

-- ---- what is found when all parts are gone through

pub without_rest : (it : SledItem) (parts : List Part) (i : ℕ) → it.rest ≡ None → parts ≡ it.parts → length parts ≤ i → take i parts ≡ parts_of it
without_rest it parts i none same h = take_all i parts h ∙ same ∙ sym (ap (λ rest. it.parts ++ rest_part rest) none ∙ append-nil it.parts)

pub with_rest : (it : SledItem) (parts : List Part) (i : ℕ) (name : List ℕ) → it.rest ≡ Some name → parts ≡ it.parts → length parts ≤ i
    → take i parts ++ Lone name ∷ [] ≡ parts_of it
with_rest it parts i name some same h = ap (λ ps. ps ++ Lone name ∷ []) (take_all i parts h ∙ same) ∙ sym (ap (λ rest. it.parts ++ rest_part rest) some)

-- ---- starts

pub start_without : (names : Table) (facts : List Facts) (it : SledItem) (parts : List Part) (i : ℕ) (s : Start) → it.rest ≡ None → parts ≡ it.parts → length parts ≤ i
    → s ≡ fold (λ s part. join s (part_start names facts part)) Nothing (take i parts) → s ≡ item_start names facts it
start_without names facts it parts i s none same h e =
    e ∙ ap (λ ps. fold (λ s part. join s (part_start names facts part)) Nothing ps) (without_rest it parts i none same h)

pub start_with : (names : Table) (facts : List Facts) (it : SledItem) (parts : List Part) (i : ℕ) (name : List ℕ) (s next : Start) → it.rest ≡ Some name → parts ≡ it.parts
    → length parts ≤ i → s ≡ fold (λ s part. join s (part_start names facts part)) Nothing (take i parts)
    → next ≡ join s (meaning_start facts (named names name)) → next ≡ item_start names facts it
start_with names facts it parts i name s next some same h e n =
    let step : Start → Part → Start = λ s part. join s (part_start names facts part) in
    n ∙ ap (λ t. join t (meaning_start facts (named names name))) e ∙ sym (fold-append step Nothing (take i parts) (Lone name ∷ []))
    ∙ ap (fold step Nothing) (with_rest it parts i name some same h)

-- ---- binds

option_list : (o : Option ℕ) → cons_option o [] ≡ option_to_list o
option_list None = refl
option_list (Some k) = refl

pub binds_with : (names : Table) (ops : List (List ℕ)) (it : SledItem) (parts : List Part) (i : ℕ) (name : List ℕ) (before old new : List ℕ) → it.rest ≡ Some name
    → parts ≡ it.parts → length parts ≤ i → old ≡ before ++ filter_map (part_binds names ops) (take i parts)
    → new ≡ old ++ option_to_list (name_binds names ops name) → new ≡ before ++ item_binds names ops it
binds_with names ops it parts i name before old new some same h o n =
    let all : filter_map (part_binds names ops) (take i parts) ++ option_to_list (name_binds names ops name) ≡ item_binds names ops it =
    ap (λ ks. filter_map (part_binds names ops) (take i parts) ++ ks) (sym (option_list (name_binds names ops name)))
    ∙ sym (filter_map-append (part_binds names ops) (take i parts) (Lone name ∷ [])) ∙ ap (filter_map (part_binds names ops)) (with_rest it parts i name some same h) in
    n ∙ ap (λ ks. ks ++ option_to_list (name_binds names ops name)) o
    ∙ append_assoc before (filter_map (part_binds names ops) (take i parts)) (option_to_list (name_binds names ops name)) ∙ ap (λ ks. before ++ ks) all

pub binds_without : (names : Table) (ops : List (List ℕ)) (it : SledItem) (parts : List Part) (i : ℕ) (before old : List ℕ) → it.rest ≡ None → parts ≡ it.parts → length parts ≤ i
    → old ≡ before ++ filter_map (part_binds names ops) (take i parts) → old ≡ before ++ item_binds names ops it
binds_without names ops it parts i before old none same h o =
    o ∙ ap (λ ps. before ++ filter_map (part_binds names ops) ps) (without_rest it parts i none same h)

-- ---- one more in a row

pub filter_map_more : {X Y : Type 0} (f : X → Option Y) (xs : List X) (i : ℕ) (x : X) → i < length xs → x ≡ get_or xs i x
    → filter_map f (take (i + 1) xs) ≡ filter_map f (take i xs) ++ option_to_list (f x)
filter_map_more {X} {Y} f xs i x h e =
    ap (filter_map f) (take_more xs i x h ∙ ap (λ y. take i xs ++ y ∷ []) (sym e)) ∙ filter_map-append f (take i xs) (x ∷ [])
    ∙ ap (λ ys. filter_map f (take i xs) ++ ys) (only (f x))
  where
    only : (o : Option Y) → cons_option o [] ≡ option_to_list o
    only None = refl
    only (Some y) = refl

pub filter_step : {X Y : Type 0} (f : X → Option Y) (xs : List X) (i : ℕ) (x : X) (before old new : List Y) (o : Option Y) → i < length xs → x ≡ get_or xs i x
    → old ≡ before ++ filter_map f (take i xs) → o ≡ f x → new ≡ old ++ option_to_list o → new ≡ before ++ filter_map f (take (i + 1) xs)
filter_step f xs i x before old new o h e b is n =
    n ∙ ap (λ ys. ys ++ option_to_list o) b ∙ append_assoc before (filter_map f (take i xs)) (option_to_list o)
    ∙ ap (λ ys. before ++ (filter_map f (take i xs) ++ option_to_list ys)) is ∙ ap (λ ys. before ++ ys) (sym (filter_map_more f xs i x h e))

pub flat_step : {X Y : Type 0} (f : X → List Y) (xs : List X) (i : ℕ) (x : X) (old new : List Y) → i < length xs → x ≡ get_or xs i x
    → old ≡ flat_map f (take i xs) → new ≡ old ++ f x → new ≡ flat_map f (take (i + 1) xs)
flat_step f xs i x old new h e o n =
    n ∙ ap (λ ys. ys ++ f x) o ∙ ap (λ ys. flat_map f (take i xs) ++ ys) (sym (append-nil (f x))) ∙ sym (flat_map-append f (take i xs) (x ∷ []))
    ∙ ap (flat_map f) (sym (take_more xs i x h ∙ ap (λ y. take i xs ++ y ∷ []) (sym e)))

pub any_step : {X : Type 0} (p : X → Bool) (xs : List X) (i : ℕ) (x : X) (old found new : Bool) → i < length xs → x ≡ get_or xs i x → old ≡ list_any p (take i xs) → found ≡ p x
    → new ≡ (old || found) → new ≡ list_any p (take (i + 1) xs)
any_step p xs i x old found new h e o f n = n ∙ ap (λ b. b || found) o ∙ ap (λ b. list_any p (take i xs) || b) (f ∙ ap p e) ∙ sym (list_any_more p xs i x h)
