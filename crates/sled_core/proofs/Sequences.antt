-- Items over one token with several parts, and sequences of items.
use Rattle.std.proofs.Common.{◌≡◌, ℕ, zero, suc, ◌+◌, ◌<◌, ◌≤◌, ◌==◌, ◌&&◌, ◌||◌, ◌⊎◌, inl, inr, not, Bool, true, false, List, [], ◌∷◌, ◌++◌, Option, Some, None, length, map, is_none, fold, ap, refl, sym, subst, ◌∙◌, arith, max}
use Rattle.std.specs.Prelude.{All, IfSome, slice_get, option_and_then, option_to_list}
use Rattle.std.specs.List.{list_all, list_any, filter_map, flat_map, cons_option}
use Rattle.std.proofs.lemmas.List.{append-nil, append_assoc}
use Rattle.std.proofs.lemmas.List.Sums.{fold-append}
use Rattle.std.proofs.lemmas.List.Elements.{All-nil, All-cons, All-head, All-tail, filter_map-append}
use Rattle.std.proofs.lemmas.Bool.Decides.{nat_tests}
use Rattle.rtl_core.specs.declared.encodings.OperandKind.{OperandKind}
use Rattle.rtl_core.specs.declared.encodings.OperandKind.TheVariants as K
use Rattle.rtl_core.specs.declared.encodings.Bind.{Bind}
use Rattle.rtl_core.specs.declared.encodings.Test.{Test}
use Rattle.rtl_core.specs.declared.encodings.Typed.{Typed}
use Rattle.rtl_core.specs.declared.encodings.Item.{Item}
use Rattle.rtl_core.specs.SoundEncodings.{IsSoundBind, IsSoundItem, IsSoundTest, IsToken}
use Rattle.sled_syntax.specs.declared.line.Part.{Part}
use Rattle.sled_syntax.specs.declared.line.Part.TheVariants.{Lone}
use Rattle.sled_syntax.specs.declared.line.SledItem.{SledItem}
use Rattle.sled_syntax.specs.Lines.{is_item}
use Rattle.sled_rules.specs.declared.facts.Facts.{Facts}
use Rattle.sled_rules.specs.declared.meaning.Start.{Start}
use Rattle.sled_rules.specs.declared.meaning.Start.TheVariants.{Nothing, One}
use Rattle.sled_rules.specs.declared.meaning.Meaning.{Meaning}
use Rattle.sled_rules.specs.declared.meaning.Meaning.TheVariants as means
use Rattle.sled_rules.specs.Meanings.{Table, named, is_type}
use Rattle.sled_rules.specs.Operands.{is_listed, item_binds, kind_of, name_binds, operand_of, part_binds, place, sequence_binds}
use Rattle.sled_rules.specs.Starts.{item_start, join, part_start, parts_of, rest_part, sequence_start}
use Rattle.sled_rules.specs.Alternatives.{both, choices, item_choices, lone_choices, nothing_asked, onto_first, part_choices, sequence_choices, typed_item}
use Rattle.sled_rules.specs.Faults.{is_known_item, is_known_part, is_known_rest, is_longer_part, is_mixed, is_over_part, is_several, is_whole}
use Rattle.sled_rules.proofs.TakenLaws.{or_false}
use Rattle.sled_core.proofs.Full.{Full, all_left, full_choices, full_one, full_weaker}
use Rattle.sled_core.proofs.Rows.{IsRow, StartsWith, row_append}
use Rattle.sled_core.proofs.Parts.{Agrees, IsFinePart, IsPartly, IsScene, all_parts, listed_one, row_of_partly, wider}
use Rattle.sled_core.proofs.Items.{AllJoined, IsOver, all_joined, and_both, cons_nil, none_listed, not_several, part_over, starts_fold, whole_rows}

-- ---- a typed operand behind the parts

typed_token : (bits : ℕ) (typed : Typed) → IsToken bits None → IsToken bits (Some typed)
typed_token bits typed (inl h) = inl h
typed_token bits typed (inr (inl h)) = inr (inl h)
typed_token bits typed (inr (inr (inl h))) = inr (inr (inl h))
typed_token bits typed (inr (inr (inr h))) = let e : false ≡ true = h.1 in cc

row_with_rest : (plain : Type 0) (kinds : List OperandKind) (s : Start) (bits j k : ℕ) (bs : List ℕ) (width : ℕ) (tests : List Test) (binds : List Bind) (typed : Option Typed) → (plain → ⊥) → IsToken bits None
    → width ≡ bits → typed ≡ None → All (IsSoundTest bits) tests → All (IsSoundBind kinds bits) binds → map (λ b. b.operand) binds ≡ bs → slice_get kinds j ≡ Some (K.Typed k)
    → IsRow plain kinds s (bs ++ j ∷ []) (both (record { bits = width; tests = tests; binds = binds; typed = typed }) (typed_item j k) ∷ [])
row_with_rest plain kinds s bits j k bs width tests binds (Some t) bare token wide untyped ts b bound at = cc
row_with_rest plain kinds s bits j k bs width tests binds None bare token wide untyped ts b bound at =
    let n : max width 0 ≡ bits = omega arith in
    record {
      some = omega arith;
      each = All-cons (IsSoundItem kinds) _ [] (record {
        token = typed_token (max width 0) (record { kind = k; operand = j }) (subst (λ m. IsToken m None) (sym n) token);
        tests = subst (λ m. All (IsSoundTest m) (tests ++ [])) (sym n) (subst (All (IsSoundTest bits)) (sym (append-nil tests)) ts);
        binds = subst (λ m. All (IsSoundBind kinds m) (binds ++ [])) (sym n) (subst (All (IsSoundBind kinds bits)) (sym (append-nil binds)) b);
        typed = at;
      }) (All-nil (IsSoundItem kinds));
      bound = append-nil (map (λ b. b.operand) (binds ++ []) ++ j ∷ []) ∙ ap (λ zs. map (λ b. b.operand) zs ++ j ∷ []) (append-nil binds) ∙ ap (λ zs. zs ++ j ∷ []) bound;
      starts = λ h. absurd (bare h);
    }

row_of_rest : (plain : Type 0) (kinds : List OperandKind) (s : Start) (bits j k : ℕ) (bs : List ℕ) (x y : List Item) → (plain → ⊥) → IsToken bits None → IsPartly kinds bits bits bs x
    → y ≡ typed_item j k ∷ [] → slice_get kinds j ≡ Some (K.Typed k) → IsRow plain kinds s (bs ++ j ∷ []) (onto_first x y)
row_of_rest plain kinds s bits j k bs x y bare token p e at =
    let alone : onto_first x y ≡ both p.it (typed_item j k) ∷ [] = ap (λ z. onto_first z y) p.alone ∙ ap (onto_first (p.it ∷ [])) e in
    subst (IsRow plain kinds s (bs ++ j ∷ [])) (sym alone)
    (row_with_rest plain kinds s bits j k bs p.it.bits p.it.tests p.it.binds p.it.typed bare token p.wide p.untyped p.tests p.binds p.bound at)

typed_rows : (plain : Type 0) (kinds : List OperandKind) (s : Start) (bits : ℕ) (bs : List ℕ) (ops : List (List ℕ)) (name : List ℕ) (o : Option Meaning) (xs : List (List Item)) → (plain → is_listed ops name ≡ false)
    → IsToken bits None → is_type o ≡ true → is_listed ops name ≡ true → ((kind : OperandKind) → is_listed ops name ≡ true → kind_of o ≡ Some kind → slice_get kinds (operand_of ops name) ≡ Some kind)
    → Full (IsPartly kinds bits bits bs) xs
    → Full (IsRow plain kinds s (bs ++ option_to_list (option_and_then (λ kind. place ops name) (kind_of o)))) (choices onto_first xs (lone_choices (operand_of ops name) o))
typed_rows plain kinds s bits bs ops name None xs bare token type listed at full = cc
typed_rows plain kinds s bits bs ops name (Some means.Token) xs bare token type listed at full = cc
typed_rows plain kinds s bits bs ops name (Some (means.Field f)) xs bare token type listed at full = cc
typed_rows plain kinds s bits bs ops name (Some (means.Pattern p)) xs bare token type listed at full = cc
typed_rows plain kinds s bits bs ops name (Some means.Constructor) xs bare token type listed at full = cc
typed_rows plain kinds s bits bs ops name (Some (means.Type t)) xs bare token type listed at full =
    let j : ℕ = operand_of ops name in
    let ys : List (List Item) = (typed_item j t ∷ []) ∷ [] in
    let P : List ℕ → Type 0 = λ cs. Full (IsRow plain kinds s (bs ++ cs)) (choices onto_first xs ys) in
    subst P (sym (listed_one (place ops name) listed))
    (full_choices (IsPartly kinds bits bits bs) (λ y. y ≡ typed_item j t ∷ []) (IsRow plain kinds s (bs ++ j ∷ [])) onto_first
    (λ x y p e. row_of_rest plain kinds s bits j t bs x y (λ h. let no = bare h in cc (no, listed)) token p e (at (K.Typed t) listed refl)) xs ys full
    (full_one (λ y. y ≡ typed_item j t ∷ []) (typed_item j t ∷ []) refl))

-- ---- an item over one token

fine_parts : (names : Table) (facts : List Facts) (ops : List (List ℕ)) (bits : ℕ) (parts : List Part) → list_all (is_known_part names ops) parts ≡ true → list_any (is_over_part names) parts ≡ false
    → list_any (is_longer_part names) parts ≡ false → All (λ part. Agrees bits (part_start names facts part)) parts → All (IsFinePart names facts ops bits) parts
fine_parts names facts ops bits [] known over longer agree = All-nil (IsFinePart names facts ops bits)
fine_parts names facts ops bits (part ∷ parts) known over longer agree =
    let k = and_both (is_known_part names ops part) (list_all (is_known_part names ops) parts) known in
    let o = or_false (is_over_part names part) (list_any (is_over_part names) parts) over in
    let l = or_false (is_longer_part names part) (list_any (is_longer_part names) parts) longer in
    All-cons (IsFinePart names facts ops bits) part parts
    (record { known = k.0; over = o.0; longer = l.0; agrees = All-head (λ part. Agrees bits (part_start names facts part)) part parts agree })
    (fine_parts names facts ops bits parts k.1 o.1 l.1 (All-tail (λ part. Agrees bits (part_start names facts part)) part parts agree))

abbrev choices_fold : Table → List (List ℕ) → List (List Item) → List Part → List (List Item)
choices_fold names ops xs parts = fold (λ xs part. choices onto_first xs (part_choices names ops part)) xs parts

-- with what goes on behind the parts
rest_rows : (names : Table) (ops : List (List ℕ)) (kinds : List OperandKind) (s : Start) (bits : ℕ) (bs : List ℕ) (rest : Option (List ℕ)) (xs : List (List Item)) → IsScene names ops kinds → IsToken bits None
    → StartsWith s bits → is_known_rest names ops rest ≡ true → Full (IsPartly kinds bits bits bs) xs
    → Full (IsRow (ops ≡ []) kinds s (bs ++ filter_map (part_binds names ops) (rest_part rest))) (choices_fold names ops xs (rest_part rest))
rest_rows names ops kinds s bits bs None xs scene token start known full =
    let P : List ℕ → Type 0 = λ cs. Full (IsRow (ops ≡ []) kinds s cs) xs in
    subst P (sym (append-nil bs)) (full_weaker (IsPartly kinds bits bits bs) (IsRow (ops ≡ []) kinds s bs) xs (λ items p. row_of_partly (ops ≡ []) kinds s bits bs items token start p) full)
rest_rows names ops kinds s bits bs (Some type) xs scene token start known full =
    let two = and_both (is_type (named names type)) (is_listed ops type) known in
    let P : List ℕ → Type 0 = λ cs. Full (IsRow (ops ≡ []) kinds s (bs ++ cs)) (choices onto_first xs (lone_choices (operand_of ops type) (named names type))) in
    subst P (cons_nil (name_binds names ops type))
    (typed_rows (ops ≡ []) kinds s bits bs ops type (named names type) xs (none_listed ops type) token two.0 two.1 (scene.places type) full)

mixed_rows : (names : Table) (facts : List Facts) (ops : List (List ℕ)) (kinds : List OperandKind) (part : Part) (parts : List Part) (rest : Option (List ℕ)) → IsScene names ops kinds
    → list_all (is_known_part names ops) (part ∷ parts) ≡ true → is_known_rest names ops rest ≡ true → list_any (is_over_part names) (part ∷ parts) ≡ false
    → list_any (is_longer_part names) (part ∷ parts) ≡ false → is_several (starts_fold names facts (part_start names facts part) (parts ++ rest_part rest)) ≡ false
    → Full (IsRow (ops ≡ []) kinds (starts_fold names facts (part_start names facts part) (parts ++ rest_part rest)) (filter_map (part_binds names ops) ((part ∷ parts) ++ rest_part rest)))
    (choices_fold names ops ((nothing_asked ∷ []) ∷ []) ((part ∷ parts) ++ rest_part rest))
mixed_rows names facts ops kinds part parts rest scene known known_rest over longer several =
    let more : List Part = parts ++ rest_part rest in
    let k = and_both (is_known_part names ops part) (list_all (is_known_part names ops) parts) known in
    let l = or_false (is_longer_part names part) (list_any (is_longer_part names) parts) longer in
    let first : IsOver (part_start names facts part) =
    part_over names facts ops kinds part scene k.0 l.0 (λ e. not_several names facts more (subst (λ s. is_several (starts_fold names facts s more) ≡ false) e several)) in
    let bits : ℕ = first.t.bits in
    let joined : AllJoined names facts first.t more = all_joined names facts first.t more (subst (λ s. is_several (starts_fold names facts s more) ≡ false) first.one several) in
    let start : starts_fold names facts (part_start names facts part) more ≡ One first.t = ap (λ s. starts_fold names facts s more) first.one ∙ joined.stays in
    let agree : All (λ part. Agrees bits (part_start names facts part)) (part ∷ parts) =
    All-cons (λ part. Agrees bits (part_start names facts part)) part parts (subst (Agrees bits) (sym first.one) refl)
    (all_left (λ part. Agrees bits (part_start names facts part)) parts (rest_part rest) joined.agree) in
    let rows : Full (IsPartly kinds bits bits (filter_map (part_binds names ops) (part ∷ parts))) (choices_fold names ops ((nothing_asked ∷ []) ∷ []) (part ∷ parts)) =
    all_parts names facts ops kinds bits part parts scene (fine_parts names facts ops bits (part ∷ parts) known over longer agree) in
    let whole = rest_rows names ops kinds (One first.t) bits (filter_map (part_binds names ops) (part ∷ parts)) rest (choices_fold names ops ((nothing_asked ∷ []) ∷ []) (part ∷ parts)) scene first.wide refl known_rest rows in
    let bs : List ℕ = filter_map (part_binds names ops) (part ∷ parts) ++ filter_map (part_binds names ops) (rest_part rest) in
    let xs : List (List Item) = choices_fold names ops (choices_fold names ops ((nothing_asked ∷ []) ∷ []) (part ∷ parts)) (rest_part rest) in
    let a : Full (IsRow (ops ≡ []) kinds (starts_fold names facts (part_start names facts part) more) bs) xs = subst (λ s. Full (IsRow (ops ≡ []) kinds s bs) xs) (sym start) whole in
    let b = subst (λ cs. Full (IsRow (ops ≡ []) kinds (starts_fold names facts (part_start names facts part) more) cs) xs) (sym (filter_map-append (part_binds names ops) (part ∷ parts) (rest_part rest))) a in
    subst (Full (IsRow (ops ≡ []) kinds (starts_fold names facts (part_start names facts part) more) (filter_map (part_binds names ops) ((part ∷ parts) ++ rest_part rest))))
    (sym (fold-append (λ xs part. choices onto_first xs (part_choices names ops part)) ((nothing_asked ∷ []) ∷ []) (part ∷ parts) (rest_part rest))) b

-- ---- items

pub record IsFineItem (names : Table) (facts : List Facts) (ops : List (List ℕ)) (it : SledItem) : Type 0 where
  pub known : is_known_item names ops it ≡ true
  pub over : list_any (is_over_part names) it.parts ≡ false
  pub mixed : is_mixed names facts it ≡ false
  pub some : is_item it ≡ true

unmixed : (whole other : Bool) → (not whole && other) ≡ false → whole ≡ false → other ≡ false
unmixed whole other h e = by whole e h
  where
    by : (b : Bool) → b ≡ false → (not b && other) ≡ false → other ≡ false
    by true e h = cc
    by false e h = h

not_one : (n : ℕ) (b : Bool) → ((suc (suc n) == 1) && b) ≡ false
not_one n b = by (suc (suc n) == 1) refl
  where
    by : (c : Bool) → (suc (suc n) == 1) ≡ c → (c && b) ≡ false
    by true e = grind (arith, nat_tests)
    by false e = refl

rows_of : (names : Table) (facts : List Facts) (ops : List (List ℕ)) (kinds : List OperandKind) (parts : List Part) (rest : Option (List ℕ)) → IsScene names ops kinds
    → IsFineItem names facts ops (record { parts = parts; rest = rest })
    → Full (IsRow (ops ≡ []) kinds (item_start names facts (record { parts = parts; rest = rest })) (item_binds names ops (record { parts = parts; rest = rest })))
    (item_choices names ops (record { parts = parts; rest = rest }))
rows_of names facts ops kinds [] rest scene fine = let h = fine.some in cc
rows_of names facts ops kinds (part ∷ []) None scene fine =
    let known = and_both (list_all (is_known_part names ops) (part ∷ [])) true fine.known in
    whole_rows names facts ops kinds part scene (and_both (is_known_part names ops part) true known.0).0 (or_false (is_over_part names part) false fine.over).0
rows_of names facts ops kinds (part ∷ []) (Some type) scene fine =
    let known = and_both (list_all (is_known_part names ops) (part ∷ [])) (is_known_rest names ops (Some type)) fine.known in
    let two = or_false (list_any (is_longer_part names) (part ∷ [])) (is_several (item_start names facts (record { parts = part ∷ []; rest = Some type }))) fine.mixed in
    mixed_rows names facts ops kinds part [] (Some type) scene known.0 known.1 fine.over two.0 two.1
rows_of names facts ops kinds (part ∷ next ∷ more) rest scene fine =
    let it : SledItem = record { parts = part ∷ next ∷ more; rest = rest } in
    let known = and_both (list_all (is_known_part names ops) (part ∷ next ∷ more)) (is_known_rest names ops rest) fine.known in
    let other : Bool = list_any (is_longer_part names) (part ∷ next ∷ more) || is_several (item_start names facts it) in
    let two = or_false (list_any (is_longer_part names) (part ∷ next ∷ more)) (is_several (item_start names facts it))
    (unmixed (is_whole it) other fine.mixed (not_one (length more) (is_none rest))) in
    mixed_rows names facts ops kinds part (next ∷ more) rest scene known.0 known.1 fine.over two.0 two.1

pub item_rows : (names : Table) (facts : List Facts) (ops : List (List ℕ)) (kinds : List OperandKind) (it : SledItem) → IsScene names ops kinds → IsFineItem names facts ops it
    → Full (IsRow (ops ≡ []) kinds (item_start names facts it) (item_binds names ops it)) (item_choices names ops it)
item_rows names facts ops kinds it scene fine = rows_of names facts ops kinds it.parts it.rest scene fine

-- ---- sequences

behind_items : (names : Table) (facts : List Facts) (ops : List (List ℕ)) (kinds : List OperandKind) (s : Start) (bs : List ℕ) (items : List SledItem) (xs : List (List Item)) → IsScene names ops kinds
    → All (IsFineItem names facts ops) items → Full (IsRow (ops ≡ []) kinds s bs) xs
    → Full (IsRow (ops ≡ []) kinds s (bs ++ flat_map (item_binds names ops) items)) (fold (λ xs it. choices ◌++◌ xs (item_choices names ops it)) xs items)
behind_items names facts ops kinds s bs [] xs scene fine full = subst (λ cs. Full (IsRow (ops ≡ []) kinds s cs) xs) (sym (append-nil bs)) full
behind_items names facts ops kinds s bs (it ∷ items) xs scene fine full =
    let P : Type 0 = ops ≡ [] in
    let B : List ℕ = item_binds names ops it in
    let one = item_rows names facts ops kinds it scene (All-head (IsFineItem names facts ops) it items fine) in
    let next : Full (IsRow P kinds s (bs ++ B)) (choices ◌++◌ xs (item_choices names ops it)) =
    full_choices (IsRow P kinds s bs) (IsRow P kinds (item_start names facts it) B) (IsRow P kinds s (bs ++ B)) ◌++◌
    (λ x y p q. row_append P kinds s (item_start names facts it) bs B x y p q) xs (item_choices names ops it) full one in
    let rest = behind_items names facts ops kinds s (bs ++ B) items (choices ◌++◌ xs (item_choices names ops it)) scene (All-tail (IsFineItem names facts ops) it items fine) next in
    let ys : List (List Item) = fold (λ xs it. choices ◌++◌ xs (item_choices names ops it)) (choices ◌++◌ xs (item_choices names ops it)) items in
    subst (λ cs. Full (IsRow P kinds s cs) ys) (append_assoc bs B (flat_map (item_binds names ops) items)) rest

pub sequence_rows : (names : Table) (facts : List Facts) (ops : List (List ℕ)) (kinds : List OperandKind) (items : List SledItem) → 0 < length items → IsScene names ops kinds
    → All (IsFineItem names facts ops) items
    → Full (IsRow (ops ≡ []) kinds (sequence_start names facts items) (sequence_binds names ops items)) (sequence_choices names ops items)
sequence_rows names facts ops kinds [] some scene fine = absurd (omega (arith, some))
sequence_rows names facts ops kinds (it ∷ items) some scene fine =
    let P : Type 0 = ops ≡ [] in
    let R : List Item → Type 0 = IsRow P kinds (item_start names facts it) (item_binds names ops it) in
    let one = item_rows names facts ops kinds it scene (All-head (IsFineItem names facts ops) it items fine) in
    let first : Full R (choices ◌++◌ ([] ∷ []) (item_choices names ops it)) =
    full_choices (λ x. x ≡ []) R R ◌++◌ (λ x y e r. subst R (sym (ap (λ z. z ++ y) e)) r) ([] ∷ []) (item_choices names ops it) (full_one (λ x. x ≡ []) [] refl) one in
    behind_items names facts ops kinds (item_start names facts it) (item_binds names ops it) items (choices ◌++◌ ([] ∷ []) (item_choices names ops it)) scene
    (All-tail (IsFineItem names facts ops) it items fine) first
