-- Instructions by their names, as a map keeps them.
use Rattle.std.proofs.Common.{◌≡◌, ℕ, ◌+◌, ◌<◌, ◌≤◌, Bool, cond, true, false, List, [], ◌∷◌, ◌++◌, length, take, get_or, map, Option, Some, None, Vec, Global, nat_eq, refl, sym, ap, subst, ◌∙◌, ◌⊎◌, inl, inr}
use Rattle.std.specs.Prelude.{is_some}
use Rattle.std.specs.Cmp.Lexicographic.{pointwise}
use Rattle.std.specs.Map.{lookup}
use Rattle.std.specs.Option.{option_or}
use Rattle.std.proofs.Math.ListN.{drop_of_length-le}
use Rattle.std.proofs.lemmas.Bool.{cases_Bool}
use Rattle.std.proofs.lemmas.List.{append-nil, map-append, map_more, take-append-drop}
use Rattle.std.proofs.lemmas.Slice.Eq.{bytes_eq-Decides}
use Rattle.rtl_core.specs.declared.encodings.Encodings.{Encodings}
use Rattle.conventions.specs.Names.{name_of, instruction_numbers, instructions, instruction_of, FindsSame, Adds}

-- the entries of a map as contracts see them
abbrev pub shown : List (Vec ℕ Global × ℕ) → List (List ℕ × ℕ)
shown es = map (λ e. (e.0.items, e.1)) es

-- a name looked up in the map
pub found-shown : (name : List ℕ) (es : List (Vec ℕ Global × ℕ)) → instruction_of (shown es) name ≡ lookup (λ k. pointwise nat_eq name k.items) es
found-shown name [] = refl
found-shown name (e ∷ es) = ap (cond (pointwise nat_eq name e.0.items) (Some e.1)) (found-shown name es)

-- a name that is not there, looked up by bytes that are the same
pub absent : (table : List (List ℕ × ℕ)) (name bytes : List ℕ) (es : List (Vec ℕ Global × ℕ)) → shown es ≡ table → bytes ≡ name
    → instruction_of table name ≡ None → lookup (λ k. pointwise nat_eq bytes k.items) es ≡ None
absent table name bytes es v b none =
    ap (λ n. lookup (λ k. pointwise nat_eq n k.items) es) b ∙ sym (found-shown name es) ∙ ap (λ l. instruction_of l name) v ∙ none

-- one entry more
pub shown-push : (table : List (List ℕ × ℕ)) (name : List ℕ) (key : Vec ℕ Global) (number : ℕ) (es more : List (Vec ℕ Global × ℕ)) → shown es ≡ table
    → key.items ≡ name → more ≡ es ++ (key, number) ∷ [] → shown more ≡ table ++ (name, number) ∷ []
shown-push table name key number es more v k e =
    ap shown e ∙ map-append (λ e. (e.0.items, e.1)) es ((key, number) ∷ []) ∙ ap (λ l. l ++ (key.items, number) ∷ []) v ∙ ap (λ n. table ++ (n, number) ∷ []) k

-- the first instructions with their names
abbrev pub table_of : Encodings → List ℕ → List (List ℕ × ℕ)
table_of enc cs = map (λ c. (name_of enc c, c)) cs

either_found : (b : Bool) (c : ℕ) (x y : Option ℕ) → cond b (Some c) (option_or x y) ≡ option_or (cond b (Some c) x) y
either_found true c x y = refl
either_found false c x y = refl

-- names behind others
found-append : (xs ys : List (List ℕ × ℕ)) (name : List ℕ) → instruction_of (xs ++ ys) name ≡ option_or (instruction_of xs name) (instruction_of ys name)
found-append [] ys name = refl
found-append (x ∷ xs) ys name =
    ap (cond (pointwise nat_eq name x.0) (Some x.1)) (found-append xs ys name) ∙ either_found (pointwise nat_eq name x.0) x.1 (instruction_of xs name) (instruction_of ys name)

pub pushed_adds : (old new : List (List ℕ × ℕ)) (name : List ℕ) (number : ℕ) → new ≡ old ++ (name, number) ∷ [] → Adds old new name number
pushed_adds old new name number h = record { found = λ asked. ap (λ t. instruction_of t asked) h ∙ found-append old ((name, number) ∷ []) asked }

no_more : (o : Option ℕ) → o ≡ option_or o None
no_more None = refl
no_more (Some c) = refl

first_counts : (o p : Option ℕ) → is_some o ≡ true → o ≡ option_or o p
first_counts None p h = absurd (cc)
first_counts (Some c) p h = refl

pub there_adds : (old : List (List ℕ × ℕ)) (name : List ℕ) (number : ℕ) → is_some (instruction_of old name) ≡ true → Adds old old name number
there_adds old name number h = record { found = λ asked. by asked (cases_Bool (pointwise nat_eq asked name)) }
  where
    by : (asked : List ℕ) → (pointwise nat_eq asked name ≡ true) ⊎ (pointwise nat_eq asked name ≡ false) → instruction_of old asked ≡ option_or (instruction_of old asked) (instruction_of ((name, number) ∷ []) asked)
    by asked (inl e) =
        let same : asked ≡ name = (bytes_eq-Decides asked name).0 e in
        first_counts (instruction_of old asked) (instruction_of ((name, number) ∷ []) asked) (ap (λ n. is_some (instruction_of old n)) same ∙ h)
    by asked (inr e) = rw e (no_more (instruction_of old asked))

-- one instruction more
pub more_named : (enc : Encodings) (cs : List ℕ) (i : ℕ) (name : List ℕ) (old new : List (List ℕ × ℕ)) → cs ≡ instruction_numbers enc → i < length cs
    → FindsSame old (table_of enc (take i (instruction_numbers enc))) → name ≡ name_of enc (get_or cs i 0) → Adds old new name (get_or cs i 0) → FindsSame new (table_of enc (take (i + 1) (instruction_numbers enc)))
more_named enc cs i name old new is h was n a =
    let here : i < length (instruction_numbers enc) = subst (λ cs. i < length cs) is h in
    let c : ℕ = get_or cs i 0 in
    let before : List (List ℕ × ℕ) = table_of enc (take i (instruction_numbers enc)) in
    let entry : (name, c) ∷ [] ≡ (name_of enc (get_or (instruction_numbers enc) i 0), get_or (instruction_numbers enc) i 0) ∷ [] =
    ap (λ n. (n, c) ∷ []) n ∙ ap (λ cs. (name_of enc (get_or cs i 0), get_or cs i 0) ∷ []) is in
    let whole : before ++ (name, c) ∷ [] ≡ table_of enc (take (i + 1) (instruction_numbers enc)) =
    ap (λ l. before ++ l) entry ∙ sym (map_more (λ c. (name_of enc c, c)) (instruction_numbers enc) i 0 here) in
    record {
      found = λ asked. a.found asked ∙ ap (λ o. option_or o (instruction_of ((name, c) ∷ []) asked)) (was.found asked) ∙ sym (found-append before ((name, c) ∷ []) asked)
          ∙ ap (λ t. instruction_of t asked) whole;
    }

pub none_named : FindsSame [] []
none_named = record { found = λ name. refl }

take_whole : (cs : List ℕ) (i : ℕ) → length cs ≤ i → take i cs ≡ cs
take_whole cs i h = sym (append-nil (take i cs)) ∙ ap (λ r. take i cs ++ r) (sym (drop_of_length-le cs h)) ∙ take-append-drop i cs

pub all_named : (enc : Encodings) (cs : List ℕ) (i : ℕ) (table : List (List ℕ × ℕ)) → cs ≡ instruction_numbers enc → length cs ≤ i → FindsSame table (table_of enc (take i (instruction_numbers enc))) → FindsSame table (instructions enc)
all_named enc cs i table is h was =
    let here : length (instruction_numbers enc) ≤ i = subst (λ cs. length cs ≤ i) is h in
    subst (λ cs. FindsSame table (table_of enc cs)) (take_whole (instruction_numbers enc) i here) was
