-- How many choices there are, with counts that stand still at 257.
use Rattle.std.proofs.Common.{◌≡◌, ℕ, zero, suc, ◌+◌, ◌*◌, ◌<◌, ◌≤◌, ltb, min, List, [], ◌∷◌, ◌++◌, length, get_or, take, fold, map, Option, Some, None, ap, refl, sym, ◌∙◌, arith, length-append, append-nil, inl, inr}
use Rattle.std.proofs.Math.Nat.{le-mul_of_pos_right}
use Rattle.std.proofs.lemmas.Bool.{cases_lt}
use Rattle.std.proofs.lemmas.List.{length-map, take_all, take_more}
use Rattle.std.proofs.lemmas.List.Sums.{fold_more, fold-append}
use Rattle.std.proofs.lemmas.List.Concat.{flat_map-append}
use Rattle.std.proofs.lemmas.Bool.Decides.{nat_tests}
use Rattle.std.specs.List.{flat_map}
use Rattle.rtl_core.specs.declared.encodings.Item.{Item}
use Rattle.sled_syntax.specs.declared.line.Part.{Part}
use Rattle.sled_syntax.specs.declared.line.Part.TheVariants.{Lone}
use Rattle.sled_syntax.specs.declared.line.SledItem.{SledItem}
use Rattle.sled_rules.specs.Meanings.{Table, named}
use Rattle.sled_rules.specs.Operands.{operand_of}
use Rattle.sled_rules.specs.Starts.{parts_of, rest_part}
use Rattle.sled_rules.specs.Alternatives.{choices, item_choices, lone_choices, nothing_asked, onto_first, part_choices}

pub length-choices : (f : List Item → List Item → List Item) (xs ys : List (List Item)) → length (choices f xs ys) ≡ length xs * length ys
length-choices f [] ys = omega arith
length-choices f (x ∷ xs) ys =
    let e : length (choices f (x ∷ xs) ys) ≡ length (map (f x) ys) + length (choices f xs ys) = length-append (map (f x) ys) (choices f xs ys) in
    omega (arith, e, length-map ys (f x), length-choices f xs ys)

large : (a b : ℕ) → 257 ≤ a → 257 ≤ a * suc b
large a b h = let more : a ≤ a * suc b = le-mul_of_pos_right {m = suc b} a (omega arith) in omega arith

pub capped-times : (a b : ℕ) → min (min a 257 * min b 257) 257 ≡ min (a * b) 257
capped-times a zero = omega arith
capped-times zero (suc b) = omega arith
capped-times (suc a) (suc b) =
    elim (cases_lt (suc a) 257) [
      | inl ha ↦ elim (cases_lt (suc b) 257) [
        | inl hb ↦ let ea : min (suc a) 257 ≡ suc a = omega arith in let eb : min (suc b) 257 ≡ suc b = omega arith in rw (ea, eb) refl
        | inr hb ↦
            let eb : min (suc b) 257 ≡ 257 = omega arith in
            let big : 257 ≤ suc b * suc a = large (suc b) a hb in
            rw eb (omega arith)
      ]
      | inr ha ↦
          let ea : min (suc a) 257 ≡ 257 = omega arith in
          let big : 257 ≤ suc a * suc b = large (suc a) b ha in
          rw ea (omega arith)
    ]

-- a count after one more choice
pub count_more : (f : List Item → List Item → List Item) (xs ys : List (List Item)) (count more : ℕ) → count ≡ min (length xs) 257
    → min more 257 ≡ min (length ys) 257 → min (min count 257 * min more 257) 257 ≡ min (length (choices f xs ys)) 257
count_more f xs ys count more c m =
    let a : min count 257 ≡ min (length xs) 257 = omega arith in
    rw (a, m, length-choices f xs ys) (capped-times (length xs) (length ys))

-- ---- the parts of an item, and the items of a sequence

-- a count after one more choice in a row of choices
pub count_fold : {X : Type 0} (g : X → List (List Item)) (f : List Item → List Item → List Item) (init : List (List Item)) (xs : List X) (i : ℕ) (x : X) (count more next : ℕ)
    → i < length xs → x ≡ get_or xs i x → count ≡ min (length (fold (λ a y. choices f a (g y)) init (take i xs))) 257 → min more 257 ≡ min (length (g x)) 257
    → next ≡ min (min count 257 * min more 257) 257 → next ≡ min (length (fold (λ a y. choices f a (g y)) init (take (i + 1) xs))) 257
count_fold {X} g f init xs i x count more next h e c m n =
    let step : List (List Item) → X → List (List Item) = λ a y. choices f a (g y) in
    let grown : fold step init (take (i + 1) xs) ≡ choices f (fold step init (take i xs)) (g x) =
    fold_more step init xs i x h ∙ ap (λ y. step (fold step init (take i xs)) y) (sym e) in
    n ∙ count_more f (fold step init (take i xs)) (g x) count more c m ∙ ap (λ zs. min (length zs) 257) (sym grown)

-- the choices of the parts before the rest
abbrev pub part_rows : Table → List (List ℕ) → List Part → List (List Item)
part_rows names ops parts = fold (λ xs part. choices onto_first xs (part_choices names ops part)) ((nothing_asked ∷ []) ∷ []) parts

pub count_without_rest : (names : Table) (ops : List (List ℕ)) (it : SledItem) (parts : List Part) (i count : ℕ) → it.rest ≡ None → parts ≡ it.parts → length parts ≤ i
    → count ≡ min (length (part_rows names ops (take i parts))) 257 → count ≡ min (length (item_choices names ops it)) 257
count_without_rest names ops it parts i count none same h c =
    let e : take i parts ≡ parts_of it = take_all i parts h ∙ same ∙ sym (ap (λ rest. it.parts ++ rest_part rest) none ∙ append-nil it.parts) in
    c ∙ ap (λ ps. min (length (part_rows names ops ps)) 257) e

pub count_with_rest : (names : Table) (ops : List (List ℕ)) (it : SledItem) (parts : List Part) (i : ℕ) (name : List ℕ) (count more next : ℕ) → it.rest ≡ Some name
    → parts ≡ it.parts → length parts ≤ i → count ≡ min (length (part_rows names ops (take i parts))) 257
    → more ≡ length (lone_choices (operand_of ops name) (named names name)) → next ≡ min (min count 257 * min more 257) 257
    → next ≡ min (length (item_choices names ops it)) 257
count_with_rest names ops it parts i name count more next some same h c m n =
    let step : List (List Item) → Part → List (List Item) = λ xs part. choices onto_first xs (part_choices names ops part) in
    let rows : List (List Item) = part_rows names ops it.parts in
    let before : count ≡ min (length rows) 257 = c ∙ ap (λ ps. min (length (part_rows names ops ps)) 257) (take_all i parts h ∙ same) in
    let e : part_rows names ops (parts_of it) ≡ choices onto_first rows (lone_choices (operand_of ops name) (named names name)) =
    ap (λ rest. part_rows names ops (it.parts ++ rest_part rest)) some ∙ fold-append step ((nothing_asked ∷ []) ∷ []) it.parts (Lone name ∷ []) in
    n ∙ count_more onto_first rows (lone_choices (operand_of ops name) (named names name)) count more before (ap (λ k. min k 257) m)
    ∙ ap (λ zs. min (length zs) 257) (sym e)

pub capped_again : (n x : ℕ) → n ≡ min x 257 → min n 257 ≡ min x 257
capped_again n x e = omega arith

-- ---- alternatives one behind another

pub count_flat : {X : Type 0} (g : X → List (List Item)) (xs : List X) (i : ℕ) (x : X) (count more next : ℕ) → i < length xs → x ≡ get_or xs i x
    → count ≡ min (length (flat_map g (take i xs))) 257 → more ≡ min (length (g x)) 257 → next ≡ min (count + more) 257
    → next ≡ min (length (flat_map g (take (i + 1) xs))) 257
count_flat {X} g xs i x count more next h e c m n =
    let t : take (i + 1) xs ≡ take i xs ++ x ∷ [] = take_more xs i x h ∙ ap (λ y. take i xs ++ y ∷ []) (sym e) in
    let f : flat_map g (take (i + 1) xs) ≡ flat_map g (take i xs) ++ (g x ++ []) = ap (flat_map g) t ∙ flat_map-append g (take i xs) (x ∷ []) in
    let l : length (flat_map g (take (i + 1) xs)) ≡ length (flat_map g (take i xs)) + length (g x) =
    ap length f ∙ length-append (flat_map g (take i xs)) (g x ++ []) ∙ ap (λ zs. length (flat_map g (take i xs)) + length zs) (append-nil (g x)) in
    omega (arith, l, c, m, n)

pub count_is_over : (count n : ℕ) → count ≡ min n 257 → ltb 256 count ≡ ltb 256 n
count_is_over count n e =
    elim (cases_lt 256 n) [
      | inl over ↦ let c : 256 < count = omega arith in grind (arith, nat_tests)
      | inr small ↦ let c : count ≤ 256 = omega arith in grind (arith, nat_tests)
    ]
