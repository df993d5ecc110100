-- The choices of an item with a name behind its parts.
use Rattle.std.proofs.Common.{◌≡◌, ℕ, ◌≤◌, List, [], ◌∷◌, ◌++◌, length, take, Option, Some, sym, ap, ◌∙◌}
use Rattle.std.proofs.lemmas.List.Sums.{fold-append}
use Rattle.rtl_core.specs.declared.encodings.Item.{Item}
use Rattle.sled_syntax.specs.declared.line.Part.{Part}
use Rattle.sled_syntax.specs.declared.line.Part.TheVariants.{Lone}
use Rattle.sled_syntax.specs.declared.line.SledItem.{SledItem}
use Rattle.sled_rules.specs.Alternatives.{choices, item_choices, lone_choices, nothing_asked, onto_first, part_choices}
use Rattle.sled_rules.specs.Meanings.{Table, named}
use Rattle.sled_rules.specs.Operands.{operand_of}
use Rattle.sled_rules.proofs.CountLaws.{part_rows}
use Rattle.sled_rules.proofs.RestLaws.{with_rest}

pub choices_with : (names : Table) (ops : List (List ℕ)) (it : SledItem) (parts : List Part) (i : ℕ) (name : List ℕ) (xs all : List (List Item)) → it.rest ≡ Some name
    → parts ≡ it.parts → length parts ≤ i → xs ≡ part_rows names ops (take i parts)
    → all ≡ choices onto_first xs (lone_choices (operand_of ops name) (named names name)) → all ≡ item_choices names ops it
choices_with names ops it parts i name xs all some same h x e =
    let step : List (List Item) → Part → List (List Item) = λ rows part. choices onto_first rows (part_choices names ops part) in
    e ∙ ap (λ rows. choices onto_first rows (lone_choices (operand_of ops name) (named names name))) x
    ∙ sym (fold-append step ((nothing_asked ∷ []) ∷ []) (take i parts) (Lone name ∷ [])) ∙ ap (part_rows names ops) (with_rest it parts i name some same h)
