use Rattle.std.proofs.Common.{◌≡◌, false, [], ◌∷◌, ◌++◌, map, take, drop}
use Rattle.std.specs.List.{list_any}
use Rattle.sled_rules.specs.Faults.{is_outside, some_taken}
use Rattle.sled_rules.specs.Known.{field_entry}
use Rattle.sled_rules.specs.declared.meaning.Meaning.TheVariants as means
use Rattle.sled_rules.proofs.known.give_fields.Given as goal

abbrev pub invariant-loop-field : goal.invariant-loop-field
invariant-loop-field l = record {
  given : l.names ≡ l.fn.names ++ (l.token_name, means.Token) ∷ map (field_entry l.token) (take l.field-index l.fields);
  fresh : some_taken l.fn.names (l.token_name ∷ map (λ f. f.name) (take l.field-index l.fields)) (map (λ f. f.name) (drop l.field-index l.fields)) ≡ false;
  inside : list_any (is_outside l.token.bits) (drop l.field-index l.fields) ≡ false;
}
