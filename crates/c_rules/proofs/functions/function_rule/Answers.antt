use Rattle.std.proofs.Common.{◌++◌, map, nat_eq, ap, ◌∙◌}
use Rattle.c_lang.specs.declared.tree.CBlock.{CBlock}
use Rattle.c_rules.specs.declared.scope.Scope.{Scope}
use Rattle.c_rules.specs.Scopes.{same_label}
use Rattle.c_rules.proofs.Apart.{gathered, gathered_none}
use Rattle.c_rules.proofs.CodeLaws.{labels_twice, rule_is}
use Rattle.c_rules.proofs.functions.function_rule.Goals as goal

pub returns-in_default-2 : goal.returns-in_default-2
returns-in_default-2 c = λ t l protos.
    let f = c.args.function.now in
    let once = gathered nat_eq c.deref.result.now (f.params ++ f.cells) c.in_ok-cells.field-0 c.in-Some.cells (c.deref.ensures.value ∙ c.in_ok-cells_of.ensures) c.in_ok-cells.ensures c.in-Some.is in
    let same = c.deref-2.ensures.value ∙ c.in_ok-labels_of.ensures ∙ ap (map (λ (b : CBlock). b.label)) c.blocks-2.ensures in
    labels_twice t c.args.place f once.0 (gathered_none same_label c.deref-2.result.now (map (λ (b : CBlock). b.label) f.blocks) c.in_ok-labels.field-0 same c.in_ok-labels.ensures c.in_default-2.is)

pub returns : goal.returns
returns c = λ t l protos.
    let f = c.args.function.now in
    let once = gathered nat_eq c.deref.result.now (f.params ++ f.cells) c.in_ok-cells.field-0 c.in-Some.cells (c.deref.ensures.value ∙ c.in_ok-cells_of.ensures) c.in_ok-cells.ensures c.in-Some.is in
    let same = c.deref-2.ensures.value ∙ c.in_ok-labels_of.ensures ∙ ap (map (λ (b : CBlock). b.label)) c.blocks-2.ensures in
    let labels = gathered same_label c.deref-2.result.now (map (λ (b : CBlock). b.label) f.blocks) c.in_ok-labels.field-0 c.in-Some-2.labels same c.in_ok-labels.ensures c.in-Some-2.is in
    let at = c.args.calls.ref_ptr in
    let s : Scope = record { cells = record { ref_ptr = at; now = c.in-Some.cells }; temps = c.temps.result; labels = record { ref_ptr = at; now = c.in-Some-2.labels }; calls = c.args.calls } in
    rule_is t c.args.place f c.args.prototypes.now s c.kept_by-kept.result c.blocks-3.result.now c.kept_by-kept.ensures c.blocks-3.ensures (record { cells = once.1; temps = c.temps.ensures; labels = labels.1; calls = l }) protos once.0 labels.0 c.is_declared.result c.is_declared.ensures c.rule_of.result c.rule_of.ensures
