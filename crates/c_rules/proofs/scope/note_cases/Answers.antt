use Rattle.c_lang.specs.declared.tree.Case.{Case}
use Rattle.c_lang.specs.Items.{Label}
use Rattle.c_rules.proofs.ScopeLaws.{note_one_at}
use Rattle.c_rules.proofs.scope.note_cases.Goals as goal

pub loop-case-preserved : goal.loop-case-preserved
loop-case-preserved c = note_one_at c.args.scope.now (λ (x : Case). Label x.to) c.args.cases.now c.loop-case.case-index _ c.args.kept.now c.loop-case.kept c.note_label.new.kept c.loop-case-test.true c.loop-case.invariant c.note_label.ensures
