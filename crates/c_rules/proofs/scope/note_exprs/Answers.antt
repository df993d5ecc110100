use Rattle.c_lang.specs.Items.{names_in}
use Rattle.c_rules.proofs.ScopeLaws.{note_step}
use Rattle.c_rules.proofs.scope.note_exprs.Goals as goal

pub loop-expr-preserved : goal.loop-expr-preserved
loop-expr-preserved c = note_step c.args.scope.now names_in c.args.exprs.now c.loop-expr.expr-index c.expr-item.result c.args.kept.now c.loop-expr.kept c.note_expr.new.kept c.loop-expr-test.true c.expr-item.is c.loop-expr.invariant c.note_expr.ensures
