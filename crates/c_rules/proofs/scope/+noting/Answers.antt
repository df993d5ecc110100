use Rattle.c_lang.specs.Items.{mentions_in}
use Rattle.c_rules.proofs.ScopeLaws.{note_step}
use Rattle.c_rules.proofs.scope.+noting.Goals as goal

pub note_stmts-loop-stmt-preserved : goal.note_stmts-loop-stmt-preserved
note_stmts-loop-stmt-preserved t c = note_step c.args.scope.now mentions_in c.args.stmts.now c.loop-stmt.stmt-index c.stmt-item.result c.args.kept.now c.loop-stmt.kept c.note_stmt.new.kept c.loop-stmt-test.true c.stmt-item.is c.loop-stmt.invariant c.note_stmt.ensures
