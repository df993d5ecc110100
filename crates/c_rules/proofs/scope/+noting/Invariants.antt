use Rattle.std.proofs.Common.{◌≡◌, map, take}
use Rattle.c_lang.specs.Items.{mentions_in, together}
use Rattle.c_rules.specs.Scopes.{noted}
use Rattle.c_rules.proofs.scope.+noting.Given as goal

abbrev pub invariant-note_stmts-loop-stmt : goal.invariant-note_stmts-loop-stmt
invariant-note_stmts-loop-stmt l = l.kept ≡ noted l.scope l.fn.kept (together (map mentions_in (take l.stmt-index l.stmts)))
