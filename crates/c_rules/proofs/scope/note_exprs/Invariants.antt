use Rattle.std.proofs.Common.{◌≡◌, map, take}
use Rattle.c_lang.specs.Items.{names_in, together}
use Rattle.c_rules.specs.Scopes.{noted}
use Rattle.c_rules.proofs.scope.note_exprs.Given as goal

abbrev pub invariant-loop-expr : goal.invariant-loop-expr
invariant-loop-expr l = l.kept ≡ noted l.scope l.fn.kept (together (map names_in (take l.expr-index l.exprs)))
