use Rattle.std.proofs.Common.{ℕ, ◌+◌, ◌*◌, length}
use Rattle.line_reading.specs.Signs.{comma}
use Rattle.ssl_syntax.specs.ExprReaders.{read_expr}
use Rattle.line_reading.proofs.Loops.{Going}
use Rattle.ssl_syntax.proofs.exprs.+reading.Given as goal

abbrev pub decreases-read_expr : goal.decreases-read_expr
decreases-read_expr l = 5 * l.levels

abbrev pub decreases-read_named : goal.decreases-read_named
decreases-read_named l = 5 * l.inside + 4

abbrev pub decreases-read_signed : goal.decreases-read_signed
decreases-read_signed l = 5 * l.inside + 4

abbrev pub decreases-read_choice : goal.decreases-read_choice
decreases-read_choice l = 5 * l.inside + 3

abbrev pub decreases-read_binary : goal.decreases-read_binary
decreases-read_binary l = 5 * l.inside + 3

abbrev pub decreases-read_boxed : goal.decreases-read_boxed
decreases-read_boxed l = 5 * l.inside + 1

abbrev pub decreases-read_before : goal.decreases-read_before
decreases-read_before l = 5 * l.inside + 2

abbrev pub decreases-read_behind : goal.decreases-read_behind
decreases-read_behind l = 5 * l.inside + 3

abbrev pub decreases-read_several : goal.decreases-read_several
decreases-read_several l = 5 * l.inside + 1

abbrev pub invariant-read_several-more : goal.invariant-read_several-more
invariant-read_several-more l = Going comma (read_expr l.inside) l.fn.cursor.rest.now l.args l.cursor.rest.now

abbrev pub decreases-read_several-more : goal.decreases-read_several-more
decreases-read_several-more l = length l.cursor.rest.now
