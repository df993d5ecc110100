use Rattle.std.proofs.Common.{◌+◌, ◌*◌, length}
use Rattle.std.specs.Prelude.{not}
use Rattle.c_text.specs.Tokens.{mark}
use Rattle.c_scan.specs.Readings.{at, exactly}
use Rattle.c_read.specs.Statements.{read_statement}
use Rattle.c_read.proofs.Loops.{Midway}
use Rattle.c_read.proofs.statements.+nesting.Given as goal

abbrev pub decreases-read_statement : goal.decreases-read_statement
decreases-read_statement l = 4 * l.levels

abbrev pub decreases-read_guarded : goal.decreases-read_guarded
decreases-read_guarded l = 4 * l.inside + 3

abbrev pub decreases-read_in_braces : goal.decreases-read_in_braces
decreases-read_in_braces l = 4 * l.inside + 2

abbrev pub decreases-read_stmts_within : goal.decreases-read_stmts_within
decreases-read_stmts_within l = 4 * l.inside + 1

abbrev pub invariant-read_stmts_within-more : goal.invariant-read_stmts_within-more
invariant-read_stmts_within-more l = Midway (λ ts. not (at (mark "}") ts)) (read_statement l.inside) ((exactly (mark "}")).read) l.fn.cursor l.stmts l.cursor

abbrev pub decreases-read_stmts_within-more : goal.decreases-read_stmts_within-more
decreases-read_stmts_within-more l = length l.cursor
