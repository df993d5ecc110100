use Rattle.std.proofs.Common.{◌+◌, ◌*◌}
use Rattle.c_read.proofs.expressions.+reading.Given as goal

abbrev pub decreases-read_expr : goal.decreases-read_expr
decreases-read_expr l = 3 * l.levels

abbrev pub decreases-read_in_box : goal.decreases-read_in_box
decreases-read_in_box l = 3 * l.inside + 1

abbrev pub decreases-read_behind_first : goal.decreases-read_behind_first
decreases-read_behind_first l = 3 * l.inside + 2
