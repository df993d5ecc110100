use Rattle.std.proofs.Common.{rules}
use Rattle.c_text.proofs.Rows.{rows_count}
use Rattle.c_text.proofs.items.row_count.Goals as goal

pub returns-else-is_empty : goal.returns-else-is_empty
returns-else-is_empty c = rows_count c.args.segments.now (search rules)
