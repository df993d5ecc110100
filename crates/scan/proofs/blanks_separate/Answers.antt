use Rattle.std.proofs.Common.{arith}
use Rattle.scan.proofs.Blanks.{lex_over}
use Rattle.scan.proofs.blanks_separate.Goals as goal

pub returns : goal.returns
returns g c token_of is_blank laws b before behind ts h e = lex_over token_of is_blank laws b before behind 0 ts h (omega arith) e
