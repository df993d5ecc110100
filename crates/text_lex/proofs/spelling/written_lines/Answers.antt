use Rattle.text_lex.proofs.WrittenLines.{lines_written}
use Rattle.text_lex.proofs.spelling.written_lines.Goals as goal

pub returns : goal.returns
returns c = lines_written
