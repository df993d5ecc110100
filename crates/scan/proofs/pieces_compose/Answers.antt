use Rattle.scan.proofs.Blanks.{writes_text, writes_both, writes_all}
use Rattle.scan.proofs.pieces_compose.Goals as goal

pub returns-clause-text : goal.returns-clause-text
returns-clause-text g c token_of is_blank laws = writes_text token_of is_blank laws

pub returns-clause-both : goal.returns-clause-both
returns-clause-both g c token_of is_blank v w ts us f h = writes_both f h

pub returns-clause-all : goal.returns-clause-all
returns-clause-all g c token_of is_blank w ts f = writes_all f
