use Rattle.text_lex.proofs.Spelled.{writes_token, tokens_spelled, spelled_line}
use Rattle.text_lex.proofs.spelling.spelled_tokens.Goals as goal

pub returns-clause-token : goal.returns-clause-token
returns-clause-token c = writes_token

pub returns-clause-tokens : goal.returns-clause-tokens
returns-clause-tokens c = tokens_spelled

pub returns-clause-line : goal.returns-clause-line
returns-clause-line c = spelled_line
