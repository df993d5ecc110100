-- How a reader of the code stops where one of its parts does.
use Rattle.std.proofs.Common.{Err, List, refl}
use Rattle.text_lex.specs.declared.token.Token.{Token}
use Rattle.line_reading.specs.declared.stop.Stop.{Stop}
use Rattle.line_reading.specs.declared.stop.Stop.TheVariants.{Malformed, NoMemory}
use Rattle.line_reading.specs.Readings.{Read, Reader, after, Told}

pub stops : {A B : Type 0} (e : Stop) (r : Read A) (next : A → Reader B) (rest more : List Token) → Told {A = A} (Err e) rest r → Told {A = B} (Err e) more (after r next)
stops Malformed r next rest more h = rw h refl
stops NoMemory r next rest more h = tt

pub ruleset stop_laws = (stops)
