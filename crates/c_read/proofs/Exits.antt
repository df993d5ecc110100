-- A function that leaves early with a fault of its part tells what the whole reader tells.
use Rattle.std.proofs.Common.{Err, List, refl}
use Rattle.c_text.specs.Tokens.{Token}
use Rattle.c_scan.specs.declared.stop.Stop.{Stop}
use Rattle.c_scan.specs.declared.stop.Stop.TheVariants.{Malformed, NoMemory}
use Rattle.c_scan.specs.Readings.{Outcome, Reader, followed, Tells}

pub stops_too : {A B : Type 0} (e : Stop) (remain : Outcome A) (next : A → Reader B) (rest more : List Token) → Tells {A = A} (Err e) rest remain → Tells {A = B} (Err e) more (followed remain next)
stops_too Malformed remain next rest more h = rw h refl
stops_too NoMemory remain next rest more h = tt

pub ruleset early_exits = (stops_too)
