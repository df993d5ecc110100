-- What the code of transfers keeps and answers, as the machine in the middle of an instruction.
use Rattle.std.specs.Prelude.{ℕ, Bool, true, false, List, Option, Some, None, Result, Ok, Err}
use Rattle.rtl_core.specs.declared.stop.Stop.{Stop}
use Rattle.rtl_core.specs.declared.stop.Trap.{Trap}
use Rattle.rtl_core.specs.Contents.{Contents}
use Rattle.rtl_core.specs.Transfers.{Doing, Ran, Went, Halted, stop_of}
use Rattle.rtl_meaning.specs.declared.effect.Effect.{Effect}

-- a machine in the middle of an instruction: what it holds, and what the effect tells beside a stop
abbrev pub doing : List ℕ → Contents → List (List ℕ) → Effect → Doing
doing cells memory saved effect = record {
  cells = cells;
  memory = memory;
  saved = saved;
  jump = effect.jump;
  annul = effect.annul;
  service = effect.service;
}

-- what an instruction came to, from its stop where it has one
abbrev pub finished : Option Stop → Doing → Ran
finished None d = Went d
finished (Some stop) d = Halted stop d

-- what an act came to, from its answer
abbrev pub ended : Result (Unit {0}) Stop → Doing → Ran
ended (Ok u) d = Went d
ended (Err stop) d = Halted stop d

-- a value, or the stop that a trap makes of the instruction at pc
abbrev pub or_stop : ℕ → Result ℕ Trap → Result ℕ Stop
or_stop pc (Ok v) = Ok v
or_stop pc (Err trap) = Err (stop_of pc trap)

-- the act where its guard allows it, nothing where it does not, or the guard's stop
abbrev pub guided : Result Bool Stop → Doing → Ran → Ran
guided (Ok true) d act = act
guided (Ok false) d act = Went d
guided (Err stop) d act = Halted stop d
