use Rattle.std.proofs.Common.{◌≡◌, ◌++◌, take}
use Rattle.line_reading.specs.Signs.{semicolon}
use Rattle.line_reading.specs.Spelling.{each_behind}
use Rattle.ssl_syntax.specs.Transfers.{transfer_toks}
use Rattle.ssl_syntax.proofs.spelled_transfers.put_transfers.Given as goal

abbrev pub invariant-loop-transfer : goal.invariant-loop-transfer
invariant-loop-transfer l = l.out ≡ l.initial.out ++ each_behind semicolon transfer_toks (take l.transfer-index l.rest)
