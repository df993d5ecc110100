use Rattle.std.proofs.Common.{◌<◌, ◌^◌, All, take}
use Rattle.c_declared.specs.Sheets.{HasRoom}
use Rattle.c_declared.proofs.sheet.slots_of.Given as goal

-- the functions so far have room
abbrev pub invariant-loop-f : goal.invariant-loop-f
invariant-loop-f l = record {
  room : All (HasRoom l.most) (take l.f-index l.functions);
  few : l.most < 2 ^ 32;
}
