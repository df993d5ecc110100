use Rattle.std.proofs.Common.{◌≡◌, ◌<◌, ◌≤◌, ◌+◌, ◌*◌, ℕ, true, take}
use Rattle.c_lang.specs.State.{has}
use Rattle.c_declared.proofs.sheet.cell_slots.Given as goal

-- the cells so far have room
abbrev pub invariant-loop-n : goal.invariant-loop-n
invariant-loop-n l = record {
  room : (c : ℕ) → has (take l.n-index l.numbers) c ≡ true → 2 * c + 3 ≤ l.most;
  few : l.most < 1024;
}
