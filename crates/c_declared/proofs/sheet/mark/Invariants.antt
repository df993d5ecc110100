use Rattle.std.proofs.Common.{◌≡◌, ◌<◌, ℕ, false, take}
use Rattle.std.specs.Prelude.{◌||◌, slice_index_or}
use Rattle.c_lang.specs.State.{has}
use Rattle.c_declared.proofs.sheet.mark.Given as goal

-- the cells so far are marked
abbrev pub invariant-loop-n : goal.invariant-loop-n
invariant-loop-n l = (c : ℕ) → c < 256 → slice_index_or l.cells c false ≡ (slice_index_or l.fn.cells c false || has (take l.n-index l.numbers) c)
