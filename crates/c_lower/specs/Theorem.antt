-- What lowering promises.
use Rattle.std.specs.Prelude.{◌≡◌, ℕ, ◌+◌, ◌*◌, ◌^◌, ◌<◌, ◌≤◌, nat_lt, Bool, false, List, [], ◌++◌}
use Rattle.rtl_core.specs.declared.machine.Machine.{Machine}
use Rattle.rtl_core.specs.declared.transfer.Transfer.{Transfer}
use Rattle.rtl_core.specs.SoundTerms.{AreWidths, AreSoundTransfers}
use Rattle.c_lang.specs.declared.tree.Stmt.{Stmt}
use Rattle.c_lower.specs.Contract.{DoTransfers}
use Rattle.rtl_core.specs.SoundMachine.{HaveSoundWindows}
use Rattle.c_lower.specs.Naming.{IsNaming, NamesAll}
use Rattle.c_lower.specs.Lowered.{lowered}
use Rattle.c_lower.specs.Tidy.{Tidy}
use Rattle.c_lower.specs.Accounts.{lowered_steps, lowered_need, nodes_of}

-- a machine whose widths and windows are well formed
pub record IsLowerable (m : Machine) : Type 0 where
  pub widths : AreWidths m.widths
  pub windows : HaveSoundWindows m m.windows

-- the statements do what the transfers do, within four steps a node and 46 more; they stand inside at most two
-- `if`s, read no temporary before they assign it, and assign t0 to t3, whichever way each `if` goes
pub record IsLowered (m : Machine) (pc : ℕ) (ts : List Transfer) (named : ℕ → Bool) (temps : ℕ) : Type 0 where
  pub does : DoTransfers m pc ts named temps (lowered m pc ts []) (lowered_steps m ts)
  pub within : lowered_steps m ts ≤ 4 * nodes_of ts + 46
  pub tidy : Tidy named temps 2 (λ i. false) (lowered m pc ts []) (λ i. nat_lt i 4)
  pub onto : (rest : List Stmt) → lowered m pc ts rest ≡ lowered m pc ts [] ++ rest

-- so are all sound transfers lowered, over any temporaries that are enough
abbrev pub AllLowered : Type 0
AllLowered = (m : Machine) → IsLowerable m → (pc : ℕ) → pc < 2 ^ 32 → (ts : List Transfer) → AreSoundTransfers m ts
    → (named : ℕ → Bool) → IsNaming m ts named → (temps : ℕ) → lowered_need ts ≤ temps → IsLowered m pc ts named temps

-- sound transfers name only cells that are there
abbrev pub AllNamed : Type 0
AllNamed =
    (m : Machine) → HaveSoundWindows m m.windows → (ts : List Transfer) → AreSoundTransfers m ts → (named : ℕ → Bool)
    → NamesAll m named → IsNaming m ts named
