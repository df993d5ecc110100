-- The target of a sound instruction's jump has 32 bits.
use Rattle.std.proofs.Common.{List, [], ◌∷◌, All, IfSome, Option}
use Rattle.std.proofs.lemmas.List.Elements.{All-head, All-tail}
use Rattle.std.specs.Option.{option_or}
use Rattle.rtl_core.specs.declared.expr.Expr.{Expr}
use Rattle.rtl_core.specs.declared.machine.Machine.{Machine}
use Rattle.rtl_core.specs.declared.transfer.Act.{Act}
use Rattle.rtl_core.specs.declared.transfer.Act.TheVariants.{SetCell, SetSlice, Store, Jump, Annul, Trap, Service, WinSave, WinRestore}
use Rattle.rtl_core.specs.declared.transfer.Transfer.{Transfer}
use Rattle.rtl_core.specs.SoundTerms.{HasWidth, IsSoundAct, IsSoundTransfer}
use Rattle.points.specs.Kinds.{act_target, jump_target}

-- an address, where there is one
abbrev pub IsAddressIfAny : Machine → Option Expr → Type 0
IsAddressIfAny m o = IfSome o (λ e. HasWidth m.widths e 32)

act-sound : (m : Machine) (act : Act) (rest : Option Expr) → IsSoundAct m act → IsAddressIfAny m rest → IsAddressIfAny m (option_or (act_target act) rest)
act-sound m (Jump e) rest h k = h
act-sound m (SetCell c e) rest h k = k
act-sound m (SetSlice c lo hi e) rest h k = k
act-sound m (Store n a e) rest h k = k
act-sound m Annul rest h k = k
act-sound m (Trap e) rest h k = k
act-sound m Service rest h k = k
act-sound m WinSave rest h k = k
act-sound m WinRestore rest h k = k

pub jump-sound : (m : Machine) (ts : List Transfer) → All (IsSoundTransfer m) ts → IsAddressIfAny m (jump_target ts)
jump-sound m [] h = tt
jump-sound m (t ∷ ts) h = act-sound m t.act (jump_target ts) (All-head (IsSoundTransfer m) t ts h).act (jump-sound m ts (All-tail (IsSoundTransfer m) t ts h))
