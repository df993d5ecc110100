-- The steps, the temporaries and the nodes of an instruction.
use Rattle.std.specs.Prelude.{ℕ, zero, suc, ◌+◌, max, Option, Some, None, List, [], ◌∷◌}
use Rattle.rtl_core.specs.declared.expr.Expr.{Expr}
use Rattle.rtl_core.specs.declared.machine.Machine.{Machine}
use Rattle.rtl_core.specs.declared.machine.WinShape.{WinShape}
use Rattle.rtl_core.specs.declared.transfer.Act.{Act}
use Rattle.rtl_core.specs.declared.transfer.Act.TheVariants.{SetCell, SetSlice, Store, Jump, Annul, Trap, Service, WinSave, WinRestore}
use Rattle.rtl_core.specs.declared.transfer.Transfer.{Transfer}
use Rattle.rtl_core.specs.Terms.{term_of}
use Rattle.c_lower.specs.Code.{steps, need, nodes, leaves}

-- ---- steps

-- k steps, and n more
abbrev pub many : ℕ → ℕ → ℕ
many zero n = n
many (suc k) n = suc (many k n)

abbrev pub save_steps : Option WinShape → ℕ → ℕ
save_steps None n = n
save_steps (Some w) n = suc (many w.count (many w.count (suc (many w.count (many w.count (many w.count n))))))

abbrev pub restore_steps : Option WinShape → ℕ → ℕ
restore_steps None n = n
restore_steps (Some w) n = suc (suc (many w.count (many w.count (many w.count n))))

-- the most steps of an act's statements, and n more
abbrev pub act_steps : Machine → Act → ℕ → ℕ
act_steps m (SetCell c e) n = steps (term_of e) (suc n)
act_steps m (SetSlice c lo hi e) n = steps (term_of e) (suc n)
act_steps m (Store b a e) n = steps (term_of a) (steps (term_of e) (suc n))
act_steps m (Jump e) n = steps (term_of e) (suc (suc n))
act_steps m Annul n = suc n
act_steps m (Trap e) n = steps (term_of e) (suc n)
act_steps m Service n = suc n
act_steps m WinSave n = save_steps m.windows n
act_steps m WinRestore n = restore_steps m.windows n

-- the same of a transfer
abbrev pub transfer_steps : Machine → Option Expr → Act → ℕ → ℕ
transfer_steps m None act n = act_steps m act n
transfer_steps m (Some guard) act n = steps (term_of guard) (suc (act_steps m act n))

-- the same of some transfers
abbrev pub transfers_steps : Machine → List Transfer → ℕ → ℕ
transfers_steps m [] n = n
transfers_steps m (t ∷ ts) n = transfer_steps m t.guard t.act (transfers_steps m ts n)

-- the most steps of an instruction's statements
abbrev pub lowered_steps : Machine → List Transfer → ℕ
lowered_steps m ts = suc (suc (suc (suc (transfers_steps m ts 0))))

-- ---- temporaries

-- the temporaries of an act's statements are below this
abbrev pub act_need : Act → ℕ
act_need (SetCell c e) = 4 + need (term_of e)
act_need (SetSlice c lo hi e) = 4 + need (term_of e)
act_need (Store b a e) = max (4 + need (term_of a)) (5 + need (term_of e))
act_need (Jump e) = 4 + need (term_of e)
act_need (Trap e) = 4 + need (term_of e)
act_need _ = 4

-- the same of a guard
abbrev pub guard_need : Option Expr → ℕ
guard_need None = 4
guard_need (Some guard) = 4 + need (term_of guard)

-- the temporaries of an instruction's statements are below this
abbrev pub lowered_need : List Transfer → ℕ
lowered_need [] = 4
lowered_need (t ∷ ts) = max (guard_need t.guard) (max (act_need t.act) (lowered_need ts))

-- ---- nodes and leaves

-- the nodes of an act's expressions
abbrev pub act_nodes : Act → ℕ
act_nodes (SetCell c e) = nodes (term_of e)
act_nodes (SetSlice c lo hi e) = nodes (term_of e)
act_nodes (Store b a e) = nodes (term_of a) + nodes (term_of e)
act_nodes (Jump e) = nodes (term_of e)
act_nodes (Trap e) = nodes (term_of e)
act_nodes _ = 0

abbrev pub guard_nodes : Option Expr → ℕ
guard_nodes None = 0
guard_nodes (Some guard) = nodes (term_of guard)

-- the nodes of an instruction: each node of an expression counts one, and each transfer counts one
abbrev pub nodes_of : List Transfer → ℕ
nodes_of [] = 0
nodes_of (t ∷ ts) = guard_nodes t.guard + act_nodes t.act + 1 + nodes_of ts

-- the leaves of an act's expressions
abbrev pub act_leaves : Act → ℕ
act_leaves (SetCell c e) = leaves (term_of e)
act_leaves (SetSlice c lo hi e) = leaves (term_of e)
act_leaves (Store b a e) = leaves (term_of a) + leaves (term_of e)
act_leaves (Jump e) = leaves (term_of e)
act_leaves (Trap e) = leaves (term_of e)
act_leaves _ = 0

abbrev pub guard_leaves : Option Expr → ℕ
guard_leaves None = 0
guard_leaves (Some guard) = leaves (term_of guard)

-- the leaves of an instruction's expressions
abbrev pub leaves_of : List Transfer → ℕ
leaves_of [] = 0
leaves_of (t ∷ ts) = guard_leaves t.guard + act_leaves t.act + leaves_of ts
