-- How many steps the statements take, and how many temporaries.
use Rattle.std.proofs.Common.{◌≡◌, ℕ, zero, suc, ◌+◌, ◌*◌, ◌≤◌, if◌then◌else◌, Option, Some, None, List, [], ◌∷◌, map, refl, sym, ap, ◌∙◌, arith}
use Rattle.std.specs.Prelude.{count_by}
use Rattle.std.proofs.lemmas.List.Sums.{sum_by-cons}
use Rattle.rtl_core.specs.declared.expr.Expr.{Expr}
use Rattle.rtl_core.specs.declared.machine.Machine.{Machine}
use Rattle.rtl_core.specs.declared.machine.WinShape.{WinShape}
use Rattle.rtl_core.specs.declared.transfer.Act.{Act}
use Rattle.rtl_core.specs.declared.transfer.Act.TheVariants.{SetCell, SetSlice, Store, Jump, Annul, Trap, Service, WinSave, WinRestore}
use Rattle.rtl_core.specs.declared.transfer.Transfer.{Transfer}
use Rattle.rtl_core.specs.SoundTerms.{moves_window}
use Rattle.rtl_core.specs.Terms.{Term, Const, Cell, Load, Unary, Binary, Slice, Zext, Sext, Choice, term_of}
use Rattle.c_lower.specs.Accounts.{many, save_steps, restore_steps, act_steps, transfer_steps, transfers_steps, lowered_steps, act_need, guard_need, lowered_need, act_nodes, guard_nodes, nodes_of, act_leaves, guard_leaves, leaves_of}
use Rattle.c_lower.specs.Code.{steps, need, nodes, leaves}
use Rattle.rtl_core.specs.SoundMachine.{HaveSoundWindows}

pub steps_within : (t : Term) (n : ℕ) → (n ≤ steps t n) × (steps t n ≤ 2 * nodes t + n)
steps_within (Const w x) n = (omega arith, omega arith)
steps_within (Cell c) n = (omega arith, omega arith)
steps_within (Load b a) n = let i = steps_within a (suc n) in (omega arith, omega arith)
steps_within (Unary op a) n = let i = steps_within a (suc n) in (omega arith, omega arith)
steps_within (Binary op a b) n =
    let j = steps_within b (suc (suc n)) in let i = steps_within a (steps b (suc (suc n))) in (omega arith, omega arith)
steps_within (Slice a lo hi) n = let i = steps_within a (suc n) in (omega arith, omega arith)
steps_within (Zext w a) n = let i = steps_within a n in (omega arith, omega arith)
steps_within (Sext w a) n = let i = steps_within a (suc n) in (omega arith, omega arith)
steps_within (Choice c a b) n =
    let j = steps_within b (suc n) in let i = steps_within a (steps b (suc n)) in
    let h = steps_within c (steps a (steps b (suc n))) in (omega arith, omega arith)

many_is : (k n : ℕ) → many k n ≡ k + n
many_is zero n = omega arith
many_is (suc k) n = omega (arith, many_is k n)

save_within : (m : Machine) (o : Option WinShape) → HaveSoundWindows m o → (n : ℕ)
    → (n ≤ save_steps o n) × (save_steps o n ≤ 42 + n)
save_within m None h n = (omega arith, omega arith)
save_within m (Some w) h n =
    let k = w.count in let sound = h w refl in let few = sound.few in
    let a = many_is k n in let b = many_is k (many k n) in let c = many_is k (many k (many k n)) in
    let d = many_is k (suc (many k (many k (many k n)))) in
    let e = many_is k (many k (suc (many k (many k (many k n))))) in
    (omega arith, omega arith)

restore_within : (m : Machine) (o : Option WinShape) → HaveSoundWindows m o → (n : ℕ)
    → (n ≤ restore_steps o n) × (restore_steps o n ≤ 42 + n)
restore_within m None h n = (omega arith, omega arith)
restore_within m (Some w) h n =
    let k = w.count in let sound = h w refl in let few = sound.few in
    let a = many_is k n in let b = many_is k (many k n) in let c = many_is k (many k (many k n)) in
    (omega arith, omega arith)

-- 1 for a window move
abbrev move : Act → ℕ
move act = if moves_window act then 1 else 0

pub act_within : (m : Machine) → HaveSoundWindows m m.windows → (act : Act) (n : ℕ)
    → (n ≤ act_steps m act n) × (act_steps m act n ≤ 2 * act_nodes act + 2 + 42 * move act + n)
act_within m h (SetCell c e) n = let i = steps_within (term_of e) (suc n) in (omega arith, omega arith)
act_within m h (SetSlice c lo hi e) n = let i = steps_within (term_of e) (suc n) in (omega arith, omega arith)
act_within m h (Store b a e) n =
    let j = steps_within (term_of e) (suc n) in let i = steps_within (term_of a) (steps (term_of e) (suc n)) in
    (omega arith, omega arith)
act_within m h (Jump e) n = let i = steps_within (term_of e) (suc (suc n)) in (omega arith, omega arith)
act_within m h Annul n = (omega arith, omega arith)
act_within m h (Trap e) n = let i = steps_within (term_of e) (suc n) in (omega arith, omega arith)
act_within m h Service n = (omega arith, omega arith)
act_within m h WinSave n = let i = save_within m m.windows h n in (i.0, omega arith)
act_within m h WinRestore n = let i = restore_within m m.windows h n in (i.0, omega arith)

transfer_within : (m : Machine) → HaveSoundWindows m m.windows → (guard : Option Expr) (act : Act) (n : ℕ)
    → transfer_steps m guard act n ≤ 4 * (guard_nodes guard + act_nodes act + 1) + 42 * move act + n
transfer_within m h None act n = let i = act_within m h act n in omega arith
transfer_within m h (Some guard) act n =
    let i = act_within m h act n in let j = steps_within (term_of guard) (suc (act_steps m act n)) in omega arith

-- how many window moves there are
abbrev moves : List Transfer → ℕ
moves [] = 0
moves (t ∷ ts) = move t.act + moves ts

transfers_within : (m : Machine) → HaveSoundWindows m m.windows → (ts : List Transfer) (n : ℕ)
    → transfers_steps m ts n ≤ 4 * nodes_of ts + 42 * moves ts + n
transfers_within m h [] n = omega arith
transfers_within m h (t ∷ ts) n =
    let i = transfers_within m h ts n in let j = transfer_within m h t.guard t.act (transfers_steps m ts n) in
    omega arith

moves_are : (ts : List Transfer) → moves ts ≡ count_by moves_window (map (λ t. t.act) ts)
moves_are [] = refl
moves_are (t ∷ ts) =
    ap (λ n. move t.act + n) (moves_are ts)
    ∙ sym (sum_by-cons (λ act. if moves_window act then 1 else 0) t.act (map (λ t. t.act) ts))

pub lowered_within : (m : Machine) → HaveSoundWindows m m.windows → (ts : List Transfer)
    → count_by moves_window (map (λ t. t.act) ts) ≤ 1 → lowered_steps m ts ≤ 4 * nodes_of ts + 46
lowered_within m h ts one = let i = transfers_within m h ts 0 in let e = moves_are ts in omega arith

-- ---- a temporary for each leaf is enough
pub leaf : (t : Term) → 1 ≤ leaves t
leaf (Const w x) = omega arith
leaf (Cell c) = omega arith
leaf (Load b a) = leaf a
leaf (Unary op a) = leaf a
leaf (Binary op a b) = omega (arith, leaf a)
leaf (Slice a lo hi) = leaf a
leaf (Zext w a) = leaf a
leaf (Sext w a) = leaf a
leaf (Choice c a b) = omega (arith, leaf c)

pub need_within : (t : Term) → need t ≤ leaves t
need_within (Const w x) = omega arith
need_within (Cell c) = omega arith
need_within (Load b a) = need_within a
need_within (Unary op a) = need_within a
need_within (Binary op a b) = omega (arith, need_within a, need_within b, leaf a)
need_within (Slice a lo hi) = need_within a
need_within (Zext w a) = need_within a
need_within (Sext w a) = need_within a
need_within (Choice c a b) = omega (arith, need_within c, need_within a, need_within b, leaf c, leaf a)

act_need_within : (act : Act) → act_need act ≤ 5 + act_leaves act
act_need_within (SetCell c e) = omega (arith, need_within (term_of e))
act_need_within (SetSlice c lo hi e) = omega (arith, need_within (term_of e))
act_need_within (Store b a e) = omega (arith, need_within (term_of a), need_within (term_of e))
act_need_within (Jump e) = omega (arith, need_within (term_of e))
act_need_within Annul = omega arith
act_need_within (Trap e) = omega (arith, need_within (term_of e))
act_need_within Service = omega arith
act_need_within WinSave = omega arith
act_need_within WinRestore = omega arith

guard_need_within : (guard : Option Expr) → guard_need guard ≤ 5 + guard_leaves guard
guard_need_within None = omega arith
guard_need_within (Some guard) = omega (arith, need_within (term_of guard))

pub lowered_need_within : (ts : List Transfer) → lowered_need ts ≤ 5 + leaves_of ts
lowered_need_within [] = omega arith
lowered_need_within (t ∷ ts) = omega (arith, guard_need_within t.guard, act_need_within t.act, lowered_need_within ts)
