-- A step over the transfers of an instruction.
use Rattle.std.proofs.Common.{◌≡◌, ℕ, zero, suc, ◌+◌, ◌≤◌, ◌<◌, max, List, [], ◌∷◌, ◌++◌, Option, Some, None, append_assoc, sym, ap, ◌∙◌, subst, arith, length, get_or, drop}
use Rattle.std.specs.Prelude.{All}
use Rattle.std.proofs.lemmas.List.{drop_more}
use Rattle.rtl_core.specs.declared.expr.Expr.{Expr}
use Rattle.rtl_core.specs.declared.machine.Machine.{Machine}
use Rattle.rtl_core.specs.declared.transfer.Act.{Act}
use Rattle.rtl_core.specs.declared.transfer.Transfer.{Transfer}
use Rattle.rtl_core.specs.SoundTerms.{IsSoundTransfer}
use Rattle.rtl_core.specs.Terms.{term_of}
use Rattle.c_lang.specs.declared.tree.Stmt.{Stmt}
use Rattle.c_lang.specs.declared.tree.Stmt.TheVariants.{If}
use Rattle.c_lower.specs.Accounts.{act_need, guard_need, lowered_need}
use Rattle.c_lower.specs.Code.{temp}
use Rattle.c_lower.specs.Lowerable.{HasByteCells, CanLowerTransfer}
use Rattle.c_lower.specs.Lowered.{act_code, transfer_code, transfers_code}
use Rattle.c_lower.proofs.Appends.{code_on, act_on}

transfer_then : (m : Machine) (pc : ℕ) (guard : Option Expr) (act : Act) (r : List Stmt) → transfer_code m pc guard act [] ++ r ≡ transfer_code m pc guard act r
transfer_then m pc None act r = act_on m pc act [] r
transfer_then m pc (Some guard) act r = code_on m pc (term_of guard) 4 (If (temp 4) (act_code m pc act []) ∷ []) r

pub next_transfer : (m : Machine) (pc : ℕ) (x0 x1 all : List Stmt) (ts : List Transfer) (i : ℕ) (t : Transfer) → i < length ts → t ≡ get_or ts i t → x0 ++ transfers_code m pc (drop i ts) [] ≡ all
    → x1 ≡ x0 ++ transfer_code m pc t.guard t.act [] → x1 ++ transfers_code m pc (drop (i + 1) ts) [] ≡ all
next_transfer m pc x0 x1 all ts i t within is before h =
    let rest = transfers_code m pc (drop (i + 1) ts) [] in
    let e : drop i ts ≡ t ∷ drop (i + 1) ts = drop_more ts i t within ∙ ap (λ x. x ∷ drop (i + 1) ts) (sym is) in
    ap (λ l. l ++ rest) h ∙ append_assoc x0 (transfer_code m pc t.guard t.act []) rest ∙ ap (λ l. x0 ++ l) (transfer_then m pc t.guard t.act rest)
    ∙ ap (λ l. x0 ++ transfers_code m pc l []) (sym e) ∙ before

-- ---- temporaries
pub least_need : (ts : List Transfer) → 4 ≤ lowered_need ts
least_need [] = omega arith
least_need (t ∷ ts) = omega (arith, least_need ts)

pub need_at : (ts : List Transfer) → (i : ℕ) (t : Transfer) → i < length ts → t ≡ get_or ts i t → max (guard_need t.guard) (act_need t.act) ≤ lowered_need ts
need_at [] i t within is = absurd (omega arith)
need_at (first ∷ ts) zero t within is = subst (λ x. max (guard_need x.guard) (act_need x.act) ≤ lowered_need (first ∷ ts)) (sym is) (omega arith)
need_at (first ∷ ts) (suc i) t within is = let h = need_at ts i t (omega (arith, within)) is in omega (arith, h)

-- ---- what each transfer asks
pub each_transfer : (m : Machine) → HasByteCells m → (ts : List Transfer) → All (IsSoundTransfer m) ts → lowered_need ts ≤ 500 → (i : ℕ) (t : Transfer) → i < length ts → t ≡ get_or ts i t → CanLowerTransfer m t
each_transfer m ok ts sound few i t within is =
    let n = need_at ts i t within is in
    record { machine = ok; sound = subst (IsSoundTransfer m) (sym is) (sound i t within); guard_room = omega (arith, n, few); act_room = omega (arith, n, few) }
