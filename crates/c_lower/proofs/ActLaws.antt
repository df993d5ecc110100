-- What is pushed for an act, a transfer and an instruction.
use Rattle.std.proofs.Common.{◌≡◌, ℕ, zero, suc, ◌+◌, ◌≤◌, ◌<◌, List, [], ◌∷◌, ◌++◌, Option, Some, append_assoc, refl, sym, ap, ◌∙◌, subst, arith, length}
use Rattle.rtl_core.specs.declared.expr.Expr.{Expr}
use Rattle.rtl_core.specs.declared.machine.Machine.{Machine}
use Rattle.rtl_core.specs.declared.machine.WinShape.{WinShape}
use Rattle.rtl_core.specs.declared.transfer.Act.{Act}
use Rattle.rtl_core.specs.declared.transfer.Act.TheVariants as A
use Rattle.rtl_core.specs.declared.transfer.Transfer.{Transfer}
use Rattle.rtl_core.specs.SoundTerms.{IsSoundAct, IsSoundGuard}
use Rattle.rtl_core.specs.Terms.{term_of}
use Rattle.c_lang.specs.declared.tree.CExpr.{CExpr}
use Rattle.c_lang.specs.declared.tree.CExpr.TheVariants.{Num, Of}
use Rattle.c_lang.specs.declared.tree.Stmt.{Stmt}
use Rattle.c_lang.specs.declared.tree.Stmt.TheVariants.{Set, Store as StoreAt, If, Stop as StopWith}
use Rattle.c_lang.specs.declared.tree.Var.TheVariants.{Cell as CellVar, Temp}
use Rattle.c_lower.specs.Accounts.{act_need, guard_need}
use Rattle.c_lower.specs.Cells.{set_c}
use Rattle.c_lower.specs.Code.{temp, code}
use Rattle.c_lower.specs.Formula.{with_bits_c}
use Rattle.c_lower.specs.Lowerable.{CanLower, HasByteCells, IsByteShape, CanLowerAct, CanLowerTransfer}
use Rattle.c_lower.specs.Lowered.{act_code, transfer_code}
use Rattle.rtl_core.specs.SoundMachine.{AreWindowCells}
use Rattle.c_lower.proofs.CodeLaws.{coded}

-- ---- what an act asks of its parts
sound_as : (m : Machine) (act a : Act) → act ≡ a → CanLowerAct m act → IsSoundAct m a
sound_as m act a is h = subst (IsSoundAct m) is h.sound

room_as : (m : Machine) (act a : Act) → act ≡ a → CanLowerAct m act → act_need a ≤ 500
room_as m act a is h = subst (λ x. act_need x ≤ 500) is h.room

pub can_SetCell : (m : Machine) (act : Act) (c : ℕ) (e : Expr) → act ≡ A.SetCell c e → CanLowerAct m act → CanLower m e 4
can_SetCell m act c e is h = let s = sound_as m act (A.SetCell c e) is h in record { widths = h.machine.machine.widths; sound = s.1.0; room = room_as m act (A.SetCell c e) is h }

pub can_SetSlice : (m : Machine) (act : Act) (c lo hi : ℕ) (e : Expr) → act ≡ A.SetSlice c lo hi e → CanLowerAct m act → CanLower m e 4
can_SetSlice m act c lo hi e is h = let s = sound_as m act (A.SetSlice c lo hi e) is h in record { widths = h.machine.machine.widths; sound = s.3.0; room = room_as m act (A.SetSlice c lo hi e) is h }

pub slice_within : (m : Machine) (act : Act) (c lo hi : ℕ) (e : Expr) → act ≡ A.SetSlice c lo hi e → CanLowerAct m act → (lo ≤ hi) × (hi < 64)
slice_within m act c lo hi e is h =
    let s = sound_as m act (A.SetSlice c lo hi e) is h in
    let w = h.machine.machine.widths.each c s.0 in
    (s.1, omega (arith, s.2, w.1))

pub can_Store_a : (m : Machine) (act : Act) (n : ℕ) (a e : Expr) → act ≡ A.Store n a e → CanLowerAct m act → CanLower m a 4
can_Store_a m act n a e is h =
    let s = sound_as m act (A.Store n a e) is h in let r = room_as m act (A.Store n a e) is h in
    record { widths = h.machine.machine.widths; sound = s.1.0; room = omega (arith, r) }

pub can_Store_e : (m : Machine) (act : Act) (n : ℕ) (a e : Expr) → act ≡ A.Store n a e → CanLowerAct m act → CanLower m e 5
can_Store_e m act n a e is h =
    let s = sound_as m act (A.Store n a e) is h in let r = room_as m act (A.Store n a e) is h in
    record { widths = h.machine.machine.widths; sound = s.2.0; room = omega (arith, r) }

pub can_Jump : (m : Machine) (act : Act) (e : Expr) → act ≡ A.Jump e → CanLowerAct m act → CanLower m e 4
can_Jump m act e is h = let s = sound_as m act (A.Jump e) is h in record { widths = h.machine.machine.widths; sound = s.0; room = room_as m act (A.Jump e) is h }

pub can_Trap : (m : Machine) (act : Act) (e : Expr) → act ≡ A.Trap e → CanLowerAct m act → CanLower m e 4
can_Trap m act e is h = let s = sound_as m act (A.Trap e) is h in record { widths = h.machine.machine.widths; sound = s.0; room = room_as m act (A.Trap e) is h }

group_in : (m : Machine) (first n : ℕ) → length m.widths ≤ 256 → first ≤ 255 → AreWindowCells m first n → first + n ≤ 256
group_in m first zero few byte h = omega arith
group_in m first (suc n) few byte h = let last : n < suc n = omega arith in omega (arith, (h n last).0)

pub is_byte_shape : (m : Machine) (w : WinShape) → HasByteCells m → m.windows ≡ Some w → w.out_first ≤ 255 → w.local_first ≤ 255 → w.in_first ≤ 255 → IsByteShape w
is_byte_shape m w h is a b c =
    let machine = h.machine in
    let s = machine.windows w is in
    record {
      few = s.few;
      outs = group_in m w.out_first w.count h.cells a s.out;
      locals = group_in m w.local_first w.count h.cells b s.local;
      ins = group_in m w.in_first w.count h.cells c s.in_;
    }

-- ---- what is pushed
module _ (m : Machine) (pc : ℕ) (act : Act) (x0 x1 x2 : List Stmt) where
  as_act : (a : Act) → act ≡ a → x0 ++ act_code m pc a [] ≡ x0 ++ act_code m pc act []
  as_act a is = ap (λ a. x0 ++ act_code m pc a []) (sym is)

  pub did_SetCell : (c : ℕ) (e : Expr) (v : CExpr) → act ≡ A.SetCell c e → x1 ≡ x0 ++ code m pc (term_of e) 4 [] → v ≡ temp 4 → x2 ≡ x1 ++ set_c m.zero c v [] → x2 ≡ x0 ++ act_code m pc act []
  did_SetCell c e v is h1 value h2 = coded m pc 4 x0 (term_of e) x1 x2 (set_c m.zero c (temp 4) []) h1 (h2 ∙ ap (λ v. x1 ++ set_c m.zero c v []) value) ∙ as_act (A.SetCell c e) is

  pub did_SetSlice : (c lo hi : ℕ) (e : Expr) (v : CExpr) → act ≡ A.SetSlice c lo hi e → x1 ≡ x0 ++ code m pc (term_of e) 4 [] → v ≡ with_bits_c lo hi (Of (CellVar c)) (temp 4)
      → x2 ≡ x1 ++ set_c m.zero c v [] → x2 ≡ x0 ++ act_code m pc act []
  did_SetSlice c lo hi e v is h1 value h2 =
      coded m pc 4 x0 (term_of e) x1 x2 (set_c m.zero c (with_bits_c lo hi (Of (CellVar c)) (temp 4)) []) h1 (h2 ∙ ap (λ v. x1 ++ set_c m.zero c v []) value) ∙ as_act (A.SetSlice c lo hi e) is

  pub did_Store : (n : ℕ) (a e : Expr) → act ≡ A.Store n a e → x1 ≡ x0 ++ code m pc (term_of a) 4 [] → x2 ≡ x1 ++ code m pc (term_of e) 5 [] → x2 ++ StoreAt n (temp 4) (temp 5) ∷ [] ≡ x0 ++ act_code m pc act []
  did_Store n a e is h1 h2 =
      let g = coded m pc 5 x1 (term_of e) x2 (x2 ++ StoreAt n (temp 4) (temp 5) ∷ []) (StoreAt n (temp 4) (temp 5) ∷ []) h2 refl in
      coded m pc 4 x0 (term_of a) x1 _ (code m pc (term_of e) 5 (StoreAt n (temp 4) (temp 5) ∷ [])) h1 g ∙ as_act (A.Store n a e) is

  pub did_Jump : (e : Expr) → act ≡ A.Jump e → x1 ≡ x0 ++ code m pc (term_of e) 4 [] → x2 ≡ x1 ++ Set (Temp 0) (temp 4) ∷ [] → x2 ++ Set (Temp 1) (Num 1) ∷ [] ≡ x0 ++ act_code m pc act []
  did_Jump e is h1 h2 =
      let g : x2 ++ Set (Temp 1) (Num 1) ∷ [] ≡ x1 ++ Set (Temp 0) (temp 4) ∷ Set (Temp 1) (Num 1) ∷ [] = ap (λ l. l ++ Set (Temp 1) (Num 1) ∷ []) h2 ∙ append_assoc x1 (Set (Temp 0) (temp 4) ∷ []) (Set (Temp 1) (Num 1) ∷ []) in
      coded m pc 4 x0 (term_of e) x1 _ (Set (Temp 0) (temp 4) ∷ Set (Temp 1) (Num 1) ∷ []) h1 g ∙ as_act (A.Jump e) is

  pub did_Trap : (e : Expr) → act ≡ A.Trap e → x1 ≡ x0 ++ code m pc (term_of e) 4 [] → x1 ++ StopWith 5 (temp 4) ∷ [] ≡ x0 ++ act_code m pc act []
  did_Trap e is h1 = coded m pc 4 x0 (term_of e) x1 _ (StopWith 5 (temp 4) ∷ []) h1 refl ∙ as_act (A.Trap e) is

  pub did_guard : (t : Option Expr) (guard : Expr) (inner : List Stmt) → t ≡ Some guard → x1 ≡ x0 ++ code m pc (term_of guard) 4 [] → inner ≡ act_code m pc act [] → x1 ++ If (temp 4) inner ∷ [] ≡ x0 ++ transfer_code m pc t act []
  did_guard t guard inner is h1 h2 =
      coded m pc 4 x0 (term_of guard) x1 _ (If (temp 4) (act_code m pc act []) ∷ []) h1 (ap (λ l. x1 ++ If (temp 4) l ∷ []) h2) ∙ ap (λ t. x0 ++ transfer_code m pc t act []) (sym is)

pub ruleset act_laws = (can_SetCell, can_SetSlice, slice_within, can_Store_a, can_Store_e, can_Jump, can_Trap, did_SetCell, did_SetSlice, did_Store, did_Jump, did_Trap)

-- ---- what a transfer asks of its parts
pub can_guard : (m : Machine) (t : Transfer) (guard : Expr) → t.guard ≡ Some guard → CanLowerTransfer m t → CanLower m guard 4
can_guard m t guard is h =
    let s = subst (IsSoundGuard m.widths) is h.sound.guard in
    record { widths = h.machine.machine.widths; sound = s.0; room = subst (λ g. guard_need g ≤ 500) is h.guard_room }

pub can_act : (m : Machine) (t : Transfer) → CanLowerTransfer m t → CanLowerAct m t.act
can_act m t h = record { machine = h.machine; sound = h.sound.act; room = h.act_room }

pub ruleset guard_laws = (can_guard, can_act, did_guard)
