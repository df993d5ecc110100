-- A chain that does not mention a cell gives the same run whatever is known of the cell.
use Rattle.std.proofs.Common.{◌≡◌, ◌≢◌, ℕ, ◌<◌, ◌^◌, Bool, true, false, ◌||◌, List, [], ◌∷◌, length, get_or, replicate, Option, None, Some, refl, ◌∙◌, ap, subst, lt-ltb}
use Rattle.std.specs.Prelude.{if◌then◌else◌, slice_index}
use Rattle.rtl_core.specs.declared.expr.Expr.{Expr}
use Rattle.rtl_core.specs.declared.inst.GroundInst.{GroundInst}
use Rattle.rtl_core.specs.declared.transfer.Act.{Act}
use Rattle.rtl_core.specs.declared.transfer.Act.TheVariants.{SetCell, SetSlice, Store, Jump, Annul, Trap, Service, WinSave, WinRestore}
use Rattle.rtl_core.specs.declared.transfer.Transfer.{Transfer}
use Rattle.rtl_core.specs.Terms.{Term, Const, Cell, Load, Unary, Binary, Slice, Zext, Sext, Choice, term_of}
use Rattle.points.specs.Machine.{Setting}
use Rattle.points.specs.PartialRuns.{PartialState, PartialEnd, Guarded, Holds, Fails, Unsure, value_in, guard_in, guarded_by, value_with_bits, act_done, act_unsure, act_not_done, act_by, partly_transferred, partly_done, all_partly_done, ended_at, with_zero_known, knowing_only, nowhere, partial_end}
use Rattle.jumptables.specs.Mentions.{IsApart, IsApartGuard, IsApartAct, AreApart, IsApartChain, knowing_zero, idle_end}
use Rattle.jumptables.proofs.Agree.{Agree, changed-at, forgets-agrees, windows-agree, answer-agrees, same-put}
use Rattle.jumptables.proofs.Alike.{AreAlike, same-value}

module _ (c : ℕ) where
  abbrev Off : ℕ → Type 0
  Off k = k ≢ c

  abbrev Same : PartialState → PartialState → Type 0
  Same k u = Agree Off true k u

  alike : (k u : PartialState) → Same k u → (t : Term) → IsApart c t → AreAlike k.values u.values k.known u.known t
  alike k u a (Const w n) h = tt
  alike k u a (Cell j) h = (a.values.on j h, a.known.on j h)
  alike k u a (Load b x) h = alike k u a x h
  alike k u a (Unary op x) h = alike k u a x h
  alike k u a (Binary op x y) h = (alike k u a x h.0, alike k u a y h.1)
  alike k u a (Slice x lo hi) h = alike k u a x h
  alike k u a (Zext w x) h = alike k u a x h
  alike k u a (Sext w x) h = alike k u a x h
  alike k u a (Choice g x y) h = (alike k u a g h.0, alike k u a x h.1, alike k u a y h.2)

  module _ (s : Setting) where
    value-agrees : (k u : PartialState) → Same k u → (e : Expr) → IsApart c (term_of e) → value_in s k e ≡ value_in s u e
    value-agrees k u a e h = same-value k.values u.values k.known u.known s.machine s.frozen (term_of e) (alike k u a (term_of e) h)

    guard-agrees : (k u : PartialState) → Same k u → (g : Option Expr) → IsApartGuard c g → guard_in s k g ≡ guard_in s u g
    guard-agrees k u a None h = refl
    guard-agrees k u a (Some e) h = ap guarded_by (value-agrees k u a e h)

    done-agrees : (act : Act) → IsApartAct c act → (k u : PartialState) → Same k u → Same (act_done s act k) (act_done s act u)
    done-agrees (SetCell j e) h k u a = same-put Off true s j (value_in s k e) (value_in s u e) k u (value-agrees k u a e h.1) a
    done-agrees (SetSlice j lo hi e) h k u a =
        let v = value-agrees k u a e h.1 in
        let old = a.values.on j h.0 in
        let f = a.known.on j h.0 in
        same-put Off true s j (value_with_bits (get_or k.known j false) lo hi (get_or k.values j 0) (value_in s k e)) (value_with_bits (get_or u.known j false) lo hi (get_or u.values j 0) (value_in s u e)) k u
        (λ i. value_with_bits (f i) lo hi (old i) (v i)) a
    done-agrees (Store n x e) h k u a = a
    done-agrees (Jump e) h k u a = record { values = a.values; known = a.known; taken = refl; untaken = a.untaken; passes = a.passes; target = λ t. value-agrees k u a e h }
    done-agrees Annul h k u a = record { values = a.values; known = a.known; taken = a.taken; untaken = a.untaken; passes = refl; target = a.target }
    done-agrees (Trap e) h k u a = a
    done-agrees Service h k u a = answer-agrees Off true s s.conv.service k u a
    done-agrees WinSave h k u a = windows-agree Off true s s.machine.windows k u a
    done-agrees WinRestore h k u a = windows-agree Off true s s.machine.windows k u a

    unsure-agrees : (act : Act) → IsApartAct c act → (k u : PartialState) → Same k u → Same (act_unsure s act k) (act_unsure s act u)
    unsure-agrees (SetCell j e) h k u a = forgets-agrees Off true s j k u a
    unsure-agrees (SetSlice j lo hi e) h k u a = forgets-agrees Off true s j k u a
    unsure-agrees (Store n x e) h k u a = a
    unsure-agrees (Jump e) h k u a = record { values = a.values; known = a.known; taken = a.taken; untaken = a.untaken; passes = a.passes; target = λ t. value-agrees k u a e h }
    unsure-agrees Annul h k u a = a
    unsure-agrees (Trap e) h k u a = a
    unsure-agrees Service h k u a = answer-agrees Off true s s.conv.service k u a
    unsure-agrees WinSave h k u a = windows-agree Off true s s.machine.windows k u a
    unsure-agrees WinRestore h k u a = windows-agree Off true s s.machine.windows k u a

    not-done-agrees : (act : Act) → IsApartAct c act → (k u : PartialState) → Same k u → Same (act_not_done s act k) (act_not_done s act u)
    not-done-agrees (Jump e) h k u a = record { values = a.values; known = a.known; taken = a.taken; untaken = λ t. refl; passes = a.passes; target = λ t. value-agrees k u a e h }
    not-done-agrees (SetCell j e) h k u a = a
    not-done-agrees (SetSlice j lo hi e) h k u a = a
    not-done-agrees (Store n x e) h k u a = a
    not-done-agrees Annul h k u a = a
    not-done-agrees (Trap e) h k u a = a
    not-done-agrees Service h k u a = a
    not-done-agrees WinSave h k u a = a
    not-done-agrees WinRestore h k u a = a

    act-agrees : (g : Guarded) (act : Act) → IsApartAct c act → (k u : PartialState) → Same k u → Same (act_by s g act k) (act_by s g act u)
    act-agrees Holds act h k u a = done-agrees act h k u a
    act-agrees Fails act h k u a = not-done-agrees act h k u a
    act-agrees Unsure act h k u a = unsure-agrees act h k u a

    all-agree : (ts : List Transfer) → AreApart c ts → (k u : PartialState) → Same k u → Same (partly_transferred s ts k) (partly_transferred s ts u)
    all-agree [] h k u a = a
    all-agree (t ∷ ts) h k u a =
        let g = guard-agrees k u a t.guard h.0 in
        all-agree ts h.2 (act_by s (guard_in s k t.guard) t.act k) (act_by s (guard_in s u t.guard) t.act u)
        (subst (λ q. Same (act_by s (guard_in s k t.guard) t.act k) (act_by s q t.act u)) g (act-agrees (guard_in s k t.guard) t.act h.1 k u a))

    passed-agree : (i : GroundInst) → AreApart c i.transfers → (k u : PartialState) → (b d : Bool) → b ≡ d → Same k u → Same (if b then record k { passes = false } else partly_transferred s i.transfers k) (if d then record u { passes = false } else partly_transferred s i.transfers u)
    passed-agree i h k u true true e a = record { values = a.values; known = a.known; taken = a.taken; untaken = a.untaken; passes = refl; target = a.target }
    passed-agree i h k u false false e a = all-agree i.transfers h k u a
    passed-agree i h k u true false e a = absurd (cc)
    passed-agree i h k u false true e a = absurd (cc)

    chain-agrees : (is : List GroundInst) → IsApartChain c is → (k u : PartialState) → Same k u → Same (all_partly_done s is k) (all_partly_done s is u)
    chain-agrees [] h k u a = a
    chain-agrees (i ∷ is) h k u a = chain-agrees is h.1 (partly_done s i k) (partly_done s i u) (passed-agree i h.0 k u k.passes u.passes a.passes a)

    ends-agree : (jump : GroundInst) → AreApart c jump.transfers → (k u : PartialState) → (b d : Bool) → b ≡ d → Same k u →
        ◌≡◌ {A = PartialEnd} (if b then record { leaves = k.taken; untaken = k.untaken; target = None } else (let last = partly_transferred s jump.transfers (record k { target = None }) in record { leaves = false; untaken = last.untaken; target = last.target }))
        (if d then record { leaves = u.taken; untaken = u.untaken; target = None } else (let last = partly_transferred s jump.transfers (record u { target = None }) in record { leaves = false; untaken = last.untaken; target = last.target }))
    ends-agree jump h k u true true e a = λ i. record { leaves = a.taken i; untaken = a.untaken refl i; target = None }
    ends-agree jump h k u false false e a =
        let r = all-agree jump.transfers h (record k { target = None }) (record u { target = None }) (record { values = a.values; known = a.known; taken = a.taken; untaken = a.untaken; passes = a.passes; target = λ t. refl }) in
        λ i. record { leaves = false; untaken = r.untaken refl i; target = r.target refl i }
    ends-agree jump h k u true false e a = absurd (cc)
    ends-agree jump h k u false true e a = absurd (cc)

    starts-agree : (x : ℕ) → Same (knowing_only s c x) (knowing_zero s)
    starts-agree x = record {
      values = changed-at c 0 (replicate (length s.machine.widths) 0) x;
      known = changed-at c false (with_zero_known s.machine.zero (replicate (length s.machine.widths) false)) true;
      taken = refl;
      untaken = λ t. refl;
      passes = refl;
      target = λ t. refl;
    }

    -- the run comes to what it comes to where nothing is known of the cell
    pub same-end : (before : List GroundInst) (jump : GroundInst) (x : ℕ) → IsApartChain c before → AreApart c jump.transfers → x < 2 ^ slice_index s.machine.widths c → partial_end s before jump c x ≡ idle_end s before jump
    unfolding partial_end
    same-end before jump x h j lt =
        let k = all_partly_done s before (knowing_only s c x) in
        let u = all_partly_done s before (knowing_zero s) in
        let a = chain-agrees before h (knowing_only s c x) (knowing_zero s) (starts-agree x) in
        let r = ends-agree jump j k u (k.taken || k.passes) (u.taken || u.passes) (λ i. a.taken i || a.passes i) a in
        ap (λ (b : Bool). if b then ended_at s jump k else nowhere) (lt-ltb x (2 ^ slice_index s.machine.widths c) lt) ∙ r
