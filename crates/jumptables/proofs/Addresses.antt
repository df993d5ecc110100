-- The targets of a table have 32 bits.
use Rattle.std.proofs.Common.{◌≡◌, ◌≢◌, ℕ, zero, suc, ◌+◌, ◌-◌, ◌<◌, ◌≤◌, ◌^◌, ◌||◌, Bool, true, false, List, [], ◌∷◌, length, get_or, Option, None, Some, refl, subst, arith}
use Rattle.std.specs.Prelude.{if◌then◌else◌, slice_index, nat_lt}
use Rattle.std.specs.List.{All, Contains}
use Rattle.std.specs.Option.{IfSome}
use Rattle.std.proofs.lemmas.Bool.{ltb-true}
use Rattle.std.proofs.lemmas.List.Elements.{All-nil, All-cons, All-head, All-tail}
use Rattle.rtl_core.specs.declared.conv.ServiceShape.{ServiceShape}
use Rattle.rtl_core.specs.declared.expr.Expr.{Expr}
use Rattle.rtl_core.specs.declared.inst.GroundInst.{GroundInst}
use Rattle.rtl_core.specs.declared.machine.WinShape.{WinShape}
use Rattle.rtl_core.specs.declared.transfer.Act.{Act}
use Rattle.rtl_core.specs.declared.transfer.Act.TheVariants.{SetCell, SetSlice, Store, Jump, Annul, Trap, Service, WinSave, WinRestore}
use Rattle.rtl_core.specs.declared.transfer.Transfer.{Transfer}
use Rattle.rtl_core.specs.SoundTerms.{AreWidths, Fit, HasWidth, IsSoundAct, IsSoundTransfer}
use Rattle.rtl_core.specs.Terms.{term_of, width_of}
use Rattle.rtl_core.proofs.FitCells.{fit-put}
use Rattle.rtl_core.proofs.Ranges.{with_bits_lt}
use Rattle.points.specs.declared.block.Standing.TheVariants.{Stands}
use Rattle.points.specs.Bundles.{IsSoundSetting}
use Rattle.points.specs.Machine.{Setting, standing}
use Rattle.points.specs.PartialRuns.{PartialState, PartialEnd, Guarded, Holds, Fails, Unsure, value_in, guard_in, forgets, puts, value_with_bits, forgets_from, forgets_windows, forgets_flag, forgets_answer, act_done, act_unsure, act_not_done, act_by, partly_transferred, partly_done, all_partly_done, ended_at, knowing_only, nowhere, partial_end}
use Rattle.points.specs.Tables.{LeadsUp, here, more, Trial, IsTrial, AreTargets, end_for, IsTableOf, bounded, open_ended, none}
use Rattle.points.proofs.StandingSound.{standing-sound}
use Rattle.jumptables.specs.OneTable.{TargetsAreAddresses}
use Rattle.jumptables.proofs.KnownFits.{known-fits, fits-at}
use Rattle.jumptables.proofs.StartsWhole.{starts-whole}
use Rattle.worklist.proofs.Members.{no_member}

abbrev IsAddress : Option ℕ → Type 0
IsAddress o = IfSome o (λ v. v < 2 ^ 32)

module _ (s : Setting) (widths : AreWidths s.machine.widths) where
  -- the values fit the cells, and a known target has 32 bits
  record Fits (k : PartialState) : Type 0 where
    pub fit : Fit s.machine k.values
    pub target : IsAddress k.target

  forget-fits : (c : ℕ) (k : PartialState) → Fits k → Fits (forgets s c k)
  forget-fits c k h = record { fit = h.fit; target = h.target }

  from-fits : (first n : ℕ) (k : PartialState) → Fits k → Fits (forgets_from s first n k)
  from-fits first zero k h = h
  from-fits first (suc n) k h = from-fits (first + 1) n (forgets s first k) (forget-fits first k h)

  windows-fit : (w : Option WinShape) (k : PartialState) → Fits k → Fits (forgets_windows s w k)
  windows-fit None k h = h
  windows-fit (Some w) k h = from-fits w.in_first w.count _ (from-fits w.local_first w.count _ (from-fits w.out_first w.count k h))

  flag-fits : (o : Option ℕ) (k : PartialState) → Fits k → Fits (forgets_flag s o k)
  flag-fits None k h = h
  flag-fits (Some c) k h = forget-fits c k h

  answer-fits : (o : Option ServiceShape) (k : PartialState) → Fits k → Fits (forgets_answer s o k)
  answer-fits None k h = h
  answer-fits (Some shape) k h = flag-fits shape.error _ (forget-fits shape.result k h)

  puts-fit : (c : ℕ) (o : Option ℕ) (k : PartialState) → c < length s.machine.widths → IfSome o (λ v. v < 2 ^ slice_index s.machine.widths c) → Fits k → Fits (puts s c o k)
  puts-fit c None k lt small h = forget-fits c k h
  puts-fit c (Some v) k lt small h = record { fit = fit-put s.machine k.values c v lt small h.fit; target = h.target }

  value-fits : (e : Expr) (w : ℕ) (k : PartialState) → HasWidth s.machine.widths e w → Fits k → IfSome (value_in s k e) (λ v. v < 2 ^ w)
  value-fits e w k sound h = fits-at w (width_of s.machine.widths (term_of e)) (value_in s k e) sound.1 (known-fits s.machine s.frozen k.values k.known (term_of e) widths h.fit sound.0)

  bits-fit : (b : Bool) (lo hi w old : ℕ) (o : Option ℕ) → lo ≤ hi → hi < w → old < 2 ^ w → IfSome o (λ v. v < 2 ^ (hi + 1 - lo)) → IfSome (value_with_bits b lo hi old o) (λ v. v < 2 ^ w)
  bits-fit true lo hi w old None le lt small h = tt
  bits-fit true lo hi w old (Some v) le lt small h = with_bits_lt lo hi w old v le lt small h
  bits-fit false lo hi w old None le lt small h = tt
  bits-fit false lo hi w old (Some v) le lt small h = tt

  jump-fits : (e : Expr) (k : PartialState) → HasWidth s.machine.widths e 32 → Fits k → IsAddress (value_in s k e)
  jump-fits e k sound h = value-fits e 32 k sound h

  done-fits : (act : Act) (k : PartialState) → IsSoundAct s.machine act → Fits k → Fits (act_done s act k)
  done-fits (SetCell c e) k sound h = puts-fit c (value_in s k e) k sound.0 (value-fits e (slice_index s.machine.widths c) k sound.1 h) h
  done-fits (SetSlice c lo hi e) k sound h =
      let w = slice_index s.machine.widths c in
      let v = value_in s k e in
      puts-fit c (value_with_bits (get_or k.known c false) lo hi (get_or k.values c 0) v) k sound.0
      (bits-fit (get_or k.known c false) lo hi w (get_or k.values c 0) v sound.1 sound.2 (h.fit.each c sound.0) (value-fits e (hi + 1 - lo) k sound.3 h)) h
  done-fits (Store n x e) k sound h = h
  done-fits (Jump e) k sound h = record { fit = h.fit; target = jump-fits e k sound h }
  done-fits Annul k sound h = record { fit = h.fit; target = h.target }
  done-fits (Trap e) k sound h = h
  done-fits Service k sound h = answer-fits s.conv.service k h
  done-fits WinSave k sound h = windows-fit s.machine.windows k h
  done-fits WinRestore k sound h = windows-fit s.machine.windows k h

  unsure-fits : (act : Act) (k : PartialState) → IsSoundAct s.machine act → Fits k → Fits (act_unsure s act k)
  unsure-fits (SetCell c e) k sound h = forget-fits c k h
  unsure-fits (SetSlice c lo hi e) k sound h = forget-fits c k h
  unsure-fits (Store n x e) k sound h = h
  unsure-fits (Jump e) k sound h = record { fit = h.fit; target = jump-fits e k sound h }
  unsure-fits Annul k sound h = h
  unsure-fits (Trap e) k sound h = h
  unsure-fits Service k sound h = answer-fits s.conv.service k h
  unsure-fits WinSave k sound h = windows-fit s.machine.windows k h
  unsure-fits WinRestore k sound h = windows-fit s.machine.windows k h

  not-done-fits : (act : Act) (k : PartialState) → IsSoundAct s.machine act → Fits k → Fits (act_not_done s act k)
  not-done-fits (SetCell c e) k sound h = h
  not-done-fits (SetSlice c lo hi e) k sound h = h
  not-done-fits (Store n x e) k sound h = h
  not-done-fits (Jump e) k sound h = record { fit = h.fit; target = jump-fits e k sound h }
  not-done-fits Annul k sound h = h
  not-done-fits (Trap e) k sound h = h
  not-done-fits Service k sound h = h
  not-done-fits WinSave k sound h = h
  not-done-fits WinRestore k sound h = h

  act-fits : (g : Guarded) (act : Act) (k : PartialState) → IsSoundAct s.machine act → Fits k → Fits (act_by s g act k)
  act-fits Holds act k sound h = done-fits act k sound h
  act-fits Fails act k sound h = not-done-fits act k sound h
  act-fits Unsure act k sound h = unsure-fits act k sound h

  all-fit : (ts : List Transfer) (k : PartialState) → All (IsSoundTransfer s.machine) ts → Fits k → Fits (partly_transferred s ts k)
  all-fit [] k sound h = h
  all-fit (t ∷ ts) k sound h =
      all-fit ts (act_by s (guard_in s k t.guard) t.act k) (All-tail (IsSoundTransfer s.machine) t ts sound)
      (act-fits (guard_in s k t.guard) t.act k (All-head (IsSoundTransfer s.machine) t ts sound).act h)

  abbrev IsSound : GroundInst → Type 0
  IsSound i = All (IsSoundTransfer s.machine) i.transfers

  passed-fits : (i : GroundInst) (k : PartialState) (b : Bool) → IsSound i → Fits k → Fits (if b then record k { passes = false } else partly_transferred s i.transfers k)
  passed-fits i k true sound h = record { fit = h.fit; target = h.target }
  passed-fits i k false sound h = all-fit i.transfers k sound h

  way-fits : (is : List GroundInst) (k : PartialState) → All IsSound is → Fits k → Fits (all_partly_done s is k)
  way-fits [] k sound h = h
  way-fits (i ∷ is) k sound h = way-fits is (partly_done s i k) (All-tail IsSound i is sound) (passed-fits i k k.passes (All-head IsSound i is sound) h)

  end-fits : (jump : GroundInst) (k : PartialState) → IsSound jump → Fits k → IsAddress ((ended_at s jump k).target)
  end-fits jump k sound h = by (k.taken || k.passes)
    where
      by : (b : Bool) → IsAddress ((λ (r : PartialEnd). r.target) (if b then record { leaves = k.taken; untaken = k.untaken; target = None } else (let last = partly_transferred s jump.transfers (record k { target = None }) in record { leaves = false; untaken = last.untaken; target = last.target })))
      by true = tt
      by false = (all-fit jump.transfers (record k { target = None }) sound (record { fit = h.fit; target = tt })).target

  run-fits : (before : List GroundInst) (jump : GroundInst) (c x : ℕ) → All IsSound before → IsSound jump → c < length s.machine.widths → s.machine.zero ≢ Some c → IsAddress ((partial_end s before jump c x).target)
  unfolding partial_end
  run-fits before jump c x sound last lt nz = by (nat_lt x (2 ^ slice_index s.machine.widths c)) refl
    where
      by : (b : Bool) → nat_lt x (2 ^ slice_index s.machine.widths c) ≡ b → IsAddress ((λ (r : PartialEnd). r.target) (if b then ended_at s jump (all_partly_done s before (knowing_only s c x)) else nowhere))
      by true e =
          let start = starts-whole s c x lt nz (ltb-true x (2 ^ slice_index s.machine.widths c) e) in
          end-fits jump (all_partly_done s before (knowing_only s c x)) last (way-fits before (knowing_only s c x) sound (record { fit = start.fit; target = tt }))
      by false e = tt

module _ (s : Setting) (sound : IsSoundSetting s) (at : ℕ) (low : at < 2 ^ 32) where
  chain-sound : (pc : ℕ) (is : List GroundInst) → LeadsUp s at pc is → All (λ i. All (IsSoundTransfer s.machine) i.transfers) is
  chain-sound pc is here = All-nil (λ (i : GroundInst). All (IsSoundTransfer s.machine) i.transfers)
  chain-sound pc is (more {i = i} {is = r} h c) =
      let lt = h.before in
      All-cons (λ (x : GroundInst). All (IsSoundTransfer s.machine) x.transfers) i r (standing-sound s pc i sound.sound.machine.machine (omega (arith, lt, low)) h.stands).each (chain-sound i.next r c)

  module _ (jump : GroundInst) (stands : standing s at ≡ Stands jump) where
    trial-fits : (t : Trial) (x a : ℕ) → IsTrial s at t → (end_for s jump t x).target ≡ Some a → a < 2 ^ 32
    trial-fits t x a h e =
        subst IsAddress e (run-fits s sound.sound.machine.machine.widths t.before jump t.cell x (chain-sound t.start t.before h.chain) (standing-sound s at jump sound.sound.machine.machine low stands).each h.cell h.not_zero)

    from-trial : (t : Trial) (n a : ℕ) (targets : List ℕ) → IsTrial s at t → AreTargets (end_for s jump t) n targets → Contains targets a → a < 2 ^ 32
    from-trial t n a targets h are c = let r = are.sound a c in trial-fits t r.0 a h r.2

    of-table : (targets : List ℕ) (a : ℕ) → IsTableOf s at jump targets → Contains targets a → a < 2 ^ 32
    of-table targets a (bounded {t} {n} first b are) c = from-trial t n a targets first.trial are c
    of-table targets a (open_ended {t} {n} never first e are) c = from-trial t n a targets first.trial are c
    of-table targets a (none never nor e) c = absurd (no_member a (subst (λ l. Contains l a) e c))

pub targets-are-addresses : TargetsAreAddresses
targets-are-addresses s sound at targets a low h c = of-table s sound at low h.jump h.stands targets a h.table c
