-- Sound transfers name only cells that are there.
use Rattle.std.proofs.Common.{◌≡◌, ℕ, ◌+◌, ◌-◌, ◌<◌, Bool, true, Option, Some, None, List, [], ◌∷◌, length, refl, subst, arith}
use Rattle.std.specs.Prelude.{All}
use Rattle.std.proofs.lemmas.List.Elements.{All-head, All-tail}
use Rattle.rtl_core.specs.declared.expr.Expr.{Expr}
use Rattle.rtl_core.specs.declared.machine.Machine.{Machine}
use Rattle.rtl_core.specs.declared.machine.WinShape.{WinShape}
use Rattle.rtl_core.specs.declared.transfer.Act.{Act}
use Rattle.rtl_core.specs.declared.transfer.Act.TheVariants.{SetCell, SetSlice, Store, Jump, Annul, Trap, Service, WinSave, WinRestore}
use Rattle.rtl_core.specs.declared.transfer.Transfer.{Transfer}
use Rattle.rtl_core.specs.SoundTerms.{IsSoundTerm, IsSoundAct, IsSoundGuard, IsSoundTransfer, AreSoundTransfers}
use Rattle.rtl_core.specs.Terms.{Term, Const, Cell, Load, Unary, Binary, Slice, Zext, Sext, Choice, term_of}
use Rattle.c_lower.specs.Naming.{is_nameable, NamesOnly, GroupOnly, WindowOnly, ActOnly, GuardOnly, TransfersOnly, NamesAll, IsNaming}
use Rattle.rtl_core.specs.SoundMachine.{AreWindowCells, HaveSoundWindows}

module _ (m : Machine) (windows : HaveSoundWindows m m.windows) (may : ℕ → Bool)
    (each : (c : ℕ) → c < length m.widths → may c ≡ true) where
  term_names : (t : Term) → IsSoundTerm m.widths t → NamesOnly may t
  term_names (Const w n) s = tt
  term_names (Cell c) s = each c s
  term_names (Load b a) s = term_names a s.0
  term_names (Unary op a) s = term_names a s
  term_names (Binary op a b) s = (term_names a s.0, term_names b s.1)
  term_names (Slice a lo hi) s = term_names a s.0
  term_names (Zext w a) s = term_names a s.0
  term_names (Sext w a) s = term_names a s.0
  term_names (Choice c a b) s = (term_names c s.0, term_names a s.1, term_names b s.2)

  group_names : (first n : ℕ) → AreWindowCells m first n → GroupOnly may first n
  group_names first n h =
      record {
        each = λ c a b. let at : first + (c - first) ≡ c = omega arith in
            each c (subst (λ d. d < length m.widths) at (h (c - first) (omega arith)).0);
      }

  window_names : (o : Option WinShape) → HaveSoundWindows m o → WindowOnly may o
  window_names None h = tt
  window_names (Some w) h =
      let s = h w refl in (
        group_names w.out_first w.count s.out,
        group_names w.local_first w.count s.local,
        group_names w.in_first w.count s.in_,
      )

  act_names : (act : Act) → IsSoundAct m act → ActOnly m may act
  act_names (SetCell c e) s = (each c s.0, term_names (term_of e) s.1.0)
  act_names (SetSlice c lo hi e) s = (each c s.0, term_names (term_of e) s.3.0)
  act_names (Store n a e) s = (term_names (term_of a) s.1.0, term_names (term_of e) s.2.0)
  act_names (Jump e) s = term_names (term_of e) s.0
  act_names Annul s = tt
  act_names (Trap e) s = term_names (term_of e) s.0
  act_names Service s = tt
  act_names WinSave s = window_names m.windows windows
  act_names WinRestore s = window_names m.windows windows

  guard_names : (guard : Option Expr) → IsSoundGuard m.widths guard → GuardOnly may guard
  guard_names None s = tt
  guard_names (Some guard) s = term_names (term_of guard) s.0

  transfers_names : (ts : List Transfer) → All (IsSoundTransfer m) ts → TransfersOnly m may ts
  transfers_names [] s = tt
  transfers_names (t ∷ ts) s =
      let first = All-head (IsSoundTransfer m) t ts s in (
        guard_names t.guard first.guard,
        act_names t.act first.act,
        transfers_names ts (All-tail (IsSoundTransfer m) t ts s),
      )

pub all_named : (m : Machine) → HaveSoundWindows m m.windows → (ts : List Transfer) → AreSoundTransfers m ts
    → (named : ℕ → Bool) → NamesAll m named → IsNaming m ts named
all_named m windows ts sound named all =
    record {
      each = transfers_names m windows (is_nameable m.zero named) all.each ts sound.each;
      never_zero = all.never_zero;
    }
