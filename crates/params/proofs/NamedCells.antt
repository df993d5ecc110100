-- The cells that blocks name and assign.
use Rattle.std.proofs.Common.{◌≡◌, ℕ, ◌+◌, ◌^◌, ◌<◌, ◌≤◌, Bool, true, false, List, [], ◌∷◌, ◌++◌, length, Option, Some, None, refl, subst, arith, inl, inr, zero, suc}
use Rattle.std.specs.Prelude.{◌⊎◌, if◌then◌else◌}
use Rattle.std.specs.List.{All, Contains}
use Rattle.std.proofs.lemmas.List.Elements.{All-head, All-tail, Contains-append_left, Contains-append_right, Contains-append_cases}
use Rattle.rtl_core.specs.declared.conv.Conv.{Conv}
use Rattle.rtl_core.specs.declared.conv.ServiceShape.{ServiceShape}
use Rattle.rtl_core.specs.declared.expr.Expr.{Expr}
use Rattle.rtl_core.specs.declared.frozen.Frozen.{Frozen}
use Rattle.rtl_core.specs.declared.frozen.FrozenPart.{FrozenPart}
use Rattle.rtl_core.specs.declared.inst.GroundInst.{GroundInst}
use Rattle.rtl_core.specs.declared.machine.Machine.{Machine}
use Rattle.rtl_core.specs.declared.machine.WinShape.{WinShape}
use Rattle.rtl_core.specs.declared.transfer.Act.{Act}
use Rattle.rtl_core.specs.declared.transfer.Act.TheVariants.{SetCell, SetSlice, Store, Jump, Annul, Trap, Service, WinSave, WinRestore}
use Rattle.rtl_core.specs.declared.transfer.Transfer.{Transfer}
use Rattle.rtl_core.specs.Code.{is_in, part_of, rest_in, code_from}
use Rattle.rtl_core.specs.SoundConv.{FitsMachine, IsCellIfAny}
use Rattle.rtl_core.specs.SoundMachine.{HaveSoundWindows}
use Rattle.rtl_core.specs.SoundTerms.{HasWidth, IsSoundAct, IsSoundGuard, IsSoundTerm, IsSoundTransfer}
use Rattle.rtl_core.specs.Terms.{Term, Const, Cell, Load, Unary, Binary, Slice, Zext, Sext, Choice, term_of}
use Rattle.points.specs.Bundles.{LieInMemory}
use Rattle.points.specs.declared.block.Block.TheVariants.{Inst, Outside, Illegal}
use Rattle.points.specs.declared.block.Standing.{Standing}
use Rattle.points.specs.declared.block.Standing.TheVariants.{Stands, Outside as StandsOutside, Illegal as StandsIllegal}
use Rattle.points.specs.Machine.{Setting, standing, code_standing}
use Rattle.points.specs.Kinds.{block_at, block_of}
use Rattle.points.specs.Summaries.{term_cells, expr_cells, guard_cells, cells_in_row, window_cells, cell_if_any, answer_cells, service_cells, act_names, act_assigns, transfers_name, transfers_assign, block_names}
use Rattle.points.proofs.StandingSound.{standing-sound}
use Rattle.params.specs.SummaryLaws.{assigned_is_named, named_are_cells}
use Rattle.params.proofs.Members.{none-in, first-in, only-in}

-- ---- what is assigned is named

act-within : (m : Machine) (conv : Conv) (act : Act) (c : ℕ) → Contains (act_assigns m conv act) c → Contains (act_names m conv act) c
act-within m conv (SetCell d e) c h = subst (Contains (d ∷ expr_cells e)) (only-in d c h) (first-in d (expr_cells e))
act-within m conv (SetSlice d lo hi e) c h = subst (Contains (d ∷ expr_cells e)) (only-in d c h) (first-in d (expr_cells e))
act-within m conv (Store n a e) c h = none-in c h
act-within m conv (Jump e) c h = none-in c h
act-within m conv Annul c h = none-in c h
act-within m conv (Trap e) c h = none-in c h
act-within m conv Service c h = by conv.service h
  where
    by : (s : Option ServiceShape) → Contains (answer_cells s) c → Contains (service_cells s) c
    by None h = h
    by (Some s) h = Contains-append_right (s.number ∷ s.arg_x ∷ s.arg_y ∷ s.arg_z ∷ []) (answer_cells (Some s)) c h
act-within m conv WinSave c h = h
act-within m conv WinRestore c h = h

transfers-within : (m : Machine) (conv : Conv) (ts : List Transfer) (c : ℕ) → Contains (transfers_assign m conv ts) c → Contains (transfers_name m conv ts) c
transfers-within m conv [] c h = h
transfers-within m conv (t ∷ ts) c h = Contains-append_right (guard_cells t.guard) _ c (by (transfers-within m conv ts c) (Contains-append_cases (act_assigns m conv t.act) (transfers_assign m conv ts) c h))
  where
    by : (Contains (transfers_assign m conv ts) c → Contains (transfers_name m conv ts) c) → Contains (act_assigns m conv t.act) c ⊎ Contains (transfers_assign m conv ts) c
        → Contains (act_names m conv t.act ++ transfers_name m conv ts) c
    by more (inl a) = Contains-append_left (act_names m conv t.act) (transfers_name m conv ts) c (act-within m conv t.act c a)
    by more (inr r) = Contains-append_right (act_names m conv t.act) (transfers_name m conv ts) c (more r)

pub assigned-is-named : assigned_is_named
assigned-is-named m conv Outside c h = h
assigned-is-named m conv Illegal c h = h
assigned-is-named m conv (Inst inst kind) c h = transfers-within m conv inst.transfers c h

-- ---- named cells are cells

module _ (n c : ℕ) where
  two : (xs ys : List ℕ) → (Contains xs c → c < n) → (Contains ys c → c < n) → Contains (xs ++ ys) c → c < n
  two xs ys f g h = by (Contains-append_cases xs ys c h)
    where
      by : Contains xs c ⊎ Contains ys c → c < n
      by (inl a) = f a
      by (inr b) = g b

  one : (d : ℕ) → d < n → Contains (d ∷ []) c → c < n
  one d lt h = subst (λ x. x < n) (only-in d c h) lt

  row : (first count : ℕ) → ((i : ℕ) → i < count → first + i < n) → Contains (cells_in_row first count) c → c < n
  row first zero f h = none-in c h
  row first (suc k) f h = two (first ∷ []) (cells_in_row (first + 1) k) (one first (let z = f 0 (omega arith) in omega (arith, z))) (row (first + 1) k (λ i lt. let z = f (i + 1) (omega arith) in omega (arith, z))) h

term-there : (widths : List ℕ) (c : ℕ) (t : Term) → IsSoundTerm widths t → Contains (term_cells t) c → c < length widths
term-there widths c (Const w n) s h = none-in c h
term-there widths c (Cell d) s h = one (length widths) c d s h
term-there widths c (Load b a) s h = term-there widths c a s.0 h
term-there widths c (Unary op a) s h = term-there widths c a s h
term-there widths c (Binary op a b) s h = two (length widths) c (term_cells a) (term_cells b) (term-there widths c a s.0) (term-there widths c b s.1) h
term-there widths c (Slice a lo hi) s h = term-there widths c a s.0 h
term-there widths c (Zext w a) s h = term-there widths c a s.0 h
term-there widths c (Sext w a) s h = term-there widths c a s.0 h
term-there widths c (Choice d a b) s h =
    two (length widths) c (term_cells d) (term_cells a ++ term_cells b) (term-there widths c d s.0)
    (two (length widths) c (term_cells a) (term_cells b) (term-there widths c a s.1) (term-there widths c b s.2)) h

expr-there : (widths : List ℕ) (c : ℕ) (e : Expr) (w : ℕ) → HasWidth widths e w → Contains (expr_cells e) c → c < length widths
expr-there widths c e w s h = term-there widths c (term_of e) s.0 h

guard-there : (widths : List ℕ) (c : ℕ) (g : Option Expr) → IsSoundGuard widths g → Contains (guard_cells g) c → c < length widths
guard-there widths c None s h = none-in c h
guard-there widths c (Some e) s h = expr-there widths c e 1 s h

module _ (m : Machine) (conv : Conv) (fits : FitsMachine conv m) (sound : HaveSoundWindows m m.windows) (c : ℕ) where
  windows-there : (o : Option WinShape) → m.windows ≡ o → Contains (window_cells o) c → c < length m.widths
  windows-there None e h = none-in c h
  windows-there (Some w) e h =
      let s = sound w e in
      two (length m.widths) c (cells_in_row w.out_first w.count) (cells_in_row w.local_first w.count ++ cells_in_row w.in_first w.count)
      (row (length m.widths) c w.out_first w.count (λ i lt. (s.out i lt).0))
      (two (length m.widths) c (cells_in_row w.local_first w.count) (cells_in_row w.in_first w.count)
      (row (length m.widths) c w.local_first w.count (λ i lt. (s.local i lt).0)) (row (length m.widths) c w.in_first w.count (λ i lt. (s.in_ i lt).0))) h

  error-there : (o : Option ℕ) → IsCellIfAny m 1 o → Contains (cell_if_any o) c → c < length m.widths
  error-there None s h = none-in c h
  error-there (Some d) s h = one (length m.widths) c d s.0 h

  service-there : (o : Option ServiceShape) → conv.service ≡ o → Contains (service_cells o) c → c < length m.widths
  service-there None e h = none-in c h
  service-there (Some s) e h =
      let f = fits.cells s e in
      let n = length m.widths in
      two n c (s.number ∷ []) (s.arg_x ∷ s.arg_y ∷ s.arg_z ∷ answer_cells (Some s)) (one n c s.number f.number.0)
      (two n c (s.arg_x ∷ []) (s.arg_y ∷ s.arg_z ∷ answer_cells (Some s)) (one n c s.arg_x f.arg_x.0)
      (two n c (s.arg_y ∷ []) (s.arg_z ∷ answer_cells (Some s)) (one n c s.arg_y f.arg_y.0)
      (two n c (s.arg_z ∷ []) (answer_cells (Some s)) (one n c s.arg_z f.arg_z.0)
      (two n c (s.result ∷ []) (cell_if_any s.error) (one n c s.result f.result.0) (error-there s.error f.error))))) h

  act-there : (act : Act) → IsSoundAct m act → Contains (act_names m conv act) c → c < length m.widths
  act-there (SetCell d e) s h = two (length m.widths) c (d ∷ []) (expr_cells e) (one (length m.widths) c d s.0) (expr-there m.widths c e _ s.1) h
  act-there (SetSlice d lo hi e) s h = two (length m.widths) c (d ∷ []) (expr_cells e) (one (length m.widths) c d s.0) (expr-there m.widths c e _ s.3) h
  act-there (Store n a e) s h = two (length m.widths) c (expr_cells a) (expr_cells e) (expr-there m.widths c a 32 s.1) (expr-there m.widths c e _ s.2) h
  act-there (Jump e) s h = expr-there m.widths c e 32 s h
  act-there Annul s h = none-in c h
  act-there (Trap e) s h = expr-there m.widths c e 32 s h
  act-there Service s h = service-there conv.service refl h
  act-there WinSave s h = windows-there m.windows refl h
  act-there WinRestore s h = windows-there m.windows refl h

  transfers-there : (ts : List Transfer) → All (IsSoundTransfer m) ts → Contains (transfers_name m conv ts) c → c < length m.widths
  transfers-there [] s h = none-in c h
  transfers-there (t ∷ ts) s h =
      let here = All-head (IsSoundTransfer m) t ts s in
      two (length m.widths) c (guard_cells t.guard) (act_names m conv t.act ++ transfers_name m conv ts) (guard-there m.widths c t.guard here.guard)
      (two (length m.widths) c (act_names m conv t.act) (transfers_name m conv ts) (act-there t.act here.act) (transfers-there ts (All-tail (IsSoundTransfer m) t ts s))) h

part-above : (parts : List FrozenPart) (a : ℕ) (p : FrozenPart) → All (λ q. q.base + length q.bytes ≤ 2 ^ 32) parts → part_of parts a ≡ Some p → a < 2 ^ 32
part-above [] a p h e = absurd (let n : None ≡ Some p = e in cc)
part-above (q ∷ qs) a p h e = by (is_in q a) refl (part-above qs a p (All-tail (λ q. q.base + length q.bytes ≤ 2 ^ 32) q qs h)) e
  where
    by : (b : Bool) → is_in q a ≡ b → (part_of qs a ≡ Some p → a < 2 ^ 32) → (if b then Some q else part_of qs a) ≡ Some p → a < 2 ^ 32
    by true i more e = let under = All-head (λ q. q.base + length q.bytes ≤ 2 ^ 32) q qs h in let lt : a < q.base + length q.bytes = grind (arith, i) in omega (arith, under, lt)
    by false i more e = more e

-- code stands below 2^32 alone
pub code-below : (f : Frozen) (a : ℕ) (bytes : List ℕ) → LieInMemory f → code_from f a ≡ Some bytes → a < 2 ^ 32
unfolding code_from
code-below f a bytes lie e = by (part_of f.parts a) refl e
  where
    by : (o : Option FrozenPart) → part_of f.parts a ≡ o → rest_in a o ≡ Some bytes → a < 2 ^ 32
    by None h e = absurd (let n : None ≡ Some bytes = e in cc)
    by (Some p) h e = part-above f.parts a p lie h

pub stands-below : (setting : Setting) (pc : ℕ) (inst : GroundInst) → LieInMemory setting.frozen → standing setting pc ≡ Stands inst → pc < 2 ^ 32
stands-below setting pc inst lie e = by (code_from setting.frozen pc) refl e
  where
    by : (o : Option (List ℕ)) → code_from setting.frozen pc ≡ o → code_standing setting pc o ≡ Stands inst → pc < 2 ^ 32
    by None h e = absurd (let n : StandsOutside ≡ Stands inst = e in cc)
    by (Some bytes) h e = code-below setting.frozen pc bytes lie h

pub named-are-cells : named_are_cells
unfolding block_at
named-are-cells setting pc c sound lie h = by (standing setting pc) refl h
  where
    by : (s : Standing) → standing setting pc ≡ s → Contains (block_names setting.machine setting.conv (block_of setting s)) c → c < length setting.machine.widths
    by StandsOutside e h = none-in c h
    by StandsIllegal e h = none-in c h
    by (Stands inst) e h =
        transfers-there setting.machine setting.conv sound.fits sound.machine.machine.windows c inst.transfers
        (standing-sound setting pc inst sound.machine.machine (stands-below setting pc inst lie e) e).each h
