-- A cell without a flag is not mentioned.
use Rattle.std.proofs.Common.{◌≡◌, ◌≢◌, ℕ, ◌<◌, Bool, true, false, true≢false, List, [], ◌∷◌, length, get_or, set, replicate, Option, None, Some, sym, ◌∙◌, ap, arith, inl, inr}
use Rattle.std.specs.Prelude.{◌⊎◌}
use Rattle.std.proofs.lemmas.Bool.{cases_eq}
use Rattle.std.proofs.lemmas.List.{get_or-set_same, get_or-set_other, length-set, length-replicate}
use Rattle.rtl_core.specs.declared.expr.Expr.{Expr}
use Rattle.rtl_core.specs.declared.transfer.Act.{Act}
use Rattle.rtl_core.specs.declared.transfer.Act.TheVariants.{SetCell, SetSlice, Store, Jump, Annul, Trap, Service, WinSave, WinRestore}
use Rattle.rtl_core.specs.declared.transfer.Transfer.{Transfer}
use Rattle.rtl_core.specs.Terms.{Term, Const, Cell, Load, Unary, Binary, Slice, Zext, Sext, Choice, term_of}
use Rattle.jumptables.specs.Mentions.{IsApart, IsApartGuard, IsApartAct, AreApart, marks, marks_guard, marks_act, marks_all}

module _ (n c : ℕ) (lt : c < n) where
  set-count : (flags : List Bool) (k : ℕ) → length flags ≡ n → length (set flags k true) ≡ n
  set-count flags k e = length-set flags k true ∙ e

  set-apart : (flags : List Bool) (k : ℕ) → length flags ≡ n → get_or (set flags k true) c false ≡ false → (k ≢ c) × (get_or flags c false ≡ false)
  set-apart flags k e h = by (cases_eq c k)
    where
      by : (c ≡ k) ⊎ (c ≢ k) → (k ≢ c) × (get_or flags c false ≡ false)
      by (inl same) = absurd (true≢false (sym (ap (λ j. get_or (set flags k true) j false) same ∙ get_or-set_same flags k true false (omega (arith, e, same, lt))) ∙ h))
      by (inr off) = ((λ w. off (sym w)), sym (get_or-set_other flags k c true false off) ∙ h)

  marks-count : (t : Term) (flags : List Bool) → length flags ≡ n → length (marks t flags) ≡ n
  marks-count (Const w x) flags e = e
  marks-count (Cell k) flags e = set-count flags k e
  marks-count (Load b a) flags e = marks-count a flags e
  marks-count (Unary op a) flags e = marks-count a flags e
  marks-count (Binary op a b) flags e = marks-count b (marks a flags) (marks-count a flags e)
  marks-count (Slice a lo hi) flags e = marks-count a flags e
  marks-count (Zext w a) flags e = marks-count a flags e
  marks-count (Sext w a) flags e = marks-count a flags e
  marks-count (Choice g a b) flags e = marks-count b (marks a (marks g flags)) (marks-count a (marks g flags) (marks-count g flags e))

  marks-apart : (t : Term) (flags : List Bool) → length flags ≡ n → get_or (marks t flags) c false ≡ false → IsApart c t × (get_or flags c false ≡ false)
  marks-apart (Const w x) flags e h = (tt, h)
  marks-apart (Cell k) flags e h = set-apart flags k e h
  marks-apart (Load b a) flags e h = marks-apart a flags e h
  marks-apart (Unary op a) flags e h = marks-apart a flags e h
  marks-apart (Binary op a b) flags e h =
      let q = marks-apart b (marks a flags) (marks-count a flags e) h in
      let p = marks-apart a flags e q.1 in
      ((p.0, q.0), p.1)
  marks-apart (Slice a lo hi) flags e h = marks-apart a flags e h
  marks-apart (Zext w a) flags e h = marks-apart a flags e h
  marks-apart (Sext w a) flags e h = marks-apart a flags e h
  marks-apart (Choice g a b) flags e h =
      let eg = marks-count g flags e in
      let q = marks-apart b (marks a (marks g flags)) (marks-count a (marks g flags) eg) h in
      let p = marks-apart a (marks g flags) eg q.1 in
      let o = marks-apart g flags e p.1 in
      ((o.0, p.0, q.0), o.1)

  guard-count : (g : Option Expr) (flags : List Bool) → length flags ≡ n → length (marks_guard g flags) ≡ n
  guard-count None flags e = e
  guard-count (Some x) flags e = marks-count (term_of x) flags e

  guard-apart : (g : Option Expr) (flags : List Bool) → length flags ≡ n → get_or (marks_guard g flags) c false ≡ false → IsApartGuard c g × (get_or flags c false ≡ false)
  guard-apart None flags e h = (tt, h)
  guard-apart (Some x) flags e h = marks-apart (term_of x) flags e h

  act-count : (act : Act) (flags : List Bool) → length flags ≡ n → length (marks_act act flags) ≡ n
  act-count (SetCell k x) flags e = marks-count (term_of x) (set flags k true) (set-count flags k e)
  act-count (SetSlice k lo hi x) flags e = marks-count (term_of x) (set flags k true) (set-count flags k e)
  act-count (Store b a x) flags e = e
  act-count (Jump x) flags e = marks-count (term_of x) flags e
  act-count Annul flags e = e
  act-count (Trap x) flags e = e
  act-count Service flags e = e
  act-count WinSave flags e = e
  act-count WinRestore flags e = e

  assigned-apart : (k : ℕ) (x : Expr) (flags : List Bool) → length flags ≡ n → get_or (marks (term_of x) (set flags k true)) c false ≡ false → ((k ≢ c) × IsApart c (term_of x)) × (get_or flags c false ≡ false)
  assigned-apart k x flags e h =
      let q = marks-apart (term_of x) (set flags k true) (set-count flags k e) h in
      let p = set-apart flags k e q.1 in
      ((p.0, q.0), p.1)

  act-apart : (act : Act) (flags : List Bool) → length flags ≡ n → get_or (marks_act act flags) c false ≡ false → IsApartAct c act × (get_or flags c false ≡ false)
  act-apart (SetCell k x) flags e h = assigned-apart k x flags e h
  act-apart (SetSlice k lo hi x) flags e h = assigned-apart k x flags e h
  act-apart (Store b a x) flags e h = (tt, h)
  act-apart (Jump x) flags e h = marks-apart (term_of x) flags e h
  act-apart Annul flags e h = (tt, h)
  act-apart (Trap x) flags e h = (tt, h)
  act-apart Service flags e h = (tt, h)
  act-apart WinSave flags e h = (tt, h)
  act-apart WinRestore flags e h = (tt, h)

  all-apart : (ts : List Transfer) (flags : List Bool) → length flags ≡ n → get_or (marks_all ts flags) c false ≡ false → AreApart c ts × (get_or flags c false ≡ false)
  all-apart [] flags e h = (tt, h)
  all-apart (t ∷ ts) flags e h =
      let eg = guard-count t.guard flags e in
      let q = all-apart ts (marks_act t.act (marks_guard t.guard flags)) (act-count t.act (marks_guard t.guard flags) eg) h in
      let p = act-apart t.act (marks_guard t.guard flags) eg q.1 in
      let o = guard-apart t.guard flags e p.1 in
      ((o.0, p.0, q.0), o.1)

  pub flags-apart : (ts : List Transfer) → get_or (marks_all ts (replicate n false)) c false ≡ false → AreApart c ts
  flags-apart ts h = (all-apart ts (replicate n false) (length-replicate n false) h).0
