-- A sound template is sound once its operands are put in.
use Rattle.std.proofs.Common.{◌≡◌, ℕ, ◌^◌, ◌<◌, ◌≤◌, Bool, false, cond, List, [], ◌∷◌, get_or, map, count_by, slice_get, Option, Some, None, option_map, All, IfSome, refl, sym, ap, ◌∙◌, subst, arith}
use Rattle.std.proofs.lemmas.List.Elements.{All-map}
use Rattle.std.proofs.lemmas.List.Sums.{sum_by-cons}
use Rattle.rtl_core.specs.declared.encodings.OperandKind.{OperandKind}
use Rattle.rtl_core.specs.declared.expr.Un.{Un}
use Rattle.rtl_core.specs.declared.expr.Bin.{Bin as BinOp}
use Rattle.rtl_core.specs.declared.expr.Expr.{Expr}
use Rattle.rtl_core.specs.declared.machine.Machine.{Machine}
use Rattle.rtl_core.specs.declared.machine.CellPart.{CellPart}
use Rattle.rtl_core.specs.declared.template.TExpr.{TExpr}
use Rattle.rtl_core.specs.declared.template.TExpr.TheVariants as T
use Rattle.rtl_core.specs.declared.template.TPlace.{TPlace}
use Rattle.rtl_core.specs.declared.template.TAct.{TAct}
use Rattle.rtl_core.specs.declared.template.TTransfer.{TTransfer}
use Rattle.rtl_core.specs.declared.transfer.Act.{Act}
use Rattle.rtl_core.specs.Arithmetic.{result_width}
use Rattle.rtl_core.specs.Grounding.{Place, Whole, Bits, Bytes, Site, argument_at, file_place, ground_expr, ground_place, ground_act, ground_transfer, assigning}
use Rattle.rtl_core.specs.SoundTemplates.{IsFile, IsSoundTTerm, twidth, IsOfWidth, place_width, IsSoundPlace, IsSoundTAct, IsSoundTGuard, IsSoundTTransfer, AreSoundTTransfers, IsTServiceLast, is_tjump, is_tannul, is_tservice, moves_twindow}
use Rattle.rtl_core.specs.SoundTerms.{IsSoundTerm, HasWidth, IsSoundAct, IsSoundGuard, IsSoundTransfer, AreSoundTransfers, IsServiceLast, is_jump, is_annul, is_service, moves_window}
use Rattle.rtl_core.specs.TemplateTerms.{TTerm, Const as TConst, Cell as TCell, Load as TLoad, Unary as TUnary, Binary as TBinary, Slice as TSlice, Zext as TZext, Sext as TSext, Choice as TChoice, Operand, FileAt, Pc, Next, tterm_of}
use Rattle.rtl_core.specs.Terms.{Term, Const, Cell, Load, Unary, Binary, Slice, Zext, Sext, Choice, term_of, width_of}
use Rattle.rtl_core.proofs.GroundLaws as G
use Rattle.rtl_core.proofs.GroundPlaces.{IsAt, FitAll, FitAll-at, value-sound, place-sound, file-sound, place_value-sound, All-slice_get}
use Rattle.rtl_core.proofs.InductTExpr.{Cases, induct-TExpr}
use Rattle.rtl_core.proofs.TemplateTermLaws as TT
use Rattle.rtl_core.proofs.TermLaws as TL

-- where a template is put in: operands that fit their kinds, and addresses of 32 bits
pub record IsSite (m : Machine) (stands : ℕ → ℕ) (kinds : List OperandKind) (site : Site) : Type 0 where
  pub files : All (IsFile m.widths) m.files
  pub arguments : FitAll m stands kinds site.arguments
  pub pc : site.pc < 2 ^ 32
  pub next : site.next < 2 ^ 32

module _ (m : Machine) (stands : ℕ → ℕ) (kinds : List OperandKind) (site : Site) (s : IsSite m stands kinds site) where
  -- a term is as sound as that of its template, and as wide
  record Good (t : Term) (u : TTerm) : Type 0 where
    keeps : IsSoundTTerm m stands kinds u → IsSoundTerm m.widths t × (width_of m.widths t ≡ twidth m stands kinds u)

  abbrev IsGood : TExpr → Type 0
  IsGood e = Good (term_of (ground_expr m site e)) (tterm_of e)

  along : (e : TExpr) (g : Expr) (t : Term) (u : TTerm) → ground_expr m site e ≡ g → term_of g ≡ t → tterm_of e ≡ u → Good t u → IsGood e
  along e g t u p q r good = rw (p, q, r) good

  good-Load : {t : Term} {u : TTerm} (n : ℕ) → Good t u → Good (Load n t) (TLoad n u)
  good-Load n a = record { keeps = λ h. let x = a.keeps h.0 in ((x.0, x.1 ∙ h.1, h.2), refl) }

  good-Unary : {t : Term} {u : TTerm} (op : Un) → Good t u → Good (Unary op t) (TUnary op u)
  good-Unary op a = record { keeps = a.keeps }

  good-Binary : {t1 t2 : Term} {u1 u2 : TTerm} (op : BinOp) → Good t1 u1 → Good t2 u2 → Good (Binary op t1 t2) (TBinary op u1 u2)
  good-Binary op a b = record { keeps = λ h. let x = a.keeps h.0 in let y = b.keeps h.1 in ((x.0, y.0, y.1 ∙ h.2 ∙ sym x.1), ap (result_width op) x.1) }

  good-Slice : {t : Term} {u : TTerm} (lo hi : ℕ) → Good t u → Good (Slice t lo hi) (TSlice u lo hi)
  good-Slice lo hi a = record { keeps = λ h. let x = a.keeps h.0 in let P : ℕ → Type 0 = λ n. hi < n in ((x.0, h.1, subst P (sym x.1) h.2), refl) }

  good-Zext : {t : Term} {u : TTerm} (w : ℕ) → Good t u → Good (Zext w t) (TZext w u)
  good-Zext w a = record { keeps = λ h. let x = a.keeps h.0 in let P : ℕ → Type 0 = λ n. n ≤ w in ((x.0, subst P (sym x.1) h.1, h.2), refl) }

  good-Sext : {t : Term} {u : TTerm} (w : ℕ) → Good t u → Good (Sext w t) (TSext w u)
  good-Sext w a = record { keeps = λ h. let x = a.keeps h.0 in let P : ℕ → Type 0 = λ n. n ≤ w in ((x.0, subst P (sym x.1) h.1, h.2), refl) }

  good-Choice : {t1 t2 t3 : Term} {u1 u2 u3 : TTerm} → Good t1 u1 → Good t2 u2 → Good t3 u3 → Good (Choice t1 t2 t3) (TChoice u1 u2 u3)
  good-Choice a b c =
      record { keeps = λ h. let x = a.keeps h.0 in let y = b.keeps h.1 in let z = c.keeps h.2 in ((x.0, y.0, z.0, x.1 ∙ h.3, z.1 ∙ h.4 ∙ sym y.1), y.1) }

  files-at : (o : Option (List CellPart)) (f : ℕ) → slice_get m.files f ≡ o → IfSome o (IsFile m.widths)
  files-at None f e = tt
  files-at (Some parts) f e = All-slice_get (IsFile m.widths) m.files f parts e s.files

  -- the part of a file that an operand chooses
  part-sound : (f k : ℕ) → IsSoundTTerm m stands kinds (FileAt f k) → IsAt m.widths (file_place m site f k) (twidth m stands kinds (FileAt f k))
  part-sound f k h =
      file-sound m stands (slice_get m.files f) (slice_get kinds k) (argument_at site k) (record { cell = 0; lo = 0; hi = 0 }) (files-at (slice_get m.files f) f refl)
      (FitAll-at m stands kinds site.arguments k s.arguments) h

  good : Cases IsGood
  good = record {
    on_const = λ w n. along (T.Const w n) _ (Const w n) (TConst w n) (G.ground-Const m site w n) (TL.term-Const w n) (TT.tterm-Const w n) (record { keeps = λ h. (h, refl) });
    on_cell = λ c. along (T.Cell c) _ (Cell c) (TCell c) (G.ground-Cell m site c) (TL.term-Cell c) (TT.tterm-Cell c) (record { keeps = λ h. (h, refl) });
    on_load = λ n a p. along (T.Load n a) _ _ _ (G.ground-Load m site n a) (TL.term-Load n (ground_expr m site a)) (TT.tterm-Load n a) (good-Load n p);
    on_un = λ op a p. along (T.Un op a) _ _ _ (G.ground-Un m site op a) (TL.term-Un op (ground_expr m site a)) (TT.tterm-Un op a) (good-Unary op p);
    on_bin = λ op a b p q. along (T.Bin op a b) _ _ _ (G.ground-Bin m site op a b) (TL.term-Bin op (ground_expr m site a) (ground_expr m site b)) (TT.tterm-Bin op a b) (good-Binary op p q);
    on_slice = λ a lo hi p. along (T.Slice a lo hi) _ _ _ (G.ground-Slice m site a lo hi) (TL.term-Slice (ground_expr m site a) lo hi) (TT.tterm-Slice a lo hi) (good-Slice lo hi p);
    on_zext = λ w a p. along (T.Zext w a) _ _ _ (G.ground-Zext m site w a) (TL.term-Zext w (ground_expr m site a)) (TT.tterm-Zext w a) (good-Zext w p);
    on_sext = λ w a p. along (T.Sext w a) _ _ _ (G.ground-Sext m site w a) (TL.term-Sext w (ground_expr m site a)) (TT.tterm-Sext w a) (good-Sext w p);
    on_if = λ c a b p q r. along (T.If c a b) _ _ _ (G.ground-If m site c a b) (TL.term-If (ground_expr m site c) (ground_expr m site a) (ground_expr m site b)) (TT.tterm-If c a b) (good-Choice p q r);
    on_operand = λ k. along (T.Operand k) _ _ (Operand k) (G.ground-Operand m site k) refl (TT.tterm-Operand k) (record { keeps = λ h. value-sound m stands (slice_get kinds k) (argument_at site k) (FitAll-at m stands kinds site.arguments k s.arguments) h });
    on_file = λ f k. along (T.FileAt f k) _ _ (FileAt f k) (G.ground-FileAt m site f k) refl (TT.tterm-FileAt f k) (record { keeps = λ h. place_value-sound m.widths (file_place m site f k) _ (part-sound f k h) });
    on_pc = along T.Pc _ (Const 32 site.pc) Pc (G.ground-Pc m site) (TL.term-Const 32 site.pc) TT.tterm-Pc (record { keeps = λ h. (((omega arith, omega arith), s.pc), refl) });
    on_next = along T.Next _ (Const 32 site.next) Next (G.ground-Next m site) (TL.term-Const 32 site.next) TT.tterm-Next (record { keeps = λ h. (((omega arith, omega arith), s.next), refl) });
  }

  pub expr-sound : (e : TExpr) (w : ℕ) → IsOfWidth m stands kinds e w → HasWidth m.widths (ground_expr m site e) w
  expr-sound e w h = let x = (induct-TExpr IsGood good e).keeps h.sound in (x.0, x.1 ∙ h.width)

  pub place-ground : (p : TPlace) → IsSoundPlace m stands kinds p → IsAt m.widths (ground_place m site p) (place_width m stands kinds p)
  place-ground (TPlace.Cell c) h = record { there = h; width = refl }
  place-ground (TPlace.Slice c lo hi) h = record { there = h; width = refl }
  place-ground (TPlace.Memory n a) h = record { there = (h.0, expr-sound a 32 h.1); width = refl }
  place-ground (TPlace.Operand k) h = place-sound m stands (slice_get kinds k) (argument_at site k) (FitAll-at m stands kinds site.arguments k s.arguments) h
  place-ground (TPlace.FileAt f k) h = part-sound f k h

  assigning-sound : (p : Place) (w : ℕ) (e : Expr) → IsAt m.widths p w → HasWidth m.widths e w → IsSoundAct m (assigning p e)
  assigning-sound (Whole c) w e a h = (a.there, (h.0, h.1 ∙ sym a.width))
  assigning-sound (Bits c lo hi) w e a h = (a.there.0, a.there.1, a.there.2, (h.0, h.1 ∙ sym a.width))
  assigning-sound (Bytes n at) w e a h = (a.there.0, a.there.1, (h.0, h.1 ∙ sym a.width))

  act-sound : (a : TAct) → IsSoundTAct m stands kinds a → IsSoundAct m (ground_act m site a)
  act-sound (TAct.Assign p e) h =
      assigning-sound (ground_place m site p) (place_width m stands kinds p) (ground_expr m site e) (place-ground p h.0) (expr-sound e (place_width m stands kinds p) h.1)
  act-sound (TAct.Jump e) h = expr-sound e 32 h
  act-sound TAct.Annul h = tt
  act-sound (TAct.Trap e) h = expr-sound e 32 h
  act-sound TAct.Service h = tt
  act-sound TAct.WinSave h = h
  act-sound TAct.WinRestore h = h

  guard-sound : (g : Option TExpr) → IsSoundTGuard m stands kinds g → IsSoundGuard m.widths (option_map (ground_expr m site) g)
  guard-sound None h = tt
  guard-sound (Some g) h = expr-sound g 1 h

  transfer-sound : (t : TTransfer) → IsSoundTTransfer m stands kinds t → IsSoundTransfer m (ground_transfer m site t)
  transfer-sound t h = record { guard = guard-sound t.guard h.guard; act = act-sound t.act h.act }

-- ---- the acts of an instruction

module _ (m : Machine) (site : Site) where
  -- an assignment is none of the acts that come once at most
  assigned : (p : Place) (e : Expr) → (is_jump (assigning p e) ≡ false) × (is_annul (assigning p e) ≡ false) × (is_service (assigning p e) ≡ false) × (moves_window (assigning p e) ≡ false)
  assigned (Whole c) e = (refl, refl, refl, refl)
  assigned (Bits c lo hi) e = (refl, refl, refl, refl)
  assigned (Bytes n a) e = (refl, refl, refl, refl)

  -- an act keeps its kind
  same_kind : (a : TAct) → (is_jump (ground_act m site a) ≡ is_tjump a) × (is_annul (ground_act m site a) ≡ is_tannul a)
      × (is_service (ground_act m site a) ≡ is_tservice a) × (moves_window (ground_act m site a) ≡ moves_twindow a)
  same_kind (TAct.Assign p e) = assigned (ground_place m site p) (ground_expr m site e)
  same_kind (TAct.Jump e) = (refl, refl, refl, refl)
  same_kind TAct.Annul = (refl, refl, refl, refl)
  same_kind (TAct.Trap e) = (refl, refl, refl, refl)
  same_kind TAct.Service = (refl, refl, refl, refl)
  same_kind TAct.WinSave = (refl, refl, refl, refl)
  same_kind TAct.WinRestore = (refl, refl, refl, refl)

  counts : (p : TAct → Bool) (q : Act → Bool) → ((a : TAct) → q (ground_act m site a) ≡ p a) → (ts : List TTransfer)
      → count_by q (map (λ t. t.act) (map (ground_transfer m site) ts)) ≡ count_by p (map (λ t. t.act) ts)
  counts p q h [] = refl
  counts p q h (t ∷ ts) =
      sum_by-cons (λ a. cond (q a) 1 0) (ground_act m site t.act) (map (λ t. t.act) (map (ground_transfer m site) ts))
      ∙ rw (h t.act, counts p q h ts) (sym (sum_by-cons (λ a. cond (p a) 1 0) t.act (map (λ t. t.act) ts)))

  last : (ts : List TTransfer) → IsTServiceLast (map (λ t. t.act) ts) → IsServiceLast (map (λ t. t.act) (map (ground_transfer m site) ts))
  last [] s = tt
  last (t ∷ []) s = tt
  last (t ∷ u ∷ ts) s = ((same_kind t.act).2 ∙ s.0, last (u ∷ ts) s.1)

at_most_one : (a b : ℕ) → a ≡ b → b ≤ 1 → a ≤ 1
at_most_one a b e h = omega arith

-- the transfers of a sound template, put in
pub transfers-sound : (m : Machine) (stands : ℕ → ℕ) (kinds : List OperandKind) (site : Site) (ts : List TTransfer) → IsSite m stands kinds site
    → AreSoundTTransfers m stands kinds ts → AreSoundTransfers m (map (ground_transfer m site) ts)
transfers-sound m stands kinds site ts s h = record {
  each = All-map (IsSoundTransfer m) (ground_transfer m site) ts (λ k d lt. transfer-sound m stands kinds site s (get_or ts k d) (h.each k d lt));
  one_jump = at_most_one _ _ (counts m site is_tjump is_jump (λ a. (same_kind m site a).0) ts) h.one_jump;
  one_annul = at_most_one _ _ (counts m site is_tannul is_annul (λ a. (same_kind m site a).1) ts) h.one_annul;
  one_service = at_most_one _ _ (counts m site is_tservice is_service (λ a. (same_kind m site a).2) ts) h.one_service;
  one_move = at_most_one _ _ (counts m site moves_twindow moves_window (λ a. (same_kind m site a).3) ts) h.one_move;
  service_last = last m site ts h.service_last;
}
