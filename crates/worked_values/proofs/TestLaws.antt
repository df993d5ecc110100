-- The expressions of the tests are sound.
use Rattle.std.proofs.Common.{◌≡◌, ℕ, zero, suc, ◌^◌, ◌<◌, true, [], ◌∷◌, refl, sym, ap, ◌∙◌, subst, arith}
use Rattle.std.specs.Prelude.{slice_index}
use Rattle.rtl_core.specs.declared.expr.Bin.{Bin}
use Rattle.rtl_core.specs.declared.expr.Bin.TheVariants.{Add}
use Rattle.rtl_core.specs.declared.expr.Un.TheVariants.{Neg}
use Rattle.rtl_core.specs.declared.expr.Expr.TheVariants as E
use Rattle.rtl_core.specs.Access.{is_size}
use Rattle.rtl_core.specs.SoundTerms.{IsWidth, AreWidths, IsSoundTerm}
use Rattle.rtl_core.specs.Terms.{Const, Cell, Load, Unary, Binary, Slice, Zext, Sext, Choice, term_of}
use Rattle.rtl_core.proofs.TermLaws.{term-Const, term-Cell, term-Load, term-Un, term-Bin, term-Slice, term-Zext, term-Sext, term-If}
use Rattle.rtl_meaning.specs.Sound.{IsSoundExpr}

-- one cell of 32 bits
pub one_word : AreWidths (32 ∷ [])
one_word = record { each = each }
  where
    each : (c : ℕ) → c < 1 → IsWidth (slice_index (32 ∷ []) c)
    each zero h = (omega arith, omega arith)
    each (suc c) h = absurd (omega arith)

pub operation_sound : (op : Bin) (w x y : ℕ) → IsWidth w → x < 2 ^ w → y < 2 ^ w → IsSoundExpr (32 ∷ []) (E.Bin op (E.Const w x) (E.Const w y))
operation_sound op w x y i p q =
    let is : term_of (E.Bin op (E.Const w x) (E.Const w y)) ≡ Binary op (Const w x) (Const w y) = term-Bin op (E.Const w x) (E.Const w y) ∙ ap (λ t. Binary op t (term_of (E.Const w y))) (term-Const w x) ∙ ap (λ t. Binary op (Const w x) t) (term-Const w y) in
    record { cells = one_word; term = subst (IsSoundTerm (32 ∷ [])) (sym is) ((i, p), (i, q), refl) }

pub load_sound : (b n : ℕ) → is_size b ≡ true → n < 2 ^ 32 → IsSoundExpr (32 ∷ []) (E.Load b (E.Bin Add (E.Cell 0) (E.Const 32 n)))
load_sound b n size small =
    let is : term_of (E.Load b (E.Bin Add (E.Cell 0) (E.Const 32 n))) ≡ Load b (Binary Add (Cell 0) (Const 32 n)) = simp (term-Load, term-Bin, term-Cell, term-Const) in
    record { cells = one_word; term = subst (IsSoundTerm (32 ∷ [])) (sym is) ((omega arith, ((omega arith, omega arith), small), refl), refl, size) }

pub choice_sound : (bit : ℕ) → bit < 32 →
    IsSoundExpr (32 ∷ []) (E.If (E.Slice (E.Cell 0) bit bit) (E.Sext 32 (E.Load 1 (E.Const 32 3))) (E.Zext 32 (E.Un Neg (E.Const 8 1))))
choice_sound bit small =
    let is : term_of (E.If (E.Slice (E.Cell 0) bit bit) (E.Sext 32 (E.Load 1 (E.Const 32 3))) (E.Zext 32 (E.Un Neg (E.Const 8 1)))) ≡
    Choice (Slice (Cell 0) bit bit) (Sext 32 (Load 1 (Const 32 3))) (Zext 32 (Unary Neg (Const 8 1))) =
    simp (term-If, term-Slice, term-Cell, term-Sext, term-Load, term-Zext, term-Un, term-Const) in
    record {
      cells = one_word;
      term = subst (IsSoundTerm (32 ∷ [])) (sym is) (
        (omega arith, omega arith, small),
        ((((omega arith, omega arith), omega arith), refl, refl), omega arith, omega arith),
        (((omega arith, omega arith), omega arith), omega arith, omega arith),
        omega arith,
        refl,
      );
    }
