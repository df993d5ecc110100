-- Names in expressions are good: operands, parameters, cells and parts of files.
use Rattle.std.proofs.Common.{◌≡◌, ℕ, List, Option, Some, None, refl, sym, ap, ◌∙◌, subst, inl, inr}
use Rattle.std.proofs.lemmas.Bool.{cases_Bool, cond-true, cond-false}
use Rattle.std.proofs.lemmas.Option.{none-some, same_Some}
use Rattle.std.specs.Prelude.{unwrap_or, option_map, option_and_then, slice_get, slice_index}
use Rattle.rtl_core.specs.declared.encodings.OperandKind.{OperandKind}
use Rattle.rtl_core.specs.declared.machine.CellPart.{CellPart}
use Rattle.rtl_core.specs.SoundTemplates.{part_width, file_width}
use Rattle.ssl_rules.specs.declared.formula.Leaf.TheVariants as leaf
use Rattle.ssl_rules.specs.declared.formula.Formula.{Formula}
use Rattle.ssl_rules.specs.declared.formula.Formula.TheVariants as F
use Rattle.ssl_rules.specs.declared.tables.Own.{Own}
use Rattle.ssl_rules.specs.declared.tables.Own.TheVariants.{Field, Typed, Param}
use Rattle.ssl_rules.specs.declared.tables.Lone.{Lone}
use Rattle.ssl_rules.specs.declared.tables.Lone.TheVariants as lone
use Rattle.ssl_rules.specs.Names.{Scope, part_named, lone_named}
use Rattle.ssl_rules.specs.Widths.{cell_width, lone_width, at_width, at_op_width}
use Rattle.ssl_rules.specs.Formulas.{nothing, lone_formula, is_whole, part_formula, chosen_part}
use Rattle.ssl_sound.proofs.Good.{Frame, IsGood}
use Rattle.ssl_sound.proofs.GoodForms.{as_good, good-Cell, good-Part, good-Field, good-Typed, good-FileAt}
use Rattle.ssl_sound.proofs.Measures.{in_width-some}
use Rattle.ssl_sound.proofs.Scopes.{IsOwn, IsLone, IsGoodScope, IsPartAt, IsIndexed, lone-right, part-at, part-indexed}

module _ (E : Frame) (kinds : List OperandKind) (close : Formula → Formula) (s : Scope) (g : IsGoodScope E kinds close s) where
  own-good : (o : Own) → IsOwn E kinds close o → (w : ℕ) → lone_width s.tables (lone.Own o) ≡ Some w → IsGood E kinds (close (lone_formula (lone.Own o))) w
  own-good (Field k v) own w e =
      as_good E kinds (F.Leaf (leaf.Field k)) (close (F.Leaf (leaf.Field k))) v w (good-Field E kinds k v own) (same_Some v w e) (g.closes.on_leaf (leaf.Field k))
  own-good (Typed k st) own w e =
      as_good E kinds (F.Leaf (leaf.Typed k st)) (close (F.Leaf (leaf.Typed k st))) st.width w (good-Typed E kinds k st own) (same_Some st.width w e) (g.closes.on_leaf (leaf.Typed k st))
  own-good (Param k v) own w e = as_good E kinds (close (F.Param k)) (close (F.Param k)) v w own (in_width-some v w e).1 refl

  any-good : (l : Lone) → IsLone E kinds close s.tables l → (w : ℕ) → lone_width s.tables l ≡ Some w → IsGood E kinds (close (lone_formula l)) w
  any-good (lone.Own o) right w e = own-good o right w e
  any-good (lone.Cell c) right w e =
      as_good E kinds (F.Leaf (leaf.Cell c)) (close (F.Leaf (leaf.Cell c))) (slice_index E.machine.widths c) w (good-Cell E kinds c right.there)
      (right.width ∙ same_Some (cell_width s.tables c) w e) (g.closes.on_leaf (leaf.Cell c))

  named-good : (name : List ℕ) (w : ℕ) (q : Option Lone) → lone_named s name ≡ q → option_and_then (lone_width s.tables) q ≡ Some w
      → IsGood E kinds (close (unwrap_or (option_map lone_formula q) nothing)) w
  named-good name w None is e = absurd (none-some w e)
  named-good name w (Some l) is e = any-good l (lone-right E kinds close s g name l is) w e

  pub lone-good : (name : List ℕ) (w : ℕ) → option_and_then (lone_width s.tables) (lone_named s name) ≡ Some w
      → IsGood E kinds (close (unwrap_or (option_map lone_formula (lone_named s name)) nothing)) w
  lone-good name w e = named-good name w (lone_named s name) refl e

  part-good : (o : Option CellPart) (w : ℕ) → IsPartAt E s.tables o w → IsGood E kinds (close (unwrap_or (option_map (part_formula s.tables) o) nothing)) w
  part-good o w p =
      subst (λ x. IsGood E kinds (close (unwrap_or (option_map (part_formula s.tables) x) nothing)) w) (sym p.is)
      (elim (cases_Bool (is_whole s.tables p.part)) [
        | inl h ↦ as_good E kinds (F.Leaf (leaf.Cell p.part.cell)) (close (part_formula s.tables p.part)) (slice_index E.machine.widths p.part.cell) w
            (good-Cell E kinds p.part.cell p.lies.0) (p.whole h)
            (ap close (cond-true (is_whole s.tables p.part) (F.Leaf (leaf.Cell p.part.cell)) (F.Leaf (leaf.Part p.part)) h) ∙ g.closes.on_leaf (leaf.Cell p.part.cell))
        | inr h ↦ as_good E kinds (F.Leaf (leaf.Part p.part)) (close (part_formula s.tables p.part)) (part_width p.part) w
            (good-Part E kinds p.part p.lies) p.width
            (ap close (cond-false (is_whole s.tables p.part) (F.Leaf (leaf.Cell p.part.cell)) (F.Leaf (leaf.Part p.part)) h) ∙ g.closes.on_leaf (leaf.Part p.part))
      ])

  pub at-good : (name : List ℕ) (index w : ℕ) → at_width s.tables name index ≡ Some w
      → IsGood E kinds (close (unwrap_or (option_map (part_formula s.tables) (part_named s.tables name index)) nothing)) w
  at-good name index w e = part-good (part_named s.tables name index) w (part-at E s.tables g.tables name index w e)

  indexed-good : (o : Option (ℕ × ℕ)) (w : ℕ) → IsIndexed E kinds o w → IsGood E kinds (close (unwrap_or (option_map (λ p. F.Leaf (leaf.FileAt p.0 p.1)) o) nothing)) w
  indexed-good o w i =
      subst (λ x. IsGood E kinds (close (unwrap_or (option_map (λ p. F.Leaf (leaf.FileAt p.0 p.1)) x) nothing)) w) (sym i.is)
      (as_good E kinds (F.Leaf (leaf.FileAt i.file i.operand)) (close (F.Leaf (leaf.FileAt i.file i.operand))) (file_width (slice_get E.machine.files i.file)) w
      (good-FileAt E kinds i.file i.operand i.index) i.width (g.closes.on_leaf (leaf.FileAt i.file i.operand)))

  pub at_op-good : (name op : List ℕ) (w : ℕ) → at_op_width s name op ≡ Some w
      → IsGood E kinds (close (unwrap_or (option_map (λ p. F.Leaf (leaf.FileAt p.0 p.1)) (chosen_part s name op)) nothing)) w
  at_op-good name op w e = indexed-good (chosen_part s name op) w (part-indexed E kinds close s g name op w e)
