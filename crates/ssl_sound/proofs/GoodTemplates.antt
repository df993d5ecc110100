-- The template of a typed constructor, from a good expression: a place or a value, of its width, counted right.
use Rattle.std.proofs.Common.{◌≡◌, ℕ, suc, ◌+◌, Bool, true, false, List, Some, None, refl, sym, ap, ◌∙◌, subst, arith}
use Rattle.std.proofs.lemmas.Bool.{cond-true, cond-false}
use Rattle.rtl_core.specs.declared.encodings.OperandKind.{OperandKind}
use Rattle.rtl_core.specs.declared.template.TPlace.{TPlace}
use Rattle.rtl_core.specs.declared.template.TPlace.TheVariants as P
use Rattle.rtl_core.specs.declared.template.Template.{Template}
use Rattle.rtl_core.specs.declared.template.Template.TheVariants.{Value, Place}
use Rattle.rtl_core.specs.SoundTemplates.{IsSoundTTerm, twidth, IsSoundPlace, place_width, IsSoundTemplate, HasPlace}
use Rattle.rtl_core.specs.TemplateTerms.{TTerm, Cell, Load, Slice, Operand, FileAt}
use Rattle.rtl_core.specs.TemplateNodes.{operand_nodes, template_nodes, target_nodes, read_nodes, assigned_nodes as place_assigned, nodes as tnodes}
use Rattle.ssl_rules.specs.declared.formula.Leaf.{Leaf}
use Rattle.ssl_rules.specs.declared.formula.Leaf.TheVariants as leaf
use Rattle.ssl_rules.specs.declared.formula.Formula.{Formula}
use Rattle.ssl_rules.specs.declared.formula.Formula.TheVariants as F
use Rattle.ssl_rules.specs.declared.tables.Stands.{Stands}
use Rattle.ssl_rules.specs.Formulas.{nodes, value, leaf_place}
use Rattle.ssl_rules.specs.Templates.{formula_place, formula_template, assigned_nodes, typed_assigned}
use Rattle.ssl_nodes.proofs.FormulaLaws.{nodes-Load}
use Rattle.ssl_nodes.proofs.InductFormula.{induct-Formula}
use Rattle.ssl_sound.proofs.Terms.{term, term-Cell, term-Part, term-Typed, term-FileAt, term-Load, out-Param, out-Leaf, out-Load, out-Un, out-Bin, out-Slice, out-Zext, out-Sext, out-If}
use Rattle.ssl_sound.proofs.Good.{Frame, IsRight, IsTop, IsGood}

-- a template of a type that is sound and counted right
pub record IsMade (E : Frame) (kinds : List OperandKind) (t : ℕ) (template : Template) (n a : ℕ) : Type 0 where
  pub sound : IsSoundTemplate E.machine E.stands t kinds template
  pub read : template_nodes E.counts kinds template ≡ n
  pub assigned : target_nodes E.counts kinds template ≡ a

-- a place that is sound, of this width, and counted right
pub record IsPlaced (E : Frame) (kinds : List OperandKind) (p : TPlace) (w n a : ℕ) : Type 0 where
  pub sound : IsSoundPlace E.machine E.stands kinds p
  pub width : place_width E.machine E.stands kinds p ≡ w
  pub read : read_nodes E.counts kinds p ≡ n
  pub assigned : place_assigned E.counts kinds p ≡ a

module _ (E : Frame) (kinds : List OperandKind) (t : ℕ) where
  value-made : (f : Formula) → formula_place f ≡ None → assigned_nodes f ≡ 0 → IsGood E kinds f (E.stands (suc t)) → IsMade E kinds (suc t) (formula_template f) (nodes f) (assigned_nodes f)
  value-made f is none g =
      let e : formula_template f ≡ Value (value f) = rw is refl in
      subst (λ x. IsMade E kinds (suc t) x (nodes f) (assigned_nodes f)) (sym e)
      (record { sound = record { sound = g.sound; width = g.width }; read = g.nodes; assigned = sym none })

  place-made : (f : Formula) (p : TPlace) → formula_place f ≡ Some p → IsPlaced E kinds p (E.stands (suc t)) (nodes f) (assigned_nodes f)
      → IsMade E kinds (suc t) (formula_template f) (nodes f) (assigned_nodes f)
  place-made f p is g =
      let e : formula_template f ≡ Place p = rw is refl in
      subst (λ x. IsMade E kinds (suc t) x (nodes f) (assigned_nodes f)) (sym e)
      (record { sound = (g.sound, g.width); read = g.read; assigned = g.assigned })

  -- ---- a part without parts

  leaf-place : (l : Leaf) → formula_place (F.Leaf l) ≡ leaf_place l
  leaf-place l = rw (out-Leaf l) refl

  sound-at : (f : Formula) (x : TTerm) (w : ℕ) → term f ≡ x → IsGood E kinds f w → IsSoundTTerm E.machine E.stands kinds x
  sound-at f x w is g = subst (IsSoundTTerm E.machine E.stands kinds) is g.sound

  width-at : (f : Formula) (x : TTerm) (w : ℕ) → term f ≡ x → IsGood E kinds f w → twidth E.machine E.stands kinds x ≡ w
  width-at f x w is g = ap (twidth E.machine E.stands kinds) (sym is) ∙ g.width

  nodes-at : (f : Formula) (x : TTerm) (w : ℕ) → term f ≡ x → IsGood E kinds f w → tnodes E.counts kinds x ≡ nodes f
  nodes-at f x w is g = ap (tnodes E.counts kinds) (sym is) ∙ g.nodes

  typed-made : (k : ℕ) (st : Stands) (place : Bool) → st.place ≡ place → IsGood E kinds (F.Leaf (leaf.Typed k st)) (E.stands (suc t))
      → IsMade E kinds (suc t) (formula_template (F.Leaf (leaf.Typed k st))) (nodes (F.Leaf (leaf.Typed k st))) (assigned_nodes (F.Leaf (leaf.Typed k st)))
  typed-made k st false off g =
      let e : formula_place (F.Leaf (leaf.Typed k st)) ≡ None = leaf-place (leaf.Typed k st) ∙ cond-false st.place (Some (P.Operand k)) None off in
      let a : assigned_nodes (F.Leaf (leaf.Typed k st)) ≡ typed_assigned st = rw (out-Leaf (leaf.Typed k st)) refl in
      value-made (F.Leaf (leaf.Typed k st)) e (a ∙ cond-false st.place st.assigned 0 off) g
  typed-made k st true yes_ g =
      let f : Formula = F.Leaf (leaf.Typed k st) in
      let w : ℕ = E.stands (suc t) in
      let right : IsRight E kinds k st = subst (IsTop E kinds) (out-Leaf (leaf.Typed k st)) g.top in
      let e : formula_place f ≡ Some (P.Operand k) = leaf-place (leaf.Typed k st) ∙ cond-true st.place (Some (P.Operand k)) None yes_ in
      let a : assigned_nodes f ≡ typed_assigned st = rw (out-Leaf (leaf.Typed k st)) refl in
      let b : typed_assigned st ≡ st.assigned = cond-true st.place st.assigned 0 yes_ in
      place-made f (P.Operand k) e (record {
        sound = subst (HasPlace E.machine) (sym right.is) (right.place yes_);
        width = width-at f (Operand k) w (term-Typed k st) g;
        read = nodes-at f (Operand k) w (term-Typed k st) g;
        assigned = ap (operand_nodes E.counts.assigned 0) right.is ∙ right.assigned ∙ sym b ∙ sym a;
      })

  leaf-made : (l : Leaf) → IsGood E kinds (F.Leaf l) (E.stands (suc t)) → IsMade E kinds (suc t) (formula_template (F.Leaf l)) (nodes (F.Leaf l)) (assigned_nodes (F.Leaf l))
  leaf-made (leaf.Const v n) g = value-made (F.Leaf (leaf.Const v n)) (leaf-place (leaf.Const v n)) (rw (out-Leaf (leaf.Const v n)) refl) g
  leaf-made (leaf.Cell c) g =
      let w : ℕ = E.stands (suc t) in
      let f : Formula = F.Leaf (leaf.Cell c) in
      place-made f (P.Cell c) (leaf-place (leaf.Cell c)) (record {
        sound = sound-at f (Cell c) w (term-Cell c) g;
        width = width-at f (Cell c) w (term-Cell c) g;
        read = nodes-at f (Cell c) w (term-Cell c) g;
        assigned = sym (rw (out-Leaf (leaf.Cell c)) refl);
      })
  leaf-made (leaf.Part p) g =
      let w : ℕ = E.stands (suc t) in
      let f : Formula = F.Leaf (leaf.Part p) in
      place-made f (P.Slice p.cell p.lo p.hi) (leaf-place (leaf.Part p)) (record {
        sound = sound-at f (Slice (Cell p.cell) p.lo p.hi) w (term-Part p) g;
        width = width-at f (Slice (Cell p.cell) p.lo p.hi) w (term-Part p) g;
        read = nodes-at f (Slice (Cell p.cell) p.lo p.hi) w (term-Part p) g;
        assigned = sym (rw (out-Leaf (leaf.Part p)) refl);
      })
  leaf-made (leaf.Field k) g = value-made (F.Leaf (leaf.Field k)) (leaf-place (leaf.Field k)) (rw (out-Leaf (leaf.Field k)) refl) g
  leaf-made (leaf.Typed k st) g = typed-made k st st.place refl g
  leaf-made (leaf.FileAt n k) g =
      let w : ℕ = E.stands (suc t) in
      let f : Formula = F.Leaf (leaf.FileAt n k) in
      place-made f (P.FileAt n k) (leaf-place (leaf.FileAt n k)) (record {
        sound = sound-at f (FileAt n k) w (term-FileAt n k) g;
        width = width-at f (FileAt n k) w (term-FileAt n k) g;
        read = nodes-at f (FileAt n k) w (term-FileAt n k) g;
        assigned = sym (rw (out-Leaf (leaf.FileAt n k)) refl);
      })
  leaf-made leaf.Pc g = value-made (F.Leaf leaf.Pc) (leaf-place leaf.Pc) (rw (out-Leaf leaf.Pc) refl) g
  leaf-made leaf.Next g = value-made (F.Leaf leaf.Next) (leaf-place leaf.Next) (rw (out-Leaf leaf.Next) refl) g

  -- ---- memory

  load-made : (n : ℕ) (a : Formula) → IsGood E kinds (F.Load n a) (E.stands (suc t)) → IsMade E kinds (suc t) (formula_template (F.Load n a)) (nodes (F.Load n a)) (assigned_nodes (F.Load n a))
  load-made n a g =
      let w : ℕ = E.stands (suc t) in
      let f : Formula = F.Load n a in
      let e : formula_place f ≡ Some (P.Memory n (value a)) = rw (out-Load n a) refl in
      let b : assigned_nodes f ≡ nodes a = rw (out-Load n a) refl in
      let s = sound-at f (Load n (term a)) w (term-Load n a) g in
      let c : 1 + tnodes E.counts kinds (term a) ≡ 1 + nodes a = nodes-at f (Load n (term a)) w (term-Load n a) g ∙ nodes-Load n a in
      let d : tnodes E.counts kinds (term a) ≡ nodes a = omega arith in
      place-made f (P.Memory n (value a)) e (record {
        sound = (s.2, record { sound = s.0; width = s.1 });
        width = width-at f (Load n (term a)) w (term-Load n a) g;
        read = nodes-at f (Load n (term a)) w (term-Load n a) g;
        assigned = d ∙ sym b;
      })

  abbrev IsMadeOf : Formula → Type 0
  IsMadeOf f = IsGood E kinds f (E.stands (suc t)) → IsMade E kinds (suc t) (formula_template f) (nodes f) (assigned_nodes f)

  pub template-made : (f : Formula) → IsMadeOf f
  template-made = induct-Formula IsMadeOf (record {
    on_param = λ k. value-made (F.Param k) (rw (out-Param k) refl) (rw (out-Param k) refl);
    on_leaf = leaf-made;
    on_load = λ n a p. load-made n a;
    on_un = λ op a p. value-made (F.Un op a) (rw (out-Un op a) refl) (rw (out-Un op a) refl);
    on_bin = λ op a b p q. value-made (F.Bin op a b) (rw (out-Bin op a b) refl) (rw (out-Bin op a b) refl);
    on_slice = λ a lo hi p. value-made (F.Slice a lo hi) (rw (out-Slice a lo hi) refl) (rw (out-Slice a lo hi) refl);
    on_zext = λ w a p. value-made (F.Zext w a) (rw (out-Zext w a) refl) (rw (out-Zext w a) refl);
    on_sext = λ w a p. value-made (F.Sext w a) (rw (out-Sext w a) refl) (rw (out-Sext w a) refl);
    on_if = λ c a b p q r. value-made (F.If c a b) (rw (out-If c a b) refl) (rw (out-If c a b) refl);
  })
