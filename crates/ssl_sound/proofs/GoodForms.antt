-- The forms of good expanded expressions, from good parts.
use Rattle.std.proofs.Common.{◌≡◌, ℕ, ◌+◌, ◌-◌, ◌*◌, ◌^◌, ◌<◌, ◌≤◌, true, List, length, Some, refl, sym, ap, ◌∙◌, subst}
use Rattle.std.specs.Prelude.{slice_get, slice_index}
use Rattle.rtl_core.specs.declared.encodings.OperandKind.{OperandKind}
use Rattle.rtl_core.specs.declared.encodings.OperandKind.TheVariants as kind
use Rattle.rtl_core.specs.declared.expr.Un.{Un}
use Rattle.rtl_core.specs.declared.expr.Bin.{Bin as BinOp}
use Rattle.rtl_core.specs.declared.machine.CellPart.{CellPart}
use Rattle.rtl_core.specs.Access.{is_size}
use Rattle.rtl_core.specs.Arithmetic.{result_width}
use Rattle.rtl_core.specs.SoundTemplates.{IsSoundTTerm, twidth, kind_width, HasValue, IsIndex, IsPart, part_width, file_width}
use Rattle.rtl_core.specs.SoundTerms.{IsWidth}
use Rattle.rtl_core.specs.TemplateTerms.{TTerm, Const, Cell, Load, Unary, Binary, Slice, Zext, Sext, Choice, Operand, FileAt, Pc, Next}
use Rattle.rtl_core.specs.TemplateNodes.{operand_nodes, nodes as tnodes}
use Rattle.ssl_rules.specs.declared.formula.Leaf.{Leaf}
use Rattle.ssl_rules.specs.declared.formula.Leaf.TheVariants as leaf
use Rattle.ssl_rules.specs.declared.formula.Formula.{Formula, out-Formula}
use Rattle.ssl_rules.specs.declared.formula.Formula.TheVariants as F
use Rattle.ssl_rules.specs.declared.formula.Formula.TheOpen.{Formula-F}
use Rattle.ssl_rules.specs.declared.tables.Stands.{Stands}
use Rattle.ssl_rules.specs.Formulas.{nodes}
use Rattle.ssl_nodes.proofs.FormulaLaws.{nodes-Leaf, nodes-Load, nodes-Un, nodes-Bin, nodes-Slice, nodes-Zext, nodes-Sext, nodes-If}
use Rattle.ssl_sound.proofs.Terms.{term, term-Const, term-Cell, term-Part, term-Field, term-Typed, term-FileAt, term-Pc, term-Next, term-Load, term-Un, term-Bin, term-Slice, term-Zext, term-Sext, term-If, out-Leaf, out-Load, out-Un, out-Bin, out-Slice, out-Zext, out-Sext, out-If}
use Rattle.ssl_sound.proofs.Good.{Frame, IsRight, IsTopLeaf, IsTop, IsGood}

-- of an equal width, for an equal expression
pub as_good : (E : Frame) (kinds : List OperandKind) (f g : Formula) (v w : ℕ) → IsGood E kinds f v → v ≡ w → g ≡ f → IsGood E kinds g w
as_good E kinds f g v w good width is = subst (λ x. IsGood E kinds x w) (sym is) (subst (IsGood E kinds f) width good)

-- from the term and the outermost form
built : (E : Frame) (kinds : List OperandKind) (f : Formula) (w : ℕ) (t : TTerm) (x : Formula-F Formula) → term f ≡ t → out-Formula f ≡ x
    → IsSoundTTerm E.machine E.stands kinds t → twidth E.machine E.stands kinds t ≡ w → tnodes E.counts kinds t ≡ nodes f → IsTop E kinds x → IsGood E kinds f w
built E kinds f w t x is out sound width count top = record {
  sound = subst (IsSoundTTerm E.machine E.stands kinds) (sym is) sound;
  width = ap (twidth E.machine E.stands kinds) is ∙ width;
  nodes = ap (tnodes E.counts kinds) is ∙ count;
  top = subst (IsTop E kinds) (sym out) top;
}

leaf_built : (E : Frame) (kinds : List OperandKind) (l : Leaf) (w : ℕ) (t : TTerm) → term (F.Leaf l) ≡ t
    → IsSoundTTerm E.machine E.stands kinds t → twidth E.machine E.stands kinds t ≡ w → tnodes E.counts kinds t ≡ nodes (F.Leaf l) → IsTopLeaf E kinds l → IsGood E kinds (F.Leaf l) w
leaf_built E kinds l w t is sound width count top = built E kinds (F.Leaf l) w t (Formula-F.Leaf l) is (out-Leaf l) sound width count top

-- ---- parts without parts

pub good-Const : (E : Frame) (kinds : List OperandKind) (w n : ℕ) → IsWidth w → n < 2 ^ w → IsGood E kinds (F.Leaf (leaf.Const w n)) w
good-Const E kinds w n width below = leaf_built E kinds (leaf.Const w n) w (Const w n) (term-Const w n) (width, below) refl (sym (nodes-Leaf (leaf.Const w n))) tt

pub good-Cell : (E : Frame) (kinds : List OperandKind) (c : ℕ) → c < length E.machine.widths → IsGood E kinds (F.Leaf (leaf.Cell c)) (slice_index E.machine.widths c)
good-Cell E kinds c there = leaf_built E kinds (leaf.Cell c) (slice_index E.machine.widths c) (Cell c) (term-Cell c) there refl (sym (nodes-Leaf (leaf.Cell c))) tt

pub good-Part : (E : Frame) (kinds : List OperandKind) (p : CellPart) → IsPart E.machine.widths p → IsGood E kinds (F.Leaf (leaf.Part p)) (part_width p)
good-Part E kinds p part =
    leaf_built E kinds (leaf.Part p) (part_width p) (Slice (Cell p.cell) p.lo p.hi) (term-Part p) (part.0, part.1, part.2) refl (sym (nodes-Leaf (leaf.Part p))) tt

pub good-Field : (E : Frame) (kinds : List OperandKind) (k w : ℕ) → slice_get kinds k ≡ Some (kind.Field w) → IsGood E kinds (F.Leaf (leaf.Field k)) w
good-Field E kinds k w is =
    leaf_built E kinds (leaf.Field k) w (Operand k) (term-Field k) (subst HasValue (sym is) tt) (ap (kind_width E.stands) is)
    (ap (operand_nodes E.counts.read 1) is ∙ sym (nodes-Leaf (leaf.Field k))) tt

pub good-Typed : (E : Frame) (kinds : List OperandKind) (k : ℕ) (st : Stands) → IsRight E kinds k st → IsGood E kinds (F.Leaf (leaf.Typed k st)) st.width
good-Typed E kinds k st right =
    leaf_built E kinds (leaf.Typed k st) st.width (Operand k) (term-Typed k st) (subst HasValue (sym right.is) tt) (ap (kind_width E.stands) right.is ∙ right.width)
    (ap (operand_nodes E.counts.read 1) right.is ∙ right.read ∙ sym (nodes-Leaf (leaf.Typed k st))) right

pub good-FileAt : (E : Frame) (kinds : List OperandKind) (f k : ℕ) → IsIndex (slice_get E.machine.files f) (slice_get kinds k)
    → IsGood E kinds (F.Leaf (leaf.FileAt f k)) (file_width (slice_get E.machine.files f))
good-FileAt E kinds f k index =
    leaf_built E kinds (leaf.FileAt f k) (file_width (slice_get E.machine.files f)) (FileAt f k) (term-FileAt f k) index refl (sym (nodes-Leaf (leaf.FileAt f k))) tt

pub good-Pc : (E : Frame) (kinds : List OperandKind) → IsGood E kinds (F.Leaf leaf.Pc) 32
good-Pc E kinds = leaf_built E kinds leaf.Pc 32 Pc term-Pc tt refl (sym (nodes-Leaf leaf.Pc)) tt

pub good-Next : (E : Frame) (kinds : List OperandKind) → IsGood E kinds (F.Leaf leaf.Next) 32
good-Next E kinds = leaf_built E kinds leaf.Next 32 Next term-Next tt refl (sym (nodes-Leaf leaf.Next)) tt

-- ---- parts with parts

pub good-Load : (E : Frame) (kinds : List OperandKind) (n : ℕ) (a : Formula) → IsGood E kinds a 32 → is_size n ≡ true → IsGood E kinds (F.Load n a) (8 * n)
good-Load E kinds n a g size =
    built E kinds (F.Load n a) (8 * n) (Load n (term a)) (Formula-F.Load n a) (term-Load n a) (out-Load n a) (g.sound, g.width, size) refl
    (ap (λ k. 1 + k) g.nodes ∙ sym (nodes-Load n a)) tt

pub good-Un : (E : Frame) (kinds : List OperandKind) (op : Un) (a : Formula) (w : ℕ) → IsGood E kinds a w → IsGood E kinds (F.Un op a) w
good-Un E kinds op a w g =
    built E kinds (F.Un op a) w (Unary op (term a)) (Formula-F.Un op a) (term-Un op a) (out-Un op a) g.sound g.width
    (ap (λ k. 1 + k) g.nodes ∙ sym (nodes-Un op a)) tt

pub good-Bin : (E : Frame) (kinds : List OperandKind) (op : BinOp) (a b : Formula) (w : ℕ) → IsGood E kinds a w → IsGood E kinds b w → IsGood E kinds (F.Bin op a b) (result_width op w)
good-Bin E kinds op a b w g h =
    built E kinds (F.Bin op a b) (result_width op w) (Binary op (term a) (term b)) (Formula-F.Bin op a b) (term-Bin op a b) (out-Bin op a b)
    (g.sound, h.sound, h.width ∙ sym g.width) (ap (result_width op) g.width)
    (ap (λ k. 1 + k + tnodes E.counts kinds (term b)) g.nodes ∙ ap (λ k. 1 + nodes a + k) h.nodes ∙ sym (nodes-Bin op a b)) tt

pub good-Slice : (E : Frame) (kinds : List OperandKind) (a : Formula) (lo hi w : ℕ) → IsGood E kinds a w → lo ≤ hi → hi < w → IsGood E kinds (F.Slice a lo hi) (hi + 1 - lo)
good-Slice E kinds a lo hi w g ordered below =
    built E kinds (F.Slice a lo hi) (hi + 1 - lo) (Slice (term a) lo hi) (Formula-F.Slice a lo hi) (term-Slice a lo hi) (out-Slice a lo hi)
    (g.sound, ordered, subst (λ v. hi < v) (sym g.width) below) refl (ap (λ k. 1 + k) g.nodes ∙ sym (nodes-Slice a lo hi)) tt

pub good-Zext : (E : Frame) (kinds : List OperandKind) (w v : ℕ) (a : Formula) → IsGood E kinds a v → v ≤ w → w ≤ 64 → IsGood E kinds (F.Zext w a) w
good-Zext E kinds w v a g wider few =
    built E kinds (F.Zext w a) w (Zext w (term a)) (Formula-F.Zext w a) (term-Zext w a) (out-Zext w a)
    (g.sound, subst (λ u. u ≤ w) (sym g.width) wider, few) refl (ap (λ k. 1 + k) g.nodes ∙ sym (nodes-Zext w a)) tt

pub good-Sext : (E : Frame) (kinds : List OperandKind) (w v : ℕ) (a : Formula) → IsGood E kinds a v → v ≤ w → w ≤ 64 → IsGood E kinds (F.Sext w a) w
good-Sext E kinds w v a g wider few =
    built E kinds (F.Sext w a) w (Sext w (term a)) (Formula-F.Sext w a) (term-Sext w a) (out-Sext w a)
    (g.sound, subst (λ u. u ≤ w) (sym g.width) wider, few) refl (ap (λ k. 1 + k) g.nodes ∙ sym (nodes-Sext w a)) tt

pub good-If : (E : Frame) (kinds : List OperandKind) (c a b : Formula) (w : ℕ) → IsGood E kinds c 1 → IsGood E kinds a w → IsGood E kinds b w → IsGood E kinds (F.If c a b) w
good-If E kinds c a b w g h i =
    built E kinds (F.If c a b) w (Choice (term c) (term a) (term b)) (Formula-F.If c a b) (term-If c a b) (out-If c a b)
    (g.sound, h.sound, i.sound, g.width, i.width ∙ sym h.width) h.width
    (ap (λ k. 1 + k + tnodes E.counts kinds (term a) + tnodes E.counts kinds (term b)) g.nodes ∙ ap (λ k. 1 + nodes c + k + tnodes E.counts kinds (term b)) h.nodes
    ∙ ap (λ k. 1 + nodes c + nodes a + k) i.nodes ∙ sym (nodes-If c a b)) tt
