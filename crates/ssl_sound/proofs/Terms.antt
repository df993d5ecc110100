-- Expanded expressions as terms of templates, one equation for each form.
use Rattle.std.proofs.Common.{◌≡◌, ℕ, rules, ap, ◌∙◌}
use Rattle.rtl_core.specs.declared.expr.Un.{Un}
use Rattle.rtl_core.specs.declared.expr.Bin.{Bin as BinOp}
use Rattle.rtl_core.specs.declared.machine.CellPart.{CellPart}
use Rattle.rtl_core.specs.declared.template.TExpr.TheVariants as T
use Rattle.rtl_core.specs.TemplateTerms.{TTerm, Const, Cell, Load, Unary, Binary, Slice, Zext, Sext, Choice, Operand, FileAt, Pc, Next, tterm_of}
use Rattle.rtl_core.proofs.TemplateTermLaws.{tterm-Const, tterm-Cell, tterm-Load, tterm-Un, tterm-Bin, tterm-Slice, tterm-Zext, tterm-Sext, tterm-If, tterm-Operand, tterm-FileAt, tterm-Pc, tterm-Next}
use Rattle.ssl_rules.specs.declared.formula.Leaf.{Leaf}
use Rattle.ssl_rules.specs.declared.formula.Leaf.TheVariants as leaf
use Rattle.ssl_rules.specs.declared.formula.Formula.{Formula, out-Formula, the_lemmas}
use Rattle.ssl_rules.specs.declared.formula.Formula.TheVariants as F
use Rattle.ssl_rules.specs.declared.formula.Formula.TheOpen.{Formula-F}
use Rattle.ssl_rules.specs.declared.tables.Stands.{Stands}
use Rattle.ssl_rules.specs.Formulas.{leaf_value, value}

-- the term of an expanded expression
abbrev pub term : Formula → TTerm
term f = tterm_of (value f)

value-Leaf : (l : Leaf) → value (F.Leaf l) ≡ leaf_value l
unfolding value
value-Leaf l = search (rules, the_lemmas)

value-Load : (n : ℕ) (a : Formula) → value (F.Load n a) ≡ T.Load n (value a)
unfolding value
value-Load n a = search (rules, the_lemmas)

value-Un : (op : Un) (a : Formula) → value (F.Un op a) ≡ T.Un op (value a)
unfolding value
value-Un op a = search (rules, the_lemmas)

value-Bin : (op : BinOp) (a b : Formula) → value (F.Bin op a b) ≡ T.Bin op (value a) (value b)
unfolding value
value-Bin op a b = search (rules, the_lemmas)

value-Slice : (a : Formula) (lo hi : ℕ) → value (F.Slice a lo hi) ≡ T.Slice (value a) lo hi
unfolding value
value-Slice a lo hi = search (rules, the_lemmas)

value-Zext : (w : ℕ) (a : Formula) → value (F.Zext w a) ≡ T.Zext w (value a)
unfolding value
value-Zext w a = search (rules, the_lemmas)

value-Sext : (w : ℕ) (a : Formula) → value (F.Sext w a) ≡ T.Sext w (value a)
unfolding value
value-Sext w a = search (rules, the_lemmas)

value-If : (c a b : Formula) → value (F.If c a b) ≡ T.If (value c) (value a) (value b)
unfolding value
value-If c a b = search (rules, the_lemmas)

pub term-Const : (w n : ℕ) → term (F.Leaf (leaf.Const w n)) ≡ Const w n
term-Const w n = ap tterm_of (value-Leaf (leaf.Const w n)) ∙ tterm-Const w n

pub term-Cell : (c : ℕ) → term (F.Leaf (leaf.Cell c)) ≡ Cell c
term-Cell c = ap tterm_of (value-Leaf (leaf.Cell c)) ∙ tterm-Cell c

pub term-Part : (p : CellPart) → term (F.Leaf (leaf.Part p)) ≡ Slice (Cell p.cell) p.lo p.hi
term-Part p = ap tterm_of (value-Leaf (leaf.Part p)) ∙ tterm-Slice (T.Cell p.cell) p.lo p.hi ∙ ap (λ t. Slice t p.lo p.hi) (tterm-Cell p.cell)

pub term-Field : (k : ℕ) → term (F.Leaf (leaf.Field k)) ≡ Operand k
term-Field k = ap tterm_of (value-Leaf (leaf.Field k)) ∙ tterm-Operand k

pub term-Typed : (k : ℕ) (st : Stands) → term (F.Leaf (leaf.Typed k st)) ≡ Operand k
term-Typed k st = ap tterm_of (value-Leaf (leaf.Typed k st)) ∙ tterm-Operand k

pub term-FileAt : (f k : ℕ) → term (F.Leaf (leaf.FileAt f k)) ≡ FileAt f k
term-FileAt f k = ap tterm_of (value-Leaf (leaf.FileAt f k)) ∙ tterm-FileAt f k

pub term-Pc : term (F.Leaf leaf.Pc) ≡ Pc
term-Pc = ap tterm_of (value-Leaf leaf.Pc) ∙ tterm-Pc

pub term-Next : term (F.Leaf leaf.Next) ≡ Next
term-Next = ap tterm_of (value-Leaf leaf.Next) ∙ tterm-Next

pub term-Load : (n : ℕ) (a : Formula) → term (F.Load n a) ≡ Load n (term a)
term-Load n a = ap tterm_of (value-Load n a) ∙ tterm-Load n (value a)

pub term-Un : (op : Un) (a : Formula) → term (F.Un op a) ≡ Unary op (term a)
term-Un op a = ap tterm_of (value-Un op a) ∙ tterm-Un op (value a)

pub term-Bin : (op : BinOp) (a b : Formula) → term (F.Bin op a b) ≡ Binary op (term a) (term b)
term-Bin op a b = ap tterm_of (value-Bin op a b) ∙ tterm-Bin op (value a) (value b)

pub term-Slice : (a : Formula) (lo hi : ℕ) → term (F.Slice a lo hi) ≡ Slice (term a) lo hi
term-Slice a lo hi = ap tterm_of (value-Slice a lo hi) ∙ tterm-Slice (value a) lo hi

pub term-Zext : (w : ℕ) (a : Formula) → term (F.Zext w a) ≡ Zext w (term a)
term-Zext w a = ap tterm_of (value-Zext w a) ∙ tterm-Zext w (value a)

pub term-Sext : (w : ℕ) (a : Formula) → term (F.Sext w a) ≡ Sext w (term a)
term-Sext w a = ap tterm_of (value-Sext w a) ∙ tterm-Sext w (value a)

pub term-If : (c a b : Formula) → term (F.If c a b) ≡ Choice (term c) (term a) (term b)
term-If c a b = ap tterm_of (value-If c a b) ∙ tterm-If (value c) (value a) (value b)

-- the forms themselves
pub out-Param : (k : ℕ) → out-Formula (F.Param k) ≡ Formula-F.Param k
out-Param k = search (rules, the_lemmas)

pub out-Leaf : (l : Leaf) → out-Formula (F.Leaf l) ≡ Formula-F.Leaf l
out-Leaf l = search (rules, the_lemmas)

pub out-Load : (n : ℕ) (a : Formula) → out-Formula (F.Load n a) ≡ Formula-F.Load n a
out-Load n a = search (rules, the_lemmas)

pub out-Un : (op : Un) (a : Formula) → out-Formula (F.Un op a) ≡ Formula-F.Un op a
out-Un op a = search (rules, the_lemmas)

pub out-Bin : (op : BinOp) (a b : Formula) → out-Formula (F.Bin op a b) ≡ Formula-F.Bin op a b
out-Bin op a b = search (rules, the_lemmas)

pub out-Slice : (a : Formula) (lo hi : ℕ) → out-Formula (F.Slice a lo hi) ≡ Formula-F.Slice a lo hi
out-Slice a lo hi = search (rules, the_lemmas)

pub out-Zext : (w : ℕ) (a : Formula) → out-Formula (F.Zext w a) ≡ Formula-F.Zext w a
out-Zext w a = search (rules, the_lemmas)

pub out-Sext : (w : ℕ) (a : Formula) → out-Formula (F.Sext w a) ≡ Formula-F.Sext w a
out-Sext w a = search (rules, the_lemmas)

pub out-If : (c a b : Formula) → out-Formula (F.If c a b) ≡ Formula-F.If c a b
out-If c a b = search (rules, the_lemmas)
