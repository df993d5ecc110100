-- When an expanded expression is good in a template: sound, of this width, and counted right.
use Rattle.std.proofs.Common.{◌≡◌, ℕ, suc, true, List, [], ◌∷◌, Some}
use Rattle.std.specs.Prelude.{slice_get}
use Rattle.rtl_core.specs.declared.encodings.OperandKind.{OperandKind}
use Rattle.rtl_core.specs.declared.encodings.OperandKind.TheVariants as kind
use Rattle.rtl_core.specs.declared.machine.Machine.{Machine}
use Rattle.rtl_core.specs.SoundTemplates.{IsPlaceType, IsSoundTTerm, twidth}
use Rattle.rtl_core.specs.TemplateNodes.{Counts, nodes as tnodes}
use Rattle.ssl_rules.specs.declared.formula.Leaf.{Leaf}
use Rattle.ssl_rules.specs.declared.formula.Leaf.TheVariants as leaf
use Rattle.ssl_rules.specs.declared.formula.Formula.{Formula, out-Formula}
use Rattle.ssl_rules.specs.declared.formula.Formula.TheOpen.{Formula-F}
use Rattle.ssl_rules.specs.declared.tables.Stands.{Stands}
use Rattle.ssl_rules.specs.declared.tables.Function.{Function}
use Rattle.ssl_rules.specs.Formulas.{nodes, put_in}
use Rattle.ssl_sound.proofs.Terms.{term}

-- the machine of all lines, the width of each type, and the most nodes of each type
pub record Frame : Type 0 where
  pub machine : Machine
  pub stands : ℕ → ℕ
  pub counts : Counts

-- what a typed operand stands for is what its type stands for in the end
pub record IsRight (E : Frame) (kinds : List OperandKind) (k : ℕ) (st : Stands) : Type 0 where
  pub type : ℕ
  pub is : slice_get kinds k ≡ Some (kind.Typed (suc type))
  pub width : E.stands (suc type) ≡ st.width
  pub read : E.counts.read (suc type) ≡ st.read
  pub assigned : E.counts.assigned (suc type) ≡ st.assigned
  pub place : st.place ≡ true → IsPlaceType E.machine (suc type)

abbrev pub IsTopLeaf : Frame → List OperandKind → Leaf → Type 0
IsTopLeaf E kinds (leaf.Typed k st) = IsRight E kinds k st
IsTopLeaf E kinds _ = Unit {0}

abbrev pub IsTop : Frame → List OperandKind → Formula-F Formula → Type 0
IsTop E kinds (Formula-F.Leaf l) = IsTopLeaf E kinds l
IsTop E kinds _ = Unit {0}

pub record IsGood (E : Frame) (kinds : List OperandKind) (f : Formula) (w : ℕ) : Type 0 where
  pub sound : IsSoundTTerm E.machine E.stands kinds (term f)
  pub width : twidth E.machine E.stands kinds (term f) ≡ w
  pub nodes : tnodes E.counts kinds (term f) ≡ nodes f
  pub top : IsTop E kinds (out-Formula f)

-- arguments of these widths
abbrev pub AreGood : Frame → List OperandKind → List Formula → List ℕ → Type 0
AreGood E kinds [] [] = Unit {0}
AreGood E kinds (a ∷ as_) (w ∷ ws) = IsGood E kinds a w × AreGood E kinds as_ ws
AreGood E kinds _ _ = ⊥

-- a call with good arguments is good
pub record IsGoodFunction (E : Frame) (f : Function) : Type 0 where
  pub call : (kinds : List OperandKind) (args : List Formula) → AreGood E kinds args f.params → IsGood E kinds (put_in args f.body) f.width
