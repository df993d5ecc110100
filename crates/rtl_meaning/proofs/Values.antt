-- Parts of sound expressions, and what their values make of them.
use Rattle.std.proofs.Common.{◌≡◌, ℕ, suc, ◌+◌, ◌^◌, ◌<◌, ◌≤◌, ◌==◌, true, List, length, sym, ap, ◌∙◌, subst, arith}
use Rattle.std.specs.Prelude.{◌&&◌, if◌then◌else◌, slice_index, Ok, Err}
use Rattle.rtl_core.specs.declared.expr.Un.{Un}
use Rattle.rtl_core.specs.declared.expr.Bin.{Bin}
use Rattle.rtl_core.specs.declared.expr.Expr.{Expr}
use Rattle.rtl_core.specs.declared.expr.Expr.TheVariants as E
use Rattle.rtl_core.specs.declared.stop.Trap.{Trap}
use Rattle.rtl_core.specs.declared.machine.Machine.{Machine}
use Rattle.rtl_core.specs.Contents.{Contents}
use Rattle.rtl_core.specs.Access.{is_size, loaded}
use Rattle.rtl_core.specs.Arithmetic.{binary, unary, is_division, bits_of, sign_extended}
use Rattle.rtl_core.specs.Terms.{Term, Const, Cell, Load, Unary, Binary, Slice, Zext, Sext, Choice, term_of, width_of}
use Rattle.rtl_core.specs.Value.{and_then, choice, value_of}
use Rattle.rtl_core.specs.SoundTerms.{IsWidth, IsSoundTerm, Fit}
use Rattle.rtl_core.proofs.TermLaws.{term-Const, term-Cell, term-Load, term-Un, term-Bin, term-Slice, term-Zext, term-Sext, term-If, term_laws}
use Rattle.rtl_core.proofs.Fits.{FitsIn, is_width, value_fits}
use Rattle.rtl_meaning.specs.Sound.{IsSoundExpr}

-- how many nodes a term has
abbrev pub nodes : Term → ℕ
nodes (Const w n) = 1
nodes (Cell c) = 1
nodes (Load b a) = suc (nodes a)
nodes (Unary op a) = suc (nodes a)
nodes (Binary op a b) = suc (nodes a + nodes b)
nodes (Slice a lo hi) = suc (nodes a)
nodes (Zext w a) = suc (nodes a)
nodes (Sext w a) = suc (nodes a)
nodes (Choice c a b) = suc (nodes c + nodes a + nodes b)

-- the term that a sound expression is known to be
as_term : (ws : List ℕ) (e : Expr) (t : Term) → term_of e ≡ t → IsSoundExpr ws e → IsSoundTerm ws t
as_term ws e t is h = subst (IsSoundTerm ws) is h.term

pub sound_Load_a : (ws : List ℕ) (e : Expr) (b : ℕ) (a : Expr) → e ≡ E.Load b a → IsSoundExpr ws e → IsSoundExpr ws a
sound_Load_a ws e b a is h = record { cells = h.cells; term = (as_term ws e (Load b (term_of a)) (ap term_of is ∙ term-Load b a) h).0 }

pub sound_Un_a : (ws : List ℕ) (e : Expr) (op : Un) (a : Expr) → e ≡ E.Un op a → IsSoundExpr ws e → IsSoundExpr ws a
sound_Un_a ws e op a is h = record { cells = h.cells; term = as_term ws e (Unary op (term_of a)) (ap term_of is ∙ term-Un op a) h }

pub sound_Bin_a : (ws : List ℕ) (e : Expr) (op : Bin) (a b : Expr) → e ≡ E.Bin op a b → IsSoundExpr ws e → IsSoundExpr ws a
sound_Bin_a ws e op a b is h = record { cells = h.cells; term = (as_term ws e (Binary op (term_of a) (term_of b)) (ap term_of is ∙ term-Bin op a b) h).0 }

pub sound_Bin_b : (ws : List ℕ) (e : Expr) (op : Bin) (a b : Expr) → e ≡ E.Bin op a b → IsSoundExpr ws e → IsSoundExpr ws b
sound_Bin_b ws e op a b is h = record { cells = h.cells; term = (as_term ws e (Binary op (term_of a) (term_of b)) (ap term_of is ∙ term-Bin op a b) h).1 }

pub sound_Slice_a : (ws : List ℕ) (e a : Expr) (lo hi : ℕ) → e ≡ E.Slice a lo hi → IsSoundExpr ws e → IsSoundExpr ws a
sound_Slice_a ws e a lo hi is h = record { cells = h.cells; term = (as_term ws e (Slice (term_of a) lo hi) (ap term_of is ∙ term-Slice a lo hi) h).0 }

pub sound_Zext_a : (ws : List ℕ) (e : Expr) (w : ℕ) (a : Expr) → e ≡ E.Zext w a → IsSoundExpr ws e → IsSoundExpr ws a
sound_Zext_a ws e w a is h = record { cells = h.cells; term = (as_term ws e (Zext w (term_of a)) (ap term_of is ∙ term-Zext w a) h).0 }

pub sound_Sext_a : (ws : List ℕ) (e : Expr) (w : ℕ) (a : Expr) → e ≡ E.Sext w a → IsSoundExpr ws e → IsSoundExpr ws a
sound_Sext_a ws e w a is h = record { cells = h.cells; term = (as_term ws e (Sext w (term_of a)) (ap term_of is ∙ term-Sext w a) h).0 }

pub sound_If_c : (ws : List ℕ) (e c a b : Expr) → e ≡ E.If c a b → IsSoundExpr ws e → IsSoundExpr ws c
sound_If_c ws e c a b is h = record { cells = h.cells; term = (as_term ws e (Choice (term_of c) (term_of a) (term_of b)) (ap term_of is ∙ term-If c a b) h).0 }

pub sound_If_a : (ws : List ℕ) (e c a b : Expr) → e ≡ E.If c a b → IsSoundExpr ws e → IsSoundExpr ws a
sound_If_a ws e c a b is h = record { cells = h.cells; term = (as_term ws e (Choice (term_of c) (term_of a) (term_of b)) (ap term_of is ∙ term-If c a b) h).1 }

pub sound_If_b : (ws : List ℕ) (e c a b : Expr) → e ≡ E.If c a b → IsSoundExpr ws e → IsSoundExpr ws b
sound_If_b ws e c a b is h = record { cells = h.cells; term = (as_term ws e (Choice (term_of c) (term_of a) (term_of b)) (ap term_of is ∙ term-If c a b) h).2 }

-- a cell that is read is there
pub cell_there : (ws : List ℕ) (e : Expr) (c : ℕ) → e ≡ E.Cell c → IsSoundExpr ws e → c < length ws
cell_there ws e c is h = as_term ws e (Cell c) (ap term_of is ∙ term-Cell c) h

pub load_size : (ws : List ℕ) (e : Expr) (b : ℕ) (a : Expr) → e ≡ E.Load b a → IsSoundExpr ws e → is_size b ≡ true
load_size ws e b a is h = (as_term ws e (Load b (term_of a)) (ap term_of is ∙ term-Load b a) h).2

-- both operands have one width
pub one_width : (ws : List ℕ) (e : Expr) (op : Bin) (a b : Expr) → e ≡ E.Bin op a b → IsSoundExpr ws e → width_of ws (term_of b) ≡ width_of ws (term_of a)
one_width ws e op a b is h = (as_term ws e (Binary op (term_of a) (term_of b)) (ap term_of is ∙ term-Bin op a b) h).2

pub slice_within : (ws : List ℕ) (e a : Expr) (lo hi : ℕ) → e ≡ E.Slice a lo hi → IsSoundExpr ws e → (lo ≤ hi) × (hi < 64)
slice_within ws e a lo hi is h =
    let s = as_term ws e (Slice (term_of a) lo hi) (ap term_of is ∙ term-Slice a lo hi) h in
    let w = is_width ws h.cells (term_of a) s.0 in
    (s.1, omega arith)

pub sext_wider : (ws : List ℕ) (e : Expr) (w : ℕ) (a : Expr) → e ≡ E.Sext w a → IsSoundExpr ws e → (width_of ws (term_of a) ≤ w) × (w ≤ 64)
sext_wider ws e w a is h = let s = as_term ws e (Sext w (term_of a)) (ap term_of is ∙ term-Sext w a) h in (s.1, s.2)

-- a width is from 1 to 64
pub expression_width : (ws : List ℕ) (e : Expr) → IsSoundExpr ws e → IsWidth (width_of ws (term_of e))
expression_width ws e h = is_width ws h.cells (term_of e) h.term

-- a value fits its width
pub value_small : (m : Machine) (cells : List ℕ) (mem : Contents) (e : Expr) (x : ℕ) → Fit m cells → IsSoundExpr m.widths e → Ok x ≡ value_of m cells mem (term_of e) → x < 2 ^ width_of m.widths (term_of e)
value_small m cells mem e x fit h is = subst (FitsIn (width_of m.widths (term_of e))) (sym is) (value_fits m h.cells cells fit mem (term_of e) h.term)

module _ (m : Machine) (cells : List ℕ) (mem : Contents) (e : Expr) where
  pub value_Const : (w n : ℕ) → e ≡ E.Const w n → value_of m cells mem (term_of e) ≡ Ok n
  value_Const w n is = ap (λ x. value_of m cells mem (term_of x)) is ∙ ap (value_of m cells mem) (term-Const w n)

  pub value_Cell : (c : ℕ) → e ≡ E.Cell c → value_of m cells mem (term_of e) ≡ Ok (slice_index cells c)
  value_Cell c is = ap (λ x. value_of m cells mem (term_of x)) is ∙ ap (value_of m cells mem) (term-Cell c)

  pub value_Load : (b : ℕ) (a : Expr) → e ≡ E.Load b a → value_of m cells mem (term_of e) ≡ and_then (value_of m cells mem (term_of a)) (loaded m.order m.align mem b)
  value_Load b a is = ap (λ x. value_of m cells mem (term_of x)) is ∙ ap (value_of m cells mem) (term-Load b a)

  pub value_Un : (op : Un) (a : Expr) → e ≡ E.Un op a → value_of m cells mem (term_of e) ≡ and_then (value_of m cells mem (term_of a)) (λ x. Ok (unary op (width_of m.widths (term_of a)) x))
  value_Un op a is = ap (λ x. value_of m cells mem (term_of x)) is ∙ ap (value_of m cells mem) (term-Un op a)

  pub value_Bin : (op : Bin) (a b : Expr) → e ≡ E.Bin op a b → value_of m cells mem (term_of e) ≡
      and_then (value_of m cells mem (term_of a)) (λ x. and_then (value_of m cells mem (term_of b)) (λ y. if is_division op && (y == 0) then Err Trap.Divide else Ok (binary op (width_of m.widths (term_of a)) x y)))
  value_Bin op a b is = ap (λ x. value_of m cells mem (term_of x)) is ∙ ap (value_of m cells mem) (term-Bin op a b)

  pub value_Slice : (a : Expr) (lo hi : ℕ) → e ≡ E.Slice a lo hi → value_of m cells mem (term_of e) ≡ and_then (value_of m cells mem (term_of a)) (λ x. Ok (bits_of lo hi x))
  value_Slice a lo hi is = ap (λ x. value_of m cells mem (term_of x)) is ∙ ap (value_of m cells mem) (term-Slice a lo hi)

  pub value_Zext : (w : ℕ) (a : Expr) → e ≡ E.Zext w a → value_of m cells mem (term_of e) ≡ value_of m cells mem (term_of a)
  value_Zext w a is = ap (λ x. value_of m cells mem (term_of x)) is ∙ ap (value_of m cells mem) (term-Zext w a)

  pub value_Sext : (w : ℕ) (a : Expr) → e ≡ E.Sext w a → value_of m cells mem (term_of e) ≡ and_then (value_of m cells mem (term_of a)) (λ x. Ok (sign_extended (width_of m.widths (term_of a)) w x))
  value_Sext w a is = ap (λ x. value_of m cells mem (term_of x)) is ∙ ap (value_of m cells mem) (term-Sext w a)

  pub value_If : (c a b : Expr) → e ≡ E.If c a b → value_of m cells mem (term_of e) ≡
      and_then (value_of m cells mem (term_of c)) (λ n. and_then (value_of m cells mem (term_of a)) (λ x. and_then (value_of m cells mem (term_of b)) (λ y. Ok (choice n x y))))
  value_If c a b is = ap (λ x. value_of m cells mem (term_of x)) is ∙ ap (value_of m cells mem) (term-If c a b)

pub ruleset value_laws = (term_laws, sound_Load_a, sound_Un_a, sound_Bin_a, sound_Bin_b, sound_Slice_a, sound_Zext_a, sound_Sext_a, sound_If_c, sound_If_a, sound_If_b, cell_there, load_size, slice_within, sext_wider, expression_width, value_small, value_Const, value_Cell, value_Load, value_Un, value_Bin, value_Slice, value_Zext, value_Sext, value_If)
