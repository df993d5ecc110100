-- What is put into a template has at most twice its nodes, and at most as many leaves as it has nodes.
use Rattle.std.proofs.Common.{◌≡◌, ℕ, zero, suc, ◌+◌, ◌*◌, ◌≤◌, ◌==◌, ◌&&◌, Bool, true, false, if◌then◌else◌, Option, Some, None, List, [], ◌∷◌, slice_get, unwrap_or, refl, sym, ap, ◌∙◌, subst, arith}
use Rattle.std.specs.Prelude.{slice_index}
use Rattle.rtl_core.specs.declared.encodings.OperandKind.{OperandKind}
use Rattle.rtl_core.specs.declared.expr.Expr.{Expr}
use Rattle.rtl_core.specs.declared.expr.Expr.TheVariants as E
use Rattle.rtl_core.specs.declared.machine.CellPart.{CellPart}
use Rattle.rtl_core.specs.declared.machine.Machine.{Machine}
use Rattle.rtl_core.specs.declared.template.TExpr.{TExpr}
use Rattle.rtl_core.specs.declared.template.TPlace.{TPlace}
use Rattle.rtl_core.specs.Grounding.{Place, Whole, Bits, Bytes, Argument, Number, Value, At, Site, place_value, argument_value, argument_place, argument_at, part_place, file_place, ground_expr, ground_place}
use Rattle.rtl_core.specs.TemplateNodes.{Counts, operand_nodes, nodes as tnodes, read_nodes, assigned_nodes}
use Rattle.rtl_core.specs.TemplateTerms.{tterm_of}
use Rattle.rtl_core.specs.Terms.{Term, Const, Cell, Load, Unary, Binary, Slice, Zext, Sext, Choice, term_of}
use Rattle.rtl_core.proofs.GroundLaws.{ground-Const, ground-Cell, ground-Load, ground-Un, ground-Bin, ground-Slice, ground-Zext, ground-Sext, ground-If, ground-Operand, ground-FileAt, ground-Pc, ground-Next}
use Rattle.rtl_core.proofs.InductTExpr.{induct-TExpr}
use Rattle.rtl_core.proofs.TemplateTermLaws.{tterm-Const, tterm-Cell, tterm-Load, tterm-Un, tterm-Bin, tterm-Slice, tterm-Zext, tterm-Sext, tterm-If, tterm-Operand, tterm-FileAt, tterm-Pc, tterm-Next}
use Rattle.rtl_core.proofs.TermLaws.{term-Const, term-Cell, term-Load, term-Un, term-Bin, term-Slice, term-Zext, term-Sext, term-If}
use Rattle.c_lower.specs.Code.{nodes, leaves}
use Rattle.c_lower.proofs.Bounds.{leaf}

-- an expression of at most twice so many nodes, and so many leaves
pub record IsSmall (e : Expr) (n : ℕ) : Type 0 where
  pub nodes : nodes (term_of e) ≤ 2 * n
  pub leaves : leaves (term_of e) ≤ n

small_by : (e : Expr) (t : Term) (n k : ℕ) → term_of e ≡ t → k ≡ n → nodes t ≤ 2 * n → leaves t ≤ n → IsSmall e k
small_by e t n k is same h g =
    record {
      nodes = subst (λ x. nodes x ≤ 2 * k) (sym is) (omega arith);
      leaves = subst (λ x. leaves x ≤ k) (sym is) (omega arith);
    }

pub small_more : (e : Expr) (n k : ℕ) → n ≤ k → IsSmall e n → IsSmall e k
small_more e n k le s = let a = s.nodes in let b = s.leaves in record { nodes = omega arith; leaves = omega arith }

-- the address of a place that is assigned
abbrev pub IsSmallTarget : Place → ℕ → Type 0
IsSmallTarget (Whole c) n = Unit {0}
IsSmallTarget (Bits c lo hi) n = Unit {0}
IsSmallTarget (Bytes k a) n = IsSmall a n

pub target_more : (p : Place) (n k : ℕ) → n ≤ k → IsSmallTarget p n → IsSmallTarget p k
target_more (Whole c) n k le s = tt
target_more (Bits c lo hi) n k le s = tt
target_more (Bytes b a) n k le s = small_more a n k le s

-- a place, as a value and as what is assigned
pub record IsSmallPlace (p : Place) (read assigned : ℕ) : Type 0 where
  pub value : IsSmall (place_value p) read
  pub target : IsSmallTarget p assigned

small_whole : (c n : ℕ) → 1 ≤ n → IsSmall (E.Cell c) n
small_whole c n le = small_by (E.Cell c) (Cell c) n n (term-Cell c) refl (omega arith) (omega arith)

small_bits : (c lo hi n : ℕ) → 1 ≤ n → IsSmall (E.Slice (E.Cell c) lo hi) n
small_bits c lo hi n le =
    small_by (E.Slice (E.Cell c) lo hi) (Slice (Cell c) lo hi) n n
    (term-Slice (E.Cell c) lo hi ∙ ap (λ t. Slice t lo hi) (term-Cell c)) refl (omega arith) (omega arith)

small_bytes : (b : ℕ) (a : Expr) (n : ℕ) → IsSmall a n → IsSmall (E.Load b a) (1 + n)
small_bytes b a n s =
    let x = s.nodes in let y = s.leaves in
    small_by (E.Load b a) (Load b (term_of a)) (1 + n) (1 + n) (term-Load b a) refl (omega arith) (omega arith)

-- a part of a cell
small_part : (m : Machine) (part : CellPart) (n : ℕ) → 1 ≤ n → IsSmallPlace (part_place m part) n 0
small_part m part n le = by ((part.lo == 0) && (part.hi + 1 == slice_index m.widths part.cell))
  where
    by : (t : Bool) → IsSmallPlace (if t then Whole part.cell else Bits part.cell part.lo part.hi) n 0
    by true = record { value = small_whole part.cell n le; target = tt }
    by false = record { value = small_bits part.cell part.lo part.hi n le; target = tt }

-- what an operand of a kind stands for
pub record IsSmallArgument (counts : Counts) (kind : Option OperandKind) (a : Argument) : Type 0 where
  pub read : IsSmall (argument_value a) (operand_nodes counts.read 1 kind)
  pub assigned : IsSmallTarget (argument_place a) (operand_nodes counts.assigned 0 kind)

pub small_number : (counts : Counts) (w n : ℕ) (kind : Option OperandKind) → operand_nodes counts.read 1 kind ≡ 1
    → IsSmallArgument counts kind (Number w n)
small_number counts w n kind one =
    record {
      read = small_by (E.Const w n) (Const w n) 1 (operand_nodes counts.read 1 kind) (term-Const w n) one
          (omega arith) (omega arith);
      assigned = tt;
    }

-- the operands of some kinds, in order
abbrev pub AreSmall : Counts → List OperandKind → List Argument → Type 0
AreSmall counts [] [] = Unit {0}
AreSmall counts (kind ∷ kinds) (a ∷ arguments) = IsSmallArgument counts (Some kind) a × AreSmall counts kinds arguments
AreSmall counts _ _ = ⊥

small_at : (counts : Counts) (kinds : List OperandKind) (arguments : List Argument) → AreSmall counts kinds arguments
    → (k : ℕ) → IsSmallArgument counts (slice_get kinds k) (unwrap_or (slice_get arguments k) (Number 1 0))
small_at counts [] [] s k = small_number counts 1 0 None refl
small_at counts [] (a ∷ arguments) s k = absurd s
small_at counts (kind ∷ kinds) [] s k = absurd s
small_at counts (kind ∷ kinds) (a ∷ arguments) s zero = s.0
small_at counts (kind ∷ kinds) (a ∷ arguments) s (suc k) = small_at counts kinds arguments s.1 k

-- ---- templates
module _ (m : Machine) (counts : Counts) (kinds : List OperandKind) (site : Site)
    (small : AreSmall counts kinds site.arguments) where
  abbrev Small : TExpr → Type 0
  Small e = IsSmall (ground_expr m site e) (tnodes counts kinds (tterm_of e))

  pub expr_small : (e : TExpr) → IsSmall (ground_expr m site e) (tnodes counts kinds (tterm_of e))
  expr_small = induct-TExpr Small (record {
    on_const =
        λ w n. small_by _ (Const w n) 1 _ (ap term_of (ground-Const m site w n) ∙ term-Const w n)
        (ap (tnodes counts kinds) (tterm-Const w n)) (omega arith) (omega arith);
    on_cell =
        λ c. small_by _ (Cell c) 1 _ (ap term_of (ground-Cell m site c) ∙ term-Cell c)
        (ap (tnodes counts kinds) (tterm-Cell c)) (omega arith) (omega arith);
    on_load = λ n a s. let x = s.nodes in let y = s.leaves in
        small_by _ (Load n (term_of (ground_expr m site a))) (1 + tnodes counts kinds (tterm_of a)) _
        (ap term_of (ground-Load m site n a) ∙ term-Load n (ground_expr m site a))
        (ap (tnodes counts kinds) (tterm-Load n a)) (omega arith) (omega arith);
    on_un = λ op a s. let x = s.nodes in let y = s.leaves in
        small_by _ (Unary op (term_of (ground_expr m site a))) (1 + tnodes counts kinds (tterm_of a)) _
        (ap term_of (ground-Un m site op a) ∙ term-Un op (ground_expr m site a))
        (ap (tnodes counts kinds) (tterm-Un op a)) (omega arith) (omega arith);
    on_bin = λ op a b s r. let x = s.nodes in let y = s.leaves in let z = r.nodes in let w = r.leaves in
        small_by _ (Binary op (term_of (ground_expr m site a)) (term_of (ground_expr m site b)))
        (1 + tnodes counts kinds (tterm_of a) + tnodes counts kinds (tterm_of b)) _
        (ap term_of (ground-Bin m site op a b) ∙ term-Bin op (ground_expr m site a) (ground_expr m site b))
        (ap (tnodes counts kinds) (tterm-Bin op a b)) (omega arith) (omega arith);
    on_slice = λ a lo hi s. let x = s.nodes in let y = s.leaves in
        small_by _ (Slice (term_of (ground_expr m site a)) lo hi) (1 + tnodes counts kinds (tterm_of a)) _
        (ap term_of (ground-Slice m site a lo hi) ∙ term-Slice (ground_expr m site a) lo hi)
        (ap (tnodes counts kinds) (tterm-Slice a lo hi)) (omega arith) (omega arith);
    on_zext = λ w a s. let x = s.nodes in let y = s.leaves in
        small_by _ (Zext w (term_of (ground_expr m site a))) (1 + tnodes counts kinds (tterm_of a)) _
        (ap term_of (ground-Zext m site w a) ∙ term-Zext w (ground_expr m site a))
        (ap (tnodes counts kinds) (tterm-Zext w a)) (omega arith) (omega arith);
    on_sext = λ w a s. let x = s.nodes in let y = s.leaves in
        small_by _ (Sext w (term_of (ground_expr m site a))) (1 + tnodes counts kinds (tterm_of a)) _
        (ap term_of (ground-Sext m site w a) ∙ term-Sext w (ground_expr m site a))
        (ap (tnodes counts kinds) (tterm-Sext w a)) (omega arith) (omega arith);
    on_if =
        λ c a b s r q. let x = s.nodes in let y = s.leaves in let z = r.nodes in let w = r.leaves in let u = q.nodes in
        let v = q.leaves in
        small_by _ (Choice (term_of (ground_expr m site c)) (term_of (ground_expr m site a))
        (term_of (ground_expr m site b)))
        (1 + tnodes counts kinds (tterm_of c) + tnodes counts kinds (tterm_of a) + tnodes counts kinds
        (tterm_of b)) _
        (ap term_of (ground-If m site c a b)
        ∙ term-If (ground_expr m site c) (ground_expr m site a) (ground_expr m site b))
        (ap (tnodes counts kinds) (tterm-If c a b)) (omega arith) (omega arith);
    on_operand =
        λ k. let s = small_at counts kinds site.arguments small k in let r = s.read in let x = r.nodes in
        let y = r.leaves in
        small_by _ (term_of (argument_value (argument_at site k))) (operand_nodes counts.read 1 (slice_get kinds k)) _
        (ap term_of (ground-Operand m site k)) (ap (tnodes counts kinds) (tterm-Operand k)) x y;
    on_file = λ f k. let s = small_part m _ 1 (omega arith) in let r = s.value in let x = r.nodes in let y = r.leaves in
        small_by _ (term_of (place_value (file_place m site f k))) 1 _ (ap term_of (ground-FileAt m site f k))
        (ap (tnodes counts kinds) (tterm-FileAt f k)) x y;
    on_pc =
        small_by _ (Const 32 site.pc) 1 _ (ap term_of (ground-Pc m site) ∙ term-Const 32 site.pc)
        (ap (tnodes counts kinds) tterm-Pc) (omega arith) (omega arith);
    on_next =
        small_by _ (Const 32 site.next) 1 _ (ap term_of (ground-Next m site) ∙ term-Const 32 site.next)
        (ap (tnodes counts kinds) tterm-Next) (omega arith) (omega arith);
  })

  pub place_small : (p : TPlace)
      → IsSmallPlace (ground_place m site p) (read_nodes counts kinds p) (assigned_nodes counts kinds p)
  place_small (TPlace.Cell c) = record { value = small_whole c 1 (omega arith); target = tt }
  place_small (TPlace.Slice c lo hi) = record { value = small_bits c lo hi 2 (omega arith); target = tt }
  place_small (TPlace.Memory n a) =
      record {
        value = small_bytes n (ground_expr m site a) (tnodes counts kinds (tterm_of a)) (expr_small a);
        target = expr_small a;
      }
  place_small (TPlace.Operand k) = by (argument_at site k) (small_at counts kinds site.arguments small k)
    where
      by : (a : Argument) → IsSmallArgument counts (slice_get kinds k) a
          → IsSmallPlace (argument_place a) (operand_nodes counts.read 1 (slice_get kinds k))
          (operand_nodes counts.assigned 0 (slice_get kinds k))
      by (Number w n) s = record { value = small_whole 0 _ (one s.read); target = tt }
        where
          one : IsSmall (E.Const w n) (operand_nodes counts.read 1 (slice_get kinds k))
              → 1 ≤ operand_nodes counts.read 1 (slice_get kinds k)
          one r =
              let y = subst (λ t. leaves t ≤ operand_nodes counts.read 1 (slice_get kinds k))
              (term-Const w n) r.leaves in y
      by (Value e) s = record { value = small_whole 0 _ (some s.read); target = tt }
        where
          some : IsSmall e (operand_nodes counts.read 1 (slice_get kinds k))
              → 1 ≤ operand_nodes counts.read 1 (slice_get kinds k)
          some r = omega (arith, r.leaves, leaf (term_of e))
      by (At p) s = record { value = s.read; target = s.assigned }
  place_small (TPlace.FileAt f k) = small_part m _ 1 (omega arith)
