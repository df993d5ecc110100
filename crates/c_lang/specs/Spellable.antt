-- Which programs have a C text: each of their items has a form. In a form nothing nests too deep, and each number has
-- no more bits than its place leaves it.
use Rattle.std.specs.Prelude.{◌≡◌, ℕ, suc, ◌+◌, ◌^◌, ◌<◌, ◌≤◌, nat_lt, if◌then◌else◌, List, [], ◌∷◌, length, map, max}
use Rattle.std.specs.List.{All}
use Rattle.rtl_core.specs.declared.point.Point.{Point}
use Rattle.rtl_core.specs.declared.point.Slot.{Slot}
use Rattle.rtl_core.specs.declared.point.Slot.TheVariants.{Seq, To, Dyn, CallTo, CallDyn, Ret}
use Rattle.c_lang.specs.declared.tree.Case.{Case}
use Rattle.c_lang.specs.declared.tree.CSeg.{CSeg}
use Rattle.c_lang.specs.declared.tree.Function.{Function}
use Rattle.c_lang.specs.declared.tree.Var.{Var}
use Rattle.c_lang.specs.declared.tree.Var.TheVariants.{Cell, Temp, Result}
use Rattle.c_lang.specs.Items.{Array, Prototype, Item, Include, Machine, Segment, Table, Declared, Defined, Main, items, prototype_of, text_of}
use Rattle.c_lang.specs.declared.tree.CBlock.{CBlock}
use Rattle.c_lang.specs.declared.tree.CExpr.{CExpr, fold-CExpr}
use Rattle.c_lang.specs.declared.tree.CExpr.TheOpen.{CExpr-F}
use Rattle.c_lang.specs.declared.tree.End.{End}
use Rattle.c_lang.specs.declared.tree.End.TheVariants.{Goto, Branch, Switch, Return, Finish}
use Rattle.c_lang.specs.declared.tree.Program.{Program}
use Rattle.c_lang.specs.declared.tree.Stmt.{Stmt, fold-Stmt}
use Rattle.c_lang.specs.declared.tree.Stmt.TheOpen.{Stmt-F}

-- ---- nesting

-- the largest of the numbers, or 0 where there is none
abbrev pub largest : List ℕ → ℕ
largest [] = 0
largest (n ∷ ns) = max n (largest ns)

-- one more than the largest of the numbers, or 0 where there is none
abbrev pub above : List ℕ → ℕ
above [] = 0
above (n ∷ ns) = max (suc n) (above ns)

-- the nesting of an expression by the nestings of its parts
abbrev pub node_nesting : CExpr-F ℕ → ℕ
node_nesting (CExpr-F.Num n) = 0
node_nesting (CExpr-F.Of v) = 0
node_nesting (CExpr-F.Bin op a b) = above (a ∷ b ∷ [])
node_nesting (CExpr-F.Choose c a b) = above (c ∷ a ∷ b ∷ [])

-- how many others the innermost part of an expression stands inside
unfoldable pub nesting : CExpr → ℕ
nesting = fold-CExpr ℕ node_nesting

-- how many `if`s the innermost statement stands inside, by the same of the statements within
abbrev pub node_ifs : Stmt-F ℕ → ℕ
node_ifs (Stmt-F.If c inner) = above inner
node_ifs _ = 0

-- how many `if`s the innermost statement within a statement stands inside
unfoldable pub ifs : Stmt → ℕ
ifs = fold-Stmt ℕ node_ifs

-- the nesting of a statement's expressions, by the same of the statements within
abbrev pub node_deepest : Stmt-F ℕ → ℕ
node_deepest (Stmt-F.Set v e) = nesting e
node_deepest (Stmt-F.Load v n e) = nesting e
node_deepest (Stmt-F.Store n a e) = largest (nesting a ∷ nesting e ∷ [])
node_deepest (Stmt-F.TakeW v e) = nesting e
node_deepest (Stmt-F.PutW a e) = largest (nesting a ∷ nesting e ∷ [])
node_deepest (Stmt-F.Serve n x y z) = largest (nesting n ∷ nesting x ∷ nesting y ∷ nesting z ∷ [])
node_deepest (Stmt-F.Call f es) = largest (map nesting es)
node_deepest (Stmt-F.If c inner) = largest (nesting c ∷ inner)
node_deepest (Stmt-F.Stop n e) = nesting e

-- the largest nesting of an expression in a statement
unfoldable pub deepest : Stmt → ℕ
deepest = fold-Stmt ℕ node_deepest

-- the largest nesting of an expression in an end
abbrev pub end_deepest : End → ℕ
end_deepest (Goto to) = 0
end_deepest (Branch e to or_to) = nesting e
end_deepest (Switch e cases n value) = largest (nesting e ∷ nesting value ∷ [])
end_deepest Return = 0
end_deepest (Finish n e) = nesting e

-- ---- numbers

-- the sum of the numbers
abbrev pub total : List ℕ → ℕ
total [] = 0
total (n ∷ ns) = n + total ns

-- 1 for a number of more than so many bits, else 0
abbrev pub misfit : (bits n : ℕ) → ℕ
misfit bits n = if nat_lt n (2 ^ bits) then 0 else 1

-- whether the number in a variable's name has too many bits: 8 in a cell's and a result's, 16 in a temporary's
abbrev pub var_misfits : Var → ℕ
var_misfits (Cell i) = misfit 8 i
var_misfits (Temp k) = misfit 16 k
var_misfits (Result i) = misfit 8 i
var_misfits _ = 0

-- how many numbers of an expression have too many bits, by the same of its parts
abbrev pub node_misfits : CExpr-F ℕ → ℕ
node_misfits (CExpr-F.Num n) = misfit 64 n
node_misfits (CExpr-F.Of v) = var_misfits v
node_misfits (CExpr-F.Bin op a b) = a + b
node_misfits (CExpr-F.Choose c a b) = c + (a + b)

-- how many numbers of an expression have too many bits
unfoldable pub expr_misfits : CExpr → ℕ
expr_misfits = fold-CExpr ℕ node_misfits

-- how many numbers of a statement have too many bits, by the same of the statements within
abbrev pub node_stmt_misfits : Stmt-F ℕ → ℕ
node_stmt_misfits (Stmt-F.Set v e) = var_misfits v + expr_misfits e
node_stmt_misfits (Stmt-F.Load v n e) = var_misfits v + (misfit 64 n + expr_misfits e)
node_stmt_misfits (Stmt-F.Store n a e) = misfit 64 n + (expr_misfits a + expr_misfits e)
node_stmt_misfits (Stmt-F.TakeW v e) = var_misfits v + expr_misfits e
node_stmt_misfits (Stmt-F.PutW a e) = expr_misfits a + expr_misfits e
node_stmt_misfits (Stmt-F.Serve n x y z) = expr_misfits n + (expr_misfits x + (expr_misfits y + expr_misfits z))
node_stmt_misfits (Stmt-F.Call f es) = misfit 32 f + total (map expr_misfits es)
node_stmt_misfits (Stmt-F.If c inner) = expr_misfits c + total inner
node_stmt_misfits (Stmt-F.Stop n e) = misfit 64 n + expr_misfits e

-- how many numbers of a statement have too many bits
unfoldable pub stmt_misfits : Stmt → ℕ
stmt_misfits = fold-Stmt ℕ node_stmt_misfits

-- how many addresses in the end of a label have too many bits
abbrev pub slot_misfits : Slot → ℕ
slot_misfits Seq = 0
slot_misfits (To target) = misfit 32 target
slot_misfits (Dyn from) = misfit 32 from
slot_misfits (CallTo target back) = misfit 32 target + misfit 32 back
slot_misfits (CallDyn back) = misfit 32 back
slot_misfits Ret = 0

-- how many addresses in a label have too many bits
abbrev pub point_misfits : Point → ℕ
point_misfits p = misfit 32 p.pc + slot_misfits p.slot

-- how many numbers of a case have too many bits
abbrev pub case_misfits : Case → ℕ
case_misfits c = misfit 64 c.value + point_misfits c.to

-- how many numbers of an end have too many bits
abbrev pub end_misfits : End → ℕ
end_misfits (Goto to) = point_misfits to
end_misfits (Branch e to or_to) = expr_misfits e + (point_misfits to + point_misfits or_to)
end_misfits (Switch e cases n value) = expr_misfits e + (total (map case_misfits cases) + (misfit 64 n + expr_misfits value))
end_misfits Return = 0
end_misfits (Finish n e) = misfit 64 n + expr_misfits e

-- ---- forms

-- an expression stands inside at most 2,000 others, a statement inside at most 200 `if`s, and their numbers fit
pub record StmtHasForm (s : Stmt) : Type 0 where
  pub exprs : deepest s ≤ 2000
  pub nested : ifs s ≤ 200
  pub numbers : stmt_misfits s ≡ 0

-- the block's label and its statements have a form, and so has its end
pub record BlockHasForm (b : CBlock) : Type 0 where
  pub label : point_misfits b.label ≡ 0
  pub stmts : All StmtHasForm b.stmts
  pub end_exprs : end_deepest b.end ≤ 2000
  pub end_numbers : end_misfits b.end ≡ 0

-- the address has 32 bits, and the number of each cell has 8
pub record PrototypeHasForm (p : Prototype) : Type 0 where
  pub address : p.entry < 2 ^ 32
  pub cells : All (λ i. i < 2 ^ 8) p.params

-- its head, its declarations and its blocks have a form
pub record FunctionHasForm (f : Function) : Type 0 where
  pub head : PrototypeHasForm (prototype_of f)
  pub others : All (λ i. i < 2 ^ 8) f.cells
  pub temporaries : f.temps ≤ 2 ^ 16
  pub each : All BlockHasForm f.blocks

-- an array of numbers of so many bits, whatever its length is and whatever it declares
pub record ArrayHasForm (bits : ℕ) (a : Array) : Type 0 where
  pub length_fits : a.declared < 2 ^ 64
  pub each : All (λ n. n < 2 ^ bits) a.numbers

-- the item can be spelled
abbrev pub ItemHasForm : Item → Type 0
ItemHasForm Include = Unit {0}
ItemHasForm (Machine a) = ArrayHasForm 32 a
ItemHasForm (Segment k a) = (k < 2 ^ 64) × ArrayHasForm 8 a
ItemHasForm (Table a) = ArrayHasForm 32 a
ItemHasForm (Declared k p) = PrototypeHasForm p
ItemHasForm (Defined k f) = FunctionHasForm f
ItemHasForm (Main entry first) = (entry < 2 ^ 32) × All (λ n. n < 2 ^ 64) first

-- the program has a C text; as a number of `uq_segs` the file length of each of its segments has 32 bits
pub record HasSpelling (p : Program) : Type 0 where
  pub each : All ItemHasForm (items (text_of p))

-- ---- the parts of a program

-- the numbers of a segment fit: in `uq_segs` they have 32 bits, and its bytes have 8
pub record SegmentFits (s : CSeg) : Type 0 where
  pub base_fits : s.base < 2 ^ 32
  pub file_fits : length s.bytes < 2 ^ 32
  pub len_fits : s.len < 2 ^ 32
  pub bytes_fit : All (λ b. b < 2 ^ 8) s.bytes

-- the numbers of all segments fit, and there are not too many of them for one array
pub record SegmentsFit (ss : List CSeg) : Type 0 where
  pub few : length ss < 2 ^ 62
  pub each : All SegmentFits ss
