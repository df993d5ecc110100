-- A C text as its items, and what a function's body mentions.
use Rattle.std.specs.Prelude.{ℕ, ◌+◌, List, [], ◌∷◌, ◌++◌, flat_map, length, map}
use Rattle.rtl_core.specs.declared.expr.Order.{Order}
use Rattle.rtl_core.specs.declared.expr.Order.TheVariants.{Little, Big}
use Rattle.rtl_core.specs.declared.point.Point.{Point}
use Rattle.rtl_core.specs.Arithmetic.{flag}
use Rattle.c_lang.specs.declared.tree.Var.{Var}
use Rattle.c_lang.specs.declared.tree.CExpr.{CExpr, fold-CExpr}
use Rattle.c_lang.specs.declared.tree.CExpr.TheOpen.{CExpr-F}
use Rattle.c_lang.specs.declared.tree.Stmt.{Stmt, fold-Stmt}
use Rattle.c_lang.specs.declared.tree.Stmt.TheOpen.{Stmt-F}
use Rattle.c_lang.specs.declared.tree.End.{End}
use Rattle.c_lang.specs.declared.tree.End.TheVariants.{Goto, Branch, Switch, Return, Finish}
use Rattle.c_lang.specs.declared.tree.CBlock.{CBlock}
use Rattle.c_lang.specs.declared.tree.CSeg.{CSeg}
use Rattle.c_lang.specs.declared.tree.Function.{Function}
use Rattle.c_lang.specs.declared.tree.Header.{Header}
use Rattle.c_lang.specs.declared.tree.Program.{Program}

-- ---- items

-- an array: its declared length and its numbers
pub record Array : Type 0 where
  pub declared : ℕ
  pub numbers : List ℕ

-- a function's address and its parameters behind `ra`
pub record Prototype : Type 0 where
  pub entry : ℕ
  pub params : List ℕ

-- a whole text: `uq_machine`, the arrays `uq_seg_K`, `uq_segs`, the prototypes, the functions, and the call
-- of the first function with its arguments behind `ra`
pub record Text : Type 0 where
  pub machine : Array
  pub segments : List Array
  pub table : Array
  pub prototypes : List Prototype
  pub functions : List Function
  pub entry : ℕ
  pub first : List ℕ

-- one item: the first line, the arrays, prototypes and functions, and the call of the first function; what there can be
-- several of stands with its place among its kind
pub data Item : Type 0 where
  Include : Item
  Machine : Array → Item
  Segment : (k : ℕ) → Array → Item
  Table : Array → Item
  Declared : (k : ℕ) → Prototype → Item
  Defined : (k : ℕ) → Function → Item
  Main : (entry : ℕ) (first : List ℕ) → Item

-- members with their places, counted from k on
abbrev pub numbered : {A : Type 0} → (ℕ → A → Item) → ℕ → List A → List Item
numbered item k [] = []
numbered item k (x ∷ xs) = item k x ∷ numbered item (k + 1) xs

-- the items of a text, in order
abbrev pub items : Text → List Item
items t =
    Include ∷ Machine t.machine
    ∷ (numbered Segment 0 t.segments ++ (Table t.table ∷ (numbered Declared 0 t.prototypes ++ (numbered Defined 0 t.functions ++ Main t.entry t.first ∷ []))))

-- ---- the text of a program

-- an array that declares its length
abbrev pub whole : List ℕ → Array
whole numbers = record { declared = length numbers; numbers = numbers }

-- one 0 where there is no number
abbrev pub or_zero : List ℕ → List ℕ
or_zero [] = 0 ∷ []
or_zero (n ∷ ns) = n ∷ ns

-- the array of numbers, which is `[1] = { 0 }` where there is none
abbrev pub filled : List ℕ → Array
filled numbers = whole (or_zero numbers)

-- the array of a segment's bytes
abbrev pub segment_array : CSeg → Array
segment_array s = filled s.bytes

-- 0 for little-endian, 1 for big-endian
abbrev pub order_number : Order → ℕ
order_number Little = 0
order_number Big = 1

-- the numbers of `uq_machine`
abbrev pub header_numbers : Header → List ℕ
header_numbers h =
    order_number h.order ∷ flag h.align ∷ h.heap_base ∷ h.heap_size ∷ h.stack_base ∷ h.stack_size ∷ h.exit ∷ h.read ∷ h.write ∷ h.brk ∷ h.fault
    ∷ h.descriptor ∷ h.unknown ∷ flag h.carry ∷ []

-- a segment's numbers in `uq_segs`: its base, whether it is written, its file length, its length
abbrev pub segment_numbers : CSeg → List ℕ
segment_numbers s = s.base ∷ flag s.write ∷ length s.bytes ∷ s.len ∷ []

-- the numbers of `uq_segs`
abbrev pub table_numbers : List CSeg → List ℕ
table_numbers ss = flat_map segment_numbers ss

abbrev pub prototype_of : Function → Prototype
prototype_of f = record { entry = f.entry; params = f.params }

-- the text that a program stands for
abbrev pub text_of : Program → Text
text_of p = record {
  machine = whole (header_numbers p.header);
  segments = map segment_array p.segments;
  table = filled (table_numbers p.segments);
  prototypes = map prototype_of p.functions;
  functions = p.functions;
  entry = p.entry;
  first = p.first;
}

-- ---- what a body mentions

-- a variable, a call with so many arguments, an access of so many bytes, or a label
pub data Mention : Type 0 where
  Name : Var → Mention
  Calling : (entry arguments : ℕ) → Mention
  Access : (size : ℕ) → Mention
  Label : Point → Mention

-- some mentions, one list behind another
abbrev pub together : List (List Mention) → List Mention
together [] = []
together (x ∷ xs) = x ++ together xs

abbrev node_names : CExpr-F (List Mention) → List Mention
node_names (CExpr-F.Num n) = []
node_names (CExpr-F.Of v) = Name v ∷ []
node_names (CExpr-F.Bin op a b) = a ++ b
node_names (CExpr-F.Choose c a b) = c ++ (a ++ b)

-- the variables of an expression
unfoldable pub names_in : CExpr → List Mention
names_in = fold-CExpr (List Mention) node_names

abbrev node_mentions : Stmt-F (List Mention) → List Mention
node_mentions (Stmt-F.Set v e) = Name v ∷ names_in e
node_mentions (Stmt-F.Load v n e) = Name v ∷ Access n ∷ names_in e
node_mentions (Stmt-F.Store n a e) = Access n ∷ (names_in a ++ names_in e)
node_mentions (Stmt-F.TakeW v e) = Name v ∷ names_in e
node_mentions (Stmt-F.PutW i e) = names_in i ++ names_in e
node_mentions (Stmt-F.Serve n x y z) = names_in n ++ (names_in x ++ (names_in y ++ names_in z))
node_mentions (Stmt-F.Call entry es) = Calling entry (length es) ∷ together (map names_in es)
node_mentions (Stmt-F.If e body) = names_in e ++ together body
node_mentions (Stmt-F.Stop k e) = names_in e

-- what a statement mentions, those inside it included
unfoldable pub mentions_in : Stmt → List Mention
mentions_in = fold-Stmt (List Mention) node_mentions

-- what an end mentions
abbrev pub end_mentions : End → List Mention
end_mentions (Goto to) = Label to ∷ []
end_mentions (Branch e first second) = names_in e ++ Label first ∷ Label second ∷ []
end_mentions (Switch e cases k other) = names_in e ++ (map (λ c. Label c.to) cases ++ names_in other)
end_mentions Return = []
end_mentions (Finish k e) = names_in e

-- what a block and a function mention
abbrev pub block_mentions : CBlock → List Mention
block_mentions b = together (map mentions_in b.stmts) ++ end_mentions b.end

abbrev pub mentions : Function → List Mention
mentions f = together (map block_mentions f.blocks)
