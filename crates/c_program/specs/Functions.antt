-- The function of a procedure.
use Rattle.std.specs.Prelude.{ℕ, max, if◌then◌else◌, Bool, List, [], ◌∷◌, ◌++◌, map, slice_index_or, Option, Some, None}
use Rattle.rtl_core.specs.declared.point.Point.{Point}
use Rattle.rtl_core.specs.declared.point.Slot.TheVariants.{Seq}
use Rattle.rtl_core.specs.contracts.point.PointPartialEq.TheImpl as point_equality
use Rattle.points.specs.declared.block.Block.{Block}
use Rattle.points.specs.declared.block.Block.TheVariants.{Inst, Outside}
use Rattle.points.specs.declared.graph.Node.{Node}
use Rattle.points.specs.declared.graph.Proc.{Proc}
use Rattle.points.specs.Courses.{point}
use Rattle.c_lang.specs.declared.tree.CBlock.{CBlock}
use Rattle.c_lang.specs.declared.tree.Function.{Function}
use Rattle.c_lower.specs.Accounts.{lowered_need}
use Rattle.c_control.specs.Blocks.{block_c, further_c}
use Rattle.c_control.specs.Plans.{Plan}
use Rattle.c_program.specs.declared.functions.Part.{Part}
use Rattle.c_program.specs.declared.functions.Part.TheVariants.{Entry, Others, Further}

-- a node at which nothing stands
abbrev pub no_node : Node
no_node = record { point = point 0 Seq; block = Outside }

-- the nodes at some places
abbrev pub nodes_at : List Node → List ℕ → List Node
nodes_at nodes places = map (λ k. slice_index_or nodes k no_node) places

-- a point is that of a procedure's entry
abbrev pub is_entry : (p : ℕ) → Point → Bool
is_entry p b = point_equality.eq-value.it b (point p Seq)

-- the one block, if there is one
abbrev pub block_if_any : Option CBlock → List CBlock
block_if_any None = []
block_if_any (Some b) = b ∷ []

-- the blocks of a point in a part of its procedure's function
abbrev pub point_part : Plan → (p : ℕ) → Part → Point → List CBlock
point_part plan p Entry b = if is_entry p b then block_c plan p b ∷ [] else []
point_part plan p Others b = if is_entry p b then [] else block_c plan p b ∷ []
point_part plan p Further b = block_if_any (further_c plan p b)

-- the blocks of some nodes in a part
abbrev pub part_of : Plan → (p : ℕ) → Part → List Node → List CBlock
part_of plan p part [] = []
part_of plan p part (n ∷ ns) = point_part plan p part n.point ++ part_of plan p part ns

-- the blocks of a procedure with such a body: that of its entry, those of the other points, and the further blocks
abbrev pub blocks_of : Plan → (p : ℕ) → List Node → List CBlock
blocks_of plan p body = (part_of plan p Entry body ++ part_of plan p Others body) ++ part_of plan p Further body

-- the temporaries that the statements of a block take
abbrev pub block_need : Block → ℕ
block_need (Inst inst kind) = lowered_need inst.transfers
block_need block = 4

-- the most that one of some nodes takes, at least the first four
abbrev pub most_need : List Node → ℕ
most_need [] = 4
most_need (n ∷ ns) = max (block_need n.block) (most_need ns)

-- the function of a procedure whose body is at these places
abbrev pub function_of : Plan → List Node → (p : ℕ) → List ℕ → Function
function_of plan nodes p places = record { entry = p; params = plan.refs p; cells = []; temps = most_need (nodes_at nodes places); blocks = blocks_of plan p (nodes_at nodes places) }

-- the functions of procedures
abbrev pub functions_of : Plan → List Node → List Proc → List Function
functions_of plan nodes procs = map (λ proc. function_of plan nodes proc.entry proc.body) procs
