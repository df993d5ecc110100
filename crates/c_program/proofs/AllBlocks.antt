-- What holds of the block of each point of a body, and of each further block, holds of all blocks of the procedure's function.
use Rattle.std.proofs.Common.{ℕ, Bool, true, false, if◌then◌else◌, Option, Some, None, List, [], ◌∷◌, ◌++◌, All}
use Rattle.std.specs.Prelude.{IfSome}
use Rattle.std.proofs.lemmas.List.Elements.{All-nil, All-cons, All-head, All-tail, All-append}
use Rattle.points.specs.declared.graph.Node.{Node}
use Rattle.c_lang.specs.declared.tree.CBlock.{CBlock}
use Rattle.c_control.specs.Blocks.{block_c, further_c}
use Rattle.c_control.specs.Plans.{Plan}
use Rattle.c_program.specs.Functions.{block_if_any, blocks_of, is_entry, part_of, point_part}
use Rattle.c_program.specs.declared.functions.Part.{Part}
use Rattle.c_program.specs.declared.functions.Part.TheVariants.{Entry, Others, Further}

-- of the block of a node, and of its further block, if it has one
pub record HoldsAt (plan : Plan) (p : ℕ) (P : CBlock → Type 0) (n : Node) : Type 0 where
  pub block : P (block_c plan p n.point)
  pub further : IfSome (further_c plan p n.point) P

module _ (plan : Plan) (p : ℕ) (P : CBlock → Type 0) where
  if-any : (o : Option CBlock) → IfSome o P → All P (block_if_any o)
  if-any None h = All-nil P
  if-any (Some b) h = All-cons P b [] h (All-nil P)

  one-part : (part : Part) (n : Node) → HoldsAt plan p P n → All P (point_part plan p part n.point)
  one-part part n h = by part
    where
      one : All P (block_c plan p n.point ∷ [])
      one = All-cons P (block_c plan p n.point) [] h.block (All-nil P)

      if-entry : (b : Bool) → All P (if b then block_c plan p n.point ∷ [] else [])
      if-entry true = one
      if-entry false = All-nil P

      if-other : (b : Bool) → All P (if b then [] else block_c plan p n.point ∷ [])
      if-other true = All-nil P
      if-other false = one

      by : (part : Part) → All P (point_part plan p part n.point)
      by Entry = if-entry (is_entry p n.point)
      by Others = if-other (is_entry p n.point)
      by Further = if-any (further_c plan p n.point) h.further

  all-parts : (part : Part) (ns : List Node) → All (HoldsAt plan p P) ns → All P (part_of plan p part ns)
  all-parts part [] h = All-nil P
  all-parts part (n ∷ ns) h =
      All-append P (point_part plan p part n.point) (part_of plan p part ns) (one-part part n (All-head (HoldsAt plan p P) n ns h)) (all-parts part ns (All-tail (HoldsAt plan p P) n ns h))

  pub all-blocks : (ns : List Node) → All (HoldsAt plan p P) ns → All P (blocks_of plan p ns)
  all-blocks ns h =
      All-append P (part_of plan p Entry ns ++ part_of plan p Others ns) (part_of plan p Further ns)
      (All-append P (part_of plan p Entry ns) (part_of plan p Others ns) (all-parts Entry ns h) (all-parts Others ns h)) (all-parts Further ns h)
