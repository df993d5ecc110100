-- The blocks of a procedure in three rows: that of its entry, those of the other points, and the further blocks.
use Rattle.std.proofs.Common.{◌≡◌, ℕ, List, [], ◌∷◌, ◌++◌, refl, ap, ◌∙◌}
use Rattle.std.specs.Prelude.{if◌then◌else◌}
use Rattle.rtl_core.specs.declared.point.Point.{Point}
use Rattle.points.specs.declared.graph.Node.{Node}
use Rattle.c_lang.specs.declared.tree.CBlock.{CBlock}
use Rattle.c_control.specs.Blocks.{block_c, further_c}
use Rattle.c_control.specs.Plans.{Plan}
use Rattle.c_program.specs.Functions.{block_if_any, blocks_of, is_entry, part_of, point_part}

-- the blocks that one point has in each row
abbrev pub entry_at : Plan → ℕ → Point → List CBlock
entry_at plan p a = if is_entry p a then block_c plan p a ∷ [] else []

abbrev pub other_at : Plan → ℕ → Point → List CBlock
other_at plan p a = if is_entry p a then [] else block_c plan p a ∷ []

abbrev pub further_at : Plan → ℕ → Point → List CBlock
further_at plan p a = block_if_any (further_c plan p a)

-- a row of the blocks of some nodes
abbrev pub row : (Point → List CBlock) → List Node → List CBlock
row at [] = []
row at (n ∷ ns) = at n.point ++ row at ns

record Is (at of : Point → List CBlock) : Type 0 where
  is : (a : Point) → of a ≡ at a

part-row : (plan : Plan) (p : ℕ) (at : Point → List CBlock) (part : _) → Is at (point_part plan p part) → (ns : List Node) → part_of plan p part ns ≡ row at ns
part-row plan p at part same [] = refl
part-row plan p at part same (n ∷ ns) = ap (λ bs. bs ++ part_of plan p part ns) (same.is n.point) ∙ ap (λ bs. at n.point ++ bs) (part-row plan p at part same ns)

entry-is : (plan : Plan) (p : ℕ) → Is (entry_at plan p) (entry_at plan p)
entry-is plan p = record { is = λ a. refl }

other-is : (plan : Plan) (p : ℕ) → Is (other_at plan p) (other_at plan p)
other-is plan p = record { is = λ a. refl }

further-is : (plan : Plan) (p : ℕ) → Is (further_at plan p) (further_at plan p)
further-is plan p = record { is = λ a. refl }

pub split : (plan : Plan) (p : ℕ) (ns : List Node) → blocks_of plan p ns ≡ (row (entry_at plan p) ns ++ row (other_at plan p) ns) ++ row (further_at plan p) ns
split plan p ns = simp (part-row plan p (entry_at plan p), part-row plan p (other_at plan p), part-row plan p (further_at plan p), entry-is plan p, other-is plan p, further-is plan p)
