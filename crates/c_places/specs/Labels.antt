-- Labels as numbers of blocks.
use Rattle.std.specs.Prelude.{ℕ, ◌+◌, if◌then◌else◌, List, [], ◌∷◌, map, Option, Some, None}
use Rattle.rtl_core.specs.declared.point.Point.{Point}
use Rattle.c_lang.specs.declared.tree.CBlock.{CBlock}
use Rattle.c_lang.specs.declared.tree.End.{End}
use Rattle.c_lang.specs.declared.tree.End.TheVariants.{Goto, Branch, Switch, Return, Finish}
use Rattle.c_lang.specs.Step.{same_point}

-- the labels that an end can go to, in order
abbrev pub points_of : End → List Point
points_of (Goto to) = to ∷ []
points_of (Branch e first second) = first ∷ second ∷ []
points_of (Switch e cases k other) = map (λ c. c.to) cases
points_of Return = []
points_of (Finish k e) = []

-- the number, counted from k on, of the first block of a label
abbrev pub index_from : ℕ → List CBlock → Point → Option ℕ
index_from k [] to = None
index_from k (b ∷ bs) to = if same_point b.label to then Some k else index_from (k + 1) bs to

-- the numbers, counted from k on, of the blocks that labels lead to; none at a label that is not there
abbrev pub ways_from : ℕ → List CBlock → List Point → List (Option ℕ)
ways_from k blocks points = map (index_from k blocks) points
