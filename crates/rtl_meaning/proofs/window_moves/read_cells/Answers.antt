use Rattle.std.proofs.Common.{◌≡◌, ◌+◌, [], ◌∷◌, length, ap, arith, append_assoc}
use Rattle.std.specs.Prelude.{slice_index}
use Rattle.std.proofs.lemmas.List.{length-append}
use Rattle.rtl_core.specs.Windows.{cells_from}
use Rattle.rtl_meaning.proofs.CellGroups.{cells_length, cells_more}
use Rattle.rtl_meaning.proofs.window_moves.read_cells.Goals as goal

pub push-requires : goal.push-requires
push-requires c =
    let n = cells_length c.args.first c.loop-i.i c.args.cells.now.values in
    let all = simp length-append at (ap length c.loop-i.invariant) in
    omega (arith, n, all, c.requires.room)

pub loop-i-preserved : goal.loop-i-preserved
loop-i-preserved c =
    let cells = c.args.cells.now.values in
    let more = cells_more c.args.first c.loop-i.i cells in
    let regroup = append_assoc c.args.into.now (cells_from c.args.first c.loop-i.i cells) (slice_index cells (c.args.first + c.loop-i.i) ∷ []) in
    cc (c.push.ensures, c.loop-i.invariant, c.as_slice-values.ensures, more, regroup)
