use Rattle.std.proofs.Common.{◌≡◌, ◌∙◌, [], ap}
use Rattle.points.specs.Courses.{jump_mode, annul_mode, nexts_of, once}
use Rattle.points.proofs.control.nexts_of.Goals as goal

pub returns : goal.returns
returns c =
    let m = c.args.machine.now in
    let p = c.args.point.now in
    let inst = c.args.inst.now in
    let added : c.add-4.new.nexts ≡ once (nexts_of m p inst c.args.kind c.jump_mode.result c.annul_mode.result) =
    c.in_ok-add-4.ensures _ (c.in_ok-add-3.ensures _ (c.in_ok-add-2.ensures _ (c.in_ok-add.ensures [] c.new-nexts.ensures))) in
    added
    ∙ ap (λ mode. once (nexts_of m p inst c.args.kind mode c.annul_mode.result)) (c.jump_mode.ensures ∙ ap jump_mode c.as_slice.ensures)
    ∙ ap (λ mode. once (nexts_of m p inst c.args.kind (jump_mode inst.transfers) mode)) (c.annul_mode.ensures ∙ ap annul_mode c.as_slice-2.ensures)
