use Rattle.std.proofs.Common.{◌≡◌, ◌∙◌, List, Option, Some, ap}
use Rattle.std.specs.Prelude.{slice_get}
use Rattle.lockstep.specs.Runs.{Goes}
use Rattle.rtl_core.specs.declared.point.Point.{Point}
use Rattle.c_lang.specs.declared.tree.CBlock.{CBlock}
use Rattle.c_lang.specs.declared.tree.Program.{Program}
use Rattle.c_lang.specs.State.{State, Place, At, to_place}
use Rattle.c_lang.specs.Step.{given, go_to, block_of, blocks_in}
use Rattle.c_eval.specs.Plain.{state_of, place_of}
use Rattle.c_eval.proofs.ends.go_to.Goals as goal

goes_to : (p : Program) (s new : State) (place : Place) (blocks : List CBlock) (b : CBlock) (to : Point) → blocks ≡ blocks_in (slice_get p.functions s.top.function) →
    Some b ≡ block_of blocks to → place ≡ At b.stmts b.end → new ≡ to_place s place → Goes new ≡ go_to p s to
unfolding go_to
goes_to p s new place blocks b to same found stands e =
    ap Goes (e ∙ ap (to_place s) stands)
    ∙ ap (λ (o : Option CBlock). given p s o (λ b. Goes (to_place s (At b.stmts b.end)))) (found ∙ ap (λ bs. block_of bs to) same)

pub returns-in_ok-place-in-Some : goal.returns-in_ok-place-in-Some
returns-in_ok-place-in-Some c = λ m.
    goes_to c.args.program.now (state_of c.args.state.now m) (state_of c.move_to.new.state m) (place_of c.in_ok-place-in-Some.place) c.blocks_in.result.now c.in-Some.block.now c.args.to.now
    c.blocks_in.ensures c.in-Some.ensures c.in_ok-place-in-Some.ensures (c.move_to.ensures m)
