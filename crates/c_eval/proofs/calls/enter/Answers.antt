use Rattle.std.proofs.Common.{◌≡◌, ◌<◌, ◌∙◌, ap, arith, length, map}
use Rattle.std.specs.Prelude.{reverse}
use Rattle.c_lang.specs.State.{Place, Frame}
use Rattle.c_lang.specs.Step.{no_vars, first_place}
use Rattle.c_eval.specs.Plain.{state_of, place_of, frame_of, shown}
use Rattle.c_eval.proofs.PlainLaws.{below_length}
use Rattle.c_eval.proofs.GoesLaws.{enter_goes}
use Rattle.c_eval.proofs.calls.enter.Goals as goal

pub returns : goal.returns
returns c = λ p m.
    let top : Place → Frame = λ q. record { function = c.args.index; place = q; vars = shown no_vars c.args.vars } in
    let same = ap top (c.in_ok-first.ensures ∙ ap first_place c.as_slice.ensures) in
    let count : length (map frame_of (reverse c.args.state.now.below)) ≡ length c.args.state.now.below = below_length c.args.state.now.below in
    let few : length (map frame_of (reverse c.args.state.now.below)) < 65536 = omega arith in
    enter_goes p (state_of c.args.state.now m) (state_of c.push_frame.new.state m) (record { index = c.args.index; function = c.args.f.now })
    (shown no_vars c.args.vars) (top (place_of c.in_ok-first.first)) few same (c.in_ok-push_frame.ensures m)
