use Rattle.std.proofs.Common.{refl, sym, ap, ◌∙◌, arith, ◌-◌, ◌/◌, ◌++◌, drop, length-set}
use Rattle.std.specs.Prelude.{slice_set}
use Rattle.c_text.specs.Words.{hex_digits}
use Rattle.c_text.proofs.Hex.{hex_step, hex_end}
use Rattle.c_text.proofs.pieces.hex_of.Goals as goal

pub loop-place-init : goal.loop-place-init
loop-place-init c = record { room = refl; within = omega arith; digits = refl }

pub loop-place-preserved : goal.loop-place-preserved
loop-place-preserved c =
    let place = c.loop-place.place in
    record {
      room = length-set c.loop-place.digits (place - 1) c.digit.result ∙ c.loop-place.invariant.room;
      within = omega arith;
      digits = c.loop-place.invariant.digits ∙ hex_step c.loop-place.left place c.loop-place.digits (omega arith) (omega arith) ∙ ap (λ d. hex_digits (place - 1) (c.loop-place.left / 16) ++ drop (place - 1) (slice_set c.loop-place.digits (place - 1) d)) (sym c.digit.ensures);
    }

pub returns : goal.returns
returns c = hex_end c.args.address c.loop-place.left c.loop-place.place c.loop-place.digits c.loop-place-test.false c.loop-place.invariant.digits
