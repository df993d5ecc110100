use Rattle.std.proofs.Common.{arith, ap, sym, ◌∙◌, ◌∷◌, ◌++◌, []}
use Rattle.c_text.specs.Tokens.{mark, plain}
use Rattle.c_lang.specs.Items.{segment_numbers}
use Rattle.c_text.specs.Expressions.{listed}
use Rattle.c_text.proofs.Loops.{wrote_next, broke_next, wrote_end}
use Rattle.c_text.proofs.Written.{wrote_nothing, wrote_as, broke_as, any_err}
use Rattle.c_text.proofs.items.put_front_rows.Goals as goal

pub loop-segment-init : goal.loop-segment-init
loop-segment-init g c = wrote_nothing

pub returns-in_err-put_numbers-clause-broke : goal.returns-in_err-put_numbers-clause-broke
returns-in_err-put_numbers-clause-broke g c = any_err _ (broke_next (λ s. listed (λ n. plain n ∷ []) (segment_numbers s) ++ mark "," ∷ []) c.args.segments.now c.loop-segment.segment-index c.segment-item.result (omega arith) c.loop-segment.invariant (broke_as (ap (λ ns. listed (λ n. plain n ∷ []) ns ++ mark "," ∷ []) (ap segment_numbers (sym c.segment-item.is) ∙ sym c.segment_numbers.ensures)) c.in_err-put_numbers.ensures.broke))

pub loop-segment-preserved : goal.loop-segment-preserved
loop-segment-preserved g c = wrote_next (λ s. listed (λ n. plain n ∷ []) (segment_numbers s) ++ mark "," ∷ []) c.args.segments.now c.loop-segment.segment-index c.segment-item.result (omega arith) c.loop-segment.invariant (wrote_as (ap (λ ns. listed (λ n. plain n ∷ []) ns ++ mark "," ∷ []) (ap segment_numbers (sym c.segment-item.is) ∙ sym c.segment_numbers.ensures)) c.in_ok-put_numbers.ensures.wrote)

pub returns-clause-wrote : goal.returns-clause-wrote
returns-clause-wrote g c = wrote_end (λ s. listed (λ n. plain n ∷ []) (segment_numbers s) ++ mark "," ∷ []) c.args.segments.now c.loop-segment.segment-index c.loop-segment-test.false c.loop-segment.invariant
