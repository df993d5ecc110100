use Rattle.std.proofs.Common.{◌∙◌, arith, sym}
use Rattle.c_scan.proofs.Longest.{nothing_in_front, point_in_front, pair_in_front}
use Rattle.c_scan.proofs.front.sign.Goals as goal
use Rattle.c_scan.proofs.front.sign.Goals.{else-bytes-ge2-via-then-bytes-ge2+else-is_pair, else-bytes-ge2-via-else-bytes-ge2}

pub returns-then-is_pair-clause-longest : goal.returns-then-is_pair-clause-longest
returns-then-is_pair-clause-longest c =
    c.found_sign.ensures.found ∙ pair_in_front c.args.bytes.now c.requires.letter c.requires.digit c.if-bytes-ge2.true (sym c.is_pair.ensures ∙ c.if-is_pair.true)

pub returns-then-is_point-clause-longest : goal.returns-then-is_point-clause-longest
returns-then-is_point-clause-longest c =
    c.found_sign-then-is_point.ensures.found
    ∙ point_in_front c.args.bytes.now c.requires.first c.requires.letter c.requires.digit
    (elim c.else-bytes-ge2.branch [ else-bytes-ge2-via-then-bytes-ge2+else-is_pair w ↦ λ l. sym w.is_pair.ensures ∙ w.if-is_pair.false | else-bytes-ge2-via-else-bytes-ge2 w ↦ λ l. absurd (omega arith) ])
    (sym c.is_point.ensures ∙ c.if-is_point.true)

pub returns-clause-longest : goal.returns-clause-longest
returns-clause-longest c =
    nothing_in_front c.args.bytes.now c.requires.first c.requires.letter c.requires.digit
    (elim c.else-bytes-ge2.branch [ else-bytes-ge2-via-then-bytes-ge2+else-is_pair w ↦ λ l. sym w.is_pair.ensures ∙ w.if-is_pair.false | else-bytes-ge2-via-else-bytes-ge2 w ↦ λ l. absurd (omega arith) ])
    (sym c.is_point.ensures ∙ c.if-is_point.false)
