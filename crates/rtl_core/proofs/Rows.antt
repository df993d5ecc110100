-- The worked values, computed.
use Rattle.std.proofs.Common.{refl}
use Rattle.rtl_core.specs.Contents.{held_at, first_fault, bytes_from}
use Rattle.rtl_core.specs.Access.{loaded}
use Rattle.rtl_core.specs.Arithmetic.{binary}
use Rattle.rtl_core.specs.Examples.{ShiftExamples, RoundingExamples, LeastExamples, OrderExamples, AlignmentExamples, FaultExamples}

pub shifts : ShiftExamples
unfolding binary
shifts = (refl, refl, refl)

pub rounding : RoundingExamples
unfolding binary
rounding = (refl, refl, refl, refl)

pub least : LeastExamples
unfolding binary
least = (refl, refl, refl, refl)

pub orders : OrderExamples
unfolding loaded first_fault held_at bytes_from
orders = (refl, refl)

pub alignment : AlignmentExamples
unfolding loaded first_fault held_at bytes_from
alignment = (refl, refl, refl)

pub faults : FaultExamples
unfolding loaded first_fault held_at bytes_from
faults = (refl, refl, refl, refl, refl)
