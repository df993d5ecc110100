use Rattle.std.proofs.Common.{◌+◌, ◌-◌, ◌^◌, ◌<◌, subst, sym}
use Rattle.std.specs.Option.{IfSome}
use Rattle.rtl_core.proofs.Ranges.{with_bits_lt}
use Rattle.jumptables.proofs.partial_run.value_with_bits.Goals as goal

pub returns-then-known-clause-fits : goal.returns-then-known-clause-fits
returns-then-known-clause-fits c = λ w within fits.
    let a = c.args in
    let value = subst (λ o. IfSome o (λ v. v < 2 ^ (a.hi + 1 - a.lo))) c.in-Some.is c.requires.small in
    subst (λ n. n < 2 ^ w) (sym c.with_bits.ensures) (with_bits_lt a.lo a.hi w a.before c.in-Some.v c.requires.order within fits value)
