use Rattle.std.proofs.Common.{◌^◌, ◌≤◌, sym, arith}
use Rattle.std.proofs.Math.Pow.{pow_mono}
use Rattle.std.proofs.lemmas.Bool.{lt-ltb}
use Rattle.ssl_checks.proofs.ranges.fits.Goals as goal

pub returns-then-width-ge64 : goal.returns-then-width-ge64
returns-then-width-ge64 c =
    let few : 64 ≤ c.args.width = omega arith in
    let wide : 2 ^ 64 ≤ 2 ^ c.args.width = pow_mono few in sym (lt-ltb c.args.value (2 ^ c.args.width) (omega arith))
