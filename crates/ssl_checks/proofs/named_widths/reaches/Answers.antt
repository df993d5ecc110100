use Rattle.std.proofs.Common.{◌^◌, ◌≤◌, sym, arith}
use Rattle.std.proofs.Math.Pow.{pow_mono}
use Rattle.std.proofs.lemmas.Bool.{lt-leb}
use Rattle.ssl_checks.proofs.named_widths.reaches.Goals as goal

pub returns-then-width-ge64 : goal.returns-then-width-ge64
returns-then-width-ge64 c =
    let few : 64 ≤ c.args.width = omega arith in
    let wide : 2 ^ 64 ≤ 2 ^ c.args.width = pow_mono few in sym (lt-leb (2 ^ c.args.width) c.args.count (omega arith))
