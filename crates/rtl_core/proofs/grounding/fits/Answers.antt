use Rattle.std.proofs.Common.{◌^◌, ◌≤◌, sym, arith}
use Rattle.std.proofs.Math.Pow.{pow_mono}
use Rattle.std.proofs.lemmas.Bool.{lt-ltb}
use Rattle.rtl_core.proofs.grounding.fits.Goals as goal

pub returns-then-bits-ge32 : goal.returns-then-bits-ge32
returns-then-bits-ge32 c =
    let few : 32 ≤ c.args.w = omega arith in
    let wide : 2 ^ 32 ≤ 2 ^ c.args.w = pow_mono few in sym (lt-ltb c.args.n (2 ^ c.args.w) (omega arith))
