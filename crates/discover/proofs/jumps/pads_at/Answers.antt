use Rattle.std.proofs.Common.{◌≡◌, ◌∙◌, ap, refl}
use Rattle.std.proofs.lemmas.Result.{IfOk-weaker}
use Rattle.std.specs.List.{flat_map}
use Rattle.discover.specs.Parts.{pads_in, ArePadsOf}
use Rattle.discover.proofs.Lists.{ascending_of}
use Rattle.discover.proofs.jumps.pads_at.Goals as goal

pub returns : goal.returns
returns g c =
    let code = g.P.Program.code c.args.program.now in
    IfOk-weaker c.pads_of.result (λ v. v.items ≡ flat_map (pads_in code) c.deref.result.now) (λ v. ArePadsOf code c.args.backs.now v.items) (λ v e. record {
      returns = c.in_ok-returns.returns.items;
      ascending = ascending_of c.args.backs.now c.args.backs.now c.in_ok-returns.returns.items refl c.in_ok-returns.ensures.ascend c.in_ok-returns.ensures.only c.in_ok-returns.ensures.whole;
      is = e ∙ ap (flat_map (pads_in code)) c.deref.ensures.value;
    }) c.pads_of.ensures
