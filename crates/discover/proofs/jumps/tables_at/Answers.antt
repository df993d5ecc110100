use Rattle.std.proofs.Common.{◌≡◌, ◌∙◌, ap, map}
use Rattle.std.proofs.lemmas.Result.{IfOk-weaker}
use Rattle.std.specs.List.{flat_map}
use Rattle.discover.specs.Parts.{jump_in, table_at, AreTablesOf}
use Rattle.discover.proofs.Lists.{ascending_of}
use Rattle.discover.proofs.jumps.tables_at.Goals as goal

pub returns : goal.returns
returns g c =
    let code = g.P.Program.code c.args.program.now in
    IfOk-weaker c.tables_of.result (λ v. v.items ≡ map (table_at code) c.deref-2.result.now) (λ v. AreTablesOf code c.args.nodes.now v.items) (λ v e. record {
      jumps = c.in_ok-jumps.jumps.items;
      ascending = ascending_of (flat_map jump_in c.args.nodes.now) c.deref.result.now c.in_ok-jumps.jumps.items (c.deref.ensures.value ∙ c.in_ok-all.ensures) c.in_ok-jumps.ensures.ascend c.in_ok-jumps.ensures.only c.in_ok-jumps.ensures.whole;
      is = e ∙ ap (map (table_at code)) c.deref-2.ensures.value;
    }) c.tables_of.ensures
