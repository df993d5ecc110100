use Rattle.std.proofs.Common.{subst, sym, nat_cmp}
use Rattle.std.specs.Prelude.{◌↔◌, IsTrue}
use Rattle.std.specs.List.{Contains}
use Rattle.graph_control.specs.Finding.{IsFound}
use Rattle.graph_control.proofs.Searched.{is_found}
use Rattle.graph_control.proofs.lookup.Lookup.is_entry.Goals as goal

pub returns : goal.returns
returns c = λ s.
    let found = subst (λ l. IsFound nat_cmp l c.args.pc c.find.result) c.deref.ensures.value c.find.ensures in
    subst (λ b. IsTrue b ↔ Contains c.args.self.now.entries.items c.args.pc) (sym c.is_some.ensures) (is_found nat_cmp c.args.self.now.entries.items c.args.pc c.find.result found s)
