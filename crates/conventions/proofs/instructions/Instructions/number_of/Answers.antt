use Rattle.std.proofs.Common.{sym, ap, ◌∙◌}
use Rattle.conventions.specs.Names.{instruction_of}
use Rattle.conventions.proofs.Tables.{found-shown}
use Rattle.conventions.proofs.instructions.Instructions.number_of.Goals as goal

pub returns : goal.returns
returns c =
    c.copied.ensures ∙ c.get.ensures.value ∙ sym (found-shown c.args.name.now c.self.inside.numbers.entries) ∙ ap (λ table. instruction_of table c.args.name.now) c.self.view_is
