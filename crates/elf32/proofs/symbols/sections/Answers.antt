use Rattle.std.proofs.Common.{◌+◌, ◌*◌}
use Rattle.elf32.specs.Symbols.{section_from}
use Rattle.elf32.proofs.Rows.{row_more}
use Rattle.elf32.proofs.symbols.sections.Goals as goal

pub loop-i-preserved : goal.loop-i-preserved
loop-i-preserved c =
    row_more (λ i. section_from c.args.order c.args.file.now (c.word-start.result + 40 * i)) c.loop-i.i _ _ c.section_from.result c.loop-i.invariant c.in_ok-push.ensures.items c.section_from.ensures
