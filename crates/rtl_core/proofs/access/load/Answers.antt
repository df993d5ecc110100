use Rattle.std.proofs.Common.{refl, sym, rules}
use Rattle.rtl_core.specs.Contents.{is_mapped}
use Rattle.rtl_core.proofs.AccessLaws.{accessed_below}
use Rattle.rtl_core.proofs.access.load.Goals as goal

pub overflow_cast-a : goal.overflow_cast-a
overflow_cast-a g c =
    let below = accessed_below c.args.align is_mapped (g.M.Memory.contents c.args.mem.now) c.args.bytes c.args.a refl c.requires.size (sym c.in-None.ensures) in
    search rules
