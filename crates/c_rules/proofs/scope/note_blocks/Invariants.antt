use Rattle.std.proofs.Common.{◌≡◌, map, take}
use Rattle.c_lang.specs.Items.{block_mentions, together}
use Rattle.c_rules.specs.Scopes.{noted}
use Rattle.c_rules.proofs.scope.note_blocks.Given as goal

abbrev pub invariant-loop-block : goal.invariant-loop-block
invariant-loop-block l = l.kept ≡ noted l.scope l.fn.kept (together (map block_mentions (take l.block-index l.blocks)))
