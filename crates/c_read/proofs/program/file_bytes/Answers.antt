use Rattle.std.proofs.Common.{ap, ◌∙◌}
use Rattle.c_lang.specs.Items.{filled}
use Rattle.c_read.proofs.SegmentLaws.{none_held}
use Rattle.c_read.proofs.program.file_bytes.Goals as goal

pub returns-then-file-eq0-clause-array : goal.returns-then-file-eq0-clause-array
returns-then-file-eq0-clause-array c = ap filled c.new.ensures ∙ none_held c.args.array.now c.args.file c.requires c.if-file-eq0.true
