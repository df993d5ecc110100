use Rattle.worked_control.proofs.SmallTextRuns.{text_exits_with_three}
use Rattle.worked_control.proofs.small_text_exits.Goals as goal

pub returns : goal.returns
returns c = text_exits_with_three
