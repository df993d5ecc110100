use Rattle.worked_files.proofs.ServiceLaws.{flag_cell}
use Rattle.worked_files.proofs.sysemu_tests.error_cell.Goals as goal

pub returns-then-carry : goal.returns-then-carry
returns-then-carry c = flag_cell
