use Rattle.std.proofs.Common.{refl}
use Rattle.worked_files.proofs.ServiceLaws.{conventions_fit}
use Rattle.worked_files.proofs.sysemu_tests.conventions.Goals as goal

pub returns-clause-fits : goal.returns-clause-fits
returns-clause-fits c = λ m ws none forms.
    conventions_fit m _ _ ws none forms refl refl (record { number = refl; arg_x = refl; arg_y = refl; arg_z = refl; result = refl }) (c.error_cell.ensures m ws) refl c.new-calls.ensures c.new-returns.ensures c.new-pads.ensures
