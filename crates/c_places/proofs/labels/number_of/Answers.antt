use Rattle.c_places.proofs.LabelLaws.{block_told}
use Rattle.c_places.proofs.labels.number_of.Goals as goal

pub returns-clause-block : goal.returns-clause-block
returns-clause-block c = block_told c.args.blocks.now c.args.start c.args.to.now c.index_of.result c.index_of.ensures
