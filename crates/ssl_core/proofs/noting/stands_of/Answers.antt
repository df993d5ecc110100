use Rattle.ssl_core.proofs.noting.stands_of.Goals as goal

pub returns-in-Some : goal.returns-in-Some
returns-in-Some c = (c.in-Some.ensures c.args.enc.now c.requires).same
