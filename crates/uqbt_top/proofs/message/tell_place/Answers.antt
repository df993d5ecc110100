use Rattle.std.proofs.Common.{[], ◌∷◌, ◌++◌, subst}
use Rattle.std.specs.Prelude.{codes}
use Rattle.edge_io.specs.Output.{TookFront}
use Rattle.uqbt_top.proofs.message.tell_place.Goals as goal

pub returns : goal.returns
returns g c =
    subst (λ words. TookFront (g.M.Sink.output c.args.messages.now) (g.M.Sink.output c.tell_words.new.messages) (codes "uqbt: " ++ (words ++ 10 ∷ []))) c.difference.ensures c.tell_words.ensures
