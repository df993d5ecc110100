use Rattle.std.proofs.Common.{◌∙◌, map}
use Rattle.discover.specs.declared.place.Place.{Place}
use Rattle.discover.proofs.Lists.{exactly_given}
use Rattle.discover.proofs.outline.distinct_points.Goals as goal

pub returns-clause-exactly : goal.returns-clause-exactly
returns-clause-exactly c =
    exactly_given (λ s. s.keys) (map (λ (p : Place). p.point) c.args.places.now) c.deref.result.now c.ascending_set.result (c.deref.ensures.value ∙ c.in_ok-all.ensures) c.ascending_set.ensures.only c.ascending_set.ensures.whole
