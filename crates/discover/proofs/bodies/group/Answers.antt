use Rattle.std.proofs.Common.{length, ◌≡◌, ℕ, ◌+◌, ◌<◌, List, take, get_or, sym, ◌∙◌, ap, nat_eq}
use Rattle.std.specs.List.{All, IsDistinct}
use Rattle.std.proofs.lemmas.List.{take_more}
use Rattle.rtl_core.specs.declared.point.Point.{Point}
use Rattle.discover.specs.declared.place.Place.{Place}
use Rattle.discover.specs.Parts.{bodies_of, with_place, IsListed}
use Rattle.discover.specs.Places.{start}
use Rattle.discover.proofs.Grown.{grown}
use Rattle.discover.proofs.bodies.group.Goals as goal

one_more : (points : List Point) (entries : List ℕ) (places : List Place) (i : ℕ) (d : Place) (old new : List (List ℕ)) → IsDistinct nat_eq entries → All (IsListed entries points) places → i < length places → old ≡ bodies_of points (take i places) entries → new ≡ with_place points entries (get_or places i d) old → new ≡ bodies_of points (take (i + 1) places) entries
one_more points entries places i d old new once listed lt e h =
    h ∙ ap (with_place points entries (get_or places i d)) e ∙ grown points (take i places) (get_or places i d) entries once (listed i d lt).entry ∙ ap (λ l. bodies_of points l entries) (sym (take_more places i d lt))

pub loop-place-preserved : goal.loop-place-preserved
loop-place-preserved c = one_more c.args.points.now.keys c.args.entries.now.keys c.args.places.now c.loop-place.place-index (start 0) c.loop-place.bodies.items c.put_place.new.bodies.items c.as_slice.ensures.unique c.requires.listed c.loop-place-test.true c.loop-place.invariant c.in_ok-put_place.ensures
