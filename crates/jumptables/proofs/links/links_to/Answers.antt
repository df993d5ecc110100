use Rattle.std.proofs.Common.{◌≡◌, ◌-◌, Bool, None, sym, ap, subst, arith, lt-ltb}
use Rattle.std.specs.Prelude.{if◌then◌else◌, slice_index_or}
use Rattle.points.specs.Bundles.{setting_of}
use Rattle.jumptables.specs.Links.{FindsLink}
use Rattle.jumptables.proofs.Ways.{kept-before}
use Rattle.jumptables.proofs.links.links_to.Goals as goal

pub returns : goal.returns
returns c =
    let at = c.args.at in
    let links = c.loop-back.links in
    let far = c.farthest-back-end.ensures in
    let end = c.loop-back-test.false in
    let last = c.loop-back.auto.back-end in
    let count = c.loop-back.invariant.count in
    let most = far.most in
    record {
      each = λ pc lt near.
          let reach = far.all (at - pc) (omega arith) (omega (arith, near)) in
          let same : at - (at - pc) ≡ pc = omega (arith, lt) in
          let found = c.loop-back.invariant.each (at - pc) (omega (arith, reach, end)) in
          subst (FindsLink (setting_of c.args.on.now) at pc) (sym (ap (λ (b : Bool). if b then slice_index_or links (at - pc) None else None) (lt-ltb pc at lt)))
          (subst (λ q. FindsLink (setting_of c.args.on.now) at q (slice_index_or links (at - pc) None)) same found);
      near = λ pc link e. let kept = kept-before links at pc link e in let before = kept.0 in let there = kept.1 in (before, omega (arith, there, count, last, most));
    }
