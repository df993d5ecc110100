use Rattle.std.proofs.Common.{[], subst, ◌∙◌}
use Rattle.params.specs.Leading.{IsOnTheWay, IsPut}
use Rattle.params.proofs.Searching.{gone-on, gone-nowhere}
use Rattle.params.proofs.search.Search.go_on.Goals as goal

pub loop-place-preserved-in-Continue-1 : goal.loop-place-preserved-in-Continue-1
loop-place-preserved-in-Continue-1 c = λ starts o.
    let put = subst (λ xs. IsPut xs c.loop-place.self.marks c.put_all.new.self.marks c.pop.new.self c.put_all.new.self.waiting) (c.as_slice.ensures ∙ c.in-Some-get.ensures.lookup.3.1 []) c.in_ok-put_all.ensures in
    gone-on c.args.rows.now starts c.loop-place.self.marks c.put_all.new.self.marks c.loop-place.self.waiting c.pop.new.self c.put_all.new.self.waiting c.in-Some.place c.in-Some.ensures (c.loop-place.invariant starts o) put

pub loop-place-preserved : goal.loop-place-preserved
loop-place-preserved c = λ starts o.
    gone-nowhere c.args.rows.now starts c.loop-place.self.marks c.loop-place.self.waiting c.pop.new.self c.in-Some.place c.in-Some.ensures c.in_default-get.ensures.lookup.3 (c.loop-place.invariant starts o)

pub returns : goal.returns
returns c = λ starts o. subst (IsOnTheWay c.args.rows.now starts c.loop-place.self.marks) c.in_default.ensures.0 (c.loop-place.invariant starts o)
