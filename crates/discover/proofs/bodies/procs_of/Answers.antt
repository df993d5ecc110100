use Rattle.std.proofs.Common.{◌≡◌, ◌++◌, ◌∷◌, [], ◌<◌, ◌+◌, ℕ, List, length, get_or, map, take, sym, ◌∙◌, ap, subst}
use Rattle.std.specs.List.{All}
use Rattle.std.proofs.lemmas.List.{map-append, take_more, get_or-map}
use Rattle.std.proofs.lemmas.List.Elements.{All-push}
use Rattle.points.specs.declared.graph.Proc.{Proc}
use Rattle.discover.specs.Parts.{entries_of, IsAscendingOf}
use Rattle.discover.proofs.bodies.procs_of.Goals as goal

entries_more : (ps new : List Proc) (p : Proc) (es : List ℕ) (k : ℕ) → k < length es → new ≡ ps ++ p ∷ [] → p.entry ≡ get_or es k 0 → entries_of ps ≡ take k es → entries_of new ≡ take (k + 1) es
entries_more ps new p es k lt e is h =
    ap entries_of e ∙ map-append (λ (q : Proc). q.entry) ps (p ∷ []) ∙ (λ i. h i ++ is i ∷ []) ∙ sym (take_more es k 0 lt)

bodies_more : (ps new : List Proc) (p : Proc) (es : List ℕ) (bs : List (List ℕ)) (b : List ℕ) (k : ℕ) (f : ℕ → List ℕ) → k < length es → new ≡ ps ++ p ∷ [] → p.entry ≡ get_or es k 0 → b ≡ get_or bs k b → IsAscendingOf b p.body → bs ≡ map f es → All (λ (q : Proc). IsAscendingOf (f q.entry) q.body) ps → All (λ (q : Proc). IsAscendingOf (f q.entry) q.body) new
bodies_more ps new p es bs b k f lt e is at r m all =
    let here : b ≡ f p.entry = at ∙ ap (λ l. get_or l k b) m ∙ get_or-map f es k 0 b lt ∙ ap f (sym is) in
    subst (All (λ (q : Proc). IsAscendingOf (f q.entry) q.body)) (sym e) (All-push (λ (q : Proc). IsAscendingOf (f q.entry) q.body) ps p all (subst (λ l. IsAscendingOf l p.body) here r))

pub loop-k-preserved : goal.loop-k-preserved
loop-k-preserved c = record {
  entries = entries_more c.loop-k.procs.items c.push.new.self.items c.in_ok-proc.proc c.args.entries.now c.loop-k.k c.loop-k-test.true c.in_ok-push.ensures.items c.in_ok-proc.ensures.entry c.loop-k.invariant.entries;
  bodies = λ f m. bodies_more c.loop-k.procs.items c.push.new.self.items c.in_ok-proc.proc c.args.entries.now c.args.bodies.now c.index-bodies-k.result c.loop-k.k f c.loop-k-test.true c.in_ok-push.ensures.items c.in_ok-proc.ensures.entry c.index-bodies-k.is (subst (λ l. IsAscendingOf l c.in_ok-proc.proc.body) c.as_slice.ensures c.in_ok-proc.ensures.body) m (c.loop-k.invariant.bodies f m);
}
