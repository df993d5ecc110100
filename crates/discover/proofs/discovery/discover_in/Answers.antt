use Rattle.std.proofs.Common.{◌+◌, ◌≡◌, ◌∙◌, refl, sym, subst, ap, Ok, Err, Result}
use Rattle.std.specs.Prelude.{IfOk, OnOk, IfErr}
use Rattle.std.proofs.lemmas.Result.{IfOk-at_ok}
use Rattle.points.specs.declared.graph.Graph.{Graph}
use Rattle.points.specs.Exactly.{IsExactly}
use Rattle.points.specs.Graphs.{IsGraph}
use Rattle.points.specs.Bodies.{Code}
use Rattle.discover.specs.declared.discovery.DiscoverFault.TheVariants.{NoMemory, TooLarge}
use Rattle.discover.specs.Places.{InBody, IsTooLarge}
use Rattle.discover.proofs.Closed.{exactly_found, too_large, found_too_many}
use Rattle.discover.proofs.discovery.discover_in.Goals as goal

same_graph : {E F : Type 0} (P : Graph → Type 0) (out : Result Graph F) (graph : Result Graph E) → IfOk out (λ g. graph ≡ Ok g) → IfOk graph P → IfOk out P
same_graph P (Ok g) graph h i = IfOk-at_ok P h i
same_graph P (Err e) graph h i = tt

whatever : {T E P : Type 0} (r : Result T E) → P → OnOk r P
whatever (Ok x) p = p
whatever (Err e) p = tt

pub returns-in-Ok-clause-graph : goal.returns-in-Ok-clause-graph
returns-in-Ok-clause-graph g c =
    let roots = c.args.roots.now in
    let code = g.P.Program.code c.args.program.now in
    let first = g.P.Program.code c.new_search-search.result.program.now in
    let last = g.P.Program.code c.closure.new.steps.program.now in
    let here : first ≡ code = ap g.P.Program.code c.new_search-search.ensures.program in
    let there : last ≡ first = ap g.P.Program.code (c.closure.ensures.stays c.new_search-search.result refl) in
    let starts = c.deref.ensures.value ∙ c.in_ok-starts.ensures in
    let found = exactly_found first roots c.deref.result.now c.in-Ok.places.keys starts c.in-Ok.ensures.only c.in-Ok.ensures.whole in
    let keys = subst (IsExactly (InBody first roots)) (sym c.as_slice.ensures.keys) found in
    let made = c.graph_of.ensures roots (subst (λ (k : Code). IsExactly (InBody k roots) c.as_slice.result.now) (sym there) keys) in
    subst (λ (k : Code). IfOk c.or_fault.result (IsGraph k roots)) (there ∙ here) (same_graph (IsGraph last roots) c.or_fault.result c.graph_of.result c.or_fault.ensures.ok made)

pub returns-in-Err-TooMany-clause-too_large : goal.returns-in-Err-TooMany-clause-too_large
returns-in-Err-TooMany-clause-too_large g c = λ no.
    let roots = c.args.roots.now in
    let first = g.P.Program.code c.new_search-search.result.program.now in
    let here = ap g.P.Program.code c.new_search-search.ensures.program in
    let starts = c.deref.ensures.value ∙ c.in_ok-starts.ensures in
    (refl, subst (λ (k : Code). IsTooLarge k roots c.args.limit) here (too_large first roots c.deref.result.now c.args.limit starts (c.in-Err-TooMany.ensures.over c.in-Err-TooMany.field-0-is)))

pub returns-in-Ok-clause-enough : goal.returns-in-Ok-clause-enough
returns-in-Ok-clause-enough g c =
    let roots = c.args.roots.now in
    let first = g.P.Program.code c.new_search-search.result.program.now in
    let code = g.P.Program.code c.args.program.now in
    let here : first ≡ code = ap g.P.Program.code c.new_search-search.ensures.program in
    let starts = c.deref.ensures.value ∙ c.in_ok-starts.ensures in
    whatever c.or_fault.result (λ (m : IsTooLarge code roots c.args.limit). c.in-Ok.ensures.enough (found_too_many first roots c.deref.result.now c.args.limit starts (subst (λ (k : Code). IsTooLarge k roots c.args.limit) (sym here) m)))

no_other : {T E : Type 0} (r : Result T E) (n : E) (P : E → Type 0) → IfErr r (λ f. f ≡ n) → IfErr r (λ f. (f ≡ n → ⊥) → P f)
no_other (Ok x) n P h = tt
no_other (Err e) n P h = λ no. absurd (no h)

pub returns-in-Ok-clause-too_large : goal.returns-in-Ok-clause-too_large
returns-in-Ok-clause-too_large g c =
    no_other c.or_fault.result NoMemory (λ f. (f ≡ TooLarge (c.args.limit + 1)) × IsTooLarge (g.P.Program.code c.args.program.now) c.args.roots.now c.args.limit) c.or_fault.ensures.err
