use Rattle.std.proofs.Common.{◌≡◌, ℕ, List, ◌∙◌, subst}
use Rattle.std.specs.Prelude.{Result, Ok, Err, IfOk, IfErr, OnOk}
use Rattle.points.specs.declared.graph.Graph.{Graph}
use Rattle.points.specs.Bodies.{code_of, roots_of}
use Rattle.points.specs.Bundles.{setting_of}
use Rattle.points.specs.Graphs.{IsGraph}
use Rattle.jumptables.proofs.TheTable.{the_table}
use Rattle.discover.specs.Places.{IsTooLarge}
use Rattle.program_graph.specs.Described.{most_points}
use Rattle.program_graph.proofs.Carried.{few-procs, graph-of, not-over, fault-of}
use Rattle.program_graph.proofs.discovery.discover.Goals as goal

-- facts of what was found, and of an error
if-ok : {T E : Type 0} (r : Result T E) (P R : T → Type 0) → ((x : T) → P x → R x) → IfOk r P → IfOk r R
if-ok (Ok x) P R f p = f x p
if-ok (Err e) P R f p = tt

with-fact : {T E : Type 0} (r : Result T E) (P R : T → Type 0) (Q : Type 0) → ((x : T) → P x → Q → R x) → IfOk r P → OnOk r Q → IfOk r R
with-fact (Ok x) P R Q f p q = f x p q
with-fact (Err e) P R Q f p q = tt

on-ok : {T E : Type 0} (r : Result T E) (P R : Type 0) → (P → R) → OnOk r P → OnOk r R
on-ok (Ok x) P R f p = f p
on-ok (Err e) P R f p = tt

if-err : {T E : Type 0} (r : Result T E) (P R : E → Type 0) → ((e : E) → P e → R e) → IfErr r P → IfErr r R
if-err (Ok x) P R f p = tt
if-err (Err e) P R f p = f e p

pub returns-clause-graph : goal.returns-clause-graph
returns-clause-graph c =
    let s = setting_of c.args.on.now in
    let roots : c.as_slice.result.now ≡ roots_of s c.args.entry c.args.symbols.now = c.as_slice.ensures.value ∙ c.in_ok-roots.ensures in
    if-ok c.discover_in.result _ _ (λ g h. graph-of s c.requires.lie c.args.entry c.args.symbols.now g (subst (λ rs. IsGraph (code_of s (the_table s)) rs g) roots h)) c.discover_in.ensures.graph

pub returns-clause-few : goal.returns-clause-few
returns-clause-few c =
    let s = setting_of c.args.on.now in
    with-fact c.discover_in.result _ _ _ (λ g h enough. few-procs (code_of s (the_table s)) c.as_slice.result.now g most_points h enough) c.discover_in.ensures.graph c.discover_in.ensures.enough

pub returns-clause-enough : goal.returns-clause-enough
returns-clause-enough c =
    let s = setting_of c.args.on.now in
    let roots : c.as_slice.result.now ≡ roots_of s c.args.entry c.args.symbols.now = c.as_slice.ensures.value ∙ c.in_ok-roots.ensures in
    on-ok c.discover_in.result _ _ (λ no. not-over s c.requires.lie c.args.entry c.args.symbols.now (subst (λ rs. IsTooLarge (code_of s (the_table s)) rs most_points → ⊥) roots no)) c.discover_in.ensures.enough

pub returns-clause-fault : goal.returns-clause-fault
returns-clause-fault c =
    let s = setting_of c.args.on.now in
    let roots : c.as_slice.result.now ≡ roots_of s c.args.entry c.args.symbols.now = c.as_slice.ensures.value ∙ c.in_ok-roots.ensures in
    if-err c.discover_in.result _ _
    (λ f h. fault-of s c.requires.lie c.args.entry c.args.symbols.now f
    (λ other. let r = h other in (r.0, subst (λ rs. IsTooLarge (code_of s (the_table s)) rs most_points) roots r.1))) c.discover_in.ensures.too_large
