use Rattle.std.proofs.Common.{◌≡◌, ℕ, map, sym, ap, subst, ◌∙◌, IfOk}
use Rattle.std.specs.Option.{option_copied}
use Rattle.ssl_rules.specs.LineScope.{scope}
use Rattle.ssl_rules.specs.Names.{function_named}
use Rattle.ssl_rules.specs.Formulas.{expanded, nodes}
use Rattle.ssl_nodes.specs.Sums.{few, nodes_with}
use Rattle.ssl_nodes.proofs.CountLaws.{count-known_call, count-unknown_call}
use Rattle.ssl_nodes.proofs.expression.+count.Goals as goal

pub node_count-returns-in-Some-clause-exact : goal.node_count-returns-in-Some-clause-exact
node_count-returns-in-Some-clause-exact t c =
    let P : ℕ → Type 0 = λ v. IfOk c.call_count.result (λ n. n ≡ v) in
    subst P
    (ap (λ l. few (nodes_with (map (λ e. few (nodes (expanded (scope c.args.names.now) e))) l) c.in-Some.function.now.body)) c.as_slice-in-Some.ensures
    ∙ count-known_call (scope c.args.names.now) c.in-Call.name c.in-Call.args c.in-Some.function.now
    (ap (function_named c.args.names.now.tables.now) (sym c.as_slice-in-Call.ensures) ∙ sym c.function.ensures ∙ ap option_copied c.in-Some.is)
    ∙ ap (λ x. few (nodes (expanded (scope c.args.names.now) x))) (sym c.in-Call.is)) c.call_count.ensures.exact

pub node_count-returns-in-None-clause-exact : goal.node_count-returns-in-None-clause-exact
node_count-returns-in-None-clause-exact t c =
    count-unknown_call (scope c.args.names.now) c.in-Call.name c.in-Call.args
    (ap (function_named c.args.names.now.tables.now) (sym c.as_slice-in-Call.ensures) ∙ sym c.function.ensures ∙ ap option_copied c.in-None.is)
    ∙ ap (λ x. few (nodes (expanded (scope c.args.names.now) x))) (sym c.in-Call.is)
