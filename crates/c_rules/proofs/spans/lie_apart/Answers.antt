use Rattle.std.proofs.Common.{map, sym, ap, ◌∙◌, subst}
use Rattle.std.specs.List.{All}
use Rattle.std.proofs.lemmas.List.Sorted.{All-permutation}
use Rattle.c_rules.specs.Spans.{EndsBelow, are_apart, range}
use Rattle.c_rules.proofs.Spread.{sorted_apart}
use Rattle.c_rules.proofs.spans.lie_apart.Goals as goal

pub are_apart-requires : goal.are_apart-requires
are_apart-requires c = subst (All EndsBelow) (sym c.deref.ensures.value) (All-permutation EndsBelow c.args.spans.items c.in_order.result.items c.in_order.ensures.moved c.requires)

pub returns : goal.returns
returns c = c.are_apart.ensures ∙ ap (λ ss. are_apart 0 (map range ss)) c.deref.ensures.value ∙ sorted_apart c.args.spans.items c.in_order.result.items c.in_order.ensures.moved c.in_order.ensures.rising
