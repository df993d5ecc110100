use Rattle.std.proofs.Common.{◌≡◌, None, sym, ap, ◌∙◌}
use Rattle.sled_rules.specs.Known.{with_type}
use Rattle.sled_rules.specs.Meanings.{is_given}
use Rattle.sled_rules.proofs.LineLaws.{few_operands, fine_constructor, fresh_behind_type}
use Rattle.sled_rules.proofs.lines.constructor_line.Goals as goal

pub coded-requires : goal.coded-requires
coded-requires c =
    few_operands c.args.known.now c.args.name.now c.args.ops.now c.args.type_name.now
    (fine_constructor c.args.known.now c.args.line c.args.name.now c.args.ops.now c.args.type_name.now c.args.pattern.now (sym c.in_ok-fault.ensures ∙ c.in_default.is))

pub add_constructor-requires-clause-fresh : goal.add_constructor-requires-clause-fresh
add_constructor-requires-clause-fresh c =
    let fine =
    fine_constructor c.args.known.now c.args.line c.args.name.now c.args.ops.now c.args.type_name.now c.args.pattern.now (sym c.in_ok-fault.ensures ∙ c.in_default.is) in
    ap (λ k. is_given k.names c.in_ok-coded.coded.name) c.in_ok-give_type.ensures
    ∙ ap (λ x. is_given (with_type c.args.type_name.now c.args.known.now).names x.name) c.in_ok-coded.ensures.value
    ∙ fresh_behind_type c.args.known.now c.args.name.now c.args.type_name.now fine.fresh
