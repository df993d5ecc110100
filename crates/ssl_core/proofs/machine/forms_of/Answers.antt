use Rattle.std.proofs.Common.{ap, ◌∙◌}
use Rattle.ssl_core.specs.Forms.{with_template}
use Rattle.ssl_core.specs.Shown.{made_list, made_of}
use Rattle.ssl_core.proofs.FormLemmas.{forms_more}
use Rattle.ssl_core.proofs.machine.forms_of.Goals as goal

pub loop-constructor-preserved : goal.loop-constructor-preserved
loop-constructor-preserved c =
    forms_more (made_list c.args.templates) c.args.constructors.now (made_list c.loop-constructor.rest) (made_list c.pop.new.self) (made_of c.in-Some.constructor c.in-Some.built)
    c.loop-constructor.forms.items c.put_template.new.forms.items c.loop-constructor.invariant c.in-Some.ensures
    (c.put_template.ensures ∙ ap (λ at. with_template c.loop-constructor.forms.items at c.in-Some.built.template) c.from.ensures)
