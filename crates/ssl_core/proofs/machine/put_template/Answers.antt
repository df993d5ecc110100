use Rattle.std.proofs.Common.{◌<◌, ◌≤◌, length, arith}
use Rattle.ssl_core.proofs.FormLemmas.{put_within, put_past}
use Rattle.ssl_core.proofs.machine.put_template.Goals as goal

pub returns-then-constructor-len : goal.returns-then-constructor-len
returns-then-constructor-len c =
    let within : c.args.constructor < length c.args.forms.now.items = omega arith in
    put_within c.args.forms.now.items c.args.constructor c.args.template c.index_mut.result.now _ within c.index_mut.ensures.value

pub returns-else-constructor-len : goal.returns-else-constructor-len
returns-else-constructor-len c =
    let past : length c.args.forms.now.items ≤ c.args.constructor = omega arith in
    put_past c.args.forms.now.items c.args.constructor c.args.template past
