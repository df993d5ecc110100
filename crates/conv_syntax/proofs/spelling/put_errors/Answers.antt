use Rattle.std.proofs.lemmas.Result.{on_ok_weaker}
use Rattle.conv_syntax.proofs.Puts.{errors_put}
use Rattle.conv_syntax.proofs.spelling.put_errors.Goals as goal

pub returns : goal.returns
returns c =
    on_ok_weaker c.put_numbered-3.result
    (errors_put c.args.out.now c.put_numbered.new.out c.put_numbered-2.new.out c.put_numbered-3.new.out c.args.fault c.args.descriptor c.args.unknown c.in_ok-put_numbered.ensures c.in_ok-put_numbered-2.ensures)
    c.put_numbered-3.ensures
