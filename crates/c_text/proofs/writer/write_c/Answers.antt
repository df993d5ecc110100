use Rattle.std.proofs.lemmas.Result.{on_ok_weaker, on_err_weaker}
use Rattle.c_text.proofs.Written.{any_err}
use Rattle.c_text.proofs.Whole.{whole_text, part_of_line, part_of_items}
use Rattle.c_text.proofs.writer.write_c.Goals as goal

pub returns-in_err-put_bytes-clause-part : goal.returns-in_err-put_bytes-clause-part
returns-in_err-put_bytes-clause-part g c = any_err _ (part_of_line c.args.program.now c.requires c.in_err-put_bytes.ensures.part)

pub returns-clause-text : goal.returns-clause-text
returns-clause-text g c = on_ok_weaker c.put_items.result (whole_text c.requires c.in_ok-put_bytes.ensures.took) c.put_items.ensures.wrote

pub returns-clause-part : goal.returns-clause-part
returns-clause-part g c = on_err_weaker c.put_items.result (part_of_items c.requires c.in_ok-put_bytes.ensures.took) c.put_items.ensures.broke
