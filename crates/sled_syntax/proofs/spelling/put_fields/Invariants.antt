use Rattle.std.proofs.Common.{◌≡◌, ◌++◌, take}
use Rattle.sled_syntax.specs.Lines.{fields_toks}
use Rattle.sled_syntax.proofs.spelling.put_fields.Given as goal

abbrev pub invariant-loop-field : goal.invariant-loop-field
invariant-loop-field l = l.out ≡ l.initial.out ++ fields_toks (take l.field-index l.fields)
