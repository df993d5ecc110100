use Rattle.std.proofs.Common.{take}
use Rattle.ssl_core.specs.Typing.{IsTypePut}
use Rattle.ssl_core.proofs.constructors.put_types.Given as goal

abbrev pub invariant-loop-constructor : goal.invariant-loop-constructor
invariant-loop-constructor l = IsTypePut l.fn.types l.types (take l.constructor-index l.constructors) l.kind
