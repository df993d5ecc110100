use Rattle.std.proofs.Common.{arith}
use Rattle.listing.specs.Words.{address_behind}
use Rattle.listing.proofs.Loops.{took_next, part_next, took_end}
use Rattle.c_text.proofs.Written.{took_nothing, any_err}
use Rattle.listing.proofs.words.put_addresses.Goals as goal

pub loop-address-init : goal.loop-address-init
loop-address-init g c = took_nothing

pub returns-in_err-put_address_behind-clause-part : goal.returns-in_err-put_address_behind-clause-part
returns-in_err-put_address_behind-clause-part g c = any_err _ (part_next address_behind c.args.addresses.now c.loop-address.address-index _ (omega arith) c.loop-address.invariant c.in_err-put_address_behind.ensures.part)

pub loop-address-preserved : goal.loop-address-preserved
loop-address-preserved g c = took_next address_behind c.args.addresses.now c.loop-address.address-index _ (omega arith) c.loop-address.invariant c.in_ok-put_address_behind.ensures.took

pub returns-clause-took : goal.returns-clause-took
returns-clause-took g c = took_end address_behind c.args.addresses.now c.loop-address.address-index c.loop-address-test.false c.loop-address.invariant
