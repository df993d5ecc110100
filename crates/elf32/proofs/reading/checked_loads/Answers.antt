use Rattle.std.proofs.Common.{◌≤◌, ◌<◌, [], None, Some, length, sym, ap, ◌∙◌, arith}
use Rattle.std.proofs.lemmas.List.Elements.{All-same}
use Rattle.elf32.specs.declared.headers.ProgramHeader.{ProgramHeader}
use Rattle.elf32.specs.Headers.{loads}
use Rattle.elf32.specs.Faults.{interp_fault, loads_fault, image_fault}
use Rattle.elf32.proofs.FaultLaws.{header_passes, loads_are, fault_of_loads, fault_of_image}
use Rattle.elf32.proofs.reading.checked_loads.Goals as goal

pub headers-requires-clause-long : goal.headers-requires-clause-long
headers-requires-clause-long c = (header_passes c.args.file.now c.args.conv.now c.args.order (sym c.in_default.ensures)).long

pub headers-requires-clause-whole : goal.headers-requires-clause-whole
headers-requires-clause-whole c = (header_passes c.args.file.now c.args.conv.now c.args.order (sym c.in_default.ensures)).headers_lie

pub loads_fault-requires : goal.loads_fault-requires
loads_fault-requires c =
    All-same (λ (h : ProgramHeader). 0 < h.memory_size) c.deref-3.result.now c.in_ok-loads.loads.items c.deref-3.ensures.value c.in_ok-loads.ensures.some

pub returns-in-Some-2-clause-fault : goal.returns-in-Some-2-clause-fault
returns-in-Some-2-clause-fault c = λ _.
    let order = c.args.order in
    let file = c.args.file.now in
    let all = c.deref.ensures.value ∙ c.in_ok-headers.ensures.headers in
    let segments = c.deref-3.ensures.value ∙ c.in_ok-loads.ensures.loads ∙ loads_are order file c.deref-2.result.now (c.deref-2.ensures.value ∙ c.in_ok-headers.ensures.headers) in
    fault_of_loads file c.args.conv.now order c.in-Some-2.fault
    (sym c.in_default.ensures)
    (ap interp_fault (sym all) ∙ sym c.in_default-interp_fault.ensures)
    (ap (loads_fault (length file) []) (sym segments) ∙ sym c.in_ok-fault.ensures ∙ c.in-Some-2.is)

pub word-requires : goal.word-requires
word-requires c =
    let long : 52 ≤ length c.args.file.now = (header_passes c.args.file.now c.args.conv.now c.args.order (sym c.in_default.ensures)).long in
    omega arith

pub image_fault-requires : goal.image_fault-requires
image_fault-requires c =
    let found = ap length c.deref-4.ensures.value in
    let read = ap length c.deref-2.ensures.value in
    omega (arith, found, read, c.in_ok-loads.ensures.few, c.in_ok-headers.ensures.few)

pub returns-in-Some-image_fault-clause-fault : goal.returns-in-Some-image_fault-clause-fault
returns-in-Some-image_fault-clause-fault c = λ _.
    let order = c.args.order in
    let file = c.args.file.now in
    let all = c.deref.ensures.value ∙ c.in_ok-headers.ensures.headers in
    let segments = c.in_ok-loads.ensures.loads ∙ loads_are order file c.deref-2.result.now (c.deref-2.ensures.value ∙ c.in_ok-headers.ensures.headers) in
    fault_of_image file c.args.conv.now order (Some c.in-Some-image_fault.fault)
    (sym c.in_default.ensures)
    (ap interp_fault (sym all) ∙ sym c.in_default-interp_fault.ensures)
    (ap (loads_fault (length file) []) (sym (c.deref-3.ensures.value ∙ segments)) ∙ sym c.in_ok-fault.ensures ∙ c.in_default-2.is)
    (ap (λ a. image_fault a (loads order file)) (sym c.word.ensures) ∙ ap (image_fault c.word.result) (sym (c.deref-4.ensures.value ∙ segments)) ∙ sym c.in-Some-image_fault.ensures)

pub returns-clause-sound : goal.returns-clause-sound
returns-clause-sound c =
    let order = c.args.order in
    let file = c.args.file.now in
    let all = c.deref.ensures.value ∙ c.in_ok-headers.ensures.headers in
    let segments = c.in_ok-loads.ensures.loads ∙ loads_are order file c.deref-2.result.now (c.deref-2.ensures.value ∙ c.in_ok-headers.ensures.headers) in
    fault_of_image file c.args.conv.now order None
    (sym c.in_default.ensures)
    (ap interp_fault (sym all) ∙ sym c.in_default-interp_fault.ensures)
    (ap (loads_fault (length file) []) (sym (c.deref-3.ensures.value ∙ segments)) ∙ sym c.in_ok-fault.ensures ∙ c.in_default-2.is)
    (ap (λ a. image_fault a (loads order file)) (sym c.word.ensures) ∙ ap (image_fault c.word.result) (sym (c.deref-4.ensures.value ∙ segments)) ∙ sym c.in_default-image_fault.ensures)

pub returns-clause-loads : goal.returns-clause-loads
returns-clause-loads c =
    c.in_ok-loads.ensures.loads ∙ loads_are c.args.order c.args.file.now c.deref-2.result.now (c.deref-2.ensures.value ∙ c.in_ok-headers.ensures.headers)
