use Rattle.std.proofs.Common.{◌+◌, ◌≤◌, length, map, sym, ap, ◌∙◌, subst, arith}
use Rattle.std.proofs.lemmas.List.Elements.{All-same}
use Rattle.elf32.specs.declared.headers.ProgramHeader.{ProgramHeader}
use Rattle.elf32.specs.Headers.{loads}
use Rattle.elf32.specs.Reading.{segment_of, AreLoadable}
use Rattle.elf32.proofs.FaultLaws.{is_long, loads_whole, loadable_elf, denoted}
use Rattle.elf32.proofs.read_elf.Goals as goal

pub segments_of-requires : goal.segments_of-requires
segments_of-requires c =
    All-same (λ (h : ProgramHeader). h.offset + h.file_size ≤ length c.args.file.now) c.deref.result.now (loads c.args.order c.args.file.now)
    (c.deref.ensures.value ∙ c.in_ok-loads.ensures.loads)
    (loads_whole c.args.file.now c.args.conv.now c.args.order c.in_ok-loads.ensures.sound)

pub symbols-requires : goal.symbols-requires
symbols-requires c = is_long c.args.file.now c.args.conv.now c.args.order c.in_ok-loads.ensures.sound

pub word-requires : goal.word-requires
word-requires c =
    let long : 52 ≤ length c.args.file.now = is_long c.args.file.now c.args.conv.now c.args.order c.in_ok-loads.ensures.sound in
    omega arith

pub returns-clause-elf : goal.returns-clause-elf
returns-clause-elf c =
    denoted c.args.file.now c.args.conv.now c.args.order _ c.in_ok-loads.ensures.sound c.word.ensures
    (c.in_ok-segments.ensures ∙ ap (map (segment_of c.args.file.now)) (c.deref.ensures.value ∙ c.in_ok-loads.ensures.loads))
    c.in_ok-symbols.ensures

pub returns-clause-loadable : goal.returns-clause-loadable
returns-clause-loadable c =
    subst AreLoadable (sym (c.in_ok-segments.ensures ∙ ap (map (segment_of c.args.file.now)) (c.deref.ensures.value ∙ c.in_ok-loads.ensures.loads)))
    (loadable_elf c.args.file.now c.args.conv.now c.args.order c.in_ok-loads.ensures.sound)
