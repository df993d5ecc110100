use Rattle.std.proofs.Common.{◌<◌, length, take, sym, ◌∙◌, subst, arith}
use Rattle.std.proofs.lemmas.List.{take_more}
use Rattle.elf32.specs.Spans.{Shows}
use Rattle.elf32.proofs.FaultLaws.{found_here, none_here, passes, loads_fault_more, loads_fault_end}
use Rattle.elf32.proofs.checks.loads_fault.Goals as goal

pub returns-then-is_some : goal.returns-then-is_some
returns-then-is_some c =
    let lt : c.loop-h.h-index < length c.args.loads.now = omega arith in
    found_here c.args.len c.args.loads.now c.loop-h.h-index _ c.load_fault-fault.result lt (sym c.is_some.ensures ∙ c.if-is_some.true)
    (c.load_fault-fault.ensures _ c.loop-h.invariant.shows (c.requires _ _ lt))
    ∙ c.loop-h.invariant.same

pub loop-h-preserved : goal.loop-h-preserved
loop-h-preserved c =
    let loads = c.args.loads.now in
    let lt : c.loop-h.h-index < length loads = omega arith in
    let told = c.load_fault-fault.ensures _ c.loop-h.invariant.shows (c.requires _ _ lt) in
    let none = sym told ∙ none_here c.load_fault-fault.result (sym c.is_some.ensures ∙ c.if-is_some.false) in
    let pass = passes c.args.len (take c.loop-h.h-index loads) _ none in
    record {
      same = sym (loads_fault_more c.args.len loads c.loop-h.h-index _ lt none) ∙ c.loop-h.invariant.same;
      shows = subst (λ xs. Shows c.add.new.self xs) (sym (take_more loads c.loop-h.h-index _ lt)) (c.in_ok-add.ensures _ c.loop-h.invariant.shows (c.requires _ _ lt) pass.apart);
    }

pub returns : goal.returns
returns c =
    sym (loads_fault_end c.args.len (take c.loop-h.h-index c.args.loads.now) c.args.loads.now c.loop-h.h-index (omega arith)) ∙ c.loop-h.invariant.same
