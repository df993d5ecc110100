use Rattle.std.proofs.Common.{◌≡◌, ◌+◌, ◌-◌, true, false, length, length-set, refl, sym, ap, ◌∙◌, arith}
use Rattle.std.specs.Prelude.{unwrap_or}
use Rattle.rtl_core.specs.Contents.{is_mapped}
use Rattle.rtl_core.proofs.ByteLaws.{fault_end, fault_here, fault_next, mapped_some, read_end, read_next}
use Rattle.paged_space.specs.PageTable.{contents_of}
use Rattle.paged_space.proofs.space.Space.bytes_at.Goals as goal

pub loop-i-init : goal.loop-i-init
loop-i-init c =
    let m = contents_of c.args.self.now c.args.pool.now in
    let a : c.args.a + 0 ≡ c.args.a = omega arith in
    let n : length c.args.into.now - 0 ≡ length c.args.into.now = omega arith in
    record {
      long = refl;
      fault = rw (a, n) refl;
      bytes = rw (a, n) refl;
    }

pub returns-in-None-clause-fault : goal.returns-in-None-clause-fault
returns-in-None-clause-fault c = sym (fault_here is_mapped _ _ _ _ _ c.loop-i-test.true (mapped_some _ _ false c.in-None.ensures.value refl) c.loop-i.invariant.fault)

pub loop-i-preserved : goal.loop-i-preserved
loop-i-preserved c =
    record {
      long = length-set _ _ _ ∙ c.loop-i.invariant.long;
      fault = fault_next is_mapped _ _ _ _ _ c.loop-i-test.true (mapped_some _ _ true c.in-Some.ensures.value refl) c.loop-i.invariant.fault;
      bytes = read_next _ _ _ _ _ _ _ c.loop-i.invariant.long c.loop-i-test.true c.in-Some.ensures.byte (ap (λ o. unwrap_or o 0) c.in-Some.ensures.value) c.loop-i.invariant.bytes;
    }

pub returns-clause-fault : goal.returns-clause-fault
returns-clause-fault c = sym (fault_end is_mapped _ _ _ _ _ c.loop-i-test.false c.loop-i.invariant.fault)

pub returns-clause-bytes : goal.returns-clause-bytes
returns-clause-bytes c = λ _. read_end _ _ _ _ _ _ c.loop-i.invariant.long c.loop-i-test.false c.loop-i.invariant.bytes
