use Rattle.std.proofs.Common.{◌+◌, drop, sym, ap, ◌∙◌}
use Rattle.rtl_core.specs.Contents.{put_all}
use Rattle.rtl_core.proofs.ByteLaws.{put_next, put_end}
use Rattle.rtl_core.proofs.bytes.copy_in.Goals as goal

pub loop-i-preserved : goal.loop-i-preserved
loop-i-preserved g c = record {
  contents = ap (λ m. put_all m (c.args.a + (c.loop-i.i + 1)) (drop (c.loop-i.i + 1) c.args.bytes.now)) c.write_at.ensures.contents ∙ sym (put_next _ _ _ _ 0 c.loop-i-test.true) ∙ c.loop-i.invariant.contents;
  whole = c.write_at.ensures.whole;
  ready = c.write_at.ensures.ready;
  follows = g.met.M.Memory.follows_on _ _ _ c.loop-i.invariant.follows c.write_at.ensures.follows;
}

pub returns-clause-contents : goal.returns-clause-contents
returns-clause-contents g c = sym (put_end _ _ _ _ c.loop-i-test.false) ∙ c.loop-i.invariant.contents
