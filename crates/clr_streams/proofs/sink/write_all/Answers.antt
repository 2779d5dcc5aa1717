-- What is written grows by what the sink took.
use Rattle.std.proofs.Common.{arith, length-take, length-drop, ◌∙◌}
use Rattle.clr_streams.proofs.ByteStreams.{appended_more, write_more}
use Rattle.clr_streams.proofs.sink.write_all.Goals as goal

pub loop-at-preserved : goal.loop-at-preserved
loop-at-preserved g c = record {
  within = let b = simp (length-take, length-drop) at c.in_ok-at.ensures.bound in omega arith;
  bytes = appended_more _ _ _ _ _ _ c.loop-at.invariant.bytes c.in_ok-at.ensures.bytes (write_more _ _ _);
  counted = c.in_ok-at.ensures.counted ∙ c.loop-at.invariant.counted;
}
