use Rattle.std.proofs.Common.{◌≤◌, length, take, arith, length-take, refl}
use Rattle.clr_streams.proofs.ByteStreams.{taken_more}
use Rattle.clr_streams.proofs.reading.read_all.Goals as goal

pub returns-then-left-eq0-clause-too_much : goal.returns-then-left-eq0-clause-too_much
returns-then-left-eq0-clause-too_much g c = λ e.
    let bound = c.in-Ok.ensures.bound in
    let some : 1 ≤ length (take c.in-Ok.count c.read.new.into) = simp length-take (omega arith) in
    let left = c.loop-count.invariant.left in
    let none = c.if-left-eq0.true in
    record {
      bytes = c.loop-count.bytes.items;
      more = take c.in-Ok.count c.read.new.into;
      taken = taken_more _ (g.S.Source.held c.loop-count.source) _ c.loop-count.bytes.items
          (take c.in-Ok.count c.read.new.into) _ c.loop-count.invariant.taken c.in-Ok.ensures.bytes refl;
      full = omega arith;
      some = some;
    }
