-- Each turn takes a piece, and the last one the end.
use Rattle.std.proofs.Common.{◌≡◌, ◌≤◌, ◌<◌, ◌++◌, length, take, drop, arith, ◌∙◌, refl, length-take}
use Rattle.std.proofs.lemmas.List.{take-append-le}
use Rattle.clr_session.proofs.ScriptLoop.{started, went_on, finished, so_far, at_end, past_limit}
use Rattle.clr_session.proofs.ScriptLoop.{cut_short, cut_short_last}
use Rattle.clr_session.proofs.script.run_script.Goals as goal

pub loop-count-init : goal.loop-count-init
loop-count-init g c = record {
  running = started c.args.session.now _ _ c.args.limit c.requires.unread c.requires.empty;
  room = c.requires.room;
  source_counted = refl;
  sink_counted = refl;
}

pub returns-in-Ok-take_end-clause-done : goal.returns-in-Ok-take_end-clause-done
returns-in-Ok-take_end-clause-done g c = λ e first stands.
    let into = simp length-take at c.read.auto.into in
    let some : 0 < length c.read.new.into = omega (arith, into) in
    let read = rw c.if-count-eq0.true at c.in-Ok.ensures.bytes in
    let f = finished first c.loop-count.session c.take_end.new.self _
    (g.S.Source.held c.loop-count.source) (g.S.Source.held c.read.new.self) _
    (g.K.Sink.written c.loop-count.sink) _ c.args.limit c.loop-count.left
    (c.loop-count.invariant.running.from first stands) read c.in-Ok-take_end.ensures.bytes in (
      f.0,
      f.1,
      f.2,
      f.3,
      at_end (g.S.Source.held c.loop-count.source) _ read
          (c.in-Ok.ensures.end c.if-count-eq0.true some),
    )

pub returns-in-Ok-take_end-clause-low : goal.returns-in-Ok-take_end-clause-low
returns-in-Ok-take_end-clause-low g c = λ e.
    let grown = c.take_end.ensures.grows in
    let room = c.loop-count.invariant.room in
    omega (arith, grown, room)

pub returns-then-left-eq0-clause-too_much : goal.returns-then-left-eq0-clause-too_much
returns-then-left-eq0-clause-too_much g c = λ e first stands.
    let into = simp length-take at c.read.auto.into in
    let count : length (take c.in-Ok.count c.read.new.into) ≡ 1 =
    simp length-take (omega (arith, into, c.in-Ok.ensures.bound)) in
    past_limit first c.loop-count.session _
    (g.S.Source.held c.loop-count.source) _ _ _ c.args.limit c.loop-count.left _
    (c.loop-count.invariant.running.from first stands) c.if-left-eq0.true c.in-Ok.ensures.bytes count

pub loop-count-preserved : goal.loop-count-preserved
loop-count-preserved g c =
    let into = simp length-take at c.read.auto.into in
    let count : length (take c.in-Ok.count c.read.new.into) ≡ c.in-Ok.count =
    simp length-take (omega (arith, into, c.in-Ok.ensures.bound)) in
    let within : c.in-Ok.count ≤ c.loop-count.left = omega (arith, into, c.in-Ok.ensures.bound) in
    let bound : c.in-Ok.count ≤ length c.read.new.into = c.in-Ok.ensures.bound in
    let goes = rw take-append-le at c.in-Ok-take_piece.ensures.bytes in
    record {
      running = record {
        from = λ first stands. went_on first c.loop-count.session c.take_piece.new.self _
            (g.S.Source.held c.loop-count.source) (g.S.Source.held c.read.new.self)
            _ (g.K.Sink.written c.loop-count.sink) _ c.args.limit c.loop-count.left c.in-Ok.count _
            (c.loop-count.invariant.running.from first stands) c.in-Ok.ensures.bytes goes count within;
      };
      room =
          let grown = c.take_piece.ensures.grows in
          let before = c.loop-count.invariant.room in
          let piece = length-take c.in-Ok.count (c.read.new.into ++ drop c.max-want.result c.loop-count.buffer) in
          omega (arith, grown, before, piece, within);
      source_counted = c.in-Ok.ensures.counted ∙ c.loop-count.invariant.source_counted;
      sink_counted = c.in-Ok-take_piece.ensures.counted ∙ c.loop-count.invariant.sink_counted;
    }

pub returns-in-Err-clause-write_before : goal.returns-in-Err-clause-write_before
returns-in-Err-clause-write_before g c = λ e first stands.
    let read = rw c.if-count-eq0.true at c.in-Ok.ensures.bytes in
    cut_short_last first c.loop-count.session _
    (g.S.Source.held c.loop-count.source)
    (g.S.Source.held c.read.new.self) _ (g.K.Sink.written c.loop-count.sink) _ c.args.limit c.loop-count.left
    (c.loop-count.invariant.running.from first stands) read c.in-Err.ensures.stops

pub returns-in_default-take_piece-clause-write_before : goal.returns-in_default-take_piece-clause-write_before
returns-in_default-take_piece-clause-write_before g c = λ e first stands.
    let bound : c.in-Ok.count ≤ length c.read.new.into = c.in-Ok.ensures.bound in
    let stops = rw take-append-le at c.in_default-take_piece.ensures.stops in
    let into = simp length-take at c.read.auto.into in
    let few : length (take c.in-Ok.count c.read.new.into) ≤ c.loop-count.left =
    simp length-take (omega (arith, into, c.in-Ok.ensures.bound)) in
    cut_short first c.loop-count.session _ (g.S.Source.held c.loop-count.source)
    (g.S.Source.held c.read.new.self) _ (g.K.Sink.written c.loop-count.sink) _ c.args.limit c.loop-count.left _
    (c.loop-count.invariant.running.from first stands) c.in-Ok.ensures.bytes few stops

pub returns-in_default-clause-read_before : goal.returns-in_default-clause-read_before
returns-in_default-clause-read_before g c = λ e first stands.
    let running = c.loop-count.invariant.running.from first stands in (
      running.taken,
      rw c.in_default.ensures.kept (so_far first c.loop-count.session _
          (g.S.Source.held c.loop-count.source) _ _ c.args.limit c.loop-count.left running),
      let counted = running.counted in omega (arith, counted),
    )

pub take_piece-requires : goal.take_piece-requires
take_piece-requires g c =
    let into = simp length-take at c.read.auto.into in
    let within : c.in-Ok.count ≤ c.loop-count.left = omega (arith, into, c.in-Ok.ensures.bound) in
    let piece = length-take c.in-Ok.count (c.read.new.into ++ drop c.max-want.result c.loop-count.buffer) in
    let room = c.loop-count.invariant.room in
    omega (arith, within, piece, room)
