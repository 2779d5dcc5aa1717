-- Each turn answers one line more, or many.
use Rattle.std.proofs.Common.{arith, refl, ◌∙◌}
use Rattle.std.proofs.lemmas.Result.{err_from_is_err_and}
use Rattle.clr_session.proofs.FirstLines.{piece_ends, piece_goes_on, piece_rest, piece_stops}
use Rattle.clr_session.proofs.SessionSteps.{goes_none}
use Rattle.clr_session.proofs.session.Session.answer_piece.Goals as goal

pub loop-count-init : goal.loop-count-init
loop-count-init g c = record {
  within = omega arith;
  goes = goes_none c.args.self.now _;
  grows = omega arith;
  counted = refl;
}

pub loop-count-preserved : goal.loop-count-preserved
loop-count-preserved g c =
    let turn = c.loop-count in
    let (within, some, goes) = piece_goes_on c.args.self.now turn.self c.answer_first.new.self c.args.piece.now
    turn.from c.in-Some.count c.in_ok-count.field-0 _ (g.K.Sink.written turn.sink) _ turn.invariant.within
    c.in-Some.is turn.invariant.goes c.in_ok-count.ensures.bytes in
    record {
      within = within;
      goes = goes;
      grows = let grown = rw c.in-Some.is at c.in_ok-count.ensures.grows in let before = turn.invariant.grows in
          omega (arith, grown, before);
      counted = c.in_ok-count.ensures.counted ∙ turn.invariant.counted;
    }

pub returns-in_err-count-clause-stops : goal.returns-in_err-count-clause-stops
returns-in_err-count-clause-stops g c =
    let p = err_from_is_err_and c.from_residual.result c.from_residual.ensures.1 in
    rw p.1 (piece_stops c.args.self.now c.loop-count.self c.args.piece.now c.loop-count.from _
    (g.K.Sink.written c.loop-count.sink) _ c.loop-count.invariant.goes c.in_err-count.ensures.stops)

pub returns-in_err-count-clause-grows : goal.returns-in_err-count-clause-grows
returns-in_err-count-clause-grows g c =
    let grown = c.in_err-count.ensures.rises in
    let before = c.loop-count.invariant.grows in
    let rest = piece_rest c.args.piece.now c.loop-count.from in
    let within = c.loop-count.invariant.within in
    omega (arith, grown, before, rest, within)

pub returns-clause-bytes : goal.returns-clause-bytes
returns-clause-bytes g c =
    piece_ends c.args.self.now c.loop-count.self c.answer_first.new.self c.args.piece.now c.keep.new.line.items
    c.loop-count.from c.in_ok-count.field-0 _ (g.K.Sink.written c.loop-count.sink) _ c.in_default.is
    c.loop-count.invariant.goes c.in_ok-count.ensures.bytes c.keep.ensures.items
