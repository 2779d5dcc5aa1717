-- Its parts are written one after another.
use Rattle.std.proofs.Common.{[], ◌∷◌, ◌++◌, refl}
use Rattle.std.proofs.lemmas.Result.{err_from_is_err_and}
use Rattle.clr_sos.proofs.BufferedTexts.{cut_more, cut_within, put_more}
use Rattle.clr_sos.proofs.buffered.listing.write_named.Goals as goal

pub returns-in_err-write_buffered-2-clause-cut : goal.returns-in_err-write_buffered-2-clause-cut
returns-in_err-write_buffered-2-clause-cut g c =
    let failed = c.from_residual-in_err-write_buffered-2 in
    let p = err_from_is_err_and failed.result failed.ensures.1 in
    rw p.1 (cut_within _ (g.K.Sink.written c.write_buffered.new.sink) _ _ (g.K.Sink.faults c.write_buffered.new.sink)
    _ _ c.write_buffered.new.buffer.items c.args.head.now c.args.name.now (10 ∷ []) _ c.in_ok-write_buffered.ensures.put
    c.in_err-write_buffered-2.ensures.cut refl)

pub returns-in_err-write_buffered-3-clause-cut : goal.returns-in_err-write_buffered-3-clause-cut
returns-in_err-write_buffered-3-clause-cut g c =
    let failed = c.from_residual-in_err-write_buffered-3 in
    let p = err_from_is_err_and failed.result failed.ensures.1 in
    rw p.1 (cut_more _ (g.K.Sink.written c.write_buffered-2.new.sink) _ _ (g.K.Sink.faults c.write_buffered-2.new.sink)
    _ _ c.write_buffered-2.new.buffer.items (c.args.head.now ++ c.args.name.now) (10 ∷ []) _
    (put_more _ (g.K.Sink.written c.write_buffered.new.sink) _ _ (g.K.Sink.faults c.write_buffered.new.sink) _ _
    c.write_buffered.new.buffer.items c.write_buffered-2.new.buffer.items c.args.head.now c.args.name.now
    (c.args.head.now ++ c.args.name.now) c.in_ok-write_buffered.ensures.put c.in_ok-write_buffered-2.ensures.put refl)
    c.in_err-write_buffered-3.ensures.cut refl)

pub returns-clause-put : goal.returns-clause-put
returns-clause-put g c =
    put_more _ (g.K.Sink.written c.write_buffered-2.new.sink) _ _ (g.K.Sink.faults c.write_buffered-2.new.sink)
    _ _ c.write_buffered-2.new.buffer.items _ (c.args.head.now ++ c.args.name.now) (10 ∷ []) _
    (put_more _ (g.K.Sink.written c.write_buffered.new.sink) _ _ (g.K.Sink.faults c.write_buffered.new.sink) _ _
    c.write_buffered.new.buffer.items c.write_buffered-2.new.buffer.items c.args.head.now c.args.name.now
    (c.args.head.now ++ c.args.name.now) c.in_ok-write_buffered.ensures.put c.in_ok-write_buffered-2.ensures.put refl)
    c.in_ok-write_buffered-3.ensures.put refl
