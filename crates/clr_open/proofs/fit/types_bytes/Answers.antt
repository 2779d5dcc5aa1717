-- One type more.
use Rattle.std.proofs.Common.{arith}
use Rattle.clr_open.proofs.FitFields.{counted-all, counted-more, none-counted}
use Rattle.clr_open.proofs.fit.types_bytes.Goals as goal

pub loop-t-init : goal.loop-t-init
loop-t-init c = none-counted c.args.types.now

pub loop-t-preserved : goal.loop-t-preserved
loop-t-preserved c =
    let low = c.loop-t.auto.t in
    let high = c.loop-t-test.true in
    let count = c.count-t-end.ensures.value in
    counted-more c.args.types.now c.loop-t.t c.loop-t.bytes c.type_bytes-bytes.result (omega (arith, low))
    (omega (arith, high, count)) c.loop-t.invariant c.type_bytes-bytes.ensures.is c.type_bytes-bytes.ensures.low

pub returns-clause-is : goal.returns-clause-is
returns-clause-is c =
    let past = c.loop-t-test.false in
    let count = c.count-t-end.ensures.value in
    counted-all c.args.types.now c.loop-t.t c.loop-t.bytes (omega (arith, past, count)) c.loop-t.invariant
