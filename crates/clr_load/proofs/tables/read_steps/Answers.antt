-- One more is one step more.
use Rattle.std.proofs.Common.{arith}
use Rattle.std.proofs.lemmas.Result.{err_from_is_err_and}
use Rattle.clr_fields.proofs.Turns.{all_turned, at_start, turn_failed, turned}
use Rattle.clr_format.specs.TableFields.{more_steps}
use Rattle.clr_load.proofs.tables.read_steps.Goals as goal

pub loop-turn-init : goal.loop-turn-init
loop-turn-init c = at_start (more_steps c.args.head.now c.args.types.now) 16 c.args.steps.now.items c.args.reader.now

pub returns-in_err-add_step : goal.returns-in_err-add_step
returns-in_err-add_step c =
    let p = err_from_is_err_and c.from_residual.result c.from_residual.ensures.1 in
    rw (p.1, p.2)
    (turn_failed (more_steps c.args.head.now c.args.types.now) 16 c.args.steps.now.items c.args.reader.now _ _ _ _ _ _ _
    c.loop-turn.invariant
    c.loop-turn-test.true c.in_err-add_step.ensures)

pub loop-turn-preserved : goal.loop-turn-preserved
loop-turn-preserved c =
    turned (more_steps c.args.head.now c.args.types.now) 16 c.args.steps.now.items c.args.reader.now _ _ _ _ _ _
    c.loop-turn.invariant
    c.loop-turn-test.true c.in_ok-add_step.ensures

pub returns : goal.returns
returns c =
    all_turned (more_steps c.args.head.now c.args.types.now) 16 c.args.steps.now.items c.args.reader.now _ _ _ _
    c.loop-turn.invariant
    (omega arith) c.loop-turn-test.false
