-- One type more is one step more.
use Rattle.std.proofs.Common.{arith}
use Rattle.std.proofs.lemmas.Result.{err_from_is_err_and}
use Rattle.clr_fields.specs.TypeFields.{type_fields}
use Rattle.clr_fields.proofs.Turns.{all_turned, at_start, turn_failed, turned}
use Rattle.clr_fields.proofs.types.read_all.Goals as goal

pub loop-turn-init : goal.loop-turn-init
loop-turn-init c = record {
  count = omega arith;
  read = at_start type_fields c.args.n c.args.types.now c.args.reader.now;
}

pub returns-in_err-read_type : goal.returns-in_err-read_type
returns-in_err-read_type c =
    let p = err_from_is_err_and c.from_residual.result c.from_residual.ensures.1 in
    rw (p.1, p.2)
    (turn_failed type_fields c.args.n c.args.types.now c.args.reader.now _ _ _ _ _ _ _ c.loop-turn.invariant.read
    c.loop-turn-test.true c.in_err-read_type.ensures.finds)

pub loop-turn-preserved : goal.loop-turn-preserved
loop-turn-preserved c = record {
  count = omega (arith, c.in_ok-read_type.ensures.count);
  read = turned type_fields c.args.n c.args.types.now c.args.reader.now _ _ _ _ _ _ c.loop-turn.invariant.read
      c.loop-turn-test.true c.in_ok-read_type.ensures.finds;
}

pub returns : goal.returns
returns c =
    all_turned type_fields c.args.n c.args.types.now c.args.reader.now _ _ _ _ c.loop-turn.invariant.read
    c.loop-turn.auto._turn-end c.loop-turn-test.false
