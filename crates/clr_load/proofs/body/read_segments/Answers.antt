-- One segment more is one step more.
use Rattle.std.proofs.Common.{ℕ, List, sym, ◌∙◌, subst, arith}
use Rattle.std.proofs.lemmas.Result.{err_from_is_err_and}
use Rattle.clr_load.specs.Bodies.{IsBody}
use Rattle.clr_format.specs.HeapFields.{segment_fields}
use Rattle.clr_load.proofs.LoadTurns.{loading_ends, loading_fails, loading_more, loading_starts}
use Rattle.clr_load.proofs.body.read_segments.Goals as goal

pub loop-turn-init : goal.loop-turn-init
loop-turn-init c = record {
  limit = c.requires.limit;
  room = c.requires.room;
  read = λ b is.
      loading_starts (segment_fields c.args.head.now c.args.types.now) c.args.n b c.args.reader.now
      (IsBody c.args.reader.now.bytes c.args.types.now c.args.body.now) is;
}

pub returns-in_err-read_segment : goal.returns-in_err-read_segment
returns-in_err-read_segment c b is =
    let p = err_from_is_err_and c.from_residual.result c.from_residual.ensures.1 in
    let at = c.loop-turn.invariant.read b is in
    let same = at.turn.bytes in
    rw (p.1, p.2)
    (loading_fails (segment_fields c.args.head.now c.args.types.now) c.args.n b c.args.reader.now c.loop-turn._turn
    c.loop-turn.reader c.read_segment.new.reader
    (IsBody c.args.reader.now.bytes c.args.types.now c.loop-turn.body)
    (IsBody c.loop-turn.reader.bytes c.args.types.now c.read_segment.new.body) at c.loop-turn-test.true (Unit {0})
    (Unit {0})
    (IsBody c.args.reader.now.bytes c.args.types.now c.read_segment.new.body) c.in_err-read_segment.field-0.0
    (c.in_err-read_segment.ensures.loads at.state
    (subst (λ (bs : List ℕ). IsBody bs c.args.types.now c.loop-turn.body at.state) (sym same) at.holds)))

pub loop-turn-preserved : goal.loop-turn-preserved
loop-turn-preserved c = record {
  limit = c.loop-turn.invariant.limit ∙ sym c.in_ok-read_segment.ensures.limit;
  room = c.in_ok-read_segment.ensures.room;
  read = λ b is.
      let at = c.loop-turn.invariant.read b is in
      let same = at.turn.bytes in
      let loads =
      c.in_ok-read_segment.ensures.loads at.state
      (subst (λ (bs : List ℕ). IsBody bs c.args.types.now c.loop-turn.body at.state) (sym same) at.holds) in
      loading_more (segment_fields c.args.head.now c.args.types.now) c.args.n b c.args.reader.now c.loop-turn._turn
      c.loop-turn.reader c.read_segment.new.reader
      (IsBody c.args.reader.now.bytes c.args.types.now c.loop-turn.body)
      (IsBody c.args.reader.now.bytes c.args.types.now c.read_segment.new.body) at c.loop-turn-test.true (Unit {0}) tt
      (record {
        bytes = loads.bytes;
        tells = (
          loads.tells.0,
          loads.tells.1,
          subst
              (λ (bs : List ℕ). IsBody bs c.args.types.now c.read_segment.new.body loads.tells.0) same loads.tells.2,
        );
      });
}

pub returns : goal.returns
returns c b is =
    loading_ends (segment_fields c.args.head.now c.args.types.now) c.args.n b c.args.reader.now (Unit {0})
    c.loop-turn._turn c.loop-turn.reader (IsBody c.args.reader.now.bytes c.args.types.now c.loop-turn.body) tt
    (c.loop-turn.invariant.read b is) (omega arith) c.loop-turn-test.false
