-- A segment is what stands before its memory, and then that.
use Rattle.std.proofs.Common.{sym, subst, List, ℕ}
use Rattle.std.proofs.lemmas.Result.{err_from_is_err_and}
use Rattle.clr_load.specs.Bodies.{IsBody}
use Rattle.clr_load.proofs.BodySteps.{head_fails, head_found}
use Rattle.clr_load.proofs.body.read_segment.Goals as goal

pub returns-in_err-segment-clause-loads : goal.returns-in_err-segment-clause-loads
returns-in_err-segment-clause-loads c b is =
    let p = err_from_is_err_and c.from_residual.result c.from_residual.ensures.1 in
    rw (p.1, p.2) (record {
      bytes = c.in_err-segment.ensures.finds.bytes;
      tells = head_fails c.args.types.now c.args.head.now b (Unit {0})
          (IsBody c.args.reader.now.bytes c.args.types.now c.args.body.now) c.args.body.now.draft
          c.args.reader.now.bytes
          c.args.reader.now.at c.in_err-segment.field-0.0 _ _ is.heap c.in_err-segment.ensures.finds.tells;
    })

pub returns-clause-loads : goal.returns-clause-loads
returns-clause-loads c b is =
    let finds = c.in_ok-segment.ensures.finds in
    head_found c.args.types.now c.args.head.now b (λ bs. IsBody bs c.args.types.now c.read_memory.new.body)
    c.args.body.now.draft c.args.reader.now c.read_segment_head.new.reader c.read_memory.new.reader
    c.in_ok-segment.segment c.read_memory.result is.heap finds
    (c.read_memory.ensures.loads b
    (subst (λ (bs : List ℕ). IsBody bs c.args.types.now c.args.body.now b) (sym finds.bytes) is))
