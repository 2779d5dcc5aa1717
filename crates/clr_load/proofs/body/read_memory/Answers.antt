-- The memory of a segment is taken where it has no fault.
use Rattle.std.proofs.Common.{ℕ, ◌+◌, ◌-◌, List, [], ◌∷◌, ◌++◌, refl, ◌∙◌, ap, arith}
use Rattle.clr_fields.specs.Finds.{Reading}
use Rattle.clr_heap.specs.Filled.{memory_from}
use Rattle.std.proofs.lemmas.Result.{err_from_is_err_and}
use Rattle.clr_load.specs.Bodies.{IsBody}
use Rattle.clr_load.proofs.BodySteps.{memory_fails, memory_taken}
use Rattle.clr_load.proofs.body.read_memory.Goals as goal

pub returns-in_err-range-clause-loads : goal.returns-in_err-range-clause-loads
returns-in_err-range-clause-loads c b is =
    let p = err_from_is_err_and c.from_residual.result c.from_residual.ensures.1 in
    rw (p.1, p.2) (record {
      bytes = refl;
      tells = memory_fails c.args.reader.now.bytes c.args.types.now c.args.head.now c.args.segment c.args.reader.now.at
          b (Unit {0}) (IsBody c.args.reader.now.bytes c.args.types.now c.args.body.now) _ c.in_err-range.field-0.0 _
          (record {
            bytes_are = c.bytes-bytes.ensures.bytes;
            rows_are = refl;
            info = refl;
            start1 = refl;
            start0 = refl;
            large = refl;
            at = c.at-at.ensures.at;
          }) c.in_err-range.ensures;
    })

pub returns-clause-loads : goal.returns-clause-loads
returns-clause-loads c b is = record {
  bytes = ap (λ (r : Reading). r.bytes) c.skip.ensures;
  tells = memory_taken c.args.reader.now.bytes c.args.types.now c.args.head.now c.args.segment c.args.reader.now.at b
      c.args.body.now _ is (Unit {0}) _ c.in-Ok.memory c.in_ok-range.range tt _ (record {
        bytes_are = c.bytes-bytes.ensures.bytes;
        rows_are = refl;
        info = refl;
        start1 = refl;
        start0 = refl;
        large = refl;
        at = c.at-at.ensures.at;
      }) (let is = c.requires.lawful in
      let high = is.high in
      let most = is.within_limit in
      let small = c.requires.small in
      record {
        base = is.base;
        lowest = is.lowest;
        highest = is.highest;
        low = is.low;
        high = omega (arith, high, most, small);
        aligned = is.aligned;
      }) (let within = c.bytes-bytes.ensures.within in within) c.in_ok-range.ensures (record {
        draft = c.in-Ok-add_segment.ensures.added;
        memory =
            c.in-Ok.ensures.words
            ∙ ap (λ (bs : List ℕ). memory_from bs c.args.segment.info c.at-at.result) c.bytes-bytes.ensures.bytes
            ∙ ap (λ (n : ℕ). memory_from c.args.reader.now.bytes c.args.segment.info n) c.at-at.ensures.at;
        offsets =
            c.in_ok-push.ensures.items
            ∙ ap (λ (n : ℕ). c.args.body.now.offsets.items ++ n ∷ []) c.at-at.ensures.at;
        starts = c.in_ok-add.ensures;
      })
      (ap (λ (r : Reading). r.at) c.skip.ensures
      ∙ ap (λ (n : ℕ). c.args.reader.now.at + (c.args.segment.info.end - n)) c.first_place.ensures);
}
