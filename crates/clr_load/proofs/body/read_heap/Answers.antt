-- The count of segments, the segments, and the kinds that are needed.
use Rattle.std.proofs.Common.{◌&&◌, ℕ, List, sym, ◌∙◌, ap, subst}
use Rattle.std.proofs.lemmas.Result.{err_from_is_err_and}
use Rattle.clr_fields.specs.Fields.{fault, times}
use Rattle.clr_heap.specs.View.{HeapView}
use Rattle.clr_types.specs.declared.segment.SegKind.TheVariants.{Ephemeral, Large}
use Rattle.clr_load.specs.Bodies.{IsBody}
use Rattle.clr_format.specs.HeapFields.{empty_body, segment_fields}
use Rattle.clr_heap.specs.Drafts.{has_kind}
use Rattle.clr_load.proofs.BodySteps.{count_fails, heap_found, heap_lacks, same_bytes, segments_fail}
use Rattle.clr_load.proofs.body.read_heap.Goals as goal

pub returns-in_err-n : goal.returns-in_err-n
returns-in_err-n c =
    let p = err_from_is_err_and c.from_residual.result c.from_residual.ensures.1 in
    rw (p.1, p.2) (record {
      bytes = c.in_err-n.ensures.finds.bytes;
      tells = count_fails c.args.types.now c.args.head.now (Unit {0})
          (IsBody c.args.reader.now.bytes c.args.types.now c.args.body.now) c.args.reader.now.bytes c.args.reader.now.at
          c.in_err-n.field-0.0 _ _ c.in_err-n.ensures.finds.tells;
    })

pub returns-in_err-read_segments : goal.returns-in_err-read_segments
returns-in_err-read_segments c =
    let p =
    err_from_is_err_and c.from_residual-in_err-read_segments.result c.from_residual-in_err-read_segments.ensures.1 in
    let finds = c.in_ok-n.ensures.finds in
    let P = λ (bs : List ℕ). IsBody bs c.args.types.now c.read_segments.new.body in
    let loads =
    c.in_err-read_segments.ensures (empty_body c.args.head.now.limit)
    (subst (λ (bs : List ℕ). IsBody bs c.args.types.now c.args.body.now (empty_body c.args.head.now.limit))
    (sym finds.bytes) c.requires.empty) in
    let told =
    same_bytes P (times c.in_ok-n.n (segment_fields c.args.head.now c.args.types.now)
    (empty_body c.args.head.now.limit))
    c.args.reader.now c.from_to.new.self c.read_segments.new.reader _ finds.bytes loads in
    rw (p.1, p.2) (record {
      bytes = told.0;
      tells = segments_fail c.args.types.now c.args.head.now c.args.reader.now.bytes c.args.reader.now.at c.in_ok-n.n
          c.from_to.new.self.at finds.tells (Unit {0}) (Unit {0}) (P c.args.reader.now.bytes)
          (P c.args.reader.now.bytes)
          c.in_err-read_segments.field-0.0 _ _ told.1;
    })

pub returns-then-has_needed : goal.returns-then-has_needed
returns-then-has_needed c =
    let finds = c.in_ok-n.ensures.finds in
    let P = λ (bs : List ℕ). IsBody bs c.args.types.now c.read_segments.new.body in
    let loads =
    c.in_ok-read_segments.ensures (empty_body c.args.head.now.limit)
    (subst (λ (bs : List ℕ). IsBody bs c.args.types.now c.args.body.now (empty_body c.args.head.now.limit))
    (sym finds.bytes) c.requires.empty) in
    let told =
    same_bytes P (times c.in_ok-n.n (segment_fields c.args.head.now c.args.types.now)
    (empty_body c.args.head.now.limit))
    c.args.reader.now c.from_to.new.self c.read_segments.new.reader _ finds.bytes loads in
    let on =
    ap (λ (h : HeapView). has_kind Ephemeral h.segments && has_kind Large h.segments) (sym told.1.2.heap)
    ∙ sym c.has_needed.ensures ∙ c.if-has_needed.true in
    record {
      bytes = told.0;
      tells = heap_found c.args.types.now c.args.head.now c.args.reader.now.bytes c.args.reader.now.at c.in_ok-n.n
          c.from_to.new.self.at finds.tells (Unit {0}) (P c.args.reader.now.bytes) tt c.read_segments.new.reader.at
          told.1
          (Unit {0}) tt on;
    }

pub returns-else-has_needed : goal.returns-else-has_needed
returns-else-has_needed c =
    let finds = c.in_ok-n.ensures.finds in
    let P = λ (bs : List ℕ). IsBody bs c.args.types.now c.read_segments.new.body in
    let loads =
    c.in_ok-read_segments.ensures (empty_body c.args.head.now.limit)
    (subst (λ (bs : List ℕ). IsBody bs c.args.types.now c.args.body.now (empty_body c.args.head.now.limit))
    (sym finds.bytes) c.requires.empty) in
    let told =
    same_bytes P (times c.in_ok-n.n (segment_fields c.args.head.now c.args.types.now)
    (empty_body c.args.head.now.limit))
    c.args.reader.now c.from_to.new.self c.read_segments.new.reader _ finds.bytes loads in
    let off =
    ap (λ (h : HeapView). has_kind Ephemeral h.segments && has_kind Large h.segments) (sym told.1.2.heap)
    ∙ sym c.has_needed.ensures ∙ c.if-has_needed.false in
    record {
      bytes = told.0;
      tells =
          heap_lacks c.args.types.now c.args.head.now c.args.reader.now.bytes c.args.reader.now.at c.in_ok-n.n
          c.from_to.new.self.at finds.tells (Unit {0}) (P c.args.reader.now.bytes) tt c.read_segments.new.reader.at
          told.1
          off
          ∙ ap fault (sym c.at-at.ensures.at);
    }
