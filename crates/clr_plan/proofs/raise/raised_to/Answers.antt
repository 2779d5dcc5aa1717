use Rattle.std.proofs.Common.{◌≡◌, ◌≤◌, ◌<◌, ◌∙◌, ap, filter, length, nat_le, subst, sym}
use Rattle.clr_types.specs.Ranges.{Piece}
use Rattle.clr_types.specs.Segments.{first_place, reserved_end}
use Rattle.clr_types.specs.declared.segment.SegInfo.{SegInfo}
use Rattle.clr_heap.specs.View.{first_of, HeapView, segment_at}
use Rattle.clr_plan.specs.Waiting.{ranges_from}
use Rattle.clr_plan.specs.declared.pointer.Pointer.{Pointer}
use Rattle.clr_plan.proofs.RaisingTo.{waiting-rises, raised-up, raised-there}
use Rattle.clr_plan.proofs.raise.raised_to.Goals as goal
use Rattle.clr_plan.proofs.raise.raised_to.Goals.{then-from-e, else-from-e}

pub info-first-requires : goal.info-first-requires
info-first-requires c =
    let (rows, old, g, is) = c.requires.between in
    subst (λ (h : HeapView). c.args.e < length h.segments) (sym is.shape.others) is.can.inside

pub passed_below-requires-clause-behind : goal.passed_below-requires-clause-behind
passed_below-requires-clause-behind c = let (rows, old, g, is) = c.requires.between in is.between.behind

pub passed_below-requires-clause-rise : goal.passed_below-requires-clause-rise
passed_below-requires-clause-rise c =
    let (rows, old, g, is) = c.requires.between in
    waiting-rises rows old g c.args.e is.can c.args.queue.now.entries c.args.from is.between

pub young_pointer-requires : goal.young_pointer-requires
young_pointer-requires c =
    let (rows, old, g, is) = c.requires.between in
    subst (λ (h : HeapView). c.args.e < length h.segments) (sym is.shape.others) is.can.inside

pub past_pins-requires : goal.past_pins-requires
past_pins-requires c =
    let (rows, old, g, is) = c.requires.between in
    record {
      behind = elim c.if-from-e.branch [
        | then-from-e b ↦ subst (λ (p : Pointer). p.passed ≤ length c.args.queue.now.entries) (sym b.at-is)
            b.passed_below.ensures.behind
        | else-from-e b ↦ subst (λ (p : Pointer). p.passed ≤ length c.args.queue.now.entries) (sym b.at-is)
            is.between.behind
      ];
    }

pub returns : goal.returns
returns c = record {
  raised = λ rows old g is. elim c.if-from-e.branch [
    | then-from-e b ↦
        let same : segment_at c.args.heap.now c.args.e ≡ segment_at old c.args.e =
        ap (λ (h : HeapView). segment_at h c.args.e) is.shape.others in
        raised-up rows old g c.args.e is.can c.args.queue.now.entries c.args.from is.between b.if-from-e.true
        b.passed_below.result b.passed_below.ensures.behind
        (subst (λ (s : SegInfo). ranges_from b.passed_below.result c.args.queue.now.entries
        ≡ filter (λ (x : Piece). nat_le (first_place s) x.place)
        (ranges_from c.args.from.passed c.args.queue.now.entries)) (b.info-first.ensures.value ∙ same)
        b.passed_below.ensures.left)
        c.if-from-e.at c.past_pins.result
        (b.at-is ∙ ap (λ (p : Pointer). record p { passed = b.passed_below.result }) b.young_pointer.ensures
        ∙ ap (λ (s : SegInfo). record {
          place = first_place s;
          segment = c.args.e;
          high = reserved_end (segment_at c.args.heap.now c.args.e);
          passed = b.passed_below.result;
        })
        (b.info-first.ensures.value ∙ same)
        ∙ ap (λ (s : SegInfo). record {
          place = first_of old c.args.e;
          segment = c.args.e;
          high = reserved_end s;
          passed = b.passed_below.result;
        }) same)
        c.past_pins.ensures.raised
    | else-from-e b ↦ raised-there rows old g c.args.e is.can c.args.queue.now.entries c.args.from is.between
        b.if-from-e.false c.if-from-e.at c.past_pins.result b.at-is c.past_pins.ensures.raised
  ];
}
