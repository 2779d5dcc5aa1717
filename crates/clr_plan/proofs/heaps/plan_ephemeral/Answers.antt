use Rattle.std.proofs.Common.{◌≡◌, ◌∙◌, ℕ, ◌+◌, ◌≤◌, ap, ap₂, refl, sym, subst, arith, Bool, if◌then◌else◌, ◌==◌}
use Rattle.std.proofs.lemmas.Bool.{eq-eqb, ne_eqb}
use Rattle.clr_heap.specs.View.{HeapView, last_of}
use Rattle.clr_plan.specs.Counts.{counts_between, plus}
use Rattle.clr_plan.specs.declared.counts.Counts.{Counts}
use Rattle.clr_plan.proofs.CountedHeaps.{two-counted}
use Rattle.clr_plan.proofs.EphemeralLaid.{all-laid, around2, between, free2, older-lays, part2, part-ends, starts2}
use Rattle.clr_plan.proofs.EphemeralLaid.{young-lays}
use Rattle.clr_plan.proofs.EphemeralPart.{can, free, low-covered, older_around, part, part-covered, part-lies}
use Rattle.clr_plan.proofs.EphemeralPart.{setting_of}
use Rattle.clr_plan.proofs.EphemeralPart.{starts}
use Rattle.clr_plan.proofs.heaps.plan_ephemeral.Goals as goal
use Rattle.clr_plan.proofs.heaps.plan_ephemeral.Goals.{then-g-eq0, else-g-eq0}
use Rattle.clr_plan.specs.States.{Written, written}

pub new-writer-requires-clause-covered : goal.new-writer-requires-clause-covered
new-writer-requires-clause-covered c =
    let (old, before, empty, s) = c.requires.can in
    let setting = setting_of c.args.types.now old c.args.heap.now before c.args.bricks.now empty c.args.queue.now
    c.args.g c.args.e c.args.low c.args.from s c.info-end.ensures.heap c.boundaries-start1.result
    c.boundaries-start1.ensures c.info-end.result c.info-end.ensures.value in
    low-covered setting

pub plan_part-older-requires : goal.plan_part-older-requires
plan_part-older-requires c =
    let (old, before, empty, s) = c.requires.can in
    let setting = setting_of c.args.types.now old c.args.heap.now before c.args.bricks.now empty c.args.queue.now
    c.args.g c.args.e c.args.low c.args.from s c.info-end.ensures.heap c.boundaries-start1.result
    c.boundaries-start1.ensures c.info-end.result c.info-end.ensures.value in
    let writing = c.new-writer.ensures.writing c.args.heap.now (part setting) (part-lies setting) refl refl
    (part-covered setting) in
    let lays = older-lays setting c.new-writer.new.bricks c.new-writer.result c.new-writer.ensures.bricks
    c.new-writer.ensures.value writing in
    record { part = (old, older_around setting, starts setting, free setting, part setting, lays) }

pub raised_to-middle-requires : goal.raised_to-middle-requires
raised_to-middle-requires c =
    let (old, before, empty, s) = c.requires.can in
    let setting = setting_of c.args.types.now old c.args.heap.now before c.args.bricks.now empty c.args.queue.now
    c.args.g c.args.e c.args.low c.args.from s c.info-end.ensures.heap c.boundaries-start1.result
    c.boundaries-start1.ensures c.info-end.result c.info-end.ensures.value in
    let writing = c.new-writer.ensures.writing c.args.heap.now (part setting) (part-lies setting) refl refl
    (part-covered setting) in
    let lays = older-lays setting c.new-writer.new.bricks c.new-writer.result c.new-writer.ensures.bricks
    c.new-writer.ensures.value writing in
    let mid : Written = written c.plan_part-older.new.heap c.plan_part-older.new.bricks c.plan_part-older.new.queue
    c.plan_part-older.new.laying.writer in
    let laid = c.plan_part-older.ensures.laid old (older_around setting) (starts setting) (free setting) (part setting)
    lays in
    let is = between setting c.new-writer.new.bricks c.new-writer.result c.new-writer.ensures.bricks
    c.new-writer.ensures.value writing mid c.plan_part-older.new.laying.below c.plan_part-older.new.laying.at laid in
    record { between = (c.args.types.now, old, c.args.g, is) }

pub plan_part-young-requires : goal.plan_part-young-requires
plan_part-young-requires c =
    let (old, before, empty, s) = c.requires.can in
    let setting = setting_of c.args.types.now old c.args.heap.now before c.args.bricks.now empty c.args.queue.now
    c.args.g c.args.e c.args.low c.args.from s c.info-end.ensures.heap c.boundaries-start1.result
    c.boundaries-start1.ensures c.info-end.result c.info-end.ensures.value in
    let writing = c.new-writer.ensures.writing c.args.heap.now (part setting) (part-lies setting) refl refl
    (part-covered setting) in
    let lays = older-lays setting c.new-writer.new.bricks c.new-writer.result c.new-writer.ensures.bricks
    c.new-writer.ensures.value writing in
    let mid : Written = written c.plan_part-older.new.heap c.plan_part-older.new.bricks c.plan_part-older.new.queue
    c.plan_part-older.new.laying.writer in
    let laid = c.plan_part-older.ensures.laid old (older_around setting) (starts setting) (free setting) (part setting)
    lays in
    let is = between setting c.new-writer.new.bricks c.new-writer.result c.new-writer.ensures.bricks
    c.new-writer.ensures.value writing mid c.plan_part-older.new.laying.below c.plan_part-older.new.laying.at laid in
    let raised = c.raised_to-middle.ensures.raised c.args.types.now old c.args.g is in
    let lays2 = young-lays setting c.new-writer.new.bricks c.new-writer.result c.new-writer.ensures.bricks
    c.new-writer.ensures.value writing mid c.plan_part-older.new.laying.below c.plan_part-older.new.laying.at laid
    c.raised_to-middle.result raised in
    record {
      part = (
        old,
        around2 setting c.new-writer.new.bricks c.new-writer.result c.new-writer.ensures.bricks
            c.new-writer.ensures.value writing mid c.plan_part-older.new.laying.below c.plan_part-older.new.laying.at
            laid
            c.raised_to-middle.result raised,
        starts2 setting c.new-writer.new.bricks c.new-writer.result
            c.new-writer.ensures.bricks c.new-writer.ensures.value writing mid c.plan_part-older.new.laying.below
            c.plan_part-older.new.laying.at laid c.raised_to-middle.result raised,
        free2 setting c.new-writer.new.bricks
            c.new-writer.result c.new-writer.ensures.bricks c.new-writer.ensures.value writing mid
            c.plan_part-older.new.laying.below c.plan_part-older.new.laying.at laid c.raised_to-middle.result raised,
        part2 setting c.new-writer.new.bricks c.new-writer.result c.new-writer.ensures.bricks c.new-writer.ensures.value
            writing mid c.plan_part-older.new.laying.below c.plan_part-older.new.laying.at laid
            c.raised_to-middle.result
            raised,
        lays2,
      );
    }

pub finish-requires-clause-can : goal.finish-requires-clause-can
finish-requires-clause-can c =
    let (old, before, empty, s) = c.requires.can in
    let setting = setting_of c.args.types.now old c.args.heap.now before c.args.bricks.now empty c.args.queue.now
    c.args.g c.args.e c.args.low c.args.from s c.info-end.ensures.heap c.boundaries-start1.result
    c.boundaries-start1.ensures c.info-end.result c.info-end.ensures.value in
    let writing = c.new-writer.ensures.writing c.args.heap.now (part setting) (part-lies setting) refl refl
    (part-covered setting) in
    let lays = older-lays setting c.new-writer.new.bricks c.new-writer.result c.new-writer.ensures.bricks
    c.new-writer.ensures.value writing in
    let mid : Written = written c.plan_part-older.new.heap c.plan_part-older.new.bricks c.plan_part-older.new.queue
    c.plan_part-older.new.laying.writer in
    let laid = c.plan_part-older.ensures.laid old (older_around setting) (starts setting) (free setting) (part setting)
    lays in
    let is = between setting c.new-writer.new.bricks c.new-writer.result c.new-writer.ensures.bricks
    c.new-writer.ensures.value writing mid c.plan_part-older.new.laying.below c.plan_part-older.new.laying.at laid in
    let raised = c.raised_to-middle.ensures.raised c.args.types.now old c.args.g is in
    let lays2 = young-lays setting c.new-writer.new.bricks c.new-writer.result c.new-writer.ensures.bricks
    c.new-writer.ensures.value writing mid c.plan_part-older.new.laying.below c.plan_part-older.new.laying.at laid
    c.raised_to-middle.result raised in
    let next : Written = written c.plan_part-young.new.heap c.plan_part-young.new.bricks c.plan_part-young.new.queue
    c.plan_part-young.new.laying.writer in
    let laid2 = c.plan_part-young.ensures.laid old (around2 setting c.new-writer.new.bricks c.new-writer.result
    c.new-writer.ensures.bricks c.new-writer.ensures.value writing mid c.plan_part-older.new.laying.below
    c.plan_part-older.new.laying.at laid c.raised_to-middle.result raised) (starts2 setting c.new-writer.new.bricks
    c.new-writer.result c.new-writer.ensures.bricks c.new-writer.ensures.value writing mid
    c.plan_part-older.new.laying.below c.plan_part-older.new.laying.at laid c.raised_to-middle.result raised)
    (free2 setting c.new-writer.new.bricks c.new-writer.result c.new-writer.ensures.bricks
    c.new-writer.ensures.value writing mid c.plan_part-older.new.laying.below c.plan_part-older.new.laying.at laid
    c.raised_to-middle.result raised) (part2 setting c.new-writer.new.bricks c.new-writer.result
    c.new-writer.ensures.bricks c.new-writer.ensures.value writing mid c.plan_part-older.new.laying.below
    c.plan_part-older.new.laying.at laid c.raised_to-middle.result raised) lays2 in
    part-ends setting c.new-writer.new.bricks c.new-writer.result c.new-writer.ensures.bricks c.new-writer.ensures.value
    writing mid c.plan_part-older.new.laying.below c.plan_part-older.new.laying.at laid c.raised_to-middle.result raised
    next
    c.plan_part-young.new.laying.below c.plan_part-young.new.laying.at laid2

pub past_pins-requires : goal.past_pins-requires
past_pins-requires c =
    let (old, before, empty, s) = c.requires.can in
    let setting = setting_of c.args.types.now old c.args.heap.now before c.args.bricks.now empty c.args.queue.now
    c.args.g c.args.e c.args.low c.args.from s c.info-end.ensures.heap c.boundaries-start1.result
    c.boundaries-start1.ensures c.info-end.result c.info-end.ensures.value in
    let writing = c.new-writer.ensures.writing c.args.heap.now (part setting) (part-lies setting) refl refl
    (part-covered setting) in
    let lays = older-lays setting c.new-writer.new.bricks c.new-writer.result c.new-writer.ensures.bricks
    c.new-writer.ensures.value writing in
    let mid : Written = written c.plan_part-older.new.heap c.plan_part-older.new.bricks c.plan_part-older.new.queue
    c.plan_part-older.new.laying.writer in
    let laid = c.plan_part-older.ensures.laid old (older_around setting) (starts setting) (free setting) (part setting)
    lays in
    let is = between setting c.new-writer.new.bricks c.new-writer.result c.new-writer.ensures.bricks
    c.new-writer.ensures.value writing mid c.plan_part-older.new.laying.below c.plan_part-older.new.laying.at laid in
    let raised = c.raised_to-middle.ensures.raised c.args.types.now old c.args.g is in
    let lays2 = young-lays setting c.new-writer.new.bricks c.new-writer.result c.new-writer.ensures.bricks
    c.new-writer.ensures.value writing mid c.plan_part-older.new.laying.below c.plan_part-older.new.laying.at laid
    c.raised_to-middle.result raised in
    let next : Written = written c.plan_part-young.new.heap c.plan_part-young.new.bricks c.plan_part-young.new.queue
    c.plan_part-young.new.laying.writer in
    let laid2 = c.plan_part-young.ensures.laid old (around2 setting c.new-writer.new.bricks c.new-writer.result
    c.new-writer.ensures.bricks c.new-writer.ensures.value writing mid c.plan_part-older.new.laying.below
    c.plan_part-older.new.laying.at laid c.raised_to-middle.result raised) (starts2 setting c.new-writer.new.bricks
    c.new-writer.result c.new-writer.ensures.bricks c.new-writer.ensures.value writing mid
    c.plan_part-older.new.laying.below c.plan_part-older.new.laying.at laid c.raised_to-middle.result raised)
    (free2 setting c.new-writer.new.bricks c.new-writer.result c.new-writer.ensures.bricks
    c.new-writer.ensures.value writing mid c.plan_part-older.new.laying.below c.plan_part-older.new.laying.at laid
    c.raised_to-middle.result raised) (part2 setting c.new-writer.new.bricks c.new-writer.result
    c.new-writer.ensures.bricks c.new-writer.ensures.value writing mid c.plan_part-older.new.laying.below
    c.plan_part-older.new.laying.at laid c.raised_to-middle.result raised) lays2 in
    record { behind = laid2.planned.behind }

pub returns : goal.returns
returns c = record {
  laid = λ old before empty s.
      let setting = setting_of c.args.types.now old c.args.heap.now before c.args.bricks.now empty c.args.queue.now
      c.args.g c.args.e c.args.low c.args.from s c.info-end.ensures.heap c.boundaries-start1.result
      c.boundaries-start1.ensures c.info-end.result c.info-end.ensures.value in
      let writing = c.new-writer.ensures.writing c.args.heap.now (part setting) (part-lies setting) refl refl
      (part-covered setting) in
      let lays = older-lays setting c.new-writer.new.bricks c.new-writer.result c.new-writer.ensures.bricks
      c.new-writer.ensures.value writing in
      let mid : Written = written c.plan_part-older.new.heap c.plan_part-older.new.bricks c.plan_part-older.new.queue
      c.plan_part-older.new.laying.writer in
      let laid = c.plan_part-older.ensures.laid old (older_around setting) (starts setting) (free setting) (part
      setting)
      lays
      in
      let is = between setting c.new-writer.new.bricks c.new-writer.result c.new-writer.ensures.bricks
      c.new-writer.ensures.value writing mid c.plan_part-older.new.laying.below c.plan_part-older.new.laying.at laid in
      let raised = c.raised_to-middle.ensures.raised c.args.types.now old c.args.g is in
      let lays2 = young-lays setting c.new-writer.new.bricks c.new-writer.result c.new-writer.ensures.bricks
      c.new-writer.ensures.value writing mid c.plan_part-older.new.laying.below c.plan_part-older.new.laying.at laid
      c.raised_to-middle.result raised in
      let next : Written = written c.plan_part-young.new.heap c.plan_part-young.new.bricks c.plan_part-young.new.queue
      c.plan_part-young.new.laying.writer in
      let laid2 = c.plan_part-young.ensures.laid old (around2 setting c.new-writer.new.bricks c.new-writer.result
      c.new-writer.ensures.bricks c.new-writer.ensures.value writing mid c.plan_part-older.new.laying.below
      c.plan_part-older.new.laying.at laid c.raised_to-middle.result raised) (starts2 setting c.new-writer.new.bricks
      c.new-writer.result c.new-writer.ensures.bricks c.new-writer.ensures.value writing mid
      c.plan_part-older.new.laying.below c.plan_part-older.new.laying.at laid c.raised_to-middle.result raised)
      (free2 setting c.new-writer.new.bricks c.new-writer.result c.new-writer.ensures.bricks
      c.new-writer.ensures.value writing mid c.plan_part-older.new.laying.below c.plan_part-older.new.laying.at laid
      c.raised_to-middle.result raised) (part2 setting c.new-writer.new.bricks c.new-writer.result
      c.new-writer.ensures.bricks c.new-writer.ensures.value writing mid c.plan_part-older.new.laying.below
      c.plan_part-older.new.laying.at laid c.raised_to-middle.result raised) lays2 in
      let first : c.boundaries-start1.result.0 ≡ old.start1 = ap (λ (b : ℕ × ℕ). b.0) c.boundaries-start1.ensures
      ∙ ap (λ (h : HeapView). h.start1) s.laid.words.shape.others in
      let boundary : c.if-g-eq0.boundary ≡ (if c.args.g == 0 then old.start1 else c.raised_to-middle.result.place) =
      elim c.if-g-eq0.branch [
        | then-g-eq0 b ↦ b.boundary-is ∙ first
            ∙ sym (ap (λ (t : Bool). if t then old.start1 else c.raised_to-middle.result.place)
            (eq-eqb c.args.g 0 b.if-g-eq0.true))
        | else-g-eq0 b ↦ b.boundary-is
            ∙ sym (ap (λ (t : Bool). if t then old.start1 else c.raised_to-middle.result.place)
            (ne_eqb c.args.g 0 b.if-g-eq0.false))
      ] in
      all-laid setting c.new-writer.new.bricks c.new-writer.result c.new-writer.ensures.bricks
      c.new-writer.ensures.value
      writing mid c.plan_part-older.new.laying.below c.plan_part-older.new.laying.at laid c.raised_to-middle.result
      raised
      next
      c.plan_part-young.new.laying.below c.plan_part-young.new.laying.at laid2 c.finish.new.heap c.finish.new.bricks
      c.finish.ensures.planned c.finish.ensures.words c.plan_part-older.ensures.shape c.plan_part-young.ensures.shape
      c.finish.ensures.shape c.finish.ensures.entries
      c.plan_part-older.ensures.spans c.plan_part-young.ensures.spans c.finish.ensures.spans c.if-g-eq0.boundary
      boundary
      c.past_pins.result c.past_pins.ensures.raised;
  counted = λ old before empty s.
      let setting = setting_of c.args.types.now old c.args.heap.now before c.args.bricks.now empty c.args.queue.now
      c.args.g c.args.e c.args.low c.args.from s c.info-end.ensures.heap c.boundaries-start1.result
      c.boundaries-start1.ensures c.info-end.result c.info-end.ensures.value in
      let writing = c.new-writer.ensures.writing c.args.heap.now (part setting) (part-lies setting) refl refl
      (part-covered setting) in
      let lays = older-lays setting c.new-writer.new.bricks c.new-writer.result c.new-writer.ensures.bricks
      c.new-writer.ensures.value writing in
      let mid : Written = written c.plan_part-older.new.heap c.plan_part-older.new.bricks c.plan_part-older.new.queue
      c.plan_part-older.new.laying.writer in
      let laid = c.plan_part-older.ensures.laid old (older_around setting) (starts setting) (free setting) (part
      setting)
      lays
      in
      let is = between setting c.new-writer.new.bricks c.new-writer.result c.new-writer.ensures.bricks
      c.new-writer.ensures.value writing mid c.plan_part-older.new.laying.below c.plan_part-older.new.laying.at laid in
      let raised = c.raised_to-middle.ensures.raised c.args.types.now old c.args.g is in
      let lays2 = young-lays setting c.new-writer.new.bricks c.new-writer.result c.new-writer.ensures.bricks
      c.new-writer.ensures.value writing mid c.plan_part-older.new.laying.below c.plan_part-older.new.laying.at laid
      c.raised_to-middle.result raised in
      let first = c.plan_part-older.ensures.counted old (older_around setting) (starts setting) (free setting)
      (part setting) lays in
      let second = c.plan_part-young.ensures.counted old (around2 setting c.new-writer.new.bricks c.new-writer.result
      c.new-writer.ensures.bricks c.new-writer.ensures.value writing mid c.plan_part-older.new.laying.below
      c.plan_part-older.new.laying.at laid c.raised_to-middle.result raised) (starts2 setting c.new-writer.new.bricks
      c.new-writer.result c.new-writer.ensures.bricks c.new-writer.ensures.value writing mid
      c.plan_part-older.new.laying.below c.plan_part-older.new.laying.at laid c.raised_to-middle.result raised)
      (free2 setting c.new-writer.new.bricks c.new-writer.result c.new-writer.ensures.bricks
      c.new-writer.ensures.value writing mid c.plan_part-older.new.laying.below c.plan_part-older.new.laying.at laid
      c.raised_to-middle.result raised) (part2 setting c.new-writer.new.bricks c.new-writer.result
      c.new-writer.ensures.bricks c.new-writer.ensures.value writing mid c.plan_part-older.new.laying.below
      c.plan_part-older.new.laying.at laid c.raised_to-middle.result raised) lays2 in
      let (is, kept, freed) = two-counted c.args.types.now old c.args.e c.args.low c.boundaries-start1.result.1
      c.info-end.result.end c.plan_part-older.result c.plan_part-young.result first second in
      let end-is = setting.end-is in (
        c.plus.ensures ∙ is ∙ ap₂ (λ (m n : ℕ). plus (counts_between c.args.types.now old c.args.e c.args.low m)
            (counts_between c.args.types.now old c.args.e m n)) setting.zero-is setting.end-is,
        subst (λ (d : Counts). d.kept + c.args.low ≤ last_of old c.args.e) (sym c.plus.ensures) (omega (
          arith,
          kept,
          end-is,
        )),
        subst (λ (d : Counts). d.freed + c.args.low ≤ last_of old c.args.e) (sym c.plus.ensures) (omega (
          arith,
          freed,
          end-is,
        )),
      );
}

pub plus-requires-clause-kept : goal.plus-requires-clause-kept
plus-requires-clause-kept c =
    let (old, before, empty, s) = c.requires.can in
    let setting = setting_of c.args.types.now old c.args.heap.now before c.args.bricks.now empty c.args.queue.now
    c.args.g c.args.e c.args.low c.args.from s c.info-end.ensures.heap c.boundaries-start1.result
    c.boundaries-start1.ensures c.info-end.result c.info-end.ensures.value in
    let writing = c.new-writer.ensures.writing c.args.heap.now (part setting) (part-lies setting) refl refl
    (part-covered setting) in
    let lays = older-lays setting c.new-writer.new.bricks c.new-writer.result c.new-writer.ensures.bricks
    c.new-writer.ensures.value writing in
    let mid : Written = written c.plan_part-older.new.heap c.plan_part-older.new.bricks c.plan_part-older.new.queue
    c.plan_part-older.new.laying.writer in
    let laid = c.plan_part-older.ensures.laid old (older_around setting) (starts setting) (free setting) (part setting)
    lays
    in
    let is = between setting c.new-writer.new.bricks c.new-writer.result c.new-writer.ensures.bricks
    c.new-writer.ensures.value writing mid c.plan_part-older.new.laying.below c.plan_part-older.new.laying.at laid in
    let raised = c.raised_to-middle.ensures.raised c.args.types.now old c.args.g is in
    let lays2 = young-lays setting c.new-writer.new.bricks c.new-writer.result c.new-writer.ensures.bricks
    c.new-writer.ensures.value writing mid c.plan_part-older.new.laying.below c.plan_part-older.new.laying.at laid
    c.raised_to-middle.result raised in
    let first = c.plan_part-older.ensures.counted old (older_around setting) (starts setting) (free setting)
    (part setting) lays in
    let second = c.plan_part-young.ensures.counted old (around2 setting c.new-writer.new.bricks c.new-writer.result
    c.new-writer.ensures.bricks c.new-writer.ensures.value writing mid c.plan_part-older.new.laying.below
    c.plan_part-older.new.laying.at laid c.raised_to-middle.result raised) (starts2 setting c.new-writer.new.bricks
    c.new-writer.result c.new-writer.ensures.bricks c.new-writer.ensures.value writing mid
    c.plan_part-older.new.laying.below c.plan_part-older.new.laying.at laid c.raised_to-middle.result raised)
    (free2 setting c.new-writer.new.bricks c.new-writer.result c.new-writer.ensures.bricks
    c.new-writer.ensures.value writing mid c.plan_part-older.new.laying.below c.plan_part-older.new.laying.at laid
    c.raised_to-middle.result raised) (part2 setting c.new-writer.new.bricks c.new-writer.result
    c.new-writer.ensures.bricks c.new-writer.ensures.value writing mid c.plan_part-older.new.laying.below
    c.plan_part-older.new.laying.at laid c.raised_to-middle.result raised) lays2 in
    let (is, kept, freed) = two-counted c.args.types.now old c.args.e c.args.low c.boundaries-start1.result.1
    c.info-end.result.end c.plan_part-older.result c.plan_part-young.result first second in
    let high = (can setting).young_scan.high in
    let end = setting.end-is in
    omega (arith, kept, high, end)

pub plus-requires-clause-freed : goal.plus-requires-clause-freed
plus-requires-clause-freed c =
    let (old, before, empty, s) = c.requires.can in
    let setting = setting_of c.args.types.now old c.args.heap.now before c.args.bricks.now empty c.args.queue.now
    c.args.g c.args.e c.args.low c.args.from s c.info-end.ensures.heap c.boundaries-start1.result
    c.boundaries-start1.ensures c.info-end.result c.info-end.ensures.value in
    let writing = c.new-writer.ensures.writing c.args.heap.now (part setting) (part-lies setting) refl refl
    (part-covered setting) in
    let lays = older-lays setting c.new-writer.new.bricks c.new-writer.result c.new-writer.ensures.bricks
    c.new-writer.ensures.value writing in
    let mid : Written = written c.plan_part-older.new.heap c.plan_part-older.new.bricks c.plan_part-older.new.queue
    c.plan_part-older.new.laying.writer in
    let laid = c.plan_part-older.ensures.laid old (older_around setting) (starts setting) (free setting) (part setting)
    lays
    in
    let is = between setting c.new-writer.new.bricks c.new-writer.result c.new-writer.ensures.bricks
    c.new-writer.ensures.value writing mid c.plan_part-older.new.laying.below c.plan_part-older.new.laying.at laid in
    let raised = c.raised_to-middle.ensures.raised c.args.types.now old c.args.g is in
    let lays2 = young-lays setting c.new-writer.new.bricks c.new-writer.result c.new-writer.ensures.bricks
    c.new-writer.ensures.value writing mid c.plan_part-older.new.laying.below c.plan_part-older.new.laying.at laid
    c.raised_to-middle.result raised in
    let first = c.plan_part-older.ensures.counted old (older_around setting) (starts setting) (free setting)
    (part setting) lays in
    let second = c.plan_part-young.ensures.counted old (around2 setting c.new-writer.new.bricks c.new-writer.result
    c.new-writer.ensures.bricks c.new-writer.ensures.value writing mid c.plan_part-older.new.laying.below
    c.plan_part-older.new.laying.at laid c.raised_to-middle.result raised) (starts2 setting c.new-writer.new.bricks
    c.new-writer.result c.new-writer.ensures.bricks c.new-writer.ensures.value writing mid
    c.plan_part-older.new.laying.below c.plan_part-older.new.laying.at laid c.raised_to-middle.result raised)
    (free2 setting c.new-writer.new.bricks c.new-writer.result c.new-writer.ensures.bricks
    c.new-writer.ensures.value writing mid c.plan_part-older.new.laying.below c.plan_part-older.new.laying.at laid
    c.raised_to-middle.result raised) (part2 setting c.new-writer.new.bricks c.new-writer.result
    c.new-writer.ensures.bricks c.new-writer.ensures.value writing mid c.plan_part-older.new.laying.below
    c.plan_part-older.new.laying.at laid c.raised_to-middle.result raised) lays2 in
    let (is, kept, freed) = two-counted c.args.types.now old c.args.e c.args.low c.boundaries-start1.result.1
    c.info-end.result.end c.plan_part-older.result c.plan_part-young.result first second in
    let high = (can setting).young_scan.high in
    let end = setting.end-is in
    omega (arith, freed, high, end)
