use Rattle.std.proofs.Common.{sym, ◌∙◌}
use Rattle.clr_evacuate.proofs.Places.{has_gone, header_has, header_near, null_stays, object_stays}
use Rattle.clr_evacuate.proofs.Places.{place_above, place_has, stays_free}
use Rattle.clr_evacuate.proofs.forwarding.forward.Goals as goal

pub segment_of-k-requires : goal.segment_of-k-requires
segment_of-k-requires c =
    place_has c.args.types.now c.args.heap.now c.args.place c.requires.heap c.requires.held c.requires.can
    c.if-place-eq0.false

pub word_at-requires-clause-word : goal.word_at-requires-clause-word
word_at-requires-clause-word c =
    place_has c.args.types.now c.args.heap.now c.args.place c.requires.heap c.requires.held c.requires.can
    c.if-place-eq0.false

pub overflow_sub-place : goal.overflow_sub-place
overflow_sub-place c =
    place_above c.args.types.now c.args.heap.now c.args.place c.requires.heap c.requires.held c.requires.can
    c.if-place-eq0.false

pub word_at-to-requires : goal.word_at-to-requires
word_at-to-requires c = record {
  word = header_has c.args.types.now c.args.heap.now c.args.place c.requires.heap c.requires.held c.requires.can
      c.if-place-eq0.false;
  segment = c.segment_of-k.ensures ∙ header_near c.args.types.now c.args.heap.now c.args.place c.requires.heap
      c.requires.held c.requires.can c.if-place-eq0.false;
}

pub returns-then-place-eq0 : goal.returns-then-place-eq0
returns-then-place-eq0 c = λ go leads.
    null_stays c.args.types.now c.args.heap.now c.args.place c.requires.heap c.requires.held c.requires.can go leads
    c.if-place-eq0.true

pub returns-then-word_at-ne-FREE_MT : goal.returns-then-word_at-ne-FREE_MT
returns-then-word_at-ne-FREE_MT c = λ go leads.
    object_stays c.args.types.now c.args.heap.now c.args.place c.requires.heap c.requires.held c.requires.can go leads
    c.if-place-eq0.false (λ e. c.if-word_at-ne-FREE_MT.true (c.word_at.ensures ∙ e))

pub returns-then-to-eq0 : goal.returns-then-to-eq0
returns-then-to-eq0 c = λ go leads.
    stays_free c.args.types.now c.args.heap.now c.args.place c.requires.heap c.requires.held c.requires.can go leads
    c.if-place-eq0.false (sym c.word_at.ensures ∙ c.if-word_at-ne-FREE_MT.false)
    (sym c.word_at-to.ensures ∙ c.if-to-eq0.true)

pub returns-else-to-eq0 : goal.returns-else-to-eq0
returns-else-to-eq0 c = λ go leads.
    c.word_at-to.ensures
    ∙ has_gone c.args.types.now c.args.heap.now c.args.place c.requires.heap c.requires.held c.requires.can go leads
    c.if-place-eq0.false (sym c.word_at.ensures ∙ c.if-word_at-ne-FREE_MT.false)
    (λ e. c.if-to-eq0.false (c.word_at-to.ensures ∙ e))
