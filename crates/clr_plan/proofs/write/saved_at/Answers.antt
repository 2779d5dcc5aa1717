use Rattle.std.proofs.Common.{◌∙◌}
use Rattle.clr_plugs.proofs.Information.{info_words}
use Rattle.clr_plan.proofs.write.saved_at.Goals as goal

pub word_at-requires-2-clause-word : goal.word_at-requires-2-clause-word
word_at-requires-2-clause-word c =
    (info_words c.args.heap.now c.args.plug c.requires.heap c.requires.info).distance.word

pub word_at-requires-2-clause-segment : goal.word_at-requires-2-clause-segment
word_at-requires-2-clause-segment c = c.segment_near-k.ensures
    ∙ (info_words c.args.heap.now c.args.plug c.requires.heap c.requires.info).distance.same

pub word_at-requires-3-clause-word : goal.word_at-requires-3-clause-word
word_at-requires-3-clause-word c =
    (info_words c.args.heap.now c.args.plug c.requires.heap c.requires.info).children.word

pub word_at-requires-3-clause-segment : goal.word_at-requires-3-clause-segment
word_at-requires-3-clause-segment c = c.segment_near-k.ensures
    ∙ (info_words c.args.heap.now c.args.plug c.requires.heap c.requires.info).children.same
