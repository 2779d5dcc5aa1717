use Rattle.std.proofs.Common.{◌∙◌, arith, inl, inr}
use Rattle.clr_plugs.proofs.Information.{children_is, distance_is, first_can, gap_is, info_words, others_stay}
use Rattle.clr_plugs.proofs.Information.{second_can, written_shape}
use Rattle.clr_compact.proofs.whole.put_before.Goals as goal

pub set_word_at-requires-2 : goal.set_word_at-requires-2
set_word_at-requires-2 c =
    let can = first_can c.args.heap.now c.args.place c.args.words.w0 0 0
    (info_words c.args.heap.now c.args.place c.requires.heap c.requires.info) in
    record {
      word = rw c.set_word_at.ensures can.0;
      segment = rw c.set_word_at.ensures (c.segment_of-k.ensures ∙ can.1);
    }

pub set_word_at-requires-3 : goal.set_word_at-requires-3
set_word_at-requires-3 c =
    let can = second_can c.args.heap.now c.args.place c.args.words.w0 c.args.words.w1 0
    (info_words c.args.heap.now c.args.place c.requires.heap c.requires.info) in
    record {
      word = rw (c.set_word_at-2.ensures, c.set_word_at.ensures) can.0;
      segment = rw (c.set_word_at-2.ensures, c.set_word_at.ensures) (c.segment_of-k.ensures ∙ can.1);
    }

pub returns : goal.returns
returns c =
    let h = c.args.heap.now in
    let p = c.args.place in
    let w = info_words h p c.requires.heap c.requires.info in
    let w0 = c.args.words.w0 in
    let w1 = c.args.words.w1 in
    let w2 = c.args.words.w2 in
    rw (c.set_word_at-3.ensures, c.set_word_at-2.ensures, c.set_word_at.ensures) (record {
      first = gap_is h p w0 w1 w2 w;
      second = distance_is h p w0 w1 w2 w;
      third = children_is h p w0 w1 w2 w;
      others = λ b z out. others_stay h p w0 w1 w2 w b z (λ n. elim out [ inl l ↦ omega arith | inr l ↦ omega arith ])
          (λ n. elim out [ inl l ↦ omega arith | inr l ↦ omega arith ])
          (λ n. elim out [ inl l ↦ omega arith | inr l ↦ omega arith ]);
      shape = written_shape h p w0 w1 w2 w;
    })
