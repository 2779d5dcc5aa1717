use Rattle.std.proofs.Common.{◌<◌, ◌^◌, ap, ◌∙◌, arith, rules, inl, inr}
use Rattle.std.specs.Int.{cast_unsigned, w64}
use mir.Val.{SFits}
use Rattle.std.proofs.lemmas.Int.{to_z-of_z}
use Rattle.clr_heap.specs.View.{word_of}
use Rattle.clr_plugs.proofs.Information.{children_is, distance_is, first_can, gap_is, info_back, info_words}
use Rattle.clr_plugs.proofs.Information.{others_stay, second_can, written, written_shape}
use Rattle.clr_plugs.proofs.words.put_info.Goals as goal

pub set_word_at-requires-2 : goal.set_word_at-requires-2
set_word_at-requires-2 c =
    let can = first_can c.args.heap.now c.args.plug c.args.info.gap 0 0
    (info_words c.args.heap.now c.args.plug c.lawful.ensures c.requires) in
    record {
      word = rw c.set_word_at.ensures can.0;
      segment = rw c.set_word_at.ensures (c.segment_near-k.ensures ∙ can.1);
    }

pub set_word_at-requires-3 : goal.set_word_at-requires-3
set_word_at-requires-3 c =
    let can = second_can c.args.heap.now c.args.plug c.args.info.gap c.cast_unsigned.result 0
    (info_words c.args.heap.now c.args.plug c.lawful.ensures c.requires) in
    record {
      word = rw (c.set_word_at-2.ensures, c.set_word_at.ensures) can.0;
      segment = rw (c.set_word_at-2.ensures, c.set_word_at.ensures) (c.segment_near-k.ensures ∙ can.1);
    }

pub returns : goal.returns
returns c =
    let h = c.args.heap.now in
    let plug = c.args.plug in
    let w = info_words h plug c.lawful.ensures c.requires in
    let gap = c.args.info.gap in
    let distance = c.cast_unsigned.result in
    let children = c.both_children.result in
    let fits : SFits w64 c.args.info.distance = search rules in
    let small : c.args.info.left < 2 ^ 32 = search rules in
    let e = c.set_word_at-3.ensures in
    rw (c.set_word_at-3.ensures, c.set_word_at-2.ensures, c.set_word_at.ensures) (record {
      told = info_back (word_of (written h plug gap distance children)) plug c.args.info
          (gap_is h plug gap distance children w)
          (distance_is h plug gap distance children w ∙ c.cast_unsigned.ensures
          ∙ ap (cast_unsigned w64) (to_z-of_z w64 c.args.info.distance fits))
          (children_is h plug gap distance children w ∙ c.both_children.ensures) fits (omega arith);
      words = λ b z out. others_stay h plug gap distance children w b z
          (λ n. elim out [ inl l ↦ omega arith | inr l ↦ omega arith ])
          (λ n. elim out [ inl l ↦ omega arith | inr l ↦ omega arith ])
          (λ n. elim out [ inl l ↦ omega arith | inr l ↦ omega arith ]);
      shape = written_shape h plug gap distance children w;
    })
