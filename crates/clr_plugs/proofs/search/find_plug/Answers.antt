use Rattle.std.proofs.Common.{ap, sym, ◌∙◌, rules}
use Rattle.std.specs.Int.{cast_signed, w64}
use mir.Val.{SFits}
use Rattle.std.proofs.lemmas.Int.{to_z-of_z}
use Rattle.clr_plugs.proofs.Nearest.{found_words, held_at, nothing_found, plug_found}
use Rattle.clr_plugs.proofs.search.find_plug.Goals as goal

pub segment_of-k-requires : goal.segment_of-k-requires
segment_of-k-requires g c = (held_at c.args.heap.now c.args.bricks.now c.args.a c.lawful.ensures c.requires).word

pub greatest_start-start-requires : goal.greatest_start-start-requires
greatest_start-start-requires g c =
    let held = held_at c.args.heap.now c.args.bricks.now c.args.a c.lawful.ensures c.requires in
    rw (c.segment_of-k.ensures, ← held.segment) (record {
      here = held.here;
      below = held.below;
      some = held.some;
      heap = c.lawful.ensures;
    })

pub word_at-requires : goal.word_at-requires
word_at-requires g c =
    let i = c.requires in
    let held = held_at c.args.heap.now c.args.bricks.now c.args.a c.lawful.ensures i in
    let w = found_words c.args.heap.now c.args.bricks.now c.args.a c.greatest_start-start.result.0
    c.lawful.ensures i c.if-start-eq0.false (c.greatest_start-start.ensures.found i.part i.planned i.low i.high) in
    record { word = w.distance; segment = c.segment_of-k.ensures ∙ sym held.segment ∙ w.distance_in }

pub returns-then-start-eq0 : goal.returns-then-start-eq0
returns-then-start-eq0 g c = record {
  found = λ part plan low high. nothing_found c.args.heap.now c.args.bricks.now part plan c.args.a
      c.greatest_start-start.result.0 c.if-start-eq0.true (c.greatest_start-start.ensures.found part plan low high);
  steps = c.greatest_start-start.ensures.steps;
}

pub returns : goal.returns
returns g c = record {
  found = λ part plan low high.
      let fits : SFits w64 c.cast_signed.result = search rules in
      let read = to_z-of_z w64 c.cast_signed.result fits ∙ c.cast_signed.ensures
      ∙ ap (cast_signed w64) c.word_at.ensures in
      plug_found c.args.heap.now c.args.bricks.now part plan c.args.a c.greatest_start-start.result.0
      c.greatest_start-start.result.1 _
      c.if-start-eq0.false (c.greatest_start-start.ensures.found part plan low high) read
      (c.greatest_start-start.ensures.alone part plan low high) c.greatest_start-start.ensures.stop;
  steps = c.greatest_start-start.ensures.steps;
}
