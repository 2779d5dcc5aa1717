use Rattle.std.proofs.Common.{ap, ◌∙◌, sym, arith, rules}
use Rattle.std.specs.Int.{cast_signed, w64}
use mir.Val.{SFits}
use Rattle.std.proofs.lemmas.Int.{to_z-of_z}
use Rattle.clr_plugs.proofs.StepByStep.{end_plug, end_words, found_begun}
use Rattle.clr_plugs.proofs.plug_search.PlugSearch.plug.Goals as goal

pub overflow_sub-self : goal.overflow_sub-self
overflow_sub-self c =
    let (bricks, searching) = c.requires in
    let some = c.if-self-eq0.false in
    let above = (end_words c.args.heap.now bricks c.args.self (searching (found_begun c.args.self some))
    c.if-self-ne0.false some c.lawful.ensures).above in
    omega (arith, above)

pub word_at-requires : goal.word_at-requires
word_at-requires c =
    let (bricks, searching) = c.requires in
    let some = c.if-self-eq0.false in
    let words = end_words c.args.heap.now bricks c.args.self (searching (found_begun c.args.self some))
    c.if-self-ne0.false some c.lawful.ensures in
    record { word = words.distance; segment = words.distance_in }

pub returns : goal.returns
returns c =
    let some = c.if-self-eq0.false in
    record {
      found = λ bricks part searching plan low high.
          let fits : SFits w64 c.cast_signed.result = search rules in
          let read = to_z-of_z w64 c.cast_signed.result fits ∙ c.cast_signed.ensures
          ∙ ap (cast_signed w64) c.word_at.ensures in
          end_plug c.args.heap.now bricks c.args.self (searching (found_begun c.args.self some)) c.if-self-ne0.false
          some part plan low high _ read;
      begun = found_begun c.args.self some;
    }
