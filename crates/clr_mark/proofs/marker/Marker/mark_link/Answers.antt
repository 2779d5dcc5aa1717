use Rattle.std.proofs.Common.{◌≡◌, ℕ, ◌+◌, [], ap, sym, ◌∙◌, refl, false, inr}
use Rattle.std.proofs.lemmas.Bool.{both_ways}
use Rattle.clr_heap.specs.Memories.{memory_index}
use Rattle.clr_heap.specs.Parts.{unmarked}
use Rattle.clr_heap.specs.View.{HeapView, stored, word_of}
use Rattle.clr_heap.proofs.Storing.{memory_index-store_in}
use Rattle.clr_view.specs.Marks.{has_mark}
use Rattle.clr_mark.specs.Marks.{is_condemned_place}
use Rattle.clr_mark.specs.Markings.{with_target}
use Rattle.clr_mark.proofs.Chains.{bare_word, fewer_unmarked, waiting_grayed, waiting_marked}
use Rattle.clr_mark.proofs.Graying.{object_word}
use Rattle.clr_mark.proofs.Meeting.{closed_then, gathered_then, marked_then, met-refl, met_grayed, word_then}
use Rattle.clr_mark.proofs.marker.Marker.mark_link.Goals as goal

pub segment_near-k-requires : goal.segment_near-k-requires
segment_near-k-requires c =
    let t = c.requires.named in
    object_word c.args.types.now c.args.heap.now 0 c.args.link.target c.requires.closed.heap c.requires.closed.held
    (c.requires.closed.named t.by c.args.link.target t.named)

pub word_at-word-requires-clause-word : goal.word_at-word-requires-clause-word
word_at-word-requires-clause-word c =
    let t = c.requires.named in
    object_word c.args.types.now c.args.heap.now 0 c.args.link.target c.requires.closed.heap c.requires.closed.held
    (c.requires.closed.named t.by c.args.link.target t.named)

pub returns-then-not-is_condemned : goal.returns-then-not-is_condemned
returns-then-not-is_condemned c = record {
  met = met-refl c.args.types.now c.args.heap.now c.args.self.now [];
  marked = λ near. absurd (both_ways (is_condemned_place c.args.heap.now c.args.self.now.oldest c.args.link.target)
      (sym c.is_condemned.ensures ∙ c.if-not-is_condemned.true) near);
  stack = λ some. absurd (some refl);
  fewer = λ some. absurd (some refl);
}

pub mark_chosen-requires : goal.mark_chosen-requires
mark_chosen-requires c =
    let t = c.requires.named in
    record {
      word = object_word c.args.types.now c.args.heap.now 0 c.args.link.target c.requires.closed.heap
          c.requires.closed.held (c.requires.closed.named t.by c.args.link.target t.named);
      segment = c.segment_near-k.ensures;
      condemned = sym c.is_condemned.ensures ∙ c.if-not-is_condemned.false;
    }

pub returns-then-word-known : goal.returns-then-word-known
returns-then-word-known c =
    let rows = c.args.types.now in
    let h = c.args.heap.now in
    let m = c.args.self.now in
    let y = c.args.link.target in
    record {
      met = met_grayed rows h c.mark_chosen.new.heap m c.mark_chosen.new.self [] c.requires.closed.heap
          c.requires.closed.held (waiting_grayed rows h m y c.requires.closed c.requires.named c.mark_chosen.new.heap
          c.mark_chosen.new.self c.mark_chosen.ensures.heap c.mark_chosen.ensures.marker);
      marked = waiting_marked rows h m y c.requires.closed c.requires.named c.mark_chosen.new.heap
          c.mark_chosen.new.self c.mark_chosen.ensures.heap c.mark_chosen.ensures.marker;
      stack = λ some. absurd (some refl);
      fewer = λ some. absurd (some refl);
    }

pub set_word_at-requires : goal.set_word_at-requires
set_word_at-requires c =
    let t = c.requires.named in
    record {
      word = object_word c.args.types.now c.args.heap.now 0 c.args.link.target c.requires.closed.heap
          c.requires.closed.held (c.requires.closed.named t.by c.args.link.target t.named);
      segment = c.segment_near-k.ensures;
    }

pub only_reference-requires : goal.only_reference-requires
only_reference-requires c =
    let rows = c.args.types.now in
    let h = c.args.heap.now in
    let m = c.args.self.now in
    let y = c.args.link.target in
    let w = c.requires.closed in
    let t = c.requires.named in
    let near = sym c.is_condemned.ensures ∙ c.if-not-is_condemned.false in
    let here : word_of h y ≡ c.args.known.mt = sym c.word_at-word.ensures ∙ c.if-word-known.false in
    let off : has_mark (word_of h y) ≡ false = ap has_mark here ∙ c.requires.bare in
    let made : c.set_word_at.new.self ≡ stored h y (word_of h y + 1) =
    c.set_word_at.ensures ∙ ap (λ (v : ℕ). stored h y (v + 1)) c.word_at-word.ensures in
    let same = word_then rows h m y [] [] w t near off c.set_word_at.new.self made in
    record {
      closed = closed_then rows h m y [] [] w t near off c.set_word_at.new.self made;
      marked = marked_then rows h m y [] [] w t near off c.set_word_at.new.self made;
      segment = c.segment_near-k.ensures
          ∙ sym (memory_index-store_in h.memories y (c.word_at-word.result + 1) y)
          ∙ ap (λ (k : HeapView). memory_index k.memories y) (sym c.set_word_at.ensures);
      run = c.requires.known.run (word_of c.set_word_at.new.self) y
          (sym same ∙ ap unmarked here ∙ bare_word c.args.known.mt c.requires.bare);
      single = c.requires.single;
    }

pub returns : goal.returns
returns c =
    let rows = c.args.types.now in
    let h = c.args.heap.now in
    let m = c.args.self.now in
    let y = c.args.link.target in
    let w = c.requires.closed in
    let t = c.requires.named in
    let near = sym c.is_condemned.ensures ∙ c.if-not-is_condemned.false in
    let here : word_of h y ≡ c.args.known.mt = sym c.word_at-word.ensures ∙ c.if-word-known.false in
    let off : has_mark (word_of h y) ≡ false = ap has_mark here ∙ c.requires.bare in
    let made : c.set_word_at.new.self ≡ stored h y (word_of h y + 1) =
    c.set_word_at.ensures ∙ ap (λ (v : ℕ). stored h y (v + 1)) c.word_at-word.ensures in
    let more = with_target [] c.only_reference.result in
    record {
      met = gathered_then rows h m y [] more w t near off c.set_word_at.new.self made (λ z i. elim i [ ])
          (λ z i. inr (c.only_reference.ensures.only z i)) c.only_reference.ensures.all;
      marked = λ _. marked_then rows h m y [] more w t near off c.set_word_at.new.self made;
      stack = λ _. refl;
      fewer = λ _. fewer_unmarked rows h c.set_word_at.new.self m.oldest y w t near off made;
    }
