use Rattle.std.proofs.Common.{◌≡◌, ℕ, ◌+◌, ap, ◌∙◌, sym}
use Rattle.clr_types.specs.Bits.{has_mark}
use Rattle.clr_heap.specs.Memories.{memory_index}
use Rattle.clr_heap.specs.Parts.{unmarked}
use Rattle.clr_heap.specs.View.{HeapView, stored, word_of}
use Rattle.clr_heap.proofs.Storing.{memory_index-store_in}
use Rattle.clr_mark.proofs.Graying.{object_word}
use Rattle.clr_mark.proofs.Meeting.{closed_then, gathered_then, marked_then, met-refl, met_marked_before, waiting_then}
use Rattle.clr_mark.proofs.Meeting.{word_then}
use Rattle.clr_mark.proofs.marker.Marker.mark_and_gather_object.Goals as goal

pub word_at-word-requires-clause-word : goal.word_at-word-requires-clause-word
word_at-word-requires-clause-word c =
    let t = c.requires.named in
    object_word c.args.types.now c.args.heap.now 0 c.args.obj c.requires.closed.heap c.requires.closed.held
    (c.requires.closed.named t.by c.args.obj t.named)

pub returns-then-is_marked-clause-met : goal.returns-then-is_marked-clause-met
returns-then-is_marked-clause-met c = met-refl c.args.types.now c.args.heap.now c.args.self.now c.args.targets.now

pub returns-then-is_marked-clause-marked : goal.returns-then-is_marked-clause-marked
returns-then-is_marked-clause-marked c =
    let h = c.args.heap.now in
    let on = ap has_mark (sym c.word_at-word.ensures) ∙ sym c.is_marked.ensures ∙ c.if-is_marked.true in
    met_marked_before c.args.types.now h c.args.self.now c.args.obj c.args.targets.now c.args.targets.now
    c.requires.closed c.requires.named c.requires.condemned on

pub set_word_at-requires-clause-word : goal.set_word_at-requires-clause-word
set_word_at-requires-clause-word c =
    let t = c.requires.named in
    object_word c.args.types.now c.args.heap.now 0 c.args.obj c.requires.closed.heap c.requires.closed.held
    (c.requires.closed.named t.by c.args.obj t.named)

pub kind_like-found-requires-clause-closed : goal.kind_like-found-requires-clause-closed
kind_like-found-requires-clause-closed c =
    let rows = c.args.types.now in
    let h = c.args.heap.now in
    let off = ap has_mark (sym c.word_at-word.ensures) ∙ sym c.is_marked.ensures ∙ c.if-is_marked.false in
    let made : c.set_word_at.new.self ≡ stored h c.args.obj (word_of h c.args.obj + 1) =
    c.set_word_at.ensures ∙ ap (λ (w : ℕ). stored h c.args.obj (w + 1)) c.word_at-word.ensures in
    closed_then rows h c.args.self.now c.args.obj c.args.targets.now c.args.targets.now c.requires.closed
    c.requires.named c.requires.condemned off c.set_word_at.new.self made

pub kind_like-found-requires-clause-marked : goal.kind_like-found-requires-clause-marked
kind_like-found-requires-clause-marked c =
    let rows = c.args.types.now in
    let h = c.args.heap.now in
    let off = ap has_mark (sym c.word_at-word.ensures) ∙ sym c.is_marked.ensures ∙ c.if-is_marked.false in
    let made : c.set_word_at.new.self ≡ stored h c.args.obj (word_of h c.args.obj + 1) =
    c.set_word_at.ensures ∙ ap (λ (w : ℕ). stored h c.args.obj (w + 1)) c.word_at-word.ensures in
    marked_then rows h c.args.self.now c.args.obj c.args.targets.now c.args.targets.now c.requires.closed
    c.requires.named c.requires.condemned off c.set_word_at.new.self made

pub kind_like-found-requires-clause-segment : goal.kind_like-found-requires-clause-segment
kind_like-found-requires-clause-segment c =
    c.requires.segment
    ∙ sym (memory_index-store_in c.args.heap.now.memories c.args.obj (c.word_at-word.result + 1) c.args.obj)
    ∙ ap (λ (k : HeapView). memory_index k.memories c.args.obj) (sym c.set_word_at.ensures)

pub kind_like-found-requires-clause-word : goal.kind_like-found-requires-clause-word
kind_like-found-requires-clause-word c =
    let rows = c.args.types.now in
    let h = c.args.heap.now in
    let off = ap has_mark (sym c.word_at-word.ensures) ∙ sym c.is_marked.ensures ∙ c.if-is_marked.false in
    let made : c.set_word_at.new.self ≡ stored h c.args.obj (word_of h c.args.obj + 1) =
    c.set_word_at.ensures ∙ ap (λ (w : ℕ). stored h c.args.obj (w + 1)) c.word_at-word.ensures in
    c.unmarked-mt.ensures ∙ ap unmarked c.word_at-word.ensures
    ∙ word_then rows h c.args.self.now c.args.obj c.args.targets.now c.args.targets.now c.requires.closed
    c.requires.named c.requires.condemned off c.set_word_at.new.self made

pub add_like-requires-clause-closed : goal.add_like-requires-clause-closed
add_like-requires-clause-closed c =
    let rows = c.args.types.now in
    let h = c.args.heap.now in
    let off = ap has_mark (sym c.word_at-word.ensures) ∙ sym c.is_marked.ensures ∙ c.if-is_marked.false in
    let made : c.set_word_at.new.self ≡ stored h c.args.obj (word_of h c.args.obj + 1) =
    c.set_word_at.ensures ∙ ap (λ (w : ℕ). stored h c.args.obj (w + 1)) c.word_at-word.ensures in
    closed_then rows h c.args.self.now c.args.obj c.args.targets.now c.args.targets.now c.requires.closed
    c.requires.named c.requires.condemned off c.set_word_at.new.self made

pub add_like-requires-clause-marked : goal.add_like-requires-clause-marked
add_like-requires-clause-marked c =
    let rows = c.args.types.now in
    let h = c.args.heap.now in
    let off = ap has_mark (sym c.word_at-word.ensures) ∙ sym c.is_marked.ensures ∙ c.if-is_marked.false in
    let made : c.set_word_at.new.self ≡ stored h c.args.obj (word_of h c.args.obj + 1) =
    c.set_word_at.ensures ∙ ap (λ (w : ℕ). stored h c.args.obj (w + 1)) c.word_at-word.ensures in
    marked_then rows h c.args.self.now c.args.obj c.args.targets.now c.args.targets.now c.requires.closed
    c.requires.named c.requires.condemned off c.set_word_at.new.self made

pub add_like-requires-clause-segment : goal.add_like-requires-clause-segment
add_like-requires-clause-segment c =
    c.requires.segment
    ∙ sym (memory_index-store_in c.args.heap.now.memories c.args.obj (c.word_at-word.result + 1) c.args.obj)
    ∙ ap (λ (k : HeapView). memory_index k.memories c.args.obj) (sym c.set_word_at.ensures)

pub add_like-requires-clause-word : goal.add_like-requires-clause-word
add_like-requires-clause-word c =
    let rows = c.args.types.now in
    let h = c.args.heap.now in
    let off = ap has_mark (sym c.word_at-word.ensures) ∙ sym c.is_marked.ensures ∙ c.if-is_marked.false in
    let made : c.set_word_at.new.self ≡ stored h c.args.obj (word_of h c.args.obj + 1) =
    c.set_word_at.ensures ∙ ap (λ (w : ℕ). stored h c.args.obj (w + 1)) c.word_at-word.ensures in
    c.unmarked-mt.ensures ∙ ap unmarked c.word_at-word.ensures
    ∙ word_then rows h c.args.self.now c.args.obj c.args.targets.now c.args.targets.now c.requires.closed
    c.requires.named c.requires.condemned off c.set_word_at.new.self made

pub returns-then-not-add_like-clause-met : goal.returns-then-not-add_like-clause-met
returns-then-not-add_like-clause-met c =
    let rows = c.args.types.now in
    let h = c.args.heap.now in
    let off = ap has_mark (sym c.word_at-word.ensures) ∙ sym c.is_marked.ensures ∙ c.if-is_marked.false in
    let made : c.set_word_at.new.self ≡ stored h c.args.obj (word_of h c.args.obj + 1) =
    c.set_word_at.ensures ∙ ap (λ (w : ℕ). stored h c.args.obj (w + 1)) c.word_at-word.ensures in
    waiting_then rows h c.args.self.now c.args.obj c.args.targets.now c.add_like.new.targets c.requires.closed
    c.requires.named c.requires.condemned off c.set_word_at.new.self made c.add_like.ensures.kept
    c.add_like.ensures.only c.push.new.self c.push.ensures

pub returns-then-not-add_like-clause-marked : goal.returns-then-not-add_like-clause-marked
returns-then-not-add_like-clause-marked c =
    let rows = c.args.types.now in
    let h = c.args.heap.now in
    let off = ap has_mark (sym c.word_at-word.ensures) ∙ sym c.is_marked.ensures ∙ c.if-is_marked.false in
    let made : c.set_word_at.new.self ≡ stored h c.args.obj (word_of h c.args.obj + 1) =
    c.set_word_at.ensures ∙ ap (λ (w : ℕ). stored h c.args.obj (w + 1)) c.word_at-word.ensures in
    marked_then rows h c.args.self.now c.args.obj c.args.targets.now c.add_like.new.targets c.requires.closed
    c.requires.named c.requires.condemned off c.set_word_at.new.self made

pub returns-else-not-add_like-clause-met : goal.returns-else-not-add_like-clause-met
returns-else-not-add_like-clause-met c =
    let rows = c.args.types.now in
    let h = c.args.heap.now in
    let off = ap has_mark (sym c.word_at-word.ensures) ∙ sym c.is_marked.ensures ∙ c.if-is_marked.false in
    let made : c.set_word_at.new.self ≡ stored h c.args.obj (word_of h c.args.obj + 1) =
    c.set_word_at.ensures ∙ ap (λ (w : ℕ). stored h c.args.obj (w + 1)) c.word_at-word.ensures in
    gathered_then rows h c.args.self.now c.args.obj c.args.targets.now c.add_like.new.targets c.requires.closed
    c.requires.named c.requires.condemned off c.set_word_at.new.self made c.add_like.ensures.kept
    c.add_like.ensures.only (c.add_like.ensures.all c.if-not-add_like.false)

pub returns-else-not-add_like-clause-marked : goal.returns-else-not-add_like-clause-marked
returns-else-not-add_like-clause-marked c =
    let rows = c.args.types.now in
    let h = c.args.heap.now in
    let off = ap has_mark (sym c.word_at-word.ensures) ∙ sym c.is_marked.ensures ∙ c.if-is_marked.false in
    let made : c.set_word_at.new.self ≡ stored h c.args.obj (word_of h c.args.obj + 1) =
    c.set_word_at.ensures ∙ ap (λ (w : ℕ). stored h c.args.obj (w + 1)) c.word_at-word.ensures in
    marked_then rows h c.args.self.now c.args.obj c.args.targets.now c.add_like.new.targets c.requires.closed
    c.requires.named c.requires.condemned off c.set_word_at.new.self made
