use Rattle.std.proofs.Common.{ap, sym, ◌∙◌}
use Rattle.clr_mark.specs.Waiting.{MarkerView}
use Rattle.clr_mark.proofs.Graying.{object_word}
use Rattle.clr_mark.proofs.Held.{remarked-trans}
use Rattle.clr_mark.proofs.Laws.{waiting_keeps}
use Rattle.clr_mark.proofs.NewParts.{new_parts}
use Rattle.clr_mark.proofs.Tying.{both_stand, due_marked, due_parts}
use Rattle.clr_mark.proofs.marker.Marker.follow_tie.Goals as goal

pub is_tie_due-requires : goal.is_tie_due-requires
is_tie_due-requires c =
    let rows = c.args.types.now in
    let h = c.args.heap.now in
    let row = c.args.handle.now in
    let word = object_word rows h c.args.self.now.oldest in
    let closed = c.requires.gray.closed in
    λ some.
    let stands = both_stand rows h row c.requires.handle some in (
      word row.target closed.heap closed.held stands.target,
      word row.second closed.heap closed.held stands.second,
    )

pub returns-clause-words : goal.returns-clause-words
returns-clause-words c =
    let closed = c.requires.gray.closed in
    remarked-trans c.args.types.now c.args.heap.now c.root.new.heap c.drain_slots.new.heap closed.heap closed.held
    c.root.ensures.words c.drain_slots.ensures.words

pub returns-clause-marked : goal.returns-clause-marked
returns-clause-marked c =
    let h = c.args.heap.now in
    let m = c.args.self.now in
    let row = c.args.handle.now in
    let closed = c.requires.gray.closed in
    let due = due_parts h m.oldest row (sym c.is_tie_due.ensures ∙ c.if-not-is_tie_due.false) in
    let oldest = ap (λ (n : MarkerView). n.oldest) c.root.ensures.marker ∙ (waiting_keeps h m row.second).0 in
    λ _. due_marked c.args.types.now h c.root.new.heap c.drain_slots.new.heap m c.root.new.self row.second closed.heap
    closed.held (new_parts h m.oldest row.second due.fresh).0 oldest c.root.ensures.words c.root.ensures.marked
    c.drain_slots.ensures.marked
