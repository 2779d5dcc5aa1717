use Rattle.std.proofs.Common.{ap, sym, ◌∙◌}
use Rattle.clr_heap.specs.ObjectKinds.{known_size}
use Rattle.clr_heap.specs.Parts.{item_at}
use Rattle.clr_heap.specs.View.{word_of}
use Rattle.clr_heap.proofs.Spelling.{place-item_at}
use Rattle.clr_bgmark.proofs.FirstTaken.{known_kind, object_taken}
use Rattle.clr_bgmark.proofs.ToldParts.{gap_none}
use Rattle.clr_bgmark.proofs.first_pause.take_item.Goals as goal

pub returns-in-Some-clause-taken : goal.returns-in-Some-clause-taken
returns-in-Some-clause-taken c =
    let h = c.args.heap.now in
    let rows = c.args.types.now in
    let known = known_kind rows (word_of h) c.args.place c.in-Some.size c.args.known.now c.requires.known
    (sym c.in-Some.is ∙ c.size_with.ensures ∙ ap (known_size c.args.known.now) c.word_at-mt.ensures) in
    c.set_bit.ensures
    ∙ object_taken h c.args.shade.now (item_at rows (word_of h) c.args.place) c.args.place
    (place-item_at rows (word_of h) c.args.place) known.0 c.requires.old

pub returns-in-Some-clause-size : goal.returns-in-Some-clause-size
returns-in-Some-clause-size c =
    let h = c.args.heap.now in
    let rows = c.args.types.now in
    (known_kind rows (word_of h) c.args.place c.in-Some.size c.args.known.now c.requires.known
    (sym c.in-Some.is ∙ c.size_with.ensures ∙ ap (known_size c.args.known.now) c.word_at-mt.ensures)).1

pub returns-in-Some-clause-gaps : goal.returns-in-Some-clause-gaps
returns-in-Some-clause-gaps c =
    let h = c.args.heap.now in
    let rows = c.args.types.now in
    gap_none c.args.shade.now c.args.part.now (item_at rows (word_of h) c.args.place)
    (known_kind rows (word_of h) c.args.place c.in-Some.size c.args.known.now c.requires.known
    (sym c.in-Some.is ∙ c.size_with.ensures ∙ ap (known_size c.args.known.now) c.word_at-mt.ensures)).0
