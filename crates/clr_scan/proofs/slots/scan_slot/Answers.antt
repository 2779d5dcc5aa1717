use Rattle.std.proofs.Common.{◌≡◌, true, ℕ, ap, subst, sym, ◌∙◌, arith}
use Rattle.clr_heap.specs.View.{frame, word_of}
use Rattle.clr_types.specs.Segments.{generation}
use Rattle.clr_view.specs.Marks.{Marked}
use Rattle.clr_view.specs.SlotValues.{StandsAt}
use Rattle.clr_scan.specs.References.{IsNamedByOlder}
use Rattle.clr_mark.specs.Marks.{is_condemned_place}
use Rattle.clr_scan.proofs.CardScans.{condemned-most, older-above, ref_has, ref_index, ref_older, ref_stands}
use Rattle.clr_scan.proofs.CardScans.{scanned-refl}
use Rattle.clr_scan.proofs.slots.scan_slot.Goals as goal

pub word_at-target-requires-clause-word : goal.word_at-target-requires-clause-word
word_at-target-requires-clause-word c =
    ref_has c.args.types.now c.args.heap.now c.requires.gray.closed c.args.older.item c.requires.listed c.args.a
    c.requires.reference

pub word_at-target-requires-clause-segment : goal.word_at-target-requires-clause-segment
word_at-target-requires-clause-segment c = c.requires.segment
    ∙ ref_index c.args.types.now c.args.heap.now c.requires.gray.closed c.args.older.item c.requires.listed c.args.a
    c.requires.reference

pub returns-then-generation-older-clause-scanned : goal.returns-then-generation-older-clause-scanned
returns-then-generation-older-clause-scanned c = scanned-refl c.args.types.now c.args.heap.now c.args.marker.now

pub returns-then-generation-older-clause-traced : goal.returns-then-generation-older-clause-traced
returns-then-generation-older-clause-traced c ne near =
    let h = c.args.heap.now in
    let most = condemned-most h c.args.marker.now.oldest (word_of h c.args.a) near in
    let above = older-above h c.args.marker.now.oldest c.args.older.item.place c.requires.older in
    let age = c.requires.age in
    let word = ap (generation (frame h)) c.word_at-target.ensures in
    let of = c.gen_of-generation.ensures in
    let l = c.if-generation-older.true in
    absurd (omega (arith, most, above, age, word, of, l))

pub returns-then-target-eq0-clause-scanned : goal.returns-then-target-eq0-clause-scanned
returns-then-target-eq0-clause-scanned c = scanned-refl c.args.types.now c.args.heap.now c.args.marker.now

pub returns-then-generation-oldest-clause-scanned : goal.returns-then-generation-oldest-clause-scanned
returns-then-generation-oldest-clause-scanned c = scanned-refl c.args.types.now c.args.heap.now c.args.marker.now

pub returns-then-generation-oldest-clause-traced : goal.returns-then-generation-oldest-clause-traced
returns-then-generation-oldest-clause-traced c ne near =
    let h = c.args.heap.now in
    let most = condemned-most h c.args.marker.now.oldest (word_of h c.args.a) near in
    let word = ap (generation (frame h)) c.word_at-target.ensures in
    let of = c.gen_of-generation.ensures in
    let oldest = c.oldest.ensures in
    let l = c.if-generation-oldest.true in
    absurd (omega (arith, most, word, of, oldest, l))

pub mark_target-requires-clause-object : goal.mark_target-requires-clause-object
mark_target-requires-clause-object c =
    subst (StandsAt c.args.types.now c.args.heap.now) (sym c.word_at-target.ensures)
    (ref_stands c.args.types.now c.args.heap.now c.requires.gray.closed c.args.older.item c.requires.listed c.args.a
    c.requires.reference (λ e. c.if-target-eq0.false (c.word_at-target.ensures ∙ e)))

pub mark_target-requires-clause-named : goal.mark_target-requires-clause-named
mark_target-requires-clause-named c =
    let rows = c.args.types.now in
    let h = c.args.heap.now in
    let m = c.args.marker.now in
    let word = c.word_at-target.ensures in
    let P : ℕ → Type 0 = λ y. is_condemned_place h m.oldest y ≡ true → IsNamedByOlder rows h m.oldest y in
    subst P (sym word) (ref_older rows h c.requires.gray.closed c.args.older.item c.requires.listed c.args.a
    c.requires.reference m.oldest c.requires.older (λ e. c.if-target-eq0.false (word ∙ e)))

pub returns-clause-traced : goal.returns-clause-traced
returns-clause-traced c ne near =
    let h = c.args.heap.now in
    let m = c.args.marker.now in
    let word = c.word_at-target.ensures in
    subst (Marked c.args.types.now c.mark_target.new.heap) word
    (c.mark_target.ensures.marked (ap (is_condemned_place h m.oldest) word ∙ near))
