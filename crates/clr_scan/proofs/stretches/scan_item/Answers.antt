use Rattle.std.proofs.Common.{inl, inr, ℕ, ◌<◌, ◌≤◌, ap, sym, ◌∙◌, subst, arith}
use Rattle.clr_types.specs.declared.item.Item.{Item}
use Rattle.clr_types.specs.Rising.{IsIn}
use Rattle.clr_types.specs.Segments.{generation}
use Rattle.clr_heap.specs.Memories.{memory_index}
use Rattle.clr_heap.specs.View.{frame, heap_items}
use Rattle.clr_scan.specs.References.{IsQuiet, IsReferenceOf}
use Rattle.clr_mark.specs.Marks.{is_condemned_place}
use Rattle.clr_scan.proofs.CardScans.{scanned-refl}
use Rattle.clr_scan.proofs.StretchScans.{can_scan_item, it_listed, nothing_on}
use Rattle.clr_scan.proofs.stretches.scan_item.Goals.{then-found-eq0-via-then-found-eq0}
use Rattle.clr_scan.proofs.stretches.scan_item.Goals.{then-found-eq0-via-else-found-eq0+then-place-found}
use Rattle.clr_scan.proofs.stretches.scan_item.Goals as goal

pub word_at-mt-requires-clause-word : goal.word_at-mt-requires-clause-word
word_at-mt-requires-clause-word c =
    (can_scan_item c.args.types.now c.args.heap.now c.args.k c.requires.gray.closed c.requires.in_range c.args.place
    c.requires.listed).head.mt

pub word_at-mt-requires-clause-segment : goal.word_at-mt-requires-clause-segment
word_at-mt-requires-clause-segment c =
    (can_scan_item c.args.types.now c.args.heap.now c.args.k c.requires.gray.closed c.requires.in_range c.args.place
    c.requires.listed).mt_in

pub item_of_word-found-requires-clause-item : goal.item_of_word-found-requires-clause-item
item_of_word-found-requires-clause-item c =
    (can_scan_item c.args.types.now c.args.heap.now c.args.k c.requires.gray.closed c.requires.in_range c.args.place
    c.requires.listed).head

pub item_of_word-found-requires-clause-segment : goal.item_of_word-found-requires-clause-segment
item_of_word-found-requires-clause-segment c =
    (can_scan_item c.args.types.now c.args.heap.now c.args.k c.requires.gray.closed c.requires.in_range c.args.place
    c.requires.listed).len_in

pub item_of_word-found-requires-clause-room : goal.item_of_word-found-requires-clause-room
item_of_word-found-requires-clause-room c =
    (can_scan_item c.args.types.now c.args.heap.now c.args.k c.requires.gray.closed c.requires.in_range c.args.place
    c.requires.listed).room

pub overflow_add-place : goal.overflow_add-place
overflow_add-place c =
    let fits = (can_scan_item c.args.types.now c.args.heap.now c.args.k c.requires.gray.closed c.requires.in_range
    c.args.place c.requires.listed).fits in
    let size = ap (λ (i : Item). i.size) c.item_of_word-found.ensures in
    omega (arith, fits, size)

pub returns-then-found-eq0-clause-scanned : goal.returns-then-found-eq0-clause-scanned
returns-then-found-eq0-clause-scanned c = scanned-refl c.args.types.now c.args.heap.now c.args.marker.now

pub returns-then-found-eq0-clause-traced : goal.returns-then-found-eq0-clause-traced
returns-then-found-eq0-clause-traced c a r low high ne near =
    let rows = c.args.types.now in
    let h = c.args.heap.now in
    let found = c.item_of_word-found.ensures in
    absurd (nothing_on rows h c.args.k c.requires.gray.closed c.requires.in_range c.args.place c.requires.listed
    c.args.lo a (elim c.then-found-eq0.branch [
      | then-found-eq0-via-then-found-eq0 w ↦ inl (sym (ap (λ (i : Item). i.type_id.0) found) ∙ w.if-found-eq0.true)
      | then-found-eq0-via-else-found-eq0+then-place-found w ↦ let size = ap (λ (i : Item). i.size) found in let l =
          w.if-place-found.true in inr (omega (arith, size, l))
    ]) r low)

pub returns-then-found-eq0-clause-quiet : goal.returns-then-found-eq0-clause-quiet
returns-then-found-eq0-clause-quiet c e a r low high ne less =
    let rows = c.args.types.now in
    let h = c.args.heap.now in
    let found = c.item_of_word-found.ensures in
    absurd (nothing_on rows h c.args.k c.requires.gray.closed c.requires.in_range c.args.place c.requires.listed
    c.args.lo a (elim c.then-found-eq0.branch [
      | then-found-eq0-via-then-found-eq0 w ↦ inl (sym (ap (λ (i : Item). i.type_id.0) found) ∙ w.if-found-eq0.true)
      | then-found-eq0-via-else-found-eq0+then-place-found w ↦ let size = ap (λ (i : Item). i.size) found in let l =
          w.if-place-found.true in inr (omega (arith, size, l))
    ]) r low)

pub scan_slots-younger-requires-clause-listed : goal.scan_slots-younger-requires-clause-listed
scan_slots-younger-requires-clause-listed c =
    subst (λ i. IsIn i (heap_items c.args.types.now c.args.heap.now)) (sym c.item_of_word-found.ensures)
    (it_listed c.args.types.now c.args.heap.now c.args.k c.requires.gray.closed c.requires.in_range c.args.place
    c.requires.listed)

pub scan_slots-younger-requires-clause-segment : goal.scan_slots-younger-requires-clause-segment
scan_slots-younger-requires-clause-segment c =
    let can = can_scan_item c.args.types.now c.args.heap.now c.args.k c.requires.gray.closed c.requires.in_range
    c.args.place c.requires.listed in
    can.mt_in ∙ ap (memory_index c.args.heap.now.memories)
    (sym (ap (λ (i : Item). i.place) c.item_of_word-found.ensures ∙ can.place))

pub scan_slots-younger-requires-clause-age : goal.scan_slots-younger-requires-clause-age
scan_slots-younger-requires-clause-age c =
    let can = can_scan_item c.args.types.now c.args.heap.now c.args.k c.requires.gray.closed c.requires.in_range
    c.args.place c.requires.listed in
    c.gen_of.ensures ∙ ap (generation (frame c.args.heap.now))
    (sym (ap (λ (i : Item). i.place) c.item_of_word-found.ensures ∙ can.place))

pub scan_slots-younger-requires-clause-older : goal.scan_slots-younger-requires-clause-older
scan_slots-younger-requires-clause-older c =
    let can = can_scan_item c.args.types.now c.args.heap.now c.args.k c.requires.gray.closed c.requires.in_range
    c.args.place c.requires.listed in
    ap (is_condemned_place c.args.heap.now c.args.marker.now.oldest)
    (ap (λ (i : Item). i.place) c.item_of_word-found.ensures ∙ can.place) ∙ c.requires.older

pub returns-clause-silent : goal.returns-clause-silent
returns-clause-silent c all =
    let found = c.item_of_word-found.ensures in
    let quiet : (a : ℕ) → IsReferenceOf c.args.types.now c.item_of_word-found.result a → c.args.lo ≤ a → a < c.args.hi
    → IsQuiet c.args.heap.now c.gen_of.result a =
    λ a r low high. subst (λ n. IsQuiet c.args.heap.now n a) (sym c.gen_of.ensures)
    (all a (subst (λ (i : Item). IsReferenceOf c.args.types.now i a) found r) low high) in
    c.scan_slots-younger.ensures.silent quiet

pub returns-clause-traced : goal.returns-clause-traced
returns-clause-traced c a r =
    c.scan_slots-younger.ensures.traced a
    (subst (λ (i : Item). IsReferenceOf c.args.types.now i a) (sym c.item_of_word-found.ensures) r)
