use Rattle.std.proofs.Common.{◌≡◌, ◌⊎◌, ℕ, ◌/◌, ◌<◌, ◌≤◌, refl, ap, sym, ◌∙◌, subst, arith}
use Rattle.clr_types.specs.Segments.{first_place}
use Rattle.clr_bricks.specs.Bricks.{entry_at}
use Rattle.clr_cards.specs.Cards.{is_card_set}
use Rattle.clr_heap.specs.View.{first_of, HeapView, last_of}
use Rattle.clr_scan.specs.Entries.{IsEntryPlace}
use Rattle.clr_scan.specs.OldParts.{AreOlder, old_end}
use Rattle.clr_scan.specs.Scans.{AreTraced}
use Rattle.clr_scan.specs.SetCards.{AreCleared}
use Rattle.clr_mark.specs.Marks.{is_condemned_place}
use Rattle.clr_scan.proofs.RunScans.{cards-on, cards-shared, law-on, older-on}
use Rattle.clr_scan.proofs.SegmentScans.{bricks-covered, IsSegmentScan, near-cursor, segment_cleared, segment_next}
use Rattle.clr_scan.proofs.SegmentScans.{segment_starts, segment_traced}
use Rattle.clr_scan.proofs.cards.scan_segment.Goals as goal

end_is : (h : HeapView) (g k o e : ℕ) → o ≡ g → e ≡ old_end h o k → e ≡ old_end h g k
end_is h g k o e same is = is ∙ ap (λ (n : ℕ). old_end h n k) same

older_to : (h : HeapView) (g k e : ℕ) → e ≡ old_end h g k → AreOlder h g k (old_end h g k) → AreOlder h g k e
older_to h g k e is older = subst (AreOlder h g k) (sym is) older

pub loop-lo-init : goal.loop-lo-init
loop-lo-init c =
    let order : first_of c.args.heap.now c.args.k ≤ c.end_of_old-end.result = let e =
    (end_is c.args.heap.now c.args.marker.now.oldest c.args.k c.oldest.result c.end_of_old-end.result
    c.oldest.ensures c.end_of_old-end.ensures) in let l = c.requires.part.low in omega (arith, e, l) in
    subst (λ n. IsSegmentScan c.args.types.now c.args.heap.now c.args.heap.now c.args.marker.now c.args.marker.now
    c.args.cards.now c.args.cards.now c.args.k (first_of c.args.heap.now c.args.k) c.end_of_old-end.result n n)
    (sym (ap first_place c.info-first.ensures.value))
    (segment_starts c.args.types.now c.args.heap.now c.args.marker.now c.args.cards.now c.args.k
    c.end_of_old-end.result c.requires.gray c.requires.in_range order c.requires.card_law)

pub next_run-requires : goal.next_run-requires
next_run-requires c some =
    let inv = c.loop-lo.invariant in
    let from = inv.from in
    cards-shared c.args.types.now c.args.heap.now c.requires.gray.closed c.args.k c.requires.in_range c.loop-lo.cards
    c.loop-lo.at c.end_of_old-end.result
    (cards-on c.args.heap.now c.args.heap.now c.args.cards.now c.loop-lo.cards refl inv.settled.spans
    c.requires.cards) from
    (let e = (end_is c.args.heap.now c.args.marker.now.oldest c.args.k c.oldest.result c.end_of_old-end.result
    c.oldest.ensures c.end_of_old-end.ensures) in let t = c.requires.part.high in omega (arith, e, t)) some

pub nearest-near-requires-clause-covered : goal.nearest-near-requires-clause-covered
nearest-near-requires-clause-covered c i low high =
    let some = c.in-Some.ensures.some.1 in
    let under = c.in-Some.ensures.some.2 in
    let top : c.end_of_old-end.result ≤ last_of c.args.heap.now c.args.k =
    (let e = (end_is c.args.heap.now c.args.marker.now.oldest c.args.k c.oldest.result c.end_of_old-end.result
    c.oldest.ensures c.end_of_old-end.ensures) in let t = c.requires.part.high in omega (arith, e, t)) in
    bricks-covered c.args.types.now c.args.heap.now c.requires.gray.closed c.args.k c.requires.in_range
    c.args.bricks.now c.in-Some.lo i c.requires.bricks (omega (arith, some, under, top))
    (let f = (ap first_place c.info-first.ensures.value) in omega (arith, f, low)) high

pub scan_card_run-cursor-requires-clause-older : goal.scan_card_run-cursor-requires-clause-older
scan_card_run-cursor-requires-clause-older c x low below =
    let under = c.in-Some.ensures.some.2 in
    ap (λ (g : ℕ). is_condemned_place c.loop-lo.heap g x) c.loop-lo.invariant.scanned.oldest
    ∙ older-on c.args.types.now c.args.heap.now c.loop-lo.heap c.requires.gray.closed
    c.loop-lo.invariant.scanned.remarked c.args.k c.requires.in_range c.args.marker.now.oldest
    c.end_of_old-end.result
    (older_to c.args.heap.now c.args.marker.now.oldest c.args.k c.end_of_old-end.result
    (end_is c.args.heap.now c.args.marker.now.oldest c.args.k c.oldest.result c.end_of_old-end.result
    c.oldest.ensures c.end_of_old-end.ensures) c.requires.part.older) x low (omega (arith, under, below))

pub scan_card_run-cursor-requires-clause-cursor : goal.scan_card_run-cursor-requires-clause-cursor
scan_card_run-cursor-requires-clause-cursor c =
    near-cursor c.args.types.now c.args.heap.now c.loop-lo.heap c.args.marker.now c.loop-lo.marker c.args.cards.now
    c.loop-lo.cards c.args.k c.end_of_old-end.result c.loop-lo.at c.loop-lo.cursor c.requires.gray.closed
    c.requires.in_range (older_to c.args.heap.now c.args.marker.now.oldest c.args.k c.end_of_old-end.result
    (end_is c.args.heap.now c.args.marker.now.oldest c.args.k c.oldest.result c.end_of_old-end.result
    c.oldest.ensures c.end_of_old-end.ensures) c.requires.part.older) c.loop-lo.invariant c.in-Some.lo
    c.in-Some.hi c.in-Some.ensures.some.0 c.in-Some.ensures.some.1 c.in-Some.ensures.some.2
    c.in-Some.ensures.some.3 c.in-Some.ensures.some.4 (entry_at c.args.bricks.now) c.nearest-near.result
    c.requires.entries (let e =
    (end_is c.args.heap.now c.args.marker.now.oldest c.args.k c.oldest.result c.end_of_old-end.result
    c.oldest.ensures c.end_of_old-end.ensures) in let t = c.requires.part.high in omega (arith, e, t))
    (subst (λ n. (c.nearest-near.result ≡ c.loop-lo.cursor)
    ⊎ ((c.loop-lo.cursor < c.nearest-near.result) × (c.nearest-near.result ≤ c.in-Some.lo)
    × IsEntryPlace (entry_at c.args.bricks.now) (n / 4096) (c.in-Some.lo / 4096) c.nearest-near.result))
    (ap first_place c.info-first.ensures.value) c.nearest-near.ensures)

pub scan_card_run-cursor-requires-clause-card_law : goal.scan_card_run-cursor-requires-clause-card_law
scan_card_run-cursor-requires-clause-card_law c =
    law-on c.args.types.now c.args.heap.now c.loop-lo.heap c.requires.gray.closed c.loop-lo.invariant.scanned.remarked
    (is_card_set c.loop-lo.cards) c.loop-lo.invariant.settled.law

pub scan_card_run-cursor-requires-clause-cards : goal.scan_card_run-cursor-requires-clause-cards
scan_card_run-cursor-requires-clause-cards c =
    cards-on c.args.heap.now c.loop-lo.heap c.args.cards.now c.loop-lo.cards
    c.loop-lo.invariant.scanned.remarked.shape.others c.loop-lo.invariant.settled.spans c.requires.cards

pub loop-lo-preserved : goal.loop-lo-preserved
loop-lo-preserved c =
    let run = c.scan_card_run-cursor.ensures in
    segment_next c.args.types.now c.args.heap.now c.loop-lo.heap c.args.marker.now c.loop-lo.marker c.args.cards.now
    c.loop-lo.cards c.args.k c.end_of_old-end.result c.loop-lo.at c.loop-lo.cursor c.requires.gray.closed
    c.requires.in_range (older_to c.args.heap.now c.args.marker.now.oldest c.args.k c.end_of_old-end.result
    (end_is c.args.heap.now c.args.marker.now.oldest c.args.k c.oldest.result c.end_of_old-end.result
    c.oldest.ensures c.end_of_old-end.ensures) c.requires.part.older) c.loop-lo.invariant c.in-Some.lo
    c.in-Some.hi c.in-Some.ensures.some.0 c.in-Some.ensures.some.1 c.in-Some.ensures.some.2
    c.in-Some.ensures.some.3 c.in-Some.ensures.some.4 c.scan_card_run-cursor.new.heap
    c.scan_card_run-cursor.new.marker c.scan_card_run-cursor.new.cards c.scan_card_run-cursor.result run.gray
    run.scanned run.traced run.cursor run.settled run.cleared

pub returns-clause-traced : goal.returns-clause-traced
returns-clause-traced c =
    subst (λ e. AreTraced c.args.heap.now c.args.types.now c.loop-lo.heap c.args.marker.now.oldest c.args.k
    (first_of c.args.heap.now c.args.k) e)
    (end_is c.args.heap.now c.args.marker.now.oldest c.args.k c.oldest.result c.end_of_old-end.result
    c.oldest.ensures c.end_of_old-end.ensures)
    (segment_traced c.args.types.now c.args.heap.now c.loop-lo.heap c.args.marker.now c.loop-lo.marker
    c.args.cards.now c.loop-lo.cards c.args.k c.end_of_old-end.result c.loop-lo.at c.loop-lo.cursor
    c.requires.gray.closed c.requires.in_range
    (older_to c.args.heap.now c.args.marker.now.oldest c.args.k c.end_of_old-end.result
    (end_is c.args.heap.now c.args.marker.now.oldest c.args.k c.oldest.result c.end_of_old-end.result
    c.oldest.ensures c.end_of_old-end.ensures) c.requires.part.older) c.loop-lo.invariant c.in_default.ensures.none)

pub returns-clause-cleared : goal.returns-clause-cleared
returns-clause-cleared c =
    subst (λ e. AreCleared c.args.types.now c.args.heap.now (is_card_set c.loop-lo.cards) c.args.k
    (first_of c.args.heap.now c.args.k) e)
    (end_is c.args.heap.now c.args.marker.now.oldest c.args.k c.oldest.result c.end_of_old-end.result
    c.oldest.ensures c.end_of_old-end.ensures)
    (segment_cleared c.args.types.now c.args.heap.now c.loop-lo.heap c.args.marker.now c.loop-lo.marker
    c.args.cards.now c.loop-lo.cards c.args.k c.end_of_old-end.result c.loop-lo.at c.loop-lo.cursor
    c.requires.gray.closed c.requires.in_range
    (older_to c.args.heap.now c.args.marker.now.oldest c.args.k c.end_of_old-end.result
    (end_is c.args.heap.now c.args.marker.now.oldest c.args.k c.oldest.result c.end_of_old-end.result
    c.oldest.ensures c.end_of_old-end.ensures) c.requires.part.older) c.loop-lo.invariant c.in_default.ensures.none)
