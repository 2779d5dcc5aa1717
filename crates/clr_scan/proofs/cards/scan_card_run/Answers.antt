use Rattle.std.proofs.Common.{◌≡◌, ◌⊎◌, ℕ, ◌+◌, ◌*◌, ◌/◌, ◌%◌, min, refl, ap, ◌∙◌, subst, arith}
use Rattle.clr_cards.specs.Cards.{is_card_set}
use Rattle.clr_types.specs.declared.segment.SegInfo.{SegInfo}
use Rattle.clr_scan.specs.Scans.{IsCursor}
use Rattle.clr_scan.specs.SetCards.{IsCardSettled}
use Rattle.clr_mark.specs.Marks.{is_condemned_place}
use Rattle.clr_scan.proofs.RunScans.{card-covered, cards-on, cursor-on, first-on, last-on, older-on, run_next}
use Rattle.clr_scan.proofs.RunScans.{run_starts}
use Rattle.clr_scan.proofs.cards.scan_card_run.Goals as goal

pub loop-at-init : goal.loop-at-init
loop-at-init c = run_starts c.args.types.now c.args.heap.now c.args.marker.now c.args.cards.now c.args.k c.args.lo
    c.args.hi c.args.cursor c.requires.gray c.requires.order c.requires.cursor c.requires.card_law

pub scan_stretch-met-requires-clause-older : goal.scan_stretch-met-requires-clause-older
scan_stretch-met-requires-clause-older c x low below =
    let next = c.min-next.ensures in
    ap (λ (g : ℕ). is_condemned_place c.loop-at.heap g x) c.loop-at.invariant.scanned.oldest
    ∙ older-on c.args.types.now c.args.heap.now c.loop-at.heap c.requires.gray.closed
    c.loop-at.invariant.scanned.remarked c.args.k c.requires.in_range c.args.marker.now.oldest c.args.hi
    c.requires.older x low (omega (arith, next, below))

pub scan_stretch-met-requires-clause-cursor : goal.scan_stretch-met-requires-clause-cursor
scan_stretch-met-requires-clause-cursor c =
    cursor-on c.args.types.now c.args.heap.now c.loop-at.heap c.requires.gray.closed
    c.loop-at.invariant.scanned.remarked c.args.k c.requires.in_range c.loop-at.place c.loop-at.at
    c.loop-at.invariant.cursor

pub settle-requires : goal.settle-requires
settle-requires c =
    let closed = c.loop-at.invariant.gray.closed in
    let inv = c.loop-at.invariant in
    let f = first-on c.args.types.now c.args.heap.now c.loop-at.heap c.requires.gray.closed
    c.loop-at.invariant.scanned.remarked c.args.k c.requires.in_range in
    let l = last-on c.args.types.now c.args.heap.now c.loop-at.heap c.requires.gray.closed
    c.loop-at.invariant.scanned.remarked c.args.k c.requires.in_range in
    let from = inv.from in
    let low = c.requires.from in
    let high = c.requires.inside in
    let test = c.loop-at-test.true in
    card-covered c.args.types.now c.args.heap.now c.requires.gray.closed c.args.k c.requires.in_range c.loop-at.cards
    c.loop-at.at
    (cards-on c.args.heap.now c.args.heap.now c.args.cards.now c.loop-at.cards refl inv.settled.spans
    c.requires.cards) (omega (arith, from, low)) (omega (arith, test, high))

pub loop-at-preserved : goal.loop-at-preserved
loop-at-preserved c =
    let inv = c.loop-at.invariant in
    let stretch = c.scan_stretch-met.ensures in
    let next : c.min-next.result ≡ min c.args.hi (2048 * (c.loop-at.at / 2048 + 1)) =
    c.min-next.ensures ∙ ap (λ (n : ℕ). min c.args.hi n)
    (let first = c.first.ensures in let index = c.index.ensures.value in omega (arith, first, index)) in
    let test = c.loop-at-test.true in
    let end = ap (λ (s : SegInfo). s.end) c.info-end.ensures.value in
    run_next c.args.types.now c.args.heap.now c.loop-at.heap c.args.marker.now c.loop-at.marker c.args.cards.now
    c.loop-at.cards c.args.k c.args.lo c.args.hi c.loop-at.at c.loop-at.place c.requires.gray.closed
    c.requires.in_range c.requires.from c.requires.inside inv test
    c.min-next.result (omega (arith, next, test)) (omega (arith, next)) (omega (arith, next))
    (which c.args.hi (c.loop-at.at / 2048 + 1) c.min-next.result next)
    c.scan_stretch-met.new.heap c.scan_stretch-met.new.marker c.settle.new.cards c.scan_stretch-met.result.0
    c.scan_stretch-met.result.1 stretch.gray stretch.scanned stretch.traced stretch.quiet stretch.silent
    stretch.cursor
    (subst (λ e. IsCardSettled (is_card_set c.loop-at.cards) (is_card_set c.settle.new.cards) c.loop-at.at
    c.min-next.result e c.scan_stretch-met.result.1) end c.settle.ensures.cards) c.settle.ensures.spans
  where
    which : (hi g next : ℕ) → next ≡ min hi (2048 * g) → (next ≡ hi) ⊎ (next % 2048 ≡ 0)
    which hi g next e = grind (arith, e)

pub returns-clause-traced : goal.returns-clause-traced
returns-clause-traced c i a l r low high =
    c.loop-at.invariant.traced i a l r low (let past = c.loop-at-test.false in omega (arith, past, high))

pub returns-clause-cursor : goal.returns-clause-cursor
returns-clause-cursor c =
    let to = c.loop-at.invariant.to in
    let past = c.loop-at-test.false in
    let end : c.loop-at.at ≡ c.args.hi = omega (arith, to, past) in
    subst (IsCursor c.args.types.now c.args.heap.now c.args.k c.loop-at.place) end c.loop-at.invariant.cursor
