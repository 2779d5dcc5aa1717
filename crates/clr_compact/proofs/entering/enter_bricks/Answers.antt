use Rattle.std.proofs.Common.{◌≡◌, ◌⊎◌, inl, inr, ℕ, ◌+◌, ◌*◌, ◌/◌, ◌<◌, ◌≤◌, ap, refl, sym, ◌∙◌, subst, arith, max}
use Rattle.std.proofs.lemmas.Bool.{cases_lt}
use Rattle.clr_types.specs.declared.item.Item.{Item}
use Rattle.clr_types.specs.declared.segment.SegInfo.{SegInfo}
use Rattle.clr_bricks.specs.Bricks.{entry_at}
use Rattle.clr_heap.specs.View.{frame, HeapView, last_of, word_of}
use Rattle.clr_heap.proofs.Spelling.{place-item_at}
use Rattle.clr_generations.proofs.HeapHomes.{brick-covered, brick-in}
use Rattle.clr_compact.proofs.EnteringWalks.{AreWalks, IsFirstOpen, IsSettling}
use Rattle.clr_compact.proofs.EnteringWalks.{settling_covered, settling_ends, settling_more}
use Rattle.clr_compact.proofs.EnteringWalks.{settling_starts, walks_end, walks_more, walks_start}
use Rattle.clr_compact.proofs.Unmarking.{can_unmark, unmarking_ends, unmarking_more, unmarking_starts}
use Rattle.clr_compact.proofs.entering.enter_bricks.Goals as goal

pub first_open-next-requires : goal.first_open-next-requires
first_open-next-requires c =
    let h = c.args.heap.now in
    let k = c.args.k in
    let end = ap (λ (s : SegInfo). s.end) c.info-segment.ensures.value in
    let bricks = c.args.bricks.now in
    let low = c.requires.low in
    record {
      covered = λ below. brick-covered h bricks bricks k (c.args.from / 4096) c.requires.heap c.requires.in_range
          c.requires.bricks refl (brick-in h k (c.args.from / 4096) c.requires.heap c.requires.in_range
          (omega (arith, low)) (omega (arith, end, below)));
    }

pub loop-place-init : goal.loop-place-init
loop-place-init c =
    let rows = c.args.types.now in
    let h = c.args.heap.now in
    let k = c.args.k in
    let from = c.args.from in
    let bricks = c.args.bricks.now in
    let next = c.first_open-next.result in
    let P : ℕ → Type 0 = λ e. IsFirstOpen (entry_at bricks) from e next in
    let begin = subst P (ap (λ (s : SegInfo). s.end) c.info-segment.ensures.value) c.first_open-next.ensures in
    record {
      rewriting = unmarking_starts rows h k from c.requires.heap c.requires.in_range c.requires.walk c.requires.low
          c.requires.no_contexts;
      settling = settling_starts h c.requires.heap k c.requires.in_range bricks from next c.requires.low begin;
      walks = walks_start rows h c.requires.no_contexts k c.requires.in_range from bricks next c.requires.low begin;
      known = c.none-known.ensures rows;
    }

pub clear_mark-found-requires : goal.clear_mark-found-requires
clear_mark-found-requires c =
    let end = ap (λ (s : SegInfo). s.end) c.info-segment.ensures.value in
    let test = c.loop-place-test.true in
    let below : c.loop-place.place < last_of c.args.heap.now c.args.k = omega (arith, end, test) in
    let can = can_unmark c.args.types.now c.args.heap.now c.args.k c.args.from c.requires.heap c.requires.in_range
    c.requires.walk c.requires.low c.requires.no_contexts c.loop-place.heap c.loop-place.place
    c.loop-place.invariant.rewriting below in
    let fits = can.fits in
    let least = can.least in
    record {
      item = can.item;
      mt_in = can.mt_in;
      len_in = can.len_in;
      room = omega (arith, fits, least);
      known = c.loop-place.invariant.known;
    }

pub enter_item-next-requires-clause-above : goal.enter_item-next-requires-clause-above
enter_item-next-requires-clause-above c = let above = c.loop-place.invariant.settling.above in omega (arith, above)

pub enter_item-next-requires-clause-covered : goal.enter_item-next-requires-clause-covered
enter_item-next-requires-clause-covered c =
    let end = ap (λ (s : SegInfo). s.end) c.info-segment.ensures.value in
    let test = c.loop-place-test.true in
    let place = ap (λ (i : Item). i.place) c.clear_mark-found.ensures.item
    ∙ place-item_at c.args.types.now (word_of c.loop-place.heap) c.loop-place.place in
    λ i low high. settling_covered c.args.heap.now c.requires.heap c.args.k c.requires.in_range c.args.bricks.now
    c.loop-place.bricks c.loop-place.next c.loop-place.invariant.settling c.requires.bricks i low
    (omega (arith, end, test, place, high))

pub overflow_add-place : goal.overflow_add-place
overflow_add-place c =
    let end = ap (λ (s : SegInfo). s.end) c.info-segment.ensures.value in
    let test = c.loop-place-test.true in
    let below : c.loop-place.place < last_of c.args.heap.now c.args.k = omega (arith, end, test) in
    let can = can_unmark c.args.types.now c.args.heap.now c.args.k c.args.from c.requires.heap c.requires.in_range
    c.requires.walk c.requires.low c.requires.no_contexts c.loop-place.heap c.loop-place.place
    c.loop-place.invariant.rewriting below in
    let size = ap (λ (i : Item). i.size) c.clear_mark-found.ensures.item in
    let fits = can.fits in
    omega (arith, size, fits)

pub loop-place-smaller : goal.loop-place-smaller
loop-place-smaller c =
    let end = ap (λ (s : SegInfo). s.end) c.info-segment.ensures.value in
    let test = c.loop-place-test.true in
    let below : c.loop-place.place < last_of c.args.heap.now c.args.k = omega (arith, end, test) in
    let can = can_unmark c.args.types.now c.args.heap.now c.args.k c.args.from c.requires.heap c.requires.in_range
    c.requires.walk c.requires.low c.requires.no_contexts c.loop-place.heap c.loop-place.place
    c.loop-place.invariant.rewriting below in
    let size = ap (λ (i : Item). i.size) c.clear_mark-found.ensures.item in
    let least = can.least in
    omega (arith, size, least, test)

pub loop-place-preserved : goal.loop-place-preserved
loop-place-preserved c =
    let rows = c.args.types.now in
    let h = c.args.heap.now in
    let k = c.args.k in
    let from = c.args.from in
    let inv = c.loop-place.invariant in
    let end = ap (λ (s : SegInfo). s.end) c.info-segment.ensures.value in
    let test = c.loop-place-test.true in
    let below : c.loop-place.place < last_of h k = omega (arith, end, test) in
    let can = can_unmark rows h k from c.requires.heap c.requires.in_range
    c.requires.walk c.requires.low c.requires.no_contexts c.loop-place.heap c.loop-place.place
    inv.rewriting below in
    let found = c.clear_mark-found.result in
    let now = c.clear_mark-found.new.heap in
    let size = ap (λ (i : Item). i.size) c.clear_mark-found.ensures.item in
    let place = ap (λ (i : Item). i.place) c.clear_mark-found.ensures.item
    ∙ place-item_at rows (word_of c.loop-place.heap) c.loop-place.place in
    let low = c.requires.low in
    let above = can.above in
    let rewriting = unmarking_more rows h k from c.requires.heap c.requires.in_range c.requires.walk c.requires.low
    c.requires.no_contexts c.loop-place.heap c.loop-place.place inv.rewriting below now found.size size
    c.clear_mark-found.ensures.heap in
    record {
      rewriting = rewriting;
      settling = subst (IsSettling h k c.args.bricks.now c.enter_item-next.new.bricks)
          (sym c.enter_item-next.ensures.next)
          (settling_more h c.requires.heap k c.requires.in_range c.args.bricks.now c.loop-place.bricks
          c.loop-place.next inv.settling (frame now) found (omega (arith, low, above, place))
          (omega (arith, below, place)) c.enter_item-next.new.bricks c.enter_item-next.ensures.entries
          c.enter_item-next.ensures.spans);
      walks = subst (AreWalks rows h k from c.args.bricks.now c.enter_item-next.new.bricks
          (c.loop-place.place + found.size)) (sym c.enter_item-next.ensures.next)
          (walks_more rows h c.requires.no_contexts k c.requires.in_range from c.args.bricks.now c.loop-place.bricks
          c.loop-place.place c.loop-place.next inv.walks inv.rewriting.walk below found
          (c.clear_mark-found.ensures.item ∙ can.same) (frame now)
          (ap (λ (g : HeapView). frame g) rewriting.shape.others) c.enter_item-next.new.bricks
          c.enter_item-next.ensures.entries);
      known = c.clear_mark-found.ensures.known;
    }

-- a brick of the stretch up to the segment's end begins below that
stretch-below : (end past next to b : ℕ) → past ≡ (end + 4095) / 4096 → to ≡ max past next → next ≤ b → b < to
    → 4096 * b < end
stretch-below end past next to b is most low high = omega arith

-- and the stretch ends there, or is empty
stretch-short : (end past next to : ℕ) → past ≡ (end + 4095) / 4096 → to ≡ max past next
    → (4096 * to < end + 4096) ⊎ (to ≡ next)
stretch-short end past next to is most = elim (cases_lt past next) [
  | inl less ↦ inr (omega arith)
  | inr more ↦ inl (omega arith)
]

pub lead_back-requires-clause-covered : goal.lead_back-requires-clause-covered
lead_back-requires-clause-covered c =
    let end = ap (λ (s : SegInfo). s.end) c.info-segment.ensures.value in
    let last = c.info-segment.result.end in
    λ i low high. (let below = stretch-below last ((last + 4095) / 4096) c.loop-place.next c.max.result i refl
    c.max.ensures low high in
    settling_covered c.args.heap.now c.requires.heap c.args.k c.requires.in_range c.args.bricks.now
    c.loop-place.bricks c.loop-place.next c.loop-place.invariant.settling c.requires.bricks i low
    (omega (arith, end, below)))

pub returns-clause-shape : goal.returns-clause-shape
returns-clause-shape c = c.loop-place.invariant.rewriting.shape

pub returns-clause-words : goal.returns-clause-words
returns-clause-words c =
    let end = ap (λ (s : SegInfo). s.end) c.info-segment.ensures.value in
    let test = c.loop-place-test.false in
    unmarking_ends c.args.types.now c.args.heap.now c.args.k c.args.from c.requires.heap c.requires.in_range
    c.requires.walk c.requires.low c.requires.no_contexts c.loop-place.heap c.loop-place.place
    c.loop-place.invariant.rewriting (omega (arith, end, test))

pub returns-clause-entered : goal.returns-clause-entered
returns-clause-entered c =
    let end = ap (λ (s : SegInfo). s.end) c.info-segment.ensures.value in
    let test = c.loop-place-test.false in
    let most = c.max.ensures in
    walks_end c.args.types.now c.args.heap.now c.requires.no_contexts c.args.k c.requires.in_range c.args.from
    c.args.bricks.now c.loop-place.bricks c.loop-place.place c.loop-place.next c.loop-place.invariant.walks
    (omega (arith, end, test)) c.max.result (omega (arith, most)) (omega (arith, end, most)) c.lead_back.new.bricks
    c.lead_back.ensures.entries

pub returns-clause-others : goal.returns-clause-others
returns-clause-others c =
    let end = ap (λ (s : SegInfo). s.end) c.info-segment.ensures.value in
    let last = c.info-segment.result.end in
    let S : ℕ → Type 0 = λ e. (4096 * c.max.result < e + 4096) ⊎ (c.max.result ≡ c.loop-place.next) in
    λ b out. c.lead_back.ensures.entries b
    ∙ settling_ends c.args.heap.now c.requires.heap c.args.k c.requires.in_range c.args.bricks.now c.loop-place.bricks
    c.loop-place.next c.loop-place.invariant.settling c.max.result
    (subst S end (stretch-short last ((last + 4095) / 4096) c.loop-place.next c.max.result refl c.max.ensures)) b out

pub returns-clause-spans : goal.returns-clause-spans
returns-clause-spans c = c.lead_back.ensures.spans ∙ c.loop-place.invariant.settling.spans
