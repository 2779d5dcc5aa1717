use Rattle.std.proofs.Common.{◌≡◌, ◌⊎◌, ℕ, ℤ, ◌+◌, ◌-◌, ◌*◌, ◌/◌, ◌<◌, ◌≤◌, List, ap, refl, sym, subst, arith}
use Rattle.clr_types.specs.declared.segment.SegInfo.{SegInfo}
use Rattle.clr_bricks.specs.Bricks.{entry_at}
use Rattle.clr_covers.specs.Covers.{CoverView}
use Rattle.clr_heap.specs.View.{last_of}
use Rattle.clr_generations.specs.Renewing as renewing
use Rattle.clr_generations.specs.Renewing.{NamesBelow}
use Rattle.clr_generations.proofs.HeapHomes.{brick-covered, brick-in}
use Rattle.clr_generations.proofs.Renewed.{covered_here, IsRenewing, led_more, low_here, next-bounds, open_more, renewed}
use Rattle.clr_generations.proofs.Renewed.{renewed_others, renewing_more, renewing_over, renewing_starts, shared_here}
use Rattle.clr_generations.proofs.Renewed.{told_here}
use Rattle.clr_generations.proofs.renewing.renew_part.Goals as goal

pub first_open-next-requires-clause-covered : goal.first_open-next-requires-clause-covered
first_open-next-requires-clause-covered c =
    let rows = c.args.types.now in
    let h = c.args.heap.now in
    let k = c.args.k in
    let end = ap (λ (s : SegInfo). s.end) c.info-end.ensures.value in
    let bricks = c.args.bricks.now in
    let low = c.requires.low in
    λ below. brick-covered h bricks bricks k (c.args.from / 4096) c.info-end.ensures.heap c.requires.in_range
    c.requires.bricks refl (brick-in h k (c.args.from / 4096) c.info-end.ensures.heap c.requires.in_range
    (omega (arith, low)) (omega (arith, end, below)))

pub loop-brick-init : goal.loop-brick-init
loop-brick-init c =
    let rows = c.args.types.now in
    let h = c.args.heap.now in
    let k = c.args.k in
    let end = ap (λ (s : SegInfo). s.end) c.info-end.ensures.value in
    let entry = entry_at c.args.bricks.now in
    let from = c.args.from in
    let next = c.first_open-next.result in
    let P : ℕ → Type 0 = λ e. ((4096 * (from / 4096) < e) × NamesBelow (entry (from / 4096)) (from / 4096) from
    × (next ≡ from / 4096 + 1))
    ⊎ (((e ≤ 4096 * (from / 4096)) ⊎ (NamesBelow (entry (from / 4096)) (from / 4096) from → ⊥))
    × (next ≡ from / 4096)) in
    let B : List (CoverView ℤ) → Type 0 = λ now. IsRenewing rows h (renewing.passes c.args.counted) k from
    c.args.bricks.now now next next in
    record {
      renewing = subst B (sym c.first_open-next.ensures.same)
          (renewing_starts rows h c.info-end.ensures.heap c.requires.held k c.requires.in_range
          (renewing.passes c.args.counted) from c.args.young c.requires.low c.requires.high c.args.bricks.now
          c.requires.told next (subst P end c.first_open-next.ensures.opens));
      led_low = omega arith;
      led_high = omega arith;
      led = λ i low high. absurd (omega arith);
    }

pub first_in-first-requires-clause-low : goal.first_in-first-requires-clause-low
first_in-first-requires-clause-low c =
    let rows = c.args.types.now in
    let h = c.args.heap.now in
    let k = c.args.k in
    let end = ap (λ (s : SegInfo). s.end) c.info-end.ensures.value in
    let test = c.loop-brick-test.true in
    let below : 4096 * c.loop-brick.brick < last_of h k = omega (arith, end, test) in
    low_here rows h c.info-end.ensures.heap c.requires.held k c.requires.in_range (renewing.passes c.args.counted)
    c.args.from c.args.young c.requires.low c.requires.high c.args.bricks.now c.requires.told c.loop-brick.bricks
    c.loop-brick.brick c.loop-brick.next c.loop-brick.invariant.renewing below

pub first_in-first-requires-clause-covered : goal.first_in-first-requires-clause-covered
first_in-first-requires-clause-covered c =
    let rows = c.args.types.now in
    let h = c.args.heap.now in
    let k = c.args.k in
    let end = ap (λ (s : SegInfo). s.end) c.info-end.ensures.value in
    let test = c.loop-brick-test.true in
    let below : 4096 * c.loop-brick.brick < last_of h k = omega (arith, end, test) in
    covered_here rows h c.info-end.ensures.heap c.requires.held k c.requires.in_range (renewing.passes c.args.counted)
    c.args.from c.args.young c.requires.low c.requires.high c.args.bricks.now c.requires.told c.loop-brick.bricks
    c.loop-brick.brick c.loop-brick.next c.loop-brick.invariant.renewing c.requires.bricks c.loop-brick.brick
    c.loop-brick.invariant.renewing.order below

pub first_in-first-requires-clause-told : goal.first_in-first-requires-clause-told
first_in-first-requires-clause-told c =
    let rows = c.args.types.now in
    let h = c.args.heap.now in
    let k = c.args.k in
    let end = ap (λ (s : SegInfo). s.end) c.info-end.ensures.value in
    let test = c.loop-brick-test.true in
    let below : 4096 * c.loop-brick.brick < last_of h k = omega (arith, end, test) in
    told_here rows h c.info-end.ensures.heap c.requires.held k c.requires.in_range (renewing.passes c.args.counted)
    c.args.from c.args.young c.requires.low c.requires.high c.args.bricks.now c.requires.told c.loop-brick.bricks
    c.loop-brick.brick c.loop-brick.next c.loop-brick.invariant.renewing below

pub name_first-next-requires-clause-shared : goal.name_first-next-requires-clause-shared
name_first-next-requires-clause-shared c =
    let rows = c.args.types.now in
    let h = c.args.heap.now in
    let k = c.args.k in
    let end = ap (λ (s : SegInfo). s.end) c.info-end.ensures.value in
    let test = c.loop-brick-test.true in
    let below : 4096 * c.loop-brick.brick < last_of h k = omega (arith, end, test) in
    λ i low high. shared_here rows h c.info-end.ensures.heap c.requires.held k c.requires.in_range
    (renewing.passes c.args.counted) c.args.from c.args.young c.requires.low c.requires.high c.args.bricks.now
    c.requires.told c.loop-brick.bricks c.loop-brick.brick c.loop-brick.next c.loop-brick.invariant.renewing c.requires.bricks
    c.loop-brick.next (omega arith) i low (omega (arith, below, high))

pub next_start-passed-requires-clause-near : goal.next_start-passed-requires-clause-near
next_start-passed-requires-clause-near c = let test = c.loop-brick-test.true in omega (arith, test)

pub next_start-passed-requires-clause-shared : goal.next_start-passed-requires-clause-shared
next_start-passed-requires-clause-shared c =
    let rows = c.args.types.now in
    let h = c.args.heap.now in
    let k = c.args.k in
    let end = ap (λ (s : SegInfo). s.end) c.info-end.ensures.value in
    let test = c.loop-brick-test.true in
    let below : 4096 * c.loop-brick.brick < last_of h k = omega (arith, end, test) in
    let P : ℕ → Type 0 = λ n. IsRenewing rows h (renewing.passes c.args.counted) k c.args.from c.args.bricks.now
    c.name_first-next.new.bricks (c.loop-brick.brick + 1) n in
    let w = subst P (sym c.name_first-next.ensures.next)
    (renewing_more rows h c.info-end.ensures.heap c.requires.held k c.requires.in_range (renewing.passes c.args.counted)
    c.args.from c.args.young c.requires.low c.requires.high c.args.bricks.now c.requires.told c.loop-brick.bricks
    c.loop-brick.brick c.loop-brick.next c.loop-brick.invariant.renewing below c.name_first-next.new.bricks
    c.first_in-first.result c.first_in-first.ensures c.name_first-next.ensures.entries
    c.name_first-next.ensures.spans) in
    let order = w.order in
    λ j i low up under. shared_here rows h c.info-end.ensures.heap c.requires.held k c.requires.in_range
    (renewing.passes c.args.counted) c.args.from c.args.young c.requires.low c.requires.high c.args.bricks.now
    c.requires.told c.name_first-next.new.bricks (c.loop-brick.brick + 1) c.name_first-next.result w c.requires.bricks
    j (omega (arith, low, order)) i up (omega (arith, end, under))

pub next_start-passed-requires-clause-order : goal.next_start-passed-requires-clause-order
next_start-passed-requires-clause-order c =
    let order = c.loop-brick.invariant.renewing.order in
    let bounds = next-bounds c.first_in-first.result c.loop-brick.brick c.loop-brick.next order in
    let at = c.name_first-next.ensures.next in
    let most = bounds.1 in
    omega (arith, at, most)

pub next_start-passed-requires-clause-known : goal.next_start-passed-requires-clause-known
next_start-passed-requires-clause-known c =
    open_more c.first_in-first.result c.loop-brick.brick c.loop-brick.next c.loop-brick.led c.name_first-next.result
    c.name_first-next.ensures.next c.loop-brick.invariant.led_low

pub next_start-passed-requires-clause-led : goal.next_start-passed-requires-clause-led
next_start-passed-requires-clause-led c =
    led_more c.loop-brick.bricks c.name_first-next.new.bricks c.first_in-first.result c.loop-brick.brick
    c.loop-brick.next c.loop-brick.led c.name_first-next.result c.name_first-next.ensures.next
    c.name_first-next.ensures.entries c.loop-brick.invariant.led_high c.loop-brick.invariant.led

pub loop-brick-preserved : goal.loop-brick-preserved
loop-brick-preserved c =
    let rows = c.args.types.now in
    let h = c.args.heap.now in
    let k = c.args.k in
    let end = ap (λ (s : SegInfo). s.end) c.info-end.ensures.value in
    let test = c.loop-brick-test.true in
    let below : 4096 * c.loop-brick.brick < last_of h k = omega (arith, end, test) in
    let P : ℕ → Type 0 = λ n. IsRenewing rows h (renewing.passes c.args.counted) k c.args.from c.args.bricks.now
    c.name_first-next.new.bricks (c.loop-brick.brick + 1) n in
    let w = subst P (sym c.name_first-next.ensures.next)
    (renewing_more rows h c.info-end.ensures.heap c.requires.held k c.requires.in_range (renewing.passes c.args.counted)
    c.args.from c.args.young c.requires.low c.requires.high c.args.bricks.now c.requires.told c.loop-brick.bricks
    c.loop-brick.brick c.loop-brick.next c.loop-brick.invariant.renewing below c.name_first-next.new.bricks
    c.first_in-first.result c.first_in-first.ensures c.name_first-next.ensures.entries
    c.name_first-next.ensures.spans) in
    let low = c.next_start-passed.ensures.low in
    let near = c.next_start-passed.ensures.near in
    let to = c.next_start-passed.result.1 in
    let brick = c.loop-brick.brick in
    let at : brick + 1 + (to - (brick + 1)) ≡ to = omega (arith, low) in
    let Q : ℕ → Type 0 = λ b. IsRenewing rows h (renewing.passes c.args.counted) k c.args.from c.args.bricks.now
    c.name_first-next.new.bricks b c.name_first-next.result in
    record {
      renewing = subst Q at (renewing_over rows h c.info-end.ensures.heap c.requires.held k c.requires.in_range
          (renewing.passes c.args.counted) c.args.from c.args.young c.requires.low c.requires.high c.args.bricks.now
          c.requires.told c.requires.no_contexts c.name_first-next.new.bricks c.name_first-next.result
          (to - (brick + 1)) (brick + 1) w (omega (arith, end, near, low))
          (λ i up under. c.next_start-passed.ensures.none i up (omega (arith, under, low))));
      led_low = c.next_start-passed.ensures.led_low;
      led_high = c.next_start-passed.ensures.led_high;
      led = c.next_start-passed.ensures.led;
    }

pub lead_on-requires-clause-shared : goal.lead_on-requires-clause-shared
lead_on-requires-clause-shared c =
    let rows = c.args.types.now in
    let h = c.args.heap.now in
    let k = c.args.k in
    let w = c.loop-brick.invariant.renewing in
    let low = c.loop-brick.invariant.led_low in
    λ under.
    shared_here rows h c.info-end.ensures.heap c.requires.held k c.requires.in_range
    (renewing.passes c.args.counted) c.args.from c.args.young c.requires.low c.requires.high c.args.bricks.now
    c.requires.told c.loop-brick.bricks c.loop-brick.brick c.loop-brick.next w c.requires.bricks c.loop-brick.next
    (omega arith) (c.loop-brick.brick - 1) (omega (arith, low, under))
    (w.inside (c.loop-brick.brick - 1) (omega (arith, low, under)) (omega (arith, low, under)))

pub returns-clause-entered : goal.returns-clause-entered
returns-clause-entered c =
    let rows = c.args.types.now in
    let h = c.args.heap.now in
    let k = c.args.k in
    let end = ap (λ (s : SegInfo). s.end) c.info-end.ensures.value in
    let test = c.loop-brick-test.false in
    let past : last_of h k ≤ 4096 * c.loop-brick.brick = omega (arith, end, test) in
    renewed rows h c.info-end.ensures.heap c.requires.held k c.requires.in_range (renewing.passes c.args.counted)
    c.args.from c.args.young c.requires.low c.requires.high c.args.bricks.now c.requires.told c.loop-brick.bricks
    c.loop-brick.brick c.loop-brick.next c.loop-brick.invariant.renewing past c.lead_on.new.self c.lead_on.ensures.entries

pub returns-clause-others : goal.returns-clause-others
returns-clause-others c =
    let rows = c.args.types.now in
    let h = c.args.heap.now in
    let k = c.args.k in
    let end = ap (λ (s : SegInfo). s.end) c.info-end.ensures.value in
    let test = c.loop-brick-test.false in
    let past : last_of h k ≤ 4096 * c.loop-brick.brick = omega (arith, end, test) in
    renewed_others rows h c.info-end.ensures.heap c.requires.held k c.requires.in_range (renewing.passes c.args.counted)
    c.args.from c.args.young c.requires.low c.requires.high c.args.bricks.now c.requires.told c.loop-brick.bricks
    c.loop-brick.brick c.loop-brick.next c.loop-brick.invariant.renewing past c.lead_on.new.self c.lead_on.ensures.entries
