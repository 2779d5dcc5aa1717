use Rattle.std.proofs.Common.{◌≡◌, ℕ, ◌+◌, ◌-◌, ◌/◌, ◌<◌, min, refl, ap, sym, ◌∙◌, subst, arith}
use Rattle.std.proofs.lemmas.Bool.{eqb-true, lt-ltb}
use Rattle.clr_types.specs.Segments.{first_place, generation}
use Rattle.clr_types.specs.declared.segment.SegInfo.{SegInfo}
use Rattle.clr_heap.specs.Parts.{item_at}
use Rattle.clr_heap.specs.View.{AfterItem, CanWalk, first_of, frame, items_between, last_of, sight, word_of}
use Rattle.clr_heap.proofs.Spelling.{place-item_at}
use Rattle.clr_heap.proofs.Walking.{walk_hole, walk_item}
use Rattle.clr_bgmark.specs.Bits.{with_bit}
use Rattle.clr_bgmark.specs.FirstParts.{gapped_one, IsTold}
use Rattle.clr_bgmark.specs.Pauses.{taken_in, taken_one}
use Rattle.clr_bgmark.specs.Shades.{cell_of, IsShade}
use Rattle.clr_bgmark.proofs.FirstTaken.{can_take, CanTake, one_shape, rest_left, shape}
use Rattle.clr_bgmark.proofs.ToldParts.{taken_lawful, told_as, told_gap, told_item, told_none, within_used}
use Rattle.clr_bgmark.proofs.first_pause.take_items.Goals.{In-None}
use Rattle.clr_bgmark.proofs.first_pause.take_items.Goals as goal

pub loop-place-init : goal.loop-place-init
loop-place-init c =
    let h = c.args.heap.now in
    let rows = c.args.types.now in
    let value = c.info-segment.ensures.value in
    let start : c.first_place-place.result ≡ first_of h c.args.k =
    c.first_place-place.ensures ∙ ap first_place value in
    let last = last_of h c.args.k in
    record {
      walk = subst (λ p. CanWalk (sight rows h c.args.k) h.memories p last) (sym start)
          (c.requires.walkable c.args.k c.requires.in_range);
      low = omega (arith, start);
      shape = refl;
      taken = λ i. taken_in h c.args.shade.now (items_between (sight rows h c.args.k) (start i) last);
      clear = λ q low high. absurd (omega (arith, low, high));
      known = c.none-known.ensures rows;
      lawful = c.requires.fresh.lawful;
      told =
          let base = ap (λ (p : ℕ × ℕ). p.0) c.requires.shape in
          let size = ap (λ (p : ℕ × ℕ). p.1) c.requires.shape in
          let long = c.info-segment.ensures.lawful.low in
          told_none rows h c.args.shade.now c.args.part.now c.first_place-place.result c.requires.fresh
          (omega (arith, start, base)) (omega (arith, size, long));
    }

pub hole_here-requires-clause-clear : goal.hole_here-requires-clause-clear
hole_here-requires-clause-clear c = c.loop-place.invariant.clear

-- the place is below the segment's end
within_segment : (place stop old end last : ℕ) → stop ≡ min old end → end ≡ last → place < stop → place < last
within_segment place stop old end last is same below = omega (arith, is, same, below)

pub loop-place-smaller-in-Some : goal.loop-place-smaller-in-Some
loop-place-smaller-in-Some c =
    let step = walk_hole (sight c.args.types.now c.args.heap.now c.args.k) c.args.heap.now.memories c.loop-place.place
    c.in-Some.high (last_of c.args.heap.now c.args.k) c.loop-place.invariant.walk
    (within_segment c.loop-place.place c.min-stop.result c.end_of_old.result c.info-segment.result.end
    (last_of c.args.heap.now c.args.k) c.min-stop.ensures (ap (λ (s : SegInfo). s.end) c.info-segment.ensures.value)
    c.loop-place-test.true)
    (sym c.hole_here.ensures.hole ∙ c.in-Some.is) in
    let higher = step.higher in
    let within = step.within in
    omega (arith, higher, within)

pub loop-place-preserved-in-Some : goal.loop-place-preserved-in-Some
loop-place-preserved-in-Some c =
    let h = c.args.heap.now in
    let inv = c.loop-place.invariant in
    let step = walk_hole (sight c.args.types.now h c.args.k) h.memories c.loop-place.place
    c.in-Some.high (last_of h c.args.k) inv.walk
    (within_segment c.loop-place.place c.min-stop.result c.end_of_old.result c.info-segment.result.end
    (last_of c.args.heap.now c.args.k) c.min-stop.ensures (ap (λ (s : SegInfo). s.end) c.info-segment.ensures.value)
    c.loop-place-test.true)
    (sym c.hole_here.ensures.hole ∙ c.in-Some.is) in
    let higher = step.higher in
    let low = inv.low in
    record {
      walk = step.walk;
      low = omega (arith, higher, low);
      shape = inv.shape;
      taken = ap (taken_in h c.loop-place.shade) (sym step.items) ∙ inv.taken;
      clear = λ q l. c.hole_here.ensures.clear q (omega (arith, higher, l));
      known = inv.known;
      lawful = inv.lawful;
      told =
          let s = c.loop-place.shade in
          let p = c.loop-place.part in
          let place = c.loop-place.place in
          let base = ap (λ (r : ℕ × ℕ). r.0) (inv.shape ∙ c.requires.shape) in
          let value = ap (λ (r : SegInfo). r.base) c.info-segment.ensures.value in
          let cell : (place - c.info-segment.result.base) / 8 ≡ cell_of s place =
          ap (λ b. (place - b) / 8) (value ∙ sym base) in
          told_as c.args.types.now h s s (record p { gaps = with_bit p.gaps (cell_of s place) }) c.add_gap.new.self
          c.in-Some.high c.in-Some.high refl
          (c.add_gap.ensures ∙ ap (λ n. record p { gaps = with_bit p.gaps n }) cell) refl
          (told_gap c.args.types.now h s p place c.in-Some.high inv.lawful inv.told inv.walk.start higher
          (within_used h c.info-segment.ensures.heap c.args.k c.requires.in_range s (inv.shape ∙ c.requires.shape)
          c.in-Some.high step.within) step.walk.start);
    }

in_segment : (c : In-None) → c.loop-place.place < last_of c.args.heap.now c.args.k
in_segment c = within_segment c.loop-place.place c.min-stop.result c.end_of_old.result c.info-segment.result.end
    (last_of c.args.heap.now c.args.k) c.min-stop.ensures (ap (λ (s : SegInfo). s.end) c.info-segment.ensures.value)
    c.loop-place-test.true

-- an item stands at the place
after : (c : In-None) → AfterItem (sight c.args.types.now c.args.heap.now c.args.k) c.args.heap.now.memories
    c.loop-place.place (last_of c.args.heap.now c.args.k)
after c = walk_item (sight c.args.types.now c.args.heap.now c.args.k) c.args.heap.now.memories c.loop-place.place
    (last_of c.args.heap.now c.args.k) c.loop-place.invariant.walk (in_segment c)
    (sym c.hole_here.ensures.hole ∙ c.in-None.is)

can : (c : In-None) → CanTake c.args.types.now c.args.heap.now c.args.k c.loop-place.place c.loop-place.shade
can c =
    can_take c.args.types.now c.args.heap.now c.info-segment.ensures.heap c.args.k c.requires.in_range
    c.loop-place.place (last_of c.args.heap.now c.args.k) c.loop-place.shade
    (c.loop-place.invariant.shape ∙ c.requires.shape) c.loop-place.invariant.low (in_segment c)
    refl (after c)

pub take_item-place-requires-clause-item : goal.take_item-place-requires-clause-item
take_item-place-requires-clause-item c = (can (goal.at.take_item-place-requires-clause-item c).In-None).item

pub take_item-place-requires-clause-segment : goal.take_item-place-requires-clause-segment
take_item-place-requires-clause-segment c = (can (goal.at.take_item-place-requires-clause-segment c).In-None).segment

pub take_item-place-requires-clause-behind : goal.take_item-place-requires-clause-behind
take_item-place-requires-clause-behind c = (can (goal.at.take_item-place-requires-clause-behind c).In-None).behind

pub take_item-place-requires-clause-room : goal.take_item-place-requires-clause-room
take_item-place-requires-clause-room c = (can (goal.at.take_item-place-requires-clause-room c).In-None).room

pub take_item-place-requires-clause-inside : goal.take_item-place-requires-clause-inside
take_item-place-requires-clause-inside c = (can (goal.at.take_item-place-requires-clause-inside c).In-None).inside

-- of generation 2
is_old : (c : In-None) → generation (frame c.args.heap.now) c.loop-place.place ≡ 2
is_old c =
    let place = c.loop-place.place in
    let stop = c.min-stop.ensures in
    let test = c.loop-place-test.true in
    let last = ap (λ (s : SegInfo). s.end) c.info-segment.ensures.value in
    let below : place < c.end_of_old.result = omega (arith, stop, test) in
    eqb-true (generation (frame c.args.heap.now) place) 2
    (c.end_of_old.ensures place c.loop-place.invariant.low (omega (arith, stop, test, last))
    ∙ lt-ltb place c.end_of_old.result below)

pub take_item-place-requires-clause-old : goal.take_item-place-requires-clause-old
take_item-place-requires-clause-old c = is_old (goal.at.take_item-place-requires-clause-old c).In-None

pub take_item-place-requires-clause-gaps : goal.take_item-place-requires-clause-gaps
take_item-place-requires-clause-gaps c = c.loop-place.invariant.told.part.room

pub take_item-place-requires-clause-known : goal.take_item-place-requires-clause-known
take_item-place-requires-clause-known c = c.loop-place.invariant.known

pub overflow_add-place : goal.overflow_add-place
overflow_add-place c =
    let within = (after (goal.at.overflow_add-place c).In-None).within in
    let size = c.take_item-place.ensures.size in
    let last = ap (λ (s : SegInfo). s.end) c.info-segment.ensures.value in
    let high = c.info-segment.ensures.lawful.high in
    let top = c.info-segment.ensures.below_top in
    let fits = c.info-segment.ensures.fits in
    record { fits = omega (arith, within, size, last, high, top, fits) }

pub loop-place-smaller : goal.loop-place-smaller
loop-place-smaller c =
    let step = after (goal.at.loop-place-smaller c).In-None in
    let within = step.within in
    let least = step.names.least in
    let size = c.take_item-place.ensures.size in
    omega (arith, within, least, size)

pub loop-place-preserved : goal.loop-place-preserved
loop-place-preserved c =
    let h = c.args.heap.now in
    let rows = c.args.types.now in
    let s = sight rows h c.args.k in
    let inv = c.loop-place.invariant in
    let end = last_of h c.args.k in
    let step = after (goal.at.loop-place-preserved c).In-None in
    let size : c.loop-place.place + c.take_item-place.result
    ≡ c.loop-place.place + (item_at rows (word_of h) c.loop-place.place).size =
    ap (λ n. c.loop-place.place + n) c.take_item-place.ensures.size in
    let low = inv.low in
    record {
      walk = subst (λ n. CanWalk s h.memories n end) (sym size) step.walk;
      low = omega (arith, low);
      shape = ap shape c.take_item-place.ensures.taken
          ∙ one_shape h c.loop-place.shade (item_at rows (word_of h) c.loop-place.place) ∙ inv.shape;
      taken =
          (λ i. taken_in h (c.take_item-place.ensures.taken i) (items_between s (size i) end))
          ∙ ap (taken_in h c.loop-place.shade) (sym step.items) ∙ inv.taken;
      clear = λ q l. c.hole_here.ensures.clear q (omega (arith, l));
      known = c.take_item-place.ensures.known;
      lawful = subst IsShade (sym c.take_item-place.ensures.taken)
          (taken_lawful h c.loop-place.shade (item_at rows (word_of h) c.loop-place.place) inv.lawful);
      told =
          let place = c.loop-place.place in
          let i = item_at rows (word_of h) place in
          let next = place + i.size in
          let least = step.names.least in
          told_as rows h (taken_one h c.loop-place.shade i) c.take_item-place.new.shade
          (gapped_one c.loop-place.shade c.loop-place.part i) c.take_item-place.new.part next
          (place + c.take_item-place.result) c.take_item-place.ensures.taken c.take_item-place.ensures.gaps size
          (told_item rows h c.loop-place.shade c.loop-place.part place next inv.lawful inv.told inv.walk.start
          (omega (arith, least))
          (within_used h c.info-segment.ensures.heap c.args.k c.requires.in_range c.loop-place.shade
          (inv.shape ∙ c.requires.shape) next step.within) step.walk.start i refl (place-item_at rows (word_of h) place)
          (is_old (goal.at.loop-place-preserved c).In-None) refl);
    }

pub returns-clause-taken : goal.returns-clause-taken
returns-clause-taken c =
    let h = c.args.heap.now in
    let inv = c.loop-place.invariant in
    let stop = c.min-stop.ensures in
    let test = c.loop-place-test.false in
    let last = ap (λ (s : SegInfo). s.end) c.info-segment.ensures.value in
    sym (rest_left c.args.types.now h c.args.k c.loop-place.place c.end_of_old.result c.loop-place.shade inv.walk
    inv.low c.end_of_old.ensures (omega (arith, stop, test, last)))
    ∙ inv.taken

pub returns-clause-told : goal.returns-clause-told
returns-clause-told c =
    subst (IsTold c.args.types.now c.args.heap.now c.loop-place.shade) (sym c.end_at.ensures)
    c.loop-place.invariant.told
