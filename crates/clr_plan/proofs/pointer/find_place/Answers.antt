use Rattle.std.proofs.Common.{◌≡◌, refl, arith, sym, ◌∙◌}
use Rattle.clr_types.specs.Ranges.{piece_end}
use Rattle.clr_plan.specs.Pins.{piece_of_pin}
use Rattle.clr_plan.specs.Waiting.{ranges_from}
use Rattle.clr_plan.proofs.Searching.{search-room, found-before-pin, search-passes-pin, found-at-home, found-in-tail}
use Rattle.clr_plan.proofs.Searching.{search-next-segment, below_home, searched}
use Rattle.clr_plan.proofs.pointer.find_place.Goals as goal
use Rattle.clr_plan.proofs.pointer.find_place.Goals.{then-at-home-via-then-at-home}
use Rattle.clr_plan.proofs.pointer.find_place.Goals.{then-at-home-via-else-at-home+then-at-size}

pub is_room-requires : goal.is_room-requires
is_room-requires c =
    let (w, can) = c.requires.stage in
    search-room w c.args.heap.now c.args.queue.now.entries c.args.from c.args.home c.args.size can c.loop-pin.at
    (c.loop-pin.invariant w can)

pub returns-then-is_room : goal.returns-then-is_room
returns-then-is_room c = record {
  found = λ w can.
      let (is, inside) = c.in-Some.ensures.some in
      found-before-pin w c.args.heap.now c.args.queue.now.entries c.args.from c.args.home c.args.size can c.loop-pin.at
      (c.loop-pin.invariant w can)
      (piece_of_pin c.in-Some.pin) (ranges_from c.in-Some.pin.behind c.args.queue.now.entries) is.first inside
      (sym c.is_room.ensures ∙ c.if-is_room.true);
}

pub loop-pin-preserved-in-Some : goal.loop-pin-preserved-in-Some
loop-pin-preserved-in-Some c = λ w can.
    let (is, inside) = c.in-Some.ensures.some in
    let ends : piece_end (piece_of_pin c.in-Some.pin) ≡ c.in-Some.pin.end = let l = is.some in omega (arith, l) in
    rw (sym ends) (search-passes-pin w c.args.heap.now c.args.queue.now.entries c.args.from c.args.home c.args.size can
    c.loop-pin.at (c.loop-pin.invariant w can)
    (piece_of_pin c.in-Some.pin) (ranges_from c.in-Some.pin.behind c.args.queue.now.entries) is.first inside
    c.in-Some.pin.behind is.within refl
    (sym c.is_room.ensures ∙ c.if-is_room.false))

pub returns-then-at-home : goal.returns-then-at-home
returns-then-at-home c = record {
  found = λ w can. elim c.then-at-home.branch [
    | then-at-home-via-then-at-home b ↦ found-at-home w c.args.heap.now c.args.queue.now.entries c.args.from c.args.home
        c.args.size can c.loop-pin.at (c.loop-pin.invariant w can) c.in-None.ensures.none
        b.if-at-home.true
    | then-at-home-via-else-at-home+then-at-size b ↦ found-in-tail w c.args.heap.now c.args.queue.now.entries
        c.args.from c.args.home c.args.size can c.loop-pin.at (c.loop-pin.invariant w can) c.in-None.ensures.none
        b.if-at-home.false b.if-at-size.true
  ];
}

pub in_next_segment-at-requires-clause-below : goal.in_next_segment-at-requires-clause-below
in_next_segment-at-requires-clause-below c =
    let (w, can) = c.requires.stage in
    below_home w c.args.heap.now c.args.queue.now.entries c.args.from c.args.home c.args.size can c.loop-pin.at
    (c.loop-pin.invariant w can) c.if-at-home.false

pub loop-pin-preserved : goal.loop-pin-preserved
loop-pin-preserved c = λ w can.
    searched w c.args.heap.now c.args.queue.now.entries c.args.from c.args.home c.args.size can
    c.in_next_segment-at.result
    (search-next-segment w c.args.heap.now c.args.queue.now.entries c.args.from c.args.home c.args.size can
    c.loop-pin.at (c.loop-pin.invariant w can) c.in-None.ensures.none
    c.if-at-home.false c.if-at-size.false c.in_next_segment-at.result.segment c.in_next_segment-at.ensures.next)
    c.in_next_segment-at.ensures.place c.in_next_segment-at.ensures.high c.in_next_segment-at.ensures.passed refl

pub pin_here-requires : goal.pin_here-requires
pin_here-requires c =
    let (w, can) = c.requires.stage in
    record { within = (c.loop-pin.invariant w can).behind }

pub overflow_add-at : goal.overflow_add-at
overflow_add-at c =
    let (w, can) = c.requires.stage in
    let room = search-room w c.args.heap.now c.args.queue.now.entries c.args.from c.args.home c.args.size can
    c.loop-pin.at (c.loop-pin.invariant w can) in
    omega (arith, room)
