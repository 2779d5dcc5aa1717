-- An object gets its bit and an entry, where it has none.
use Rattle.std.proofs.Common.{◌≡◌, set, sym, ◌∙◌}
use Rattle.clr_sos.specs.declared.reach.Origin.{Origin}
use Rattle.clr_sos.proofs.Seen.{met_law, met_room, met_rooms, met_seen, numbered}
use Rattle.clr_sos.proofs.Searching.{came-none, came-push, grown-push, grown-refl, listed-push, search_more}
use Rattle.clr_sos.proofs.reach.Reached.meet_in.Goals as goal

pub info-requires : goal.info-requires
info-requires c =
    rw c.requires.segment (numbered c.args.view.now c.requires.sound c.args.place c.requires.stands).at.in_range

pub overflow_sub-number : goal.overflow_sub-number
overflow_sub-number c =
    rw (c.info.ensures.value, c.requires.segment)
    (numbered c.args.view.now c.requires.sound c.args.place c.requires.stands).at.low

pub add-requires : goal.add-requires
add-requires c = record {
  room = met_room c.args.view.now.heap.now c.args.self.now.seen.items c.args.place c.args.k c.info.result
      c.index_mut-bits.result.now c.requires.search.room
      (numbered c.args.view.now c.requires.sound c.args.place c.requires.stands) c.requires.segment
      c.info.ensures.value c.index_mut-bits.ensures.value;
}

pub returns-in_ok-push-clause-search : goal.returns-in_ok-push-clause-search
returns-in_ok-push-clause-search c =
    let v = c.args.view.now in
    let h = v.heap.now in
    let seen = c.args.self.now.seen.items in
    let x = c.args.place in
    let k = c.args.k in
    let s = c.info.result in
    let bits = c.index_mut-bits.result.now in
    let new = c.add.new.self in
    let room = c.requires.search.room in
    let n = numbered v c.requires.sound x c.requires.stands in
    let index = c.requires.segment in
    let segment = c.info.ensures.value in
    let read = c.index_mut-bits.ensures.value in
    let fresh = sym (met_seen h seen x k s bits room n index segment read) ∙ sym c.has.ensures ∙ c.if-not-has.true in
    rw c.in_ok-push.ensures.items
    (search_more v seen c.args.self.now.entries.items c.requires.search x c.args.origin c.requires.stands
    c.requires.origin fresh (set seen k new)
    (met_rooms h seen x k s bits room n index segment read new c.add.ensures.room c.add.ensures.added)
    (λ y stands. met_law h seen x k s bits room n index segment read new c.add.ensures.room c.add.ensures.added y
    (numbered v c.requires.sound y stands)))

pub returns-in_ok-push-clause-met : goal.returns-in_ok-push-clause-met
returns-in_ok-push-clause-met c =
    rw c.in_ok-push.ensures.items
    (listed-push c.args.self.now.entries.items (record { place = c.args.place; origin = c.args.origin }))

pub returns-else-not-has-clause-met : goal.returns-else-not-has-clause-met
returns-else-not-has-clause-met c =
    c.requires.search.listed c.args.place c.requires.stands
    (sym (met_seen c.args.view.now.heap.now c.args.self.now.seen.items c.args.place c.args.k
    c.info.result c.index_mut-bits.result.now c.requires.search.room
    (numbered c.args.view.now c.requires.sound c.args.place c.requires.stands) c.requires.segment
    c.info.ensures.value c.index_mut-bits.ensures.value) ∙ sym c.has.ensures ∙ c.if-not-has.false)

pub returns-in_ok-push-clause-grown : goal.returns-in_ok-push-clause-grown
returns-in_ok-push-clause-grown c =
    rw c.in_ok-push.ensures.items
    (grown-push c.args.self.now.entries.items (record { place = c.args.place; origin = c.args.origin }))

pub returns-else-not-has-clause-grown : goal.returns-else-not-has-clause-grown
returns-else-not-has-clause-grown c = grown-refl c.args.self.now.entries.items

pub returns-in_ok-push-clause-came : goal.returns-in_ok-push-clause-came
returns-in_ok-push-clause-came c =
    rw c.in_ok-push.ensures.items
    (came-push c.args.self.now.entries.items (record { place = c.args.place; origin = c.args.origin }))

pub returns-else-not-has-clause-came : goal.returns-else-not-has-clause-came
returns-else-not-has-clause-came c = came-none c.args.self.now.entries.items (λ (o : Origin). o ≡ c.args.origin)
