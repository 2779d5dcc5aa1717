use Rattle.std.proofs.Common.{◌≡◌, Some}
use Rattle.clr_heap.specs.View.{heap_items, item_with_place, only_object}
use Rattle.clr_view.proofs.Listed.{listed-known, listed-small}
use Rattle.clr_mark.proofs.FoundObjects.{found_listed, found_stands}
use Rattle.clr_heap_tests.proofs.marks.object.Goals as goal

pub returns-clause-listed : goal.returns-clause-listed
returns-clause-listed g c =
    let h = c.args.heap.now in
    let a = c.expect.ensures in
    let b = c.object_at.ensures in
    let e : Some c.expect.result ≡ only_object (item_with_place (heap_items c.args.types.now h) c.args.place) = cc in
    found_listed c.args.types.now h c.args.place c.expect.result e

pub returns-clause-known : goal.returns-clause-known
returns-clause-known g c = listed-known c.args.types.now c.args.heap.now c.expect.result c.lawful.ensures
    c.requires.held (returns-clause-listed g c)

pub returns-clause-small : goal.returns-clause-small
returns-clause-small g c = listed-small c.args.types.now c.args.heap.now c.expect.result c.lawful.ensures
    c.requires.held (returns-clause-listed g c)

pub returns-clause-stands : goal.returns-clause-stands
returns-clause-stands g c =
    let h = c.args.heap.now in
    let a = c.expect.ensures in
    let b = c.object_at.ensures in
    let e : Some c.expect.result ≡ only_object (item_with_place (heap_items c.args.types.now h) c.args.place) = cc in
    found_stands c.args.types.now h c.args.place c.expect.result e
