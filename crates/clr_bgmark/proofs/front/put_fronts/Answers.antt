use Rattle.std.proofs.Common.{◌<◌, length, arith, ◌∙◌}
use Rattle.std.proofs.lemmas.List.{length-set}
use Rattle.clr_bgmark.proofs.EachFound.{lawful_shade}
use Rattle.clr_bgmark.proofs.PutFronts.{base_read, part_read, parts_count, put_further, put_more, tiled_at}
use Rattle.clr_bgmark.proofs.front.put_fronts.Goals.{After-index-in-loop-k}
use Rattle.clr_bgmark.proofs.front.put_fronts.Goals as goal

pub index-requires-in-loop-k : goal.index-requires-in-loop-k
index-requires-in-loop-k c =
    let below = c.loop-k-test.true in
    let len = c.len-k-end.ensures in
    let ok = c.args.shades.now.ok in
    let ok_parts = c.args.parts.now.ok in
    let count = parts_count c.args.shades.now.items c.args.parts.now.items c.requires.parts in
    omega arith

within : (c : After-index-in-loop-k) → c.loop-k.k < length c.args.shades.now.items
within c =
    let below = c.loop-k-test.true in
    let len = c.len-k-end.ensures in
    let ok = c.args.shades.now.ok in
    omega arith

pub front_of-requires-clause-shade : goal.front_of-requires-clause-shade
front_of-requires-clause-shade c =
    lawful_shade c.args.shades.now.items c.requires.apart c.loop-k.k (within c) c.index.result.now c.index.ensures
    c.requires.shades

pub front_of-requires-clause-base : goal.front_of-requires-clause-base
front_of-requires-clause-base c =
    base_read c.args.types.now c.args.heap.now c.requires.heap c.requires.held c.args.shades.now.items
    c.args.parts.now.items c.requires.apart c.requires.parts c.requires.bases c.loop-k.k c.index.result.now (within c)
    c.index.ensures

pub front_of-requires-clause-part : goal.front_of-requires-clause-part
front_of-requires-clause-part c =
    part_read c.args.types.now c.args.heap.now c.requires.heap c.requires.held c.args.shades.now.items
    c.args.parts.now.items c.requires.apart c.requires.parts c.requires.bases c.requires.objects c.requires.edges
    c.loop-k.k c.index.result.now c.index-in-loop-k.result.now (within c) c.index.ensures c.index-in-loop-k.ensures

pub front_of-requires-clause-tiled : goal.front_of-requires-clause-tiled
front_of-requires-clause-tiled c =
    tiled_at c.args.types.now c.args.heap.now c.requires.heap c.requires.held c.args.shades.now.items
    c.args.parts.now.items c.requires.apart c.requires.parts c.requires.bases c.requires.objects c.requires.edges
    c.loop-k.k c.index.result.now c.index-in-loop-k.result.now (within c) c.index.ensures c.index-in-loop-k.ensures

pub loop-k-preserved : goal.loop-k-preserved
loop-k-preserved c =
    let below = c.loop-k-test.true in
    let len = c.len-k-end.ensures in
    let ok = c.args.shades.now.ok in
    let inv = c.loop-k.invariant in
    let room = inv.room in
    let fs = c.loop-k.fronts.items in
    let inside : c.loop-k.k < length c.args.shades.now.items = omega arith in
    let count = parts_count c.args.shades.now.items c.args.parts.now.items c.requires.parts in
    record {
      room = length-set fs c.loop-k.k c.front_of.result ∙ room;
      fronts = put_more c.args.types.now c.args.heap.now c.args.shades.now.items fs c.loop-k.k c.index.result.now
          c.front_of.result inside (omega (arith, inside, room)) c.index.ensures inv.fronts c.front_of.ensures.front;
      furthest = put_further c.args.types.now c.args.heap.now c.args.shades.now.items c.args.parts.now.items fs
          c.loop-k.k c.index.result.now c.index-in-loop-k.result.now c.front_of.result inside
          (omega (arith, inside, count)) (omega (arith, inside, room)) c.index.ensures c.index-in-loop-k.ensures
          inv.furthest c.front_of.ensures.furthest;
    }
