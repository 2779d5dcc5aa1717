use Rattle.std.proofs.Common.{ℕ, ◌+◌, arith, sym, subst}
use Rattle.clr_bgmark.specs.Settling.{IsFoundFront, IsFurthestFront}
use Rattle.clr_bgmark.proofs.FrontFound.{front_found, front_none, furthest_found, furthest_none, last_behind}
use Rattle.clr_bgmark.proofs.FrontFound.{last_fits, last_index, last_item, last_used}
use Rattle.clr_bgmark.proofs.front.front_of.Goals as goal

pub end_of-requires-clause-item : goal.end_of-requires-clause-item
end_of-requires-clause-item c =
    last_item c.args.types.now c.args.heap.now c.requires.heap c.requires.held c.requires.no_contexts c.args.k
    c.requires.in_range c.args.shade.now c.args.part.now c.requires.shade c.requires.base c.requires.part
    c.requires.tiled c.in-Some.obj c.in-Some.ensures.taken

pub end_of-requires-clause-segment : goal.end_of-requires-clause-segment
end_of-requires-clause-segment c =
    last_index c.args.types.now c.args.heap.now c.requires.heap c.requires.held c.requires.no_contexts c.args.k
    c.requires.in_range c.args.shade.now c.args.part.now c.requires.shade c.requires.base c.requires.part
    c.requires.tiled c.in-Some.obj c.in-Some.ensures.taken

pub end_of-requires-clause-behind : goal.end_of-requires-clause-behind
end_of-requires-clause-behind c =
    last_behind c.args.types.now c.args.heap.now c.requires.heap c.requires.held c.requires.no_contexts c.args.k
    c.requires.in_range c.args.shade.now c.args.part.now c.requires.shade c.requires.base c.requires.part
    c.requires.tiled c.in-Some.obj c.in-Some.ensures.taken

pub end_of-requires-clause-fits : goal.end_of-requires-clause-fits
end_of-requires-clause-fits c =
    let fits = last_fits c.args.types.now c.args.heap.now c.requires.heap c.requires.held c.requires.no_contexts
    c.args.k c.requires.in_range c.args.shade.now c.args.part.now c.requires.shade c.requires.base c.requires.part
    c.requires.tiled c.in-Some.obj c.in-Some.ensures.taken in
    omega (arith, fits)

pub returns-in-Some-clause-front : goal.returns-in-Some-clause-front
returns-in-Some-clause-front c =
    let reached = c.search-reached.ensures in
    let found = c.in-Some.ensures in
    let laid = c.requires.laid in
    subst (λ (e : ℕ). IsFoundFront c.args.types.now c.args.heap.now c.args.shade.now c.args.k
    (record { place = e; count = c.search-reached.result.count })) (sym c.end_of.ensures)
    (front_found c.args.types.now c.args.heap.now c.requires.heap c.requires.held c.requires.no_contexts c.args.k
    c.requires.in_range c.args.shade.now c.args.part.now c.requires.shade c.requires.base c.requires.part
    c.requires.tiled c.in-Some.obj found.taken c.search-reached.result.words c.search-reached.result.count reached.good
    reached.count reached.old found.low found.last laid.0 laid.1 laid.2)

pub returns-in-None-clause-front : goal.returns-in-None-clause-front
returns-in-None-clause-front c =
    subst (λ (b : ℕ). IsFoundFront c.args.types.now c.args.heap.now c.args.shade.now c.args.k
    (record { place = b + 4096; count = 0 })) (sym c.base.ensures)
    (front_none c.args.types.now c.args.heap.now c.requires.heap c.requires.held c.requires.no_contexts c.args.k
    c.requires.in_range c.args.shade.now c.args.part.now c.requires.shade c.requires.base c.requires.part
    c.requires.tiled)

pub search-reached-requires-clause-taken : goal.search-reached-requires-clause-taken
search-reached-requires-clause-taken c x at =
    last_used c.args.types.now c.args.heap.now c.requires.heap c.requires.held c.requires.no_contexts c.args.k
    c.requires.in_range c.args.shade.now c.args.part.now c.requires.shade c.requires.base c.requires.part
    c.requires.tiled x at

pub returns-in-Some-clause-furthest : goal.returns-in-Some-clause-furthest
returns-in-Some-clause-furthest c =
    let reached = c.search-reached.ensures in
    let found = c.in-Some.ensures in
    subst (λ (e : ℕ). IsFurthestFront c.args.types.now c.args.heap.now c.args.k c.args.shade.now c.args.part.now
    (record { place = e; count = c.search-reached.result.count })) (sym c.end_of.ensures)
    (furthest_found c.args.types.now c.args.heap.now c.requires.heap c.requires.held c.requires.no_contexts c.args.k
    c.requires.in_range c.args.shade.now c.args.part.now c.requires.shade c.requires.base c.requires.part
    c.requires.tiled c.in-Some.obj found.taken c.search-reached.result.words c.search-reached.result.count reached.good
    reached.stopped found.last)

pub returns-in-None-clause-furthest : goal.returns-in-None-clause-furthest
returns-in-None-clause-furthest c =
    let reached = c.search-reached.ensures in
    subst (λ (b : ℕ). IsFurthestFront c.args.types.now c.args.heap.now c.args.k c.args.shade.now c.args.part.now
    (record { place = b + 4096; count = 0 })) (sym c.base.ensures)
    (furthest_none c.args.types.now c.args.heap.now c.requires.heap c.requires.held c.requires.no_contexts c.args.k
    c.requires.in_range c.args.shade.now c.args.part.now c.requires.shade c.requires.base c.requires.part
    c.requires.tiled c.search-reached.result.words reached.good reached.stopped c.in-None.ensures.none)
