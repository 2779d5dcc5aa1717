use Rattle.std.proofs.Common.{◌≡◌, ◌∙◌, ℕ, length, ap}
use Rattle.std.proofs.Common.{arith}
use Rattle.clr_heap.specs.View.{last_of}
use Rattle.clr_moves.specs.Moves.{part_of}
use Rattle.clr_moves.specs.declared.condemned.Condemned.TheVariants.{Generations}
use Rattle.clr_plan.specs.Counts.{counts_between, counts_in, plus}
use Rattle.clr_plan.proofs.CountedHeaps.{all-counted, all-few}
use Rattle.clr_plan.proofs.Ready.{can-plan-heap, pins-few, split-for, young-tally}
use Rattle.clr_plan.proofs.Whole.{has-planned}
use Rattle.clr_plan.proofs.planning.plan.Goals as goal

pub plan_lower-lower-requires-clause-can : goal.plan_lower-lower-requires-clause-can
plan_lower-lower-requires-clause-can c =
    can-plan-heap c.args.types.now c.args.heap.now c.ephemeral-e.ensures.heap c.requires.held c.requires.no_contexts
    c.args.g c.requires.least c.ephemeral-e.result c.ephemeral-e.ensures.in_range c.ephemeral-e.ensures.segment
    c.requires.laid

pub plan_lower-lower-requires-clause-spare : goal.plan_lower-lower-requires-clause-spare
plan_lower-lower-requires-clause-spare c =
    let few = pins-few c.args.types.now c.args.heap.now c.ephemeral-e.ensures.heap c.requires.held
    c.requires.no_contexts c.args.g c.requires.least c.ephemeral-e.result c.ephemeral-e.ensures.in_range
    c.ephemeral-e.ensures.segment c.requires.laid in
    let spare = c.requires.spare in
    omega (arith, few, spare)

pub returns-clause-planned : goal.returns-clause-planned
returns-clause-planned c = λ m kept memory tests pins.
    let laid = c.plan_ephemeral-start1.ensures.laid c.args.heap.now c.args.bricks.now c.args.pins.now
    c.plan_lower-lower.ensures.laid in
    has-planned c.args.types.now c.args.heap.now c.ephemeral-e.ensures.heap c.requires.held c.requires.no_contexts
    c.args.g c.requires.least c.ephemeral-e.result c.ephemeral-e.ensures.in_range c.ephemeral-e.ensures.segment
    c.requires.laid
    c.plan_ephemeral-start1.new.heap c.args.bricks.now c.plan_ephemeral-start1.new.bricks c.args.pins.now
    c.plan_ephemeral-start1.new.queue c.plan_ephemeral-start1.result.0 c.plan_ephemeral-start1.result.1 laid m kept
    memory tests pins c.requires.free_heads

pub returns-clause-spare : goal.returns-clause-spare
returns-clause-spare c =
    let laid = c.plan_ephemeral-start1.ensures.laid c.args.heap.now c.args.bricks.now c.args.pins.now
    c.plan_lower-lower.ensures.laid in
    let count = laid.laid.count in
    let none : length c.args.pins.now.entries ≡ 0 = ap length c.requires.empty in
    omega (arith, count, none)

pub returns-clause-entries : goal.returns-clause-entries
returns-clause-entries c = λ i out.
    let laid = c.plan_ephemeral-start1.ensures.laid c.args.heap.now c.args.bricks.now c.args.pins.now
    c.plan_lower-lower.ensures.laid in
    let inside = c.ephemeral-e.ensures.in_range in
    laid.laid.entries i (λ t l on. out t (omega (arith, l, inside)) on)

pub returns-clause-spans : goal.returns-clause-spans
returns-clause-spans c =
    let laid = c.plan_ephemeral-start1.ensures.laid c.args.heap.now c.args.bricks.now c.args.pins.now
    c.plan_lower-lower.ensures.laid in
    laid.laid.spans_are

pub plus-requires-clause-kept : goal.plus-requires-clause-kept
plus-requires-clause-kept c =
    let rows = c.args.types.now in
    let h = c.args.heap.now in
    let g = c.args.g in
    let e = c.ephemeral-e.result in
    let can = can-plan-heap rows h c.ephemeral-e.ensures.heap c.requires.held c.requires.no_contexts g
    c.requires.least e c.ephemeral-e.ensures.in_range c.ephemeral-e.ensures.segment c.requires.laid in
    let split = split-for rows h c.ephemeral-e.ensures.heap c.requires.held c.requires.no_contexts g
    c.requires.least e c.ephemeral-e.ensures.in_range c.ephemeral-e.ensures.segment c.requires.laid in
    let low = c.part_start-low.ensures in
    let (young, kept, freed) = c.plan_ephemeral-start1.ensures.counted h c.args.bricks.now c.args.pins.now
    c.plan_lower-lower.ensures.laid in
    let lower = c.plan_lower-lower.result.counts in
    let upper = c.plan_ephemeral-start1.result.2 in
    let is : upper ≡ plus (counts_between rows h e (part_of h (Generations g) e) h.start0)
    (counts_between rows h e h.start0 (last_of h e)) = young
    ∙ ap (λ (n : ℕ). plus (counts_between rows h e n h.start0) (counts_between rows h e h.start0 (last_of h e))) low in
    let few = all-few rows h g e can lower upper c.plan_lower-lower.ensures.counted split is
    (omega (arith, kept, low)) (omega (arith, freed, low)) in
    let most = few.kept in
    omega (arith, most)

pub plus-requires-clause-freed : goal.plus-requires-clause-freed
plus-requires-clause-freed c =
    let rows = c.args.types.now in
    let h = c.args.heap.now in
    let g = c.args.g in
    let e = c.ephemeral-e.result in
    let can = can-plan-heap rows h c.ephemeral-e.ensures.heap c.requires.held c.requires.no_contexts g
    c.requires.least e c.ephemeral-e.ensures.in_range c.ephemeral-e.ensures.segment c.requires.laid in
    let split = split-for rows h c.ephemeral-e.ensures.heap c.requires.held c.requires.no_contexts g
    c.requires.least e c.ephemeral-e.ensures.in_range c.ephemeral-e.ensures.segment c.requires.laid in
    let low = c.part_start-low.ensures in
    let (young, kept, freed) = c.plan_ephemeral-start1.ensures.counted h c.args.bricks.now c.args.pins.now
    c.plan_lower-lower.ensures.laid in
    let lower = c.plan_lower-lower.result.counts in
    let upper = c.plan_ephemeral-start1.result.2 in
    let is : upper ≡ plus (counts_between rows h e (part_of h (Generations g) e) h.start0)
    (counts_between rows h e h.start0 (last_of h e)) = young
    ∙ ap (λ (n : ℕ). plus (counts_between rows h e n h.start0) (counts_between rows h e h.start0 (last_of h e))) low in
    let few = all-few rows h g e can lower upper c.plan_lower-lower.ensures.counted split is
    (omega (arith, kept, low)) (omega (arith, freed, low)) in
    let most = few.freed in
    omega (arith, most)

pub returns-clause-young : goal.returns-clause-young
returns-clause-young c = λ ne.
    let rows = c.args.types.now in
    let h = c.args.heap.now in
    let g = c.args.g in
    let e = c.ephemeral-e.result in
    let can = can-plan-heap rows h c.ephemeral-e.ensures.heap c.requires.held c.requires.no_contexts g
    c.requires.least e c.ephemeral-e.ensures.in_range c.ephemeral-e.ensures.segment c.requires.laid in
    let split = split-for rows h c.ephemeral-e.ensures.heap c.requires.held c.requires.no_contexts g
    c.requires.least e c.ephemeral-e.ensures.in_range c.ephemeral-e.ensures.segment c.requires.laid in
    let low = c.part_start-low.ensures in
    let (young, kept, freed) = c.plan_ephemeral-start1.ensures.counted h c.args.bricks.now c.args.pins.now
    c.plan_lower-lower.ensures.laid in
    let lower = c.plan_lower-lower.result.counts in
    let upper = c.plan_ephemeral-start1.result.2 in
    let is : upper ≡ plus (counts_between rows h e (part_of h (Generations g) e) h.start0)
    (counts_between rows h e h.start0 (last_of h e)) = young
    ∙ ap (λ (n : ℕ). plus (counts_between rows h e n h.start0) (counts_between rows h e h.start0 (last_of h e))) low in
    c.plus.ensures ∙ all-counted rows h g e can lower upper c.plan_lower-lower.ensures.counted split is
    ∙ young-tally rows h c.ephemeral-e.ensures.heap c.requires.held c.requires.no_contexts g c.requires.least e
    c.ephemeral-e.ensures.in_range c.ephemeral-e.ensures.segment c.requires.laid ne

pub returns-clause-whole : goal.returns-clause-whole
returns-clause-whole c = λ two.
    let rows = c.args.types.now in
    let h = c.args.heap.now in
    let g = c.args.g in
    let e = c.ephemeral-e.result in
    let can = can-plan-heap rows h c.ephemeral-e.ensures.heap c.requires.held c.requires.no_contexts g
    c.requires.least e c.ephemeral-e.ensures.in_range c.ephemeral-e.ensures.segment c.requires.laid in
    let split = split-for rows h c.ephemeral-e.ensures.heap c.requires.held c.requires.no_contexts g
    c.requires.least e c.ephemeral-e.ensures.in_range c.ephemeral-e.ensures.segment c.requires.laid in
    let low = c.part_start-low.ensures in
    let (young, kept, freed) = c.plan_ephemeral-start1.ensures.counted h c.args.bricks.now c.args.pins.now
    c.plan_lower-lower.ensures.laid in
    let lower = c.plan_lower-lower.result.counts in
    let upper = c.plan_ephemeral-start1.result.2 in
    let is : upper ≡ plus (counts_between rows h e (part_of h (Generations g) e) h.start0)
    (counts_between rows h e h.start0 (last_of h e)) = young
    ∙ ap (λ (n : ℕ). plus (counts_between rows h e n h.start0) (counts_between rows h e h.start0 (last_of h e))) low in
    c.plus.ensures ∙ all-counted rows h g e can lower upper c.plan_lower-lower.ensures.counted split is
    ∙ ap (λ (n : ℕ). counts_in rows h (Generations n) (length h.segments)) two

pub returns-clause-few : goal.returns-clause-few
returns-clause-few c =
    let rows = c.args.types.now in
    let h = c.args.heap.now in
    let g = c.args.g in
    let e = c.ephemeral-e.result in
    let can = can-plan-heap rows h c.ephemeral-e.ensures.heap c.requires.held c.requires.no_contexts g
    c.requires.least e c.ephemeral-e.ensures.in_range c.ephemeral-e.ensures.segment c.requires.laid in
    let split = split-for rows h c.ephemeral-e.ensures.heap c.requires.held c.requires.no_contexts g
    c.requires.least e c.ephemeral-e.ensures.in_range c.ephemeral-e.ensures.segment c.requires.laid in
    let low = c.part_start-low.ensures in
    let (young, kept, freed) = c.plan_ephemeral-start1.ensures.counted h c.args.bricks.now c.args.pins.now
    c.plan_lower-lower.ensures.laid in
    let lower = c.plan_lower-lower.result.counts in
    let upper = c.plan_ephemeral-start1.result.2 in
    let is : upper ≡ plus (counts_between rows h e (part_of h (Generations g) e) h.start0)
    (counts_between rows h e h.start0 (last_of h e)) = young
    ∙ ap (λ (n : ℕ). plus (counts_between rows h e n h.start0) (counts_between rows h e h.start0 (last_of h e))) low in
    let few = all-few rows h g e can lower upper c.plan_lower-lower.ensures.counted split is
    (omega (arith, kept, low)) (omega (arith, freed, low)) in
    rw c.plus.ensures few
