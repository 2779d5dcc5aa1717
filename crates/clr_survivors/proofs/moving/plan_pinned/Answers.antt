-- What pinned handles name is marked in the headers, and a plan is made.
use Rattle.std.proofs.Common.{◌≡◌, inl, inr, ℕ, ◌==◌, Bool, true, if◌then◌else◌, length, ap, ap₂, arith, refl, subst}
use Rattle.std.proofs.Common.{sym}
use Rattle.std.proofs.Common.{◌∙◌}
use Rattle.std.proofs.lemmas.Bool.{both_ways, cases_Bool, eq-eqb, eqb-true}
use Rattle.clr_plan.specs.Counts.{counts_of, no_counts, plus}
use Rattle.clr_heap.proofs.Rewrite.{shaped_heap}
use Rattle.clr_plan.proofs.Counting.{plus-none}
use Rattle.clr_sweep.specs.Swept.{tally_of}
use Rattle.clr_sweep.specs.SweptLarge.{large_tally}
use Rattle.clr_survivors.proofs.CountedAll.{counts-pinned, whole-counts}
use Rattle.clr_moves.specs.declared.condemned.Condemned.TheVariants.{Generations}
use Rattle.clr_survivors.specs.Condemned.{condemned_from}
use Rattle.clr_survivors.specs.Pins.{HasPins}
use Rattle.clr_survivors.proofs.CanMoveAll.{left-stands}
use Rattle.clr_survivors.proofs.PinnedFrom.{table_from}
use Rattle.clr_survivors.proofs.PinsTold.{few-pinned, memory-kept, tells-pins, tests-kept}
use Rattle.clr_survivors.proofs.PlannedPins.{laid-with, memory-with, planned-from, remembered-entries, survivors-from}
use Rattle.clr_survivors.proofs.PlannedPins.{with_handles}
use Rattle.clr_survivors.proofs.moving.plan_pinned.Goals as goal

pub set_pins-requires-clause-stand : goal.set_pins-requires-clause-stand
set_pins-requires-clause-stand c = λ n row here pinned some.
    left-stands c.args.types.now c.args.space.now.heap c.args.g row.target some
    (c.requires.marked.named.targets n row here)

pub plan-requires-clause-laid : goal.plan-requires-clause-laid
plan-requires-clause-laid c =
    let (n, memory, laid) = c.requires.marked.laid in
    let rows = c.args.types.now in
    let old = c.args.space.now.heap in
    let new = c.set_pins.new.heap in
    let table = c.args.roots.now.handles in
    let low = c.args.low in
    let seen = table_from low table in
    let m = with_handles n seen in (
      m,
      memory-kept rows old new table low c.requires.tidy.heap c.requires.tidy.held true c.set_pins.ensures.pins m
          (memory-with rows old n seen memory),
      laid-with n seen laid,
      tells-pins rows old new table low c.requires.tidy.heap c.requires.tidy.held c.requires.tidy.clean
          c.set_pins.ensures.below c.set_pins.ensures.pins m refl,
    )

pub plan-requires-clause-spare : goal.plan-requires-clause-spare
plan-requires-clause-spare c =
    let few = few-pinned c.args.types.now c.args.space.now.heap c.set_pins.new.heap c.args.roots.now.handles c.args.low
    c.requires.tidy.heap c.requires.tidy.held c.requires.tidy.clean c.set_pins.ensures.below c.set_pins.ensures.pins in
    let room = c.requires.ready.room in
    omega (arith, few, room)

pub returns-clause-planned : goal.returns-clause-planned
returns-clause-planned c = λ m kept memory same tests.
    let rows = c.args.types.now in
    let old = c.args.space.now.heap in
    let new = c.set_pins.new.heap in
    let table = c.args.roots.now.handles in
    let g = c.args.g in
    let low = condemned_from old g in
    let heap = c.requires.tidy.heap in
    let held = c.requires.tidy.held in
    let pins = subst (λ (n : ℕ). HasPins rows old new table n 65536 true) c.requires.low c.set_pins.ensures.pins in
    let seen = table_from low m.handles in
    record {
      view = new;
      pins = pins;
      plan = planned-from rows new c.plan.new.heap c.plan.new.bricks c.plan.new.pins.entries (Generations g) m seen kept
          c.plan.result.0.start1 c.plan.result.0.start0
          (survivors-from rows old g heap held m kept memory)
          (c.plan.ensures.planned (with_handles m seen) kept
          (memory-kept rows old new table low heap held true pins (with_handles m seen)
          (memory-with rows old m seen memory))
          (tests-kept rows old new table low heap held true pins g kept tests)
          (tells-pins rows old new table low heap held c.requires.tidy.clean c.set_pins.ensures.below pins
          (with_handles m seen) (ap (table_from low) same)));
      remembered = remembered-entries rows old new table low pins c.args.space.now.bricks c.plan.new.bricks g
          c.requires.tidy.tables.brick_law c.plan.result.0.below c.plan.result.0.first c.plan.ensures.entries
          c.plan.ensures.below c.plan.ensures.first;
      cards_is = refl;
      same_bricks = c.plan.ensures.spans;
    }

pub plus-requires-clause-kept : goal.plus-requires-clause-kept
plus-requires-clause-kept c =
    let a = c.plan.ensures.few.kept in let b = c.count_rest-rest.ensures.few.kept in omega (arith, a, b)

pub plus-requires-clause-freed : goal.plus-requires-clause-freed
plus-requires-clause-freed c =
    let a = c.plan.ensures.few.freed in let b = c.count_rest-rest.ensures.few.freed in omega (arith, a, b)

-- those of the plan and the others are all
all : (c : goal.After-plus) → plus c.plan.result.1 c.count_rest-rest.result
    ≡ counts_of (tally_of c.args.types.now c.set_pins.new.heap c.args.g)
all c = elim (cases_Bool (c.args.g == 2)) [
  | inl on ↦
      let two : c.args.g ≡ 2 = eqb-true c.args.g 2 on in
      ap₂ plus (c.plan.ensures.whole two) (c.count_rest-rest.ensures.counted
      ∙ ap (λ (b : Bool). if b then counts_of (large_tally c.args.types.now c.set_pins.new.heap
      (length c.set_pins.new.heap.segments)) else no_counts) on)
      ∙ whole-counts c.args.types.now c.set_pins.new.heap (shaped_heap c.args.space.now.heap c.set_pins.new.heap
      c.set_pins.ensures.pins.shape c.requires.tidy.heap) c.set_pins.ensures.pins.held
      ∙ ap (λ (n : ℕ). counts_of (tally_of c.args.types.now c.set_pins.new.heap n)) (sym two)
  | inr off ↦
      ap₂ plus (c.plan.ensures.young (λ two. both_ways (c.args.g == 2) off (eq-eqb c.args.g 2 two)))
      (c.count_rest-rest.ensures.counted
      ∙ ap (λ (b : Bool). if b then counts_of (large_tally c.args.types.now c.set_pins.new.heap
      (length c.set_pins.new.heap.segments)) else no_counts) off)
      ∙ plus-none (counts_of (tally_of c.args.types.now c.set_pins.new.heap c.args.g))
]

pub returns-clause-counted : goal.returns-clause-counted
returns-clause-counted c =
    c.plus.ensures ∙ all c
    ∙ counts-pinned c.args.types.now c.args.space.now.heap c.set_pins.new.heap c.args.roots.now.handles c.args.low
    c.requires.tidy.heap c.requires.tidy.held true c.set_pins.ensures.pins c.args.g
