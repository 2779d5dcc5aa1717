-- The objects are taken one by one.
use Rattle.std.proofs.Common.{◌≡◌, ◌+◌, ◌<◌, ℕ, ap, arith, get_or, inl, length, inr, subst, sym, ◌∙◌}
use Rattle.std.proofs.lemmas.Bool.{cases_eq}
use Rattle.std.proofs.lemmas.List.{get_or_read}
use Rattle.clr_heap.specs.Memories.{memory_index}
use Rattle.clr_view.specs.SlotValues.{IsObjectAt}
use Rattle.clr_mark.proofs.Rooting.{at_in}
use Rattle.clr_sos.specs.Reaching.{IsObjectOf}
use Rattle.clr_sos.proofs.Seen.{numbered}
use Rattle.clr_paths.specs.Incoming.{IsSlotEdge}
use Rattle.clr_paths.specs.Numbers.{place_of}
use Rattle.clr_paths.proofs.EdgeLists.{listed-more, listed-on, listed-starts}
use Rattle.clr_paths.proofs.incoming.Incoming.add_slots.Goals.{In-loop-from}
use Rattle.clr_paths.proofs.incoming.Incoming.add_slots.Goals as goal

pub loop-from-init : goal.loop-from-init
loop-from-init c =
    let places = c.args.numbers.now.places.items in
    listed-starts c.args.view.now places c.args.self.now
    (λ from to. (from < 0) × IsSlotEdge c.args.view.now places from to) c.requires.edges
    (λ f t l w. let none = w.0 in omega (arith, none))

-- there is a next object
inside : (c : In-loop-from) → c.loop-from.from < length c.args.numbers.now.places.items
inside c =
    let low = c.loop-from-test.true in
    let count = c.len-from-end.ensures in
    let whole = c.args.numbers.now.places.ok.0 in
    omega (arith, low, count, whole)

-- its address was read
read : (c : In-loop-from) (place : ℕ) → place ≡ get_or c.args.numbers.now.places.items c.loop-from.from place
    → place ≡ place_of c.args.numbers.now.places.items c.loop-from.from
read c place e = get_or_read c.args.numbers.now.places.items c.loop-from.from place (inside c) e 0

stands : (c : In-loop-from) (place : ℕ) → place ≡ get_or c.args.numbers.now.places.items c.loop-from.from place
    → IsObjectOf c.args.view.now place
stands c place e =
    subst (IsObjectOf c.args.view.now) (sym (read c place e))
    (c.requires.numbers.stand _ (at_in c.args.numbers.now.places.items c.loop-from.from 0 (inside c)))

pub segment_near-near-requires : goal.segment_near-near-requires
segment_near-near-requires c =
    (numbered c.args.view.now c.requires.sound c.index-place.result.now
    (stands (goal.at.segment_near-near-requires c).In-loop-from c.index-place.result.now c.index-place.ensures)).word

pub object_item-item-requires-clause-stands : goal.object_item-item-requires-clause-stands
object_item-item-requires-clause-stands c =
    stands (goal.at.object_item-item-requires-clause-stands c).In-loop-from c.index-place.result.now
    c.index-place.ensures

pub add_item-requires-clause-edges : goal.add_item-requires-clause-edges
add_item-requires-clause-edges c = c.loop-from.invariant.edges

pub add_item-requires-clause-item : goal.add_item-requires-clause-item
add_item-requires-clause-item c =
    let at = c.object_item-item.ensures in
    let own = (goal.at.add_item-requires-clause-item c).In-loop-from in
    record {
      below = inside own;
      place = at.at ∙ read own c.index-place.result.now c.index-place.ensures;
      stands = subst
          (λ (p : ℕ). IsObjectAt c.args.view.now.types.now c.args.view.now.heap.now p c.object_item-item.result)
          (sym at.at) at;
    }

pub add_item-requires-clause-segment : goal.add_item-requires-clause-segment
add_item-requires-clause-segment c =
    c.segment_near-near.ensures
    ∙ ap (memory_index c.args.view.now.heap.now.memories) (sym c.object_item-item.ensures.at)

pub loop-from-preserved : goal.loop-from-preserved
loop-from-preserved c =
    let v = c.args.view.now in
    let places = c.args.numbers.now.places.items in
    let from = c.loop-from.from in
    listed-more v places c.args.self.now c.loop-from.self c.add_item.new.self
    (λ f t. (f < from) × IsSlotEdge v places f t) (λ f t. (f ≡ from) × IsSlotEdge v places from t)
    (λ f t. (f < from + 1) × IsSlotEdge v places f t) c.loop-from.invariant c.in_ok-add_item.ensures
    (λ f t l w. elim (cases_eq f from) [
      | inl same ↦ inr (same, subst (λ (n : ℕ). IsSlotEdge v places n t) same w.1)
      | inr other ↦ let low = w.0 in inl (omega (arith, low, other), w.1)
    ])

pub returns : goal.returns
returns c =
    let v = c.args.view.now in
    let places = c.args.numbers.now.places.items in
    let past = c.loop-from-test.false in
    let count = c.len-from-end.ensures in
    let whole = c.args.numbers.now.places.ok.0 in
    listed-on v places c.args.self.now c.loop-from.self (λ f t. (f < c.loop-from.from) × IsSlotEdge v places f t)
    (λ f t. (f < length places) × IsSlotEdge v places f t) c.loop-from.invariant
    (λ f t l w. let low = w.0 in (omega (arith, low, past, count, whole), w.1))
