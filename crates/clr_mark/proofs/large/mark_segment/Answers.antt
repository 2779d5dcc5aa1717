use Rattle.std.proofs.Common.{◌≡◌, ◌≢◌, ◌⊎◌, inl, inr, ℕ, ◌<◌, ◌≤◌, sym, ap, ◌∙◌, refl, subst, arith}
use Rattle.clr_types.specs.Rising.{IsIn}
use Rattle.clr_types.specs.declared.item.Item.{Item}
use Rattle.clr_types.specs.declared.segment.SegInfo.{SegInfo}
use Rattle.clr_heap.specs.Parts.{item_at}
use Rattle.clr_heap.specs.View.{first_of, last_of, listing, word_of}
use Rattle.clr_heap.proofs.Spelling.{place-item_at}
use Rattle.clr_heap.proofs.Rewrite.{shaped_heap}
use Rattle.clr_mark.specs.LargeMarks.{HasItemMark, with_item_mark}
use Rattle.clr_mark.proofs.Held.{keeps_held}
use Rattle.clr_view.proofs.Standing.{listed_from, standing}
use Rattle.clr_mark.proofs.Visiting.{at_item, visit_hole, visit_hole_up, visit_item, visited, visiting_starts}
use Rattle.clr_mark.proofs.LargeMarks.{after_mark}
use Rattle.clr_mark.proofs.large.mark_segment.Goals as goal

pub loop-place-init : goal.loop-place-init
loop-place-init c =
    let h = c.args.heap.now in
    rw c.info-segment.ensures.value (record {
      visiting = visiting_starts c.args.types.now h c.args.k (HasItemMark h) c.requires.held c.requires.in_range;
      kept = λ a z on. on;
      outside = λ a z out. refl;
      up = omega arith;
    })

pub loop-place-smaller-in-Some : goal.loop-place-smaller-in-Some
loop-place-smaller-in-Some c =
    let h = c.args.heap.now in
    let up = visit_hole_up c.args.types.now h c.loop-place.heap c.args.k (HasItemMark c.loop-place.heap)
    c.loop-place.place c.info-segment.result.end c.requires.heap c.requires.held c.requires.in_range
    c.loop-place.invariant.visiting c.loop-place-test.true c.in-Some.hole_end (sym c.hole_end.ensures ∙ c.in-Some.is) in
    omega arith

pub loop-place-preserved-in-Some : goal.loop-place-preserved-in-Some
loop-place-preserved-in-Some c =
    let h = c.args.heap.now in
    let higher = visit_hole_up c.args.types.now h c.loop-place.heap c.args.k (HasItemMark c.loop-place.heap)
    c.loop-place.place c.info-segment.result.end c.requires.heap c.requires.held c.requires.in_range
    c.loop-place.invariant.visiting c.loop-place-test.true c.in-Some.hole_end (sym c.hole_end.ensures ∙ c.in-Some.is) in
    record {
      visiting = visit_hole c.args.types.now h c.loop-place.heap c.args.k (HasItemMark c.loop-place.heap)
          c.loop-place.place c.info-segment.result.end c.requires.heap c.requires.held c.requires.in_range
          c.loop-place.invariant.visiting c.loop-place-test.true c.in-Some.hole_end
          (sym c.hole_end.ensures ∙ c.in-Some.is);
      kept = c.loop-place.invariant.kept;
      outside = c.loop-place.invariant.outside;
      up = (let u = c.loop-place.invariant.up in omega (arith, u, higher));
    }

pub mark_item-place-requires : goal.mark_item-place-requires
mark_item-place-requires c =
    let h = c.args.heap.now in
    (at_item c.args.types.now h c.loop-place.heap c.args.k (HasItemMark c.loop-place.heap)
    c.loop-place.place c.info-segment.result.end c.requires.heap c.requires.held c.requires.in_range
    c.loop-place.invariant.visiting c.loop-place-test.true (sym c.hole_end.ensures ∙ c.in-None.is)).head

pub overflow_add-place-in-None : goal.overflow_add-place-in-None
overflow_add-place-in-None c =
    let h = c.args.heap.now in
    let here = at_item c.args.types.now h c.loop-place.heap c.args.k (HasItemMark c.loop-place.heap)
    c.loop-place.place c.info-segment.result.end c.requires.heap c.requires.held c.requires.in_range
    c.loop-place.invariant.visiting c.loop-place-test.true (sym c.hole_end.ensures ∙ c.in-None.is) in
    let within = here.within in
    let last = ap (λ (s : SegInfo). s.end) c.info-segment.ensures.value in
    let high = c.info-segment.ensures.lawful.high in
    let below = c.info-segment.ensures.below_top in
    let fits = c.info-segment.ensures.fits in
    rw c.mark_item-place.ensures.size (omega arith)

pub loop-place-smaller : goal.loop-place-smaller
loop-place-smaller c =
    let h = c.args.heap.now in
    let here = at_item c.args.types.now h c.loop-place.heap c.args.k (HasItemMark c.loop-place.heap)
    c.loop-place.place c.info-segment.result.end c.requires.heap c.requires.held c.requires.in_range
    c.loop-place.invariant.visiting c.loop-place-test.true (sym c.hole_end.ensures ∙ c.in-None.is) in
    let least = here.least in
    rw c.mark_item-place.ensures.size (omega arith)

pub loop-place-preserved : goal.loop-place-preserved
loop-place-preserved c =
    let h = c.args.heap.now in
    let rows = c.args.types.now in
    let now = c.loop-place.heap in
    let p = c.loop-place.place in
    let r = c.loop-place.invariant.visiting in
    let l = sym c.hole_end.ensures ∙ c.in-None.is in
    let here = at_item rows h now c.args.k (HasItemMark now) p c.info-segment.result.end c.requires.heap c.requires.held
    c.requires.in_range r c.loop-place-test.true l in
    let i = item_at rows (word_of now) p in
    let new = with_item_mark now i in
    let a = after_mark rows now i (shaped_heap h now r.remarked.shape c.requires.heap)
    (keeps_held rows h now c.requires.heap c.requires.held r.remarked) here.listed in
    let up : (j : Item) → IsIn j (listing rows h c.args.k) → HasItemMark now j → HasItemMark new j =
    λ j m marked o. a.kept j.place (standing rows h c.requires.heap c.requires.held j
    (listed_from rows h c.args.k j c.requires.in_range m)).aligned (marked o) in
    let last = ap (λ (s : SegInfo). s.end) c.info-segment.ensures.value in
    let place : i.place ≡ p = place-item_at rows (word_of now) p in
    let away : (b : ℕ) → (b < first_of h c.args.k) ⊎ (last_of h c.args.k ≤ b) → b ≢ i.place =
    λ b out same. (let up = c.loop-place.invariant.up in let t = c.loop-place-test.true in elim out [
      | inl u ↦ omega (arith, u, up, same, place)
      | inr u ↦ omega (arith, u, t, last, same, place)
    ]) in
    rw (c.mark_item-place.ensures.size, c.mark_item-place.ensures.heap) (record {
      visiting = visit_item rows h now c.args.k (HasItemMark now) p c.info-segment.result.end c.requires.heap
          c.requires.held c.requires.in_range r c.loop-place-test.true l new (HasItemMark new) a.remarked up
          (let P : Item → Type 0 = λ j. HasItemMark new j in subst P here.same a.marked);
      kept = λ b z on. a.kept b z (c.loop-place.invariant.kept b z on);
      outside = λ b z out. a.others b z (away b out) ∙ c.loop-place.invariant.outside b z out;
      up = (let u = c.loop-place.invariant.up in let least = here.least in omega (arith, u, least));
    })

pub returns-clause-marked : goal.returns-clause-marked
returns-clause-marked c =
    let h = c.args.heap.now in
    visited c.args.types.now h c.loop-place.heap c.args.k (HasItemMark c.loop-place.heap)
    c.loop-place.place c.info-segment.result.end c.requires.heap c.requires.held c.requires.in_range
    c.loop-place.invariant.visiting c.loop-place-test.false
