-- The heap at a compaction's end, whose boundaries moved before the marks of its parts were cleared.
use Rattle.std.proofs.Common.{◌≡◌, ℕ, ◌<◌, ◌≤◌, true, false, List, length, refl, sym, ap, subst, subst₂, ◌∙◌, arith, ℤ}
use Rattle.clr_types.specs.Segments.{ephemeral, first_place}
use Rattle.clr_types.specs.Types.{TypeRow}
use Rattle.clr_bricks.specs.Bricks.{entry_at}
use Rattle.clr_covers.specs.Covers.{CoverView}
use Rattle.clr_heap.specs.View.{first_of, frame, HeapView, IsHeap, last_of, SameShape, segment_at, word_of}
use Rattle.clr_heap.proofs.Rewrite.{shaped_heap}
use Rattle.clr_model.specs.Compaction.{Move}
use Rattle.clr_view.specs.View.{objects_in}
use Rattle.clr_generations.specs.Laws.{AreEntered, BrickLaw, IsBrickOf}
use Rattle.clr_moves.specs.Moves.{part_of, takes}
use Rattle.clr_moves.specs.declared.planned.Planned.{Planned}
use Rattle.clr_moves.specs.Objects.{AreRemembered}
use Rattle.clr_moves.specs.Overlaid.{HoldsPlan}
use Rattle.clr_pinq.specs.declared.entry.PinEntry.{PinEntry}
use Rattle.clr_plugs.specs.BrickEntries.{BricksView}
use Rattle.clr_compact.specs.Compacted.{HasCompacted, part_items}
use Rattle.clr_compact.specs.PartBricks.{CanEnterParts, CanEnterYoung, HasMovedBounds, IsYoungPart}
use Rattle.clr_compact.specs.Rewrites.{cleared, Rewrites}
use Rattle.clr_compact.specs.Slides.{HasSlid}
use Rattle.clr_compact.proofs.CompactedBricks.{can-enter, law-now}
use Rattle.clr_compact.proofs.PartWalks.{heap-bounds, whole-part}
use Rattle.clr_compact.proofs.SlidBricks.{is-young-part, mid-part, mid-same, mid-young}
use Rattle.clr_compact.proofs.WholeCompacted.{has_compacted}
use Rattle.clr_compact.proofs.YoungBricks.{can-enter-young}
use Rattle.clr_moves.specs.declared.condemned.Condemned.TheVariants.{Generations}

module _ (rows : List TypeRow) (old planned_heap : HeapView) (covers : BricksView) (entries : List PinEntry) (g : ℕ)
    (moves : List Move) (start1 start0 : ℕ)
    (plan : HoldsPlan rows old planned_heap covers entries (Generations g) moves start1 start0) (least : g ≤ 2)
    (mid : HeapView)
    (slid : HasSlid old mid (Generations g) moves) (mid_heap : IsHeap mid) (from end : ℕ)
    (starts : (e : ℕ) → segment_at planned_heap e ≡ ephemeral (frame planned_heap)
    → from ≡ part_of planned_heap (Generations g) e)
    (ends : (e : ℕ) → segment_at planned_heap e ≡ ephemeral (frame planned_heap) → end ≡ last_of planned_heap e) where
  abbrev now : HeapView
  now = record mid { start1 = start1; start0 = start0 }

  -- the young part is that of the heap whose words the plan has written over
  starts-old : (e : ℕ) → segment_at old e ≡ ephemeral (frame old) → from ≡ part_of old (Generations g) e
  starts-old =
      let S : HeapView → Type 0 = λ h. (e : ℕ) → segment_at h e ≡ ephemeral (frame h)
      → from ≡ part_of h (Generations g) e in
      subst S plan.overlaid.shape.others starts

  ends-old : (e : ℕ) → segment_at old e ≡ ephemeral (frame old) → end ≡ last_of old e
  ends-old =
      let S : HeapView → Type 0 = λ h. (e : ℕ) → segment_at h e ≡ ephemeral (frame h) → end ≡ last_of h e in
      subst S plan.overlaid.shape.others ends

  -- the boundaries have moved
  pub bounds_moved : HasMovedBounds g from mid now
  bounds_moved = record {
    others = refl;
    young = λ e l eph.
        let (inside, was) = mid-young old (Generations g) moves mid slid plan.overlaid.heap mid_heap e l eph in
        starts-old e was ∙ sym (mid-part old (Generations g) moves mid slid e inside);
  }

  -- entries of the young part's bricks can be given back
  pub young_part : (bricks : List (CoverView ℤ)) (entry : ℕ → ℤ) (planned : Planned)
      → AreRemembered rows old bricks (Generations g) entry planned.below planned.first
      → (e : ℕ) → e < length mid.segments → segment_at mid e ≡ ephemeral (frame mid)
      → IsYoungPart now e from end planned
  young_part bricks entry planned r e l eph =
      let (inside, was) = mid-young old (Generations g) moves mid slid plan.overlaid.heap mid_heap e l eph in
      let k = is-young-part rows old g moves plan.machine plan.kept plan.after plan.compaction
      plan.overlaid.heap least mid slid e inside was bricks entry planned r in
      let k' : IsYoungPart now e (part_of old (Generations g) e) (last_of old e) planned = record {
        low = k.low;
        order = k.order;
        high = k.high;
        below_entry = k.below_entry;
        first_entry = k.first_entry;
      } in
      let P : ℕ → ℕ → Type 0 = λ a b. IsYoungPart now e a b planned in
      subst₂ P (sym (starts-old e was)) (sym (ends-old e was)) k'

  module _ (fin : HeapView) (shape : SameShape now fin)
      (words : Rewrites (cleared (part_items rows mid (Generations g) (length mid.segments))) (word_of mid)
      (word_of fin)) where
    fin_heap : IsHeap fin
    fin_heap = shaped_heap now fin shape (heap-bounds now mid.start1 mid.start0 mid_heap)

    -- the same heap with the boundaries that were
    abbrev clean : HeapView
    clean = record fin { start1 = mid.start1; start0 = mid.start0 }

    clean_shape : SameShape mid clean
    clean_shape = record {
      memories = shape.memories;
      others = ap (λ (h : HeapView). record h { start1 = mid.start1; start0 = mid.start0 }) shape.others;
    }

    clean_heap : IsHeap clean
    clean_heap = heap-bounds clean fin.start1 fin.start0 fin_heap

    is-fin : record clean { start1 = start1; start0 = start0 } ≡ fin
    is-fin =
        let at1 : start1 ≡ fin.start1 = sym (ap (λ (h : HeapView). h.start1) shape.others) in
        let at0 : start0 ≡ fin.start0 = sym (ap (λ (h : HeapView). h.start0) shape.others) in
        λ k. record fin { start1 = at1 k; start0 = at0 k }

    done : HasCompacted rows old (record clean { start1 = start1; start0 = start0 }) (Generations g) moves
    done =
        has_compacted rows old (Generations g) moves plan.machine plan.kept plan.after plan.compaction
        plan.overlaid.heap plan.held plan.no_contexts least mid slid mid_heap clean clean_shape words
        clean_heap start1 start0 plan.start1_is plan.start0_is

    -- THE COMPACTION is done
    pub finished : HasCompacted rows old fin (Generations g) moves
    finished = subst (λ (h : HeapView). HasCompacted rows old h (Generations g) moves) is-fin done

    done_heap : IsHeap (record clean { start1 = start1; start0 = start0 })
    done_heap = subst IsHeap (sym is-fin) fin_heap

    -- its parts can be entered
    pub can_enter_parts : (bricks : List (CoverView ℤ)) (entry : ℕ → ℤ) (planned : Planned)
        → AreRemembered rows old bricks (Generations g) entry planned.below planned.first
        → CanEnterParts rows now fin bricks g from end planned
    can_enter_parts bricks entry planned r =
        let P : HeapView → Type 0 = λ h. CanEnterParts rows now h bricks g from end planned in
        subst P is-fin (record {
          whole = λ all t l on.
              (let n = slid.count in
              let inside : t < length old.segments = omega arith in
              let on_g : takes (Generations g) (segment_at mid t) ≡ true =
              ap (λ (n : ℕ). takes (Generations n) (segment_at mid t)) all ∙ on in
              let on_old : takes (Generations g) (segment_at old t) ≡ true =
              sym (mid-same old (Generations g) moves mid slid (takes (Generations g)) (λ e s. refl) t inside) ∙ on_g in
              let first = mid-same old (Generations g) moves mid slid first_place (λ e s. refl) t inside in
              let at : first_of mid t ≡ part_of old (Generations g) t = first ∙ sym (whole-part old t)
              ∙ ap (λ (n : ℕ). part_of old (Generations n) t) (sym all) in
              let seg = ap (λ (h : HeapView). first_of h t) clean_shape.others in
              can-enter rows old (Generations g) moves plan.machine plan.kept plan.after plan.compaction
              plan.overlaid.heap plan.held plan.no_contexts least mid slid mid_heap clean clean_shape words
              start1 start0 done plan.start1_is plan.start0_is done_heap t inside on_old (first_of mid t) at
              (omega arith));
          young = λ less e l eph.
              (let (inside, was) = mid-young old (Generations g) moves mid slid plan.overlaid.heap mid_heap e l eph in
              let Q : ℕ → ℕ → Type 0 = λ a b. CanEnterYoung rows now (record clean {
                start1 = start1;
                start0 = start0;
              }) bricks e a b planned in
              subst₂ Q (sym (starts-old e was)) (sym (ends-old e was))
              (can-enter-young rows old g moves plan.machine plan.kept plan.after plan.compaction plan.overlaid.heap
              plan.held plan.no_contexts least mid slid mid_heap clean clean_shape
              words start1 start0 done plan.start1_is plan.start0_is done_heap less e inside was bricks entry planned
              r));
        })

    -- THE BRICK LAW, where they were
    pub finished_law : (bricks : List (CoverView ℤ)) (entry : ℕ → ℤ) (below own : ℤ)
        → AreRemembered rows old bricks (Generations g) entry below own → (other : ℕ → ℤ)
        → ((t : ℕ) → t < length mid.segments → takes (Generations g) (segment_at mid t) ≡ true
        → AreEntered rows (frame fin) (objects_in rows fin) other (segment_at fin t))
        → ((t b : ℕ) → t < length mid.segments → takes (Generations g) (segment_at mid t) ≡ false
        → IsBrickOf (segment_at mid t) b
        → other b ≡ entry_at bricks b)
        → BrickLaw rows (frame fin) (objects_in rows fin) other
    finished_law bricks entry below own r other =
        let P : HeapView → Type 0 = λ h. ((t : ℕ) → t < length mid.segments
        → takes (Generations g) (segment_at mid t) ≡ true
        → AreEntered rows (frame h) (objects_in rows h) other (segment_at h t))
        → ((t b : ℕ) → t < length mid.segments → takes (Generations g) (segment_at mid t) ≡ false
        → IsBrickOf (segment_at mid t) b
        → other b ≡ entry_at bricks b)
        → BrickLaw rows (frame h) (objects_in rows h) other in
        subst P is-fin
        (law-now rows old (Generations g) moves plan.machine plan.kept plan.after plan.compaction plan.overlaid.heap
        plan.held plan.no_contexts least mid slid mid_heap clean clean_shape words start1
        start0 done plan.start1_is plan.start0_is done_heap bricks entry r.law r.others other)
