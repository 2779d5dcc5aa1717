-- Where a pass over a segment begins, and what it leaves at the end.
use Rattle.std.proofs.Common.{◌≡◌, inl, inr, ℕ, ◌+◌, ◌%◌, ◌<◌, ◌≤◌, Bool, true, false, cond, List, [], ◌++◌, length}
use Rattle.std.proofs.Common.{set, refl, ap, sym, ◌∙◌, subst, arith, Option, None, append-nil}
use Rattle.std.proofs.lemmas.Bool.{cases_lt}
use Rattle.std.proofs.lemmas.List.Sums.{get_or-le-sum_by}
use Rattle.clr_types.specs.Ranges.{Piece}
use Rattle.clr_types.specs.Rising.{IsIn}
use Rattle.clr_types.specs.Segments.{empty_segment, ended_at, first_place, reserved_end, same_kind}
use Rattle.clr_types.specs.Types.{TypeRow}
use Rattle.clr_types.specs.declared.item.Item.{Item}
use Rattle.clr_types.specs.declared.segment.SegInfo.{SegInfo}
use Rattle.clr_types.specs.declared.segment.SegKind.TheVariants.{Ephemeral}
use Rattle.clr_heap.specs.Parts.{hole_from, item_parts, items_in, Part, parts, Spells}
use Rattle.clr_heap.specs.View.{first_of, HeapView, holes_of, IsHeap, items_between, last_of, no_rests, PartsAre}
use Rattle.clr_heap.specs.View.{segment_at, sight, word_of}
use Rattle.clr_heap.proofs.Addresses.{index_is_segment}
use Rattle.clr_heap.proofs.Ends.{ended_here}
use Rattle.clr_heap.proofs.Framing.{below_top_at, lawful_at}
use Rattle.clr_heap.proofs.Rewrite.{holes_same, SameShape-refl, shaped_heap}
use Rattle.clr_heap.proofs.Runs.{held_same}
use Rattle.clr_heap.proofs.Spelling.{Spells-append, Spells-le, Spells-same}
use Rattle.clr_heap.proofs.Staying.{parts_from}
use Rattle.clr_view.proofs.Listings.{items-append}
use Rattle.clr_heap.proofs.Walking.{walk_done}
use Rattle.clr_view.specs.View.{HaveFreeHeads}
use Rattle.clr_sweep.specs.SweptItems.{is_cut, items_below, items_from, last_end, part_last, stays, swept_from}
use Rattle.clr_sweep.specs.SweptItems.{swept_part, tally_among}
use Rattle.clr_sweep.specs.SweptSegments.{HasSweptSegment, IsParted}
use Rattle.clr_sweep.specs.Passes.{IsAtMost, plus}
use Rattle.clr_sweep.specs.declared.pass.Pass.{Pass}
use Rattle.clr_sweep.specs.declared.tally.Tally.{Tally}
use Rattle.clr_view.proofs.FreeHeads.{heads_none}
use Rattle.clr_sweep.proofs.FreeHeads.{items_of_parts}
use Rattle.clr_sweep.proofs.LawfulHeaps.{ended_heap}
use Rattle.clr_sweep.proofs.Passing.{Bounds, bounds, IsHome, IsPassing}
use Rattle.clr_sweep.proofs.Tallies.{at_most_up, plus-none}

-- where no thread has a context, no hole starts
pub none_starts : (h : HeapView) (k q : ℕ) → h.rests ≡ no_rests → hole_from (holes_of h k) q ≡ None
none_starts h k q e = go (same_kind (segment_at h k).kind Ephemeral)
  where
    go : (b : Bool) → hole_from (cond b h.rests []) q ≡ None
    go true = ap (λ (rs : List (Option Piece)). hole_from rs q) e
    go false = refl

module _ (rows : List TypeRow) (old : HeapView) (k : ℕ) (heap : IsHeap old) (from : ℕ)
    (inside : k < length old.segments) (w : IsParted rows old k from) where
  -- what is known of a segment where no hole starts
  pub home_unholed : ((q : ℕ) → hole_from (holes_of old k) q ≡ None) → IsHome rows old k from (last_of old k)
  home_unholed none =
      let lawful = lawful_at old k heap inside in
      let end = lawful.high in
      let top = below_top_at old k heap inside in
      let small = heap.top_small in
      let sum = get_or-le-sum_by (λ (s : SegInfo). s.reserved) old.segments k empty_segment inside in
      let limit = heap.within_limit in
      let least = heap.limit_small in
      let low = Spells-le (sight rows old k) (parts from (sight rows old k) (first_of old k) from) (first_of old k) from
      w.below.spelled in
      let up : 4096 ≤ from = omega arith in
      record {
        walk = w.above;
        index = λ b lo hi. index_is_segment old k b heap inside (omega arith) (omega arith);
        none = none;
        up = up;
        most = omega (arith, low, end, sum, limit, least);
        high = omega (arith, end, top, small);
      }

module _ (rows : List TypeRow) (old : HeapView) (k : ℕ) (heap : IsHeap old) (from : ℕ)
    (inside : k < length old.segments) (w : IsParted rows old k from) (rests : old.rests ≡ no_rests) where
  -- what is known of the segment
  pub home_is : IsHome rows old k from (last_of old k)
  home_is = home_unholed rows old k heap from inside w (λ q. none_starts old k q rests)

  -- the pass begins
  pub pass_starts : (t : Tally) → IsAtMost t from → IsPassing rows old old k from (last_of old k) t
      (record { place = from; run = from; last = from; tally = t })
  pass_starts t m =
      let z = w.above.start in
      record {
        shape = SameShape-refl old;
        walk = w.above;
        done = [];
        pending = [];
        low = refl;
        between = refl;
        low_heads = heads_none (word_of old);
        pending_heads = heads_none (word_of old);
        list = refl;
        ends = refl;
        gap = inl refl;
        aligned = (z, z, z);
        ahead = λ b z l. refl;
        outside = λ b z o. refl;
        kept = λ i l on. inr l;
        tally = refl;
        counted = m;
      }

  module _ (now : HeapView) (before : Tally) (pass : Pass) (s : IsPassing rows old now k from (last_of old k) before
      pass) (past : last_of old k ≤ pass.place) where
    abbrev last : ℕ
    last = last_of old k

    b : Bounds rows old now k from (last_of old k) before pass home_is s
    b = bounds rows old now k from (last_of old k) before pass home_is s

    same_segment : segment_at now k ≡ segment_at old k
    same_segment = ap (λ (h : HeapView). segment_at h k) s.shape.others

    -- what `set_end` asks
    pub record CanEnd : Type 0 where
      pub in_range : k < length now.segments
      pub above : first_of now k ≤ pass.last
      pub below : pass.last ≤ reserved_end (segment_at now k)
      pub aligned : pass.last % 8 ≡ 0

    pub can_end : CanEnd
    can_end =
        let under = Spells-le (sight rows old k) (parts from (sight rows old k) (first_of old k) from) (first_of old k)
        from w.below.spelled in
        let low = b.low in
        let mid = b.mid in
        let high = b.high in
        let top = b.top in
        let end = (lawful_at old k heap inside).high in
        let same = same_segment in
        let start = ap first_place same in
        let room = ap reserved_end same in
        let count = ap (λ (h : HeapView). length h.segments) s.shape.others in
        record {
          in_range = omega (arith, count, inside);
          above = omega (arith, start, under, low);
          below = omega (arith, room, mid, high, top, end);
          aligned = s.aligned.1;
        }

    -- nothing is left
    nothing : items_between (sight rows old k) pass.place (last_of old k) ≡ []
    nothing = walk_done (sight rows old k) old.memories pass.place (last_of old k) s.walk past

    end_is : part_last rows old k from ≡ pass.last
    end_is = s.ends ∙ ap (last_end (stays (word_of old)) pass.last) nothing

    list_is : swept_part rows old k from ≡ s.done
    list_is = s.list ∙ ap (λ (is : List Item). s.done ++ swept_from (stays (word_of old)) (is_cut old) s.pending
        pass.run pass.place is) nothing ∙ append-nil s.done

    -- the heap at the end
    abbrev ended : HeapView
    ended = record old {
      memories = now.memories;
      segments = set old.segments k (ended_at pass.last (segment_at old k));
    }

    ended_is : record now { segments = set now.segments k (ended_at pass.last (segment_at now k)) } ≡ ended
    ended_is = ap (λ (h : HeapView). record h { segments = set h.segments k (ended_at pass.last (segment_at h k)) })
        s.shape.others

    -- what stands below is as it was
    abbrev under : List Part
    under = parts from (sight rows old k) (first_of old k) from

    still_below : Spells (record { rows = rows; word = word_of now; holes = holes_of old k }) (first_of old k) under
        from
    still_below = Spells-same (sight rows old k) (word_of now) under (first_of old k) from w.below.start
        (λ c z lo hi. s.outside c z (inl (omega arith))) w.below.spelled

    parts_are : PartsAre rows ended k (under ++ item_parts s.done)
    parts_are =
        let low = b.low in
        let mid = b.mid in
        let high = b.high in
        let top = b.top in
        let here = ended_here old k pass.last inside in
        let P : List (Option Piece) → Type 0 = λ hs. Spells (record { rows = rows; word = word_of now; holes = hs })
        from (item_parts s.done) pass.last in
        parts_from rows ended k (under ++ item_parts s.done) (holes_of old k) (first_of old k) pass.last
        (ap first_place here) (ap (λ (s : SegInfo). s.end) here)
        (ap (λ (s : SegInfo). cond (same_kind s.kind Ephemeral) old.rests []) here) w.below.start
        (Spells-append (record { rows = rows; word = word_of now; holes = holes_of old k }) under (item_parts s.done)
        (first_of old k) from pass.last still_below (subst P (holes_same old now k s.shape) s.low))
        (λ a z lo hi. elim (cases_lt (a + 8) from) [
          | inl less ↦ held_same old now (first_of old k) from s.shape.memories w.below.held a z lo less
          | inr more ↦ held_same old now from (last_of old k) s.shape.memories w.above.held a z more (omega arith)
        ])

    -- THE END: the segment is swept
    pub pass_ends : HasSweptSegment rows old
        (record now { segments = set now.segments k (ended_at pass.last (segment_at now k)) }) k from
    pass_ends =
        let P : HeapView → Type 0 = λ h. HasSweptSegment rows old h k from in
        subst P (sym ended_is) (record {
          memories = s.shape.memories;
          others = ap (λ (e : ℕ). record old {
            memories = now.memories;
            segments = set old.segments k (ended_at e (segment_at old k));
          }) (sym end_is);
          walkable = parts_are.walkable;
          items = ap items_in parts_are.parts ∙ items-append under (item_parts s.done)
              ∙ ap (λ (is : List Item). items_below rows old k from ++ is) (items_of_parts s.done ∙ sym list_is);
          cells = λ i l on. elim (s.kept i l on) [
            | inl done ↦ done.1
            | inr ahead ↦ elim (subst (λ (is : List Item). IsIn i is) nothing ahead) [ ]
          ];
          free_heads = subst (HaveFreeHeads (word_of now)) (sym list_is) s.low_heads;
          outside = s.outside;
        })

    pub pass_lawful : IsHeap (record now { segments = set now.segments k (ended_at pass.last (segment_at now k)) })
    pass_lawful =
        let can = can_end in
        ended_heap now k pass.last (shaped_heap old now s.shape heap) can.in_range can.above can.below can.aligned

    -- and all its items are counted
    pub pass_counts : pass.tally ≡ plus before (tally_among old (items_from rows old k from))
    pass_counts = sym (plus-none pass.tally) ∙ ap (λ (is : List Item). plus pass.tally (tally_among old is))
        (sym nothing) ∙ s.tally

    pub pass_counted : IsAtMost pass.tally (last_of old k)
    pass_counted = let top = b.top in at_most_up pass.tally pass.place (last_of old k) top s.counted
