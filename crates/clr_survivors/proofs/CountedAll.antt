-- What a plan counts and what stands in large segments are together what a collection counts.
use Rattle.std.proofs.Common.{◌≡◌, ℕ, zero, suc, ◌+◌, Bool, true, false, not, ◌&&◌, ◌||◌, ◌==◌, List}
use Rattle.std.proofs.Common.{refl, ap, ap₂, sym, ◌∙◌, arith, length, if◌then◌else◌, nat_le}
use Rattle.std.specs.Prelude.{count_by}
use Rattle.std.specs.FinMap.{FinMap}
use Rattle.std.specs.Ordering.{nat_cmp}
use Rattle.std.proofs.lemmas.List.Sums.{length-filter}
use Rattle.clr_types.specs.Rising.{IsIn}
use Rattle.clr_types.specs.Segments.{generation, is_large_or_pinned, is_small_or_ephemeral, Layout, same_kind}
use Rattle.clr_types.specs.Types.{TypeRow}
use Rattle.clr_types.specs.declared.handle.Handle.{Handle}
use Rattle.clr_types.specs.declared.item.Item.{Item}
use Rattle.clr_types.specs.declared.segment.SegKind.{SegKind}
use Rattle.clr_types.specs.declared.segment.SegKind.TheVariants.{Ephemeral, Large, Pinned, Small}
use Rattle.clr_types.proofs.ListMembers.{filter-on}
use Rattle.clr_heap.specs.View.{first_of, HeapView, IsHeap, last_of, listing, listings, segment_at}
use Rattle.clr_model.specs.Machine.{Object}
use Rattle.clr_view.specs.Memory.{is_marked, is_reached_by}
use Rattle.clr_view.specs.View.{IsHeld, objects_in}
use Rattle.clr_view.proofs.Walked.{walked-on}
use Rattle.clr_moves.specs.Moves.{part_of, takes}
use Rattle.clr_moves.specs.declared.condemned.Condemned.TheVariants.{Generations}
use Rattle.clr_plan.specs.Counts.{counts_between, counts_in, counts_of, no_counts, plus}
use Rattle.clr_plan.specs.declared.counts.Counts.{Counts}
use Rattle.clr_plan.proofs.Counting.{none-plus, plus-none}
use Rattle.clr_sweep.specs.Passes.{no_tally}
use Rattle.clr_sweep.specs.Swept.{is_kept, tally_of}
use Rattle.clr_sweep.specs.SweptItems.{tally_among}
use Rattle.clr_sweep.specs.SweptLarge.{is_large, large_tally}
use Rattle.clr_sweep.specs.declared.tally.Tally.{Tally}
use Rattle.clr_sweep.proofs.Counted.{whole-counted}
use Rattle.clr_sweep.proofs.Tallies.{tally-append}
use Rattle.clr_survivors.specs.Pins.{HasPins}
use Rattle.clr_survivors.proofs.PinsTold.{frame-kept, marked-kept}

-- ---- small and large segments

-- a segment is of the small heap, or large
complement : (k : SegKind) → is_large_or_pinned k ≡ not (is_small_or_ephemeral k)
complement Small = refl
complement Ephemeral = refl
complement Large = refl
complement Pinned = refl

shuffled : (a b c d : Counts) → plus (plus a b) (plus c d) ≡ plus (plus a c) (plus b d)
shuffled a b c d =
    let kept : a.kept + b.kept + (c.kept + d.kept) ≡ a.kept + c.kept + (b.kept + d.kept) = omega arith in
    let freed : a.freed + b.freed + (c.freed + d.freed) ≡ a.freed + c.freed + (b.freed + d.freed) = omega arith in
    λ j. record { kept = kept j; freed = freed j }

module _ (rows : List TypeRow) (h : HeapView) where
  module _ (k : ℕ) where
    -- the part of a segment in a collection of all generations is the whole segment
    whole-part : part_of h (Generations 2) k ≡ first_of h k
    whole-part = go (same_kind Ephemeral (segment_at h k).kind)
      where
        go : (b : Bool) → (if b then (if 2 == 0 then h.start0 else (if 2 == 1 then h.start1 else first_of h k))
            else first_of h k) ≡ first_of h k
        go true = refl
        go false = refl

    -- and a segment counts once
    one-segment : plus (if takes (Generations 2) (segment_at h k)
        then counts_between rows h k (part_of h (Generations 2) k) (last_of h k) else no_counts)
        (counts_of (if is_large h k then tally_among h (listing rows h k) else no_tally))
        ≡ counts_of (tally_among h (listing rows h k))
    one-segment =
        go (is_small_or_ephemeral (segment_at h k).kind) (same_kind Ephemeral (segment_at h k).kind) (is_large h k)
        (complement (segment_at h k).kind)
        (counts_between rows h k (part_of h (Generations 2) k) (last_of h k))
        (ap (λ (n : ℕ). counts_between rows h k n (last_of h k)) whole-part)
      where
        t : Tally
        t = tally_among h (listing rows h k)

        go : (small young large : Bool) → large ≡ not small → (a : Counts) → a ≡ counts_of t
            → plus (if small && (young || true) then a else no_counts)
            (counts_of (if large then t else no_tally)) ≡ counts_of t
        go true true true e a same = absurd cc
        go true false true e a same = absurd cc
        go true true false e a same = plus-none a ∙ same
        go true false false e a same = plus-none a ∙ same
        go false young true e a same = none-plus (counts_of t)
        go false young false e a same = absurd cc

  -- all of them
  both-counted : (n : ℕ) → plus (counts_in rows h (Generations 2) n) (counts_of (large_tally rows h n))
      ≡ counts_of (tally_among h (listings rows h 0 n))
  both-counted zero = refl
  both-counted (suc n) =
      let next : n + 1 ≡ suc n = omega arith in
      shuffled (counts_in rows h (Generations 2) n) (if takes (Generations 2) (segment_at h n)
      then counts_between rows h n (part_of h (Generations 2) n) (last_of h n) else no_counts)
      (counts_of (large_tally rows h n)) (counts_of (if is_large h n then tally_among h (listing rows h n) else
      no_tally))
      ∙ ap₂ plus (both-counted n) (one-segment n)
      ∙ sym (ap counts_of (tally-append h (listings rows h 0 n) (listing rows h n)))
      ∙ ap (λ (is : List Item). counts_of (tally_among h is)) (sym (walked-on rows h n))
      ∙ ap (λ (m : ℕ). counts_of (tally_among h (listings rows h 0 m))) next

  pub whole-counts : IsHeap h → IsHeld rows h → plus (counts_in rows h (Generations 2) (length h.segments))
      (counts_of (large_tally rows h (length h.segments))) ≡ counts_of (tally_of rows h 2)
  whole-counts heap held = both-counted (length h.segments) ∙ ap counts_of (whole-counted rows h heap held)

-- ---- the heap with the pinned bits

count-on : {X : Type 0} (s t : X → Bool) (xs : List X) → ((x : X) → IsIn x xs → s x ≡ t x)
    → count_by s xs ≡ count_by t xs
count-on s t xs same = sym (length-filter s xs) ∙ ap length (filter-on s t xs same) ∙ length-filter t xs

module _ (rows : List TypeRow) (old new : HeapView) (table : FinMap nat_cmp Handle) (low : ℕ) (heap : IsHeap old)
    (held : IsHeld rows old) (on : Bool) (pins : HasPins rows old new table low 65536 on) (g : ℕ) where
  reached-kept : (o : Object) → is_reached_by new g o.place ≡ is_reached_by old g o.place
  reached-kept o = ap (λ (l : Layout). is_within (generation l o.place)) (frame-kept rows old new table low heap held on
      pins)
    where
      is_within : ℕ → Bool
      is_within n = nat_le n g

  -- a collection counts there what it counted before
  pub counts-pinned : counts_of (tally_of rows new g) ≡ counts_of (tally_of rows old g)
  counts-pinned =
      let marked : (o : Object) → IsIn o (objects_in rows old) → is_marked new o ≡ is_marked old o =
      marked-kept rows old new table low heap held on pins in
      let kept : (tally_of rows new g).kept ≡ (tally_of rows old g).kept =
      ap (count_by (is_kept new g)) pins.objects
      ∙ count-on (is_kept new g) (is_kept old g) (objects_in rows old)
      (λ o i. ap₂ (λ (a b : Bool). a && b) (reached-kept o) (marked o i)) in
      let freed : (tally_of rows new g).freed ≡ (tally_of rows old g).freed =
      ap (count_by (λ o. is_reached_by new g o.place && not (is_marked new o))) pins.objects
      ∙ count-on (λ o. is_reached_by new g o.place && not (is_marked new o))
      (λ o. is_reached_by old g o.place && not (is_marked old o)) (objects_in rows old)
      (λ o i. ap₂ (λ (a b : Bool). a && not b) (reached-kept o) (marked o i)) in
      λ j. record { kept = kept j; freed = freed j }
