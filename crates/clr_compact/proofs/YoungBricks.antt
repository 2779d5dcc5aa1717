-- The bricks of the ephemeral segment after a compaction of a part of it.
use Rattle.std.proofs.Common.{◌≡◌, ◌⊎◌, inl, inr, ℕ, zero, suc, ◌+◌, ◌-◌, ◌*◌, ◌/◌, ◌<◌, ◌≤◌, Bool, true, false, List}
use Rattle.std.proofs.Common.{length, refl, ap, sym, ◌∙◌, subst, arith, ℤ, if◌then◌else◌}
use Rattle.std.proofs.lemmas.Bool.{cases_Bool, cases_order}
use Rattle.clr_types.specs.Segments.{empty_segment, ended_at, ephemeral, first_place, Layout, reserved_end, same_kind}
use Rattle.clr_types.specs.Segments.{stands_in}
use Rattle.clr_types.specs.Types.{TypeRow}
use Rattle.clr_types.specs.declared.segment.SegInfo.{SegInfo}
use Rattle.clr_types.specs.declared.segment.SegKind.TheVariants.{Ephemeral}
use Rattle.clr_types.proofs.SegmentFacts.{stands-between}
use Rattle.clr_bricks.specs.Bricks.{entry_at, root_entry}
use Rattle.clr_covers.specs.Covers.{CoverView}
use Rattle.clr_heap.specs.View.{frame, HeapView, IsHeap, last_of, no_rests, SameShape, segment_at, word_of}
use Rattle.clr_heap.proofs.Staying.{segment_order}
use Rattle.clr_model.specs.Compaction.{IsCompacted, Move}
use Rattle.clr_model.specs.Machine.{Machine}
use Rattle.clr_model.specs.Sweep.{part_start, survivors}
use Rattle.clr_model.proofs.CompactedSmall.{part_start0}
use Rattle.clr_view.specs.View.{IsHeld, layout_in, objects_in}
use Rattle.clr_generations.specs.Laws.{AreEntered, IsBrickOf}
use Rattle.clr_generations.proofs.Alike.{AreAlike, entered_below}
use Rattle.clr_generations.proofs.HeapHomes.{heap_homes}
use Rattle.clr_generations.proofs.Homes.{HaveHomes, old-before}
use Rattle.clr_sweep.proofs.SurvivorsSwept.{at-in, seen}
use Rattle.clr_moves.specs.Moves.{AreMoves, part_of, takes}
use Rattle.clr_moves.specs.Objects.{AreRemembered, is_in_parts, IsUntouched}
use Rattle.clr_moves.specs.Overlaid.{IsCompactionOf}
use Rattle.clr_moves.specs.declared.planned.Planned.{Planned}
use Rattle.clr_moves.specs.declared.condemned.Condemned.TheVariants.{Generations}
use Rattle.clr_moves.proofs.FromMachine.{is_ready}
use Rattle.clr_moves.proofs.PartPlaces.{out_of_parts}
use Rattle.clr_moves.proofs.PlannedMoves.{are-moves, seen-compacted, seen-laid}
use Rattle.clr_compact.specs.Compacted.{HasCompacted, part_items}
use Rattle.clr_compact.specs.Entered.{AreEnteredBelow, forgotten}
use Rattle.clr_compact.specs.PartBricks.{both_restored, CanEnterYoung}
use Rattle.clr_compact.specs.Rewrites.{cleared, Rewrites}
use Rattle.clr_compact.specs.Slides.{HasSlid}
use Rattle.clr_compact.proofs.CompactedBricks.{alike, can-enter, fin-count, fin-on, fin-same, LeadAlike, old_alike}
use Rattle.clr_compact.proofs.EnteringParts.{entered-restored, same-below, same-low, same-roots, young-kind}
use Rattle.clr_compact.proofs.EnteringParts.{young-part, young-takes}
use Rattle.clr_compact.proofs.SlidBricks.{from-end}

-- a young part starts at or below generation 0
young-start : (layout : Layout) (g : ℕ) (s : SegInfo) → same_kind Ephemeral s.kind ≡ true → g < 2
    → layout.start1 ≤ layout.start0 → part_start layout g s ≤ layout.start0
young-start layout zero s kind young order =
    let at = ap (λ (b : Bool). if b then layout.start0 else first_place s) kind in omega arith
young-start layout (suc zero) s kind young order =
    let at = ap (λ (b : Bool). if b then layout.start1 else first_place s) kind in omega arith
young-start layout (suc (suc g)) s kind young order = absurd (omega arith)

module _ (rows : List TypeRow) (old : HeapView) (g : ℕ) (moves : List Move) (m : Machine) (kept : ℕ → Bool)
    (after : Layout) (p : IsCompactionOf rows old (Generations g) moves m kept after) (heap : IsHeap old)
    (held : IsHeld rows old) (none : old.rests ≡ no_rests) (least : g ≤ 2) (mid : HeapView)
    (slid : HasSlid old mid (Generations g) moves) (mid_heap : IsHeap mid) (clean : HeapView)
    (shape : SameShape mid clean)
    (words : Rewrites (cleared (part_items rows mid (Generations g) (length mid.segments))) (word_of mid)
    (word_of clean)) (start1 start0 : ℕ)
    (done : HasCompacted rows old (record clean { start1 = start1; start0 = start0 }) (Generations g) moves)
    (one : after.start1 ≡ start1) (two : after.start0 ≡ start0)
    (fin_heap : IsHeap (record clean { start1 = start1; start0 = start0 })) (young : g < 2) (e : ℕ)
    (inside : e < length old.segments) (eph : segment_at old e ≡ ephemeral (frame old)) where
  abbrev fin : HeapView
  fin = record clean { start1 = start1; start0 = start0 }

  am : AreMoves old (Generations g) moves
  am = are-moves rows old (Generations g) moves m kept after p least

  abbrev s : SegInfo
  s = segment_at old e

  abbrev from : ℕ
  from = part_of old (Generations g) e

  on : takes (Generations g) (segment_at old e) ≡ true
  on = young-part old g e heap inside eph

  kind : same_kind Ephemeral (segment_at old e).kind ≡ true
  kind = ap (λ (t : SegInfo). same_kind Ephemeral t.kind) eph ∙ young-kind old heap

  -- where its part started no object of generation 0 stood below, and none does now
  from-old : from ≤ old.start0
  from-old = young-start (frame old) g s kind young
      (seen-laid rows old (Generations g) moves m kept after p).layout.start1_high

  from-new : from ≤ start0
  from-new =
      let c : IsCompacted (layout_in rows old) g (survivors (seen rows old m) g kept) moves after =
      seen-compacted rows old (Generations g) moves m kept after p in
      let laid = seen-laid rows old (Generations g) moves m kept after p in
      let up = part_start0 (layout_in rows old) g (survivors (seen rows old m) g kept) moves after c
      (is_ready rows old m laid g least kept moves after c) in
      let here : from ≡ part_start (layout_in rows old) g (ephemeral (layout_in rows old)) =
      ap (part_start (frame old) g) eph in
      omega arith

  order : from ≤ last_of old e
  order = from-end rows old g moves m kept after p heap least mid slid e inside eph

  away : (place : ℕ) → stands_in s place ≡ true → place < from → is_in_parts old (Generations g) place ≡ false
  away place in_s below = elim (cases_Bool (is_in_parts old (Generations g) place)) [
    | inr out ↦ out
    | inl in_part ↦
        let (u, into, up) = out_of_parts old (Generations g) place in_part in
        let between = stands-between s place in_s in
        let low = into.low in
        let high = into.high in
        absurd (elim (cases_order e u) [
          | inl at ↦ let same = ap (part_of old (Generations g)) at in omega arith
          | inr (inl less) ↦ let order = segment_order old e u heap less into.in_range in omega arith
          | inr (inr more) ↦ let order = segment_order old u e heap more inside in omega arith
        ])
  ]

  same : (place : ℕ) → stands_in s place ≡ true → place < from → LeadAlike (frame old) (frame fin) place
  same place in_s below =
      let a = from-old in
      let b = from-new in
      old_alike (frame old) (frame fin) place (old-before (frame old) place (omega arith))
      (old-before (frame fin) place (omega arith))

  objects-alike : AreAlike rows (frame old) (frame fin) (objects_in rows old) (objects_in rows fin) s from
  objects-alike = alike rows old (Generations g) moves m kept after p heap held none least mid slid mid_heap clean shape
      words start1 start0 done one two fin_heap e from away same

  now-on : (x : ℕ) × (segment_at fin e ≡ ended_at x s)
  now-on = fin-on rows old (Generations g) moves m kept after p heap held none least mid slid mid_heap clean shape words
      start1 start0 done one two fin_heap e inside on

  in-fin : e < length fin.segments
  in-fin =
      let n = fin-count rows old (Generations g) moves m kept after p heap held none least mid slid mid_heap clean shape
      words start1 start0 done one two fin_heap in omega arith

  homes-now : HaveHomes rows (objects_in rows fin) (segment_at fin e)
  homes-now = heap_homes rows fin fin_heap done.held e in-fin

  -- what doesn't depend on its end is as it was
  now-same : {X : Type 0} (f : SegInfo → X) → ((n : ℕ) (t : SegInfo) → f (ended_at n t) ≡ f t)
      → f (segment_at fin e) ≡ f (segment_at old e)
  now-same f stays = fin-same rows old (Generations g) moves m kept after p heap held none least mid slid mid_heap clean
      shape words start1 start0 done one two fin_heap f stays e inside

  -- what is left of its bricks when the entries of its part are taken away
  left-below : (entry : ℕ → ℤ) → AreEntered rows (frame old) (objects_in rows old) entry s
      → AreEnteredBelow rows (frame fin) (objects_in rows fin) (forgotten entry from (last_of old e))
      (segment_at fin e) from
  left-below entry law =
      let (new_end, is-now) = now-on in
      let w = entered_below rows (frame old) (frame fin) (objects_in rows old) (objects_in rows fin) s new_end from
      (heap_homes rows old heap held e inside)
      (subst (HaveHomes rows (objects_in rows fin)) is-now homes-now) objects-alike entry law in
      subst (λ (t : SegInfo). AreEnteredBelow rows (frame fin) (objects_in rows fin)
      (forgotten entry from (last_of old e)) t from) (sym is-now)
      (record { named = w.named; starts = w.starts; reached = w.reached })

  -- ITS BRICKS can be entered anew
  pub can-enter-young : (bricks : List (CoverView ℤ)) (entry : ℕ → ℤ) (planned : Planned)
      → AreRemembered rows old bricks (Generations g) entry planned.below planned.first
      → CanEnterYoung rows (record mid { start1 = start1; start0 = start0 }) fin bricks e from (last_of old e) planned
  can-enter-young bricks entry planned r =
      let (a, b, z) = am.starts e inside on in
      let first = now-same first_place (λ n t. refl) in
      let room = now-same reserved_end (λ n t. refl) in
      record {
        walked = can-enter rows old (Generations g) moves m kept after p heap held none least mid slid mid_heap clean
            shape words start1 start0 done one two fin_heap e inside on from refl (omega arith);
        entered = entered-restored rows (frame fin) (objects_in rows fin) (forgotten entry from (last_of old e))
            (forgotten (both_restored (entry_at bricks) from (reserved_end (segment_at fin e))
            planned.below planned.first)
            from (last_of old e)) (segment_at fin e) from homes-now (omega arith) (omega arith)
            (λ n offset of. (roots n offset of).0) (λ n offset of. (roots n offset of).1)
            (same-low (entry_at bricks) entry from (last_of old e) (reserved_end (segment_at fin e)) planned.below
            planned.first (omega arith) order low high below_is own_is)
            (same-below (entry_at bricks) entry from (last_of old e) (reserved_end (segment_at fin e)) planned.below
            planned.first (omega arith) order low high below_is own_is)
            (left-below entry law);
      }
    where
      law : AreEntered rows (frame old) (objects_in rows old) entry s
      law = r.law s (at-in old.segments e empty_segment inside)

      below_is : planned.below ≡ entry (from / 4096 - 1)
      below_is = r.below_is e eph inside

      own_is : planned.first ≡ entry (from / 4096)
      own_is = r.first_is e eph inside

      first-up : s.base + 4096 ≤ from
      first-up = (am.starts e inside on).0

      -- bricks away from the part are as they were
      untouched : (i : ℕ) → (i + 1 < from / 4096) ⊎ (last_of old e ≤ 4096 * i) → IsUntouched old (Generations g) i
      untouched i out t l takes_t =
          let same : segment_at old t ≡ s =
          young-takes old g t heap (λ at. omega arith) l takes_t ∙ sym eph in
          let part = ap (part_start (frame old) g) same in
          let end = ap (λ (t : SegInfo). t.end) same in
          elim out [ inl under ↦ inl (omega arith) | inr over ↦ inr (omega arith) ]

      low : (i : ℕ) → i + 1 < from / 4096 → entry_at bricks i ≡ entry i
      low i l = r.others i (untouched i (inl l))

      high : (i : ℕ) → last_of old e ≤ 4096 * i → entry_at bricks i ≡ entry i
      high i l = r.others i (untouched i (inr l))

      roots : (n offset : ℕ) → IsBrickOf (segment_at fin e) n
          → (forgotten (both_restored (entry_at bricks) from (reserved_end (segment_at fin e))
          planned.below planned.first)
          from (last_of old e) n ≡ root_entry offset → forgotten entry from (last_of old e) n ≡ root_entry offset)
          × (forgotten entry from (last_of old e) n ≡ root_entry offset → forgotten
          (both_restored (entry_at bricks) from (reserved_end (segment_at fin e)) planned.below planned.first)
          from (last_of old e) n ≡ root_entry offset)
      roots n offset of =
          let up = of.1 in
          let f = first-up in
          same-roots (entry_at bricks) entry from (last_of old e) (reserved_end (segment_at fin e)) planned.below
          planned.first (omega arith) order low high below_is own_is n offset (omega arith)
