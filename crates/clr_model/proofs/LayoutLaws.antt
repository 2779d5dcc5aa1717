-- A compaction and a sweep of a lawful machine leave a lawful layout.
use Rattle.std.proofs.Common.{◌-◌, ◌<◌, ◌≡◌, ℕ, ◌+◌, ◌%◌, ◌≤◌, ◌⊎◌, inl, inr, List, ◌++◌, refl, sym, ap, subst, ◌∙◌}
use Rattle.std.proofs.Common.{arith, Bool, true, false, if◌then◌else◌, ◌&&◌, ◌==◌, min}
use Rattle.std.specs.List.{flat_map}
use Rattle.clr_types.specs.Rising.{IsIn}
use Rattle.clr_types.specs.Ranges.{by_place}
use Rattle.clr_model.specs.Machine.{Machine, Object}
use Rattle.clr_model.specs.Lookups.{is_pinned}
use Rattle.clr_model.specs.Sweep.{Survivor, survivors, survivor_pieces, part_start, taking_part, has_condemned_part}
use Rattle.clr_model.specs.Sweep.{swept_end, swept_free, swept_small, free_after, survivor}
use Rattle.clr_model.specs.Compaction.{Move, Plug, IsCompacted, compacted_end, compacted_free, moved_pieces}
use Rattle.clr_model.specs.Compaction.{survivors_in, moved_by}
use Rattle.clr_types.specs.declared.segment.SegInfo.{SegInfo}
use Rattle.clr_types.specs.Segments.{Layout, first_place, reserved_end, pieces_in, ephemeral, is_small_or_ephemeral}
use Rattle.clr_types.specs.Segments.{generation}
use Rattle.clr_types.specs.LawfulLayout.{IsLawfulLayout}
use Rattle.clr_model.proofs.CondemnedParts.{ephemeral-takes, taking-is, start-facts}
use Rattle.clr_types.proofs.SegmentFacts.{ephemeral-in, ephemeral-kind, lawful_segment}
use Rattle.clr_model.specs.Lawful.{IsLaid}
use Rattle.clr_model.proofs.LawfulSurvivors.{compaction_condemned}
use Rattle.clr_types.proofs.ChangedLists.{out_of_filter}
use Rattle.clr_model.proofs.CondemnedPlugs.{AreCondemned}
use Rattle.clr_model.proofs.CompactedSmall.{boundaries_rise, compaction_tiles, ends_in, raised, raised-in}
use Rattle.clr_model.proofs.CompactedSmall.{raised-source1, start0_in, start0_source, start1-is}
use Rattle.clr_model.proofs.CompactedAges.{generation_by, promoted}
use Rattle.clr_model.proofs.MovedPlaces.{moved-is, survivor-covered, IsCovered, covered}
use Rattle.clr_model.proofs.SweptLawful.{sweep_tiles, sweep_end}
use Rattle.clr_model.proofs.AfterLayout.{layout_after, generation_after}
use Rattle.clr_types.proofs.TilePieces.{tiles-aligned}

module _ (m : Machine) (h : IsLaid m) (g : ℕ) (least : g ≤ 2) (keeps : ℕ → Bool) where
  abbrev kept : List Survivor
  kept = survivors m g keeps

  abbrev parts : List SegInfo
  parts = taking_part is_small_or_ephemeral g m.layout

  pub part_low : (s : SegInfo) → IsIn s parts
      → (first_place s ≤ part_start m.layout g s) × (part_start m.layout g s % 8 ≡ 0)
  part_low s i = ((start-facts m.layout h.layout g least s i).low, (start-facts m.layout h.layout g least s i).aligned)

  ephemeral_part : (is_small_or_ephemeral (ephemeral m.layout).kind && has_condemned_part g (ephemeral m.layout)) ≡ true
  ephemeral_part = (out_of_filter (λ (s : SegInfo). is_small_or_ephemeral s.kind && has_condemned_part g s)
      (ephemeral m.layout) m.layout.segments (ephemeral-takes m.layout h.layout g least)).0

  -- A compaction leaves a lawful layout.
  pub compaction_lawful : (moves : List Move) (new : Layout) → IsCompacted m.layout g (survivors m g keeps) moves new
      → IsLawfulLayout new
  compaction_lawful moves new c =
      layout_after m.layout h.layout is_small_or_ephemeral g (compacted_end new.start0 c.plugs moves)
      (λ s. pieces_in s (moved_pieces moves)) (compacted_free m.layout g new.start0 c.plugs moves)
      (λ s i. compaction_tiles m.layout g (survivors m g keeps) moves new c (ready c) s
      (subst (IsIn s) (sym c.segments_are) i))
      (λ s i. (ends_in m.layout g (survivors m g keeps) moves new c (ready c) s
      (subst (IsIn s) (sym c.segments_are) i)).1)
      part_low
      new c.ends
      (c.free ∙ ap (λ ss. free_after is_small_or_ephemeral m.layout g
      (flat_map (compacted_free m.layout g new.start0 c.plugs moves) ss)) c.segments_are)
      c.rests c.top
      (low1 c (start1-is m.layout g (survivors m g keeps) moves new c (ready c)))
      (boundaries_rise m.layout g (survivors m g keeps) moves new c (ready c))
      (subst (λ b. new.start0 ≤ (if b then
      record (ephemeral m.layout) { end = compacted_end new.start0 c.plugs moves (ephemeral m.layout) } else
      ephemeral m.layout).end) (sym ephemeral_part)
      (start0_in m.layout g (survivors m g keeps) moves new c (ready c))) (
        al1 c (start1-is m.layout g (survivors m g keeps) moves new c (ready c)),
        (start0_source m.layout g (survivors m g keeps) moves new c (ready c)).0,
      )
    where
      ready : (c : IsCompacted m.layout g (survivors m g keeps) moves new) → AreCondemned m.layout g c.segments c.plugs
      ready c = compaction_condemned m h g least keeps moves new c

      low1 : (c : IsCompacted m.layout g (survivors m g keeps) moves new)
          → ((g == 0) ≡ true) × (new.start1 ≡ m.layout.start1)
          ⊎ (((g == 0) ≡ false) × (new.start1 ≡ raised m.layout g (survivors m g keeps) moves new c (ready c)))
          → first_place (ephemeral m.layout) ≤ new.start1
      low1 c (inl (e, f)) = let l = h.layout.start1_low in omega arith
      low1 c (inr (e, f)) = subst (λ n. first_place (ephemeral m.layout) ≤ n) (sym f)
          (raised-in m.layout g (survivors m g keeps) moves new c (ready c))

      al1 : (c : IsCompacted m.layout g (survivors m g keeps) moves new)
          → ((g == 0) ≡ true) × (new.start1 ≡ m.layout.start1)
          ⊎ (((g == 0) ≡ false) × (new.start1 ≡ raised m.layout g (survivors m g keeps) moves new c (ready c)))
          → new.start1 % 8 ≡ 0
      al1 c (inl (e, f)) = subst (λ n. n % 8 ≡ 0) (sym f) h.layout.aligned.0
      al1 c (inr (e, f)) = subst (λ n. n % 8 ≡ 0) (sym f)
          (raised-source1 m.layout g (survivors m g keeps) moves new c (ready c)).0

  known : (s : SegInfo) → IsIn s parts → IsIn s m.layout.segments
  known s i = (taking-is m.layout h.layout g least s i).2

  abbrev end : ℕ
  end = swept_end m.layout g kept (ephemeral m.layout)

  end-between : (part_start m.layout g (ephemeral m.layout) ≤ end) × (end ≤ (ephemeral m.layout).end)
  end-between = sweep_end m h g least keeps (ephemeral m.layout) (ephemeral-in m.layout h.layout)

  end-aligned : end % 8 ≡ 0
  end-aligned =
      let a : end % 8 ≡ part_start m.layout g (ephemeral m.layout) % 8 =
      tiles-aligned (part_start m.layout g (ephemeral m.layout)) end
      (by_place (survivor_pieces (ephemeral m.layout) kept ++ swept_free m.layout g kept (ephemeral m.layout)))
      (sweep_tiles m h g least keeps (ephemeral m.layout) (ephemeral-in m.layout h.layout))
      in
      let (b, d) = part_low (ephemeral m.layout) (ephemeral-takes m.layout h.layout g least) in
      omega arith

  -- A sweep leaves a lawful layout.
  pub sweep_lawful : IsLawfulLayout (swept_small m.layout g kept)
  sweep_lawful =
      layout_after m.layout h.layout is_small_or_ephemeral g (swept_end m.layout g kept) (λ s. survivor_pieces s kept)
      (swept_free m.layout g kept)
      (λ s i. sweep_tiles m h g least keeps s (known s i))
      (λ s i. let (a, b) = sweep_end m h g least keeps s (known s i) in
      let d : s.end ≤ reserved_end s = (lawful_segment m.layout h.layout s (known s i)).high in omega arith)
      part_low
      (swept_small m.layout g kept) refl refl refl refl
      (bound (g == 0) refl).0 (bound (g == 0) refl).1
      (subst (λ b. end ≤ (if b then record (ephemeral m.layout) { end = end } else ephemeral m.layout).end)
      (sym ephemeral_part) (omega arith))
      (aligned1 (g == 0), end-aligned)
    where
      bound : (b : Bool) → (g == 0) ≡ b
          → (first_place (ephemeral m.layout) ≤ (if b then m.layout.start1 else min m.layout.start0 end))
          × ((if b then m.layout.start1 else min m.layout.start0 end) ≤ end)
      bound true e =
          let (a, d) = end-between in
          let z = h.layout.start1_high in
          let at : part_start m.layout g (ephemeral m.layout) ≡ m.layout.start0 = start0_is e in
          (h.layout.start1_low, omega arith)
        where
          start0_is : (g == 0) ≡ true → part_start m.layout g (ephemeral m.layout) ≡ m.layout.start0
          start0_is e = ap (λ b. if b then
              (if g == 0 then m.layout.start0 else
              (if g == 1 then m.layout.start1 else first_place (ephemeral m.layout))) else
              first_place (ephemeral m.layout)) (ephemeral-kind m.layout h.layout)
              ∙ ap (λ b. if b then m.layout.start0 else
              (if g == 1 then m.layout.start1 else first_place (ephemeral m.layout))) e
      bound false e =
          let (a, d) = end-between in
          let (l, k) = part_low (ephemeral m.layout) (ephemeral-takes m.layout h.layout g least) in
          let x = h.layout.start1_low in let y = h.layout.start1_high in
          (omega arith, omega arith)

      lesser : (a b : ℕ) → a % 8 ≡ 0 → b % 8 ≡ 0 → min a b % 8 ≡ 0
      lesser a b x y = omega arith

      aligned1 : (b : Bool) → (if b then m.layout.start1 else min m.layout.start0 end) % 8 ≡ 0
      aligned1 true = h.layout.aligned.0
      aligned1 false = lesser m.layout.start0 end h.layout.aligned.1 end-aligned

  -- ---- promotion

  -- A place's generation after a compaction, by the new boundaries.
  pub compaction_generation : (moves : List Move) (new : Layout)
      (c : IsCompacted m.layout g (survivors m g keeps) moves new) → (x : ℕ)
      → generation new x ≡ generation_by m.layout g (survivors m g keeps) moves new c
      (compaction_condemned m h g least keeps moves new c) new.start1 new.start0 x
  compaction_generation moves new c x =
      let ready : AreCondemned m.layout g c.segments c.plugs = compaction_condemned m h g least keeps moves new c in
      generation_after m.layout h.layout is_small_or_ephemeral g (compacted_end new.start0 c.plugs moves)
      (λ s. pieces_in s (moved_pieces moves)) (compacted_free m.layout g new.start0 c.plugs moves)
      (λ s k. compaction_tiles m.layout g (survivors m g keeps) moves new c ready s
      (subst (IsIn s) (sym c.segments_are) k))
      (λ s k. (ends_in m.layout g (survivors m g keeps) moves new c ready s (subst (IsIn s) (sym c.segments_are) k)).1)
      part_low new c.ends x

  -- A plug that isn't pinned gets the next older generation, a pinned one that or a younger one.
  pub compaction_promotes : (moves : List Move) (new : Layout)
      (c : IsCompacted m.layout g (survivors m g keeps) moves new) → (v : Move) → IsIn v moves → (p : Plug)
      → IsIn p c.plugs → v.start ≡ p.start → (x : ℕ) → v.to ≤ x → x < v.to + v.size
      → (generation new x ≤ min 2 (p.generation + 1)) × (p.pinned ≡ false → generation new x ≡ min 2 (p.generation + 1))
  compaction_promotes moves new c v i p j e x from under =
      let at = compaction_generation moves new c x in
      let (a, b) = promoted m.layout g (survivors m g keeps) moves new c
      (compaction_condemned m h g least keeps moves new c) v i p j e x from under in
      (subst (λ n. n ≤ min 2 (p.generation + 1)) (sym at) a, λ u. at ∙ b u)

  -- An object that stays gets the next older generation, and a pinned one that or a younger one.
  pub object_promotes : (moves : List Move) (new : Layout) (c : IsCompacted m.layout g (survivors m g keeps) moves new)
      → (o : Object) → IsIn o m.objects → keeps o.name ≡ true
      → IsIn (survivor m o) (survivors_in is_small_or_ephemeral m.layout (survivors m g keeps))
      → (generation new (moved_by moves o.place) ≤ min 2 (generation m.layout o.place + 1))
      × (is_pinned m o.name ≡ false → generation new (moved_by moves o.place)
      ≡ min 2 (generation m.layout o.place + 1))
  object_promotes moves new c o i k s = go (moved-is moves o.place)
    where
      go : ((v : Move) × IsIn v moves × ((v.start ≤ o.place) × (o.place < v.start + v.size))
          × (moved_by moves o.place ≡ v.to + (o.place - v.start)))
          ⊎ (((v : Move) → IsIn v moves → (v.start ≤ o.place) × (o.place < v.start + v.size) → ⊥)
          × (moved_by moves o.place ≡ o.place))
          → (generation new (moved_by moves o.place) ≤ min 2 (generation m.layout o.place + 1))
          × (is_pinned m o.name ≡ false → generation new (moved_by moves o.place)
          ≡ min 2 (generation m.layout o.place + 1))
      go (inr (none, f)) = absurd (survivor-covered m h g least keeps moves new c o s none)
      go (inl (v, j, p, f)) =
          let (p0, p1) = p in
          let is : IsCovered m h g least keeps moves new c o v = covered m h g least keeps moves new c o i v j p in
          let z : v.size ≡ is.plug.size = is.landed.size in
          let (a, b) = compaction_promotes moves new c v j is.plug is.known is.landed.start (moved_by moves o.place)
          (omega arith) (omega arith) in (
            subst (λ n. generation new (moved_by moves o.place) ≤ min 2 (n + 1)) (sym is.age) a,
            λ u. b
                (sym is.pinned ∙ u) ∙ ap (λ n. min 2 (n + 1)) (sym is.age),
          )
