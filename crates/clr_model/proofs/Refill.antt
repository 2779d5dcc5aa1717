-- What fills a condemned part after a sweep or a compaction: the objects that stay, and new free items.
use Rattle.std.proofs.Common.{◌≡◌, ◌≢◌, ℕ, ◌+◌, ◌-◌, ◌<◌, ◌≤◌, ◌⊎◌, inl, inr, List, ◌++◌, map, sym, ap, subst, ◌∙◌}
use Rattle.std.proofs.Common.{arith, Bool, true, filter, ◌&&◌, ◌==◌}
use Rattle.std.proofs.lemmas.Bool.{cases_lt, and_from, le-leb, eq-eqb}
use Rattle.clr_types.specs.Rising.{IsIn}
use Rattle.clr_types.specs.Ranges.{Piece, Tiles, by_place}
use Rattle.clr_types.specs.declared.segment.SegInfo.{SegInfo}
use Rattle.clr_types.specs.Segments.{Layout, reserved_end, stands_in, generation, is_small_or_ephemeral}
use Rattle.clr_types.proofs.SortedLists.{into_sorted_by, out_of_sorted_by}
use Rattle.clr_types.proofs.ChangedLists.{IsIn-map, append_left, into_filter, out_of_filter, rising-distinct}
use Rattle.clr_types.proofs.ListMembers.{in_append, append_right, distinct_of_sorted, distinct_cross}
use Rattle.clr_types.proofs.Tilings.{tiles-rise}
use Rattle.clr_types.proofs.SegmentFacts.{one_home, stands-between, between-stands, lawful_segment}
use Rattle.clr_model.specs.Machine.{Machine, Object}
use Rattle.clr_model.specs.Lookups.{pieces, object_size, object_piece}
use Rattle.clr_model.specs.Lawful.{IsLaid}
use Rattle.clr_model.specs.Sweep.{Survivor, survivor, survivors, survivor_piece, survivor_pieces, is_condemned, base_at}
use Rattle.clr_model.specs.Sweep.{part_start, has_condemned_part, swept_end, swept_free}
use Rattle.clr_model.specs.Compaction.{Move, moved_by, IsCompacted, compacted_end, compacted_free}
use Rattle.clr_model.proofs.CondemnedParts.{taking-is}
use Rattle.clr_model.proofs.LawfulPieces.{HasHome, piece-home, object-in-pieces}
use Rattle.clr_model.proofs.LawfulSurvivors.{aged}
use Rattle.clr_model.proofs.SweptLawful.{IsSwept, swept-is, sweep_tiles, sweep_end}
use Rattle.clr_model.proofs.CompactedSmall.{ends_in}
use Rattle.clr_model.proofs.MovedPlaces.{ready, moved-is, survivor-covered, is_small-survivor, LandsIn, lands-in}
use Rattle.clr_model.proofs.CompactedPieces.{moved_with}
use Rattle.clr_model.proofs.CompactedPart.{refilling, refilling_tiles, refilling-is, moved_into, fresh_into}
use Rattle.clr_model.proofs.CompactedPart.{moved_apart}

-- an object's range where the object goes
abbrev pub range_after : Machine → List Move → Object → Piece
range_after m moves o = record { place = moved_by moves o.place; size = object_size m.types o }

-- Objects that stay and new free items fill the part of a segment from its start to its new end.
pub record IsRefill (m : Machine) (keeps : ℕ
    → Bool) (moves : List Move) (s : SegInfo) (start end : ℕ) (fresh : List Piece) : Type 0 where
  pub more : List Piece
  pub tiled : Tiles start end more
  pub high : end ≤ reserved_end s
  pub more_is : (x : Piece) → IsIn x more
      → ((o : Object) × IsIn o m.objects × (keeps o.name ≡ true) × (x ≡ range_after m moves o)) ⊎ IsIn x fresh
  pub fresh_more : (f : Piece) → IsIn f fresh → IsIn f more
  pub object_more : (o : Object) → IsIn o m.objects → keeps o.name ≡ true → stands_in s (moved_by moves o.place) ≡ true
      → ((moved_by moves o.place ≡ o.place) × (o.place < start))
      ⊎ (IsIn (range_after m moves o) more × (start ≤ moved_by moves o.place)
      × ((f : Piece) → IsIn f fresh → moved_by moves o.place ≢ f.place))

module _ (m : Machine) (h : IsLaid m) (g : ℕ) (least : g ≤ 2) (keeps : ℕ → Bool) (moves : List Move) where
  abbrev kept : List Survivor
  kept = survivors m g keeps

  -- ---- a sweep

  module _ (s : SegInfo) (known : IsIn s m.layout.segments) (part : has_condemned_part g s ≡ true)
      (still_there : (o : Object) → IsIn o m.objects → keeps o.name ≡ true → stands_in s (moved_by moves o.place) ≡ true
      → moved_by moves o.place ≡ o.place)
      (still_here : (o : Object) → IsIn o m.objects → keeps o.name ≡ true → stands_in s o.place ≡ true
      → moved_by moves o.place ≡ o.place)
    where
      abbrev qs : List Piece
      qs = survivor_pieces s kept

      abbrev fresh : List Piece
      fresh = swept_free m.layout g kept s

      abbrev start : ℕ
      start = part_start m.layout g s

      abbrev end : ℕ
      end = swept_end m.layout g kept s

      tiles : Tiles start end (by_place (qs ++ fresh))
      tiles = sweep_tiles m h g least keeps s known

      -- an object that stays in the part is among what fills it
      pub object_stays : (o : Object) → IsIn o m.objects → keeps o.name ≡ true → stands_in s o.place ≡ true
          → start ≤ o.place → IsIn (object_piece m.types o) qs
      object_stays o i stays stands above =
          let (low, high) = stands-between s o.place stands in
          let n : HasHome m.layout o.place = piece-home m h (object_piece m.types o) (object-in-pieces m h o i) in
          let same : n.home ≡ s = one_home m.layout h.layout n.home s o.place n.among known n.stands stands in
          let base : base_at m.layout.segments o.place ≡ s.base = n.base ∙ ap (λ (u : SegInfo). u.base) same in
          let young = aged m h g least keeps s known part o.place above low high in
          IsIn-map survivor_piece (into_filter (λ (k : Survivor). k.segment == s.base) kept
          (eq-eqb (base_at m.layout.segments o.place) s.base base)
          (into_sorted_by (λ (s : Survivor). s.place) (survivor m o)
          (map (survivor m) (filter (λ (o : Object). is_condemned m g o && keeps o.name) m.objects))
          (IsIn-map (survivor m) (into_filter (λ (o : Object). is_condemned m g o && keeps o.name) m.objects
          (and_from (is_condemned m g o) (keeps o.name) (le-leb (generation m.layout o.place) g young) stays) i))))

      pub swept_refill : IsRefill m keeps moves s (part_start m.layout g s)
          (swept_end m.layout g (survivors m g keeps) s) (swept_free m.layout g (survivors m g keeps) s)
      swept_refill = record {
        more = by_place (qs ++ fresh);
        tiled = tiles;
        high = let (a, b) = sweep_end m h g least keeps s known in
            let d : s.end ≤ reserved_end s = (lawful_segment m.layout h.layout s known).high in omega arith;
        more_is = λ x i. elim (in_append qs (out_of_sorted_by (λ (p : Piece). p.place) x (qs ++ fresh) i)) [
          | inl j
              ↦ inl (object x j (swept-is m h g least keeps s known x j))
          | inr j ↦ inr j
        ];
        fresh_more = λ f i. into_sorted_by (λ (p : Piece). p.place) f (qs ++ fresh) (append_right qs i);
        object_more = object_more;
      }
        where
          object : (x : Piece) → IsIn x qs → IsSwept m h g least keeps s known x
              → (o : Object) × IsIn o m.objects × (keeps o.name ≡ true) × (x ≡ range_after m moves o)
          object x j is =
              let stands : stands_in s x.place
              ≡ true = (out_of_filter (λ (p : Piece). stands_in s p.place) x (pieces m) is.among).0 in
              let still : moved_by moves is.object.place
              ≡ is.object.place = still_here is.object is.present is.kept_on
              (subst (λ (y : Piece). stands_in s y.place ≡ true) is.is stands) in (
                is.object,
                is.present,
                is.kept_on,
                is.is
                    ∙ ap (λ n. record { place = n; size = object_size m.types is.object }) (sym still),
              )

          object_more : (o : Object) → IsIn o m.objects → keeps o.name ≡ true
              → stands_in s (moved_by moves o.place) ≡ true
              → ((moved_by moves o.place ≡ o.place) × (o.place < start))
              ⊎ (IsIn (range_after m moves o) (by_place (qs ++ fresh)) × (start ≤ moved_by moves o.place)
              × ((f : Piece) → IsIn f fresh → moved_by moves o.place ≢ f.place))
          object_more o i stays stands = go (cases_lt o.place start)
            where
              still : moved_by moves o.place ≡ o.place
              still = still_there o i stays stands

              go : (o.place < start) ⊎ (start ≤ o.place)
                  → ((moved_by moves o.place ≡ o.place) × (o.place < start))
                  ⊎ (IsIn (range_after m moves o) (by_place (qs ++ fresh)) × (start ≤ moved_by moves o.place)
                  × ((f : Piece) → IsIn f fresh → moved_by moves o.place ≢ f.place))
              go (inl l) = inl (still, l)
              go (inr l) =
                  let q : IsIn (object_piece m.types o) qs =
                  object_stays o i stays (subst (λ n. stands_in s n ≡ true) still stands) l in
                  let e = still in
                  inr (
                    subst (λ n. IsIn (record { place = n; size = object_size m.types o }) (by_place (qs ++ fresh)))
                        (sym still) (into_sorted_by (λ (p : Piece). p.place) (object_piece m.types o) (qs ++ fresh)
                        (append_left fresh q)),
                    omega arith,
                    λ f j same. distinct_cross (λ (p : Piece). p.place) qs fresh
                        (distinct_of_sorted (λ (p : Piece). p.place) (qs ++ fresh)
                        (rising-distinct (λ (p : Piece). p.place) (by_place (qs ++ fresh))
                        (tiles-rise start end (by_place (qs ++ fresh)) tiles))) (object_piece m.types o) f q j
                        (sym still ∙ same),
                  )

  -- ---- a compaction

  module _ (new : Layout) (c : IsCompacted m.layout g (survivors m g keeps) moves new) where
    part-is : (s : SegInfo) → IsIn s c.segments
        → (is_small_or_ephemeral s.kind ≡ true) × (has_condemned_part g s ≡ true) × IsIn s m.layout.segments
    part-is s i = taking-is m.layout h.layout g least s (subst (IsIn s) c.segments_are i)

    -- where a move lands, all that it covers does
    pub lands_at : (v : Move) → IsIn v moves → (x : ℕ) → (v.start ≤ x) × (x < v.start + v.size)
        → (s : SegInfo) × IsIn s c.segments × (stands_in s v.to ≡ true) × (stands_in s (moved_by moves x) ≡ true)
        × (part_start m.layout g s ≤ moved_by moves x)
    lands_at v i x cover =
        let l : LandsIn m h g least keeps moves new c v = lands-in m h g least keeps moves new c v i in
        let at = moved_with m h g least keeps moves new c v i x cover in
        let (under, over) = cover in
        let low = l.low in let from = l.from in let high = l.high in (
          l.segment,
          l.among,
          between-stands l.segment v.to low (omega arith),
          between-stands l.segment
              (moved_by moves x) (omega arith) (omega arith),
          omega arith,
        )

    module _ (s : SegInfo) (here : IsIn s c.segments) where
      pub compacted_refill : IsRefill m keeps moves s (part_start m.layout g s)
          (compacted_end new.start0 c.plugs moves s) (compacted_free m.layout g new.start0 c.plugs moves s)
      compacted_refill = record {
        more = refilling m h g least keeps moves new c s here;
        tiled = refilling_tiles m h g least keeps moves new c s here;
        high = (ends_in m.layout g kept moves new c (ready m h g least keeps moves new c) s here).1;
        more_is = refilling-is m h g least keeps moves new c s here;
        fresh_more = fresh_into m h g least keeps moves new c s here;
        object_more = object_more;
      }
        where
          object_more : (o : Object) → IsIn o m.objects → keeps o.name ≡ true
              → stands_in s (moved_by moves o.place) ≡ true
              → ((moved_by moves o.place ≡ o.place) × (o.place < part_start m.layout g s))
              ⊎ (IsIn (range_after m moves o) (refilling m h g least keeps moves new c s here)
              × (part_start m.layout g s ≤ moved_by moves o.place)
              × ((f : Piece) → IsIn f (compacted_free m.layout g new.start0 c.plugs moves s)
              → moved_by moves o.place ≢ f.place))
          object_more o i stays stands = go (moved-is moves o.place)
            where
              unmoved : ((v : Move) → IsIn v moves → (v.start ≤ o.place) × (o.place < v.start + v.size) → ⊥)
                  → moved_by moves o.place ≡ o.place
                  → (o.place < part_start m.layout g s) ⊎ (part_start m.layout g s ≤ o.place)
                  → (moved_by moves o.place ≡ o.place) × (o.place < part_start m.layout g s)
              unmoved none still (inl l) = (still, l)
              unmoved none still (inr l) =
                  let (kind, part, known) = part-is s here in
                  let at : stands_in s o.place ≡ true = subst (λ n. stands_in s n ≡ true) still stands in
                  let (low, high) = stands-between s o.place at in
                  let n : HasHome m.layout o.place = piece-home m h (object_piece m.types o) (object-in-pieces m h o i)
                  in
                  let same : n.home ≡ s = one_home m.layout h.layout n.home s o.place n.among known n.stands at in
                  let young = aged m h g least keeps s known part o.place l low high in
                  absurd (survivor-covered m h g least keeps moves new c o
                  (is_small-survivor m h g least keeps moves new c o i stays young s known kind
                  (n.base ∙ ap (λ (u : SegInfo). u.base) same)) none)

              go : ((v : Move) × IsIn v moves × ((v.start ≤ o.place) × (o.place < v.start + v.size))
                  × (moved_by moves o.place ≡ v.to + (o.place - v.start)))
                  ⊎ (((v : Move) → IsIn v moves → (v.start ≤ o.place) × (o.place < v.start + v.size) → ⊥)
                  × (moved_by moves o.place ≡ o.place))
                  → ((moved_by moves o.place ≡ o.place) × (o.place < part_start m.layout g s))
                  ⊎ (IsIn (range_after m moves o) (refilling m h g least keeps moves new c s here)
                  × (part_start m.layout g s ≤ moved_by moves o.place)
                  × ((f : Piece) → IsIn f (compacted_free m.layout g new.start0 c.plugs moves s)
                  → moved_by moves o.place ≢ f.place))
              go (inr (none, still)) = inl (unmoved none still (cases_lt o.place (part_start m.layout g s)))
              go (inl (v, j, cover, e)) =
                  let (t, among, lands, stands_t, above) = lands_at v j o.place cover in
                  let same : t ≡ s = one_home m.layout h.layout t s (moved_by moves o.place) (part-is t among).2
                  (part-is s here).2 stands_t stands in
                  let lands_here : stands_in s v.to ≡ true = subst (λ (u : SegInfo). stands_in u v.to ≡ true) same lands
                  in
                  inr (
                    moved_into m h g least keeps moves new c s here o i v j cover lands_here,
                    subst (λ (u : SegInfo). part_start m.layout g u ≤ moved_by moves o.place) same above,
                    moved_apart m h g least keeps moves new c s here o v j cover lands_here,
                  )
