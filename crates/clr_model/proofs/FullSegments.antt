-- The segments after a full collection: the small ones are swept or compacted, the large ones swept, and those without
-- an object are gone.
use Rattle.std.proofs.Common.{◌≡◌, ℕ, ◌<◌, ◌≤◌, ◌⊎◌, inl, inr, List, [], refl, sym, ap, subst, ◌∙◌, arith, Bool, true}
use Rattle.std.proofs.Common.{false, if◌then◌else◌, ◌&&◌, ◌||◌, ◌==◌, nat_le}
use Rattle.std.proofs.lemmas.Bool.{both_ways, and_from, and_parts, and_left, or_left, or_right, cases_Bool, le-leb}
use Rattle.std.specs.List.{flat_map, list_any}
use Rattle.clr_types.specs.Rising.{IsIn}
use Rattle.clr_types.specs.Ranges.{Piece}
use Rattle.clr_types.specs.declared.segment.SegInfo.{SegInfo}
use Rattle.clr_types.specs.declared.segment.SegKind.{SegKind}
use Rattle.clr_types.specs.declared.segment.SegKind.TheVariants.{Small, Ephemeral, Large, Pinned}
use Rattle.clr_types.specs.Segments.{Layout, first_place, same_kind, is_small_or_ephemeral, stands_in, generation}
use Rattle.clr_types.specs.Segments.{segments_of, rest_pieces, is_large_or_pinned}
use Rattle.clr_types.proofs.ChangedLists.{IsIn-map, into_filter, out_of_filter}
use Rattle.clr_types.proofs.ListMembers.{from-map, any-from, any-in}
use Rattle.clr_types.proofs.SegmentFacts.{one_home, stands-between}
use Rattle.clr_model.specs.Machine.{Machine, Object}
use Rattle.clr_model.specs.Lookups.{object_piece}
use Rattle.clr_model.specs.Lawful.{IsLaid}
use Rattle.clr_model.specs.Sweep.{Survivor, survivors, part_start, has_condemned_part, taking_part, is_in_part}
use Rattle.clr_model.specs.Sweep.{swept_end, swept_free, swept_others}
use Rattle.clr_model.specs.Compaction.{Move, moved_by}
use Rattle.clr_model.specs.Collection.{IsSmallLaid, object_after, objects_after, is_retained, base_of_first, released}
use Rattle.clr_model.proofs.CondemnedParts.{takes-part}
use Rattle.clr_model.proofs.LawfulPieces.{HasHome, piece-home, object-in-pieces}
use Rattle.clr_model.proofs.LawfulSurvivors.{generation-least}
use Rattle.clr_model.proofs.SweptLawful.{start-cuts}
use Rattle.clr_model.proofs.CollectedFree.{after-is, from_part, into_parts}
use Rattle.clr_model.proofs.CollectedBounds.{swept_beside, swept_stands}
use Rattle.clr_model.proofs.CollectedLayout.{large-known, large-not_small, large-not_ephemeral, large_fresh, same-end}
use Rattle.clr_model.proofs.CollectedLayout.{same-free}
use Rattle.clr_model.proofs.Refill.{IsRefill, swept_refill}
use Rattle.clr_model.proofs.Relaid.{WasSegment, IsRefilled, refilled_with, free-in-pieces}
use Rattle.clr_model.proofs.CollectedPieces.{IsSmallPhase, small_phase, object-was, object-now, part_refilled}
use Rattle.clr_model.proofs.YoungMachine.{after-in, part-is, into-part, part_filled, fresh-stands}

-- each kind is one of the small heap, or large or pinned
pub small-or-large : (k : SegKind) → (is_small_or_ephemeral k ≡ true) ⊎ (is_large_or_pinned k ≡ true)
small-or-large Small = inl refl
small-or-large Ephemeral = inl refl
small-or-large Large = inr refl
small-or-large Pinned = inr refl

not-both : (k : SegKind) → is_small_or_ephemeral k ≡ true → is_large_or_pinned k ≡ true → ⊥
not-both k small large = both_ways (is_small_or_ephemeral k) (large-not_small k large) small

module _ (m : Machine) (h : IsLaid m) (bare : rest_pieces m.layout.rests ≡ []) (keeps alive : ℕ
    → Bool) (moves : List Move) (small : Layout) (compacting : Bool)
    (laid : IsSmallLaid compacting m.layout 2 (survivors m 2 keeps) moves small) where
  two : 2 ≤ 2
  two = omega arith

  -- the small heap's part of the collection
  pub phase : IsSmallPhase m 2 keeps moves small
  phase = small_phase m h 2 two keeps moves small compacting laid

  pub none_older : (o : Object) → IsIn o m.objects → 2 < generation m.layout o.place → keeps o.name ≡ true
  none_older o i l = let top = generation-least m.layout o.place in absurd (omega arith)

  abbrev stay : List Survivor
  stay = survivors m 2 keeps

  abbrev objects : List Object
  objects = objects_after m alive keeps moves

  abbrev swept : Layout
  swept = swept_others small 2 stay

  abbrev left : Layout
  left = released swept objects

  abbrev parts : List SegInfo
  parts = taking_part is_small_or_ephemeral 2 m.layout

  abbrev large : List SegInfo
  large = taking_part (is_large_or_pinned) 2 small

  all-take : (s : SegInfo) → has_condemned_part 2 s ≡ true
  all-take s = or_right (same_kind Ephemeral s.kind) (2 == 2) refl

  takes : (s : SegInfo) → IsIn s m.layout.segments → is_small_or_ephemeral s.kind ≡ true → IsIn s parts
  takes s i kind = takes-part m.layout h.layout 2 two s i kind (all-take s)

  -- ---- the two changes of a segment

  abbrev pub change_small : SegInfo → SegInfo
  change_small s = if is_small_or_ephemeral s.kind && has_condemned_part 2 s then record s { end = phase.end s } else s

  abbrev pub change_large : SegInfo → SegInfo
  change_large s = if is_large_or_pinned s.kind && has_condemned_part 2 s then
      record s { end = swept_end small 2 stay s } else s

  pub small-change : (s : SegInfo) → is_small_or_ephemeral s.kind ≡ true
      → change_large (change_small s) ≡ record s { end = phase.end s }
  small-change s kind =
      ap (λ b. change_large (if b then record s { end = phase.end s } else s))
      (and_from (is_small_or_ephemeral s.kind) (has_condemned_part 2 s) kind (all-take s))
      ∙ ap (λ b. if b then record s { end = swept_end small 2 stay (record s { end = phase.end s }) } else
      record s { end = phase.end s })
      (and_left (is_large_or_pinned s.kind) (has_condemned_part 2 s)
      (not-large (cases_Bool (is_large_or_pinned s.kind))))
    where
      not-large : (is_large_or_pinned s.kind ≡ true) ⊎ (is_large_or_pinned s.kind ≡ false)
          → is_large_or_pinned s.kind ≡ false
      not-large (inl e) = absurd (not-both s.kind kind e)
      not-large (inr e) = e

  unchanged : (s : SegInfo) → is_large_or_pinned s.kind ≡ true → change_small s ≡ s
  unchanged s kind = ap (λ b. if b then record s { end = phase.end s } else s)
      (and_left (is_small_or_ephemeral s.kind) (has_condemned_part 2 s) (large-not_small s.kind kind))

  large-change : (s : SegInfo) → is_large_or_pinned s.kind ≡ true
      → change_large (change_small s) ≡ record s { end = swept_end small 2 stay s }
  large-change s kind =
      ap change_large (unchanged s kind)
      ∙ ap (λ b. if b then record s { end = swept_end small 2 stay s } else s)
      (and_from (is_large_or_pinned s.kind) (has_condemned_part 2 s) kind (all-take s))

  into-small : (s : SegInfo) → IsIn s m.layout.segments → IsIn (change_small s) small.segments
  into-small s i = subst (IsIn (change_small s)) (sym phase.segments) (IsIn-map change_small i)

  pub into-swept : (s : SegInfo) → IsIn s m.layout.segments → IsIn (change_large (change_small s)) swept.segments
  into-swept s i = IsIn-map change_large (into-small s i)

  is-large : (s : SegInfo) → IsIn s m.layout.segments → is_large_or_pinned s.kind ≡ true → IsIn s large
  is-large s i kind = into_filter (λ (s : SegInfo). is_large_or_pinned s.kind && has_condemned_part 2 s) small.segments
      (and_from (is_large_or_pinned s.kind) (has_condemned_part 2 s) kind (all-take s))
      (subst (λ (u : SegInfo). IsIn u small.segments) (unchanged s kind) (into-small s i))

  out-of-large : (s : SegInfo) → IsIn s large → (is_large_or_pinned s.kind ≡ true) × IsIn s m.layout.segments
  out-of-large s i =
      let (e, j) =
      out_of_filter (λ (s : SegInfo). is_large_or_pinned s.kind && has_condemned_part 2 s) s small.segments i in
      let (kind, part) = and_parts (is_large_or_pinned s.kind) (has_condemned_part 2 s) e in
      (kind, large-known m h 2 two keeps moves small compacting laid s j kind)

  -- ---- free items

  in-large-part : (f : Piece) → is_in_part (is_large_or_pinned) small 2 f ≡ true → (s : SegInfo)
      → IsIn s m.layout.segments
      → stands_in s f.place ≡ true → is_large_or_pinned s.kind ≡ true
  in-large-part f e s known stands =
      let (t, i, a) = any-in (λ (s : SegInfo). is_large_or_pinned s.kind &&
      (has_condemned_part 2 s && (stands_in s f.place && nat_le (part_start small 2 s) f.place))) small.segments e
      in
      let (kind, b) = and_parts (is_large_or_pinned t.kind)
      (has_condemned_part 2 t && (stands_in t f.place && nat_le (part_start small 2 t) f.place)) a in
      let (part, d) = and_parts (has_condemned_part 2 t)
      (stands_in t f.place && nat_le (part_start small 2 t) f.place) b in
      let (stands_t, above) = and_parts (stands_in t f.place) (nat_le (part_start small 2 t) f.place) d in
      let same : t ≡ s = one_home m.layout h.layout t s f.place
      (large-known m h 2 two keeps moves small compacting laid t i kind) known stands_t stands in
      subst (λ (u : SegInfo). is_large_or_pinned u.kind ≡ true) same kind

  start-at : (layout : Layout) (s : SegInfo) → is_large_or_pinned s.kind ≡ true → part_start layout 2 s ≡ first_place s
  start-at layout s kind = ap (λ b. if b then first_place s else first_place s) (large-not_ephemeral s.kind kind)

  into-large-part : (f : Piece) (s : SegInfo) → IsIn s m.layout.segments → stands_in s f.place ≡ true
      → is_large_or_pinned s.kind ≡ true → is_in_part (is_large_or_pinned) small 2 f ≡ true
  into-large-part f s known stands kind =
      let (low, high) = stands-between s f.place stands in
      let from = start-at small s kind in
      let (e, j) = out_of_filter (λ (s : SegInfo). is_large_or_pinned s.kind && has_condemned_part 2 s) s small.segments
      (is-large s known kind) in
      any-from (λ (s : SegInfo). is_large_or_pinned s.kind &&
      (has_condemned_part 2 s && (stands_in s f.place && nat_le (part_start small 2 s) f.place))) small.segments s j
      (and_from (is_large_or_pinned s.kind)
      (has_condemned_part 2 s && (stands_in s f.place && nat_le (part_start small 2 s) f.place)) kind
      (and_from (has_condemned_part 2 s) (stands_in s f.place && nat_le (part_start small 2 s) f.place) (all-take s)
      (and_from (stands_in s f.place) (nat_le (part_start small 2 s) f.place) stands
      (le-leb (part_start small 2 s) f.place (omega arith)))))

  -- in a segment of the small heap the free items are those that its sweep or compaction left
  pub small_free : (s : SegInfo) → IsIn s m.layout.segments → is_small_or_ephemeral s.kind ≡ true → (f : Piece)
      → stands_in s f.place ≡ true → IsIn f swept.free → IsIn f small.free
  small_free s known kind f stands i =
      elim (after-is (is_large_or_pinned) small 2 (flat_map (swept_free small 2 stay) large) f i) [
        | inl (away, j) ↦ j
        | inr j ↦
            let (t, large_kind, t_known, stands_t) = large_fresh m h keeps moves small compacting laid f j in
            absurd (not-both s.kind kind (subst (λ (u : SegInfo). is_large_or_pinned u.kind ≡ true)
            (one_home m.layout h.layout t s f.place t_known known stands_t stands) large_kind))
      ]

  free-stays : (s : SegInfo) → IsIn s m.layout.segments → is_small_or_ephemeral s.kind ≡ true → (f : Piece)
      → stands_in s f.place ≡ true → IsIn f small.free → IsIn f swept.free
  free-stays s known kind f stands i =
      after-in (is_large_or_pinned) small 2 (flat_map (swept_free small 2 stay) large) f
      (inl (away (cases_Bool (is_in_part (is_large_or_pinned) small 2 f)), i))
    where
      away : (is_in_part (is_large_or_pinned) small 2 f ≡ true) ⊎ (is_in_part (is_large_or_pinned) small 2 f ≡ false)
          → is_in_part (is_large_or_pinned) small 2 f ≡ false
      away (inl e) = absurd (not-both s.kind kind (in-large-part f e s known stands))
      away (inr e) = e

  -- in a large segment they are those that its sweep left
  large_free : (s : SegInfo) → IsIn s m.layout.segments → is_large_or_pinned s.kind ≡ true → (f : Piece)
      → stands_in s f.place ≡ true → IsIn f swept.free → IsIn f (swept_free m.layout 2 stay s)
  large_free s known kind f stands i =
      elim (after-is (is_large_or_pinned) small 2 (flat_map (swept_free small 2 stay) large) f i) [
        | inl (away, j) ↦ absurd (both_ways (is_in_part (is_large_or_pinned) small 2 f) away
            (into-large-part f s known stands kind))
        | inr j ↦ from-one (from_part (swept_free small 2 stay) large f j)
      ]
    where
      from-one : (t : SegInfo) × IsIn t large × IsIn f (swept_free small 2 stay t)
          → IsIn f (swept_free m.layout 2 stay s)
      from-one (t, k, n) =
          let known_t = (out-of-large t k).1 in
          let old : IsIn f (swept_free m.layout 2 stay t) =
          subst (IsIn f) (sym (same-free m h keeps moves small compacting laid t k)) n in
          subst (λ (u : SegInfo). IsIn f (swept_free m.layout 2 stay u))
          (one_home m.layout h.layout t s f.place known_t known
          (swept_stands m h 2 two keeps t known_t f old) stands) old

  -- ---- each segment is filled

  small-filled : (s : SegInfo) → IsIn s m.layout.segments → is_small_or_ephemeral s.kind ≡ true
      → IsRefilled m s (phase.end s) objects swept.free
  small-filled s known kind =
      refilled_with m s (phase.end s) objects small.free swept.free
      (part_filled m h bare 2 two keeps alive moves small phase none_older s (takes s known kind))
      (λ f stands i. free-stays s known kind f stands i) (λ f stands i. small_free s known kind f stands i)

  -- an object of a large segment doesn't move, and none moves into it
  stays-large : (s : SegInfo) → IsIn s m.layout.segments → is_large_or_pinned s.kind ≡ true → (o : Object)
      → IsIn o m.objects → (stands_in s o.place ≡ true) ⊎ (stands_in s (moved_by moves o.place) ≡ true)
      → moved_by moves o.place ≡ o.place
  stays-large s known kind o i at =
      elim (phase.lands o i) [ inl still ↦ still | inr (age, came, goes) ↦ absurd (by at came goes) ]
    where
      other : (x : ℕ) → stands_in s x ≡ true → (t : SegInfo) × IsIn t parts × (stands_in t x ≡ true) → ⊥
      other x stands (t, k, stands_t) =
          let (small_kind, part, t_known) = part-is m h bare 2 two keeps alive moves small phase none_older t k in
          not-both s.kind (subst (λ (u : SegInfo). is_small_or_ephemeral u.kind ≡ true)
          (one_home m.layout h.layout t s x t_known known stands_t stands) small_kind) kind

      by : (stands_in s o.place ≡ true) ⊎ (stands_in s (moved_by moves o.place) ≡ true)
          → (t : SegInfo) × IsIn t parts × (stands_in t o.place ≡ true)
          → (t : SegInfo) × IsIn t parts × (stands_in t (moved_by moves o.place) ≡ true) → ⊥
      by (inl stands) came goes = other o.place stands came
      by (inr stands) came goes = other (moved_by moves o.place) stands goes

  large-filled : (s : SegInfo) → IsIn s m.layout.segments → is_large_or_pinned s.kind ≡ true
      → IsRefilled m s (swept_end small 2 stay s) objects swept.free
  large-filled s known kind =
      let cuts = start-cuts m h 2 two keeps s known in
      let from = start-at m.layout s kind in
      let among : IsIn s large = is-large s known kind in
      let refill : IsRefill m keeps moves s (part_start m.layout 2 s) (swept_end m.layout 2 stay s)
      (swept_free m.layout 2 stay s) =
      swept_refill m h 2 two keeps moves s known (all-take s)
      (λ o i stays stands. stays-large s known kind o i (inr stands))
      (λ o i stays stands. stays-large s known kind o i (inl stands))
      in
      subst (λ n. IsRefilled m s n objects swept.free) (same-end m h keeps moves small compacting laid s among)
      (part_refilled m h bare keeps alive moves swept.free s (part_start m.layout 2 s) (swept_end m.layout 2 stay s)
      (swept_free m.layout 2 stay s) refill cuts.low_end cuts.high_end cuts.whole
      (λ o i stands l. let (low, high) = stands-between s o.place stands in absurd (omega arith))
      (λ f i stands l. let (low, high) = stands-between s f.place stands in absurd (omega arith))
      (λ f i. after-in (is_large_or_pinned) small 2 (flat_map (swept_free small 2 stay) large) f
      (inr (into_parts (swept_free small 2 stay) s f large among
      (subst (IsIn f) (same-free m h keeps moves small compacting laid s among) i))))
      (λ f i stands. inr (large_free s known kind f stands i)))

  abbrev WasFilled : SegInfo → Type 0
  WasFilled t = WasSegment m t objects swept.free

  filled : (s : SegInfo) → IsIn s m.layout.segments → WasFilled (change_large (change_small s))
  filled s known = go (small-or-large s.kind)
    where
      at : (end : ℕ) → IsRefilled m s end objects swept.free → WasFilled (record s { end = end })
      at end r = record { old = s; among = known; base = refl; reserved = refl; kind = refl; refilled = r }

      go : (is_small_or_ephemeral s.kind ≡ true) ⊎ (is_large_or_pinned s.kind ≡ true)
          → WasFilled (change_large (change_small s))
      go (inl kind) = subst WasFilled (sym (small-change s kind)) (at (phase.end s) (small-filled s known kind))
      go (inr kind) = subst WasFilled (sym (large-change s kind))
          (at (swept_end small 2 stay s) (large-filled s known kind))

  -- Each segment is filled anew,
  pub swept_was : (t : SegInfo) → IsIn t swept.segments → WasSegment m t objects swept.free
  swept_was t j =
      let (u, is, k) = from-map change_large t small.segments j in
      let (s, was, n) = from-map change_small u m.layout.segments (subst (IsIn u) phase.segments k) in
      subst WasFilled (sym (is ∙ ap change_large was)) (filled s n)

  -- and so is each that is left.
  pub full_was : (t : SegInfo) → IsIn t left.segments → WasSegment m t objects left.free
  full_was t i = swept_was t (out_of_filter (is_retained swept objects) t swept.segments i).1

  -- ---- what is released is empty

  same-stands : (s : SegInfo) (x : ℕ) → stands_in (change_large (change_small s)) x ≡ stands_in s x
  same-stands s x = go (small-or-large s.kind)
    where
      go : (is_small_or_ephemeral s.kind ≡ true) ⊎ (is_large_or_pinned s.kind ≡ true)
          → stands_in (change_large (change_small s)) x ≡ stands_in s x
      go (inl kind) = ap (λ (u : SegInfo). stands_in u x) (small-change s kind)
      go (inr kind) = ap (λ (u : SegInfo). stands_in u x) (large-change s kind)

  -- a segment in which an object stands afterwards is left
  kept-segment : (s : SegInfo) → IsIn s m.layout.segments → (o : Object) → IsIn o objects → stands_in s o.place ≡ true
      → (x : ℕ) → stands_in s x ≡ true → (t : SegInfo) × IsIn t left.segments × (stands_in t x ≡ true)
  kept-segment s known o i stands x at =
      let t : SegInfo = change_large (change_small s) in
      let stays : is_retained swept objects t ≡ true =
      or_left (list_any (λ o. stands_in t o.place) objects)
      (same_kind Ephemeral t.kind || (t.base == base_of_first (segments_of Large swept)))
      (any-from (λ (o : Object). stands_in t o.place) objects o i (same-stands s o.place ∙ stands))
      in
      (t, into_filter (is_retained swept objects) swept.segments stays (into-swept s known), same-stands s x ∙ at)

  -- where an object goes
  landed : (o : Object) → IsIn o m.objects
      → (s : SegInfo) × IsIn s m.layout.segments × (stands_in s (moved_by moves o.place) ≡ true)
  landed o i =
      elim (phase.lands o i) [
        | inl still ↦ let n : HasHome m.layout o.place =
            piece-home m h (object_piece m.types o) (object-in-pieces m h o i) in
            (n.home, n.among, subst (λ x. stands_in n.home x ≡ true) (sym still) n.stands)
        | inr (age, came, goes) ↦ let (s, k, stands) = goes in
            (s, (part-is m h bare 2 two keeps alive moves small phase none_older s k).2, stands)
      ]

  pub full_object_home : (o : Object) → IsIn o objects
      → (t : SegInfo) × IsIn t left.segments × (stands_in t o.place ≡ true)
  full_object_home o i =
      let (q, j, stays, e) = object-was m h bare keeps alive moves small.free o i in
      let (s, known, stands) = landed q j in
      let at : stands_in s o.place ≡ true = subst (λ (w : Object). stands_in s w.place ≡ true) (sym e) stands in
      kept-segment s known o i at o.place at

  -- a segment of before in which a free item stands, and an object
  abbrev IsBeside : Piece → Type 0
  IsBeside f = (s : SegInfo) × IsIn s m.layout.segments × (stands_in s f.place ≡ true)
      × (o : Object) × IsIn o objects × (stands_in s o.place ≡ true)

  -- a free item shares its segment with an object
  beside : (f : Piece) → IsIn f swept.free → IsBeside f
  beside f i = elim (after-is (is_large_or_pinned) small 2 (flat_map (swept_free small 2 stay) large) f i) [
    | inl
        (away, j) ↦ from-small away j
    | inr j ↦ from-large (from_part (swept_free small 2 stay) large f j)
  ]
    where
      start-two : (s : SegInfo) → part_start m.layout 2 s ≡ first_place s
      start-two s = go (same_kind Ephemeral s.kind)
        where
          go : (b : Bool) → (if b then first_place s else first_place s) ≡ first_place s
          go true = refl
          go false = refl

      -- no free item of before is left
      none_old : is_in_part (is_large_or_pinned) small 2 f ≡ false
          → is_in_part is_small_or_ephemeral m.layout 2 f ≡ false
          → IsIn f m.layout.free → ⊥
      none_old away off k = by (piece-home m h f (free-in-pieces m f k))
        where
          by : HasHome m.layout f.place → ⊥
          by n =
              elim (small-or-large n.home.kind) [
                | inl kind ↦
                    let low : first_place n.home ≤ f.place = n.low in
                    let from = start-two n.home in
                    both_ways (is_in_part is_small_or_ephemeral m.layout 2 f) off
                    (into-part m h bare 2 two keeps alive moves small phase none_older f n.home
                    (takes n.home n.among kind) n.stands (omega arith))
                | inr kind ↦ both_ways (is_in_part (is_large_or_pinned) small 2 f) away
                    (into-large-part f n.home n.among n.stands kind)
              ]

      new : (s : SegInfo) × IsIn s parts × IsIn f (phase.fresh s)
          → IsBeside f
      new (s, k, n) =
          let (o, present, stays, stands) = phase.bounds.beside s k f n in (
            s,
            (part-is m h bare 2 two keeps alive moves small phase none_older s k).2,
            (fresh-stands m h bare 2 two keeps alive moves small phase none_older s k f n).0,
            object_after m alive moves o,
            object-now m h bare keeps alive moves small.free o present stays,
            stands,
          )

      from-small : is_in_part (is_large_or_pinned) small 2 f ≡ false → IsIn f small.free
          → IsBeside f
      from-small away j =
          elim (after-is is_small_or_ephemeral m.layout 2 (flat_map phase.fresh parts) f
          (subst (IsIn f) phase.free j)) [
            | inl (off, k) ↦ absurd (none_old away off k)
            | inr k ↦ new (from_part phase.fresh parts f k)
          ]

      from-large : (s : SegInfo) × IsIn s large × IsIn f (swept_free small 2 stay s)
          → IsBeside f
      from-large (s, k, n) =
          let (kind, known) = out-of-large s k in
          let old : IsIn f (swept_free m.layout 2 stay s) =
          subst (IsIn f) (sym (same-free m h keeps moves small compacting laid s k)) n in
          let (o, present, stays, stands) = swept_beside m h 2 two keeps s known f old in (
            s,
            known,
            swept_stands m h 2 two keeps s known f old,
            object_after m alive moves o,
            object-now m h bare keeps alive moves small.free o present stays,
            subst (λ x. stands_in s x ≡ true) (sym (stays-large s known kind o present (inl stands))) stands,
          )

  -- so the segment is left
  pub full_free_home : (f : Piece) → IsIn f left.free
      → (t : SegInfo) × IsIn t left.segments × (stands_in t f.place ≡ true)
  full_free_home f i =
      let (s, known, stands, o, j, at) = beside f i in
      kept-segment s known o j at f.place stands

  -- the same of segments as the sweep leaves them
  pub full_beside : (f : Piece) → IsIn f swept.free
      → (t : SegInfo) × IsIn t swept.segments × (stands_in t f.place ≡ true) × (o : Object) × IsIn o objects
      × (stands_in t o.place ≡ true)
  full_beside f i =
      let (s, known, stands, o, j, at) = beside f i in (
        change_large (change_small s),
        into-swept s known,
        same-stands s f.place ∙ stands,
        o,
        j,
        same-stands s o.place ∙ at,
      )
