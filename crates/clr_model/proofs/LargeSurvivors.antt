-- What stays in the large heap of a lawful machine, and its plugs: what the laws on a slide need of them.
use Rattle.std.proofs.Common.{◌≡◌, ℕ, ◌+◌, ◌%◌, ◌<◌, ◌≤◌, ◌⊎◌, inl, inr, List, [], ◌∷◌, map, refl, sym, ap, subst, ◌∙◌}
use Rattle.std.proofs.Common.{arith}
use Rattle.std.proofs.Common.{Bool, true, false, ◌&&◌, ◌==◌, if◌then◌else◌, filter, nat_lt}
use Rattle.std.proofs.lemmas.Bool.{and_parts, and_from, le-leb, eqb-true, eq-eqb, or_right}
use Rattle.std.specs.List.{list_any}
use Rattle.clr_types.specs.Rising.{IsIn, first, later, IsRisingBy}
use Rattle.clr_types.specs.Ranges.{piece_end, IsLawfulSize}
use Rattle.clr_types.specs.declared.segment.SegKind.{SegKind}
use Rattle.clr_types.specs.declared.segment.SegKind.TheVariants.{Small, Ephemeral, Large, Pinned}
use Rattle.clr_types.specs.declared.segment.SegInfo.{SegInfo}
use Rattle.clr_types.specs.Segments.{first_place, reserved_end, stands_in, generation, ephemeral, same_kind}
use Rattle.clr_types.specs.Segments.{segment_or_empty}
use Rattle.clr_types.specs.LawfulLayout.{AreDisjoint, IsLawfulSegment}
use Rattle.clr_types.proofs.RisingLists.{all_at}
use Rattle.clr_types.proofs.SortedLists.{sorted_by-rises, into_sorted_by, out_of_sorted_by}
use Rattle.clr_types.proofs.ChangedLists.{all_members, into_filter, out_of_filter, IsIn-map}
use Rattle.clr_types.proofs.ListMembers.{from-map, filter-rises, distinct_map, distinct_filter, any-in, any-from}
use Rattle.clr_types.proofs.PieceGaps.{IsGapped}
use Rattle.clr_types.proofs.TilePieces.{IsTile}
use Rattle.clr_types.proofs.SegmentFacts.{one_base, AreSeparate, separate, lawful_segment, ephemeral-kind, ephemeral-in}
use Rattle.clr_types.proofs.SegmentFacts.{stands-between, one_home}
use Rattle.clr_types.proofs.HighestSegment.{filter-disjoint}
use Rattle.clr_model.specs.Machine.{Object, Machine}
use Rattle.clr_model.specs.Lookups.{pieces, object_piece, object_size}
use Rattle.clr_model.specs.Lawful.{IsLaid}
use Rattle.clr_model.specs.Sweep.{Survivor, survivor, survivors, is_condemned, has_condemned_part, base_at}
use Rattle.clr_model.specs.Compaction.{Plug, plug_end, plug_of, survivors_in}
use Rattle.clr_model.specs.Slide.{large_segments, large_plugs, lowest_place}
use Rattle.clr_model.proofs.PlugsOf.{survivor_end, longer, AreJoined, plugs-all, plugs-spaced, spaced-from, spaced-rise}
use Rattle.clr_model.proofs.PlugsOf.{spaced-apart, ArePlugsSpaced}
use Rattle.clr_model.proofs.PlugRoom.{ArePlugs}
use Rattle.clr_model.proofs.FirstPointer.{AreStarts}
use Rattle.clr_model.proofs.LawfulPieces.{HasHome, piece-home, piece-tile, pieces-apart, places-distinct}
use Rattle.clr_model.proofs.LawfulPieces.{object-in-pieces}
use Rattle.clr_model.proofs.LawfulSurvivors.{generation-least}

-- every segment has a part in a full collection
pub all-take : (s : SegInfo) → has_condemned_part 2 s ≡ true
all-take s = or_right (same_kind Ephemeral s.kind) (2 == 2) refl

not-ephemeral : (k : SegKind) → same_kind Large k ≡ true → same_kind Ephemeral k ≡ true → ⊥
not-ephemeral Small e f = absurd cc
not-ephemeral Ephemeral e f = absurd cc
not-ephemeral Large e f = absurd cc
not-ephemeral Pinned e f = absurd cc

head-in : (ss : List SegInfo) (s : SegInfo) → IsIn s ss → IsIn (segment_or_empty ss) ss
head-in [] s i = elim i [ ]
head-in (t ∷ ss) s i = first

head-lowest : (ss : List SegInfo) → AreDisjoint ss → (s : SegInfo) → IsIn s ss
    → (s ≡ segment_or_empty ss) ⊎ (reserved_end (segment_or_empty ss) ≤ s.base)
head-lowest (t ∷ ss) d s first = inl refl
head-lowest (t ∷ ss) d s (later i) = inr (all_at (λ (r : SegInfo). reserved_end t ≤ r.base) i d.0)
head-lowest [] d s i = elim i [ ]

module _ (m : Machine) (h : IsLaid m) where
  abbrev parts : List SegInfo
  parts = large_segments m.layout

  pub large-is : (s : SegInfo) → IsIn s parts → (same_kind Large s.kind ≡ true) × IsIn s m.layout.segments
  large-is s i =
      let (t, j) =
      out_of_filter (λ (s : SegInfo). same_kind Large s.kind && has_condemned_part 2 s) s m.layout.segments i in
      ((and_parts (same_kind Large s.kind) (has_condemned_part 2 s) t).0, j)

  pub is-large : (s : SegInfo) → IsIn s m.layout.segments → same_kind Large s.kind ≡ true → IsIn s parts
  is-large s i k =
      into_filter (λ (s : SegInfo). same_kind Large s.kind && has_condemned_part 2 s) m.layout.segments
      (and_from (same_kind Large s.kind) (has_condemned_part 2 s) k (all-take s)) i

  -- what stands in a large segment is of generation 2
  pub large-old : (s : SegInfo) → IsIn s parts → (place : ℕ) → stands_in s place ≡ true
      → generation m.layout place ≡ 2
  large-old s i place t =
      let (kind, known) = large-is s i in
      go (stands_in (ephemeral m.layout) place) refl kind
      (separate m.layout h.layout s (ephemeral m.layout) known (ephemeral-in m.layout h.layout))
    where
      go : (b : Bool) → stands_in (ephemeral m.layout) place ≡ b → same_kind Large s.kind ≡ true
          → AreSeparate s (ephemeral m.layout)
          → ◌≡◌ {A = ℕ} (if b then (if nat_lt place m.layout.start1 then 2 else
          (if nat_lt place m.layout.start0 then 1 else 0)) else 2) 2
      go false e kind apart = refl
      go true e kind (inl same) =
          absurd (not-ephemeral s.kind kind
          (subst (λ (u : SegInfo). same_kind Ephemeral u.kind ≡ true) (sym same) (ephemeral-kind m.layout h.layout)))
      go true e kind (inr (inl l)) =
          let (a, b) = stands-between s place t in let (c, d) = stands-between (ephemeral m.layout) place e in
          absurd (omega arith)
      go true e kind (inr (inr l)) =
          let (a, b) = stands-between s place t in let (c, d) = stands-between (ephemeral m.layout) place e in
          absurd (omega arith)

  -- segments of one base are one
  pub large-once : (s t : SegInfo) → IsIn s parts → IsIn t parts → s.base ≡ t.base → s ≡ t
  large-once s t i j e = one_base m.layout h.layout s t (large-is s i).1 (large-is t j).1 e

  pub lowest-first : (s : SegInfo) → IsIn s parts → lowest_place m.layout ≤ first_place s
  lowest-first s i =
      elim (head-lowest parts
      (filter-disjoint (λ (s : SegInfo). same_kind Large s.kind && has_condemned_part 2 s) m.layout.segments
      h.layout.disjoint) s i) [
        | inl e ↦ let q : first_place s ≡ lowest_place m.layout = ap first_place e in omega arith
        | inr l ↦
            let low : IsLawfulSegment (segment_or_empty parts) =
            lawful_segment m.layout h.layout (segment_or_empty parts) (large-is (segment_or_empty parts)
            (head-in parts s i)).1 in
            let r : 262144 ≤ (segment_or_empty parts).reserved = low.least in omega arith
      ]

  module _ (keeps : ℕ → Bool) where
    abbrev kept : List Survivor
    kept = survivors m 2 keeps

    abbrev large : List Survivor
    large = survivors_in (same_kind Large) m.layout kept

    abbrev plugs : List Plug
    plugs = large_plugs m.layout kept

    -- an object that stays in the large heap
    pub record IsLargeSurvivor (k : Survivor) : Type 0 where
      pub object : Object
      pub present : IsIn object m.objects
      pub kept_on : keeps object.name ≡ true
      pub is : k ≡ survivor m object
      pub home : SegInfo
      pub among : IsIn home (large_segments m.layout)
      pub of : k.segment ≡ home.base
      pub size : IsLawfulSize k.size
      pub aligned : k.place % 8 ≡ 0
      pub high : survivor_end k ≤ reserved_end home
      pub gap : IsGapped (first_place home) k.place
      pub age : k.generation ≡ 2

    pub large_survivor-is : (k : Survivor) → IsIn k large → IsLargeSurvivor k
    large_survivor-is k i =
        let (t, j) = out_of_filter (λ (k : Survivor). list_any
        (λ s. same_kind Large s.kind && (s.base == k.segment)) m.layout.segments) k kept i in
        let (o, e, n) = from-map (survivor m) k (filter (λ (o : Object). is_condemned m 2 o && keeps o.name) m.objects)
        (out_of_sorted_by (λ (s : Survivor). s.place) k _ j) in
        let (c, present) = out_of_filter (λ (o : Object). is_condemned m 2 o && keeps o.name) o m.objects n in
        let (s, q, w) = any-in (λ (s : SegInfo). same_kind Large s.kind && (s.base == k.segment)) m.layout.segments t in
        let (kind, base) = and_parts (same_kind Large s.kind) (s.base == k.segment) w in
        let p : IsIn (object_piece m.types o) (pieces m) = object-in-pieces m h o present in
        make o present (and_parts (is_condemned m 2 o) (keeps o.name) c).1 e
        (piece-home m h (object_piece m.types o) p) p s q kind (eqb-true s.base k.segment base)
      where
        make : (o : Object) → IsIn o m.objects → keeps o.name ≡ true → k ≡ survivor m o → HasHome m.layout o.place
            → IsIn (object_piece m.types o) (pieces m) → (s : SegInfo) → IsIn s m.layout.segments
            → same_kind Large s.kind ≡ true → s.base ≡ k.segment → IsLargeSurvivor k
        make o present stays e n p s q kind base =
            let is : IsTile (first_place n.home) n.home.end (object_piece m.types o) =
            piece-tile m h (object_piece m.types o) p n in
            let of : k.segment ≡ n.home.base = ap (λ (k : Survivor). k.segment) e ∙ n.base in
            let same : n.home ≡ s = one_base m.layout h.layout n.home s n.among q (omega arith) in
            let part : IsIn n.home parts = is-large n.home n.among
            (subst (λ (u : SegInfo). same_kind Large u.kind ≡ true) (sym same) kind) in
            let place : k.place ≡ o.place = ap (λ (k : Survivor). k.place) e in
            let size : k.size ≡ object_size m.types o = ap (λ (k : Survivor). k.size) e in
            let lawful : IsLawfulSize (object_size m.types o) = is.size in
            let segment : IsLawfulSegment n.home = lawful_segment m.layout h.layout n.home n.among in
            let b : n.home.base % 4096 ≡ 0 = segment.base in
            let u : n.home.end ≤ reserved_end n.home = segment.high in
            let v : o.place + object_size m.types o ≤ n.home.end = is.high_end in
            let a : o.place % 8 ≡ first_place n.home % 8 = is.aligned in
            record {
              object = o;
              present = present;
              kept_on = stays;
              is = e;
              home = n.home;
              among = part;
              of = of;
              size = subst IsLawfulSize (sym size) lawful;
              aligned = omega arith;
              high = omega arith;
              gap = subst (IsGapped (first_place n.home)) (sym place) is.low_gap;
              age = ap (λ (k : Survivor). k.generation) e ∙ large-old n.home part o.place n.stands;
            }

    -- an object that stays in a large segment is one
    pub is_large-survivor : (o : Object) → IsIn o m.objects → keeps o.name ≡ true → (s : SegInfo)
        → IsIn s (large_segments m.layout) → stands_in s o.place ≡ true
        → IsIn (survivor m o) (survivors_in (same_kind Large) m.layout (survivors m 2 keeps))
    is_large-survivor o i stays s here stands =
        let (kind, known) = large-is s here in
        let n : HasHome m.layout o.place = piece-home m h (object_piece m.types o) (object-in-pieces m h o i) in
        let same : n.home ≡ s = one_home m.layout h.layout n.home s o.place n.among known n.stands stands in
        let base : base_at m.layout.segments o.place ≡ s.base = n.base ∙ ap (λ (u : SegInfo). u.base) same in
        let age = generation-least m.layout o.place in
        into_filter (λ (k : Survivor). list_any
        (λ s. same_kind Large s.kind && (s.base == k.segment)) m.layout.segments) kept
        (any-from (λ (t : SegInfo). same_kind Large t.kind && (t.base == base_at m.layout.segments o.place))
        m.layout.segments s known (and_from (same_kind Large s.kind)
        (s.base == base_at m.layout.segments o.place) kind
        (eq-eqb s.base (base_at m.layout.segments o.place) (sym base))))
        (into_sorted_by (λ (s : Survivor). s.place) (survivor m o)
        (map (survivor m) (filter (λ (o : Object). is_condemned m 2 o && keeps o.name) m.objects))
        (IsIn-map (survivor m) (into_filter (λ (o : Object). is_condemned m 2 o && keeps o.name) m.objects
        (and_from (is_condemned m 2 o) (keeps o.name) (le-leb (generation m.layout o.place) 2 age) stays) i)))

    pub survivors-rise : IsRisingBy (λ (k : Survivor). k.place) large
    survivors-rise =
        filter-rises (λ (k : Survivor). list_any
        (λ s. same_kind Large s.kind && (s.base == k.segment)) m.layout.segments)
        (λ (k : Survivor). k.place) kept
        (sorted_by-rises (λ (k : Survivor). k.place) _
        (distinct_map (survivor m) (λ (k : Survivor). k.place)
        (filter (λ (o : Object). is_condemned m 2 o && keeps o.name) m.objects)
        (distinct_filter (λ (o : Object). o.place) (λ (o : Object). is_condemned m 2 o && keeps o.name) m.objects
        (places-distinct m h))))

    survivors-apart : (k l : Survivor) → IsIn k large → IsIn l large → k.place < l.place
        → IsGapped (survivor_end k) l.place × (l.generation ≤ k.generation)
    survivors-apart k l i j b =
        let x : IsLargeSurvivor k = large_survivor-is k i in
        let y : IsLargeSurvivor l = large_survivor-is l j in
        let kp : k.place ≡ x.object.place = ap (λ (k : Survivor). k.place) x.is in
        let ke : survivor_end k ≡ piece_end (object_piece m.types x.object) = ap survivor_end x.is in
        let lp : l.place ≡ y.object.place = ap (λ (k : Survivor). k.place) y.is in
        let far : IsGapped (piece_end (object_piece m.types x.object)) y.object.place =
        pieces-apart m h (object_piece m.types x.object) (object_piece m.types y.object)
        (object-in-pieces m h x.object x.present) (object-in-pieces m h y.object y.present) (omega arith) in
        let a = x.age in let c = y.age in (
          subst (λ n. IsGapped n l.place) (sym ke)
              (subst (λ n. IsGapped (piece_end (object_piece m.types x.object)) n) (sym lp) far),
          omega arith,
        )

    -- ---- their plugs

    pub record IsLargePlug (p : Plug) : Type 0 where
      pub home : SegInfo
      pub among : IsIn home (large_segments m.layout)
      pub of : p.segment ≡ home.base
      pub size : IsLawfulSize p.size
      pub aligned : p.start % 8 ≡ 0
      pub high : plug_end p ≤ reserved_end home
      pub gap : IsGapped (first_place home) p.start

    alone-plug : (k : Survivor) → IsLargeSurvivor k → IsLargePlug (plug_of k)
    alone-plug k x = record {
      home = x.home;
      among = x.among;
      of = x.of;
      size = x.size;
      aligned = x.aligned;
      high = x.high;
      gap = x.gap;
    }

    longer-plug : (k : Survivor) (p : Plug) → IsLargeSurvivor k → IsLargePlug p → AreJoined k p
        → IsLargePlug (longer k p)
    longer-plug k p x y j =
        let same : y.home ≡ x.home = large-once y.home x.home y.among x.among (sym y.of ∙ sym j.segment ∙ x.of) in
        let touch : survivor_end k ≡ p.start = j.touch in
        let (a, a') = x.size in let (b, b') = y.size in
        let u : plug_end p ≤ reserved_end y.home = y.high in
        let v : reserved_end y.home ≡ reserved_end x.home = ap reserved_end same in
        record {
          home = x.home;
          among = x.among;
          of = sym j.segment ∙ x.of;
          size = (omega arith, omega arith);
          aligned = x.aligned;
          high = omega arith;
          gap = x.gap;
        }

    pub large_plug-is : (p : Plug) → IsIn p plugs → IsLargePlug p
    large_plug-is p i =
        all_at IsLargePlug i
        (plugs-all IsLargeSurvivor IsLargePlug alone-plug longer-plug large
        (all_members IsLargeSurvivor large large_survivor-is))

    spaced : ArePlugsSpaced plugs
    spaced = plugs-spaced large (spaced-from large survivors-rise survivors-apart)

    plug-size : (p : Plug) → IsIn p plugs → 0 < p.size
    plug-size p i = let (s, t) = (large_plug-is p i).size in omega arith

    pub are_large-plugs : ArePlugs (large_segments m.layout) (large_plugs m.layout (survivors m 2 keeps))
    are_large-plugs = record {
      each = λ p i. let x : IsLargePlug p = large_plug-is p i in
          record { home = x.home; among = x.among; of = x.of; low = x.gap; high = x.high; size = x.size.0 };
      rise = spaced-rise plugs spaced plug-size;
      apart = λ p q i j l. (spaced-apart plugs p q spaced plug-size i j l).0;
      reserved = λ s i. let r : 262144 ≤ s.reserved = (lawful_segment m.layout h.layout s (large-is s i).1).least in
          omega arith;
      separate = λ s t i j. separate m.layout h.layout s t (large-is s i).1 (large-is t j).1;
    }

    -- the pointer begins at the first place of the lowest segment, and so does each part
    pub are_large-starts : (s : SegInfo) → IsIn s (large_segments m.layout)
        → AreStarts (large_segments m.layout) (large_plugs m.layout (survivors m 2 keeps)) first_place
        (lowest_place m.layout)
    are_large-starts s i = record {
      base = segment_or_empty parts;
      among = head-in parts s i;
      begins = refl;
      lowest = lowest-first;
      low = λ t j. omega arith;
      high = λ t j. let r : 262144 ≤ t.reserved = (lawful_segment m.layout h.layout t (large-is t j).1).least in
          omega arith;
      each = λ t j. inr refl;
      plugs = λ t p j k e. let x : IsLargePlug p = large_plug-is p k in
          subst (λ (u : SegInfo). IsGapped (first_place u) p.start)
          (large-once x.home t x.among j (sym x.of ∙ e)) x.gap;
      aligned = λ t j. let b : t.base % 4096 ≡ 0 = (lawful_segment m.layout h.layout t (large-is t j).1).base in
          (omega arith, omega arith);
      whole = λ p k. let x : IsLargePlug p = large_plug-is p k in (x.aligned, x.size.1);
    }
