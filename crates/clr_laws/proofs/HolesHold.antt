-- Nothing goes into a hole that was too small for the run above it.
use Rattle.std.proofs.Common.{◌≡◌, ℕ, ◌+◌, ◌-◌, ◌<◌, ◌≤◌, ◌⊎◌, inl, inr, List, refl, sym, ap, subst, ◌∙◌, arith}
use Rattle.std.proofs.Common.{Bool, true, false, ◌&&◌, ◌==◌, None, filter, map}
use Rattle.std.specs.List.{list_any}
use Rattle.std.proofs.lemmas.Bool.{both_ways, cases_Bool, cases_lt, cases_order}
use Rattle.clr_types.specs.Ranges.{Piece, piece_end}
use Rattle.clr_types.specs.Rising.{IsIn, IsRisingBy}
use Rattle.clr_types.specs.Segments.{first_place, generation, is_small_or_ephemeral}
use Rattle.clr_types.specs.Segments.{pieces_in, reserved_end, stands_in}
use Rattle.clr_types.specs.declared.segment.SegInfo.{SegInfo}
use Rattle.clr_types.proofs.ChangedLists.{into_filter, rising-distinct}
use Rattle.clr_types.proofs.ListMembers.{any-from, distinct_filter, distinct_map, filter-rises}
use Rattle.clr_types.proofs.PieceGaps.{IsGapped}
use Rattle.clr_types.proofs.Retiled.{tiles-cover}
use Rattle.clr_types.proofs.SegmentFacts.{between-stands, one_home}
use Rattle.clr_types.proofs.SegmentFacts.{lawful_segment, separate, stands-between}
use Rattle.clr_types.proofs.SortedLists.{find_by-member, same_by_key, sorted_by-rises}
use Rattle.clr_types.proofs.TilePieces.{tile}
use Rattle.clr_model.specs.declared.How.{How}
use Rattle.clr_model.specs.declared.How.TheVariants.{Compact, Decide, Fit, Sweep}
use Rattle.clr_model.specs.declared.Collected.{Collected}
use Rattle.clr_model.specs.Collection.{begun, Collects, is_in_small_heap}
use Rattle.clr_model.specs.Compaction.{IsCompacted, Move, moved_by, Plug, survivors_in}
use Rattle.clr_model.specs.Lawful.{IsLaid, IsLawful}
use Rattle.clr_model.specs.Laws.{HasPlace, IsPlain, IsUsual}
use Rattle.clr_model.specs.Lookups.{is_pinned, lowest_in_step, object_piece, object_size, pieces}
use Rattle.clr_model.specs.Machine.{Machine, Object}
use Rattle.clr_model.specs.Sweep.{base_at, is_condemned, Survivor, survivor, survivors}
use Rattle.clr_model.proofs.CompactedPieces.{filled_by, moved_with}
use Rattle.clr_model.proofs.CondemnedParts.{taking-is}
use Rattle.clr_model.proofs.LawfulPieces.{HasHome, object-in-pieces, piece-home, piece-tile, pieces-apart}
use Rattle.clr_model.proofs.LawfulPieces.{places-distinct, segment-tiled}
use Rattle.clr_model.proofs.LawfulSurvivors.{generation-least, IsSurvivor, survivor-is}
use Rattle.clr_model.proofs.MovedPlaces.{covered, is_small-survivor, IsCovered, lands-in, moved-is}
use Rattle.clr_model.proofs.PlugRoom.{one_plug}
use Rattle.clr_model.proofs.SlidLaws.{order}
use Rattle.clr_laws.proofs.Holes.{full_segments_of, stands_there}
use Rattle.clr_laws.proofs.LeftObjects.{Covers}
use Rattle.clr_laws.proofs.LeftRuns.{EndsAt, IsGapIn, IsOfRun, IsRunAbove}
use Rattle.clr_laws.proofs.HoleRooms.{IsPinAt}
use Rattle.clr_laws.proofs.NothingMoves.{after, after_there, IsClosed, laid, lawful, pinned_to, size_after, StayBelow}
use Rattle.clr_laws.proofs.PlugRuns.{AreInRow, GoesOn, in-row, run-ends}
use Rattle.clr_laws.proofs.SkippedHoles.{prepared}

plain-of : (how : How) → IsUsual 2 how → IsPlain 2 how
plain-of Decide usual = usual
plain-of Compact usual = usual
plain-of Sweep usual = usual
plain-of Fit usual = absurd (omega (arith, usual))

module _ (m : Machine) (h : IsLawful m) (idle : lowest_in_step m ≡ None) (how : How) (usual : IsUsual 2 how)
    (answer : Collected) (new : Machine) (c : Collects m 2 how answer new) (unslid : m.compacts_large ≡ false)
    (keeps : (o : Object) → IsIn o m.objects → c.collects.kept o.name ≡ true)
    (k : IsCompacted (begun m).layout 2 (survivors (begun m) 2 c.collects.kept) c.collects.moves c.collects.small)
  where
    two : 2 ≤ 2
    two = omega arith

    abbrev kept : ℕ → Bool
    kept = c.collects.kept

    abbrev moves : List Move
    moves = c.collects.moves

    abbrev to : ℕ → ℕ
    to = moved_by moves

    laid-m : IsLaid (begun m)
    laid-m = laid m h idle how usual answer new c unslid

    laid-new : IsLaid new
    laid-new = (lawful m h idle how usual answer new c unslid).laid

    abbrev goes : Object → Object
    goes = after m h idle how usual answer new c unslid

    there : (o : Object) → IsIn o m.objects → IsIn (goes o) new.objects
    there o i = after_there m h idle how usual answer new c unslid o i (keeps o i)

    sized : (o : Object) → object_size new.types (goes o) ≡ object_size m.types o
    sized o = size_after m h idle how usual answer new c unslid o

    still-pinned : (o : Object) → IsIn o m.objects → is_pinned m o.name ≡ true → to o.place ≡ o.place
    still-pinned o i pinned = pinned_to m h idle how usual answer new c unslid o i (keeps o i) pinned

    -- where an object goes below another, the other begins behind it or with room for a free item
    apart-new : (a b : Object) → IsIn a m.objects → IsIn b m.objects → to a.place < to b.place
        → IsGapped (to a.place + object_size m.types a) (to b.place)
    apart-new a b i j less =
        subst (λ n. IsGapped (to a.place + n) (to b.place)) (sized a)
        (pieces-apart new laid-new (object_piece new.types (goes a)) (object_piece new.types (goes b))
        (object-in-pieces new laid-new (goes a) (there a i)) (object-in-pieces new laid-new (goes b) (there b j)) less)

    -- and where both go to one place they are one
    one-new : (a b : Object) → IsIn a m.objects → IsIn b m.objects → to a.place ≡ to b.place → a.name ≡ b.name
    one-new a b i j same =
        ap (λ (w : Object). w.name)
        (same_by_key (λ (w : Object). w.place) new.objects (goes a) (goes b) (places-distinct new laid-new) (there a i)
        (there b j) same)

    -- ---- survivors and their moves

    abbrev small : List Survivor
    small = survivors_in is_small_or_ephemeral (begun m).layout (survivors (begun m) 2 kept)

    in-row-all : AreInRow small
    in-row-all =
        in-row small rise
        (λ l i. let least = (survivor-is (begun m) laid-m 2 two kept l i).size in omega (arith, least)) far
      where
        rise : IsRisingBy (λ (l : Survivor). l.place) small
        rise =
            filter-rises (λ (l : Survivor). list_any
            (λ s. is_small_or_ephemeral s.kind && (s.base == l.segment)) (begun m).layout.segments)
            (λ (l : Survivor). l.place) (survivors (begun m) 2 kept)
            (sorted_by-rises (λ (l : Survivor). l.place)
            (map (survivor (begun m)) (filter (λ (o : Object). is_condemned (begun m) 2 o && kept o.name) m.objects))
            (distinct_map (survivor (begun m)) (λ (l : Survivor). l.place)
            (filter (λ (o : Object). is_condemned (begun m) 2 o && kept o.name) m.objects)
            (distinct_filter (λ (o : Object). o.place) (λ (o : Object). is_condemned (begun m) 2 o && kept o.name)
            m.objects (places-distinct (begun m) laid-m))))

        far : (a b : Survivor) → IsIn a small → IsIn b small → a.place < b.place → a.place + a.size ≤ b.place
        far a b i j less =
            go (survivor-is (begun m) laid-m 2 two kept a i) (survivor-is (begun m) laid-m 2 two kept b j)
          where
            go : IsSurvivor (begun m) laid-m 2 two kept a → IsSurvivor (begun m) laid-m 2 two kept b
                → a.place + a.size ≤ b.place
            go x y =
                let at : a.place ≡ x.object.place = ap (λ (l : Survivor). l.place) x.is in
                let end : a.place + a.size ≡ piece_end (object_piece m.types x.object) =
                ap (λ (l : Survivor). l.place + l.size) x.is in
                let from : b.place ≡ y.object.place = ap (λ (l : Survivor). l.place) y.is in
                let gap = pieces-apart (begun m) laid-m (object_piece m.types x.object) (object_piece m.types y.object)
                (object-in-pieces (begun m) laid-m x.object x.present)
                (object-in-pieces (begun m) laid-m y.object y.present) (omega (arith, at, from, less)) in
                omega (arith, end, from, gap)

    abbrev Covered : Object → Move → Type 0
    Covered = IsCovered (begun m) laid-m 2 two kept moves c.collects.small k

    is-covered : (o : Object) → IsIn o m.objects → (v : Move) → IsIn v moves → Covers v o.place → Covered o v
    is-covered = covered (begun m) laid-m 2 two kept moves c.collects.small k

    -- an object that the move takes over this place
    record IsTaken (v : Move) (x : ℕ) (o : Object) : Type 0 where
      present : IsIn o m.objects
      covers : Covers v o.place
      low : v.to ≤ to o.place
      under : to o.place ≤ x
      over : x < to o.place + object_size m.types o
      by : to o.place ≡ v.to + (o.place - v.start)

    taken : (v : Move) → IsIn v moves → (x : ℕ) → v.to ≤ x → x < v.to + v.size → (o : Object) × IsTaken v x o
    taken v i x low high =
        let f = filled_by (begun m) laid-m 2 two kept moves c.collects.small k v i in
        let (y, n, under, over) = tiles-cover v.to (v.to + v.size) f.pieces f.tiled x low high in
        let (o, present, stays, cover, is) = f.objects y n in
        let t = tile v.to (v.to + v.size) f.pieces y f.tiled n in
        let at : y.place ≡ to o.place = ap (λ (p : Piece). p.place) is in
        let size : y.size ≡ object_size m.types o = ap (λ (p : Piece). p.size) is in
        let gap = t.low_gap in (
          o,
          record {
            present = present;
            covers = cover;
            low = omega (arith, at, gap);
            under = omega (arith, at, under);
            over = omega (arith, at, size, over);
            by = moved_with (begun m) laid-m 2 two kept moves c.collects.small k v i o.place cover;
          },
        )

    -- an object ends within its move
    ends-within : (v : Move) → IsIn v moves → (o : Object) → IsIn o m.objects → Covers v o.place
        → o.place + object_size m.types o ≤ v.start + v.size
    ends-within v i o present cover =
        let f = filled_by (begun m) laid-m 2 two kept moves c.collects.small k v i in
        let t = tile v.to (v.to + v.size) f.pieces (record { place = to o.place; size = object_size m.types o }) f.tiled
        (f.all o present cover) in
        let end = t.high_end in
        let by = moved_with (begun m) laid-m 2 two kept moves c.collects.small k v i o.place cover in
        let (low, high) = cover in
        omega (arith, end, by, low)

    some-object : (o : Object) → IsIn o m.objects → 24 ≤ object_size m.types o
    some-object o i =
        let among = object-in-pieces (begun m) laid-m o i in
        (piece-tile (begun m) laid-m (object_piece m.types o) among
        (piece-home (begun m) laid-m (object_piece m.types o) among)).size.0

    -- what isn't pinned keeps its order
    ordered : (a b : Object) → IsIn a m.objects → IsIn b m.objects → is_pinned m a.name ≡ false
        → is_in_small_heap m.layout a.place ≡ true → a.place < b.place → to a.place < to b.place
    ordered a b i j out small less =
        order m 2 how answer new h (plain-of how usual) c a.name b.name a.place b.place (to a.place) (to b.place) out
        (was a i) (was b j) small (inl (ap (λ f. f && (2 == 2)) unslid)) less (now a i) (now b j)
      where
        was : (o : Object) → IsIn o m.objects → HasPlace m o.name o.place
        was o i = (
          o,
          find_by-member (λ (w : Object). w.name) o m.objects
              (rising-distinct (λ (w : Object). w.name) m.objects h.names_rise) i,
          refl,
        )

        now : (o : Object) → IsIn o m.objects → HasPlace new o.name (to o.place)
        now o i = (
          goes o,
          find_by-member (λ (w : Object). w.name) (goes o) new.objects
              (rising-distinct (λ (w : Object). w.name) new.objects
              (lawful m h idle how usual answer new c unslid).names_rise) (there o i),
          refl,
        )

    small-there : (u : SegInfo) → IsIn u m.layout.segments → is_small_or_ephemeral u.kind ≡ true → (place : ℕ)
        → stands_in u place ≡ true → is_in_small_heap m.layout place ≡ true
    small-there u known kind place stands =
        any-from (λ (s : SegInfo). is_small_or_ephemeral s.kind && stands_in s place) m.layout.segments u known
        (ap (λ b. b && stands_in u place) kind ∙ stands)

    -- an object is like the plug that begins with another, where both stand in one segment
    goes-on : (v : Move) (o : Object) (is : Covered o v) (w : Object) → IsIn w m.objects → (n : SegInfo)
        → IsIn n m.layout.segments → stands_in n w.place ≡ true → stands_in n o.place ≡ true → v.start ≡ o.place
        → w.place ≡ v.start + v.size → is_pinned m w.name ≡ is_pinned m o.name
        → generation m.layout w.place ≡ generation m.layout o.place → GoesOn is.plug (survivor (begun m) w)
    goes-on v o is w i n known stands stands_o begins at pinned age =
        let start = is.landed.start in
        let size = is.landed.size in
        record {
          at = omega (arith, at, start, size);
          segment = base ∙ sym of-plug;
          generation = age ∙ is.age;
          pinned = pinned ∙ is.pinned;
        }
      where
        base : base_at (begun m).layout.segments w.place ≡ n.base
        base =
            let at : HasHome (begun m).layout w.place =
            piece-home (begun m) laid-m (object_piece m.types w) (object-in-pieces (begun m) laid-m w i) in
            at.base
            ∙ ap (λ (s : SegInfo). s.base)
            (one_home (begun m).layout laid-m.layout at.home n w.place at.among known at.stands stands)

        of-plug : is.plug.segment ≡ n.base
        of-plug =
            let p = (prepared (begun m) laid-m kept moves c.collects.small k).plugs.each is.plug is.known in
            let (kind, part, known_home) = taking-is (begun m).layout laid-m.layout 2 two p.home
            (subst (IsIn p.home) k.segments_are p.among) in
            let low = p.low in
            let high = p.high in
            let size = p.size in
            let start = is.landed.start in
            p.of ∙ ap (λ (s : SegInfo). s.base)
            (one_home (begun m).layout laid-m.layout p.home n o.place known_home known
            (between-stands p.home o.place (omega (arith, low, start, begins))
            (omega (arith, high, size, start, begins))) stands_o)

    -- ---- a hole

    module _ (s : SegInfo) (among : IsIn s m.layout.segments) (low high : ℕ) (gap : IsGapIn m s low high)
        (Room : ℕ → Type 0) (run : IsRunAbove m Room low high) (o : Object) (i : IsIn o m.objects)
        (out : is_pinned m o.name ≡ false) (home : SegInfo) (known : IsIn home m.layout.segments)
        (kind : is_small_or_ephemeral home.kind ≡ true) (stands : stands_in home o.place ≡ true)
        (above : high ≤ o.place) (below : StayBelow m moves o.place) (from : low ≤ to o.place)
        (under : to o.place < high) where
      abbrev Of : ℕ → Object → Type 0
      Of = IsOfRun m run.home run.place run.size run.age

      -- the object begins the run
      begins : o.place ≡ run.place
      begins =
          let some = run.some in
          let (u, j, is) = run.filled run.place (omega arith) (omega (arith, some)) in
          let lowest = run.lowest o i out home known kind stands above in
          let first = is.from in
          let last = is.under in
          go u j is (omega (arith, first, last)) lowest (cases_lt run.place o.place)
        where
          go : (u : Object) → IsIn u m.objects → Of run.place u → u.place ≡ run.place → run.place ≤ o.place
              → (run.place < o.place) ⊎ (o.place ≤ run.place) → o.place ≡ run.place
          go u j is at lowest (inr up) = omega (arith, lowest, up)
          go u j is at lowest (inl less) =
              let still = below u j (omega (arith, at, less)) in
              let up = ordered u o j i is.unpinned (small-there run.home run.among run.small u.place is.stands)
              (omega (arith, at, less)) in
              let over = run.above in
              absurd (omega (arith, still, up, over, at, under))

      first-of : (u : Object) × IsIn u m.objects × Of run.place u
      first-of = let some = run.some in run.filled run.place (omega arith) (omega (arith, some))

      is-first : o.place ≡ first-of.0.place
      is-first =
          let first = first-of.2.from in
          let last = first-of.2.under in
          let at = begins in
          omega (arith, first, last, at)

      run-age : generation m.layout o.place ≡ run.age
      run-age = ap (generation m.layout) is-first ∙ first-of.2.age_is

      stands-home : stands_in run.home o.place ≡ true
      stands-home = subst (λ n. stands_in run.home n ≡ true) (sym is-first) first-of.2.stands

      module _ (v : Move) (j : IsIn v moves) (cover : Covers v o.place)
          (by : to o.place ≡ v.to + (o.place - v.start)) where
        is : Covered o v
        is = is-covered o i v j cover

        some-bytes : 24 ≤ v.size
        some-bytes =
            let least = ((prepared (begun m) laid-m kept moves c.collects.small k).plugs.each is.plug is.known).size in
            let size = is.landed.size in omega (arith, least, size)

        -- and its plug
        starts : v.start ≡ o.place
        starts =
            let some = some-bytes in
            let (w, t) = taken v j v.to (omega arith) (omega (arith, some)) in
            go w t (cases_lt w.place o.place)
          where
            go : (w : Object) → IsTaken v v.to w → (w.place < o.place) ⊎ (o.place ≤ w.place) → v.start ≡ o.place
            go w t (inl less) =
                let still = below w t.present less in
                let low = t.low in
                let first = t.under in
                let moved = t.by in
                let (a, b) = t.covers in
                let (e, g) = cover in
                absurd (omega (arith, still, low, first, moved, a, e, by, above, under))
            go w t (inr up) =
                let low = t.low in
                let first = t.under in
                let moved = t.by in
                let (a, b) = t.covers in
                let (e, g) = cover in
                omega (arith, low, first, moved, a, e, up)

        -- all of the run goes with it
        covers-run : run.place + run.size ≤ v.start + v.size
        covers-run = elim (cases_lt (v.start + v.size) (run.place + run.size)) [
          | inr enough ↦ enough
          | inl short ↦
              let start = starts in
              let at = begins in
              let (w, n, of) = run.filled (v.start + v.size) (omega (arith, start, at)) short in
              absurd (go w n of (cases_lt w.place (v.start + v.size)))
        ]
          where
            go : (w : Object) → IsIn w m.objects → Of (v.start + v.size) w
                → (w.place < v.start + v.size) ⊎ (v.start + v.size ≤ w.place) → ⊥
            go w n of (inl less) =
                let start = starts in
                let at = begins in
                let first = of.from in
                let end = ends-within v j w n (omega (arith, start, at, first), less) in
                let over = of.over in
                omega (arith, end, over)
            go w n of (inr up) =
                let last = of.under in
                let at : w.place ≡ v.start + v.size = omega (arith, up, last) in
                run-ends small in-row-all is.plug (subst (IsIn is.plug) k.plugs_are is.known) (survivor (begun m) w)
                (is-covered-survivor w n of)
                (goes-on v o is w n run.home run.among of.stands stands-home starts at (of.unpinned ∙ sym out)
                (of.age_is ∙ sym run-age))
              where
                is-covered-survivor : (w : Object) → IsIn w m.objects → Of (v.start + v.size) w
                    → IsIn (survivor (begun m) w) small
                is-covered-survivor w n of =
                    let at : HasHome (begun m).layout w.place =
                    piece-home (begun m) laid-m (object_piece m.types w) (object-in-pieces (begun m) laid-m w n) in
                    let same = one_home (begun m).layout laid-m.layout at.home run.home w.place at.among run.among
                    at.stands of.stands in
                    is_small-survivor (begun m) laid-m 2 two kept moves c.collects.small k w n (keeps w n)
                    (generation-least (begun m).layout w.place) run.home run.among run.small
                    (at.base ∙ ap (λ (s : SegInfo). s.base) same)

        -- before it is nothing of the hole, or room for a free item
        gap-before : IsGapped low (to o.place)
        gap-before = elim gap.before [
          | inl first ↦ subst (λ n. IsGapped n (to o.place)) (sym first) (from-start first)
          | inr (w, ends) ↦ from-end w ends (cases_lt low (to o.place))
        ]
          where
            from-end : (w : Object) → EndsAt m s low w → (low < to o.place) ⊎ (to o.place ≤ low)
                → IsGapped low (to o.place)
            from-end w ends (inr down) = inl (omega (arith, down, from))
            from-end w ends (inl more) =
                let end = ends.at in
                let still = below w ends.present (omega (arith, end, from, under, above)) in
                let apart = apart-new w o ends.present i (omega (arith, still, end, more)) in
                subst (λ n. IsGapped n (to o.place)) (ap (λ n. n + object_size m.types w) still ∙ end) apart

            from-start : low ≡ first_place s → IsGapped (first_place s) (to o.place)
            from-start first =
                let in-new = object-in-pieces new laid-new (goes o) (there o i) in
                let n = piece-home new laid-new (object_piece new.types (goes o)) in-new in
                let space = (piece-tile new laid-new (object_piece new.types (goes o)) in-new n).low_gap in
                let (t, was, base, reserved, same_kind) = full_segments_of m how usual answer new c n.home n.among in
                let end = gap.end in
                let same : t ≡ s =
                one_home m.layout h.laid.layout t s (to o.place) was among
                (stands_there n.home t (to o.place) base reserved n.stands)
                (between-stands s (to o.place) (omega (arith, from, first)) (omega (arith, under, end))) in
                let start = ap first_place same in
                subst (λ n. IsGapped n (to o.place)) (omega (arith, base, start)) space

        -- ---- before a pinned object

        module _ (P : Object) (pin : IsPinAt m high P) where
          stays-pinned : to P.place ≡ high
          stays-pinned = still-pinned P pin.present pin.pinned ∙ pin.at

          ends-below : v.to + v.size ≤ high
          ends-below = elim (cases_lt high (v.to + v.size)) [
            | inr enough ↦ enough
            | inl bad ↦
                let start = starts in
                let (w, t) = taken v j high (omega (arith, start, by, under)) bad in
                absurd (go w t (cases_order (to w.place) (to P.place)))
          ]
            where
              go : (w : Object) → IsTaken v high w
                  → (to w.place ≡ to P.place) ⊎ ((to w.place < to P.place) ⊎ (to P.place < to w.place)) → ⊥
              go w t (inl same) =
                  let cover_w = is-covered w t.present v j t.covers in
                  let plugs =
                  one_plug k.segments k.plugs (prepared (begun m) laid-m kept moves c.collects.small k).plugs
                  cover_w.plug is.plug cover_w.known is.known (sym cover_w.landed.start ∙ is.landed.start) in
                  both_ways (is_pinned m P.name)
                  (ap (is_pinned m) (sym (one-new w P t.present pin.present same))
                  ∙ cover_w.pinned ∙ ap (λ (p : Plug). p.pinned) plugs ∙ sym is.pinned ∙ out) pin.pinned
              go w t (inr (inl less)) =
                  let apart = apart-new w P t.present pin.present less in
                  let over = t.over in
                  let still = stays-pinned in
                  omega (arith, apart, over, still)
              go w t (inr (inr more)) =
                  let last = t.under in
                  let still = stays-pinned in
                  omega (arith, more, last, still)

          -- behind the run is nothing of the hole, or room for a free item
          gap-behind : IsGapped (to o.place + run.size) high
          gap-behind =
              let some = run.some in
              let (w, n, of) = run.filled (run.place + run.size - 1) (omega (arith, some)) (omega (arith, some)) in
              let over = of.over in
              let last = of.to in
              let first = of.from in
              let start = starts in
              let at = begins in
              let enough = covers-run in
              let least = some-object w n in
              let cover_w : Covers v w.place = (omega (arith, start, at, first), omega (arith, enough, last, least)) in
              let moved = moved_with (begun m) laid-m 2 two kept moves c.collects.small k v j w.place cover_w in
              let end = ends-below in
              let still = stays-pinned in
              let (a, b) = cover_w in
              let apart = apart-new w P n pin.present (omega (arith, moved, a, b, end, still)) in
              let same : to w.place + object_size m.types w ≡ to o.place + run.size =
              omega (arith, moved, by, start, at, over, last, first, some) in
              subst (λ n. IsGapped n high) same
              (subst (λ n. IsGapped (to w.place + object_size m.types w) n) still apart)

          fits-before : IsGapped (low + run.size) high
          fits-before = go gap-before
            where
              go : IsGapped low (to o.place) → IsGapped (low + run.size) high
              go (inl same) = subst (λ n. IsGapped (n + run.size) high) (sym same) gap-behind
              go (inr far) = let behind = gap-behind in inr (omega (arith, far, behind))

        -- ---- at the end of a reservation

        fits-within : high ≡ reserved_end s → low + run.size ≤ high
        fits-within at =
            let l = lands-in (begun m) laid-m 2 two kept moves c.collects.small k v j in
            let (small, part, was) = taking-is (begun m).layout laid-m.layout 2 two l.segment
            (subst (IsIn l.segment) k.segments_are l.among) in
            let start = starts in
            let begin = begins in
            let enough = covers-run in
            let first = l.low in
            let last = l.high in
            let low_is = gap.start in
            let some = some-bytes in
            let same = one_home m.layout h.laid.layout l.segment s (to o.place) was among
            (between-stands l.segment (to o.place) (omega (arith, first, by, start))
            (omega (arith, last, by, start, some)))
            (between-stands s (to o.place) (omega (arith, low_is, from)) (omega (arith, under, at))) in
            let end = ap reserved_end same in
            omega (arith, from, by, start, begin, enough, last, end, at)

      moved : (v : Move) × IsIn v moves × Covers v o.place × (to o.place ≡ v.to + (o.place - v.start))
      moved = elim (moved-is moves o.place) [
        | inl it ↦ it
        | inr (none, same) ↦ absurd (omega (arith, same, above, under))
      ]

    -- where each such run leaves too little of a hole before a pinned object, no object goes into the hole
    pub hole-holds : (s : SegInfo) → IsIn s m.layout.segments → (f : Piece) → IsIn f (pieces (begun m))
        → IsGapIn m s f.place (piece_end f) → (p : Object) → IsPinAt m (piece_end f) p
        → ((o : Object) → IsIn o m.objects → is_pinned m o.name ≡ false → (u : SegInfo) → IsIn u m.layout.segments
        → is_small_or_ephemeral u.kind ≡ true → stands_in u o.place ≡ true → piece_end f ≤ o.place
        → IsRunAbove m (λ end. IsGapped end (piece_end f)) f.place (piece_end f))
        → IsClosed m moves f.place (piece_end f)
    hole-holds s among f in-pieces gap p pin runs o i u known kind stands over below from under =
        elim (cases_Bool (is_pinned m o.name)) [
          | inl pinned ↦
              let still = still-pinned o i pinned in
              let a = above in omega (arith, still, a, under)
          | inr out ↦ by out (runs o i out u known kind stands above)
        ]
      where
        above : piece_end f ≤ o.place
        above =
            let apart = pieces-apart (begun m) laid-m f (object_piece m.types o) in-pieces
            (object-in-pieces (begun m) laid-m o i) over in
            omega (arith, apart)

        by : is_pinned m o.name ≡ false → IsRunAbove m (λ end. IsGapped end (piece_end f)) f.place (piece_end f) → ⊥
        by out run =
            let (v, j, cover, goes_by) =
            moved s among f.place (piece_end f) gap (λ end. IsGapped end (piece_end f)) run o
            i out u known kind stands above below from under in
            run.tight (fits-before s among f.place (piece_end f) gap (λ end. IsGapped end (piece_end f)) run o i out u
            known kind stands above below from under v j cover goes_by p pin)

    -- and so it is with what is reserved behind a segment's end
    pub tail-holds : (s : SegInfo) → IsIn s m.layout.segments
        → (s.end < reserved_end s → IsGapIn m s s.end (reserved_end s))
        → (s.end < reserved_end s → (o : Object) → IsIn o m.objects → is_pinned m o.name ≡ false → (u : SegInfo)
        → IsIn u m.layout.segments → is_small_or_ephemeral u.kind ≡ true → stands_in u o.place ≡ true
        → reserved_end s ≤ o.place → IsRunAbove m (λ end. end ≤ reserved_end s) s.end (reserved_end s))
        → IsClosed m moves s.end (reserved_end s)
    tail-holds s among gaps runs o i u known kind stands over below from under =
        elim (cases_Bool (is_pinned m o.name)) [
          | inl pinned ↦
              let still = still-pinned o i pinned in
              let a = above in omega (arith, still, a, under)
          | inr out ↦ by out (gaps some) (runs some o i out u known kind stands above)
        ]
      where
        some : s.end < reserved_end s
        some = omega (arith, from, under)

        above : reserved_end s ≤ o.place
        above =
            let (low, high) = stands-between u o.place stands in
            let first = (lawful_segment m.layout h.laid.layout s among).low in
            elim (separate m.layout h.laid.layout s u among known) [
              | inl same ↦ absurd (ends-above same)
              | inr (inl lower) ↦ omega (arith, lower, low)
              | inr (inr upper) ↦ absurd (omega (arith, upper, high, first, over))
            ]
          where
            ends-above : s ≡ u → ⊥
            ends-above same =
                let t = tile (first_place u) u.end (pieces_in u (pieces (begun m))) (object_piece m.types o)
                (segment-tiled (begun m) laid-m u known)
                (into_filter (λ (p : Piece). stands_in u p.place) (pieces (begun m)) stands
                (object-in-pieces (begun m) laid-m o i)) in
                let end = t.high_end in
                let at = ap (λ (w : SegInfo). w.end) same in
                omega (arith, end, at, over)

        by : is_pinned m o.name ≡ false → IsGapIn m s s.end (reserved_end s)
            → IsRunAbove m (λ end. end ≤ reserved_end s) s.end (reserved_end s) → ⊥
        by out gap run =
            let (v, j, cover, goes_by) =
            moved s among s.end (reserved_end s) gap (λ end. end ≤ reserved_end s) run o i out
            u known kind stands above below from under in
            run.tight (fits-within s among s.end (reserved_end s) gap (λ end. end ≤ reserved_end s) run o i out u known
            kind
            stands above below from under v j cover goes_by refl)
