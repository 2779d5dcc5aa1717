-- In a collection the objects of the small heap that aren't pinned keep their order.
use Rattle.clr_model.specs.declared.How.{How}
use Rattle.clr_model.specs.declared.Collected.{Collected}
use Rattle.clr_model.specs.Lawful.{IsLawful}
use Rattle.std.proofs.Common.{◌≡◌, ℕ, ◌+◌, ◌-◌, ◌<◌, ◌≤◌, ◌⊎◌, inl, inr, List, [], ◌∷◌, refl, sym, ap, subst, ◌∙◌}
use Rattle.std.proofs.Common.{arith, Bool, true, false, ◌&&◌}
use Rattle.std.proofs.lemmas.Bool.{and_parts, cases_lt}
use Rattle.clr_types.specs.Rising.{IsIn, first, later, IsRisingBy}
use Rattle.clr_types.specs.Segments.{Layout, first_place, reserved_end, stands_in, ephemeral, generation}
use Rattle.clr_types.specs.Segments.{is_small_or_ephemeral}
use Rattle.clr_types.specs.declared.segment.SegInfo.{SegInfo}
use Rattle.clr_types.proofs.RisingLists.{all_at}
use Rattle.clr_types.proofs.ListMembers.{any-in}
use Rattle.clr_types.proofs.PieceGaps.{IsGapped}
use Rattle.clr_types.proofs.SegmentFacts.{one_home, stands-between}
use Rattle.clr_types.proofs.HighestSegment.{ephemeral-highest}
use Rattle.clr_model.specs.Machine.{Object, Machine}
use Rattle.clr_model.specs.Lookups.{object_piece, is_pinned}
use Rattle.clr_model.specs.Lawful.{IsLaid}
use Rattle.clr_model.specs.Sweep.{Survivor, survivors, part_start, base_at}
use Rattle.clr_model.specs.Compaction.{Plug, plug_end, Move, moved_by, IsCompacted}
use Rattle.clr_model.specs.Laws.{HasPlace}
use Rattle.clr_model.specs.Collection.{IsSmallLaid, is_in_small_heap}
use Rattle.clr_model.proofs.PlugRoom.{one_plug}
use Rattle.clr_model.proofs.PlugWalk.{Each, AreOrdered, IsLanded, each_from, each_both, plug_of_move}
use Rattle.clr_model.proofs.CondemnedParts.{taking-is, ephemeral-takes, young-only}
use Rattle.clr_model.proofs.LawfulPieces.{HasHome, piece-home, object-in-pieces}
use Rattle.clr_model.proofs.LawfulSurvivors.{generation-least, aged}
use Rattle.clr_model.proofs.CondemnedPlugs.{AreCondemned, line-is, line-rises}
use Rattle.clr_model.proofs.CompactedSmall.{order_kept, source, walked_whole, whole_line}
use Rattle.clr_model.proofs.CollectedObjects.{begun, begun_laid, compacting, small_is, moved_object}
use Rattle.clr_model.proofs.MovedPlaces.{ready, moved-is, LandsIn, lands-in, IsCovered, covered, survivor-covered}
use Rattle.clr_model.proofs.MovedPlaces.{is_small-survivor, object_lower, pinned_stays}
use Rattle.clr_model.proofs.PlainCollections.{PlainlyCollects}

-- ---- moves by rising start

abbrev StartsAt : Plug → Move → Type 0
StartsAt p v = v.start ≡ p.start

-- no plug that starts here is pinned
abbrev IsFreeAt : List Plug → ℕ → Type 0
IsFreeAt ps place = (p : Plug) → IsIn p ps → p.start ≡ place → p.pinned ≡ false

-- Of two moves of plugs that aren't pinned, the one that starts lower lands lower.
ordered-moves : (ps : List Plug) (vs : List Move) → IsRisingBy (λ (p : Plug). p.start) ps → Each StartsAt ps vs
    → AreOrdered ps vs → (v w : Move) → IsIn v vs → IsIn w vs → IsFreeAt ps v.start → IsFreeAt ps w.start
    → v.start ≤ w.start → (v ≡ w) ⊎ (v.to + v.size ≤ w.to)
ordered-moves [] [] rise starts order v w i j f k l = elim i [ ]
ordered-moves [] (u ∷ vs) rise starts order v w i j f k l = absurd starts
ordered-moves (p ∷ ps) [] rise starts order v w i j f k l = elim i [ ]
ordered-moves (p ∷ ps) (u ∷ vs) rise starts order v w first first f k l = inl refl
ordered-moves (p ∷ ps) (u ∷ vs) rise starts order v w first (later j) f k l =
    let Lands : Plug → Move → Type 0 = λ q w. q.pinned ≡ false → v.to + v.size ≤ w.to in
    let far : Each Lands ps vs = order.0 (f p first (sym starts.0)) in
    let both : Each (λ q w. StartsAt q w × Lands q w) ps vs = each_both StartsAt Lands ps vs starts.1 far in
    let (q, among, (at, lands)) = plug_of_move (λ q w. StartsAt q w × Lands q w) ps vs w both j in
    inr (lands (k q (later among) (sym at)))
ordered-moves (p ∷ ps) (u ∷ vs) rise starts order v w (later i) first f k l =
    let (q, among, at) = plug_of_move StartsAt ps vs v starts.1 i in
    let up : p.start < q.start = all_at (λ (q : Plug). p.start < q.start) among rise.0 in
    let here : w.start ≡ p.start = starts.0 in
    absurd (omega arith)
ordered-moves (p ∷ ps) (u ∷ vs) rise starts order v w (later i) (later j) f k l =
    ordered-moves ps vs rise.1 starts.1 order.1 v w i j (λ q n. f q (later n)) (λ q n. k q (later n)) l

-- ---- in a compaction

module _ (m : Machine) (h : IsLaid m) (g : ℕ) (least : g ≤ 2) (keeps : ℕ → Bool) (moves : List Move) (new : Layout)
    (c : IsCompacted m.layout g (survivors m g keeps) moves new)
  where
    abbrev kept : List Survivor
    kept = survivors m g keeps

    abbrev prepared : AreCondemned m.layout g c.segments c.plugs
    prepared = ready m h g least keeps moves new c

    abbrev line : List Plug
    line = whole_line m.layout g kept moves new c prepared

    abbrev Covered : Object → Move → Type 0
    Covered o v = IsCovered m h g least keeps moves new c o v

    abbrev Covers : Move → ℕ → Type 0
    Covers v place = (v.start ≤ place) × (place < v.start + v.size)

    starts-line : Each StartsAt line moves
    starts-line =
        each_from (IsLanded c.segments c.plugs (source m.layout g kept moves new c prepared)) StartsAt
        (λ p v l. l.start)
        line moves (walked_whole m.layout g kept moves new c prepared).landed

    -- the plug of an object that isn't pinned isn't either, and it is the one that starts there
    free-plug : (o : Object) (v : Move) → is_pinned m o.name ≡ false → Covered o v → IsFreeAt line v.start
    free-plug o v unpinned is p i e =
        let known : IsIn p c.plugs = line-is c.plugs p i in
        let same : p ≡ is.plug =
        one_plug c.segments c.plugs prepared.plugs p is.plug known is.known (e ∙ is.landed.start) in
        ap (λ (q : Plug). q.pinned) same ∙ sym is.pinned ∙ unpinned

    -- two moved objects
    moved-moved : (a b : Object) → is_pinned m a.name ≡ false → is_pinned m b.name ≡ false → a.place < b.place
        → (v w : Move) → IsIn v moves → IsIn w moves → Covers v a.place → Covers w b.place → Covered a v → Covered b w
        → v.to + (a.place - v.start) < w.to + (b.place - w.start)
    moved-moved a b free_a free_b below v w i j (a0, a1) (b0, b1) p q = go (cases_lt w.start v.start)
      where
        order : v.start ≤ w.start → (v ≡ w) ⊎ (v.to + v.size ≤ w.to)
        order l =
            ordered-moves line moves (line-rises m.layout g c.segments c.plugs prepared) starts-line
            (order_kept m.layout g kept moves new c prepared) v w i j
            (free-plug a v free_a p) (free-plug b w free_b q) l

        by : (v ≡ w) ⊎ (v.to + v.size ≤ w.to) → v.to + (a.place - v.start) < w.to + (b.place - w.start)
        by (inl same) =
            let s : v.start ≡ w.start = ap (λ (u : Move). u.start) same in
            let t : v.to ≡ w.to = ap (λ (u : Move). u.to) same in omega arith
        by (inr apart) = omega arith

        go : (w.start < v.start) ⊎ (v.start ≤ w.start) → v.to + (a.place - v.start) < w.to + (b.place - w.start)
        go (inr l) = by (order l)
        go (inl l) =
            let s : v.start ≡ p.plug.start = p.landed.start in
            let t : w.start ≡ q.plug.start = q.landed.start in
            let z : w.size ≡ q.plug.size = q.landed.size in
            let far : IsGapped (plug_end q.plug) p.plug.start =
            prepared.plugs.apart q.plug p.plug q.known p.known (omega arith) in
            absurd (omega arith)

    abbrev IsUnmoved : Object → Type 0
    IsUnmoved o = (v : Move) → IsIn v moves → Covers v o.place → ⊥

    -- where an object of the small heap stands
    record StandsSmall (place : ℕ) : Type 0 where
      segment : SegInfo
      among : IsIn segment m.layout.segments
      small : is_small_or_ephemeral segment.kind ≡ true
      stands : stands_in segment place ≡ true

    stands-small : (place : ℕ) → is_in_small_heap m.layout place ≡ true → StandsSmall place
    stands-small place e =
        let passes : SegInfo → Bool = λ s. is_small_or_ephemeral s.kind && stands_in s place in
        let (s, i, t) = any-in passes m.layout.segments e in
        let (kind, stands) = and_parts (is_small_or_ephemeral s.kind) (stands_in s place) t in
        record { segment = s; among = i; small = kind; stands = stands }

    -- a kept object of the small heap that doesn't move is older than those that are condemned
    unmoved-old : (o : Object) → IsIn o m.objects → keeps o.name ≡ true → StandsSmall o.place → IsUnmoved o
        → g < generation m.layout o.place
    unmoved-old o i stays s unmoved =
        let home : HasHome m.layout o.place = piece-home m h (object_piece m.types o) (object-in-pieces m h o i) in
        go (cases_lt g (generation m.layout o.place)) home
      where
        go : (g < generation m.layout o.place) ⊎ (generation m.layout o.place ≤ g) → HasHome m.layout o.place
            → g < generation m.layout o.place
        go (inl l) n = l
        go (inr l) n =
            let same : n.home ≡ s.segment =
            one_home m.layout h.layout n.home s.segment o.place n.among s.among n.stands s.stands in
            let base : base_at m.layout.segments o.place ≡ s.segment.base =
            n.base ∙ ap (λ (u : SegInfo). u.base) same in
            absurd (survivor-covered m h g least keeps moves new c o
            (is_small-survivor m h g least keeps moves new c o i stays l s.segment s.among s.small base) unmoved)

    abbrev eph : SegInfo
    eph = ephemeral m.layout

    -- what is older than the condemned generations stands below the ephemeral segment's part
    abbrev IsLow : ℕ → Type 0
    IsLow place = (place < eph.base) ⊎ (place < part_start m.layout g eph)

    old-low : (place : ℕ) → StandsSmall place → g < generation m.layout place → IsLow place
    old-low place s old =
        go (ephemeral-highest m.layout h.layout s.segment s.among s.small) (cases_lt place (part_start m.layout g eph))
      where
        go : (s.segment ≡ eph) ⊎ (reserved_end s.segment ≤ eph.base)
            → (place < part_start m.layout g eph) ⊎ (part_start m.layout g eph ≤ place) → IsLow place
        go (inr low) order = let (a, b) = stands-between s.segment place s.stands in inl (omega arith)
        go (inl same) (inl low) = inr low
        go (inl same) (inr high) =
            let takes = ephemeral-takes m.layout h.layout g least in
            let (small, condemned, known) = taking-is m.layout h.layout g least eph takes in
            let (a, b) = stands-between eph place (subst (λ (u : SegInfo). stands_in u place ≡ true) same s.stands) in
            let age : generation m.layout place ≤ g = aged m h g least keeps eph known condemned place high a b in
            absurd (omega arith)

    -- and so below all that moves
    old-below : (place : ℕ) → StandsSmall place → g < generation m.layout place → (w : Move) → IsIn w moves
        → place < w.to
    old-below place s old w i = go (old-low place s old)
      where
        lands : LandsIn m h g least keeps moves new c w
        lands = lands-in m h g least keeps moves new c w i

        here : lands.segment ≡ eph
        here =
            let age : generation m.layout place ≤ 2 = generation-least m.layout place in
            let takes = subst (IsIn lands.segment) c.segments_are lands.among in
            young-only m.layout h.layout g least lands.segment takes (omega arith)

        low : first_place eph ≤ w.to
        low = subst (λ (u : SegInfo). first_place u ≤ w.to) here lands.low

        from : part_start m.layout g eph ≤ w.to
        from = subst (λ (u : SegInfo). part_start m.layout g u ≤ w.to) here lands.from

        go : IsLow place → place < w.to
        go (inl l) = let a = low in omega arith
        go (inr l) = let a = from in omega arith

    -- ---- both objects

    abbrev Moves : ℕ → Type 0
    Moves place = (v : Move) × IsIn v moves × Covers v place × (moved_by moves place ≡ v.to + (place - v.start))

    abbrev Stays : ℕ → Type 0
    Stays place = ((v : Move) → IsIn v moves → Covers v place → ⊥) × (moved_by moves place ≡ place)

    compaction_orders : (a b : Object) → IsIn a m.objects → IsIn b m.objects → keeps a.name ≡ true
        → is_pinned m a.name ≡ false → is_in_small_heap m.layout a.place ≡ true → a.place < b.place
        → moved_by moves a.place < moved_by moves b.place
    compaction_orders a b i j stays free_a small below =
        by (is_pinned m b.name) refl (moved-is moves a.place) (moved-is moves b.place)
      where
        lower : moved_by moves a.place ≤ a.place
        lower = object_lower m h g least keeps moves new c a

        go : is_pinned m b.name ≡ false → Moves a.place ⊎ Stays a.place → Moves b.place ⊎ Stays b.place
            → moved_by moves a.place < moved_by moves b.place
        go free_b x (inr (none, f)) = let l = lower in omega arith
        go free_b (inl (v, x, p, f)) (inl (w, y, q, k)) =
            let cover_a : Covered a v = covered m h g least keeps moves new c a i v x p in
            let cover_b : Covered b w = covered m h g least keeps moves new c b j w y q in
            let l : v.to + (a.place - v.start) < w.to + (b.place - w.start) =
            moved-moved a b free_a free_b below v w x y p q cover_a cover_b in
            omega arith
        go free_b (inr (none, f)) (inl (w, y, q, k)) =
            let s : StandsSmall a.place = stands-small a.place small in
            let l : a.place < w.to = old-below a.place s (unmoved-old a i stays s none) w y in
            omega arith

        by : (pin : Bool) → is_pinned m b.name ≡ pin → Moves a.place ⊎ Stays a.place → Moves b.place ⊎ Stays b.place
            → moved_by moves a.place < moved_by moves b.place
        by true pinned x y =
            let at : moved_by moves b.place ≡ b.place = pinned_stays m h g least keeps moves new c b j pinned in
            let l = lower in omega arith
        by false free_b x y = go free_b x y

-- ---- in a collection

-- in the small heap, compacted or swept
laid_orders : (m : Machine) (h : IsLaid m) (g : ℕ) → g ≤ 2 → (keeps : ℕ → Bool) (moves : List Move) (small : Layout)
    → (compacting : Bool) → IsSmallLaid compacting m.layout g (survivors m g keeps) moves small
    → (a b : Object) → IsIn a m.objects → IsIn b m.objects → keeps a.name ≡ true → is_pinned m a.name ≡ false
    → is_in_small_heap m.layout a.place ≡ true → a.place < b.place
    → moved_by moves a.place < moved_by moves b.place
laid_orders m h g least keeps moves small true is a b i j stays free_a in_small up =
    compaction_orders m h g least keeps moves small is a b i j stays free_a in_small up
laid_orders m h g least keeps moves small false is a b i j stays free_a in_small up =
    subst (λ vs. moved_by vs a.place < moved_by vs b.place) (sym is.0) up

pub plain_order : (m : Machine) (g : ℕ) (how : How) (answer : Collected) (new : Machine) → IsLawful m → g ≤ 2
    → PlainlyCollects m g how answer new
    → (one other low high low_after high_after : ℕ) → is_pinned m one ≡ false
    → HasPlace m one low → HasPlace m other high → is_in_small_heap m.layout low ≡ true → low < high
    → HasPlace new one low_after → HasPlace new other high_after → low_after < high_after
plain_order m g how answer new h least c one other low high to_low to_high free was_low was_high small up is_low
    is_high =
    let (a, named_a, at_a) = was_low in
    let (b, named_b, at_b) = was_high in
    let (p, named_p, at_p) = is_low in
    let (q, named_q, at_q) = is_high in
    let is_a = moved_object m h g least how answer new c one a p named_a named_p in
    let is_b = moved_object m h g least how answer new c other b q named_b named_q in
    let place_a : p.place ≡ moved_by c.moves a.place = is_a.place in
    let place_b : q.place ≡ moved_by c.moves b.place = is_b.place in
    let l : moved_by c.moves a.place < moved_by c.moves b.place =
    laid_orders (begun m h g least how answer new c) (begun_laid m h g least how answer new c) g least c.kept c.moves
    c.small (compacting m h g least how answer new c) (small_is m h g least how answer new c)
    a b is_a.present is_b.present is_a.kept_on (subst (λ n. is_pinned m n ≡ false) (sym is_a.named) free)
    (subst (λ n. is_in_small_heap m.layout n ≡ true) (sym at_a) small) (omega arith)
    in
    omega arith
