-- A fit leaves the memory as lawful: plugs stand in items that were free, and where they stood is free.
use Rattle.std.proofs.Common.{◌≡◌, ℕ, ◌+◌, ◌<◌, ◌≤◌, ◌⊎◌, inl, inr, List, [], ◌∷◌, ◌++◌, map, refl, sym, ap, subst, ◌∙◌}
use Rattle.std.proofs.Common.{arith, Bool, true, false, filter, not, append_assoc}
use Rattle.std.proofs.lemmas.Bool.{both_ways, cases_Bool}
use Rattle.clr_types.specs.Rising.{IsIn, first, later}
use Rattle.clr_types.specs.Ranges.{Piece, piece_end, Tiles}
use Rattle.clr_types.specs.declared.segment.SegInfo.{SegInfo}
use Rattle.clr_types.specs.Segments.{Layout, first_place, reserved_end, stands_in, pieces_in, is_small_or_ephemeral}
use Rattle.clr_types.specs.Segments.{rest_pieces}
use Rattle.clr_types.specs.LawfulLayout.{IsLawfulSegment, DoesNotCross}
use Rattle.clr_types.proofs.RisingLists.{all_at, in_cons}
use Rattle.clr_types.proofs.ChangedLists.{all_members, into_filter, out_of_filter, IsIn-map, append_left}
use Rattle.clr_types.proofs.ListMembers.{from-map, in_append, append_right}
use Rattle.clr_types.proofs.TilePieces.{IsTile, tile}
use Rattle.clr_types.proofs.Tilings.{tiles-append}
use Rattle.clr_types.proofs.Retiled.{refined, tiles-refined, out_of_refined, into_refined}
use Rattle.clr_types.proofs.SegmentFacts.{one_home, stands-between, between-stands, lawful_segment}
use Rattle.clr_model.specs.Machine.{Machine, Object}
use Rattle.clr_model.specs.Lookups.{pieces, object_piece, object_size}
use Rattle.clr_model.specs.Lawful.{IsLaid}
use Rattle.clr_model.specs.Sweep.{Survivor, survivor, survivors, survivor_piece}
use Rattle.clr_model.specs.Compaction.{Plug, plugs_of, Move, moved_by, survivors_in}
use Rattle.clr_model.specs.Slide.{slid_object}
use Rattle.clr_model.specs.Fitting.{is_older_item, older_items, Fit, fit_of, fitting_plugs, is_moved, fitted_layout}
use Rattle.clr_model.proofs.LawfulPieces.{HasHome, piece-home, piece-tile, object-in-pieces, segment-tiled}
use Rattle.clr_model.proofs.PlugsApart.{piece_of_move}
use Rattle.clr_model.proofs.Relaid.{piece-is, free-in-pieces, IsPieceOf, IsRefilled, relaid}
use Rattle.clr_model.proofs.CollectedPieces.{old-apart}
use Rattle.clr_model.proofs.CollectedFree.{into_parts}
use Rattle.clr_model.proofs.Landings.{AreGoing, Covers, IsCoveredBy, covered_by, goes_with, going_piece, fills}
use Rattle.clr_model.proofs.FitItems.{Filling, filling_pieces, IsFilling, AreFillings}
use Rattle.clr_model.proofs.FitFillings.{IsInItem, item-is, item-piece, item-of, same-filling, left-is, left-in}
pub use Rattle.clr_model.proofs.FitFillings.{moved-covers, covers-moved, unmoved-still, item-below, fillings, going}
pub use Rattle.clr_model.proofs.FitFillings.{lands-in}
use Rattle.clr_model.proofs.FitAfter.{IsVacated, vacated-is, other-is, free-is, free-in, lawful-placed, goers-distinct}
use Rattle.clr_model.proofs.FitAfter.{crossed}

module _ (m : Machine) (h : IsLaid m) (bare : rest_pieces m.layout.rests ≡ []) (keeps : ℕ → Bool) where
  abbrev kept : List Survivor
  kept = survivors m 1 keeps

  abbrev small : List Survivor
  small = survivors_in is_small_or_ephemeral m.layout kept

  abbrev cs : List Plug
  cs = fitting_plugs (plugs_of small)

  abbrev items : List Piece
  items = older_items m.layout

  abbrev F : Fit
  F = fit_of m.layout kept

  abbrev placed : Layout
  placed = fitted_layout m.layout kept F

  abbrev fit : AreFillings items F.moves F.left
  fit = fillings m h bare keeps

  abbrev fs : List Filling
  fs = fit.fillings

  abbrev moving : AreGoing m keeps small cs F.moves
  moving = going m h bare keeps

  abbrev others : List Piece
  others = filter (λ i. not (is_older_item m.layout i)) m.layout.free

  abbrev vacated : List Piece
  vacated = map survivor_piece (filter (λ k. is_moved F.moves k.place) kept)

  abbrev goers : List Object
  goers = map (slid_object F.moves) m.objects

  -- ---- a segment

  -- an older item, or another piece
  which : (b : Piece) → IsIn b (pieces m) → IsIn b items ⊎ (IsIn b items → ⊥)
  which b i = go (piece-is m bare b i)
    where
      by_age : IsIn b m.layout.free → (is_older_item m.layout b ≡ true) ⊎ (is_older_item m.layout b ≡ false)
          → IsIn b items ⊎ (IsIn b items → ⊥)
      by_age n (inl e) = inl (into_filter (is_older_item m.layout) m.layout.free e n)
      by_age n (inr e) = inr (λ k. both_ways (is_older_item m.layout b) e (item-is m h bare keeps b k).0)

      go : ((o : Object) × IsIn o m.objects × (b ≡ object_piece m.types o)) ⊎ IsIn b m.layout.free
          → IsIn b items ⊎ (IsIn b items → ⊥)
      go (inl (o, k, e)) = inr (λ n. old-apart m h bare keeps keeps [] [] o b k (item-is m h bare keeps b n).1
          (sym (ap (λ (p : Piece). p.place) e)))
      go (inr n) = by_age n (cases_Bool (is_older_item m.layout b))

  -- the objects of plugs in place of the plugs
  spread : (vs : List Move) → ((v : Move) → IsIn v vs → IsIn v F.moves) → List Piece
  spread [] known = []
  spread (v ∷ vs) known = (fills m h keeps small cs F.moves moving v (known v first)).pieces
      ++ spread vs (λ w i. known w (later i))

  spread-tiles : (vs : List Move) (known : (v : Move) → IsIn v vs → IsIn v F.moves) (rest : List Piece) (low high : ℕ)
      → Tiles low high (map piece_of_move vs ++ rest) → Tiles low high (spread vs known ++ rest)
  unfolding spread
  spread-tiles [] known rest low high t = t
  spread-tiles (v ∷ vs) known rest low high t =
      let filled = fills m h keeps small cs F.moves moving v (known v first) in
      subst (Tiles low high) (sym (append_assoc filled.pieces (spread vs (λ w i. known w (later i))) rest))
      (tiles-append low (v.to + v.size) high filled.pieces (spread vs (λ w i. known w (later i)) ++ rest)
      (subst (λ n. Tiles n (v.to + v.size) filled.pieces) t.0 filled.tiled)
      (spread-tiles vs (λ w i. known w (later i)) rest (v.to + v.size) high t.2))

  spread-is : (vs : List Move) (known : (v : Move) → IsIn v vs → IsIn v F.moves) (x : Piece) → IsIn x (spread vs known)
      → (o : Object) × IsIn o m.objects × (x ≡ going_piece m h keeps small cs F.moves moving o)
      × ((v : Move) × IsIn v vs × Covers v o.place)
  unfolding spread
  spread-is [] known x i = elim i [ ]
  spread-is (v ∷ vs) known x i =
      let filled = fills m h keeps small cs F.moves moving v (known v first) in
      elim (in_append filled.pieces i) [
        | inl j ↦ let (o, k, stays, cover, e) = filled.objects x j in (o, k, e, (v, first, cover))
        | inr j ↦ let (o, k, e, (w, n, c)) = spread-is vs (λ w i. known w (later i)) x j in (o, k, e, (w, later n, c))
      ]

  spread-in : (vs : List Move) (known : (v : Move) → IsIn v vs → IsIn v F.moves) (v : Move) → IsIn v vs → (o : Object)
      → IsIn o m.objects → Covers v o.place → IsIn (going_piece m h keeps small cs F.moves moving o) (spread vs known)
  unfolding spread
  spread-in [] known v i o k c = elim i [ ]
  spread-in (w ∷ vs) known v first o k c =
      append_left (spread vs (λ u j. known u (later j)))
      ((fills m h keeps small cs F.moves moving w (known w first)).all o k c)
  spread-in (w ∷ vs) known v (later i) o k c =
      append_right (fills m h keeps small cs F.moves moving w (known w first)).pieces
      (spread-in vs (λ u j. known u (later j)) v i o k c)

  filling-of : (b : Piece) → IsIn b items → (f : Filling) × IsIn f fs × (f.item ≡ b)
  filling-of b n =
      let (f, e, k) = from-map (λ (f : Filling). f.item) b fs (subst (IsIn b) (sym fit.items_are) n) in
      (f, k, sym e)

  contents : (f : Filling) → IsIn f fs → List Piece
  contents f n = spread f.moves (fit.moves_from f n) ++ f.rest

  -- an object of a plug that went into the item
  in_contents : (f : Filling) (n : IsIn f fs) (v : Move) → IsIn v f.moves → (o : Object) → IsIn o m.objects
      → Covers v o.place → IsIn (going_piece m h keeps small cs F.moves moving o) (contents f n)
  unfolding contents
  in_contents f n v i o k c = append_left f.rest (spread-in f.moves (fit.moves_from f n) v i o k c)

  -- what is left of it
  rest_in : (f : Filling) (n : IsIn f fs) (x : Piece) → IsIn x f.rest → IsIn x (contents f n)
  unfolding contents
  rest_in f n x i = append_right (spread f.moves (fit.moves_from f n)) i

  again : (f g : Filling) → g ≡ f → (n : IsIn f fs) (o : IsIn g fs) (x : Piece) → IsIn x (contents f n)
      → IsIn x (contents g o)
  unfolding contents
  again f g same n o x i = elim (in_append (spread f.moves (fit.moves_from f n)) i) [
    | inl j ↦
        let (q, k, e, (v, w, c)) = spread-is f.moves (fit.moves_from f n) x j in
        subst (λ y. IsIn y (contents g o)) (sym e)
        (in_contents g o v (subst (λ (z : Filling). IsIn v z.moves) (sym same) w) q k c)
    | inr j ↦ rest_in g o x (subst (λ (z : Filling). IsIn x z.rest) (sym same) j)
  ]

  left-of : (f : Filling) → IsIn f fs → (x : Piece) → IsIn x f.rest → IsIn x F.left
  left-of f n x i = subst (IsIn x) (sym fit.left_are) (into_parts (λ f. f.rest) f x fs n i)

  other-in : (b : Piece) → IsIn b m.layout.free → (IsIn b items → ⊥) → IsIn b others
  other-in b n away = into_filter (λ i. not (is_older_item m.layout i)) m.layout.free
      (go (cases_Bool (is_older_item m.layout b))) n
    where
      go : (is_older_item m.layout b ≡ true) ⊎ (is_older_item m.layout b ≡ false)
          → not (is_older_item m.layout b) ≡ true
      go (inl e) = absurd (away (into_filter (is_older_item m.layout) m.layout.free e n))
      go (inr e) = ap not e

  vacates : (o : Object) → IsIn o m.objects → is_moved F.moves o.place ≡ true
      → IsIn (object_piece m.types o) vacated
  vacates o k t =
      let (v, i, c) = moved-covers F.moves o.place t in
      let is : IsCoveredBy m h keeps small cs F.moves moving o v =
      covered_by m h keeps small cs F.moves moving o k v i c in
      IsIn-map survivor_piece {x = survivor m o}
      (into_filter (λ k. is_moved F.moves k.place) kept t (out_of_filter _ (survivor m o) kept is.survives).1)

  part_by : (b : Piece) → IsIn b items ⊎ (IsIn b items → ⊥) → List Piece
  part_by b (inl n) = contents (filling-of b n).0 (filling-of b n).1
  part_by b (inr away) = b ∷ []

  module _ (s : SegInfo) (known : IsIn s m.layout.segments) where
    abbrev olds : List Piece
    olds = pieces_in s (pieces m)

    old-is : (b : Piece) → IsIn b olds → (stands_in s b.place ≡ true) × IsIn b (pieces m)
    old-is b i = out_of_filter (λ (p : Piece). stands_in s p.place) b (pieces m) i

    parts_at : (b : Piece) → IsIn b olds → List Piece
    parts_at b i = part_by b (which b (old-is b i).1)

    more : List Piece
    more = refined olds parts_at

    more-tiles : Tiles (first_place s) s.end more
    unfolding more parts_at part_by contents
    more-tiles = tiles-refined (first_place s) s.end olds parts_at (segment-tiled m h s known)
        (λ b i. by b i (which b (old-is b i).1))
      where
        by : (b : Piece) → IsIn b olds → (w : IsIn b items ⊎ (IsIn b items → ⊥))
            → Tiles b.place (piece_end b) (part_by b w)
        by b i (inl n) =
            let (f, k, e) = filling-of b n in
            subst (λ (p : Piece). Tiles p.place (piece_end p) (contents f k)) e
            (spread-tiles f.moves (fit.moves_from f k) f.rest f.item.place (piece_end f.item)
            (all_at IsFilling k fit.filled))
        by b i (inr away) = (refl, (tile (first_place s) s.end olds b (segment-tiled m h s known) i).size, refl)

    more-is : (x : Piece) → IsIn x more → IsPieceOf m goers placed.free x
    unfolding more parts_at part_by contents
    more-is x i = let (b, j, k) = out_of_refined olds parts_at x i in by b (old-is b j).1 (which b (old-is b j).1) k
      where
        gone : (o : Object) → IsIn o m.objects → x ≡ object_piece m.types o
            → (is_moved F.moves o.place ≡ true) ⊎ (is_moved F.moves o.place ≡ false) → IsPieceOf m goers placed.free x
        gone o n e (inr t) = inl (
          slid_object F.moves o,
          IsIn-map (slid_object F.moves) n,
          e ∙ ap (λ p. record { place = p; size = object_size m.types o }) (sym (unmoved-still F.moves o.place t)),
        )
        gone o n e (inl t) = inr (free-in m h bare keeps x (inr (subst (λ p. IsIn p vacated) (sym e) (vacates o n t))))

        by : (b : Piece) → IsIn b (pieces m) → (w : IsIn b items ⊎ (IsIn b items → ⊥)) → IsIn x (part_by b w)
            → IsPieceOf m goers placed.free x
        by b n (inl old) k =
            let (f, o, e) = filling-of b old in
            elim (in_append (spread f.moves (fit.moves_from f o)) k) [
              | inl j ↦ let (q, present, is, c) = spread-is f.moves (fit.moves_from f o) x j in
                  inl (slid_object F.moves q, IsIn-map (slid_object F.moves) present, is)
              | inr j ↦ inr (free-in m h bare keeps x (inl (inr (left-of f o x j))))
            ]
        by b n (inr away) k = one_of (in_cons k)
          where
            one_of : (x ≡ b) ⊎ IsIn x [] → IsPieceOf m goers placed.free x
            one_of (inr k) = elim k [ ]
            one_of (inl same) = elim (piece-is m bare b n) [
              | inl (o, present, e) ↦ gone o present (same ∙ e) (cases_Bool (is_moved F.moves o.place))
              | inr free ↦ inr (free-in m h bare keeps x
                  (inl (inl (subst (λ p. IsIn p others) (sym same) (other-in b free away)))))
            ]

    -- an item with a piece in this segment is one of it
    item-here : (i : Piece) → IsIn i items → (x : ℕ) → i.place ≤ x → x < piece_end i → stands_in s x ≡ true
        → IsIn i olds
    item-here i n x low high stands =
        let home : HasHome m.layout i.place = piece-home m h i (item-piece m h bare keeps i n) in
        let is : IsTile (first_place home.home) home.home.end i =
        piece-tile m h i (item-piece m h bare keeps i n) home in
        let top : home.home.end ≤ reserved_end home.home =
        (lawful_segment m.layout h.layout home.home home.among).high in
        let end = is.high_end in let begin = home.low in
        let same : home.home ≡ s = one_home m.layout h.layout home.home s x home.among known
        (between-stands home.home x (omega arith) (omega arith)) stands in
        into_filter (λ (p : Piece). stands_in s p.place) (pieces m)
        (subst (λ (u : SegInfo). stands_in u i.place ≡ true) same home.stands) (item-piece m h bare keeps i n)

    -- what stands in a filling is among the pieces
    filled-in : (f : Filling) (n : IsIn f fs) (x : Piece) → IsIn x (contents f n) → IsIn f.item olds → IsIn x more
    unfolding more parts_at part_by
    filled-in f n x i here = into_refined olds parts_at f.item here x (by (which f.item (old-is f.item here).1))
      where
        by : (w : IsIn f.item items ⊎ (IsIn f.item items → ⊥)) → IsIn x (part_by f.item w)
        by (inr away) = absurd (away (item-of m h bare keeps f n))
        by (inl k) = go (filling-of f.item k)
          where
            go : (r : (g : Filling) × IsIn g fs × (g.item ≡ f.item)) → IsIn x (contents r.0 r.1)
            go (g, o, e) = again f g
                (sym (same-filling m h bare keeps f g n o (ap (λ (p : Piece). p.place) (sym e)))) n o x i

    -- another old piece is among the pieces
    other-stays : (b : Piece) → IsIn b olds → (IsIn b items → ⊥) → IsIn b more
    unfolding more parts_at part_by
    other-stays b i away = into_refined olds parts_at b i b (by (which b (old-is b i).1))
      where
        by : (w : IsIn b items ⊎ (IsIn b items → ⊥)) → IsIn b (part_by b w)
        by (inl n) = absurd (away n)
        by (inr away) = first

    object-out : (o : Object) → IsIn o goers → stands_in s o.place ≡ true → IsIn (object_piece m.types o) more
    object-out o i stands =
        let (q, e, k) = from-map (slid_object F.moves) o m.objects i in
        by q k e (subst (λ (w : Object). stands_in s w.place ≡ true) e stands)
        (cases_Bool (is_moved F.moves q.place))
      where
        by : (q : Object) → IsIn q m.objects → o ≡ slid_object F.moves q
            → stands_in s (moved_by F.moves q.place) ≡ true
            → (is_moved F.moves q.place ≡ true) ⊎ (is_moved F.moves q.place ≡ false)
            → IsIn (object_piece m.types o) more
        by q k e at (inr t) =
            let still = unmoved-still F.moves q.place t in
            subst (λ p. IsIn p more)
            (sym (ap (object_piece m.types) e
            ∙ ap (λ n. record { place = n; size = object_size m.types q }) still))
            (other-stays (object_piece m.types q)
            (into_filter (λ (p : Piece). stands_in s p.place) (pieces m)
            (subst (λ n. stands_in s n ≡ true) still at) (object-in-pieces m h q k))
            (λ n. old-apart m h bare keeps keeps [] [] q (object_piece m.types q) k
            (item-is m h bare keeps (object_piece m.types q) n).1 refl))
        by q k e at (inl t) =
            let (v, n, c) = moved-covers F.moves q.place t in
            let to = goes_with m h keeps small cs F.moves moving v n q.place c in
            let (f, o', w) = fit.moves_into v n in
            let a : IsTile f.item.place (piece_end f.item) (piece_of_move v) =
            tile f.item.place (piece_end f.item) (filling_pieces f) (piece_of_move v)
            (all_at IsFilling o' fit.filled) (append_left f.rest (IsIn-map piece_of_move w)) in
            let low = a.low_gap in let high = a.high_end in let (c0, c1) = c in
            subst (λ p. IsIn p more) (sym (ap (object_piece m.types) e))
            (filled-in f o' (going_piece m h keeps small cs F.moves moving q)
            (in_contents f o' v w q k c)
            (item-here f.item (item-of m h bare keeps f o') (moved_by F.moves q.place) (omega arith) (omega arith) at))

    free-out : (f : Piece) → IsIn f placed.free → stands_in s f.place ≡ true → IsIn f more
    free-out f i stands = go (free-is m h bare keeps f i)
      where
        go : (IsIn f others ⊎ IsIn f F.left) ⊎ IsIn f vacated → IsIn f more
        go (inl (inl j)) =
            let (free, away) = other-is m h bare keeps f j in
            other-stays f
            (into_filter (λ (p : Piece). stands_in s p.place) (pieces m) stands (free-in-pieces m f free)) away
        go (inl (inr j)) =
            let (g, n, k) = left-is m h bare keeps f j in
            let a : IsTile g.item.place (piece_end g.item) f =
            tile g.item.place (piece_end g.item) (filling_pieces g) f (all_at IsFilling n fit.filled)
            (append_right (map piece_of_move g.moves) k) in
            let low = a.low_gap in let high = a.high_end in let (z, z') = a.size in
            filled-in g n f (rest_in g n f k)
            (item-here g.item (item-of m h bare keeps g n) f.place (omega arith) (omega arith) stands)
        go (inr j) =
            let is : IsVacated m h bare keeps f = vacated-is m h bare keeps f j in
            other-stays f
            (into_filter (λ (p : Piece). stands_in s p.place) (pieces m) stands
            (subst (λ p. IsIn p (pieces m)) (sym is.is) (object-in-pieces m h is.object is.present)))
            (λ n. old-apart m h bare keeps keeps [] [] is.object f is.present (item-is m h bare keeps f n).1
            (sym (ap (λ (p : Piece). p.place) is.is)))

    refilled : IsRefilled m s s.end goers placed.free
    refilled =
        let is : IsLawfulSegment s = lawful_segment m.layout h.layout s known in
        record {
          cut = first_place s;
          more = more;
          low = omega arith;
          high = is.low;
          whole = all_members (DoesNotCross (first_place s)) (pieces_in s (pieces m))
              (λ x i. inl (stands-between s x.place (old-is x i).0).0);
          tiled = more-tiles;
          ended = is.high;
          old_in = λ x i stands l. let (a, b) = stands-between s x.place stands in absurd (omega arith);
          more_in = more-is;
          object_out = λ o i stands. inr (object-out o i stands);
          free_out = λ f i stands. inr (free-out f i stands);
          cross = λ o f i j stands e. let (q, is, k) = from-map (slid_object F.moves) o m.objects i in
              crossed m h bare keeps q k f j (ap (λ (w : Object). w.place) (sym is) ∙ e);
        }

  -- ---- the whole

  item-home : (x : Piece) → IsInItem items x
      → (t : SegInfo) × IsIn t m.layout.segments × (stands_in t x.place ≡ true)
  item-home x is =
      let home : HasHome m.layout is.item.place = piece-home m h is.item (item-piece m h bare keeps is.item is.among) in
      let at : IsTile (first_place home.home) home.home.end is.item =
      piece-tile m h is.item (item-piece m h bare keeps is.item is.among) home in
      let top : home.home.end ≤ reserved_end home.home =
      (lawful_segment m.layout h.layout home.home home.among).high in
      let end = at.high_end in let begin = home.low in let low = is.low in let high = is.high in
      let (z, z') = is.size in
      (home.home, home.among, between-stands home.home x.place (omega arith) (omega arith))

  object-home : (o : Object) → IsIn o goers → (t : SegInfo) × IsIn t m.layout.segments × (stands_in t o.place ≡ true)
  object-home o i =
      let (q, e, k) = from-map (slid_object F.moves) o m.objects i in
      let (t, known, stands) = by q k (cases_Bool (is_moved F.moves q.place)) in
      (t, known, subst (λ (w : Object). stands_in t w.place ≡ true) (sym e) stands)
    where
      by : (q : Object) → IsIn q m.objects → (is_moved F.moves q.place ≡ true) ⊎ (is_moved F.moves q.place ≡ false)
          → (t : SegInfo) × IsIn t m.layout.segments × (stands_in t (moved_by F.moves q.place) ≡ true)
      by q k (inl t) = let (v, n, c, is) = lands-in m h bare keeps q k t in
          item-home (going_piece m h keeps small cs F.moves moving q) is
      by q k (inr t) =
          let home : HasHome m.layout q.place = piece-home m h (object_piece m.types q) (object-in-pieces m h q k) in (
            home.home,
            home.among,
            subst (λ n. stands_in home.home n ≡ true) (sym (unmoved-still F.moves q.place t)) home.stands,
          )

  free-home : (f : Piece) → IsIn f placed.free
      → (t : SegInfo) × IsIn t m.layout.segments × (stands_in t f.place ≡ true)
  free-home f i = go (free-is m h bare keeps f i)
    where
      old : IsIn f (pieces m) → (t : SegInfo) × IsIn t m.layout.segments × (stands_in t f.place ≡ true)
      old n = let home : HasHome m.layout f.place = piece-home m h f n in (home.home, home.among, home.stands)

      go : (IsIn f others ⊎ IsIn f F.left) ⊎ IsIn f vacated
          → (t : SegInfo) × IsIn t m.layout.segments × (stands_in t f.place ≡ true)
      go (inl (inl j)) = old (free-in-pieces m f (other-is m h bare keeps f j).0)
      go (inl (inr j)) = item-home f (left-in m h bare keeps f j)
      go (inr j) = let is : IsVacated m h bare keeps f = vacated-is m h bare keeps f j in
          old (subst (λ p. IsIn p (pieces m)) (sym is.is) (object-in-pieces m h is.object is.present))

  abbrev next : Machine
  next = record m { objects = goers; layout = placed }

  crosses : (x : Piece) → IsIn x (pieces next)
      → DoesNotCross m.layout.start1 x × DoesNotCross m.layout.start0 x
  crosses x i = go (piece-is next bare x i)
    where
      old : IsIn x (pieces m) → DoesNotCross m.layout.start1 x × DoesNotCross m.layout.start0 x
      old n = (all_at (DoesNotCross m.layout.start1) n h.whole1, all_at (DoesNotCross m.layout.start0) n h.whole0)

      below : (y : Piece) → IsInItem items y → x ≡ y → DoesNotCross m.layout.start1 x × DoesNotCross m.layout.start0 x
      below y is e =
          let end = item-below m h bare keeps is.item is.among in let high = is.high in let up = h.layout.start1_high in
          let same : piece_end x ≡ piece_end y = ap piece_end e in
          (inr (omega arith), inr (omega arith))

      by_object : (q : Object) → IsIn q m.objects → x ≡ going_piece m h keeps small cs F.moves moving q
          → (is_moved F.moves q.place ≡ true) ⊎ (is_moved F.moves q.place ≡ false)
          → DoesNotCross m.layout.start1 x × DoesNotCross m.layout.start0 x
      by_object q k e (inl t) = let (v, n, c, is) = lands-in m h bare keeps q k t in
          below (going_piece m h keeps small cs F.moves moving q) is e
      by_object q k e (inr t) = old (subst (λ p. IsIn p (pieces m))
          (sym (e ∙ ap (λ n. record { place = n; size = object_size m.types q }) (unmoved-still F.moves q.place t)))
          (object-in-pieces m h q k))

      by_free : (IsIn x others ⊎ IsIn x F.left) ⊎ IsIn x vacated
          → DoesNotCross m.layout.start1 x × DoesNotCross m.layout.start0 x
      by_free (inl (inl j)) = old (free-in-pieces m x (other-is m h bare keeps x j).0)
      by_free (inl (inr j)) = below x (left-in m h bare keeps x j) refl
      by_free (inr j) = let is : IsVacated m h bare keeps x = vacated-is m h bare keeps x j in
          old (subst (λ p. IsIn p (pieces m)) (sym is.is) (object-in-pieces m h is.object is.present))

      go : ((o : Object) × IsIn o goers × (x ≡ object_piece m.types o)) ⊎ IsIn x placed.free
          → DoesNotCross m.layout.start1 x × DoesNotCross m.layout.start0 x
      go (inl (o, j, e)) =
          let (q, is, k) = from-map (slid_object F.moves) o m.objects j in
          by_object q k (e ∙ ap (object_piece m.types) is) (cases_Bool (is_moved F.moves q.place))
      go (inr j) = by_free (free-is m h bare keeps x j)

  -- A fit leaves the memory as lawful.
  pub fit_laid : IsLaid (record m {
    objects = map (slid_object (fit_of m.layout (survivors m 1 keeps)).moves) m.objects;
    layout = fitted_layout m.layout (survivors m 1 keeps) (fit_of m.layout (survivors m 1 keeps));
  })
  fit_laid =
      relaid m h goers placed (lawful-placed m h bare keeps) bare (goers-distinct m h bare keeps)
      (λ t i. record { old = t; among = i; base = refl; reserved = refl; kind = refl; refilled = refilled t i })
      object-home free-home crosses
