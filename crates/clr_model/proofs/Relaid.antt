-- A machine whose segments are filled anew from some place on: its memory stays as lawful.
use Rattle.std.proofs.Common.{◌≡◌, ◌≢◌, ℕ, ◌+◌, ◌<◌, ◌≤◌, ◌⊎◌, inl, inr, List, [], ◌++◌, map, refl, sym, ap, subst, ◌∙◌}
use Rattle.std.proofs.Common.{arith, true, IsSome}
use Rattle.std.proofs.lemmas.List.{append-nil}
use Rattle.std.specs.List.{AllByRecursion}
use Rattle.clr_types.specs.Rising.{IsIn, IsRisingBy}
use Rattle.clr_types.specs.Ranges.{Piece, IsLawfulSize, Tiles}
use Rattle.clr_types.specs.declared.segment.SegInfo.{SegInfo}
use Rattle.clr_types.specs.Segments.{Layout, first_place, reserved_end, stands_in, pieces_in, segment_of, rest_pieces}
use Rattle.clr_types.specs.LawfulLayout.{IsLawfulLayout, IsTiled, DoesNotCross}
use Rattle.clr_types.proofs.SortedLists.{IsDistinctBy, into_sorted_by, out_of_sorted_by, sorted_by-rises}
use Rattle.clr_types.proofs.ChangedLists.{all_members, IsIn-map, append_left, into_filter, out_of_filter}
use Rattle.clr_types.proofs.ChangedLists.{rising-distinct}
use Rattle.clr_types.proofs.ListMembers.{from-map, in_append, append_right, distinct_append, distinct_map, filter-rises}
use Rattle.clr_types.proofs.SegmentFacts.{segment_of-home, stands-between, between-stands}
use Rattle.clr_types.proofs.TilePieces.{IsTile, tile}
use Rattle.clr_types.proofs.Retiled.{retiled}
use Rattle.clr_model.specs.Machine.{Machine, Object}
use Rattle.clr_model.specs.Lookups.{pieces, object_piece}
use Rattle.clr_model.specs.Lawful.{IsLaid}
use Rattle.clr_model.proofs.LawfulPieces.{segment-tiled}

-- a machine without rests, by what its pieces are
pub piece-is : (m : Machine) → rest_pieces m.layout.rests ≡ [] → (x : Piece) → IsIn x (pieces m)
    → ((o : Object) × IsIn o m.objects × (x ≡ object_piece m.types o)) ⊎ IsIn x m.layout.free
piece-is m bare x i = go (in_append (map (object_piece m.types) m.objects ++ m.layout.free)
    (out_of_sorted_by (λ (p : Piece). p.place) x
    ((map (object_piece m.types) m.objects ++ m.layout.free) ++ rest_pieces m.layout.rests) i))
  where
    none : IsIn x [] → ⊥
    none k = elim k [ ]

    inner : IsIn x (map (object_piece m.types) m.objects) ⊎ IsIn x m.layout.free
        → ((o : Object) × IsIn o m.objects × (x ≡ object_piece m.types o)) ⊎ IsIn x m.layout.free
    inner (inl j) = let (o, e, k) = from-map (object_piece m.types) x m.objects j in inl (o, k, e)
    inner (inr j) = inr j

    go : IsIn x (map (object_piece m.types) m.objects ++ m.layout.free) ⊎ IsIn x (rest_pieces m.layout.rests)
        → ((o : Object) × IsIn o m.objects × (x ≡ object_piece m.types o)) ⊎ IsIn x m.layout.free
    go (inl j) = inner (in_append (map (object_piece m.types) m.objects) j)
    go (inr j) = absurd (none (subst (IsIn x) bare j))

pub free-in-pieces : (m : Machine) (x : Piece) → IsIn x m.layout.free → IsIn x (pieces m)
free-in-pieces m x i =
    into_sorted_by (λ (p : Piece). p.place) x
    ((map (object_piece m.types) m.objects ++ m.layout.free) ++ rest_pieces m.layout.rests)
    (append_left (rest_pieces m.layout.rests) (append_right (map (object_piece m.types) m.objects) i))

-- an object's range, or a free item
abbrev pub IsPieceOf : Machine → List Object → List Piece → Piece → Type 0
IsPieceOf m objects free x = ((o : Object) × IsIn o objects × (x ≡ object_piece m.types o)) ⊎ IsIn x free

-- a segment with these objects and free items up to its new end: below the cut the old ones, and from there on these
pub record IsRefilled (m : Machine) (s : SegInfo) (end : ℕ) (objects : List Object) (free : List Piece) : Type 0 where
  pub cut : ℕ
  pub more : List Piece
  pub low : first_place s ≤ cut
  pub high : cut ≤ s.end
  pub whole : AllByRecursion (DoesNotCross cut) (pieces_in s (pieces m))
  pub tiled : Tiles cut end more
  pub ended : end ≤ reserved_end s
  pub old_in : (x : Piece) → IsIn x (pieces m) → stands_in s x.place ≡ true → x.place < cut → IsPieceOf m objects free x
  pub more_in : (x : Piece) → IsIn x more → IsPieceOf m objects free x
  pub object_out : (o : Object) → IsIn o objects → stands_in s o.place ≡ true
      → (IsIn (object_piece m.types o) (pieces m) × (o.place < cut)) ⊎ IsIn (object_piece m.types o) more
  pub free_out : (f : Piece) → IsIn f free → stands_in s f.place ≡ true
      → (IsIn f (pieces m) × (f.place < cut)) ⊎ IsIn f more
  pub cross : (o : Object) (f : Piece) → IsIn o objects → IsIn f free → stands_in s o.place ≡ true → o.place ≢ f.place

-- the same with other free items that agree in this segment
pub refilled_with : (m : Machine) (s : SegInfo) (end : ℕ) (objects : List Object) (free other : List Piece)
    → IsRefilled m s end objects free
    → ((f : Piece) → stands_in s f.place ≡ true → IsIn f free → IsIn f other)
    → ((f : Piece) → stands_in s f.place ≡ true → IsIn f other → IsIn f free) → IsRefilled m s end objects other
refilled_with m s end objects free other r to from = record {
  cut = r.cut;
  more = r.more;
  low = r.low;
  high = r.high;
  whole = r.whole;
  tiled = r.tiled;
  ended = r.ended;
  old_in = λ x i stands l. elim (r.old_in x i stands l) [ inl o ↦ inl o | inr j ↦ inr (to x stands j) ];
  more_in = λ x i. elim (r.more_in x i) [ inl o ↦ inl o | inr j ↦ inr (to x (inside x i) j) ];
  object_out = r.object_out;
  free_out = λ f i stands. r.free_out f (from f stands i) stands;
  cross = λ o f i j stands same. r.cross o f i (from f (subst (λ n. stands_in s n ≡ true) same stands) j) stands same;
}
  where
    inside : (x : Piece) → IsIn x r.more → stands_in s x.place ≡ true
    inside x i =
        let is : IsTile r.cut end x = tile r.cut end r.more x r.tiled i in
        let size : IsLawfulSize x.size = is.size in
        let gap = is.low_gap in let high = is.high_end in let top = r.ended in let low = r.low in
        between-stands s x.place (omega arith) (omega arith)

-- a segment of the new layout, and the old one with its place in memory
pub record WasSegment (m : Machine) (t : SegInfo) (objects : List Object) (free : List Piece) : Type 0 where
  pub old : SegInfo
  pub among : IsIn old m.layout.segments
  pub base : t.base ≡ old.base
  pub reserved : t.reserved ≡ old.reserved
  pub kind : t.kind ≡ old.kind
  pub refilled : IsRefilled m old t.end objects free

module _ (m : Machine) (h : IsLaid m) (objects : List Object) (new : Layout) (lawful : IsLawfulLayout new)
    (bare : rest_pieces new.rests ≡ [])
    (apart : IsDistinctBy (λ (o : Object). o.place) objects)
    (was : (t : SegInfo) → IsIn t new.segments → WasSegment m t objects new.free)
    (object_home : (o : Object) → IsIn o objects → (t : SegInfo) × IsIn t new.segments × (stands_in t o.place ≡ true))
    (free_home : (f : Piece) → IsIn f new.free → (t : SegInfo) × IsIn t new.segments × (stands_in t f.place ≡ true))
  where
    abbrev next : Machine
    next = record m { objects = objects; layout = new }

    -- a place stands in the new segment just where it stood in the old one
    stands-old : (t : SegInfo) (w : WasSegment m t objects new.free) (x : ℕ) → stands_in t x ≡ true
        → stands_in w.old x ≡ true
    stands-old t w x e =
        let (low, high) = stands-between t x e in
        let b = w.base in let r = w.reserved in
        between-stands w.old x (omega arith) (omega arith)

    stands-new : (t : SegInfo) (w : WasSegment m t objects new.free) (x : ℕ) → first_place w.old ≤ x
        → x < reserved_end w.old → stands_in t x ≡ true
    stands-new t w x low high = let b = w.base in let r = w.reserved in between-stands t x (omega arith) (omega arith)

    object_in : (o : Object) → IsIn o objects → IsIn (object_piece m.types o) (pieces next)
    object_in o i =
        into_sorted_by (λ (p : Piece). p.place) (object_piece m.types o)
        ((map (object_piece m.types) objects ++ new.free) ++ rest_pieces new.rests)
        (append_left (rest_pieces new.rests) (append_left new.free (IsIn-map (object_piece m.types) i)))

    all_in : (x : Piece) → IsPieceOf m objects new.free x → IsIn x (pieces next)
    all_in x (inl (o, i, e)) = subst (λ y. IsIn y (pieces next)) (sym e) (object_in o i)
    all_in x (inr i) = free-in-pieces next x i

    distinct : IsDistinctBy (λ (p : Piece). p.place)
        ((map (object_piece m.types) objects ++ new.free) ++ rest_pieces new.rests)
    distinct =
        subst (λ ps. IsDistinctBy (λ (p : Piece). p.place) ((map (object_piece m.types) objects ++ new.free) ++ ps))
        (sym bare)
        (subst (IsDistinctBy (λ (p : Piece). p.place))
        (sym (append-nil (map (object_piece m.types) objects ++ new.free)))
        (distinct_append (λ (p : Piece). p.place) (map (object_piece m.types) objects) new.free
        (distinct_map (object_piece m.types) (λ (p : Piece). p.place) objects apart)
        (rising-distinct (λ (p : Piece). p.place) new.free lawful.free_rise) crossed))
      where
        crossed : (x f : Piece) → IsIn x (map (object_piece m.types) objects) → IsIn f new.free → x.place ≢ f.place
        crossed x f i j e =
            let (o, is, k) = from-map (object_piece m.types) x objects i in
            let (t, among, stands) = object_home o k in
            let w : WasSegment m t objects new.free = was t among in
            w.refilled.cross o f k j (stands-old t w o.place stands) (ap (λ (p : Piece). p.place) (sym is) ∙ e)

    rises : (t : SegInfo) → IsRisingBy (λ (p : Piece). p.place) (pieces_in t (pieces next))
    rises t = filter-rises (λ (p : Piece). stands_in t p.place) (λ (p : Piece). p.place) (pieces next)
        (sorted_by-rises (λ (p : Piece). p.place)
        ((map (object_piece m.types) objects ++ new.free) ++ rest_pieces new.rests) distinct)

    -- the pieces afterwards fill each segment
    pub segment_tiled : (t : SegInfo) → IsIn t new.segments → IsTiled (pieces next) t
    segment_tiled t i =
        subst (λ n. Tiles n t.end (pieces_in t (pieces next))) (sym same_low)
        (retiled (first_place w.old) w.old.end r.cut t.end (pieces_in w.old (pieces m)) r.more
        (pieces_in t (pieces next)) (segment-tiled m h w.old w.among) r.whole r.low r.high r.tiled
        (rises t) old_in more_in out)
      where
        w : WasSegment m t objects new.free
        w = was t i

        r : IsRefilled m w.old t.end objects new.free
        r = w.refilled

        same_low : first_place t ≡ first_place w.old
        same_low = ap (λ n. n + 0x1000) w.base

        into : (x : Piece) → IsPieceOf m objects new.free x → stands_in t x.place ≡ true
            → IsIn x (pieces_in t (pieces next))
        into x is stands = into_filter (λ (p : Piece). stands_in t p.place) (pieces next) stands (all_in x is)

        old_in : (x : Piece) → IsIn x (pieces_in w.old (pieces m)) → x.place < r.cut
            → IsIn x (pieces_in t (pieces next))
        old_in x j k =
            let (e, n) = out_of_filter (λ (p : Piece). stands_in w.old p.place) x (pieces m) j in
            let (low, high) = stands-between w.old x.place e in
            into x (r.old_in x n e k) (stands-new t w x.place low high)

        more_in : (x : Piece) → IsIn x r.more → IsIn x (pieces_in t (pieces next))
        more_in x j =
            let is : IsTile r.cut t.end x = tile r.cut t.end r.more x r.tiled j in
            let size : IsLawfulSize x.size = is.size in
            let gap = is.low_gap in let end = is.high_end in let top = r.ended in let low = r.low in
            into x (r.more_in x j) (stands-new t w x.place (omega arith) (omega arith))

        out : (x : Piece) → IsIn x (pieces_in t (pieces next))
            → (IsIn x (pieces_in w.old (pieces m)) × (x.place < r.cut)) ⊎ IsIn x r.more
        out x j = let (e, n) = out_of_filter (λ (p : Piece). stands_in t p.place) x (pieces next) j in
            by (stands-old t w x.place e) (piece-is next bare x n)
          where
            filtered : stands_in w.old x.place ≡ true → (IsIn x (pieces m) × (x.place < r.cut)) ⊎ IsIn x r.more
                → (IsIn x (pieces_in w.old (pieces m)) × (x.place < r.cut)) ⊎ IsIn x r.more
            filtered e (inl (n, k)) = inl (into_filter (λ (p : Piece). stands_in w.old p.place) (pieces m) e n, k)
            filtered e (inr n) = inr n

            by : stands_in w.old x.place ≡ true → IsPieceOf m objects new.free x
                → (IsIn x (pieces_in w.old (pieces m)) × (x.place < r.cut)) ⊎ IsIn x r.more
            by e (inl (o, k, is)) =
                filtered e
                (subst (λ (y : Piece). (IsIn y (pieces m) × (y.place < r.cut)) ⊎ IsIn y r.more) (sym is)
                (r.object_out o k (subst (λ (y : Piece). stands_in w.old y.place ≡ true) is e)))
            by e (inr k) = filtered e (r.free_out x k e)

    pub homes : (x : Piece) → IsIn x (pieces next) → (t : SegInfo) × IsIn t new.segments × (stands_in t x.place ≡ true)
    homes x i = by (piece-is next bare x i)
      where
        by : IsPieceOf m objects new.free x → (t : SegInfo) × IsIn t new.segments × (stands_in t x.place ≡ true)
        by (inl (o, j, e)) = let (t, k, stands) = object_home o j in
            (t, k, subst (λ (y : Piece). stands_in t y.place ≡ true) (sym e) stands)
        by (inr j) = free_home x j

    -- the memory is as lawful, if no piece crosses a boundary
    pub relaid : ((x : Piece) → IsIn x (pieces next) → DoesNotCross new.start1 x × DoesNotCross new.start0 x)
        → IsLaid (record m { objects = objects; layout = new })
    relaid crosses = record {
      layout = lawful;
      housed = all_members (λ (p : Piece). IsSome (segment_of new p.place)) (pieces next)
          (λ x i. let (t, j, stands) = homes x i in
          subst (λ o. IsSome o) (sym (segment_of-home new lawful t x.place j stands)) refl);
      tiled = all_members (IsTiled (pieces next)) new.segments segment_tiled;
      whole1 = all_members (DoesNotCross new.start1) (pieces next) (λ x i. (crosses x i).0);
      whole0 = all_members (DoesNotCross new.start0) (pieces next) (λ x i. (crosses x i).1);
    }
