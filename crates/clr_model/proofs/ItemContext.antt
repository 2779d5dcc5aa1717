-- A context that is given up, and one that is taken from a free item, keep a machine lawful.
use Rattle.std.proofs.Common.{◌≡◌, ℕ, ◌+◌, ◌-◌, ◌<◌, ◌≤◌, List, ◌∷◌, ◌++◌, map, length, refl, sym, ap, subst, ◌∙◌}
use Rattle.std.proofs.Common.{arith, Bool, true, false, if◌then◌else◌, ◌==◌, ◌||◌, nat_le, slice_set, Option, Some}
use Rattle.std.proofs.Common.{None, IsSome, append_assoc}
use Rattle.std.specs.List.{AllByRecursion}
use Rattle.std.proofs.lemmas.Bool.{leb-true, le-leb, eq-eqb, and_parts}
use Rattle.clr_types.specs.Rising.{IsIn, IsRisingBy}
use Rattle.clr_types.specs.Ranges.{Piece, fits, range_piece, by_place, IsLawfulSize}
use Rattle.clr_types.specs.Segments.{Layout, first_place, stands_in, segment_of, ephemeral, generation, rest_pieces}
use Rattle.clr_types.specs.Segments.{rest_of}
use Rattle.clr_types.specs.LawfulLayout.{IsLawfulLayout, IsTiled, DoesNotCross}
use Rattle.clr_types.proofs.SortedLists.{IsDistinctBy, sorted_by-rises}
use Rattle.clr_types.proofs.ChangedLists.{length-slice_set, rising-distinct}
use Rattle.clr_types.proofs.ListMembers.{distinct_of_sorted, distinct_left, distinct_right}
use Rattle.clr_types.proofs.TilePieces.{IsTile}
use Rattle.clr_types.proofs.Shuffles.{IsShuffled, under, followed, shuffled-sym, shuffled-left, shuffled-right}
use Rattle.clr_types.proofs.Shuffles.{shuffled-sorted, shuffled-sorts, shuffled-behind, shuffled-turn}
use Rattle.clr_types.proofs.Shuffles.{shuffled-distinct}
use Rattle.clr_model.specs.Machine.{Machine}
use Rattle.clr_model.specs.Lookups.{is_thread, is_step, step_of, pieces, object_piece}
use Rattle.clr_model.specs.Updates.{given_up, option_piece, pieces_of_option}
use Rattle.clr_model.specs.Allocation.{is_young_item, want, from_item, with_layout}
use Rattle.clr_model.specs.Lawful.{IsLawful, IsLaid}
use Rattle.clr_model.proofs.LawfulPieces.{HasHome, piece-home, piece-tile, pieces-distinct, free-in-pieces}
use Rattle.clr_model.proofs.LawfulPieces.{free-apart}
use Rattle.clr_model.proofs.RestLists.{HasRest, rest-at, all-rests, HasItem, item-at, taken-rises}
use Rattle.clr_model.proofs.SplitPieces.{unsorted_pieces, FillSegments, front_piece, back_pieces, split_fills}
use Rattle.clr_model.proofs.ContextChange.{rest-entry, rest_of-put, rest_of-other, context-is, is-young, rooms_kept}
use Rattle.clr_model.proofs.ContextChange.{relaid_lawful}

-- pieces that fill the segments, with a lawful layout of those segments
pub laid_from : (m : Machine) (layout : Layout) → IsLawfulLayout layout
    → FillSegments layout (pieces (with_layout m layout)) → IsLaid (with_layout m layout)
laid_from m layout lawful f =
    record { layout = lawful; housed = f.housed; tiled = f.tiled; whole1 = f.whole1; whole0 = f.whole0 }

-- a size fits in itself, and where 24 bytes are left
pub fits-same : (size : ℕ) → fits size size ≡ true
fits-same size = ap (λ b. b || nat_le (size + 24) size) (eq-eqb size size refl)

pub fits-more : (size bytes : ℕ) → size + 24 ≤ bytes → fits size bytes ≡ true
fits-more size bytes l = go (size == bytes) (nat_le (size + 24) bytes) (le-leb (size + 24) bytes l)
  where
    go : (a b : Bool) → b ≡ true → (a || b) ≡ true
    go true b e = refl
    go false b e = e

-- the same segments and boundaries, with other free items and rests
pub same_segments : (layout : Layout) (free : List Piece) (rests : List (Option Piece)) → IsLawfulLayout layout
    → IsRisingBy (λ (p : Piece). p.place) free → length rests ≡ 16
    → IsLawfulLayout (record layout { free = free; rests = rests })
same_segments layout free rests h rise count = record {
  segments = h.segments;
  bounded = h.bounded;
  disjoint = h.disjoint;
  below_top = h.below_top;
  top_aligned = h.top_aligned;
  one_ephemeral = h.one_ephemeral;
  ephemeral_last = h.ephemeral_last;
  some_large = h.some_large;
  start1_low = h.start1_low;
  start1_high = h.start1_high;
  start0_high = h.start0_high;
  aligned = h.aligned;
  free_rise = rise;
  threads = count;
}

-- ---- the old context is given up

module _ (m : Machine) (h : IsLawful m) (t : ℕ) (thread : is_thread t ≡ true)
    (idle : is_step (step_of m t) ≡ false) where
  abbrev objects : List Piece
  objects = map (object_piece m.types) m.objects

  abbrev begun : Layout
  begun = given_up m.layout t

  rest : HasRest m.layout.rests (t - 1) (rest_of m.layout t)
  rest = rest-at m.layout.rests (t - 1) (rest_of m.layout t) (rest-entry m.layout t thread h.laid.layout.threads)

  given : List Piece
  given = m.layout.free ++ pieces_of_option (rest_of m.layout t)

  given-shuffled : IsShuffled (unsorted_pieces m)
      ((objects ++ by_place (m.layout.free ++ pieces_of_option (rest_of m.layout t))) ++ rest_pieces begun.rests)
  given-shuffled =
      let left = pieces_of_option (rest_of m.layout t) in
      let free = m.layout.free in
      followed (shuffled-right (objects ++ free) rest.was)
      (subst (λ ws. IsShuffled ws ((objects ++ by_place (free ++ left)) ++ rest_pieces begun.rests))
      (ap (λ ws. ws ++ rest.others) (sym (append_assoc objects free left))
      ∙ append_assoc (objects ++ free) left rest.others)
      (followed (shuffled-left rest.others
      (shuffled-right objects (shuffled-sorted (λ (p : Piece). p.place) (free ++ left))))
      (shuffled-right (objects ++ by_place (free ++ left)) (shuffled-sym (rest.put None)))))

  raw-distinct : IsDistinctBy (λ (p : Piece). p.place) (unsorted_pieces m)
  raw-distinct = distinct_of_sorted (λ (p : Piece). p.place) (unsorted_pieces m) (pieces-distinct m h.laid)

  -- the pieces are the same
  given-pieces : pieces m ≡ pieces (with_layout m begun)
  given-pieces = shuffled-sorts (λ (p : Piece). p.place) given-shuffled raw-distinct

  given-rises : IsRisingBy (λ (p : Piece). p.place) begun.free
  given-rises =
      let d = shuffled-distinct (λ (p : Piece). p.place) given-shuffled raw-distinct in
      sorted_by-rises (λ (p : Piece). p.place) (m.layout.free ++ pieces_of_option (rest_of m.layout t))
      (distinct_of_sorted (λ (p : Piece). p.place) (m.layout.free ++ pieces_of_option (rest_of m.layout t))
      (distinct_right (λ (p : Piece). p.place) objects begun.free
      (distinct_left (λ (p : Piece). p.place) (objects ++ begun.free) (rest_pieces begun.rests) d)))

  given-laid : IsLaid (with_layout m begun)
  given-laid = record {
    layout =
        same_segments m.layout begun.free begun.rests h.laid.layout given-rises
        (length-slice_set m.layout.rests (t - 1) None ∙ h.laid.layout.threads);
    housed = subst (AllByRecursion (λ (p : Piece). IsSome (segment_of m.layout p.place))) given-pieces h.laid.housed;
    tiled = subst (λ ps. AllByRecursion (IsTiled ps) m.layout.segments) given-pieces h.laid.tiled;
    whole1 = subst (AllByRecursion (DoesNotCross m.layout.start1)) given-pieces h.laid.whole1;
    whole0 = subst (AllByRecursion (DoesNotCross m.layout.start0)) given-pieces h.laid.whole0;
  }

  -- a thread that has begun nothing may give up its context
  pub given_up_lawful : IsLawful (with_layout m (given_up m.layout t))
  given_up_lawful =
      relaid_lawful m begun h given-laid
      (all-rests (λ (p : Piece). generation m.layout p.place ≡ 0) m.layout.rests (t - 1) None h.rests_young tt)
      h.suited h.limit
      (rooms_kept m begun t thread idle (rest_of-other m.layout t thread h.laid.layout.threads None) h.rooms)
      (λ o i. let same : generation begun o.place ≡ generation m.layout o.place = refl in omega arith)

  pub given_up-bare : rest_of (given_up m.layout t) t ≡ None
  given_up-bare = rest_of-put m.layout t thread h.laid.layout.threads None

-- ---- a new context

-- what a new context is to have is a lawful size, in which the wanted size fits
pub want-lawful : (size : ℕ) → IsLawfulSize size → IsLawfulSize (want size) × (fits size (want size) ≡ true)
want-lawful size lawful = go (nat_le (size + 24) 8192) refl
  where
    go : (b : Bool) → nat_le (size + 24) 8192 ≡ b
        → IsLawfulSize (if b then 8192 else size) × (fits size (if b then 8192 else size) ≡ true)
    go true e = ((omega arith, omega arith), fits-more size 8192 (leb-true (size + 24) 8192 e))
    go false e = (lawful, fits-same size)

module _ (m : Machine) (h : IsLawful m) (t : ℕ) (thread : is_thread t ≡ true) (idle : is_step (step_of m t) ≡ false)
    (bare : rest_of m.layout t ≡ None) where
  abbrev held : List Piece
  held = map (object_piece m.types) m.objects

  pub no-rest : HasRest m.layout.rests (t - 1) None
  no-rest =
      subst (HasRest m.layout.rests (t - 1)) bare
      (rest-at m.layout.rests (t - 1) (rest_of m.layout t) (rest-entry m.layout t thread h.laid.layout.threads))

  -- a new rest is one piece more
  pub new-rest : (place size : ℕ) → 0 < size
      → IsShuffled (rest_pieces (slice_set m.layout.rests (t - 1) (option_piece (range_piece place (place + size)))))
      (record { place = place; size = size } ∷ no-rest.others)
  new-rest place size some =
      subst (λ (o : Option Piece). IsShuffled
      (rest_pieces (slice_set m.layout.rests (t - 1) (option_piece (range_piece place (place + size)))))
      (pieces_of_option o ++ no-rest.others))
      (context-is place size some) (no-rest.put (option_piece (range_piece place (place + size))))

  pub young-rests : (layout : Layout) (place size : ℕ) → 0 < size → generation layout place ≡ 0
      → AllByRecursion (λ (p : Piece). generation layout p.place ≡ 0) (rest_pieces m.layout.rests)
      → AllByRecursion (λ (p : Piece). generation layout p.place ≡ 0)
      (rest_pieces (slice_set m.layout.rests (t - 1) (option_piece (range_piece place (place + size)))))
  young-rests layout place size some young all =
      all-rests (λ (p : Piece). generation layout p.place ≡ 0) m.layout.rests (t - 1)
      (option_piece (range_piece place (place + size))) all
      (subst (λ (o : Option Piece). AllByRecursion (λ (p : Piece). generation layout p.place ≡ 0)
      (pieces_of_option o)) (sym (context-is place size some)) (young, tt))

  pub other-rests : (new : Option Piece) (u : ℕ) → 1 ≤ u → (u ≡ t → ⊥)
      → rest_of (record m.layout { rests = slice_set m.layout.rests (t - 1) new }) u ≡ rest_of m.layout u
  other-rests = rest_of-other m.layout t thread h.laid.layout.threads

  -- ---- from a free item

  -- an item has a lawful size
  pub item-size : (item : Piece) → IsIn item m.layout.free → IsLawfulSize item.size
  item-size item i =
      let k : HasHome m.layout item.place = piece-home m h.laid item (free-in-pieces m h.laid item i) in
      let is : IsTile (first_place k.home) k.home.end item =
      piece-tile m h.laid item (free-in-pieces m h.laid item i) k in
      is.size

  module _ (item : Piece) (size : ℕ) (lawful : IsLawfulSize size) (room : fits size item.size ≡ true)
      (here : IsIn item m.layout.free) (young : is_young_item m.layout item ≡ true) where
    abbrev from : Layout
    from = from_item m.layout t item size

    some : 0 < size
    some = let (least, aligned) = lawful in omega arith

    raw-apart : IsDistinctBy (λ (p : Piece). p.place) (unsorted_pieces m)
    raw-apart = distinct_of_sorted (λ (p : Piece). p.place) (unsorted_pieces m) (pieces-distinct m h.laid)

    among : HasItem item size m.layout.free
    among =
        item-at item size m.layout.free
        (rising-distinct (λ (p : Piece). p.place) m.layout.free h.laid.layout.free_rise) here

    abbrev beside : List Piece
    beside = (held ++ among.others) ++ no-rest.others

    item-was : IsShuffled (unsorted_pieces m) (item ∷ beside)
    item-was =
        followed (shuffled-left (rest_pieces m.layout.rests)
        (followed (shuffled-right held among.was) (shuffled-sym (shuffled-behind item held among.others))))
        (under (shuffled-right (held ++ among.others) no-rest.was))

    item-now : IsShuffled ((held ++ from.free) ++ rest_pieces from.rests)
        (front_piece item size ∷ (back_pieces item size ++ beside))
    item-now =
        let back = back_pieces item size in
        subst (λ ws. IsShuffled ((held ++ from.free) ++ rest_pieces from.rests) (front_piece item size ∷ ws))
        (append_assoc back (held ++ among.others) no-rest.others)
        (followed (shuffled-left (rest_pieces from.rests)
        (followed (shuffled-right held among.taken) (shuffled-turn held back among.others)))
        (followed (shuffled-right (back ++ (held ++ among.others)) (new-rest item.place size some))
        (shuffled-sym (shuffled-behind (front_piece item size) (back ++ (held ++ among.others)) no-rest.others))))

    item-laid : IsLaid (with_layout m from)
    item-laid =
        laid_from m from
        (same_segments m.layout from.free from.rests h.laid.layout
        (taken-rises item.place size m.layout.free h.laid.layout.free_rise (free-apart m h.laid))
        (length-slice_set m.layout.rests (t - 1) (option_piece (range_piece item.place (item.place + size)))
        ∙ h.laid.layout.threads))
        (let f : FillSegments m.layout (pieces (with_layout m from)) = split_fills m h.laid item size lawful room
        beside ((held ++ from.free) ++ rest_pieces from.rests) item-was item-now in
        record { housed = f.housed; tiled = f.tiled; whole1 = f.whole1; whole0 = f.whole0 })

    -- a context from the front of a free item
    pub from_item_lawful : IsLawful (with_layout m (from_item m.layout t item size))
    from_item_lawful =
        let (stands, high) =
        and_parts (stands_in (ephemeral m.layout) item.place) (nat_le m.layout.start0 item.place) young in
        let gen = is-young m.layout item.place h.laid.layout.start1_high stands
        (leb-true m.layout.start0 item.place high) in
        relaid_lawful m from h item-laid (young-rests m.layout item.place size some gen h.rests_young) h.suited h.limit
        (rooms_kept m from t thread idle (other-rests (option_piece (range_piece item.place (item.place + size))))
        h.rooms)
        (λ o i. let same : generation from o.place ≡ generation m.layout o.place = refl in omega arith)

    pub from_item-rest : rest_of (from_item m.layout t item size) t ≡ Some (record { place = item.place; size = size })
    from_item-rest =
        rest_of-put m.layout t thread h.laid.layout.threads
        (option_piece (range_piece item.place (item.place + size))) ∙ context-is item.place size some
