-- The layout that a sweep of a heap leaves is the one that the machine's sweep leaves.
use Rattle.std.proofs.Common.{◌≡◌, ℕ, zero, suc, ◌+◌, ◌%◌, ◌^◌, ◌<◌, ◌≤◌, ◌⊎◌, inl, inr, List, [], ◌∷◌, ◌++◌, map}
use Rattle.std.proofs.Common.{filter, length, get_or, refl, sym, ap, subst, ◌∙◌, arith, Bool, true, false, not}
use Rattle.std.proofs.Common.{if◌then◌else◌, ◌&&◌, ◌||◌, nat_le, min}
use Rattle.std.proofs.lemmas.Bool.{and_from, and_parts, both_ways, cases_lt, le-leb}
use Rattle.std.proofs.lemmas.List.{ext_get_or, get_or-map}
use Rattle.std.specs.List.{AllByRecursion, flat_map}
use Rattle.clr_types.specs.Rising.{IsIn, first, IsRisingBy, later}
use Rattle.clr_types.specs.Types.{TypeRow}
use Rattle.clr_types.specs.Ranges.{by_place, end_of_last, gaps, IsLawfulSize, Piece, piece_end}
use Rattle.clr_types.specs.Segments.{empty_segment, ended_at, ephemeral, first_place, is_small_or_ephemeral, Layout}
use Rattle.clr_types.specs.Segments.{reserved_end, reserved_sum, rest_pieces, same_kind, segment_or_empty, stands_in}
use Rattle.clr_types.specs.LawfulLayout.{AreDisjoint, IsLawfulLayout, IsLawfulSegment}
use Rattle.clr_types.specs.declared.item.Item.{Item}
use Rattle.clr_types.specs.declared.segment.SegInfo.{SegInfo}
use Rattle.clr_types.specs.declared.segment.SegKind.{SegKind}
use Rattle.clr_types.specs.declared.segment.SegKind.TheVariants.{Ephemeral, Large, Small, Pinned}
use Rattle.clr_types.proofs.ChangedLists.{all-map, append_left, into_filter, IsIn-map, out_of_filter}
use Rattle.clr_types.proofs.ListMembers.{any-from, any-in, append_right, filter-map, filter-rises, in_append}
use Rattle.clr_types.proofs.PieceGaps.{IsGapped}
use Rattle.clr_types.proofs.SegmentFacts.{between-stands, ephemerals-are, lawful_segment, one_home}
use Rattle.clr_types.proofs.SortedLists.{into_sorted_by, rising_agree_by}
use Rattle.clr_types.proofs.TilePieces.{IsTile, tile}
use Rattle.clr_heap.specs.Parts.{item_piece}
use Rattle.clr_heap.specs.View.{extents, frame, heap_items, HeapView, IsHeap, listing, listings, no_rests, segment_at}
use Rattle.clr_heap.proofs.Framing.{bases_same, reserved_same}
use Rattle.clr_model.specs.Lawful.{IsLaid}
use Rattle.clr_model.specs.Lookups.{object_piece, pieces}
use Rattle.clr_model.specs.Machine.{Machine}
use Rattle.clr_model.specs.Sweep.{has_condemned_part, is_in_part, old_sections, part_start, pieces_between, Section}
use Rattle.clr_model.specs.Sweep.{sections, Survivor, survivor_pieces, survivors, swept_end, swept_free, swept_small}
use Rattle.clr_model.specs.Sweep.{taking_part}
use Rattle.clr_model.proofs.CollectedFree.{after-is, from_part}
use Rattle.clr_model.proofs.CollectedLayout.{large_lawful, large-known, large-not_ephemeral, large-not_small}
use Rattle.clr_model.proofs.LawfulPieces.{piece-home}
use Rattle.clr_model.proofs.SweptLawful.{sweep_end, sweep_tiles}
use Rattle.clr_view.specs.View.{free_among, free_in, IsHeld, is_free, layout_in, tail_of}
use Rattle.clr_view.proofs.Listings.{free-append, heap-rise}
use Rattle.clr_view.specs.Memory.{TestsMarks}
use Rattle.clr_sweep.specs.Swept.{swept_layout}
use Rattle.clr_sweep.specs.SweptItems.{HasSweptItems}
use Rattle.clr_sweep.proofs.SurvivorsSwept.{at-in, end-is, gaps-are, part-start, seen}
use Rattle.clr_types.specs.Segments.{is_large_or_pinned}

-- ---- flat lists

into_part : {X Y : Type 0} (f : X → List Y) (xs : List X) (x : X) (y : Y) → IsIn x xs → IsIn y (f x)
    → IsIn y (flat_map f xs)
into_part f [] x y i j = elim i [ ]
into_part f (z ∷ xs) x y first j = append_left (flat_map f xs) j
into_part f (z ∷ xs) x y (later i) j = append_right (f z) (into_part f xs x y i j)

-- ---- kinds

small-takes : (k : SegKind) → (is_small_or_ephemeral k && (same_kind Ephemeral k || true)) ≡ is_small_or_ephemeral k
small-takes Small = refl
small-takes Ephemeral = refl
small-takes Large = refl
small-takes Pinned = refl

large-takes : (k : SegKind) → (is_large_or_pinned k && (same_kind Ephemeral k || true)) ≡ is_large_or_pinned k
large-takes Small = refl
large-takes Ephemeral = refl
large-takes Large = refl
large-takes Pinned = refl

other-small : (k : SegKind) → is_large_or_pinned k ≡ false → is_small_or_ephemeral k ≡ true
other-small Small e = refl
other-small Ephemeral e = refl
other-small Large e = absurd cc
other-small Pinned e = absurd cc

-- every segment takes part
pub part-taken : (k : SegKind) → (same_kind Ephemeral k || true) ≡ true
part-taken Small = refl
part-taken Ephemeral = refl
part-taken Large = refl
part-taken Pinned = refl

-- what a sweep makes of a segment that isn't the ephemeral one hangs on no boundary
same-free : (a b : Layout) (stay : List Survivor) (t : SegInfo) → same_kind Ephemeral t.kind ≡ false
    → swept_free a 2 stay t ≡ swept_free b 2 stay t
same-free a b stay t other =
    let end : swept_end a 2 stay t ≡ swept_end b 2 stay t = ap (λ n. end_of_last n (survivor_pieces t stay))
    (part-start a t ∙ sym (part-start b t)) in
    let parts : sections a 2 t ≡ sections b 2 t = one a ∙ sym (one b) in
    λ k. flat_map (λ (section : Section). gaps section.low (min section.high (end k))
    (pieces_between section.low section.high (survivor_pieces t stay))) (parts k)
  where
    one : (l : Layout) → sections l 2 t ≡ record { low = first_place t; high = t.end } ∷ []
    one l = ap (λ b. if b then old_sections l 2 t ++ (record { low = l.start0; high = t.end } ∷ []) else record {
      low = first_place t;
      high = t.end;
    } ∷ []) other

-- free items that rise have ranges that do
pub free-rise : (items : List Item) → IsRisingBy (λ (i : Item). i.place) items
    → IsRisingBy (λ (p : Piece). p.place) (map item_piece items)
free-rise [] r = tt
free-rise (i ∷ items) r = (all-map item_piece (λ (p : Piece). i.place < p.place) items r.0, free-rise items r.1)

-- a segment of a list stands at an index of it
pub index-of : (ts : List SegInfo) (t : SegInfo) → IsIn t ts → (k : ℕ) × (k < length ts)
    × (t ≡ get_or ts k empty_segment)
index-of [] t i = elim i [ ]
index-of (u ∷ ts) t first = (0, omega arith, refl)
index-of (u ∷ ts) t (later i) = let (k, l, e) = index-of ts t i in (suc k, omega arith, e)

module _ (rows : List TypeRow) (old new : HeapView) (base : Machine) (swept : HasSweptItems rows old new)
    (heap : IsHeap old) (held : IsHeld rows old) (none : old.rests ≡ no_rests) (laid : IsLaid (seen rows old base))
    (kept : ℕ → Bool) (tests : TestsMarks rows old 2 kept) where
  abbrev m : Machine
  m = seen rows old base

  abbrev stay : List Survivor
  stay = survivors m 2 kept

  abbrev small : Layout
  small = swept_small m.layout 2 stay

  abbrev after : Layout
  after = swept_layout m.layout 2 stay

  abbrev fresh : SegInfo → List Piece
  fresh t = swept_free m.layout 2 stay t

  two : 2 ≤ 2
  two = omega arith

  lawful : IsLawfulLayout after
  lawful = large_lawful m laid kept [] small false (refl, refl)

  -- ---- segments

  abbrev change : SegInfo → SegInfo
  change t = ended_at (swept_end m.layout 2 stay t) t

  abbrev small_change : SegInfo → SegInfo
  small_change t = if is_small_or_ephemeral t.kind && has_condemned_part 2 t then record t {
    end = swept_end m.layout 2 stay t;
  } else t

  abbrev large_change : SegInfo → SegInfo
  large_change t =
      if is_large_or_pinned t.kind && has_condemned_part 2 t then record t { end = swept_end small 2 stay t }
      else t

  small_changed : (t : SegInfo) → small_change t ≡ (if is_small_or_ephemeral t.kind then change t else t)
  small_changed t = ap (λ b. if b then change t else t) (small-takes t.kind)

  large_changed : (t : SegInfo) → large_change t ≡ (if is_large_or_pinned t.kind then change t else t)
  large_changed t =
      ap (λ b. if b then record t { end = swept_end small 2 stay t } else t) (large-takes t.kind)
      ∙ (let start = part-start small t ∙ sym (part-start m.layout t) in
      λ k. if is_large_or_pinned t.kind then ended_at (end_of_last (start k) (survivor_pieces t stay)) t else t)

  large-same : (t : SegInfo) → is_large_or_pinned t.kind ≡ true → small_change t ≡ t
  large-same t e = small_changed t ∙ ap (λ b. if b then change t else t) (large-not_small t.kind e)

  both-changed : (t : SegInfo) → large_change (small_change t) ≡ change t
  both-changed t = go (is_large_or_pinned t.kind) refl
    where
      go : (b : Bool) → is_large_or_pinned t.kind ≡ b → large_change (small_change t) ≡ change t
      go true e = ap large_change (large-same t e) ∙ large_changed t ∙ ap (λ b. if b then change t else t) e
      go false e =
          let first_one : small_change t ≡ change t = small_changed t
          ∙ ap (λ b. if b then change t else t) (other-small t.kind e) in
          ap large_change first_one
          ∙ ap (λ b. if b && has_condemned_part 2 t then record t { end = swept_end small 2 stay (change t) }
          else change t) e

  same_count : (f : SegInfo → SegInfo) (ts : List SegInfo) → length (map f ts) ≡ length ts
  same_count f [] = refl
  same_count f (t ∷ ts) = ap suc (same_count f ts)

  map-twice : (ts : List SegInfo) → map large_change (map small_change ts) ≡ map change ts
  map-twice [] = refl
  map-twice (t ∷ ts) = let one = both-changed t in let rest = map-twice ts in λ k. one k ∷ rest k

  segments-are : new.segments ≡ map change old.segments
  segments-are =
      ext_get_or empty_segment new.segments (map change old.segments) (swept.count
      ∙ sym (same_count change old.segments))
      (λ k l.
      let inside : k < length old.segments = let c = swept.count in omega arith in
      swept.segments k inside
      ∙ ap (λ n. ended_at n (segment_at old k)) (end-is rows old base heap held none laid kept tests k inside)
      ∙ sym (get_or-map change old.segments k empty_segment empty_segment inside))

  -- each segment ends where the machine's sweep ends it
  pub segments_swept : new.segments ≡ after.segments
  segments_swept = segments-are ∙ sym (map-twice old.segments)

  -- ---- boundaries

  ephemeral-is : ephemeral (frame new) ≡ change (ephemeral m.layout)
  ephemeral-is =
      ap (λ ts. segment_or_empty (filter (λ (t : SegInfo). same_kind Ephemeral t.kind) ts)) segments-are
      ∙ ap segment_or_empty (filter-map change (λ (t : SegInfo). same_kind Ephemeral t.kind) old.segments)
      ∙ ap (λ ts. segment_or_empty (map change ts)) (ephemerals-are m.layout laid.layout)

  -- so does the ephemeral one, where generation 0 begins now
  pub tail_swept : tail_of new ≡ swept_end m.layout 2 stay (ephemeral m.layout)
  tail_swept = ap (λ (t : SegInfo). t.end) ephemeral-is

  pub start0_swept : new.start0 ≡ after.start0
  start0_swept = swept.start0 ∙ tail_swept

  pub start1_swept : new.start1 ≡ after.start1
  start1_swept = swept.start1 ∙ ap (λ n. min old.start0 n) tail_swept

  -- ---- the heap is one

  -- what holds of every heap holds of the swept one
  pub swept_heap : IsHeap new
  swept_heap =
      let top : new.top ≡ old.top = ap (λ (h : HeapView). h.top) swept.others in
      let limit : new.limit ≡ old.limit = ap (λ (h : HeapView). h.limit) swept.others in
      let rests : new.rests ≡ old.rests = ap (λ (h : HeapView). h.rests) swept.others in
      let reserved : reserved_sum (frame new) ≡ reserved_sum (frame old) =
      reserved_same old.segments new.segments (sym same_extents) in
      let within = heap.within_limit in
      record {
        memories = swept.memories ∙ heap.memories ∙ sym same_extents;
        segments = subst (AllByRecursion IsLawfulSegment) (sym segments_swept) lawful.segments;
        highest = bases_same (2 ^ 61) old.segments new.segments (sym same_extents) heap.highest;
        disjoint = subst AreDisjoint (sym segments_swept) lawful.disjoint;
        below_top = subst (λ n. AllByRecursion (λ (s : SegInfo). reserved_end s ≤ n) new.segments) (sym top)
            (subst (AllByRecursion (λ (s : SegInfo). reserved_end s ≤ old.top)) (sym segments_swept) lawful.below_top);
        one_ephemeral = ap (λ ts. length (filter (λ (t : SegInfo). same_kind Ephemeral t.kind) ts)) segments_swept
            ∙ lawful.one_ephemeral;
        ephemeral_last = subst IsHighest (sym segments_swept) lawful.ephemeral_last;
        top_aligned = ap (λ n. n % 4096) top ∙ heap.top_aligned;
        top_small = subst (λ n. n ≤ 2 ^ 61 + 2 ^ 30) (sym top) heap.top_small;
        within_limit = omega arith;
        limit_small = subst (λ n. n ≤ 1073741824) (sym limit) heap.limit_small;
        threads = ap length rests ∙ heap.threads;
      }
    where
      IsHighest : List SegInfo → Type 0
      IsHighest ts =
          AllByRecursion
          (λ (t : SegInfo). t.base ≤ (segment_or_empty (filter (λ (t : SegInfo). same_kind Ephemeral t.kind) ts)).base)
          (filter (λ (t : SegInfo). same_kind Small t.kind) ts)

      changed_extents : (ts : List SegInfo) → extents (map change ts) ≡ extents ts
      changed_extents [] = refl
      changed_extents (t ∷ ts) = ap (λ es. (t.base, t.reserved) ∷ es) (changed_extents ts)

      same_extents : extents new.segments ≡ extents old.segments
      same_extents = ap extents segments-are ∙ changed_extents old.segments

  -- ---- free items

  known-at : (k : ℕ) → k < length old.segments → IsIn (segment_at old k) old.segments
  known-at k l = at-in old.segments k empty_segment l

  -- the free items of the new heap are those that the sweep makes in each segment
  free-listed : (i n : ℕ) → i + n ≤ length old.segments → (p : Piece) → IsIn p (free_among (listings rows new i n))
      → (t : SegInfo) × IsIn t old.segments × IsIn p (fresh t)
  free-listed i zero l p m = elim m [ ]
  free-listed i (suc n) l p m =
      let inside : i < length old.segments = omega arith in
      let split : IsIn p (free_among (listing rows new i) ++ free_among (listings rows new (i + 1) n)) =
      subst (IsIn p) (free-append (listing rows new i) (listings rows new (i + 1) n)) m in
      go inside (in_append (free_among (listing rows new i)) split) (free-listed (i + 1) n (omega arith) p)
    where
      go : i < length old.segments → IsIn p (free_among (listing rows new i))
          ⊎ IsIn p (free_among (listings rows new (i + 1) n)) → (IsIn p (free_among (listings rows new (i + 1) n))
          → (t : SegInfo) × IsIn t old.segments × IsIn p (fresh t)) → (t : SegInfo) × IsIn t old.segments
          × IsIn p (fresh t)
      go inside (inl here) more = (
        segment_at old i,
        known-at i inside,
        subst (IsIn p) (ap free_among (swept.items i inside)
            ∙ gaps-are rows old base heap held none laid kept tests i inside) here,
      )
      go inside (inr there) more = more there

  listed-free : (i n : ℕ) → i + n ≤ length old.segments → (k : ℕ) → i ≤ k → k < i + n → (p : Piece)
      → IsIn p (fresh (segment_at old k)) → IsIn p (free_among (listings rows new i n))
  listed-free i zero l k low high p m = absurd (omega arith)
  listed-free i (suc n) l k low high p m =
      let inside : i < length old.segments = omega arith in
      let join = free-append (listing rows new i) (listings rows new (i + 1) n) in
      subst (IsIn p) (sym join) (go inside (cases_lt i k) (λ up. listed-free (i + 1) n (omega arith) k (omega arith)
      (omega arith) p m))
    where
      go : i < length old.segments → (i < k) ⊎ (k ≤ i) → (i < k → IsIn p (free_among (listings rows new (i + 1) n)))
          → IsIn p (free_among (listing rows new i) ++ free_among (listings rows new (i + 1) n))
      go inside (inl up) more = append_right (free_among (listing rows new i)) (more up)
      go inside (inr down) more =
          let at : k ≡ i = omega arith in
          let here : IsIn p (fresh (segment_at old i)) = subst (λ n. IsIn p (fresh (segment_at old n))) at m in
          append_left (free_among (listings rows new (i + 1) n))
          (subst (IsIn p) (sym (ap free_among (swept.items i inside)
          ∙ gaps-are rows old base heap held none laid kept tests i inside)) here)

  -- a new free item stands in its segment
  fresh-stands : (t : SegInfo) → IsIn t old.segments → (p : Piece) → IsIn p (fresh t) → stands_in t p.place ≡ true
  fresh-stands t known p i =
      let whole = survivor_pieces t stay ++ fresh t in
      let is : IsTile (part_start m.layout 2 t) (swept_end m.layout 2 stay t) p =
      tile (part_start m.layout 2 t) (swept_end m.layout 2 stay t) (by_place whole) p
      (sweep_tiles m laid 2 two kept t known) (into_sorted_by (λ (p : Piece). p.place) p whole
      (append_right (survivor_pieces t stay) i)) in
      let start : part_start m.layout 2 t ≡ first_place t = part-start m.layout t in
      let (a, b) = sweep_end m laid 2 two kept t known in
      let high : t.end ≤ reserved_end t = (lawful_segment m.layout laid.layout t known).high in
      let size : IsLawfulSize p.size = is.size in
      let low_gap : IsGapped (part_start m.layout 2 t) p.place = is.low_gap in
      let end : piece_end p ≤ swept_end m.layout 2 stay t = is.high_end in
      between-stands t p.place (omega arith) (omega arith)

  small-in : (t : SegInfo) → IsIn t old.segments → is_large_or_pinned t.kind ≡ true → IsIn t small.segments
  small-in t known e = subst (λ u. IsIn u small.segments) (large-same t e) (IsIn-map small_change known)

  in-small-part : (t : SegInfo) (p : Piece) → IsIn t old.segments → is_small_or_ephemeral t.kind ≡ true
      → stands_in t p.place ≡ true → first_place t ≤ p.place → is_in_part is_small_or_ephemeral m.layout 2 p ≡ true
  in-small-part t p known kind stands low =
      any-from (λ (s : SegInfo). is_small_or_ephemeral s.kind
      && (has_condemned_part 2 s && (stands_in s p.place && nat_le (part_start m.layout 2 s) p.place))) old.segments
      t known
      (and_from (is_small_or_ephemeral t.kind)
      (has_condemned_part 2 t && (stands_in t p.place && nat_le (part_start m.layout 2 t) p.place)) kind
      (and_from (has_condemned_part 2 t) (stands_in t p.place && nat_le (part_start m.layout 2 t) p.place)
      (part-taken t.kind)
      (and_from (stands_in t p.place) (nat_le (part_start m.layout 2 t) p.place) stands
      (le-leb (part_start m.layout 2 t) p.place (subst (λ n. n ≤ p.place) (sym (part-start m.layout t)) low)))))

  in-large-part : (t : SegInfo) (p : Piece) → IsIn t old.segments → is_large_or_pinned t.kind ≡ true
      → stands_in t p.place ≡ true → first_place t ≤ p.place → is_in_part (is_large_or_pinned) small 2 p ≡ true
  in-large-part t p known kind stands low =
      any-from (λ (s : SegInfo).
      is_large_or_pinned s.kind && (has_condemned_part 2 s && (stands_in s p.place && nat_le (part_start small 2 s)
      p.place))) small.segments t (small-in t known kind)
      (and_from (is_large_or_pinned t.kind)
      (has_condemned_part 2 t && (stands_in t p.place && nat_le (part_start small 2 t) p.place)) kind
      (and_from (has_condemned_part 2 t) (stands_in t p.place && nat_le (part_start small 2 t) p.place)
      (part-taken t.kind)
      (and_from (stands_in t p.place) (nat_le (part_start small 2 t) p.place) stands
      (le-leb (part_start small 2 t) p.place (subst (λ n. n ≤ p.place) (sym (part-start small t)) low)))))

  -- no old free item stands outside of the condemned parts
  old-gone : (p : Piece) → IsIn p m.layout.free → is_in_part is_small_or_ephemeral m.layout 2 p ≡ false
      → is_in_part (is_large_or_pinned) small 2 p ≡ false → ⊥
  old-gone p i not_small not_large =
      let among : IsIn p (pieces m) =
      into_sorted_by (λ (p : Piece). p.place) p ((map (object_piece rows) m.objects ++ m.layout.free)
      ++ rest_pieces m.layout.rests) (append_left (rest_pieces m.layout.rests)
      (append_right (map (object_piece rows) m.objects) i)) in
      let home = piece-home m laid p among in
      go home.home home.among home.stands home.low (is_large_or_pinned home.home.kind) refl
    where
      go : (t : SegInfo) → IsIn t old.segments → stands_in t p.place ≡ true → first_place t ≤ p.place → (b : Bool)
          → is_large_or_pinned t.kind ≡ b → ⊥
      go t known stands low true e = both_ways (is_in_part (is_large_or_pinned) small 2 p) not_large
          (in-large-part t p known e stands low)
      go t known stands low false e = both_ways (is_in_part is_small_or_ephemeral m.layout 2 p) not_small
          (in-small-part t p known (other-small t.kind e) stands low)

  abbrev fresh_small : List Piece
  fresh_small = flat_map (swept_free m.layout 2 stay) (taking_part is_small_or_ephemeral 2 m.layout)

  -- what the machine's sweep leaves free is new
  out-of-free : (p : Piece) → IsIn p after.free → (t : SegInfo) × IsIn t old.segments × IsIn p (fresh t)
  out-of-free p i =
      elim (after-is (is_large_or_pinned) small 2
      (flat_map (swept_free small 2 stay) (taking_part (is_large_or_pinned) 2 small)) p i) [
        | inl (not_large, j) ↦ from_small not_large j
        | inr j ↦ from_large j
      ]
    where
      from_small : is_in_part (is_large_or_pinned) small 2 p ≡ false → IsIn p small.free → (t : SegInfo)
          × IsIn t old.segments × IsIn p (fresh t)
      from_small not_large j =
          elim (after-is is_small_or_ephemeral m.layout 2
          (flat_map (swept_free m.layout 2 stay) (taking_part is_small_or_ephemeral 2 m.layout)) p j) [
            | inl (not_small, k) ↦ absurd (old-gone p k not_small not_large)
            | inr k ↦
                let (t, n, f) = from_part (swept_free m.layout 2 stay) (taking_part is_small_or_ephemeral 2 m.layout) p
                k in (
                  t,
                  (out_of_filter (λ (s : SegInfo). is_small_or_ephemeral s.kind && has_condemned_part 2 s) t
                      old.segments n).1,
                  f,
                )
          ]

      from_large : IsIn p (flat_map (swept_free small 2 stay) (taking_part (is_large_or_pinned) 2 small))
          → (t : SegInfo)
          × IsIn t old.segments × IsIn p (fresh t)
      from_large j =
          let (t, n, f) = from_part (swept_free small 2 stay) (taking_part (is_large_or_pinned) 2 small) p j in
          let (takes, known) = out_of_filter (λ (s : SegInfo). is_large_or_pinned s.kind && has_condemned_part 2 s) t
          small.segments n in
          let large : is_large_or_pinned t.kind ≡ true =
          (and_parts (is_large_or_pinned t.kind) (has_condemned_part 2 t) takes).0 in (
            t,
            large-known m laid 2 two kept [] small false (refl, refl) t known large,
            subst (IsIn p)
                (same-free small m.layout stay t (large-not_ephemeral t.kind large)) f,
          )

  -- and what is new is free
  into-free : (t : SegInfo) → IsIn t old.segments → (p : Piece) → IsIn p (fresh t) → IsIn p after.free
  into-free t known p i = go (is_large_or_pinned t.kind) refl
    where
      fresh_large : List Piece
      fresh_large = flat_map (swept_free small 2 stay) (taking_part (is_large_or_pinned) 2 small)

      others : List Piece
      others = filter (λ p. not (is_in_part (is_large_or_pinned) small 2 p)) small.free

      -- no large segment holds what is new in another one
      away : is_large_or_pinned t.kind ≡ false → (b : Bool) → is_in_part (is_large_or_pinned) small 2 p ≡ b
          → not b ≡ true
      away e false f = refl
      away e true f =
          let (u, j, passes) =
          any-in (λ (s : SegInfo).
          is_large_or_pinned s.kind && (has_condemned_part 2 s && (stands_in s p.place && nat_le (part_start small 2 s)
          p.place))) small.segments f in
          let (kind, rest) =
          and_parts (is_large_or_pinned u.kind)
          (has_condemned_part 2 u && (stands_in u p.place && nat_le (part_start small 2 u) p.place)) passes in
          let (condemned, at) = and_parts (has_condemned_part 2 u) (stands_in u p.place && nat_le (part_start small 2 u)
          p.place) rest in
          let (stands, above) = and_parts (stands_in u p.place) (nat_le (part_start small 2 u) p.place) at in
          let there = large-known m laid 2 two kept [] small false (refl, refl) u j kind in
          let same : u ≡ t = one_home m.layout laid.layout u t p.place there known stands (fresh-stands t known p i) in
          absurd (both_ways (is_large_or_pinned t.kind) e
          (subst (λ (v : SegInfo). is_large_or_pinned v.kind ≡ true) same
          kind))

      go : (b : Bool) → is_large_or_pinned t.kind ≡ b → IsIn p after.free
      go true e =
          into_sorted_by (λ (p : Piece). p.place) p (others ++ fresh_large) (append_right others
          (into_part (swept_free small 2 stay) (taking_part (is_large_or_pinned) 2 small) t p
          (into_filter (λ (s : SegInfo). is_large_or_pinned s.kind && has_condemned_part 2 s) small.segments
          (and_from (is_large_or_pinned t.kind) (has_condemned_part 2 t) e (part-taken t.kind)) (small-in t known e))
          (subst (IsIn p) (same-free m.layout small stay t (large-not_ephemeral t.kind e)) i)))
      go false e =
          let here : IsIn p small.free =
          into_sorted_by (λ (p : Piece). p.place) p (filter (λ p. not (is_in_part is_small_or_ephemeral m.layout 2 p))
          m.layout.free ++ fresh_small)
          (append_right (filter (λ p. not (is_in_part is_small_or_ephemeral m.layout 2 p)) m.layout.free)
          (into_part (swept_free m.layout 2 stay) (taking_part is_small_or_ephemeral 2 m.layout) t p
          (into_filter (λ (s : SegInfo). is_small_or_ephemeral s.kind && has_condemned_part 2 s) old.segments
          (and_from (is_small_or_ephemeral t.kind) (has_condemned_part 2 t) (other-small t.kind e)
          (part-taken t.kind)) known) i)) in
          into_sorted_by (λ (p : Piece). p.place) p (others ++ fresh_large)
          (append_left fresh_large (into_filter (λ p. not (is_in_part (is_large_or_pinned) small 2 p)) small.free
          (away e (is_in_part (is_large_or_pinned) small 2 p) refl) here))

  -- THE FREE ITEMS of the heap are those that the machine's sweep leaves
  pub free_swept : free_in rows new ≡ after.free
  free_swept =
      rising_agree_by (λ (p : Piece). p.place) (free_in rows new) after.free
      (free-rise (filter is_free (heap_items rows new)) (filter-rises is_free (λ (i : Item). i.place)
      (heap_items rows new) (heap-rise rows new swept.walkable swept_heap)))
      lawful.free_rise
      (λ p. (
        λ i. let (t, known, f) = free-listed 0 (length old.segments) (omega arith) p
            (subst (λ n. IsIn p (free_among (listings rows new 0 n))) swept.count i) in into-free t known p f,
        λ i. there p (out-of-free p i),
      ))
    where
      there : (p : Piece) → (t : SegInfo) × IsIn t old.segments × IsIn p (fresh t) → IsIn p (free_in rows new)
      there p (t, known, f) =
          let (k, l, at) = index-of old.segments t known in
          subst (λ n. IsIn p (free_among (listings rows new 0 n))) (sym swept.count)
          (listed-free 0 (length old.segments) (omega arith) k (omega arith) (omega arith) p
          (subst (λ u. IsIn p (fresh u)) at f))

  -- ---- the whole

  -- THE LAYOUT is the one that the machine's sweep leaves
  pub layout_swept : layout_in rows new ≡ after
  layout_swept =
      let rests : new.rests ≡ old.rests = ap (λ (h : HeapView). h.rests) swept.others in
      let top : new.top ≡ old.top = ap (λ (h : HeapView). h.top) swept.others in
      λ k. record {
        segments = segments_swept k;
        start1 = start1_swept k;
        start0 = start0_swept k;
        free = free_swept k;
        rests = rests k;
        top = top k;
      }
