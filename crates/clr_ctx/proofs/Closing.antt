-- A thread's context is given up: what was left of it becomes a free item.
use Rattle.std.proofs.Common.{◌≡◌, ◌⊎◌, inl, inr, ℕ, ◌+◌, ◌-◌, ◌%◌, ◌<◌, ◌≤◌, true, List, [], ◌∷◌, ◌++◌, length, get_or}
use Rattle.std.proofs.Common.{set, refl, ap, sym, ◌∙◌, subst, arith, filter, Option, None, Some}
use Rattle.std.proofs.lemmas.Bool.{cases_eq}
use Rattle.std.proofs.lemmas.List.{get_or-set_other, get_or-set_same}
use Rattle.clr_mem.specs.Words.{Memory}
use Rattle.clr_types.specs.Rising.{insert_by, IsRisingBy}
use Rattle.clr_types.specs.Types.{TypeRow, mt_of}
use Rattle.clr_types.specs.Ranges.{by_place, Piece, piece_end}
use Rattle.clr_types.specs.Segments.{rest_of}
use Rattle.clr_types.specs.declared.segment.SegKind.TheVariants.{Ephemeral}
use Rattle.clr_types.proofs.ChangedLists.{rising-sorted}
use Rattle.clr_heap.specs.Memories.{shapes, word_in}
use Rattle.clr_heap.specs.Parts.{Among, free_item, hole_from, item_part, Part, rest_part, start_of}
use Rattle.clr_heap.specs.View.{first_of, HeapView, IsHeap, last_of, parts_of, PartsAre, segment_at, sight, word_of}
use Rattle.clr_heap.proofs.Framing.{lawful_at}
use Rattle.clr_heap.proofs.Holes.{hole_among, HoleAt, part_bounds}
use Rattle.clr_heap.proofs.Placing.{boundary-aligned}
use Rattle.clr_heap.proofs.Spelling.{Among-bounds}
use Rattle.clr_heap.proofs.Swaps.{cut_at, CutAt, given_swap, hole_from-none}
use Rattle.clr_model.specs.Allocation.{is_young_item}
use Rattle.clr_model.specs.Updates.{given_up, pieces_of_option}
use Rattle.clr_view.specs.View.{free_among, free_in, IsHeld, layout_in}
use Rattle.clr_view.proofs.FreeHeads.{heads_one}
use Rattle.clr_view.proofs.Rises.{sorted-between}
use Rattle.clr_view.proofs.Tails.{IsEphemeral}
use Rattle.clr_ctx.specs.Contexts.{IsRelaid, young_items}
use Rattle.clr_items.proofs.Lists.{filter-put, place, put_between}
use Rattle.clr_ctx.proofs.Resting.{free_rises, heap_rested, others_rested, reserved_at, young_place}
use Rattle.clr_view.proofs.Swapping.{back, cells_now, free_is, free_was, front, heads_now, Swaps, walkable_now}
use Rattle.clr_ctx.proofs.Swapping.{clean_now, held_now, kept_now, objects_now, Rests}

-- what the words hold after the head of a free item was written where the rest was
pub record ClosesRest (h : HeapView) (i : ℕ) (r : Piece) (ms : List Memory) : Type 0 where
  pub had : get_or h.rests i None ≡ Some r
  pub shape : shapes ms ≡ shapes h.memories
  pub header : word_in ms (r.place - 8) ≡ 0
  pub mt : word_in ms r.place ≡ mt_of 0
  pub len : word_in ms (r.place + 8) ≡ r.size - 24
  pub words : (b : ℕ) → b % 8 ≡ 0 → (b + 8 < r.place) ⊎ (piece_end r ≤ b + 8) → word_in ms b ≡ word_of h b

-- no other thread's rest starts where this one's does
pub alone_at : (rows : List TypeRow) (h : HeapView) (i : ℕ) (r : Piece) → IsHeld rows h → i < length h.rests
    → get_or h.rests i None ≡ Some r → hole_from (set h.rests i None) r.place ≡ None
alone_at rows h i r held thread had = hole_from-none (set h.rests i None) r.place (λ j q e at. elim (cases_eq j i) [
  | inl same ↦
      let read : get_or (set h.rests i None) i None ≡ Some q =
      subst (λ n. get_or (set h.rests i None) n None ≡ Some q) same e in
      let clash : None ≡ Some q = sym (get_or-set_same h.rests i None None thread) ∙ read in
      absurd (cc)
  | inr other ↦ other (held.apart j i q r (sym (get_or-set_other h.rests i j None None other) ∙ e) had at)
])

-- where the rest of a context stands
pub record RestAt (rows : List TypeRow) (h : HeapView) (k : ℕ) (r : Piece) : Type 0 where
  pub among : Among (parts_of rows h k) (rest_part r.place (piece_end r))
  pub aligned : r.place % 8 ≡ 0
  pub whole : piece_end r % 8 ≡ 0
  pub least : 24 ≤ r.size
  pub low : first_of h k ≤ r.place
  pub high : piece_end r ≤ last_of h k
  pub most : r.size ≤ 1073741824

pub rest_at : (rows : List TypeRow) (h : HeapView) (k i : ℕ) (r : Piece) → IsHeap h → IsHeld rows h
    → k < length h.segments → (segment_at h k).kind ≡ Ephemeral → get_or h.rests i None ≡ Some r → RestAt rows h k r
rest_at rows h k i r heap held l young had =
    let s = sight rows h k in
    let ps = parts_of rows h k in
    let w = held.walkable k l in
    let m = rest_part r.place (piece_end r) in
    let among = (held.contexts i r had).among k l young in
    let hole : HoleAt s r.place (piece_end r) =
    hole_among s ps r.place (piece_end r) (first_of h k) (last_of h k) w.spelled among in
    let bounds = Among-bounds s ps m (first_of h k) (last_of h k) w.spelled among in
    let edges = part_bounds s ps m (first_of h k) (last_of h k) w.spelled among in
    let z = boundary-aligned s ps (first_of h k) (last_of h k) r.place w.start w.spelled edges.0 in
    let least = hole.least in
    let end = (lawful_at h k heap l).high in
    let one = reserved_at h.segments k l in
    let limit = heap.within_limit in
    let small = heap.limit_small in
    record {
      among = among;
      aligned = z.0;
      whole = hole.whole;
      least = omega arith;
      low = bounds.0;
      high = bounds.1;
      most = omega (arith, end, one, limit, small, bounds);
    }

module _ (rows : List TypeRow) (h : HeapView) (k i : ℕ) (r : Piece) (ms : List Memory) (heap : IsHeap h)
    (held : IsHeld rows h) (segment : IsEphemeral h k) (young : (segment_at h k).kind ≡ Ephemeral)
    (f : ClosesRest h i r ms) (thread : i < length h.rests) where
  abbrev pub closed : HeapView
  closed = record h { memories = ms; rests = set h.rests i None }

  abbrev low : ℕ
  low = r.place

  abbrev high : ℕ
  high = piece_end r

  abbrev m : Part
  m = rest_part low high

  abbrev n : Part
  n = item_part (free_item low (high - low))

  abbrev at : RestAt rows h k r
  at = rest_at rows h k i r heap held segment.in_range young f.had

  abbrev cut : CutAt (sight rows h k) (parts_of rows h k) m (first_of h k) (last_of h k)
  cut = cut_at (sight rows h k) (parts_of rows h k) m (first_of h k) (last_of h k)
      (held.walkable k segment.in_range).spelled at.among

  range_is : r ≡ record { place = low; size = high - low }
  range_is = let size : r.size ≡ high - low = omega arith in λ e. record { place = low; size = size e }

  new_here : PartsAre rows closed k (cut.below ++ ((n ∷ []) ++ cut.above))
  new_here =
      let least = at.least in
      let most = at.most in
      given_swap rows h k i ms (held.walkable k segment.in_range) young thread f.shape low high cut.below cut.above
      cut.low cut.high at.whole f.words (alone_at rows h i r held thread f.had)
      (f.had ∙ ap (λ (q : Piece). Some q) range_is) (omega arith) at.aligned (omega arith) f.mt (f.len ∙ omega arith)

  pub swaps : Swaps rows h closed k low high (m ∷ []) (n ∷ [])
  swaps =
      let up = at.low in
      let down = at.high in
      let end = (lawful_at h k heap segment.in_range).high in
      record {
        heap = heap;
        new_heap = heap_rested rows h k i ms None heap segment.in_range young f.shape;
        held = held;
        in_range = segment.in_range;
        count = refl;
        below = cut.below;
        above = cut.above;
        old_parts = cut.is;
        new_parts = new_here;
        low = λ x k'. (Among-bounds (sight rows h k) cut.below x (first_of h k) low cut.low k').1;
        high = λ x k'. (Among-bounds (sight rows h k) cut.above x high (last_of h k) cut.high k').0;
        others = others_rested rows h k i ms None heap segment.in_range young f.shape low high at.low (omega arith)
            f.words held.walkable;
        from = at.low;
        to = omega arith;
        words = f.words;
      }

  rests : Rests rows h closed k low high (m ∷ []) (n ∷ []) swaps i None
  rests = record {
    young = young;
    still_young = young;
    thread = thread;
    rests = refl;
    start0 = refl;
    tail = omega arith;
    gone = λ j q ne e k'. elim k' [ inl same ↦ ne (held.apart j i q r e f.had (ap start_of same)) | inr none ↦ none ];
    own = λ q e. absurd (cc);
    aged = λ q e. absurd (cc);
    clear = λ q e. absurd (cc);
    fresh = λ j q p ne e. absurd (cc);
  }

  held_closed : IsHeld rows closed
  held_closed = held_now rows h closed k low high (m ∷ []) (n ∷ []) swaps i None rests

  -- ---- the free items

  abbrev fs : List Piece
  fs = free_among (front rows h closed k low high (m ∷ []) (n ∷ []) swaps)

  abbrev bs : List Piece
  bs = free_among (back rows h closed k low high (m ∷ []) (n ∷ []) swaps)

  was : free_in rows h ≡ fs ++ bs
  was = free_was rows h closed k low high (m ∷ []) (n ∷ []) swaps

  is : free_in rows closed ≡ fs ++ r ∷ bs
  is = free_is rows h closed k low high (m ∷ []) (n ∷ []) swaps ∙ ap (λ (q : Piece). fs ++ q ∷ bs) (sym range_is)

  rising : IsRisingBy place (fs ++ r ∷ bs)
  rising = subst (IsRisingBy place) is
      (free_rises rows closed (walkable_now rows h closed k low high (m ∷ []) (n ∷ []) swaps) swaps.new_heap)

  free_closed : free_in rows closed ≡ by_place (free_in rows h ++ r ∷ [])
  free_closed = is ∙ sym (sorted-between place fs r bs rising)
      ∙ ap (λ (ps : List Piece). by_place (ps ++ r ∷ [])) (sym was)

  young_rest : is_young_item (layout_in rows h) r ≡ true
  young_rest =
      let down = at.high in
      let least = at.least in
      let end = (lawful_at h k heap segment.in_range).high in
      young_place rows h k heap held segment r at.low (omega arith) (held.contexts i r f.had).young

  -- the index has the rest as well
  pub young_closed : young_items (layout_in rows closed) ≡ insert_by place r (young_items (layout_in rows h))
  young_closed =
      let rises = free_rises rows h held.walkable heap in
      ap (filter (is_young_item (layout_in rows h))) (is ∙ sym (put_between fs r bs rising)
      ∙ ap (insert_by place r) (sym was))
      ∙ filter-put (is_young_item (layout_in rows h)) r (free_in rows h) (rising-sorted place (free_in rows h) rises)
      young_rest

  -- GIVING UP: the layout is the one of which the context was given up
  pub relaid_closed : (t : ℕ) → t - 1 ≡ i → rest_of (layout_in rows h) t ≡ Some r
      → IsRelaid rows h closed (given_up (layout_in rows h) t)
  relaid_closed t number rest = record {
    heap = swaps.new_heap;
    kept = kept_now rows h closed k low high (m ∷ []) (n ∷ []) swaps refl refl;
    objects = objects_now rows h closed k low high (m ∷ []) (n ∷ []) swaps refl refl;
    layout = λ e. record {
      segments = h.segments;
      start1 = h.start1;
      start0 = h.start0;
      free = (free_closed ∙ ap (λ (o : Option Piece). by_place (free_in rows h ++ pieces_of_option o)) (sym rest)) e;
      rests = set h.rests (sym number e) None;
      top = h.top;
    };
    cells = cells_now rows h closed k low high (m ∷ []) (n ∷ []) swaps refl;
    free_heads =
        heads_now rows h closed k low high (m ∷ []) (n ∷ []) swaps
        (heads_one (word_of closed) (free_item low (high - low)) (f.header, f.mt));
    clean = clean_now rows h closed k low high (m ∷ []) (n ∷ []) swaps i None rests refl refl;
    limit = refl;
    held = held_closed;
  }
