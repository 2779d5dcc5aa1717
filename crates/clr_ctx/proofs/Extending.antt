-- A context is opened behind the end of the ephemeral segment, which then ends past it: its words are clear.
use Rattle.std.proofs.Common.{◌≡◌, ◌≢◌, ◌⊎◌, inl, inr, ℕ, ◌+◌, ◌-◌, ◌%◌, ◌<◌, ◌≤◌, false, Bool, List, [], ◌∷◌, ◌++◌}
use Rattle.std.proofs.Common.{length, get_or, set, refl, ap, sym, ◌∙◌, subst, subst₂, arith, filter, Option, None, Some}
use Rattle.std.proofs.Common.{if◌then◌else◌, ◌&&◌, nat_le, length-set}
use Rattle.std.proofs.lemmas.Bool.{cases_eq, lt-ltb}
use Rattle.std.proofs.lemmas.List.{append-nil, get_or-set_other}
use Rattle.clr_mem.specs.Words.{Memory}
use Rattle.clr_types.specs.Rising.{changed_by}
use Rattle.clr_types.specs.Types.{TypeRow}
use Rattle.clr_types.specs.Ranges.{Piece, piece_end, range_piece}
use Rattle.clr_types.specs.Segments.{empty_segment, ended_at, ephemeral, first_place, reserved_end, same_kind}
use Rattle.clr_types.specs.Segments.{stands_in}
use Rattle.clr_types.specs.declared.segment.SegInfo.{SegInfo}
use Rattle.clr_types.specs.declared.segment.SegKind.TheVariants.{Ephemeral}
use Rattle.clr_heap.specs.Memories.{shapes, word_in}
use Rattle.clr_heap.specs.Parts.{hole_from, Part, rest_part}
use Rattle.clr_heap.specs.View.{first_of, frame, HeapView, holes_of, IsHeap, IsKept, last_of, parts_of, PartsAre}
use Rattle.clr_heap.specs.View.{segment_at, sight, word_of}
use Rattle.clr_heap.proofs.Changing.{kept_ended}
use Rattle.clr_heap.proofs.Ends.{ended_here}
use Rattle.clr_heap.proofs.Framing.{lawful_at}
use Rattle.clr_heap.proofs.Holes.{hole_at_end}
use Rattle.clr_heap.proofs.Spelling.{Among-bounds}
use Rattle.clr_heap.proofs.Staying.{outside_other, parts_stay}
use Rattle.clr_heap.proofs.Storing.{length-shapes, memory_index-shapes}
use Rattle.clr_heap.proofs.Swaps.{hole_from-none}
use Rattle.clr_model.specs.Allocation.{from_tail, is_young_item}
use Rattle.clr_model.specs.Updates.{option_piece}
use Rattle.clr_view.specs.View.{free_in, IsHeld, layout_in}
use Rattle.clr_view.proofs.FreeHeads.{heads_none}
use Rattle.clr_view.proofs.Tails.{ephemeral-ended, IsEphemeral, segments-ended}
use Rattle.clr_ctx.specs.Contexts.{IsRelaid, young_items}
use Rattle.clr_ctx.proofs.Closing.{rest_at}
use Rattle.clr_ctx.proofs.Resting.{between_some, heap_rested, other_kind}
use Rattle.clr_view.proofs.Swapping.{cells_now, free_is, free_was, heads_now, Swaps}
use Rattle.clr_ctx.proofs.Swapping.{clean_now, held_now, kept_now, objects_now, Rests, same_young}

-- what the words hold after those of the context were cleared
pub record ExtendsTail (h : HeapView) (low n : ℕ) (ms : List Memory) : Type 0 where
  pub shape : shapes ms ≡ shapes h.memories
  pub clear : (b : ℕ) → b % 8 ≡ 0 → low ≤ b + 8 → b + 8 < low + n → word_in ms b ≡ 0
  pub words : (b : ℕ) → b % 8 ≡ 0 → (b + 8 < low) ⊎ (low + n ≤ b + 8) → word_in ms b ≡ word_of h b

module _ (rows : List TypeRow) (h : HeapView) (k i n : ℕ) (ms : List Memory) (heap : IsHeap h) (held : IsHeld rows h)
    (segment : IsEphemeral h k) (young : (segment_at h k).kind ≡ Ephemeral) (f : ExtendsTail h (last_of h k) n ms)
    (thread : i < length h.rests)
    (had : get_or h.rests i None ≡ None) (least : 24 ≤ n) (aligned : n % 8 ≡ 0)
    (room : last_of h k + n ≤ reserved_end (segment_at h k)) (begun : h.start0 ≤ last_of h k) where
  abbrev low : ℕ
  low = last_of h k

  abbrev mid : ℕ
  mid = last_of h k + n

  abbrev r : Piece
  r = record { place = low; size = n }

  abbrev t : SegInfo
  t = ended_at mid (segment_at h k)

  abbrev pub extended : HeapView
  extended = record h { memories = ms; rests = set h.rests i (Some r); segments = set h.segments k t }

  -- the heap with its words alone
  abbrev wiped : HeapView
  wiped = record h { memories = ms }

  heap_wiped : IsHeap wiped
  heap_wiped = record {
    memories = f.shape ∙ heap.memories;
    segments = heap.segments;
    highest = heap.highest;
    disjoint = heap.disjoint;
    below_top = heap.below_top;
    one_ephemeral = heap.one_ephemeral;
    ephemeral_last = heap.ephemeral_last;
    top_aligned = heap.top_aligned;
    top_small = heap.top_small;
    within_limit = heap.within_limit;
    limit_small = heap.limit_small;
    threads = heap.threads;
  }

  heap_extended : IsHeap extended
  heap_extended =
      let rested = heap_rested rows h k i ms (Some r) heap segment.in_range young f.shape in
      let g : HeapView = record h { memories = ms; rests = set h.rests i (Some r) } in
      let here = lawful_at h k heap segment.in_range in
      let up = here.low in
      let z = here.aligned in
      let kept : IsKept g (first_place (ephemeral (frame g))) (reserved_end (ephemeral (frame g))) =
      record { heap = rested; low = refl; high = refl } in
      (kept_ended g k mid _ _ t kept segment.in_range refl (omega arith) room (omega arith)).heap

  wiped_words : (j : ℕ) → j < length h.segments → (b : ℕ) → b % 8 ≡ 0 → first_of h j ≤ b → b + 16 ≤ last_of h j
      → word_in ms b ≡ word_of h b
  wiped_words j l b z from to =
      let here = lawful_at h k heap segment.in_range in
      let up = here.low in
      let end = (lawful_at h j heap l).high in
      elim (cases_eq j k) [
        | inl same ↦ let last : last_of h j ≡ low = ap (last_of h) same in f.words b z (inl (omega arith))
        | inr ne ↦ f.words b z
            (elim (outside_other h j k b heap l segment.in_range ne (omega arith) (omega arith)) [
              | inl under ↦ inl
                  (omega arith)
              | inr over ↦ inr (omega arith)
            ])
      ]

  wiped_parts : (j : ℕ) → j < length h.segments → PartsAre rows wiped j (parts_of rows h j)
  wiped_parts j l = parts_stay rows h wiped j j (held.walkable j l) (record {
    first = refl;
    last = refl;
    words = wiped_words j l;
    holes = λ q up down. refl;
    held = λ b up down inside. rw (memory_index-shapes ms h.memories b f.shape, length-shapes ms h.memories f.shape)
        inside;
  })

  -- every other rest ends by the end of the segment
  rest_below : (j : ℕ) (q : Piece) → get_or h.rests j None ≡ Some q → q.place < low
  rest_below j q e =
      let at = rest_at rows h k j q heap held segment.in_range young e in
      let end = at.high in
      let size = at.least in
      omega arith

  new_here : PartsAre rows extended k (parts_of rows h k ++ (rest_part low mid ∷ []))
  new_here =
      let part = wiped_parts k segment.in_range in
      let rest = between_some low n (omega arith) in
      let P : Option Piece → List Part → Type 0 =
      λ o ps. PartsAre rows (record wiped { segments = set h.segments k t; rests = set h.rests i o }) k
      (ps ++ (rest_part low mid ∷ [])) in
      subst₂ P rest part.parts
      (hole_at_end rows wiped k i n heap_wiped segment.in_range part.walkable young thread had least aligned room
      (hole_from-none h.rests low (λ j q e same. let below = rest_below j q e in omega arith)))

  others : (j : ℕ) → j < length h.segments → j ≢ k → PartsAre rows extended j (parts_of rows h j)
  others j l ne =
      let same : get_or (set h.segments k t) j empty_segment ≡ get_or h.segments j empty_segment =
      get_or-set_other h.segments k j t empty_segment ne in
      let other : same_kind (segment_at h j).kind Ephemeral ≡ false =
      other_kind (segment_at h j).kind (λ e. ne (same_young h j k heap l segment.in_range e young)) in
      let none_old : holes_of h j ≡ [] = rw other refl in
      let none_new : holes_of extended j ≡ [] =
      ap (λ (s : SegInfo). if same_kind s.kind Ephemeral then set h.rests i (Some r) else []) same ∙ (rw other refl) in
      parts_stay rows h extended j j (held.walkable j l) (record {
        first = ap first_place same;
        last = ap (λ (s : SegInfo). s.end) same;
        words = wiped_words j l;
        holes = λ q up down. ap (λ (hs : List (Option Piece)). hole_from hs q) (none_new ∙ sym none_old);
        held = λ b up down inside. rw (memory_index-shapes ms h.memories b f.shape, length-shapes ms h.memories f.shape)
            inside;
      })

  here_now : segment_at extended k ≡ t
  here_now = ended_here h k mid segment.in_range

  pub swaps : Swaps rows h extended k low mid [] (rest_part low mid ∷ [])
  swaps =
      let here = lawful_at h k heap segment.in_range in
      let w = held.walkable k segment.in_range in
      record {
        heap = heap;
        new_heap = heap_extended;
        held = held;
        in_range = segment.in_range;
        count = length-set h.segments k t;
        below = parts_of rows h k;
        above = [];
        old_parts = sym (append-nil (parts_of rows h k));
        new_parts = new_here;
        low = λ y j. (Among-bounds (sight rows h k) (parts_of rows h k) y (first_of h k) low w.spelled j).1;
        high = λ y none. absurd none;
        others = others;
        from = here.low;
        to = room;
        words = f.words;
      }

  end_is : (ephemeral (frame h)).end ≡ low
  end_is = ap (λ (s : SegInfo). s.end) (sym segment.is)

  rests : Rests rows h extended k low mid [] (rest_part low mid ∷ []) swaps i (Some r)
  rests = record {
    young = young;
    still_young = ap (λ (s : SegInfo). s.kind) here_now ∙ young;
    thread = thread;
    rests = refl;
    start0 = refl;
    tail = let end = ap (λ (s : SegInfo). s.end) (ephemeral-ended h k heap segment mid) in let was = end_is in
        omega (arith, end, was);
    gone = λ j q ne e none. none;
    own = λ q e. let same : r ≡ q = cc in inl (ap (λ (s : Piece). rest_part s.place (piece_end s)) (sym same));
    aged = λ q e. let same : r ≡ q = cc in subst (λ (s : Piece). h.start0 ≤ s.place) same begun;
    clear = λ q e b z lo hi.
        let same : r ≡ q = cc in
        let P : Piece → Type 0 = λ s. (s.place ≤ b + 8) × (b + 8 < piece_end s) in
        let range : P r = subst P (sym same) (lo, hi) in
        f.clear b z range.0 range.1;
    fresh = λ j q s ne e other same.
        let is : r ≡ q = cc in
        let place : s.place ≡ low = sym same ∙ ap (λ (y : Piece). y.place) (sym is) in
        let below = rest_below j s other in
        omega arith;
  }

  held_extended : IsHeld rows extended
  held_extended = held_now rows h extended k low mid [] (rest_part low mid ∷ []) swaps i (Some r) rests

  free_extended : free_in rows extended ≡ free_in rows h
  free_extended = free_is rows h extended k low mid [] (rest_part low mid ∷ []) swaps
      ∙ sym (free_was rows h extended k low mid [] (rest_part low mid ∷ []) swaps)

  -- the index stays
  pub young_extended : young_items (layout_in rows extended) ≡ young_items (layout_in rows h)
  young_extended =
      ap (filter (is_young_item (layout_in rows extended))) free_extended
      ∙ ap (λ (s : SegInfo). filter (λ (p : Piece). stands_in s p.place && nat_le h.start0 p.place) (free_in rows h))
      (ephemeral-ended h k heap segment mid)

  option_is : option_piece (range_piece low mid) ≡ Some r
  option_is =
      let some = lt-ltb low mid (omega arith) in
      let size : mid - low ≡ n = omega arith in
      ap (λ (b : Bool). option_piece (if b then record { place = low; size = mid - low } ∷ [] else [])) some
      ∙ ap (λ (b : ℕ). Some (record { place = low; size = b })) size

  segments_are : set h.segments k t
      ≡ changed_by (λ s. s.base) (ephemeral (frame h)).base (ended_at ((ephemeral (frame h)).end + n)) h.segments
  segments_are =
      segments-ended h k heap segment mid
      ∙ ap (λ (e : ℕ). changed_by (λ (s : SegInfo). s.base) (ephemeral (frame h)).base (ended_at (e + n))
      h.segments) (sym end_is)

  rest_is_option : Some r ≡ option_piece (range_piece (ephemeral (frame h)).end ((ephemeral (frame h)).end + n))
  rest_is_option = sym option_is ∙ ap (λ (e : ℕ). option_piece (range_piece e (e + n))) (sym end_is)

  -- EXTENDING: the layout is the one with the context taken from the tail
  pub relaid_extended : (thread : ℕ) → thread - 1 ≡ i → IsRelaid rows h extended (from_tail (layout_in rows h) thread n)
  relaid_extended thread number = record {
    heap = heap_extended;
    kept = kept_now rows h extended k low mid [] (rest_part low mid ∷ []) swaps refl refl;
    objects = objects_now rows h extended k low mid [] (rest_part low mid ∷ []) swaps refl refl;
    layout = λ e. record {
      segments = segments_are e;
      start1 = h.start1;
      start0 = h.start0;
      free = free_extended e;
      rests = set h.rests (sym number e) (rest_is_option e);
      top = h.top;
    };
    cells = cells_now rows h extended k low mid [] (rest_part low mid ∷ []) swaps refl;
    free_heads = heads_now rows h extended k low mid [] (rest_part low mid ∷ []) swaps (heads_none (word_of extended));
    clean = clean_now rows h extended k low mid [] (rest_part low mid ∷ []) swaps i (Some r) rests refl refl;
    limit = refl;
    held = held_extended;
  }
