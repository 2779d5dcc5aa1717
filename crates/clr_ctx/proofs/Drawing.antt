-- A context is opened at the front of a free item of generation 0: its words are clear, and what is left of the item is
-- still free.
use Rattle.std.proofs.Common.{◌≡◌, ◌≢◌, ◌⊎◌, inl, inr, ℕ, ◌+◌, ◌-◌, ◌%◌, ◌<◌, ◌≤◌, true, Bool, List, [], ◌∷◌}
use Rattle.std.proofs.Common.{◌++◌, length, get_or, set, refl, ap, sym, ◌∙◌, subst, arith, filter, Option, None, Some}
use Rattle.std.proofs.Common.{if◌then◌else◌, nat_le}
use Rattle.std.proofs.lemmas.Bool.{and_parts, cases_eq, le-ltb, lt-ltb, ne_eqb, leb-true}
use Rattle.std.proofs.lemmas.List.{get_or-set_other, get_or-set_same}
use Rattle.std.proofs.lemmas.List.Elements.{filter-append}
use Rattle.clr_mem.specs.Words.{Memory}
use Rattle.clr_types.specs.Rising.{IsIn, IsRisingBy}
use Rattle.clr_types.specs.Types.{TypeRow, mt_of}
use Rattle.clr_types.specs.Ranges.{fits, Piece, piece_end, range_piece}
use Rattle.clr_types.specs.Segments.{ephemeral, stands_in}
use Rattle.clr_types.specs.declared.item.Item.{Item}
use Rattle.clr_types.specs.declared.segment.SegKind.TheVariants.{Ephemeral}
use Rattle.clr_heap.specs.Memories.{shapes, word_in}
use Rattle.clr_heap.specs.Parts.{Among, hole_from, item_part, items_in, Part, rest_part, Spells}
use Rattle.clr_heap.specs.View.{first_of, frame, HeapView, IsHeap, last_of, parts_of, PartsAre, segment_at, sight}
use Rattle.clr_heap.specs.View.{word_of}
use Rattle.clr_heap.proofs.Framing.{lawful_at}
use Rattle.clr_heap.proofs.Holes.{holes_young, part_bounds}
use Rattle.clr_heap.proofs.Placing.{boundary-aligned}
use Rattle.clr_heap.proofs.Spelling.{Among-bounds, item_size}
use Rattle.clr_heap.proofs.Swaps.{cut_at, CutAt, drawn_swap, free_parts, hole_from-none, hole_from-some}
use Rattle.clr_model.specs.Allocation.{from_item, is_young_item, taken_from}
use Rattle.clr_model.specs.Updates.{option_piece}
use Rattle.clr_view.specs.View.{free_among, free_in, HaveFreeHeads, IsHeld, is_object, layout_in}
use Rattle.clr_view.proofs.Carving.{left_free, left_heads, left_objects}
use Rattle.clr_view.proofs.Tails.{IsEphemeral}
use Rattle.clr_ctx.specs.Contexts.{IsRelaid, young_items}
use Rattle.clr_items.proofs.TakenItems.{filter-taken}
use Rattle.clr_items.proofs.Lists.{apart_around, place, taken-between}
use Rattle.clr_ctx.proofs.Resting.{free_rises, heap_rested, others_rested, young_item, YoungItem, young_place}
use Rattle.clr_ctx.proofs.Resting.{young_rises}
use Rattle.clr_view.proofs.Swapping.{back, cells_now, free_is, free_was, front, heads_now, Swaps}
use Rattle.clr_ctx.proofs.Swapping.{among_append, clean_now, held_now, kept_now, objects_now, Rests}

-- what the words hold after the head of what is left was written, and the words of the context were cleared
pub record DrawsItem (h : HeapView) (p : Piece) (n : ℕ) (ms : List Memory) : Type 0 where
  pub shape : shapes ms ≡ shapes h.memories
  pub clear : (b : ℕ) → b % 8 ≡ 0 → p.place ≤ b + 8 → b + 8 < p.place + n → word_in ms b ≡ 0
  pub header : n + 24 ≤ p.size → word_in ms (p.place + n - 8) ≡ 0
  pub head : n + 24 ≤ p.size → (word_in ms (p.place + n) ≡ mt_of 0) × (word_in ms (p.place + n + 8) ≡ p.size - n - 24)
  pub words : (b : ℕ) → b % 8 ≡ 0 → (b + 8 < p.place) ⊎ (piece_end p ≤ b + 8) → word_in ms b ≡ word_of h b

-- a size that fits fills a range, or leaves 24 bytes of it
pub fits_cases : (size bytes : ℕ) → fits size bytes ≡ true → (size ≡ bytes) ⊎ (size + 24 ≤ bytes)
fits_cases size bytes e = elim (cases_eq size bytes) [
  | inl same ↦ inl same
  | inr apart ↦
      let miss = ne_eqb size bytes apart in
      let l : nat_le (size + 24) bytes ≡ true = rw miss at e in
      inr (leb-true (size + 24) bytes l)
]

-- where a free item of generation 0 stands
pub record ItemAt (rows : List TypeRow) (h : HeapView) (k : ℕ) (p : Piece) : Type 0 where
  pub item : YoungItem rows h k p
  pub among : Among (parts_of rows h k) (item_part item.item)
  pub aligned : p.place % 8 ≡ 0
  pub whole : piece_end p % 8 ≡ 0
  pub least : 24 ≤ p.size
  pub low : first_of h k ≤ p.place
  pub high : piece_end p ≤ last_of h k
  pub most : p.size ≤ 1073741824
  pub unheld : hole_from h.rests p.place ≡ None

pub item_at_piece : (rows : List TypeRow) (h : HeapView) (k : ℕ) (p : Piece) → IsHeap h → IsHeld rows h
    → IsEphemeral h k → (segment_at h k).kind ≡ Ephemeral → IsIn p (young_items (layout_in rows h)) → 0 < p.size
    → ItemAt rows h k p
item_at_piece rows h k p heap held segment young listed some =
    let s = sight rows h k in
    let ps = parts_of rows h k in
    let y = young_item rows h k heap held segment p listed some in
    let x = y.item in
    let m = item_part x in
    let w = held.walkable k segment.in_range in
    let cut : CutAt s ps m (first_of h k) (last_of h k) =
    cut_at s ps m (first_of h k) (last_of h k) w.spelled y.among in
    let here = cut.here in
    let f = item_size s x x.place here.1 here.2 in
    let size : p.size ≡ x.size = ap (λ (q : Piece). q.size) y.is in
    let place : p.place ≡ x.place = ap (λ (q : Piece). q.place) y.is in
    let big : x.size ≤ 1073741824 = rw here.1 here.2.most in
    let bounds = Among-bounds s ps m (first_of h k) (last_of h k) w.spelled y.among in
    let edges = part_bounds s ps m (first_of h k) (last_of h k) w.spelled y.among in
    let z = boundary-aligned s ps (first_of h k) (last_of h k) x.place w.start w.spelled edges.0 in
    record {
      item = y;
      among = y.among;
      aligned = omega (arith, z, place);
      whole = omega (arith, z, place, size, f);
      least = omega (arith, size, f);
      low = omega (arith, place, bounds);
      high = omega (arith, place, size, bounds);
      most = omega (arith, size, big);
      unheld = ap (hole_from h.rests) place
          ∙ ap (λ (hs : List (Option Piece)). hole_from hs x.place) (sym (holes_young h k young)) ∙ here.0;
    }

module _ (rows : List TypeRow) (h : HeapView) (k i : ℕ) (p : Piece) (n : ℕ) (ms : List Memory) (heap : IsHeap h)
    (held : IsHeld rows h) (segment : IsEphemeral h k) (young : (segment_at h k).kind ≡ Ephemeral)
    (f : DrawsItem h p n ms) (thread : i < length h.rests)
    (had : get_or h.rests i None ≡ None) (listed : IsIn p (young_items (layout_in rows h))) (least : 24 ≤ n)
    (aligned : n % 8 ≡ 0) (within : (n ≡ p.size) ⊎ (n + 24 ≤ p.size)) where
  abbrev r : Piece
  r = record { place = p.place; size = n }

  abbrev pub drawn : HeapView
  drawn = record h { memories = ms; rests = set h.rests i (Some r) }

  abbrev low : ℕ
  low = p.place

  abbrev mid : ℕ
  mid = p.place + n

  abbrev high : ℕ
  high = piece_end p

  pub at : ItemAt rows h k p
  at = item_at_piece rows h k p heap held segment young listed
      (elim within [ inl l ↦ omega arith | inr l ↦ omega arith ])

  abbrev x : Item
  x = at.item.item

  abbrev m : Part
  m = item_part x

  abbrev ns : List Part
  ns = rest_part low mid ∷ free_parts mid high

  cuts : (mid ≡ high) ⊎ (mid + 24 ≤ high)
  cuts = elim within [ inl l ↦ inl (omega arith) | inr l ↦ inr (omega arith) ]

  place_is : x.place ≡ low
  place_is = ap (λ (q : Piece). q.place) (sym at.item.is)

  end_is : x.place + x.size ≡ high
  end_is = ap piece_end (sym at.item.is)

  abbrev cut : CutAt (sight rows h k) (parts_of rows h k) m (first_of h k) (last_of h k)
  cut = cut_at (sight rows h k) (parts_of rows h k) m (first_of h k) (last_of h k)
      (held.walkable k segment.in_range).spelled at.among

  under : Spells (sight rows h k) (first_of h k) cut.below low
  under = subst (λ q. Spells (sight rows h k) (first_of h k) cut.below q) place_is cut.low

  over : Spells (sight rows h k) high cut.above (last_of h k)
  over = subst (λ q. Spells (sight rows h k) q cut.above (last_of h k)) end_is cut.high

  -- no other rest starts within the item
  other_rest : (j : ℕ) (q : Piece) → get_or h.rests j None ≡ Some q → (piece_end q ≤ low) ⊎ (high ≤ q.place)
  other_rest j q e =
      let part = rest_part q.place (piece_end q) in
      let among = subst (λ ps. Among ps part) cut.is ((held.contexts j q e).among k segment.in_range young) in
      elim (among_append cut.below (m ∷ cut.above) part among) [
        | inl below ↦ inl (Among-bounds (sight rows h k) cut.below part (first_of h k) low under below).1
        | inr there ↦ elim there [
          | inl here ↦ absurd (cc)
          | inr above ↦ inr (Among-bounds (sight rows h k) cut.above part high (last_of h k) over above).0
        ]
      ]

  without : (q : ℕ) → ((j : ℕ) (s : Piece) → get_or h.rests j None ≡ Some s → s.place ≢ q)
      → hole_from (set h.rests i None) q ≡ None
  without q other = hole_from-none (set h.rests i None) q (λ j s e. elim (cases_eq j i) [
    | inl same ↦
        let read : get_or (set h.rests i None) i None ≡ Some s =
        subst (λ l. get_or (set h.rests i None) l None ≡ Some s) same e in
        let clash : None ≡ Some s = sym (get_or-set_same h.rests i None None thread) ∙ read in
        absurd (cc)
    | inr ne ↦ other j s (sym (get_or-set_other h.rests i j None None ne) ∙ e)
  ])

  new_here : PartsAre rows drawn k (cut.below ++ (ns ++ cut.above))
  new_here =
      let most = at.most in
      let z = at.aligned in
      let size : mid - low ≡ n = omega arith in
      let head : mid + 24 ≤ high → (word_in ms mid ≡ mt_of 0) × (word_in ms (mid + 8) ≡ high - mid - 24) = λ more.
      let written = f.head (omega arith) in
      let left : p.size - n - 24 ≡ high - mid - 24 = omega arith in
      (written.0, written.1 ∙ left) in
      let P : ℕ → Type 0 =
      λ b. PartsAre rows (record h { memories = ms; rests = set h.rests i (Some (record { place = low; size = b })) }) k
      (cut.below ++ (ns ++ cut.above)) in
      subst P size (drawn_swap rows h k i ms (held.walkable k segment.in_range) young thread f.shape low high cut.below
      cut.above under over at.whole f.words
      (without low (λ j s e. hole_from-some h.rests j low s at.unheld e)) mid had (omega arith) (omega arith) cuts
      (omega arith)
      (λ more. without mid (λ j s e same. let out = other_rest j s e in
      elim out [ inl l ↦ omega arith | inr l ↦ omega arith ])) head)

  pub swaps : Swaps rows h drawn k low high (m ∷ []) ns
  swaps =
      let up = at.low in
      let down = at.high in
      let end = (lawful_at h k heap segment.in_range).high in
      record {
        heap = heap;
        new_heap = heap_rested rows h k i ms (Some r) heap segment.in_range young f.shape;
        held = held;
        in_range = segment.in_range;
        count = refl;
        below = cut.below;
        above = cut.above;
        old_parts = cut.is;
        new_parts = new_here;
        low = λ y k'. (Among-bounds (sight rows h k) cut.below y (first_of h k) low under k').1;
        high = λ y k'. (Among-bounds (sight rows h k) cut.above y high (last_of h k) over k').0;
        others = others_rested rows h k i ms (Some r) heap segment.in_range young f.shape low high at.low (omega arith)
            f.words held.walkable;
        from = at.low;
        to = omega arith;
        words = f.words;
      }

  -- the item is of generation 0
  aged : h.start0 ≤ low
  aged = leb-true h.start0 low (and_parts (stands_in (ephemeral (frame h)) low) (nat_le h.start0 low) at.item.passes).1

  rests : Rests rows h drawn k low high (m ∷ []) ns swaps i (Some r)
  rests = record {
    young = young;
    still_young = young;
    thread = thread;
    rests = refl;
    start0 = refl;
    tail = omega arith;
    gone = λ j q ne e k'. elim k' [ inl same ↦ absurd (cc) | inr none ↦ none ];
    own = λ q e. let same : r ≡ q = cc in inl (ap (λ (s : Piece). rest_part s.place (piece_end s)) (sym same));
    aged = λ q e. let same : r ≡ q = cc in subst (λ (s : Piece). h.start0 ≤ s.place) same aged;
    clear = λ q e b z lo hi.
        let same : r ≡ q = cc in
        let P : Piece → Type 0 = λ s. (s.place ≤ b + 8) × (b + 8 < piece_end s) in
        let range : P r = subst P (sym same) (lo, hi) in
        f.clear b z range.0 range.1;
    fresh = λ j q s ne e other same.
        let is : r ≡ q = cc in
        let place : s.place ≡ low = sym same ∙ ap (λ (y : Piece). y.place) (sym is) in
        hole_from-some h.rests j low s at.unheld other place;
  }

  held_drawn : IsHeld rows drawn
  held_drawn = held_now rows h drawn k low high (m ∷ []) ns swaps i (Some r) rests

  -- ---- the free items

  abbrev fs : List Piece
  fs = free_among (front rows h drawn k low high (m ∷ []) ns swaps)

  abbrev bs : List Piece
  bs = free_among (back rows h drawn k low high (m ∷ []) ns swaps)

  was : free_in rows h ≡ fs ++ p ∷ bs
  was =
      let free = at.item.free in
      let one : free_among (x ∷ []) ≡ p ∷ [] = rw free (ap (λ (q : Piece). q ∷ []) (sym at.item.is)) in
      free_was rows h drawn k low high (m ∷ []) ns swaps ∙ ap (λ (ps : List Piece). fs ++ (ps ++ bs)) one

  is : free_in rows drawn ≡ fs ++ (range_piece mid high ++ bs)
  is = free_is rows h drawn k low high (m ∷ []) ns swaps
      ∙ ap (λ (ps : List Piece). fs ++ (ps ++ bs)) (left_free mid high cuts)

  rising : IsRisingBy place (fs ++ p ∷ bs)
  rising = subst (IsRisingBy place) was (free_rises rows h held.walkable heap)

  free_drawn : free_in rows drawn ≡ taken_from low n (free_in rows h)
  free_drawn = is ∙ sym (taken-between fs p bs n (apart_around fs p bs rising)) ∙ ap (taken_from low n) (sym was)

  -- ---- the index

  abbrev t : Piece → Bool
  t = is_young_item (layout_in rows h)

  left_young : mid < high → t (record { place = mid; size = high - mid }) ≡ true
  left_young more =
      let up = at.low in
      let down = at.high in
      let from = aged in
      let end = (lawful_at h k heap segment.in_range).high in
      young_place rows h k heap held segment (record { place = mid; size = high - mid }) (omega arith) (omega arith)
      (omega arith)

  -- the index has what is left of the item in its place
  pub young_drawn : young_items (layout_in rows drawn) ≡ taken_from low n (young_items (layout_in rows h))
  young_drawn =
      ap (filter t) free_drawn
      ∙ ap (λ (ps : List Piece). filter t (taken_from low n ps)) was
      ∙ filter-taken t fs p bs n rising at.item.passes left_young
      ∙ ap (λ (ps : List Piece). taken_from low n (filter t ps)) (sym was)

  none_was : filter is_object (items_in (m ∷ [])) ≡ []
  none_was = let free = at.item.free in rw free refl

  -- the head of what is left was written
  heads_left : HaveFreeHeads (word_of drawn) (items_in ns)
  heads_left = left_heads (word_of drawn) mid high cuts
      (λ more. let room : n + 24 ≤ p.size = omega arith in (f.header room, (f.head room).0))

  option_is : option_piece (range_piece low mid) ≡ Some r
  option_is =
      let some = lt-ltb low mid (omega arith) in
      let size : mid - low ≡ n = omega arith in
      ap (λ (b : Bool). option_piece (if b then record { place = low; size = mid - low } ∷ [] else [])) some
      ∙ ap (λ (b : ℕ). Some (record { place = low; size = b })) size

  -- DRAWING: the layout is the one with the context at the front of the item
  pub relaid_drawn : (thread : ℕ) → thread - 1 ≡ i → IsRelaid rows h drawn (from_item (layout_in rows h) thread p n)
  relaid_drawn thread number = record {
    heap = swaps.new_heap;
    kept = kept_now rows h drawn k low high (m ∷ []) ns swaps none_was (left_objects mid high);
    objects = objects_now rows h drawn k low high (m ∷ []) ns swaps none_was (left_objects mid high);
    layout = λ e. record {
      segments = h.segments;
      start1 = h.start1;
      start0 = h.start0;
      free = free_drawn e;
      rests = set h.rests (sym number e) (sym option_is e);
      top = h.top;
    };
    cells = cells_now rows h drawn k low high (m ∷ []) ns swaps none_was;
    free_heads = heads_now rows h drawn k low high (m ∷ []) ns swaps heads_left;
    clean = clean_now rows h drawn k low high (m ∷ []) ns swaps i (Some r) rests none_was (left_objects mid high);
    limit = refl;
    held = held_drawn;
  }
