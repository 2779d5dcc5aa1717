-- An object is born at the front of a free item of a segment of a kind whose objects are old from birth: what is left
-- of the item is still free.
use Rattle.std.proofs.Common.{◌≡◌, ◌⊎◌, inl, inr, ℕ, ◌+◌, ◌-◌, ◌%◌, ◌<◌, ◌≤◌, true, Bool, List, [], ◌∷◌, ◌++◌}
use Rattle.std.proofs.Common.{length, refl, ap, sym, ◌∙◌, subst, arith, filter}
use Rattle.clr_types.specs.Rising.{IsIn, IsRisingBy}
use Rattle.clr_types.specs.Types.{TypeRow, form_at, mt_of, size_of}
use Rattle.clr_types.specs.Ranges.{fits, Piece, piece_end}
use Rattle.clr_types.specs.declared.item.Item.{Item}
use Rattle.clr_types.specs.declared.segment.SegKind.{SegKind}
use Rattle.clr_types.proofs.ChangedLists.{out_of_filter}
use Rattle.clr_types.proofs.ListMembers.{filter-rises}
use Rattle.clr_types.proofs.SegmentFacts.{between-stands}
use Rattle.clr_heap.specs.Memories.{clears, InOne}
use Rattle.clr_heap.specs.Parts.{hole_from, IsMakeable, item_part, made_item, Part, Spells}
use Rattle.clr_heap.specs.View.{first_of, HasHead, HeapView, holes_of, IsHeap, last_of, parts_of, placed}
use Rattle.clr_heap.specs.View.{frame, heap_items, SameShape, segment_at, sight, word_of}
use Rattle.clr_heap.proofs.Addresses.{in_one_segment, InOne-shapes}
use Rattle.clr_heap.proofs.Framing.{lawful_at, SameShape-trans}
use Rattle.clr_heap.proofs.Placing.{head_from_walk, Placed, placed_leaves}
use Rattle.clr_heap.proofs.Spelling.{Among-bounds, Spells-append, Spells-made}
use Rattle.clr_heap.proofs.Staying.{parts_stay, stays_written}
use Rattle.clr_heap.proofs.Swaps.{cut_at, CutAt, free_parts, left_spelled, run_swapped}
use Rattle.clr_model.specs.Allocation.{stands_in_kind, taken_from}
use Rattle.clr_view.specs.View.{free_among, free_in, is_free, IsHeld, layout_in, tail_of}
use Rattle.clr_view.proofs.Bearing.{fits-is}
use Rattle.clr_view.proofs.Born.{heap-rested}
use Rattle.clr_view.proofs.Carving.{carved, CarvedWords, Carves, left_free, left_heads, left_objects, wiped_in}
use Rattle.clr_view.proofs.Carving.{wiped_out}
use Rattle.clr_view.proofs.Fronts.{clear-behind}
use Rattle.clr_view.proofs.Listings.{heap-rise}
use Rattle.clr_view.proofs.Swapping.{Swaps}
use Rattle.clr_sweep.proofs.LayoutSwept.{free-rise}
use Rattle.clr_items.proofs.Lists.{apart_around, place, taken-between}
use Rattle.clr_large.specs.Births.{HasNewbornIn}
use Rattle.clr_large.specs.Places.{IsOldKind, items_left, kind_items, with_place_taken}
use Rattle.clr_large.specs.declared.places.Birthplace.TheVariants.{Item as AtItem}
use Rattle.clr_large.proofs.Homes.{head_shapes, in_kind, IsBorneAt, kind_item, KindItemAt, no_holes}
use Rattle.clr_large.proofs.OldKinds.{old-other}
use Rattle.clr_large.proofs.Newborns.{cells_borne, clean_borne, free_after, free_before, heads_borne, held_borne}
use Rattle.clr_large.proofs.Newborns.{high_free, IsBorneIn, low_free, objects_borne, unmarked_borne}
use Rattle.clr_items.proofs.TakenItems.{filter-taken}

-- an object is asked for that fits in a free item of a segment of the kind
pub record FitsItem (group : SegKind) (rows : List TypeRow) (h : HeapView) (p : Piece) (t n : ℕ) : Type 0 where
  pub old : IsOldKind group
  pub heap : IsHeap h
  pub held : IsHeld rows h
  pub item : IsMakeable rows t n
  pub object : 0 < t
  pub listed : IsIn p (kind_items group (layout_in rows h))
  pub within : fits (size_of (form_at rows t) n) p.size ≡ true

module _ (group : SegKind) (rows : List TypeRow) (h : HeapView) (p : Piece) (t n : ℕ)
    (asked : FitsItem group rows h p t n) where
  open asked use {heap, held, item, listed, object, within}

  abbrev size : ℕ
  size = size_of (form_at rows t) n

  abbrev k : ℕ
  k = (kind_item group rows h p heap held listed).0

  at : KindItemAt group rows h k p
  at = (kind_item group rows h p heap held listed).1

  abbrev low : ℕ
  low = p.place

  abbrev mid : ℕ
  mid = p.place + size

  abbrev high : ℕ
  high = piece_end p

  pub item_cut : (size ≡ p.size) ⊎ (size + 24 ≤ p.size)
  item_cut = fits-is size p.size within

  cuts : (mid ≡ high) ⊎ (mid + 24 ≤ high)
  cuts = elim item_cut [ inl l ↦ inl (omega arith) | inr l ↦ inr (omega arith) ]

  item_within : size ≤ p.size
  item_within = elim item_cut [ inl l ↦ omega arith | inr l ↦ omega arith ]

  pub item_low : 0x1000 ≤ p.place
  item_low = let low = at.low in omega arith

  pub item_left_least : size < p.size → 24 ≤ p.size - size
  item_left_least l = elim item_cut [ inl same ↦ omega arith | inr more ↦ omega arith ]

  head_here : (a : ℕ) → low ≤ a → a % 8 ≡ 0 → a + 24 ≤ high → HasHead h a
  head_here a up z down =
      let from = at.low in
      let to = at.high in
      head_from_walk (sight rows h k) h (first_of h k) (last_of h k) a (held.walkable k at.in_range) (omega arith) z
      (omega arith) (omega arith)

  -- the head of what is left can be written
  pub item_left_head : size < p.size → HasHead h mid
  item_left_head l =
      let z = at.aligned in
      let whole = item.whole in
      let more : size + 24 ≤ p.size = elim item_cut [ inl same ↦ omega arith | inr more ↦ more ] in
      head_here mid (omega arith) (omega arith) (omega arith)

  module _ (rest : HeapView) (carves : Carves h p size rest) where
    c : CarvedWords h p size rest
    c = carved h p size rest item_cut item_left_head carves

    -- the cells of the object can be cleared
    pub item_cells : InOne rest.memories (p.place - 8) size
    item_cells =
        let least = item.least in
        let whole = item.whole in
        let z = at.aligned in
        let from = at.low in
        let to = at.high in
        let l = item_within in
        let end = (lawful_at h k heap at.in_range).high in
        InOne-shapes h.memories rest.memories (p.place - 8) size c.shape.memories
        (in_one_segment h k (p.place - 8) heap at.in_range (omega arith) size (omega arith) whole (omega arith)
        (omega arith))

    module _ (wiped : HeapView) (shape : SameShape rest wiped)
        (words : (b : ℕ) → b % 8 ≡ 0 → word_of wiped b ≡ clears (p.place - 8) size (word_of rest) b) where
      to_wiped : SameShape h wiped
      to_wiped = SameShape-trans h rest wiped c.shape shape

      -- its head can be written
      pub item_head : HasHead wiped p.place
      item_head =
          let least = item.least in
          let fit = item_within in
          let z = at.aligned in
          head_shapes h wiped low to_wiped.memories (head_here low (omega arith) z (omega arith))

      abbrev new : HeapView
      new = placed rows wiped p.place t n

      leaves : Placed rows wiped new p.place t n
      leaves = placed_leaves rows wiped p.place t n item_head

      to_new : SameShape h new
      to_new = SameShape-trans h wiped new to_wiped leaves.shape

      new_heap : IsHeap new
      new_heap = heap-rested h new new.rests heap to_new (ap (λ (g : HeapView). length g.rests) to_new.others)

      outside : (b : ℕ) → b % 8 ≡ 0 → (b + 8 < low) ⊎ (mid ≤ b + 8) → word_of new b ≡ word_of rest b
      outside b z out =
          let least = item.least in
          let up = item_low in
          leaves.others b z (λ same. elim out [ inl l ↦ omega arith | inr l ↦ omega arith ])
          (λ same. elim out [ inl l ↦ omega arith | inr l ↦ omega arith ])
          (λ same. elim out [ inl l ↦ omega arith | inr l ↦ omega arith ])
          ∙ words b z
          ∙ wiped_out (low - 8) size (word_of rest) b
          (elim out [ inl l ↦ inl (omega arith) | inr l ↦ inr (omega arith) ])

      stays : (b : ℕ) → b % 8 ≡ 0 → (b + 8 < low) ⊎ (high ≤ b + 8) → word_of new b ≡ word_of h b
      stays b z out =
          let fit = item_within in
          outside b z (elim out [ inl l ↦ inl l | inr l ↦ inr (omega arith) ])
          ∙ c.words b z (elim out [ inl l ↦ inl (omega arith) | inr l ↦ inr l ])

      header_left : mid + 24 ≤ high → word_of new (mid - 8) ≡ 0
      header_left more =
          let z = at.aligned in
          let whole = item.whole in
          let least = item.least in
          outside (mid - 8) (omega arith) (inr (omega arith)) ∙ c.header (omega arith)

      head_left : mid + 24 ≤ high → (word_of new mid ≡ mt_of 0) × (word_of new (mid + 8) ≡ high - mid - 24)
      head_left more =
          let z = at.aligned in
          let whole = item.whole in
          let w = c.head (omega arith) in
          let count : p.size - size - 24 ≡ high - mid - 24 = omega arith in (
            outside mid (omega arith) (inr (omega arith)) ∙ w.0,
            outside (mid + 8) (omega arith) (inr (omega arith)) ∙ w.1 ∙ count,
          )

      -- ---- the parts

      abbrev x : Part
      x = item_part at.item

      abbrev ls : List Part
      ls = free_parts mid high

      abbrev ns : List Part
      ns = item_part (made_item rows low t n) ∷ ls

      place_is : at.item.place ≡ low
      place_is = ap (λ (q : Piece). q.place) (sym at.is)

      end_is : at.item.place + at.item.size ≡ high
      end_is = ap piece_end (sym at.is)

      abbrev around : CutAt (sight rows h k) (parts_of rows h k) x (first_of h k) (last_of h k)
      around = cut_at (sight rows h k) (parts_of rows h k) x (first_of h k) (last_of h k)
          (held.walkable k at.in_range).spelled at.among

      under : Spells (sight rows h k) (first_of h k) around.below low
      under = subst (λ q. Spells (sight rows h k) (first_of h k) around.below q) place_is around.low

      over : Spells (sight rows h k) high around.above (last_of h k)
      over = subst (λ q. Spells (sight rows h k) q around.above (last_of h k)) end_is around.high

      kind_now : (j : ℕ) → (segment_at new j).kind ≡ (segment_at h j).kind
      kind_now j = ap (λ (g : HeapView). (segment_at g j).kind) to_new.others

      spelled : Spells (sight rows new k) low ns high
      spelled =
          let z = at.aligned in
          let whole = item.whole in
          let least = item.least in
          let most = at.most in
          let other = old-other group (segment_at new k).kind asked.old (kind_now k ∙ at.is_of) in
          Spells-append (sight rows new k) (item_part (made_item rows low t n) ∷ []) ls low mid high
          (Spells-made (sight rows new k) low t n (record { mt = leaves.mt; len = leaves.len }) item
          (no_holes new k low other))
          (left_spelled rows new k mid high cuts (omega arith) at.whole (omega arith) (λ more. no_holes new k mid other)
          head_left)

      swaps : Swaps rows h new k low high (x ∷ []) ns
      swaps =
          let up = at.low in
          let down = at.high in
          let end = (lawful_at h k heap at.in_range).high in
          record {
            heap = heap;
            new_heap = new_heap;
            held = held;
            in_range = at.in_range;
            count = ap (λ (g : HeapView). length g.segments) to_new.others;
            below = around.below;
            above = around.above;
            old_parts = around.is;
            new_parts = run_swapped rows h new k low high around.below around.above ns (held.walkable k at.in_range)
                under over at.whole
                (record {
                  shapes = to_new.memories;
                  segments = ap (λ (g : HeapView). g.segments) to_new.others;
                  words = stays;
                  holes = λ q out. ap (λ (g : HeapView). hole_from (holes_of g k) q) to_new.others;
                }) spelled;
            low = λ y j. (Among-bounds (sight rows h k) around.below y (first_of h k) low under j).1;
            high = λ y j. (Among-bounds (sight rows h k) around.above y high (last_of h k) over j).0;
            others = λ j l ne.
                parts_stay rows h new j j (held.walkable j l)
                (stays_written h new j k heap l at.in_range ne to_new.memories to_new.others
                (λ b z out. stays b z (elim out [ inl l ↦ inl (omega arith) | inr l ↦ inr (omega arith) ])));
            from = at.low;
            to = omega arith;
            words = stays;
          }

      borne : IsBorneIn rows h new k low t n (x ∷ []) ls
      borne =
          let least = item.least in
          let up = item_low in
          record {
            other = old-other group (segment_at h k).kind asked.old at.is_of;
            kinds = kind_now;
            rests = ap (λ (g : HeapView). g.rests) to_new.others;
            start0 = ap (λ (g : HeapView). g.start0) to_new.others;
            tail = ap tail_of to_new.others;
            item = item;
            object = object;
            none_was = let free = at.free in rw free refl;
            none_left = left_objects mid high;
            left_heads = left_heads (word_of new) mid high cuts (λ more. (header_left more, (head_left more).0));
            aligned = at.aligned;
            header = leaves.header;
            mt = leaves.mt;
            clear = clear-behind rows wiped low t n item_head (λ b z from to. words b z
                ∙ wiped_in (low - 8) size (word_of rest) b (omega arith) (omega arith));
          }

      -- ---- the layout

      abbrev fs : List Piece
      fs = low_free rows h new k low high t n (x ∷ []) ls swaps borne

      abbrev bs : List Piece
      bs = high_free rows h new k low high t n (x ∷ []) ls swaps borne

      was : free_in rows h ≡ fs ++ p ∷ bs
      was =
          let free = at.free in
          let one : free_among (at.item ∷ []) ≡ p ∷ [] = rw free (ap (λ (q : Piece). q ∷ []) (sym at.is)) in
          free_before rows h new k low high t n (x ∷ []) ls swaps borne
          ∙ ap (λ (ps : List Piece). fs ++ (ps ++ bs)) one

      rising : IsRisingBy place (fs ++ p ∷ bs)
      rising = subst (IsRisingBy place) was
          (free-rise (filter is_free (heap_items rows h))
          (filter-rises is_free (λ (i : Item). i.place) (heap_items rows h) (heap-rise rows h held.walkable heap)))

      free_taken : free_in rows new ≡ taken_from low size (free_in rows h)
      free_taken =
          free_after rows h new k low high t n (x ∷ []) ls swaps borne
          ∙ ap (λ (ps : List Piece). fs ++ (ps ++ bs)) (left_free mid high cuts)
          ∙ sym (taken-between fs p bs size (apart_around fs p bs rising))
          ∙ ap (taken_from low size) (sym was)

      item_layout : layout_in rows new ≡ with_place_taken rows h size (AtItem p)
      item_layout = λ e. record (frame (to_new.others e)) { free = free_taken e }

      abbrev passes : Piece → Bool
      passes q = stands_in_kind group (layout_in rows h) q.place

      left_stands : mid < high → passes (record { place = mid; size = high - mid }) ≡ true
      left_stands more =
          let from = at.low in
          let to = at.high in
          let end = (lawful_at h k heap at.in_range).high in
          in_kind group rows h k mid at.in_range at.is_of
          (between-stands (segment_at h k) mid (omega arith) (omega arith))

      chosen : (passes p ≡ true) × IsIn p (free_in rows h)
      chosen = out_of_filter passes p (free_in rows h) listed

      item_items : kind_items group (layout_in rows new) ≡ items_left size (AtItem p)
          (kind_items group (layout_in rows h))
      item_items =
          ap (kind_items group) item_layout
          ∙ ap (λ (ps : List Piece). filter passes (taken_from low size ps)) was
          ∙ filter-taken passes fs p bs size rising chosen.0 left_stands
          ∙ ap (λ (ps : List Piece). taken_from low size (filter passes ps)) (sym was)

      -- AN OBJECT BORN IN A FREE ITEM
      item_born : HasNewbornIn group rows h new p.place t n
      item_born = record {
        objects = objects_borne rows h new k low high t n (x ∷ []) ls swaps borne;
        layout = inl (p, chosen.1, chosen.0, within, refl, item_layout);
        cells = cells_borne rows h new k low high t n (x ∷ []) ls swaps borne;
        unmarked = unmarked_borne rows h new k low high t n (x ∷ []) ls swaps borne;
        free_heads = heads_borne rows h new k low high t n (x ∷ []) ls swaps borne;
        clean = clean_borne rows h new k low high t n (x ∷ []) ls swaps borne;
        limit = ap (λ (g : HeapView). g.limit) to_new.others;
        heap = new_heap;
        held = held_borne rows h new k low high t n (x ∷ []) ls swaps borne;
      }

      -- whatever the heap is called
      pub item_borne : (made : HeapView) → made ≡ placed rows wiped p.place t n
          → IsBorneAt group rows h made (AtItem p) t n
      item_borne made is = subst (λ g. IsBorneAt group rows h g (AtItem p) t n) (sym is)
          (record { born = item_born; layout = item_layout; items = item_items })
