-- The heap after a compaction, its marks cleared and its boundaries moved: its items, and the words of what went and of
-- what stayed.
use Rattle.std.proofs.Common.{◌≡◌, ℕ, ◌+◌, ◌-◌, ◌%◌, ◌<◌, ◌≤◌, ◌⊎◌, inl, inr, Bool, true, false, List, [], length, sym}
use Rattle.std.proofs.Common.{ap, subst, ◌∙◌, arith, if◌then◌else◌, ◌==◌}
use Rattle.std.proofs.lemmas.Bool.{both_ways, cases_Bool, cases_eq, cases_lt, cases_order, eq-eqb, ne_eqb}
use Rattle.clr_types.specs.Rising.{IsIn}
use Rattle.clr_types.specs.Ranges.{Piece}
use Rattle.clr_types.specs.Segments.{Layout, reserved_end}
use Rattle.clr_types.specs.Types.{TypeRow}
use Rattle.clr_types.specs.declared.item.Item.{Item}
use Rattle.clr_types.proofs.RisingLists.{all_at}
use Rattle.clr_heap.specs.Parts.{free_item, items_in, unmarked}
use Rattle.clr_compact.specs.Rewrites.{cleared, Rewrites}
use Rattle.clr_heap.specs.View.{AreWalkable, first_of, heap_items, HeapView, IsHeap, items_between, last_of, listing}
use Rattle.clr_heap.specs.View.{no_rests, SameShape, segment_at, sight, word_of}
use Rattle.clr_heap.proofs.Framing.{lawful_at}
use Rattle.clr_heap.proofs.Staying.{segment_order}
use Rattle.clr_model.specs.Compaction.{Move, moved_by}
use Rattle.clr_model.specs.Lawful.{IsLaid}
use Rattle.clr_model.specs.Machine.{Machine}
use Rattle.clr_view.specs.View.{IsHeld, object_in}
use Rattle.clr_view.proofs.Items.{IsItem, object-stays}
use Rattle.clr_view.proofs.Listed.{listed-in}
use Rattle.clr_view.proofs.Listings.{listing-are}
use Rattle.clr_sweep.proofs.SurvivorsSwept.{listed-from, seen}
use Rattle.clr_compact.specs.Compacted.{ArePartsWalkable, items_of_part, part_items}
use Rattle.clr_moves.specs.Objects.{is_in_parts, moved_object}
use Rattle.clr_view.specs.Memory.{TestsMarks}
use Rattle.clr_moves.specs.Moves.{age_of, AreMoves, IsInPart, part_of, room_end, takes}
use Rattle.clr_compact.specs.Slides.{HasSlid}
use Rattle.clr_moves.specs.Overlaid.{IsOutside}
use Rattle.clr_compact.proofs.AllParts.{part_item, part_items-in}
use Rattle.clr_moves.proofs.FilledParts.{FillsParts}
use Rattle.clr_moves.proofs.PartPlaces.{into_parts, out_of_parts}
use Rattle.clr_compact.proofs.Placing.{outside_sides}
use Rattle.clr_compact.proofs.Gone.{lands_at, LandsAt}
use Rattle.clr_compact.proofs.MemoryItems.{part_whole, standing, Stands}
use Rattle.clr_compact.proofs.MovedObjects.{object_moved}
use Rattle.clr_compact.proofs.PartsClean.{clean_items, clean_parts, part_unmarked, word_kept, word_stays}
use Rattle.clr_compact.proofs.PartsSlid.{carried_words, now_listed_other, outside_at, part_same, slid_parts}
use Rattle.clr_compact.proofs.PartsSlid.{slid_walkable, takes_same}
use Rattle.clr_compact.proofs.Relisted.{below_listed, gone_in_part, HasGone, item_there, listed_from_where, part_from}
use Rattle.clr_compact.proofs.Relisted.{part_in_listing}
use Rattle.clr_moves.specs.declared.condemned.Condemned.{Condemned}

module _ (rows : List TypeRow) (old : HeapView) (base : Machine) (heap : IsHeap old) (held : IsHeld rows old)
    (none : old.rests ≡ no_rests) (laid : IsLaid (seen rows old base)) (g : Condemned) (keeps : ℕ → Bool)
    (moves : List Move) (after : Layout) (c : FillsParts rows old base g keeps moves after) (mid : HeapView)
    (slid : HasSlid old mid g moves) (tests : TestsMarks rows old (age_of g) keeps) (mid_heap : IsHeap mid)
    (clean : HeapView) (shape : SameShape mid clean)
    (words : Rewrites (cleared (part_items rows mid g (length mid.segments))) (word_of mid)
    (word_of clean)) where
  am : AreMoves old g moves
  am = c.are

  abbrev pub Gone : Item → Type 0
  Gone = HasGone rows old base heap held none laid g keeps moves after c mid slid

  abbrev there : Item → Item
  there = item_there rows old base heap held none laid g keeps moves after c mid slid

  -- ---- segments and items

  pub count_same : length clean.segments ≡ length old.segments
  count_same = ap (λ (h : HeapView). length h.segments) shape.others ∙ slid.count

  pub part_in : (t : ℕ) → t < length mid.segments → (i : Item) → IsIn i (items_of_part rows mid g t)
      → IsIn i (listing rows mid t)
  part_in t l i n =
      let k = slid.count in
      let inside : t < length old.segments = omega arith in
      elim (cases_Bool (takes g (segment_at old t))) [
        | inl on ↦ part_in_listing rows old base heap held none laid g keeps moves after c mid slid t inside on i
            n
        | inr off ↦ absurd (nothing i
            (subst (IsIn i)
            (ap (λ b. if b then items_between (sight rows mid t) (part_of mid g t) (last_of mid t)
            else []) (takes_same rows old base heap held none laid g keeps moves after c mid slid t inside ∙ off))
            n))
      ]
    where
      nothing : (i : Item) → IsIn i [] → ⊥
      nothing i n = elim n [ ]

  walkable : AreWalkable rows mid
  walkable = slid_walkable rows old base heap held none laid g keeps moves after c mid slid

  abbrev ws : ArePartsWalkable rows mid g
  ws = slid_parts rows old base heap held none laid g keeps moves after c mid slid

  mid_inside : (t : ℕ) → t < length old.segments → t < length mid.segments
  mid_inside t l = let k = slid.count in omega arith

  pub clean_listing : (t : ℕ) → t < length old.segments → listing rows clean t ≡ listing rows mid t
  clean_listing t l =
      ap items_in (clean_parts rows mid clean g mid_heap walkable ws part_in shape words t (mid_inside t l)).parts

  pub clean_walkable : AreWalkable rows clean
  clean_walkable t l = let n = count_same in
      (clean_parts rows mid clean g mid_heap walkable ws part_in shape words t (mid_inside t (omega arith))).walkable

  -- an item of a part is one of the heap
  pub part_to_heap : (t : ℕ) → t < length old.segments → (i : Item) → IsIn i (items_of_part rows mid g t)
      → IsIn i (heap_items rows clean)
  part_to_heap t l i n = let k = count_same in
      listed-from rows clean t i (omega arith)
      (subst (IsIn i) (sym (clean_listing t l)) (part_in t (mid_inside t l) i n))

  mid_item : (t : ℕ) → t < length old.segments → (i : Item) → IsIn i (items_of_part rows mid g t)
      → IsIn i (heap_items rows mid)
  mid_item t l i n = listed-from rows mid t i (mid_inside t l) (part_in t (mid_inside t l) i n)

  -- no item crosses the place where a part started
  pub part_split : (t : ℕ) → t < length old.segments → takes g (segment_at old t) ≡ true → (j : Item)
      → IsIn j (listing rows clean t) → (part_of old g t ≤ j.place)
      ⊎ (j.place + j.size ≤ part_of old g t)
  part_split t inside on j n =
      elim (listed_from_where rows old base heap held none laid g keeps moves after c mid slid t inside on j
      (subst (IsIn j) (clean_listing t inside) n)) [
        | inl (a, low) ↦ elim (part_whole rows old base heap held laid g keeps moves after c t inside on j a) [
          | inl above ↦ absurd (omega arith)
          | inr below ↦ inr below
        ]
        | inr more ↦
            let same = part_same rows old base heap held none laid g keeps moves after c mid slid t inside in
            let low = (part_item rows mid g mid_heap ws t (mid_inside t inside) j more).1.above in
            inl (omega arith)
      ]

  -- the items of a part are as they were before the marks were cleared
  pub part_stays : (t : ℕ) → t < length old.segments → takes g (segment_at old t) ≡ true
      → items_between (sight rows clean t) (part_of old g t) (last_of mid t)
      ≡ items_between (sight rows mid t) (part_of old g t) (last_of mid t)
  part_stays t inside on =
      let same = part_same rows old base heap held none laid g keeps moves after c mid slid t inside in
      let on_mid = takes_same rows old base heap held none laid g keeps moves after c mid slid t inside ∙ on in
      let P : ℕ → Type 0 = λ p. items_between (sight rows clean t) p (last_of mid t)
      ≡ items_between (sight rows mid t) p (last_of mid t) in
      subst P same
      (clean_items rows mid clean g mid_heap walkable ws part_in shape words t (mid_inside t inside) on_mid)

  -- ---- words

  pub words_outside : (b : ℕ) → b % 8 ≡ 0 → IsOutside old g b → word_of clean b ≡ word_of old b
  words_outside b z out =
      word_stays rows mid clean g mid_heap walkable ws part_in shape words b z (λ i n at. inside i n at)
      ∙ slid.outside b z out
    where
      inside : (i : Item) → IsIn i (part_items rows mid g (length mid.segments)) → i.place ≡ b → ⊥
      inside i n at =
          let (t, l, here) = part_items-in rows mid g mid_heap ws (length mid.segments) i n in
          let k = slid.count in
          let lt : t < length old.segments = omega arith in
          let (on, is) = part_item rows mid g mid_heap ws t l i here in
          let on_old = sym (takes_same rows old base heap held none laid g keeps moves after c mid slid t lt)
          ∙ on in
          let same = part_same rows old base heap held none laid g keeps moves after c mid slid t lt in
          let above = is.above in
          let below = is.below in
          let size = is.least in
          let high = (lawful_at mid t mid_heap l).high in
          let room = ends t lt in
          let low_start = (am.starts t lt on_old).0 in
          elim (outside_sides old g t b lt on_old low_start out)
          [ inl x ↦ omega arith | inr x ↦ omega arith ]
        where
          ends : (t : ℕ) → t < length old.segments → room_end mid t ≡ room_end old t
          ends t lt = elim (cases_Bool (takes g (segment_at old t))) [
            | inl on ↦ let (e, at, is) = slid.parts t lt on in ap reserved_end is
            | inr off ↦ ap reserved_end (slid.rest t lt off)
          ]

  -- the words of what went stand where it went, but for the mark
  pub words_gone : (i : Item) → Gone i → (b : ℕ) → b % 8 ≡ 0 → moved_by moves i.place ≤ b + 8
      → b + 8 < moved_by moves i.place + i.size
      → word_of clean b
      ≡ (if b == moved_by moves i.place then unmarked (word_of old (b + (i.place - moved_by moves i.place)))
      else word_of old (b + (i.place - moved_by moves i.place)))
  words_gone i h b z low high =
      let lands : LandsAt rows old base heap held none laid g keeps moves after c mid slid tests i =
      lands_at rows old base heap held none laid g keeps moves after c mid slid tests i h in
      let n = gone_in_part rows old base heap held none laid g keeps moves after c mid slid lands.segment
      lands.inside lands.on i h lands.filled in
      let words_mid = carried_words rows old base heap held none laid g keeps moves after c mid slid i.place
      i.size h.plug h.carried b z low high in
      elim (cases_eq b (moved_by moves i.place)) [
        | inl same ↦
            let at : word_of clean (moved_by moves i.place) ≡ unmarked (word_of mid (moved_by moves i.place)) =
            part_unmarked rows mid clean g mid_heap walkable ws part_in shape words lands.segment
            (mid_inside lands.segment lands.inside) (there i) n (subst (λ k. k % 8 ≡ 0) same z) in
            subst (λ k. word_of clean k ≡ unmarked (word_of mid k)) (sym same) at ∙ ap unmarked words_mid
            ∙ sym (ap (λ t. if t then unmarked (word_of old (b + (i.place - moved_by moves i.place)))
            else word_of old (b + (i.place - moved_by moves i.place))) (eq-eqb b (moved_by moves i.place) same))
        | inr differ ↦
            word_kept rows mid clean g mid_heap walkable ws part_in shape words (there i)
            (mid_item lands.segment lands.inside (there i) n) b z low high differ
            ∙ words_mid
            ∙ sym (ap (λ t. if t then unmarked (word_of old (b + (i.place - moved_by moves i.place))) else word_of old
            (b + (i.place - moved_by moves i.place))) (ne_eqb b (moved_by moves i.place) differ))
      ]

  -- ---- objects

  -- where an item went, in its part
  pub gone_listed : (i : Item) → Gone i → IsIn (there i) (heap_items rows clean)
  gone_listed i h =
      let lands = lands_at rows old base heap held none laid g keeps moves after c mid slid tests i h in
      part_to_heap lands.segment lands.inside (there i)
      (gone_in_part rows old base heap held none laid g keeps moves after c mid slid lands.segment
      lands.inside lands.on i h lands.filled)

  -- the object is the same
  pub gone_object : (i : Item) → Gone i → object_in rows (word_of clean) (there i)
      ≡ moved_object moves (object_in rows (word_of old) i)
  gone_object i h =
      let lands = lands_at rows old base heap held none laid g keeps moves after c mid slid tests i h in
      let st = (standing rows old base heap held laid i h.listed).is in
      let is = h.carried in
      let v = am.each h.plug is.within in
      let lower = v.lower in
      let (zs, zn, zt) = v.aligned in
      let to = is.to in
      let a = is.low in
      let e = is.high in
      let up = lands.up in
      let z = st.aligned in
      let p = moved_by moves i.place in
      object_moved rows (word_of old) (word_of clean) (i.place - p) p (first_of old lands.segment) (p + i.size) i
      (omega arith) (omega arith) (omega arith)
      (record {
        aligned = omega arith;
        above = up;
        below = omega arith;
        least = st.least;
        known = st.known;
        sized = st.sized;
        whole = st.whole;
      })
      (words_gone i h)

  -- ---- what stays where it is

  -- an item of a segment, below its part where it has one
  abbrev pub IsBelow : ℕ → Item → Type 0
  IsBelow t i = (t < length old.segments) × IsIn i (listing rows old t)
      × (takes g (segment_at old t) ≡ true → i.place < part_of old g t)

  pub below_words : (t : ℕ) (i : Item) → IsBelow t i → (b : ℕ) → b % 8 ≡ 0 → i.place ≤ b + 8 → b + 8 < i.place + i.size
      → word_of clean b ≡ word_of old b
  below_words t i (l, n, below) b z low high =
      let is = all_at (IsItem rows (first_of old t) (last_of old t)) n (listing-are rows old held.walkable t l) in
      let above = is.above in
      let under = is.below in
      let room = (lawful_at old t heap l).high in
      words_outside b z
      (outside_at rows old base heap held none laid g keeps moves after c mid slid t b l (omega arith)
      (omega arith)
      (λ on. let under_part = below on in
      elim (part_whole rows old base heap held laid g keeps moves after c t l on i n)
      [ inl x ↦ absurd (omega arith) | inr x ↦ omega arith ]))

  pub below_listed_now : (t : ℕ) (i : Item) → IsBelow t i → IsIn i (listing rows clean t)
  below_listed_now t i (l, n, below) =
      subst (IsIn i) (sym (clean_listing t l)) (elim (cases_Bool (takes g (segment_at old t))) [
        | inl on ↦
            below_listed rows old base heap held none laid g keeps moves after c mid slid t l on i n (below on)
        | inr off ↦ subst (IsIn i)
            (sym (now_listed_other rows old base heap held none laid g keeps moves after c mid slid t l off)) n
      ])

  pub below_object : (t : ℕ) (i : Item) → IsBelow t i
      → object_in rows (word_of clean) i ≡ object_in rows (word_of old) i
  below_object t i below =
      let is = all_at (IsItem rows (first_of old t) (last_of old t)) below.1
      (listing-are rows old held.walkable t below.0) in
      let above = is.above in
      object-stays rows (word_of old) (word_of clean) i.place (i.place + i.size) i (omega arith)
      (λ b z low high. below_words t i below b z low (omega arith))
      (record {
        aligned = is.aligned;
        above = omega arith;
        below = omega arith;
        least = is.least;
        known = is.known;
        sized = is.sized;
        whole = is.whole;
      })

  -- it stands in no part
  pub below_away : (t : ℕ) (i : Item) → IsBelow t i → is_in_parts old g i.place ≡ false
  below_away t i (l, n, below) = elim (cases_Bool (is_in_parts old g i.place)) [
    | inr off ↦ off
    | inl on ↦
        let (u, into, up) = out_of_parts old g i.place on in
        let is = all_at (IsItem rows (first_of old t) (last_of old t)) n (listing-are rows old held.walkable t l) in
        let above = is.above in
        let under = is.below in
        let size = is.least in
        let room = (lawful_at old t heap l).high in
        let low = into.low in
        let high = into.high in
        elim (cases_order u t) [
          | inl same ↦
              let here = subst (λ k. IsInPart old g k i.place) same into in
              let a = below here.takes in
              let b = here.low in
              absurd (omega arith)
          | inr (inl less) ↦ let o = segment_order old u t heap less l in absurd (omega arith)
          | inr (inr more) ↦ let o = segment_order old t u heap more into.in_range in absurd (omega arith)
        ]
  ]

  -- an item that stands in no part is such a one
  pub away_below : (i : Item) → IsIn i (heap_items rows old) → is_in_parts old g i.place ≡ false → (t : ℕ)
      × IsBelow t i
  away_below i listed away =
      let st : Stands rows old base heap held laid i = standing rows old base heap held laid i listed in
      let is = st.is in
      let above = is.above in
      let under = is.below in
      let size = is.least in
      let room = (lawful_at old st.segment heap st.inside).high in (
        st.segment,
        (
          st.inside,
          st.here,
          λ on. elim (cases_lt i.place (part_of old g st.segment)) [
            | inl low ↦ low
            | inr high ↦ absurd (both_ways (is_in_parts old g i.place) away
                (into_parts old g st.segment i.place
                (record { in_range = st.inside; takes = on; low = high; high = omega arith }) above))
          ],
        ),
      )

  -- ---- where the items came from

  pub data CameFrom (j : Item) : Type 0 where
    stayed : (t : ℕ) → IsBelow t j → CameFrom j
    went : (i : Item) → Gone i → j ≡ record i { place = moved_by moves i.place } → CameFrom j
    freed : (t : ℕ) (inside : t < length old.segments) → takes g (segment_at old t) ≡ true → (f : Piece)
        → IsIn f (c.free (segment_at old t))
        → j ≡ free_item f.place f.size → CameFrom j

  pub came_from : (j : Item) → IsIn j (heap_items rows clean) → CameFrom j
  came_from j n =
      let (t, l, here) = listed-in rows clean j 0 (length clean.segments) n in
      let k = count_same in
      let inside : t < length old.segments = omega arith in
      let in_mid : IsIn j (listing rows mid t) = subst (IsIn j) (clean_listing t inside) here in
      elim (cases_Bool (takes g (segment_at old t))) [
        | inr off ↦ stayed t (
          inside,
          subst (IsIn j)
              (now_listed_other rows old base heap held none laid g keeps moves after c mid slid t inside off)
              in_mid,
          λ on. absurd (both_ways (takes g (segment_at old t)) off on),
        )
        | inl on ↦ elim (listed_from_where rows old base heap held none laid g keeps moves after c mid slid t
            inside on j in_mid) [
              | inl (a, low) ↦ stayed t (inside, a, λ _. low)
              | inr more ↦ elim (part_from rows old base heap held none laid g keeps moves after c mid slid t
                  inside on j more) [
                    | inl (i, h, filled, is) ↦ went i h is
                    | inr (f, fresh, is) ↦ freed t inside on f fresh is
                  ]
            ]
      ]
