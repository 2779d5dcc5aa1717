-- The parts of each segment after sliding: below the compacted part as before, and in it what went there and free
-- items.
use Rattle.std.proofs.Common.{◌≡◌, ℕ, ◌+◌, ◌-◌, ◌%◌, ◌<◌, ◌≤◌, inl, inr, List, [], ◌∷◌, ◌++◌, length, refl, sym, ap}
use Rattle.std.proofs.Common.{ap₂, subst, ◌∙◌, arith, Bool, true, false, cond, subst₂, if◌then◌else◌, Option, None}
use Rattle.std.proofs.lemmas.Bool.{cases_Bool, cases_order}
use Rattle.std.proofs.lemmas.List.Sums.{get_or-le-sum_by}
use Rattle.clr_types.specs.Rising.{IsIn}
use Rattle.clr_types.specs.Ranges.{Piece}
use Rattle.clr_types.specs.Segments.{empty_segment, ended_at, first_place, Layout, reserved_end, same_kind, stands_in}
use Rattle.clr_types.specs.Types.{TypeRow}
use Rattle.clr_types.specs.declared.item.Item.{Item}
use Rattle.clr_types.specs.declared.segment.SegInfo.{SegInfo}
use Rattle.clr_types.specs.declared.segment.SegKind.TheVariants.{Ephemeral}
use Rattle.clr_types.proofs.SegmentFacts.{between-stands}
use Rattle.clr_types.proofs.TilePieces.{IsTile, tile}
use Rattle.clr_heap.specs.Memories.{memory_index}
use Rattle.clr_heap.specs.Parts.{free_item, hole_from, item_at, item_part, item_parts, items_in, NamesItem, Part}
use Rattle.clr_heap.specs.Parts.{Spells, until_place}
use Rattle.clr_heap.specs.View.{AreWalkable, CanWalk, first_of, frame, HeapView, holes_of, heap_items, IsHeap}
use Rattle.clr_heap.specs.View.{items_between, last_of, listing, no_rests, parts_of, PartsAre, segment_at, sight}
use Rattle.clr_heap.specs.View.{word_of}
use Rattle.clr_heap.proofs.Ends.{until_boundary}
use Rattle.clr_heap.proofs.Framing.{held_in, lawful_at}
use Rattle.clr_heap.proofs.Runs.{Spells-seen}
use Rattle.clr_heap.proofs.Spelling.{Spells-append}
use Rattle.clr_heap.proofs.Staying.{parts_from, parts_stay, segment_order}
use Rattle.clr_heap.proofs.Storing.{length-shapes, memory_index-shapes}
use Rattle.clr_heap.proofs.Swaps.{free_spelled}
use Rattle.clr_model.specs.Compaction.{Move, moved_by}
use Rattle.clr_model.specs.Lawful.{IsLaid}
use Rattle.clr_model.specs.Lookups.{object_size}
use Rattle.clr_model.specs.Machine.{Machine, Object}
use Rattle.clr_model.proofs.LandedParts.{landed_refill}
use Rattle.clr_model.proofs.Landings.{fills, goes_with, going_piece, is_covered, IsFilledBy}
use Rattle.clr_model.proofs.MovedPlaces.{moved-is}
use Rattle.clr_model.proofs.Refill.{IsRefill, range_after}
use Rattle.clr_view.specs.View.{IsHeld, objects_in}
use Rattle.clr_view.proofs.Listed.{listed-spelled}
use Rattle.clr_view.proofs.Listings.{items-append}
use Rattle.clr_heap.proofs.Walking.{CanWalk-from, spelled_parts}
use Rattle.clr_sweep.proofs.FreeHeads.{items_of_parts}
use Rattle.clr_compact.specs.Compacted.{ArePartsWalkable, items_of_part}
use Rattle.clr_sweep.proofs.PassEnds.{none_starts}
use Rattle.clr_sweep.proofs.SurvivorsSwept.{seen}
use Rattle.clr_moves.specs.Moves.{AreMoves, IsInPart, move_at, part_of, room_end, start_of, takes}
use Rattle.clr_moves.specs.declared.condemned.Condemned.{Condemned}
use Rattle.clr_moves.proofs.FilledParts.{FillsParts}
use Rattle.clr_moves.proofs.FromMachine.{number_of}
use Rattle.clr_compact.specs.Slides.{HasSlid}
use Rattle.clr_moves.specs.Overlaid.{IsOutside}
use Rattle.clr_compact.proofs.MemoryItems.{IsItemOf, item_of, part_whole, standing}
use Rattle.clr_compact.proofs.Overlaying.{ended_takes}
use Rattle.clr_compact.proofs.PartEnds.{end_same, free_range}
use Rattle.clr_compact.proofs.Respelled.{boundary_at, item_moved, items_over, names_moved, SpellsPiece, tiles_spelled}
use Rattle.clr_compact.proofs.SlidBricks.{mid-part, mid-same}

module _ (rows : List TypeRow) (old : HeapView) (base : Machine) (heap : IsHeap old) (held : IsHeld rows old)
    (none : old.rests ≡ no_rests) (laid : IsLaid (seen rows old base)) (g : Condemned) (keeps : ℕ → Bool)
    (moves : List Move) (after : Layout) (c : FillsParts rows old base g keeps moves after) where
  abbrev m : Machine
  m = seen rows old base

  abbrev Covers : Move → ℕ → Type 0
  Covers v x = (v.start ≤ x) × (x < v.start + v.size)

  am : AreMoves old g moves
  am = c.are

  -- ---- what moves with a plug

  -- a kept object's cell moves with plug k
  pub record IsCarried (place size k : ℕ) : Type 0 where
    pub within : k < length moves
    pub low : (move_at moves k).start ≤ place
    pub high : place + size ≤ (move_at moves k).start + (move_at moves k).size
    pub to : moved_by moves place ≡ (move_at moves k).to + (place - (move_at moves k).start)

  pub carried : (o : Object) → IsIn o (objects_in rows old) → (v : Move) → IsIn v moves → Covers v o.place
      → (k : ℕ) × IsCarried o.place (object_size rows o) k
  carried o present v i (low, up) =
      let going = c.landings.going in
      let filled : IsFilledBy m laid keeps c.survive c.plugs moves going v =
      fills m laid keeps c.survive c.plugs moves going v i in
      let is : IsTile v.to (v.to + v.size) (going_piece m laid keeps c.survive c.plugs moves going o) =
      tile v.to (v.to + v.size) filled.pieces (going_piece m laid keeps c.survive c.plugs moves going o) filled.tiled
      (filled.all o present (low, up)) in
      let high = is.high_end in
      let at = goes_with m laid keeps c.survive c.plugs moves going v i o.place (low, up) in
      let (k, l, same) = number_of moves v i in
      let start : v.start ≡ (move_at moves k).start = ap (λ (w : Move). w.start) same in
      let size : v.size ≡ (move_at moves k).size = ap (λ (w : Move). w.size) same in
      let to : v.to ≡ (move_at moves k).to = ap (λ (w : Move). w.to) same in
      (k, record { within = l; low = omega arith; high = omega arith; to = omega arith })

  -- a kept object that is in a part afterwards moved with a plug
  pub covered_by : (o : Object) → IsIn o (objects_in rows old) → keeps o.name ≡ true → (t : ℕ)
      → IsInPart old g t (moved_by moves o.place)
      → stands_in (segment_at old t) (moved_by moves o.place) ≡ true
      → (k : ℕ) × IsCarried o.place (object_size rows o) k
  covered_by o present stays t into stands = elim (moved-is moves o.place) [
    | inl (v, i, cover, e) ↦ carried o present v i cover
    | inr (uncovered, still) ↦
        let s = segment_at old t in
        let low = into.low in
        absurd (is_covered m laid keeps c.segments (start_of (frame old) g) c.survive c.plugs moves c.landings o
        (c.landings.survives o present stays s (c.among t into.in_range into.takes)
        (subst (λ n. stands_in s n ≡ true) still stands) (omega arith)) uncovered)
  ]

  module _ (new : HeapView) (slid : HasSlid old new g moves) where
    -- the words of its cell are those that they were
    pub carried_words : (place size k : ℕ) → IsCarried place size k → (b : ℕ) → b % 8 ≡ 0 → moved_by moves place ≤ b + 8
        → b + 8 < moved_by moves place + size → word_of new b ≡ word_of old (b + (place - moved_by moves place))
    carried_words place size k is b z low high =
        let to = is.to in
        let a = is.low in
        let e = is.high in
        let lower = (am.each k is.within).lower in
        let same : b + ((move_at moves k).start - (move_at moves k).to) ≡ b + (place - moved_by moves place) =
        omega arith in
        slid.cells k is.within b z (omega arith) (omega arith) ∙ ap (word_of old) same

    -- so the item is the same
    pub record IsSpelledAt (i : Item) (place : ℕ) : Type 0 where
      pub names : NamesItem rows (word_of new) place
      pub is : item_at rows (word_of new) place ≡ record i { place = place }

    pub carried_item : (i : Item) → IsIn i (heap_items rows old) → (k : ℕ) → IsCarried i.place i.size k
        → i.place % 8 ≡ 0 → IsSpelledAt i (moved_by moves i.place)
    carried_item i listed k is z =
        let (same, names) = listed-spelled rows old i heap held listed in
        let size : i.size ≡ (item_at rows (word_of old) i.place).size = ap (λ (j : Item). j.size) same in
        let least_size = names.least in
        let to = is.to in
        let a = is.low in
        let v = am.each k is.within in
        let lower = v.lower in
        let (zs, zn, zt) = v.aligned in
        let p = moved_by moves i.place in
        let aligned : p % 8 ≡ 0 = omega arith in
        let at : p + (i.place - p) ≡ i.place = omega arith in
        let at_len : p + 8 + (i.place - p) ≡ i.place + 8 = omega arith in
        let mt : word_of new p ≡ word_of old i.place =
        carried_words i.place i.size k is p aligned (omega arith) (omega arith) ∙ ap (word_of old) at in
        let len : word_of new (p + 8) ≡ word_of old (i.place + 8) =
        carried_words i.place i.size k is (p + 8) (omega arith) (omega arith) (omega arith)
        ∙ ap (word_of old) at_len in
        record {
          names = names_moved rows (word_of old) (word_of new) p i.place mt len names;
          is = item_moved rows (word_of old) (word_of new) p i.place mt len
              ∙ ap (λ (j : Item). record j { place = p }) (sym same);
        }

    -- ---- words that stay

    -- an address of segment t that isn't in its part is in none
    pub outside_at : (t b : ℕ) → t < length old.segments → first_of old t ≤ b + 8 → b + 8 < room_end old t
        → (takes g (segment_at old t) ≡ true → b + 8 < part_of old g t)
        → IsOutside old g b
    outside_at t b inside low high below u lu takes_u =
        let (a, e, z) = am.starts u lu takes_u in
        elim (cases_order u t) [
          | inl same ↦ let l = below (subst (λ n. takes g (segment_at old n) ≡ true) same takes_u) in
              inr (inl (subst (λ n. (first_of old n ≤ b + 8) × (b + 8 < part_of old g n)) (sym same)
              (low, l)))
          | inr (inl less) ↦ let o = segment_order old u t heap less inside in inr (inr (omega arith))
          | inr (inr more) ↦ let o = segment_order old t u heap more lu in inl (omega arith)
        ]

    rests_same : new.rests ≡ old.rests
    rests_same = ap (λ (h : HeapView). h.rests) slid.others

    pub no_hole : (t q : ℕ) → hole_from (holes_of new t) q ≡ None
    no_hole t q = none_starts new t q (rests_same ∙ none)

    old_no_hole : (t q : ℕ) → hole_from (holes_of old t) q ≡ None
    old_no_hole t q = none_starts old t q none

    in_memory : (t b : ℕ) → t < length old.segments → (segment_at old t).base ≤ b → b < room_end old t
        → memory_index new.memories b < length new.memories
    in_memory t b inside low high =
        rw (
          memory_index-shapes new.memories old.memories b slid.memories,
          length-shapes new.memories old.memories slid.memories,
        ) (held_in old t b heap inside low high)

    -- ---- a segment without a part stays as it is

    pub other_parts : (t : ℕ) → t < length old.segments → takes g (segment_at old t) ≡ false
        → PartsAre rows new t (parts_of rows old t)
    other_parts t inside other =
        let same = slid.rest t inside other in
        let lawful = lawful_at old t heap inside in
        let end = lawful.high in
        let base_low = lawful.base in
        parts_stay rows old new t t (held.walkable t inside) (record {
          first = ap first_place same;
          last = ap (λ (s : SegInfo). s.end) same;
          words = λ b z low high.
              slid.outside b z (outside_at t b inside (omega arith) (omega arith) (λ on. absurd cc));
          holes = λ q low high.
              ap₂ (λ (s : SegInfo) (rs : List (Option Piece)). hole_from (cond (same_kind s.kind Ephemeral) rs []) q)
              same rests_same;
          held = λ b low high in_one.
              rw (
                memory_index-shapes new.memories old.memories b slid.memories,
                length-shapes new.memories old.memories slid.memories,
              ) in_one;
        })

    -- ---- a segment with a part

    module _ (t : ℕ) (inside : t < length old.segments) (part : takes g (segment_at old t) ≡ true) where
      abbrev s : SegInfo
      s = segment_at old t

      abbrev start : ℕ
      start = part_of old g t

      abbrev end : ℕ
      end = c.end s

      known : IsIn s c.segments
      known = c.among t inside part

      pub refill : IsRefill m keeps moves (segment_at old t) (part_of old g t)
          (c.end (segment_at old t))
          (c.free (segment_at old t))
      refill = landed_refill m laid keeps c.segments (start_of (frame old) g) c.survive c.plugs moves c.landings s known
          (c.end s) (c.free s) (c.tiles s known) (c.bounds s known).1

      -- its new end
      pub now_ends : segment_at new t ≡ ended_at (c.end (segment_at old t))
          (segment_at old t)
      now_ends = let (e, at, is) = slid.parts t inside part in
          is ∙ ap (λ n. ended_at n (segment_at old t))
          (end_same rows old base g keeps moves after c heap t inside part e at)

      bounds : (start ≤ end) × (end ≤ reserved_end s)
      bounds = c.bounds s known

      is_tile : (p : Piece) → IsIn p refill.more → IsTile start end p
      is_tile p i = tile start end refill.more p refill.tiled i

      in_part : (p : Piece) → IsIn p refill.more → IsInPart old g t p.place
      in_part p i =
          let is = is_tile p i in
          let low = is.low_gap in
          let high = is.high_end in
          let size = is.size in
          let (a, b) = bounds in
          record { in_range = inside; takes = part; low = omega arith; high = omega arith }

      -- a kept object that is there afterwards
      pub object_there : (o : Object) → IsIn o (objects_in rows old) → keeps o.name ≡ true
          → IsIn (range_after m moves o) refill.more → (k : ℕ) × IsCarried o.place (object_size rows o) k
      object_there o present stays i =
          let into = in_part (range_after m moves o) i in
          let low = into.low in
          let (a, b, z) = am.starts t inside part in
          covered_by o present stays t into (stands s (moved_by moves o.place) (omega arith) into.high)
        where
          stands : (s : SegInfo) (n : ℕ) → first_place s ≤ n → n < reserved_end s → stands_in s n ≡ true
          stands s n a b = between-stands s n a b

      small : reserved_end s ≤ s.base + 1073741824
      small =
          let sum = get_or-le-sum_by (λ (s : SegInfo). s.reserved) old.segments t empty_segment inside in
          let limit = heap.within_limit in
          let most = heap.limit_small in
          omega arith

      -- a new free range is a free item
      pub free_made : (p : Piece)
          → IsIn p (c.free (segment_at old t))
          → Spells (sight rows new t) p.place (item_part (free_item p.place p.size) ∷ []) (p.place + p.size)
      free_made p fresh =
          let i = refill.fresh_more p fresh in
          let f = free_range rows old base g keeps moves after c heap t inside part new slid p fresh in
          let (a, z) = (is_tile p i).size in
          let high = (is_tile p i).high_end in
          let (x, y) = bounds in
          let low = (is_tile p i).low_gap in
          let (fs, rs, zs) = am.starts t inside part in
          let limit = small in
          free_spelled rows new t p.place p.size f.mt f.len (no_hole t p.place) a z (omega arith)

      pub free_is : (p : Piece)
          → IsIn p (c.free (segment_at old t))
          → free_item p.place p.size ≡ item_at rows (word_of new) p.place
      free_is p fresh = (free_made p fresh).1

      -- each piece of the part is spelled
      spells : (p : Piece) → IsIn p refill.more → SpellsPiece rows (word_of new) p
      spells p i = elim (refill.more_is p i) [
        | inl (o, present, stays, is) ↦
            let (k, carries) = object_there o present stays (subst (λ q. IsIn q refill.more) is i) in
            let of : IsItemOf rows old base heap held laid o = item_of rows old base heap held laid o present in
            let place : o.place ≡ of.item.place = ap (λ (x : Object). x.place) of.is in
            let carries_item : IsCarried of.item.place of.item.size k =
            subst (λ n. IsCarried of.item.place n k) of.size
            (subst (λ n. IsCarried n (object_size rows o) k) place carries) in
            let z = (standing rows old base heap held laid of.item of.listed).is.aligned in
            let spelled = carried_item of.item of.listed k carries_item z in
            let at : p.place ≡ moved_by moves of.item.place =
            ap (λ (q : Piece). q.place) is ∙ ap (moved_by moves) place in
            let size : p.size ≡ of.item.size = ap (λ (q : Piece). q.size) is ∙ of.size in
            record {
              names = subst (NamesItem rows (word_of new)) (sym at) spelled.names;
              size = ap (λ n. (item_at rows (word_of new) n).size) at ∙ ap (λ (j : Item). j.size) spelled.is ∙ sym size;
            }
        | inr fresh ↦
            let made = free_made p fresh in
            record { names = made.2; size = ap (λ (j : Item). j.size) (sym made.1) }
      ]

      pub part_spelled : Spells (sight rows new t) start (item_parts (items_over rows (word_of new) refill.more)) end
      part_spelled = tiles_spelled (sight rows new t) start end refill.more refill.tiled (no_hole t) spells

      -- what stands below
      abbrev pub below : List Part
      below = until_place (parts_of rows old t) (part_of old g t)

      start_in : (first_of old t ≤ start) × (start ≤ last_of old t)
      start_in = ((am.starts t inside part).0, c.start_end s known)

      below_was : Spells (sight rows old t) (first_of old t) below start
      below_was =
          let w = held.walkable t inside in
          let (a, b) = start_in in
          until_boundary (sight rows old t) (parts_of rows old t) (first_of old t) (last_of old t) start w.spelled
          (boundary_at (sight rows old t) (parts_of rows old t) (first_of old t) (last_of old t) start w.spelled
          (old_no_hole t) a b (part_whole rows old base heap held laid g keeps moves after c t inside part))

      below_words : (b : ℕ) → b % 8 ≡ 0 → first_of old t ≤ b + 8 → b + 8 < start → word_of new b ≡ word_of old b
      below_words b z low high =
          let (a, e, zs) = am.starts t inside part in
          slid.outside b z (outside_at t b inside (omega arith) (omega arith) (λ _. high))

      below_spelled : Spells (sight rows new t) (first_of old t) below start
      below_spelled =
          Spells-seen (sight rows old t) (word_of new) (holes_of new t) below (first_of old t) start
          (held.walkable t inside).start
          (record {
            words = λ b z low high. below_words b z (omega arith) (omega arith);
            holes = λ q lo hi. no_hole t q ∙ sym (old_no_hole t q);
          }) below_was

      -- THE PARTS of the segment
      pub part_parts : PartsAre rows new t
          (until_place (parts_of rows old t) (part_of old g t)
          ++ item_parts (items_over rows (word_of new) refill.more))
      part_parts =
          let (lo, hi) = bounds in
          parts_from rows new t (below ++ item_parts (items_over rows (word_of new) refill.more)) (holes_of new t)
          (first_of old t) end
          (ap first_place now_ends) (ap (λ (s : SegInfo). s.end) now_ends) refl (held.walkable t inside).start
          (Spells-append (sight rows new t) below (item_parts (items_over rows (word_of new) refill.more))
          (first_of old t) start end below_spelled part_spelled)
          (λ b z low high. in_memory t b inside (omega arith) (omega arith))

    -- every segment is filled
    pub slid_walkable : AreWalkable rows new
    slid_walkable t l =
        let n = slid.count in
        let inside : t < length old.segments = omega arith in
        elim (cases_Bool (takes g (segment_at old t))) [
          | inl on ↦ (part_parts t inside on).walkable
          | inr off ↦ (other_parts t inside off).walkable
        ]

    -- ---- the parts can be walked

    pub takes_same : (t : ℕ) → t < length old.segments → takes g (segment_at new t) ≡ takes g (segment_at old t)
    takes_same = mid-same old g moves new slid (takes g) (ended_takes g)

    pub part_same : (t : ℕ) → t < length old.segments → part_of new g t ≡ part_of old g t
    part_same = mid-part old g moves new slid

    pub base_same : (t : ℕ) → t < length old.segments → (segment_at new t).base ≡ (segment_at old t).base
    base_same = mid-same old g moves new slid (λ (s : SegInfo). s.base) (λ e s. refl)

    part_walk : (t : ℕ) (inside : t < length old.segments) (on : takes g (segment_at old t) ≡ true)
        → CanWalk (sight rows new t) new.memories (part_of new g t) (last_of new t)
    part_walk t inside on =
        let P : ℕ → ℕ → Type 0 = λ p e. CanWalk (sight rows new t) new.memories p e in
        let (lo, hi) = bounds t inside on in
        let (a, b, z) = am.starts t inside on in
        subst₂ P (sym (part_same t inside)) (sym (ap (λ (s : SegInfo). s.end) (now_ends t inside on)))
        (CanWalk-from (sight rows new t) new.memories
        (item_parts (items_over rows (word_of new) (refill t inside on).more)) (part_of old g t)
        (c.end (segment_at old t)) z (part_spelled t inside on)
        (λ b z low high. in_memory t b inside (omega arith) (omega arith)))

    pub slid_parts : ArePartsWalkable rows new g
    slid_parts = record {
      walk = λ t l on. let n = slid.count in let inside : t < length old.segments = omega arith in
          part_walk t inside (sym (takes_same t inside) ∙ on);
      low = λ t l on.
          let n = slid.count in
          let inside : t < length old.segments = omega arith in
          let (a, b, z) = am.starts t inside (sym (takes_same t inside) ∙ on) in
          let base_at = base_same t inside in
          let at = part_same t inside in
          omega arith;
    }

    -- the items of a part
    pub part_listed : (t : ℕ) (inside : t < length old.segments) (on : takes g (segment_at old t) ≡ true)
        → items_of_part rows new g t ≡ items_over rows (word_of new) (refill t inside on).more
    part_listed t inside on =
        let F : ℕ → ℕ → List Item = λ p e. items_between (sight rows new t) p e in
        let over = items_over rows (word_of new) (refill t inside on).more in
        ap (λ b. if b then items_between (sight rows new t) (part_of new g t) (last_of new t) else [])
        (takes_same t inside ∙ on)
        ∙ ap₂ F (part_same t inside) (ap (λ (s : SegInfo). s.end) (now_ends t inside on))
        ∙ ap items_in (spelled_parts (sight rows new t) (item_parts over) (part_of old g t)
        (c.end (segment_at old t)) (part_spelled t inside on))
        ∙ items_of_parts over

    -- all its items
    pub now_listed : (t : ℕ) (inside : t < length old.segments) (on : takes g (segment_at old t) ≡ true)
        → listing rows new t ≡ items_in (until_place (parts_of rows old t) (part_of old g t))
        ++ items_over rows (word_of new) (refill t inside on).more
    now_listed t inside on =
        let over = items_over rows (word_of new) (refill t inside on).more in
        ap items_in (part_parts t inside on).parts
        ∙ items-append (until_place (parts_of rows old t) (part_of old g t)) (item_parts over)
        ∙ ap (λ is. items_in (until_place (parts_of rows old t) (part_of old g t)) ++ is)
        (items_of_parts over)

    pub now_listed_other : (t : ℕ) → t < length old.segments → takes g (segment_at old t) ≡ false
        → listing rows new t ≡ listing rows old t
    now_listed_other t inside off = ap items_in (other_parts t inside off).parts
