-- The front of a segment, from what the search told.
use Rattle.std.proofs.Common.{◌≡◌, ◌⊎◌, inl, inr, ℕ, ◌+◌, ◌*◌, ◌^◌, ◌<◌, ◌≤◌, Bool, true, false, List, [], ◌++◌, length}
use Rattle.std.proofs.Common.{if◌then◌else◌, nat_lt, refl, ap, sym, ◌∙◌, subst, arith, count_by}
use Rattle.std.proofs.lemmas.Bool.{both_ways, cases_Bool, cases_eq, cases_lt, le-ltb, lt-ltb}
use Rattle.clr_types.specs.LawfulLayout.{DoesNotCross}
use Rattle.clr_types.specs.Rising.{IsIn}
use Rattle.clr_types.specs.Segments.{empty_segment, ephemeral, generation, reserved_end, stands_in}
use Rattle.clr_types.specs.Types.{TypeRow}
use Rattle.clr_types.specs.declared.item.Item.{Item}
use Rattle.clr_types.specs.declared.segment.SegInfo.{SegInfo}
use Rattle.clr_types.proofs.ListMembers.{in_append}
use Rattle.clr_types.proofs.RisingLists.{all_at}
use Rattle.clr_types.proofs.SegmentFacts.{between-stands, ephemeral-in, one_home}
use Rattle.clr_heap.specs.Memories.{memory_index}
use Rattle.clr_heap.specs.Parts.{item_at, NamesItem, parts, Sight}
use Rattle.clr_heap.specs.View.{CanWalk, first_of, frame, HasItem, HeapView, IsHeap, items_between, last_of, listing}
use Rattle.clr_heap.specs.View.{no_rests, segment_at, sight, word_of}
use Rattle.clr_heap.proofs.Addresses.{index_is_segment}
use Rattle.clr_heap.proofs.Framing.{lawful_at}
use Rattle.clr_heap.proofs.Walking.{CanWalk-from, walk_done}
use Rattle.clr_model.specs.Lawful.{IsLaid}
use Rattle.clr_model.specs.Machine.{Machine}
use Rattle.clr_view.specs.Memory.{IsMemoryOf}
use Rattle.clr_view.specs.View.{IsHeld, is_object, layout_in}
use Rattle.clr_view.proofs.Items.{IsItem, items-are, stacked-apart}
use Rattle.clr_view.proofs.Listed.{listed-head, listed-low, listed-spelled}
use Rattle.clr_view.proofs.Listings.{listing-are, listing-stacked}
use Rattle.clr_view.proofs.Standing.{listed_from}
use Rattle.clr_sweep.specs.Fronts.{AreBeforeObjects}
use Rattle.clr_sweep.specs.SweptItems.{items_below}
use Rattle.clr_sweep.proofs.ObjectsSwept.{no-holes}
use Rattle.clr_sweep.proofs.Parting.{IsWalkedAt, walked_at}
use Rattle.clr_sweep.proofs.SurvivorsSwept.{at-in, item-in-pieces, seen}
use Rattle.clr_sweep.proofs.WholeSwept.{memory-seen}
use Rattle.clr_bgmark.specs.Bits.{count_below, has_bit}
use Rattle.clr_bgmark.specs.Settling.{AreGood, AreOldBelow, HasObject, IsFoundFront, IsFurthestFront, IsOldGroup}
use Rattle.clr_bgmark.specs.Settling.{IsTakenIn, IsTiledIn}
use Rattle.clr_bgmark.specs.Shades.{cell_of, IsShade, PartView, ShadeView}
use Rattle.clr_bgmark.specs.Tiles.{IsEdge, IsPart}
use Rattle.clr_bgmark.proofs.CellCounts.{count_none}
use Rattle.clr_bgmark.proofs.FrontWalk.{front_walk, IsFrontOf, IsHere, taken_low}
use Rattle.clr_bgmark.proofs.Kept.{covers_inside}

-- ---- generations

-- the generation of a place by the boundaries
abbrev age : Bool → ℕ → ℕ → ℕ → ℕ
age in_it one start a = if in_it then (if nat_lt a one then 2 else (if nat_lt a start then 1 else 0)) else 2

old_age : (one start x e a : ℕ) → age true one start x ≡ 2 → (one ≤ x) ⊎ (e ≤ one) → a < e → age true one start a ≡ 2
old_age one start x e a old (inl high) below =
    let off = le-ltb x one high in
    let young : age true one start x ≡ (if nat_lt x start then 1 else 0) =
    ap (λ (b : Bool). if b then 2 else (if nat_lt x start then 1 else 0)) off in
    absurd (less (nat_lt x start) (sym young ∙ old))
  where
    less : (b : Bool) → ◌≡◌ {A = ℕ} (if b then 1 else 0) 2 → ⊥
    less true e = omega (arith, e)
    less false e = omega (arith, e)
old_age one start x e a old (inr low) below =
    ap (λ (b : Bool). if b then 2 else (if nat_lt a start then 1 else 0)) (lt-ltb a one (omega (arith, low, below)))

module _ (rows : List TypeRow) (h : HeapView) (heap : IsHeap h) (held : IsHeld rows h) (none : h.rests ≡ no_rests)
    (k : ℕ) (inside : k < length h.segments) where
  -- an item of segment k ends in it
  is_item : (i : Item) → IsIn i (listing rows h k) → IsItem rows (first_of h k) (last_of h k) i
  is_item i l = all_at (IsItem rows (first_of h k) (last_of h k)) l (listing-are rows h held.walkable k inside)

  listed : (i : Item) → IsIn i (listing rows h k) → i ≡ item_at rows (word_of h) i.place
  listed i l = (listed-spelled rows h i heap held (listed_from rows h k i inside l)).0

  names : (i : Item) → IsIn i (listing rows h k) → NamesItem rows (word_of h) i.place
  names i l = (listed-spelled rows h i heap held (listed_from rows h k i inside l)).1

  -- where a piece that begins in generation 2 is of it to its end
  old_piece : (m : Machine) → IsMemoryOf rows h m → IsLaid m → (i : Item) → IsIn i (listing rows h k)
      → generation (frame h) i.place ≡ 2 → (a : ℕ) → first_of h k ≤ a → a < i.place + i.size
      → generation (frame h) a ≡ 2
  old_piece m memory laid i l old a low high =
      go (stands_in (ephemeral (frame h)) a) refl
    where
      laid_seen : IsLaid (seen rows h m)
      laid_seen = subst IsLaid (memory-seen rows h m memory) laid

      uncrossed : DoesNotCross h.start1 (record { place = i.place; size = i.size })
      uncrossed = all_at (DoesNotCross h.start1)
          (item-in-pieces rows h m heap held none laid_seen i (listed_from rows h k i inside l)) laid_seen.whole1

      bounds : IsItem rows (first_of h k) (last_of h k) i
      bounds = is_item i l

      here : (b : ℕ) → first_of h k ≤ b → b < i.place + i.size → stands_in (segment_at h k) b ≡ true
      here b up down =
          let below = bounds.below in
          let most = (lawful_at h k heap inside).high in
          between-stands (segment_at h k) b up (omega (arith, down, below, most))

      eph : stands_in (ephemeral (frame h)) a ≡ true → segment_at h k ≡ ephemeral (frame h)
      eph there = one_home (layout_in rows h) laid_seen.layout (segment_at h k) (ephemeral (frame h)) a
          (at-in h.segments k empty_segment inside) (ephemeral-in (layout_in rows h) laid_seen.layout) (here a low high)
          there

      go : (b : Bool) → stands_in (ephemeral (frame h)) a ≡ b → generation (frame h) a ≡ 2
      go false out = ap (λ (b : Bool). age b h.start1 h.start0 a) out
      go true there =
          let up = bounds.above in
          let least = bounds.least in
          let same : stands_in (ephemeral (frame h)) i.place ≡ true =
          ap (λ (u : SegInfo). stands_in u i.place) (sym (eph there)) ∙ here i.place up (omega (arith, least)) in
          let two : age true h.start1 h.start0 i.place ≡ 2 =
          sym (ap (λ (b : Bool). age b h.start1 h.start0 i.place) same) ∙ old in
          ap (λ (b : Bool). age b h.start1 h.start0 a) there
          ∙ old_age h.start1 h.start0 i.place (i.place + i.size) a two uncrossed high

  module _ (s : ShadeView) (p : PartView) (shade : IsShade s) (base : s.base ≡ (segment_at h k).base)
      (part : IsPart s p) (tiled : IsTiledIn rows h k s p) where
    abbrev see : Sight
    see = sight rows h k

    -- ---- no object was found

    pub front_none : IsFoundFront rows h s k (record { place = s.base + 4096; count = 0 })
    front_none =
        let at : s.base + 4096 ≡ first_of h k = ap (λ (b : ℕ). b + 4096) base in
        subst (λ (e : ℕ). IsFoundFront rows h s k (record { place = e; count = 0 })) (sym at) (record {
          parted = record { below = nothing; above = held.walkable k inside };
          old = λ a low high. absurd (omega (arith, low, high));
          found = λ i l o. absurd (empty i (subst (IsIn i) no_items l));
          settled = subst (AreBeforeObjects false) (sym no_items) refl;
          count = sym (ap (count_by is_object) no_items);
        })
      where
        nothing : CanWalk see h.memories (first_of h k) (first_of h k)
        nothing = CanWalk-from see h.memories [] (first_of h k) (first_of h k) (held.walkable k inside).start refl
            (λ a z low high. absurd (omega (arith, low, high)))

        no_items : items_below rows h k (first_of h k) ≡ []
        no_items = walk_done see h.memories (first_of h k) (first_of h k) nothing (omega arith)

        empty : (i : Item) → IsIn i [] → ⊥
        empty i l = elim l [ ]

    -- it passes all that was taken in groups in which nothing was
    pub furthest_none : (words : ℕ) → AreGood (word_of h) s p 0 (64 * words)
        → (IsOldGroup h k s p words → AreGood (word_of h) s p (64 * words) (64 * words + 64) → ⊥)
        → ((c : ℕ) → c < 64 * words → has_bit s.taken c ≡ false)
        → IsFurthestFront rows h k s p (record { place = s.base + 4096; count = 0 })
    furthest_none words good stopped never = record {
      groups = words;
      good = good;
      passed = λ z t below.
          let low = (covers_inside s z t.inside).low in
          absurd (both_ways (has_bit s.taken (cell_of s z)) (never (cell_of s z) (omega (arith, below, low))) t.taken);
      stopped = stopped;
    }

    -- ---- the last one that was found

    module _ (x : ℕ) (at : IsTakenIn s x) where
      abbrev there : HasObject (listing rows h k) x
      there = tiled.stands x at

      abbrev end : ℕ
      end = x + (item_at rows (word_of h) x).size

      pub last_item : HasItem rows h x
      last_item = subst (HasItem rows h) there.at
          (listed-head rows h there.item heap held (listed_from rows h k there.item inside there.listed))

      bounds_of : IsItem rows (first_of h k) (last_of h k) there.item
      bounds_of = is_item there.item there.listed

      last_size : there.item.place + there.item.size ≡ end
      last_size =
          let place = there.at in
          let size = ap (λ (j : Item). j.size) (listed there.item there.listed)
          ∙ ap (λ (y : ℕ). (item_at rows (word_of h) y).size) place in
          omega (arith, place, size)

      last_low : first_of h k ≤ x
      last_low = let up = bounds_of.above in let place = there.at in omega (arith, up, place)

      last_some : x + 24 ≤ end
      last_some = let least = last_item.names.least in omega (arith, least)

      last_high : end ≤ last_of h k
      last_high = let below = bounds_of.below in let size = last_size in omega (arith, below, size)

      last_reserved : last_of h k ≤ reserved_end (segment_at h k)
      last_reserved = (lawful_at h k heap inside).high

      pub last_index : k ≡ memory_index h.memories x
      last_index =
          let low = last_low in let some = last_some in let high = last_high in let most = last_reserved in
          sym (index_is_segment h k x heap inside (omega (arith, low)) (omega (arith, some, high, most)))

      pub last_behind : k ≡ memory_index h.memories (x + 8)
      last_behind =
          let low = last_low in let some = last_some in let high = last_high in let most = last_reserved in
          sym (index_is_segment h k (x + 8) heap inside (omega (arith, low)) (omega (arith, some, high, most)))

      pub last_fits : end ≤ 2 ^ 62
      last_fits =
          let low = listed-low rows h there.item heap held (listed_from rows h k there.item inside there.listed) in
          let size = last_size in
          omega (arith, low, size)

      pub last_used : x + 8 ≤ last_of h k
      last_used = let some = last_some in let high = last_high in omega (arith, some, high)

      -- no item reaches over its end
      uncut : (j : Item) → IsIn j (listing rows h k) → (end ≤ j.place) ⊎ (j.place + j.size ≤ end)
      uncut j l = elim (cases_eq j.place x) [
        | inl e ↦
            let size = ap (λ (i : Item). i.size) (listed j l) ∙ ap (λ (y : ℕ). (item_at rows (word_of h) y).size) e in
            inr (omega (arith, e, size))
        | inr ne ↦
            let place = there.at in
            let size = last_size in
            let some = last_some in
            elim (stacked-apart (listing rows h k) there.item j (listing-stacked rows h held.walkable k inside)
            there.listed l (λ e. ne (sym e ∙ place))) [
              | inl up ↦ inl (omega (arith, up, size))
              | inr down ↦ inr (omega (arith, down, place, some))
            ]
      ]

      cut : IsWalkedAt see h.memories (first_of h k) end (last_of h k)
      cut =
          let low = last_low in
          let some = last_some in
          let aligned = at.aligned in
          let whole = last_item.names.whole in
          walked_at see h.memories (first_of h k) end (last_of h k) (held.walkable k inside)
          (omega (arith, aligned, whole)) (omega (arith, low, some)) last_high (λ q. no-holes h k q none) uncut

      -- it passes each object that was taken no further above
      pub furthest_found : (words count : ℕ) → AreGood (word_of h) s p 0 (64 * words)
          → (IsOldGroup h k s p words → AreGood (word_of h) s p (64 * words) (64 * words + 64) → ⊥)
          → ((c : ℕ) → cell_of s x < c → c < 64 * words → has_bit s.taken c ≡ false)
          → IsFurthestFront rows h k s p (record { place = end; count = count })
      furthest_found words count good stopped last = record {
        groups = words;
        good = good;
        passed = λ z t below.
            let o = tiled.stands z t in
            let place = o.at in
            let size = ap (λ (j : Item). j.size) (listed o.item o.listed)
            ∙ ap (λ (y : ℕ). (item_at rows (word_of h) y).size) place in
            elim (uncut o.item o.listed) [
              | inl up ↦
                  let some = last_some in
                  let low = (covers_inside s x at.inside).low in
                  let whole = at.aligned in
                  let over = t.aligned in
                  let base0 = shade.base in
                  absurd (both_ways (has_bit s.taken (cell_of s z))
                  (last (cell_of s z) (omega (arith, up, place, some, low, whole, over, base0))
                  (omega (arith, below, low, up, place, some)))
                  t.taken)
              | inr down ↦ omega (arith, down, place, size)
            ];
        stopped = stopped;
      }

      module _ (words count : ℕ) (good : AreGood (word_of h) s p 0 (64 * words))
          (counted : count ≡ count_below s.taken (64 * words)) (old : AreOldBelow h k (s.base + 512 * words))
          (low : cell_of s x < 64 * words)
          (last : (c : ℕ) → cell_of s x < c → c < 64 * words → has_bit s.taken c ≡ false) where
        some : x < end
        some = let more = last_some in omega (arith, more)

        abbrev Here : ℕ → Type 0
        Here = IsHere rows h k s p shade part (λ q. no-holes h k q none) tiled.edge (64 * words) good x at low last end
            refl some

        abbrev Front_of : ℕ → List Item → Type 0
        Front_of = IsFrontOf rows h k s p shade part (λ q. no-holes h k q none) tiled.edge (64 * words) good x at low
            last end refl some

        -- what was taken below its end stands there
        below_end : (z : ℕ) → IsTakenIn s z → z < end → HasObject (items_below rows h k end) z
        below_end z t less =
            let o = tiled.stands z t in
            let l : IsIn o.item (items_between see (first_of h k) end ++ items_between see end (last_of h k)) =
            subst (λ (is : List Item). IsIn o.item is) cut.items o.listed in
            elim (in_append (items_between see (first_of h k) end) l) [
              | inl b ↦ record { item = o.item; listed = b; at = o.at; object = o.object }
              | inr u ↦
                  let up = (all_at (IsItem rows end (last_of h k)) u (items-are see (parts (last_of h k) see end
                  (last_of h k)) end (last_of h k) cut.above.start cut.above.spelled)).above in
                  let place = o.at in
                  absurd (omega (arith, up, place, less))
            ]

        walk_begins : Here (first_of h k)
        walk_begins =
            let up = taken_low s p shade part x at in
            record {
              walk = cut.below;
              inside = omega (arith, base);
              below = omega (arith, base, up);
              edge = subst (IsEdge s p) (ap (λ (b : ℕ). b + 4096) base) part.first;
              objects = λ z t from to. below_end z t to;
            }

        walked : Front_of (first_of h k) (items_below rows h k end)
        walked = front_walk rows h k s p shade part (λ q. no-holes h k q none) tiled.edge (64 * words) good x at low
            last end refl some end (first_of h k) walk_begins (omega arith)

        none_before : count_below s.taken (cell_of s (first_of h k)) ≡ 0
        none_before =
            let cell : cell_of s (first_of h k) ≡ 512 = omega (arith, base) in
            ap (count_below s.taken) cell
            ∙ count_none s.taken 0 512 (omega arith) (λ c up down. elim (cases_Bool (has_bit s.taken c)) [
              | inl on ↦ let high = part.taken_low c on in absurd (omega (arith, high, down))
              | inr off ↦ off
            ])

        old_to_end : (m : Machine) → IsMemoryOf rows h m → IsLaid m → AreOldBelow h k end
        old_to_end m memory laid a from to = elim (cases_lt a (s.base + 512 * words)) [
          | inl below ↦ old a from below
          | inr above ↦
              let aligned = at.aligned in
              let inside_s = (covers_inside s x at.inside).low in
              let size = last_size in
              let age = old x last_low (omega (arith, low, inside_s)) in
              old_piece m memory laid there.item there.listed
              (subst (λ (y : ℕ). generation (frame h) y ≡ 2) (sym there.at) age) a from (omega (arith, to, size))
        ]

        -- THE FRONT ends there
        pub front_found : (m : Machine) → IsMemoryOf rows h m → IsLaid m
            → IsFoundFront rows h s k (record { place = end; count = count })
        front_found m memory laid =
            let count_here = walked.count in
            let zero_before = none_before in
            record {
              parted = record { below = cut.below; above = cut.above };
              old = old_to_end m memory laid;
              found = λ i l o.
                  let t = walked.taken i l o in
                  record {
                    aligned = t.0.aligned;
                    inside = t.0.inside;
                    marked = good.found (cell_of s i.place) (omega arith) t.1 t.0.taken;
                  };
              settled = walked.settled false (λ e. absurd cc);
              count = counted ∙ omega (arith, count_here, zero_before);
            }
