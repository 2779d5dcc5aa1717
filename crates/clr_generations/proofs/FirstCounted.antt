-- A search for the first object that counts on a walk over the items of a segment, and for that of a brick.
use Rattle.std.proofs.Common.{◌≡◌, ◌⊎◌, inl, inr, ℕ, ◌+◌, ◌*◌, ◌/◌, ◌^◌, ◌<◌, ◌≤◌, min, Bool, true, false, ◌&&◌}
use Rattle.std.proofs.Common.{List, [], ◌∷◌, ◌++◌, length, refl, ap, sym, ◌∙◌, subst, arith, cond, ℤ, Option, Some}
use Rattle.std.proofs.Common.{MatchOption, None}
use Rattle.std.proofs.lemmas.Bool.{and_parts, both_ways, cases_eq, cases_lt}
use Rattle.clr_types.specs.Ranges.{Piece}
use Rattle.clr_types.specs.Rising.{first, IsIn, later}
use Rattle.clr_types.specs.Segments.{same_kind, stands_in}
use Rattle.clr_types.specs.Types.{TypeRow}
use Rattle.clr_types.specs.declared.item.Item.{Item}
use Rattle.clr_types.specs.declared.segment.SegInfo.{SegInfo}
use Rattle.clr_types.specs.declared.segment.SegKind.TheVariants.{Ephemeral}
use Rattle.clr_types.proofs.ListMembers.{append_right}
use Rattle.clr_types.proofs.RisingLists.{in_cons}
use Rattle.clr_bricks.specs.Bricks.{IsRoot, root_entry}
use Rattle.clr_heap.specs.Memories.{memory_index}
use Rattle.clr_heap.specs.Parts.{hole_from, item_at, item_part, items_in, Part, parts, rest_part, Sight, Spells}
use Rattle.clr_heap.specs.View.{first_of, HasItem, heap_items, HeapView, holes_of, IsHeap}
use Rattle.clr_heap.specs.View.{items_between, last_of, listing, no_rests, parts_of, segment_at, sight, word_of}
use Rattle.clr_heap.proofs.Addresses.{index_is_segment}
use Rattle.clr_heap.proofs.Framing.{below_top_at, lawful_at}
use Rattle.clr_heap.proofs.Spelling.{item_size, place-item_at, Spells-append}
use Rattle.clr_heap.proofs.Walking.{CanWalk-from, spelled_parts, walk_item}
use Rattle.clr_view.specs.View.{IsHeld, is_object, objects_in}
use Rattle.clr_view.proofs.Items.{stacked-apart}
use Rattle.clr_view.proofs.Listings.{heap-stacked, items-append}
use Rattle.clr_view.proofs.ObjectItems.{stands-item}
use Rattle.clr_view.proofs.Standing.{listed_from, standing, stands_from}
use Rattle.clr_generations.specs.Laws.{IsBrickOf, Stands}
use Rattle.clr_generations.specs.Renewing.{CanBegin, HasBorder, HasNoStart, HasTold, IsBorder, IsFirstFrom, IsFirstIn}
use Rattle.clr_generations.specs.Renewing.{IsSearchStart, NoneCounted, NoneCountedIn}
use Rattle.clr_generations.proofs.FoundItems.{only-segment}
use Rattle.clr_generations.proofs.HeapHomes.{brick-in, heap_homes, whole_bricks}
use Rattle.clr_generations.proofs.Homes.{HaveHomes, stands-home, unnamed-young}

-- ---- where a walk can begin

-- parts from an item on, which are among all
record FromHere (s : Sight) (ps : List Part) (i : Item) (p e : ℕ) : Type 0 where
  rest : List Part
  spelled : Spells s i.place rest e
  above : p ≤ i.place
  among : (j : Item) → IsIn j (items_in rest) → IsIn j (items_in ps)

from-here : (s : Sight) (ps : List Part) (i : Item) (p e : ℕ) → Spells s p ps e → IsIn i (items_in ps)
    → FromHere s ps i p e
from-here s [] i p e h l = elim l [ ]
from-here s (item_part j ∷ ps) i p e h l =
    let f = item_size s j p h.1 h.2 in
    elim (in_cons l) [
      | inl here ↦
          let at : p ≡ i.place = let place = ap (λ (x : Item). x.place) here in omega arith in
          record {
            rest = item_part j ∷ ps;
            spelled = subst (λ q. Spells s q (item_part j ∷ ps) e) at h;
            above = omega arith;
            among = λ x m. m;
          }
      | inr more ↦
          let r = from-here s ps i (p + j.size) e h.3 more in
          let up = r.above in
          record { rest = r.rest; spelled = r.spelled; above = omega arith; among = λ x m. later (r.among x m) }
    ]
from-here s (rest_part from to ∷ ps) i p e h l =
    let r = from-here s ps i to e h.4 l in
    let up = r.above in
    let b = h.2 in
    record { rest = r.rest; spelled = r.spelled; above = omega arith; among = r.among }

-- the items from a place on that no item reaches over are among all
border-among : (s : Sight) (low high : List Part) (p c e : ℕ) → Spells s p low c → Spells s c high e → (i : Item)
    → IsIn i (items_between s c e) → IsIn i (items_between s p e)
border-among s low high p c e below above i l =
    let all = spelled_parts s (low ++ high) p e (Spells-append s low high p c e below above) in
    let some = spelled_parts s high c e above in
    subst (λ (ps : List Part). IsIn i (items_in ps)) (sym all)
    (subst (λ (is : List Item). IsIn i is) (sym (items-append low high))
    (append_right (items_in low) (subst (λ (ps : List Part). IsIn i (items_in ps)) some l)))

-- where no thread has a context, no hole starts
no_hole : (h : HeapView) (k p : ℕ) → h.rests ≡ no_rests → hole_from (holes_of h k) p ≡ None
no_hole h k p none = go (same_kind (segment_at h k).kind Ephemeral)
  where
    go : (b : Bool) → hole_from (cond b h.rests []) p ≡ None
    go true = ap (λ (rs : List (Option Piece)). hole_from rs p) none
    go false = refl

-- at a place that no item reaches over
border-begins : (rows : List TypeRow) (h : HeapView) (k place : ℕ) → first_of h k ≤ place
    → IsBorder rows h k place → CanBegin rows h k place
border-begins rows h k place low border = record {
  low = low;
  walk = border.above;
  among = border-among (sight rows h k) (parts place (sight rows h k) (first_of h k) place)
      (parts (last_of h k) (sight rows h k) place (last_of h k)) (first_of h k) place (last_of h k)
      border.below.spelled border.above.spelled;
}

-- a search from `start` on has come to a place
pub record IsSearch (rows : List TypeRow) (h : HeapView) (counts : ℕ → Bool) (k start place : ℕ) : Type 0 where
  pub begins : place < last_of h k → CanBegin rows h k place
  pub none : NoneCounted rows h counts start place
  pub up : start ≤ place

pub search_starts : (rows : List TypeRow) (h : HeapView) (counts : ℕ → Bool) (k start : ℕ)
    → (start < last_of h k → CanBegin rows h k start) → IsSearch rows h counts k start start
search_starts rows h counts k start begins = record {
  begins = begins;
  none = λ x counted low high. absurd (omega arith);
  up = omega arith;
}

module _ (rows : List TypeRow) (h : HeapView) (heap : IsHeap h) (held : IsHeld rows h) (none : h.rests ≡ no_rests)
    (k : ℕ) (inside : k < length h.segments) where
  abbrev s : SegInfo
  s = segment_at h k

  abbrev homes : HaveHomes rows (objects_in rows h) (segment_at h k)
  homes = heap_homes rows h heap held k inside

  -- at an object of the segment
  object-begins : (place : ℕ) → Stands (objects_in rows h) place → first_of h k ≤ place → place < last_of h k
      → CanBegin rows h k place
  object-begins place stands low high =
      let at = stands-item rows h heap held place stands in
      let there = standing rows h heap held (item_at rows (word_of h) place) at.listed in
      let same = at.at in
      let up = there.above in
      let down = there.below in
      let least = there.least in
      let home : there.segment ≡ k =
      only-segment rows h heap held k place inside there.segment there.in_range (omega arith) (omega arith)
      (omega arith) (omega arith) in
      let listed = subst (λ j. IsIn (item_at rows (word_of h) place) (listing rows h j)) home there.listed in
      let whole = held.walkable k inside in
      let r = from-here (sight rows h k) (parts_of rows h k) (item_at rows (word_of h) place) (first_of h k)
      (last_of h k) whole.spelled listed in
      let spelled = subst (λ (p : ℕ). Spells (sight rows h k) p r.rest (last_of h k)) same r.spelled in
      let z = there.aligned in
      record {
        low = low;
        walk = CanWalk-from (sight rows h k) h.memories r.rest place (last_of h k) (omega arith) spelled
            (λ b aligned from to. whole.held b aligned (omega arith) to);
        among = λ j m. r.among j (subst (λ (ps : List Part). IsIn j (items_in ps))
            (spelled_parts (sight rows h k) r.rest place (last_of h k) spelled) m);
      }

  -- ---- an item on the way
  module _ (counts : ℕ → Bool) (start place : ℕ) (w : IsSearch rows h counts k start place)
      (below : place < last_of h k) where
    abbrev i : Item
    i = item_at rows (word_of h) place

    begin : CanBegin rows h k place
    begin = w.begins below

    -- what is known of the item at the place
    pub record CanGoOn : Type 0 where
      pub item : HasItem rows h place
      pub mt_in : k ≡ memory_index h.memories place
      pub len_in : k ≡ memory_index h.memories (place + 8)
      pub room : place + 8 < 2 ^ 64
      pub at : (item_at rows (word_of h) place).place ≡ place
      pub least : 24 ≤ (item_at rows (word_of h) place).size
      pub within : place + (item_at rows (word_of h) place).size ≤ last_of h k
      pub end : last_of h k < 2 ^ 62
      pub listed : IsIn (item_at rows (word_of h) place) (heap_items rows h)

    pub can_go_on : CanGoOn
    can_go_on =
        let step = walk_item (sight rows h k) h.memories place (last_of h k) begin.walk below
        (no_hole h k place none) in
        let here = begin.among i (subst (λ (is : List Item). IsIn i is) (sym step.items) first) in
        let low = begin.low in
        let least = step.names.least in
        let within = step.within in
        let lawful = (lawful_at h k heap inside).high in
        let top = below_top_at h k heap inside in
        let small = heap.top_small in
        record {
          item = record { names = step.names; mt = step.mt; len = step.len };
          mt_in = sym (index_is_segment h k place heap inside (omega arith) (omega arith));
          len_in = sym (index_is_segment h k (place + 8) heap inside (omega arith) (omega arith));
          room = omega arith;
          at = place-item_at rows (word_of h) place;
          least = least;
          within = within;
          end = omega arith;
          listed = listed_from rows h k i inside here;
        }

    -- what stands before the item's end
    before : (x : ℕ) → Stands (objects_in rows h) x → x < place + i.size
        → (x < place) ⊎ ((x ≡ place) × (is_object i ≡ true))
    before x stands under =
        let can = can_go_on in
        let at = can.at in
        let least = can.least in
        let j = stands-item rows h heap held x stands in
        let place' = j.at in
        elim (cases_eq x place) [
          | inl same ↦ inr (same, subst (λ (p : ℕ). is_object (item_at rows (word_of h) p) ≡ true) same j.object)
          | inr ne ↦ elim (stacked-apart (heap_items rows h) i (item_at rows (word_of h) x)
              (heap-stacked rows h held.walkable heap) can.listed j.listed (λ e. ne (sym place' ∙ sym e ∙ at))) [
                | inl up ↦ absurd (omega arith)
                | inr down ↦ elim (cases_lt x place) [ inl less ↦ inl less | inr more ↦ absurd (omega arith) ]
              ]
        ]

    -- an object that counts is the first one
    pub search_found : (past : ℕ) → place < past
        → (is_object (item_at rows (word_of h) place) && counts (word_of h place)) ≡ true
        → IsFirstFrom rows h counts start past place
    search_found past under both =
        let parts = and_parts (is_object i) (counts (word_of h place)) both in
        let can = can_go_on in
        record {
          counted = record {
            stands = subst (λ (p : ℕ). Stands (objects_in rows h) p) can.at (stands_from rows h i can.listed parts.0);
            counted = parts.1;
          };
          low = w.up;
          high = under;
          first = w.none;
        }

    -- any other item is passed
    pub search_on : (is_object (item_at rows (word_of h) place) && counts (word_of h place)) ≡ false
        → IsSearch rows h counts k start (place + (item_at rows (word_of h) place).size)
    search_on other =
        let can = can_go_on in
        let least = can.least in
        let low = begin.low in
        let up = w.up in
        let step = walk_item (sight rows h k) h.memories place (last_of h k) begin.walk below
        (no_hole h k place none) in
        record {
          begins = λ more. record {
            low = omega arith;
            walk = step.walk;
            among = λ j l. begin.among j (subst (λ (is : List Item). IsIn j is) (sym step.items) (later l));
          };
          none = λ x is from to. elim (before x is.stands to) [
            | inl less ↦ w.none x is from less
            | inr (same, object) ↦
                let counted = subst (λ (p : ℕ). counts (word_of h p) ≡ true) same is.counted in
                both_ways (is_object i && counts (word_of h place)) other (rw (object, counted) refl)
          ];
          up = omega arith;
        }

  -- ---- a brick
  module _ (brick : ℕ) (low : first_of h k ≤ 4096 * brick) (high : 4096 * brick < last_of h k) (young : ℕ) (entry : ℤ)
      (told : HasTold (objects_in rows h) young brick entry) where
    -- a brick of the segment
    of : IsBrickOf s brick
    of = brick-in h k brick heap inside (let base = (whole_bricks h k heap inside).base in omega arith) high

    within : (x : ℕ) → Stands (objects_in rows h) x → x / 4096 ≡ brick → x < last_of h k
    within x stands at =
        let in_s = stands-home rows (objects_in rows h) s x homes stands
        (subst (λ (b : ℕ). IsBrickOf s b) (sym at) of) in
        let place = stands.2 in
        let under = homes.within stands.0 stands.1 (subst (λ (p : ℕ). stands_in s p ≡ true) (sym place) in_s) in
        let least = homes.least stands.0 stands.1 in
        omega arith

    -- what no entry names is young
    unnamed : (IsRoot entry → ⊥) → (x : ℕ) → Stands (objects_in rows h) x → x / 4096 ≡ brick
        → (young ≤ x) × (4096 * brick < young)
    unnamed never x stands at =
        let from = unnamed-young told.before x (λ may. never (told.starts x stands at may)) in
        let above = from.0 in
        let under = from.1 in
        let same = told.start0 in
        (omega arith, omega arith)

    -- a search can begin where it should
    pub start_begins : HasBorder rows h k young → (start : ℕ) → IsSearchStart entry brick young start
        → start < last_of h k → CanBegin rows h k start
    start_begins border start (inl (offset, is, at)) below =
        let leads = told.named offset is in
        object-begins start (subst (λ (p : ℕ). Stands (objects_in rows h) p) (sym at) leads.stands) (omega arith)
        below
    start_begins border start (inr (never, here, at)) below =
        subst (CanBegin rows h k) (sym at)
        (border-begins rows h k young (omega arith) (border (omega arith) (omega arith)))

    -- and meets all objects of the brick
    start_low : (start : ℕ) → IsSearchStart entry brick young start → (x : ℕ) → Stands (objects_in rows h) x
        → x / 4096 ≡ brick → start ≤ x
    start_low start (inl (offset, is, at)) x stands in_brick =
        let least = (told.named offset is).first x stands in_brick in omega arith
    start_low start (inr (never, here, at)) x stands in_brick =
        let above = (unnamed never x stands in_brick).0 in omega arith

    -- what the entry names can be read
    pub named_below : (offset : ℕ) → entry ≡ root_entry offset → 4096 * brick + offset < last_of h k
    named_below offset is =
        let leads = told.named offset is in within (4096 * brick + offset) leads.stands leads.inside

    pub named_search : HasBorder rows h k young → (counts : ℕ → Bool) (offset : ℕ) → entry ≡ root_entry offset
        → IsSearch rows h counts k (4096 * brick + offset) (4096 * brick + offset)
    named_search border counts offset is =
        search_starts rows h counts k (4096 * brick + offset)
        (start_begins border (4096 * brick + offset) (inl (offset, is, refl)))

    -- and where it counts, it is the first one
    pub named_first : (counts : ℕ → Bool) (offset : ℕ) → entry ≡ root_entry offset
        → counts (word_of h (4096 * brick + offset)) ≡ true → IsFirstIn rows h counts brick (4096 * brick + offset)
    named_first counts offset is passes =
        let leads = told.named offset is in
        record {
          counted = record { stands = leads.stands; counted = passes };
          inside = leads.inside;
          first = λ x other at. leads.first x other.stands at;
        }

    start_in : (start : ℕ) → IsSearchStart entry brick young start → start / 4096 ≡ brick
    start_in start (inl (offset, is, at)) =
        let inside' = (told.named offset is).inside in ap (λ (p : ℕ). p / 4096) at ∙ inside'
    start_in start (inr (never, here, at)) = ap (λ (p : ℕ). p / 4096) at ∙ here

    -- WHAT THE SEARCH FINDS is the brick's first object that counts
    pub found_in : (counts : ℕ → Bool) (start past : ℕ) → IsSearchStart entry brick young start
        → past ≡ min (last_of h k) (4096 * brick + 4096) → (found : Option ℕ)
        → MatchOption found (NoneCounted rows h counts start past) (IsFirstFrom rows h counts start past)
        → MatchOption found (NoneCountedIn rows h counts brick) (IsFirstIn rows h counts brick)
    found_in counts start past begins most None none' = λ x is at.
        let below = within x is.stands at in
        none' x is (start_low start begins x is.stands at) (omega arith)
    found_in counts start past begins most (Some place) is =
        let from = start_in start begins in
        let up = is.low in
        let under = is.high in
        record {
          counted = is.counted;
          inside = omega arith;
          first = λ x other at. elim (cases_lt x place) [
            | inl less ↦ absurd (is.first x other (start_low start begins x other.stands at) less)
            | inr more ↦ more
          ];
        }

    -- and where there is nothing to search from, there is none
    pub found_none : (counts : ℕ → Bool) → HasNoStart entry brick young → NoneCountedIn rows h counts brick
    found_none counts (never, elsewhere) x is at =
        let from = unnamed never x is.stands at in
        let above = from.0 in
        let under = from.1 in
        elsewhere (omega arith)
