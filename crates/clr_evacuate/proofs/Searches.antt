-- A search for a free item that begins where an item does: which items it passes, and what it finds.
use Rattle.std.proofs.Common.{◌≡◌, ℕ, ◌+◌, ◌^◌, ◌<◌, ◌≤◌, inl, inr, true, false, Bool, List, [], ◌∷◌, length, refl, ap}
use Rattle.std.proofs.Common.{ap₂, sym, ◌∙◌, subst, arith, filter, max, min, None, Some, nat_le, nat_lt, ◌&&◌}
use Rattle.std.proofs.Common.{if◌then◌else◌}
use Rattle.std.proofs.lemmas.Bool.{and_parts, both_ways, cases_eq, cases_lt, le-leb, le-ltb, leb-true, lt-leb, lt-ltb}
use Rattle.std.proofs.lemmas.Bool.{ltb-true}
use Rattle.clr_types.specs.Ranges.{fits, Piece}
use Rattle.clr_types.specs.Rising.{first, IsIn, IsRisingBy, later}
use Rattle.clr_types.specs.Types.{TypeRow}
use Rattle.clr_types.specs.declared.item.Item.{Item}
use Rattle.clr_types.proofs.ChangedLists.{all_imply, out_of_filter}
use Rattle.clr_types.proofs.ListMembers.{filter-on, from-map}
use Rattle.clr_types.proofs.RisingLists.{all_at, in_cons}
use Rattle.clr_heap.specs.Memories.{memory_index}
use Rattle.clr_heap.specs.Parts.{item_at, item_part, item_piece, items_in, Part, rest_part, Sight, Spells}
use Rattle.clr_heap.specs.View.{AfterItem, first_of, HasItem, HeapView, IsHeap, items_between, last_of, listing}
use Rattle.clr_heap.specs.View.{no_rests, parts_of, sight, word_of}
use Rattle.clr_heap.proofs.Addresses.{index_is_segment}
use Rattle.clr_heap.proofs.Framing.{below_top_at, lawful_at}
use Rattle.clr_heap.proofs.Spelling.{item_size, place-item_at}
use Rattle.clr_heap.proofs.Walking.{CanWalk-from, spelled_parts, walk_item}
use Rattle.clr_model.specs.Fitting.{lowest_item}
use Rattle.clr_view.specs.View.{free_among, IsHeld, is_free}
use Rattle.clr_view.proofs.Items.{IsItem, stacked-apart, stacked-rise}
use Rattle.clr_view.proofs.Listings.{listing-are, listing-stacked}
use Rattle.clr_generations.specs.Renewing.{CanBegin}
use Rattle.clr_compact.proofs.BrickWalks.{no_hole}
use Rattle.clr_evacuate.specs.Searching.{CanSearchFrom, free_between, older_end}
use Rattle.clr_evacuate.proofs.FirstBetween.{first_between, found, free-is, is_between, passed}

-- ---- among items

-- the size fits in none of these
none_fits : (size : ℕ) (ps : List Piece) → ((p : Piece) → IsIn p ps → fits size p.size ≡ false)
    → lowest_item size ps ≡ None
none_fits size [] never = refl
none_fits size (p ∷ ps) never =
    ap (λ (b : Bool). if b then Some p else lowest_item size ps) (never p first)
    ∙ none_fits size ps (λ q m. never q (later m))

-- nor in a free item between two places
pub finds_none : (low high size : ℕ) (items : List Item)
    → ((i : Item) → IsIn i items → is_free i ≡ true → low ≤ i.place → i.place < high → fits size i.size ≡ false)
    → first_between low high size items ≡ None
finds_none low high size items never = none_fits size (free_between low high items) (λ p m.
    let (between, j) = out_of_filter (is_between low high) p (free_among items) m in
    let (i, e, n) = from-map item_piece p (filter is_free items) j in
    let (free, l) = out_of_filter is_free i items n in
    let (below, above) = and_parts (nat_lt p.place high) (nat_le low p.place) between in
    let at = ap (λ (q : Piece). q.place) e in
    let up = leb-true low p.place above in
    let under = ltb-true p.place high below in
    ap (λ (q : Piece). fits size q.size) e ∙ never i l free (omega (arith, at, up)) (omega (arith, at, under)))

-- one in which it fits is found, where it fits in none below
pub finds : (low high size : ℕ) (items : List Item) (i : Item) → IsRisingBy (λ (j : Item). j.place) items
    → IsIn i items → is_free i ≡ true → low ≤ i.place → i.place < high → fits size i.size ≡ true
    → ((j : Item) → IsIn j items → is_free j ≡ true → low ≤ j.place → j.place < i.place → fits size j.size ≡ false)
    → first_between low high size items ≡ Some (item_piece i)
finds low high size [] i rise m free above below f never = elim m [ ]
finds low high size (j ∷ items) i rise m free above below f never =
    elim (in_cons m) [
      | inl same ↦
          subst (λ (x : Item). first_between low high size (x ∷ items) ≡ Some (item_piece i)) same
          (found low high size i items free below above f)
      | inr more ↦
          let under = all_at (λ (x : Item). j.place < x.place) more rise.0 in
          passed low high size j items (λ is up g. both_ways (fits size j.size)
          (never j first is (leb-true low j.place up) under) g)
          ∙ finds low high size items i rise.1 more free above below f (λ x n. never x (later n))
    ]

-- those between other places are the same, where no item tells them apart
pub same_between : (low high start end : ℕ) (items : List Item)
    → ((i : Item) → IsIn i items → is_between low high (item_piece i) ≡ is_between start end (item_piece i))
    → free_between low high items ≡ free_between start end items
same_between low high start end items same =
    filter-on (is_between low high) (is_between start end) (free_among items) (λ p m.
    let (i, l, e) = free-is items p m in
    subst (λ (q : Piece). is_between low high q ≡ is_between start end q) (sym e) (same i l))

-- what is below one bound already
below_min : (x high last : ℕ) → x < last → nat_lt x high ≡ nat_lt x (min high last)
below_min x high last under =
    elim (cases_lt x high) [
      | inl below ↦ lt-ltb x high below ∙ sym (lt-ltb x (min high last) (omega (arith, below, under)))
      | inr past ↦ le-ltb x high past ∙ sym (le-ltb x (min high last) (omega (arith, past)))
    ]

-- and above another
above_max : (x low base : ℕ) → base ≤ x → nat_le low x ≡ nat_le (max low base) x
above_max x low base above =
    elim (cases_lt x low) [
      | inl below ↦ lt-leb low x below ∙ sym (lt-leb (max low base) x (omega (arith, below)))
      | inr up ↦ le-leb low x up ∙ sym (le-leb (max low base) x (omega (arith, up, above)))
    ]

-- items that rise have places of their own
one_place : (items : List Item) (i j : Item) → IsRisingBy (λ (x : Item). x.place) items → IsIn i items → IsIn j items
    → i.place ≡ j.place → i ≡ j
one_place items i j rise first first e = refl
one_place (x ∷ items) i j rise first (later m) e =
    let over = all_at (λ (y : Item). i.place < y.place) m rise.0 in absurd (omega (arith, e, over))
one_place (x ∷ items) i j rise (later l) first e =
    let over = all_at (λ (y : Item). j.place < y.place) l rise.0 in absurd (omega (arith, e, over))
one_place (x ∷ items) i j rise (later l) (later m) e = one_place items i j rise.1 l m e

-- ---- where a search may begin

-- parts from an item on, which are among all
record FromItem (s : Sight) (ps : List Part) (i : Item) (p e : ℕ) : Type 0 where
  rest : List Part
  spelled : Spells s i.place rest e
  above : p ≤ i.place
  among : (j : Item) → IsIn j (items_in rest) → IsIn j (items_in ps)

from-item : (s : Sight) (ps : List Part) (i : Item) (p e : ℕ) → Spells s p ps e → IsIn i (items_in ps)
    → FromItem s ps i p e
from-item s [] i p e h l = elim l [ ]
from-item s (item_part j ∷ ps) i p e h l =
    let f = item_size s j p h.1 h.2 in
    elim (in_cons l) [
      | inl here ↦
          let at : p ≡ i.place = let place = ap (λ (x : Item). x.place) here in omega arith in
          record {
            rest = item_part j ∷ ps;
            spelled = subst (λ q. Spells s q (item_part j ∷ ps) e) at h;
            above = omega arith;
            among = λ x m. m;
          }
      | inr more ↦
          let r = from-item s ps i (p + j.size) e h.3 more in
          let up = r.above in
          record { rest = r.rest; spelled = r.spelled; above = omega arith; among = λ x m. later (r.among x m) }
    ]
from-item s (rest_part from to ∷ ps) i p e h l =
    let r = from-item s ps i to e h.4 l in
    let up = r.above in
    let b = h.2 in
    record { rest = r.rest; spelled = r.spelled; above = omega arith; among = r.among }

-- The search has come to a place: a walk can go on there, and the size fits in no free item from the start up to it.
pub record IsSearching (rows : List TypeRow) (h : HeapView) (k start size place : ℕ) : Type 0 where
  pub begins : place < last_of h k → CanBegin rows h k place
  pub none : (i : Item) → IsIn i (listing rows h k) → is_free i ≡ true → start ≤ i.place → i.place < place
      → fits size i.size ≡ false
  pub up : start ≤ place

-- it begins
pub searching_starts : (rows : List TypeRow) (h : HeapView) (k start size : ℕ)
    → (start < last_of h k → CanBegin rows h k start) → IsSearching rows h k start size start
searching_starts rows h k start size begins = record {
  begins = begins;
  none = λ i m free above below. absurd (omega (arith, above, below));
  up = omega arith;
}

-- what is known of the item at a place
pub record IsNext (rows : List TypeRow) (h : HeapView) (k place : ℕ) : Type 0 where
  pub item : HasItem rows h place
  pub mt_in : k ≡ memory_index h.memories place
  pub len_in : k ≡ memory_index h.memories (place + 8)
  pub least : 24 ≤ (item_at rows (word_of h) place).size
  pub within : place + (item_at rows (word_of h) place).size ≤ last_of h k
  pub end : last_of h k < 2 ^ 62

module _ (rows : List TypeRow) (h : HeapView) (held : IsHeld rows h) (k : ℕ) (inside : k < length h.segments) where
  rise : IsRisingBy (λ (i : Item). i.place) (listing rows h k)
  rise = stacked-rise (listing rows h k)
      (all_imply (IsItem rows (first_of h k) (last_of h k)) (λ (i : Item). 24 ≤ i.size) (listing rows h k)
      (λ i is. is.least) (listing-are rows h held.walkable k inside))
      (listing-stacked rows h held.walkable k inside)

  -- all items stand between the bounds of the segment
  pub listed_within : (i : Item) → IsIn i (listing rows h k) → (first_of h k ≤ i.place) × (i.place < last_of h k)
  listed_within i m =
      let is = all_at (IsItem rows (first_of h k) (last_of h k)) m (listing-are rows h held.walkable k inside) in
      let above = is.above in
      let below = is.below in
      let least = is.least in
      (above, omega (arith, below, least))

  -- a walk can begin at the first place
  pub first_begins : CanBegin rows h k (first_of h k)
  first_begins = record { low = omega arith; walk = held.walkable k inside; among = λ i m. m }

  -- and at an item
  pub item_begins : (i : Item) → IsIn i (listing rows h k) → CanBegin rows h k i.place
  item_begins i m =
      let whole = held.walkable k inside in
      let r = from-item (sight rows h k) (parts_of rows h k) i (first_of h k) (last_of h k) whole.spelled m in
      let is = all_at (IsItem rows (first_of h k) (last_of h k)) m (listing-are rows h held.walkable k inside) in
      let above = is.above in
      record {
        low = above;
        walk = CanWalk-from (sight rows h k) h.memories r.rest i.place (last_of h k) is.aligned r.spelled
            (λ b aligned from to. whole.held b aligned (omega (arith, above, from)) to);
        among = λ j l. r.among j (subst (λ (ps : List Part). IsIn j (items_in ps))
            (spelled_parts (sight rows h k) r.rest i.place (last_of h k) r.spelled) l);
      }

  -- so a search may begin and end there instead of outside
  pub bounded : (low high : ℕ) → free_between low high (listing rows h k)
      ≡ free_between (max low (first_of h k)) (min high (last_of h k)) (listing rows h k)
  bounded low high =
      same_between low high (max low (first_of h k)) (min high (last_of h k)) (listing rows h k) (λ i m.
      let (above, below) = listed_within i m in
      ap₂ (λ (a b : Bool). a && b) (below_min i.place high (last_of h k) below)
      (above_max i.place low (first_of h k) above))

  -- A search begins where it may, or at the first place.
  pub search_begins : (from : ℕ) → CanSearchFrom rows h from → from < older_end h k
      → CanBegin rows h k (max from (first_of h k))
  search_begins from can below =
      elim (cases_lt (first_of h k) from) [
        | inl above ↦
            let (i, m, at) = can k inside above below in
            let start : i.place ≡ max from (first_of h k) = omega (arith, at, above) in
            subst (CanBegin rows h k) start (item_begins i m)
        | inr low ↦
            let start : first_of h k ≡ max from (first_of h k) = omega (arith, low) in
            subst (CanBegin rows h k) start first_begins
      ]

  module _ (heap : IsHeap h) (none : h.rests ≡ no_rests) (start size place : ℕ)
      (w : IsSearching rows h k start size place) (below : place < last_of h k) where
    abbrev item : Item
    item = item_at rows (word_of h) place

    begin : CanBegin rows h k place
    begin = w.begins below

    step : AfterItem (sight rows h k) h.memories place (last_of h k)
    step = walk_item (sight rows h k) h.memories place (last_of h k) begin.walk below (no_hole h k place none)

    listed : IsIn item (listing rows h k)
    listed = begin.among item (subst (λ (is : List Item). IsIn item is) (sym step.items) first)

    at : item.place ≡ place
    at = place-item_at rows (word_of h) place

    -- the item at the place can be read
    pub can_read : IsNext rows h k place
    can_read =
        let low = begin.low in
        let least = step.names.least in
        let within = step.within in
        let lawful = (lawful_at h k heap inside).high in
        let top = below_top_at h k heap inside in
        let small = heap.top_small in
        record {
          item = record { names = step.names; mt = step.mt; len = step.len };
          mt_in = sym (index_is_segment h k place heap inside (omega arith) (omega arith));
          len_in = sym (index_is_segment h k (place + 8) heap inside (omega arith) (omega arith));
          least = least;
          within = within;
          end = omega arith;
        }

    -- it is what is searched, where it is free and the size fits
    pub search_finds : (end : ℕ) → place < end → is_free (item_at rows (word_of h) place) ≡ true
        → fits size (item_at rows (word_of h) place).size ≡ true
        → first_between start end size (listing rows h k)
        ≡ Some (record { place = place; size = (item_at rows (word_of h) place).size })
    search_finds end under free f =
        let up = w.up in
        finds start end size (listing rows h k) item rise listed free (omega (arith, up, at)) (omega (arith, under, at))
        f (λ j m is above less. w.none j m is above (omega (arith, less, at)))
        ∙ ap (λ (p : ℕ). Some (record { place = p; size = item.size })) at

    -- and else it is passed
    pub search_on : (is_free (item_at rows (word_of h) place) ≡ true
        → fits size (item_at rows (word_of h) place).size ≡ false)
        → IsSearching rows h k start size (place + (item_at rows (word_of h) place).size)
    search_on fails =
        let least = step.names.least in
        let low = begin.low in
        let up = w.up in
        record {
          begins = λ more. record {
            low = omega (arith, low);
            walk = step.walk;
            among = λ j l. begin.among j (subst (λ (is : List Item). IsIn j is) (sym step.items) (later l));
          };
          none = λ j m free above under. elim (cases_eq j.place place) [
            | inl same ↦
                let is : item ≡ j = one_place (listing rows h k) item j rise listed m (at ∙ sym same) in
                subst (λ (x : Item). is_free x ≡ true → fits size x.size ≡ false) is fails free
            | inr ne ↦ elim (stacked-apart (listing rows h k) j item (listing-stacked rows h held.walkable k inside)
                m listed (λ e. ne (e ∙ at))) [
                  | inl before ↦
                      let is = all_at (IsItem rows (first_of h k) (last_of h k)) m
                      (listing-are rows h held.walkable k inside) in
                      let some = is.least in
                      w.none j m free above (omega (arith, before, at, some))
                  | inr behind ↦ absurd (omega (arith, behind, at, under))
                ]
          ];
          up = omega (arith, up);
        }

-- at the end there is none
pub search_ends : (rows : List TypeRow) (h : HeapView) (k start size place end : ℕ)
    → IsSearching rows h k start size place → end ≤ place
    → first_between start end size (listing rows h k) ≡ None
search_ends rows h k start size place end w past =
    finds_none start end size (listing rows h k) (λ i m free above below.
    w.none i m free above (omega (arith, below, past)))
