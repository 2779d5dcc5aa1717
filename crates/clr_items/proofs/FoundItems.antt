-- A walk passes over items until it meets a free one in which a size fits.
use Rattle.std.proofs.Common.{◌≡◌, ℕ, ◌+◌, ◌^◌, ◌<◌, ◌≤◌, true, false, Bool, List, [], ◌∷◌, ◌++◌, length, refl, ap}
use Rattle.std.proofs.Common.{◌⊎◌, inl, inr, sym, subst, None, ap₂, ◌∙◌, arith, filter, find, map, Option, Some}
use Rattle.std.proofs.Common.{nat_le, if◌then◌else◌}
use Rattle.std.specs.List.{AllByRecursion}
use Rattle.std.proofs.lemmas.Bool.{both_ways, eq-eqb, le-leb, lt-leb}
use Rattle.std.proofs.lemmas.List.Elements.{filter-append}
use Rattle.clr_types.specs.Rising.{first, IsIn, IsRisingBy, later}
use Rattle.clr_types.specs.Types.{TypeRow}
use Rattle.clr_types.specs.Ranges.{fits, Piece}
use Rattle.clr_types.specs.declared.item.Item.{Item}
use Rattle.clr_types.proofs.ChangedLists.{all_imply}
use Rattle.clr_types.proofs.RisingLists.{all_at, in_cons}
use Rattle.clr_heap.specs.Parts.{item_piece}
use Rattle.clr_heap.specs.View.{first_of, HeapView, IsHeap, last_of, listing}
use Rattle.clr_heap.proofs.Framing.{below_top_at, lawful_at}
use Rattle.clr_view.specs.View.{free_among, IsHeld, is_free}
use Rattle.clr_view.proofs.Items.{IsItem}
use Rattle.clr_view.proofs.Listings.{free-append, listing-are}
use Rattle.clr_items.specs.Items.{first_fitting, free_from}
use Rattle.clr_items.proofs.Lists.{place}

-- ---- free items from a place on

-- where all items stand at a place or above it, the free ones from there on are all free ones
pub from_there : (start : ℕ) (items : List Item) → AllByRecursion (λ (i : Item). start ≤ i.place) items
    → free_from start items ≡ free_among items
from_there start [] all = refl
from_there start (i ∷ items) all = go (is_free i) (from_there start items all.1)
  where
    go : (b : Bool) → free_from start items ≡ free_among items
        → filter (λ (p : Piece). nat_le start p.place)
        (map item_piece (if b then i ∷ filter is_free items else filter is_free items))
        ≡ map item_piece (if b then i ∷ filter is_free items else filter is_free items)
    go true rest =
        ap (λ (b : Bool). if b then item_piece i ∷ free_from start items else free_from start items)
        (le-leb start i.place all.0)
        ∙ ap (λ (ps : List Piece). item_piece i ∷ ps) rest
    go false rest = rest

-- where all items stand below it, there are none
pub below_there : (start : ℕ) (items : List Item) → AllByRecursion (λ (i : Item). i.place < start) items
    → free_from start items ≡ []
below_there start [] all = refl
below_there start (i ∷ items) all = go (is_free i) (below_there start items all.1)
  where
    go : (b : Bool) → free_from start items ≡ []
        → filter (λ (p : Piece). nat_le start p.place)
        (map item_piece (if b then i ∷ filter is_free items else filter is_free items)) ≡ []
    go true rest =
        ap (λ (b : Bool). if b then item_piece i ∷ free_from start items else free_from start items)
        (lt-leb start i.place all.0)
        ∙ rest
    go false rest = rest

-- the free items from a place on among those below it and those from there on
pub parted_there : (start : ℕ) (low high : List Item) → AllByRecursion (λ (i : Item). i.place < start) low
    → AllByRecursion (λ (i : Item). start ≤ i.place) high → free_from start (low ++ high) ≡ free_among high
parted_there start low high below above =
    ap (filter (λ (p : Piece). nat_le start p.place)) (free-append low high)
    ∙ filter-append (λ (p : Piece). nat_le start p.place) (free_among low) (free_among high)
    ∙ ap₂ (λ (ps qs : List Piece). ps ++ qs) (below_there start low below) (from_there start high above)

-- ---- the walk

-- the item ends within 64 bits
abbrev pub EndsWithin : Item → Type 0
EndsWithin i = i.place + i.size < 2 ^ 64

-- the first of the free items from a place on in which a size fits
abbrev pub first_found : ℕ → ℕ → List Item → Option Piece
first_found start size items = first_fitting size (free_from start items)

-- an item that a search passes over, and one at which it stops
pub found_not : (start size : ℕ) (i : Item) (items : List Item)
    → (is_free i ≡ true → nat_le start i.place ≡ true → fits size i.size ≡ true → ⊥)
    → first_found start size (i ∷ items) ≡ first_found start size items
found_not start size i items fails = go (is_free i) refl
  where
    last : (b : Bool) → fits size i.size ≡ b → is_free i ≡ true → nat_le start i.place ≡ true
        → (if b then Some (item_piece i) else first_found start size items) ≡ first_found start size items
    last true f e g = absurd (fails e g f)
    last false f e g = refl

    next : (b : Bool) → nat_le start i.place ≡ b → is_free i ≡ true
        → find (λ (p : Piece). fits size p.size)
        (if b then item_piece i ∷ free_from start items else free_from start items) ≡ first_found start size items
    next true g e = last (fits size i.size) refl e g
    next false g e = refl

    go : (b : Bool) → is_free i ≡ b
        → find (λ (p : Piece). fits size p.size)
        (filter (λ (p : Piece). nat_le start p.place)
        (map item_piece (if b then i ∷ filter is_free items else filter is_free items))) ≡ first_found start size items
    go true e = next (nat_le start i.place) refl e
    go false e = refl

pub found_here : (start size : ℕ) (i : Item) (items : List Item) → is_free i ≡ true → nat_le start i.place ≡ true
    → fits size i.size ≡ true → first_found start size (i ∷ items) ≡ Some (item_piece i)
found_here start size i items e g f =
    ap (λ (b : Bool). find (λ (p : Piece). fits size p.size)
    (filter (λ (p : Piece). nat_le start p.place)
    (map item_piece (if b then i ∷ filter is_free items else filter is_free items)))) e
    ∙ ap (λ (b : Bool). find (λ (p : Piece). fits size p.size)
    (if b then item_piece i ∷ free_from start items else free_from start items)) g
    ∙ ap (λ (b : Bool). if b then Some (item_piece i) else first_found start size items) f

pub walk_stops : (start size : ℕ) (i : Item) (left items : List Item) → left ≡ i ∷ items → i.type_id.0 ≡ 0
    → start ≤ i.place → fits size i.size ≡ true → first_found start size left ≡ Some (item_piece i)
walk_stops start size i left items is free old f =
    ap (first_found start size) is
    ∙ found_here start size i items (eq-eqb i.type_id.0 0 free) (le-leb start i.place old) f

-- all items of a segment end so
pub all_within : (rows : List TypeRow) (h : HeapView) (k : ℕ) → IsHeap h → IsHeld rows h → k < length h.segments
    → AllByRecursion EndsWithin (listing rows h k)
all_within rows h k heap held inside =
    let end = (lawful_at h k heap inside).high in
    let top = below_top_at h k heap inside in
    let small = heap.top_small in
    all_imply (IsItem rows (first_of h k) (last_of h k)) EndsWithin (listing rows h k)
    (λ i is. let below = is.below in omega arith) (listing-are rows h held.walkable k inside)

-- ---- what a search finds

-- it is one of the items, and passes
pub found_passes : (test : Piece → Bool) (ps : List Piece) (p : Piece) → find test ps ≡ Some p
    → IsIn p ps × (test p ≡ true)
found_passes test [] p e = absurd (cc)
found_passes test (x ∷ ps) p e = go (test x) refl e (found_passes test ps p)
  where
    go : (b : Bool) → test x ≡ b → (if b then Some x else find test ps) ≡ Some p
        → (find test ps ≡ Some p → IsIn p ps × (test p ≡ true)) → IsIn p (x ∷ ps) × (test p ≡ true)
    go true t is more =
        let same : x ≡ p = cc in
        (subst (λ q. IsIn q (x ∷ ps)) same first, ap test (sym same) ∙ t)
    go false t is more = let (i, passes) = more is in (later i, passes)

-- it stands lowest of those that pass, where the items rise
pub found_lowest : (test : Piece → Bool) (ps : List Piece) (p q : Piece) → IsRisingBy place ps → find test ps ≡ Some p
    → IsIn q ps → test q ≡ true → p.place ≤ q.place
found_lowest test [] p q rise e i passes = elim i [ ]
found_lowest test (x ∷ ps) p q rise e i passes =
    go (test x) refl e (in_cons i) (λ is j. found_lowest test ps p q rise.1 is j passes)
  where
    go : (b : Bool) → test x ≡ b → (if b then Some x else find test ps) ≡ Some p → (q ≡ x) ⊎ IsIn q ps
        → (find test ps ≡ Some p → IsIn q ps → p.place ≤ q.place) → p.place ≤ q.place
    go true t is (inl same) more =
        let here : x ≡ p = cc in
        let low = ap place here in
        let own = ap place same in
        omega (arith, low, own)
    go true t is (inr j) more =
        let here : x ≡ p = cc in
        let low = ap place here in
        let above = all_at (λ (y : Piece). x.place < place y) j rise.0 in
        omega (arith, low, above)
    go false t is (inl same) more = absurd (both_ways (test x) t (subst (λ y. test y ≡ true) same passes))
    go false t is (inr j) more = more is j

-- where it finds nothing, none passes
pub none_found : (test : Piece → Bool) (ps : List Piece) (q : Piece) → find test ps ≡ None → IsIn q ps
    → test q ≡ true → ⊥
none_found test [] q e i passes = elim i [ ]
none_found test (x ∷ ps) q e i passes = go (test x) refl e (in_cons i) (λ is j. none_found test ps q is j passes)
  where
    go : (b : Bool) → test x ≡ b → (if b then Some x else find test ps) ≡ None → (q ≡ x) ⊎ IsIn q ps
        → (find test ps ≡ None → IsIn q ps → ⊥) → ⊥
    go true t is at more = absurd cc
    go false t is (inl same) more = both_ways (test x) t (subst (λ y. test y ≡ true) same passes)
    go false t is (inr j) more = more is j
