-- Items by their places, on walks that start at an object.
use Rattle.std.proofs.Common.{◌≡◌, ◌⊎◌, inl, inr, ℕ, zero, suc, ◌+◌, ◌-◌, ◌*◌, ◌/◌, ◌%◌, ◌<◌, ◌≤◌, List, [], ◌∷◌}
use Rattle.std.proofs.Common.{length}
use Rattle.std.proofs.Common.{◌≢◌, Bool, false, get_or, if◌then◌else◌, refl, ap, sym, ◌∙◌, subst, arith, eqb, Option}
use Rattle.std.proofs.Common.{Some, None, ℤ}
use Rattle.std.specs.Option.{option_or}
use Rattle.std.proofs.lemmas.Bool.{cases_eq, cases_lt, eq-eqb, ne_eqb}
use Rattle.clr_mem.specs.Words.{Memory}
use Rattle.clr_types.specs.Rising.{first, IsIn, later}
use Rattle.clr_types.specs.Segments.{empty_segment}
use Rattle.clr_types.specs.Types.{TypeRow}
use Rattle.clr_types.specs.declared.item.Item.{Item}
use Rattle.clr_types.proofs.RisingLists.{in_cons}
use Rattle.clr_heap.specs.Parts.{hole_from, item_at, item_part, items_in, Part, parts, rest_part, Sight, Spells}
use Rattle.clr_heap.specs.View.{CanWalk, first_of, frame, heap_items, HeapView, IsHeap}
use Rattle.clr_heap.specs.View.{item_with_place, items_between, last_of, listing, listings, only_object, parts_of}
use Rattle.clr_heap.specs.View.{segment_at, sight}
use Rattle.clr_heap.specs.View.{word_of}
use Rattle.clr_heap.proofs.Addresses.{index_is_segment}
use Rattle.clr_heap.proofs.Framing.{lawful_at}
use Rattle.clr_heap.proofs.Listing.{items_later, items_step, no_item_outside}
use Rattle.clr_heap.proofs.Spelling.{item_size}
use Rattle.clr_heap.proofs.Walking.{CanWalk-from, spelled_parts, walk_done, walk_item}
use Rattle.clr_view.specs.View.{IsHeld, objects_in}
use Rattle.clr_view.proofs.ObjectItems.{stands-item}
use Rattle.clr_view.proofs.Standing.{standing}
use Rattle.clr_bricks.specs.Bricks.{root_entry}
use Rattle.clr_generations.specs.Finding.{IsStart}
use Rattle.clr_generations.specs.Laws.{BrickLaw}

-- ---- a walk from an item on

-- parts from an item on, among which each place is found that isn't below
record FromItem (s : Sight) (ps : List Part) (i : Item) (p e a : ℕ) : Type 0 where
  rest : List Part
  spelled : Spells s i.place rest e
  above : p ≤ i.place
  found : item_with_place (items_in rest) a ≡ item_with_place (items_in ps) a

from-item : (s : Sight) (ps : List Part) (i : Item) (p e a : ℕ) → Spells s p ps e → IsIn i (items_in ps) → i.place ≤ a
    → FromItem s ps i p e a
from-item s [] i p e a h l low = elim l [ ]
from-item s (item_part j ∷ ps) i p e a h l low =
    let f = item_size s j p h.1 h.2 in
    elim (in_cons l) [
      | inl here ↦
          let at : p ≡ i.place = let place = ap (λ (x : Item). x.place) here in omega arith in
          record {
            rest = item_part j ∷ ps;
            spelled = subst (λ q. Spells s q (item_part j ∷ ps) e) at h;
            above = omega arith;
            found = refl;
          }
      | inr more ↦
          let r = from-item s ps i (p + j.size) e a h.3 more low in
          let up = r.above in
          let other : eqb j.place a ≡ false = ne_eqb j.place a (λ same. omega arith) in
          record {
            rest = r.rest;
            spelled = r.spelled;
            above = omega arith;
            found = rw other r.found;
          }
    ]
from-item s (rest_part from to ∷ ps) i p e a h l low =
    let r = from-item s ps i to e a h.4 l low in
    let up = r.above in
    let b = h.2 in
    record { rest = r.rest; spelled = r.spelled; above = omega arith; found = r.found }

-- what a walk from a place finds is what one over the whole segment finds
pub record IsWalkTo (rows : List TypeRow) (h : HeapView) (k a start : ℕ) : Type 0 where
  pub walk : CanWalk (sight rows h k) h.memories start (last_of h k)
  pub found : item_with_place (items_between (sight rows h k) start (last_of h k)) a
      ≡ item_with_place (listing rows h k) a

module _ (rows : List TypeRow) (h : HeapView) (heap : IsHeap h) (held : IsHeld rows h) (k a : ℕ)
    (l : k < length h.segments) where
  -- segment k is the only one with a place of it
  pub only-segment : (j : ℕ) → j < length h.segments → first_of h k ≤ a → a < last_of h k → first_of h j ≤ a
      → a < last_of h j → j ≡ k
  only-segment j m low high from to =
      let this = (lawful_at h k heap l).high in
      let other = (lawful_at h j heap m).high in
      sym (index_is_segment h j a heap m (omega arith) (omega arith))
      ∙ index_is_segment h k a heap l (omega arith) (omega arith)

  abbrev own : Sight
  own = sight rows h k

  walk-from-item : (i : Item) → IsIn i (listing rows h k) → i.place ≤ a → i.place % 8 ≡ 0 → IsWalkTo rows h k a i.place
  walk-from-item i m low z =
      let whole = held.walkable k l in
      let r = from-item own (parts_of rows h k) i (first_of h k) (last_of h k) a whole.spelled m low in
      let up = r.above in
      record {
        walk = CanWalk-from own h.memories r.rest i.place (last_of h k) z r.spelled
            (λ b aligned from to. whole.held b aligned (omega arith) to);
        found = ap (λ (ps : List Part). item_with_place (items_in ps) a)
            (spelled_parts own r.rest i.place (last_of h k) r.spelled) ∙ r.found;
      }

-- A WALK FROM A START finds what there is
pub walk-from-start : (rows : List TypeRow) (h : HeapView) (heap : IsHeap h) (held : IsHeld rows h) (k a start : ℕ)
    → k < length h.segments → a < last_of h k → IsStart rows h k a start → IsWalkTo rows h k a start
walk-from-start rows h heap held k a start l high s = elim s.there [
  | inl at_first ↦
      subst (IsWalkTo rows h k a) (sym at_first) (record { walk = held.walkable k l; found = refl })
  | inr stands ↦
      let at = stands-item rows h heap held start stands in
      let there = standing rows h heap held (item_at rows (word_of h) start) at.listed in
      let place = at.at in
      let low = s.above in
      let below = s.below in
      let up = there.above in
      let down = there.below in
      let least = there.least in
      let home : there.segment ≡ k =
      only-segment rows h heap held k start l there.segment there.in_range (omega arith) (omega arith) (omega arith)
      (omega arith) in
      subst (IsWalkTo rows h k a) place
      (walk-from-item rows h heap held k a l (item_at rows (word_of h) start)
      (subst (λ j. IsIn (item_at rows (word_of h) start) (listing rows h j)) home there.listed) (omega arith)
      there.aligned)
]

-- ---- one segment of all

module _ (rows : List TypeRow) (h : HeapView) (held : IsHeld rows h) (a : ℕ) where
  -- no item of another segment has a place
  abbrev pub IsOutside : ℕ → Type 0
  IsOutside j = (a < first_of h j) ⊎ (last_of h j ≤ a)

  abbrev count : ℕ
  count = length h.segments

  -- the item that the segments from j on have at the place
  abbrev found_from : ℕ → Option Item
  found_from j = item_with_place (listings rows h j (count - j)) a

  none-from : (m j : ℕ) → j + m ≡ count → ((n : ℕ) → j ≤ n → n < count → IsOutside n) → found_from j ≡ None
  none-from zero j e out =
      let none : count - j ≡ 0 = omega arith in ap (λ (m : ℕ). item_with_place (listings rows h j m) a) none
  none-from (suc m) j e out =
      items_later rows h j count a (omega arith)
      (no_item_outside rows h j a (held.walkable j (omega arith)) (out j (omega arith) (omega arith)))
      ∙ none-from m (j + 1) (omega arith) (λ n low high. out n (omega arith) high)

  only-from : (k m j : ℕ) → k < count → j + m ≡ count → j ≤ k
      → ((n : ℕ) → n < count → n ≢ k → IsOutside n) → found_from j ≡ item_with_place (listing rows h k) a
  only-from k zero j l e low out = absurd (omega arith)
  only-from k (suc m) j l e low out = elim (cases_eq j k) [
    | inl same ↦
        let rest = none-from m (j + 1) (omega arith) (λ n up high. out n high (λ is. omega arith)) in
        items_step rows h j count a (omega arith)
        ∙ ap (λ (o : Option Item). option_or (item_with_place (listing rows h j) a) o) rest
        ∙ or-none (item_with_place (listing rows h j) a)
        ∙ ap (λ (n : ℕ). item_with_place (listing rows h n) a) same
    | inr other ↦
        items_later rows h j count a (omega arith)
        (no_item_outside rows h j a (held.walkable j (omega arith)) (out j (omega arith) other))
        ∙ only-from k m (j + 1) l (omega arith) (omega arith) out
  ]
    where
      or-none : (o : Option Item) → option_or o None ≡ o
      or-none None = refl
      or-none (Some i) = refl

  from-all : item_with_place (heap_items rows h) a ≡ found_from 0
  from-all = let all : count ≡ count - 0 = omega arith in ap (λ (m : ℕ). item_with_place (listings rows h 0 m) a) all

  -- no item has a place that is in no segment
  pub nowhere-found : ((j : ℕ) → j < count → IsOutside j) → item_with_place (heap_items rows h) a ≡ None
  nowhere-found out = from-all ∙ none-from count 0 (omega arith) (λ n low high. out n high)

  -- an item of a place in segment k is one of the segment's
  pub listed-found : IsHeap h → (k : ℕ) → k < count → first_of h k ≤ a → a < last_of h k
      → item_with_place (heap_items rows h) a ≡ item_with_place (listing rows h k) a
  listed-found heap k l low high = from-all ∙ only-from k count 0 l (omega arith) (omega arith) elsewhere
    where
      elsewhere : (n : ℕ) → n < count → n ≢ k → IsOutside n
      elsewhere n m ne = elim (cases_lt a (first_of h n)) [
        | inl below ↦ inl below
        | inr above ↦ elim (cases_lt a (last_of h n)) [
          | inl inside ↦ absurd (ne (only-segment rows h heap held k a l n m low high above inside))
          | inr past ↦ inr past
        ]
      ]

-- ---- steps of a walk to a place

module _ (s : Sight) (ms : List Memory) (p e a : ℕ) (walk : CanWalk s ms p e) where
  -- an item that starts at the place
  pub item-here : p < e → hole_from s.holes p ≡ None → p ≡ a
      → item_with_place (items_between s p e) a ≡ Some (item_at s.rows s.word p)
  unfolding item_at
  item-here l none same =
      let hit = eq-eqb p a same in
      let step = walk_item s ms p e walk l none in
      ap (λ (items : List Item). item_with_place items a) step.items
      ∙ ap (λ (b : Bool). if b then Some (item_at s.rows s.word p)
      else item_with_place (items_between s (p + (item_at s.rows s.word p).size) e) a) hit

  -- one that starts elsewhere
  pub item-past : p < e → hole_from s.holes p ≡ None → p ≢ a
      → item_with_place (items_between s (p + (item_at s.rows s.word p).size) e) a
      ≡ item_with_place (items_between s p e) a
  unfolding item_at
  item-past l none ne =
      let miss = ne_eqb p a ne in
      let step = walk_item s ms p e walk l none in
      sym (ap (λ (items : List Item). item_with_place items a) step.items
      ∙ ap (λ (b : Bool). if b then Some (item_at s.rows s.word p)
      else item_with_place (items_between s (p + (item_at s.rows s.word p).size) e) a) miss)

  -- nothing is found past the place
  pub none-past : (e ≤ p) ⊎ (a < p) → item_with_place (items_between s p e) a ≡ None
  none-past out = elim out [
    | inl done ↦ ap (λ (items : List Item). item_with_place items a) (walk_done s ms p e walk done)
    | inr below ↦ go (parts e s p e) p walk.spelled below
  ]
    where
      go : (ps : List Part) (q : ℕ) → Spells s q ps e → a < q → item_with_place (items_in ps) a ≡ None
      go [] q h b = refl
      go (item_part i ∷ ps) q h b =
          let f = item_size s i q h.1 h.2 in
          let other : eqb i.place a ≡ false = ne_eqb i.place a (λ same. omega arith) in
          rw other (go ps (q + i.size) h.3 (omega arith))
      go (rest_part low high ∷ ps) q h b = let l = h.2 in go ps high h.4 (omega arith)

-- ---- the start

-- an element of a list, by its number
pub in-at : {X : Type 0} (xs : List X) (k : ℕ) (d : X) → k < length xs → IsIn (get_or xs k d) xs
in-at [] k d l = absurd (omega arith)
in-at (x ∷ xs) zero d l = first
in-at (x ∷ xs) (suc k) d l = later (in-at xs k d (omega arith))

-- a place that a brick names is a start
pub start-named : (rows : List TypeRow) (h : HeapView) (entry : ℕ → ℤ) (k a brick offset : ℕ) → IsHeap h
    → BrickLaw rows (frame h) (objects_in rows h) entry → k < length h.segments → a < last_of h k
    → first_of h k / 4096 ≤ brick → brick ≤ a / 4096 → entry brick ≡ root_entry offset → 4096 * brick + offset ≤ a
    → IsStart rows h k a (4096 * brick + offset)
start-named rows h entry k a brick offset heap law l high low up e below =
    let lawful = lawful_at h k heap l in
    let base = lawful.base in
    let reserved = lawful.reserved in
    let end = lawful.high in
    let s = segment_at h k in
    let entered = law s (in-at h.segments k empty_segment l) in
    let leads = entered.named brick offset (omega arith, omega arith) e in
    record { above = omega arith; below = below; there = inr leads.stands }

-- ---- objects alone

-- what is found on a walk from a start is what the heap lists
pub start-found : (rows : List TypeRow) (h : HeapView) → IsHeap h → IsHeld rows h → (k a start : ℕ)
    → k < length h.segments → first_of h k ≤ a → a < last_of h k → IsStart rows h k a start → (found : Option Item)
    → found ≡ item_with_place (items_between (sight rows h k) start (last_of h k)) a
    → found ≡ item_with_place (heap_items rows h) a
start-found rows h heap held k a start l low high s found e =
    e ∙ (walk-from-start rows h heap held k a start l high s).found ∙ sym (listed-found rows h held a heap k l low high)

abbrev no_item : Option Item
no_item = None

-- a free item is no object
pub only-free : (i : Item) (o : Option Item) → Some i ≡ o → i.type_id.0 ≡ 0 → None ≡ only_object o
only-free i o e free = let hit = eq-eqb i.type_id.0 0 free in
    sym (ap (λ (b : Bool). if b then no_item else Some i) hit) ∙ ap only_object e

-- and any other item is one
pub only-other : (i : Item) (o : Option Item) → Some i ≡ o → i.type_id.0 ≢ 0 → Some i ≡ only_object o
only-other i o e other = let miss = ne_eqb i.type_id.0 0 other in
    sym (ap (λ (b : Bool). if b then no_item else Some i) miss) ∙ ap only_object e
