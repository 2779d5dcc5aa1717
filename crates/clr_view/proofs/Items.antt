-- Items that are spelled: where they stand, how they rise, and objects whose words stay.
use Rattle.std.proofs.Common.{if◌then◌else◌, ◌≡◌, ℕ, ◌+◌, ◌-◌, ◌%◌, ◌<◌, ◌≤◌, Bool, true, false, List, [], ◌∷◌, filter}
use Rattle.std.proofs.Common.{map, refl, ap, sym, subst, arith, length, ◌≢◌, ◌⊎◌, inl, inr}
use Rattle.std.specs.List.{AllByRecursion}
use Rattle.clr_types.specs.Rising.{first, IsIn, IsRisingBy, later}
use Rattle.clr_types.specs.Types.{TypeRow, form_at, size_of}
use Rattle.clr_types.specs.declared.item.Item.{Item}
use Rattle.clr_types.proofs.ChangedLists.{all_imply}
use Rattle.clr_types.proofs.RisingLists.{all_at}
use Rattle.clr_heap.specs.Parts.{item_at, item_part, items_in, length_at, NamesItem, Part, rest_part, Sight, Spells}
use Rattle.clr_heap.proofs.Spelling.{item_size, Spells-le}
use Rattle.clr_view.specs.View.{is_object, has_suppressed_bit, object_in, objects_among}
use Rattle.clr_view.proofs.Slots.{slot-inside, slots-stay}

-- an item between two places, of a known type and the size that its type and length give
pub record IsItem (rows : List TypeRow) (low high : ℕ) (i : Item) : Type 0 where
  pub aligned : i.place % 8 ≡ 0
  pub above : low ≤ i.place
  pub below : i.place + i.size ≤ high
  pub least : 24 ≤ i.size
  pub known : i.type_id.0 ≤ length rows
  pub sized : i.size ≡ size_of (form_at rows i.type_id.0) i.len
  pub whole : i.type_id.0 ≡ 0 → i.len % 8 ≡ 0

pub wider : (rows : List TypeRow) (low high p e : ℕ) (i : Item) → p ≤ low → high ≤ e → IsItem rows low high i
    → IsItem rows p e i
wider rows low high p e i down up h =
    let above = h.above in
    let below = h.below in
    record {
      aligned = h.aligned;
      above = omega arith;
      below = omega arith;
      least = h.least;
      known = h.known;
      sized = h.sized;
      whole = h.whole;
    }

all_wider : (rows : List TypeRow) (low high p e : ℕ) (items : List Item) → p ≤ low → high ≤ e
    → AllByRecursion (IsItem rows low high) items → AllByRecursion (IsItem rows p e) items
all_wider rows low high p e items down up all =
    all_imply (IsItem rows low high) (IsItem rows p e) items (λ i h. wider rows low high p e i down up h) all

-- the item that the words at a place name
named-is : (rows : List TypeRow) (word : ℕ → ℕ) (p e : ℕ) → p % 8 ≡ 0 → NamesItem rows word p
    → p + (item_at rows word p).size ≤ e → IsItem rows p e (item_at rows word p)
unfolding item_at length_at
named-is rows word p e z n l = record {
  aligned = z;
  above = omega arith;
  below = l;
  least = n.least;
  known = n.known;
  sized = refl;
  whole = λ free. rw free (n.free free);
}

-- the items of a segment
pub items-are : (s : Sight) (ps : List Part) (p e : ℕ) → p % 8 ≡ 0 → Spells s p ps e
    → AllByRecursion (IsItem s.rows p e) (items_in ps)
items-are s [] p e z h = tt
items-are s (item_part i ∷ ps) p e z h =
    let f = item_size s i p h.1 h.2 in
    let l = Spells-le s ps (p + i.size) e h.3 in
    let size : i.size ≡ (item_at s.rows s.word p).size = ap (λ (j : Item). j.size) h.1 in (
      subst (IsItem s.rows p e) (sym h.1) (named-is s.rows s.word p e z h.2 (omega arith)),
      all_wider s.rows (p + i.size) e p e (items_in ps) (omega arith) (omega arith)
          (items-are s ps (p + i.size) e (omega arith) h.3),
    )
items-are s (rest_part low high ∷ ps) p e z h =
    let l = h.2 in
    all_wider s.rows high e p e (items_in ps) (omega arith) (omega arith) (items-are s ps high e h.3 h.4)

-- each ends before the next begins
abbrev pub AreStacked : List Item → Type 0
AreStacked [] = Unit {0}
AreStacked (i ∷ items) = AllByRecursion (λ j. i.place + i.size ≤ j.place) items × AreStacked items

pub items-stacked : (s : Sight) (ps : List Part) (p e : ℕ) → p % 8 ≡ 0 → Spells s p ps e → AreStacked (items_in ps)
items-stacked s [] p e z h = tt
items-stacked s (item_part i ∷ ps) p e z h =
    let f = item_size s i p h.1 h.2 in
    let all = items-are s ps (p + i.size) e (omega arith) h.3 in (
      all_imply (IsItem s.rows (p + i.size) e) (λ (j : Item). i.place + i.size ≤ j.place) (items_in ps)
          (λ j is. let above = is.above in omega arith) all,
      items-stacked s ps (p + i.size) e (omega arith) h.3,
    )
items-stacked s (rest_part low high ∷ ps) p e z h = items-stacked s ps high e h.3 h.4

-- so that they rise by place
pub stacked-rise : (items : List Item) → AllByRecursion (λ (i : Item). 24 ≤ i.size) items → AreStacked items
    → IsRisingBy (λ (i : Item). i.place) items
stacked-rise [] all stacked = tt
stacked-rise (i ∷ items) all stacked =
    let least = all.0 in (
      all_imply (λ (j : Item). i.place + i.size ≤ j.place) (λ (j : Item). i.place < j.place) items (λ j l. omega arith)
          stacked.0,
      stacked-rise items all.1 stacked.1,
    )

-- and of two of them one ends before the other begins
pub stacked-apart : (items : List Item) (i j : Item) → AreStacked items → IsIn i items → IsIn j items
    → i.place ≢ j.place → (i.place + i.size ≤ j.place) ⊎ (j.place + j.size ≤ i.place)
stacked-apart items i j stacked first first ne = absurd (ne refl)
stacked-apart (x ∷ items) i j stacked first (later m) ne =
    inl (all_at (λ (y : Item). i.place + i.size ≤ y.place) m stacked.0)
stacked-apart (x ∷ items) i j stacked (later l) first ne =
    inr (all_at (λ (y : Item). j.place + j.size ≤ y.place) l stacked.0)
stacked-apart (x ∷ items) i j stacked (later l) (later m) ne = stacked-apart items i j stacked.1 l m ne

-- ---- objects whose words stay

-- the words of the cells between two places are what they were, headers too
abbrev pub CellsStay : (ℕ → ℕ) → (ℕ → ℕ) → ℕ → ℕ → Type 0
CellsStay old new low high = (b : ℕ) → b % 8 ≡ 0 → low ≤ b + 8 → b + 16 ≤ high → new b ≡ old b

pub object-stays : (rows : List TypeRow) (old new : ℕ → ℕ) (low high : ℕ) (i : Item) → 8 ≤ low
    → CellsStay old new low high → IsItem rows low high i → object_in rows new i ≡ object_in rows old i
object-stays rows old new low high i up same is =
    let form = form_at rows i.type_id.0 in
    let z = is.aligned in
    let above = is.above in
    let below = is.below in
    let least = is.least in
    let sized = is.sized in
    let header : new (i.place - 8) ≡ old (i.place - 8) = same (i.place - 8) (omega arith) (omega arith) (omega arith) in
    let slots = slots-stay form old new i.place i.len (λ j l.
    let at = slot-inside form i.len i.place j z l in
    let high' = at.below in
    let low' = at.above in
    same _ at.aligned (omega arith) (omega arith)) in
    λ k. record (object_in rows old i) { slots = slots k; suppressed = has_suppressed_bit (header k) }

-- those among items do
pub objects-stay : (rows : List TypeRow) (old new : ℕ → ℕ) (low high : ℕ) (items : List Item) → 8 ≤ low
    → CellsStay old new low high → AllByRecursion (IsItem rows low high) items
    → objects_among rows new items ≡ objects_among rows old items
objects-stay rows old new low high [] up same all = refl
objects-stay rows old new low high (i ∷ items) up same all =
    go (is_object i) (object-stays rows old new low high i up same all.0)
    (objects-stay rows old new low high items up same all.1)
  where
    go : (b : Bool) → object_in rows new i ≡ object_in rows old i
        → objects_among rows new items ≡ objects_among rows old items
        → map (object_in rows new) (if b then i ∷ filter is_object items else filter is_object items) ≡ map
        (object_in rows old) (if b then i ∷ filter is_object items else filter is_object items)
    go true here rest = λ k. here k ∷ rest k
    go false here rest = rest
