-- The items at an address and next to it.
use Rattle.std.specs.Prelude.{◌≡◌, ℕ, ◌+◌, ◌≤◌, List, ◌++◌, codes, filter, find, length, nat_le, nat_lt, if◌then◌else◌}
use Rattle.std.specs.Prelude.{Option, Some}
use Rattle.clr_types.specs.Types.{TypeRow}
use Rattle.clr_types.specs.declared.item.Item.{Item}
use Rattle.clr_model.specs.Looks.{is_over, last_item, near_line, none_if_empty, place_or}
use Rattle.clr_shows.specs.declared.near.Near.{Near}

-- the item over an address
abbrev pub item_over : ℕ → List Item → Option Item
item_over a items = find (is_over a) items

-- the last item that ends at or below an address, or at or below the item over it
abbrev pub item_before : ℕ → List Item → Option Item
item_before a items =
    last_item (filter (λ i. nat_le (i.place + i.size) (place_or a (item_over a items))) items)

-- the first item above an address
abbrev pub item_above : ℕ → List Item → Option Item
item_above a items = find (λ i. nat_lt a i.place) items

-- the items at an address and next to it, among items of a segment
abbrev pub near_in : List Item → ℕ → Near
near_in items a = record { before = item_before a items; at = item_over a items; after = item_above a items }

-- the last item that begins at or below an address
abbrev pub last_begun : ℕ → List Item → Option Item
last_begun a items = last_item (filter (λ i. nat_le i.place a) items)

-- what is known with one more item, which begins at or below the address and behind all before it
abbrev pub with_item : Near → Item → ℕ → Near
with_item near i a =
    if nat_lt a (i.place + i.size) then record near { at = Some i } else record near { before = Some i }

-- the items that are found are of types that are there
pub record AreKnown (rows : List TypeRow) (near : Near) : Type 0 where
  pub before : (i : Item) → near.before ≡ Some i → i.type_id.0 ≤ length rows
  pub at : (i : Item) → near.at ≡ Some i → i.type_id.0 ≤ length rows
  pub after : (i : Item) → near.after ≡ Some i → i.type_id.0 ≤ length rows

-- the lines of the items that are found
abbrev pub near_text : List TypeRow → Near → List ℕ
near_text rows near = none_if_empty (near_line (codes "before") rows near.before
    ++ (near_line (codes "at") rows near.at ++ near_line (codes "after") rows near.after))
