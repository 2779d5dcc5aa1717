-- What the items of a listing come to, in all and by type.
use Rattle.std.specs.Prelude.{◌≡◌, ℕ, ◌+◌, ◌<◌, ◌≤◌, ◌^◌, List, [], ◌∷◌, filter, length, not, if◌then◌else◌, ◌==◌}
use Rattle.std.specs.Prelude.{codes}
use Rattle.std.specs.Prelude.{decimal, get_or}
use Rattle.std.specs.List.{AllByRecursion}
use Rattle.clr_types.specs.Types.{TypeRow, mt_of, name_of}
use Rattle.clr_types.specs.declared.item.Item.{Item}
use Rattle.clr_nums.specs.Numbers.{hex16}
use Rattle.clr_model.specs.Sos.{bytes_in, is_free_item, line}
use Rattle.clr_sos.specs.declared.listing_lines.Totals.{Totals}
use Rattle.clr_sos.specs.declared.listing_counts.Tally.{Tally}

-- items of known types that are no smaller than the smallest object, and have so few bytes that these can be counted
pub record AreListed (rows : List TypeRow) (items : List Item) : Type 0 where
  pub known : AllByRecursion (λ (i : Item). i.type_id.0 ≤ length rows) items
  pub least : AllByRecursion (λ (i : Item). 24 ≤ i.size) items
  pub few : bytes_in items < 2 ^ 62

-- ---- the totals

abbrev pub totals_line : Totals → List ℕ
totals_line t = line (codes "total" ∷ decimal t.objects ∷ codes "bytes" ∷ decimal t.bytes ∷ codes "free"
    ∷ decimal t.free ∷ [])

-- the totals with one item more
abbrev pub counted : Totals → Item → Totals
counted t i =
    if is_free_item i then record { objects = t.objects; bytes = t.bytes; free = t.free + i.size } else
    record { objects = t.objects + 1; bytes = t.bytes + i.size; free = t.free }

-- the objects among items
abbrev pub no_free : List Item → List Item
no_free items = filter (λ i. not (is_free_item i)) items

-- what items come to
abbrev pub totals_of : List Item → Totals
totals_of items = record {
  objects = length (no_free items);
  bytes = bytes_in (no_free items);
  free = bytes_in (filter is_free_item items);
}

-- no more than these items come to
pub record IsWithin (t : Totals) (items : List Item) : Type 0 where
  pub objects : t.objects ≤ length items
  pub bytes : t.bytes ≤ bytes_in items
  pub free : t.free ≤ bytes_in items

-- ---- by type

-- the items of a type
abbrev pub of_type : ℕ → List Item → List Item
of_type type items = filter (λ i. i.type_id.0 == type) items

abbrev pub no_tally : Tally
no_tally = record { count = 0; bytes = 0 }

-- how many items, and how many bytes
abbrev pub tally_of : List Item → Tally
tally_of items = record { count = length items; bytes = bytes_in items }

-- one item more
abbrev pub tallied : Tally → Item → Tally
tallied t i = record { count = t.count + 1; bytes = t.bytes + i.size }

-- the tally of each type, by number
abbrev pub AreTallies : List Tally → List Item → Type 0
AreTallies tallies items =
    (type : ℕ) → type < length tallies → get_or tallies type no_tally ≡ tally_of (of_type type items)

-- no more than these items come to
pub record IsTallyWithin (t : Tally) (items : List Item) : Type 0 where
  pub count : t.count ≤ length items
  pub bytes : t.bytes ≤ bytes_in items

-- so it is with each tally
abbrev pub AreTalliesWithin : List Tally → List Item → Type 0
AreTalliesWithin tallies items =
    (type : ℕ) → type < length tallies → IsTallyWithin (get_or tallies type no_tally) items

-- the line of a type with at least one item
abbrev pub tally_line : List TypeRow → ℕ → Tally → List ℕ
tally_line rows type t =
    if t.count == 0 then [] else
    line (hex16 (mt_of type) ∷ decimal t.count ∷ decimal t.bytes ∷ name_of rows type ∷ [])
