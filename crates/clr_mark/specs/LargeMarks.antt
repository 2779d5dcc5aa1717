-- What marking all objects of large segments leaves.
use Rattle.std.specs.Prelude.{◌≡◌, ◌⊎◌, ℕ, ◌+◌, ◌%◌, ◌<◌, ◌≤◌, Bool, true, if◌then◌else◌, nat_eq}
use Rattle.clr_types.specs.Segments.{same_kind}
use Rattle.clr_types.specs.declared.item.Item.{Item}
use Rattle.clr_types.specs.declared.segment.SegKind.TheVariants.{Large}
use Rattle.clr_heap.specs.Parts.{unmarked}
use Rattle.clr_heap.specs.View.{first_of, frame, HeapView, last_of, stored, word_of}
use Rattle.clr_model.specs.Sweep.{is_in_part}
use Rattle.clr_view.specs.Marks.{has_mark}
use Rattle.clr_view.specs.View.{is_object}

-- whether the place is in a large segment
abbrev pub is_large_place : HeapView → ℕ → Bool
is_large_place h x = is_in_part (same_kind Large) (frame h) 2 (record { place = x; size = 0 })

-- the heap with an item marked, where that isn't free
abbrev pub with_item_mark : HeapView → Item → HeapView
with_item_mark h i = if nat_eq i.type_id.0 0 then h else stored h i.place (unmarked (word_of h i.place) + 1)

-- method table words that carry a mark still do
abbrev pub KeepsMarks : HeapView → HeapView → Type 0
KeepsMarks old new = (a : ℕ) → a % 8 ≡ 0 → has_mark (word_of old a) ≡ true → has_mark (word_of new a) ≡ true

-- the object that an item is carries a mark
abbrev pub HasItemMark : HeapView → Item → Type 0
HasItemMark h i = is_object i ≡ true → has_mark (word_of h i.place) ≡ true

-- words that aren't of segment k are as before
abbrev pub IsKeptOutside : HeapView → HeapView → ℕ → Type 0
IsKeptOutside old new k =
    (a : ℕ) → a % 8 ≡ 0 → (a < first_of old k) ⊎ (last_of old k ≤ a) → word_of new a ≡ word_of old a
