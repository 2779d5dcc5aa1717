-- The text of an object, from the item that stands for it.
use Rattle.std.specs.Prelude.{ℕ, List, ◌∷◌, ◌++◌, drop, length, take, codes, decimal, Option}
use Rattle.std.specs.List.{flat_map, enumerate_from}
use Rattle.clr_nums.specs.Numbers.{hex16}
use Rattle.clr_types.specs.Segments.{generation}
use Rattle.clr_types.specs.Types.{TypeRow, form_at, is_array, name_of}
use Rattle.clr_types.specs.declared.item.Item.{Item}
use Rattle.clr_heap.specs.View.{frame, HeapView, word_of}
use Rattle.clr_model.specs.Machine.{Value}
use Rattle.clr_model.specs.Looks.{at_most, behind, numbered_from, rest_line}
use Rattle.clr_model.specs.Sos.{length_words, line, more_line, slot_words}
use Rattle.clr_view.specs.View.{object_in}

-- the line of the object itself
abbrev pub head_line : List TypeRow → ℕ → Item → List ℕ
head_line rows generation i = line
    (codes "object" ∷ hex16 i.place ∷ name_of rows i.type_id.0 ∷ codes "size" ∷ decimal i.size ∷ codes "gen"
    ∷ decimal generation ∷ length_words (is_array (form_at rows i.type_id.0)) i.len)

-- a line for each of n slots from one on
abbrev pub slot_lines : ℕ → ℕ → List Value → List ℕ
slot_lines from n slots = flat_map (λ s. line (slot_words s)) (take n (drop from (enumerate_from 0 slots)))

-- the values of an item's slots
abbrev pub slots_in : List TypeRow → HeapView → Item → List Value
slots_in rows h i = (object_in rows (word_of h) i).slots

-- the whole text
abbrev pub item_text : List TypeRow → HeapView → Item → List ℕ
item_text rows h i =
    (head_line rows (generation (frame h) i.place) i ++ slot_lines 0 16 (slots_in rows h i))
    ++ more_line (length (slots_in rows h i))

-- the text of the slots that are asked for
abbrev pub array_item_text : List TypeRow → HeapView → Option ℕ → Option ℕ → Item → List ℕ
array_item_text rows h start count i =
    (head_line rows (generation (frame h) i.place) i
    ++ flat_map (λ s. line (slot_words s)) (at_most count (numbered_from start (slots_in rows h i))))
    ++ rest_line (length (behind count (numbered_from start (slots_in rows h i))))
