-- The line of the object with a place.
use Rattle.std.proofs.Common.{◌≡◌, ℕ, List, [], ◌∷◌, ◌++◌, append_assoc, ap, map, refl, ◌∙◌, Some, if◌then◌else◌}
use Rattle.std.proofs.Common.{nat_eq}
use Rattle.clr_types.specs.Rising.{find_by}
use Rattle.clr_types.specs.Types.{TypeRow}
use Rattle.clr_types.specs.declared.item.Item.{Item}
use Rattle.clr_heap.specs.View.{heap_items, word_of}
use Rattle.clr_model.specs.Lookups.{object_at}
use Rattle.clr_model.specs.Machine.{Object}
use Rattle.clr_model.specs.Sos.{type_of_place}
use Rattle.clr_view.specs.SlotValues.{IsObjectAt}
use Rattle.clr_view.specs.View.{is_object, object_in, objects_in}
use Rattle.std.proofs.Common.{filter}
use Rattle.clr_sos.specs.declared.view.View.{View}

-- the words of its line, put behind a text one by one
pub place_parts : (text a n : List ℕ) → (((text ++ a) ++ (32 ∷ [])) ++ n) ++ (10 ∷ [])
    ≡ text ++ ((a ++ (32 ∷ n)) ++ (10 ∷ []))
place_parts text a n = simp append_assoc

-- objects that items are have their places as names
by-place : (rows : List TypeRow) (word : ℕ → ℕ) (p : ℕ) (items : List Item)
    → find_by (λ (o : Object). o.place) p (map (object_in rows word) items)
    ≡ find_by (λ (o : Object). o.name) p (map (object_in rows word) items)
by-place rows word p [] = refl
by-place rows word p (i ∷ items) =
    ap (λ r. if nat_eq i.place p then Some (object_in rows word i) else r) (by-place rows word p items)

-- the type of the object with a place is that of its item
pub type-told : (v : View) (place : ℕ) (i : Item) → IsObjectAt v.types.now v.heap.now place i
    → type_of_place (object_at (objects_in v.types.now v.heap.now) place) ≡ i.type_id.0
type-told v place i at =
    ap type_of_place (by-place v.types.now (word_of v.heap.now) place
    (filter is_object (heap_items v.types.now v.heap.now)) ∙ at.named)
