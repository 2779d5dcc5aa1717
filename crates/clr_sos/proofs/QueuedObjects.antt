-- The objects of the finalisation queue.
use Rattle.std.proofs.Common.{◌≡◌, ℕ, ◌==◌, List, [], ◌∷◌, Some, is_some, true, filter, map, cond, refl, sym, ap}
use Rattle.std.proofs.Common.{◌∙◌, subst}
use Rattle.clr_types.specs.Rising.{IsIn}
use Rattle.clr_types.specs.Types.{TypeRow}
use Rattle.clr_types.specs.declared.item.Item.{Item}
use Rattle.clr_types.proofs.RisingLists.{all_at}
use Rattle.clr_heap.specs.View.{heap_items, HeapView, word_of}
use Rattle.clr_model.specs.Lawful.{IsPresent}
use Rattle.clr_model.specs.Lookups.{object_at, object_named}
use Rattle.clr_model.specs.Machine.{Machine, Object}
use Rattle.clr_model.specs.Sos.{type_of_place}
use Rattle.clr_model.proofs.NamedWell.{found_named}
use Rattle.clr_view.specs.SlotValues.{IsObjectAt, StandsAt}
use Rattle.clr_view.specs.View.{is_object, object_in, objects_in}
use Rattle.clr_view.proofs.ObjectItems.{in_map}
use Rattle.clr_sos.specs.Views.{AllStand, IsLawfulView, IsViewOf}
use Rattle.clr_sos.specs.declared.view.View.{View}

-- ---- objects by place

-- objects of a heap are named by their places, so a search by place finds what one by name does
pub at-named : (rows : List TypeRow) (word : ℕ → ℕ) (items : List Item) (place : ℕ)
    → object_at (map (object_in rows word) items) place ≡ object_named (map (object_in rows word) items) place
at-named rows word [] place = refl
at-named rows word (item ∷ items) place =
    ap (λ rest. cond (item.place == place) (Some (object_in rows word item)) rest) (at-named rows word items place)

module _ (rows : List TypeRow) (h : HeapView) where
  -- the item at a place tells the type of the object there
  pub type-at : (place : ℕ) (item : Item) → IsObjectAt rows h place item
      → item.type_id.0 ≡ type_of_place (object_at (objects_in rows h) place)
  type-at place item at =
      sym (ap type_of_place (at-named rows (word_of h) (filter is_object (heap_items rows h)) place ∙ at.named))

  -- an object that is present stands at the place that is its name
  pub present-stands : (place : ℕ) → is_some (object_named (objects_in rows h) place) ≡ true → StandsAt rows h place
  present-stands place there =
      let (o, among, named) = found_named (objects_in rows h) place there in
      let (item, passed, same) = in_map (object_in rows (word_of h)) o (filter is_object (heap_items rows h)) among in
      (o, among, ap (λ (p : Object). p.place) (sym same) ∙ ap (λ (p : Object). p.name) same ∙ named)

-- ---- the queue of a lawful view

module _ (v : View) (lawful : IsLawfulView v) where
  abbrev machine : Machine
  machine = lawful.machine.0

  abbrev shown : IsViewOf v machine
  shown = lawful.machine.1

  present : (place : ℕ) → IsPresent machine place → StandsAt v.types.now v.heap.now place
  present place there =
      present-stands v.types.now v.heap.now place
      (subst (λ objects. is_some (object_named objects place) ≡ true) shown.objects there)

  pub entries_stand : AllStand v.types.now v.heap.now v.finals.now.entries
  entries_stand place i = present place
      (all_at (IsPresent machine) (subst (IsIn place) (sym shown.entries) i) lawful.machine.2.lawful.names.entries)

  pub ready_stand : AllStand v.types.now v.heap.now v.finals.now.ready
  ready_stand place i = present place
      (all_at (IsPresent machine) (subst (IsIn place) (sym shown.ready) i) lawful.machine.2.lawful.names.ready)
