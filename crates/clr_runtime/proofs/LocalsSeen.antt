-- What a runtime shows of its locals: each is null or the place of an object.
use Rattle.std.proofs.Common.{◌≡◌, ◌≢◌, ℕ, ◌<◌, List, [], ◌∷◌, filter, map, get_or, sym, ap, subst, ◌∙◌, arith, true}
use Rattle.std.proofs.Common.{refl, inl, inr, is_some}
use Rattle.std.specs.Prelude.{slice_index}
use Rattle.std.proofs.lemmas.Grind.{get_or_default_zero}
use Rattle.clr_types.specs.Rising.{IsIn, first, later}
use Rattle.clr_types.specs.Types.{TypeRow}
use Rattle.clr_types.specs.declared.item.Item.{Item}
use Rattle.clr_heap.specs.View.{heap_items, HeapView, word_of}
use Rattle.clr_safe.specs.Threads.{Threads}
use Rattle.clr_runtime.specs.Shown.{Ahead, shown}
use Rattle.clr_view.specs.View.{is_object, object_in, objects_in}
use Rattle.clr_view.specs.SlotValues.{StandsAt}
use Rattle.clr_view.specs.World.{World}
use Rattle.clr_model.specs.Lawful.{IsNullOrPresent}
use Rattle.clr_model.specs.Lookups.{local_index, local_of, object_named}
use Rattle.clr_model.specs.Machine.{Machine, Object, Options, Sums}
use Rattle.clr_model.proofs.NamedWell.{found_named}
use Rattle.clr_model.proofs.SeenSound.{local-seen}
use Rattle.clr_runtime.specs.RuntimeView.{IsShown}

-- the objects of a heap are named by their places
named-by-place : (rows : List TypeRow) (word : ℕ → ℕ) (items : List Item) (o : Object)
    → IsIn o (map (object_in rows word) items) → o.name ≡ o.place
named-by-place rows word [] o i = elim i [ ]
named-by-place rows word (item ∷ items) o first = refl
named-by-place rows word (item ∷ items) o (later i) = named-by-place rows word items o i

-- an object of this name stands at this place
present-stands : (rows : List TypeRow) (h : HeapView) (place : ℕ)
    → is_some (object_named (objects_in rows h) place) ≡ true → StandsAt rows h place
present-stands rows h place there =
    let (o, i, n) = found_named (objects_in rows h) place there in
    (o, i, sym (named-by-place rows (word_of h) (filter is_object (heap_items rows h)) o i) ∙ n)

module _ {w : World} {sums : Sums} {options : Options} {threads : Threads} {ahead : Ahead}
    (is : IsShown w sums options threads ahead) where
  abbrev s : Machine
  s = shown w sums options threads ahead

  -- what is read of the locals
  pub local-read : (t k j v : ℕ) → j < 1024 → j ≡ local_index t k → v ≡ get_or w.locals j v → v ≡ local_of s t k
  local-read t k j v within at e =
      let count = is.locals in
      e ∙ get_or_default_zero w.locals j v (omega (arith, count, within)) ∙ ap (slice_index w.locals) at

  -- the object of a local that isn't null
  pub local-stands : (t k place : ℕ) → place ≡ local_of s t k → place ≢ 0 → StandsAt w.rows w.heap place
  local-stands t k place at some =
      present-stands w.rows w.heap place (present (subst (IsNullOrPresent s) (sym at) (local-seen s is.sound t k)))
    where
      present : IsNullOrPresent s place → is_some (object_named (objects_in w.rows w.heap) place) ≡ true
      present (inl null) = absurd (some null)
      present (inr there) = there
