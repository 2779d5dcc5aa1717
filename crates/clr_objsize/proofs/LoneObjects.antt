-- Objects whose slots name none: each reaches itself alone.
use Rattle.std.proofs.Common.{◌≡◌, inl, inr, ℕ, ◌+◌, ◌<◌, ◌^◌, Bool, true, false, not, List, [], ◌∷◌, ◌++◌}
use Rattle.std.proofs.Common.{Some, None, nat_eq, sum_by, refl, sym, ap, ◌∙◌, subst, arith, if◌then◌else◌}
use Rattle.std.proofs.lemmas.Bool.{eq-eqb, eqb-true}
use Rattle.clr_types.specs.Descriptors.{series_of}
use Rattle.clr_types.specs.Rising.{first, IsIn, later}
use Rattle.clr_types.specs.Types.{form_at, TypeRow}
use Rattle.clr_types.specs.declared.item.Item.{Item}
use Rattle.clr_types.proofs.ChangedLists.{into_filter, IsIn-map}
use Rattle.clr_types.proofs.ListSums.{counted, sum-filtered}
use Rattle.clr_heap.specs.Memories.{HasWord, memory_index}
use Rattle.clr_heap.specs.View.{heap_items, HeapView, IsHeap, item_with_place, only_object, word_of}
use Rattle.clr_model.specs.Lookups.{object_size}
use Rattle.clr_model.specs.Machine.{Object}
use Rattle.clr_model.specs.Reach.{Reach, SlotNames, follows, starts}
use Rattle.clr_view.specs.SlotValues.{IsObjectAt, StandsAt}
use Rattle.clr_view.specs.View.{IsHeld, is_object, object_in, objects_in}
use Rattle.clr_view.proofs.Listed.{listed-known, listed-sized, listed-small, listed_word}
use Rattle.clr_view.proofs.Listings.{heap-rise}
use Rattle.clr_view.proofs.ObjectItems.{object-told}
use Rattle.clr_view.proofs.Rises.{objects-rise}
use Rattle.clr_mark.specs.Markings.{item_references}
use Rattle.clr_mark.proofs.References.{no_references, reference_has, reference_index, reference_low, refers_from}
use Rattle.clr_sos.specs.Reaching.{IsSound}
use Rattle.clr_sos.specs.declared.view.View.{View}
use Rattle.clr_sos.proofs.Adding.{IsWordAmong, word-back}
use Rattle.clr_objsize.specs.Sizes.{HasTotal, NamesNone}
use Rattle.clr_objsize.proofs.CountedEntries.{sum-none}
use Rattle.clr_objsize.proofs.OneMore.{sum-one_more}

-- ---- the object that a look-up finds

-- an object among items that has the place
pub record IsFound (a : ℕ) (items : List Item) (i : Item) : Type 0 where
  pub listed : IsIn i items
  pub object : is_object i ≡ true
  pub at : i.place ≡ a

module _ (a : ℕ) (i : Item) where
  -- a first item is found where it isn't free
  met-first : (j : Item) (items : List Item) (free : Bool) → nat_eq j.type_id.0 0 ≡ free → nat_eq j.place a ≡ true
      → Some i ≡ (if free then None else Some j) → IsFound a (j ∷ items) i
  met-first j items true told hit some = absurd cc
  met-first j items false told hit some =
      let same : j ≡ i = cc in
      subst (IsFound a (j ∷ items)) same
      (record { listed = first; object = ap not told; at = eqb-true j.place a hit })

  pub look-up_finds : (items : List Item) → Some i ≡ only_object (item_with_place items a) → IsFound a items i
  look-up_finds [] some = absurd cc
  look-up_finds (j ∷ items) some = go (nat_eq j.place a) refl some (look-up_finds items)
    where
      go : (b : Bool) → nat_eq j.place a ≡ b
          → Some i ≡ only_object (if b then Some j else item_with_place items a)
          → (Some i ≡ only_object (item_with_place items a) → IsFound a items i) → IsFound a (j ∷ items) i
      go true hit found rest = met-first j items (nat_eq j.type_id.0 0) refl hit found
      go false miss found rest =
          let is = rest found in
          record { listed = later is.listed; object = is.object; at = is.at }

-- THE ITEM THAT A LOOK-UP FINDS is the object at its place
pub found-stands : (rows : List TypeRow) (h : HeapView) → IsHeap h → IsHeld rows h → (a : ℕ) (i : Item)
    → IsFound a (heap_items rows h) i → IsObjectAt rows h i.place i
found-stands rows h heap held a i is = record {
  listed = is.listed;
  object = is.object;
  at = refl;
  named = object-told rows h heap held i is.listed is.object;
  known = listed-known rows h i heap held is.listed;
  small = listed-small rows h i heap held is.listed;
}

-- an item is an object that stands at its place
pub item-stands : (rows : List TypeRow) (h : HeapView) (i : Item) → IsObjectAt rows h i.place i
    → StandsAt rows h i.place
item-stands rows h i at = (
  object_in rows (word_of h) i,
  IsIn-map (object_in rows (word_of h)) (into_filter is_object (heap_items rows h) at.object at.listed),
  refl,
)

-- ---- references that are null

-- each word at one of these offsets is null
abbrev pub AreNull : (ℕ → ℕ) → ℕ → List ℕ → Type 0
AreNull word place offsets = (y : ℕ) → IsWordAmong word place offsets y → ⊥

pub null-none : (word : ℕ → ℕ) (place : ℕ) → AreNull word place []
null-none word place y w = elim w.listed [ ]

pub null-more : (word : ℕ → ℕ) (place : ℕ) (done : List ℕ) → AreNull word place done → (offset : ℕ)
    → word (place + offset) ≡ 0 → AreNull word place (done ++ offset ∷ [])
null-more word place done none offset null y w = elim (word-back word place offset y done w) [
  | inl early ↦ none y early
  | inr last ↦ let some = w.not_null in absurd (omega (arith, last, null, some))
]

-- what the code asks to read the reference at an offset
pub record CanRead (h : HeapView) (place offset : ℕ) : Type 0 where
  pub has : HasWord h.memories (place + offset)
  pub segment : memory_index h.memories place ≡ memory_index h.memories (place + offset)
  pub fits : place + offset < 2 ^ 64

module _ (v : View) (sound : IsSound v) (i : Item) (at : IsObjectAt v.types.now v.heap.now i.place i) where
  abbrev rows : List TypeRow
  rows = v.types.now

  abbrev h : HeapView
  h = v.heap.now

  heap : IsHeap h
  heap = sound.closed.heap

  held : IsHeld rows h
  held = sound.closed.held

  pub head-read : HasWord h.memories i.place
  head-read = listed_word rows h i held at.listed

  pub can_read : (offset : ℕ) → IsIn offset (item_references rows i) → CanRead h i.place offset
  can_read offset l = record {
    has = reference_has rows h heap held i.place i at.listed refl offset l;
    segment = reference_index rows h heap held i.place i at.listed refl offset l;
    fits = reference_low rows h heap held i.place i at.listed refl offset l;
  }

  -- WHERE ALL REFERENCES ARE NULL no slot names an object
  pub null-names_none : (done : List ℕ) → done ≡ item_references rows i → AreNull (word_of h) i.place done
      → NamesNone v i.place
  null-names_none done all none y named =
      let f = refers_from rows h heap held i.place i at y named in
      none y (record {
        offset = f.offset;
        listed = subst (λ (os : List ℕ). IsIn f.offset os) (sym all) f.listed;
        is = f.holds;
        not_null = f.not_null;
      })

  -- a type without references has none
  pub typed-names_none : series_of (form_at rows i.type_id.0) ≡ [] → NamesNone v i.place
  typed-names_none none = null-names_none [] (sym (no_references (form_at rows i.type_id.0) i.len none))
      (null-none (word_of h) i.place)

-- ---- what such an object holds

-- what leads nowhere reaches itself alone
pub reach-alone : (edge : ℕ → ℕ → Type 0) (place : ℕ) → ((y : ℕ) → edge place y → ⊥) → (x : ℕ)
    → Reach edge (λ y. y ≡ place) x → x ≡ place
reach-alone edge place none x (starts same) = same
reach-alone edge place none x (follows {x = z} r e) =
    absurd (none x (subst (λ (w : ℕ). edge w x) (reach-alone edge place none z r) e))

-- one object counts as much as it weighs
sum-alone : (rows : List TypeRow) (h : HeapView) → IsHeap h → IsHeld rows h → (i : Item)
    → IsObjectAt rows h i.place i → (weight : Object → ℕ)
    → sum_by (counted (λ (o : Object). nat_eq i.place o.name) weight) (objects_in rows h)
    ≡ weight (object_in rows (word_of h) i)
sum-alone rows h heap held i at weight =
    let os = objects_in rows h in
    let none = sum-none weight os in
    let more = sum-one_more (λ (o : Object). o.name) weight (λ n. false) i.place (λ n. nat_eq i.place n) (λ n. refl)
    (object_in rows (word_of h) i) os
    (objects-rise rows (word_of h) (heap_items rows h) (heap-rise rows h held.walkable heap))
    (IsIn-map (object_in rows (word_of h)) (into_filter is_object (heap_items rows h) at.object at.listed)) refl refl in
    omega (arith, none, more)

-- ITS TOTAL: one object, of the item's size
pub total-lone : (v : View) → IsSound v → (i : Item) → IsObjectAt v.types.now v.heap.now i.place i
    → NamesNone v i.place → HasTotal v (λ y. y ≡ i.place) (record { objects = 1; bytes = i.size })
total-lone v sound i at none =
    let rows = v.types.now in
    let h = v.heap.now in
    let heap = sound.closed.heap in
    let held = sound.closed.held in
    let near : ℕ → ℕ → Type 0 = SlotNames (objects_in rows h) in
    let size = listed-sized rows h i heap held at.listed in (
      λ x. nat_eq i.place x,
      λ x. (
        λ e. starts (sym (eqb-true i.place x e)),
        λ r. eq-eqb i.place x (sym (reach-alone near i.place none x r)),
      ),
      sym (sum-alone rows h heap held i at (λ (o : Object). 1)),
      size ∙ sym (sum-alone rows h heap held i at (object_size rows))
          ∙ sym (sum-filtered (λ (o : Object). nat_eq i.place o.name) (object_size rows) (objects_in rows h)),
    )
