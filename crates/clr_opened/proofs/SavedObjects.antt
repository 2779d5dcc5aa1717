-- The objects of a machine are those of what is loaded of its image.
use Rattle.std.proofs.Common.{◌≡◌, ℕ, ◌<◌, ◌≤◌, ◌^◌, List, length, refl, ap₂, sym, ◌∙◌, subst, Option, None, Some}
use Rattle.clr_types.specs.Types.{TypeRow}
use Rattle.clr_heap.specs.View.{heap_items, IsHeap, word_of}
use Rattle.clr_fields.specs.Fields.{fault, Found, found}
use Rattle.clr_format.specs.Images.{fields_of, image_of, IsImage, judged, Parts, tests_in, unless_failed}
use Rattle.clr_format.specs.NameTests.{first_failed}
use Rattle.clr_format.specs.Saved.{image_bytes}
use Rattle.clr_format.proofs.Versions.{one_image}
use Rattle.clr_view.specs.View.{objects_among}
use Rattle.clr_load.proofs.SoundImages.{all_pass, items_is}
use Rattle.clr_save.proofs.SavedFills.{items-from}
use Rattle.clr_save.proofs.SavedImages.{bytes-are, filled, w, written}
use Rattle.clr_save.proofs.WrittenImage.{image_law}
use Rattle.clr_load.specs.Shown.{ShowsParts}
use Rattle.clr_load.specs.declared.image.Image.{Image}
use Rattle.clr_model.specs.Lawful.{IsPlaceNamed}
use Rattle.clr_model.specs.Machine.{Machine}
use Rattle.clr_save.specs.Snapshots.{Shows}
use Rattle.clr_save.specs.WrittenImage.{ArePartsOf}
use Rattle.clr_save.specs.declared.snapshot.Snapshot.{Snapshot}
use Rattle.clr_opened.specs.Laws.{SavedObjectsLaw}
use Rattle.clr_opened.proofs.ReadBack.{objects-read}

-- bytes that are an image have lawful fields, and all tests pass
record IsRead (bytes : List ℕ) (p : Parts) (n : ℕ) : Type 0 where
  fields : fields_of bytes ≡ found p n
  tests : first_failed (tests_in p) ≡ None

read_of : (bytes : List ℕ) (p : Parts) (n : ℕ) → judged (fields_of bytes) ≡ found p n → IsRead bytes p n
read_of bytes p n e = go (fields_of bytes) refl e
  where
    tested : (q : Parts) (next : ℕ) (t : Option ℕ) → first_failed (tests_in q) ≡ t → fields_of bytes ≡ found q next
        → unless_failed q next t ≡ found p n → IsRead bytes p n
    tested q next (Some o) is fields e = absurd cc
    tested q next None is fields e =
        let same : q ≡ p = cc in
        record { fields = fields ∙ e; tests = subst (λ (r : Parts). first_failed (tests_in r) ≡ None) same is }

    go : (f : Found Parts) → fields_of bytes ≡ f → judged f ≡ found p n → IsRead bytes p n
    go (fault o) fields e = absurd cc
    go (found q next) fields e = tested q next (first_failed (tests_in q)) refl fields e

image-read : (bytes : List ℕ) (p : Parts) → IsImage bytes p → IsRead bytes p (length bytes)
unfolding image_of
image-read bytes p is = read_of bytes p (length bytes) is.is

-- the items of the heap that an image says are those that it says
pub items-read : (bytes : List ℕ) (image : Image) (p : Parts) → IsImage bytes p → ShowsParts image p → IsHeap image.heap
    → heap_items p.types p.body.heap ≡ p.body.items
items-read bytes image p is parts image_heap =
    let read = image-read bytes p is in
    items_is bytes p (length bytes) read.fields image parts image_heap (all_pass p read.tests)

module _ (s : Snapshot) (m : Machine) (heap : IsHeap s.heap.now) (shows : Shows s m) (sound : IsPlaceNamed m)
    (few_entries : length s.finals.now.entries < 2 ^ 64) (few_ready : length s.finals.now.ready < 2 ^ 64) where
  -- the parts of a machine's image are what was written of it
  pub parts-written : (p : Parts) → IsImage (image_bytes m) p
      → ArePartsOf (w s m heap shows sound few_entries few_ready) p
  parts-written p is =
      let ww = w s m heap shows sound few_entries few_ready in
      let (q, image_q, are) = image_law ww (written s m heap shows sound few_entries few_ready) in
      let is_q : IsImage (image_bytes m) q =
      subst (λ (bytes : List ℕ). IsImage bytes q) (bytes-are s m heap shows sound few_entries few_ready) image_q in
      subst (ArePartsOf ww) (one_image (image_bytes m) q p is_q is) are

-- the objects of what is loaded of a machine's image are the machine's
pub saved-objects : SavedObjectsLaw
saved-objects s m heap shows sound few_entries few_ready fit image p is parts image_heap =
    let rows = s.types.now in
    let h = s.heap.now in
    let are = parts-written s m heap shows sound few_entries few_ready p is in
    let types : image.types ≡ rows = parts.types ∙ are.types in
    let heap_is = parts.heap ∙ are.body.heap in
    let items = ap₂ heap_items parts.types parts.heap ∙ items-read (image_bytes m) image p is parts image_heap
    ∙ are.body.items ∙ items-from rows h 0 (length h.segments) in
    let count = sound.lawful.type_count in
    let few : length rows ≤ 1000 = subst (λ (ts : List TypeRow). length ts ≤ 1000) shows.seen.types count in
    (λ i. objects_among (types i) (word_of (heap_is i)) (items i))
    ∙ objects-read rows h heap shows.held p.head few
    (λ j l. (filled s m heap shows sound few_entries few_ready j l).count) fit m.options.limit
    ∙ sym shows.seen.objects
