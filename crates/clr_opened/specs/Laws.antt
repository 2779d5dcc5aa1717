-- Laws on images that are opened.
use Rattle.std.specs.Prelude.{◌≡◌, ℕ, ◌+◌, ◌-◌, ◌*◌, ◌%◌, ◌==◌, ◌++◌, ◌^◌, ◌<◌, ◌≤◌, false, length, List}
use Rattle.clr_types.specs.Rising.{IsIn}
use Rattle.clr_types.specs.Segments.{ephemeral}
use Rattle.clr_types.specs.Types.{TypeRow}
use Rattle.clr_types.specs.declared.item.Item.{Item}
use Rattle.clr_heap.specs.Drafts.{empty_heap}
use Rattle.clr_format.specs.declared.head.Head.{Head}
use Rattle.clr_save.specs.WrittenHeap.{heap_after}
use Rattle.clr_save.proofs.LowBytes.{put_as}
use Rattle.clr_save.proofs.SavedItems.{saved_from}
use Rattle.clr_view.specs.View.{IsHeld, objects_among, objects_in}
use Rattle.clr_save.proofs.SavedFills.{written_from, written_segment}
use Rattle.clr_fields.specs.Fields.{found}
use Rattle.clr_format.specs.Images.{IsImage, Parts}
use Rattle.clr_load.specs.Shown.{ShowsParts}
use Rattle.clr_load.specs.declared.image.Image.{Image}
use Rattle.clr_heap.specs.View.{AreWalkable, first_of, HeapView, IsHeap, last_of, listing, word_of}
use Rattle.clr_save.specs.SavedImages.{AreMachineParts}
use Rattle.clr_save.specs.Snapshots.{Shows}
use Rattle.clr_save.specs.declared.snapshot.Snapshot.{Snapshot}
use Rattle.clr_opened.specs.Fronts.{image_front}
use Rattle.clr_model.specs.Lawful.{AreLawfulOptions, IsLaid, IsPlaceNamed}
use Rattle.clr_model.specs.Machine.{Machine, Options}
use Rattle.clr_format.specs.Saved.{image_bytes}
use Rattle.clr_settled.specs.Settled.{settled}
use Rattle.clr_opened.specs.Opened.{Budgets, opened}

-- WHAT IS KEPT IS ALL THAT AN IMAGE SAYS: the image of what is kept is the image
abbrev pub SettledImageLaw : Type 0
SettledImageLaw = (m : Machine) → IsLaid m → image_bytes (settled m) ≡ image_bytes m

-- AN IMAGE THAT WAS SAVED DELIMITS ITSELF: whatever stands behind it, it is read back, and says what the machine is.
abbrev pub SavedFrontLaw : Type 0
SavedFrontLaw = (s : Snapshot) (m : Machine) → IsHeap s.heap.now → Shows s m → IsPlaceNamed m
    → length s.finals.now.entries < 2 ^ 64 → length s.finals.now.ready < 2 ^ 64 → (behind : List ℕ)
    → (p : Parts) × (image_front (image_bytes m ++ behind) ≡ found p (length (image_bytes m))) × AreMachineParts m p

-- THE WORDS OF OBJECTS ARE READ BACK, as they are put in eight bytes: in the heap that is read of what was written of a
-- heap's segments.
abbrev pub ReadWordLaw : Type 0
ReadWordLaw = (rows : List TypeRow) (h : HeapView) → IsHeap h → Head → length rows ≤ 1000 → AreWalkable rows h
    → ((j : ℕ) → j < length h.segments → 8 * length (written_segment rows h j).words ≡ last_of h j - first_of h j)
    → (limit k : ℕ) → k < length h.segments → (i : Item) → IsIn i (listing rows h k) → (i.type_id.0 == 0) ≡ false
    → (a : ℕ) → a % 8 ≡ 0 → i.place ≤ a + 8 → a + 8 < i.place + i.size
    → word_of (heap_after (empty_heap limit) (written_from rows h 0 (length h.segments))) a ≡ put_as (word_of h a)

-- THE OBJECTS ARE READ BACK, where each word fits in eight bytes
abbrev pub ReadObjectsLaw : Type 0
ReadObjectsLaw = (rows : List TypeRow) (h : HeapView) → IsHeap h → IsHeld rows h → Head → length rows ≤ 1000
    → ((j : ℕ) → j < length h.segments → 8 * length (written_segment rows h j).words ≡ last_of h j - first_of h j)
    → ((a : ℕ) → word_of h a < 2 ^ 64) → (limit : ℕ)
    → objects_among rows (word_of (heap_after (empty_heap limit) (written_from rows h 0 (length h.segments))))
    (saved_from rows h 0 (length h.segments)) ≡ objects_in rows h

-- THE OBJECTS OF A MACHINE ARE READ BACK, with their slots: what is loaded of its image has them.
abbrev pub SavedObjectsLaw : Type 0
SavedObjectsLaw = (s : Snapshot) (m : Machine) → IsHeap s.heap.now → Shows s m → IsPlaceNamed m
    → length s.finals.now.entries < 2 ^ 64 → length s.finals.now.ready < 2 ^ 64
    → ((a : ℕ) → word_of s.heap.now a < 2 ^ 64) → (image : Image) (p : Parts) → IsImage (image_bytes m) p
    → ShowsParts image p → IsHeap image.heap → objects_in image.types image.heap ≡ m.objects

-- an opened machine has what was saved of m: all but free items, contexts, budgets and where the next segment begins
pub record IsOpenedFrom (m new : Machine) : Type 0 where
  pub types : new.types ≡ m.types
  pub objects : new.objects ≡ m.objects
  pub locals : new.locals ≡ m.locals
  pub handles : new.handles ≡ m.handles
  pub entries : new.entries ≡ m.entries
  pub ready : new.ready ≡ m.ready
  pub steps : new.steps ≡ m.steps
  pub holder : new.holder ≡ m.holder
  pub segments : new.layout.segments ≡ m.layout.segments
  pub start1 : new.layout.start1 ≡ m.layout.start1
  pub start0 : new.layout.start0 ≡ m.layout.start0
  pub limit : new.options.limit ≡ m.options.limit
  pub large : new.options.large ≡ m.options.large
  pub compacts_large : new.compacts_large ≡ m.compacts_large

-- A MACHINE THAT WAS SAVED IS OPENED, whatever the budgets
abbrev pub OpenedLaw : Type 0
OpenedLaw = (s : Snapshot) (m : Machine) → IsHeap s.heap.now → Shows s m → IsPlaceNamed m
    → length s.finals.now.entries < 2 ^ 64 → length s.finals.now.ready < 2 ^ 64
    → ((a : ℕ) → word_of s.heap.now a < 2 ^ 64) → (image : Image) (p : Parts) → IsImage (image_bytes m) p
    → ShowsParts image p → IsHeap image.heap → (b : Budgets) → IsOpenedFrom m (opened p b)

-- what an image keeps of a machine, with the budgets that it is opened with; new segments are as long as the ephemeral
-- one
abbrev pub reopened : Machine → Budgets → Machine
reopened m b = record (settled m) {
  options = record {
    limit = m.options.limit;
    segment = (ephemeral m.layout).reserved;
    b0 = b.b0;
    b1 = b.b1;
    b2 = b.b2;
    bl = b.bl;
    compact = b.compact;
    large = m.options.large;
  };
}

-- TO SAVE AND OPEN IS TO SETTLE: what is opened of a machine's image is what an image keeps of it, and nothing else
abbrev pub ReopenedLaw : Type 0
ReopenedLaw = (s : Snapshot) (m : Machine) → IsHeap s.heap.now → Shows s m → IsPlaceNamed m
    → length s.finals.now.entries < 2 ^ 64 → length s.finals.now.ready < 2 ^ 64
    → ((a : ℕ) → word_of s.heap.now a < 2 ^ 64) → (image : Image) (p : Parts) → IsImage (image_bytes m) p
    → ShowsParts image p → IsHeap image.heap → (b : Budgets) → opened p b ≡ reopened m b

abbrev pub budgets_of : Options → Budgets
budgets_of o = record { b0 = o.b0; b1 = o.b1; b2 = o.b2; bl = o.bl; compact = o.compact }

-- so with the machine's own budgets it is what an image keeps, where its ephemeral segment is as long as its options say
abbrev pub OwnReopenedLaw : Type 0
OwnReopenedLaw = (m : Machine) → (ephemeral m.layout).reserved ≡ m.options.segment
    → reopened m (budgets_of m.options) ≡ settled m

-- WHAT IS OPENED IS LAWFUL, where the length of the ephemeral segment and the budgets are lawful options
abbrev pub ReopenedLawfulLaw : Type 0
ReopenedLawfulLaw = (m : Machine) (b : Budgets) → IsPlaceNamed m → AreLawfulOptions (reopened m b).options
    → IsPlaceNamed (reopened m b)
