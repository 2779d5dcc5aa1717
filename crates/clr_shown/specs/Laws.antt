-- Laws on what `inspect` shows of an image.
use Rattle.std.specs.Prelude.{◌≡◌, ℕ, ◌^◌, ◌<◌, false, length, List, []}
use Rattle.clr_types.specs.Segments.{rest_pieces}
use Rattle.clr_heap.specs.View.{IsHeap, word_of}
use Rattle.clr_model.specs.Lawful.{IsLaid, IsPlaceNamed}
use Rattle.clr_model.specs.Machine.{Machine}
use Rattle.clr_format.specs.Images.{IsImage, Parts}
use Rattle.clr_format.specs.Saved.{image_bytes, without_rests}
use Rattle.clr_load.specs.Shown.{ShowsParts}
use Rattle.clr_load.specs.declared.image.Image.{Image}
use Rattle.clr_save.specs.Snapshots.{Shows}
use Rattle.clr_save.specs.declared.snapshot.Snapshot.{Snapshot}
use Rattle.clr_image.specs.Texts.{Inspected, shown_text}

-- WHAT IS SHOWN OF A SAVED STATE IS WHAT THE LINES SHOW IN IT: the text of the image of m is what they reply in the state
-- m, its contexts given up.
abbrev pub ShownLaw : Type 0
ShownLaw = (s : Snapshot) (m : Machine) → IsHeap s.heap.now → Shows s m → IsPlaceNamed m
    → length s.finals.now.entries < 2 ^ 64 → length s.finals.now.ready < 2 ^ 64
    → ((a : ℕ) → word_of s.heap.now a < 2 ^ 64) → (image : Image) (p : Parts) → IsImage (image_bytes m) p
    → ShowsParts image p → IsHeap image.heap → (text : List ℕ) → Inspected (image_bytes m) p text
    → text ≡ shown_text false (without_rests m)

-- WHERE NO THREAD HAS A CONTEXT, GIVING UP ALL CHANGES NOTHING
abbrev pub NothingGivenUpLaw : Type 0
NothingGivenUpLaw = (m : Machine) → IsLaid m → rest_pieces m.layout.rests ≡ [] → without_rests m ≡ m
