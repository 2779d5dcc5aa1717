-- The words of a heap as an image has them: those of objects as they are, and clear free items, also where something is
-- left of a context.
use Rattle.std.specs.Prelude.{◌≡◌, ℕ, zero, suc, ◌+◌, ◌-◌, ◌/◌, ◌%◌, ◌≤◌, ◌==◌, List, [], ◌∷◌, ◌++◌, Bool}
use Rattle.std.specs.Prelude.{if◌then◌else◌}
use Rattle.std.specs.List.{flat_map}
use Rattle.clr_mem.specs.Words.{Memory, zeros}
use Rattle.clr_types.specs.Segments.{same_kind}
use Rattle.clr_types.specs.Types.{mt_of, TypeRow}
use Rattle.clr_types.specs.declared.segment.SegKind.TheVariants.{Ephemeral}
use Rattle.clr_heap.specs.Parts.{item_part, Part, parts, rest_part, Sight}
use Rattle.clr_heap.specs.View.{CanWalk, HeapView, parts_of, segment_at, word_of}
use Rattle.clr_format.specs.Saved.{words_bytes}
use Rattle.clr_save.specs.Written.{words_of_head}
use Rattle.clr_heap.specs.declared.heap.draft.SegmentHead.{SegmentHead}

-- n words from an address on
unfoldable pub words_at : (ℕ → ℕ) → ℕ → ℕ → List ℕ
words_at word a zero = []
words_at word a (suc n) = word a ∷ words_at word (a + 8) n

-- a free item of so many bytes: a clear header, its method table word, its length, and zeros
unfoldable pub free_words : ℕ → List ℕ
free_words size = 0 ∷ mt_of 0 ∷ (size - 24) ∷ zeros ((size - 24) / 8)

-- an object's own words, and a free item in the place of anything else
abbrev pub cell_words : (ℕ → ℕ) → Bool → ℕ → ℕ → List ℕ
cell_words word vacant place size = if vacant then free_words size else words_at word (place - 8) (size / 8)

abbrev pub part_words : (ℕ → ℕ) → Part → List ℕ
part_words word (item_part i) = cell_words word (i.type_id.0 == 0) i.place i.size
part_words word (rest_part low high) = free_words (high - low)

-- the words of the parts from a place to the end
abbrev pub words_between : Sight → ℕ → ℕ → List ℕ
words_between s place end = flat_map (part_words s.word) (parts end s place end)

-- the words of segment k
abbrev pub memory_words : List TypeRow → HeapView → ℕ → List ℕ
memory_words rows h k = flat_map (part_words (word_of h)) (parts_of rows h k)

-- the boundaries count in the ephemeral segment alone
abbrev pub own_boundary : HeapView → ℕ → ℕ → ℕ
own_boundary h k boundary = if same_kind (segment_at h k).kind Ephemeral then boundary else 0

abbrev pub head_of : HeapView → ℕ → SegmentHead
head_of h k =
    record { info = segment_at h k; start1 = own_boundary h k h.start1; start0 = own_boundary h k h.start0 }

abbrev pub bytes_of_segment : List TypeRow → HeapView → ℕ → List ℕ
bytes_of_segment rows h k = words_bytes (words_of_head (head_of h k)) ++ words_bytes (memory_words rows h k)

-- n segments from segment k on
unfoldable pub bytes_of_segments : List TypeRow → HeapView → ℕ → ℕ → List ℕ
bytes_of_segments rows h k zero = []
bytes_of_segments rows h k (suc n) = bytes_of_segment rows h k ++ bytes_of_segments rows h (k + 1) n

-- the part that begins at a place: how many bytes it has, whether it is vacant, and what is left behind it
pub record IsNext (s : Sight) (ms : List Memory) (place end size : ℕ) (vacant : Bool) : Type 0 where
  pub walk : CanWalk s ms (place + size) end
  pub words : words_between s place end
      ≡ cell_words s.word vacant place size ++ words_between s (place + size) end
  pub least : 24 ≤ size
  pub whole : size % 8 ≡ 0
  pub within : place + size ≤ end
