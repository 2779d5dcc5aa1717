-- The bytes of an image's tables.
use Rattle.std.specs.Prelude.{ℕ, List, [], ◌∷◌, ◌++◌, length, codes}
use Rattle.std.specs.List.{flat_map}
use Rattle.clr_format.specs.HeapFields.{kind_number}
use Rattle.clr_format.specs.declared.head.Head.{Head}
use Rattle.clr_heap.specs.declared.heap.draft.SegmentHead.{SegmentHead}
use Rattle.clr_format.specs.Saved.{bit, handle_bytes, number_or_zero, queue_bytes, word_bytes, words_bytes}
use Rattle.clr_types.specs.Types.{form_at, has_finalizer, name_of, type_row, TypeRow}
use Rattle.clr_format.specs.TableFields.{Tables}
use Rattle.clr_sos.specs.declared.step.Step.{Step}
use Rattle.clr_sos.specs.declared.step.Step.TheVariants.{Idle, Store, Begun}

-- the five words of what a thread has begun
abbrev pub words_of_step : Step → List ℕ
words_of_step Idle = 0 ∷ 0 ∷ 0 ∷ 0 ∷ 0 ∷ []
words_of_step (Store object slot) = 1 ∷ object ∷ slot ∷ 0 ∷ 0 ∷ []
words_of_step (Begun t len local front) = 2 ∷ t.0 ∷ len ∷ local ∷ front ∷ []

abbrev pub step_bytes : Step → List ℕ
step_bytes step = words_bytes (words_of_step step)

-- who holds all others, what each thread has begun, the handles and the two queues
unfoldable pub bytes_of_tables : Tables → List ℕ
bytes_of_tables t =
    word_bytes (number_or_zero t.holder) ++ (flat_map step_bytes t.steps
    ++ (word_bytes (length t.handles) ++ (flat_map handle_bytes t.handles
    ++ (queue_bytes t.entries ++ queue_bytes t.ready))))

-- the six words before a segment's memory
abbrev pub words_of_head : SegmentHead → List ℕ
words_of_head s =
    s.info.base ∷ s.info.reserved ∷ kind_number s.info.kind ∷ s.info.end ∷ s.start1 ∷ s.start0 ∷ []

-- what stands before the types, in the second version
abbrev pub head_bytes : Head → List ℕ
head_bytes head = codes "CLRHEAP2" ++ words_bytes (head.limit ∷ head.large ∷ bit head.compact_large ∷ [])

-- the type of this number
abbrev pub row_at : List TypeRow → ℕ → TypeRow
row_at rows t =
    record { name = name_of rows t; form = form_at rows t; finalizer = has_finalizer (type_row rows t) }
