-- The words that a plan writes before its plugs, and those of live neighbours that it saves first.
use Rattle.std.specs.Prelude.{◌≡◌, ◌⊎◌, ℕ, ◌+◌, ◌-◌, ◌%◌, ◌^◌, ◌<◌, ◌≤◌, ℤ, Bool, ◌&&◌, not, List, [], ◌∷◌, ◌++◌}
use Rattle.std.specs.Prelude.{nat_le, negsuc, ◌||◌, Option, Some, None, IsSome, if◌then◌else◌, ◌==◌, pos}
use Rattle.clr_types.specs.Rising.{IsIn}
use Rattle.clr_heap.specs.View.{HeapView, IsHeap, SameShape, word_of}
use Rattle.clr_model.specs.Compaction.{Plug, plug_end}
use Rattle.clr_pinq.specs.Queue.{last_end, logical, queue_word, QueueView}
use Rattle.clr_pinq.specs.declared.entry.PinEntry.{PinEntry}
use Rattle.clr_pinq.specs.declared.entry.Saved.{Saved}
use Rattle.clr_plugs.specs.BrickEntries.{BricksView}
use Rattle.clr_plugs.specs.Info.{HasInfo, IsInfoWord}
use Rattle.clr_plugs.specs.Planning.{CanWritePlug, IsWriting, WriterView}
use Rattle.clr_plugs.specs.Plans.{PlannedPart, plug_starts}

-- ---- what is saved

-- the three words that the information of a plug at the place overwrites
abbrev pub words_before : (ℕ → ℕ) → ℕ → Saved
words_before word a = record { at = a - 32; w0 = word (a - 32); w1 = word (a - 24); w2 = word (a - 16) }

-- whether they belong to a live neighbour and aren't saved yet: the plug begins where what is live below it ends, or at
-- the start of the part, which isn't the segment's first place
abbrev pub is_to_save : List PinEntry → ℕ → ℕ → ℕ → Bool
is_to_save entries first below a = (a == below) && (not (a == first) && not (a == last_end 0 entries))

abbrev pub saved_before : List PinEntry → (ℕ → ℕ) → ℕ → ℕ → ℕ → Option Saved
saved_before entries word first below a = if is_to_save entries first below a then Some (words_before word a) else None

-- The entry of a pinned plug has its range, and saves the words before its end too: they are its own, and a plug that
-- follows it overwrites them.
abbrev pub pin_entry : List PinEntry → (ℕ → ℕ) → ℕ → ℕ → Plug → PinEntry
pin_entry entries word first below p = record {
  start = p.start;
  end = plug_end p;
  pre = saved_before entries word first
      below p.start;
  post = Some (words_before word (plug_end p));
}

-- the entry of a place alone
abbrev pub place_entry : (ℕ → ℕ) → ℕ → PinEntry
place_entry word a = record { start = a; end = a; pre = None; post = Some (words_before word a) }

-- what is pushed for a plug: one entry for a pinned one, and for another one where it overwrites what isn't saved yet
abbrev pub entries_for : List PinEntry → (ℕ → ℕ) → ℕ → ℕ → Plug → List PinEntry
entries_for entries word first below p =
    if p.pinned then pin_entry entries word first below p ∷ [] else (if is_to_save entries first below p.start
    then place_entry word p.start ∷ [] else [])

-- whether the information of a plug stands in bytes that no live cell has
abbrev pub is_open : ℕ → ℕ → ℕ → Bool
is_open first below a = not (a == below) || (a == first)

abbrev pub opened : List ℕ → ℕ → ℕ → ℕ → List ℕ
opened free first below a = if is_open first below a then free ++ a ∷ [] else free

-- ---- how far a plan has come

-- the word belongs to the information of none of the plugs at these places
abbrev pub IsOutsideInfo : List ℕ → ℕ → Type 0
IsOutsideInfo starts b = (x : ℕ) → IsIn x starts → IsInfoWord x b → ⊥

-- the words before the place are saved
abbrev pub IsSavedBefore : List PinEntry → ℕ → Type 0
IsSavedBefore entries a = IsSome (queue_word entries (a - 32)) × IsSome (queue_word entries (a - 24))
    × IsSome (queue_word entries (a - 16))

-- what is saved stood before the start or before the end of one of the plugs
abbrev pub AreSavedAt : List PinEntry → List Plug → Type 0
AreSavedAt entries ps = (b : ℕ) → IsSome (queue_word entries b) → (q : Plug) × IsIn q ps
    × (IsInfoWord q.start b ⊎ IsInfoWord (plug_end q) b)

-- Plugs at the places `starts` are written, and those at `free` among them into bytes that no live cell has. Every
-- other word reads through the queue as it was, and the heap's own words from `low` on, with the header there, are as
-- they were.
pub record HasWritten (old now : HeapView) (entries : List PinEntry) (starts free : List ℕ) (low : ℕ) : Type 0 where
  pub shape : SameShape old now
  pub told : (x : ℕ) → IsIn x starts → IsIn x free ⊎ IsSavedBefore entries x
  pub kept : (b : ℕ) → b % 8 ≡ 0 → IsOutsideInfo free b → logical entries (word_of now) b ≡ word_of old b
  pub others : (b : ℕ) → b % 8 ≡ 0 → IsOutsideInfo starts b → word_of now b ≡ word_of old b
  pub ahead : (b : ℕ) → b % 8 ≡ 0 → low ≤ b + 8 → word_of now b ≡ word_of old b
  pub end : (last_end 0 entries ≡ low) ⊎ (last_end 0 entries + 24 ≤ low)
  pub last : (entries ≡ []) ⊎ IsSavedBefore entries (last_end 0 entries)

-- ---- one plug

-- how far a plug goes up; negative where it goes down
abbrev pub distance_of : ℕ → ℕ → ℤ
distance_of start to = if nat_le start to then pos (to - start) else negsuc (start - to - 1)

-- The next plug can be written: a writer writes its part, and there is room for an entry. What is live below it ends at
-- `below`, and no entry ends inside the words before it.
pub record CanWrite (h : HeapView) (bricks : BricksView) (queue : QueueView) (writer : WriterView) (p : Plug)
    (to first below : ℕ) : Type 0 where
  pub heap : IsHeap h
  pub writing : CanWritePlug h bricks writer p.start
  pub room : 1 ≤ queue.spare
  pub live : below ≤ p.start
  pub end : last_end 0 queue.entries ≤ below
  pub apart : p.start ≡ below → (last_end 0 queue.entries ≡ below) ⊎ (last_end 0 queue.entries + 24 ≤ below)
  pub ending : HasInfo h (plug_end p)
  pub least : 24 ≤ p.size
  pub small : p.start < 2 ^ 63
  pub goes : to < 2 ^ 63

-- some part that is being written, and the plugs of the writer's brick are among these places
pub record IsWritingAmong (h : HeapView) (bricks : BricksView) (writer : WriterView) (starts : List ℕ) : Type 0 where
  pub part : PlannedPart
  pub writing : IsWriting h bricks part writer
  pub among : (x : ℕ) → IsIn x (plug_starts part.plugs) → IsIn x starts
