-- The survivors of a stretch of a segment, and their plugs.
use Rattle.std.specs.Prelude.{◌≡◌, ℕ, ◌+◌, ◌-◌, ◌/◌, ◌%◌, ◌^◌, ◌<◌, ◌≤◌, Bool, ◌&&◌, ◌==◌, nat_eq, List, map, filter}
use Rattle.std.specs.Prelude.{if◌then◌else◌, Option, None, Some}
use Rattle.std.specs.Bool.{beq}
pub use Rattle.clr_types.specs.Bits.{has_pin}
use Rattle.clr_types.specs.Types.{TypeRow}
use Rattle.clr_types.specs.Segments.{generation}
use Rattle.clr_types.specs.declared.item.Item.{Item}
use Rattle.clr_heap.specs.Memories.{HasWord, memory_index}
use Rattle.clr_heap.specs.Parts.{hole_from, item_at}
use Rattle.clr_heap.specs.View.{CanWalk, frame, HasItem, HeapView, holes_of, items_between, segment_at, sight, word_of}
use Rattle.clr_model.specs.Sweep.{Survivor}
use Rattle.clr_model.specs.Compaction.{Plug, plug_of, plugs_of}
use Rattle.clr_sweep.specs.SweptItems.{stays}

-- the object that an item of segment k is, as one that stays
abbrev pub survivor_in : HeapView → ℕ → Item → Survivor
survivor_in h k i = record {
  place = i.place;
  size = i.size;
  segment = (segment_at h k).base;
  generation = generation (frame h) i.place;
  pinned = has_pin (word_of h (i.place - 8));
}

-- the marked objects of segment k from p to e
abbrev pub survivors_between : List TypeRow → HeapView → ℕ → ℕ → ℕ → List Survivor
survivors_between rows h k p e = map (survivor_in h k) (filter (stays (word_of h)) (items_between (sight rows h k) p e))

-- their plugs
abbrev pub plugs_between : List TypeRow → HeapView → ℕ → ℕ → ℕ → List Plug
plugs_between rows h k p e = plugs_of (survivors_between rows h k p e)

-- whether two plugs have the same generation and pinned state
abbrev pub is_alike : Plug → Plug → Bool
is_alike p q = (p.generation == q.generation) && beq p.pinned q.pinned

-- From p to e segment k can be read: no hole stands there, and its words are the segment's.
pub record CanScan (rows : List TypeRow) (h : HeapView) (k p e : ℕ) : Type 0 where
  pub walk : CanWalk (sight rows h k) h.memories p e
  pub index : (b : ℕ) → p ≤ b + 8 → b + 8 < e → memory_index h.memories b ≡ k
  pub none : (q : ℕ) → hole_from (holes_of h k) q ≡ None
  pub up : 4096 ≤ p
  pub high : e ≤ 2 ^ 62

-- the item at p in segment k can be read, with its header
pub record CanLook (rows : List TypeRow) (h : HeapView) (k p : ℕ) : Type 0 where
  pub item : HasItem rows h p
  pub mt_in : k ≡ memory_index h.memories p
  pub len_in : k ≡ memory_index h.memories (p + 8)
  pub header : HasWord h.memories (p - 8)
  pub header_in : k ≡ memory_index h.memories (p - 8)
  pub above : 8 ≤ p
  pub room : p + (item_at rows (word_of h) p).size < 2 ^ 64

-- the plug that one object is, where it stays
abbrev pub kept_plug : HeapView → ℕ → Item → Option Plug
kept_plug h k i = if stays (word_of h) i then Some (plug_of (survivor_in h k i)) else None

-- the plug that an object of this size at a place of segment k is alone
abbrev pub plug_alone : HeapView → ℕ → ℕ → ℕ → Plug
plug_alone h k place size = record {
  start = place;
  size = size;
  segment = (segment_at h k).base;
  generation = generation (frame h) place;
  pinned = has_pin (word_of h (place - 8));
}
