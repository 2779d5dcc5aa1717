-- What stands before a plug: the unused bytes before it, how far it goes, and its children in the tree of its brick.
use Rattle.std.specs.Prelude.{ℕ, ◌+◌, ◌-◌, ◌*◌, ◌/◌, ◌%◌, ◌<◌, ◌≤◌}
use Rattle.std.specs.Int.{cast_signed, w64}
use Rattle.clr_heap.specs.Memories.{InOne}
use Rattle.clr_heap.specs.View.{HeapView}
use Rattle.clr_plugs.specs.declared.words.PlugInfo.{PlugInfo}

-- the left child before the plug, by one more than its offset in the brick, and 0 for none
abbrev pub left_of : (ℕ → ℕ) → ℕ → ℕ
left_of word plug = word (plug - 16) % 4294967296

-- the right child, in the same way
abbrev pub right_of : (ℕ → ℕ) → ℕ → ℕ
right_of word plug = word (plug - 16) / 4294967296

-- the word of both children
abbrev pub children_word : ℕ → ℕ → ℕ
children_word left right = left + right * 4294967296

-- what the 24 bytes that end 8 bytes before the plug tell of it
abbrev pub info_at : (ℕ → ℕ) → ℕ → PlugInfo
info_at word plug =
    record {
      gap = word (plug - 32);
      distance = cast_signed w64 (word (plug - 24));
      left = left_of word plug;
      right = right_of word plug;
    }

-- the word belongs to the information of the plug
abbrev pub IsInfoWord : ℕ → ℕ → Type 0
IsInfoWord plug b = (plug ≤ b + 32) × (b + 8 < plug)

-- the information of the plug lies in one segment
pub record HasInfo (h : HeapView) (plug : ℕ) : Type 0 where
  pub above : 32 ≤ plug
  pub bytes : InOne h.memories (plug - 32) 24
