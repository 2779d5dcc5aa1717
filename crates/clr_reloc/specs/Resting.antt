-- References that a relocation may leave as they are.
use Rattle.std.specs.Prelude.{◌≡◌, ℕ, ◌/◌, ◌<◌, Bool, true, false, List, None}
use Rattle.clr_types.specs.Segments.{ephemeral, generation, Layout, stands_in}
use Rattle.clr_heap.specs.View.{frame, HeapView, may_refer, word_of}
use Rattle.clr_pinq.specs.Queue.{queue_word}
use Rattle.clr_pinq.specs.declared.entry.PinEntry.{PinEntry}
use Rattle.clr_moves.specs.Moves.{start_of}
use Rattle.clr_moves.specs.declared.condemned.Condemned.{Condemned}

-- The reference at a, of an object of this age, goes to the address `to`, and names what stays: its word is no saved
-- one, and names no place of the ephemeral segment's part. Where that is of a lower generation, the card of `to` is
-- set.
pub record MayRest (h : HeapView) (entries : List PinEntry) (g : Condemned) (layout : Layout) (is_set : ℕ → Bool)
    (age a to : ℕ) : Type 0 where
  pub plain : queue_word entries a ≡ None
  pub stays : stands_in (ephemeral (frame h)) (word_of h a) ≡ true
      → word_of h a < start_of (frame h) g (ephemeral (frame h))
  pub carded : generation layout (word_of h a) < age → is_set (to / 2048) ≡ true

-- The reference at a names nothing: no word is saved for it, and the heap's can't be a reference.
pub record NamesNothing (h : HeapView) (entries : List PinEntry) (a : ℕ) : Type 0 where
  pub plain : queue_word entries a ≡ None
  pub none : may_refer (word_of h a) ≡ false

-- The reference at a is of an object that is carded, and stands on a clear card.
pub record IsPassed (by : Bool) (is_set : ℕ → Bool) (a : ℕ) : Type 0 where
  pub carded : by ≡ true
  pub clear : is_set (a / 2048) ≡ false
