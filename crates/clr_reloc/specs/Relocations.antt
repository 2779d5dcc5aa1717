-- What holds while references are relocated, by what the relocation goes by, and what a part of the work does.
use Rattle.std.specs.Prelude.{◌≡◌, ℕ, ◌+◌, ◌/◌, ◌<◌, ◌≤◌, true, List, length}
use Rattle.clr_types.specs.Segments.{generation}
use Rattle.clr_cards.specs.Cards.{is_card_set}
use Rattle.clr_covers.specs.Covers.{CoverView, is_covered, spans}
use Rattle.clr_heap.specs.Memories.{memory_index}
use Rattle.clr_heap.specs.View.{frame, HeapView, stored, word_of}
use Rattle.clr_model.specs.Compaction.{Move, moved_by}
use Rattle.clr_pinq.specs.Queue.{QueueView}
use Rattle.clr_pinq.specs.declared.entry.PinEntry.{PinEntry}
use Rattle.clr_moves.specs.Going.{IsStretchOf}
use Rattle.clr_moves.specs.declared.stretch.Stretch.{Stretch}
use Rattle.clr_reloc.specs.Relocated.{rebounded}
use Rattle.clr_reloc.specs.Relocating.{AreCarded, GoesDown, HasGone, IsAhead, IsLeftItem, IsRelocating, KeepsTelling}
use Rattle.clr_reloc.specs.Relocating.{SavesSame}
use Rattle.clr_reloc.specs.Scanning.{AreInRow, AreQuietWhereClear}
use Rattle.clr_reloc.specs.declared.relocation.LeftObject.{LeftObject}
use Rattle.clr_reloc.specs.declared.relocation.Relocation.{Relocation}

-- the heap and what is saved hold the words of `now` that count, and tell the moves; the stretch that was met last is
-- one of theirs
abbrev pub IsRelocatingBy : Relocation → HeapView → HeapView → HeapView → List PinEntry → List Move → Stretch → Type 0
IsRelocatingBy work view now h entries vs last =
    IsRelocating work.types.now view now h work.bricks.now entries work.g vs work.planned.start1 work.planned.start0
    × IsStretchOf view work.g vs last

-- ---- one object

-- Between two places nothing goes, and where the card of a reference isn't set, its target stays, and isn't of a lower
-- generation then. The cards lie in one row.
pub record CanSkip (work : Relocation) (view : HeapView) (vs : List Move) (cards : List (CoverView ℕ)) (low high : ℕ)
    : Type 0 where
  pub quiet : AreQuietWhereClear work.types.now view work.g vs (rebounded (frame view) work.planned) (is_card_set cards)
      low high
  pub row : AreInRow cards low high
  pub stays : GoesDown vs low high 0

-- the object is left and still to be relocated, and goes to its place; if it is carded, clear cards may be skipped
pub record IsObjectAhead (work : Relocation) (view now : HeapView) (vs : List Move) (cards : List (CoverView ℕ))
    (object : LeftObject) : Type 0 where
  pub left : IsLeftItem work.types.now view work.g object.found
  pub ahead : IsAhead view now work.g vs object.found.place (object.found.place + object.found.size)
  pub goes : object.to ≡ moved_by vs object.found.place
  pub skip : object.carded ≡ true
      → CanSkip work view vs cards object.found.place (object.found.place + object.found.size)

-- the object stands in its segment, is of its generation where it goes, and there are cards for it
pub record IsPlaced (work : Relocation) (h : HeapView) (cards : List (CoverView ℕ)) (object : LeftObject)
    : Type 0 where
  pub segment : object.segment ≡ memory_index h.memories object.found.place
  pub age : object.age ≡ generation (rebounded (frame h) work.planned) object.to
  pub covered : (x : ℕ) → object.to ≤ x → x < object.to + object.found.size → is_covered cards (x / 2048) ≡ true

-- ---- what a part of the work does

-- Of cards and queue it leaves this alone: which cards there are, and that set ones are set; which addresses are saved,
-- and how much room there is.
pub record KeepsBeside (cards_old cards_new : List (CoverView ℕ)) (pins_old pins_new : QueueView) : Type 0 where
  pub set : (c : ℕ) → is_card_set cards_old c ≡ true → is_card_set cards_new c ≡ true
  pub cards : spans cards_new ≡ spans cards_old
  pub saved : SavesSame pins_old.entries pins_new.entries
  pub count : length pins_new.entries ≡ length pins_old.entries
  pub spare : pins_new.spare ≡ pins_old.spare

-- The references in the cells from low up to high have become the places where their targets go, the cards of those
-- that name an object of a lower generation then are set, and nothing else has changed since `now`.
pub record AreRelocated (work : Relocation) (view now : HeapView) (vs : List Move) (old new : HeapView)
    (pins_old pins_new : QueueView) (cards : List (CoverView ℕ)) (last : Stretch) (low high : ℕ) : Type 0 where
  pub next : HeapView
  pub relocating : IsRelocatingBy work view next new pins_new.entries vs last
  pub gone : HasGone work.types.now view now next work.g vs low high
  pub telling : KeepsTelling work.types.now view work.g vs pins_old.entries old new
  pub carded : AreCarded work.types.now view work.g vs (rebounded (frame view) work.planned) (is_card_set cards) low
      high

-- so it is with the one reference of an object at this offset
pub record IsSlotRelocated (work : Relocation) (view now : HeapView) (vs : List Move) (old new : HeapView)
    (pins_old pins_new : QueueView) (cards : List (CoverView ℕ)) (last : Stretch) (object : LeftObject) (offset : ℕ)
    : Type 0 where
  pub relocating : IsRelocatingBy work view (stored now (object.found.place + offset) (moved_by vs (word_of view
      (object.found.place + offset)))) new pins_new.entries vs last
  pub telling : KeepsTelling work.types.now view work.g vs pins_old.entries old new
  pub carded : generation (rebounded (frame view) work.planned) (moved_by vs (word_of view (object.found.place +
      offset))) < object.age → is_card_set cards ((object.to + offset) / 2048) ≡ true
