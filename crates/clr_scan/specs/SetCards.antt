-- Set cards as a scan sees them: over items and words.
use Rattle.std.specs.Prelude.{◌≡◌, ◌≢◌, ℕ, ◌+◌, ◌*◌, ◌/◌, ◌%◌, ◌<◌, ◌≤◌, ◌⊎◌, Bool, true, false, List, length}
use Rattle.clr_types.specs.Segments.{reserved_end}
use Rattle.clr_types.specs.Types.{TypeRow}
use Rattle.clr_cards.specs.Cards.{is_card_set}
use Rattle.clr_covers.specs.Covers.{CoverView, HasAll, spans}
use Rattle.clr_heap.specs.View.{HeapView, last_of, segment_at}
use Rattle.clr_scan.specs.References.{AreQuiet, RefersDown}

-- where a reference names an object of a lower generation, the card of its address is set
abbrev pub CardsTell : List TypeRow → HeapView → (ℕ → Bool) → Type 0
CardsTell rows h is_set = (a : ℕ) → RefersDown rows h a → is_set (a / 2048) ≡ true

-- each segment has cards for all that it reserves
abbrev pub HaveCards : HeapView → List (CoverView ℕ) → Type 0
HaveCards h cards =
    (k : ℕ) → k < length h.segments
    → HasAll cards ((segment_at h k).base / 2048) (reserved_end (segment_at h k) / 2048)

-- no card of the addresses from lo up to hi is set
abbrev pub AreClear : (ℕ → Bool) → ℕ → ℕ → Type 0
AreClear is_set lo hi = (a : ℕ) → lo ≤ a → a < hi → is_set (a / 2048) ≡ false

-- Of the cards that lie whole between lo and hi in segment k, and of the last one where the segment ends at hi, those
-- on which no reference names an object of a lower generation are clear.
abbrev pub AreCleared : List TypeRow → HeapView → (ℕ → Bool) → ℕ → ℕ → ℕ → Type 0
AreCleared rows h is_set k lo hi =
    (c : ℕ) → lo ≤ 2048 * c → 2048 * c < hi → (2048 * c + 2048 ≤ hi) ⊎ (hi ≡ last_of h k)
    → AreQuiet rows h k (2048 * c) (2048 * c + 2048)
    → is_set c ≡ false

-- cards were cleared at most, and they still tell all that names an object of a lower generation
pub record AreSettled (rows : List TypeRow) (h : HeapView) (old new : List (CoverView ℕ)) : Type 0 where
  pub law : CardsTell rows h (is_card_set new)
  pub kept : (i : ℕ) → is_card_set new i ≡ true → is_card_set old i ≡ true
  pub spans : spans new ≡ spans old

-- what became of the cards after the stretch from `at` up to `next` was scanned: its card was cleared where it could be
pub record IsCardSettled (old new : ℕ → Bool) (at next end : ℕ) (younger : Bool) : Type 0 where
  pub others : (i : ℕ) → i ≢ at / 2048 → new i ≡ old i
  pub kept : new (at / 2048) ≡ true → old (at / 2048) ≡ true
  pub reason : new (at / 2048) ≡ false → (old (at / 2048) ≡ false)
      ⊎ ((younger ≡ false) × (at % 2048 ≡ 0) × ((next % 2048 ≡ 0) ⊎ (next ≡ end)))
  pub cleared : younger ≡ false → at % 2048 ≡ 0 → (next % 2048 ≡ 0) ⊎ (next ≡ end) → new (at / 2048) ≡ false
