-- What is known of cards after some of them were cleared.
use Rattle.std.specs.Prelude.{◌≡◌, ℕ, true, List}
use Rattle.clr_cards.specs.Cards.{is_card_set}
use Rattle.clr_covers.specs.Covers.{CoverView, spans}
use Rattle.clr_scan.specs.SetCards.{AreClear}

-- no card of the addresses from lo up to hi is set, and no card that was clear
pub record HaveCleared (old new : List (CoverView ℕ)) (lo hi : ℕ) : Type 0 where
  pub clear : AreClear (is_card_set new) lo hi
  pub kept : (i : ℕ) → is_card_set new i ≡ true → is_card_set old i ≡ true
  pub spans : spans new ≡ spans old
