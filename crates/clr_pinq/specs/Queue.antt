-- Saved words, and what they and a heap tell together.
use Rattle.std.specs.Prelude.{◌≡◌, ℕ, ◌+◌, ◌%◌, ◌^◌, ◌<◌, ◌≤◌, List, [], ◌∷◌, map, Option, Some, None, if◌then◌else◌}
use Rattle.std.specs.Prelude.{◌==◌}
use Rattle.clr_pinq.specs.declared.entry.PinEntry.{PinEntry}
use Rattle.clr_pinq.specs.declared.entry.Saved.{Saved}

-- the queue: its entries, by rising address, and how many more can be pushed without new memory
pub record QueueView : Type 0 where
  pub entries : List PinEntry
  pub spare : ℕ

-- ---- reading

-- the word that is saved for an address
abbrev pub saved_word : Saved → ℕ → Option ℕ
saved_word s a = if a == s.at then Some s.w0 else
    (if a == s.at + 8 then Some s.w1 else (if a == s.at + 16 then Some s.w2 else None))

abbrev pub option_word : Option Saved → ℕ → Option ℕ
option_word None a = None
option_word (Some s) a = saved_word s a

-- the first of two that is there
abbrev pub first_of_two : Option ℕ → Option ℕ → Option ℕ
first_of_two None other = other
first_of_two (Some w) other = Some w

abbrev pub entry_word : PinEntry → ℕ → Option ℕ
entry_word e a = first_of_two (option_word e.pre a) (option_word e.post a)

-- the word that one of the entries saves for an address
abbrev pub queue_word : List PinEntry → ℕ → Option ℕ
queue_word [] a = None
queue_word (e ∷ es) a = first_of_two (entry_word e a) (queue_word es a)

abbrev pub or_else : Option ℕ → ℕ → ℕ
or_else None other = other
or_else (Some w) other = w

-- The logical word of an address: the word that is saved for it, and else the word that stands there.
abbrev pub logical : List PinEntry → (ℕ → ℕ) → ℕ → ℕ
logical entries word a = or_else (queue_word entries a) (word a)

-- no word from low up to high is saved, so that the heap's words there are the logical ones
abbrev pub IsPlain : List PinEntry → ℕ → ℕ → Type 0
IsPlain entries low high = (a : ℕ) → low ≤ a → a < high → queue_word entries a ≡ None

-- the words that are saved from an address on are these three
pub record AreSavedFrom (entries : List PinEntry) (a : ℕ) (s : Saved) : Type 0 where
  pub at : s.at ≡ a
  pub first : queue_word entries a ≡ Some s.w0
  pub second : queue_word entries (a + 8) ≡ Some s.w1
  pub third : queue_word entries (a + 16) ≡ Some s.w2

-- ---- writing

abbrev pub saved_with : Saved → ℕ → ℕ → Saved
saved_with s a v =
    if a == s.at then record s { w0 = v } else
    (if a == s.at + 8 then record s { w1 = v } else (if a == s.at + 16 then record s { w2 = v } else s))

abbrev pub option_with : Option Saved → ℕ → ℕ → Option Saved
option_with None a v = None
option_with (Some s) a v = Some (saved_with s a v)

abbrev pub entry_with : PinEntry → ℕ → ℕ → PinEntry
entry_with e a v = record e { pre = option_with e.pre a v; post = option_with e.post a v }

-- the entries with the word that is saved for an address replaced, and as they are where none is
abbrev pub queue_with : List PinEntry → ℕ → ℕ → List PinEntry
queue_with entries a v = map (λ e. entry_with e a v) entries

-- ---- the order of the entries

-- The saved words lie in cells that end at `high` and begin at `low` or above, at multiples of 8.
pub record LiesIn (low high : ℕ) (s : Saved) : Type 0 where
  pub aligned : s.at % 8 ≡ 0
  pub above : low ≤ s.at + 8
  pub below : s.at + 32 ≤ high
  pub fits : s.at + 24 < 2 ^ 64

abbrev pub AllLie : ℕ → ℕ → Option Saved → Type 0
AllLie low high None = Unit {0}
AllLie low high (Some s) = LiesIn low high s

-- what is saved before a plug lies below what is saved at its end
abbrev pub AreInOrder : Option Saved → Option Saved → Type 0
AreInOrder (Some s) (Some t) = s.at + 24 ≤ t.at
AreInOrder _ _ = Unit {0}

-- The entry comes after those that end at `low`: it ends there or above, and what it saves lies between.
pub record ComesAfter (low : ℕ) (e : PinEntry) : Type 0 where
  pub rises : low ≤ e.end
  pub pre : AllLie low e.end e.pre
  pub post : AllLie low e.end e.post
  pub order : AreInOrder e.pre e.post

-- the entries rise from `low` on
abbrev pub AreRising : ℕ → List PinEntry → Type 0
AreRising low [] = Unit {0}
AreRising low (e ∷ es) = ComesAfter low e × AreRising e.end es

-- where the last of the entries ends
abbrev pub last_end : ℕ → List PinEntry → ℕ
last_end low [] = low
last_end low (e ∷ es) = last_end e.end es
