-- Words that are zero at first, in pages of which some are stored.
use Rattle.std.specs.Prelude.{◌≡◌, ℕ, zero, suc, ◌+◌, ◌-◌, ◌*◌, ◌/◌, ◌%◌, ◌<◌, ◌≤◌, List, [], ◌∷◌, get_or, length}
use Rattle.std.specs.Prelude.{if◌then◌else◌, ◌==◌, Option, None, Some}

-- where the words of a page begin among the stored ones, if it is stored: its number is one more than that of the
-- stored page, and 0 where there is none
abbrev pub page_begin : List ℕ → ℕ → Option ℕ
page_begin numbers page =
    if get_or numbers page 0 == 0 then None else Some (512 * (get_or numbers page 0 - 1))

-- the word of this number
abbrev pub paged_word : List ℕ → List ℕ → ℕ → ℕ
paged_word numbers stored i =
    if get_or numbers (i / 512) 0 == 0 then 0 else
    get_or stored (512 * (get_or numbers (i / 512) 0 - 1) + i % 512) 0

-- n words from this number on; not an `abbrev`, since antt would write it out for a literal
unfoldable pub paged_from : ℕ → ℕ → List ℕ → List ℕ → List ℕ
paged_from i zero numbers stored = []
paged_from i (suc n) numbers stored = paged_word numbers stored i ∷ paged_from (suc i) n numbers stored

-- all n words
unfoldable pub paged_words : ℕ → List ℕ → List ℕ → List ℕ
paged_words n numbers stored = paged_from 0 n numbers stored

-- how many of these pages are stored
unfoldable pub count_stored : List ℕ → ℕ
count_stored [] = 0
count_stored (number ∷ numbers) = if number == 0 then count_stored numbers else suc (count_stored numbers)

-- Of `len` words, so many are stored, page by page, by these numbers; no two pages are stored in one place; and there
-- is room for the numbers and the words of all.
pub record IsPaged (len : ℕ) (numbers : List ℕ) (stored number_room word_room : ℕ) : Type 0 where
  pub whole : len % 512 ≡ 0
  pub few : 512 * length numbers ≤ len
  pub counted : stored ≡ 512 * count_stored numbers
  pub inside : (p : ℕ) → 512 * get_or numbers p 0 ≤ stored
  pub apart : (p q : ℕ) → 0 < get_or numbers p 0 → get_or numbers p 0 ≡ get_or numbers q 0 → p ≡ q
  pub numbers_fit : len ≤ 512 * number_room
  pub words_fit : len ≤ word_room
