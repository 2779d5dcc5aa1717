-- The colours of objects and the logged cards, as bits beside the segments that there were at the first pause. Here a
-- segment is the part that was in use then, in whole pages.
use Rattle.std.specs.Prelude.{◌≡◌, ℕ, ◌+◌, ◌-◌, ◌*◌, ◌/◌, ◌%◌, ◌^◌, ◌<◌, ◌≤◌, Bool, true, false, ◌&&◌, not, nat_le}
use Rattle.std.specs.Prelude.{nat_lt, refl, get_or}
use Rattle.std.specs.Prelude.{if◌then◌else◌, List, [], ◌∷◌, length, zero, suc, min, ◌==◌}
use Rattle.std.specs.List.{AllByRecursion}
use Rattle.std.specs.Coded.{Coded, code_by, coded×, coded_ℕ, coded_list}
use Rattle.clr_sweep.specs.declared.behind.Front.{Front}
use Rattle.clr_bgmark.specs.Bits.{has_bit, with_bit}
use Rattle.clr_bgmark.specs.declared.shade.Bit.{Bit}
use Rattle.clr_bgmark.specs.declared.shade.Bit.TheVariants.{Taken, Marked, Scanned, Logged}
use Rattle.clr_bgmark.specs.declared.background.Colour.{Colour}
use Rattle.clr_bgmark.specs.declared.background.Colour.TheVariants.{Outside, White, Gray, Black}

-- The bits of a segment: for each eight bytes whether an object stands there that was taken, was marked, was scanned,
-- and for each card whether it is logged.
pub record ShadeView : Type 0 where
  pub base : ℕ
  pub size : ℕ
  pub taken : List ℕ
  pub marked : List ℕ
  pub scanned : List ℕ
  pub logged : List ℕ

abbrev pub ShadeParts : Type 0
ShadeParts = ℕ × (ℕ × (List ℕ × (List ℕ × (List ℕ × List ℕ))))

abbrev pub shade_code : Coded ShadeView
shade_code =
    code_by ShadeParts
    (coded× coded_ℕ (coded× coded_ℕ (coded× (coded_list coded_ℕ) (coded× (coded_list coded_ℕ)
    (coded× (coded_list coded_ℕ) (coded_list coded_ℕ))))))
    (λ s. (s.base, (s.size, (s.taken, (s.marked, (s.scanned, s.logged))))))
    (λ p. record {
      base = p.0;
      size = p.1.0;
      taken = p.1.1.0;
      marked = p.1.1.1.0;
      scanned = p.1.1.1.1.0;
      logged = p.1.1.1.1.1;
    }) (λ _. refl)

-- of each eight bytes of a segment whether a gap began there, something that isn't an object, and where its old part
-- ended
pub record PartView : Type 0 where
  pub gaps : List ℕ
  pub stop : ℕ

abbrev pub part_code : Coded PartView
part_code =
    code_by (List ℕ × ℕ) (coded× (coded_list coded_ℕ) coded_ℕ) (λ p. (p.gaps, p.stop))
    (λ p. record { gaps = p.0; stop = p.1 }) (λ _. refl)

-- whether the address lies in the segment
abbrev pub covers : ShadeView → ℕ → Bool
covers s a = nat_le s.base a && nat_lt a (s.base + s.size)

-- the number of an address's eight bytes in its segment, and that of its card
abbrev pub cell_of : ShadeView → ℕ → ℕ
cell_of s a = (a - s.base) / 8

abbrev pub card_of : ShadeView → ℕ → ℕ
card_of s a = (a - s.base) / 2048

-- there are bits for all of a segment, which begins and ends with a page
pub record IsShade (s : ShadeView) : Type 0 where
  pub base : s.base % 4096 ≡ 0
  pub size : s.size % 4096 ≡ 0
  pub fits : s.base + s.size < 2 ^ 63
  pub taken : s.size ≤ 512 * length s.taken
  pub marked : s.size ≤ 512 * length s.marked
  pub scanned : s.size ≤ 512 * length s.scanned
  pub logged : s.size ≤ 131072 * length s.logged

-- whether a number is marked, and wasn't scanned
abbrev pub is_gray_number : List ℕ → List ℕ → ℕ → Bool
is_gray_number marked scanned n = has_bit marked n && not (has_bit scanned n)

-- whether the place of this number is gray
abbrev pub is_gray_cell : ShadeView → ℕ → Bool
is_gray_cell s n = is_gray_number s.marked s.scanned n

-- no place of a segment is gray
abbrev pub HasNoGray : ShadeView → Type 0
HasNoGray s = (a : ℕ) → covers s a ≡ true → is_gray_cell s (cell_of s a) ≡ false

-- a word of bits of a segment that has a gray place is among those that are pending
pub record IsSearched (s : ShadeView) (waiting : List ℕ) : Type 0 where
  pub shade : IsShade s
  pub room : s.size / 512 ≤ 64 * length waiting
  pub pending : (n : ℕ) → n < s.size / 8 → is_gray_cell s n ≡ true → has_bit waiting (n / 64) ≡ true

-- ---- all segments

-- whether some segment has the address
abbrev pub is_covered : List ShadeView → ℕ → Bool
is_covered [] a = false
is_covered (s ∷ ss) a = if covers s a then true else is_covered ss a

-- what a test says of an address in its segment, and no where none has it
abbrev pub told : (ShadeView → ℕ → Bool) → List ShadeView → ℕ → Bool
told test [] a = false
told test (s ∷ ss) a = if covers s a then test s a else told test ss a

abbrev pub is_taken : List ShadeView → ℕ → Bool
is_taken = told (λ s a. has_bit s.taken (cell_of s a))

abbrev pub is_marked : List ShadeView → ℕ → Bool
is_marked = told (λ s a. has_bit s.marked (cell_of s a))

abbrev pub is_scanned : List ShadeView → ℕ → Bool
is_scanned = told (λ s a. has_bit s.scanned (cell_of s a))

-- whether the card of the address is logged
abbrev pub is_logged : List ShadeView → ℕ → Bool
is_logged = told (λ s a. has_bit s.logged (card_of s a))

-- the segments with what is told of the one that has the address changed
abbrev pub changed_at : ℕ → (ShadeView → ShadeView) → List ShadeView → List ShadeView
changed_at a change [] = []
changed_at a change (s ∷ ss) = if covers s a then change s ∷ ss else s ∷ changed_at a change ss

abbrev pub with_taken : ℕ → ShadeView → ShadeView
with_taken a s = record s { taken = with_bit s.taken (cell_of s a) }

abbrev pub with_marked : ℕ → ShadeView → ShadeView
with_marked a s = record s { marked = with_bit s.marked (cell_of s a) }

abbrev pub with_scanned : ℕ → ShadeView → ShadeView
with_scanned a s = record s { scanned = with_bit s.scanned (cell_of s a) }

abbrev pub with_logged : ℕ → ShadeView → ShadeView
with_logged a s = record s { logged = with_bit s.logged (card_of s a) }

-- with one of them
abbrev pub with_set : Bit → ℕ → ShadeView → ShadeView
with_set Taken = with_taken
with_set Marked = with_marked
with_set Scanned = with_scanned
with_set Logged = with_logged

-- ---- colours

abbrev pub colour_by : Bool → Bool → Bool → Colour
colour_by scanned marked taken =
    if scanned then Black else (if marked then Gray else (if taken then White else Outside))

-- that of an address in its segment
abbrev pub cell_colour : ShadeView → ℕ → Colour
cell_colour s a = colour_by (has_bit s.scanned (cell_of s a)) (has_bit s.marked (cell_of s a))
    (has_bit s.taken (cell_of s a))

abbrev pub colour_at : List ShadeView → ℕ → Colour
colour_at ss a = colour_by (is_scanned ss a) (is_marked ss a) (is_taken ss a)

-- a gray place: marked, and not scanned
abbrev pub is_gray : List ShadeView → ℕ → Bool
is_gray ss a = is_marked ss a && not (is_scanned ss a)

-- no address lies in two of the segments
abbrev pub AreApart : List ShadeView → Type 0
AreApart [] = Unit {0}
AreApart (s ∷ ss) = ((a : ℕ) → covers s a ≡ true → is_covered ss a ≡ false) × AreApart ss

-- the segments stand one above the other, by rising base
abbrev pub AreRising : List ShadeView → Type 0
AreRising [] = Unit {0}
AreRising (s ∷ ss) = AllByRecursion (λ (t : ShadeView). s.base + s.size ≤ t.base) ss × AreRising ss

-- a background collection as its callers see it: whether it runs, the bits, how many objects are gray, the old parts of
-- the segments as they were at the first pause, and their fronts, which the last pause tells
pub record BackgroundView : Type 0 where
  pub running : Bool
  pub shades : List ShadeView
  pub gray : ℕ
  pub parts : List PartView
  pub fronts : List Front

-- all but the bits and the count
abbrev pub rest_of : BackgroundView → BackgroundView
rest_of v = record v { shades = []; gray = 0 }

-- what holds of every one
pub record IsBackground (ss : List ShadeView) : Type 0 where
  pub shades : AllByRecursion IsShade ss
  pub apart : AreApart ss
  pub rising : AreRising ss

-- a segment that has a gray place is among those that are pending
pub record IsWatched (ss : List ShadeView) (waiting : List ℕ) : Type 0 where
  pub background : IsBackground ss
  pub room : length ss ≤ 64 * length waiting
  pub pending : (k : ℕ) (d : ShadeView) → k < length ss → has_bit waiting k ≡ false → HasNoGray (get_or ss k d)

-- none of the first k segments has the address
abbrev pub IsPast : List ShadeView → ℕ → ℕ → Type 0
IsPast ss zero a = Unit {0}
IsPast [] (suc k) a = Unit {0}
IsPast (s ∷ ss) (suc k) a = (covers s a ≡ false) × IsPast ss k a

-- segment k is the first that has the address
abbrev pub IsAt : List ShadeView → ℕ → ℕ → Type 0
IsAt [] k a = ⊥
IsAt (s ∷ ss) zero a = covers s a ≡ true
IsAt (s ∷ ss) (suc k) a = (covers s a ≡ false) × IsAt ss k a

-- ---- following a reference

abbrev pub is_white : Colour → Bool
is_white Outside = false
is_white White = true
is_white Gray = false
is_white Black = false

abbrev pub is_outside : Colour → Bool
is_outside Outside = true
is_outside White = false
is_outside Gray = false
is_outside Black = false

-- one more, or the most that there is
abbrev pub one_more : ℕ → ℕ
one_more n = min (n + 1) 18446744073709551615

-- an object becomes gray
abbrev pub grayed : BackgroundView → ℕ → BackgroundView
grayed v y = record v { shades = changed_at y (with_marked y) v.shades; gray = one_more v.gray }

-- a slot is logged
abbrev pub slot_logged : BackgroundView → ℕ → BackgroundView
slot_logged v a = record v { shades = changed_at a (with_logged a) v.shades }

-- The slot at an address names y: where that is white it becomes gray, and where it wasn't taken the slot is logged.
abbrev pub met : BackgroundView → ℕ → ℕ → BackgroundView
met v y a =
    if y == 0 then v else
    (if is_white (colour_at v.shades y) then grayed v y else
    (if is_outside (colour_at v.shades y) then slot_logged v a else v))

-- the same for the slots at these offsets of an object, one after the other
abbrev pub met_all : (ℕ → ℕ) → BackgroundView → ℕ → List ℕ → BackgroundView
met_all word v obj [] = v
met_all word v obj (offset ∷ offsets) = met_all word (met v (word (obj + offset)) (obj + offset)) obj offsets

-- a gray object is scanned, and still counted as gray
abbrev pub passed : BackgroundView → ℕ → BackgroundView
passed v obj = record v { shades = changed_at obj (with_scanned obj) v.shades }

-- a gray object becomes black
abbrev pub blackened : BackgroundView → ℕ → BackgroundView
blackened v obj = record v { shades = changed_at obj (with_scanned obj) v.shades; gray = v.gray - 1 }
