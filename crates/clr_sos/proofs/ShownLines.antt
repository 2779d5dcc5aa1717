-- The text of a listing, with one item more.
use Rattle.std.proofs.Common.{◌≡◌, ◌∙◌, ℕ, Bool, true, false, List, [], ◌∷◌, ◌++◌, filter, ap, ap₂, append-nil}
use Rattle.std.proofs.Common.{append_assoc}
use Rattle.std.proofs.Common.{refl, sym}
use Rattle.std.specs.Prelude.{codes}
use Rattle.std.specs.List.{flat_map}
use Rattle.std.proofs.lemmas.Bool.{both_ways}
use Rattle.std.proofs.lemmas.List.{flat_map_more}
use Rattle.clr_nums.specs.Numbers.{hex16}
use Rattle.clr_types.specs.Types.{TypeRow}
use Rattle.clr_types.specs.declared.item.Item.{Item}
use Rattle.clr_model.specs.declared.Mode.{Mode}
use Rattle.clr_model.specs.declared.Mode.TheVariants.{Full, Short}
use Rattle.clr_model.specs.Sos.{dump_by_mode, item_line, line}
use Rattle.clr_sos.specs.Dumping.{counted, totals_line, totals_of}
use Rattle.clr_sos.specs.declared.listing_lines.Totals.{Totals}
use Rattle.clr_sos.proofs.ListedItems.{counted-push, filter-no, filter-yes}

-- the words of an item's line, put behind a text one by one
pub item_parts : (text a b d n : List ℕ) → (((((((text ++ a) ++ (32 ∷ [])) ++ b) ++ (32 ∷ [])) ++ d) ++ (32 ∷ [])) ++ n)
    ++ (10 ∷ []) ≡ text ++ ((a ++ (32 ∷ (b ++ (32 ∷ (d ++ (32 ∷ n)))))) ++ (10 ∷ []))
item_parts text a b d n = simp append_assoc

-- the same, where the first three were put at once
pub head_parts : (text a b d n : List ℕ)
    → ((text ++ ((a ++ (32 ∷ [])) ++ ((b ++ (32 ∷ [])) ++ (d ++ (32 ∷ []))))) ++ n) ++ (10 ∷ [])
    ≡ text ++ ((a ++ (32 ∷ (b ++ (32 ∷ (d ++ (32 ∷ n)))))) ++ (10 ∷ []))
head_parts text a b d n = simp append_assoc

-- a text grew by what is said of each item that a test passes
abbrev pub Says : (Item → List ℕ) → (Item → Bool) → List ℕ → List ℕ → List Item → Type 0
Says says test before text items = text ≡ before ++ flat_map says (filter test items)

module _ (says : Item → List ℕ) (test : Item → Bool) (before text : List ℕ) (xs : List Item) (i : Item) where
  pub says-skip : test i ≡ false → Says says test before text xs → Says says test before text (xs ++ i ∷ [])
  says-skip fails old = old ∙ ap (λ items. before ++ flat_map says items) (sym (filter-no test xs i fails))

  pub says-more : (new : List ℕ) → test i ≡ true → Says says test before text xs → new ≡ text ++ says i
      → Says says test before new (xs ++ i ∷ [])
  says-more new holds old put = put ∙ ap (λ front. front ++ says i) old ∙ flat_map_more says before (filter test xs) i
      ∙ ap (λ items. before ++ flat_map says items) (sym (filter-yes test xs i holds))

-- ---- the totals of what is shown

module _ (test : Item → Bool) (t : Totals) (xs : List Item) (i : Item) where
  pub totals-skip : test i ≡ false → t ≡ totals_of (filter test xs) → t ≡ totals_of (filter test (xs ++ i ∷ []))
  totals-skip fails old = old ∙ ap totals_of (sym (filter-no test xs i fails))

  pub totals-more : (new : Totals) → test i ≡ true → t ≡ totals_of (filter test xs) → new ≡ counted t i
      → new ≡ totals_of (filter test (xs ++ i ∷ []))
  totals-more new holds old count = count ∙ ap (λ u. counted u i) old ∙ counted-push (filter test xs) i
      ∙ ap totals_of (sym (filter-yes test xs i holds))

pub totals-all : (test : Item → Bool) (t : Totals) (xs items : List Item) → xs ≡ items → t ≡ totals_of (filter test xs)
    → t ≡ totals_of (filter test items)
totals-all test t xs items all old = old ∙ ap (λ is. totals_of (filter test is)) all

-- a line for each item, and the line of the totals
pub full-text : (rows : List TypeRow) (test : Item → Bool) (xs items : List Item) (before text new : List ℕ)
    (t : Totals) → xs ≡ items → Says (item_line rows) test before text xs → t ≡ totals_of (filter test xs)
    → new ≡ text ++ totals_line t → new ≡ before ++ dump_by_mode Full rows (filter test items)
full-text rows test xs items before text new t all lines totals put =
    put ∙ ap₂ (λ (front : List ℕ) (u : Totals). front ++ totals_line u) lines totals
    ∙ append_assoc before (flat_map (item_line rows) (filter test xs)) (totals_line (totals_of (filter test xs)))
    ∙ ap (λ is. before ++ dump_by_mode Full rows (filter test is)) all

-- ---- places alone

abbrev pub place_line : Item → List ℕ
place_line i = line (hex16 i.place ∷ [])

pub place_parts : (text place : List ℕ) → (text ++ place) ++ (10 ∷ []) ≡ text ++ (place ++ (10 ∷ []))
place_parts text place = append_assoc text place (10 ∷ [])

abbrev pub is_some_item : List Item → Bool
is_some_item [] = false
is_some_item (i ∷ items) = true

some-more : (xs : List Item) (i : Item) → true ≡ is_some_item (xs ++ i ∷ [])
some-more [] i = refl
some-more (x ∷ xs) i = refl

pub found-skip : (test : Item → Bool) (found : Bool) (xs : List Item) (i : Item) → test i ≡ false
    → found ≡ is_some_item (filter test xs) → found ≡ is_some_item (filter test (xs ++ i ∷ []))
found-skip test found xs i fails old = old ∙ ap is_some_item (sym (filter-no test xs i fails))

pub found-more : (test : Item → Bool) (xs : List Item) (i : Item) → test i ≡ true
    → true ≡ is_some_item (filter test (xs ++ i ∷ []))
found-more test xs i holds = some-more (filter test xs) i ∙ ap is_some_item (sym (filter-yes test xs i holds))

some-text : (shown : List Item) (before text : List ℕ) → true ≡ is_some_item shown
    → text ≡ before ++ flat_map place_line shown → text ≡ before ++ dump_by_mode Short [] shown
some-text [] before text some lines = absurd (both_ways true some refl)
some-text (i ∷ shown) before text some lines = lines

no-text : (shown : List Item) (before text new : List ℕ) → false ≡ is_some_item shown
    → text ≡ before ++ flat_map place_line shown → new ≡ text ++ codes "none\n"
    → new ≡ before ++ dump_by_mode Short [] shown
no-text [] before text new none lines put =
    put ∙ ap (λ front. front ++ codes "none\n") (lines ∙ append-nil before)
no-text (i ∷ shown) before text new none lines put = absurd (both_ways true (sym none) refl)

module _ (test : Item → Bool) (xs items : List Item) (before text : List ℕ) (found : Bool) (all : xs ≡ items)
    (lines : Says place_line test before text xs) (is : found ≡ is_some_item (filter test xs)) where
  -- a line for each place
  pub short-text : found ≡ true → text ≡ before ++ dump_by_mode Short [] (filter test items)
  short-text some = some-text (filter test xs) before text (sym some ∙ is) lines
      ∙ ap (λ js. before ++ dump_by_mode Short [] (filter test js)) all

  -- or that there is none
  pub none-text : (new : List ℕ) → found ≡ false → new ≡ text ++ codes "none\n"
      → new ≡ before ++ dump_by_mode Short [] (filter test items)
  none-text new none put = no-text (filter test xs) before text new (sym none ∙ is) lines put
      ∙ ap (λ js. before ++ dump_by_mode Short [] (filter test js)) all

-- ---- the whole text

pub whole-text : (mode : Mode) (rows : List TypeRow) (test : Item → Bool) (items all : List Item) (before text : List ℕ)
    → before ≡ [] → items ≡ all → text ≡ before ++ dump_by_mode mode rows (filter test items)
    → text ≡ dump_by_mode mode rows (filter test all)
whole-text mode rows test items all before text none same put =
    put ∙ ap₂ (λ (front : List ℕ) (is : List Item). front ++ dump_by_mode mode rows (filter test is)) none same
