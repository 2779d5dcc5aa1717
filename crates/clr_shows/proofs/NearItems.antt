-- The items at an address and next to it, on a walk over items that stand one above the other.
use Rattle.std.proofs.Common.{◌≡◌, ◌∙◌, ℕ, ◌+◌, ◌-◌, ◌<◌, ◌≤◌, ◌&&◌, Bool, true, false, inl, inr, List, [], ◌∷◌, ◌++◌}
use Rattle.std.proofs.Common.{arith}
use Rattle.std.proofs.Common.{cond, filter, find, refl, sym, ap, ap₂, nat_le, nat_lt, Option, Some, None, append-nil}
use Rattle.std.proofs.Common.{length, subst}
use Rattle.std.specs.Option.{option_or}
use Rattle.std.specs.List.{AllByRecursion}
use Rattle.std.proofs.lemmas.Bool.{cases_lt, le-leb, le-ltb, lt-leb, lt-ltb, ltb-false, ltb-true}
use Rattle.std.proofs.lemmas.List.Elements.{filter-append}
use Rattle.clr_types.specs.Types.{TypeRow}
use Rattle.clr_types.specs.declared.item.Item.{Item}
use Rattle.clr_types.proofs.ChangedLists.{all_imply}
use Rattle.clr_model.specs.Looks.{is_over, last_item, place_or}
use Rattle.clr_view.proofs.Items.{AreStacked}
use Rattle.clr_shows.specs.Near.{AreKnown, item_above, item_before, item_over, last_begun, near_in, with_item}
use Rattle.clr_shows.specs.declared.near.Near.{Near}

-- ---- options

-- nothing to fall back on
pub or-none : {X : Type 0} (o : Option X) → option_or o None ≡ o
or-none None = refl
or-none (Some x) = refl

-- one choice behind another
or-or : {X : Type 0} (o p q : Option X) → option_or (option_or o p) q ≡ option_or o (option_or p q)
or-or None p q = refl
or-or (Some x) p q = refl

-- ---- lists of items

-- the last item of a list that has another item in front is its own last one, or that item where it has none
last-behind : (i : Item) (items : List Item) → last_item (i ∷ items) ≡ option_or (last_item items) (Some i)
last-behind i [] = refl
last-behind i (j ∷ []) = refl
last-behind i (j ∷ k ∷ items) = last-behind j (k ∷ items) ∙ sym (kept (last_item (k ∷ items)))
    ∙ ap (λ (o : Option Item). option_or o (Some i)) (sym (last-behind j (k ∷ items)))
  where
    kept : (o : Option Item) → option_or (option_or o (Some j)) (Some i) ≡ option_or o (Some j)
    kept None = refl
    kept (Some x) = refl

-- items that begin at or above an address
abbrev pub AreAbove : ℕ → List Item → Type 0
AreAbove b items = AllByRecursion (λ (j : Item). b ≤ j.place) items

-- where a test fails at each item, it finds none
find-failed : (test : Item → Bool) (items : List Item) → AllByRecursion (λ j. test j ≡ false) items
    → find test items ≡ None
find-failed test [] all = refl
find-failed test (i ∷ items) all =
    ap (λ (b : Bool). cond b (Some i) (find test items)) all.0 ∙ find-failed test items all.1

-- where a test fails at each item, a filter keeps none
pub filter-failed : (test : Item → Bool) (items : List Item) → AllByRecursion (λ j. test j ≡ false) items
    → filter test items ≡ []
filter-failed test [] all = refl
filter-failed test (i ∷ items) all =
    ap (λ (b : Bool). cond b (i ∷ filter test items) (filter test items)) all.0 ∙ filter-failed test items all.1

-- where a test passes each item, a filter keeps all
pub filter-passed : (test : Item → Bool) (items : List Item) → AllByRecursion (λ j. test j ≡ true) items
    → filter test items ≡ items
filter-passed test [] all = refl
filter-passed test (i ∷ items) all =
    ap (λ (b : Bool). cond b (i ∷ filter test items) (filter test items)) all.0
    ∙ ap (λ (js : List Item). i ∷ js) (filter-passed test items all.1)

-- the item that a test finds begins at or above an address where all items do
place_or-above : (test : Item → Bool) (items : List Item) (a b : ℕ) → AreAbove b items → b ≤ a
    → b ≤ place_or a (find test items)
place_or-above test [] a b above low = low
place_or-above test (i ∷ items) a b above low = go (test i) (place_or-above test items a b above.1 low)
  where
    go : (hit : Bool) → b ≤ place_or a (find test items) → b ≤ place_or a (cond hit (Some i) (find test items))
    go true rest = above.0
    go false rest = rest

-- ---- items above the address

module _ (a b : ℕ) (items : List Item) (above : AreAbove b items) (high : a < b) where
  -- no item that begins above an address is over it
  over-none : item_over a items ≡ None
  over-none = find-failed (is_over a) items
      (all_imply (λ (j : Item). b ≤ j.place) (λ (j : Item). is_over a j ≡ false) items
      (λ j l. ap (λ (t : Bool). t && nat_lt a (j.place + j.size)) (lt-leb j.place a (omega (arith, l, high)))) above)

  -- no item that begins above an address ends at or below an address that is no higher
  ended-none : (p : ℕ) → p ≤ a → filter (λ (j : Item). nat_le (j.place + j.size) p) items ≡ []
  ended-none p low = filter-failed (λ (j : Item). nat_le (j.place + j.size) p) items
      (all_imply (λ (j : Item). b ≤ j.place) (λ (j : Item). nat_le (j.place + j.size) p ≡ false) items
      (λ j l. lt-leb (j.place + j.size) p (omega (arith, l, high, low))) above)

  -- no item that begins above an address is before it
  before-none : item_before a items ≡ None
  before-none =
      ap (λ (o : Option Item). last_item (filter (λ (j : Item). nat_le (j.place + j.size) (place_or a o)) items))
      over-none
      ∙ ap last_item (ended-none a (omega arith))

  -- no item that begins above an address begins at or below it
  begun-none : filter (λ (j : Item). nat_le j.place a) items ≡ []
  begun-none = filter-failed (λ (j : Item). nat_le j.place a) items
      (all_imply (λ (j : Item). b ≤ j.place) (λ (j : Item). nat_le j.place a ≡ false) items
      (λ j l. lt-leb j.place a (omega (arith, l, high))) above)

-- ---- what is known of items, and those that are left

-- what is near an address: what is known of the items passed, and the items that are left of a walk
abbrev pub joined : Near → List Item → ℕ → Near
joined near items a = record {
  before = option_or (item_before a items) near.before;
  at = option_or near.at (item_over a items);
  after = item_above a items;
}

-- nothing is known yet
abbrev pub nothing : Near
nothing = record { before = None; at = None; after = None }

-- the last item is known that ended at or below the address
abbrev pub ended : Option Item → Near
ended before = record { before = before; at = None; after = None }

-- a walk begins where nothing is known, and all items are left
pub joined-starts : (items : List Item) (a : ℕ) → near_in items a ≡ joined nothing items a
joined-starts items a =
    let before = sym (or-none (item_before a items)) in
    λ k. record { before = before k; at = item_over a items; after = item_above a items }

-- where no items are left, what is near the address is what is known
pub joined-ends : (near : Near) (items : List Item) (a : ℕ) → near.after ≡ None → items ≡ []
    → joined near items a ≡ near
joined-ends near items a none done =
    ap (λ (is : List Item). joined near is a) done
    ∙ λ k. record { before = near.before; at = or-none near.at k; after = sym none k }

module _ (near : Near) (i : Item) (items : List Item) (a : ℕ) (above : AreAbove (i.place + i.size) items) where
  -- the next item begins above the address: it is the one after, and no other is near
  pub joined-above : a < i.place → joined near (i ∷ items) a ≡ record near { after = Some i }
  joined-above high =
      let all : AreAbove i.place (i ∷ items) = (
        omega arith,
        all_imply (λ (j : Item). i.place + i.size ≤ j.place) (λ (j : Item). i.place ≤ j.place) items
            (λ j l. omega (arith, l)) above,
      ) in
      let before = before-none a i.place (i ∷ items) all high in
      let at = ap (option_or near.at) (over-none a i.place (i ∷ items) all high) ∙ or-none near.at in
      let after = ap (λ (b : Bool). cond b (Some i) (item_above a items)) (lt-ltb a i.place high) in
      λ k. record { before = option_or (before k) near.before; at = at k; after = after k }

  -- an item that begins at or below the address isn't the first above it
  after-skipped : i.place ≤ a → item_above a (i ∷ items) ≡ item_above a items
  after-skipped low = ap (λ (b : Bool). cond b (Some i) (item_above a items)) (le-ltb a i.place low)

  -- the next item begins at or below the address, and ends above it: it is the one over the address
  over-found : i.place ≤ a → a < i.place + i.size → item_over a (i ∷ items) ≡ Some i
  over-found low high =
      ap (λ (b : Bool). cond b (Some i) (item_over a items))
      (ap₂ (λ (s t : Bool). s && t) (le-leb i.place a low) (lt-ltb a (i.place + i.size) high))

  -- the next item is over the address, so none behind it is before the address
  before-over : i.place ≤ a → a < i.place + i.size → item_before a (i ∷ items) ≡ None
  before-over low high =
      let at = over-found low high in
      ap (λ (o : Option Item). last_item (filter (λ (j : Item). nat_le (j.place + j.size) (place_or a o)) (i ∷ items)))
      at
      ∙ ap last_item (filter-failed (λ (j : Item). nat_le (j.place + j.size) i.place) (i ∷ items) (
        lt-leb (i.place + i.size) i.place (omega (arith, low, high)),
        all_imply (λ (j : Item). i.place + i.size ≤ j.place)
            (λ (j : Item). nat_le (j.place + j.size) i.place ≡ false) items
            (λ j l. lt-leb (j.place + j.size) i.place (omega (arith, l, low, high))) above,
      ))

  -- the next item is over the address: it is known, and left no more
  pub joined-over : near.at ≡ None → i.place ≤ a → a < i.place + i.size
      → joined near (i ∷ items) a ≡ joined (record near { at = Some i }) items a
  joined-over free low high =
      let before = before-over low high ∙ sym (before-none a (i.place + i.size) items above high) in
      let at = ap (λ (o : Option Item). option_or o (item_over a (i ∷ items))) free ∙ over-found low high in
      let after = after-skipped low in
      λ k. record { before = option_or (before k) near.before; at = at k; after = after k }

  -- the next item ends at or below the address: it is the one before, unless another one follows
  over-skipped : i.place + i.size ≤ a → item_over a (i ∷ items) ≡ item_over a items
  over-skipped low =
      ap (λ (b : Bool). cond b (Some i) (item_over a items))
      (ap (λ (t : Bool). nat_le i.place a && t) (le-ltb a (i.place + i.size) low) ∙ go (nat_le i.place a))
    where
      go : (t : Bool) → (t && false) ≡ false
      go true = refl
      go false = refl

  -- the next item ends at or below the address: it is the one before, unless another one is
  before-ended : i.place + i.size ≤ a → item_before a (i ∷ items) ≡ option_or (item_before a items) (Some i)
  before-ended low =
      let bound = place_or-above (is_over a) items a (i.place + i.size) above low in
      let test : Item → Bool = λ j. nat_le (j.place + j.size) (place_or a (item_over a items)) in
      ap (λ (o : Option Item). last_item (filter (λ (j : Item). nat_le (j.place + j.size) (place_or a o)) (i ∷ items)))
      (over-skipped low)
      ∙ ap (λ (b : Bool). last_item (cond b (i ∷ filter test items) (filter test items)))
      (le-leb (i.place + i.size) (place_or a (item_over a items)) bound)
      ∙ last-behind i (filter test items)

  -- the next item ends at or below the address: it is known, and left no more
  pub joined-ended : i.place + i.size ≤ a → joined near (i ∷ items) a ≡ joined (record near { before = Some i }) items a
  joined-ended low =
      let before = ap (λ (o : Option Item). option_or o near.before) (before-ended low)
      ∙ or-or (item_before a items) (Some i) near.before in
      let at = ap (option_or near.at) (over-skipped low) in
      let after = after-skipped (omega (arith, low)) in
      λ k. record { before = before k; at = at k; after = after k }

  -- ONE ITEM MORE that begins at or below the address is known, and is left no more
  pub joined-on : near.at ≡ None → i.place ≤ a → joined near (i ∷ items) a ≡ joined (with_item near i a) items a
  joined-on free low = go (nat_lt a (i.place + i.size)) refl
    where
      go : (b : Bool) → nat_lt a (i.place + i.size) ≡ b → joined near (i ∷ items) a
          ≡ joined (cond b (record near { at = Some i }) (record near { before = Some i })) items a
      go true e = joined-over free low (ltb-true a (i.place + i.size) e)
      go false e = joined-ended (ltb-false a (i.place + i.size) e)

-- ---- a walk in two

-- all items in front end at or below the address: the last of them is what is known
pub joined-front : (before : Option Item) (front rest : List Item) (a : ℕ) → AreStacked (front ++ rest)
    → AllByRecursion (λ (i : Item). i.place + i.size ≤ a) front
    → joined (ended before) (front ++ rest) a ≡ joined (ended (option_or (last_item front) before)) rest a
joined-front before [] rest a stacked low = refl
joined-front before (i ∷ front) rest a stacked low =
    joined-ended (ended before) i (front ++ rest) a stacked.0 low.0
    ∙ joined-front (Some i) front rest a stacked.1 low.1
    ∙ ap (λ (o : Option Item). joined (ended o) rest a) (sym (or-or (last_item front) (Some i) before)
    ∙ ap (λ (o : Option Item). option_or o before) (sym (last-behind i front)))

-- ---- the last item that begins at or below an address

-- the item over the address, or else the one before it
abbrev pub over_or_before : Near → Option Item
over_or_before near = option_or near.at near.before

-- the last item that begins at or below an address is the one over it, or else the one before it
pub begun-joined : (before : Option Item) (items : List Item) (a : ℕ) → AreStacked items
    → over_or_before (joined (ended before) items a) ≡ option_or (last_begun a items) before
begun-joined before [] a stacked = refl
begun-joined before (i ∷ items) a stacked = elim (cases_lt a i.place) [
  | inl high ↦
      let all : AreAbove i.place (i ∷ items) = (
        omega arith,
        all_imply (λ (j : Item). i.place + i.size ≤ j.place) (λ (j : Item). i.place ≤ j.place) items
            (λ j l. omega (arith, l)) stacked.0,
      ) in
      ap over_or_before (joined-above (ended before) i items a stacked.0 high)
      ∙ sym (ap (λ (is : List Item). option_or (last_item is) before) (begun-none a i.place (i ∷ items) all high))
  | inr low ↦ elim (cases_lt a (i.place + i.size)) [
    | inl high ↦
        ap over_or_before (joined-over (ended before) i items a stacked.0 refl low high)
        ∙ sym (ap (λ (o : Option Item). option_or o before) (here low
        ∙ ap (λ (is : List Item). last_item (i ∷ is)) (begun-none a (i.place + i.size) items stacked.0 high)))
    | inr past ↦
        ap over_or_before (joined-ended (ended before) i items a stacked.0 past)
        ∙ begun-joined (Some i) items a stacked.1
        ∙ sym (ap (λ (o : Option Item). option_or o before) (here low
        ∙ last-behind i (filter (λ (j : Item). nat_le j.place a) items))
        ∙ or-or (last_begun a items) (Some i) before)
  ]
]
  where
    here : i.place ≤ a → last_begun a (i ∷ items) ≡ last_item (i ∷ filter (λ (j : Item). nat_le j.place a) items)
    here low =
        let begun = filter (λ (j : Item). nat_le j.place a) items in
        ap (λ (b : Bool). last_item (cond b (i ∷ begun) begun)) (le-leb i.place a low)

-- where the first item begins at or below the address, the last one that does is none of those in front
pub begun-first : (before : Option Item) (i : Item) (items : List Item) (a : ℕ) → i.place ≤ a
    → option_or (last_begun a (i ∷ items)) before ≡ option_or (last_begun a (i ∷ items)) None
begun-first before i items a low =
    let rest = filter (λ (j : Item). nat_le j.place a) items in
    let is : last_begun a (i ∷ items) ≡ option_or (last_item rest) (Some i) =
    ap (λ (b : Bool). last_item (cond b (i ∷ rest) rest)) (le-leb i.place a low) ∙ last-behind i rest in
    let told : (o : Option Item) → option_or (last_begun a (i ∷ items)) o ≡ option_or (last_item rest) (Some i) =
    λ o. ap (λ (p : Option Item). option_or p o) is ∙ or-or (last_item rest) (Some i) o in
    told before ∙ sym (told None)

-- where items in front begin below an address, and the others at or above it, the last one below is one in front
pub begun-front : (front rest : List Item) (start : ℕ) → 0 < start
    → AllByRecursion (λ (i : Item). i.place < start) front → AreAbove start rest
    → last_begun (start - 1) (front ++ rest) ≡ last_item front
begun-front front rest start some low above =
    let test : Item → Bool = λ j. nat_le j.place (start - 1) in
    ap last_item (filter-append test front rest
    ∙ ap₂ (λ (xs ys : List Item). xs ++ ys) (filter-passed test front
    (all_imply (λ (i : Item). i.place < start) (λ (i : Item). test i ≡ true) front
    (λ i l. le-leb i.place (start - 1) (omega (arith, l))) low))
    (begun-none (start - 1) start rest above (omega (arith, some)))
    ∙ append-nil front)

-- ---- what is known of what was found

-- what holds of all items holds of the one that a test finds
find-known : (P : Item → Type 0) (test : Item → Bool) (items : List Item) (i : Item) → AllByRecursion P items
    → find test items ≡ Some i → P i
find-known P test [] i all found = absurd cc
find-known P test (j ∷ items) i all found = go (test j) found (find-known P test items i all.1)
  where
    go : (b : Bool) → cond b (Some j) (find test items) ≡ Some i → (find test items ≡ Some i → P i) → P i
    go true is rest = let same : j ≡ i = cc in subst P same all.0
    go false is rest = rest is

-- what holds of all items holds of the last one
last-known : (P : Item → Type 0) (items : List Item) (i : Item) → AllByRecursion P items → last_item items ≡ Some i
    → P i
last-known P [] i all found = absurd cc
last-known P (j ∷ []) i all found = let same : j ≡ i = cc in subst P same all.0
last-known P (j ∷ k ∷ items) i all found = last-known P (k ∷ items) i all.1 found

-- what holds of all items holds of those that a test passes
filter-all : (P : Item → Type 0) (test : Item → Bool) (items : List Item) → AllByRecursion P items
    → AllByRecursion P (filter test items)
filter-all P test [] all = tt
filter-all P test (i ∷ items) all = go (test i) (filter-all P test items all.1)
  where
    go : (b : Bool) → AllByRecursion P (filter test items)
        → AllByRecursion P (cond b (i ∷ filter test items) (filter test items))
    go true rest = (all.0, rest)
    go false rest = rest

-- what is found among items of types that are there is of such types
pub known-near : (rows : List TypeRow) (items : List Item) (a : ℕ)
    → AllByRecursion (λ (i : Item). i.type_id.0 ≤ length rows) items → AreKnown rows (near_in items a)
known-near rows items a all =
    let P : Item → Type 0 = λ i. i.type_id.0 ≤ length rows in
    let test : Item → Bool = λ j. nat_le (j.place + j.size) (place_or a (item_over a items)) in
    record {
      before = λ i found. last-known P (filter test items) i (filter-all P test items all) found;
      at = λ i found. find-known P (is_over a) items i all found;
      after = λ i found. find-known P (λ (j : Item). nat_lt a j.place) items i all found;
    }
