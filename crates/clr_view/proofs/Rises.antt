-- Objects rise by place as their items do, and one put among them comes to stand at its place.
use Rattle.std.proofs.Common.{if◌then◌else◌, ◌≡◌, ◌≢◌, ℕ, ◌<◌, Bool, true, false, List, [], ◌∷◌, ◌++◌, filter, map}
use Rattle.std.proofs.Common.{refl, ap, ◌∙◌, arith}
use Rattle.std.specs.List.{AllByRecursion}
use Rattle.std.proofs.lemmas.Bool.{le-leb, lt-leb}
use Rattle.std.proofs.lemmas.List.{append-nil}
use Rattle.clr_types.specs.Rising.{insert_by, IsRisingBy, sorted_by}
use Rattle.clr_types.specs.Types.{TypeRow}
use Rattle.clr_types.specs.declared.item.Item.{Item}
use Rattle.clr_types.proofs.ChangedLists.{all_imply, rising-sorted, sorted_by-among, sorted_by-done}
use Rattle.clr_model.specs.Machine.{Object}
use Rattle.clr_view.specs.View.{is_object, object_in, objects_among}

-- what holds of the places of items holds of the names of the objects among them
pub objects-all : (rows : List TypeRow) (word : ℕ → ℕ) (P : ℕ → Type 0) (items : List Item)
    → AllByRecursion (λ (i : Item). P i.place) items
    → AllByRecursion (λ (o : Object). P o.name) (objects_among rows word items)
objects-all rows word P [] all = tt
objects-all rows word P (i ∷ items) all = go (is_object i) (objects-all rows word P items all.1)
  where
    go : (b : Bool) → AllByRecursion (λ (o : Object). P o.name) (objects_among rows word items)
        → AllByRecursion (λ (o : Object). P o.name)
        (map (object_in rows word) (if b then i ∷ filter is_object items else filter is_object items))
    go true rest = (all.0, rest)
    go false rest = rest

pub objects-rise : (rows : List TypeRow) (word : ℕ → ℕ) (items : List Item) → IsRisingBy (λ (i : Item). i.place) items
    → IsRisingBy (λ (o : Object). o.name) (objects_among rows word items)
objects-rise rows word [] rise = tt
objects-rise rows word (i ∷ items) rise = go (is_object i) (objects-rise rows word items rise.1)
  where
    go : (b : Bool) → IsRisingBy (λ (o : Object). o.name) (objects_among rows word items)
        → IsRisingBy (λ (o : Object). o.name)
        (map (object_in rows word) (if b then i ∷ filter is_object items else filter is_object items))
    go true rest = (objects-all rows word (λ n. i.place < n) items rise.0, rest)
    go false rest = rest

module _ {X : Type 0} (key : X → ℕ) where
  all-middle : (P : X → Type 0) (xs : List X) (x : X) (ys : List X) → AllByRecursion P (xs ++ x ∷ ys) → P x
  all-middle P [] x ys all = all.0
  all-middle P (z ∷ xs) x ys all = all-middle P xs x ys all.1

  all-without : (P : X → Type 0) (xs : List X) (x : X) (ys : List X) → AllByRecursion P (xs ++ x ∷ ys)
      → AllByRecursion P (xs ++ ys)
  all-without P [] x ys all = all.1
  all-without P (z ∷ xs) x ys all = (all.0, all-without P xs x ys all.1)

  -- a list that rises still does without one of its elements
  pub rising-without : (xs : List X) (x : X) (ys : List X) → IsRisingBy key (xs ++ x ∷ ys) → IsRisingBy key (xs ++ ys)
  rising-without [] x ys rise = rise.1
  rising-without (z ∷ xs) x ys rise = (all-without (λ y. key z < key y) xs x ys rise.0, rising-without xs x ys rise.1)

  apart-around : (xs : List X) (x : X) (ys : List X) → IsRisingBy key (xs ++ x ∷ ys)
      → AllByRecursion (λ y. key y ≢ key x) (xs ++ ys)
  apart-around [] x ys rise = all_imply (λ y. key x < key y) (λ y. key y ≢ key x) ys (λ y l same. omega arith) rise.0
  apart-around (z ∷ xs) x ys rise =
      let low : key z < key x = all-middle (λ y. key z < key y) xs x ys rise.0 in
      ((λ same. omega arith), apart-around xs x ys rise.1)

  inserted-between : (xs : List X) (x : X) (ys : List X) → IsRisingBy key (xs ++ x ∷ ys)
      → insert_by key x (xs ++ ys) ≡ xs ++ x ∷ ys
  inserted-between [] x [] rise = refl
  inserted-between [] x (y ∷ ys) rise = let below = rise.0.0 in let at = le-leb (key x) (key y) (omega arith) in
      rw at refl
  inserted-between (z ∷ xs) x ys rise =
      let low : key z < key x = all-middle (λ y. key z < key y) xs x ys rise.0 in
      let past = lt-leb (key x) (key z) low in
      rw past (ap (λ zs. z ∷ zs) (inserted-between xs x ys rise.1))

  -- sorted with one element more, a rising list has it at its place
  pub sorted-between : (xs : List X) (x : X) (ys : List X) → IsRisingBy key (xs ++ x ∷ ys)
      → sorted_by key ((xs ++ ys) ++ x ∷ []) ≡ xs ++ x ∷ ys
  sorted-between xs x ys rise =
      sorted_by-among key (xs ++ ys) x [] (apart-around xs x ys rise)
      ∙ ap (λ zs. insert_by key x (sorted_by key zs)) (append-nil (xs ++ ys))
      ∙ ap (insert_by key x)
      (sorted_by-done key (xs ++ ys) (rising-sorted key (xs ++ ys) (rising-without xs x ys rise)))
      ∙ inserted-between xs x ys rise
