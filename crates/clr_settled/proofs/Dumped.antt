-- What `dumpheap` shows of objects alone is the same before and after.
use Rattle.std.proofs.Common.{◌≡◌, ℕ, ◌≤◌, Bool, true, false, ◌&&◌, if◌then◌else◌, List, [], ◌∷◌, ◌++◌, filter, map}
use Rattle.std.proofs.Common.{refl, ap, sym, ◌∙◌, arith, nat_le}
use Rattle.std.proofs.lemmas.Bool.{le-leb, leb-true}
use Rattle.std.proofs.lemmas.List.{append-nil}
use Rattle.std.proofs.lemmas.List.Elements.{filter-append}
use Rattle.std.specs.List.{AllByRecursion}
use Rattle.clr_types.specs.Ranges.{Piece}
use Rattle.clr_types.specs.Rising.{insert_by, sorted_by}
use Rattle.clr_types.specs.declared.item.Item.{Item}
use Rattle.clr_types.proofs.ChangedLists.{all_imply, IsSortedBy, sorted_by-sorted}
use Rattle.clr_model.specs.Listing.{free_item, items, listing, object_item}
use Rattle.clr_model.specs.Machine.{Machine}
use Rattle.clr_model.specs.Sos.{dump_by_mode, is_free_item, passes, passes_place}
use Rattle.clr_settled.specs.Laws.{DumpedLaw}
use Rattle.clr_settled.specs.Settled.{settled}

module _ {X : Type 0} (key : X → ℕ) (test : X → Bool) where
  insert-front : (x : X) (zs : List X) → AllByRecursion (λ z. key x ≤ key z) zs → insert_by key x zs ≡ x ∷ zs
  insert-front x [] all = refl
  insert-front x (z ∷ zs) all =
      ap (λ (b : Bool). if b then x ∷ z ∷ zs else z ∷ insert_by key x zs) (le-leb (key x) (key z) all.0)

  all-filtered : (P : X → Type 0) (xs : List X) → AllByRecursion P xs → AllByRecursion P (filter test xs)
  all-filtered P [] all = tt
  all-filtered P (x ∷ xs) all = go (test x) (all-filtered P xs all.1)
    where
      go : (b : Bool) → AllByRecursion P (filter test xs)
          → AllByRecursion P (if b then x ∷ filter test xs else filter test xs)
      go true rest = (all.0, rest)
      go false rest = rest

  -- what passes is put in where it was to be put in
  filter-insert : (x : X) (ys : List X) → IsSortedBy key ys
      → filter test (insert_by key x ys) ≡ (if test x then insert_by key x (filter test ys) else filter test ys)
  filter-insert x [] sorted = refl
  filter-insert x (y ∷ ys) sorted = go (nat_le (key x) (key y)) refl (filter-insert x ys sorted.1)
    where
      front : (b : Bool) → AllByRecursion (λ z. key x ≤ key z) (filter test (y ∷ ys))
          → (if b then x ∷ filter test (y ∷ ys) else filter test (y ∷ ys))
          ≡ (if b then insert_by key x (filter test (y ∷ ys)) else filter test (y ∷ ys))
      front true all = sym (insert-front x (filter test (y ∷ ys)) all)
      front false all = refl

      behind : (a b : Bool) → nat_le (key x) (key y) ≡ false
          → filter test (insert_by key x ys) ≡ (if a then insert_by key x (filter test ys) else filter test ys)
          → (if b then y ∷ filter test (insert_by key x ys) else filter test (insert_by key x ys))
          ≡ (if a then insert_by key x (if b then y ∷ filter test ys else filter test ys)
          else (if b then y ∷ filter test ys else filter test ys))
      behind true true above rest =
          ap (λ (zs : List X). y ∷ zs) rest
          ∙ sym (ap (λ (c : Bool). if c then x ∷ y ∷ filter test ys else y ∷ insert_by key x (filter test ys)) above)
      behind true false above rest = rest
      behind false true above rest = ap (λ (zs : List X). y ∷ zs) rest
      behind false false above rest = rest

      go : (b : Bool) → nat_le (key x) (key y) ≡ b
          → filter test (insert_by key x ys) ≡ (if test x then insert_by key x (filter test ys) else filter test ys)
          → filter test (if b then x ∷ y ∷ ys else y ∷ insert_by key x ys)
          ≡ (if test x then insert_by key x (filter test (y ∷ ys)) else filter test (y ∷ ys))
      go true e rest =
          let low : key x ≤ key y = leb-true (key x) (key y) e in
          front (test x)
          (all-filtered (λ z. key x ≤ key z) (y ∷ ys)
          (low, all_imply (λ z. key y ≤ key z) (λ z. key x ≤ key z) ys (λ z h. omega arith) sorted.0))
      go false e rest = behind (test x) (test y) e rest

  -- sorting and leaving out may change places
  pub filter-sorted : (xs : List X) → filter test (sorted_by key xs) ≡ sorted_by key (filter test xs)
  filter-sorted [] = refl
  filter-sorted (x ∷ xs) =
      filter-insert x (sorted_by key xs) (sorted_by-sorted key xs) ∙ go (test x) (filter-sorted xs)
    where
      go : (b : Bool) → filter test (sorted_by key xs) ≡ sorted_by key (filter test xs)
          → (if b then insert_by key x (filter test (sorted_by key xs)) else filter test (sorted_by key xs))
          ≡ sorted_by key (if b then x ∷ filter test xs else filter test xs)
      go true rest = ap (insert_by key x) rest
      go false rest = rest

none-passes : (test : Item → Bool) → ((i : Item) → is_free_item i ≡ true → test i ≡ false) → (ps : List Piece)
    → filter test (map free_item ps) ≡ []
none-passes test none [] = refl
none-passes test none (p ∷ ps) =
    ap (λ (b : Bool). if b then free_item p ∷ filter test (map free_item ps) else filter test (map free_item ps))
    (none (free_item p) refl)
    ∙ none-passes test none ps

-- objects alone pass
objects-pass : (m : Machine) (test : Item → Bool) → ((i : Item) → is_free_item i ≡ true → test i ≡ false)
    → filter test (listing m) ≡ sorted_by (λ (i : Item). i.place) (filter test (map (object_item m.types) m.objects))
objects-pass m test none =
    filter-sorted (λ (i : Item). i.place) test (items m)
    ∙ ap (sorted_by (λ (i : Item). i.place))
    (filter-append test (map (object_item m.types) m.objects) (map free_item m.layout.free)
    ∙ ap (λ (is : List Item). filter test (map (object_item m.types) m.objects) ++ is)
    (none-passes test none m.layout.free)
    ∙ append-nil (filter test (map (object_item m.types) m.objects)))

pub dumped : DumpedLaw
dumped m live o none =
    let test : Item → Bool = λ i. passes m.types live o i && passes_place m.layout o i in
    ap (dump_by_mode o.mode m.types) (objects-pass (settled m) test none ∙ sym (objects-pass m test none))
