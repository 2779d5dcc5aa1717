-- Lists with one element more, or with the elements of one key changed.
use Rattle.std.proofs.Common.{◌≡◌, ◌≢◌, ℕ, zero, suc, ◌+◌, ◌<◌, ◌≤◌, ◌⊎◌, inl, inr, List, [], ◌∷◌, ◌++◌, map, length}
use Rattle.std.proofs.Common.{filter, find, sum_by, refl, sym, ap, subst, ◌∙◌, arith, Bool, true, false, if◌then◌else◌}
use Rattle.std.proofs.Common.{nat_le, ◌==◌, Some, slice_set}
use Rattle.std.specs.List.{AllByRecursion}
use Rattle.std.specs.Prelude.{slice_get}
use Rattle.std.specs.Option.{option_map}
use Rattle.std.proofs.lemmas.Bool.{leb-true, leb-false, lt-leb, le-leb, eqb-true, eqb-false}
use Rattle.std.proofs.lemmas.List.Sums.{sum_by-cons}
use Rattle.clr_types.specs.Rising.{IsIn, first, later, IsRisingBy, insert_by, sorted_by, changed_by}
use Rattle.clr_types.proofs.RisingLists.{in_cons}
use Rattle.clr_types.proofs.SortedLists.{IsDistinctBy}

-- ---- all elements

module _ {X : Type 0} where
  -- what each member has, all have
  pub all_members : (P : X → Type 0) (xs : List X) → ((x : X) → IsIn x xs → P x) → AllByRecursion P xs
  all_members P [] f = tt
  all_members P (x ∷ xs) f = (f x first, all_members P xs (λ y i. f y (later i)))

  -- what follows from each element follows from all
  pub all_imply : (P Q : X → Type 0) (xs : List X) → ((x : X) → P x → Q x) → AllByRecursion P xs → AllByRecursion Q xs
  all_imply P Q [] f all = tt
  all_imply P Q (x ∷ xs) f all = (f x all.0, all_imply P Q xs f all.1)

  -- one element put in the place of another
  pub all-slice_set : (P : X → Type 0) (xs : List X) (i : ℕ) (x : X) → AllByRecursion P xs → P x
      → AllByRecursion P (slice_set xs i x)
  all-slice_set P [] i x all here = tt
  all-slice_set P (y ∷ ys) zero x all here = (here, all.1)
  all-slice_set P (y ∷ ys) (suc i) x all here = (all.0, all-slice_set P ys i x all.1 here)

  pub length-slice_set : (xs : List X) (i : ℕ) (x : X) → length (slice_set xs i x) ≡ length xs
  length-slice_set [] i x = refl
  length-slice_set (y ∷ ys) zero x = refl
  length-slice_set (y ∷ ys) (suc i) x = ap suc (length-slice_set ys i x)

  -- what was put there is read, the last of two writes stands, and what is read may be written back
  pub slice_get-slice_set : (xs : List X) (i : ℕ) (x : X) → i < length xs → slice_get (slice_set xs i x) i ≡ Some x
  slice_get-slice_set [] i x below = absurd (omega arith)
  slice_get-slice_set (y ∷ ys) zero x below = refl
  slice_get-slice_set (y ∷ ys) (suc i) x below = slice_get-slice_set ys i x (omega arith)

  pub slice_set-twice : (xs : List X) (i : ℕ) (x y : X) → slice_set (slice_set xs i x) i y ≡ slice_set xs i y
  slice_set-twice [] i x y = refl
  slice_set-twice (z ∷ zs) zero x y = refl
  slice_set-twice (z ∷ zs) (suc i) x y = ap (λ ws. z ∷ ws) (slice_set-twice zs i x y)

  pub slice_set-same : (xs : List X) (i : ℕ) (x : X) → slice_get xs i ≡ Some x → slice_set xs i x ≡ xs
  slice_set-same [] i x e = refl
  slice_set-same (y ∷ ys) zero x e = let same : x ≡ y = cc in ap (λ z. z ∷ ys) same
  slice_set-same (y ∷ ys) (suc i) x e = ap (λ zs. y ∷ zs) (slice_set-same ys i x e)

-- what passes a test is a member that passes it
module _ {X : Type 0} (test : X → Bool) where
  pub into_filter : {x : X} (xs : List X) → test x ≡ true → IsIn x xs → IsIn x (filter test xs)
  into_filter {x = x} [] e i = elim i [ ]
  into_filter {x = x} (y ∷ xs) e first =
      subst (λ b. IsIn x (if b then x ∷ filter test xs else filter test xs)) (sym e) first
  into_filter {x = x} (y ∷ xs) e (later i) = go (test y) (into_filter xs e i)
    where
      go : (b : Bool) → IsIn x (filter test xs) → IsIn x (if b then y ∷ filter test xs else filter test xs)
      go true j = later j
      go false j = j

  pub out_of_filter : (x : X) (xs : List X) → IsIn x (filter test xs) → (test x ≡ true) × IsIn x xs
  out_of_filter x [] i = elim i [ ]
  out_of_filter x (y ∷ xs) i = go (test y) refl i (out_of_filter x xs)
    where
      head : test y ≡ true → (IsIn x (filter test xs) → (test x ≡ true) × IsIn x xs) → (x ≡ y) ⊎ IsIn x (filter test xs)
          → (test x ≡ true) × IsIn x (y ∷ xs)
      head e more (inl same) = (ap test same ∙ e, subst (λ z. IsIn z (y ∷ xs)) (sym same) first)
      head e more (inr j) = let (t, k) = more j in (t, later k)

      go : (b : Bool) → test y ≡ b → IsIn x (if b then y ∷ filter test xs else filter test xs)
          → (IsIn x (filter test xs) → (test x ≡ true) × IsIn x xs) → (test x ≡ true) × IsIn x (y ∷ xs)
      go true e i more = head e more (in_cons i)
      go false e i more = let (t, k) = more i in (t, later k)

pub append_left : {X : Type 0} {x : X} {xs : List X} (ys : List X) → IsIn x xs → IsIn x (xs ++ ys)
append_left ys first = first
append_left ys (later i) = later (append_left ys i)

-- what holds of the images of all holds of all
pub all-unmap : {X Y : Type 0} (f : X → Y) (P : Y → Type 0) (xs : List X) → AllByRecursion P (map f xs)
    → AllByRecursion (λ x. P (f x)) xs
all-unmap f P [] all = tt
all-unmap f P (x ∷ xs) all = (all.0, all-unmap f P xs all.1)

pub all-map : {X Y : Type 0} (f : X → Y) (P : Y → Type 0) (xs : List X) → AllByRecursion (λ x. P (f x)) xs
    → AllByRecursion P (map f xs)
all-map f P [] all = tt
all-map f P (x ∷ xs) all = (all.0, all-map f P xs all.1)

pub IsIn-map : {X Y : Type 0} (f : X → Y) {x : X} {xs : List X} → IsIn x xs → IsIn (f x) (map f xs)
IsIn-map f first = first
IsIn-map f (later i) = later (IsIn-map f i)

-- functions that agree at each element change the list alike
pub map-agree : {X Y : Type 0} (f g : X → Y) (xs : List X) → AllByRecursion (λ x. f x ≡ g x) xs → map f xs ≡ map g xs
map-agree f g [] same = refl
map-agree f g (x ∷ xs) same = let here = same.0 in let rest = map-agree f g xs same.1 in λ i. here i ∷ rest i

-- ---- sorting

module _ {X : Type 0} (key : X → ℕ) where
  -- no key is below one before it
  abbrev pub IsSortedBy : List X → Type 0
  IsSortedBy [] = Unit {0}
  IsSortedBy (x ∷ xs) = AllByRecursion (λ y. key x ≤ key y) xs × IsSortedBy xs

  pub all-insert_by : (P : X → Type 0) (x : X) (ys : List X) → P x → AllByRecursion P ys
      → AllByRecursion P (insert_by key x ys)
  all-insert_by P x [] here all = (here, tt)
  all-insert_by P x (y ∷ ys) here all = go (nat_le (key x) (key y)) (all-insert_by P x ys here all.1)
    where
      go : (b : Bool) → AllByRecursion P (insert_by key x ys)
          → AllByRecursion P (if b then x ∷ y ∷ ys else y ∷ insert_by key x ys)
      go true rest = (here, all)
      go false rest = (all.0, rest)

  pub insert_by-sorted : (x : X) (ys : List X) → IsSortedBy ys → IsSortedBy (insert_by key x ys)
  insert_by-sorted x [] sorted = (tt, tt)
  insert_by-sorted x (y ∷ ys) sorted = go (nat_le (key x) (key y)) refl (insert_by-sorted x ys sorted.1)
    where
      go : (b : Bool) → nat_le (key x) (key y) ≡ b → IsSortedBy (insert_by key x ys)
          → IsSortedBy (if b then x ∷ y ∷ ys else y ∷ insert_by key x ys)
      go true e rest =
          let low : key x ≤ key y = leb-true (key x) (key y) e in
          ((low, all_imply (λ z. key y ≤ key z) (λ z. key x ≤ key z) ys (λ z h. omega arith) sorted.0), sorted)
      go false e rest =
          let high : key y < key x = leb-false (key x) (key y) e in
          (all-insert_by (λ z. key y ≤ key z) x ys (omega arith) sorted.0, rest)

  pub sorted_by-sorted : (xs : List X) → IsSortedBy (sorted_by key xs)
  sorted_by-sorted [] = tt
  sorted_by-sorted (x ∷ xs) = insert_by-sorted x (sorted_by key xs) (sorted_by-sorted xs)

  -- sorting a sorted list leaves it
  pub sorted_by-done : (xs : List X) → IsSortedBy xs → sorted_by key xs ≡ xs
  sorted_by-done [] sorted = refl
  sorted_by-done (x ∷ []) sorted = refl
  sorted_by-done (x ∷ y ∷ ys) sorted =
      ap (insert_by key x) (sorted_by-done (y ∷ ys) sorted.1)
      ∙ ap (λ b. if b then x ∷ y ∷ ys else y ∷ insert_by key x ys) (le-leb (key x) (key y) sorted.0.0)

  -- a list that rises is sorted, and no two of its keys are equal
  pub rising-sorted : (xs : List X) → IsRisingBy key xs → IsSortedBy xs
  rising-sorted [] rises = tt
  rising-sorted (x ∷ xs) rises = (
    all_imply (λ y. key x < key y) (λ y. key x ≤ key y) xs
        (λ y l. omega arith) rises.0,
    rising-sorted xs rises.1,
  )

  pub rising-distinct : (xs : List X) → IsRisingBy key xs → IsDistinctBy key xs
  rising-distinct [] rises = tt
  rising-distinct (x ∷ xs) rises = (
    all_imply (λ y. key x < key y) (λ y. key x ≢ key y) xs
        (λ y l same. omega arith) rises.0,
    rising-distinct xs rises.1,
  )

  put_at : (x y : X) (ys : List X) → nat_le (key x) (key y) ≡ true → insert_by key x (y ∷ ys) ≡ x ∷ y ∷ ys
  put_at x y ys e = ap (λ b. if b then x ∷ y ∷ ys else y ∷ insert_by key x ys) e

  put_past : (x y : X) (ys : List X) → nat_le (key x) (key y) ≡ false
      → insert_by key x (y ∷ ys) ≡ y ∷ insert_by key x ys
  put_past x y ys e = ap (λ b. if b then x ∷ y ∷ ys else y ∷ insert_by key x ys) e

  -- two elements of different keys are put in in either order
  pub insert_by-swap : (x y : X) (zs : List X) → key x ≢ key y
      → insert_by key x (insert_by key y zs) ≡ insert_by key y (insert_by key x zs)
  insert_by-swap x y [] apart = go (nat_le (key x) (key y)) (nat_le (key y) (key x)) refl refl
    where
      go : (a b : Bool) → nat_le (key x) (key y) ≡ a → nat_le (key y) (key x) ≡ b
          → ◌≡◌ {A = List X} (if a then x ∷ y ∷ [] else y ∷ x ∷ []) (if b then y ∷ x ∷ [] else x ∷ y ∷ [])
      go true true e f = let p = leb-true (key x) (key y) e in let q = leb-true (key y) (key x) f in
          absurd (omega arith)
      go true false e f = refl
      go false true e f = refl
      go false false e f = let p = leb-false (key x) (key y) e in let q = leb-false (key y) (key x) f in
          absurd (omega arith)
  insert_by-swap x y (z ∷ zs) apart =
      go (nat_le (key y) (key z)) (nat_le (key x) (key z)) refl refl (insert_by-swap x y zs apart)
    where
      two : nat_le (key y) (key z) ≡ true → nat_le (key x) (key z) ≡ true → (a b : Bool) → nat_le (key x) (key y) ≡ a
          → nat_le (key y) (key x) ≡ b
          → insert_by key x (y ∷ z ∷ zs) ≡ insert_by key y (x ∷ z ∷ zs)
      two p q true true e f = let m = leb-true (key x) (key y) e in let n = leb-true (key y) (key x) f in
          absurd (omega arith)
      two p q true false e f = put_at x y (z ∷ zs) e
          ∙ sym (put_past y x (z ∷ zs) f ∙ ap (λ ws. x ∷ ws) (put_at y z zs p))
      two p q false true e f = put_past x y (z ∷ zs) e ∙ ap (λ ws. y ∷ ws) (put_at x z zs q)
          ∙ sym (put_at y x (z ∷ zs) f)
      two p q false false e f = let m = leb-false (key x) (key y) e in let n = leb-false (key y) (key x) f in
          absurd (omega arith)

      go : (a b : Bool) → nat_le (key y) (key z) ≡ a → nat_le (key x) (key z) ≡ b
          → insert_by key x (insert_by key y zs) ≡ insert_by key y (insert_by key x zs)
          → insert_by key x (insert_by key y (z ∷ zs)) ≡ insert_by key y (insert_by key x (z ∷ zs))
      go true true e f more = ap (insert_by key x) (put_at y z zs e)
          ∙ two e f (nat_le (key x) (key y)) (nat_le (key y) (key x)) refl refl
          ∙ sym (ap (insert_by key y) (put_at x z zs f))
      go true false e f more =
          let m = leb-true (key y) (key z) e in let n = leb-false (key x) (key z) f in
          ap (insert_by key x) (put_at y z zs e) ∙ put_past x y (z ∷ zs) (lt-leb (key x) (key y) (omega arith))
          ∙ ap (λ ws. y ∷ ws) (put_past x z zs f)
          ∙ sym (ap (insert_by key y) (put_past x z zs f) ∙ put_at y z (insert_by key x zs) e)
      go false true e f more =
          let m = leb-false (key y) (key z) e in let n = leb-true (key x) (key z) f in
          ap (insert_by key x) (put_past y z zs e) ∙ put_at x z (insert_by key y zs) f
          ∙ sym (ap (insert_by key y) (put_at x z zs f)
          ∙ put_past y x (z ∷ zs) (lt-leb (key y) (key x) (omega arith)) ∙ ap (λ ws. x ∷ ws) (put_past y z zs e))
      go false false e f more =
          ap (insert_by key x) (put_past y z zs e) ∙ put_past x z (insert_by key y zs) f ∙ ap (λ ws. z ∷ ws) more
          ∙ sym (ap (insert_by key y) (put_past x z zs f) ∙ put_past y z (insert_by key x zs) e)

  -- an element of a key of its own among others, sorted: put into the others, sorted
  pub sorted_by-among : (xs : List X) (x : X) (ys : List X) → AllByRecursion (λ y. key y ≢ key x) xs
      → sorted_by key (xs ++ x ∷ ys) ≡ insert_by key x (sorted_by key (xs ++ ys))
  sorted_by-among [] x ys apart = refl
  sorted_by-among (y ∷ xs) x ys apart = ap (insert_by key y) (sorted_by-among xs x ys apart.1)
      ∙ insert_by-swap y x (sorted_by key (xs ++ ys)) apart.0

  -- an element above all others stands last
  pub insert_by-last : (x : X) (ys : List X) → AllByRecursion (λ y. key y < key x) ys
      → insert_by key x ys ≡ ys ++ x ∷ []
  insert_by-last x [] above = refl
  insert_by-last x (y ∷ ys) above = put_past x y ys (lt-leb (key x) (key y) above.0)
      ∙ ap (λ zs. y ∷ zs) (insert_by-last x ys above.1)

  pub rising-push : (xs : List X) (x : X) → IsRisingBy key xs → AllByRecursion (λ y. key y < key x) xs
      → IsRisingBy key (xs ++ x ∷ [])
  rising-push [] x rises above = (tt, tt)
  rising-push (y ∷ ys) x rises above = (push ys rises.0 above.0, rising-push ys x rises.1 above.1)
    where
      push : (zs : List X) → AllByRecursion (λ z. key y < key z) zs → key y < key x
          → AllByRecursion (λ z. key y < key z) (zs ++ x ∷ [])
      push [] all here = (here, tt)
      push (z ∷ zs) all here = (all.0, push zs all.1 here)

  -- ---- tests of sorted lists

  module _ (test : X → Bool) where
    none_passes : (xs : List X) → AllByRecursion (λ x. test x ≡ false) xs → filter test xs ≡ []
    none_passes [] all = refl
    none_passes (x ∷ xs) all = ap (λ b. if b then x ∷ filter test xs else filter test xs) all.0 ∙ none_passes xs all.1

    -- an element that fails the test is not seen by it
    pub filter-insert_out : (x : X) (ys : List X) → test x ≡ false → filter test (insert_by key x ys) ≡ filter test ys
    filter-insert_out x [] fails = ap (λ b. if b then x ∷ [] else []) fails
    filter-insert_out x (y ∷ ys) fails = go (nat_le (key x) (key y)) (filter-insert_out x ys fails)
      where
        go : (b : Bool) → filter test (insert_by key x ys) ≡ filter test ys
            → filter test (if b then x ∷ y ∷ ys else y ∷ insert_by key x ys) ≡ filter test (y ∷ ys)
        go true rest = ap (λ b. if b then x ∷ filter test (y ∷ ys) else filter test (y ∷ ys)) fails
        go false rest = ap (λ zs. if test y then y ∷ zs else zs) rest

    -- one that passes it, above all others that do, is the last that does
    pub filter-insert_last : (x : X) (ys : List X) → IsSortedBy ys → test x ≡ true
        → AllByRecursion (λ y. test y ≡ true → key y < key x) ys
        → filter test (insert_by key x ys) ≡ filter test ys ++ x ∷ []
    filter-insert_last x [] sorted passes above = ap (λ b. if b then x ∷ [] else []) passes
    filter-insert_last x (y ∷ ys) sorted passes above =
        go (nat_le (key x) (key y)) refl (filter-insert_last x ys sorted.1 passes above.1)
      where
        fails : (z : X) (b : Bool) → test z ≡ b → key x ≤ key z → (test z ≡ true → key z < key x) → test z ≡ false
        fails z true e low below = let l = below e in absurd (omega arith)
        fails z false e low below = e

        all_fail : (zs : List X) → AllByRecursion (λ z. key x ≤ key z) zs
            → AllByRecursion (λ z. test z ≡ true → key z < key x) zs → AllByRecursion (λ z. test z ≡ false) zs
        all_fail [] low below = tt
        all_fail (z ∷ zs) low below = (fails z (test z) refl low.0 below.0, all_fail zs low.1 below.1)

        behind : (b : Bool) → filter test ys ++ x ∷ [] ≡ filter test (insert_by key x ys)
            → (if b then y ∷ filter test (insert_by key x ys) else filter test (insert_by key x ys))
            ≡ (if b then y ∷ filter test ys else filter test ys) ++ x ∷ []
        behind true rest = ap (λ zs. y ∷ zs) (sym rest)
        behind false rest = sym rest

        go : (b : Bool) → nat_le (key x) (key y) ≡ b → filter test (insert_by key x ys) ≡ filter test ys ++ x ∷ []
            → filter test (if b then x ∷ y ∷ ys else y ∷ insert_by key x ys) ≡ filter test (y ∷ ys) ++ x ∷ []
        go true e rest =
            let low : key x ≤ key y = leb-true (key x) (key y) e in
            let none = none_passes (y ∷ ys)
            (all_fail (y ∷ ys) (
              low,
              all_imply (λ z. key y ≤ key z) (λ z. key x ≤ key z) ys
                  (λ z h. omega arith) sorted.0,
            ) above) in
            ap (λ b. if b then x ∷ filter test (y ∷ ys) else filter test (y ∷ ys)) passes ∙ ap (λ zs. x ∷ zs) none
            ∙ ap (λ zs. zs ++ x ∷ []) (sym none)
        go false e rest = behind (test y) (sym rest)

  -- ---- the elements of one key, changed

  module _ (k : ℕ) (change : X → X) where
    -- each is changed, or is what it was
    pub all-changed_by : (P : X → Type 0) (xs : List X) → ((x : X) → IsIn x xs → key x ≡ k → P (change x))
        → ((x : X) → IsIn x xs → key x ≢ k → P x) → AllByRecursion P (changed_by key k change xs)
    all-changed_by P [] there other = tt
    all-changed_by P (x ∷ xs) there other =
        (go (key x == k) refl, all-changed_by P xs (λ y i. there y (later i)) (λ y i. other y (later i)))
      where
        go : (b : Bool) → (key x == k) ≡ b → P (if b then change x else x)
        go true e = there x first (eqb-true (key x) k e)
        go false e = other x first (eqb-false (key x) k e)

    -- what a change does not touch is of each element as before
    pub all-changed_same : (P : X → Type 0) → ((x : X) → P x → P (change x)) → (xs : List X) → AllByRecursion P xs
        → AllByRecursion P (changed_by key k change xs)
    all-changed_same P keeps [] all = tt
    all-changed_same P keeps (x ∷ xs) all = (go (key x == k), all-changed_same P keeps xs all.1)
      where
        go : (b : Bool) → P (if b then change x else x)
        go true = keeps x all.0
        go false = all.0

    pub length-changed_by : (xs : List X) → length (changed_by key k change xs) ≡ length xs
    length-changed_by [] = refl
    length-changed_by (x ∷ xs) = ap suc (length-changed_by xs)

    pub sum_by-changed_by : (f : X → ℕ) → ((x : X) → f (change x) ≡ f x) → (xs : List X)
        → sum_by f (changed_by key k change xs) ≡ sum_by f xs
    sum_by-changed_by f keeps [] = refl
    sum_by-changed_by f keeps (x ∷ xs) =
        sum_by-cons f (if key x == k then change x else x) (changed_by key k change xs)
        ∙ ap (λ n. n + sum_by f (changed_by key k change xs)) (go (key x == k))
        ∙ ap (λ n. f x + n) (sum_by-changed_by f keeps xs)
        ∙ sym (sum_by-cons f x xs)
      where
        go : (b : Bool) → f (if b then change x else x) ≡ f x
        go true = keeps x
        go false = refl

    module _ (test : X → Bool) (keeps : (x : X) → test (change x) ≡ test x) where
      same_test : (x : X) (b : Bool) → test (if b then change x else x) ≡ test x
      same_test x true = keeps x
      same_test x false = refl

      -- a test that does not see the change, before or after it
      pub filter-changed_by : (xs : List X)
          → filter test (changed_by key k change xs) ≡ changed_by key k change (filter test xs)
      filter-changed_by [] = refl
      filter-changed_by (x ∷ xs) =
          ap (λ b. if b then (if key x == k then change x else x)
          ∷ filter test (changed_by key k change xs) else filter test (changed_by key k change xs))
          (same_test x (key x == k))
          ∙ go (test x) (filter-changed_by xs)
        where
          go : (b : Bool) → filter test (changed_by key k change xs) ≡ changed_by key k change (filter test xs)
              → (if b then (if key x == k then change x else x)
              ∷ filter test (changed_by key k change xs) else filter test (changed_by key k change xs))
              ≡ changed_by key k change (if b then x ∷ filter test xs else filter test xs)
          go true rest = ap (λ ys. (if key x == k then change x else x) ∷ ys) rest
          go false rest = rest

      -- and a search by it finds the same element, perhaps changed
      pub find-changed_by : (xs : List X)
          → find test (changed_by key k change xs) ≡ option_map (λ x. if key x == k then change x else x) (find test xs)
      find-changed_by [] = refl
      find-changed_by (x ∷ xs) =
          ap (λ b. if b then Some (if key x == k then change x else x) else find test (changed_by key k change xs))
          (same_test x (key x == k))
          ∙ go (test x) (find-changed_by xs)
        where
          go : (b : Bool) → find test (changed_by key k change xs)
              ≡ option_map (λ x. if key x == k then change x else x) (find test xs)
              → (if b then Some (if key x == k then change x else x) else find test (changed_by key k change xs))
              ≡ option_map (λ x. if key x == k then change x else x) (if b then Some x else find test xs)
          go true rest = refl
          go false rest = rest
