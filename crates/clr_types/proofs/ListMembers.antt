-- Members of lists that are put together, mapped and filtered, and lists without equal keys.
use Rattle.std.proofs.Common.{◌≡◌, ◌≢◌, ℕ, ◌+◌, ◌<◌, ◌⊎◌, inl, inr, List, [], ◌∷◌, ◌++◌, map, refl, sym, ap, ◌∙◌, arith}
use Rattle.std.proofs.Common.{Bool, true, false, if◌then◌else◌, filter, nat_le, ◌||◌, sum_by}
use Rattle.std.proofs.lemmas.Bool.{or_cases}
use Rattle.std.proofs.lemmas.List.Sums.{sum_by-cons}
use Rattle.std.specs.List.{AllByRecursion, list_any}
use Rattle.clr_types.specs.Rising.{IsIn, first, later, IsRisingBy, sorted_by, insert_by}
use Rattle.clr_types.proofs.RisingLists.{in_cons, all_at}
use Rattle.clr_types.proofs.SortedLists.{IsDistinctBy, into_sorted_by, into_insert_by}
use Rattle.clr_types.proofs.ChangedLists.{all_members, out_of_filter, append_left, IsIn-map}

-- ---- mapped and filtered

pub map-map : {X Y Z : Type 0} (f : X → Y) (g : Y → Z) (xs : List X) → map g (map f xs) ≡ map (λ x. g (f x)) xs
map-map f g [] = refl
map-map f g (x ∷ xs) = ap (λ ys. g (f x) ∷ ys) (map-map f g xs)

pub map-on : {X Y : Type 0} (f g : X → Y) (xs : List X) → ((x : X) → IsIn x xs → f x ≡ g x) → map f xs ≡ map g xs
map-on f g [] h = refl
map-on f g (x ∷ xs) h = let e = h x first in let t = map-on f g xs (λ y i. h y (later i)) in λ i. e i ∷ t i

pub filter-map : {X Y : Type 0} (f : X → Y) (test : Y → Bool) (xs : List X)
    → filter test (map f xs) ≡ map f (filter (λ x. test (f x)) xs)
filter-map f test [] = refl
filter-map f test (x ∷ xs) = go (test (f x)) (filter-map f test xs)
  where
    go : (b : Bool) → filter test (map f xs) ≡ map f (filter (λ x. test (f x)) xs)
        → (if b then f x ∷ filter test (map f xs) else filter test (map f xs))
        ≡ map f (if b then x ∷ filter (λ x. test (f x)) xs else filter (λ x. test (f x)) xs)
    go true e = ap (λ ys. f x ∷ ys) e
    go false e = e

pub filter-on : {X : Type 0} (s t : X → Bool) (xs : List X) → ((x : X) → IsIn x xs → s x ≡ t x)
    → filter s xs ≡ filter t xs
filter-on s t [] h = refl
filter-on s t (x ∷ xs) h = let e = h x first in let r = filter-on s t xs (λ y i. h y (later i)) in
    λ i. if e i then x ∷ r i else r i

pub any-map : {X Y : Type 0} (f : X → Y) (test : Y → Bool) (xs : List X)
    → list_any test (map f xs) ≡ list_any (λ x. test (f x)) xs
any-map f test [] = refl
any-map f test (x ∷ xs) = ap (λ b. test (f x) || b) (any-map f test xs)

pub any-on : {X : Type 0} (s t : X → Bool) (xs : List X) → ((x : X) → IsIn x xs → s x ≡ t x)
    → list_any s xs ≡ list_any t xs
any-on s t [] h = refl
any-on s t (x ∷ xs) h = let e = h x first in let r = any-on s t xs (λ y i. h y (later i)) in λ i. e i || r i

pub sum-mapped : {X Y : Type 0} (f : X → Y) (n : Y → ℕ) (xs : List X) → sum_by n (map f xs) ≡ sum_by (λ x. n (f x)) xs
sum-mapped f n [] = refl
sum-mapped f n (x ∷ xs) = sum_by-cons n (f x) (map f xs) ∙ ap (λ k. n (f x) + k) (sum-mapped f n xs)
    ∙ sym (sum_by-cons (λ x. n (f x)) x xs)

pub distinct-on : {X : Type 0} (key other : X → ℕ) (xs : List X) → ((x : X) → IsIn x xs → key x ≡ other x)
    → IsDistinctBy other xs → IsDistinctBy key xs
distinct-on key other [] e d = tt
distinct-on key other (x ∷ xs) e d = (
  all_members (λ y. key x ≢ key y) xs
      (λ y i f. all_at (λ y. other x ≢ other y) i d.0 (sym (e x first) ∙ f ∙ e y (later i))),
  distinct-on key other xs
      (λ y i. e y (later i)) d.1,
)

module _ {X Y : Type 0} (f : X → Y) where
  -- a member of the images is an image
  abbrev pub ImageOf : List X → Y → Type 0
  ImageOf xs y = (x : X) × (y ≡ f x) × IsIn x xs

  pub from-map : (y : Y) (xs : List X) → IsIn y (map f xs) → ImageOf xs y
  from-map y [] i = elim i [ ]
  from-map y (x ∷ xs) i = go (in_cons i) (from-map y xs)
    where
      go : (y ≡ f x) ⊎ IsIn y (map f xs) → (IsIn y (map f xs) → ImageOf xs y) → ImageOf (x ∷ xs) y
      go (inl e) more = (x, e, first)
      go (inr j) more = let (w, e, k) = more j in (w, e, later k)

module _ {X : Type 0} (test : X → Bool) where
  -- the members that pass a test rise as all do
  pub filter-rises : (key : X → ℕ) (xs : List X) → IsRisingBy key xs → IsRisingBy key (filter test xs)
  filter-rises key [] r = tt
  filter-rises key (x ∷ xs) r = go (test x) (filter-rises key xs r.1)
    where
      go : (b : Bool) → IsRisingBy key (filter test xs)
          → IsRisingBy key (if b then x ∷ filter test xs else filter test xs)
      go true more = (
        all_members (λ y. key x < key y) (filter test xs)
            (λ y i. all_at (λ y. key x < key y) (out_of_filter test y xs i).1 r.0),
        more,
      )
      go false more = more

-- some member passes a test
pub any-from : {X : Type 0} (test : X → Bool) (xs : List X) (x : X) → IsIn x xs → test x ≡ true
    → list_any test xs ≡ true
any-from test [] x i e = elim i [ ]
any-from test (y ∷ xs) x first e = ap (λ b. b || list_any test xs) e
any-from test (y ∷ xs) x (later i) e = go (test y) (any-from test xs x i e)
  where
    go : (b : Bool) → list_any test xs ≡ true → (b || list_any test xs) ≡ true
    go true f = refl
    go false f = f

pub any-in : {X : Type 0} (test : X → Bool) (xs : List X) → list_any test xs ≡ true
    → (x : X) × IsIn x xs × (test x ≡ true)
any-in test [] e = absurd cc
any-in test (x ∷ xs) e = go (or_cases (test x) (list_any test xs) e) (any-in test xs)
  where
    go : (test x ≡ true) ⊎ (list_any test xs ≡ true) → (list_any test xs ≡ true → (y : _) × IsIn y xs × (test y ≡ true))
        → (y : _) × IsIn y (x ∷ xs) × (test y ≡ true)
    go (inl f) more = (x, first, f)
    go (inr f) more = let (y, i, t) = more f in (y, later i, t)

-- ---- put together

-- a member of two lists in one is one of the first or of the second
pub in_append : {X : Type 0} {x : X} (xs : List X) {ys : List X} → IsIn x (xs ++ ys) → IsIn x xs ⊎ IsIn x ys
in_append [] i = inr i
in_append (y ∷ xs) first = inl first
in_append (y ∷ xs) (later i) = elim (in_append xs i) [ inl j ↦ inl (later j) | inr j ↦ inr j ]

pub append_right : {X : Type 0} {x : X} (xs : List X) {ys : List X} → IsIn x ys → IsIn x (xs ++ ys)
append_right [] i = i
append_right (y ∷ xs) i = later (append_right xs i)

-- ---- lists without equal keys

-- what all of two lists have, all of both in one have
pub both_all : {X : Type 0} (P : X → Type 0) (xs ys : List X) → AllByRecursion P xs → AllByRecursion P ys
    → AllByRecursion P (xs ++ ys)
both_all P [] ys h k = k
both_all P (x ∷ xs) ys h k = (h.0, both_all P xs ys h.1 k)

pub distinct_append : {X : Type 0} (key : X → ℕ) (xs ys : List X) → IsDistinctBy key xs → IsDistinctBy key ys
    → ((x y : X) → IsIn x xs → IsIn y ys → key x ≢ key y) → IsDistinctBy key (xs ++ ys)
distinct_append key [] ys d e apart = e
distinct_append key (x ∷ xs) ys d e apart = (
  both_all (λ y. key x ≢ key y) xs ys d.0
      (all_members (λ y. key x ≢ key y) ys (λ y i. apart x y first i)),
  distinct_append key xs ys d.1 e
      (λ z y i j. apart z y (later i) j),
)

pub rising_append : {X : Type 0} (key : X → ℕ) (xs ys : List X) → IsRisingBy key xs → IsRisingBy key ys
    → ((x y : X) → IsIn x xs → IsIn y ys → key x < key y) → IsRisingBy key (xs ++ ys)
rising_append key [] ys d e apart = e
rising_append key (x ∷ xs) ys d e apart = (
  both_all (λ y. key x < key y) xs ys d.0
      (all_members (λ y. key x < key y) ys (λ y i. apart x y first i)),
  rising_append key xs ys d.1 e
      (λ z y i j. apart z y (later i) j),
)

pub distinct_right : {X : Type 0} (key : X → ℕ) (xs ys : List X) → IsDistinctBy key (xs ++ ys) → IsDistinctBy key ys
distinct_right key [] ys d = d
distinct_right key (x ∷ xs) ys d = distinct_right key xs ys d.1

-- another key without equal values
pub distinct-by : {X : Type 0} (key other : X → ℕ) (xs : List X)
    → ((x y : X) → IsIn x xs → IsIn y xs → other x ≡ other y → key x ≡ key y) → IsDistinctBy key xs
    → IsDistinctBy other xs
distinct-by key other [] f d = tt
distinct-by key other (x ∷ xs) f d = (
  all_members (λ y. other x ≢ other y) xs
      (λ y i e. all_at (λ y. key x ≢ key y) i d.0 (f x y first (later i) e)),
  distinct-by key other xs
      (λ y z i j. f y z (later i) (later j)) d.1,
)

pub distinct_of_inserted : {X : Type 0} (key : X → ℕ) (x : X) (ys : List X) → IsDistinctBy key (insert_by key x ys)
    → AllByRecursion (λ y. key x ≢ key y) ys × IsDistinctBy key ys
distinct_of_inserted key x [] d = (tt, tt)
distinct_of_inserted key x (y ∷ ys) d = go (nat_le (key x) (key y)) d (distinct_of_inserted key x ys)
  where
    go : (b : Bool) → IsDistinctBy key (if b then x ∷ y ∷ ys else y ∷ insert_by key x ys)
        → (IsDistinctBy key (insert_by key x ys) → AllByRecursion (λ z. key x ≢ key z) ys × IsDistinctBy key ys)
        → (key x ≢ key y × AllByRecursion (λ z. key x ≢ key z) ys)
        × (AllByRecursion (λ z. key y ≢ key z) ys × IsDistinctBy key ys)
    go true d more = (d.0, d.1)
    go false d more =
        let (apart, rest) = more d.1 in (
          (λ e. all_at (λ z. key y ≢ key z) (into_insert_by key x x ys first) d.0 (sym e), apart),
          (
            all_members (λ z. key y ≢ key z) ys
                (λ z i. all_at (λ z. key y ≢ key z) (into_insert_by key x z ys (later i)) d.0),
            rest,
          ),
        )

-- a list whose sorted form has no equal keys has none
pub distinct_of_sorted : {X : Type 0} (key : X → ℕ) (xs : List X) → IsDistinctBy key (sorted_by key xs)
    → IsDistinctBy key xs
distinct_of_sorted key [] d = tt
distinct_of_sorted key (x ∷ xs) d =
    let (apart, rest) = distinct_of_inserted key x (sorted_by key xs) d in (
      all_members (λ y. key x ≢ key y) xs
          (λ y i. all_at (λ y. key x ≢ key y) (into_sorted_by key y xs i) apart),
      distinct_of_sorted key xs rest,
    )

pub distinct_left : {X : Type 0} (key : X → ℕ) (xs ys : List X) → IsDistinctBy key (xs ++ ys) → IsDistinctBy key xs
distinct_left key [] ys d = tt
distinct_left key (x ∷ xs) ys d = (
  all_members (λ y. key x ≢ key y) xs
      (λ y i. all_at (λ y. key x ≢ key y) (append_left ys i) d.0),
  distinct_left key xs ys d.1,
)

pub distinct_unmap : {X Y : Type 0} (f : X → Y) (key : Y → ℕ) (xs : List X) → IsDistinctBy key (map f xs)
    → IsDistinctBy (λ x. key (f x)) xs
distinct_unmap f key [] d = tt
distinct_unmap f key (x ∷ xs) d = (
  all_members (λ y. key (f x) ≢ key (f y)) xs
      (λ y i. all_at (λ y. key (f x) ≢ key y) (IsIn-map f i) d.0),
  distinct_unmap f key xs d.1,
)

pub distinct_map : {X Y : Type 0} (f : X → Y) (key : Y → ℕ) (xs : List X) → IsDistinctBy (λ x. key (f x)) xs
    → IsDistinctBy key (map f xs)
distinct_map f key [] d = tt
distinct_map f key (x ∷ xs) d = (mapped xs d.0, distinct_map f key xs d.1)
  where
    mapped : (ys : List _) → AllByRecursion (λ y. key (f x) ≢ key (f y)) ys
        → AllByRecursion (λ y. key (f x) ≢ key y) (map f ys)
    mapped [] h = tt
    mapped (y ∷ ys) h = (h.0, mapped ys h.1)

pub distinct_filter : {X : Type 0} (key : X → ℕ) (test : X → Bool) (xs : List X) → IsDistinctBy key xs
    → IsDistinctBy key (filter test xs)
distinct_filter key test [] d = tt
distinct_filter key test (x ∷ xs) d = go (test x) (distinct_filter key test xs d.1)
  where
    go : (b : Bool) → IsDistinctBy key (filter test xs)
        → IsDistinctBy key (if b then x ∷ filter test xs else filter test xs)
    go true more = (
      all_members (λ y. key x ≢ key y) (filter test xs)
          (λ y i. all_at (λ y. key x ≢ key y) (out_of_filter test y xs i).1 d.0),
      more,
    )
    go false more = more

-- what rises has one element of a key
pub rising_same : {X : Type 0} (key : X → ℕ) (xs : List X) (x y : X) → IsRisingBy key xs → IsIn x xs → IsIn y xs
    → key x ≡ key y → x ≡ y
rising_same key xs x y r first first e = refl
rising_same key (z ∷ xs) x y r first (later j) e = let above : key x < key y = all_at (λ w. key x < key w) j r.0 in
    absurd (omega arith)
rising_same key (z ∷ xs) x y r (later i) first e = let above : key y < key x = all_at (λ w. key y < key w) i r.0 in
    absurd (omega arith)
rising_same key (z ∷ xs) x y r (later i) (later j) e = rising_same key xs x y r.1 i j e

-- an element of the first list and one of the second have other keys
pub distinct_cross : {X : Type 0} (key : X → ℕ) (xs ys : List X) → IsDistinctBy key (xs ++ ys) → (x y : X) → IsIn x xs
    → IsIn y ys → key x ≢ key y
distinct_cross key [] ys d x y i j = elim i [ ]
distinct_cross key (z ∷ xs) ys d x y first j = all_at (λ w. key x ≢ key w) (append_right xs j) d.0
distinct_cross key (z ∷ xs) ys d x y (later i) j = distinct_cross key xs ys d.1 x y i j
