-- Lists with the same elements in another order.
use Rattle.std.proofs.Common.{◌≡◌, ◌≢◌, ℕ, ◌+◌, inl, inr, List, [], ◌∷◌, ◌++◌, map, refl, sym, ap, subst, ◌∙◌, arith}
use Rattle.std.proofs.Common.{Bool, true, false, if◌then◌else◌, filter, nat_le, ◌||◌, ◌==◌, Option, Some, sum_by}
use Rattle.std.proofs.lemmas.Bool.{eqb-true}
use Rattle.std.proofs.lemmas.List.Sums.{sum_by-cons}
use Rattle.std.specs.List.{list_any}
use Rattle.clr_types.specs.Rising.{IsIn, first, later, insert_by, sorted_by, find_by}
use Rattle.clr_types.proofs.RisingLists.{in_cons, all_at}
use Rattle.clr_types.proofs.SortedLists.{IsDistinctBy, rising_agree_by, sorted_by-rises, into_sorted_by}
use Rattle.clr_types.proofs.SortedLists.{out_of_sorted_by}
use Rattle.clr_types.proofs.ChangedLists.{all_members}

pub data IsShuffled {X : Type 0} : List X → List X → Type 0 where
  nothing : IsShuffled [] []
  under : {x : X} {xs ys : List X} → IsShuffled xs ys → IsShuffled (x ∷ xs) (x ∷ ys)
  swapped : {x y : X} {xs : List X} → IsShuffled (x ∷ y ∷ xs) (y ∷ x ∷ xs)
  followed : {xs ys zs : List X} → IsShuffled xs ys → IsShuffled ys zs → IsShuffled xs zs

module _ {X : Type 0} where
  pub shuffled-same : (xs : List X) → IsShuffled xs xs
  shuffled-same [] = nothing
  shuffled-same (x ∷ xs) = under (shuffled-same xs)

  pub shuffled-sym : {xs ys : List X} → IsShuffled xs ys → IsShuffled ys xs
  shuffled-sym nothing = nothing
  shuffled-sym (under s) = under (shuffled-sym s)
  shuffled-sym swapped = swapped
  shuffled-sym (followed s t) = followed (shuffled-sym t) (shuffled-sym s)

  pub shuffled-insert : (key : X → ℕ) (x : X) (ys : List X) → IsShuffled (x ∷ ys) (insert_by key x ys)
  shuffled-insert key x [] = under nothing
  shuffled-insert key x (y ∷ ys) = go (nat_le (key x) (key y)) (shuffled-insert key x ys)
    where
      go : (b : Bool) → IsShuffled (x ∷ ys) (insert_by key x ys)
          → IsShuffled (x ∷ y ∷ ys) (if b then x ∷ y ∷ ys else y ∷ insert_by key x ys)
      go true s = shuffled-same (x ∷ y ∷ ys)
      go false s = followed swapped (under s)

  -- sorting shuffles
  pub shuffled-sorted : (key : X → ℕ) (xs : List X) → IsShuffled xs (sorted_by key xs)
  shuffled-sorted key [] = nothing
  shuffled-sorted key (x ∷ xs) = followed (under (shuffled-sorted key xs)) (shuffled-insert key x (sorted_by key xs))

  pub shuffled-in : {xs ys : List X} (z : X) → IsShuffled xs ys → IsIn z xs → IsIn z ys
  shuffled-in z nothing i = i
  shuffled-in z (under {x = x} {ys = ys} s) i =
      elim (in_cons i) [ inl e ↦ subst (λ w. IsIn w (x ∷ ys)) (sym e) first | inr j ↦ later (shuffled-in z s j) ]
  shuffled-in z (swapped {x = x} {y = y} {xs = xs}) i =
      elim (in_cons i) [
        | inl e ↦ subst (λ w. IsIn w (y ∷ x ∷ xs)) (sym e) (later first)
        | inr j ↦ elim (in_cons j) [ inl e ↦ subst (λ w. IsIn w (y ∷ x ∷ xs)) (sym e) first | inr k ↦ later (later k) ]
      ]
  shuffled-in z (followed s t) i = shuffled-in z t (shuffled-in z s i)

  pub shuffled-filter : (test : X → Bool) {xs ys : List X} → IsShuffled xs ys
      → IsShuffled (filter test xs) (filter test ys)
  shuffled-filter test nothing = nothing
  shuffled-filter test (under {x = x} {xs = xs} {ys = ys} s) = go (test x) (shuffled-filter test s)
    where
      go : (b : Bool) → IsShuffled (filter test xs) (filter test ys)
          → IsShuffled (if b then x ∷ filter test xs else filter test xs)
          (if b then x ∷ filter test ys else filter test ys)
      go true t = under t
      go false t = t
  shuffled-filter test (swapped {x = x} {y = y} {xs = xs}) = go (test x) (test y)
    where
      go : (a b : Bool) → IsShuffled (if a then x
          ∷ (if b then y ∷ filter test xs else filter test xs) else (if b then y ∷ filter test xs else filter test xs))
          (if b then y ∷ (if a then x ∷ filter test xs else filter test xs) else
          (if a then x ∷ filter test xs else filter test xs))
      go true true = swapped
      go true false = shuffled-same (x ∷ filter test xs)
      go false true = shuffled-same (y ∷ filter test xs)
      go false false = shuffled-same (filter test xs)
  shuffled-filter test (followed s t) = followed (shuffled-filter test s) (shuffled-filter test t)

  pub shuffled-sum : (f : X → ℕ) {xs ys : List X} → IsShuffled xs ys → sum_by f xs ≡ sum_by f ys
  shuffled-sum f nothing = refl
  shuffled-sum f (under {x = x} {xs = xs} {ys = ys} s) = sum_by-cons f x xs ∙ ap (λ n. f x + n) (shuffled-sum f s)
      ∙ sym (sum_by-cons f x ys)
  shuffled-sum f (swapped {x = x} {y = y} {xs = xs}) =
      let a : sum_by f (x ∷ y ∷ xs) ≡ f x + sum_by f (y ∷ xs) = sum_by-cons f x (y ∷ xs) in
      let b : sum_by f (y ∷ xs) ≡ f y + sum_by f xs = sum_by-cons f y xs in
      let c : sum_by f (y ∷ x ∷ xs) ≡ f y + sum_by f (x ∷ xs) = sum_by-cons f y (x ∷ xs) in
      let d : sum_by f (x ∷ xs) ≡ f x + sum_by f xs = sum_by-cons f x xs in
      a ∙ ap (λ n. f x + n) b ∙ swap (f x) (f y) (sum_by f xs) ∙ sym (c ∙ ap (λ n. f y + n) d)
    where
      swap : (m n k : ℕ) → m + (n + k) ≡ n + (m + k)
      swap m n k = omega arith
  shuffled-sum f (followed s t) = shuffled-sum f s ∙ shuffled-sum f t

  pub shuffled-any : (test : X → Bool) {xs ys : List X} → IsShuffled xs ys → list_any test xs ≡ list_any test ys
  shuffled-any test nothing = refl
  shuffled-any test (under {x = x} s) = ap (λ b. test x || b) (shuffled-any test s)
  shuffled-any test (swapped {x = x} {y = y} {xs = xs}) = go (test x) (test y) (list_any test xs)
    where
      go : (a b c : Bool) → (a || (b || c)) ≡ (b || (a || c))
      go true true c = refl
      go true false c = refl
      go false true c = refl
      go false false c = refl
  shuffled-any test (followed s t) = shuffled-any test s ∙ shuffled-any test t

  module _ (key : X → ℕ) where
    pub shuffled-distinct : {xs ys : List X} → IsShuffled xs ys → IsDistinctBy key xs → IsDistinctBy key ys
    shuffled-distinct nothing d = d
    shuffled-distinct (under {x = x} {xs = xs} {ys = ys} s) d = (
      all_members (λ y. key x ≢ key y) ys
          (λ y i. all_at (λ y. key x ≢ key y) (shuffled-in y (shuffled-sym s) i) d.0),
      shuffled-distinct s d.1,
    )
    shuffled-distinct swapped d = ((λ e. d.0.0 (sym e), d.1.0), (d.0.1, d.1.1))
    shuffled-distinct (followed s t) d = shuffled-distinct t (shuffled-distinct s d)

    -- without equal keys, the sorted lists are one
    pub shuffled-sorts : {xs ys : List X} → IsShuffled xs ys → IsDistinctBy key xs → sorted_by key xs ≡ sorted_by key ys
    shuffled-sorts {xs = xs} {ys = ys} s d =
        rising_agree_by key (sorted_by key xs) (sorted_by key ys) (sorted_by-rises key xs d)
        (sorted_by-rises key ys (shuffled-distinct s d))
        (λ z. (
          λ i. into_sorted_by key z ys (shuffled-in z s (out_of_sorted_by key z xs i)),
          λ i.
              into_sorted_by key z xs (shuffled-in z (shuffled-sym s) (out_of_sorted_by key z ys i)),
        ))

    found_once : (x y : X) (k : ℕ) (o : Option X) → key x ≢ key y → (a b : Bool) → (key x == k) ≡ a → (key y == k) ≡ b
        → (if a then Some x else (if b then Some y else o)) ≡ (if b then Some y else (if a then Some x else o))
    found_once x y k o apart true true e f = absurd (apart (eqb-true (key x) k e ∙ sym (eqb-true (key y) k f)))
    found_once x y k o apart true false e f = refl
    found_once x y k o apart false true e f = refl
    found_once x y k o apart false false e f = refl

    -- and a search finds the same
    pub shuffled-finds : (k : ℕ) {xs ys : List X} → IsShuffled xs ys → IsDistinctBy key xs
        → find_by key k xs ≡ find_by key k ys
    shuffled-finds k nothing d = refl
    shuffled-finds k (under {x = x} s) d = ap (λ o. if key x == k then Some x else o) (shuffled-finds k s d.1)
    shuffled-finds k (swapped {x = x} {y = y} {xs = xs}) d =
        found_once x y k (find_by key k xs) d.0.0 (key x == k) (key y == k) refl refl
    shuffled-finds k (followed s t) d = shuffled-finds k s d ∙ shuffled-finds k t (shuffled-distinct s d)

pub shuffled-map : {X Y : Type 0} (f : X → Y) {xs ys : List X} → IsShuffled xs ys → IsShuffled (map f xs) (map f ys)
shuffled-map f nothing = nothing
shuffled-map f (under s) = under (shuffled-map f s)
shuffled-map f swapped = swapped
shuffled-map f (followed s t) = followed (shuffled-map f s) (shuffled-map f t)

-- ---- lists put together

-- an element goes behind a list
pub shuffled-behind : {X : Type 0} (x : X) (xs ys : List X) → IsShuffled (x ∷ xs ++ ys) (xs ++ (x ∷ ys))
shuffled-behind x [] ys = shuffled-same (x ∷ ys)
shuffled-behind x (z ∷ xs) ys = followed swapped (under (shuffled-behind x xs ys))

pub shuffled-left : {X : Type 0} {xs ys : List X} (zs : List X) → IsShuffled xs ys → IsShuffled (xs ++ zs) (ys ++ zs)
shuffled-left zs nothing = shuffled-same zs
shuffled-left zs (under s) = under (shuffled-left zs s)
shuffled-left zs swapped = swapped
shuffled-left zs (followed s t) = followed (shuffled-left zs s) (shuffled-left zs t)

pub shuffled-right : {X : Type 0} (xs : List X) {ys zs : List X} → IsShuffled ys zs → IsShuffled (xs ++ ys) (xs ++ zs)
shuffled-right [] s = s
shuffled-right (x ∷ xs) s = under (shuffled-right xs s)

-- two lists change places
pub shuffled-turn : {X : Type 0} (xs ys zs : List X) → IsShuffled (xs ++ (ys ++ zs)) (ys ++ (xs ++ zs))
shuffled-turn [] ys zs = shuffled-same (ys ++ zs)
shuffled-turn (x ∷ xs) ys zs = followed (under (shuffled-turn xs ys zs)) (shuffled-behind x ys (xs ++ zs))
