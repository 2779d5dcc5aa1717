-- Places that stand apart, and those of them that lie in one brick.
use Rattle.std.proofs.Common.{◌≡◌, ◌⊎◌, inl, inr, ℕ, ◌+◌, ◌/◌, ◌<◌, ◌≤◌, List, [], ◌∷◌, refl, ap, sym, ◌∙◌, subst}
use Rattle.std.proofs.Common.{arith, true, false, Bool, filter, if◌then◌else◌}
use Rattle.std.proofs.lemmas.Bool.{eqb-true, eq-eqb}
use Rattle.std.proofs.Common.{eqb}
use Rattle.std.specs.List.{AllByRecursion}
use Rattle.clr_types.specs.Rising.{first, IsIn, IsRisingBy, later}
use Rattle.clr_types.proofs.RisingLists.{all_at, in_cons}
use Rattle.clr_types.proofs.ListMembers.{filter-rises}
use Rattle.clr_plugs.specs.Plans.{AreSpaced}
use Rattle.clr_plugs.specs.Searches.{nearest}
use Rattle.clr_plugs.specs.Trees.{starts_in}
use Rattle.std.proofs.Common.{leb}
use Rattle.std.proofs.lemmas.Bool.{cases_lt, leb-true, le-leb}

-- ---- spaced lists

pub spaced-above : (low : ℕ) (xs : List ℕ) → AreSpaced low xs → (x : ℕ) → IsIn x xs → low ≤ x
spaced-above low [] s x i = elim i [ ]
spaced-above low (y ∷ ys) s x i =
    elim (in_cons i) [
      | inl e ↦ let h = s.0 in omega (arith, h, e)
      | inr more ↦ let h = s.0 in
          let r = spaced-above (y + 24) ys s.1 x more in omega (arith, h, r)
    ]

-- what holds at each element, by recursion
pub all_from : {X : Type 0} (P : X → Type 0) (xs : List X) → ((x : X) → IsIn x xs → P x) → AllByRecursion P xs
all_from P [] h = tt
all_from P (x ∷ xs) h = (h x first, all_from P xs (λ y i. h y (later i)))

pub spaced-rises : (low : ℕ) (xs : List ℕ) → AreSpaced low xs → IsRisingBy (λ x. x) xs
spaced-rises low [] s = tt
spaced-rises low (y ∷ ys) s = (
  all_from (λ z. y < z) ys (λ z i. let r = spaced-above (y + 24) ys s.1 z i in omega (arith, r)),
  spaced-rises (y + 24) ys s.1,
)

-- two places of a spaced list are the same or 24 apart
pub spaced-apart : (low : ℕ) (xs : List ℕ) → AreSpaced low xs → (x y : ℕ) → IsIn x xs → IsIn y xs
    → (x ≡ y) ⊎ ((x + 24 ≤ y) ⊎ (y + 24 ≤ x))
spaced-apart low [] s x y i j = elim i [ ]
spaced-apart low (z ∷ zs) s x y i j = elim (in_cons i) [
  | inl e ↦ elim (in_cons j) [
    | inl f ↦ inl (e ∙ sym f)
    | inr more ↦ inr (inl (let r = spaced-above (z + 24) zs s.1 y more in omega (arith, r, e)))
  ]
  | inr there ↦ elim (in_cons j) [
    | inl f ↦ inr (inr (let r = spaced-above (z + 24) zs s.1 x there in omega (arith, r, f)))
    | inr more ↦ spaced-apart (z + 24) zs s.1 x y there more
  ]
]

-- ---- the places of one brick

pub out_of_filter : {X : Type 0} (test : X → Bool) (xs : List X) (x : X) → IsIn x (filter test xs)
    → IsIn x xs × (test x ≡ true)
out_of_filter {X} test [] x i = elim i [ ]
out_of_filter {X} test (y ∷ ys) x i = go (λ j. out_of_filter test ys x j) (test y) refl i where
  go : (IsIn x (filter test ys) → IsIn x ys × (test x ≡ true)) → (b : Bool) → test y ≡ b
      → IsIn x (if b then y ∷ filter test ys else filter test ys) → IsIn x (y ∷ ys) × (test x ≡ true)
  go up true e j = elim (in_cons j) [
    | inl here ↦ (let P : X → Type 0 = λ z. IsIn z (y ∷ ys) in subst P (sym here) first, ap test here ∙ e)
    | inr more ↦ let r = up more in (later r.0, r.1)
  ]
  go up false e j = let r = up j in (later r.0, r.1)

pub into_filter : {X : Type 0} (test : X → Bool) (xs : List X) (x : X) → IsIn x xs → test x ≡ true
    → IsIn x (filter test xs)
into_filter {X} test [] x i t = elim i [ ]
into_filter {X} test (y ∷ ys) x i t = go (λ j. into_filter test ys x j t) (test y) refl where
  go : (IsIn x ys → IsIn x (filter test ys)) → (b : Bool) → test y ≡ b
      → IsIn x (if b then y ∷ filter test ys else filter test ys)
  go up true e = elim (in_cons i) [
    | inl here ↦ (let P : X → Type 0 = λ z. IsIn z (y ∷ filter test ys) in subst P (sym here) first)
    | inr more ↦ later (up more)
  ]
  go up false e = elim (in_cons i) [
    | inl here ↦ absurd (let bad : true ≡ false = sym t ∙ ap test here ∙ e in cc)
    | inr more ↦ up more
  ]

pub in_brick : (brick : ℕ) (starts : List ℕ) (x : ℕ) → IsIn x (starts_in brick starts)
    → IsIn x starts × (x / 4096 ≡ brick)
in_brick brick starts x i = let r = out_of_filter (λ y. eqb (y / 4096) brick) starts x i in
    (r.0, eqb-true (x / 4096) brick r.1)

pub into_brick : (brick : ℕ) (starts : List ℕ) (x : ℕ) → IsIn x starts → x / 4096 ≡ brick
    → IsIn x (starts_in brick starts)
into_brick brick starts x i e = into_filter (λ y. eqb (y / 4096) brick) starts x i (eq-eqb (x / 4096) brick e)

pub brick-rises : (brick low : ℕ) (starts : List ℕ) → AreSpaced low starts
    → IsRisingBy (λ x. x) (starts_in brick starts)
brick-rises brick low starts s = filter-rises (λ y. eqb (y / 4096) brick) (λ x. x) starts (spaced-rises low starts s)

-- ---- the nearest place

-- what the nearest of rising places is: the other one where all stand above, and else the greatest that doesn't
pub data IsTheNearest (xs : List ℕ) (a other found : ℕ) : Type 0 where
  all_above : found ≡ other → ((x : ℕ) → IsIn x xs → a < x) → IsTheNearest xs a other found
  greatest : IsIn found xs → found ≤ a → ((x : ℕ) → IsIn x xs → x ≤ a → x ≤ found) → IsTheNearest xs a other found

pub the_nearest : (xs : List ℕ) (a other : ℕ) → IsRisingBy (λ x. x) xs → IsTheNearest xs a other (nearest xs a other)
the_nearest [] a other r = all_above refl (λ x i. elim i [ ])
the_nearest (x ∷ xs) a other r = go (the_nearest xs a x r.1) (leb x a) refl where
  after : (found : ℕ) → x ≤ a → IsTheNearest xs a x found → IsTheNearest (x ∷ xs) a other found
  after found le (all_above e above) =
      greatest (let P : ℕ → Type 0 = λ z. IsIn z (x ∷ xs) in subst P (sym e) first) (omega (arith, e))
      (λ z i low. elim (in_cons i)
      [ inl same ↦ omega (arith, same, e) | inr more ↦ let bad = above z more in absurd (omega (arith, bad)) ])
  after found le (greatest i low all) =
      greatest (later i) low
      (λ z j zl. elim (in_cons j)
      [ inl same ↦ let up = all_at (λ y. x < y) i r.0 in omega (arith, same, up) | inr more ↦ all z more zl ])

  go : IsTheNearest xs a x (nearest xs a x) → (b : Bool) → leb x a ≡ b
      → IsTheNearest (x ∷ xs) a other (if b then nearest xs a x else other)
  go up true e = after (nearest xs a x) (leb-true x a e) up
  go _ false e =
      let up : a < x = elim (cases_lt a x)
      [ inl gt ↦ gt | inr le ↦ absurd (let bad : true ≡ false = sym (le-leb x a le) ∙ e in cc) ] in
      all_above refl (λ z i.
      elim (in_cons i) [
        | inl same ↦ omega (arith, same, up)
        | inr more ↦ let z_up = all_at (λ y. x < y) more r.0 in
            omega (arith, z_up, up)
      ])
