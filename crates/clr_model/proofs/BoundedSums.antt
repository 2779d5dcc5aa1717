-- The sums that a machine counts stay bounded by the bytes of its objects.
use Rattle.std.proofs.Common.{◌≡◌, ℕ, ◌+◌, ◌≤◌, List, [], ◌∷◌, ◌++◌, refl, sym, ap, ◌∙◌, arith, Bool, true, false}
use Rattle.std.proofs.Common.{if◌then◌else◌, filter, nat_le, sum_by}
use Rattle.std.proofs.lemmas.Bool.{leb-true, leb-false, le-leb}
use Rattle.std.proofs.lemmas.List.Sums.{sum_by_push}
use Rattle.clr_types.specs.Rising.{IsIn}
use Rattle.clr_types.specs.Types.{TypeRow}
use Rattle.clr_types.specs.Segments.{Layout, generation}
use Rattle.clr_types.proofs.ListSums.{counted, sum-filtered, sum-on, sum-below}
use Rattle.clr_model.specs.Machine.{Value, Object, Sums, Machine}
use Rattle.clr_model.specs.Lookups.{object_size, bytes_of, bytes_where, bytes_up_to}
use Rattle.clr_model.specs.Allocation.{with_layout}
use Rattle.clr_model.specs.Lawful.{AreBoundedSums}

abbrev pub is_large : Machine → Object → Bool
is_large m o = nat_le m.options.large (object_size m.types o)

-- ---- the same bytes

-- the second machine has as many bytes of each kind as the first
pub record HaveSameBytes (m next : Machine) : Type 0 where
  pub all : bytes_of next ≡ bytes_of m
  pub large : bytes_where next (is_large next) ≡ bytes_where m (is_large m)
  pub young : (g : ℕ) → bytes_up_to next g ≡ bytes_up_to m g

pub bounded_alike : (m next : Machine) → HaveSameBytes m next → next.sums ≡ m.sums → AreBoundedSums m
    → AreBoundedSums next
bounded_alike m next same sums h =
    let all = same.all in let large = same.large in let young0 = same.young 0 in let young1 = same.young 1 in
    let a : next.sums.spent0 ≡ m.sums.spent0 = ap (λ (s : Sums). s.spent0) sums in
    let b : next.sums.spent_large ≡ m.sums.spent_large = ap (λ (s : Sums). s.spent_large) sums in
    let c : next.sums.promoted1 ≡ m.sums.promoted1 = ap (λ (s : Sums). s.promoted1) sums in
    let d : next.sums.promoted2 ≡ m.sums.promoted2 = ap (λ (s : Sums). s.promoted2) sums in
    let spent0 = h.spent0 in let spent_large = h.spent_large in
    let promoted1 = h.promoted1 in let promoted2 = h.promoted2 in
    record { spent0 = omega arith; spent_large = omega arith; promoted1 = omega arith; promoted2 = omega arith }

module _ (m : Machine) where
  abbrev size : Object → ℕ
  size = object_size m.types

  -- objects of before in some order, under other names and with other slots
  pub bytes_renamed : (objects : List Object)
      → ((count : Object → ℕ)
      → ((o : Object) (name : ℕ) (slots : List Value) (flag : Bool)
      → count (record o { name = name; slots = slots; suppressed = flag }) ≡ count o)
      → sum_by count objects ≡ sum_by count m.objects)
      → HaveSameBytes m (record m { objects = objects })
  bytes_renamed objects counts = record {
    all = counts size (λ o name slots flag. refl);
    large = by (is_large m) (λ o name slots flag. refl);
    young = λ g. by (λ o. nat_le (generation m.layout o.place) g) (λ o name slots flag. refl);
  }
    where
      by : (test : Object → Bool)
          → ((o : Object) (name : ℕ) (slots : List Value) (flag : Bool)
          → test (record o { name = name; slots = slots; suppressed = flag }) ≡ test o)
          → sum_by size (filter test objects) ≡ sum_by size (filter test m.objects)
      by test still =
          sum-filtered test size objects
          ∙ counts (counted test size)
          (λ o name slots flag. ap (λ b. if b then size o else 0) (still o name slots flag))
          ∙ sym (sum-filtered test size m.objects)

  -- types under which the objects have their sizes
  pub bytes_typed : (types : List TypeRow) → ((o : Object) → IsIn o m.objects → object_size types o ≡ size o)
      → HaveSameBytes m (record m { types = types })
  bytes_typed types same = record {
    all = sum-on (object_size types) size m.objects same;
    large =
        sum-filtered (λ o. nat_le m.options.large (object_size types o)) (object_size types) m.objects
        ∙ sum-on (counted (λ o. nat_le m.options.large (object_size types o)) (object_size types))
        (counted (is_large m) size) m.objects
        (λ o i. ap (λ (n : ℕ). if nat_le m.options.large n then n else 0) (same o i))
        ∙ sym (sum-filtered (is_large m) size m.objects);
    young = λ g.
        let test : Object → Bool = λ o. nat_le (generation m.layout o.place) g in
        sum-filtered test (object_size types) m.objects
        ∙ sum-on (counted test (object_size types)) (counted test size) m.objects
        (λ o i. ap (λ (n : ℕ). if test o then n else 0) (same o i))
        ∙ sym (sum-filtered test size m.objects);
  }

  -- ---- another layout

  -- a layout in which no object is younger; so it is where a segment of all generations becomes a small one
  pub bounded_older : (layout : Layout)
      → ((o : Object) → IsIn o m.objects → generation m.layout o.place ≤ generation layout o.place)
      → AreBoundedSums m → AreBoundedSums (with_layout m layout)
  bounded_older layout older h =
      let young0 = fewer 0 in let young1 = fewer 1 in
      let promoted1 = h.promoted1 in let promoted2 = h.promoted2 in
      record { spent0 = h.spent0; spent_large = h.spent_large; promoted1 = omega arith; promoted2 = omega arith }
    where
      pass : (before after g n : ℕ) → before ≤ after
          → (if nat_le after g then n else 0) ≤ (if nat_le before g then n else 0)
      pass before after g n l = go (nat_le after g) (nat_le before g) refl refl
        where
          go : (a b : Bool) → nat_le after g ≡ a → nat_le before g ≡ b → (if a then n else 0) ≤ (if b then n else 0)
          go false b e f = omega arith
          go true true e f = omega arith
          go true false e f = let high = leb-true after g e in let low = leb-false before g f in absurd (omega arith)

      fewer : (g : ℕ) → bytes_up_to (with_layout m layout) g ≤ bytes_up_to m g
      fewer g =
          let was : Object → Bool = λ o. nat_le (generation m.layout o.place) g in
          let now : Object → Bool = λ o. nat_le (generation layout o.place) g in
          let a : bytes_up_to m g ≡ sum_by (counted was size) m.objects = sum-filtered was size m.objects in
          let b : bytes_up_to (with_layout m layout) g ≡ sum_by (counted now size) m.objects =
          sum-filtered now size m.objects in
          let c : sum_by (counted now size) m.objects ≤ sum_by (counted was size) m.objects =
          sum-below (counted now size) (counted was size) m.objects
          (λ o i. pass (generation m.layout o.place) (generation layout o.place) g (size o) (older o i)) in
          omega arith

  -- ---- births

  module _ (o : Object) where
    abbrev more : Machine
    more = record m { objects = m.objects ++ o ∷ [] }

    bytes-born : bytes_of more ≡ bytes_of m + size o
    bytes-born = sum_by_push size m.objects o

    some-born : (test : Object → Bool) → bytes_where more test ≡ bytes_where m test + counted test size o
    some-born test =
        sum-filtered test size (m.objects ++ o ∷ []) ∙ sum_by_push (counted test size) m.objects o
        ∙ ap (λ n. n + counted test size o) (sym (sum-filtered test size m.objects))

    counts-below : (b : Bool) → (if b then size o else 0) ≤ size o
    counts-below true = omega arith
    counts-below false = omega arith

    young-born : (g : ℕ) → bytes_up_to more g ≤ bytes_up_to m g + size o
    young-born g =
        let is = some-born (λ o. nat_le (generation m.layout o.place) g) in
        let below = counts-below (nat_le (generation m.layout o.place) g) in
        omega arith

    -- one object more, of which the bytes count as spent
    pub bounded_born : AreBoundedSums m
        → AreBoundedSums (record m {
          objects = m.objects ++ o ∷ [];
          sums = record m.sums
              { spent0 = m.sums.spent0 + size o };
        })
    bounded_born h =
        let spent0 = h.spent0 in let spent_large = h.spent_large in
        let promoted1 = h.promoted1 in let promoted2 = h.promoted2 in
        let all = bytes-born in let large = some-born (is_large m) in
        let young0 = young-born 0 in let young1 = young-born 1 in
        record { spent0 = omega arith; spent_large = omega arith; promoted1 = omega arith; promoted2 = omega arith }

    -- and of a large one, of which they count as spent in the large heap
    pub bounded_born_large : m.options.large ≤ size o → AreBoundedSums m
        → AreBoundedSums (record m {
          objects = m.objects ++ o ∷ [];
          sums = record m.sums
              { spent_large = m.sums.spent_large + size o };
        })
    bounded_born_large least h =
        let spent0 = h.spent0 in let spent_large = h.spent_large in
        let promoted1 = h.promoted1 in let promoted2 = h.promoted2 in
        let all = bytes-born in
        let large : bytes_where more (is_large m) ≡ bytes_where m (is_large m) + size o =
        some-born (is_large m) ∙ ap (λ (b : Bool). bytes_where m (is_large m) + (if b then size o else 0))
        (le-leb m.options.large (size o) least) in
        let young0 = young-born 0 in let young1 = young-born 1 in
        record { spent0 = omega arith; spent_large = omega arith; promoted1 = omega arith; promoted2 = omega arith }
