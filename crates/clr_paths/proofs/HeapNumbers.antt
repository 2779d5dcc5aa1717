-- The addresses of a heap's objects, which rise: the number of each is found by halves.
use Rattle.std.proofs.Common.{◌≡◌, ◌≢◌, ◌∙◌, inl, inr, ℕ, zero, suc, ◌+◌, ◌<◌, ◌≤◌, true, List, [], ◌∷◌, ◌++◌, filter}
use Rattle.std.proofs.Common.{map, length, get_or, ap, append-nil, arith, cond, ltb, not, subst, sym}
use Rattle.std.specs.List.Sorted.{IsPartitionedBy}
use Rattle.std.proofs.lemmas.Bool.{cases_eq, cases_lt, eq-eqb, lt-ltb, ltb-true, ne_eqb}
use Rattle.std.proofs.lemmas.List.{map-append}
use Rattle.std.proofs.lemmas.List.Elements.{filter-append}
use Rattle.clr_types.specs.Rising.{IsIn, IsRisingBy}
use Rattle.clr_types.specs.declared.item.Item.{Item}
use Rattle.clr_types.proofs.ChangedLists.{all-map, IsIn-map}
use Rattle.clr_types.proofs.ListMembers.{filter-rises, from-map}
use Rattle.clr_types.proofs.RisingLists.{all_at}
use Rattle.clr_heap.specs.View.{heap_items, word_of}
use Rattle.clr_view.specs.View.{is_object, object_in}
use Rattle.clr_view.proofs.Listings.{heap-rise}
use Rattle.clr_mark.proofs.Rooting.{at_in, in_at}
use Rattle.clr_sos.specs.Reaching.{IsSound}
use Rattle.clr_sos.specs.declared.view.View.{View}
use Rattle.clr_paths.specs.Numbers.{AreNumbers}

-- ---- lists that rise

-- images rise where their keys do
rising-map : {X : Type 0} (key : X → ℕ) (xs : List X) → IsRisingBy key xs → IsRisingBy (λ (n : ℕ). n) (map key xs)
rising-map key [] r = tt
rising-map key (x ∷ xs) r = (all-map key (λ (n : ℕ). key x < n) xs r.0, rising-map key xs r.1)

-- a member of a rising list is above those before it
pub rising-at : (xs : List ℕ) (i j d : ℕ) → IsRisingBy (λ (n : ℕ). n) xs → i < j → j < length xs
    → get_or xs i d < get_or xs j d
rising-at [] i j d r low l = absurd (omega (arith, l))
rising-at (x ∷ xs) i zero d r low l = absurd (omega (arith, low))
rising-at (x ∷ xs) zero (suc j) d r low l =
    all_at (λ (y : ℕ). x < y) (at_in xs j d (omega (arith, l))) r.0
rising-at (x ∷ xs) (suc i) (suc j) d r low l = rising-at xs i j d r.1 (omega (arith, low)) (omega (arith, l))

-- each member of a rising list stands at one index
pub rising-index : (xs : List ℕ) (i j d : ℕ) → IsRisingBy (λ (n : ℕ). n) xs → i < length xs → j < length xs
    → get_or xs i d ≡ get_or xs j d → i ≡ j
rising-index xs i j d r l k same = elim (cases_lt i j) [
  | inl before ↦ let up = rising-at xs i j d r before k in absurd (omega (arith, up, same))
  | inr from ↦ elim (cases_lt j i) [
    | inl behind ↦ let up = rising-at xs j i d r behind l in absurd (omega (arith, up, same))
    | inr to ↦ omega (arith, from, to)
  ]
]

-- the lower members stand before the others
pub rising-parted : (xs : List ℕ) (x : ℕ) → IsRisingBy (λ (n : ℕ). n) xs → IsPartitionedBy (λ (n : ℕ). ltb n x) xs
rising-parted xs x r i j d le l hit = elim (cases_eq i j) [
  | inl same ↦ subst (λ (k : ℕ). ltb (get_or xs k d) x ≡ true) (sym same) hit
  | inr other ↦
      let up = rising-at xs i j d r (omega (arith, le, other)) l in
      let low = ltb-true (get_or xs j d) x hit in
      lt-ltb (get_or xs i d) x (omega (arith, up, low))
]

-- A MEMBER STANDS at the first index from which members are no lower
pub parted-found : (xs : List ℕ) (x n : ℕ) → IsRisingBy (λ (n : ℕ). n) xs → IsIn x xs
    → ((i d : ℕ) → i < n → i < length xs → get_or xs i d < x)
    → ((i d : ℕ) → n ≤ i → i < length xs → x ≤ get_or xs i d) → (n < length xs) × (get_or xs n 0 ≡ x)
parted-found xs x n r listed below above =
    let f = in_at xs x 0 listed in
    let j = f.0 in
    let inside = f.1 in
    let is = f.2 in
    elim (cases_lt j n) [
      | inl early ↦ let low = below j 0 early inside in absurd (omega (arith, low, is))
      | inr late ↦ elim (cases_eq n j) [
        | inl same ↦ (omega (arith, same, inside), ap (λ (i : ℕ). get_or xs i 0) same ∙ is)
        | inr other ↦
            let up = rising-at xs n j 0 r (omega (arith, late, other)) inside in
            let high = above n 0 (omega arith) (omega (arith, late, inside)) in
            absurd (omega (arith, up, high, is))
      ]
    ]

-- ---- the addresses

abbrev pub addresses : List Item → List ℕ
addresses items = map (λ (i : Item). i.place) (filter is_object items)

-- an object adds its address
pub addresses-object : (items : List Item) (i : Item) → i.type_id.0 ≢ 0
    → addresses (items ++ i ∷ []) ≡ addresses items ++ i.place ∷ []
addresses-object items i object =
    ap (map (λ (j : Item). j.place)) (filter-append is_object items (i ∷ []))
    ∙ map-append (λ (j : Item). j.place) (filter is_object items) (filter is_object (i ∷ []))
    ∙ ap (λ b. addresses items ++ map (λ (j : Item). j.place) (cond (not b) (i ∷ []) [])) (ne_eqb i.type_id.0 0 object)

-- and a free item adds nothing
pub addresses-free : (items : List Item) (i : Item) → i.type_id.0 ≡ 0 → addresses (items ++ i ∷ []) ≡ addresses items
addresses-free items i free =
    ap (map (λ (j : Item). j.place)) (filter-append is_object items (i ∷ []))
    ∙ map-append (λ (j : Item). j.place) (filter is_object items) (filter is_object (i ∷ []))
    ∙ ap (λ b. addresses items ++ map (λ (j : Item). j.place) (cond (not b) (i ∷ []) [])) (eq-eqb i.type_id.0 0 free)
    ∙ append-nil (addresses items)

-- THE ADDRESSES ARE THE NUMBERS of a view's objects
pub are_numbers : (v : View) → IsSound v → AreNumbers v (addresses (heap_items v.types.now v.heap.now))
are_numbers v sound =
    let rows = v.types.now in
    let h = v.heap.now in
    let items = heap_items rows h in
    let place : Item → ℕ = λ (i : Item). i.place in
    record {
      rise = rising-map place (filter is_object items)
          (filter-rises is_object place items (heap-rise rows h sound.closed.held.walkable sound.closed.heap));
      stand = λ x l.
          let f = from-map place x (filter is_object items) l in
          (object_in rows (word_of h) f.0, IsIn-map (object_in rows (word_of h)) f.2, sym f.1);
      all = λ x stands.
          let f = from-map (object_in rows (word_of h)) stands.0 (filter is_object items) stands.1 in
          let is : f.0.place ≡ x = ap (λ o. o.place) (sym f.1) ∙ stands.2 in
          subst (λ (y : ℕ). IsIn y (map place (filter is_object items))) is (IsIn-map place f.2);
    }
