-- The objects that a search has found, counted entry by entry.
use Rattle.std.proofs.Common.{◌≡◌, ◌≢◌, ◌↔◌, ℕ, zero, suc, ◌+◌, ◌<◌, ◌≤◌, Bool, false, ◌||◌, List, [], ◌∷◌}
use Rattle.std.proofs.Common.{length, take}
use Rattle.std.proofs.Common.{filter, sum_by, count_by, nat_eq, refl, sym, ap, ap₂, ◌∙◌, subst, arith}
use Rattle.std.proofs.lemmas.Bool.{ne_eqb}
use Rattle.std.proofs.lemmas.List.{get_or-take, length-take-le, take_more}
use Rattle.std.proofs.lemmas.List.Folds.{list_any-append}
use Rattle.std.proofs.lemmas.List.Sums.{sum_by-cons}
use Rattle.std.proofs.Math.Seq.{take-length}
use Rattle.clr_types.specs.Rising.{Tests}
use Rattle.clr_types.specs.Types.{TypeRow}
use Rattle.clr_types.specs.declared.item.Item.{Item}
use Rattle.clr_types.proofs.ChangedLists.{into_filter, IsIn-map}
use Rattle.clr_types.proofs.ListSums.{counted, sum-filter_below, sum-filtered}
use Rattle.clr_heap.specs.Parts.{item_at}
use Rattle.clr_heap.specs.View.{heap_items, IsHeap, word_of}
use Rattle.clr_model.specs.Lookups.{object_size}
use Rattle.clr_model.specs.Machine.{Machine, Object}
use Rattle.clr_model.specs.Reach.{Reach, SlotNames}
use Rattle.clr_view.specs.SlotValues.{IsObjectAt}
use Rattle.clr_view.specs.View.{IsHeld, is_object, object_in, objects_in}
use Rattle.clr_view.proofs.HeldBytes.{objects_bytes_bounded}
use Rattle.clr_view.proofs.Listed.{listed-sized}
use Rattle.clr_view.proofs.Listings.{heap-rise}
use Rattle.clr_view.proofs.ObjectItems.{stands-item}
use Rattle.clr_view.proofs.Rises.{objects-rise}
use Rattle.clr_sos.specs.Reaching.{entry_of, HasGrown, is_listed, IsListed, IsSearch, IsSound, no_entry, place_at}
use Rattle.clr_sos.specs.Views.{IsViewOf}
use Rattle.clr_sos.specs.declared.reach.FoundObject.{FoundObject}
use Rattle.clr_sos.specs.declared.view.View.{View}
use Rattle.clr_sos.proofs.ReachedAll.{listed-told, unlisted}
use Rattle.clr_objsize.specs.Sizes.{HasTotal, IsSizeOf}
use Rattle.clr_objsize.specs.declared.sizes.Total.{Total}
use Rattle.clr_objsize.proofs.OneMore.{or_false, sum-one_more}

-- where nothing passes the sum is 0
pub sum-none : {X : Type 0} (weight : X → ℕ) (xs : List X) → sum_by (counted (λ (x : X). false) weight) xs ≡ 0
sum-none weight [] = refl
sum-none weight (x ∷ xs) =
    let one = sum_by-cons (counted (λ y. false) weight) x xs in
    let rest = sum-none weight xs in
    omega (arith, one, rest)

-- lists that agree up to n begin alike
take-same : (xs ys : List FoundObject) (n : ℕ) → n ≤ length xs → n ≤ length ys
    → ((i : ℕ) → i < n → entry_of xs i ≡ entry_of ys i) → take n xs ≡ take n ys
take-same xs ys zero l k same = refl
take-same [] ys (suc n) l k same = absurd (omega (arith, l))
take-same (x ∷ xs) [] (suc n) l k same = absurd (omega (arith, k))
take-same (x ∷ xs) (y ∷ ys) (suc n) l k same =
    let here : x ≡ y = same 0 (omega arith) in
    let rest = take-same xs ys n (omega (arith, l)) (omega (arith, k))
    (λ i low. same (suc i) (omega (arith, low))) in
    ap₂ (λ (z : FoundObject) (zs : List FoundObject). z ∷ zs) here rest

-- whether one of the first n entries has the place
abbrev pub is_among : List FoundObject → ℕ → ℕ → Bool
is_among es n x = is_listed (take n es) x

-- what the objects count that are among the first n entries
abbrev pub sum_among : View → List FoundObject → ℕ → (Object → ℕ) → ℕ
sum_among v es n weight =
    sum_by (counted (λ (o : Object). is_among es n o.name) weight) (objects_in v.types.now v.heap.now)

-- at first that is nothing
pub none-among : (v : View) (es : List FoundObject) (weight : Object → ℕ) → 0 ≡ sum_among v es 0 weight
none-among v es weight = sym (sum-none weight (objects_in v.types.now v.heap.now))

module _ (es : List FoundObject) where
  -- an entry more
  among-more : (n : ℕ) → n < length es → (x : ℕ) → is_among es (n + 1) x ≡ (is_among es n x || nat_eq (place_at es n) x)
  among-more n l x =
      let test : FoundObject → Bool = λ e. nat_eq e.place x in
      ap (λ (xs : List FoundObject). is_listed xs x) (take_more es n no_entry l)
      ∙ list_any-append test (take n es) (entry_of es n ∷ [])
      ∙ ap (λ (b : Bool). is_among es n x || b) (or_false (nat_eq (place_at es n) x))

  -- its place is none of the places before
  among-fresh : (n : ℕ) → n < length es → ((i j : ℕ) → i < j → j < length es → place_at es i ≢ place_at es j)
      → is_among es n (place_at es n) ≡ false
  among-fresh n l distinct = unlisted (take n es) (place_at es n) (λ j k.
      let count = length-take-le n es (omega (arith, l)) in
      let low : j < n = omega (arith, k, count) in
      ap (λ (e : FoundObject). nat_eq e.place (place_at es n)) (get_or-take n es j no_entry low)
      ∙ ne_eqb (place_at es j) (place_at es n) (distinct j n low l))

-- the first n entries are the same ones, when some are added
pub among-grown : (old new : List FoundObject) → HasGrown old new → (n : ℕ) → n ≤ length old → take n new ≡ take n old
among-grown old new g n l =
    let longer = g.longer in
    take-same new old n (omega (arith, l, longer)) l (λ i low. g.same i (omega (arith, low, l)))

pub sum-grown : (v : View) (old new : List FoundObject) → HasGrown old new → (n : ℕ) → n ≤ length old
    → (weight : Object → ℕ) → sum_among v new n weight ≡ sum_among v old n weight
sum-grown v old new g n l weight =
    ap (λ (xs : List FoundObject). sum_by (counted (λ (o : Object). is_listed xs o.name) weight)
    (objects_in v.types.now v.heap.now)) (among-grown old new g n l)

module _ (v : View) (sound : IsSound v) (seen : List (List ℕ)) (es : List FoundObject) (s : IsSearch v seen es) where
  heap : IsHeap v.heap.now
  heap = sound.closed.heap

  held : IsHeld v.types.now v.heap.now
  held = sound.closed.held

  -- the object of an entry counts once
  among-counted : (n : ℕ) (i : Item) (weight : Object → ℕ) → n < length es
      → IsObjectAt v.types.now v.heap.now (place_at es n) i
      → sum_among v es (n + 1) weight ≡ sum_among v es n weight + weight (object_in v.types.now (word_of v.heap.now) i)
  among-counted n i weight l at =
      let rows = v.types.now in
      let h = v.heap.now in
      sum-one_more (λ (o : Object). o.name) weight (is_among es n) (place_at es n) (is_among es (n + 1))
      (among-more es n l) (object_in rows (word_of h) i) (objects_in rows h)
      (objects-rise rows (word_of h) (heap_items rows h) (heap-rise rows h held.walkable heap))
      (IsIn-map (object_in rows (word_of h)) (into_filter is_object (heap_items rows h) at.object at.listed))
      at.at (among-fresh es n l s.distinct)

  -- so do its bytes
  pub bytes-more : (n : ℕ) (i : Item) → n < length es → IsObjectAt v.types.now v.heap.now (place_at es n) i
      → sum_among v es (n + 1) (object_size v.types.now) ≡ sum_among v es n (object_size v.types.now) + i.size
  bytes-more n i l at =
      let more = among-counted n i (object_size v.types.now) l at in
      let size = listed-sized v.types.now v.heap.now i heap held at.listed in
      omega (arith, more, size)

  -- they are few
  pub bytes-few : (n : ℕ) → sum_among v es n (object_size v.types.now) ≤ 1073741824
  bytes-few n =
      let os = objects_in v.types.now v.heap.now in
      let test : Object → Bool = λ o. is_among es n o.name in
      let same = sum-filtered test (object_size v.types.now) os in
      let below = sum-filter_below test (object_size v.types.now) os in
      let most = objects_bytes_bounded v.types.now v.heap.now heap held in
      let within = heap.within_limit in
      let small = heap.limit_small in
      omega (arith, same, below, most, within, small)

  -- as many objects were counted as there are entries
  pub counts : (n : ℕ) → n ≤ length es → sum_among v es n (λ (o : Object). 1) ≡ n
  counts zero l = sum-none (λ (o : Object). 1) (objects_in v.types.now v.heap.now)
  counts (suc n) l =
      let more : n + 1 ≡ suc n = omega arith in
      let below : n < length es = omega (arith, l) in
      let stands = (s.sound n below).stands in
      let at = stands-item v.types.now v.heap.now heap held (place_at es n) stands in
      subst (λ (k : ℕ). sum_among v es k (λ (o : Object). 1) ≡ k) more
      (among-counted n (item_at v.types.now (word_of v.heap.now) (place_at es n)) (λ (o : Object). 1) below at
      ∙ ap (λ (k : ℕ). k + 1) (counts n (omega (arith, l))))

  -- ALL ENTRIES, as objects of the heap
  sums-all : (weight : Object → ℕ) → sum_among v es (length es) weight
      ≡ sum_by (counted (λ (o : Object). is_listed es o.name) weight) (objects_in v.types.now v.heap.now)
  sums-all weight =
      ap (λ (xs : List FoundObject). sum_by (counted (λ (o : Object). is_listed xs o.name) weight)
      (objects_in v.types.now v.heap.now)) (take-length es)

  -- THE TOTAL, where the entries are what is reached
  pub total-of : (Named : ℕ → Type 0) → ((x : ℕ)
      → IsListed es x ↔ Reach (SlotNames (objects_in v.types.now v.heap.now)) Named x) → (n bytes : ℕ)
      → n ≡ length es → bytes ≡ sum_among v es n (object_size v.types.now)
      → HasTotal v Named (record { objects = n; bytes = bytes })
  total-of Named exact n bytes all sum = (
    is_listed es,
    λ x. (λ e. (exact x).0 ((listed-told es x).0 e), λ r. (listed-told es x).1 ((exact x).1 r)),
    all ∙ sym (counts (length es) (omega arith)) ∙ sums-all (λ (o : Object). 1),
    sum ∙ ap (λ (k : ℕ). sum_among v es k (object_size v.types.now)) all ∙ sums-all (object_size v.types.now)
        ∙ sym (sum-filtered (λ (o : Object). is_listed es o.name) (object_size v.types.now)
        (objects_in v.types.now v.heap.now)),
  )

-- THE SIZE OF AN OBJECT in a machine that is shown
pub size-told : (v : View) (a : ℕ) (total : Total) → HasTotal v (λ y. y ≡ a) total → (m : Machine) → IsViewOf v m
    → IsSizeOf m a total
size-told v a total t m is =
    let P : List TypeRow → List Object → Type 0 = λ rows os.
    (reached : ℕ → Bool) × Tests reached (Reach (SlotNames os) (λ y. y ≡ a))
    × (total.objects ≡ count_by (λ (o : Object). reached o.name) os)
    × (total.bytes ≡ sum_by (object_size rows) (filter (λ (o : Object). reached o.name) os)) in
    subst (λ (rows : List TypeRow). P rows m.objects) (sym is.types)
    (subst (λ (os : List Object). P v.types.now os) (sym is.objects) t)
