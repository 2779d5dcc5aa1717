-- What entries come to, and what is left of it without those that are reached anyway.
use Rattle.std.proofs.Common.{◌≡◌, ◌↔◌, ℕ, ◌+◌, ◌<◌, ◌≤◌, ◌&&◌, ◌||◌, not, true, false, Bool, List, [], ◌∷◌, length}
use Rattle.std.proofs.Common.{take, sum_by, if◌then◌else◌, nat_eq, refl, ap, sym, ◌∙◌, arith}
use Rattle.std.proofs.lemmas.Bool.{eq-eqb, eqb-true, false≢true}
use Rattle.std.proofs.lemmas.List.Sums.{sum_by-cons}
use Rattle.std.proofs.Math.Seq.{take-length}
use Rattle.clr_types.specs.declared.item.Item.{Item}
use Rattle.clr_types.proofs.ChangedLists.{into_filter, IsIn-map}
use Rattle.clr_types.proofs.ListSums.{counted, sum-both, sum-filtered, sum-on}
use Rattle.clr_heap.specs.View.{heap_items, IsHeap, word_of}
use Rattle.clr_model.specs.Lookups.{object_size}
use Rattle.clr_model.specs.Looks.{is_retained}
use Rattle.clr_model.specs.Machine.{Object}
use Rattle.clr_view.specs.SlotValues.{IsObjectAt}
use Rattle.clr_view.specs.View.{IsHeld, is_object, object_in, objects_in}
use Rattle.clr_view.proofs.Listed.{listed-sized}
use Rattle.clr_view.proofs.Listings.{heap-rise}
use Rattle.clr_view.proofs.Rises.{objects-rise}
use Rattle.clr_sos.specs.Reaching.{HasGrown, is_listed, IsListed, IsSearch, IsSound, place_at}
use Rattle.clr_sos.specs.declared.reach.FoundObject.{FoundObject}
use Rattle.clr_sos.specs.declared.view.View.{View}
use Rattle.clr_sos.proofs.ReachedAll.{listed-told}
use Rattle.clr_sos.proofs.Searching.{listed-on}
use Rattle.clr_objsize.proofs.CountedEntries.{among-grown, bytes-few, bytes-more, counts, sum-grown, sum_among}
use Rattle.clr_objsize.proofs.OneMore.{sum-one_more}
use Rattle.clr_paths.specs.Held.{bytes_among, IsAround, IsRetainedSum, IsSumFrom, ReachedOf}
use Rattle.clr_paths.specs.declared.held.Sum.{Sum}
use Rattle.clr_paths.proofs.HeldReach.{all-told, others-told, without-told}

-- ---- sums of what tests pass

module _ {X : Type 0} (weight : X → ℕ) where
  -- where nothing passes, the sum is 0
  pub sum-nothing : (test : X → Bool) (xs : List X) → ((x : X) → test x ≡ false) → sum_by (counted test weight) xs ≡ 0
  sum-nothing test [] none = refl
  sum-nothing test (x ∷ xs) none =
      let one = sum_by-cons (counted test weight) x xs in
      let here : counted test weight x ≡ 0 = ap (λ (b : Bool). if b then weight x else 0) (none x) in
      let rest = sum-nothing test xs none in
      omega (arith, one, here, rest)

  -- what a test passes is what a closer one passes, and the rest
  pub sum-parted : (wide close : X → Bool) (xs : List X) → ((x : X) → close x ≡ true → wide x ≡ true)
      → sum_by (counted wide weight) xs
      ≡ sum_by (counted close weight) xs + sum_by (counted (λ x. wide x && not (close x)) weight) xs
  sum-parted wide close xs within =
      sum-on (counted wide weight) (λ x. counted close weight x + counted (λ y. wide y && not (close y)) weight x) xs
      (λ x i. one (wide x) (close x) (weight x) (within x))
      ∙ sum-both (counted close weight) (counted (λ x. wide x && not (close x)) weight) xs
    where
      -- what one element counts
      one : (w c : Bool) (n : ℕ) → (c ≡ true → w ≡ true)
          → (if w then n else 0) ≡ (if c then n else 0) + (if (w && not c) then n else 0)
      one true true n inside = omega arith
      one true false n inside = omega arith
      one false true n inside = absurd (false≢true (inside refl))
      one false false n inside = refl

-- the objects of the entries but for one
abbrev pub but : List FoundObject → ℕ → ℕ → Bool
but front a x = is_listed front x && not (nat_eq a x)

-- those and that one are all
but-more : (front : List FoundObject) (a : ℕ) → is_listed front a ≡ true → (x : ℕ)
    → is_listed front x ≡ (but front a x || nat_eq a x)
but-more front a here x =
    parts (is_listed front x) (nat_eq a x) (λ e. ap (is_listed front) (sym (eqb-true a x e)) ∙ here)
  where
    -- a test, parted by another that it implies
    parts : (b c : Bool) → (c ≡ true → b ≡ true) → b ≡ (b && not c || c)
    parts true true h = refl
    parts true false h = refl
    parts false true h = h refl
    parts false false h = refl

-- that one isn't among them
but-own : (front : List FoundObject) (a : ℕ) → but front a a ≡ false
but-own front a = ap (λ (c : Bool). is_listed front a && not c) (eq-eqb a a refl) ∙ none (is_listed front a)
  where
    -- nothing passes where one of two tests never does
    none : (b : Bool) → (b && false) ≡ false
    none true = refl
    none false = refl

-- they are all entries
but-inside : (front : List FoundObject) (a x : ℕ) → but front a x ≡ true → is_listed front x ≡ true
but-inside front a x = inside (is_listed front x) (nat_eq a x)
  where
    -- what passes two tests passes the first
    inside : (b c : Bool) → (b && not c) ≡ true → b ≡ true
    inside true c e = refl
    inside false c e = e

-- ---- sums over the objects of a heap

module _ (v : View) (sound : IsSound v) where
  heap : IsHeap v.heap.now
  heap = sound.closed.heap

  held : IsHeld v.types.now v.heap.now
  held = sound.closed.held

  abbrev objects : List Object
  objects = objects_in v.types.now v.heap.now

  abbrev object_of : Item → Object
  object_of i = object_in v.types.now (word_of v.heap.now) i

  -- the entries come to what they come to but for one, and that one
  sum-own : (front : List FoundObject) (a : ℕ) (i : Item) (weight : Object → ℕ)
      → IsObjectAt v.types.now v.heap.now a i → is_listed front a ≡ true
      → sum_by (counted (λ (o : Object). is_listed front o.name) weight) objects
      ≡ sum_by (counted (λ (o : Object). but front a o.name) weight) objects + weight (object_of i)
  sum-own front a i weight at here =
      let rows = v.types.now in
      let h = v.heap.now in
      sum-one_more (λ (o : Object). o.name) weight (but front a) a (is_listed front) (but-more front a here)
      (object_of i) objects (objects-rise rows (word_of h) (heap_items rows h) (heap-rise rows h held.walkable heap))
      (IsIn-map (object_in rows (word_of h)) (into_filter is_object (heap_items rows h) at.object at.listed)) at.at
      (but-own front a)

  -- ---- entries that are summed up one by one

  -- the bytes of the first entries, as a sum over all objects
  bytes-among : (es : List FoundObject) (n : ℕ) → bytes_among v es n ≡ sum_among v es n (object_size v.types.now)
  bytes-among es n =
      sum-filtered (λ (o : Object). is_listed (take n es) o.name) (object_size v.types.now) objects

  module _ (seen : List (List ℕ)) (es : List FoundObject) (s : IsSearch v seen es) where
    -- one entry more
    pub bytes_from-more : (new : List FoundObject) (start n bytes : ℕ) (i : Item) → HasGrown es new → start ≤ n
        → n < length es → IsObjectAt v.types.now v.heap.now (place_at es n) i
        → bytes + bytes_among v es start ≡ bytes_among v es n
        → (bytes + i.size) + bytes_among v new start ≡ bytes_among v new (n + 1)
    bytes_from-more new start n bytes i grown from inside at so_far =
        let size = object_size v.types.now in
        let more = bytes-more v sound seen es s n i inside at in
        let first = bytes-among es start in
        let last = bytes-among es n in
        let front = sum-grown v es new grown start (omega (arith, from, inside)) size in
        let front_new = bytes-among new start in
        let all = sum-grown v es new grown (n + 1) (omega (arith, inside)) size in
        let all_new = bytes-among new (n + 1) in
        omega (arith, more, first, last, front, front_new, all, all_new, so_far)

    -- they have few bytes
    pub bytes_from-few : (start n bytes : ℕ) → bytes + bytes_among v es start ≡ bytes_among v es n
        → bytes ≤ 1073741824
    bytes_from-few start n bytes so_far =
        let last = bytes-among es n in
        let few = bytes-few v sound seen es s n in
        omega (arith, last, few, so_far)

    -- an object has few, too
    pub item-small : (a : ℕ) (i : Item) → IsObjectAt v.types.now v.heap.now a i → i.size ≤ 1073741824
    item-small a i at =
        let sized = listed-sized v.types.now v.heap.now i heap held at.listed in
        let small = at.small in
        omega (arith, sized, small)

  -- ---- what is retained

  module _ (front es : List FoundObject) (grown : HasGrown front es) where
    -- the entries from before are the first ones
    front-is : take (length front) es ≡ front
    front-is = among-grown front es grown (length front) (omega arith) ∙ take-length front

    -- THE ENTRIES ADDED, WITH ONE FROM BEFORE, are what is listed and not among the others from before
    retained-sum : (a : ℕ) (i : Item) (weight : Object → ℕ) (total : ℕ) → IsObjectAt v.types.now v.heap.now a i
        → is_listed front a ≡ true
        → total + sum_among v es (length front) weight ≡ sum_among v es (length es) weight
        → total + weight (object_of i) ≡ sum_by (counted (is_retained (is_listed es) (but front a)) weight) objects
    retained-sum a i weight total at here sum =
        let sum_of : List FoundObject → ℕ =
        λ xs. sum_by (counted (λ (o : Object). is_listed xs o.name) weight) objects in
        let all : sum_among v es (length es) weight ≡ sum_of es = ap sum_of (take-length es) in
        let before : sum_among v es (length front) weight ≡ sum_of front = ap sum_of front-is in
        let own = sum-own front a i weight at here in
        let parted = sum-parted weight (λ (o : Object). is_listed es o.name) (λ (o : Object). but front a o.name)
        objects (λ o e.
        (listed-told es o.name).1 (listed-on front es o.name grown
        ((listed-told front o.name).0 (but-inside front a o.name e)))) in
        omega (arith, all, before, own, parted, sum)

    -- WHAT THE OBJECT RETAINS: itself, and what was found when it was followed last
    pub retained-told : (seen : List (List ℕ)) → IsSearch v seen es → (a k : ℕ) (i : Item) → k < length front
        → place_at front k ≡ a → IsObjectAt v.types.now v.heap.now a i → IsAround v a front
        → ((x : ℕ) → IsListed es x ↔ ReachedOf v x) → (found : Sum) → IsSumFrom v es (length front) found
        → IsRetainedSum v a (record { objects = found.objects + 1; bytes = found.bytes + i.size })
    retained-told seen s a k i inside own at around exact found sum =
        let longer = grown.longer in
        let size = object_size v.types.now in
        let here : is_listed front a ≡ true =
        (listed-told front a).1 (record { index = k; below = inside; is = own }) in
        let counted_all = counts v sound seen es s (length es) (omega arith) in
        let counted_front = counts v sound seen es s (length front) longer in
        let objects_found = sum.objects in
        let many = retained-sum a i (λ (o : Object). 1) found.objects at here
        (omega (arith, counted_all, counted_front, objects_found)) in
        let bytes_all = bytes-among es (length es) in
        let bytes_front = bytes-among es (length front) in
        let bytes_found = sum.bytes in
        let large = retained-sum a i size found.bytes at here
        (omega (arith, bytes_all, bytes_front, bytes_found)) in
        let sized = listed-sized v.types.now v.heap.now i heap held at.listed in
        let kept = sum-filtered (is_retained (is_listed es) (but front a)) size objects in
        record {
          live = is_listed es;
          lives = λ x. (λ e. (exact x).0 ((listed-told es x).0 e), λ r. (listed-told es x).1 ((exact x).1 r));
          without = but front a;
          stays = without-told v a front around;
          objects = many;
          bytes = omega (arith, large, sized, kept);
        }

  -- NOTHING IS RETAINED by an object that isn't listed
  pub retained-none : (es : List FoundObject) (a : ℕ) → IsAround v a es → is_listed es a ≡ false
      → IsRetainedSum v a (record { objects = 0; bytes = 0 })
  retained-none es a around none =
      let test : Object → Bool = is_retained (is_listed es) (is_listed es) in
      let nothing : (weight : Object → ℕ) → sum_by (counted test weight) objects ≡ 0 =
      λ weight. sum-nothing weight test objects (λ o. neither (is_listed es o.name)) in
      record {
        live = is_listed es;
        lives = all-told v a es around none;
        without = is_listed es;
        stays = others-told v a es around none;
        objects = sym (nothing (λ (o : Object). 1));
        bytes = sym (sum-filtered test (object_size v.types.now) objects ∙ nothing (object_size v.types.now));
      }
    where
      -- no test passes and fails
      neither : (b : Bool) → (b && not b) ≡ false
      neither true = refl
      neither false = refl
