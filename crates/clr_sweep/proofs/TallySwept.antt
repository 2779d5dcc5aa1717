-- The tally of a sweep, by the heap's items and by its objects.
use Rattle.std.proofs.Common.{◌≡◌, ℕ, ◌+◌, ◌+◌, cond, List, [], ◌∷◌, ◌++◌, map, filter, length, count_by, sum_by, refl}
use Rattle.std.proofs.Common.{sym, ap, ap₂, ◌∙◌, Bool, true, false, not, if◌then◌else◌, ◌&&◌, ◌==◌, arith}
use Rattle.std.proofs.lemmas.List.{length-map}
use Rattle.std.proofs.lemmas.List.Elements.{filter-append}
use Rattle.std.proofs.lemmas.List.Sums.{length-filter, sum_by-cons}
use Rattle.clr_types.specs.Rising.{IsIn, first, later}
use Rattle.clr_types.specs.Types.{TypeRow}
use Rattle.clr_types.specs.Segments.{generation}
use Rattle.clr_types.specs.declared.item.Item.{Item}
use Rattle.clr_types.proofs.ChangedLists.{out_of_filter}
use Rattle.clr_types.proofs.ListMembers.{filter-on, sum-mapped}
use Rattle.clr_heap.specs.View.{frame, heap_items, HeapView, IsHeap, word_of}
use Rattle.clr_model.specs.Lookups.{object_size}
use Rattle.clr_model.specs.Machine.{Object}
use Rattle.clr_view.specs.Marks.{has_mark}
use Rattle.clr_view.specs.View.{IsHeld, is_object, object_in, objects_among, objects_in}
use Rattle.clr_view.proofs.Listed.{listed-sized}
use Rattle.clr_view.specs.Memory.{is_marked, is_reached_by}
use Rattle.clr_sweep.specs.Swept.{is_kept, is_kept_of, tally_of}
use Rattle.clr_sweep.specs.SweptItems.{goes, stays, stays_of, tally_among}
use Rattle.clr_sweep.specs.Passes.{no_tally, plus}
use Rattle.clr_sweep.specs.declared.tally.Tally.{Tally}

sum-on : {X : Type 0} (f g : X → ℕ) (xs : List X) → ((x : X) → IsIn x xs → f x ≡ g x) → sum_by f xs ≡ sum_by g xs
sum-on f g [] same = refl
sum-on f g (x ∷ xs) same = sum_by-cons f x xs
    ∙ ap₂ (λ (m n : ℕ). m + n) (same x first) (sum-on f g xs (λ y i. same y (later i))) ∙ sym (sum_by-cons g x xs)

and-regrouped : (a b c : Bool) → (a && (b && c)) ≡ ((a && b) && c)
and-regrouped true b c = refl
and-regrouped false b c = refl

-- the item is an object that a sweep of generation g goes over, and stays or goes
abbrev swept_kept : HeapView → ℕ → Item → Bool
swept_kept h g i = is_object i && (is_reached_by h g i.place && has_mark (word_of h i.place))

abbrev swept_freed : HeapView → ℕ → Item → Bool
swept_freed h g i = is_object i && (is_reached_by h g i.place && not (has_mark (word_of h i.place)))

abbrev swept_kept_of : HeapView → ℕ → ℕ → Item → Bool
swept_kept_of h g e i =
    is_object i && ((is_reached_by h g i.place && has_mark (word_of h i.place)) && (generation (frame h) i.place == e))

-- what such a sweep counts of items
abbrev pub tally_by : HeapView → ℕ → List Item → Tally
tally_by h g items = record {
  kept = count_by (swept_kept h g) items;
  freed = count_by (swept_freed h g) items;
  promoted1 = sum_by (λ i. i.size) (filter (swept_kept_of h g 0) items);
  promoted2 = sum_by (λ i. i.size) (filter (swept_kept_of h g 1) items);
}

module _ (rows : List TypeRow) (h : HeapView) where
  -- the item is an object that passes the test
  abbrev passes : (Object → Bool) → Item → Bool
  passes test i = is_object i && test (object_in rows (word_of h) i)

  -- objects that pass a test are the items that are such objects
  passing-objects : (test : Object → Bool) (items : List Item) → filter test (objects_among rows (word_of h) items)
      ≡ map (object_in rows (word_of h)) (filter (passes test) items)
  passing-objects test [] = refl
  passing-objects test (i ∷ items) = go (is_object i) (passing-objects test items)
    where
      inner : (c : Bool) → filter test (objects_among rows (word_of h) items) ≡ map (object_in rows (word_of h))
          (filter (passes test) items)
          → (if c then object_in rows (word_of h) i ∷ filter test (objects_among rows (word_of h) items) else filter
          test (objects_among rows (word_of h) items))
          ≡ map (object_in rows (word_of h)) (if c then i ∷ filter (passes test) items else filter (passes test) items)
      inner true more = ap (λ os. object_in rows (word_of h) i ∷ os) more
      inner false more = more

      go : (b : Bool) → filter test (objects_among rows (word_of h) items) ≡ map (object_in rows (word_of h))
          (filter (passes test) items)
          → filter test (map (object_in rows (word_of h)) (if b then i ∷ filter is_object items else filter is_object
          items))
          ≡ map (object_in rows (word_of h)) (if b && test (object_in rows (word_of h) i) then i
          ∷ filter (passes test) items else filter (passes test) items)
      go true more = inner (test (object_in rows (word_of h) i)) more
      go false more = more

  count-objects : (test : Object → Bool) (items : List Item) → count_by (passes test) items
      ≡ count_by test (objects_among rows (word_of h) items)
  count-objects test items =
      sym (length-filter (passes test) items)
      ∙ sym (length-map (filter (passes test) items) (object_in rows (word_of h)))
      ∙ sym (ap length (passing-objects test items))
      ∙ length-filter test (objects_among rows (word_of h) items)

  module _ (g : ℕ) (heap : IsHeap h) (held : IsHeld rows h) where
    -- the bytes of those of a generation that stay
    bytes-promoted : (e : ℕ) → sum_by (λ (i : Item). i.size) (filter (passes (is_kept_of h g e)) (heap_items rows h))
        ≡ sum_by (object_size rows) (filter (is_kept_of h g e) (objects_in rows h))
    bytes-promoted e =
        sum-on (λ (i : Item). i.size) (λ i. object_size rows (object_in rows (word_of h) i))
        (filter (passes (is_kept_of h g e)) (heap_items rows h))
        (λ i n. listed-sized rows h i heap held (out_of_filter (passes (is_kept_of h g e)) i (heap_items rows h) n).1)
        ∙ sym (sum-mapped (object_in rows (word_of h)) (object_size rows)
        (filter (passes (is_kept_of h g e)) (heap_items rows h)))
        ∙ sym (ap (sum_by (object_size rows)) (passing-objects (is_kept_of h g e) (heap_items rows h)))

    -- THE TALLY of the items that a sweep goes over is that of the objects
    pub tally_swept : tally_by h g (heap_items rows h) ≡ tally_of rows h g
    tally_swept =
        let kept = count-objects (is_kept h g) (heap_items rows h) in
        let freed = count-objects (λ o. is_reached_by h g o.place && not (is_marked h o)) (heap_items rows h) in
        let young = bytes-promoted 0 in
        let older = bytes-promoted 1 in
        λ k. record { kept = kept k; freed = freed k; promoted1 = young k; promoted2 = older k }

-- ---- items that a sweep goes over, all of them or none

module _ (h : HeapView) (g : ℕ) where
  count-on : (f p : Item → Bool) (xs : List Item) → ((x : Item) → IsIn x xs → f x ≡ p x) → count_by f xs ≡ count_by p xs
  count-on f p xs same = sum-on (λ (x : Item). cond (f x) 1 0) (λ (x : Item). cond (p x) 1 0) xs
      (λ x l. ap (λ b. cond b 1 0) (same x l))

  -- where it goes over all of them
  pub tally_all : (items : List Item) → ((i : Item) → IsIn i items → is_reached_by h g i.place ≡ true)
      → tally_by h g items ≡ tally_among h items
  tally_all items all =
      let kept = count-on (swept_kept h g) (stays (word_of h)) items
      (λ i l. ap (λ b. is_object i && (b && has_mark (word_of h i.place))) (all i l)) in
      let freed = count-on (swept_freed h g) (goes (word_of h)) items
      (λ i l. ap (λ b. is_object i && (b && not (has_mark (word_of h i.place)))) (all i l)) in
      let same : (e : ℕ) → filter (swept_kept_of h g e) items ≡ filter (stays_of h e) items =
      λ e. filter-on (swept_kept_of h g e) (stays_of h e) items
      (λ i l. ap (λ b. is_object i && ((b && has_mark (word_of h i.place)) && (generation (frame h) i.place == e)))
      (all i l) ∙ and-regrouped (is_object i) (has_mark (word_of h i.place)) (generation (frame h) i.place == e)) in
      let young = same 0 in
      let older = same 1 in
      λ k. record {
        kept = kept k;
        freed = freed k;
        promoted1 = sum_by (λ i. i.size) (young k);
        promoted2 = sum_by (λ i. i.size) (older k);
      }

  count-none : (f : Item → Bool) (xs : List Item) → ((x : Item) → IsIn x xs → f x ≡ false) → count_by f xs ≡ 0
  count-none f [] none = refl
  count-none f (x ∷ xs) none = sum_by-cons (λ (y : Item). cond (f y) 1 0) x xs
      ∙ ap₂ (λ (m n : ℕ). m + n) (ap (λ b. cond b 1 0) (none x first)) (count-none f xs (λ y l. none y (later l)))

  filter-none : (f : Item → Bool) (xs : List Item) → ((x : Item) → IsIn x xs → f x ≡ false) → filter f xs ≡ []
  filter-none f [] none = refl
  filter-none f (x ∷ xs) none = ap (λ b. if b then x ∷ filter f xs else filter f xs) (none x first)
      ∙ filter-none f xs (λ y l. none y (later l))

  and-none : (a b : Bool) → (a && (false && b)) ≡ false
  and-none true b = refl
  and-none false b = refl

  and-none-of : (a b c : Bool) → (a && ((false && b) && c)) ≡ false
  and-none-of true b c = refl
  and-none-of false b c = refl

  -- and where over none
  pub tally_none : (items : List Item) → ((i : Item) → IsIn i items → is_reached_by h g i.place ≡ false)
      → tally_by h g items ≡ no_tally
  tally_none items none =
      let kept = count-none (swept_kept h g) items (λ i l. ap (λ b. is_object i && (b && has_mark (word_of h i.place)))
      (none i l) ∙ and-none (is_object i) (has_mark (word_of h i.place))) in
      let freed =
      count-none (swept_freed h g) items (λ i l. ap (λ b. is_object i && (b && not (has_mark (word_of h i.place))))
      (none i l) ∙ and-none (is_object i) (not (has_mark (word_of h i.place)))) in
      let empty : (e : ℕ) → filter (swept_kept_of h g e) items ≡ [] =
      λ e. filter-none (swept_kept_of h g e) items
      (λ i l. ap (λ b. is_object i && ((b && has_mark (word_of h i.place)) && (generation (frame h) i.place == e)))
      (none i l) ∙ and-none-of (is_object i) (has_mark (word_of h i.place)) (generation (frame h) i.place == e)) in
      let young = empty 0 in
      let older = empty 1 in
      λ k. record {
        kept = kept k;
        freed = freed k;
        promoted1 = sum_by (λ i. i.size) (young k);
        promoted2 = sum_by (λ i. i.size) (older k);
      }

  sum-append : {X : Type 0} (f : X → ℕ) (xs ys : List X) → sum_by f (xs ++ ys) ≡ sum_by f xs + sum_by f ys
  sum-append f [] ys = omega arith
  sum-append f (x ∷ xs) ys = let all = sum_by-cons f x (xs ++ ys) in let more = sum-append f xs ys in let one =
      sum_by-cons f x xs in omega arith

  pub tally_joined : (xs ys : List Item) → tally_by h g (xs ++ ys) ≡ plus (tally_by h g xs) (tally_by h g ys)
  tally_joined xs ys =
      let kept = sum-append (λ (i : Item). cond (swept_kept h g i) 1 0) xs ys in
      let freed = sum-append (λ (i : Item). cond (swept_freed h g i) 1 0) xs ys in
      let bytes : (e : ℕ) → sum_by (λ (i : Item). i.size) (filter (swept_kept_of h g e) (xs ++ ys))
      ≡ sum_by (λ (i : Item). i.size) (filter (swept_kept_of h g e) xs) + sum_by (λ (i : Item). i.size)
      (filter (swept_kept_of h g e) ys) =
      λ e. ap (sum_by (λ (i : Item). i.size)) (filter-append (swept_kept_of h g e) xs ys)
      ∙ sum-append (λ (i : Item). i.size) (filter (swept_kept_of h g e) xs) (filter (swept_kept_of h g e) ys) in
      let young = bytes 0 in
      let older = bytes 1 in
      λ k. record { kept = kept k; freed = freed k; promoted1 = young k; promoted2 = older k }
