-- What a sweep makes of items that it leaves as they are, and the counts of these.
use Rattle.std.proofs.Common.{◌≡◌, ℕ, ◌+◌, ◌-◌, ◌≤◌, Bool, true, false, not, ◌&&◌, ◌==◌, List, [], ◌∷◌, ◌++◌}
use Rattle.std.proofs.Common.{refl, ap, ap₂, sym, ◌∙◌, append-nil, arith, if◌then◌else◌, count_by, cond}
use Rattle.std.proofs.lemmas.Bool.{both_ways, eqb-true, le-ltb, lt-ltb}
use Rattle.std.proofs.lemmas.List.{append_assoc}
use Rattle.std.proofs.lemmas.List.Sums.{sum_by-cons}
use Rattle.clr_types.specs.Rising.{first, IsIn, later}
use Rattle.clr_types.specs.Segments.{generation}
use Rattle.clr_types.specs.Types.{form_at, size_of, TypeRow}
use Rattle.clr_types.specs.declared.item.Item.{Item}
use Rattle.clr_heap.specs.Parts.{free_item}
use Rattle.clr_heap.specs.View.{frame, HeapView, word_of}
use Rattle.clr_view.specs.Marks.{has_mark}
use Rattle.clr_view.specs.View.{is_free, is_object}
use Rattle.clr_view.proofs.Items.{IsItem}
use Rattle.clr_sweep.specs.Fronts.{AreBeforeObjects}
use Rattle.clr_sweep.specs.Passes.{plus}
use Rattle.clr_sweep.specs.SweptItems.{gap, last_end, stays, swept_from, tally_among}
use Rattle.clr_sweep.specs.declared.tally.Tally.{Tally}
use Rattle.clr_sweep.proofs.SectionsSwept.{AreFilled}
use Rattle.clr_sweep.proofs.Tallies.{tally-cons}

-- a free item is told by its place and size
pub free_told : (rows : List TypeRow) (low high : ℕ) (i : Item) → IsItem rows low high i → is_free i ≡ true
    → free_item i.place i.size ≡ i
free_told rows low high i is free =
    let number : i.type_id.0 ≡ 0 = eqb-true i.type_id.0 0 free in
    let z = is.whole number in
    let size : i.size ≡ size_of (form_at rows 0) i.len =
    is.sized ∙ ap (λ (t : ℕ). size_of (form_at rows t) i.len) number in
    let len : i.size - 24 ≡ i.len = omega arith in
    let type = sym number in
    λ k. record i { type_id = record { 0 = type k }; len = len k }

-- there is no room from a place to itself
no_gap : (p : ℕ) → gap p p ≡ []
no_gap p = ap (λ (b : Bool). if b then free_item p (p - p) ∷ [] else []) (le-ltb p p (omega arith))

-- the room that an item fills
whole_gap : (p size : ℕ) → 24 ≤ size → gap p (p + size) ≡ free_item p size ∷ []
whole_gap p size least =
    let back : p + size - p ≡ size = omega arith in
    ap (λ (b : Bool). if b then free_item p (p + size - p) ∷ [] else []) (lt-ltb p (p + size) (omega arith))
    ∙ ap (λ (n : ℕ). free_item p n ∷ []) back

-- what isn't an object is free
is_then_free : (i : Item) → is_object i ≡ false → is_free i ≡ true
is_then_free i none = go (is_free i) none
  where
    go : (b : Bool) → not b ≡ false → b ≡ true
    go true e = refl
    go false e = absurd cc

-- exactly the objects among items stay, and the free ones are told by their places and sizes
pub record AreSettled (keep : Item → Bool) (is : List Item) : Type 0 where
  pub objects : (i : Item) → IsIn i is → keep i ≡ is_object i
  pub free : (i : Item) → IsIn i is → is_free i ≡ true → free_item i.place i.size ≡ i

rest_settled : (keep : Item → Bool) (i : Item) (is : List Item) → AreSettled keep (i ∷ is) → AreSettled keep is
rest_settled keep i is s = record { objects = λ j l. s.objects j (later l); free = λ j l. s.free j (later l) }

-- what is before the next item, which is one behind a free item or not
closed_before : (free : Bool) (i : Item) → (free ≡ true → is_object i ≡ true) → is_object i ≡ false → free ≡ false
closed_before true i next none = absurd (both_ways (is_object i) none (next refl))
closed_before false i next none = refl

module _ (keep : Item → Bool) (rest : List Item) (e : ℕ) where
  -- the front ends where it ends, whatever follows
  pub last_on : (end p : ℕ) (free : Bool) (is : List Item) → AreFilled p is e → AreSettled keep is
      → AreBeforeObjects free is → (free ≡ false → end ≡ p) → last_end keep end (is ++ rest) ≡ last_end keep e rest
  last_on end p free [] filled s before closed = ap (λ (n : ℕ). last_end keep n rest) (closed before ∙ filled)
  last_on end p free (i ∷ is) filled s before closed =
      go (is_object i) refl
      (λ end' free' before' closed'. last_on end' (p + i.size) free' is filled.2 (rest_settled keep i is s) before'
      closed')
    where
      go : (b : Bool) → is_object i ≡ b
          → ((end' : ℕ) (free' : Bool) → AreBeforeObjects free' is → (free' ≡ false → end' ≡ p + i.size)
          → last_end keep end' (is ++ rest) ≡ last_end keep e rest)
          → last_end keep (if keep i then i.place + i.size else end) (is ++ rest) ≡ last_end keep e rest
      go true object more =
          ap (λ (b : Bool). last_end keep (if b then i.place + i.size else end) (is ++ rest))
          (s.objects i first ∙ object)
          ∙ more (i.place + i.size) (is_free i) before.1 (λ _. ap (λ (n : ℕ). n + i.size) filled.0)
      go false none more =
          ap (λ (b : Bool). last_end keep (if b then i.place + i.size else end) (is ++ rest))
          (s.objects i first ∙ none)
          ∙ more end (is_free i) before.1 (λ off. absurd (both_ways (is_free i) off (is_then_free i none)))

module _ (keep : Item → Bool) (cut : ℕ → Bool) (rest : List Item) (e : ℕ) where
  -- what follows
  abbrev after : List Item
  after = swept_from keep cut [] e e rest

  -- what is shown of the items from q on, where one that is to become free begins at a
  abbrev IsLeft : List Item → ℕ → Type 0
  IsLeft is q =
      (pending : List Item) (a : ℕ) (free : Bool) → AreBeforeObjects free is
      → (free ≡ false → (pending ≡ []) × (a ≡ q))
      → swept_from keep cut pending a q (is ++ rest) ≡ (pending ++ gap a q) ++ (is ++ after)

  module _ (i : Item) (is : List Item) (p : ℕ) (at : i.place ≡ p) (least : 24 ≤ i.size)
      (s : AreSettled keep (i ∷ is)) (more : IsLeft is (p + i.size)) where
    abbrev q : ℕ
    q = p + i.size

    -- an object stays
    object_left : (pending : List Item) (a : ℕ) → AreBeforeObjects (is_free i) is → is_object i ≡ true
        → swept_from keep cut pending a p (i ∷ (is ++ rest)) ≡ (pending ++ gap a p) ++ (i ∷ (is ++ after))
    object_left pending a before object =
        ap (λ (b : Bool). if b then pending ++ (gap a p ++ i ∷ swept_from keep cut [] q q (is ++ rest))
        else if cut q then swept_from keep cut (pending ++ gap a q) q q (is ++ rest)
        else swept_from keep cut pending a q (is ++ rest)) (s.objects i first ∙ object)
        ∙ ap (λ (xs : List Item). pending ++ (gap a p ++ i ∷ xs))
        (more [] q (is_free i) before (λ _. (refl, refl)) ∙ ap (λ (g : List Item). g ++ (is ++ after)) (no_gap q))
        ∙ sym (append_assoc pending (gap a p) (i ∷ (is ++ after)))

    -- a free item is made again
    made_again : is_free i ≡ true → gap p q ≡ i ∷ []
    made_again free =
        whole_gap p i.size least ∙ ap (λ (n : ℕ). free_item n i.size ∷ []) (sym at)
        ∙ ap (λ (j : Item). j ∷ []) (s.free i first free)

    free_left : AreBeforeObjects (is_free i) is → is_object i ≡ false
        → swept_from keep cut [] p p (i ∷ (is ++ rest)) ≡ i ∷ (is ++ after)
    free_left before none =
        let free = is_then_free i none in
        let never : is_free i ≡ false → ⊥ = λ off. both_ways (is_free i) off free in
        let one = more (gap p q) q (is_free i) before (λ off. absurd (never off))
        ∙ ap (λ (g : List Item). (gap p q ++ g) ++ (is ++ after)) (no_gap q)
        ∙ ap (λ (g : List Item). g ++ (is ++ after)) (append-nil (gap p q)) in
        let two = more [] p (is_free i) before (λ off. absurd (never off)) in
        ap (λ (b : Bool). if b then [] ++ (gap p p ++ i ∷ swept_from keep cut [] q q (is ++ rest))
        else if cut q then swept_from keep cut (gap p q) q q (is ++ rest)
        else swept_from keep cut [] p q (is ++ rest)) (s.objects i first ∙ none)
        ∙ either (cut q) (swept_from keep cut (gap p q) q q (is ++ rest)) (swept_from keep cut [] p q (is ++ rest))
        (gap p q ++ (is ++ after)) one two
        ∙ ap (λ (g : List Item). g ++ (is ++ after)) (made_again free)
      where
        either : (b : Bool) (x y z : List Item) → x ≡ z → y ≡ z → (if b then x else y) ≡ z
        either true x y z e f = e
        either false x y z e f = f

    -- one item more is left
    one_left : IsLeft (i ∷ is) p
    one_left pending a free before closed = go (is_object i) refl
      where
        go : (b : Bool) → is_object i ≡ b
            → swept_from keep cut pending a p (i ∷ (is ++ rest)) ≡ (pending ++ gap a p) ++ (i ∷ (is ++ after))
        go true object = object_left pending a before.1 object
        go false none =
            let (nothing, here) = closed (closed_before free i before.0 none) in
            (λ k. swept_from keep cut (nothing k) (here k) p (i ∷ (is ++ rest)))
            ∙ free_left before.1 none
            ∙ sym ((λ k. (nothing k ++ gap (here k) p) ++ (i ∷ (is ++ after)))
            ∙ ap (λ (g : List Item). g ++ (i ∷ (is ++ after))) (no_gap p))

  all_left : (p : ℕ) (is : List Item) → AreFilled p is e → AreSettled keep is → IsLeft is p
  all_left p [] filled s = λ pending a free before closed.
      let (nothing, at) = closed before in
      (λ k. swept_from keep cut (nothing k) (at k) p rest)
      ∙ (λ k. swept_from keep cut [] (filled k) (filled k) rest)
      ∙ sym ((λ k. (nothing k ++ gap (at k) p) ++ after) ∙ ap (λ (g : List Item). g ++ after) (no_gap p))
  all_left p (i ∷ is) filled s =
      one_left i is p filled.0 filled.1 s (all_left (p + i.size) is filled.2 (rest_settled keep i is s))

  -- A FRONT IS LEFT AS IT IS
  pub left_on : (p : ℕ) (is : List Item) → AreFilled p is e → AreSettled keep is → AreBeforeObjects false is
      → swept_from keep cut [] p p (is ++ rest) ≡ is ++ after
  left_on p is filled s before =
      all_left p is filled s [] p false before (λ _. (refl, refl))
      ∙ ap (λ (g : List Item). g ++ (is ++ after)) (no_gap p)

-- ---- counts

-- what an old item adds that stays where it is an object
old_item : (o m : Bool) (g n : ℕ) → (o && m) ≡ o → g ≡ 2 → let t : Tally = record {
  kept = if o && m then 1 else 0;
  freed = if o && not m then 1 else 0;
  promoted1 = if (o && m) && (g == 0) then n else 0;
  promoted2 = if (o && m) && (g == 1) then n else 0;
} in t ≡ record { kept = cond o 1 0; freed = 0; promoted1 = 0; promoted2 = 0 }
old_item true true g n on old = ap (λ (a : ℕ). record {
  kept = 1;
  freed = 0;
  promoted1 = if a == 0 then n else 0;
  promoted2 = if a == 1 then n else 0;
}) old
old_item true false g n on old = absurd cc
old_item false m g n on old = refl

-- A FRONT'S COUNT: its objects stay, and nothing else is counted
pub front_tally : (h : HeapView) (is : List Item) → ((i : Item) → IsIn i is → stays (word_of h) i ≡ is_object i)
    → ((i : Item) → IsIn i is → generation (frame h) i.place ≡ 2)
    → tally_among h is ≡ record { kept = count_by is_object is; freed = 0; promoted1 = 0; promoted2 = 0 }
front_tally h [] stay old = refl
front_tally h (i ∷ is) stay old =
    let one = old_item (is_object i) (has_mark (word_of h i.place)) (generation (frame h) i.place) i.size
    (stay i first) (old i first) in
    let more = front_tally h is (λ j l. stay j (later l)) (λ j l. old j (later l)) in
    let count = sum_by-cons (λ (y : Item). cond (is_object y) 1 0) i is in
    tally-cons h i is ∙ ap₂ plus one more
    ∙ (λ k. record { kept = sym count k; freed = 0; promoted1 = 0; promoted2 = 0 })

-- its objects are no more than its bytes
pub few_objects : (p e : ℕ) (is : List Item) → AreFilled p is e → count_by is_object is + p ≤ e
few_objects p e [] filled = omega (arith, filled)
few_objects p e (i ∷ is) filled =
    let more = few_objects (p + i.size) e is filled.2 in
    let least = filled.1 in
    let count = sum_by-cons (λ (y : Item). cond (is_object y) 1 0) i is in
    let one = at_most_one (is_object i) in
    omega (arith, more, least, count, one)
  where
    at_most_one : (b : Bool) → cond b 1 0 ≤ 1
    at_most_one true = omega arith
    at_most_one false = omega arith
