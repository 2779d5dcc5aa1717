-- What one mark leaves of what waits, and where a marker looks for objects.
use Rattle.std.proofs.Common.{◌≡◌, ◌⊎◌, inl, inr, ℕ, ◌+◌, ◌≤◌, ◌==◌, Bool, true, false, List, [], ◌∷◌, length, refl, sym}
use Rattle.std.proofs.Common.{◌∙◌, if◌then◌else◌, max, min, subst, arith, ltb, length-append}
use Rattle.std.proofs.lemmas.Bool.{cases_Bool, cases_lt, true≢false}
use Rattle.clr_types.specs.Rising.{first, IsIn, later}
use Rattle.clr_types.specs.Types.{TypeRow}
use Rattle.clr_types.proofs.ChangedLists.{append_left}
use Rattle.clr_types.proofs.ListMembers.{append_right, in_append}
use Rattle.clr_types.proofs.RisingLists.{in_cons}
use Rattle.clr_heap.specs.View.{HeapView, IsHeap, stored, word_of}
use Rattle.clr_view.specs.View.{IsHeld}
use Rattle.clr_view.specs.SlotValues.{StandsAt}
use Rattle.clr_view.specs.Marks.{has_mark, Marked}
use Rattle.clr_mark.specs.Marks.{is_condemned_place, is_new, with_mark}
use Rattle.clr_mark.specs.Overflow.{widened, window}
use Rattle.clr_mark.specs.Waiting.{IsWithin, known_places, lowest_of, MarkerView, Waits, with_next, with_waiting}
use Rattle.clr_mark.specs.Markings.{LeavesWaiting, unmarked_count, weight}
use Rattle.clr_mark.proofs.Counting.{unmarked_lt}
use Rattle.clr_mark.proofs.Graying.{AfterMark, new_mark, no_mark}

-- what lies in a range still does when an address comes into one
pub widens : (rs : List (ℕ × ℕ)) (x y : ℕ) → IsWithin rs x → IsWithin (widened rs y) x
widens [] x y w = absurd w
widens (r ∷ rs) x y w = go (window r.0 == window y) (λ v. widens rs x y v) w
  where
    go : (b : Bool) → (IsWithin rs x → IsWithin (widened rs y) x) → IsWithin (r ∷ rs) x
        → IsWithin (if b then (min r.0 y, max r.1 y) ∷ rs else r ∷ widened rs y) x
    go true more w = elim w [
      | inl here ↦ let low = here.0 in let high = here.1 in inl (omega (arith, low), omega (arith, high))
      | inr there ↦ inr there
    ]
    go false more w = elim w [ inl here ↦ inl here | inr there ↦ inr (more there) ]

-- and the address does
widens_to : (rs : List (ℕ × ℕ)) (y : ℕ) → IsWithin (widened rs y) y
widens_to [] y = inl (omega arith, omega arith)
widens_to (r ∷ rs) y = go (window r.0 == window y) (widens_to rs y)
  where
    go : (b : Bool) → IsWithin (widened rs y) y
        → IsWithin (if b then (min r.0 y, max r.1 y) ∷ rs else r ∷ widened rs y) y
    go true more = inl (omega arith, omega arith)
    go false more = inr more

-- no other address becomes a low end
widens_low : (rs : List (ℕ × ℕ)) (x y : ℕ) → IsIn x (lowest_of (widened rs y)) → IsIn x (lowest_of rs) ⊎ (x ≡ y)
widens_low [] x y i = elim (in_cons i) [ inl e ↦ inr e | inr none ↦ elim none [ ] ]
widens_low (r ∷ rs) x y i = go (window r.0 == window y) (λ j. widens_low rs x y j) i
  where
    go : (b : Bool) → (IsIn x (lowest_of (widened rs y)) → IsIn x (lowest_of rs) ⊎ (x ≡ y))
        → IsIn x (lowest_of (if b then (min r.0 y, max r.1 y) ∷ rs else r ∷ widened rs y))
        → IsIn x (lowest_of (r ∷ rs)) ⊎ (x ≡ y)
    go true more i = elim (in_cons i) [
      | inl e ↦ elim (cases_lt r.0 y) [
        | inl less ↦
            let same : x ≡ r.0 = omega (arith, e, less) in
            let P : ℕ → Type 0 = λ b. IsIn b (r.0 ∷ lowest_of rs) in
            inl (subst P (sym same) first)
        | inr more ↦ inr (omega (arith, e, more))
      ]
      | inr there ↦ inl (later there)
    ]
    go false more i = elim (in_cons i) [
      | inl e ↦ let P : ℕ → Type 0 = λ b. IsIn b (r.0 ∷ lowest_of rs) in inl (subst P (sym e) first)
      | inr there ↦ elim (more there) [ inl before ↦ inl (later before) | inr e ↦ inr e ]
    ]

-- one range more is begun at most
widens_count : (rs : List (ℕ × ℕ)) (y : ℕ) → length (widened rs y) ≤ length rs + 1
widens_count [] y = omega arith
widens_count (r ∷ rs) y = go (window r.0 == window y) (widens_count rs y)
  where
    go : (b : Bool) → length (widened rs y) ≤ length rs + 1
        → length (if b then (min r.0 y, max r.1 y) ∷ rs else r ∷ widened rs y) ≤ length (r ∷ rs) + 1
    go true more = omega arith
    go false more = omega (arith, more)

-- an object more that waits
pub record AfterNext (m now : MarkerView) (y : ℕ) : Type 0 where
  pub waits : (x : ℕ) → Waits m x → Waits now x
  pub there : Waits now y
  pub stacked : (x : ℕ) → IsIn x now.stack → IsIn x m.stack ⊎ (x ≡ y)
  pub lowest : (x : ℕ) → IsIn x (lowest_of now.ranges) → IsIn x (lowest_of m.ranges) ⊎ (x ≡ y)
  pub long : length now.stack ≤ length m.stack + 1
  pub heavy : length now.ranges ≤ length m.ranges + 1
  pub capacity : now.capacity ≡ m.capacity
  pub oldest : now.oldest ≡ m.oldest

pub after_next : (m : MarkerView) (y : ℕ) → AfterNext m (with_next m y) y
after_next m y = elim (cases_Bool (ltb (length m.stack) m.capacity)) [
  | inl room ↦ rw room (record {
    waits = λ x w. elim w [ inl i ↦ inl (append_left (y ∷ []) i) | inr r ↦ inr r ];
    there = inl (append_right m.stack first);
    stacked = λ x i. elim (in_append m.stack i) [
      | inl before ↦ inl before
      | inr last ↦ elim (in_cons last) [ inl e ↦ inr e | inr none ↦ elim none [ ] ]
    ];
    lowest = λ x i. inl i;
    long = let l = length-append m.stack (y ∷ []) in omega (arith, l);
    heavy = omega arith;
    capacity = refl;
    oldest = refl;
  })
  | inr full ↦ rw full (record {
    waits = λ x w. elim w [ inl i ↦ inl i | inr r ↦ inr (widens m.ranges x y r) ];
    there = inr (widens_to m.ranges y);
    stacked = λ x i. inl i;
    lowest = λ x i. widens_low m.ranges x y i;
    long = omega arith;
    heavy = widens_count m.ranges y;
    capacity = refl;
    oldest = refl;
  })
]

-- a marker keeps its stack's room and its generations
pub waiting_keeps : (h : HeapView) (m : MarkerView) (y : ℕ)
    → ((with_waiting h m y).oldest ≡ m.oldest) × ((with_waiting h m y).capacity ≡ m.capacity)
waiting_keeps h m y = elim (cases_Bool (is_new h m.oldest y)) [
  | inl fresh ↦ rw fresh ((after_next m y).oldest, (after_next m y).capacity)
  | inr old ↦ rw old (refl, refl)
]

-- what a mark at y leaves
pub record AfterGray (rows : List TypeRow) (h new : HeapView) (m now : MarkerView) (y : ℕ) : Type 0 where
  pub marked : AfterMark rows m.oldest h new y
  pub waits : (x : ℕ) → Waits m x → Waits now x
  pub fresh : is_condemned_place h m.oldest y ≡ true → Marked rows h y ⊎ Waits now y
  pub stacked : (x : ℕ) → IsIn x now.stack → IsIn x m.stack ⊎ Marked rows new x
  pub lowest : (x : ℕ) → IsIn x (lowest_of now.ranges) → IsIn x (lowest_of m.ranges) ⊎ Marked rows new x
  pub spent : length now.stack + unmarked_count rows new ≤ length m.stack + unmarked_count rows h
  pub lighter : weight rows new now ≤ weight rows h m
  pub capacity : now.capacity ≡ m.capacity
  pub oldest : now.oldest ≡ m.oldest

pub after_gray : (rows : List TypeRow) (h : HeapView) (m : MarkerView) (y : ℕ) → IsHeap h → IsHeld rows h
    → StandsAt rows h y → AfterGray rows h (with_mark h m.oldest y) m (with_waiting h m y) y
after_gray rows h m y heap held s = elim (cases_Bool (is_condemned_place h m.oldest y)) [
  | inl near ↦ elim (cases_Bool (has_mark (word_of h y))) [
    | inl on ↦ rw (near, on) (record {
      marked = no_mark rows h m.oldest y heap held s (λ _. on);
      waits = λ x w. w;
      fresh = λ _. inl (record { stands = s; mark = on });
      stacked = λ x i. inl i;
      lowest = λ x i. inl i;
      spent = omega arith;
      lighter = omega arith;
      capacity = refl;
      oldest = refl;
    })
    | inr off ↦
        let a = new_mark rows h m.oldest y heap held s near off in
        let new = stored h y (word_of h y + 1) in
        let less = unmarked_lt rows h new heap held a.remarked a.kept y s off (a.there near).mark in
        let n = after_next m y in
        let long = n.long in
        let heavy = n.heavy in
        rw (near, off) (record {
          marked = a;
          waits = n.waits;
          fresh = λ _. inr n.there;
          stacked = λ x i. elim (n.stacked x i) [
            | inl before ↦ inl before
            | inr e ↦ let P : ℕ → Type 0 = λ b. Marked rows new b in inr (subst P (sym e) (a.there near))
          ];
          lowest = λ x i. elim (n.lowest x i) [
            | inl before ↦ inl before
            | inr e ↦ let P : ℕ → Type 0 = λ b. Marked rows new b in inr (subst P (sym e) (a.there near))
          ];
          spent = omega (arith, less, long);
          lighter = omega (arith, less, heavy);
          capacity = n.capacity;
          oldest = n.oldest;
        })
  ]
  | inr far ↦ rw far (record {
    marked = no_mark rows h m.oldest y heap held s (λ near. absurd (true≢false (sym near ∙ far)));
    waits = λ x w. w;
    fresh = λ near. absurd (true≢false (sym near ∙ far));
    stacked = λ x i. inl i;
    lowest = λ x i. inl i;
    spent = omega arith;
    lighter = omega arith;
    capacity = refl;
    oldest = refl;
  })
]

-- what is newly marked waits
pub waiting-refl : (rows : List TypeRow) (h : HeapView) (m : MarkerView) → LeavesWaiting rows h h m m
waiting-refl rows h m = record { kept = λ x w. w; fresh = λ x s. inl s }

pub waiting-more : (rows : List TypeRow) (h now new : HeapView) (m n o : MarkerView) (y : ℕ)
    → LeavesWaiting rows h now m n → AfterGray rows now new n o y → LeavesWaiting rows h new m o
waiting-more rows h now new m n o y p a =
    let on : (x : ℕ) → Marked rows now x → Marked rows h x ⊎ Waits o x =
    λ x was. elim (p.fresh x was) [ inl old ↦ inl old | inr waits ↦ inr (a.waits x waits) ] in
    record {
      kept = λ x w. a.waits x (p.kept x w);
      fresh = λ x s. elim (a.marked.only x s) [
        | inl e ↦ elim (a.fresh e.1) [
          | inl was ↦ let P : ℕ → Type 0 = λ b. Marked rows now b in on x (subst P (sym e.0) was)
          | inr waits ↦ let P : ℕ → Type 0 = λ b. Waits o b in inr (subst P (sym e.0) waits)
        ]
        | inr was ↦ on x was
      ];
    }

-- where a marker looks for objects stays marked
pub known_on : (rows : List TypeRow) (h new : HeapView) (m now : MarkerView)
    → ((x : ℕ) → Marked rows h x → Marked rows new x) → ((x : ℕ) → IsIn x (known_places m) → Marked rows h x)
    → ((x : ℕ) → IsIn x now.stack → IsIn x m.stack ⊎ Marked rows new x)
    → ((x : ℕ) → IsIn x (lowest_of now.ranges) → IsIn x (lowest_of m.ranges) ⊎ Marked rows new x)
    → (x : ℕ) → IsIn x (known_places now) → Marked rows new x
known_on rows h new m now kept known stacked lowest x i = elim (in_append (lowest_of now.ranges) i) [
  | inl low ↦ elim (lowest x low) [
    | inl before ↦ kept x (known x (append_left m.stack before))
    | inr there ↦ there
  ]
  | inr on ↦ elim (stacked x on) [
    | inl before ↦ kept x (known x (append_right (lowest_of m.ranges) before))
    | inr there ↦ there
  ]
]
