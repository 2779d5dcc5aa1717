-- What the parts of a marking add up to, whatever leads from one object to another: slots alone, or slots and ties.
use Rattle.std.proofs.Common.{◌≡◌, ◌⊎◌, ◌↔◌, inl, inr, ℕ, ◌+◌, ◌<◌, ◌≤◌, true, List, [], ◌∷◌, ◌++◌, length, refl, ap}
use Rattle.std.proofs.Common.{sym, ◌∙◌, subst, arith, length-append}
use Rattle.clr_types.specs.Rising.{first, IsIn, later}
use Rattle.clr_types.specs.Types.{TypeRow}
use Rattle.clr_types.proofs.ChangedLists.{append_left}
use Rattle.clr_types.proofs.ListMembers.{append_right, in_append}
use Rattle.clr_types.proofs.RisingLists.{in_cons}
use Rattle.clr_heap.specs.View.{HeapView, IsHeap}
use Rattle.clr_model.specs.Reach.{Reach}
use Rattle.clr_view.specs.View.{IsHeld}
use Rattle.clr_view.specs.Marks.{Marked}
use Rattle.clr_mark.specs.Marks.{is_condemned_place, IsClosed, IsRemarked, LeadsTo}
use Rattle.clr_mark.specs.Waiting.{IsFollowedBy, IsGrayBy, IsIdle, IsSettledBy, IsWithin, lowest_of, MarkerView, Waits}
use Rattle.clr_mark.specs.Markings.{HasGrayed, HasGrayedBy, HasReached, IsRescannedBy, LeavesWaiting, weight}
use Rattle.clr_mark.proofs.Held.{keeps_closed, remarked-trans}
use Rattle.clr_mark.proofs.Graying.{AfterMark, leads_back, leads_on, reach_in, reach_on, reached-refl, reached-trans}
use Rattle.clr_mark.proofs.OneMark.{AfterGray, known_on}

-- ---- the last of some ranges

last-low : (rs : List (ℕ × ℕ)) (r : ℕ × ℕ) → IsIn r.0 (lowest_of (rs ++ r ∷ []))
last-low [] r = first
last-low (q ∷ rs) r = later (last-low rs r)

front-low : (rs : List (ℕ × ℕ)) (r : ℕ × ℕ) (x : ℕ) → IsIn x (lowest_of rs) → IsIn x (lowest_of (rs ++ r ∷ []))
front-low [] r x i = elim i [ ]
front-low (q ∷ rs) r x i = elim (in_cons i) [
  | inl e ↦ let P : ℕ → Type 0 = λ b. IsIn b (q.0 ∷ lowest_of (rs ++ r ∷ [])) in subst P (sym e) first
  | inr there ↦ later (front-low rs r x there)
]

within-last : (rs : List (ℕ × ℕ)) (r : ℕ × ℕ) (x : ℕ) → IsWithin (rs ++ r ∷ []) x
    → IsWithin rs x ⊎ ((r.0 ≤ x) × (x ≤ r.1))
within-last [] r x w = elim w [ inl here ↦ inr here | inr none ↦ absurd none ]
within-last (q ∷ rs) r x w = elim w [
  | inl here ↦ inl (inl here)
  | inr there ↦ elim (within-last rs r x there) [ inl other ↦ inl (inr other) | inr here ↦ inr here ]
]

-- edges that stay where only marks of objects change
pub record AreStable (rows : List TypeRow) (edge : HeapView → ℕ → ℕ → ℕ → Type 0) : Type 0 where
  pub on : (old new : HeapView) → IsHeap old → IsHeld rows old → IsRemarked rows old new → (g x y : ℕ)
      → edge old g x y → edge new g x y
  pub back : (old new : HeapView) → IsHeap old → IsHeld rows old → IsRemarked rows old new → (g x y : ℕ)
      → edge new g x y → edge old g x y

pub leads_stable : (rows : List TypeRow) → AreStable rows (LeadsTo rows)
leads_stable rows = record { on = leads_on rows; back = leads_back rows }

-- ---- laws that need no more of the edges

module _ (rows : List TypeRow) (edge : HeapView → ℕ → ℕ → ℕ → Type 0) where
  pub grayed_by-refl : (h : HeapView) (m : MarkerView) → HasGrayedBy rows edge h h m m
  grayed_by-refl h m = record {
    marked = reached-refl rows (edge h m.oldest) (Marked rows h) h (λ x s. s);
    settled = λ x s. s;
    fresh = λ x s. inl s;
    stacked = λ x i. inl i;
    lowest = λ x i. inl i;
    spent = omega arith;
    lighter = omega arith;
    capacity = refl;
    oldest = refl;
  }

  -- what stays on the stack is marked
  pub stacked_by : (h now : HeapView) (m n : MarkerView) → HasGrayedBy rows edge h now m n
      → ((x : ℕ) → IsIn x m.stack → Marked rows h x) → (x : ℕ) → IsIn x n.stack → Marked rows now x
  stacked_by h now m n p s x i = elim (p.stacked x i) [
    | inl before ↦ p.marked.kept x (s x before)
    | inr there ↦ there
  ]

  -- what is on the stack is marked
  pub gray_by_stack : (h : HeapView) (m : MarkerView) → IsGrayBy rows edge h m → (x : ℕ) → IsIn x m.stack
      → Marked rows h x
  gray_by_stack h m g x i = g.stacked x (append_right (lowest_of m.ranges) i)

  -- what stands at the low end of the last range is marked
  pub gray_by_lowest : (h : HeapView) (m rest : MarkerView) (r : ℕ × ℕ)
      → m ≡ record rest { ranges = rest.ranges ++ r ∷ [] } → IsGrayBy rows edge h m → Marked rows h r.0
  gray_by_lowest h m rest r e g =
      let P : List (ℕ × ℕ) → Type 0 = λ rs. IsIn r.0 (lowest_of rs) in
      g.stacked r.0 (append_left m.stack (subst P (sym (ap (λ (n : MarkerView). n.ranges) e))
      (last-low rest.ranges r)))

  -- a round spends a range
  pub round_by_lighter : (h new : HeapView) (m rest now : MarkerView) (r : ℕ × ℕ)
      → m ≡ record rest { ranges = rest.ranges ++ r ∷ [] } → HasGrayedBy rows edge h new rest now
      → weight rows new now < weight rows h m
  round_by_lighter h new m rest now r e p =
      let light = p.lighter in
      let one : length m.ranges ≡ length rest.ranges + 1 =
      ap (λ (n : MarkerView). length n.ranges) e ∙ length-append rest.ranges (r ∷ []) in
      omega (arith, light, one)

  -- where nothing waits, what is marked leads to what is
  pub settled_by_marked : (h : HeapView) (m : MarkerView) (y z : ℕ) → IsGrayBy rows edge h m → IsIdle m
      → Marked rows h y → edge h m.oldest y z → Marked rows h z
  settled_by_marked h m y z gray idle s n = elim (gray.settled y s) [
    | inl waits ↦ elim waits [
      | inl i ↦ let P : List ℕ → Type 0 = λ xs. IsIn y xs in elim (subst P idle.stack i) [ ]
      | inr within ↦ let Q : List (ℕ × ℕ) → Type 0 = λ rs. IsWithin rs y in absurd (subst Q idle.ranges within)
    ]
    | inr all ↦ all z n
  ]

-- ---- laws over stable edges

module _ (rows : List TypeRow) (edge : HeapView → ℕ → ℕ → ℕ → Type 0) (stable : AreStable rows edge) where
  -- followed objects stay followed
  pub followed_by : (old new : HeapView) → IsHeap old → IsHeld rows old → IsRemarked rows old new
      → ((x : ℕ) → Marked rows old x → Marked rows new x) → (g x : ℕ) → IsFollowedBy rows edge old g x
      → IsFollowedBy rows edge new g x
  followed_by old new heap held r kept g x f y e = kept y (f y (stable.back old new heap held r g x y e))

  -- settled objects stay settled
  pub settled_by : (h new : HeapView) (m now : MarkerView) (y : ℕ) → IsHeap h → IsHeld rows h
      → AfterGray rows h new m now y → (x : ℕ) → IsSettledBy rows edge h m x → IsSettledBy rows edge new now x
  settled_by h new m now y heap held a x s = elim s [
    | inl waits ↦ inl (a.waits x waits)
    | inr all ↦
        let P : ℕ → Type 0 = λ g. IsFollowedBy rows edge new g x in
        inr (subst P (sym a.oldest) (followed_by h new heap held a.marked.remarked a.marked.kept m.oldest x all))
  ]

  pub marked_by-trans : (g : ℕ) (a b c : HeapView) → IsHeap a → IsHeld rows a
      → HasReached rows (edge a g) (Marked rows a) a b → HasReached rows (edge b g) (Marked rows b) b c
      → HasReached rows (edge a g) (Marked rows a) a c
  marked_by-trans g a b c heap held p q =
      reached-trans rows (edge a g) (edge b g) (Marked rows a) (Marked rows b) a b c heap held p
      (stable.back a b heap held p.remarked g) p.reached q

  pub grayed_by-trans : (a b c : HeapView) (m n o : MarkerView) → IsHeap a → IsHeld rows a
      → HasGrayedBy rows edge a b m n → HasGrayedBy rows edge b c n o → HasGrayedBy rows edge a c m o
  grayed_by-trans a b c m n o heap held p q =
      let s0 = p.spent in
      let s1 = q.spent in
      let l0 = p.lighter in
      let l1 = q.lighter in
      let P : ℕ → Type 0 = λ g. HasReached rows (edge b g) (Marked rows b) b c in
      record {
        marked = marked_by-trans m.oldest a b c heap held p.marked (subst P p.oldest q.marked);
        settled = λ x s. q.settled x (p.settled x s);
        fresh = λ x s. elim (q.fresh x s) [
          | inl was ↦ elim (p.fresh x was) [ inl old ↦ inl old | inr done ↦ inr (q.settled x done) ]
          | inr done ↦ inr done
        ];
        stacked = λ x i. elim (q.stacked x i) [
          | inl was ↦ elim (p.stacked x was) [ inl old ↦ inl old | inr s ↦ inr (q.marked.kept x s) ]
          | inr s ↦ inr s
        ];
        lowest = λ x i. elim (q.lowest x i) [
          | inl was ↦ elim (p.lowest x was) [ inl old ↦ inl old | inr s ↦ inr (q.marked.kept x s) ]
          | inr s ↦ inr s
        ];
        spent = omega arith;
        lighter = omega arith;
        capacity = q.capacity ∙ p.capacity;
        oldest = q.oldest ∙ p.oldest;
      }

  -- one more mark, at y, to which a marked object leads where y is condemned
  pub grayed_by-more : (h now new : HeapView) (m n o : MarkerView) (y : ℕ) → IsHeap h → IsHeld rows h → IsHeap now
      → IsHeld rows now → HasGrayedBy rows edge h now m n → AfterGray rows now new n o y
      → (is_condemned_place now m.oldest y ≡ true → Reach (edge h m.oldest) (Marked rows h) y)
      → HasGrayedBy rows edge h new m o
  grayed_by-more h now new m n o y heap held heap' held' p a reached =
      let s0 = p.spent in
      let s1 = a.spent in
      let l0 = p.lighter in
      let l1 = a.lighter in
      let on = settled_by now new n o y heap' held' a in
      let P : ℕ → Type 0 = λ g. AfterMark rows g now new y in
      let mark : AfterMark rows m.oldest now new y = subst P p.oldest a.marked in
      let old_fresh : (x : ℕ) → Marked rows now x → Marked rows h x ⊎ IsSettledBy rows edge new o x =
      λ x was. elim (p.fresh x was) [ inl old ↦ inl old | inr done ↦ inr (on x done) ] in
      record {
        marked = record {
          remarked = remarked-trans rows h now new heap held p.marked.remarked mark.remarked;
          kept = λ x s. mark.kept x (p.marked.kept x s);
          reached = λ x s. elim (mark.only x s) [
            | inl e ↦
                let R : ℕ → Type 0 = λ b. Reach (edge h m.oldest) (Marked rows h) b in
                subst R (sym e.0) (reached e.1)
            | inr before ↦ p.marked.reached x before
          ];
        };
        settled = λ x s. on x (p.settled x s);
        fresh = λ x s. elim (a.marked.only x s) [
          | inl e ↦ elim (a.fresh e.1) [
            | inl was ↦ let Q : ℕ → Type 0 = λ b. Marked rows now b in old_fresh x (subst Q (sym e.0) was)
            | inr waits ↦ let Q : ℕ → Type 0 = λ b. Waits o b in inr (inl (subst Q (sym e.0) waits))
          ]
          | inr was ↦ old_fresh x was
        ];
        stacked = λ x i. elim (a.stacked x i) [
          | inl was ↦ elim (p.stacked x was) [ inl old ↦ inl old | inr s ↦ inr (a.marked.kept x s) ]
          | inr s ↦ inr s
        ];
        lowest = λ x i. elim (a.lowest x i) [
          | inl was ↦ elim (p.lowest x was) [ inl old ↦ inl old | inr s ↦ inr (a.marked.kept x s) ]
          | inr s ↦ inr s
        ];
        spent = omega arith;
        lighter = omega arith;
        capacity = a.capacity ∙ p.capacity;
        oldest = a.oldest ∙ p.oldest;
      }

  -- the part of a marking in which an object was popped and followed
  grayed_by_popped : (h new : HeapView) (m rest now : MarkerView) (x : ℕ) → IsHeap h → IsHeld rows h
      → m ≡ record rest { stack = rest.stack ++ x ∷ [] } → HasGrayedBy rows edge h new rest now
      → ((y : ℕ) → edge h rest.oldest x y → Marked rows new y) → HasGrayedBy rows edge h new m now
  grayed_by_popped h new m rest now x heap held e p all =
      let long = length-append rest.stack (x ∷ []) in
      let s0 = p.spent in
      let l0 = p.lighter in
      let P : MarkerView → Type 0 = λ n. HasGrayedBy rows edge h new n now in
      subst P (sym e) (record {
        marked = p.marked;
        settled = λ z s. elim s [
          | inl waits ↦ elim waits [
            | inl i ↦ elim (in_append rest.stack i) [
              | inl early ↦ p.settled z (inl (inl early))
              | inr last ↦ elim (in_cons last) [
                | inl same ↦
                    let Q : ℕ → Type 0 = λ b. IsFollowedBy rows edge new now.oldest b in
                    let R : ℕ → Type 0 = λ g. IsFollowedBy rows edge new g x in
                    inr (subst Q (sym same) (subst R (sym p.oldest)
                    (λ y n. all y (stable.back h new heap held p.marked.remarked rest.oldest x y n))))
                | inr none ↦ elim none [ ]
              ]
            ]
            | inr within ↦ p.settled z (inl (inr within))
          ]
          | inr done ↦ p.settled z (inr done)
        ];
        fresh = p.fresh;
        stacked = λ z i. elim (p.stacked z i) [ inl before ↦ inl (append_left (x ∷ []) before) | inr s ↦ inr s ];
        lowest = p.lowest;
        spent = omega (arith, s0, long);
        lighter = l0;
        capacity = p.capacity;
        oldest = p.oldest;
      })

  -- an object more was popped and followed
  pub grayed_by_next : (h now new : HeapView) (m n rest after : MarkerView) (x : ℕ) → IsClosed rows h
      → HasGrayedBy rows edge h now m n → n ≡ record rest { stack = rest.stack ++ x ∷ [] }
      → HasGrayedBy rows edge now new rest after
      → ((y : ℕ) → edge now rest.oldest x y → Marked rows new y) → HasGrayedBy rows edge h new m after
  grayed_by_next h now new m n rest after x w p e q all =
      let closed = keeps_closed rows h now w.heap w.held p.marked.remarked w.named in
      grayed_by-trans h now new m n after w.heap w.held p
      (grayed_by_popped now new n rest after x closed.heap closed.held e q all)

  -- the law after a part of a marking
  pub gray_by_on : (h new : HeapView) (m now : MarkerView) → IsGrayBy rows edge h m
      → HasGrayedBy rows edge h new m now → IsGrayBy rows edge new now
  gray_by_on h new m now g p = record {
    closed = keeps_closed rows h new g.closed.heap g.closed.held p.marked.remarked g.closed.named;
    stacked = known_on rows h new m now p.marked.kept g.stacked p.stacked p.lowest;
    settled = λ x s. elim (p.fresh x s) [ inl was ↦ p.settled x (g.settled x was) | inr done ↦ done ];
  }

  -- the law after a round: the last range was taken, and its objects were followed
  pub gray_by_round : (h new : HeapView) (m rest now : MarkerView) (r : ℕ × ℕ) → m.stack ≡ []
      → m ≡ record rest { ranges = rest.ranges ++ r ∷ [] } → IsGrayBy rows edge h m
      → HasGrayedBy rows edge h new rest now
      → ((x : ℕ) → IsRescannedBy rows edge h new rest.oldest r.0 r.1 x) → IsGrayBy rows edge new now
  gray_by_round h new m rest now r e f g p all =
      let heap = g.closed.heap in
      let held = g.closed.held in
      let before : m.ranges ≡ rest.ranges ++ r ∷ [] = ap (λ (n : MarkerView). n.ranges) f in
      let same : m.oldest ≡ rest.oldest = ap (λ (n : MarkerView). n.oldest) f in
      record {
        closed = keeps_closed rows h new heap held p.marked.remarked g.closed.named;
        stacked = known_on rows h new m now p.marked.kept g.stacked
            (λ x i. elim (p.stacked x i) [
              | inl was ↦
                  let P : List ℕ → Type 0 = λ xs. IsIn x xs in
                  inl (subst P (sym (ap (λ (n : MarkerView). n.stack) f)) was)
              | inr there ↦ inr there
            ])
            (λ x i. elim (p.lowest x i) [
              | inl was ↦
                  let P : List (ℕ × ℕ) → Type 0 = λ rs. IsIn x (lowest_of rs) in
                  inl (subst P (sym before) (front-low rest.ranges r x was))
              | inr there ↦ inr there
            ]);
        settled = λ x s. elim (p.fresh x s) [
          | inl was ↦ elim (g.settled x was) [
            | inl waits ↦ elim waits [
              | inl i ↦ let P : List ℕ → Type 0 = λ xs. IsIn x xs in elim (subst P e i) [ ]
              | inr within ↦
                  let Q : List (ℕ × ℕ) → Type 0 = λ rs. IsWithin rs x in
                  elim (within-last rest.ranges r x (subst Q before within)) [
                    | inl other ↦ p.settled x (inl (inr other))
                    | inr inside ↦
                        let R : ℕ → Type 0 = λ b. IsFollowedBy rows edge new b x in
                        inr (subst R (sym p.oldest) (λ y n. all x was inside.0 inside.1 y
                        (stable.back h new heap held p.marked.remarked rest.oldest x y n)))
                  ]
            ]
            | inr done ↦
                let R : ℕ → Type 0 = λ b. IsFollowedBy rows edge h b x in
                p.settled x (inr (subst R same done))
          ]
          | inr done ↦ done
        ];
      }

  -- exactly what is reached is marked then
  pub all_by_marked : (h new : HeapView) (m : MarkerView) (g : ℕ) → IsHeap h → IsHeld rows h
      → HasReached rows (edge h g) (Marked rows h) h new → IsGrayBy rows edge new m → IsIdle m → m.oldest ≡ g
      → (x : ℕ) → Reach (edge h g) (Marked rows h) x → Marked rows new x
  all_by_marked h new m g heap held p gray idle same x reached =
      reach_in (edge h g) (Marked rows h) (Marked rows new) x p.kept (λ y z s n.
      let P : ℕ → Type 0 = λ b. edge new b y z in
      settled_by_marked rows edge new m y z gray idle s
      (subst P (sym same) (stable.on h new heap held p.remarked g y z n)))
      reached

  -- Where slots were followed, and all that is newly marked waits, it also is a part of a marking over more edges.
  pub grayed_by_waiting : (h new : HeapView) (m now : MarkerView) → IsHeap h → IsHeld rows h
      → ((x y : ℕ) → LeadsTo rows h m.oldest x y → edge h m.oldest x y) → HasGrayed rows h new m now
      → LeavesWaiting rows h new m now → HasGrayedBy rows edge h new m now
  grayed_by_waiting h new m now heap held more p w = record {
    marked = record {
      remarked = p.marked.remarked;
      kept = p.marked.kept;
      reached = λ x s. reach_on (edge h m.oldest) (LeadsTo rows h m.oldest) (Marked rows h) (Marked rows h) x more
          (λ y t. t) (p.marked.reached x s);
    };
    settled = λ x s. elim s [
      | inl waits ↦ inl (w.kept x waits)
      | inr all ↦
          let P : ℕ → Type 0 = λ g. IsFollowedBy rows edge new g x in
          inr (subst P (sym p.oldest) (followed_by h new heap held p.marked.remarked p.marked.kept m.oldest x all))
    ];
    fresh = λ x s. elim (w.fresh x s) [ inl was ↦ inl was | inr waits ↦ inr (inl waits) ];
    stacked = p.stacked;
    lowest = p.lowest;
    spent = p.spent;
    lighter = p.lighter;
    capacity = p.capacity;
    oldest = p.oldest;
  }

-- ---- edges that come to the same

module _ (rows : List TypeRow) (edge near : HeapView → ℕ → ℕ → ℕ → Type 0)
    (same : (h : HeapView) (g x y : ℕ) → near h g x y ↔ edge h g x y) where
  settled_there : (h : HeapView) (m : MarkerView) (x : ℕ) → IsSettledBy rows near h m x → IsSettledBy rows edge h m x
  settled_there h m x s = elim s [
    | inl waits ↦ inl waits
    | inr all ↦ inr (λ y e. all y ((same h m.oldest x y).1 e))
  ]

  settled_here : (h : HeapView) (m : MarkerView) (x : ℕ) → IsSettledBy rows edge h m x → IsSettledBy rows near h m x
  settled_here h m x s = elim s [
    | inl waits ↦ inl waits
    | inr all ↦ inr (λ y e. all y ((same h m.oldest x y).0 e))
  ]

  pub gray_by_same : (h : HeapView) (m : MarkerView) → IsGrayBy rows near h m → IsGrayBy rows edge h m
  gray_by_same h m g = record {
    closed = g.closed;
    stacked = g.stacked;
    settled = λ x s. settled_there h m x (g.settled x s);
  }

  pub grayed_by_same : (h new : HeapView) (m now : MarkerView) → HasGrayedBy rows near h new m now
      → HasGrayedBy rows edge h new m now
  grayed_by_same h new m now p = record {
    marked = record {
      remarked = p.marked.remarked;
      kept = p.marked.kept;
      reached = λ x s. reach_on (edge h m.oldest) (near h m.oldest) (Marked rows h) (Marked rows h) x
          (λ y z. (same h m.oldest y z).0) (λ y t. t) (p.marked.reached x s);
    };
    settled = λ x s. settled_there new now x (p.settled x (settled_here h m x s));
    fresh = λ x s. elim (p.fresh x s) [ inl was ↦ inl was | inr done ↦ inr (settled_there new now x done) ];
    stacked = p.stacked;
    lowest = p.lowest;
    spent = p.spent;
    lighter = p.lighter;
    capacity = p.capacity;
    oldest = p.oldest;
  }
