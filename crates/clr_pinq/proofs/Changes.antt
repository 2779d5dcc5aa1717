-- A saved word written, and an entry added.
use Rattle.std.proofs.Common.{◌≡◌, ◌≢◌, ◌⊎◌, inl, inr, ℕ, zero, suc, ◌+◌, ◌%◌, ◌<◌, ◌≤◌, List, [], ◌∷◌, ◌++◌, length}
use Rattle.std.proofs.Common.{get_or, set, refl, ap, sym, ◌∙◌, subst, arith, true, false, Option, Some, None, eqb}
use Rattle.std.proofs.Common.{if◌then◌else◌}
use Rattle.std.specs.Prelude.{IsSome, is_some}
use Rattle.std.proofs.lemmas.Bool.{cases_Bool, eq-eqb, eqb-true}
use Rattle.clr_heap.specs.Memories.{HasWord}
use Rattle.clr_heap.specs.View.{HeapView, stored, word_of}
use Rattle.clr_heap.proofs.Storing.{word_in-store_in_other, word_in-store_in_same}
use Rattle.clr_pinq.specs.Bounds.{IsPlaceOf, IsQueue}
use Rattle.clr_pinq.specs.Queue.{AllLie, AreInOrder, AreRising, ComesAfter, entry_with, entry_word, first_of_two}
use Rattle.clr_pinq.specs.Queue.{last_end, logical, option_with, option_word, or_else, queue_with, queue_word}
use Rattle.clr_pinq.specs.Queue.{saved_with, saved_word}
use Rattle.clr_pinq.specs.declared.entry.PinEntry.{PinEntry}
use Rattle.clr_pinq.specs.declared.entry.Saved.{Saved}
use Rattle.clr_pinq.proofs.Lookups.{entry_low, queue_high}

-- a word that is there replaced
abbrev pub replaced : Option ℕ → ℕ → Option ℕ
replaced None v = None
replaced (Some w) v = Some v

-- ---- one address

-- writing moves no saved word
pub at_with : (s : Saved) (a v : ℕ) → (saved_with s a v).at ≡ s.at
at_with s a v = elim (cases_Bool (eqb a s.at)) [
  | inl e ↦ rw e refl
  | inr n ↦ rw n (elim (cases_Bool (eqb a (s.at + 8))) [
    | inl e ↦ rw e refl
    | inr m ↦ rw m (elim (cases_Bool (eqb a (s.at + 16))) [ inl e ↦ rw e refl | inr k ↦ rw k refl ])
  ])
]

pub saved_same : (s : Saved) (a v : ℕ) → saved_word (saved_with s a v) a ≡ replaced (saved_word s a) v
saved_same s a v = elim (cases_Bool (eqb a s.at)) [
  | inl e ↦ rw e (rw e refl)
  | inr n ↦ elim (cases_Bool (eqb a (s.at + 8))) [
    | inl e ↦ rw (n, e) (rw (n, e) refl)
    | inr m ↦ elim (cases_Bool (eqb a (s.at + 16)))
        [ inl e ↦ rw (n, m, e) (rw (n, m, e) refl) | inr k ↦ rw (n, m, k) (rw (n, m, k) refl) ]
  ]
]

pub saved_other : (s : Saved) (a v b : ℕ) → b ≢ a → saved_word (saved_with s a v) b ≡ saved_word s b
saved_other s a v b ne = grind arith

option_same : (o : Option Saved) (a v : ℕ) → option_word (option_with o a v) a ≡ replaced (option_word o a) v
option_same None a v = refl
option_same (Some s) a v = saved_same s a v

option_other : (o : Option Saved) (a v b : ℕ) → b ≢ a → option_word (option_with o a v) b ≡ option_word o b
option_other None a v b ne = refl
option_other (Some s) a v b ne = saved_other s a v b ne

replaced_first : (o other : Option ℕ) (v : ℕ)
    → first_of_two (replaced o v) (replaced other v) ≡ replaced (first_of_two o other) v
replaced_first None other v = refl
replaced_first (Some w) other v = refl

pub queue_same : (es : List PinEntry) (a v : ℕ) → queue_word (queue_with es a v) a ≡ replaced (queue_word es a) v
queue_same [] a v = refl
queue_same (e ∷ es) a v =
    rw (
      option_same e.pre a v,
      option_same e.post a v,
      queue_same es a v,
      replaced_first (option_word e.pre a) (option_word e.post a) v,
    )
    (replaced_first (entry_word e a) (queue_word es a) v)

pub queue_other : (es : List PinEntry) (a v b : ℕ) → b ≢ a → queue_word (queue_with es a v) b ≡ queue_word es b
queue_other [] a v b ne = refl
queue_other (e ∷ es) a v b ne =
    rw (option_other e.pre a v b ne, option_other e.post a v b ne, queue_other es a v b ne) refl

-- ---- what isn't saved isn't written

saved_stays : (s : Saved) (a v : ℕ) → saved_word s a ≡ None → saved_with s a v ≡ s
saved_stays s a v none = elim (cases_Bool (eqb a s.at)) [
  | inl e ↦ absurd (let bad : Some s.w0 ≡ None = rw e at none in cc)
  | inr n ↦ elim (cases_Bool (eqb a (s.at + 8))) [
    | inl e ↦ absurd (let bad : Some s.w1 ≡ None = rw (n, e) at none in cc)
    | inr m ↦ elim (cases_Bool (eqb a (s.at + 16)))
        [ inl e ↦ absurd (let bad : Some s.w2 ≡ None = rw (n, m, e) at none in cc) | inr k ↦ rw (n, m, k) refl ]
  ]
]

option_stays : (o : Option Saved) (a v : ℕ) → option_word o a ≡ None → option_with o a v ≡ o
option_stays None a v none = refl
option_stays (Some s) a v none = ap Some (saved_stays s a v none)

both_none : (o other : Option ℕ) → first_of_two o other ≡ None → (o ≡ None) × (other ≡ None)
both_none None other e = (refl, e)
both_none (Some w) other e = absurd (cc)

pub entry_stays : (e : PinEntry) (a v : ℕ) → entry_word e a ≡ None → entry_with e a v ≡ e
entry_stays e a v none =
    let b = both_none (option_word e.pre a) (option_word e.post a) none in
    let pre = option_stays e.pre a v b.0 in
    let post = option_stays e.post a v b.1 in
    λ i. record { start = e.start; end = e.end; pre = pre i; post = post i }

pub queue_stays : (es : List PinEntry) (a v : ℕ) → queue_word es a ≡ None → queue_with es a v ≡ es
queue_stays [] a v none = refl
queue_stays (e ∷ es) a v none =
    let b = both_none (entry_word e a) (queue_word es a) none in
    let here = entry_stays e a v b.0 in
    let rest = queue_stays es a v b.1 in
    λ i. here i ∷ rest i

-- only the entry at the address's place is written
pub queue_set : (low : ℕ) (es : List PinEntry) (i a v : ℕ) (d : PinEntry) → AreRising low es
    → ((j : ℕ) → j < i → (get_or es j d).end ≤ a + 8) → i < length es → a + 8 < (get_or es i d).end
    → set es i (entry_with (get_or es i d) a v) ≡ queue_with es a v
queue_set low [] i a v d r below less up = absurd (omega (arith, less))
queue_set low (e ∷ es) zero a v d r below less up =
    ap (λ (fs : List PinEntry). entry_with e a v ∷ fs) (sym (queue_stays es a v (queue_high e.end es a r.1 up)))
queue_set low (e ∷ es) (suc i) a v d r below less up =
    let here = sym (entry_stays e a v (entry_low low e a r.0 (below 0 (omega arith)))) in
    let rest = queue_set e.end es i a v d r.1 (λ j h. below (suc j) (omega (arith, h))) (omega (arith, less)) up in
    λ k. here k ∷ rest k

-- ---- the order stays

lies_with : (low high : ℕ) (o : Option Saved) (a v : ℕ) → AllLie low high o → AllLie low high (option_with o a v)
lies_with low high None a v l = tt
lies_with low high (Some s) a v l =
    let at = at_with s a v in
    let z = l.aligned in
    let up = l.above in
    let down = l.below in
    let fits = l.fits in
    record {
      aligned = rw at z;
      above = omega (arith, at, up);
      below = omega (arith, at, down);
      fits = omega (arith, at, fits);
    }

order_with : (o other : Option Saved) (a v : ℕ) → AreInOrder o other
    → AreInOrder (option_with o a v) (option_with other a v)
order_with None None a v h = tt
order_with None (Some t) a v h = tt
order_with (Some s) None a v h = tt
order_with (Some s) (Some t) a v h = let p = at_with s a v in let q = at_with t a v in omega (arith, p, q, h)

pub rising_with : (low : ℕ) (es : List PinEntry) (a v : ℕ) → AreRising low es → AreRising low (queue_with es a v)
rising_with low [] a v r = tt
rising_with low (e ∷ es) a v r = (
  record {
    rises = r.0.rises;
    pre = lies_with low e.end e.pre a v r.0.pre;
    post = lies_with low e.end e.post a v r.0.post;
    order = order_with e.pre e.post a v r.0.order;
  },
  rising_with e.end es a v r.1,
)

replaced_some : (o : Option ℕ) (v : ℕ) → IsSome (replaced o v) → IsSome o
replaced_some None v h = h
replaced_some (Some w) v h = refl

pub is_queue_with : (es : List PinEntry) (low high a v : ℕ) → IsQueue es low high → IsQueue (queue_with es a v) low high
is_queue_with es low high a v q = record {
  rising = rising_with 0 es a v q.rising;
  bounds = λ b some. elim (cases_Bool (eqb b a)) [
    | inl e ↦
        let same = eqb-true b a e in
        let P : ℕ → Type 0 = λ c. IsSome (queue_word (queue_with es a v) c) in
        let Q : ℕ → Type 0 = λ c. (low ≤ c) × (c < high) in
        subst Q (sym same) (q.bounds a (replaced_some (queue_word es a) v (rw queue_same at (subst P same some))))
    | inr n ↦
        let ne : b ≢ a = λ s. (let on = eq-eqb b a s in let bad : true ≡ false = sym on ∙ n in cc) in
        q.bounds b (let R : Option ℕ → Type 0 = λ o. IsSome o in subst R (queue_other es a v b ne) some)
  ];
}

-- ---- the logical words after a write

-- a saved word is written, and the heap stays
pub written_saved : (es : List PinEntry) (word : ℕ → ℕ) (a v b w : ℕ) → queue_word es a ≡ Some w
    → logical (queue_with es a v) word b ≡ (if eqb b a then v else logical es word b)
written_saved es word a v b w some = elim (cases_Bool (eqb b a)) [
  | inl e ↦
      let same = eqb-true b a e in
      let here : logical (queue_with es a v) word a ≡ v =
      ap (λ (o : Option ℕ). or_else o (word a)) (queue_same es a v ∙ ap (λ (o : Option ℕ). replaced o v) some) in
      let P : ℕ → Type 0 = λ c. logical (queue_with es a v) word c ≡ v in
      rw e (subst P (sym same) here)
  | inr n ↦
      let ne : b ≢ a = λ s. (let on = eq-eqb b a s in let bad : true ≡ false = sym on ∙ n in cc) in
      rw n (ap (λ (o : Option ℕ). or_else o (word b)) (queue_other es a v b ne))
]

-- a word of the heap is written, and nothing saved
pub written_heap : (es : List PinEntry) (h : HeapView) (a v b : ℕ) → queue_word es a ≡ None → HasWord h.memories a
    → b % 8 ≡ 0 → logical (queue_with es a v) (word_of (stored h a v)) b
    ≡ (if eqb b a then v else logical es (word_of h) b)
written_heap es h a v b none has z = elim (cases_Bool (eqb b a)) [
  | inl e ↦
      let same = eqb-true b a e in
      let here : logical (queue_with es a v) (word_of (stored h a v)) a ≡ v =
      ap (λ (o : Option ℕ). or_else o (word_of (stored h a v) a))
      (queue_same es a v ∙ ap (λ (o : Option ℕ). replaced o v) none)
      ∙ word_in-store_in_same h.memories a v has.inside in
      let P : ℕ → Type 0 = λ c. logical (queue_with es a v) (word_of (stored h a v)) c ≡ v in
      rw e (subst P (sym same) here)
  | inr n ↦
      let ne : b ≢ a = λ s. (let on = eq-eqb b a s in let bad : true ≡ false = sym on ∙ n in cc) in
      rw n (ap (λ (o : Option ℕ). or_else o (word_of (stored h a v) b)) (queue_other es a v b ne)
      ∙ ap (λ (w : ℕ). or_else (queue_word es b) w) (word_in-store_in_other h.memories a v b has.aligned z ne))
]

-- ---- an entry more

pub rising_push : (low : ℕ) (es : List PinEntry) (e : PinEntry) → AreRising low es → ComesAfter (last_end low es) e
    → AreRising low (es ++ e ∷ [])
rising_push low [] e r c = (c, tt)
rising_push low (f ∷ fs) e r c = (r.0, rising_push f.end fs e r.1 c)

pub queue_push : (es : List PinEntry) (e : PinEntry) (a : ℕ)
    → queue_word (es ++ e ∷ []) a ≡ first_of_two (queue_word es a) (entry_word e a)
queue_push [] e a = first_none (entry_word e a)
  where
    first_none : (o : Option ℕ) → first_of_two o None ≡ o
    first_none None = refl
    first_none (Some w) = refl
queue_push (f ∷ fs) e a =
    ap (first_of_two (entry_word f a)) (queue_push fs e a) ∙ regroup (entry_word f a) (queue_word fs a) (entry_word e a)
  where
    regroup : (x y z : Option ℕ) → first_of_two x (first_of_two y z) ≡ first_of_two (first_of_two x y) z
    regroup None y z = refl
    regroup (Some w) y z = refl

one_of : (o other : Option ℕ) → IsSome (first_of_two o other) → IsSome o ⊎ IsSome other
one_of None other s = inr s
one_of (Some w) other s = inl refl

pub is_queue_push : (es : List PinEntry) (low high : ℕ) (e : PinEntry) (low1 high1 low2 high2 : ℕ) → IsQueue es low high
    → ComesAfter (last_end 0 es) e → low1 ≤ low → high ≤ high1
    → ((a : ℕ) → IsSome (option_word e.pre a) → (low1 ≤ a) × (a < high1))
    → low2 ≤ low1 → high1 ≤ high2 → ((a : ℕ) → IsSome (option_word e.post a) → (low2 ≤ a) × (a < high2))
    → IsQueue (es ++ e ∷ []) low2 high2
is_queue_push es low high e low1 high1 low2 high2 q c l1 h1 pre l2 h2 post = record {
  rising = rising_push 0 es e q.rising c;
  bounds = λ a some.
      elim (one_of (queue_word es a) (entry_word e a)
      (let R : Option ℕ → Type 0 = λ o. IsSome o in subst R (queue_push es e a) some)) [
        | inl old ↦ let b = q.bounds a old in let b0 = b.0 in let b1 = b.1 in
            (omega (arith, b0, l1, l2), omega (arith, b1, h1, h2))
        | inr new ↦ elim (one_of (option_word e.pre a) (option_word e.post a) new) [
          | inl p ↦ let b = pre a p in let b0 = b.0 in let b1 = b.1 in (omega (arith, b0, l2), omega (arith, b1, h2))
          | inr p ↦ post a p
        ]
      ];
}

-- the addresses of what an entry saves fit
pub places_fit : (low : ℕ) (e : PinEntry) → ComesAfter low e → IsPlaceOf e.pre × IsPlaceOf e.post
places_fit low e c = (place_fits low e.end e.pre c.pre, place_fits low e.end e.post c.post)
  where
    place_fits : (l h : ℕ) (o : Option Saved) → AllLie l h o → IsPlaceOf o
    place_fits l h None a = tt
    place_fits l h (Some s) a = a.fits

-- ---- outside the bounds nothing is saved

pub none_is : (o : Option ℕ) → is_some o ≡ false → o ≡ None
none_is None e = refl
none_is (Some w) e = absurd (cc)

pub some_is : (o : Option ℕ) → is_some o ≡ true → (w : ℕ) × (o ≡ Some w)
some_is None e = absurd (cc)
some_is (Some w) e = (w, refl)

pub none_outside : (es : List PinEntry) (low high a : ℕ) → IsQueue es low high → (a < low) ⊎ (high ≤ a)
    → queue_word es a ≡ None
none_outside es low high a q out = elim (cases_Bool (is_some (queue_word es a))) [
  | inl some ↦ let b = q.bounds a some in let b0 = b.0 in let b1 = b.1 in
      absurd (elim out [ inl l ↦ omega (arith, b0, l) | inr l ↦ omega (arith, b1, l) ])
  | inr none ↦ none_is (queue_word es a) none
]
