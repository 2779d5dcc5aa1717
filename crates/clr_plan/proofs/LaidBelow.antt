-- What is laid so far, with one segment more.
use Rattle.std.proofs.lemmas.List.{append-nil}
use Rattle.std.proofs.Common.{◌≡◌, ◌⊎◌, inl, inr, ℕ, zero, suc, ◌+◌, ◌*◌, ◌/◌, ◌%◌, ◌<◌, ◌≤◌, List, []}
use Rattle.std.proofs.Common.{◌++◌, length, map, refl, sym, ap, ap₂, subst, ◌∙◌, arith, Bool, true, false}
use Rattle.std.proofs.Common.{if◌then◌else◌, ◌==◌, None}
use Rattle.std.specs.Prelude.{IsSome}
use Rattle.std.proofs.lemmas.Bool.{both_ways, cases_lt, eq-eqb, ne_eqb}
use Rattle.std.proofs.lemmas.List.{map-append}
use Rattle.clr_covers.specs.Covers.{spans}
use Rattle.clr_bricks.specs.Bricks.{entry_at}
use Rattle.clr_heap.specs.View.{first_of, HeapView, IsHeap, last_of, SameShape, segment_at, word_of}
use Rattle.clr_heap.proofs.Framing.{lawful_at}
use Rattle.clr_heap.proofs.Rewrite.{SameShape-refl}
use Rattle.clr_heap.proofs.Staying.{segment_order}
use Rattle.clr_model.specs.Compaction.{Move, Plug}
use Rattle.clr_pinq.specs.Queue.{last_end, logical, queue_word, QueueView}
use Rattle.clr_pinq.specs.declared.entry.PinEntry.{PinEntry}
use Rattle.clr_plugs.specs.BrickEntries.{BricksView}
use Rattle.clr_plugs.specs.Plans.{IsPlanned}
use Rattle.clr_moves.specs.Moves.{part_of, takes}
use Rattle.clr_moves.specs.declared.condemned.Condemned.{Condemned}
use Rattle.clr_plan.specs.PartLists.{AreFor, AreLaid, moves_in, opened_in, plan_in, plugs_in}
use Rattle.clr_plan.specs.LaidParts.{opened_by}
use Rattle.clr_plan.specs.States.{state}
use Rattle.clr_plan.specs.Writes.{AreSavedAt, HasWritten}
use Rattle.clr_plan.proofs.Covering.{covers-same}
use Rattle.clr_plan.proofs.KeptPlans.{plan-stays}

-- ---- nothing yet

nothing-written : (h : HeapView) (entries : List PinEntry) → entries ≡ [] → HasWritten h h entries [] [] 0
nothing-written h entries none = record {
  shape = SameShape-refl h;
  told = λ x i. elim i [ ];
  kept = λ b z out. ap (λ es. logical es (word_of h) b) none;
  others = λ b z out. refl;
  ahead = λ b z l. refl;
  end = inl (ap (last_end 0) none);
  last = inl none;
}

nothing-saved : (entries : List PinEntry) → entries ≡ [] → AreSavedAt entries []
nothing-saved entries none b h = absurd (never (subst (λ es. IsSome (queue_word es b)) none h))
  where
    never : IsSome {T = ℕ} None → ⊥
    never s = cc

module _ (old : HeapView) (bricks : BricksView) (queue : QueueView) (g : Condemned) (plugs : ℕ → List Plug) (k : ℕ)
    (empty : queue.entries ≡ []) (off : (t : ℕ) → t < k → takes g (segment_at old t) ≡ false) where
  pub no-plugs : (j : ℕ) → j ≤ k → plugs_in old g plugs j ≡ []
  no-plugs zero l = refl
  no-plugs (suc j) l = ap₂ (λ xs ys. xs ++ ys) (no-plugs j (omega arith))
      (ap (λ (b : Bool). if b then plugs j else []) (off j (omega arith)))

  no-moves : (j : ℕ) → j ≤ k → moves_in old g (λ t. []) j ≡ []
  no-moves zero l = refl
  no-moves (suc j) l = ap₂ (λ (xs ys : List Move). xs ++ ys) (no-moves j (omega arith))
      (go (takes g (segment_at old j)))
    where
      none : List Move
      none = []

      go : (b : Bool) → (if b then none else none) ≡ none
      go true = refl
      go false = refl

  no-opened : (j : ℕ) → j ≤ k → opened_in old g plugs j ≡ []
  no-opened zero l = refl
  no-opened (suc j) l = ap (λ (b : Bool). if b then opened_by (opened_in old g plugs j) (first_of old j)
      (part_of old g j) (plugs j) else opened_in old g plugs j)
      (off j (omega arith))
      ∙ no-opened j (omega arith)

  pub nothing-laid : AreLaid (state old bricks queue) (state old bricks queue) g plugs k []
  nothing-laid = record {
    each = λ t. [];
    moves_are = sym (no-moves k (omega arith));
    fit = λ t l on. absurd (both_ways (takes g (segment_at old t)) (off t l) on);
    plans = λ t l on. absurd (both_ways (takes g (segment_at old t)) (off t l) on);
    low = 0;
    words = subst (λ (ps : List Plug). HasWritten old old queue.entries (map (λ q. q.start) ps)
        (opened_in old g plugs k) 0) (sym (no-plugs k (omega arith)))
        (subst (λ xs. HasWritten old old queue.entries [] xs 0) (sym (no-opened k (omega arith)))
        (nothing-written old queue.entries empty));
    behind = λ t l i. omega arith;
    saved = subst (AreSavedAt queue.entries) (sym (no-plugs k (omega arith))) (nothing-saved queue.entries empty);
    count = omega arith;
    entries = λ i out. refl;
    spans_are = refl;
  }

-- ---- one segment more

moves-same : (old : HeapView) (g : Condemned) (each other : ℕ → List Move) (k : ℕ)
    → ((t : ℕ) → t < k → other t ≡ each t) → moves_in old g other k ≡ moves_in old g each k
moves-same old g each other zero same = refl
moves-same old g each other (suc k) same =
    ap₂ (λ xs ys. xs ++ (if takes g (segment_at old k) then ys else []))
    (moves-same old g each other k (λ t l. same t (omega arith))) (same k (omega arith))

module _ (old now : HeapView) (bricks0 bricks : BricksView) (queue0 queue : QueueView) (g : Condemned)
    (plugs : ℕ → List Plug) (k : ℕ) (vs : List Move)
    (s : AreLaid (state old bricks0 queue0) (state now bricks queue) g plugs k vs) where
  -- a segment without a part
  pub laid-over : takes g (segment_at old k) ≡ false
      → AreLaid (state old bricks0 queue0) (state now bricks queue) g plugs (suc k) vs
  laid-over off =
      let all : plugs_in old g plugs (suc k) ≡ plugs_in old g plugs k =
      ap (λ (b : Bool). plugs_in old g plugs k ++ (if b then plugs k else [])) off
      ∙ append-nil (plugs_in old g plugs k) in
      let opened : opened_in old g plugs (suc k) ≡ opened_in old g plugs k =
      ap (λ (b : Bool). if b then opened_by (opened_in old g plugs k) (first_of old k)
      (part_of old g k)
      (plugs k) else opened_in old g plugs k) off in
      record {
        each = s.each;
        moves_are = s.moves_are ∙ sym (ap (λ (b : Bool). moves_in old g s.each k ++ (if b then s.each k else [])) off
            ∙ append-nil (moves_in old g s.each k));
        fit = λ t l on. elim (cases_lt t k) [ inl u ↦ s.fit t u on | inr u ↦ absurd (not-here t l u on) ];
        plans = λ t l on. elim (cases_lt t k) [ inl u ↦ s.plans t u on | inr u ↦ absurd (not-here t l u on) ];
        low = s.low;
        words = subst (λ (ps : List Plug). HasWritten old now queue.entries (map (λ q. q.start) ps)
            (opened_in old g plugs (suc k)) s.low) (sym all)
            (subst (λ xs. HasWritten old now queue.entries (map (λ q. q.start) (plugs_in old g plugs k)) xs s.low)
            (sym opened) s.words);
        behind = λ t l i. s.behind t (omega arith) i;
        saved = subst (AreSavedAt queue.entries) (sym all) s.saved;
        count = s.count;
        entries = λ i out. s.entries i (λ t l on. out t (omega arith) on);
        spans_are = s.spans_are;
      }
    where
      not-here : (t : ℕ) → t < suc k → k ≤ t → takes g (segment_at old t) ≡ true → ⊥
      not-here t l u on =
          both_ways (takes g (segment_at old t))
          (subst (λ j. takes g (segment_at old j) ≡ false)
          (let same : k ≡ t = omega arith in same) off) on

  -- a segment whose part was laid
  module _ (heap : IsHeap old) (inside : k < length old.segments) (on : takes g (segment_at old k) ≡ true)
      (now2 : HeapView) (bricks2 : BricksView) (queue2 : QueueView) (m : List Move) (ending : ℕ)
      (fit : AreFor (plugs k) m)
      (plan : IsPlanned now2 bricks2 (plan_in old g plugs k m))
      (words : HasWritten old now2 queue2.entries (map (λ q. q.start) (plugs_in old g plugs k)
      ++ map (λ q. q.start) (plugs k)) (opened_by (opened_in old g plugs k) (first_of old k)
      (part_of old g k) (plugs k)) ending)
      (within : ending ≤ last_of old k)
      (low : first_of old k ≤ part_of old g k)
      (lows : (t : ℕ) → t < k → takes g (segment_at old t) ≡ true
      → part_of old g t ≤ last_of old t)
      (saved : AreSavedAt queue2.entries (plugs_in old g plugs k ++ plugs k))
      (count : queue.spare + length queue.entries ≡ queue2.spare + length queue2.entries)
      (outside : (b : ℕ) → b % 8 ≡ 0 → b + 32 < first_of old k → word_of now2 b ≡ word_of now b)
      (entries : (i : ℕ) → (i + 1 < part_of old g k / 4096) ⊎ (last_of old k ≤ i * 4096)
      → entry_at bricks2 i
      ≡ entry_at bricks i)
      (shape : SameShape now now2) (spans_are : spans bricks2 ≡ spans bricks)
    where
      abbrev each2 : ℕ → List Move
      each2 t = if t == k then m else s.each t

      each-lower : (t : ℕ) → t < k → each2 t ≡ s.each t
      each-lower t l = ap (λ (b : Bool). if b then m else s.each t) (ne_eqb t k (λ e. absurd (omega (arith, e, l))))

      each-here : each2 k ≡ m
      each-here = ap (λ (b : Bool). if b then m else s.each k) (eq-eqb k k refl)

      stays : (t : ℕ) → t < k → takes g (segment_at old t) ≡ true
          → IsPlanned now2 bricks2 (plan_in old g plugs t (s.each t))
      stays t l taken =
          let o = segment_order old t k heap l inside in
          let high = (lawful_at old t heap (omega (arith, l, inside))).high in
          let round = (lawful_at old k heap inside).base in
          let p = lows t l taken in
          plan-stays now now2 bricks bricks2 (plan_in old g plugs t (s.each t)) (first_of old k)
          (omega (arith, round)) (omega (arith, o, high)) shape outside
          (λ i u. entries i (inl (omega (arith, u, low)))) (covers-same bricks bricks2 spans_are) (s.plans t l taken)

      pub laid-more : AreLaid (state old bricks0 queue0) (state now2 bricks2 queue2) g plugs (suc k) (vs ++ m)
      laid-more =
          let all : plugs_in old g plugs (suc k) ≡ plugs_in old g plugs k ++ plugs k =
          ap (λ (b : Bool). plugs_in old g plugs k ++ (if b then plugs k else [])) on in
          let opened : opened_in old g plugs (suc k) ≡ opened_by (opened_in old g plugs k) (first_of old k)
          (part_of old g k) (plugs k) =
          ap (λ (b : Bool). if b then opened_by (opened_in old g plugs k) (first_of old k)
          (part_of old g k)
          (plugs k) else opened_in old g plugs k) on in
          let starts : map (λ (q : Plug). q.start) (plugs_in old g plugs (suc k))
          ≡ map (λ q. q.start) (plugs_in old g plugs k) ++ map (λ q. q.start) (plugs k) =
          ap (map (λ (q : Plug). q.start)) all ∙ map-append (λ (q : Plug). q.start) (plugs_in old g plugs k)
          (plugs k) in
          let more = s.count in
          record {
            each = each2;
            moves_are = ap₂ (λ xs ys. xs ++ ys) (s.moves_are ∙ sym (moves-same old g s.each each2 k each-lower))
                (sym (ap (λ (b : Bool). if b then each2 k else []) on ∙ each-here));
            fit = λ t l taken. elim (cases_lt t k) [
              | inl u ↦ subst (AreFor (plugs t)) (sym (each-lower t u)) (s.fit t u taken)
              | inr u ↦ let same : k ≡ t = omega arith in subst (λ j. AreFor (plugs j) (each2 j)) same
                  (subst (AreFor (plugs k)) (sym each-here) fit)
            ];
            plans = λ t l taken. elim (cases_lt t k) [
              | inl u ↦ subst (λ ws. IsPlanned now2 bricks2 (plan_in old g plugs t ws)) (sym (each-lower t u))
                  (stays t u taken)
              | inr u ↦ let same : k ≡ t = omega arith in
                  subst (λ j. IsPlanned now2 bricks2 (plan_in old g plugs j (each2 j))) same
                  (subst (λ ws. IsPlanned now2 bricks2 (plan_in old g plugs k ws)) (sym each-here) plan)
            ];
            low = ending;
            words = subst (λ xs. HasWritten old now2 queue2.entries xs (opened_in old g plugs (suc k)) ending)
                (sym starts)
                (subst (λ xs. HasWritten old now2 queue2.entries (map (λ q. q.start) (plugs_in old g plugs k)
                ++ map (λ q. q.start) (plugs k)) xs ending) (sym opened) words);
            behind = λ t l i. (let o = segment_order old k t heap (omega arith) i in
                let high = (lawful_at old k heap inside).high in omega (arith, o, high, within));
            saved = subst (AreSavedAt queue2.entries) (sym all) saved;
            count = omega (arith, more, count);
            entries = λ i out. entries i (out k (omega arith) on)
                ∙ s.entries i (λ t l taken. out t (omega arith) taken);
            spans_are = spans_are ∙ s.spans_are;
          }
