-- The references of an object that are one run, of which those that are null are passed over.
use Rattle.std.proofs.Common.{◌≡◌, ◌≢◌, ℕ, zero, suc, ◌+◌, ◌-◌, ◌*◌, ◌<◌, ◌≤◌, ◌^◌, inl, inr, List, sym, ◌∙◌, subst}
use Rattle.std.proofs.Common.{arith, false, true, leb, ltb, refl}
use Rattle.std.proofs.lemmas.Bool.{and_from, both_ways, cases_eq, le-leb, lt-ltb}
use Rattle.clr_types.specs.Descriptors.{offsets_from}
use Rattle.clr_types.specs.Types.{TypeRow}
use Rattle.clr_types.specs.declared.descriptors.ReferenceRun.{ReferenceRun}
use Rattle.clr_heap.specs.Parts.{item_at}
use Rattle.clr_heap.specs.View.{HeapView, may_refer, word_of}
use Rattle.clr_view.specs.Marks.{Marked}
use Rattle.clr_view.proofs.Listed.{listed-low}
use Rattle.clr_view.proofs.ObjectItems.{stands-item}
use Rattle.clr_mark.specs.Marks.{is_condemned_place, IsClosed, IsRemarked}
use Rattle.clr_mark.specs.Markings.{HasMet, IsMet, references_at}
use Rattle.clr_mark.specs.Waiting.{MarkerView}
use Rattle.clr_mark.proofs.Following.{slot_met}
use Rattle.clr_mark.proofs.Held.{keeps_closed}
use Rattle.clr_mark.proofs.Meeting.{IsMeeting, meeting_next, met-refl}
use Rattle.clr_mark.proofs.RunReferences.{can_follow_run, run_more}

-- an address by the number of its word, counted from one on the way
pub word_number : (first from j : ℕ) → first + 8 * (from + j) ≡ first + 8 * from + 8 * j
word_number first from j = omega arith

-- a low word that is no reference is null
pub null_word : (v : ℕ) → may_refer v ≡ false → v < 2 ^ 64 - 1 → v ≡ 0
null_word v off low = elim (cases_eq v 0) [
  | inl null ↦ null
  | inr some ↦
      let there : may_refer v ≡ true =
      and_from (leb 1 v) (ltb v (2 ^ 64 - 1)) (le-leb 1 v (omega (arith, some))) (lt-ltb v (2 ^ 64 - 1) low) in
      absurd (both_ways (may_refer v) off there)
]

module _ (rows : List TypeRow) (h now : HeapView) (x : ℕ) (run : ReferenceRun) (g : IsClosed rows h)
    (o : Marked rows h x) (all : references_at rows h x ≡ offsets_from run.offset run.count) where
  -- a reference of the run that isn't null is named by a marked object
  pub run_met : (r : IsRemarked rows h now) → ((z : ℕ) → Marked rows h z → Marked rows now z) → (j : ℕ) → j < run.count
      → (y : ℕ) → y ≡ word_of now (x + run.offset + 8 * j) → y ≢ 0 → IsMet rows now y
  run_met r kept j l y is some =
      let can = can_follow_run rows h now x run j g o r all l in
      let P : ℕ → Type 0 = λ z. z ≢ 0 → IsMet rows now z in
      subst P (sym (is ∙ can.same)) (slot_met rows h x g o now r (run.offset + 8 * j) can.listed kept) some

  -- any is low
  pub run_low : (r : IsRemarked rows h now) → ((z : ℕ) → Marked rows h z → Marked rows now z) → (j : ℕ) → j < run.count
      → word_of now (x + run.offset + 8 * j) < 2 ^ 64 - 1
  run_low r kept j l =
      let y = word_of now (x + run.offset + 8 * j) in
      elim (cases_eq y 0) [
        | inl null ↦ omega (arith, null)
        | inr some ↦
            let t = run_met r kept j l y refl some in
            let closed = keeps_closed rows h now g.heap g.held r g.named in
            let at = stands-item rows now closed.heap closed.held y (closed.named t.by y t.named) in
            let low = listed-low rows now (item_at rows (word_of now) y) closed.heap closed.held at.listed in
            let place = at.at in
            omega (arith, low, place)
      ]

  -- one reference more is met
  pub meeting_run : (new : HeapView) (m n p : MarkerView) (i : ℕ) (targets more : List ℕ)
      → IsMeeting rows h now m n x (offsets_from run.offset i) targets → i < run.count → (y : ℕ)
      → y ≡ word_of now (x + run.offset + 8 * i) → HasMet rows now new n p targets more
      → (is_condemned_place now n.oldest y ≡ true → Marked rows new y)
      → IsMeeting rows h new m p x (offsets_from run.offset (i + 1)) more
  meeting_run new m n p i targets more s l y is met there =
      let can = can_follow_run rows h now x run i g o s.met.marked.remarked all l in
      let P : ℕ → Type 0 = λ z. is_condemned_place now n.oldest z ≡ true → Marked rows new z in
      let Q : List ℕ → Type 0 = λ done. IsMeeting rows h new m p x done more in
      subst Q (sym (run_more run.offset i))
      (meeting_next rows h now new m n p x (run.offset + 8 * i) (offsets_from run.offset i) targets more g o s
      can.listed met (λ _. subst P (is ∙ can.same) there))

  module _ (m n : MarkerView) (targets : List ℕ) where
    -- a reference that is null is met
    meeting_null : (i : ℕ) → i < run.count → word_of now (x + run.offset + 8 * i) ≡ 0
        → IsMeeting rows h now m n x (offsets_from run.offset i) targets
        → IsMeeting rows h now m n x (offsets_from run.offset (i + 1)) targets
    meeting_null i l null s =
        let can = can_follow_run rows h now x run i g o s.met.marked.remarked all l in
        let Q : List ℕ → Type 0 = λ done. IsMeeting rows h now m n x done targets in
        subst Q (sym (run_more run.offset i))
        (meeting_next rows h now now m n n x (run.offset + 8 * i) (offsets_from run.offset i) targets targets g o s
        can.listed (met-refl rows now n targets) (λ ne _. absurd (ne (sym can.same ∙ null))))

    -- so are d of them
    meeting_nulls : (d i : ℕ) → i + d ≤ run.count
        → ((j : ℕ) → i ≤ j → j < i + d → word_of now (x + run.offset + 8 * j) ≡ 0)
        → IsMeeting rows h now m n x (offsets_from run.offset i) targets
        → IsMeeting rows h now m n x (offsets_from run.offset (i + d)) targets
    meeting_nulls zero i within null s =
        let P : ℕ → Type 0 = λ k. IsMeeting rows h now m n x (offsets_from run.offset k) targets in
        let e : i ≡ i + 0 = omega arith in
        subst P e s
    meeting_nulls (suc d) i within null s =
        let P : ℕ → Type 0 = λ k. IsMeeting rows h now m n x (offsets_from run.offset k) targets in
        let e : i + 1 + d ≡ i + suc d = omega arith in
        subst P e (meeting_nulls d (i + 1) (omega (arith, within))
        (λ j low high. null j (omega (arith, low)) (omega (arith, high)))
        (meeting_null i (omega (arith, within)) (null i (omega arith) (omega arith)) s))

    -- the references up to number k, which are null
    pub meeting_passed : (i k : ℕ) → i < k → k ≤ run.count → word_of now (x + run.offset + 8 * i) ≡ 0
        → ((j : ℕ) → i + 1 ≤ j → j < k → word_of now (x + run.offset + 8 * j) ≡ 0)
        → IsMeeting rows h now m n x (offsets_from run.offset i) targets
        → IsMeeting rows h now m n x (offsets_from run.offset k) targets
    meeting_passed i k more within first null s =
        let P : ℕ → Type 0 = λ j. IsMeeting rows h now m n x (offsets_from run.offset j) targets in
        let e : i + 1 + (k - (i + 1)) ≡ k = omega (arith, more) in
        subst P e (meeting_nulls (k - (i + 1)) (i + 1) (omega (arith, more, within))
        (λ j low high. null j low (omega (arith, more, high)))
        (meeting_null i (omega (arith, more, within)) first s))
