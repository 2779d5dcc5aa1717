-- The first run of objects that may go into older items, as a walk finds it.
use Rattle.std.proofs.Common.{◌≡◌, ◌≢◌, ℕ, ◌+◌, ◌-◌, ◌<◌, ◌≤◌, inl, inr, Bool, true, false, not, ◌&&◌, ◌==◌, List, []}
use Rattle.std.proofs.Common.{◌∷◌, ◌++◌, refl, sym, ap, subst, ◌∙◌, arith}
use Rattle.std.specs.Bool.{beq}
use Rattle.std.specs.List.{AllByRecursion}
use Rattle.std.proofs.lemmas.Bool.{and_left, and_right, both_ways, cases_Bool, cases_lt, eq-eqb, eqb-true, ne_eqb}
use Rattle.clr_types.specs.Ranges.{Piece}
use Rattle.clr_types.specs.Types.{TypeRow}
use Rattle.clr_types.specs.declared.item.Item.{Item}
use Rattle.clr_types.proofs.ChangedLists.{all_imply}
use Rattle.clr_heap.specs.Parts.{item_at}
use Rattle.clr_heap.specs.View.{HeapView, items_between, segment_at, sight, word_of}
use Rattle.clr_model.specs.Compaction.{joined, Plug, plug_end, plug_of, plugs_of}
use Rattle.clr_model.specs.Fitting.{fitting_plugs}
use Rattle.clr_model.specs.Sweep.{Survivor}
use Rattle.clr_sweep.specs.SweptItems.{stays}
use Rattle.clr_plan.specs.Scans.{CanScan, is_alike, plugs_between, survivor_in}
use Rattle.clr_plan.proofs.GrowingRuns.{merged-one, run-apart, run-other}
use Rattle.clr_plan.proofs.Scanning.{at_item, plugs-above, survivors-done, survivors-more, survivors-over}
use Rattle.clr_evacuate.specs.Fittings.{AreSideBySide, ArePassed, fitting_between, fitting_plug, HasFitting, may_fit}
use Rattle.clr_evacuate.proofs.FittingRuns.{EndsThere, run_is, skipped, surviving}
use Rattle.clr_evacuate.proofs.PassedItems.{side-up}

module _ (rows : List TypeRow) (h : HeapView) (k : ℕ) where
  -- where what is passed may not go into items, the plugs that may are those behind it
  pub passed-over : (p e q : ℕ) → ArePassed rows h k p e false q
      → fitting_between rows h k p e ≡ fitting_between rows h k q e
  passed-over p e q are =
      ap (λ (is : List Item). fitting_plugs (plugs_of (surviving h k is))) are.items
      ∙ skipped h k are.passed (items_between (sight rows h k) q e) are.alike

  -- where all is passed, there is none
  pub none-fits : (p e q : ℕ) → ArePassed rows h k p e false q → e ≤ q → fitting_between rows h k p e ≡ []
  none-fits p e q are done =
      passed-over p e q are ∙ ap (λ (vs : List Survivor). fitting_plugs (plugs_of vs))
      (survivors-done rows h k q e are.scan done)

  -- ---- where a run ends

  unlike : (a : Bool) (v w : Survivor) → v.generation ≡ 1 → v.pinned ≡ false → a ≡ true
      → ((a && (w.generation == 1)) && not w.pinned) ≡ false → is_alike (plug_of v) (plug_of w) ≡ false
  unlike a v w age free on off =
      (λ i. (age i == w.generation) && beq (free i) w.pinned)
      ∙ go w.generation w.pinned (sym (ap (λ (b : Bool). (b && (w.generation == 1)) && not w.pinned) on) ∙ off)
    where
      swap : (g : ℕ) → (1 == g) ≡ (g == 1)
      swap g = elim (cases_Bool (g == 1)) [
        | inl on ↦ eq-eqb 1 g (sym (eqb-true g 1 on)) ∙ sym on
        | inr off ↦ ne_eqb 1 g (λ e. absurd (both_ways (g == 1) off (eq-eqb g 1 (sym e)))) ∙ sym off
      ]

      go : (g : ℕ) (b : Bool) → ((g == 1) && not b) ≡ false → ((1 == g) && beq false b) ≡ false
      go g true e = and_right (1 == g) (beq false true) refl
      go g false e = and_left (1 == g) (beq false false) (swap g ∙ plain (g == 1) e)
        where
          plain : (c : Bool) → (c && true) ≡ false → c ≡ false
          plain true e = e
          plain false e = refl

  -- at a place where no item may go on, a run ends
  pub ends-there : (q e : ℕ) → CanScan rows h k q e
      → (q < e → may_fit h (item_at rows (word_of h) q) ≡ false)
      → EndsThere h k q (plugs_between rows h k q e)
  ends-there q e scan stops v at age free = elim (cases_lt q e) [
    | inr done ↦ subst (λ (ps : List Plug). joined v ps ≡ plug_of v ∷ ps)
        (sym (ap plugs_of (survivors-done rows h k q e scan done))) refl
    | inl below ↦ go below (stays (word_of h) (item_at rows (word_of h) q)) refl
  ]
    where
      go : (below : q < e) (b : Bool) → stays (word_of h) (item_at rows (word_of h) q) ≡ b
          → joined v (plugs_between rows h k q e) ≡ plug_of v ∷ plugs_between rows h k q e
      go below true on =
          let i = item_at rows (word_of h) q in
          let later = plugs_between rows h k (q + i.size) e in
          subst (λ (ps : List Plug). joined v ps ≡ plug_of v ∷ ps)
          (sym (ap plugs_of (survivors-more rows h k q e scan below on)))
          (merged-one v (joined (survivor_in h k i) later)
          ∙ run-other (plug_of v) (survivor_in h k i) later
          (unlike (stays (word_of h) i) v (survivor_in h k i) age free on (stops below)))
      go below false off =
          let i = item_at rows (word_of h) q in
          let later = plugs_between rows h k (q + i.size) e in
          let here = at_item rows h k q e scan below in
          let least = here.least in
          subst (λ (ps : List Plug). joined v ps ≡ plug_of v ∷ ps)
          (sym (ap plugs_of (survivors-over rows h k q e scan below off)))
          (merged-one v later
          ∙ run-apart (plug_of v) later (all_imply (λ (r : Plug). q + i.size ≤ r.start)
          (λ (r : Plug). plug_end (plug_of v) < r.start) later (λ r l. omega (arith, l, least, at))
          (plugs-above rows h k (q + i.size) e here.scan)))

  -- ---- the run

  not-true : (b : Bool) → b ≢ true → b ≡ false
  not-true true ne = absurd (ne refl)
  not-true false ne = refl

  not-false : (b : Bool) → b ≢ false → b ≡ true
  not-false true ne = refl
  not-false false ne = absurd (ne refl)

  module _ (p q r e : ℕ) (before : ArePassed rows h k p e false q) (below : q < e)
      (begins : may_fit h (item_at rows (word_of h) q) ≢ false) (run : ArePassed rows h k q e true r)
      (stops : r < e → may_fit h (item_at rows (word_of h) r) ≢ true) where
    abbrev range : Piece
    range = record { place = q; size = r - q }

    -- it isn't empty
    plugs-so : (passed : List Item) → items_between (sight rows h k) q e ≡ passed ++ items_between (sight rows h k) r e
        → AllByRecursion (λ (i : Item). may_fit h i ≡ true) passed → AreSideBySide q passed r
        → (plugs_between rows h k q e ≡ fitting_plug (segment_at h k).base range ∷ plugs_between rows h k r e)
        × (24 ≤ r - q)
    plugs-so [] items alike side =
        let same : q ≡ r = side in
        absurd (subst (λ (n : ℕ). n < e → may_fit h (item_at rows (word_of h) n) ≢ true) (sym same) stops below
        (not-false (may_fit h (item_at rows (word_of h) q)) begins))
    plugs-so (i ∷ is) items alike side = (
      ap (λ (js : List Item). plugs_of (surviving h k js)) items
          ∙ run_is h k i is (items_between (sight rows h k) r e) q r alike side
          (ends-there r e run.scan (λ under. not-true (may_fit h (item_at rows (word_of h) r)) (stops under))),
      (let here = at_item rows h k q e before.scan below in
          let least = here.least in
          let first_is : i ≡ item_at rows (word_of h) q = heads (sym items ∙ here.items) in
          let size = ap (λ (j : Item). j.size) first_is in
          let up = side-up (q + i.size) r is side.1 in
          omega (arith, least, size, up)),
    )
      where
        heads : {x y : Item} {xs ys : List Item} → ◌≡◌ {A = List Item} (x ∷ xs) (y ∷ ys) → x ≡ y
        heads e = cc

    pub first-fitting : HasFitting rows h k p e range
    first-fitting =
        let (plugs, least) = plugs-so run.passed run.items run.alike run.side_by_side in
        let low = side-up p q before.passed before.side_by_side in
        let ends : q + (r - q) ≡ r = omega arith in
        record {
          plugs = passed-over p e q before ∙ ap fitting_plugs plugs
              ∙ ap (λ (n : ℕ). fitting_plug (segment_at h k).base range ∷ fitting_between rows h k n e) (sym ends);
          before = before;
          scan = before.scan;
          objects = subst (ArePassed rows h k q e true) (sym ends) run;
          above = low;
          least = least;
          within = (let within = run.within (omega arith) in omega arith);
        }
