-- Entries that are judged: first the woken ones go behind the f-reachable places, then flags are cleared, and then the
-- dropped ones go.
use Rattle.std.proofs.Common.{◌≡◌, ℕ, ◌<◌, ◌&&◌, ◌||◌, ◌++◌, ◌∷◌, Bool, true, false, not}
use Rattle.std.proofs.Common.{List}
use Rattle.std.proofs.Common.{[], filter, if◌then◌else◌, nat_lt, get_or, refl, ap, sym}
use Rattle.std.proofs.Common.{◌∙◌}
use Rattle.std.proofs.lemmas.Bool.{both_ways, le-ltb, lt-ltb, ltb-true}
use Rattle.std.proofs.lemmas.List.{append-nil}
use Rattle.clr_types.specs.Rising.{first, IsIn, later}
use Rattle.clr_types.specs.Types.{TypeRow}
use Rattle.clr_types.proofs.ListMembers.{filter-on}
use Rattle.clr_final.specs.Queues.{ArePlacesJudged, is_alive, is_woken}
use Rattle.clr_final.specs.declared.verdict.Verdict.{Verdict}
use Rattle.clr_final.specs.declared.verdict.Verdict.TheVariants.{Alive, Dropped, Woken}
use Rattle.clr_final.proofs.ListLaws.{judged-is_filter}
use Rattle.clr_heap.specs.View.{HeapView}
use Rattle.clr_view.specs.SlotValues.{StandsAt}
use Rattle.clr_collect.specs.Collecting.{AllStand, drops, wakes}

-- ---- verdicts by tests

module _ (rows : List TypeRow) (h : HeapView) (low : ℕ) (verdict : ℕ → Verdict)
    (below : (x : ℕ) → x < low → StandsAt rows h x → verdict x ≡ Alive) where
  -- what lies below is alive, whatever stands there
  abbrev settled : ℕ → Verdict
  settled x = if nat_lt x low then Alive else verdict x

  alike : (x : ℕ) → StandsAt rows h x → settled x ≡ verdict x
  alike x stands = go (nat_lt x low) refl
    where
      go : (b : Bool) → nat_lt x low ≡ b → (if b then Alive else verdict x) ≡ verdict x
      go true e = sym (below x (ltb-true x low e) stands)
      go false e = refl

  -- ENTRIES are sorted by verdicts, where these are what was answered
  pub sorted_by_verdict : (answers : ℕ → Verdict → Type 0) → ((x : ℕ) (v : Verdict) → answers x v → v ≡ verdict x)
      → (old new ready after : List ℕ) → AllStand rows h old → ArePlacesJudged answers low old new ready after
      → (new ≡ filter (λ x. is_alive (verdict x)) old) × (after ≡ ready ++ filter (λ x. is_woken (verdict x)) old)
  sorted_by_verdict answers told old new ready after stand sorted =
      let (alive, woken) =
      judged-is_filter answers low settled old new ready after sorted
      (λ i v inside high answer. told (get_or old i 0) v answer
      ∙ sym (ap (λ (b : Bool). if b then Alive else verdict (get_or old i 0)) (le-ltb (get_or old i 0) low high)))
      (λ place under. ap (λ (b : Bool). if b then Alive else verdict place) (lt-ltb place low under)) in (
        alive ∙ filter-on (λ x. is_alive (settled x)) (λ x. is_alive (verdict x)) old
            (λ x i. ap is_alive (alike x (stand x i))),
        woken ∙ ap (λ xs. ready ++ xs)
            (filter-on (λ x. is_woken (settled x)) (λ x. is_woken (verdict x)) old
            (λ x i. ap is_woken (alike x (stand x i)))),
      )

-- ---- the two verdicts

module _ (left suppressed : ℕ → Bool) where
  pub wakes-alive : (a b : Bool) → is_alive (if a || b then Alive else Woken) ≡ (a || b)
  wakes-alive true b = refl
  wakes-alive false true = refl
  wakes-alive false false = refl

  wakes-woken : (a b : Bool) → is_woken (if a || b then Alive else Woken) ≡ (not a && not b)
  wakes-woken true b = refl
  wakes-woken false true = refl
  wakes-woken false false = refl

  drops-alive : (a : Bool) → is_alive (if a then Alive else Dropped) ≡ a
  drops-alive true = refl
  drops-alive false = refl

  drops-woken : (a : Bool) → is_woken (if a then Alive else Dropped) ≡ false
  drops-woken true = refl
  drops-woken false = refl

  none-passes : (test : ℕ → Bool) (xs : List ℕ) → ((x : ℕ) → test x ≡ false) → filter test xs ≡ []
  none-passes test [] none = refl
  none-passes test (x ∷ xs) none = ap (λ (b : Bool). if b then x ∷ filter test xs else filter test xs) (none x)
      ∙ none-passes test xs none

  filter-twice : (s t : ℕ → Bool) (xs : List ℕ) → ((x : ℕ) → t x ≡ true → s x ≡ true)
      → filter t (filter s xs) ≡ filter t xs
  filter-twice s t [] more = refl
  filter-twice s t (x ∷ xs) more = go (s x) refl (t x) refl (filter-twice s t xs more)
    where
      go : (a : Bool) → s x ≡ a → (b : Bool) → t x ≡ b → filter t (filter s xs) ≡ filter t xs
          → filter t (if a then x ∷ filter s xs else filter s xs) ≡ (if b then x ∷ filter t xs else filter t xs)
      go true sx b tx rest = ap (λ (c : Bool). if c then x ∷ filter t (filter s xs) else filter t (filter s xs)) tx
          ∙ ap (λ (ys : List ℕ). if b then x ∷ ys else ys) rest
      go false sx true tx rest = absurd (both_ways (s x) sx (more x tx))
      go false sx false tx rest = rest

  left-more : (x : ℕ) → left x ≡ true → (left x || suppressed x) ≡ true
  left-more x e = ap (λ (b : Bool). b || suppressed x) e

  -- WHAT THE TWO PASSES LEAVE of the entries: those of what is left
  pub entries_after : (old : List ℕ)
      → filter left (filter (λ x. is_alive (wakes left suppressed x)) old) ≡ filter left old
  entries_after old =
      ap (filter left)
      (filter-on (λ x. is_alive (wakes left suppressed x)) (λ x. left x || suppressed x) old
      (λ x i. wakes-alive (left x) (suppressed x)))
      ∙ filter-twice (λ x. left x || suppressed x) left old left-more

  -- and what they put behind the f-reachable places: the woken ones
  pub ready_after : (old ready : List ℕ) → ready ++ filter (λ x. is_woken (wakes left suppressed x)) old
      ≡ ready ++ filter (λ x. not (left x) && not (suppressed x)) old
  ready_after old ready =
      ap (λ (ys : List ℕ). ready ++ ys) (filter-on (λ x. is_woken (wakes left suppressed x))
      (λ x. not (left x) && not (suppressed x)) old (λ x i. wakes-woken (left x) (suppressed x)))

  -- the second pass leaves what is left
  pub left_dropped : (old : List ℕ) → filter (λ x. is_alive (drops left x)) old ≡ filter left old
  left_dropped old = filter-on (λ x. is_alive (drops left x)) left old (λ x i. drops-alive (left x))

  -- and wakes nothing
  pub none_woken : (old ready : List ℕ) → ready ++ filter (λ x. is_woken (drops left x)) old ≡ ready
  none_woken old ready =
      ap (λ (ys : List ℕ). ready ++ ys)
      (none-passes (λ x. is_woken (drops left x)) old (λ x. drops-woken (left x)))
      ∙ append-nil ready

-- where all are left, all stay
pub all_stay : (left : ℕ → Bool) (xs : List ℕ) → ((x : ℕ) → IsIn x xs → left x ≡ true) → filter left xs ≡ xs
all_stay left [] all = refl
all_stay left (x ∷ xs) all =
    ap (λ (b : Bool). if b then x ∷ filter left xs else filter left xs) (all x first)
    ∙ ap (λ (ys : List ℕ). x ∷ ys) (all_stay left xs (λ y i. all y (later i)))
