-- What many words name, gathered and then marked together.
use Rattle.std.proofs.Common.{◌≡◌, ◌≢◌, ◌⊎◌, ◌↔◌, inl, inr, ℕ, ◌+◌, ◌*◌, ◌<◌, ◌≤◌, Bool, true, false, List}
use Rattle.std.proofs.Common.{[], ◌∷◌, ◌++◌, refl, if◌then◌else◌, ap, sym, ◌∙◌, subst, arith}
use Rattle.std.proofs.lemmas.Bool.{cases_eq, cases_lt, le-leb, ne_eqb, true≢false}
use Rattle.clr_types.specs.Rising.{first, IsIn}
use Rattle.clr_types.specs.Segments.{generation}
use Rattle.clr_types.specs.Types.{TypeRow}
use Rattle.clr_types.specs.declared.item.Item.{Item}
use Rattle.clr_types.proofs.ChangedLists.{append_left}
use Rattle.clr_types.proofs.ListMembers.{append_right, in_append}
use Rattle.clr_types.proofs.RisingLists.{in_cons}
use Rattle.clr_heap.specs.View.{frame, heap_items, HeapView, IsHeap, word_of}
use Rattle.clr_model.specs.Reach.{Reach, starts}
use Rattle.clr_view.specs.Marks.{Marked}
use Rattle.clr_view.specs.View.{IsHeld}
use Rattle.clr_mark.specs.Marks.{is_condemned_place, IsClosed, IsRemarked, LeadsTo}
use Rattle.clr_mark.specs.Markings.{HasMarked, with_target}
use Rattle.clr_mark.specs.Waiting.{IsGray, MarkerView}
use Rattle.clr_mark.proofs.Graying.{leads_back, reach_bind}
use Rattle.clr_mark.proofs.Held.{remarked-trans}
use Rattle.clr_scan.specs.References.{IsNamedByOlder, IsQuiet, IsReferenceOf}
use Rattle.clr_scan.specs.Scans.{AreGathered, HasScanned, IsTraced}
use Rattle.clr_scan.proofs.CardScans.{IsScanStart, quiet-spared, ref_word, same-age, scanned-trans, traced-from}
use Rattle.clr_scan.proofs.CardScans.{traced-on}
use Rattle.clr_scan.proofs.WordScans.{IsWordScan}

-- ---- targets

-- what is of a condemned generation, is condemned
pub condemned_below : (h : HeapView) (g x : ℕ) → generation (frame h) x ≤ g → is_condemned_place h g x ≡ true
unfolding is_condemned_place
condemned_below h g x l = le-leb (generation (frame h) x) g l

-- a place that isn't null was added
pub target_added : (targets more : List ℕ) (t : ℕ) → more ≡ with_target targets t → t ≢ 0 → more ≡ targets ++ t ∷ []
target_added targets more t e some = rw (e, ne_eqb t 0 some) refl

module _ (targets more : List ℕ) (t : ℕ) (e : more ≡ targets ++ t ∷ []) where
  pub added_kept : (y : ℕ) → IsIn y targets → IsIn y more
  added_kept y l = subst (λ (ys : List ℕ). IsIn y ys) (sym e) (append_left (t ∷ []) l)

  pub added_here : IsIn t more
  added_here = subst (λ (ys : List ℕ). IsIn t ys) (sym e) (append_right targets first)

  pub added_only : (y : ℕ) → IsIn y more → IsIn y targets ⊎ (y ≡ t)
  added_only y l = elim (in_append targets (subst (λ (ys : List ℕ). IsIn y ys) e l)) [
    | inl was ↦ inl was
    | inr last ↦ elim (in_cons last) [ inl is ↦ inr is | inr none ↦ elim none [ ] ]
  ]

-- ---- words whose names are gathered

pub gathering_starts : (rows : List TypeRow) (h : HeapView) (g age base from : ℕ) (targets : List ℕ) → targets ≡ []
    → AreGathered rows h g age base from from targets false
gathering_starts rows h g age base from targets none =
    record {
      named = λ y l. elim (subst (λ (ys : List ℕ). IsIn y ys) none l) [ ];
      gathered = λ s l b. absurd (omega arith);
      clear = λ e s l b. absurd (omega arith);
      silent = λ _. refl;
    }

module _ (rows : List TypeRow) (h : HeapView) (g age base from j : ℕ) (targets : List ℕ) (younger : Bool)
    (s : AreGathered rows h g age base from j targets younger) where
  -- words were passed that name nothing that is still looked for
  pub gathering_passed : (met bound : ℕ) → bound ≡ (if younger then g + 1 else age) → g < bound
      → ((t : ℕ) → j ≤ t → t < met → IsQuiet h bound (base + 8 * t)) → j ≤ met
      → AreGathered rows h g age base from met targets younger
  gathering_passed met bound is above quiet up =
      record {
        named = s.named;
        gathered = λ t l b. elim (cases_lt t j) [
          | inl before ↦ s.gathered t l before
          | inr here ↦ λ ne near. absurd (true≢false (sym near
              ∙ quiet-spared h g bound (base + 8 * t) above (quiet t here b) ne))
        ];
        clear = λ none t l b. elim (cases_lt t j) [
          | inl before ↦ s.clear none t l before
          | inr here ↦ subst (λ e. IsQuiet h e (base + 8 * t)) (is ∙ (λ k. if none k then g + 1 else age))
              (quiet t here b)
        ];
        silent = λ all. s.silent (λ t l b. all t l (omega arith));
      }

  -- the next word was looked at
  pub gathering_next : (more : List ℕ) (below next : Bool) → ((y : ℕ) → IsIn y targets → IsIn y more)
      → ((y : ℕ) → IsIn y more → IsIn y targets ⊎ IsNamedByOlder rows h g y)
      → (word_of h (base + 8 * j) ≢ 0 → is_condemned_place h g (word_of h (base + 8 * j)) ≡ true
      → IsIn (word_of h (base + 8 * j)) more)
      → (below ≡ false → IsQuiet h age (base + 8 * j)) → (IsQuiet h age (base + 8 * j) → below ≡ false) → from ≤ j
      → (next ≡ false → (younger ≡ false) × (below ≡ false)) → (younger ≡ false → below ≡ false → next ≡ false)
      → AreGathered rows h g age base from (j + 1) more next
  gathering_next more below next kept only here clear silent low parts joined =
      let P : ℕ → Type 0 = λ k. word_of h (base + 8 * k) ≢ 0
      → is_condemned_place h g (word_of h (base + 8 * k)) ≡ true → IsIn (word_of h (base + 8 * k)) more in
      record {
        named = λ y l. elim (only y l) [ inl was ↦ s.named y was | inr named ↦ named ];
        gathered = λ t l b. elim (cases_eq t j) [
          | inl is ↦ subst P (sym is) here
          | inr ne ↦ λ some near. kept (word_of h (base + 8 * t)) (s.gathered t l (omega arith) some near)
        ];
        clear = λ none t l b. elim (cases_eq t j) [
          | inl is ↦ subst (λ k. IsQuiet h age (base + 8 * k)) (sym is) (clear (parts none).1)
          | inr ne ↦ s.clear (parts none).0 t l (omega arith)
        ];
        silent = λ all. joined (s.silent (λ t l b. all t l (omega arith))) (silent (all j low (omega arith)));
      }

  -- what was gathered was marked
  pub gathered_scan : (i : Item) → ((t : ℕ) → t < j → IsReferenceOf rows i (base + 8 * t)) → (new : HeapView)
      (m n : MarkerView) → g ≡ m.oldest → IsGray rows new n
      → HasScanned rows h new m n → ((y : ℕ) → IsIn y targets → Marked rows new y)
      → IsWordScan rows h new m n i base age from j younger
  gathered_scan i reference new m n oldest gray scanned marked =
      let P : ℕ → Type 0 = λ e. (t : ℕ) → from ≤ t → t < j → IsTraced h rows new e (base + 8 * t) in
      record {
        gray = gray;
        scanned = scanned;
        traced = λ t l b _. subst P oldest
            (λ t l b ne near. marked (word_of h (base + 8 * t)) (s.gathered t l b ne near)) t l b;
        clear = λ none t l b _. s.clear none t l b;
        silent = λ all. s.silent (λ t l b. all t l b (reference t b));
      }

-- ---- scans after one another

module _ (rows : List TypeRow) (h now new : HeapView) (m n o : MarkerView) (i : Item) (base age from j met : ℕ)
    (younger below : Bool) (closed : IsClosed rows h) (listed : IsIn i (heap_items rows h))
    (s : IsWordScan rows h now m n i base age from j younger)
    (q : IsWordScan rows now new n o i base age j met below) where
  module _ (t : ℕ) (r : IsReferenceOf rows i (base + 8 * t)) where
    same : word_of now (base + 8 * t) ≡ word_of h (base + 8 * t)
    same = ref_word rows h closed i listed (base + 8 * t) r now s.scanned.remarked

    quiet_back : IsQuiet now age (base + 8 * t) → IsQuiet h age (base + 8 * t)
    quiet_back quiet ne less =
        let w = ap (generation (frame now)) same in
        let a = same-age rows h now (word_of h (base + 8 * t)) s.scanned.remarked in
        quiet (λ e. ne (sym same ∙ e)) (omega (arith, w, a, less))

    quiet_on : IsQuiet h age (base + 8 * t) → IsQuiet now age (base + 8 * t)
    quiet_on quiet ne less =
        let w = ap (generation (frame now)) same in
        let a = same-age rows h now (word_of h (base + 8 * t)) s.scanned.remarked in
        quiet (λ e. ne (same ∙ e)) (omega (arith, w, a, less))

  pub scans_joined : (next : Bool) → from ≤ j → j ≤ met
      → (next ≡ false → (younger ≡ false) × (below ≡ false)) → (younger ≡ false → below ≡ false → next ≡ false)
      → IsWordScan rows h new m o i base age from met next
  scans_joined next low up parts joined =
      record {
        gray = q.gray;
        scanned = scanned-trans rows h now new m n o closed.heap closed.held s.scanned q.scanned;
        traced = λ t l b e. elim (cases_lt t j) [
          | inl before ↦ traced-on h rows now new m.oldest (base + 8 * t) q.scanned.kept (s.traced t l before e)
          | inr here ↦ traced-from h rows now new m n (base + 8 * t) s.scanned (same t e) (q.traced t here b e)
        ];
        clear = λ none t l b e. elim (cases_lt t j) [
          | inl before ↦ s.clear (parts none).0 t l before e
          | inr here ↦ quiet_back t e (q.clear (parts none).1 t here b e)
        ];
        silent = λ all. joined (s.silent (λ t l b e. all t l (omega arith) e))
            (q.silent (λ t l b e. quiet_on t e (all t (omega arith) b e)));
      }

-- ---- roots that older objects name

-- they are marked together, and then perhaps what is reached
pub scanned-roots : (rows : List TypeRow) (h mid new : HeapView) (m n o : MarkerView) (ys : List ℕ) → IsHeap h
    → IsHeld rows h → ((y : ℕ) → IsIn y ys → IsNamedByOlder rows h m.oldest y) → IsRemarked rows h mid
    → ((x : ℕ) → Marked rows mid x ↔ ((IsIn x ys × (is_condemned_place h m.oldest x ≡ true)) ⊎ Marked rows h x))
    → n.oldest ≡ m.oldest → n.capacity ≡ m.capacity
    → HasMarked rows n.oldest mid new → o.capacity ≡ n.capacity → o.oldest ≡ n.oldest → HasScanned rows h new m o
scanned-roots rows h mid new m n o ys heap held named words only oldest capacity drained c d =
    let g = m.oldest in
    let P : ℕ → Type 0 = λ b. HasMarked rows b mid new in
    let more = subst P oldest drained in
    record {
      remarked = remarked-trans rows h mid new heap held words more.remarked;
      kept = λ x s. more.kept x ((only x).1 (inr s));
      reached = λ x s. reach_bind (LeadsTo rows h g) (LeadsTo rows mid g) (IsScanStart rows h g) (Marked rows mid) x
          (leads_back rows h mid heap held words g) (λ z t. elim ((only z).0 t) [
            | inl is ↦ starts (inr (named z is.0))
            | inr was ↦ starts (inl was)
          ]) (more.reached x s);
      capacity = c ∙ capacity;
      oldest = d ∙ oldest;
    }
