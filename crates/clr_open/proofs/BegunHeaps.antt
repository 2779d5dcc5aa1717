-- A heap in which contexts are opened, one after the other.
use Rattle.std.proofs.Common.{◌≡◌, ℕ, suc, ◌+◌, ◌-◌, ◌<◌, ◌≤◌, List, [], get_or, length, refl, ap, sym, ◌∙◌, subst}
use Rattle.std.proofs.Common.{arith, take, length-take-le}
use Rattle.std.proofs.lemmas.List.{take_all, take_more}
use Rattle.clr_types.specs.Ranges.{Piece}
use Rattle.clr_types.specs.Rising.{IsIn}
use Rattle.clr_types.specs.Segments.{Layout}
use Rattle.clr_types.specs.Types.{form_at, size_of, TypeRow}
use Rattle.clr_types.proofs.ChangedLists.{into_filter, out_of_filter}
use Rattle.clr_heap.specs.View.{heap_items, HeapView, IsHeap, no_rests}
use Rattle.clr_model.specs.Allocation.{from_item, is_young_item}
use Rattle.clr_ctx.specs.Contexts.{IsRelaid, young_items}
use Rattle.clr_ctx.proofs.Resting.{free_rises}
use Rattle.clr_ctx.proofs.WholeItems.{whole-least}
use Rattle.clr_generations.proofs.FoundItems.{in-at}
use Rattle.clr_view.specs.View.{free_in, IsHeld, is_object, layout_in}
use Rattle.clr_format.specs.NameTests.{with_earlier}
use Rattle.clr_sos.specs.declared.step.Step.{Step}
use Rattle.clr_sos.specs.declared.step.Step.TheVariants.{Begun, Idle, Store}
use Rattle.clr_load.specs.Sound.{StepStands}
use Rattle.clr_load.specs.StepTests.{fronts_among}
use Rattle.clr_sos.proofs.EarlierSteps.{as_many, thread_at}
use Rattle.clr_opened.specs.Opened.{opened_layout}
use Rattle.clr_open.specs.Begun.{fronted, HasFront, IsFrontOf, layout_with}
use Rattle.clr_open.proofs.FrontLayouts.{first-layout, front-item, fronted-is, has-front, IsFresh, last-layout}
use Rattle.clr_open.proofs.FrontLayouts.{layout_of, next-layout}

-- a heap is its own, with its layout
pub relaid-same : (rows : List TypeRow) (h : HeapView) → IsHeap h → IsHeld rows h → IsRelaid rows h h (layout_in rows h)
relaid-same rows h heap held = record {
  heap = heap;
  kept = refl;
  objects = refl;
  layout = refl;
  cells = λ i b l o z low high. refl;
  free_heads = λ f. f;
  clean = λ c. c;
  limit = refl;
  held = held;
}

-- a heap that is laid anew twice has the second layout
relaid-on : (rows : List TypeRow) (a b c : HeapView) (l m : Layout) → IsRelaid rows a b l → IsRelaid rows b c m
    → IsRelaid rows a c m
relaid-on rows a b c l m one two = record {
  heap = two.heap;
  kept = two.kept ∙ one.kept;
  objects = two.objects ∙ one.objects;
  layout = two.layout;
  cells = λ i w here object z low high.
      two.cells i w (out_of_filter is_object i (heap_items rows b)
      (subst (IsIn i) (sym one.kept) (into_filter is_object (heap_items rows a) object here))).1 object z low high
      ∙ one.cells i w here object z low high;
  free_heads = λ f. two.free_heads (one.free_heads f);
  clean = λ f. two.clean (one.clean f);
  limit = two.limit ∙ one.limit;
  held = two.held;
}

-- one context is opened
pub front-opened : (rows : List TypeRow) (h new : HeapView) (t front : ℕ) → IsHeap h → IsHeld rows h
    → IsFrontOf (layout_in rows h) t front
    → ((item : Piece) → IsIn item (young_items (layout_in rows h)) → item.place ≡ front
    → IsRelaid rows h new (from_item (layout_in rows h) t item item.size))
    → IsRelaid rows h new (fronted (layout_in rows h) t front)
front-opened rows h new t front heap held f relaid =
    let item = f.item in
    let least = whole-least rows h heap held item f.young in
    subst (IsRelaid rows h new)
    (fronted-is (layout_in rows h) t item (free_rises rows h held.walkable heap)
    (out_of_filter (is_young_item (layout_in rows h)) item (free_in rows h) f.young).1 (omega (arith, least))
    ∙ ap (fronted (layout_in rows h) t) f.at)
    (relaid item f.young f.at)

-- ---- one thread after the other

-- the heap where the first i threads have their contexts
abbrev pub IsOpenedTo : List TypeRow → HeapView → List Step → ℕ → HeapView → Type 0
IsOpenedTo rows h steps i now = IsRelaid rows h now (layout_of (layout_in rows h) (take i steps) (16 - i))

module _ (rows : List TypeRow) (h : HeapView) (steps : List Step) (alone : h.rests ≡ no_rests)
    (count : length steps ≡ 16)
    (stand : (e : List ℕ × Step) → IsIn e (with_earlier [] steps) → StepStands rows h e) where
  abbrev IsTo : ℕ → HeapView → Type 0
  IsTo i now = IsOpenedTo rows h steps i now

  -- before the first thread it is the heap itself
  pub none-opened : IsHeap h → IsHeld rows h → IsOpenedTo rows h steps 0 h
  none-opened heap held = subst (IsRelaid rows h h) (sym (first-layout rows h alone)) (relaid-same rows h heap held)

  module _ (i : ℕ) (low : i < length steps) where
    abbrev step : Step
    step = get_or steps i Idle

    stands : StepStands rows h (fronts_among (take i steps), step)
    stands =
        let n = as_many [] steps in
        subst (StepStands rows h) (thread_at steps i ([], Idle) Idle low)
        (stand (get_or (with_earlier [] steps) i ([], Idle))
        (in-at (with_earlier [] steps) i ([], Idle) (omega (arith, n, low))))

    left : 16 - i ≡ suc (16 - (i + 1))
    left = omega (arith, count, low)

    many : length (take i steps) ≡ i
    many = length-take-le i steps (omega arith)

    front-there : (s : Step) → StepStands rows h (fronts_among (take i steps), s)
        → HasFront (layout_of (layout_in rows h) (take i steps) (16 - i)) (i + 1) s
    front-there Idle is = tt
    front-there (Store object slot) is = tt
    front-there (Begun t len local front) is =
        subst (λ (n : ℕ). IsFrontOf (layout_of (layout_in rows h) (take i steps) n) (i + 1) front) (sym left)
        (subst (λ (n : ℕ). IsFrontOf (layout_of (layout_in rows h) (take i steps) (suc (16 - (i + 1)))) (n + 1) front)
        many
        (has-front (layout_in rows h) (take i steps) (16 - (i + 1)) (size_of (form_at rows t.0) len) front
        (front-item rows h (size_of (form_at rows t.0) len) front alone is.0) is.1))

    fresh-of : (s : Step) → StepStands rows h (fronts_among (take i steps), s) → IsFresh (take i steps) s
    fresh-of Idle is = tt
    fresh-of (Store object slot) is = tt
    fresh-of (Begun t len local front) is = is.1

    -- the next thread has its front
    pub next-front : (now : HeapView) → IsTo i now → HasFront (layout_in rows now) (i + 1) (get_or steps i Idle)
    next-front now is =
        subst (λ (l : Layout). HasFront l (i + 1) step) (sym is.layout) (front-there step stands)

    -- and it is opened, too
    pub next-opened : (now new : HeapView) → IsTo i now
        → IsRelaid rows now new (layout_with (layout_in rows now) (i + 1) (get_or steps i Idle)) → IsTo (i + 1) new
    next-opened now new is relaid =
        let layout : layout_with (layout_in rows now) (i + 1) step
        ≡ layout_of (layout_in rows h) (take (i + 1) steps) (16 - (i + 1)) =
        (λ j. layout_with (is.layout j) (many' j + 1) step)
        ∙ ap (λ (n : ℕ). layout_with (layout_of (layout_in rows h) (take i steps) n) (length (take i steps) + 1) step)
        left
        ∙ next-layout (layout_in rows h) (take i steps) (16 - (i + 1)) step (fresh-of step stands)
        ∙ ap (λ (done : List Step). layout_of (layout_in rows h) done (16 - (i + 1)))
        (sym (take_more steps i Idle low)) in
        relaid-on rows h now new (layout_of (layout_in rows h) (take i steps) (16 - i))
        (layout_of (layout_in rows h) (take (i + 1) steps) (16 - (i + 1))) is
        (subst (IsRelaid rows now new) layout relaid)
      where
        many' : i ≡ length (take i steps)
        many' = sym many

  -- ALL are opened
  pub all-opened : (i : ℕ) (new : HeapView) → length steps ≤ i → IsTo i new
      → IsRelaid rows h new (opened_layout rows h steps)
  all-opened i new past is =
      let none : 16 - i ≡ 0 = omega (arith, count, past) in
      subst (IsRelaid rows h new)
      ((λ j. layout_of (layout_in rows h) (take_all i steps past j) (none j)) ∙ last-layout rows h steps) is
