-- What stands of an image shows the state that the image says, and a run goes on from it.
use Rattle.std.proofs.Common.{◌≡◌, ℕ, ◌+◌, ◌^◌, ◌≤◌, List, [], ◌∷◌, length, map, refl, ap, ap₂, sym, ◌∙◌, subst, arith}
use Rattle.std.proofs.Common.{true, false, sum_by}
use Rattle.std.specs.List.{AllByRecursion}
use Rattle.std.proofs.lemmas.List.Sums.{sum_by-cons}
use Rattle.clr_types.specs.Segments.{reserved_end}
use Rattle.clr_types.specs.Types.{TypeRow}
use Rattle.clr_types.specs.declared.segment.SegInfo.{SegInfo}
use Rattle.clr_heap.specs.View.{HeapView}
use Rattle.clr_ctx.specs.Contexts.{IsRelaid}
use Rattle.clr_format.specs.Images.{Parts}
use Rattle.clr_sos.specs.declared.step.Step.{Step}
use Rattle.clr_sos.specs.declared.step.Step.TheVariants.{Begun, Idle, Store}
use Rattle.clr_load.specs.declared.image.Image.{Image}
use Rattle.clr_model.specs.Lawful.{IsPlaceNamed}
use Rattle.clr_model.specs.Machine.{ThreadStep}
use Rattle.clr_opened.specs.Opened.{Budgets, opened, opened_layout, options_with, thread_step}
use Rattle.clr_runtime.specs.RuntimeView.{IsShown, TellsFinalizer}
use Rattle.clr_runtime.specs.Standings.{ahead_in, no_sums, standing_machine, world_in}
use Rattle.clr_runtime.specs.declared.standing.Standing.{Standing}
use Rattle.clr_safe.specs.Threads.{births_owed, step_by, Threads}
use Rattle.clr_safe.specs.declared.begun.Begun as safe
use Rattle.clr_view.specs.Clean.{AreClean}
use Rattle.clr_view.specs.Marks.{IsUnmarked}
use Rattle.clr_view.specs.View.{AreFreeHeads, IsHeld, layout_in, objects_in}
use Rattle.clr_view.proofs.Unmarked.{unmarked_kept}
use Rattle.clr_open.specs.Begun.{begun_of}
use Rattle.clr_open.specs.Fit.{AreLawfulBudgets, IsFit}
use Rattle.clr_open.specs.Read.{IsRead, StandsAs}
use Rattle.clr_open.proofs.OpenedLawful.{back, faultless, heap, held, opened-lawful, same_handles}
use Rattle.clr_open.proofs.ReadFields.{fields-found, fields-of}

step-same : (rows : List TypeRow) (s : Step) → step_by (begun_of rows s) ≡ thread_step s
step-same rows Idle = refl
step-same rows (Store object slot) = refl
step-same rows (Begun t len local front) = refl

steps-same : (rows : List TypeRow) (ss : List Step) → map step_by (map (begun_of rows) ss) ≡ map thread_step ss
steps-same rows [] = refl
steps-same rows (s ∷ ss) =
    ap₂ (λ (x : ThreadStep) (xs : List ThreadStep). x ∷ xs) (step-same rows s) (steps-same rows ss)

told : (rows : List TypeRow) (s : Step) → TellsFinalizer rows (begun_of rows s)
told rows Idle = tt
told rows (Store object slot) = tt
told rows (Begun t len local front) = refl

all-told : (rows : List TypeRow) (ss : List Step) → AllByRecursion (TellsFinalizer rows) (map (begun_of rows) ss)
all-told rows [] = tt
all-told rows (s ∷ ss) = (told rows s, all-told rows ss)

-- ---- addresses

-- segments that begin below a bound and reserve so many bytes together end not far above it
ends-low : (ss : List SegInfo) → AllByRecursion (λ (s : SegInfo). s.base ≤ 2 ^ 60) ss
    → sum_by (λ (s : SegInfo). s.reserved) ss ≤ 1073741824
    → AllByRecursion (λ (s : SegInfo). reserved_end s ≤ 2 ^ 60 + 2 ^ 30) ss
ends-low [] low sum = tt
ends-low (s ∷ ss) low sum =
    let all = sum_by-cons (λ (s : SegInfo). s.reserved) s ss in
    let base = low.0 in
    (omega (arith, all, base, sum), ends-low ss low.1 (omega (arith, all, sum)))

module _ (bytes : List ℕ) (image : Image) (p : Parts) (b : Budgets) (read : IsRead bytes image p) (fit : IsFit p)
    (budgets : AreLawfulBudgets b) where
  -- where the next segment begins, addresses are left
  pub opened-low : (opened p b).layout.top ≤ 2 ^ 60 + 2 ^ 30
  opened-low =
      let said = fields-found bytes p (length bytes) (fields-of bytes p read.is) in
      let is = heap bytes image p b read fit budgets in
      let within = is.within_limit in
      let small = is.limit_small in
      said.top (2 ^ 60 + 2 ^ 30) (ends-low p.body.heap.segments fit.low (omega (arith, within, small)))

  module _ (s : Standing) (types : s.types ≡ image.types) (locals : s.locals.items ≡ image.locals.items)
      (handles : s.handles ≡ image.handles) (entries : s.finals.entries ≡ image.finals.entries)
      (ready : s.finals.ready ≡ image.finals.ready)
      (safe_is : s.safe ≡ (let t : Threads = record {
        begun = map (begun_of image.types) image.steps.items;
        holder = image.holder;
      } in t))
      (compacts : s.compacts_large ≡ image.compact_large)
      (owed : births_owed s.safe ≤ s.finals.spare)
      (relaid : IsRelaid image.types image.heap s.heap (opened_layout image.types image.heap image.steps.items)) where
    abbrev rows : List TypeRow
    rows = p.types

    abbrev h : HeapView
    h = p.body.heap

    abbrev steps : List Step
    steps = p.rest.tables.steps

    rows_are : s.types ≡ rows
    rows_are = types ∙ read.shows.types

    laid : IsRelaid rows h s.heap (opened_layout rows h steps)
    laid =
        subst (λ (ss : List Step). IsRelaid rows h s.heap (opened_layout rows h ss)) read.shows.steps
        (back bytes image p b read fit budgets
        (λ r g. IsRelaid r g s.heap (opened_layout r g image.steps.items)) relaid)

    begun_are : s.safe.begun ≡ map (begun_of rows) steps
    begun_are =
        ap (λ (t : Threads). t.begun) safe_is
        ∙ ap₂ (λ (r : List TypeRow) (ss : List Step). map (begun_of r) ss) read.shows.types read.shows.steps

    machine-is : standing_machine s (options_with p b) ≡ opened p b
    machine-is =
        let objects : objects_in s.types s.heap ≡ objects_in rows h =
        ap (λ (r : List TypeRow). objects_in r s.heap) rows_are ∙ laid.objects in
        let layout : layout_in s.types s.heap ≡ opened_layout rows h steps =
        ap (λ (r : List TypeRow). layout_in r s.heap) rows_are ∙ laid.layout in
        let all_steps : map step_by s.safe.begun ≡ map thread_step steps =
        ap (map step_by) begun_are ∙ steps-same rows steps in
        let all_locals = locals ∙ read.shows.locals in
        let all_handles = handles ∙ sym (same_handles bytes image p b read fit budgets) in
        let all_entries = entries ∙ read.shows.entries in
        let all_ready = ready ∙ read.shows.ready in
        let holder = ap (λ (t : Threads). t.holder) safe_is ∙ read.shows.holder in
        let compact = compacts ∙ read.shows.compact_large in
        λ i. record (opened p b) {
          types = rows_are i;
          objects = objects i;
          locals = all_locals i;
          handles = all_handles i;
          entries = all_entries i;
          ready = all_ready i;
          steps = all_steps i;
          holder = holder i;
          layout = layout i;
          compacts_large = compact i;
        }

    clear : IsShown (world_in s) no_sums (options_with p b) s.safe (ahead_in s)
    clear =
        let is = faultless bytes image p b read fit budgets in
        let lawful = opened-lawful bytes image p b read fit budgets in
        let is_heap = heap bytes image p b read fit budgets in
        let is_held = held bytes image p b read fit budgets in
        record {
          locals = ap length (locals ∙ read.shows.locals) ∙ lawful.lawful.locals;
          held = subst (λ (r : List TypeRow). IsHeld r s.heap) (sym rows_are) laid.held;
          unmarked = subst (λ (r : List TypeRow). IsUnmarked r s.heap) (sym rows_are)
              (unmarked_kept rows h is_heap is_held s.heap laid.objects laid.cells is.unmarked);
          free_heads =
              subst (λ (r : List TypeRow). AreFreeHeads r s.heap) (sym rows_are) (laid.free_heads is.free_heads);
          clean = subst (λ (r : List TypeRow). AreClean r s.heap) (sym rows_are) (laid.clean is.clean);
          sound = subst IsPlaceNamed (sym machine-is) lawful;
          marked = λ on. absurd (none on);
        }
      where
        none : false ≡ true → ⊥
        none e = cc

    -- A RUN GOES ON
    pub stands-as : StandsAs s p b
    stands-as =
        let said = fields-found bytes p (length bytes) (fields-of bytes p read.is) in
        record {
          goes_on = record {
            shown = clear;
            owed = owed;
            finalizers = subst (λ (r : List TypeRow). AllByRecursion (TellsFinalizer r) s.safe.begun) (sym rows_are)
                (subst (AllByRecursion (TellsFinalizer rows)) (sym begun_are) (all-told rows steps));
            limit = laid.limit ∙ said.heap_limit;
          };
          machine = machine-is;
        }
