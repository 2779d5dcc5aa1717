-- A machine that was saved is opened.
use Rattle.std.proofs.Common.{◌≡◌, ℕ, ◌+◌, List, [], ◌∷◌, map, refl, sym, ap, ap₂, ◌∙◌}
use Rattle.std.specs.Cmp.{nat_cmp_total}
use Rattle.std.specs.FinMap as finmap
use Rattle.std.specs.FinMap.{FinMap}
use Rattle.std.specs.Ordering.{nat_cmp}
use Rattle.clr_types.specs.Segments.{Layout}
use Rattle.clr_types.specs.declared.handle.Handle.{Handle}
use Rattle.clr_types.proofs.MapValues.{map_values-same}
use Rattle.clr_model.specs.Machine.{begun_new, begun_store, no_step, ThreadStep}
use Rattle.clr_format.specs.TableFields.{Tables}
use Rattle.clr_save.specs.SavedImages.{AreMachineParts}
use Rattle.clr_save.specs.Snapshots.{step_of, steps_of}
use Rattle.clr_save.proofs.SavedImages.{parts-say}
use Rattle.clr_view.specs.View.{objects_in}
use Rattle.clr_opened.specs.Laws.{OpenedLaw}
use Rattle.clr_opened.specs.Opened.{thread_step}
use Rattle.clr_opened.proofs.SavedObjects.{parts-written, saved-objects}

-- what a thread has begun is read back
step-opened : (layout : Layout) (t : ℕ) (s : ThreadStep) → thread_step (step_of layout t s) ≡ s
step-opened layout t no_step = refl
step-opened layout t (begun_store object slot) = refl
step-opened layout t (begun_new type len local) = refl

-- what all threads have begun is read back
pub steps-opened : (layout : Layout) (t : ℕ) (ss : List ThreadStep) → map thread_step (steps_of layout t ss) ≡ ss
steps-opened layout t [] = refl
steps-opened layout t (s ∷ ss) =
    ap₂ (λ (x : ThreadStep) (xs : List ThreadStep). x ∷ xs) (step-opened layout t s) (steps-opened layout (t + 1) ss)

-- a table is made again of its entries
pub map-opened : (m : FinMap nat_cmp Handle) → finmap.from_entries (finmap.entries m) ≡ m
map-opened m =
    map_values-same (finmap.from_entries (finmap.entries m)) m
    (λ k. finmap.get-from_entries nat_cmp_total (finmap.entries m) k ∙ sym (finmap.get-entries m k))

-- the opened machine has what the image says
pub opened-parts : OpenedLaw
opened-parts s m heap shows sound few_entries few_ready fit image p is parts image_heap b =
    let are = parts-written s m heap shows sound few_entries few_ready p is in
    let says : AreMachineParts m p = parts-say s m heap shows sound few_entries few_ready p are in
    let objects = saved-objects s m heap shows sound few_entries few_ready fit image p is parts image_heap in
    record {
      types = says.types;
      objects = sym (ap₂ objects_in parts.types parts.heap) ∙ objects;
      locals = says.locals;
      handles = ap (λ (t : Tables). finmap.from_entries {R = nat_cmp} t.handles) says.tables ∙ map-opened m.handles;
      entries = ap (λ (t : Tables). t.entries) says.tables;
      ready = ap (λ (t : Tables). t.ready) says.tables;
      steps = ap (λ (t : Tables). map thread_step t.steps) says.tables ∙ steps-opened m.layout 1 m.steps;
      holder = ap (λ (t : Tables). t.holder) says.tables;
      segments = says.segments;
      start1 = says.start1;
      start0 = says.start0;
      limit = says.limit;
      large = says.large;
      compacts_large = says.compact_large;
    }
