-- The heap at the start: it has no free items, and the index of nothing is its index.
use Rattle.std.proofs.Common.{◌≡◌, ℕ, ◌-◌, ◌%◌, true, false, [], filter, replicate, slice_get, refl, ap, sym, ◌∙◌}
use Rattle.std.proofs.Common.{subst, Option, Some, None, arith, length}
use Rattle.std.specs.Prelude.{List}
use Rattle.clr_types.specs.Types.{TypeRow}
use Rattle.clr_types.specs.Ranges.{IsLawfulSize, Piece}
use Rattle.clr_types.specs.Segments.{Layout}
use Rattle.clr_heap.specs.View.{HeapView, no_rests, opening_heap}
use Rattle.clr_model.specs.Allocation.{is_young_item, IsRefilled, with_layout}
use Rattle.clr_model.specs.Lawful.{AreLawfulOptions, IsLaid, IsLawful}
use Rattle.clr_model.specs.Lookups.{is_step, is_thread, step_or_none}
use Rattle.clr_model.specs.Machine.{Machine, no_step, Options, ThreadStep}
use Rattle.clr_model.specs.Run.{opening}
use Rattle.clr_model.specs.Updates.{all_given_up}
use Rattle.clr_model.proofs.ContextRefilled.{refill_lawful}
use Rattle.clr_model.proofs.GivenUp.{given_up_laid}
use Rattle.clr_model.proofs.Opening.{opening_lawful}
use Rattle.clr_view.specs.Memory.{IsMemoryOf}
use Rattle.clr_view.specs.View.{HasGivenUp, HasRefilled, IsHeld, layout_in, objects_in}
use Rattle.clr_view.proofs.Opening.{held_at_start, layout_at_start, no_free, no_objects}
use Rattle.clr_ctx.specs.Contexts.{IsIndex}

-- a heap that is the one at the start is held
pub started_held : (rows : List TypeRow) (h : HeapView) (segment limit : ℕ) → segment % 4096 ≡ 0
    → h ≡ opening_heap segment limit → IsHeld rows h
started_held rows h segment limit aligned is = subst (IsHeld rows) (sym is) (held_at_start rows segment limit aligned)

-- and nothing is its index
pub started_index : (rows : List TypeRow) (h : HeapView) (index : Option (List Piece)) (segment limit : ℕ)
    → segment % 4096 ≡ 0 → h ≡ opening_heap segment limit → index ≡ Some [] → IsIndex rows h index
started_index rows h index segment limit aligned is empty =
    let start = opening_heap segment limit in
    let nothing : IsIndex rows start (Some []) =
    ap (filter (is_young_item (layout_in rows start))) (sym (no_free rows segment limit aligned)) in
    subst (IsIndex rows h) (sym empty) (subst (λ (g : HeapView). IsIndex rows g (Some [])) (sym is) nothing)

-- ---- a machine of the heap

-- the heap is the memory of a lawful machine none of whose threads is between the halves of a step
pub record HasMachine (rows : List TypeRow) (h : HeapView) : Type 0 where
  pub machine : Machine
  pub lawful : IsLawful machine
  pub memory : IsMemoryOf rows h machine
  pub idle : machine.steps ≡ replicate 16 no_step

-- at the start
pub started_machine : (rows : List TypeRow) (h : HeapView) (options : Options) → AreLawfulOptions options → rows ≡ []
    → h ≡ opening_heap options.segment options.limit → HasMachine rows h
unfolding opening
started_machine rows h options allowed none is =
    let aligned = allowed.segment_aligned in
    record {
      machine = opening options;
      lawful = (opening_lawful options allowed).lawful;
      memory = record {
        types = sym none;
        objects = sym (ap (objects_in rows) is ∙ no_objects rows options.segment options.limit aligned);
        layout = sym (ap (layout_in rows) is ∙ layout_at_start rows options.segment options.limit aligned);
      };
      idle = refl;
    }

-- after a refill
pub refilled_machine : (rows : List TypeRow) (old new : HeapView) (t size : ℕ) → is_thread t ≡ true
    → is_step (step_or_none (slice_get (replicate 16 no_step) (t - 1))) ≡ false → IsLawfulSize size
    → HasRefilled rows old new t size → HasMachine rows old → HasMachine rows new
refilled_machine rows old new t size thread idle sized refilled has = record {
  machine = with_layout has.machine (layout_in rows new);
  lawful =
      (refill_lawful has.machine has.lawful t thread
      (ap (λ (steps : List ThreadStep). is_step (step_or_none (slice_get steps (t - 1)))) has.idle ∙ idle) size sized
      (layout_in rows new)
      (subst (λ (l : Layout). IsRefilled l t size (layout_in rows new)) (sym has.memory.layout) refilled.layout)).0;
  memory = record {
    types = has.memory.types;
    objects = has.memory.objects ∙ sym refilled.objects;
    layout = refl;
  };
  idle = has.idle;
}

-- after all contexts are given up
pub given_laid : (rows : List TypeRow) (old new : HeapView) → HasMachine rows old → HasGivenUp rows old new
    → (m : Machine) × IsMemoryOf rows new m × IsLaid m
given_laid rows old new has given = (
  record has.machine { layout = all_given_up has.machine.layout },
  record {
    types = has.memory.types;
    objects = has.memory.objects ∙ sym given.objects;
    layout = ap all_given_up has.memory.layout ∙ sym given.layout;
  },
  given_up_laid has.machine has.lawful.laid,
)

-- and no thread has one
pub none_given : (rows : List TypeRow) (old new : HeapView) → HasMachine rows old → HasGivenUp rows old new
    → new.rests ≡ no_rests
none_given rows old new has given =
    ap (λ (l : Layout). l.rests) given.layout
    ∙ ap (λ (n : ℕ). replicate n None)
    (sym (ap (λ (l : Layout). length l.rests) has.memory.layout) ∙ has.lawful.laid.layout.threads)

-- what the heap of the tests may be
abbrev pub test_options : Options
test_options = record {
  limit = 1048576;
  segment = 262144;
  b0 = 0;
  b1 = 0;
  b2 = 0;
  bl = 0;
  compact = 50;
  large = 85000;
}

pub tests_allowed : AreLawfulOptions test_options
tests_allowed = record {
  segment_least = omega arith;
  segment_greatest = omega arith;
  segment_aligned = refl;
  limit_least = omega arith;
  limit_greatest = omega arith;
  b0 = omega arith;
  b1 = omega arith;
  b2 = omega arith;
  bl = omega arith;
  compact = omega arith;
  large_least = omega arith;
  large_greatest = omega arith;
}
