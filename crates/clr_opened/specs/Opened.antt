-- The state that an image says, to go on from.
use Rattle.std.specs.Prelude.{ℕ, List, find, filter, map, nat_eq, not, None, Option}
use Rattle.std.specs.List.{flat_map}
use Rattle.std.specs.FinMap as finmap
use Rattle.clr_types.specs.Ranges.{Piece}
use Rattle.clr_types.specs.Segments.{ephemeral, Layout}
use Rattle.clr_types.specs.Types.{TypeRow}
use Rattle.clr_heap.specs.View.{frame, HeapView}
use Rattle.clr_view.specs.View.{free_in, objects_in}
use Rattle.clr_model.specs.Machine.{begun_new, begun_store, Machine, no_step, Options, ThreadStep}
use Rattle.clr_format.specs.Images.{Parts}
use Rattle.clr_format.specs.NameTests.{fronts_of, is_among}
use Rattle.clr_sos.specs.declared.step.Step.{Step}
use Rattle.clr_sos.specs.declared.step.Step.TheVariants.{Idle, Store, Begun}
use Rattle.clr_settled.specs.Settled.{no_sums}

-- what an image doesn't say
pub record Budgets : Type 0 where
  pub b0 : ℕ
  pub b1 : ℕ
  pub b2 : ℕ
  pub bl : ℕ
  pub compact : ℕ

-- limit and least size of large objects as the image says, and segments as long as its ephemeral one
abbrev pub options_with : Parts → Budgets → Options
options_with p b = record {
  limit = p.head.limit;
  segment = (ephemeral (frame p.body.heap)).reserved;
  b0 = b.b0;
  b1 = b.b1;
  b2 = b.b2;
  bl = b.bl;
  compact = b.compact;
  large = p.head.large;
}

-- ---- what threads have begun

abbrev pub thread_step : Step → ThreadStep
thread_step Idle = no_step
thread_step (Store object slot) = begun_store object slot
thread_step (Begun t len local front) = begun_new t.0 len local

-- the free item at whose front a begun object is to stand is its thread's context
abbrev pub front_rest : List Piece → Step → Option Piece
front_rest free Idle = None
front_rest free (Store object slot) = None
front_rest free (Begun t len local front) = find (λ (p : Piece). nat_eq p.place front) free

abbrev pub opened_layout : List TypeRow → HeapView → List Step → Layout
opened_layout rows h steps = record (frame h) {
  free = filter (λ (p : Piece). not (is_among (flat_map fronts_of steps) p.place)) (free_in rows h);
  rests = map (front_rest (free_in rows h)) steps;
}

-- ---- the whole

-- THE STATE THAT AN IMAGE SAYS, each object named by its place
abbrev pub opened : Parts → Budgets → Machine
opened p b = record {
  types = p.types;
  born = 0;
  objects = objects_in p.types p.body.heap;
  locals = p.rest.locals;
  handles = finmap.from_entries p.rest.tables.handles;
  entries = p.rest.tables.entries;
  ready = p.rest.tables.ready;
  steps = map thread_step p.rest.tables.steps;
  holder = p.rest.tables.holder;
  layout = opened_layout p.types p.body.heap p.rest.tables.steps;
  sums = no_sums;
  options = options_with p b;
  compacts_large = p.head.compact_large;
  background = None;
}
