-- The parts of the view are those of the runtime.
use Rattle.clr_lines.proofs.RuntimeViews.{IsTakenFrom, taken_clean, taken_lawful, taken_seen}
use Rattle.clr_lines.proofs.looks.view_of.Goals as goal

pub returns : goal.returns
returns c =
    let heap = c.heap-heap.ensures in
    let taken : IsTakenFrom _ c.args.runtime.now.machine = record {
      types = c.types.ensures;
      objects = heap.objects;
      layout = heap.layout;
      heap = c.lawful.ensures;
      held = heap.held;
      unmarked = heap.unmarked;
      free_heads = heap.free_heads;
      clean = heap.clean;
      sound = heap.sound;
      bricks = c.bricks.ensures.covers;
      brick_law = c.bricks.ensures.law;
      locals = c.locals.ensures.value;
      handles = c.handles.ensures;
      entries = c.finals.ensures.entries;
      ready = c.finals.ensures.ready;
      limit = c.limit.ensures;
      large = c.large.ensures;
    } in
    record { seen = taken_seen _ _ taken; lawful = taken_lawful _ _ taken; clean = taken_clean _ _ taken }
