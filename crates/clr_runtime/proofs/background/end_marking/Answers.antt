-- The parts after the last pause show the picture of what it leaves of the machine that is seen.
use Rattle.std.proofs.Common.{◌∙◌, ap, arith, sym}
use Rattle.clr_model.specs.Collection.{EndsBackground}
use Rattle.clr_model.specs.Machine.{Machine}
use Rattle.clr_model.specs.Picture.{picture}
use Rattle.clr_view.specs.World.{IsWorldOf, World}
use Rattle.clr_survivors.specs.Survivors as survivors
use Rattle.clr_collect.specs.declared.collector.CollectorState.{CollectorState}
use Rattle.clr_runtime.specs.Marked.{marking_by}
use Rattle.clr_options.specs.Options.{options_of}
use Rattle.clr_runtime.specs.RuntimeView.{ahead_of, seen, sums_of, world_of}
use Rattle.clr_runtime.proofs.BackgroundParts.{parts_counted, parts_fronts, parts_log, parts_objects, parts_old}
use Rattle.clr_runtime.proofs.BackgroundParts.{parts_tiled, parts_whole, runs_seen, same_old}
use Rattle.clr_runtime.proofs.CollectLines.{whole_world}
use Rattle.clr_runtime.proofs.EndedParts.{ended_kept, ended_told, has_ended}
use Rattle.clr_runtime.proofs.PinnedRoom.{ready_on}
use Rattle.clr_runtime.proofs.StepsKept.{tables-carded}
use Rattle.clr_runtime.proofs.TidyParts.{runtime_tidy}
use Rattle.clr_runtime.proofs.background.end_marking.Goals as goal
use Rattle.clr_runtime.proofs.background.end_marking.Goals.{After-end_background-collected}

-- what the last pause leaves
abbrev left_world : After-end_background-collected → World
left_world c =
    let new = c.end_background-collected.new in
    survivors.world_of c.args.parts.now.types new.space.heap new.roots

told : (c : After-end_background-collected)
    → (after : Machine)
    × EndsBackground (seen c.args.parts.now) (marking_by c.args.parts.now.background.shades)
    c.end_background-collected.result after
    × IsWorldOf (left_world c) (picture after)
told c =
    let p = c.args.parts.now in
    ended_told (world_of p) (sums_of p.sums) (options_of p.options) p.safe (ahead_of p) c.requires.runtime.shown
    c.requires.idle _ (marking_by p.background.shades) (sym (same_old p c.requires.runtime c.requires.running))
    (left_world c) c.end_background-collected.result c.end_background-collected.ensures.collected

pub end_background-collected-requires-clause-tidy : goal.end_background-collected-requires-clause-tidy
end_background-collected-requires-clause-tidy c = runtime_tidy c.args.parts.now c.requires.runtime c.requires.idle

pub end_background-collected-requires-clause-world : goal.end_background-collected-requires-clause-world
end_background-collected-requires-clause-world c = whole_world c.requires.runtime.shown c.requires.idle

pub end_background-collected-requires-clause-objects : goal.end_background-collected-requires-clause-objects
end_background-collected-requires-clause-objects c =
    parts_objects c.args.parts.now c.requires.runtime c.requires.running

pub end_background-collected-requires-clause-log : goal.end_background-collected-requires-clause-log
end_background-collected-requires-clause-log c =
    parts_log c.args.parts.now c.requires.runtime c.requires.running c.requires.idle

pub end_background-collected-requires-clause-whole : goal.end_background-collected-requires-clause-whole
end_background-collected-requires-clause-whole c =
    parts_whole c.args.parts.now c.requires.runtime c.requires.running

pub end_background-collected-requires-clause-counted : goal.end_background-collected-requires-clause-counted
end_background-collected-requires-clause-counted c =
    parts_counted c.args.parts.now c.requires.runtime c.requires.running

pub end_background-collected-requires-clause-parts : goal.end_background-collected-requires-clause-parts
end_background-collected-requires-clause-parts c =
    parts_old c.args.parts.now c.requires.runtime c.requires.running

pub end_background-collected-requires-clause-tiled : goal.end_background-collected-requires-clause-tiled
end_background-collected-requires-clause-tiled c =
    parts_tiled c.args.parts.now c.requires.runtime c.requires.running

pub end_background-collected-requires-clause-room : goal.end_background-collected-requires-clause-room
end_background-collected-requires-clause-room c =
    parts_fronts c.args.parts.now c.requires.runtime c.requires.running

pub returns-clause-ended : goal.returns-clause-ended
returns-clause-ended c =
    let before = (goal.at.returns-clause-ended c).After-end_background-collected in
    let p = c.args.parts.now in
    let (after, ends, same) = has_ended c.requires.runtime.shown c.requires.idle (marking_by p.background.shades)
    (runs_seen p c.requires.runtime c.requires.running) (left_world before)
    c.end_background-collected.result (told before) in
    rw c.collected-parts.ensures
    (rw (c.end_background-collected.ensures.background, c.end_background-collected.ensures.collector) (
      marking_by p.background.shades,
      runs_seen p c.requires.runtime c.requires.running,
      after,
      ends,
      same,
    ))

pub returns-clause-runtime : goal.returns-clause-runtime
returns-clause-runtime c =
    let before = (goal.at.returns-clause-runtime c).After-end_background-collected in
    let p = c.args.parts.now in
    let done = c.end_background-collected in
    let space = done.new.space in
    let tidy = done.ensures.tidy in
    record {
      shown = rw c.collected-parts.ensures
          (rw (done.ensures.background, done.ensures.collector)
          (ended_kept c.requires.runtime.shown c.requires.idle (marking_by p.background.shades)
          (runs_seen p c.requires.runtime c.requires.running) (left_world before)
          done.result (told before) tidy.held done.ensures.unmarked tidy.free_heads tidy.clean));
      heap = tidy.heap;
      tables = tables-carded space.cards p.safe space.bricks p.types space.heap tidy.tables;
      owed =
          let owed = c.requires.runtime.owed in
          let more = done.ensures.spare in
          omega (arith, owed, more);
      finalizers = c.requires.runtime.finalizers;
      index = done.ensures.index;
      large = rw c.lose.ensures tt;
      pinned = rw c.lose-2.ensures tt;
      limit = done.ensures.limit ∙ c.requires.runtime.limit;
      ready = ready_on p.roots.handles done.new.roots.handles p.collector.pins done.new.collector.pins
          (ap (λ (w : CollectorState). w.pins) done.ensures.collector) done.ensures.pinned c.requires.runtime.ready;
    }
