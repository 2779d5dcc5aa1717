-- The parts after a collection show the picture of what it leaves of the machine that is seen.
use Rattle.std.proofs.Common.{◌∙◌, ap, arith}
use Rattle.clr_view.specs.World.{World}
use Rattle.clr_survivors.specs.Survivors as survivors
use Rattle.clr_mark.specs.Waiting.{MarkerView}
use Rattle.clr_options.specs.Options.{options_of}
use Rattle.clr_runtime.specs.RuntimeView.{ahead_of, sums_of, world_of}
use Rattle.clr_runtime.proofs.CollectLines.{collect_kept, counts_of, first_fits, has_collected, moves_of}
use Rattle.clr_runtime.proofs.CollectLines.{no_contexts-after}
use Rattle.clr_runtime.proofs.StepsKept.{tables-carded}
use Rattle.clr_runtime.proofs.CollectLines.{second_fits, Told, told_of, whole_world}
use Rattle.clr_runtime.proofs.TidyParts.{runtime_tidy}
use Rattle.clr_runtime.proofs.collections.collect_parts.Goals as goal
use Rattle.clr_runtime.proofs.collections.collect_parts.Goals.{After-collect-collected}

-- what the collection leaves
abbrev left_world : After-collect-collected → World
left_world c =
    let new = c.collect-collected.new in
    survivors.world_of c.args.parts.now.types new.space.heap new.roots

-- the collection of the machine that is seen
told : (c : After-collect-collected) → Told (world_of c.args.parts.now) (sums_of c.args.parts.now.sums)
    (options_of c.args.parts.now.options) c.args.parts.now.safe (ahead_of c.args.parts.now) c.args.g c.args.how
    (left_world c) c.collect-collected.result
told c =
    let p = c.args.parts.now in
    let done = c.collect-collected in
    told_of (world_of p) (sums_of p.sums) (options_of p.options) p.safe (ahead_of p) c.requires.runtime.shown
    c.requires.idle c.args.g c.args.how (left_world c) done.result p.collector.slides done.new.collector.slides
    done.ensures.collected

pub collect-collected-requires-clause-tidy : goal.collect-collected-requires-clause-tidy
collect-collected-requires-clause-tidy c = runtime_tidy c.args.parts.now c.requires.runtime c.requires.idle

pub collect-collected-requires-clause-world : goal.collect-collected-requires-clause-world
collect-collected-requires-clause-world c = whole_world c.requires.runtime.shown c.requires.idle

pub collected-parts-requires-clause-first : goal.collected-parts-requires-clause-first
collected-parts-requires-clause-first c =
    let before = (goal.at.collected-parts-requires-clause-first c).After-collect-collected in
    first_fits c.requires.runtime.shown c.requires.idle c.args.g c.requires.generation c.args.how c.requires.usual
    (left_world before)
    c.collect-collected.result (told before)

pub collected-parts-requires-clause-second : goal.collected-parts-requires-clause-second
collected-parts-requires-clause-second c =
    let before = (goal.at.collected-parts-requires-clause-second c).After-collect-collected in
    second_fits c.requires.runtime.shown c.requires.idle c.args.g c.requires.generation c.args.how c.requires.usual
    (left_world before)
    c.collect-collected.result (told before)

pub returns-clause-collected : goal.returns-clause-collected
returns-clause-collected c =
    let before = (goal.at.returns-clause-collected c).After-collect-collected in
    rw c.collected-parts.ensures
    (rw c.stop_after.ensures
    (rw c.collect-collected.ensures.flag
    (has_collected c.requires.runtime.shown c.requires.idle c.args.g c.requires.generation c.args.how
    c.requires.usual (left_world before)
    c.collect-collected.result (told before))))

pub returns-clause-no_contexts : goal.returns-clause-no_contexts
returns-clause-no_contexts c =
    let before = (goal.at.returns-clause-no_contexts c).After-collect-collected in
    no_contexts-after c.requires.runtime.shown c.requires.idle c.args.g c.requires.generation c.args.how
    c.requires.usual
    (left_world before)
    c.collect-collected.result (told before)

pub returns-clause-runtime : goal.returns-clause-runtime
returns-clause-runtime c =
    let p = c.args.parts.now in
    let done = c.collect-collected in
    let space = done.new.space in
    let tidy = done.ensures.tidy in
    let before = (goal.at.returns-clause-runtime c).After-collect-collected in
    record {
      shown = rw c.collected-parts.ensures
          (rw c.stop_after.ensures
          (rw done.ensures.flag
          (collect_kept c.requires.runtime.shown c.requires.idle c.args.g c.requires.generation c.args.how
          c.requires.usual
          (left_world before)
          done.result
          (told before) tidy.held done.ensures.unmarked tidy.free_heads tidy.clean)));
      heap = tidy.heap;
      tables = tables-carded space.cards p.safe space.bricks p.types space.heap tidy.tables;
      owed =
          let owed = c.requires.runtime.owed in
          let more = done.ensures.spare in
          omega (arith, owed, more);
      finalizers = c.requires.runtime.finalizers;
      index = done.ensures.index;
      large = rw c.lose.ensures tt;
      pinned = rw c.lose-2.ensures tt;
      limit = done.ensures.limit ∙ c.requires.runtime.limit;
      ready = done.ensures.ready;
    }

pub returns-clause-slides : goal.returns-clause-slides
returns-clause-slides c =
    let before = (goal.at.returns-clause-slides c).After-collect-collected in
    let p = c.args.parts.now in
    let done = c.collect-collected in
    counts_of (world_of p) (sums_of p.sums) (options_of p.options) p.safe (ahead_of p) c.requires.runtime.shown
    c.requires.idle c.args.g c.args.how (left_world before) done.result p.collector.slides done.new.collector.slides
    done.ensures.collected

pub returns-clause-moved : goal.returns-clause-moved
returns-clause-moved c =
    let before = (goal.at.returns-clause-moved c).After-collect-collected in
    let p = c.args.parts.now in
    let done = c.collect-collected in
    rw c.collected-parts.ensures
    (rw c.stop_after.ensures
    (rw done.ensures.flag
    (moves_of (world_of p) (sums_of p.sums) (options_of p.options) p.safe (ahead_of p) c.requires.runtime.shown
    c.requires.idle c.args.g c.requires.generation c.args.how c.requires.usual (left_world before) done.result
    p.collector.slides done.new.collector.slides done.ensures.collected)))

pub returns-clause-stack : goal.returns-clause-stack
returns-clause-stack c = ap (λ (m : MarkerView). m.capacity) c.collect-collected.ensures.marker
