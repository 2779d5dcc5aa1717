-- What is kept is swept or moved, the large heap slides, and empty segments are given back.
use Rattle.std.proofs.Common.{◌∙◌, ap, refl, sym, arith, false, true}
use Rattle.std.proofs.Common.{◌≡◌, [], Bool, MatchBool, None, Some, subst}
use Rattle.clr_ctx.specs.Contexts.{IsIndex}
use Rattle.clr_model.specs.declared.Collected.{Collected}
use Rattle.clr_model.specs.Collection.{is_fit}
use Rattle.clr_model.specs.Lawful.{IsPlaceNamed}
use Rattle.clr_model.specs.Machine.{Machine}
use Rattle.clr_view.specs.World.{IsWorldOf, World}
use Rattle.clr_sweep.specs.Swept.{tally_of}
use Rattle.clr_survivors.specs.Moving.{IsMarkedFor}
use Rattle.clr_survivors.specs.Survivors.{world_of}
use Rattle.clr_collect.specs.declared.collector.CollectorState.{CollectorState}
use Rattle.clr_collect.proofs.BeforeSlide.{ComesTo, whole_collection}
use Rattle.clr_collect.proofs.KeptRoots.{ready_still, same_moves, same_world}
use Rattle.clr_collect.proofs.MovedWorld.{known_moved, moved_comes}
use Rattle.clr_collect.proofs.NamedKept.{marked_kept, pinned_kept}
use Rattle.clr_collect.proofs.SweptWorld.{full_swept, known_swept, swept_comes, tail_swept}
use Rattle.clr_collect.proofs.TidySpaces.{tidy_swept}
use Rattle.clr_collect.proofs.WholeCollection.{memory_laid, none_given, swept-unmarked}
use Rattle.clr_collect.proofs.collecting.collect.Goals as goal

pub mark_kept-requires-clause-world : goal.mark_kept-requires-clause-world
mark_kept-requires-clause-world c = let (m, w, named, idle) = c.requires.world in (m, w, named)

pub compacts-requires-clause-laid : goal.compacts-requires-clause-laid
compacts-requires-clause-laid c =
    memory_laid (world_of c.args.types.now c.args.space.now.heap c.args.roots.now)
    c.mark_kept.new.space.heap c.mark_kept.new.roots.handles c.mark_kept.new.roots.finals c.args.g c.requires.generation
    c.mark_kept.ensures.kept c.requires.world

pub sweep-swept-requires-clause-laid : goal.sweep-swept-requires-clause-laid
sweep-swept-requires-clause-laid c =
    memory_laid (world_of c.args.types.now c.args.space.now.heap c.args.roots.now)
    c.mark_kept.new.space.heap c.mark_kept.new.roots.handles c.mark_kept.new.roots.finals c.args.g c.requires.generation
    c.mark_kept.ensures.kept c.requires.world

-- ---- it swept

pub slide_and_release-requires-clause-tidy : goal.slide_and_release-requires-clause-tidy
slide_and_release-requires-clause-tidy c =
    tidy_swept (world_of c.args.types.now c.args.space.now.heap c.args.roots.now) c.mark_kept.new.space
    c.mark_kept.new.roots.handles c.mark_kept.new.roots.finals c.args.g c.requires.generation c.mark_kept.ensures.kept
    c.sweep-swept.new.heap c.sweep-swept.ensures.swept c.requires.world c.mark_kept.ensures.tidy
    c.sweep-swept.new.bricks c.sweep-swept.ensures.spans c.sweep-swept.ensures.brick_law

pub slide_and_release-requires-clause-no_contexts : goal.slide_and_release-requires-clause-no_contexts
slide_and_release-requires-clause-no_contexts c =
    none_given (world_of c.args.types.now c.args.space.now.heap c.args.roots.now)
    c.mark_kept.new.space.heap c.mark_kept.new.roots.handles c.mark_kept.new.roots.finals c.args.g c.requires.generation
    c.mark_kept.ensures.kept c.sweep-swept.new.heap c.sweep-swept.ensures.swept c.requires.world

pub slide_and_release-requires-clause-unmarked : goal.slide_and_release-requires-clause-unmarked
slide_and_release-requires-clause-unmarked c =
    swept-unmarked (world_of c.args.types.now c.args.space.now.heap c.args.roots.now)
    c.mark_kept.new.space.heap c.mark_kept.new.roots.handles c.mark_kept.new.roots.finals c.args.g c.requires.generation
    c.mark_kept.ensures.kept c.sweep-swept.new.heap c.sweep-swept.ensures.swept

pub slide_and_release-requires-clause-world : goal.slide_and_release-requires-clause-world
slide_and_release-requires-clause-world c =
    subst (λ (v : World). (n : Machine) × IsWorldOf v n × IsPlaceNamed n)
    (same_world c.args.types.now c.sweep-swept.new.heap c.args.roots.now c.mark_kept.new.roots
    c.mark_kept.ensures.locals) (known_swept (world_of c.args.types.now c.args.space.now.heap c.args.roots.now)
    c.mark_kept.new.space.heap c.mark_kept.new.roots.handles c.mark_kept.new.roots.finals c.args.g c.requires.generation
    c.mark_kept.ensures.kept c.sweep-swept.new.heap c.sweep-swept.ensures.swept c.requires.world)

pub slide_and_release-requires-clause-occupied : goal.slide_and_release-requires-clause-occupied
slide_and_release-requires-clause-occupied c =
    let (m, is, named, idle) = c.requires.world in
    full_swept (world_of c.args.types.now c.args.space.now.heap c.args.roots.now)
    c.mark_kept.new.space.heap c.mark_kept.new.roots.handles c.mark_kept.new.roots.finals c.args.g c.requires.generation
    c.mark_kept.ensures.kept c.sweep-swept.new.heap c.sweep-swept.ensures.swept m is named

pub slide_and_release-requires-clause-ready : goal.slide_and_release-requires-clause-ready
slide_and_release-requires-clause-ready c =
    ready_still c.args.roots.now.handles c.mark_kept.new.roots.handles c.args.collector.now.pins
    (pinned_kept (world_of c.args.types.now c.args.space.now.heap c.args.roots.now)
    c.mark_kept.new.space.heap c.mark_kept.new.roots.handles c.mark_kept.new.roots.finals c.args.g c.requires.generation
    c.mark_kept.ensures.kept c.requires.world) c.requires.ready

pub returns-then-not-compacts-clause-collected : goal.returns-then-not-compacts-clause-collected
returns-then-not-compacts-clause-collected c =
    let slides = c.args.collector.now.slides in
    whole_collection (world_of c.args.types.now c.args.space.now.heap c.args.roots.now) c.args.g c.args.how
    c.requires.usual c.args.threshold c.answer.result
    (world_of c.args.types.now c.sweep-swept.new.heap c.mark_kept.new.roots)
    (world_of c.args.types.now c.slide_and_release.new.space.heap c.slide_and_release.new.roots) slides
    c.slide_and_release.new.collector.slides c.args.collector.now.compacts_large
    (subst (ComesTo (world_of c.args.types.now c.args.space.now.heap c.args.roots.now) c.args.g c.args.how
    c.args.threshold c.answer.result (world_of c.args.types.now c.sweep-swept.new.heap c.mark_kept.new.roots) slides)
    (sym (ap (λ (s : CollectorState). s.slides) c.slide_and_release.ensures.collector))
    (subst (λ (v : World). ComesTo (world_of c.args.types.now c.args.space.now.heap c.args.roots.now) c.args.g
    c.args.how c.args.threshold c.answer.result v slides slides)
    (same_world c.args.types.now c.sweep-swept.new.heap c.args.roots.now c.mark_kept.new.roots
    c.mark_kept.ensures.locals) (swept_comes (world_of c.args.types.now c.args.space.now.heap c.args.roots.now)
    c.mark_kept.new.space.heap c.mark_kept.new.roots.handles c.mark_kept.new.roots.finals c.args.g c.requires.generation
    c.mark_kept.ensures.kept c.sweep-swept.new.heap c.sweep-swept.ensures.swept c.args.how c.requires.usual
    c.args.threshold
    (λ n kept memory laid marks same. sym c.if-not-compacts.true
    ∙ c.compacts.ensures.decides n kept memory laid marks same)
    c.sweep-swept.result c.sweep-swept.ensures.tally c.answer.result c.answer.ensures slides)))
    c.slide_and_release.ensures.ended

pub returns-then-not-compacts-clause-flag : goal.returns-then-not-compacts-clause-flag
returns-then-not-compacts-clause-flag c = ap (λ (s : CollectorState). s.compacts_large)
    c.slide_and_release.ensures.collector

pub returns-then-not-compacts-clause-marker : goal.returns-then-not-compacts-clause-marker
returns-then-not-compacts-clause-marker c =
    ap (λ (s : CollectorState). s.marker) c.slide_and_release.ensures.collector ∙ c.mark_kept.ensures.marker

pub returns-then-not-compacts-clause-index : goal.returns-then-not-compacts-clause-index
returns-then-not-compacts-clause-index c =
    let (m, is, named, idle) = c.requires.world in
    subst (IsIndex c.args.types.now c.slide_and_release.new.space.heap) (sym c.forget.ensures)
    (c.slide_and_release.ensures.index
    (tail_swept (world_of c.args.types.now c.args.space.now.heap c.args.roots.now)
    c.mark_kept.new.space.heap c.mark_kept.new.roots.handles c.mark_kept.new.roots.finals c.args.g c.requires.generation
    c.mark_kept.ensures.kept c.sweep-swept.new.heap c.sweep-swept.ensures.swept m is named))

pub returns-then-not-compacts-clause-limit : goal.returns-then-not-compacts-clause-limit
returns-then-not-compacts-clause-limit c =
    c.slide_and_release.ensures.limit ∙ c.sweep-swept.ensures.swept.limit ∙ c.mark_kept.ensures.kept.limit

pub returns-then-not-compacts-clause-spare : goal.returns-then-not-compacts-clause-spare
returns-then-not-compacts-clause-spare c =
    let kept = c.mark_kept.ensures.spare in
    let still = c.slide_and_release.ensures.numbers.spare in
    omega (arith, kept, still)

pub returns-then-not-compacts-clause-none_added : goal.returns-then-not-compacts-clause-none_added
returns-then-not-compacts-clause-none_added c =
    let kept = c.mark_kept.ensures.none_added in
    let still = c.slide_and_release.ensures.numbers.spare in
    let many = c.slide_and_release.ensures.numbers.entries in
    omega (arith, kept, still, many)

pub returns-then-not-compacts-clause-index_after : goal.returns-then-not-compacts-clause-index_after
returns-then-not-compacts-clause-index_after c =
    let sweeps : c.answer.result.compacted ≡ false = ap (λ (a : Collected). a.compacted) c.answer.ensures in
    subst (λ (b : Bool). MatchBool b (c.forget.new.self ≡ None) (c.forget.new.self ≡ Some [])) (sym sweeps)
    c.forget.ensures

-- ---- it compacted

pub move_kept-tally-requires-clause-marked : goal.move_kept-tally-requires-clause-marked
move_kept-tally-requires-clause-marked c =
    subst (λ (v : World). IsMarkedFor v c.args.g)
    (same_world c.args.types.now c.mark_kept.new.space.heap c.args.roots.now c.mark_kept.new.roots
    c.mark_kept.ensures.locals) (marked_kept (world_of c.args.types.now c.args.space.now.heap c.args.roots.now)
    c.mark_kept.new.space.heap c.mark_kept.new.roots.handles c.mark_kept.new.roots.finals c.args.g c.requires.generation
    c.mark_kept.ensures.kept c.requires.world)

pub move_kept-tally-requires-clause-ready : goal.move_kept-tally-requires-clause-ready
move_kept-tally-requires-clause-ready c =
    ready_still c.args.roots.now.handles c.mark_kept.new.roots.handles c.args.collector.now.pins
    (pinned_kept (world_of c.args.types.now c.args.space.now.heap c.args.roots.now)
    c.mark_kept.new.space.heap c.mark_kept.new.roots.handles c.mark_kept.new.roots.finals c.args.g c.requires.generation
    c.mark_kept.ensures.kept c.requires.world) c.requires.ready

pub slide_and_release-requires-2-clause-world : goal.slide_and_release-requires-2-clause-world
slide_and_release-requires-2-clause-world c =
    known_moved (world_of c.args.types.now c.args.space.now.heap c.args.roots.now)
    c.mark_kept.new.space.heap c.mark_kept.new.roots.handles c.mark_kept.new.roots.finals c.args.g c.requires.generation
    c.mark_kept.ensures.kept c.move_kept-tally.new.space.heap c.move_kept-tally.new.roots.locals.items
    c.move_kept-tally.new.roots.handles c.move_kept-tally.new.roots.finals
    c.move_kept-tally.result.promoted1 c.move_kept-tally.result.promoted2 c.args.collector.now.slides
    c.move_kept-tally.new.slides (is_fit c.args.how)
    (same_moves
    c.args.types.now c.mark_kept.new.space.heap c.args.roots.now c.mark_kept.new.roots c.mark_kept.ensures.locals
    (is_fit c.args.how) (world_of c.args.types.now c.move_kept-tally.new.space.heap c.move_kept-tally.new.roots)
    c.args.g c.move_kept-tally.result.promoted1 c.move_kept-tally.result.promoted2 c.args.collector.now.slides
    c.move_kept-tally.new.slides c.move_kept-tally.ensures.moved)
    (tally_of c.args.types.now c.mark_kept.new.space.heap c.args.g) refl
    (record {
      generation = c.args.g;
      compacted = true;
      fitted = is_fit c.args.how;
      background = false;
      kept = (tally_of c.args.types.now c.mark_kept.new.space.heap c.args.g).kept;
      freed = (tally_of c.args.types.now c.mark_kept.new.space.heap c.args.g).freed;
      promoted1 = c.move_kept-tally.result.promoted1;
      promoted2 = c.move_kept-tally.result.promoted2;
    }) refl c.args.how c.requires.usual refl c.requires.world

pub returns-clause-collected : goal.returns-clause-collected
returns-clause-collected c =
    let slides = c.args.collector.now.slides in
    whole_collection (world_of c.args.types.now c.args.space.now.heap c.args.roots.now) c.args.g c.args.how
    c.requires.usual c.args.threshold c.answer-2.result
    (world_of c.args.types.now c.move_kept-tally.new.space.heap c.move_kept-tally.new.roots)
    (world_of c.args.types.now c.slide_and_release-2.new.space.heap c.slide_and_release-2.new.roots) slides
    c.slide_and_release-2.new.collector.slides c.args.collector.now.compacts_large
    (subst (ComesTo (world_of c.args.types.now c.args.space.now.heap c.args.roots.now) c.args.g c.args.how
    c.args.threshold c.answer-2.result (world_of c.args.types.now c.move_kept-tally.new.space.heap
    c.move_kept-tally.new.roots) slides)
    (sym (ap (λ (s : CollectorState). s.slides) c.slide_and_release-2.ensures.collector))
    (moved_comes (world_of c.args.types.now c.args.space.now.heap c.args.roots.now)
    c.mark_kept.new.space.heap c.mark_kept.new.roots.handles c.mark_kept.new.roots.finals c.args.g c.requires.generation
    c.mark_kept.ensures.kept c.move_kept-tally.new.space.heap c.move_kept-tally.new.roots.locals.items
    c.move_kept-tally.new.roots.handles c.move_kept-tally.new.roots.finals
    c.move_kept-tally.result.promoted1 c.move_kept-tally.result.promoted2 slides c.move_kept-tally.new.slides
    (is_fit c.args.how)
    (same_moves
    c.args.types.now c.mark_kept.new.space.heap c.args.roots.now c.mark_kept.new.roots c.mark_kept.ensures.locals
    (is_fit c.args.how) (world_of c.args.types.now c.move_kept-tally.new.space.heap c.move_kept-tally.new.roots)
    c.args.g c.move_kept-tally.result.promoted1 c.move_kept-tally.result.promoted2 c.args.collector.now.slides
    c.move_kept-tally.new.slides c.move_kept-tally.ensures.moved)
    (tally_of c.args.types.now c.mark_kept.new.space.heap c.args.g) refl c.answer-2.result
    (c.answer-2.ensures
    ∙ (λ j. record {
      generation = c.args.g;
      compacted = true;
      fitted = c.is_fit.ensures j;
      background = false;
      kept = c.move_kept-tally.ensures.kept j;
      freed = c.move_kept-tally.ensures.freed j;
      promoted1 = c.move_kept-tally.result.promoted1;
      promoted2 = c.move_kept-tally.result.promoted2;
    })) c.args.how c.requires.usual refl c.args.threshold
    (λ n kept memory laid marks same. sym c.if-not-compacts.false
    ∙ c.compacts.ensures.decides n kept memory laid marks same)))
    c.slide_and_release-2.ensures.ended

pub returns-clause-flag : goal.returns-clause-flag
returns-clause-flag c = ap (λ (s : CollectorState). s.compacts_large) c.slide_and_release-2.ensures.collector

pub returns-clause-marker : goal.returns-clause-marker
returns-clause-marker c =
    ap (λ (s : CollectorState). s.marker) c.slide_and_release-2.ensures.collector ∙ c.mark_kept.ensures.marker

pub returns-clause-limit : goal.returns-clause-limit
returns-clause-limit c =
    c.slide_and_release-2.ensures.limit ∙ c.move_kept-tally.ensures.limit ∙ c.mark_kept.ensures.kept.limit

pub returns-clause-spare : goal.returns-clause-spare
returns-clause-spare c =
    let kept = c.mark_kept.ensures.spare in
    let moved = c.move_kept-tally.ensures.numbers.spare in
    let still = c.slide_and_release-2.ensures.numbers.spare in
    omega (arith, kept, moved, still)

pub returns-clause-none_added : goal.returns-clause-none_added
returns-clause-none_added c =
    let kept = c.mark_kept.ensures.none_added in
    let moved = c.move_kept-tally.ensures.numbers.spare in
    let many = c.move_kept-tally.ensures.numbers.entries in
    let still = c.slide_and_release-2.ensures.numbers.spare in
    let as_many = c.slide_and_release-2.ensures.numbers.entries in
    omega (arith, kept, moved, many, still, as_many)

pub returns-clause-index_after : goal.returns-clause-index_after
returns-clause-index_after c =
    let compacts : c.answer-2.result.compacted ≡ true = ap (λ (a : Collected). a.compacted) c.answer-2.ensures in
    subst (λ (b : Bool). MatchBool b (c.lose.new.self ≡ None) (c.lose.new.self ≡ Some [])) (sym compacts) c.lose.ensures
