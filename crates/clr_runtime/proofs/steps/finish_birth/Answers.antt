-- The object is born at the front of its thread's context, and the thread has finished its step.
use Rattle.std.proofs.Common.{◌≡◌, ◌∙◌, ◌+◌, ◌<◌, ◌^◌, ◌++◌, [], ◌∷◌, ap, arith, if◌then◌else◌, slice_set, subst}
use Rattle.std.proofs.Common.{sym}
use Rattle.std.specs.Vec.{with_item}
use Rattle.clr_types.specs.declared.segment.SegKind.TheVariants.{Large, Pinned}
use Rattle.clr_ctx.specs.Contexts.{young_items}
use Rattle.clr_large.specs.Places.{kind_items}
use Rattle.clr_model.specs.declared.Reply.TheVariants.{Place}
use Rattle.clr_model.specs.Instructions.{finish_step}
use Rattle.clr_model.specs.Outcomes.{answered}
use Rattle.clr_model.specs.Run.{Follows}
use Rattle.clr_model.proofs.FrontBirth.{born_entries}
use Rattle.clr_safe.specs.Threads.{Threads}
use Rattle.clr_safe.specs.declared.begun.Begun.TheVariants.{Nothing}
use Rattle.clr_options.specs.Options.{options_of}
use Rattle.clr_runtime.specs.RuntimeView.{ahead_of, IsRuntime, IsToldBy, seen, sums_of, world_of}
use Rattle.clr_runtime.specs.Shown.{shown}
use Rattle.clr_runtime.proofs.HeapKept.{born_heap}
use Rattle.clr_runtime.proofs.BirthDone.{spent_more}
use Rattle.clr_runtime.proofs.FinishedBirths.{birth_entry, birth_finished, birth_finished_shown, birth_known, birth_may}
use Rattle.clr_runtime.proofs.FinishedBirths.{birth_makeable, birth_no_store, birth_owed, birth_room, birth_most}
use Rattle.clr_runtime.proofs.IndexKept.{index_kept}
use Rattle.clr_runtime.proofs.LimitKept.{born_limit}
use Rattle.clr_runtime.proofs.RuntimeKept.{spent_fits}
use Rattle.clr_runtime.proofs.StepsBegun.{finalizer-of, finalizers-begun, told-begun, with_begun}
use Rattle.clr_runtime.proofs.StepsKept.{tables-by}
use Rattle.clr_runtime.proofs.TablesKept.{birth_tables}
use Rattle.clr_runtime.proofs.steps.finish_birth.Goals as goal
use Rattle.clr_runtime.proofs.steps.finish_birth.Goals.{After-register_entry}

pub item_size-size-requires-clause-known : goal.item_size-size-requires-clause-known
item_size-size-requires-clause-known c =
    (birth_known c.args.parts.now c.requires.runtime c.args.t c.requires.thread c.args.type_id c.args.len c.args.local
    c.args.finalizer c.requires.begun).1

pub item_size-size-requires-clause-size : goal.item_size-size-requires-clause-size
item_size-size-requires-clause-size c =
    birth_most c.args.parts.now c.requires.runtime c.args.t c.requires.thread c.args.type_id c.args.len c.args.local
    c.args.finalizer c.requires.begun

pub allocate-place-requires-clause-item : goal.allocate-place-requires-clause-item
allocate-place-requires-clause-item c =
    birth_makeable c.args.parts.now c.requires.runtime c.args.t c.requires.thread c.args.type_id c.args.len c.args.local
    c.args.finalizer c.requires.begun

pub allocate-place-requires-clause-object : goal.allocate-place-requires-clause-object
allocate-place-requires-clause-object c =
    (birth_known c.args.parts.now c.requires.runtime c.args.t c.requires.thread c.args.type_id c.args.len c.args.local
    c.args.finalizer c.requires.begun).0

pub allocate-place-requires-clause-size : goal.allocate-place-requires-clause-size
allocate-place-requires-clause-size c = c.item_size-size.ensures

pub allocate-place-requires-clause-room : goal.allocate-place-requires-clause-room
allocate-place-requires-clause-room c =
    birth_room c.args.parts.now c.requires.runtime c.args.t c.requires.thread c.args.type_id c.args.len c.args.local
    c.args.finalizer c.requires.begun

pub register_entry-requires : goal.register_entry-requires
register_entry-requires c =
    birth_entry c.args.parts.now c.requires.runtime c.args.t c.requires.thread c.args.type_id c.args.len c.args.local
    c.args.finalizer c.requires.begun

pub index_of-requires-clause-local : goal.index_of-requires-clause-local
index_of-requires-clause-local c =
    (birth_may c.args.parts.now c.requires.runtime c.args.t c.requires.thread c.args.type_id c.args.len c.args.local
    c.args.finalizer c.requires.begun).local

pub overflow_add-parts : goal.overflow_add-parts
overflow_add-parts c =
    let most = birth_most c.args.parts.now c.requires.runtime c.args.t c.requires.thread c.args.type_id c.args.len
    c.args.local c.args.finalizer c.requires.begun in
    let same = c.item_size-size.ensures in
    let fits : c.args.parts.now.sums.spent0 + c.item_size-size.result < 2 ^ 64 =
    spent_fits c.requires.runtime.shown c.item_size-size.result (omega (arith, same, most)) in
    omega (arith, fits)

-- the entries with the object, where its type has a finaliser
registered : (c : After-register_entry)
    → c.register_entry.new.finals.entries
    ≡ born_entries (seen c.args.parts.now) c.args.type_id.0 c.allocate-place.result
registered c =
    let p = c.args.parts.now in
    let final = finalizer-of p.types p.safe c.args.t c.args.type_id c.args.len c.args.local c.args.finalizer
    c.requires.begun c.requires.runtime.finalizers in
    c.register_entry.ensures.entries
    ∙ (λ k. if final k then p.roots.finals.entries ++ c.allocate-place.result ∷ [] else p.roots.finals.entries)

pub returns-clause-finished : goal.returns-clause-finished
returns-clause-finished c =
    let at = goal.at.returns-clause-finished c in
    let p = c.args.parts.now in
    let done = c.allocate-place in
    let finals = c.register_entry.new.finals in
    subst (λ (threads : Threads). Follows (seen p) (finish_step c.args.t) (answered (Place done.result))
    (shown (record (world_of p) {
      heap = done.new.heap;
      locals = slice_set p.roots.locals.items c.index_of.result done.result;
      entries = finals.entries;
      ready = finals.ready;
    }) (spent_more (sums_of p.sums) c.item_size-size.result) (options_of p.options) threads (ahead_of p)))
    (sym c.end.ensures)
    (birth_finished p c.requires.runtime c.args.t c.requires.thread c.args.type_id c.args.len c.args.local
    c.args.finalizer c.requires.begun done.new.heap done.result c.index_of.result c.item_size-size.result finals.entries
    finals.ready done.ensures.born done.ensures.place c.index_of.ensures.index c.item_size-size.ensures
    (registered at.After-register_entry) c.register_entry.ensures.ready)

pub returns-clause-runtime : goal.returns-clause-runtime
returns-clause-runtime c =
    let at = goal.at.returns-clause-runtime c in
    let p = c.args.parts.now in
    let is = c.requires.runtime in
    let type = c.args.type_id.0 in
    let done = c.allocate-place in
    let finals = c.register_entry.new.finals in
    let size = c.item_size-size.result in
    let next = with_begun p.safe c.args.t Nothing in
    let tables = birth_tables is.shown c.args.t done.new.heap type c.args.len p.space.cards p.space.bricks
    done.new.bricks
    done.ensures.born done.ensures.spans done.ensures.bricks done.ensures.cards is.tables in
    subst (λ (threads : Threads). IsRuntime (record p {
      space = record p.space { heap = done.new.heap; bricks = done.new.bricks };
      roots = record p.roots { locals = with_item p.roots.locals c.index_of.result done.result; finals = finals };
      safe = threads;
      sums = record p.sums { spent0 = p.sums.spent0 + size };
    })) (sym c.end.ensures)
    (record {
      shown = birth_finished_shown p is c.args.t c.requires.thread c.args.type_id c.args.len c.args.local
          c.args.finalizer c.requires.begun done.new.heap done.result c.index_of.result size finals.entries finals.ready
          done.ensures.born done.ensures.place c.index_of.ensures.index c.item_size-size.ensures
          (registered at.After-register_entry) c.register_entry.ensures.ready done.ensures.unmarked
          done.ensures.free_heads done.ensures.clean;
      heap = born_heap p.types p.space.heap done.new.heap c.args.t type c.args.len done.ensures.words is.heap;
      tables = tables-by p.types done.new.heap p.space.cards done.new.bricks
          (IsToldBy p.types done.new.heap p.space.cards p.safe) (IsToldBy p.types done.new.heap p.space.cards next)
          (told-begun p.types done.new.heap p.space.cards p.safe c.args.t Nothing
          (birth_no_store p is c.args.t c.requires.thread c.args.type_id c.args.len c.args.local c.args.finalizer
          c.requires.begun)) tables;
      owed = birth_owed p is c.args.t c.requires.thread c.args.type_id c.args.len c.args.local c.args.finalizer
          c.requires.begun finals.spare c.register_entry.ensures.spare;
      finalizers = finalizers-begun p.types p.safe c.args.t Nothing is.finalizers tt;
      index = index_kept young_items p.types p.types p.space.heap done.new.heap p.collector.young
          (ap young_items done.ensures.born.layout) is.index;
      large = index_kept (kind_items Large) p.types p.types p.space.heap done.new.heap p.large
          (ap (kind_items Large) done.ensures.born.layout) is.large;
      pinned = index_kept (kind_items Pinned) p.types p.types p.space.heap done.new.heap p.pinned
          (ap (kind_items Pinned) done.ensures.born.layout) is.pinned;
      limit = born_limit p.types p.space.heap done.new.heap c.args.t type c.args.len done.ensures.words ∙ is.limit;
      ready = is.ready;
    })
