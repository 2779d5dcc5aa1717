-- Collections of a runtime's parts, and the line that collects, on what is seen.
use Rattle.std.proofs.Common.{[], Bool, IfSome, if◌then◌else◌, IsTrue, List, suc, true, zero, ℕ, ◌+◌, ◌-◌, ◌<◌, ◌==◌}
use Rattle.std.proofs.Common.{◌^◌, ◌∙◌, ◌∷◌, ◌≡◌, ◌≢◌, ◌≤◌}
use Rattle.std.proofs.Common.{length, map, refl, ap, subst, sym, arith, replicate, MatchOption, Option, None, Some}
use Rattle.std.proofs.Common.{false, ◌&&◌, not}
use Rattle.std.proofs.lemmas.Bool.{eq-eqb, false≢true, ne_eqb}
use Rattle.std.proofs.lemmas.List.{length-map}
use Rattle.clr_types.specs.Ranges.{Piece}
use Rattle.clr_types.specs.Segments.{Layout, rest_pieces}
use Rattle.clr_heap.specs.View.{no_rests}
use Rattle.clr_view.specs.Clean.{AreClean}
use Rattle.clr_view.specs.Marks.{IsUnmarked}
use Rattle.clr_safe.specs.Threads.{steps_of, Threads}
use Rattle.clr_runtime.specs.Shown.{Ahead, none_running, shown}
use Rattle.clr_view.specs.View.{AreFreeHeads, IsHeld, layout_in, objects_in}
use Rattle.clr_view.specs.World.{IsWorldOf, World}
use Rattle.clr_model.specs.declared.Collected.{Collected}
use Rattle.clr_model.specs.declared.How.{How}
use Rattle.clr_model.specs.declared.Refusal.TheVariants as refusal
use Rattle.clr_model.specs.declared.Reply.TheVariants as reply
use Rattle.clr_model.specs.Collection.{begun, Collects, marking_after, sums_after}
use Rattle.clr_model.proofs.CollectionKeeps.{collects_keeps}
use Rattle.clr_model.specs.Instructions.{collect_heap}
use Rattle.clr_model.specs.Lawful.{IsLawful, IsPlaceNamed}
use Rattle.clr_model.specs.Laws.{IsUsual}
use Rattle.clr_model.specs.Lookups.{is_step, is_thread, lowest_in_step, lowest_step_from, place_of, step_of}
use Rattle.clr_model.specs.Lookups.{step_or_none}
use Rattle.clr_model.specs.Machine.{begun_new, begun_store, Machine, no_step, Options, Sums, ThreadStep}
use Rattle.clr_model.specs.Outcomes.{answered, refused}
use Rattle.clr_model.specs.Picture.{picture, renamed_step}
use Rattle.clr_model.specs.RoomFollows.{HasCollected}
use Rattle.clr_model.specs.Run.{Follows}
use Rattle.clr_model.proofs.CollectedLawful.{rests_gone}
use Rattle.clr_model.proofs.Carried.{follows, refusal_carried_by}
use Rattle.clr_model.proofs.CollectFollows.{collect_follows, collect_line, lowest_in_step-picture}
use Rattle.clr_model.proofs.LineChecks.{is_held_off, line_passes, may_run_of-picture, MayRun, no_more, obeys_done}
use Rattle.clr_model.proofs.PieceBytes.{sums_bounded}
use Rattle.clr_model.proofs.RoomFollows.{collection_left}
use Rattle.clr_model.proofs.SeenSound.{seen_sound}
use Rattle.clr_model.proofs.SeenStands.{sound_stands}
use Rattle.clr_collect.specs.Collecting.{CountsSlides}
use Rattle.clr_collect.proofs.CountedSlides.{counted_slides}
use Rattle.clr_runtime.specs.RuntimeView.{ahead_after, collected_sums, IsShown}
use Rattle.clr_runtime.specs.Slides.{CountsCollection, CountsMoves}
use Rattle.clr_runtime.proofs.MarkingSeen.{collection_leaves, marking_seen}
use Rattle.std.specs.Prelude.{slice_get}
use Rattle.clr_types.specs.Rising.{IsIn, first, later}
use Rattle.clr_types.proofs.RisingLists.{all_at}
use Rattle.clr_model.proofs.CollectedPresent.{all_idle}
use Rattle.clr_bgmark.specs.Shades.{BackgroundView}
use Rattle.clr_runtime.specs.Marked.{IsMarkedSoFar, marking_by, marking_of}
use Rattle.clr_runtime.proofs.MarkedKept.{storeless_marked}

-- ---- what a collection leaves of a machine

-- where no thread is in mid-step, other names change nothing of the steps
pub still-steps : (to : ℕ → ℕ) (t : ℕ) (steps : List ThreadStep) → lowest_step_from t steps ≡ None
    → map (renamed_step to) steps ≡ steps
still-steps to t [] none = refl
still-steps to t (no_step ∷ steps) none = ap (λ ss. no_step ∷ ss) (still-steps to (t + 1) steps none)
still-steps to t (begun_store object slot ∷ steps) none = absurd cc
still-steps to t (begun_new type len local ∷ steps) none = absurd cc

module _ (m : Machine) (sound : IsPlaceNamed m) (g : ℕ) (least : g ≤ 2) (how : How) (usual : IsUsual g how)
    (answer : Collected) (after : Machine) (idle : lowest_in_step m ≡ None) (c : Collects m g how answer after) where
  -- The picture of what a collection leaves, from what it is of memory, locals, handles and queues. Steps, holder and
  -- options are as before, and the sums are those that the answer gives. A full collection takes the flag of the large
  -- heap away, and ends a background collection.
  pub collected_picture : (w : World) → IsWorldOf w (picture after)
      → picture after ≡ record m {
        born = 0;
        types = w.rows;
        objects = objects_in w.rows w.heap;
        layout = layout_in w.rows w.heap;
        locals = w.locals;
        handles = w.handles;
        entries = w.entries;
        ready = w.ready;
        sums = sums_after m g answer.promoted1 answer.promoted2;
        compacts_large = m.compacts_large && not (g == 2);
        background = marking_after (g == 2) m.background;
      }
  collected_picture w is =
      let memory = is.memory in
      let keeps = collects_keeps m g how answer after c in
      let left = collection_leaves m g how answer after c in
      let background = marking_seen m sound g least how usual answer after c in
      let steps : (picture after).steps ≡ m.steps =
      ap (map (renamed_step (place_of after.objects))) keeps.steps
      ∙ still-steps (place_of after.objects) 1 m.steps idle in
      λ k. record m {
        born = 0;
        types = memory.types k;
        objects = memory.objects k;
        layout = memory.layout k;
        locals = is.locals k;
        handles = is.handles k;
        entries = is.entries k;
        ready = is.ready k;
        steps = steps k;
        holder = keeps.holder k;
        sums = left.sums k;
        options = keeps.options k;
        compacts_large = left.flag k;
        background = background k;
      }

-- where no rest of a context is left, no thread has one
none_rest : (rests : List (Option Piece)) → rest_pieces rests ≡ [] → rests ≡ replicate (length rests) None
none_rest [] none = refl
none_rest (None ∷ rests) none = ap (λ rs. None ∷ rs) (none_rest rests none)
none_rest (Some p ∷ rests) none = absurd cc

-- ---- the line

-- the collection is done
pub collect_done : (s : Machine) (t g : ℕ) (how : How) → MayRun s t → lowest_in_step s ≡ None
    → IsUsual g how → (answer : Collected) (new : Machine)
    → ((after : Machine) × Collects s g how answer after × (new ≡ picture after))
    → Follows s (collect_heap t g how) (answered (reply.Collected answer)) new
collect_done s t g how run idle usual answer new (after, collects, is) =
    subst (Follows s (collect_heap t g how) (answered (reply.Collected answer))) (sym is)
    (collect_follows s t g how answer after usual run idle collects)

-- a thread is waited for, which is in mid-step
pub collect_waits : (s : Machine) (t g : ℕ) (how : How) → MayRun s t → (k : ℕ) → lowest_in_step s ≡ Some k
    → Follows s (collect_heap t g how) (refused (refusal.Wait k)) s
collect_waits s t g how run k busy =
    let i = collect_heap t g how in
    follows s i (refused (refusal.Wait k)) s
    (refusal_carried_by i (λ w. MayRun w t × (lowest_in_step w ≡ Some k)) (refusal.Wait k)
    (λ m named given.
    let stays : lowest_in_step m ≡ Some k = sym (lowest_in_step-picture m) ∙ given.1 in
    obeys_done m i (refused (refusal.Wait k)) m
    (line_passes i t [] (λ w. None ∷ None ∷ None ∷ no_more) (collect_line t g how) m
    (may_run_of-picture m t given.0) tt)
    (subst (λ (r : Option ℕ). MatchOption r
    ((answer : Collected) × Collects m g how answer m × (refused (refusal.Wait k) ≡ answered (reply.Collected answer)))
    (λ q. (refused (refusal.Wait k) ≡ refused (refusal.Wait q)) × (m ≡ m))) (sym stays) (refl, refl)))
    s (run, busy))

-- ---- collections

-- where no thread is in mid-step, some thread may run
pub some_thread : (s : Machine) → IsLawful s → lowest_in_step s ≡ None → (t : ℕ) × MayRun s t
some_thread s lawful idle = go s.holder refl lawful.holder
  where
    steps : (ss : List ThreadStep) (j : ℕ) → ((x : ThreadStep) → IsIn x ss → x ≡ no_step)
        → is_step (step_or_none (slice_get ss j)) ≡ false
    steps [] j none = refl
    steps (x ∷ ss) zero none = ap is_step (none x first)
    steps (x ∷ ss) (suc j) none = steps ss j (λ y i. none y (later i))

    rests : (t : ℕ) → is_step (step_of s t) ≡ false
    rests t = steps s.steps (t - 1) (λ x i. all_at (λ (x : ThreadStep). x ≡ no_step) i (all_idle 1 s.steps idle))

    go : (r : Option ℕ) → s.holder ≡ r → IfSome r (λ t. IsTrue (is_thread t)) → (t : ℕ) × MayRun s t
    go None e known = (1, record { thread = refl; idle = rests 1; unheld = ap (λ o. is_held_off o 1) e })
    go (Some h) e known = (
      h,
      record {
        thread = known;
        idle = rests h;
        unheld = ap (λ o. is_held_off o h) e ∙ ap not (eq-eqb h h refl);
      },
    )

-- a collection of a younger generation is one that some thread's line makes
pub collected_marked : (s : Machine) → IsPlaceNamed s → lowest_in_step s ≡ None → (g : ℕ) (how : How)
    → IsUsual g how → (answer : Collected) (new : Machine)
    → ((after : Machine) × Collects s g how answer after × (new ≡ picture after)) → (v : BackgroundView)
    → s.background ≡ marking_of v → new.background ≡ marking_of v → (v.running ≡ true → IsMarkedSoFar s v)
    → v.running ≡ true → IsMarkedSoFar new v
collected_marked s sound idle g how usual answer new collected v =
    let (t, run) = some_thread s sound.lawful idle in
    storeless_marked s (collect_heap t g how) (answered (reply.Collected answer)) new sound usual
    (collect_done s t g how run idle usual answer new collected) v
    (λ m seen name slot c. c)

-- what is seen after a collection is sound
collected-sound : (s : Machine) → IsPlaceNamed s → lowest_in_step s ≡ None → (g : ℕ) (how : How)
    → IsUsual g how → (new : Machine) → HasCollected s g how new → IsPlaceNamed new
collected-sound s sound idle g how usual new collected =
    let (m, stands) = sound_stands s sound in
    let still : lowest_in_step m ≡ None =
    sym (lowest_in_step-picture m) ∙ ap lowest_in_step stands.seen_is ∙ idle in
    let (answer, mid, done, left) = collection_left s g how new usual collected m stands still in
    seen_sound new mid left.stands

-- ---- the parts of a runtime

-- both sums of promoted bytes are words
record HaveSmallSums (sums : Sums) : Type 0 where
  first : sums.promoted1 < 2 ^ 64
  second : sums.promoted2 < 2 ^ 64

-- the world of a runtime is that of what it shows
pub world-seen : {w : World} {sums : Sums} {options : Options} (threads : Threads) (ahead : Ahead)
    → IsWorldOf w (shown w sums options threads ahead)
world-seen threads ahead = record {
  memory = record { types = refl; objects = refl; layout = refl };
  locals = refl;
  handles = refl;
  entries = refl;
  ready = refl;
}

pub whole_world : {w : World} {sums : Sums} {options : Options} {threads : Threads} {ahead : Ahead}
    → IsShown w sums options threads ahead
    → lowest_step_from 1 (steps_of threads) ≡ None
    → (m : Machine) × IsWorldOf w m × IsPlaceNamed m × (lowest_in_step m ≡ None)
whole_world {w = w} {sums = sums} {options = options} {threads = threads} {ahead = ahead} is idle =
    (shown w sums options threads ahead, world-seen threads ahead, is.sound, idle)

-- there is a collection of what is shown that leaves this world
abbrev pub Told : World → Sums → Options → Threads → Ahead → ℕ → How → World → Collected → Type 0
Told w sums options threads ahead g how new answer =
    (after : Machine) × Collects (shown w sums options threads ahead) g how answer after × IsWorldOf new (picture after)

-- what a collection tells of all machines that have a world
abbrev TellsAll : World → Options → Ahead → ℕ → How → World → Collected → ℕ → ℕ → Type 0
TellsAll w options ahead g how new answer before after =
    (m : Machine) → IsWorldOf w m → IsPlaceNamed m → lowest_in_step m ≡ None
    → m.compacts_large ≡ ahead.compacts_large → m.options.compact ≡ options.compact → (left : Machine)
    × (c : Collects m g how answer left) × IsWorldOf new (picture left)
    × CountsSlides how (begun m).layout c.collects.survive c.collects.moves answer before after

-- it is what a collection tells of all machines that have this world
pub told_of : (w : World) (sums : Sums) (options : Options) (threads : Threads) (ahead : Ahead)
    → IsShown w sums options threads ahead
    → lowest_step_from 1 (steps_of threads) ≡ None → (g : ℕ) (how : How) (new : World) (answer : Collected)
    (before after : ℕ)
    → TellsAll w options ahead g how new answer before after
    → Told w sums options threads ahead g how new answer
told_of w sums options threads ahead is idle g how new answer before after collected =
    let (left, collects, world, counts) =
    collected (shown w sums options threads ahead) (world-seen threads ahead) is.sound idle refl refl in
    (left, collects, world)

-- and a compaction is counted
pub counts_of : (w : World) (sums : Sums) (options : Options) (threads : Threads) (ahead : Ahead)
    → IsShown w sums options threads ahead
    → lowest_step_from 1 (steps_of threads) ≡ None → (g : ℕ) (how : How) (new : World) (answer : Collected)
    (before after : ℕ)
    → TellsAll w options ahead g how new answer before after
    → CountsCollection answer.compacted before after
counts_of w sums options threads ahead is idle g how new answer before after collected =
    let (left, collects, world, counts) =
    collected (shown w sums options threads ahead) (world-seen threads ahead) is.sound idle refl refl in
    let c = collects.collects in
    counted_slides how (begun (shown w sums options threads ahead)).layout c.survive c.moves answer before after counts

-- what a collection leaves of what is seen of a background collection
marking_left : (v : BackgroundView) (full : Bool)
    → marking_of (if full then none_running else v) ≡ marking_after full (marking_of v)
marking_left v full = go full v.running
  where
    go : (full running : Bool)
        → marking_of (if full then none_running else record v { running = running })
        ≡ marking_after full (if running then Some (marking_by v.shades) else None)
    go true true = refl
    go true false = refl
    go false true = refl
    go false false = refl

-- what is seen after a collection of what is seen is the picture of what it leaves
left_seen : {w : World} {sums : Sums} {options : Options} {threads : Threads} {ahead : Ahead}
    → IsShown w sums options threads ahead → lowest_step_from 1 (steps_of threads) ≡ None → (g : ℕ) → g ≤ 2
    → (how : How) → IsUsual g how → (new : World) (answer : Collected) (after : Machine)
    → Collects (shown w sums options threads ahead) g how answer after → IsWorldOf new (picture after)
    → shown new (collected_sums sums g answer.promoted1 answer.promoted2) options threads (ahead_after ahead g)
    ≡ picture after
left_seen {w} {sums} {options} {threads} {ahead} is idle g least how usual new answer after collects world =
    (λ k. record (shown new (collected_sums sums g answer.promoted1 answer.promoted2) options threads
    (ahead_after ahead g)) { background = marking_left ahead.background (g == 2) k })
    ∙ sym (collected_picture (shown w sums options threads ahead) is.sound g least how usual answer after idle
    collects new world)

-- each byte that a compaction moved is counted
pub moves_of : (w : World) (sums : Sums) (options : Options) (threads : Threads) (ahead : Ahead)
    → IsShown w sums options threads ahead
    → lowest_step_from 1 (steps_of threads) ≡ None → (g : ℕ) → g ≤ 2 → (how : How) → IsUsual g how → (new : World)
    (answer : Collected) (before after : ℕ)
    → TellsAll w options ahead g how new answer before after
    → CountsMoves (shown w sums options threads ahead) g how answer
    (shown new (collected_sums sums g answer.promoted1 answer.promoted2) options threads (ahead_after ahead g))
    before after
moves_of w sums options threads ahead is idle g least how usual new answer before after collected =
    let (left, collects, world, counts) =
    collected (shown w sums options threads ahead) (world-seen threads ahead) is.sound idle refl refl in
    (left, collects, left_seen is idle g least how usual new answer left collects world, counts)

module _ {w : World} {sums : Sums} {options : Options} {threads : Threads} {ahead : Ahead}
    (is : IsShown w sums options threads ahead)
    (idle : lowest_step_from 1 (steps_of threads) ≡ None) (g : ℕ) (least : g ≤ 2) (how : How)
    (usual : IsUsual g how) (new : World)
    (answer : Collected) (told : Told w sums options threads ahead g how new answer) where
  abbrev s : Machine
  s = shown w sums options threads ahead

  -- the sums afterwards
  abbrev after_sums : Sums
  after_sums = collected_sums sums g answer.promoted1 answer.promoted2

  -- what is seen afterwards is the picture of what a collection of what is seen leaves
  pub has_collected : (after : Machine) × Collects (shown w sums options threads ahead) g how answer after
      × (shown new (collected_sums sums g answer.promoted1 answer.promoted2) options threads (ahead_after ahead g)
      ≡ picture after)
  has_collected =
      let (after, collects, world) = told in
      (after, collects, left_seen is idle g least how usual new answer after collects world)

  -- it is sound
  sound-after : IsPlaceNamed (shown new after_sums options threads (ahead_after ahead g))
  sound-after =
      let (after, collects, is_seen) = has_collected in
      collected-sound s is.sound idle g how usual (shown new after_sums options threads (ahead_after ahead g))
      (answer, after, collects, is_seen)

  bounded-after : HaveSmallSums after_sums
  bounded-after =
      let bounds = sums_bounded (shown new after_sums options threads (ahead_after ahead g)) sound-after.lawful in
      let limit = sound-after.lawful.options.limit_greatest in
      let first = bounds.promoted1 in
      let second = bounds.promoted2 in
      record { first = omega arith; second = omega arith }

  -- the sums stay words: the bytes that they count are within the limit
  pub first_fits : g ≡ 0 → sums.promoted1 + answer.promoted1 < 2 ^ 64
  first_fits young =
      subst (λ (n : ℕ). (if n == 0 then sums.promoted1 + answer.promoted1 else answer.promoted1) < 2 ^ 64) young
      bounded-after.first

  pub second_fits : g ≢ 2 → sums.promoted2 + answer.promoted2 < 2 ^ 64
  second_fits other =
      subst (λ (b : Bool). (if b then answer.promoted2 else sums.promoted2 + answer.promoted2) < 2 ^ 64)
      (ne_eqb g 2 other) bounded-after.second

  -- as many locals as before
  locals-after : length new.locals ≡ 1024
  locals-after =
      let (after, collects, world) = told in
      ap length (sym world.locals)
      ∙ length-map after.locals (place_of after.objects)
      ∙ ap length (collects_keeps s g how answer after collects).locals
      ∙ is.locals

  -- what holds while a background collection runs holds still, where it wasn't of all generations
  marked-after : (ahead_after ahead g).background.running ≡ true
      → IsMarkedSoFar (shown new after_sums options threads (ahead_after ahead g)) (ahead_after ahead g).background
  marked-after = go (g == 2) refl
    where
      left : Bool → Machine
      left b = shown new after_sums options threads (record {
        compacts_large = ahead.compacts_large && not (g == 2);
        background = if b then none_running else ahead.background;
      })

      go : (b : Bool) → (g == 2) ≡ b
          → (if b then none_running else ahead.background).running ≡ true
          → IsMarkedSoFar (left b) (if b then none_running else ahead.background)
      go true e running = absurd (false≢true running)
      go false e running =
          collected_marked s is.sound idle g how usual answer (left false)
          (subst (λ (b : Bool). (after : Machine) × Collects s g how answer after × (left b ≡ picture after)) e
          has_collected) ahead.background refl refl is.marked running

  -- no thread has a context
  pub no_contexts-after : new.heap.rests ≡ no_rests
  no_contexts-after =
      let (after, collects, world) = told in
      let none = ap (λ (l : Layout). rest_pieces l.rests) (sym world.memory.layout)
      ∙ rests_gone s is.sound.lawful idle g how usual answer after collects in
      none_rest new.heap.rests none
      ∙ ap (λ n. replicate n None) sound-after.lawful.laid.layout.threads

  -- what holds of the parts of a runtime still holds
  pub collect_kept : IsHeld new.rows new.heap → IsUnmarked new.rows new.heap
      → AreFreeHeads new.rows new.heap → AreClean new.rows new.heap
      → IsShown new (collected_sums sums g answer.promoted1 answer.promoted2) options threads (ahead_after ahead g)
  collect_kept held unmarked heads clean = record {
    locals = locals-after;
    held = held;
    unmarked = unmarked;
    free_heads = heads;
    clean = clean;
    sound = sound-after;
    marked = marked-after;
  }
