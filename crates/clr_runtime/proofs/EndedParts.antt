-- The last pause of a background collection, on what is seen, and what it leaves of the parts of a runtime.
use Rattle.std.proofs.Common.{◌≡◌, ◌∙◌, ◌+◌, ◌==◌, true, false, length, map, refl, sym, ap, subst}
use Rattle.std.proofs.Common.{Option}
use Rattle.std.proofs.Common.{None, Some}
use Rattle.std.specs.Option.{option_map}
use Rattle.std.proofs.lemmas.Bool.{false≢true}
use Rattle.std.proofs.lemmas.List.{length-map}
use Rattle.clr_view.specs.Clean.{AreClean}
use Rattle.clr_view.specs.Marks.{IsUnmarked}
use Rattle.clr_view.specs.View.{AreFreeHeads, IsHeld, layout_in, objects_in}
use Rattle.clr_view.specs.World.{IsWorldOf, World}
use Rattle.clr_model.specs.declared.Collected.{Collected}
use Rattle.clr_model.specs.declared.Reply.TheVariants as reply
use Rattle.clr_model.specs.Collection.{EndsBackground, marking_after, sums_after}
use Rattle.clr_model.specs.Instructions.{end_background}
use Rattle.clr_model.specs.Lawful.{IsPlaceNamed}
use Rattle.clr_model.specs.Lookups.{lowest_in_step, lowest_step_from, place_of}
use Rattle.clr_model.specs.Machine.{Machine, Marking, Options, Sums}
use Rattle.clr_model.specs.Outcomes.{answered}
use Rattle.clr_model.specs.Picture.{picture, renamed_marking, renamed_step}
use Rattle.clr_model.proofs.CollectionKeeps.{last_pause_keeps}
use Rattle.clr_model.proofs.SeenStands.{follows_sound}
use Rattle.clr_safe.specs.Threads.{steps_of, Threads}
use Rattle.clr_runtime.specs.RuntimeView.{collected_sums, IsShown}
use Rattle.clr_runtime.specs.Shown.{Ahead, none_running, shown}
use Rattle.clr_runtime.proofs.BackgroundLines.{end_done}
use Rattle.clr_runtime.proofs.CollectLines.{some_thread, still-steps, world-seen}

module _ (m : Machine) (marking : Marking) (answer : Collected) (after : Machine) (idle : lowest_in_step m ≡ None)
    (c : EndsBackground m marking answer after) where
  -- the sums are those that the answer gives, the flag stays, and none runs
  ended-sums : after.sums ≡ sums_after m 2 answer.promoted1 answer.promoted2
  ended-sums = ap (λ (w : Machine). w.sums) c.ends ∙ ap (λ (w : Machine). w.sums) c.collects.state

  ended-flag : after.compacts_large ≡ m.compacts_large
  ended-flag = ap (λ (w : Machine). w.compacts_large) c.ends ∙ ap (λ (w : Machine). w.compacts_large) c.collects.state

  ended-none : option_map (renamed_marking (place_of after.objects)) after.background ≡ None
  ended-none =
      ap (option_map (renamed_marking (place_of after.objects)))
      (ap (λ (w : Machine). w.background) c.ends ∙ ap (λ (w : Machine). w.background) c.collects.state
      ∙ go m.background)
    where
      go : (r : Option Marking) → marking_after true r ≡ None
      go None = refl
      go (Some k) = refl

  -- the picture of what it leaves, from what it is of memory, locals, handles and queues
  ended_picture : (w : World) → IsWorldOf w (picture after)
      → picture after ≡ record m {
        born = 0;
        types = w.rows;
        objects = objects_in w.rows w.heap;
        layout = layout_in w.rows w.heap;
        locals = w.locals;
        handles = w.handles;
        entries = w.entries;
        ready = w.ready;
        sums = sums_after m 2 answer.promoted1 answer.promoted2;
        background = None;
      }
  ended_picture w is =
      let memory = is.memory in
      let keeps = last_pause_keeps m marking answer after c in
      let steps : (picture after).steps ≡ m.steps =
      ap (map (renamed_step (place_of after.objects))) keeps.steps
      ∙ still-steps (place_of after.objects) 1 m.steps idle in
      λ k. record m {
        born = 0;
        types = memory.types k;
        objects = memory.objects k;
        layout = memory.layout k;
        locals = is.locals k;
        handles = is.handles k;
        entries = is.entries k;
        ready = is.ready k;
        steps = steps k;
        holder = keeps.holder k;
        sums = ended-sums k;
        options = keeps.options k;
        compacts_large = ended-flag k;
        background = ended-none k;
      }

-- it is what the last pause tells of all machines that have this world
pub ended_told : (w : World) (sums : Sums) (options : Options) (threads : Threads) (ahead : Ahead)
    → IsShown w sums options threads ahead → lowest_step_from 1 (steps_of threads) ≡ None → (told k : Marking)
    → told ≡ k → (new : World) (answer : Collected)
    → ((m : Machine) → IsWorldOf w m → IsPlaceNamed m → lowest_in_step m ≡ None
    → (after : Machine) × EndsBackground m told answer after × IsWorldOf new (picture after))
    → (after : Machine) × EndsBackground (shown w sums options threads ahead) k answer after
    × IsWorldOf new (picture after)
ended_told w sums options threads ahead is idle told k told_is new answer ended =
    let s = shown w sums options threads ahead in
    let (after, c, world) = ended s (world-seen threads ahead) is.sound idle in
    (after, subst (λ l. EndsBackground s l answer after) told_is c, world)

-- what lies ahead when none runs any more
abbrev pub ended_ahead : Ahead → Ahead
ended_ahead ahead = record ahead { background = none_running }

module _ {w : World} {sums : Sums} {options : Options} {threads : Threads} {ahead : Ahead}
    (is : IsShown w sums options threads ahead) (idle : lowest_step_from 1 (steps_of threads) ≡ None) (k : Marking)
    (runs : (shown w sums options threads ahead).background ≡ Some k) (new : World) (answer : Collected)
    (told : (after : Machine) × EndsBackground (shown w sums options threads ahead) k answer after
    × IsWorldOf new (picture after)) where
  abbrev s : Machine
  s = shown w sums options threads ahead

  abbrev left : Machine
  left = shown new (collected_sums sums 2 answer.promoted1 answer.promoted2) options threads (ended_ahead ahead)

  pub has_ended : (after : Machine) × EndsBackground (shown w sums options threads ahead) k answer after
      × (shown new (collected_sums sums 2 answer.promoted1 answer.promoted2) options threads (ended_ahead ahead)
      ≡ picture after)
  has_ended =
      let (after, c, world) = told in (after, c, sym (ended_picture s k answer after idle c new world))

  -- what holds of the parts of a runtime holds on
  pub ended_kept : IsHeld new.rows new.heap → IsUnmarked new.rows new.heap
      → AreFreeHeads new.rows new.heap → AreClean new.rows new.heap
      → IsShown new (collected_sums sums 2 answer.promoted1 answer.promoted2) options threads (ended_ahead ahead)
  ended_kept held unmarked heads clean =
      let (after, c, world) = told in
      let (last, ends, same) = has_ended in
      let (t, run) = some_thread s is.sound.lawful idle in
      record {
        locals = ap length (sym world.locals) ∙ length-map after.locals (place_of after.objects)
            ∙ ap length (last_pause_keeps s k answer after c).locals ∙ is.locals;
        held = held;
        unmarked = unmarked;
        free_heads = heads;
        clean = clean;
        sound = follows_sound s (end_background t) (answered (reply.Collected answer)) left is.sound
            (end_done t s run k runs idle answer last left ends same);
        marked = λ running. absurd (false≢true running);
      }
