-- A thread that has finished its store: what it leaves of a runtime.
use Rattle.std.proofs.Common.{ap, arith, refl, subst, sym, true, ℕ, ◌+◌, ◌-◌, ◌/◌, ◌==◌, ◌||◌, ◌∙◌, ◌≡◌}
use Rattle.clr_types.specs.declared.item.Item.{Item}
use Rattle.clr_types.specs.declared.shape.Slot.{Slot}
use Rattle.clr_covers.specs.Covers.{CoverView, spans}
use Rattle.std.proofs.Common.{List}
use Rattle.clr_cards.specs.Cards.{is_card_set}
use Rattle.clr_model.specs.declared.Reply.TheVariants.{Done}
use Rattle.clr_model.specs.Instructions.{finish_step}
use Rattle.clr_model.specs.Lookups.{is_thread}
use Rattle.clr_model.specs.Outcomes.{answered}
use Rattle.clr_model.specs.Run.{Follows}
use Rattle.clr_model.proofs.SeenStands.{follows_sound}
use Rattle.clr_safe.specs.Threads.{begun_by, Threads}
use Rattle.clr_safe.specs.declared.begun.Begun.TheVariants.{Nothing, Store}
use Rattle.clr_safe.proofs.Entries.{owed-no_more}
use Rattle.clr_view.specs.SlotValues.{IsObjectAt, IsSlot}
use Rattle.clr_options.specs.Options.{options_of}
use Rattle.clr_runtime.specs.RuntimeView.{ahead_of, IsRuntime, IsShown, seen, sums_of, world_of}
use Rattle.clr_runtime.specs.declared.parts.Parts.{Parts}
use Rattle.clr_runtime.proofs.BegunStores.{finished_tables, store-step}
use Rattle.clr_runtime.proofs.FinishLines.{finish_store_done}
use Rattle.clr_runtime.proofs.StepsBegun.{begun-shown, begun-within, finalizers-begun, with_begun}
use Rattle.clr_bgmark.specs.Shades.{BackgroundView}
use Rattle.clr_model.specs.Lawful.{IsPlaceNamed}
use Rattle.clr_model.specs.Machine.{begun_new, begun_store, no_step, ThreadStep}
use Rattle.clr_runtime.proofs.MarkedKept.{same_marked}
use Rattle.clr_runtime.proofs.MarkedStores.{IsCardLogged, IsStoredAt, logged-shown, logged_ahead, stored_address}
use Rattle.clr_runtime.proofs.MarkedStores.{stored_marked, with_slot_logged}

-- begun stores that are the same are into the same slot of the same object
store_object : (a m b n : ℕ) → begun_store a m ≡ begun_store b n → a ≡ b
store_object a m b n e = cc

store_slot : (a m b n : ℕ) → begun_store a m ≡ begun_store b n → m ≡ n
store_slot a m b n e = cc

module _ (p : Parts) (is : IsRuntime p) (t object index : ℕ) (thread : is_thread t ≡ true)
    (begun : begun_by p.safe t ≡ Store object index) where
  -- the thread's step is done
  finished : Follows (seen p) (finish_step t) (answered Done) (seen (record p { safe = with_begun p.safe t Nothing }))
  finished =
      subst (Follows (seen p) (finish_step t) (answered Done))
      (begun-shown (world_of p) (sums_of p.sums) (options_of p.options) p.safe (ahead_of p) t Nothing)
      (finish_store_done (seen p) t object index thread (store-step is.shown t object index begun))

  -- the card of its slot is set, and a background collection was told of it
  module _ (after : List (CoverView ℕ)) (next : Threads) (same : next ≡ with_begun p.safe t Nothing) (slot : ℕ)
      (now : BackgroundView) (told_is : now ≡ with_slot_logged p.background slot) where
    -- what is seen then
    logged-seen : seen
        (record p { safe = with_begun p.safe t Nothing; background = with_slot_logged p.background slot })
        ≡ seen (record p { safe = with_begun p.safe t Nothing })
    logged-seen =
        logged-shown (world_of p) (sums_of p.sums) (options_of p.options) (with_begun p.safe t Nothing)
        (ahead_of p) slot

    pub store_finished : Follows (seen p) (finish_step t) (answered Done)
        (seen (record p { space = record p.space { cards = after }; safe = next; background = now }))
    store_finished =
        subst (λ (threads : Threads). Follows (seen p) (finish_step t) (answered Done)
        (seen (record p { safe = threads; background = now }))) (sym same)
        (subst (λ (v : BackgroundView). Follows (seen p) (finish_step t) (answered Done)
        (seen (record p { safe = with_begun p.safe t Nothing; background = v }))) (sym told_is)
        (subst (Follows (seen p) (finish_step t) (answered Done)) (sym logged-seen) finished))

    module _ (item : Item) (at : IsObjectAt p.types p.space.heap object item) (place : Slot)
        (told : IsSlot p.types item index place) (there : slot ≡ item.place + place.offset)
        (logged : IsCardLogged p.background slot) where
      -- the line completes the store into this slot alone
      stored-there : IsStoredAt (seen p) (finish_step t) slot
      stored-there o n here completes =
          let both : begun_store object index ≡ begun_store o.name n =
          sym (store-step is.shown t object index begun) ∙ completes in
          let name : o.name ≡ object = store_object o.name n object index (sym both) in
          let number : n ≡ index = store_slot o.name n object index (sym both) in
          stored_address (world_of p) (sums_of p.sums) (options_of p.options) p.safe (ahead_of p) is.shown.sound object
          index item place at told o here name n number ∙ sym there

      finished_shown : IsShown (world_of p) (sums_of p.sums) (options_of p.options) (with_begun p.safe t Nothing)
          (logged_ahead (ahead_of p) slot)
      finished_shown = record {
        locals = is.shown.locals;
        held = is.shown.held;
        unmarked = is.shown.unmarked;
        free_heads = is.shown.free_heads;
        clean = is.shown.clean;
        sound = subst IsPlaceNamed (sym logged-seen)
            (follows_sound (seen p) (finish_step t) (answered Done) _ is.shown.sound finished);
        marked = λ running.
            same_marked (seen (record p { safe = with_begun p.safe t Nothing }))
            (seen (record p {
              safe = with_begun p.safe t Nothing;
              background = with_slot_logged p.background slot;
            })) refl refl refl (with_slot_logged p.background slot)
            (stored_marked (seen p) (finish_step t) (answered Done)
            (seen (record p { safe = with_begun p.safe t Nothing })) is.shown.sound tt finished p.background slot
            stored-there logged refl refl is.shown.marked) running;
      }

      -- and what holds of every runtime still holds
      pub store_finished_kept : ((i : ℕ) → is_card_set after i
          ≡ ((i == (item.place + place.offset) / 2048) || is_card_set p.space.cards i))
          → spans after ≡ spans p.space.cards
          → IsRuntime (record p { space = record p.space { cards = after }; safe = next; background = now })
      store_finished_kept set_is spans_are =
          subst
          (λ (threads : Threads).
          IsRuntime (record p { space = record p.space { cards = after }; safe = threads; background = now }))
          (sym same)
          (subst (λ (v : BackgroundView). IsRuntime (record p {
            space = record p.space { cards = after };
            safe = with_begun p.safe t Nothing;
            background = v;
          })) (sym told_is)
          (record {
            shown = finished_shown;
            heap = is.heap;
            tables = finished_tables is.shown t object index begun item at place told p.space.cards after set_is
                p.space.bricks
                spans_are is.tables;
            owed =
                let owed = is.owed in
                let less = owed-no_more p.safe.begun (t - 1) Nothing (begun-within is.shown t thread) refl in
                omega (arith, owed, less);
            finalizers = finalizers-begun p.types p.safe t Nothing is.finalizers tt;
            index = is.index;
            large = is.large;
            pinned = is.pinned;
            limit = is.limit;
            ready = is.ready;
          }))
