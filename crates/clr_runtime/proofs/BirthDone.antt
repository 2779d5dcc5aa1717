-- What a line that makes an object leaves, on what a runtime shows once room was made.
use Rattle.std.proofs.Common.{◌≡◌, ◌∙◌, ℕ, ◌+◌, true, List, sym, ap, subst, Option, unwrap_or, slice_set, refl}
use Rattle.clr_types.specs.Types.{TypeRow}
use Rattle.clr_types.proofs.ChangedLists.{append_left, length-slice_set}
use Rattle.clr_heap.specs.View.{frame, HeapView}
use Rattle.clr_view.specs.Clean.{AreClean}
use Rattle.clr_view.specs.Marks.{IsUnmarked}
use Rattle.clr_safe.specs.Threads.{Threads}
use Rattle.clr_runtime.specs.Shown.{Ahead, shown}
use Rattle.clr_view.specs.View.{AreFreeHeads, HasNewborn}
use Rattle.clr_view.specs.World.{World}
use Rattle.clr_model.specs.declared.Reply.TheVariants.{Place}
use Rattle.clr_model.specs.Allocation.{context_front, own_fits, roomed}
use Rattle.clr_model.specs.Instructions.{new_object}
use Rattle.clr_model.specs.Lawful.{IsPlaceNamed}
use Rattle.clr_model.specs.Lookups.{local_index}
use Rattle.clr_model.specs.Machine.{Machine, Object, Options, Sums}
use Rattle.clr_model.specs.Outcomes.{answered}
use Rattle.clr_model.specs.RoomFollows.{FollowsRoom}
use Rattle.clr_model.specs.Run.{Follows}
use Rattle.clr_model.proofs.BirthLine.{MayBear}
use Rattle.clr_model.proofs.FrontBirth.{born_entries, seen_at_front}
use Rattle.clr_model.proofs.RoomFollows.{new_follows_room}
use Rattle.clr_model.proofs.SeenStands.{follows_sound}
use Rattle.clr_runtime.specs.Births.{measure_of}
use Rattle.clr_runtime.specs.RuntimeView.{IsShown}
use Rattle.clr_types.specs.Rising.{IsIn}
use Rattle.clr_types.proofs.SortedLists.{into_sorted_by}
use Rattle.clr_runtime.specs.Marked.{marking_by}
use Rattle.clr_runtime.proofs.MarkedKept.{running_marking, stays_marked, still_taken}

-- the sums with so many bytes more
abbrev pub spent_more : Sums → ℕ → Sums
spent_more sums size = record sums { spent0 = sums.spent0 + size }

-- An object of this type that was asked for, for which room was made at the front of its thread's context.
pub record HasItsRoom (old new : Machine) (t local : ℕ) (name : List ℕ) (len : Option ℕ) (type size : ℕ) : Type 0 where
  pub sound : IsPlaceNamed old
  pub may : MayBear old t local name len type
  pub types : new.types ≡ old.types
  pub is : size ≡ measure_of old.types type len
  pub room : FollowsRoom old t size roomed new
  pub fits : own_fits new.layout t size ≡ true

module _ (old : Machine) {w : World} {sums : Sums} {options : Options} {threads : Threads} {ahead : Ahead}
    (is : IsShown w sums options threads ahead) (t local : ℕ)
    (name : List ℕ) (len : Option ℕ) (type size : ℕ)
    (has : HasItsRoom old (shown w sums options threads ahead) t local name len type size) where
  abbrev s : Machine
  s = shown w sums options threads ahead

  abbrev rows : List TypeRow
  rows = w.rows

  abbrev h : HeapView
  h = w.heap

  abbrev n : ℕ
  n = unwrap_or len 0

  -- its size by the types of now
  size-is : size ≡ measure_of rows type len
  size-is = has.is ∙ ap (λ (rs : List TypeRow). measure_of rs type len) (sym has.types)

  -- it fits at the front of the context
  pub room_fits : own_fits (frame w.heap) t (measure_of w.rows type len) ≡ true
  room_fits = subst (λ b. own_fits (frame h) t b ≡ true) size-is has.fits

  module _ (new : HeapView) (place j : ℕ) (entries ready : List ℕ)
      (newborn : HasNewborn rows h new t type (unwrap_or len 0)) (at : place ≡ context_front (frame h) t)
      (index : j ≡ local_index t local)
      (registered : entries ≡ born_entries (shown w sums options threads ahead) type place)
      (waiting : ready ≡ w.ready) where
    -- the world with the object
    abbrev born_world : World
    born_world = record w { heap = new; locals = slice_set w.locals j place; entries = entries; ready = ready }

    abbrev after : Machine
    after = shown born_world (spent_more sums size) options threads ahead

    -- what is seen with the object
    born-shown : seen_at_front s t local type n ≡ after
    born-shown =
        let listed : born_entries s type (context_front (frame h) t) ≡ entries =
        ap (born_entries s type) (sym at) ∙ sym registered in
        λ k. record after {
          objects = sym newborn.objects k;
          locals = slice_set w.locals (sym index k) (sym at k);
          entries = listed k;
          ready = sym waiting k;
          layout = sym newborn.layout k;
          sums = spent_more sums (sym size-is k);
        }

    -- the object is born
    pub made_follows : Follows old (new_object t local name len) (answered (Place place))
        (shown (record w { heap = new; locals = slice_set w.locals j place; entries = entries; ready = ready })
        (spent_more sums size) options threads ahead)
    made_follows =
        subst (λ p. Follows old (new_object t local name len) (answered (Place p)) after) (sym at)
        (subst (Follows old (new_object t local name len) (answered (Place (context_front (frame h) t)))) born-shown
        (new_follows_room old t local name len type has.may s
        (subst (λ b. FollowsRoom old t b roomed s) has.is has.room)
        (subst (λ b. own_fits (frame h) t b ≡ true) has.is has.fits)))

    -- and what holds of the parts of a runtime still holds
    pub birth_kept : (IsUnmarked rows h → IsUnmarked rows new) → (AreFreeHeads rows h → AreFreeHeads rows new)
        → (AreClean rows h → AreClean rows new)
        → IsShown (record w { heap = new; locals = slice_set w.locals j place; entries = entries; ready = ready })
        (spent_more sums size) options threads ahead
    birth_kept unmarked heads clean = record {
      locals = length-slice_set w.locals j place ∙ is.locals;
      held = newborn.held;
      unmarked = unmarked is.unmarked;
      free_heads = heads is.free_heads;
      clean = clean is.clean;
      sound = follows_sound old (new_object t local name len) (answered (Place place)) after has.sound made_follows;
      marked = λ running.
          stays_marked s after ahead.background
          (record {
            objects = still_taken s after (marking_by ahead.background.shades) is.sound.lawful.marking
                (running_marking ahead.background running)
                (follows_sound old (new_object t local name len)
                (answered (Place place)) after has.sound made_follows).lawful
                (λ o here. subst (IsIn o) (sym newborn.objects)
                (into_sorted_by (λ (o : Object). o.name) o _ (append_left _ here)));
            forms = λ o here. refl;
            stores = λ name slot j. j;
          }) (is.marked running);
    }
