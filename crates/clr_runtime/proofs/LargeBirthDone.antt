-- What a line that makes a large object leaves, on what a runtime shows once there is a place.
use Rattle.std.proofs.Common.{◌≡◌, ◌∙◌, ℕ, List, sym, ap, subst, Option, unwrap_or, slice_set, refl}
use Rattle.clr_types.specs.Types.{TypeRow}
use Rattle.clr_types.specs.declared.segment.SegKind.TheVariants.{Large}
use Rattle.clr_types.proofs.ChangedLists.{append_left, length-slice_set}
use Rattle.clr_heap.specs.View.{HeapView}
use Rattle.clr_safe.specs.Threads.{Threads}
use Rattle.clr_runtime.specs.Shown.{Ahead, shown}
use Rattle.clr_view.specs.View.{layout_in}
use Rattle.clr_view.specs.World.{World}
use Rattle.clr_large.specs.Births.{HasNewbornIn}
use Rattle.clr_model.specs.declared.Reply.TheVariants.{Place}
use Rattle.clr_model.specs.Allocation.{IsPlacedIn}
use Rattle.clr_model.specs.Instructions.{new_object}
use Rattle.clr_model.specs.LargeFollows.{FollowsToPlace}
use Rattle.clr_model.specs.Lawful.{IsPlaceNamed}
use Rattle.clr_model.specs.Lookups.{local_index}
use Rattle.clr_model.specs.Machine.{Machine, Object, Options, Sums}
use Rattle.clr_model.specs.Outcomes.{answered}
use Rattle.clr_model.specs.Run.{Follows}
use Rattle.clr_model.proofs.Birth.{born_entries}
use Rattle.clr_model.proofs.BirthLine.{MayBearLarge}
use Rattle.clr_model.proofs.LargeBirth.{seen_at_place, spent_large_more}
use Rattle.clr_model.proofs.LargeFollows.{new_follows_large}
use Rattle.clr_model.proofs.SeenStands.{follows_sound}
use Rattle.clr_runtime.specs.Births.{measure_of}
use Rattle.clr_runtime.specs.RuntimeView.{IsShown}
use Rattle.clr_types.specs.Rising.{IsIn}
use Rattle.clr_types.proofs.SortedLists.{into_sorted_by}
use Rattle.clr_runtime.specs.Marked.{marking_by}
use Rattle.clr_runtime.proofs.MarkedKept.{running_marking, stays_marked, still_taken}

-- A large object of this type that was asked for, for which there is a place.
pub record HasItsPlace (old new : Machine) (t local : ℕ) (name : List ℕ) (len : Option ℕ) (type size : ℕ) : Type 0 where
  pub sound : IsPlaceNamed old
  pub may : MayBearLarge old t local name len type
  pub types : new.types ≡ old.types
  pub is : size ≡ measure_of old.types type len
  pub place : FollowsToPlace old size new

module _ (old : Machine) {w : World} {sums : Sums} {options : Options} {threads : Threads} {ahead : Ahead}
    (is : IsShown w sums options threads ahead) (t local : ℕ)
    (name : List ℕ) (len : Option ℕ) (type size : ℕ)
    (has : HasItsPlace old (shown w sums options threads ahead) t local name len type size) where
  abbrev s : Machine
  s = shown w sums options threads ahead

  abbrev rows : List TypeRow
  rows = w.rows

  abbrev h : HeapView
  h = w.heap

  abbrev n : ℕ
  n = unwrap_or len 0

  -- its size by the types of now
  size-is : size ≡ measure_of rows type len
  size-is = has.is ∙ ap (λ (rs : List TypeRow). measure_of rs type len) (sym has.types)

  module _ (new : HeapView) (place j : ℕ) (entries ready : List ℕ)
      (newborn : HasNewbornIn Large rows h new place type (unwrap_or len 0)) (index : j ≡ local_index t local)
      (registered : entries ≡ born_entries (shown w sums options threads ahead) type place)
      (waiting : ready ≡ w.ready) where
    -- the world with the object
    abbrev born_world : World
    born_world = record w { heap = new; locals = slice_set w.locals j place; entries = entries; ready = ready }

    abbrev after : Machine
    after = shown born_world (spent_large_more size sums) options threads ahead

    -- what is seen with the object
    born-shown : seen_at_place s (layout_in rows new) t local place type n ≡ after
    born-shown =
        λ k. record after {
          objects = sym newborn.objects k;
          locals = slice_set w.locals (sym index k) place;
          entries = sym registered k;
          ready = sym waiting k;
          sums = spent_large_more (sym size-is k) sums;
        }

    -- the object is born
    pub placed_follows : Follows old (new_object t local name len) (answered (Place place))
        (shown (record w { heap = new; locals = slice_set w.locals j place; entries = entries; ready = ready })
        (spent_large_more size sums) options threads ahead)
    placed_follows =
        let sized = size-is in
        subst (Follows old (new_object t local name len) (answered (Place place))) born-shown
        (new_follows_large old t local name len type has.may s
        (subst (λ b. FollowsToPlace old b s) has.is has.place) place (layout_in rows new)
        (subst (λ b. IsPlacedIn Large s.layout b place (layout_in rows new)) (sym sized ∙ has.is) newborn.layout))

    -- and what holds of the parts of a runtime still holds
    pub placed_kept : IsShown
        (record w { heap = new; locals = slice_set w.locals j place; entries = entries; ready = ready })
        (spent_large_more size sums) options threads ahead
    placed_kept = record {
      locals = length-slice_set w.locals j place ∙ is.locals;
      held = newborn.held;
      unmarked = newborn.unmarked is.unmarked;
      free_heads = newborn.free_heads is.free_heads;
      clean = newborn.clean is.clean;
      sound = follows_sound old (new_object t local name len) (answered (Place place)) after has.sound placed_follows;
      marked = λ running.
          stays_marked s after ahead.background
          (record {
            objects = still_taken s after (marking_by ahead.background.shades) is.sound.lawful.marking
                (running_marking ahead.background running)
                (follows_sound old (new_object t local name len)
                (answered (Place place)) after has.sound placed_follows).lawful
                (λ o here. subst (IsIn o) (sym newborn.objects)
                (into_sorted_by (λ (o : Object). o.name) o _ (append_left _ here)));
            forms = λ o here. refl;
            stores = λ name slot j. j;
          }) (is.marked running);
    }
