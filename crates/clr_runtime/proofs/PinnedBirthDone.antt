-- What a line that makes a pinned object leaves, on what a runtime shows once there is a place.
use Rattle.std.proofs.Common.{◌≡◌, ◌∙◌, ℕ, zero, suc, Bool, true, false, List, [], ◌∷◌, ◌++◌, length, refl, sym, ap}
use Rattle.std.proofs.Common.{subst, ◌&&◌, nat_le, if◌then◌else◌, slice_get, slice_set}
use Rattle.std.specs.List.{AllByRecursion, list_all}
use Rattle.std.proofs.lemmas.Bool.{and_parts}
use Rattle.clr_types.specs.Table.{IsLawfulRow}
use Rattle.clr_types.specs.Types.{bytes_form, class_form, Form, form_at, form_of_row, has_finalizer, is_array}
use Rattle.clr_types.specs.Types.{is_lawful_form, is_pattern_byte, references_form, size_of, structs_form, type_row}
use Rattle.clr_types.specs.Types.{TypeRow}
use Rattle.clr_types.specs.declared.segment.SegKind.TheVariants.{Pinned}
use Rattle.clr_types.proofs.ChangedLists.{append_left, length-slice_set}
use Rattle.clr_types.proofs.SortedLists.{into_sorted_by}
use Rattle.clr_types.specs.Rising.{IsIn}
use Rattle.clr_heap.specs.View.{HeapView}
use Rattle.clr_view.specs.View.{layout_in}
use Rattle.clr_view.specs.World.{World}
use Rattle.clr_safe.specs.Threads.{Threads}
use Rattle.clr_large.specs.Births.{HasNewbornIn}
use Rattle.clr_model.specs.declared.Reply.TheVariants.{Place}
use Rattle.clr_model.specs.Allocation.{IsPlacedIn}
use Rattle.clr_model.specs.Instructions.{new_pinned}
use Rattle.clr_model.specs.Lawful.{IsPlaceNamed}
use Rattle.clr_model.specs.Lookups.{local_index}
use Rattle.clr_model.specs.Machine.{Machine, Object, Options, Sums}
use Rattle.clr_model.specs.Outcomes.{answered}
use Rattle.clr_model.specs.PinnedFollows.{FollowsToPinned}
use Rattle.clr_model.specs.Run.{Follows}
use Rattle.clr_model.proofs.PinnedBirth.{MayBearPinned, new_follows_pinned, seen_pinned}
use Rattle.clr_model.proofs.SeenStands.{follows_sound}
use Rattle.clr_runtime.specs.RuntimeView.{IsShown}
use Rattle.clr_runtime.specs.Marked.{marking_by}
use Rattle.clr_runtime.specs.Shown.{Ahead, shown}
use Rattle.clr_runtime.proofs.MarkedKept.{running_marking, stays_marked, still_taken}

-- ---- an array has no finaliser

form-unfinal : (form : Form) (finalizer : Bool) → is_array form ≡ true → is_lawful_form form finalizer ≡ true
    → finalizer ≡ false
form-unfinal (class_form pattern) finalizer array lawful = absurd cc
form-unfinal references_form true array lawful = absurd cc
form-unfinal references_form false array lawful = refl
form-unfinal bytes_form true array lawful = absurd cc
form-unfinal bytes_form false array lawful = refl
form-unfinal (structs_form pattern) true array lawful =
    sym ((and_parts
    (list_all is_pattern_byte pattern && (nat_le 1 (length pattern) && nat_le (length pattern) 64)) false lawful).1)
form-unfinal (structs_form pattern) false array lawful = refl

row-unfinal : (rows : List TypeRow) (t : ℕ) → AllByRecursion IsLawfulRow rows
    → is_array (form_of_row (slice_get rows t)) ≡ true → has_finalizer (slice_get rows t) ≡ false
row-unfinal [] t all array = refl
row-unfinal (row ∷ rows) zero all array = form-unfinal row.form row.finalizer array all.0.form
row-unfinal (row ∷ rows) (suc t) all array = row-unfinal rows t all.1 array

type-unfinal : (rows : List TypeRow) (type : ℕ) → AllByRecursion IsLawfulRow rows
    → is_array (form_at rows type) ≡ true → has_finalizer (type_row rows type) ≡ false
type-unfinal rows zero all array = refl
type-unfinal rows (suc t) all array = row-unfinal rows t all array

-- ---- what is seen

-- A pinned object of this type that was asked for, for which there is a place.
pub record HasPinnedPlace (old new : Machine) (t local : ℕ) (name : List ℕ) (len type size : ℕ) : Type 0 where
  pub sound : IsPlaceNamed old
  pub may : MayBearPinned old t local name len type
  pub types : new.types ≡ old.types
  pub is : size ≡ size_of (form_at old.types type) len
  pub place : FollowsToPinned old size new

module _ (old : Machine) {w : World} {sums : Sums} {options : Options} {threads : Threads}
    {ahead : Ahead} (is : IsShown w sums options threads ahead) (t local : ℕ) (name : List ℕ) (len type size : ℕ)
    (has : HasPinnedPlace old (shown w sums options threads ahead) t local name len type size) where
  abbrev s : Machine
  s = shown w sums options threads ahead

  abbrev rows : List TypeRow
  rows = w.rows

  -- its size by the types of now
  size-is : size ≡ size_of (form_at rows type) len
  size-is = has.is ∙ ap (λ (rs : List TypeRow). size_of (form_at rs type) len) (sym has.types)

  -- it isn't to be finalised
  unfinal : has_finalizer (type_row rows type) ≡ false
  unfinal =
      type-unfinal rows type is.sound.lawful.types
      (subst (λ (rs : List TypeRow). is_array (form_at rs type) ≡ true) (sym has.types) has.may.array)

  module _ (new : HeapView) (place j : ℕ) (newborn : HasNewbornIn Pinned rows w.heap new place type len)
      (index : j ≡ local_index t local) where
    -- the world with the object
    abbrev born_world : World
    born_world = record w { heap = new; locals = slice_set w.locals j place }

    abbrev after : Machine
    after = shown born_world sums options threads ahead

    -- what is seen with the object
    born-shown : seen_pinned s (layout_in rows new) t local place type len ≡ after
    born-shown =
        λ k. record after {
          objects = sym newborn.objects k;
          locals = slice_set w.locals (sym index k) place;
          entries = if unfinal k then w.entries ++ place ∷ [] else w.entries;
        }

    -- the object is born
    pub pinned_born : Follows old (new_pinned t local name len) (answered (Place place))
        (shown (record w { heap = new; locals = slice_set w.locals j place }) sums options threads ahead)
    pinned_born =
        subst (Follows old (new_pinned t local name len) (answered (Place place))) born-shown
        (new_follows_pinned old t local name len type has.may s
        (subst (λ b. FollowsToPinned old b s) has.is has.place) place (layout_in rows new)
        (subst (λ b. IsPlacedIn Pinned s.layout b place (layout_in rows new)) (sym size-is ∙ has.is) newborn.layout))

    -- and what holds of the parts of a runtime still holds
    pub pinned_kept : IsShown (record w { heap = new; locals = slice_set w.locals j place }) sums options threads ahead
    pinned_kept = record {
      locals = length-slice_set w.locals j place ∙ is.locals;
      held = newborn.held;
      unmarked = newborn.unmarked is.unmarked;
      free_heads = newborn.free_heads is.free_heads;
      clean = newborn.clean is.clean;
      sound = follows_sound old (new_pinned t local name len) (answered (Place place)) after has.sound pinned_born;
      marked = λ running.
          stays_marked s after ahead.background
          (record {
            objects = still_taken s after (marking_by ahead.background.shades) is.sound.lawful.marking
                (running_marking ahead.background running)
                (follows_sound old (new_pinned t local name len)
                (answered (Place place)) after has.sound pinned_born).lawful
                (λ o here. subst (IsIn o) (sym newborn.objects)
                (into_sorted_by (λ (o : Object). o.name) o _ (append_left _ here)));
            forms = λ o here. refl;
            stores = λ name slot j. j;
          }) (is.marked running);
    }
