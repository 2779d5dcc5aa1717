-- The line that asks for a slide of the large heap: what it does to what is seen, it does to each machine that is seen
-- so.
use Rattle.std.proofs.Common.{ℕ, [], ◌∷◌, refl, sym, Bool, true, None}
use Rattle.clr_types.proofs.ChangedLists.{all_imply}
use Rattle.clr_model.specs.declared.Reply.TheVariants.{Done}
use Rattle.clr_model.specs.Instructions.{compact_large_once}
use Rattle.clr_model.specs.Lawful.{IsBirthNamed, IsShaped}
use Rattle.clr_model.specs.Machine.{Machine}
use Rattle.clr_model.specs.Outcomes.{answered}
use Rattle.clr_model.specs.Run.{Follows}
use Rattle.clr_model.proofs.Carried.{IsAlike}
use Rattle.clr_model.proofs.LineChecks.{IsLocalLine, line_alike, MayRun, no_more}
use Rattle.clr_model.proofs.LineFollows.{line_follows_done, ThreadLine}
use Rattle.clr_model.proofs.MarkingKept.{marking_kept, old_as}
use Rattle.clr_model.proofs.RootsChanged.{shaped_alike}
use Rattle.clr_model.proofs.SeenStands.{follows_sound}
use Rattle.clr_runtime.specs.RuntimeView.{IsRuntime, seen}
use Rattle.clr_runtime.proofs.MarkedKept.{same_marked}
use Rattle.clr_runtime.specs.declared.parts.Parts.{Parts}

-- a lawful machine with the flag up or down is lawful
with_flag_lawful : (m : Machine) → IsBirthNamed m → (flag : Bool) → IsBirthNamed (record m { compacts_large = flag })
with_flag_lawful m named flag =
    let h = named.lawful in
    let next : Machine = record m { compacts_large = flag } in
    record {
      lawful = record {
        options = h.options;
        types = h.types;
        type_count = h.type_count;
        type_names = h.type_names;
        type_words = h.type_words;
        names_rise = h.names_rise;
        shapes = all_imply (IsShaped m) (IsShaped next) m.objects (λ o. shaped_alike m next o refl) h.shapes;
        laid = record {
          layout = h.laid.layout;
          housed = h.laid.housed;
          tiled = h.laid.tiled;
          whole1 = h.laid.whole1;
          whole0 = h.laid.whole0;
        };
        rests_young = h.rests_young;
        suited = h.suited;
        limit = h.limit;
        names = record {
          slots = h.names.slots;
          locals = h.names.locals;
          handles = h.names.handles;
          entries = h.names.entries;
          ready = h.names.ready;
          steps = h.names.steps;
        };
        seconds = h.seconds;
        locals = h.locals;
        steps = h.steps;
        rooms = h.rooms;
        holder = h.holder;
        handle_count = h.handle_count;
        handle_numbers = h.handle_numbers;
        entries = h.entries;
        ready = h.ready;
        sums = record {
          spent0 = h.sums.spent0;
          spent_large = h.sums.spent_large;
          promoted1 = h.sums.promoted1;
          promoted2 = h.sums.promoted2;
        };
        marking =
            marking_kept m next m.background
            (old_as m next (λ o. o) (λ o. refl) (λ o i. i) (λ o i old. old)) h.marking;
      };
      born = named.born;
    }

-- ---- the line

slide_line : (t : ℕ) → IsLocalLine (compact_large_once t) t []
slide_line t = record { thread = refl; checks = λ s. refl }

slide_alike : (t : ℕ) → IsAlike (compact_large_once t)
slide_alike t = record {
  checks = λ m named. line_alike (compact_large_once t) t [] (λ s. None ∷ None ∷ None ∷ no_more) (slide_line t) m refl;
  does = λ m named none outcome after (answer, same).
      (record m { compacts_large = true }, (answer, refl), with_flag_lawful m named true, sym same);
}

abbrev slide_of : (t : ℕ) → ThreadLine
slide_of t = record {
  instruction = compact_large_once t;
  thread = t;
  locals = [];
  more = λ s. None ∷ None ∷ None ∷ no_more;
  line = slide_line t;
  alike = slide_alike t;
}

pub slide_asked : (s : Machine) (t : ℕ) → MayRun s t
    → Follows s (compact_large_once t) (answered Done) (record s { compacts_large = true })
slide_asked s t run = line_follows_done s (slide_of t) run tt refl _ _ (refl, refl)

-- a runtime whose next full collection slides is one still
pub slide_kept : (p : Parts) (t : ℕ) → MayRun (seen p) t → IsRuntime p
    → IsRuntime (record p { collector = record p.collector { compacts_large = true } })
slide_kept p t run is = record {
  shown = record {
    locals = is.shown.locals;
    held = is.shown.held;
    unmarked = is.shown.unmarked;
    free_heads = is.shown.free_heads;
    clean = is.shown.clean;
    sound =
        follows_sound (seen p) (compact_large_once t) (answered Done) _ is.shown.sound (slide_asked (seen p) t run);
    marked =
        same_marked (seen p) (seen (record p { collector = record p.collector { compacts_large = true } })) refl refl
        refl p.background is.shown.marked;
  };
  heap = is.heap;
  tables = is.tables;
  owed = is.owed;
  finalizers = is.finalizers;
  index = is.index;
  large = is.large;
  pinned = is.pinned;
  limit = is.limit;
  ready = is.ready;
}
