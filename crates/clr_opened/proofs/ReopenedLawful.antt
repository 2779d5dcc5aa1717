-- What is kept is lawful with other lawful options, too, where limit and least size of large objects stay.
use Rattle.std.proofs.Common.{ℕ, ◌+◌, List, [], ◌∷◌, None, refl, ap}
use Rattle.clr_model.specs.Lawful.{AllFrom, AreLawfulOptions, HasItsRoom, IsLawful, IsShaped}
use Rattle.clr_model.specs.Machine.{begun_new, begun_store, Machine, no_step, Object, Options, ThreadStep}
use Rattle.clr_model.proofs.RootsChanged.{shaped_alike}
use Rattle.clr_types.proofs.ChangedLists.{all_imply}
use Rattle.clr_settled.specs.Settled.{settled}
use Rattle.clr_settled.proofs.SettledLawful.{placed}
use Rattle.clr_opened.specs.Laws.{OwnReopenedLaw, reopened, ReopenedLawfulLaw}

module _ (m : Machine) (o : Options) where
  -- the machine under these options, but with its own limit and least size of large objects, while no background
  -- collection runs
  abbrev under : Machine
  under = record m {
    options = record o { limit = m.options.limit; large = m.options.large };
    background = None;
  }

  -- what threads have begun has its room
  rooms-stay : (t : ℕ) (steps : List ThreadStep) → AllFrom (HasItsRoom m) t steps → AllFrom (HasItsRoom under) t steps
  rooms-stay t [] all = tt
  rooms-stay t (no_step ∷ ss) all = (tt, rooms-stay (t + 1) ss all.1)
  rooms-stay t (begun_store object slot ∷ ss) all = (tt, rooms-stay (t + 1) ss all.1)
  rooms-stay t (begun_new type len local ∷ ss) all = (all.0, rooms-stay (t + 1) ss all.1)

  -- it is lawful as the machine is
  lawful-under : IsLawful m → AreLawfulOptions under.options → IsLawful under
  lawful-under h options = record {
    options = options;
    types = h.types;
    type_count = h.type_count;
    type_names = h.type_names;
    type_words = h.type_words;
    names_rise = h.names_rise;
    shapes = all_imply (IsShaped m) (IsShaped under) m.objects (λ (x : Object). shaped_alike m under x refl) h.shapes;
    laid = record {
      layout = h.laid.layout;
      housed = h.laid.housed;
      tiled = h.laid.tiled;
      whole1 = h.laid.whole1;
      whole0 = h.laid.whole0;
    };
    rests_young = h.rests_young;
    suited = h.suited;
    limit = h.limit;
    names = record {
      slots = h.names.slots;
      locals = h.names.locals;
      handles = h.names.handles;
      entries = h.names.entries;
      ready = h.names.ready;
      steps = h.names.steps;
    };
    seconds = h.seconds;
    locals = h.locals;
    steps = h.steps;
    rooms = rooms-stay 1 m.steps h.rooms;
    holder = h.holder;
    handle_count = h.handle_count;
    handle_numbers = h.handle_numbers;
    entries = h.entries;
    ready = h.ready;
    sums = record {
      spent0 = h.sums.spent0;
      spent_large = h.sums.spent_large;
      promoted1 = h.sums.promoted1;
      promoted2 = h.sums.promoted2;
    };
    marking = tt;
  }

-- what is kept is lawful with the budgets that it is opened with
pub reopened-lawful : ReopenedLawfulLaw
reopened-lawful m b sound options =
    let kept = placed m sound in
    record {
      lawful = lawful-under (settled m) (reopened m b).options kept.lawful options;
      places = kept.places;
      uncounted = kept.uncounted;
    }

-- with the machine's own budgets it is what is kept
pub reopened-own : OwnReopenedLaw
reopened-own m own = ap (λ (n : ℕ). record (settled m) { options = record m.options { segment = n } }) own
