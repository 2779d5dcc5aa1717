-- What is kept of a lawful state is a lawful one.
use Rattle.std.proofs.Common.{◌≡◌, ℕ, zero, suc, ◌+◌, ◌-◌, ◌≤◌, List, [], ◌∷◌, refl, sym, ap, ◌∙◌, arith, Option, Some}
use Rattle.std.specs.Prelude.{slice_get}
use Rattle.clr_types.specs.Ranges.{Piece}
use Rattle.clr_types.specs.Segments.{flat_option, generation}
use Rattle.clr_types.proofs.ChangedLists.{all_imply}
use Rattle.clr_model.specs.Lawful.{AllFrom, HasItsRoom, IsLawful, IsShaped}
use Rattle.clr_model.specs.Lookups.{bytes_of, bytes_up_to}
use Rattle.clr_model.specs.Machine.{begun_new, begun_store, Machine, no_step, ThreadStep}
use Rattle.clr_model.proofs.RootsChanged.{shaped_alike}
use Rattle.clr_settled.specs.Laws.{SettledFreeLaw, SettledFrontLaw, SettledLawfulLaw, SettledPiecesLaw}
use Rattle.clr_settled.specs.Laws.{SettledPlacesLaw}
use Rattle.clr_settled.specs.Settled.{kept_rest, kept_rests, settled}
use Rattle.clr_settled.proofs.KeptRests.{kept-all}
use Rattle.clr_settled.proofs.SettledPieces.{settled-free, settled-laid, settled-pieces}

-- a thread that has begun an object keeps its context
kept-at : (steps : List ThreadStep) (rests : List (Option Piece)) (n type len local : ℕ) (rest : Piece)
    → slice_get steps n ≡ Some (begun_new type len local) → flat_option (slice_get rests n) ≡ Some rest
    → flat_option (slice_get (kept_rests steps rests) n) ≡ Some rest
kept-at steps [] n type len local rest step e = absurd cc
kept-at [] (r ∷ rs) n type len local rest step e = absurd cc
kept-at (s ∷ ss) (r ∷ rs) zero type len local rest step e =
    let same : s ≡ begun_new type len local = cc in
    ap (λ (w : ThreadStep). kept_rest w r) same ∙ e
kept-at (s ∷ ss) (r ∷ rs) (suc n) type len local rest step e = kept-at ss rs n type len local rest step e

-- so all that is known of it is as it was
kept-same : (steps : List ThreadStep) (rests : List (Option Piece)) (n type len local : ℕ)
    → slice_get steps n ≡ Some (begun_new type len local) → slice_get (kept_rests steps rests) n ≡ slice_get rests n
kept-same steps [] n type len local step = refl
kept-same [] (r ∷ rs) n type len local step = absurd cc
kept-same (s ∷ ss) (r ∷ rs) zero type len local step =
    let same : s ≡ begun_new type len local = cc in
    ap (λ (w : ThreadStep). Some (kept_rest w r)) same
kept-same (s ∷ ss) (r ∷ rs) (suc n) type len local step = kept-same ss rs n type len local step

pub front-kept : SettledFrontLaw
front-kept m n type len local step = kept-same m.steps m.layout.rests n type len local step

pub free-kept : SettledFreeLaw
free-kept m h = settled-free m h

module _ (m : Machine) where
  room-kept : (n : ℕ) (s : ThreadStep) → slice_get m.steps (n + 1 - 1) ≡ Some s → HasItsRoom m (n + 1) s
      → HasItsRoom (settled m) (n + 1) s
  room-kept n no_step at room = tt
  room-kept n (begun_store object slot) at room = tt
  room-kept n (begun_new type len local) at room =
      (room.0, kept-at m.steps m.layout.rests (n + 1 - 1) type len local room.0 at room.1, room.2, room.3)

  rooms-kept : (n : ℕ) (steps : List ThreadStep) → ((i : ℕ) → slice_get steps i ≡ slice_get m.steps (n + i))
      → AllFrom (HasItsRoom m) (n + 1) steps → AllFrom (HasItsRoom (settled m)) (n + 1) steps
  rooms-kept n [] at all = tt
  rooms-kept n (s ∷ ss) at all =
      let here : n + 1 - 1 ≡ n + 0 = omega arith in (
        room-kept n s (ap (slice_get m.steps) here ∙ sym (at 0)) all.0,
        rooms-kept (n + 1) ss
            (λ i. let next : n + suc i ≡ n + 1 + i = omega arith in at (suc i) ∙ ap (slice_get m.steps) next) all.1,
      )

  module _ (h : IsLawful m) where
    settled-lawful : IsLawful (settled m)
    settled-lawful = record {
      options = h.options;
      types = h.types;
      type_count = h.type_count;
      type_names = h.type_names;
      type_words = h.type_words;
      names_rise = h.names_rise;
      shapes = all_imply (IsShaped m) (IsShaped (settled m)) m.objects
          (λ o. shaped_alike m (settled m) o refl) h.shapes;
      laid = settled-laid m h.laid;
      rests_young = kept-all (λ (p : Piece). generation m.layout p.place ≡ 0) m.steps m.layout.rests h.rests_young;
      suited = h.suited;
      limit = h.limit;
      names = record {
        slots = h.names.slots;
        locals = h.names.locals;
        handles = h.names.handles;
        entries = h.names.entries;
        ready = h.names.ready;
        steps = h.names.steps;
      };
      seconds = h.seconds;
      locals = h.locals;
      steps = h.steps;
      rooms = rooms-kept 0 m.steps (λ i. let e : i ≡ 0 + i = omega arith in ap (slice_get m.steps) e) h.rooms;
      holder = h.holder;
      handle_count = h.handle_count;
      handle_numbers = h.handle_numbers;
      entries = h.entries;
      ready = h.ready;
      sums = record {
        spent0 = omega arith;
        spent_large = omega arith;
        promoted1 =
            let p : m.sums.promoted1 + bytes_up_to (settled m) 0 ≤ bytes_of (settled m) = h.sums.promoted1 in
            omega arith;
        promoted2 =
            let p : m.sums.promoted2 + bytes_up_to (settled m) 1 ≤ bytes_of (settled m) = h.sums.promoted2 in
            omega arith;
      };
      marking = tt;
    }

pub born : SettledLawfulLaw
born m h = record { lawful = settled-lawful m h.lawful; born = h.born }

pub placed : SettledPlacesLaw
placed m h = record { lawful = settled-lawful m h.lawful; places = h.places; uncounted = h.uncounted }

pub pieces-kept : SettledPiecesLaw
pieces-kept m h = settled-pieces m h
