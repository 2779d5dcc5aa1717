-- A lawful machine with other segments, another flag and other marks: it is lawful where its memory is, each object
-- stands in a segment that was there, and what was taken is there.
use Rattle.std.proofs.Common.{◌≡◌, ℕ, ◌+◌, ◌<◌, ◌≤◌, List, [], ◌∷◌, refl, sym, ap, subst, ◌∙◌, arith, Bool, true}
use Rattle.std.proofs.Common.{filter}
use Rattle.std.proofs.Common.{if◌then◌else◌, nat_le, nat_lt, sum_by, Option, IfSome}
use Rattle.clr_types.specs.Rising.{IsIn}
use Rattle.clr_types.specs.Ranges.{Piece}
use Rattle.clr_types.specs.declared.segment.SegInfo.{SegInfo}
use Rattle.clr_types.specs.declared.segment.SegKind.{SegKind}
use Rattle.clr_types.specs.declared.segment.SegKind.TheVariants.{Small, Ephemeral, Large, Pinned}
use Rattle.clr_types.specs.Segments.{ephemeral, generation, rest_pieces, reserved_sum, stands_in}
use Rattle.clr_types.proofs.ChangedLists.{all_imply, all_members}
use Rattle.clr_types.proofs.RisingLists.{all_at}
use Rattle.clr_types.proofs.SegmentFacts.{segment_of-home}
use Rattle.clr_model.specs.Machine.{Machine, Marking, Object, ThreadStep, no_step, begun_store, begun_new}
use Rattle.clr_model.specs.Lookups.{bytes_up_to, object_size}
use Rattle.clr_model.specs.Background.{IsLawfulMarking}
use Rattle.clr_model.specs.Lawful.{AllFrom, HasItsRoom, IsLaid, IsLawful, IsShaped, Suits, SuitsItsSegment}
use Rattle.clr_model.proofs.MarkingKept.{marking_kept, old_as}
use Rattle.clr_model.proofs.RootsChanged.{shaped_alike}

module _ (m : Machine) (h : IsLawful m) (segments : List SegInfo) (flag : Bool) (background : Option Marking)
    (marked : IfSome background (IsLawfulMarking m)) where
  -- the machine with these segments
  abbrev pub resegmented : Machine
  resegmented = record m {
    layout = record m.layout { segments = segments };
    compacts_large = flag;
    background = background;
  }

  module _
      (laid : IsLaid (record m {
        layout = record m.layout { segments = segments };
        compacts_large = flag;
        background = background;
      }))
      (same : ephemeral (record m.layout { segments = segments }) ≡ ephemeral m.layout)
      (home : (o : Object) → IsIn o m.objects
      → (t : SegInfo) × IsIn t m.layout.segments × IsIn t segments × (stands_in t o.place ≡ true))
      (limit : reserved_sum (record m.layout { segments = segments }) ≤ m.options.limit)
    where
      abbrev next : Machine
      next = resegmented

      age : (place : ℕ) → generation next.layout place ≡ generation m.layout place
      age place =
          ap (λ (s : SegInfo). if stands_in s place
          then (if nat_lt place m.layout.start1 then 2 else (if nat_lt place m.layout.start0 then 1 else 0)) else 2)
          same

      bytes : (g : ℕ) → bytes_up_to next g ≡ bytes_up_to m g
      bytes g =
          ap (λ (s : SegInfo). sum_by (object_size m.types) (filter
          (λ o. nat_le (if stands_in s o.place
          then (if nat_lt o.place m.layout.start1 then 2 else (if nat_lt o.place m.layout.start0 then 1 else 0)) else 2)
          g) m.objects)) same

      fits : (o : Object) (k : SegKind) → Suits m o k → Suits next o k
      fits o Small p = p
      fits o Ephemeral p = p
      fits o Large p = p
      fits o Pinned p = p

      suited : (o : Object) → IsIn o m.objects → SuitsItsSegment next o
      suited o i =
          let (t, was, now, stands) = home o i in
          let before : Suits m o t.kind =
          subst (λ (r : Option SegInfo). IfSome r (λ u. Suits m o u.kind))
          (segment_of-home m.layout h.laid.layout t o.place was stands) (all_at (SuitsItsSegment m) i h.suited) in
          subst (λ (r : Option SegInfo). IfSome r (λ u. Suits next o u.kind))
          (sym (segment_of-home next.layout laid.layout t o.place now stands)) (fits o t.kind before)

      room : (t : ℕ) (s : ThreadStep) → HasItsRoom m t s → HasItsRoom next t s
      room t no_step r = tt
      room t (begun_store object slot) r = tt
      room t (begun_new type len local) r = r

      rooms : (t : ℕ) (steps : List ThreadStep) → AllFrom (HasItsRoom m) t steps → AllFrom (HasItsRoom next) t steps
      rooms t [] r = tt
      rooms t (s ∷ ss) r = (room t s r.0, rooms (t + 1) ss r.1)

      pub resegmented_lawful : IsLawful (record m {
        layout = record m.layout { segments = segments };
        compacts_large = flag;
        background = background;
      })
      resegmented_lawful = record {
        options = h.options;
        types = h.types;
        type_count = h.type_count;
        type_names = h.type_names;
        type_words = h.type_words;
        names_rise = h.names_rise;
        shapes = all_imply (IsShaped m) (IsShaped next) m.objects (λ o. shaped_alike m next o refl) h.shapes;
        laid = laid;
        rests_young =
            all_imply (λ (p : Piece). generation m.layout p.place ≡ 0)
            (λ (p : Piece). generation next.layout p.place ≡ 0)
            (rest_pieces m.layout.rests) (λ p young. age p.place ∙ young) h.rests_young;
        suited = all_members (SuitsItsSegment next) m.objects suited;
        limit = limit;
        names = record {
          slots = h.names.slots;
          locals = h.names.locals;
          handles = h.names.handles;
          entries = h.names.entries;
          ready = h.names.ready;
          steps = h.names.steps;
        };
        seconds = h.seconds;
        locals = h.locals;
        steps = h.steps;
        rooms = rooms 1 m.steps h.rooms;
        holder = h.holder;
        handle_count = h.handle_count;
        handle_numbers = h.handle_numbers;
        entries = h.entries;
        ready = h.ready;
        sums = let zero = bytes 0 in let one = bytes 1 in record {
          spent0 = h.sums.spent0;
          spent_large = h.sums.spent_large;
          promoted1 = let l = h.sums.promoted1 in omega arith;
          promoted2 = let l = h.sums.promoted2 in omega arith;
        };
        marking =
            marking_kept m next background
            (old_as m next (λ o. o) (λ o. refl) (λ o i. i) (λ o i old. subst (λ n. 1 < n) (sym (age o.place)) old))
            marked;
      }
