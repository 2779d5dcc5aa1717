-- The ephemeral segment reserves what the options say, over lines and runs.
use Rattle.std.proofs.Common.{◌≡◌, ℕ, ◌+◌, inl, inr, List, ◌∷◌, refl, sym, ap, subst, ◌∙◌, false}
use Rattle.clr_types.specs.Segments.{Layout, ephemeral, opening_segment, same_kind}
use Rattle.clr_types.specs.declared.segment.SegKind.{SegKind}
use Rattle.clr_types.specs.declared.segment.SegKind.TheVariants.{Ephemeral, Large, Pinned}
use Rattle.clr_model.specs.declared.How.{How}
use Rattle.clr_model.specs.declared.Collected.{Collected}
use Rattle.clr_model.specs.Machine.{Machine, Options}
use Rattle.clr_model.specs.Allocation.{sealed, segment_for, with_layout, with_segment, IsPlacedIn, IsRefilled}
use Rattle.clr_model.specs.Instructions.{Instruction}
use Rattle.clr_model.specs.Collection.{Collects}
use Rattle.clr_model.specs.Run.{opening}
use Rattle.clr_model.proofs.CollectionKeeps.{collects_keeps, last_pause_keeps}
use Rattle.clr_model.proofs.LargeLadder.{large_comes_by}
use Rattle.clr_model.proofs.PinnedLadder.{pinned_comes_by}
use Rattle.clr_model.proofs.SmallLadder.{comes_by}
use Rattle.clr_laws.specs.Laws.{KeepsSegmentLaw, KeepsSegmentRunsLaw, ReservesSegment}
use Rattle.clr_laws.specs.Runs.{at_once, by_line, Goes, Line}
use Rattle.clr_laws.proofs.SegmentLength.{collection_length, ephemeral_length, last_pause_length, length_ended}
use Rattle.clr_laws.proofs.SegmentLength.{length_more, length_sealed}
use Rattle.clr_laws.proofs.Ways.{keeps, rooms, collects, pauses, small, large, pinned, line_way, Rooms, Way}

-- ---- layouts

-- the ephemeral segment's length stays where a context is refilled
length_refilled : (layout : Layout) (t size : ℕ) (new : Layout) → IsRefilled layout t size new
    → ephemeral_length new.segments ≡ ephemeral_length layout.segments
length_refilled layout t size new (inl (item, i, young, fit, same)) =
    ap (λ (l : Layout). ephemeral_length l.segments) same
length_refilled layout t size new (inr (fit, same)) =
    ap (λ (l : Layout). ephemeral_length l.segments) same
    ∙ length_ended (ephemeral layout).base _ layout.segments

-- the ephemeral segment's length stays where an object takes a place in a segment
length_placed : (kind : SegKind) (layout : Layout) (size place : ℕ) (new : Layout)
    → IsPlacedIn kind layout size place new → ephemeral_length new.segments ≡ ephemeral_length layout.segments
length_placed kind layout size place new (inl (item, i, stands, fit, at, same)) =
    ap (λ (l : Layout). ephemeral_length l.segments) same
length_placed kind layout size place new (inr (s, i, fit, at, same)) =
    ap (λ (l : Layout). ephemeral_length l.segments) same ∙ length_ended s.base (s.end + size) layout.segments

-- the ephemeral segment's length stays where a segment of another kind is added, and an object takes a place in it
length_acquired : (kind : SegKind) → same_kind Ephemeral kind ≡ false → (layout : Layout) (more size place : ℕ)
    (new : Layout) → IsPlacedIn kind (with_segment layout kind more) size place new
    → ephemeral_length new.segments ≡ ephemeral_length layout.segments
length_acquired kind other layout more size place new placed =
    length_placed kind (with_segment layout kind more) size place new placed
    ∙ length_more (opening_segment layout.top kind more) other layout.segments

-- ---- lines

-- a machine with the same options and the same length
alike_reserves : (m new : Machine) → new.options ≡ m.options
    → ephemeral_length new.layout.segments ≡ ephemeral_length m.layout.segments → ReservesSegment m
    → ReservesSegment new
alike_reserves m new options length h = length ∙ h ∙ sym (ap (λ (o : Options). o.segment) options)

-- a machine that stays
same_reserves : (m new : Machine) → new ≡ m → ReservesSegment m → ReservesSegment new
same_reserves m new same = subst ReservesSegment (sym same)

-- a machine with another layout of the same length
relaid_reserves : (m new : Machine) (layout : Layout) → new ≡ with_layout m layout
    → ephemeral_length layout.segments ≡ ephemeral_length m.layout.segments → ReservesSegment m → ReservesSegment new
relaid_reserves m new layout same length h = subst ReservesSegment (sym same) (length ∙ h)

-- a machine whose ephemeral segment became a small one, whatever it reserved
sealed_reserves : (m new : Machine) (t size : ℕ) (layout : Layout)
    → IsRefilled (sealed m.layout m.options.segment) t size layout → new ≡ with_layout m layout → ReservesSegment new
sealed_reserves m new t size layout refill same =
    subst ReservesSegment (sym same)
    (length_refilled (sealed m.layout m.options.segment) t size layout refill
    ∙ length_sealed (opening_segment m.layout.top Ephemeral m.options.segment) refl m.layout.segments)

-- a machine after a collection
collected_reserves : (m : Machine) (g : ℕ) (how : How) (answer : Collected) (new : Machine)
    → Collects m g how answer new → ReservesSegment m → ReservesSegment new
collected_reserves m g how answer new c =
    alike_reserves m new (collects_keeps m g how answer new c).options (collection_length m g how answer new c)

-- a machine after an attempt to make room
room_reserves : (m ready : Machine) → Rooms m ready → ReservesSegment m → ReservesSegment ready
room_reserves m ready (small t size attempt made) =
    comes_by t size attempt ready (λ m. ReservesSegment m → ReservesSegment ready) (λ m. same_reserves m ready)
    (λ m layout refill same. relaid_reserves m ready layout same (length_refilled m.layout t size layout refill))
    (λ m layout allowed refill same h. sealed_reserves m ready t size layout refill same)
    (λ m g how answer mid c more h. more (collected_reserves m g how answer mid c h)) m made
room_reserves m ready (large size place attempt made) =
    large_comes_by size place attempt ready (λ m. ReservesSegment m → ReservesSegment ready)
    (λ m. same_reserves m ready)
    (λ m layout placed same.
    relaid_reserves m ready layout same (length_placed Large m.layout size place layout placed))
    (λ m layout allowed placed same.
    relaid_reserves m ready layout same
    (length_acquired Large refl m.layout (segment_for m size) size place layout placed))
    (λ m g how answer mid c more h. more (collected_reserves m g how answer mid c h)) m made
room_reserves m ready (pinned size place attempt made) =
    pinned_comes_by size place attempt ready (λ m. ReservesSegment m → ReservesSegment ready)
    (λ m. same_reserves m ready)
    (λ m layout placed same.
    relaid_reserves m ready layout same (length_placed Pinned m.layout size place layout placed))
    (λ m layout allowed placed same.
    relaid_reserves m ready layout same
    (length_acquired Pinned refl m.layout (segment_for m size) size place layout placed))
    (λ m g how answer mid c more h. more (collected_reserves m g how answer mid c h)) m made

-- a machine after a line, in each of the ways of one
way_reserves : (m : Machine) (i : Instruction) (new : Machine) → Way m i new → ReservesSegment m → ReservesSegment new
way_reserves m i new (keeps k) = alike_reserves m new k.options (ap ephemeral_length k.segments)
way_reserves m i new (rooms ready made k) = λ h.
    alike_reserves ready new k.options (ap ephemeral_length k.segments) (room_reserves m ready made h)
way_reserves m i new (collects t g how answer is idle c) = collected_reserves m g how answer new c
way_reserves m i new (pauses marking answer idle c) =
    alike_reserves m new (last_pause_keeps m marking answer new c).options (last_pause_length m marking answer new c)

pub keeps_segment : KeepsSegmentLaw
keeps_segment m i outcome new h obeys = way_reserves m i new (line_way m i outcome new obeys) h

-- ---- runs

-- the machine in which a run begins
opening_reserves : (options : Options) → ReservesSegment (opening options)
unfolding opening
opening_reserves options = refl

-- the machine to which a run leads
run_reserves : (m : Machine) (ls : List Line) (last : Machine) → Goes m ls last → ReservesSegment m
    → ReservesSegment last
run_reserves m ls last at_once h = h
run_reserves m (line ∷ ls) last (by_line {next = next} again obeys goes) h =
    run_reserves next ls last goes (keeps_segment m line.does line.outcome next h obeys)

pub keeps_segment_runs : KeepsSegmentRunsLaw
keeps_segment_runs options ls last goes = run_reserves (opening options) ls last goes (opening_reserves options)
