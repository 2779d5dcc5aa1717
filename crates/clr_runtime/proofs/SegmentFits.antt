-- An object fits in the segment that was acquired for it.
use Rattle.std.proofs.Common.{◌≡◌, ◌∙◌, ◌&&◌, ℕ, ◌+◌, true, Bool, [], ◌∷◌, ◌++◌, ap, sym, subst, arith, if◌then◌else◌}
use Rattle.std.proofs.Common.{Result, Ok, Err}
use Rattle.std.specs.Prelude.{OnOk}
use Rattle.std.proofs.lemmas.Bool.{le-leb, or_right}
use Rattle.std.specs.List.{list_any}
use Rattle.std.proofs.lemmas.List.Elements.{filter-append}
use Rattle.clr_types.specs.Ranges.{fits}
use Rattle.clr_types.specs.Rising.{first, IsIn}
use Rattle.clr_types.specs.Segments.{fits_in_tail, opening_segment, same_kind, segments_of}
use Rattle.clr_types.specs.declared.segment.SegInfo.{SegInfo}
use Rattle.clr_types.specs.declared.segment.SegKind.{SegKind}
use Rattle.clr_types.proofs.ListMembers.{any-from, append_right}
use Rattle.clr_heap.specs.declared.heap.segments.AcquireFault.{AcquireFault}
use Rattle.clr_model.specs.Allocation.{has_room_in, segment_for, stands_in_kind}
use Rattle.clr_model.specs.Machine.{Machine}
use Rattle.clr_runtime.specs.Segments.{IsAcquired, with_segment_for}

module _ (kind : SegKind) (own : same_kind kind kind ≡ true) where
  -- the size fits in it
  pub segment_fits : (m : Machine) (size : ℕ) → has_room_in kind (with_segment_for kind m size).layout size ≡ true
  segment_fits m size =
      let layout = (with_segment_for kind m size).layout in
      let new = opening_segment m.layout.top kind (segment_for m size) in
      let last : segments_of kind layout ≡ segments_of kind m.layout ++ new ∷ [] =
      filter-append (λ (s : SegInfo). same_kind kind s.kind) m.layout.segments (new ∷ [])
      ∙ ap (λ (b : Bool). segments_of kind m.layout ++ (if b then new ∷ [] else [])) own in
      or_right (list_any (λ p. stands_in_kind kind layout p.place && fits size p.size) layout.free)
      (list_any (λ s. fits_in_tail s size) (segments_of kind layout))
      (any-from (λ s. fits_in_tail s size) (segments_of kind layout) new
      (subst (IsIn new) (sym last) (append_right (segments_of kind m.layout) first))
      (le-leb (m.layout.top + 0x1000 + size) (m.layout.top + segment_for m size) (omega arith)))

  -- so there is room where one was acquired
  pub acquired_fits : (old new : Machine) (size : ℕ) (result : Result (Unit {0}) AcquireFault)
      → IsAcquired kind old new size result → OnOk result (has_room_in kind new.layout size ≡ true)
  acquired_fits old new size (Ok done) (may, same) =
      ap (λ (m : Machine). has_room_in kind m.layout size) same ∙ segment_fits old size
  acquired_fits old new size (Err fault) none = tt
