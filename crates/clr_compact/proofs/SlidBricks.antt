-- Segments and bricks when the plugs have gone: what is known of them before the marks of the parts are cleared.
use Rattle.std.proofs.Common.{◌≡◌, inl, inr, ℕ, suc, ◌-◌, ◌*◌, ◌/◌, ◌<◌, ◌≤◌, Bool, true, List, [], ◌∷◌}
use Rattle.std.proofs.Common.{length, map, get_or, refl, ap, sym, ◌∙◌, arith, ℤ}
use Rattle.std.proofs.lemmas.Bool.{cases_Bool}
use Rattle.clr_types.specs.Segments.{empty_segment, ended_at, ephemeral, first_place, Layout, reserved_end, same_kind}
use Rattle.clr_types.specs.Types.{TypeRow}
use Rattle.clr_types.specs.declared.segment.SegInfo.{SegInfo}
use Rattle.clr_types.specs.declared.segment.SegKind.TheVariants.{Ephemeral}
use Rattle.clr_bricks.specs.Bricks.{root_entry}
use Rattle.clr_covers.specs.Covers.{CoverView}
use Rattle.clr_heap.specs.View.{frame, HeapView, IsHeap, last_of, segment_at}
use Rattle.clr_heap.proofs.Framing.{lawful_at}
use Rattle.clr_model.specs.Compaction.{Move}
use Rattle.clr_model.specs.Machine.{Machine}
use Rattle.clr_model.specs.Sweep.{part_start}
use Rattle.clr_generations.specs.Tables.{AreBricksOf, units_of}
use Rattle.clr_generations.proofs.HeapHomes.{whole_bricks}
use Rattle.clr_model.proofs.SweptLawful.{start-cuts}
use Rattle.clr_sweep.proofs.SurvivorsSwept.{at-in, seen}
use Rattle.clr_moves.specs.Moves.{AreMoves, part_of, takes, start_of}
use Rattle.clr_moves.specs.declared.planned.Planned.{Planned}
use Rattle.clr_moves.specs.Objects.{AreRemembered}
use Rattle.clr_moves.specs.Overlaid.{IsCompactionOf}
use Rattle.clr_moves.proofs.PlannedMoves.{are-moves, seen-laid}
use Rattle.clr_compact.specs.PartBricks.{IsYoungPart}
use Rattle.clr_compact.specs.Slides.{HasSlid}
use Rattle.clr_compact.proofs.EnteringParts.{is-young, young-kind, young-part}
use Rattle.clr_moves.specs.declared.condemned.Condemned.{Condemned}
use Rattle.clr_moves.specs.declared.condemned.Condemned.TheVariants.{Generations}
use Rattle.clr_compact.proofs.Overlaying.{ended_start}

-- lists of segments that are alike at each place
pub map-alike : {X : Type 0} (f : SegInfo → X) (xs ys : List SegInfo) → length xs ≡ length ys
    → ((k : ℕ) → k < length xs → f (get_or xs k empty_segment) ≡ f (get_or ys k empty_segment)) → map f xs ≡ map f ys
map-alike f [] [] e same = refl
map-alike f [] (y ∷ ys) e same = absurd (omega arith)
map-alike f (x ∷ xs) [] e same = absurd (omega arith)
map-alike f (x ∷ xs) (y ∷ ys) e same =
    let here = same 0 (omega arith) in
    let rest = map-alike f xs ys (omega arith) (λ k l. same (suc k) (omega arith)) in
    λ i. here i ∷ rest i

module _ (old : HeapView) (g : Condemned) (moves : List Move) (mid : HeapView) (slid : HasSlid old mid g moves) where
  -- each segment is as it was, but for its end
  mid-ended : (t : ℕ) → t < length old.segments → (e : ℕ) × (segment_at mid t ≡ ended_at e (segment_at old t))
  mid-ended t l = elim (cases_Bool (takes g (segment_at old t))) [
    | inl on ↦ let (e, ends, is) = slid.parts t l on in (e, is)
    | inr off ↦ (last_of old t, slid.rest t l off)
  ]

  -- so what doesn't depend on its end is as it was
  pub mid-same : {X : Type 0} (f : SegInfo → X) → ((e : ℕ) (s : SegInfo) → f (ended_at e s) ≡ f s) → (t : ℕ)
      → t < length old.segments → f (segment_at mid t) ≡ f (segment_at old t)
  mid-same f stays t l = let (e, is) = mid-ended t l in ap f is ∙ stays e (segment_at old t)

  pub mid-part : (t : ℕ) → t < length old.segments → part_of mid g t ≡ part_of old g t
  mid-part t l =
      ap (λ (h : HeapView). start_of (frame h) g (segment_at mid t)) slid.others
      ∙ mid-same (start_of (frame old) g) (ended_start (frame old) g) t l

  -- the bricks are those of the heap
  pub mid-bricks : (bricks : List (CoverView ℤ)) → AreBricksOf (frame old) bricks → AreBricksOf (frame mid) bricks
  mid-bricks bricks of =
      of ∙ sym (map-alike (units_of 4096) mid.segments old.segments slid.count
      (λ k l. let n = slid.count in mid-same (units_of 4096) (λ e s. refl) k (omega arith)))

  -- the ephemeral segment is the same one
  pub mid-young : IsHeap old → IsHeap mid → (e : ℕ) → e < length mid.segments → segment_at mid e ≡ ephemeral (frame mid)
      → (e < length old.segments) × (segment_at old e ≡ ephemeral (frame old))
  mid-young heap mid_heap e l eph =
      let n = slid.count in
      let inside : e < length old.segments = omega arith in
      let kind = ap (λ (s : SegInfo). same_kind Ephemeral s.kind) eph ∙ young-kind mid mid_heap in (
        inside,
        is-young old e heap inside
            (sym (mid-same (λ (s : SegInfo). same_kind Ephemeral s.kind) (λ n s. refl) e inside) ∙ kind),
      )

module _ (rows : List TypeRow) (old : HeapView) (g : ℕ) (moves : List Move) (m : Machine) (kept : ℕ → Bool)
    (after : Layout) (p : IsCompactionOf rows old (Generations g) moves m kept after) (heap : IsHeap old)
    (least : g ≤ 2)
    (mid : HeapView) (slid : HasSlid old mid (Generations g) moves) (e : ℕ) (inside : e < length old.segments)
    (eph : segment_at old e ≡ ephemeral (frame old)) where
  abbrev s : SegInfo
  s = segment_at old e

  abbrev from : ℕ
  from = part_of old (Generations g) e

  on : takes (Generations g) (segment_at old e) ≡ true
  on = young-part old g e heap inside eph

  am : AreMoves old (Generations g) moves
  am = are-moves rows old (Generations g) moves m kept after p least

  pub from-end : from ≤ last_of old e
  from-end =
      (start-cuts (seen rows old m) (seen-laid rows old (Generations g) moves m kept after p) g least kept s
      (at-in old.segments e empty_segment inside)).high_end

  -- THE PART OF THE EPHEMERAL SEGMENT: two entries of its bricks can be given back
  pub is-young-part : (bricks : List (CoverView ℤ)) (entry : ℕ → ℤ) (planned : Planned)
      → AreRemembered rows old bricks (Generations g) entry planned.below planned.first
      → IsYoungPart mid e from (last_of old e) planned
  is-young-part bricks entry planned r =
      let (a, b, z) = am.starts e inside on in
      let first = mid-same old (Generations g) moves mid slid first_place (λ n t. refl) e inside in
      let room = mid-same old (Generations g) moves mid slid reserved_end (λ n t. refl) e inside in
      let top = (lawful_at old e heap inside).high in
      record {
        low = omega arith;
        order = from-end;
        high = omega arith;
        below_entry = λ offset is. in-brick (from / 4096 - 1) offset (omega arith) (omega arith)
            (sym (r.below_is e eph inside) ∙ is);
        first_entry = λ here offset is. in-brick (from / 4096) offset (omega arith) (omega arith)
            (sym (r.first_is e eph inside) ∙ is);
      }
    where
      in-brick : (brick offset : ℕ) → s.base / 4096 ≤ brick → 4096 * brick < reserved_end s
          → entry brick ≡ root_entry offset → offset < 4096
      in-brick brick offset low below is =
          let zb = (whole_bricks old e heap inside).base in
          let zr = (whole_bricks old e heap inside).reserved in
          let law = r.law s (at-in old.segments e empty_segment inside) in
          let within = (law.named brick offset (low, omega arith) is).inside in
          omega arith
