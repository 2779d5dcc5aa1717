-- After a slide of the large heap a segment that isn't empty still has an object in it.
use Rattle.std.proofs.Common.{◌≡◌, ℕ, ◌-◌, ◌<◌, ◌&&◌, Bool, true, false, if◌then◌else◌, List, map, refl, ap, sym, ◌∙◌}
use Rattle.std.proofs.Common.{subst, arith, inl, inr}
use Rattle.std.specs.List.{list_any}
use Rattle.std.proofs.lemmas.Bool.{both_ways, cases_Bool}
use Rattle.clr_types.specs.Ranges.{Piece}
use Rattle.clr_types.specs.Rising.{IsIn}
use Rattle.clr_types.specs.Segments.{empty_segment, first_place, Layout, pieces_in, same_kind, stands_in}
use Rattle.clr_types.specs.declared.segment.SegInfo.{SegInfo}
use Rattle.clr_types.specs.declared.segment.SegKind.TheVariants.{Ephemeral, Large}
use Rattle.clr_types.proofs.ChangedLists.{out_of_filter}
use Rattle.clr_types.proofs.ListMembers.{any-from, any-in, from-map}
use Rattle.clr_types.proofs.SegmentFacts.{between-stands, one_home}
use Rattle.clr_types.proofs.SortedLists.{out_of_sorted_by}
use Rattle.clr_heap.specs.View.{HeapView, segment_at}
use Rattle.clr_model.specs.Compaction.{Move, moved_by, moved_pieces, Plug}
use Rattle.clr_model.specs.Machine.{Machine, Object}
use Rattle.clr_model.specs.Slide.{slid_end}
use Rattle.clr_model.specs.Sweep.{has_condemned_part, Survivor}
use Rattle.clr_model.proofs.LargeSurvivors.{all-take}
use Rattle.clr_view.specs.View.{objects_in}
use Rattle.clr_sweep.proofs.SurvivorsSwept.{at-in}
use Rattle.clr_moves.specs.Moves.{IsInPlug}
use Rattle.clr_moves.specs.Objects.{is_in_parts}
use Rattle.clr_moves.specs.declared.condemned.Condemned.TheVariants.{LargeSegments}
use Rattle.clr_moves.proofs.FromMachine.{number_of}
use Rattle.clr_moves.proofs.PartPlaces.{out_of_parts}
use Rattle.clr_moves.proofs.PlacesInPlugs.{moved_in_plug}
use Rattle.clr_survivors.specs.Pins.{HasPins}
use Rattle.clr_survivors.specs.Survivors.{HasObjects}
use Rattle.clr_survivors.proofs.Occupied.{plug-first, some-piece}
use Rattle.clr_survivors.proofs.SlideCourse.{away-stays, fills, inside-view, IsCourse, objects-view, Stages}
use Rattle.clr_survivors.proofs.SlideEnded.{gone, in-moved, laid-moved}

module _ (s : Stages) (m : Machine) (c : IsCourse s m) (new : HeapView)
    (e : HasPins s.rows s.moved.heap new s.roots_after.handles 1 65536 false) where
  stands-new : (u : SegInfo) (o : Object) → IsIn o (objects_in s.rows s.old.heap)
      → stands_in u (moved_by c.begun.plan.moves o.place) ≡ true
      → list_any (λ q. stands_in u q.place) (objects_in s.rows new) ≡ true
  stands-new u o i stands =
      any-from (λ (q : Object). stands_in u q.place) (objects_in s.rows new) (gone s m c o)
      (subst (λ (os : List Object). IsIn (gone s m c o) os) (sym e.objects) (in-moved s m c o i)) stands

  -- a plug has an object at its start
  plug-stands : (u : SegInfo) (v : Move) → IsIn v c.begun.plan.moves → stands_in u v.to ≡ true
      → list_any (λ q. stands_in u q.place) (objects_in s.rows new) ≡ true
  plug-stands u v i stands =
      let vs = c.begun.plan.moves in
      let f = fills s c.run.given m c.begun in
      let (p, known, of) = f.landings.going.plug_of v i in
      let (k, among, at) = plug-first f.survive p
      (subst (λ (ps : List Plug). IsIn p ps) f.landings.plugs_are known) in
      let lives = f.landings.going.survivors_are k among in
      let o = lives.object in
      let there : IsIn o (objects_in s.rows s.old.heap) =
      subst (λ (os : List Object). IsIn o os) (objects-view s c.run.given m c.begun) lives.present in
      let place : o.place ≡ v.start = ap (λ (w : Survivor). w.place) (sym lives.is) ∙ at ∙ sym of.start in
      let (n, within, is) = number_of vs v i in
      let least = (f.are.each n within).least in
      let start = ap (λ (w : Move). w.start) is in
      let to = ap (λ (w : Move). w.to) is in
      let plug : IsInPlug vs n o.place = record {
        within = within;
        low = omega (arith, place, start);
        high = omega (arith, place, start, least);
      } in
      let moved = moved_in_plug vs c.begun.plan.overlaid.line n o.place plug in
      let goes : moved_by vs o.place ≡ v.to = omega (arith, moved, place, start, to) in
      stands-new u o there (ap (stands_in u) goes ∙ stands)

  large-stands : (u : SegInfo) → first_place u < slid_end c.begun.plan.moves u
      → list_any (λ q. stands_in u q.place) (objects_in s.rows new) ≡ true
  large-stands u some =
      let vs = c.begun.plan.moves in
      let (q, j) = some-piece (first_place u) (pieces_in u (moved_pieces vs)) some in
      let (stands, k) = out_of_filter (λ (p : Piece). stands_in u p.place) q (moved_pieces vs) j in
      let as_piece : Move → Piece = λ v. record { place = v.to; size = v.size } in
      let (v, is, n) = from-map as_piece q vs (out_of_sorted_by (λ (p : Piece). p.place) q (map as_piece vs) k) in
      plug-stands u v n (subst (λ (p : Piece). stands_in u p.place ≡ true) is stands)

  -- what stands in another segment is in no part, and stays there
  other-away : (u : SegInfo) → IsIn u m.layout.segments → same_kind Large u.kind ≡ false → (x : ℕ)
      → stands_in u x ≡ true → is_in_parts c.begun.view LargeSegments x ≡ false
  other-away u i off x stands = elim (cases_Bool (is_in_parts s.old.heap LargeSegments x)) [
    | inr away ↦ inside-view s c.run.given m c.begun x ∙ away
    | inl inside ↦
        let (n, into, up) = out_of_parts s.old.heap LargeSegments x inside in
        let t = segment_at s.old.heap n in
        let among : IsIn t m.layout.segments =
        subst (λ (l : Layout). IsIn t l.segments) (sym c.memory.layout)
        (at-in s.old.heap.segments n empty_segment into.in_range) in
        let same = one_home m.layout c.laid.layout t u x among i (between-stands t x up into.high) stands in
        absurd (both_ways (same_kind Large u.kind) off
        (subst (λ (w : SegInfo). same_kind Large w.kind ≡ true) same into.takes))
  ]

  other-stands : HasObjects s.rows s.old.heap → (u : SegInfo) → IsIn u m.layout.segments
      → same_kind Large u.kind ≡ false → same_kind Ephemeral u.kind ≡ false → first_place u < u.end
      → list_any (λ q. stands_in u q.place) (objects_in s.rows new) ≡ true
  other-stands full u i off other some =
      let (o, there, stands) = any-in (λ (q : Object). stands_in u q.place) (objects_in s.rows s.old.heap)
      (full u (subst (λ (l : Layout). IsIn u l.segments) c.memory.layout i) other some) in
      stands-new u o there
      (ap (stands_in u) (away-stays s c.run.given m c.begun o.place
      (other-away u i off o.place stands)) ∙ stands)

  abbrev change : SegInfo → SegInfo
  change u = if same_kind Large u.kind && has_condemned_part 2 u
      then record u { end = slid_end c.begun.plan.moves u } else u

  abbrev Holds : SegInfo → Type 0
  Holds t = same_kind Ephemeral t.kind ≡ false → first_place t < t.end
      → list_any (λ q. stands_in t q.place) (objects_in s.rows new) ≡ true

  pub occupied-ended : HasObjects s.rows s.old.heap → HasObjects s.rows new
  occupied-ended full t i other some =
      let segments = ap (λ (h : HeapView). h.segments) e.shape.others
      ∙ ap (λ (l : Layout). l.segments) (laid-moved s m c) in
      let (u, is, j) = from-map change t m.layout.segments (subst (λ (ss : List SegInfo). IsIn t ss) segments i) in
      subst Holds (sym is) (both u j) other some
    where
      both : (u : SegInfo) → IsIn u m.layout.segments → Holds (change u)
      both u j = go (same_kind Large u.kind) refl
        where
          go : (a : Bool) → same_kind Large u.kind ≡ a
              → Holds (if a && has_condemned_part 2 u then record u { end = slid_end c.begun.plan.moves u } else u)
          go true kind =
              subst (λ (b : Bool). Holds (if b then record u { end = slid_end c.begun.plan.moves u } else u))
              (sym (all-take u)) (λ other some. large-stands u some)
          go false kind = λ other some. other-stands full u j kind other some
