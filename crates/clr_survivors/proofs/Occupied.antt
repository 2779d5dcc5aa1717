-- After a full collection a segment that isn't empty has an object in it, but for the ephemeral one.
use Rattle.std.proofs.Common.{◌≡◌, inl, inr, ℕ, ◌-◌, ◌<◌, Bool, true, false, not, ◌||◌, ◌&&◌, List}
use Rattle.std.proofs.Common.{[], ◌∷◌}
use Rattle.std.proofs.Common.{refl, ap, sym, ◌∙◌, subst, arith, filter, map, if◌then◌else◌}
use Rattle.std.specs.List.{list_any}
use Rattle.std.proofs.lemmas.Bool.{and_from, and_parts, cases_Bool}
use Rattle.clr_types.specs.Ranges.{end_of_last, Piece}
use Rattle.clr_types.specs.Rising.{first, IsIn}
use Rattle.clr_types.specs.Segments.{first_place, generation, is_small_or_ephemeral, Layout, pieces_in, same_kind}
use Rattle.clr_types.specs.Segments.{stands_in}
use Rattle.clr_types.specs.declared.segment.SegInfo.{SegInfo}
use Rattle.clr_types.specs.declared.segment.SegKind.{SegKind}
use Rattle.clr_types.specs.declared.segment.SegKind.TheVariants.{Ephemeral, Large, Small, Pinned}
use Rattle.clr_types.proofs.ChangedLists.{all_members, into_filter, IsIn-map, out_of_filter}
use Rattle.clr_types.proofs.ListMembers.{any-from, from-map}
use Rattle.clr_types.proofs.RisingLists.{all_at}
use Rattle.clr_types.proofs.SortedLists.{into_sorted_by, out_of_sorted_by}
use Rattle.clr_heap.specs.View.{frame, HeapView}
use Rattle.clr_model.specs.Compaction.{compacted_end, Move, moved_by, moved_pieces, Plug, plugs_of}
use Rattle.clr_model.specs.Lookups.{object_piece}
use Rattle.clr_model.specs.Machine.{Machine, Object}
use Rattle.clr_model.specs.Sweep.{has_condemned_part, part_start, Survivor, survivor, survivor_pieces}
use Rattle.clr_model.specs.Sweep.{survivors}
use Rattle.clr_model.specs.Sweep.{swept_end}
use Rattle.clr_model.proofs.LawfulSurvivors.{generation-least, survivor-is}
use Rattle.clr_model.proofs.MovedPlaces.{landing}
use Rattle.clr_model.proofs.PlugsOf.{plugs-all}
use Rattle.clr_view.specs.Memory.{is_left, is_marked}
use Rattle.clr_view.specs.View.{layout_in, objects_in}
use Rattle.clr_sweep.specs.SweptLarge.{HasSweptLarge, is_large_place}
use Rattle.clr_moves.specs.Moves.{IsInPlug}
use Rattle.clr_moves.specs.Objects.{moved_object, relocated_object}
use Rattle.clr_moves.proofs.PlacesInPlugs.{moved_in_plug}
use Rattle.clr_moves.proofs.FromMachine.{number_of}
use Rattle.clr_survivors.specs.Phases.{HasSettled}
use Rattle.clr_survivors.specs.Survivors.{HasObjects, left_objects}
use Rattle.clr_survivors.proofs.Course.{IsCourse, segments-moved, Stages}
use Rattle.clr_survivors.proofs.Ended.{by-kind, objects-ended}
use Rattle.clr_survivors.proofs.FullObjects.{left-marked, out-of-large, unmoved-place}
use Rattle.clr_survivors.proofs.LargeTold.{chosen, survivors-told, tells-large}
use Rattle.clr_survivors.proofs.LeftGoes.{the-moves}
use Rattle.clr_types.specs.Segments.{is_large_or_pinned}

-- the first object of a plug
pub plug-first : (ks : List Survivor) (p : Plug) → IsIn p (plugs_of ks)
    → (k : Survivor) × IsIn k ks × (k.place ≡ p.start)
plug-first ks p i =
    all_at (λ (q : Plug). (k : Survivor) × IsIn k ks × (k.place ≡ q.start)) i
    (plugs-all (λ k. IsIn k ks) (λ q. (k : Survivor) × IsIn k ks × (k.place ≡ q.start)) (λ k j. (k, j, refl))
    (λ k q j s is. (k, j, refl)) ks (all_members (λ k. IsIn k ks) ks (λ k j. j)))

-- what ends above where it starts has a piece
pub some-piece : (low : ℕ) (ps : List Piece) → low < end_of_last low ps → (p : Piece) × IsIn p ps
some-piece low [] l = absurd (omega (arith, l))
some-piece low (p ∷ ps) l = (p, first)

not-large : (k : SegKind) → is_large_or_pinned k ≡ true → is_small_or_ephemeral k ≡ false
not-large Small e = absurd cc
not-large Ephemeral e = absurd cc
not-large Large e = refl
not-large Pinned e = refl

is-small : (k : SegKind) → is_large_or_pinned k ≡ false → is_small_or_ephemeral k ≡ true
is-small Small e = refl
is-small Ephemeral e = refl
is-small Large e = absurd cc
is-small Pinned e = absurd cc

all-condemned : (u : SegInfo) → has_condemned_part 2 u ≡ true
all-condemned u = go (same_kind Ephemeral u.kind)
  where
    go : (b : Bool) → (b || true) ≡ true
    go true = refl
    go false = refl

module _ (s : Stages) (m : Machine) (kept : ℕ → Bool) (c : IsCourse s m kept) (new : HeapView)
    (e : HasSettled s.rows s.moved.heap new s.roots_after.handles s.low s.g) where
  -- what is left is there, where it has moved
  pub in-new : (o : Object) → IsIn o (objects_in s.rows s.old.heap) → is_left s.old.heap s.g o ≡ true
      → IsIn (moved_object c.begun.plan.moves (relocated_object c.begun.plan.moves o)) (objects_in s.rows new)
  in-new o i left =
      let to : Object → Object = λ q. moved_object c.begun.plan.moves (relocated_object c.begun.plan.moves q) in
      subst (λ (os : List Object). IsIn (to o) os) (sym (objects-ended s m kept c new e))
      (into_sorted_by (λ (q : Object). q.name) (to o) (left_objects s.rows s.old.heap s.g c.begun.plan.moves)
      (IsIn-map to (into_filter (is_left s.old.heap s.g) (objects_in s.rows s.old.heap) left i)))

  stands-new : (u : SegInfo) (o : Object) → IsIn o (objects_in s.rows s.old.heap) → is_left s.old.heap s.g o ≡ true
      → stands_in u (moved_by c.begun.plan.moves o.place) ≡ true
      → list_any (λ q. stands_in u q.place) (objects_in s.rows new) ≡ true
  stands-new u o i left stands =
      any-from (λ (q : Object). stands_in u q.place) (objects_in s.rows new)
      (moved_object c.begun.plan.moves (relocated_object c.begun.plan.moves o)) (in-new o i left) stands

  module _ (full : s.g ≡ 2) (swept : HasSweptLarge s.rows e.bare new) where
    -- a plug has an object at its start
    plug-stands : (u : SegInfo) (v : Move) → IsIn v c.begun.plan.moves → stands_in u v.to ≡ true
        → list_any (λ q. stands_in u q.place) (objects_in s.rows new) ≡ true
    plug-stands u v i stands =
        let vs = c.begun.plan.moves in
        let comp = c.begun.plan.compaction.compacted in
        let laid = c.begun.plan.compaction.laid in
        let (p, known, landed) = landing m laid s.g c.run.given.generation kept vs c.begun.plan.after comp v i in
        let (k, small, at) = plug-first _ p (subst (λ (ps : List Plug). IsIn p ps) comp.plugs_are known) in
        let lives = survivor-is m laid s.g c.run.given.generation kept k small in
        let o = lives.object in
        let there : IsIn o (objects_in s.rows s.old.heap) =
        subst (λ (os : List Object). IsIn o os) c.memory.objects lives.present in
        let place : o.place ≡ v.start =
        ap (λ (w : Survivor). w.place) (sym lives.is) ∙ at ∙ sym landed.start in
        let (n, within, is) = number_of vs v i in
        let move = (the-moves s.rows c.begun.view s.g vs m kept c.begun.plan.after c.run.given.generation
        c.begun.plan.compaction).each n within in
        let least = move.least in
        let start = ap (λ (w : Move). w.start) is in
        let to = ap (λ (w : Move). w.to) is in
        let plug : IsInPlug vs n o.place = record {
          within = within;
          low = omega (arith, place, start);
          high = omega (arith, place, start, least);
        } in
        let moved = moved_in_plug vs c.begun.plan.overlaid.line n o.place plug in
        let goes : moved_by vs o.place ≡ v.to = omega (arith, moved, place, start, to) in
        let young = generation-least (frame s.old.heap) o.place in
        let mark : is_marked s.old.heap o ≡ true =
        sym (c.tests o there (omega (arith, young, full))) ∙ lives.kept_on in
        stands-new u o there (left-marked s m kept c full e.bare e.pins o ∙ mark)
        (ap (stands_in u) goes ∙ stands)

    -- a large segment
    large-stands : (u : SegInfo) → IsIn u s.old.heap.segments → is_large_or_pinned u.kind ≡ true
        → first_place u < swept_end (layout_in s.rows e.bare) 2 (survivors m s.g kept) u
        → list_any (λ q. stands_in u q.place) (objects_in s.rows new) ≡ true
    large-stands u i large some =
        let pieces = survivors-told s m kept c full u i in
        let starts : part_start (layout_in s.rows e.bare) 2 u ≡ first_place u = whole (same_kind Ephemeral u.kind) in
        let (q, j) = some-piece (first_place u)
        (map (object_piece s.rows) (filter (chosen s m kept c full u i) (objects_in s.rows s.old.heap)))
        (subst (λ (ps : List Piece). first_place u < end_of_last (first_place u) ps) pieces
        (subst (λ (n : ℕ). first_place u < end_of_last n (survivor_pieces u (survivors m s.g kept))) starts some)) in
        let (o, is, n) = from-map (object_piece s.rows) q
        (filter (chosen s m kept c full u i) (objects_in s.rows s.old.heap)) j in
        let (choice, there) = out_of_filter (chosen s m kept c full u i) o (objects_in s.rows s.old.heap) n in
        let (mark, stands) = and_parts (is_marked s.old.heap o) (stands_in u o.place) choice in
        let on : is_large_place s.old.heap o.place ≡ true =
        any-from (λ (w : SegInfo). is_large_or_pinned w.kind && stands_in w o.place) s.old.heap.segments u i
        (and_from (is_large_or_pinned u.kind) (stands_in u o.place) large stands) in
        stands-new u o there (left-marked s m kept c full e.bare e.pins o ∙ mark)
        (ap (stands_in u) (unmoved-place s m kept c full o.place (out-of-large s m kept c full e.bare e.pins o on))
        ∙ stands)
      where
        whole : (b : Bool) → {x : ℕ} → (if b then x else x) ≡ x
        whole true = refl
        whole false = refl

    -- a small one
    small-stands : (u : SegInfo) → same_kind Ephemeral u.kind ≡ false
        → first_place u < compacted_end c.begun.plan.after.start0 c.begun.plan.compaction.compacted.plugs
        c.begun.plan.moves u
        → list_any (λ q. stands_in u q.place) (objects_in s.rows new) ≡ true
    small-stands u other some =
        let vs = c.begun.plan.moves in
        let end : compacted_end c.begun.plan.after.start0 c.begun.plan.compaction.compacted.plugs vs u
        ≡ end_of_last (first_place u) (pieces_in u (moved_pieces vs)) =
        by-test (same_kind Ephemeral u.kind) other _ _ in
        let (q, j) = some-piece (first_place u) (pieces_in u (moved_pieces vs))
        (subst (λ (n : ℕ). first_place u < n) end some) in
        let (stands, k) = out_of_filter (λ (p : Piece). stands_in u p.place) q (moved_pieces vs) j in
        let as_piece : Move → Piece = λ v. record { place = v.to; size = v.size } in
        let (v, is, n) = from-map as_piece q vs (out_of_sorted_by (λ (p : Piece). p.place) q (map as_piece vs) k) in
        plug-stands u v n (subst (λ (p : Piece). stands_in u p.place ≡ true) is stands)
      where
        by-test : (b : Bool) → b ≡ false → (x y : ℕ) → (if b then x else y) ≡ y
        by-test true off x y = absurd cc
        by-test false off x y = refl

    abbrev change1 : SegInfo → SegInfo
    change1 u = if is_small_or_ephemeral u.kind && has_condemned_part s.g u
        then record u {
          end = compacted_end c.begun.plan.after.start0 c.begun.plan.compaction.compacted.plugs
              c.begun.plan.moves u;
        } else u

    abbrev change2 : SegInfo → SegInfo
    change2 u = if is_large_or_pinned u.kind && has_condemned_part 2 u
        then record u { end = swept_end (layout_in s.rows e.bare) 2 (survivors m s.g kept) u } else u

    abbrev Holds : SegInfo → Type 0
    Holds t = same_kind Ephemeral t.kind ≡ false → first_place t < t.end
        → list_any (λ q. stands_in t q.place) (objects_in s.rows new) ≡ true

    pub occupied-full : HasObjects s.rows new
    occupied-full t i other some =
        let swept_segments = ap (λ (l : Layout). l.segments)
        (swept.layout (survivors m s.g kept) (tells-large s m kept c full e.bare e.pins)) in
        let (b, is_b, j) = from-map change2 t e.bare.segments
        (subst (λ (ss : List SegInfo). IsIn t ss) swept_segments i) in
        let bare_segments = ap (λ (h : HeapView). h.segments) e.pins.shape.others ∙ segments-moved s m kept c in
        let (u, is_u, k) = from-map change1 b s.old.heap.segments
        (subst (λ (ss : List SegInfo). IsIn b ss) bare_segments j) in
        subst Holds (sym (is_b ∙ ap change2 is_u)) (both u k) other some
      where
        both : (u : SegInfo) → IsIn u s.old.heap.segments → Holds (change2 (change1 u))
        both u k = elim (cases_Bool (is_large_or_pinned u.kind)) [
          | inl large ↦
              let one : change1 u ≡ u =
              ap (λ (b : Bool). if b && has_condemned_part s.g u
              then record u {
                end = compacted_end c.begun.plan.after.start0 c.begun.plan.compaction.compacted.plugs
                    c.begun.plan.moves u;
              } else u) (not-large u.kind large) in
              let two : change2 u ≡ record u { end = swept_end (layout_in s.rows e.bare) 2 (survivors m s.g kept) u } =
              ap (λ (b : Bool). if b then record u {
                end = swept_end (layout_in s.rows e.bare) 2
                    (survivors m s.g kept) u;
              } else u)
              (and_from (is_large_or_pinned u.kind) (has_condemned_part 2 u) large (all-condemned u)) in
              subst Holds (sym (ap change2 one ∙ two)) (λ other some. large-stands u k large some)
          | inr small ↦
              let ended : SegInfo = record u {
                end = compacted_end c.begun.plan.after.start0
                    c.begun.plan.compaction.compacted.plugs c.begun.plan.moves u;
              } in
              let one : change1 u ≡ ended =
              ap (λ (b : Bool). if b then record u {
                end = compacted_end c.begun.plan.after.start0
                    c.begun.plan.compaction.compacted.plugs c.begun.plan.moves u;
              } else u)
              (and_from (is_small_or_ephemeral u.kind) (has_condemned_part s.g u) (is-small u.kind small)
              (ap (λ g. has_condemned_part g u) full ∙ all-condemned u)) in
              let two : change2 ended ≡ ended =
              ap (λ (b : Bool). if b && has_condemned_part 2 u
              then record ended { end = swept_end (layout_in s.rows e.bare) 2 (survivors m s.g kept) ended }
              else ended) small in
              subst Holds (sym (ap change2 one ∙ two)) (λ other some. small-stands u other some)
        ]

  pub occupied-ended : s.g ≡ 2 → HasObjects s.rows new
  occupied-ended full = by-kind s m kept c new e (HasObjects s.rows new)
      (λ young same. absurd (omega (arith, full, young))) occupied-full
