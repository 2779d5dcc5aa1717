-- The pointer raised into the ephemeral segment.
use Rattle.std.proofs.Common.{◌≡◌, ◌≢◌, ℕ, ◌<◌, ◌≤◌, inl, inr, max, List, [], ◌∷◌, ◌++◌, map, filter, length}
use Rattle.std.proofs.Common.{refl, sym, ap, subst, ◌∙◌, arith, Bool, true, false, nat_le, ◌&&◌, if◌then◌else◌}
use Rattle.std.proofs.lemmas.Bool.{and_parts, and_from, leb-true, le-leb}
use Rattle.clr_types.specs.Rising.{IsIn, IsRisingBy}
use Rattle.clr_types.specs.Types.{TypeRow}
use Rattle.clr_types.specs.Ranges.{Piece}
use Rattle.clr_types.specs.Segments.{ephemeral, first_place, reserved_end}
use Rattle.clr_types.specs.declared.segment.SegInfo.{SegInfo}
use Rattle.clr_types.proofs.ListMembers.{append_right, filter-map}
use Rattle.clr_types.proofs.RisingLists.{all_at}
use Rattle.clr_heap.specs.View.{HeapView, first_of, last_of, segment_at}
use Rattle.clr_heap.proofs.Staying.{segment_order}
use Rattle.clr_heap.proofs.Framing.{lawful_at}
use Rattle.clr_view.specs.View.{layout_in}
use Rattle.clr_model.specs.Compaction.{Plug, piece_of_plug, raised_past_pins}
use Rattle.clr_model.proofs.PlugPointer.{IsEdge, edge-gapped, edge-outside}
use Rattle.clr_plan.specs.Pointing.{pins_from}
use Rattle.clr_pinq.specs.declared.entry.PinEntry.{PinEntry}
use Rattle.clr_plan.specs.Waiting.{ranges_from}
use Rattle.clr_plan.specs.Parts.{Around}
use Rattle.clr_plan.specs.Raises.{CanRaise, HasRaised}
use Rattle.clr_plan.specs.Plans.{CanPlanHeap, IsBetween, IsRaisedTo, older_plugs, parts_in, young_plugs}
use Rattle.clr_plan.specs.declared.pointer.Pointer.{Pointer}
use Rattle.clr_plan.proofs.Beginning.{plugs-lie, young-in}
use Rattle.clr_plan.proofs.Pins.{agree, front_rises, pins-rise}
use Rattle.clr_plan.proofs.Scanning.{plugs-above}

pub filter-twice : {X : Type 0} (s t u : X → Bool) (xs : List X) → ((x : X) → (s x && t x) ≡ u x)
    → filter t (filter s xs) ≡ filter u xs
filter-twice s t u [] same = refl
filter-twice s t u (x ∷ xs) same = go (s x) (same x) (filter-twice s t u xs same)
  where
    inner : (b : Bool) → filter t (filter s xs) ≡ filter u xs
        → (if b then x ∷ filter t (filter s xs) else filter t (filter s xs))
        ≡ (if b then x ∷ filter u xs else filter u xs)
    inner true more = ap (λ ys. x ∷ ys) more
    inner false more = more

    go : (b : Bool) → (b && t x) ≡ u x → filter t (filter s xs) ≡ filter u xs
        → filter t (if b then x ∷ filter s xs else filter s xs) ≡ (if u x then x ∷ filter u xs else filter u xs)
    go true e more = inner (t x) more ∙ ap (λ b. if b then x ∷ filter u xs else filter u xs) e
    go false e more = more ∙ ap (λ b. if b then x ∷ filter u xs else filter u xs) e

-- the pins from a higher place on are those that begin there
pub pins-higher : (low high : ℕ) (plugs : List Plug) → low ≤ high → filter (λ (x : Piece). nat_le high x.place)
    (pins_from low plugs) ≡ pins_from high plugs
pins-higher low high plugs l =
    filter-map piece_of_plug (λ (x : Piece). nat_le high x.place) (filter (λ (p : Plug). p.pinned && nat_le low p.start)
    plugs)
    ∙ ap (map piece_of_plug) (filter-twice (λ (p : Plug). p.pinned && nat_le low p.start) (λ p. nat_le high p.start)
    (λ p. p.pinned && nat_le high p.start) plugs same)
  where
    same : (p : Plug) → ((p.pinned && nat_le low p.start) && nat_le high p.start) ≡ (p.pinned && nat_le high p.start)
    same p = agree ((p.pinned && nat_le low p.start) && nat_le high p.start) (p.pinned && nat_le high p.start)
        (λ t. let (a, b) = and_parts (p.pinned && nat_le low p.start) (nat_le high p.start) t in
        let (c, d) = and_parts p.pinned (nat_le low p.start) a in and_from p.pinned (nat_le high p.start) c b)
        (λ t. let (a, b) = and_parts p.pinned (nat_le high p.start) t in
        and_from (p.pinned && nat_le low p.start) (nat_le high p.start) (and_from p.pinned (nat_le low p.start) a
        (le-leb low p.start (let m : high ≤ p.start = leb-true high p.start b in omega arith))) b)

module _ (rows : List TypeRow) (h : HeapView) (g e : ℕ) (can : CanPlanHeap rows h g e) (entries : List PinEntry)
    (from : Pointer) (s : IsBetween rows h g e entries from) where
  abbrev parts : List SegInfo
  parts = parts_in rows h g

  abbrev older : List Plug
  older = older_plugs rows h g e

  abbrev young : List Plug
  young = young_plugs rows h e

  pub waiting-rises : IsRisingBy (λ (x : Piece). x.place) (ranges_from from.passed entries)
  waiting-rises = subst (IsRisingBy (λ (x : Piece). x.place)) (sym s.stands.waiting)
      (pins-rise from.place older (front_rises older young (plugs-lie rows h g e can).rise))

  first-low : first_of h e ≤ h.start0
  first-low =
      let low = can.laid.start1_low in
      let high = can.laid.start1_high in
      let same : first_of h e ≡ first_place (ephemeral (layout_in rows h)) = ap first_place can.young in
      omega arith

  -- young plugs stand in the ephemeral segment
  young-above : (q : Plug) → IsIn q young → first_of h e ≤ q.start
  young-above q i =
      let l : h.start0 ≤ q.start = all_at (λ (p : Plug). h.start0 ≤ p.start) i
      (plugs-above rows h e h.start0 (last_of h e) can.young_scan) in
      let m = first-low in
      omega arith

  abbrev around_young : Around
  around_young = record { segments = parts; done = older; ahead = young }

  -- up into the ephemeral segment
  pub raise-up : from.segment ≢ e → (passed : ℕ) → passed ≤ length entries → ranges_from passed entries
      ≡ filter (λ (x : Piece). nat_le (first_of h e) x.place) (ranges_from from.passed entries)
      → CanRaise around_young h entries (record {
        place = first_of h e;
        segment = e;
        high = reserved_end (segment_at h e);
        passed = passed;
      }) × (from.place ≤ first_of h e)
  raise-up ne passed behind left = (
    record {
      plugs = plugs-lie rows h g e can;
      high = refl;
      behind = behind;
      stands = record {
        among = young-in rows h g e can;
        low = omega arith;
        high = top;
        waiting = left ∙ ap (filter (λ (x : Piece). nat_le (first_of h e) x.place)) s.stands.waiting
            ∙ pins-higher from.place (first_of h e) older under;
        outside = edge-outside parts (older ++ young) (plugs-lie rows h g e can) (first_of h e) edge;
        near = λ q i. (
          young-above q i,
          inl (edge-gapped parts (older ++ young) (plugs-lie rows h g e can)
              (first_of h e) edge q (append_right older i) (young-above q i)),
        );
      };
    },
    under,
  )
    where
      edge : IsEdge parts (older ++ young) (first_of h e)
      edge = inr (segment_at h e, young-in rows h g e can, refl)

      below : from.segment < e
      below = let o = s.order in omega arith

      under : from.place ≤ first_of h e
      under =
          let o : reserved_end (segment_at h from.segment) ≤ (segment_at h e).base = segment_order h from.segment e
          can.heap below can.inside in
          let t : from.place ≤ reserved_end (segment_at h from.segment) = s.stands.high in
          omega arith

      top : first_of h e ≤ reserved_end (segment_at h e)
      top = let r : 262144 ≤ (segment_at h e).reserved = (lawful_at h e can.heap can.inside).least in omega arith

  -- or at its place there
  pub raise-there : CanRaise around_young h entries from
  raise-there = record { plugs = plugs-lie rows h g e can; high = s.high; behind = s.behind; stands = s.stands }

  raised-in : (start at : Pointer) → start.segment ≡ e → start.place ≡ max from.place (first_of h e) → start.high
      ≡ reserved_end (segment_at h start.segment) → HasRaised around_young h entries start at
      → IsRaisedTo rows h g e entries from at
  raised-in start at in_e place high r = record {
    segment = r.segment ∙ in_e;
    place = r.place ∙ ap (raised_past_pins older) place;
    between = record {
      order = let a = r.segment in omega arith;
      high = r.high ∙ high ∙ ap (λ k. reserved_end (segment_at h k)) (sym r.segment);
      behind = r.behind;
      stands = r.stands;
    };
  }

  pub raised-up : from.segment ≢ e → (passed : ℕ) → passed ≤ length entries → ranges_from passed entries
      ≡ filter (λ (x : Piece). nat_le (first_of h e) x.place) (ranges_from from.passed entries)
      → (start at : Pointer) → start ≡ record {
        place = first_of h e;
        segment = e;
        high = reserved_end (segment_at h e);
        passed = passed;
      }
      → ((w : Around) (h : HeapView) → CanRaise w h entries start → HasRaised w h entries start at)
      → IsRaisedTo rows h g e entries from at
  raised-up ne passed behind left start at same raise =
      let (ready, under) = raise-up ne passed behind left in
      let place : first_of h e ≡ max from.place (first_of h e) = omega arith in
      let seen : CanRaise around_young h entries start = subst (CanRaise around_young h entries) (sym same) ready in
      raised-in start at (ap (λ (p : Pointer). p.segment) same) (ap (λ (p : Pointer). p.place) same ∙ place) seen.high
      (raise around_young h seen)

  pub raised-there : from.segment ≡ e → (start at : Pointer) → start ≡ from
      → ((w : Around) (h : HeapView) → CanRaise w h entries start → HasRaised w h entries start at)
      → IsRaisedTo rows h g e entries from at
  raised-there in_e start at same raise =
      let low : first_of h e ≤ from.place = subst (λ k. first_of h k ≤ from.place) in_e s.stands.low in
      let place : from.place ≡ max from.place (first_of h e) = omega arith in
      let seen : CanRaise around_young h entries start = subst (CanRaise around_young h entries) (sym same) raise-there
      in
      raised-in start at (ap (λ (p : Pointer). p.segment) same ∙ in_e) (ap (λ (p : Pointer). p.place) same ∙ place)
      seen.high (raise around_young h seen)
