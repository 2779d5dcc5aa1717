-- The fit of a heap's plugs is that of the machine whose memory it is.
use Rattle.std.proofs.Common.{◌≡◌, inl, inr, ℕ, ◌<◌, ◌≤◌, true, false, Bool, List, [], ◌++◌, length}
use Rattle.std.proofs.Common.{refl, ap, sym, ◌∙◌, subst, arith, map, filter, if◌then◌else◌, not, ◌&&◌}
use Rattle.std.proofs.lemmas.Bool.{and_from, eq-eqb, le-leb}
use Rattle.clr_types.specs.Ranges.{by_place, Piece}
use Rattle.clr_types.specs.Rising.{IsIn, IsRisingBy}
use Rattle.clr_types.specs.Segments.{ephemeral, Layout, rest_pieces}
use Rattle.clr_types.specs.Types.{TypeRow}
use Rattle.clr_types.specs.declared.item.Item.{Item}
use Rattle.clr_types.proofs.ChangedLists.{append_left, into_filter, IsIn-map, out_of_filter}
use Rattle.clr_types.proofs.ListMembers.{append_right, filter-rises, from-map, in_append}
use Rattle.clr_types.proofs.SortedLists.{into_sorted_by, out_of_sorted_by, rising_agree_by}
use Rattle.clr_heap.specs.Parts.{item_piece}
use Rattle.clr_heap.specs.View.{first_of, heap_items, HeapView, IsHeap, items_between, last_of, no_rests}
use Rattle.clr_heap.specs.View.{segment_at, sight}
use Rattle.clr_heap.proofs.Rewrite.{shaped_heap}
use Rattle.clr_model.specs.Compaction.{Move, moved_by, Plug}
use Rattle.clr_model.specs.Fitting.{Fit, fit, is_moved, is_older_item, older_items}
use Rattle.clr_model.specs.Lawful.{IsLaid}
use Rattle.clr_model.specs.Lookups.{object_piece}
use Rattle.clr_model.specs.Machine.{Machine, Object}
use Rattle.clr_model.specs.Sweep.{is_condemned, Survivor, survivor, survivor_piece, survivors}
use Rattle.clr_model.proofs.FitLaid.{item-below, unmoved-still}
use Rattle.clr_fitting.specs.Steps.{fit_in}
use Rattle.clr_fitting.proofs.PartFit.{inside-older}
use Rattle.clr_fitting.proofs.TwoSteps.{fitted_object, stays_laid}
use Rattle.clr_view.specs.Memory.{IsMemoryOf, TestsMarks}
use Rattle.clr_view.specs.View.{AreFreeHeads, free_in, is_free, IsHeld, layout_in, objects_in}
use Rattle.clr_view.proofs.Listings.{heap-rise}
use Rattle.clr_sweep.proofs.LayoutSwept.{free-rise}
use Rattle.clr_sweep.proofs.SurvivorsSwept.{listed-from, seen}
use Rattle.clr_moves.proofs.PlannedMoves.{memory-seen}
use Rattle.clr_plan.specs.Pinned.{TellsPins}
use Rattle.clr_plan.proofs.YoungParts.{at-start, at-young, start-at}
use Rattle.clr_evacuate.specs.Evacuated.{HasMadeFit}
use Rattle.clr_evacuate.specs.FittedAll.{CanCarryBetween, going_with, HasMade, moved_pieces}
use Rattle.clr_evacuate.specs.FittedRun.{AreOlder}
use Rattle.clr_evacuate.specs.Fittings.{fitting_between}
use Rattle.clr_evacuate.specs.Forwards.{HasForwards}
use Rattle.clr_evacuate.proofs.FittingPlugs.{fitting-are, fitting-scan}

-- ---- forwards

-- headers of free space are forwards that lead nowhere
pub no_forwards : (rows : List TypeRow) (h : HeapView) → AreFreeHeads rows h → HasForwards rows h (λ x. x)
no_forwards rows h heads = record {
  free = λ i n free. (
    (heads i n free).0
        ∙ sym (ap (λ (b : Bool). if b then 0 else i.place) (eq-eqb i.place i.place refl)),
    (heads i n free).1,
  );
  objects = λ x stands. refl;
  null = refl;
}

-- where only these moves are made, places go with them
pub going_is : (moves : List Move) (x : ℕ) → going_with (λ x. x) moves x ≡ moved_by moves x
going_is moves x = go (is_moved moves x) refl
  where
    go : (b : Bool) → is_moved moves x ≡ b → (if b then moved_by moves x else x) ≡ moved_by moves x
    go true e = refl
    go false e = sym (unmoved-still moves x e)

module _ (rows : List TypeRow) (h : HeapView) (base : Machine) (heap : IsHeap h) (held : IsHeld rows h) (none : h.rests
    ≡ no_rests) (laid : IsLaid (seen rows h base)) where
  abbrev m : Machine
  m = seen rows h base

  bare : rest_pieces (layout_in rows h).rests ≡ []
  bare = ap rest_pieces none

  -- the older items of a lawful memory are old throughout
  pub older_laid : AreOlder (layout_in rows h)
  older_laid = record {
    throughout = λ p q n low high. inside-older m laid bare (λ x. true) p q n low high;
    below = λ p n. item-below m laid bare (λ x. true) p n;
  }

  module _ (e : ℕ) (inside : e < length h.segments) (young : segment_at h e ≡ ephemeral (layout_in rows h)) where
    -- generation 1 can be carried
    can-carry : CanCarryBetween rows h e h.start1 h.start0
    can-carry = record {
      scan = fitting-scan rows h base heap held none laid e inside young;
      listed = λ i n.
          let at = start-at rows h base heap held none laid 1 (omega arith) e inside young in
          let low = at-start rows h base heap held none laid 1 (omega arith) e inside young in
          let high = at-young rows h base heap held none laid 1 (omega arith) e inside young in
          listed-from rows h e i inside
          (subst (IsIn i) (sym low.items) (append_right (items_between (sight rows h e) (first_of h e) _)
          (subst (IsIn i) (sym high.items) (append_left (items_between (sight rows h e) h.start0 (last_of h e))
          (subst (λ (p : ℕ). IsIn i (items_between (sight rows h e) p h.start0)) (sym at) n)))));
      older = older_laid;
      above = omega arith;
      low = omega arith;
    }

    module _ (keep : ℕ → Bool) (tests : TestsMarks rows h 1 keep) (pins : TellsPins rows h base) where
      abbrev f : Fit
      f = fit_in m keep

      abbrev goes : Survivor → Bool
      goes k = is_moved f.moves k.place

      abbrev goes_too : Object → Bool
      goes_too o = is_moved f.moves o.place

      abbrev stays : Object → Bool
      stays o = is_condemned m 1 o && keep o.name

      fit-is : fit (fitting_between rows h e h.start1 h.start0) (older_items (layout_in rows h)) ≡ f
      fit-is = sym (ap (λ (ps : List Plug). fit ps (older_items (layout_in rows h)))
          (fitting-are rows h base heap held none laid e inside young keep tests pins))

      -- what the moves of the fit take are survivors
      into-survivors : (p : Piece) → IsIn p (moved_pieces rows h f.moves)
          → IsIn p (map survivor_piece (filter goes (survivors m 1 keep)))
      into-survivors p n =
          let (o, same, k) = from-map (object_piece rows) p (filter goes_too (objects_in rows h)) n in
          let (t, among) = out_of_filter goes_too o (objects_in rows h) k in
          let is = fitted_object m keep laid bare o among t in
          let one : is_condemned m 1 o ≡ true = le-leb _ 1 (let age = is.before in omega (arith, age)) in
          subst (λ (q : Piece). IsIn q (map survivor_piece (filter goes (survivors m 1 keep)))) (sym same)
          (IsIn-map survivor_piece (into_filter goes (survivors m 1 keep) t
          (into_sorted_by (λ (s : Survivor). s.place) (survivor m o) (map (survivor m) (filter stays m.objects))
          (IsIn-map (survivor m) (into_filter stays m.objects
          (and_from (is_condemned m 1 o) (keep o.name) one is.stays) among)))))

      -- and the survivors that find room are those
      out-of-survivors : (p : Piece) → IsIn p (map survivor_piece (filter goes (survivors m 1 keep)))
          → IsIn p (moved_pieces rows h f.moves)
      out-of-survivors p n =
          let (k, same, i) = from-map survivor_piece p (filter goes (survivors m 1 keep)) n in
          let (t, among) = out_of_filter goes k (survivors m 1 keep) i in
          let (o, is, j) = from-map (survivor m) k (filter stays m.objects)
          (out_of_sorted_by (λ (s : Survivor). s.place) k (map (survivor m) (filter stays m.objects)) among) in
          let (on, mine) = out_of_filter stays o m.objects j in
          subst (λ (q : Piece). IsIn q (moved_pieces rows h f.moves)) (sym (same ∙ ap survivor_piece is))
          (IsIn-map (object_piece rows) (into_filter goes_too (objects_in rows h)
          (subst (λ (s : Survivor). is_moved f.moves s.place ≡ true) is t) mine))

      module _ (new : HeapView) (bytes : ℕ) (heads : AreFreeHeads rows h)
          (made : HasMade rows h new h.start1 f bytes) where
        abbrev others : List Piece
        others = filter (λ i. not (is_older_item (layout_in rows h) i)) (layout_in rows h).free ++ f.left

        abbrev place : Piece → ℕ
        place p = p.place

        free-rises : IsRisingBy place (free_in rows new)
        free-rises =
            free-rise (filter is_free (heap_items rows new))
            (filter-rises is_free (λ (i : Item). i.place) (heap_items rows new)
            (heap-rise rows new made.carried.held.walkable (shaped_heap h new made.carried.shape heap)))

        frees : by_place (others ++ map item_piece made.gone)
            ≡ by_place (others ++ map survivor_piece (filter goes (survivors m 1 keep)))
        frees =
            rising_agree_by place (by_place (others ++ map item_piece made.gone))
            (by_place (others ++ map survivor_piece (filter goes (survivors m 1 keep))))
            (subst (IsRisingBy place) (ap (λ (l : Layout). l.free) made.carried.layout) free-rises)
            (stays_laid m keep laid bare).layout.free_rise
            (λ p. (
              λ n. into_sorted_by place p (others ++ map survivor_piece (filter goes (survivors m 1 keep)))
                  (elim (in_append others (out_of_sorted_by place p (others ++ map item_piece made.gone) n)) [
                    | inl i ↦ append_left (map survivor_piece (filter goes (survivors m 1 keep))) i
                    | inr i ↦ append_right others (into-survivors p ((made.gone_are p).0 i))
                  ]),
              λ n. into_sorted_by place p (others ++ map item_piece made.gone)
                  (elim (in_append others (out_of_sorted_by place p
                  (others ++ map survivor_piece (filter goes (survivors m 1 keep))) n)) [
                    | inl i ↦ append_left (map item_piece made.gone) i
                    | inr i ↦ append_right others ((made.gone_are p).1 (out-of-survivors p i))
                  ]),
            ))

        -- THE FIT of the machine is made
        made-fit : HasMadeFit rows h new m keep bytes
        made-fit = record {
          objects = made.carried.objects;
          layout = made.carried.layout ∙ (λ k. record (layout_in rows h) { free = frees k });
          marks = made.carried.marks;
          headers = made.carried.headers;
          padding = made.carried.padding;
          forwards = subst (HasForwards rows new) (λ k x. going_is f.moves x k)
              (made.carried.forwards (λ x. x) (no_forwards rows h heads) (λ x low. refl));
          counted = made.counted;
          shape = made.carried.shape;
          held = made.carried.held;
        }

-- ---- as a call has them

-- a memory that is laid out lawfully, of some machine
abbrev pub IsLaidMemory : List TypeRow → HeapView → Type 0
IsLaidMemory rows h = (n : Machine) × IsMemoryOf rows h n × IsLaid n

module _ (rows : List TypeRow) (h : HeapView) (heap : IsHeap h) (held : IsHeld rows h) (none : h.rests ≡ no_rests)
    (e : ℕ) (inside : e < length h.segments) (young : segment_at h e ≡ ephemeral (layout_in rows h)) where
  -- generation 1 can be carried
  pub can_carry : IsLaidMemory rows h → CanCarryBetween rows h e h.start1 h.start0
  can_carry (n, memory, laid) =
      can-carry rows h n heap held none (subst IsLaid (memory-seen rows h n memory) laid) e inside young

  -- THE FIT of each machine that has the memory is made
  pub made_for : (new : HeapView) (bytes : ℕ) → AreFreeHeads rows h
      → HasMade rows h new h.start1
      (fit (fitting_between rows h e h.start1 h.start0) (older_items (layout_in rows h))) bytes
      → (n : Machine) (kept : ℕ → Bool) → IsMemoryOf rows h n → IsLaid n → TellsPins rows h n
      → TestsMarks rows h 1 kept → HasMadeFit rows h new n kept bytes
  made_for new bytes heads made n kept memory laid pins tests =
      let seen_laid : IsLaid (seen rows h n) = subst IsLaid (memory-seen rows h n memory) laid in
      subst (λ (x : Machine). HasMadeFit rows h new x kept bytes) (sym (memory-seen rows h n memory))
      (made-fit rows h n heap held none seen_laid e inside young kept tests pins new bytes heads
      (subst (λ (f : Fit). HasMade rows h new h.start1 f bytes)
      (fit-is rows h n heap held none seen_laid e inside young kept tests pins) made))

-- the boundaries of a laid memory lie in their order
pub laid_order : (rows : List TypeRow) (h : HeapView) → IsLaidMemory rows h → h.start1 ≤ h.start0
laid_order rows h (n, memory, laid) =
    subst (λ (l : Layout). l.start1 ≤ l.start0) memory.layout laid.layout.start1_high
