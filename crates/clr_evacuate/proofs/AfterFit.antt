-- After a fit no item reaches over the start of generation 1, and nothing outside of generation 1 went.
use Rattle.std.proofs.Common.{◌≡◌, inl, inr, ℕ, ◌+◌, ◌≤◌, Bool, true, false, not, ◌&&◌, ◌==◌, List, [], map, refl, ap}
use Rattle.std.proofs.Common.{sym, ◌∙◌, subst, arith, nat_lt, if◌then◌else◌}
use Rattle.std.proofs.lemmas.Bool.{and_parts, eqb-true, le-ltb, true≢false}
use Rattle.clr_types.specs.LawfulLayout.{DoesNotCross}
use Rattle.clr_types.specs.Ranges.{Piece, piece_end}
use Rattle.clr_types.specs.Rising.{IsIn}
use Rattle.clr_types.specs.Segments.{ephemeral, generation, is_small_or_ephemeral, Layout, rest_pieces, stands_in}
use Rattle.clr_types.specs.Types.{TypeRow}
use Rattle.clr_types.specs.declared.item.Item.{Item}
use Rattle.clr_types.specs.declared.segment.SegInfo.{SegInfo}
use Rattle.clr_types.proofs.ChangedLists.{all_members, into_filter, IsIn-map, out_of_filter}
use Rattle.clr_types.proofs.ListMembers.{from-map}
use Rattle.clr_types.proofs.RisingLists.{all_at}
use Rattle.clr_types.proofs.SortedLists.{out_of_sorted_by}
use Rattle.clr_heap.specs.Parts.{item_piece}
use Rattle.clr_heap.specs.View.{frame, heap_items, HeapView, IsHeap, word_of}
use Rattle.clr_heap.proofs.Rewrite.{shaped_heap}
use Rattle.clr_model.specs.Compaction.{Move, moved_by, Plug, plug_end, plugs_of, survivors_in}
use Rattle.clr_model.specs.Lawful.{IsLaid}
use Rattle.clr_model.specs.Lookups.{object_piece, pieces}
use Rattle.clr_model.specs.Machine.{Machine, Object}
use Rattle.clr_model.specs.Slide.{slid_object}
use Rattle.clr_model.specs.Sweep.{Survivor, survivor, survivors}
use Rattle.clr_model.proofs.FitFillings.{going}
use Rattle.clr_model.proofs.LawfulPieces.{object-in-pieces}
use Rattle.clr_model.proofs.MovedPlaces.{moved-is}
use Rattle.clr_model.proofs.PlugsOf.{plugs-all}
use Rattle.clr_model.proofs.Relaid.{free-in-pieces}
use Rattle.clr_fitting.specs.Steps.{fitted}
use Rattle.clr_fitting.proofs.FitMoves.{below_stays}
use Rattle.clr_fitting.proofs.TwoSteps.{stays_laid}
use Rattle.clr_view.specs.Memory.{IsMemoryOf}
use Rattle.clr_view.specs.View.{is_free, is_object, IsHeld, object_in, objects_in}
use Rattle.clr_view.proofs.Listed.{listed-sized}
use Rattle.clr_moves.specs.Objects.{moved_object}
use Rattle.clr_evacuate.specs.Evacuated.{HasMadeFit, moves_in}
use Rattle.clr_evacuate.specs.Forwarding.{HasOlderBorder, IsUnmovedOutside}

-- ---- where moves end

-- the generation by the segment and the two boundaries
abbrev aged : Bool → Bool → Bool → ℕ
aged a b c = if a then (if b then 2 else (if c then 1 else 0)) else 2

-- a place of generation 1 stands below generation 0
age-below : (layout : Layout) (place : ℕ) → generation layout place ≡ 1 → nat_lt place layout.start0 ≡ true
age-below layout place = go (stands_in (ephemeral layout) place) (nat_lt place layout.start1)
    (nat_lt place layout.start0)
  where
    go : (a b c : Bool) → aged a b c ≡ 1 → c ≡ true
    go true true c e = absurd (omega (arith, e))
    go true false true e = refl
    go true false false e = absurd (omega (arith, e))
    go false b c e = absurd (omega (arith, e))

-- what begins below generation 0 ends there, too, where it doesn't reach over its start
ends-below : (start0 : ℕ) (p : Piece) → nat_lt p.place start0 ≡ true → DoesNotCross start0 p → piece_end p ≤ start0
ends-below start0 p below (inl above) = absurd (true≢false (sym below ∙ le-ltb p.place start0 above))
ends-below start0 p below (inr under) = under

module _ (m : Machine) (kept : ℕ → Bool) (laid : IsLaid m) (bare : rest_pieces m.layout.rests ≡ []) where
  abbrev small : List Survivor
  small = survivors_in is_small_or_ephemeral m.layout (survivors m 1 kept)

  abbrev IsLow : Survivor → Type 0
  IsLow k = k.generation ≡ 1 → k.place + k.size ≤ m.layout.start0

  abbrev EndsLow : Plug → Type 0
  EndsLow p = p.generation ≡ 1 → plug_end p ≤ m.layout.start0

  -- a survivor of generation 1 ends below generation 0
  low-survivor : (k : Survivor) → IsIn k small → IsLow k
  low-survivor k i =
      let is = (going m laid bare kept).survivors_are k i in
      subst IsLow (sym is.is) (λ age.
      ends-below m.layout.start0 (object_piece m.types is.object) (age-below m.layout is.object.place age)
      (all_at (DoesNotCross m.layout.start0) (object-in-pieces m laid is.object is.present) laid.whole0))

  -- and so does a plug
  low-plug : (p : Plug) → IsIn p (plugs_of small) → EndsLow p
  low-plug p i =
      all_at EndsLow i (plugs-all IsLow EndsLow (λ k low. low)
      (λ k q low ends joined age.
      let touch = joined.touch in
      let end = ends age in
      omega (arith, touch, end))
      small (all_members IsLow small low-survivor))

  -- a move of a fit begins below generation 0, and its plug ends there
  move-low : (v : Move) → IsIn v (moves_in m kept) → v.start + v.size ≤ m.layout.start0
  move-low v i =
      let (p, known, of) = (going m laid bare kept).plug_of v i in
      let (chosen, among) =
      out_of_filter (λ (q : Plug). not q.pinned && (q.generation == 1)) p (plugs_of small) known in
      let (loose, young) = and_parts (not p.pinned) (p.generation == 1) chosen in
      let end = low-plug p among (eqb-true p.generation 1 young) in
      let start = of.start in
      let size = of.size in
      omega (arith, end, start, size)

  -- NOTHING OUTSIDE of generation 1 went
  pub fit_stays_outside : IsUnmovedOutside (moved_by (moves_in m kept)) m.layout.start1 m.layout.start0
  fit_stays_outside x (inl below) = below_stays m kept laid bare x below
  fit_stays_outside x (inr above) = elim (moved-is (moves_in m kept) x) [
    | inr still ↦ still.1
    | inl went ↦
        let (v, i, covers, is) = went in
        let low = move-low v i in
        let under = covers.1 in
        absurd (omega (arith, low, under, above))
  ]

-- ---- the heap

module _ (rows : List TypeRow) (old new : HeapView) (n : Machine) (kept : ℕ → Bool) (bytes : ℕ) (heap : IsHeap old)
    (held : IsHeld rows old) (memory : IsMemoryOf rows old n) (laid : IsLaid n)
    (bare : rest_pieces n.layout.rests ≡ []) (made : HasMadeFit rows old new n kept bytes) where
  abbrev V : List Move
  V = moves_in n kept

  after : IsLaid (fitted n kept)
  after = stays_laid n kept laid bare

  -- each item is a piece of the machine after the fit
  item_there : (i : Item) → IsIn i (heap_items rows new) → IsIn (item_piece i) (pieces (fitted n kept))
  item_there i l = go (is_free i) refl
    where
      go : (b : Bool) → is_free i ≡ b → IsIn (item_piece i) (pieces (fitted n kept))
      go true free =
          free-in-pieces (fitted n kept) (item_piece i)
          (subst (λ (x : Layout). IsIn (item_piece i) x.free) made.layout
          (IsIn-map item_piece (into_filter is_free (heap_items rows new) free l)))
      go false used =
          let object : is_object i ≡ true = ap not used in
          let present : IsIn (object_in rows (word_of new) i) (objects_in rows new) =
          IsIn-map (object_in rows (word_of new)) (into_filter is_object (heap_items rows new) object l) in
          let (o, same, mine) = from-map (moved_object V) (object_in rows (word_of new) i) (objects_in rows old)
          (out_of_sorted_by (λ (q : Object). q.name) (object_in rows (word_of new) i)
          (map (moved_object V) (objects_in rows old))
          (subst (λ (os : List Object). IsIn (object_in rows (word_of new) i) os) made.objects present)) in
          let there : IsIn o n.objects = subst (λ (os : List Object). IsIn o os) (sym memory.objects) mine in
          let size = listed-sized rows new i (shaped_heap old new made.shape heap) made.held l in
          let piece : object_piece rows (object_in rows (word_of new) i) ≡ item_piece i =
          (λ k. record { place = i.place; size = sym size k }) in
          let gone : object_piece n.types (slid_object V o) ≡ item_piece i =
          ap (λ (ts : List TypeRow). object_piece ts (slid_object V o)) memory.types
          ∙ sym (ap (object_piece rows) same) ∙ piece in
          subst (λ (p : Piece). IsIn p (pieces (fitted n kept))) gone
          (object-in-pieces (fitted n kept) after (slid_object V o) (IsIn-map (slid_object V) there))

  -- NO ITEM reaches over the start of generation 1
  pub border_after : HasOlderBorder (frame new) (heap_items rows new)
  border_after =
      let start1 : (fitted n kept).layout.start1 ≡ new.start1 = ap (λ (l : Layout). l.start1) (sym made.layout) in
      let start0 : (fitted n kept).layout.start0 ≡ new.start0 = ap (λ (l : Layout). l.start0) (sym made.layout) in
      let lawful = after.layout in
      let order = lawful.start1_high in
      let (aligned, other) = lawful.aligned in
      let young : ephemeral (fitted n kept).layout ≡ ephemeral (frame new) =
      ap (λ (l : Layout). ephemeral l) (sym made.layout) in
      let base = ap (λ (s : SegInfo). s.base) young in
      let end = ap (λ (s : SegInfo). s.end) young in
      let low = lawful.start1_low in
      let high = lawful.start0_high in
      record {
        aligned = omega (arith, aligned, start1);
        low = omega (arith, low, base, start1);
        order = omega (arith, order, start1, start0);
        high = omega (arith, high, end, start0);
        whole = λ i l.
            subst (λ (b : ℕ). DoesNotCross b (item_piece i)) start1
            (all_at (DoesNotCross (fitted n kept).layout.start1) (item_there i l) after.whole1);
      }

  -- and nothing outside of it went
  pub still_outside : IsUnmovedOutside (moved_by V) new.start1 new.start0
  still_outside =
      let start1 : n.layout.start1 ≡ new.start1 = ap (λ (l : Layout). l.start1) (sym made.layout) in
      let start0 : n.layout.start0 ≡ new.start0 = ap (λ (l : Layout). l.start0) (sym made.layout) in
      subst (λ (b : ℕ). IsUnmovedOutside (moved_by V) b new.start0) start1
      (subst (λ (b : ℕ). IsUnmovedOutside (moved_by V) n.layout.start1 b) start0
      (fit_stays_outside n kept laid bare))
