-- What is written behind a walk doesn't matter to it: the run that it finds in the heap as it is now is that of the
-- heap as it was.
use Rattle.std.proofs.Common.{◌≡◌, ℕ, ◌+◌, ◌-◌, ◌%◌, ◌<◌, ◌≤◌, Bool, true}
use Rattle.std.proofs.Common.{false, List, ◌∷◌, ◌++◌, not, ◌&&◌, ◌==◌, sym, ap, ap₂}
use Rattle.std.proofs.Common.{◌∙◌, subst, arith}
use Rattle.clr_types.specs.Bits.{has_pin}
use Rattle.clr_types.specs.Ranges.{Piece, piece_end}
use Rattle.clr_types.specs.Rising.{IsIn}
use Rattle.clr_types.specs.Segments.{generation}
use Rattle.clr_types.specs.Types.{TypeRow}
use Rattle.clr_types.specs.declared.item.Item.{Item}
use Rattle.clr_types.proofs.ChangedLists.{all_members, append_left}
use Rattle.clr_types.proofs.RisingLists.{all_at}
use Rattle.clr_heap.specs.Parts.{parts}
use Rattle.clr_heap.specs.View.{frame, HeapView, items_between, SameShape, segment_at, sight, word_of}
use Rattle.clr_heap.proofs.Framing.{SameShape-sym}
use Rattle.clr_view.proofs.Items.{IsItem, items-are}
use Rattle.clr_view.specs.Marks.{has_mark}
use Rattle.clr_view.specs.View.{is_object}
use Rattle.clr_model.specs.Compaction.{Plug}
use Rattle.clr_model.specs.Fitting.{fitting_plugs}
use Rattle.clr_plan.specs.Scans.{CanScan}
use Rattle.clr_plan.proofs.BehindTheWalk.{items-same, plugs-same, scans-on}
use Rattle.clr_evacuate.specs.Fittings.{ArePassed, fitting_plug, HasFitting, may_fit}
use Rattle.clr_evacuate.proofs.PassedItems.{side-up}

-- the words from the header of an item at p on, up to e, are the same
abbrev pub SameAhead : HeapView → HeapView → ℕ → ℕ → Type 0
SameAhead old now p e = (b : ℕ) → b % 8 ≡ 0 → p ≤ b + 8 → b + 8 < e → word_of now b ≡ word_of old b

-- so are those from a higher place on
ahead-on : (old now : HeapView) (p q e : ℕ) → p ≤ q → SameAhead old now p e → SameAhead old now q e
ahead-on old now p q e up same b z low high = same b z (omega (arith, up, low)) high

-- whichever heap was there first
ahead-back : (old now : HeapView) (p e : ℕ) → SameAhead old now p e → SameAhead now old p e
ahead-back old now p e same b z low high = sym (same b z low high)

module _ (rows : List TypeRow) (old now : HeapView) (k p e : ℕ) (shape : SameShape old now)
    (same : SameAhead old now p e) where
  -- the same items may go
  may-same : (i : Item) → CanScan rows old k p e → IsIn i (items_between (sight rows old k) p e)
      → may_fit now i ≡ may_fit old i
  may-same i s n =
      let is = all_at (IsItem rows p e) n
      (items-are (sight rows old k) (parts e (sight rows old k) p e) p e s.walk.start s.walk.spelled) in
      let above = is.above in
      let under = is.below in
      let least = is.least in
      let whole = is.aligned in
      let up = s.up in
      let mark = same i.place whole (omega (arith, above)) (omega (arith, under, least)) in
      let header = same (i.place - 8) (omega (arith, whole, above, up)) (omega (arith, above, up))
      (omega (arith, under, least, above, up)) in
      let age = ap (λ (h : HeapView). generation (frame h) i.place) shape.others in
      λ j. ((is_object i && has_mark (mark j)) && (age j == 1)) && not (has_pin (header j))

  -- what is passed in one heap is passed in the other
  pub passed-same : (may : Bool) (q : ℕ) → CanScan rows old k p e → ArePassed rows old k p e may q
      → ArePassed rows now k p e may q
  passed-same may q s are =
      let up = side-up p q are.passed are.side_by_side in
      record {
        passed = are.passed;
        items = items-same rows old now k p e shape same s
            ∙ are.items
            ∙ ap (λ (is : List Item). are.passed ++ is)
            (sym (items-same rows old now k q e shape (ahead-on old now p q e up same) are.scan));
        alike = all_members (λ (i : Item). may_fit now i ≡ may) are.passed (λ i n.
            may-same i s (subst (IsIn i) (sym are.items) (append_left (items_between (sight rows old k) q e) n))
            ∙ all_at (λ (j : Item). may_fit old j ≡ may) n are.alike);
        side_by_side = are.side_by_side;
        scan = scans-on rows old now k q e shape (ahead-on old now p q e up same) are.scan;
        within = are.within;
      }

-- THE RUN is that of the heap as it was
pub found-before : (rows : List TypeRow) (old now : HeapView) (k p e : ℕ) (found : Piece) → SameShape old now
    → SameAhead old now p e → CanScan rows old k p e → HasFitting rows now k p e found
    → HasFitting rows old k p e found
found-before rows old now k p e found shape same s has =
    let above = has.above in
    let end = piece_end found in
    let back = SameShape-sym old now shape in
    let here : SameAhead now old found.place e =
    ahead-back old now found.place e (ahead-on old now p found.place e above same) in
    let behind : SameAhead now old end e =
    ahead-back old now end e (ahead-on old now p end e (omega (arith, above)) same) in
    record {
      plugs = sym (ap fitting_plugs (plugs-same rows old now k p e shape same s))
          ∙ has.plugs
          ∙ ap₂ (λ (b : ℕ) (ps : List Plug). fitting_plug b found ∷ ps)
          (ap (λ (h : HeapView). (segment_at h k).base) shape.others)
          (sym (ap fitting_plugs (plugs-same rows now old k end e back behind has.objects.scan)));
      before = passed-same rows now old k p e back (ahead-back old now p e same) false found.place
          (scans-on rows old now k p e shape same s) has.before;
      scan = scans-on rows now old k found.place e back here has.scan;
      objects = passed-same rows now old k found.place e back here true end has.scan has.objects;
      above = has.above;
      least = has.least;
      within = has.within;
    }
