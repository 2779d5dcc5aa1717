-- Old objects that stay, before which nothing waits to become free: what a pass makes of one.
use Rattle.std.proofs.Common.{◌≡◌, ℕ, ◌+◌, ◌<◌, ◌≤◌, ◌^◌, Bool, true, false, not, ltb, List, refl, sym, ap, ap₂, ◌∙◌}
use Rattle.std.proofs.Common.{arith, if◌then◌else◌, ◌&&◌, ◌==◌}
use Rattle.std.proofs.lemmas.Bool.{le-ltb, ne_eqb}
use Rattle.clr_types.specs.Segments.{generation}
use Rattle.clr_types.specs.Types.{TypeRow}
use Rattle.clr_types.specs.declared.item.Item.{Item}
use Rattle.clr_heap.specs.ObjectKinds.{IsObjectKind}
use Rattle.clr_heap.specs.Parts.{item_at, unmarked}
use Rattle.clr_heap.specs.View.{frame, HeapView, stored, word_of}
use Rattle.clr_heap.specs.declared.kinds.ObjectKind.{ObjectKind}
use Rattle.clr_heap.proofs.Spelling.{place-item_at}
use Rattle.clr_view.specs.Marks.{has_mark}
use Rattle.clr_view.specs.View.{is_object}
use Rattle.clr_sweep.specs.Passes.{item_tally, plus, settled, stepped, stepped_heap}
use Rattle.clr_sweep.specs.SweptItems.{is_cut, stays}
use Rattle.clr_sweep.specs.declared.pass.Pass.{Pass}

module _ (rows : List TypeRow) (h : HeapView) (pass : Pass) (kind : ObjectKind) (mt : ℕ)
    (sure : IsObjectKind rows kind) (word : mt ≡ word_of h pass.place) (same : unmarked mt ≡ kind.mt)
    (on : has_mark mt ≡ true) (run : pass.run ≡ pass.place) (old : generation (frame h) pass.place ≡ 2) where
  abbrev here : Item
  here = item_at rows (word_of h) pass.place

  -- its word without the mark is that of the kind
  word_is : unmarked (word_of h pass.place) ≡ kind.mt
  word_is = ap unmarked (sym word) ∙ same

  -- so it has the size of the kind
  pub settled_size : kind.size ≡ here.size
  settled_size = sym (sure.size (word_of h) pass.place word_is)

  -- and is a marked object of generation 2
  object : is_object here ≡ true
  object = ap not (ne_eqb here.type_id.0 0 (sure.object (word_of h) pass.place word_is))

  mark : has_mark (word_of h here.place) ≡ true
  mark = ap (λ (q : ℕ). has_mark (word_of h q)) (place-item_at rows (word_of h) pass.place)
      ∙ ap has_mark (sym word) ∙ on

  oldest : generation (frame h) here.place ≡ 2
  oldest = ap (generation (frame h)) (place-item_at rows (word_of h) pass.place) ∙ old

  stays_here : stays (word_of h) here ≡ true
  stays_here = ap₂ (λ (o m : Bool). o && m) object mark

  -- it adds one to what stays, and nothing else
  settled_tally : record pass.tally { kept = pass.tally.kept + 1 } ≡ plus pass.tally (item_tally h here)
  settled_tally =
      let t = pass.tally in
      let freed : t.freed + 0 ≡ t.freed = omega arith in
      let one : t.promoted1 + 0 ≡ t.promoted1 = omega arith in
      let two : t.promoted2 + 0 ≡ t.promoted2 = omega arith in
      sym (ap₂ (λ (o m : Bool). plus t (record {
        kept = if o && m then 1 else 0;
        freed = if o && not m then 1 else 0;
        promoted1 = if (o && m) && (generation (frame h) here.place == 0) then here.size else 0;
        promoted2 = if (o && m) && (generation (frame h) here.place == 1) then here.size else 0;
      })) object mark
      ∙ ap (λ (g : ℕ). plus t (record {
        kept = 1;
        freed = 0;
        promoted1 = if g == 0 then here.size else 0;
        promoted2 = if g == 1 then here.size else 0;
      })) oldest
      ∙ (λ j. record { kept = t.kept + 1; freed = freed j; promoted1 = one j; promoted2 = two j }))

  -- the pass stands behind it
  pub settled_stepped : settled pass kind.size ≡ stepped h here pass
  settled_stepped =
      let end : ℕ = pass.place + here.size in
      let next : pass.place + kind.size ≡ end = ap (λ (n : ℕ). pass.place + n) settled_size in
      let after : pass.place + kind.size
      ≡ (if stays (word_of h) here then end else if is_cut h end then end else pass.run) =
      next ∙ sym (ap (λ (b : Bool). if b then end else if is_cut h end then end else pass.run) stays_here) in
      let last : pass.place + kind.size ≡ (if stays (word_of h) here then end else pass.last) =
      next ∙ sym (ap (λ (b : Bool). if b then end else pass.last) stays_here) in
      let counts = settled_tally in
      λ j. record { place = next j; run = after j; last = last j; tally = counts j }

  -- and its mark alone was cleared
  pub settled_heap : stored h pass.place kind.mt ≡ stepped_heap h here pass
  settled_heap =
      let none : ltb pass.run pass.place ≡ false = le-ltb pass.run pass.place (omega (arith, run)) in
      let clear : stored h pass.place kind.mt ≡ stored h pass.place (unmarked (word_of h pass.place)) =
      ap (stored h pass.place) (sym word_is) in
      rw (stays_here, none) clear
