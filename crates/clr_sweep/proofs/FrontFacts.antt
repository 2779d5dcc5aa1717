-- The front of a segment: where it ends, and the items below and above its end.
use Rattle.std.proofs.Common.{◌≡◌, inl, inr, ℕ, ◌%◌, ◌<◌, ◌≤◌, Bool, List, ◌++◌, length, ap, sym, ◌∙◌}
use Rattle.std.proofs.Common.{◌&&◌, subst, arith}
use Rattle.std.proofs.lemmas.Bool.{cases_Bool, eqb-false, eqb-true}
use Rattle.clr_types.specs.Rising.{IsIn}
use Rattle.clr_types.specs.Types.{TypeRow}
use Rattle.clr_types.specs.declared.item.Item.{Item}
use Rattle.clr_types.proofs.ChangedLists.{append_left}
use Rattle.clr_types.proofs.ListMembers.{append_right}
use Rattle.clr_types.proofs.RisingLists.{all_at}
use Rattle.clr_heap.specs.Parts.{items_in, Part, parts, unmarked}
use Rattle.clr_heap.specs.View.{first_of, HeapView, last_of, listing, no_rests, sight, word_of}
use Rattle.clr_heap.proofs.Spelling.{Spells-append, Spells-le}
use Rattle.clr_heap.proofs.Walking.{spelled_parts}
use Rattle.clr_view.specs.Marks.{has_mark}
use Rattle.clr_view.specs.View.{is_object}
use Rattle.clr_view.proofs.Items.{IsItem, items-are}
use Rattle.clr_view.proofs.Listings.{items-append}
use Rattle.clr_sweep.specs.Fronts.{front_at, HasFronts, IsFront}
use Rattle.clr_sweep.specs.SweptItems.{items_below, items_from, stays}
use Rattle.clr_sweep.specs.SweptSegments.{IsParted}
use Rattle.clr_sweep.specs.declared.behind.Front.{Front}
use Rattle.clr_sweep.proofs.FrontItems.{AreSettled, free_told}
use Rattle.clr_sweep.proofs.ObjectsSwept.{filled-parts, no-holes}
use Rattle.clr_sweep.proofs.SectionsSwept.{AreFilled}

module _ (rows : List TypeRow) (h : HeapView) (k from : ℕ) (w : IsParted rows h k from) where
  abbrev below : List Part
  below = parts from (sight rows h k) (first_of h k) from

  abbrev above : List Part
  above = parts (last_of h k) (sight rows h k) from (last_of h k)

  -- the part begins in the segment, and not above its end
  pub part_low : first_of h k ≤ from
  part_low = Spells-le (sight rows h k) below (first_of h k) from w.below.spelled

  pub part_high : from ≤ last_of h k
  part_high = Spells-le (sight rows h k) above from (last_of h k) w.above.spelled

  -- the items below it and those in it are all
  pub parted_items : listing rows h k ≡ items_below rows h k from ++ items_from rows h k from
  parted_items =
      ap items_in (spelled_parts (sight rows h k) (below ++ above) (first_of h k) (last_of h k)
      (Spells-append (sight rows h k) below above (first_of h k) from (last_of h k) w.below.spelled w.above.spelled))
      ∙ items-append below above

  pub below_item : (i : Item) → IsIn i (items_below rows h k from) → IsItem rows (first_of h k) from i
  below_item i l = all_at (IsItem rows (first_of h k) from) l
      (items-are (sight rows h k) below (first_of h k) from w.below.start w.below.spelled)

  pub from_item : (i : Item) → IsIn i (items_from rows h k from) → IsItem rows from (last_of h k) i
  from_item i l = all_at (IsItem rows from (last_of h k)) l
      (items-are (sight rows h k) above from (last_of h k) w.above.start w.above.spelled)

  pub below_listing : (i : Item) → IsIn i (items_below rows h k from) → IsIn i (listing rows h k)
  below_listing i l =
      subst (λ (is : List Item). IsIn i is) (sym parted_items) (append_left (items_from rows h k from) l)

  pub from_listing : (i : Item) → IsIn i (items_from rows h k from) → IsIn i (listing rows h k)
  from_listing i l =
      subst (λ (is : List Item). IsIn i is) (sym parted_items) (append_right (items_below rows h k from) l)

  -- where no thread has a context, the items below it fill what is there
  pub below_filled : h.rests ≡ no_rests → AreFilled (first_of h k) (items_below rows h k from) from
  below_filled none =
      filled-parts (sight rows h k) below (first_of h k) from (λ q. no-holes h k q none) w.below.spelled

module _ (rows : List TypeRow) (h v : HeapView) (k : ℕ) (f : Front) (front : IsFront rows h v k f) where
  -- of a front's items exactly the objects stay
  pub front_stays : (i : Item) → IsIn i (items_below rows h k f.place) → stays (word_of v) i ≡ is_object i
  front_stays i l = elim (cases_Bool (is_object i)) [
    | inl object ↦
        ap (λ (b : Bool). b && has_mark (word_of v i.place)) object ∙ front.marked i l object ∙ sym object
    | inr none ↦ ap (λ (b : Bool). b && has_mark (word_of v i.place)) none ∙ sym none
  ]

  pub front_settled : AreSettled (stays (word_of v)) (items_below rows h k f.place)
  front_settled = record {
    objects = front_stays;
    free = λ i l free. free_told rows (first_of h k) f.place i (below_item rows h k f.place front.parted i l) free;
  }

-- words that differ in the mark at most are the same where both have it or neither
same_word : (w u : ℕ) → unmarked w ≡ unmarked u → has_mark w ≡ has_mark u → w ≡ u
same_word w u rest mark = elim (cases_Bool (has_mark u)) [
  | inl on ↦
      let a = eqb-true (w % 2) 1 (mark ∙ on) in
      let b = eqb-true (u % 2) 1 on in
      omega (arith, rest, a, b)
  | inr off ↦
      let a = eqb-false (w % 2) 1 (mark ∙ off) in
      let b = eqb-false (u % 2) 1 off in
      omega (arith, rest, a, b)
]

-- the words behind the fronts are the same
pub behind_word : (rows : List TypeRow) (h v : HeapView) (fronts : List Front) → HasFronts rows h v fronts → (k b : ℕ)
    → k < length h.segments → b % 8 ≡ 0 → (front_at fronts k).place ≤ b → b < last_of h k → word_of v b ≡ word_of h b
behind_word rows h v fronts fs k b inside z low high = elim (fs.marks.words b z) [
  | inl same ↦ same
  | inr other ↦ same_word (word_of v b) (word_of h b) other.1 (fs.behind k b inside other.0 low high)
]
