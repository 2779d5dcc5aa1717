-- A walk that clears marks and enters bricks, for each heap that this one is to become.
use Rattle.std.proofs.Common.{◌≡◌, ◌⊎◌, inl, inr, ℕ, ◌+◌, ◌*◌, ◌/◌, ◌<◌, ◌≤◌, true, List, ◌∷◌, length, refl, ap, ap₂}
use Rattle.std.proofs.Common.{sym, ◌∙◌, subst, subst₂, arith, ℤ}
use Rattle.std.proofs.lemmas.Bool.{cases_lt}
use Rattle.clr_types.specs.Segments.{Layout}
use Rattle.clr_types.specs.Types.{TypeRow}
use Rattle.clr_types.specs.declared.item.Item.{Item}
use Rattle.clr_types.specs.declared.segment.SegInfo.{SegInfo}
use Rattle.clr_types.proofs.SegmentFacts.{between-stands}
use Rattle.clr_bricks.specs.Bricks.{entry_at, IsRoot}
use Rattle.clr_covers.specs.Covers.{CoverView, is_covered, spans}
use Rattle.clr_heap.specs.Parts.{item_at}
use Rattle.clr_heap.specs.View.{CanWalk, first_of, frame, HeapView, IsHeap, items_between, last_of, no_rests}
use Rattle.clr_heap.specs.View.{segment_at, sight, word_of}
use Rattle.clr_heap.proofs.Framing.{lawful_at}
use Rattle.clr_heap.proofs.Walking.{walk_item}
use Rattle.clr_view.specs.View.{objects_in}
use Rattle.clr_generations.specs.Laws.{AreEntered, IsBrickOf}
use Rattle.clr_generations.specs.Tables.{AreBricksOf}
use Rattle.clr_generations.proofs.HeapHomes.{brick-covered, brick-in, whole_bricks}
use Rattle.clr_compact.specs.Entered.{AreEnteredBelow, CanEnterFrom}
use Rattle.clr_compact.specs.Entering.{entered_after, led_back, next_after}
use Rattle.clr_compact.proofs.BrickSteps.{led-above, led-below}
use Rattle.clr_compact.proofs.BrickWalks.{IsBrickWalk, next-up, no_hole, stepped_others, walk_entered, walk_on}
use Rattle.clr_compact.proofs.BrickWalks.{walk_starts}

-- ---- whatever the heap becomes

-- `next` is the first brick of segment k that isn't settled, and the entries of other segments' bricks are as before
pub record IsSettling (h : HeapView) (k : ℕ) (old now : List (CoverView ℤ)) (next : ℕ) : Type 0 where
  pub above : (segment_at h k).base / 4096 < next
  pub others : (b : ℕ) → (IsBrickOf (segment_at h k) b → ⊥) → entry_at now b ≡ entry_at old b
  pub spans : spans now ≡ spans old

-- the first brick that isn't settled where the walk begins
abbrev pub IsFirstOpen : (ℕ → ℤ) → ℕ → ℕ → ℕ → Type 0
IsFirstOpen entry from end next =
    (IsRoot (entry (from / 4096)) × (next ≡ from / 4096 + 1))
    ⊎ (((end ≤ 4096 * (from / 4096)) ⊎ (IsRoot (entry (from / 4096)) → ⊥)) × (next ≡ from / 4096))

module _ (h : HeapView) (heap : IsHeap h) (k : ℕ) (inside : k < length h.segments) (old : List (CoverView ℤ)) where
  pub settling_starts : (from next : ℕ) → first_of h k ≤ from → IsFirstOpen (entry_at old) from (last_of h k) next
      → IsSettling h k old old next
  settling_starts from next low begin = record { above = up begin; others = λ b out. refl; spans = refl }
    where
      up : IsFirstOpen (entry_at old) from (last_of h k) next → (segment_at h k).base / 4096 < next
      up (inl (root, is)) = omega arith
      up (inr (unsettled, is)) = omega arith

  module _ (now : List (CoverView ℤ)) (next : ℕ) (settling : IsSettling h k old now next) where
    pub settling_covered : AreBricksOf (frame h) old → (b : ℕ) → next ≤ b → 4096 * b < last_of h k
        → is_covered now b ≡ true
    settling_covered of b low high =
        let above = settling.above in
        brick-covered h old now k b heap inside of settling.spans (brick-in h k b heap inside (omega arith) high)

    pub settling_more : (layout : Layout) (item : Item) → first_of h k ≤ item.place → item.place < last_of h k
        → (new : List (CoverView ℤ)) → ((b : ℕ) → entry_at new b ≡ entered_after layout item (entry_at now) next b)
        → spans new ≡ spans now → IsSettling h k old new (next_after layout item next)
    settling_more layout item low high new same whole =
        let lawful = (lawful_at h k heap inside).high in
        let in_s = between-stands (segment_at h k) item.place low (omega arith) in
        let above = settling.above in
        let up = next-up layout (entry_at now) (entry_at new) item next same in
        record {
          above = omega arith;
          others = λ b out. stepped_others layout (entry_at now) (entry_at new) item next same (segment_at h k)
              (whole_bricks h k heap inside) in_s settling.above b out ∙ settling.others b out;
          spans = whole ∙ settling.spans;
        }

    -- the entries of other segments' bricks stay when the last ones lead back
    pub settling_ends : (to : ℕ) → (4096 * to < last_of h k + 4096) ⊎ (to ≡ next) → (b : ℕ)
        → (IsBrickOf (segment_at h k) b → ⊥) → led_back (entry_at now) next to b ≡ entry_at old b
    settling_ends to short b out = elim (cases_lt b next) [
      | inl low ↦ led-below (entry_at now) next to b low ∙ settling.others b out
      | inr more ↦ elim (cases_lt b to) [
        | inl within ↦ absurd (out (brick-in h k b heap inside (let above = settling.above in omega arith)
            (elim short [ inl near ↦ omega arith | inr same ↦ absurd (omega arith) ])))
        | inr past ↦ led-above (entry_at now) next to b past ∙ settling.others b out
      ]
    ]

-- ---- for a heap that it becomes

-- the walk has come to a place there, and the same items lie ahead
pub record IsWalkFor (rows : List TypeRow) (h final : HeapView) (k : ℕ) (now : List (CoverView ℤ)) (place next : ℕ)
    : Type 0 where
  pub walk : IsBrickWalk rows final k now place next
  pub ahead : items_between (sight rows final k) place (last_of final k)
      ≡ items_between (sight rows h k) place (last_of h k)

-- it has, for each such heap
abbrev pub AreWalks : List TypeRow → HeapView → ℕ → ℕ → List (CoverView ℤ) → List (CoverView ℤ) → ℕ → ℕ → Type 0
AreWalks rows h k from old now place next =
    (final : HeapView) → CanEnterFrom rows h final k from
    → AreEnteredBelow rows (frame final) (objects_in rows final) (entry_at old) (segment_at final k) from
    → IsWalkFor rows h final k now place next

module _ (rows : List TypeRow) (h : HeapView) (none : h.rests ≡ no_rests) (k : ℕ) (inside : k < length h.segments)
    (from : ℕ) (old : List (CoverView ℤ)) where
  -- what stays
  module _ (final : HeapView) (can : CanEnterFrom rows h final k from) where
    at-final : segment_at final k ≡ segment_at h k
    at-final = ap (λ (g : HeapView). segment_at g k) can.shape.others

    in-final : k < length final.segments
    in-final = let count = ap (λ (g : HeapView). length g.segments) can.shape.others in omega arith

    none-final : final.rests ≡ no_rests
    none-final = ap (λ (g : HeapView). g.rests) can.shape.others ∙ none

  pub walks_start : (next : ℕ) → first_of h k ≤ from → IsFirstOpen (entry_at old) from (last_of h k) next
      → AreWalks rows h k from old old from next
  walks_start next low begin final can below =
      let is = at-final final can in
      let first = ap (λ (s : SegInfo). s.base) is in
      let last = ap (λ (s : SegInfo). s.end) is in
      let P : ℕ → Type 0 = λ e. IsFirstOpen (entry_at old) from e next in
      record {
        walk = walk_starts rows final can.heap can.held (none-final final can) k (in-final final can) old from next
            (omega arith) can.parted can.whole below (subst P (sym last) begin);
        ahead = can.items;
      }

  module _ (now : List (CoverView ℤ)) (place next : ℕ) (walks : AreWalks rows h k from old now place next) where
    -- THE NEXT ITEM
    pub walks_more : CanWalk (sight rows h k) h.memories place (last_of h k) → place < last_of h k → (item : Item)
        → item ≡ item_at rows (word_of h) place → (layout : Layout) → layout ≡ frame h → (new : List (CoverView ℤ))
        → ((b : ℕ) → entry_at new b ≡ entered_after layout item (entry_at now) next b)
        → AreWalks rows h k from old new (place + item.size) (next_after layout item next)
    walks_more walk under item is layout layout_is new same final can below =
        let for = walks final can below in
        let last = ap (λ (s : SegInfo). s.end) (at-final final can) in
        let there = walk_item (sight rows final k) final.memories place (last_of final k) for.walk.walk (omega arith)
        (no_hole final k place (none-final final can)) in
        let here = walk_item (sight rows h k) h.memories place (last_of h k) walk under (no_hole h k place none) in
        let both : (item_at rows (word_of final) place ∷ items_between (sight rows final k)
        (place + (item_at rows (word_of final) place).size) (last_of final k))
        ≡ (item_at rows (word_of h) place ∷ items_between (sight rows h k)
        (place + (item_at rows (word_of h) place).size) (last_of h k)) = sym there.items ∙ for.ahead ∙ here.items in
        let head : item_at rows (word_of final) place ≡ item_at rows (word_of h) place = cc in
        let tail : items_between (sight rows final k) (place + (item_at rows (word_of final) place).size)
        (last_of final k) ≡ items_between (sight rows h k) (place + (item_at rows (word_of h) place).size)
        (last_of h k) = cc in
        let found : item_at rows (word_of final) place ≡ item = head ∙ sym is in
        let framed : frame final ≡ layout = ap frame can.shape.others ∙ sym layout_is in
        let W : Item → Layout → Type 0 = λ i l. IsBrickWalk rows final k new (place + i.size) (next_after l i next) in
        let A : Item → Item → Type 0 =
        λ i j. items_between (sight rows final k) (place + i.size) (last_of final k)
        ≡ items_between (sight rows h k) (place + j.size) (last_of h k) in
        record {
          walk = subst₂ W found framed
              (walk_on rows final can.heap can.held (none-final final can) k (in-final final can) now place next
              for.walk (omega arith) new
              (λ b. same b ∙ ap₂ (λ (i : Item) (l : Layout). entered_after l i (entry_at now) next b) (sym found)
              (sym framed)));
          ahead = subst₂ A found (sym is) tail;
        }

    -- THE BRICKS ARE ENTERED
    pub walks_end : last_of h k ≤ place → (to : ℕ) → next ≤ to → last_of h k ≤ 4096 * to → (new : List (CoverView ℤ))
        → ((b : ℕ) → entry_at new b ≡ led_back (entry_at now) next to b) → (final : HeapView)
        → CanEnterFrom rows h final k from
        → AreEnteredBelow rows (frame final) (objects_in rows final) (entry_at old) (segment_at final k) from
        → AreEntered rows (frame final) (objects_in rows final) (entry_at new) (segment_at final k)
    walks_end past to up end new same final can below =
        let for = walks final can below in
        let last = ap (λ (s : SegInfo). s.end) (at-final final can) in
        let all : led_back (entry_at now) next to ≡ entry_at new = λ x b. sym (same b) x in
        subst (λ (e : ℕ → ℤ). AreEntered rows (frame final) (objects_in rows final) e (segment_at final k)) all
        (walk_entered rows final can.heap can.held (none-final final can) k (in-final final can) now place next for.walk
        (omega arith) to up (omega arith))
