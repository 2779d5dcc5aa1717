-- Walks over all parts, one after the other, that clear marks and enter bricks.
use Rattle.std.proofs.Common.{◌≡◌, ◌≢◌, inl, inr, ℕ, zero, suc, ◌+◌, ◌<◌, ◌≤◌, Bool, true, false, List, [], ◌++◌}
use Rattle.std.proofs.Common.{length, refl, ap, ap₂, sym, ◌∙◌, subst, arith, ℤ, if◌then◌else◌, append-nil}
use Rattle.std.proofs.lemmas.Bool.{both_ways, cases_Bool, cases_eq, cases_order}
use Rattle.clr_types.specs.Segments.{ephemeral, first_place, same_kind}
use Rattle.clr_types.specs.Types.{TypeRow}
use Rattle.clr_types.specs.declared.item.Item.{Item}
use Rattle.clr_types.specs.declared.segment.SegInfo.{SegInfo}
use Rattle.clr_types.specs.declared.segment.SegKind.TheVariants.{Ephemeral}
use Rattle.clr_covers.specs.Covers.{CoverView}
use Rattle.clr_bricks.specs.Bricks.{entry_at}
use Rattle.clr_heap.specs.View.{CanWalk, first_of, frame, HeapView, IsHeap, items_between, last_of, listing}
use Rattle.clr_heap.specs.View.{SameShape, segment_at, sight, word_of}
use Rattle.clr_heap.proofs.Framing.{lawful_at, SameShape-sym, SameShape-trans}
use Rattle.clr_heap.proofs.Staying.{segment_order}
use Rattle.clr_view.specs.View.{objects_in}
use Rattle.clr_generations.specs.Laws.{AreEntered, IsBrickOf}
use Rattle.clr_moves.specs.Moves.{part_of, takes}
use Rattle.clr_compact.specs.Compacted.{ArePartsWalkable, items_of_part, part_items}
use Rattle.clr_compact.specs.Entered.{CanEnterFrom}
use Rattle.clr_compact.proofs.AllParts.{can_clear, IsUnmarking, same_items, unmarked_more}
use Rattle.clr_compact.specs.PartBricks.{AreWhole, HasMovedBounds}
use Rattle.clr_compact.specs.Rewrites.{cleared, Rewrites}
use Rattle.clr_compact.proofs.EnteringParts.{young-part, young-takes}
use Rattle.clr_compact.proofs.PartBricks.{bricks-apart, entered_elsewhere}
use Rattle.clr_moves.specs.declared.condemned.Condemned.{Condemned}
use Rattle.clr_moves.specs.declared.condemned.Condemned.TheVariants.{Generations, LargeSegments}

-- ---- where a part starts

-- of all generations a part is the whole segment
pub whole-part : (h : HeapView) (t : ℕ) → part_of h (Generations 2) t ≡ first_of h t
whole-part h t = go (same_kind Ephemeral (segment_at h t).kind)
  where
    go : (b : Bool) → (if b then first_of h t else first_of h t) ≡ first_of h t
    go true = refl
    go false = refl

-- ---- whole segments

-- a part that is a whole segment begins at its first place
whole_start : (h : HeapView) (t : ℕ) (g : Condemned) → AreWhole g → part_of h g t ≡ first_of h t
whole_start h t (Generations g) two = ap (λ (n : ℕ). part_of h (Generations n) t) two ∙ whole-part h t
whole_start h t LargeSegments full = refl

-- every whole segment can be entered for a heap that this one is to become
abbrev pub CanEnterWhole : List TypeRow → Condemned → HeapView → HeapView → Type 0
CanEnterWhole rows g now final =
    (t : ℕ) → t < length now.segments → takes g (segment_at now t) ≡ true
    → CanEnterFrom rows now final t (first_of now t)

-- the whole segments below k are entered, for each such heap
abbrev pub AreWholeUpTo : List TypeRow → Condemned → HeapView → List (CoverView ℤ) → ℕ → Type 0
AreWholeUpTo rows g h now k =
    (final : HeapView) → CanEnterWhole rows g h final
    → (t : ℕ) → t < k → t < length h.segments → takes g (segment_at h t) ≡ true
    → AreEntered rows (frame final) (objects_in rows final) (entry_at now) (segment_at final t)

module _ (rows : List TypeRow) (g : Condemned) (full : AreWhole g) (old mid : HeapView) (heap : IsHeap old)
    (w : ArePartsWalkable rows old g) (k : ℕ)
    (inside : k < length old.segments) (u : IsUnmarking rows old mid g k) where
  at-mid : segment_at mid k ≡ segment_at old k
  at-mid = ap (λ (h : HeapView). segment_at h k) u.shape.others

  -- the next one can be walked
  pub whole-walk : takes g (segment_at old k) ≡ true
      → CanWalk (sight rows mid k) mid.memories (first_of mid k) (last_of mid k)
  whole-walk on =
      let P : ℕ → Type 0 = λ p. CanWalk (sight rows mid k) mid.memories p (last_of mid k) in
      subst P (whole_start mid k g full) (can_clear rows old g heap w mid k inside u on).walk

  -- it is unmarked
  pub whole-unmarked : takes g (segment_at old k) ≡ true → (new : HeapView) → SameShape mid new
      → Rewrites (cleared (listing rows mid k)) (word_of mid) (word_of new) → IsUnmarking rows old new g (k + 1)
  whole-unmarked on new shape words =
      let P : ℕ → Type 0 = λ p. Rewrites (cleared (items_between (sight rows mid k) p (last_of mid k))) (word_of mid)
      (word_of new) in
      unmarked_more rows old g heap w mid k inside u on new shape (subst P (sym (whole_start mid k g full)) words)

  -- it can be entered for the heaps that the first one is to become
  enter-next : (final : HeapView) → takes g (segment_at old k) ≡ true
      → CanEnterFrom rows old final k (first_of old k) → CanEnterFrom rows mid final k (first_of mid k)
  enter-next final on can =
      let first : first_of mid k ≡ first_of old k = ap first_place at-mid in
      let F : ℕ → List Item = λ p. items_between (sight rows mid k) p (last_of mid k) in
      let G : ℕ → List Item = λ p. items_between (sight rows old k) p (last_of old k) in
      let mine : F (first_of mid k) ≡ G (first_of old k) =
      ap F (sym (whole_start mid k g full)) ∙ same_items rows old g heap w mid k inside u on
      ∙ ap (λ b. if b then G (part_of old g k) else []) on ∙ ap G (whole_start old k g full) in
      let P : ℕ → Type 0 = λ p. CanEnterFrom rows mid final k p in
      subst P (sym first) (record {
        shape = SameShape-trans mid old final (SameShape-sym old mid u.shape) can.shape;
        heap = can.heap;
        held = can.held;
        parted = can.parted;
        whole = can.whole;
        items = can.items ∙ sym mine ∙ ap F first;
      })

  module _ (now : List (CoverView ℤ)) (a : AreWholeUpTo rows g old now k) where
    pub whole-passes : takes g (segment_at old k) ≡ false → AreWholeUpTo rows g old now (k + 1)
    whole-passes off final can t low l on = elim (cases_eq t k) [
      | inl at ↦
          let no = ap (λ (n : ℕ). takes g (segment_at old n)) at ∙ off in
          absurd (both_ways (takes g (segment_at old t)) no on)
      | inr ne ↦ a final can t (omega arith) l on
    ]

    pub whole-more : takes g (segment_at old k) ≡ true → (new : List (CoverView ℤ))
        → ((final : HeapView) → CanEnterFrom rows mid final k (first_of mid k)
        → AreEntered rows (frame final) (objects_in rows final) (entry_at new) (segment_at final k))
        → ((b : ℕ) → (IsBrickOf (segment_at mid k) b → ⊥) → entry_at new b ≡ entry_at now b)
        → AreWholeUpTo rows g old new (k + 1)
    whole-more on_k new here elsewhere final can t low l on = elim (cases_eq t k) [
      | inl at ↦
          let P : ℕ → Type 0 =
          λ n. AreEntered rows (frame final) (objects_in rows final) (entry_at new) (segment_at final n) in
          subst P (sym at) (here final (enter-next final on_k (can k inside on_k)))
      | inr ne ↦
          let shape = (can t l on).shape.others in
          let count = ap (λ (h : HeapView). length h.segments) shape in
          let at-t = ap (λ (h : HeapView). segment_at h t) shape in
          entered_elsewhere rows final (can t l on).heap (can t l on).held t (entry_at now) (entry_at new) (omega arith)
          (λ b of. elsewhere b (λ of_k. bricks-apart old t k b heap l inside ne
          (subst (λ (s : SegInfo). IsBrickOf s b) at-t of) (subst (λ (s : SegInfo). IsBrickOf s b) at-mid of_k)))
          (a final can t (omega arith) l on)
    ]

-- ---- the part of the ephemeral segment alone

-- of generations below 2 no other segment has a part
module _ (rows : List TypeRow) (h : HeapView) (g e : ℕ) (heap : IsHeap h) (young : g ≢ 2)
    (inside : e < length h.segments) (is : segment_at h e ≡ ephemeral (frame h)) where
  none-other : (t : ℕ) → t < length h.segments → t ≢ e → items_of_part rows h (Generations g) t ≡ []
  none-other t l ne = elim (cases_Bool (takes (Generations g) (segment_at h t))) [
    | inl on ↦ absurd (apart (young-takes h g t heap young l on ∙ sym is))
    | inr off ↦ ap
        (λ b. if b then items_between (sight rows h t) (part_of h (Generations g) t) (last_of h t) else []) off
  ]
    where
      apart : segment_at h t ≡ segment_at h e → ⊥
      apart same =
          let base = ap (λ (s : SegInfo). s.base) same in
          let low_t = (lawful_at h t heap l).low in
          let high_t = (lawful_at h t heap l).high in
          let low_e = (lawful_at h e heap inside).low in
          let high_e = (lawful_at h e heap inside).high in
          elim (cases_order t e) [
            | inl at ↦ ne at
            | inr (inl less) ↦ let order = segment_order h t e heap less inside in omega arith
            | inr (inr more) ↦ let order = segment_order h e t heap more l in omega arith
          ]

  none-before : (n : ℕ) → n ≤ e → part_items rows h (Generations g) n ≡ []
  none-before zero l = refl
  none-before (suc n) l =
      ap₂ (λ (xs ys : List Item). xs ++ ys) (none-before n (omega arith))
      (none-other n (omega arith) (λ at. omega arith))

  -- the items of all parts are those of its part
  pub young-items : (n : ℕ) → e < n → n ≤ length h.segments
      → part_items rows h (Generations g) n ≡ items_of_part rows h (Generations g) e
  young-items zero l m = absurd (omega arith)
  young-items (suc n) l m = elim (cases_eq n e) [
    | inl at ↦ ap₂ (λ (xs ys : List Item). xs ++ ys) (none-before n (omega arith))
        (ap (items_of_part rows h (Generations g)) at)
    | inr ne ↦
        ap₂ (λ (xs ys : List Item). xs ++ ys) (young-items n (omega arith) (omega arith))
        (none-other n (omega arith) ne) ∙ append-nil (items_of_part rows h (Generations g) e)
  ]

-- ---- boundaries that have moved

-- what makes a heap lawful says nothing of the boundaries
pub heap-bounds : (h : HeapView) (start1 start0 : ℕ) → IsHeap (record h { start1 = start1; start0 = start0 }) → IsHeap h
heap-bounds h start1 start0 heap = record {
  memories = heap.memories;
  segments = heap.segments;
  highest = heap.highest;
  disjoint = heap.disjoint;
  below_top = heap.below_top;
  one_ephemeral = heap.one_ephemeral;
  ephemeral_last = heap.ephemeral_last;
  top_aligned = heap.top_aligned;
  top_small = heap.top_small;
  within_limit = heap.within_limit;
  limit_small = heap.limit_small;
  threads = heap.threads;
}

module _ (rows : List TypeRow) (g from : ℕ) (was now : HeapView) (heap : IsHeap now)
    (bounds : HasMovedBounds g from was now) (young : g ≢ 2) (e : ℕ) (inside : e < length now.segments)
    (is : segment_at now e ≡ ephemeral (frame now)) where
  in-was : e < length was.segments
  in-was = let count = ap (λ (h : HeapView). length h.segments) bounds.others in omega arith

  young-was : segment_at was e ≡ ephemeral (frame was)
  young-was =
      sym (ap (λ (h : HeapView). segment_at h e) bounds.others) ∙ is
      ∙ ap (λ (h : HeapView). ephemeral (frame h)) bounds.others

  on-was : takes (Generations g) (segment_at was e) ≡ true
  on-was =
      ap (λ (h : HeapView). takes (Generations g) (segment_at h e)) (sym bounds.others)
      ∙ young-part now g e heap inside is

  -- the ephemeral segment can be walked from where its part started
  pub moved-walk : ArePartsWalkable rows was (Generations g)
      → CanWalk (sight rows now e) now.memories from (last_of now e)
  moved-walk w =
      let P : ℕ → Type 0 = λ p. CanWalk (sight rows was e) was.memories p (last_of was e) in
      let Q : HeapView → Type 0 = λ h. CanWalk (sight rows h e) h.memories from (last_of h e) in
      subst Q (sym bounds.others) (subst P (sym (bounds.young e in-was young-was)) (w.walk e in-was on-was))

  -- the items of all parts stand there
  pub moved-items : part_items rows was (Generations g) (length was.segments) ≡ items_between (sight rows now e) from
      (last_of now e)
  moved-items =
      let was_heap = heap-bounds was now.start1 now.start0 (subst IsHeap bounds.others heap) in
      let F : ℕ → List Item = λ p. items_between (sight rows was e) p (last_of was e) in
      young-items rows was g e was_heap young in-was young-was (length was.segments) in-was (omega arith)
      ∙ ap (λ b. if b then F (part_of was (Generations g) e) else []) on-was
      ∙ ap F (sym (bounds.young e in-was young-was))
      ∙ ap (λ (h : HeapView). items_between (sight rows h e) from (last_of h e)) (sym bounds.others)
