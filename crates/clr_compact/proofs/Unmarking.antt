-- A turn of the walk that clears the marks of a part.
use Rattle.std.proofs.Common.{◌≡◌, ℕ, ◌+◌, ◌^◌, ◌<◌, ◌≤◌, List, length, ap, sym, ◌∙◌, subst, arith, None}
use Rattle.clr_types.specs.Types.{TypeRow}
use Rattle.clr_heap.specs.Memories.{memory_index}
use Rattle.clr_heap.specs.Parts.{hole_from, item_at, item_part, Part, parts, unmarked}
use Rattle.clr_compact.specs.Rewrites.{cleared, IsRewriting, Rewrites}
use Rattle.clr_heap.specs.View.{CanWalk, HasItem, HeapView, holes_of, IsHeap, items_between, last_of, no_rests}
use Rattle.clr_heap.specs.View.{segment_at, sight, stored, word_of}
use Rattle.clr_heap.proofs.Addresses.{index_is_segment}
use Rattle.clr_compact.proofs.Clearing.{clear_step}
use Rattle.clr_heap.proofs.Framing.{below_top_at, lawful_at}
use Rattle.clr_compact.proofs.Rewalking.{AtItem, rewriting_at, rewriting_ends, rewriting_starts}
use Rattle.clr_compact.proofs.Rewriting.{cleared_below, cleared_past}
use Rattle.clr_heap.proofs.Spelling.{Among-bounds, place-item_at}
use Rattle.clr_heap.proofs.Storing.{memory_index-shapes}
use Rattle.clr_sweep.proofs.PassEnds.{none_starts}

module _ (rows : List TypeRow) (old : HeapView) (k start : ℕ) (heap : IsHeap old) (inside : k < length old.segments)
    (walk : CanWalk (sight rows old k) old.memories start (last_of old k))
    (low : (segment_at old k).base + 4096 ≤ start) (none : old.rests ≡ no_rests) where
  abbrev e : ℕ
  e = last_of old k

  abbrev all : List Part
  all = parts e (sight rows old k) start e

  abbrev f : ℕ → ℕ → ℕ
  f = cleared (items_between (sight rows old k) start e)

  pub unmarking_starts : IsRewriting f rows k all old old start e
  unmarking_starts =
      rewriting_starts f rows k old start e walk
      (λ a l. cleared_below (sight rows old k) all start e a (word_of old a) walk.spelled l)

  module _ (now : HeapView) (p : ℕ) (r : IsRewriting f rows k all old now p e) where
    no_hole : hole_from (holes_of now k) p ≡ None
    no_hole = none_starts now k p (ap (λ (h : HeapView). h.rests) r.shape.others ∙ none)

    pub unmarking_ends : e ≤ p → Rewrites f (word_of old) (word_of now)
    unmarking_ends past =
        rewriting_ends f rows k all old now p e r past
        (λ a l. cleared_past (sight rows old k) all start e a (word_of old a) walk.spelled l)

    module _ (below : p < e) where
      here : AtItem f rows k all old now p e
      here = rewriting_at f rows k all old now p e r below no_hole

      above : start ≤ p
      above =
          let (a, b) = Among-bounds (sight rows old k) all (item_part (item_at rows (word_of old) p))
          start e walk.spelled here.among in
          let at = place-item_at rows (word_of old) p in
          omega arith

      pub record CanUnmark : Type 0 where
        pub item : HasItem rows now p
        pub mt_in : k ≡ memory_index now.memories p
        pub len_in : k ≡ memory_index now.memories (p + 8)
        pub least : 24 ≤ (item_at rows (word_of now) p).size
        pub fits : p + (item_at rows (word_of now) p).size < 2 ^ 62
        pub same : item_at rows (word_of now) p ≡ item_at rows (word_of old) p
        pub above : start ≤ p

      pub can_unmark : CanUnmark
      can_unmark =
          let at = here in
          let up = above in
          let least = at.names.least in
          let size = at.size in
          let high = (lawful_at old k heap inside).high in
          let top = below_top_at old k heap inside in
          let small = heap.top_small in
          record {
            item = record { names = at.names; mt = at.mt; len = at.len };
            mt_in = sym (index_is_segment old k p heap inside (omega arith) (omega arith))
                ∙ sym (memory_index-shapes now.memories old.memories p r.shape.memories);
            len_in = sym (index_is_segment old k (p + 8) heap inside (omega arith) (omega arith))
                ∙ sym (memory_index-shapes now.memories old.memories (p + 8) r.shape.memories);
            least = least;
            fits = omega arith;
            same = at.same;
            above = up;
          }

      pub unmarking_more : (new : HeapView) (size : ℕ) → size ≡ (item_at rows (word_of now) p).size
          → new ≡ stored now p (unmarked (word_of now p)) → IsRewriting f rows k all old new (p + size) e
      unmarking_more new size at is =
          let P : HeapView → Type 0 = λ h. IsRewriting f rows k all old h (p + size) e in
          subst P (sym is) (subst (λ n. IsRewriting f rows k all old (stored now p (unmarked (word_of now p))) (p + n)
          e) (sym at) (clear_step rows k all old now start e p e walk.spelled r below no_hole))
