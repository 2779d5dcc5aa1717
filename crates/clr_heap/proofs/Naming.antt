-- Runs of words that are looked through for one that names a young place.
use Rattle.std.proofs.Common.{◌≡◌, ℕ, ◌+◌, ◌*◌, ◌<◌, ◌≤◌, List, get_or}
use Rattle.std.proofs.Common.{sym, ap, ◌∙◌}
use Rattle.clr_mem.specs.Words.{Memory, end_of, word_at}
use Rattle.clr_heap.specs.Memories.{contains, HasWord, memory_index, word_in}
use Rattle.clr_heap.proofs.Storing.{contains_at_index, contains_bounds, get_memory}

-- words that stand in memory k, of which m is that
module _ (ms : List Memory) (m : Memory) (k a n : ℕ) (words : (j : ℕ) → j < n → HasWord ms (a + 8 * j))
    (segment : (j : ℕ) → j < n → k ≡ memory_index ms (a + 8 * j)) (at : m ≡ get_or ms k m) where
  pub run-bounds : (j : ℕ) → j < n → (m.base ≤ a + 8 * j) × (a + 8 * j < end_of m)
  run-bounds j l =
      let is : m ≡ get_or ms (memory_index ms (a + 8 * j)) m = at ∙ ap (λ (i : ℕ). get_or ms i m) (segment j l) in
      contains_bounds m (a + 8 * j)
      (ap (λ (o : Memory). contains o (a + 8 * j)) is ∙ contains_at_index ms (a + 8 * j) m (words j l).inside)

  pub run-word : (j : ℕ) → j < n → word_in ms (a + 8 * j) ≡ word_at m (a + 8 * j)
  run-word j l =
      let is : m ≡ get_or ms (memory_index ms (a + 8 * j)) m = at ∙ ap (λ (i : ℕ). get_or ms i m) (segment j l) in
      sym (ap (λ (o : Memory). word_at o (a + 8 * j)) is ∙ get_memory ms (a + 8 * j) m (words j l).inside)
