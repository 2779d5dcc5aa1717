-- Where the head of an item lies: in the memory of its segment.
use Rattle.std.proofs.Common.{◌≡◌, ℕ, ◌+◌, ◌^◌, ◌<◌, ◌≤◌, List, length, sym, arith}
use Rattle.clr_types.specs.Types.{TypeRow}
use Rattle.clr_heap.specs.Memories.{memory_index}
use Rattle.clr_heap.specs.View.{AfterItem, first_of, HeapView, IsHeap, last_of, sight}
use Rattle.clr_heap.proofs.Addresses.{index_is_segment}
use Rattle.clr_heap.proofs.Framing.{below_top_at, lawful_at}

-- the two first words at a are those of segment k
pub record HasHeadIn (h : HeapView) (k a : ℕ) : Type 0 where
  pub segment : k ≡ memory_index h.memories a
  pub behind : k ≡ memory_index h.memories (a + 8)
  pub room : a + 8 < 2 ^ 64

-- an item on a walk over segment k has its head there
pub head-in : (rows : List TypeRow) (h : HeapView) (k a e : ℕ) → IsHeap h → k < length h.segments → first_of h k ≤ a
    → e ≤ last_of h k → AfterItem (sight rows h k) h.memories a e → HasHeadIn h k a
head-in rows h k a e heap inside low last step =
    let least = step.names.least in
    let within = step.within in
    let lawful = (lawful_at h k heap inside).high in
    let top = below_top_at h k heap inside in
    let small = heap.top_small in
    record {
      segment = sym (index_is_segment h k a heap inside (omega arith) (omega arith));
      behind = sym (index_is_segment h k (a + 8) heap inside (omega arith) (omega arith));
      room = omega arith;
    }
