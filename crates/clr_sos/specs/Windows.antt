-- Windows over the places of the heap, and the bits that tell where objects start.
use Rattle.std.specs.Prelude.{◌≡◌, ℕ, ◌+◌, ◌-◌, ◌*◌, ◌/◌, ◌%◌, ◌<◌, ◌≤◌, ◌==◌, ◌&&◌, ◌||◌, not, Bool, true, List}
use Rattle.std.specs.Prelude.{filter, length, get_or, nat_eq, nat_le, nat_lt, Option}
use Rattle.std.specs.Int.{bit_at}
use Rattle.clr_types.specs.Types.{TypeRow}
use Rattle.clr_types.specs.declared.item.Item.{Item}
use Rattle.clr_heap.specs.View.{AreWalkable, first_of, heap_items, HeapView, IsHeap, last_of, word_of}
use Rattle.clr_view.specs.View.{is_object}
use Rattle.clr_sos.specs.Faults.{is_name, lowest, stands}
use Rattle.clr_sos.specs.declared.verify.references.Judge.{Judge}
use Rattle.clr_sos.specs.declared.verify.windows.Window.{Window}

-- bit j of words
unfoldable pub bit_of : List ℕ → ℕ → Bool
bit_of bits j = nat_eq (bit_at (get_or bits (j / 64) 0) (j % 64)) 1

-- bit j is that of an object
abbrev pub is_bit : Window → Item → ℕ → Bool
is_bit window i j = (i.place == window.start + 8 * j) && is_object i

-- each bit tells whether an object has that place
abbrev pub IsMarked : List Item → Window → List ℕ → Type 0
IsMarked items window bits = (j : ℕ) → j < 64 * length bits → bit_of bits j ≡ stands items (window.start + 8 * j)

-- a place of the window has its bit
abbrev pub marked_at : Window → List ℕ → ℕ → Bool
marked_at window bits place =
    nat_le window.start place
    && (((place - window.start) % 8 == 0)
    && (nat_lt ((place - window.start) / 8 / 64) (length bits) && bit_of bits ((place - window.start) / 8)))

-- a name is judged in this window
abbrev pub in_window : Window → ℕ → Bool
in_window window name = nat_le window.from name && (window.last || nat_lt name window.end)

-- each place of a segment that is judged in this window has a bit
abbrev pub IsCovered : HeapView → Window → ℕ → Type 0
IsCovered h window count =
    (k x : ℕ) → k < length h.segments → first_of h k ≤ x → x < last_of h k → in_window window x ≡ true
    → (window.start ≤ x) × (x < window.start + 512 * count)

-- a name that is judged in this window and is neither null nor an object's place
abbrev pub is_bad_in : List Item → Window → ℕ → Bool
is_bad_in items window name = in_window window name && not (is_name items name)

-- the same by the bits
abbrev pub is_bad_by : Window → List ℕ → ℕ → Bool
is_bad_by window bits name = not (name == 0) && (in_window window name && not (marked_at window bits name))

-- what names are judged by: the bits of the window are those of the heap
pub record IsJudging (rows : List TypeRow) (h : HeapView) (window : Window) (bits : List ℕ) : Type 0 where
  pub heap : IsHeap h
  pub walkable : AreWalkable rows h
  pub aligned : window.start % 8 ≡ 0
  pub marked : IsMarked (heap_items rows h) window bits
  pub covered : IsCovered h window (length bits)

abbrev pub CanJudge : Judge → Type 0
CanJudge judge = IsJudging judge.types.now judge.heap.now judge.window judge.bits.now

-- the lowest of an address and of those of words that name what is bad in the window
abbrev pub lowest_bad : Judge → Option ℕ → List ℕ → Option ℕ
lowest_bad judge low addresses =
    lowest low (filter (λ a.
    is_bad_in (heap_items judge.types.now judge.heap.now) judge.window (word_of judge.heap.now a)) addresses)

-- a name that was judged and is neither null nor an object's place, where the windows have come to `from`, or are over
abbrev pub is_bad_before : List Item → ℕ → Bool → ℕ → Bool
is_bad_before items from more name = (nat_lt name from || not more) && not (is_name items name)
