-- Where items and their references stand.
use Rattle.std.proofs.Common.{◌≡◌, ℕ, zero, suc, ◌*◌, ◌+◌, ◌%◌, ◌^◌, ◌<◌, ◌≤◌, List, [], ◌∷◌, ◌++◌, length, ap, sym}
use Rattle.std.proofs.Common.{◌∙◌, subst, arith}
use Rattle.clr_types.specs.Rising.{first, IsIn, later}
use Rattle.clr_types.specs.Types.{form_at, size_of, TypeRow}
use Rattle.clr_types.specs.Descriptors.{offsets_from, reference_offsets}
use Rattle.clr_types.specs.ReferenceRuns.{SpellsReferences}
use Rattle.clr_types.specs.declared.descriptors.ReferenceRun.{ReferenceRun}
use Rattle.clr_types.specs.declared.item.Item.{Item}
use Rattle.clr_types.proofs.ListMembers.{append_right}
use Rattle.clr_types.proofs.Offsets.{inside_law}
use Rattle.clr_types.proofs.RisingLists.{all_at}
use Rattle.clr_heap.specs.Memories.{HasWord, memory_index}
use Rattle.clr_heap.specs.View.{AreWalkable, HeapView, IsHeap, listing}
use Rattle.clr_heap.proofs.Framing.{below_top_at, lawful_at}
use Rattle.clr_sos.specs.CellScans.{IsPlace}
use Rattle.clr_sos.proofs.WalkedItems.{walked_is}
use Rattle.clr_sos.proofs.ScanLimits.{cell_words}
use Rattle.clr_sos.proofs.FaultlessWalks.{reserved_small}

-- what the table of types asks of an item, and how low it ends
pub record IsListed (rows : List TypeRow) (h : HeapView) (k : ℕ) (i : Item) : Type 0 where
  pub known : i.type_id.0 ≤ length rows
  pub small : size_of (form_at rows i.type_id.0) i.len ≤ 1073741824
  pub low : i.place + i.size < 2 ^ 63

pub listed_facts : (rows : List TypeRow) (h : HeapView) (k : ℕ) (i : Item) → IsHeap h → AreWalkable rows h
    → k < length h.segments → IsIn i (listing rows h k) → IsListed rows h k i
listed_facts rows h k i heap walkable l m =
    let is = walked_is rows h k i walkable l m in
    let lawful = lawful_at h k heap l in
    let up = lawful.high in
    let top = below_top_at h k heap l in
    let small = heap.top_small in
    let above = is.above in
    let below = is.below in
    let sized = is.sized in
    let reserved = reserved_small h k heap l in
    record { known = is.known; small = omega arith; low = omega arith }

-- a word of segment k
pub record IsSlotOf (h : HeapView) (k a : ℕ) : Type 0 where
  pub low : a < 2 ^ 63
  pub word : HasWord h.memories a
  pub segment : k ≡ memory_index h.memories a

pub offset_facts : (rows : List TypeRow) (h : HeapView) (k : ℕ) (i : Item) (offset : ℕ) → IsHeap h → AreWalkable rows h
    → k < length h.segments → IsIn i (listing rows h k)
    → IsIn offset (reference_offsets (form_at rows i.type_id.0) i.len) → IsSlotOf h k (i.place + offset)
offset_facts rows h k i offset heap walkable l m among =
    let is = walked_is rows h k i walkable l m in
    let facts = listed_facts rows h k i heap walkable l m in
    let inside =
    all_at (λ (o : ℕ). (8 ≤ o) × (o + 16 ≤ size_of (form_at rows i.type_id.0) i.len) × (o % 8 ≡ 0)) among
    (inside_law (form_at rows i.type_id.0) i.len) in
    let up = inside.1 in
    let zo = inside.2 in
    let z = is.aligned in
    let above = is.above in
    let below = is.below in
    let least = is.least in
    let sized = is.sized in
    let low = facts.low in
    let at : IsPlace h k i.place = record { heap = heap; in_range = l; aligned = z; low = above; high = omega arith } in
    let words = cell_words h k i.place (i.place + offset) at (omega arith) (omega arith) (omega arith) in
    record { low = omega arith; word = words.0; segment = words.1 }

pub in_middle_of : (xs : List ℕ) (n : ℕ) (ys zs : List ℕ) → xs ++ n ∷ ys ≡ zs → IsIn n zs
in_middle_of xs n ys zs e = subst (IsIn n) e (append_right xs first)

-- ---- runs

pub run_more : (offset i : ℕ) → offsets_from offset (i + 1) ≡ offsets_from offset i ++ (offset + 8 * i) ∷ []
run_more offset zero = ap (λ (n : ℕ). n ∷ []) (let e : offset ≡ offset + 8 * 0 = omega arith in e)
run_more offset (suc i) =
    let next : offset + 8 + 8 * i ≡ offset + 8 * suc i = omega arith in
    let one : suc i + 1 ≡ suc (i + 1) = omega arith in
    rw one (ap (λ (ns : List ℕ). offset ∷ ns)
    (run_more (offset + 8) i ∙ ap (λ (n : ℕ). offsets_from (offset + 8) i ++ n ∷ []) next))

pub run_listed : (offset count i : ℕ) → i < count → IsIn (offset + 8 * i) (offsets_from offset count)
run_listed offset zero i l = absurd (omega arith)
run_listed offset (suc count) zero l =
    let e : offset + 8 * 0 ≡ offset = omega arith in
    subst (λ (n : ℕ). IsIn n (offsets_from offset (suc count))) (sym e) first
run_listed offset (suc count) (suc i) l =
    let at : offset + 8 + 8 * i ≡ offset + 8 * suc i = omega arith in
    later (subst (λ (n : ℕ). IsIn n (offsets_from (offset + 8) count)) at
    (run_listed (offset + 8) count i (omega arith)))

-- a slot of a run
pub run_slot : (rows : List TypeRow) (h : HeapView) (k : ℕ) (i : Item) (run : ReferenceRun) (j : ℕ) → IsHeap h
    → AreWalkable rows h → k < length h.segments → IsIn i (listing rows h k)
    → SpellsReferences (form_at rows i.type_id.0) i.len run → j < run.count
    → IsSlotOf h k (i.place + (run.offset + 8 * j))
run_slot rows h k i run j heap walkable l m spelled low =
    offset_facts rows h k i (run.offset + 8 * j) heap walkable l m
    (subst (IsIn (run.offset + 8 * j)) (sym spelled) (run_listed run.offset run.count j low))
