-- The survivors and the plugs of segments of chosen kinds, one segment after the other.
use Rattle.std.proofs.Common.{◌≡◌, ◌≢◌, ℕ, zero, suc, ◌+◌, ◌<◌, ◌≤◌, ◌⊎◌, inl, inr, List, [], ◌++◌, filter, length}
use Rattle.std.proofs.Common.{refl, sym, ap, ap₂, ◌∙◌, arith, Bool, true, false, ◌==◌, if◌then◌else◌}
use Rattle.std.proofs.lemmas.Bool.{and_left, ne_eqb}
use Rattle.clr_types.specs.Rising.{IsIn}
use Rattle.clr_types.specs.Types.{TypeRow}
use Rattle.clr_types.specs.Segments.{reserved_end}
use Rattle.clr_types.specs.declared.item.Item.{Item}
use Rattle.clr_types.specs.declared.segment.SegKind.{SegKind}
use Rattle.clr_types.proofs.ChangedLists.{out_of_filter}
use Rattle.clr_types.proofs.ListMembers.{from-map, in_append}
use Rattle.clr_heap.specs.View.{first_of, HeapView, IsHeap, items_between, last_of, segment_at, sight, word_of}
use Rattle.clr_heap.proofs.Framing.{lawful_at}
use Rattle.clr_heap.proofs.Staying.{segment_order}
use Rattle.clr_model.specs.Sweep.{Survivor}
use Rattle.clr_model.specs.Compaction.{Plug, plugs_of}
use Rattle.clr_sweep.specs.SweptItems.{stays}
use Rattle.clr_plan.specs.PartLists.{plugs_from, whole_plugs}
use Rattle.clr_plan.specs.Scans.{survivor_in, survivors_between}
use Rattle.clr_plan.proofs.AppendedPlugs.{plugs-append, shares}

-- the survivors of segment k, where its kind is chosen, and those of n segments from segment k on
abbrev pub survivors_at : (SegKind → Bool) → List TypeRow → HeapView → ℕ → List Survivor
survivors_at chosen rows h k = if chosen (segment_at h k).kind then survivors_between rows h k
    (first_of h k) (last_of h k) else []

abbrev pub survivors_from : (SegKind → Bool) → List TypeRow → HeapView → ℕ → ℕ → List Survivor
survivors_from chosen rows h k zero = []
survivors_from chosen rows h k (suc n) = survivors_at chosen rows h k ++ survivors_from chosen rows h (k + 1) n

-- a survivor of a stretch is of its segment
pub between-of : (rows : List TypeRow) (h : HeapView) (k p e : ℕ) (v : Survivor)
    → IsIn v (survivors_between rows h k p e)
    → (i : Item) × IsIn i (items_between (sight rows h k) p e) × (v ≡ survivor_in h k i)
between-of rows h k p e v n =
    let (i, same, j) = from-map (survivor_in h k) v (filter (stays (word_of h)) (items_between (sight rows h k) p e)) n
    in
    (i, (out_of_filter (stays (word_of h)) i (items_between (sight rows h k) p e) j).1, same)

pub between-segment : (rows : List TypeRow) (h : HeapView) (k p e : ℕ) (v : Survivor)
    → IsIn v (survivors_between rows h k p e) → v.segment ≡ (segment_at h k).base
between-segment rows h k p e v n = let (i, l, same) = between-of rows h k p e v n in
    ap (λ (w : Survivor). w.segment) same

module _ (chosen : SegKind → Bool) where
  segment-of : (rows : List TypeRow) (h : HeapView) (k : ℕ) (v : Survivor) → IsIn v (survivors_at chosen rows h k)
      → v.segment ≡ (segment_at h k).base
  segment-of rows h k v n = go (chosen (segment_at h k).kind) n
    where
      go : (b : Bool) → IsIn v (if b then survivors_between rows h k (first_of h k) (last_of h k) else []) → v.segment
          ≡ (segment_at h k).base
      go true n = between-segment rows h k (first_of h k) (last_of h k) v n
      go false n = elim n [ ]

  pub survivor-home : (rows : List TypeRow) (h : HeapView) (k n : ℕ) (v : Survivor)
      → IsIn v (survivors_from chosen rows h k n)
      → (j : ℕ) × (k ≤ j) × (j < k + n) × (v.segment ≡ (segment_at h j).base)
  survivor-home rows h k zero v i = elim i [ ]
  survivor-home rows h k (suc n) v i =
      go (in_append (survivors_at chosen rows h k) i) (survivor-home rows h (k + 1) n v)
    where
      go : IsIn v (survivors_at chosen rows h k) ⊎ IsIn v (survivors_from chosen rows h (k + 1) n)
          → (IsIn v (survivors_from chosen rows h (k + 1) n) → (j : ℕ) × (k + 1 ≤ j) × (j < k + 1 + n)
          × (v.segment ≡ (segment_at h j).base))
          → (j : ℕ) × (k ≤ j) × (j < k + suc n) × (v.segment ≡ (segment_at h j).base)
      go (inl here) more = (k, omega arith, omega arith, segment-of rows h k v here)
      go (inr there) more = let (j, l, u, e) = more there in (j, omega arith, omega arith, e)

module _ (h : HeapView) (heap : IsHeap h) where
  -- segments of different indexes have different bases
  pub bases-differ : (j k : ℕ) → j < k → k < length h.segments → (segment_at h j).base ≢ (segment_at h k).base
  bases-differ j k l inside e =
      let o : reserved_end (segment_at h j) ≤ (segment_at h k).base = segment_order h j k heap l inside in
      let r : 262144 ≤ (segment_at h j).reserved = (lawful_at h j heap (omega arith)).least in
      absurd (omega arith)

  pub apart-segments : (k l : Survivor) (i j : ℕ) → i < j → j < length h.segments → k.segment ≡ (segment_at h i).base
      → l.segment ≡ (segment_at h j).base → shares k l ≡ false
  apart-segments k l i j below inside a b = and_left (k.segment == l.segment) (k.generation == l.generation)
      (ne_eqb k.segment l.segment (λ e. bases-differ i j below inside (sym a ∙ e ∙ b)))

  module _ (chosen : SegKind → Bool) (rows : List TypeRow) where
    plugs-at : (k : ℕ) → plugs_of (survivors_at chosen rows h k)
        ≡ (if chosen (segment_at h k).kind then whole_plugs rows h k else [])
    plugs-at k = go (chosen (segment_at h k).kind)
      where
        go : (b : Bool) → plugs_of (if b then survivors_between rows h k (first_of h k) (last_of h k) else [])
            ≡ (if b then whole_plugs rows h k else [])
        go true = refl
        go false = refl

    -- THE PLUGS, by segments
    pub chosen-plugs : (k n : ℕ) → k + n ≤ length h.segments → plugs_of (survivors_from chosen rows h k n)
        ≡ plugs_from h (λ s. chosen s.kind) (whole_plugs rows h) k n
    chosen-plugs k zero l = refl
    chosen-plugs k (suc n) l =
        plugs-append (survivors_at chosen rows h k) (survivors_from chosen rows h (k + 1) n)
        (λ v w i j. let (u, a, b, e) = survivor-home chosen rows h (k + 1) n w j in
        apart-segments v w k u (omega arith) (omega arith) (segment-of chosen rows h k v i) e)
        ∙ ap₂ (λ (ps qs : List Plug). ps ++ qs) (plugs-at k) (chosen-plugs (k + 1) n (omega arith))
