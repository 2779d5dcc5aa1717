-- The older part of each segment, in a collection of generation 0 or of 0 and 1.
use Rattle.std.specs.Prelude.{◌≡◌, ℕ, ◌+◌, ◌<◌, ◌≤◌, ◌⊎◌, true, false, List, length, if◌then◌else◌, ◌==◌}
use Rattle.clr_types.specs.Rising.{IsIn}
use Rattle.clr_types.specs.Segments.{same_kind}
use Rattle.clr_types.specs.Types.{TypeRow}
use Rattle.clr_types.specs.declared.item.Item.{Item}
use Rattle.clr_types.specs.declared.segment.SegKind.TheVariants.{Ephemeral}
use Rattle.clr_heap.specs.View.{first_of, HeapView, last_of, listing, segment_at}
use Rattle.clr_mark.specs.Marks.{is_condemned_place}

-- the places of segment k below hi are older than what is condemned
abbrev pub AreOlder : HeapView → ℕ → ℕ → ℕ → Type 0
AreOlder h g k hi = (x : ℕ) → first_of h k ≤ x → x < hi → is_condemned_place h g x ≡ false

-- where the places of segment k end that are older than what is condemned, of generations up to g, which is 0 or 1
abbrev pub old_end : HeapView → ℕ → ℕ → ℕ
old_end h g k =
    if same_kind (segment_at h k).kind Ephemeral then (if g == 0 then h.start0 else h.start1) else last_of h k

-- segment k has an older part up to there: no item reaches over its end, and from there on all is condemned
pub record HasOldPart (rows : List TypeRow) (h : HeapView) (g k : ℕ) : Type 0 where
  pub low : first_of h k ≤ old_end h g k
  pub high : old_end h g k ≤ last_of h k
  pub whole : (i : Item) → IsIn i (listing rows h k) → (old_end h g k ≤ i.place) ⊎ (i.place + i.size ≤ old_end h g k)
  pub older : AreOlder h g k (old_end h g k)
  pub young : (x : ℕ) → old_end h g k ≤ x → x < last_of h k → is_condemned_place h g x ≡ true

-- so has each segment
abbrev pub HaveOldParts : List TypeRow → HeapView → ℕ → Type 0
HaveOldParts rows h g = (k : ℕ) → k < length h.segments → HasOldPart rows h g k
