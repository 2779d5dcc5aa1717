-- A tree in the making.
use Rattle.std.specs.Prelude.{◌≢◌, ℕ, ◌+◌, ◌-◌, ◌*◌, ◌^◌, ◌<◌, ◌≤◌, List, map, take, Bool, true, false, [], ◌∷◌}
use Rattle.std.specs.List.{AllByRecursion}
use Rattle.clr_types.specs.Rising.{IsIn}
use Rattle.clr_heap.specs.Memories.{HasWord}
use Rattle.clr_heap.specs.View.{HeapView}
use Rattle.clr_plugs.specs.Plans.{AreSpaced}

-- a brick, and the plugs of it that were added, by rising start
pub record BuilderView : Type 0 where
  pub brick : ℕ
  pub plugs : List ℕ

-- offsets in the brick, as places
abbrev pub places_from : ℕ → List ℕ → List ℕ
places_from base offsets = map (λ o. base + o) offsets

-- the offsets lie in one brick, each at least 24 bytes above the one before it
pub record AreOffsets (offsets : List ℕ) : Type 0 where
  pub spaced : AreSpaced 0 offsets
  pub small : AllByRecursion (λ o. o < 4096) offsets

-- the word isn't that of the children of one of these plugs
abbrev pub IsNoChildren : List ℕ → ℕ → Type 0
IsNoChildren plugs b = AllByRecursion (λ p. b + 16 ≢ p) plugs

-- what holds of the fields of every builder
pub record IsBuilder (brick : ℕ) (stored : List ℕ) (count : ℕ) : Type 0 where
  pub most : count ≤ 171
  pub offsets : AreOffsets (take count stored)
  pub fits : brick * 4096 + 4096 < 2 ^ 64

-- the words of the children of these plugs can be written
abbrev pub HaveChildren : HeapView → List ℕ → Type 0
HaveChildren h plugs = (x : ℕ) → IsIn x plugs → (16 ≤ x) × HasWord h.memories (x - 16)

-- whether there is no plug
abbrev pub is_empty_list : List ℕ → Bool
is_empty_list [] = true
is_empty_list (x ∷ xs) = false
