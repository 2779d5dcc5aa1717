-- Trees of bricks side by side, read level by level.
use Rattle.std.specs.Prelude.{◌≡◌, ◌⊎◌, ℕ, zero, suc, ◌+◌, ◌-◌, ◌*◌, ◌/◌, ◌%◌, ◌^◌, ◌<◌, ◌≤◌, true, List, [], ◌∷◌}
use Rattle.std.specs.Prelude.{length, map}
use Rattle.clr_types.specs.Rising.{IsIn}
use Rattle.clr_heap.specs.View.{HeapView}
use Rattle.clr_plugs.specs.Offsets.{has_unit}
use Rattle.clr_plugs.specs.Plans.{AreSpaced}
use Rattle.clr_plugs.specs.Searches.{HasPlugWords}
use Rattle.clr_plugs.specs.Trees.{in_order, leaf, node, Stands, Tree}

-- the offset of the root from the base
abbrev pub offset_of : ℕ → Tree → ℕ
offset_of base leaf = 0
offset_of base (node left plug right) = plug - base

-- how many plugs the trees have
abbrev pub plugs_of : List Tree → ℕ
plugs_of [] = 0
plugs_of (t ∷ ts) = length (in_order t) + plugs_of ts

-- the offset that a child or a root of a brick tells, whose bytes begin `low` bytes above the base, where there is one
abbrev pub told_offsets : ℕ → ℕ → List ℕ
told_offsets low zero = []
told_offsets low (suc n) = (low + n) ∷ []

-- a tree that stands in the words, whose plugs start in one brick, and are among these
pub record IsWhole (word : ℕ → ℕ) (starts : List ℕ) (t : Tree) : Type 0 where
  pub left : Tree
  pub plug : ℕ
  pub right : Tree
  pub is : t ≡ node left plug right
  pub stands : Stands word (plug / 4096 * 4096) t
  pub brick : (x : ℕ) → IsIn x (in_order t) → x / 4096 ≡ plug / 4096
  pub among : (x : ℕ) → IsIn x (in_order t) → IsIn x starts

-- the plug is one of a tree of these
pub record IsInSome (trees : List Tree) (x : ℕ) : Type 0 where
  pub tree : Tree
  pub listed : IsIn tree trees
  pub here : IsIn x (in_order tree)

-- Trees wait, by the offsets of their roots. Each plug among these starts waits in one of them, or its offset is in the
-- words, which have no others.
pub record AreWaiting (word : ℕ → ℕ) (starts : List ℕ) (base met : ℕ) (queue bits : List ℕ) : Type 0 where
  pub trees : List Tree
  pub roots : queue ≡ map (offset_of base) trees
  pub whole : (t : Tree) → IsIn t trees → IsWhole word starts t
  pub few : met + plugs_of trees ≤ 684
  pub sound : (n : ℕ) → has_unit bits n ≡ true → IsIn (base + 8 * n) starts
  pub full : (x : ℕ) → IsIn x starts → (has_unit bits ((x - base) / 8) ≡ true) ⊎ IsInSome trees x

-- the plugs that start in some bricks side by side, and their words, can be read
pub record CanReadAll (h : HeapView) (base segment : ℕ) (starts : List ℕ) : Type 0 where
  pub even : base % 4096 ≡ 0
  pub low : (x : ℕ) → IsIn x starts → base ≤ x
  pub high : (x : ℕ) → IsIn x starts → x < base + 16384
  pub aligned : (x : ℕ) → IsIn x starts → x % 8 ≡ 0
  pub words : (x : ℕ) → IsIn x starts → HasPlugWords h segment x
  pub spaced : AreSpaced base starts
  pub fits : base + 65536 < 2 ^ 64

-- the words have the offsets of these plugs, and no others
pub record HaveFound (starts : List ℕ) (base : ℕ) (bits : List ℕ) : Type 0 where
  pub sound : (n : ℕ) → has_unit bits n ≡ true → IsIn (base + 8 * n) starts
  pub full : (x : ℕ) → IsIn x starts → has_unit bits ((x - base) / 8) ≡ true
