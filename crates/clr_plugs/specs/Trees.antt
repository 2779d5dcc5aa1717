-- Trees of the plugs that start in one brick, and how the words before the plugs hold them.
use Rattle.std.specs.Prelude.{◌≡◌, ℕ, suc, ◌+◌, ◌-◌, ◌*◌, ◌/◌, ◌^◌, ◌≤◌, ℤ, pos, max, List, [], ◌∷◌, ◌++◌, length}
use Rattle.std.specs.Prelude.{filter, ◌==◌}
use Rattle.clr_plugs.specs.Info.{left_of, right_of}

pub data Tree : Type 0 where
  leaf : Tree
  node : (left : Tree) (plug : ℕ) (right : Tree) → Tree

-- the plugs of a tree, each after those of its left subtree and before those of its right one
abbrev pub in_order : Tree → List ℕ
in_order leaf = []
in_order (node left plug right) = in_order left ++ (plug ∷ in_order right)

abbrev pub levels : Tree → ℕ
levels leaf = 0
levels (node left plug right) = suc (max (levels left) (levels right))

-- the root, by one more than its offset from the base, and 0 for none
abbrev pub root_of : ℕ → Tree → ℕ
root_of base leaf = 0
root_of base (node left plug right) = plug - base + 1

-- before each plug of the tree stand its children
abbrev pub Stands : (ℕ → ℕ) → ℕ → Tree → Type 0
Stands word base leaf = Unit {0}
Stands word base (node left plug right) =
    (base ≤ plug) × (left_of word plug ≡ root_of base left) × (right_of word plug ≡ root_of base right)
    × Stands word base left × Stands word base right

-- no number with more than this many binary digits is needed to count so many
abbrev pub IsWithinDigits : ℕ → ℕ → Type 0
IsWithinDigits digits count = 2 ^ digits ≤ max 1 (2 * count)

-- From this root hangs a tree of exactly these plugs of the brick, by rising place, with at most as many levels as
-- their number has binary digits.
pub record IsBrickTree (word : ℕ → ℕ) (brick from : ℕ) (starts : List ℕ) : Type 0 where
  pub tree : Tree
  pub root : from ≡ root_of (brick * 4096) tree
  pub stands : Stands word (brick * 4096) tree
  pub order : in_order tree ≡ starts
  pub balanced : IsWithinDigits (levels tree) (length starts)

-- the entry of the brick is the root of such a tree, and 0 where there is no plug
pub record HasEntryTree (word : ℕ → ℕ) (brick : ℕ) (entry : ℤ) (starts : List ℕ) : Type 0 where
  pub root : ℕ
  pub told : entry ≡ pos root
  pub tree : IsBrickTree word brick root starts

-- the places that lie in the brick
abbrev pub starts_in : ℕ → List ℕ → List ℕ
starts_in brick starts = filter (λ x. x / 4096 == brick) starts
