-- Searches in trees of plugs that go on step by step, so that several of them wait for the heap side by side.
use Rattle.std.specs.Prelude.{◌≡◌, ◌≢◌, ◌⊎◌, ℕ, ◌+◌, ◌*◌, ◌/◌, ◌<◌, ◌≤◌}
use Rattle.clr_types.specs.Rising.{IsIn, IsRisingBy}
use Rattle.clr_heap.specs.View.{HeapView, word_of}
use Rattle.clr_bricks.specs.Bricks.{entry_at}
use Rattle.clr_plugs.specs.BrickEntries.{BricksView}
use Rattle.clr_plugs.specs.Plans.{root_number}
use Rattle.clr_plugs.specs.Searches.{HasPlugWords, IsInPlan, nearest}
use Rattle.clr_plugs.specs.Trees.{in_order, levels, root_of, Stands, Tree}
use Rattle.clr_plugs.specs.declared.plug_search.PlugSearch.{PlugSearch}

-- From the root the search has come to `at`: what is left to look at is a tree between the best place so far and
-- `above`. All other places of the whole tree stand at a or below it, or at `above` or over it.
pub record IsDescent (h : HeapView) (k brick from a end found above at before now : ℕ) : Type 0 where
  pub tree : Tree
  pub root : at ≡ root_of (brick * 4096) tree
  pub stands : Stands (word_of h) (brick * 4096) tree
  pub rising : IsRisingBy (λ x. x) (in_order tree)
  pub words : (x : ℕ) → IsIn x (in_order tree) → HasPlugWords h k x
  pub inside : (x : ℕ) → IsIn x (in_order tree) → (found < x) × (x < above)
  pub limit : above ≤ end
  pub past : a < end → a < above
  pub passed : (t : Tree) → Stands (word_of h) (brick * 4096) t → from ≡ root_of (brick * 4096) t
      → (x : ℕ) → IsIn x (in_order t) → IsIn x (in_order tree) ⊎ ((x ≤ a) ⊎ (above ≤ x))
  pub answer : (t : Tree) → Stands (word_of h) (brick * 4096) t → from ≡ root_of (brick * 4096) t
      → nearest (in_order tree) a found ≡ nearest (in_order t) a 0
  pub steps : (t : Tree) → Stands (word_of h) (brick * 4096) t → from ≡ root_of (brick * 4096) t
      → now + levels tree ≤ before + levels t

-- the search looks at a plug, or has found one
abbrev pub HasBegun : PlugSearch → Type 0
HasBegun s = 0 < s.node + s.found

-- From the root that the entry of the place's brick tells, the search has come down to where it is.
pub record IsUnderway (h : HeapView) (bricks : BricksView) (s : PlugSearch) : Type 0 where
  pub plan : IsInPlan h bricks s.place
  pub segment : s.segment ≡ plan.part.segment
  pub root : ℕ
  pub told : root ≡ root_number (entry_at bricks (s.place / 4096))
  pub some : root ≢ 0
  pub steps : ℕ
  pub descent : IsDescent h s.segment (s.place / 4096) root s.place (s.place / 4096 * 4096 + 4096) s.found s.above
      s.node 0 steps

-- a search that has begun is on its way in a plan that the heap and the bricks hold
abbrev pub IsSearching : HeapView → BricksView → PlugSearch → Type 0
IsSearching h bricks s = HasBegun s → IsUnderway h bricks s
