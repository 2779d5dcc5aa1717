-- Searches breadth first. Their entries have indices, and each has a node and what led to it: 0 for a start, and else 1
-- more than the index of an entry before it.
use Rattle.std.specs.Prelude.{◌≡◌, ◌≢◌, ℕ, suc, ◌+◌, ◌<◌, ◌≤◌}

-- x is reached from a start over n nodes, the start and x counted
pub data IsWay (edge : ℕ → ℕ → Type 0) (start : ℕ → Type 0) : ℕ → ℕ → Type 0 where
  begins : {x : ℕ} → start x → IsWay edge start 1 x
  goes_on : {n x y : ℕ} → IsWay edge start n x → edge x y → IsWay edge start (suc n) y

-- d entries lead from a start to entry i, each found through the one before it, entry i counted
pub data HasDepth (via : ℕ → ℕ) : ℕ → ℕ → Type 0 where
  at_start : {i : ℕ} → via i ≡ 0 → HasDepth via i 1
  through : {i q d : ℕ} → via i ≡ suc q → HasDepth via q d → HasDepth via i (suc d)

-- one of the first `count` entries has the node, and what led to it is `latest` or comes before that
pub record IsFoundBy (node via : ℕ → ℕ) (count latest x : ℕ) : Type 0 where
  pub index : ℕ
  pub below : index < count
  pub is : node index ≡ x
  pub by : via index ≤ latest

-- THE LAW OF A SEARCH BREADTH FIRST whose entries below `next` were followed, and which may be cut off there: the
-- starts are found, entries stand in the order of what led to them, and whatever a followed one leads to was found by
-- then
pub record IsBreadthFirst (edge : ℕ → ℕ → Type 0) (start : ℕ → Type 0) (node via : ℕ → ℕ) (count next : ℕ)
    : Type 0 where
  pub starts : (x : ℕ) → start x → IsFoundBy node via count 0 x
  pub rises : (i j : ℕ) → i ≤ j → j < count → via i ≤ via j
  pub before : (i : ℕ) → i < count → via i ≤ i
  pub by_followed : (i : ℕ) → i < count → via i ≤ next
  pub followed : (i y : ℕ) → i < next → i < count → edge (node i) y → IsFoundBy node via count (i + 1) y
  pub distinct : (i j : ℕ) → i < j → j < count → node i ≢ node j

-- no way from a start to the node of an entry is shorter than the one on which it was found
abbrev pub AreNearest : (ℕ → ℕ → Type 0) → (ℕ → Type 0) → (node via : ℕ → ℕ) → ℕ → Type 0
AreNearest edge start node via count =
    (i d k : ℕ) → i < count → HasDepth via i d → IsWay edge start k (node i) → d ≤ k
