-- Walks that rewrite the words of a segment.
use Rattle.std.specs.Prelude.{◌≡◌, ℕ, ◌+◌, ◌%◌, Bool, false, ◌||◌, nat_eq, nat_lt, List, [], ◌∷◌, if◌then◌else◌}
use Rattle.clr_types.specs.Types.{TypeRow}
use Rattle.clr_types.specs.declared.item.Item.{Item}
use Rattle.clr_heap.specs.Parts.{Among, Part, parts, unmarked}
use Rattle.clr_heap.specs.View.{CanWalk, HeapView, SameShape, sight, word_of}

-- whether one of the items has this place
abbrev pub is_place : List Item → ℕ → Bool
is_place [] a = false
is_place (i ∷ is) a = nat_eq i.place a || is_place is a

-- a walk that rewrites words by f has come to p: the cells below p are done, the others as they were
abbrev pub DoneBelow : (ℕ → ℕ → ℕ) → (ℕ → ℕ) → (ℕ → ℕ) → ℕ → Type 0
DoneBelow f old new p = (a : ℕ) → a % 8 ≡ 0 → new a ≡ (if nat_lt (a + 8) p then f a (old a) else old a)

-- every word of new is what f makes of the word of old
abbrev pub Rewrites : (ℕ → ℕ → ℕ) → (ℕ → ℕ) → (ℕ → ℕ) → Type 0
Rewrites f old new = (a : ℕ) → a % 8 ≡ 0 → new a ≡ f a (old a)

-- clears the marks of the items
abbrev pub cleared : List Item → ℕ → ℕ → ℕ
cleared is a w = if is_place is a then unmarked w else w

-- a walk over the parts `all` of segment k of the heap `old` that rewrites its words by f has come to p, and has made
-- it `now`
pub record IsRewriting (f : ℕ → ℕ → ℕ) (rows : List TypeRow) (k : ℕ) (all : List Part) (old now : HeapView)
    (p e : ℕ) : Type 0 where
  pub shape : SameShape old now
  pub walk : CanWalk (sight rows old k) old.memories p e
  pub among : (m : Part) → Among (parts e (sight rows old k) p e) m → Among all m
  pub done : DoneBelow f (word_of old) (word_of now) p
