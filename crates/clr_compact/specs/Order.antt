-- The order in which plugs are placed: by rising destination. Those that go down and those that stay are two lines, and
-- each of them rises.
use Rattle.std.specs.Prelude.{◌≡◌, ℕ, ◌+◌, ◌<◌, ◌≤◌, Bool, true, false, not, ◌&&◌, ◌||◌, List, length, nat_eq, nat_lt}
use Rattle.std.specs.Prelude.{if◌then◌else◌}
use Rattle.clr_model.specs.Compaction.{Move}
use Rattle.clr_moves.specs.Moves.{goes, move_at}

-- the next plug that goes down and the next one that stays, by their numbers
pub record Order : Type 0 where
  pub going : ℕ
  pub staying : ℕ

-- the first move of this kind from a number on, and the number of moves where none is
pub record IsFirstFrom (going : Bool) (vs : List Move) (start found : ℕ) : Type 0 where
  pub above : start ≤ found
  pub within : found ≤ length vs
  pub is : found < length vs → goes (move_at vs found) ≡ going
  pub none : (j : ℕ) → start ≤ j → j < found → goes (move_at vs j) ≡ not going

-- the next plug of each line, or the number of moves where none is left
pub record IsOrder (vs : List Move) (q : Order) : Type 0 where
  pub going_in : q.going ≤ length vs
  pub staying_in : q.staying ≤ length vs
  pub going_is : q.going < length vs → goes (move_at vs q.going) ≡ true
  pub staying_is : q.staying < length vs → goes (move_at vs q.staying) ≡ false

-- the next number in the line of a move
abbrev pub cursor : Order → Move → ℕ
cursor q v = if goes v then q.going else q.staying

-- move k is still to be placed
abbrev pub IsLeft : List Move → Order → ℕ → Type 0
IsLeft vs q k = cursor q (move_at vs k) ≤ k

-- the number of the plug that is placed next: of the two the one with the lower destination
abbrev pub next_of : List Move → Order → ℕ
next_of vs q =
    if nat_lt q.staying (length vs)
    && (nat_eq q.going (length vs) || nat_lt (move_at vs q.staying).to (move_at vs q.going).to)
    then q.staying else q.going

-- move k is placed, and so it isn't left any more
pub record HasPassed (vs : List Move) (old new : Order) (k : ℕ) : Type 0 where
  pub order : IsOrder vs new
  pub left : (j : ℕ) → j < length vs → IsLeft vs new j → IsLeft vs old j
  pub passed : IsLeft vs new k → ⊥
  pub others : (j : ℕ) → j < length vs → IsLeft vs old j → (j ≡ k → ⊥) → IsLeft vs new j
  pub further : old.going + old.staying < new.going + new.staying
