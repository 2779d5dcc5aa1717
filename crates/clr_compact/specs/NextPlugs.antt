-- The plugs that are placed next, and the lines that give those above them.
use Rattle.std.specs.Prelude.{◌≡◌, ℕ, suc, ◌+◌, ◌<◌, ◌≤◌, Bool, true, false, List, length, drop, take, Option, None}
use Rattle.std.specs.Prelude.{Some}
use Rattle.std.specs.Prelude.{MatchOption, nat_lt, if◌then◌else◌}
use Rattle.clr_types.specs.Segments.{reserved_end}
use Rattle.clr_types.specs.Types.{TypeRow}
use Rattle.clr_heap.specs.View.{HeapView, segment_at}
use Rattle.clr_model.specs.Compaction.{Move}
use Rattle.clr_plugs.specs.BrickEntries.{BricksView}
use Rattle.clr_moves.specs.PlugMoves.{Gives, PlugMovesView}
use Rattle.clr_moves.specs.Moves.{goes, move_at, moved_bytes}
use Rattle.clr_compact.specs.Order.{HasPassed, IsFirstFrom, IsLeft, IsOrder, next_of, Order}
use Rattle.clr_compact.specs.declared.next_plugs.NextPlugs.{NextPlugs}
use Rattle.clr_moves.specs.declared.condemned.Condemned.{Condemned}

-- the plug is that of move k, and its line, which has given it, is to give the moves behind it
pub record IsThere (rows : List TypeRow) (h : HeapView) (bricks : BricksView) (g : Condemned) (vs : List Move)
    (line : PlugMovesView) (k : ℕ) (plug : Move) : Type 0 where
  pub within : k < length vs
  pub is : plug ≡ move_at vs k
  pub segment : plug.start < reserved_end (segment_at h line.segment)
  pub gives : Gives rows h bricks g line (drop (suc k) vs)

-- the plugs rise, from above 0 up to `top`
pub record AreRising (top : ℕ) (vs : List Move) : Type 0 where
  pub low : (k : ℕ) → k < length vs → 0 < (move_at vs k).start
  pub high : (k : ℕ) → k < length vs → (move_at vs k).start < top
  pub rise : (j k : ℕ) → j < k → k < length vs → (move_at vs j).start < (move_at vs k).start

-- a line is to give these moves but for the first ones
pub record GivesFrom (rows : List TypeRow) (h : HeapView) (bricks : BricksView) (g : Condemned) (vs : List Move)
    (start : ℕ) (line : PlugMovesView) : Type 0 where
  pub within : start ≤ length vs
  pub rising : AreRising h.top vs
  pub gives : Gives rows h bricks g line (drop start vs)

-- of the moves that a line was to give this is the first one of a kind, and none where it gives no such move
pub record HasFound (rows : List TypeRow) (h : HeapView) (bricks : BricksView) (g : Condemned) (going : Bool)
    (vs : List Move) (start : ℕ) (line : PlugMovesView) (found : Option Move) : Type 0 where
  pub number : ℕ
  pub first : IsFirstFrom going vs start number
  pub there : MatchOption found (number ≡ length vs) (IsThere rows h bricks g vs line number)

-- the plugs are the next ones of both kinds in this order
pub record AreNext (rows : List TypeRow) (h : HeapView) (bricks : BricksView) (g : Condemned) (vs : List Move)
    (q : Order) (plugs : NextPlugs) : Type 0 where
  pub order : IsOrder vs q
  pub rising : AreRising h.top vs
  pub goer : MatchOption plugs.going (q.going ≡ length vs) (IsThere rows h bricks g vs plugs.goers q.going)
  pub stayer : MatchOption plugs.staying (q.staying ≡ length vs) (IsThere rows h bricks g vs plugs.stayers q.staying)

-- they are the first ones of both kinds: no plug is placed, and so nothing has moved
pub record AreFirst (rows : List TypeRow) (h : HeapView) (bricks : BricksView) (g : Condemned) (vs : List Move)
    (plugs : NextPlugs) : Type 0 where
  pub order : Order
  pub next : AreNext rows h bricks g vs order plugs
  pub left : (k : ℕ) → k < length vs → IsLeft vs order k
  pub bytes : moved_bytes (take order.going vs) ≡ 0

-- whether there is a first plug, and it has the lower destination of two
abbrev pub is_lower : Option Move → Option Move → Bool
is_lower None w = false
is_lower (Some v) None = true
is_lower (Some v) (Some w) = nat_lt v.to w.to

-- the plug that is placed next: of the two the one with the lower destination
abbrev pub next_plug : NextPlugs → Option Move
next_plug plugs = if is_lower plugs.staying plugs.going then plugs.staying else plugs.going

-- the bytes by which a move adds to what has moved
abbrev pub bytes_of : Move → ℕ
bytes_of v = if goes v then v.size else 0

-- the plug that was next in this order is passed over
pub record HavePassed (rows : List TypeRow) (h : HeapView) (bricks : BricksView) (g : Condemned) (vs : List Move)
    (q : Order) (plugs : NextPlugs) : Type 0 where
  pub order : Order
  pub next : AreNext rows h bricks g vs order plugs
  pub passed : HasPassed vs q order (next_of vs q)
  pub bytes : moved_bytes (take order.going vs)
      ≡ moved_bytes (take q.going vs) + bytes_of (move_at vs (next_of vs q))

-- the plug, where there is one and it goes to a place below `room`
abbrev pub landing_below : Option Move → ℕ → Option Move
landing_below None room = None
landing_below (Some v) room = if nat_lt v.to room then Some v else None
