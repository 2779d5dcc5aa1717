-- A line comes to a segment, and gives its plugs.
use Rattle.std.proofs.Common.{◌≡◌, ℕ, suc, ◌+◌, ◌-◌, ◌/◌, ◌<◌, true, false, Bool, List, [], ◌∷◌, ◌++◌}
use Rattle.std.proofs.Common.{length, refl, ap, sym, ◌∙◌, subst, arith, Option}
use Rattle.std.proofs.Common.{if◌then◌else◌}
use Rattle.clr_types.specs.Types.{TypeRow}
use Rattle.clr_heap.specs.View.{HeapView, IsHeap, last_of, segment_at}
use Rattle.clr_model.specs.Compaction.{Move}
use Rattle.clr_plugs.specs.BrickEntries.{BricksView}
use Rattle.clr_plugs.specs.Cursors.{AreLeft, starts_between}
use Rattle.clr_plugs.specs.Plans.{past_bricks, PlannedPlug, plug_starts}
use Rattle.clr_plugs.proofs.Walking.{walk_begins, walk_whole}
use Rattle.clr_moves.proofs.SegmentsBelow.{some_segments}
use Rattle.clr_moves.specs.PlugMoves.{CanEnter, CanRead, Gives, HasRead, IsAtHand, PlugMovesView}
use Rattle.clr_moves.specs.Moves.{part_of, takes}
use Rattle.clr_moves.specs.Told.{IsPartPlanned, moves_at, moves_from, moves_of, TellMoves}
use Rattle.clr_moves.specs.declared.condemned.Condemned.{Condemned}

-- ---- entering a segment

module _ (rows : List TypeRow) (h : HeapView) (bricks : BricksView) (g : Condemned) (line : PlugMovesView)
    (vs : List Move) (can : CanEnter rows h bricks g line vs) where
  split_moves : vs ≡ moves_at h g can.parts can.lasts line.segment
      ++ moves_from h g can.parts can.lasts (suc line.segment) (length h.segments - suc line.segment)
  split_moves =
      let within = can.within in
      let n : length h.segments - line.segment ≡ suc (length h.segments - suc line.segment) = omega arith in
      can.moves ∙ ap (λ (m : ℕ). moves_from h g can.parts can.lasts line.segment m) n

  -- a segment without a part is passed over
  pub entered_none : takes g (segment_at h line.segment) ≡ false → (now : PlugMovesView) → now.segment ≡ line.segment
      → now.start ≡ 0 → Gives rows h bricks g now vs
  entered_none off now same start =
      let P : ℕ → Type 0 = λ n.
      Gives rows h bricks g (record { segment = n; cursor = now.cursor; start = now.start; to = now.to }) vs in
      let rest = moves_from h g can.parts can.lasts (suc line.segment) (length h.segments - suc line.segment) in
      subst P (sym same) (record {
        heap = can.heap;
        part = can.parts line.segment;
        last = 0;
        left = [];
        parts = can.parts;
        lasts = can.lasts;
        within = can.within;
        at_hand = start;
        above = λ t low high takes_it. can.each t (omega (arith, low)) high takes_it;
        moves = split_moves ∙ ap (λ (b : Bool). (if b then moves_of (can.parts line.segment).plugs
            (can.lasts line.segment) else []) ++ rest) off;
      })

  module _ (on : takes g (segment_at h line.segment) ≡ true) where
    planned : IsPartPlanned rows h bricks g line.segment (can.parts line.segment) (can.lasts line.segment)
    planned = can.each line.segment (omega arith) can.within on

    -- the cursor before the first plug of the segment's part
    pub enter_can : (low high : ℕ) → low ≡ part_of h g line.segment → high ≡ last_of h line.segment
        → CanRead h bricks (record { at_hand = []; brick = low / 4096; past = (high + 4095) / 4096 })
        (can.parts line.segment) (can.parts line.segment).plugs
    enter_can low high low_is high_is =
        let part = can.parts line.segment in
        let b : part.low / 4096 ≡ low / 4096 = ap (λ (n : ℕ). n / 4096) (planned.low ∙ sym low_is) in
        let e : past_bricks part ≡ (high + 4095) / 4096 =
        ap (λ (n : ℕ). (n + 4095) / 4096) (planned.high ∙ sym high_is) in
        let plan = planned.planned in
        let P : ℕ → ℕ → Type 0 = λ n m. AreLeft h bricks n m in
        let left = walk_begins h bricks part can.heap plan in
        let left2 = subst (λ (n : ℕ). P n (past_bricks part)) b left in
        record {
          heap = can.heap;
          lies = plan.lies;
          among = λ p i. i;
          left = subst (λ (m : ℕ). P (low / 4096) m) e left2;
          tell = λ i from to. plan.entries i
              (let z = planned.low in let x = planned.high in
              (omega (arith, from, low_is, z), omega (arith, to, high_is, x)))
              (omega (arith, to, e));
          rest = sym (ap (λ (n : ℕ). starts_between n ((high + 4095) / 4096) (plug_starts part.plugs)) b)
              ∙ sym (ap (λ (m : ℕ). starts_between (part.low / 4096) m (plug_starts part.plugs)) e)
              ∙ walk_whole h part plan.lies;
          told = plan.told;
          down = planned.down;
        }

    -- its first plug is at hand
    pub entered_part : (now : PlugMovesView) (end : Option ℕ) → now.segment ≡ line.segment
        → HasRead h bricks now (can.parts line.segment) (can.parts line.segment).plugs end
        → Gives rows h bricks g now vs
    entered_part now end same read =
        let part = can.parts line.segment in
        let last = can.lasts line.segment in
        let at : PlugMovesView =
        record { segment = line.segment; cursor = now.cursor; start = now.start; to = now.to } in
        let P : ℕ → Type 0 = λ n.
        Gives rows h bricks g (record { segment = n; cursor = now.cursor; start = now.start; to = now.to }) vs in
        let rest = moves_from h g can.parts can.lasts (suc line.segment) (length h.segments - suc line.segment) in
        subst P (sym same) (record {
          heap = can.heap;
          part = part;
          last = last;
          left = part.plugs;
          parts = can.parts;
          lasts = can.lasts;
          within = can.within;
          at_hand = go part.plugs refl read;
          above = λ t low high takes_it. can.each t (omega (arith, low)) high takes_it;
          moves = split_moves ∙ ap (λ (b : Bool). (if b then moves_of part.plugs last else []) ++ rest) on;
        })
      where
        go : (ps : List PlannedPlug) → (can.parts line.segment).plugs ≡ ps
            → HasRead h bricks now (can.parts line.segment) ps end
            → IsAtHand rows h bricks
            (record { segment = line.segment; cursor = now.cursor; start = now.start; to = now.to })
            (can.parts line.segment) (can.lasts line.segment) ps
        go [] e read = read.0
        go (p ∷ ps) e read = record {
          segment = planned.segment;
          given = [];
          split = e;
          read = record { start = read.1.start; to = read.1.to; others = read.1.others };
          run = λ qs q is. planned.run qs q (e ∙ is);
        }

-- ---- before all segments

-- the plans of all parts are to be given from the first segment on
pub enter_first : (rows : List TypeRow) (h : HeapView) (bricks : BricksView) (g : Condemned) (line : PlugMovesView)
    (vs : List Move) → IsHeap h → TellMoves rows h bricks g vs → line.segment ≡ 0 → CanEnter rows h bricks g line vs
enter_first rows h bricks g line vs heap tell zero =
    let P : ℕ → Type 0 = λ n.
    CanEnter rows h bricks g (record { segment = n; cursor = line.cursor; start = line.start; to = line.to }) vs in
    subst P (sym zero) (record {
      heap = heap;
      parts = tell.parts;
      lasts = tell.lasts;
      within = some_segments h heap;
      each = λ t low high takes_it. tell.each t high takes_it;
      moves = tell.moves ∙ ap (λ (n : ℕ). moves_from h g tell.parts tell.lasts 0 n) (omega arith);
    })
