-- The part of the ephemeral segment before it is laid: its places, its older plugs, and the room for their pins.
use Rattle.std.proofs.Common.{◌≡◌, ℕ, ◌+◌, ◌-◌, ◌/◌, ◌%◌, ◌≤◌, List, [], ◌++◌, map, sym, ap, ap₂, subst, ◌∙◌, arith}
use Rattle.std.proofs.Common.{Bool, true, false, if◌then◌else◌, ◌==◌, nat_lt}
use Rattle.clr_types.specs.Types.{TypeRow}
use Rattle.clr_types.specs.Segments.{ephemeral, generation, reserved_end, stands_in}
use Rattle.clr_types.specs.declared.segment.SegInfo.{SegInfo}
use Rattle.clr_heap.specs.View.{first_of, frame, HeapView, IsHeap, last_of, segment_at}
use Rattle.clr_heap.proofs.Framing.{bounded_at, lawful_at}
use Rattle.clr_view.specs.View.{layout_in}
use Rattle.clr_model.specs.Compaction.{first_pointer, Plug}
use Rattle.clr_pinq.specs.Queue.{QueueView}
use Rattle.clr_plugs.specs.BrickEntries.{BricksView, IsCovered}
use Rattle.clr_plugs.specs.Plans.{IsBrickOf, IsPart, PlannedPart}
use Rattle.clr_moves.specs.Moves.{part_of}
use Rattle.clr_plan.specs.Heaps.{CanLayEphemeral, opened_below, plugs_below}
use Rattle.clr_plan.specs.LaidParts.{pushes_for}
use Rattle.clr_plan.specs.Parts.{Around, CanPlan, plugs_around}
use Rattle.clr_plan.specs.Planned.{pinned_count}
use Rattle.clr_plan.specs.Plans.{CanPlanHeap, condemned_plugs, old_part, parts_in, young_plugs}
use Rattle.clr_plan.specs.Scans.{plugs_between, survivors_between}
use Rattle.clr_plan.specs.States.{state}
use Rattle.clr_plan.specs.declared.pointer.Pointer.{Pointer}
use Rattle.clr_plan.proofs.Ages.{older-one, plugs-are-of, start-order}
use Rattle.clr_plan.proofs.Beginning.{among-at, plugs-lie, start-is, young-small}
use Rattle.clr_plan.proofs.Covering.{brick-there}
use Rattle.clr_plan.proofs.PushCount.{pinned-append, pushes-aged}
use Rattle.clr_plan.proofs.Reaching.{around, can-plan}
use Rattle.clr_moves.specs.declared.condemned.Condemned.TheVariants.{Generations}

-- no place is older than generation 2
age-most : (h : HeapView) (x : ℕ) → generation (frame h) x ≤ 2
age-most h x = go (stands_in (ephemeral (frame h)) x) (nat_lt x h.start1) (nat_lt x h.start0)
  where
    go : (a b c : Bool) → (if a then (if b then 2 else (if c then 1 else 0)) else 2) ≤ 2
    go false b c = omega arith
    go true true c = omega arith
    go true false true = omega arith
    go true false false = omega arith

-- The parts below that of the ephemeral segment are laid, and this one goes from `low` by `start0` to `end`.
pub record Setting : Type 0 where
  pub rows : List TypeRow
  pub old : HeapView
  pub now : HeapView
  pub bricks0 : BricksView
  pub bricks : BricksView
  pub queue0 : QueueView
  pub queue : QueueView
  pub g : ℕ
  pub e : ℕ
  pub low : ℕ
  pub start0 : ℕ
  pub end : ℕ
  pub from : Pointer
  pub s : CanLayEphemeral rows (state old bricks0 queue0) (state now bricks queue) g e low from
  pub heap : IsHeap now
  pub zero-is : start0 ≡ old.start0
  pub end-is : end ≡ last_of old e

-- as the heap tells the boundaries and the segment
abbrev pub setting_of : (rows : List TypeRow) (old now : HeapView) (bricks0 bricks : BricksView)
    (queue0 queue : QueueView) (g e low : ℕ) (from : Pointer)
    → CanLayEphemeral rows (state old bricks0 queue0) (state now bricks queue) g e low from → IsHeap now
    → (bounds : ℕ × ℕ) → bounds ≡ (now.start1, now.start0) → (info : SegInfo) → info ≡ segment_at now e → Setting
setting_of rows old now bricks0 bricks queue0 queue g e low from s heap bounds same info is = record {
  rows = rows;
  old = old;
  now = now;
  bricks0 = bricks0;
  bricks = bricks;
  queue0 = queue0;
  queue = queue;
  g = g;
  e = e;
  low = low;
  start0 = bounds.1;
  end = info.end;
  from = from;
  s = s;
  heap = heap;
  zero-is = ap (λ (b : ℕ × ℕ). b.1) same ∙ ap (λ (h : HeapView). h.start0) s.laid.words.shape.others;
  end-is = ap (λ (t : SegInfo). t.end) is ∙ ap (λ (h : HeapView). last_of h e) s.laid.words.shape.others;
}

module _ (setting : Setting) where
  open setting use {rows, old, now, bricks0, bricks, queue0, queue, g, e, low, start0, end, from, s, heap, zero-is}
  open setting use {end-is}

  abbrev pub can : CanPlanHeap rows old g e
  can = s.can

  abbrev pub starts : List ℕ
  starts = map (λ q. q.start) (plugs_below rows old g e e)

  abbrev pub free : List ℕ
  free = opened_below rows old g e e

  abbrev pub pointer : ℕ
  pointer = first_pointer (layout_in rows old) g (parts_in rows old g)

  abbrev pub older : List Plug
  older = plugs_between rows old e low start0

  abbrev pub young : List Plug
  young = plugs_between rows old e start0 end

  pub older-same : old_part rows old g e ≡ older
  older-same = ap₂ (plugs_between rows old e) (sym s.low_is) (sym zero-is)

  pub young-same : young_plugs rows old e ≡ young
  young-same = ap₂ (plugs_between rows old e) (sym zero-is) (sym end-is)

  -- ---- places

  pub record Order : Type 0 where
    pub first : first_of old e ≤ low
    pub middle : low ≤ start0
    pub last : start0 ≤ end
    pub high : end ≤ reserved_end (segment_at old e)
    pub base : (segment_at old e).base % 4096 ≡ 0
    pub lowest : 0x10000000 ≤ (segment_at old e).base
    pub most : (segment_at old e).reserved ≤ 67108864

  pub order : Order
  order =
      let (a, b, c) = start-order rows old g e can in
      let lawful = lawful_at old e can.heap can.inside in
      go (g == 0) (g == 1) (start-is rows old g e can) a b c lawful.high lawful.base lawful.lowest
      (bounded_at old e can.laid.bounded can.inside (young-small rows old g e can))
    where
      go : (x y : Bool)
          → part_of old (Generations g) e ≡ (if x then old.start0 else (if y then old.start1 else first_of old e))
          → first_of old e ≤ old.start1 → old.start1 ≤ old.start0 → old.start0 ≤ last_of old e
          → last_of old e ≤ reserved_end (segment_at old e)
          → (segment_at old e).base % 4096 ≡ 0 → 0x10000000 ≤ (segment_at old e).base
          → (segment_at old e).reserved ≤ 67108864 → Order
      go true y q a b c d base lowest most = let l = s.low_is in
          record {
            first = omega (arith, q, l, a, b);
            middle = omega (arith, q, l, zero-is);
            last = omega (arith, zero-is, end-is, c);
            high = omega (arith, end-is, d);
            base = base;
            lowest = lowest;
            most = most;
          }
      go false true q a b c d base lowest most = let l = s.low_is in
          record {
            first = omega (arith, q, l, a, b);
            middle = omega (arith, q, l, zero-is, b);
            last = omega (arith, zero-is, end-is, c);
            high = omega (arith, end-is, d);
            base = base;
            lowest = lowest;
            most = most;
          }
      go false false q a b c d base lowest most = let l = s.low_is in
          record {
            first = omega (arith, q, l);
            middle = omega (arith, q, l, zero-is, a, b);
            last = omega (arith, zero-is, end-is, c);
            high = omega (arith, end-is, d);
            base = base;
            lowest = lowest;
            most = most;
          }

  pub low-covered : IsCovered bricks (low / 4096 - 1)
  low-covered =
      let o = order in
      let a = o.first in
      let b = o.middle in
      let c = o.last in
      let d = o.high in
      let base = o.base in
      let lowest = o.lowest in
      brick-there old e can.heap can.inside bricks0 bricks s.bricks_of s.laid.spans_are (low / 4096 - 1)
      (omega (arith, a, base, lowest)) (omega (arith, a, b, c, d, base, lowest))

  -- ---- the older plugs

  abbrev pub older_around : Around
  older_around = around rows old (parts_in rows old g) (condemned_plugs rows old g e) (plugs-lie rows old g e can)
      queue.entries pointer [] (plugs_below rows old g e e) s.moves from e (part_of old (Generations g) e) old.start0
      (young_plugs rows old e) s.reached

  pub older-plan : CanPlan older_around rows old queue.entries from e low start0
  older-plan =
      subst (λ n. CanPlan older_around rows old queue.entries from e n start0) (sym s.low_is)
      (subst (λ n. CanPlan older_around rows old queue.entries from e (part_of old (Generations g) e) n) (sym zero-is)
      (can-plan rows old (parts_in rows old g) (condemned_plugs rows old g e) (plugs-lie rows old g e can)
      queue.entries pointer [] (plugs_below rows old g e e) s.moves from e (part_of old (Generations g) e) old.start0
      (young_plugs rows old e) s.reached
      (among-at rows old g e can from e (omega arith) (young-small rows old g e can) s.order s.reached.high s.either)
      can.older_scan))

  older-split : condemned_plugs rows old g e ≡ plugs_around older_around older
  older-split = s.reached.split ∙ ap (λ ps. plugs_below rows old g e e ++ (ps ++ young_plugs rows old e)) older-same

  -- what is left serves for all pins
  pub room : pinned_count older + pinned_count young + 4 ≤ queue.spare
  room =
      let all = ap pinned_count older-split ∙ pinned-append (plugs_below rows old g e e)
      (older ++ young_plugs rows old e) in
      let two = pinned-append older (young_plugs rows old e) in
      let same = ap pinned_count young-same in
      let left = s.left in
      let spare = s.spare in
      omega (arith, all, two, same, left, spare)

  pub older-few : (last : ℕ) → pushes_for last (first_of old e) low older ≤ pinned_count older + 2
  older-few last =
      let o = order in
      let a = o.first in
      let n = pushes-aged (segment_at old e).base 1 2 last (first_of old e) low
      (survivors_between rows old e low start0) (omega arith)
      (plugs-are-of rows old g e can older_around queue.entries from e low start0 older-plan older-split 1 2
      (λ x l u. (older-one rows old g e can x (omega (arith, a, l)) (omega (arith, u, zero-is)), age-most old x)))
      in
      omega (arith, n)

  abbrev pub part : PlannedPart
  part = record { segment = e; low = low; high = end; plugs = [] }

  pub part-lies : IsPart now part
  part-lies =
      let o = order in
      let a = o.first in
      let d = o.high in
      let same : IsPart (record old { memories = now.memories }) part = record {
        segment = can.inside;
        low = a;
        high = d;
        spaced = tt;
        places = λ x i. elim i [ ];
      } in
      subst (λ v. IsPart v part) (sym s.laid.words.shape.others) same

  pub part-covered : (brick : ℕ) → IsBrickOf part brick → IsCovered bricks brick
  part-covered brick is =
      let o = order in
      let a = o.first in
      let d = o.high in
      let base = o.base in
      let u = is.0 in
      let l = is.1 in
      brick-there old e can.heap can.inside bricks0 bricks s.bricks_of s.laid.spans_are brick
      (omega (arith, a, base, u)) (omega (arith, d, l))
