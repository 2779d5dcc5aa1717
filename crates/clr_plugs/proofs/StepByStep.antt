-- A search that goes on step by step.
use Rattle.std.proofs.Common.{◌≡◌, ◌≢◌, ℕ, ◌+◌, ◌-◌, ◌*◌, ◌/◌, ◌^◌, ◌<◌, ◌≤◌, List, refl, sym, subst, arith, ℤ}
use Rattle.std.specs.Int.{cast_signed, w64}
use Rattle.clr_heap.specs.View.{HeapView, IsHeap, word_of}
use Rattle.clr_bricks.specs.Bricks.{entry_at}
use Rattle.clr_plugs.specs.BrickEntries.{BricksView, IsCovered}
use Rattle.clr_plugs.specs.Info.{left_of, right_of}
use Rattle.clr_plugs.specs.Plans.{IsBrickOf, IsPlanned, PlannedPart, plug_starts, root_number}
use Rattle.clr_plugs.specs.Searches.{HasPlugWords, IsFoundFrom, IsGreatestStart, IsInPlan, IsNearestPlug, IsStopIn}
use Rattle.clr_plugs.specs.Searches.{NoneBetween, nearest, still}
use Rattle.clr_plugs.specs.SideBySide.{HasBegun, IsDescent, IsSearching, IsUnderway}
use Rattle.clr_plugs.specs.Trees.{IsBrickTree, starts_in}
use Rattle.clr_plugs.specs.declared.plug_search.PlugSearch.{PlugSearch}
use Rattle.clr_plugs.proofs.Descent.{at_plug, begin_descent, found_in_tree, go_left, go_right, IsAtPlug}
use Rattle.clr_plugs.proofs.Finding.{come_alone, come_can, come_found, part_fits}
use Rattle.clr_plugs.proofs.Nearest.{found_first, found_words, none_between, plug_found}

-- ---- at its begin

module _ (h : HeapView) (bricks : BricksView) (k place : ℕ) (i : IsInPlan h bricks place) where
  pub brick_near : IsBrickOf i.part (place / 4096)
  brick_near = let low = i.low in let high = i.high in (omega (arith, low), omega (arith, high))

  pub brick_covered : IsCovered bricks (place / 4096)
  brick_covered = i.planned.covered (place / 4096) brick_near

  pub brick_fits : IsHeap h → place / 4096 * 4096 + 4096 < 2 ^ 64
  brick_fits heap =
      let fits = part_fits h i.part heap i.planned.lies in let high = i.high in omega (arith, fits, high)

  pub begun : IsHeap h → k ≡ i.part.segment → (root : ℕ) → root ≡ root_number (entry_at bricks (place / 4096))
      → IsSearching h bricks (record {
        place = place;
        segment = k;
        node = root;
        found = 0;
        above = place / 4096 * 4096 + 4096;
      })
  begun heap segment root told some =
      let rooted : root ≢ 0 = omega (arith, some) in
      let can = come_can h bricks i.part i.planned (place / 4096) place brick_near (omega arith) k (place / 4096) root 0
      0 heap segment (still refl refl) told rooted in
      record {
        plan = i;
        segment = segment;
        root = root;
        told = told;
        some = rooted;
        steps = 0;
        descent = begin_descent h k (place / 4096) root place (place / 4096 * 4096 + 4096) 0 can (omega arith);
      }

-- ---- on its way

pub node_begun : (s : PlugSearch) → s.node ≢ 0 → HasBegun s
node_begun s some = omega (arith, some)

pub found_begun : (s : PlugSearch) → s.found ≢ 0 → HasBegun s
found_begun s some = omega (arith, some)

module _ (h : HeapView) (bricks : BricksView) (s : PlugSearch) (u : IsUnderway h bricks s) (some : s.node ≢ 0) where
  pub at_node : IsAtPlug h s.segment (s.place / 4096) u.root s.place (s.place / 4096 * 4096 + 4096) s.found s.above
      s.node 0 u.steps
  at_node = at_plug h s.segment (s.place / 4096) u.root s.place (s.place / 4096 * 4096 + 4096) 0 s.found s.above s.node
      u.steps u.descent some

  pub gone_right : s.place / 4096 * 4096 + (s.node - 1) ≤ s.place → (children : ℕ × ℕ)
      → children ≡ (
        left_of (word_of h) (s.place / 4096 * 4096 + (s.node - 1)),
        right_of (word_of h) (s.place / 4096 * 4096 + (s.node - 1)),
      )
      → IsUnderway h bricks (record {
        place = s.place;
        segment = s.segment;
        node = children.1;
        found = s.place / 4096 * 4096 + (s.node - 1);
        above = s.above;
      })
  gone_right le children both = record {
    plan = u.plan;
    segment = u.segment;
    root = u.root;
    told = u.told;
    some = u.some;
    steps = u.steps + 1;
    descent = go_right h s.segment (s.place / 4096) u.root s.place (s.place / 4096 * 4096 + 4096) 0 s.found s.above
        s.node u.steps u.descent some le children (u.steps + 1) both refl;
  }

  pub gone_left : s.place < s.place / 4096 * 4096 + (s.node - 1) → (children : ℕ × ℕ)
      → children ≡ (
        left_of (word_of h) (s.place / 4096 * 4096 + (s.node - 1)),
        right_of (word_of h) (s.place / 4096 * 4096 + (s.node - 1)),
      )
      → IsUnderway h bricks (record {
        place = s.place;
        segment = s.segment;
        node = children.0;
        found = s.found;
        above = s.place / 4096 * 4096 + (s.node - 1);
      })
  gone_left lt children both = record {
    plan = u.plan;
    segment = u.segment;
    root = u.root;
    told = u.told;
    some = u.some;
    steps = u.steps + 1;
    descent = go_left h s.segment (s.place / 4096) u.root s.place (s.place / 4096 * 4096 + 4096) 0 s.found s.above
        s.node u.steps u.descent some lt children (u.steps + 1) both refl;
  }

-- ---- at its end

module _ (h : HeapView) (bricks : BricksView) (s : PlugSearch) (u : IsUnderway h bricks s) (end : s.node ≡ 0)
    (some : s.found ≢ 0) where
  last_descent : IsDescent h s.segment (s.place / 4096) u.root s.place (s.place / 4096 * 4096 + 4096) s.found s.above 0
      0 u.steps
  last_descent = let P : ℕ → Type 0 = λ n. IsDescent h s.segment (s.place / 4096) u.root s.place
      (s.place / 4096 * 4096 + 4096) s.found s.above n 0 u.steps in subst P end u.descent

  module _ (part : PlannedPart) (plan : IsPlanned h bricks part) (low : part.low ≤ s.place) (high : s.place < part.high)
    where
      near : IsBrickOf part (s.place / 4096)
      near = (omega (arith, low), omega (arith, high))

      end_greatest : IsGreatestStart (plug_starts part.plugs) s.place s.found
      end_greatest = found_first (plug_starts part.plugs) s.place s.found
          (come_found h bricks part plan (s.place / 4096) s.place near (omega arith) (s.place / 4096) u.root s.found 0 0
          (still refl refl) u.told u.some
          (λ xs t. (found_in_tree h s.segment (s.place / 4096) u.root s.place (s.place / 4096 * 4096 + 4096) 0 s.found
          s.above u.steps last_descent xs t).0)) some

      end_alone : NoneBetween (starts_in (s.place / 4096) (plug_starts part.plugs)) s.place s.above
      end_alone = come_alone h bricks part plan (s.place / 4096) s.place near (omega arith) (s.place / 4096) u.root
          s.above 0 0 (still refl refl) u.told u.some
          (λ xs t. (found_in_tree h s.segment (s.place / 4096) u.root s.place (s.place / 4096 * 4096 + 4096) 0 s.found
          s.above u.steps last_descent xs t).1)

      pub end_plug : (distance : ℤ) → distance ≡ cast_signed w64 (word_of h (s.found - 24))
          → IsNearestPlug part.plugs s.place (record { start = s.found; distance = distance; stop = s.above })
      end_plug distance read =
          let within : IsStopIn (s.place / 4096) s.place s.above = (last_descent.limit, last_descent.past) in
          plug_found h bricks part plan s.place s.found s.above distance some end_greatest read
          (none_between (plug_starts part.plugs) s.place s.above end_alone within) within

  pub end_words : IsHeap h → HasPlugWords h s.segment s.found
  end_words heap =
      let i = u.plan in
      let P : ℕ → Type 0 = λ k. HasPlugWords h k s.found in
      subst P (sym u.segment) (found_words h bricks s.place s.found heap i some
      (end_greatest i.part i.planned i.low i.high))
