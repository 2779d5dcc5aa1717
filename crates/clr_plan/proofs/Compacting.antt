-- A plan of the heap is the plan of the machine's compaction.
use Rattle.std.proofs.lemmas.List.{append-nil}
use Rattle.std.proofs.Common.{◌≡◌, ℕ, ◌+◌, ◌<◌, ◌≤◌, ◌⊎◌, inl, inr, max, List, [], ◌∷◌, ◌++◌, filter, refl, sym, ap}
use Rattle.std.proofs.Common.{ap₂, subst, ◌∙◌, arith, Bool, true, false, ◌==◌, nat_le, if◌then◌else◌, MatchBool}
use Rattle.std.proofs.lemmas.Bool.{eq-eqb, ne_eqb, le-leb, lt-leb, cases_eq}
use Rattle.std.proofs.lemmas.List.Elements.{filter-append}
use Rattle.clr_types.specs.Rising.{IsIn, first, later, IsRisingBy}
use Rattle.clr_types.specs.Types.{TypeRow}
use Rattle.clr_types.specs.Segments.{ephemeral, first_place, is_small_or_ephemeral, Layout}
use Rattle.clr_types.specs.declared.segment.SegInfo.{SegInfo}
use Rattle.clr_types.proofs.ChangedLists.{append_left}
use Rattle.clr_types.proofs.RisingLists.{all_at}
use Rattle.clr_heap.specs.View.{first_of, HeapView}
use Rattle.clr_view.specs.View.{layout_in}
use Rattle.clr_model.specs.Sweep.{Survivor}
use Rattle.clr_model.specs.Compaction.{first_pointer, IsCompacted, IsDestination, Move}
use Rattle.clr_model.specs.Compaction.{Placed, Plug, plugs_of, plugs_of_generation, raised_past_pins}
use Rattle.clr_model.specs.Compaction.{survivors_in}
use Rattle.clr_plan.specs.Compactions.{compacted_layout, small_heap_plugs}
use Rattle.clr_plan.specs.Plans.{CanPlanHeap, condemned_plugs, HasPlannedHeap, older_plugs, parts_in, young_plugs}
use Rattle.clr_plan.proofs.Pins.{front_rises}
use Rattle.clr_plan.proofs.YoungParts.{filter-none}

pub filter-whole : {X : Type 0} (test : X → Bool) (xs : List X) → ((x : X) → IsIn x xs → test x ≡ true) → filter test xs
    ≡ xs
filter-whole test [] on = refl
filter-whole test (x ∷ xs) on = ap (λ b. if b then x ∷ filter test xs else filter test xs) (on x first)
    ∙ ap (λ ys. x ∷ ys) (filter-whole test xs (λ y i. on y (later i)))

-- ---- placed in two steps

pub record IsPlacedInTwo (segments : List SegInfo) (all : List Plug) (pointer : ℕ) (ps qs : List Plug) (vs : List Move)
    (after : ℕ) : Type 0 where
  pub mid : ℕ
  pub low : List Move
  pub high : List Move
  pub whole : vs ≡ low ++ high
  pub before : Placed segments all pointer ps low mid
  pub behind : Placed segments all mid qs high after

placed-split : (segments : List SegInfo) (all : List Plug) (pointer : ℕ) (ps qs : List Plug) (vs : List Move)
    (after : ℕ) → Placed segments all pointer (ps ++ qs) vs after → IsPlacedInTwo segments all pointer ps qs vs after
placed-split segments all pointer [] qs vs after h = record {
  mid = pointer;
  low = [];
  high = vs;
  whole = refl;
  before =
      refl;
  behind = h;
}
placed-split segments all pointer (p ∷ ps) qs [] after h = absurd h
placed-split segments all pointer (p ∷ ps) qs (v ∷ vs) after h =
    step (λ pointer' g. placed-split segments all pointer' ps qs vs after g) p.pinned refl h.2
  where
    step : ((pointer' : ℕ) → Placed segments all pointer' (ps ++ qs) vs after → IsPlacedInTwo segments all pointer' ps
        qs vs after) → (b : Bool) → p.pinned ≡ b
        → MatchBool b ((v.to ≡ p.start) × Placed segments all pointer (ps ++ qs) vs after)
        (IsDestination segments all pointer p.size v.to × Placed segments all (v.to + v.size) (ps ++ qs) vs after)
        → IsPlacedInTwo segments all pointer (p ∷ ps) qs (v ∷ vs) after
    step more true e g =
        let r = more pointer g.1 in
        record {
          mid = r.mid;
          low = v ∷ r.low;
          high = r.high;
          whole = ap (λ ws. v ∷ ws) r.whole;
          before = (
            h.0,
            h.1,
            subst (λ b. MatchBool b ((v.to ≡ p.start) × Placed segments all pointer ps r.low r.mid)
                (IsDestination segments all pointer p.size v.to × Placed segments all (v.to + v.size) ps r.low r.mid))
                (sym e) (g.0, r.before),
          );
          behind = r.behind;
        }
    step more false e g =
        let r = more (v.to + v.size) g.1 in
        record {
          mid = r.mid;
          low = v ∷ r.low;
          high = r.high;
          whole = ap (λ ws. v ∷ ws) r.whole;
          before = (
            h.0,
            h.1,
            subst (λ b. MatchBool b ((v.to ≡ p.start) × Placed segments all pointer ps r.low r.mid)
                (IsDestination segments all pointer p.size v.to × Placed segments all (v.to + v.size) ps r.low r.mid))
                (sym e) (g.0, r.before),
          );
          behind = r.behind;
        }

-- ---- generations

-- plugs of generations 2 and 1 that fall as they rise
falling-split : (ps : List Plug) → IsRisingBy (λ (p : Plug). p.start) ps → ((p : Plug) → IsIn p ps → (1 ≤ p.generation)
    × (p.generation ≤ 2)) → ((p q : Plug) → IsIn p ps → IsIn q ps → p.start < q.start → q.generation ≤ p.generation)
    → ps ≡ plugs_of_generation 2 ps ++ plugs_of_generation 1 ps
falling-split [] r ages falls = refl
falling-split (p ∷ ps) r ages falls = go (cases_eq p.generation 2) (falling-split ps r.1 (λ q i. ages q (later i))
    (λ q w i j. falls q w (later i) (later j)))
  where
    two : List Plug
    two = filter (λ q. q.generation == 2) ps

    one : List Plug
    one = filter (λ q. q.generation == 1) ps

    go : (p.generation ≡ 2) ⊎ (p.generation ≡ 2 → ⊥) → ps ≡ filter (λ q. q.generation == 2) ps
        ++ filter (λ q. q.generation == 1) ps → p ∷ ps ≡ plugs_of_generation 2 (p ∷ ps) ++ plugs_of_generation 1
        (p ∷ ps)
    go (inl e) more =
        ap (λ qs. p ∷ qs) more
        ∙ sym (ap₂ (λ (a b : Bool). (if a then p ∷ filter (λ q. q.generation == 2) ps else filter
        (λ q. q.generation == 2) ps) ++ (if b then p ∷ filter (λ q. q.generation == 1) ps else filter
        (λ q. q.generation == 1) ps)) (eq-eqb p.generation 2 e) (ne_eqb p.generation 1 (λ f. absurd (omega arith))))
    go (inr ne) more =
        let (low, high) = ages p first in
        let is_one : p.generation ≡ 1 = omega arith in
        let none : filter (λ q. q.generation == 2) ps ≡ [] = filter-none (λ q. q.generation == 2) ps
        (λ q i. ne_eqb q.generation 2 (λ e. let f : q.generation ≤ p.generation = falls p q first (later i)
        (all_at (λ (w : Plug). p.start < w.start) i r.0) in absurd (omega arith))) in
        let whole : filter (λ q. q.generation == 1) ps ≡ ps = filter-whole (λ q. q.generation == 1) ps
        (λ q i. let f : q.generation ≤ p.generation = falls p q first (later i)
        (all_at (λ (w : Plug). p.start < w.start) i r.0) in let (a, b) = ages q (later i) in
        eq-eqb q.generation 1 (omega arith)) in
        sym (ap₂ (λ (a b : Bool). (if a then p ∷ filter (λ q. q.generation == 2) ps else filter (λ q. q.generation == 2)
        ps) ++ (if b then p ∷ filter (λ q. q.generation == 1) ps else filter (λ q. q.generation == 1) ps))
        (ne_eqb p.generation 2 ne) (eq-eqb p.generation 1 is_one)
        ∙ ap₂ (λ (xs ys : List Plug). xs ++ p ∷ ys) none whole)

module _ (rows : List TypeRow) (h : HeapView) (g e : ℕ) (can : CanPlanHeap rows h g e)
    (old_ages : (p : Plug) → IsIn p (older_plugs rows h g e) → 1 ≤ p.generation) (young_ages : (p : Plug)
    → IsIn p (young_plugs rows h e) → p.generation ≡ 0)
    (moves : List Move) (start1 start0 : ℕ) (is : HasPlannedHeap rows h g e moves start1 start0)
  where
    abbrev layout : Layout
    layout = layout_in rows h

    abbrev all : List Plug
    all = condemned_plugs rows h g e

    abbrev older : List Plug
    older = older_plugs rows h g e

    abbrev young : List Plug
    young = young_plugs rows h e

    of-age : (n : ℕ) → 1 ≤ n → plugs_of_generation n all ≡ plugs_of_generation n older
    of-age n l =
        filter-append (λ (p : Plug). p.generation == n) older young
        ∙ ap (λ ps. filter (λ (p : Plug). p.generation == n) older ++ ps) (filter-none (λ (p : Plug). p.generation == n)
        young (λ p i. ne_eqb p.generation n (λ q. let z = young_ages p i in absurd (omega arith))))
        ∙ append-nil (filter (λ (p : Plug). p.generation == n) older)

    of-zero : plugs_of_generation 0 all ≡ young
    of-zero =
        filter-append (λ (p : Plug). p.generation == 0) older young
        ∙ ap₂ (λ (ps qs : List Plug). ps ++ qs) (filter-none (λ (p : Plug). p.generation == 0) older
        (λ p i. ne_eqb p.generation 0 (λ q. let z = old_ages p i in absurd (omega arith))))
        (filter-whole (λ (p : Plug). p.generation == 0) young (λ p i. eq-eqb p.generation 0 (young_ages p i)))

    olds : filter (λ (p : Plug). nat_le 1 p.generation) all ≡ older
    olds =
        filter-append (λ (p : Plug). nat_le 1 p.generation) older young
        ∙ ap₂ (λ (ps qs : List Plug). ps ++ qs) (filter-whole (λ (p : Plug). nat_le 1 p.generation) older
        (λ p i. le-leb 1 p.generation (old_ages p i)))
        (filter-none (λ (p : Plug). nat_le 1 p.generation) young (λ p i. let z = young_ages p i in
        lt-leb 1 p.generation (omega arith)))
        ∙ append-nil older

    older-split : older ≡ plugs_of_generation 2 all ++ plugs_of_generation 1 all
    older-split =
        falling-split older (front_rises older young can.condemned.plugs.rise)
        (λ p i. (
          old_ages p i,
          let a : p.generation ≤ g = can.condemned.ages p (append_left young i) in
              let l = can.least in omega arith,
        ))
        (λ p q i j l. can.condemned.older_lower p q (append_left young i) (append_left young j) l)
        ∙ sym (ap₂ (λ (ps qs : List Plug). ps ++ qs) (of-age 2 (omega arith)) (of-age 1 (omega arith)))

    abbrev pointer : ℕ
    pointer = first_pointer layout g (parts_in rows h g)

    in-two : IsPlacedInTwo (parts_in rows h g) all pointer (plugs_of_generation 2 all) (plugs_of_generation 1 all)
        is.older_moves is.after1
    in-two = placed-split (parts_in rows h g) all pointer (plugs_of_generation 2 all) (plugs_of_generation 1 all)
        is.older_moves is.after1 (subst (λ ps. Placed (parts_in rows h g) all pointer ps is.older_moves is.after1)
        older-split is.placed1)

    first-is : first_of h e ≡ first_place (ephemeral layout)
    first-is = ap first_place can.young

    moves-are : moves ≡ (in-two.low ++ in-two.high) ++ is.young_moves
    moves-are = is.moves_are ∙ ap (λ vs. vs ++ is.young_moves) in-two.whole

    compacts : (kept : List Survivor) → all ≡ plugs_of (survivors_in is_small_or_ephemeral layout kept)
        → IsCompacted layout g kept moves (compacted_layout layout g all moves start1 start0)
    compacts kept same = record {
      after2 = in-two.mid;
      after1 = is.after1;
      after0 = is.after0;
      moves2 = in-two.low;
      moves1 = in-two.high;
      moves0 = is.young_moves;
      segments = parts_in rows h g;
      segments_are = refl;
      plugs = all;
      plugs_are = same;
      placed2 = in-two.before;
      placed1 = in-two.behind;
      start1 = is.start1_is ∙ ap₂ (λ (ps : List Plug) (n : ℕ). if g == 0 then h.start1 else raised_past_pins ps
          (max is.after1 n)) (sym olds) first-is;
      placed0 = subst (λ ps. Placed (parts_in rows h g) all (if g == 0 then is.after1 else start1) ps is.young_moves
          is.after0) (sym of-zero) is.placed0;
      start0 = is.start0_is;
      moves_are = moves-are;
      ends = refl;
      free = refl;
      rests = refl;
      top = refl;
    }

    -- THE PLAN is that of the machine's compaction
    pub plans : (kept : List Survivor) → small_heap_plugs layout kept ≡ all → IsCompacted layout g kept moves
        (compacted_layout layout g (small_heap_plugs layout kept) moves start1 start0)
    plans kept same = subst (λ ps. IsCompacted layout g kept moves (compacted_layout layout g ps moves start1 start0))
        (sym same) (compacts kept (sym same))
