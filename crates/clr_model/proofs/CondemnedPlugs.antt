-- The plugs of condemned parts, from the oldest to the youngest.
use Rattle.std.proofs.Common.{◌≡◌, ℕ, ◌<◌, ◌≤◌, ◌⊎◌, inl, inr, List, ◌++◌, ap, arith, true, ◌==◌}
use Rattle.std.proofs.lemmas.Bool.{cases_order, eqb-true, eq-eqb}
use Rattle.clr_types.specs.Rising.{IsIn, IsRisingBy}
use Rattle.clr_model.specs.Sweep.{part_start}
use Rattle.clr_model.specs.Compaction.{Plug, plugs_of_generation, first_pointer}
use Rattle.clr_types.specs.declared.segment.SegInfo.{SegInfo}
use Rattle.clr_types.specs.Segments.{Layout, first_place, reserved_end, ephemeral, same_kind}
use Rattle.clr_types.specs.declared.segment.SegKind.TheVariants.{Ephemeral}
use Rattle.clr_model.proofs.PlugRoom.{ArePlugs, one_plug}
use Rattle.clr_model.proofs.PlugWalk.{AreInLine}
use Rattle.clr_types.proofs.ChangedLists.{append_left, into_filter, out_of_filter}
use Rattle.clr_types.proofs.ListMembers.{rising_append, in_append, append_right, filter-rises}
use Rattle.clr_model.proofs.PlacedPlugs.{in_line}
use Rattle.clr_model.proofs.FirstPointer.{AreStarts}

-- the plugs of condemned parts, and the segments that take part, by rising base
pub record AreCondemned (layout : Layout) (g : ℕ) (segments : List SegInfo) (all : List Plug) : Type 0 where
  pub plugs : ArePlugs segments all
  pub starts : AreStarts segments all (part_start layout g) (first_pointer layout g segments)
  pub least : g ≤ 2
  pub ages : (p : Plug) → IsIn p all → p.generation ≤ g
  pub older_lower : (p q : Plug) → IsIn p all → IsIn q all → p.start < q.start → q.generation ≤ p.generation
  pub among : IsIn (ephemeral layout) segments
  pub highest : (t : SegInfo) → IsIn t segments → reserved_end t ≤ reserved_end (ephemeral layout)
  pub young : (p : Plug) → IsIn p all → p.generation ≡ 0 → first_place (ephemeral layout) ≤ p.start
  pub one : (s : SegInfo) → IsIn s segments → same_kind Ephemeral s.kind ≡ true → s ≡ ephemeral layout
  pub kind : same_kind Ephemeral (ephemeral layout).kind ≡ true
  pub alone : (g == 0) ≡ true → (first_place (ephemeral layout) ≤ first_pointer layout g segments)
      × (layout.start1 ≤ first_pointer layout g segments)

-- ---- plugs of one age

pub of-is : (all : List Plug) (i : ℕ) (p : Plug) → IsIn p (plugs_of_generation i all)
    → (p.generation ≡ i) × IsIn p all
of-is all i p j =
    let (t, k) = out_of_filter (λ (p : Plug). p.generation == i) p all j in (eqb-true p.generation i t, k)

-- those of generation 1, and then the youngest
abbrev pub younger_line : List Plug → List Plug
younger_line all = plugs_of_generation 1 all ++ plugs_of_generation 0 all

-- all of them, the oldest first
abbrev pub line_by_age : List Plug → List Plug
line_by_age all = plugs_of_generation 2 all ++ younger_line all

pub younger-is : (all : List Plug) (p : Plug) → IsIn p (younger_line all) → (p.generation ≤ 1) × IsIn p all
younger-is all p i = go (in_append (plugs_of_generation 1 all) i)
  where
    go : IsIn p (plugs_of_generation 1 all) ⊎ IsIn p (plugs_of_generation 0 all) → (p.generation ≤ 1) × IsIn p all
    go (inl j) = let (e, k) = of-is all 1 p j in (omega arith, k)
    go (inr j) = let (e, k) = of-is all 0 p j in (omega arith, k)

pub line-is : (all : List Plug) (p : Plug) → IsIn p (line_by_age all) → IsIn p all
line-is all p i = go (in_append (plugs_of_generation 2 all) i)
  where
    go : IsIn p (plugs_of_generation 2 all) ⊎ IsIn p (younger_line all) → IsIn p all
    go (inl j) = (of-is all 2 p j).1
    go (inr j) = (younger-is all p j).1

-- ---- how they stand

module _ (layout : Layout) (g : ℕ) (segments : List SegInfo) (all : List Plug)
    (h : AreCondemned layout g segments all) where
  abbrev of : ℕ → List Plug
  of i = plugs_of_generation i all

  pub of-rises : (i : ℕ) → IsRisingBy (λ (p : Plug). p.start) (of i)
  of-rises i = filter-rises (λ (p : Plug). p.generation == i) (λ (p : Plug). p.start) all h.plugs.rise

  -- older plugs stand lower
  pub older-below : (p q : Plug) → IsIn p all → IsIn q all → q.generation < p.generation → p.start < q.start
  older-below p q i j l = go (cases_order p.start q.start)
    where
      go : (p.start ≡ q.start) ⊎ ((p.start < q.start) ⊎ (q.start < p.start)) → p.start < q.start
      go (inl e) = let same : p.generation
          ≡ q.generation = ap (λ (w : Plug). w.generation) (one_plug segments all h.plugs p q i j e) in
          absurd (omega arith)
      go (inr (inl k)) = k
      go (inr (inr k)) = let m : p.generation ≤ q.generation = h.older_lower q p j i k in absurd (omega arith)

  -- so those of the next ages stand above those of one
  pub ages-rise : (i : ℕ) (p q : Plug) → IsIn p (of i) → IsIn q all → q.generation < i → p.start < q.start
  ages-rise i p q j k l = let (e, known) = of-is all i p j in older-below p q known k (omega arith)

  pub younger-rises : IsRisingBy (λ (p : Plug). p.start) (younger_line all)
  younger-rises =
      rising_append (λ (p : Plug). p.start) (of 1) (of 0) (of-rises 1) (of-rises 0)
      (λ p q i j. let (e, k) = of-is all 0 q j in ages-rise 1 p q i k (omega arith))

  pub line-rises : IsRisingBy (λ (p : Plug). p.start) (line_by_age all)
  line-rises =
      rising_append (λ (p : Plug). p.start) (of 2) (younger_line all) (of-rises 2) younger-rises
      (λ p q i j. let (e, k) = younger-is all q j in ages-rise 2 p q i k (omega arith))

  -- the older ones alone
  pub older-rises : IsRisingBy (λ (p : Plug). p.start) (of 2 ++ of 1)
  older-rises =
      rising_append (λ (p : Plug). p.start) (of 2) (of 1) (of-rises 2) (of-rises 1)
      (λ p q i j. let (e, k) = of-is all 1 q j in ages-rise 2 p q i k (omega arith))

  pub in_line_by_age : AreInLine all (line_by_age all)
  in_line_by_age = in_line segments all h.plugs (line_by_age all) line-rises (line-is all)

  -- each plug has an age
  pub line-complete : (p : Plug) → IsIn p all → IsIn p (line_by_age all)
  line-complete p i = go (let a : p.generation ≤ g = h.ages p i in let b : g ≤ 2 = h.least in
      omega arith) (cases_order p.generation 1)
    where
      at : (n : ℕ) → p.generation ≡ n → IsIn p (of n)
      at n e = into_filter (λ (p : Plug). p.generation == n) all (eq-eqb p.generation n e) i

      go : p.generation ≤ 2 → (p.generation ≡ 1) ⊎ ((p.generation < 1) ⊎ (1 < p.generation))
          → IsIn p (line_by_age all)
      go l (inl e) = append_right (of 2) (append_left (of 0) (at 1 e))
      go l (inr (inl k)) = append_right (of 2) (append_right (of 1) (at 0 (omega arith)))
      go l (inr (inr k)) = append_left (younger_line all) (at 2 (omega arith))
