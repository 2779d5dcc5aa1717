-- Which segments take part, and the plugs of their parts.
use Rattle.std.proofs.Common.{◌≡◌, ◌≢◌, ℕ, zero, suc, ◌+◌, ◌<◌, ◌≤◌, List, [], ◌++◌, length, refl, sym, ap}
use Rattle.std.proofs.Common.{ap₂, ◌∙◌, arith, Bool, true, false, ◌&&◌, ◌||◌, ◌==◌, if◌then◌else◌, append_assoc}
use Rattle.std.proofs.lemmas.List.{append-nil}
use Rattle.std.proofs.lemmas.Bool.{and_from, and_parts, both_ways, eq-eqb, eqb-true, ne_eqb}
use Rattle.clr_types.specs.Rising.{IsIn}
use Rattle.clr_types.specs.Types.{TypeRow}
use Rattle.clr_types.specs.Segments.{empty_segment, is_small_or_ephemeral, reserved_end, same_kind}
use Rattle.clr_types.specs.declared.segment.SegInfo.{SegInfo}
use Rattle.clr_types.specs.declared.segment.SegKind.TheVariants.{Ephemeral}
use Rattle.clr_types.proofs.ChangedLists.{into_filter}
use Rattle.clr_heap.specs.View.{first_of, HeapView, last_of, segment_at}
use Rattle.clr_heap.proofs.Framing.{lawful_at}
use Rattle.clr_heap.proofs.Staying.{segment_order}
use Rattle.clr_model.specs.Compaction.{Plug}
use Rattle.clr_model.specs.Sweep.{has_condemned_part}
use Rattle.clr_sweep.proofs.SurvivorsSwept.{at-in}
use Rattle.clr_moves.specs.Moves.{part_of, takes}
use Rattle.clr_plan.specs.Heaps.{part_plugs, plugs_below}
use Rattle.clr_plan.specs.Plans.{CanPlanHeap, condemned_plugs, old_part, older_plugs, parts_in}
use Rattle.clr_plan.specs.Plans.{segment_plugs, small_plugs, start_of_part, young_plugs}
use Rattle.clr_plan.specs.Scans.{plugs_between}
use Rattle.clr_plan.proofs.Beginning.{start-is, young-small}
use Rattle.clr_plan.proofs.Scanning.{survivors-done}
use Rattle.clr_model.specs.Compaction.{plugs_of}
use Rattle.clr_moves.specs.declared.condemned.Condemned.TheVariants.{Generations}

-- the segment behind those that were planned
small-next : (rows : List TypeRow) (h : HeapView) (i k : ℕ) → small_plugs rows h i (suc k) ≡ small_plugs rows h i k
    ++ segment_plugs rows h (i + k)
small-next rows h i zero = append-nil (segment_plugs rows h i) ∙ ap (segment_plugs rows h) (omega arith)
small-next rows h i (suc k) =
    ap (λ ps. segment_plugs rows h i ++ ps) (small-next rows h (i + 1) k)
    ∙ ap (λ n. segment_plugs rows h i ++ (small_plugs rows h (i + 1) k ++ segment_plugs rows h n)) (omega arith)
    ∙ sym (append_assoc (segment_plugs rows h i) (small_plugs rows h (i + 1) k) (segment_plugs rows h (i + suc k)))

small-more : (rows : List TypeRow) (h : HeapView) (k : ℕ) → small_plugs rows h 0 (k + 1) ≡ small_plugs rows h 0 k
    ++ segment_plugs rows h k
small-more rows h k = let n : k + 1 ≡ suc k = omega arith in let m : 0 + k ≡ k = omega arith in
    ap (small_plugs rows h 0) n ∙ small-next rows h 0 k ∙ ap (λ j. small_plugs rows h 0 k ++ segment_plugs rows h j) m

pub takes-two : (g : ℕ) (s : SegInfo) → g ≡ 2 → takes (Generations g) s ≡ is_small_or_ephemeral s.kind
takes-two g s two = ap (λ b. is_small_or_ephemeral s.kind && (same_kind Ephemeral s.kind || b)) (eq-eqb g 2 two)
    ∙ go (is_small_or_ephemeral s.kind) (same_kind Ephemeral s.kind)
  where
    go : (a b : Bool) → (a && (b || true)) ≡ a
    go true true = refl
    go true false = refl
    go false b = refl

pub taken-small : (g : ℕ) (s : SegInfo) → takes (Generations g) s ≡ true → is_small_or_ephemeral s.kind ≡ true
taken-small g s t = (and_parts (is_small_or_ephemeral s.kind) (has_condemned_part g s) t).0

module _ (rows : List TypeRow) (h : HeapView) (g e : ℕ) (can : CanPlanHeap rows h g e) where
  pub taken-in : (t : ℕ) → t < length h.segments → takes (Generations g) (segment_at h t) ≡ true
      → IsIn (segment_at h t) (parts_in rows h g)
  taken-in t l on = into_filter (λ (s : SegInfo). is_small_or_ephemeral s.kind && has_condemned_part g s) h.segments on
      (at-in h.segments t empty_segment l)

  pub young-kind : same_kind Ephemeral (segment_at h e).kind ≡ true
  young-kind = ap (λ (s : SegInfo). same_kind Ephemeral s.kind) can.young ∙ can.condemned.kind

  pub takes-young : takes (Generations g) (segment_at h e) ≡ true
  takes-young = and_from (is_small_or_ephemeral (segment_at h e).kind) (has_condemned_part g (segment_at h e))
      (young-small rows h g e can) (ap (λ b. b || (g == 2)) young-kind)

  -- of the segments that take part only the last one is ephemeral
  pub kind-lower : (t : ℕ) → t < e → takes (Generations g) (segment_at h t) ≡ true
      → same_kind Ephemeral (segment_at h t).kind ≡ false
  kind-lower t l on = go (same_kind Ephemeral (segment_at h t).kind) refl
    where
      inside : t < length h.segments
      inside = let i = can.inside in omega arith

      go : (b : Bool) → same_kind Ephemeral (segment_at h t).kind ≡ b → b ≡ false
      go false e = refl
      go true is =
          let same : segment_at h t ≡ segment_at h e = can.condemned.one (segment_at h t) (taken-in t inside on) is
          ∙ sym can.young in
          let o : reserved_end (segment_at h t) ≤ (segment_at h e).base = segment_order h t e can.heap l can.inside in
          let r : 262144 ≤ (segment_at h t).reserved = (lawful_at h t can.heap inside).least in
          let b : (segment_at h t).base ≡ (segment_at h e).base = ap (λ (s : SegInfo). s.base) same in
          absurd (omega arith)

  pub part-lower : (t : ℕ) → t < e → takes (Generations g) (segment_at h t) ≡ true
      → part_of h (Generations g) t ≡ first_of h t
  part-lower t l on = ap (λ b. if b then (if g == 0 then h.start0 else (if g == 1 then h.start1 else first_of h t))
      else first_of h t) (kind-lower t l on)

  -- below it none takes part where generation 2 isn't collected
  pub takes-none : g ≢ 2 → (t : ℕ) → t < e → takes (Generations g) (segment_at h t) ≡ false
  takes-none ne t l = go (takes (Generations g) (segment_at h t)) refl
    where
      go : (b : Bool) → takes (Generations g) (segment_at h t) ≡ b → b ≡ false
      go false is = refl
      go true is =
          let has = (and_parts (is_small_or_ephemeral (segment_at h t).kind) (has_condemned_part g (segment_at h t))
          is).1 in
          let none : has_condemned_part g (segment_at h t) ≡ false = ap₂ (λ a b. a || b) (kind-lower t l is)
          (ne_eqb g 2 ne) in
          absurd (both_ways (has_condemned_part g (segment_at h t)) none has)

  -- nor above it
  pub takes-above : (t : ℕ) → e < t → t < length h.segments → takes (Generations g) (segment_at h t) ≡ false
  takes-above t l i = go (takes (Generations g) (segment_at h t)) refl
    where
      go : (b : Bool) → takes (Generations g) (segment_at h t) ≡ b → b ≡ false
      go false is = refl
      go true is = let m = can.last t i (taken-small g (segment_at h t) is) in absurd (omega arith)

  -- ---- plugs

  pub plugs-lower : (t : ℕ) → t < e → part_plugs rows h g e t ≡ plugs_between rows h t (first_of h t) (last_of h t)
  plugs-lower t l = ap (λ b. if b then old_part rows h g e ++ young_plugs rows h e else plugs_between rows h t
      (first_of h t) (last_of h t)) (ne_eqb t e (λ s. absurd (omega (arith, s, l))))

  pub plugs-young : part_plugs rows h g e e ≡ old_part rows h g e ++ young_plugs rows h e
  plugs-young = ap (λ b. if b then old_part rows h g e ++ young_plugs rows h e else plugs_between rows h e
      (first_of h e) (last_of h e)) (eq-eqb e e refl)

  pub below-two : g ≡ 2 → (k : ℕ) → k ≤ e → plugs_below rows h g e k ≡ small_plugs rows h 0 k
  below-two two zero l = refl
  below-two two (suc k) l =
      let n : k + 1 ≡ suc k = omega arith in
      ap₂ (λ xs ys. xs ++ ys) (below-two two k (omega arith)) (ap₂ (λ (b : Bool) (ps : List Plug). if b then ps else [])
      (takes-two g (segment_at h k) two) (plugs-lower k (omega arith)))
      ∙ sym (small-more rows h k) ∙ ap (small_plugs rows h 0) n

  pub below-none : g ≢ 2 → (k : ℕ) → k ≤ e → plugs_below rows h g e k ≡ []
  below-none ne zero l = refl
  below-none ne (suc k) l =
      ap₂ (λ xs ys. xs ++ ys) (below-none ne k (omega arith))
      (ap (λ (b : Bool). if b then part_plugs rows h g e k else []) (takes-none ne k (omega arith)))

  -- the older plugs, by segments
  pub older-is : older_plugs rows h g e ≡ plugs_below rows h g e e ++ old_part rows h g e
  older-is = ap₂ (λ xs ys. xs ++ ys) (lower (g == 2) refl) (older (g == 0) refl)
    where
      lower : (b : Bool) → (g == 2) ≡ b → (if b then small_plugs rows h 0 e else []) ≡ plugs_below rows h g e e
      lower true is = sym (below-two (eqb-true g 2 is) e (omega arith))
      lower false is = sym (below-none (λ s. absurd (both_ways (g == 2) is (eq-eqb g 2 s))) e (omega arith))

      older : (b : Bool) → (g == 0) ≡ b → (if b then [] else old_part rows h g e) ≡ old_part rows h g e
      older false is = refl
      older true is =
          let start : start_of_part rows h g e ≡ h.start0 = start-is rows h g e can
          ∙ ap (λ b. if b then h.start0 else (if g == 1 then h.start1 else first_of h e)) is in
          sym (ap plugs_of (survivors-done rows h e (start_of_part rows h g e) h.start0 can.older_scan
          (omega (arith, start))))

  pub all-below : condemned_plugs rows h g e ≡ plugs_below rows h g e (suc e)
  all-below =
      ap (λ ps. ps ++ young_plugs rows h e) older-is
      ∙ append_assoc (plugs_below rows h g e e) (old_part rows h g e) (young_plugs rows h e)
      ∙ sym (ap₂ (λ (b : Bool) (ps : List Plug). plugs_below rows h g e e ++ (if b then ps else [])) takes-young
      plugs-young)
