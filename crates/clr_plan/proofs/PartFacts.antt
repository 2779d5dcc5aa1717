-- What the items of a part say of its plugs.
use Rattle.std.proofs.Common.{◌≡◌, ◌⊎◌, inl, inr, ℕ, suc, ◌<◌, List, ◌++◌, length, map, filter, sym}
use Rattle.std.proofs.Common.{ap, subst, ◌∙◌, arith, true}
use Rattle.std.proofs.lemmas.Bool.{cases_lt}
use Rattle.std.proofs.lemmas.List.{map-append}
use Rattle.std.proofs.lemmas.List.Elements.{filter-append}
use Rattle.clr_types.specs.Rising.{IsIn}
use Rattle.clr_types.specs.Types.{TypeRow}
use Rattle.clr_types.specs.declared.item.Item.{Item}
use Rattle.clr_types.proofs.ChangedLists.{append_left}
use Rattle.clr_types.proofs.ListMembers.{append_right, in_append}
use Rattle.clr_heap.specs.View.{first_of, heap_items, HeapView, items_between, last_of, segment_at, sight, word_of}
use Rattle.clr_model.specs.Compaction.{Plug}
use Rattle.clr_model.specs.Sweep.{Survivor}
use Rattle.clr_sweep.proofs.SurvivorsSwept.{listed-from}
use Rattle.clr_sweep.specs.SweptItems.{stays}
use Rattle.clr_moves.specs.Moves.{part_of, takes}
use Rattle.clr_moves.specs.declared.condemned.Condemned.{Condemned}
use Rattle.clr_plan.specs.Heaps.{part_plugs}
use Rattle.clr_plan.specs.Plans.{CanPlanHeap, old_part, young_plugs}
use Rattle.clr_plan.specs.Scans.{CanScan, plugs_between, survivor_in, survivors_between}
use Rattle.clr_plan.proofs.MarkedRuns.{HasPlugOf, IsCovered, plug-of-survivor, plugs-covered}
use Rattle.clr_plan.proofs.SplitScans.{IsSplit}
use Rattle.clr_plan.proofs.Takes.{part-lower, plugs-lower, plugs-young}
use Rattle.clr_moves.specs.declared.condemned.Condemned.TheVariants.{Generations}

-- The part of segment t can be scanned, its items are the heap's, each of its plugs is covered by survivors, and each
-- survivor lies in a plug.
pub record HasFacts (rows : List TypeRow) (h : HeapView) (g : Condemned) (plugs : ℕ → List Plug) (t : ℕ) : Type 0 where
  pub scan : CanScan rows h t (part_of h g t) (last_of h t)
  pub listed : (i : Item) → IsIn i (items_between (sight rows h t) (part_of h g t) (last_of h t))
      → IsIn i (heap_items rows h)
  pub covered : (q : Plug) → IsIn q (plugs t) → IsCovered (survivors_between rows h t (part_of h g t) (last_of h t)) q
  pub plugged : (k : Survivor) → IsIn k (survivors_between rows h t (part_of h g t) (last_of h t))
      → HasPlugOf (plugs t) k

-- a part that is a whole segment
pub whole-facts : (rows : List TypeRow) (h : HeapView) (g : Condemned) (plugs : ℕ → List Plug) (t : ℕ)
    → t < length h.segments → part_of h g t ≡ first_of h t
    → plugs t ≡ plugs_between rows h t (first_of h t) (last_of h t)
    → CanScan rows h t (first_of h t) (last_of h t) → HasFacts rows h g plugs t
whole-facts rows h g plugs t inside start same scan =
    let base : HasFactsAt (first_of h t) (plugs_between rows h t (first_of h t) (last_of h t)) = (
      scan,
      λ i n. listed-from rows h t i inside n,
      λ q n. plugs-covered (survivors_between rows h t (first_of h t) (last_of h t)) q n,
      λ k n. plug-of-survivor (survivors_between rows h t (first_of h t) (last_of h t)) k n,
    ) in
    let (a, b, c, d) = subst (λ ps. HasFactsAt (part_of h g t) ps) (sym same)
    (subst (λ n. HasFactsAt n (plugs_between rows h t (first_of h t) (last_of h t))) (sym start) base) in
    record { scan = a; listed = b; covered = c; plugged = d }
  where
    HasFactsAt : ℕ → List Plug → Type 0
    HasFactsAt low ps =
        CanScan rows h t low (last_of h t) × ((i : Item) → IsIn i (items_between (sight rows h t) low (last_of h t))
        → IsIn i (heap_items rows h))
        × ((q : Plug) → IsIn q ps → IsCovered (survivors_between rows h t low (last_of h t)) q)
        × ((k : Survivor) → IsIn k (survivors_between rows h t low (last_of h t)) → HasPlugOf ps k)

module _ (rows : List TypeRow) (h : HeapView) (g e : ℕ) (can : CanPlanHeap rows h g e) where
  lower-facts : (t : ℕ) → t < e → takes (Generations g) (segment_at h t) ≡ true
      → HasFacts rows h (Generations g) (part_plugs rows h g e) t
  lower-facts t l on =
      whole-facts rows h (Generations g) (part_plugs rows h g e) t (let i = can.inside in omega (arith, l, i))
      (part-lower rows h g e can t l on) (plugs-lower rows h g e can t l) (can.scans t l)

  module _ (start : IsSplit rows h e (first_of h e) (part_of h (Generations g) e) (last_of h e))
      (young : IsSplit rows h e (part_of h (Generations g) e) h.start0 (last_of h e)) where
    abbrev older_ones : List Survivor
    older_ones = survivors_between rows h e (part_of h (Generations g) e) h.start0

    abbrev young_ones : List Survivor
    young_ones = survivors_between rows h e h.start0 (last_of h e)

    both : survivors_between rows h e (part_of h (Generations g) e) (last_of h e) ≡ older_ones ++ young_ones
    both =
        ap (λ is. map (survivor_in h e) (filter (stays (word_of h)) is)) young.items
        ∙ ap (map (survivor_in h e))
        (filter-append (stays (word_of h)) (items_between (sight rows h e) (part_of h (Generations g) e)
        h.start0) (items_between (sight rows h e) h.start0 (last_of h e)))
        ∙ map-append (survivor_in h e)
        (filter (stays (word_of h)) (items_between (sight rows h e) (part_of h (Generations g) e)
        h.start0)) (filter (stays (word_of h)) (items_between (sight rows h e) h.start0 (last_of h e)))

    wider : (ks : List Survivor) (q : Plug)
        → ((k : Survivor) → IsIn k ks → IsIn k (survivors_between rows h e (part_of h (Generations g) e) (last_of h e)))
        → IsCovered ks q → IsCovered (survivors_between rows h e (part_of h (Generations g) e) (last_of h e)) q
    wider ks q more c x low high = let (k, i, a, b, d, f) = c x low high in (k, more k i, a, b, d, f)

    young-facts : HasFacts rows h (Generations g) (part_plugs rows h g e) e
    young-facts = record {
      scan = start.above;
      listed = λ i n. listed-from rows h e i can.inside
          (subst (IsIn i) (sym start.items)
          (append_right (items_between (sight rows h e) (first_of h e) (part_of h (Generations g) e)) n));
      covered = λ q n. covers q (in_append (old_part rows h g e) (subst (IsIn q) (plugs-young rows h g e can) n));
      plugged = λ k n. plugs k (in_append older_ones (subst (IsIn k) both n));
    }
      where
        covers : (q : Plug) → IsIn q (old_part rows h g e) ⊎ IsIn q (young_plugs rows h e)
            → IsCovered (survivors_between rows h e (part_of h (Generations g) e) (last_of h e)) q
        covers q (inl i) = wider older_ones q (λ k j. subst (IsIn k) (sym both) (append_left young_ones j))
            (plugs-covered older_ones q i)
        covers q (inr i) = wider young_ones q (λ k j. subst (IsIn k) (sym both) (append_right older_ones j))
            (plugs-covered young_ones q i)

        plugs : (k : Survivor) → IsIn k older_ones ⊎ IsIn k young_ones → HasPlugOf (part_plugs rows h g e e) k
        plugs k (inl i) = let r = plug-of-survivor older_ones k i in
            record {
              plug = r.plug;
              known = subst (IsIn r.plug) (sym (plugs-young rows h g e can))
                  (append_left (young_plugs rows h e) r.known);
              low = r.low;
              high = r.high;
            }
        plugs k (inr i) = let r = plug-of-survivor young_ones k i in
            record {
              plug = r.plug;
              known = subst (IsIn r.plug) (sym (plugs-young rows h g e can))
                  (append_right (old_part rows h g e) r.known);
              low = r.low;
              high = r.high;
            }

    pub facts : (t : ℕ) → t < suc e → takes (Generations g) (segment_at h t) ≡ true
        → HasFacts rows h (Generations g) (part_plugs rows h g e) t
    facts t l on = elim (cases_lt t e) [
      | inl u ↦ lower-facts t u on
      | inr u ↦ let same : e ≡ t = omega arith in
          subst (HasFacts rows h (Generations g) (part_plugs rows h g e)) same young-facts
    ]
