-- Where the plugs of the parts of generations stand.
use Rattle.std.proofs.Common.{◌≡◌, ◌⊎◌, inl, inr, ℕ, suc, ◌<◌, ◌≤◌, length, sym, subst, arith, Bool, true, false}
use Rattle.std.proofs.Common.{List, if◌then◌else◌, ◌==◌}
use Rattle.std.proofs.lemmas.Bool.{cases_lt}
use Rattle.clr_types.specs.Rising.{IsIn}
use Rattle.clr_types.specs.Types.{TypeRow}
use Rattle.clr_types.proofs.ListMembers.{in_append}
use Rattle.clr_heap.specs.View.{first_of, HeapView, last_of, segment_at}
use Rattle.clr_model.specs.Compaction.{Plug}
use Rattle.clr_model.proofs.PlugRoom.{ArePlugs}
use Rattle.clr_moves.specs.Moves.{part_of, takes}
use Rattle.clr_moves.specs.declared.condemned.Condemned.TheVariants.{Generations}
use Rattle.clr_plan.specs.Heaps.{part_plugs, plugs_below}
use Rattle.clr_plan.specs.Plans.{CanPlanHeap, old_part, parts_in, young_plugs}
use Rattle.clr_plan.proofs.Ages.{start-order}
use Rattle.clr_plan.proofs.Beginning.{plugs-lie, start-is}
use Rattle.clr_plan.proofs.Homes.{HaveHomes, in-plugs, in-stretch, LiesInPart}
use Rattle.clr_plan.proofs.Takes.{all-below, part-lower, plugs-lower, plugs-young, taken-in, takes-above}

module _ (rows : List TypeRow) (h : HeapView) (g e : ℕ) (can : CanPlanHeap rows h g e) where
  young-order : (first_of h e ≤ part_of h (Generations g) e) × (part_of h (Generations g) e ≤ h.start0)
  young-order = let (a, b, c) = start-order rows h g e can in go (g == 0) (g == 1) (start-is rows h g e can) a b
    where
      go : (x y : Bool) → part_of h (Generations g) e ≡ (if x then h.start0 else (if y then h.start1 else first_of h e))
          → first_of h e ≤ h.start1 → h.start1 ≤ h.start0 → (first_of h e ≤ part_of h (Generations g) e)
          × (part_of h (Generations g) e ≤ h.start0)
      go true y q a b = (omega (arith, q, a, b), omega (arith, q))
      go false true q a b = (omega (arith, q, a), omega (arith, q, b))
      go false false q a b = (omega (arith, q), omega (arith, q, a, b))

  inside-of : (t : ℕ) → t < suc e → t < length h.segments
  inside-of t l = let i = can.inside in omega (arith, l, i)

  all-lie : ArePlugs (parts_in rows h g) (plugs_below rows h g e (suc e))
  all-lie = subst (ArePlugs (parts_in rows h g)) (all-below rows h g e can) (plugs-lie rows h g e can)

  part-first : (t : ℕ) → t < suc e → takes (Generations g) (segment_at h t) ≡ true
      → first_of h t ≤ part_of h (Generations g) t
  part-first t l on = elim (cases_lt t e) [
    | inl u ↦ let p = part-lower rows h g e can t u on in omega (arith, p)
    | inr u ↦ let same : e ≡ t = omega arith in
        subst (λ j. first_of h j ≤ part_of h (Generations g) j) same young-order.0
  ]

  lies-in : (t : ℕ) → t < suc e → takes (Generations g) (segment_at h t) ≡ true → (q : Plug)
      → IsIn q (part_plugs rows h g e t) → LiesInPart h (Generations g) t q
  lies-in t l on q i = elim (cases_lt t e) [
    | inl u ↦ in-stretch rows h (Generations g) t (first_of h t) (last_of h t) (can.scans t u) q
        (subst (IsIn q) (plugs-lower rows h g e can t u) i) (let p = part-lower rows h g e can t u on in
        omega (arith, p)) (omega arith)
    | inr u ↦ let same : t ≡ e = omega arith in subst (λ j. LiesInPart h (Generations g) j q) (sym same)
        (young (in_append (old_part rows h g e) (subst (IsIn q) (plugs-young rows h g e can)
        (subst (λ j. IsIn q (part_plugs rows h g e j)) same i))))
  ]
    where
      young : IsIn q (old_part rows h g e) ⊎ IsIn q (young_plugs rows h e) → LiesInPart h (Generations g) e q
      young (inl j) = in-stretch rows h (Generations g) e (part_of h (Generations g) e) h.start0 can.older_scan q j
          (omega arith) (let (a, b, c) = start-order rows h g e can in c)
      young (inr j) = in-stretch rows h (Generations g) e h.start0 (last_of h e) can.young_scan q j young-order.1
          (omega arith)

  -- THE PARTS of the segments up to the ephemeral one
  pub generations-homes : HaveHomes h (Generations g) (part_plugs rows h g e) (suc e)
  generations-homes = record {
    heap = can.heap;
    inside = (let i = can.inside in omega (arith, i));
    above = λ t l u. takes-above rows h g e can t (omega (arith, l)) u;
    segments = parts_in rows h g;
    lie = all-lie;
    from_first = part-first;
    lies = lies-in;
    gapped = λ t l on q i. can.condemned.starts.plugs (segment_at h t) q
        (taken-in rows h g e can t (inside-of t l) on) (subst (IsIn q) (sym (all-below rows h g e can))
        (in-plugs h (Generations g) (part_plugs rows h g e) (suc e) t q l on i)) (lies-in t l on q i).segment;
  }
