-- The plan of parts that are whole segments, one after the other.
use Rattle.std.proofs.Common.{◌≡◌, ℕ, zero, suc, ◌+◌, ◌-◌, ◌<◌, ◌≤◌, ◌⊎◌, inl, inr, List, [], ◌++◌}
use Rattle.std.proofs.Common.{refl, sym, ap, subst, ◌∙◌, arith, Bool, true, false, if◌then◌else◌, append_assoc}
use Rattle.std.proofs.lemmas.Bool.{both_ways, cases_lt}
use Rattle.std.proofs.lemmas.List.{append-nil}
use Rattle.clr_types.specs.Types.{TypeRow}
use Rattle.clr_types.specs.Segments.{reserved_end}
use Rattle.clr_heap.specs.View.{HeapView, first_of, last_of, segment_at}
use Rattle.clr_model.specs.Compaction.{Move, Plug}
use Rattle.clr_pinq.specs.declared.entry.PinEntry.{PinEntry}
use Rattle.clr_moves.specs.Moves.{takes}
use Rattle.clr_moves.specs.declared.condemned.Condemned.{Condemned}
use Rattle.clr_plan.specs.Firsts.{IsLowest}
use Rattle.clr_plan.specs.PartLists.{plugs_from, plugs_in}
use Rattle.clr_plan.specs.Parts.{Around, CanPlan, HasPlacedPart}
use Rattle.clr_plan.specs.Plans.{HasReached}
use Rattle.clr_plan.specs.Pointing.{IsAt}
use Rattle.clr_plan.specs.Scans.{plugs_between}
use Rattle.clr_plan.specs.Waiting.{ranges_from}
use Rattle.clr_plan.specs.WholeParts.{CanPlanWhole, HasReachedWhole, Wholes, wholes}
use Rattle.clr_plan.specs.declared.pointer.Pointer.{Pointer}
use Rattle.clr_plan.proofs.Reaching.{around, can-plan, part-reached}

-- ---- lists of plugs

-- the plugs of the k lowest segments, and those of n more
pub plugs-more : (h : HeapView) (g : Condemned) (plugs : ℕ → List Plug) (k n : ℕ)
    → plugs_in h g plugs (k + n) ≡ plugs_in h g plugs k ++ plugs_from h (takes g) plugs k n
plugs-more h g plugs k zero =
    let same : k + 0 ≡ k = omega arith in
    ap (plugs_in h g plugs) same ∙ sym (append-nil (plugs_in h g plugs k))
plugs-more h g plugs k (suc n) =
    let shift : k + suc n ≡ (k + 1) + n = omega arith in
    let next : k + 1 ≡ suc k = omega arith in
    ap (plugs_in h g plugs) shift ∙ plugs-more h g plugs (k + 1) n
    ∙ ap (λ j. plugs_in h g plugs j ++ plugs_from h (takes g) plugs (k + 1) n) next
    ∙ append_assoc (plugs_in h g plugs k) (if takes g (segment_at h k) then plugs k else [])
    (plugs_from h (takes g) plugs (k + 1) n)

pub plugs-all : (h : HeapView) (g : Condemned) (plugs : ℕ → List Plug) (n : ℕ)
    → plugs_in h g plugs n ≡ plugs_from h (takes g) plugs 0 n
plugs-all h g plugs n = let same : n ≡ 0 + n = omega arith in ap (plugs_in h g plugs) same ∙ plugs-more h g plugs 0 n

-- the same plugs by another name
pub plugs-same : (h : HeapView) (g : Condemned) (plugs other : ℕ → List Plug) (k : ℕ)
    → ((t : ℕ) → t < k → takes g (segment_at h t) ≡ true → plugs t ≡ other t)
    → plugs_in h g plugs k ≡ plugs_in h g other k
plugs-same h g plugs other zero same = refl
plugs-same h g plugs other (suc k) same =
    ap (λ ps. ps ++ (if takes g (segment_at h k) then plugs k else []))
    (plugs-same h g plugs other k (λ t l on. same t (omega (arith, l)) on))
    ∙ ap (λ ps. plugs_in h g other k ++ ps) (go (takes g (segment_at h k)) refl)
  where
    go : (b : Bool) → takes g (segment_at h k) ≡ b → (if b then plugs k else []) ≡ (if b then other k else [])
    go true on = same k (omega arith) on
    go false off = refl

module _ (w : Wholes) (rows : List TypeRow) (h : HeapView) (g : Condemned) (count : ℕ)
    (can : CanPlanWhole w rows h g count) where
  abbrev all : List Plug
  all = wholes w h g count

  pub whole-starts : (entries : List PinEntry) → entries ≡ [] → (at : Pointer) → IsLowest h g at.segment → at.place
      ≡ first_of h at.segment → at.high ≡ reserved_end (segment_at h at.segment) → at.passed ≡ 0
      → HasReachedWhole w h g count 0 entries [] at
  whole-starts entries none at is place high passed = record {
    reached = record {
      split = split;
      placed = place ∙ sym (can.opens at.segment is).0;
      high = high;
      behind = omega arith;
      stands = stands;
    };
    nexts = λ j l on. lowest j on;
  }
    where
      split : all ≡ ([] ++ []) ++ (plugs_from h (takes g) w.plugs 0 (count - 0) ++ w.behind)
      split = let n : count ≡ count - 0 = omega arith in
          ap (λ ps. ps ++ w.behind) (plugs-all h g w.plugs count ∙ ap (plugs_from h (takes g) w.plugs 0) n)

      stands : IsAt w.segments [] (plugs_from h (takes g) w.plugs 0 (count - 0) ++ w.behind)
          (segment_at h at.segment) at.place (ranges_from at.passed entries)
      stands =
          subst (λ ps. IsAt w.segments [] ps (segment_at h at.segment) at.place (ranges_from at.passed entries)) split
          (subst (λ n. IsAt w.segments [] all (segment_at h at.segment) n (ranges_from at.passed entries))
          ((can.opens at.segment is).0 ∙ sym place)
          (subst (λ es. IsAt w.segments [] all (segment_at h at.segment) w.pointer (ranges_from at.passed es))
          (sym none)
          (subst (λ n. IsAt w.segments [] all (segment_at h at.segment) w.pointer (ranges_from n [])) (sym passed)
          (can.opens at.segment is).1)))

      lowest : (j : ℕ) → takes g (segment_at h j) ≡ true → at.segment ≤ j
      lowest j on = by (cases_lt j at.segment)
        where
          by : (j < at.segment) ⊎ (at.segment ≤ j) → at.segment ≤ j
          by (inr l) = l
          by (inl l) = absurd (both_ways (takes g (segment_at h j)) (is.below j l) on)

  module _ (entries : List PinEntry) (moves : List Move) (at : Pointer) (k : ℕ) (below : k < count)
      (s : HasReachedWhole w h g count k entries moves at) where
    abbrev others : List Plug
    others = plugs_from h (takes g) w.plugs (k + 1) (count - (k + 1))

    abbrev pub rest : List Plug
    rest = others ++ w.behind

    done : plugs_in h g w.plugs (k + 1) ≡ plugs_in h g w.plugs k ++ (if takes g (segment_at h k) then w.plugs k else [])
    done = let next : k + 1 ≡ suc k = omega arith in ap (plugs_in h g w.plugs) next

    ahead : plugs_from h (takes g) w.plugs k (count - k)
        ≡ (if takes g (segment_at h k) then w.plugs k else []) ++ others
    ahead = let n : count - k ≡ suc (count - (k + 1)) = omega (arith, below) in ap (plugs_from h (takes g) w.plugs k) n

    -- a segment without a part
    pub whole-over : takes g (segment_at h k) ≡ false → HasReachedWhole w h g count (k + 1) entries moves at
    whole-over off = record {
      reached = subst (λ ps. HasReached h w.segments all entries w.pointer [] ps rest moves at) (sym same)
          (subst (λ ps. HasReached h w.segments all entries w.pointer [] (plugs_in h g w.plugs k) (ps ++ w.behind) moves
          at) more s.reached);
      nexts = λ j l on. s.nexts j (omega (arith, l)) on;
    }
      where
        same : plugs_in h g w.plugs (k + 1) ≡ plugs_in h g w.plugs k
        same = done ∙ ap (λ (b : Bool). plugs_in h g w.plugs k ++ (if b then w.plugs k else [])) off
            ∙ append-nil (plugs_in h g w.plugs k)

        more : plugs_from h (takes g) w.plugs k (count - k) ≡ others
        more = ahead ∙ ap (λ (b : Bool). (if b then w.plugs k else []) ++ others) off

    module _ (on : takes g (segment_at h k) ≡ true) where
      abbrev part : List Plug
      part = plugs_between rows h k (first_of h k) (last_of h k)

      pub own : (if takes g (segment_at h k) then w.plugs k else []) ≡ part
      own = ap (λ (b : Bool). if b then w.plugs k else []) on ∙ can.plugs_are k below on

      pub whole-done : plugs_in h g w.plugs (k + 1) ≡ plugs_in h g w.plugs k ++ part
      whole-done = done ∙ ap (λ ps. plugs_in h g w.plugs k ++ ps) own

      pub reached : HasReached h w.segments all entries w.pointer [] (plugs_in h g w.plugs k) (part ++ rest) moves at
      reached =
          subst (λ ps. HasReached h w.segments all entries w.pointer [] (plugs_in h g w.plugs k) ps moves at)
          (ap (λ ps. ps ++ w.behind) (ahead ∙ ap (λ ps. ps ++ others) own) ∙ append_assoc part others w.behind)
          s.reached

      abbrev pub whole-around : Around
      whole-around = around rows h w.segments all can.lie entries w.pointer [] (plugs_in h g w.plugs k) moves at k
          (first_of h k) (last_of h k) rest reached

      pub whole-can : CanPlan whole-around rows h entries at k (first_of h k) (last_of h k)
      whole-can =
          can-plan rows h w.segments all can.lie entries w.pointer [] (plugs_in h g w.plugs k) moves at k
          (first_of h k) (last_of h k) rest reached
          (can.among at k below on (s.nexts k (omega arith) on) reached.high) (can.scans k below on)

      pub whole-more : (new : List PinEntry) (after : Pointer) (planned : HasPlacedPart whole-around rows h new at k
          (first_of h k) (last_of h k) after) → HasReachedWhole w h g count (k + 1) new (moves ++ planned.moves) after
      whole-more new after planned = record {
        reached = subst (λ ps. HasReached h w.segments all new w.pointer [] ps rest (moves ++ planned.moves) after)
            (sym whole-done)
            (part-reached rows h w.segments all can.lie entries w.pointer [] (plugs_in h g w.plugs k) moves at k
            (first_of h k) (last_of h k) rest reached new after planned);
        nexts = λ j l t. let o = planned.among.order in omega (arith, o, l);
      }
