-- References of one segment behind the other.
use Rattle.std.proofs.Common.{◌≡◌, ℕ, suc, ◌+◌, ◌<◌, ◌≤◌, List, [], ◌∷◌, map, length, drop, get_or, Option, Some}
use Rattle.std.proofs.Common.{◌^◌, None, refl, sym, ◌∙◌, ap, subst, arith, drop-cons}
use Rattle.std.proofs.lemmas.List.{drop_all, map-append}
use Rattle.clr_types.specs.Segments.{empty_segment}
use Rattle.clr_types.specs.Types.{TypeRow}
use Rattle.clr_types.specs.declared.item.Item.{Item}
use Rattle.clr_types.specs.declared.segment.SegInfo.{SegInfo}
use Rattle.clr_load.specs.Bodies.{AreRead, IsBody, IsSegmentRead}
use Rattle.clr_sos.specs.CheckedCells.{or_else}
use Rattle.clr_format.specs.HeapFields as fields
use Rattle.clr_format.specs.HeapFields.{references_in, rules_with}
use Rattle.clr_heap.specs.View.{HeapView}
use Rattle.clr_load.specs.FoundItems.{AreThere}
use Rattle.clr_load.specs.Scans.{IsScan}
use Rattle.clr_load.specs.declared.cells.Scan.{Scan}
use Rattle.clr_format.specs.NameTests.{first_failed, reference_test}
use Rattle.clr_load.specs.declared.body.Body.{Body}
use Rattle.clr_load.proofs.NameSteps.{failed_both, none_failed}

-- as many segments as offsets
pub as_many : (bytes : List ℕ) (rows : List TypeRow) (ss : List SegInfo) (os : List ℕ) (items : List Item)
    (references : List (ℕ × ℕ)) → AreRead bytes rows ss os items references → length ss ≡ length os
as_many bytes rows [] [] items references read = refl
as_many bytes rows [] (o ∷ os) items references read = absurd read
as_many bytes rows (s ∷ ss) [] items references read = absurd read
as_many bytes rows (s ∷ ss) (o ∷ os) items references (here, rest, more, is, e, f, read) =
    ap (λ (n : ℕ). suc n) (as_many bytes rows ss os rest more read)

nothing_left : (bytes : List ℕ) (rows : List TypeRow) (ss : List SegInfo) (items : List Item)
    (references : List (ℕ × ℕ)) → AreRead bytes rows ss [] items references → references ≡ []
nothing_left bytes rows [] items references read = read.1
nothing_left bytes rows (s ∷ ss) items references read = absurd read

-- the segments from number k on, in which the same reference is the first bad one
pub record IsAhead (bytes : List ℕ) (rows : List TypeRow) (b : fields.Body) (k : ℕ) : Type 0 where
  pub items : List Item
  pub references : List (ℕ × ℕ)
  pub read : AreRead bytes rows (drop k b.heap.segments) (drop k b.offsets) items references
  pub same : first_failed (map (reference_test b.items) references)
      ≡ first_failed (map (reference_test b.items) b.references)

-- segment k, whose memory begins at o
pub record IsHere (bytes : List ℕ) (rows : List TypeRow) (b : fields.Body) (k : ℕ) (s : SegInfo) (o : ℕ) : Type 0 where
  pub here : List Item
  pub segment : IsSegmentRead bytes rows s o here
  pub fails : (f : ℕ) → first_failed (map (reference_test b.items) (references_in bytes rows s o here)) ≡ Some f
      → first_failed (map (reference_test b.items) b.references) ≡ Some f
  pub passes : first_failed (map (reference_test b.items) (references_in bytes rows s o here)) ≡ None
      → IsAhead bytes rows b (k + 1)

module _ (bytes : List ℕ) (rows : List TypeRow) (b : fields.Body) where
  pub all_ahead : AreRead bytes rows b.heap.segments b.offsets b.items b.references → IsAhead bytes rows b 0
  all_ahead read = record { items = b.items; references = b.references; read = read; same = refl }

  pub none_ahead : (k : ℕ) → IsAhead bytes rows b k → length b.offsets ≤ k
      → first_failed (map (reference_test b.items) b.references) ≡ None
  none_ahead k at l =
      let read = subst (λ (os : List ℕ). AreRead bytes rows (drop k b.heap.segments) os at.items at.references)
      (drop_all k b.offsets l) at.read in
      sym at.same
      ∙ ap (λ (rs : List (ℕ × ℕ)). first_failed (map (reference_test b.items) rs))
      (nothing_left bytes rows (drop k b.heap.segments) at.items at.references read)
      ∙ none_failed

  pub here_ahead : (k : ℕ) → IsAhead bytes rows b k → k < length b.heap.segments → k < length b.offsets
      → IsHere bytes rows b k (get_or b.heap.segments k empty_segment) (get_or b.offsets k 0)
  here_ahead k at in_segments in_offsets =
      let s = get_or b.heap.segments k empty_segment in
      let o = get_or b.offsets k 0 in
      let next : suc k ≡ k + 1 = omega arith in
      let half = subst (λ (ss : List SegInfo). AreRead bytes rows ss (drop k b.offsets) at.items at.references)
      (drop-cons b.heap.segments k empty_segment in_segments
      ∙ ap (λ (n : ℕ). get_or b.heap.segments k empty_segment ∷ drop n b.heap.segments) next) at.read in
      let read = subst (λ (os : List ℕ). AreRead bytes rows
      (get_or b.heap.segments k empty_segment ∷ drop (k + 1) b.heap.segments) os at.items at.references)
      (drop-cons b.offsets k 0 in_offsets ∙ ap (λ (n : ℕ). get_or b.offsets k 0 ∷ drop n b.offsets) next) half in
      let here = read.0 in
      let more = read.2 in
      let T = reference_test b.items in
      let split : first_failed (map T b.references)
      ≡ or_else (first_failed (map T (references_in bytes rows s o here))) (first_failed (map T more)) =
      sym at.same ∙ ap (λ (rs : List (ℕ × ℕ)). first_failed (map T rs)) read.5
      ∙ ap first_failed (map-append T (references_in bytes rows s o here) more)
      ∙ failed_both (map T (references_in bytes rows s o here)) (map T more) in
      record {
        here = here;
        segment = read.3;
        fails = λ p bad. split ∙ ap (λ (f : Option ℕ). or_else f (first_failed (map T more))) bad;
        passes = λ good. record {
          items = read.1;
          references = more;
          read = read.6;
          same = sym (split ∙ ap (λ (f : Option ℕ). or_else f (first_failed (map T more))) good);
        };
      }

  -- segment k of what is kept
  pub here_kept : (kept : Body) → IsBody bytes rows kept b → (k : ℕ) → IsAhead bytes rows b k → (s : SegInfo) (o : ℕ)
      → k < length kept.offsets.items → s ≡ get_or kept.draft.segments k empty_segment
      → o ≡ get_or kept.offsets.items k 0 → IsHere bytes rows b k s o
  here_kept kept is k at s o l seg off =
      let many = as_many bytes rows b.heap.segments b.offsets b.items b.references is.read in
      let count = ap (λ (os : List ℕ). length os) is.offsets in
      let here = here_ahead k at (omega (arith, many, count)) (omega (arith, count)) in
      subst (λ (t : SegInfo). IsHere bytes rows b k t o)
      (sym (seg ∙ ap (λ (h : HeapView). get_or h.segments k empty_segment) is.heap))
      (subst (λ (n : ℕ). IsHere bytes rows b k (get_or b.heap.segments k empty_segment) n)
      (sym (off ∙ ap (λ (os : List ℕ). get_or os k 0) is.offsets)) here)

  pub within_kept : (kept : Body) → IsBody bytes rows kept b → (k : ℕ) → k < length kept.offsets.items
      → k < length kept.draft.segments
  within_kept kept is k l =
      let many = as_many bytes rows b.heap.segments b.offsets b.items b.references is.read in
      let count = ap (λ (os : List ℕ). length os) is.offsets in
      let segments = ap (λ (h : HeapView). length h.segments) is.heap in
      omega (arith, many, count, segments)

-- the items of a segment are there
pub there_here : (s : Scan) (b : fields.Body) (k : ℕ) (h : IsHere s.bytes.now s.types.now b k s.info s.at)
    → AreThere s h.here
there_here s b k h = record {
  rules = rules_with h.segment.large s.types.now s.info h.segment.start1 h.segment.start0;
  rows = refl;
  end = refl;
  holes = refl;
  found = h.segment.found;
}

pub scan_here : (s : Scan) (b : fields.Body) (k : ℕ) → IsHere s.bytes.now s.types.now b k s.info s.at
    → length s.bytes.now < 2 ^ 63 → IsScan s
scan_here s b k h small =
    let is = h.segment.segment in
    record {
      base = is.base;
      lowest = is.lowest;
      highest = is.highest;
      low = is.low;
      high = is.high;
      aligned = is.aligned;
      within = h.segment.within;
      small = small;
    }
