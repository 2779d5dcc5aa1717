-- The fields before the memory of each segment of a heap are lawful, one segment after the other.
use Rattle.std.proofs.Common.{◌≡◌, ◌≢◌, ℕ, zero, suc, ◌+◌, ◌*◌, ◌%◌, ◌^◌, ◌≤◌, ◌<◌, ◌==◌, ◌&&◌, not, Bool, true}
use Rattle.std.proofs.Common.{false}
use Rattle.std.proofs.Common.{List, [], ◌∷◌, ◌++◌, filter, get_or, if◌then◌else◌, length, take, refl, ap}
use Rattle.std.proofs.Common.{ap₂}
use Rattle.std.proofs.Common.{sym, ◌∙◌, subst, arith, Some, inl, inr, le-leb, ◌||◌}
use Rattle.std.specs.List.{AllByRecursion, list_any, sum_by}
use Rattle.std.specs.Prelude.{slice_get}
use Rattle.std.proofs.lemmas.Bool.{cases_lt, eq-eqb, true≢false}
use Rattle.std.proofs.lemmas.List.{take_all, take_more}
use Rattle.std.proofs.lemmas.List.Sums.{sum_by-cons, sum_by_more_le}
use Rattle.clr_types.specs.LawfulLayout.{IsLawfulSegment}
use Rattle.clr_types.specs.Rising.{first, IsIn, later}
use Rattle.clr_types.specs.Segments.{empty_segment, ephemeral, is_small_or_ephemeral}
use Rattle.clr_types.specs.Segments.{reserved_sum, same_kind, segments_of}
use Rattle.clr_types.specs.Types.{TypeRow}
use Rattle.clr_types.specs.declared.segment.SegInfo.{SegInfo}
use Rattle.clr_types.specs.declared.segment.SegKind.{SegKind}
use Rattle.clr_types.specs.declared.segment.SegKind.TheVariants.{Small, Ephemeral, Large, Pinned}
use Rattle.clr_types.proofs.ChangedLists.{into_filter}
use Rattle.clr_types.proofs.ListMembers.{any-from, any-in}
use Rattle.clr_types.proofs.RisingLists.{all_at, in_cons}
use Rattle.clr_heap.specs.Drafts.{empty_heap, has_kind, is_young}
use Rattle.clr_heap.specs.View.{frame, HeapView, IsHeap, segment_at}
use Rattle.clr_heap.proofs.Framing as framing
use Rattle.clr_heap.proofs.Staying.{segment_order}
use Rattle.clr_view.proofs.Tails.{found-young, IsEphemeral, kind-young, only-young}
use Rattle.clr_sos.specs.Faultless.{HasBounds}
use Rattle.clr_sos.specs.Faults.{is_between}
use Rattle.clr_format.specs.declared.head.Head.{Head}
use Rattle.clr_format.specs.HeapFields.{is_base, is_boundary, is_reserved, kind_number, kinds_of, may_follow}
use Rattle.clr_save.specs.SavedWords.{head_of, own_boundary}
use Rattle.clr_save.specs.Writable.{IsWrittenHead, IsWrittenSegment}
use Rattle.clr_save.specs.WrittenHeap.{AreSegments, AreWrittenSegments, heap_after, heap_behind, IsFilled}
use Rattle.clr_save.specs.WrittenHeap.{WrittenSegment}
use Rattle.clr_save.proofs.SavedFills.{length-from, written_from, written_segment}

-- ---- tests

between-is : (low n high : ℕ) → n % 8 ≡ 0 → low ≤ n → n ≤ high → is_between low n high ≡ true
between-is low n high z above below = let e = eq-eqb (n % 8) 0 z in
    let l = le-leb low n above in let u = le-leb n high below in rw (e, l, u) refl

base-is : (h : HeapView) (base : ℕ) → base % 4096 ≡ 0 → 0x10000000 ≤ base → h.top ≤ base → base ≤ 2 ^ 61
    → is_base h base ≡ true
base-is h base z low above high =
    let e = eq-eqb (base % 4096) 0 z in
    let l = le-leb 0x10000000 base low in
    let a = le-leb h.top base above in
    let u = le-leb base (2 ^ 61) high in rw (e, l, a, u) refl

reserved-is : (head : Head) (h : HeapView) (reserved : ℕ) → reserved % 4096 ≡ 0 → 262144 ≤ reserved
    → reserved_sum (frame h) + reserved ≤ head.limit → is_reserved head h reserved ≡ true
reserved-is head h reserved z low within =
    let e = eq-eqb (reserved % 4096) 0 z in
    let l = le-leb 262144 reserved low in
    let w = le-leb (reserved_sum (frame h) + reserved) head.limit within in rw (e, l, w) refl

boundary-is : (s : SegInfo) (low boundary : ℕ) → (is_young s ≡ true → is_between low boundary s.end ≡ true)
    → is_boundary s low (if is_young s then boundary else 0) ≡ true
boundary-is s low boundary inside = go (is_young s) inside
  where
    go : (b : Bool) → (b ≡ true → is_between low boundary s.end ≡ true)
        → (if b then is_between low (if b then boundary else 0) s.end else ((if b then boundary else 0) == 0)) ≡ true
    go true inside = inside refl
    go false inside = refl

no-second : (a b : Bool) → (b ≡ true → a ≡ false) → not (a && b) ≡ true
no-second true true none = let wrong = none refl in absurd cc
no-second true false none = refl
no-second false b none = refl

known-kind : (kind : SegKind) → slice_get (kinds_of false) (kind_number kind) ≡ Some kind
known-kind Small = refl
known-kind Ephemeral = refl
known-kind Large = refl
known-kind Pinned = refl

own-fits : (b : Bool) (n : ℕ) → (b ≡ true → n < 2 ^ 64) → (if b then n else 0) < 2 ^ 64
own-fits true n small = small refl
own-fits false n small = omega arith

young-kind : (kind : SegKind) → same_kind Ephemeral kind ≡ true → kind ≡ Ephemeral
young-kind Small e = absurd cc
young-kind Ephemeral e = refl
young-kind Large e = absurd cc
young-kind Pinned e = absurd cc

-- ---- lists of segments

-- a member of the first k is one of these by its number
in-take : (k : ℕ) (ss : List SegInfo) (s : SegInfo) → k ≤ length ss → IsIn s (take k ss)
    → (j : ℕ) × (j < k) × (get_or ss j empty_segment ≡ s)
in-take zero ss s l i = elim i [ ]
in-take (suc k) [] s l i = elim i [ ]
in-take (suc k) (t ∷ ss) s l i = elim (in_cons i) [
  | inl here ↦ (zero, omega arith, sym here)
  | inr more ↦ let found = in-take k ss s (omega arith) more in let low = found.1 in (suc found.0, omega arith, found.2)
]

at-in : (ss : List SegInfo) (k : ℕ) → k < length ss → IsIn (get_or ss k empty_segment) ss
at-in [] k l = absurd (omega arith)
at-in (s ∷ ss) zero l = first
at-in (s ∷ ss) (suc k) l = later (at-in ss k (omega arith))

-- what some pass, one passes
some-pass : (test : SegInfo → Bool) (ss : List SegInfo) → 0 < length (filter test ss) → list_any test ss ≡ true
some-pass test [] l = absurd (omega arith)
some-pass test (s ∷ ss) l = go (test s) l (some-pass test ss)
  where
    go : (b : Bool) → 0 < length (if b then s ∷ filter test ss else filter test ss)
        → (0 < length (filter test ss) → list_any test ss ≡ true) → (b || list_any test ss) ≡ true
    go true l rest = refl
    go false l rest = rest l

-- each of lawful segments reserves something
least-sum : (ss : List SegInfo) → AllByRecursion IsLawfulSegment ss
    → 262144 * length ss ≤ sum_by (λ (s : SegInfo). s.reserved) ss
least-sum [] all = omega arith
least-sum (s ∷ ss) all =
    let here = all.0.least in
    let rest = least-sum ss all.1 in
    let sum = sum_by-cons (λ (t : SegInfo). t.reserved) s ss in
    omega (arith, here, rest, sum)

-- ---- a heap's

module _ (rows : List TypeRow) (h : HeapView) (heap : IsHeap h) (head : Head) (written : IsWrittenHead head)
    (limit : reserved_sum (frame h) ≤ head.limit)
    (bounds : (k : ℕ) → k < length h.segments → same_kind (segment_at h k).kind Ephemeral ≡ true → HasBounds h k)
    (large : 0 < length (segments_of Large (frame h)))
    (filled : (k : ℕ) → k < length h.segments → IsFilled head rows (written_segment rows h k)) where
  abbrev young : (k : ℕ) → Bool
  young k = same_kind (segment_at h k).kind Ephemeral

  -- behind the ephemeral segment stands no small one, and no second
  after-young : (j k : ℕ) → j < k → k < length h.segments → same_kind Ephemeral (segment_at h j).kind ≡ true
      → (kind : SegKind) → (segment_at h k).kind ≡ kind → is_small_or_ephemeral kind ≡ false
  after-young j k l m is Large e = refl
  after-young j k l m is Pinned e = refl
  after-young j k l m is Ephemeral e =
      let (n, found) = found-young h heap in
      let one = only-young h n heap found j (omega arith) (young-kind (segment_at h j).kind is) in
      let other = only-young h n heap found k m e in
      absurd (omega arith)
  after-young j k l m is Small e =
      let (n, found) = found-young h heap in
      let one = only-young h n heap found j (omega arith) (young-kind (segment_at h j).kind is) in
      let same : segment_at h j ≡ ephemeral (frame h) = ap (segment_at h) one ∙ found.is in
      let base = ap (λ (s : SegInfo). s.base) same in
      let low = all_at (λ (s : SegInfo). s.base ≤ (ephemeral (frame h)).base)
      (into_filter (λ (s : SegInfo). same_kind Small s.kind) h.segments (ap (same_kind Small) e) (at-in h.segments k m))
      heap.ephemeral_last in
      let order = segment_order h j k heap l m in
      let least = (framing.lawful_at h j heap (omega arith)).least in
      absurd (omega arith)

  may : (k : ℕ) → k < length h.segments → may_follow (take k h.segments) (segment_at h k).kind ≡ true
  may k l =
      no-second (is_small_or_ephemeral (segment_at h k).kind) (has_kind Ephemeral (take k h.segments)) (λ some.
      let (x, inside, is) = any-in (λ (s : SegInfo). same_kind Ephemeral s.kind) (take k h.segments) some in
      let (j, low, at) = in-take k h.segments x (omega arith) inside in
      after-young j k low l (ap (λ (s : SegInfo). same_kind Ephemeral s.kind) at ∙ is) (segment_at h k).kind refl)

  head-is : (now : HeapView) (k : ℕ) → k < length h.segments → now.segments ≡ take k h.segments
      → now.top ≤ (segment_at h k).base → IsWrittenSegment head now (head_of h k)
  head-is now k l are above =
      let s = segment_at h k in
      let lawful = framing.lawful_at h k heap l in
      let base = lawful.base in
      let low = lawful.low in
      let high = lawful.high in
      let highest = framing.all_at (λ (t : SegInfo). t.base ≤ 2 ^ 61) h.segments k empty_segment heap.highest l in
      let sum = sum_by_more_le (λ (t : SegInfo). t.reserved) h.segments k empty_segment l in
      let so_far : reserved_sum (frame now) ≡ sum_by (λ (t : SegInfo). t.reserved) (take k h.segments) =
      ap (sum_by (λ (t : SegInfo). t.reserved)) are in
      let top = heap.limit_small in
      let within = heap.within_limit in
      record {
        base = base-is now s.base lawful.base lawful.lowest above highest;
        reserved = reserved-is head now s.reserved lawful.reserved lawful.least (omega (arith, so_far, sum, limit));
        known = ap (λ (b : Bool). slice_get (kinds_of b) (kind_number s.kind)) written.second ∙ known-kind s.kind;
        kind = ap (λ (ss : List SegInfo). may_follow ss s.kind) are ∙ may k l;
        end = between-is (s.base + 0x1000) s.end (s.base + s.reserved) lawful.aligned low high;
        start1 = boundary-is s (s.base + 0x1000) h.start1 (λ is. let b = bounds k l is in
            let one = b.low in let two = b.middle in let three = b.high in
            between-is (s.base + 0x1000) h.start1 s.end b.aligned.0 one (omega arith));
        start0 = boundary-is s (own_boundary h k h.start1) h.start0 (λ is. let b = bounds k l is in
            let one = b.low in let two = b.middle in let three = b.high in
            ap (λ (c : Bool). is_between (if c then h.start1 else 0) h.start0 s.end) is
            ∙ between-is h.start1 h.start0 s.end b.aligned.1 two three);
        base_fits = omega arith;
        reserved_fits = omega (arith, sum, within, top);
        end_fits = omega arith;
        start1_fits = own-fits (young k) h.start1 (λ is. let b = bounds k l is in
            let two = b.middle in let three = b.high in omega arith);
        start0_fits = own-fits (young k) h.start0 (λ is. let b = bounds k l is in let three = b.high in omega arith);
      }

  -- ---- all of them

  next : (now : HeapView) (k : ℕ) → k < length h.segments → now.segments ≡ take k h.segments
      → (heap_behind now (written_segment rows h k)).segments ≡ take (k + 1) h.segments
  next now k l are = ap (λ (ss : List SegInfo). ss ++ segment_at h k ∷ []) are
      ∙ sym (take_more h.segments k empty_segment l)

  are-from : (now : HeapView) (k n : ℕ) → k + n ≡ length h.segments → now.segments ≡ take k h.segments
      → (k < length h.segments → now.top ≤ (segment_at h k).base) → AreSegments head rows now (written_from rows h k n)
  are-from now k zero count are above = tt
  are-from now k (suc n) count are above = (
    head-is now k (omega arith) are (above (omega arith)),
    filled k (omega arith),
    are-from (heap_behind now (written_segment rows h k)) (k + 1) n (omega arith) (next now k (omega arith) are)
        (λ l. segment_order h k (k + 1) heap (omega arith) l),
  )

  segments-after : (now : HeapView) (k n : ℕ) → k + n ≡ length h.segments → now.segments ≡ take k h.segments
      → (heap_after now (written_from rows h k n)).segments ≡ h.segments
  segments-after now k zero count are = are ∙ take_all k h.segments (omega arith)
  segments-after now k (suc n) count are =
      segments-after (heap_behind now (written_segment rows h k)) (k + 1) n (omega arith) (next now k (omega arith) are)

  abbrev pub all-segments : List WrittenSegment
  all-segments = written_from rows h 0 (length h.segments)

  pub heap-segments : (heap_after (empty_heap head.limit) all-segments).segments ≡ h.segments
  heap-segments = segments-after (empty_heap head.limit) 0 (length h.segments) (omega arith) refl

  has-young : has_kind Ephemeral h.segments ≡ true
  has-young =
      let (n, found) = found-young h heap in
      any-from (λ (s : SegInfo). same_kind Ephemeral s.kind) h.segments (segment_at h n)
      (at-in h.segments n found.in_range)
      (ap (same_kind Ephemeral) (kind-young h n heap found))

  has-large : has_kind Large h.segments ≡ true
  has-large = some-pass (λ (s : SegInfo). same_kind Large s.kind) h.segments large

  two : 2 ≤ length h.segments
  two =
      let (n, found) = found-young h heap in
      let (x, inside, is) = any-in (λ (s : SegInfo). same_kind Large s.kind) h.segments has-large in
      let all = take_all (length h.segments) h.segments (omega arith) in
      let (j, low, at) = in-take (length h.segments) h.segments x (omega arith)
      (subst (IsIn x) (sym all) inside) in
      let kind = kind-young h n heap found in
      let apart : j ≢ n = λ same.
      let both : true ≡ same_kind Large Ephemeral =
      sym is ∙ ap (λ (s : SegInfo). same_kind Large s.kind) (sym at)
      ∙ ap (λ (i : ℕ). same_kind Large (segment_at h i).kind) same
      ∙ ap (same_kind Large) kind in absurd cc in
      let first = found.in_range in
      elim (cases_lt j n) [ inl lower ↦ omega arith | inr not ↦ omega arith ]

  -- THE SEGMENTS of a heap may be written
  pub are-written : AreWrittenSegments head rows all-segments
  are-written =
      let count = length-from rows h 0 (length h.segments) in
      let least = two in
      let sum = least-sum h.segments heap.segments in
      let within = heap.within_limit in
      let small = heap.limit_small in
      record {
        least = omega arith;
        most = omega (arith, count, sum, within, small);
        each = are-from (empty_heap head.limit) 0 (length h.segments) (omega arith) refl (λ l. omega arith);
        needed = ap (λ (ss : List SegInfo). has_kind Ephemeral ss && has_kind Large ss) heap-segments
            ∙ ap₂ (λ (a b : Bool). a && b) has-young has-large;
      }

-- ---- the boundaries

module _ (rows : List TypeRow) (h : HeapView) (heap : IsHeap h) where
  -- those of the heap that is read back are the heap's
  pub record HasStarts (now : HeapView) : Type 0 where
    pub start1 : now.start1 ≡ h.start1
    pub start0 : now.start0 ≡ h.start0

  starts-after : (now : HeapView) (k n e : ℕ) → k + n ≡ length h.segments → IsEphemeral h e → (e < k → HasStarts now)
      → HasStarts (heap_after now (written_from rows h k n))
  starts-after now k zero e count is past = past (let l = is.in_range in omega arith)
  starts-after now k (suc n) e count is past =
      starts-after (heap_behind now (written_segment rows h k)) (k + 1) n e (omega arith) is (λ l.
      go (same_kind (segment_at h k).kind Ephemeral) refl l)
    where
      go : (b : Bool) → same_kind (segment_at h k).kind Ephemeral ≡ b → e < k + 1
          → HasStarts (heap_behind now (written_segment rows h k))
      go true young l = rw young (record { start1 = refl; start0 = refl })
      go false old l =
          let young = ap (λ (kind : SegKind). same_kind kind Ephemeral) (kind-young h e heap is) in
          let apart : e ≢ k = λ same. true≢false
          (sym young ∙ ap (λ (i : ℕ). same_kind (segment_at h i).kind Ephemeral) same ∙ old) in
          let before = past (omega arith) in
          let one = before.start1 in
          let zero' = before.start0 in
          rw old (record { start1 = one; start0 = zero' })

  pub starts-are : (limit : ℕ) → HasStarts (heap_after (empty_heap limit) (written_from rows h 0 (length h.segments)))
  starts-are limit =
      let (e, is) = found-young h heap in
      starts-after (empty_heap limit) 0 (length h.segments) e (omega arith) is (λ l. absurd (omega arith))
