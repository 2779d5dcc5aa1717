-- What is known of the fields before a segment's memory that were found, and how segments follow.
use Rattle.std.proofs.Common.{◌≡◌, ℕ, ◌+◌, ◌≤◌, Bool, true, false, not, ◌||◌, if◌then◌else◌, cond, List, [], ◌∷◌}
use Rattle.std.proofs.Common.{◌++◌, length, refl, sym, ◌∙◌, ap, subst, arith, Option, Some, None, slice_get}
use Rattle.std.proofs.Common.{append-nil}
use Rattle.std.proofs.lemmas.Bool.{both_ways}
use Rattle.std.proofs.lemmas.List.{nil_from_length}
use Rattle.std.proofs.lemmas.List.Elements.{filter-append}
use Rattle.std.specs.List.{AllByRecursion, list_any}
use Rattle.clr_types.specs.Segments.{reserved_end, same_kind, segment_or_empty}
use Rattle.clr_types.specs.declared.segment.SegInfo.{SegInfo}
use Rattle.clr_types.specs.declared.segment.SegKind.{SegKind}
use Rattle.clr_types.specs.declared.segment.SegKind.TheVariants.{Small, Ephemeral, Large, Pinned}
use Rattle.clr_heap.specs.Drafts.{has_kind, is_young}
use Rattle.clr_heap.specs.View.{HeapView}
use Rattle.clr_heap.specs.declared.heap.draft.SegmentHead.{SegmentHead}
use Rattle.clr_heap.proofs.Framing.{all_push, all_weaker, ephemerals, of_kind}
use Rattle.clr_fields.specs.Fields.{anything, fault, field, found, Found, gives, word_at, ◌>>=◌}
use Rattle.clr_format.specs.HeapFields.{is_base, is_boundary, is_end, is_reserved, kind_field, kind_found, kinds_of}
use Rattle.clr_format.specs.HeapFields.{may_follow, segment_head_fields, segment_with}
use Rattle.clr_format.specs.declared.head.Head.{Head}
use Rattle.clr_load.proofs.FoundFields.{both_found, field_found, gave}

-- ---- the fields before a segment's memory

pub record HeadFound (h : HeapView) (s : SegmentHead) : Type 0 where
  pub base : is_base h s.info.base ≡ true
  pub may : may_follow h.segments s.info.kind ≡ true
  pub end : is_end s.info.base s.info.reserved s.info.end ≡ true
  pub start1 : is_boundary s.info (s.info.base + 0x1000) s.start1 ≡ true
  pub start0 : is_boundary s.info s.start1 s.start0 ≡ true

kind_there : (segments : List SegInfo) (o : ℕ) (k : Option SegKind) (x : SegKind) (n : ℕ)
    → kind_found segments o k ≡ found x n → may_follow segments x ≡ true
kind_there segments o None x n e = absurd cc
kind_there segments o (Some kind) x n e = go (may_follow segments kind) refl e
  where
    go : (t : Bool) → may_follow segments kind ≡ t → cond t (found kind (o + 8)) (fault o) ≡ found x n
        → may_follow segments x ≡ true
    go true m e = let same : kind ≡ x = cc in ap (may_follow segments) (sym same) ∙ m
    go false m e = absurd cc

pub head_found : (head : Head) (h : HeapView) (bytes : List ℕ) (o : ℕ) (s : SegmentHead) (n : ℕ)
    → segment_head_fields head h bytes o ≡ found s n → HeadFound h s
unfolding segment_head_fields
head_found head h bytes o s n e =
    let a = both_found bytes (λ base. field (is_reserved head h) >>= (λ reserved. after base reserved))
    (field (is_base h) bytes o) s n e in
    let b = both_found bytes (λ reserved. after a.x reserved) (field (is_reserved head h) bytes a.m) s n a.two in
    let c = both_found bytes (λ kind. behind a.x b.x kind) (kind_field head.first h.segments bytes b.m) s n b.two in
    let k = both_found bytes (λ w bytes next. kind_found h.segments b.m (slice_get (kinds_of head.first) w))
    (field anything bytes b.m) c.x c.m c.one in
    let d = both_found bytes (λ end. last a.x b.x c.x end) (field (is_end a.x b.x) bytes c.m) s n c.two in
    let info : SegInfo = segment_with a.x b.x c.x d.x in
    let f = both_found bytes (λ start1. very_last a.x b.x c.x d.x start1)
    (field (is_boundary info (a.x + 0x1000)) bytes d.m) s n d.two in
    let g = both_found bytes (λ start0. gives (made a.x b.x c.x d.x f.x start0))
    (field (is_boundary info f.x) bytes f.m) s n f.two in
    let same : made a.x b.x c.x d.x f.x g.x ≡ s = (gave (made a.x b.x c.x d.x f.x g.x) g.m s n g.two).0 in
    let base = (field_found (is_base h) o (word_at bytes o) a.x a.m a.one).good in
    let end = (field_found (is_end a.x b.x) c.m (word_at bytes c.m) d.x d.m d.one).good in
    let start1 = (field_found (is_boundary info (a.x + 0x1000)) d.m (word_at bytes d.m) f.x f.m f.one).good in
    let start0 = (field_found (is_boundary info f.x) f.m (word_at bytes f.m) g.x g.m g.one).good in
    subst (HeadFound h) {x = made a.x b.x c.x d.x f.x g.x} same (record {
      base = base;
      may = kind_there h.segments b.m (slice_get (kinds_of head.first) k.x) c.x c.m k.two;
      end = end;
      start1 = start1;
      start0 = start0;
    })
  where
    made : ℕ → ℕ → SegKind → ℕ → ℕ → ℕ → SegmentHead
    made base reserved kind end start1 start0 =
        record { info = segment_with base reserved kind end; start1 = start1; start0 = start0 }

    very_last : ℕ → ℕ → SegKind → ℕ → ℕ → List ℕ → ℕ → Found SegmentHead
    very_last base reserved kind end start1 =
        field (is_boundary (segment_with base reserved kind end) start1)
        >>= (λ start0. gives (made base reserved kind end start1 start0))

    last : ℕ → ℕ → SegKind → ℕ → List ℕ → ℕ → Found SegmentHead
    last base reserved kind end =
        field (is_boundary (segment_with base reserved kind end) (base + 0x1000)) >>= very_last base reserved kind end

    behind : ℕ → ℕ → SegKind → List ℕ → ℕ → Found SegmentHead
    behind base reserved kind = field (is_end base reserved) >>= last base reserved kind

    after : ℕ → ℕ → List ℕ → ℕ → Found SegmentHead
    after base reserved = kind_field head.first h.segments >>= behind base reserved

-- ---- how segments follow one another

-- none stands above the top, at most one is ephemeral, and no small one stands above that
pub record AreInOrder (ss : List SegInfo) (top : ℕ) : Type 0 where
  pub below : AllByRecursion (λ (s : SegInfo). s.base ≤ top) ss
  pub count : length (ephemerals ss) ≡ (if has_kind Ephemeral ss then 1 else 0)
  pub last : has_kind Ephemeral ss ≡ true
      → AllByRecursion (λ (s : SegInfo). s.base ≤ (segment_or_empty (ephemerals ss)).base) (of_kind Small ss)

any_push : {X : Type 0} (test : X → Bool) (xs : List X) (y : X) → list_any test (xs ++ y ∷ [])
    ≡ (list_any test xs || test y)
any_push test [] y = swap (test y)
  where
    swap : (b : Bool) → (b || false) ≡ (false || b)
    swap true = refl
    swap false = refl
any_push test (x ∷ xs) y =
    ap (λ (b : Bool). test x || b) (any_push test xs y) ∙ joined (test x) (list_any test xs) (test y)
  where
    joined : (a b c : Bool) → (a || (b || c)) ≡ ((a || b) || c)
    joined true b c = refl
    joined false b c = refl

pub has_kind-push : (kind : SegKind) (ss : List SegInfo) (s : SegInfo)
    → has_kind kind (ss ++ s ∷ []) ≡ (has_kind kind ss || same_kind kind s.kind)
has_kind-push kind ss s = any_push (λ (t : SegInfo). same_kind kind t.kind) ss s

of_kind-push : (kind : SegKind) (ss : List SegInfo) (s : SegInfo)
    → of_kind kind (ss ++ s ∷ []) ≡ of_kind kind ss ++ of_kind kind (s ∷ [])
of_kind-push kind ss s = filter-append (λ (t : SegInfo). same_kind kind t.kind) ss (s ∷ [])

all_passing : (P : SegInfo → Type 0) (kind : SegKind) (ss : List SegInfo) → AllByRecursion P ss
    → AllByRecursion P (of_kind kind ss)
all_passing P kind [] all = tt
all_passing P kind (s ∷ ss) all = go (same_kind kind s.kind) (all_passing P kind ss all.1)
  where
    go : (b : Bool) → AllByRecursion P (of_kind kind ss)
        → AllByRecursion P (if b then s ∷ of_kind kind ss else of_kind kind ss)
    go true rest = (all.0, rest)
    go false rest = rest

-- one that isn't of these kinds changes nothing
module _ (ss : List SegInfo) (s : SegInfo) (top : ℕ) (order : AreInOrder ss top) (up : top ≤ s.base) where
  below_more : AllByRecursion (λ (t : SegInfo). t.base ≤ reserved_end s) (ss ++ s ∷ [])
  below_more =
      all_push (λ (t : SegInfo). t.base ≤ reserved_end s) ss s
      (all_weaker (λ (t : SegInfo). t.base ≤ top) (λ (t : SegInfo). t.base ≤ reserved_end s) ss (λ t l. omega arith)
      order.below) (omega arith)

  other_more : same_kind Ephemeral s.kind ≡ false → same_kind Small s.kind ≡ false
      → AreInOrder (ss ++ s ∷ []) (reserved_end s)
  other_more old large =
      let young : ephemerals (ss ++ s ∷ []) ≡ ephemerals ss =
      of_kind-push Ephemeral ss s ∙ rw old (append-nil (ephemerals ss)) in
      let small : of_kind Small (ss ++ s ∷ []) ≡ of_kind Small ss =
      of_kind-push Small ss s ∙ rw large (append-nil (of_kind Small ss)) in
      let has : has_kind Ephemeral (ss ++ s ∷ []) ≡ has_kind Ephemeral ss =
      has_kind-push Ephemeral ss s ∙ rw old (or_false (has_kind Ephemeral ss)) in
      record {
        below = below_more;
        count =
            ap length young ∙ order.count ∙ ap (λ (b : Bool). if b then 1 else 0) (sym has);
        last = λ on.
            subst (λ (xs : List SegInfo). AllByRecursion (λ (t : SegInfo). t.base
            ≤ (segment_or_empty (ephemerals (ss ++ s ∷ []))).base) xs) (sym small)
            (subst (λ (ys : List SegInfo). AllByRecursion (λ (t : SegInfo). t.base ≤ (segment_or_empty ys).base)
            (of_kind Small ss)) (sym young) (order.last (sym has ∙ on)));
      }
    where
      or_false : (b : Bool) → (b || false) ≡ b
      or_false true = refl
      or_false false = refl

  -- a small one comes where none is ephemeral
  small_more : has_kind Ephemeral ss ≡ false → same_kind Ephemeral s.kind ≡ false
      → AreInOrder (ss ++ s ∷ []) (reserved_end s)
  small_more none old =
      let young : ephemerals (ss ++ s ∷ []) ≡ ephemerals ss =
      of_kind-push Ephemeral ss s ∙ rw old (append-nil (ephemerals ss)) in
      let has : has_kind Ephemeral (ss ++ s ∷ []) ≡ false = has_kind-push Ephemeral ss s ∙ rw (none, old) refl in
      record {
        below = below_more;
        count =
            ap length young ∙ order.count ∙ ap (λ (b : Bool). if b then 1 else 0) (none ∙ sym has);
        last = λ on. absurd (both_ways (has_kind Ephemeral (ss ++ s ∷ [])) has on);
      }

  -- and so does the ephemeral one
  young_more : has_kind Ephemeral ss ≡ false → same_kind Ephemeral s.kind ≡ true → same_kind Small s.kind ≡ false
      → AreInOrder (ss ++ s ∷ []) (reserved_end s)
  young_more none here large =
      let empty : ephemerals ss ≡ [] =
      nil_from_length (ephemerals ss) (order.count ∙ ap (λ (b : Bool). if b then 1 else 0) none) in
      let young : ephemerals (ss ++ s ∷ []) ≡ s ∷ [] =
      of_kind-push Ephemeral ss s ∙ ap (λ (xs : List SegInfo). xs ++ of_kind Ephemeral (s ∷ [])) empty
      ∙ rw here refl in
      let small : of_kind Small (ss ++ s ∷ []) ≡ of_kind Small ss =
      of_kind-push Small ss s ∙ rw large (append-nil (of_kind Small ss)) in
      let has : has_kind Ephemeral (ss ++ s ∷ []) ≡ true = has_kind-push Ephemeral ss s ∙ rw (none, here) refl in
      record {
        below = below_more;
        count = ap length young ∙ ap (λ (b : Bool). if b then 1 else 0) (sym has);
        last = λ on.
            subst (λ (xs : List SegInfo). AllByRecursion (λ (t : SegInfo). t.base
            ≤ (segment_or_empty (ephemerals (ss ++ s ∷ []))).base) xs) (sym small)
            (subst (λ (ys : List SegInfo). AllByRecursion (λ (t : SegInfo). t.base ≤ (segment_or_empty ys).base)
            (of_kind Small ss)) (sym young)
            (all_weaker (λ (t : SegInfo). t.base ≤ top) (λ (t : SegInfo). t.base ≤ s.base) (of_kind Small ss)
            (λ t l. omega arith)
            (all_passing (λ (t : SegInfo). t.base ≤ top) Small ss order.below)));
      }

  -- no ephemeral one is there before a small or an ephemeral one
  none_before : (kind : SegKind) → may_follow ss kind ≡ true
      → (kind ≡ Small → has_kind Ephemeral ss ≡ false) × (kind ≡ Ephemeral → has_kind Ephemeral ss ≡ false)
  none_before Small may = (λ e. not_true (has_kind Ephemeral ss) may, λ e. absurd cc)
    where
      not_true : (b : Bool) → not b ≡ true → b ≡ false
      not_true true e = sym e
      not_true false e = refl
  none_before Ephemeral may = (λ e. absurd cc, λ e. not_true (has_kind Ephemeral ss) may)
    where
      not_true : (b : Bool) → not b ≡ true → b ≡ false
      not_true true e = sym e
      not_true false e = refl
  none_before Large may = (λ e. absurd cc, λ e. absurd cc)
  none_before Pinned may = (λ e. absurd cc, λ e. absurd cc)

  -- ONE MORE SEGMENT
  pub order_more : may_follow ss s.kind ≡ true → AreInOrder (ss ++ s ∷ []) (reserved_end s)
  order_more may = go s.kind refl
    where
      go : (kind : SegKind) → s.kind ≡ kind → AreInOrder (ss ++ s ∷ []) (reserved_end s)
      go Small e =
          small_more ((none_before s.kind may).0 e) (ap (same_kind Ephemeral) e)
      go Ephemeral e =
          young_more ((none_before s.kind may).1 e) (ap (same_kind Ephemeral) e) (ap (same_kind Small) e)
      go Large e = other_more (ap (same_kind Ephemeral) e) (ap (same_kind Small) e)
      go Pinned e = other_more (ap (same_kind Ephemeral) e) (ap (same_kind Small) e)

  -- where the new one is ephemeral, none was before
  pub young_first : may_follow ss s.kind ≡ true → is_young s ≡ true → has_kind Ephemeral ss ≡ false
  young_first may young = go s.kind refl
    where
      go : (kind : SegKind) → s.kind ≡ kind → has_kind Ephemeral ss ≡ false
      go Small e = (none_before s.kind may).0 e
      go Ephemeral e = (none_before s.kind may).1 e
      go Large e = absurd (both_ways (is_young s) (ap (λ (k : SegKind). same_kind k Ephemeral) e) young)
      go Pinned e = absurd (both_ways (is_young s) (ap (λ (k : SegKind). same_kind k Ephemeral) e) young)

pub none_in_order : (top : ℕ) → AreInOrder [] top
none_in_order top = record { below = tt; count = refl; last = λ on. tt }
