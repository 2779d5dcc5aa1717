-- The bytes of the parts of the small heap that a collection goes over.
use Rattle.std.proofs.Common.{◌≡◌, ℕ, ◌+◌, ◌-◌, ◌^◌, ◌<◌, ◌≤◌, [], ◌∷◌, filter, length, sum_by, sym, ap, subst, ◌∙◌}
use Rattle.std.proofs.Common.{zero, suc, List, take, arith, Bool, true, false, ◌&&◌, ◌||◌, ◌==◌, if◌then◌else◌, refl}
use Rattle.std.proofs.lemmas.Bool.{ne_eqb}
use Rattle.std.proofs.lemmas.List.{take_more, take_all}
use Rattle.std.proofs.lemmas.List.Elements.{filter-append}
use Rattle.std.proofs.lemmas.List.Sums.{sum_by-append, sum_by-cons, sum_by_more, sum_by-take-le}
use Rattle.clr_types.specs.Rising.{first, IsIn}
use Rattle.clr_types.proofs.ChangedLists.{out_of_filter}
use Rattle.clr_types.specs.Segments.{empty_segment, ephemeral, is_small_or_ephemeral, same_kind, segments_of}
use Rattle.clr_types.specs.declared.segment.SegInfo.{SegInfo}
use Rattle.clr_types.specs.declared.segment.SegKind.{SegKind}
use Rattle.clr_types.specs.declared.segment.SegKind.TheVariants.{Ephemeral, Large, Small, Pinned}
use Rattle.clr_types.proofs.ListMembers.{filter-on}
use Rattle.clr_types.proofs.SegmentFacts.{one_alone}
use Rattle.clr_heap.specs.View.{first_of, frame, HeapView, IsHeap, last_of, segment_at}
use Rattle.clr_heap.proofs.Framing.{lawful_at}
use Rattle.clr_model.specs.Collection.{extent}
use Rattle.clr_model.specs.Sweep.{part_start, taking_part}

-- an ephemeral segment belongs to the small heap
pub kind-small : (k : SegKind) → same_kind Ephemeral k ≡ true → is_small_or_ephemeral k ≡ true
kind-small Small e = refl
kind-small Ephemeral e = refl
kind-small Large e = absurd cc
kind-small Pinned e = absurd cc

-- what a segment adds
abbrev adds : HeapView → ℕ → SegInfo → ℕ
adds h g s = s.end - part_start (frame h) g s

abbrev takes : ℕ → SegInfo → Bool
takes g s = is_small_or_ephemeral s.kind && (same_kind Ephemeral s.kind || (g == 2))

-- the bytes of the k lowest segments
pub record IsSummed (h : HeapView) (k total : ℕ) : Type 0 where
  pub is : total ≡ sum_by (adds h 2) (filter (takes 2) (take k h.segments))
  pub under : total ≤ sum_by (λ (s : SegInfo). s.reserved) (take k h.segments)

or-true : (b : Bool) → (b || true) ≡ true
or-true true = refl
or-true false = refl

and-one : (b : Bool) → (b && true) ≡ b
and-one true = refl
and-one false = refl

module _ (h : HeapView) (heap : IsHeap h) (k total : ℕ) (s : IsSummed h k total) (inside : k < length h.segments) where
  abbrev here : SegInfo
  here = segment_at h k

  takes-is : takes 2 here ≡ is_small_or_ephemeral here.kind
  takes-is = ap (λ b. is_small_or_ephemeral here.kind && b) (or-true (same_kind Ephemeral here.kind))
      ∙ and-one (is_small_or_ephemeral here.kind)

  one-more : sum_by (adds h 2) (filter (takes 2) (take (k + 1) h.segments))
      ≡ sum_by (adds h 2) (filter (takes 2) (take k h.segments))
      + sum_by (adds h 2) (if takes 2 here then here ∷ [] else [])
  one-more =
      ap (λ ss. sum_by (adds h 2) (filter (takes 2) ss)) (take_more h.segments k empty_segment inside)
      ∙ ap (sum_by (adds h 2)) (filter-append (takes 2) (take k h.segments) (here ∷ []))
      ∙ sum_by-append (adds h 2) (filter (takes 2) (take k h.segments)) (if takes 2 here then here ∷ [] else [])

  reserved-more : sum_by (λ (s : SegInfo). s.reserved) (take (k + 1) h.segments)
      ≡ sum_by (λ (s : SegInfo). s.reserved) (take k h.segments) + here.reserved
  reserved-more = sum_by_more (λ (s : SegInfo). s.reserved) h.segments k empty_segment inside

  start-is : part_start (frame h) 2 here ≡ first_of h k
  start-is = go (same_kind Ephemeral here.kind)
    where
      go : (b : Bool) → (if b then first_of h k else first_of h k) ≡ first_of h k
      go true = refl
      go false = refl

  pub summed-small : is_small_or_ephemeral here.kind ≡ true
      → IsSummed h (k + 1) (total + (here.end - (here.base + 0x1000)))
  summed-small on =
      let low = (lawful_at h k heap inside).low in
      let high = (lawful_at h k heap inside).high in
      let r = reserved-more in
      let u = s.under in
      let a : sum_by (adds h 2) (if takes 2 here then here ∷ [] else []) ≡ adds h 2 here + 0 =
      ap (λ b. sum_by (adds h 2) (if b then here ∷ [] else [])) (takes-is ∙ on) ∙ sum_by-cons (adds h 2) here [] in
      let b : adds h 2 here ≡ here.end - first_of h k = ap (λ n. here.end - n) start-is in
      record {
        is = sym (one-more ∙ ap (λ n. sum_by (adds h 2) (filter (takes 2) (take k h.segments)) + n) a
            ∙ ap (λ n. n + (adds h 2 here + 0)) (sym s.is) ∙ omega (arith, b));
        under = omega arith;
      }

  pub summed-large : is_small_or_ephemeral here.kind ≡ false → IsSummed h (k + 1) total
  summed-large off =
      let r = reserved-more in
      let u = s.under in
      let a : sum_by (adds h 2) (if takes 2 here then here ∷ [] else []) ≡ 0 =
      ap (λ b. sum_by (adds h 2) (if b then here ∷ [] else [])) (takes-is ∙ off) in
      let w = one-more in
      let i = s.is in
      record { is = omega (arith, w, a, i); under = omega arith }

  pub summed-fits : total + (here.end - (here.base + 0x1000)) < 2 ^ 64
  summed-fits =
      let high = (lawful_at h k heap inside).high in
      let r = reserved-more in
      let u = s.under in
      let t = sum_by-take-le (λ (s : SegInfo). s.reserved) h.segments (k + 1) in
      let limit = heap.within_limit in
      let least = heap.limit_small in
      omega arith

pub summed-all : (h : HeapView) (k total : ℕ) → IsSummed h k total → length h.segments ≤ k
    → total ≡ extent (frame h) 2
summed-all h k total s l = s.is ∙ ap (λ ss. sum_by (adds h 2) (filter (takes 2) ss)) (take_all k h.segments l)

-- the first of what passes a test have no more than all
passing-take : (f : SegInfo → ℕ) (t : SegInfo → Bool) (n : ℕ) (ss : List SegInfo)
    → sum_by f (filter t (take n ss)) ≤ sum_by f (filter t ss)
passing-take f t zero ss = omega arith
passing-take f t (suc n) [] = omega arith
passing-take f t (suc n) (s ∷ ss) = go (t s) (passing-take f t n ss)
  where
    go : (b : Bool) → sum_by f (filter t (take n ss)) ≤ sum_by f (filter t ss)
        → sum_by f (if b then s ∷ filter t (take n ss) else filter t (take n ss))
        ≤ sum_by f (if b then s ∷ filter t ss else filter t ss)
    go true less =
        let one = sum_by-cons f s (filter t (take n ss)) in
        let all = sum_by-cons f s (filter t ss) in
        omega (arith, one, all, less)
    go false less = less

-- no number of segments has more bytes than all of them
pub summed-within : (h : HeapView) (k total : ℕ) → IsSummed h k total → total ≤ extent (frame h) 2
summed-within h k total s =
    let is = s.is in
    let less = passing-take (adds h 2) (takes 2) k h.segments in
    omega (arith, is, less)

-- no heap reserves more than a GiB
pub summed-small-all : (h : HeapView) (k total : ℕ) → IsHeap h → IsSummed h k total → total ≤ 1073741824
summed-small-all h k total heap s =
    let t = sum_by-take-le (λ (s : SegInfo). s.reserved) h.segments k in
    let u = s.under in
    let limit = heap.within_limit in
    let least = heap.limit_small in
    omega arith

-- in a young collection the ephemeral segment alone takes part
module _ (h : HeapView) (heap : IsHeap h) (e : ℕ) (young : segment_at h e ≡ ephemeral (frame h)) where
  young-only : (g : ℕ) → g ≤ 1 → taking_part is_small_or_ephemeral g (frame h) ≡ segment_at h e ∷ []
  young-only g l =
      filter-on (takes g) (λ (s : SegInfo). same_kind Ephemeral s.kind) h.segments
      (λ s i. go s (same_kind Ephemeral s.kind) refl)
      ∙ one_alone (segments_of Ephemeral (frame h)) heap.one_ephemeral ∙ ap (λ (s : SegInfo). s ∷ []) (sym young)
    where
      none : (b : Bool) → (b && false) ≡ false
      none true = refl
      none false = refl

      go : (s : SegInfo) (b : Bool) → same_kind Ephemeral s.kind ≡ b
          → (is_small_or_ephemeral s.kind && (b || (g == 2))) ≡ b
      go s true e = ap (λ b. b && true) (kind-small s.kind e)
      go s false e = ap (λ b. is_small_or_ephemeral s.kind && b) (ne_eqb g 2 (λ q. absurd (omega arith)))
          ∙ none (is_small_or_ephemeral s.kind)

  one-young : same_kind Ephemeral (segment_at h e).kind ≡ true
  one-young =
      let there : IsIn (ephemeral (frame h)) (segments_of Ephemeral (frame h)) =
      subst (IsIn (ephemeral (frame h))) (sym (one_alone (segments_of Ephemeral (frame h)) heap.one_ephemeral)) first
      in
      ap (λ (s : SegInfo). same_kind Ephemeral s.kind) young
      ∙ (out_of_filter (λ (s : SegInfo). same_kind Ephemeral s.kind) (ephemeral (frame h)) h.segments there).0

  pub extent-young : (g : ℕ) → g ≤ 1 → extent (frame h) g
      ≡ last_of h e - (if g == 0 then h.start0 else (if g == 1 then h.start1 else first_of h e))
  extent-young g l =
      let a = sum_by-cons (adds h g) (segment_at h e) [] in
      let b : adds h g (segment_at h e)
      ≡ last_of h e - (if g == 0 then h.start0 else (if g == 1 then h.start1 else first_of h e)) =
      ap (λ b. last_of h e - (if b then (if g == 0 then h.start0 else (if g == 1 then h.start1 else first_of h e))
      else first_of h e)) one-young in
      ap (sum_by (adds h g)) (young-only g l) ∙ a ∙ omega (arith, b)

  -- and its bytes are those of a small segment
  pub young-small : (start : ℕ) → first_of h e ≤ start → e < length h.segments → last_of h e - start ≤ 1073741824
  young-small start above inside =
      let is = lawful_at h e heap inside in
      let high = is.high in
      let more = sum_by_more (λ (s : SegInfo). s.reserved) h.segments e empty_segment inside in
      let all = sum_by-take-le (λ (s : SegInfo). s.reserved) h.segments (e + 1) in
      let limit = heap.within_limit in
      let least = heap.limit_small in
      omega arith
