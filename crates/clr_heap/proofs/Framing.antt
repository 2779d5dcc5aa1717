-- Lists of segments: what each of them is, and what stays where one is changed, added or taken away.
use Rattle.std.proofs.Common.{◌≡◌, inl, inr, ℕ, zero, suc, ◌+◌, ◌<◌, ◌≤◌, Bool, true, false, List, [], ◌∷◌, ◌++◌}
use Rattle.std.proofs.Common.{length, get_or, set, map, filter, sum_by, refl, ap, sym, ◌∙◌, subst, arith}
use Rattle.std.proofs.lemmas.Bool.{cases_Bool}
use Rattle.std.proofs.lemmas.List.{get_or-map, length-map}
use Rattle.std.proofs.lemmas.List.Sums.{sum-map, sum_by-append}
use Rattle.std.specs.List.{AllByRecursion, remove, sum}
use Rattle.clr_mem.specs.Words.{Memory}
use Rattle.clr_types.specs.Segments.{empty_segment, reserved_end, same_kind, sealed_kind, sealed_segment}
use Rattle.clr_types.specs.Segments.{segment_or_empty}
use Rattle.clr_types.specs.LawfulLayout.{AreBounded, AreDisjoint, IsBoundedSegment, IsLawfulSegment}
use Rattle.clr_types.specs.declared.segment.SegInfo.{SegInfo}
use Rattle.clr_types.specs.declared.segment.SegKind.{SegKind}
use Rattle.clr_types.specs.declared.segment.SegKind.TheVariants.{Small, Ephemeral, Large, Pinned}
use Rattle.clr_heap.specs.Memories.{memory_index, shape_of, shapes, IsAbove, IsApart}
use Rattle.clr_heap.specs.View.{extent_of, extents, HeapView, IsHeap, SameShape, segment_at}
use Rattle.clr_heap.proofs.Storing.{contains_from, index_below}

-- ---- what holds of each element

pub all_at : {X : Type 0} (P : X → Type 0) (xs : List X) (k : ℕ) (d : X) → AllByRecursion P xs → k < length xs
    → P (get_or xs k d)
all_at P [] k d h l = absurd (omega arith)
all_at P (x ∷ xs) zero d h l = h.0
all_at P (x ∷ xs) (suc k) d h l = all_at P xs k d h.1 (omega arith)

pub all_set : {X : Type 0} (P : X → Type 0) (xs : List X) (k : ℕ) (y : X) → AllByRecursion P xs → P y
    → AllByRecursion P (set xs k y)
all_set P [] k y h p = tt
all_set P (x ∷ xs) zero y h p = (p, h.1)
all_set P (x ∷ xs) (suc k) y h p = (h.0, all_set P xs k y h.1 p)

pub all_push : {X : Type 0} (P : X → Type 0) (xs : List X) (y : X) → AllByRecursion P xs → P y
    → AllByRecursion P (xs ++ y ∷ [])
all_push P [] y h p = (p, tt)
all_push P (x ∷ xs) y h p = (h.0, all_push P xs y h.1 p)

pub all_remove : {X : Type 0} (P : X → Type 0) (xs : List X) (k : ℕ) → AllByRecursion P xs
    → AllByRecursion P (remove xs k)
all_remove P [] zero h = tt
all_remove P [] (suc k) h = tt
all_remove P (x ∷ xs) zero h = h.1
all_remove P (x ∷ xs) (suc k) h = (h.0, all_remove P xs k h.1)

pub all_map : {X : Type 0} (P Q : X → Type 0) (f : X → X) (xs : List X) → ((x : X) → P x → Q (f x))
    → AllByRecursion P xs → AllByRecursion Q (map f xs)
all_map P Q f [] g h = tt
all_map P Q f (x ∷ xs) g h = (g x h.0, all_map P Q f xs g h.1)

pub all_weaker : {X : Type 0} (P Q : X → Type 0) (xs : List X) → ((x : X) → P x → Q x) → AllByRecursion P xs
    → AllByRecursion Q xs
all_weaker P Q [] g h = tt
all_weaker P Q (x ∷ xs) g h = (g x h.0, all_weaker P Q xs g h.1)

-- ---- where segments stand, by their extents alone

pub above_from_all : (b : ℕ) (ss : List SegInfo) → AllByRecursion (λ r. b ≤ r.base) ss → IsAbove b (extents ss)
above_from_all b [] h = tt
above_from_all b (s ∷ ss) h = (h.0, above_from_all b ss h.1)

pub all_from_above : (b : ℕ) (ss : List SegInfo) → IsAbove b (extents ss) → AllByRecursion (λ r. b ≤ r.base) ss
all_from_above b [] h = tt
all_from_above b (s ∷ ss) h = (h.0, all_from_above b ss h.1)

pub apart_from_disjoint : (ss : List SegInfo) → AreDisjoint ss → IsApart (extents ss)
apart_from_disjoint [] h = tt
apart_from_disjoint (s ∷ ss) h = (above_from_all (reserved_end s) ss h.0, apart_from_disjoint ss h.1)

pub disjoint_from_apart : (ss : List SegInfo) → IsApart (extents ss) → AreDisjoint ss
disjoint_from_apart [] h = tt
disjoint_from_apart (s ∷ ss) h = (all_from_above (reserved_end s) ss h.0, disjoint_from_apart ss h.1)

pub disjoint_same : (ss ts : List SegInfo) → extents ss ≡ extents ts → AreDisjoint ss → AreDisjoint ts
disjoint_same ss ts e h = disjoint_from_apart ts (subst IsApart e (apart_from_disjoint ss h))

module _ (Q : ℕ × ℕ → Type 0) where
  extents_from_all : (ss : List SegInfo) → AllByRecursion (λ s. Q (extent_of s)) ss → AllByRecursion Q (extents ss)
  extents_from_all [] h = tt
  extents_from_all (s ∷ ss) h = (h.0, extents_from_all ss h.1)

  all_from_extents : (ss : List SegInfo) → AllByRecursion Q (extents ss) → AllByRecursion (λ s. Q (extent_of s)) ss
  all_from_extents [] h = tt
  all_from_extents (s ∷ ss) h = (h.0, all_from_extents ss h.1)

  -- what holds of all by their extents stays where these do
  pub all_same : (ss us : List SegInfo) → extents ss ≡ extents us → AllByRecursion (λ s. Q (extent_of s)) ss
      → AllByRecursion (λ s. Q (extent_of s)) us
  all_same ss us e h =
      let P : List (ℕ × ℕ) → Type 0 = λ es. AllByRecursion Q es in
      all_from_extents us (subst P e (extents_from_all ss h))

pub below_same : (t : ℕ) (ss us : List SegInfo) → extents ss ≡ extents us
    → AllByRecursion (λ (s : SegInfo). reserved_end s ≤ t) ss → AllByRecursion (λ (s : SegInfo). reserved_end s ≤ t) us
below_same t = all_same (λ e. e.0 + e.1 ≤ t)

pub bases_same : (b : ℕ) (ss us : List SegInfo) → extents ss ≡ extents us
    → AllByRecursion (λ (s : SegInfo). s.base ≤ b) ss → AllByRecursion (λ (s : SegInfo). s.base ≤ b) us
bases_same b = all_same (λ e. e.0 ≤ b)

-- how many bytes the segments reserve
abbrev pub reserved_in : List SegInfo → ℕ
reserved_in ss = sum_by (λ s. s.reserved) ss

reserved_map : (ss : List SegInfo) → reserved_in ss ≡ sum (map (λ (e : ℕ × ℕ). e.1) (extents ss))
reserved_map ss = sym (sum-map (λ (s : SegInfo). s.reserved) ss) ∙ ap sum (maps ss)
  where
    maps : (ss : List SegInfo) → map (λ (s : SegInfo). s.reserved) ss ≡ map (λ (e : ℕ × ℕ). e.1) (extents ss)
    maps [] = refl
    maps (s ∷ ss) = ap (λ (ns : List ℕ). s.reserved ∷ ns) (maps ss)

pub reserved_same : (ss us : List SegInfo) → extents ss ≡ extents us → reserved_in us ≡ reserved_in ss
reserved_same ss us e =
    reserved_map us ∙ ap (λ (es : List (ℕ × ℕ)). sum (map (λ (e : ℕ × ℕ). e.1) es)) (sym e) ∙ sym (reserved_map ss)

-- ---- one segment more, or one less

pub disjoint_push : (ss : List SegInfo) (t : SegInfo) → AreDisjoint ss
    → AllByRecursion (λ (s : SegInfo). reserved_end s ≤ t.base) ss → AreDisjoint (ss ++ t ∷ [])
disjoint_push [] t h b = (tt, tt)
disjoint_push (s ∷ ss) t h b =
    (all_push (λ (r : SegInfo). reserved_end s ≤ r.base) ss t h.0 b.0, disjoint_push ss t h.1 b.1)

pub disjoint_remove : (ss : List SegInfo) (k : ℕ) → AreDisjoint ss → AreDisjoint (remove ss k)
disjoint_remove [] zero h = tt
disjoint_remove [] (suc k) h = tt
disjoint_remove (s ∷ ss) zero h = h.1
disjoint_remove (s ∷ ss) (suc k) h =
    (all_remove (λ (r : SegInfo). reserved_end s ≤ r.base) ss k h.0, disjoint_remove ss k h.1)

pub map_remove : {X Y : Type 0} (f : X → Y) (xs : List X) (k : ℕ) → map f (remove xs k) ≡ remove (map f xs) k
map_remove f [] zero = refl
map_remove f [] (suc k) = refl
map_remove f (x ∷ xs) zero = refl
map_remove f (x ∷ xs) (suc k) = ap (λ ys. f x ∷ ys) (map_remove f xs k)

pub reserved_push : (ss : List SegInfo) (t : SegInfo) → reserved_in (ss ++ t ∷ []) ≡ reserved_in ss + t.reserved
reserved_push ss t = sum_by-append (λ (s : SegInfo). s.reserved) ss (t ∷ []) ∙ omega arith

pub reserved_cons : (s : SegInfo) (ss : List SegInfo) → reserved_in (s ∷ ss) ≡ s.reserved + reserved_in ss
reserved_cons s ss = sum_by-append (λ (s : SegInfo). s.reserved) (s ∷ []) ss ∙ omega arith

pub reserved_remove : (ss : List SegInfo) (k : ℕ) → reserved_in (remove ss k) ≤ reserved_in ss
reserved_remove [] zero = omega arith
reserved_remove [] (suc k) = omega arith
reserved_remove (s ∷ ss) zero = let e = reserved_cons s ss in omega arith
reserved_remove (s ∷ ss) (suc k) =
    let ih = reserved_remove ss k in
    let e = reserved_cons s ss in
    let f = reserved_cons s (remove ss k) in
    omega arith

-- ---- the segments of a kind

abbrev pub of_kind : SegKind → List SegInfo → List SegInfo
of_kind kind ss = filter (λ s. same_kind kind s.kind) ss

abbrev pub ephemerals : List SegInfo → List SegInfo
ephemerals ss = of_kind Ephemeral ss

module _ (kind : SegKind) where
  pub of_kind_set : (ss : List SegInfo) (k : ℕ) (t d : SegInfo) → k < length ss
      → extent_of t ≡ extent_of (get_or ss k d)
      → t.kind ≡ (get_or ss k d).kind → extents (of_kind kind (set ss k t)) ≡ extents (of_kind kind ss)
  of_kind_set [] k t d l e f = absurd (omega arith)
  of_kind_set (s ∷ ss) zero t d l e f = elim (cases_Bool (same_kind kind s.kind)) [
    | inl yes_here ↦ rw (f, yes_here) (ap (λ (p : ℕ × ℕ). p ∷ extents (of_kind kind ss)) e)
    | inr no_here ↦ rw (f, no_here) refl
  ]
  of_kind_set (s ∷ ss) (suc k) t d l e f =
      let ih = of_kind_set ss k t d (omega arith) e f in
      elim (cases_Bool (same_kind kind s.kind)) [
        | inl yes_here ↦ rw yes_here (ap (λ (ps : List (ℕ × ℕ)). extent_of s ∷ ps) ih)
        | inr no_here ↦ rw no_here ih
      ]

  pub of_kind_push : (ss : List SegInfo) (t : SegInfo) → same_kind kind t.kind ≡ false
      → of_kind kind (ss ++ t ∷ []) ≡ of_kind kind ss
  of_kind_push [] t f = rw f refl
  of_kind_push (s ∷ ss) t f =
      let ih = of_kind_push ss t f in
      elim (cases_Bool (same_kind kind s.kind)) [
        | inl yes_here ↦ rw yes_here (ap (λ (ts : List SegInfo). s ∷ ts) ih)
        | inr no_here ↦ rw no_here ih
      ]

pub ephemerals_set : (ss : List SegInfo) (k : ℕ) (t d : SegInfo) → k < length ss
    → extent_of t ≡ extent_of (get_or ss k d) → t.kind ≡ (get_or ss k d).kind
    → extents (ephemerals (set ss k t)) ≡ extents (ephemerals ss)
ephemerals_set = of_kind_set Ephemeral

pub ephemerals_remove : (ss : List SegInfo) (k : ℕ) (d : SegInfo) → k < length ss
    → same_kind Ephemeral (get_or ss k d).kind ≡ false → ephemerals (remove ss k) ≡ ephemerals ss
ephemerals_remove [] k d l f = absurd (omega arith)
ephemerals_remove (s ∷ ss) zero d l f = rw f refl
ephemerals_remove (s ∷ ss) (suc k) d l f =
    let ih = ephemerals_remove ss k d (omega arith) f in
    elim (cases_Bool (same_kind Ephemeral s.kind)) [
      | inl yes_here ↦ rw yes_here (ap (λ (ts : List SegInfo). s ∷ ts) ih)
      | inr no_here ↦ rw no_here ih
    ]

-- what holds of all elements holds of those that pass a test, also where one is taken away
pub all_passing : {X : Type 0} (P : X → Type 0) (test : X → Bool) (xs : List X) → AllByRecursion P xs
    → AllByRecursion P (filter test xs)
all_passing P test [] h = tt
all_passing P test (x ∷ xs) h =
    let ih = all_passing P test xs h.1 in
    elim (cases_Bool (test x)) [ inl passes ↦ rw passes (h.0, ih) | inr fails ↦ rw fails ih ]

pub all_passing_remove : {X : Type 0} (P : X → Type 0) (test : X → Bool) (xs : List X) (k : ℕ)
    → AllByRecursion P (filter test xs) → AllByRecursion P (filter test (remove xs k))
all_passing_remove P test [] zero h = tt
all_passing_remove P test [] (suc k) h = tt
all_passing_remove P test (x ∷ xs) zero h = elim (cases_Bool (test x)) [
  | inl passes ↦ (rw passes at h).1
  | inr fails ↦ rw fails at h
]
all_passing_remove P test (x ∷ xs) (suc k) h = elim (cases_Bool (test x)) [
  | inl passes ↦
      let both : P x × AllByRecursion P (filter test xs) = rw passes at h in
      rw passes (both.0, all_passing_remove P test xs k both.1)
  | inr fails ↦
      let rest : AllByRecursion P (filter test xs) = rw fails at h in
      rw fails (all_passing_remove P test xs k rest)
]

never_ephemeral : (kind : SegKind) → same_kind Ephemeral (sealed_kind kind) ≡ false
never_ephemeral Small = refl
never_ephemeral Ephemeral = refl
never_ephemeral Large = refl
never_ephemeral Pinned = refl

-- a new ephemeral segment after sealed ones is the only one
pub ephemerals_sealed : (ss : List SegInfo) (t : SegInfo) → same_kind Ephemeral t.kind ≡ true
    → ephemerals (map sealed_segment ss ++ t ∷ []) ≡ t ∷ []
ephemerals_sealed [] t f = rw f refl
ephemerals_sealed (s ∷ ss) t f = let other = never_ephemeral s.kind in rw other (ephemerals_sealed ss t f)

pub extents_sealed : (ss : List SegInfo) → extents (map sealed_segment ss) ≡ extents ss
extents_sealed [] = refl
extents_sealed (s ∷ ss) = ap (λ (ps : List (ℕ × ℕ)). extent_of s ∷ ps) (extents_sealed ss)

abbrev first_extent : List (ℕ × ℕ) → ℕ × ℕ
first_extent [] = (0, 0)
first_extent (p ∷ ps) = p

first_is : (ss : List SegInfo) → extent_of (segment_or_empty ss) ≡ first_extent (extents ss)
first_is [] = refl
first_is (s ∷ ss) = refl

-- where the extents of the ephemeral segments stay, so does their number and where the first stands
pub same_first : (ss us : List SegInfo) → extents ss ≡ extents us
    → extent_of (segment_or_empty ss) ≡ extent_of (segment_or_empty us)
same_first ss us e = first_is ss ∙ ap first_extent e ∙ sym (first_is us)

pub same_count : (ss us : List SegInfo) → extents ss ≡ extents us → length ss ≡ length us
same_count ss us e = sym (length-map ss extent_of) ∙ ap length e ∙ length-map us extent_of

-- ---- segment k of a heap

pub count_is : (h : HeapView) → IsHeap h → length h.memories ≡ length h.segments
count_is h i = sym (length-map h.memories shape_of) ∙ ap length i.memories ∙ length-map h.segments extent_of

pub memory_extent : (ms : List Memory) (ss : List SegInfo) (k : ℕ) (m : Memory) (s : SegInfo) → shapes ms ≡ extents ss
    → k < length ms → k < length ss → shape_of (get_or ms k m) ≡ extent_of (get_or ss k s)
memory_extent ms ss k m s e l l' =
    sym (get_or-map shape_of ms k m (0, 0) l) ∙ ap (λ (ps : List (ℕ × ℕ)). get_or ps k (0, 0)) e
    ∙ get_or-map extent_of ss k s (0, 0) l'

-- the addresses that a segment reserves have words
pub held_in : (h : HeapView) (k a : ℕ) → IsHeap h → k < length h.segments → (segment_at h k).base ≤ a
    → a < reserved_end (segment_at h k) → memory_index h.memories a < length h.memories
held_in h k a i l low high =
    let d : Memory = record { base = 0; words = [] } in
    let n = count_is h i in
    let within : k < length h.memories = omega arith in
    let shape = memory_extent h.memories h.segments k d empty_segment i.memories within l in
    let base = ap (λ (p : ℕ × ℕ). p.0) shape in
    let size = ap (λ (p : ℕ × ℕ). p.1) shape in
    index_below h.memories k a d within (contains_from (get_or h.memories k d) a (omega arith) (omega arith))

-- memories stand apart, since segments do
pub memories_apart : (h : HeapView) → IsHeap h → IsApart (shapes h.memories)
memories_apart h i = subst IsApart (sym i.memories) (apart_from_disjoint h.segments i.disjoint)

pub lawful_at : (h : HeapView) (k : ℕ) → IsHeap h → k < length h.segments → IsLawfulSegment (segment_at h k)
lawful_at h k i l = all_at IsLawfulSegment h.segments k empty_segment i.segments l

pub bounded_at : (h : HeapView) (k : ℕ) → AreBounded h.segments → k < length h.segments
    → IsBoundedSegment (segment_at h k)
bounded_at h k all l = all_at IsBoundedSegment h.segments k empty_segment all l

pub below_top_at : (h : HeapView) (k : ℕ) → IsHeap h → k < length h.segments → reserved_end (segment_at h k) ≤ h.top
below_top_at h k i l = all_at (λ (s : SegInfo). reserved_end s ≤ h.top) h.segments k empty_segment i.below_top l

-- ---- words alone

-- shapes that stay, backwards
pub SameShape-sym : (old new : HeapView) → SameShape old new → SameShape new old
SameShape-sym old new h = record {
  memories = sym h.memories;
  others = ap (λ (g : HeapView). record g { memories = old.memories }) (sym h.others);
}

-- and one after the other
pub SameShape-trans : (a b c : HeapView) → SameShape a b → SameShape b c → SameShape a c
SameShape-trans a b c h k = record {
  memories = k.memories ∙ h.memories;
  others = k.others ∙ ap (λ (g : HeapView). record g { memories = c.memories }) h.others;
}
