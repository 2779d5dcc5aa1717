-- Heaps where a run of parts of the ephemeral segment gives way to another, and every object stays: objects and
-- contexts.
use Rattle.std.proofs.Common.{◌≡◌, ◌≢◌, ◌⊎◌, inl, inr, ℕ, zero, suc, ◌+◌, ◌%◌, ◌<◌, ◌≤◌, true, List, [], ◌∷◌, ◌++◌}
use Rattle.std.proofs.Common.{length, get_or, set, refl, ap, sym, ◌∙◌, subst, arith, filter, map, Option, None, Some}
use Rattle.std.proofs.lemmas.Bool.{cases_Bool, cases_eq}
use Rattle.std.proofs.lemmas.List.{get_or-set_other, get_or-set_same}
use Rattle.std.proofs.lemmas.List.Elements.{filter-append}
use Rattle.clr_types.specs.Types.{TypeRow}
use Rattle.clr_types.specs.Ranges.{Piece, piece_end}
use Rattle.clr_types.specs.Segments.{empty_segment, same_kind}
use Rattle.clr_types.specs.declared.item.Item.{Item}
use Rattle.clr_types.specs.declared.segment.SegInfo.{SegInfo}
use Rattle.clr_types.specs.declared.segment.SegKind.{SegKind}
use Rattle.clr_types.specs.declared.segment.SegKind.TheVariants.{Ephemeral}
use Rattle.clr_heap.specs.Parts.{Among, items_in, Part, rest_part}
use Rattle.clr_heap.specs.View.{AreWalkable, heap_items, HeapView, IsHeap}
use Rattle.clr_heap.specs.View.{parts_of, segment_at, word_of}
use Rattle.clr_heap.proofs.Framing.{ephemerals}
use Rattle.clr_view.specs.Clean.{AreClean}
use Rattle.clr_view.specs.View.{IsContext, IsHeld, is_object}
use Rattle.clr_view.specs.View.{KeepsObjects, object_in, objects_in, tail_of}
use Rattle.clr_view.proofs.CleanWords.{clean_kept}
use Rattle.clr_view.proofs.Swapping.{back, cells_now, front, items_are, items_were, objects_same, Swaps, walkable_now}

-- ---- parts among parts

pub among_append : (xs ys : List Part) (m : Part) → Among (xs ++ ys) m → Among xs m ⊎ Among ys m
among_append [] ys m k = inr k
among_append (x ∷ xs) ys m k =
    elim k [
      | inl here ↦ inl (inl here)
      | inr later ↦ elim (among_append xs ys m later) [ inl i ↦ inl (inr i) | inr i ↦ inr i ]
    ]

pub among_left : (xs ys : List Part) (m : Part) → Among xs m → Among (xs ++ ys) m
among_left [] ys m k = absurd k
among_left (x ∷ xs) ys m k = elim k [ inl here ↦ inl here | inr later ↦ inr (among_left xs ys m later) ]

pub among_right : (xs ys : List Part) (m : Part) → Among ys m → Among (xs ++ ys) m
among_right [] ys m k = k
among_right (x ∷ xs) ys m k = inr (among_right xs ys m k)

-- ---- the one ephemeral segment

abbrev IsYoung : SegInfo → Type 0
IsYoung s = same_kind Ephemeral s.kind ≡ true

one_more : (s : SegInfo) (ss : List SegInfo) → IsYoung s → length (ephemerals (s ∷ ss)) ≡ suc (length (ephemerals ss))
one_more s ss e = rw e refl

some_young : (ss : List SegInfo) (k : ℕ) → k < length ss → IsYoung (get_or ss k empty_segment)
    → 0 < length (ephemerals ss)
some_young [] k l e = absurd (omega arith)
some_young (s ∷ ss) zero l e = let n = one_more s ss e in omega arith
some_young (s ∷ ss) (suc k) l e = elim (cases_Bool (same_kind Ephemeral s.kind)) [
  | inl here ↦ let n = one_more s ss here in omega arith
  | inr other ↦ rw other (some_young ss k (omega arith) e)
]

one_young : (ss : List SegInfo) (i j : ℕ) → i < length ss → j < length ss → IsYoung (get_or ss i empty_segment)
    → IsYoung (get_or ss j empty_segment) → length (ephemerals ss) ≡ 1 → i ≡ j
one_young [] i j li lj ei ej one = absurd (omega arith)
one_young (s ∷ ss) zero zero li lj ei ej one = refl
one_young (s ∷ ss) zero (suc j) li lj ei ej one = let n = one_more s ss ei in
    let m = some_young ss j (omega arith) ej in absurd (omega arith)
one_young (s ∷ ss) (suc i) zero li lj ei ej one = let n = one_more s ss ej in
    let m = some_young ss i (omega arith) ei in absurd (omega arith)
one_young (s ∷ ss) (suc i) (suc j) li lj ei ej one = elim (cases_Bool (same_kind Ephemeral s.kind)) [
  | inl here ↦ let n = one_more s ss here in let m = some_young ss j (omega arith) ej in absurd (omega arith)
  | inr other ↦ let fewer : length (ephemerals ss) ≡ 1 = rw other at one in
      ap suc (one_young ss i j (omega arith) (omega arith) ei ej fewer)
]

young_kind : (kind : SegKind) → kind ≡ Ephemeral → same_kind Ephemeral kind ≡ true
young_kind kind e = ap (same_kind Ephemeral) e

-- two segments of the ephemeral kind are one
pub same_young : (h : HeapView) (i j : ℕ) → IsHeap h → i < length h.segments → j < length h.segments
    → (segment_at h i).kind ≡ Ephemeral → (segment_at h j).kind ≡ Ephemeral → i ≡ j
same_young h i j heap li lj ei ej =
    one_young h.segments i j li lj (young_kind (segment_at h i).kind ei) (young_kind (segment_at h j).kind ej)
    heap.one_ephemeral

-- ---- objects that stay

-- the objects are what they were, where their items and the words of their cells are
pub objects_kept : (rows : List TypeRow) (h new : HeapView) → AreWalkable rows h
    → filter is_object (heap_items rows new) ≡ filter is_object (heap_items rows h)
    → KeepsObjects rows h new → objects_in rows new ≡ objects_in rows h
objects_kept rows h new walkable kept cells =
    ap (map (object_in rows (word_of new))) kept
    ∙ objects_same rows h new walkable (heap_items rows h) (λ i l. l) cells

-- ---- a run of parts that gives way

module _ (rows : List TypeRow) (h new : HeapView) (k a c : ℕ) (ms ns : List Part)
    (f : Swaps rows h new k a c ms ns) where
  -- ---- the objects

  abbrev before : List Item
  before = front rows h new k a c ms ns f

  abbrev after : List Item
  after = back rows h new k a c ms ns f

  module _ (none_was : filter is_object (items_in ms) ≡ []) (none_is : filter is_object (items_in ns) ≡ []) where
    around : (is : List Item) → filter is_object is ≡ []
        → filter is_object (before ++ (is ++ after)) ≡ filter is_object before ++ filter is_object after
    around is none =
        filter-append is_object before (is ++ after)
        ∙ ap (λ (js : List Item). filter is_object before ++ js) (filter-append is_object is after
        ∙ ap (λ (js : List Item). js ++ filter is_object after) none)

    pub kept_now : filter is_object (heap_items rows new) ≡ filter is_object (heap_items rows h)
    kept_now = ap (filter is_object) (items_are rows h new k a c ms ns f) ∙ around (items_in ns) none_is
        ∙ sym (ap (filter is_object) (items_were rows h new k a c ms ns f) ∙ around (items_in ms) none_was)

    pub objects_now : objects_in rows new ≡ objects_in rows h
    objects_now = objects_kept rows h new f.held.walkable kept_now (cells_now rows h new k a c ms ns f none_was)

  -- ---- the contexts

  -- the rest of one thread's context changes with the parts
  pub record Rests (i : ℕ) (o : Option Piece) : Type 0 where
    pub young : (segment_at h k).kind ≡ Ephemeral
    pub still_young : (segment_at new k).kind ≡ Ephemeral
    pub thread : i < length h.rests
    pub rests : new.rests ≡ set h.rests i o
    pub start0 : new.start0 ≡ h.start0
    pub tail : tail_of h ≤ tail_of new
    pub gone : (j : ℕ) (r : Piece) → j ≢ i → get_or h.rests j None ≡ Some r → Among ms (rest_part r.place (piece_end r))
        → ⊥
    pub own : (r : Piece) → o ≡ Some r → Among ns (rest_part r.place (piece_end r))
    pub aged : (r : Piece) → o ≡ Some r → h.start0 ≤ r.place
    pub clear : (r : Piece) → o ≡ Some r → (b : ℕ) → b % 8 ≡ 0 → r.place ≤ b + 8 → b + 8 < piece_end r
        → word_of new b ≡ 0
    pub fresh : (j : ℕ) (r q : Piece) → j ≢ i → o ≡ Some r → get_or h.rests j None ≡ Some q → r.place ≢ q.place

  module _ (i : ℕ) (o : Option Piece) (s : Rests i o) where
    read_own : (r : Piece) → get_or new.rests i None ≡ Some r → o ≡ Some r
    read_own r e = sym (get_or-set_same h.rests i o None s.thread)
        ∙ ap (λ (rs : List (Option Piece)). get_or rs i None) (sym s.rests) ∙ e

    read_other : (j : ℕ) (r : Piece) → j ≢ i → get_or new.rests j None ≡ Some r → get_or h.rests j None ≡ Some r
    read_other j r ne e = sym (get_or-set_other h.rests i j o None ne)
        ∙ ap (λ (rs : List (Option Piece)). get_or rs j None) (sym s.rests) ∙ e

    at_k : (j : ℕ) (m : Part) → j < length new.segments → (segment_at new j).kind ≡ Ephemeral
        → Among (f.below ++ (ns ++ f.above)) m → Among (parts_of rows new j) m
    at_k j m l e among =
        let count = f.count in
        let bound = f.in_range in
        let same : k ≡ j = same_young new k j f.new_heap (omega arith) l s.still_young e in
        subst (λ q. Among (parts_of rows new q) m) same (subst (λ ps. Among ps m) (sym f.new_parts.parts) among)

    own_context : (r : Piece) → o ≡ Some r → IsContext rows new r
    own_context r e = record {
      among = λ j l young. at_k j (rest_part r.place (piece_end r)) l young
          (among_right f.below (ns ++ f.above) (rest_part r.place (piece_end r))
          (among_left ns f.above (rest_part r.place (piece_end r)) (s.own r e)));
      young = rw s.start0 (s.aged r e);
      clear = s.clear r e;
    }

    other_context : (j : ℕ) (r : Piece) → j ≢ i → get_or h.rests j None ≡ Some r → IsContext rows new r
    other_context j r ne e =
        let old = f.held.contexts j r e in
        let m = rest_part r.place (piece_end r) in
        let was : Among (f.below ++ (ms ++ f.above)) m =
        subst (λ ps. Among ps m) f.old_parts (old.among k f.in_range s.young) in
        let young : new.start0 ≤ r.place = rw s.start0 old.young in
        elim (among_append f.below (ms ++ f.above) m was) [
          | inl there ↦
              let end : piece_end r ≤ a = f.low m there in
              record {
                among = λ q l e. at_k q m l e (among_left f.below (ns ++ f.above) m there);
                young = young;
                clear = λ b z low high. f.words b z (inl (omega arith)) ∙ old.clear b z low high;
              }
          | inr there ↦ elim (among_append ms f.above m there) [
            | inl here ↦ absurd (s.gone j r ne e here)
            | inr past ↦
                let start : c ≤ r.place = f.high m past in
                record {
                  among = λ q l e. at_k q m l e (among_right f.below (ns ++ f.above) m (among_right ns f.above m past));
                  young = young;
                  clear = λ b z low high. f.words b z (inr (omega arith)) ∙ old.clear b z low high;
                }
          ]
        ]

    -- the heap holds objects as before
    pub held_now : IsHeld rows new
    held_now = record {
      walkable = walkable_now rows h new k a c ms ns f;
      contexts = λ j r e. elim (cases_eq j i) [
        | inl same ↦ own_context r (read_own r (subst (λ q. get_or new.rests q None ≡ Some r) same e))
        | inr other ↦ other_context j r other (read_other j r other e)
      ];
      apart = λ j l r q ej el same. elim (cases_eq j i) [
        | inl mine ↦ elim (cases_eq l i) [
          | inl too ↦ mine ∙ sym too
          | inr other ↦ absurd (s.fresh l r q other (read_own r (subst (λ n. get_or new.rests n None ≡ Some r) mine ej))
              (read_other l q other el) same)
        ]
        | inr other ↦ elim (cases_eq l i) [
          | inl mine ↦ absurd (s.fresh j q r other (read_own q (subst (λ n. get_or new.rests n None ≡ Some q) mine el))
              (read_other j r other ej) (sym same))
          | inr too ↦ f.held.apart j l r q (read_other j r other ej) (read_other l q too el) same
        ]
      ];
      young =
          let start = s.start0 in
          let tail = s.tail in
          let low = f.held.young in
          omega (arith, start, tail, low);
    }

    -- and its words are clean where they were
    pub clean_now : filter is_object (items_in ms) ≡ [] → filter is_object (items_in ns) ≡ [] → AreClean rows h
        → AreClean rows new
    clean_now none_was none_is =
        clean_kept rows h new f.heap f.held f.new_heap held_now (objects_now none_was none_is)
        (cells_now rows h new k a c ms ns f none_was)
