-- A fit that copies what finds room, and leaves it where it was, too: the memory is as lawful, and a compaction of
-- generation 1 doesn't tell it from a fit.
use Rattle.std.proofs.Common.{◌≡◌, ℕ, ◌≤◌, List, [], ◌∷◌, ◌++◌, map, refl, sym, ap, subst, ◌∙◌, arith, Bool}
use Rattle.std.proofs.Common.{true, false, append_assoc, filter, if◌then◌else◌, IsSome, nat_le, not, ◌&&◌, ◌||◌, ◌==◌}
use Rattle.std.proofs.lemmas.Bool.{and_from, and_parts, both_ways, le-leb, leb-true}
use Rattle.std.proofs.lemmas.List.{append-nil, map-append}
use Rattle.std.proofs.lemmas.List.Elements.{filter-append}
use Rattle.std.specs.List.{AllByRecursion}
use Rattle.clr_types.specs.LawfulLayout.{DoesNotCross, IsLawfulLayout, IsTiled}
use Rattle.clr_types.specs.Ranges.{by_place, Piece}
use Rattle.clr_types.specs.Rising.{first, IsIn, later}
use Rattle.clr_types.specs.Segments.{ephemeral, generation, is_small_or_ephemeral, Layout, rest_pieces, same_kind}
use Rattle.clr_types.specs.Segments.{segment_of, stands_in}
use Rattle.clr_types.specs.declared.segment.SegKind.{SegKind}
use Rattle.clr_types.specs.declared.segment.SegKind.TheVariants.{Ephemeral, Large, Pinned, Small}
use Rattle.clr_types.proofs.ChangedLists.{out_of_filter}
use Rattle.clr_types.proofs.ListMembers.{any-from, distinct_of_sorted, distinct_right, filter-map, from-map, map-map}
use Rattle.clr_types.proofs.ListMembers.{map-on}
use Rattle.clr_types.proofs.SegmentFacts.{ephemeral-in, ephemeral-kind}
use Rattle.clr_types.proofs.Shuffles.{followed, IsShuffled, shuffled-distinct, shuffled-filter, shuffled-left}
use Rattle.clr_types.proofs.Shuffles.{shuffled-map, shuffled-right, shuffled-same, shuffled-sorted, shuffled-sorts}
use Rattle.clr_types.proofs.Shuffles.{shuffled-sym, shuffled-turn}
use Rattle.clr_types.proofs.SortedLists.{IsDistinctBy, out_of_sorted_by, sorted_by-rises}
use Rattle.clr_model.specs.Machine.{Machine, Object}
use Rattle.clr_model.specs.Lookups.{object_piece, pieces}
use Rattle.clr_model.specs.Lawful.{IsLaid}
use Rattle.clr_model.specs.Compaction.{Move}
use Rattle.clr_model.specs.Fitting.{is_moved, is_older_item}
use Rattle.clr_model.specs.Slide.{slid_object}
use Rattle.clr_model.specs.Sweep.{has_condemned_part, is_condemned, is_in_part, part_start, Survivor, survivor}
use Rattle.clr_model.specs.Sweep.{survivor_piece, survivors}
use Rattle.clr_model.proofs.CondemnedParts.{start-ephemeral}
use Rattle.clr_model.proofs.LawfulPieces.{pieces-distinct}
use Rattle.clr_model.proofs.LawfulSurvivors.{above-start1, young-stands}
use Rattle.clr_fitting.specs.Steps.{copied, copied_layout, fit_in, fitted, finds_room, IsAlike}
use Rattle.clr_fitting.specs.Steps.{IsFittedObject}
use Rattle.clr_fitting.proofs.AlikeLayouts.{none-left}
use Rattle.clr_fitting.proofs.PartFit.{filter-sorted}
use Rattle.clr_fitting.proofs.TwoSteps.{fitted_object, stays_laid}

-- ---- other names

-- what lies where is lawful whatever objects are called
pub laid_seen : (m seen : Machine) (shown : Object → Object) → IsLaid m → seen.types ≡ m.types
    → seen.layout ≡ m.layout → IsShuffled (map shown m.objects) seen.objects
    → ((o : Object) → object_piece m.types (shown o) ≡ object_piece m.types o) → IsLaid seen
laid_seen m seen shown h types layout objects same = record {
  layout = subst IsLawfulLayout (sym layout) h.layout;
  housed = subst (λ (l : Layout). AllByRecursion (λ (p : Piece). IsSome (segment_of l p.place)) (pieces seen))
      (sym layout) (subst (AllByRecursion (λ (p : Piece). IsSome (segment_of m.layout p.place))) are h.housed);
  tiled = subst (λ (l : Layout). AllByRecursion (IsTiled (pieces seen)) l.segments) (sym layout)
      (subst (λ ps. AllByRecursion (IsTiled ps) m.layout.segments) are h.tiled);
  whole1 = subst (λ (l : Layout). AllByRecursion (DoesNotCross l.start1) (pieces seen)) (sym layout)
      (subst (AllByRecursion (DoesNotCross m.layout.start1)) are h.whole1);
  whole0 = subst (λ (l : Layout). AllByRecursion (DoesNotCross l.start0) (pieces seen)) (sym layout)
      (subst (AllByRecursion (DoesNotCross m.layout.start0)) are h.whole0);
}
  where
    shuffled : IsShuffled (map (object_piece m.types) m.objects) (map (object_piece m.types) seen.objects)
    shuffled =
        subst (λ ps. IsShuffled ps (map (object_piece m.types) seen.objects))
        (map-map shown (object_piece m.types) m.objects
        ∙ map-on (λ o. object_piece m.types (shown o)) (object_piece m.types) m.objects (λ o i. same o))
        (shuffled-map (object_piece m.types) objects)

    are : pieces m ≡ pieces seen
    are =
        shuffled-sorts (λ (p : Piece). p.place)
        (shuffled-left (rest_pieces m.layout.rests) (shuffled-left m.layout.free shuffled))
        (distinct_of_sorted (λ (p : Piece). p.place)
        ((map (object_piece m.types) m.objects ++ m.layout.free) ++ rest_pieces m.layout.rests) (pieces-distinct m h))
        ∙ (λ i. by_place ((map (object_piece (sym types i)) seen.objects ++ (sym layout i).free)
        ++ rest_pieces (sym layout i).rests))

-- ---- copies

-- what passes one test passes another
inner : {X : Type 0} (p q : X → Bool) (xs : List X) → ((x : X) → IsIn x xs → p x ≡ true → q x ≡ true)
    → filter p (filter q xs) ≡ filter p xs
inner p q [] h = refl
inner p q (x ∷ xs) h = go (p x) (q x) refl refl (inner p q xs (λ y i. h y (later i)))
  where
    go : (a b : Bool) → p x ≡ a → q x ≡ b → filter p (filter q xs) ≡ filter p xs
        → filter p (if b then x ∷ filter q xs else filter q xs) ≡ (if a then x ∷ filter p xs else filter p xs)
    go true true e f more = ap (λ c. if c then x ∷ filter p (filter q xs) else filter p (filter q xs)) e
        ∙ ap (λ ys. x ∷ ys) more
    go true false e f more = absurd (both_ways (q x) f (h x first e))
    go false true e f more = ap (λ c. if c then x ∷ filter p (filter q xs) else filter p (filter q xs)) e ∙ more
    go false false e f more = more

small : (k : SegKind) → same_kind Ephemeral k ≡ true → is_small_or_ephemeral k ≡ true
small Small e = refl
small Ephemeral e = refl
small Large e = absurd cc
small Pinned e = absurd cc

module _ (m : Machine) (kept : ℕ → Bool) (h : IsLaid m) (bare : rest_pieces m.layout.rests ≡ []) where
  abbrev F : List Move
  F = (fit_in m kept).moves

  abbrev op : Object → Piece
  op = object_piece m.types

  abbrev chosen : Object → Bool
  chosen o = is_condemned m 1 o && kept o.name

  abbrev goes : Survivor → Bool
  goes k = is_moved F k.place

  -- where what finds room was is what its copies leave
  abbrev vacated : List Piece
  vacated = map survivor_piece (filter goes (survivors m 1 kept))

  abbrev room : List Piece
  room = map op (filter (finds_room m kept) m.objects)

  abbrev kept_free : List Piece
  kept_free = filter (λ i. not (is_older_item m.layout i)) m.layout.free ++ (fit_in m kept).left

  chosen-all : (o : Object) → IsIn o m.objects → finds_room m kept o ≡ true → chosen o ≡ true
  chosen-all o i t =
      let is : IsFittedObject m kept o = fitted_object m kept h bare o i t in
      let age = is.before in
      and_from (is_condemned m 1 o) (kept o.name) (le-leb (generation m.layout o.place) 1 (omega arith)) is.stays

  rooms-are : IsShuffled room vacated
  rooms-are =
      subst (λ ps. IsShuffled ps vacated)
      (ap (map survivor_piece) (filter-map (survivor m) goes (filter chosen m.objects))
      ∙ map-map (survivor m) survivor_piece (filter (finds_room m kept) (filter chosen m.objects))
      ∙ ap (map op) (inner (finds_room m kept) chosen m.objects chosen-all))
      (shuffled-map survivor_piece (shuffled-filter goes
      (shuffled-sorted (λ (k : Survivor). k.place) (map (survivor m) (filter chosen m.objects)))))

  abbrev slid : List Piece
  slid = map op (map (slid_object F) m.objects)

  abbrev rests : List Piece
  rests = rest_pieces m.layout.rests

  -- pieces behind others go before them
  turned : (xs ys : List Piece) → IsShuffled (xs ++ ys) (ys ++ xs)
  turned xs ys =
      subst (λ zs. IsShuffled (xs ++ zs) (ys ++ xs)) (append-nil ys)
      (subst (λ zs. IsShuffled (xs ++ (ys ++ [])) (ys ++ zs)) (append-nil xs) (shuffled-turn xs ys []))

  shuffled : IsShuffled ((slid ++ by_place (kept_free ++ vacated)) ++ rests)
      ((map op (copied m kept).objects ++ by_place kept_free) ++ rests)
  shuffled =
      shuffled-left rests
      (followed (shuffled-right slid (shuffled-sym (shuffled-sorted (λ (p : Piece). p.place) (kept_free ++ vacated))))
      (followed (shuffled-right slid (shuffled-right kept_free (shuffled-sym rooms-are)))
      (followed (shuffled-right slid (turned kept_free room))
      (followed (shuffled-right slid (shuffled-right room (shuffled-sorted (λ (p : Piece). p.place) kept_free)))
      (subst (λ ps. IsShuffled (slid ++ (room ++ by_place kept_free)) (ps ++ by_place kept_free))
      (sym (map-append op (map (slid_object F) m.objects) (filter (finds_room m kept) m.objects)))
      (subst (IsShuffled (slid ++ (room ++ by_place kept_free))) (sym (append_assoc slid room (by_place kept_free)))
      (shuffled-same (slid ++ (room ++ by_place kept_free)))))))))

  distinct : IsDistinctBy (λ (p : Piece). p.place) ((slid ++ by_place (kept_free ++ vacated)) ++ rests)
  distinct =
      distinct_of_sorted (λ (p : Piece). p.place) ((slid ++ by_place (kept_free ++ vacated)) ++ rests)
      (pieces-distinct (fitted m kept) (stays_laid m kept h bare))

  pieces-are : pieces (fitted m kept) ≡ pieces (copied m kept)
  pieces-are = shuffled-sorts (λ (p : Piece). p.place) shuffled distinct

  -- the free items that stay differ
  free-distinct : IsDistinctBy (λ (p : Piece). p.place) kept_free
  free-distinct =
      distinct_of_sorted (λ (p : Piece). p.place) kept_free
      (distinct_right (λ (p : Piece). p.place) (map op (copied m kept).objects) (by_place kept_free)
      (subst (IsDistinctBy (λ (p : Piece). p.place)) (append-nil (map op (copied m kept).objects ++ by_place kept_free))
      (subst (λ rs. IsDistinctBy (λ (p : Piece). p.place)
      ((map op (copied m kept).objects ++ by_place kept_free) ++ rs))
      bare (shuffled-distinct (λ (p : Piece). p.place) shuffled distinct))))

  pub copied_laid : IsLaid (copied m kept)
  copied_laid =
      let laid = stays_laid m kept h bare in
      record {
        layout = record {
          segments = h.layout.segments;
          bounded = h.layout.bounded;
          disjoint = h.layout.disjoint;
          below_top = h.layout.below_top;
          top_aligned = h.layout.top_aligned;
          one_ephemeral = h.layout.one_ephemeral;
          ephemeral_last = h.layout.ephemeral_last;
          some_large = h.layout.some_large;
          start1_low = h.layout.start1_low;
          start1_high = h.layout.start1_high;
          start0_high = h.layout.start0_high;
          aligned = h.layout.aligned;
          free_rise = sorted_by-rises (λ (p : Piece). p.place) kept_free free-distinct;
          threads = h.layout.threads;
        };
        housed = subst (AllByRecursion (λ (p : Piece). IsSome (segment_of m.layout p.place))) pieces-are laid.housed;
        tiled = subst (λ ps. AllByRecursion (IsTiled ps) m.layout.segments) pieces-are laid.tiled;
        whole1 = subst (AllByRecursion (DoesNotCross m.layout.start1)) pieces-are laid.whole1;
        whole0 = subst (AllByRecursion (DoesNotCross m.layout.start0)) pieces-are laid.whole0;
      }

  -- ---- what a compaction doesn't see

  one : 1 ≤ 2
  one = omega arith

  -- what is vacated lies in the part of generation 1
  in-part : (x : Piece) → IsIn x vacated → is_in_part is_small_or_ephemeral m.layout 1 x ≡ true
  in-part x i =
      let (k, e, j) = from-map survivor_piece x (filter goes (survivors m 1 kept)) i in
      let (t, among) = out_of_filter goes k (survivors m 1 kept) j in
      let (o, is, n) = from-map (survivor m) k (filter chosen m.objects)
      (out_of_sorted_by (λ (s : Survivor). s.place) k _ among) in
      let young = leb-true (generation m.layout o.place) 1 (and_parts (is_condemned m 1 o) (kept o.name)
      (out_of_filter chosen o m.objects n).0).0 in
      let kind = ephemeral-kind m.layout h.layout in
      let up = above-start1 m.layout o.place young in
      let from = start-ephemeral m.layout h.layout 1 one in
      subst (λ p. is_in_part is_small_or_ephemeral m.layout 1 p ≡ true)
      (sym (e ∙ ap survivor_piece is))
      (any-from (λ s. is_small_or_ephemeral s.kind && (has_condemned_part 1 s &&
      (stands_in s o.place && nat_le (part_start m.layout 1 s) o.place))) m.layout.segments (ephemeral m.layout)
      (ephemeral-in m.layout h.layout)
      (and_from (is_small_or_ephemeral (ephemeral m.layout).kind) (has_condemned_part 1 (ephemeral m.layout) &&
      (stands_in (ephemeral m.layout) o.place && nat_le (part_start m.layout 1 (ephemeral m.layout)) o.place))
      (small (ephemeral m.layout).kind kind)
      (and_from (has_condemned_part 1 (ephemeral m.layout)) (stands_in (ephemeral m.layout) o.place
      && nat_le (part_start m.layout 1 (ephemeral m.layout)) o.place)
      (condemned (same_kind Ephemeral (ephemeral m.layout).kind) kind)
      (and_from (stands_in (ephemeral m.layout) o.place) (nat_le (part_start m.layout 1 (ephemeral m.layout)) o.place)
      (young-stands m.layout o.place young)
      (le-leb (part_start m.layout 1 (ephemeral m.layout)) o.place (omega arith))))))
    where
      condemned : (b : Bool) → b ≡ true → (b || (1 == 2)) ≡ true
      condemned true e = refl
      condemned false e = absurd cc

  pub copied_alike : IsAlike (fitted m kept).layout (copied_layout m kept)
  copied_alike = record {
    segments = refl;
    start1 = refl;
    start0 = refl;
    rests = refl;
    top = refl;
    free =
        filter-sorted (λ (p : Piece). p.place) elsewhere kept_free
        ∙ ap by_place (sym (filter-append elsewhere kept_free vacated
        ∙ ap (λ ps. filter elsewhere kept_free ++ ps) (none-left elsewhere vacated (λ x i. ap not (in-part x i)))
        ∙ append-nil (filter elsewhere kept_free)))
        ∙ sym (filter-sorted (λ (p : Piece). p.place) elsewhere (kept_free ++ vacated));
  }
    where
      elsewhere : Piece → Bool
      elsewhere p = not (is_in_part is_small_or_ephemeral m.layout 1 p)
