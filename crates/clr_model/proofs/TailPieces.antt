-- One piece more behind the end of a segment: with it the pieces fill the segments.
use Rattle.std.proofs.Common.{◌≡◌, ◌≢◌, ℕ, ◌+◌, ◌<◌, ◌≤◌, List, ◌∷◌, refl, sym, ap, subst, arith, Bool, true, false}
use Rattle.std.proofs.Common.{if◌then◌else◌, ◌==◌, Option, Some, None, IsSome, IfSome, inl, inr}
use Rattle.std.proofs.Common.{◌∙◌}
use Rattle.std.specs.List.{AllByRecursion}
use Rattle.std.specs.Option.{option_map}
use Rattle.std.proofs.lemmas.Bool.{leb-true}
use Rattle.clr_types.specs.Rising.{IsIn, insert_by}
use Rattle.clr_types.specs.Ranges.{Piece, piece_end, by_place, IsLawfulSize, Tiles}
use Rattle.clr_types.specs.declared.segment.SegInfo.{SegInfo}
use Rattle.clr_types.specs.Segments.{Layout, first_place, reserved_end, stands_in, ended_at, segment_of, ephemeral}
use Rattle.clr_types.specs.Segments.{fits_in_tail, pieces_in, with_end}
use Rattle.clr_types.specs.LawfulLayout.{IsTiled, DoesNotCross}
use Rattle.clr_types.proofs.RisingLists.{all_at}
use Rattle.clr_types.proofs.ChangedLists.{all_members, all_imply, into_filter, all-insert_by, sorted_by-sorted}
use Rattle.clr_types.proofs.ChangedLists.{filter-insert_out, filter-insert_last, all-changed_by}
use Rattle.clr_types.proofs.ListMembers.{distinct_of_sorted}
use Rattle.clr_types.proofs.SortedLists.{into_sorted_by}
use Rattle.clr_types.proofs.Shuffles.{IsShuffled, shuffled-sym, shuffled-sorts}
use Rattle.clr_types.proofs.SegmentFacts.{AreSeparate, separate, lawful_segment, ephemeral-in}
use Rattle.clr_types.proofs.SegmentFacts.{one_base, elsewhere}
use Rattle.clr_types.proofs.TailTaken.{tiles-below, tiles-push}
use Rattle.clr_model.specs.Machine.{Object, Machine}
use Rattle.clr_model.specs.Lookups.{pieces}
use Rattle.clr_model.specs.Lawful.{IsLaid, Suits, SuitsItsSegment}
use Rattle.clr_model.proofs.LawfulPieces.{pieces-distinct}
use Rattle.clr_model.proofs.SplitPieces.{unsorted_pieces, FillSegments}
use Rattle.clr_model.proofs.TailRaised.{raised_segment, segment_of-raised, end-stands, segment_of-end}

-- what has a segment has one still
some_home : (s : SegInfo) (size : ℕ) (r : Option SegInfo) → IsSome r → IsSome (option_map (raised_segment s size) r)
some_home s size None h = h
some_home s size (Some u) h = h

module _ (m : Machine) (h : IsLaid m) (s : SegInfo) (among : IsIn s m.layout.segments) (size : ℕ) where
  -- what suits a segment suits it with the new end
  suits_raised : (o : Object) (r : Option SegInfo) → IfSome r (λ u. Suits m o u.kind)
      → IfSome (option_map (raised_segment s size) r) (λ u. Suits m o u.kind)
  suits_raised o None is = tt
  suits_raised o (Some u) is = go (u.base == s.base)
    where
      go : (b : Bool) → Suits m o (if b then ended_at (s.end + size) u else u).kind
      go true = is
      go false = is

  -- each object suits its segment as before
  pub suited_raised : (o : Object) → SuitsItsSegment m o
      → IfSome (segment_of (with_end m.layout s.base (s.end + size)) o.place) (λ u. Suits m o u.kind)
  suited_raised o is =
      subst (λ (r : Option SegInfo). IfSome r (λ u. Suits m o u.kind))
      (sym (segment_of-raised m.layout h.layout s among size o.place))
      (suits_raised o (segment_of m.layout o.place) is)

  module _ (lawful : IsLawfulSize size) (room : fits_in_tail s size ≡ true) (after : List Piece)
      (now : IsShuffled after (record { place = s.end; size = size } ∷ unsorted_pieces m))
    where
      abbrev key : Piece → ℕ
      key p = p.place

      abbrev next : Layout
      next = with_end m.layout s.base (s.end + size)

      abbrev young : SegInfo
      young = ephemeral m.layout

      abbrev piece : Piece
      piece = record { place = s.end; size = size }

      -- the segment has the bytes
      within : s.end + size ≤ reserved_end s
      within = leb-true (s.end + size) (reserved_end s) room

      -- there are some
      some : 0 < size
      some = let (least, aligned) = lawful in omega arith

      -- the old end is a place in the segment
      old_end_stands : stands_in s s.end ≡ true
      old_end_stands = end-stands m.layout h.layout s among size within some

      -- all that stands in the segment stands below its old end
      below : AllByRecursion (λ (q : Piece). stands_in s q.place ≡ true → q.place < s.end) (pieces m)
      below =
          all_members (λ (q : Piece). stands_in s q.place ≡ true → q.place < s.end) (pieces m)
          (λ q i stands. all_at (λ (q : Piece). q.place < s.end)
          (into_filter (λ (p : Piece). stands_in s p.place) (pieces m) stands i)
          (tiles-below (first_place s) s.end (pieces_in s (pieces m)) (all_at (IsTiled (pieces m)) among h.tiled)))

      -- so no piece stands there
      apart : AllByRecursion (λ (q : Piece). s.end ≢ q.place) (unsorted_pieces m)
      apart =
          all_members (λ (q : Piece). s.end ≢ q.place) (unsorted_pieces m)
          (λ q i same. let low : q.place
          < s.end = all_at (λ (q : Piece). stands_in s q.place ≡ true → q.place < s.end)
          (into_sorted_by key q (unsorted_pieces m) i) below (ap (stands_in s) (sym same) ∙ old_end_stands) in
          omega arith)

      -- the pieces afterwards are those before and the new one
      pieces-next : by_place after ≡ insert_by key piece (pieces m)
      pieces-next =
          sym (shuffled-sorts key (shuffled-sym now)
          (apart, distinct_of_sorted key (unsorted_pieces m) (pieces-distinct m h)))

      -- what holds of it and of all pieces before holds of all
      all_pieces : (P : Piece → Type 0) → P piece → AllByRecursion P (pieces m) → AllByRecursion P (by_place after)
      all_pieces P here all = subst (AllByRecursion P) (sym pieces-next) (all-insert_by key P piece (pieces m) here all)

      -- the segment is filled up to its new end
      tiled_here : IsTiled (insert_by key piece (pieces m)) (ended_at (s.end + size) s)
      tiled_here =
          subst (Tiles (first_place s) (piece_end piece))
          (sym (filter-insert_last key (λ (p : Piece). stands_in s p.place) piece (pieces m)
          (sorted_by-sorted key (unsorted_pieces m)) old_end_stands below))
          (tiles-push (first_place s) s.end (pieces_in s (pieces m)) piece (all_at (IsTiled (pieces m)) among h.tiled)
          refl lawful)

      -- and any other as before
      tiled_other : (u : SegInfo) → IsIn u m.layout.segments → u.base ≢ s.base
          → IsTiled (insert_by key piece (pieces m)) u
      tiled_other u i other =
          subst (Tiles (first_place u) u.end)
          (sym (filter-insert_out key (λ (p : Piece). stands_in u p.place) piece (pieces m)
          (elsewhere m.layout h.layout u s s.end i among other old_end_stands)))
          (all_at (IsTiled (pieces m)) i h.tiled)

      -- a segment of its base is the segment
      tiled_at : (u : SegInfo) → IsIn u m.layout.segments → u.base ≡ s.base
          → IsTiled (insert_by key piece (pieces m)) (ended_at (s.end + size) u)
      tiled_at u i at =
          subst (λ (w : SegInfo). IsTiled (insert_by key piece (pieces m)) (ended_at (s.end + size) w))
          (sym (one_base m.layout h.layout u s i among at)) tiled_here

      -- a place in a segment is in one still
      housed_at : (place : ℕ) → IsSome (segment_of m.layout place) → IsSome (segment_of next place)
      housed_at place there =
          subst IsSome (sym (segment_of-raised m.layout h.layout s among size place))
          (some_home s size (segment_of m.layout place) there)

      -- the new piece crosses no boundary
      uncrossed : (boundary : ℕ) → m.layout.start1 ≤ boundary → boundary ≤ m.layout.start0
          → DoesNotCross boundary piece
      uncrossed boundary low high = go (separate m.layout h.layout s young among (ephemeral-in m.layout h.layout))
        where
          go : AreSeparate s young → DoesNotCross boundary piece
          go (inl e) =
              let at : s.end ≡ young.end = ap (λ (u : SegInfo). u.end) e in
              let l = h.layout.start0_high in
              inl (omega arith)
          go (inr (inl l)) = let w = within in let start = h.layout.start1_low in inr (omega arith)
          go (inr (inr l)) =
              let start = h.layout.start0_high in
              let end = (lawful_segment m.layout h.layout young (ephemeral-in m.layout h.layout)).high in
              let low = (lawful_segment m.layout h.layout s among).low in
              inl (omega arith)

      -- the boundaries are in order
      order : m.layout.start1 ≤ m.layout.start0
      order = h.layout.start1_high

      -- The pieces of a lawful memory and one from the tail of a segment fill the segments, of which it has a new end.
      pub tail_fills : FillSegments (with_end m.layout s.base (s.end + size)) (by_place after)
      tail_fills = record {
        housed =
            all_pieces (λ (p : Piece). IsSome (segment_of next p.place))
            (housed_at s.end (subst IsSome (sym (segment_of-end m.layout h.layout s among size within some)) refl))
            (all_imply (λ (p : Piece). IsSome (segment_of m.layout p.place))
            (λ (p : Piece). IsSome (segment_of next p.place)) (pieces m) (λ p. housed_at p.place) h.housed);
        tiled =
            subst (λ ps. AllByRecursion (IsTiled ps) next.segments) (sym pieces-next)
            (all-changed_by (λ (u : SegInfo). u.base) s.base (ended_at (s.end + size))
            (IsTiled (insert_by key piece (pieces m))) m.layout.segments tiled_at tiled_other);
        whole1 = all_pieces (DoesNotCross m.layout.start1) (uncrossed m.layout.start1 (omega arith) order) h.whole1;
        whole0 = all_pieces (DoesNotCross m.layout.start0) (uncrossed m.layout.start0 order (omega arith)) h.whole0;
      }
