-- The birth of a large object at a place in the large heap: the machine stays lawful, and the object is seen there.
use Rattle.std.proofs.Common.{◌≡◌, ℕ, ◌+◌, ◌<◌, ◌≤◌, inl, inr, ◌∷◌, ◌++◌, map, sym, subst, arith}
use Rattle.std.proofs.Common.{true, Option, Some, IfSome, append_assoc, ◌∙◌}
use Rattle.std.proofs.lemmas.Bool.{leb-true}
use Rattle.clr_types.specs.Rising.{IsIn}
use Rattle.clr_types.specs.Ranges.{Piece, fits, IsLawfulSize}
use Rattle.clr_types.specs.Types.{form_at}
use Rattle.clr_types.specs.declared.segment.SegInfo.{SegInfo}
use Rattle.clr_types.specs.declared.segment.SegKind.{SegKind}
use Rattle.clr_types.specs.declared.segment.SegKind.TheVariants.{Small, Ephemeral, Large, Pinned}
use Rattle.clr_types.specs.Segments.{Layout, same_kind, stands_in, fits_in_tail, segments_of, segment_of, generation}
use Rattle.clr_types.specs.Segments.{reserved_end, rest_pieces, with_end}
use Rattle.clr_types.specs.LawfulLayout.{IsLawfulLayout}
use Rattle.clr_types.proofs.TableRows.{AllByRecursion-push}
use Rattle.clr_types.proofs.ChangedLists.{all_imply, out_of_filter, rising-distinct}
use Rattle.clr_types.proofs.ListMembers.{any-in}
use Rattle.clr_types.proofs.SegmentFacts.{segment_of-home}
use Rattle.clr_types.proofs.Shuffles.{IsShuffled, shuffled-left}
use Rattle.clr_types.proofs.TailTaken.{size-lawful}
use Rattle.clr_model.specs.Machine.{Object, Sums, Machine}
use Rattle.clr_model.specs.Lookups.{object_piece}
use Rattle.clr_model.specs.Updates.{born_at}
use Rattle.clr_model.specs.Picture.{picture}
use Rattle.clr_model.specs.Allocation.{IsPlacedIn, stands_in_kind, taken_from, with_layout}
use Rattle.clr_model.specs.Step.{with_entry_of, with_spent_large}
use Rattle.clr_model.specs.Lawful.{IsBirthNamed, Suits, SuitsItsSegment}
use Rattle.clr_model.specs.Run.{StandsFor}
use Rattle.clr_model.proofs.BoundedSums.{bounded_born_large}
use Rattle.clr_model.proofs.LawfulPieces.{free-apart}
use Rattle.clr_model.proofs.RestLists.{HasItem, item-at, taken-rises}
use Rattle.clr_model.proofs.SplitPieces.{unsorted_pieces, back_pieces}
use Rattle.clr_model.proofs.TailRaised.{generation-raised, reserved_sum-raised, segment_of-end, raised_layout}
use Rattle.clr_model.proofs.TailPieces.{suited_raised, tail_fills}
use Rattle.clr_model.proofs.Birth.{born_size, born_object, seen_birth, IsBirth, birth_pieces, IsBirthplace}
use Rattle.clr_model.proofs.Birth.{with_birth-is}
use Rattle.clr_model.proofs.BirthSeen.{birth_stands}
use Rattle.clr_model.proofs.CutBirth.{pieces-born, cut_birthplace}

-- so many bytes more count as spent in the large heap
abbrev pub spent_large_more : ℕ → Sums → Sums
spent_large_more size sums = record sums { spent_large = sums.spent_large + size }

-- a large object is born at the place, which the layout has for it
abbrev pub born_large : Machine → Layout → ℕ → ℕ → ℕ → ℕ → ℕ → Machine
born_large m layout t local place type len =
    with_spent_large (with_entry_of (born_at (with_layout m layout) t local place type len) type (m.born + 1))
    (born_size m type len)

-- What is seen after the birth: the new object, named by its place, stands among the others by rising place.
abbrev pub seen_at_place : Machine → Layout → ℕ → ℕ → ℕ → ℕ → ℕ → Machine
seen_at_place seen layout t local place type len =
    seen_birth seen layout (spent_large_more (born_size seen type len) seen.sums) t local place type len

module _ (m : Machine) (type len : ℕ) (named : IsBirthNamed m) (birth : IsBirth m type len)
    (large : m.options.large ≤ born_size m type len) where
  abbrev size : ℕ
  size = born_size m type len

  -- the layout is lawful
  layout_is : IsLawfulLayout m.layout
  layout_is = named.lawful.laid.layout

  -- an object's size is lawful
  sized : IsLawfulSize size
  sized = size-lawful (form_at m.types type) len

  abbrev born : ℕ → Object
  born place = born_object m (m.born + 1) place type len

  -- a large object suits a large segment
  suits_large : (place : ℕ) (k : SegKind) → same_kind Large k ≡ true → Suits m (born place) k
  suits_large place Small e = absurd cc
  suits_large place Ephemeral e = absurd cc
  suits_large place Large e = large
  suits_large place Pinned e = absurd cc

  -- where it stands in a large segment, it suits that
  suits_home : (place : ℕ) (s : SegInfo) → IsIn s (segments_of Large m.layout) → segment_of m.layout place ≡ Some s
      → SuitsItsSegment m (born place)
  suits_home place s i home =
      let (kind, among) = out_of_filter (λ (s : SegInfo). same_kind Large s.kind) s m.layout.segments i in
      subst (λ (r : Option SegInfo). IfSome r (λ s. Suits m (born place) s.kind)) (sym home)
      (suits_large place s.kind kind)

  -- ---- in a free item

  module _ (item : Piece) (here : IsIn item m.layout.free) (fit : fits size item.size ≡ true) where
    -- the item beside the others, before and after
    among : HasItem item size m.layout.free
    among = item-at item size m.layout.free
        (rising-distinct (λ (p : Piece). p.place) m.layout.free layout_is.free_rise) here

    -- what is left of it stands for it
    now : IsShuffled (taken_from item.place size m.layout.free ++ rest_pieces m.layout.rests)
        (back_pieces item size ++ (among.others ++ rest_pieces m.layout.rests))
    now =
        subst (IsShuffled (taken_from item.place size m.layout.free ++ rest_pieces m.layout.rests))
        (append_assoc (back_pieces item size) among.others (rest_pieces m.layout.rests))
        (shuffled-left (rest_pieces m.layout.rests) among.taken)

    -- the front of a free item in a large segment is a place for the object
    item_birthplace : stands_in_kind Large m.layout item.place ≡ true
        → IsBirthplace m (record m.layout { free = taken_from item.place size m.layout.free }) item.place type len
    item_birthplace stands =
        let (s, i, at) = any-in (λ (s : SegInfo). stands_in s item.place) (segments_of Large m.layout) stands in
        let (kind, known) = out_of_filter (λ (s : SegInfo). same_kind Large s.kind) s m.layout.segments i in
        cut_birthplace m named.lawful type len item fit (taken_from item.place size m.layout.free) m.layout.rests
        (among.others ++ rest_pieces m.layout.rests) (shuffled-left (rest_pieces m.layout.rests) among.was) now
        (taken-rises item.place size m.layout.free layout_is.free_rise (free-apart m named.lawful.laid))
        layout_is.threads named.lawful.rests_young named.lawful.rooms
        (suits_home item.place s i (segment_of-home m.layout layout_is s item.place known at))

  -- ---- behind the end of a segment

  module _ (s : SegInfo) (among : IsIn s m.layout.segments) (room : fits_in_tail s size ≡ true) where
    abbrev raised : Layout
    raised = with_end m.layout s.base (s.end + size)

    -- the segment has the bytes
    within : s.end + size ≤ reserved_end s
    within = leb-true (s.end + size) (reserved_end s) room

    -- there are some
    some : 0 < size
    some = let (least, aligned) = sized in omega arith

    -- the object is one piece more
    tail_now : IsShuffled (birth_pieces m raised s.end type len)
        (object_piece m.types (born s.end) ∷ unsorted_pieces m)
    tail_now =
        subst (λ ps. IsShuffled (birth_pieces m raised s.end type len) (object_piece m.types (born s.end) ∷ ps))
        (sym (append_assoc (map (object_piece m.types) m.objects) m.layout.free (rest_pieces m.layout.rests)))
        (pieces-born m raised s.end type len)

    -- the bytes behind the end of a large segment are a place for the object
    tail_birthplace : IsIn s (segments_of Large m.layout)
        → IsBirthplace m (with_end m.layout s.base (s.end + size)) s.end type len
    tail_birthplace i =
        let same = generation-raised m.layout layout_is s among size in
        let (least, aligned) = sized in
        record {
          lawful = raised_layout m.layout layout_is s among size within aligned;
          fills = tail_fills m named.lawful.laid s among size sized room (birth_pieces m raised s.end type len)
              tail_now;
          young =
              all_imply (λ (p : Piece). generation m.layout p.place ≡ 0) (λ (p : Piece). generation raised p.place ≡ 0)
              (rest_pieces m.layout.rests) (λ p e. same p.place ∙ e) named.lawful.rests_young;
          suited =
              AllByRecursion-push (SuitsItsSegment (with_layout m raised)) m.objects (born s.end)
              (all_imply (SuitsItsSegment m) (SuitsItsSegment (with_layout m raised)) m.objects
              (suited_raised m named.lawful.laid s among size) named.lawful.suited)
              (suited_raised m named.lawful.laid s among size (born s.end)
              (suits_home s.end s i (segment_of-end m.layout layout_is s among size within some)));
          limit =
              subst (λ n. n ≤ m.options.limit) (sym (reserved_sum-raised m.layout layout_is s among size))
              named.lawful.limit;
          rooms = named.lawful.rooms;
          ages = same;
        }

  -- ---- both

  module _ (place : ℕ) (layout : Layout) (placed : IsPlacedIn Large m.layout (born_size m type len) place layout) where
    -- where a large object is placed, the layout has the place for it
    large_birthplace : IsBirthplace m layout place type len
    large_birthplace = go placed
      where
        go : IsPlacedIn Large m.layout size place layout → IsBirthplace m layout place type len
        go (inl (item, i, stands, fit, at, same)) =
            subst (λ (l : Layout). IsBirthplace m l place type len) (sym same)
            (subst
            (λ n. IsBirthplace m (record m.layout { free = taken_from item.place size m.layout.free }) n type len)
            (sym at) (item_birthplace item i fit stands))
        go (inr (s, i, room, at, same)) =
            let (kind, among) = out_of_filter (λ (s : SegInfo). same_kind Large s.kind) s m.layout.segments i in
            subst (λ (l : Layout). IsBirthplace m l place type len) (sym same)
            (subst (λ n. IsBirthplace m (with_end m.layout s.base (s.end + size)) n type len) (sym at)
            (tail_birthplace s among room i))

    -- The machine after the birth stands for what is seen after it.
    pub large_stands : (t local : ℕ) → StandsFor (seen_at_place (picture m) layout t local place type len)
        (born_large m layout t local place type len)
    large_stands t local =
        let sums = spent_large_more size m.sums in
        subst (StandsFor (seen_at_place (picture m) layout t local place type len))
        (sym (with_birth-is m layout (spent_large_more size) t local place type len))
        (birth_stands m layout sums t local place type len named birth large_birthplace
        (bounded_born_large m (born place) large named.lawful.sums))

    -- so a lawful machine stays lawful
    pub large_lawful : (t local : ℕ) → IsBirthNamed (born_large m layout t local place type len)
    large_lawful t local = (large_stands t local).lawful

    -- and the object is seen at its place
    pub picture-born_large : (t local : ℕ) → picture (born_large m layout t local place type len)
        ≡ seen_at_place (picture m) layout t local place type len
    picture-born_large t local = (large_stands t local).seen_is
