-- The birth of a small object at the front of its thread's context: the machine stays lawful, and the object is seen
-- there.
use Rattle.std.proofs.Common.{◌≡◌, ℕ, ◌+◌, ◌-◌, ◌<◌, ◌≤◌, ◌∷◌, ◌++◌, refl, sym, ap, subst, ◌∙◌, arith, true, false}
use Rattle.std.proofs.Common.{slice_set, Option, Some, None, IfSome, true≢false, is_some}
use Rattle.std.specs.List.{AllByRecursion}
use Rattle.clr_types.specs.Rising.{IsIn, first}
use Rattle.clr_types.specs.Ranges.{Piece, piece_end, fits}
use Rattle.clr_types.specs.Types.{type_row, form_at, is_array}
use Rattle.clr_types.specs.Segments.{Layout, first_place, reserved_end, stands_in, segment_of, ephemeral, generation}
use Rattle.clr_types.specs.Segments.{rest_pieces, rest_of, same_kind}
use Rattle.clr_types.specs.LawfulLayout.{IsLawfulLayout}
use Rattle.clr_types.specs.declared.segment.SegInfo.{SegInfo}
use Rattle.clr_types.specs.declared.segment.SegKind.{SegKind}
use Rattle.clr_types.specs.declared.segment.SegKind.TheVariants.{Small, Ephemeral, Large, Pinned}
use Rattle.clr_types.proofs.RisingLists.{all_at}
use Rattle.clr_types.proofs.SortedLists.{into_sorted_by}
use Rattle.clr_types.proofs.ChangedLists.{all_members, length-slice_set}
use Rattle.clr_types.proofs.ListMembers.{append_right}
use Rattle.clr_types.proofs.TilePieces.{IsTile}
use Rattle.clr_types.proofs.SegmentFacts.{ephemeral-in, ephemeral-kind, lawful_segment, between-stands, segment_of-home}
use Rattle.clr_types.proofs.SegmentFacts.{one_home}
use Rattle.clr_types.proofs.Shuffles.{IsShuffled, followed, shuffled-sym, shuffled-in, shuffled-right, shuffled-behind}
use Rattle.clr_types.proofs.Shuffles.{shuffled-turn}
use Rattle.clr_model.specs.Machine.{Object, Sums, Machine}
use Rattle.clr_model.specs.Lookups.{is_thread, step_of, is_step, pieces}
use Rattle.clr_model.specs.Updates.{option_piece, with_rest}
use Rattle.clr_model.specs.Picture.{picture}
use Rattle.clr_model.specs.Allocation.{rest_fits, own_fits, context_front, front_taken, front_of, rest_end}
use Rattle.clr_model.specs.Step.{born_small}
use Rattle.clr_model.specs.Lawful.{IsBirthNamed, Suits}
use Rattle.clr_model.specs.Run.{StandsFor}
use Rattle.clr_model.proofs.BoundedSums.{bounded_born}
use Rattle.clr_model.proofs.LawfulPieces.{HasHome, piece-home, piece-tile}
use Rattle.clr_model.proofs.RestLists.{HasRest, rest-at, all-rests, option-range, in-range}
use Rattle.clr_model.proofs.SplitPieces.{unsorted_pieces, back_pieces}
use Rattle.clr_model.proofs.ContextChange.{rest-entry, rest_of-other, is-young, young-is, rooms_kept}
use Rattle.clr_model.proofs.Birth.{born_object, seen_birth, IsBirth, IsBirthplace}
use Rattle.clr_model.proofs.Birth.{with_birth-is}
use Rattle.clr_model.proofs.CutBirth.{cut_birthplace}
use Rattle.clr_model.proofs.BirthSeen.{birth_stands}
pub use Rattle.clr_model.proofs.Birth.{born_size, born_entries}

-- An object of this type and length may be born at the front of the thread's context, and local k of the thread may
-- take it.
pub record IsFrontBirth (m : Machine) (t k type len : ℕ) : Type 0 where
  pub thread : is_thread t ≡ true
  pub local : k < 64
  pub typed : is_some (type_row m.types type) ≡ true
  pub class : is_array (form_at m.types type) ≡ false → len ≡ 0
  pub small : born_size m type len < m.options.large
  pub fits : own_fits m.layout t (born_size m type len) ≡ true

-- so many bytes more count as spent
abbrev pub spent_more : ℕ → Sums → Sums
spent_more size sums = record sums { spent0 = sums.spent0 + size }

-- What is seen after the birth: the new object, named by its place, stands among the others by rising place.
abbrev pub seen_at_front : Machine → ℕ → ℕ → ℕ → ℕ → Machine
seen_at_front seen t local type len =
    seen_birth seen (front_taken seen.layout t (born_size seen type len))
    (spent_more (born_size seen type len) seen.sums) t local (context_front seen.layout t) type len

-- the context in which a size fits
pub own-rest : (layout : Layout) (t size : ℕ) → own_fits layout t size ≡ true
    → (p : Piece) × (rest_of layout t ≡ Some p) × (fits size p.size ≡ true)
own-rest layout t size e = go (rest_of layout t) refl e
  where
    go : (r : Option Piece) → rest_of layout t ≡ r → rest_fits r size ≡ true
        → (p : Piece) × (rest_of layout t ≡ Some p) × (fits size p.size ≡ true)
    go None f e = absurd (true≢false (sym e))
    go (Some p) f e = (p, f, e)

module _ (m : Machine) (t local type len : ℕ) (named : IsBirthNamed m) (idle : is_step (step_of m t) ≡ false)
    (h : IsFrontBirth m t local type len) where
  abbrev size : ℕ
  size = born_size m type len

  abbrev young : SegInfo
  young = ephemeral m.layout

  -- the layout is lawful
  layout_is : IsLawfulLayout m.layout
  layout_is = named.lawful.laid.layout

  -- the context, in which the size fits
  own : (p : Piece) × (rest_of m.layout t ≡ Some p) × (fits size p.size ≡ true)
  own = own-rest m.layout t size h.fits

  abbrev rest : Piece
  rest = own.0

  -- what is left of the context is what is behind the object
  abbrev left : Option Piece
  left = option_piece (back_pieces rest size)

  -- the rest beside those of the other threads
  beside : HasRest m.layout.rests (t - 1) (Some rest)
  beside =
      subst (HasRest m.layout.rests (t - 1)) own.1
      (rest-at m.layout.rests (t - 1) (rest_of m.layout t) (rest-entry m.layout t h.thread layout_is.threads))

  -- it is one of the free items and rests
  was : IsShuffled (m.layout.free ++ rest_pieces m.layout.rests) (rest ∷ (m.layout.free ++ beside.others))
  was =
      followed (shuffled-right m.layout.free beside.was)
      (shuffled-sym (shuffled-behind rest m.layout.free beside.others))

  -- and what is behind the object stands for it
  now : IsShuffled (m.layout.free ++ rest_pieces (slice_set m.layout.rests (t - 1) left))
      (back_pieces rest size ++ (m.layout.free ++ beside.others))
  now =
      followed (shuffled-right m.layout.free
      (subst (λ ps. IsShuffled (rest_pieces (slice_set m.layout.rests (t - 1) left)) (ps ++ beside.others))
      (option-range (rest.place + size) (piece_end rest)) (beside.put left)))
      (shuffled-turn m.layout.free (back_pieces rest size) beside.others)

  -- ---- the context stands in generation 0

  -- the rest is one of all pieces
  rest-known : IsIn rest (pieces m)
  rest-known =
      into_sorted_by (λ (p : Piece). p.place) rest (unsorted_pieces m)
      (append_right _ (shuffled-in rest (shuffled-sym beside.was) first))

  -- it has generation 0
  rest-young : generation m.layout rest.place ≡ 0
  rest-young =
      all_at (λ (p : Piece). generation m.layout p.place ≡ 0) (shuffled-in rest (shuffled-sym beside.was) first)
      named.lawful.rests_young

  -- so it stands in the ephemeral segment
  rest-stands : stands_in young rest.place ≡ true
  rest-stands = (young-is m.layout rest.place rest-young).0

  -- and what is behind the object has generation 0 too
  back-young : (x : Piece) → IsIn x (back_pieces rest size) → generation m.layout x.place ≡ 0
  back-young x i =
      let (l, e) = in-range (rest.place + size) (piece_end rest) x i in
      let at : x.place ≡ rest.place + size = ap (λ (p : Piece). p.place) e in
      let k : HasHome m.layout rest.place = piece-home m named.lawful.laid rest rest-known in
      let same : k.home ≡ young =
      one_home m.layout layout_is k.home young rest.place k.among (ephemeral-in m.layout layout_is) k.stands
      rest-stands in
      let is : IsTile (first_place k.home) k.home.end rest = piece-tile m named.lawful.laid rest rest-known k in
      let end : piece_end rest ≤ young.end = subst (λ (s : SegInfo). piece_end rest ≤ s.end) same is.high_end in
      let low : first_place young ≤ rest.place = subst (λ (s : SegInfo). first_place s ≤ rest.place) same k.low in
      let high : young.end ≤ reserved_end young =
      (lawful_segment m.layout layout_is young (ephemeral-in m.layout layout_is)).high in
      let from = (young-is m.layout rest.place rest-young).1 in
      is-young m.layout x.place layout_is.start1_high (between-stands young x.place (omega arith) (omega arith))
      (omega arith)

  -- so all rests have
  rests-young : AllByRecursion (λ (p : Piece). generation m.layout p.place ≡ 0)
      (rest_pieces (slice_set m.layout.rests (t - 1) left))
  rests-young =
      all-rests (λ (p : Piece). generation m.layout p.place ≡ 0) m.layout.rests (t - 1) left named.lawful.rests_young
      (subst (AllByRecursion (λ (p : Piece). generation m.layout p.place ≡ 0))
      (sym (option-range (rest.place + size) (piece_end rest)))
      (all_members (λ (p : Piece). generation m.layout p.place ≡ 0) (back_pieces rest size) back-young))

  abbrev born : Object
  born = born_object m (m.born + 1) rest.place type len

  -- a small object suits the ephemeral segment
  suits_young : (k : SegKind) → same_kind Ephemeral k ≡ true → Suits m born k
  suits_young Small e = absurd cc
  suits_young Ephemeral e = h.small
  suits_young Large e = absurd cc
  suits_young Pinned e = absurd cc

  -- so it suits where it stands
  rest_suits : IfSome (segment_of m.layout rest.place) (λ s. Suits m born s.kind)
  rest_suits =
      subst (λ (r : Option SegInfo). IfSome r (λ s. Suits m born s.kind))
      (sym (segment_of-home m.layout layout_is young rest.place (ephemeral-in m.layout layout_is) rest-stands))
      (suits_young young.kind (ephemeral-kind m.layout layout_is))

  -- the front of the context is a place for the object
  front_birthplace : IsBirthplace m (front_taken m.layout t size) (context_front m.layout t) type len
  front_birthplace =
      subst (λ (r : Option Piece). IsBirthplace m (with_rest m.layout t (front_of r + size) (rest_end r)) (front_of r)
      type len) (sym own.1)
      (cut_birthplace m named.lawful type len rest own.2 m.layout.free (slice_set m.layout.rests (t - 1) left)
      (m.layout.free ++ beside.others) was now layout_is.free_rise
      (length-slice_set m.layout.rests (t - 1) left ∙ layout_is.threads) rests-young
      (rooms_kept m (record m.layout { rests = slice_set m.layout.rests (t - 1) left }) t h.thread idle
      (rest_of-other m.layout t h.thread layout_is.threads left) named.lawful.rooms)
      rest_suits)

  -- a small object has no more bytes than an object may have
  large_bound : size < m.options.large → size ≤ 1073741824
  large_bound small =
      let a = named.lawful.options.large_greatest in
      let b = named.lawful.options.segment_greatest in
      omega arith

  -- so it may be
  birth : IsBirth m type len
  birth = record { typed = h.typed; class = h.class; most = large_bound h.small }

  -- The machine after the birth stands for what is seen after it.
  pub front_stands : StandsFor (seen_at_front (picture m) t local type len) (born_small m t local type len)
  front_stands =
      let place = context_front m.layout t in
      let layout = front_taken m.layout t size in
      let sums = spent_more size m.sums in
      subst (StandsFor (seen_at_front (picture m) t local type len))
      (sym (with_birth-is m layout (spent_more size) t local place type len))
      (birth_stands m layout sums t local place type len named birth front_birthplace
      (bounded_born m (born_object m (m.born + 1) place type len) named.lawful.sums))

  -- so a lawful machine stays lawful
  pub front_lawful : IsBirthNamed (born_small m t local type len)
  front_lawful = front_stands.lawful

  -- and the object is seen at its place
  pub picture-born : picture (born_small m t local type len) ≡ seen_at_front (picture m) t local type len
  picture-born = front_stands.seen_is
