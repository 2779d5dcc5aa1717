-- A part in which plugs have landed: its objects and its new free items fill it.
use Rattle.std.proofs.Common.{◌≡◌, ◌≢◌, ℕ, ◌+◌, ◌-◌, ◌<◌, ◌≤◌, ◌⊎◌, inl, inr, List, [], ◌∷◌, ◌++◌, map, refl, sym, ap}
use Rattle.std.proofs.Common.{subst, arith, Bool, true}
use Rattle.std.proofs.lemmas.Bool.{cases_order, cases_lt}
use Rattle.clr_types.specs.Rising.{IsIn, first}
use Rattle.clr_types.specs.Ranges.{Piece, piece_end, Tiles, by_place}
use Rattle.clr_types.specs.declared.segment.SegInfo.{SegInfo}
use Rattle.clr_types.specs.Segments.{stands_in, pieces_in, reserved_end}
use Rattle.clr_types.proofs.RisingLists.{in_cons}
use Rattle.clr_types.proofs.SortedLists.{into_sorted_by, out_of_sorted_by}
use Rattle.clr_types.proofs.ChangedLists.{IsIn-map, append_left, into_filter, out_of_filter, rising-distinct}
use Rattle.clr_types.proofs.ListMembers.{from-map, in_append, append_right, distinct_of_sorted, distinct_cross}
use Rattle.clr_types.proofs.Tilings.{tiles-rise}
use Rattle.clr_types.proofs.TilePieces.{tile, tiles-apart}
use Rattle.clr_types.proofs.PieceGaps.{IsGapped}
use Rattle.clr_types.proofs.Retiled.{refined, tiles-refined, out_of_refined, into_refined}
use Rattle.clr_types.proofs.SegmentFacts.{one_home}
use Rattle.clr_model.specs.Machine.{Machine, Object}
use Rattle.clr_model.specs.Lawful.{IsLaid}
use Rattle.clr_model.specs.Sweep.{Survivor}
use Rattle.clr_model.specs.Compaction.{Plug, Move, moved_by, moved_pieces}
use Rattle.clr_model.proofs.PlugsApart.{piece_of_move}
use Rattle.clr_model.proofs.MovedPlaces.{moves-apart, moved-is}
use Rattle.clr_model.proofs.Refill.{IsRefill}
use Rattle.clr_model.proofs.Landings.{AreLandings, Covers, going_piece, fills, goes_with, is_covered, lands_where}

module _ (m : Machine) (h : IsLaid m) (keeps : ℕ → Bool) (parts : List SegInfo) (start : SegInfo → ℕ)
    (survive : List Survivor) (plugs : List Plug) (moves : List Move)
    (l : AreLandings m keeps parts start survive plugs moves)
    (s : SegInfo) (here : IsIn s parts) (end : ℕ) (fresh : List Piece)
    (tiles : Tiles (start s) end (by_place (pieces_in s (moved_pieces moves) ++ fresh)))
    (high : end ≤ reserved_end s) where
  abbrev blocks : List Piece
  blocks = pieces_in s (moved_pieces moves)

  abbrev tiling : List Piece
  tiling = by_place (blocks ++ fresh)

  abbrev goes : Object → Piece
  goes = going_piece m h keeps survive plugs moves l.going

  apart : (b f : Piece) → IsIn b blocks → IsIn f fresh → b.place ≢ f.place
  apart = distinct_cross (λ (p : Piece). p.place) blocks fresh
      (distinct_of_sorted (λ (p : Piece). p.place) (blocks ++ fresh)
      (rising-distinct (λ (p : Piece). p.place) tiling (tiles-rise (start s) end tiling tiles)))

  -- a piece of the tiling is a move's range, or a new free item
  abbrev IsBlock : Piece → Type 0
  IsBlock b = IsIn b blocks × ((v : Move) × IsIn v moves × (b ≡ piece_of_move v))

  block : (b : Piece) → IsIn b blocks → IsBlock b
  block b i =
      let (e, j) = out_of_filter (λ (p : Piece). stands_in s p.place) b (moved_pieces moves) i in
      let (v, f, k) = from-map piece_of_move b moves
      (out_of_sorted_by (λ (p : Piece). p.place) b (map piece_of_move moves) j) in
      (i, (v, k, f))

  which : (b : Piece) → IsIn b tiling → IsBlock b ⊎ IsIn b fresh
  which b i = elim (in_append blocks (out_of_sorted_by (λ (p : Piece). p.place) b (blocks ++ fresh) i)) [
    | inl j ↦ inl (block b j)
    | inr j ↦ inr j
  ]

  part_by : (b : Piece) → IsBlock b ⊎ IsIn b fresh → List Piece
  part_by b (inl (j, (v, k, e))) = (fills m h keeps survive plugs moves l.going v k).pieces
  part_by b (inr j) = b ∷ []

  pieces_at : (b : Piece) → IsIn b tiling → List Piece
  pieces_at b i = part_by b (which b i)

  -- the objects in place of the moves' ranges, and the new free items
  refilling : List Piece
  refilling = refined tiling pieces_at

  refilling_tiles : Tiles (start s) end refilling
  unfolding refilling part_by pieces_at which
  refilling_tiles = tiles-refined (start s) end tiling pieces_at tiles (λ b i. by b i (which b i))
    where
      by : (b : Piece) → IsIn b tiling → (w : IsBlock b ⊎ IsIn b fresh) → Tiles b.place (piece_end b) (part_by b w)
      by b i (inl (j, (v, k, e))) = subst
          (λ (p : Piece). Tiles p.place (piece_end p) (fills m h keeps survive plugs moves l.going v k).pieces)
          (sym e) (fills m h keeps survive plugs moves l.going v k).tiled
      by b i (inr j) = (refl, (tile (start s) end tiling b tiles i).size, refl)

  refilling-is : (x : Piece) → IsIn x refilling
      → ((o : Object) × IsIn o m.objects × (keeps o.name ≡ true) × (x ≡ goes o)) ⊎ IsIn x fresh
  unfolding refilling part_by pieces_at which
  refilling-is x i = let (b, j, k) = out_of_refined tiling pieces_at x i in by b (which b j) k
    where
      by : (b : Piece) → (w : IsBlock b ⊎ IsIn b fresh) → IsIn x (part_by b w)
          → ((o : Object) × IsIn o m.objects × (keeps o.name ≡ true) × (x ≡ goes o)) ⊎ IsIn x fresh
      by b (inl (j, (v, k, e))) n = let (o, present, stays, cover, is) =
          (fills m h keeps survive plugs moves l.going v k).objects x n in inl (o, present, stays, is)
      by b (inr j) n = inr (elim (in_cons n) [ inl e ↦ subst (λ y. IsIn y fresh) (sym e) j | inr k ↦ absurd (none k) ])
        where
          none : IsIn x [] → ⊥
          none k = elim k [ ]

  move_in : (v : Move) → IsIn v moves → stands_in s v.to ≡ true → IsIn (piece_of_move v) blocks
  move_in v i e = into_filter (λ (p : Piece). stands_in s p.place) (moved_pieces moves) e
      (into_sorted_by (λ (p : Piece). p.place) (piece_of_move v) (map piece_of_move moves) (IsIn-map piece_of_move i))

  -- an object whose move lands in the segment is among them
  moved_into : (o : Object) → IsIn o m.objects → (v : Move) → IsIn v moves → Covers v o.place
      → stands_in s v.to ≡ true → IsIn (goes o) refilling
  unfolding refilling part_by pieces_at which
  moved_into o present v i cover stands = into_refined tiling pieces_at b n (goes o) (by (which b n))
    where
      b : Piece
      b = piece_of_move v

      n : IsIn b tiling
      n = into_sorted_by (λ (p : Piece). p.place) b (blocks ++ fresh) (append_left fresh (move_in v i stands))

      same : (w : Move) → IsIn w moves → b ≡ piece_of_move w
          → (v ≡ w) ⊎ ((v.to + v.size ≤ w.to) ⊎ (w.to + w.size ≤ v.to)) → v ≡ w
      same w k e (inl q) = q
      same w k e (inr far) =
          let to : v.to ≡ w.to = ap (λ (p : Piece). p.place) e in
          let size : v.size ≡ w.size = ap (λ (p : Piece). p.size) e in
          let (low, up) = cover in
          elim far [ inl u ↦ absurd (omega arith) | inr u ↦ absurd (omega arith) ]

      by : (w : IsBlock b ⊎ IsIn b fresh) → IsIn (goes o) (part_by b w)
      by (inr j) = absurd (apart b b (move_in v i stands) j refl)
      by (inl (j, (w, k, e))) =
          let one : v ≡ w = same w k e (moves-apart moves v w l.scattered i k) in
          (fills m h keeps survive plugs moves l.going w k).all o present
          (subst (λ (u : Move). Covers u o.place) one cover)

  -- so is each new free item
  fresh_into : (f : Piece) → IsIn f fresh → IsIn f refilling
  unfolding refilling part_by pieces_at which
  fresh_into f j = into_refined tiling pieces_at f n f (by (which f n))
    where
      n : IsIn f tiling
      n = into_sorted_by (λ (p : Piece). p.place) f (blocks ++ fresh) (append_right blocks j)

      by : (w : IsBlock f ⊎ IsIn f fresh) → IsIn f (part_by f w)
      by (inl (k, is)) = absurd (apart f f k j refl)
      by (inr k) = first

  -- no moved object stands where a new free item does
  moved_apart : (o : Object) (v : Move) → IsIn v moves → Covers v o.place → stands_in s v.to ≡ true → (f : Piece)
      → IsIn f fresh → moved_by moves o.place ≢ f.place
  moved_apart o v i cover stands f j e = go (cases_order (piece_of_move v).place f.place)
    where
      b : IsIn (piece_of_move v) blocks
      b = move_in v i stands

      in_tiling : (x : Piece) → IsIn x (blocks ++ fresh) → IsIn x tiling
      in_tiling x k = into_sorted_by (λ (p : Piece). p.place) x (blocks ++ fresh) k

      go : (v.to ≡ f.place) ⊎ ((v.to < f.place) ⊎ (f.place < v.to)) → ⊥
      go (inl same) = apart (piece_of_move v) f b j same
      go (inr (inl u)) =
          let far : IsGapped (piece_end (piece_of_move v)) f.place =
          tiles-apart (start s) end tiling (piece_of_move v) f tiles (in_tiling (piece_of_move v) (append_left fresh b))
          (in_tiling f (append_right blocks j)) u in
          let at = goes_with m h keeps survive plugs moves l.going v i o.place cover in
          let (low, up) = cover in
          absurd (omega arith)
      go (inr (inr u)) =
          let at = goes_with m h keeps survive plugs moves l.going v i o.place cover in
          absurd (omega arith)

  -- The objects that stay and the new free items fill the part.
  pub landed_refill : IsRefill m keeps moves s (start s) end fresh
  landed_refill = record {
    more = refilling;
    tiled = refilling_tiles;
    high = high;
    more_is = refilling-is;
    fresh_more = fresh_into;
    object_more = object_more;
  }
    where
      object_more : (o : Object) → IsIn o m.objects → keeps o.name ≡ true
          → stands_in s (moved_by moves o.place) ≡ true
          → ((moved_by moves o.place ≡ o.place) × (o.place < start s))
          ⊎ (IsIn (goes o) refilling × (start s ≤ moved_by moves o.place)
          × ((f : Piece) → IsIn f fresh → moved_by moves o.place ≢ f.place))
      object_more o i stays stands = go (moved-is moves o.place)
        where
          unmoved : ((v : Move) → IsIn v moves → Covers v o.place → ⊥) → moved_by moves o.place ≡ o.place
              → (o.place < start s) ⊎ (start s ≤ o.place) → (moved_by moves o.place ≡ o.place) × (o.place < start s)
          unmoved none still (inl u) = (still, u)
          unmoved none still (inr u) =
              let at : stands_in s o.place ≡ true = subst (λ n. stands_in s n ≡ true) still stands in
              absurd (is_covered m h keeps parts start survive plugs moves l o (l.survives o i stays s here at u) none)

          go : ((v : Move) × IsIn v moves × Covers v o.place
              × (moved_by moves o.place ≡ v.to + (o.place - v.start)))
              ⊎ (((v : Move) → IsIn v moves → Covers v o.place → ⊥) × (moved_by moves o.place ≡ o.place))
              → ((moved_by moves o.place ≡ o.place) × (o.place < start s))
              ⊎ (IsIn (goes o) refilling × (start s ≤ moved_by moves o.place)
              × ((f : Piece) → IsIn f fresh → moved_by moves o.place ≢ f.place))
          go (inr (none, still)) = inl (unmoved none still (cases_lt o.place (start s)))
          go (inl (v, j, cover, e)) =
              let (t, among, lands, stands_t, above) =
              lands_where m h keeps parts start survive plugs moves l v j o.place cover in
              let same : t ≡ s = one_home m.layout h.layout t s (moved_by moves o.place) (l.known t among)
              (l.known s here) stands_t stands in
              let lands_here : stands_in s v.to ≡ true = subst (λ (u : SegInfo). stands_in u v.to ≡ true) same lands in
              inr (
                moved_into o i v j cover lands_here,
                subst (λ (u : SegInfo). start u ≤ moved_by moves o.place) same above,
                moved_apart o v j cover lands_here,
              )
