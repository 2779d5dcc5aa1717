-- What a fit puts into older free items: the fillings, what is left of them, and where their plugs come from.
use Rattle.std.proofs.Common.{◌≡◌, ℕ, ◌+◌, ◌<◌, ◌≤◌, ◌⊎◌, inl, inr, List, [], ◌∷◌, ◌++◌, map, refl, sym, ap, subst, ◌∙◌}
use Rattle.std.proofs.Common.{arith, Bool, true, false, if◌then◌else◌, ◌&&◌, not, nat_le, nat_lt, ◌==◌}
use Rattle.std.proofs.lemmas.Bool.{and_parts, and_from, le-leb, lt-ltb, leb-true, ltb-true, both_ways, cases_order}
use Rattle.std.proofs.lemmas.Bool.{eqb-true}
use Rattle.std.specs.List.{AllByRecursion, flat_map, list_any}
use Rattle.clr_types.specs.Rising.{IsIn, first, later, IsRisingBy}
use Rattle.clr_types.specs.Ranges.{Piece, piece_end, IsLawfulSize}
use Rattle.clr_types.specs.declared.segment.SegInfo.{SegInfo}
use Rattle.clr_types.specs.Segments.{first_place, reserved_end, stands_in, ephemeral, generation, is_small_or_ephemeral}
use Rattle.clr_types.specs.Segments.{rest_pieces}
use Rattle.clr_types.specs.LawfulLayout.{DoesNotCross}
use Rattle.clr_types.proofs.RisingLists.{all_at, in_cons}
use Rattle.clr_types.proofs.ChangedLists.{all_members, out_of_filter, IsIn-map, append_left, rising-distinct}
use Rattle.clr_types.proofs.SortedLists.{IsDistinctBy, same_by_key}
use Rattle.clr_types.proofs.ListMembers.{any-in, any-from, append_right, distinct_append, distinct_right, filter-rises}
use Rattle.clr_types.proofs.ListMembers.{rising_same}
use Rattle.clr_types.proofs.PieceGaps.{IsGapped}
use Rattle.clr_types.proofs.TilePieces.{IsTile, tile, tiles-apart}
use Rattle.clr_types.proofs.Tilings.{tiles-rise}
use Rattle.clr_types.proofs.SegmentFacts.{one_home, lawful_segment}
use Rattle.clr_types.proofs.HighestSegment.{ephemeral-highest}
use Rattle.clr_model.specs.Machine.{Machine, Object}
use Rattle.clr_model.specs.Lookups.{pieces, object_piece}
use Rattle.clr_model.specs.Lawful.{IsLaid}
use Rattle.clr_model.specs.Sweep.{Survivor, survivors, taking_part, part_start}
use Rattle.clr_model.specs.Compaction.{Plug, plugs_of, Move, moved_by, survivors_in}
use Rattle.clr_model.specs.Fitting.{is_older_item, older_items, Fit, fit_of, fitting_plugs, is_moved}
use Rattle.clr_model.proofs.LawfulPieces.{HasHome, piece-home, piece-tile, pieces-apart, object-in-pieces}
use Rattle.clr_model.proofs.LawfulSurvivors.{IsSurvivor, survivor-is, IsPlugOf, plug-is, condemned}
use Rattle.clr_model.proofs.CondemnedParts.{young-only, start-ephemeral}
use Rattle.clr_model.proofs.CondemnedPlugs.{AreCondemned}
use Rattle.clr_model.proofs.PlugsApart.{piece_of_move}
use Rattle.clr_model.proofs.MovedPlaces.{moved-is}
use Rattle.clr_model.proofs.Relaid.{free-in-pieces}
use Rattle.clr_model.proofs.CollectedPieces.{old-apart}
use Rattle.clr_model.proofs.CollectedFree.{from_part}
use Rattle.clr_model.proofs.Landings.{AreGoing, Covers, goes_with, going_piece, fills}
use Rattle.clr_model.proofs.FitItems.{AreItems, items-apart, Filling, filling_pieces, IsFilling, AreFillings, fit_fills}
use Rattle.clr_model.proofs.FitItems.{IsMoveOfPlug, fit-moves, fit-rise}

-- ---- places that go

-- a place that goes is covered by a move
pub moved-covers : (vs : List Move) (x : ℕ) → is_moved vs x ≡ true → (v : Move) × IsIn v vs × Covers v x
moved-covers vs x e =
    let (v, i, t) = any-in (λ v. nat_le v.start x && nat_lt x (v.start + v.size)) vs e in
    let (a, b) = and_parts (nat_le v.start x) (nat_lt x (v.start + v.size)) t in
    (v, i, (leb-true v.start x a, ltb-true x (v.start + v.size) b))

-- what a move covers goes
pub covers-moved : (vs : List Move) (x : ℕ) (v : Move) → IsIn v vs → Covers v x → is_moved vs x ≡ true
covers-moved vs x v i (a, b) =
    any-from (λ v. nat_le v.start x && nat_lt x (v.start + v.size)) vs v i
    (and_from (nat_le v.start x) (nat_lt x (v.start + v.size)) (le-leb v.start x a) (lt-ltb x (v.start + v.size) b))

-- a place that doesn't go stays
pub unmoved-still : (vs : List Move) (x : ℕ) → is_moved vs x ≡ false → moved_by vs x ≡ x
unmoved-still vs x e = elim (moved-is vs x) [
  | inl (v, i, c, f) ↦ absurd (both_ways (is_moved vs x) e (covers-moved vs x v i c))
  | inr (none, f) ↦ f
]

-- ---- what is left of items

-- items by rising place that are pieces of a lawful machine
pieces-are_items : (m : Machine) → IsLaid m → (is : List Piece) → IsRisingBy (λ (p : Piece). p.place) is
    → ((i : Piece) → IsIn i is → IsIn i (pieces m)) → AreItems is
pieces-are_items m h [] rise known = tt
pieces-are_items m h (i ∷ is) rise known = (
  (piece-tile m h i (known i first) (piece-home m h i (known i first))).size,
  all_members (λ (j : Piece). piece_end i ≤ j.place) is
      (λ j n. let far : IsGapped (piece_end i) j.place = pieces-apart m h i j (known i first) (known j (later n))
      (all_at (λ (q : Piece). i.place < q.place) n rise.0) in omega arith),
  pieces-are_items m h is rise.1 (λ j n. known j (later n)),
)

-- fillings of items stand in the order of their items
fillings-rise : (fs : List Filling) → AreItems (map (λ f. f.item) fs) → IsRisingBy (λ (f : Filling). f.item.place) fs
fillings-rise [] h = tt
fillings-rise (f ∷ fs) h = (
  all_members (λ (g : Filling). f.item.place < g.item.place) fs
      (λ g n. let l : piece_end f.item ≤ g.item.place =
      all_at (λ (j : Piece). piece_end f.item ≤ j.place) (IsIn-map (λ (g : Filling). g.item) n) h.1 in
      let (a, b) = h.0 in omega arith),
  fillings-rise fs h.2,
)

-- a piece of a filling stands in its item
pub record IsInItem (items : List Piece) (x : Piece) : Type 0 where
  pub item : Piece
  pub among : IsIn item items
  pub low : item.place ≤ x.place
  pub high : piece_end x ≤ piece_end item
  pub size : IsLawfulSize x.size

-- each piece of a filling stands in its item
in-item : (items : List Piece) (f : Filling) → IsIn f.item items → IsFilling f → (x : Piece)
    → IsIn x (filling_pieces f) → IsInItem items x
in-item items f n filled x i =
    let is : IsTile f.item.place (piece_end f.item) x =
    tile f.item.place (piece_end f.item) (filling_pieces f) x filled i in
    let gap = is.low_gap in
    record { item = f.item; among = n; low = omega arith; high = is.high_end; size = is.size }

-- what is left of items stands at places of its own
pub rests-distinct : (fs : List Filling) → AreItems (map (λ f. f.item) fs) → AllByRecursion IsFilling fs
    → IsDistinctBy (λ (p : Piece). p.place) (flat_map (λ f. f.rest) fs)
rests-distinct [] h filled = tt
rests-distinct (f ∷ fs) h filled =
    distinct_append (λ (p : Piece). p.place) f.rest (flat_map (λ f. f.rest) fs)
    (distinct_right (λ (p : Piece). p.place) (map piece_of_move f.moves) f.rest
    (rising-distinct (λ (p : Piece). p.place) (filling_pieces f)
    (tiles-rise f.item.place (piece_end f.item) (filling_pieces f) filled.0)))
    (rests-distinct fs h.2 filled.1)
    (λ p q i j e.
    let here : IsInItem (f.item ∷ []) p =
    in-item (f.item ∷ []) f first filled.0 p (append_right (map piece_of_move f.moves) i) in
    let (g, n, k) = from_part (λ f. f.rest) fs q j in
    let there : IsInItem (map (λ f. f.item) fs) q =
    in-item (map (λ f. f.item) fs) g (IsIn-map (λ (f : Filling). f.item) n) (all_at IsFilling n filled.1) q
    (append_right (map piece_of_move g.moves) k) in
    let up : piece_end f.item ≤ there.item.place =
    all_at (λ (j : Piece). piece_end f.item ≤ j.place) there.among h.1 in
    let one : here.item ≡ f.item = only here.among in
    let end : piece_end here.item ≡ piece_end f.item = ap piece_end one in
    let a = here.high in let b = there.low in let (c, d) = here.size in omega arith)
  where
    only : {x : Piece} → IsIn x (f.item ∷ []) → x ≡ f.item
    only i = elim (in_cons i) [ inl e ↦ e | inr n ↦ elim n [ ] ]

module _ (m : Machine) (h : IsLaid m) (bare : rest_pieces m.layout.rests ≡ []) (keeps : ℕ → Bool) where
  abbrev kept : List Survivor
  kept = survivors m 1 keeps

  abbrev small : List Survivor
  small = survivors_in is_small_or_ephemeral m.layout kept

  abbrev cs : List Plug
  cs = fitting_plugs (plugs_of small)

  abbrev items : List Piece
  items = older_items m.layout

  abbrev F : Fit
  F = fit_of m.layout kept

  one : 1 ≤ 2
  one = omega arith

  all-condemned : AreCondemned m.layout 1 (taking_part is_small_or_ephemeral 1 m.layout) (plugs_of small)
  all-condemned = condemned m h 1 one keeps

  -- an older item passes the test, and is free
  pub item-is : (i : Piece) → IsIn i items → (is_older_item m.layout i ≡ true) × IsIn i m.layout.free
  item-is i n = out_of_filter (is_older_item m.layout) i m.layout.free n

  -- it is a piece of the machine
  pub item-piece : (i : Piece) → IsIn i items → IsIn i (pieces m)
  item-piece i n = free-in-pieces m i (item-is i n).1

  -- the older items rise, and none overlaps the next
  pub are-items : AreItems items
  are-items = pieces-are_items m h items
      (filter-rises (is_older_item m.layout) (λ (p : Piece). p.place) m.layout.free h.layout.free_rise) item-piece

  -- ---- items end below the condemned part

  two-below : (place start1 start0 : ℕ)
      → ◌≡◌ {A = ℕ} (if nat_lt place start1 then 2 else (if nat_lt place start0 then 1 else 0)) 2 → place < start1
  two-below place start1 start0 e = go (nat_lt place start1) (nat_lt place start0) refl e
    where
      go : (a b : Bool) → nat_lt place start1 ≡ a → ◌≡◌ {A = ℕ} (if a then 2 else (if b then 1 else 0)) 2
          → place < start1
      go true b f e = ltb-true place start1 f
      go false true f e = absurd (omega (arith, e))
      go false false f e = absurd (omega (arith, e))

  -- an older item ends where generation 1 begins, or before
  pub item-below : (i : Piece) → IsIn i (older_items m.layout) → piece_end i ≤ m.layout.start1
  item-below i n =
      let (older, free) = item-is i n in
      let (home, age) = and_parts
      (list_any (λ s. is_small_or_ephemeral s.kind && stands_in s i.place) m.layout.segments)
      (generation m.layout i.place == 2) older in
      let (s, known, t) = any-in (λ s. is_small_or_ephemeral s.kind && stands_in s i.place) m.layout.segments home in
      let (kind, stands) = and_parts (is_small_or_ephemeral s.kind) (stands_in s i.place) t in
      let two : generation m.layout i.place ≡ 2 = eqb-true (generation m.layout i.place) 2 age in
      let n' : HasHome m.layout i.place = piece-home m h i (item-piece i n) in
      let is : IsTile (first_place n'.home) n'.home.end i = piece-tile m h i (item-piece i n) n' in
      let same : n'.home ≡ s = one_home m.layout h.layout n'.home s i.place n'.among known n'.stands stands in
      let top : n'.home.end ≤ reserved_end n'.home = (lawful_segment m.layout h.layout n'.home n'.among).high in
      let end = is.high_end in
      let end_s : reserved_end n'.home ≡ reserved_end s = ap reserved_end same in
      let (z, z') = is.size in
      elim (ephemeral-highest m.layout h.layout s known kind) [
        | inl eph ↦
            let in_eph : stands_in (ephemeral m.layout) i.place ≡ true =
            subst (λ (u : SegInfo). stands_in u i.place ≡ true) eph stands in
            let down : i.place < m.layout.start1 = two-below i.place m.layout.start1 m.layout.start0
            (sym (ap (λ b. if b then (if nat_lt i.place m.layout.start1 then 2 else
            (if nat_lt i.place m.layout.start0 then 1 else 0)) else 2) in_eph) ∙ two) in
            elim (all_at (DoesNotCross m.layout.start1) (item-piece i n) h.whole1) [
              | inl up ↦ absurd (omega arith)
              | inr under ↦ under
            ]
        | inr below ↦ let lo = h.layout.start1_low in omega arith
      ]

  -- a plug begins where generation 1 does, or behind
  plug-above : (p : Plug) → IsIn p (plugs_of small) → m.layout.start1 ≤ p.start
  plug-above p n =
      let is : IsPlugOf m h 1 one keeps p = plug-is m h 1 one keeps p n in
      let eph : is.home ≡ ephemeral m.layout = young-only m.layout h.layout 1 one is.home is.among (omega arith) in
      let from : IsGapped (part_start m.layout 1 is.home) p.start = is.from in
      let at : part_start m.layout 1 is.home ≡ m.layout.start1 =
      ap (part_start m.layout 1) eph ∙ start-ephemeral m.layout h.layout 1 one in
      omega arith

  -- ---- the fillings

  -- what may go is a plug that isn't pinned
  candidate : (p : Plug) → IsIn p cs → IsIn p (plugs_of small) × (p.pinned ≡ true → ⊥)
  candidate p n =
      let (t, k) = out_of_filter (λ p. not p.pinned && (p.generation == 1)) p (plugs_of small) n in
      (k, λ pinned. go p.pinned (and_parts (not p.pinned) (p.generation == 1) t).0 pinned)
    where
      go : (b : Bool) → not b ≡ true → b ≡ true → ⊥
      go true e f = absurd cc
      go false e f = absurd cc

  -- the moves of a fit fill the older items, and so does what is left
  pub fillings : AreFillings (older_items m.layout) (fit_of m.layout (survivors m 1 keeps)).moves
      (fit_of m.layout (survivors m 1 keeps)).left
  fillings = fit_fills cs items are-items
      (all_members (λ (p : Plug). IsLawfulSize p.size) cs
      (λ p n. let is : IsPlugOf m h 1 one keeps p = plug-is m h 1 one keeps p (candidate p n).0 in
      (is.size, is.aligned.1)))

  abbrev fs : List Filling
  fs = fillings.fillings

  -- the items that are filled are the older items
  pub items-of : AreItems (map (λ f. f.item) fs)
  items-of = subst AreItems (sym fillings.items_are) are-items

  -- what is filled is an older item
  pub item-of : (f : Filling) → IsIn f fs → IsIn f.item items
  item-of f n = subst (IsIn f.item) fillings.items_are (IsIn-map (λ (f : Filling). f.item) n)

  -- one item has one filling
  pub same-filling : (f g : Filling) → IsIn f fs → IsIn g fs → f.item.place ≡ g.item.place → f ≡ g
  same-filling f g i j e = rising_same (λ (f : Filling). f.item.place) fs f g (fillings-rise fs items-of) i j e

  -- a plug lands in an older item
  move-in : (v : Move) → IsIn v F.moves → IsInItem items (piece_of_move v)
  move-in v i =
      let (f, n, k) = fillings.moves_into v i in
      in-item items f (item-of f n) (all_at IsFilling n fillings.filled) (piece_of_move v)
      (append_left f.rest (IsIn-map piece_of_move k))

  -- what is left is the rest of a filling
  pub left-is : (l : Piece) → IsIn l F.left → (f : Filling) × IsIn f fs × IsIn l f.rest
  left-is l i = from_part (λ f. f.rest) fs l (subst (IsIn l) fillings.left_are i)

  -- and stands in an older item
  pub left-in : (l : Piece) → IsIn l F.left → IsInItem items l
  left-in l i =
      let (f, n, k) = left-is l i in
      in-item items f (item-of f n) (all_at IsFilling n fillings.filled) l (append_right (map piece_of_move f.moves) k)

  -- plugs that found room go down, each to a place of its own
  pub going : AreGoing m keeps (survivors_in is_small_or_ephemeral m.layout (survivors m 1 keeps))
      (fitting_plugs (plugs_of (survivors_in is_small_or_ephemeral m.layout (survivors m 1 keeps))))
      (fit_of m.layout (survivors m 1 keeps)).moves
  going = record {
    plugs_in = λ p n. (candidate p n).0;
    survivors_are = λ k i. let is : IsSurvivor m h 1 one keeps k = survivor-is m h 1 one keeps k i in
        record {
          object = is.object;
          present = is.present;
          kept_on = is.kept_on;
          is = is.is;
          size = (is.size, is.aligned.1);
        };
    apart = λ p q i j l. all-condemned.plugs.apart p q (candidate p i).0 (candidate q j).0 l;
    plug_of = λ v i.
        let is : IsMoveOfPlug cs v = fit-moves cs items v i in
        let at : IsInItem items (piece_of_move v) = move-in v i in
        let below = item-below at.item at.among in
        let above = plug-above is.plug (candidate is.plug is.among).0 in
        let end = at.high in (
          is.plug,
          is.among,
          record {
            start = is.start;
            size = is.size;
            pinned = λ pinned. absurd ((candidate is.plug is.among).1 pinned);
            lower = omega arith;
          },
        );
    rise = fit-rise cs items (filter-rises (λ p. not p.pinned && (p.generation == 1)) (λ (p : Plug). p.start)
        (plugs_of small) all-condemned.plugs.rise);
  }

  -- two moves are one, or land apart
  pub moves-scattered : (v w : Move) → IsIn v (fit_of m.layout (survivors m 1 keeps)).moves
      → IsIn w (fit_of m.layout (survivors m 1 keeps)).moves
      → (v ≡ w) ⊎ ((v.to + v.size ≤ w.to) ⊎ (w.to + w.size ≤ v.to))
  moves-scattered v w i j =
      let (f, n, k) = fillings.moves_into v i in
      let (g, o, q) = fillings.moves_into w j in
      let a : IsInItem (f.item ∷ []) (piece_of_move v) =
      in-item (f.item ∷ []) f first (all_at IsFilling n fillings.filled) (piece_of_move v)
      (append_left f.rest (IsIn-map piece_of_move k)) in
      let b : IsInItem (g.item ∷ []) (piece_of_move w) =
      in-item (g.item ∷ []) g first (all_at IsFilling o fillings.filled) (piece_of_move w)
      (append_left g.rest (IsIn-map piece_of_move q)) in
      let sa : a.item ≡ f.item = only f.item a.among in
      let sb : b.item ≡ g.item = only g.item b.among in
      let fa : a.item.place ≡ f.item.place = ap (λ (p : Piece). p.place) sa in
      let ga : b.item.place ≡ g.item.place = ap (λ (p : Piece). p.place) sb in
      let fe : piece_end a.item ≡ piece_end f.item = ap piece_end sa in
      let ge : piece_end b.item ≡ piece_end g.item = ap piece_end sb in
      let al = a.low in let ah = a.high in let bl = b.low in let bh = b.high in
      elim (items-apart items f.item g.item are-items (item-of f n) (item-of g o)) [
        | inl same ↦
            let one : f ≡ g = same-filling f g n o (ap (λ (p : Piece). p.place) same) in
            within f (all_at IsFilling n fillings.filled) k (subst (λ (x : Filling). IsIn w x.moves) (sym one) q)
            (cases_order v.to w.to)
        | inr (inl u) ↦ inr (inl (omega arith))
        | inr (inr u) ↦ inr (inr (omega arith))
      ]
    where
      only : (p : Piece) → {x : Piece} → IsIn x (p ∷ []) → x ≡ p
      only p i = elim (in_cons i) [ inl e ↦ e | inr n ↦ elim n [ ] ]

      rising : (vs : List Move) (rest : List Piece) → IsRisingBy (λ (p : Piece). p.place) (map piece_of_move vs ++ rest)
          → IsRisingBy (λ (v : Move). v.to) vs
      rising [] rest r = tt
      rising (u ∷ vs) rest r = (
        all_members (λ (w : Move). u.to < w.to) vs (λ w n. all_at (λ (p : Piece). u.to < p.place)
            (append_left rest (IsIn-map piece_of_move n)) r.0),
        rising vs rest r.1,
      )

      within : (f : Filling) → IsFilling f → IsIn v f.moves → IsIn w f.moves
          → (v.to ≡ w.to) ⊎ ((v.to < w.to) ⊎ (w.to < v.to))
          → (v ≡ w) ⊎ ((v.to + v.size ≤ w.to) ⊎ (w.to + w.size ≤ v.to))
      within f filled k q (inl e) = inl (rising_same (λ (v : Move). v.to) f.moves v w
          (rising f.moves f.rest (tiles-rise f.item.place (piece_end f.item) (filling_pieces f) filled)) k q e)
      within f filled k q (inr (inl u)) =
          let far : IsGapped (v.to + v.size) w.to =
          tiles-apart f.item.place (piece_end f.item) (filling_pieces f) (piece_of_move v) (piece_of_move w) filled
          (append_left f.rest (IsIn-map piece_of_move k)) (append_left f.rest (IsIn-map piece_of_move q)) u in
          inr (inl (omega arith))
      within f filled k q (inr (inr u)) =
          let far : IsGapped (w.to + w.size) v.to =
          tiles-apart f.item.place (piece_end f.item) (filling_pieces f) (piece_of_move w) (piece_of_move v) filled
          (append_left f.rest (IsIn-map piece_of_move q)) (append_left f.rest (IsIn-map piece_of_move k)) u in
          inr (inr (omega arith))

  -- ---- what stands in an item

  -- no object stands in an older item
  pub object-apart : (o : Object) → IsIn o m.objects → (i : Piece) → IsIn i items → i.place ≤ o.place
      → o.place < piece_end i → ⊥
  object-apart o k i n low high = elim (cases_order i.place o.place) [
    | inl e ↦ old-apart m h bare keeps keeps [] [] o i k (item-is i n).1 (sym e)
    | inr (inl u) ↦
        let far : IsGapped (piece_end i) o.place =
        pieces-apart m h i (object_piece m.types o) (item-piece i n) (object-in-pieces m h o k) u in omega arith
    | inr (inr u) ↦ omega arith
  ]

  -- nothing free stands in an older item but the item itself
  pub free-apart : (f : Piece) → IsIn f m.layout.free → (i : Piece) → IsIn i items → i.place ≤ f.place
      → f.place < piece_end i → f ≡ i
  free-apart f k i n low high = elim (cases_order i.place f.place) [
    | inl e ↦ same_by_key (λ (p : Piece). p.place) m.layout.free f i
        (rising-distinct (λ (p : Piece). p.place) m.layout.free h.layout.free_rise) k (item-is i n).1 (sym e)
    | inr (inl u) ↦
        let far : IsGapped (piece_end i) f.place =
        pieces-apart m h i f (item-piece i n) (free-in-pieces m f k) u in absurd (omega arith)
    | inr (inr u) ↦ absurd (omega arith)
  ]

  -- an object that goes lands in an item
  pub lands-in : (o : Object) → IsIn o m.objects → is_moved F.moves o.place ≡ true
      → (v : Move) × IsIn v F.moves × Covers v o.place × IsInItem items (going_piece m h keeps small cs F.moves going o)
  lands-in o k e =
      let (v, i, (a, b)) = moved-covers F.moves o.place e in
      let at = goes_with m h keeps small cs F.moves going v i o.place (a, b) in
      let is : IsInItem items (piece_of_move v) = move-in v i in
      let filled = fills m h keeps small cs F.moves going v i in
      let inside : IsTile v.to (v.to + v.size) (going_piece m h keeps small cs F.moves going o) =
      tile v.to (v.to + v.size) filled.pieces (going_piece m h keeps small cs F.moves going o) filled.tiled
      (filled.all o k (a, b)) in
      let low = is.low in let high = is.high in let gap = inside.low_gap in let end = inside.high_end in (
        v,
        i,
        (a, b),
        record {
          item = is.item;
          among = is.among;
          low = omega arith;
          high = omega arith;
          size = inside.size;
        },
      )
