-- What a part of a fit leaves: items, which are the older items then.
use Rattle.std.proofs.Common.{◌≡◌, ℕ, ◌+◌, ◌<◌, ◌≤◌, ◌⊎◌, List, [], ◌∷◌, ◌++◌, map, refl, sym, ap, subst, ◌∙◌}
use Rattle.std.proofs.Common.{arith, Bool, true, false, if◌then◌else◌, ◌&&◌, ◌==◌, not, filter, nat_le, nat_lt, Option}
use Rattle.std.proofs.Common.{None, Some}
use Rattle.std.proofs.lemmas.Bool.{and_from, and_parts, and_right, eq-eqb, le-leb, leb-true}
use Rattle.std.proofs.lemmas.Bool.{lt-ltb, ne_eqb}
use Rattle.std.proofs.lemmas.List.{append-nil}
use Rattle.std.proofs.lemmas.List.Elements.{filter-append}
use Rattle.std.specs.List.{AllByRecursion, list_any}
use Rattle.clr_types.specs.Ranges.{by_place, fits, IsLawfulSize, Piece, piece_end}
use Rattle.clr_types.specs.Rising.{insert_by, IsIn, IsRisingBy, later, first, sorted_by}
use Rattle.clr_types.specs.Segments.{first_place, generation, is_small_or_ephemeral, reserved_end, rest_pieces}
use Rattle.clr_types.specs.Segments.{stands_in}
use Rattle.clr_types.specs.declared.segment.SegInfo.{SegInfo}
use Rattle.clr_types.proofs.ChangedLists.{all_members, filter-insert_out, IsIn-map, IsSortedBy}
use Rattle.clr_types.proofs.ChangedLists.{out_of_filter, rising-sorted, sorted_by-done, sorted_by-sorted}
use Rattle.clr_types.proofs.ListMembers.{any-from, any-in, append_right, filter-rises, from-map}
use Rattle.clr_types.proofs.PieceGaps.{IsGapped}
use Rattle.clr_types.proofs.RisingLists.{all_at}
use Rattle.clr_types.proofs.SegmentFacts.{lawful_segment, one_home}
use Rattle.clr_types.proofs.SortedLists.{out_of_sorted_by}
use Rattle.clr_types.proofs.TilePieces.{IsTile, tile}
use Rattle.clr_model.specs.Machine.{Machine, Object}
use Rattle.clr_model.specs.Lookups.{pieces}
use Rattle.clr_model.specs.Lawful.{IsLaid}
use Rattle.clr_model.specs.Sweep.{is_condemned, Survivor, survivor, survivor_piece, survivors}
use Rattle.clr_model.specs.Compaction.{Plug}
use Rattle.clr_model.specs.Fitting.{Fit, fit, fit_into, is_moved, is_older_item, lowest_item, older_items, taken_from}
use Rattle.clr_model.proofs.CollectedFree.{from_part}
use Rattle.clr_model.proofs.FitCompacted.{old-below}
use Rattle.clr_model.proofs.FitItems as filled
use Rattle.clr_model.proofs.FitFillings.{item-below}
use Rattle.clr_model.proofs.LawfulPieces.{free-in-pieces, HasHome, piece-home, piece-tile, pieces-apart}
use Rattle.clr_model.proofs.PlugsApart.{piece_of_move}
use Rattle.clr_fitting.specs.Laws.{AreItems}
use Rattle.clr_fitting.specs.Steps.{fitted_by}
use Rattle.clr_fitting.proofs.FitLists.{fits-either}

-- ---- tests of sorted lists

module _ {X : Type 0} (key : X → ℕ) (test : X → Bool) where
  front : (x : X) (zs : List X) → AllByRecursion (λ z. key x ≤ key z) zs → insert_by key x zs ≡ x ∷ zs
  front x [] a = refl
  front x (z ∷ zs) a = ap (λ b. if b then x ∷ z ∷ zs else z ∷ insert_by key x zs) (le-leb (key x) (key z) a.0)

  passed-above : (n : ℕ) (ys : List X) → AllByRecursion (λ z. n ≤ key z) ys
      → AllByRecursion (λ z. n ≤ key z) (filter test ys)
  passed-above n ys a = all_members (λ z. n ≤ key z) (filter test ys)
      (λ z i. all_at (λ z. n ≤ key z) (out_of_filter test z ys i).1 a)

  filter-insert : (x : X) (ys : List X) → IsSortedBy key ys → test x ≡ true
      → filter test (insert_by key x ys) ≡ insert_by key x (filter test ys)
  filter-insert x [] sorted t = ap (λ b. if b then x ∷ [] else []) t
  filter-insert x (y ∷ ys) sorted t = go (nat_le (key x) (key y)) refl (filter-insert x ys sorted.1 t)
    where
      past : (b : Bool) → nat_le (key x) (key y) ≡ false
          → (if b then y ∷ insert_by key x (filter test ys) else insert_by key x (filter test ys))
          ≡ insert_by key x (if b then y ∷ filter test ys else filter test ys)
      past true e = sym (ap (λ c. if c then x ∷ y ∷ filter test ys else y ∷ insert_by key x (filter test ys)) e)
      past false e = refl

      go : (b : Bool) → nat_le (key x) (key y) ≡ b
          → filter test (insert_by key x ys) ≡ insert_by key x (filter test ys)
          → filter test (if b then x ∷ y ∷ ys else y ∷ insert_by key x ys)
          ≡ insert_by key x (filter test (y ∷ ys))
      go true e rest =
          let low : key x ≤ key y = leb-true (key x) (key y) e in
          let all : AllByRecursion (λ z. key x ≤ key z) (y ∷ ys) = (
            low,
            all_members (λ z. key x ≤ key z) ys
                (λ z i. let up : key y ≤ key z = all_at (λ z. key y ≤ key z) i sorted.0 in omega arith),
          ) in
          ap (λ b. if b then x ∷ filter test (y ∷ ys) else filter test (y ∷ ys)) t
          ∙ sym (front x (filter test (y ∷ ys)) (passed-above (key x) (y ∷ ys) all))
      go false e rest = ap (λ zs. if test y then y ∷ zs else zs) rest ∙ past (test y) e

  -- what passes, by rising key
  pub filter-sorted : (xs : List X) → filter test (sorted_by key xs) ≡ sorted_by key (filter test xs)
  filter-sorted [] = refl
  filter-sorted (x ∷ xs) = go (test x) refl (filter-sorted xs)
    where
      go : (b : Bool) → test x ≡ b → filter test (sorted_by key xs) ≡ sorted_by key (filter test xs)
          → filter test (insert_by key x (sorted_by key xs))
          ≡ sorted_by key (if b then x ∷ filter test xs else filter test xs)
      go true t rest = filter-insert x (sorted_by key xs) (sorted_by-sorted key xs) t ∙ ap (insert_by key x) rest
      go false t rest = filter-insert_out key test x (sorted_by key xs) t ∙ rest

  none-passes : (xs : List X) → ((x : X) → IsIn x xs → test x ≡ false) → filter test xs ≡ []
  none-passes [] h = refl
  none-passes (x ∷ xs) h = ap (λ b. if b then x ∷ filter test xs else filter test xs) (h x first)
      ∙ none-passes xs (λ y i. h y (later i))

  all-pass : (xs : List X) → ((x : X) → IsIn x xs → test x ≡ true) → filter test xs ≡ xs
  all-pass [] h = refl
  all-pass (x ∷ xs) h = ap (λ b. if b then x ∷ filter test xs else filter test xs) (h x first)
      ∙ ap (λ ys. x ∷ ys) (all-pass xs (λ y i. h y (later i)))

-- ---- items

-- both ways of saying what items are
pub from_items : (is : List Piece) → filled.AreItems is → AreItems is
from_items [] h = tt
from_items (i ∷ is) h = (h.0, h.1, from_items is h.2)

pub to_items : (is : List Piece) → AreItems is → filled.AreItems is
to_items [] h = tt
to_items (i ∷ is) h = (h.0, h.1, to_items is h.2)

items-rise : (is : List Piece) → filled.AreItems is → IsRisingBy (λ (p : Piece). p.place) is
items-rise [] h = tt
items-rise (i ∷ is) h = (
  all_members (λ (j : Piece). i.place < j.place) is
      (λ j n. let up : piece_end i ≤ j.place = all_at (λ (j : Piece). piece_end i ≤ j.place) n h.1 in
      let (a, b) = h.0 in omega arith),
  items-rise is h.2,
)

-- what a search finds is an item in which the size fits
found : (size : ℕ) (is : List Piece) (j : Piece) → lowest_item size is ≡ Some j → IsIn j is × (fits size j.size ≡ true)
found size [] j e = absurd cc
found size (i ∷ is) j e = go (fits size i.size) refl e (found size is j)
  where
    same : Some i ≡ Some j → i ≡ j
    same e = cc

    go : (b : Bool) → fits size i.size ≡ b → (if b then Some i else lowest_item size is) ≡ Some j
        → (lowest_item size is ≡ Some j → IsIn j is × (fits size j.size ≡ true))
        → IsIn j (i ∷ is) × (fits size j.size ≡ true)
    go true f e more = let s = same e in
        (subst (λ k. IsIn k (i ∷ is)) s first, subst (λ (k : Piece). fits size k.size ≡ true) s f)
    go false f e more = let (n, k) = more e in (later n, k)

left-items : (ps : List Plug) (items : List Piece) → filled.AreItems items
    → AllByRecursion (λ (p : Plug). IsLawfulSize p.size) ps → filled.AreItems (fit ps items).left
left-items [] items h sizes = h
left-items (p ∷ ps) items h sizes = go (lowest_item p.size items) refl (λ is k. left-items ps is k sizes.1)
  where
    go : (o : Option Piece) → lowest_item p.size items ≡ o
        → ((is : List Piece) → filled.AreItems is → filled.AreItems (fit ps is).left)
        → filled.AreItems (fit_into p o (fit ps) items).left
    go None e again = again items h
    go (Some i) e again =
        let (n, room) = found p.size items i e in
        again (taken_from i.place p.size items) (filled.taken-items i.place p.size sizes.0 items h
        (all_members (λ (j : Piece). j.place ≡ i.place → (p.size ≡ j.size) ⊎ (p.size + 24 ≤ j.size)) items
        (λ j o same. subst (λ (k : Piece). (p.size ≡ k.size) ⊎ (p.size + 24 ≤ k.size))
        (filled.items-once items i j h n o (sym same)) (fits-either p.size i.size room))))

-- what a fit leaves of items are items
pub left_items : (ps : List Plug) (items : List Piece) → AreItems items
    → AllByRecursion (λ (p : Plug). IsLawfulSize p.size) ps → AreItems (fit ps items).left
left_items ps items h sizes = from_items (fit ps items).left (left-items ps items (to_items items h) sizes)

module _ (m : Machine) (h : IsLaid m) where
  item-free : (i : Piece) → IsIn i (older_items m.layout) → (is_older_item m.layout i ≡ true) × IsIn i (pieces m)
  item-free i n = let (t, j) = out_of_filter (is_older_item m.layout) i m.layout.free n in
      (t, free-in-pieces m h i j)

  pieces-are : (is : List Piece) → IsRisingBy (λ (p : Piece). p.place) is
      → ((i : Piece) → IsIn i is → IsIn i (pieces m))
      → filled.AreItems is
  pieces-are [] rise known = tt
  pieces-are (i ∷ is) rise known = (
    (piece-tile m h i (known i first) (piece-home m h i (known i first))).size,
    all_members (λ (j : Piece). piece_end i ≤ j.place) is
        (λ j n. let far : IsGapped (piece_end i) j.place = pieces-apart m h i j (known i first) (known j (later n))
        (all_at (λ (q : Piece). i.place < q.place) n rise.0) in omega arith),
    pieces-are is rise.1 (λ j n. known j (later n)),
  )

  older-are : filled.AreItems (older_items m.layout)
  older-are =
      pieces-are (older_items m.layout)
      (filter-rises (is_older_item m.layout) (λ (p : Piece). p.place) m.layout.free h.layout.free_rise)
      (λ i n. (item-free i n).1)

  -- the older items of a lawful memory are items
  pub older_are_items : AreItems (older_items m.layout)
  older_are_items = from_items (older_items m.layout) older-are

  module _ (bare : rest_pieces m.layout.rests ≡ []) (kept : ℕ → Bool) where
    -- a place inside an older item is of generation 2, too, and of the small heap
    pub inside-older : (i x : Piece) → IsIn i (older_items m.layout) → i.place ≤ x.place → x.place < piece_end i
        → is_older_item m.layout x ≡ true
    inside-older i x n low high =
        let (older, among) = item-free i n in
        let (home, age) = and_parts
        (list_any (λ s. is_small_or_ephemeral s.kind && stands_in s i.place) m.layout.segments)
        (generation m.layout i.place == 2) older in
        let (s, known, t) = any-in (λ s. is_small_or_ephemeral s.kind && stands_in s i.place) m.layout.segments home in
        let (kind, stands) = and_parts (is_small_or_ephemeral s.kind) (stands_in s i.place) t in
        let n' : HasHome m.layout i.place = piece-home m h i among in
        let is : IsTile (first_place n'.home) n'.home.end i = piece-tile m h i among n' in
        let same : n'.home ≡ s = one_home m.layout h.layout n'.home s i.place n'.among known n'.stands stands in
        let top : n'.home.end ≤ reserved_end n'.home = (lawful_segment m.layout h.layout n'.home n'.among).high in
        let end = is.high_end in let begin = n'.low in
        let below = item-below m h bare kept i n in
        let there : stands_in n'.home x.place ≡ true =
        and_from (nat_le (first_place n'.home) x.place) (nat_lt x.place (reserved_end n'.home))
        (le-leb (first_place n'.home) x.place (omega arith)) (lt-ltb x.place (reserved_end n'.home) (omega arith)) in
        and_from (list_any (λ s. is_small_or_ephemeral s.kind && stands_in s x.place) m.layout.segments)
        (generation m.layout x.place == 2)
        (any-from (λ s. is_small_or_ephemeral s.kind && stands_in s x.place) m.layout.segments s known
        (and_from (is_small_or_ephemeral s.kind) (stands_in s x.place) kind
        (subst (λ (u : SegInfo). stands_in u x.place ≡ true) same there)))
        (eq-eqb (generation m.layout x.place) 2 (old-below m.layout x.place (omega arith)))

    module _ (ps : List Plug) (sizes : AllByRecursion (λ (p : Plug). IsLawfulSize p.size) ps) where
      abbrev f : Fit
      f = fit ps (older_items m.layout)

      fills : filled.AreFillings (older_items m.layout) f.moves f.left
      fills = filled.fit_fills ps (older_items m.layout) older-are sizes

      left-older : (l : Piece) → IsIn l f.left → is_older_item m.layout l ≡ true
      left-older l i =
          let (g, n, k) = from_part (λ f. f.rest) fills.fillings l (subst (IsIn l) fills.left_are i) in
          let at : IsTile g.item.place (piece_end g.item) l =
          tile g.item.place (piece_end g.item) (filled.filling_pieces g) l (all_at filled.IsFilling n fills.filled)
          (append_right (map piece_of_move g.moves) k) in
          let gap = at.low_gap in let (a, b) = at.size in let end = at.high_end in
          inside-older g.item l (subst (IsIn g.item) fills.items_are (IsIn-map (λ f. f.item) n)) (omega arith)
          (omega arith)

      vacated-younger : (x : Piece)
          → IsIn x (map survivor_piece (filter (λ k. is_moved f.moves k.place) (survivors m 1 kept)))
          → is_older_item m.layout x ≡ false
      vacated-younger x i =
          let (k, e, j) = from-map survivor_piece x (filter (λ k. is_moved f.moves k.place) (survivors m 1 kept)) i in
          let (t, among) = out_of_filter (λ k. is_moved f.moves k.place) k (survivors m 1 kept) j in
          let (o, is, n) = from-map (survivor m) k
          (filter (λ (o : Object). is_condemned m 1 o && kept o.name) m.objects)
          (out_of_sorted_by (λ (s : Survivor). s.place) k _ among) in
          let young = leb-true (generation m.layout o.place) 1 (and_parts (is_condemned m 1 o) (kept o.name)
          (out_of_filter (λ (o : Object). is_condemned m 1 o && kept o.name) o m.objects n).0).0 in
          let at : generation m.layout k.place ≡ generation m.layout o.place =
          ap (λ (w : Survivor). generation m.layout w.place) is in
          subst (λ p. is_older_item m.layout p ≡ false) (sym e)
          (and_right (list_any (λ s. is_small_or_ephemeral s.kind && stands_in s k.place) m.layout.segments)
          (generation m.layout k.place == 2)
          (ne_eqb (generation m.layout k.place) 2 (λ two. absurd (omega (arith, two, young, at)))))

      others-younger : (x : Piece) → IsIn x (filter (λ i. not (is_older_item m.layout i)) m.layout.free)
          → is_older_item m.layout x ≡ false
      others-younger x i = go (is_older_item m.layout x)
          (out_of_filter (λ i. not (is_older_item m.layout i)) x m.layout.free i).0
        where
          go : (b : Bool) → not b ≡ true → b ≡ false
          go true e = absurd cc
          go false e = refl

      -- after this part the older items are what it left
      pub part_left : older_items (fitted_by m kept (fit ps (older_items m.layout))).layout
          ≡ (fit ps (older_items m.layout)).left
      part_left =
          let others : List Piece = filter (λ i. not (is_older_item m.layout i)) m.layout.free in
          let vacated : List Piece =
          map survivor_piece (filter (λ k. is_moved f.moves k.place) (survivors m 1 kept)) in
          let none_old = none-passes (λ (p : Piece). p.place) (is_older_item m.layout) others others-younger in
          let none_left = none-passes (λ (p : Piece). p.place) (is_older_item m.layout) vacated vacated-younger in
          let all = all-pass (λ (p : Piece). p.place) (is_older_item m.layout) f.left left-older in
          filter-sorted (λ (p : Piece). p.place) (is_older_item m.layout) ((others ++ f.left) ++ vacated)
          ∙ ap by_place
          (filter-append (is_older_item m.layout) (others ++ f.left) vacated
          ∙ ap (λ ys. filter (is_older_item m.layout) (others ++ f.left) ++ ys) none_left
          ∙ append-nil (filter (is_older_item m.layout) (others ++ f.left))
          ∙ filter-append (is_older_item m.layout) others f.left
          ∙ (λ i. none_old i ++ all i))
          ∙ sorted_by-done (λ (p : Piece). p.place) f.left
          (rising-sorted (λ (p : Piece). p.place) f.left
          (items-rise f.left (left-items ps (older_items m.layout) older-are sizes)))
