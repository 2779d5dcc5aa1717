-- The objects and the free items after a fit: no two stand at one place.
use Rattle.std.proofs.Common.{◌≡◌, ℕ, ◌+◌, ◌-◌, ◌≤◌, ◌⊎◌, inl, inr, List, [], ◌++◌, map, sym, ap, subst, ◌∙◌, arith}
use Rattle.std.proofs.Common.{Bool, true, false, filter, not}
use Rattle.std.proofs.lemmas.Bool.{both_ways, cases_Bool, cases_order}
use Rattle.clr_types.specs.Rising.{IsIn}
use Rattle.clr_types.specs.Ranges.{Piece, piece_end}
use Rattle.clr_types.specs.Segments.{Layout, is_small_or_ephemeral, rest_pieces}
use Rattle.clr_types.specs.LawfulLayout.{IsLawfulLayout}
use Rattle.clr_types.proofs.RisingLists.{all_at}
use Rattle.clr_types.proofs.ChangedLists.{out_of_filter, IsIn-map, append_left, rising-distinct}
use Rattle.clr_types.proofs.SortedLists.{IsDistinctBy, sorted_by-rises, into_sorted_by, out_of_sorted_by}
use Rattle.clr_types.proofs.ListMembers.{from-map, in_append, append_right, distinct_map, distinct-by, distinct_append}
use Rattle.clr_types.proofs.ListMembers.{distinct_filter, distinct_cross}
use Rattle.clr_types.proofs.PieceGaps.{IsGapped}
use Rattle.clr_types.proofs.TilePieces.{IsTile, tile, tiles-apart}
use Rattle.clr_types.proofs.Tilings.{tiles-rise}
use Rattle.clr_model.specs.Machine.{Machine, Object}
use Rattle.clr_model.specs.Lookups.{object_piece}
use Rattle.clr_model.specs.Lawful.{IsLaid}
use Rattle.clr_model.specs.Sweep.{Survivor, survivor, survivors, survivor_piece}
use Rattle.clr_model.specs.Compaction.{Plug, plugs_of, Move, moved_by, survivors_in}
use Rattle.clr_model.specs.Slide.{slid_object}
use Rattle.clr_model.specs.Fitting.{is_older_item, older_items, Fit, fit_of, fitting_plugs, is_moved, fitted_layout}
use Rattle.clr_model.proofs.LawfulPieces.{places-distinct}
use Rattle.clr_model.proofs.PlugsApart.{piece_of_move}
use Rattle.clr_model.proofs.CollectedPieces.{old-apart}
use Rattle.clr_model.proofs.Landings.{AreGoing, Covers, goes_with, going_piece}
use Rattle.clr_model.proofs.FitItems.{items-apart, Filling, filling_pieces, IsFilling, AreFillings}
use Rattle.clr_model.proofs.FitFillings.{moved-covers, unmoved-still, IsInItem, rests-distinct, item-is, are-items}
use Rattle.clr_model.proofs.FitFillings.{fillings, items-of, item-of, same-filling, left-is, left-in, going}
use Rattle.clr_model.proofs.FitFillings.{moves-scattered, object-apart, free-apart, lands-in}

module _ (m : Machine) (h : IsLaid m) (bare : rest_pieces m.layout.rests ≡ []) (keeps : ℕ → Bool) where
  abbrev kept : List Survivor
  kept = survivors m 1 keeps

  abbrev small : List Survivor
  small = survivors_in is_small_or_ephemeral m.layout kept

  abbrev cs : List Plug
  cs = fitting_plugs (plugs_of small)

  abbrev items : List Piece
  items = older_items m.layout

  abbrev F : Fit
  F = fit_of m.layout kept

  abbrev placed : Layout
  placed = fitted_layout m.layout kept F

  abbrev fit : AreFillings items F.moves F.left
  fit = fillings m h bare keeps

  abbrev fs : List Filling
  fs = fit.fillings

  abbrev moving : AreGoing m keeps small cs F.moves
  moving = going m h bare keeps

  -- ---- free items afterwards

  abbrev others : List Piece
  others = filter (λ i. not (is_older_item m.layout i)) m.layout.free

  abbrev vacated : List Piece
  vacated = map survivor_piece (filter (λ k. is_moved F.moves k.place) kept)

  -- where an object stood that goes
  pub record IsVacated (f : Piece) : Type 0 where
    pub object : Object
    pub present : IsIn object m.objects
    pub goes : is_moved (fit_of m.layout (survivors m 1 keeps)).moves object.place ≡ true
    pub is : f ≡ object_piece m.types object

  -- what is kept is an object
  kept-is : (k : Survivor) → IsIn k kept → (o : Object) × IsIn o m.objects × (k ≡ survivor m o)
  kept-is k i =
      let (o, e, n) = from-map (survivor m) k _ (out_of_sorted_by (λ (s : Survivor). s.place) k _ i) in
      (o, (out_of_filter _ o m.objects n).1, e)

  -- what is vacated is where an object stood that goes
  pub vacated-is : (f : Piece) → IsIn f vacated → IsVacated f
  vacated-is f i =
      let (k, e, n) = from-map survivor_piece f (filter (λ k. is_moved F.moves k.place) kept) i in
      let (t, j) = out_of_filter (λ k. is_moved F.moves k.place) k kept n in
      let (o, present, is) = kept-is k j in
      record {
        object = o;
        present = present;
        goes = ap (λ (u : Survivor). is_moved F.moves u.place) (sym is) ∙ t;
        is = e ∙ ap survivor_piece is;
      }

  -- an other item is no older one
  pub other-is : (f : Piece) → IsIn f others → IsIn f m.layout.free × (IsIn f items → ⊥)
  other-is f i =
      let (t, k) = out_of_filter (λ i. not (is_older_item m.layout i)) f m.layout.free i in
      (k, λ n. go (is_older_item m.layout f) t (item-is m h bare keeps f n).0)
    where
      go : (b : Bool) → not b ≡ true → b ≡ true → ⊥
      go true e f = absurd cc
      go false e f = absurd cc

  -- what is free afterwards: another item than an older one, what is left of these, or vacated
  pub free-is : (f : Piece) → IsIn f placed.free → (IsIn f others ⊎ IsIn f F.left) ⊎ IsIn f vacated
  free-is f i =
      elim (in_append (others ++ F.left)
      (out_of_sorted_by (λ (p : Piece). p.place) f ((others ++ F.left) ++ vacated) i)) [
        | inl j ↦ inl (in_append others j)
        | inr j ↦ inr j
      ]

  -- each of them is free afterwards
  pub free-in : (f : Piece) → (IsIn f others ⊎ IsIn f F.left) ⊎ IsIn f vacated → IsIn f placed.free
  free-in f j = into_sorted_by (λ (p : Piece). p.place) f ((others ++ F.left) ++ vacated) (go j)
    where
      go : (IsIn f others ⊎ IsIn f F.left) ⊎ IsIn f vacated → IsIn f ((others ++ F.left) ++ vacated)
      go (inl (inl k)) = append_left vacated (append_left F.left k)
      go (inl (inr k)) = append_left vacated (append_right others k)
      go (inr k) = append_right (others ++ F.left) k

  -- no two free items stand at one place
  free-distinct : IsDistinctBy (λ (p : Piece). p.place) ((others ++ F.left) ++ vacated)
  free-distinct =
      distinct_append (λ (p : Piece). p.place) (others ++ F.left) vacated
      (distinct_append (λ (p : Piece). p.place) others F.left
      (distinct_filter (λ (p : Piece). p.place) (λ i. not (is_older_item m.layout i)) m.layout.free
      (rising-distinct (λ (p : Piece). p.place) m.layout.free h.layout.free_rise))
      (subst (IsDistinctBy (λ (p : Piece). p.place)) (sym fit.left_are)
      (rests-distinct fs (items-of m h bare keeps) fit.filled))
      (λ p q i j e. other-left p q i j e))
      (distinct_map survivor_piece (λ (p : Piece). p.place) (filter (λ k. is_moved F.moves k.place) kept)
      (distinct_filter (λ (k : Survivor). k.place) (λ k. is_moved F.moves k.place) kept kept-distinct))
      (λ p q i j e. let is : IsVacated q = vacated-is q j in
      let at : q.place ≡ is.object.place = ap (λ (p : Piece). p.place) is.is in
      elim (in_append others i) [
        | inl k ↦ old-apart m h bare keeps keeps [] [] is.object p is.present (other-is p k).0 (sym at ∙ sym e)
        | inr k ↦
            let inside : IsInItem items p = left-in m h bare keeps p k in
            let l = inside.low in let u = inside.high in let (z, z') = inside.size in
            object-apart m h bare keeps is.object is.present inside.item inside.among (omega arith) (omega arith)
      ])
    where
      kept-distinct : IsDistinctBy (λ (k : Survivor). k.place) kept
      kept-distinct = rising-distinct (λ (k : Survivor). k.place) kept
          (sorted_by-rises (λ (k : Survivor). k.place) _
          (distinct_map (survivor m) (λ (k : Survivor). k.place) _
          (distinct_filter (λ (o : Object). o.place) _ m.objects (places-distinct m h))))

      other-left : (p q : Piece) → IsIn p others → IsIn q F.left → p.place ≡ q.place → ⊥
      other-left p q i j e =
          let (known, not_item) = other-is p i in
          let inside : IsInItem items q = left-in m h bare keeps q j in
          let l = inside.low in let u = inside.high in let (z, z') = inside.size in
          let same : p ≡ inside.item =
          free-apart m h bare keeps p known inside.item inside.among (omega arith) (omega arith) in
          not_item (subst (λ x. IsIn x items) (sym same) inside.among)

  -- the layout is lawful
  pub lawful-placed : IsLawfulLayout placed
  lawful-placed = record {
    segments = h.layout.segments;
    bounded = h.layout.bounded;
    disjoint = h.layout.disjoint;
    below_top = h.layout.below_top;
    top_aligned = h.layout.top_aligned;
    one_ephemeral = h.layout.one_ephemeral;
    ephemeral_last = h.layout.ephemeral_last;
    some_large = h.layout.some_large;
    start1_low = h.layout.start1_low;
    start1_high = h.layout.start1_high;
    start0_high = h.layout.start0_high;
    aligned = h.layout.aligned;
    free_rise = sorted_by-rises (λ (p : Piece). p.place) ((others ++ F.left) ++ vacated) free-distinct;
    threads = h.layout.threads;
  }

  -- ---- objects afterwards

  abbrev goers : List Object
  goers = map (slid_object F.moves) m.objects

  -- two objects don't come to one place
  injective : (a b : Object) → IsIn a m.objects → IsIn b m.objects
      → moved_by F.moves a.place ≡ moved_by F.moves b.place → a.place ≡ b.place
  injective a b i j e = go (cases_Bool (is_moved F.moves a.place)) (cases_Bool (is_moved F.moves b.place))
    where
      in-item_apart : (o : Object) → IsIn o m.objects → (x : Piece) → IsInItem items x → x.place ≡ o.place → ⊥
      in-item_apart o n x is at =
          let l = is.low in let u = is.high in let (z, z') = is.size in
          object-apart m h bare keeps o n is.item is.among (omega arith) (omega arith)

      go : (is_moved F.moves a.place ≡ true) ⊎ (is_moved F.moves a.place ≡ false)
          → (is_moved F.moves b.place ≡ true) ⊎ (is_moved F.moves b.place ≡ false) → a.place ≡ b.place
      go (inr f) (inr g) = sym (unmoved-still F.moves a.place f) ∙ e ∙ unmoved-still F.moves b.place g
      go (inl f) (inr g) =
          let (v, k, c, is) = lands-in m h bare keeps a i f in
          absurd (in-item_apart b j (going_piece m h keeps small cs F.moves moving a) is
          (e ∙ unmoved-still F.moves b.place g))
      go (inr f) (inl g) =
          let (v, k, c, is) = lands-in m h bare keeps b j g in
          absurd (in-item_apart a i (going_piece m h keeps small cs F.moves moving b) is
          (sym e ∙ unmoved-still F.moves a.place f))
      go (inl f) (inl g) =
          let (v, k, (p0, p1)) = moved-covers F.moves a.place f in
          let (w, n, (q0, q1)) = moved-covers F.moves b.place g in
          let x = goes_with m h keeps small cs F.moves moving v k a.place (p0, p1) in
          let y = goes_with m h keeps small cs F.moves moving w n b.place (q0, q1) in
          elim (moves-scattered m h bare keeps v w k n) [
            | inl same ↦ let s : v.start ≡ w.start = ap (λ (u : Move). u.start) same in
                let t : v.to ≡ w.to = ap (λ (u : Move). u.to) same in omega arith
            | inr (inl l) ↦ absurd (omega arith)
            | inr (inr l) ↦ absurd (omega arith)
          ]

  -- no two objects stand at one place
  pub goers-distinct : IsDistinctBy (λ (o : Object). o.place) goers
  goers-distinct =
      distinct_map (slid_object F.moves) (λ (o : Object). o.place) m.objects
      (distinct-by (λ (o : Object). o.place) (λ (o : Object). moved_by F.moves o.place) m.objects injective
      (places-distinct m h))

  -- no object stands where a free item does
  pub crossed : (q : Object) → IsIn q m.objects → (f : Piece) → IsIn f placed.free
      → moved_by F.moves q.place ≡ f.place → ⊥
  crossed q k f i e = go (cases_Bool (is_moved F.moves q.place)) (free-is f i)
    where
      go : (is_moved F.moves q.place ≡ true) ⊎ (is_moved F.moves q.place ≡ false)
          → (IsIn f others ⊎ IsIn f F.left) ⊎ IsIn f vacated → ⊥
      go (inr t) (inl (inl j)) = old-apart m h bare keeps keeps [] [] q f k (other-is f j).0
          (sym (unmoved-still F.moves q.place t) ∙ e)
      go (inr t) (inl (inr j)) =
          let is : IsInItem items f = left-in m h bare keeps f j in
          let at = unmoved-still F.moves q.place t in
          let l = is.low in let u = is.high in let (z, z') = is.size in
          object-apart m h bare keeps q k is.item is.among (omega arith) (omega arith)
      go (inr t) (inr j) =
          let is : IsVacated f = vacated-is f j in
          let at : f.place ≡ is.object.place = ap (λ (p : Piece). p.place) is.is in
          both_ways (is_moved F.moves q.place) t
          (ap (is_moved F.moves) (sym (unmoved-still F.moves q.place t) ∙ e ∙ at) ∙ is.goes)
      go (inl t) (inl (inl j)) =
          let (v, n, c, is) = lands-in m h bare keeps q k t in
          let (known, not_item) = other-is f j in
          let l = is.low in let u = is.high in let (z, z') = is.size in
          let same : f ≡ is.item = free-apart m h bare keeps f known is.item is.among (omega arith) (omega arith) in
          not_item (subst (λ x. IsIn x items) (sym same) is.among)
      go (inl t) (inr j) =
          let (v, n, c, is) = lands-in m h bare keeps q k t in
          let w : IsVacated f = vacated-is f j in
          let at : f.place ≡ w.object.place = ap (λ (p : Piece). p.place) w.is in
          let l = is.low in let u = is.high in let (z, z') = is.size in
          object-apart m h bare keeps w.object w.present is.item is.among (omega arith) (omega arith)
      go (inl t) (inl (inr j)) =
          let (v, n, (p0, p1)) = moved-covers F.moves q.place t in
          let at = goes_with m h keeps small cs F.moves moving v n q.place (p0, p1) in
          let (f', o, r) = left-is m h bare keeps f j in
          let (g, s, w) = fit.moves_into v n in
          let a : IsInItem items f = left-in m h bare keeps f j in
          meets v n (p0, p1) at f' o r g s w
          (items-apart items f'.item g.item (are-items m h bare keeps) (item-of m h bare keeps f' o)
          (item-of m h bare keeps g s))
        where
          meets : (v : Move) → IsIn v F.moves → Covers v q.place
              → moved_by F.moves q.place ≡ v.to + (q.place - v.start) → (f' : Filling) → IsIn f' fs → IsIn f f'.rest
              → (g : Filling) → IsIn g fs → IsIn v g.moves
              → (f'.item ≡ g.item) ⊎ ((piece_end f'.item ≤ g.item.place) ⊎ (piece_end g.item ≤ f'.item.place)) → ⊥
          meets v n (p0, p1) at f' o r g s w sep =
              let fill' : IsTile f'.item.place (piece_end f'.item) f =
              tile f'.item.place (piece_end f'.item) (filling_pieces f') f (all_at IsFilling o fit.filled)
              (append_right (map piece_of_move f'.moves) r) in
              let fill : IsTile g.item.place (piece_end g.item) (piece_of_move v) =
              tile g.item.place (piece_end g.item) (filling_pieces g) (piece_of_move v)
              (all_at IsFilling s fit.filled) (append_left g.rest (IsIn-map piece_of_move w)) in
              let al = fill'.low_gap in let ah = fill'.high_end in let (z, z') = fill'.size in
              let bl = fill.low_gap in let bh = fill.high_end in
              elim sep [
                | inl same ↦
                    let one : g ≡ f' = same-filling m h bare keeps g f' s o (ap (λ (p : Piece). p.place) (sym same)) in
                    let r' : IsIn f g.rest = subst (λ (x : Filling). IsIn f x.rest) (sym one) r in
                    elim (cases_order v.to f.place) [
                      | inl e' ↦ distinct_cross (λ (p : Piece). p.place) (map piece_of_move g.moves) g.rest
                          (rising-distinct (λ (p : Piece). p.place) (filling_pieces g)
                          (tiles-rise g.item.place (piece_end g.item) (filling_pieces g)
                          (all_at IsFilling s fit.filled))) (piece_of_move v) f (IsIn-map piece_of_move w) r' e'
                      | inr (inl u) ↦
                          let far : IsGapped (v.to + v.size) f.place =
                          tiles-apart g.item.place (piece_end g.item) (filling_pieces g) (piece_of_move v) f
                          (all_at IsFilling s fit.filled) (append_left g.rest (IsIn-map piece_of_move w))
                          (append_right (map piece_of_move g.moves) r') u in omega arith
                      | inr (inr u) ↦ omega arith
                    ]
                | inr (inl u) ↦ omega arith
                | inr (inr u) ↦ omega arith
              ]
