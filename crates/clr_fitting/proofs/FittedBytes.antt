-- The bytes of what finds room are those of the moves that take it.
use Rattle.std.proofs.Common.{◌≡◌, ℕ, ◌+◌, ◌<◌, ◌≤◌, List, [], ◌∷◌, map, refl, sym, ap, subst, ◌∙◌}
use Rattle.std.proofs.Common.{arith, Bool, true, false, if◌then◌else◌, ◌&&◌, ◌||◌, filter, nat_le, nat_lt, sum_by}
use Rattle.std.proofs.lemmas.Bool.{and_from, and_parts, le-leb, leb-true, lt-ltb, ltb-true}
use Rattle.std.proofs.lemmas.List.Sums.{sum_by-cons}
use Rattle.clr_types.specs.Ranges.{Piece, piece_end, Tiles}
use Rattle.clr_types.specs.Rising.{first, IsIn, IsRisingBy, later, sorted_by}
use Rattle.clr_types.specs.Segments.{rest_pieces}
use Rattle.clr_types.proofs.ChangedLists.{into_filter, IsIn-map, out_of_filter}
use Rattle.clr_types.proofs.ListMembers.{distinct_filter, distinct_map, from-map, sum-mapped}
use Rattle.clr_types.proofs.ListSums.{counted, sum-both, sum-filtered, sum-on}
use Rattle.clr_types.proofs.PieceGaps.{IsGapped}
use Rattle.clr_types.proofs.RisingLists.{all_at}
use Rattle.clr_types.proofs.Shuffles.{shuffled-sorted, shuffled-sum}
use Rattle.clr_types.proofs.SortedLists.{into_sorted_by, IsDistinctBy, out_of_sorted_by, rising_agree_by}
use Rattle.clr_types.proofs.SortedLists.{sorted_by-rises}
use Rattle.clr_types.proofs.Tilings.{tiles-rise}
use Rattle.clr_model.specs.Machine.{Machine, Object}
use Rattle.clr_model.specs.Lookups.{object_size}
use Rattle.clr_model.specs.Lawful.{IsLaid}
use Rattle.clr_model.specs.Compaction.{Move, moved_by, plug_end}
use Rattle.clr_model.specs.Fitting.{is_moved}
use Rattle.clr_model.specs.Slide.{slid_object}
use Rattle.clr_model.proofs.FitFillings.{going, moved-covers}
use Rattle.clr_model.proofs.Landings.{fills}
use Rattle.clr_model.proofs.LawfulPieces.{places-distinct}
use Rattle.clr_fitting.specs.Steps.{fit_in, fitted, fitted_bytes, finds_room}
use Rattle.clr_fitting.proofs.FitMoves.{unmapped}
use Rattle.clr_fitting.proofs.TwoSteps.{stays_laid}

-- pieces that fill a range have its bytes
tiles-bytes : (low high : ℕ) (ps : List Piece) → Tiles low high ps → low + sum_by (λ (p : Piece). p.size) ps ≡ high
tiles-bytes low high [] same = omega (arith, same)
tiles-bytes low high (p ∷ ps) (at, size, rest) =
    let more = tiles-bytes (piece_end p) high ps rest in
    let sum = sum_by-cons (λ (p : Piece). p.size) p ps in
    omega arith

nothing : {X : Type 0} (xs : List X) → sum_by (λ (x : X). 0) xs ≡ 0
nothing [] = refl
nothing {X = X} (x ∷ xs) = let sum = sum_by-cons (λ (x : X). 0) x xs in let more = nothing xs in omega arith

module _ (m : Machine) (kept : ℕ → Bool) (h : IsLaid m) (bare : rest_pieces m.layout.rests ≡ []) where
  abbrev F : List Move
  F = (fit_in m kept).moves

  abbrev size : Object → ℕ
  size = object_size m.types

  abbrev covers : Move → Object → Bool
  covers v o = nat_le v.start o.place && nat_lt o.place (v.start + v.size)

  abbrev gone : Object → Piece
  gone o = record { place = moved_by F o.place; size = object_size m.types o }

  -- the objects that a move takes fill its destination
  module _ (v : Move) (i : IsIn v F) where
    abbrev pieces : List Piece
    pieces = (fills m h kept _ _ F (going m h bare kept) v i).pieces

    abbrev taken : List Piece
    taken = map gone (filter (covers v) m.objects)

    taken-distinct : IsDistinctBy (λ (p : Piece). p.place) (map gone (filter (covers v) m.objects))
    taken-distinct =
        distinct_map gone (λ (p : Piece). p.place) (filter (covers v) m.objects)
        (distinct_filter (λ (o : Object). moved_by F o.place) (covers v) m.objects
        (unmapped (slid_object F) (λ (o : Object). o.place) m.objects
        (places-distinct (fitted m kept) (stays_laid m kept h bare))))

    pieces-are : (fills m h kept _ _ F (going m h bare kept) v i).pieces ≡ sorted_by (λ p. p.place) taken
    pieces-are =
        rising_agree_by (λ (p : Piece). p.place) pieces (sorted_by (λ p. p.place) taken)
        (tiles-rise v.to (v.to + v.size) pieces (fills m h kept _ _ F (going m h bare kept) v i).tiled)
        (sorted_by-rises (λ (p : Piece). p.place) taken taken-distinct) (λ x. (to x, from x))
      where
        to : (x : Piece) → IsIn x pieces → IsIn x (sorted_by (λ p. p.place) taken)
        to x n =
            let (o, k, stays, (a, b), e) = (fills m h kept _ _ F (going m h bare kept) v i).objects x n in
            into_sorted_by (λ (p : Piece). p.place) x taken
            (subst (λ y. IsIn y taken) (sym e) (IsIn-map gone (into_filter (covers v) m.objects
            (and_from (nat_le v.start o.place) (nat_lt o.place (v.start + v.size)) (le-leb v.start o.place a)
            (lt-ltb o.place (v.start + v.size) b)) k)))

        from : (x : Piece) → IsIn x (sorted_by (λ p. p.place) taken) → IsIn x pieces
        from x n =
            let (o, e, k) = from-map gone x (filter (covers v) m.objects)
            (out_of_sorted_by (λ (p : Piece). p.place) x taken n) in
            let (t, j) = out_of_filter (covers v) o m.objects k in
            let (a, b) = and_parts (nat_le v.start o.place) (nat_lt o.place (v.start + v.size)) t in
            subst (λ y. IsIn y pieces) (sym e)
            ((fills m h kept _ _ F (going m h bare kept) v i).all o j
            (leb-true v.start o.place a, ltb-true o.place (v.start + v.size) b))

    one-move : v.size ≡ sum_by (counted (covers v) size) m.objects
    one-move =
        let tiled = tiles-bytes v.to (v.to + v.size) pieces
        (fills m h kept _ _ F (going m h bare kept) v i).tiled in
        let all : sum_by (λ (p : Piece). p.size) pieces ≡ sum_by (counted (covers v) size) m.objects =
        ap (sum_by (λ (p : Piece). p.size)) pieces-are
        ∙ sym (shuffled-sum (λ (p : Piece). p.size) (shuffled-sorted (λ (p : Piece). p.place) taken))
        ∙ sum-mapped gone (λ (p : Piece). p.size) (filter (covers v) m.objects)
        ∙ sum-filtered (covers v) size m.objects in
        omega arith

  -- no place is taken by two moves
  taken-once : (v w : Move) → IsIn v F → IsIn w F → v.start < w.start → (x : ℕ) → x < v.start + v.size
      → w.start ≤ x → ⊥
  taken-once v w i j up x high low =
      let (p, k, of) = (going m h bare kept).plug_of v i in
      let (q, n, to) = (going m h bare kept).plug_of w j in
      let sp : v.start ≡ p.start = of.start in let zp : v.size ≡ p.size = of.size in
      let sq : w.start ≡ q.start = to.start in
      let far : IsGapped (plug_end p) q.start = (going m h bare kept).apart p q k n (omega arith) in
      absurd (omega arith)

  many-moves : (vs : List Move) → ((v : Move) → IsIn v vs → IsIn v F) → IsRisingBy (λ (v : Move). v.start) vs
      → sum_by (λ (v : Move). v.size) vs ≡ sum_by (counted (λ o. is_moved vs o.place) size) m.objects
  many-moves [] known rise = sym (nothing m.objects)
  many-moves (v ∷ vs) known rise =
      let sum = sum_by-cons (λ (v : Move). v.size) v vs in
      let here = one-move v (known v first) in
      let more = many-moves vs (λ w n. known w (later n)) rise.1 in
      let both = sum-both (counted (covers v) size) (counted (λ o. is_moved vs o.place) size) m.objects in
      let on = sum-on (counted (λ o. is_moved (v ∷ vs) o.place) size)
      (λ o. counted (covers v) size o + counted (λ o. is_moved vs o.place) size o) m.objects
      (λ o i. by o (covers v o) (is_moved vs o.place) refl refl) in
      omega arith
    where
      by : (o : Object) (b c : Bool) → covers v o ≡ b → is_moved vs o.place ≡ c
          → (if b || c then size o else 0) ≡ (if b then size o else 0) + (if c then size o else 0)
      by o false false e f = refl
      by o false true e f = omega arith
      by o true false e f = omega arith
      by o true true e f =
          let (w, n, (low, high)) = moved-covers vs o.place f in
          let (a, b) = and_parts (nat_le v.start o.place) (nat_lt o.place (v.start + v.size)) e in
          absurd (taken-once v w (known v first) (known w (later n))
          (all_at (λ (w : Move). v.start < w.start) n rise.0) o.place (ltb-true o.place (v.start + v.size) b) low)

  pub fitted_bytes_are : sum_by (λ v. v.size) (fit_in m kept).moves ≡ fitted_bytes m kept
  fitted_bytes_are =
      many-moves F (λ v i. i) (going m h bare kept).rise ∙ sym (sum-filtered (finds_room m kept) size m.objects)
