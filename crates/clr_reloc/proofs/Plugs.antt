-- The plugs of a compaction are relocated, one after the other.
use Rattle.std.proofs.Common.{◌≡◌, ◌⊎◌, inl, inr, ℕ, zero, suc, ◌+◌, ◌-◌, ◌*◌, ◌/◌, ◌<◌, ◌≤◌, ◌^◌, Bool}
use Rattle.std.proofs.Common.{true, false, List}
use Rattle.std.proofs.Common.{[], ◌∷◌, ◌++◌, ◌&&◌, refl, ap, ap₂, sym, ◌∙◌, subst, subst₂, arith, length, nat_le}
use Rattle.std.proofs.Common.{nat_lt, if◌then◌else◌}
use Rattle.std.proofs.lemmas.Bool.{and_parts, cases_lt, leb-true, ltb-true, le-leb, lt-ltb, le-ltb}
use Rattle.clr_types.specs.Segments.{Layout}
use Rattle.clr_types.specs.Types.{TypeRow}
use Rattle.clr_types.specs.declared.item.Item.{Item}
use Rattle.clr_covers.specs.Covers.{CoverView}
use Rattle.clr_heap.specs.View.{frame, HeapView, IsHeap}
use Rattle.clr_heap.proofs.Framing.{below_top_at}
use Rattle.clr_model.specs.Compaction.{Move, moved_by}
use Rattle.clr_view.specs.View.{IsHeld}
use Rattle.clr_generations.specs.Tables.{AreCardsOf}
use Rattle.clr_generations.proofs.Covered.{card-covered}
use Rattle.clr_moves.specs.Moves.{AreInLine, AreMoves, IsInPlug, move_at, plug_stop}
use Rattle.clr_moves.specs.Overlaid.{IsPlugWord}
use Rattle.clr_moves.specs.declared.condemned.Condemned.{Condemned}
use Rattle.clr_reloc.specs.Outside.{AreCardedPlugs, HaveGonePlugs}
use Rattle.clr_reloc.specs.Relocating.{AreCarded, GoesDown, HasGone, HaveCardsDown, IsAhead, Tracks}
use Rattle.clr_reloc.proofs.Cells.{left_inside}

-- a place in no plug stays
pub moved_none : (vs : List Move) (x : ℕ) → ((k : ℕ) → IsInPlug vs k x → ⊥) → moved_by vs x ≡ x
moved_none [] x none = refl
moved_none (v ∷ vs) x none =
    go (moved_none vs x (λ k p. none (suc k) (record {
      within = let w = p.within in omega arith;
      low = p.low;
      high = p.high;
    }))) (nat_le v.start x && nat_lt x (v.start + v.size)) refl
  where
    go : moved_by vs x ≡ x → (b : Bool) → (nat_le v.start x && nat_lt x (v.start + v.size)) ≡ b
        → (if b then v.to + (x - v.start) else moved_by vs x) ≡ x
    go rest true e =
        let p = and_parts (nat_le v.start x) (nat_lt x (v.start + v.size)) e in
        absurd (none 0 (record {
          within = omega arith;
          low = leb-true v.start x p.0;
          high = ltb-true x (v.start + v.size) p.1;
        }))
    go rest false e = rest

-- a place in a plug goes with it
pub moved_with : (vs : List Move) (k x : ℕ)
    → ((i j : ℕ) → i < j → j < length vs → plug_stop (move_at vs i) ≤ (move_at vs j).start) → IsInPlug vs k x
    → moved_by vs x ≡ (move_at vs k).to + (x - (move_at vs k).start)
moved_with [] k x line p = let w = p.within in absurd (omega arith)
moved_with (v ∷ vs) zero x line p =
    ap (λ b. if b then v.to + (x - v.start) else moved_by vs x)
    (ap (λ b. b && nat_lt x (v.start + v.size)) (le-leb v.start x p.low) ∙ lt-ltb x (v.start + v.size) p.high)
moved_with (v ∷ vs) (suc k) x line p =
    let w = p.within in
    let low : (move_at vs k).start ≤ x = p.low in
    let before : plug_stop v ≤ (move_at vs k).start = line 0 (suc k) (omega arith) w in
    let off : nat_lt x (v.start + v.size) ≡ false = le-ltb x (v.start + v.size) (omega arith) in
    ap (λ b. if b then v.to + (x - v.start) else moved_by vs x)
    (ap (λ b. nat_le v.start x && b) off ∙ never (nat_le v.start x))
    ∙ moved_with vs k x (λ i j l m. line (suc i) (suc j) (omega arith) (omega arith))
    (record { within = omega arith; low = p.low; high = p.high })
  where
    never : (b : Bool) → (b && false) ≡ false
    never true = refl
    never false = refl

-- ---- the walk

pub no_plugs_gone : (rows : List TypeRow) (view : HeapView) (g : Condemned) (vs : List Move)
    → HaveGonePlugs rows view view g vs 0
no_plugs_gone rows view g vs = record {
  done = λ k b l w r. absurd (omega arith);
  others = λ b z none. refl;
}

module _ (rows : List TypeRow) (view next : HeapView) (g : Condemned) (vs : List Move) (line : AreInLine vs)
    (heap : IsHeap view) (held : IsHeld rows view) (n : ℕ) (within : n < length vs)
    (gone : HaveGonePlugs rows view next g vs n) where
  abbrev v : Move
  v = move_at vs n

  pub plug_ahead : IsAhead view next g vs v.start (plug_stop v)
  plug_ahead = record {
    kept = λ b z low high. inl (n, record { within = within; low = low; high = high });
    untouched = λ b z low high. gone.others b z (λ k l w.
        let above = line.line k n l within in
        let up = w.high in
        omega (arith, above, up, low));
  }

  pub plug_down : GoesDown vs v.start (plug_stop v) (v.start - v.to)
  plug_down x low high =
      let e = moved_with vs n x line.line (record { within = within; low = low; high = high }) in
      let d = line.lower n within in
      omega (arith, e, d)

  pub plugs_more : (after : HeapView) → HasGone rows view next after g vs v.start (plug_stop v)
      → HaveGonePlugs rows view after g vs (n + 1)
  plugs_more after h = record {
    done = λ k b l w r. elim (cases_lt k n) [
      | inl less ↦
          let above = line.line k n less within in
          let up = w.high in
          h.others b (left_inside rows view heap held g b r).aligned (inl (omega (arith, above, up)))
          ∙ gone.done k b less w r
      | inr last ↦
          let e : k ≡ n = omega arith in
          let here = subst (λ j. IsPlugWord vs j b) e w in
          h.done b r here.low here.high
    ];
    others = λ b z none.
        h.others b z (out b (λ w. none n (omega arith) w))
        ∙ gone.others b z (λ k l w. none k (omega arith) w);
  }
    where
      out : (b : ℕ) → (IsPlugWord vs n b → ⊥) → (b + 8 < v.start) ⊎ (plug_stop v ≤ b + 8)
      out b none = elim (cases_lt (b + 8) v.start) [
        | inl below ↦ inl below
        | inr low ↦ elim (cases_lt (b + 8) (plug_stop v)) [
          | inl high ↦ absurd (none (record { within = within; low = low; high = high }))
          | inr above ↦ inr above
        ]
      ]

pub carded_more : (rows : List TypeRow) (view : HeapView) (g : Condemned) (vs : List Move) (layout : Layout)
    (old new : ℕ → Bool) (n : ℕ) → ((c : ℕ) → old c ≡ true → new c ≡ true)
    → AreCardedPlugs rows view g vs layout old n
    → AreCarded rows view g vs layout new (move_at vs n).start (plug_stop (move_at vs n))
    → AreCardedPlugs rows view g vs layout new (n + 1)
carded_more rows view g vs layout old new n kept before here k l = elim (cases_lt k n) [
  | inl less ↦ (λ i offset left low high m go. kept ((moved_by vs i.place + offset) / 2048)
      (before k less i offset left low high m go))
  | inr last ↦
      let e : n ≡ k = omega arith in
      subst (λ j. AreCarded rows view g vs layout new (move_at vs j).start (plug_stop (move_at vs j))) e here
]

-- ---- moves by number

pub at_cut : (vs done : List Move) (v : Move) (rest : List Move) → vs ≡ done ++ v ∷ rest
    → (move_at vs (length done) ≡ v) × (length done < length vs)
at_cut vs done v rest e =
    subst (λ (ws : List Move). (move_at ws (length done) ≡ v) × (length done < length ws)) (sym e) (here done)
  where
    here : (ds : List Move) → (move_at (ds ++ v ∷ rest) (length ds) ≡ v) × (length ds < length (ds ++ v ∷ rest))
    here [] = (refl, omega arith)
    here (d ∷ ds) = let h = here ds in let l = h.1 in (h.0, omega arith)

pub all_met : (vs done : List Move) → vs ≡ done ++ [] → length done ≡ length vs
all_met vs done e = sym (ap (λ (ws : List Move). length ws) e ∙ none done)
  where
    none : (ds : List Move) → length (ds ++ []) ≡ length ds
    none [] = refl
    none (d ∷ ds) = ap suc (none ds)

pub none_more : (vs done rest : List Move) → vs ≡ done ++ rest → length done ≤ length vs
none_more vs done rest e = subst (λ (ws : List Move). length done ≤ length ws) (sym e) (here done)
  where
    here : (ds : List Move) → length ds ≤ length (ds ++ rest)
    here [] = omega arith
    here (d ∷ ds) = let h = here ds in omega arith

pub one_more : (done : List Move) (v : Move) → length (done ++ v ∷ []) ≡ length done + 1
one_more [] v = refl
one_more (d ∷ ds) v = let h = one_more ds v in omega arith

pub cut_more : (vs done : List Move) (v : Move) (rest : List Move) → vs ≡ done ++ v ∷ rest
    → vs ≡ (done ++ v ∷ []) ++ rest
cut_more vs done v rest e = e ∙ sym (here done)
  where
    here : (ds : List Move) → (ds ++ v ∷ []) ++ rest ≡ ds ++ v ∷ rest
    here [] = refl
    here (d ∷ ds) = ap (λ xs. d ∷ xs) (here ds)

-- plugs take room
rises : (vs : List Move) → AreInLine vs → ((k : ℕ) → k < length vs → 24 ≤ (move_at vs k).size) → (k : ℕ)
    → k < length vs → 24 * k ≤ (move_at vs k).start
rises vs line sizes zero l = omega arith
rises vs line sizes (suc k) l =
    let below : k < length vs = omega arith in
    let up = rises vs line sizes k below in
    let next = line.line k (suc k) (omega arith) l in
    let big = sizes k below in
    omega arith

-- there aren't more plugs than a number of 64 bits counts
pub few_plugs : (vs : List Move) → AreInLine vs
    → ((k : ℕ) → k < length vs → (24 ≤ (move_at vs k).size) × (plug_stop (move_at vs k) ≤ 2 ^ 62))
    → length vs < 2 ^ 64 - 1
few_plugs vs line each = elim (cases_lt (length vs) (2 ^ 64 - 1)) [
  | inl less ↦ less
  | inr more ↦
      let k = 2 ^ 61 in
      let l : 2 ^ 61 < length vs = omega arith in
      let up = rises vs line (λ k l. (each k l).0) (2 ^ 61) l in
      let high = (each (2 ^ 61) l).1 in
      let big = (each (2 ^ 61) l).0 in
      absurd (omega arith)
]

-- ---- where plugs stand

module _ (view : HeapView) (g : Condemned) (vs : List Move) (heap : IsHeap view) (moves : AreMoves view g vs)
    (k : ℕ)
    (l : k < length vs) where
  pub plug_high : plug_stop (move_at vs k) ≤ 2 ^ 62
  plug_high =
      let m = moves.each k l in
      let high = m.from_high in
      let top = below_top_at view m.from heap m.from_in in
      let small = heap.top_small in
      omega arith

  -- where it goes there are cards
  pub plug_cards : (cards : List (CoverView ℕ)) → AreCardsOf (frame view) cards
      → HaveCardsDown cards (move_at vs k).start (plug_stop (move_at vs k))
      ((move_at vs k).start - (move_at vs k).to)
  plug_cards cards of x low high =
      let m = moves.each k l in
      let into = m.into_in in
      let part = into.low in
      let starts = moves.starts m.into into.in_range into.takes in
      let first = starts.0 in
      let end = m.into_high in
      let lower = m.lower in
      card-covered view m.into (x - ((move_at vs k).start - (move_at vs k).to)) heap into.in_range (omega arith)
      (omega arith) cards of

-- what a plug that was read asks for
pub stretch_can : (rows : List TypeRow) (view next : HeapView) (g : Condemned) (vs : List Move) (n : ℕ) (v : Move)
    → move_at vs n ≡ v → AreInLine vs → (is : List Item)
    → Tracks rows view is (move_at vs n).start (plug_stop (move_at vs n))
    → IsAhead view next g vs (move_at vs n).start (plug_stop (move_at vs n))
    → GoesDown vs (move_at vs n).start (plug_stop (move_at vs n)) ((move_at vs n).start - (move_at vs n).to)
    → (start size low to : ℕ) → start ≡ v.start → size ≡ v.size → low ≡ v.start → to ≡ v.to
    → Tracks rows view is start (start + size) × IsAhead view next g vs start (start + size)
    × GoesDown vs start (start + size) (low - to)
stretch_can rows view next g vs n v at line is track ahead down start size low to e1 e2 e3 e4 =
    let s : start ≡ (move_at vs n).start = e1 ∙ ap (λ (w : Move). w.start) (sym at) in
    let e : start + size ≡ plug_stop (move_at vs n) = ap₂ (λ x y. x + y) e1 e2 ∙ ap plug_stop (sym at) in
    let d : low - to ≡ (move_at vs n).start - (move_at vs n).to =
    ap₂ (λ x y. x - y) e3 e4 ∙ ap (λ (w : Move). w.start - w.to) (sym at) in (
      subst₂ (λ x y. Tracks rows view is x y) (sym s) (sym e) track,
      subst₂ (λ x y. IsAhead view next g vs x y) (sym s) (sym e) ahead,
      subst (λ z. GoesDown vs start (start + size) z) (sym d)
          (subst₂ (λ x y. GoesDown vs x y ((move_at vs n).start - (move_at vs n).to)) (sym s) (sym e) down),
    )
