-- Moves, and the plugs of which they are told.
use Rattle.std.proofs.Common.{◌≡◌, inl, inr, ℕ, zero, suc, ◌+◌, ◌-◌, ◌<◌, ◌≤◌, true, false, Bool, List, [], ◌∷◌, ◌++◌}
use Rattle.std.proofs.Common.{length, refl, ap, sym, subst, arith, if◌then◌else◌}
use Rattle.std.proofs.lemmas.Bool.{cases_lt}
use Rattle.clr_types.specs.Rising.{first, IsIn, later}
use Rattle.clr_types.proofs.ChangedLists.{append_left}
use Rattle.clr_types.proofs.ListMembers.{append_right, in_append}
use Rattle.clr_types.proofs.RisingLists.{in_cons}
use Rattle.clr_heap.specs.View.{HeapView, segment_at}
use Rattle.clr_model.specs.Compaction.{Move}
use Rattle.clr_plugs.specs.Plans.{back_number, PlannedPart, PlannedPlug}
use Rattle.clr_moves.specs.Moves.{move_at, takes}
use Rattle.clr_moves.specs.Told.{end_before, moves_at, moves_from, moves_of}
use Rattle.clr_moves.specs.declared.condemned.Condemned.{Condemned}

-- ---- moves by number

pub in_moves : (vs : List Move) (k : ℕ) → k < length vs → IsIn (move_at vs k) vs
in_moves [] k l = absurd (omega arith)
in_moves (v ∷ vs) zero l = first
in_moves (v ∷ vs) (suc k) l = later (in_moves vs k (omega arith))

pub number_of : (vs : List Move) (v : Move) → IsIn v vs → (k : ℕ) × (k < length vs) × (move_at vs k ≡ v)
number_of [] v i = elim i [ ]
number_of (w ∷ vs) v i = elim (in_cons i) [
  | inl e ↦ (0, omega arith, sym e)
  | inr more ↦ let (k, l, is) = number_of vs v more in (suc k, omega (arith, l), is)
]

-- ---- the moves of one part

-- a move is that of a plug
pub record IsMoveOf (p : PlannedPlug) (v : Move) : Type 0 where
  pub start : v.start ≡ p.start
  pub to : v.to ≡ p.start - back_number p.distance

pub of_plug : (ps : List PlannedPlug) (last : ℕ) (v : Move) → IsIn v (moves_of ps last)
    → (p : PlannedPlug) × IsIn p ps × IsMoveOf p v
of_plug [] last v i = elim i [ ]
of_plug (p ∷ ps) last v i = elim (in_cons i) [
  | inl e ↦ (p, first, record { start = ap (λ (w : Move). w.start) e; to = ap (λ (w : Move). w.to) e })
  | inr more ↦ let (q, k, is) = of_plug ps last v more in (q, later k, is)
]

pub to_plug : (ps : List PlannedPlug) (last : ℕ) (p : PlannedPlug) → IsIn p ps
    → (v : Move) × IsIn v (moves_of ps last) × IsMoveOf p v
to_plug [] last p i = elim i [ ]
to_plug (q ∷ ps) last p i = elim (in_cons i) [
  | inl e ↦
      let v : Move = record {
        start = q.start;
        size = end_before ps last - q.start;
        to = q.start - back_number q.distance;
      } in
      let P : PlannedPlug → Type 0 = λ r. IsMoveOf r v in
      let is : IsMoveOf q v = record { start = refl; to = refl } in
      (v, first, subst P (sym e) is)
  | inr more ↦ let (v, k, is) = to_plug ps last p more in (v, later k, is)
]

-- that of the last plug ends where the plugs do
last_move : (ps : List PlannedPlug) (p : PlannedPlug) (last : ℕ)
    → IsIn (record { start = p.start; size = last - p.start; to = p.start - back_number p.distance })
    (moves_of (ps ++ p ∷ []) last)
last_move [] p last = first
last_move (q ∷ ps) p last = later (last_move ps p last)

-- ---- the moves of all parts

module _ (h : HeapView) (g : Condemned) (parts : ℕ → PlannedPart) (lasts : ℕ → ℕ) where
  -- a move is one of the part of some segment
  pub record IsFromPart (t n : ℕ) (v : Move) : Type 0 where
    pub segment : ℕ
    pub low : t ≤ segment
    pub high : segment < t + n
    pub takes : takes g (segment_at h segment) ≡ true
    pub among : IsIn v (moves_of (parts segment).plugs (lasts segment))

  at_part : (t : ℕ) (v : Move) (b : Bool) → takes g (segment_at h t) ≡ b
      → IsIn v (if b then moves_of (parts t).plugs (lasts t) else [])
      → (takes g (segment_at h t) ≡ true) × IsIn v (moves_of (parts t).plugs (lasts t))
  at_part t v true e i = (e, i)
  at_part t v false e i = elim i [ ]

  pub from_part : (t n : ℕ) (v : Move) → IsIn v (moves_from h g parts lasts t n) → IsFromPart t n v
  from_part t zero v i = elim i [ ]
  from_part t (suc n) v i = elim (in_append (moves_at h g parts lasts t) i) [
    | inl here ↦
        let a = at_part t v (takes g (segment_at h t)) refl here in
        record { segment = t; low = omega arith; high = omega arith; takes = a.0; among = a.1 }
    | inr more ↦
        let r = from_part (suc t) n v more in
        let low = r.low in
        let high = r.high in
        record {
          segment = r.segment;
          low = omega (arith, low);
          high = omega (arith, high);
          takes = r.takes;
          among = r.among;
        }
  ]

  pub to_part : (t n u : ℕ) (v : Move) → t ≤ u → u < t + n → takes g (segment_at h u) ≡ true
      → IsIn v (moves_of (parts u).plugs (lasts u)) → IsIn v (moves_from h g parts lasts t n)
  to_part t zero u v low high on i = absurd (omega (arith, low, high))
  to_part t (suc n) u v low high on i = elim (cases_lt t u) [
    | inl less ↦ append_right (moves_at h g parts lasts t)
        (to_part (suc t) n u v (omega (arith, less)) (omega (arith, high)) on i)
    | inr more ↦
        let same : u ≡ t = omega (arith, low, more) in
        let P : ℕ → Type 0 = λ m. IsIn v (moves_at h g parts lasts m) in
        let here : P u = rw on i in
        append_left (moves_from h g parts lasts (suc t) n) (subst P same here)
  ]

  -- ---- numbers of moves, and plugs

  -- a plug of some part has a move
  pub plug_number : (n : ℕ) (vs : List Move) → vs ≡ moves_from h g parts lasts 0 n → (t : ℕ) → t < n
      → takes g (segment_at h t) ≡ true → (p : PlannedPlug) → IsIn p (parts t).plugs
      → (k : ℕ) × (k < length vs) × IsMoveOf p (move_at vs k)
  plug_number n vs are t l on p i =
      let (v, k, is) = to_plug (parts t).plugs (lasts t) p i in
      let P : List Move → Type 0 = λ ws. IsIn v ws in
      let (number, within, at) = number_of vs v
      (subst P (sym are) (to_part 0 n t v (omega arith) (omega (arith, l)) on k)) in
      let Q : Move → Type 0 = λ w. IsMoveOf p w in
      (number, within, subst Q (sym at) is)

  -- the last one has a move that ends where the plugs do
  pub last_number : (n : ℕ) (vs : List Move) → vs ≡ moves_from h g parts lasts 0 n → (t : ℕ) → t < n
      → takes g (segment_at h t) ≡ true → (ps : List PlannedPlug) (p : PlannedPlug) → (parts t).plugs ≡ ps ++ p ∷ []
      → (k : ℕ) × (k < length vs) × ((move_at vs k).start ≡ p.start) × ((move_at vs k).size ≡ lasts t - p.start)
  last_number n vs are t l on ps p split =
      let v : Move = record {
        start = p.start;
        size = lasts t - p.start;
        to = p.start - back_number p.distance;
      } in
      let known : IsIn v (moves_of (parts t).plugs (lasts t)) =
      subst (λ qs. IsIn v (moves_of qs (lasts t))) (sym split) (last_move ps p (lasts t)) in
      let P : List Move → Type 0 = λ ws. IsIn v ws in
      let (number, within, at) = number_of vs v
      (subst P (sym are) (to_part 0 n t v (omega arith) (omega (arith, l)) on known)) in
      (number, within, ap (λ (w : Move). w.start) at, ap (λ (w : Move). w.size) at)

  -- a move is that of a plug of some part
  pub record IsPlugMove (n : ℕ) (v : Move) : Type 0 where
    pub segment : ℕ
    pub within : segment < n
    pub takes : takes g (segment_at h segment) ≡ true
    pub plug : PlannedPlug
    pub among : IsIn plug (parts segment).plugs
    pub is : IsMoveOf plug v
    pub among_moves : IsIn v (moves_of (parts segment).plugs (lasts segment))

  pub number_plug : (n : ℕ) (vs : List Move) → vs ≡ moves_from h g parts lasts 0 n → (k : ℕ) → k < length vs
      → IsPlugMove n (move_at vs k)
  number_plug n vs are k l =
      let P : List Move → Type 0 = λ ws. IsIn (move_at vs k) ws in
      let r = from_part 0 n (move_at vs k) (subst P are (in_moves vs k l)) in
      let (p, i, is) = of_plug (parts r.segment).plugs (lasts r.segment) (move_at vs k) r.among in
      let high = r.high in
      record {
        segment = r.segment;
        within = omega (arith, high);
        takes = r.takes;
        plug = p;
        among = i;
        is = is;
        among_moves = r.among;
      }
