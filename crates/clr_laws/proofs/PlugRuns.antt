-- A plug is a whole run: no survivor like it begins at its end.
use Rattle.std.proofs.Common.{◌≡◌, ℕ, ◌+◌, ◌<◌, ◌≤◌, ◌⊎◌, inl, inr, List, [], ◌∷◌, refl, sym, ap, subst, ◌∙◌}
use Rattle.std.proofs.Common.{if◌then◌else◌, arith, Bool, true, false, ◌&&◌, ◌==◌}
use Rattle.std.specs.Bool.{beq}
use Rattle.std.proofs.lemmas.Bool.{and_from, both_ways, eq-eqb}
use Rattle.std.specs.List.{AllByRecursion}
use Rattle.clr_types.specs.Rising.{IsIn, first, later, IsRisingBy}
use Rattle.clr_types.proofs.ChangedLists.{all_members}
use Rattle.clr_types.proofs.RisingLists.{all_at, in_cons}
use Rattle.clr_model.specs.Sweep.{Survivor}
use Rattle.clr_model.specs.Compaction.{Plug, plug_end, plug_of, joins, joined, plugs_of}
use Rattle.clr_model.proofs.PlugsOf.{survivor_end, longer, AreJoined, joins-true, plugs-all}

-- survivors that aren't empty, each behind all before it
abbrev pub AreInRow : List Survivor → Type 0
AreInRow [] = Unit {0}
AreInRow (k ∷ ks) = (0 < k.size) × AllByRecursion (λ (l : Survivor). survivor_end k ≤ l.place) ks × AreInRow ks

pub in-row : (ks : List Survivor) → IsRisingBy (λ (k : Survivor). k.place) ks
    → ((k : Survivor) → IsIn k ks → 0 < k.size)
    → ((k l : Survivor) → IsIn k ks → IsIn l ks → k.place < l.place → survivor_end k ≤ l.place) → AreInRow ks
in-row [] rise size apart = tt
in-row (k ∷ ks) rise size apart = (
  size k first,
  all_members (λ (l : Survivor). survivor_end k ≤ l.place) ks
      (λ l i. apart k l first (later i) (all_at (λ (w : Survivor). k.place < w.place) i rise.0)),
  in-row ks rise.1 (λ l i. size l (later i)) (λ l n i j. apart l n (later i) (later j)),
)

-- the survivor begins where the plug ends, and is like it
pub record GoesOn (p : Plug) (l : Survivor) : Type 0 where
  pub at : l.place ≡ plug_end p
  pub segment : l.segment ≡ p.segment
  pub generation : l.generation ≡ p.generation
  pub pinned : l.pinned ≡ p.pinned

-- the first plug begins with the first survivor
record BeginsWith (k : Survivor) (q : Plug) : Type 0 where
  start : q.start ≡ k.place
  segment : q.segment ≡ k.segment
  generation : q.generation ≡ k.generation
  pinned : q.pinned ≡ k.pinned

first-plug : (k : Survivor) (ps : List Plug)
    → (q : Plug) × (qs : List Plug) × (joined k ps ≡ q ∷ qs) × BeginsWith k q
first-plug k [] = (plug_of k, [], refl, record { start = refl; segment = refl; generation = refl; pinned = refl })
first-plug k (p ∷ ps) = go (joins k p) refl
  where
    go : (b : Bool) → joins k p ≡ b
        → (q : Plug) × (qs : List Plug) × ((if b then longer k p ∷ ps else plug_of k ∷ p ∷ ps) ≡ q ∷ qs)
        × BeginsWith k q
    go true e =
        let is : AreJoined k p = joins-true k p e in (
          longer k p,
          ps,
          refl,
          record {
            start = refl;
            segment = sym is.segment;
            generation = sym is.generation;
            pinned = sym is.pinned;
          },
        )
    go false e =
        (plug_of k, p ∷ ps, refl, record { start = refl; segment = refl; generation = refl; pinned = refl })

beq-same : (a b : Bool) → a ≡ b → beq a b ≡ true
beq-same true true e = refl
beq-same true false e = absurd cc
beq-same false true e = absurd cc
beq-same false false e = refl

joins-from : (k : Survivor) (q : Plug) → survivor_end k ≡ q.start → k.segment ≡ q.segment
    → k.generation ≡ q.generation → k.pinned ≡ q.pinned → joins k q ≡ true
joins-from k q touch segment generation pinned =
    and_from ((k.place + k.size == q.start) && (k.segment == q.segment))
    ((k.generation == q.generation) && beq k.pinned q.pinned)
    (and_from (k.place + k.size == q.start) (k.segment == q.segment) (eq-eqb (k.place + k.size) q.start touch)
    (eq-eqb k.segment q.segment segment))
    (and_from (k.generation == q.generation) (beq k.pinned q.pinned) (eq-eqb k.generation q.generation generation)
    (beq-same k.pinned q.pinned pinned))

-- no plug ends at or below where the survivors begin
ends-above : (low : ℕ) (ks : List Survivor) → AllByRecursion (λ (k : Survivor). low < survivor_end k) ks → (p : Plug)
    → IsIn p (plugs_of ks) → low < plug_end p
ends-above low ks above p i =
    all_at (λ (p : Plug). low < plug_end p) i
    (plugs-all (λ k. low < survivor_end k) (λ p. low < plug_end p) (λ k l. l)
    (λ k p l n is. let touch = is.touch in omega (arith, l, n, touch)) ks above)

row-above : (k : Survivor) (ks : List Survivor) → AreInRow (k ∷ ks)
    → AllByRecursion (λ (l : Survivor). k.place < survivor_end l) (k ∷ ks)
row-above k ks row =
    let size = row.0 in (
      omega (arith, size),
      all_members (λ (l : Survivor). k.place < survivor_end l) ks
          (λ l i. let at = all_at (λ (l : Survivor). survivor_end k ≤ l.place) i row.1 in omega (arith, size, at)),
    )

pub run-ends : (ks : List Survivor) → AreInRow ks → (p : Plug) → IsIn p (plugs_of ks) → (l : Survivor) → IsIn l ks
    → GoesOn p l → ⊥
run-ends [] row p i l j on = elim j [ ]
run-ends (k ∷ ks) row p i l first on =
    let above = ends-above k.place (k ∷ ks) (row-above k ks row) p i in
    let at = on.at in omega (arith, above, at)
run-ends (k ∷ []) row p i l (later j) on = elim j [ ]
run-ends (k ∷ n ∷ ks) row p i l (later j) on =
    let (q, qs, same, begins) = first-plug n (plugs_of ks) in
    go q qs (λ r known at. run-ends (n ∷ ks) row.2 r (subst (IsIn r) (sym same) known) l j at) begins (joins k q) refl
    (in_cons-of q qs (joins k q) (subst (λ ps. IsIn p (joined k ps)) same i))
  where
    in_cons-of : (q : Plug) (qs : List Plug) (b : Bool)
        → IsIn p (if b then longer k q ∷ qs else plug_of k ∷ q ∷ qs)
        → ((b ≡ true) × ((p ≡ longer k q) ⊎ IsIn p qs)) ⊎ ((b ≡ false) × ((p ≡ plug_of k) ⊎ IsIn p (q ∷ qs)))
    in_cons-of q qs true i = inl (refl, in_cons i)
    in_cons-of q qs false i = inr (refl, in_cons i)

    alone-ends : (q : Plug) → BeginsWith n q → joins k q ≡ false → GoesOn (plug_of k) l → (l ≡ n) ⊎ IsIn l ks → ⊥
    alone-ends q begins apart on (inl is) =
        let at = on.at in
        let place : l.place ≡ n.place = ap (λ (w : Survivor). w.place) is in
        let start = begins.start in
        both_ways (joins k q) apart
        (joins-from k q (omega (arith, at, place, start))
        (sym on.segment ∙ ap (λ (w : Survivor). w.segment) is ∙ sym begins.segment)
        (sym on.generation ∙ ap (λ (w : Survivor). w.generation) is ∙ sym begins.generation)
        (sym on.pinned ∙ ap (λ (w : Survivor). w.pinned) is ∙ sym begins.pinned))
    alone-ends q begins apart on (inr later_on) =
        let at = on.at in
        let next : survivor_end k ≤ n.place = row.1.0 in
        let size : 0 < n.size = row.2.0 in
        let behind : survivor_end n ≤ l.place = all_at (λ (l : Survivor). survivor_end n ≤ l.place) later_on row.2.1 in
        omega (arith, at, next, size, behind)

    go : (q : Plug) (qs : List Plug) → ((r : Plug) → IsIn r (q ∷ qs) → GoesOn r l → ⊥) → BeginsWith n q → (b : Bool)
        → joins k q ≡ b
        → ((b ≡ true) × ((p ≡ longer k q) ⊎ IsIn p qs)) ⊎ ((b ≡ false) × ((p ≡ plug_of k) ⊎ IsIn p (q ∷ qs))) → ⊥
    go q qs rest begins b e (inl (t, inl is)) =
        let joint : AreJoined k q = joins-true k q (e ∙ t) in
        let touch = joint.touch in
        let at = on.at in
        let end : plug_end p ≡ plug_end (longer k q) = ap plug_end is in
        rest q first (record {
          at = omega (arith, touch, at, end);
          segment = on.segment ∙ ap (λ (w : Plug). w.segment) is;
          generation = on.generation ∙ ap (λ (w : Plug). w.generation) is;
          pinned = on.pinned ∙ ap (λ (w : Plug). w.pinned) is;
        })
    go q qs rest begins b e (inl (t, inr j)) = rest p (later j) on
    go q qs rest begins b e (inr (f, inl is)) =
        alone-ends q begins (e ∙ f) (subst (λ (w : Plug). GoesOn w l) is on) (in_cons j)
    go q qs rest begins b e (inr (f, inr j)) = rest p j on
