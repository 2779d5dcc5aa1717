-- Counting the bytes of plugs that become older, in the order in which plugs are placed.
use Rattle.std.proofs.Common.{◌≡◌, ℕ, zero, suc, ◌+◌, ◌<◌, ◌≤◌, Bool, true, false, ◌&&◌, List, [], ◌∷◌, length, filter}
use Rattle.std.proofs.Common.{refl, ap, sym, ◌∙◌, subst, arith, if◌then◌else◌, eqb, ltb, inl, inr}
use Rattle.std.specs.Prelude.{sum_by}
use Rattle.std.proofs.lemmas.Bool.{cases_lt, le-ltb, lt-ltb}
use Rattle.std.proofs.lemmas.List.Sums.{sum_by-cons}
use Rattle.clr_types.specs.Segments.{Layout}
use Rattle.clr_generations.proofs.SameBounds.{generation-same, HasSameBounds}
use Rattle.clr_model.specs.Compaction.{Move}
use Rattle.clr_moves.specs.Moves.{move_at}
use Rattle.clr_moves.specs.Promoted.{bytes_between, is_between, rebounded}
use Rattle.clr_moves.specs.declared.planned.Planned.{Planned}
use Rattle.clr_moves.specs.declared.promoted.Promoted.{Promoted}
use Rattle.clr_compact.specs.Order.{cursor, HasPassed, IsLeft, Order}

-- ---- lists

-- the bytes of the moves that pass a test, of those whose numbers pass another one
abbrev pub bytes_placed : (Move → Bool) → (ℕ → Bool) → List Move → ℕ
bytes_placed test placed [] = 0
bytes_placed test placed (v ∷ vs) =
    (if placed 0 && test v then v.size else 0) + bytes_placed test (λ k. placed (suc k)) vs

same-placed : (test : Move → Bool) (was now : ℕ → Bool) (vs : List Move)
    → ((j : ℕ) → j < length vs → now j ≡ was j) → bytes_placed test now vs ≡ bytes_placed test was vs
same-placed test was now [] same = refl
same-placed test was now (v ∷ vs) same =
    let here = same 0 (omega arith) in
    let rest = same-placed test (λ k. was (suc k)) (λ k. now (suc k)) vs (λ j l. same (suc j) (omega (arith, l))) in
    λ i. (if here i && test v then v.size else 0) + rest i

none-placed : (test : Move → Bool) (placed : ℕ → Bool) (vs : List Move)
    → ((j : ℕ) → j < length vs → placed j ≡ false) → bytes_placed test placed vs ≡ 0
none-placed test placed [] none = refl
none-placed test placed (v ∷ vs) none =
    let here = none 0 (omega arith) in
    let rest = none-placed test (λ k. placed (suc k)) vs (λ j l. none (suc j) (omega (arith, l))) in
    λ i. (if here i && test v then v.size else 0) + rest i

all-placed : (test : Move → Bool) (placed : ℕ → Bool) (vs : List Move)
    → ((j : ℕ) → j < length vs → placed j ≡ true)
    → bytes_placed test placed vs ≡ sum_by (λ (v : Move). v.size) (filter test vs)
all-placed test placed [] all = refl
all-placed test placed (v ∷ vs) all =
    let here = all 0 (omega arith) in
    let rest = all-placed test (λ k. placed (suc k)) vs (λ j l. all (suc j) (omega (arith, l))) in
    (λ i. (if here i && test v then v.size else 0) + rest i) ∙ one (test v)
  where
    one : (b : Bool) → (if b then v.size else 0) + sum_by (λ (w : Move). w.size) (filter test vs)
        ≡ sum_by (λ (w : Move). w.size) (if b then v ∷ filter test vs else filter test vs)
    one true = sym (sum_by-cons (λ (w : Move). w.size) v (filter test vs))
    one false = omega arith

-- one more is placed
more-placed : (test : Move → Bool) (was now : ℕ → Bool) (vs : List Move) (k : ℕ) → k < length vs → was k ≡ false
    → now k ≡ true → ((j : ℕ) → j < length vs → (j ≡ k → ⊥) → now j ≡ was j)
    → bytes_placed test now vs
    ≡ bytes_placed test was vs + (if test (move_at vs k) then (move_at vs k).size else 0)
more-placed test was now [] k l off on others = absurd (omega arith)
more-placed test was now (v ∷ vs) zero l off on others =
    let rest = same-placed test (λ k. was (suc k)) (λ k. now (suc k)) vs
    (λ j m. others (suc j) (omega (arith, m)) (λ e. absurd (omega (arith, e)))) in
    let there = ap (λ (b : Bool). if b && test v then v.size else 0) on in
    let gone = ap (λ (b : Bool). if b && test v then v.size else 0) off in
    omega (arith, rest, there, gone)
more-placed test was now (v ∷ vs) (suc k) l off on others =
    let rest = more-placed test (λ k. was (suc k)) (λ k. now (suc k)) vs k (omega (arith, l)) off on
    (λ j m ne. others (suc j) (omega (arith, m)) (λ e. ne (omega (arith, e)))) in
    let same = others 0 (omega arith) (λ e. absurd (omega (arith, e))) in
    let here = ap (λ (b : Bool). if b && test v then v.size else 0) same in
    omega (arith, rest, here)

-- ---- the order

-- move k is placed
abbrev pub is_placed : List Move → Order → ℕ → Bool
is_placed vs q k = ltb k (cursor q (move_at vs k))

placed-is : (vs : List Move) (q : Order) (k : ℕ) → (IsLeft vs q k → ⊥) → is_placed vs q k ≡ true
placed-is vs q k gone = elim (cases_lt k (cursor q (move_at vs k))) [
  | inl low ↦ lt-ltb k (cursor q (move_at vs k)) low
  | inr left ↦ absurd (gone left)
]

left-is : (vs : List Move) (q : Order) (k : ℕ) → IsLeft vs q k → is_placed vs q k ≡ false
left-is vs q k left = le-ltb k (cursor q (move_at vs k)) left

placed-others : (vs : List Move) (q r : Order) (k : ℕ) → HasPassed vs q r k → (j : ℕ) → j < length vs → (j ≡ k → ⊥)
    → is_placed vs r j ≡ is_placed vs q j
placed-others vs q r k passed j l ne = elim (cases_lt j (cursor q (move_at vs j))) [
  | inl low ↦
      placed-is vs r j (λ left. (let old = passed.left j l left in absurd (omega (arith, old, low))))
      ∙ sym (lt-ltb j (cursor q (move_at vs j)) low)
  | inr left ↦ left-is vs r j (passed.others j l left ne) ∙ sym (left-is vs q j left)
]

-- ---- the count

-- The bytes of the plugs that are placed and become older are counted. They are no more than the place below which
-- plugs are placed.
pub record IsPromoting (layout : Layout) (planned : Planned) (vs : List Move) (q : Order) (top : ℕ) (total : Promoted)
    : Type 0 where
  pub to1 : total.to1 ≡ bytes_placed (is_between layout planned 0) (is_placed vs q) vs
  pub to2 : total.to2 ≡ bytes_placed (is_between layout planned 1) (is_placed vs q) vs
  pub few1 : total.to1 ≤ top
  pub few2 : total.to2 ≤ top

at_most : (b : Bool) (n : ℕ) → (if b then n else 0) ≤ n
at_most true n = omega arith
at_most false n = omega arith

-- a plug becomes as old in layouts of the same bounds
pub between-same : (old new : Layout) → HasSameBounds old new → (planned : Planned) (e : ℕ) (v : Move)
    → is_between new planned e v ≡ is_between old planned e v
between-same old new same planned e v =
    let before = generation-same old new same v.start in
    let after = generation-same (rebounded old planned) (rebounded new planned)
    (record { segments = same.segments; start1 = refl; start0 = refl }) v.to in
    λ i. eqb (before i) e && eqb (after i) (e + 1)

module _ (layout : Layout) (planned : Planned) (vs : List Move) where
  -- no plug is placed
  pub promoting-starts : (q : Order) (top : ℕ) → ((k : ℕ) → k < length vs → IsLeft vs q k)
      → IsPromoting layout planned vs q top (record { to1 = 0; to2 = 0 })
  promoting-starts q top left = record {
    to1 = sym (none-placed (is_between layout planned 0) (is_placed vs q) vs (λ k l. left-is vs q k (left k l)));
    to2 = sym (none-placed (is_between layout planned 1) (is_placed vs q) vs (λ k l. left-is vs q k (left k l)));
    few1 = omega arith;
    few2 = omega arith;
  }

  -- the place rises
  pub promoting-up : (q : Order) (top up : ℕ) (total : Promoted) → top ≤ up
      → IsPromoting layout planned vs q top total → IsPromoting layout planned vs q up total
  promoting-up q top up total high p = record {
    to1 = p.to1;
    to2 = p.to2;
    few1 = let few = p.few1 in omega (arith, few, high);
    few2 = let few = p.few2 in omega (arith, few, high);
  }

  -- one plug more is placed
  pub promoting-more : (q r : Order) (k top end : ℕ) (total new : Promoted) → IsPromoting layout planned vs q top total
      → HasPassed vs q r k → k < length vs → IsLeft vs q k → top + (move_at vs k).size ≤ end
      → new.to1 ≡ total.to1 + (if is_between layout planned 0 (move_at vs k) then (move_at vs k).size else 0)
      → new.to2 ≡ total.to2 + (if is_between layout planned 1 (move_at vs k) then (move_at vs k).size else 0)
      → IsPromoting layout planned vs r end new
  promoting-more q r k top end total new p passed l left high to1 to2 = record {
    to1 = let old = p.to1 in let more = bytes 0 in omega (arith, to1, old, more);
    to2 = let old = p.to2 in let more = bytes 1 in omega (arith, to2, old, more);
    few1 =
        let few = p.few1 in
        let most = at_most (is_between layout planned 0 (move_at vs k)) (move_at vs k).size in
        omega (arith, few, most, high, to1);
    few2 =
        let few = p.few2 in
        let most = at_most (is_between layout planned 1 (move_at vs k)) (move_at vs k).size in
        omega (arith, few, most, high, to2);
  }
    where
      bytes : (e : ℕ) → bytes_placed (is_between layout planned e) (is_placed vs r) vs
          ≡ bytes_placed (is_between layout planned e) (is_placed vs q) vs
          + (if is_between layout planned e (move_at vs k) then (move_at vs k).size else 0)
      bytes e =
          more-placed (is_between layout planned e) (is_placed vs q) (is_placed vs r) vs k l (left-is vs q k left)
          (placed-is vs r k passed.passed) (placed-others vs q r k passed)

  -- all plugs are placed
  pub promoted-all : (q : Order) (e : ℕ) → ((k : ℕ) → k < length vs → IsLeft vs q k → ⊥)
      → bytes_placed (is_between layout planned e) (is_placed vs q) vs ≡ bytes_between layout planned vs e
  promoted-all q e none =
      all-placed (is_between layout planned e) (is_placed vs q) vs (λ k l. placed-is vs q k (none k l))
