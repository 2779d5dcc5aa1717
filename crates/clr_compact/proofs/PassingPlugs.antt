-- Plugs that lines give one after the other.
use Rattle.std.proofs.Common.{◌≡◌, ◌⊎◌, inl, inr, ℕ, zero, suc, ◌+◌, ◌<◌, ◌≤◌, Bool, true, false, not, List, [], ◌∷◌}
use Rattle.std.proofs.Common.{length, drop, take, refl, ap, sym, ◌∙◌, subst, arith, Option, None, Some, if◌then◌else◌}
use Rattle.std.proofs.Common.{MatchOption, eqb, ltb, ◌&&◌, ◌||◌, ap₂}
use Rattle.std.specs.Bool.{beq}
use Rattle.std.proofs.lemmas.Bool.{both_ways, cases_Bool, cases_lt, cases_order, eq-eqb, le-ltb, lt-ltb, ne_eqb}
use Rattle.clr_types.specs.Types.{TypeRow}
use Rattle.clr_heap.specs.View.{HeapView}
use Rattle.clr_model.specs.Compaction.{Move}
use Rattle.clr_plugs.specs.BrickEntries.{BricksView}
use Rattle.clr_moves.specs.PlugMoves.{Gives, HasGiven, PlugMovesView}
use Rattle.clr_moves.specs.Moves.{goes, move_at, moved_bytes}
use Rattle.clr_compact.specs.Order.{cursor, HasPassed, IsFirstFrom, IsOrder, next_of, Order}
use Rattle.clr_compact.specs.NextPlugs.{AreFirst, AreNext, AreRising, bytes_of, GivesFrom, HasFound, HavePassed}
use Rattle.clr_compact.specs.NextPlugs.{is_lower, IsThere, next_plug}
use Rattle.clr_compact.specs.declared.next_plugs.NextPlugs.{NextPlugs}
use Rattle.clr_moves.specs.declared.condemned.Condemned.{Condemned}

-- ---- lists

-- what a list begins with behind its first elements
pub drop_cons : (vs : List Move) (k : ℕ) (v : Move) (rest : List Move) → drop k vs ≡ v ∷ rest
    → (k < length vs) × (v ≡ move_at vs k) × (rest ≡ drop (suc k) vs)
drop_cons [] zero v rest e = absurd cc
drop_cons [] (suc k) v rest e = absurd cc
drop_cons (w ∷ vs) zero v rest e =
    let first : w ≡ v = cc in
    let later : vs ≡ rest = cc in
    (omega arith, sym first, sym later)
drop_cons (w ∷ vs) (suc k) v rest e = let (a, b, c) = drop_cons vs k v rest e in (omega arith, b, c)

pub drop_none : (vs : List Move) (k : ℕ) → drop k vs ≡ [] → length vs ≤ k
drop_none [] k e = omega arith
drop_none (w ∷ vs) zero e = absurd cc
drop_none (w ∷ vs) (suc k) e = let l = drop_none vs k e in omega arith

-- ---- options and kinds

pub of-some : (A : Type 0) (B : Move → Type 0) (o : Option Move) (v : Move) → o ≡ Some v → MatchOption o A B → B v
of-some A B o v e t = let P : Option Move → Type 0 = λ o. MatchOption o A B in subst P e t

pub of-none : (A : Type 0) (B : Move → Type 0) (o : Option Move) → o ≡ None → MatchOption o A B → A
of-none A B o e t = let P : Option Move → Type 0 = λ o. MatchOption o A B in subst P e t

flags-same : (a b : Bool) → beq a b ≡ true → a ≡ b
flags-same true true e = refl
flags-same true false e = absurd cc
flags-same false true e = absurd cc
flags-same false false e = refl

flags-differ : (a b : Bool) → beq a b ≡ false → a ≡ not b
flags-differ true true e = absurd cc
flags-differ true false e = refl
flags-differ false true e = refl
flags-differ false false e = absurd cc

-- the code's test of a plug's kind
pub kind-same : (v : Move) (to start : ℕ) (kind : Bool) → to ≡ v.to → start ≡ v.start → beq (ltb to start) kind ≡ true
    → goes v ≡ kind
kind-same v to start kind a b e = sym (ap₂ ltb a b) ∙ flags-same (ltb to start) kind e

pub kind-differs : (v : Move) (to start : ℕ) (kind : Bool) → to ≡ v.to → start ≡ v.start
    → beq (ltb to start) kind ≡ false → goes v ≡ not kind
kind-differs v to start kind a b e = sym (ap₂ ltb a b) ∙ flags-differ (ltb to start) kind e

-- ---- the next plug of a kind

-- a line has given the moves from number `start` on up to number `count`, none of them of this kind, and stands at or
-- above the last one
pub record IsPassing (rows : List TypeRow) (h : HeapView) (bricks : BricksView) (g : Condemned) (going : Bool)
    (vs : List Move) (start : ℕ) (line : PlugMovesView) (place : ℕ) : Type 0 where
  pub count : ℕ
  pub above : start ≤ count
  pub within : count ≤ length vs
  pub gives : Gives rows h bricks g line (drop count vs)
  pub none : (j : ℕ) → start ≤ j → j < count → goes (move_at vs j) ≡ not going
  pub ahead : (j : ℕ) → count ≤ j → j < length vs → place < (move_at vs j).start

module _ (rows : List TypeRow) (h : HeapView) (bricks : BricksView) (g : Condemned) (going : Bool) (vs : List Move)
    (start : ℕ) where
  pub passing-starts : (line : PlugMovesView) → GivesFrom rows h bricks g vs start line
      → IsPassing rows h bricks g going vs start line 0
  passing-starts line from = record {
    count = start;
    above = omega arith;
    within = from.within;
    gives = from.gives;
    none = λ j low high. absurd (omega arith);
    ahead = λ j low l. from.rising.low j l;
  }

  module _ (rising : AreRising h.top vs) (line : PlugMovesView) (place : ℕ)
      (p : IsPassing rows h bricks g going vs start line place) where
    module _ (after : PlugMovesView) (v : Move) (given : HasGiven rows h bricks g after (drop p.count vs) v) where
      is : (p.count < length vs) × (v ≡ move_at vs p.count) × (given.rest ≡ drop (suc p.count) vs)
      is = drop_cons vs p.count v given.rest given.first

      next_gives : Gives rows h bricks g after (drop (suc p.count) vs)
      next_gives = let (a, b, c) = is in subst (Gives rows h bricks g after) c given.gives

      -- it is of the kind
      pub passing-finds : goes v ≡ going → HasFound rows h bricks g going vs start after (Some v)
      passing-finds kind =
          let (a, b, c) = is in
          record {
            number = p.count;
            first = record {
              above = p.above;
              within = p.within;
              is = λ l. ap goes (sym b) ∙ kind;
              none = p.none;
            };
            there = record { within = a; is = b; segment = given.within; gives = next_gives };
          }

      -- it isn't
      pub passing-more : goes v ≡ not going → IsPassing rows h bricks g going vs start after v.start
      passing-more other =
          let (a, b, c) = is in
          let at : v.start ≡ (move_at vs p.count).start = ap (λ (w : Move). w.start) b in
          let up = p.above in
          record {
            count = suc p.count;
            above = omega arith;
            within = a;
            gives = next_gives;
            none = λ j low high. elim (cases_lt j p.count) [
              | inl l ↦ p.none j low l
              | inr l ↦ let same : j ≡ p.count = omega arith in
                  ap (λ i. goes (move_at vs i)) same ∙ ap goes (sym b) ∙ other
            ];
            ahead = λ j low l. let r = rising.rise p.count j low l in omega arith;
          }

      -- it stands above the one before, and below the top
      pub passing-up : (place < v.start) × (v.start < h.top)
      passing-up =
          let (a, b, c) = is in
          let at : v.start ≡ (move_at vs p.count).start = ap (λ (w : Move). w.start) b in
          let up = p.ahead p.count (omega arith) a in
          let high = rising.high p.count a in
          (omega arith, omega arith)

    -- no plug is left
    pub passing-ends : (after : PlugMovesView) → drop p.count vs ≡ []
        → HasFound rows h bricks g going vs start after None
    passing-ends after e =
        let past = drop_none vs p.count e in
        let low = p.within in
        let end : p.count ≡ length vs = omega arith in
        record {
          number = p.count;
          first = record { above = p.above; within = p.within; is = λ l. absurd (omega arith); none = p.none };
          there = end;
        }

-- ---- bytes that have moved

-- none goes
none-moved : (vs : List Move) (n : ℕ) → ((j : ℕ) → j < n → j < length vs → goes (move_at vs j) ≡ false)
    → moved_bytes (take n vs) ≡ 0
none-moved vs zero none = refl
none-moved [] (suc n) none = refl
none-moved (v ∷ vs) (suc n) none =
    let here : goes v ≡ false = none 0 (omega arith) (omega arith) in
    let rest = none-moved vs n (λ j l m. none (suc j) (omega arith) (omega arith)) in
    ap (λ (b : Bool). (if b then v.size else 0) + moved_bytes (take n vs)) here ∙ omega (arith, rest)

-- one more goes, and none behind it
moved-more : (vs : List Move) (k n : ℕ) → k < length vs → goes (move_at vs k) ≡ true → suc k ≤ n
    → ((j : ℕ) → suc k ≤ j → j < n → j < length vs → goes (move_at vs j) ≡ false)
    → moved_bytes (take n vs) ≡ moved_bytes (take k vs) + (move_at vs k).size
moved-more [] k n l on up none = absurd (omega arith)
moved-more (v ∷ vs) k zero l on up none = absurd (omega arith)
moved-more (v ∷ vs) zero (suc n) l on up none =
    let rest = none-moved vs n (λ j lj m. none (suc j) (omega arith) (omega arith) (omega arith)) in
    ap (λ (b : Bool). (if b then v.size else 0) + moved_bytes (take n vs)) on ∙ omega (arith, rest)
moved-more (v ∷ vs) (suc k) (suc n) l on up none =
    let rest = moved-more vs k n (omega arith) on (omega arith)
    (λ j low high m. none (suc j) (omega arith) (omega arith) (omega arith)) in
    let here = if goes v then v.size else 0 in
    ap (λ (m : ℕ). here + m) rest ∙ omega arith

-- ---- both kinds

cases-kind : (b kind : Bool) → (b ≡ kind) ⊎ (b ≡ not kind)
cases-kind true true = inl refl
cases-kind true false = inr refl
cases-kind false true = inr refl
cases-kind false false = inl refl

not-both : (b kind : Bool) → b ≡ kind → b ≡ not kind → ⊥
not-both true true e f = absurd cc
not-both true false e f = absurd cc
not-both false true e f = absurd cc
not-both false false e f = absurd cc

-- a kind goes on behind the plug that was its next one
passed-kind : (kind : Bool) (vs : List Move) (q r : Order) (k n : ℕ) → IsOrder vs r → k < length vs
    → goes (move_at vs k) ≡ kind
    → ((v : Move) → goes v ≡ kind → cursor q v ≡ k) → ((v : Move) → goes v ≡ kind → cursor r v ≡ n)
    → ((v : Move) → goes v ≡ not kind → cursor r v ≡ cursor q v) → IsFirstFrom kind vs (suc k) n
    → q.going + q.staying < r.going + r.staying → HasPassed vs q r k
passed-kind kind vs q r k n order inside is of_q of_r same f further = record {
  order = order;
  left = λ j lj left. elim (cases-kind (goes (move_at vs j)) kind) [
    | inl on ↦ let a = of_q (move_at vs j) on in let b = of_r (move_at vs j) on in let up = f.above in omega arith
    | inr off ↦ let a = same (move_at vs j) off in omega arith
  ];
  passed = λ left. let b = of_r (move_at vs k) is in let up = f.above in absurd (omega arith);
  others = λ j lj left ne. elim (cases-kind (goes (move_at vs j)) kind) [
    | inl on ↦
        let a = of_q (move_at vs j) on in
        let b = of_r (move_at vs j) on in
        elim (cases_order j k) [
          | inl e ↦ absurd (ne e)
          | inr (inl low) ↦ absurd (omega arith)
          | inr (inr high) ↦ elim (cases_lt j n) [
            | inl l ↦ absurd (not-both (goes (move_at vs j)) kind on (f.none j (omega arith) l))
            | inr past ↦ omega arith
          ]
        ]
    | inr off ↦ let a = same (move_at vs j) off in omega arith
  ];
  further = further;
}

cursor-going : (q : Order) (v : Move) → goes v ≡ true → cursor q v ≡ q.going
cursor-going q v e = ap (λ (t : Bool). if t then q.going else q.staying) e

cursor-staying : (q : Order) (v : Move) → goes v ≡ false → cursor q v ≡ q.staying
cursor-staying q v e = ap (λ (t : Bool). if t then q.going else q.staying) e

module _ (rows : List TypeRow) (h : HeapView) (bricks : BricksView) (g : Condemned) (vs : List Move) where
  -- the first plugs of both kinds
  pub are-first : AreRising h.top vs → (goers stayers : PlugMovesView) (going staying : Option Move)
      → HasFound rows h bricks g true vs 0 goers going → HasFound rows h bricks g false vs 0 stayers staying
      → AreFirst rows h bricks g vs
      (record { goers = goers; stayers = stayers; going = going; staying = staying })
  are-first rising goers stayers going staying f s = record {
    order = record { going = f.number; staying = s.number };
    next = record {
      order = record {
        going_in = f.first.within;
        staying_in = s.first.within;
        going_is = f.first.is;
        staying_is = s.first.is;
      };
      rising = rising;
      goer = f.there;
      stayer = s.there;
    };
    left = λ k l. elim (cases_Bool (goes (move_at vs k))) [
      | inl on ↦ elim (cases_lt k f.number) [
        | inl low ↦ absurd (both_ways (goes (move_at vs k)) (f.first.none k (omega arith) low) on)
        | inr up ↦
            let at = cursor-going (record { going = f.number; staying = s.number }) (move_at vs k) on in omega arith
      ]
      | inr off ↦ elim (cases_lt k s.number) [
        | inl low ↦ absurd (both_ways (goes (move_at vs k)) off (s.first.none k (omega arith) low))
        | inr up ↦
            let at = cursor-staying (record { going = f.number; staying = s.number }) (move_at vs k) off in omega arith
      ]
    ];
    bytes = none-moved vs f.number (λ j l m. f.first.none j (omega arith) l);
  }

  module _ (q : Order) (plugs : NextPlugs) (n : AreNext rows h bricks g vs q plugs) where
    -- which of the two goes to the lower place, by their numbers
    lower-by : (s w : Option Move) → MatchOption w (q.going ≡ length vs)
        (IsThere rows h bricks g vs plugs.goers q.going)
        → MatchOption s (q.staying ≡ length vs) (IsThere rows h bricks g vs plugs.stayers q.staying)
        → is_lower s w
        ≡ (ltb q.staying (length vs)
        && (eqb q.going (length vs) || ltb (move_at vs q.staying).to (move_at vs q.going).to))
    lower-by None w goer stayer = let e = le-ltb q.staying (length vs) (omega arith) in rw e refl
    lower-by (Some v) None goer stayer =
        let a = lt-ltb q.staying (length vs) stayer.within in
        let b = eq-eqb q.going (length vs) goer in
        rw (a, b) refl
    lower-by (Some v) (Some w) goer stayer =
        let a = lt-ltb q.staying (length vs) stayer.within in
        let inside = goer.within in
        let b = ne_eqb q.going (length vs) (λ e. omega arith) in
        rw (a, b) (ap₂ (λ (v w : Move). ltb v.to w.to) stayer.is goer.is)

    next-by : next_of vs q ≡ (if is_lower plugs.staying plugs.going then q.staying else q.going)
    next-by = ap (λ (b : Bool). if b then q.staying else q.going)
        (sym (lower-by plugs.staying plugs.going n.goer n.stayer))

    -- the plug that is placed next is that of its number
    pub next-is : (v : Move) → next_plug plugs ≡ Some v → (next_of vs q < length vs) × (v ≡ move_at vs (next_of vs q))
    next-is v e = go (is_lower plugs.staying plugs.going) next-by e
      where
        there : (s : Option Move) (line : PlugMovesView) (k : ℕ)
            → MatchOption s (k ≡ length vs) (IsThere rows h bricks g vs line k)
            → s ≡ Some v → (k < length vs) × (v ≡ move_at vs k)
        there None line k t f = absurd cc
        there (Some w) line k t f = let same : w ≡ v = cc in (t.within, sym same ∙ t.is)

        go : (b : Bool) → next_of vs q ≡ (if b then q.staying else q.going)
            → (if b then plugs.staying else plugs.going) ≡ Some v
            → (next_of vs q < length vs) × (v ≡ move_at vs (next_of vs q))
        go true at f =
            let (a, b) = there plugs.staying plugs.stayers q.staying n.stayer f in
            (omega arith, b ∙ ap (move_at vs) (sym at))
        go false at f =
            let (a, b) = there plugs.going plugs.goers q.going n.goer f in
            (omega arith, b ∙ ap (move_at vs) (sym at))

    -- where there is none, none is left
    pub next-none : next_plug plugs ≡ None → length vs ≤ next_of vs q
    next-none e = go (is_lower plugs.staying plugs.going) next-by e
      where
        none : (s : Option Move) (line : PlugMovesView) (k : ℕ)
            → MatchOption s (k ≡ length vs) (IsThere rows h bricks g vs line k)
            → s ≡ None → length vs ≤ k
        none None line k t f = omega arith
        none (Some w) line k t f = absurd cc

        go : (b : Bool) → next_of vs q ≡ (if b then q.staying else q.going)
            → (if b then plugs.staying else plugs.going) ≡ None → length vs ≤ next_of vs q
        go true at f = let a = none plugs.staying plugs.stayers q.staying n.stayer f in omega arith
        go false at f = let a = none plugs.going plugs.goers q.going n.goer f in omega arith

    -- ---- the line of the next plug goes on

    gives-behind : (s : Option Move) (line : PlugMovesView) (k : ℕ) → k < length vs
        → MatchOption s (k ≡ length vs) (IsThere rows h bricks g vs line k) → GivesFrom rows h bricks g vs (suc k) line
    gives-behind None line k l t = absurd (omega arith)
    gives-behind (Some v) line k l t = record { within = t.within; rising = n.rising; gives = t.gives }

    module _ (inside : next_of vs q < length vs) where
      pub stayers-give : is_lower plugs.staying plugs.going ≡ true
          → GivesFrom rows h bricks g vs (suc q.staying) plugs.stayers
      stayers-give e =
          let at = next-by ∙ ap (λ (b : Bool). if b then q.staying else q.going) e in
          gives-behind plugs.staying plugs.stayers q.staying (omega arith) n.stayer

      pub goers-give : is_lower plugs.staying plugs.going ≡ false
          → GivesFrom rows h bricks g vs (suc q.going) plugs.goers
      goers-give e =
          let at = next-by ∙ ap (λ (b : Bool). if b then q.staying else q.going) e in
          gives-behind plugs.going plugs.goers q.going (omega arith) n.goer

      pub stayer-passed : is_lower plugs.staying plugs.going ≡ true → (line : PlugMovesView) (found : Option Move)
          → HasFound rows h bricks g false vs (suc q.staying) line found
          → HavePassed rows h bricks g vs q
          (record { goers = plugs.goers; stayers = line; going = plugs.going; staying = found })
      stayer-passed e line found f = record {
        order = r;
        next = record { order = order; rising = n.rising; goer = n.goer; stayer = f.there };
        passed = subst (HasPassed vs q r) (sym at)
            (passed-kind false vs q r q.staying f.number order within kind (cursor-staying q) (cursor-staying r)
            (λ v on. cursor-going r v on ∙ sym (cursor-going q v on)) f.first (let up = f.first.above in omega arith));
        bytes =
            let none : bytes_of (move_at vs (next_of vs q)) ≡ 0 =
            ap (λ i. bytes_of (move_at vs i)) at
            ∙ ap (λ (b : Bool). if b then (move_at vs q.staying).size else 0) kind in
            omega arith;
      }
        where
          at : next_of vs q ≡ q.staying
          at = next-by ∙ ap (λ (b : Bool). if b then q.staying else q.going) e

          r : Order
          r = record { going = q.going; staying = f.number }

          within : q.staying < length vs
          within = omega (arith, at, inside)

          kind : goes (move_at vs q.staying) ≡ false
          kind = n.order.staying_is within

          order : IsOrder vs r
          order = record {
            going_in = n.order.going_in;
            staying_in = f.first.within;
            going_is = n.order.going_is;
            staying_is = f.first.is;
          }

      pub goer-passed : is_lower plugs.staying plugs.going ≡ false → (line : PlugMovesView) (found : Option Move)
          → HasFound rows h bricks g true vs (suc q.going) line found
          → HavePassed rows h bricks g vs q
          (record { goers = line; stayers = plugs.stayers; going = found; staying = plugs.staying })
      goer-passed e line found f = record {
        order = r;
        next = record { order = order; rising = n.rising; goer = f.there; stayer = n.stayer };
        passed = subst (HasPassed vs q r) (sym at)
            (passed-kind true vs q r q.going f.number order within kind (cursor-going q) (cursor-going r)
            (λ v off. cursor-staying r v off ∙ sym (cursor-staying q v off)) f.first
            (let up = f.first.above in omega arith));
        bytes =
            let more = moved-more vs q.going f.number within kind f.first.above
            (λ j low high m. f.first.none j low high) in
            let is : bytes_of (move_at vs (next_of vs q)) ≡ (move_at vs q.going).size =
            ap (λ i. bytes_of (move_at vs i)) at
            ∙ ap (λ (b : Bool). if b then (move_at vs q.going).size else 0) kind in
            omega arith;
      }
        where
          at : next_of vs q ≡ q.going
          at = next-by ∙ ap (λ (b : Bool). if b then q.staying else q.going) e

          r : Order
          r = record { going = f.number; staying = q.staying }

          within : q.going < length vs
          within = omega (arith, at, inside)

          kind : goes (move_at vs q.going) ≡ true
          kind = n.order.going_is within

          order : IsOrder vs r
          order = record {
            going_in = f.first.within;
            staying_in = n.order.staying_in;
            going_is = f.first.is;
            staying_is = n.order.staying_is;
          }

  -- a line that has given nothing
  pub gives-all : AreRising h.top vs → (line : PlugMovesView) → Gives rows h bricks g line vs
      → GivesFrom rows h bricks g vs 0 line
  gives-all rising line gives = record { within = omega arith; rising = rising; gives = gives }
