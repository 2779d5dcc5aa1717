-- Reading the next plug of a part.
use Rattle.std.proofs.Common.{◌≡◌, inl, inr, ℕ, ◌+◌, ◌-◌, ◌≤◌, negsuc, List, [], ◌∷◌, refl, ap, sym, ◌∙◌}
use Rattle.std.proofs.Common.{subst, arith, None, Some}
use Rattle.std.specs.Int.{cast_signed, w64}
use Rattle.std.specs.List.{AllByRecursion}
use Rattle.std.specs.Prelude.{unsigned_abs}
use Rattle.clr_types.specs.Rising.{first, IsIn, later}
use Rattle.clr_types.proofs.ChangedLists.{IsIn-map}
use Rattle.clr_heap.specs.View.{HeapView, word_of}
use Rattle.clr_plugs.specs.BrickEntries.{BricksView}
use Rattle.clr_plugs.specs.Cursors.{ahead, AreLeft, CursorView}
use Rattle.clr_plugs.specs.Info.{HasInfo}
use Rattle.clr_plugs.specs.Plans.{back_number, IsTold, PlannedPart, PlannedPlug, plug_starts}
use Rattle.clr_plugs.proofs.Stepping.{later_left}
use Rattle.clr_plugs.proofs.Writing.{place_info}
use Rattle.clr_moves.specs.PlugMoves.{CanRead, HasRead, PlugMovesView}
use Rattle.clr_moves.specs.Told.{GoesDown}

-- how far a plug goes down
pub back_is : (p : PlannedPlug) → GoesDown p
    → (unsigned_abs p.distance ≡ back_number p.distance) × (back_number p.distance ≤ p.start)
back_is p (inl e) = (ap unsigned_abs e ∙ sym (ap back_number e), rw e (omega arith))
back_is p (inr (n, e, le)) =
    let one : unsigned_abs (negsuc n) ≡ n + 1 = omega arith in
    (ap unsigned_abs e ∙ one ∙ sym (ap back_number e), let b = ap back_number e in omega (arith, b, le))

-- the words of a plug whose plan is told
pub record HasDistance (h : HeapView) (start : ℕ) (p : PlannedPlug) : Type 0 where
  pub is : start ≡ p.start
  pub info : HasInfo h start
  pub gap : word_of h (start - 32) ≡ p.gap
  pub back : unsigned_abs (cast_signed w64 (word_of h (start - 24))) ≡ back_number p.distance
  pub within : back_number p.distance ≤ start

module _ (h : HeapView) (bricks : BricksView) (cursor : CursorView) (part : PlannedPart) where
  -- where nothing is ahead, no plug was left
  pub read_none : (ps : List PlannedPlug) → CanRead h bricks cursor part ps
      → ahead cursor (plug_starts part.plugs) ≡ [] → (line : PlugMovesView) → line.start ≡ 0
      → HasRead h bricks line part ps None
  read_none [] c e line start = (start, refl)
  read_none (p ∷ ps) c e line start = absurd (none p.start (plug_starts ps) (sym c.rest ∙ e)) where
    none : (x : ℕ) (xs : List ℕ) → (x ∷ xs) ≡ [] → ⊥
    none x xs e = cc

  -- the first plug that was left
  pub record IsNext (ps : List PlannedPlug) (start : ℕ) (more : List ℕ) : Type 0 where
    pub plug : PlannedPlug
    pub others : List PlannedPlug
    pub are : ps ≡ plug ∷ others
    pub words : HasDistance h start plug
    pub rest : plug_starts others ≡ more

  pub next_is : (ps : List PlannedPlug) (start : ℕ) (rest : List ℕ) → CanRead h bricks cursor part ps
      → ahead cursor (plug_starts part.plugs) ≡ start ∷ rest → IsNext ps start rest
  next_is [] start rest c e = absurd (none start rest (sym c.rest ∙ e)) where
    none : (x : ℕ) (xs : List ℕ) → [] ≡ (x ∷ xs) → ⊥
    none x xs e = cc
  next_is (p ∷ ps) start rest c e =
      let same : (p.start ∷ plug_starts ps) ≡ (start ∷ rest) = sym c.rest ∙ e in
      let at : start ≡ p.start = cc in
      let told = c.told.0 in
      let down = back_is p (c.down p first) in
      let within = down.1 in
      let place = c.lies.places p.start (IsIn-map (λ (q : PlannedPlug). q.start) (c.among p first)) in
      record {
        plug = p;
        others = ps;
        are = refl;
        words = record {
          is = at;
          info = subst (HasInfo h) (sym at) (place_info h part p.start c.heap c.lies place);
          gap = ap (λ n. word_of h (n - 32)) at ∙ told.gap;
          back = ap (λ n. unsigned_abs (cast_signed w64 (word_of h (n - 24)))) at ∙ ap unsigned_abs told.distance
              ∙ down.0;
          within = omega (arith, within, at);
        };
        rest = cc;
      }

  -- the plug was read, and the cursor is behind it
  pub read_some : (ps : List PlannedPlug) (start : ℕ) (after : CursorView) → CanRead h bricks cursor part ps
      → ahead cursor (plug_starts part.plugs) ≡ start ∷ ahead after (plug_starts part.plugs)
      → cursor.brick ≤ after.brick → after.past ≡ cursor.past → (line : PlugMovesView) → line.cursor ≡ after
      → line.start ≡ start → line.to ≡ start - unsigned_abs (cast_signed w64 (word_of h (start - 24))) → (end : ℕ)
      → end ≡ start - word_of h (start - 32) → HasRead h bricks line part ps (Some end)
  read_some ps start after c e brick past line cursor_is start_is to_is end end_is =
      let n = next_is ps start (ahead after (plug_starts part.plugs)) c e in
      let w = n.words in
      let P : CursorView → Type 0 = λ v. CanRead h bricks v part n.others in
      let Q : ℕ → Type 0 = λ m. AreLeft h bricks after.brick m in
      let among : (p : PlannedPlug) → IsIn p n.others → IsIn p ps =
      λ p i. (let R : List PlannedPlug → Type 0 = λ qs. IsIn p qs in subst R (sym n.are) (later i)) in
      let others : CanRead h bricks line.cursor part n.others = subst P (sym cursor_is) (record {
        heap = c.heap;
        lies = c.lies;
        among = λ p i. c.among p (among p i);
        left = subst Q (sym past) (later_left h bricks cursor.brick after.brick cursor.past brick c.left);
        tell = λ i low high. c.tell i (omega (arith, low, brick)) (omega (arith, high, past));
        rest = sym n.rest;
        told = (let R : List PlannedPlug → Type 0 = λ qs. AllByRecursion (IsTold (word_of h)) qs in
            (subst R n.are c.told).1);
        down = λ p i. c.down p (among p i);
      }) in
      let told : HasRead h bricks line part (n.plug ∷ n.others) (Some end) = (
        ap Some (end_is ∙ ap (λ m. start - m) w.gap ∙ ap (λ m. m - n.plug.gap) w.is),
        record {
          start = start_is ∙ w.is;
          to = to_is ∙ ap (λ m. start - m) w.back ∙ ap (λ m. m - back_number n.plug.distance) w.is;
          others = others;
        },
      ) in
      subst (λ qs. HasRead h bricks line part qs (Some end)) (sym n.are) told
