-- A run that grows by the object behind it, until what follows is of another kind: it is then the first plug.
use Rattle.std.proofs.Common.{◌≡◌, ◌+◌, ◌<◌, List, [], ◌∷◌, refl, sym, ap, subst, ◌∙◌, arith, Bool, true, false, ◌&&◌}
use Rattle.std.proofs.Common.{◌==◌, if◌then◌else◌}
use Rattle.std.specs.Bool.{beq}
use Rattle.std.specs.List.{AllByRecursion}
use Rattle.std.proofs.lemmas.Bool.{and_from, and_left, and_right, eq-eqb, ne_eqb}
use Rattle.clr_model.specs.Sweep.{Survivor}
use Rattle.clr_model.specs.Compaction.{Plug, plug_end, plug_of, joins, joined}
use Rattle.clr_model.proofs.PlugsOf.{AreJoined, joins-true}
use Rattle.clr_plan.specs.Scans.{is_alike}
use Rattle.clr_plan.specs.Runs.{touches, merged}

pub merged-one : (k : Survivor) (ps : List Plug) → joined k ps ≡ merged (plug_of k) ps
merged-one k [] = refl
merged-one k (p ∷ ps) = refl

beq-same : (a : Bool) → beq a a ≡ true
beq-same true = refl
beq-same false = refl

pub beq-from : (a b : Bool) → beq a b ≡ true → a ≡ b
beq-from true true e = refl
beq-from true false e = absurd cc
beq-from false true e = absurd cc
beq-from false false e = refl

-- the run with one object more
abbrev pub longer_run : Plug → Survivor → Plug
longer_run r k = record r { size = r.size + k.size }

module _ (r : Plug) (k : Survivor) (next : plug_end r ≡ k.place) (segment : r.segment ≡ k.segment) where
  module _ (generation : r.generation ≡ k.generation) (pinned : r.pinned ≡ k.pinned) where
    touches-own : touches r (plug_of k) ≡ true
    touches-own =
        and_from ((r.start + r.size == k.place) && (r.segment == k.segment)) ((r.generation == k.generation)
        && beq r.pinned k.pinned)
        (and_from (r.start + r.size == k.place) (r.segment == k.segment) (eq-eqb (r.start + r.size) k.place next)
        (eq-eqb r.segment k.segment segment))
        (and_from (r.generation == k.generation) (beq r.pinned k.pinned) (eq-eqb r.generation k.generation generation)
        (subst (λ b. beq r.pinned b ≡ true) pinned (beq-same r.pinned)))

    -- the tests of the run with the object more are those of the object
    touches-later : (p : Plug) → touches (longer_run r k) p ≡ joins k p
    touches-later p =
        let ends : r.start + (r.size + k.size) ≡ k.place + k.size = let n : r.start + r.size ≡ k.place = next in
        omega arith in
        λ i. ((ends i == p.start) && (segment i == p.segment))
        && ((generation i == p.generation) && beq (pinned i) p.pinned)

    pub run-grows : (ps : List Plug) → merged r (joined k ps) ≡ merged (longer_run r k) ps
    run-grows [] = ap (λ b. if b then record (plug_of k) { start = r.start; size = r.size + k.size } ∷ []
        else r ∷ plug_of k ∷ []) touches-own ∙ ap (λ p. p ∷ []) same
      where
        same : ◌≡◌ {A = Plug} (record {
          start = r.start;
          size = r.size + k.size;
          segment = k.segment;
          generation =
              k.generation;
          pinned = k.pinned;
        }) (longer_run r k)
        same = λ i. record {
          start = r.start;
          size = r.size + k.size;
          segment = sym segment i;
          generation =
              sym generation i;
          pinned = sym pinned i;
        }
    run-grows (p ∷ ps) = go (joins k p) refl
        ∙ ap (λ b. if b then record p { start = r.start; size = r.size + k.size + p.size } ∷ ps else longer_run r
        k ∷ p ∷ ps) (sym (touches-later p))
      where
        apart : merged r (plug_of k ∷ p ∷ ps) ≡ longer_run r k ∷ p ∷ ps
        apart = ap (λ b. if b then record (plug_of k) { start = r.start; size = r.size + k.size } ∷ p ∷ ps
            else r ∷ plug_of k ∷ p ∷ ps) touches-own
            ∙ (λ i. record {
              start = r.start;
              size = r.size + k.size;
              segment = sym segment i;
              generation =
                  sym generation i;
              pinned = sym pinned i;
            } ∷ p ∷ ps)

        more : AreJoined k p → merged r (record p { start = k.place; size = k.size + p.size } ∷ ps)
            ≡ record p { start = r.start; size = r.size + k.size + p.size } ∷ ps
        more is =
            ap (λ b. if b then record p { start = r.start; size = r.size + (k.size + p.size) } ∷ ps else r ∷ record p
            { start = k.place; size = k.size + p.size } ∷ ps)
            (λ i. ((r.start + r.size == k.place) && (r.segment == sym is.segment i))
            && ((r.generation == sym is.generation i) && beq r.pinned (sym is.pinned i)))
            ∙ ap (λ b. if b then record p { start = r.start; size = r.size + (k.size + p.size) } ∷ ps else r ∷ record p
            { start = k.place; size = k.size + p.size } ∷ ps) touches-own
            ∙ (λ i. record p { start = r.start; size = regrouped i } ∷ ps)
          where
            regrouped : r.size + (k.size + p.size) ≡ r.size + k.size + p.size
            regrouped = omega arith

        go : (b : Bool) → joins k p ≡ b → merged r (if b then record p { start = k.place; size = k.size + p.size } ∷ ps
            else plug_of k ∷ p ∷ ps) ≡ (if b then record p { start = r.start; size = r.size + k.size + p.size } ∷ ps
            else longer_run r k ∷ p ∷ ps)
        go true e = more (joins-true k p e)
        go false e = apart

-- where the object behind is of another kind, the run is a plug
pub run-other : (r : Plug) (k : Survivor) (ps : List Plug) → is_alike r (plug_of k) ≡ false → merged r (joined k ps)
    ≡ r ∷ joined k ps
run-other r k [] e = ap (λ b. if b then record (plug_of k) { start = r.start; size = r.size + k.size } ∷ []
    else r ∷ plug_of k ∷ []) (and_right ((r.start + r.size == k.place) && (r.segment == k.segment))
    ((r.generation == k.generation) && beq r.pinned k.pinned) e)
run-other r k (p ∷ ps) e = go (joins k p) refl
  where
    go : (b : Bool) → joins k p ≡ b
        → merged r (if b then record p { start = k.place; size = k.size + p.size } ∷ ps else plug_of k ∷ p ∷ ps)
        ≡ r ∷ (if b then record p { start = k.place; size = k.size + p.size } ∷ ps else plug_of k ∷ p ∷ ps)
    go true j =
        let is : AreJoined k p = joins-true k p j in
        ap (λ b. if b then record p { start = r.start; size = r.size + (k.size + p.size) } ∷ ps else r ∷ record p
        { start = k.place; size = k.size + p.size } ∷ ps)
        (and_right ((r.start + r.size == k.place) && (r.segment == p.segment)) ((r.generation == p.generation)
        && beq r.pinned p.pinned)
        ((λ i. (r.generation == sym is.generation i) && beq r.pinned (sym is.pinned i)) ∙ e))
    go false j = ap (λ b. if b then record (plug_of k) { start = r.start; size = r.size + k.size } ∷ p ∷ ps
        else r ∷ plug_of k ∷ p ∷ ps) (and_right ((r.start + r.size == k.place) && (r.segment == k.segment))
        ((r.generation == k.generation) && beq r.pinned k.pinned) e)

-- where what follows begins behind its end, the run is a plug
pub run-apart : (r : Plug) (ps : List Plug) → AllByRecursion (λ (p : Plug). plug_end r < p.start) ps → merged r ps
    ≡ r ∷ ps
run-apart r [] a = refl
run-apart r (p ∷ ps) a =
    ap (λ b. if b then record p { start = r.start; size = r.size + p.size } ∷ ps else r ∷ p ∷ ps)
    (and_left ((r.start + r.size == p.start) && (r.segment == p.segment)) ((r.generation == p.generation)
    && beq r.pinned p.pinned)
    (and_left (r.start + r.size == p.start) (r.segment == p.segment)
    (ne_eqb (r.start + r.size) p.start (λ e. let l : plug_end r < p.start = a.0 in absurd (omega arith)))))
