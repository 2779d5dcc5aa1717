-- How many entries are pushed at most: one for each pinned plug, and one for each younger generation that begins where
-- an older one ends.
use Rattle.std.proofs.Common.{◌≡◌, inl, inr, ℕ, suc, ◌+◌, ◌<◌, ◌≤◌, List, [], ◌∷◌, ◌++◌, length, filter, arith, ap}
use Rattle.std.proofs.Common.{refl, sym, subst, ◌∙◌, Bool, true, false, ◌&&◌, ◌==◌, not, if◌then◌else◌}
use Rattle.std.specs.Bool.{beq}
use Rattle.std.proofs.lemmas.Bool.{and_from, and_parts, both_ways, eq-eqb, eqb-true, cases_eq}
use Rattle.std.proofs.lemmas.List.{length-append}
use Rattle.std.proofs.lemmas.List.Elements.{filter-append}
use Rattle.clr_types.specs.Rising.{first, IsIn, IsRisingBy, later}
use Rattle.clr_types.proofs.RisingLists.{all_at}
use Rattle.clr_model.specs.Compaction.{joined, joins, Plug, plug_end, plug_of, plugs_of}
use Rattle.clr_model.specs.Sweep.{Survivor}
use Rattle.clr_model.proofs.PlugsOf.{joins-true, longer}
use Rattle.clr_plan.specs.LaidParts.{is_to_push, pushes_for}
use Rattle.clr_plan.specs.Planned.{pinned_count}
use Rattle.clr_plan.specs.Runs.{touches}

pub pinned-append : (ps qs : List Plug) → pinned_count (ps ++ qs) ≡ pinned_count ps + pinned_count qs
pinned-append ps qs = ap length (filter-append (λ (p : Plug). p.pinned) ps qs)
    ∙ length-append (filter (λ (p : Plug). p.pinned) ps) (filter (λ (p : Plug). p.pinned) qs)

-- where the last entry ends when what is pushed for a plug is
abbrev pushed_end : ℕ → ℕ → ℕ → Plug → ℕ
pushed_end last begin below p = if p.pinned then plug_end p else (if is_to_push last begin below p.start then p.start
    else last)

-- The generations of the plugs fall from `most` to `least`, and a plug that isn't pinned is of a lower one than the one
-- before it where an entry is pushed for it.
abbrev AreStepped : ℕ → ℕ → ℕ → ℕ → ℕ → List Plug → Type 0
AreStepped least most last begin below [] = Unit {0}
AreStepped least most last begin below (p ∷ ps) =
    (least ≤ p.generation) × (p.generation ≤ most) × (p.pinned ≡ false → is_to_push last begin below p.start ≡ true
    → p.generation < most)
    × AreStepped least p.generation (pushed_end last begin below p) begin (plug_end p) ps

few-pushes : (least most last begin below : ℕ) (ps : List Plug) → least ≤ most → AreStepped least most last begin below
    ps → pushes_for last begin below ps + least ≤ pinned_count ps + most
few-pushes least most last begin below [] l s = omega (arith, l)
few-pushes least most last begin below (p ∷ ps) l s = go p.pinned (is_to_push last begin below p.start) s.2
    (λ end t. few-pushes least p.generation end begin (plug_end p) ps s.0 t) s.3
  where
    go : (a b : Bool) → (a ≡ false → b ≡ true → p.generation < most)
        → ((end : ℕ) → AreStepped least p.generation end begin (plug_end p) ps → pushes_for end begin (plug_end p)
        ps + least ≤ pinned_count ps + p.generation)
        → AreStepped least p.generation (if a then plug_end p else (if b then p.start else last)) begin (plug_end p) ps
        → (if a then suc (pushes_for (plug_end p) begin (plug_end p) ps)
        else (if b then suc (pushes_for p.start begin (plug_end p) ps) else pushes_for last begin (plug_end p)
        ps)) + least
        ≤ length (if a then p ∷ filter (λ (q : Plug). q.pinned) ps else filter (λ (q : Plug). q.pinned) ps) + most
    go true b lower more t = let m = more (plug_end p) t in let u = s.1 in omega (arith, m, u)
    go false true lower more t = let m = more p.start t in let u = lower refl refl in omega (arith, m, u)
    go false false lower more t = let m = more last t in let u = s.1 in omega (arith, m, u)

-- ---- plugs are as long as they can be

abbrev AreMaximal : List Plug → Type 0
AreMaximal [] = Unit {0}
AreMaximal (p ∷ []) = Unit {0}
AreMaximal (p ∷ (q ∷ ps)) = (touches p q ≡ false) × AreMaximal (q ∷ ps)

joined-maximal : (k : Survivor) (ps : List Plug) → AreMaximal ps → AreMaximal (joined k ps)
joined-maximal k [] m = tt
joined-maximal k (p ∷ ps) m = go (joins k p) refl
  where
    longer-maximal : (qs : List Plug) → k.place + k.size ≡ p.start → AreMaximal (p ∷ qs) → AreMaximal (longer k p ∷ qs)
    longer-maximal [] e m = tt
    longer-maximal (q ∷ qs) e m =
        let same : k.place + (k.size + p.size) ≡ p.start + p.size = omega (arith, e) in (
          ap (λ n. ((n == q.start) && (p.segment == q.segment))
              && ((p.generation == q.generation) && beq p.pinned q.pinned)) same ∙ m.0,
          m.1,
        )

    go : (b : Bool) → joins k p ≡ b → AreMaximal (if b then longer k p ∷ ps else plug_of k ∷ (p ∷ ps))
    go true e = longer-maximal ps (joins-true k p e).touch m
    go false e = (e, m)

pub plugs-maximal : (ks : List Survivor) → AreMaximal (plugs_of ks)
plugs-maximal [] = tt
plugs-maximal (k ∷ ks) = joined-maximal k (plugs_of ks) (plugs-maximal ks)

-- ---- and fall in generations

not-to-push : (last begin below a : ℕ) → a ≡ last → is_to_push last begin below a ≡ true → ⊥
not-to-push last begin below a at t =
    let (here, rest) = and_parts (a == below) (not (a == begin) && not (a == last)) t in
    let (other, free) = and_parts (not (a == begin)) (not (a == last)) rest in
    both_ways (not (a == last)) (ap not (eq-eqb a last at)) free

same-flags : (a b : Bool) → a ≡ false → b ≡ false → beq a b ≡ true
same-flags true b e f = absurd cc
same-flags false true e f = absurd cc
same-flags false false e f = refl

-- what is known of the plugs of one segment
pub record AreOf (segment least most : ℕ) (ps : List Plug) : Type 0 where
  pub segments : (p : Plug) → IsIn p ps → p.segment ≡ segment
  pub ages : (p : Plug) → IsIn p ps → (least ≤ p.generation) × (p.generation ≤ most)
  pub rise : IsRisingBy (λ (p : Plug). p.start) ps
  pub fall : (p q : Plug) → IsIn p ps → IsIn q ps → p.start < q.start → q.generation ≤ p.generation
  pub sized : (p : Plug) → IsIn p ps → 24 ≤ p.size

tail-of : (segment least most : ℕ) (p : Plug) (ps : List Plug) → AreOf segment least most (p ∷ ps)
    → AreOf segment least p.generation ps
tail-of segment least most p ps s = record {
  segments = λ q i. s.segments q (later i);
  ages = λ q i. (
    (s.ages q (later i)).0,
    s.fall p q first (later i) (all_at (λ (w : Plug). p.start < w.start) i
        s.rise.0),
  );
  rise = s.rise.1;
  fall = λ q r i j. s.fall q r (later i) (later j);
  sized = λ q i. s.sized q (later i);
}

stepped-on : (segment least most last begin below : ℕ) (ps : List Plug) → AreOf segment least most ps → AreMaximal ps
    → ((p : Plug) (qs : List Plug) → ps ≡ p ∷ qs → p.pinned ≡ false → is_to_push last begin below p.start ≡ true
    → p.generation < most) → AreStepped least most last begin below ps
stepped-on segment least most last begin below [] s m head = tt
stepped-on segment least most last begin below (p ∷ ps) s m head = (
  (s.ages p first).0,
  (s.ages p first).1,
  head p ps refl,
  stepped-on segment least p.generation
      (pushed_end last begin below p) begin (plug_end p) ps (tail-of segment least most p ps s) (rest ps m)
      (next ps m s),
)
  where
    rest : (qs : List Plug) → AreMaximal (p ∷ qs) → AreMaximal qs
    rest [] m = tt
    rest (q ∷ qs) m = m.1

    -- a push where the plug before it isn't pinned
    after : (q : Plug) (a b : Bool) → p.pinned ≡ a
        → is_to_push (if a then plug_end p else (if b then p.start else last)) begin (plug_end p) q.start ≡ true
        → (q.start ≡ plug_end p) × (a ≡ false)
    after q true b is t = absurd (not-to-push (plug_end p) begin (plug_end p) q.start
        (eqb-true q.start (plug_end p) (and_parts (q.start == plug_end p) (not (q.start == begin)
        && not (q.start == plug_end p)) t).0) t)
    after q false b is t = (
      eqb-true q.start (plug_end p) (and_parts (q.start == plug_end p) (not (q.start == begin)
          && not (q.start == (if b then p.start else last))) t).0,
      refl,
    )

    next : (qs : List Plug) → AreMaximal (p ∷ qs) → AreOf segment least most (p ∷ qs) → (q : Plug) (ws : List Plug)
        → qs ≡ q ∷ ws → q.pinned ≡ false → is_to_push (pushed_end last begin below p) begin (plug_end p) q.start ≡ true
        → q.generation < p.generation
    next [] m s q ws e off t = let P : List Plug → Type 0 = λ xs. IsIn q xs in elim (subst P (sym e) first) [ ]
    next (r ∷ qs) m s q ws e off t =
        let same : r ≡ q = heads e in
        let (touch, free) = after q p.pinned (is_to_push last begin below p.start) refl t in
        let fall : q.generation ≤ p.generation = subst (λ (w : Plug). w.generation ≤ p.generation) same
        (s.fall p r first (later first) s.rise.0.0) in
        let segment_is : p.segment ≡ q.segment = s.segments p first
        ∙ sym (subst (λ (w : Plug). w.segment ≡ segment) same (s.segments r (later first))) in
        let apart : touches p q ≡ false = subst (λ (w : Plug). touches p w ≡ false) same m.0 in
        elim (cases_eq p.generation q.generation) [
          | inl age ↦ absurd (both_ways (touches p q) apart
              (and_from ((p.start + p.size == q.start) && (p.segment == q.segment)) ((p.generation == q.generation)
              && beq p.pinned q.pinned)
              (and_from (p.start + p.size == q.start) (p.segment == q.segment)
              (eq-eqb (p.start + p.size) q.start (sym touch)) (eq-eqb p.segment q.segment segment_is))
              (and_from (p.generation == q.generation) (beq p.pinned q.pinned) (eq-eqb p.generation q.generation age)
              (same-flags p.pinned q.pinned free off))))
          | inr other ↦ omega (arith, fall, other)
        ]
      where
        heads : {x y : Plug} {xs ys : List Plug} → x ∷ xs ≡ y ∷ ys → x ≡ y
        heads e = cc

-- the plugs of a stretch, before which nothing stands at the segment's first place
pub pushes-one-age : (segment age last begin : ℕ) (ks : List Survivor) → AreOf segment age age (plugs_of ks)
    → pushes_for last begin begin (plugs_of ks) ≤ pinned_count (plugs_of ks)
pushes-one-age segment age last begin ks s =
    let t = stepped-on segment age age last begin begin (plugs_of ks) s (plugs-maximal ks)
    (λ p qs e off t. absurd (never p t)) in
    let n = few-pushes age age last begin begin (plugs_of ks) (omega arith) t in
    omega (arith, n)
  where
    never : (p : Plug) → is_to_push last begin begin p.start ≡ true → ⊥
    never p t =
        let (here, rest) = and_parts (p.start == begin) (not (p.start == begin) && not (p.start == last)) t in
        let (other, free) = and_parts (not (p.start == begin)) (not (p.start == last)) rest in
        both_ways (not (p.start == begin)) (ap not here) other

-- and those of a stretch of several generations
pub pushes-aged : (segment least most last begin below : ℕ) (ks : List Survivor) → least ≤ most
    → AreOf segment least most (plugs_of ks) → pushes_for last begin below (plugs_of ks) + least ≤ pinned_count
    (plugs_of ks) + (most + 1)
pushes-aged segment least most last begin below ks l s =
    let wide : AreOf segment least (most + 1) (plugs_of ks) = record {
      segments = s.segments;
      ages = λ p i. ((s.ages p i).0, let m = (s.ages p i).1 in omega (arith, m));
      rise = s.rise;
      fall = s.fall;
      sized = s.sized;
    } in
    few-pushes least (most + 1) last begin below (plugs_of ks) (omega (arith, l))
    (stepped-on segment least (most + 1) last begin below (plugs_of ks) wide (plugs-maximal ks)
    (λ p qs e off t. let P : List Plug → Type 0 = λ xs. IsIn p xs in let m = (s.ages p (subst P (sym e) first)).1 in
    omega (arith, m)))
