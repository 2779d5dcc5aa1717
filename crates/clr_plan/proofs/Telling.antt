-- The plans of all parts tell the moves of the whole plan.
use Rattle.std.proofs.lemmas.List.{append-nil}
use Rattle.std.proofs.Common.{◌≡◌, inl, inr, ℕ, zero, suc, ◌+◌, ◌-◌, ◌<◌, ◌≤◌, List, [], ◌∷◌, ◌++◌}
use Rattle.std.proofs.Common.{refl, sym, ap, ap₂, ◌∙◌, arith, Bool, true, false, if◌then◌else◌}
use Rattle.std.proofs.Common.{pos, negsuc, append_assoc}
use Rattle.std.specs.List.{AllByRecursion}
use Rattle.std.proofs.lemmas.Bool.{cases_lt, le-leb, lt-leb}
use Rattle.clr_types.specs.Rising.{first, IsIn, later}
use Rattle.clr_heap.specs.View.{HeapView, segment_at}
use Rattle.clr_model.specs.Compaction.{Move, Plug, plug_end}
use Rattle.clr_plugs.specs.Plans.{back_number, PlannedPart, PlannedPlug}
use Rattle.clr_moves.specs.Moves.{takes}
use Rattle.clr_moves.specs.declared.condemned.Condemned.{Condemned}
use Rattle.clr_moves.specs.Told.{end_before, GoesDown, moves_at, moves_from, moves_of}
use Rattle.clr_plan.specs.PartLists.{AreFor, moves_in}
use Rattle.clr_plan.specs.LaidParts.{end_behind, planned_plugs}
use Rattle.clr_plan.specs.Writes.{distance_of}
use Rattle.clr_plan.proofs.Homes.{AreGapped}

-- ---- how far a plug goes

told-back : (start to : ℕ) → to ≤ start → start - back_number (distance_of start to) ≡ to
told-back start to l = elim (cases_lt to start) [
  | inl u ↦ ap (λ (b : Bool). start - back_number (if b then pos (to - start) else negsuc (start - to - 1)))
      (lt-leb start to u) ∙ omega (arith, u)
  | inr u ↦ ap (λ (b : Bool). start - back_number (if b then pos (to - start) else negsuc (start - to - 1)))
      (le-leb start to u) ∙ omega (arith, u, l)
]

goes-down : (start gap to : ℕ) → to ≤ start
    → GoesDown (record { start = start; gap = gap; distance = distance_of start to })
goes-down start gap to l = elim (cases_lt to start) [
  | inl u ↦ inr (
    start - to - 1,
    ap (λ (b : Bool). if b then pos (to - start) else negsuc (start - to - 1))
        (lt-leb start to u),
    omega (arith, u),
  )
  | inr u ↦ let none : to - start ≡ 0 = omega (arith, l) in
      inl (ap (λ (b : Bool). if b then pos (to - start) else negsuc (start - to - 1)) (le-leb start to u) ∙ ap pos none)
]

abbrev pub AreDown : List Move → Type 0
AreDown vs = AllByRecursion (λ (v : Move). v.to ≤ v.start) vs

pub plans-down : (below : ℕ) (ps : List Plug) (vs : List Move) → AreFor ps vs → AreDown vs → (x : PlannedPlug)
    → IsIn x (planned_plugs below ps vs) → GoesDown x
plans-down below [] [] f d x i = elim i [ ]
plans-down below [] (v ∷ vs) f d x i = absurd f
plans-down below (p ∷ ps) [] f d x i = absurd f
plans-down below (p ∷ ps) (v ∷ vs) f d x first = let s = f.0 in let l = d.0 in goes-down p.start (p.start - below) v.to
    (omega (arith, s, l))
plans-down below (p ∷ ps) (v ∷ vs) f d x (later i) = plans-down (plug_end p) ps vs f.2 d.1 x i

-- ---- the moves of one part

before-is : (below : ℕ) (ps : List Plug) (vs : List Move) → AreFor ps vs → AreGapped below ps
    → end_before (planned_plugs below ps vs) (end_behind below ps) ≡ below
before-is below [] [] f g = refl
before-is below [] (v ∷ vs) f g = absurd f
before-is below (p ∷ ps) [] f g = absurd f
before-is below (p ∷ ps) (v ∷ vs) f g = let a = g.0 in omega arith

pub moves-told : (below : ℕ) (ps : List Plug) (vs : List Move) → AreFor ps vs → AreDown vs → AreGapped below ps
    → moves_of (planned_plugs below ps vs) (end_behind below ps) ≡ vs
moves-told below [] [] f d g = refl
moves-told below [] (v ∷ vs) f d g = absurd f
moves-told below (p ∷ ps) [] f d g = absurd f
moves-told below (p ∷ ps) (v ∷ vs) f d g =
    let start = f.0 in
    let size = f.1 in
    let l = d.0 in
    let ends = before-is (plug_end p) ps vs f.2 g.1 in
    let to = told-back p.start v.to (omega (arith, start, l)) in
    let sized : end_before (planned_plugs (plug_end p) ps vs) (end_behind (plug_end p) ps) - p.start ≡ v.size =
    omega (arith, ends, size) in
    let head : record {
      start = p.start;
      size = end_before (planned_plugs (plug_end p) ps vs)
          (end_behind (plug_end p) ps) - p.start;
      to = p.start - back_number (distance_of p.start v.to);
    } ≡ v =
    λ i. record { start = sym start i; size = sized i; to = to i } in
    ap₂ (λ (w : Move) (ws : List Move). w ∷ ws) head (moves-told (plug_end p) ps vs f.2 d.1 g.1)

-- the last of the plugs
pub record HasLast (below : ℕ) (ps : List Plug) (start : ℕ) : Type 0 where
  pub others : List Plug
  pub plug : Plug
  pub split : ps ≡ others ++ plug ∷ []
  pub start_is : start ≡ plug.start
  pub ends : end_behind below ps ≡ plug_end plug

pub last-of-plans : (below : ℕ) (ps : List Plug) (vs : List Move) (xs : List PlannedPlug) (x : PlannedPlug)
    → AreFor ps vs → planned_plugs below ps vs ≡ xs ++ x ∷ [] → HasLast below ps x.start
last-of-plans below [] [] [] x f e = absurd cc
last-of-plans below [] [] (y ∷ xs) x f e = absurd cc
last-of-plans below [] (v ∷ vs) xs x f e = absurd f
last-of-plans below (p ∷ ps) [] xs x f e = absurd f
last-of-plans below (p ∷ []) (v ∷ []) [] x f e = record {
  others = [];
  plug = p;
  split = refl;
  start_is =
      sym (ap (λ (y : PlannedPlug). y.start) (heads e));
  ends = refl;
}
  where
    heads : {a b : PlannedPlug} {xs ys : List PlannedPlug} → a ∷ xs ≡ b ∷ ys → a ≡ b
    heads e = cc
last-of-plans below (p ∷ []) (v ∷ []) (y ∷ []) x f e = absurd cc
last-of-plans below (p ∷ []) (v ∷ []) (y ∷ (w ∷ xs)) x f e = absurd cc
last-of-plans below (p ∷ []) (v ∷ (u ∷ vs)) xs x f e = absurd f.2
last-of-plans below (p ∷ (q ∷ ps)) (v ∷ []) xs x f e = absurd f.2
last-of-plans below (p ∷ (q ∷ ps)) (v ∷ (u ∷ vs)) [] x f e = absurd cc
last-of-plans below (p ∷ (q ∷ ps)) (v ∷ (u ∷ vs)) (y ∷ xs) x f e =
    let r = last-of-plans (plug_end p) (q ∷ ps) (u ∷ vs) xs x f.2 (tails e) in
    record {
      others = p ∷ r.others;
      plug = r.plug;
      split = ap (λ ws. p ∷ ws) r.split;
      start_is = r.start_is;
      ends = r.ends;
    }
  where
    tails : {a b : PlannedPlug} {xs ys : List PlannedPlug} → a ∷ xs ≡ b ∷ ys → xs ≡ ys
    tails e = cc

-- ---- of all parts

module _ (old now : HeapView) (g : Condemned) (parts : ℕ → PlannedPart) (lasts : ℕ → ℕ) (each : ℕ → List Move)
    (same : (t : ℕ) → takes g (segment_at now t) ≡ takes g (segment_at old t)) where
  from-more : (t n : ℕ)
      → moves_from now g parts lasts t (suc n) ≡ moves_from now g parts lasts t n
      ++ moves_at now g parts lasts (t + n)
  from-more t zero =
      append-nil (moves_at now g parts lasts t)
      ∙ ap (moves_at now g parts lasts) (omega arith)
  from-more t (suc n) =
      ap (λ ws. moves_at now g parts lasts t ++ ws) (from-more (suc t) n)
      ∙ sym (append_assoc (moves_at now g parts lasts t)
      (moves_from now g parts lasts (suc t) n)
      (moves_at now g parts lasts (suc t + n)))
      ∙ ap (λ k. moves_from now g parts lasts t (suc n) ++ moves_at now g parts lasts k)
      (omega arith)

  here : (t : ℕ) → (takes g (segment_at old t) ≡ true → moves_of (parts t).plugs (lasts t) ≡ each t)
      → moves_at now g parts lasts t ≡ (if takes g (segment_at old t) then each t else [])
  here t told = ap (λ (b : Bool). if b then moves_of (parts t).plugs (lasts t) else []) (same t)
      ∙ go (takes g (segment_at old t)) refl
    where
      go : (b : Bool) → takes g (segment_at old t) ≡ b
          → (if b then moves_of (parts t).plugs (lasts t) else [])
          ≡ (if b then each t else [])
      go true on = told on
      go false off = refl

  pub told-below : (k : ℕ)
      → ((t : ℕ) → t < k → takes g (segment_at old t) ≡ true → moves_of (parts t).plugs (lasts t)
      ≡ each t) → moves_from now g parts lasts 0 k ≡ moves_in old g each k
  told-below zero told = refl
  told-below (suc k) told =
      let n : 0 + k ≡ k = omega arith in
      from-more 0 k ∙ ap₂ (λ xs ys. xs ++ ys) (told-below k (λ t l. told t (omega arith)))
      (ap (moves_at now g parts lasts) n ∙ here k (told k (omega arith)))

  -- segments above have no part
  pub told-above : (k d : ℕ) → ((t : ℕ) → k ≤ t → t < k + d → takes g (segment_at old t) ≡ false)
      → moves_from now g parts lasts 0 (k + d) ≡ moves_from now g parts lasts 0 k
  told-above k zero off = ap (moves_from now g parts lasts 0) (omega arith)
  told-above k (suc d) off =
      let n : k + suc d ≡ suc (k + d) = omega arith in
      let m : 0 + (k + d) ≡ k + d = omega arith in
      ap (moves_from now g parts lasts 0) n ∙ from-more 0 (k + d)
      ∙ ap₂ (λ xs ys. xs ++ ys) (told-above k d (λ t l u. off t l (omega arith)))
      (ap (moves_at now g parts lasts) m
      ∙ ap (λ (b : Bool). if b then moves_of (parts (k + d)).plugs (lasts (k + d))
      else []) (same (k + d) ∙ off (k + d) (omega arith) (omega arith)))
      ∙ append-nil (moves_from now g parts lasts 0 k)
