-- What is reached is told by a test, where edges and starts are listed.
use Rattle.std.proofs.Common.{◌≡◌, ℕ, ◌⊎◌, inl, inr, List, [], ◌∷◌, refl, sym, subst, ◌∙◌, ap, Bool, true, false}
use Rattle.std.proofs.Common.{if◌then◌else◌, ◌==◌}
use Rattle.std.specs.List.{list_any}
use Rattle.std.proofs.lemmas.Bool.{eqb-true, eq-eqb, both_ways}
use Rattle.clr_types.specs.Rising.{IsIn, first, later, Tests}
use Rattle.clr_types.proofs.RisingLists.{in_cons}
use Rattle.clr_types.proofs.ListMembers.{any-from, any-in}
use Rattle.clr_model.specs.Reach.{Reach, starts, follows}

-- an edge from one node to another
pub record Arc : Type 0 where
  pub from : ℕ
  pub to : ℕ

-- the list has an edge from x to y
abbrev pub ArcIn : List Arc → ℕ → ℕ → Type 0
ArcIn arcs x y = (a : Arc) × IsIn a arcs × (a.from ≡ x) × (a.to ≡ y)

-- what the edges reach from the starts: one edge more adds what is reached from its end, where its beginning is reached
abbrev pub reached_by : List Arc → List ℕ → ℕ → Bool
reached_by [] from x = list_any (λ s. s == x) from
reached_by (a ∷ arcs) from x =
    if reached_by arcs from a.from then reached_by arcs (a.to ∷ from) x else reached_by arcs from x

-- ---- what the test says is reached

-- what is reached from what is reached, by more edges
reach_into : {edge more : ℕ → ℕ → Type 0} {start other : ℕ → Type 0} → ((s : ℕ) → start s → Reach more other s)
    → ((x y : ℕ) → edge x y → more x y) → (x : ℕ) → Reach edge start x → Reach more other x
reach_into into wider x (starts s) = into x s
reach_into into wider y (follows {x} r e) = follows (reach_into into wider x r) (wider x y e)

wider_arcs : (a : Arc) (arcs : List Arc) (x y : ℕ) → ArcIn arcs x y → ArcIn (a ∷ arcs) x y
wider_arcs a arcs x y (b, i, e, f) = (b, later i, e, f)

reached-sound : (arcs : List Arc) (from : List ℕ) (x : ℕ) → reached_by arcs from x ≡ true
    → Reach (ArcIn arcs) (λ s. IsIn s from) x
reached-sound [] from x t =
    let (s, i, e) = any-in (λ s. s == x) from t in starts (subst (λ n. IsIn n from) (eqb-true s x e) i)
reached-sound (a ∷ arcs) from x t = go (reached_by arcs from a.from) refl (reached-sound arcs) t
  where
    more : (s : ℕ) → Reach (ArcIn arcs) (λ s. IsIn s from) s → Reach (ArcIn (a ∷ arcs)) (λ s. IsIn s from) s
    more s r = reach_into (λ z i. starts i) (wider_arcs a arcs) s r

    begins : Reach (ArcIn arcs) (λ s. IsIn s from) a.from → (s : ℕ) → (s ≡ a.to) ⊎ IsIn s from
        → Reach (ArcIn (a ∷ arcs)) (λ s. IsIn s from) s
    begins r s (inl same) =
        let end = follows (more a.from r) (a, first, refl, refl) in
        subst (Reach (ArcIn (a ∷ arcs)) (λ s. IsIn s from)) (sym same) end
    begins r s (inr i) = starts i

    go : (b : Bool) → reached_by arcs from a.from ≡ b
        → ((other : List ℕ) (z : ℕ) → reached_by arcs other z ≡ true → Reach (ArcIn arcs) (λ s. IsIn s other) z)
        → (if b then reached_by arcs (a.to ∷ from) x else reached_by arcs from x) ≡ true
        → Reach (ArcIn (a ∷ arcs)) (λ s. IsIn s from) x
    go true e sound t =
        reach_into (λ s i. begins (sound from a.from e) s (in_cons i)) (wider_arcs a arcs) x (sound (a.to ∷ from) x t)
    go false e sound t = more x (sound from x t)

-- ---- what is reached passes the test

starts-pass : (arcs : List Arc) (from : List ℕ) (s : ℕ) → IsIn s from → reached_by arcs from s ≡ true
starts-pass [] from s i = any-from (λ n. n == s) from s i (eq-eqb s s refl)
starts-pass (a ∷ arcs) from s i =
    go (reached_by arcs from a.from) (starts-pass arcs (a.to ∷ from) s (later i)) (starts-pass arcs from s i)
  where
    go : (b : Bool) → reached_by arcs (a.to ∷ from) s ≡ true → reached_by arcs from s ≡ true
        → (if b then reached_by arcs (a.to ∷ from) s else reached_by arcs from s) ≡ true
    go true t u = t
    go false t u = u

-- the test passes at the end of an edge from where it passes
abbrev IsClosed : List Arc → (ℕ → Bool) → Type 0
IsClosed arcs test = (x y : ℕ) → test x ≡ true → ArcIn arcs x y → test y ≡ true

passes-on : (arcs : List Arc) (from : List ℕ) → IsClosed arcs (reached_by arcs from)
passes-on [] from x y t (b, i, e, f) = elim i [ ]
passes-on (a ∷ arcs) from x y t (b, i, e, f) = go (reached_by arcs from a.from) refl (passes-on arcs) t (in_cons i)
  where
    go : (c : Bool) → reached_by arcs from a.from ≡ c → ((other : List ℕ) → IsClosed arcs (reached_by arcs other))
        → (if c then reached_by arcs (a.to ∷ from) x else reached_by arcs from x) ≡ true → (b ≡ a) ⊎ IsIn b arcs
        → (if c then reached_by arcs (a.to ∷ from) y else reached_by arcs from y) ≡ true
    go true here closed t (inr j) = closed (a.to ∷ from) x y t (b, j, e, f)
    go false here closed t (inr j) = closed from x y t (b, j, e, f)
    go true here closed t (inl same) =
        let end : a.to ≡ y = sym (ap (λ (c : Arc). c.to) same) ∙ f in
        subst (λ n. reached_by arcs (a.to ∷ from) n ≡ true) end (starts-pass arcs (a.to ∷ from) a.to first)
    go false here closed t (inl same) =
        let begin : x ≡ a.from = sym e ∙ ap (λ (c : Arc). c.from) same in
        absurd (both_ways (reached_by arcs from a.from) here (subst (λ n. reached_by arcs from n ≡ true) begin t))

-- what is reached has each property that the starts have and that edges pass on
reach_least : {edge : ℕ → ℕ → Type 0} {start : ℕ → Type 0} (P : ℕ → Type 0) → ((s : ℕ) → start s → P s)
    → ((x y : ℕ) → P x → edge x y → P y) → (x : ℕ) → Reach edge start x → P x
reach_least P begin step x (starts s) = begin x s
reach_least P begin step y (follows {x} r e) = step x y (reach_least P begin step x r) e

-- ---- edges and starts that lists tell

-- the list has just what P holds of
abbrev pub Lists : List ℕ → (ℕ → Type 0) → Type 0
Lists ns P = (x : ℕ) → (P x → IsIn x ns) × (IsIn x ns → P x)

abbrev pub ListsEdges : List Arc → (ℕ → ℕ → Type 0) → Type 0
ListsEdges arcs edge = (x y : ℕ) → (edge x y → ArcIn arcs x y) × (ArcIn arcs x y → edge x y)

pub reached-tests : (arcs : List Arc) (from : List ℕ) (edge : ℕ → ℕ → Type 0) (start : ℕ → Type 0)
    → ListsEdges arcs edge → Lists from start → Tests (reached_by arcs from) (Reach edge start)
reached-tests arcs from edge start edges listed x = (
  λ t. reach_into (λ s i. starts ((listed s).1 i)) (λ y z. (edges y z).1) x (reached-sound arcs from x t),
  reach_least (λ y. reached_by arcs from y ≡ true) (λ s i. starts-pass arcs from s ((listed s).0 i))
      (λ y z t e. passes-on arcs from y z t ((edges y z).0 e)) x,
)
