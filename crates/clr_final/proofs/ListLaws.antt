-- Verdicts and moves that a function tells.
use Rattle.std.proofs.Common.{◌≡◌, ◌⊎◌, ℕ, suc, ◌<◌, ◌≤◌, Bool, true, false, ltb, cond, List, [], ◌∷◌, ◌++◌, map}
use Rattle.std.proofs.Common.{filter, length, get_or, MatchBool, inl, inr, refl, sym, ap, ◌∙◌, arith}
use Rattle.std.proofs.lemmas.Bool.{ltb-false, ltb-true}
use Rattle.std.specs.List.{AllZip}
use Rattle.clr_final.specs.declared.verdict.Verdict.{Verdict}
use Rattle.clr_final.specs.declared.verdict.Verdict.TheVariants.{Alive}
use Rattle.clr_final.specs.Laws.{MovingLaw, JudgingLaw}
use Rattle.clr_final.specs.Queues.{ArePlacesJudged, is_alive, IsMoved, is_woken, with_verdict}

by-match : (b : Bool) (P Q : Type 0) → MatchBool b P Q → ((b ≡ true) × P) ⊎ ((b ≡ false) × Q)
by-match true P Q p = inl (refl, p)
by-match false P Q q = inr (refl, q)

-- what a function tells at each index, and below `low` by itself
module _ {A : Type 0} (low : ℕ) (tells : ℕ → A) (early : ℕ → A) (answers : ℕ → A → Type 0)
    (settled : (place : ℕ) → place < low → tells place ≡ early place) where
  told-one : (place : ℕ) (a : A) → (low ≤ place → answers place a → a ≡ tells place)
      → MatchBool (ltb place low) (a ≡ early place) (answers place a) → a ≡ tells place
  told-one place a told is = go (by-match (ltb place low) _ _ is)
    where
      go : ((ltb place low ≡ true) × (a ≡ early place)) ⊎ ((ltb place low ≡ false) × answers place a) → a ≡ tells place
      go (inl p) = p.1 ∙ sym (settled place (ltb-true place low p.0))
      go (inr p) = told (ltb-false place low p.0) p.1

  told-all : (xs : List ℕ) (ys : List A)
      → ((i : ℕ) (a : A) → i < length xs → low ≤ get_or xs i 0 → answers (get_or xs i 0) a → a ≡ tells (get_or xs i 0))
      → AllZip (λ place a. MatchBool (ltb place low) (a ≡ early place) (answers place a)) xs ys → ys ≡ map tells xs
  told-all [] [] told all = refl
  told-all [] (y ∷ ys) told all = absurd all
  told-all (x ∷ xs) [] told all = absurd all
  told-all (x ∷ xs) (y ∷ ys) told all =
      let first = told-one x y (told 0 y (omega arith)) all.0 in
      let rest = told-all xs ys (λ i a inside. told (suc i) a (omega (arith, inside))) all.1 in
      λ i. first i ∷ rest i

with_verdict-map : (is : Verdict → Bool) (verdict : ℕ → Verdict) (xs : List ℕ)
    → with_verdict is xs (map verdict xs) ≡ filter (λ place. is (verdict place)) xs
with_verdict-map is verdict [] = refl
with_verdict-map is verdict (x ∷ xs) =
    ap (λ rest. cond (is (verdict x)) (x ∷ rest) rest) (with_verdict-map is verdict xs)

-- entries that are sorted by a function's verdicts
pub judged-is_filter : (answers : ℕ → Verdict → Type 0) (low : ℕ) (verdict : ℕ → Verdict)
    (old new ready ready' : List ℕ) → ArePlacesJudged answers low old new ready ready'
    → ((i : ℕ) (v : Verdict) → i < length old → low ≤ get_or old i 0 → answers (get_or old i 0) v
    → v ≡ verdict (get_or old i 0)) → ((place : ℕ) → place < low → verdict place ≡ Alive)
    → (new ≡ filter (λ place. is_alive (verdict place)) old)
    × (ready' ≡ ready ++ filter (λ place. is_woken (verdict place)) old)
judged-is_filter answers low verdict old new ready ready' sorted told settled =
    let verdicts = told-all low verdict (λ place. Alive) answers settled old sorted.verdicts told sorted.judged in (
      sorted.alive ∙ ap (with_verdict is_alive old) verdicts ∙ with_verdict-map is_alive verdict old,
      sorted.woken ∙ ap (λ vs. ready ++ with_verdict is_woken old vs) verdicts
          ∙ ap (λ xs. ready ++ xs) (with_verdict-map is_woken verdict old),
    )

-- places that a function moves
pub moved-is_map : (answers : ℕ → ℕ → Type 0) (low : ℕ) (to : ℕ → ℕ) (old new : List ℕ)
    → AllZip (IsMoved answers low) old new
    → ((i moved : ℕ) → i < length old → low ≤ get_or old i 0 → answers (get_or old i 0) moved
    → moved ≡ to (get_or old i 0)) → ((place : ℕ) → place < low → to place ≡ place) → new ≡ map to old
moved-is_map answers low to old new all told settled = told-all low to (λ place. place) answers settled old new told all

pub sorting-law : JudgingLaw
sorting-law low verdict old new ready ready' sorted settled =
    judged-is_filter (λ place v. v ≡ verdict place) low verdict old new ready ready' sorted
    (λ i v inside high told. told) settled

pub moving-law : MovingLaw
moving-law low to old new all settled =
    moved-is_map (λ place moved. moved ≡ to place) low to old new all (λ i moved inside high told. told) settled
