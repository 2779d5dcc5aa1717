-- Threads that begin one after the other what they had begun.
use Rattle.std.proofs.Common.{◌≡◌, ℕ, suc, ◌+◌, ◌-◌, ◌<◌, ◌≤◌, List, [], ◌∷◌, ◌++◌, get_or, length, map, replicate, set}
use Rattle.std.proofs.Common.{take, refl, ap, sym, ◌∙◌, arith, length-take-le, append-nil, Option}
use Rattle.std.proofs.lemmas.List.{take_all, take_more}
use Rattle.clr_types.specs.Types.{TypeRow}
use Rattle.clr_sos.specs.declared.step.Step.{Step}
use Rattle.clr_sos.specs.declared.step.Step.TheVariants.{Idle}
use Rattle.clr_safe.specs.Threads.{Threads}
use Rattle.clr_safe.specs.declared.begun.Begun.{Begun}
use Rattle.clr_safe.specs.declared.begun.Begun.TheVariants.{Nothing}
use Rattle.clr_open.specs.Begun.{begun_of}
use Rattle.clr_open.proofs.FrontLayouts.{done-more, set-middle}

abbrev begun_to : List TypeRow → List Step → ℕ → List Begun
begun_to rows steps i = map (begun_of rows) (take i steps) ++ replicate (16 - i) Nothing

-- the first i threads have begun what they had, and the others nothing
abbrev pub AreBegunTo : List TypeRow → Option ℕ → List Step → ℕ → Threads → Type 0
AreBegunTo rows holder steps i threads =
    threads ≡ record { begun = map (begun_of rows) (take i steps) ++ replicate (16 - i) Nothing; holder = holder }

module _ (rows : List TypeRow) (holder : Option ℕ) (steps : List Step) (count : length steps ≡ 16) where
  map-count : (xs : List Step) → length (map (begun_of rows) xs) ≡ length xs
  map-count [] = refl
  map-count (x ∷ xs) = ap suc (map-count xs)

  -- one more
  pub begun-more : (i : ℕ) (threads new : Threads) (what : Begun) → i < length steps
      → AreBegunTo rows holder steps i threads → what ≡ begun_of rows (get_or steps i Idle)
      → new ≡ record threads { begun = set threads.begun (i + 1 - 1) what } → AreBegunTo rows holder steps (i + 1) new
  begun-more i threads new what low is same next =
      let done = take i steps in
      let s = get_or steps i Idle in
      let left : 16 - i ≡ suc (16 - (i + 1)) = omega (arith, count, low) in
      let many = length-take-le i steps (omega (arith, low)) in
      let mapped = map-count done in
      let index : i + 1 - 1 ≡ length (map (begun_of rows) done) = omega (arith, many, mapped) in
      let begun : set threads.begun (i + 1 - 1) what ≡ begun_to rows steps (i + 1) =
      (λ j. set ((is j).begun) (index j) (same j))
      ∙ ap (λ (n : ℕ). set (map (begun_of rows) done ++ replicate n Nothing) (length (map (begun_of rows) done))
      (begun_of rows s)) left
      ∙ set-middle (map (begun_of rows) done) Nothing (replicate (16 - (i + 1)) Nothing) (begun_of rows s)
      ∙ sym (done-more (begun_of rows) done s (replicate (16 - (i + 1)) Nothing))
      ∙ ap (λ (ss : List Step). map (begun_of rows) ss ++ replicate (16 - (i + 1)) Nothing)
      (sym (take_more steps i Idle low)) in
      let held = ap (λ (t : Threads). t.holder) is in
      next ∙ (λ j. record { begun = begun j; holder = held j })

  -- all
  pub begun-all : (i : ℕ) (threads : Threads) → length steps ≤ i → AreBegunTo rows holder steps i threads
      → threads ≡ record { begun = map (begun_of rows) steps; holder = holder }
  begun-all i threads past is =
      let none : 16 - i ≡ 0 = omega (arith, count, past) in
      let all = take_all i steps past in
      is ∙ (λ j. record { begun = map (begun_of rows) (all j) ++ replicate (none j) Nothing; holder = holder })
      ∙ ap (λ (bs : List Begun). let t : Threads = record { begun = bs; holder = holder } in t)
      (append-nil (map (begun_of rows) steps))
