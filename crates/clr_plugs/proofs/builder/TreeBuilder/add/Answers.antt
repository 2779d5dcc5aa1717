use Rattle.std.proofs.Common.{◌≡◌, ℕ, suc, ◌+◌, ◌*◌, ◌/◌, ◌%◌, ◌<◌, ◌≤◌, List, [], ◌∷◌, ◌++◌, length, take, set, ap}
use Rattle.std.proofs.Common.{sym, ◌∙◌, subst, arith}
use Rattle.std.specs.List.{AllByRecursion}
use Rattle.std.proofs.Math.Seq.{take-suc-set}
use Rattle.std.proofs.lemmas.List.{length-take-le}
use Rattle.clr_plugs.specs.Builders.{AreOffsets, BuilderView, IsBuilder, places_from}
use Rattle.clr_plugs.proofs.Building.{IsPushed, pushed}
use Rattle.clr_plugs.proofs.builder.TreeBuilder.add.Goals as goal

-- a builder with its fields, to which a plug can be added
record IsAddable (brick : ℕ) (offsets : List ℕ) (count plug : ℕ) : Type 0 where
  pushed : IsPushed (brick * 4096) (take count offsets) (plug % 4096)
  below : count < 171
  stored : take (count + 1) (set offsets count (plug % 4096)) ≡ take count offsets ++ (plug % 4096) ∷ []
  place : plug ≡ brick * 4096 + plug % 4096

addable : (now : BuilderView) (brick : ℕ) (offsets : List ℕ) (count plug : ℕ) → IsBuilder brick offsets count
    → length offsets ≡ 171
    → ◌≡◌ {A = BuilderView} (record { brick = brick; plugs = places_from (brick * 4096) (take count offsets) }) now
    → plug / 4096 ≡ now.brick → AllByRecursion (λ p. p + 24 ≤ plug) now.plugs → IsAddable brick offsets count plug
addable now brick offsets count plug is len view at above =
    let same = ap (λ (v : BuilderView). v.brick) view in
    let plugs = ap (λ (v : BuilderView). v.plugs) view in
    let place : plug ≡ brick * 4096 + plug % 4096 = omega (arith, at, same) in
    let P : List ℕ → Type 0 = λ xs. AllByRecursion (λ p. p + 24 ≤ plug) xs in
    let p = pushed (brick * 4096) (take count offsets) (plug % 4096) plug is.offsets place (omega arith)
    (subst P (sym plugs) above) in
    let most = p.most in
    let many = is.most in
    let n : length (take count offsets) ≡ count = length-take-le count offsets (omega (arith, len, many)) in
    let below : count < 171 = omega (arith, most, n) in
    let here : count < length offsets = omega (arith, below, len) in
    let one : count + 1 ≡ suc count = omega arith in
    record {
      pushed = p;
      below = below;
      stored = ap (λ (m : ℕ). take m (set offsets count (plug % 4096))) one
          ∙ take-suc-set offsets count (plug % 4096) here;
      place = place;
    }

pub bounds-self-inside-self-inside : goal.bounds-self-inside-self-inside
bounds-self-inside-self-inside c =
    (addable c.args.self.now c.self.inside.brick c.self.inside.offsets c.self.inside.count c.args.plug c.self.invariant
    c.self.told c.self.view_is c.requires.brick c.requires.above).below

pub invariant_of-self : goal.invariant_of-self
invariant_of-self c =
    let a = addable c.args.self.now c.self.inside.brick c.self.inside.offsets c.self.inside.count c.args.plug
    c.self.invariant c.self.told c.self.view_is c.requires.brick c.requires.above in
    let P : List ℕ → Type 0 = AreOffsets in
    let below = a.below in
    record {
      most = omega (arith, below);
      offsets = subst P (sym a.stored) a.pushed.offsets;
      fits = c.self.invariant.fits;
    }

pub returns : goal.returns
returns c =
    let a = addable c.args.self.now c.self.inside.brick c.self.inside.offsets c.self.inside.count c.args.plug
    c.self.invariant c.self.told c.self.view_is c.requires.brick c.requires.above in
    let base = c.self.inside.brick * 4096 in
    let plugs = ap (λ (v : BuilderView). v.plugs) c.self.view_is in
    let brick = ap (λ (v : BuilderView). v.brick) c.self.view_is in
    let list = ap (λ (xs : List ℕ). places_from base xs) a.stored ∙ a.pushed.places
    ∙ ap (λ (p : ℕ). places_from base (take c.self.inside.count c.self.inside.offsets) ++ p ∷ []) (sym a.place)
    ∙ ap (λ (xs : List ℕ). xs ++ c.args.plug ∷ []) plugs in
    λ i. record { brick = brick i; plugs = list i }
