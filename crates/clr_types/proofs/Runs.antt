-- Runs of references, found from the front.
use Rattle.std.proofs.Common.{◌≡◌, ℕ, zero, suc, ◌+◌, ◌-◌, ◌≤◌, List, ◌∷◌, ◌++◌, map, drop, Bool, true, false}
use Rattle.clr_types.specs.Types.{is_reference}
use Rattle.clr_types.specs.Descriptors.{Run, leading, runs_from, runs_of, series_of_run}
use Rattle.clr_types.specs.declared.descriptors.Series.{Series}

-- the runs that end at slot i or after it, where so many references stand right before slot i and the slots from it on
-- are these
abbrev pub runs_ahead : ℕ → ℕ → List Bool → List Run
runs_ahead zero i kinds = runs_from false i kinds
runs_ahead (suc n) i kinds = record { first = i - suc n; count = suc n + leading kinds } ∷ runs_from true i kinds

-- the series found up to slot i, before which so many references stand
pub record IsRunning (offset size : ℕ) (pattern : List ℕ) (i references : ℕ) (series : List Series) : Type 0 where
  pub found : series ++ map (series_of_run offset size) (runs_ahead references i (map is_reference (drop i pattern)))
      ≡ map (series_of_run offset size) (runs_of (map is_reference pattern))
  pub few : references ≤ i
