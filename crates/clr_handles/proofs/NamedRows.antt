-- Numbers whose handles name nothing from a bound on.
use Rattle.std.proofs.Common.{◌≡◌, ◌⊎◌, ℕ, ◌+◌, ◌*◌, ◌/◌, ◌<◌, ◌≤◌, false, leb, List, get_or, inl}
use Rattle.std.proofs.Common.{inr, ap, ◌∙◌, arith}
use Rattle.std.proofs.lemmas.Bool.{cases_lt, lt-leb, or_from}
use Rattle.std.specs.FinMap as finmap
use Rattle.clr_types.specs.declared.handle.Handle.{Handle}
use Rattle.clr_handles.specs.Tables.{Table}
use Rattle.clr_handles.specs.Places.{names_from, NoneNames}
use Rattle.clr_handles.specs.Tops.{AreTops}
use Rattle.clr_handles.proofs.TopSteps.{top-read}
use Rattle.clr_handles.proofs.ClearedRows.{below-reach, highest, IsBelow}

-- a handle that lies below `low` names nothing from there on
names-below : (low : ℕ) (row : Handle) → IsBelow low row → names_from low row ≡ false
names-below low row below =
    or_from (leb low row.target) (leb low row.second) (lt-leb low row.target below.target)
    (lt-leb low row.second below.second)

-- two ranges without a gap between them are one
pub none-joined : (table : Table) (low a b c d : ℕ) → c ≤ b → NoneNames table low a b → NoneNames table low c d
    → NoneNames table low a d
none-joined table low a b c d meet first second h row from to here = go (cases_lt h b)
  where
    go : (h < b) ⊎ (b ≤ h) → names_from low row ≡ false
    go (inl under) = first h row from under here
    go (inr over) = second h row (omega (arith, meet, over)) to here

-- what is seen of rows, and the tops of their chunks
module _ (table rows : Table) (tops : List ℕ) (low : ℕ) (seen : rows ≡ table) (are : AreTops rows tops) where
  -- the chunk of a number, where its top is below `low`
  pub none-in_chunk : (h top : ℕ) → top ≡ get_or tops (h / 64) top → low ≤ highest → top < low
      → NoneNames table low (64 * (h / 64)) (64 * (h / 64 + 1))
  none-in_chunk h top read fits less n row from to here =
      let high =
      top-read rows tops (h / 64) top are read n row from (omega (arith, to))
      (ap (λ (t : Table). finmap.get t n) seen ∙ here) in
      names-below low row (below-reach row low fits (omega (arith, high, less)))
