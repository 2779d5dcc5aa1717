-- The handles of a kind, met one by one by rising number.
use Rattle.std.proofs.Common.{◌≡◌, ◌∙◌, ℕ, ◌+◌, List, [], ◌∷◌, ◌++◌, filter, length, sym, ap, append_assoc}
use Rattle.std.proofs.Common.{length-append}
use Rattle.std.specs.List.{flat_map}
use Rattle.std.specs.FinMap as finmap
use Rattle.std.proofs.lemmas.Grind.{flat_map-append}
use Rattle.std.proofs.lemmas.List.Elements.{filter-append}
use Rattle.clr_types.specs.declared.handle.Handle.{Handle}
use Rattle.clr_types.specs.declared.handle.Kind.{Kind}
use Rattle.clr_handles.specs.Places.{IsNext}
use Rattle.clr_handles.specs.Tables.{Table}
use Rattle.clr_sos.proofs.NumberedEntries.{entries_below, entries-next, none-before}
use Rattle.clr_shows.specs.Kinds.{has_kind}

-- the handles of a kind with numbers below a bound
abbrev pub kind_below : Kind → ℕ → Table → List (ℕ × Handle)
kind_below kind bound table = filter (has_kind kind) (entries_below bound (finmap.entries table))

-- no handle has a number below 0
pub no-kind : (kind : Kind) (table : Table) → kind_below kind 0 table ≡ []
no-kind kind table = ap (filter (has_kind kind)) (none-before table)

module _ (kind : Kind) (table : Table) (from n : ℕ) (row : Handle) (next : IsNext table 0 from n row) where
  abbrev here : List (ℕ × Handle)
  here = filter (has_kind kind) ((n, row) ∷ [])

  whole : kind_below kind (n + 1) table ≡ kind_below kind from table ++ here
  whole = ap (filter (has_kind kind)) (entries-next table from n row next)
      ∙ filter-append (has_kind kind) (entries_below from (finmap.entries table)) ((n, row) ∷ [])

  -- a count of the handles of a kind, with the next handle, which is counted where it is of the kind
  pub kind-counted : (count one : ℕ) → count ≡ length (kind_below kind from table) → one ≡ length here
      → count + one ≡ length (kind_below kind (n + 1) table)
  kind-counted count one was is = (λ i. was i + is i)
      ∙ sym (ap length whole ∙ length-append (kind_below kind from table) here)

  -- the lines of the handles of a kind, with that of the next handle, where it is of the kind
  pub kind-shown : (says : ℕ × Handle → List ℕ) (text : List ℕ)
      → (text ++ flat_map says (kind_below kind from table)) ++ flat_map says here
      ≡ text ++ flat_map says (kind_below kind (n + 1) table)
  kind-shown says text =
      append_assoc text (flat_map says (kind_below kind from table)) (flat_map says here)
      ∙ ap (λ (l : List ℕ). text ++ l) (sym (ap (flat_map says) whole
      ∙ flat_map-append says (kind_below kind from table) here))
