-- An array has references just where it has series of them.
use Rattle.std.proofs.Common.{◌≡◌, ◌∙◌, ℕ, ◌<◌, ◌≤◌, ◌==◌, true, false, List, length, sym, ap, inl, inr}
use Rattle.std.proofs.lemmas.Bool.{both_ways, cases_Bool, cases_lt, eqb-true}
use Rattle.clr_types.specs.Descriptors.{series_of}
use Rattle.clr_types.specs.Types.{Form, is_array, is_array_with_references}
use Rattle.clr_types.specs.declared.descriptors.Series.{Series}
use Rattle.clr_mark.proofs.Following.{none_left}
use Rattle.clr_model.proofs.PlainSeries.{plain_series, series_refer}

module _ (form : Form) (array : is_array form ≡ true) (series : List Series) (own : series ≡ series_of form) where
  -- where there are some, it has references
  pub refers_by : (length series == 0) ≡ false → is_array_with_references form ≡ true
  refers_by some = elim (cases_Bool (is_array_with_references form)) [
    | inl refers ↦ refers
    | inr plain ↦
        absurd (both_ways (length series == 0) some
        (ap (λ (ss : List Series). length ss == 0) (own ∙ plain_series form array plain)))
  ]

  -- and where there are none, it has none
  pub plain_by : (length series == 0) ≡ true → is_array_with_references form ≡ false
  plain_by none = elim (cases_Bool (is_array_with_references form)) [
    | inl refers ↦
        absurd (series_refer form array refers (sym own ∙ none_left series (eqb-true (length series) 0 none)))
    | inr plain ↦ plain
  ]

-- a size that isn't within a bound is beyond it
pub beyond : (size most : ℕ) → (size ≤ most → ⊥) → most < size
beyond size most none = elim (cases_lt most size) [ inl over ↦ over | inr within ↦ absurd (none within) ]
