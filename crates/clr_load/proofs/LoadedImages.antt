-- What both passes say of the bytes.
use Rattle.std.proofs.Common.{◌≡◌, ℕ, List, map, Option, Some, None, Err}
use Rattle.std.proofs.Common.{◌∙◌, ap}
use Rattle.clr_sos.specs.CheckedCells.{or_else}
use Rattle.clr_fields.specs.Fields.{found}
use Rattle.clr_fields.specs.declared.fault.LoadFault.{LoadFault}
use Rattle.clr_fields.specs.declared.fault.LoadFault.TheVariants.{At, NoMemory}
use Rattle.clr_format.specs.Images.{fields_of, HasFault, IsImage, image_of, judged, Parts, tests_in, unless_failed}
use Rattle.clr_format.specs.NameTests.{first_failed, reference_test}
use Rattle.clr_load.specs.KeptParts.{ReadsParts}
use Rattle.clr_load.specs.Loading.{IsLoaded}
use Rattle.clr_load.specs.TableTests.{first_in_tables}
use Rattle.clr_load.specs.Wholes.{IsWholeOr}
use Rattle.clr_load.proofs.PassedTests.{tests_are}
use Rattle.clr_load.proofs.ReadImages.{parts_found}

module _ (bytes : List ℕ) where
  -- a fault of the first pass
  pub fields_fail : (e : LoadFault) → ReadsParts bytes (Err e) → IsLoaded bytes (Err e)
  unfolding image_of
  fields_fail (At o) e = record { is = ap judged e }
  fields_fail NoMemory e = tt

  module _ (p : Parts) (n : ℕ) (fields : fields_of bytes ≡ found p n) where
    second_pass : image_of bytes ≡ unless_failed p n (first_failed (tests_in p))
    unfolding image_of
    second_pass = ap judged fields

    -- a fault of the second pass
    pub tests_fail : (o : ℕ) → first_failed (tests_in p) ≡ Some o → HasFault bytes o
    tests_fail o bad = record { is = second_pass ∙ ap (unless_failed p n) bad }

    -- none at all
    pub tests_pass : first_failed (tests_in p) ≡ None → IsImage bytes p
    tests_pass good = record {
      is =
          second_pass ∙ ap (unless_failed p n) good
          ∙ ap (found p) (parts_found bytes p n fields).rest.end;
    }

    -- a bad reference comes before all others
    references_first : (o : ℕ) → first_failed (map (reference_test p.body.items) p.body.references) ≡ Some o
        → first_failed (tests_in p) ≡ Some o
    references_first o bad =
        tests_are p
        ∙ ap (λ (f : Option ℕ). or_else f (first_in_tables p.rest p.types p.body.heap p.body.items)) bad

    pub whole_fails : (e : LoadFault) → IsWholeOr bytes p (Err e) → IsLoaded bytes (Err e)
    whole_fails (At o) bad = tests_fail o (references_first o bad)
    whole_fails NoMemory bad = absurd bad
