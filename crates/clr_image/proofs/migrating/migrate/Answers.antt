use Rattle.std.proofs.Common.{◌++◌, ◌∙◌, ◌≡◌, List, ℕ, true, false, ap, refl, sym, Vec, Global}
use Rattle.clr_format.specs.Images.{is_first}
use Rattle.clr_format.specs.Saved.{migrated}
use Rattle.clr_load.proofs.ShortImages.{long_enough}
use Rattle.clr_image.proofs.migrating.migrate.Goals as goal
use Rattle.clr_image.proofs.migrating.migrate.Goals.{then-first+in_ok-put_migrated, else-first+in_ok-extend_from_slice}

pub put_migrated-requires : goal.put_migrated-requires
put_migrated-requires c =
    let (parts, is, version) = c.in_ok-first.ensures in
    long_enough c.args.bytes.now parts is (sym version ∙ c.if-first.true)

same_second : (bytes : List ℕ) → bytes ≡ migrated false bytes
unfolding migrated
same_second bytes = refl

pub returns : goal.returns
returns c =
    let (parts, is, version) = c.in_ok-first.ensures in
    elim c.if-first.branch [
      | then-first+in_ok-put_migrated w ↦
          let first : is_first c.args.bytes.now ≡ true = sym version ∙ w.if-first.true in (
            parts,
            is,
            ap (λ (v : Vec ℕ Global). v.items) w.out-is ∙ w.in_ok-put_migrated.ensures
                ∙ ap (λ bs. bs ++ migrated true c.args.bytes.now) c.in_ok-out.ensures.items
                ∙ ap (λ b. migrated b c.args.bytes.now) (sym first),
          )
      | else-first+in_ok-extend_from_slice w ↦
          let second : is_first c.args.bytes.now ≡ false = sym version ∙ w.if-first.false in (
            parts,
            is,
            ap (λ (v : Vec ℕ Global). v.items) w.out-is ∙ w.in_ok-extend_from_slice.ensures.items
                ∙ ap (λ bs. bs ++ c.args.bytes.now) c.in_ok-out.ensures.items
                ∙ same_second c.args.bytes.now
                ∙ ap (λ b. migrated b c.args.bytes.now) (sym second),
          )
    ]
