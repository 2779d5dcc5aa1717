-- The first check that fails, or what is asked for: an array has references just where it has series of them.
use Rattle.std.proofs.Common.{◌∙◌, arith, refl, sym}
use Rattle.clr_types.specs.Types.{form_at, size_of}
use Rattle.clr_runtime.specs.PinnedBirths.{IsPinnableType}
use Rattle.clr_runtime.proofs.PinnedForms.{beyond, plain_by, refers_by}
use Rattle.clr_runtime.proofs.pinned_births.measure_pinned.Goals as goal
use Rattle.clr_runtime.proofs.pinned_births.measure_pinned.Goals.{Else-not-is_empty}

pub returns-then-not-is_empty : goal.returns-then-not-is_empty
returns-then-not-is_empty c =
    let array = sym c.has_length.ensures ∙ c.if-not-has_length.false in (
      c.in-Some.type_id.0,
      c.in-Some.ensures.0,
      array,
      refers_by (form_at c.args.types.now c.in-Some.type_id.0) array c.series.result.now c.series.ensures
          (sym c.is_empty.ensures ∙ c.if-not-is_empty.true),
    )

-- the type is one that may be pinned
pinnable : (c : Else-not-is_empty) → IsPinnableType c.args.types.now c.args.name.now c.in-Some.type_id.0
pinnable c =
    let array = sym c.has_length.ensures ∙ c.if-not-has_length.false in
    record {
      known = c.in-Some.ensures.0;
      array = array;
      plain = plain_by (form_at c.args.types.now c.in-Some.type_id.0) array c.series.result.now c.series.ensures
          (sym c.is_empty.ensures ∙ c.if-not-is_empty.false);
    }

pub returns-then-local-ge-LOCALS_OF_A_THREAD : goal.returns-then-local-ge-LOCALS_OF_A_THREAD
returns-then-local-ge-LOCALS_OF_A_THREAD c =
    let at = goal.at.returns-then-local-ge-LOCALS_OF_A_THREAD c in
    (c.in-Some.type_id.0, pinnable at.Else-not-is_empty, c.if-local-ge-LOCALS_OF_A_THREAD.true)

pub returns-in-Some-size_of : goal.returns-in-Some-size_of
returns-in-Some-size_of c =
    let at = goal.at.returns-in-Some-size_of c in
    let (most, same) = c.in-Some-size_of.ensures in
    record {
      suited = pinnable at.Else-not-is_empty;
      local = c.if-local-ge-LOCALS_OF_A_THREAD.false;
      len_is = refl;
      size_is = same;
      most = omega (arith, most, same);
      entry = refl;
    }

pub returns-in-None : goal.returns-in-None
returns-in-None c =
    let at = goal.at.returns-in-None c in (
      c.in-Some.type_id.0,
      pinnable at.Else-not-is_empty,
      c.if-local-ge-LOCALS_OF_A_THREAD.false,
      beyond (size_of (form_at c.args.types.now c.in-Some.type_id.0) c.args.len) 1073741824 c.in-None.ensures,
    )
