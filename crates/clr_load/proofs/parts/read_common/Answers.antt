-- Types, the heap and the rest, one behind the other.
use Rattle.std.proofs.Common.{ℕ, List, Err, sym, ◌∙◌, ap, subst, refl}
use Rattle.clr_fields.specs.Finds.{Tells}
use Rattle.std.proofs.lemmas.Result.{err_from_is_err_and}
use Rattle.clr_fields.specs.Fields.{Found}
use Rattle.clr_load.specs.Bodies.{IsBody}
use Rattle.clr_format.specs.HeapFields.{heap_fields}
use Rattle.clr_format.specs.Images as images
use Rattle.clr_format.specs.Images.{rest_fields}
use Rattle.clr_load.specs.KeptParts.{IsParts}
use Rattle.clr_load.specs.ReadTables.{rest_of}
use Rattle.clr_load.specs.declared.parts.Kept.{Kept}
use Rattle.clr_load.specs.declared.rest.Rest.{Rest}
use Rattle.clr_load.proofs.BodySteps.{same_bytes}
use Rattle.clr_load.proofs.PartSteps.{all_found, heap_fails, rest_fails, types_fail}
use Rattle.clr_load.proofs.parts.read_common.Goals as goal

pub returns-in_err-types : goal.returns-in_err-types
returns-in_err-types c =
    let p = err_from_is_err_and c.from_residual.result c.from_residual.ensures.1 in
    rw (p.1, p.2)
    (types_fail c.args.head c.args.reader.now.bytes c.args.reader.now.at _ Kept (IsParts c.args.reader.now.bytes)
    (λ rows. rows) c.in_err-types.field-0.0 _ _ c.in_err-types.ensures.tells)

pub read_heap-requires-clause-empty : goal.read_heap-requires-clause-empty
read_heap-requires-clause-empty c = c.in_ok-body.ensures.empty c.read_types.new.reader.bytes c.in_ok-types.types

pub returns-in_err-read_heap : goal.returns-in_err-read_heap
returns-in_err-read_heap c =
    let p =
    err_from_is_err_and c.from_residual-in_err-read_heap.result c.from_residual-in_err-read_heap.ensures.1 in
    let rows = c.in_ok-types.types in
    let P = λ (bs : List ℕ). IsBody bs rows c.read_heap.new.body in
    let told =
    same_bytes P (heap_fields c.args.head rows) c.args.reader.now c.read_types.new.reader c.read_heap.new.reader _
    c.in_ok-types.ensures.bytes c.in_err-read_heap.ensures in
    rw (p.1, p.2)
    (heap_fails c.args.head c.args.reader.now.bytes c.args.reader.now.at rows c.read_types.new.reader.at
    c.in_ok-types.ensures.tells (Unit {0}) Kept (IsParts c.args.reader.now.bytes) (P c.args.reader.now.bytes)
    c.in_err-read_heap.field-0.0 _ _ told.1)

pub returns-in_err-rest : goal.returns-in_err-rest
returns-in_err-rest c =
    let p = err_from_is_err_and c.from_residual-in_err-rest.result c.from_residual-in_err-rest.ensures.1 in
    let rows = c.in_ok-types.types in
    let P = λ (bs : List ℕ). IsBody bs rows c.read_heap.new.body in
    let told =
    same_bytes P (heap_fields c.args.head rows) c.args.reader.now c.read_types.new.reader c.read_heap.new.reader _
    c.in_ok-types.ensures.bytes c.in_ok-read_heap.ensures in
    let tells =
    ap (λ (bs : List ℕ). rest_fields c.args.head rows bs c.read_heap.new.reader.at) (sym told.0) in
    rw (p.1, p.2)
    (rest_fails c.args.head c.args.reader.now.bytes c.args.reader.now.at rows c.read_types.new.reader.at
    c.in_ok-types.ensures.tells told.1.0 c.read_heap.new.reader.at told.1.1 Rest Kept
    (IsParts c.args.reader.now.bytes) rest_of c.in_err-rest.field-0.0 _ _
    (subst (λ (f : Found images.Rest). Tells {B = Rest} rest_of f (Err c.in_err-rest.field-0.0)
    c.read_rest.new.reader.at)
    (sym tells) c.in_err-rest.ensures.tells))

pub returns : goal.returns
returns c =
    let rows = c.in_ok-types.types in
    let P = λ (bs : List ℕ). IsBody bs rows c.read_heap.new.body in
    let told =
    same_bytes P (heap_fields c.args.head rows) c.args.reader.now c.read_types.new.reader c.read_heap.new.reader _
    c.in_ok-types.ensures.bytes c.in_ok-read_heap.ensures in
    let tells =
    ap (λ (bs : List ℕ). rest_fields c.args.head rows bs c.read_heap.new.reader.at) (sym told.0)
    ∙ c.in_ok-rest.ensures.tells in (
      record { head = c.args.head; types = rows; body = told.1.0; rest = rest_of c.in_ok-rest.rest },
      all_found
          c.args.head c.args.reader.now.bytes c.args.reader.now.at rows c.read_types.new.reader.at
          c.in_ok-types.ensures.tells told.1.0 c.read_heap.new.reader.at told.1.1 (rest_of c.in_ok-rest.rest)
          c.read_rest.new.reader.at tells,
      record { head = refl; types = refl; body = told.1.2; rest = refl },
    )
