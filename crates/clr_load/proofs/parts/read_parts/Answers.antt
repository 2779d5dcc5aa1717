-- The head, and then what both versions have.
use Rattle.std.proofs.Common.{◌≡◌, ℕ, List, Err, ◌∙◌, ap, subst}
use Rattle.std.proofs.lemmas.Result.{err_from_is_err_and}
use Rattle.clr_fields.specs.Fields.{found}
use Rattle.clr_fields.specs.Finds.{Reading, Tells}
use Rattle.clr_format.specs.Images.{common_fields, head_fields}
use Rattle.clr_load.specs.KeptParts.{IsParts, Keeps}
use Rattle.clr_format.specs.declared.head.Head.{Head}
use Rattle.clr_load.proofs.PartSteps.{first_fails, first_found}
use Rattle.clr_load.proofs.parts.read_parts.Goals as goal

pub returns-in_err-head : goal.returns-in_err-head
returns-in_err-head c =
    let p = err_from_is_err_and c.from_residual.result c.from_residual.ensures.1 in
    rw (p.1, p.2)
    (first_fails c.args.bytes.now Head (λ h. h) c.is_first.result c.in_err-head.field-0.0 c.read_head.new.reader.at
    c.is_first.ensures
    (subst (λ (r : Reading). Tells {B = Head} (λ h. h) (head_fields c.is_first.result r.bytes r.at)
    (Err c.in_err-head.field-0.0) c.read_head.new.reader.at) c.new-reader.ensures c.in_err-head.ensures.finds.tells))

pub returns : goal.returns
returns c =
    let head = c.in_ok-head.head in
    let mid = c.read_head.new.reader in
    let same : mid.bytes ≡ c.args.bytes.now =
    c.in_ok-head.ensures.finds.bytes ∙ ap (λ (r : Reading). r.bytes) c.new-reader.ensures in
    first_found c.args.bytes.now c.is_first.result head mid.at c.read_common.new.reader.at c.read_common.result
    c.is_first.ensures
    (subst (λ (r : Reading). head_fields c.is_first.result r.bytes r.at ≡ found head mid.at) c.new-reader.ensures
    c.in_ok-head.ensures.finds.tells)
    (subst (λ (bs : List ℕ). Keeps (IsParts bs) (common_fields head bs mid.at) c.read_common.result
    c.read_common.new.reader.at) same
    c.read_common.ensures)
