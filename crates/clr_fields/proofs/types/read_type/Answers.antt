-- The shape that was read is one that a type may have.
use Rattle.clr_fields.proofs.LawfulForms.{lawful_form}
use Rattle.clr_fields.proofs.types.read_type.Goals as goal

pub define-requires-clause-lawful : goal.define-requires-clause-lawful
define-requires-clause-lawful c =
    rw c.shape_with.ensures
    (lawful_form c.in_ok-shape.shape c.in_ok-mark.mark c.in_ok-len.len c.in_ok-pattern.pattern.now
    c.in_ok-shape.ensures.bound c.in_ok-mark.ensures.lawful c.in_ok-len.ensures.lawful c.in_ok-pattern.ensures.len
    c.in_ok-pattern.ensures.slots)
