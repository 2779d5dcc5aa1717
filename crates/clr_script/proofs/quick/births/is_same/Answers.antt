-- The first four bytes and the last four tell the whole texts.
use Rattle.std.proofs.Common.{arith, sym, ◌∙◌}
use Rattle.clr_types.proofs.SameTexts.{same_front, same_back, same_text}
use Rattle.clr_script.proofs.quick.births.is_same.Goals as goal

pub returns-then-eq : goal.returns-then-eq
returns-then-eq c same =
    let text = c.args.text.now in
    let other = c.args.other.now in
    same_text text other 4 (omega arith) (omega arith) (omega arith)
    (same_front text other c.first_chunk.result c.first_chunk-2.result 4 (omega arith)
    c.first_chunk.ensures.cases c.first_chunk-2.ensures.cases (sym c.eq.ensures ∙ c.if-eq.true))
    (same_back text other c.last_chunk.result c.last_chunk-then-eq.result 4 (omega arith)
    c.last_chunk.ensures.cases c.last_chunk-then-eq.ensures.cases (sym c.eq-then-eq.ensures ∙ same))
