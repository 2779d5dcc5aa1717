-- The line stands at the front of the array.
use Rattle.std.proofs.Common.{arith, length-append, length-drop, ℕ, ◌∙◌}
use Rattle.std.proofs.lemmas.List.{take-append-le}
use Rattle.clr_session.proofs.pending.put_reply_line.Goals as goal

pub returns-in-Some-clause-text : goal.returns-in-Some-clause-text
returns-in-Some-clause-text c =
    take-append-le c.put_reply.result c.put_reply.new.into _ (omega (arith, length-append {A = ℕ}, length-drop {A = ℕ}))
    ∙ c.put_reply.ensures.text
