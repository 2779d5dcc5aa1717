-- The target, and then the second.
use Rattle.std.proofs.Common.{sym, ◌∙◌}
use Rattle.clr_load.proofs.NameSteps.{handle_passes, second_fails, target_fails}
use Rattle.clr_load.proofs.names.bad_part.Goals as goal

pub returns-then-not-is_name-clause-part : goal.returns-then-not-is_name-clause-part
returns-then-not-is_name-clause-part c items starts h q =
    sym (target_fails items q (h, c.args.handle.now) (sym (c.is_name.ensures items starts) ∙ c.if-not-is_name.true))

pub returns-then-not-is_name-2-clause-part : goal.returns-then-not-is_name-2-clause-part
returns-then-not-is_name-2-clause-part c items starts h q =
    sym (second_fails items q (h, c.args.handle.now) (sym (c.is_name.ensures items starts) ∙ c.if-not-is_name.false)
    (sym (c.is_name-else-not-is_name.ensures items starts) ∙ c.if-not-is_name-2.true))

pub returns-else-not-is_name-2-clause-part : goal.returns-else-not-is_name-2-clause-part
returns-else-not-is_name-2-clause-part c items starts h q =
    sym (handle_passes items q (h, c.args.handle.now) (sym (c.is_name.ensures items starts) ∙ c.if-not-is_name.false)
    (sym (c.is_name-else-not-is_name.ensures items starts) ∙ c.if-not-is_name-2.false))
