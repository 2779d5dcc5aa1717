-- Name by name.
use Rattle.std.proofs.Common.{◌+◌, ◌*◌, refl, sym, ◌∙◌, arith}
use Rattle.clr_format.specs.NameTests.{name_tests}
use Rattle.clr_load.proofs.NameSteps.{all_pass, here_fails, here_passes, name_fails, name_passes, same_start}
use Rattle.clr_load.proofs.names.names_fault.Goals as goal

pub loop-i-init : goal.loop-i-init
loop-i-init c items starts = refl

pub returns-then-not-is_name : goal.returns-then-not-is_name
returns-then-not-is_name c items starts =
    let i = c.loop-i.i in
    let bad = sym (c.is_name.ensures items starts) ∙ grind (arith, c.if-not-is_name.true) in
    sym (sym (same_start 8 (name_tests items) c.args.o c.args.names.now) ∙ sym (c.loop-i.invariant items starts)
    ∙ here_fails 8 (name_tests items) c.args.o c.args.names.now 0 i (c.args.o + 8 * i) c.loop-i-test.true
    (name_fails items (c.args.o + 8 * i) _ bad))

pub loop-i-preserved : goal.loop-i-preserved
loop-i-preserved c items starts =
    let i = c.loop-i.i in
    let good = sym (c.is_name.ensures items starts) ∙ grind (arith, c.if-not-is_name.false) in
    sym (here_passes 8 (name_tests items) c.args.o c.args.names.now 0 i c.loop-i-test.true
    (name_passes items (c.args.o + 8 * i) _ good))
    ∙ c.loop-i.invariant items starts

pub returns : goal.returns
returns c items starts =
    sym (sym (same_start 8 (name_tests items) c.args.o c.args.names.now) ∙ sym (c.loop-i.invariant items starts)
    ∙ all_pass 8 (name_tests items) c.args.o c.args.names.now 0 c.loop-i.i c.loop-i-test.false)
