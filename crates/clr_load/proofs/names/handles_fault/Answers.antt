-- Handle by handle.
use Rattle.std.proofs.Common.{ℕ, ◌+◌, ◌*◌, refl, sym, ◌∙◌}
use Rattle.clr_types.specs.declared.handle.Handle.{Handle}
use Rattle.clr_types.specs.declared.handle.Kind.TheVariants.{Strong}
use Rattle.clr_format.specs.NameTests.{handle_tests}
use Rattle.clr_load.proofs.NameSteps.{all_pass, here_fails, here_passes, same_start}
use Rattle.clr_load.proofs.names.handles_fault.Goals as goal

no_handle : ℕ × Handle
no_handle = (0, record { kind = Strong; target = 0; second = 0 })

pub loop-i-init : goal.loop-i-init
loop-i-init c items starts = refl

pub returns-in-Some : goal.returns-in-Some
returns-in-Some c items starts =
    let i = c.loop-i.i in
    sym (sym (same_start 32 (handle_tests items) c.args.o c.args.handles.now) ∙ sym (c.loop-i.invariant items starts)
    ∙ here_fails 32 (handle_tests items) c.args.o c.args.handles.now _ i (c.args.o + 32 * i + c.in-Some.d)
    c.loop-i-test.true (sym (c.in-Some.ensures.part items starts 0 (c.args.o + 32 * i))))

pub loop-i-preserved : goal.loop-i-preserved
loop-i-preserved c items starts =
    let i = c.loop-i.i in
    sym (here_passes 32 (handle_tests items) c.args.o c.args.handles.now _ i c.loop-i-test.true
    (sym (c.in_default.ensures.part items starts 0 (c.args.o + 32 * i))))
    ∙ c.loop-i.invariant items starts

pub returns : goal.returns
returns c items starts =
    sym (sym (same_start 32 (handle_tests items) c.args.o c.args.handles.now) ∙ sym (c.loop-i.invariant items starts)
    ∙ all_pass 32 (handle_tests items) c.args.o c.args.handles.now no_handle c.loop-i.i c.loop-i-test.false)
