use Rattle.std.proofs.Common.{sym, ◌∙◌}
use Rattle.clr_heap.specs.View.{word_of}
use Rattle.clr_mark.proofs.RunKinds.{run_kind}
use Rattle.clr_mark.proofs.marker.kind.kind_behind.Goals as goal

pub returns-in-Some : goal.returns-in-Some
returns-in-Some c =
    run_kind c.args.types.now (word_of c.args.heap.now) c.args.obj c.args.mt c.head_at.result.0 c.in-Some.run'
    c.requires.word c.head_at.ensures.type_id (sym c.has_length.ensures ∙ c.if-has_length.false)
    c.in-Some.ensures.spelled
