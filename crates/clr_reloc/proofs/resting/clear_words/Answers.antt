use Rattle.std.proofs.Common.{◌+◌, ◌-◌, ◌*◌, ◌/◌, arith}
use Rattle.clr_covers.proofs.Finding.{share_covered}
use Rattle.clr_reloc.proofs.resting.clear_words.Goals as goal

pub is_set-requires : goal.is_set-requires
is_set-requires c =
    let some = c.requires.some in
    share_covered c.args.cards.now (c.args.a / 2048) (c.args.a / 2048)
    (c.requires.row c.args.a c.args.a (omega arith) (omega (arith, some)) (omega arith) (omega (arith, some)))

pub next_run-requires : goal.next_run-requires
next_run-requires c less =
    c.requires.row c.args.a (c.args.a + 8 * c.args.count - 1) (omega arith) less (omega (arith, less))
    (omega (arith, less))
