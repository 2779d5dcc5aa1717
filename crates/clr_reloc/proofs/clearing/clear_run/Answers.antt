use Rattle.std.proofs.Common.{◌+◌, ◌*◌, ◌/◌, ◌∙◌, refl, arith}
use Rattle.clr_covers.proofs.Finding.{share_covered}
use Rattle.clr_covers.proofs.Spans.{is_covered-spans}
use Rattle.clr_reloc.proofs.ClearedCards.{cleared_both, cleared_card, cleared_none, cleared_part}
use Rattle.clr_reloc.proofs.clearing.clear_run.Goals as goal

pub loop-at-init : goal.loop-at-init
loop-at-init c = record { low = omega arith; cleared = cleared_none c.args.cards.now c.args.lo }

pub clear-requires : goal.clear-requires
clear-requires c =
    let low = c.loop-at.invariant.low in
    let less = c.loop-at-test.true in
    is_covered-spans c.loop-at.cards c.args.cards.now (c.loop-at.at / 2048) c.loop-at.invariant.cleared.spans
    ∙ share_covered c.args.cards.now (c.loop-at.at / 2048) (c.loop-at.at / 2048)
    (c.requires.row c.loop-at.at c.loop-at.at low (omega (arith, less)) low (omega (arith, less)))

pub loop-at-preserved : goal.loop-at-preserved
loop-at-preserved c =
    let low = c.loop-at.invariant.low in record {
      low = omega (arith, low);
      cleared = cleared_both c.args.cards.now c.loop-at.cards c.clear.new.self c.args.lo c.loop-at.at
          ((c.loop-at.at / 2048 + 1) * 2048) c.loop-at.invariant.cleared
          (cleared_card c.loop-at.cards c.clear.new.self c.loop-at.at ((c.loop-at.at / 2048 + 1) * 2048)
          c.clear.ensures.cards c.clear.ensures.spans refl);
    }

pub returns : goal.returns
returns c =
    let done = c.loop-at-test.false in
    cleared_part c.args.cards.now c.loop-at.cards c.args.lo c.loop-at.at c.args.hi c.loop-at.invariant.cleared
    (omega (arith, done))
