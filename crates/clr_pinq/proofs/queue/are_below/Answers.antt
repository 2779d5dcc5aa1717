use Rattle.std.proofs.Common.{◌-◌, ◌+◌, ◌∙◌, sym, arith}
use Rattle.std.proofs.lemmas.Bool.{leb-false, leb-true}
use Rattle.clr_pinq.proofs.Lookups.{all_above, all_below}
use Rattle.clr_pinq.proofs.queue.are_below.Goals as goal

pub returns-clause-yes : goal.returns-clause-yes
returns-clause-yes c told i d low =
    let within = c.requires.within in
    let some = c.if-n-eq0.false in
    all_below c.args.entries.now.items (c.args.n - 1) c.args.a c.index.result.now c.requires.rising
    (omega (arith, within, some)) c.index.ensures
    (leb-true c.index.result.now.end (c.args.a + 8) (sym c.is_below.ensures ∙ told)) i d (omega (arith, low, some))

pub returns-clause-no : goal.returns-clause-no
returns-clause-no c told =
    let within = c.requires.within in
    let some = c.if-n-eq0.false in (
      omega (arith, some),
      all_above c.args.entries.now.items (c.args.n - 1) c.args.a c.index.result.now c.requires.rising
          (omega (arith, within, some)) c.index.ensures
          (leb-false c.index.result.now.end (c.args.a + 8) (sym c.is_below.ensures ∙ told)),
    )
