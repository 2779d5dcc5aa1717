use Rattle.std.proofs.Common.{◌+◌, ◌∙◌, ◌≡◌, Bool, true, false, not, refl, sym, arith}
use Rattle.std.proofs.lemmas.Bool.{leb-false, leb-true}
use Rattle.clr_pinq.proofs.Lookups.{all_above, all_below}
use Rattle.clr_pinq.proofs.queue.are_above.Goals as goal

-- what a test is whose negation is known
not_true : (b : Bool) → not b ≡ true → b ≡ false
not_true true e = absurd cc
not_true false e = refl

not_false : (b : Bool) → not b ≡ false → b ≡ true
not_false true e = refl
not_false false e = absurd cc

pub returns-clause-yes : goal.returns-clause-yes
returns-clause-yes c told =
    let within = c.requires.within in
    let some = c.if-n-len.false in
    let len = c.len.ensures in
    all_above c.args.entries.now.items c.args.n c.args.a c.index.result.now c.requires.rising
    (omega (arith, within, some, len)) c.index.ensures
    (leb-false c.index.result.now.end (c.args.a + 8) (sym c.is_below.ensures ∙ not_true c.is_below.result told))

pub returns-clause-no : goal.returns-clause-no
returns-clause-no c told =
    let within = c.requires.within in
    let some = c.if-n-len.false in
    let len = c.len.ensures in (
      omega (arith, within, some, len),
      all_below c.args.entries.now.items c.args.n c.args.a c.index.result.now c.requires.rising
          (omega (arith, within, some, len)) c.index.ensures
          (leb-true c.index.result.now.end (c.args.a + 8) (sym c.is_below.ensures ∙ not_false c.is_below.result told)),
    )
