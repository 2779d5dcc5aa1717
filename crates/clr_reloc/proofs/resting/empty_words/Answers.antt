use Rattle.std.proofs.Common.{◌+◌, ◌*◌, arith}
use Rattle.clr_reloc.proofs.resting.empty_words.Goals as goal

pub first_reference-requires-clause-words : goal.first_reference-requires-clause-words
first_reference-requires-clause-words c = λ j l.
    let both = c.min.ensures in
    c.requires.words j (omega (arith, l, both))

pub first_reference-requires-clause-segment : goal.first_reference-requires-clause-segment
first_reference-requires-clause-segment c = λ j l.
    let both = c.min.ensures in
    c.requires.segment j (omega (arith, l, both))

pub returns-clause-empty : goal.returns-clause-empty
returns-clause-empty c = λ j l.
    let a = c.args.object.now.found.place + c.args.offset in
    let met = c.first_reference.ensures.most in
    let both = c.min.ensures in
    let left = c.saturating_sub-plain.ensures in
    record {
      plain = c.next_saved.ensures.plain (a + 8 * j) (omega arith) (omega (arith, l, met, both, left));
      none = c.first_reference.ensures.before j l;
    }
