use Rattle.std.proofs.Common.{arith}
use Rattle.clr_mem.proofs.Inside.{plain, plain-after, write_word}
use Rattle.clr_mem.proofs.Mem.set_word_beyond.Goals as goal

pub set_word-requires-in-None-clause-inside : goal.set_word-requires-in-None-clause-inside
set_word-requires-in-None-clause-inside c =
    let m = c.self.inside in
    let p = plain m.base m.bytes m.far _ c.in-None.is c.self.view_is c.self.invariant.stored in
    let size = p.size in
    let start = c.requires.aligned in
    let inside = c.requires.inside in
    omega (arith, size, start, inside)

pub returns-in-None : goal.returns-in-None
returns-in-None c =
    let m = c.self.inside in
    let p = plain m.base m.bytes m.far _ c.in-None.is c.self.view_is c.self.invariant.stored in
    let size = p.size in
    let start = c.requires.aligned in
    let inside = c.requires.inside in
    let after = c.set_word-in-None.new.self in
    plain-after m.base m.bytes m.far _ c.in-None.is c.self.view_is after _
    (write_word c.args.at m.bytes c.args.self.now.words p c.args.v c.ranges.v.fits start
    (omega (arith, size, start, inside)) after c.set_word-in-None.ensures.items)
