use Rattle.std.proofs.Common.{arith}
use Rattle.clr_mem.proofs.Inside.{plain, plain-after, write_byte}
use Rattle.clr_mem.proofs.Mem.set_byte_beyond.Goals as goal

pub set_byte-requires : goal.set_byte-requires
set_byte-requires c =
    let m = c.self.inside in
    let p = plain m.base m.bytes m.far _ c.in-None.is c.self.view_is c.self.invariant.stored in
    let size = p.size in
    let inside = c.requires in
    omega (arith, size, inside)

pub returns-in-None : goal.returns-in-None
returns-in-None c =
    let m = c.self.inside in
    let p = plain m.base m.bytes m.far _ c.in-None.is c.self.view_is c.self.invariant.stored in
    let size = p.size in
    let inside = c.requires in
    let after = c.set_byte.new.self in
    plain-after m.base m.bytes m.far _ c.in-None.is c.self.view_is after _
    (write_byte c.args.at m.bytes c.args.self.now.words p c.args.v c.set_byte.ensures.fits
    (omega (arith, size, inside)) after c.set_byte.ensures.items)
