use Rattle.clr_mem.proofs.Digits.{byte-below, byte-fits, byte-replaced}
use Rattle.clr_mem.proofs.with_byte.Goals as goal

pub overflow_sub-result : goal.overflow_sub-result
overflow_sub-result c =
    byte-below c.args.word c.args.k c.args.v c.byte_of.result c.ranges.word.fits c.ranges.v.fits c.requires
    c.byte_of.ensures

pub overflow_add-result : goal.overflow_add-result
overflow_add-result c =
    record {
      fits =
          byte-fits c.args.word c.args.k c.args.v c.byte_of.result c.ranges.word.fits c.ranges.v.fits c.requires
          c.byte_of.ensures;
    }

pub returns : goal.returns
returns c =
    byte-replaced c.args.word c.args.k c.args.v c.byte_of.result c.ranges.word.fits c.ranges.v.fits c.requires
    c.byte_of.ensures
