use Rattle.std.proofs.Common.{◌∙◌}
use Rattle.clr_mem.proofs.Inside.{plain, read_word}
use Rattle.clr_mem.proofs.Mem.word_beyond.Goals as goal

pub returns-in-None : goal.returns-in-None
returns-in-None c =
    let m = c.self.inside in
    let p = plain m.base m.bytes m.far _ c.in-None.is c.self.view_is c.self.invariant.stored in
    c.word-in-None.ensures ∙ read_word c.args.at m.bytes c.args.self.now.words p c.requires
