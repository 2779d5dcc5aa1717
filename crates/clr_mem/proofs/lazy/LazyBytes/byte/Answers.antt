use Rattle.std.proofs.Common.{◌∙◌}
use Rattle.clr_mem.proofs.Padding.{read-byte}
use Rattle.clr_mem.proofs.lazy.LazyBytes.byte.Goals as goal

pub returns : goal.returns
returns c =
    let m = c.self.inside in
    rw (← c.self.view_is)
    (record {
      value = c.load_byte.ensures.value ∙ read-byte m.size m.stored.items c.args.at;
      fits = λ j. rw (← read-byte m.size m.stored.items j) (c.load_byte.ensures.fits j);
    })
