-- The words come one by one.
use Rattle.std.proofs.Common.{decimal}
use Rattle.clr_model.specs.Looks.{dead_words}
use Rattle.clr_shows.proofs.StatLines.{stat_parts}
use Rattle.clr_shows.proofs.stats.put_stat.Goals as goal

pub returns : goal.returns
returns c =
    let s = c.args.stat in
    rw (
      c.in_ok-extend_from_slice-2.ensures.items,
      c.in_ok-put_dead.ensures,
      c.in_ok-put_word_number-3.ensures,
      c.in_ok-put_word_number-2.ensures,
      c.in_ok-put_word_number.ensures,
      c.in_ok-extend_from_slice.ensures.items,
    )
    (stat_parts c.args.text.now.items c.args.name.now (decimal s.objects) (decimal s.bytes) (decimal s.free)
    (dead_words c.args.unrooted s.dead))
