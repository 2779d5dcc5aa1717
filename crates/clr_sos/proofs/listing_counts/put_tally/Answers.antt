-- The words come one by one.
use Rattle.std.proofs.Common.{◌∙◌, ◌++◌, ap}
use Rattle.clr_sos.proofs.ShownLines.{item_parts}
use Rattle.clr_sos.proofs.Tallies.{tally-line_some}
use Rattle.clr_sos.proofs.listing_counts.put_tally.Goals as goal

pub returns : goal.returns
returns c =
    rw (
      c.in_ok-extend_from_slice.ensures.items,
      c.in_ok-put_words.ensures,
      c.in_ok-put_word_number-2.ensures,
      c.in_ok-put_word_number.ensures,
      c.in_ok-put_address.ensures,
      c.mt.ensures,
      c.name.ensures,
    )
    (item_parts _ _ _ _ _ ∙ ap (λ back. c.args.text.now.items ++ back)
    (tally-line_some c.args.types.now c.args.t.0 c.args.tally c.if-tally-eq0.false))
