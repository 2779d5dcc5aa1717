-- The words come one by one.
use Rattle.clr_sos.proofs.LineParts.{segment_parts}
use Rattle.clr_sos.proofs.segments.put_segment.Goals as goal

pub returns : goal.returns
returns c =
    rw (
      c.in_ok-extend_from_slice.ensures.items,
      c.in_ok-put_boundaries.ensures,
      c.in_ok-put_word_number.ensures,
      c.in_ok-put_word_address-2.ensures,
      c.in_ok-put_words.ensures,
      c.in_ok-put_word_address.ensures,
      c.kind_text.ensures,
    )
    (segment_parts _ _ _ _ _ _)
