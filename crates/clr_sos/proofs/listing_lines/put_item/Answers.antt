-- The words come one by one, the first three at once.
use Rattle.clr_sos.proofs.ShownLines.{head_parts}
use Rattle.clr_sos.proofs.listing_lines.put_item.Goals as goal

pub returns : goal.returns
returns c =
    rw (
      c.in_ok-extend_from_slice-2.ensures.items,
      c.in_ok-extend_from_slice.ensures.items,
      c.in_ok-put_head.ensures,
      c.mt.ensures,
      c.name.ensures,
    )
    (head_parts _ _ _ _ _)
