-- The words come one by one.
use Rattle.clr_sos.proofs.PlaceLines.{place_parts, type-told}
use Rattle.clr_sos.proofs.roots.put_place_line.Goals as goal

pub returns : goal.returns
returns c =
    rw (
      c.in_ok-extend_from_slice.ensures.items,
      c.in_ok-put_words.ensures,
      c.in_ok-put_address.ensures,
      c.name.ensures,
      type-told c.args.view.now c.args.place c.object_item-item.result c.object_item-item.ensures,
    )
    (place_parts _ _ _)
