-- The words come one by one.
use Rattle.clr_sos.proofs.LineParts.{handle_parts}
use Rattle.clr_sos.proofs.handles.put_handle.Goals as goal

pub returns : goal.returns
returns c =
    rw (
      c.in_ok-extend_from_slice.ensures.items,
      c.in_ok-put_second.ensures,
      c.in_ok-put_place.ensures,
      c.in_ok-put_name.ensures,
    )
    (handle_parts _ _ _ _ _)
