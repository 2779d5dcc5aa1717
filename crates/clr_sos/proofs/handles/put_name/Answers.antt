-- The words come one by one.
use Rattle.std.proofs.Common.{refl}
use Rattle.clr_sos.proofs.handles.put_name.Goals as goal

pub returns : goal.returns
returns c =
    rw (
      c.in_ok-extend_from_slice.ensures.items,
      c.in_ok-put_words.ensures,
      c.in_ok-put_word_number.ensures,
      c.kind_text.ensures,
    )
    refl
