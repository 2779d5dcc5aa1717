-- The words come one by one.
use Rattle.std.proofs.Common.{[], decimal}
use Rattle.clr_nums.specs.Numbers.{hex16}
use Rattle.clr_sos.proofs.ViewNames.{sound_view}
use Rattle.clr_paths.proofs.HeldTexts.{retained-shown, retained_parts}
use Rattle.clr_paths.proofs.held.text_of.Goals as goal

pub retained_by-requires : goal.retained_by-requires
retained_by-requires c = sound_view c.args.view.now c.requires

pub returns : goal.returns
returns c = λ m shown.
    retained-shown c.args.view.now m shown c.args.a c.in_ok-sum.sum c.in_ok-sum.ensures _
    (rw (
      c.in_ok-extend_from_slice.ensures.items,
      c.in_ok-put_word_number-2.ensures,
      c.in_ok-put_word_number.ensures,
      c.in_ok-put_word_address.ensures,
      c.new-text.ensures.items,
    )
    (retained_parts [] (hex16 c.args.a) (decimal c.in_ok-sum.sum.objects) (decimal c.in_ok-sum.sum.bytes)))
