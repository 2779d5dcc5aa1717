-- The words come one by one.
use Rattle.clr_nums.specs.Numbers.{hex16}
use Rattle.clr_types.specs.Types.{name_of}
use Rattle.clr_model.specs.Looks.{defining_words}
use Rattle.clr_shows.proofs.TypeLines.{type_parts}
use Rattle.clr_shows.proofs.types.text_of.Goals as goal

pub returns : goal.returns
returns c =
    rw (
      c.in_ok-extend_from_slice.ensures.items,
      c.in_ok-put_defining.ensures,
      c.in_ok-put_words.ensures,
      c.in_ok-put_word_address.ensures,
      c.new-text.ensures.items,
      c.name.ensures,
    )
    (type_parts (hex16 c.args.mt) (name_of c.args.types.now c.args.t.0) (defining_words c.args.types.now c.args.t.0))
