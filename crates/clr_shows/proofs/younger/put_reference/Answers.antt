-- The words come one by one.
use Rattle.std.proofs.Common.{◌∙◌, ◌++◌, List, ap, decimal, ℕ}
use Rattle.clr_nums.specs.Numbers.{hex16}
use Rattle.clr_types.specs.Types.{name_of}
use Rattle.clr_model.specs.Lookups.{object_at}
use Rattle.clr_model.specs.Sos.{type_of_place}
use Rattle.clr_view.specs.View.{objects_in}
use Rattle.clr_view.proofs.Listed.{listed-known}
use Rattle.clr_shows.proofs.YoungerObjects.{line-shows}
use Rattle.clr_shows.proofs.YoungerSlots.{reference_parts}
use Rattle.clr_shows.proofs.younger.put_reference.Goals as goal

pub name-requires : goal.name-requires
name-requires c =
    listed-known c.args.view.now.types.now c.args.view.now.heap.now c.args.item.now c.requires.shown.heap
    c.requires.shown.held c.requires.listed

pub returns : goal.returns
returns c = λ m shown.
    let rows = c.args.view.now.types.now in
    let i = c.args.item.now in
    rw (
      c.in_ok-put_place_line.ensures,
      c.in_ok-extend_from_slice.ensures.items,
      c.in_ok-put_word_number.ensures,
      c.in_ok-put_words.ensures,
      c.in_ok-put_address.ensures,
      c.name.ensures,
    )
    (reference_parts c.args.text.now.items (hex16 i.place) (name_of rows i.type_id.0) (decimal c.args.i)
    (hex16 c.args.target)
    (name_of rows (type_of_place (object_at (objects_in rows c.args.view.now.heap.now) c.args.target)))
    ∙ ap (λ (line : List ℕ). c.args.text.now.items ++ line)
    (line-shows c.args.view.now m shown i c.args.i c.args.target))
