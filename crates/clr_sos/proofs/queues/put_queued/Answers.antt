-- The words come one by one, and the item tells the object's type.
use Rattle.std.proofs.Common.{ℕ, ◌++◌, ◌∷◌, [], ap, ◌∙◌}
use Rattle.clr_nums.specs.Numbers.{hex16}
use Rattle.clr_types.specs.Types.{name_of}
use Rattle.clr_model.specs.Sos.{line}
use Rattle.clr_sos.proofs.LineParts.{queued_parts}
use Rattle.clr_sos.proofs.QueuedObjects.{type-at}
use Rattle.clr_sos.proofs.queues.put_queued.Goals as goal

pub returns : goal.returns
returns c =
    rw (
      c.in_ok-extend_from_slice.ensures.items,
      c.in_ok-put_words-2.ensures,
      c.in_ok-put_address.ensures,
      c.in_ok-put_words.ensures,
      c.name.ensures,
    )
    (queued_parts c.args.text.now.items c.args.word.now (hex16 c.args.place) _
    ∙ ap (λ (type : ℕ). c.args.text.now.items
    ++ line (c.args.word.now ∷ hex16 c.args.place ∷ name_of c.args.types.now type ∷ []))
    (type-at c.args.types.now c.args.heap.now c.args.place c.object_item-item.result c.object_item-item.ensures))
