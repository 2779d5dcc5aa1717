-- Lines that are written through a buffer.
use Rattle.std.proofs.Common.{◌≡◌, ◌∙◌, ℕ, List, ◌++◌, ap}
use Rattle.std.specs.List.{flat_map}
use Rattle.clr_types.specs.Types.{TypeRow}
use Rattle.clr_types.specs.declared.item.Item.{Item}
use Rattle.clr_model.specs.declared.Mode.TheVariants.{Full}
use Rattle.clr_model.specs.Machine.{Object}
use Rattle.clr_model.specs.Sos.{dump_by_mode, item_line}
use Rattle.clr_sos.specs.Buffered.{queue_text}
use Rattle.clr_sos.specs.Dumping.{totals_line, totals_of}
use Rattle.clr_sos.specs.declared.listing_lines.Totals.{Totals}

-- the lines of all items, and that of their totals
pub listing_all : (rows : List TypeRow) (xs items : List Item) (t : Totals) → xs ≡ items → t ≡ totals_of xs
    → flat_map (item_line rows) xs ++ totals_line t ≡ dump_by_mode Full rows items
listing_all rows xs items t all is =
    ap (λ (u : Totals). flat_map (item_line rows) xs ++ totals_line u) is
    ∙ ap (λ (is : List Item). dump_by_mode Full rows is) all

-- lists that are those of a queue have its lines
pub queue_is : (rows : List TypeRow) (objects : List Object) (some more entries ready : List ℕ) → some ≡ entries
    → more ≡ ready → queue_text rows objects some more ≡ queue_text rows objects entries ready
queue_is rows objects some more entries ready e f = λ k. queue_text rows objects (e k) (f k)
