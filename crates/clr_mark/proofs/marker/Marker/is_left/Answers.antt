use Rattle.std.proofs.Common.{ap, ◌∙◌, not}
use Rattle.clr_view.proofs.ObjectItems.{stands_word}
use Rattle.clr_mark.proofs.LeftObjects.{left-new}
use Rattle.clr_mark.proofs.marker.Marker.is_left.Goals as goal

pub is_new-requires : goal.is_new-requires
is_new-requires c =
    stands_word c.args.types.now c.args.heap.now c.args.obj c.requires.held c.requires.stands

pub returns : goal.returns
returns c =
    ap not c.is_new.ensures ∙ left-new c.args.types.now c.args.heap.now c.args.self.now.oldest c.args.obj
    c.requires.stands
