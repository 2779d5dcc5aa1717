-- The words at the place of an object spell its item.
use Rattle.std.proofs.Common.{sym, ◌∙◌, subst}
use Rattle.clr_types.specs.declared.item.Item.{Item}
use Rattle.clr_view.specs.SlotValues.{IsObjectAt}
use Rattle.clr_sos.proofs.ObjectHeads.{head-has, head-item, head-near, head-room}
use Rattle.clr_sos.proofs.Seen.{numbered}
use Rattle.clr_sos.proofs.reach.item_in.Goals as goal

pub word_at-mt-requires-clause-word : goal.word_at-mt-requires-clause-word
word_at-mt-requires-clause-word c =
    (numbered c.args.view.now c.requires.sound c.args.place c.requires.stands).word

pub item_of_word-requires : goal.item_of_word-requires
item_of_word-requires c = record {
  item = head-has c.args.view.now c.requires.sound c.args.place c.requires.stands;
  mt = c.word_at-mt.ensures;
  segment = c.requires.segment ∙ head-near c.args.view.now c.requires.sound c.args.place c.requires.stands;
  room = head-room c.args.view.now c.requires.sound c.args.place c.requires.stands;
}

pub returns : goal.returns
returns c = subst (λ (i : Item). IsObjectAt c.args.view.now.types.now c.args.view.now.heap.now c.args.place i)
    (sym c.item_of_word.ensures) (head-item c.args.view.now c.requires.sound c.args.place c.requires.stands)
