use Rattle.std.proofs.Common.{ℕ, ◌≤◌, ◌-◌, ◌/◌, length, sym, ap, ◌∙◌, subst}
use Rattle.clr_types.specs.Bits.{unmarked}
use Rattle.clr_types.specs.Types.{mt_of}
use Rattle.clr_types.specs.declared.item.Item.{Item}
use Rattle.clr_heap.specs.ObjectKinds.{known_size}
use Rattle.clr_heap.specs.View.{word_of}
use Rattle.clr_heap.proofs.ObjectKinds.{item-known, item-number}
use Rattle.clr_heap.proofs.heap.Heap.item_like_word.Goals as goal

pub returns-in-Some-clause-item : goal.returns-in-Some-clause-item
returns-in-Some-clause-item c =
    let word = c.requires.mt in
    let number = c.of_mt.ensures ∙ ap (λ (w : ℕ). (w - mt_of 0) / 64) (c.unmarked.ensures ∙ ap unmarked word) in
    item-known c.args.types.now (word_of c.args.self.now) c.args.a c.of_mt.result.0 c.in-Some.size c.args.known.now
    c.requires.known (sym c.in-Some.is ∙ c.size_with.ensures ∙ ap (known_size c.args.known.now) word) number

pub kind_behind-requires : goal.kind_behind-requires
kind_behind-requires c =
    let number = ap (λ (i : Item). i.type_id.0) c.item_of_word-found.ensures
    ∙ item-number c.args.types.now (word_of c.args.self.now) c.args.a in
    let P : ℕ → Type 0 = λ n. n ≤ length c.args.types.now in
    record {
      number = subst P (sym number) c.requires.item.names.known;
      known = c.requires.known;
      told = (word_of c.args.self.now, c.args.a, c.item_of_word-found.ensures, c.requires.mt);
    }
