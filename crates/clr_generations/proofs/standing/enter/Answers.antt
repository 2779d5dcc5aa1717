use Rattle.std.proofs.Common.{◌≡◌, ◌≢◌, ℕ, ◌+◌, ◌<◌, Bool, true, not, refl, ap, sym, ◌∙◌, subst, arith}
use Rattle.std.proofs.lemmas.Bool.{ne_eqb}
use Rattle.clr_types.specs.declared.item.Item.{Item}
use Rattle.clr_bricks.specs.Bricks.{entry_at}
use Rattle.clr_heap.specs.View.{frame, word_of}
use Rattle.clr_view.specs.View.{is_object, object_in, objects_among}
use Rattle.clr_generations.proofs.EnteredObjects.{entered-old, law-young, own-sized}
use Rattle.clr_generations.proofs.standing.enter.Goals as goal

counts : (i : Item) → i.type_id.0 ≢ 0 → is_object i ≡ true
counts i ne = ap not (ne_eqb i.type_id.0 0 ne)

pub returns-then-gen_of-gt0-clause-law : goal.returns-then-gen_of-gt0-clause-law
returns-then-gen_of-gt0-clause-law c = λ rows before after held cut law.
    let h = c.args.heap.now in
    let i = c.args.item in
    let object = counts i c.if-item-eq0.false in
    let is = c.gen_of.ensures in
    let old = c.if-gen_of-gt0.true in
    c.enter_old_newborn.ensures.bricks rows (frame h) (frame h) (objects_among rows (word_of h) before) _
    (object_in rows (word_of h) i) refl (own-sized rows h c.lawful.ensures held before i after cut object)
    (entered-old rows h c.lawful.ensures held before i after cut object c.requires.order (omega (arith, is, old))) law

pub returns-else-gen_of-gt0-clause-law : goal.returns-else-gen_of-gt0-clause-law
returns-else-gen_of-gt0-clause-law c = λ rows before after held cut law.
    let h = c.args.heap.now in
    let i = c.args.item in
    let object = counts i c.if-item-eq0.false in
    let is = c.gen_of.ensures in
    let young = c.if-gen_of-gt0.false in
    law-young rows h c.lawful.ensures held before i after cut object c.requires.order (omega (arith, is, young))
    c.args.bricks.now c.enter_newborn.new.bricks c.enter_newborn.ensures.entries law
