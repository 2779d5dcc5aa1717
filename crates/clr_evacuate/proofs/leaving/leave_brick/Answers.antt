use Rattle.std.proofs.Common.{refl}
use Rattle.clr_bricks.specs.Bricks.{entry_at}
use Rattle.clr_evacuate.proofs.NextLeader.{next_named, none_named, own_covered, unnamed}
use Rattle.clr_evacuate.proofs.leaving.leave_brick.Goals as goal

pub is_named-requires : goal.is_named-requires
is_named-requires c =
    own_covered c.args.types.now c.args.heap.now c.args.place c.ephemeral-k.ensures.heap c.requires.held
    c.requires.item c.args.bricks.now c.requires.bricks

pub returns-then-not-is_named-clause-bricks : goal.returns-then-not-is_named-clause-bricks
returns-then-not-is_named-clause-bricks c = λ objects left law.
    unnamed c.args.types.now c.args.heap.now c.args.place c.ephemeral-k.ensures.heap c.requires.held c.requires.item
    objects (entry_at c.args.bricks.now) (entry_at c.args.bricks.now) c.requires.order left law
    (c.is_named.ensures.no c.if-not-is_named.true) (λ i. refl)

pub set_root-requires-clause-covered : goal.set_root-requires-clause-covered
set_root-requires-clause-covered c =
    own_covered c.args.types.now c.args.heap.now c.args.place c.ephemeral-k.ensures.heap c.requires.held
    c.requires.item c.args.bricks.now c.requires.bricks

pub set_back-requires-clause-covered : goal.set_back-requires-clause-covered
set_back-requires-clause-covered c =
    own_covered c.args.types.now c.args.heap.now c.args.place c.ephemeral-k.ensures.heap c.requires.held
    c.requires.item c.args.bricks.now c.requires.bricks

pub returns-in-Some-clause-bricks : goal.returns-in-Some-clause-bricks
returns-in-Some-clause-bricks c = λ objects left law.
    next_named c.args.types.now c.args.heap.now c.args.place c.ephemeral-k.ensures.heap c.requires.held c.requires.item
    objects (entry_at c.args.bricks.now) (entry_at c.set_root.new.self) c.requires.order left law
    (c.is_named.ensures.yes c.if-not-is_named.false) c.in-Some.next c.in-Some.ensures
    c.set_root.ensures.entries

pub returns-in-None-clause-bricks : goal.returns-in-None-clause-bricks
returns-in-None-clause-bricks c = λ objects left law.
    none_named c.args.types.now c.args.heap.now c.args.place c.ephemeral-k.ensures.heap c.requires.held c.requires.item
    objects (entry_at c.args.bricks.now) (entry_at c.set_back.new.self) c.requires.order left law
    (c.is_named.ensures.yes c.if-not-is_named.false) c.in-None.ensures
    c.set_back.ensures.entries
