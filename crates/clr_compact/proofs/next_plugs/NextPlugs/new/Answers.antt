use Rattle.clr_compact.proofs.PassingPlugs.{are-first, gives-all}
use Rattle.clr_compact.proofs.next_plugs.NextPlugs.new.Goals as goal

pub next_of_kind-going-requires : goal.next_of_kind-going-requires
next_of_kind-going-requires c =
    let (vs, told, rising) = c.requires in (
      vs,
      0,
      gives-all c.args.types.now c.args.heap.now c.args.bricks.now c.args.g vs rising c.new-goers.result
          (c.new-goers.ensures vs told),
    )

pub next_of_kind-staying-requires : goal.next_of_kind-staying-requires
next_of_kind-staying-requires c =
    let (vs, told, rising) = c.requires in (
      vs,
      0,
      gives-all c.args.types.now c.args.heap.now c.args.bricks.now c.args.g vs rising c.new-stayers.result
          (c.new-stayers.ensures vs told),
    )

pub returns : goal.returns
returns c = λ vs told rising.
    let rows = c.args.types.now in
    let h = c.args.heap.now in
    are-first rows h c.args.bricks.now c.args.g vs rising c.next_of_kind-going.new.moves
    c.next_of_kind-staying.new.moves c.next_of_kind-going.result c.next_of_kind-staying.result
    (c.next_of_kind-going.ensures vs 0
    (gives-all rows h c.args.bricks.now c.args.g vs rising c.new-goers.result (c.new-goers.ensures vs told)))
    (c.next_of_kind-staying.ensures vs 0
    (gives-all rows h c.args.bricks.now c.args.g vs rising c.new-stayers.result (c.new-stayers.ensures vs told)))
