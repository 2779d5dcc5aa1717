-- Without ties slots alone are followed.
use Rattle.clr_view.specs.Marks.{Marked}
use Rattle.clr_mark.proofs.TieDrains.{gray_alone, gray_fewer, reach_alone}
use Rattle.clr_mark.proofs.TieLaws.{no_ties_are}
use Rattle.std.proofs.Common.{[]}
use Rattle.clr_mark.proofs.marker.Marker.drain_slots.Goals as goal

pub drain_over-requires : goal.drain_over-requires
drain_over-requires c = record {
  gray = gray_alone c.args.types.now c.args.heap.now c.args.self.now c.requires;
  ties = no_ties_are c.args.types.now c.args.heap.now;
}

pub returns : goal.returns
returns c =
    let rows = c.args.types.now in
    let h = c.args.heap.now in
    let g = c.args.self.now.oldest in
    let done = c.drain_over.ensures in
    record {
      marker = done.marker;
      gray = gray_fewer rows [] c.drain_over.new.heap c.drain_over.new.self done.gray;
      words = done.words;
      marked = λ x. (
        λ s. (reach_alone rows h g (Marked rows h) x).0 ((done.marked x).0 s),
        λ s. (done.marked x).1 ((reach_alone rows h g (Marked rows h) x).1 s),
      );
    }
