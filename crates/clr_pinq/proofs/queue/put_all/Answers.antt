use Rattle.std.proofs.Common.{◌≡◌, ◌∷◌, [], ◌++◌, List, Option, Some, ap, ◌∙◌}
use Rattle.std.specs.Prelude.{option_to_list}
use Rattle.clr_pinq.specs.declared.entry.PinEntry.{PinEntry}
use Rattle.clr_pinq.proofs.PutBack.{can_still, last_held, putting_on}
use Rattle.clr_pinq.proofs.queue.put_all.Goals as goal

-- the entry that was taken out stood last
taken : (left rest : List PinEntry) (o : Option PinEntry) (e : PinEntry) → left ≡ rest ++ option_to_list o → o ≡ Some e
    → left ≡ rest ++ e ∷ []
taken left rest o e is some = is ∙ ap (λ (p : Option PinEntry). rest ++ option_to_list p) some

pub put-requires : goal.put-requires
put-requires c =
    (last_held c.args.heap.now c.loop-entry.heap c.args.entries.now.items c.loop-entry.entries.items
    c.pop.new.self.items c.in-Some.entry c.loop-entry.invariant.putting
    (taken c.loop-entry.entries.items c.pop.new.self.items c.pop.result c.in-Some.entry c.pop.ensures.items
    c.in-Some.is)).1

pub put-requires-in-Some : goal.put-requires-in-Some
put-requires-in-Some c =
    can_still c.loop-entry.heap c.put.new.heap c.in-Some.entry.pre c.put.ensures.shape
    (last_held c.args.heap.now c.loop-entry.heap c.args.entries.now.items c.loop-entry.entries.items
    c.pop.new.self.items c.in-Some.entry c.loop-entry.invariant.putting
    (taken c.loop-entry.entries.items c.pop.new.self.items c.pop.result c.in-Some.entry c.pop.ensures.items
    c.in-Some.is)).0

pub loop-entry-preserved : goal.loop-entry-preserved
loop-entry-preserved c = record {
  putting = putting_on c.args.heap.now c.loop-entry.heap c.put.new.heap c.put-in-Some.new.heap c.args.entries.now.items
      c.loop-entry.entries.items c.pop.new.self.items c.in-Some.entry c.loop-entry.invariant.putting
      (taken c.loop-entry.entries.items c.pop.new.self.items c.pop.result c.in-Some.entry c.pop.ensures.items
      c.in-Some.is) c.put.ensures.words c.put.ensures.shape c.put-in-Some.ensures.words c.put-in-Some.ensures.shape;
  capacity = c.pop.ensures.capacity ∙ c.loop-entry.invariant.capacity;
}
