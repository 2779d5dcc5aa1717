use Rattle.clr_heap.proofs.Rewrite.{SameShape-refl, SameShape-stored}
use Rattle.clr_heap.proofs.heap.Heap.make_free.Goals as goal

pub returns-clause-shape : goal.returns-clause-shape
returns-clause-shape c =
    rw (c.set_word-3.ensures.value, c.set_word-2.ensures.value, c.set_word.ensures.value)
    (SameShape-stored _ _ _ _ (SameShape-stored _ _ _ _ (SameShape-stored _ _ _ _ (SameShape-refl c.args.self.now))))
