use Rattle.clr_heap.proofs.Rewrite.{SameShape-refl, SameShape-stored}
use Rattle.clr_heap.proofs.heap.Heap.make_object.Goals as goal

pub returns-then-has_length-clause-shape : goal.returns-then-has_length-clause-shape
returns-then-has_length-clause-shape c =
    rw (c.set_word-then-has_length.ensures.value, c.set_word-2.ensures.value, c.set_word.ensures.value)
    (SameShape-stored _ _ _ _ (SameShape-stored _ _ _ _ (SameShape-stored _ _ _ _ (SameShape-refl c.args.self.now))))

pub returns-else-has_length-clause-shape : goal.returns-else-has_length-clause-shape
returns-else-has_length-clause-shape c =
    rw (c.set_word-2.ensures.value, c.set_word.ensures.value)
    (SameShape-stored _ _ _ _ (SameShape-stored _ _ _ _ (SameShape-refl c.args.self.now)))
