use Rattle.std.proofs.Common.{◌≡◌, ◌⊎◌, inl, inr, ℕ, ◌-◌, Vec, Global, ap₂, ◌<◌, ◌≤◌, List, refl, ap, sym, ◌∙◌, subst}
use Rattle.std.proofs.Common.{true, false, eqb, if◌then◌else◌}
use Rattle.std.specs.Prelude.{is_some, vec_capacity, vec_len}
use Rattle.clr_heap.specs.View.{stored, word_of}
use Rattle.clr_pinq.specs.Queue.{logical, queue_with, queue_word, QueueView}
use Rattle.clr_pinq.specs.declared.entry.PinEntry.{PinEntry}
use Rattle.clr_pinq.proofs.Changes.{is_queue_with, none_is, none_outside, queue_stays, some_is, written_heap}
use Rattle.clr_pinq.proofs.Changes.{written_saved}
use Rattle.clr_pinq.proofs.queue.PinQueue.set_logical_word_at.Goals as goal
use Rattle.clr_pinq.proofs.queue.PinQueue.set_logical_word_at.Goals.{then-a-self-via-then-a-self}
use Rattle.clr_pinq.proofs.queue.PinQueue.set_logical_word_at.Goals.{then-a-self-via-else-a-self+then-self-a}

pub returns-then-a-self-clause-words : goal.returns-then-a-self-clause-words
returns-then-a-self-clause-words c b z =
    let i = c.self.inside in
    let out : (c.args.a < i.low) ⊎ (i.high ≤ c.args.a) =
    elim c.then-a-self.branch [
      | then-a-self-via-then-a-self w ↦ inl w.if-a-self.true
      | then-a-self-via-else-a-self+then-self-a w ↦ inr w.if-self-a.true
    ] in
    let none = none_outside i.entries.items i.low i.high c.args.a c.self.invariant out in
    let P : QueueView → Type 0 =
    λ v. logical v.entries (word_of c.set_word_at.new.self) b
    ≡ (if eqb b c.args.a then c.args.v else logical v.entries (word_of c.args.heap.now) b) in
    let stays = queue_stays i.entries.items c.args.a c.args.v none in
    let Q : List PinEntry → Type 0 =
    λ es. logical es (word_of (stored c.args.heap.now c.args.a c.args.v)) b
    ≡ (if eqb b c.args.a then c.args.v else logical i.entries.items (word_of c.args.heap.now) b) in
    subst P c.self.view_is
    (rw c.set_word_at.ensures
    (subst Q stays (written_heap i.entries.items c.args.heap.now c.args.a c.args.v b none c.requires.word z)))

pub returns-then-a-self-clause-entries : goal.returns-then-a-self-clause-entries
returns-then-a-self-clause-entries c =
    let i = c.self.inside in
    let out : (c.args.a < i.low) ⊎ (i.high ≤ c.args.a) =
    elim c.then-a-self.branch [
      | then-a-self-via-then-a-self w ↦ inl w.if-a-self.true
      | then-a-self-via-else-a-self+then-self-a w ↦ inr w.if-self-a.true
    ] in
    let none = none_outside i.entries.items i.low i.high c.args.a c.self.invariant out in
    let P : QueueView → Type 0 = λ v. queue_with v.entries c.args.a c.args.v ≡ v.entries in
    let stays = subst P c.self.view_is (queue_stays i.entries.items c.args.a c.args.v none) in
    λ k. record { entries = sym stays k; spare = c.args.self.now.spare }

-- the queue with a saved word written, as it is seen
seen : (inside : Vec PinEntry Global) (new : Vec PinEntry Global) (now : QueueView) (a v : ℕ)
    → ◌≡◌ {A = QueueView} (record { entries = inside.items; spare = vec_capacity inside - vec_len inside }) now
    → new.items ≡ queue_with inside.items a v
    → vec_len new ≡ vec_len inside → vec_capacity new ≡ vec_capacity inside
    → ◌≡◌ {A = QueueView} (record { entries = new.items; spare = vec_capacity new - vec_len new })
    (record { entries = queue_with now.entries a v; spare = now.spare })
seen inside new now a v view items len cap =
    let one = items ∙ ap (λ (q : QueueView). queue_with q.entries a v) view in
    let two = ap₂ (λ (n m : ℕ). n - m) cap len ∙ ap (λ (q : QueueView). q.spare) view in
    λ i. record { entries = one i; spare = two i }

pub invariant_of-self : goal.invariant_of-self
invariant_of-self c =
    rw c.write_saved.ensures.items
    (is_queue_with c.self.inside.entries.items c.self.inside.low c.self.inside.high c.args.a c.args.v
    c.self.invariant)

pub invariant_of-self-2 : goal.invariant_of-self-2
invariant_of-self-2 c =
    rw c.write_saved.ensures.items
    (is_queue_with c.self.inside.entries.items c.self.inside.low c.self.inside.high c.args.a c.args.v
    c.self.invariant)

pub returns-then-write_saved : goal.returns-then-write_saved
returns-then-write_saved c =
    let i = c.self.inside in
    let es = i.entries.items in
    let on : is_some (queue_word es c.args.a) ≡ true = sym c.write_saved.ensures.found ∙ c.if-write_saved.true in
    let w = some_is (queue_word es c.args.a) on in
    let h = c.args.heap.now in
    record {
      words = λ b z.
          let P : QueueView → Type 0 =
          λ v. logical (queue_with es c.args.a c.args.v) (word_of h) b
          ≡ (if eqb b c.args.a then c.args.v else logical v.entries (word_of h) b) in
          rw c.write_saved.ensures.items
          (subst P c.self.view_is (written_saved es (word_of h) c.args.a c.args.v b w.0 w.1));
      entries = seen i.entries c.write_saved.new.entries c.args.self.now c.args.a c.args.v c.self.view_is
          c.write_saved.ensures.items c.write_saved.ensures.len c.write_saved.ensures.capacity;
      heap =
          let Q : QueueView → Type 0 =
          λ v. h ≡ (if is_some (queue_word v.entries c.args.a) then h else stored h c.args.a c.args.v) in
          subst Q c.self.view_is (rw on refl);
    }

pub returns : goal.returns
returns c =
    let i = c.self.inside in
    let es = i.entries.items in
    let off : is_some (queue_word es c.args.a) ≡ false = sym c.write_saved.ensures.found ∙ c.if-write_saved.false in
    let none = none_is (queue_word es c.args.a) off in
    let h = c.args.heap.now in
    record {
      words = λ b z.
          let P : QueueView → Type 0 =
          λ v. logical (queue_with es c.args.a c.args.v) (word_of (stored h c.args.a c.args.v)) b
          ≡ (if eqb b c.args.a then c.args.v else logical v.entries (word_of h) b) in
          rw (c.write_saved.ensures.items, c.set_word_at-2.ensures)
          (subst P c.self.view_is (written_heap es h c.args.a c.args.v b none c.requires.word z));
      entries = seen i.entries c.write_saved.new.entries c.args.self.now c.args.a c.args.v c.self.view_is
          c.write_saved.ensures.items c.write_saved.ensures.len c.write_saved.ensures.capacity;
      heap =
          let Q : QueueView → Type 0 =
          λ v. c.set_word_at-2.new.self
          ≡ (if is_some (queue_word v.entries c.args.a) then h else stored h c.args.a c.args.v) in
          subst Q c.self.view_is (rw off c.set_word_at-2.ensures);
    }
