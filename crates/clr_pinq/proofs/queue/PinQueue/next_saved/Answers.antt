use Rattle.std.proofs.Common.{◌≡◌, ◌⊎◌, inl, inr, ℕ, ◌+◌, ◌<◌, ◌≤◌, length, get_or, None, sym, ◌∙◌, subst, arith}
use Rattle.std.proofs.lemmas.Bool.{cases_lt}
use Rattle.std.specs.Prelude.{IsSome}
use Rattle.clr_pinq.specs.Bounds.{IsPlaceOf}
use Rattle.clr_pinq.specs.Queue.{AreInOrder, entry_word, first_of_two, queue_word, QueueView}
use Rattle.clr_pinq.specs.declared.entry.PinEntry.{PinEntry}
use Rattle.clr_pinq.proofs.Changes.{places_fit}
use Rattle.clr_pinq.proofs.Lookups.{entry_at, first_none, get_or_there, none_from, plain_up_to, queue_none_all}
use Rattle.clr_pinq.proofs.Lookups.{queue_some, saved_below}
use Rattle.clr_pinq.proofs.queue.PinQueue.next_saved.Goals as goal

no_entry : PinEntry
no_entry = record { start = 0; end = 0; pre = None; post = None }

-- of two cases the one that the other leaves
hit : (A B : Type 0) → A ⊎ B → (B → ⊥) → A
hit A B (inl a) n = a
hit A B (inr b) n = absurd (n b)

pub loop-i-init : goal.loop-i-init
loop-i-init c = record {
  within = c.place_of-i.ensures.count;
  none = λ j b d h le small. none_from c.self.inside.entries.items c.args.a j b d c.self.invariant.rising
      (let count = c.place_of-i.ensures.count in omega (arith, h, count)) (c.place_of-i.ensures.below j d h) le;
}

pub next_in-next-requires : goal.next_in-next-requires
next_in-next-requires c =
    let es = c.self.inside.entries.items in
    let found = c.index.result.now in
    let less : c.loop-i.i < length es = omega (arith, c.loop-i-test.true, c.len.ensures) in
    let at = entry_at 0 es c.loop-i.i found c.self.invariant.rising less in
    let fit = places_fit at.0 (get_or es c.loop-i.i found) at.1 in
    let P : PinEntry → Type 0 = λ e. AreInOrder e.pre e.post in
    let Q : PinEntry → Type 0 = λ e. IsPlaceOf e.pre in
    let R : PinEntry → Type 0 = λ e. IsPlaceOf e.post in
    record {
      order = subst P (sym c.index.ensures) at.1.order;
      pre = subst Q (sym c.index.ensures) fit.0;
      post = subst R (sym c.index.ensures) fit.1;
    }

pub returns-then-next : goal.returns-then-next
returns-then-next c =
    let es = c.self.inside.entries.items in
    let found = c.index.result.now in
    let i = c.loop-i.i in
    let rising = c.self.invariant.rising in
    let next = c.next_in-next.result in
    let less : i < length es = omega (arith, c.loop-i-test.true, c.len.ensures) in
    let at = entry_at 0 es i found rising less in
    let some = hit (IsSome (entry_word found next) × (c.args.a ≤ next)) (next ≡ 18446744073709551615)
    c.next_in-next.ensures.saved c.if-next.true in
    let P : PinEntry → Type 0 = λ e. IsSome (entry_word e next) in
    let Q : PinEntry → Type 0 = λ e. next + 8 < e.end in
    let here = subst P c.index.ensures some.0 in
    let up = subst Q (sym c.index.ensures) (saved_below at.0 (get_or es i found) next at.1 here) in
    let small : next < 18446744073709551615 = omega (arith, c.if-next.true, c.next_in-next.type_inv) in
    let R : QueueView → Type 0 = λ v. (b : ℕ) → c.args.a ≤ b → b < next → queue_word v.entries b ≡ None in
    let S : QueueView → Type 0 = λ v. IsSome (queue_word v.entries next) in
    record {
      plain = subst R c.self.view_is
          (λ b le lt. plain_up_to es i c.args.a b found rising less c.index.ensures
          (λ j h. c.loop-i.invariant.none j b found h le (omega (arith, lt, small)))
          next lt c.next_in-next.ensures.plain le (omega (arith, lt, up)));
      saved = inl (
        subst S c.self.view_is
            (queue_some es i next found less (λ j h. c.loop-i.invariant.none j next found h some.1 small) here),
        some.1,
      );
    }

pub loop-i-preserved : goal.loop-i-preserved
loop-i-preserved c =
    let es = c.self.inside.entries.items in
    let found = c.index.result.now in
    let i = c.loop-i.i in
    let less : i < length es = omega (arith, c.loop-i-test.true, c.len.ensures) in
    record {
      within = omega (arith, less);
      none = λ j b d h le small. elim (cases_lt j i) [
        | inl before ↦ c.loop-i.invariant.none j b d before le small
        | inr more ↦
            let same : j ≡ i = omega (arith, h, more) in
            let P : PinEntry → Type 0 = λ e. entry_word e b ≡ None in
            let Q : ℕ → Type 0 = λ k. entry_word (get_or es k d) b ≡ None in
            let plain : first_of_two (entry_word found b) None ≡ None =
            c.next_in-next.ensures.plain b le (omega (arith, small, c.if-next.false)) in
            subst Q (sym same)
            (subst P (c.index.ensures ∙ get_or_there es i found d less)
            (sym (first_none (entry_word found b)) ∙ plain))
      ];
    }

pub returns-clause-plain : goal.returns-clause-plain
returns-clause-plain c b le small =
    let es = c.self.inside.entries.items in
    let P : QueueView → Type 0 = λ v. queue_word v.entries b ≡ None in
    let past = c.loop-i-test.false in
    let len = c.len.ensures in
    subst P c.self.view_is
    (queue_none_all es b no_entry
    (λ j h. c.loop-i.invariant.none j b no_entry (omega (arith, h, past, len)) le small))
