use Rattle.std.proofs.Common.{◌≡◌, ℕ, ◌<◌, length, set, Option, Some, None, ap, sym, ◌∙◌, arith, false, refl}
use Rattle.std.specs.Prelude.{is_some}
use Rattle.clr_pinq.specs.Queue.{entry_with, entry_word, queue_word}
use Rattle.clr_pinq.specs.declared.entry.PinEntry.{PinEntry}
use Rattle.clr_pinq.proofs.Changes.{queue_set, queue_stays}
use Rattle.clr_pinq.proofs.Lookups.{queue_at, queue_past}
use Rattle.clr_pinq.proofs.queue.write_saved.Goals as goal

no_entry : PinEntry
no_entry = record { start = 0; end = 0; pre = None; post = None }

-- no word where a test says so
none_is : (o : Option ℕ) → is_some o ≡ false → o ≡ None
none_is None e = refl
none_is (Some w) e = absurd (cc)

pub returns-then-is_some-clause-found : goal.returns-then-is_some-clause-found
returns-then-is_some-clause-found c =
    let es = c.args.entries.now.items in
    let i = c.place_of-i.result in
    let d = c.index-entry.result.now in
    let less : i < length es = omega (arith, c.if-i-len.true, c.len.ensures) in
    let at = queue_at 0 es i c.args.a d c.requires (λ j h. c.place_of-i.ensures.below j d h) less
    (c.place_of-i.ensures.above i d (omega arith) less) in
    sym c.if-is_some.true ∙ c.is_some.ensures
    ∙ ap (is_some {T = ℕ})
    (c.word.ensures ∙ ap (λ (e : PinEntry). entry_word e c.args.a) c.index-entry.ensures ∙ sym at)

pub returns-then-is_some-clause-items : goal.returns-then-is_some-clause-items
returns-then-is_some-clause-items c =
    let es = c.args.entries.now.items in
    let i = c.place_of-i.result in
    let d = c.index-entry.result.now in
    let less : i < length es = omega (arith, c.if-i-len.true, c.len.ensures) in
    ap (λ (e : PinEntry). set es i e)
    (c.with.ensures ∙ ap (λ (e : PinEntry). entry_with e c.args.a c.args.v) c.index-entry.ensures)
    ∙ queue_set 0 es i c.args.a c.args.v d c.requires (λ j h. c.place_of-i.ensures.below j d h) less
    (c.place_of-i.ensures.above i d (omega arith) less)

pub returns-else-is_some : goal.returns-else-is_some
returns-else-is_some c =
    let es = c.args.entries.now.items in
    let i = c.place_of-i.result in
    let d = c.index-entry.result.now in
    let less : i < length es = omega (arith, c.if-i-len.true, c.len.ensures) in
    let at = queue_at 0 es i c.args.a d c.requires (λ j h. c.place_of-i.ensures.below j d h) less
    (c.place_of-i.ensures.above i d (omega arith) less) in
    let off : is_some (queue_word es c.args.a) ≡ false =
    sym (sym c.if-is_some.false ∙ c.is_some.ensures
    ∙ ap (is_some {T = ℕ})
    (c.word.ensures ∙ ap (λ (e : PinEntry). entry_word e c.args.a) c.index-entry.ensures ∙ sym at)) in
    record {
      found = sym off;
      items = sym (queue_stays es c.args.a c.args.v (none_is (queue_word es c.args.a) off));
      len = refl;
      capacity = refl;
    }

pub returns-else-i-len : goal.returns-else-i-len
returns-else-i-len c =
    let es = c.args.entries.now.items in
    let past = c.if-i-len.false in
    let len = c.len.ensures in
    let none = queue_past 0 es c.args.a no_entry c.requires
    (λ j h. c.place_of-i.ensures.below j no_entry (omega (arith, h, past, len))) in
    record {
      found = sym (ap (is_some {T = ℕ}) none);
      items = sym (queue_stays es c.args.a c.args.v none);
      len = refl;
      capacity = refl;
    }
