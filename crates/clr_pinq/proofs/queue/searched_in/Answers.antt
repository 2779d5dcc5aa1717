use Rattle.std.proofs.Common.{◌<◌, length, None, ap, sym, ◌∙◌, arith}
use Rattle.clr_pinq.specs.Queue.{entry_word}
use Rattle.clr_pinq.specs.declared.entry.PinEntry.{PinEntry}
use Rattle.clr_pinq.proofs.Lookups.{queue_at, queue_past}
use Rattle.clr_pinq.proofs.queue.searched_in.Goals as goal

-- an entry, where nothing is known of it
no_entry : PinEntry
no_entry = record { start = 0; end = 0; pre = None; post = None }

pub returns-then-i-len : goal.returns-then-i-len
returns-then-i-len c =
    let es = c.args.entries.now.items in
    let i = c.place_of-i.result in
    let d = c.index.result.now in
    let less : i < length es = omega (arith, c.if-i-len.true, c.len.ensures) in
    c.word.ensures ∙ ap (λ (e : PinEntry). entry_word e c.args.a) c.index.ensures
    ∙ sym (queue_at 0 es i c.args.a d c.requires (λ j h. c.place_of-i.ensures.below j d h) less
    (c.place_of-i.ensures.above i d (omega arith) less))

pub returns-else-i-len : goal.returns-else-i-len
returns-else-i-len c =
    let past = c.if-i-len.false in
    let len = c.len.ensures in
    sym (queue_past 0 c.args.entries.now.items c.args.a no_entry c.requires
    (λ j h. c.place_of-i.ensures.below j no_entry (omega (arith, h, past, len))))
