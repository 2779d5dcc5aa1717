use Rattle.std.proofs.Common.{◌≡◌, ℕ, ◌+◌, ◌-◌, ◌≤◌, sym, ◌∙◌, ap, arith, refl, ◌==◌, false}
use Rattle.clr_types.specs.Types.{form_at, size_of}
use Rattle.clr_heap.specs.View.{word_of}
use Rattle.clr_heap.proofs.Addresses.{has_word, index_is_segment}
use Rattle.clr_heap.proofs.Framing.{lawful_at}
use Rattle.clr_view.specs.Clean.{slots_end}
use Rattle.clr_sos.specs.CheckedCells.{first_byte, padding_from}
use Rattle.clr_sos.specs.Faults.{rules_of}
use Rattle.clr_sos.proofs.PaddingBytes.{has_size, last_padding, no_padding, padding_free, padding_object}
use Rattle.clr_sos.proofs.verify.cells.contents_fault.Goals as goal

pub word_at-requires-clause-word : goal.word_at-requires-clause-word
word_at-requires-clause-word c =
    let h = c.args.scan.now.heap.now in
    let size = has_size (form_at c.args.scan.now.types.now c.args.type_id.0) c.args.len in
    let least = size.least in
    let whole = size.whole in
    let at = c.requires.place in
    let low = at.low in
    let z = at.aligned in
    let is = c.requires.size in
    let below = c.requires.below in
    let up = (lawful_at h c.args.scan.now.k at.heap at.in_range).high in
    has_word h c.args.scan.now.k (c.args.place + c.args.size - 16) at.heap at.in_range (omega arith)
    (omega arith) (omega arith)

pub word_at-requires-clause-segment : goal.word_at-requires-clause-segment
word_at-requires-clause-segment c =
    let h = c.args.scan.now.heap.now in
    let size = has_size (form_at c.args.scan.now.types.now c.args.type_id.0) c.args.len in
    let least = size.least in
    let at = c.requires.place in
    let low = at.low in
    let is = c.requires.size in
    let below = c.requires.below in
    let up = (lawful_at h c.args.scan.now.k at.heap at.in_range).high in
    sym (index_is_segment h c.args.scan.now.k (c.args.place + c.args.size - 16) at.heap at.in_range
    (omega arith) (omega arith))

pub returns-then-type_id-eq0 : goal.returns-then-type_id-eq0
returns-then-type_id-eq0 c =
    let rules = rules_of c.args.scan.now.types.now c.args.scan.now.limits.large c.args.scan.now.heap.now
    c.args.scan.now.k in
    let t = c.args.type_id.0 in
    let from = padding_free rules c.args.place t c.args.len refl c.if-type_id-eq0.true in
    sym (no_padding rules (word_of c.args.scan.now.heap.now) c.args.place t c.args.len (omega (arith, from)))

pub returns-then-padding-eq0 : goal.returns-then-padding-eq0
returns-then-padding-eq0 c =
    let rules = rules_of c.args.scan.now.types.now c.args.scan.now.limits.large c.args.scan.now.heap.now
    c.args.scan.now.k in
    let t = c.args.type_id.0 in
    let object : (t == 0) ≡ false = grind (arith, c.if-type_id-eq0.false) in
    let from = padding_object rules c.args.place t c.args.len object in
    let bytes = c.padding_bytes-padding.ensures in
    let none = c.if-padding-eq0.true in
    sym (no_padding rules (word_of c.args.scan.now.heap.now) c.args.place t c.args.len
    (omega (arith, from, bytes, none)))

pub returns : goal.returns
returns c =
    let rules = rules_of c.args.scan.now.types.now c.args.scan.now.limits.large c.args.scan.now.heap.now
    c.args.scan.now.k in
    let t = c.args.type_id.0 in
    let h = c.args.scan.now.heap.now in
    let object : (t == 0) ≡ false = grind (arith, c.if-type_id-eq0.false) in
    let from = padding_object rules c.args.place t c.args.len object in
    let bytes = c.padding_bytes-padding.ensures in
    let size = c.requires.size in
    let form = has_size (form_at c.args.scan.now.types.now t) c.args.len in
    let high : size_of (form_at c.args.scan.now.types.now t) c.args.len ≤ slots_end
    (form_at c.args.scan.now.types.now t) c.args.len + 16 = form.high in
    let at : c.args.place + c.args.size - 8 - c.padding_bytes-padding.result
    ≡ padding_from rules c.args.place t c.args.len = omega (arith, from, bytes, size) in
    let last : c.args.place + c.args.size - 16
    ≡ c.args.place + size_of (form_at c.args.scan.now.types.now t) c.args.len - 16 =
    ap (λ (s : ℕ). c.args.place + s - 16) size in
    c.first_byte.ensures
    ∙ ap (λ (w : ℕ). first_byte 8 (c.args.place + c.args.size - 8 - c.padding_bytes-padding.result)
    (c.args.place + c.args.size - 16) w) c.word_at.ensures
    ∙ ap (λ (f : ℕ). first_byte 8 f (c.args.place + c.args.size - 16) (word_of h (c.args.place + c.args.size - 16))) at
    ∙ ap (λ (a : ℕ). first_byte 8 (padding_from rules c.args.place t c.args.len) a (word_of h a)) last
    ∙ sym (last_padding rules (word_of h) c.args.place t c.args.len (omega (arith, from, bytes, high)))
