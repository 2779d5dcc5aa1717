use Rattle.std.proofs.Common.{◌≡◌, ◌∙◌, ◌<◌, length, ap, subst, arith}
use Rattle.clr_handles.specs.Numbers.{Numbers, Regives}
use Rattle.clr_handles.proofs.NumberSwaps.{exchanged, numbering-given, read-at, regives-given}
use Rattle.clr_handles.proofs.numbering.Numbering.give.Goals as goal

pub invariant_of-self : goal.invariant_of-self
invariant_of-self c =
    let v : Numbers = record { keys = c.self.inside.keys.items; numbers = c.self.inside.numbers.items } in
    let whole : length v.keys ≡ 65536 = ap (λ (w : Numbers). length w.keys) c.self.view_is ∙ c.requires.prepared in
    let within_keys : c.args.number < length v.keys = omega arith in
    let within_numbers : c.args.key < length v.numbers = omega (arith, c.self.invariant.same_length) in
    numbering-given v c.self.invariant c.args.number c.args.key c.from-other_key.result c.from-other_number.result
    whole c.requires.number c.requires.key
    (read-at v.keys c.args.number _ _ within_keys c.index.ensures c.from-other_key.ensures)
    (read-at v.numbers c.args.key _ _ within_numbers c.index-2.ensures c.from-other_number.ensures)

pub returns : goal.returns
returns c =
    let v : Numbers = record { keys = c.self.inside.keys.items; numbers = c.self.inside.numbers.items } in
    let whole : length v.keys ≡ 65536 = ap (λ (w : Numbers). length w.keys) c.self.view_is ∙ c.requires.prepared in
    let within_keys : c.args.number < length v.keys = omega arith in
    let within_numbers : c.args.key < length v.numbers = omega (arith, c.self.invariant.same_length) in
    let other_key = c.from-other_key.result in
    let other_number = c.from-other_number.result in
    record {
      given =
          subst (λ (w : Numbers).
          Regives w (exchanged v c.args.number c.args.key other_key other_number) c.args.number c.args.key)
          c.self.view_is
          (regives-given v c.self.invariant c.args.number c.args.key other_key other_number whole c.requires.number
          c.requires.key
          (read-at v.keys c.args.number _ _ within_keys c.index.ensures c.from-other_key.ensures)
          (read-at v.numbers c.args.key _ _ within_numbers c.index-2.ensures c.from-other_number.ensures));
    }
