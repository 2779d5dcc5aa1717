-- The words of an item that was found say its type and its length.
use Rattle.std.proofs.Common.{◌≡◌, ℕ, is_some, sym, ◌∙◌, ap, arith}
use Rattle.clr_types.specs.Types.{form_at, is_array, size_of}
use Rattle.clr_load.proofs.FoundItems.{known_there, same_item, says_length, says_type}
use Rattle.clr_load.proofs.cells.item_there.Goals.{then-has_length, else-has_length}
use Rattle.clr_load.proofs.cells.item_there.Goals as goal

pub present-requires-clause-there : goal.present-requires-clause-there
present-requires-clause-there c =
    let k = known_there c.args.scan.now c.args.place c.requires.found.0 c.requires.found.1 in ap is_some k.mt

pub of_mt-type_id-requires-clause-known : goal.of_mt-type_id-requires-clause-known
of_mt-type_id-requires-clause-known c =
    let k = known_there c.args.scan.now c.args.place c.requires.found.0 c.requires.found.1 in
    (says_type c.args.scan.now c.args.place c.requires.found.0 c.present.result k c.present.ensures).within

pub of_mt-type_id-requires-clause-word : goal.of_mt-type_id-requires-clause-word
of_mt-type_id-requires-clause-word c =
    let k = known_there c.args.scan.now c.args.place c.requires.found.0 c.requires.found.1 in
    (says_type c.args.scan.now c.args.place c.requires.found.0 c.present.result k c.present.ensures).word_is

pub has_length-requires : goal.has_length-requires
has_length-requires c =
    let k = known_there c.args.scan.now c.args.place c.requires.found.0 c.requires.found.1 in
    let s = says_type c.args.scan.now c.args.place c.requires.found.0 c.present.result k c.present.ensures in
    let within = s.within in omega (arith, within, c.of_mt-type_id.ensures)

pub present-len-requires-clause-there : goal.present-len-requires-clause-there
present-len-requires-clause-there c =
    let i = c.requires.found.0 in
    let k = known_there c.args.scan.now c.args.place i c.requires.found.1 in
    let s = says_type c.args.scan.now c.args.place i c.present.result k c.present.ensures in
    let array =
    ap (λ (t : ℕ). is_array (form_at c.args.scan.now.types.now t)) (sym (c.of_mt-type_id.ensures ∙ s.number))
    ∙ sym c.has_length.ensures ∙ c.if-has_length.true in
    ap is_some (k.with_length array)

pub item_size-size-requires-clause-known : goal.item_size-size-requires-clause-known
item_size-size-requires-clause-known c =
    let k = known_there c.args.scan.now c.args.place c.requires.found.0 c.requires.found.1 in
    let s = says_type c.args.scan.now c.args.place c.requires.found.0 c.present.result k c.present.ensures in
    let within = s.within in omega (arith, within, c.of_mt-type_id.ensures)

pub item_size-size-requires-clause-size : goal.item_size-size-requires-clause-size
item_size-size-requires-clause-size c =
    let i = c.requires.found.0 in
    let k = known_there c.args.scan.now c.args.place i c.requires.found.1 in
    let s = says_type c.args.scan.now c.args.place i c.present.result k c.present.ensures in
    let t : c.of_mt-type_id.result.0 ≡ i.type_id.0 = c.of_mt-type_id.ensures ∙ s.number in
    let len : c.if-has_length.len ≡ i.len = elim c.if-has_length.branch [
      | then-has_length w ↦
          w.len-is ∙ says_length c.args.scan.now c.args.place i w.present-len.result k
          (ap (λ (n : ℕ). is_array (form_at c.args.scan.now.types.now n)) (sym t) ∙ sym c.has_length.ensures
          ∙ w.if-has_length.true) w.present-len.ensures
      | else-has_length w ↦
          w.len-is ∙ sym (k.without (ap (λ (n : ℕ). is_array (form_at c.args.scan.now.types.now n)) (sym t)
          ∙ sym c.has_length.ensures ∙ w.if-has_length.false))
    ] in
    let size : size_of (form_at c.args.scan.now.types.now c.of_mt-type_id.result.0) c.if-has_length.len ≡ i.size =
    ap (λ (n : ℕ). size_of (form_at c.args.scan.now.types.now n) c.if-has_length.len) t
    ∙ ap (size_of (form_at c.args.scan.now.types.now i.type_id.0)) len ∙ sym k.size in
    let inside = k.inside in
    let high = c.requires.scan.high in
    let low = c.requires.place.low in
    omega (arith, size, inside, high, low)

pub returns : goal.returns
returns c i there =
    let k = known_there c.args.scan.now c.args.place i there in
    let s = says_type c.args.scan.now c.args.place i c.present.result k c.present.ensures in
    let t : c.of_mt-type_id.result.0 ≡ i.type_id.0 = c.of_mt-type_id.ensures ∙ s.number in
    let len : c.if-has_length.len ≡ i.len = elim c.if-has_length.branch [
      | then-has_length w ↦
          w.len-is ∙ says_length c.args.scan.now c.args.place i w.present-len.result k
          (ap (λ (n : ℕ). is_array (form_at c.args.scan.now.types.now n)) (sym t) ∙ sym c.has_length.ensures
          ∙ w.if-has_length.true) w.present-len.ensures
      | else-has_length w ↦
          w.len-is ∙ sym (k.without (ap (λ (n : ℕ). is_array (form_at c.args.scan.now.types.now n)) (sym t)
          ∙ sym c.has_length.ensures ∙ w.if-has_length.false))
    ] in
    same_item _ i (sym k.at)
    (c.item_size-size.ensures
    ∙ ap (λ (n : ℕ). size_of (form_at c.args.scan.now.types.now n) c.if-has_length.len) t
    ∙ ap (size_of (form_at c.args.scan.now.types.now i.type_id.0)) len ∙ sym k.size) t len
