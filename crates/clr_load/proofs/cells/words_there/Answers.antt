-- So many words end at or before the last byte.
use Rattle.std.proofs.Common.{◌≡◌, ℕ, ◌+◌, ◌-◌, ◌*◌, arith, subst, None, is_some, true, sym}
use Rattle.clr_fields.specs.Fields.{word_at}
use Rattle.clr_load.proofs.MemoryWords.{word_gone, word_there}
use Rattle.clr_load.proofs.cells.words_there.Goals as goal

pub returns-clause-there : goal.returns-clause-there
returns-clause-there c =
    let bytes = c.args.scan.now.bytes.now in
    let o = c.offset_of-o.result in
    let is = c.offset_of-o.ensures in
    let low = c.requires.low in
    let few = c.min.ensures in
    let less = c.saturating_sub.ensures in
    record {
      are = λ i l.
          let at : c.args.scan.now.at + (c.args.a + 8 * i - (c.args.scan.now.info.base + 4088)) ≡ o + 8 * i =
          omega arith in
          subst (λ (b : ℕ). is_some (word_at bytes b) ≡ true) (sym at)
          (word_there bytes (o + 8 * i) (omega (arith, few, less)));
    }

pub returns-clause-not_there : goal.returns-clause-not_there
returns-clause-not_there c less =
    let bytes = c.args.scan.now.bytes.now in
    let o = c.offset_of-o.result in
    let r = c.min.result in
    let is = c.offset_of-o.ensures in
    let low = c.requires.low in
    let few = c.min.ensures in
    let sub = c.saturating_sub.ensures in
    let at : c.args.scan.now.at + (c.args.a + 8 * r - (c.args.scan.now.info.base + 4088)) ≡ o + 8 * r = omega arith in
    subst (λ (b : ℕ). word_at bytes b ≡ None) (sym at) (word_gone bytes (o + 8 * r) (omega (arith, few, sub)))
