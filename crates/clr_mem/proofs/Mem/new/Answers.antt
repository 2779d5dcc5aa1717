use Rattle.std.proofs.Common.{ap, ◌∙◌, arith, length, sym}
use Rattle.clr_mem.specs.Words.{end_of}
use Rattle.clr_mem.proofs.Inside.{memory, all_words, all_words-zero_bytes}
use Rattle.clr_mem.proofs.Callers.{end_of-zeroed, length-zeros}
use Rattle.clr_mem.proofs.Mem.new.Goals as goal

pub returns-clause-value : goal.returns-clause-value
returns-clause-value c =
    ap (memory c.args.base)
    (ap all_words c.in_ok-bytes.ensures ∙ all_words-zero_bytes c.args.len c.requires.len_aligned)

pub returns-clause-end : goal.returns-clause-end
returns-clause-end c =
    ap end_of (returns-clause-value c) ∙ end_of-zeroed c.args.base c.args.len c.requires.len_aligned

pub invariant_of-result : goal.invariant_of-result
invariant_of-result c =
    let size = ap length c.in_ok-bytes.ensures ∙ length-zeros c.args.len in
    record {
      stored = record { aligned = c.requires.base_aligned; whole = omega arith; fits = omega arith };
      counted = sym size;
    }
