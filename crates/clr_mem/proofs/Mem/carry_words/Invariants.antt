use Rattle.std.proofs.Common.{◌≡◌}
use Rattle.clr_mem.specs.Words.{overwrite, part, place_of}
use Rattle.clr_mem.proofs.Mem.carry_words.Given as goal

-- the first i words are written
abbrev pub invariant-loop-i : goal.invariant-loop-i
invariant-loop-i l =
    l.self ≡ record l.fn.self {
      words =
          overwrite l.fn.self.words (place_of l.fn.self l.fn.to)
          (part l.fn.other.words (place_of l.fn.other l.fn.from) l.i);
    }
