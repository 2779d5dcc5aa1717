-- Laws on what words spell.
use Rattle.std.specs.Prelude.{◌≡◌, ℕ, List}
use Rattle.clr_heap.specs.Parts.{Part, Sight, Spells}

-- the words from one place to another spell one list of parts at most
abbrev pub OneListLaw : Type 0
OneListLaw = (s : Sight) (p e : ℕ) (ps qs : List Part) → Spells s p ps e → Spells s p qs e → ps ≡ qs
