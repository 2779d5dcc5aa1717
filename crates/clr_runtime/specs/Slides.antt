-- How the count of what compactions have moved goes on.
use Rattle.std.specs.Prelude.{◌≡◌, ℕ, ◌+◌, ◌-◌, ◌^◌, ◌≤◌, Bool, MatchBool, min}
use Rattle.clr_model.specs.Collection.{begun, Collects}
use Rattle.clr_model.specs.Machine.{Machine}
use Rattle.clr_model.specs.Picture.{picture}
use Rattle.clr_model.specs.declared.Collected.{Collected}
use Rattle.clr_model.specs.declared.How.{How}
use Rattle.clr_collect.specs.Collecting.{CountsSlides}

-- a count has grown by one at least, as far as a `u64` goes
abbrev pub Grew : ℕ → ℕ → Type 0
Grew old new = min (2 ^ 64 - 1) (old + 1) ≤ new

-- a compaction is counted, and a sweep isn't
abbrev pub CountsCollection : Bool → ℕ → ℕ → Type 0
CountsCollection compacted old new = MatchBool compacted (Grew old new) (new ≡ old)

-- A collection led from one machine to another, with this answer. Where it compacted, the count has grown by one and by
-- each byte that the compaction moved; a sweep leaves it, and so does a fit, but for the compaction behind it.
abbrev pub CountsMoves : Machine → ℕ → How → Collected → Machine → ℕ → ℕ → Type 0
CountsMoves m g how answer new before after =
    (left : Machine) × (c : Collects m g how answer left) × (new ≡ picture left)
    × CountsSlides how (begun m).layout c.collects.survive c.collects.moves answer before after
