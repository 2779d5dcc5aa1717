-- Where a run opens, and what a step of the machine is to what is seen.
use Rattle.std.specs.Prelude.{◌≡◌, [], None, false, replicate}
use Rattle.std.specs.FinMap as finmap
use Rattle.clr_model.specs.Machine.{no_step, Options, Machine}
use Rattle.clr_model.specs.Lawful.{IsBirthNamed}
use Rattle.clr_model.specs.Picture.{picture}
use Rattle.clr_model.specs.Instructions.{Instruction}
use Rattle.clr_model.specs.Outcomes.{Outcome}
use Rattle.clr_model.specs.Step.{Obeys}
use Rattle.clr_types.specs.Segments.{opening_layout}

-- ---- the opening state

-- what a script runs with where the words of the command line say nothing
abbrev pub defaults : Options
defaults = record {
  limit = 268435456;
  segment = 16777216;
  b0 = 262144;
  b1 = 1048576;
  b2 = 4194304;
  bl = 4194304;
  compact = 50;
  large = 85000;
}

-- the state in which a script begins: nothing was made, every local is null, no thread has begun a step, and the two
-- segments are empty
unfoldable pub opening : Options → Machine
opening options = record {
  types = [];
  born = 0;
  objects = [];
  locals = replicate 1024 0;
  handles = finmap.empty;
  entries = [];
  ready = [];
  steps = replicate 16 no_step;
  holder = None;
  layout = opening_layout options.segment;
  sums = record { spent0 = 0; spent_large = 0; promoted1 = 0; promoted2 = 0 };
  options = options;
  compacts_large = false;
  background = None;
}

-- ---- what is seen

-- what is seen stands for this state of the graph machine
pub record StandsFor (seen : Machine) (m : Machine) : Type 0 where
  pub lawful : IsBirthNamed m
  pub seen_is : picture m ≡ seen

-- Each state that is stood for before has a next one, by the instruction's step, that is stood for afterwards.
unfoldable pub Follows : Machine → Instruction → Outcome → Machine → Type 0
Follows old i outcome new = (m : Machine) → StandsFor old m
    → (next : Machine) × Obeys m i outcome next × StandsFor new next
