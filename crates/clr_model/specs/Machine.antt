-- The machine's state. Objects have names, which are numbers from 1 on; 0 stands for null wherever a name may stand.
-- The names are free: the graph machine names each object by the number of its birth, and a picture of it by its place.
use Rattle.std.specs.Prelude.{ℕ, Bool, List, Option}
use Rattle.std.specs.FinMap.{FinMap}
use Rattle.std.specs.Ordering.{nat_cmp}
use Rattle.clr_types.specs.declared.handle.Handle.{Handle}
use Rattle.clr_types.specs.Types.{TypeRow}
use Rattle.clr_types.specs.Segments.{Layout}

-- what a slot holds: an object's name or null, or a number
pub data Value : Type 0 where
  ref : (name : ℕ) → Value
  num : (number : ℕ) → Value

pub record Object : Type 0 where
  pub name : ℕ
  pub place : ℕ
  pub type : ℕ
  pub len : ℕ
  pub slots : List Value
  pub suppressed : Bool

-- what a thread has begun: a store into this slot of this object, or an object to be placed and put into this local
pub data ThreadStep : Type 0 where
  no_step : ThreadStep
  begun_store : (object slot : ℕ) → ThreadStep
  begun_new : (type len local : ℕ) → ThreadStep

-- bytes allocated since the last collection, large ones since the last full one, and bytes that went from 0 to 1 and
-- from 1 to 2
pub record Sums : Type 0 where
  pub spent0 : ℕ
  pub spent_large : ℕ
  pub promoted1 : ℕ
  pub promoted2 : ℕ

pub record Options : Type 0 where
  pub limit : ℕ
  pub segment : ℕ
  pub b0 : ℕ
  pub b1 : ℕ
  pub b2 : ℕ
  pub bl : ℕ
  pub compact : ℕ
  pub large : ℕ

-- the objects that a background collection took at its first pause, in three parts, in no order
pub record Marking : Type 0 where
  pub white : List ℕ
  pub gray : List ℕ
  pub black : List ℕ

-- `locals` has 64 for each of 16 threads, by thread. `entries` are the finalisation entries and `ready` the f-reachable
-- queue. `compacts_large` says whether the next full collection slides the large heap. `background` is the marking of a
-- background collection that runs.
pub record Machine : Type 0 where
  pub types : List TypeRow
  pub born : ℕ
  pub objects : List Object
  pub locals : List ℕ
  pub handles : FinMap nat_cmp Handle
  pub entries : List ℕ
  pub ready : List ℕ
  pub steps : List ThreadStep
  pub holder : Option ℕ
  pub layout : Layout
  pub sums : Sums
  pub options : Options
  pub compacts_large : Bool
  pub background : Option Marking
