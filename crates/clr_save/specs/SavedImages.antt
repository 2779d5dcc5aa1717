-- What the image of a machine says when it is read.
use Rattle.std.specs.Prelude.{◌≡◌, ℕ, ◌<◌, ◌^◌, List, length, false}
use Rattle.std.specs.FinMap as finmap
use Rattle.clr_heap.specs.View.{IsHeap}
use Rattle.clr_model.specs.Lawful.{IsPlaceNamed}
use Rattle.clr_model.specs.Listing.{listing}
use Rattle.clr_model.specs.Machine.{Machine}
use Rattle.clr_format.specs.Images.{IsImage, Parts}
use Rattle.clr_format.specs.Saved.{image_bytes, without_rests}
use Rattle.clr_format.specs.TableFields.{Tables}
use Rattle.clr_save.specs.Snapshots.{Shows, steps_of}
use Rattle.clr_save.specs.declared.snapshot.Snapshot.{Snapshot}

-- the tables of a machine
abbrev pub tables_of : Machine → Tables
tables_of m = record {
  holder = m.holder;
  steps = steps_of m.layout 1 m.steps;
  handles = finmap.entries m.handles;
  entries = m.entries;
  ready = m.ready;
}

-- the parts of an image say what a machine is; what is left of its contexts are free items
pub record AreMachineParts (m : Machine) (p : Parts) : Type 0 where
  pub limit : p.head.limit ≡ m.options.limit
  pub large : p.head.large ≡ m.options.large
  pub compact_large : p.head.compact_large ≡ m.compacts_large
  pub second : p.head.first ≡ false
  pub types : p.types ≡ m.types
  pub items : p.body.items ≡ listing (without_rests m)
  pub segments : p.body.heap.segments ≡ m.layout.segments
  pub start1 : p.body.heap.start1 ≡ m.layout.start1
  pub start0 : p.body.heap.start0 ≡ m.layout.start0
  pub locals : p.rest.locals ≡ m.locals
  pub tables : p.rest.tables ≡ tables_of m

-- bytes are an image that says what a machine is
pub record IsImageOf (m : Machine) (bytes : List ℕ) : Type 0 where
  pub parts : Parts
  pub image : IsImage bytes parts
  pub says : AreMachineParts m parts

-- the image of a lawful machine that a snapshot shows is one, and says what the machine is
abbrev pub SavedLaw : Type 0
SavedLaw = (s : Snapshot) (m : Machine) → IsHeap s.heap.now → Shows s m → IsPlaceNamed m
    → length s.finals.now.entries < 2 ^ 64 → length s.finals.now.ready < 2 ^ 64 → IsImageOf m (image_bytes m)
