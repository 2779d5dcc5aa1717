-- The machine in an image, and what a view of the image shows of it.
use Rattle.std.proofs.Common.{◌≡◌, ℕ, List, map, None, refl, sym}
use Rattle.clr_model.specs.Machine.{Machine}
use Rattle.clr_model.specs.Run.{defaults}
use Rattle.clr_view.specs.View.{layout_in, objects_in}
use Rattle.clr_format.specs.Images.{Parts}
use Rattle.clr_load.specs.Shown.{ShowsParts}
use Rattle.clr_load.specs.declared.image.Image.{Image}
use Rattle.clr_sos.specs.Views.{IsViewOf}
use Rattle.clr_sos.specs.declared.view.View.{View}
use Rattle.clr_image.specs.Texts.{IsMachineOf, step_by}

-- what an image says, as a machine
abbrev pub machine_in : Image → Machine
machine_in image = record {
  types = image.types;
  born = 0;
  objects = objects_in image.types image.heap;
  locals = image.locals.items;
  handles = image.handles;
  entries = image.finals.entries;
  ready = image.finals.ready;
  steps = map step_by image.steps.items;
  holder = image.holder;
  layout = layout_in image.types image.heap;
  sums = record { spent0 = 0; spent_large = 0; promoted1 = 0; promoted2 = 0 };
  options = record defaults { limit = image.limit; large = image.large };
  compacts_large = image.compact_large;
  background = None;
}

pub machine_is : (image : Image) (p : Parts) → ShowsParts image p → IsMachineOf p (machine_in image)
machine_is image p shows = record {
  types = shows.types;
  objects = rw (shows.types, shows.heap) refl;
  layout = rw (shows.types, shows.heap) refl;
  locals = shows.locals;
  holder = shows.holder;
  steps = rw (shows.steps) refl;
  handles = shows.handles;
  entries = shows.entries;
  ready = shows.ready;
  limit = shows.limit;
  large = shows.large;
  compacts_large = shows.compact_large;
}

pub view_is : (v : View) (image : Image) → v.types.now ≡ image.types → v.heap.now ≡ image.heap
    → v.handles.now ≡ image.handles → v.finals.now ≡ image.finals → v.locals.now ≡ image.locals.items
    → v.limit ≡ image.limit → IsViewOf v (machine_in image)
view_is v image types heap handles finals locals limit = record {
  types = sym types;
  objects = rw (types, heap) refl;
  layout = rw (types, heap) refl;
  locals = sym locals;
  handles = sym handles;
  entries = rw finals refl;
  ready = rw finals refl;
  limit = sym limit;
}
