-- What a loaded image shows.
use Rattle.std.specs.Prelude.{◌≡◌}
use Rattle.std.specs.FinMap as finmap
use Rattle.clr_format.specs.Images.{Parts}
use Rattle.clr_load.specs.declared.image.Image.{Image}

-- each field of the image is what the parts of its bytes say: the heap word for word, and exactly the handles that are
-- listed
pub record ShowsParts (image : Image) (p : Parts) : Type 0 where
  pub types : image.types ≡ p.types
  pub heap : image.heap ≡ p.body.heap
  pub locals : image.locals.items ≡ p.rest.locals
  pub limit : image.limit ≡ p.head.limit
  pub large : image.large ≡ p.head.large
  pub compact_large : image.compact_large ≡ p.head.compact_large
  pub holder : image.holder ≡ p.rest.tables.holder
  pub steps : image.steps.items ≡ p.rest.tables.steps
  pub handles : finmap.entries image.handles ≡ p.rest.tables.handles
  pub entries : image.finals.entries ≡ p.rest.tables.entries
  pub ready : image.finals.ready ≡ p.rest.tables.ready
  pub first : image.first ≡ p.head.first
