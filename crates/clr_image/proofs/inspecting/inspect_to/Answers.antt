-- What is shown is what the machine in the image shows.
use Rattle.std.proofs.Common.{Bool, ap}
use Rattle.clr_image.specs.Texts.{shown_text}
use Rattle.clr_image.proofs.ImageMachines.{machine_in, machine_is, view_is}
use Rattle.clr_image.proofs.ShownTexts.{appended_all}
use Rattle.clr_image.proofs.inspecting.inspect_to.Goals as goal

pub show-requires-clause-held : goal.show-requires-clause-held
show-requires-clause-held g c =
    rw (c.view_of-view.ensures.types, c.view_of-view.ensures.heap) c.in-Ok.ensures.sound.held

pub show-requires-clause-entries : goal.show-requires-clause-entries
show-requires-clause-entries g c =
    rw (c.view_of-view.ensures.types, c.view_of-view.ensures.heap, c.view_of-view.ensures.finals)
    (λ place named. (c.in-Ok.ensures.sound.entries place named).stands)

pub show-requires-clause-ready : goal.show-requires-clause-ready
show-requires-clause-ready g c =
    rw (c.view_of-view.ensures.types, c.view_of-view.ensures.heap, c.view_of-view.ensures.finals)
    (λ place named. (c.in-Ok.ensures.sound.ready place named).stands)

pub show-requires-clause-heap : goal.show-requires-clause-heap
show-requires-clause-heap g c = c.in-Ok-prepare.ensures.heap

pub show-requires-clause-handles : goal.show-requires-clause-handles
show-requires-clause-handles g c = c.in-Ok-prepare.ensures.handles

pub returns-in-Ok-show-clause-written : goal.returns-in-Ok-show-clause-written
returns-in-Ok-show-clause-written g c =
    let (parts, is, shows) = c.in-Ok.ensures.loaded in
    let seen = view_is c.view_of-view.result c.in-Ok.image c.view_of-view.ensures.types c.view_of-view.ensures.heap
    c.view_of-view.ensures.handles c.view_of-view.ensures.finals c.view_of-view.ensures.locals
    c.view_of-view.ensures.limit in
    let m = machine_in c.in-Ok.image in
    let put = c.in-Ok-show.ensures.whole m seen in (
      parts,
      is,
      shown_text c.in-Ok.image.first m,
      (m, machine_is c.in-Ok.image parts shows, ap (λ (b : Bool). shown_text b m) shows.first),
      appended_all _ _ _ _ _ put,
      put.counted,
    )

pub returns-clause-written : goal.returns-clause-written
returns-clause-written g c =
    let (parts, is, shows) = c.in-Ok.ensures.loaded in
    let seen = view_is c.view_of-view.result c.in-Ok.image c.view_of-view.ensures.types c.view_of-view.ensures.heap
    c.view_of-view.ensures.handles c.view_of-view.ensures.finals c.view_of-view.ensures.locals
    c.view_of-view.ensures.limit in
    let m = machine_in c.in-Ok.image in (
      parts,
      is,
      shown_text c.in-Ok.image.first m,
      (m, machine_is c.in-Ok.image parts shows, ap (λ (b : Bool). shown_text b m) shows.first),
      c.in-Err.ensures.cut m seen,
    )
