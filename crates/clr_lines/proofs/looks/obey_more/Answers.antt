-- Each call over what is seen shows what the machine tells, or the line is refused.
use Rattle.std.proofs.Common.{refl}
use Rattle.clr_sos.specs.Views.{IsViewOf}
use Rattle.clr_lines.proofs.MoreLooks.{array_place, path_look, place_look, retained_place, roots_place, text_look, type_look}
use Rattle.clr_lines.proofs.looks.obey_more.Goals as goal

pub dumparray-requires : goal.dumparray-requires
dumparray-requires c =
    let lawful = c.requires.lawful in
    record { held = lawful.held; bricks = lawful.bricks; law = lawful.brick_law }

pub returns-in-DumpArray-clause-follows : goal.returns-in-DumpArray-clause-follows
returns-in-DumpArray-clause-follows c = λ m seen.
    let told = c.dumparray.ensures in
    rw (c.in-DumpArray.is, c.told_found.ensures.is)
    (place_look (IsViewOf c.args.view.now) m seen _ c.in-DumpArray.a (array_place c.in-DumpArray.start c.in-DumpArray.length c.in-DumpArray.a) c.dumparray.result
    (told.no_object, told.no_type) told.text)

pub returns-in-DumpMt-clause-follows : goal.returns-in-DumpMt-clause-follows
returns-in-DumpMt-clause-follows c = λ m seen.
    let told = c.dumpmt.ensures in
    rw (c.in-DumpMt.is, c.told_found-in-DumpMt.ensures.is)
    (type_look (IsViewOf c.args.view.now) m seen c.in-DumpMt.mt c.dumpmt.result told.unknown told.no_object told.text)

pub returns-in-GcRoots-clause-follows : goal.returns-in-GcRoots-clause-follows
returns-in-GcRoots-clause-follows c = λ m seen.
    let told = c.gcroots.ensures in
    rw (c.in-GcRoots.is, c.told_found-in-GcRoots.ensures.is)
    (place_look (IsViewOf c.args.view.now) m seen _ c.in-GcRoots.a (roots_place c.in-GcRoots.a) c.gcroots.result
    (told.no_object, told.no_type) told.text)

pub returns-in-PathTo-clause-follows : goal.returns-in-PathTo-clause-follows
returns-in-PathTo-clause-follows c = λ m seen.
    let told = c.pathto.ensures in
    rw (c.in-PathTo.is, c.told_found-in-PathTo.ensures.is)
    (path_look (IsViewOf c.args.view.now) m seen c.in-PathTo.a c.in-PathTo.b c.pathto.result told.no_object told.no_type
    told.text)

pub returns-in-Retained-clause-follows : goal.returns-in-Retained-clause-follows
returns-in-Retained-clause-follows c = λ m seen.
    let told = c.retained.ensures in
    rw (c.in-Retained.is, c.told_found-in-Retained.ensures.is)
    (place_look (IsViewOf c.args.view.now) m seen _ c.in-Retained.a (retained_place c.in-Retained.a) c.retained.result
    (told.no_object, told.no_type) told.text)

pub returns-in-GcHeapStat-clause-follows : goal.returns-in-GcHeapStat-clause-follows
returns-in-GcHeapStat-clause-follows c = λ m seen.
    rw (c.in-GcHeapStat.is, c.told_text.ensures.is)
    (text_look (IsViewOf c.args.view.now) m seen _ (λ m. refl) c.gcheapstat.result c.gcheapstat.ensures)

pub returns-in-ListNearObj-clause-follows : goal.returns-in-ListNearObj-clause-follows
returns-in-ListNearObj-clause-follows c = λ m seen.
    rw (c.in-ListNearObj.is, c.told_text-in-ListNearObj.ensures.is)
    (text_look (IsViewOf c.args.view.now) m seen _ (λ m. refl) c.listnearobj.result c.listnearobj.ensures)

pub returns-in-EphRefs-clause-follows : goal.returns-in-EphRefs-clause-follows
returns-in-EphRefs-clause-follows c = λ m seen.
    rw (c.in-EphRefs.is, c.told_text-in-EphRefs.ensures.is)
    (text_look (IsViewOf c.args.view.now) m seen _ (λ m. refl) c.ephrefs.result c.ephrefs.ensures)

pub returns-in-HandleStat-clause-follows : goal.returns-in-HandleStat-clause-follows
returns-in-HandleStat-clause-follows c = λ m seen.
    rw (c.in-HandleStat.is, c.told_text-in-HandleStat.ensures.is)
    (text_look (IsViewOf c.args.view.now) m seen _ (λ m. refl) c.handle_counts.result c.handle_counts.ensures.text)

pub returns-in-HandlesOf-clause-follows : goal.returns-in-HandlesOf-clause-follows
returns-in-HandlesOf-clause-follows c = λ m seen.
    rw (c.in-HandlesOf.is, c.told_text-in-HandlesOf.ensures.is)
    (text_look (IsViewOf c.args.view.now) m seen _ (λ m. refl) c.handles_of_kind.result c.handles_of_kind.ensures.text)
