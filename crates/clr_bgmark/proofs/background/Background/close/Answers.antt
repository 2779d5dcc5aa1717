use Rattle.std.proofs.Common.{◌≡◌}
use Rattle.clr_bgmark.specs.Shades.{BackgroundView, rest_of}
use Rattle.clr_bgmark.specs.Pauses.{IsFound}
use Rattle.clr_bgmark.proofs.AllFound.{all_found, entry_found, joined}
use Rattle.clr_bgmark.proofs.background.Background.close.Goals as goal

pub find_more-requires-clause-work : goal.find_more-requires-clause-work
find_more-requires-clause-work c = record {
  objects = c.requires.objects;
  whole = c.requires.whole;
  counted = c.requires.counted;
  log = c.requires.log;
}

pub is_all_found-requires-clause-objects : goal.is_all_found-requires-clause-objects
is_all_found-requires-clause-objects c = c.find_more.ensures.work.objects

pub is_all_found-requires-clause-log : goal.is_all_found-requires-clause-log
is_all_found-requires-clause-log c = c.find_more.ensures.work.log

pub is_all_found-requires-clause-none : goal.is_all_found-requires-clause-none
is_all_found-requires-clause-none c = c.find_more.ensures.none

pub returns-clause-reached : goal.returns-clause-reached
returns-clause-reached c x f =
    joined c.args.types.now c.args.heap.now c.args.handles.now c.args.locals.now c.args.ready.now c.args.self.now.shades
    x (c.find_more.ensures.more.reached x f)

pub returns-clause-all : goal.returns-clause-all
returns-clause-all c sure x =
    let done = c.find_more.ensures in
    all_found c.args.types.now c.args.heap.now c.requires.closed c.find_more.new.self.shades done.work.objects
    done.work.log done.none c.args.handles.now c.args.locals.now c.args.ready.now
    c.args.entries.now (c.is_all_found.ensures.0 sure) (IsFound c.args.self.now.shades) done.more.kept x

pub returns-clause-targets : goal.returns-clause-targets
returns-clause-targets c sure = (c.is_all_found.ensures.0 sure).targets

pub returns-clause-entries : goal.returns-clause-entries
returns-clause-entries c sure =
    entry_found c.args.types.now c.args.heap.now c.find_more.new.self.shades c.args.handles.now
    c.args.locals.now c.args.ready.now c.args.entries.now (c.is_all_found.ensures.0 sure)

pub returns-clause-further : goal.returns-clause-further
returns-clause-further c = c.find_more.ensures.further

pub returns-clause-exact : goal.returns-clause-exact
returns-clause-exact c = c.is_all_found.ensures.1

-- a collection of which all else is the same
back : (v w : BackgroundView) → rest_of w ≡ rest_of v → w ≡ record v { shades = w.shades; gray = w.gray }
back v w same = λ k. record (same k) { shades = w.shades; gray = w.gray }

pub returns-clause-others : goal.returns-clause-others
returns-clause-others c = back c.args.self.now c.find_more.new.self c.find_more.ensures.more.rest
