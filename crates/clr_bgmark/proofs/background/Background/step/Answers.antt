use Rattle.std.proofs.Common.{inl, inr, refl, ap, arith, map, subst, ◌∙◌, sym}
use Rattle.clr_bgmark.specs.Closing.{without_colours}
use Rattle.clr_view.specs.View.{objects_in}
use Rattle.clr_bgmark.specs.Scanning.{HasLogged, HasScanned}
use Rattle.clr_bgmark.specs.Shades.{BackgroundView}
use Rattle.clr_bgmark.specs.declared.background.Progress.{Progress}
use Rattle.clr_bgmark.proofs.LoggedRuns.{logged_none, logged_on}
use Rattle.clr_bgmark.proofs.ScanRuns.{scanned_none, scanned_more, scanned_all}
use Rattle.clr_bgmark.proofs.background.Background.step.Goals as goal

pub loop-scanned-init : goal.loop-scanned-init
loop-scanned-init c = record {
  low = omega arith;
  known = c.none-known.ensures c.args.types.now;
  rest = refl;
  taken = refl;
  objects = c.requires.objects;
  counted = c.requires.counted;
  whole = c.requires.whole;
  log = logged_none c.args.types.now (objects_in c.args.types.now c.args.heap.now) c.args.self.now.shades;
  scans = scanned_none (objects_in c.args.types.now c.args.heap.now) c.args.self.now.shades;
}

pub loop-scanned-preserved : goal.loop-scanned-preserved
loop-scanned-preserved c =
    let below = c.loop-scanned-test.true in
    let done = c.scan_next.ensures in
    let so_far = c.loop-scanned.invariant in
    record {
      low = omega (arith, below);
      known = done.known;
      rest = done.rest ∙ so_far.rest;
      taken = done.taken ∙ so_far.taken;
      objects = done.objects;
      counted = done.counted;
      whole = done.whole;
      log = logged_on c.args.types.now (objects_in c.args.types.now c.args.heap.now) c.loop-scanned.scanned
          c.args.self.now.shades c.loop-scanned.self.shades c.scan_next.new.self.shades so_far.scans
          (done.scans c.if-not-scan_next.false) so_far.log done.log;
      scans = scanned_more (objects_in c.args.types.now c.args.heap.now) c.loop-scanned.scanned
          c.args.self.now.shades c.loop-scanned.self.shades c.scan_next.new.self.shades so_far.scans
          (done.scans c.if-not-scan_next.false);
    }

pub returns-then-not-scan_next-clause-scans : goal.returns-then-not-scan_next-clause-scans
returns-then-not-scan_next-clause-scans c =
    let objects = objects_in c.args.types.now c.args.heap.now in
    let old = c.args.self.now.shades in
    let now = c.loop-scanned.self.shades in
    let stays = c.scan_next.ensures.none c.if-not-scan_next.true in
    let all : HasScanned objects c.args.n old c.loop-scanned.scanned now =
    scanned_all objects c.args.n c.loop-scanned.scanned old now c.loop-scanned.invariant.scans
    c.loop-scanned.invariant.low (inr (c.scan_next.ensures.empty c.if-not-scan_next.true)) in
    subst (λ (p : Progress). HasScanned objects c.args.n old p.scanned c.scan_next.new.self.shades)
    (sym c.progress.ensures)
    (subst (λ (v : BackgroundView). HasScanned objects c.args.n old c.loop-scanned.scanned v.shades) (sym stays) all)

pub returns-clause-scans : goal.returns-clause-scans
returns-clause-scans c =
    let objects = objects_in c.args.types.now c.args.heap.now in
    let old = c.args.self.now.shades in
    let now = c.loop-scanned.self.shades in
    let low = c.loop-scanned.invariant.low in
    let last = c.loop-scanned-test.false in
    subst (λ (p : Progress). HasScanned objects c.args.n old p.scanned now) (sym c.progress-2.ensures)
    (scanned_all objects c.args.n c.loop-scanned.scanned old now c.loop-scanned.invariant.scans low
    (inl (omega (arith, low, last))))

pub returns-then-not-scan_next-clause-log : goal.returns-then-not-scan_next-clause-log
returns-then-not-scan_next-clause-log c =
    let objects = objects_in c.args.types.now c.args.heap.now in
    subst (λ (v : BackgroundView). HasLogged c.args.types.now objects c.args.self.now.shades v.shades)
    (sym (c.scan_next.ensures.none c.if-not-scan_next.true)) c.loop-scanned.invariant.log

pub returns-then-not-scan_next-clause-running : goal.returns-then-not-scan_next-clause-running
returns-then-not-scan_next-clause-running c =
    ap (λ (v : BackgroundView). v.running) (c.scan_next.ensures.none c.if-not-scan_next.true)
    ∙ ap (λ (v : BackgroundView). v.running) c.loop-scanned.invariant.rest

pub returns-then-not-scan_next-clause-parts : goal.returns-then-not-scan_next-clause-parts
returns-then-not-scan_next-clause-parts c =
    ap (λ (v : BackgroundView). v.parts) (c.scan_next.ensures.none c.if-not-scan_next.true)
    ∙ ap (λ (v : BackgroundView). v.parts) c.loop-scanned.invariant.rest

pub returns-then-not-scan_next-clause-fronts : goal.returns-then-not-scan_next-clause-fronts
returns-then-not-scan_next-clause-fronts c =
    ap (λ (v : BackgroundView). v.fronts) (c.scan_next.ensures.none c.if-not-scan_next.true)
    ∙ ap (λ (v : BackgroundView). v.fronts) c.loop-scanned.invariant.rest

pub returns-clause-running : goal.returns-clause-running
returns-clause-running c =
    ap (λ (v : BackgroundView). v.running) c.loop-scanned.invariant.rest

pub returns-clause-parts : goal.returns-clause-parts
returns-clause-parts c =
    ap (λ (v : BackgroundView). v.parts) c.loop-scanned.invariant.rest

pub returns-clause-fronts : goal.returns-clause-fronts
returns-clause-fronts c =
    ap (λ (v : BackgroundView). v.fronts) c.loop-scanned.invariant.rest

pub returns-then-not-scan_next-clause-taken : goal.returns-then-not-scan_next-clause-taken
returns-then-not-scan_next-clause-taken c =
    ap (λ (v : BackgroundView). map without_colours v.shades)
    (c.scan_next.ensures.none c.if-not-scan_next.true) ∙ c.loop-scanned.invariant.taken
