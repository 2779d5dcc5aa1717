use Rattle.std.proofs.Common.{◌≡◌, ℕ, inr, true, List, sym, ap, subst, ◌∙◌, ◌+◌, ◌%◌, map}
use Rattle.clr_types.specs.Rising.{IsIn}
use Rattle.clr_types.specs.Types.{TypeRow}
use Rattle.clr_heap.specs.View.{HeapView}
use Rattle.clr_heap.specs.View.{word_of}
use Rattle.clr_view.specs.View.{objects_in}
use Rattle.clr_mark.specs.Markings.{references_at}
use Rattle.clr_bgmark.specs.Closing.{without_colours}
use Rattle.clr_bgmark.specs.Scanning.{AreObjects, followed, HasLogged, HasScannedOne, HaveWholeObjects, is_gray_place}
use Rattle.clr_bgmark.specs.Scanning.{IsTakenAt}
use Rattle.clr_bgmark.specs.Scanning.{IsCounted}
use Rattle.clr_bgmark.specs.Shades.{BackgroundView, is_covered, rest_of}
use Rattle.clr_bgmark.proofs.LoggedRuns.{logged_none}
use Rattle.clr_bgmark.proofs.LoggedScan.{covered_now, log_scanned}
use Rattle.clr_bgmark.proofs.Meeting.{all_rest}
use Rattle.clr_bgmark.proofs.Counted.{followed_counted}
use Rattle.clr_bgmark.proofs.ScannedMore.{followed_taken}
use Rattle.clr_bgmark.proofs.ScanRuns.{none_gray}
use Rattle.clr_bgmark.proofs.ScannedLists.{gray_parts, objects_now, scans_one, taken_was}
use Rattle.clr_bgmark.proofs.background.Background.scan_next.Goals.{After-scan}
use Rattle.clr_bgmark.proofs.background.Background.scan_next.Goals as goal

-- the search for the object changes nothing
scan_is : (c : After-scan) → c.scan.new.self ≡ followed c.args.types.now c.args.heap.now c.args.self.now c.in-Some.obj
scan_is c =
    let found = c.in-Some.ensures in
    c.scan.ensures.value c.args.self.now found.shades (gray_parts c.args.self.now.shades c.in-Some.obj found.gray).0
    found.passed

pub returns-in-None-clause-empty : goal.returns-in-None-clause-empty
returns-in-None-clause-empty c e =
    none_gray (objects_in c.args.types.now c.args.heap.now) c.args.self.now.shades c.in-None.ensures.none

pub returns-in-Some-clause-rest : goal.returns-in-Some-clause-rest
returns-in-Some-clause-rest c =
    ap rest_of (scan_is c)
    ∙ all_rest (word_of c.args.heap.now) c.in-Some.obj
    (references_at c.args.types.now c.args.heap.now c.in-Some.obj) c.args.self.now

pub returns-in-Some-clause-objects : goal.returns-in-Some-clause-objects
returns-in-Some-clause-objects c =
    let closed = c.requires.closed in
    let found = c.in-Some.ensures in
    subst (λ (v : BackgroundView). AreObjects c.args.types.now c.args.heap.now v.shades) (sym (scan_is c))
    (objects_now c.args.types.now c.args.heap.now closed.heap closed.held c.args.self.now found.shades
    c.requires.objects c.in-Some.obj found.aligned found.gray (closed.named c.in-Some.obj))

pub returns-in-Some-clause-scans : goal.returns-in-Some-clause-scans
returns-in-Some-clause-scans c e =
    let closed = c.requires.closed in
    let found = c.in-Some.ensures in
    let rows = c.args.types.now in
    let h = c.args.heap.now in
    subst (λ (v : BackgroundView). HasScannedOne (objects_in rows h) c.args.self.now.shades v.shades)
    (sym (scan_is c))
    (scans_one rows h closed.heap closed.held c.args.self.now found.shades c.requires.objects c.in-Some.obj
    found.aligned found.gray (closed.named c.in-Some.obj) found.lowest)

-- the references of a gray object lie in the segments
slots : (rows : List TypeRow) (h : HeapView) (v : BackgroundView) (x : ℕ) → HaveWholeObjects rows h v.shades
    → x % 8 ≡ 0 → is_gray_place v.shades x ≡ true → (offset : ℕ) → IsIn offset (references_at rows h x)
    → is_covered v.shades (x + offset) ≡ true
slots rows h v x parts at gray offset l =
    parts x offset (at, inr (gray_parts v.shades x gray).0) l

pub returns-in-Some-clause-log : goal.returns-in-Some-clause-log
returns-in-Some-clause-log c =
    let closed = c.requires.closed in
    let found = c.in-Some.ensures in
    let rows = c.args.types.now in
    let h = c.args.heap.now in
    let v = c.args.self.now in
    let x = c.in-Some.obj in
    subst (λ (w : BackgroundView). HasLogged rows (objects_in rows h) v.shades w.shades) (sym (scan_is c))
    (log_scanned rows h closed.heap closed.held v found.shades c.requires.objects x found.aligned found.gray
    (closed.named x) (slots rows h v x c.requires.whole found.aligned found.gray))

pub returns-in-Some-clause-whole : goal.returns-in-Some-clause-whole
returns-in-Some-clause-whole c y offset took l =
    let closed = c.requires.closed in
    let found = c.in-Some.ensures in
    let rows = c.args.types.now in
    let h = c.args.heap.now in
    let v = c.args.self.now in
    let x = c.in-Some.obj in
    let same = covered_now rows h closed.heap closed.held v found.shades c.requires.objects x found.aligned found.gray
    (closed.named x) (slots rows h v x c.requires.whole found.aligned found.gray) in
    let is = ap (λ (w : BackgroundView). is_covered w.shades) (scan_is c) in
    ap (λ f. f (y + offset)) is ∙ same (y + offset)
    ∙ c.requires.whole y offset
    (taken_was rows h closed.heap closed.held v found.shades c.requires.objects x found.aligned found.gray
    (closed.named x) y (subst (λ (w : BackgroundView). IsTakenAt w.shades y) (scan_is c) took)) l

pub returns-in-None-clause-log : goal.returns-in-None-clause-log
returns-in-None-clause-log c =
    let rows = c.args.types.now in
    let objects = objects_in c.args.types.now c.args.heap.now in
    let ss = c.args.self.now.shades in
    subst (λ (v : BackgroundView). HasLogged rows objects ss v.shades) (sym c.in-None.ensures.same)
    (logged_none rows objects ss)

pub returns-in-Some-clause-counted : goal.returns-in-Some-clause-counted
returns-in-Some-clause-counted c =
    let closed = c.requires.closed in
    let found = c.in-Some.ensures in
    let rows = c.args.types.now in
    let h = c.args.heap.now in
    subst (IsCounted (objects_in rows h)) (sym (scan_is c))
    (followed_counted rows h closed.heap closed.held c.args.self.now found.shades c.requires.objects c.in-Some.obj
    found.aligned found.gray (closed.named c.in-Some.obj) c.requires.counted)

pub returns-in-Some-clause-taken : goal.returns-in-Some-clause-taken
returns-in-Some-clause-taken c =
    let rows = c.args.types.now in
    let h = c.args.heap.now in
    let v = c.args.self.now in
    subst (λ (w : BackgroundView). map without_colours w.shades ≡ map without_colours v.shades) (sym (scan_is c))
    (followed_taken rows h v c.in-Some.obj)
