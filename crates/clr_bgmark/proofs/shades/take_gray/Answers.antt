use Rattle.std.proofs.Common.{◌≡◌, ℕ, ◌*◌, ◌<◌, ◌≤◌, length, get_or, set, sym, ap, ◌∙◌, subst, arith, true, false}
use Rattle.std.proofs.Common.{refl}
use Rattle.std.proofs.lemmas.List.{get_or_default, set-get_or}
use Rattle.clr_bgmark.specs.Shades.{AreApart, changed_at, covers, HasNoGray, is_gray}
use Rattle.clr_bgmark.specs.Shades.{IsAt, IsWatched, ShadeView, with_scanned}
use Rattle.clr_bgmark.proofs.GrayPlaces.{apart_at, found_gray, no_gray_at_all}
use Rattle.clr_bgmark.proofs.Lookups.{at_changed}
use Rattle.clr_bgmark.proofs.LowestGray.{lowest_gray}
use Rattle.clr_bgmark.proofs.Kept.{scanned_background}
use Rattle.clr_bgmark.proofs.Watched.{gray_waits, none_lower, watched_at, watched_less}
use Rattle.clr_bgmark.proofs.shades.take_gray.Goals.{In-Some}
use Rattle.clr_bgmark.proofs.shades.take_gray.Goals as goal

pub loop-k-init : goal.loop-k-init
loop-k-init c = record {
  same = refl;
  watched = c.requires;
  lowest = c.lowest-k.ensures.value;
  above = c.lowest-k.ensures.above;
}

within : (c : In-Some) → c.loop-k.k < length c.loop-k.shades.items
within c =
    let same = c.loop-k.invariant.same in
    let below = c.loop-k-test.true in
    let len = c.len-past.ensures in
    let ok = c.args.shades.now.ok in
    let lengths = ap length same in
    omega arith

pub returns-in-Some-clause-gray : goal.returns-in-Some-clause-gray
returns-in-Some-clause-gray c =
    let now = c.loop-k.shades.items in
    let same = c.loop-k.invariant.same in
    subst (λ ss. is_gray ss c.in-Some.a ≡ true) same
    (found_gray now c.loop-k.k c.in-Some.a c.index_mut-shade.result.now c.index_mut-shade.ensures.value
    (subst AreApart (sym same) c.requires.background.apart)
    (within (goal.at.returns-in-Some-clause-gray c).In-Some) c.in-Some.ensures.covered c.in-Some.ensures.gray)

-- the place lies in the segment
found : (c : In-Some) → IsAt c.args.shades.now.items c.loop-k.k c.in-Some.a
found c =
    let now = c.loop-k.shades.items in
    let shade = c.index_mut-shade.result.now in
    let same = c.loop-k.invariant.same in
    subst (λ ss. IsAt ss c.loop-k.k c.in-Some.a) same
    (apart_at now c.loop-k.k c.in-Some.a shade (subst AreApart (sym same) c.requires.background.apart) (within c)
    (ap (λ (s : ShadeView). covers s c.in-Some.a) (sym c.index_mut-shade.ensures.value) ∙ c.in-Some.ensures.covered))

-- what becomes of all segments
taken : (c : In-Some) → set c.loop-k.shades.items c.loop-k.k c.take_gray.new.self
    ≡ changed_at c.in-Some.a (with_scanned c.in-Some.a) c.args.shades.now.items
taken c =
    let now = c.loop-k.shades.items in
    let shade = c.index_mut-shade.result.now in
    let same = c.loop-k.invariant.same in
    let a = c.in-Some.a in
    ap (λ (s : ShadeView). set now c.loop-k.k s)
    (c.in-Some.ensures.taken ∙ ap (λ (s : ShadeView). with_scanned a s) c.index_mut-shade.ensures.value)
    ∙ at_changed (with_scanned a) now c.loop-k.k a shade (subst (λ ss. IsAt ss c.loop-k.k a) (sym same) (found c))
    ∙ ap (changed_at a (with_scanned a)) same

pub returns-in-Some-clause-taken : goal.returns-in-Some-clause-taken
returns-in-Some-clause-taken c = taken (goal.at.returns-in-Some-clause-taken c).In-Some

pub returns-in-Some-clause-watched : goal.returns-in-Some-clause-watched
returns-in-Some-clause-watched c =
    let i = (goal.at.returns-in-Some-clause-watched c).In-Some in
    let ss = c.args.shades.now.items in
    let a = c.in-Some.a in
    let so_far = c.loop-k.invariant in
    let shade = c.index_mut-shade.result.now in
    subst (λ ts. IsWatched ts c.loop-k.pending.numbers) (sym (taken i))
    (watched_at ss c.loop-k.pending.numbers c.loop-k.pending.numbers c.loop-k.k a (with_scanned a) shade so_far.watched
    (found i) (scanned_background ss a so_far.watched.background) refl (λ k on. on)
    (gray_waits ss c.loop-k.pending.numbers c.loop-k.k a shade
    (c.index_mut-shade.ensures.value ∙ ap (λ ts. get_or ts c.loop-k.k shade) so_far.same) so_far.watched
    (let low = within i in let lengths = ap length so_far.same in omega (arith, low, lengths))
    c.in-Some.ensures.covered c.in-Some.ensures.gray))

pub returns-in-Some-clause-lowest : goal.returns-in-Some-clause-lowest
returns-in-Some-clause-lowest c =
    let i = (goal.at.returns-in-Some-clause-lowest c).In-Some in
    let so_far = c.loop-k.invariant in
    let shade = c.index_mut-shade.result.now in
    lowest_gray c.args.shades.now.items c.loop-k.pending.numbers so_far.watched c.loop-k.k c.in-Some.a shade
    (c.index_mut-shade.ensures.value ∙ ap (λ ts. get_or ts c.loop-k.k shade) so_far.same) so_far.above
    (let low = within i in let lengths = ap length so_far.same in omega (arith, low, lengths))
    c.in-Some.ensures.covered c.in-Some.ensures.aligned c.in-Some.ensures.lowest

pub loop-k-preserved : goal.loop-k-preserved
loop-k-preserved c =
    let now = c.loop-k.shades.items in
    let ss = c.args.shades.now.items in
    let so_far = c.loop-k.invariant in
    let same = so_far.same in
    let shade = c.index_mut-shade.result.now in
    let value = c.index_mut-shade.ensures.value in
    let below = c.loop-k-test.true in
    let len = c.len-past.ensures in
    let ok = c.args.shades.now.ok in
    let lengths = ap length same in
    let low : c.loop-k.k < length now = omega arith in
    let passed = c.pass-k.ensures in
    let read : (d : ShadeView) → shade ≡ get_or ss c.loop-k.k d =
    (λ d. value ∙ get_or_default now c.loop-k.k shade d low ∙ ap (λ ts. get_or ts c.loop-k.k d) same) in
    record {
      same = ap (λ (s : ShadeView). set now c.loop-k.k s) (c.in_default.ensures.same ∙ value)
          ∙ set-get_or now c.loop-k.k shade ∙ same;
      watched = watched_less ss c.loop-k.pending.numbers c.pass-k.new.self.numbers c.loop-k.k
          c.loop-k.pending.lowest so_far.lowest so_far.watched passed.length passed.numbers
          (λ d. subst HasNoGray (read d) c.in_default.ensures.none);
      lowest = passed.value;
      above = passed.above;
    }

pub returns-clause-none : goal.returns-clause-none
returns-clause-none c a =
    let ss = c.args.shades.now.items in
    let so_far = c.loop-k.invariant in
    let over = c.loop-k-test.false in
    let len = c.len-past.ensures in
    let ok = c.args.shades.now.ok in
    no_gray_at_all ss a (none_lower ss c.loop-k.pending.numbers c.loop-k.k so_far.watched so_far.above (omega arith))
