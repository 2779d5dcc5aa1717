use Rattle.std.proofs.Common.{◌≡◌, ◌<◌, ◌≤◌, ℕ, length, get_or, ap, sym, ◌∙◌, subst, List, arith}
use Rattle.clr_covers.specs.Covers.{AreApart, CoverView}
use Rattle.clr_covers.proofs.Changing.{AreApart-with_cover, insert_is}
use Rattle.clr_covers.proofs.covers.put_in.Goals as goal

pub returns-clause-ok : goal.returns-clause-ok
returns-clause-ok g c =
    let cs = c.args.covers.now.items in
    let new = c.args.cover in
    let p = c.place_for-at.ensures in
    let first : c.cover.inside.first ≡ new.first = ap (λ (n : CoverView _). n.first) c.cover.view_is in
    let before : (j : ℕ) → j < c.place_for-at.result → (get_or cs j new).first ≤ new.first =
    λ j h. (let b = p.before new j h in omega arith)
    in
    let behind : c.place_for-at.result < length cs → new.first < (get_or cs c.place_for-at.result new).first =
    λ h. (let b = p.behind new h in omega arith)
    in
    c.in_ok-insert.ensures.items ∙ insert_is new cs c.place_for-at.result new p.in_range before behind

pub returns-clause-apart : goal.returns-clause-apart
returns-clause-apart g c =
    let P : List (CoverView _) → Type 0 = AreApart in
    let r = c.requires in
    subst P (sym (returns-clause-ok g c))
    (AreApart-with_cover c.args.cover c.args.covers.now.items r.some r.fits r.free r.apart)
