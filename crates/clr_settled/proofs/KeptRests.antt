-- What is left of contexts, as it is kept and given up.
use Rattle.std.proofs.Common.{◌≡◌, ℕ, suc, ◌%◌, ◌≤◌, List, [], ◌∷◌, ◌++◌, length, map, refl, ap, ◌∙◌}
use Rattle.std.proofs.Common.{arith, Option, None, Some, append-nil}
use Rattle.std.specs.List.{AllByRecursion}
use Rattle.clr_types.specs.LawfulLayout.{AreDisjoint, IsLawfulSegment}
use Rattle.clr_types.specs.Ranges.{by_place, Piece}
use Rattle.clr_types.specs.Segments.{reserved_end, rest_pieces}
use Rattle.clr_types.specs.declared.segment.SegInfo.{SegInfo}
use Rattle.clr_types.proofs.ChangedLists.{sorted_by-done, sorted_by-sorted}
use Rattle.clr_types.proofs.Shuffles.{followed, IsShuffled, nothing, shuffled-same, swapped, under}
use Rattle.clr_model.specs.Machine.{begun_new, begun_store, no_step, ThreadStep}
use Rattle.clr_model.specs.Picture.{renamed_step}
use Rattle.clr_settled.specs.Settled.{highest_end, kept_rests, left_rests}

-- ---- twice

pub kept-twice : (steps : List ThreadStep) (rests : List (Option Piece))
    → kept_rests steps (kept_rests steps rests) ≡ kept_rests steps rests
kept-twice steps [] = refl
kept-twice [] (r ∷ rs) = ap (λ (more : List (Option Piece)). None ∷ more) (kept-twice [] rs)
kept-twice (no_step ∷ ss) (r ∷ rs) = ap (λ (more : List (Option Piece)). None ∷ more) (kept-twice ss rs)
kept-twice (begun_store object slot ∷ ss) (r ∷ rs) =
    ap (λ (more : List (Option Piece)). None ∷ more) (kept-twice ss rs)
kept-twice (begun_new type len local ∷ ss) (r ∷ rs) =
    ap (λ (more : List (Option Piece)). r ∷ more) (kept-twice ss rs)

pub none-left : (steps : List ThreadStep) (rests : List (Option Piece)) → left_rests steps (kept_rests steps rests) ≡ []
none-left steps [] = refl
none-left [] (r ∷ rs) = none-left [] rs
none-left (no_step ∷ ss) (r ∷ rs) = none-left ss rs
none-left (begun_store object slot ∷ ss) (r ∷ rs) = none-left ss rs
none-left (begun_new type len local ∷ ss) (r ∷ rs) = none-left ss rs

pub by_place-twice : (ps more : List Piece) → more ≡ [] → by_place (by_place ps ++ more) ≡ by_place ps
by_place-twice ps more none =
    ap (λ (qs : List Piece). by_place (by_place ps ++ qs)) none
    ∙ ap by_place (append-nil (by_place ps))
    ∙ sorted_by-done (λ (p : Piece). p.place) (by_place ps) (sorted_by-sorted (λ (p : Piece). p.place) ps)

-- ---- names

pub kept-renamed : (to : ℕ → ℕ) (steps : List ThreadStep) (rests : List (Option Piece))
    → kept_rests (map (renamed_step to) steps) rests ≡ kept_rests steps rests
kept-renamed to steps [] = refl
kept-renamed to [] (r ∷ rs) = refl
kept-renamed to (no_step ∷ ss) (r ∷ rs) = ap (λ (more : List (Option Piece)). None ∷ more) (kept-renamed to ss rs)
kept-renamed to (begun_store object slot ∷ ss) (r ∷ rs) =
    ap (λ (more : List (Option Piece)). None ∷ more) (kept-renamed to ss rs)
kept-renamed to (begun_new type len local ∷ ss) (r ∷ rs) =
    ap (λ (more : List (Option Piece)). r ∷ more) (kept-renamed to ss rs)

pub left-renamed : (to : ℕ → ℕ) (steps : List ThreadStep) (rests : List (Option Piece))
    → left_rests (map (renamed_step to) steps) rests ≡ left_rests steps rests
left-renamed to steps [] = refl
left-renamed to [] (r ∷ rs) = refl
left-renamed to (no_step ∷ ss) (None ∷ rs) = left-renamed to ss rs
left-renamed to (no_step ∷ ss) (Some p ∷ rs) = ap (λ (more : List Piece). p ∷ more) (left-renamed to ss rs)
left-renamed to (begun_store object slot ∷ ss) (None ∷ rs) = left-renamed to ss rs
left-renamed to (begun_store object slot ∷ ss) (Some p ∷ rs) =
    ap (λ (more : List Piece). p ∷ more) (left-renamed to ss rs)
left-renamed to (begun_new type len local ∷ ss) (r ∷ rs) = left-renamed to ss rs

-- ---- all of them

-- a piece goes behind others
behind : (p : Piece) (xs ys : List Piece) → IsShuffled (p ∷ (xs ++ ys)) (xs ++ p ∷ ys)
behind p [] ys = shuffled-same (p ∷ ys)
behind p (x ∷ xs) ys = followed swapped (under (behind p xs ys))

-- what is given up and what is kept are all that was left
pub rests-shuffled : (steps : List ThreadStep) (rests : List (Option Piece))
    → IsShuffled (rest_pieces rests) (left_rests steps rests ++ rest_pieces (kept_rests steps rests))
rests-shuffled steps [] = nothing
rests-shuffled [] (None ∷ rs) = rests-shuffled [] rs
rests-shuffled [] (Some p ∷ rs) = under (rests-shuffled [] rs)
rests-shuffled (no_step ∷ ss) (None ∷ rs) = rests-shuffled ss rs
rests-shuffled (no_step ∷ ss) (Some p ∷ rs) = under (rests-shuffled ss rs)
rests-shuffled (begun_store object slot ∷ ss) (None ∷ rs) = rests-shuffled ss rs
rests-shuffled (begun_store object slot ∷ ss) (Some p ∷ rs) = under (rests-shuffled ss rs)
rests-shuffled (begun_new type len local ∷ ss) (None ∷ rs) = rests-shuffled ss rs
rests-shuffled (begun_new type len local ∷ ss) (Some p ∷ rs) =
    followed (under (rests-shuffled ss rs)) (behind p (left_rests ss rs) (rest_pieces (kept_rests ss rs)))

pub kept-count : (steps : List ThreadStep) (rests : List (Option Piece))
    → length (kept_rests steps rests) ≡ length rests
kept-count steps [] = refl
kept-count [] (r ∷ rs) = ap suc (kept-count [] rs)
kept-count (s ∷ ss) (r ∷ rs) = ap suc (kept-count ss rs)

-- the pieces that are kept were there
pub kept-all : (P : Piece → Type 0) (steps : List ThreadStep) (rests : List (Option Piece))
    → AllByRecursion P (rest_pieces rests) → AllByRecursion P (rest_pieces (kept_rests steps rests))
kept-all P steps [] all = tt
kept-all P [] (None ∷ rs) all = kept-all P [] rs all
kept-all P [] (Some p ∷ rs) all = kept-all P [] rs all.1
kept-all P (no_step ∷ ss) (None ∷ rs) all = kept-all P ss rs all
kept-all P (no_step ∷ ss) (Some p ∷ rs) all = kept-all P ss rs all.1
kept-all P (begun_store object slot ∷ ss) (None ∷ rs) all = kept-all P ss rs all
kept-all P (begun_store object slot ∷ ss) (Some p ∷ rs) all = kept-all P ss rs all.1
kept-all P (begun_new type len local ∷ ss) (None ∷ rs) all = kept-all P ss rs all
kept-all P (begun_new type len local ∷ ss) (Some p ∷ rs) all = (all.0, kept-all P ss rs all.1)

-- ---- segments

-- each segment ends below where the last one does
pub below-highest : (ss : List SegInfo) → AreDisjoint ss
    → AllByRecursion (λ (s : SegInfo). reserved_end s ≤ highest_end ss) ss
below-highest [] d = tt
below-highest (s ∷ []) d = (omega arith, tt)
below-highest (s ∷ t ∷ ss) d =
    let rest = below-highest (t ∷ ss) d.1 in
    let above : reserved_end s ≤ t.base = d.0.0 in
    let next : reserved_end t ≤ highest_end (t ∷ ss) = rest.0 in
    (omega arith, rest)

pub highest-aligned : (ss : List SegInfo) → AllByRecursion IsLawfulSegment ss → highest_end ss % 4096 ≡ 0
highest-aligned [] all = refl
highest-aligned (s ∷ []) all =
    let base = all.0.base in
    let reserved = all.0.reserved in
    omega arith
highest-aligned (s ∷ t ∷ ss) all = highest-aligned (t ∷ ss) all.1
