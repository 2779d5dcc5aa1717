use Rattle.std.proofs.Common.{◌≡◌, ◌/◌, ◌-◌, ℕ, ℤ, ap, sym, ◌∙◌, subst, List, [], Option, Some, None, IfSome, true}
use Rattle.std.proofs.Common.{arith}
use Rattle.std.proofs.lemmas.List.Folds.{list_any_at}
use Rattle.clr_covers.specs.Covers.{CoverView, has_unit, is_covered, IsAt}
use Rattle.clr_bricks.specs.Bricks.{IsSearched}
use Rattle.clr_bricks.proofs.Following.{found_exactly, none_exactly, reads_exactly}
use Rattle.clr_bricks.proofs.bricks.Bricks.find_brick_near.Goals as goal

-- what the search found, told of the bricks as they are seen
searched_now : (bs now : List (CoverView ℤ)) (i brick reads : ℕ) (result : Option ℕ) → bs ≡ now → i ≡ brick
    → IsSearched bs i result reads → IsSearched now brick result reads
searched_now bs now i brick reads result e f s =
    let P : List (CoverView ℤ) → Type 0 = λ ds. IsSearched ds i result reads in
    let Q : ℕ → Type 0 = λ j. IsSearched now j result reads in
    subst Q f (subst P e s)

covered_now : (bs now : List (CoverView ℤ)) (k : ℕ) (result : Option ℕ) → bs ≡ now → IfSome result (IsAt bs k)
    → IfSome result (λ b. is_covered now b ≡ true)
covered_now bs now k None e at = at
covered_now bs now k (Some b) e at =
    let none : CoverView ℤ = record { first = 0; values = [] } in
    ap (λ (ds : List (CoverView ℤ)). is_covered ds b) (sym e)
    ∙ list_any_at (λ c. has_unit c b) bs k none at.in_range (at.here none)

pub returns-clause-found : goal.returns-clause-found
returns-clause-found g c =
    found_exactly c.args.self.now (c.args.a / 4096) (c.search.new.steps - c.args.steps.now) c.search.result
    (searched_now _ _ _ _ _ _ c.self.view_is c.index-from.ensures.value c.search.ensures.searched)

pub returns-clause-none : goal.returns-clause-none
returns-clause-none g c =
    none_exactly c.args.self.now (c.args.a / 4096) (c.search.new.steps - c.args.steps.now) c.search.result
    (searched_now _ _ _ _ _ _ c.self.view_is c.index-from.ensures.value c.search.ensures.searched)

pub returns-clause-steps : goal.returns-clause-steps
returns-clause-steps g c b n stops =
    let reads =
    reads_exactly c.args.self.now (c.args.a / 4096) (c.search.new.steps - c.args.steps.now) c.search.result
    (searched_now _ _ _ _ _ _ c.self.view_is c.index-from.ensures.value c.search.ensures.searched) b n stops
    in
    omega (arith, reads)

pub returns-clause-covered : goal.returns-clause-covered
returns-clause-covered g c = covered_now _ _ c.locate-k.result c.search.result c.self.view_is c.search.ensures.there
