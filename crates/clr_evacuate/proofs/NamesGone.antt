-- Names from outside that go where what they name went.
use Rattle.std.proofs.Common.{◌≡◌, ◌≢◌, ℕ, ◌+◌, ◌<◌, ◌≤◌, List, [], ◌∷◌, ◌++◌, length, map, refl, ap, sym}
use Rattle.std.proofs.Common.{◌∙◌}
use Rattle.std.proofs.Common.{arith, get_or, set, take}
use Rattle.std.proofs.lemmas.List.{get_or-set_other, take_more, take_more_set}
use Rattle.clr_types.specs.Types.{TypeRow}
use Rattle.clr_heap.specs.View.{HeapView}
use Rattle.clr_evacuate.specs.Forwarding.{HasFollowed, LeadsBy}

-- what is told of one place
pub told : (rows : List TypeRow) (h : HeapView) (place moved : ℕ) (go : ℕ → ℕ) → LeadsBy rows h go
    → HasFollowed rows h place moved → moved ≡ go place
told rows h place moved go leads has = has.by go leads

map-append : (f : ℕ → ℕ) (xs ys : List ℕ) → map f (xs ++ ys) ≡ map f xs ++ map f ys
map-append f [] ys = refl
map-append f (x ∷ xs) ys = ap (λ (zs : List ℕ). f x ∷ zs) (map-append f xs ys)

-- the places from i on are those of before
abbrev pub AreSameFrom : List ℕ → List ℕ → ℕ → Type 0
AreSameFrom was now i = (j : ℕ) → i ≤ j → get_or now j 0 ≡ get_or was j 0

pub same-further : (was now : List ℕ) (i y : ℕ) → AreSameFrom was now i → AreSameFrom was (set now i y) (i + 1)
same-further was now i y same j high =
    let apart : j ≢ i = λ e. omega (arith, e, high) in
    get_or-set_other now i j y 0 apart ∙ same j (omega (arith, high))

-- one place more has gone
pub one-more : (f : ℕ → ℕ) (was now : List ℕ) (i y : ℕ) → i < length now → i < length was
    → take i now ≡ map f (take i was) → y ≡ f (get_or was i 0) → take (i + 1) (set now i y) ≡ map f (take (i + 1) was)
one-more f was now i y l m so_far is =
    take_more_set now i y l ∙ ap (λ (xs : List ℕ). xs ++ y ∷ []) so_far
    ∙ ap (λ (n : ℕ). map f (take i was) ++ n ∷ []) is
    ∙ sym (ap (map f) (take_more was i 0 m) ∙ map-append f (take i was) (get_or was i 0 ∷ []))

pub le-refl : (n : ℕ) → n ≤ n
le-refl n = omega arith
