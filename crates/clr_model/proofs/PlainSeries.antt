-- An array has no series of references just where it has no references.
use Rattle.std.proofs.Common.{◌≡◌, ◌≢◌, ℕ, ◌+◌, Bool, true, false, ◌||◌, List, [], ◌∷◌, map, refl, ap, ◌∙◌}
use Rattle.std.specs.List.{list_any}
use Rattle.std.proofs.lemmas.List.{append-nil}
use Rattle.clr_types.specs.Descriptors.{runs_from, runs_of, series_of}
use Rattle.clr_types.specs.Types.{bytes_form, class_form, Form, is_array, is_array_with_references, is_reference}
use Rattle.clr_types.specs.Types.{references_form, slot_kinds, structs_form}

-- slots without a reference have no runs of them
none-runs : (i : ℕ) (kinds : List Bool) → list_any (λ b. b) kinds ≡ false → runs_from false i kinds ≡ []
none-runs i [] none = refl
none-runs i (false ∷ kinds) none = none-runs (i + 1) kinds none
none-runs i (true ∷ kinds) none = absurd cc

-- and slots with one have some
some-runs : (i : ℕ) (kinds : List Bool) → list_any (λ b. b) kinds ≡ true → runs_from false i kinds ≢ []
some-runs i [] some = λ same. cc
some-runs i (false ∷ kinds) some = some-runs (i + 1) kinds some
some-runs i (true ∷ kinds) some = λ same. cc

any-mapped : (pattern : List ℕ) → list_any (λ b. b) (map is_reference pattern) ≡ list_any is_reference pattern
any-mapped [] = refl
any-mapped (x ∷ xs) = ap (λ (b : Bool). is_reference x || b) (any-mapped xs)

map-none : {X Y : Type 0} (f : X → Y) (xs : List X) → map f xs ≡ [] → xs ≡ []
map-none f [] same = refl
map-none f (x ∷ xs) same = absurd cc

-- whether one of the slots of an array's element is a reference
element-refers : (form : Form) → is_array form ≡ true
    → list_any (λ b. b) (slot_kinds form 1) ≡ is_array_with_references form
element-refers (class_form pattern) array = absurd cc
element-refers references_form array = refl
element-refers bytes_form array = refl
element-refers (structs_form pattern) array =
    ap (list_any (λ b. b)) (append-nil (map is_reference pattern)) ∙ any-mapped pattern

pub plain_series : (form : Form) → is_array form ≡ true → is_array_with_references form ≡ false → series_of form ≡ []
plain_series form array plain = ap (map _) (none-runs 0 (slot_kinds form 1) (element-refers form array ∙ plain))

pub series_refer : (form : Form) → is_array form ≡ true → is_array_with_references form ≡ true → series_of form ≢ []
series_refer form array refers =
    λ same. some-runs 0 (slot_kinds form 1) (element-refers form array ∙ refers)
    (map-none _ (runs_of (slot_kinds form 1)) same)
