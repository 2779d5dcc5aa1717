use Rattle.std.proofs.Common.{◌≡◌, ℕ, List, [], ◌∷◌, ◌++◌, map, ap, ap₂, ◌∙◌, false}
use Rattle.std.proofs.lemmas.List.{map-append}
use Rattle.std.specs.List.{list_any}
use Rattle.clr_types.specs.Kept.{bytes_of}
use Rattle.clr_types.proofs.NameLists.{is_key, no_key}
use Rattle.clr_types.proofs.names.Names.add.Goals as goal

pub returns-clause-ok : goal.returns-clause-ok
returns-clause-ok c =
    let keys = c.self.inside.set.keys in
    let owned = c.in_ok-owned.owned in
    let name = c.args.name.now in
    let same : owned.items ≡ name = c.in_ok-owned.ensures.items in
    let first : list_any (is_key name) keys ≡ false = no_key 0 name keys (rw c.self.view_is c.requires) in
    let none : list_any (is_key owned.items) keys ≡ false = ap (λ (n : List ℕ). list_any (is_key n) keys) same ∙ first
    in
    let added : c.insert.new.self.keys ≡ keys ++ owned ∷ [] = rw none at c.in_ok-insert.ensures.keys in
    ap (map bytes_of) added ∙ map-append bytes_of keys (owned ∷ [])
    ∙ ap₂ (λ (xs : List (List ℕ)) (n : List ℕ). xs ++ n ∷ []) c.self.view_is same
