-- What migration promises: the second version of an image is an image, and says the same.
use Rattle.std.specs.Prelude.{◌≡◌, ℕ, List, map, true, false}
use Rattle.clr_format.specs.HeapFields.{Body}
use Rattle.clr_format.specs.Images.{IsImage, is_first, Parts}
use Rattle.clr_format.specs.Saved.{migrated}

-- bodies that differ only in offsets
pub record SameBody (b c : Body) : Type 0 where
  pub heap : c.heap ≡ b.heap
  pub items : c.items ≡ b.items
  pub names : map (λ (r : ℕ × ℕ). r.1) c.references ≡ map (λ (r : ℕ × ℕ). r.1) b.references

-- parts that differ only in the version, and in offsets
pub record AreMigrated (p q : Parts) : Type 0 where
  pub head : q.head ≡ record p.head { first = false }
  pub types : q.types ≡ p.types
  pub body : SameBody p.body q.body
  pub locals : q.rest.locals ≡ p.rest.locals
  pub tables : q.rest.tables ≡ p.rest.tables

-- an image of the first version becomes one of the second with the same parts
abbrev pub MigrationLaw : Type 0
MigrationLaw = (bytes : List ℕ) (p : Parts) → is_first bytes ≡ true → IsImage bytes p
    → (q : Parts) × IsImage (migrated true bytes) q × AreMigrated p q
