-- The parts of an image one behind the other.
use Rattle.std.proofs.Common.{◌≡◌, ℕ, Bool, List, Result, Ok, Err, refl, sym, ◌∙◌, ap}
use Rattle.clr_types.specs.Types.{TypeRow}
use Rattle.clr_fields.specs.Fields.{found, found_then, Fields, gives, ◌>>=◌}
use Rattle.clr_fields.specs.Finds.{Tells}
use Rattle.clr_fields.specs.TypeFields.{types_fields}
use Rattle.clr_fields.specs.declared.fault.LoadFault.{LoadFault}
use Rattle.clr_fields.specs.declared.fault.LoadFault.TheVariants.{At, NoMemory}
use Rattle.clr_load.specs.Bodies.{LoadsTo}
use Rattle.clr_format.specs.HeapFields as fields
use Rattle.clr_format.specs.HeapFields.{heap_fields}
use Rattle.clr_format.specs.Images as images
use Rattle.clr_format.specs.Images.{common_fields, head_fields, parts_fields, rest_fields}
use Rattle.clr_load.specs.KeptParts.{IsParts, Keeps, ReadsParts}
use Rattle.clr_format.specs.declared.head.Head.{Head}
use Rattle.clr_load.specs.declared.parts.Kept.{Kept}

module _ (head : Head) (bytes : List ℕ) (o : ℕ) where
  abbrev parts_of : List TypeRow → fields.Body → images.Rest → images.Parts
  parts_of types body rest = record { head = head; types = types; body = body; rest = rest }

  abbrev after_heap : List TypeRow → fields.Body → Fields images.Parts
  after_heap types body = rest_fields head types >>= (λ rest. gives (parts_of types body rest))

  abbrev after_types : List TypeRow → Fields images.Parts
  after_types types = heap_fields head types >>= after_heap types

  common_then : common_fields head bytes o ≡ found_then bytes after_types (types_fields bytes o)
  unfolding common_fields
  common_then = refl

  pub types_fail : (B C : Type 0) (R : C → images.Parts → Type 0) (see : B → List TypeRow) (e : LoadFault) (n m : ℕ)
      → Tells {B = B} see (types_fields bytes o) (Err e) n → Keeps {B = C} R (common_fields head bytes o) (Err e) m
  types_fail B C R see NoMemory n m tells = tt
  types_fail B C R see (At a) n m tells = common_then ∙ ap (found_then bytes after_types) tells

  module _ (rows : List TypeRow) (o1 : ℕ) (typed : types_fields bytes o ≡ found rows o1) where
    typed_then : common_fields head bytes o ≡ found_then bytes (after_heap rows) (heap_fields head rows bytes o1)
    typed_then = common_then ∙ ap (found_then bytes after_types) typed

    pub heap_fails : (B C : Type 0) (R : C → images.Parts → Type 0) (P : fields.Body → Type 0) (e : LoadFault) (n m : ℕ)
        → LoadsTo {B = B} P (heap_fields head rows bytes o1) (Err e) n
        → Keeps {B = C} R (common_fields head bytes o) (Err e) m
    heap_fails B C R P NoMemory n m tells = tt
    heap_fails B C R P (At a) n m tells = typed_then ∙ ap (found_then bytes (after_heap rows)) tells

    module _ (b : fields.Body) (o2 : ℕ) (heaped : heap_fields head rows bytes o1 ≡ found b o2) where
      heap_then : common_fields head bytes o
          ≡ found_then bytes (λ rest. gives (parts_of rows b rest)) (rest_fields head rows bytes o2)
      heap_then = typed_then ∙ ap (found_then bytes (after_heap rows)) heaped

      pub rest_fails : (B C : Type 0) (R : C → images.Parts → Type 0) (see : B → images.Rest) (e : LoadFault) (n m : ℕ)
          → Tells {B = B} see (rest_fields head rows bytes o2) (Err e) n
          → Keeps {B = C} R (common_fields head bytes o) (Err e) m
      rest_fails B C R see NoMemory n m tells = tt
      rest_fails B C R see (At a) n m tells =
          heap_then ∙ ap (found_then bytes (λ rest. gives (parts_of rows b rest))) tells

      pub all_found : (rest : images.Rest) (o3 : ℕ) → rest_fields head rows bytes o2 ≡ found rest o3
          → common_fields head bytes o ≡ found (parts_of rows b rest) o3
      all_found rest o3 e = heap_then ∙ ap (found_then bytes (λ rest. gives (parts_of rows b rest))) e

-- ---- the whole first pass

module _ (bytes : List ℕ) where
  parts_then : images.fields_of bytes
      ≡ found_then bytes common_fields (head_fields (images.is_first bytes) bytes 0)
  unfolding parts_fields
  parts_then = refl

  pub first_fails : (B : Type 0) (see : B → Head) (first : Bool) (e : LoadFault) (n : ℕ)
      → first ≡ images.is_first bytes → Tells {B = B} see (head_fields first bytes 0) (Err e) n
      → ReadsParts bytes (Err e)
  first_fails B see first NoMemory n is tells = tt
  first_fails B see first (At a) n is tells =
      parts_then
      ∙ ap (found_then bytes common_fields) (ap (λ (f : Bool). head_fields f bytes 0) (sym is) ∙ tells)

  first_then : (first : Bool) (head : Head) (n : ℕ) → first ≡ images.is_first bytes
      → head_fields first bytes 0 ≡ found head n → images.fields_of bytes ≡ common_fields head bytes n
  first_then first head n is told =
      parts_then ∙ ap (found_then bytes common_fields) (ap (λ (f : Bool). head_fields f bytes 0) (sym is) ∙ told)

  pub first_found : (first : Bool) (head : Head) (n next : ℕ) (answer : Result Kept LoadFault)
      → first ≡ images.is_first bytes → head_fields first bytes 0 ≡ found head n
      → Keeps (IsParts bytes) (common_fields head bytes n) answer next → ReadsParts bytes answer
  first_found first head n next (Ok kept) is told (p, there, parts) =
      (p, next, first_then first head n is told ∙ there, parts)
  first_found first head n next (Err (At a)) is told there = first_then first head n is told ∙ there
  first_found first head n next (Err NoMemory) is told there = tt
