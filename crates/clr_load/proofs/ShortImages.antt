-- An image isn't shorter than what stands before its types.
use Rattle.std.proofs.Common.{◌≡◌, ℕ, ◌≤◌, ◌<◌, ◌+◌, ◌&&◌, ◌⊎◌, Bool, true, false, List, length, take, drop, refl}
use Rattle.std.proofs.Common.{arith, sym, ◌∙◌}
use Rattle.std.proofs.Common.{None, nat_le, codes, inl, inr}
use Rattle.std.proofs.lemmas.Bool.{cases_lt}
use Rattle.std.proofs.lemmas.Bool.Decides.{nat_tests}
use Rattle.clr_fields.specs.Fields.{fault, Found, found, word_at}
use Rattle.clr_format.specs.Images.{first_head_fields, parts_fields, image_of, is_first, IsImage, magic}
use Rattle.clr_format.specs.Images.{Parts}

-- no word stands there
no_word : (bytes : List ℕ) → length bytes < 16 → word_at bytes 8 ≡ None
unfolding word_at
no_word bytes short = let past : nat_le (8 + 8) (length bytes) ≡ false = grind (arith, nat_tests) in rw past refl

record IsFault {A : Type 0} (found_ : Found A) : Type 0 where
  at : ℕ
  is : found_ ≡ fault at

head_fault : (bytes : List ℕ) → length bytes < 16 → IsFault (first_head_fields bytes 0)
unfolding first_head_fields
head_fault bytes short = go (nat_le (0 + 8) (length bytes) && magic (codes "CLRHEAP1") (take 8 (drop 0 bytes))) refl
  where
    go : (t : Bool) → (nat_le (0 + 8) (length bytes) && magic (codes "CLRHEAP1") (take 8 (drop 0 bytes))) ≡ t
        → IsFault (first_head_fields bytes 0)
    go true e = record { at = 8; is = let none = no_word bytes short in rw (e, none) refl }
    go false e = record { at = 0; is = rw e refl }

all_fault : (bytes : List ℕ) (o : ℕ) → is_first bytes ≡ true → first_head_fields bytes 0 ≡ fault o
    → image_of bytes ≡ fault o
unfolding image_of parts_fields
all_fault bytes o first e = rw (first, e) refl

pub long_enough : (bytes : List ℕ) (parts : Parts) → IsImage bytes parts → is_first bytes ≡ true → 16 ≤ length bytes
long_enough bytes parts image first = go (cases_lt (length bytes) 16)
  where
    go : (length bytes < 16) ⊎ (16 ≤ length bytes) → 16 ≤ length bytes
    go (inr long) = long
    go (inl short) =
        let f = head_fault bytes short in
        let clash : ◌≡◌ {A = Found Parts} (found parts (length bytes)) (fault f.at) =
        sym image.is ∙ all_fault bytes f.at first f.is in
        absurd cc
