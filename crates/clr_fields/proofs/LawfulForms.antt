-- What was read of a type is a form that a type may have.
use Rattle.std.proofs.Common.{◌≡◌, ℕ, suc, ◌≤◌, ◌+◌, ◌==◌, Bool, true, false, List, [], ◌∷◌, length, refl, arith}
use Rattle.std.proofs.Common.{Some, None, cond, not, ◌&&◌, nat_lt}
use Rattle.std.specs.List.{list_all, position, prefix_len}
use Rattle.std.proofs.lemmas.Grind.{common_steps}
use Rattle.std.proofs.lemmas.Bool.Decides.{nat_tests}
use Rattle.clr_types.specs.Types.{is_lawful_form, is_pattern_byte}
use Rattle.clr_fields.specs.TypeFields.{form_with, is_final_mark, is_no_slot, is_pattern_length}

-- where no byte is bad from the front on, all are slots
pub all_slots : (xs : List ℕ) → length xs ≤ prefix_len (λ b. not (is_no_slot b)) xs
    → list_all is_pattern_byte xs ≡ true
all_slots [] h = refl
all_slots (x ∷ xs) h = go (is_pattern_byte x) h (all_slots xs)
  where
    go : (good : Bool) → suc (length xs) ≤ cond (not (not good)) (1 + prefix_len (λ b. not (is_no_slot b)) xs) 0
        → (length xs ≤ prefix_len (λ b. not (is_no_slot b)) xs → list_all is_pattern_byte xs ≡ true)
        → (good && list_all is_pattern_byte xs) ≡ true
    go true e rest = rest (omega arith)
    go false e rest = absurd (omega arith)

pub no_bad : (xs : List ℕ) → position is_no_slot xs ≡ None → list_all is_pattern_byte xs ≡ true
no_bad xs h = all_slots xs (go _ refl h)
  where
    go : (t : Bool) → nat_lt (prefix_len (λ b. not (is_no_slot b)) xs) (length xs) ≡ t
        → cond t (Some (prefix_len (λ b. not (is_no_slot b)) xs)) None ≡ None
        → length xs ≤ prefix_len (λ b. not (is_no_slot b)) xs
    go true e none = absurd cc
    go false e none = grind (arith, nat_tests)

pub lawful_form : (s f n : ℕ) (p : List ℕ) → s ≤ 3 → is_final_mark s f ≡ true → is_pattern_length s n ≡ true
    → length p ≡ n → position is_no_slot p ≡ None → is_lawful_form (form_with s p) (f == 1) ≡ true
lawful_form s f n p few final most len none = let good = no_bad p none in grind (arith, nat_tests, common_steps)
