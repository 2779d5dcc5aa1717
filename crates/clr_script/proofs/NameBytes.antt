-- The table tells of each byte whether it may begin a name, and whether it may stand in one.
use Rattle.std.proofs.Common.{◌≡◌, ℕ, ◌<◌, get_or, refl}
use Rattle.std.specs.Prelude.{nat_eq, not}
use Rattle.std.proofs.lemmas.Bool.{agree_below_at}
use Rattle.clr_model.specs.LineGrammar.{is_name_byte, is_name_start}
use Rattle.clr_script.specs.declared.fields.TheConstants.{NAME_BYTES}

pub name_start-at : (b : ℕ) → b < 256 → nat_eq (get_or NAME_BYTES b 0) 50 ≡ is_name_start b
name_start-at b small = agree_below_at (λ m. nat_eq (get_or NAME_BYTES m 0) 50) is_name_start 256 b refl small

pub name_byte-at : (b : ℕ) → b < 256 → not (nat_eq (get_or NAME_BYTES b 0) 48) ≡ is_name_byte b
name_byte-at b small = agree_below_at (λ m. not (nat_eq (get_or NAME_BYTES m 0) 48)) is_name_byte 256 b refl small
