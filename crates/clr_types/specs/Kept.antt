-- What the records of src/ stand for.
use Rattle.std.specs.Prelude.{ℕ, List, Vec}
use Rattle.std.proofs.Common.{Global}
use Rattle.clr_types.specs.Types.{Form, class_form, references_form, bytes_form, structs_form}
use Rattle.clr_types.specs.declared.method_table.Pattern.{Pattern}
use Rattle.clr_types.specs.declared.method_table.Pattern.TheVariants.{Class, RefArray, ByteArray, StructArray}

-- the form that a kept pattern stands for
abbrev pub form_of_pattern : Pattern → Form
form_of_pattern (Class pattern) = class_form pattern.items
form_of_pattern RefArray = references_form
form_of_pattern ByteArray = bytes_form
form_of_pattern (StructArray pattern) = structs_form pattern.items

-- the bytes of a name
abbrev pub bytes_of : Vec ℕ Global → List ℕ
bytes_of name = name.items
