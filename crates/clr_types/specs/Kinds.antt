-- What the kinds of handles are.
use Rattle.std.specs.Prelude.{Bool, true, false}
use Rattle.clr_types.specs.declared.handle.Kind.{Kind}
use Rattle.clr_types.specs.declared.handle.Kind.TheVariants.{Strong, Pinned, Weak, WeakLong, Dependent}

abbrev pub is_dependent : Kind → Bool
is_dependent Dependent = true
is_dependent Strong = false
is_dependent Pinned = false
is_dependent Weak = false
is_dependent WeakLong = false

abbrev pub is_pinned_kind : Kind → Bool
is_pinned_kind Pinned = true
is_pinned_kind Strong = false
is_pinned_kind Dependent = false
is_pinned_kind Weak = false
is_pinned_kind WeakLong = false

-- strong and pinned handles are roots
abbrev pub is_root_kind : Kind → Bool
is_root_kind Strong = true
is_root_kind Pinned = true
is_root_kind Weak = false
is_root_kind WeakLong = false
is_root_kind Dependent = false
