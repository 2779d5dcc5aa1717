-- The bits that a heap keeps in the words of its objects: in the method table word the mark, and in the header, the
-- word before it, whether a plan leaves the object where it is and whether its finaliser is suppressed.
use Rattle.std.specs.Prelude.{ℕ, ◌+◌, ◌-◌, ◌*◌, ◌/◌, ◌%◌, Bool, not, ◌&&◌, nat_eq, if◌then◌else◌}

-- ---- method table words

-- the mark in a method table word, bit 0, as a number: 1 where the word is marked
abbrev pub mark_of : ℕ → ℕ
mark_of w = w % 2

-- whether a method table word is marked
abbrev pub has_mark : ℕ → Bool
has_mark w = nat_eq (mark_of w) 1

-- a method table word without its mark
abbrev pub unmarked : ℕ → ℕ
unmarked w = w / 2 * 2

-- ---- headers

-- what the bit is worth that says that an object is pinned
abbrev pub pinned_bit : ℕ
pinned_bit = 0x20000000

-- whether a header says that its object is pinned
abbrev pub has_pin : ℕ → Bool
has_pin header = nat_eq (header / pinned_bit % 2) 1

-- the header with this in that bit, and all other bits as they were
abbrev pub pinned_header : Bool → ℕ → ℕ
pinned_header on header =
    if on && not (has_pin header) then header + pinned_bit
    else if not on && has_pin header then header - pinned_bit
    else header

-- what the bit is worth that says that the finaliser of an object is suppressed
abbrev pub suppressed_bit : ℕ
suppressed_bit = 0x40000000

-- whether a header says that the finaliser of its object is suppressed
abbrev pub has_suppressed_bit : ℕ → Bool
has_suppressed_bit header = nat_eq (header / suppressed_bit % 2) 1

-- the header with this in that bit, and all other bits as they were
abbrev pub flagged : Bool → ℕ → ℕ
flagged flag header =
    if flag && not (has_suppressed_bit header) then header + suppressed_bit
    else if not flag && has_suppressed_bit header then header - suppressed_bit
    else header
