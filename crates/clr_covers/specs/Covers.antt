-- Units of memory with a value each, in covers: stretches of units that stand apart.
use Rattle.std.specs.Prelude.{◌≡◌, ℕ, ◌+◌, ◌-◌, ◌^◌, ◌<◌, ◌≤◌, Bool, true, false, ◌&&◌, ◌==◌, nat_le, nat_lt, refl}
use Rattle.std.specs.Prelude.{if◌then◌else◌, List, [], ◌∷◌, length, get_or, set, map, replicate}
use Rattle.std.specs.List.{AllByRecursion, list_any}
use Rattle.std.specs.Coded.{Coded, code_by, coded×, coded_ℕ, coded_list}

-- a cover: the number of its first unit, and the values of its units
pub record CoverView (X : Type 0) : Type 0 where
  pub first : ℕ
  pub values : List X

-- a cover is stored as the pair of its parts
abbrev pub cover_code : {X : Type 0} → Coded X → Coded (CoverView X)
cover_code {X} c =
    code_by (ℕ × List X) (coded× coded_ℕ (coded_list c)) (λ m. (m.first, m.values))
    (λ p. record { first = p.0; values = p.1 }) (λ _. refl)

module _ {X : Type 0} where
  -- the cover of the units from `first` on, with these values
  abbrev pub cover_of : ℕ → List X → CoverView X
  cover_of first values = record { first = first; values = values }

  -- n values that are all v; not an `abbrev`, since antt would write out a list of a literal's length
  unfoldable pub same_values : X → ℕ → List X
  same_values v n = replicate n v

  -- one past the last unit
  abbrev pub past_last : CoverView X → ℕ
  past_last c = c.first + length c.values

  -- whether the unit belongs to the cover
  abbrev pub has_unit : CoverView X → ℕ → Bool
  has_unit c i = nat_le c.first i && nat_lt i (past_last c)

  -- whether the unit belongs to one of the covers
  abbrev pub is_covered : List (CoverView X) → ℕ → Bool
  is_covered cs i = list_any (λ c. has_unit c i) cs

  -- whether both units belong to the same cover
  abbrev pub share_cover : List (CoverView X) → ℕ → ℕ → Bool
  share_cover cs i j = list_any (λ c. has_unit c i && has_unit c j) cs

  -- the value of the unit, and d where no cover has it
  abbrev pub value_at : X → List (CoverView X) → ℕ → X
  value_at d [] i = d
  value_at d (c ∷ cs) i = if has_unit c i then get_or c.values (i - c.first) d else value_at d cs i

  -- a cover with the value of its unit i replaced
  abbrev pub cover_with : CoverView X → ℕ → X → CoverView X
  cover_with c i v = record { first = c.first; values = set c.values (i - c.first) v }

  -- the covers with the value of the unit replaced
  abbrev pub with_value : List (CoverView X) → ℕ → X → List (CoverView X)
  with_value [] i v = []
  with_value (c ∷ cs) i v = if has_unit c i then cover_with c i v ∷ cs else c ∷ with_value cs i v

  -- the covers with one more, before the first that begins above it
  abbrev pub with_cover : CoverView X → List (CoverView X) → List (CoverView X)
  with_cover c [] = c ∷ []
  with_cover c (d ∷ ds) = if nat_lt c.first d.first then c ∷ d ∷ ds else d ∷ with_cover c ds

  -- the covers without the one that begins with this unit
  abbrev pub without_cover : ℕ → List (CoverView X) → List (CoverView X)
  without_cover i [] = []
  without_cover i (c ∷ cs) = if c.first == i then cs else c ∷ without_cover i cs

  -- whether a cover begins with this unit
  abbrev pub begins : List (CoverView X) → ℕ → Bool
  begins cs i = list_any (λ c. c.first == i) cs

  -- where a cover begins, and how many units it has, which no new value changes
  abbrev pub span_of : CoverView X → ℕ × ℕ
  span_of c = (c.first, length c.values)

  abbrev pub spans : List (CoverView X) → List (ℕ × ℕ)
  spans cs = map span_of cs

  -- the covers begin at b or above
  abbrev pub IsAbove : ℕ → List (CoverView X) → Type 0
  IsAbove b cs = AllByRecursion (λ c. b ≤ c.first) cs

  -- No cover is empty or reaches into the next, and no unit has the number 2^53 or above: so a unit of 2,048 bytes has
  -- addresses of 64 bits.
  abbrev pub AreApart : List (CoverView X) → Type 0
  AreApart [] = Unit {0}
  AreApart (c ∷ cs) = (0 < length c.values) × (past_last c < 2 ^ 53) × IsAbove (past_last c) cs × AreApart cs

  -- no cover has one of the units from low up to past
  abbrev pub IsFree : List (CoverView X) → ℕ → ℕ → Type 0
  IsFree cs low past = (i : ℕ) → low ≤ i → i < past → is_covered cs i ≡ false

  -- one cover has all units from low up to past
  abbrev pub HasAll : List (CoverView X) → ℕ → ℕ → Type 0
  HasAll cs low past = (i j : ℕ) → low ≤ i → i < past → low ≤ j → j < past → share_cover cs i j ≡ true

  -- cover k has the unit
  pub record IsAt (cs : List (CoverView X)) (k i : ℕ) : Type 0 where
    pub in_range : k < length cs
    pub here : (d : CoverView X) → has_unit (get_or cs k d) i ≡ true
