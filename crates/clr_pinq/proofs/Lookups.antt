-- Where the word that is saved for an address stands among the entries.
use Rattle.std.proofs.Common.{◌≡◌, ◌≢◌, inl, inr, ℕ, zero, suc, ◌+◌, ◌<◌, ◌≤◌, List, [], ◌∷◌, length, get_or, refl, ap}
use Rattle.std.proofs.Common.{sym, ◌∙◌, subst, arith, Option, Some, None}
use Rattle.std.specs.Prelude.{IsSome}
use Rattle.std.proofs.lemmas.Bool.{cases_lt, ne_eqb}
use Rattle.clr_pinq.specs.Queue.{AllLie, AreRising, ComesAfter, entry_word, first_of_two, IsPlain, option_word}
use Rattle.clr_pinq.specs.Queue.{queue_word, saved_word}
use Rattle.clr_pinq.specs.declared.entry.PinEntry.{PinEntry}
use Rattle.clr_pinq.specs.declared.entry.Saved.{Saved}

-- nothing is saved for an address that is none of the three
pub saved_none : (s : Saved) (a : ℕ) → a ≢ s.at → a ≢ s.at + 8 → a ≢ s.at + 16 → saved_word s a ≡ None
saved_none s a n0 n1 n2 = rw (ne_eqb a s.at n0, ne_eqb a (s.at + 8) n1, ne_eqb a (s.at + 16) n2) refl

option_low : (low high : ℕ) (o : Option Saved) (a : ℕ) → AllLie low high o → high ≤ a + 8 → option_word o a ≡ None
option_low low high None a l h = refl
option_low low high (Some s) a l h = let b = l.below in
    saved_none s a (λ e. omega (arith, b, h, e)) (λ e. omega (arith, b, h, e)) (λ e. omega (arith, b, h, e))

option_high : (low high : ℕ) (o : Option Saved) (a : ℕ) → AllLie low high o → a + 8 < low → option_word o a ≡ None
option_high low high None a l h = refl
option_high low high (Some s) a l h = let b = l.above in
    saved_none s a (λ e. omega (arith, b, h, e)) (λ e. omega (arith, b, h, e)) (λ e. omega (arith, b, h, e))

-- an entry that ends below the address, and one that begins above it, save nothing for it
pub entry_low : (low : ℕ) (e : PinEntry) (a : ℕ) → ComesAfter low e → e.end ≤ a + 8 → entry_word e a ≡ None
entry_low low e a c h = rw (option_low low e.end e.pre a c.pre h) (option_low low e.end e.post a c.post h)

pub entry_high : (low : ℕ) (e : PinEntry) (a : ℕ) → ComesAfter low e → a + 8 < low → entry_word e a ≡ None
entry_high low e a c h = rw (option_high low e.end e.pre a c.pre h) (option_high low e.end e.post a c.post h)

pub queue_high : (low : ℕ) (es : List PinEntry) (a : ℕ) → AreRising low es → a + 8 < low → queue_word es a ≡ None
queue_high low [] a r h = refl
queue_high low (e ∷ es) a r h = let up = r.0.rises in
    rw (entry_high low e a r.0 h) (queue_high e.end es a r.1 (omega (arith, h, up)))

pub first_none : (o : Option ℕ) → first_of_two o None ≡ o
first_none None = refl
first_none (Some w) = refl

-- the entry whose end is the first above the address is the one that may save a word for it
pub queue_at : (low : ℕ) (es : List PinEntry) (i a : ℕ) (d : PinEntry) → AreRising low es
    → ((j : ℕ) → j < i → (get_or es j d).end ≤ a + 8) → i < length es → a + 8 < (get_or es i d).end
    → queue_word es a ≡ entry_word (get_or es i d) a
queue_at low [] i a d r below less up = absurd (omega (arith, less))
queue_at low (e ∷ es) zero a d r below less up = rw (queue_high e.end es a r.1 up) (first_none (entry_word e a))
queue_at low (e ∷ es) (suc i) a d r below less up =
    rw (entry_low low e a r.0 (below 0 (omega arith)))
    (queue_at e.end es i a d r.1 (λ j h. below (suc j) (omega (arith, h))) (omega (arith, less)) up)

pub queue_past : (low : ℕ) (es : List PinEntry) (a : ℕ) (d : PinEntry) → AreRising low es
    → ((j : ℕ) → j < length es → (get_or es j d).end ≤ a + 8) → queue_word es a ≡ None
queue_past low [] a d r below = refl
queue_past low (e ∷ es) a d r below =
    rw (entry_low low e a r.0 (below 0 (omega arith)))
    (queue_past e.end es a d r.1 (λ j h. below (suc j) (omega (arith, h))))

-- an element that is there doesn't hang on the other one
pub get_or_there : (es : List PinEntry) (i : ℕ) (d e : PinEntry) → i < length es → get_or es i d ≡ get_or es i e
get_or_there [] i d e less = absurd (omega (arith, less))
get_or_there (x ∷ xs) zero d e less = refl
get_or_there (x ∷ xs) (suc i) d e less = get_or_there xs i d e (omega (arith, less))

-- ---- by the number of an entry

from_low : (low : ℕ) (es : List PinEntry) (j : ℕ) (d : PinEntry) → AreRising low es → j < length es
    → low ≤ (get_or es j d).end
from_low low [] j d r less = absurd (omega (arith, less))
from_low low (e ∷ es) zero d r less = r.0.rises
from_low low (e ∷ es) (suc j) d r less = let up = r.0.rises in
    let more = from_low e.end es j d r.1 (omega (arith, less)) in omega (arith, up, more)

-- ends rise
pub ends_rise : (low : ℕ) (es : List PinEntry) (i j : ℕ) (d : PinEntry) → AreRising low es → i ≤ j → j < length es
    → (get_or es i d).end ≤ (get_or es j d).end
ends_rise low [] i j d r le less = absurd (omega (arith, less))
ends_rise low (e ∷ es) zero zero d r le less = omega arith
ends_rise low (e ∷ es) zero (suc j) d r le less = from_low e.end es j d r.1 (omega (arith, less))
ends_rise low (e ∷ es) (suc i) zero d r le less = absurd (omega (arith, le))
ends_rise low (e ∷ es) (suc i) (suc j) d r le less =
    ends_rise e.end es i j d r.1 (omega (arith, le)) (omega (arith, less))

-- what holds of an entry by its number
pub entry_at : (low : ℕ) (es : List PinEntry) (i : ℕ) (d : PinEntry) → AreRising low es → i < length es
    → (from : ℕ) × ComesAfter from (get_or es i d)
entry_at low [] i d r less = absurd (omega (arith, less))
entry_at low (e ∷ es) zero d r less = (low, r.0)
entry_at low (e ∷ es) (suc i) d r less = entry_at e.end es i d r.1 (omega (arith, less))

-- no entry saves a word for the address where none does up to one that ends above it
pub queue_none : (low : ℕ) (es : List PinEntry) (i b : ℕ) (d : PinEntry) → AreRising low es → i < length es
    → ((j : ℕ) → j < i → entry_word (get_or es j d) b ≡ None) → entry_word (get_or es i d) b ≡ None
    → b + 8 < (get_or es i d).end → queue_word es b ≡ None
queue_none low [] i b d r less below here up = absurd (omega (arith, less))
queue_none low (e ∷ es) zero b d r less below here up = rw here (queue_high e.end es b r.1 up)
queue_none low (e ∷ es) (suc i) b d r less below here up =
    rw (below 0 (omega arith))
    (queue_none e.end es i b d r.1 (omega (arith, less)) (λ j h. below (suc j) (omega (arith, h))) here up)

pub queue_none_all : (es : List PinEntry) (b : ℕ) (d : PinEntry)
    → ((j : ℕ) → j < length es → entry_word (get_or es j d) b ≡ None) → queue_word es b ≡ None
queue_none_all [] b d none = refl
queue_none_all (e ∷ es) b d none =
    rw (none 0 (omega arith)) (queue_none_all es b d (λ j h. none (suc j) (omega (arith, h))))

pub queue_some : (es : List PinEntry) (i b : ℕ) (d : PinEntry) → i < length es
    → ((j : ℕ) → j < i → entry_word (get_or es j d) b ≡ None) → IsSome (entry_word (get_or es i d) b)
    → IsSome (queue_word es b)
queue_some [] i b d less below some = absurd (omega (arith, less))
queue_some (e ∷ es) zero b d less below some = first_some (entry_word e b) (queue_word es b) some
  where
    first_some : (o other : Option ℕ) → IsSome o → IsSome (first_of_two o other)
    first_some None other s = absurd (cc)
    first_some (Some w) other s = refl
queue_some (e ∷ es) (suc i) b d less below some =
    rw (below 0 (omega arith))
    (queue_some es i b d (omega (arith, less)) (λ j h. below (suc j) (omega (arith, h))) some)

pub no_some : (o : Option ℕ) → o ≡ None → IsSome o → ⊥
no_some None e s = cc
no_some (Some w) e s = cc

-- an address that an entry saves a word for lies below its end
pub saved_below : (low : ℕ) (e : PinEntry) (b : ℕ) → ComesAfter low e → IsSome (entry_word e b) → b + 8 < e.end
saved_below low e b c some =
    elim (cases_lt (b + 8) e.end)
    [ inl less ↦ less | inr more ↦ absurd (no_some (entry_word e b) (entry_low low e b c more) some) ]

-- an entry that saves a word for the address is the one that does
pub queue_hit : (low : ℕ) (es : List PinEntry) (i a : ℕ) (d : PinEntry) → AreRising low es → i < length es
    → IsSome (entry_word (get_or es i d) a) → queue_word es a ≡ entry_word (get_or es i d) a
queue_hit low [] i a d r less some = absurd (omega (arith, less))
queue_hit low (e ∷ es) zero a d r less some =
    rw (queue_high e.end es a r.1 (saved_below low e a r.0 some)) (first_none (entry_word e a))
queue_hit low (e ∷ es) (suc i) a d r less some =
    let rest = queue_hit e.end es i a d r.1 (omega (arith, less)) some in
    let P : Option ℕ → Type 0 = λ o. IsSome o in
    let there : IsSome (queue_word es a) = subst P (sym rest) some in
    let up : e.end ≤ a + 8 = elim (cases_lt (a + 8) e.end) [
      | inl high ↦ absurd (no_some (queue_word es a) (queue_high e.end es a r.1 high) there)
      | inr more ↦ more
    ] in
    rw (entry_low low e a r.0 up) rest

-- ---- a search by halves

-- all entries up to one that ends below the address end below it
pub all_below : (es : List PinEntry) (m a : ℕ) (found : PinEntry) → AreRising 0 es → m < length es
    → found ≡ get_or es m found → found.end ≤ a + 8 → (i : ℕ) (d : PinEntry) → i < m + 1 → (get_or es i d).end ≤ a + 8
all_below es m a found r less is low i d h =
    let same = get_or_there es m found d less in
    let up = ends_rise 0 es i m d r (omega (arith, h)) less in
    let end = ap (λ (e : PinEntry). e.end) (is ∙ same) in
    omega (arith, up, end, low)

-- all entries from one that ends above the address on end above it
pub all_above : (es : List PinEntry) (m a : ℕ) (found : PinEntry) → AreRising 0 es → m < length es
    → found ≡ get_or es m found → a + 8 < found.end → (i : ℕ) (d : PinEntry) → m ≤ i → i < length es
    → a + 8 < (get_or es i d).end
all_above es m a found r less is high i d le h =
    let same = get_or_there es m found d less in
    let up = ends_rise 0 es m i d r le h in
    let end = ap (λ (e : PinEntry). e.end) (is ∙ same) in
    omega (arith, up, end, high)

-- entries that end below an address save nothing for it or above it
pub none_from : (es : List PinEntry) (a j b : ℕ) (d : PinEntry) → AreRising 0 es → j < length es
    → (get_or es j d).end ≤ a + 8 → a ≤ b → entry_word (get_or es j d) b ≡ None
none_from es a j b d r less low le = let c = entry_at 0 es j d r less in
    entry_low c.0 (get_or es j d) b c.1 (omega (arith, low, le))

-- ---- the next saved address

-- no entry up to the one at hand saves a word in [a, b]
pub plain_up_to : (es : List PinEntry) (i a b : ℕ) (found : PinEntry) → AreRising 0 es → i < length es
    → found ≡ get_or es i found → ((j : ℕ) → j < i → entry_word (get_or es j found) b ≡ None)
    → (next : ℕ) → b < next → IsPlain (found ∷ []) a next → a ≤ b → b + 8 < found.end → queue_word es b ≡ None
plain_up_to es i a b found r less is below next lt plain le up =
    let here : entry_word found b ≡ None = sym (first_none (entry_word found b)) ∙ plain b le lt in
    let P : PinEntry → Type 0 = λ e. entry_word e b ≡ None in
    let Q : PinEntry → Type 0 = λ e. b + 8 < e.end in
    queue_none 0 es i b found r less below (subst P is here) (subst Q is up)
