-- Words are saved three at a time.
use Rattle.std.proofs.Common.{◌≡◌, ◌⊎◌, inl, inr, ℕ, ◌+◌, Bool, true, false, List, [], ◌∷◌, refl}
use Rattle.std.proofs.Common.{eqb}
use Rattle.std.proofs.Common.{IsSome, Option, None, Some, if◌then◌else◌}
use Rattle.std.proofs.lemmas.Bool.{cases_Bool, eq-eqb, eqb-true}
use Rattle.clr_pinq.specs.Queue.{entry_word, first_of_two, option_word, queue_word, saved_word}
use Rattle.clr_pinq.specs.declared.entry.PinEntry.{PinEntry}
use Rattle.clr_pinq.specs.declared.entry.Saved.{Saved}
use Rattle.clr_pinq.proofs.Lookups.{no_some}

-- one of the three addresses from `at` on
abbrev IsOfThree : ℕ → ℕ → Type 0
IsOfThree at b = (b ≡ at) ⊎ ((b ≡ at + 8) ⊎ (b ≡ at + 16))

of_three : (s : Saved) (b : ℕ) → IsSome (saved_word s b) → IsOfThree s.at b
of_three s b some = elim (cases_Bool (eqb b s.at)) [
  | inl e ↦ inl (eqb-true b s.at e)
  | inr n ↦ elim (cases_Bool (eqb b (s.at + 8))) [
    | inl e ↦ inr (inl (eqb-true b (s.at + 8) e))
    | inr m ↦ elim (cases_Bool (eqb b (s.at + 16))) [
      | inl e ↦ inr (inr (eqb-true b (s.at + 16) e))
      | inr k ↦ absurd (no_some None refl (rw (n, m, k) at some))
    ]
  ]
]

some_if : (t u v : Bool) (x y z : ℕ) → (t ≡ true) ⊎ ((u ≡ true) ⊎ (v ≡ true))
    → IsSome (if t then Some x else (if u then Some y else (if v then Some z else None)))
some_if true u v x y z h = refl
some_if false true v x y z h = refl
some_if false false true x y z h = refl
some_if false false false x y z h = elim h [
  | inl e ↦ absurd cc
  | inr k ↦ elim k
      [ inl e ↦ absurd cc | inr e ↦ absurd cc ]
]

three_saved : (s : Saved) (b : ℕ) → IsOfThree s.at b → IsSome (saved_word s b)
three_saved s b h = some_if (eqb b s.at) (eqb b (s.at + 8)) (eqb b (s.at + 16)) s.w0 s.w1 s.w2 (elim h [
  | inl e ↦ inl (eq-eqb b s.at e)
  | inr k ↦ elim k [ inl e ↦ inr (inl (eq-eqb b (s.at + 8) e)) | inr e ↦ inr (inr (eq-eqb b (s.at + 16) e)) ]
])

-- the three words that are saved with one
pub record HasThree (word : ℕ → Option ℕ) (b : ℕ) : Type 0 where
  pub at : ℕ
  pub one : (b ≡ at) ⊎ ((b ≡ at + 8) ⊎ (b ≡ at + 16))
  pub all : (c : ℕ) → (c ≡ at) ⊎ ((c ≡ at + 8) ⊎ (c ≡ at + 16)) → IsSome (word c)

some_first : (o other : Option ℕ) → IsSome o → IsSome (first_of_two o other)
some_first None other some = absurd (no_some None refl some)
some_first (Some w) other some = refl

some_second : (o other : Option ℕ) → IsSome other → IsSome (first_of_two o other)
some_second None other some = some
some_second (Some w) other some = refl

option_three : (o : Option Saved) (b : ℕ) → IsSome (option_word o b) → HasThree (option_word o) b
option_three None b some = absurd (no_some None refl some)
option_three (Some s) b some = record { at = s.at; one = of_three s b some; all = λ c h. three_saved s c h }

which : (o other : Option ℕ) → IsSome (first_of_two o other) → IsSome o ⊎ IsSome other
which None other some = inr some
which (Some w) other some = inl refl

entry_three : (e : PinEntry) (b : ℕ) → IsSome (entry_word e b) → HasThree (entry_word e) b
entry_three e b some = elim (which (option_word e.pre b) (option_word e.post b) some) [
  | inl pre ↦
      let t = option_three e.pre b pre in
      record {
        at = t.at;
        one = t.one;
        all = λ c h. some_first (option_word e.pre c) (option_word e.post c) (t.all c h);
      }
  | inr post ↦
      let t = option_three e.post b post in
      record {
        at = t.at;
        one = t.one;
        all = λ c h. some_second (option_word e.pre c) (option_word e.post c)
            (t.all c h);
      }
]

pub queue_three : (es : List PinEntry) (b : ℕ) → IsSome (queue_word es b) → HasThree (queue_word es) b
queue_three [] b some = absurd (no_some None refl some)
queue_three (e ∷ es) b some = elim (which (entry_word e b) (queue_word es b) some) [
  | inl here ↦
      let t = entry_three e b here in
      record { at = t.at; one = t.one; all = λ c h. some_first (entry_word e c) (queue_word es c) (t.all c h) }
  | inr more ↦
      let t = queue_three es b more in
      record { at = t.at; one = t.one; all = λ c h. some_second (entry_word e c) (queue_word es c) (t.all c h) }
]
