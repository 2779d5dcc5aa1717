-- The tests of `dumpheap`'s options, with types by number.
use Rattle.std.proofs.Common.{◌≡◌, ◌≢◌, ◌∙◌, ◌||◌, ◌==◌, ℕ, ◌+◌, ◌<◌, ◌≤◌, Bool, true, false, List, [], ◌∷◌}
use Rattle.std.proofs.Common.{length, ap, refl, sym, arith}
use Rattle.std.proofs.lemmas.Bool.{eq-eqb, eqb-false, eqb-true, ne_eqb}
use Rattle.clr_types.specs.Types.{TypeRow, mt_of}
use Rattle.clr_model.specs.Checks.{has_mt, has_mt_from}

-- ---- method table words

from-known : (n : ℕ) (rows : List TypeRow) (mt t : ℕ) → n ≤ t → t < n + length rows → mt ≡ mt_of t
    → has_mt_from n rows mt ≡ true
from-known n [] mt t low high is = absurd (omega arith)
from-known n (row ∷ rows) mt t low high is =
    go (mt_of n == mt) refl (λ more. from-known (n + 1) rows mt t more (omega arith) is)
  where
    go : (b : Bool) → (mt_of n == mt) ≡ b → (n + 1 ≤ t → has_mt_from (n + 1) rows mt ≡ true)
        → (b || has_mt_from (n + 1) rows mt) ≡ true
    go true e rest = refl
    go false e rest =
        rest (let other : n ≢ t = λ same. eqb-false (mt_of n) mt e (ap mt_of same ∙ sym is) in omega arith)

pub mt-known : (rows : List TypeRow) (mt t : ℕ) → t ≤ length rows → mt ≡ mt_of t → has_mt rows mt ≡ true
mt-known rows mt t l is = go (mt_of 0 == mt) refl
  where
    go : (b : Bool) → (mt_of 0 == mt) ≡ b → (b || has_mt_from 1 rows mt) ≡ true
    go true e = refl
    go false e = from-known 1 rows mt t
        (let other : 0 ≢ t = λ same. eqb-false (mt_of 0) mt e (ap mt_of same ∙ sym is) in omega arith) (omega arith) is

from-unknown : (n : ℕ) (rows : List TypeRow) (mt : ℕ) → ((t : ℕ) → n ≤ t → t < n + length rows → mt ≢ mt_of t)
    → has_mt_from n rows mt ≡ false
from-unknown n [] mt none = refl
from-unknown n (row ∷ rows) mt none =
    let first : (mt_of n == mt) ≡ false = ne_eqb (mt_of n) mt (λ same. none n (omega arith) (omega arith) (sym same)) in
    ap (λ b. b || has_mt_from (n + 1) rows mt) first
    ∙ from-unknown (n + 1) rows mt (λ t low high. none t (omega arith) (omega arith))

pub mt-unknown : (rows : List TypeRow) (mt : ℕ) → ((t : ℕ) → t ≤ length rows → mt ≢ mt_of t) → has_mt rows mt ≡ false
mt-unknown rows mt none =
    let first : (mt_of 0 == mt) ≡ false = ne_eqb (mt_of 0) mt (λ same. none 0 (omega arith) (sym same)) in
    ap (λ b. b || has_mt_from 1 rows mt) first
    ∙ from-unknown 1 rows mt (λ t low high. none t (omega arith))

-- a type is another's where its word is
pub same-mt : (t n mt : ℕ) → mt ≡ mt_of t → (t == n) ≡ (mt_of n == mt)
same-mt t n mt is = go (t == n) refl
  where
    go : (b : Bool) → (t == n) ≡ b → b ≡ (mt_of n == mt)
    go true e = let same = eqb-true t n e in sym (eq-eqb (mt_of n) mt (ap mt_of (sym same) ∙ sym is))
    go false e = sym (ne_eqb (mt_of n) mt (λ same. eqb-false t n e (omega arith)))
