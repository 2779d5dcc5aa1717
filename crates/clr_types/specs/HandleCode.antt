-- A code of the table of handles, by which proofs tell machines apart.
use Rattle.std.specs.Prelude.{ℕ, zero, suc}
use Rattle.std.specs.Ordering.{nat_cmp}
use Rattle.std.specs.FinMap as finmap
use Rattle.std.specs.Coded.{Coded, code_by, coded×, coded_ℕ}
use Rattle.clr_types.specs.declared.handle.Kind.{Kind}
use Rattle.clr_types.specs.declared.handle.Kind.TheVariants.{Strong, Pinned, Weak, WeakLong, Dependent}
use Rattle.clr_types.specs.declared.handle.Handle.{Handle}
use Rattle.std.specs.Prelude.{◌≡◌, refl}

abbrev pub number_of_kind : Kind → ℕ
number_of_kind Strong = 0
number_of_kind Pinned = 1
number_of_kind Weak = 2
number_of_kind WeakLong = 3
number_of_kind Dependent = 4

abbrev pub kind_of_number : ℕ → Kind
kind_of_number zero = Strong
kind_of_number (suc zero) = Pinned
kind_of_number (suc (suc zero)) = Weak
kind_of_number (suc (suc (suc zero))) = WeakLong
kind_of_number _ = Dependent

pub kind_back : (k : Kind) → kind_of_number (number_of_kind k) ≡ k
kind_back Strong = refl
kind_back Pinned = refl
kind_back Weak = refl
kind_back WeakLong = refl
kind_back Dependent = refl

abbrev pub kind_code : Coded Kind
kind_code = code_by ℕ coded_ℕ number_of_kind kind_of_number kind_back

abbrev pub row_code : Coded Handle
row_code = code_by (Kind × (ℕ × ℕ)) (coded× kind_code (coded× coded_ℕ coded_ℕ)) (λ r. (r.kind, (r.target, r.second)))
    (λ p. record { kind = p.0; target = p.1.0; second = p.1.1 }) (λ _. refl)

abbrev pub handles_code : Coded (finmap.FinMap nat_cmp Handle)
handles_code = finmap.code coded_ℕ row_code
