-- Which kinds have contents for the values of which others: those of the same type with a later code. Of the booleans' kinds without
-- content neither has one for the values of the other.
use Rattle.std.proofs.Common.{◌≡◌, ℕ, ◌<◌, ◌≤◌, true, false, eqb, ltb, ◌&&◌, ◌||◌, Some, [], refl}
use Rattle.std.proofs.Common.{sym, ap, subst, ◌∙◌, arith}
use Rattle.std.proofs.lemmas.Bool.{cond_both, ltb-true, ltb-false}
use Rattle.std.proofs.lemmas.Bool.Decides.{nat_tests}
use mathlib.Core.Logic.{◌⊎◌, inl, inr}
use Rattle.types_10.specs.Tree.{Scalar, null}
use Rattle.types_10.specs.Kinds.{kind_byte, kind_of, bare_scalar, octet_scalar, wide_scalar}
use Rattle.types_10.specs.Kinds.{sixteen_scalar, text_scalar}
use Rattle.types_10.specs.Writing.{scalar_type, shared}
use Rattle.types_10.proofs.ValueLaws.{kind_known}
use Rattle.types_10.specs.declared.kind.Kind.{Kind}
use Rattle.types_10.specs.declared.kind.Kind.TheVariants as kind
use Rattle.types_10.specs.declared.kind.Single.{Single}
use Rattle.types_10.specs.declared.kind.Single.TheVariants as single
use Rattle.types_10.specs.declared.kind.Bare.TheVariants as bare
use Rattle.types_10.specs.declared.kind.Octet.TheVariants as octet
use Rattle.types_10.specs.declared.kind.Wide.TheVariants as wide
use Rattle.types_10.specs.declared.kind.Sixteen.TheVariants as sixteen
use Rattle.types_10.specs.declared.kind.Text.TheVariants as text
use Rattle.types_10.specs.declared.kind.Size.{Size}

-- the type of the values that a kind has contents for; a described value's type is that of what it describes
abbrev pub single_type : Single → ℕ
single_type (single.Bare k) = scalar_type (bare_scalar k)
single_type single.Boolean = 86
single_type (single.Octet k) = scalar_type (octet_scalar k 0)
single_type (single.Wide k) = scalar_type (wide_scalar k 0)
single_type single.Char = 115
single_type (single.Sixteen k) = scalar_type (sixteen_scalar k [])
single_type (single.Text k z) = scalar_type (text_scalar k [])

abbrev pub kind_type : Kind → ℕ
kind_type (kind.Single k) = single_type k
kind_type kind.EmptyList = 208
kind_type (kind.List z) = 208
kind_type (kind.Map z) = 209
kind_type (kind.Array z) = 240
kind_type kind.Described = 0

-- the types of values that hold others are no types of those that hold none
pub scalar_type_is : (s : Scalar) → (1 ≤ scalar_type s) × (scalar_type s < 208)
scalar_type_is null = (omega arith, omega arith)
scalar_type_is s = (omega arith, omega arith)

pub single_type_is : (k : Single) → (1 ≤ single_type k) × (single_type k < 208)
single_type_is (single.Bare k) = scalar_type_is (bare_scalar k)
single_type_is single.Boolean = (omega arith, omega arith)
single_type_is (single.Octet k) = scalar_type_is (octet_scalar k 0)
single_type_is (single.Wide k) = scalar_type_is (wide_scalar k 0)
single_type_is single.Char = (omega arith, omega arith)
single_type_is (single.Sixteen k) = scalar_type_is (sixteen_scalar k [])
single_type_is (single.Text k z) = scalar_type_is (text_scalar k [])

-- no earlier code; and of a boolean without content the same code, or the boolean in a byte
pub record IsUpTo (j k : Kind) : Type 0 where
  pub later : kind_byte j ≤ kind_byte k
  pub only : kind_type j ≡ 86 → kind_byte k < 86 → kind_byte j ≡ kind_byte k

-- the second kind has contents for the values whose first kind is the first one
pub record IsWider (j k : Kind) : Type 0 where
  pub alike : kind_type j ≡ kind_type k
  pub up : IsUpTo j k

pub same_kind : (j k : Kind) → kind_byte j ≡ kind_byte k → j ≡ k
same_kind j k e =
    let some : Some j ≡ Some k = sym (kind_known j).1 ∙ ap kind_of e ∙ (kind_known k).1 in
    cc

pub same_wider : (k : Kind) → IsWider k k
same_wider k = record { alike = refl; up = record { later = omega arith; only = λ e l. refl } }

-- no boolean: the later code alone decides
pub later_wider : (j k : Kind) → kind_type j ≡ kind_type k → ltb (kind_byte j) (kind_byte k) ≡ true → eqb (kind_type j) 86 && ltb (kind_byte k) 86 ≡ false → IsWider j k
later_wider j k e l n =
    let earlier : kind_byte j < kind_byte k = ltb-true _ _ l in
    record { alike = e; up = record { later = omega arith; only = λ b c. grind (arith, nat_tests) } }

-- the codes of true and false, in any order
abbrev pub AreBooleans : ℕ → ℕ → Type 0
AreBooleans m n = ((m ≡ 65) × (n ≡ 66)) ⊎ ((m ≡ 66) × (n ≡ 65))

are_booleans : (m n : ℕ) → (eqb m 65 && eqb n 66) || (eqb m 66 && eqb n 65) ≡ true → AreBooleans m n
are_booleans m n e = grind (arith, nat_tests)

other_way : (m n : ℕ) → AreBooleans m n → AreBooleans n m
other_way m n (inl e) = inr (e.1, e.0)
other_way m n (inr e) = inl (e.1, e.0)

no_null : (m : ℕ) → AreBooleans m 64 → ⊥
no_null m (inl e) = omega arith
no_null m (inr e) = omega arith

not_booleans : (m n : ℕ) → (eqb m 65 && eqb n 66) || (eqb m 66 && eqb n 65) ≡ false → AreBooleans m n → ⊥
not_booleans m n e h = grind (arith, nat_tests)

-- what kinds share: the boolean in a byte for the two booleans, or the kind with the later code
pub shared_by : (P : Kind → Type 0) (j k : Kind) → (AreBooleans (kind_byte j) (kind_byte k) → P (kind.Single single.Boolean))
    → ((AreBooleans (kind_byte j) (kind_byte k) → ⊥) → kind_byte j ≤ kind_byte k → P k) → ((AreBooleans (kind_byte j) (kind_byte k) → ⊥) → kind_byte k ≤ kind_byte j → P j) → P (shared j k)
shared_by P j k a b c =
    cond_both ((eqb (kind_byte j) 65 && eqb (kind_byte k) 66) || (eqb (kind_byte j) 66 && eqb (kind_byte k) 65)) (kind.Single single.Boolean) _ P
    (λ e. a (are_booleans (kind_byte j) (kind_byte k) e))
    (λ e. let apart = not_booleans (kind_byte j) (kind_byte k) e in cond_both (ltb (kind_byte j) (kind_byte k)) k j P (λ h. b apart (omega (arith, ltb-true _ _ h))) (λ h. c apart (ltb-false _ _ h)))

-- the booleans' kinds are three
boolean_code : (k : Kind) → kind_type k ≡ 86 → kind_byte k < 86 → (kind_byte k ≡ 65) ⊎ (kind_byte k ≡ 66)
boolean_code (kind.Single (single.Bare bare.True)) e l = inl refl
boolean_code (kind.Single (single.Bare bare.False)) e l = inr refl
boolean_code (kind.Single (single.Octet octet.Ubyte)) e l = absurd (omega arith)
boolean_code (kind.Single (single.Wide wide.Ushort)) e l = absurd (omega arith)
boolean_code (kind.Single (single.Sixteen sixteen.Uuid)) e l = absurd (omega arith)
boolean_code (kind.Single (single.Text text.Binary z)) e l = absurd (omega arith)
boolean_code k e l = absurd (omega arith)

true_wider : (k : Kind) → kind_byte k ≡ 65 → IsWider k (kind.Single single.Boolean)
true_wider k e = subst (λ (k : Kind). IsWider k (kind.Single single.Boolean)) (same_kind (kind.Single (single.Bare bare.True)) k (sym e)) (later_wider _ _ refl refl refl)

false_wider : (k : Kind) → kind_byte k ≡ 66 → IsWider k (kind.Single single.Boolean)
false_wider k e = subst (λ (k : Kind). IsWider k (kind.Single single.Boolean)) (same_kind (kind.Single (single.Bare bare.False)) k (sym e)) (later_wider _ _ refl refl refl)

-- true and false together have contents as booleans in a byte alone
pub booleans_wider : (j k : Kind) → AreBooleans (kind_byte j) (kind_byte k) → IsWider j (kind.Single single.Boolean) × IsWider k (kind.Single single.Boolean)
booleans_wider j k (inl e) = (true_wider j e.0, false_wider k e.1)
booleans_wider j k (inr e) = (false_wider j e.0, true_wider k e.1)

-- a later kind of the same type is wider, but for the two booleans
wider_up : (j k : Kind) → kind_type j ≡ kind_type k → kind_byte j ≤ kind_byte k → (AreBooleans (kind_byte j) (kind_byte k) → ⊥) → IsWider j k
wider_up j k e l n = record { alike = e; up = record { later = l; only = λ b c. grind (arith, boolean_code j b, boolean_code k) } }

pub wider_trans : (j k m : Kind) → IsWider j k → IsWider k m → IsWider j m
wider_trans j k m a b = record { alike = a.alike ∙ b.alike; up = record { later = omega arith; only = λ e l. grind arith } }

-- values of one type all have contents under the kind that they share
pub first_shares : (j k : Kind) → kind_type j ≡ kind_type k → IsWider j (shared j k)
first_shares j k e = shared_by (IsWider j) j k (λ h. (booleans_wider j k h).0) (λ n l. wider_up j k e l n) (λ n l. same_wider j)

pub rest_shares : (j k : Kind) → kind_type j ≡ kind_type k → IsWider k (shared j k)
rest_shares j k e = shared_by (IsWider k) j k (λ h. (booleans_wider j k h).1) (λ n l. same_wider k) (λ n l. wider_up k j (sym e) l (λ b. n (other_way (kind_byte k) (kind_byte j) b)))

-- the last value shares its kind with none
pub last_shares : (j : Kind) → 64 ≤ kind_byte j → shared j (kind.Single (single.Bare bare.Null)) ≡ j
last_shares j h = shared_by (λ k. k ≡ j) j (kind.Single (single.Bare bare.Null)) (λ b. absurd (no_null (kind_byte j) b)) (λ n l. same_kind _ _ (omega arith)) (λ n l. refl)

pub booleans_first : (j k m : Kind) → IsUpTo j m → IsUpTo k m → AreBooleans (kind_byte j) (kind_byte k) → IsUpTo (kind.Single single.Boolean) m
booleans_first j k m a b h =
    let wide = booleans_wider j k h in
    let late : 86 ≤ kind_byte m = grind (arith, wide.0.alike, wide.1.alike) in
    record { later = late; only = λ e l. omega arith }

-- and no earlier kind has contents for all
pub shared_first : (j k m : Kind) → IsUpTo j m → IsUpTo k m → IsUpTo (shared j k) m
shared_first j k m a b = shared_by (λ s. IsUpTo s m) j k (booleans_first j k m a b) (λ n l. b) (λ n l. a)

-- ---- the kinds of each type that holds others

pub of_list : (P : Kind → Type 0) → P kind.EmptyList → ((z : Size) → P (kind.List z)) → (k : Kind) → kind_type k ≡ 208 → P k
of_list P x y (kind.Single j) e = absurd (omega (arith, single_type_is j))
of_list P x y kind.EmptyList e = x
of_list P x y (kind.List z) e = y z
of_list P x y (kind.Map z) e = absurd (omega arith)
of_list P x y (kind.Array z) e = absurd (omega arith)
of_list P x y kind.Described e = absurd (omega arith)

pub of_map : (P : Kind → Type 0) → ((z : Size) → P (kind.Map z)) → (k : Kind) → kind_type k ≡ 209 → P k
of_map P x (kind.Single j) e = absurd (omega (arith, single_type_is j))
of_map P x kind.EmptyList e = absurd (omega arith)
of_map P x (kind.List z) e = absurd (omega arith)
of_map P x (kind.Map z) e = x z
of_map P x (kind.Array z) e = absurd (omega arith)
of_map P x kind.Described e = absurd (omega arith)

pub of_array : (P : Kind → Type 0) → ((z : Size) → P (kind.Array z)) → (k : Kind) → kind_type k ≡ 240 → P k
of_array P x (kind.Single j) e = absurd (omega (arith, single_type_is j))
of_array P x kind.EmptyList e = absurd (omega arith)
of_array P x (kind.List z) e = absurd (omega arith)
of_array P x (kind.Map z) e = absurd (omega arith)
of_array P x (kind.Array z) e = x z
of_array P x kind.Described e = absurd (omega arith)
