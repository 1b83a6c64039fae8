-- Values that hold no other: their contents under each kind that has one for them, and the kind with the first code.
use Rattle.std.proofs.Common.{◌≡◌, ◌≢◌, ℕ, ◌^◌, ◌<◌, ◌≤◌, ◌%◌, Bool, true, false, cond, eqb, ltb}
use Rattle.std.proofs.Common.{List, [], length, ℤ, pos, negsuc, refl, sym, ap, subst, ◌∙◌, arith}
use Rattle.std.proofs.lemmas.Bool.{cond_both, eqb-true, eqb-false, ltb-true, ltb-false}
use Rattle.std.proofs.lemmas.Bool.Decides.{nat_tests}
use Rattle.std.proofs.lemmas.Int.{ints, to_z-of_z, of_z-to_z}
use Rattle.std.proofs.lemmas.List.{length-append}
use Rattle.std.specs.Int.{w8, w16, w32, w64, to_be_bytes, cast_unsigned, cast_signed}
use Rattle.std.specs.Int.RustNames.{FitsSigned}
use Rattle.types_10.specs.Tree.{Scalar, null, boolean, ubyte, byte, ushort, short, uint, int, ulong}
use Rattle.types_10.specs.Tree.{long, float, double, decimal32, decimal64, decimal128, char}
use Rattle.types_10.specs.Tree.{timestamp, uuid, binary, string, symbol}
use Rattle.types_10.specs.Kinds.{text_scalar}
use Rattle.types_10.specs.Grammar.{IsSingle}
use Rattle.types_10.specs.Ranges.{IsInRange}
use Rattle.types_10.specs.Writing.{is_small, text_kind, single_kind, single_content, scalar_type}
use Rattle.types_10.specs.Writing.{IsProper}
use Rattle.types_10.proofs.Wider.{single_type, IsWider, same_wider, later_wider}
use Rattle.types_10.specs.declared.kind.Kind.TheVariants as kind
use Rattle.types_10.specs.declared.kind.Single.{Single}
use Rattle.types_10.specs.declared.kind.Single.TheVariants as single
use Rattle.types_10.specs.declared.kind.Bare.TheVariants as bare
use Rattle.types_10.specs.declared.kind.Octet.TheVariants as octet
use Rattle.types_10.specs.declared.kind.Wide.TheVariants as wide
use Rattle.types_10.specs.declared.kind.Sixteen.TheVariants as sixteen
use Rattle.types_10.specs.declared.kind.Text.{Text}
use Rattle.types_10.specs.declared.kind.Text.TheVariants as text
use Rattle.types_10.specs.declared.kind.Size.TheVariants as size

-- ---- contents of a kind are those that are written

-- the lowest byte of an integer that fits one
low_32 : (z : ℤ) → FitsSigned w8 z → cast_unsigned w32 z % 256 ≡ cast_unsigned w8 z
low_32 (pos n) h = omega (arith, ints)
low_32 (negsuc n) h = omega (arith, ints)

low_64 : (z : ℤ) → FitsSigned w8 z → cast_unsigned w64 z % 256 ≡ cast_unsigned w8 z
low_64 (pos n) h = omega (arith, ints)
low_64 (negsuc n) h = omega (arith, ints)

octet_fits : (m : ℕ) → m < 256 → FitsSigned w8 (cast_signed w8 m)
octet_fits m h = grind (arith, ints)

byte_again : (m : ℕ) → m < 256 → m ≡ cast_unsigned w8 (cast_signed w8 m) % 256
byte_again m h = omega (arith, of_z-to_z w8 m h)

int_again : (m : ℕ) → m < 256 → m ≡ cast_unsigned w32 (cast_signed w8 m) % 256
int_again m h = sym (low_32 (cast_signed w8 m) (octet_fits m h) ∙ of_z-to_z w8 m h)

long_again : (m : ℕ) → m < 256 → m ≡ cast_unsigned w64 (cast_signed w8 m) % 256
long_again m h = sym (low_64 (cast_signed w8 m) (octet_fits m h) ∙ of_z-to_z w8 m h)

boolean_again : (m : ℕ) → ltb m 2 ≡ true → m ≡ cond (eqb m 1) 1 0
boolean_again m h = grind (arith, nat_tests)

-- the content that a kind has for a value is the one that is written
pub single_is : (k : Single) (s : Scalar) (bytes : List ℕ) → IsSingle k s bytes → bytes ≡ single_content k s
single_is (single.Bare bare.Null) s bytes h = h.1 ∙ sym (ap (single_content (single.Bare bare.Null)) h.0)
single_is (single.Bare bare.True) s bytes h = h.1 ∙ sym (ap (single_content (single.Bare bare.True)) h.0)
single_is (single.Bare bare.False) s bytes h = h.1 ∙ sym (ap (single_content (single.Bare bare.False)) h.0)
single_is (single.Bare bare.Uint) s bytes h = h.1 ∙ sym (ap (single_content (single.Bare bare.Uint)) h.0)
single_is (single.Bare bare.Ulong) s bytes h = h.1 ∙ sym (ap (single_content (single.Bare bare.Ulong)) h.0)
single_is single.Boolean s bytes h = h.2.1.1 ∙ ap (to_be_bytes w8) (boolean_again h.0 h.2.0) ∙ sym (ap (single_content single.Boolean) h.1)
single_is (single.Octet octet.Ubyte) s bytes h = h.2.1 ∙ ap (to_be_bytes w8) (omega (arith, h.2.0)) ∙ sym (ap (single_content (single.Octet octet.Ubyte)) h.1)
single_is (single.Octet octet.Byte) s bytes h = h.2.1 ∙ ap (to_be_bytes w8) (byte_again h.0 (omega (arith, h.2.0))) ∙ sym (ap (single_content (single.Octet octet.Byte)) h.1)
single_is (single.Octet octet.Uint) s bytes h = h.2.1 ∙ ap (to_be_bytes w8) (omega (arith, h.2.0)) ∙ sym (ap (single_content (single.Octet octet.Uint)) h.1)
single_is (single.Octet octet.Int) s bytes h = h.2.1 ∙ ap (to_be_bytes w8) (int_again h.0 (omega (arith, h.2.0))) ∙ sym (ap (single_content (single.Octet octet.Int)) h.1)
single_is (single.Octet octet.Ulong) s bytes h = h.2.1 ∙ ap (to_be_bytes w8) (omega (arith, h.2.0)) ∙ sym (ap (single_content (single.Octet octet.Ulong)) h.1)
single_is (single.Octet octet.Long) s bytes h = h.2.1 ∙ ap (to_be_bytes w8) (long_again h.0 (omega (arith, h.2.0))) ∙ sym (ap (single_content (single.Octet octet.Long)) h.1)
single_is (single.Wide wide.Ushort) s bytes h = h.2.1 ∙ sym (ap (single_content (single.Wide wide.Ushort)) h.1)
single_is (single.Wide wide.Short) s bytes h = h.2.1 ∙ ap (to_be_bytes w16) (sym (of_z-to_z w16 h.0 (omega (arith, h.2.0)))) ∙ sym (ap (single_content (single.Wide wide.Short)) h.1)
single_is (single.Wide wide.Uint) s bytes h = h.2.1 ∙ sym (ap (single_content (single.Wide wide.Uint)) h.1)
single_is (single.Wide wide.Int) s bytes h = h.2.1 ∙ ap (to_be_bytes w32) (sym (of_z-to_z w32 h.0 (omega (arith, h.2.0)))) ∙ sym (ap (single_content (single.Wide wide.Int)) h.1)
single_is (single.Wide wide.Float) s bytes h = h.2.1 ∙ sym (ap (single_content (single.Wide wide.Float)) h.1)
single_is (single.Wide wide.Decimal32) s bytes h = h.2.1 ∙ sym (ap (single_content (single.Wide wide.Decimal32)) h.1)
single_is (single.Wide wide.Ulong) s bytes h = h.2.1 ∙ sym (ap (single_content (single.Wide wide.Ulong)) h.1)
single_is (single.Wide wide.Long) s bytes h = h.2.1 ∙ ap (to_be_bytes w64) (sym (of_z-to_z w64 h.0 (omega (arith, h.2.0)))) ∙ sym (ap (single_content (single.Wide wide.Long)) h.1)
single_is (single.Wide wide.Double) s bytes h = h.2.1 ∙ sym (ap (single_content (single.Wide wide.Double)) h.1)
single_is (single.Wide wide.Timestamp) s bytes h = h.2.1 ∙ ap (to_be_bytes w64) (sym (of_z-to_z w64 h.0 (omega (arith, h.2.0)))) ∙ sym (ap (single_content (single.Wide wide.Timestamp)) h.1)
single_is (single.Wide wide.Decimal64) s bytes h = h.2.1 ∙ sym (ap (single_content (single.Wide wide.Decimal64)) h.1)
single_is single.Char s bytes h = h.2.1.1 ∙ sym (ap (single_content single.Char) h.1)
single_is (single.Sixteen sixteen.Decimal128) s bytes h = h.2.1 ∙ sym (ap (single_content (single.Sixteen sixteen.Decimal128)) h.1)
single_is (single.Sixteen sixteen.Uuid) s bytes h = h.2.1 ∙ sym (ap (single_content (single.Sixteen sixteen.Uuid)) h.1)
single_is (single.Text text.Binary z) s bytes h = h.2.1.1 ∙ sym (ap (single_content (single.Text text.Binary z)) h.1)
single_is (single.Text text.String z) s bytes h = h.2.1.1 ∙ sym (ap (single_content (single.Text text.String z)) h.1)
single_is (single.Text text.Symbol z) s bytes h = h.2.1.1 ∙ sym (ap (single_content (single.Text text.Symbol z)) h.1)

-- ---- the first kind

-- a number by how large it is, an integer by whether it fits one byte, and a text by whether its length does
pub by_number : (P : Single → Type 0) (n : ℕ) (a b c : Single) → (n ≡ 0 → P a) → (n < 256 → P b) → (n ≢ 0 → 256 ≤ n → P c) → P (cond (eqb n 0) a (cond (ltb n 256) b c))
by_number P n a b c x y z = cond_both (eqb n 0) a _ P (λ e. x (eqb-true _ _ e)) (λ e. cond_both (ltb n 256) b c P (λ f. y (ltb-true _ _ f)) (λ f. z (eqb-false _ _ e) (ltb-false _ _ f)))

pub by_small : (P : Single → Type 0) (z : ℤ) (a b : Single) → (FitsSigned w8 z → P a) → (is_small z ≡ false → P b) → P (cond (is_small z) a b)
by_small P z a b x y = cond_both (is_small z) a b P (λ e. x (grind (arith, ints))) y

pub by_length : (P : Single → Type 0) (k : Text) (s : List ℕ) → (length s < 256 → P (single.Text k size.Short)) → (256 ≤ length s → P (single.Text k size.Long)) → P (text_kind k s)
by_length P k s x y = cond_both (ltb (length s) 256) _ _ P (λ e. x (ltb-true _ _ e)) (λ e. y (ltb-false _ _ e))

-- the first kind of a value has its type
pub first_type : (s : Scalar) → single_type (single_kind s) ≡ scalar_type s
first_type null = refl
first_type (boolean true) = refl
first_type (boolean false) = refl
first_type (ubyte n) = refl
first_type (byte z) = refl
first_type (ushort n) = refl
first_type (short z) = refl
first_type (uint n) = by_number (λ k. single_type k ≡ 112) n _ _ _ (λ e. refl) (λ e. refl) (λ e f. refl)
first_type (int z) = by_small (λ k. single_type k ≡ 113) z _ _ (λ e. refl) (λ e. refl)
first_type (ulong n) = by_number (λ k. single_type k ≡ 128) n _ _ _ (λ e. refl) (λ e. refl) (λ e f. refl)
first_type (long z) = by_small (λ k. single_type k ≡ 129) z _ _ (λ e. refl) (λ e. refl)
first_type (float n) = refl
first_type (double n) = refl
first_type (decimal32 n) = refl
first_type (decimal64 n) = refl
first_type (decimal128 s) = refl
first_type (char n) = refl
first_type (timestamp z) = refl
first_type (uuid s) = refl
first_type (binary s) = by_length (λ k. single_type k ≡ 176) text.Binary s (λ e. refl) (λ e. refl)
first_type (string s) = by_length (λ k. single_type k ≡ 177) text.String s (λ e. refl) (λ e. refl)
first_type (symbol s) = by_length (λ k. single_type k ≡ 179) text.Symbol s (λ e. refl) (λ e. refl)

-- the second kind has contents for what has the first kind
abbrev pub IsUnder : Single → Single → Type 0
IsUnder j k = IsWider (kind.Single k) (kind.Single j)

-- the kind has contents for the value
abbrev pub IsFor : Single → Scalar → Type 0
IsFor j s = IsUnder j (single_kind s)

boolean_for : (b : Bool) → IsFor single.Boolean (boolean b)
boolean_for true = later_wider _ _ refl refl refl
boolean_for false = later_wider _ _ refl refl refl

small_number : (m : ℕ) → m < 256 → is_small (cast_signed w8 m) ≡ true
small_number m h = grind (arith, ints)

small_for : (m : ℕ) → m < 256 → IsFor (single.Octet octet.Int) (int (cast_signed w8 m)) × IsFor (single.Octet octet.Long) (long (cast_signed w8 m))
small_for m h = rw (small_number m h) (same_wider _, same_wider _)

text_kind_is : (k : Text) (s : List ℕ) → single_kind (text_scalar k s) ≡ text_kind k s
text_kind_is text.Binary s = refl
text_kind_is text.String s = refl
text_kind_is text.Symbol s = refl

short_for : (k : Text) (s : List ℕ) → length s < 256 → IsFor (single.Text k size.Short) (text_scalar k s)
short_for k s h = rw (text_kind_is k s) (by_length (IsUnder (single.Text k size.Short)) k s (λ e. same_wider _) (λ e. absurd (omega arith)))

long_wider : (k : Text) → IsUnder (single.Text k size.Long) (single.Text k size.Short)
long_wider text.Binary = later_wider _ _ refl refl refl
long_wider text.String = later_wider _ _ refl refl refl
long_wider text.Symbol = later_wider _ _ refl refl refl

long_for : (k : Text) (s : List ℕ) → IsFor (single.Text k size.Long) (text_scalar k s)
long_for k s = rw (text_kind_is k s) (by_length (IsUnder (single.Text k size.Long)) k s (λ e. long_wider k) (λ e. same_wider _))

uint_octet : (n : ℕ) → n < 256 → IsFor (single.Octet octet.Uint) (uint n)
uint_octet n h = by_number (IsUnder (single.Octet octet.Uint)) n _ _ _ (λ e. later_wider _ _ refl refl refl) (λ e. same_wider _) (λ e f. absurd (omega arith))

ulong_octet : (n : ℕ) → n < 256 → IsFor (single.Octet octet.Ulong) (ulong n)
ulong_octet n h = by_number (IsUnder (single.Octet octet.Ulong)) n _ _ _ (λ e. later_wider _ _ refl refl refl) (λ e. same_wider _) (λ e f. absurd (omega arith))

uint_wide : (n : ℕ) → IsFor (single.Wide wide.Uint) (uint n)
uint_wide n = by_number (IsUnder (single.Wide wide.Uint)) n _ _ _ (λ e. later_wider _ _ refl refl refl) (λ e. later_wider _ _ refl refl refl) (λ e f. same_wider _)

ulong_wide : (n : ℕ) → IsFor (single.Wide wide.Ulong) (ulong n)
ulong_wide n = by_number (IsUnder (single.Wide wide.Ulong)) n _ _ _ (λ e. later_wider _ _ refl refl refl) (λ e. later_wider _ _ refl refl refl) (λ e f. same_wider _)

int_wide : (z : ℤ) → IsFor (single.Wide wide.Int) (int z)
int_wide z = by_small (IsUnder (single.Wide wide.Int)) z _ _ (λ e. later_wider _ _ refl refl refl) (λ e. same_wider _)

long_wide : (z : ℤ) → IsFor (single.Wide wide.Long) (long z)
long_wide z = by_small (IsUnder (single.Wide wide.Long)) z _ _ (λ e. later_wider _ _ refl refl refl) (λ e. same_wider _)

-- a kind that has a content for a value is no earlier than its first kind
pub single_first : (j : Single) (s : Scalar) (bytes : List ℕ) → IsSingle j s bytes → IsFor j s
single_first (single.Bare bare.Null) s bytes h = subst (IsFor _) (sym h.0) (same_wider _)
single_first (single.Bare bare.True) s bytes h = subst (IsFor _) (sym h.0) (same_wider _)
single_first (single.Bare bare.False) s bytes h = subst (IsFor _) (sym h.0) (same_wider _)
single_first (single.Bare bare.Uint) s bytes h = subst (IsFor _) (sym h.0) (same_wider _)
single_first (single.Bare bare.Ulong) s bytes h = subst (IsFor _) (sym h.0) (same_wider _)
single_first single.Boolean s bytes h = subst (IsFor _) (sym h.1) (boolean_for (eqb h.0 1))
single_first (single.Octet octet.Ubyte) s bytes h = subst (IsFor _) (sym h.1) (same_wider _)
single_first (single.Octet octet.Byte) s bytes h = subst (IsFor _) (sym h.1) (same_wider _)
single_first (single.Octet octet.Uint) s bytes h = subst (IsFor _) (sym h.1) (uint_octet h.0 (omega (arith, h.2.0)))
single_first (single.Octet octet.Ulong) s bytes h = subst (IsFor _) (sym h.1) (ulong_octet h.0 (omega (arith, h.2.0)))
single_first (single.Octet octet.Int) s bytes h = subst (IsFor _) (sym h.1) (small_for h.0 (omega (arith, h.2.0))).0
single_first (single.Octet octet.Long) s bytes h = subst (IsFor _) (sym h.1) (small_for h.0 (omega (arith, h.2.0))).1
single_first (single.Wide wide.Uint) s bytes h = subst (IsFor _) (sym h.1) (uint_wide h.0)
single_first (single.Wide wide.Ulong) s bytes h = subst (IsFor _) (sym h.1) (ulong_wide h.0)
single_first (single.Wide wide.Int) s bytes h = subst (IsFor _) (sym h.1) (int_wide (cast_signed w32 h.0))
single_first (single.Wide wide.Long) s bytes h = subst (IsFor _) (sym h.1) (long_wide (cast_signed w64 h.0))
single_first (single.Wide k) s bytes h = subst (IsFor _) (sym h.1) (same_wider _)
single_first single.Char s bytes h = subst (IsFor _) (sym h.1) (same_wider _)
single_first (single.Sixteen sixteen.Decimal128) s bytes h = subst (IsFor _) (sym h.1) (same_wider _)
single_first (single.Sixteen sixteen.Uuid) s bytes h = subst (IsFor _) (sym h.1) (same_wider _)
single_first (single.Text k size.Short) s bytes h = subst (IsFor _) (sym h.1) (short_for k h.0 (omega (arith, h.2.1.0)))
single_first (single.Text k size.Long) s bytes h = subst (IsFor _) (sym h.1) (long_for k h.0)

-- ---- values by their type

-- the value of this type with such a boolean, number, integer or bytes
abbrev pub scalar_at : ℕ → Bool → ℕ → ℤ → List ℕ → Scalar
scalar_at type b n z s =
    cond (eqb type 64) null (cond (eqb type 86) (boolean b) (cond (eqb type 80) (ubyte n) (cond (eqb type 81) (byte z)
    (cond (eqb type 96) (ushort n) (cond (eqb type 97) (short z) (cond (eqb type 112) (uint n) (cond (eqb type 113) (int z)
    (cond (eqb type 128) (ulong n) (cond (eqb type 129) (long z) (cond (eqb type 114) (float n) (cond (eqb type 130) (double n)
    (cond (eqb type 116) (decimal32 n) (cond (eqb type 132) (decimal64 n) (cond (eqb type 148) (decimal128 s) (cond (eqb type 115) (char n)
    (cond (eqb type 131) (timestamp z) (cond (eqb type 152) (uuid s) (cond (eqb type 176) (binary s) (cond (eqb type 177) (string s) (symbol s))))))))))))))))))))

abbrev IsAt : Scalar → Type 0
IsAt s = (b : Bool) × (n : ℕ) × (z : ℤ) × (bytes : List ℕ) × (s ≡ scalar_at (scalar_type s) b n z bytes)

is_at : (s : Scalar) → IsAt s
is_at null = (true, 0, pos 0, [], refl)
is_at (boolean b) = (b, 0, pos 0, [], refl)
is_at (ubyte n) = (true, n, pos 0, [], refl)
is_at (byte z) = (true, 0, z, [], refl)
is_at (ushort n) = (true, n, pos 0, [], refl)
is_at (short z) = (true, 0, z, [], refl)
is_at (uint n) = (true, n, pos 0, [], refl)
is_at (int z) = (true, 0, z, [], refl)
is_at (ulong n) = (true, n, pos 0, [], refl)
is_at (long z) = (true, 0, z, [], refl)
is_at (float n) = (true, n, pos 0, [], refl)
is_at (double n) = (true, n, pos 0, [], refl)
is_at (decimal32 n) = (true, n, pos 0, [], refl)
is_at (decimal64 n) = (true, n, pos 0, [], refl)
is_at (decimal128 s) = (true, 0, pos 0, s, refl)
is_at (char n) = (true, n, pos 0, [], refl)
is_at (timestamp z) = (true, 0, z, [], refl)
is_at (uuid s) = (true, 0, pos 0, s, refl)
is_at (binary s) = (true, 0, pos 0, s, refl)
is_at (string s) = (true, 0, pos 0, s, refl)
is_at (symbol s) = (true, 0, pos 0, s, refl)

-- what holds of each kind and the values of its type
pub by_type : (P : Single → Scalar → Type 0) → ((k : Single) (b : Bool) (n : ℕ) (z : ℤ) (s : List ℕ) → P k (scalar_at (single_type k) b n z s)) → (k : Single) (s : Scalar) → single_type k ≡ scalar_type s → P k s
by_type P p k s type =
    let at = is_at s in
    subst (P k) (sym (at.4 ∙ ap (λ (t : ℕ). scalar_at t at.0 at.1 at.2 at.3) (sym type))) (p k at.0 at.1 at.2 at.3)

-- ---- every value has a content under each kind for it

abbrev HasContent : Single → Scalar → Type 0
HasContent k s = IsFor k s → IsInRange s → IsProper s → length (single_content k s) < 2 ^ 32 → IsSingle k s (single_content k s)

-- a value that a narrow kind is for fits that kind
uint_zero : (n : ℕ) → IsFor (single.Bare bare.Uint) (uint n) → n ≡ 0
uint_zero n = by_number (λ k. IsUnder (single.Bare bare.Uint) k → n ≡ 0) n _ _ _ (λ e w. e) (λ e w. absurd (omega (arith, w.up.later))) (λ e f w. absurd (omega (arith, w.up.later)))

ulong_zero : (n : ℕ) → IsFor (single.Bare bare.Ulong) (ulong n) → n ≡ 0
ulong_zero n = by_number (λ k. IsUnder (single.Bare bare.Ulong) k → n ≡ 0) n _ _ _ (λ e w. e) (λ e w. absurd (omega (arith, w.up.later))) (λ e f w. absurd (omega (arith, w.up.later)))

uint_below : (n : ℕ) → IsFor (single.Octet octet.Uint) (uint n) → n < 256
uint_below n = by_number (λ k. IsUnder (single.Octet octet.Uint) k → n < 256) n _ _ _ (λ e w. omega arith) (λ e w. e) (λ e f w. absurd (omega (arith, w.up.later)))

ulong_below : (n : ℕ) → IsFor (single.Octet octet.Ulong) (ulong n) → n < 256
ulong_below n = by_number (λ k. IsUnder (single.Octet octet.Ulong) k → n < 256) n _ _ _ (λ e w. omega arith) (λ e w. e) (λ e f w. absurd (omega (arith, w.up.later)))

int_small : (z : ℤ) → IsFor (single.Octet octet.Int) (int z) → FitsSigned w8 z
int_small z = by_small (λ k. IsUnder (single.Octet octet.Int) k → FitsSigned w8 z) z _ _ (λ e w. e) (λ e w. absurd (omega (arith, w.up.later)))

long_small : (z : ℤ) → IsFor (single.Octet octet.Long) (long z) → FitsSigned w8 z
long_small z = by_small (λ k. IsUnder (single.Octet octet.Long) k → FitsSigned w8 z) z _ _ (λ e w. e) (λ e w. absurd (omega (arith, w.up.later)))

text_short : (k : Text) (s : List ℕ) → IsUnder (single.Text k size.Short) (text_kind k s) → length s < 256
text_short k s = by_length (λ j. IsUnder (single.Text k size.Short) j → length s < 256) k s (λ e w. e) (λ e w. absurd (long_later k w))
  where
    long_later : (k : Text) → IsUnder (single.Text k size.Short) (single.Text k size.Long) → ⊥
    long_later text.Binary w = omega (arith, w.up.later)
    long_later text.String w = omega (arith, w.up.later)
    long_later text.Symbol w = omega (arith, w.up.later)

content_at : (k : Single) (b : Bool) (n : ℕ) (z : ℤ) (s : List ℕ) → HasContent k (scalar_at (single_type k) b n z s)
content_at (single.Bare bare.Null) b n z s w r p l = (refl, refl)
content_at (single.Bare bare.True) true n z s w r p l = (refl, refl)
content_at (single.Bare bare.True) false n z s w r p l = absurd (omega (arith, w.up.later))
content_at (single.Bare bare.False) true n z s w r p l = absurd (omega (arith, w.up.only refl))
content_at (single.Bare bare.False) false n z s w r p l = (refl, refl)
content_at (single.Bare bare.Uint) b n z s w r p l = (ap uint (uint_zero n w), refl)
content_at (single.Bare bare.Ulong) b n z s w r p l = (ap ulong (ulong_zero n w), refl)
content_at single.Boolean true n z s w r p l = (1, refl, (refl, (omega arith, refl)))
content_at single.Boolean false n z s w r p l = (0, refl, (refl, (omega arith, refl)))
content_at (single.Octet octet.Ubyte) b n z s w r p l = (n, refl, (omega arith, ap (to_be_bytes w8) (omega arith)))
content_at (single.Octet octet.Byte) b n z s w r p l = (cast_unsigned w8 z, ap byte (sym (to_z-of_z w8 z r)), (omega (arith, ints), ap (to_be_bytes w8) (omega (arith, ints))))
content_at (single.Octet octet.Uint) b n z s w r p l = let h : n < 256 = uint_below n w in (n, refl, (h, ap (to_be_bytes w8) (omega arith)))
content_at (single.Octet octet.Int) b n z s w r p l =
    let h : FitsSigned w8 z = int_small z w in
    (cast_unsigned w8 z, ap int (sym (to_z-of_z w8 z h)), (omega (arith, ints), ap (to_be_bytes w8) (low_32 z h)))
content_at (single.Octet octet.Ulong) b n z s w r p l = let h : n < 256 = ulong_below n w in (n, refl, (h, ap (to_be_bytes w8) (omega arith)))
content_at (single.Octet octet.Long) b n z s w r p l =
    let h : FitsSigned w8 z = long_small z w in
    (cast_unsigned w8 z, ap long (sym (to_z-of_z w8 z h)), (omega (arith, ints), ap (to_be_bytes w8) (low_64 z h)))
content_at (single.Wide wide.Ushort) b n z s w r p l = (n, refl, (omega arith, refl))
content_at (single.Wide wide.Uint) b n z s w r p l = (n, refl, (omega arith, refl))
content_at (single.Wide wide.Float) b n z s w r p l = (n, refl, (omega arith, refl))
content_at (single.Wide wide.Decimal32) b n z s w r p l = (n, refl, (omega arith, refl))
content_at (single.Wide wide.Ulong) b n z s w r p l = (n, refl, (omega arith, refl))
content_at (single.Wide wide.Double) b n z s w r p l = (n, refl, (omega arith, refl))
content_at (single.Wide wide.Decimal64) b n z s w r p l = (n, refl, (omega arith, refl))
content_at (single.Wide wide.Short) b n z s w r p l = (cast_unsigned w16 z, ap short (sym (to_z-of_z w16 z r)), (omega (arith, ints), refl))
content_at (single.Wide wide.Int) b n z s w r p l = (cast_unsigned w32 z, ap int (sym (to_z-of_z w32 z r)), (omega (arith, ints), refl))
content_at (single.Wide wide.Long) b n z s w r p l = (cast_unsigned w64 z, ap long (sym (to_z-of_z w64 z r)), (omega (arith, ints), refl))
content_at (single.Wide wide.Timestamp) b n z s w r p l = (cast_unsigned w64 z, ap timestamp (sym (to_z-of_z w64 z r)), (omega (arith, ints), refl))
content_at single.Char b n z s w r p l = (n, refl, (p, (omega arith, refl)))
content_at (single.Sixteen sixteen.Decimal128) b n z s w r p l = (s, refl, (r, refl))
content_at (single.Sixteen sixteen.Uuid) b n z s w r p l = (s, refl, (r, refl))
content_at (single.Text text.Binary size.Short) b n z s w r p l = (s, refl, (refl, (text_short text.Binary s w, refl)))
content_at (single.Text text.String size.Short) b n z s w r p l = (s, refl, (p, (text_short text.String s w, refl)))
content_at (single.Text text.Symbol size.Short) b n z s w r p l = (s, refl, (p, (text_short text.Symbol s w, refl)))
content_at (single.Text text.Binary size.Long) b n z s w r p l = (s, refl, (refl, (omega (arith, length-append (to_be_bytes w32 (length s)) s), refl)))
content_at (single.Text text.String size.Long) b n z s w r p l = (s, refl, (p, (omega (arith, length-append (to_be_bytes w32 (length s)) s), refl)))
content_at (single.Text text.Symbol size.Long) b n z s w r p l = (s, refl, (p, (omega (arith, length-append (to_be_bytes w32 (length s)) s), refl)))

pub single_has_content : (k : Single) (s : Scalar) → HasContent k s
single_has_content k s w = by_type HasContent content_at k s (sym w.alike ∙ first_type s) w
