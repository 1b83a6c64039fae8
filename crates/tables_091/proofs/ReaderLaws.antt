-- The readers of fields against their spellings, by the laws of their parts.
use Rattle.std.proofs.Common.{◌≡◌, ◌↔◌, ℕ, zero, suc, ◌+◌, ◌-◌, ◌<◌, ◌≤◌, take, drop, Bool, true}
use Rattle.std.proofs.Common.{false, cond, eqb, List, [], ◌∷◌, ◌++◌, length, Option, Some, None, Ok}
use Rattle.std.proofs.Common.{Err, refl, sym, ap, subst, ◌∙◌, arith}
use Rattle.std.proofs.lemmas.Bool.{eqb-true}
use Rattle.std.proofs.lemmas.List.{length-append, length-drop, take_at}
use Rattle.std.specs.Int.{w8, w32, to_be_bytes}
use Rattle.wire_base.specs.Bytes.{IsBytes}
use Rattle.wire_base.specs.Spelling.{IsNumber, IsText, IsPair, IsContainer, StandsAt}
use Rattle.wire_base.specs.Reading.{Reads, offset, pair_in, number_in, text_in, whole_in}
use Rattle.wire_base.specs.Reading.{container_in}
use Rattle.wire_base.proofs.Bytes.{IsBytes-drop}
use Rattle.wire_base.proofs.Laws.{IsReader, Finds, IsWide, wide8, wide16, wide32, wide64, bind_is}
use Rattle.wire_base.proofs.Laws.{ok_is, made_reader, pair_reader, whole_reader, number_reader}
use Rattle.wire_base.proofs.Laws.{text_reader, reads_exactly}
use Rattle.wire_base.proofs.Items.{Shrinks, reader_shrinks, container_reader}
use Rattle.tables_091.specs.Tree.{Scalar, decimal, void, Tree, scalar, array, table, trees_of}
use Rattle.tables_091.specs.Tree.{members_of}
use Rattle.tables_091.specs.Kinds.{kind_byte, kind_of, octet_scalar, wide_width, wide_scalar}
use Rattle.tables_091.specs.Kinds.{text_scalar}
use Rattle.tables_091.specs.Grammar.{IsSingle, IsMember, IsFlat, IsDeep, IsTyped, IsField, IsTable}
use Rattle.tables_091.specs.Reading.{single_in, member_in, flat_in, deep_in, kinded_in, typed_in}
use Rattle.tables_091.specs.Reading.{field_in, table_in, table_at}
use Rattle.tables_091.specs.declared.kind.Kind.{Kind}
use Rattle.tables_091.specs.declared.kind.Kind.TheVariants as kind
use Rattle.tables_091.specs.declared.kind.Single.{Single}
use Rattle.tables_091.specs.declared.kind.Single.TheVariants as single
use Rattle.tables_091.specs.declared.kind.Octet.TheVariants as octet
use Rattle.tables_091.specs.declared.kind.Wide.{Wide}
use Rattle.tables_091.specs.declared.kind.Wide.TheVariants as wide
use Rattle.tables_091.specs.declared.kind.Text.TheVariants as text

-- ---- values that hold no other

pub wide_is : (k : Wide) → IsWide (wide_width k)
wide_is wide.I16 = wide16
wide_is wide.U16 = wide16
wide_is wide.I32 = wide32
wide_is wide.U32 = wide32
wide_is wide.I64 = wide64
wide_is wide.F32 = wide32
wide_is wide.F64 = wide64
wide_is wide.Time = wide64

void_reader : IsReader (IsSingle single.Void) (single_in single.Void)
void_reader = record {
  finds = λ end text x fits e. subst (λ (y : Scalar × List ℕ). Finds (IsSingle single.Void) text y) (ok_is {F = ℕ} (void, text) x e) (record { front = []; spelled = (refl, refl); parts = refl; rest_fits = fits });
  again = λ end s front rest h. rw (h.0, h.1) refl;
}

single_reader : (k : Single) → IsReader (IsSingle k) (single_in k)
single_reader (single.Octet k) = made_reader (octet_scalar k) (IsNumber w8) (number_in offset w8) (number_reader offset w8 wide8)
single_reader (single.Wide k) = made_reader (wide_scalar k) (IsNumber (wide_width k)) (number_in offset (wide_width k)) (number_reader offset (wide_width k) (wide_is k))
single_reader (single.Text k) = made_reader (text_scalar k) (IsText w32) (text_in offset w32) (text_reader offset w32 wide32)
single_reader single.Decimal =
    made_reader (λ p. decimal p.0 p.1) (IsPair (IsNumber w8) (IsNumber w32)) (whole_in offset 5 (pair_in (number_in offset w8) (number_in offset w32)))
    (whole_reader offset 5 (IsPair (IsNumber w8) (IsNumber w32)) (pair_in (number_in offset w8) (number_in offset w32))
    (pair_reader (IsNumber w8) (IsNumber w32) (number_in offset w8) (number_in offset w32) (number_reader offset w8 wide8) (number_reader offset w32 wide32))
    (λ p text h. omega (arith, ap length h.4, length-append h.0 h.1, ap length h.2.1, ap length h.3.1)))
single_reader single.Void = void_reader

-- ---- values by their kind, at any offset of their type byte

-- a reader of the values of a kind
abbrev IsValueReader : (Kind → Tree → List ℕ → Type 0) → (Kind → ℕ → ℕ → List ℕ → Reads Tree ℕ) → Type 0
IsValueReader R value = (k : Kind) (at : ℕ) → IsReader (R k) (value k at)

no_reader : (at : ℕ) → IsReader (λ (t : Tree) text. ⊥) (λ end text. Err at)
no_reader at = record { finds = λ end text x fits e. absurd cc; again = λ end t front rest h. absurd h }

flat_reader : IsValueReader IsFlat flat_in
flat_reader (kind.Single k) at = made_reader scalar (IsSingle k) (single_in k) (single_reader k)
flat_reader kind.Array at = no_reader at
flat_reader kind.Table at = no_reader at

-- a field takes a byte at least
IsFilled : (Tree → List ℕ → Type 0) → Type 0
IsFilled R = (t : Tree) (text : List ℕ) → R t text → 0 < length text

pub member_reader : (R : Tree → List ℕ → Type 0) (read : ℕ → List ℕ → Reads Tree ℕ) → IsReader R read → IsReader (IsMember R) (member_in read)
member_reader R read r = pair_reader (IsText w8) R (text_in offset w8) read (text_reader offset w8 wide8) r

pub member_filled : (R : Tree → List ℕ → Type 0) (m : List ℕ × Tree) (text : List ℕ) → IsMember R m text → 0 < length text
member_filled R m text h =
    omega (arith, ap length h.4, length-append h.0 h.1, ap length h.2.1, length-append (to_be_bytes w8 (length m.0)) m.0)

deep_reader : (R : Tree → List ℕ → Type 0) (read : ℕ → List ℕ → Reads Tree ℕ) → IsReader R read → ((t : Tree) (text : List ℕ) → R t text → 0 < length text) → IsValueReader (IsDeep R) (λ k at. deep_in read k)
deep_reader R read r filled (kind.Single k) at = made_reader scalar (IsSingle k) (single_in k) (single_reader k)
deep_reader R read r filled kind.Array at = made_reader (λ ts. array (trees_of ts)) (IsContainer w32 R) (container_in offset w32 read) (container_reader offset w32 wide32 R read r filled)
deep_reader R read r filled kind.Table at =
    made_reader (λ ms. table (members_of ms)) (IsContainer w32 (IsMember R)) (container_in offset w32 (member_in read))
    (container_reader offset w32 wide32 (IsMember R) (member_in read) (member_reader R read r) (member_filled R))

-- ---- fields by their type byte

-- the byte of a kind is a byte, and announces it
pub kind_known : (k : Kind) → (kind_byte k < 256) × (kind_of (kind_byte k) ≡ Some k)
kind_known (kind.Single (single.Octet octet.Bool)) = (omega arith, refl)
kind_known (kind.Single (single.Octet octet.I8)) = (omega arith, refl)
kind_known (kind.Single (single.Octet octet.U8)) = (omega arith, refl)
kind_known (kind.Single (single.Wide wide.I16)) = (omega arith, refl)
kind_known (kind.Single (single.Wide wide.U16)) = (omega arith, refl)
kind_known (kind.Single (single.Wide wide.I32)) = (omega arith, refl)
kind_known (kind.Single (single.Wide wide.U32)) = (omega arith, refl)
kind_known (kind.Single (single.Wide wide.I64)) = (omega arith, refl)
kind_known (kind.Single (single.Wide wide.F32)) = (omega arith, refl)
kind_known (kind.Single (single.Wide wide.F64)) = (omega arith, refl)
kind_known (kind.Single (single.Wide wide.Time)) = (omega arith, refl)
kind_known (kind.Single (single.Text text.Long)) = (omega arith, refl)
kind_known (kind.Single (single.Text text.Bytes)) = (omega arith, refl)
kind_known (kind.Single single.Decimal) = (omega arith, refl)
kind_known (kind.Single single.Void) = (omega arith, refl)
kind_known kind.Array = (omega arith, refl)
kind_known kind.Table = (omega arith, refl)

-- one link of the chain of type bytes
next_kind : (b n : ℕ) (x : Kind) (rest : Option Kind) (k : Kind) → kind_byte x ≡ n → cond (eqb b n) (Some x) rest ≡ Some k → (rest ≡ Some k → kind_byte k ≡ b) → kind_byte k ≡ b
next_kind b n x rest k here e later = at (eqb b n) refl e
  where
    at : (t : Bool) → eqb b n ≡ t → cond t (Some x) rest ≡ Some k → kind_byte k ≡ b
    at true p e = let same : x ≡ k = cc in ap kind_byte (sym same) ∙ here ∙ sym (eqb-true b n p)
    at false p e = later e

-- a byte that announces a kind is its byte
pub kind_is : (b : ℕ) (k : Kind) → kind_of b ≡ Some k → kind_byte k ≡ b
kind_is b k e =
    next_kind b 116 _ _ k refl e (λ e.
    next_kind b 98 _ _ k refl e (λ e.
    next_kind b 66 _ _ k refl e (λ e.
    next_kind b 115 _ _ k refl e (λ e.
    next_kind b 117 _ _ k refl e (λ e.
    next_kind b 73 _ _ k refl e (λ e.
    next_kind b 105 _ _ k refl e (λ e.
    next_kind b 108 _ _ k refl e (λ e.
    next_kind b 102 _ _ k refl e (λ e.
    next_kind b 100 _ _ k refl e (λ e.
    next_kind b 84 _ _ k refl e (λ e.
    next_kind b 83 _ _ k refl e (λ e.
    next_kind b 120 _ _ k refl e (λ e.
    next_kind b 68 _ _ k refl e (λ e.
    next_kind b 86 _ _ k refl e (λ e.
    next_kind b 65 _ _ k refl e (λ e.
    next_kind b 70 _ _ k refl e (λ e. absurd cc)))))))))))))))))

octet_text : (n : ℕ) → n < 256 → n ∷ [] ≡ to_be_bytes w8 n
octet_text n below = ap (λ (m : ℕ). m ∷ []) (omega arith)

typed_reader : (R : Kind → Tree → List ℕ → Type 0) (value : Kind → ℕ → ℕ → List ℕ → Reads Tree ℕ) → IsValueReader R value → IsReader (IsTyped R) (typed_in value)
typed_reader R value r = record { finds = finds; again = again }
  where
    octets : IsReader (IsNumber w8) (number_in offset w8)
    octets = number_reader offset w8 wide8

    found : (b at end : ℕ) (o : Option Kind) (text : List ℕ) (x : Tree × List ℕ) → IsBytes text → kind_of b ≡ o → kinded_in value o at end text ≡ Ok x → Finds (λ t front. IsTyped R t (b ∷ front)) text x
    found b at end None text x fits k e = absurd cc
    found b at end (Some k) text x fits is e =
        let f = (r k at).finds end text x fits e in
        record { front = f.front; spelled = (k, f.front, f.spelled, ap (λ (c : ℕ). c ∷ f.front) (sym (kind_is b k is))); parts = f.parts; rest_fits = f.rest_fits }

    finds : (end : ℕ) (text : List ℕ) (x : Tree × List ℕ) → IsBytes text → typed_in value end text ≡ Ok x → Finds (IsTyped R) text x
    finds end text x fits e =
        let b = bind_is (number_in offset w8 end text) (λ b. kinded_in value (kind_of b.0) (end - length text) end b.1) x e in
        let f = octets.finds end text b.0 fits b.1 in
        let g = found b.0.0 (end - length text) end (kind_of b.0.0) b.0.1 x f.rest_fits refl b.2 in
        let octet : f.front ≡ b.0.0 ∷ [] = f.spelled.1 ∙ ap (λ (c : ℕ). c ∷ []) (omega (arith, f.spelled.0)) in
        record {
          front = b.0.0 ∷ g.front;
          spelled = g.spelled;
          parts = f.parts ∙ ap (λ (t : List ℕ). t ++ b.0.1) octet ∙ ap (λ (t : List ℕ). b.0.0 ∷ t) g.parts;
          rest_fits = g.rest_fits;
        }

    again : (end : ℕ) (t : Tree) (front rest : List ℕ) → IsTyped R t front → typed_in value end (front ++ rest) ≡ Ok (t, rest)
    again end t front rest h =
        let k = h.0 in
        ap (λ (s : List ℕ). typed_in value end (s ++ rest)) h.3
        ∙ rw (octets.again end (kind_byte k) (kind_byte k ∷ []) (h.1 ++ rest) ((kind_known k).0, octet_text (kind_byte k) (kind_known k).0), (kind_known k).1) ((r k (end - length (kind_byte k ∷ (h.1 ++ rest)))).again end t h.1 rest h.2)

typed_filled : (R : Kind → Tree → List ℕ → Type 0) (t : Tree) (text : List ℕ) → IsTyped R t text → 0 < length text
typed_filled R t text h = omega (arith, ap length h.3)

pub field_filled : (d : ℕ) (t : Tree) (text : List ℕ) → IsField d t text → 0 < length text
unfolding IsField
field_filled zero t text h = typed_filled IsFlat t text h
field_filled (suc d) t text h = typed_filled (IsDeep (IsField d)) t text h

-- a field of at most this depth
pub field_reader : (d : ℕ) → IsReader (IsField d) (field_in d)
unfolding IsField field_in
field_reader zero = typed_reader IsFlat flat_in flat_reader
field_reader (suc d) = typed_reader (IsDeep (IsField d)) (λ k at. deep_in (field_in d) k) (deep_reader (IsField d) (field_in d) (field_reader d) (field_filled d))

-- each field takes a byte at least, and each entry
pub field_shrinks : (d end : ℕ) → Shrinks (field_in d end)
field_shrinks d end = reader_shrinks (IsField d) (field_in d) (field_reader d) (field_filled d) end

pub member_shrinks : (d end : ℕ) → Shrinks (member_in (field_in d) end)
member_shrinks d end = reader_shrinks (IsMember (IsField d)) (member_in (field_in d)) (member_reader (IsField d) (field_in d) (field_reader d)) (member_filled (IsField d)) end

-- a table
pub table_reader : IsReader IsTable table_in
table_reader = container_reader offset w32 wide32 (IsMember (IsField 15)) (member_in (field_in 15)) (member_reader (IsField 15) (field_in 15) (field_reader 15)) (member_filled (IsField 15))

-- ---- the table at an offset

-- a table takes a byte at least
pub table_filled : (ms : List (List ℕ × Tree)) (text : List ℕ) → IsTable ms text → 0 < length text
table_filled ms text h = omega (arith, ap length h.2.1, length-append (to_be_bytes w32 (length h.0)) h.0)

-- what is read is spelled so, up to the offset that is told
pub read_is_spelled : (bytes : List ℕ) (at : ℕ) (x : List (List ℕ × Tree) × ℕ) → IsBytes bytes → table_at bytes at ≡ Ok x → (x.1 ≤ length bytes) × IsTable x.0 (take (x.1 - at) (drop at bytes))
read_is_spelled bytes at x fits e =
    let end = length bytes in
    let b = bind_is (table_in end (drop at bytes)) (λ x. Ok (x.0, end - length x.1)) x e in
    let f = table_reader.finds end (drop at bytes) b.0 (IsBytes-drop at bytes fits) b.1 in
    let long : length f.front ≡ (end - length b.0.1) - at = omega (arith, ap length f.parts, length-append f.front b.0.1, length-drop at bytes) in
    let front : take ((end - length b.0.1) - at) (drop at bytes) ≡ f.front = ap (take ((end - length b.0.1) - at)) f.parts ∙ take_at f.front b.0.1 ((end - length b.0.1) - at) long in
    subst (λ (y : List (List ℕ × Tree) × ℕ). (y.1 ≤ end) × IsTable y.0 (take (y.1 - at) (drop at bytes))) (ok_is {F = ℕ} (b.0.0, end - length b.0.1) x b.2) (omega arith, rw front f.spelled)

-- what is spelled so is read, whatever follows
pub spelled_is_read : (bytes : List ℕ) (at : ℕ) (ms : List (List ℕ × Tree)) (text rest : List ℕ) → IsTable ms text → drop at bytes ≡ text ++ rest → table_at bytes at ≡ Ok (ms, at + length text)
spelled_is_read bytes at ms text rest h parts =
    let end = length bytes in
    let some = table_filled ms text h in
    let place : end - length rest ≡ at + length text = omega (arith, ap length parts, length-append text rest, length-drop at bytes) in
    let read : table_in end (drop at bytes) ≡ Ok (ms, rest) = ap (table_in end) parts ∙ table_reader.again end ms text rest h in
    rw (read, place) refl

-- a table is read exactly where one stands
pub table_is_read : (ms : List (List ℕ × Tree)) (bytes : List ℕ) (at after : ℕ) → IsBytes bytes → (table_at bytes at ≡ Ok (ms, after)) ↔ StandsAt IsTable ms bytes at after
table_is_read = reads_exactly IsTable table_at table_filled read_is_spelled spelled_is_read

-- bytes spell at most one table
pub one_table : (ms ns : List (List ℕ × Tree)) (text : List ℕ) → IsTable ms text → IsTable ns text → ms ≡ ns
one_table ms ns text h k =
    let same = ok_is {F = ℕ} (ms, []) (ns, []) (sym (table_reader.again 0 ms text [] h) ∙ table_reader.again 0 ns text [] k) in
    ap (λ (x : List (List ℕ × Tree) × List ℕ). x.0) same
