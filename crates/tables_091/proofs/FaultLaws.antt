-- The readers of fields against the faults of bytes, by the laws of their parts.
use Rattle.std.proofs.Common.{◌≡◌, ◌≢◌, ◌↔◌, inl, inr, ℕ, zero, suc, ◌-◌, ◌<◌, ◌≤◌, ltb, false}
use Rattle.std.proofs.Common.{List, [], ◌∷◌, length, drop, Option, Some, None, Result, Ok, Err}
use Rattle.std.proofs.Common.{refl, sym, ap, ◌∙◌, arith}
use Rattle.std.proofs.lemmas.Bool.{ltb-true, ltb-false, lt-ltb, le-ltb}
use Rattle.std.proofs.lemmas.List.{length-append}
use Rattle.std.specs.Int.{w8, w32, from_be_bytes}
use Rattle.wire_base.specs.Bytes.{IsBytes}
use Rattle.wire_base.specs.Spelling.{IsNumber, IsText}
use Rattle.wire_base.specs.Faults.{Faults, IsCut, IsNumberCut, IsTextFault}
use Rattle.wire_base.specs.Reading.{Reads, ◌>>=◌, offset, pair_in, number_in, text_in, whole_in}
use Rattle.wire_base.proofs.Bytes.{IsBytes-drop}
use Rattle.wire_base.proofs.Laws.{IsReader, wide8, wide32, number_reader, text_reader}
use Rattle.wire_base.proofs.FaultLaws.{failed, err_is, bind_fails, guard_fails, TellsFaults}
use Rattle.wire_base.proofs.FaultLaws.{made_faults, number_faults, text_faults, pair_faults}
use Rattle.wire_base.proofs.FaultLaws.{container_faults}
use Rattle.tables_091.specs.Tree.{decimal, Tree, scalar, array, table, trees_of, members_of}
use Rattle.tables_091.specs.Kinds.{kind_byte, kind_of, octet_scalar, wide_width, wide_scalar}
use Rattle.tables_091.specs.Kinds.{text_scalar}
use Rattle.tables_091.specs.Grammar.{IsMember, IsField}
use Rattle.tables_091.specs.Reading.{single_in, member_in, flat_in, deep_in, kinded_in, typed_in}
use Rattle.tables_091.specs.Reading.{field_in, table_in, table_at}
use Rattle.tables_091.specs.Faults.{IsSingleFault, IsMemberFault, IsFlatFault, IsDeepFault}
use Rattle.tables_091.specs.Faults.{IsKindFault, IsTypedFault, IsFieldFault, IsTableFault}
use Rattle.tables_091.specs.Faults.{IsFaultAt}
use Rattle.tables_091.proofs.ReaderLaws.{kind_known, kind_is, member_reader, member_filled}
use Rattle.tables_091.proofs.ReaderLaws.{field_filled, field_reader}
use Rattle.tables_091.specs.declared.kind.Kind.{Kind}
use Rattle.tables_091.specs.declared.kind.Kind.TheVariants as kind
use Rattle.tables_091.specs.declared.kind.Single.{Single}
use Rattle.tables_091.specs.declared.kind.Single.TheVariants as single

-- ---- values that hold no other

-- a scale and a number are there where five bytes are
five_faults : TellsFaults (IsCut offset 5) (whole_in offset 5 (pair_in (number_in offset w8) (number_in offset w32)))
five_faults = record { found = found; told = told }
  where
    octets : IsReader (IsNumber w8) (number_in offset w8)
    octets = number_reader offset w8 wide8

    there : (end : ℕ) (text : List ℕ) (f : ℕ) → IsBytes text → 5 ≤ length text → pair_in (number_in offset w8) (number_in offset w32) end text ≡ Err f → ⊥
    there end text f fits long e =
        elim ((pair_faults (IsNumberCut offset w8) (IsNumberCut offset w32) (IsNumber w8) (number_in offset w8) (number_in offset w32) octets (number_faults offset w8) (number_faults offset w32)).found end text f fits e) [
          | inl h ↦ omega (arith, long, h.0)
          | inr h ↦ omega (arith, long, h.5.0, ap length h.4, length-append h.1 h.2, ap length h.3.1)
        ]

    found : (end : ℕ) (text : List ℕ) (f : ℕ) → IsBytes text → whole_in offset 5 (pair_in (number_in offset w8) (number_in offset w32)) end text ≡ Err f → IsCut offset 5 end text f
    found end text f fits e = elim (guard_fails (ltb (length text) 5) (offset (end - length text)) (pair_in (number_in offset w8) (number_in offset w32) end text) f e) [
      | inl h ↦ (ltb-true _ _ h.0, h.1)
      | inr h ↦ absurd (there end text f fits (ltb-false _ _ h.0) h.1)
    ]

    told : (end : ℕ) (text : List ℕ) (f : ℕ) → IsCut offset 5 end text f → whole_in offset 5 (pair_in (number_in offset w8) (number_in offset w32)) end text ≡ Err f
    told end text f h = rw (lt-ltb _ _ h.0, h.1) refl

single_faults : (k : Single) → TellsFaults (IsSingleFault k) (single_in k)
single_faults (single.Octet k) = made_faults (octet_scalar k) (IsNumberCut offset w8) (number_in offset w8) (number_faults offset w8)
single_faults (single.Wide k) = made_faults (wide_scalar k) (IsNumberCut offset (wide_width k)) (number_in offset (wide_width k)) (number_faults offset (wide_width k))
single_faults (single.Text k) = made_faults (text_scalar k) (IsTextFault offset w32) (text_in offset w32) (text_faults offset w32)
single_faults single.Decimal = made_faults (λ p. decimal p.0 p.1) (IsCut offset 5) (whole_in offset 5 (pair_in (number_in offset w8) (number_in offset w32))) five_faults
single_faults single.Void = record { found = λ end text f fits e. absurd cc; told = λ end text f h. absurd h }

-- ---- values by their kind, at any offset of their type byte

abbrev TellsValueFaults : (Kind → ℕ → Faults ℕ) → (Kind → ℕ → ℕ → List ℕ → Reads Tree ℕ) → Type 0
TellsValueFaults IsFault value = (k : Kind) (at : ℕ) → TellsFaults (IsFault k at) (value k at)

-- nothing is read, and the fault stands there
one_fault : (at : ℕ) → TellsFaults (λ end bytes f. f ≡ at) (λ end bytes. failed (Tree × List ℕ) at)
one_fault at = record {
  found = λ end text f fits e. sym (err_is {A = Tree × List ℕ} at f e);
  told = λ end text f h. ap (λ (n : ℕ). failed (Tree × List ℕ) n) (sym h);
}

flat_faults : TellsValueFaults IsFlatFault flat_in
flat_faults (kind.Single k) at = made_faults scalar (IsSingleFault k) (single_in k) (single_faults k)
flat_faults kind.Array at = one_fault at
flat_faults kind.Table at = one_fault at

member_faults : (Fault : Faults ℕ) (read : ℕ → List ℕ → Reads Tree ℕ) → TellsFaults Fault read → TellsFaults (IsMemberFault Fault) (member_in read)
member_faults Fault read t = pair_faults (IsTextFault offset w8) Fault (IsText w8) (text_in offset w8) read (text_reader offset w8 wide8) (text_faults offset w8) t

deep_faults : (R : Tree → List ℕ → Type 0) (Fault : Faults ℕ) (read : ℕ → List ℕ → Reads Tree ℕ) → IsReader R read → TellsFaults Fault read → ((t : Tree) (text : List ℕ) → R t text → 0 < length text)
    → TellsValueFaults (IsDeepFault R Fault) (λ k at. deep_in read k)
deep_faults R Fault read r t filled (kind.Single k) at = made_faults scalar (IsSingleFault k) (single_in k) (single_faults k)
deep_faults R Fault read r t filled kind.Array at = made_faults (λ ts. array (trees_of ts)) _ _ (container_faults offset w32 wide32 Fault R read r t filled)
deep_faults R Fault read r t filled kind.Table at =
    made_faults (λ ms. table (members_of ms)) _ _
    (container_faults offset w32 wide32 (IsMemberFault Fault) (IsMember R) (member_in read) (member_reader R read r) (member_faults Fault read t) (member_filled R))

-- ---- fields by their type byte

-- a type byte, and the bytes behind it
octet_read : (end b : ℕ) (rest : List ℕ) → number_in offset w8 end (b ∷ rest) ≡ Ok (b, rest)
octet_read end b rest =
    let some : ltb (length (b ∷ rest)) 1 ≡ false = le-ltb _ _ (omega arith) in
    let read : number_in offset w8 end (b ∷ rest) ≡ Ok (from_be_bytes w8 (b ∷ []), rest) = rw some refl in
    read ∙ ap (λ (n : ℕ). Ok (n, rest)) (omega arith)

-- what is read behind a type byte
abbrev behind_byte : (Kind → ℕ → ℕ → List ℕ → Reads Tree ℕ) → ℕ → List ℕ → ℕ × List ℕ → Reads Tree ℕ
behind_byte value end text b = kinded_in value (kind_of b.0) (end - length text) end b.1

typed_faults : (Fault : Kind → ℕ → Faults ℕ) (value : Kind → ℕ → ℕ → List ℕ → Reads Tree ℕ) → TellsValueFaults Fault value → TellsFaults (IsTypedFault Fault) (typed_in value)
typed_faults Fault value t = record { found = found; told = told }
  where
    by_kind : (b at end : ℕ) (o : Option Kind) (rest : List ℕ) (f : ℕ) → IsBytes rest → kind_of b ≡ o → kinded_in value o at end rest ≡ Err f → IsKindFault Fault b at end rest f
    by_kind b at end None rest f fits is e =
        inl ((λ k byte. let some : kind_of b ≡ Some k = sym (ap kind_of byte) ∙ (kind_known k).1 in absurd (cc (some, is))), sym (err_is {A = Tree × List ℕ} at f e))
    by_kind b at end (Some k) rest f fits is e = inr (k, kind_is b k is, (t k at).found end rest f fits e)

    found : (end : ℕ) (text : List ℕ) (f : ℕ) → IsBytes text → typed_in value end text ≡ Err f → IsTypedFault Fault end text f
    found end [] f fits e = inl (omega arith, sym (err_is {A = Tree × List ℕ} (end - 0) f e))
    found end (b ∷ rest) f fits e =
        let behind : kinded_in value (kind_of b) (end - length (b ∷ rest)) end rest ≡ Err f = sym (ap (λ (r : Reads ℕ ℕ). r >>= behind_byte value end (b ∷ rest)) (octet_read end b rest)) ∙ e in
        inr (b, rest, refl, by_kind b (end - length (b ∷ rest)) end (kind_of b) rest f (IsBytes-drop 1 (b ∷ rest) fits) refl behind)

    none : (b : ℕ) (o : Option Kind) → kind_of b ≡ o → ((k : Kind) → kind_byte k ≢ b) → o ≡ None
    none b None is unknown = refl
    none b (Some k) is unknown = absurd (unknown k (kind_is b k is))

    by_byte : (b at end : ℕ) (rest : List ℕ) (f : ℕ) → IsKindFault Fault b at end rest f → kinded_in value (kind_of b) at end rest ≡ Err f
    by_byte b at end rest f (inl h) =
        ap (λ (o : Option Kind). kinded_in value o at end rest) (none b (kind_of b) refl h.0) ∙ ap (λ (n : ℕ). failed (Tree × List ℕ) n) (sym h.1)
    by_byte b at end rest f (inr h) =
        ap (λ (o : Option Kind). kinded_in value o at end rest) (ap kind_of (sym h.1) ∙ (kind_known h.0).1) ∙ (t h.0 at).told end rest f h.2

    told : (end : ℕ) (text : List ℕ) (f : ℕ) → IsTypedFault Fault end text f → typed_in value end text ≡ Err f
    told end text f (inl h) = ap (λ (r : Reads ℕ ℕ). r >>= behind_byte value end text) ((number_faults offset w8).told end text f h)
    told end text f (inr h) =
        ap (λ (r : Reads ℕ ℕ). r >>= behind_byte value end text) (ap (number_in offset w8 end) h.2 ∙ octet_read end h.0 h.1)
        ∙ by_byte h.0 (end - length text) end h.1 f h.3

field_faults : (d : ℕ) → TellsFaults (IsFieldFault d) (field_in d)
unfolding IsFieldFault field_in
field_faults zero = typed_faults IsFlatFault flat_in flat_faults
field_faults (suc d) =
    typed_faults (IsDeepFault (IsField d) (IsFieldFault d)) (λ k at. deep_in (field_in d) k)
    (deep_faults (IsField d) (IsFieldFault d) (field_in d) (field_reader d) (field_faults d) (field_filled d))

-- ---- tables

table_faults : TellsFaults IsTableFault table_in
table_faults =
    container_faults offset w32 wide32 (IsMemberFault (IsFieldFault 15)) (IsMember (IsField 15)) (member_in (field_in 15))
    (member_reader (IsField 15) (field_in 15) (field_reader 15)) (member_faults (IsFieldFault 15) (field_in 15) (field_faults 15)) (member_filled (IsField 15))

-- the value of a table, and the offset after it
abbrev placed : ℕ → List (List ℕ × Tree) × List ℕ → Result (List (List ℕ × Tree) × ℕ) ℕ
placed end x = Ok (x.0, end - length x.1)

-- where no table stands, the fault that is read is the first
pub fault_is_first : (bytes : List ℕ) (from at : ℕ) → IsBytes bytes → (table_at bytes from ≡ Err at) ↔ IsFaultAt bytes from at
fault_is_first bytes from at fits = (there, back)
  where
    there : table_at bytes from ≡ Err at → IsFaultAt bytes from at
    there e = elim (bind_fails (table_in (length bytes) (drop from bytes)) (placed (length bytes)) at e) [
      | inl h ↦ table_faults.found (length bytes) (drop from bytes) at (IsBytes-drop from bytes fits) h
      | inr h ↦ absurd (cc h.2)
    ]

    back : IsFaultAt bytes from at → table_at bytes from ≡ Err at
    back h = ap (λ (r : Reads (List (List ℕ × Tree)) ℕ). r >>= placed (length bytes)) (table_faults.told (length bytes) (drop from bytes) at h)
