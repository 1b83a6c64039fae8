-- The readers of values against their spellings, by the laws of their parts.
use Rattle.std.proofs.Common.{◌≡◌, ◌≢◌, ◌↔◌, ℕ, zero, suc, ◌+◌, ◌-◌, ◌*◌, ◌/◌, ◌%◌, ◌<◌, ◌≤◌, Bool}
use Rattle.std.proofs.Common.{true, false, cond, eqb, ltb, List, [], ◌∷◌, ◌++◌, length, take}
use Rattle.std.proofs.Common.{drop, Option, Some, None, Result, Ok, Err, refl, sym, ap, subst, ◌∙◌}
use Rattle.std.proofs.Common.{append_assoc, arith}
use Rattle.std.proofs.lemmas.Bool.{eqb-true, ltb-false, le-ltb}
use Rattle.std.proofs.lemmas.List.{length-append, length-drop, take_at}
use Rattle.std.specs.Int.{Width, w8, w32, to_be_bytes}
use Rattle.wire_base.specs.Bytes.{IsBytes}
use Rattle.wire_base.specs.Spelling.{IsNumber, IsText, IsMade, StandsAt}
use Rattle.wire_base.specs.Reading.{Reads, ◌>>=◌, made}
use Rattle.wire_base.proofs.Bytes.{IsBytes-drop}
use Rattle.wire_base.proofs.Laws.{IsReader, Finds, IsWide, wide8, wide16, wide32, wide64, bind_is}
use Rattle.wire_base.proofs.Laws.{ok_is, guard_is, made_reader, reads_exactly}
use Rattle.types_10.specs.Tree.{boolean, char, Tree, scalar, list, mapping, array, described, depth}
use Rattle.types_10.specs.Tree.{no_trees, trees_of, pairs_of}
use Rattle.types_10.specs.Kinds.{kind_byte, kind_of, is_described, bare_scalar}
use Rattle.types_10.specs.Loads.{element_load}
use Rattle.types_10.specs.Kinds.{octet_scalar, wide_width, wide_scalar, sixteen_scalar, text_scalar}
use Rattle.types_10.specs.Kinds.{is_text, is_character, size_width}
use Rattle.types_10.specs.Grammar.{IsSixteen, IsSingle, IsCoded, IsThen, IsNothing, IsRow, IsTwo}
use Rattle.types_10.specs.Grammar.{IsListIn, IsMapIn, IsFront, Elements, IsConstructorIn, Spellings}
use Rattle.types_10.specs.Grammar.{IsValueBy, AreElements, IsArrayIn, IsFlatIn, IsDeepIn}
use Rattle.types_10.specs.Grammar.{IsElementIn, spellings, IsValueIn, IsValue}
use Rattle.types_10.specs.Reading.{Fault, fault_at, count_in, bytes_in, sixteen_in, text_fault}
use Rattle.types_10.specs.Reading.{single_in, known_in, coded_in, code_in, Shape, with_descriptor}
use Rattle.types_10.specs.Reading.{constructor_in, Inside, Contents, value_by, shape_by, items_in}
use Rattle.types_10.specs.Reading.{row_in, two_in, entries_in, spent_in, elements_in, flat_in, deep_in, element_by, level}
use Rattle.types_10.specs.Reading.{value_in, value_at}
use Rattle.types_10.proofs.ReaderLaws.{size_is, count_reader, bytes_reader, sixteen_reader}
use Rattle.types_10.proofs.ReaderLaws.{tested_reader, then_reader, filled_reader}
use Rattle.types_10.specs.declared.fault.TypeFault.TheVariants as fault
use Rattle.types_10.specs.declared.kind.Kind.{Kind}
use Rattle.types_10.specs.declared.kind.Kind.TheVariants as kind
use Rattle.types_10.specs.declared.kind.Single.{Single}
use Rattle.types_10.specs.declared.kind.Single.TheVariants as single
use Rattle.types_10.specs.declared.kind.Bare.TheVariants as bare
use Rattle.types_10.specs.declared.kind.Octet.TheVariants as octet
use Rattle.types_10.specs.declared.kind.Wide.{Wide}
use Rattle.types_10.specs.declared.kind.Wide.TheVariants as wide
use Rattle.types_10.specs.declared.kind.Sixteen.TheVariants as sixteen
use Rattle.types_10.specs.declared.kind.Text.TheVariants as text
use Rattle.types_10.specs.declared.kind.Size.TheVariants as size

-- ---- values that hold no other

pub wide_is : (k : Wide) → IsWide (wide_width k)
wide_is wide.Ushort = wide16
wide_is wide.Short = wide16
wide_is wide.Uint = wide32
wide_is wide.Int = wide32
wide_is wide.Float = wide32
wide_is wide.Decimal32 = wide32
wide_is wide.Ulong = wide64
wide_is wide.Long = wide64
wide_is wide.Double = wide64
wide_is wide.Timestamp = wide64
wide_is wide.Decimal64 = wide64

-- what has no content
none_reader : {A : Type 0} (a : A) → IsReader {A = A} {F = Fault} (IsNothing a) (λ end text. Ok (a, text))
none_reader {A} a = record {
  finds = λ end text x fits e. subst (λ (y : A × List ℕ). Finds (IsNothing a) text y) (ok_is {F = Fault} (a, text) x e) (record { front = []; spelled = (refl, refl); parts = refl; rest_fits = fits });
  again = λ end s front rest h. rw (h.0, h.1) refl;
}

no_reader : {A : Type 0} (f : Fault) → IsReader {A = A} (λ t text. ⊥) (λ end text. Err f)
no_reader f = record { finds = λ end text x fits e. absurd cc; again = λ end t front rest h. absurd h }

single_reader : (k : Single) (cut : Fault) → IsReader (IsSingle k) (single_in k cut)
single_reader (single.Bare k) cut = none_reader (bare_scalar k)
single_reader single.Boolean cut =
    let number = count_reader cut w8 wide8 in
    made_reader (λ n. boolean (eqb n 1)) _ _ (tested_reader (λ n. ltb n 2) (λ n after. fault_at fault.UnknownCode (after - 1)) (IsNumber w8) (λ end text. count_in cut w8 text) number)
single_reader (single.Octet k) cut = made_reader (octet_scalar k) (IsNumber w8) (λ end text. count_in cut w8 text) (count_reader cut w8 wide8)
single_reader (single.Wide k) cut = made_reader (wide_scalar k) (IsNumber (wide_width k)) (λ end text. count_in cut (wide_width k) text) (count_reader cut (wide_width k) (wide_is k))
single_reader single.Char cut =
    made_reader char _ _ (tested_reader is_character (λ n after. fault_at fault.NotUtf8 (after - 4)) (IsNumber w32) (λ end text. count_in cut w32 text) (count_reader cut w32 wide32))
single_reader (single.Sixteen k) cut = made_reader (sixteen_scalar k) IsSixteen (λ end text. sixteen_in cut text) (sixteen_reader cut)
single_reader (single.Text k s) cut =
    made_reader (text_scalar k) _ _ (tested_reader (is_text k) (text_fault k) (IsText (size_width s)) (λ end text. bytes_in cut (size_width s) text) (bytes_reader cut (size_width s) (size_is s)))

-- ---- codes

-- the code of a kind is a byte, and announces it
pub kind_known : (k : Kind) → (kind_byte k < 256) × (kind_of (kind_byte k) ≡ Some k)
kind_known kind.Described = (omega arith, refl)
kind_known (kind.Single (single.Bare bare.Null)) = (omega arith, refl)
kind_known (kind.Single (single.Bare bare.True)) = (omega arith, refl)
kind_known (kind.Single (single.Bare bare.False)) = (omega arith, refl)
kind_known (kind.Single (single.Bare bare.Uint)) = (omega arith, refl)
kind_known (kind.Single (single.Bare bare.Ulong)) = (omega arith, refl)
kind_known kind.EmptyList = (omega arith, refl)
kind_known (kind.Single (single.Octet octet.Ubyte)) = (omega arith, refl)
kind_known (kind.Single (single.Octet octet.Byte)) = (omega arith, refl)
kind_known (kind.Single (single.Octet octet.Uint)) = (omega arith, refl)
kind_known (kind.Single (single.Octet octet.Ulong)) = (omega arith, refl)
kind_known (kind.Single (single.Octet octet.Int)) = (omega arith, refl)
kind_known (kind.Single (single.Octet octet.Long)) = (omega arith, refl)
kind_known (kind.Single single.Boolean) = (omega arith, refl)
kind_known (kind.Single (single.Wide wide.Ushort)) = (omega arith, refl)
kind_known (kind.Single (single.Wide wide.Short)) = (omega arith, refl)
kind_known (kind.Single (single.Wide wide.Uint)) = (omega arith, refl)
kind_known (kind.Single (single.Wide wide.Int)) = (omega arith, refl)
kind_known (kind.Single (single.Wide wide.Float)) = (omega arith, refl)
kind_known (kind.Single single.Char) = (omega arith, refl)
kind_known (kind.Single (single.Wide wide.Decimal32)) = (omega arith, refl)
kind_known (kind.Single (single.Wide wide.Ulong)) = (omega arith, refl)
kind_known (kind.Single (single.Wide wide.Long)) = (omega arith, refl)
kind_known (kind.Single (single.Wide wide.Double)) = (omega arith, refl)
kind_known (kind.Single (single.Wide wide.Timestamp)) = (omega arith, refl)
kind_known (kind.Single (single.Wide wide.Decimal64)) = (omega arith, refl)
kind_known (kind.Single (single.Sixteen sixteen.Decimal128)) = (omega arith, refl)
kind_known (kind.Single (single.Sixteen sixteen.Uuid)) = (omega arith, refl)
kind_known (kind.Single (single.Text text.Binary size.Short)) = (omega arith, refl)
kind_known (kind.Single (single.Text text.String size.Short)) = (omega arith, refl)
kind_known (kind.Single (single.Text text.Symbol size.Short)) = (omega arith, refl)
kind_known (kind.Single (single.Text text.Binary size.Long)) = (omega arith, refl)
kind_known (kind.Single (single.Text text.String size.Long)) = (omega arith, refl)
kind_known (kind.Single (single.Text text.Symbol size.Long)) = (omega arith, refl)
kind_known (kind.List size.Short) = (omega arith, refl)
kind_known (kind.Map size.Short) = (omega arith, refl)
kind_known (kind.List size.Long) = (omega arith, refl)
kind_known (kind.Map size.Long) = (omega arith, refl)
kind_known (kind.Array size.Short) = (omega arith, refl)
kind_known (kind.Array size.Long) = (omega arith, refl)

-- one link of the chain of codes
next_kind : (b n : ℕ) (x : Kind) (rest : Option Kind) (k : Kind) → kind_byte x ≡ n → cond (eqb b n) (Some x) rest ≡ Some k → (rest ≡ Some k → kind_byte k ≡ b) → kind_byte k ≡ b
next_kind b n x rest k here e later = at (eqb b n) refl e
  where
    at : (t : Bool) → eqb b n ≡ t → cond t (Some x) rest ≡ Some k → kind_byte k ≡ b
    at true p e = let same : x ≡ k = cc in ap kind_byte (sym same) ∙ here ∙ sym (eqb-true b n p)
    at false p e = later e

-- a byte that announces a kind is its code
pub kind_is : (b : ℕ) (k : Kind) → kind_of b ≡ Some k → kind_byte k ≡ b
kind_is b k e =
    next_kind b 0 _ _ k refl e (λ e.
    next_kind b 64 _ _ k refl e (λ e.
    next_kind b 65 _ _ k refl e (λ e.
    next_kind b 66 _ _ k refl e (λ e.
    next_kind b 67 _ _ k refl e (λ e.
    next_kind b 68 _ _ k refl e (λ e.
    next_kind b 69 _ _ k refl e (λ e.
    next_kind b 80 _ _ k refl e (λ e.
    next_kind b 81 _ _ k refl e (λ e.
    next_kind b 82 _ _ k refl e (λ e.
    next_kind b 83 _ _ k refl e (λ e.
    next_kind b 84 _ _ k refl e (λ e.
    next_kind b 85 _ _ k refl e (λ e.
    next_kind b 86 _ _ k refl e (λ e.
    next_kind b 96 _ _ k refl e (λ e.
    next_kind b 97 _ _ k refl e (λ e.
    next_kind b 112 _ _ k refl e (λ e.
    next_kind b 113 _ _ k refl e (λ e.
    next_kind b 114 _ _ k refl e (λ e.
    next_kind b 115 _ _ k refl e (λ e.
    next_kind b 116 _ _ k refl e (λ e.
    next_kind b 128 _ _ k refl e (λ e.
    next_kind b 129 _ _ k refl e (λ e.
    next_kind b 130 _ _ k refl e (λ e.
    next_kind b 131 _ _ k refl e (λ e.
    next_kind b 132 _ _ k refl e (λ e.
    next_kind b 148 _ _ k refl e (λ e.
    next_kind b 152 _ _ k refl e (λ e.
    next_kind b 160 _ _ k refl e (λ e.
    next_kind b 161 _ _ k refl e (λ e.
    next_kind b 163 _ _ k refl e (λ e.
    next_kind b 176 _ _ k refl e (λ e.
    next_kind b 177 _ _ k refl e (λ e.
    next_kind b 179 _ _ k refl e (λ e.
    next_kind b 192 _ _ k refl e (λ e.
    next_kind b 193 _ _ k refl e (λ e.
    next_kind b 208 _ _ k refl e (λ e.
    next_kind b 209 _ _ k refl e (λ e.
    next_kind b 224 _ _ k refl e (λ e.
    next_kind b 240 _ _ k refl e (λ e. absurd cc))))))))))))))))))))))))))))))))))))))))

octet_text : (n : ℕ) → n < 256 → n ∷ [] ≡ to_be_bytes w8 n
octet_text n below = ap (λ (m : ℕ). m ∷ []) (omega arith)

-- a code, and what it announces
coded_reader : {A : Type 0} (R : Kind → A → List ℕ → Type 0) (read : Kind → ℕ → Fault → ℕ → List ℕ → Reads A Fault)
    → ((k : Kind) (at : ℕ) (cut : Fault) → IsReader (R k) (read k at cut)) → (cut : Fault) → IsReader (IsCoded R) (coded_in read cut)
coded_reader {A} R read r cut = record { finds = finds; again = again }
  where
    octets : IsReader (IsNumber w8) (λ end text. count_in cut w8 text)
    octets = count_reader cut w8 wide8

    found : (b at end : ℕ) (o : Option Kind) (text : List ℕ) (x : A × List ℕ) → IsBytes text → kind_of b ≡ o → known_in read o at cut end text ≡ Ok x → Finds (λ t front. IsCoded R t (b ∷ front)) text x
    found b at end None text x fits is e = absurd cc
    found b at end (Some k) text x fits is e =
        let f = (r k at cut).finds end text x fits e in
        record { front = f.front; spelled = (k, f.front, f.spelled, ap (λ (c : ℕ). c ∷ f.front) (sym (kind_is b k is))); parts = f.parts; rest_fits = f.rest_fits }

    finds : (end : ℕ) (text : List ℕ) (x : A × List ℕ) → IsBytes text → coded_in read cut end text ≡ Ok x → Finds (IsCoded R) text x
    finds end text x fits e =
        let b = bind_is (count_in cut w8 text) (λ b. known_in read (kind_of b.0) (end - length text) cut end b.1) x e in
        let f = octets.finds end text b.0 fits b.1 in
        let g = found b.0.0 (end - length text) end (kind_of b.0.0) b.0.1 x f.rest_fits refl b.2 in
        let octet : f.front ≡ b.0.0 ∷ [] = f.spelled.1 ∙ ap (λ (c : ℕ). c ∷ []) (omega (arith, f.spelled.0)) in
        record {
          front = b.0.0 ∷ g.front;
          spelled = g.spelled;
          parts = f.parts ∙ ap (λ (t : List ℕ). t ++ b.0.1) octet ∙ ap (λ (t : List ℕ). b.0.0 ∷ t) g.parts;
          rest_fits = g.rest_fits;
        }

    again : (end : ℕ) (t : A) (front rest : List ℕ) → IsCoded R t front → coded_in read cut end (front ++ rest) ≡ Ok (t, rest)
    again end t front rest h =
        let k = h.0 in
        ap (λ (s : List ℕ). coded_in read cut end (s ++ rest)) h.3
        ∙ rw (octets.again end (kind_byte k) (kind_byte k ∷ []) (h.1 ++ rest) ((kind_known k).0, octet_text (kind_byte k) (kind_known k).0), (kind_known k).1) ((r k (end - length (kind_byte k ∷ (h.1 ++ rest))) cut).again end t h.1 rest h.2)

-- what a code announces, once the code is read
pub coded_from : {A : Type 0} (read : Kind → ℕ → Fault → ℕ → List ℕ → Reads A Fault) (cut : Fault) (end : ℕ) (bytes : List ℕ) (k : Kind) (at : ℕ) (rest : List ℕ)
    → code_in cut end bytes ≡ Ok ((k, at), rest) → coded_in read cut end bytes ≡ read k at cut end rest
coded_from {A} read cut end bytes k at rest e = step (count_in cut w8 bytes) e
  where
    known : (o : Option Kind) (more : List ℕ) → known_in {A = Kind × ℕ} (λ k at cut end bytes. Ok ((k, at), bytes)) o (end - length bytes) cut end more ≡ Ok ((k, at), rest)
        → known_in read o (end - length bytes) cut end more ≡ read k at cut end rest
    known None more h = absurd cc
    known (Some x) more h =
        let same = ok_is {F = Fault} ((x, end - length bytes), more) ((k, at), rest) h in
        ap (λ (y : (Kind × ℕ) × List ℕ). read y.0.0 y.0.1 cut end y.1) same

    step : (r : Reads ℕ Fault) → (r >>= λ b. known_in {A = Kind × ℕ} (λ k at cut end bytes. Ok ((k, at), bytes)) (kind_of b.0) (end - length bytes) cut end b.1) ≡ Ok ((k, at), rest)
        → (r >>= λ b. known_in read (kind_of b.0) (end - length bytes) cut end b.1) ≡ read k at cut end rest
    step (Err f) h = absurd cc
    step (Ok b) h = known (kind_of b.0) b.1 h

-- a code that was read stands at the front, and one that stands there is read
pub code_found : (cut : Fault) (end : ℕ) (text : List ℕ) (c : Kind × ℕ) (rest : List ℕ) → IsBytes text → code_in cut end text ≡ Ok (c, rest) → (text ≡ kind_byte c.0 ∷ rest) × IsBytes rest
code_found cut end text c rest fits e =
    let announced = coded_from (λ k at cut end bytes. Ok (k, bytes)) cut end text c.0 c.1 rest e in
    let codes = coded_reader (λ k j text. (j ≡ k) × (text ≡ [])) (λ k at cut end bytes. Ok (k, bytes)) (λ k at cut. none_reader k) cut in
    let f = codes.finds end text (c.0, rest) fits announced in
    let front : f.front ≡ kind_byte c.0 ∷ [] = f.spelled.3 ∙ ap (λ (s : List ℕ). kind_byte f.spelled.0 ∷ s) f.spelled.2.1 ∙ ap (λ (k : Kind). kind_byte k ∷ []) (sym f.spelled.2.0) in
    (f.parts ∙ ap (λ (t : List ℕ). t ++ rest) front, f.rest_fits)

pub code_again : (cut : Fault) (end : ℕ) (k : Kind) (rest : List ℕ) → code_in cut end (kind_byte k ∷ rest) ≡ Ok ((k, end - length (kind_byte k ∷ rest)), rest)
code_again cut end k rest =
    let octet = (count_reader cut w8 wide8).again end (kind_byte k) (kind_byte k ∷ []) rest ((kind_known k).0, octet_text (kind_byte k) (kind_known k).0) in
    rw (octet, (kind_known k).1) refl

-- ---- lists, maps and arrays

-- a reader of values, whatever the fault of one that is cut off
abbrev pub IsEachReader : {A : Type 0} → (A → List ℕ → Type 0) → (Fault → ℕ → List ℕ → Reads A Fault) → Type 0
IsEachReader R read = (cut : Fault) → IsReader R (read cut)

-- readers of values, and of rows and pairs of them, within any room
abbrev pub AreReaders : {A : Type 0} → (ℕ → A × ℕ → List ℕ → Type 0) → (ℕ → ℕ → List ℕ → Reads (A × ℕ) Fault) → Type 0
AreReaders R read = (room : ℕ) → IsReader (R room) (read room)

pub row_reader : {A : Type 0} (R : ℕ → A × ℕ → List ℕ → Type 0) (read : ℕ → ℕ → List ℕ → Reads (A × ℕ) Fault) → AreReaders R read → (n : ℕ) → AreReaders (IsRow R n) (row_in read n)
unfolding IsRow row_in
row_reader R read r zero room = none_reader ([], room)
row_reader R read r (suc n) room =
    then_reader (R room) (λ x. IsMade (λ xs. (x.0 ∷ xs.0, xs.1)) (IsRow R n x.1)) (read room) (λ x end text. made (λ xs. (x.0 ∷ xs.0, xs.1)) (row_in read n x.1 end text)) (r room)
    (λ x. made_reader (λ xs. (x.0 ∷ xs.0, xs.1)) (IsRow R n x.1) (row_in read n x.1) (row_reader R read r n x.1))

pub two_reader : (R : ℕ → Tree × ℕ → List ℕ → Type 0) (read : ℕ → ℕ → List ℕ → Reads (Tree × ℕ) Fault) → AreReaders R read → AreReaders (IsTwo R) (two_in read)
two_reader R read r room =
    then_reader (R room) (λ x. IsMade (λ y. ((x.0, y.0), y.1)) (R x.1)) (read room) (λ x end text. made (λ y. ((x.0, y.0), y.1)) (read x.1 end text)) (r room)
    (λ x. made_reader (λ y. ((x.0, y.0), y.1)) (R x.1) (read x.1) (r x.1))

-- the same, whatever the fault of one that is cut off
abbrev pub AreEachReader : {A : Type 0} → (ℕ → A × ℕ → List ℕ → Type 0) → (ℕ → Fault → ℕ → List ℕ → Reads (A × ℕ) Fault) → Type 0
AreEachReader R read = (room : ℕ) (cut : Fault) → IsReader (R room) (read room cut)

pub items_reader : (w : Width) → IsWide w → (R : ℕ → Tree × ℕ → List ℕ → Type 0) (read : ℕ → Fault → ℕ → List ℕ → Reads (Tree × ℕ) Fault) → AreEachReader R read → AreEachReader (IsListIn w R) (items_in w read)
items_reader w wide R read r room cut =
    then_reader (IsNumber w) (λ n. IsRow R n room) (λ end text. count_in cut w text) (λ n end text. row_in (λ room. read room cut) n room end text) (count_reader cut w wide)
    (λ n. row_reader R (λ room. read room cut) (λ room. r room cut) n room)

chosen : {A : Type 0} (b : Bool) (r : Result A Fault) (y : A) (d : Fault) → cond b r (Err d) ≡ Ok y → (b ≡ true) × (r ≡ Ok y)
chosen true r y d e = (refl, e)
chosen false r y d e = absurd cc

avoided : {A : Type 0} (b : Bool) (r : Result A Fault) (y : A) (d : Fault) → cond b (Err d) r ≡ Ok y → (b ≡ false) × (r ≡ Ok y)
avoided true r y d e = absurd cc
avoided false r y d e = (refl, e)

halves_reader : (R : ℕ → (Tree × Tree) × ℕ → List ℕ → Type 0) (read : ℕ → ℕ → List ℕ → Reads ((Tree × Tree) × ℕ) Fault) (cut : Fault) → AreReaders R read → (n room : ℕ)
    → IsReader (λ ps text. (n % 2 ≡ 0) × IsRow R (n / 2) room ps text) (λ end text. cond (eqb (n % 2) 0) (row_in read (n / 2) room end text) (Err cut))
halves_reader R read cut r n room = record { finds = finds; again = again }
  where
    finds : (end : ℕ) (text : List ℕ) (x : (List (Tree × Tree) × ℕ) × List ℕ) → IsBytes text → cond (eqb (n % 2) 0) (row_in read (n / 2) room end text) (Err cut) ≡ Ok x
        → Finds (λ ps text. (n % 2 ≡ 0) × IsRow R (n / 2) room ps text) text x
    finds end text x fits e =
        let g = chosen (eqb (n % 2) 0) (row_in read (n / 2) room end text) x cut e in
        let f = (row_reader R read r (n / 2) room).finds end text x fits g.1 in
        record { front = f.front; spelled = (eqb-true _ _ g.0, f.spelled); parts = f.parts; rest_fits = f.rest_fits }

    again : (end : ℕ) (ps : List (Tree × Tree) × ℕ) (front rest : List ℕ) → (n % 2 ≡ 0) × IsRow R (n / 2) room ps front → cond (eqb (n % 2) 0) (row_in read (n / 2) room end (front ++ rest)) (Err cut) ≡ Ok (ps, rest)
    again end ps front rest h = rw h.0 ((row_reader R read r (n / 2) room).again end ps front rest h.1)

pub entries_reader : (w : Width) → IsWide w → (R : ℕ → Tree × ℕ → List ℕ → Type 0) (read : ℕ → Fault → ℕ → List ℕ → Reads (Tree × ℕ) Fault) → AreEachReader R read → AreEachReader (IsMapIn w R) (entries_in w read)
entries_reader w wide R read r room cut =
    then_reader (IsNumber w) (λ n ps text. (n % 2 ≡ 0) × IsRow (IsTwo R) (n / 2) room ps text) (λ end text. count_in cut w text)
    (λ n end text. cond (eqb (n % 2) 0) (row_in (two_in (λ room. read room cut)) (n / 2) room end text) (Err cut)) (count_reader cut w wide)
    (λ n. halves_reader (IsTwo R) (two_in (λ room. read room cut)) cut (two_reader R (λ room. read room cut) (λ room. r room cut)) n room)

-- ---- constructors

pub not_described : (k : Kind) → k ≢ kind.Described → is_described k ≡ false
not_described kind.Described h = absurd (h refl)
not_described k h = refl

constructor_found : (R : ℕ → Tree × ℕ → List ℕ → Type 0) (read : ℕ → Fault → ℕ → List ℕ → Reads (Tree × ℕ) Fault) → AreEachReader R read → (cut : Fault) (most room end : ℕ) (text : List ℕ) (x : (Shape × ℕ) × List ℕ) → IsBytes text
    → constructor_in read most room cut end text ≡ Ok x → Finds (IsConstructorIn R room) text x
unfolding constructor_in IsFront
constructor_found R read r cut zero room end text x fits e = absurd cc
constructor_found R read r cut (suc most) room end text x fits e =
    let b = bind_is (code_in cut end text) (λ c. cond (is_described c.0.0) (read room cut end c.1 >>= λ d. made (with_descriptor d.0.0) (constructor_in read most d.0.1 cut end d.1)) (Ok ((([], c.0.0), room), c.1))) x e in
    let here = code_found cut end text b.0.0 b.0.1 fits b.1 in
    step b.0.0.0 b.0.1 here.0 here.1 (λ room. constructor_found R read r cut most room end) b.2
  where
    step : (k : Kind) (rest : List ℕ) → text ≡ kind_byte k ∷ rest → IsBytes rest
        → ((room : ℕ) (more : List ℕ) (x : (Shape × ℕ) × List ℕ) → IsBytes more → constructor_in read most room cut end more ≡ Ok x → Finds (IsConstructorIn R room) more x)
        → cond (is_described k) (read room cut end rest >>= λ d. made (with_descriptor d.0.0) (constructor_in read most d.0.1 cut end d.1)) (Ok ((([], k), room), rest)) ≡ Ok x → Finds (IsConstructorIn R room) text x
    step kind.Described rest parts fits later e =
        let d = bind_is (read room cut end rest) (λ d. made (with_descriptor d.0.0) (constructor_in read most d.0.1 cut end d.1)) x e in
        let s = bind_is (constructor_in read most d.0.0.1 cut end d.0.1) (λ s. Ok (with_descriptor d.0.0.0 s.0, s.1)) x d.2 in
        let f = (r room cut).finds end rest d.0 fits d.1 in
        let g = later d.0.0.1 d.0.1 s.0 f.rest_fits s.1 in
        let h = g.spelled in
        let whole = parts ∙ ap (λ (t : List ℕ). 0 ∷ t) (f.parts ∙ ap (λ (t : List ℕ). f.front ++ t) (g.parts ∙ ap (λ (t : List ℕ). t ++ s.0.1) h.4)) in
        let regrouped : 0 ∷ (f.front ++ ((h.0 ++ h.1) ++ s.0.1)) ≡ ((0 ∷ (f.front ++ h.0)) ++ h.1) ++ s.0.1 = simp append_assoc in
        subst (λ (y : (Shape × ℕ) × List ℕ). Finds (IsConstructorIn R room) text y) (ok_is {F = Fault} (with_descriptor d.0.0.0 s.0.0, s.0.1) x s.2)
        (record {
          front = (0 ∷ (f.front ++ h.0)) ++ h.1;
          spelled = (0 ∷ (f.front ++ h.0), h.1, (d.0.0.1, f.front, h.0, f.spelled, h.2, refl), h.3, refl);
          parts = whole ∙ regrouped;
          rest_fits = g.rest_fits;
        })
    step k rest parts fits later e =
        subst (λ (y : (Shape × ℕ) × List ℕ). Finds (IsConstructorIn R room) text y) (ok_is {F = Fault} ((([], k), room), rest) x e)
        (record { front = kind_byte k ∷ []; spelled = ([], kind_byte k ∷ [], (refl, refl), ((λ p. absurd cc), refl), refl); parts = parts; rest_fits = fits })

constructor_again : (R : ℕ → Tree × ℕ → List ℕ → Type 0) (read : ℕ → Fault → ℕ → List ℕ → Reads (Tree × ℕ) Fault) → AreEachReader R read → (cut : Fault) (most room end : ℕ) (ds : List Tree) (k : Kind) (left : ℕ) (text rest : List ℕ)
    → length text ≤ most → IsConstructorIn R room ((ds, k), left) text → constructor_in read most room cut end (text ++ rest) ≡ Ok (((ds, k), left), rest)
unfolding constructor_in IsFront
constructor_again R read r cut zero room end ds k left text rest le h = absurd (omega (arith, ap length h.4, length-append h.0 h.1, ap length h.3.1))
constructor_again R read r cut (suc most) room end [] k left text rest le h =
    let whole : text ++ rest ≡ kind_byte k ∷ rest = rw (h.4, h.2.1, h.3.1) refl in
    ap (constructor_in read (suc most) room cut end) whole ∙ rw (code_again cut end k rest, not_described k h.3.0, h.2.0) refl
constructor_again R read r cut (suc most) room end (d ∷ ds) k left text rest le h =
    let i = h.2 in
    let more = i.2 ++ h.1 in
    let whole : text ++ rest ≡ 0 ∷ (i.1 ++ (more ++ rest)) = rw (h.4, i.5) (simp append_assoc) in
    let less : length more ≤ most = omega (arith, ap length whole, length-append text rest, length-append i.1 (more ++ rest), length-append more rest) in
    let first = code_again cut end kind.Described (i.1 ++ (more ++ rest)) in
    let descriptor = (r room cut).again end (d, i.0) i.1 (more ++ rest) i.3 in
    let later = constructor_again R read r cut most i.0 end ds k left more rest less (i.2, h.1, i.4, h.3, refl) in
    ap (constructor_in read (suc most) room cut end) whole ∙ rw (first, descriptor, later) refl

-- a constructor has no more codes than bytes
pub constructor_reader : (R : ℕ → Tree × ℕ → List ℕ → Type 0) (read : ℕ → Fault → ℕ → List ℕ → Reads (Tree × ℕ) Fault) → AreEachReader R read
    → AreEachReader (IsConstructorIn R) (λ room cut end text. constructor_in read (length text) room cut end text)
constructor_reader R read r room cut = record {
  finds = λ end text x fits e. constructor_found R read r cut (length text) room end text x fits e;
  again = λ end c front rest h. constructor_again R read r cut (length (front ++ rest)) room end c.0.0 c.0.1 c.1 front rest (omega (arith, length-append front rest)) h;
}

-- ---- arrays

-- readers of what stands inside a value, against its spellings
pub record IsInside (s : Spellings) (i : Inside) : Type 0 where
  pub contents : (room : ℕ) (k : Kind) (at : ℕ) (cut : Fault) → IsReader (s.content room k) (i.contents room k at cut)
  pub element : (room : ℕ) (c : Shape) (at : ℕ) (cut : Fault) → IsReader (s.element room c) (i.element room c at cut)

pub values_reader : (s : Spellings) (i : Inside) → IsInside s i → AreEachReader (IsValueBy s) (value_by i)
values_reader s i r room = coded_reader (s.content room) (i.contents room) (r.contents room)

-- so many elements, if there is room for them
abbrev pub elements_by : Inside → Fault → ℕ → Shape × ℕ → ℕ → List ℕ → Reads (List Tree × ℕ) Fault
elements_by i cut n c end text =
    spent_in cut c.1 (n * element_load c.0) >>= λ left. row_in (λ room. i.element room c.0 ((end - length text) - 1) cut) n left end text

bare_reader : (s : Spellings) (i : Inside) → IsInside s i → (cut : Fault) (n : ℕ) (c : Shape × ℕ) → IsReader (AreElements s n c) (elements_by i cut n c)
bare_reader s i r cut n c = record { finds = finds; again = again }
  where
    row : (at : ℕ) → IsReader (IsRow (λ room. s.element room c.0) n (c.1 - n * element_load c.0)) (row_in (λ room. i.element room c.0 at cut) n (c.1 - n * element_load c.0))
    row at = row_reader (λ room. s.element room c.0) (λ room. i.element room c.0 at cut) (λ room. r.element room c.0 at cut) n (c.1 - n * element_load c.0)

    finds : (end : ℕ) (text : List ℕ) (x : (List Tree × ℕ) × List ℕ) → IsBytes text → elements_by i cut n c end text ≡ Ok x → Finds (AreElements s n c) text x
    finds end text x fits e =
        let at = (end - length text) - 1 in
        let b = bind_is (spent_in cut c.1 (n * element_load c.0)) (λ left. row_in (λ room. i.element room c.0 at cut) n left end text) x e in
        let g = guard_is (ltb c.1 (n * element_load c.0)) cut (c.1 - n * element_load c.0) b.0 b.1 in
        let f = (row at).finds end text x fits (ap (λ (left : ℕ). row_in (λ room. i.element room c.0 at cut) n left end text) g.1 ∙ b.2) in
        record { front = f.front; spelled = (ltb-false _ _ g.0, f.spelled); parts = f.parts; rest_fits = f.rest_fits }

    again : (end : ℕ) (ts : List Tree × ℕ) (front rest : List ℕ) → AreElements s n c ts front → elements_by i cut n c end (front ++ rest) ≡ Ok (ts, rest)
    again end ts front rest h =
        let room : ltb c.1 (n * element_load c.0) ≡ false = le-ltb _ _ h.0 in
        rw room ((row ((end - length (front ++ rest)) - 1)).again end ts front rest h.1)

pub elements_reader : (w : Width) → IsWide w → (s : Spellings) (i : Inside) → IsInside s i → AreEachReader (IsArrayIn w s) (elements_in w i)
elements_reader w wide s i r room cut =
    then_reader (IsNumber w) (λ n. IsThen (IsConstructorIn (IsValueBy s) room) (AreElements s n)) (λ end text. count_in cut w text)
    (λ n end text. shape_by i room cut end text >>= λ c. elements_by i cut n c.0 end c.1) (count_reader cut w wide)
    (λ n. then_reader (IsConstructorIn (IsValueBy s) room) (AreElements s n) (shape_by i room cut) (elements_by i cut n) (constructor_reader (IsValueBy s) (value_by i) (values_reader s i r) room cut) (bare_reader s i r cut n))

-- ---- contents by depth

flat_reader : (room : ℕ) (k : Kind) (at : ℕ) (cut : Fault) → IsReader (IsFlatIn room k) (flat_in room k at cut)
flat_reader room (kind.Single k) at cut = made_reader (λ s. (scalar s, room)) (IsSingle k) (single_in k cut) (single_reader k cut)
flat_reader room kind.EmptyList at cut = no_reader (fault_at fault.Depth at)
flat_reader room (kind.List s) at cut = no_reader (fault_at fault.Depth at)
flat_reader room (kind.Map s) at cut = no_reader (fault_at fault.Depth at)
flat_reader room (kind.Array s) at cut = no_reader (fault_at fault.Depth at)
flat_reader room kind.Described at cut = no_reader (fault_at fault.Depth at)

deep_reader : (s : Spellings) (i : Inside) → IsInside s i → (room : ℕ) (k : Kind) (at : ℕ) (cut : Fault) → IsReader (IsDeepIn s room k) (deep_in i room k at cut)
deep_reader s i r room (kind.Single k) at cut = made_reader (λ s. (scalar s, room)) (IsSingle k) (single_in k cut) (single_reader k cut)
deep_reader s i r room kind.EmptyList at cut = none_reader (list no_trees, room)
deep_reader s i r room (kind.List z) at cut =
    made_reader (λ ts. (list (trees_of ts.0), ts.1)) _ _ (filled_reader (size_width z) at cut (size_is z) (IsListIn (size_width z) (IsValueBy s) room) (items_in (size_width z) (value_by i) room)
    (items_reader (size_width z) (size_is z) (IsValueBy s) (value_by i) (values_reader s i r) room))
deep_reader s i r room (kind.Map z) at cut =
    made_reader (λ ps. (mapping (pairs_of ps.0), ps.1)) _ _ (filled_reader (size_width z) at cut (size_is z) (IsMapIn (size_width z) (IsValueBy s) room) (entries_in (size_width z) (value_by i) room)
    (entries_reader (size_width z) (size_is z) (IsValueBy s) (value_by i) (values_reader s i r) room))
deep_reader s i r room (kind.Array z) at cut =
    made_reader (λ ts. (array (trees_of ts.0), ts.1)) _ _ (filled_reader (size_width z) at cut (size_is z) (IsArrayIn (size_width z) s room) (elements_in (size_width z) i room)
    (elements_reader (size_width z) (size_is z) s i r room))
deep_reader s i r room kind.Described at cut =
    made_reader (λ p. (described p.0.0 p.0.1, p.1)) _ _ (two_reader (IsValueBy s) (λ room. value_by i room cut) (λ room. values_reader s i r room cut) room)

-- an element whose descriptor is no deeper than this
guarded_reader : (f : Fault) (d : ℕ) (x : Tree) (R : Tree × ℕ → List ℕ → Type 0) (read : ℕ → List ℕ → Reads (Tree × ℕ) Fault) → IsReader R read
    → IsReader (λ t text. (depth x ≤ d) × R t text) (λ end text. cond (ltb d (depth x)) (Err f) (read end text))
guarded_reader f d x R read r = record { finds = finds; again = λ end t front rest h. rw (le-ltb _ _ h.0) (r.again end t front rest h.1) }
  where
    finds : (end : ℕ) (text : List ℕ) (y : (Tree × ℕ) × List ℕ) → IsBytes text → cond (ltb d (depth x)) (Err f) (read end text) ≡ Ok y → Finds (λ t text. (depth x ≤ d) × R t text) text y
    finds end text y fits e =
        let g = avoided (ltb d (depth x)) (read end text) y f e in
        let found = r.finds end text y fits g.1 in
        record { front = found.front; spelled = (ltb-false _ _ g.0, found.spelled); parts = found.parts; rest_fits = found.rest_fits }

element_reader : (d : ℕ) (C : ℕ → Kind → Tree × ℕ → List ℕ → Type 0) (contents : Contents) (More : ℕ → Elements → Tree × ℕ → List ℕ → Type 0) (more : ℕ → Shape → ℕ → Fault → ℕ → List ℕ → Reads (Tree × ℕ) Fault)
    → ((room : ℕ) (k : Kind) (at : ℕ) (cut : Fault) → IsReader (C room k) (contents room k at cut)) → ((room : ℕ) (c : Shape) (at : ℕ) (cut : Fault) → IsReader (More room c) (more room c at cut))
    → (room : ℕ) (c : Shape) (at : ℕ) (cut : Fault) → IsReader (IsElementIn d C More room c) (element_by d contents more room c at cut)
element_reader d C contents More more r m room ([], k) at cut = r room k at cut
element_reader d C contents More more r m room (x ∷ xs, k) at cut =
    guarded_reader (fault_at fault.Depth at) d x _ _ (made_reader (λ y. (described x y.0, y.1)) (More room (xs, k)) (more room (xs, k) at cut) (m room (xs, k) at cut))

pub level_reader : (d : ℕ) → IsInside (spellings d) (level d)
unfolding spellings level
level_reader zero = record {
  contents = flat_reader;
  element = element_reader 0 IsFlatIn flat_in (λ room c t text. ⊥) (λ room c at cut end bytes. Err (fault_at fault.Depth at)) flat_reader (λ room c at cut. no_reader (fault_at fault.Depth at));
}
level_reader (suc d) =
    let r = level_reader d in
    record {
      contents = deep_reader (spellings d) (level d) r;
      element = element_reader d (IsDeepIn (spellings d)) (deep_in (level d)) (spellings d).element (level d).element (deep_reader (spellings d) (level d) r) r.element;
    }

-- a value of at most this depth
pub value_reader : (d : ℕ) → AreEachReader (IsValueIn d) (value_in d)
value_reader d = values_reader (spellings d) (level d) (level_reader d)

-- ---- the value at an offset

-- what is read is spelled so, up to the offset that is told
pub read_is_spelled : (bytes : List ℕ) (at : ℕ) (x : Tree × ℕ) → IsBytes bytes → value_at bytes at ≡ Ok x → (x.1 ≤ length bytes) × IsValue x.0 (take (x.1 - at) (drop at bytes))
read_is_spelled bytes at x fits e =
    let end = length bytes in
    let cut = fault_at fault.Cut end in
    let b = bind_is (value_in 16 65536 cut end (drop at bytes)) (λ x. Ok (x.0.0, end - length x.1)) x e in
    let f = (value_reader 16 65536 cut).finds end (drop at bytes) b.0 (IsBytes-drop at bytes fits) b.1 in
    let long : length f.front ≡ (end - length b.0.1) - at = omega (arith, ap length f.parts, length-append f.front b.0.1, length-drop at bytes) in
    let front : take ((end - length b.0.1) - at) (drop at bytes) ≡ f.front = ap (take ((end - length b.0.1) - at)) f.parts ∙ take_at f.front b.0.1 ((end - length b.0.1) - at) long in
    subst (λ (y : Tree × ℕ). (y.1 ≤ end) × IsValue y.0 (take (y.1 - at) (drop at bytes))) (ok_is {F = Fault} (b.0.0.0, end - length b.0.1) x b.2) (omega arith, (b.0.0.1, rw front f.spelled))

-- a value takes a byte at least
value_filled : (t : Tree) (text : List ℕ) → IsValue t text → 0 < length text
value_filled t text h = omega (arith, ap length h.1.3)

-- what is spelled so is read, whatever follows
pub spelled_is_read : (bytes : List ℕ) (at : ℕ) (t : Tree) (text rest : List ℕ) → IsValue t text → drop at bytes ≡ text ++ rest → value_at bytes at ≡ Ok (t, at + length text)
spelled_is_read bytes at t text rest h parts =
    let end = length bytes in
    let cut = fault_at fault.Cut end in
    let some = value_filled t text h in
    let place : end - length rest ≡ at + length text = omega (arith, ap length parts, length-append text rest, length-drop at bytes) in
    let read : value_in 16 65536 cut end (drop at bytes) ≡ Ok ((t, h.0), rest) = ap (value_in 16 65536 cut end) parts ∙ (value_reader 16 65536 cut).again end (t, h.0) text rest h.1 in
    rw (read, place) refl

-- a value is read exactly where one stands
pub value_is_read : (t : Tree) (bytes : List ℕ) (at after : ℕ) → IsBytes bytes → (value_at bytes at ≡ Ok (t, after)) ↔ StandsAt IsValue t bytes at after
value_is_read = reads_exactly IsValue value_at value_filled read_is_spelled spelled_is_read

-- bytes spell at most one value
pub one_value : (t u : Tree) (text : List ℕ) → IsValue t text → IsValue u text → t ≡ u
one_value t u text h k =
    let r = value_reader 16 65536 (fault_at fault.Cut 0) in
    let same = ok_is {F = Fault} ((t, h.0), []) ((u, k.0), []) (sym (r.again 0 (t, h.0) text [] h.1) ∙ r.again 0 (u, k.0) text [] k.1) in
    ap (λ (x : (Tree × ℕ) × List ℕ). x.0.0) same
