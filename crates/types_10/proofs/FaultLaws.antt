-- The readers of values against the faults of bytes, by the laws of their parts.
use Rattle.std.proofs.Common.{◌≡◌, ◌≢◌, ◌↔◌, ◌⊎◌, inl, inr, ℕ, zero, suc, ◌-◌, ◌*◌, ◌/◌, ◌%◌, ◌<◌, ◌≤◌}
use Rattle.std.proofs.Common.{Bool, true, false, cond, eqb, ltb, List, [], ◌∷◌, ◌++◌, length}
use Rattle.std.proofs.Common.{take, drop, Option, Some, None, Result, Ok, Err, refl, sym, ap, subst}
use Rattle.std.proofs.Common.{◌∙◌, append_assoc, arith}
use Rattle.std.proofs.lemmas.Bool.{eqb-true, ltb-true, ltb-false, lt-ltb, le-ltb}
use Rattle.std.proofs.lemmas.List.{nil_from_length, length-append}
use Rattle.std.specs.Int.{Width, w8, w32, from_be_bytes}
use Rattle.wire_base.specs.Bytes.{IsBytes}
use Rattle.wire_base.specs.Spelling.{IsNumber, IsText}
use Rattle.wire_base.specs.Faults.{Faults, IsCut}
use Rattle.wire_base.specs.Reading.{Reads, ◌>>=◌, made, number_in, text_in}
use Rattle.wire_base.proofs.Bytes.{IsBytes-drop}
use Rattle.wire_base.proofs.Items.{text_bytes}
use Rattle.wire_base.proofs.Laws.{IsReader, IsWide, wide8, wide32, guard_is}
use Rattle.wire_base.proofs.FaultLaws.{failed, err_is, bind_fails, guard_fails, TellsFaults}
use Rattle.wire_base.proofs.FaultLaws.{made_faults, number_faults, text_faults}
use Rattle.types_10.specs.Tree.{boolean, char, Tree, scalar, list, mapping, array, described, depth}
use Rattle.types_10.specs.Tree.{trees_of, pairs_of}
use Rattle.types_10.specs.Kinds.{kind_byte, kind_of, is_described, octet_scalar}
use Rattle.types_10.specs.Loads.{element_load}
use Rattle.types_10.specs.Kinds.{wide_width, wide_scalar, sixteen_scalar, text_scalar, is_text}
use Rattle.types_10.specs.Kinds.{is_character, size_width}
use Rattle.types_10.specs.Grammar.{IsTwo, IsListIn, IsMapIn, IsFront, Elements, IsConstructorIn}
use Rattle.types_10.specs.Grammar.{Spellings, IsValueBy, IsArrayIn, spellings}
use Rattle.types_10.specs.Reading.{Fault, fault_at, count_in, bytes_in, sixteen_in, tested}
use Rattle.types_10.specs.Reading.{text_fault, single_in, known_in, coded_in, code_in, Shape}
use Rattle.types_10.specs.Reading.{with_descriptor, constructor_in, Inside, Contents, value_by}
use Rattle.types_10.specs.Reading.{shape_by, filled_in, row_in, two_in, items_in, entries_in}
use Rattle.types_10.specs.Reading.{spent_in, elements_in, flat_in}
use Rattle.types_10.specs.Reading.{deep_in, element_by, level, value_in, value_at}
use Rattle.types_10.specs.Faults.{IsShort, IsBytesFault, IsTestedFault, IsSingleFault}
use Rattle.types_10.specs.Faults.{ContentFaults, IsKindFault, IsCodedFault, IsCodeFault}
use Rattle.types_10.specs.Faults.{IsConstructorFault, IsFilledFault, IsThenFault, IsRowFault}
use Rattle.types_10.specs.Faults.{IsTwoFault, IsListFault, IsPairsFault, IsMapFault, FaultsInside}
use Rattle.types_10.specs.Faults.{IsFaultBy, AreElementsFault, IsArrayFault, IsFlatFault}
use Rattle.types_10.specs.Faults.{IsDeepFault, IsElementFault, faults, IsValueFault, IsFaultAt}
use Rattle.types_10.proofs.ReaderLaws.{size_is, count_reader, bytes_reader}
use Rattle.types_10.proofs.ValueLaws.{kind_known, kind_is, code_found, code_again, IsEachReader}
use Rattle.types_10.proofs.ValueLaws.{AreReaders, AreEachReader, two_reader, items_reader}
use Rattle.types_10.proofs.ValueLaws.{entries_reader, constructor_reader, IsInside, values_reader}
use Rattle.types_10.proofs.ValueLaws.{elements_by, elements_reader, level_reader}
use Rattle.types_10.specs.declared.fault.TypeFault.TheVariants as fault
use Rattle.types_10.specs.declared.kind.Kind.{Kind}
use Rattle.types_10.specs.declared.kind.Kind.TheVariants as kind
use Rattle.types_10.specs.declared.kind.Single.{Single}
use Rattle.types_10.specs.declared.kind.Single.TheVariants as single

-- ---- numbers, texts and tests

count_faults : (cut : Fault) (w : Width) → TellsFaults (IsShort w cut) (λ end text. count_in cut w text)
count_faults cut w =
    let t : TellsFaults (IsShort w cut) (number_in (λ at. cut) w) = number_faults (λ at. cut) w in
    record { found = λ end. t.found 0; told = λ end. t.told 0 }

bytes_faults : (cut : Fault) (w : Width) → TellsFaults (IsBytesFault w cut) (λ end text. bytes_in cut w text)
bytes_faults cut w =
    let t : TellsFaults (IsBytesFault w cut) (text_in (λ at. cut) w) = text_faults (λ at. cut) w in
    record { found = λ end. t.found 0; told = λ end. t.told 0 }

sixteen_faults : (cut : Fault) → TellsFaults (IsCut (λ at. cut) 16) (λ end text. sixteen_in cut text)
sixteen_faults cut = record { found = found; told = λ end text f h. rw (lt-ltb _ _ h.0, h.1) refl }
  where
    found : (end : ℕ) (text : List ℕ) (f : Fault) → IsBytes text → sixteen_in cut text ≡ Err f → IsCut (λ at. cut) 16 end text f
    found end text f fits e = elim (guard_fails (ltb (length text) 16) cut (Ok (take 16 text, drop 16 text)) f e) [
      | inl h ↦ (ltb-true _ _ h.0, h.1)
      | inr h ↦ absurd (cc h.1)
    ]

-- the other outcome of a test
refuses : {A : Type 0} (b : Bool) (x : A) (d f : Fault) → cond b (Ok x) (Err d) ≡ Err f → (b ≡ false) × (f ≡ d)
refuses true x d f e = absurd cc
refuses {A} false x d f e = (refl, sym (err_is {A = A} d f e))

abbrev judged : {A : Type 0} → (A → Bool) → (A → ℕ → Fault) → ℕ → A × List ℕ → Reads A Fault
judged passes fault end x = cond (passes x.0) (Ok x) (Err (fault x.0 (end - length x.1)))

tested_faults : {A : Type 0} (passes : A → Bool) (fault : A → ℕ → Fault) (R : A → List ℕ → Type 0) (IsFault : Faults Fault) (read : ℕ → List ℕ → Reads A Fault) → IsReader R read → TellsFaults IsFault read
    → TellsFaults (IsTestedFault passes fault R IsFault) (λ end text. tested passes fault end (read end text))
tested_faults {A} passes fault R IsFault read r t = record { found = found; told = told }
  where
    found : (end : ℕ) (text : List ℕ) (f : Fault) → IsBytes text → tested passes fault end (read end text) ≡ Err f → IsTestedFault passes fault R IsFault end text f
    found end text f fits e = elim (bind_fails (read end text) (judged passes fault end) f e) [
      | inl h ↦ inl (t.found end text f fits h)
      | inr h ↦
          let s = r.finds end text h.0 fits h.1 in
          let g = refuses (passes h.0.0) h.0 (fault h.0.0 (end - length h.0.1)) f h.2 in
          inr (h.0.0, s.front, h.0.1, s.spelled, s.parts, g.0, g.1)
    ]

    told : (end : ℕ) (text : List ℕ) (f : Fault) → IsTestedFault passes fault R IsFault end text f → tested passes fault end (read end text) ≡ Err f
    told end text f (inl h) = ap (λ (x : Reads A Fault). x >>= judged passes fault end) (t.told end text f h)
    told end text f (inr h) =
        let first : read end text ≡ Ok (h.0, h.2) = ap (read end) h.4 ∙ r.again end h.0 h.1 h.2 h.3 in
        let outcome : cond (passes h.0) (Ok (h.0, h.2)) (Err (fault h.0 (end - length h.2))) ≡ failed (A × List ℕ) (fault h.0 (end - length h.2)) =
        ap (λ (b : Bool). cond b (Ok (h.0, h.2)) (failed (A × List ℕ) (fault h.0 (end - length h.2)))) h.5 in
        ap (λ (x : Reads A Fault). x >>= judged passes fault end) first ∙ outcome ∙ ap (λ (d : Fault). failed (A × List ℕ) d) (sym h.6)

single_faults : (k : Single) (cut : Fault) → TellsFaults (IsSingleFault k cut) (single_in k cut)
single_faults (single.Bare k) cut = record { found = λ end text f fits e. absurd cc; told = λ end text f h. absurd h }
single_faults single.Boolean cut =
    made_faults (λ n. boolean (eqb n 1)) _ _ (tested_faults (λ n. ltb n 2) (λ n after. fault_at fault.UnknownCode (after - 1)) (IsNumber w8) (IsShort w8 cut) (λ end text. count_in cut w8 text) (count_reader cut w8 wide8) (count_faults cut w8))
single_faults (single.Octet k) cut = made_faults (octet_scalar k) (IsShort w8 cut) (λ end text. count_in cut w8 text) (count_faults cut w8)
single_faults (single.Wide k) cut = made_faults (wide_scalar k) (IsShort (wide_width k) cut) (λ end text. count_in cut (wide_width k) text) (count_faults cut (wide_width k))
single_faults single.Char cut =
    made_faults char _ _ (tested_faults is_character (λ n after. fault_at fault.NotUtf8 (after - 4)) (IsNumber w32) (IsShort w32 cut) (λ end text. count_in cut w32 text) (count_reader cut w32 wide32) (count_faults cut w32))
single_faults (single.Sixteen k) cut = made_faults (sixteen_scalar k) (IsCut (λ at. cut) 16) (λ end text. sixteen_in cut text) (sixteen_faults cut)
single_faults (single.Text k s) cut =
    made_faults (text_scalar k) _ _ (tested_faults (is_text k) (text_fault k) (IsText (size_width s)) (IsBytesFault (size_width s) cut) (λ end text. bytes_in cut (size_width s) text) (bytes_reader cut (size_width s) (size_is s)) (bytes_faults cut (size_width s)))

-- ---- codes

octet_read : (cut : Fault) (b : ℕ) (rest : List ℕ) → count_in cut w8 (b ∷ rest) ≡ Ok (b, rest)
octet_read cut b rest =
    let some : ltb (length (b ∷ rest)) 1 ≡ false = le-ltb _ _ (omega arith) in
    let read : count_in cut w8 (b ∷ rest) ≡ Ok (from_be_bytes w8 (b ∷ []), rest) = rw some refl in
    read ∙ ap (λ (n : ℕ). Ok (n, rest)) (omega arith)

abbrev TellsContentFaults : {A : Type 0} → ContentFaults → (Kind → ℕ → Fault → ℕ → List ℕ → Reads A Fault) → Type 0
TellsContentFaults IsFault read = (k : Kind) (at : ℕ) (cut : Fault) → TellsFaults (IsFault k at cut) (read k at cut)

-- what is read behind a code
abbrev behind_code : {A : Type 0} → (Kind → ℕ → Fault → ℕ → List ℕ → Reads A Fault) → Fault → ℕ → List ℕ → ℕ × List ℕ → Reads A Fault
behind_code read cut end text b = known_in read (kind_of b.0) (end - length text) cut end b.1

coded_faults : {A : Type 0} (IsFault : ContentFaults) (read : Kind → ℕ → Fault → ℕ → List ℕ → Reads A Fault) → TellsContentFaults IsFault read
    → (cut : Fault) → TellsFaults (IsCodedFault IsFault cut) (coded_in read cut)
coded_faults {A} IsFault read t cut = record { found = found; told = told }
  where
    by_kind : (b at end : ℕ) (o : Option Kind) (rest : List ℕ) (f : Fault) → IsBytes rest → kind_of b ≡ o → known_in read o at cut end rest ≡ Err f → IsKindFault IsFault cut b at end rest f
    by_kind b at end None rest f fits is e =
        inl ((λ k byte. let some : kind_of b ≡ Some k = sym (ap kind_of byte) ∙ (kind_known k).1 in absurd (cc (some, is))), sym (err_is {A = A × List ℕ} (fault_at fault.UnknownCode at) f e))
    by_kind b at end (Some k) rest f fits is e = inr (k, kind_is b k is, (t k at cut).found end rest f fits e)

    found : (end : ℕ) (text : List ℕ) (f : Fault) → IsBytes text → coded_in read cut end text ≡ Err f → IsCodedFault IsFault cut end text f
    found end [] f fits e = inl (omega arith, sym (err_is {A = A × List ℕ} cut f e))
    found end (b ∷ rest) f fits e =
        let behind : known_in read (kind_of b) (end - length (b ∷ rest)) cut end rest ≡ Err f = sym (ap (λ (r : Reads ℕ Fault). r >>= behind_code read cut end (b ∷ rest)) (octet_read cut b rest)) ∙ e in
        inr (b, rest, refl, by_kind b (end - length (b ∷ rest)) end (kind_of b) rest f (IsBytes-drop 1 (b ∷ rest) fits) refl behind)

    none : (b : ℕ) (o : Option Kind) → kind_of b ≡ o → ((k : Kind) → kind_byte k ≢ b) → o ≡ None
    none b None is unknown = refl
    none b (Some k) is unknown = absurd (unknown k (kind_is b k is))

    by_byte : (b at end : ℕ) (rest : List ℕ) (f : Fault) → IsKindFault IsFault cut b at end rest f → known_in read (kind_of b) at cut end rest ≡ Err f
    by_byte b at end rest f (inl h) =
        ap (λ (o : Option Kind). known_in read o at cut end rest) (none b (kind_of b) refl h.0) ∙ ap (λ (d : Fault). failed (A × List ℕ) d) (sym h.1)
    by_byte b at end rest f (inr h) =
        ap (λ (o : Option Kind). known_in read o at cut end rest) (ap kind_of (sym h.1) ∙ (kind_known h.0).1) ∙ (t h.0 at cut).told end rest f h.2

    told : (end : ℕ) (text : List ℕ) (f : Fault) → IsCodedFault IsFault cut end text f → coded_in read cut end text ≡ Err f
    told end text f (inl h) = ap (λ (r : Reads ℕ Fault). r >>= behind_code read cut end text) ((count_faults cut w8).told end text f h)
    told end text f (inr h) =
        ap (λ (r : Reads ℕ Fault). r >>= behind_code read cut end text) (ap (count_in cut w8) h.2 ∙ octet_read cut h.0 h.1)
        ∙ by_byte h.0 (end - length text) end h.1 f h.3

code_faults : (cut : Fault) → TellsFaults (IsCodeFault cut) (code_in cut)
code_faults = coded_faults (λ k at cut end bytes f. ⊥) (λ k at cut end bytes. Ok ((k, at), bytes)) (λ k at cut. record { found = λ end text f fits e. absurd cc; told = λ end text f h. absurd h })

-- ---- constructors

abbrev TellsEachFault : {A : Type 0} → (Fault → Faults Fault) → (Fault → ℕ → List ℕ → Reads A Fault) → Type 0
TellsEachFault IsFault read = (cut : Fault) → TellsFaults (IsFault cut) (read cut)

abbrev AreEachFault : {A : Type 0} → (ℕ → Fault → Faults Fault) → (ℕ → Fault → ℕ → List ℕ → Reads A Fault) → Type 0
AreEachFault IsFault read = (room : ℕ) (cut : Fault) → TellsFaults (IsFault room cut) (read room cut)

-- the shape behind a descriptor
abbrev behind_descriptor : (ℕ → Fault → ℕ → List ℕ → Reads (Tree × ℕ) Fault) → ℕ → Fault → ℕ → (Tree × ℕ) × List ℕ → Reads (Shape × ℕ) Fault
behind_descriptor read most cut end d = made (with_descriptor d.0.0) (constructor_in read most d.0.1 cut end d.1)

-- what is read behind a code of a constructor
abbrev behind_shape : (ℕ → Fault → ℕ → List ℕ → Reads (Tree × ℕ) Fault) → ℕ → ℕ → Fault → ℕ → Kind → List ℕ → Reads (Shape × ℕ) Fault
behind_shape read most room cut end k rest = cond (is_described k) (read room cut end rest >>= behind_descriptor read most cut end) (Ok ((([], k), room), rest))

constructor_fault : (R : ℕ → Tree × ℕ → List ℕ → Type 0) (IsFault : ℕ → Fault → Faults Fault) (read : ℕ → Fault → ℕ → List ℕ → Reads (Tree × ℕ) Fault) → AreEachReader R read → AreEachFault IsFault read
    → (cut : Fault) (most room end : ℕ) (text : List ℕ) (f : Fault) → IsBytes text → length text ≤ most → constructor_in read most room cut end text ≡ Err f → IsConstructorFault R IsFault room cut end text f
unfolding constructor_in IsFront
constructor_fault R IsFault read r t cut zero room end [] f fits le e = ([], room, [], [], (refl, refl), refl, inl (inl (omega arith, sym (err_is {A = (Shape × ℕ) × List ℕ} cut f e))))
constructor_fault R IsFault read r t cut zero room end (b ∷ text) f fits le e = absurd (omega arith)
constructor_fault R IsFault read r t cut (suc most) room end text f fits le e =
    elim (bind_fails (code_in cut end text) (λ c. behind_shape read most room cut end c.0.0 c.1) f e) [
      | inl h ↦ ([], room, [], text, (refl, refl), refl, inl ((code_faults cut).found end text f fits h))
      | inr h ↦
          let here = code_found cut end text h.0.0 h.0.1 fits h.1 in
          step h.0.0.0 h.0.1 here.0 here.1 (λ room more fits le e. constructor_fault R IsFault read r t cut most room end more f fits le e) h.2
    ]
  where
    later : (rest : List ℕ) → text ≡ kind_byte kind.Described ∷ rest → IsBytes rest
        → ((room : ℕ) (more : List ℕ) → IsBytes more → length more ≤ most → constructor_in read most room cut end more ≡ Err f → IsConstructorFault R IsFault room cut end more f)
        → (d : (Tree × ℕ) × List ℕ) → read room cut end rest ≡ Ok d → behind_descriptor read most cut end d ≡ Err f → IsConstructorFault R IsFault room cut end text f
    later rest parts fits ih d is e =
        let g = (r room cut).finds end rest d fits is in
        elim (bind_fails (constructor_in read most d.0.1 cut end d.1) (λ s. Ok (with_descriptor d.0.0 s.0, s.1)) f e) [
          | inl k ↦
              let i = ih d.0.1 d.1 g.rest_fits (omega (arith, ap length parts, ap length g.parts, length-append g.front d.1)) k in
              let whole = parts ∙ ap (λ (t : List ℕ). 0 ∷ t) (g.parts ∙ ap (λ (t : List ℕ). g.front ++ t) i.5) in
              let regrouped : 0 ∷ (g.front ++ (i.2 ++ i.3)) ≡ (0 ∷ (g.front ++ i.2)) ++ i.3 = simp append_assoc in
              (d.0.0 ∷ i.0, i.1, 0 ∷ (g.front ++ i.2), i.3, (d.0.1, g.front, i.2, g.spelled, i.4, refl), whole ∙ regrouped, i.6)
          | inr k ↦ absurd (cc k.2)
        ]

    step : (k : Kind) (rest : List ℕ) → text ≡ kind_byte k ∷ rest → IsBytes rest
        → ((room : ℕ) (more : List ℕ) → IsBytes more → length more ≤ most → constructor_in read most room cut end more ≡ Err f → IsConstructorFault R IsFault room cut end more f)
        → behind_shape read most room cut end k rest ≡ Err f → IsConstructorFault R IsFault room cut end text f
    step kind.Described rest parts fits ih e =
        elim (bind_fails (read room cut end rest) (behind_descriptor read most cut end) f e) [
          | inl d ↦ ([], room, [], text, (refl, refl), refl, inr (rest, parts, (t room cut).found end rest f fits d))
          | inr d ↦ later rest parts fits ih d.0 d.1 d.2
        ]
    step k rest parts fits ih e = absurd cc

constructor_told : (R : ℕ → Tree × ℕ → List ℕ → Type 0) (IsFault : ℕ → Fault → Faults Fault) (read : ℕ → Fault → ℕ → List ℕ → Reads (Tree × ℕ) Fault) → AreEachReader R read → AreEachFault IsFault read
    → (cut : Fault) (most room end : ℕ) (ds : List Tree) (left : ℕ) (text front rest : List ℕ) (f : Fault) → length text ≤ most → IsFront R room ds left front → text ≡ front ++ rest
    → IsCodeFault cut end rest f ⊎ ((more : List ℕ) × (rest ≡ kind_byte kind.Described ∷ more) × IsFault left cut end more f) → constructor_in read most room cut end text ≡ Err f
unfolding constructor_in IsFront
constructor_told R IsFault read r t cut zero room end ds left text front rest f le items parts h = ap (λ (d : Fault). failed ((Shape × ℕ) × List ℕ) d) (cut_is h)
  where
    cut_is : IsCodeFault cut end rest f ⊎ ((more : List ℕ) × (rest ≡ kind_byte kind.Described ∷ more) × IsFault left cut end more f) → cut ≡ f
    cut_is (inl (inl g)) = sym g.1
    cut_is (inl (inr g)) = absurd (omega (arith, le, ap length parts, length-append front rest, ap length g.2))
    cut_is (inr g) = absurd (omega (arith, le, ap length parts, length-append front rest, ap length g.1))
constructor_told R IsFault read r t cut (suc most) room end [] left text front rest f le items parts h = first (parts ∙ ap (λ (t : List ℕ). t ++ rest) items.1) h
  where
    first : text ≡ rest → IsCodeFault cut end rest f ⊎ ((more : List ℕ) × (rest ≡ kind_byte kind.Described ∷ more) × IsFault left cut end more f)
        → constructor_in read (suc most) room cut end text ≡ Err f
    first whole (inl h) = ap (λ (r : Reads (Kind × ℕ) Fault). r >>= λ c. behind_shape read most room cut end c.0.0 c.1) (ap (code_in cut end) whole ∙ (code_faults cut).told end rest f h)
    first whole (inr h) =
        let descriptor : read room cut end h.0 ≡ Err f = (t room cut).told end h.0 f (subst (λ (n : ℕ). IsFault n cut end h.0 f) items.0 h.2) in
        ap (constructor_in read (suc most) room cut end) (whole ∙ h.1) ∙ rw (code_again cut end kind.Described h.0, descriptor) refl
constructor_told R IsFault read r t cut (suc most) room end (d ∷ ds) left text front rest f le items parts h =
    let more = items.2 ++ rest in
    let whole : text ≡ 0 ∷ (items.1 ++ more) = parts ∙ rw items.5 (simp append_assoc) in
    let less : length more ≤ most = omega (arith, le, ap length whole, length-append items.1 more) in
    let first = code_again cut end kind.Described (items.1 ++ more) in
    let descriptor = (r room cut).again end (d, items.0) items.1 more items.3 in
    let later = constructor_told R IsFault read r t cut most items.0 end ds left more items.2 rest f less items.4 refl h in
    ap (constructor_in read (suc most) room cut end) whole ∙ rw (first, descriptor, later) refl

constructor_faults : (R : ℕ → Tree × ℕ → List ℕ → Type 0) (IsFault : ℕ → Fault → Faults Fault) (read : ℕ → Fault → ℕ → List ℕ → Reads (Tree × ℕ) Fault) → AreEachReader R read → AreEachFault IsFault read
    → AreEachFault (IsConstructorFault R IsFault) (λ room cut end text. constructor_in read (length text) room cut end text)
constructor_faults R IsFault read r t room cut = record {
  found = λ end text f fits e. constructor_fault R IsFault read r t cut (length text) room end text f fits (omega arith) e;
  told = λ end text f h. constructor_told R IsFault read r t cut (length text) room end h.0 h.1 text h.2 h.3 f (omega arith) h.4 h.5 h.6;
}

-- ---- lists, maps and arrays

-- a value, and then what depends on it
then_faults : {A B : Type 0} (R : A → List ℕ → Type 0) (First : Faults Fault) (More : A → Faults Fault) (read : ℕ → List ℕ → Reads A Fault) (more : A → ℕ → List ℕ → Reads B Fault)
    → IsReader R read → TellsFaults First read → ((a : A) → TellsFaults (More a) (more a)) → TellsFaults (IsThenFault R First More) (λ end text. read end text >>= λ a. more a.0 end a.1)
then_faults {A} {B} R First More read more r t u = record { found = found; told = told }
  where
    found : (end : ℕ) (text : List ℕ) (f : Fault) → IsBytes text → (read end text >>= λ a. more a.0 end a.1) ≡ Err f → IsThenFault R First More end text f
    found end text f fits e = elim (bind_fails (read end text) (λ a. more a.0 end a.1) f e) [
      | inl h ↦ inl (t.found end text f fits h)
      | inr h ↦
          let s = r.finds end text h.0 fits h.1 in
          inr (h.0.0, s.front, h.0.1, s.spelled, s.parts, (u h.0.0).found end h.0.1 f s.rest_fits h.2)
    ]

    told : (end : ℕ) (text : List ℕ) (f : Fault) → IsThenFault R First More end text f → (read end text >>= λ a. more a.0 end a.1) ≡ Err f
    told end text f (inl h) = ap (λ (x : Reads A Fault). x >>= λ a. more a.0 end a.1) (t.told end text f h)
    told end text f (inr h) =
        let first : read end text ≡ Ok (h.0, h.2) = ap (read end) h.4 ∙ r.again end h.0 h.1 h.2 h.3 in
        ap (λ (x : Reads A Fault). x >>= λ a. more a.0 end a.1) first ∙ (u h.0).told end h.2 f h.5

not_empty : (text : List ℕ) → text ≢ [] → eqb (length text) 0 ≡ false
not_empty text some = at (eqb (length text) 0) refl
  where
    at : (b : Bool) → eqb (length text) 0 ≡ b → b ≡ false
    at true e = absurd (some (nil_from_length text (eqb-true _ _ e)))
    at false e = refl

-- what fills a size, and what is read behind it
abbrev filling : {A : Type 0} → ℕ → List ℕ → A × List ℕ → Reads A Fault
filling at rest x = cond (eqb (length x.1) 0) (Ok (x.0, rest)) (Err (fault_at fault.Count at))

filled_faults : {A : Type 0} (w : Width) (at : ℕ) (cut : Fault) → IsWide w → (R : A → List ℕ → Type 0) (IsInner : Fault → Faults Fault) (inner : Fault → ℕ → List ℕ → Reads A Fault) → IsEachReader R inner → TellsEachFault IsInner inner
    → TellsFaults (IsFilledFault w at R IsInner cut) (filled_in w at inner cut)
filled_faults {A} w at cut wide R IsInner inner r t = record { found = found; told = told }
  where
    texts : IsReader (IsText w) (λ end text. bytes_in cut w text)
    texts = bytes_reader cut w wide

    inside : (end : ℕ) (text : List ℕ) (f : Fault) (body : List ℕ × List ℕ) → IsBytes text → bytes_in cut w text ≡ Ok body
        → (inner (fault_at fault.Count at) (end - length body.1) body.0 >>= filling at body.1) ≡ Err f → IsFilledFault w at R IsInner cut end text f
    inside end text f body fits is e =
        let g = texts.finds end text body fits is in
        let bytes = text_bytes w body.0 g.front body.1 (subst IsBytes g.parts fits) g.spelled in
        elim (bind_fails (inner (fault_at fault.Count at) (end - length body.1) body.0) (filling at body.1) f e) [
          | inl h ↦ inr (body.0, g.front, body.1, g.spelled, g.parts, inl ((t (fault_at fault.Count at)).found (end - length body.1) body.0 f bytes h))
          | inr h ↦
              let s = (r (fault_at fault.Count at)).finds (end - length body.1) body.0 h.0 bytes h.1 in
              let k = refuses (eqb (length h.0.1) 0) (h.0.0, body.1) (fault_at fault.Count at) f h.2 in
              let some : h.0.1 ≢ [] = λ none. absurd (cc (sym (ap (λ (t : List ℕ). eqb (length t) 0) none) ∙ k.0)) in
              inr (body.0, g.front, body.1, g.spelled, g.parts, inr (h.0.0, s.front, h.0.1, s.spelled, s.parts, (some, k.1)))
        ]

    found : (end : ℕ) (text : List ℕ) (f : Fault) → IsBytes text → filled_in w at inner cut end text ≡ Err f → IsFilledFault w at R IsInner cut end text f
    found end text f fits e =
        elim (bind_fails (bytes_in cut w text) (λ body. inner (fault_at fault.Count at) (end - length body.1) body.0 >>= filling at body.1) f e) [
          | inl h ↦ inl ((bytes_faults cut w).found end text f fits h)
          | inr h ↦ inside end text f h.0 fits h.1 h.2
        ]

    -- what is read of the body
    of_body : (end : ℕ) (body rest : List ℕ) (f : Fault)
        → IsInner (fault_at fault.Count at) end body f ⊎ ((x : A) × (front : List ℕ) × (more : List ℕ) × R x front × (body ≡ front ++ more) × ((more ≢ []) × (f ≡ fault_at fault.Count at)))
        → (inner (fault_at fault.Count at) end body >>= filling at rest) ≡ Err f
    of_body end body rest f (inl h) = ap (λ (x : Reads A Fault). x >>= filling at rest) ((t (fault_at fault.Count at)).told end body f h)
    of_body end body rest f (inr h) =
        let read : inner (fault_at fault.Count at) end body ≡ Ok (h.0, h.2) = ap (inner (fault_at fault.Count at) end) h.4 ∙ (r (fault_at fault.Count at)).again end h.0 h.1 h.2 h.3 in
        let outcome : filling at rest (h.0, h.2) ≡ failed (A × List ℕ) (fault_at fault.Count at) =
        ap (λ (b : Bool). cond b (Ok (h.0, rest)) (failed (A × List ℕ) (fault_at fault.Count at))) (not_empty h.2 h.5.0) in
        ap (λ (x : Reads A Fault). x >>= filling at rest) read ∙ outcome ∙ ap (λ (d : Fault). failed (A × List ℕ) d) (sym h.5.1)

    told : (end : ℕ) (text : List ℕ) (f : Fault) → IsFilledFault w at R IsInner cut end text f → filled_in w at inner cut end text ≡ Err f
    told end text f (inl h) =
        ap (λ (x : Reads (List ℕ) Fault). x >>= λ body. inner (fault_at fault.Count at) (end - length body.1) body.0 >>= filling at body.1) ((bytes_faults cut w).told end text f h)
    told end text f (inr h) =
        let body : bytes_in cut w text ≡ Ok (h.0, h.2) = ap (bytes_in cut w) h.4 ∙ texts.again end h.0 h.1 h.2 h.3 in
        ap (λ (x : Reads (List ℕ) Fault). x >>= λ body. inner (fault_at fault.Count at) (end - length body.1) body.0 >>= filling at body.1) body
        ∙ of_body (end - length h.2) h.0 h.2 f h.5

-- faults of rows and pairs of values, within any room
abbrev AreFaults : {A : Type 0} → (ℕ → Faults Fault) → (ℕ → ℕ → List ℕ → Reads A Fault) → Type 0
AreFaults IsFault read = (room : ℕ) → TellsFaults (IsFault room) (read room)

row_faults : {A : Type 0} (R : ℕ → A × ℕ → List ℕ → Type 0) (IsFault : ℕ → Faults Fault) (read : ℕ → ℕ → List ℕ → Reads (A × ℕ) Fault) → AreReaders R read → AreFaults IsFault read
    → (n : ℕ) → AreFaults (IsRowFault R IsFault n) (row_in read n)
unfolding IsRowFault row_in
row_faults {A} R IsFault read r t zero room = record { found = λ end text f fits e. absurd cc; told = λ end text f h. absurd h }
row_faults R IsFault read r t (suc n) room =
    then_faults (R room) (IsFault room) (λ x. IsRowFault R IsFault n x.1) (read room) (λ x end text. made (λ xs. (x.0 ∷ xs.0, xs.1)) (row_in read n x.1 end text)) (r room) (t room)
    (λ x. made_faults (λ xs. (x.0 ∷ xs.0, xs.1)) (IsRowFault R IsFault n x.1) (row_in read n x.1) (row_faults R IsFault read r t n x.1))

two_faults : (R : ℕ → Tree × ℕ → List ℕ → Type 0) (IsFault : ℕ → Faults Fault) (read : ℕ → ℕ → List ℕ → Reads (Tree × ℕ) Fault) → AreReaders R read → AreFaults IsFault read
    → AreFaults (IsTwoFault R IsFault) (two_in read)
two_faults R IsFault read r t room =
    then_faults (R room) (IsFault room) (λ x. IsFault x.1) (read room) (λ x end text. made (λ y. ((x.0, y.0), y.1)) (read x.1 end text)) (r room) (t room)
    (λ x. made_faults (λ y. ((x.0, y.0), y.1)) (IsFault x.1) (read x.1) (t x.1))

items_faults : (w : Width) → IsWide w → (R : ℕ → Tree × ℕ → List ℕ → Type 0) (IsFault : ℕ → Fault → Faults Fault) (read : ℕ → Fault → ℕ → List ℕ → Reads (Tree × ℕ) Fault) → AreEachReader R read → AreEachFault IsFault read
    → AreEachFault (IsListFault w R IsFault) (items_in w read)
items_faults w wide R IsFault read r t room cut =
    then_faults (IsNumber w) (IsShort w cut) (λ n. IsRowFault R (λ room. IsFault room cut) n room) (λ end text. count_in cut w text) (λ n end text. row_in (λ room. read room cut) n room end text)
    (count_reader cut w wide) (count_faults cut w) (λ n. row_faults R (λ room. IsFault room cut) (λ room. read room cut) (λ room. r room cut) (λ room. t room cut) n room)

halves_faults : (R : ℕ → Tree × ℕ → List ℕ → Type 0) (IsFault : ℕ → Fault → Faults Fault) (read : ℕ → Fault → ℕ → List ℕ → Reads (Tree × ℕ) Fault) → AreEachReader R read → AreEachFault IsFault read → (room : ℕ) (cut : Fault) (n : ℕ)
    → TellsFaults (IsPairsFault R IsFault room cut n) (λ end text. cond (eqb (n % 2) 0) (row_in (two_in (λ room. read room cut)) (n / 2) room end text) (Err cut))
halves_faults R IsFault read r t room cut n = record { found = found; told = told }
  where
    pairs : TellsFaults (IsRowFault (IsTwo R) (IsTwoFault R (λ room. IsFault room cut)) (n / 2) room) (row_in (two_in (λ room. read room cut)) (n / 2) room)
    pairs = row_faults (IsTwo R) (IsTwoFault R (λ room. IsFault room cut)) (two_in (λ room. read room cut)) (two_reader R (λ room. read room cut) (λ room. r room cut))
        (two_faults R (λ room. IsFault room cut) (λ room. read room cut) (λ room. r room cut) (λ room. t room cut)) (n / 2) room

    found : (end : ℕ) (text : List ℕ) (f : Fault) → IsBytes text → cond (eqb (n % 2) 0) (row_in (two_in (λ room. read room cut)) (n / 2) room end text) (Err cut) ≡ Err f → IsPairsFault R IsFault room cut n end text f
    found end text f fits e = at (eqb (n % 2) 0) refl e
      where
        at : (b : Bool) → eqb (n % 2) 0 ≡ b → cond b (row_in (two_in (λ room. read room cut)) (n / 2) room end text) (Err cut) ≡ Err f → IsPairsFault R IsFault room cut n end text f
        at true b e = inr (eqb-true _ _ b, pairs.found end text f fits e)
        at false b e = inl ((λ even. absurd (cc (sym (ap (λ (m : ℕ). eqb m 0) even) ∙ b))), sym (err_is {A = (List (Tree × Tree) × ℕ) × List ℕ} cut f e))

    odd : n % 2 ≢ 0 → eqb (n % 2) 0 ≡ false
    odd some = at (eqb (n % 2) 0) refl
      where
        at : (b : Bool) → eqb (n % 2) 0 ≡ b → b ≡ false
        at true e = absurd (some (eqb-true _ _ e))
        at false e = refl

    told : (end : ℕ) (text : List ℕ) (f : Fault) → IsPairsFault R IsFault room cut n end text f → cond (eqb (n % 2) 0) (row_in (two_in (λ room. read room cut)) (n / 2) room end text) (Err cut) ≡ Err f
    told end text f (inl h) = rw (odd h.0, h.1) refl
    told end text f (inr h) = rw h.0 (pairs.told end text f h.1)

entries_faults : (w : Width) → IsWide w → (R : ℕ → Tree × ℕ → List ℕ → Type 0) (IsFault : ℕ → Fault → Faults Fault) (read : ℕ → Fault → ℕ → List ℕ → Reads (Tree × ℕ) Fault) → AreEachReader R read → AreEachFault IsFault read
    → AreEachFault (IsMapFault w R IsFault) (entries_in w read)
entries_faults w wide R IsFault read r t room cut =
    then_faults (IsNumber w) (IsShort w cut) (IsPairsFault R IsFault room cut) (λ end text. count_in cut w text)
    (λ n end text. cond (eqb (n % 2) 0) (row_in (two_in (λ room. read room cut)) (n / 2) room end text) (Err cut)) (count_reader cut w wide) (count_faults cut w)
    (halves_faults R IsFault read r t room cut)

-- the faults of what stands inside a value, against their readers
record TellsInside (g : FaultsInside) (i : Inside) : Type 0 where
  content : (room : ℕ) → TellsContentFaults (g.content room) (i.contents room)
  element : (room : ℕ) (c : Elements) (at : ℕ) (cut : Fault) → TellsFaults (g.element room c at cut) (i.element room c at cut)

values_faults : (g : FaultsInside) (i : Inside) → TellsInside g i → AreEachFault (IsFaultBy g) (value_by i)
values_faults g i t room = coded_faults (g.content room) (i.contents room) (t.content room)

bare_faults : (s : Spellings) (g : FaultsInside) (i : Inside) → IsInside s i → TellsInside g i → (cut : Fault) (n : ℕ) (c : Elements × ℕ) → TellsFaults (AreElementsFault s g cut n c) (elements_by i cut n c)
bare_faults s g i r t cut n c = record { found = found; told = told }
  where
    row : (at : ℕ) → TellsFaults (IsRowFault (λ room. s.element room c.0) (λ room. g.element room c.0 at cut) n (c.1 - n * element_load c.0)) (row_in (λ room. i.element room c.0 at cut) n (c.1 - n * element_load c.0))
    row at = row_faults (λ room. s.element room c.0) (λ room. g.element room c.0 at cut) (λ room. i.element room c.0 at cut) (λ room. r.element room c.0 at cut) (λ room. t.element room c.0 at cut) n (c.1 - n * element_load c.0)

    found : (end : ℕ) (text : List ℕ) (f : Fault) → IsBytes text → elements_by i cut n c end text ≡ Err f → AreElementsFault s g cut n c end text f
    found end text f fits e =
        let at = (end - length text) - 1 in
        elim (bind_fails (spent_in cut c.1 (n * element_load c.0)) (λ left. row_in (λ room. i.element room c.0 at cut) n left end text) f e) [
          | inl h ↦ elim (guard_fails (ltb c.1 (n * element_load c.0)) cut (Ok (c.1 - n * element_load c.0)) f h) [
            | inl g ↦ inl (ltb-true _ _ g.0, g.1)
            | inr g ↦ absurd (cc g.1)
          ]
          | inr h ↦
              let g = guard_is (ltb c.1 (n * element_load c.0)) cut (c.1 - n * element_load c.0) h.0 h.1 in
              inr (ltb-false _ _ g.0, (row at).found end text f fits (ap (λ (left : ℕ). row_in (λ room. i.element room c.0 at cut) n left end text) g.1 ∙ h.2))
        ]

    told : (end : ℕ) (text : List ℕ) (f : Fault) → AreElementsFault s g cut n c end text f → elements_by i cut n c end text ≡ Err f
    told end text f (inl h) = rw (lt-ltb _ _ h.0, h.1) refl
    told end text f (inr h) = rw (le-ltb _ _ h.0) ((row ((end - length text) - 1)).told end text f h.1)

elements_faults : (w : Width) → IsWide w → (s : Spellings) (g : FaultsInside) (i : Inside) → IsInside s i → TellsInside g i → AreEachFault (IsArrayFault w s g) (elements_in w i)
elements_faults w wide s g i r t room cut =
    let values = values_reader s i r in
    then_faults (IsNumber w) (IsShort w cut) (λ n. IsThenFault (IsConstructorIn (IsValueBy s) room) (IsConstructorFault (IsValueBy s) (IsFaultBy g) room cut) (AreElementsFault s g cut n)) (λ end text. count_in cut w text)
    (λ n end text. shape_by i room cut end text >>= λ c. elements_by i cut n c.0 end c.1) (count_reader cut w wide) (count_faults cut w)
    (λ n. then_faults (IsConstructorIn (IsValueBy s) room) (IsConstructorFault (IsValueBy s) (IsFaultBy g) room cut) (AreElementsFault s g cut n) (shape_by i room cut) (elements_by i cut n)
    (constructor_reader (IsValueBy s) (value_by i) values room cut) (constructor_faults (IsValueBy s) (IsFaultBy g) (value_by i) values (values_faults g i t) room cut) (bare_faults s g i r t cut n))

-- ---- contents by depth

one_fault : (d : Fault) → TellsFaults (λ end bytes f. f ≡ d) (λ end bytes. failed ((Tree × ℕ) × List ℕ) d)
one_fault d = record {
  found = λ end text f fits e. sym (err_is {A = (Tree × ℕ) × List ℕ} d f e);
  told = λ end text f h. ap (λ (d : Fault). failed ((Tree × ℕ) × List ℕ) d) (sym h);
}

flat_faults : (room : ℕ) → TellsContentFaults (IsFlatFault room) (flat_in room)
flat_faults room (kind.Single k) at cut = made_faults (λ s. (scalar s, room)) (IsSingleFault k cut) (single_in k cut) (single_faults k cut)
flat_faults room kind.EmptyList at cut = one_fault (fault_at fault.Depth at)
flat_faults room (kind.List s) at cut = one_fault (fault_at fault.Depth at)
flat_faults room (kind.Map s) at cut = one_fault (fault_at fault.Depth at)
flat_faults room (kind.Array s) at cut = one_fault (fault_at fault.Depth at)
flat_faults room kind.Described at cut = one_fault (fault_at fault.Depth at)

deep_faults : (s : Spellings) (g : FaultsInside) (i : Inside) → IsInside s i → TellsInside g i → (room : ℕ) → TellsContentFaults (IsDeepFault s g room) (deep_in i room)
deep_faults s g i r t room (kind.Single k) at cut = made_faults (λ s. (scalar s, room)) (IsSingleFault k cut) (single_in k cut) (single_faults k cut)
deep_faults s g i r t room kind.EmptyList at cut = record { found = λ end text f fits e. absurd cc; told = λ end text f h. absurd h }
deep_faults s g i r t room (kind.List z) at cut =
    let w = size_width z in
    let values = values_reader s i r in
    made_faults (λ ts. (list (trees_of ts.0), ts.1)) _ _ (filled_faults w at cut (size_is z) (IsListIn w (IsValueBy s) room) (IsListFault w (IsValueBy s) (IsFaultBy g) room) (items_in w (value_by i) room)
    (items_reader w (size_is z) (IsValueBy s) (value_by i) values room) (items_faults w (size_is z) (IsValueBy s) (IsFaultBy g) (value_by i) values (values_faults g i t) room))
deep_faults s g i r t room (kind.Map z) at cut =
    let w = size_width z in
    let values = values_reader s i r in
    made_faults (λ ps. (mapping (pairs_of ps.0), ps.1)) _ _ (filled_faults w at cut (size_is z) (IsMapIn w (IsValueBy s) room) (IsMapFault w (IsValueBy s) (IsFaultBy g) room) (entries_in w (value_by i) room)
    (entries_reader w (size_is z) (IsValueBy s) (value_by i) values room) (entries_faults w (size_is z) (IsValueBy s) (IsFaultBy g) (value_by i) values (values_faults g i t) room))
deep_faults s g i r t room (kind.Array z) at cut =
    let w = size_width z in
    made_faults (λ ts. (array (trees_of ts.0), ts.1)) _ _ (filled_faults w at cut (size_is z) (IsArrayIn w s room) (IsArrayFault w s g room) (elements_in w i room)
    (elements_reader w (size_is z) s i r room) (elements_faults w (size_is z) s g i r t room))
deep_faults s g i r t room kind.Described at cut =
    made_faults (λ p. (described p.0.0 p.0.1, p.1)) _ _ (two_faults (IsValueBy s) (λ room. IsFaultBy g room cut) (λ room. value_by i room cut) (λ room. values_reader s i r room cut) (λ room. values_faults g i t room cut) room)

-- an element whose descriptor may be too deep
guarded_faults : (d : Fault) (most : ℕ) (x : Tree) (IsFault : Faults Fault) (read : ℕ → List ℕ → Reads (Tree × ℕ) Fault) → TellsFaults IsFault read
    → TellsFaults (λ end bytes f. ((most < depth x) × (f ≡ d)) ⊎ ((depth x ≤ most) × IsFault end bytes f)) (λ end text. cond (ltb most (depth x)) (Err d) (read end text))
guarded_faults d most x IsFault read t = record { found = found; told = told }
  where
    found : (end : ℕ) (text : List ℕ) (f : Fault) → IsBytes text → cond (ltb most (depth x)) (Err d) (read end text) ≡ Err f → ((most < depth x) × (f ≡ d)) ⊎ ((depth x ≤ most) × IsFault end text f)
    found end text f fits e = elim (guard_fails (ltb most (depth x)) d (read end text) f e) [
      | inl h ↦ inl (ltb-true _ _ h.0, h.1)
      | inr h ↦ inr (ltb-false _ _ h.0, t.found end text f fits h.1)
    ]

    told : (end : ℕ) (text : List ℕ) (f : Fault) → ((most < depth x) × (f ≡ d)) ⊎ ((depth x ≤ most) × IsFault end text f) → cond (ltb most (depth x)) (Err d) (read end text) ≡ Err f
    told end text f (inl h) = rw (lt-ltb _ _ h.0, h.1) refl
    told end text f (inr h) = rw (le-ltb _ _ h.0) (t.told end text f h.1)

element_faults : (d : ℕ) (C : ℕ → ContentFaults) (contents : Contents) (More : ℕ → Elements → ℕ → Fault → Faults Fault) (more : ℕ → Shape → ℕ → Fault → ℕ → List ℕ → Reads (Tree × ℕ) Fault) → ((room : ℕ) → TellsContentFaults (C room) (contents room))
    → ((room : ℕ) (c : Elements) (at : ℕ) (cut : Fault) → TellsFaults (More room c at cut) (more room c at cut)) → (room : ℕ) (c : Elements) (at : ℕ) (cut : Fault) → TellsFaults (IsElementFault d C More room c at cut) (element_by d contents more room c at cut)
element_faults d C contents More more r m room ([], k) at cut = r room k at cut
element_faults d C contents More more r m room (x ∷ xs, k) at cut =
    guarded_faults (fault_at fault.Depth at) d x (More room (xs, k) at cut) _ (made_faults (λ y. (described x y.0, y.1)) (More room (xs, k) at cut) (more room (xs, k) at cut) (m room (xs, k) at cut))

level_faults : (d : ℕ) → TellsInside (faults d) (level d)
unfolding faults level
level_faults zero = record {
  content = flat_faults;
  element = element_faults 0 IsFlatFault flat_in (λ room c at cut end bytes f. f ≡ fault_at fault.Depth at) (λ room c at cut end bytes. Err (fault_at fault.Depth at)) flat_faults (λ room c at cut. one_fault (fault_at fault.Depth at));
}
level_faults (suc d) =
    let deep = deep_faults (spellings d) (faults d) (level d) (level_reader d) (level_faults d) in
    record {
      content = deep;
      element = element_faults d (IsDeepFault (spellings d) (faults d)) (deep_in (level d)) (faults d).element (level d).element deep (level_faults d).element;
    }

value_faults : (d : ℕ) → AreEachFault (IsValueFault d) (value_in d)
value_faults d = values_faults (faults d) (level d) (level_faults d)

-- ---- the value at an offset

-- a value, and the offset after it
abbrev placed : ℕ → (Tree × ℕ) × List ℕ → Result (Tree × ℕ) Fault
placed end x = Ok (x.0.0, end - length x.1)

-- where no value stands, the fault that is read is the first
pub fault_is_first : (bytes : List ℕ) (from : ℕ) (f : Fault) → IsBytes bytes → (value_at bytes from ≡ Err f) ↔ IsFaultAt bytes from f
fault_is_first bytes from f fits = (there, back)
  where
    there : value_at bytes from ≡ Err f → IsFaultAt bytes from f
    there e = elim (bind_fails (value_in 16 65536 (fault_at fault.Cut (length bytes)) (length bytes) (drop from bytes)) (placed (length bytes)) f e) [
      | inl h ↦ (value_faults 16 65536 (fault_at fault.Cut (length bytes))).found (length bytes) (drop from bytes) f (IsBytes-drop from bytes fits) h
      | inr h ↦ absurd (cc h.2)
    ]

    back : IsFaultAt bytes from f → value_at bytes from ≡ Err f
    back h = ap (λ (x : Reads (Tree × ℕ) Fault). x >>= placed (length bytes)) ((value_faults 16 65536 (fault_at fault.Cut (length bytes))).told (length bytes) (drop from bytes) f h)
