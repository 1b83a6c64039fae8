-- The readers of heads and properties against their spellings and faults, by the laws of their parts.
use Rattle.std.proofs.Common.{◌≡◌, ◌≢◌, inl, inr, ℕ, ◌-◌, ◌≤◌, Bool, true, false, eqb, List, []}
use Rattle.std.proofs.Common.{◌∷◌, ◌++◌, length, drop, replicate, Option, Some, None, Result, Ok}
use Rattle.std.proofs.Common.{Err, refl, sym, ap, subst, ◌∙◌, arith}
use Rattle.std.proofs.lemmas.Bool.{eqb-true}
use Rattle.std.proofs.lemmas.List.{length-append, length-replicate, drop_at}
use Rattle.std.specs.Int.{w8, w16, w64}
use Rattle.wire_base.specs.Bytes.{IsBytes}
use Rattle.wire_base.specs.Spelling.{IsNumber, IsText, IsPair}
use Rattle.wire_base.specs.Faults.{Faults, IsPairFault, IsTextFault}
use Rattle.wire_base.specs.Reading.{Reads, ◌>>=◌, offset, made, pair_in, number_in, text_in}
use Rattle.wire_base.proofs.Bytes.{IsBytes-append, IsBytes-replicate}
use Rattle.wire_base.proofs.Laws.{IsReader, Finds, wide8, wide16, wide64, ok_is, made_reader}
use Rattle.wire_base.proofs.Laws.{pair_reader, number_reader, text_reader}
use Rattle.wire_base.proofs.FaultLaws.{TellsFaults, bind_fails, err_is, number_faults, text_faults}
use Rattle.tables_091.specs.Tree.{Tree}
use Rattle.tables_091.specs.Grammar.{IsTable}
use Rattle.tables_091.specs.Faults.{IsTableFault, IsFaultAt}
use Rattle.tables_091.specs.Reading.{table_in, table_at}
use Rattle.tables_091.proofs.FaultLaws.{fault_is_first}
use Rattle.tables_091.proofs.ReaderLaws.{table_reader}
use Rattle.content_091.specs.Rows.{PropertyKind, Row, rows}
use Rattle.content_091.specs.Rows as kind
use Rattle.content_091.specs.Properties.{Property, Properties}
use Rattle.content_091.specs.Properties as property
use Rattle.content_091.specs.Grammar.{bit_at, IsProperty, IsMaybe, IsProps, IsHead}
use Rattle.content_091.specs.Reading.{property_in, maybe_in, props_in, numbers_in, nothing_in}
use Rattle.content_091.specs.Reading.{all_in}
use Rattle.content_091.specs.Faults.{IsPropertyFault, IsMaybeFault, IsPropsFault, AreLeft}

-- ---- tests

pub differs : (a b : ℕ) → a ≢ b → eqb a b ≡ false
differs a b apart = at (eqb a b) refl
  where
    at : (t : Bool) → eqb a b ≡ t → eqb a b ≡ false
    at true e = absurd (apart (eqb-true a b e))
    at false e = e

-- bytes are left
pub something_is : (end b : ℕ) (rest : List ℕ) → nothing_in end (b ∷ rest) ≡ Err (end - length (b ∷ rest))
something_is end b rest =
    let some : eqb (length (b ∷ rest)) 0 ≡ false = differs (length (b ∷ rest)) 0 (λ none. absurd (omega (arith, none))) in
    rw some refl

-- ---- what is read is spelled so, and what is spelled so is read

property_reader : (k : PropertyKind) → IsReader (IsProperty k) (property_in k)
property_reader kind.octet = made_reader property.octet (IsNumber w8) (number_in offset w8) (number_reader offset w8 wide8)
property_reader kind.longlong =
    made_reader property.longlong (IsNumber w64) (number_in offset w64) (number_reader offset w64 wide64)
property_reader kind.shortstr = made_reader property.shortstr (IsText w8) (text_in offset w8) (text_reader offset w8 wide8)
property_reader kind.fields = made_reader property.fields IsTable table_in table_reader

maybe_reader : (b : Bool) (k : PropertyKind) → IsReader (IsMaybe b k) (maybe_in b k)
maybe_reader true k = made_reader Some (IsProperty k) (property_in k) (property_reader k)
maybe_reader false k = record {
  finds = λ end text x fits e.
      subst (λ (y : Option Property × List ℕ). Finds (IsMaybe false k) text y) (ok_is {F = ℕ} (None, text) x e)
      (record { front = []; spelled = (refl, refl); parts = refl; rest_fits = fits });
  again = λ end v front rest h. rw (h.0, h.1) refl;
}

none_reader : (flags : ℕ) → IsReader (IsProps flags []) (props_in flags [])
none_reader flags = record {
  finds = λ end text x fits e.
      subst (λ (y : Properties × List ℕ). Finds (IsProps flags []) text y) (ok_is {F = ℕ} ([], text) x e)
      (record { front = []; spelled = (refl, refl); parts = refl; rest_fits = fits });
  again = λ end vs front rest h. rw (h.0, h.1) refl;
}

pub props_reader : (flags : ℕ) (others : List Row) → IsReader (IsProps flags others) (props_in flags others)
props_reader flags [] = none_reader flags
props_reader flags (row ∷ others) =
    let b = bit_at row.0 flags in
    made_reader (λ p. p.0 ∷ p.1) (IsPair (IsMaybe b row.1) (IsProps flags others)) (pair_in (maybe_in b row.1) (props_in flags others))
    (pair_reader (IsMaybe b row.1) (IsProps flags others) (maybe_in b row.1) (props_in flags others) (maybe_reader b row.1) (props_reader flags others))

shorts : IsReader (IsNumber w16) (number_in offset w16)
shorts = number_reader offset w16 wide16

pub head_reader : IsReader IsHead numbers_in
head_reader =
    pair_reader (IsPair (IsPair (IsNumber w16) (IsNumber w16)) (IsNumber w64)) (IsNumber w16)
    (pair_in (pair_in (number_in offset w16) (number_in offset w16)) (number_in offset w64)) (number_in offset w16)
    (pair_reader (IsPair (IsNumber w16) (IsNumber w16)) (IsNumber w64) (pair_in (number_in offset w16) (number_in offset w16)) (number_in offset w64)
    (pair_reader (IsNumber w16) (IsNumber w16) (number_in offset w16) (number_in offset w16) shorts shorts)
    (number_reader offset w64 wide64)) shorts

-- ---- the faults that a reader tells, of bytes that stand behind others

-- as TellsFaults, where the offset of the end is no less than the bytes are
pub record TellsWithin {A F : Type 0} (Fault : Faults F) (read : ℕ → List ℕ → Reads A F) : Type 0 where
  pub found : (end : ℕ) (text : List ℕ) (f : F) → length text ≤ end → IsBytes text → read end text ≡ Err f → Fault end text f
  pub told : (end : ℕ) (text : List ℕ) (f : F) → length text ≤ end → IsBytes text → Fault end text f → read end text ≡ Err f

within : {A F : Type 0} (Fault : Faults F) (read : ℕ → List ℕ → Reads A F) → TellsFaults Fault read → TellsWithin Fault read
within Fault read t = record {
  found = λ end text f le fits e. t.found end text f fits e;
  told = λ end text f le fits h. t.told end text f h;
}

made_within : {A B F : Type 0} (make : A → B) (Fault : Faults F) (read : ℕ → List ℕ → Reads A F) → TellsWithin Fault read
    → TellsWithin Fault (λ end text. made make (read end text))
made_within {A} {B} {F} make Fault read t = record { found = found; told = told }
  where
    found : (end : ℕ) (text : List ℕ) (f : F) → length text ≤ end → IsBytes text → made make (read end text) ≡ Err f → Fault end text f
    found end text f le fits e = elim (bind_fails (read end text) (λ x. Ok (make x.0, x.1)) f e) [
      | inl h ↦ t.found end text f le fits h
      | inr h ↦ absurd (cc h.2)
    ]

    told : (end : ℕ) (text : List ℕ) (f : F) → length text ≤ end → IsBytes text → Fault end text f → made make (read end text) ≡ Err f
    told end text f le fits h = rw (t.told end text f le fits h) refl

-- the second value behind the first
abbrev with_first : {A B F : Type 0} → A → B × List ℕ → Reads (A × B) F
with_first x b = Ok ((x, b.0), b.1)

pair_within : {A B F : Type 0} (First Second : Faults F) (R : A → List ℕ → Type 0) (read : ℕ → List ℕ → Reads A F)
    (more : ℕ → List ℕ → Reads B F) → IsReader R read → TellsWithin First read → TellsWithin Second more
    → TellsWithin (IsPairFault First R Second) (pair_in read more)
pair_within {A} {B} {F} First Second R read more r t u = record { found = found; told = told }
  where
    behind : (end : ℕ) (text : List ℕ) (f : F) (x : A × List ℕ) → length text ≤ end → IsBytes text → read end text ≡ Ok x
        → (more end x.1 >>= with_first x.0) ≡ Err f → IsPairFault First R Second end text f
    behind end text f x le fits is e =
        let s = r.finds end text x fits is in
        let shorter : length x.1 ≤ end = omega (arith, le, ap length s.parts, length-append s.front x.1) in
        elim (bind_fails (more end x.1) (with_first x.0) f e) [
          | inl h ↦ inr (x.0, s.front, x.1, s.spelled, s.parts, u.found end x.1 f shorter s.rest_fits h)
          | inr h ↦ absurd (cc h.2)
        ]

    found : (end : ℕ) (text : List ℕ) (f : F) → length text ≤ end → IsBytes text → pair_in read more end text ≡ Err f
        → IsPairFault First R Second end text f
    found end text f le fits e = elim (bind_fails (read end text) (λ a. more end a.1 >>= with_first a.0) f e) [
      | inl h ↦ inl (t.found end text f le fits h)
      | inr h ↦ behind end text f h.0 le fits h.1 h.2
    ]

    told : (end : ℕ) (text : List ℕ) (f : F) → length text ≤ end → IsBytes text → IsPairFault First R Second end text f
        → pair_in read more end text ≡ Err f
    told end text f le fits (inl h) = rw (t.told end text f le fits h) refl
    told end text f le fits (inr h) =
        let first : read end text ≡ Ok (h.0, h.2) = ap (read end) h.4 ∙ r.again end h.0 h.1 h.2 h.3 in
        let shorter : length h.2 ≤ end = omega (arith, le, ap length h.4, length-append h.1 h.2) in
        let rest_fits = (r.finds end text (h.0, h.2) fits first).rest_fits in
        rw (first, u.told end h.2 f shorter rest_fits h.5) refl

-- ---- tables

-- bytes that end at an offset, behind zeros from the start on
abbrev padded : ℕ → List ℕ → List ℕ
padded end text = replicate (end - length text) 0 ++ text

abbrev placed : ℕ → List (List ℕ × Tree) × List ℕ → Result (List (List ℕ × Tree) × ℕ) ℕ
placed end x = Ok (x.0, end - length x.1)

table_within : TellsWithin IsTableFault table_in
table_within = record { found = found; told = told }
  where
    ends : (end : ℕ) (text : List ℕ) → length text ≤ end → length (padded end text) ≡ end
    ends end text le = omega (arith, le, length-append (replicate (end - length text) 0) text, length-replicate {A = ℕ} (end - length text) 0)

    behind : (end : ℕ) (text : List ℕ) → drop (end - length text) (padded end text) ≡ text
    behind end text = drop_at (replicate (end - length text) 0) text (end - length text) (length-replicate {A = ℕ} (end - length text) 0)

    here : (end : ℕ) (text : List ℕ) → length text ≤ end
        → table_at (padded end text) (end - length text) ≡ (table_in end text >>= placed end)
    here end text le = rw (ends end text le, behind end text) refl

    fit : (end : ℕ) (text : List ℕ) → IsBytes text → IsBytes (padded end text)
    fit end text fits = IsBytes-append (replicate (end - length text) 0) text (IsBytes-replicate (end - length text)) fits

    found : (end : ℕ) (text : List ℕ) (f : ℕ) → length text ≤ end → IsBytes text → table_in end text ≡ Err f → IsTableFault end text f
    found end text f le fits e =
        let read : table_at (padded end text) (end - length text) ≡ Err f =
        here end text le ∙ ap (λ (r : Reads (List (List ℕ × Tree)) ℕ). r >>= placed end) e in
        subst (λ (n : ℕ). IsTableFault n text f) (ends end text le)
        (subst (λ (t : List ℕ). IsTableFault (length (padded end text)) t f) (behind end text)
        ((fault_is_first (padded end text) (end - length text) f (fit end text fits)).0 read))

    told : (end : ℕ) (text : List ℕ) (f : ℕ) → length text ≤ end → IsBytes text → IsTableFault end text f → table_in end text ≡ Err f
    told end text f le fits h =
        let fault : IsFaultAt (padded end text) (end - length text) f =
        subst (λ (t : List ℕ). IsTableFault (length (padded end text)) t f) (sym (behind end text))
        (subst (λ (n : ℕ). IsTableFault n text f) (sym (ends end text le)) h) in
        let read = sym (here end text le) ∙ (fault_is_first (padded end text) (end - length text) f (fit end text fits)).1 fault in
        elim (bind_fails (table_in end text) (placed end) f read) [
          | inl k ↦ k
          | inr k ↦ absurd (cc k.2)
        ]

-- ---- properties, and what is left behind them

property_within : (k : PropertyKind) → TellsWithin (IsPropertyFault k) (property_in k)
property_within kind.octet =
    made_within property.octet _ (number_in offset w8) (within _ (number_in offset w8) (number_faults offset w8))
property_within kind.longlong =
    made_within property.longlong _ (number_in offset w64) (within _ (number_in offset w64) (number_faults offset w64))
property_within kind.shortstr =
    made_within property.shortstr (IsTextFault offset w8) (text_in offset w8) (within (IsTextFault offset w8) (text_in offset w8) (text_faults offset w8))
property_within kind.fields = made_within property.fields IsTableFault table_in table_within

maybe_within : (b : Bool) (k : PropertyKind) → TellsWithin (IsMaybeFault b k) (maybe_in b k)
maybe_within true k = made_within Some (IsPropertyFault k) (property_in k) (property_within k)
maybe_within false k = record {
  found = λ end text f le fits e. absurd (cc e);
  told = λ end text f le fits h. absurd h;
}

props_within : (flags : ℕ) (others : List Row) → TellsWithin (IsPropsFault flags others) (props_in flags others)
props_within flags [] = record {
  found = λ end text f le fits e. absurd (cc e);
  told = λ end text f le fits h. absurd h;
}
props_within flags (row ∷ others) =
    let b = bit_at row.0 flags in
    made_within (λ p. p.0 ∷ p.1) (IsPropsFault flags (row ∷ others)) (pair_in (maybe_in b row.1) (props_in flags others))
    (pair_within (IsMaybeFault b row.1) (IsPropsFault flags others) (IsMaybe b row.1) (maybe_in b row.1) (props_in flags others)
    (maybe_reader b row.1) (maybe_within b row.1) (props_within flags others))

left_within : TellsWithin AreLeft nothing_in
left_within = record { found = found; told = told }
  where
    found : (end : ℕ) (text : List ℕ) (f : ℕ) → length text ≤ end → IsBytes text → nothing_in end text ≡ Err f → AreLeft end text f
    found end [] f le fits e = absurd (cc e)
    found end (b ∷ rest) f le fits e = ((λ none. absurd (cc none)), sym (err_is {A = Unit {0} × List ℕ} (end - length (b ∷ rest)) f (sym (something_is end b rest) ∙ e)))

    told : (end : ℕ) (text : List ℕ) (f : ℕ) → length text ≤ end → IsBytes text → AreLeft end text f → nothing_in end text ≡ Err f
    told end [] f le fits h = absurd (h.0 refl)
    told end (b ∷ rest) f le fits h = something_is end b rest ∙ ap (λ (n : ℕ). Err n) (sym h.1)

-- the faults of properties behind which nothing is to be left
pub all_within : (flags : ℕ) → TellsWithin (IsPairFault (IsPropsFault flags rows) (IsProps flags rows) AreLeft) (all_in flags)
all_within flags =
    pair_within (IsPropsFault flags rows) AreLeft (IsProps flags rows) (props_in flags rows) nothing_in (props_reader flags rows)
    (props_within flags rows) left_within
