-- What is read of a message stands there.
use Rattle.std.proofs.Common.{◌≡◌, ◌≢◌, inl, inr, ℕ, zero, suc, ◌+◌, ◌-◌, ◌<◌, Bool, true, false}
use Rattle.std.proofs.Common.{cond, ltb, eqb, List, [], ◌∷◌, ◌++◌, length, take, drop, get_or}
use Rattle.std.proofs.Common.{Option, Some, None, Result, Ok, Err, refl, sym, ap, subst, ◌∙◌}
use Rattle.std.proofs.Common.{append_assoc, append-nil, arith}
use Rattle.std.specs.List.{flat_map}
use Rattle.std.proofs.lemmas.Bool.{ltb-true, lt-ltb, eqb-true, eq-eqb}
use Rattle.std.proofs.lemmas.List.{take-append-drop, length-take, length-drop}
use Rattle.wire_base.specs.Bytes.{IsBytes}
use Rattle.wire_base.specs.Reading.{◌>>=◌}
use Rattle.wire_base.specs.Spelling.{StandsAt}
use Rattle.wire_base.proofs.Laws.{bind_is, ok_is}
use Rattle.types_10.specs.Tree.{Tree, scalar, list, mapping, array, described, ulong}
use Rattle.types_10.specs.Tree as value
use Rattle.types_10.specs.Grammar.{IsValue}
use Rattle.types_10.specs.Reading.{Fault, value_at}
use Rattle.types_10.proofs.ValueLaws.{value_is_read, spelled_is_read}
use Rattle.sections_10.specs.Rows.{SectionKind, Section, header_section, delivery_section}
use Rattle.sections_10.specs.Rows.{message_section, properties_section, application_section}
use Rattle.sections_10.specs.Rows.{data_section, sequence_section, value_section, footer_section}
use Rattle.sections_10.specs.Reading.{meaning_in, without_fault, ulong_of, code_at, if_code}
use Rattle.sections_10.specs.Reading.{value_in, placed, behind_code, section_in, and_more, run_in}
use Rattle.sections_10.specs.Reading.{bytes_of, more_data, data_in, any_more, sequences_in}
use Rattle.sections_10.specs.Reading.{value_body, maybe_value, no_sequence, no_data, body_in}
use Rattle.sections_10.specs.Reading.{Sections, sections_in}
use Rattle.sections_10.specs.Grammar.{IsCodeAt, IsSectionAt, IsMaybeAt, IsRunAt, IsBodyAt}
use Rattle.sections_10.specs.Grammar.{AreInOrder}
use Rattle.sections_10.specs.declared.message.Body10.{Body10}
use Rattle.sections_10.specs.declared.message.Body10.TheVariants as body

-- ---- pairs

abbrev pub read_of : {A : Type 0} (F : Type 0) → Option A × ℕ → Result (Option A × ℕ) F
read_of F x = Ok x

-- nothing isn't something
pub not_both : {A F : Type 0} (t : A) (a b : ℕ) → read_of {A = A} F (None, a) ≡ read_of F (Some t, b) → ⊥
not_both {A} {F} t a b e =
    let parts = ok_is {A = Option A × ℕ} {F = F} (None, a) (Some t, b) e in
    let first : None ≡ Some t = ap (λ (x : Option A × ℕ). x.0) parts in
    absurd (cc first)

-- ---- descriptors

-- a value that is an ulong
ulong_is : (r : Result (Tree × ℕ) Fault) (c : ℕ × ℕ) → ulong_of r ≡ Some c → r ≡ Ok (scalar (ulong c.0), c.1)
ulong_is (Err f) c e = absurd cc
ulong_is (Ok (list ts, after)) c e = absurd cc
ulong_is (Ok (mapping ps, after)) c e = absurd cc
ulong_is (Ok (array ts, after)) c e = absurd cc
ulong_is (Ok (described d t, after)) c e = absurd cc
ulong_is (Ok (scalar value.null, after)) c e = absurd cc
ulong_is (Ok (scalar (value.boolean b), after)) c e = absurd cc
ulong_is (Ok (scalar (value.ubyte n), after)) c e = absurd cc
ulong_is (Ok (scalar (value.byte z), after)) c e = absurd cc
ulong_is (Ok (scalar (value.ushort n), after)) c e = absurd cc
ulong_is (Ok (scalar (value.short z), after)) c e = absurd cc
ulong_is (Ok (scalar (value.uint n), after)) c e = absurd cc
ulong_is (Ok (scalar (value.int z), after)) c e = absurd cc
ulong_is (Ok (scalar (value.ulong n), after)) c e =
    let same : (n, after) ≡ c = cc in
    ap (λ (d : ℕ × ℕ). Ok (scalar (ulong d.0), d.1)) same
ulong_is (Ok (scalar (value.long z), after)) c e = absurd cc
ulong_is (Ok (scalar (value.float n), after)) c e = absurd cc
ulong_is (Ok (scalar (value.double n), after)) c e = absurd cc
ulong_is (Ok (scalar (value.decimal32 n), after)) c e = absurd cc
ulong_is (Ok (scalar (value.decimal64 n), after)) c e = absurd cc
ulong_is (Ok (scalar (value.decimal128 s), after)) c e = absurd cc
ulong_is (Ok (scalar (value.char n), after)) c e = absurd cc
ulong_is (Ok (scalar (value.timestamp z), after)) c e = absurd cc
ulong_is (Ok (scalar (value.uuid s), after)) c e = absurd cc
ulong_is (Ok (scalar (value.binary s), after)) c e = absurd cc
ulong_is (Ok (scalar (value.string s), after)) c e = absurd cc
ulong_is (Ok (scalar (value.symbol s), after)) c e = absurd cc

-- a code that is read stands there
pub code_found : (bytes : List ℕ) (at : ℕ) (c : ℕ × ℕ) → IsBytes bytes → code_at bytes at ≡ Some c → IsCodeAt c.0 bytes at c.1
unfolding code_at
code_found bytes at c fits e = by_length (ltb at (length bytes)) refl e
  where
    by_zero : (t : Bool) → eqb (get_or bytes at 0) 0 ≡ t → at < length bytes → cond t (ulong_of (value_at bytes (at + 1))) None ≡ Some c → IsCodeAt c.0 bytes at c.1
    by_zero true t inside e =
        let read = ulong_is (value_at bytes (at + 1)) c e in
        (inside, eqb-true _ _ t, (value_is_read (scalar (ulong c.0)) bytes (at + 1) c.1 fits).0 read)
    by_zero false t inside e = absurd (cc e)

    by_length : (t : Bool) → ltb at (length bytes) ≡ t → cond t (cond (eqb (get_or bytes at 0) 0) (ulong_of (value_at bytes (at + 1))) None) None ≡ Some c → IsCodeAt c.0 bytes at c.1
    by_length true t e = by_zero (eqb (get_or bytes at 0) 0) refl (ltb-true _ _ t) e
    by_length false t e = absurd (cc e)

-- a value that stands there is read
value_read : (t : Tree) (bytes : List ℕ) (at after : ℕ) → StandsAt IsValue t bytes at after → value_at bytes at ≡ Ok (t, after)
value_read t bytes at after h =
    let text = take (after - at) (drop at bytes) in
    let place : at + length text ≡ after = omega (arith, h.0, h.1, length-take (after - at) (drop at bytes), length-drop at bytes) in
    spelled_is_read bytes at t text (drop (after - at) (drop at bytes)) h.2 (sym (take-append-drop (after - at) (drop at bytes)))
    ∙ ap (λ (n : ℕ). Ok (t, n)) place

-- a code that stands there is read
pub code_read : (code : ℕ) (bytes : List ℕ) (at after : ℕ) → IsCodeAt code bytes at after → code_at bytes at ≡ Some (code, after)
unfolding code_at
code_read code bytes at after (inside, byte, stands) =
    let a : ltb at (length bytes) ≡ true = lt-ltb _ _ inside in
    let b : eqb (get_or bytes at 0) 0 ≡ true = eq-eqb _ _ byte in
    let read : value_at bytes (at + 1) ≡ Ok (scalar (ulong code), after) = value_read (scalar (ulong code)) bytes (at + 1) after stands in
    rw (a, b, read) refl

-- ---- sections

without_is : (r : Result (Tree × ℕ) Fault) (v : Tree × ℕ) → without_fault r ≡ Ok v → r ≡ Ok v
without_is (Ok w) v e = ap (λ (x : Tree × ℕ). Ok x) (ok_is {F = Unit {0}} w v e)
without_is (Err f) v e = absurd cc

-- a value that is read stands there
value_found : (k : SectionKind) (bytes : List ℕ) (at : ℕ) (x : Tree × ℕ) → IsBytes bytes → value_in k bytes at ≡ Ok x → (t : Tree) × StandsAt IsValue t bytes at x.1 × (meaning_in k t ≡ Ok x.0)
value_found k bytes at x fits e =
    let v = bind_is (without_fault (value_at bytes at)) (λ v. meaning_in k v.0 >>= λ t. Ok (t, v.1)) x e in
    let t = bind_is (meaning_in k v.0.0) (λ t. Ok (t, v.0.1)) x v.2 in
    let same = ok_is {F = Unit {0}} (t.0, v.0.1) x t.2 in
    let read : value_at bytes at ≡ Ok (v.0.0, v.0.1) = without_is (value_at bytes at) v.0 v.1 in
    subst (λ (y : Tree × ℕ). (t : Tree) × StandsAt IsValue t bytes at y.1 × (meaning_in k t ≡ Ok y.0)) same
    (v.0.0, (value_is_read v.0.0 bytes at v.0.1 fits).0 read, t.1)

placed_is : (at : ℕ) (r : Result (Tree × ℕ) (Unit {0})) (t : Tree) (after : ℕ) → placed at r ≡ Ok (Some t, after) → r ≡ Ok (t, after)
placed_is at (Ok (u, m)) t after e =
    let parts = ok_is {F = ℕ} (Some u, m) (Some t, after) e in
    let some : Some u ≡ Some t = ap (λ (x : Option Tree × ℕ). x.0) parts in
    let first : u ≡ t = cc some in
    let second : m ≡ after = ap (λ (x : Option Tree × ℕ). x.1) parts in
    rw (first, second) refl
placed_is at (Err d) t after e = absurd cc

-- a section that is read stands there
pub section_found : (s : Section) (bytes : List ℕ) (at : ℕ) (t : Tree) (after : ℕ) → IsBytes bytes → section_in s bytes at ≡ Ok (Some t, after) → IsSectionAt s t bytes at after
unfolding section_in
section_found s bytes at t after fits e = by_code (code_at bytes at) refl e
  where
    by_same : (c : ℕ × ℕ) (b : Bool) → eqb c.0 s.0 ≡ b → code_at bytes at ≡ Some c → behind_code s.1 bytes at (cond b (Some c.1) None) ≡ Ok (Some t, after) → IsSectionAt s t bytes at after
    by_same c true same is e =
        let v = value_found s.1 bytes c.1 (t, after) fits (placed_is at (value_in s.1 bytes c.1) t after e) in
        let code = code_found bytes at c fits is in
        (v.0, c.1, subst (λ (n : ℕ). IsCodeAt n bytes at c.1) (eqb-true _ _ same) code, v.1, v.2)
    by_same c false other is e = absurd (not_both t at after e)

    by_code : (o : Option (ℕ × ℕ)) → code_at bytes at ≡ o → behind_code s.1 bytes at (if_code s.0 o) ≡ Ok (Some t, after) → IsSectionAt s t bytes at after
    by_code None is e = absurd (not_both t at after e)
    by_code (Some c) is e = by_same c (eqb c.0 s.0) refl is e

placed_some : (at after : ℕ) (r : Result (Tree × ℕ) (Unit {0})) → placed at r ≡ Ok (None, after) → ⊥
placed_some at after (Ok x) e = not_both x.0 after x.1 (sym e)
placed_some at after (Err d) e = absurd (cc e)

-- where there is none, another code stands, or none
pub section_missing : (s : Section) (bytes : List ℕ) (at after : ℕ) → section_in s bytes at ≡ Ok (None, after) → (after ≡ at) × (if_code s.0 (code_at bytes at) ≡ None)
unfolding section_in
section_missing s bytes at after e = by_code (if_code s.0 (code_at bytes at)) refl e
  where
    by_code : (o : Option ℕ) → if_code s.0 (code_at bytes at) ≡ o → behind_code s.1 bytes at o ≡ Ok (None, after) → (after ≡ at) × (if_code s.0 (code_at bytes at) ≡ None)
    by_code None is e =
        let same : (None, at) ≡ (None, after) = ok_is {A = Option Tree × ℕ} {F = ℕ} (None, at) (None, after) e in
        (ap (λ (x : Option Tree × ℕ). x.1) (sym same), is)
    by_code (Some m) is e = absurd (placed_some at after (value_in s.1 bytes m) e)

pub maybe_found : (s : Section) (bytes : List ℕ) (at : ℕ) (x : Option Tree × ℕ) → IsBytes bytes → section_in s bytes at ≡ Ok x → IsMaybeAt s x.0 bytes at x.1
maybe_found s bytes at (None, after) fits e = (section_missing s bytes at after e).0
maybe_found s bytes at (Some t, after) fits e = section_found s bytes at t after fits e

-- a section that stands there is read, and one whose code doesn't stand there is passed over
pub section_read : (s : Section) (t : Tree) (bytes : List ℕ) (at after : ℕ) → IsSectionAt s t bytes at after → section_in s bytes at ≡ Ok (Some t, after)
unfolding section_in
section_read s t bytes at after (u, middle, code, stands, means) =
    let is : code_at bytes at ≡ Some (s.0, middle) = code_read s.0 bytes at middle code in
    let same : eqb s.0 s.0 ≡ true = eq-eqb _ _ refl in
    let read : value_at bytes middle ≡ Ok (u, after) = value_read u bytes middle after stands in
    rw (is, same, read, means) refl

pub section_skipped : (s : Section) (bytes : List ℕ) (at : ℕ) → if_code s.0 (code_at bytes at) ≡ None → section_in s bytes at ≡ Ok (None, at)
unfolding section_in
section_skipped s bytes at none = rw none refl

-- ---- bodies

pub run_found : (s : Section) (most : ℕ) (bytes : List ℕ) (at : ℕ) (x : List Tree × ℕ) → IsBytes bytes → run_in s most bytes at ≡ Ok x → IsRunAt s x.0 bytes at x.1
unfolding run_in
run_found s zero bytes at x fits e = subst (λ (y : List Tree × ℕ). IsRunAt s y.0 bytes at y.1) (ok_is {F = ℕ} ([], at) x e) refl
run_found s (suc most) bytes at x fits e =
    let y = bind_is (section_in s bytes at) (and_more (run_in s most bytes)) x e in
    by_first y.0 y.1 y.2 (λ after z r. run_found s most bytes after z fits r)
  where
    by_first : (y : Option Tree × ℕ) → section_in s bytes at ≡ Ok y → and_more (run_in s most bytes) y ≡ Ok x
        → ((after : ℕ) (z : List Tree × ℕ) → run_in s most bytes after ≡ Ok z → IsRunAt s z.0 bytes after z.1) → IsRunAt s x.0 bytes at x.1
    by_first (None, after) is e more =
        subst (λ (y : List Tree × ℕ). IsRunAt s y.0 bytes at y.1) (ok_is {F = ℕ} ([], after) x e) (section_missing s bytes at after is).0
    by_first (Some t, after) is e more =
        let z = bind_is (run_in s most bytes after) (λ z. Ok (t ∷ z.0, z.1)) x e in
        subst (λ (y : List Tree × ℕ). IsRunAt s y.0 bytes at y.1) (ok_is {F = ℕ} (t ∷ z.0.0, z.0.1) x z.2)
        (after, section_found s bytes at t after fits is, more after z.0 z.1)

-- the bytes of more data sections
data_joined : (s : List ℕ) (ts : List Tree) → more_data (Some s) ts ≡ Some (s ++ flat_map bytes_of ts)
data_joined s [] = ap (λ (t : List ℕ). Some t) (sym (append-nil s))
data_joined s (t ∷ ts) = data_joined (s ++ bytes_of t) ts ∙ ap (λ (u : List ℕ). Some u) (append_assoc s (bytes_of t) (flat_map bytes_of ts))

pub all_data : (t : Tree) (ts : List Tree) → more_data None (t ∷ ts) ≡ Some (flat_map bytes_of (t ∷ ts))
all_data t ts = data_joined (bytes_of t) ts

pub all_found : (ts : List Tree) → any_more true ts ≡ true
all_found [] = refl
all_found (t ∷ ts) = all_found ts

data_is : (ts : List Tree) (s : List ℕ) → more_data None ts ≡ Some s → (ts ≢ []) × (s ≡ flat_map bytes_of ts)
data_is [] s e = absurd (cc e)
data_is (t ∷ ts) s e =
    let same : s ≡ flat_map bytes_of (t ∷ ts) = cc (sym e ∙ all_data t ts) in
    ((λ none. absurd (cc none)), same)

no_data_is : (ts : List Tree) → more_data None ts ≡ None → ts ≡ []
no_data_is [] e = refl
no_data_is (t ∷ ts) e = absurd (cc (all_data t ts, e))

found_is : (ts : List Tree) → any_more false ts ≡ true → ts ≢ []
found_is [] e = absurd (cc e)
found_is (t ∷ ts) e = λ none. absurd (cc none)

not_found_is : (ts : List Tree) → any_more false ts ≡ false → ts ≡ []
not_found_is [] e = refl
not_found_is (t ∷ ts) e = absurd (cc (all_found ts, e))

empty_run : (s : Section) (ts : List Tree) (bytes : List ℕ) (at after : ℕ) → ts ≡ [] → IsRunAt s ts bytes at after → after ≡ at
empty_run s [] bytes at after none h = h
empty_run s (t ∷ ts) bytes at after none h = absurd (cc none)

-- one value, or nothing
value_is : (bytes : List ℕ) (at : ℕ) (x : Option Body10 × ℕ) → IsBytes bytes → (section_in value_section bytes at >>= maybe_value) ≡ Ok x → IsBodyAt x.0 bytes at x.1
value_is bytes at x fits e =
    let v = bind_is (section_in value_section bytes at) maybe_value x e in
    by_value v.0 v.1 v.2
  where
    by_value : (v : Option Tree × ℕ) → section_in value_section bytes at ≡ Ok v → maybe_value v ≡ Ok x → IsBodyAt x.0 bytes at x.1
    by_value (None, after) is e =
        subst (λ (y : Option Body10 × ℕ). IsBodyAt y.0 bytes at y.1) (ok_is {F = ℕ} (None, after) x e) (section_missing value_section bytes at after is).0
    by_value (Some t, after) is e =
        subst (λ (y : Option Body10 × ℕ). IsBodyAt y.0 bytes at y.1) (ok_is {F = ℕ} (Some (value_body t), after) x e)
        (inr (inr (t, section_found value_section bytes at t after fits is, refl)))

-- sequences, or no data
sequences_are : (bytes : List ℕ) (at : ℕ) (x : Option Body10 × ℕ) → IsBytes bytes → (sequences_in bytes at >>= no_sequence bytes) ≡ Ok x → IsBodyAt x.0 bytes at x.1
unfolding sequences_in
sequences_are bytes at x fits e =
    let f = bind_is (sequences_in bytes at) (no_sequence bytes) x e in
    let r = bind_is (run_in sequence_section (length bytes) bytes at) (λ r. Ok (any_more false r.0, r.1)) f.0 f.1 in
    let run = run_found sequence_section (length bytes) bytes at r.0 fits r.1 in
    let same = ok_is {F = ℕ} (any_more false r.0.0, r.0.1) f.0 r.2 in
    by_found (any_more false r.0.0) r.0.0 r.0.1 run refl (ap (no_sequence bytes) same ∙ f.2)
  where
    by_found : (b : Bool) (ts : List Tree) (after : ℕ) → IsRunAt sequence_section ts bytes at after → any_more false ts ≡ b → no_sequence bytes (b, after) ≡ Ok x → IsBodyAt x.0 bytes at x.1
    by_found true ts after run is e =
        subst (λ (y : Option Body10 × ℕ). IsBodyAt y.0 bytes at y.1) (ok_is {F = ℕ} (Some body.Other, after) x e) (inr (inl (ts, found_is ts is, run, refl)))
    by_found false ts after run is e =
        let here = empty_run sequence_section ts bytes at after (not_found_is ts is) run in
        value_is bytes at x fits (subst (λ (n : ℕ). (section_in value_section bytes n >>= maybe_value) ≡ Ok x) here e)

-- a body that is read stands there
pub body_found : (bytes : List ℕ) (at : ℕ) (x : Option Body10 × ℕ) → IsBytes bytes → body_in bytes at ≡ Ok x → IsBodyAt x.0 bytes at x.1
unfolding body_in data_in
body_found bytes at x fits e =
    let d = bind_is (data_in bytes at) (no_data bytes) x e in
    let r = bind_is (run_in data_section (length bytes) bytes at) (λ r. Ok (more_data None r.0, r.1)) d.0 d.1 in
    let run = run_found data_section (length bytes) bytes at r.0 fits r.1 in
    let same = ok_is {F = ℕ} (more_data None r.0.0, r.0.1) d.0 r.2 in
    by_data (more_data None r.0.0) r.0.0 r.0.1 run refl (ap (no_data bytes) same ∙ d.2)
  where
    by_data : (o : Option (List ℕ)) (ts : List Tree) (after : ℕ) → IsRunAt data_section ts bytes at after → more_data None ts ≡ o → no_data bytes (o, after) ≡ Ok x → IsBodyAt x.0 bytes at x.1
    by_data (Some s) ts after run is e =
        let d = data_is ts s is in
        subst (λ (y : Option Body10 × ℕ). IsBodyAt y.0 bytes at y.1) (ok_is {F = ℕ} (Some (body.Data s), after) x e)
        (inl (ts, d.0, run, ap (λ (t : List ℕ). body.Data t) d.1))
    by_data None ts after run is e =
        let here = empty_run data_section ts bytes at after (no_data_is ts is) run in
        sequences_are bytes at x fits (subst (λ (n : ℕ). (sequences_in bytes n >>= no_sequence bytes) ≡ Ok x) here e)

-- ---- all sections

abbrev sections_of : Option Tree → Option Tree → Option Tree → Option Tree → Option Tree → Option Body10 → Option Tree × ℕ → Sections
sections_of h d a p q b f = record { header = h; delivery = d; annotations = a; properties = p; application = q; body = b; footer = f.0; after = f.1 }

pub sections_found : (bytes : List ℕ) (s : Sections) → IsBytes bytes → sections_in bytes ≡ Ok s → AreInOrder s bytes
unfolding sections_in
sections_found bytes s fits e =
    let h = bind_is (section_in header_section bytes 0) _ s e in
    let d = bind_is (section_in delivery_section bytes h.0.1) _ s h.2 in
    let a = bind_is (section_in message_section bytes d.0.1) _ s d.2 in
    let p = bind_is (section_in properties_section bytes a.0.1) _ s a.2 in
    let q = bind_is (section_in application_section bytes p.0.1) _ s p.2 in
    let b = bind_is (body_in bytes q.0.1) _ s q.2 in
    let f = bind_is (section_in footer_section bytes b.0.1) _ s b.2 in
    let same = ok_is {F = ℕ} (sections_of h.0.0 d.0.0 a.0.0 p.0.0 q.0.0 b.0.0 f.0) s f.2 in
    subst (λ (x : Sections). AreInOrder x bytes) same
    (record {
      delivery_from = h.0.1;
      annotations_from = d.0.1;
      properties_from = a.0.1;
      application_from = p.0.1;
      body_from = q.0.1;
      footer_from = b.0.1;
      header = maybe_found header_section bytes 0 h.0 fits h.1;
      delivery = maybe_found delivery_section bytes h.0.1 d.0 fits d.1;
      annotations = maybe_found message_section bytes d.0.1 a.0 fits a.1;
      properties = maybe_found properties_section bytes a.0.1 p.0 fits p.1;
      application = maybe_found application_section bytes p.0.1 q.0 fits q.1;
      body = body_found bytes q.0.1 b.0 fits b.1;
      footer = maybe_found footer_section bytes b.0.1 f.0 fits f.1;
    })
