-- The fault that is told is that of the first section at fault.
use Rattle.std.proofs.Common.{◌≡◌, ◌≢◌, ◌⊎◌, inl, inr, ℕ, zero, suc, ◌+◌, ◌<◌, ◌≤◌, Bool, true}
use Rattle.std.proofs.Common.{false, cond, ltb, leb, eqb, ◌&&◌, List, [], ◌∷◌, length, Option, Some}
use Rattle.std.proofs.Common.{None, Result, Ok, Err, IfErr, refl, sym, ap, subst, ◌∙◌, arith}
use Rattle.std.specs.List.{flat_map}
use Rattle.std.proofs.lemmas.Bool.{ltb-true, ltb-false, le-ltb, leb-true, leb-false, eqb-true}
use Rattle.std.proofs.lemmas.Bool.{eq-eqb}
use Rattle.wire_base.specs.Bytes.{IsBytes}
use Rattle.wire_base.specs.Reading.{◌>>=◌}
use Rattle.wire_base.specs.declared.scan.At.{At}
use Rattle.wire_base.proofs.Laws.{bind_is, ok_is}
use Rattle.wire_base.proofs.FaultLaws.{bind_fails, err_is}
use Rattle.types_10.specs.Tree.{Tree}
use Rattle.sections_10.specs.Rows.{Section, header_section, delivery_section, message_section}
use Rattle.sections_10.specs.Rows.{properties_section, application_section, data_section}
use Rattle.sections_10.specs.Rows.{sequence_section, value_section, footer_section}
use Rattle.sections_10.specs.View.{Kept}
use Rattle.sections_10.specs.Reading.{code_at, if_code, value_in, placed, behind_code, section_in}
use Rattle.sections_10.specs.Reading.{and_more, run_in, bytes_of, more_data, data_in, any_more}
use Rattle.sections_10.specs.Reading.{sequences_in, value_body, maybe_value, no_sequence, no_data}
use Rattle.sections_10.specs.Reading.{body_in, Sections, sections_in, rank, last_rank, fault_of}
use Rattle.sections_10.specs.Reading.{kept_in, whole, message_in, seen}
use Rattle.sections_10.specs.Grammar.{IsCodeAt, IsSectionAt, IsMaybeAt, IsRunAt, IsBodyAt}
use Rattle.sections_10.specs.Grammar.{AreInOrder}
use Rattle.sections_10.specs.Faults.{IsKnown, IsOfTable, is_header, is_delivery, is_annotations}
use Rattle.sections_10.specs.Faults.{is_properties, is_application, is_data, is_sequence, is_value}
use Rattle.sections_10.specs.Faults.{is_footer, IsNoSection, IsFaultOf, IsFault}
use Rattle.sections_10.specs.declared.message.Body10.{Body10}
use Rattle.sections_10.specs.declared.message.Body10.TheVariants as body
use Rattle.sections_10.specs.declared.message.Message10.{Message10}
use Rattle.sections_10.specs.declared.reading.SectionFault.{SectionFault}
use Rattle.sections_10.specs.declared.reading.SectionFault.TheVariants as fault
use Rattle.sections_10.proofs.ReadingLaws.{differs, order_ends}
use Rattle.sections_10.proofs.Standing.{not_both, code_found, code_read, section_found}
use Rattle.sections_10.proofs.Standing.{section_missing, section_read, maybe_found, body_found}
use Rattle.sections_10.proofs.Standing.{sections_found, all_data, all_found}

-- ---- a section without a value

-- at an offset a code stands, but no section of its kind
abbrev IsFailed : Section → List ℕ → ℕ → Type 0
IsFailed s bytes at = (middle : ℕ) × IsCodeAt s.0 bytes at middle × ((x : Tree) (after : ℕ) → IsSectionAt s x bytes at after → ⊥)

section_failed : (s : Section) (bytes : List ℕ) (at f : ℕ) → IsBytes bytes → section_in s bytes at ≡ Err f → (f ≡ at) × IsFailed s bytes at
unfolding section_in
section_failed s bytes at f fits e = by_code (code_at bytes at) refl (unfolded e)
  where
    unfolded : section_in s bytes at ≡ Err f → behind_code s.1 bytes at (if_code s.0 (code_at bytes at)) ≡ Err f
    unfolded e = e

    no_value : (x : Tree) (after : ℕ) → IsSectionAt s x bytes at after → ⊥
    no_value x after h = absurd (cc (section_read s x bytes at after h, e))

    place : (r : Result (Tree × ℕ) (Unit {0})) → placed at r ≡ Err f → f ≡ at
    place (Ok x) e = absurd (cc e)
    place (Err d) e = sym (err_is {A = Option Tree × ℕ} at f e)

    by_same : (c : ℕ × ℕ) (b : Bool) → eqb c.0 s.0 ≡ b → code_at bytes at ≡ Some c → behind_code s.1 bytes at (cond b (Some c.1) None) ≡ Err f → (f ≡ at) × IsFailed s bytes at
    by_same c true same is e =
        let code = code_found bytes at c fits is in
        (place (value_in s.1 bytes c.1) e, (c.1, subst (λ (n : ℕ). IsCodeAt n bytes at c.1) (eqb-true _ _ same) code, no_value))
    by_same c false other is e = absurd (cc e)

    by_code : (o : Option (ℕ × ℕ)) → code_at bytes at ≡ o → behind_code s.1 bytes at (if_code s.0 o) ≡ Err f → (f ≡ at) × IsFailed s bytes at
    by_code None is e = absurd (cc e)
    by_code (Some c) is e = by_same c (eqb c.0 s.0) refl is e

run_failed : (s : Section) (most : ℕ) (bytes : List ℕ) (at f : ℕ) → IsBytes bytes → run_in s most bytes at ≡ Err f → (ts : List Tree) × IsRunAt s ts bytes at f × IsFailed s bytes f
unfolding run_in
run_failed s zero bytes at f fits e = absurd (cc e)
run_failed s (suc most) bytes at f fits e =
    elim (bind_fails (section_in s bytes at) (and_more (run_in s most bytes)) f e) [
      | inl h ↦
          let failed = section_failed s bytes at f fits h in
          ([], failed.0, subst (λ (n : ℕ). IsFailed s bytes n) (sym failed.0) failed.1)
      | inr h ↦ later h.0 h.1 h.2 (λ after r. run_failed s most bytes after f fits r)
    ]
  where
    later : (y : Option Tree × ℕ) → section_in s bytes at ≡ Ok y → and_more (run_in s most bytes) y ≡ Err f
        → ((after : ℕ) → run_in s most bytes after ≡ Err f → (ts : List Tree) × IsRunAt s ts bytes after f × IsFailed s bytes f) → (ts : List Tree) × IsRunAt s ts bytes at f × IsFailed s bytes f
    later (None, after) is e more = absurd (cc e)
    later (Some t, after) is e more = elim (bind_fails (run_in s most bytes after) (λ z. Ok (t ∷ z.0, z.1)) f e) [
      | inl h ↦
          let m = more after h in
          (t ∷ m.0, (after, section_found s bytes at t after fits is, m.1), m.2)
      | inr h ↦ absurd (cc h.2)
    ]

-- ---- a body that fails

abbrev IsBodyFailed : List ℕ → ℕ → ℕ → Type 0
IsBodyFailed bytes at f = (b : Option Body10) × IsBodyAt b bytes at f × (s : Section) × IsOfTable s × (rank s.0 ≡ 117) × IsFailed s bytes f

data_failed : (bytes : List ℕ) (at f : ℕ) (ts : List Tree) → IsRunAt data_section ts bytes at f → IsFailed data_section bytes f → IsBodyFailed bytes at f
data_failed bytes at f [] run failed = (None, run, data_section, is_data, refl, failed)
data_failed bytes at f (t ∷ ts) run failed =
    (Some (body.Data (flat_map bytes_of (t ∷ ts))), inl (t ∷ ts, (λ none. absurd (cc none)), run, refl), data_section, is_data, refl, failed)

sequence_failed : (bytes : List ℕ) (at f : ℕ) (ts : List Tree) → IsRunAt sequence_section ts bytes at f → IsFailed sequence_section bytes f → IsBodyFailed bytes at f
sequence_failed bytes at f [] run failed = (None, run, sequence_section, is_sequence, refl, failed)
sequence_failed bytes at f (t ∷ ts) run failed =
    (Some body.Other, inr (inl (t ∷ ts, (λ none. absurd (cc none)), run, refl)), sequence_section, is_sequence, refl, failed)

value_failed : (bytes : List ℕ) (at f : ℕ) → IsBytes bytes → (section_in value_section bytes at >>= maybe_value) ≡ Err f → IsBodyFailed bytes at f
value_failed bytes at f fits e = elim (bind_fails (section_in value_section bytes at) maybe_value f e) [
  | inl h ↦
      let failed = section_failed value_section bytes at f fits h in
      (None, failed.0, value_section, is_value, refl, subst (λ (n : ℕ). IsFailed value_section bytes n) (sym failed.0) failed.1)
  | inr h ↦ absurd (never h.0 h.2)
]
  where
    never : (v : Option Tree × ℕ) → maybe_value v ≡ Err f → ⊥
    never (None, after) e = absurd (cc e)
    never (Some t, after) e = absurd (cc e)

-- where no bytes are, no code stands
no_code : (c : ℕ) (bytes : List ℕ) (at : ℕ) → length bytes ≡ 0 → if_code c (code_at bytes at) ≡ None
unfolding code_at
no_code c bytes at none =
    let past : ltb at (length bytes) ≡ false = le-ltb _ _ (omega (arith, none)) in
    rw past refl

-- none of a kind
run_missing : (s : Section) (most : ℕ) (bytes : List ℕ) (at after : ℕ) (ts : List Tree) → (most ≡ 0 → if_code s.0 (code_at bytes at) ≡ None) → ts ≡ [] → run_in s most bytes at ≡ Ok (ts, after) → (after ≡ at) × (if_code s.0 (code_at bytes at) ≡ None)
unfolding run_in
run_missing s zero bytes at after ts past none e = (ap (λ (x : List Tree × ℕ). x.1) (sym (ok_is {F = ℕ} ([], at) (ts, after) e)), past refl)
run_missing s (suc most) bytes at after ts past none e =
    let y = bind_is (section_in s bytes at) (and_more (run_in s most bytes)) (ts, after) e in
    by_first y.0 y.1 y.2
  where
    by_first : (y : Option Tree × ℕ) → section_in s bytes at ≡ Ok y → and_more (run_in s most bytes) y ≡ Ok (ts, after) → (after ≡ at) × (if_code s.0 (code_at bytes at) ≡ None)
    by_first (None, m) is e =
        let miss = section_missing s bytes at m is in
        let same : m ≡ after = ap (λ (x : List Tree × ℕ). x.1) (ok_is {F = ℕ} ([], m) (ts, after) e) in
        (sym same ∙ miss.0, miss.1)
    by_first (Some t, m) is e =
        let z = bind_is (run_in s most bytes m) (λ z. Ok (t ∷ z.0, z.1)) (ts, after) e in
        let same : t ∷ z.0.0 ≡ ts = ap (λ (x : List Tree × ℕ). x.0) (ok_is {F = ℕ} (t ∷ z.0.0, z.0.1) (ts, after) z.2) in
        absurd (cc (same, none))

no_data_at : (bytes : List ℕ) (at : ℕ) (after : ℕ) → data_in bytes at ≡ Ok (None, after) → (after ≡ at) × (if_code 117 (code_at bytes at) ≡ None)
unfolding data_in
no_data_at bytes at after e =
    let r = bind_is (run_in data_section (length bytes) bytes at) (λ r. Ok (more_data None r.0, r.1)) (None, after) e in
    let same = ok_is {F = ℕ} (more_data None r.0.0, r.0.1) (None, after) r.2 in
    let miss = run_missing data_section (length bytes) bytes at r.0.1 r.0.0 (no_code 117 bytes at) (none r.0.0 (ap (λ (x : Option (List ℕ) × ℕ). x.0) same)) r.1 in
    (sym (ap (λ (x : Option (List ℕ) × ℕ). x.1) same) ∙ miss.0, miss.1)
  where
    none : (ts : List Tree) → more_data None ts ≡ None → ts ≡ []
    none [] e = refl
    none (t ∷ ts) e = absurd (cc (all_data t ts, e))

no_sequence_at : (bytes : List ℕ) (at : ℕ) (after : ℕ) → sequences_in bytes at ≡ Ok (false, after) → (after ≡ at) × (if_code 118 (code_at bytes at) ≡ None)
unfolding sequences_in
no_sequence_at bytes at after e =
    let r = bind_is (run_in sequence_section (length bytes) bytes at) (λ r. Ok (any_more false r.0, r.1)) (false, after) e in
    let same = ok_is {F = ℕ} (any_more false r.0.0, r.0.1) (false, after) r.2 in
    let miss = run_missing sequence_section (length bytes) bytes at r.0.1 r.0.0 (no_code 118 bytes at) (none r.0.0 (ap (λ (x : Bool × ℕ). x.0) same)) r.1 in
    (sym (ap (λ (x : Bool × ℕ). x.1) same) ∙ miss.0, miss.1)
  where
    none : (ts : List Tree) → any_more false ts ≡ false → ts ≡ []
    none [] e = refl
    none (t ∷ ts) e = absurd (cc (all_found ts, e))

-- the codes of a body don't stand where none begins
abbrev NoBodyAt : List ℕ → ℕ → Type 0
NoBodyAt bytes at = (if_code 117 (code_at bytes at) ≡ None) × (if_code 118 (code_at bytes at) ≡ None) × (if_code 119 (code_at bytes at) ≡ None)

body_missing : (bytes : List ℕ) (at after : ℕ) → body_in bytes at ≡ Ok (None, after) → (after ≡ at) × NoBodyAt bytes at
unfolding body_in
body_missing bytes at after e =
    let d = bind_is (data_in bytes at) (no_data bytes) (None, after) e in
    by_data d.0 d.1 d.2
  where
    by_value : (m : ℕ) (v : Option Tree × ℕ) → section_in value_section bytes m ≡ Ok v → maybe_value v ≡ Ok (None, after) → (after ≡ m) × (if_code 119 (code_at bytes m) ≡ None)
    by_value m (None, k) is e =
        let same : k ≡ after = ap (λ (x : Option Body10 × ℕ). x.1) (ok_is {F = ℕ} (None, k) (None, after) e) in
        let miss = section_missing value_section bytes m k is in
        (sym same ∙ miss.0, miss.1)
    by_value m (Some t, k) is e = absurd (not_both (value_body t) after k (sym e))

    by_sequences : (m : ℕ) (x : Bool × ℕ) → sequences_in bytes m ≡ Ok x → no_sequence bytes x ≡ Ok (None, after) → (after ≡ m) × (if_code 118 (code_at bytes m) ≡ None) × (if_code 119 (code_at bytes m) ≡ None)
    by_sequences m (true, k) is e = absurd (not_both body.Other after k (sym e))
    by_sequences m (false, k) is e =
        let miss = no_sequence_at bytes m k is in
        let v = bind_is (section_in value_section bytes k) maybe_value (None, after) e in
        let value = by_value k v.0 v.1 v.2 in
        (value.0 ∙ miss.0, miss.1, subst (λ (n : ℕ). if_code 119 (code_at bytes n) ≡ None) miss.0 value.1)

    by_data : (x : Option (List ℕ) × ℕ) → data_in bytes at ≡ Ok x → no_data bytes x ≡ Ok (None, after) → (after ≡ at) × NoBodyAt bytes at
    by_data (Some s, k) is e = absurd (not_both (body.Data s) after k (sym e))
    by_data (None, k) is e =
        let miss = no_data_at bytes at k is in
        let q = bind_is (sequences_in bytes k) (no_sequence bytes) (None, after) e in
        let sequences = by_sequences k q.0 q.1 q.2 in
        (sequences.0 ∙ miss.0, (miss.1, subst (λ (n : ℕ). if_code 118 (code_at bytes n) ≡ None) miss.0 sequences.1, subst (λ (n : ℕ). if_code 119 (code_at bytes n) ≡ None) miss.0 sequences.2))

body_failed : (bytes : List ℕ) (at f : ℕ) → IsBytes bytes → body_in bytes at ≡ Err f → IsBodyFailed bytes at f
unfolding body_in data_in sequences_in
body_failed bytes at f fits e = elim (bind_fails (data_in bytes at) (no_data bytes) f e) [
  | inl h ↦ elim (bind_fails (run_in data_section (length bytes) bytes at) (λ r. Ok (more_data None r.0, r.1)) f h) [
    | inl k ↦ let r = run_failed data_section (length bytes) bytes at f fits k in data_failed bytes at f r.0 r.1 r.2
    | inr k ↦ absurd (cc k.2)
  ]
  | inr h ↦ by_data h.0 h.1 h.2
]
  where
    by_sequences : (m : ℕ) (x : Bool × ℕ) → m ≡ at → sequences_in bytes m ≡ Ok x → no_sequence bytes x ≡ Err f → IsBodyFailed bytes at f
    by_sequences m (true, k) here is e = absurd (cc e)
    by_sequences m (false, k) here is e =
        let miss = no_sequence_at bytes m k is in
        subst (λ (n : ℕ). IsBodyFailed bytes n f) (miss.0 ∙ here) (value_failed bytes k f fits e)

    by_data : (x : Option (List ℕ) × ℕ) → data_in bytes at ≡ Ok x → no_data bytes x ≡ Err f → IsBodyFailed bytes at f
    by_data (Some s, k) is e = absurd (cc e)
    by_data (None, k) is e =
        let miss = no_data_at bytes at k is in
        elim (bind_fails (sequences_in bytes k) (no_sequence bytes) f e) [
          | inl h ↦ elim (bind_fails (run_in sequence_section (length bytes) bytes k) (λ r. Ok (any_more false r.0, r.1)) f h) [
            | inl g ↦ let r = run_failed sequence_section (length bytes) bytes k f fits g in subst (λ (n : ℕ). IsBodyFailed bytes n f) miss.0 (sequence_failed bytes k f r.0 r.1 r.2)
            | inr g ↦ absurd (cc g.2)
          ]
          | inr h ↦ by_sequences k h.0 miss.0 h.1 h.2
        ]

-- ---- the place of the last section

abbrev parts : Option Tree → Option Tree → Option Tree → Option Tree → Option Tree → Option Body10 → Option Tree → ℕ → Sections
parts h d a p q b f at = record { header = h; delivery = d; annotations = a; properties = p; application = q; body = b; footer = f; after = at }

last_of_1 : (h : Option Tree) (at : ℕ) → last_rank (parts h None None None None None None at) ≤ 112
last_of_1 None at = omega arith
last_of_1 (Some x) at = omega arith

last_of_2 : (h d : Option Tree) (at : ℕ) → last_rank (parts h d None None None None None at) ≤ 113
last_of_2 h None at = omega (arith, last_of_1 h at)
last_of_2 h (Some x) at = omega arith

last_of_3 : (h d a : Option Tree) (at : ℕ) → last_rank (parts h d a None None None None at) ≤ 114
last_of_3 h d None at = omega (arith, last_of_2 h d at)
last_of_3 h d (Some x) at = omega arith

last_of_4 : (h d a p : Option Tree) (at : ℕ) → last_rank (parts h d a p None None None at) ≤ 115
last_of_4 h d a None at = omega (arith, last_of_3 h d a at)
last_of_4 h d a (Some x) at = omega arith

last_of_5 : (h d a p q : Option Tree) (at : ℕ) → last_rank (parts h d a p q None None at) ≤ 116
last_of_5 h d a p None at = omega (arith, last_of_4 h d a p at)
last_of_5 h d a p (Some x) at = omega arith

last_of_6 : (h d a p q : Option Tree) (b : Option Body10) (at : ℕ) → last_rank (parts h d a p q b None at) ≤ 117
last_of_6 h d a p q None at = omega (arith, last_of_5 h d a p q at)
last_of_6 h d a p q (Some x) at = omega arith

-- ---- sections that fail

-- sections up to one that has no value
without_value : (s : Sections) (t : Section) (bytes : List ℕ) (f : ℕ) → AreInOrder s bytes → s.after ≡ f → IsOfTable t → last_rank s ≤ rank t.0 → IsFailed t bytes f → IsFaultOf fault.Value f bytes
without_value s t bytes f order ends known le (middle, code, none) = (s, (order, ends, code.0), inr (t, known, middle, code, le, none))

-- the sections before the body, and a place behind them
record Front (bytes : List ℕ) (q : Option Tree × ℕ) : Type 0 where
  h : Option Tree
  d : Option Tree
  a : Option Tree
  p : Option Tree
  to_d : ℕ
  to_a : ℕ
  to_p : ℕ
  to_q : ℕ
  is_h : IsMaybeAt header_section h bytes 0 to_d
  is_d : IsMaybeAt delivery_section d bytes to_d to_a
  is_a : IsMaybeAt message_section a bytes to_a to_p
  is_p : IsMaybeAt properties_section p bytes to_p to_q
  is_q : IsMaybeAt application_section q.0 bytes to_q q.1

-- sections with a body, or without, and a footer, or without
with_front : (bytes : List ℕ) (q : Option Tree × ℕ) (f : Front bytes q) (b : Option Body10) (to_f : ℕ) (g : Option Tree) (end : ℕ)
    → IsBodyAt b bytes q.1 to_f → IsMaybeAt footer_section g bytes to_f end → AreInOrder (parts f.h f.d f.a f.p q.0 b g end) bytes
with_front bytes q f b to_f g end is_b is_g = record {
  delivery_from = f.to_d;
  annotations_from = f.to_a;
  properties_from = f.to_p;
  application_from = f.to_q;
  body_from = q.1;
  footer_from = to_f;
  header = f.is_h;
  delivery = f.is_d;
  annotations = f.is_a;
  properties = f.is_p;
  application = f.is_q;
  body = is_b;
  footer = is_g;
}

-- the same without a body and a footer
bare : (bytes : List ℕ) (q : Option Tree × ℕ) (f : Front bytes q) → AreInOrder (parts f.h f.d f.a f.p q.0 None None q.1) bytes
bare bytes q f = with_front bytes q f None q.1 None q.1 refl refl

header_failed : (bytes : List ℕ) (f : ℕ) → (f ≡ 0) × IsFailed header_section bytes 0 → IsFaultOf fault.Value f bytes
header_failed bytes f (here, failed) =
    let front : Front bytes (None, 0) = record { h = None; d = None; a = None; p = None; to_d = 0; to_a = 0; to_p = 0; to_q = 0; is_h = refl; is_d = refl; is_a = refl; is_p = refl; is_q = refl } in
    without_value (parts None None None None None None None 0) header_section bytes f (bare bytes (None, 0) front) (sym here) is_header (omega arith)
    (subst (λ (n : ℕ). IsFailed header_section bytes n) (sym here) failed)

delivery_failed : (bytes : List ℕ) (h : Option Tree × ℕ) (f : ℕ) → IsMaybeAt header_section h.0 bytes 0 h.1 → (f ≡ h.1) × IsFailed delivery_section bytes h.1 → IsFaultOf fault.Value f bytes
delivery_failed bytes h f is_h (here, failed) =
    let front : Front bytes (None, h.1) = record { h = h.0; d = None; a = None; p = None; to_d = h.1; to_a = h.1; to_p = h.1; to_q = h.1; is_h = is_h; is_d = refl; is_a = refl; is_p = refl; is_q = refl } in
    without_value (parts h.0 None None None None None None h.1) delivery_section bytes f (bare bytes (None, h.1) front) (sym here) is_delivery (omega (arith, last_of_1 h.0 h.1))
    (subst (λ (n : ℕ). IsFailed delivery_section bytes n) (sym here) failed)

message_failed : (bytes : List ℕ) (h d : Option Tree × ℕ) (f : ℕ) → IsMaybeAt header_section h.0 bytes 0 h.1 → IsMaybeAt delivery_section d.0 bytes h.1 d.1
    → (f ≡ d.1) × IsFailed message_section bytes d.1 → IsFaultOf fault.Value f bytes
message_failed bytes h d f is_h is_d (here, failed) =
    let front : Front bytes (None, d.1) = record { h = h.0; d = d.0; a = None; p = None; to_d = h.1; to_a = d.1; to_p = d.1; to_q = d.1; is_h = is_h; is_d = is_d; is_a = refl; is_p = refl; is_q = refl } in
    without_value (parts h.0 d.0 None None None None None d.1) message_section bytes f (bare bytes (None, d.1) front) (sym here) is_annotations (omega (arith, last_of_2 h.0 d.0 d.1))
    (subst (λ (n : ℕ). IsFailed message_section bytes n) (sym here) failed)

properties_failed : (bytes : List ℕ) (h d a : Option Tree × ℕ) (f : ℕ) → IsMaybeAt header_section h.0 bytes 0 h.1 → IsMaybeAt delivery_section d.0 bytes h.1 d.1 → IsMaybeAt message_section a.0 bytes d.1 a.1
    → (f ≡ a.1) × IsFailed properties_section bytes a.1 → IsFaultOf fault.Value f bytes
properties_failed bytes h d a f is_h is_d is_a (here, failed) =
    let front : Front bytes (None, a.1) = record { h = h.0; d = d.0; a = a.0; p = None; to_d = h.1; to_a = d.1; to_p = a.1; to_q = a.1; is_h = is_h; is_d = is_d; is_a = is_a; is_p = refl; is_q = refl } in
    without_value (parts h.0 d.0 a.0 None None None None a.1) properties_section bytes f (bare bytes (None, a.1) front) (sym here) is_properties (omega (arith, last_of_3 h.0 d.0 a.0 a.1))
    (subst (λ (n : ℕ). IsFailed properties_section bytes n) (sym here) failed)

application_failed : (bytes : List ℕ) (h d a p : Option Tree × ℕ) (f : ℕ) → IsMaybeAt header_section h.0 bytes 0 h.1 → IsMaybeAt delivery_section d.0 bytes h.1 d.1 → IsMaybeAt message_section a.0 bytes d.1 a.1
    → IsMaybeAt properties_section p.0 bytes a.1 p.1 → (f ≡ p.1) × IsFailed application_section bytes p.1 → IsFaultOf fault.Value f bytes
application_failed bytes h d a p f is_h is_d is_a is_p (here, failed) =
    let front : Front bytes (None, p.1) = record { h = h.0; d = d.0; a = a.0; p = p.0; to_d = h.1; to_a = d.1; to_p = a.1; to_q = p.1; is_h = is_h; is_d = is_d; is_a = is_a; is_p = is_p; is_q = refl } in
    without_value (parts h.0 d.0 a.0 p.0 None None None p.1) application_section bytes f (bare bytes (None, p.1) front) (sym here) is_application (omega (arith, last_of_4 h.0 d.0 a.0 p.0 p.1))
    (subst (λ (n : ℕ). IsFailed application_section bytes n) (sym here) failed)

inner_failed : (bytes : List ℕ) (q : Option Tree × ℕ) (f : ℕ) (front : Front bytes q) → IsBodyFailed bytes q.1 f → IsFaultOf fault.Value f bytes
inner_failed bytes q f front (b, stands, t, known, at_body, failed) =
    without_value (parts front.h front.d front.a front.p q.0 b None f) t bytes f (with_front bytes q front b f None f stands refl) refl known
    (omega (arith, at_body, last_of_6 front.h front.d front.a front.p q.0 b f)) failed

footer_failed : (bytes : List ℕ) (q : Option Tree × ℕ) (b : Option Body10 × ℕ) (f : ℕ) (front : Front bytes q) → IsBodyAt b.0 bytes q.1 b.1 → (f ≡ b.1) × IsFailed footer_section bytes b.1 → IsFaultOf fault.Value f bytes
footer_failed bytes q b f front stands (here, failed) =
    without_value (parts front.h front.d front.a front.p q.0 b.0 None b.1) footer_section bytes f (with_front bytes q front b.0 b.1 None b.1 stands refl) (sym here) is_footer
    (omega (arith, last_of_6 front.h front.d front.a front.p q.0 b.0 b.1)) (subst (λ (n : ℕ). IsFailed footer_section bytes n) (sym here) failed)

sections_failed : (bytes : List ℕ) (f : ℕ) → IsBytes bytes → sections_in bytes ≡ Err f → IsFaultOf fault.Value f bytes
unfolding sections_in
sections_failed bytes f fits e = elim (bind_fails (section_in header_section bytes 0) _ f e) [
  | inl k ↦ header_failed bytes f (section_failed header_section bytes 0 f fits k)
  | inr h ↦
      let is_h = maybe_found header_section bytes 0 h.0 fits h.1 in
      elim (bind_fails (section_in delivery_section bytes h.0.1) _ f h.2) [
        | inl k ↦ delivery_failed bytes h.0 f is_h (section_failed delivery_section bytes h.0.1 f fits k)
        | inr d ↦
            let is_d = maybe_found delivery_section bytes h.0.1 d.0 fits d.1 in
            elim (bind_fails (section_in message_section bytes d.0.1) _ f d.2) [
              | inl k ↦ message_failed bytes h.0 d.0 f is_h is_d (section_failed message_section bytes d.0.1 f fits k)
              | inr a ↦
                  let is_a = maybe_found message_section bytes d.0.1 a.0 fits a.1 in
                  elim (bind_fails (section_in properties_section bytes a.0.1) _ f a.2) [
                    | inl k ↦ properties_failed bytes h.0 d.0 a.0 f is_h is_d is_a (section_failed properties_section bytes a.0.1 f fits k)
                    | inr p ↦
                        let is_p = maybe_found properties_section bytes a.0.1 p.0 fits p.1 in
                        elim (bind_fails (section_in application_section bytes p.0.1) _ f p.2) [
                          | inl k ↦ application_failed bytes h.0 d.0 a.0 p.0 f is_h is_d is_a is_p (section_failed application_section bytes p.0.1 f fits k)
                          | inr q ↦
                              let is_q = maybe_found application_section bytes p.0.1 q.0 fits q.1 in
                              let front : Front bytes q.0 = record { h = h.0.0; d = d.0.0; a = a.0.0; p = p.0.0; to_d = h.0.1; to_a = d.0.1; to_p = a.0.1; to_q = p.0.1; is_h = is_h; is_d = is_d; is_a = is_a; is_p = is_p; is_q = is_q } in
                              elim (bind_fails (body_in bytes q.0.1) _ f q.2) [
                                | inl k ↦ inner_failed bytes q.0 f front (body_failed bytes q.0.1 f fits k)
                                | inr b ↦
                                    elim (bind_fails (section_in footer_section bytes b.0.1) _ f b.2) [
                                      | inl k ↦ footer_failed bytes q.0 b.0 f front (body_found bytes q.0.1 b.0 fits b.1) (section_failed footer_section bytes b.0.1 f fits k)
                                      | inr g ↦ absurd (cc g.2)
                                    ]
                              ]
                        ]
                  ]
            ]
      ]
]

-- ---- what stands behind the last section

other : (c n m : ℕ) (bytes : List ℕ) (at : ℕ) → if_code c (code_at bytes at) ≡ None → code_at bytes at ≡ Some (n, m) → n ≢ c
other c n m bytes at none is same =
    let there : if_code c (code_at bytes at) ≡ Some m = rw (is, eq-eqb n c same) refl in
    absurd (cc (there, none))

missing : (s : Section) (bytes : List ℕ) (at : ℕ) (x : Option Tree × ℕ) → section_in s bytes at ≡ Ok x → x.0 ≡ None → (x.1 ≡ at) × (if_code s.0 (code_at bytes at) ≡ None)
missing s bytes at (None, after) is none = section_missing s bytes at after is
missing s bytes at (Some t, after) is none = absurd (cc none)

missing_body : (bytes : List ℕ) (at : ℕ) (x : Option Body10 × ℕ) → body_in bytes at ≡ Ok x → x.0 ≡ None → (x.1 ≡ at) × NoBodyAt bytes at
missing_body bytes at (None, after) is none = body_missing bytes at after is
missing_body bytes at (Some t, after) is none = absurd (cc none)

not_equal : (n c : ℕ) → eqb n c ≡ false → n ≢ c
not_equal n c other same = absurd (cc (eq-eqb n c same, other))

-- a number that isn't the greatest one that it may be
below : (n k : ℕ) → n ≤ k + 1 → n ≢ k + 1 → n ≤ k
below n k le apart = at (ltb n (k + 1)) refl
  where
    at : (t : Bool) → ltb n (k + 1) ≡ t → n ≤ k
    at true t = omega (arith, ltb-true _ _ t)
    at false t = absurd (apart (omega (arith, ltb-false _ _ t, le)))

rank_low : (n : ℕ) → n ≤ 117 → rank n ≡ n
rank_low n le = rw (differs n 118 (λ same. absurd (omega (arith, same, le))), differs n 119 (λ same. absurd (omega (arith, same, le)))) refl

rank_most : (n : ℕ) → (rank n ≡ 117) ⊎ (rank n ≡ n)
rank_most n = by_first (eqb n 118) refl
  where
    by_second : (t : Bool) → eqb n 118 ≡ false → eqb n 119 ≡ t → (rank n ≡ 117) ⊎ (rank n ≡ n)
    by_second true a b = inl (rw (a, b) refl)
    by_second false a b = inr (rw (a, b) refl)

    by_first : (t : Bool) → eqb n 118 ≡ t → (rank n ≡ 117) ⊎ (rank n ≡ n)
    by_first true a = inl (rw a refl)
    by_first false a = by_second (eqb n 119) a refl

rank_body : (n : ℕ) → n ≤ 119 → rank n ≤ 117
rank_body n le = by_first (eqb n 118) refl
  where
    by_second : (t : Bool) → eqb n 118 ≡ false → eqb n 119 ≡ t → rank n ≤ 117
    by_second true a b = let c : rank n ≡ 117 = rw (a, b) refl in omega (arith, c)
    by_second false a b =
        let c : rank n ≡ n = rw (a, b) refl in
        omega (arith, c, below n 117 (below n 118 le (not_equal n 119 b)) (not_equal n 118 a))

    by_first : (t : Bool) → eqb n 118 ≡ t → rank n ≤ 117
    by_first true a = let c : rank n ≡ 117 = rw a refl in omega (arith, c)
    by_first false a = by_second (eqb n 119) a refl

rank_top : (n : ℕ) → n ≤ 120 → rank n ≤ 120
rank_top n le = elim (rank_most n) [
  | inl h ↦ omega (arith, h)
  | inr h ↦ omega (arith, h, le)
]

-- the code behind sections isn't one of those that were looked for, so its place isn't past the last
not_past : (h d a p q : Option Tree) (b : Option Body10) (g : Option Tree) (at n : ℕ) → IsKnown n → (g ≡ None → n ≢ 120) → (g ≡ None → b ≡ None → (n ≢ 117) × (n ≢ 118) × (n ≢ 119))
    → (g ≡ None → b ≡ None → q ≡ None → n ≢ 116) → (g ≡ None → b ≡ None → q ≡ None → p ≡ None → n ≢ 115) → (g ≡ None → b ≡ None → q ≡ None → p ≡ None → a ≡ None → n ≢ 114)
    → (g ≡ None → b ≡ None → q ≡ None → p ≡ None → a ≡ None → d ≡ None → n ≢ 113) → (g ≡ None → b ≡ None → q ≡ None → p ≡ None → a ≡ None → d ≡ None → h ≡ None → n ≢ 112)
    → rank n ≤ last_rank (parts h d a p q b g at)
not_past h d a p q b (Some x) at n known ng nb nq np na nd nh = rank_top n known.1
not_past h d a p q (Some x) None at n known ng nb nq np na nd nh = rank_body n (below n 119 known.1 (ng refl))
not_past h d a p (Some x) None None at n known ng nb nq np na nd nh =
    let c = nb refl refl in
    let le : n ≤ 116 = below n 116 (below n 117 (below n 118 (below n 119 known.1 (ng refl)) c.2) c.1) c.0 in
    omega (arith, rank_low n (omega (arith, le)), le)
not_past h d a (Some x) None None None at n known ng nb nq np na nd nh =
    let c = nb refl refl in
    let le : n ≤ 115 = below n 115 (below n 116 (below n 117 (below n 118 (below n 119 known.1 (ng refl)) c.2) c.1) c.0) (nq refl refl refl) in
    omega (arith, rank_low n (omega (arith, le)), le)
not_past h d (Some x) None None None None at n known ng nb nq np na nd nh =
    let c = nb refl refl in
    let le : n ≤ 114 = below n 114 (below n 115 (below n 116 (below n 117 (below n 118 (below n 119 known.1 (ng refl)) c.2) c.1) c.0) (nq refl refl refl)) (np refl refl refl refl) in
    omega (arith, rank_low n (omega (arith, le)), le)
not_past h (Some x) None None None None None at n known ng nb nq np na nd nh =
    let c = nb refl refl in
    let le : n ≤ 113 = below n 113 (below n 114 (below n 115 (below n 116 (below n 117 (below n 118 (below n 119 known.1 (ng refl)) c.2) c.1) c.0) (nq refl refl refl)) (np refl refl refl refl)) (na refl refl refl refl refl) in
    omega (arith, rank_low n (omega (arith, le)), le)
not_past (Some x) None None None None None None at n known ng nb nq np na nd nh =
    let c = nb refl refl in
    let le : n ≤ 112 = below n 112 (below n 113 (below n 114 (below n 115 (below n 116 (below n 117 (below n 118 (below n 119 known.1 (ng refl)) c.2) c.1) c.0) (nq refl refl refl)) (np refl refl refl refl)) (na refl refl refl refl refl)) (nd refl refl refl refl refl refl) in
    omega (arith, rank_low n (omega (arith, le)), le)
not_past None None None None None None None at n known ng nb nq np na nd nh =
    let c = nb refl refl in
    let le : n ≤ 111 = below n 111 (below n 112 (below n 113 (below n 114 (below n 115 (below n 116 (below n 117 (below n 118 (below n 119 known.1 (ng refl)) c.2) c.1) c.0) (nq refl refl refl)) (np refl refl refl refl)) (na refl refl refl refl refl)) (nd refl refl refl refl refl refl)) (nh refl refl refl refl refl refl refl) in
    absurd (omega (arith, le, known.0))

last_above : (bytes : List ℕ) (s : Sections) (n m : ℕ) → sections_in bytes ≡ Ok s → code_at bytes s.after ≡ Some (n, m) → IsKnown n → rank n ≤ last_rank s
unfolding sections_in
last_above bytes s n m e is known =
    let h = bind_is (section_in header_section bytes 0) _ s e in
    let d = bind_is (section_in delivery_section bytes h.0.1) _ s h.2 in
    let a = bind_is (section_in message_section bytes d.0.1) _ s d.2 in
    let p = bind_is (section_in properties_section bytes a.0.1) _ s a.2 in
    let q = bind_is (section_in application_section bytes p.0.1) _ s p.2 in
    let b = bind_is (body_in bytes q.0.1) _ s q.2 in
    let g = bind_is (section_in footer_section bytes b.0.1) _ s b.2 in
    let all = parts h.0.0 d.0.0 a.0.0 p.0.0 q.0.0 b.0.0 g.0.0 g.0.1 in
    let same : all ≡ s = ok_is {F = ℕ} all s g.2 in
    let there : code_at bytes g.0.1 ≡ Some (n, m) = ap (λ (x : Sections). code_at bytes x.after) same ∙ is in
    let at_b = λ (eg : g.0.0 ≡ None). (missing footer_section bytes b.0.1 g.0 g.1 eg) in
    let from_b = λ (eg : g.0.0 ≡ None). ap (code_at bytes) (sym (at_b eg).0) ∙ there in
    let at_q = λ (eb : b.0.0 ≡ None). (missing_body bytes q.0.1 b.0 b.1 eb) in
    let from_q = λ (eg : g.0.0 ≡ None) (eb : b.0.0 ≡ None). ap (code_at bytes) (sym (at_q eb).0) ∙ from_b eg in
    let at_p = λ (eq : q.0.0 ≡ None). (missing application_section bytes p.0.1 q.0 q.1 eq) in
    let from_p = λ (eg : g.0.0 ≡ None) (eb : b.0.0 ≡ None) (eq : q.0.0 ≡ None). ap (code_at bytes) (sym (at_p eq).0) ∙ from_q eg eb in
    let at_a = λ (ep : p.0.0 ≡ None). (missing properties_section bytes a.0.1 p.0 p.1 ep) in
    let from_a = λ (eg : g.0.0 ≡ None) (eb : b.0.0 ≡ None) (eq : q.0.0 ≡ None) (ep : p.0.0 ≡ None). ap (code_at bytes) (sym (at_a ep).0) ∙ from_p eg eb eq in
    let at_d = λ (ea : a.0.0 ≡ None). (missing message_section bytes d.0.1 a.0 a.1 ea) in
    let from_d = λ (eg : g.0.0 ≡ None) (eb : b.0.0 ≡ None) (eq : q.0.0 ≡ None) (ep : p.0.0 ≡ None) (ea : a.0.0 ≡ None). ap (code_at bytes) (sym (at_d ea).0) ∙ from_a eg eb eq ep in
    let at_h = λ (ed : d.0.0 ≡ None). (missing delivery_section bytes h.0.1 d.0 d.1 ed) in
    let from_h = λ (eg : g.0.0 ≡ None) (eb : b.0.0 ≡ None) (eq : q.0.0 ≡ None) (ep : p.0.0 ≡ None) (ea : a.0.0 ≡ None) (ed : d.0.0 ≡ None). ap (code_at bytes) (sym (at_h ed).0) ∙ from_d eg eb eq ep ea in
    let at_0 = λ (eh : h.0.0 ≡ None). (missing header_section bytes 0 h.0 h.1 eh) in
    let from_0 = λ (eg : g.0.0 ≡ None) (eb : b.0.0 ≡ None) (eq : q.0.0 ≡ None) (ep : p.0.0 ≡ None) (ea : a.0.0 ≡ None) (ed : d.0.0 ≡ None) (eh : h.0.0 ≡ None). ap (code_at bytes) (sym (at_0 eh).0) ∙ from_h eg eb eq ep ea ed in
    subst (λ (x : Sections). rank n ≤ last_rank x) same
    (not_past h.0.0 d.0.0 a.0.0 p.0.0 q.0.0 b.0.0 g.0.0 g.0.1 n known
    (λ eg. other 120 n m bytes b.0.1 (at_b eg).1 (from_b eg))
    (λ eg eb. (other 117 n m bytes q.0.1 (at_q eb).1.0 (from_q eg eb), other 118 n m bytes q.0.1 (at_q eb).1.1 (from_q eg eb), other 119 n m bytes q.0.1 (at_q eb).1.2 (from_q eg eb)))
    (λ eg eb eq. other 116 n m bytes p.0.1 (at_p eq).1 (from_p eg eb eq))
    (λ eg eb eq ep. other 115 n m bytes a.0.1 (at_a ep).1 (from_a eg eb eq ep))
    (λ eg eb eq ep ea. other 114 n m bytes d.0.1 (at_d ea).1 (from_d eg eb eq ep ea))
    (λ eg eb eq ep ea ed. other 113 n m bytes h.0.1 (at_h ed).1 (from_h eg eb eq ep ea ed))
    (λ eg eb eq ep ea ed eh. other 112 n m bytes 0 (at_0 eh).1 (from_0 eg eb eq ep ea ed eh)))

-- ---- messages

abbrev told : SectionFault → ℕ → At SectionFault
told f at = record { fault = f; at = at }

abbrev failed : At SectionFault → Result Kept (At SectionFault)
failed e = Err e

failed_is : (d e : At SectionFault) → failed d ≡ failed e → d ≡ e
failed_is d e h = cc

pub fault_is : (bytes : List ℕ) (e : At SectionFault) → IsBytes bytes → message_in bytes ≡ Err e → IsFault bytes e
fault_is bytes e fits h = by_sections (sections_in bytes) refl h
  where
    -- the code behind the last section
    by_place : (s : Sections) (n m : ℕ) (t : Bool) → ltb (rank n) (last_rank s) ≡ t → sections_in bytes ≡ Ok s → s.after < length bytes → code_at bytes s.after ≡ Some (n, m) → IsKnown n
        → IsFault bytes (told (cond t fault.Order fault.Repeated) s.after)
    by_place s n m true t read more is known = (s, (sections_found bytes s fits read, refl, more), n, m, code_found bytes s.after (n, m) fits is, known, ltb-true _ _ t)
    by_place s n m false t read more is known =
        (s, (sections_found bytes s fits read, refl, more), n, m, code_found bytes s.after (n, m) fits is, known, omega (arith, ltb-false _ _ t, last_above bytes s n m read is known))

    one_code : (s : Sections) (n m : ℕ) → code_at bytes s.after ≡ Some (n, m) → (IsKnown n → ⊥) → IsNoSection bytes s.after
    one_code s n m is unknown code middle stands known =
        let same : (n, m) ≡ (code, middle) = cc (is, code_read code bytes s.after middle stands) in
        unknown (subst (λ (c : ℕ × ℕ). IsKnown c.0) (sym same) known)

    by_top : (s : Sections) (n m : ℕ) (t : Bool) → leb n 120 ≡ t → 112 ≤ n → sections_in bytes ≡ Ok s → s.after < length bytes → code_at bytes s.after ≡ Some (n, m)
        → IsFault bytes (told (cond t (cond (ltb (rank n) (last_rank s)) fault.Order fault.Repeated) fault.Value) s.after)
    by_top s n m true t low read more is = by_place s n m (ltb (rank n) (last_rank s)) refl read more is (low, leb-true _ _ t)
    by_top s n m false t low read more is =
        (s, (sections_found bytes s fits read, refl, more), inl (one_code s n m is (λ known. absurd (omega (arith, known.1, leb-false _ _ t)))))

    by_known : (s : Sections) (n m : ℕ) (t : Bool) → leb 112 n ≡ t → sections_in bytes ≡ Ok s → s.after < length bytes → code_at bytes s.after ≡ Some (n, m)
        → IsFault bytes (told (cond (t && leb n 120) (cond (ltb (rank n) (last_rank s)) fault.Order fault.Repeated) fault.Value) s.after)
    by_known s n m true t read more is = by_top s n m (leb n 120) refl (leb-true _ _ t) read more is
    by_known s n m false t read more is =
        (s, (sections_found bytes s fits read, refl, more), inl (one_code s n m is (λ known. absurd (omega (arith, known.0, leb-false _ _ t)))))

    by_code : (s : Sections) (o : Option (ℕ × ℕ)) → code_at bytes s.after ≡ o → sections_in bytes ≡ Ok s → s.after < length bytes → IsFault bytes (told (fault_of (last_rank s) o) s.after)
    by_code s None is read more =
        (s, (sections_found bytes s fits read, refl, more), inl (λ code middle stands known. absurd (cc (is, code_read code bytes s.after middle stands))))
    by_code s (Some (n, m)) is read more = by_known s n m (leb 112 n) refl read more is

    by_body : (s : Sections) (o : Option Body10) → s.body ≡ o → sections_in bytes ≡ Ok s → length bytes ≤ s.after → kept_in s o ≡ Err e → IsFault bytes e
    by_body s (Some b) is read end h = absurd (cc h)
    by_body s None is read end h =
        let order = sections_found bytes s fits read in
        let all : s.after ≡ length bytes = omega (arith, end, order_ends s bytes order) in
        subst (IsFault bytes) (failed_is (told fault.NoBody s.after) e h) (s, order, all, is, all)

    by_end : (s : Sections) (t : Bool) → ltb s.after (length bytes) ≡ t → sections_in bytes ≡ Ok s
        → cond t (Err (told (fault_of (last_rank s) (code_at bytes s.after)) s.after)) (kept_in s s.body) ≡ Err e → IsFault bytes e
    by_end s true t read h = subst (IsFault bytes) (failed_is (told (fault_of (last_rank s) (code_at bytes s.after)) s.after) e h) (by_code s (code_at bytes s.after) refl read (ltb-true _ _ t))
    by_end s false t read h = by_body s s.body refl read (ltb-false _ _ t) h

    by_sections : (r : Result Sections ℕ) → sections_in bytes ≡ r → whole bytes r ≡ Err e → IsFault bytes e
    by_sections (Err at) read h = subst (IsFault bytes) (failed_is (told fault.Value at) e h) (sections_failed bytes at fits read)
    by_sections (Ok s) read h = by_end s (ltb s.after (length bytes)) refl read h

pub fault_by : (bytes : List ℕ) (read : Result Message10 (At SectionFault)) → IsBytes bytes → seen read ≡ message_in bytes → IfErr read (IsFault bytes)
fault_by bytes (Ok m) fits e = tt
fault_by bytes (Err d) fits e = fault_is bytes d fits (sym e)
