-- Readers against faults: the fault that is read is there, and a fault that is there is read.
use Rattle.std.proofs.Common.{◌≡◌, ◌≢◌, ◌⊎◌, inl, inr, ℕ, zero, suc, ◌-◌, ◌<◌, ◌≤◌, Bool, true}
use Rattle.std.proofs.Common.{false, cond, ltb, List, [], ◌∷◌, ◌++◌, length, take, drop, Result, Ok}
use Rattle.std.proofs.Common.{Err, refl, sym, ap, subst, ◌∙◌, append_assoc, arith}
use Rattle.std.proofs.lemmas.Bool.{ltb-true, ltb-false, lt-ltb, le-ltb}
use Rattle.std.proofs.lemmas.List.{length-append, length-drop}
use Rattle.std.specs.Int.{Width, byte_len, from_be_bytes}
use Rattle.wire_base.specs.Bytes.{IsBytes}
use Rattle.wire_base.specs.Faults.{Faults, IsNumberCut, IsTextFault, IsPairFault, IsItemsFault}
use Rattle.wire_base.specs.Faults.{IsContainerFault, IsTimesFault}
use Rattle.wire_base.specs.Reading.{Reads, ◌>>=◌, made, pair_in, number_in, text_in, many}
use Rattle.wire_base.specs.Reading.{all_items, container_in, times}
use Rattle.wire_base.specs.Spelling.{IsText, IsItems}
use Rattle.wire_base.proofs.Items.{Shrinks, reader_shrinks, text_bytes}
use Rattle.wire_base.proofs.Laws.{IsReader, IsWide, text_reader}

-- ---- steps

abbrev pub failed : {F : Type 0} (A : Type 0) → F → Result A F
failed A e = Err e

pub err_is : {A F : Type 0} (d e : F) → failed A d ≡ failed A e → d ≡ e
err_is d e h = cc

-- a step that failed, at once or behind its first part
pub bind_fails : {A B F : Type 0} (r : Result A F) (f : A → Result B F) (e : F) → (r >>= f) ≡ Err e → (r ≡ Err e) ⊎ ((x : A) × (r ≡ Ok x) × (f x ≡ Err e))
bind_fails (Ok x) f e h = inr (x, refl, h)
bind_fails {A} {B} {F} (Err d) f e h = inl (ap (λ (x : F). failed A x) (err_is {A = B} d e h))

-- a test that failed, or did not
pub guard_fails : {A F : Type 0} (b : Bool) (d : F) (r : Result A F) (e : F) → cond b (Err d) r ≡ Err e → ((b ≡ true) × (e ≡ d)) ⊎ ((b ≡ false) × (r ≡ Err e))
guard_fails {A} true d r e h = inl (refl, sym (err_is {A = A} d e h))
guard_fails false d r e h = inr (refl, h)

-- ---- the faults that a reader tells

-- the fault that is read is there, and a fault that is there is read
pub record TellsFaults {A F : Type 0} (Fault : Faults F) (read : ℕ → List ℕ → Reads A F) : Type 0 where
  pub found : (end : ℕ) (text : List ℕ) (f : F) → IsBytes text → read end text ≡ Err f → Fault end text f
  pub told : (end : ℕ) (text : List ℕ) (f : F) → Fault end text f → read end text ≡ Err f

pub made_faults : {A B F : Type 0} (make : A → B) (Fault : Faults F) (read : ℕ → List ℕ → Reads A F) → TellsFaults Fault read → TellsFaults Fault (λ end text. made make (read end text))
made_faults {A} {B} {F} make Fault read t = record { found = found; told = told }
  where
    found : (end : ℕ) (text : List ℕ) (f : F) → IsBytes text → made make (read end text) ≡ Err f → Fault end text f
    found end text f fits e = elim (bind_fails (read end text) (λ x. Ok (make x.0, x.1)) f e) [
      | inl h ↦ t.found end text f fits h
      | inr h ↦ absurd (cc h.2)
    ]

    told : (end : ℕ) (text : List ℕ) (f : F) → Fault end text f → made make (read end text) ≡ Err f
    told end text f h = rw (t.told end text f h) refl

-- ---- numbers and texts

pub number_faults : {F : Type 0} (fault : ℕ → F) (w : Width) → TellsFaults (IsNumberCut fault w) (number_in fault w)
number_faults {F} fault w = record { found = found; told = told }
  where
    found : (end : ℕ) (text : List ℕ) (f : F) → IsBytes text → number_in fault w end text ≡ Err f → IsNumberCut fault w end text f
    found end text f fits e = elim (guard_fails (ltb (length text) (byte_len w)) (fault (end - length text)) (Ok (from_be_bytes w (take (byte_len w) text), drop (byte_len w) text)) f e) [
      | inl h ↦ (ltb-true _ _ h.0, h.1)
      | inr h ↦ absurd (cc h.1)
    ]

    told : (end : ℕ) (text : List ℕ) (f : F) → IsNumberCut fault w end text f → number_in fault w end text ≡ Err f
    told end text f h = rw (lt-ltb _ _ h.0, h.1) refl

-- the text behind its length
abbrev behind_length : {F : Type 0} → (ℕ → F) → ℕ → List ℕ → ℕ × List ℕ → Reads (List ℕ) F
behind_length fault end text n = cond (ltb (length n.1) n.0) (Err (fault (end - length text))) (Ok (take n.0 n.1, drop n.0 n.1))

pub text_faults : {F : Type 0} (fault : ℕ → F) (w : Width) → TellsFaults (IsTextFault fault w) (text_in fault w)
unfolding text_in
text_faults {F} fault w = record { found = found; told = told }
  where
    passed : (end : ℕ) (text : List ℕ) (f : F) → byte_len w ≤ length text
        → behind_length fault end text (from_be_bytes w (take (byte_len w) text), drop (byte_len w) text) ≡ Err f → IsTextFault fault w end text f
    passed end text f there e = elim (guard_fails (ltb (length (drop (byte_len w) text)) (from_be_bytes w (take (byte_len w) text))) (fault (end - length text)) _ f e) [
      | inl h ↦ inr ((there, omega (arith, ltb-true _ _ h.0, length-drop (byte_len w) text)), h.1)
      | inr h ↦ absurd (cc h.1)
    ]

    at : (end : ℕ) (text : List ℕ) (f : F) (b : Bool) → ltb (length text) (byte_len w) ≡ b
        → (cond {A = Reads ℕ F} b (Err (fault (end - length text))) (Ok (from_be_bytes w (take (byte_len w) text), drop (byte_len w) text)) >>= behind_length fault end text) ≡ Err f
        → IsTextFault fault w end text f
    at end text f true b e = inl (ltb-true _ _ b, sym (err_is {A = List ℕ × List ℕ} (fault (end - length text)) f e))
    at end text f false b e = passed end text f (ltb-false _ _ b) e

    found : (end : ℕ) (text : List ℕ) (f : F) → IsBytes text → text_in fault w end text ≡ Err f → IsTextFault fault w end text f
    found end text f fits e = at end text f (ltb (length text) (byte_len w)) refl e

    told : (end : ℕ) (text : List ℕ) (f : F) → IsTextFault fault w end text f → text_in fault w end text ≡ Err f
    told end text f (inl h) = rw (lt-ltb _ _ h.0, h.1) refl
    told end text f (inr h) =
        let there : ltb (length text) (byte_len w) ≡ false = le-ltb _ _ h.0.0 in
        let long : ltb (length (drop (byte_len w) text)) (from_be_bytes w (take (byte_len w) text)) ≡ true = lt-ltb _ _ (omega (arith, h.0.0, h.0.1, length-drop (byte_len w) text)) in
        rw (there, long, h.1) refl

-- ---- pairs

-- the second value behind the first, and the items before what is left
abbrev with_first : {A B F : Type 0} → A → B × List ℕ → Reads (A × B) F
with_first x b = Ok ((x, b.0), b.1)

abbrev before_rest : {A F : Type 0} → List ℕ → List A → Reads (List A) F
before_rest rest items = Ok (items, rest)

pub pair_faults : {A B F : Type 0} (First Second : Faults F) (R : A → List ℕ → Type 0) (read : ℕ → List ℕ → Reads A F) (more : ℕ → List ℕ → Reads B F) → IsReader R read → TellsFaults First read → TellsFaults Second more
    → TellsFaults (IsPairFault First R Second) (pair_in read more)
pair_faults {A} {B} {F} First Second R read more r t u = record { found = found; told = told }
  where
    behind : (end : ℕ) (text : List ℕ) (f : F) (x : A × List ℕ) → IsBytes text → read end text ≡ Ok x → (more end x.1 >>= with_first x.0) ≡ Err f → IsPairFault First R Second end text f
    behind end text f x fits is e =
        let s = r.finds end text x fits is in
        elim (bind_fails (more end x.1) (with_first x.0) f e) [
          | inl h ↦ inr (x.0, s.front, x.1, s.spelled, s.parts, u.found end x.1 f s.rest_fits h)
          | inr h ↦ absurd (cc h.2)
        ]

    found : (end : ℕ) (text : List ℕ) (f : F) → IsBytes text → pair_in read more end text ≡ Err f → IsPairFault First R Second end text f
    found end text f fits e = elim (bind_fails (read end text) (λ a. more end a.1 >>= with_first a.0) f e) [
      | inl h ↦ inl (t.found end text f fits h)
      | inr h ↦ behind end text f h.0 fits h.1 h.2
    ]

    told : (end : ℕ) (text : List ℕ) (f : F) → IsPairFault First R Second end text f → pair_in read more end text ≡ Err f
    told end text f (inl h) = rw (t.told end text f h) refl
    told end text f (inr h) =
        let first : read end text ≡ Ok (h.0, h.2) = ap (read end) h.4 ∙ r.again end h.0 h.1 h.2 h.3 in
        rw (first, u.told end h.2 f h.5) refl

-- ---- items

-- one more item before those that are spelled so
behind_one : {A F : Type 0} (R : A → List ℕ → Type 0) (Fault : Faults F) (end : ℕ) (text front rest : List ℕ) (x : A) (f : F) → R x front → text ≡ front ++ rest → IsItemsFault R Fault end rest f → IsItemsFault R Fault end text f
behind_one R Fault end text front rest x f spelled parts (xs, fronts, more, items, behind, fault) =
    (x ∷ xs, front ++ fronts, more, (front, fronts, spelled, items, refl), parts ∙ ap (λ (t : List ℕ). front ++ t) behind ∙ sym (append_assoc front fronts more), fault)

many_fault : {A F : Type 0} (fault : ℕ → F) (Fault : Faults F) (R : A → List ℕ → Type 0) (read : ℕ → List ℕ → Reads A F) → IsReader R read → TellsFaults Fault read → (end : ℕ) → Shrinks (read end)
    → (n : ℕ) (text : List ℕ) (f : F) → IsBytes text → length text ≤ n → many fault read end n text ≡ Err f → IsItemsFault R Fault end text f
many_fault fault Fault R read r t end s n [] f fits le e = absurd cc
many_fault fault Fault R read r t end s zero (b ∷ bs) f fits le e = absurd (omega arith)
many_fault {A} {F} fault Fault R read r t end s (suc n) (b ∷ bs) f fits le e =
    elim (bind_fails (read end (b ∷ bs)) (λ x. many fault read end n x.1 >>= λ xs. Ok (x.0 ∷ xs)) f e) [
      | inl h ↦ ([], [], b ∷ bs, refl, refl, ((λ none. absurd cc), t.found end (b ∷ bs) f fits h))
      | inr h ↦ later h.0 h.1 h.2 (λ rest fits le e. many_fault fault Fault R read r t end s n rest f fits le e)
    ]
  where
    later : (x : A × List ℕ) → read end (b ∷ bs) ≡ Ok x → (many fault read end n x.1 >>= λ xs. Ok (x.0 ∷ xs)) ≡ Err f
        → ((rest : List ℕ) → IsBytes rest → length rest ≤ n → many fault read end n rest ≡ Err f → IsItemsFault R Fault end rest f) → IsItemsFault R Fault end (b ∷ bs) f
    later x is h ih =
        let less = s.by (b ∷ bs) x fits is in
        let g = r.finds end (b ∷ bs) x fits is in
        elim (bind_fails (many fault read end n x.1) (λ xs. Ok (x.0 ∷ xs)) f h) [
          | inl k ↦ behind_one R Fault end (b ∷ bs) g.front x.1 x.0 f g.spelled g.parts (ih x.1 less.1 (omega arith) k)
          | inr k ↦ absurd (cc k.2)
        ]

many_told : {A F : Type 0} (fault : ℕ → F) (Fault : Faults F) (R : A → List ℕ → Type 0) (read : ℕ → List ℕ → Reads A F) → IsReader R read → TellsFaults Fault read → ((a : A) (text : List ℕ) → R a text → 0 < length text) → (end : ℕ)
    → (n : ℕ) (xs : List A) (text front rest : List ℕ) (f : F) → length text ≤ n → IsItems R xs front → text ≡ front ++ rest → rest ≢ [] → Fault end rest f → many fault read end n text ≡ Err f
many_told fault Fault R read r t filled end n [] [] front rest f le items parts some h = absurd (some (sym (parts ∙ ap (λ (t : List ℕ). t ++ rest) items)))
many_told fault Fault R read r t filled end zero [] (b ∷ bs) front rest f le items parts some h = absurd (omega arith)
many_told fault Fault R read r t filled end (suc n) [] (b ∷ bs) front rest f le items parts some h =
    let whole : b ∷ bs ≡ rest = parts ∙ ap (λ (t : List ℕ). t ++ rest) items in
    let fails : read end (b ∷ bs) ≡ Err f = ap (read end) whole ∙ t.told end rest f h in
    rw fails refl
many_told fault Fault R read r t filled end n (x ∷ xs) [] front rest f le items parts some h =
    absurd (omega (arith, filled x items.0 items.2, ap length parts, length-append front rest, ap length items.4, length-append items.0 items.1))
many_told fault Fault R read r t filled end zero (x ∷ xs) (b ∷ bs) front rest f le items parts some h = absurd (omega arith)
many_told {A} fault Fault R read r t filled end (suc n) (x ∷ xs) (b ∷ bs) front rest f le items parts some h =
    let regrouped : b ∷ bs ≡ items.0 ++ (items.1 ++ rest) = parts ∙ ap (λ (t : List ℕ). t ++ rest) items.4 ∙ append_assoc items.0 items.1 rest in
    let first : read end (b ∷ bs) ≡ Ok (x, items.1 ++ rest) = ap (read end) regrouped ∙ r.again end x items.0 (items.1 ++ rest) items.2 in
    let fewer : length (items.1 ++ rest) ≤ n = omega (arith, filled x items.0 items.2, ap length regrouped, length-append items.0 (items.1 ++ rest)) in
    rw (first, many_told fault Fault R read r t filled end n xs (items.1 ++ rest) items.1 rest f fewer items.3 refl some h) refl

-- items that fill bytes, where no item is spelled by nothing
pub items_faults : {A F : Type 0} (fault : ℕ → F) (Fault : Faults F) (R : A → List ℕ → Type 0) (read : ℕ → List ℕ → Reads A F) → IsReader R read → TellsFaults Fault read → ((a : A) (text : List ℕ) → R a text → 0 < length text)
    → (end : ℕ) (text : List ℕ) (f : F) → (IsBytes text → all_items fault read end text ≡ Err f → IsItemsFault R Fault end text f) × (IsItemsFault R Fault end text f → all_items fault read end text ≡ Err f)
unfolding all_items
items_faults fault Fault R read r t filled end text f = (
  (λ fits e. many_fault fault Fault R read r t end (reader_shrinks R read r filled end) (length text) text f fits (omega arith) e),
  (λ h. many_told fault Fault R read r t filled end (length text) h.0 text h.1 h.2 f (omega arith) h.3 h.4 h.5.0 h.5.1),
)

-- a container: its length, and the items inside
pub container_faults : {A F : Type 0} (fault : ℕ → F) (w : Width) → IsWide w → (Fault : Faults F) (R : A → List ℕ → Type 0) (read : ℕ → List ℕ → Reads A F) → IsReader R read → TellsFaults Fault read
    → ((a : A) (text : List ℕ) → R a text → 0 < length text) → TellsFaults (IsContainerFault fault w R Fault) (container_in fault w read)
container_faults {A} {F} fault w wide Fault R read r t filled = record { found = found; told = told }
  where
    texts : IsReader (IsText w) (text_in fault w)
    texts = text_reader fault w wide

    inside : (end : ℕ) (text : List ℕ) (f : F) (body : List ℕ × List ℕ) → IsBytes text → text_in fault w end text ≡ Ok body
        → (all_items fault read (end - length body.1) body.0 >>= before_rest body.1) ≡ Err f → IsContainerFault fault w R Fault end text f
    inside end text f body fits is e =
        let g = texts.finds end text body fits is in
        let bytes = text_bytes w body.0 g.front body.1 (subst IsBytes g.parts fits) g.spelled in
        elim (bind_fails (all_items fault read (end - length body.1) body.0) (before_rest body.1) f e) [
          | inl h ↦ inr (body.0, g.front, body.1, g.spelled, g.parts, (items_faults fault Fault R read r t filled (end - length body.1) body.0 f).0 bytes h)
          | inr h ↦ absurd (cc h.2)
        ]

    found : (end : ℕ) (text : List ℕ) (f : F) → IsBytes text → container_in fault w read end text ≡ Err f → IsContainerFault fault w R Fault end text f
    found end text f fits e = elim (bind_fails (text_in fault w end text) (λ body. all_items fault read (end - length body.1) body.0 >>= before_rest body.1) f e) [
      | inl h ↦ inl ((text_faults fault w).found end text f fits h)
      | inr h ↦ inside end text f h.0 fits h.1 h.2
    ]

    told : (end : ℕ) (text : List ℕ) (f : F) → IsContainerFault fault w R Fault end text f → container_in fault w read end text ≡ Err f
    told end text f (inl h) = rw ((text_faults fault w).told end text f h) refl
    told end text f (inr h) =
        let body : text_in fault w end text ≡ Ok (h.0, h.2) = ap (text_in fault w end) h.4 ∙ texts.again end h.0 h.1 h.2 h.3 in
        rw (body, (items_faults fault Fault R read r t filled (end - length h.2) h.0 f).1 h.5) refl

-- ---- so many items

-- an item before those that were read behind it
abbrev onto : {A F : Type 0} → A → List A × List ℕ → Reads (List A) F
onto x xs = Ok (x ∷ xs.0, xs.1)

times_found : {A F : Type 0} (Fault : Faults F) (R : A → List ℕ → Type 0) (read : ℕ → List ℕ → Reads A F) → IsReader R read → TellsFaults Fault read
    → (count end : ℕ) (text : List ℕ) (f : F) → IsBytes text → times (read end) count text ≡ Err f → IsTimesFault R Fault count end text f
unfolding times
times_found Fault R read r t zero end text f fits e = absurd cc
times_found {A} {F} Fault R read r t (suc count) end text f fits e =
    elim (bind_fails (read end text) (λ x. times (read end) count x.1 >>= onto x.0) f e) [
      | inl h ↦ ([], [], text, (omega arith, refl), refl, t.found end text f fits h)
      | inr h ↦ later h.0 h.1 h.2 (λ rest fits e. times_found Fault R read r t count end rest f fits e)
    ]
  where
    later : (x : A × List ℕ) → read end text ≡ Ok x → (times (read end) count x.1 >>= onto x.0) ≡ Err f
        → ((rest : List ℕ) → IsBytes rest → times (read end) count rest ≡ Err f → IsTimesFault R Fault count end rest f) → IsTimesFault R Fault (suc count) end text f
    later x is h ih =
        let g = r.finds end text x fits is in
        elim (bind_fails (times (read end) count x.1) (onto x.0) f h) [
          | inl k ↦
              let i = ih x.1 g.rest_fits k in
              (x.0 ∷ i.0, g.front ++ i.1, i.2, (omega (arith, i.3.0), (g.front, i.1, g.spelled, i.3.1, refl)), g.parts ∙ ap (λ (t : List ℕ). g.front ++ t) i.4 ∙ sym (append_assoc g.front i.1 i.2), i.5)
          | inr k ↦ absurd (cc k.2)
        ]

times_told : {A F : Type 0} (Fault : Faults F) (R : A → List ℕ → Type 0) (read : ℕ → List ℕ → Reads A F) → IsReader R read → TellsFaults Fault read
    → (count end : ℕ) (xs : List A) (text front rest : List ℕ) (f : F) → length xs < count → IsItems R xs front → text ≡ front ++ rest → Fault end rest f → times (read end) count text ≡ Err f
unfolding times
times_told Fault R read r t zero end xs text front rest f lt items parts h = absurd (omega arith)
times_told {A} {F} Fault R read r t (suc count) end [] text front rest f lt items parts h =
    let whole : text ≡ rest = parts ∙ ap (λ (t : List ℕ). t ++ rest) items in
    let fails : read end text ≡ Err f = ap (read end) whole ∙ t.told end rest f h in
    rw fails refl
times_told {A} Fault R read r t (suc count) end (x ∷ xs) text front rest f lt items parts h =
    let regrouped : text ≡ items.0 ++ (items.1 ++ rest) = parts ∙ ap (λ (t : List ℕ). t ++ rest) items.4 ∙ append_assoc items.0 items.1 rest in
    let first : read end text ≡ Ok (x, items.1 ++ rest) = ap (read end) regrouped ∙ r.again end x items.0 (items.1 ++ rest) items.2 in
    rw (first, times_told Fault R read r t count end xs (items.1 ++ rest) items.1 rest f (omega (arith, lt)) items.3 refl h) refl

pub times_faults : {A F : Type 0} (Fault : Faults F) (R : A → List ℕ → Type 0) (read : ℕ → List ℕ → Reads A F) → IsReader R read → TellsFaults Fault read → (count : ℕ)
    → TellsFaults (IsTimesFault R Fault count) (λ end text. times (read end) count text)
times_faults Fault R read r t count = record {
  found = λ end text f fits e. times_found Fault R read r t count end text f fits e;
  told = λ end text f h. times_told Fault R read r t count end h.0 text h.1 h.2 f h.3.0 h.3.1 h.4 h.5;
}
