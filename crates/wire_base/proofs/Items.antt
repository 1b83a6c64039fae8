-- Items one after another, as a loop reads them: until nothing is left, and so many times.
use Rattle.std.proofs.Common.{◌≡◌, ℕ, zero, suc, ◌+◌, ◌-◌, ◌<◌, ◌≤◌, List, [], ◌∷◌, ◌++◌, length}
use Rattle.std.proofs.Common.{drop, Result, Ok, Err, refl, sym, ap, subst, ◌∙◌, append_assoc, arith}
use Rattle.std.proofs.lemmas.List.{append-nil, length-append, take_at, drop_at}
use Rattle.std.specs.Int.{Width, to_be_bytes}
use Rattle.wire_base.specs.declared.stop.Stop.{Stop}
use Rattle.wire_base.specs.declared.stop.Stop.TheVariants as stop
use Rattle.wire_base.specs.Bytes.{IsBytes}
use Rattle.wire_base.specs.Reading.{Reads, ◌>>=◌, many, all_items, times, text_in, container_in}
use Rattle.wire_base.specs.Reading.{Stops}
use Rattle.wire_base.specs.Spelling.{IsText, IsItems, IsContainer}
use Rattle.wire_base.proofs.Bytes.{IsBytes-drop, IsBytes-take}
use Rattle.wire_base.proofs.Laws.{IsReader, Finds, IsWide, bind_is, ok_is, text_reader}

-- each value takes a byte at least, and leaves bytes
pub record Shrinks {A F : Type 0} (read : List ℕ → Reads A F) : Type 0 where
  pub by : (text : List ℕ) (x : A × List ℕ) → IsBytes text → read text ≡ Ok x → (length x.1 < length text) × IsBytes x.1

-- a reader shrinks its bytes where no value is spelled by nothing
pub reader_shrinks : {A F : Type 0} (R : A → List ℕ → Type 0) (read : ℕ → List ℕ → Reads A F) → IsReader R read → ((a : A) (text : List ℕ) → R a text → 0 < length text) → (end : ℕ) → Shrinks (read end)
reader_shrinks R read r filled end = record {
  by = λ text x fits e.
      let f = r.finds end text x fits e in
      (omega (arith, filled x.0 f.front f.spelled, ap length f.parts, length-append f.front x.1), f.rest_fits);
}

-- ---- until nothing is left

-- more turns than bytes change nothing
many_more : {A F : Type 0} (fault : ℕ → F) (read : ℕ → List ℕ → Reads A F) (end : ℕ) (m n : ℕ) (text : List ℕ) → Shrinks (read end) → IsBytes text → length text ≤ m → length text ≤ n → many fault read end m text ≡ many fault read end n text
many_more fault read end m n [] s fits p q = refl
many_more fault read end zero n (b ∷ bs) s fits p q = absurd (omega arith)
many_more fault read end (suc m) zero (b ∷ bs) s fits p q = absurd (omega arith)
many_more {A} {F} fault read end (suc m) (suc n) (b ∷ bs) s fits p q =
    step (read end (b ∷ bs)) refl (λ rest fits lt. many_more fault read end m n rest s fits (omega arith) (omega arith))
  where
    step : (r : Reads A F) → read end (b ∷ bs) ≡ r → ((rest : List ℕ) → IsBytes rest → length rest < length (b ∷ bs) → many fault read end m rest ≡ many fault read end n rest)
        → (r >>= λ x. many fault read end m x.1 >>= λ xs. Ok (x.0 ∷ xs)) ≡ (r >>= λ x. many fault read end n x.1 >>= λ xs. Ok (x.0 ∷ xs))
    step (Err e) h ih = refl
    step (Ok x) h ih = let t = s.by (b ∷ bs) x fits h in ap (λ (r : Result (List A) F). r >>= λ xs. Ok (x.0 ∷ xs)) (ih x.1 t.1 t.0)

pub all_items_next : {A F : Type 0} (fault : ℕ → F) (read : ℕ → List ℕ → Reads A F) (end : ℕ) (text : List ℕ) (x : A × List ℕ) → Shrinks (read end) → IsBytes text → read end text ≡ Ok x → all_items fault read end text ≡ (all_items fault read end x.1 >>= λ xs. Ok (x.0 ∷ xs))
unfolding all_items
all_items_next fault read end [] x s fits h = let t = s.by [] x fits h in absurd (omega arith)
all_items_next {A} {F} fault read end (b ∷ bs) x s fits h =
    let t = s.by (b ∷ bs) x fits h in
    let first : many fault read end (length (b ∷ bs)) (b ∷ bs) ≡ (many fault read end (length bs) x.1 >>= λ xs. Ok (x.0 ∷ xs)) = ap (λ (r : Reads A F). r >>= λ y. many fault read end (length bs) y.1 >>= λ xs. Ok (y.0 ∷ xs)) h in
    first ∙ ap (λ (r : Result (List A) F). r >>= λ xs. Ok (x.0 ∷ xs)) (many_more fault read end (length bs) (length x.1) x.1 s t.1 (omega arith) (omega arith))

-- what was read before, and what is still read
abbrev pub with_front : {A F : Type 0} → List A → Result (List A) F → Result (List A) F
with_front front read = read >>= λ xs. Ok (front ++ xs)

regroup : {A F : Type 0} (front : List A) (x : A) (read : Result (List A) F) → with_front front (read >>= λ xs. Ok (x ∷ xs)) ≡ with_front (front ++ x ∷ []) read
regroup {A} {F} front x (Ok xs) = ap (λ (ys : List A). Ok ys) (simp append_assoc)
regroup front x (Err e) = refl

pub goes_on : {A F : Type 0} (fault : ℕ → F) (read : ℕ → List ℕ → Reads A F) (end : ℕ) (front : List A) (text : List ℕ) (x : A) (after : List ℕ) (total : Result (List A) F) → Shrinks (read end) → IsBytes text → read end text ≡ Ok (x, after)
    → with_front front (all_items fault read end text) ≡ total → with_front (front ++ x ∷ []) (all_items fault read end after) ≡ total
goes_on fault read end front text x after total s fits h so_far =
    sym (regroup front x (all_items fault read end after)) ∙ ap (with_front front) (sym (all_items_next fault read end text (x, after) s fits h)) ∙ so_far

pub ends : {A F : Type 0} (e : Stop F) (fault : ℕ → F) (read : ℕ → List ℕ → Reads A F) (end : ℕ) (front : List A) (text : List ℕ) (total : Result (List A) F) → 0 < length text → Stops e (read end text)
    → with_front front (all_items fault read end text) ≡ total → Stops e total
unfolding all_items
ends stop.Memory fault read end front text total some h so_far = tt
ends (stop.Fault e) fault read end front [] total some h so_far = absurd (omega arith)
ends {A} {F} (stop.Fault e) fault read end front (b ∷ bs) total some h so_far =
    sym so_far ∙ ap (λ (r : Reads A F). with_front front (r >>= λ y. many fault read end (length bs) y.1 >>= λ xs. Ok (y.0 ∷ xs))) h

pub is_done : {A F : Type 0} (fault : ℕ → F) (read : ℕ → List ℕ → Reads A F) (end : ℕ) (front : List A) (text : List ℕ) (total : Result (List A) F) → length text ≡ 0 → with_front front (all_items fault read end text) ≡ total → total ≡ Ok front
unfolding all_items
is_done {A} fault read end front [] total e so_far = sym so_far ∙ ap (λ (ys : List A). Ok ys) (append-nil front)
is_done fault read end front (b ∷ bs) total e so_far = absurd (omega arith)

-- ---- so many times

-- what was read before, and what is still read, with the bytes after it
abbrev pub behind_front : {A F : Type 0} → List A → Reads (List A) F → Reads (List A) F
behind_front front read = read >>= λ x. Ok (front ++ x.0, x.1)

regroup_times : {A F : Type 0} (front : List A) (x : A) (read : Reads (List A) F) → behind_front front (read >>= λ xs. Ok (x ∷ xs.0, xs.1)) ≡ behind_front (front ++ x ∷ []) read
regroup_times {A} {F} front x (Ok xs) = ap (λ (ys : List A). Ok (ys, xs.1)) (simp append_assoc)
regroup_times front x (Err e) = refl

pub times_go_on : {A F : Type 0} (read : List ℕ → Reads A F) (front : List A) (count i : ℕ) (text : List ℕ) (x : A) (after : List ℕ) (total : Reads (List A) F) → i < count → read text ≡ Ok (x, after)
    → behind_front front (times read (count - i) text) ≡ total → behind_front (front ++ x ∷ []) (times read (count - (i + 1)) after) ≡ total
unfolding times
times_go_on read front count i text x after total lt h so_far =
    let k : count - i ≡ suc (count - (i + 1)) = omega arith in
    let one : behind_front front (times read (count - i) text) ≡ behind_front (front ++ x ∷ []) (times read (count - (i + 1)) after) = rw (k, h) (regroup_times front x (times read (count - (i + 1)) after)) in
    sym one ∙ so_far

pub times_end : {A F : Type 0} (e : Stop F) (read : List ℕ → Reads A F) (front : List A) (count i : ℕ) (text : List ℕ) (total : Reads (List A) F) → i < count → Stops e (read text)
    → behind_front front (times read (count - i) text) ≡ total → Stops e total
unfolding times
times_end stop.Memory read front count i text total lt h so_far = tt
times_end (stop.Fault e) read front count i text total lt h so_far =
    let k : count - i ≡ suc (count - (i + 1)) = omega arith in
    let one : behind_front front (times read (count - i) text) ≡ Err e = rw (k, h) refl in
    sym so_far ∙ one

pub times_done : {A F : Type 0} (read : List ℕ → Reads A F) (front : List A) (count i : ℕ) (text : List ℕ) (total : Reads (List A) F) → count ≤ i
    → behind_front front (times read (count - i) text) ≡ total → total ≡ Ok (front, text)
unfolding times
times_done {A} {F} read front count i text total le so_far =
    let k : count - i ≡ 0 = omega arith in
    let one : behind_front front (times read (count - i) text) ≡ Ok (front, text) = rw k (ap (λ (ys : List A). Ok (ys, text)) (append-nil front)) in
    sym so_far ∙ one

-- ---- the laws of items and containers

many_found : {A F : Type 0} (fault : ℕ → F) (R : A → List ℕ → Type 0) (read : ℕ → List ℕ → Reads A F) → IsReader R read → (end : ℕ) → Shrinks (read end)
    → (n : ℕ) (text : List ℕ) (xs : List A) → IsBytes text → length text ≤ n → many fault read end n text ≡ Ok xs → IsItems R xs text
many_found {A} {F} fault R read r end s n [] xs fits le e = subst (λ (ys : List A). IsItems R ys []) (ok_is {F = F} [] xs e) refl
many_found fault R read r end s zero (b ∷ bs) xs fits le e = absurd (omega arith)
many_found {A} {F} fault R read r end s (suc n) (b ∷ bs) xs fits le e =
    let a = bind_is (read end (b ∷ bs)) (λ x. many fault read end n x.1 >>= λ xs. Ok (x.0 ∷ xs)) xs e in
    let c = bind_is (many fault read end n a.0.1) (λ xs. Ok (a.0.0 ∷ xs)) xs a.2 in
    let t = s.by (b ∷ bs) a.0 fits a.1 in
    let f = r.finds end (b ∷ bs) a.0 fits a.1 in
    let later = many_found fault R read r end s n a.0.1 c.0 t.1 (omega arith) c.1 in
    subst (λ (ys : List A). IsItems R ys (b ∷ bs)) (ok_is {F = F} (a.0.0 ∷ c.0) xs c.2) (f.front, a.0.1, f.spelled, later, f.parts)

pub items_found : {A F : Type 0} (fault : ℕ → F) (R : A → List ℕ → Type 0) (read : ℕ → List ℕ → Reads A F) → IsReader R read → (end : ℕ) → Shrinks (read end)
    → (text : List ℕ) (xs : List A) → IsBytes text → all_items fault read end text ≡ Ok xs → IsItems R xs text
unfolding all_items
items_found fault R read r end s text xs fits e = many_found fault R read r end s (length text) text xs fits (omega arith) e

many_again : {A F : Type 0} (fault : ℕ → F) (R : A → List ℕ → Type 0) (read : ℕ → List ℕ → Reads A F) → IsReader R read → ((a : A) (text : List ℕ) → R a text → 0 < length text) → (end : ℕ)
    → (n : ℕ) (xs : List A) (text : List ℕ) → length text ≤ n → IsItems R xs text → many fault read end n text ≡ Ok xs
many_again fault R read r filled end n [] [] le h = refl
many_again fault R read r filled end n [] (b ∷ bs) le h = absurd cc
many_again fault R read r filled end n (x ∷ xs) [] le h =
    let some = filled x h.0 h.2 in
    absurd (omega (arith, ap length h.4, length-append h.0 h.1))
many_again fault R read r filled end zero (x ∷ xs) (b ∷ bs) le h = absurd (omega arith)
many_again {A} {F} fault R read r filled end (suc n) (x ∷ xs) (b ∷ bs) le h =
    let some = filled x h.0 h.2 in
    let first : read end (b ∷ bs) ≡ Ok (x, h.1) = ap (read end) h.4 ∙ r.again end x h.0 h.1 h.2 in
    let fewer : length h.1 ≤ n = omega (arith, ap length h.4, length-append h.0 h.1) in
    rw (first, many_again fault R read r filled end n xs h.1 fewer h.3) refl

pub items_again : {A F : Type 0} (fault : ℕ → F) (R : A → List ℕ → Type 0) (read : ℕ → List ℕ → Reads A F) → IsReader R read → ((a : A) (text : List ℕ) → R a text → 0 < length text) → (end : ℕ)
    → (xs : List A) (text : List ℕ) → IsItems R xs text → all_items fault read end text ≡ Ok xs
unfolding all_items
items_again fault R read r filled end xs text h = many_again fault R read r filled end (length text) xs text (omega arith) h

-- the bytes of a text that stands among bytes are bytes
pub text_bytes : (w : Width) (s front rest : List ℕ) → IsBytes (front ++ rest) → IsText w s front → IsBytes s
text_bytes w s front rest fits h =
    let whole : front ++ rest ≡ to_be_bytes w (length s) ++ (s ++ rest) = ap (λ (t : List ℕ). t ++ rest) h.1 ∙ append_assoc (to_be_bytes w (length s)) s rest in
    let behind : drop (length (to_be_bytes w (length s))) (front ++ rest) ≡ s ++ rest = ap (drop (length (to_be_bytes w (length s)))) whole ∙ drop_at (to_be_bytes w (length s)) (s ++ rest) (length (to_be_bytes w (length s))) refl in
    let inside : IsBytes (s ++ rest) = subst IsBytes behind (IsBytes-drop (length (to_be_bytes w (length s))) (front ++ rest) fits) in
    subst IsBytes (take_at s rest (length s) refl) (IsBytes-take (length s) (s ++ rest) inside)

-- where no item is spelled by nothing, items are read until nothing is left
pub container_reader : {A F : Type 0} (fault : ℕ → F) (w : Width) → IsWide w → (R : A → List ℕ → Type 0) (read : ℕ → List ℕ → Reads A F) → IsReader R read
    → ((a : A) (text : List ℕ) → R a text → 0 < length text) → IsReader (IsContainer w R) (container_in fault w read)
container_reader {A} {F} fault w wide R read r filled = record { finds = finds; again = again }
  where
    texts : IsReader (IsText w) (text_in fault w)
    texts = text_reader fault w wide

    finds : (end : ℕ) (text : List ℕ) (x : List A × List ℕ) → IsBytes text → container_in fault w read end text ≡ Ok x → Finds (IsContainer w R) text x
    finds end text x fits e =
        let b = bind_is (text_in fault w end text) (λ body. all_items fault read (end - length body.1) body.0 >>= λ items. Ok (items, body.1)) x e in
        let c = bind_is (all_items fault read (end - length b.0.1) b.0.0) (λ items. Ok (items, b.0.1)) x b.2 in
        let f = texts.finds end text b.0 fits b.1 in
        let inside = text_bytes w b.0.0 f.front b.0.1 (subst IsBytes f.parts fits) f.spelled in
        let items = items_found fault R read r (end - length b.0.1) (reader_shrinks R read r filled (end - length b.0.1)) b.0.0 c.0 inside c.1 in
        subst (λ (y : List A × List ℕ). Finds (IsContainer w R) text y) (ok_is {F = F} (c.0, b.0.1) x c.2)
        (record { front = f.front; spelled = (b.0.0, items, f.spelled); parts = f.parts; rest_fits = f.rest_fits })

    again : (end : ℕ) (xs : List A) (front rest : List ℕ) → IsContainer w R xs front → container_in fault w read end (front ++ rest) ≡ Ok (xs, rest)
    again end xs front rest h = rw (texts.again end h.0 front rest h.2, items_again fault R read r filled (end - length rest) xs h.0 h.1) refl

-- so many items
abbrev pub IsTimes : {A : Type 0} → (A → List ℕ → Type 0) → ℕ → List A → List ℕ → Type 0
IsTimes R count xs text = (length xs ≡ count) × IsItems R xs text

times_found : {A F : Type 0} (R : A → List ℕ → Type 0) (read : ℕ → List ℕ → Reads A F) → IsReader R read → (end count : ℕ) (text : List ℕ) (x : List A × List ℕ)
    → IsBytes text → times (read end) count text ≡ Ok x → Finds (IsTimes R count) text x
unfolding times
times_found {A} {F} R read r end zero text x fits e =
    subst (λ (y : List A × List ℕ). Finds (IsTimes R 0) text y) (ok_is {F = F} ([], text) x e) (record { front = []; spelled = (refl, refl); parts = refl; rest_fits = fits })
times_found {A} {F} R read r end (suc count) text x fits e =
    let a = bind_is (read end text) (λ x. times (read end) count x.1 >>= λ xs. Ok (x.0 ∷ xs.0, xs.1)) x e in
    let b = bind_is (times (read end) count a.0.1) (λ xs. Ok (a.0.0 ∷ xs.0, xs.1)) x a.2 in
    let f = r.finds end text a.0 fits a.1 in
    let g = times_found R read r end count a.0.1 b.0 f.rest_fits b.1 in
    let parts : text ≡ (f.front ++ g.front) ++ b.0.1 = f.parts ∙ ap (λ (t : List ℕ). f.front ++ t) g.parts ∙ sym (append_assoc f.front g.front b.0.1) in
    subst (λ (y : List A × List ℕ). Finds (IsTimes R (suc count)) text y) (ok_is {F = F} (a.0.0 ∷ b.0.0, b.0.1) x b.2)
    (record { front = f.front ++ g.front; spelled = (ap suc g.spelled.0, (f.front, g.front, f.spelled, g.spelled.1, refl)); parts = parts; rest_fits = g.rest_fits })

times_again : {A F : Type 0} (R : A → List ℕ → Type 0) (read : ℕ → List ℕ → Reads A F) → IsReader R read → (end : ℕ) (xs : List A) (front rest : List ℕ)
    → IsItems R xs front → times (read end) (length xs) (front ++ rest) ≡ Ok (xs, rest)
unfolding times
times_again R read r end [] front rest h = ap (λ (t : List ℕ). Ok ([], t ++ rest)) h
times_again R read r end (x ∷ xs) front rest h =
    let regrouped : front ++ rest ≡ h.0 ++ (h.1 ++ rest) = ap (λ (t : List ℕ). t ++ rest) h.4 ∙ append_assoc h.0 h.1 rest in
    ap (times (read end) (suc (length xs))) regrouped ∙ rw (r.again end x h.0 (h.1 ++ rest) h.2, times_again R read r end xs h.1 rest h.3) refl

pub times_reader : {A F : Type 0} (R : A → List ℕ → Type 0) (read : ℕ → List ℕ → Reads A F) → IsReader R read → (count : ℕ)
    → IsReader (IsTimes R count) (λ end text. times (read end) count text)
times_reader {A} {F} R read r count = record {
  finds = λ end text x fits e. times_found R read r end count text x fits e;
  again = λ end xs front rest h. subst (λ (n : ℕ). times (read end) n (front ++ rest) ≡ Ok (xs, rest)) h.0 (times_again R read r end xs front rest h.1);
}
