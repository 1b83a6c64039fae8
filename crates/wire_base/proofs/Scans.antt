-- The answers of a scan exclude each other, and an answer other than More stays whatever bytes follow.
use Rattle.std.proofs.Common.{◌≡◌, ◌≢◌, ℕ, ◌≤◌, List, [], ◌∷◌, ◌++◌, length, take, drop, refl, sym}
use Rattle.std.proofs.Common.{◌∙◌, ap, subst, ⊎_elim, arith}
use Rattle.std.proofs.lemmas.List.{append_assoc, append-nil, take-append-drop, take_at}
use Rattle.std.proofs.lemmas.List.{take-append-le, length-take-le, length-append, nil_from_length}
use Rattle.std.proofs.lemmas.Bool.{cases_lt}
use Rattle.wire_base.specs.declared.scan.Scan.{Scan}
use Rattle.wire_base.specs.declared.scan.Scan.TheVariants.{Whole, More, Bad}
use Rattle.wire_base.specs.Scans.{Scans, AreApart}

-- of two texts that begin the same bytes the shorter one begins the other
begins_other : (a b r s : List ℕ) → a ++ r ≡ b ++ s → length a ≤ length b → b ≡ a ++ drop (length a) b
begins_other a b r s e h =
    let front : take (length a) b ≡ a =
    sym (take-append-le (length a) b s h) ∙ ap (take (length a)) (sym e) ∙ take_at a r (length a) refl
    in sym (take-append-drop (length a) b) ∙ ap (λ (t : List ℕ). t ++ drop (length a) b) front

-- two units that begin the same bytes are one
pub one_unit : {T : Type 0} (IsUnit : T → List ℕ → Type 0) (x y : T) (a b r s : List ℕ) → AreApart IsUnit
    → IsUnit x a → IsUnit y b → a ++ r ≡ b ++ s → (x ≡ y) × (length a ≡ length b)
one_unit {T} IsUnit x y a b r s apart u v e = ⊎_elim
    (λ h. let longer = begins_other a b r s e (omega arith) in
    let same = apart x y a b _ u v longer in
    (same.1, sym (ap length longer ∙ ap (λ (t : List ℕ). length (a ++ t)) same.0 ∙ ap length (append-nil a))))
    (λ h. let longer = begins_other b a s r (sym e) h in
    let same = apart y x b a _ v u longer in
    (sym same.1, ap length longer ∙ ap (λ (t : List ℕ). length (b ++ t)) same.0 ∙ ap length (append-nil b)))
    (cases_lt (length a) (length b))

-- a text that ends in another is empty only where that is
no_end : (r s : List ℕ) → r ++ s ≡ [] → s ≡ []
no_end [] s e = e
no_end (x ∷ r) s e = cc

-- what follows a whole unit
parts : (bytes more : List ℕ) (n : ℕ) → bytes ++ more ≡ take n bytes ++ (drop n bytes ++ more)
parts bytes more n = ap (λ (t : List ℕ). t ++ more) (sym (take-append-drop n bytes)) ∙ append_assoc (take n bytes) (drop n bytes) more

-- a whole unit is the only answer, whatever bytes follow it
pub whole_stays : {T F : Type 0} (IsUnit : T → List ℕ → Type 0) (bytes more : List ℕ) (x : T) (n : ℕ) (t : Scan T F)
    → AreApart IsUnit → Scans {T = T} {F = F} IsUnit bytes (Whole x n) → Scans IsUnit (bytes ++ more) t → t ≡ Whole x n
whole_stays IsUnit bytes more x n (Whole y m) apart h v =
    let all = parts bytes more n in
    let front = sym (take-append-drop m (bytes ++ more)) in
    let one = one_unit IsUnit x y (take n bytes) (take m (bytes ++ more)) _ _ apart h.1 v.1 (sym all ∙ front) in
    let size = sym (length-take-le n bytes h.0) ∙ one.1 ∙ length-take-le m (bytes ++ more) v.0 in
    cc (one.0, size)
whole_stays IsUnit bytes more x n More apart h v =
    let all = ap (λ (t : List ℕ). t ++ v.1) (parts bytes more n) ∙ append_assoc (take n bytes) (drop n bytes ++ more) v.1 in
    absurd (v.2 (no_end (drop n bytes ++ more) v.1 (apart x v.0 _ _ _ h.1 v.3 all).0))
whole_stays IsUnit bytes more x n (Bad fault) apart h v =
    absurd (v x (take n bytes) [] (drop n bytes ++ more) h.1 (append-nil (bytes ++ more) ∙ parts bytes more n))

-- where no continuation begins with a unit, none does after more bytes
pub bad_stays : {T F : Type 0} (IsUnit : T → List ℕ → Type 0) (bytes more : List ℕ) (fault : F) (t : Scan T F)
    → Scans {T = T} {F = F} IsUnit bytes (Bad fault) → Scans IsUnit (bytes ++ more) t → (other : F) × (t ≡ Bad other)
bad_stays IsUnit bytes more fault (Whole y m) h v =
    absurd (h y (take m (bytes ++ more)) more (drop m (bytes ++ more)) v.1 (sym (take-append-drop m (bytes ++ more))))
bad_stays IsUnit bytes more fault More h v =
    absurd (h v.0 ((bytes ++ more) ++ v.1) (more ++ v.1) [] v.3 (sym (append_assoc bytes more v.1) ∙ sym (append-nil ((bytes ++ more) ++ v.1))))
bad_stays IsUnit bytes more fault (Bad other) h v = (other, refl)

-- the three answers exclude each other, and there is one whole unit at most
pub whole_alone : {T F : Type 0} (IsUnit : T → List ℕ → Type 0) (bytes : List ℕ) (x : T) (n : ℕ) (t : Scan T F)
    → AreApart IsUnit → Scans {T = T} {F = F} IsUnit bytes (Whole x n) → Scans IsUnit bytes t → t ≡ Whole x n
whole_alone {T} {F} IsUnit bytes x n t apart h v =
    let Answers : List ℕ → Type 0 = λ text. Scans {T = T} {F = F} IsUnit text t in
    whole_stays IsUnit bytes [] x n t apart h (subst Answers (sym (append-nil bytes)) v)

pub bad_alone : {T F : Type 0} (IsUnit : T → List ℕ → Type 0) (bytes : List ℕ) (fault : F) (t : Scan T F)
    → Scans {T = T} {F = F} IsUnit bytes (Bad fault) → Scans IsUnit bytes t → (other : F) × (t ≡ Bad other)
bad_alone {T} {F} IsUnit bytes fault t h v =
    let Answers : List ℕ → Type 0 = λ text. Scans {T = T} {F = F} IsUnit text t in
    bad_stays IsUnit bytes [] fault t h (subst Answers (sym (append-nil bytes)) v)

pub more_alone : {T F : Type 0} (IsUnit : T → List ℕ → Type 0) (bytes : List ℕ) (t : Scan T F)
    → AreApart IsUnit → Scans {T = T} {F = F} IsUnit bytes More → Scans IsUnit bytes t → t ≡ More
more_alone {T} {F} IsUnit bytes (Whole x n) apart h v = cc (whole_alone {F = F} IsUnit bytes x n More apart v h)
more_alone IsUnit bytes More apart h v = refl
more_alone {T} {F} IsUnit bytes (Bad fault) apart h v = let other = bad_alone IsUnit bytes fault More v h in cc (other.1)

-- A scan that reads back each unit, and whose answers other than More stay.
pub record IsScanner {T F : Type 0} (IsUnit : T → List ℕ → Type 0) (scan : List ℕ → Scan T F) : Type 0 where
  pub whole : (x : T) (unit rest : List ℕ) → IsUnit x unit → scan (unit ++ rest) ≡ Whole x (length unit)
  pub settled : (bytes more : List ℕ) → scan bytes ≢ More → scan (bytes ++ more) ≡ scan bytes

-- such a grammar keeps its units apart
pub apart_by : {T F : Type 0} (IsUnit : T → List ℕ → Type 0) (scan : List ℕ → Scan T F) → IsScanner IsUnit scan → AreApart IsUnit
apart_by IsUnit scan s x y a b more u v e =
    let first = ap scan e ∙ s.whole x a more u in
    let second = ap scan (append-nil b) in
    let other = s.whole y b [] v in
    let size : length a ≡ length b = cc (first, second, other) in
    let same : x ≡ y = cc (first, second, other) in
    (nil_from_length more (omega (arith, size, ap length e, length-append a more)), same)

-- and where such a scan answers Bad, no continuation begins with a unit
pub bad_by : {T F : Type 0} (IsUnit : T → List ℕ → Type 0) (scan : List ℕ → Scan T F) (bytes : List ℕ) (fault : F)
    → IsScanner IsUnit scan → scan bytes ≡ Bad fault → Scans {T = T} {F = F} IsUnit bytes (Bad fault)
bad_by IsUnit scan bytes fault s is x unit more after u e =
    let stays : scan (bytes ++ more) ≡ scan bytes = s.settled bytes more (λ m. cc (is, m)) in
    let reads = s.whole x unit after u in
    cc (ap scan e, stays, reads, is)
