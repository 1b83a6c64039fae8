-- Open ends found, opened and closed.
use Rattle.std.proofs.Common.{◌≡◌, ℕ, ◌+◌, ◌≤◌, zero, suc, List, [], ◌∷◌, ◌++◌, Bool, true, false}
use Rattle.std.proofs.Common.{not, cond, ap, sym, refl, ◌∙◌, Option, None, Some, ◌||◌, arith}
use Rattle.std.proofs.Common.{length, get_or, add-zero, subst}
use Rattle.std.proofs.lemmas.Option.{none-some}
use Rattle.std.proofs.lemmas.Bool.{eqb-true, eq-eqb, and_parts, or_parts}
use Rattle.std.specs.Prelude.{slice_get, nat_eq, nat_lt, is_some, IfSome, IfNone}
use Rattle.std.specs.List.{remove, position, position_or_len}
use Rattle.std.proofs.lemmas.Option.{slice_get-get_or}
use Rattle.std.proofs.lemmas.List.Quantifiers.{position-Some}
use Rattle.std.proofs.lemmas.List.Sums.{sum_by-cons, sum_by_push}
use Rattle.gate_outside.specs.declared.ports.End.{End}
use Rattle.gate_outside.specs.declared.ports.End.TheVariants.{Client, Up}
use Rattle.gate_outside.specs.Ends.{same_end, is_end, is_open, closed}
use Rattle.gate_outside.specs.OpenEnds.{AreBelow, AreDistinct}
use Rattle.gate_ends.specs.OpenEnds.{clients_of}

same_end-self : (e : End) → same_end e e ≡ true
same_end-self Client = refl
same_end-self Up = refl

same_end-true : (e f : End) → same_end e f ≡ true → e ≡ f
same_end-true Client Client h = refl
same_end-true Client Up h = cc
same_end-true Up Client h = cc
same_end-true Up Up h = refl

is_end-self : (p : ℕ) (e : End) → is_end p e (p, e) ≡ true
is_end-self p e = let same = eq-eqb p p refl in let end = same_end-self e in cc

is_end-true : (p : ℕ) (e : End) (x : ℕ × End) → is_end p e x ≡ true → (x.0 ≡ p) × (x.1 ≡ e)
is_end-true p e x h =
    let parts = and_parts (nat_eq x.0 p) (same_end x.1 e) h in
    (eqb-true x.0 p parts.0, same_end-true x.1 e parts.1)

either_first : (a b : Bool) → a ≡ true → (a || b) ≡ true
either_first true b h = refl
either_first false b h = cc

either_second : (a b : Bool) → b ≡ true → (a || b) ≡ true
either_second true b h = refl
either_second false b h = h

-- an end that stands in the list is open
pub stands_open : (xs : List (ℕ × End)) (k p : ℕ) (e : End) → slice_get xs k ≡ Some (p, e) → is_open p e xs ≡ true
stands_open [] k p e h = absurd (none-some (p, e) h)
stands_open (x ∷ xs) zero p e h =
    let same : x ≡ (p, e) = cc h in
    either_first (is_end p e x) (is_open p e xs) (rw same (is_end-self p e))
stands_open (x ∷ xs) (suc k) p e h = either_second (is_end p e x) (is_open p e xs) (stands_open xs k p e h)

-- closing an end that is not open changes nothing
pub closed_free : (xs : List (ℕ × End)) (p : ℕ) (e : End) → is_open p e xs ≡ false → closed p e xs ≡ xs
closed_free [] p e h = refl
closed_free (x ∷ xs) p e h =
    let parts = or_parts (is_end p e x) (is_open p e xs) h in
    let rest = closed_free xs p e parts.1 in
    rw parts.0 (ap (λ ys. x ∷ ys) rest)

-- an end stands at one place
other_end : (x : ℕ × End) (xs : List (ℕ × End)) (p : ℕ) (e : End) → is_open x.0 x.1 xs ≡ false → is_open p e xs ≡ true
    → is_end p e x ≡ false
other_end x xs p e free stands = elim (is_end p e x) as (λ b. is_end p e x ≡ b → b ≡ false) [
  | true ↦ (λ q. let which = is_end-true p e x q in cc (which.0, which.1, free, stands))
  | false ↦ (λ q. refl)
] refl

-- the list without the place of an end is the list without the end
remove-closed : (xs : List (ℕ × End)) (k p : ℕ) (e : End) → AreDistinct xs → slice_get xs k ≡ Some (p, e)
    → remove xs k ≡ closed p e xs
remove-closed [] k p e d h = absurd (none-some (p, e) h)
remove-closed (x ∷ xs) zero p e d h =
    let same : x ≡ (p, e) = cc h in
    let ended : is_end p e x ≡ true = rw same (is_end-self p e) in
    let free : is_open p e xs ≡ false = cc (same, d.0) in
    rw ended (sym (closed_free xs p e free))
remove-closed (x ∷ xs) (suc k) p e d h =
    let apart = other_end x xs p e d.0 (stands_open xs k p e h) in
    rw apart (ap (λ ys. x ∷ ys) (remove-closed xs k p e d.1 h))

-- the same of a list that is what is left
pub left-closed : (left xs : List (ℕ × End)) (k p : ℕ) (e : End) → left ≡ remove xs k → AreDistinct xs
    → slice_get xs k ≡ Some (p, e) → left ≡ closed p e xs
left-closed left xs k p e h d at = h ∙ remove-closed xs k p e d at

-- closing an end leaves no more clients
pub clients_of-closed : (xs : List (ℕ × End)) (p : ℕ) (e : End) → clients_of (closed p e xs) ≤ clients_of xs
clients_of-closed [] p e = omega arith
clients_of-closed (x ∷ xs) p e =
    let weight : ℕ × End → ℕ = λ y. cond (same_end y.1 Client) 1 0 in
    let rest = clients_of-closed xs p e in
    let whole : clients_of (x ∷ xs) ≡ weight x + clients_of xs = sum_by-cons weight x xs in
    let kept : clients_of (x ∷ closed p e xs) ≡ weight x + clients_of (closed p e xs) = sum_by-cons weight x (closed p e xs) in
    elim (is_end p e x) as (λ b. clients_of (cond (not b) (x ∷ closed p e xs) (closed p e xs)) ≤ clients_of (x ∷ xs)) [
      | true ↦ omega (arith, rest, whole)
      | false ↦ omega (arith, rest, whole, kept)
    ]

-- a client's end that opens is one client more
pub clients_of_accept : (xs : List (ℕ × End)) (p : ℕ) → clients_of (xs ++ (p, Client) ∷ []) ≡ clients_of xs + 1
clients_of_accept xs p = sum_by_push (λ y. cond (same_end y.1 Client) 1 0) xs (p, Client)

-- an upstream end that opens is none
pub clients_of_connect : (xs : List (ℕ × End)) (p : ℕ) → clients_of (xs ++ (p, Up) ∷ []) ≡ clients_of xs
clients_of_connect xs p = sum_by_push (λ y. cond (same_end y.1 Client) 1 0) xs (p, Up) ∙ add-zero (clients_of xs)

pair_is : (x : ℕ × End) (p : ℕ) (e : End) → x.0 ≡ p → x.1 ≡ e → x ≡ (p, e)
pair_is x p e q r = ap (λ a. (a, x.1)) q ∙ ap (λ b. (p, b)) r

-- the place that a search finds is that of the end
pub position_stands : (xs : List (ℕ × End)) (i p : ℕ) (e : End) → position (is_end p e) xs ≡ Some i
    → slice_get xs i ≡ Some (p, e)
position_stands xs i p e h =
    let found = position-Some (is_end p e) xs i (p, e) h in
    let which = is_end-true p e (get_or xs i (p, e)) found.1 in
    let at = slice_get-get_or xs i (p, e) found.0 in
    at ∙ ap Some (pair_is (get_or xs i (p, e)) p e which.0 which.1)

none_passes : (xs : List (ℕ × End)) (p : ℕ) (e : End) → length xs ≤ position_or_len (is_end p e) xs → is_open p e xs ≡ false
none_passes [] p e h = refl
none_passes (x ∷ xs) p e h = elim (is_end p e x) as
    (λ b. length (x ∷ xs) ≤ cond (not b) (1 + position_or_len (is_end p e) xs) 0 → (b || is_open p e xs) ≡ false) [
      | true ↦ (λ q. absurd (omega arith))
      | false ↦ (λ q. none_passes xs p e (omega (arith, q)))
    ] h

-- where a search finds none, the end is not open
pub position_free : (xs : List (ℕ × End)) (p : ℕ) (e : End) → position (is_end p e) xs ≡ None → is_open p e xs ≡ false
position_free xs p e h = none_passes xs p e
    (elim (nat_lt (position_or_len (is_end p e) xs) (length xs)) as
    (λ b. nat_lt (position_or_len (is_end p e) xs) (length xs) ≡ b
    → cond b (Some (position_or_len (is_end p e) xs)) None ≡ None → length xs ≤ position_or_len (is_end p e) xs) [
      | true ↦ (λ q r. absurd (none-some _ (sym r)))
      | false ↦ (λ q r. grind (arith, q))
    ] refl h)

-- what a search answers, as its caller reads it
pub scanned_some : (r : Option ℕ) (xs : List (ℕ × End)) (p : ℕ) (e : End) → r ≡ position (is_end p e) xs
    → IfSome r (λ at. slice_get xs at ≡ Some (p, e))
scanned_some (Some i) xs p e h = position_stands xs i p e (sym h)
scanned_some None xs p e h = tt

pub scanned_none : (r : Option ℕ) (xs : List (ℕ × End)) (p : ℕ) (e : End) → r ≡ position (is_end p e) xs
    → IfNone r (is_open p e xs ≡ false)
scanned_none (Some i) xs p e h = tt
scanned_none None xs p e h = position_free xs p e (sym h)

-- of no end each fact holds
pub none_below : (n : ℕ) (xs : List (ℕ × End)) → xs ≡ [] → AreBelow n xs
none_below n xs e = subst (AreBelow n) (sym e) tt

pub none_distinct : (xs : List (ℕ × End)) → xs ≡ [] → AreDistinct xs
none_distinct xs e = subst AreDistinct (sym e) tt

-- a search finds an end exactly where it is open
pub scanned_is : (r : Option ℕ) (xs : List (ℕ × End)) (p : ℕ) (e : End) → r ≡ position (is_end p e) xs
    → is_some r ≡ is_open p e xs
scanned_is (Some i) xs p e h = sym (stands_open xs i p e (position_stands xs i p e (sym h)))
scanned_is None xs p e h = sym (position_free xs p e (sym h))
