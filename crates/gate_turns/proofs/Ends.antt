-- The open ends of a pair, and of the others.
use Rattle.std.proofs.Common.{◌≡◌, ◌≢◌, ℕ, Bool, true, false, not, cond, nat_eq, ◌||◌, ◌&&◌, List}
use Rattle.std.proofs.Common.{[], ◌∷◌, ◌++◌, refl, sym, ap, ◌∙◌}
use Rattle.std.proofs.lemmas.Bool.{eqb-true, and_parts}
use Rattle.gate_outside.specs.declared.ports.End.{End}
use Rattle.gate_outside.specs.declared.ports.End.TheVariants.{Client, Up}
use Rattle.gate_outside.specs.declared.ports.Linked.{Linked}
use Rattle.gate_outside.specs.declared.ports.Linked.TheVariants as linked
use Rattle.gate_outside.specs.Ends.{is_open, is_end, same_end, closed, ends_linked}
use Rattle.gate_relay.specs.declared.sides.Side.{Side}
use Rattle.gate_relay.specs.declared.sides.Side.TheVariants as side
use Rattle.gate_relay.specs.declared.sides.Sides.{Sides}
use Rattle.gate_relay.specs.Sides.{side_of, with_side, side_linked, is_open_side, is_absent}
use Rattle.gate_relay.specs.Sides.{has_end}
use Rattle.gate_turns.specs.Parts.{EndsAre, KeepsOthers}
use Rattle.gate_turns.proofs.OneMark.{is_same, is_other}

-- an end more
pub open_more : (q p : ℕ) (e f : End) (xs : List (ℕ × End)) → is_open q e (xs ++ (p, f) ∷ []) ≡ (is_open q e xs || is_end q e (p, f))
open_more q p e f [] = or_false (is_end q e (p, f))
  where
    or_false : (b : Bool) → (b || false) ≡ b
    or_false true = refl
    or_false false = refl
open_more q p e f (x ∷ xs) = ap (λ (b : Bool). is_end q e x || b) (open_more q p e f xs) ∙ assoc (is_end q e x) (is_open q e xs) (is_end q e (p, f))
  where
    assoc : (a b c : Bool) → (a || (b || c)) ≡ ((a || b) || c)
    assoc true b c = refl
    assoc false b c = refl

pub other_end : (q p : ℕ) (e f : End) → q ≢ p → is_end q e (p, f) ≡ false
other_end q p e f ne = ap (λ (b : Bool). b && same_end f e) (is_other p q (λ x. ne (sym x)))

pub or_right : (b : Bool) → (b || false) ≡ b
or_right true = refl
or_right false = refl

pub linked_others : (answer : Linked) (p : ℕ) (xs : List (ℕ × End)) → KeepsOthers p xs (ends_linked answer p xs)
linked_others linked.Ok p xs = λ q e ne. open_more q p e Up xs ∙ ap (λ (b : Bool). is_open q e xs || b) (other_end q p e Up ne) ∙ or_right (is_open q e xs)
linked_others linked.Failed p xs = λ q e ne. refl

absent_shut : (s : Side) → is_absent s ≡ true → is_open_side s ≡ false
absent_shut side.Absent e = refl
absent_shut side.Open e = absurd cc
absent_shut side.Ended e = absurd cc
absent_shut side.Failed e = absurd cc
absent_shut side.Gone e = absurd cc

pub linked_ends : (answer : Linked) (p : ℕ) (s : Sides) (xs : List (ℕ × End)) → is_absent s.up ≡ true → EndsAre p s xs
    → EndsAre p (with_side Up (side_linked answer) s) (ends_linked answer p xs)
linked_ends linked.Ok p s xs absent are = λ e. open_more p p e Up xs ∙ ap (λ (b : Bool). b || is_end p e (p, Up)) (are e) ∙ here e
  where
    here : (e : End) → (is_open_side (side_of e s) || is_end p e (p, Up)) ≡ is_open_side (side_of e (with_side Up (side_linked linked.Ok) s))
    here Client = ap (λ (b : Bool). is_open_side s.client || (b && false)) (is_same p) ∙ or_right (is_open_side s.client)
    here Up = ap (λ (b : Bool). is_open_side s.up || (b && true)) (is_same p) ∙ ap (λ (b : Bool). b || true) (absent_shut s.up absent)
linked_ends linked.Failed p s xs absent are = here
  where
    here : EndsAre p (with_side Up (side_linked linked.Failed) s) xs
    here Client = are Client
    here Up = are Up ∙ absent_shut s.up absent

-- an end less

same_true : (e f : End) → same_end e f ≡ true → e ≡ f
same_true Client Client h = refl
same_true Client Up h = absurd cc
same_true Up Client h = absurd cc
same_true Up Up h = refl

parts_of : (p : ℕ) (e : End) (x : ℕ × End) → is_end p e x ≡ true → (x.0 ≡ p) × (x.1 ≡ e)
parts_of p e x h = let parts = and_parts (nat_eq x.0 p) (same_end x.1 e) h in (eqb-true x.0 p parts.0, same_true x.1 e parts.1)

taken : (z o : Bool) → (o && not z) ≡ ((z || o) && not z)
taken true true = refl
taken true false = refl
taken false o = refl

kept : (a z o : Bool) → (a ≡ true → z ≡ false) → (a || (o && not z)) ≡ ((a || o) && not z)
kept true z o h = sym (ap not (h refl))
kept false z o h = refl

closed_more : (q p : ℕ) (e f : End) (xs : List (ℕ × End)) → is_open q e (closed p f xs) ≡ (is_open q e xs && not (is_end q e (p, f)))
closed_more q p e f [] = refl
closed_more q p e f (x ∷ xs) =
    let rest : is_open q e (closed p f xs) ≡ (is_open q e xs && not (is_end q e (p, f))) = closed_more q p e f xs in
    elim (is_end p f x) as (λ b. is_end p f x ≡ b
    → is_open q e (cond (not b) (x ∷ closed p f xs) (closed p f xs)) ≡ ((is_end q e x || is_open q e xs) && not (is_end q e (p, f)))) [
      | true ↦ λ h. (let at = parts_of p f x h in
          let here : is_end q e x ≡ is_end q e (p, f) = cc (at.0, at.1) in
          rest ∙ taken (is_end q e (p, f)) (is_open q e xs) ∙ ap (λ (b : Bool). (b || is_open q e xs) && not (is_end q e (p, f))) (sym here))
      | false ↦ λ h. (ap (λ (b : Bool). is_end q e x || b) rest ∙ kept (is_end q e x) (is_end q e (p, f)) (is_open q e xs)
          (λ t. let at = parts_of q e x t in elim (is_end q e (p, f)) as (λ b. is_end q e (p, f) ≡ b → b ≡ false) [
            | true ↦ λ u. (let there = parts_of q e (p, f) u in let clash : is_end p f x ≡ true = cc (at.0, at.1, there.0, there.1, t) in absurd cc)
            | false ↦ λ u. refl
          ] refl))
    ] refl

pub closed_others : (p : ℕ) (f : End) (xs : List (ℕ × End)) → KeepsOthers p xs (closed p f xs)
closed_others p f xs = λ q e ne. closed_more q p e f xs ∙ ap (λ (b : Bool). is_open q e xs && not (b && same_end f e)) (is_other p q (λ x. ne (sym x))) ∙ and_right (is_open q e xs)
  where
    and_right : (b : Bool) → (b && true) ≡ b
    and_right true = refl
    and_right false = refl

pub closed_ends : (p : ℕ) (f : End) (s : Sides) (xs : List (ℕ × End)) → EndsAre p s xs → EndsAre p (with_side f side.Gone s) (closed p f xs)
closed_ends p f s xs are = λ e. closed_more p p e f xs ∙ ap (λ (b : Bool). is_open p e xs && not (b && same_end f e)) (is_same p) ∙ ap (λ (b : Bool). b && not (same_end f e)) (are e) ∙ here f e
  where
    and_right : (b : Bool) → (b && true) ≡ b
    and_right true = refl
    and_right false = refl

    and_left : (b : Bool) → (b && false) ≡ false
    and_left true = refl
    and_left false = refl

    here : (f e : End) → (is_open_side (side_of e s) && not (same_end f e)) ≡ is_open_side (side_of e (with_side f side.Gone s))
    here Client Client = and_left (is_open_side s.client)
    here Client Up = and_right (is_open_side s.up)
    here Up Client = and_right (is_open_side s.client)
    here Up Up = and_left (is_open_side s.up)

-- a call of the ports that opened or closed an end
pub linked_are : (answer : Linked) (p q : ℕ) (s t : Sides) (xs ys : List (ℕ × End)) → q ≡ p → t ≡ with_side Up (side_linked answer) s → ys ≡ ends_linked answer p xs
    → is_absent s.up ≡ true → EndsAre p s xs → EndsAre q t ys
linked_are answer p q s t xs ys e f h absent are = rw (e, f, h) (linked_ends answer p s xs absent are)

pub linked_keep : (answer : Linked) (p : ℕ) (xs ys : List (ℕ × End)) → ys ≡ ends_linked answer p xs → KeepsOthers p xs ys
linked_keep answer p xs ys h = rw h (linked_others answer p xs)

pub closed_are : (f : End) (p q : ℕ) (s t : Sides) (xs ys : List (ℕ × End)) → q ≡ p → t ≡ with_side f side.Gone s → ys ≡ closed p f xs
    → EndsAre p s xs → EndsAre q t ys
closed_are f p q s t xs ys e g h are = rw (e, g, h) (closed_ends p f s xs are)

pub closed_keep : (f : End) (p : ℕ) (xs ys : List (ℕ × End)) → ys ≡ closed p f xs → KeepsOthers p xs ys
closed_keep f p xs ys h = rw h (closed_others p f xs)

-- an end that was open and ended or failed is open still
pub still_open : (f : End) (x : Side) (s : Sides) → is_open_side x ≡ true → has_end s ≡ true → has_end (with_side f x s) ≡ true
still_open Client x s e h = ap (λ (b : Bool). b || is_open_side s.up) e
still_open Up x s e h = ap (λ (b : Bool). is_open_side s.client || b) e ∙ or_true (is_open_side s.client)
  where
    or_true : (b : Bool) → (b || true) ≡ true
    or_true true = refl
    or_true false = refl
