-- Lists, maps and arrays: which sizes fit, the first of their kinds, and the size, the count and the body that fill a content.
use Rattle.std.proofs.Common.{◌≡◌, ◌≢◌, ℕ, ◌^◌, ◌<◌, ◌≤◌, Bool, true, false, cond, eqb, ltb, ◌&&◌}
use Rattle.std.proofs.Common.{List, ◌++◌, length, refl, ap, subst, ◌∙◌, arith}
use Rattle.std.proofs.lemmas.Bool.{cond_both, eqb-true, eqb-false, ltb-true, ltb-false}
use Rattle.std.proofs.lemmas.List.{length-append}
use Rattle.std.specs.Int.{byte_len, to_be_bytes}
use Rattle.wire_base.specs.Spelling.{text_of, IsNumber}
use Rattle.types_10.specs.Kinds.{kind_byte, size_width}
use Rattle.types_10.specs.Grammar.{IsFilled, IsThen}
use Rattle.types_10.specs.Writing.{is_brief, list_kind, held_content}
use Rattle.types_10.proofs.Wider.{IsWider, same_wider, later_wider}
use Rattle.types_10.specs.declared.kind.Kind.{Kind}
use Rattle.types_10.specs.declared.kind.Kind.TheVariants as kind
use Rattle.types_10.specs.declared.kind.Size.{Size}
use Rattle.types_10.specs.declared.kind.Size.TheVariants as size

-- the count fits, and so does the size of the count and the body
pub record IsHeld (z : Size) (n : ℕ) (body : List ℕ) : Type 0 where
  pub count : n < 256 ^ byte_len (size_width z)
  pub size : length (to_be_bytes (size_width z) n ++ body) < 256 ^ byte_len (size_width z)

-- a body by whether it is brief
pub by_brief : (P : Kind → Type 0) (n : ℕ) (body : List ℕ) (a b : Kind) → (IsHeld size.Short n body → P a) → ((IsHeld size.Short n body → ⊥) → P b) → P (cond (is_brief n body) a b)
by_brief P n body a b x y = at (ltb n 256) (ltb (length body) 255) refl refl
  where
    at : (s t : Bool) → ltb n 256 ≡ s → ltb (length body) 255 ≡ t → P (cond (s && t) a b)
    at true true e f =
        let few : n < 256 = ltb-true _ _ e in
        let brief : length body < 255 = ltb-true _ _ f in
        x (record { count = omega arith; size = omega arith })
    at true false e f = let long : 255 ≤ length body = ltb-false _ _ f in y (λ h. omega (arith, h.size))
    at false t e f = let many : 256 ≤ n = ltb-false _ _ e in y (λ h. omega (arith, h.count))

pub by_list : (P : Kind → Type 0) (n : ℕ) (body : List ℕ) → (n ≡ 0 → P kind.EmptyList) → (IsHeld size.Short n body → P (kind.List size.Short)) → ((IsHeld size.Short n body → ⊥) → n ≢ 0 → P (kind.List size.Long)) → P (list_kind n body)
by_list P n body x y z = cond_both (eqb n 0) kind.EmptyList _ P (λ e. x (eqb-true _ _ e)) (λ e. by_brief P n body (kind.List size.Short) (kind.List size.Long) y (λ h. z h (eqb-false _ _ e)))

-- ---- the first kind, against the sizes that fit

pub list_for : (z : Size) (n : ℕ) (body : List ℕ) → IsHeld z n body → IsWider (list_kind n body) (kind.List z)
list_for size.Short n body h = by_list (λ k. IsWider k (kind.List size.Short)) n body (λ e. later_wider _ _ refl refl refl) (λ b. same_wider _) (λ b e. absurd (b h))
list_for size.Long n body h = by_list (λ k. IsWider k (kind.List size.Long)) n body (λ e. later_wider _ _ refl refl refl) (λ b. later_wider _ _ refl refl refl) (λ b e. same_wider _)

pub empty_for : (n : ℕ) (body : List ℕ) → n ≡ 0 → IsWider (list_kind n body) kind.EmptyList
empty_for n body e = rw e (same_wider kind.EmptyList)

pub list_empty : (n : ℕ) (body : List ℕ) → IsWider (list_kind n body) kind.EmptyList → n ≡ 0
list_empty n body = by_list (λ k. IsWider k kind.EmptyList → n ≡ 0) n body (λ e w. e) (λ b w. absurd (omega (arith, w.up.later))) (λ b e w. absurd (omega (arith, w.up.later)))

-- a size in four bytes holds what is less than 4 GiB
long_held : (n : ℕ) (body : List ℕ) → n < 2 ^ 32 → length (text_of (size_width size.Long) (to_be_bytes (size_width size.Long) n ++ body)) < 2 ^ 32 → IsHeld size.Long n body
long_held n body c l = record { count = c; size = omega arith }

pub list_held : (z : Size) (n : ℕ) (body : List ℕ) → IsWider (list_kind n body) (kind.List z) → n ≤ length body → (n ≡ 0 → length body ≡ 0)
    → length (held_content (kind.List z) n body) < 2 ^ 32 → IsHeld z n body
list_held size.Short n body w c e l =
    by_list (λ k. IsWider k (kind.List size.Short) → IsHeld size.Short n body) n body
    (λ f w. let none : length body ≡ 0 = e f in record { count = omega arith; size = omega arith }) (λ b w. b) (λ b f w. absurd (omega (arith, w.up.later))) w
list_held size.Long n body w c e l = long_held n body (omega arith) l

-- maps and arrays have two kinds each
pub sized_for : (K : Size → Kind) → IsWider (K size.Short) (K size.Long) → (z : Size) (n : ℕ) (body : List ℕ) → IsHeld z n body → IsWider (cond (is_brief n body) (K size.Short) (K size.Long)) (K z)
sized_for K w size.Short n body h = by_brief (λ k. IsWider k (K size.Short)) n body (K size.Short) (K size.Long) (λ b. same_wider _) (λ b. absurd (b h))
sized_for K w size.Long n body h = by_brief (λ k. IsWider k (K size.Long)) n body (K size.Short) (K size.Long) (λ b. w) (λ b. same_wider _)

pub sized_held : (K : Size → Kind) → kind_byte (K size.Short) < kind_byte (K size.Long) → (z : Size) (n : ℕ) (body : List ℕ) → IsWider (cond (is_brief n body) (K size.Short) (K size.Long)) (K z) → n < 2 ^ 32
    → length (text_of (size_width z) (to_be_bytes (size_width z) n ++ body)) < 2 ^ 32 → IsHeld z n body
sized_held K s size.Short n body w c l = by_brief (λ k. IsWider k (K size.Short) → IsHeld size.Short n body) n body (K size.Short) (K size.Long) (λ b w. b) (λ b w. absurd (omega (arith, w.up.later))) w
sized_held K s size.Long n body w c l = long_held n body c l

-- ---- contents

-- the size, the count and the body
pub filled_is : {A : Type 0} (S : ℕ → A → List ℕ → Type 0) (z : Size) (n : ℕ) (body : List ℕ) (x : A) → IsHeld z n body → S n x body
    → IsFilled (size_width z) (IsThen (IsNumber (size_width z)) S) x (text_of (size_width z) (to_be_bytes (size_width z) n ++ body))
filled_is S z n body x h s = (to_be_bytes (size_width z) n ++ body, (n, to_be_bytes (size_width z) n, body, (h.count, refl), s, refl), (h.size, refl))

-- the body that stands in such a content
pub filled_has : {A : Type 0} (S : ℕ → A → List ℕ → Type 0) (z : Size) (x : A) (text : List ℕ) → IsFilled (size_width z) (IsThen (IsNumber (size_width z)) S) x text
    → (n : ℕ) × (body : List ℕ) × S n x body × IsHeld z n body
filled_has S z x text h =
    let c = h.1 in
    let parts : h.0 ≡ to_be_bytes (size_width z) c.0 ++ c.2 = c.5 ∙ ap (λ (t : List ℕ). t ++ c.2) c.3.1 in
    (c.0, c.2, c.4, record { count = c.3.0; size = subst (λ (t : List ℕ). length t < 256 ^ byte_len (size_width z)) parts h.2.0 })

-- the body is shorter than the content
pub body_short : (z : Size) (n : ℕ) (body : List ℕ) → length (text_of (size_width z) (to_be_bytes (size_width z) n ++ body)) < 2 ^ 32 → length body < 2 ^ 32
body_short z n body l = omega (arith, length-append (to_be_bytes (size_width z) (length (to_be_bytes (size_width z) n ++ body))) (to_be_bytes (size_width z) n ++ body), length-append (to_be_bytes (size_width z) n) body)
