-- Sets of names: what an insertion leaves, and how a set stands for a list.
use Rattle.std.proofs.Common.{◌≡◌, ℕ, Bool, true, false, ◌||◌, List, [], ◌∷◌, ◌++◌, refl, sym, ap}
use Rattle.std.proofs.Common.{◌∙◌}
use Rattle.std.specs.BTreeSet.{insert_key}
use Rattle.std.specs.Cmp.Lexicographic.{slice_cmp}
use Rattle.std.specs.List.{list_any}
use Rattle.std.specs.Ordering.{is_eq, nat_cmp, match_ordering}
use Rattle.std.specs.declared.cmp.Ordering.{Ordering}
use Rattle.std.specs.declared.cmp.Ordering.TheVariants.{Less, Equal, Greater}
use Rattle.std.specs.Str.{bytes_eq}
use Rattle.std.proofs.lemmas.Map.Text.{is_eq-slice_cmp}
use Rattle.std.proofs.lemmas.Slice.Eq.{bytes_eq-Decides}
use Rattle.property_map.specs.Texts.{is_among}
use Rattle.property_map.specs.Names.{Holds, Adds}
use Rattle.property_map.specs.declared.names.Names.{Names}

-- texts are compared either way round
pub either_side : (s t : List ℕ) → bytes_eq s t ≡ bytes_eq t s
either_side s t = at (bytes_eq s t) (bytes_eq t s) refl refl
  where
    at : (a b : Bool) → bytes_eq s t ≡ a → bytes_eq t s ≡ b → a ≡ b
    at true true e f = refl
    at false false e f = refl
    at true false e f = sym ((bytes_eq-Decides t s).1 (sym ((bytes_eq-Decides s t).0 e))) ∙ f
    at false true e f = sym e ∙ (bytes_eq-Decides s t).1 (sym ((bytes_eq-Decides t s).0 f))

-- ---- insertion

either : (a b c : Bool) → a ≡ b → (a || c) ≡ (b || (a || c))
either true true c e = refl
either false false c e = refl
either true false c e = absurd (cc e)
either false true c e = absurd (cc e)

swapped : (a b c : Bool) → (a || (b || c)) ≡ (b || (a || c))
swapped true true c = refl
swapped true false c = refl
swapped false true c = refl
swapped false false c = refl

-- a test that doesn't tell keys apart that are equal finds the key that was inserted, and what it found before
pub any_inserted : {K : Type 0} (test : K → Bool) (cmp : K → K → Ordering) (ks : List K) (k : K) → ((x : K) → cmp k x ≡ Equal → test x ≡ test k)
    → list_any test (insert_key cmp ks k) ≡ (test k || list_any test ks)
any_inserted test cmp [] k same = refl
any_inserted {K} test cmp (x ∷ xs) k same = at (cmp k x) refl (any_inserted test cmp xs k same)
  where
    at : (o : Ordering) → cmp k x ≡ o → list_any test (insert_key cmp xs k) ≡ (test k || list_any test xs)
        → list_any test (match_ordering o (k ∷ x ∷ xs) (x ∷ xs) (x ∷ insert_key cmp xs k)) ≡ (test k || (test x || list_any test xs))
    at Less e rest = refl
    at Equal e rest = either (test x) (test k) (list_any test xs) (same x e)
    at Greater e rest = ap (λ (b : Bool). test x || b) rest ∙ swapped (test x) (test k) (list_any test xs)

-- keys that are texts: a set has one more
pub adds : {K : Type 0} (text : K → List ℕ) (old new : List K) (key : K) (name : List ℕ) → text key ≡ name → new ≡ insert_key (λ x y. slice_cmp nat_cmp (text x) (text y)) old key
    → (s : List ℕ) → list_any (λ k. is_eq (slice_cmp nat_cmp s (text k))) new ≡ (bytes_eq name s || list_any (λ k. is_eq (slice_cmp nat_cmp s (text k))) old)
adds {K} text old new key name is put s =
    let test : K → Bool = λ k. is_eq (slice_cmp nat_cmp s (text k)) in
    let found : test key ≡ bytes_eq name s = is_eq-slice_cmp s (text key) ∙ either_side s (text key) ∙ ap (λ (t : List ℕ). bytes_eq t s) is in
    ap (λ (ks : List K). list_any test ks) put
    ∙ any_inserted test (λ x y. slice_cmp nat_cmp (text x) (text y)) old key (λ x e.
    ap (λ (t : List ℕ). is_eq (slice_cmp nat_cmp s t)) (sym ((bytes_eq-Decides (text key) (text x)).0 (sym (is_eq-slice_cmp (text key) (text x)) ∙ ap is_eq e))))
    ∙ ap (λ (b : Bool). b || list_any test old) found

-- ---- lists

pub one_more : (s : List ℕ) (names : List (List ℕ)) (name : List ℕ) → is_among s (names ++ name ∷ []) ≡ (bytes_eq name s || is_among s names)
one_more s [] name = refl
one_more s (t ∷ ts) name = ap (λ (b : Bool). bytes_eq t s || b) (one_more s ts name) ∙ swapped (bytes_eq t s) (bytes_eq name s) (is_among s ts)

-- a set that stands for a list stands for it with one more, after that was added
pub holds_more : (old new : Names) (before : List (List ℕ)) (name : List ℕ) → Holds old before → Adds old name new → Holds new (before ++ name ∷ [])
holds_more old new before name h more s = more s ∙ ap (λ (b : Bool). bytes_eq name s || b) (h s) ∙ sym (one_more s before name)
