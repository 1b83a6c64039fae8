-- How many deliveries wait for a basic.get that has them: no event but a get-ok takes one of them.
use Rattle.std.proofs.Common.{◌≡◌, ◌∙◌, ℕ, zero, suc, ◌+◌, ◌==◌, ◌≤◌, ◌<◌, not, ◌&&◌, Bool, true, false, if◌then◌else◌, cond, List, [], ◌∷◌, ◌++◌}
use Rattle.std.proofs.Common.{Option, None, Some, length, refl, sym, ap, subst, arith}
use Rattle.std.proofs.lemmas.Bool.Decides.{nat_tests}
use Rattle.std.specs.List.{AllByRecursion}
use Rattle.std.specs.Prelude.{is_some}
use Rattle.open_items.specs.Numbers.{first, how_many, passing, passing_above}
use Rattle.open_items.proofs.Counted.{least_is}
use Rattle.consume_path.specs.Deliveries as on
use Rattle.consume_path.specs.Deliveries.{DeliveryEvent}
use Rattle.consume_path.specs.Items.{is_no_ack, in_tag, is_on}
use Rattle.consume_path.specs.Journal.{Fate, IsTaken, arrives, caused, fate_of, first_cause, is_closed, new_fate, numbers_of, passes, tags_of, waits}
use Rattle.consume_path.specs.Kept.{is_getter}
use Rattle.consume_path.specs.Links.{one_if}
use Rattle.consume_path.specs.declared.delivery.Arriving.{Arriving}
use Rattle.consume_path.specs.declared.delivery.Content.{Content}
use Rattle.consume_path.specs.declared.delivery.Settle.{Settle}
use Rattle.consume_path.specs.declared.delivery.Settle.TheVariants.{Accepted, Released}
use Rattle.consume_path.specs.declared.delivery.Taker.{Taker}
use Rattle.consume_path.specs.declared.delivery.Taker.TheVariants.{Nobody, Getter}
use Rattle.consume_path.specs.declared.delivery.Taker.TheVariants.{Consumer as Consumes}
use Rattle.gate_model.proofs.Basics.{and_both, and_left, and_right}

-- ---- numbers that pass

-- where each that passes does still, no fewer pass
more_many : (t u : ℕ → Bool) (low n : ℕ) → ((k : ℕ) → low + 1 ≤ k → k ≤ low + n → t k ≡ true → u k ≡ true) → length (passing_above t low n) ≤ length (passing_above u low n)
more_many t u low zero f = omega arith
more_many t u low (suc n) f =
    pick (t (low + 1)) (u (low + 1)) (f (low + 1) (omega arith) (omega arith)) (more_many t u (low + 1) n (λ k a b. f k (omega (arith, a)) (omega (arith, b))))
  where
    pick : (a b : Bool) → (a ≡ true → b ≡ true) → length (passing_above t (low + 1) n) ≤ length (passing_above u (low + 1) n)
        → length (cond a ((low + 1) ∷ passing_above t (low + 1) n) (passing_above t (low + 1) n)) ≤ length (cond b ((low + 1) ∷ passing_above u (low + 1) n) (passing_above u (low + 1) n))
    pick true true g e = omega (arith, e)
    pick true false g e = absurd (let wrong : false ≡ true = g refl in cc)
    pick false true g e = omega (arith, e)
    pick false false g e = e

-- where each does but one, at most one fewer does
one_less : (j : ℕ) (t u : ℕ → Bool) (low n : ℕ) → ((k : ℕ) → low + 1 ≤ k → k ≤ low + n → (k == j) ≡ false → t k ≡ true → u k ≡ true)
    → length (passing_above t low n) ≤ length (passing_above u low n) + 1
one_less j t u low zero f = omega arith
one_less j t u low (suc n) f = by (low + 1 == j) refl (one_less j t u (low + 1) n (λ k a b. f k (omega (arith, a)) (omega (arith, b))))
  where
    rest : (low + 1 == j) ≡ true → length (passing_above t (low + 1) n) ≤ length (passing_above u (low + 1) n)
    rest e = more_many t u (low + 1) n (λ k a b. f k (omega (arith, a)) (omega (arith, b)) (off k a))
      where
        off : (k : ℕ) → (low + 1) + 1 ≤ k → (k == j) ≡ false
        off k a = let here : low + 1 ≡ j = grind (arith, nat_tests, e) in grind (arith, nat_tests, here, a)

    here : (a b : Bool) → length (passing_above t (low + 1) n) ≤ length (passing_above u (low + 1) n)
        → length (cond a ((low + 1) ∷ passing_above t (low + 1) n) (passing_above t (low + 1) n)) ≤ length (cond b ((low + 1) ∷ passing_above u (low + 1) n) (passing_above u (low + 1) n)) + 1
    here true true e = omega (arith, e)
    here true false e = omega (arith, e)
    here false true e = omega (arith, e)
    here false false e = omega (arith, e)

    other : (a b : Bool) → (a ≡ true → b ≡ true) → length (passing_above t (low + 1) n) ≤ length (passing_above u (low + 1) n) + 1
        → length (cond a ((low + 1) ∷ passing_above t (low + 1) n) (passing_above t (low + 1) n)) ≤ length (cond b ((low + 1) ∷ passing_above u (low + 1) n) (passing_above u (low + 1) n)) + 1
    other true true g e = omega (arith, e)
    other true false g e = absurd (let wrong : false ≡ true = g refl in cc)
    other false true g e = omega (arith, e)
    other false false g e = e

    by : (b : Bool) → (low + 1 == j) ≡ b → length (passing_above t (low + 1) n) ≤ length (passing_above u (low + 1) n) + 1
        → length (passing_above t low (suc n)) ≤ length (passing_above u low (suc n)) + 1
    by true e ih = here (t (low + 1)) (u (low + 1)) (rest e)
    by false e ih = other (t (low + 1)) (u (low + 1)) (f (low + 1) (omega arith) (omega arith) e) ih

-- where each of the others does before, and one did, fewer do
fewer_above : (m : ℕ) (t u : ℕ → Bool) (low n : ℕ) → ((k : ℕ) → u k ≡ true → t k ≡ true) → low + 1 ≤ m → m ≤ low + n → t m ≡ true → u m ≡ false
    → length (passing_above u low n) + 1 ≤ length (passing_above t low n)
fewer_above m t u low zero f a b e g = absurd (omega (arith, a, b))
fewer_above m t u low (suc n) f a b e g = by (low + 1 == m) refl (λ above. fewer_above m t u (low + 1) n f above (omega (arith, b)) e g)
  where
    here : (x y : Bool) → x ≡ true → y ≡ false → length (passing_above u (low + 1) n) ≤ length (passing_above t (low + 1) n)
        → length (cond y ((low + 1) ∷ passing_above u (low + 1) n) (passing_above u (low + 1) n)) + 1 ≤ length (cond x ((low + 1) ∷ passing_above t (low + 1) n) (passing_above t (low + 1) n))
    here true false i j le = omega (arith, le)
    here true true i j le = absurd cc
    here false y i j le = absurd cc

    other : (x y : Bool) → (y ≡ true → x ≡ true) → length (passing_above u (low + 1) n) + 1 ≤ length (passing_above t (low + 1) n)
        → length (cond y ((low + 1) ∷ passing_above u (low + 1) n) (passing_above u (low + 1) n)) + 1 ≤ length (cond x ((low + 1) ∷ passing_above t (low + 1) n) (passing_above t (low + 1) n))
    other true true i le = omega (arith, le)
    other true false i le = omega (arith, le)
    other false true i le = absurd (let wrong : false ≡ true = i refl in cc)
    other false false i le = le

    by : (b : Bool) → (low + 1 == m) ≡ b → ((low + 1) + 1 ≤ m → length (passing_above u (low + 1) n) + 1 ≤ length (passing_above t (low + 1) n))
        → length (passing_above u low (suc n)) + 1 ≤ length (passing_above t low (suc n))
    by true i rest =
        let same : low + 1 ≡ m = grind (arith, nat_tests, i) in
        here (t (low + 1)) (u (low + 1)) (ap t same ∙ e) (ap u same ∙ g) (more_many u t (low + 1) n (λ k x y. f k))
    by false i rest = other (t (low + 1)) (u (low + 1)) (f (low + 1)) (rest (grind (arith, nat_tests, i, a)))

pub fewer : (m : ℕ) (t u : ℕ → Bool) (n : ℕ) → ((k : ℕ) → u k ≡ true → t k ≡ true) → 1 ≤ m → m ≤ n → t m ≡ true → u m ≡ false → how_many u n + 1 ≤ how_many t n
fewer m t u n f a b e g = fewer_above m t u 0 n f (omega (arith, a)) (omega (arith, b)) e g

-- the last number adds to them
last_many : (t : ℕ → Bool) (low n k : ℕ) → k ≡ low + suc n → length (passing_above t low (suc n)) ≡ length (passing_above t low n) + one_if (t k)
last_many t low zero k e =
    let here : k ≡ low + 1 = omega (arith, e) in
    subst (λ (i : ℕ). length (cond (t (low + 1)) ((low + 1) ∷ []) []) ≡ 0 + one_if (t i)) (sym here) (bit (t (low + 1)))
  where
    bit : (b : Bool) → length (cond b ((low + 1) ∷ []) []) ≡ 0 + one_if b
    bit true = refl
    bit false = refl
last_many t low (suc n) k e = pick (t (low + 1)) (last_many t (low + 1) n k (omega (arith, e)))
  where
    pick : (b : Bool) → length (passing_above t (low + 1) (suc n)) ≡ length (passing_above t (low + 1) n) + one_if (t k)
        → length (cond b ((low + 1) ∷ passing_above t (low + 1) (suc n)) (passing_above t (low + 1) (suc n)))
        ≡ length (cond b ((low + 1) ∷ passing_above t (low + 1) n) (passing_above t (low + 1) n)) + one_if (t k)
    pick true e = omega (arith, e)
    pick false e = e

one_more : (t : ℕ → Bool) (n : ℕ) → how_many t (n + 1) ≡ how_many t n + one_if (t (n + 1))
one_more t n = let next : n + 1 ≡ suc n = omega arith in subst (λ (i : ℕ). length (passing_above t 0 i) ≡ how_many t n + one_if (t (n + 1))) (sym next) (last_many t 0 n (n + 1) (omega arith))

-- some pass
pub record Passes (t : ℕ → Bool) (n : ℕ) : Type 0 where
  pub number : ℕ
  pub from : 1 ≤ number
  pub most : number ≤ n
  pub is : t number ≡ true

pub some_passes : (t : ℕ → Bool) (n : ℕ) → 1 ≤ how_many t n → Passes t n
some_passes t n e = by (passing t n) refl e
  where
    by : (xs : List ℕ) → passing t n ≡ xs → 1 ≤ length xs → Passes t n
    by [] f g = absurd (omega (arith, g))
    by (x ∷ xs) f g = let l = least_is t n x (ap first f) in record { number = x; from = l.0; most = l.1; is = l.2 }

-- ---- deliveries that wait for a getter

abbrev pub is_getting : Fate → Bool
is_getting f = waits f && is_getter f.taker

abbrev pub getting_of : List DeliveryEvent → ℕ
getting_of ds = how_many (λ m. is_getting (fate_of m ds)) (numbers_of ds)

-- no deliver goes, no consumer is cancelled, and neither the life nor the end closes
abbrev pub keeps : DeliveryEvent → Bool
keeps (on.Delivered number) = false
keeps (on.Cancelled link) = false
keeps on.Closed = false
keeps on.EndLost = false
keeps y = true

kept_due : (c : Bool) (s : Settle) (due : Option Settle) (left : Bool) (tag : Option ℕ) → (is_some tag ≡ false → c ≡ false) → ((not (is_some due) && not left) && not (is_some tag)) ≡ true
    → ((not (is_some (caused c s due)) && not left) && not (is_some tag)) ≡ true
kept_due c s due left None f w = ap (λ (b : Bool). (not (is_some (caused b s due)) && not left) && true) (f refl) ∙ w
kept_due c s due left (Some t) f w = absurd (never _ w)
  where
    never : (a : Bool) → (a && false) ≡ true → ⊥
    never true e = cc
    never false e = cc

not_new : (m n : ℕ) → m ≤ n → (m == n + 1) ≡ false
not_new m n le = let less : m < n + 1 = omega (arith, le) in grind (arith, nat_tests, less)

written_none : (free complete : Bool) (tag : Option ℕ) (t : ℕ → Bool) → is_some tag ≡ false → (free && ((is_some tag && not complete) && passes t tag)) ≡ false
written_none true complete None t e = refl
written_none false complete None t e = refl
written_none free complete (Some x) t e = absurd cc

answered_none : (free : Bool) (tag : Option ℕ) (t : ℕ → Bool) → is_some tag ≡ false → (not free && passes t tag) ≡ false
answered_none true None t e = refl
answered_none false None t e = refl
answered_none free (Some x) t e = absurd cc

stays : (m : ℕ) (ds : List DeliveryEvent) (y : DeliveryEvent) → IsTaken ds m → keeps y ≡ true → is_getting (fate_of m ds) ≡ true → is_getting (fate_of m (y ∷ ds)) ≡ true
stays m ds (on.Arrived a content again) t e w =
    ap (λ (b : Bool). is_getting (if b then new_fate (is_closed ds) a content again else fate_of m ds)) (not_new m (numbers_of ds) t.1) ∙ w
stays m ds (on.Written tag) t e w =
    let f = fate_of m ds in
    and_both _ _ (kept_due _ Accepted f.due f.left f.tag (written_none (is_no_ack f.taker) f.complete f.tag (λ i. i == tag)) (and_left _ _ w)) (and_right (waits f) _ w)
stays m ds (on.Answered tag multiple s) t e w =
    let f = fate_of m ds in
    and_both _ _ (kept_due _ s f.due f.left f.tag (answered_none (is_no_ack f.taker) f.tag (in_tag tag multiple)) (and_left _ _ w)) (and_right (waits f) _ w)
stays m ds (on.Delivered number) t e w = absurd cc
stays m ds (on.Cancelled link) t e w = absurd cc
stays m ds on.Closed t e w = absurd cc
stays m ds on.EndLost t e w = absurd cc
stays m ds y t e w = w

-- where each waits still, no fewer do
grows : (ds : List DeliveryEvent) (y : DeliveryEvent) → ((m : ℕ) → IsTaken ds m → is_getting (fate_of m ds) ≡ true → is_getting (fate_of m (y ∷ ds)) ≡ true)
    → getting_of ds ≤ getting_of (y ∷ ds)
grows ds y f = by (arrives y)
  where
    t : ℕ → Bool
    t m = is_getting (fate_of m ds)

    u : ℕ → Bool
    u m = is_getting (fate_of m (y ∷ ds))

    more : how_many t (numbers_of ds) ≤ how_many u (numbers_of ds)
    more = more_many t u 0 (numbers_of ds) (λ k a b. f k (omega (arith, a), omega (arith, b)))

    by : (b : Bool) → how_many t (numbers_of ds) ≤ how_many u (if b then numbers_of ds + 1 else numbers_of ds)
    by true = let next : how_many u (numbers_of ds + 1) ≡ how_many u (numbers_of ds) + one_if (u (numbers_of ds + 1)) = one_more u (numbers_of ds) in omega (arith, more, next)
    by false = more

pub kept_many : (ys ds : List DeliveryEvent) → AllByRecursion (λ y. keeps y ≡ true) ys → getting_of ds ≤ getting_of (ys ++ ds)
kept_many [] ds a = omega arith
kept_many (y ∷ ys) ds a =
    let old : getting_of ds ≤ getting_of (ys ++ ds) = kept_many ys ds a.1 in
    let new : getting_of (ys ++ ds) ≤ getting_of (y ∷ ys ++ ds) = grows (ys ++ ds) y (λ m t w. stays m (ys ++ ds) y t a.0 w) in
    omega (arith, old, new)

-- one comes that a get has
pub new_getting : (ds : List DeliveryEvent) (a : Arriving) (content : Option Content) (again : Bool) → is_closed ds ≡ false → is_some content ≡ true → is_getter a.taker ≡ true
    → getting_of ds + 1 ≤ getting_of (on.Arrived a content again ∷ ds)
new_getting ds a content again o i g =
    let more : how_many t (numbers_of ds) ≤ how_many u (numbers_of ds) = more_many t u 0 (numbers_of ds) (λ k x y w. stays k ds (on.Arrived a content again) (omega (arith, x), omega (arith, y)) refl w) in
    let next : how_many u (numbers_of ds + 1) ≡ how_many u (numbers_of ds) + one_if (u (numbers_of ds + 1)) = one_more u (numbers_of ds) in
    let one : one_if (u (numbers_of ds + 1)) ≡ 1 = ap one_if last in
    omega (arith, more, next, one)
  where
    t : ℕ → Bool
    t m = is_getting (fate_of m ds)

    u : ℕ → Bool
    u m = is_getting (fate_of m (on.Arrived a content again ∷ ds))

    new : (closed image : Bool) (taker : Taker) → closed ≡ false → image ≡ true → is_getter taker ≡ true → ((not (is_some (first_cause closed image taker)) && true) && true) ≡ true
    new false true (Getter number free) e f g = refl
    new false true Nobody e f g = absurd cc
    new false true (Consumes free limit) e f g = absurd cc
    new true image taker e f g = absurd cc
    new closed false taker e f g = absurd cc

    last : u (numbers_of ds + 1) ≡ true
    last =
        let here : (numbers_of ds + 1 == numbers_of ds + 1) ≡ true = grind (arith, nat_tests) in
        ap (λ (b : Bool). is_getting (if b then new_fate (is_closed ds) a content again else fate_of (numbers_of ds + 1) ds)) here
        ∙ and_both _ _ (new (is_closed ds) (is_some content) a.taker o i g) g

-- a deliver or a get-ok goes
other_stays : (m number : ℕ) (ds : List DeliveryEvent) → (m == number) ≡ false → is_getting (fate_of m ds) ≡ true → is_getting (fate_of m (on.Delivered number ∷ ds)) ≡ true
other_stays m number ds off w =
    let f = fate_of m ds in ap (λ (b : Bool). is_getting (record f { tag = if b && waits f then Some (tags_of ds + 1) else f.tag })) off ∙ w

pub one_taken : (ds : List DeliveryEvent) (number : ℕ) → getting_of ds ≤ getting_of (on.Delivered number ∷ ds) + 1
one_taken ds number = one_less number (λ m. is_getting (fate_of m ds)) (λ m. is_getting (fate_of m (on.Delivered number ∷ ds))) 0 (numbers_of ds) (λ k a b off w. other_stays k number ds off w)

pub none_taken : (ds : List DeliveryEvent) (number : ℕ) → is_getting (fate_of number ds) ≡ false → getting_of ds ≤ getting_of (on.Delivered number ∷ ds)
none_taken ds number none = grows ds (on.Delivered number) (λ m t w. by m (m == number) refl w)
  where
    by : (m : ℕ) (b : Bool) → (m == number) ≡ b → is_getting (fate_of m ds) ≡ true → is_getting (fate_of m (on.Delivered number ∷ ds)) ≡ true
    by m true e w = let same : m ≡ number = grind (arith, nat_tests, e) in let wrong : is_getting (fate_of number ds) ≡ true = ap (λ (i : ℕ). is_getting (fate_of i ds)) (sym same) ∙ w in absurd cc
    by m false e w = other_stays m number ds e w

-- a consumer is cancelled
pub none_cancelled : (ds : List DeliveryEvent) (k : ℕ) → ((m : ℕ) → IsTaken ds m → is_getting (fate_of m ds) ≡ true → is_on k (fate_of m ds).link ≡ false)
    → getting_of ds ≤ getting_of (on.Cancelled k ∷ ds)
none_cancelled ds k off = grows ds (on.Cancelled k) (λ m t w. by m (off m t w) w)
  where
    by : (m : ℕ) → is_on k (fate_of m ds).link ≡ false → is_getting (fate_of m ds) ≡ true → is_getting (fate_of m (on.Cancelled k ∷ ds)) ≡ true
    by m e w = let f = fate_of m ds in ap (λ (b : Bool). is_getting (record f { due = caused (b && not (is_some f.tag)) Released f.due })) e ∙ w

-- one that passes is among those that do
passing_at : (Q : ℕ → Type 0) (t : ℕ → Bool) (m low n : ℕ) → t m ≡ true → AllByRecursion Q (passing_above t low n) → low + 1 ≤ m → m ≤ low + n → Q m
passing_at Q t m low zero is a from most = absurd (omega (arith, from, most))
passing_at Q t m low (suc n) is a from most = by (low + 1 == m) refl (t (low + 1)) refl a (λ b above. passing_at Q t m (low + 1) n is b above (omega (arith, most)))
  where
    by : (b : Bool) → (low + 1 == m) ≡ b → (c : Bool) → t (low + 1) ≡ c → AllByRecursion Q (cond c ((low + 1) ∷ passing_above t (low + 1) n) (passing_above t (low + 1) n))
        → (AllByRecursion Q (passing_above t (low + 1) n) → (low + 1) + 1 ≤ m → Q m) → Q m
    by true e true f a rest = let same : low + 1 ≡ m = grind (arith, nat_tests, e) in subst Q same a.0
    by true e false f a rest = let same : low + 1 ≡ m = grind (arith, nat_tests, e) in absurd (let wrong : true ≡ false = sym is ∙ ap t (sym same) ∙ f in cc)
    by false e true f a rest = rest a.1 (grind (arith, nat_tests, e, from))
    by false e false f a rest = rest a (grind (arith, nat_tests, e, from))

pub all_passing : (Q : ℕ → Type 0) (t : ℕ → Bool) (n m : ℕ) → AllByRecursion Q (passing t n) → 1 ≤ m → m ≤ n → t m ≡ true → Q m
all_passing Q t n m a from most is = passing_at Q t m 0 n is a (omega (arith, from)) (omega (arith, most))

abbrev pub IsPassing : (ℕ → Bool) → ℕ → ℕ → Type 0
IsPassing t n m = (1 ≤ m) × (m ≤ n) × (t m ≡ true)

passing_from : (t : ℕ → Bool) (n low k : ℕ) → low + k ≤ n → AllByRecursion (IsPassing t n) (passing_above t low k)
passing_from t n low zero le = tt
passing_from t n low (suc k) le = by (t (low + 1)) refl (passing_from t n (low + 1) k (omega (arith, le)))
  where
    by : (b : Bool) → t (low + 1) ≡ b → AllByRecursion (IsPassing t n) (passing_above t (low + 1) k)
        → AllByRecursion (IsPassing t n) (cond b ((low + 1) ∷ passing_above t (low + 1) k) (passing_above t (low + 1) k))
    by true e rest = ((omega arith, omega (arith, le), e), rest)
    by false e rest = rest

pub passing_all : (t : ℕ → Bool) (n : ℕ) → AllByRecursion (IsPassing t n) (passing t n)
passing_all t n = passing_from t n 0 n (omega arith)
