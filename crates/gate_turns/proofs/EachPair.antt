-- Each pair of a list has one entry more: the loop over them, and what they keep.
use Rattle.std.proofs.Common.{◌≡◌, ℕ, ◌+◌, ◌<◌, true, false, List, [], ◌∷◌, ◌++◌, length, get_or}
use Rattle.std.proofs.Common.{append-nil, refl, sym, ap, ◌∙◌, subst, arith}
use Rattle.std.proofs.Math.ListN.{set}
use Rattle.std.proofs.Math.Seq.{get_or-append_seam, set-append_seam, append_snoc}
use Rattle.std.proofs.lemmas.List.{length-append}
use Rattle.std.specs.List.{AllByRecursion}
use Rattle.gate_outside.specs.declared.ports.End.{End}
use Rattle.gate_relay.specs.declared.sides.Sides.{Sides}
use Rattle.gate_relay.specs.Entries.{Entry, Over}
use Rattle.gate_relay.specs.Sides.{has_end}
use Rattle.gate_runs.specs.Journal.{journal, since}
use Rattle.gate_runs.specs.Marks.{History}
use Rattle.gate_turns.specs.declared.live.Live.{Live}
use Rattle.gate_turns.specs.Openings.{HasEntry, HaveEntry, numbered_sides}
use Rattle.gate_turns.specs.Represents.{Represents}
use Rattle.gate_turns.specs.Rounds.{HasEnds, IsIn, IsRising, OwnsEnds, is_among, numbers}

-- ---- the loop

-- so many pairs of a list have it
pub record HaveSoFar {A : Type 0} (r : A → List Entry → Type 0) (e : Entry) (i : ℕ) (old live : List (Live A)) : Type 0 where
  pub front : List (Live A)
  pub done : List (Live A)
  pub back : List (Live A)
  pub was : old ≡ front ++ back
  pub is : live ≡ done ++ back
  pub count : length done ≡ i
  pub have : HaveEntry r e front done

pub have_none : {A : Type 0} (r : A → List Entry → Type 0) (e : Entry) (live : List (Live A)) → HaveSoFar r e 0 live live
have_none {A} r e live = record { front = []; done = []; back = live; was = refl; is = refl; count = refl; have = tt }

have-push : {A : Type 0} (r : A → List Entry → Type 0) (e : Entry) (front done : List (Live A)) (a b : Live A) → HaveEntry r e front done → HasEntry r e a b
    → HaveEntry r e (front ++ a ∷ []) (done ++ b ∷ [])
have-push {A} r e [] [] a b t x = (x, tt)
have-push {A} r e [] (c ∷ cs) a b t x = absurd t
have-push {A} r e (c ∷ cs) [] a b t x = absurd t
have-push {A} r e (c ∷ cs) (d ∷ ds) a b t x = (t.0, have-push r e cs ds a b t.1 x)

-- one pair more has it
pub have_more : {A : Type 0} (r : A → List Entry → Type 0) (e : Entry) (i : ℕ) (old live : List (Live A)) (a b : Live A) → i < length live → a ≡ get_or live i a
    → HasEntry r e a b → HaveSoFar r e i old live → HaveSoFar r e (i + 1) old (set live i b)
have_more {A} r e i old live a b lt here x t = by t.back t.was t.is
  where
    by : (back : List (Live A)) → old ≡ t.front ++ back → live ≡ t.done ++ back → HaveSoFar r e (i + 1) old (set live i b)
    by [] f g = absurd (omega (arith, lt, ap length (g ∙ append-nil t.done), t.count))
    by (y ∷ ys) f g =
        let place : length t.done ≡ i = t.count in
        let same : a ≡ y = here ∙ ap (λ (xs : List (Live A)). get_or xs i a) g ∙ ap (λ (n : ℕ). get_or (t.done ++ y ∷ ys) n a) (sym place) ∙ get_or-append_seam t.done y ys a in
        let after : set live i b ≡ t.done ++ b ∷ ys = ap (λ (xs : List (Live A)). set xs i b) g ∙ ap (λ (n : ℕ). set (t.done ++ y ∷ ys) n b) (sym place) ∙ set-append_seam t.done y ys b in
        record {
          front = t.front ++ y ∷ [];
          done = t.done ++ b ∷ [];
          back = ys;
          was = f ∙ sym (append_snoc t.front y ys);
          is = after ∙ sym (append_snoc t.done b ys);
          count = omega (arith, length-append t.done (b ∷ []), place);
          have = have-push r e t.front t.done y b t.have (subst (λ (p : Live A). HasEntry r e p b) same x);
        }

-- all have it
pub have_all : {A : Type 0} (r : A → List Entry → Type 0) (e : Entry) (i : ℕ) (old live : List (Live A)) → length live ≡ i → HaveSoFar r e i old live → HaveEntry r e old live
have_all {A} r e i old live all t = by t.back t.was t.is
  where
    by : (back : List (Live A)) → old ≡ t.front ++ back → live ≡ t.done ++ back → HaveEntry r e old live
    by [] f g = rw (f, g, append-nil t.front, append-nil t.done) t.have
    by (y ∷ ys) f g = absurd (omega (arith, all, ap length g, length-append t.done (y ∷ ys), t.count))

-- ---- what they keep

pub numbers_kept : {A : Type 0} (r : A → List Entry → Type 0) (e : Entry) (old new : List (Live A)) → HaveEntry r e old new → numbers new ≡ numbers old
numbers_kept {A} r e [] [] t = refl
numbers_kept {A} r e [] (b ∷ bs) t = absurd t
numbers_kept {A} r e (a ∷ xs) [] t = absurd t
numbers_kept {A} r e (a ∷ xs) (b ∷ bs) t = rw (t.0.number, numbers_kept r e xs bs t.1) refl

rising_kept : {A : Type 0} (r : A → List Entry → Type 0) (e : Entry) (low : ℕ) (old new : List (Live A)) → HaveEntry r e old new → IsRising low old → IsRising low new
rising_kept {A} r e low [] [] t s = tt
rising_kept {A} r e low [] (b ∷ bs) t s = absurd t
rising_kept {A} r e low (a ∷ xs) [] t s = absurd t
rising_kept {A} r e low (a ∷ xs) (b ∷ bs) t s = rw t.0.number (s.0, rising_kept r e (a.number + 1) xs bs t.1 s.1)

each_kept : {A : Type 0} (r : A → List Entry → Type 0) (e : Entry) (pairs : ℕ) (ends : List (ℕ × End)) (old new : List (Live A)) → HaveEntry r e old new
    → AllByRecursion (HasEnds pairs ends) old → AllByRecursion (HasEnds pairs ends) new
each_kept {A} r e pairs ends [] [] t all = tt
each_kept {A} r e pairs ends [] (b ∷ bs) t all = absurd t
each_kept {A} r e pairs ends (a ∷ xs) [] t all = absurd t
each_kept {A} r e pairs ends (a ∷ xs) (b ∷ bs) t all = (
  record { below = rw t.0.number all.0.below; has = rw t.0.sides all.0.has; open_ends = rw (t.0.number, t.0.sides) all.0.open_ends },
  each_kept r e pairs ends xs bs t.1 all.1,
)

-- the ports' open ends are theirs
pub owns_kept : {A : Type 0} (r : A → List Entry → Type 0) (e : Entry) (pairs : ℕ) (ends : List (ℕ × End)) (old new : List (Live A)) → HaveEntry r e old new
    → OwnsEnds old pairs ends → OwnsEnds new pairs ends
owns_kept {A} r e pairs ends old new t c = record {
  rising = rising_kept r e 0 old new t c.rising;
  each = each_kept r e pairs ends old new t c.each;
  only = λ p end h. c.only p end (subst (λ (ps : List ℕ). is_among p ps ≡ false) (numbers_kept r e old new t) h);
}

-- ---- what they keep whatever their states are

-- nothing is known of a pair's state
abbrev pub none_represents : {A : Type 0} → A → List Entry → Type 0
none_represents state h = ⊥

pub ends_kept : {A : Type 0} (e : Entry) (old new : List (Live A)) → HaveEntry none_represents e old new → numbered_sides new ≡ numbered_sides old
ends_kept {A} e [] [] t = refl
ends_kept {A} e [] (b ∷ bs) t = absurd t
ends_kept {A} e (a ∷ xs) [] t = absurd t
ends_kept {A} e (a ∷ xs) (b ∷ bs) t = rw (t.0.number, t.0.sides, ends_kept e xs bs t.1) refl

abbrev numbered_side : {A : Type 0} → Live A → ℕ × Sides
numbered_side b = (b.number, b.sides)

kept_ends : {A : Type 0} (e : Entry) (old new : List (Live A)) → numbered_sides new ≡ numbered_sides old → HaveEntry none_represents e old new
kept_ends {A} e [] [] t = tt
kept_ends {A} e [] (b ∷ bs) t = absurd cc
kept_ends {A} e (a ∷ xs) [] t = absurd cc
kept_ends {A} e (a ∷ xs) (b ∷ bs) t =
    let here : numbered_side b ≡ numbered_side a = cc in (
      record { number = ap (λ (x : ℕ × Sides). x.0) here; sides = ap (λ (x : ℕ × Sides). x.1) here; entry = λ h none. absurd none.relay },
      kept_ends e xs bs cc,
    )

pub owns_told : {A : Type 0} (old new : List (Live A)) (pairs : ℕ) (ends : List (ℕ × End)) → numbered_sides new ≡ numbered_sides old → OwnsEnds old pairs ends → OwnsEnds new pairs ends
owns_told {A} old new pairs ends same o = owns_kept none_represents Over pairs ends old new (kept_ends Over old new same) o

-- ---- what their journals say

-- the journal of a pair that has an end has begun
since_begun : {A : Type 0} (r : A → List Entry → Type 0) (e : Entry) (a b : Live A) (h : List Entry) → has_end a.sides ≡ true → Represents r a h → Represents r b (e ∷ h)
    → Represents r b (since e h)
since_begun {A} r e a b [] has was is = let none : has_end a.sides ≡ false = ap has_end was.sides in absurd cc
since_begun {A} r e a b (x ∷ h) has was is = is

-- the state of each is what its journal says, after a mark that adds the entry to each journal that has begun
pub each_in : {A : Type 0} (r : A → List Entry → Type 0) (e : Entry) (pairs : ℕ) (ends : List (ℕ × End)) (m n : History) (old new : List (Live A))
    → ((p : ℕ) → journal p n ≡ since e (journal p m)) → HaveEntry r e old new → AllByRecursion (HasEnds pairs ends) old
    → AllByRecursion (IsIn r m) old → AllByRecursion (IsIn r n) new
each_in {A} r e pairs ends m n [] [] adds t ends_are all = tt
each_in {A} r e pairs ends m n [] (b ∷ bs) adds t ends_are all = absurd t
each_in {A} r e pairs ends m n (a ∷ xs) [] adds t ends_are all = absurd t
each_in {A} r e pairs ends m n (a ∷ xs) (b ∷ bs) adds t ends_are all =
    let here : Represents r b (since e (journal a.number m)) =
    since_begun r e a b (journal a.number m) ends_are.0.has all.0 (t.0.entry (journal a.number m) all.0) in (
      subst (λ (h : List Entry). Represents r b h) (sym (ap (λ (p : ℕ). journal p n) t.0.number ∙ adds a.number)) here,
      each_in r e pairs ends m n xs bs adds t.1 ends_are.1 all.1,
    )
