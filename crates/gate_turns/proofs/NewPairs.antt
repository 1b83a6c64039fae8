-- What an accept does to the list of the live pairs and to the ports' open ends.
use Rattle.std.proofs.Common.{◌≡◌, ℕ, ◌+◌, ◌<◌, ◌≤◌, ◌==◌, Bool, true, false, ◌||◌, ◌&&◌, List, []}
use Rattle.std.proofs.Common.{◌∷◌, ◌++◌, refl, sym, ap, ◌∙◌, arith, Result, Ok, Err, OnOk, inl, inr}
use Rattle.std.proofs.lemmas.Bool.{or_parts}
use Rattle.std.proofs.lemmas.Bool.Decides.{eqb_tells}
use Rattle.std.specs.List.{AllByRecursion}
use Rattle.gate_outside.specs.declared.ports.End.{End}
use Rattle.gate_outside.specs.declared.ports.End.TheVariants.{Client, Up}
use Rattle.gate_outside.specs.Ends.{is_open, is_end, closed, same_end}
use Rattle.gate_relay.specs.declared.sides.Side.TheVariants as side
use Rattle.gate_relay.specs.Entries.{Entry, Began}
use Rattle.gate_relay.specs.Sides.{has_end, is_open_side, new_sides, side_of, with_side}
use Rattle.gate_runs.specs.Next.{without}
use Rattle.gate_turns.specs.declared.live.Live.{Live}
use Rattle.gate_turns.specs.declared.service.Service.{Service}
use Rattle.gate_turns.specs.Openings.{Admitted}
use Rattle.gate_turns.specs.Parts.{EndsAre, KeepsOthers}
use Rattle.gate_turns.specs.Rounds.{HasEnds, Holds, IsRising, OwnsEnds, is_among, numbers}
use Rattle.wire_base.specs.declared.memory.Memory.{Memory}
use Rattle.gate_turns.proofs.Ends.{closed_ends, closed_others, open_more, or_right, other_end}
use Rattle.gate_turns.proofs.OneMark.{is_same, is_other}

-- ---- a pair that lives

pub admits : {A : Type 0} (r : A → List Entry → Type 0) (result : Result (Unit {0}) Memory) (pair : Live A) (p ms : ℕ) (old new : Service A)
    → OnOk result (new.live.items ≡ old.live.items ++ pair ∷ []) → pair.number ≡ p → pair.sides ≡ new_sides → r pair.relay.value (Began p ms ∷ [])
    → OnOk result (Admitted r p ms old new)
admits {A} r (Ok done) pair p ms old new ok numbered is begins = record {
  pair = pair;
  live = ok;
  number = numbered;
  represents = record { relay = begins; sides = is };
}
admits {A} r (Err memory) pair p ms old new ok numbered is begins = tt

-- the pair was counted before
pub admits_counted : {A : Type 0} (r : A → List Entry → Type 0) (result : Result (Unit {0}) Memory) (p ms : ℕ) (old mid new : Service A) → mid.live.items ≡ old.live.items
    → OnOk result (Admitted r p ms mid new) → OnOk result (Admitted r p ms old new)
admits_counted {A} r (Ok done) p ms old mid new same a = record {
  pair = a.pair;
  live = a.live ∙ ap (λ (xs : List (Live A)). xs ++ a.pair ∷ []) same;
  number = a.number;
  represents = a.represents;
}
admits_counted {A} r (Err memory) p ms old mid new same a = tt

-- ---- the pairs that lived before

abbrev pub AreBelow : {A : Type 0} → ℕ → List (Live A) → Type 0
AreBelow {A} p bs = AllByRecursion (λ (b : Live A). b.number < p) bs

pub are_below : {A : Type 0} (pairs : ℕ) (ends : List (ℕ × End)) (bs : List (Live A)) → AllByRecursion (HasEnds pairs ends) bs → AreBelow pairs bs
are_below {A} pairs ends [] all = tt
are_below {A} pairs ends (b ∷ bs) all = (all.0.below, are_below pairs ends bs all.1)

pub keep_below : {A : Type 0} (P Q : Live A → Type 0) (p : ℕ) (bs : List (Live A)) → ((b : Live A) → b.number < p → P b → Q b) → AreBelow p bs → AllByRecursion P bs
    → AllByRecursion Q bs
keep_below {A} P Q p [] keeps below all = tt
keep_below {A} P Q p (b ∷ bs) keeps below all = (keeps b below.0 all.0, keep_below P Q p bs keeps below.1 all.1)

pub none_among : {A : Type 0} (p : ℕ) (bs : List (Live A)) → AreBelow p bs → is_among p (numbers bs) ≡ false
none_among {A} p [] below = refl
none_among {A} p (b ∷ bs) below =
    let no : (b.number == p) ≡ false = is_other b.number p (λ e. omega (arith, below.0)) in rw no (none_among p bs below.1)

-- ---- one pair more

pub all_push : {A : Type 0} (P : Live A → Type 0) (bs : List (Live A)) (b : Live A) → AllByRecursion P bs → P b → AllByRecursion P (bs ++ b ∷ [])
all_push {A} P [] b all here = (here, tt)
all_push {A} P (x ∷ bs) b all here = (all.0, all_push P bs b all.1 here)

pub numbers_push : {A : Type 0} (bs : List (Live A)) (b : Live A) → numbers (bs ++ b ∷ []) ≡ numbers bs ++ b.number ∷ []
numbers_push {A} [] b = refl
numbers_push {A} (x ∷ bs) b = ap (λ (ps : List ℕ). x.number ∷ ps) (numbers_push bs b)

rising_push : {A : Type 0} (low p : ℕ) (bs : List (Live A)) (b : Live A) → low ≤ p → b.number ≡ p → AreBelow p bs → IsRising low bs → IsRising low (bs ++ b ∷ [])
rising_push {A} low p [] b le e below r = (omega (arith, e, le), tt)
rising_push {A} low p (x ∷ bs) b le e below r = (r.0, rising_push (x.number + 1) p bs b (omega (arith, below.0)) e below.1 r.1)

among_push : (q p : ℕ) (ps : List ℕ) → is_among q (ps ++ p ∷ []) ≡ (is_among q ps || (p == q))
among_push q p [] = or_right (p == q)
among_push q p (x ∷ ps) = ap (λ (t : Bool). (x == q) || t) (among_push q p ps) ∙ assoc (x == q) (is_among q ps) (p == q)
  where
    assoc : (a b c : Bool) → (a || (b || c)) ≡ ((a || b) || c)
    assoc true b c = refl
    assoc false b c = refl

-- a new number taken out again
pub without_push : (p : ℕ) (ps : List ℕ) → is_among p ps ≡ false → without p (ps ++ p ∷ []) ≡ ps
without_push p [] none = rw (is_same p) refl
without_push p (x ∷ ps) none =
    let parts = or_parts (x == p) (is_among p ps) none in rw parts.0 (ap (λ (xs : List ℕ). x ∷ xs) (without_push p ps parts.1))

-- ---- the ports' open ends

accept_keeps : (p : ℕ) (ends : List (ℕ × End)) → KeepsOthers p ends (ends ++ (p, Client) ∷ [])
accept_keeps p ends = λ q e ne. open_more q p e Client ends ∙ ap (λ (b : Bool). is_open q e ends || b) (other_end q p e Client ne) ∙ or_right (is_open q e ends)

accept_ends : (p : ℕ) (ends : List (ℕ × End)) → ((e : End) → is_open p e ends ≡ false) → EndsAre p new_sides (ends ++ (p, Client) ∷ [])
accept_ends p ends free = λ e. open_more p p e Client ends ∙ ap (λ (b : Bool). b || is_end p e (p, Client)) (free e) ∙ here e
  where
    here : (e : End) → is_end p e (p, Client) ≡ is_open_side (side_of e new_sides)
    here Client = ap (λ (b : Bool). b && true) (is_same p)
    here Up = ap (λ (b : Bool). b && false) (is_same p)

-- the pairs that lived before keep their ends
has_more : {A : Type 0} (p : ℕ) (ends ends' : List (ℕ × End)) (b : Live A) → KeepsOthers p ends ends' → b.number < p → HasEnds p ends b → HasEnds (p + 1) ends' b
has_more {A} p ends ends' b keeps below h = record {
  below = omega (arith, below);
  has = h.has;
  open_ends = λ e. keeps b.number e (λ y. omega (arith, below)) ∙ h.open_ends e;
}

-- pair p lives
owns_new : {A : Type 0} (p : ℕ) (live : List (Live A)) (b : Live A) (ends : List (ℕ × End)) → b.number ≡ p → b.sides ≡ new_sides → OwnsEnds live p ends
    → OwnsEnds (live ++ b ∷ []) (p + 1) (ends ++ (p, Client) ∷ [])
owns_new {A} p live b ends number is c =
    let below : AreBelow p live = are_below p ends live c.each in
    let free : (e : End) → is_open p e ends ≡ false = λ e. c.only p e (none_among p live below) in
    record {
      rising = rising_push 0 p live b (omega arith) number below c.rising;
      each = all_push (HasEnds (p + 1) (ends ++ (p, Client) ∷ [])) live b
          (keep_below (HasEnds p ends) _ p live (λ x lt h. has_more p ends _ x (accept_keeps p ends) lt h) below c.each)
          (record { below = omega (arith, number); has = ap has_end is; open_ends = rw (number, is) (accept_ends p ends free) });
      only = λ q e no.
          let both = or_parts (is_among q (numbers live)) (p == q)
          (sym (among_push q p (numbers live)) ∙ ap (λ (i : ℕ). is_among q (numbers live ++ i ∷ [])) (sym number)
          ∙ ap (λ (ps : List ℕ). is_among q ps) (sym (numbers_push live b)) ∙ no) in
          open_more q p e Client ends ∙ ap (λ (t : Bool). t || is_end q e (p, Client)) (c.only q e both.0) ∙ ap (λ (t : Bool). t && same_end Client e) both.1;
    }

-- pair p was turned away
owns_same : {A : Type 0} (p : ℕ) (live : List (Live A)) (ends : List (ℕ × End)) → OwnsEnds live p ends → OwnsEnds live (p + 1) (closed p Client (ends ++ (p, Client) ∷ []))
owns_same {A} p live ends c =
    let below : AreBelow p live = are_below p ends live c.each in
    let free : (e : End) → is_open p e ends ≡ false = λ e. c.only p e (none_among p live below) in
    let keeps : KeepsOthers p ends (closed p Client (ends ++ (p, Client) ∷ [])) = λ q e ne. closed_others p Client _ q e ne ∙ accept_keeps p ends q e ne in
    record {
      rising = c.rising;
      each = keep_below (HasEnds p ends) _ p live (λ x lt h. has_more p ends _ x keeps lt h) below c.each;
      only = λ q e no. elim (eqb_tells q p) [
        | inl t ↦ (ap (λ (i : ℕ). is_open i e (closed p Client (ends ++ (p, Client) ∷ []))) t.1 ∙ closed_ends p Client new_sides (ends ++ (p, Client) ∷ []) (accept_ends p ends free) e ∙ none e)
        | inr u ↦ (keeps q e u.1 ∙ c.only q e no)
      ];
    }
  where
    none : (e : End) → is_open_side (side_of e (with_side Client side.Gone new_sides)) ≡ false
    none Client = refl
    none Up = refl

pub holds_new : {A : Type 0} (r : A → List Entry → Type 0) (p ms : ℕ) (old new : Service A) (pairs pairs' : ℕ) (ends ends' : List (ℕ × End)) → p ≡ pairs → pairs' ≡ pairs + 1
    → ends' ≡ ends ++ (p, Client) ∷ [] → new.accepted ≡ old.accepted + 1 → Admitted r p ms old new → Holds old pairs ends → Holds new pairs' ends'
holds_new {A} r p ms old new pairs pairs' ends ends' is more opens counts a h = record {
  accepts = counts ∙ ap (λ (k : ℕ). k + 1) h.accepts ∙ sym more;
  owns = rw (a.live, more, opens, is) (owns_new pairs old.live.items a.pair ends (a.number ∙ is) a.represents.sides h.owns);
}

pub holds_same : {A : Type 0} (p : ℕ) (old new : Service A) (pairs pairs' : ℕ) (ends ends' : List (ℕ × End)) → p ≡ pairs → pairs' ≡ pairs + 1
    → ends' ≡ closed p Client (ends ++ (p, Client) ∷ []) → new.accepted ≡ old.accepted + 1 → new.live.items ≡ old.live.items → Holds old pairs ends → Holds new pairs' ends'
holds_same {A} p old new pairs pairs' ends ends' is more opens counts same h = record {
  accepts = counts ∙ ap (λ (k : ℕ). k + 1) h.accepts ∙ sym more;
  owns = rw (same, more, opens, is) (owns_same pairs old.live.items ends h.owns);
}
