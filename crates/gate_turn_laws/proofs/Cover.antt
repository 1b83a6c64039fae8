-- What comes next, read as a relation: the pair of which something is asked, or else why it is no pair's.
use Rattle.std.proofs.Common.{◌≡◌, ◌≢◌, ℕ, ◌==◌, ◌<◌, nat_lt, Bool, true, false, if◌then◌else◌}
use Rattle.std.proofs.Common.{List, [], ◌∷◌, Option, None, Some, ◌⊎◌, refl, sym, ap, ◌∙◌, subst}
use Rattle.std.proofs.Common.{inl, inr, arith}
use Rattle.std.specs.Option.{option_map}
use Rattle.gate_outside.specs.declared.ports.End.TheVariants.{Client, Up}
use Rattle.gate_relay.specs.Entries.{Entry}
use Rattle.gate_relay.specs.Guards.{reads, takes_up, connects, offers, shuts}
use Rattle.gate_relay.specs.Relayed.{read_room}
use Rattle.gate_relay.specs.RelayWords.{RelayWords}
use Rattle.gate_runs.specs.declared.limits.Limits.{Limits}
use Rattle.gate_runs.specs.declared.lap.Lap.{Lap}
use Rattle.gate_runs.specs.declared.served.Served.{Served}
use Rattle.gate_runs.specs.declared.served.Served.TheVariants.{PairsDone, TurnLimit}
use Rattle.gate_runs.specs.Marks.{History}
use Rattle.gate_runs.specs.Journal.{journal}
use Rattle.gate_runs.specs.Stages.{Stage, Reading, Taking, Linking, Writing, Shutting, Past}
use Rattle.gate_runs.specs.Stages.{lap_end, stages_from}
use Rattle.gate_runs.specs.Next.{AskAccept, AskConnect, AskRead, AskWrite, AskShut, AskIdle, AskNow}
use Rattle.gate_runs.specs.Next.{Upcoming, Do, Settle, EndBy, Done, where_due, most_writes, ask}
use Rattle.gate_runs.specs.Next.{or_more, first_ask, Point, BetweenTurns, ClockRead, BeforePairs}
use Rattle.gate_runs.specs.Next.{Refusing, InPair, Ending, Ended, round, rest, begin, beyond, ahead}
use Rattle.gate_runs.specs.Next.{closing, live_pairs, may_accept, is_done, has_moved, turns_begun}
use Rattle.gate_turn_laws.specs.Pairs.{is_among, is_live, IsRising}
use Rattle.gate_turn_laws.specs.Turns.{AsksNone}
use Rattle.gate_turn_laws.proofs.Order.{rising_filter}
use Rattle.gate_turn_laws.proofs.Lists.{is_or_isnt, some_or_none, or_parts, or_right, is_equal}
use Rattle.gate_turn_laws.proofs.Lists.{is_unequal, among_first, among_filter}

-- what is asked of pair q, by its journal
abbrev pub Own : RelayWords → ℕ → List Entry → Upcoming → Type 0
Own w q h (Do AskAccept) = ⊥
Own w q h (Do (AskConnect p)) = (q ≡ p) × (connects w h ≡ true)
Own w q h (Do (AskRead p end room)) = (q ≡ p) × (room ≡ read_room) × (reads w end h ≡ true)
Own w q h (Do (AskWrite p end bytes)) = (q ≡ p) × (offers w end h ≡ Some bytes)
Own w q h (Do (AskShut p end)) = (q ≡ p) × (shuts w end h ≡ true)
Own w q h (Do AskIdle) = ⊥
Own w q h (Do AskNow) = ⊥
Own w q h (Settle p) = (q ≡ p) × (takes_up w h ≡ true)
Own w q h (EndBy how) = ⊥
Own w q h Done = ⊥

pub due_parts : (b : Bool) (a up : Upcoming) → where_due b a ≡ Some up → (b ≡ true) × (a ≡ up)
due_parts true a up e = (refl, cc)
due_parts false a up e = absurd cc

pub not_due : (b : Bool) (a : Upcoming) → where_due b a ≡ None → b ≡ false
not_due true a e = absurd cc
not_due false a e = refl

-- a write is asked where fewer than 4,096 were made, and something is offered
abbrev pub WriteAsk : RelayWords → ℕ → Lap → ℕ → List Entry → Upcoming → Type 0
WriteAsk w q lap k h up = (nat_lt k most_writes ≡ true) × (bytes : List ℕ) × (offers w (lap_end lap) h ≡ Some bytes) × (Do (AskWrite q (lap_end lap) bytes) ≡ up)

pub write_ask : (w : RelayWords) (q : ℕ) (lap : Lap) (k : ℕ) (h : List Entry) (up : Upcoming) → ask w q (Writing lap k) h ≡ Some up → WriteAsk w q lap k h up
write_ask w q lap k h up e = elim (is_or_isnt (nat_lt k most_writes)) [
  | inl few ↦
      let there : option_map (λ (bytes : List ℕ). Do (AskWrite q (lap_end lap) bytes)) (offers w (lap_end lap) h) ≡ Some up =
      sym (ap (λ (b : Bool). if b then option_map (λ (bytes : List ℕ). Do (AskWrite q (lap_end lap) bytes)) (offers w (lap_end lap) h) else None) few) ∙ e in
      elim (some_or_none (offers w (lap_end lap) h)) [
        | inl o ↦
            let here : Some (Do (AskWrite q (lap_end lap) o.0)) ≡ Some up =
            sym (ap (λ (x : Option (List ℕ)). option_map (λ (bytes : List ℕ). Do (AskWrite q (lap_end lap) bytes)) x) o.1) ∙ there in
            let same : Do (AskWrite q (lap_end lap) o.0) ≡ up = cc in (few, o.0, o.1, same)
        | inr none ↦
            let here : None ≡ Some up = sym (ap (λ (x : Option (List ℕ)). option_map (λ (bytes : List ℕ). Do (AskWrite q (lap_end lap) bytes)) x) none) ∙ there in absurd cc
      ]
  | inr many ↦
      let here : None ≡ Some up =
      sym (ap (λ (b : Bool). if b then option_map (λ (bytes : List ℕ). Do (AskWrite q (lap_end lap) bytes)) (offers w (lap_end lap) h) else None) many) ∙ e in absurd cc
]

-- what a stage asks
pub ask_own : (w : RelayWords) (q : ℕ) (s : Stage) (h : List Entry) (up : Upcoming) → ask w q s h ≡ Some up → Own w q h up
ask_own w q (Reading end) h up e = let d : (reads w end h ≡ true) × (Do (AskRead q end read_room) ≡ up) = due_parts _ _ _ e in
    subst (λ (x : Upcoming). Own w q h x) d.1 (refl, refl, d.0)
ask_own w q Taking h up e = let d : (takes_up w h ≡ true) × (Settle q ≡ up) = due_parts _ _ _ e in subst (λ (x : Upcoming). Own w q h x) d.1 (refl, d.0)
ask_own w q Linking h up e = let d : (connects w h ≡ true) × (Do (AskConnect q) ≡ up) = due_parts _ _ _ e in subst (λ (x : Upcoming). Own w q h x) d.1 (refl, d.0)
ask_own w q (Writing lap k) h up e = let d : WriteAsk w q lap k h up = write_ask w q lap k h up e in subst (λ (x : Upcoming). Own w q h x) d.3 (refl, d.2)
ask_own w q (Shutting end) h up e = let d : (shuts w end h ≡ true) × (Do (AskShut q end) ≡ up) = due_parts _ _ _ e in
    subst (λ (x : Upcoming). Own w q h x) d.1 (refl, d.0)
ask_own w q Past h up e = absurd cc

-- of these stages the first that asks something asks this
abbrev pub Asks : RelayWords → ℕ → List Stage → List Entry → Upcoming → Type 0
Asks w q [] h up = ⊥
Asks w q (s ∷ ss) h up = (ask w q s h ≡ Some up) ⊎ ((ask w q s h ≡ None) × Asks w q ss h up)

abbrev pub all_stages : List Stage
all_stages = stages_from (Reading Up)

pub asks_own : (w : RelayWords) (q : ℕ) (ss : List Stage) (h : List Entry) (up : Upcoming) → Asks w q ss h up → Own w q h up
asks_own w q [] h up a = absurd a
asks_own w q (s ∷ ss) h up (inl e) = ask_own w q s h up e
asks_own w q (s ∷ ss) h up (inr more) = asks_own w q ss h up more.1

pub stages_at : (w : RelayWords) (q : ℕ) (ss : List Stage) (h : List Entry) (more up : Upcoming) → first_ask w q ss h more ≡ up
    → Asks w q ss h up ⊎ (AsksNone w q ss h × (more ≡ up))
stages_at w q [] h more up e = inr (tt, e)
stages_at w q (s ∷ ss) h more up e = elim (some_or_none (ask w q s h)) [
  | inl o ↦ let here : o.0 ≡ up = sym (ap (λ (x : Option Upcoming). or_more x (first_ask w q ss h more)) o.1) ∙ e in inl (inl (o.1 ∙ ap (λ (x : Upcoming). Some x) here))
  | inr none ↦
      let there : first_ask w q ss h more ≡ up = sym (ap (λ (x : Option Upcoming). or_more x (first_ask w q ss h more)) none) ∙ e in
      elim (stages_at w q ss h more up there) [ inl own ↦ inl (inr (none, own)) | inr k ↦ inr ((none, k.0), k.1) ]
]

-- of these pairs, those with R have nothing more to do
abbrev pub PassedIn : RelayWords → History → List ℕ → (ℕ → Type 0) → Type 0
PassedIn w m ps R = (p : ℕ) → is_among p ps ≡ true → R p → AsksNone w p all_stages (journal p m)

abbrev pub Below : ℕ → ℕ → Type 0
Below p q = q < p

abbrev pub Any : ℕ → Type 0
Any q = Unit {0}

first_asked : (w : RelayWords) (m : History) (p : ℕ) (ps : List ℕ) → IsRising (p ∷ ps) → PassedIn w m (p ∷ ps) (Below p)
first_asked w m p ps r q h low = elim (or_parts (p == q) (is_among q ps) h) [
  | inl same ↦ let e : p ≡ q = is_equal p q same in absurd (omega arith)
  | inr more ↦ let high : p < q = r.0 q more in absurd (omega arith)
]

first_passed : (w : RelayWords) (m : History) (p : ℕ) (ps : List ℕ) (R : ℕ → Type 0) → AsksNone w p all_stages (journal p m) → PassedIn w m ps R → PassedIn w m (p ∷ ps) R
first_passed w m p ps R here rest q h low = elim (or_parts (p == q) (is_among q ps) h) [
  | inl same ↦ subst (λ (x : ℕ). AsksNone w x all_stages (journal x m)) (is_equal p q same) here
  | inr more ↦ rest q more low
]

abbrev pub AsksNext : RelayWords → History → ℕ → Upcoming → Type 0
AsksNext w m p up = Asks w p all_stages (journal p m) up

round_at : (w : RelayWords) (c : Limits) (m : History) (ps : List ℕ) (up : Upcoming) → IsRising ps → round w c m ps ≡ up
    → ((p : ℕ) × (is_among p ps ≡ true) × PassedIn w m ps (Below p) × AsksNext w m p up) ⊎ (PassedIn w m ps Any × (rest c m ≡ up))
round_at w c m [] up r e = inr ((λ q h a. absurd cc), e)
round_at w c m (p ∷ ps) up r e = elim (stages_at w p all_stages (journal p m) (round w c m ps) up e) [
  | inl own ↦ inl (p, among_first p ps, first_asked w m p ps r, own)
  | inr v ↦ elim (round_at w c m ps up r.1 v.1) [
    | inl o ↦ inl (o.0, or_right (p == o.0) (is_among o.0 ps) o.1, first_passed w m p ps (Below o.0) v.0 o.2, o.3)
    | inr k ↦ inr (first_passed w m p ps Any v.0 k.0, k.1)
  ]
]

-- of the pairs of the round that are left, those with R have nothing more to do in this turn
abbrev pub PassedAt : RelayWords → Limits → History → (ℕ → Type 0) → Point → Type 0
PassedAt w c m R BetweenTurns = ⊥
PassedAt w c m R ClockRead = (may_accept c m ≡ false) × PassedIn w m (live_pairs m) R
PassedAt w c m R BeforePairs = PassedIn w m (live_pairs m) R
PassedAt w c m R (Refusing p) = ⊥
PassedAt w c m R (InPair p s) = AsksNone w p (stages_from s) (journal p m) × PassedIn w m (beyond p (live_pairs m)) R
PassedAt w c m R (Ending how) = ⊥
PassedAt w c m R Ended = ⊥

-- the pairs of which something may still be asked in this turn, but for that of the point
abbrev pub pairs_ahead : History → Point → List ℕ
pairs_ahead m BetweenTurns = []
pairs_ahead m ClockRead = live_pairs m
pairs_ahead m BeforePairs = live_pairs m
pairs_ahead m (Refusing p) = []
pairs_ahead m (InPair p s) = beyond p (live_pairs m)
pairs_ahead m (Ending how) = []
pairs_ahead m Ended = []

-- what comes next at a point
pub data Cover (w : RelayWords) (c : Limits) (m : History) (x : Point) (up : Upcoming) : Type 0 where
  -- something is asked of the pair of the point
  of_pair : (p : ℕ) (s : Stage) → x ≡ InPair p s → Asks w p (stages_from s) (journal p m) up → Cover w c m x up
  -- those before p were passed over, and something is asked of p
  of_next : (p : ℕ) → is_live p m ≡ true → is_among p (pairs_ahead m x) ≡ true → PassedAt w c m (Below p) x → AsksNext w m p up → Cover w c m x up
  -- all the pairs were passed over
  rests : PassedAt w c m Any x → rest c m ≡ up → Cover w c m x up
  begins : x ≡ BetweenTurns → begin c m ≡ up → Cover w c m x up
  accepts : x ≡ ClockRead → may_accept c m ≡ true → Do AskAccept ≡ up → Cover w c m x up
  refuses : (p : ℕ) → x ≡ Refusing p → Do (AskShut p Client) ≡ up → Cover w c m x up
  stops : (how : Served) → x ≡ Ending how → EndBy how ≡ up → Cover w c m x up
  closes : x ≡ Ended → closing m (live_pairs m) ≡ up → Cover w c m x up

in_round : (w : RelayWords) (c : Limits) (m : History) (x : Point) (ps : List ℕ) (up : Upcoming) → IsRising ps
    → ((p : ℕ) → is_among p ps ≡ true → is_live p m ≡ true) → pairs_ahead m x ≡ ps
    → ((R : ℕ → Type 0) → PassedIn w m ps R → PassedAt w c m R x) → round w c m ps ≡ up → Cover w c m x up
in_round w c m x ps up r live same passed e = elim (round_at w c m ps up r e) [
  | inl o ↦ of_next o.0 (live o.0 o.1) (ap (λ (qs : List ℕ). is_among o.0 qs) same ∙ o.1) (passed (Below o.0) o.2) o.3
  | inr k ↦ rests (passed Any k.0) k.1
]

-- what comes next, by the point
pub cover_at : (w : RelayWords) (c : Limits) (m : History) (x : Point) (up : Upcoming) → IsRising (live_pairs m) → ahead w c m x ≡ up → Cover w c m x up
cover_at w c m BetweenTurns up r e = begins refl e
cover_at w c m ClockRead up r e = elim (is_or_isnt (may_accept c m)) [
  | inl t ↦ let here : Do AskAccept ≡ up = sym (ap (λ (b : Bool). if b then Do AskAccept else round w c m (live_pairs m)) t) ∙ e in accepts refl t here
  | inr f ↦ let here : round w c m (live_pairs m) ≡ up = sym (ap (λ (b : Bool). if b then Do AskAccept else round w c m (live_pairs m)) f) ∙ e in
      in_round w c m ClockRead (live_pairs m) up r (λ p h. h) refl (λ R all. (f, all)) here
]
cover_at w c m BeforePairs up r e = in_round w c m BeforePairs (live_pairs m) up r (λ p h. h) refl (λ R all. all) e
cover_at w c m (Refusing p) up r e = refuses p refl e
cover_at w c m (InPair p s) up r e = elim (stages_at w p (stages_from s) (journal p m) (round w c m (beyond p (live_pairs m))) up e) [
  | inl own ↦ of_pair p s refl own
  | inr v ↦ in_round w c m (InPair p s) (beyond p (live_pairs m)) up (rising_filter (λ q. nat_lt p q) (live_pairs m) r)
      (λ q h. among_filter (λ k. nat_lt p k) q (live_pairs m) h) refl (λ R all. (v.0, all)) v.1
]
cover_at w c m (Ending how) up r e = stops how refl e
cover_at w c m Ended up r e = closes refl e

-- after the pairs: idle where nothing moved, else the turn is over
pub rest_at : (c : Limits) (m : History) (up : Upcoming) → rest c m ≡ up → ((has_moved m ≡ false) × (Do AskIdle ≡ up)) ⊎ ((has_moved m ≡ true) × (begin c m ≡ up))
rest_at c m up e = elim (is_or_isnt (has_moved m)) [
  | inl t ↦ let here : begin c m ≡ up = sym (ap (λ (b : Bool). if b then begin c m else Do AskIdle) t) ∙ e in inr (t, here)
  | inr f ↦ let here : Do AskIdle ≡ up = sym (ap (λ (b : Bool). if b then begin c m else Do AskIdle) f) ∙ e in inl (f, here)
]

-- a turn begins, or the service ends
pub begin_at : (c : Limits) (m : History) (up : Upcoming) → begin c m ≡ up
    → ((is_done c m ≡ true) × (EndBy PairsDone ≡ up)) ⊎ ((is_done c m ≡ false) × (turns_begun m ≡ c.turns) × (EndBy TurnLimit ≡ up)) ⊎ ((turns_begun m ≢ c.turns) × (Do AskNow ≡ up))
begin_at c m up e = elim (is_or_isnt (is_done c m)) [
  | inl t ↦ let here : EndBy PairsDone ≡ up = sym (ap (λ (b : Bool). if b then EndBy PairsDone else (if turns_begun m == c.turns then EndBy TurnLimit else Do AskNow)) t) ∙ e in inl (t, here)
  | inr f ↦ let here : (if turns_begun m == c.turns then EndBy TurnLimit else Do AskNow) ≡ up =
      sym (ap (λ (b : Bool). if b then EndBy PairsDone else (if turns_begun m == c.turns then EndBy TurnLimit else Do AskNow)) f) ∙ e in
      elim (is_or_isnt (turns_begun m == c.turns)) [
        | inl s ↦ let end : EndBy TurnLimit ≡ up = sym (ap (λ (b : Bool). if b then EndBy TurnLimit else Do AskNow) s) ∙ here in inr (inl (f, is_equal (turns_begun m) c.turns s, end))
        | inr o ↦ let now : Do AskNow ≡ up = sym (ap (λ (b : Bool). if b then EndBy TurnLimit else Do AskNow) o) ∙ here in inr (inr (is_unequal (turns_begun m) c.turns o, now))
      ]
]
