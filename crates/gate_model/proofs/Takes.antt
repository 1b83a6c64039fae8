-- A unit of a client is taken up where no request on its channel waits, and one of channel 0 as the first that waits.
use Rattle.std.proofs.Common.{◌≡◌, ℕ, ◌+◌, ◌<◌, ◌≤◌, not, ◌&&◌, ◌||◌, Bool, true, false, if◌then◌else◌, List, [], ◌∷◌, ◌++◌, length}
use Rattle.std.proofs.Common.{Option, None, Some, is_some, refl, sym, ap, ◌∙◌, arith, subst}
use Rattle.std.specs.List.{list_any}
use Rattle.machine_091.specs.State.{is_closing, is_open, is_opening}
use Rattle.machine_091.specs.declared.limits.TheConstants.{CHANNEL_MAX}
use Rattle.machine_091.specs.declared.state.Connection.{Connection}
use Rattle.machine_091.specs.declared.unit.Unit91.{Unit91}
use Rattle.session_path.specs.Due.{is_waiting}
use Rattle.gate_model.specs.Begins.{begun_at, has_begun, said_or}
use Rattle.gate_model.specs.Dues.{begins_session}
use Rattle.gate_model.specs.Folds.{connection, peers}
use Rattle.gate_model.specs.Lives.{any_life, life_at}
use Rattle.gate_model.specs.Paths.{path_at}
use Rattle.gate_model.specs.Picks.{ArePicks}
use Rattle.gate_model.specs.Publishing.{opens_channel, path_life}
use Rattle.gate_model.specs.Queue.{channel_of, holds, is_empty, unit_at, waits_for_all}
use Rattle.gate_model.specs.State.{Came, Step, before, close_waits, is_channel_settled, life_waits, next_unit, place, waits}
use Rattle.gate_model.specs.Takes.{MayTake, NoneWaits, TakesInTurn, has_left, left_at}
use Rattle.gate_model.specs.declared.life.Life.{Life}
use Rattle.gate_model.proofs.Basics.{and_left, and_right, left_false, not_true, right_false}
use Rattle.gate_model.proofs.Begins.{Awaits, Begun, begun}
use Rattle.gate_model.proofs.Begins as begins
use Rattle.gate_model.proofs.Connections.{clash}
use Rattle.gate_model.proofs.Ends.{settled_on}
use Rattle.gate_model.proofs.Fates.{path_of}
use Rattle.gate_model.proofs.Goes.{none_any}
use Rattle.gate_model.proofs.Known.{conn_is, known}
use Rattle.gate_model.proofs.Lives.{lives_all}
use Rattle.gate_model.proofs.Living.{Begins, Closes, Ends, Fails, Frees, LeavesIn, Stays, step_leaves}
use Rattle.gate_model.proofs.Orders.{Stands, next_stands}
use Rattle.gate_model.proofs.Overs.{goes_on}
use Rattle.gate_model.proofs.Queues.{empty_is}
use Rattle.gate_model.proofs.Rests.{LivesBelow}

-- ---- a channel that its client closed awaits the container's end

record IsLeaving (l : Life) : Type 0 where
  over : l.over ≡ true
  awaits : l.awaits_end ≡ true

abbrev LeftIn : ℕ → List Step → Type 0
LeftIn n h = has_left n h ≡ true → IsLeaving (life_at (before h).lives n)

below : (n : ℕ) → n < 256 → n ≤ CHANNEL_MAX
below n less = let most : CHANNEL_MAX ≡ 255 = refl in omega (arith, less, most)

left_in : (n : ℕ) (h : List Step) → n < 256 → ArePicks h → is_some (path_life h n) ≡ true → LeftIn n h
left_in n [] less p there = absurd cc
left_in n (s ∷ h) less p there = by (left_in n h less p.1) (opens_channel n h s) refl there
  where
    said : opens_channel n h s ≡ false → (y : Option Bool) → left_at n h s ≡ y → has_left n (s ∷ h) ≡ said_or y (has_left n h)
    said e y f = ap (λ (b : Bool). if b then false else said_or (left_at n h s) (has_left n h)) e ∙ ap (λ (o : Option Bool). said_or o (has_left n h)) f

    -- the life of a channel that is open goes on
    goes : is_some (path_life h n) ≡ true → is_open (before h).conn n ≡ true → (life_at (before h).lives n).over ≡ false
    goes t on = goes_on h n p.1 (below n less) t (sym (ap (λ (c : Connection). is_open c n) (conn_is (known h p.1))) ∙ on)

    kept : LeftIn n h → has_left n (s ∷ h) ≡ has_left n h → (life_at (before (s ∷ h)).lives n).over ≡ (life_at (before h).lives n).over
        → (life_at (before (s ∷ h)).lives n).awaits_end ≡ (life_at (before h).lives n).awaits_end → LeftIn n (s ∷ h)
    kept old e v a t = let l = old (sym e ∙ t) in record { over = v ∙ l.over; awaits = a ∙ l.awaits }

    later : opens_channel n h s ≡ false → is_some (path_life h n) ≡ true → LeftIn n h → LeavesIn (begun_at n h s) (left_at n h s) (begins_session n s) n (before h) (before (s ∷ h)) → LeftIn n (s ∷ h)
    later e t old (Stays o i x y) = kept old (said e None y) i.over i.awaits
    later e t old (Begins o c v a b x y) = kept old (said e None y) v a
    later e t old (Ends o i y) = kept old (said e None y) i.over i.awaits
    later e t old (Closes o y v a) = λ f. record {
      over = v;
      awaits = a ∙ ap not (goes t (sym (said e (Some (is_open (before h).conn n)) y) ∙ f));
    }
    later e t old (Frees o y) = λ f. absurd (clash _ f (said e (Some false) y))
    later e t old (Fails b o y) = λ f. absurd (clash _ (old (sym (said e None y) ∙ f)).over (goes t b))

    by : (is_some (path_life h n) ≡ true → LeftIn n h) → (b : Bool) → opens_channel n h s ≡ b
        → is_some (if b then Some ((peers h).opened + 1) else path_life h n) ≡ true → LeftIn n (s ∷ h)
    by old true e t = λ f. absurd (clash _ f (ap (λ (b : Bool). if b then false else said_or (left_at n h s) (has_left n h)) e))
    by old false e t = later e t (old t) (step_leaves n s h less p t e)

-- ---- nothing waits on a channel

none_waits_by : (closing opens asks leaves settled : Bool) → closing ≡ false → (not closing && (opens || (asks || (leaves && not settled)))) ≡ false
    → (opens ≡ false) × (asks ≡ false) × (leaves ≡ true → settled ≡ true)
none_waits_by true opens asks leaves settled k e = absurd cc
none_waits_by false true asks leaves settled k e = absurd cc
none_waits_by false false true leaves settled k e = absurd cc
none_waits_by false false false true true k e = (refl, refl, λ f. refl)
none_waits_by false false false true false k e = absurd cc
none_waits_by false false false false settled k e = (refl, refl, λ f. absurd cc)

none_waits : LivesBelow → (h : List Step) (n life : ℕ) → ArePicks h → is_closing (connection h) ≡ false → path_life h n ≡ Some life
    → life_waits (before h) n (life_at (before h).lives n) ≡ false → NoneWaits h n
none_waits within h n life p k l e = record {
  opens = λ on. came (begun n h less p (ap is_some l) (ap (λ (c : Connection). is_open c n) (conn_is (known h p)) ∙ on));
  asks = λ own f. ap is_waiting (sym (path_of h n own p (within h n own f) f)) ∙ none.1;
  closes = λ f. settled_on h n p (none.2 (left_in n h less p (ap is_some l) f).awaits);
}
  where
    less : n < 256
    less = let least : n ≤ CHANNEL_MAX = within h n life l in let most : CHANNEL_MAX ≡ 255 = refl in omega (arith, least, most)

    none : ((life_at (before h).lives n).waits ≡ false) × (is_waiting (path_at (before h).paths n) ≡ false)
        × ((life_at (before h).lives n).awaits_end ≡ true → is_channel_settled (before h) n ≡ true)
    none = none_waits_by (is_closing (before h).conn) _ _ _ _ (ap is_closing (conn_is (known h p)) ∙ k) e

    came : Begun (life_at (before h).lives n) (has_begun n h) → has_begun n h ≡ true
    came (Awaits w o) = absurd (clash _ w none.0)
    came (begins.Came f) = f

-- ---- a unit that is taken up

may_take : LivesBelow → (h : List Step) (u : Unit91) (i : ℕ) → ArePicks h → Stands (waits (before h)) (before h).queue i u → MayTake h u
may_take within h u i p s = by (waits_for_all u) refl s.may
  where
    inside : (k life : ℕ) → path_life h k ≡ Some life → k < length (before h).lives
    inside k life l =
        let least : k ≤ CHANNEL_MAX = within h k life l in
        let most : CHANNEL_MAX ≡ 255 = refl in
        let many : length (before h).lives ≡ 256 = lives_all h p in omega (arith, least, most, many)

    any : any_life (life_waits (before h)) 0 (before h).lives ≡ false → (k life : ℕ) → is_closing (connection h) ≡ false → path_life h k ≡ Some life → NoneWaits h k
    any e k life c l =
        let here : 0 + k ≡ k = omega arith in
        none_waits within h k life p c l
        (subst (λ (j : ℕ). life_waits (before h) j (life_at (before h).lives k) ≡ false) here (none_any (life_waits (before h)) 0 (before h).lives k (inside k life l) e))

    open_is : is_opening (before h).conn ≡ false → is_opening (connection h) ≡ false
    open_is e = ap is_opening (sym (conn_is (known h p))) ∙ e

    by : (b : Bool) → waits_for_all u ≡ b
        → (if b then is_empty s.front && not (waits (before h)).some
        else (not (waits (before h)).opening && not ((waits (before h)).channel (channel_of u))) && not (list_any (holds (channel_of u)) s.front)) ≡ true
        → MayTake h u
    by true e f =
        let some : (waits (before h)).some ≡ false = not_true _ (and_right (is_empty s.front) _ f) in
        let lives : any_life (life_waits (before h)) 0 (before h).lives ≡ false =
        right_false (close_waits (before h)) _ (right_false (is_opening (before h).conn) _ some) in
        let none : s.front ≡ [] = empty_is s.front (and_left (is_empty s.front) _ f) in
        record {
          opened = open_is (left_false (is_opening (before h).conn) _ some);
          own = λ life c l. any lives (channel_of u) life c l;
          all = λ g k life c l. any lives k life c l;
          first = λ g. (s.behind, s.parts ∙ ap (λ (us : List Unit91). us ++ u ∷ s.behind) none);
        }
    by false e f =
        let free : (not (waits (before h)).opening && not ((waits (before h)).channel (channel_of u))) ≡ true = and_left _ _ f in
        record {
          opened = open_is (not_true _ (and_left (not (waits (before h)).opening) _ free));
          own = λ life c l. none_waits within h (channel_of u) life p c l
              (left_false (life_waits (before h) (channel_of u) (life_at (before h).lives (channel_of u))) _ (not_true _ (and_right (not (waits (before h)).opening) _ free)));
          all = λ g. absurd (clash _ g e);
          first = λ g. absurd (clash _ g e);
        }

taken : LivesBelow → (h : List Step) (u : Unit91) → ArePicks h → next_unit (before h) ≡ Some u → MayTake h u
taken within h u p e = by (place (before h)) refl e
  where
    by : (o : Option ℕ) → place (before h) ≡ o → unit_at o (before h).queue ≡ Some u → MayTake h u
    by None f g = absurd cc
    by (Some i) f g = may_take within h u i p (next_stands (before h) u i f g)

pub takes_in_turn : LivesBelow → (h : List Step) → ArePicks h → TakesInTurn h
takes_in_turn within [] p = tt
takes_in_turn within (Came u ∷ h) p = (taken within h u p.1 p.0, takes_in_turn within h p.1)
takes_in_turn within (s ∷ h) p = takes_in_turn within h p.1
