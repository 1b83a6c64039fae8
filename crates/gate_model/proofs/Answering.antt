-- The dispositions of role sender that go on a session are those that are due, in their order.
use Rattle.std.proofs.Common.{◌≡◌, ℕ, ◌+◌, ◌==◌, Bool, true, false, if◌then◌else◌, List, [], ◌∷◌, ◌++◌, Some, refl, sym, ap}
use Rattle.std.proofs.Common.{◌∙◌, arith, append_assoc, subst}
use Rattle.std.proofs.lemmas.Bool.Decides.{nat_tests}
use Rattle.std.specs.List.{AllByRecursion}
use Rattle.session_path.specs.Due.{next_settle}
use Rattle.session_path.specs.Events as event
use Rattle.session_path.specs.Events.{PathEvent, after_events}
use Rattle.session_path.specs.Laws.{AreSettles, settles, settles_owed, settles_sent}
use Rattle.session_path.specs.Path.{first_of}
use Rattle.session_path.specs.declared.path.Settling.{Settling}
use Rattle.gate_model.specs.Folds.{connection, peers}
use Rattle.gate_model.specs.Paths.{path_at}
use Rattle.gate_model.specs.Picks.{ArePicks}
use Rattle.gate_model.specs.Publishing.{given_event}
use Rattle.gate_model.specs.Publishing.{opens_channel, path_events, path_life, step_events}
use Rattle.gate_model.specs.Publishing.{up_events}
use Rattle.gate_model.specs.Repeats.{SettlesInOrder}
use Rattle.gate_model.specs.State.{Gave, Step}
use Rattle.gate_model.specs.State.{State, before, is_later}
use Rattle.gate_model.specs.declared.channel.SessionUnit.{SessionUnit}
use Rattle.gate_model.specs.declared.channel.SessionUnit.TheVariants as unit
use Rattle.gate_model.specs.declared.outgoing.Outgoing.TheVariants.{ToClient, ToUp}
use Rattle.gate_model.specs.declared.outgoing.UpUnit.{UpUnit}
use Rattle.gate_model.specs.declared.outgoing.UpUnit.TheVariants as up
use Rattle.gate_model.proofs.Fates.{path_of}
use Rattle.gate_model.proofs.Givings.{end_all, gives_up, is_given, step_all}
use Rattle.gate_model.proofs.Firsts.{OfSession, SessionUnits, goes_up_as}
use Rattle.gate_model.proofs.Rests.{LivesBelow}

-- what session_path says of the dispositions of role sender of a life
abbrev pub SettlesAre : Type 0
SettlesAre = (life : ℕ) (h : List PathEvent) → AreSettles life h → settles_sent h ++ (after_events life h).settles ≡ settles_owed life h

-- no other step gives one
abbrev IsNone : PathEvent → Type 0
IsNone x = settles x ≡ []

each_none : (x : PathEvent) → is_given x ≡ false → IsNone x
each_none (event.SettleSent x) e = absurd cc
each_none x e = refl

-- ---- each that goes is the next

-- these are the first of those that are due
record AreFirst (xs due : List Settling) : Type 0 where
  rest : List Settling
  is : xs ++ rest ≡ due

none_first : (due : List Settling) → AreFirst [] due
none_first due = record { rest = due; is = refl }

one_first : (x : Settling) (due : List Settling) → first_of due ≡ Some x → AreFirst (x ∷ []) due
one_first x [] e = absurd cc
one_first x (y ∷ due) e = let same : y ≡ x = cc in record { rest = due; is = ap (λ (z : Settling). z ∷ due) (sym same) }

abbrev IsNextSettle : State → ℕ → SessionUnit → Type 0
IsNextSettle w n (unit.Settle x) = next_settle (path_at w.paths n) ≡ Some x
IsNextSettle w n x = Unit {0}

next_is : (w : State) → SessionUnits (IsNextSettle w) w
next_is w = record {
  attach = λ n a e. tt;
  flow = λ n f e. tt;
  transfer = λ n f e. tt;
  dispose = λ n x e. tt;
  settle = λ n x e. e;
  detach = λ n x e. tt;
}

module _ (law : SettlesAre) (below : LivesBelow) where
  more : (life : ℕ) (es : List PathEvent) (x : PathEvent) → AreFirst (settles x) (after_events life es).settles → AreSettles life es → AreSettles life (x ∷ es)
  more life es x f old =
      ((f.rest, append_assoc (settles_sent es) (settles x) f.rest ∙ ap (λ (xs : List Settling). settles_sent es ++ xs) f.is ∙ law life es old), old)

  still : (life : ℕ) (es : List PathEvent) (x : PathEvent) → settles x ≡ [] → AreSettles life es → AreSettles life (x ∷ es)
  still life es x e old =
      let due : List Settling = (after_events life es).settles in more life es x (record { rest = due; is = ap (λ (ys : List Settling). ys ++ due) e }) old

  quietly : (life : ℕ) (es xs : List PathEvent) → AllByRecursion IsNone xs → AreSettles life es → AreSettles life (xs ++ es)
  quietly life es [] p old = old
  quietly life es (x ∷ xs) p old = still life (xs ++ es) x p.0 (quietly life es xs p.1 old)

  abbrev SettlesIn : ℕ → List Step → Type 0
  SettlesIn n h = (life : ℕ) → path_life h n ≡ Some life → AreSettles life (path_events h n)

  quiet : (n : ℕ) (h : List Step) (s : Step) → gives_up s ≡ false → SettlesIn n h → SettlesIn n (s ∷ h)
  quiet n h s e old life l = by (opens_channel n h s) l
    where
      by : (b : Bool) → (if b then Some ((peers h).opened + 1) else path_life h n) ≡ Some life
          → AreSettles life (if b then [] else step_events n h s ++ path_events h n)
      by true f = tt
      by false f = quietly life (path_events h n) (step_events n h s) (step_all IsNone each_none n h s e) (old life f)

  sent : (n : ℕ) (h : List Step) (k : ℕ) (u : SessionUnit) → ArePicks h → IsNextSettle (before h) k u → SettlesIn n h
      → (life : ℕ) → path_life h n ≡ Some life → AreSettles life ((if k == n then given_event u ∷ [] else []) ++ path_events h n)
  sent n h k u p next old life l = by (k == n) refl
    where
      one : (u : SessionUnit) → IsNextSettle (before h) n u → AreSettles life (given_event u ∷ path_events h n)
      one (unit.Settle x) e =
          more life (path_events h n) (event.SettleSent x)
          (one_first x (after_events life (path_events h n)).settles (ap next_settle (sym (path_of h n life p (below h n life l) l)) ∙ e)) (old life l)
      one (unit.Attach a) e = still life (path_events h n) (event.AttachSent a.name) refl (old life l)
      one (unit.Flow f) e = still life (path_events h n) event.LinkFlowSent refl (old life l)
      one (unit.Transfer t) e = still life (path_events h n) (event.TransferSent t.frame t.bytes) refl (old life l)
      one (unit.Dispose x) e = still life (path_events h n) event.DisposeSent refl (old life l)
      one (unit.Detach x handle why) e = still life (path_events h n) event.DetachSent refl (old life l)

      by : (b : Bool) → (k == n) ≡ b → AreSettles life ((if b then given_event u ∷ [] else []) ++ path_events h n)
      by true e = one u (let same : k ≡ n = grind (arith, nat_tests, e) in subst (λ (i : ℕ). IsNextSettle (before h) i u) same next)
      by false e = old life l

  gave : (n : ℕ) (h : List Step) (u : UpUnit) (text : List ℕ) → ArePicks h → OfSession (IsNextSettle (before h)) u → SettlesIn n h
      → SettlesIn n (Gave (ToUp u) text ∷ h)
  gave n h (up.OnSession k u) text p e old = sent n h k u p e old
  gave n h (up.End k why) text p e old = λ life l.
      quietly life (path_events h n) (up_events (is_later (connection h) (up.End k why)) n (up.End k why))
      (end_all IsNone each_none (is_later (connection h) (up.End k why)) n k why) (old life l)
  gave n h u text p e old = old

  in_order : (n : ℕ) (h : List Step) → ArePicks h → SettlesIn n h
  in_order n [] p = λ life l. absurd cc
  in_order n (Gave (ToUp u) text ∷ h) p = gave n h u text p.1 (goes_up_as (IsNextSettle (before h)) (before h) u (next_is (before h)) p.0.1) (in_order n h p.1)
  in_order n (Gave (ToClient u) text ∷ h) p = quiet n h (Gave (ToClient u) text) refl (in_order n h p.1)
  in_order n (s ∷ h) p = quiet n h s refl (in_order n h p.1)

  pub settles_in_order : (h : List Step) → ArePicks h → SettlesInOrder h
  settles_in_order h p n life l = law life (path_events h n) (in_order n h p life l)
