-- The answers that go on a channel are those that are due, in their order.
use Rattle.std.proofs.Common.{◌≡◌, ℕ, ◌+◌, ◌==◌, nat_lt, Bool, true, false, if◌then◌else◌, List, [], ◌∷◌, ◌++◌, Option, None, Some, refl, sym, ap}
use Rattle.std.proofs.Common.{◌∙◌, arith, append_assoc}
use Rattle.std.proofs.lemmas.Bool.Decides.{nat_tests}
use Rattle.std.specs.List.{AllByRecursion}
use Rattle.consume_path.specs.Offers.{next_deliver_of, serves_gets}
use Rattle.consume_path.specs.declared.delivery.NextDeliver.{NextDeliver}
use Rattle.gate_outside.specs.declared.ports.End.TheVariants.{Client}
use Rattle.session_path.specs.Due.{deliver_if, deliver_in, is_get_ok, most_tags, next_deliver, next_ok}
use Rattle.session_path.specs.Events as event
use Rattle.session_path.specs.Events.{PathEvent, after_events}
use Rattle.session_path.specs.Laws.{AreAnswers, answers, oks_owed, oks_sent}
use Rattle.session_path.specs.Path.{PathState, first_of}
use Rattle.session_path.specs.declared.path.DeliverDue.{DeliverDue}
use Rattle.session_path.specs.declared.path.PathOk.{PathOk}
use Rattle.session_path.specs.declared.path.PathOk.TheVariants as ok
use Rattle.gate_model.specs.Folds.{going_in, peers}
use Rattle.gate_model.specs.Oks.{AnswersInOrder}
use Rattle.gate_model.specs.Paths.{path_at}
use Rattle.gate_model.specs.Picks.{ArePicks}
use Rattle.gate_model.specs.Publishing.{opens_channel, path_events, path_life, step_events, told_event, wrote_event, wrote_events}
use Rattle.gate_model.specs.State.{Gave, Step, Whole, before}
use Rattle.gate_model.specs.declared.channel.ChannelUnit.{ChannelUnit}
use Rattle.gate_model.specs.declared.channel.ChannelUnit.TheVariants as to_client
use Rattle.gate_model.specs.declared.outgoing.Outgoing.TheVariants.{ToClient}
use Rattle.gate_model.specs.declared.reply.Reply.{Reply}
use Rattle.gate_model.specs.declared.reply.Reply.TheVariants as reply
use Rattle.gate_model.proofs.Fates.{IsNext, is_next, path_of}
use Rattle.gate_model.proofs.Firsts.{OfChannel, goes_as}
use Rattle.gate_model.proofs.Quiet.{is_apart, is_told, step_all}
use Rattle.gate_model.proofs.Rests.{LivesBelow}

-- what session_path says of the answers of a life
abbrev pub AnswersAre : Type 0
AnswersAre = (life : ℕ) (h : List PathEvent) → AreAnswers life h → oks_sent h ++ (after_events life h).oks ≡ oks_owed life h

-- these are the first of those that are due
record AreFirst (xs due : List PathOk) : Type 0 where
  rest : List PathOk
  is : xs ++ rest ≡ due

none_first : (due : List PathOk) → AreFirst [] due
none_first due = record { rest = due; is = refl }

one_first : (x : PathOk) (due : List PathOk) → first_of due ≡ Some x → AreFirst (x ∷ []) due
one_first x [] e = absurd cc
one_first x (y ∷ due) e = let same : y ≡ x = cc in record { rest = due; is = ap (λ (z : PathOk). z ∷ due) (sym same) }

-- a get-ok is due where it goes
get_first : (o : Option PathOk) → is_get_ok o ≡ true → o ≡ Some ok.Get
get_first None e = absurd cc
get_first (Some ok.Get) e = refl
get_first (Some x) e = absurd cc

got_by : (get may : Bool) (tags : ℕ) (next : NextDeliver) (d : DeliverDue) → deliver_if get may tags next ≡ Some d → d.get ≡ true → may ≡ true
got_by true true tags next d e f = refl
got_by true false tags next d e f = absurd cc
got_by false may tags next d e f =
    let same : record { next = next; tag = tags + 1; get = false } ≡ d = cc in
    let no : false ≡ true = ap (λ (x : DeliverDue). x.get) same ∙ f in cc

got_in : (s : PathState) (b : Bool) (o : Option NextDeliver) (d : DeliverDue) → (if b then deliver_in o s else None) ≡ Some d → d.get ≡ true
    → is_get_ok (first_of s.oks) ≡ true
got_in s false o d e f = absurd cc
got_in s true None d e f = absurd cc
got_in s true (Some next) d e f = got_by (serves_gets next.link s.deliveries.links) (is_get_ok (first_of s.oks)) s.deliveries.tags next d e f

deliver_first : (s : PathState) (d : DeliverDue) → next_deliver s ≡ Some d → AreFirst (answers (event.DeliverSent d)) s.oks
deliver_first s d e = by d.get refl
  where
    by : (b : Bool) → d.get ≡ b → AreFirst (if b then ok.Get ∷ [] else []) s.oks
    by true f =
        one_first ok.Get s.oks (get_first (first_of s.oks)
        (got_in s (nat_lt s.deliveries.tags most_tags) (next_deliver_of s.deliveries.global s.deliveries.list) d e f))
    by false f = none_first s.oks

abbrev IsNone : PathEvent → Type 0
IsNone x = answers x ≡ []

each_none : (x : PathEvent) → is_told x ≡ false → IsNone x
each_none (event.OkSent x) e = absurd cc
each_none (event.DeliverSent d) e = absurd cc
each_none x e = refl

module _ (law : AnswersAre) (below : LivesBelow) where
  more : (life : ℕ) (es : List PathEvent) (x : PathEvent) → AreFirst (answers x) (after_events life es).oks → AreAnswers life es → AreAnswers life (x ∷ es)
  more life es x f old =
      ((f.rest, append_assoc (oks_sent es) (answers x) f.rest ∙ ap (λ (xs : List PathOk). oks_sent es ++ xs) f.is ∙ law life es old), old)

  quietly : (life : ℕ) (es xs : List PathEvent) → AllByRecursion IsNone xs → AreAnswers life es → AreAnswers life (xs ++ es)
  quietly life es [] p old = old
  quietly life es (x ∷ xs) p old =
      let due : List PathOk = (after_events life (xs ++ es)).oks in
      more life (xs ++ es) x (record { rest = due; is = ap (λ (ys : List PathOk). ys ++ due) p.0 }) (quietly life es xs p.1 old)

  abbrev AnswersIn : ℕ → List Step → Type 0
  AnswersIn n h = (life : ℕ) → path_life h n ≡ Some life → AreAnswers life (path_events h n)

  quiet : (n : ℕ) (h : List Step) (s : Step) → is_apart s ≡ false → AnswersIn n h → AnswersIn n (s ∷ h)
  quiet n h s e old life l = by (opens_channel n h s) l
    where
      by : (b : Bool) → (if b then Some ((peers h).opened + 1) else path_life h n) ≡ Some life
          → AreAnswers life (if b then [] else step_events n h s ++ path_events h n)
      by true f = tt
      by false f = quietly life (path_events h n) (step_events n h s) (step_all IsNone each_none n h s e) (old life f)

  told : (n : ℕ) (h : List Step) (k : ℕ) (u : ChannelUnit) → ArePicks h → AnswersIn n h
      → ((life : ℕ) → path_life h n ≡ Some life → k ≡ n → AreFirst (answers (told_event u)) (after_events life (path_events h n)).oks)
      → (life : ℕ) → path_life h n ≡ Some life → AreAnswers life ((if k == n then told_event u ∷ [] else []) ++ path_events h n)
  told n h k u p old first life l = by (k == n) refl
    where
      by : (b : Bool) → (k == n) ≡ b → AreAnswers life ((if b then told_event u ∷ [] else []) ++ path_events h n)
      by true e = more life (path_events h n) (told_event u) (first life l (grind (arith, nat_tests, e))) (old life l)
      by false e = old life l

  gave : (n : ℕ) (h : List Step) (u : Reply) (text : List ℕ) → ArePicks h → OfChannel (IsNext (before h)) u → AnswersIn n h
      → AnswersIn n (Gave (ToClient u) text ∷ h)
  gave n h (reply.OnChannel k (to_client.Ok x)) text p e old =
      told n h k (to_client.Ok x) p old (λ life l same. one_first x _ (ap next_ok (sym (path_of h n life p (below h n life l) l)) ∙ ap (λ (i : ℕ). next_ok (path_at (before h).paths i)) (sym same) ∙ e))
  gave n h (reply.OnChannel k (to_client.Deliver d)) text p e old =
      told n h k (to_client.Deliver d) p old
      (λ life l same. deliver_first (after_events life (path_events h n)) d (ap next_deliver (sym (path_of h n life p (below h n life l) l)) ∙ ap (λ (i : ℕ). next_deliver (path_at (before h).paths i)) (sym same) ∙ e))
  gave n h (reply.OnChannel k (to_client.Content c)) text p e old = told n h k (to_client.Content c) p old (λ life l same. none_first _)
  gave n h (reply.OnChannel k (to_client.Confirm c)) text p e old = told n h k (to_client.Confirm c) p old (λ life l same. none_first _)
  gave n h (reply.OnChannel k (to_client.Return r)) text p e old = told n h k (to_client.Return r) p old (λ life l same. none_first _)
  gave n h u text p e old = old

  whole : (n : ℕ) (h : List Step) → AnswersIn n h → AnswersIn n (Whole Client ∷ h)
  whole n h old life l = quietly life (path_events h n) (wrote_events n (going_in h)) (none (going_in h)) (old life l)
    where
      one : (u : ChannelUnit) → AllByRecursion IsNone (wrote_event u)
      one (to_client.Content c) = by c.last
        where
          by : (b : Bool) → AllByRecursion IsNone (if b then event.ContentWhole c.tag ∷ [] else [])
          by true = (refl, tt)
          by false = tt
      one u = tt

      none : (o : Option Reply) → AllByRecursion IsNone (wrote_events n o)
      none (Some (reply.OnChannel k u)) = by (k == n)
        where
          by : (b : Bool) → AllByRecursion IsNone (if b then wrote_event u else [])
          by true = one u
          by false = tt
      none o = tt

  in_order : (n : ℕ) (h : List Step) → ArePicks h → AnswersIn n h
  in_order n [] p = λ life l. absurd cc
  in_order n (Gave (ToClient u) text ∷ h) p = gave n h u text p.1 (goes_as (IsNext (before h)) (before h) u is_next p.0.1) (in_order n h p.1)
  in_order n (Whole Client ∷ h) p = whole n h (in_order n h p.1)
  in_order n (s ∷ h) p = quiet n h s refl (in_order n h p.1)

  pub answers_in_order : (h : List Step) → ArePicks h → AnswersInOrder h
  answers_in_order h p n life l = law life (path_events h n) (in_order n h p life l)
