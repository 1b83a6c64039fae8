-- What the gateway sends on links keeps their credit to the fold: attaches, flows, and first frames of transfers.
use Rattle.std.proofs.Common.{◌≡◌, ◌∙◌, ℕ, ◌+◌, ◌-◌, ◌%◌, ◌^◌, ◌≤◌, ◌<◌, length, Bool, true, false}
use Rattle.std.proofs.Common.{Option, Some, None, refl, sym, subst, ap, arith, cond, map}
use Rattle.std.specs.Prelude.{find, is_some, nat_le, position, ◌==◌, ◌&&◌, ◌||◌}
use Rattle.std.specs.Option.{option_map}
use Rattle.std.proofs.lemmas.Bool.Decides.{nat_tests}
use Rattle.std.proofs.lemmas.List.Quantifiers.{position-Some}
use Rattle.open_items.proofs.Filtered.{all_find}
use Rattle.link_table.specs.declared.handles.HandleState.{HandleState}
use Rattle.link_table.specs.declared.handles.HandleState.TheVariants as state
use Rattle.link_table.specs.Table.{HandleTable, free_of, is_asked, is_free, is_named, state_of, up_to}
use Rattle.link_table.specs.Table.{with_state}
use Rattle.links_10.specs.Send.{advanced, after_begun, after_drain, left_of, new_link}
use Rattle.links_10.specs.declared.send.Sending.{Sending}
use Rattle.publish_path.specs.Links.{begun_on, can_send, drained, link_of}
use Rattle.publish_path.specs.declared.send_links.SendingLink.{SendingLink}
use Rattle.session_path.specs.declared.path.PathLink.{PathLink}
use Rattle.session_path.specs.declared.path.Stage.{Stage}
use Rattle.session_path.specs.declared.path.Stage.TheVariants as stage
use Rattle.session_path.specs.Due.{count_of, credit_of}
use Rattle.session_path.specs.Links.{LinksState, asked_as, count_in, credit_in, is_left, asked_on, drained_if, handle_at, handle_in, handle_in_link, handle_of, has_number}
use Rattle.session_path.specs.Links.{is_given_back, is_half, is_parting, is_stage_failed, is_stage_given, is_stage_left, is_stage_wanted, is_wanted, is_whole, put, stands, told_on, told_once}
use Rattle.session_path.proofs.Tied.{Tied}
use Rattle.session_path.proofs.Ties.{and_left, and_right, eq_of, eq_to, found_number, found_passes, ne_to, no_clash}
use Rattle.gate_model.specs.LinkCredits.{Credit, begun, left, new_credit, told}
use Rattle.gate_model.proofs.LinkCredits.{Agree, AllAgree, AtEnd, AtStage, HasAsked, IsKept, IsOver, IsSpent, agree_as, agree_on, apart, found_sender}
use Rattle.gate_model.proofs.LinkCredits.{role_in, role_mapped, spent_by_role, spent_on, still_receives}
use Rattle.gate_model.proofs.LinkCredits.{mapped_here, mapped_other, named_stays, placed_here, placed_other, some_is}

-- ---- attaches

-- a handle that a link has isn't free
not_free : (p : HandleState → Bool) → p state.Free ≡ false → (s : HandleState) → p s ≡ true → is_free s ≡ false
not_free p never state.Free e = absurd (no_clash (p state.Free) e never)
not_free p never state.Asked e = refl
not_free p never (state.Attached a) e = refl

pub held : (t : HandleTable) (g : Stage) (j : ℕ) → stands t g ≡ true → handle_in g ≡ Some j → is_free (state_of t j) ≡ false
held t stage.Wanted j e has = absurd cc
held t (stage.Asked k) j e has = subst (λ (m : ℕ). is_free (state_of t m) ≡ false) (some_is k j has) (not_free is_asked refl (state_of t k) e)
held t (stage.Open k) j e has = subst (λ (m : ℕ). is_free (state_of t m) ≡ false) (some_is k j has) (not_free is_whole refl (state_of t k) e)
held t (stage.Refused k) j e has = subst (λ (m : ℕ). is_free (state_of t m) ≡ false) (some_is k j has) (not_free is_whole refl (state_of t k) e)
held t (stage.Left k) j e has = subst (λ (m : ℕ). is_free (state_of t m) ≡ false) (some_is k j has) (not_free is_half refl (state_of t k) e)
held t (stage.Given k) j e has = subst (λ (m : ℕ). is_free (state_of t m) ≡ false) (some_is k j has) (not_free is_given_back refl (state_of t k) e)
held t (stage.Failed k fault) j e has = subst (λ (m : ℕ). is_free (state_of t m) ≡ false) (some_is k j has) (not_free is_whole refl (state_of t k) e)

pub free_at : (t : HandleTable) (h : ℕ) → free_of t ≡ Some h → (h < length t.states) × (is_free (state_of t h) ≡ true)
free_at t h e = by (position is_free t.states) refl e
  where
    up : (m : ℕ) (b : Bool) → cond b (Some m) None ≡ Some h → m ≡ h
    up m true f = some_is m h f
    up m false f = absurd cc

    by : (o : Option ℕ) → position is_free t.states ≡ o → up_to t.most o ≡ Some h → (h < length t.states) × (is_free (state_of t h) ≡ true)
    by None is f = absurd cc
    by (Some m) is f =
        let same : m ≡ h = up m (nat_le m t.most) f in
        let found = position-Some is_free t.states m state.Free is in
        (subst (λ (k : ℕ). k < length t.states) same found.0, subst (λ (k : ℕ). is_free (state_of t k) ≡ true) same found.1)

asks_none : (peer : ℕ) → is_named peer state.Asked ≡ true → ⊥
asks_none peer e = cc

wanted_stage : (g : Stage) → is_stage_wanted g ≡ true → g ≡ stage.Wanted
wanted_stage stage.Wanted e = refl
wanted_stage (stage.Asked h) e = absurd cc
wanted_stage (stage.Open h) e = absurd cc
wanted_stage (stage.Refused h) e = absurd cc
wanted_stage (stage.Left h) e = absurd cc
wanted_stage (stage.Given h) e = absurd cc
wanted_stage (stage.Failed h fault) e = absurd cc

module _ (f : ℕ → Option Credit) (s : LinksState) (l : PathLink) (h name : ℕ) (t : Tied s) (all : AllAgree f s) (found : find is_wanted s.links ≡ Some l) (free : free_of s.handles ≡ Some h) where
  abbrev asked_fold : ℕ → Option Credit
  asked_fold k = cond (h == k) (Some (new_credit l.link name l.receives)) (f k)

  abbrev asked_table : HandleTable
  asked_table = with_state h state.Asked s.handles

  apart_now : (n : ℕ) (k : PathLink) → find (has_number n) s.links ≡ Some k → (j : ℕ) → handle_in k.stage ≡ Some j → (h == j) ≡ false
  apart_now n k is j has =
      let off : is_free (state_of s.handles j) ≡ false = held s.handles k.stage j (all_find (λ x. stands s.handles x.stage ≡ true) (has_number n) s.links k t.standing is).0 has in
      ne_to h j (λ same. no_clash (is_free (state_of s.handles j)) (subst (λ (m : ℕ). is_free (state_of s.handles m) ≡ true) same (free_at s.handles h free).1) off)

  wanted_stays : is_parting l ≡ false
  wanted_stays = ap (λ (q : Stage). (is_stage_left q || is_stage_failed q) || is_stage_given q) (wanted_stage l.stage (found_passes is_wanted s.links l found))

  agree_asked : (o : Option SendingLink) → Agree f s.handles o (Some l) → Agree asked_fold asked_table o (Some (asked_as h name l))
  agree_asked None i = (
    ap (λ (b : Bool). cond b (Some (new_credit l.link name l.receives)) (f h)) (eq_to h h refl),
    still_receives f l.link l.count l.credit l.receives l.stage i.1 wanted_stays,
  )
  agree_asked (Some x) i =
      (ap (λ (b : Bool). cond b (Some (new_credit l.link name l.receives)) (f h)) (eq_to h h refl), (i.1.0, subst (AtStage f s.handles x) (wanted_stage l.stage (found_passes is_wanted s.links l found)) i.1.1))

  pub asked_agree : AllAgree asked_fold (asked_on (Some l) (Some h) name s)
  asked_agree n = by (l.link == n) refl
    where
      by : (b : Bool) → (l.link == n) ≡ b → Agree asked_fold asked_table (link_of s.sending n) (find (has_number n) (put (asked_as h name l) s.links))
      by false e =
          agree_as asked_fold asked_table _ _ _ _ refl (placed_other n (asked_as h name l) s.links e)
          (agree_on f asked_fold s.handles asked_table (link_of s.sending n) (find (has_number n) s.links)
          (λ k is j has. record {
            fold = ap (λ (b : Bool). cond b (Some (new_credit l.link name l.receives)) (f j)) (apart_now n k is j has);
            names = λ peer named. named_stays s.handles h state.Asked peer j (apart_now n k is j has) (λ e. absurd (asks_none peer e)) named;
          }) (all n))
      by true e =
          let same : l.link ≡ n = eq_of l.link n e in
          let is : find (has_number n) s.links ≡ Some l = subst (λ (m : ℕ). find (has_number m) s.links ≡ Some l) same (found_number is_wanted s.links l t.rising found) in
          agree_as asked_fold asked_table _ _ (Some (asked_as h name l)) _ refl (placed_here n (asked_as h name l) l s.links same is)
          (agree_asked (link_of s.sending n) (subst (Agree f s.handles (link_of s.sending n)) is (all n)))

-- ---- flows

told_new : (link count link' name : ℕ) (role : Bool) → told link count (new_credit link' name role) ≡ new_credit link' name role
told_new link count link' name role = by (link' == link)
  where
    by : (b : Bool) → cond (b && false) (record (new_credit link' name role) { count = count }) (new_credit link' name role) ≡ new_credit link' name role
    by true = refl
    by false = refl

abbrev told_fold : (ℕ → Option Credit) → ℕ → ℕ → ℕ → ℕ → Option Credit
told_fold f link handle count k = cond (handle == k) (option_map (told link count) (f k)) (f k)

told_role : (link count : ℕ) (c : Credit) → (told link count c).receives ≡ c.receives
told_role link count c = by ((c.link == link) && is_some c.peer)
  where
    by : (b : Bool) → (cond b (record c { count = count }) c).receives ≡ c.receives
    by true = refl
    by false = refl

role_told : (f : ℕ → Option Credit) (link handle count j : ℕ) (role : Bool) → role_in (f j) ≡ Some role → role_in (told_fold f link handle count j) ≡ Some role
role_told f link handle count j role i = by (handle == j)
  where
    by : (b : Bool) → role_in (cond b (option_map (told link count) (f j)) (f j)) ≡ Some role
    by true = role_mapped (told link count) (told_role link count) (f j) role i
    by false = i

-- what a flow leaves of a link that is asked for
asked_told : (f : ℕ → Option Credit) (link handle count own name : ℕ) (role : Bool) (g : Stage) → HasAsked f own name role g
    → HasAsked (told_fold f link handle count) own name role g
asked_told f link handle count own name role stage.Wanted i = i
asked_told f link handle count own name role (stage.Asked j) i = by (handle == j)
  where
    by : (b : Bool) → cond b (option_map (told link count) (f j)) (f j) ≡ Some (new_credit own name role)
    by true = ap (option_map (told link count)) i ∙ ap Some (told_new link count own name role)
    by false = i
asked_told f link handle count own name role (stage.Open j) i = role_told f link handle count j role i
asked_told f link handle count own name role (stage.Refused j) i = role_told f link handle count j role i
asked_told f link handle count own name role (stage.Left j) i = role_told f link handle count j role i
asked_told f link handle count own name role (stage.Given j) i = role_told f link handle count j role i
asked_told f link handle count own name role (stage.Failed j fault) i = role_told f link handle count j role i

-- and of one with another number
kept_told : (f : ℕ → Option Credit) (t : HandleTable) (link handle count j : ℕ) (x : SendingLink) → (x.link == link) ≡ false → IsKept f t x j
    → IsKept (told_fold f link handle count) t x j
kept_told f t link handle count j x ne k = record {
  credit = k.credit;
  is = by (handle == j);
  peer = k.peer;
  answers = k.answers;
  names = k.names;
  number = k.number;
  count = k.count;
  low = k.low;
  exact = k.exact;
  stays = k.stays;
}
  where
    stays : told link count k.credit ≡ k.credit
    stays = ap (λ (b : Bool). cond (b && is_some k.credit.peer) (record k.credit { count = count }) k.credit) (ap (λ (m : ℕ). m == link) k.number ∙ ne)

    by : (b : Bool) → cond b (option_map (told link count) (f j)) (f j) ≡ Some k.credit
    by true = ap (option_map (told link count)) k.is ∙ ap Some stays
    by false = k.is

stage_told : (f : ℕ → Option Credit) (t : HandleTable) (link handle count : ℕ) (x : SendingLink) (g : Stage) → (x.link == link) ≡ false → AtStage f t x g
    → AtStage (told_fold f link handle count) t x g
stage_told f t link handle count x stage.Wanted ne i = i
stage_told f t link handle count x (stage.Asked j) ne i = i
stage_told f t link handle count x (stage.Open j) ne i = kept_told f t link handle count j x ne i
stage_told f t link handle count x (stage.Refused j) ne i = kept_told f t link handle count j x ne i
stage_told f t link handle count x (stage.Left j) ne i = i
stage_told f t link handle count x (stage.Given j) ne i = i
stage_told f t link handle count x (stage.Failed j fault) ne i = i

module _ (f : ℕ → Option Credit) (s : LinksState) (link handle count : ℕ) where
  abbrev after_flow : ℕ → Option Credit
  after_flow = told_fold f link handle count

  -- of one that the container detached, with another number
  over_told : (l : PathLink) → (l.link == link) ≡ false → IsSpent f l → IsSpent after_flow l
  over_told l ne e = spent_on f after_flow l.link l.count l.credit l.receives l.stage (λ h is sends o. by h o (handle == h)) e
    where
      stays : (h : ℕ) (o : IsOver f l.link l.count l.credit h) → told link count o.credit ≡ o.credit
      stays h o = ap (λ (b : Bool). cond (b && is_some o.credit.peer) (record o.credit { count = count }) o.credit) (ap (λ (m : ℕ). m == link) o.number ∙ ne)

      by : (h : ℕ) (o : IsOver f l.link l.count l.credit h) (b : Bool) → cond b (option_map (told link count) (f h)) (f h) ≡ f h
      by h o true = ap (option_map (told link count)) o.is ∙ ap Some (stays h o) ∙ sym o.is
      by h o false = refl

  told_apart : (n : ℕ) (o : Option SendingLink) (p : Option PathLink) → link_of s.sending n ≡ o → find (has_number n) s.links ≡ p → (n == link) ≡ false → Agree f s.handles o p
      → Agree after_flow s.handles o p
  told_apart n o None e g ne i = i
  told_apart n None (Some l) e g ne i = (
    asked_told f link handle count l.link l.name l.receives l.stage i.0,
    over_told l (ap (λ (m : ℕ). m == link) (eq_of l.link n (found_passes (has_number n) s.links l g)) ∙ ne) i.1,
  )
  told_apart n (Some x) (Some l) e g ne i =
      let other : (x.link == link) ≡ false = ap (λ (m : ℕ). m == link) (found_sender n s.sending x e) ∙ ne in
      (asked_told f link handle count l.link l.name l.receives l.stage i.0, (i.1.0, stage_told f s.handles link handle count x l.stage other i.1.1))

  -- of a link that doesn't send
  pub grant_agree : ((k : PathLink) → find (has_number link) s.links ≡ Some k → k.receives ≡ true) → AllAgree f s → AllAgree after_flow s
  grant_agree receives all n = by (n == link) refl
    where
      alone : (o : Option SendingLink) (p : Option PathLink) → find (has_number n) s.links ≡ p → n ≡ link → Agree f s.handles o p → Agree after_flow s.handles o p
      alone o None e same i = i
      alone None (Some l) e same i = (
        asked_told f link handle count l.link l.name l.receives l.stage i.0,
        spent_by_role after_flow l.link l.count l.credit l.receives l.stage (receives l (ap (λ (m : ℕ). find (has_number m) s.links) (sym same) ∙ e)),
      )
      alone (Some x) (Some l) e same i = absurd (no_clash l.receives (receives l (ap (λ (m : ℕ). find (has_number m) s.links) (sym same) ∙ e)) i.1.0)

      by : (b : Bool) → (n == link) ≡ b → Agree after_flow s.handles (link_of s.sending n) (find (has_number n) s.links)
      by false ne = told_apart n (link_of s.sending n) (find (has_number n) s.links) refl refl ne (all n)
      by true e = alone (link_of s.sending n) (find (has_number n) s.links) refl (eq_of n link e) (all n)

-- of a link with this number that both attached
told_is : (f : ℕ → Option Credit) (link handle count j : ℕ) (c : Credit) (peer : ℕ) → handle ≡ j → f j ≡ Some c → c.link ≡ link → c.peer ≡ Some peer
    → told_fold f link handle count j ≡ Some (record c { count = count })
told_is f link handle count j c peer same is number answers =
    ap (λ (b : Bool). cond b (option_map (told link count) (f j)) (f j)) (eq_to handle j same)
    ∙ ap (option_map (told link count)) is
    ∙ ap (λ (b : Bool). Some (cond (b && is_some c.peer) (record c { count = count }) c)) (eq_to c.link link number)
    ∙ ap (λ (o : Option ℕ). Some (cond (is_some o) (record c { count = count }) c)) answers

-- none is left behind all that was
none_left : (stated credit count given : ℕ) → credit < 2 ^ 32 → given ≡ left_of stated credit count → 0 ≡ left_of stated credit ((count + given) % 2 ^ 32)
none_left stated credit count given uint e = omega (arith, uint, e)

-- of one that sends: its state, or its credit is given back
module _ (f : ℕ → Option Credit) (s : LinksState) (l : PathLink) (p : PathLink → Bool) (t : Tied s) (all : AllAgree f s) (found : find p s.links ≡ Some l)
    (there : is_stage_wanted l.stage ≡ false) where
  abbrev drains : Bool
  drains = l.echoes == 0

  -- the count that it states
  abbrev stated_by : ℕ → ℕ → ℕ
  stated_by count credit = cond drains ((count + credit) % 2 ^ 32) count

  abbrev stated : ℕ
  stated = stated_by (count_of s.sending l) (credit_of s.sending l)

  -- of one whose credit is kept
  stated_kept : (x : SendingLink) → is_left l ≡ false → link_of s.sending l.link ≡ Some x → stated_by x.state.count x.state.credit ≡ stated
  stated_kept x off e =
      sym (ap (λ (b : Bool). stated_by (cond b l.count (count_in (link_of s.sending l.link))) (cond b l.credit (credit_in (link_of s.sending l.link)))) off
      ∙ ap (λ (o : Option SendingLink). stated_by (count_in o) (credit_in o)) e)

  -- and of one that the container detached
  stated_left : is_left l ≡ true → stated_by l.count l.credit ≡ stated
  stated_left left_is = sym (ap (λ (b : Bool). stated_by (cond b l.count (count_in (link_of s.sending l.link))) (cond b l.credit (credit_in (link_of s.sending l.link)))) left_is)

  abbrev fold : ℕ → Option Credit
  fold = told_fold f l.link (handle_of l.stage) stated

  own : find (has_number l.link) s.links ≡ Some l
  own = found_number p s.links l t.rising found

  has : handle_in l.stage ≡ Some (handle_of l.stage)
  has = by l.stage there
    where
      by : (g : Stage) → is_stage_wanted g ≡ false → handle_in g ≡ Some (handle_of g)
      by stage.Wanted e = absurd cc
      by (stage.Asked j) e = refl
      by (stage.Open j) e = refl
      by (stage.Refused j) e = refl
      by (stage.Left j) e = refl
      by (stage.Given j) e = refl
      by (stage.Failed j fault) e = refl

  abbrev drained_if_so : Bool → SendingLink → SendingLink
  drained_if_so b x = record x { state = cond b (after_drain x.state) x.state }

  drain_count : (b : Bool) (x : SendingLink) → (cond b (after_drain x.state) x.state).count ≡ cond b ((x.state.count + x.state.credit) % 2 ^ 32) x.state.count
  drain_count true x = refl
  drain_count false x = refl

  kept_now : (j : ℕ) (x : SendingLink) → x.link ≡ l.link → handle_of l.stage ≡ j → stated_by x.state.count x.state.credit ≡ stated → IsKept f s.handles x j
      → IsKept fold s.handles (drained_if_so drains x) j
  kept_now j x number same is k = record {
    credit = record k.credit { count = stated };
    is = told_is f l.link (handle_of l.stage) stated j k.credit k.peer same k.is (k.number ∙ number) k.answers;
    peer = k.peer;
    answers = k.answers;
    names = k.names;
    number = k.number;
    count = drain_count drains x ∙ is;
    low = by drains is;
    exact = λ uint. whole drains uint is;
    stays = k.stays;
  }
    where
      by : (b : Bool) → cond b ((x.state.count + x.state.credit) % 2 ^ 32) x.state.count ≡ stated
          → (cond b (after_drain x.state) x.state).credit ≤ left (record k.credit { count = stated })
      by true e = omega arith
      by false e = subst (λ (m : ℕ). x.state.credit ≤ left (record k.credit { count = m })) (sym k.count ∙ e) k.low

      whole : (b : Bool) → k.credit.credit < 2 ^ 32 → cond b ((x.state.count + x.state.credit) % 2 ^ 32) x.state.count ≡ stated
          → (cond b (after_drain x.state) x.state).credit ≡ left (record k.credit { count = stated })
      whole true uint e =
          subst (λ (m : ℕ). 0 ≡ left (record k.credit { count = m })) e
          (subst (λ (m : ℕ). 0 ≡ left (record k.credit { count = (m + x.state.credit) % 2 ^ 32 })) (sym k.count)
          (none_left k.credit.stated k.credit.credit k.credit.count x.state.credit uint (k.exact uint)))
      whole false uint e = subst (λ (m : ℕ). x.state.credit ≡ left (record k.credit { count = m })) (sym k.count ∙ e) (k.exact uint)

  stage_now : (x : SendingLink) (g : Stage) → x.link ≡ l.link → ((j : ℕ) → handle_in g ≡ Some j → handle_of l.stage ≡ j)
      → (is_stage_left g ≡ false → stated_by x.state.count x.state.credit ≡ stated) → is_stage_wanted g ≡ false → AtStage f s.handles x g → AtStage fold s.handles (drained_if_so drains x) g
  stage_now x stage.Wanted number same is off i = absurd cc
  stage_now x (stage.Asked j) number same is off i = (i.0, ap (λ (y : Sending). cond drains (after_drain y) y) i.1 ∙ new drains)
    where
      new : (b : Bool) → cond b (after_drain new_link) new_link ≡ new_link
      new true = refl
      new false = refl
  stage_now x (stage.Open j) number same is off i = kept_now j x number (same j refl) (is refl) i
  stage_now x (stage.Refused j) number same is off i = kept_now j x number (same j refl) (is refl) i
  stage_now x (stage.Left j) number same is off i = i
  stage_now x (stage.Given j) number same is off i = i
  stage_now x (stage.Failed j fault) number same is off i = i

  over_now : (j : ℕ) → handle_of l.stage ≡ j → stated_by l.count l.credit ≡ stated → IsOver f l.link l.count l.credit j
      → IsOver fold l.link (cond drains (advanced l.count l.credit) l.count) (cond drains 0 l.credit) j
  over_now j same is o = record {
    credit = record o.credit { count = stated };
    is = told_is f l.link (handle_of l.stage) stated j o.credit o.peer same o.is o.number o.answers;
    peer = o.peer;
    answers = o.answers;
    number = o.number;
    states = by drains is;
    low = low drains is;
    exact = λ uint. whole drains uint is;
    over = o.over;
  }
    where
      by : (b : Bool) → cond b ((l.count + l.credit) % 2 ^ 32) l.count ≡ stated → cond b (advanced l.count l.credit) l.count ≡ stated
      by true e = e
      by false e = e

      low : (b : Bool) → cond b ((l.count + l.credit) % 2 ^ 32) l.count ≡ stated → cond b 0 l.credit ≤ left (record o.credit { count = stated })
      low true e = omega arith
      low false e = subst (λ (m : ℕ). l.credit ≤ left (record o.credit { count = m })) (sym o.states ∙ e) o.low

      whole : (b : Bool) → o.credit.credit < 2 ^ 32 → cond b ((l.count + l.credit) % 2 ^ 32) l.count ≡ stated → cond b 0 l.credit ≡ left (record o.credit { count = stated })
      whole true uint e =
          subst (λ (m : ℕ). 0 ≡ left (record o.credit { count = m })) e
          (subst (λ (m : ℕ). 0 ≡ left (record o.credit { count = (m + l.credit) % 2 ^ 32 })) (sym o.states)
          (none_left o.credit.stated o.credit.credit o.credit.count l.credit uint (o.exact uint)))
      whole false uint e = subst (λ (m : ℕ). l.credit ≡ left (record o.credit { count = m })) (sym o.states ∙ e) (o.exact uint)

  spent_now : (g : Stage) → ((j : ℕ) → handle_in g ≡ Some j → handle_of l.stage ≡ j) → (is_stage_left g ≡ true → stated_by l.count l.credit ≡ stated)
      → AtEnd f l.link l.count l.credit l.receives g → AtEnd fold l.link (cond drains (advanced l.count l.credit) l.count) (cond drains 0 l.credit) l.receives g
  spent_now stage.Wanted same is e = e
  spent_now (stage.Asked j) same is e = e
  spent_now (stage.Open j) same is e = e
  spent_now (stage.Refused j) same is e = e
  spent_now (stage.Left j) same is e = λ sends. over_now j (same j refl) (is refl) (e sends)
  spent_now (stage.Given j) same is e = tt
  spent_now (stage.Failed j fault) same is e = e

  agree_now : (o : Option SendingLink) → link_of s.sending l.link ≡ o → Agree f s.handles o (Some l)
      → Agree fold s.handles (option_map (drained_if_so drains) o) (Some (told_once l))
  agree_now None e i = (
    asked_told f l.link (handle_of l.stage) stated l.link l.name l.receives l.stage i.0,
    spent_now l.stage (λ j is. some_is (handle_of l.stage) j (sym has ∙ is)) stated_left i.1,
  )
  agree_now (Some x) e i = (
    asked_told f l.link (handle_of l.stage) stated l.link l.name l.receives l.stage i.0,
    (i.1.0, stage_now x l.stage (found_sender l.link s.sending x e) (λ j is. some_is (handle_of l.stage) j (sym has ∙ is)) (λ off. stated_kept x off e) there i.1.1),
  )

  sending_other : (b : Bool) (n : ℕ) → (l.link == n) ≡ false → link_of (drained_if b l.link s.sending) n ≡ link_of s.sending n
  sending_other false n ne = refl
  sending_other true n ne =
      mapped_other n (drained l.link) (λ x. refl)
      (λ x e. ap (λ (b : Bool). record x { state = cond b (after_drain x.state) x.state }) (ne_to x.link l.link (λ same. no_clash (l.link == n) (eq_to l.link n (sym same ∙ e)) ne))) s.sending

  sending_own : (b : Bool) → link_of (drained_if b l.link s.sending) l.link ≡ option_map (drained_if_so b) (link_of s.sending l.link)
  sending_own false = by (link_of s.sending l.link)
    where
      by : (o : Option SendingLink) → o ≡ option_map (drained_if_so false) o
      by None = refl
      by (Some x) = refl
  sending_own true = mapped_here l.link (drained l.link) (λ x. refl) s.sending ∙ by (link_of s.sending l.link) refl
    where
      by : (o : Option SendingLink) → link_of s.sending l.link ≡ o → option_map (drained l.link) o ≡ option_map (drained_if_so true) o
      by None e = refl
      by (Some x) e = ap (λ (b : Bool). Some (record x { state = cond b (after_drain x.state) x.state })) (eq_to x.link l.link (found_sender l.link s.sending x e))

  pub told_agree : AllAgree fold (told_on (Some l) s)
  told_agree n = by (l.link == n) refl
    where
      by : (b : Bool) → (l.link == n) ≡ b → Agree fold s.handles (link_of (drained_if drains l.link s.sending) n) (find (has_number n) (put (told_once l) s.links))
      by false e =
          agree_as fold s.handles _ _ _ _ (sending_other drains n e) (placed_other n (told_once l) s.links e)
          (agree_on f fold s.handles s.handles (link_of s.sending n) (find (has_number n) s.links)
          (λ k is j at. record {
            fold = ap (λ (b : Bool). cond b (option_map (told l.link stated) (f j)) (f j)) (apart p n s l k t found is e (handle_of l.stage) j has at);
            names = λ peer named. named;
          }) (all n))
      by true e =
          let same : l.link ≡ n = eq_of l.link n e in
          subst (λ (m : ℕ). Agree fold s.handles (link_of (drained_if drains l.link s.sending) m) (find (has_number m) (put (told_once l) s.links))) same
          (agree_as fold s.handles _ _ (Some (told_once l)) _ (sending_own drains) (placed_here l.link (told_once l) l s.links refl own)
          (agree_now (link_of s.sending l.link) refl (subst (Agree f s.handles (link_of s.sending l.link)) own (all l.link))))

-- ---- transfers

-- one more delivery lessens by one at most what is left
less_left : (stated credit count : ℕ) → left_of stated credit count ≤ left_of stated credit (advanced count 1) + 1
less_left stated credit count = omega arith

one_less : (stated credit count most : ℕ) → credit < 2 ^ 32 → 1 ≤ most → most ≡ left_of stated credit count → most - 1 ≡ left_of stated credit (advanced count 1)
one_less stated credit count most uint some e = omega (arith, uint, some, e)

module _ (f : ℕ → Option Credit) (s : LinksState) (link : ℕ) (t : Tied s) (all : AllAgree f s) (can : can_send (link_of s.sending link) ≡ true) where
  abbrev handle : ℕ
  handle = handle_at link s.links

  abbrev begun_fold : ℕ → Option Credit
  begun_fold k = cond (handle == k) (option_map begun (f k)) (f k)

  -- the link that it goes on
  record Goes : Type 0 where
    x : SendingLink
    is : link_of s.sending link ≡ Some x
    l : PathLink
    found : find (has_number link) s.links ≡ Some l
    sends : l.receives ≡ false
    there : handle_in l.stage ≡ Some handle
    kept : IsKept f s.handles x handle
    some : 1 ≤ x.state.credit
    role : role_in (f handle) ≡ Some l.receives
    stays : (g : ℕ → Option Credit) (y : SendingLink) → role_in (g handle) ≡ Some l.receives → IsKept g s.handles y handle → HasAsked g l.link l.name l.receives l.stage × AtStage g s.handles y l.stage

  has_credit : (x : SendingLink) → can_send (Some x) ≡ true → 1 ≤ x.state.credit
  has_credit x e = grind (arith, nat_tests, and_right x.attached (nat_le 1 x.state.credit) e)

  goes : Goes
  goes = by (link_of s.sending link) refl (find (has_number link) s.links) refl can (all link)
    where
      at : (x : SendingLink) (l : PathLink) (h : ℕ) → link_of s.sending link ≡ Some x → find (has_number link) s.links ≡ Some l → can_send (Some x) ≡ true → l.receives ≡ false
          → handle_in l.stage ≡ Some h → handle_of l.stage ≡ h → role_in (f h) ≡ Some l.receives → IsKept f s.handles x h
          → ((g : ℕ → Option Credit) (y : SendingLink) → role_in (g h) ≡ Some l.receives → IsKept g s.handles y h → HasAsked g l.link l.name l.receives l.stage × AtStage g s.handles y l.stage) → Goes
      at x l h is found may sends has hand role k stays =
          let same : handle ≡ h = ap handle_in_link found ∙ hand in
          record {
            x = x;
            is = is;
            l = l;
            found = found;
            sends = sends;
            there = has ∙ ap Some (sym same);
            kept = subst (IsKept f s.handles x) (sym same) k;
            some = has_credit x may;
            role = ap (λ (m : ℕ). role_in (f m)) same ∙ role;
            stays = λ g y r i. stays g y (ap (λ (m : ℕ). role_in (g m)) (sym same) ∙ r) (subst (IsKept g s.handles y) same i);
          }

      staged : (x : SendingLink) (l : PathLink) (q : Stage) → l.stage ≡ q → link_of s.sending link ≡ Some x → find (has_number link) s.links ≡ Some l → can_send (Some x) ≡ true → l.receives ≡ false
          → HasAsked f l.link l.name l.receives q → AtStage f s.handles x q → Goes
      staged x l stage.Wanted st is found may sends asked i = absurd (no_clash x.attached (and_left x.attached (nat_le 1 x.state.credit) may) i.0)
      staged x l (stage.Asked j) st is found may sends asked i = absurd (no_clash x.attached (and_left x.attached (nat_le 1 x.state.credit) may) i.0)
      staged x l (stage.Open j) st is found may sends asked i =
          at x l j is found may sends (ap handle_in st) (ap handle_of st) asked i
          (λ g y r k. subst (λ (q : Stage). HasAsked g l.link l.name l.receives q × AtStage g s.handles y q) (sym st) (r, k))
      staged x l (stage.Refused j) st is found may sends asked i =
          at x l j is found may sends (ap handle_in st) (ap handle_of st) asked i
          (λ g y r k. subst (λ (q : Stage). HasAsked g l.link l.name l.receives q × AtStage g s.handles y q) (sym st) (r, k))
      staged x l (stage.Left j) st is found may sends asked i = absurd i
      staged x l (stage.Given j) st is found may sends asked i = absurd i
      staged x l (stage.Failed j fault) st is found may sends asked i = absurd i

      by : (o : Option SendingLink) → link_of s.sending link ≡ o → (q : Option PathLink) → find (has_number link) s.links ≡ q → can_send o ≡ true → Agree f s.handles o q → Goes
      by None is q found may i = absurd cc
      by (Some x) is None found may i = absurd cc
      by (Some x) is (Some l) found may i = staged x l l.stage refl is found may i.1.0 i.0 i.1.1

  -- the fold leaves it a credit of one
  pub credit_there : (c : Credit) × (f handle ≡ Some c) × (1 ≤ left c)
  credit_there = let g = goes in (g.kept.credit, g.kept.is, omega (arith, g.some, g.kept.low))

  after_one : (x : SendingLink) → x.link ≡ link → 1 ≤ x.state.credit → begun_on link x ≡ record x { state = after_begun x.state }
  after_one x number some =
      let most : nat_le 1 x.state.credit ≡ true = grind (arith, nat_tests, some) in
      ap (λ (b : Bool). record x { state = cond (b && nat_le 1 x.state.credit) (after_begun x.state) x.state }) (eq_to x.link link number)
      ∙ ap (λ (b : Bool). record x { state = cond b (after_begun x.state) x.state }) most

  kept_begun : (g : Goes) → IsKept begun_fold s.handles (record g.x { state = after_begun g.x.state }) handle
  kept_begun g =
      let k = g.kept in
      let less : left k.credit ≤ left (begun k.credit) + 1 = less_left k.credit.stated k.credit.credit k.credit.count in
      record {
        credit = begun k.credit;
        is = ap (λ (b : Bool). cond b (option_map begun (f handle)) (f handle)) (eq_to handle handle refl) ∙ ap (option_map begun) k.is;
        peer = k.peer;
        answers = k.answers;
        names = k.names;
        number = k.number;
        count = ap (λ (m : ℕ). advanced m 1) k.count;
        low = let low : g.x.state.credit ≤ left k.credit = k.low in omega (arith, low, less);
        exact = λ uint. one_less k.credit.stated k.credit.credit k.credit.count g.x.state.credit uint g.some (k.exact uint);
        stays = k.stays;
      }

  role_begun : (g : Goes) → role_in (begun_fold handle) ≡ Some g.l.receives
  role_begun g = by (handle == handle)
    where
      by : (b : Bool) → role_in (cond b (option_map begun (f handle)) (f handle)) ≡ Some g.l.receives
      by true = role_mapped begun (λ c. refl) (f handle) g.l.receives g.role
      by false = g.role

  agree_begun : (g : Goes) → Agree begun_fold s.handles (Some (record g.x { state = after_begun g.x.state })) (Some g.l)
  agree_begun g = let now = g.stays begun_fold (record g.x { state = after_begun g.x.state }) (role_begun g) (kept_begun g) in (now.0, (g.sends, now.1))

  begun_by : Goes → AllAgree begun_fold (record s { sending = map (begun_on link) s.sending })
  begun_by g n = by (link == n) refl
    where
      number : g.l.link ≡ link
      number = eq_of g.l.link link (found_passes (has_number link) s.links g.l g.found)

      here : link_of (map (begun_on link) s.sending) link ≡ Some (record g.x { state = after_begun g.x.state })
      here =
          mapped_here link (begun_on link) (λ x. refl) s.sending ∙ ap (option_map (begun_on link)) g.is
          ∙ ap Some (after_one g.x (found_sender link s.sending g.x g.is) g.some)

      by : (b : Bool) → (link == n) ≡ b → Agree begun_fold s.handles (link_of (map (begun_on link) s.sending) n) (find (has_number n) s.links)
      by false e =
          agree_as begun_fold s.handles _ _ _ _
          (mapped_other n (begun_on link) (λ x. refl)
          (λ x i. ap (λ (b : Bool). record x { state = cond (b && nat_le 1 x.state.credit) (after_begun x.state) x.state }) (ne_to x.link link (λ same. no_clash (link == n) (eq_to link n (sym same ∙ i)) e))) s.sending) refl
          (agree_on f begun_fold s.handles s.handles (link_of s.sending n) (find (has_number n) s.links)
          (λ k is j at. record {
            fold = ap (λ (b : Bool). cond b (option_map begun (f j)) (f j)) (apart (has_number link) n s g.l k t g.found is (ap (λ (m : ℕ). m == n) number ∙ e) handle j g.there at);
            names = λ peer named. named;
          }) (all n))
      by true e =
          subst (λ (m : ℕ). Agree begun_fold s.handles (link_of (map (begun_on link) s.sending) m) (find (has_number m) s.links)) (eq_of link n e)
          (agree_as begun_fold s.handles _ _ _ _ here g.found (agree_begun g))

  pub begun_agree : AllAgree begun_fold (record s { sending = map (begun_on link) s.sending })
  begun_agree = begun_by goes
