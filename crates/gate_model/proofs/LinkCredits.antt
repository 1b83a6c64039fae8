-- The credit that a session keeps of a sending link is no more than what the fold leaves of it.
use Rattle.std.proofs.Common.{◌≡◌, ◌∙◌, ℕ, zero, suc, ◌≤◌, ◌<◌, ◌^◌, List, [], ◌∷◌, ◌++◌, Bool}
use Rattle.std.proofs.Common.{true, false, Option, Some, None, refl, sym, subst, ap, arith, cond}
use Rattle.std.proofs.Common.{inl, inr, length, map}
use Rattle.std.specs.Prelude.{◌⊎◌, filter, find, is_some, not, nat_lt, ◌==◌, ◌&&◌, ◌||◌}
use Rattle.std.specs.Prelude.{insert, IfSome}
use Rattle.std.specs.List.{AllByRecursion, position_or_len}
use Rattle.std.specs.Option.{option_map, option_or}
use Rattle.std.proofs.lemmas.Bool.{cases_lt}
use Rattle.std.proofs.lemmas.Bool.Decides.{nat_tests}
use Rattle.std.proofs.lemmas.List.{get_or-set_same, get_or_past, length-set}
use Rattle.std.proofs.lemmas.List.Folds.{find-append}
use Rattle.std.proofs.lemmas.List.Quantifiers.{position-Some}
use Rattle.std.proofs.lemmas.List.Sums.{fails_before_first}
use Rattle.open_items.proofs.Filtered.{all_filter, all_find, find-filter}
use Rattle.link_table.specs.declared.handles.HandleState.{HandleState}
use Rattle.link_table.specs.declared.handles.HandleState.TheVariants as state
use Rattle.link_table.specs.Table.{HandleTable, is_asked, is_named, named_by, state_of}
use Rattle.link_table.specs.Table.{after_attached, with_read, with_sent, with_state}
use Rattle.links_10.specs.Send.{after_flow, left_of, new_link}
use Rattle.links_10.specs.Send.{or_initial, past}
use Rattle.links_10.specs.declared.send.Sending.{Sending}
use Rattle.publish_path.specs.Links.{asked_link, has_number as is_of}
use Rattle.publish_path.specs.Links.{flowed as flowed_link, link_of, link_to, now_attached, without}
use Rattle.publish_path.specs.declared.send_links.SendingLink.{SendingLink}
use Rattle.session_path.specs.declared.path.PathLink.{PathLink}
use Rattle.session_path.specs.declared.path.Stage.{Stage}
use Rattle.session_path.specs.declared.path.Stage.TheVariants as stage
use Rattle.session_path.specs.declared.path.AttachHeard.{AttachHeard}
use Rattle.session_path.specs.Links.{LinksState, Rises, answered as answered_link, attached_as, attached_if}
use Rattle.session_path.specs.Links.{at_handle, count_in, credit_in, detached_on, failed_by, failed_on, flowed_on, free_number, given_by, given_on, gone_on}
use Rattle.session_path.specs.Links.{handle_in, handle_of, has_number, is_asked_as, is_at, is_given, is_left}
use Rattle.session_path.specs.Links.{is_one, is_stage_asked, is_stage_at, is_stage_failed, is_stage_given, is_stage_left, is_stage_open, is_stage_whole, is_wanted, is_wanted_receiver, left_by}
use Rattle.session_path.specs.Links.{link_detached, link_failed, linked_to, meets, named, parted, put}
use Rattle.session_path.specs.Links.{told_by, wanted_link, with_link_to, with_receiver, without_receivers}
use Rattle.session_path.proofs.Ties.{and_left, and_right, apart_from, dropped, eq_of, eq_to, found_number, found_passes, gone_is}
use Rattle.session_path.proofs.Ties.{is_asked_for, ne_to, no_clash, not_false, numbers_found, state_other, state_same}
use Rattle.session_path.proofs.Tied.{Tied}
use Rattle.session_path.proofs.Wanted.{absent}
use Rattle.session_path.proofs.SameLinks.{flowed_if}
use Rattle.session_path.specs.Path.{IsThere, receiver_in}
use Rattle.consume_path.specs.declared.receiving.TransferFault.{TransferFault}
use Rattle.gate_model.specs.LinkCredits.{Credit, answered, detached, flowed, is_peer, left}
use Rattle.gate_model.specs.LinkCredits.{new_credit}
use Rattle.session_path.specs.Links.{without_wanted}
use Rattle.session_path.proofs.Unwanted.{are_left}

-- ---- what is found in lists

module _ {X : Type 0} (p : X → Bool) where
  found_map : (f : X → X) → ((x : X) → p (f x) ≡ p x) → (xs : List X) → find p (map f xs) ≡ option_map f (find p xs)
  found_map f same [] = refl
  found_map f same (x ∷ xs) = ap (λ b. cond b (Some (f x)) (find p (map f xs))) (same x) ∙ by (p x) (found_map f same xs)
    where
      by : (b : Bool) → find p (map f xs) ≡ option_map f (find p xs) → cond b (Some (f x)) (find p (map f xs)) ≡ option_map f (cond b (Some x) (find p xs))
      by true ih = refl
      by false ih = ih

  -- none that passes is left
  none_left : (o : X → Bool) → ((x : X) → p x ≡ true → o x ≡ false) → (xs : List X) → find p (filter o xs) ≡ None
  none_left o only [] = refl
  none_left o only (x ∷ xs) = by (o x) refl (p x) refl (none_left o only xs)
    where
      by : (b : Bool) → o x ≡ b → (c : Bool) → p x ≡ c → find p (filter o xs) ≡ None → find p (cond b (x ∷ filter o xs) (filter o xs)) ≡ None
      by true e true f ih = absurd (no_clash (o x) e (only x f))
      by true e false f ih = ap (λ c. cond c (Some x) (find p (filter o xs))) f ∙ ih
      by false e c f ih = ih

  -- what passes is found where it is left in
  pub found_filter : (o : X → Bool) (xs : List X) (x : X) → find p xs ≡ Some x → o x ≡ true → find p (filter o xs) ≡ Some x
  found_filter o [] x e k = absurd cc
  found_filter o (y ∷ xs) x e k = by (p y) refl (o y) refl (λ h. found_filter o xs x h k) e
    where
      by : (b : Bool) → p y ≡ b → (c : Bool) → o y ≡ c → (find p xs ≡ Some x → find p (filter o xs) ≡ Some x) → cond b (Some y) (find p xs) ≡ Some x
          → find p (cond c (y ∷ filter o xs) (filter o xs)) ≡ Some x
      by true f true g ih h = ap (λ b. cond b (Some y) (find p (filter o xs))) f ∙ h
      by true f false g ih h = let same : y ≡ x = cc in absurd (no_clash (o y) (ap o same ∙ k) g)
      by false f true g ih h = ap (λ b. cond b (Some y) (find p (filter o xs))) f ∙ ih h
      by false f false g ih h = ih h

  pub none_passes : (xs : List X) → find p xs ≡ None → AllByRecursion (λ x. p x ≡ false) xs
  none_passes [] e = tt
  none_passes (x ∷ xs) e = by (p x) refl (none_passes xs) e
    where
      by : (b : Bool) → p x ≡ b → (find p xs ≡ None → AllByRecursion (λ y. p y ≡ false) xs) → cond b (Some x) (find p xs) ≡ None → AllByRecursion (λ y. p y ≡ false) (x ∷ xs)
      by true f ih e = absurd cc
      by false f ih e = (f, ih e)

-- a link in the place of another
pub placed_other : (n : ℕ) (x : PathLink) (ls : List PathLink) → (x.link == n) ≡ false → find (has_number n) (put x ls) ≡ find (has_number n) ls
placed_other n x [] ne = refl
placed_other n x (l ∷ ls) ne = by (l.link == x.link) refl (placed_other n x ls ne)
  where
    by : (b : Bool) → (l.link == x.link) ≡ b → find (has_number n) (put x ls) ≡ find (has_number n) ls
        → cond ((cond b x l).link == n) (Some (cond b x l)) (find (has_number n) (put x ls)) ≡ cond (l.link == n) (Some l) (find (has_number n) ls)
    by true e ih =
        let off : (l.link == n) ≡ false = ap (λ k. k == n) (eq_of l.link x.link e) ∙ ne in
        ap (λ b. cond b (Some x) (find (has_number n) (put x ls))) ne ∙ ih ∙ sym (ap (λ b. cond b (Some l) (find (has_number n) ls)) off)
    by false e ih = ap (cond (l.link == n) (Some l)) ih

pub placed_here : (n : ℕ) (x l : PathLink) (ls : List PathLink) → x.link ≡ n → find (has_number n) ls ≡ Some l → find (has_number n) (put x ls) ≡ Some x
placed_here n x l [] same e = absurd cc
placed_here n x l (k ∷ ls) same e = by (k.link == x.link) refl (k.link == n) refl (placed_here n x l ls same) e
  where
    own : (x.link == n) ≡ true
    own = eq_to x.link n same

    by : (b : Bool) → (k.link == x.link) ≡ b → (c : Bool) → (k.link == n) ≡ c → (find (has_number n) ls ≡ Some l → find (has_number n) (put x ls) ≡ Some x)
        → cond c (Some k) (find (has_number n) ls) ≡ Some l → cond ((cond b x k).link == n) (Some (cond b x k)) (find (has_number n) (put x ls)) ≡ Some x
    by true f c g ih e = ap (λ b. cond b (Some x) (find (has_number n) (put x ls))) own
    by false f true g ih e = absurd (no_clash (k.link == x.link) (eq_to k.link x.link (eq_of k.link n g ∙ sym same)) f)
    by false f false g ih e = ap (λ b. cond b (Some k) (find (has_number n) (put x ls))) g ∙ ih e

pub inserted_other : (n k i : ℕ) (receives : Bool) (ls : List PathLink) → (k == n) ≡ false → find (has_number n) (insert ls i (wanted_link k receives)) ≡ find (has_number n) ls
inserted_other n k zero receives ls ne = ap (λ b. cond b (Some (wanted_link k receives)) (find (has_number n) ls)) ne
inserted_other n k (suc i) receives [] ne = ap (λ b. cond b (Some (wanted_link k receives)) None) ne
inserted_other n k (suc i) receives (l ∷ ls) ne = ap (cond (l.link == n) (Some l)) (inserted_other n k i receives ls ne)

pub inserted_here : (n i : ℕ) (receives : Bool) (ls : List PathLink) → AllByRecursion (λ l. (l.link == n) ≡ false) ls
    → find (has_number n) (insert ls i (wanted_link n receives)) ≡ Some (wanted_link n receives)
inserted_here n zero receives ls a = ap (λ b. cond b (Some (wanted_link n receives)) (find (has_number n) ls)) (eq_to n n refl)
inserted_here n (suc i) receives [] a = ap (λ b. cond b (Some (wanted_link n receives)) None) (eq_to n n refl)
inserted_here n (suc i) receives (l ∷ ls) a =
    ap (λ b. cond b (Some l) (find (has_number n) (insert ls i (wanted_link n receives)))) a.0 ∙ inserted_here n i receives ls a.1

pub none_there : (n : ℕ) (ls : List PathLink) → AllByRecursion (λ l. (l.link == n) ≡ false) ls → find (has_number n) ls ≡ None
none_there n [] a = refl
none_there n (l ∷ ls) a = ap (λ b. cond b (Some l) (find (has_number n) ls)) a.0 ∙ none_there n ls a.1

-- ---- handles

-- one handle of the gateway alone stands for the container's
pub record IsNamed (t : HandleTable) (peer h : ℕ) : Type 0 where
  pub here : is_named peer (state_of t h) ≡ true
  pub only : (k : ℕ) → is_named peer (state_of t k) ≡ true → k ≡ h

pub free_unnamed : (peer : ℕ) (s : HandleState) → s ≡ state.Free → is_named peer s ≡ true → ⊥
free_unnamed peer s e f = let no : is_named peer state.Free ≡ true = ap (is_named peer) (sym e) ∙ f in cc

-- what is written is there, or nothing is
pub written : (t : HandleTable) (h : ℕ) (st : HandleState) → (state_of (with_state h st t) h ≡ st) ⊎ (state_of (with_state h st t) h ≡ state.Free)
written t h st = elim (cases_lt h (length t.states)) [
  | inl lt ↦ inl (get_or-set_same t.states h st state.Free lt)
  | inr le ↦ inr (let long : length (with_state h st t).states ≡ length t.states = length-set t.states h st in get_or_past (with_state h st t).states h state.Free (omega arith))
]

-- where the state of another handle is written, and names this one no more than before
pub named_stays : (t : HandleTable) (k : ℕ) (st : HandleState) (peer h : ℕ) → (k == h) ≡ false → (is_named peer st ≡ true → is_named peer (state_of t k) ≡ true)
    → IsNamed t peer h → IsNamed (with_state k st t) peer h
named_stays t k st peer h ne less n = record { here = ap (is_named peer) (state_other t k h st ne) ∙ n.here; only = only }
  where
    only : (j : ℕ) → is_named peer (state_of (with_state k st t) j) ≡ true → j ≡ h
    only j is = by (k == j) refl
      where
        at : (state_of (with_state k st t) j ≡ st) ⊎ (state_of (with_state k st t) j ≡ state.Free) → k ≡ j → j ≡ h
        at (inl e) same = n.only j (subst (λ (i : ℕ). is_named peer (state_of t i) ≡ true) same (less (ap (is_named peer) (sym e) ∙ is)))
        at (inr e) same = absurd (free_unnamed peer _ e is)

        by : (b : Bool) → (k == j) ≡ b → j ≡ h
        by true e =
            let same : k ≡ j = eq_of k j e in
            at (subst (λ (i : ℕ). (state_of (with_state k st t) i ≡ st) ⊎ (state_of (with_state k st t) i ≡ state.Free)) same (written t k st)) same
        by false e = n.only j (ap (is_named peer) (sym (state_other t k j st e)) ∙ is)

pub none_named : (t : HandleTable) (peer : ℕ) → named_by t peer ≡ None → (k : ℕ) → is_named peer (state_of t k) ≡ true → ⊥
none_named t peer none k is = elim (cases_lt k (length t.states)) [
  | inl lt ↦ elim (cases_lt (position_or_len (is_named peer) t.states) (length t.states)) [
    | inl within ↦ let some : named_by t peer ≡ Some (position_or_len (is_named peer) t.states) = ap (λ b. cond b (Some (position_or_len (is_named peer) t.states)) None) (less _ _ within) in cc
    | inr past ↦ no_clash (is_named peer (state_of t k)) is (fails_before_first (is_named peer) t.states k state.Free (omega arith))
  ]
  | inr le ↦ free_unnamed peer (state_of t k) (get_or_past t.states k state.Free le) is
]
  where
    less : (m n : ℕ) → m < n → nat_lt m n ≡ true
    less m n lt = grind (arith, nat_tests)

pub named_is : (t : HandleTable) (peer h : ℕ) → IsNamed t peer h → named_by t peer ≡ Some h
named_is t peer h n = by (named_by t peer) refl
  where
    by : (o : Option ℕ) → named_by t peer ≡ o → o ≡ Some h
    by None e = absurd (none_named t peer e h n.here)
    by (Some k) e = ap Some (n.only k (position-Some (is_named peer) t.states k state.Free e).1)

-- a handle stands for one of the container's
one_peer : (s : HandleState) (p q : ℕ) → is_named p s ≡ true → is_named q s ≡ true → p ≡ q
one_peer state.Free p q e f = absurd cc
one_peer state.Asked p q e f = absurd cc
one_peer (state.Attached a) p q e f = sym (eq_of a.peer p e) ∙ eq_of a.peer q f

-- ---- a link

-- a sending link that both attached, with its handle
pub record IsKept (f : ℕ → Option Credit) (t : HandleTable) (x : SendingLink) (h : ℕ) : Type 0 where
  pub credit : Credit
  pub is : f h ≡ Some credit
  pub peer : ℕ
  pub answers : credit.peer ≡ Some peer
  pub names : IsNamed t peer h
  pub number : credit.link ≡ x.link
  pub count : x.state.count ≡ credit.count
  pub low : x.state.credit ≤ left credit
  -- all of it, where the container's link-credit is a uint
  pub exact : credit.credit < 2 ^ 32 → x.state.credit ≡ left credit
  pub stays : credit.ended ≡ false

-- a sending link that the container detached: what it had then, less what was given back
pub record IsOver (f : ℕ → Option Credit) (link count most h : ℕ) : Type 0 where
  pub credit : Credit
  pub is : f h ≡ Some credit
  pub peer : ℕ
  pub answers : credit.peer ≡ Some peer
  pub number : credit.link ≡ link
  pub states : count ≡ credit.count
  pub low : most ≤ left credit
  pub exact : credit.credit < 2 ^ 32 → most ≡ left credit
  pub over : credit.ended ≡ true

-- none came and none went yet
abbrev pub IsNew : SendingLink → Type 0
IsNew x = (x.attached ≡ false) × (x.state ≡ new_link)

-- the role in which the gateway attached a link
abbrev pub role_in : Option Credit → Option Bool
role_in o = option_map (λ (c : Credit). c.receives) o

-- a link that is asked for, sending or receiving; later its role stays
abbrev pub HasAsked : (ℕ → Option Credit) → ℕ → ℕ → Bool → Stage → Type 0
HasAsked f link name role stage.Wanted = Unit {0}
HasAsked f link name role (stage.Asked h) = f h ≡ Some (new_credit link name role)
HasAsked f link name role (stage.Open h) = role_in (f h) ≡ Some role
HasAsked f link name role (stage.Refused h) = role_in (f h) ≡ Some role
HasAsked f link name role (stage.Left h) = role_in (f h) ≡ Some role
HasAsked f link name role (stage.Given h) = role_in (f h) ≡ Some role
HasAsked f link name role (stage.Failed h fault) = role_in (f h) ≡ Some role

-- a link whose credit is kept
abbrev pub AtStage : (ℕ → Option Credit) → HandleTable → SendingLink → Stage → Type 0
AtStage f t x stage.Wanted = IsNew x
AtStage f t x (stage.Asked h) = IsNew x
AtStage f t x (stage.Open h) = IsKept f t x h
AtStage f t x (stage.Refused h) = IsKept f t x h
AtStage f t x (stage.Left h) = ⊥
AtStage f t x (stage.Given h) = ⊥
AtStage f t x (stage.Failed h fault) = ⊥

-- no credit is kept of one that receives, or that an end detached; of a sending one that the
-- container detached it is at the link
abbrev pub AtEnd : (ℕ → Option Credit) → ℕ → ℕ → ℕ → Bool → Stage → Type 0
AtEnd f link count most role stage.Wanted = role ≡ true
AtEnd f link count most role (stage.Asked h) = role ≡ true
AtEnd f link count most role (stage.Open h) = role ≡ true
AtEnd f link count most role (stage.Refused h) = role ≡ true
AtEnd f link count most role (stage.Left h) = role ≡ false → IsOver f link count most h
AtEnd f link count most role (stage.Given h) = Unit {0}
AtEnd f link count most role (stage.Failed h fault) = role ≡ true

abbrev pub IsSpent : (ℕ → Option Credit) → PathLink → Type 0
IsSpent f l = AtEnd f l.link l.count l.credit l.receives l.stage

abbrev pub Sends : (ℕ → Option Credit) → HandleTable → Option SendingLink → PathLink → Type 0
Sends f t None l = IsSpent f l
Sends f t (Some x) l = (l.receives ≡ false) × AtStage f t x l.stage

-- what is kept of the credit of a link, and the link
abbrev pub Agree : (ℕ → Option Credit) → HandleTable → Option SendingLink → Option PathLink → Type 0
Agree f t o None = o ≡ None
Agree f t o (Some l) = HasAsked f l.link l.name l.receives l.stage × Sends f t o l

abbrev pub AllAgree : (ℕ → Option Credit) → LinksState → Type 0
AllAgree f s = (n : ℕ) → Agree f s.handles (link_of s.sending n) (find (has_number n) s.links)

-- ---- the role of a link

pub some_is : (m n : ℕ) → Some m ≡ Some n → m ≡ n
some_is m n e = cc

role_at : (f : ℕ → Option Credit) (link name : ℕ) (role : Bool) (g : Stage) (h : ℕ) → handle_in g ≡ Some h → HasAsked f link name role g → role_in (f h) ≡ Some role
role_at f link name role stage.Wanted h e i = absurd cc
role_at f link name role (stage.Asked k) h e i = ap (λ (m : ℕ). role_in (f m)) (sym (some_is k h e)) ∙ ap role_in i
role_at f link name role (stage.Open k) h e i = ap (λ (m : ℕ). role_in (f m)) (sym (some_is k h e)) ∙ i
role_at f link name role (stage.Refused k) h e i = ap (λ (m : ℕ). role_in (f m)) (sym (some_is k h e)) ∙ i
role_at f link name role (stage.Left k) h e i = ap (λ (m : ℕ). role_in (f m)) (sym (some_is k h e)) ∙ i
role_at f link name role (stage.Given k) h e i = ap (λ (m : ℕ). role_in (f m)) (sym (some_is k h e)) ∙ i
role_at f link name role (stage.Failed k fault) h e i = ap (λ (m : ℕ). role_in (f m)) (sym (some_is k h e)) ∙ i

pub agree_role : (f : ℕ → Option Credit) (t : HandleTable) (o : Option SendingLink) (l : PathLink) (h : ℕ) → handle_in l.stage ≡ Some h → Agree f t o (Some l) → role_in (f h) ≡ Some l.receives
agree_role f t o l h e i = role_at f l.link l.name l.receives l.stage h e i.0

-- what keeps the role of each keeps that of the one that is found
pub role_mapped : (c : Credit → Credit) → ((x : Credit) → (c x).receives ≡ x.receives) → (o : Option Credit) (role : Bool) → role_in o ≡ Some role → role_in (option_map c o) ≡ Some role
role_mapped c same None role e = e
role_mapped c same (Some x) role e = ap Some (same x) ∙ e

pub answered_role : (name peer : ℕ) (c : Credit) → (answered name peer c).receives ≡ c.receives
answered_role name peer c = by ((c.name == name) && not (is_some c.peer))
  where
    by : (b : Bool) → (cond b (record c { peer = Some peer }) c).receives ≡ c.receives
    by true = refl
    by false = refl

pub flowed_role : (peer : ℕ) (count : Option ℕ) (credit : ℕ) (c : Credit) → (flowed peer count credit c).receives ≡ c.receives
flowed_role peer count credit c = by (is_peer peer c.peer && not c.ended)
  where
    by : (b : Bool) → (cond b (record c { stated = or_initial count; credit = credit }) c).receives ≡ c.receives
    by true = refl
    by false = refl

pub detached_role : (peer : ℕ) (c : Credit) → (detached peer c).receives ≡ c.receives
detached_role peer c = by (is_peer peer c.peer)
  where
    by : (b : Bool) → (cond b (record c { ended = true }) c).receives ≡ c.receives
    by true = refl
    by false = refl

-- one that no end detached receives, where no credit is kept of it
pub still_receives : (f : ℕ → Option Credit) (link count most : ℕ) (role : Bool) (g : Stage) → AtEnd f link count most role g
    → ((is_stage_left g || is_stage_failed g) || is_stage_given g) ≡ false → role ≡ true
still_receives f link count most role stage.Wanted e off = e
still_receives f link count most role (stage.Asked h) e off = e
still_receives f link count most role (stage.Open h) e off = e
still_receives f link count most role (stage.Refused h) e off = e
still_receives f link count most role (stage.Left h) e off = absurd cc
still_receives f link count most role (stage.Given h) e off = absurd cc
still_receives f link count most role (stage.Failed h fault) e off = absurd cc

pub spent_by_role : (f : ℕ → Option Credit) (link count most : ℕ) (role : Bool) (g : Stage) → role ≡ true → AtEnd f link count most role g
spent_by_role f link count most role stage.Wanted e = e
spent_by_role f link count most role (stage.Asked h) e = e
spent_by_role f link count most role (stage.Open h) e = e
spent_by_role f link count most role (stage.Refused h) e = e
spent_by_role f link count most role (stage.Left h) e = λ sends. absurd (no_clash role e sends)
spent_by_role f link count most role (stage.Given h) e = tt
spent_by_role f link count most role (stage.Failed h fault) e = e

-- where the fold says the same of the handle of one that the container detached
pub spent_on : (f g : ℕ → Option Credit) (link count most : ℕ) (role : Bool) (s : Stage) → ((h : ℕ) → handle_in s ≡ Some h → role ≡ false → IsOver f link count most h → g h ≡ f h)
    → AtEnd f link count most role s → AtEnd g link count most role s
spent_on f g link count most role stage.Wanted same e = e
spent_on f g link count most role (stage.Asked h) same e = e
spent_on f g link count most role (stage.Open h) same e = e
spent_on f g link count most role (stage.Refused h) same e = e
spent_on f g link count most role (stage.Left h) same e = λ sends. let o = e sends in record {
  credit = o.credit;
  is = same h refl sends o ∙ o.is;
  peer = o.peer;
  answers = o.answers;
  number = o.number;
  states = o.states;
  low = o.low;
  exact = o.exact;
  over = o.over;
}
spent_on f g link count most role (stage.Given h) same e = tt
spent_on f g link count most role (stage.Failed h fault) same e = e

-- ---- the links that a change leaves

its_number : (n : ℕ) (ls : List PathLink) (l : PathLink) → find (has_number n) ls ≡ Some l → l.link ≡ n
its_number n ls l e = eq_of l.link n (found_passes (has_number n) ls l e)

-- of a handle nothing changes
pub record Same (f g : ℕ → Option Credit) (t u : HandleTable) (h : ℕ) : Type 0 where
  pub fold : g h ≡ f h
  pub names : (peer : ℕ) → IsNamed t peer h → IsNamed u peer h

kept_on : (f g : ℕ → Option Credit) (t u : HandleTable) (x : SendingLink) (h : ℕ) → Same f g t u h → IsKept f t x h → IsKept g u x h
kept_on f g t u x h same k = record {
  credit = k.credit;
  is = same.fold ∙ k.is;
  peer = k.peer;
  answers = k.answers;
  names = same.names k.peer k.names;
  number = k.number;
  count = k.count;
  low = k.low;
  exact = k.exact;
  stays = k.stays;
}

-- so the link with it stays as it was
asked_on : (f g : ℕ → Option Credit) (t u : HandleTable) (link name : ℕ) (role : Bool) (s : Stage) → ((h : ℕ) → handle_in s ≡ Some h → Same f g t u h) → HasAsked f link name role s → HasAsked g link name role s
asked_on f g t u link name role stage.Wanted same i = i
asked_on f g t u link name role (stage.Asked h) same i = (same h refl).fold ∙ i
asked_on f g t u link name role (stage.Open h) same i = ap role_in (same h refl).fold ∙ i
asked_on f g t u link name role (stage.Refused h) same i = ap role_in (same h refl).fold ∙ i
asked_on f g t u link name role (stage.Left h) same i = ap role_in (same h refl).fold ∙ i
asked_on f g t u link name role (stage.Given h) same i = ap role_in (same h refl).fold ∙ i
asked_on f g t u link name role (stage.Failed h fault) same i = ap role_in (same h refl).fold ∙ i

stage_on : (f g : ℕ → Option Credit) (t u : HandleTable) (x : SendingLink) (s : Stage) → ((h : ℕ) → handle_in s ≡ Some h → Same f g t u h) → AtStage f t x s → AtStage g u x s
stage_on f g t u x stage.Wanted same i = i
stage_on f g t u x (stage.Asked h) same i = i
stage_on f g t u x (stage.Open h) same i = kept_on f g t u x h (same h refl) i
stage_on f g t u x (stage.Refused h) same i = kept_on f g t u x h (same h refl) i
stage_on f g t u x (stage.Left h) same i = i
stage_on f g t u x (stage.Given h) same i = i
stage_on f g t u x (stage.Failed h fault) same i = i

pub agree_on : (f g : ℕ → Option Credit) (t u : HandleTable) (o : Option SendingLink) (p : Option PathLink)
    → ((l : PathLink) → p ≡ Some l → (h : ℕ) → handle_in l.stage ≡ Some h → Same f g t u h) → Agree f t o p → Agree g u o p
agree_on f g t u o None same a = a
agree_on f g t u None (Some l) same a =
    (asked_on f g t u l.link l.name l.receives l.stage (same l refl) a.0, spent_on f g l.link l.count l.credit l.receives l.stage (λ h is sends over. (same l refl h is).fold) a.1)
agree_on f g t u (Some x) (Some l) same a = (asked_on f g t u l.link l.name l.receives l.stage (same l refl) a.0, (a.1.0, stage_on f g t u x l.stage (same l refl) a.1.1))

-- links that are found have one handle only if they are one
pub apart : (p : PathLink → Bool) (n : ℕ) (s : LinksState) (l k : PathLink) → Tied s → find p s.links ≡ Some l → find (has_number n) s.links ≡ Some k → (l.link == n) ≡ false
    → (h j : ℕ) → handle_in l.stage ≡ Some h → handle_in k.stage ≡ Some j → (h == j) ≡ false
apart p n s l k t e f ne h j is has =
    let number : k.link ≡ n = its_number n s.links k f in
    let other : (k.link == l.link) ≡ false = ne_to k.link l.link (λ same. no_clash (l.link == n) (eq_to l.link n (sym same ∙ number)) ne) in
    let meet : meets l k ≡ false = (all_find (λ x. (x.link == l.link) ≡ false → meets l x ≡ false) (has_number n) s.links k (apart_from p s.links l e t.apart) f).0 other in
    sym (ap (λ a. is_one a (handle_in k.stage)) is ∙ ap (is_one (Some h)) has) ∙ meet

none_kept : (f : ℕ → Option Credit) (t : HandleTable) (o : Option SendingLink) (p : Option PathLink) → p ≡ None → Agree f t o p → o ≡ None
none_kept f t o None e a = a
none_kept f t o (Some l) e a = absurd cc

-- the same under another form
pub agree_as : (f : ℕ → Option Credit) (t : HandleTable) (o o' : Option SendingLink) (p p' : Option PathLink) → o' ≡ o → p' ≡ p → Agree f t o p → Agree f t o' p'
agree_as f t o o' p p' e g a = subst (λ (x : Option SendingLink). Agree f t x p') (sym e) (subst (λ (x : Option PathLink). Agree f t o x) (sym g) a)

-- ---- a link that is wanted

pub or_none : (o : Option SendingLink) → option_or o None ≡ o
or_none None = refl
or_none (Some x) = refl

pub pushed : (n : ℕ) (xs : List SendingLink) (x : SendingLink) (b : Bool) → (x.link == n) ≡ b → link_of (xs ++ x ∷ []) n ≡ option_or (link_of xs n) (cond b (Some x) None)
pushed n xs x b e = find-append (is_of n) xs (x ∷ []) ∙ ap (λ c. option_or (link_of xs n) (cond c (Some x) None)) e

linked_agree : (f : ℕ → Option Credit) (address : List ℕ) (s : LinksState) → Tied s → AllAgree f s → AllAgree f (with_link_to address s)
linked_agree f address s t a n = by (free_number s.links == n) refl
  where
    k : ℕ
    k = free_number s.links

    by : (b : Bool) → (k == n) ≡ b → Agree f s.handles (link_of (s.sending ++ asked_link k address ∷ []) n) (find (has_number n) (insert s.links k (wanted_link k false)))
    by false e =
        agree_as f s.handles _ _ _ _ (pushed n s.sending (asked_link k address) false e ∙ or_none (link_of s.sending n)) (inserted_other n k k false s.links e) (a n)
    by true e =
        let same : k ≡ n = eq_of k n e in
        let none : find (has_number n) s.links ≡ None = subst (λ (m : ℕ). find (has_number m) s.links ≡ None) same (none_there k s.links (absent s.links t.rising)) in
        let left : link_of s.sending n ≡ None = none_kept f s.handles _ _ none (a n) in
        agree_as f s.handles (Some (asked_link k address)) _ (Some (wanted_link k false)) _
        (pushed n s.sending (asked_link k address) true e ∙ ap (λ o. option_or o (Some (asked_link k address))) left)
        (subst (λ (m : ℕ). find (has_number m) (insert s.links k (wanted_link k false)) ≡ Some (wanted_link k false)) same (inserted_here k k false s.links (absent s.links t.rising)))
        (tt, (refl, (refl, refl)))

pub linked_to_agree : (f : ℕ → Option Credit) (address : List ℕ) (s : LinksState) → Tied s → AllAgree f s → AllAgree f (linked_to address s)
linked_to_agree f address s t a = by (is_some (link_to s.sending address))
  where
    by : (b : Bool) → AllAgree f (cond b s (with_link_to address s))
    by true = a
    by false = linked_agree f address s t a

pub received_agree : (f : ℕ → Option Credit) (s : LinksState) → Tied s → AllAgree f s → AllAgree f (with_receiver s)
received_agree f s t a n = by (free_number s.links == n) refl
  where
    k : ℕ
    k = free_number s.links

    by : (b : Bool) → (k == n) ≡ b → Agree f s.handles (link_of s.sending n) (find (has_number n) (insert s.links k (wanted_link k true)))
    by false e = agree_as f s.handles _ _ _ _ refl (inserted_other n k k true s.links e) (a n)
    by true e =
        let same : k ≡ n = eq_of k n e in
        let none : find (has_number n) s.links ≡ None = subst (λ (m : ℕ). find (has_number m) s.links ≡ None) same (none_there k s.links (absent s.links t.rising)) in
        agree_as f s.handles None _ (Some (wanted_link k true)) _ (none_kept f s.handles _ _ none (a n))
        (subst (λ (m : ℕ). find (has_number m) (insert s.links k (wanted_link k true)) ≡ Some (wanted_link k true)) same (inserted_here k k true s.links (absent s.links t.rising)))
        (tt, refl)

-- what is found of those that stay was found before
pub found_before : (stay : PathLink → Bool) (n : ℕ) (ls : List PathLink) (k : PathLink) → Rises 0 ls → find (has_number n) (filter stay ls) ≡ Some k → find (has_number n) ls ≡ Some k
found_before stay n ls k r g =
    let own = (all_find (λ l. find (has_number l.link) ls ≡ Some l) (has_number n) (filter stay ls) k
    (all_filter stay (λ l. find (has_number l.link) ls ≡ Some l) ls (numbers_found 0 ls r)) g).0 in
    subst (λ (m : ℕ). find (has_number m) ls ≡ Some k) (its_number n (filter stay ls) k g) own

-- links that are left out keep no credit
filter_agree : (f : ℕ → Option Credit) (stay : PathLink → Bool) (n : ℕ) (s : LinksState) → Tied s
    → ((l : PathLink) → l.receives ≡ false → find (has_number n) s.links ≡ Some l → stay l ≡ true)
    → Agree f s.handles (link_of s.sending n) (find (has_number n) s.links) → Agree f s.handles (link_of s.sending n) (find (has_number n) (filter stay s.links))
filter_agree f stay n s t sends a = by (find (has_number n) (filter stay s.links)) refl
  where
    none : (o : Option SendingLink) (p : Option PathLink) → find (has_number n) s.links ≡ p → find (has_number n) (filter stay s.links) ≡ None → Agree f s.handles o p → o ≡ None
    none None p e g i = refl
    none (Some x) None e g i = i
    none (Some x) (Some l) e g i =
        let found : find (has_number n) (filter stay s.links) ≡ Some l = found_filter (has_number n) stay s.links l e (sends l i.1.0 e) in absurd cc

    by : (q : Option PathLink) → find (has_number n) (filter stay s.links) ≡ q → Agree f s.handles (link_of s.sending n) q
    by None g = none (link_of s.sending n) (find (has_number n) s.links) refl g a
    by (Some k) g = subst (Agree f s.handles (link_of s.sending n)) (found_before stay n s.links k t.rising g) a

-- receiving links that are wanted aren't any more
pub without_agree : (f : ℕ → Option Credit) (s : LinksState) → Tied s → AllAgree f s → AllAgree f (without_receivers s)
without_agree f s t a n = filter_agree f (λ l. not (is_wanted_receiver l)) n s t (λ l sends e. ap (λ b. not (is_wanted l && b)) sends ∙ none (is_wanted l)) (a n)
  where
    none : (b : Bool) → not (b && false) ≡ true
    none true = refl
    none false = refl

-- nor are any others
pub unwanted_agree : (f : ℕ → Option Credit) (s : LinksState) → Tied s → AllAgree f s → AllAgree f (without_wanted s)
unwanted_agree f s t a n = elim (are_left n s t.rising) [
  | inl (e, g) ↦ agree_as f s.handles None _ None _ e g refl
  | inr (e, g) ↦ agree_as f s.handles _ _ _ _ e g (a n)
]

-- ---- one link changes

-- the others are found as before
pub mapped_other : (n : ℕ) (f : SendingLink → SendingLink) → ((x : SendingLink) → (f x).link ≡ x.link) → ((x : SendingLink) → x.link ≡ n → f x ≡ x) → (xs : List SendingLink)
    → link_of (map f xs) n ≡ link_of xs n
mapped_other n f number same [] = refl
mapped_other n f number same (x ∷ xs) = ap (λ (k : ℕ). cond (k == n) (Some (f x)) (link_of (map f xs) n)) (number x) ∙ by (x.link == n) refl (mapped_other n f number same xs)
  where
    by : (b : Bool) → (x.link == n) ≡ b → link_of (map f xs) n ≡ link_of xs n → cond (x.link == n) (Some (f x)) (link_of (map f xs) n) ≡ cond (x.link == n) (Some x) (link_of xs n)
    by true e ih = ap (λ b. cond b (Some (f x)) (link_of (map f xs) n)) e ∙ ap Some (same x (eq_of x.link n e)) ∙ sym (ap (λ b. cond b (Some x) (link_of xs n)) e)
    by false e ih = ap (λ b. cond b (Some (f x)) (link_of (map f xs) n)) e ∙ ih ∙ sym (ap (λ b. cond b (Some x) (link_of xs n)) e)

-- and it as it is changed
pub mapped_here : (n : ℕ) (f : SendingLink → SendingLink) → ((x : SendingLink) → (f x).link ≡ x.link) → (xs : List SendingLink) → link_of (map f xs) n ≡ option_map f (link_of xs n)
mapped_here n f number xs = found_map (is_of n) f (λ x. ap (λ (k : ℕ). k == n) (number x)) xs

pub without_other : (n m : ℕ) (xs : List SendingLink) → (m == n) ≡ false → link_of (without m xs) n ≡ link_of xs n
without_other n m xs ne = find-filter (λ x. not (is_of m x)) (is_of n) (λ x e. ne_to x.link n (λ same. no_clash (m == n) (eq_to m n (sym (eq_of x.link m (not_false (x.link == m) e)) ∙ same)) ne)) xs

pub without_here : (n : ℕ) (xs : List SendingLink) → link_of (without n xs) n ≡ None
without_here n xs = none_left (is_of n) (λ x. not (is_of n x)) (λ x e. ap not e) xs

-- ---- the container's attach

pub found_sender : (n : ℕ) (xs : List SendingLink) (x : SendingLink) → link_of xs n ≡ Some x → x.link ≡ n
found_sender n xs x e = eq_of x.link n (all_find (λ k. Unit {0}) (is_of n) xs x (each_unit xs) e).1
  where
    each_unit : (ys : List SendingLink) → AllByRecursion (λ k. Unit {0}) ys
    each_unit [] = tt
    each_unit (y ∷ ys) = (tt, each_unit ys)

-- no two links that were asked for have one name
abbrev pub AreDistinct : (ℕ → Option Credit) → Type 0
AreDistinct f = (h k : ℕ) (c d : Credit) → f h ≡ Some c → f k ≡ Some d → c.name ≡ d.name → h ≡ k

pub stage_asked : (s : Stage) → is_stage_asked s ≡ true → s ≡ stage.Asked (handle_of s)
stage_asked (stage.Asked h) e = refl
stage_asked stage.Wanted e = absurd cc
stage_asked (stage.Open h) e = absurd cc
stage_asked (stage.Refused h) e = absurd cc
stage_asked (stage.Left h) e = absurd cc
stage_asked (stage.Given h) e = absurd cc
stage_asked (stage.Failed h fault) e = absurd cc

answered_stays : (name peer p : ℕ) (c : Credit) → c.peer ≡ Some p → answered name peer c ≡ c
answered_stays name peer p c e = ap (λ (o : Option ℕ). cond ((c.name == name) && not (is_some o)) (record c { peer = Some peer }) c) e ∙ by (c.name == name)
  where
    by : (b : Bool) → cond (b && false) (record c { peer = Some peer }) c ≡ c
    by true = refl
    by false = refl

answered_other : (name peer : ℕ) (c : Credit) → (c.name == name) ≡ false → answered name peer c ≡ c
answered_other name peer c e = ap (λ (b : Bool). cond (b && not (is_some c.peer)) (record c { peer = Some peer }) c) e

module _ (f : ℕ → Option Credit) (a : AttachHeard) (s : LinksState) (l : PathLink) (t : Tied s) (all : AllAgree f s) (distinct : AreDistinct f)
    (unused : named_by s.handles a.peer ≡ None) (found : find (is_asked_as a.name a.role) s.links ≡ Some l) where
  abbrev h : ℕ
  h = handle_of l.stage

  passes : is_asked_as a.name a.role l ≡ true
  passes = found_passes (is_asked_as a.name a.role) s.links l found

  staged : l.stage ≡ stage.Asked h
  staged = stage_asked l.stage (and_left _ _ (and_left _ _ passes))

  name_is : l.name ≡ a.name
  name_is = eq_of l.name a.name (and_right (is_stage_asked l.stage) (l.name == a.name) (and_left _ _ passes))

  abbrev g : ℕ → Option Credit
  g k = option_map (answered a.name a.peer) (f k)

  abbrev u : HandleTable
  u = after_attached h a.peer s.handles

  there_now : state_of u h ≡ state.Attached (record { peer = a.peer; detach_sent = false; detach_read = false })
  there_now = state_same is_asked s.handles h _ refl (is_asked_for a.name a.role s.sending s.links s.handles l t found)

  old : find (has_number l.link) s.links ≡ Some l
  old = found_number (is_asked_as a.name a.role) s.links l t.rising found

  was_asked : f h ≡ Some (new_credit l.link l.name l.receives)
  was_asked = subst (HasAsked f l.link l.name l.receives) staged (of_link (link_of s.sending l.link) (find (has_number l.link) s.links) old (all l.link))
    where
      of_link : (o : Option SendingLink) (p : Option PathLink) → p ≡ Some l → Agree f s.handles o p → HasAsked f l.link l.name l.receives l.stage
      of_link o None e i = absurd cc
      of_link o (Some k) e i = subst (λ (x : PathLink). HasAsked f x.link x.name x.receives x.stage) (let same : k ≡ l = cc in same) i.0

  unnamed : (k : ℕ) → is_named a.peer (state_of s.handles k) ≡ true → ⊥
  unnamed k is = none_named s.handles a.peer unused k is

  -- another link
  others : (n : ℕ) → (l.link == n) ≡ false → (k : PathLink) → find (has_number n) s.links ≡ Some k → (j : ℕ) → handle_in k.stage ≡ Some j
      → (h == j) ≡ false
  others n ne k e j has = apart (is_asked_as a.name a.role) n s l k t found e ne h j (ap handle_in staged) has

  names_other : (j peer : ℕ) → (h == j) ≡ false → IsNamed s.handles peer j → IsNamed u peer j
  names_other j peer ne is =
      named_stays s.handles h _ peer j ne (λ e. absurd (unnamed j (subst (λ (p : ℕ). is_named p (state_of s.handles j) ≡ true) (sym (eq_of a.peer peer e)) is.here))) is

  asked_other : (link name : ℕ) (role : Bool) (g' : Stage) → ((j : ℕ) → handle_in g' ≡ Some j → (h == j) ≡ false) → HasAsked f link name role g' → HasAsked g link name role g'
  asked_other link name role stage.Wanted ne i = i
  asked_other link name role (stage.Asked j) ne i =
      ap (option_map (answered a.name a.peer)) i
      ∙ ap Some (answered_other a.name a.peer (new_credit link name role)
      (ne_to name a.name (λ same. no_clash (h == j) (eq_to h j (distinct h j (new_credit l.link l.name l.receives) (new_credit link name role) was_asked i (name_is ∙ sym same))) (ne j refl))))
  asked_other link name role (stage.Open j) ne i = role_mapped (answered a.name a.peer) (answered_role a.name a.peer) (f j) role i
  asked_other link name role (stage.Refused j) ne i = role_mapped (answered a.name a.peer) (answered_role a.name a.peer) (f j) role i
  asked_other link name role (stage.Left j) ne i = role_mapped (answered a.name a.peer) (answered_role a.name a.peer) (f j) role i
  asked_other link name role (stage.Given j) ne i = role_mapped (answered a.name a.peer) (answered_role a.name a.peer) (f j) role i
  asked_other link name role (stage.Failed j fault) ne i = role_mapped (answered a.name a.peer) (answered_role a.name a.peer) (f j) role i

  kept_other : (j : ℕ) (x : SendingLink) → (h == j) ≡ false → IsKept f s.handles x j → IsKept g u x j
  kept_other j x ne k = record {
    credit = k.credit;
    is = ap (option_map (answered a.name a.peer)) k.is ∙ ap Some (answered_stays a.name a.peer k.peer k.credit k.answers);
    peer = k.peer;
    answers = k.answers;
    names = names_other j k.peer ne k.names;
    number = k.number;
    count = k.count;
    low = k.low;
    exact = k.exact;
    stays = k.stays;
  }

  stage_other : (x : SendingLink) (g' : Stage) → ((j : ℕ) → handle_in g' ≡ Some j → (h == j) ≡ false) → AtStage f s.handles x g' → AtStage g u x g'
  stage_other x stage.Wanted ne i = i
  stage_other x (stage.Asked j) ne i = i
  stage_other x (stage.Open j) ne i = kept_other j x (ne j refl) i
  stage_other x (stage.Refused j) ne i = kept_other j x (ne j refl) i
  stage_other x (stage.Left j) ne i = i
  stage_other x (stage.Given j) ne i = i
  stage_other x (stage.Failed j fault) ne i = i

  agree_other : (o : Option SendingLink) (p : Option PathLink) → ((k : PathLink) → p ≡ Some k → (j : ℕ) → handle_in k.stage ≡ Some j → (h == j) ≡ false)
      → Agree f s.handles o p → Agree g u o p
  agree_other o None ne i = i
  agree_other None (Some k) ne i = (
    asked_other k.link k.name k.receives k.stage (ne k refl) i.0,
    spent_on f g k.link k.count k.credit k.receives k.stage
        (λ j is sends o. ap (option_map (answered a.name a.peer)) o.is ∙ ap Some (answered_stays a.name a.peer o.peer o.credit o.answers) ∙ sym o.is) i.1,
  )
  agree_other (Some x) (Some k) ne i = (asked_other k.link k.name k.receives k.stage (ne k refl) i.0, (i.1.0, stage_other x k.stage (ne k refl) i.1.1))

  -- the link itself
  named_now : IsNamed u a.peer h
  named_now = record { here = ap (is_named a.peer) there_now ∙ eq_to a.peer a.peer refl; only = only }
    where
      only : (k : ℕ) → is_named a.peer (state_of u k) ≡ true → k ≡ h
      only k is = by (h == k) refl
        where
          by : (b : Bool) → (h == k) ≡ b → k ≡ h
          by true e = sym (eq_of h k e)
          by false e = absurd (unnamed k (ap (is_named a.peer) (sym (state_other s.handles h k _ e)) ∙ is))

  kept_now : (x : SendingLink) → x.link ≡ l.link → x.state ≡ new_link → IsKept g u x h
  kept_now x number e = record {
    credit = record (new_credit l.link l.name l.receives) { peer = Some a.peer };
    is = ap (option_map (answered a.name a.peer)) was_asked
        ∙ ap (λ (b : Bool). Some (cond (b && true) (record (new_credit l.link l.name l.receives) { peer = Some a.peer }) (new_credit l.link l.name l.receives))) (eq_to l.name a.name name_is);
    peer = a.peer;
    answers = refl;
    names = named_now;
    number = sym number;
    count = ap (λ (y : Sending). y.count) e;
    low = subst (λ (y : Sending). y.credit ≤ left (record (new_credit l.link l.name l.receives) { peer = Some a.peer })) (sym e) (omega arith);
    exact = λ uint. subst (λ (y : Sending). y.credit ≡ left (record (new_credit l.link l.name l.receives) { peer = Some a.peer })) (sym e) (omega arith);
    stays = refl;
  }

  new_state : (x : SendingLink) → AtStage f s.handles x l.stage → x.state ≡ new_link
  new_state x i = (subst (AtStage f s.handles x) staged i).1

  role_now : role_in (g h) ≡ Some l.receives
  role_now = role_mapped (answered a.name a.peer) (answered_role a.name a.peer) (f h) l.receives (ap role_in was_asked)

  -- it was to be neither detached nor failed
  spent_now : (q : Stage) → IsSpent f l → AtEnd g l.link l.count l.credit l.receives q
  spent_now q e =
      spent_by_role g l.link l.count l.credit l.receives q
      (still_receives f l.link l.count l.credit l.receives l.stage e (ap (λ (x : Stage). (is_stage_left x || is_stage_failed x) || is_stage_given x) staged))

  agree_here : (there : Bool) (o : Option SendingLink) → ((x : SendingLink) → o ≡ Some x → x.link ≡ l.link) → Agree f s.handles o (Some l) → Agree g u (cond there (option_map (now_attached l.link) o) o) (Some (answered_link there l))
  agree_here true None number i = (role_now, spent_now (stage.Open h) i.1)
  agree_here false None number i = (role_now, spent_now (stage.Refused h) i.1)
  agree_here true (Some x) number i = (role_now, (i.1.0, kept_now (now_attached l.link x) (number x refl) (new_state x i.1.1)))
  agree_here false (Some x) number i = (role_now, (i.1.0, kept_now x (number x refl) (new_state x i.1.1)))

  attached_number : (there : Bool) (n : ℕ) (xs : List SendingLink) → (l.link == n) ≡ false → link_of (attached_if there l.link xs) n ≡ link_of xs n
  attached_number false n xs ne = refl
  attached_number true n xs ne =
      mapped_other n (now_attached l.link) (λ x. refl)
      (λ x e. ap (λ (b : Bool). record x { attached = cond b true x.attached }) (ne_to x.link l.link (λ same. no_clash (l.link == n) (eq_to l.link n (sym same ∙ e)) ne))) xs

  attached_own : (there : Bool) (n : ℕ) (xs : List SendingLink) → link_of (attached_if there l.link xs) n ≡ cond there (option_map (now_attached l.link) (link_of xs n)) (link_of xs n)
  attached_own false n xs = refl
  attached_own true n xs = mapped_here n (now_attached l.link) (λ x. refl) xs

  answers_number : (there : Bool) → (answered_link there l).link ≡ l.link
  answers_number true = refl
  answers_number false = refl

  pub attached_agree : AllAgree g (attached_as (Some l) a.peer a.there s)
  attached_agree n = by (l.link == n) refl
    where
      by : (b : Bool) → (l.link == n) ≡ b → Agree g u (link_of (attached_if a.there l.link s.sending) n) (find (has_number n) (put (answered_link a.there l) s.links))
      by false e =
          agree_as g u _ _ _ _ (attached_number a.there n s.sending e) (placed_other n (answered_link a.there l) s.links (ap (λ (k : ℕ). k == n) (answers_number a.there) ∙ e))
          (agree_other (link_of s.sending n) (find (has_number n) s.links) (λ k is j has. others n e k is j has) (all n))
      by true e =
          let same : l.link ≡ n = eq_of l.link n e in
          let is : find (has_number n) s.links ≡ Some l = subst (λ (m : ℕ). find (has_number m) s.links ≡ Some l) same old in
          agree_as g u _ _ (Some (answered_link a.there l)) _ (attached_own a.there n s.sending) (placed_here n (answered_link a.there l) l s.links (answers_number a.there ∙ same) is)
          (agree_here a.there (link_of s.sending n) (λ x is_it. found_sender n s.sending x is_it ∙ sym same) (subst (Agree f s.handles (link_of s.sending n)) is (all n)))

-- ---- the container's flow

pub is_at_handle : (h : ℕ) (g : Stage) → is_stage_at h g ≡ true → handle_in g ≡ Some h
is_at_handle h stage.Wanted e = absurd cc
is_at_handle h (stage.Asked k) e = absurd cc
is_at_handle h (stage.Open k) e = ap Some (eq_of k h e)
is_at_handle h (stage.Refused k) e = ap Some (eq_of k h e)
is_at_handle h (stage.Left k) e = absurd cc
is_at_handle h (stage.Given k) e = ap Some (eq_of k h e)
is_at_handle h (stage.Failed k fault) e = ap Some (eq_of k h e)

some_link : (l k : PathLink) → Some l ≡ Some k → l ≡ k
some_link l k e = cc

peer_same : (peer p : ℕ) (c : Credit) → c.peer ≡ Some p → is_peer peer c.peer ≡ (p == peer)
peer_same peer p c e = ap (is_peer peer) e

-- none sends at a handle that no link has, or a receiving one
none_sends : (s : LinksState) (h : ℕ) → find (is_at h) s.links ≡ None → (n : ℕ) (k : PathLink) → find (has_number n) s.links ≡ Some k → k.receives ≡ false → (j : ℕ) → is_stage_at j k.stage ≡ true
    → (h == j) ≡ false
none_sends s h none n k is sends j at =
    let no : is_at h k ≡ false = (all_find (λ x. is_at h x ≡ false) (has_number n) s.links k (none_passes (is_at h) s.links none) is).0 in
    ne_to h j (λ same. no_clash (is_at h k) (subst (λ (m : ℕ). is_stage_at m k.stage ≡ true) (sym same) at) no)

receiver_alone : (s : LinksState) → Tied s → (h : ℕ) (l : PathLink) → find (is_at h) s.links ≡ Some l → l.receives ≡ true → (n : ℕ) (k : PathLink) → find (has_number n) s.links ≡ Some k → k.receives ≡ false
    → (j : ℕ) → is_stage_at j k.stage ≡ true → (h == j) ≡ false
receiver_alone s t h l e role n k is sends j at = by (l.link == n) refl
  where
    by : (b : Bool) → (l.link == n) ≡ b → (h == j) ≡ false
    by false ne = apart (is_at h) n s l k t e is ne h j (is_at_handle h l.stage (found_passes (is_at h) s.links l e)) (is_at_handle j k.stage at)
    by true e' =
        let own : find (has_number n) s.links ≡ Some l = subst (λ (m : ℕ). find (has_number m) s.links ≡ Some l) (eq_of l.link n e') (found_number (is_at h) s.links l t.rising e) in
        let same : l ≡ k = some_link l k (sym own ∙ is) in
        absurd (no_clash l.receives role (ap (λ (x : PathLink). x.receives) same ∙ sends))

-- what a flow or a detach under this handle of the container does to what the fold says
record IsMark (peer : ℕ) (c : Credit → Credit) : Type 0 where
  role : (x : Credit) → (c x).receives ≡ x.receives
  new : (link name : ℕ) (role : Bool) → c (new_credit link name role) ≡ new_credit link name role
  apart : (x : Credit) (p : ℕ) → x.peer ≡ Some p → (p == peer) ≡ false → c x ≡ x
  over : (x : Credit) → x.ended ≡ true → c x ≡ x

flow_mark : (peer : ℕ) (count : Option ℕ) (credit : ℕ) → IsMark peer (flowed peer count credit)
flow_mark peer count credit = record { role = flowed_role peer count credit; new = λ link name role. refl; apart = apart_flow; over = over_flow }
  where
    kept : (x : Credit) (b : Bool) → (is_peer peer x.peer && not x.ended) ≡ b → b ≡ false → flowed peer count credit x ≡ x
    kept x true e off = absurd cc
    kept x false e off = ap (λ (c : Bool). cond c (record x { stated = or_initial count; credit = credit }) x) e

    both : (a b : Bool) → b ≡ false → (a && b) ≡ false
    both true b e = e
    both false b e = refl

    apart_flow : (x : Credit) (p : ℕ) → x.peer ≡ Some p → (p == peer) ≡ false → flowed peer count credit x ≡ x
    apart_flow x p e ne = kept x _ refl (ap (λ (b : Bool). b && not x.ended) (peer_same peer p x e ∙ ne))

    over_flow : (x : Credit) → x.ended ≡ true → flowed peer count credit x ≡ x
    over_flow x e = kept x _ refl (both (is_peer peer x.peer) (not x.ended) (ap not e))

detach_mark : (peer : ℕ) → IsMark peer (detached peer)
detach_mark peer = record { role = detached_role peer; new = λ link name role. refl; apart = apart_detach; over = λ x e. over_detach x (is_peer peer x.peer) e }
  where
    apart_detach : (x : Credit) (p : ℕ) → x.peer ≡ Some p → (p == peer) ≡ false → detached peer x ≡ x
    apart_detach x p e ne = ap (λ (b : Bool). cond b (record x { ended = true }) x) (peer_same peer p x e ∙ ne)

    over_detach : (x : Credit) (b : Bool) → x.ended ≡ true → cond b (record x { ended = true }) x ≡ x
    over_detach x true e = ap (λ (d : Bool). record x { ended = d }) (sym e)
    over_detach x false e = refl

module _ (f : ℕ → Option Credit) (peer : ℕ) (c : Credit → Credit) (m : IsMark peer c) (s : LinksState) (all : AllAgree f s) where
  abbrev mark_fold : ℕ → Option Credit
  mark_fold k = option_map c (f k)

  mark_role : (j : ℕ) (role : Bool) → role_in (f j) ≡ Some role → role_in (mark_fold j) ≡ Some role
  mark_role j role i = role_mapped c m.role (f j) role i

  mark_new : (link name : ℕ) (role : Bool) (g : Stage) → HasAsked f link name role g → HasAsked mark_fold link name role g
  mark_new link name role stage.Wanted i = i
  mark_new link name role (stage.Asked j) i = ap (option_map c) i ∙ ap Some (m.new link name role)
  mark_new link name role (stage.Open j) i = mark_role j role i
  mark_new link name role (stage.Refused j) i = mark_role j role i
  mark_new link name role (stage.Left j) i = mark_role j role i
  mark_new link name role (stage.Given j) i = mark_role j role i
  mark_new link name role (stage.Failed j fault) i = mark_role j role i

  -- of one that the container detached nothing changes
  mark_spent : (link count most : ℕ) (role : Bool) (g : Stage) → AtEnd f link count most role g → AtEnd mark_fold link count most role g
  mark_spent link count most role g e = spent_on f mark_fold link count most role g (λ h is sends o. ap (option_map c) o.is ∙ ap Some (m.over o.credit o.over) ∙ sym o.is) e

  -- on another link of the container
  kept_apart : (j : ℕ) (x : SendingLink) → ((p : ℕ) → IsNamed s.handles p j → (p == peer) ≡ false) → IsKept f s.handles x j → IsKept mark_fold s.handles x j
  kept_apart j x ne k = record {
    credit = k.credit;
    is = ap (option_map c) k.is ∙ ap Some (m.apart k.credit k.peer k.answers (ne k.peer k.names));
    peer = k.peer;
    answers = k.answers;
    names = k.names;
    number = k.number;
    count = k.count;
    low = k.low;
    exact = k.exact;
    stays = k.stays;
  }

  stage_apart : (x : SendingLink) (g : Stage) → ((j p : ℕ) → is_stage_at j g ≡ true → IsNamed s.handles p j → (p == peer) ≡ false) → AtStage f s.handles x g → AtStage mark_fold s.handles x g
  stage_apart x stage.Wanted ne i = i
  stage_apart x (stage.Asked j) ne i = i
  stage_apart x (stage.Open j) ne i = kept_apart j x (λ p. ne j p (eq_to j j refl)) i
  stage_apart x (stage.Refused j) ne i = kept_apart j x (λ p. ne j p (eq_to j j refl)) i
  stage_apart x (stage.Left j) ne i = i
  stage_apart x (stage.Given j) ne i = i
  stage_apart x (stage.Failed j fault) ne i = i

  agree_apart : (o : Option SendingLink) (p : Option PathLink) → ((k : PathLink) → p ≡ Some k → k.receives ≡ false → (j q : ℕ) → is_stage_at j k.stage ≡ true → IsNamed s.handles q j → (q == peer) ≡ false)
      → Agree f s.handles o p → Agree mark_fold s.handles o p
  agree_apart o None ne i = i
  agree_apart None (Some k) ne i = (mark_new k.link k.name k.receives k.stage i.0, mark_spent k.link k.count k.credit k.receives k.stage i.1)
  agree_apart (Some x) (Some k) ne i = (mark_new k.link k.name k.receives k.stage i.0, (i.1.0, stage_apart x k.stage (ne k refl i.1.0) i.1.1))

  -- none is named
  unnamed_agree : named_by s.handles peer ≡ None → AllAgree mark_fold s
  unnamed_agree none n =
      agree_apart (link_of s.sending n) (find (has_number n) s.links)
      (λ k e r j q has is. ne_to q peer (λ same. none_named s.handles peer none j (subst (λ (x : ℕ). is_named x (state_of s.handles j) ≡ true) same is.here))) (all n)

  module _ (h : ℕ) (handle : named_by s.handles peer ≡ Some h) where
    -- only its handle stands for this one of the container
    only_handle : (j q : ℕ) → IsNamed s.handles q j → (h == j) ≡ false → (q == peer) ≡ false
    only_handle j q is ne = ne_to q peer (λ same. no_clash (h == j) (eq_to h j (some_is h j (sym handle ∙ ap (named_by s.handles) (sym same) ∙ named_is s.handles q j is))) ne)

    -- no link is at it that sends
    empty_agree : ((n : ℕ) (k : PathLink) → find (has_number n) s.links ≡ Some k → k.receives ≡ false → (j : ℕ) → is_stage_at j k.stage ≡ true → (h == j) ≡ false) → AllAgree mark_fold s
    empty_agree none n =
        agree_apart (link_of s.sending n) (find (has_number n) s.links) (λ k e r j q has is. only_handle j q is (none n k e r j has)) (all n)

    -- another link than the one that is at it
    others_apart : (l : PathLink) → Tied s → find (is_at h) s.links ≡ Some l → (n : ℕ) → (l.link == n) ≡ false → Agree mark_fold s.handles (link_of s.sending n) (find (has_number n) s.links)
    others_apart l t found n ne =
        agree_apart (link_of s.sending n) (find (has_number n) s.links)
        (λ k is r j q has names. only_handle j q names
        (apart (is_at h) n s l k t found is ne h j (is_at_handle h l.stage (found_passes (is_at h) s.links l found)) (is_at_handle j k.stage has))) (all n)

named_here : (s : LinksState) (peer h : ℕ) → named_by s.handles peer ≡ Some h → is_named peer (state_of s.handles h) ≡ true
named_here s peer h handle = (position-Some (is_named peer) s.handles.states h state.Free handle).1

module _ (f : ℕ → Option Credit) (peer : ℕ) (count : Option ℕ) (credit : ℕ) (s : LinksState) (t : Tied s) (all : AllAgree f s) where
  abbrev flow_fold : ℕ → Option Credit
  flow_fold k = option_map (flowed peer count credit) (f k)

  mark : IsMark peer (flowed peer count credit)
  mark = flow_mark peer count credit

  abbrev with_flow : SendingLink → SendingLink
  with_flow x = record x { state = after_flow count credit x.state }

  module _ (h : ℕ) (handle : named_by s.handles peer ≡ Some h) where
    -- one is
    module _ (l : PathLink) (drain echo : Bool) (found : find (is_at h) s.links ≡ Some l) where
      own_handle : handle_in l.stage ≡ Some h
      own_handle = is_at_handle h l.stage (found_passes (is_at h) s.links l found)

      kept_flowed : (j : ℕ) (x : SendingLink) → is_named peer (state_of s.handles j) ≡ true → IsKept f s.handles x j → IsKept flow_fold s.handles (with_flow x) j
      kept_flowed j x is k = record {
        credit = record k.credit { stated = or_initial count; credit = credit };
        is = ap (option_map (flowed peer count credit)) k.is
            ∙ ap (λ (b : Bool). Some (cond (b && not k.credit.ended) (record k.credit { stated = or_initial count; credit = credit }) k.credit))
            (peer_same peer k.peer k.credit k.answers ∙ eq_to k.peer peer (one_peer (state_of s.handles j) k.peer peer k.names.here is))
            ∙ ap (λ (b : Bool). Some (cond (not b) (record k.credit { stated = or_initial count; credit = credit }) k.credit)) k.stays;
        peer = k.peer;
        answers = k.answers;
        names = k.names;
        number = k.number;
        count = k.count;
        low = subst (λ (m : ℕ). left_of (or_initial count) credit x.state.count ≤ left_of (or_initial count) credit m) k.count (omega arith);
        exact = λ uint. ap (left_of (or_initial count) credit) k.count;
        stays = k.stays;
      }

      stage_flowed : (x : SendingLink) (g : Stage) → ((j : ℕ) → handle_in g ≡ Some j → h ≡ j) → is_stage_at h g ≡ true → AtStage f s.handles x g
          → AtStage flow_fold s.handles (with_flow x) g
      stage_flowed x stage.Wanted same at i = absurd cc
      stage_flowed x (stage.Asked j) same at i = absurd cc
      stage_flowed x (stage.Open j) same at i = kept_flowed j x (subst (λ (m : ℕ). is_named peer (state_of s.handles m) ≡ true) (same j refl) (named_here s peer h handle)) i
      stage_flowed x (stage.Refused j) same at i = kept_flowed j x (subst (λ (m : ℕ). is_named peer (state_of s.handles m) ≡ true) (same j refl) (named_here s peer h handle)) i
      stage_flowed x (stage.Left j) same at i = i
      stage_flowed x (stage.Given j) same at i = i
      stage_flowed x (stage.Failed j fault) same at i = i

      agree_flowed : (o : Option SendingLink) → Agree f s.handles o (Some l) → Agree flow_fold s.handles (option_map with_flow o) (Some (told_by drain echo l))
      agree_flowed None i = (mark_new f peer _ mark s all l.link l.name l.receives l.stage i.0, mark_spent f peer _ mark s all l.link l.count l.credit l.receives l.stage i.1)
      agree_flowed (Some x) i =
          (mark_new f peer _ mark s all l.link l.name l.receives l.stage i.0, (i.1.0, stage_flowed x l.stage (λ j has. some_is h j (sym own_handle ∙ has)) (found_passes (is_at h) s.links l found) i.1.1))

      flowed_own : (n : ℕ) → l.link ≡ n → link_of (map (flowed_link l.link count credit) s.sending) n ≡ option_map with_flow (link_of s.sending n)
      flowed_own n same = mapped_here n (flowed_link l.link count credit) (λ x. refl) s.sending ∙ by (link_of s.sending n) refl
        where
          by : (o : Option SendingLink) → link_of s.sending n ≡ o → option_map (flowed_link l.link count credit) o ≡ option_map with_flow o
          by None e = refl
          by (Some x) e =
              ap (λ (b : Bool). Some (record x { state = cond b (after_flow count credit x.state) x.state })) (eq_to x.link l.link (found_sender n s.sending x e ∙ sym same))

      flowed_agree : AllAgree flow_fold (flowed_on (Some l) count credit drain echo s)
      flowed_agree n = by (l.link == n) refl
        where
          by : (b : Bool) → (l.link == n) ≡ b → Agree flow_fold s.handles (link_of (map (flowed_link l.link count credit) s.sending) n) (find (has_number n) (put (told_by drain echo l) s.links))
          by false e =
              agree_as flow_fold s.handles _ _ _ _
              (mapped_other n (flowed_link l.link count credit) (λ x. refl)
              (λ x i. ap (λ (b : Bool). record x { state = cond b (after_flow count credit x.state) x.state }) (ne_to x.link l.link (λ same. no_clash (l.link == n) (eq_to l.link n (sym same ∙ i)) e))) s.sending)
              (placed_other n (told_by drain echo l) s.links e)
              (others_apart f peer _ mark s all h handle l t found n e)
          by true e =
              let same : l.link ≡ n = eq_of l.link n e in
              let is : find (has_number n) s.links ≡ Some l = subst (λ (m : ℕ). find (has_number m) s.links ≡ Some l) same (found_number (is_at h) s.links l t.rising found) in
              agree_as flow_fold s.handles _ _ (Some (told_by drain echo l)) _ (flowed_own n same) (placed_here n (told_by drain echo l) l s.links same is)
              (agree_flowed (link_of s.sending n) (subst (Agree f s.handles (link_of s.sending n)) is (all n)))

  -- the links after the flow, by the link that is named
  abbrev after_named : Bool → Bool → Option PathLink → LinksState
  after_named drain echo None = s
  after_named drain echo (Some l) = cond l.receives s (flowed_on (Some l) count credit drain echo s)

  after_is : (drain echo : Bool) → flowed_if (receiver_in (named peer s)) peer count credit drain echo s ≡ after_named drain echo (named peer s)
  after_is drain echo = by (named peer s) refl
    where
      by : (q : Option PathLink) → named peer s ≡ q → flowed_if (receiver_in q) peer count credit drain echo s ≡ after_named drain echo q
      by None e = ap (λ (o : Option PathLink). flowed_on o count credit drain echo s) e
      by (Some l) e = role l.receives
        where
          role : (b : Bool) → flowed_if (cond b (Some l) None) peer count credit drain echo s ≡ cond b s (flowed_on (Some l) count credit drain echo s)
          role true = refl
          role false = ap (λ (o : Option PathLink). flowed_on o count credit drain echo s) e

  named_agree : (drain echo : Bool) (h : ℕ) → named_by s.handles peer ≡ Some h → (q : Option PathLink) → find (is_at h) s.links ≡ q → AllAgree flow_fold (after_named drain echo q)
  named_agree drain echo h handle None e = empty_agree f peer _ mark s all h handle (none_sends s h e)
  named_agree drain echo h handle (Some l) e = role l.receives refl
    where
      role : (b : Bool) → l.receives ≡ b → AllAgree flow_fold (cond b s (flowed_on (Some l) count credit drain echo s))
      role true r = empty_agree f peer _ mark s all h handle (receiver_alone s t h l e r)
      role false r = flowed_agree h handle l drain echo e

  pub flow_agree : (drain echo : Bool) → AllAgree flow_fold (flowed_if (receiver_in (named peer s)) peer count credit drain echo s)
  flow_agree drain echo = subst (AllAgree flow_fold) (sym (after_is drain echo)) (by (named_by s.handles peer) refl)
    where
      by : (o : Option ℕ) → named_by s.handles peer ≡ o → AllAgree flow_fold (after_named drain echo (at_handle o s.links))
      by None e = unnamed_agree f peer _ mark s all e
      by (Some h) e = named_agree drain echo h e (find (is_at h) s.links) refl

-- ---- detaches, and a transfer that fails

pub has_handle : (g : Stage) (h : ℕ) → handle_in g ≡ Some h → handle_in g ≡ Some (handle_of g)
has_handle stage.Wanted h e = absurd cc
has_handle (stage.Asked k) h e = refl
has_handle (stage.Open k) h e = refl
has_handle (stage.Refused k) h e = refl
has_handle (stage.Left k) h e = refl
has_handle (stage.Given k) h e = refl
has_handle (stage.Failed k fault) h e = refl

pub left_handle : (g : Stage) → is_stage_left g ≡ true → handle_in g ≡ Some (handle_of g)
left_handle stage.Wanted e = absurd cc
left_handle (stage.Left k) e = refl
left_handle (stage.Asked k) e = refl
left_handle (stage.Open k) e = refl
left_handle (stage.Refused k) e = refl
left_handle (stage.Given k) e = refl
left_handle (stage.Failed k fault) e = refl

pub up_handle : (g : Stage) → (is_stage_open g || is_stage_failed g) ≡ true → handle_in g ≡ Some (handle_of g)
up_handle stage.Wanted e = absurd cc
up_handle (stage.Left k) e = refl
up_handle (stage.Asked k) e = refl
up_handle (stage.Open k) e = refl
up_handle (stage.Refused k) e = refl
up_handle (stage.Given k) e = refl
up_handle (stage.Failed k fault) e = refl

pub sent_named : (s : HandleState) (peer : ℕ) → is_named peer (with_sent s) ≡ true → is_named peer s ≡ true
sent_named state.Free peer is = is
sent_named state.Asked peer is = is
sent_named (state.Attached a) peer is = by a.detach_read is
  where
    by : (b : Bool) → is_named peer (cond (true && b) state.Free (state.Attached (record a { detach_sent = true }))) ≡ true → (a.peer == peer) ≡ true
    by true is = absurd cc
    by false is = is

pub read_named : (s : HandleState) (peer : ℕ) → is_named peer (with_read s) ≡ true → is_named peer s ≡ true
read_named state.Free peer is = is
read_named state.Asked peer is = is
read_named (state.Attached a) peer is = by a.detach_sent is
  where
    by : (b : Bool) → is_named peer (cond (b && true) state.Free (state.Attached (record a { detach_read = true }))) ≡ true → (a.peer == peer) ≡ true
    by true is = absurd cc
    by false is = is

-- where one link changes, and of the others the fold says what it said
module _ (f : ℕ → Option Credit) (s : LinksState) (l : PathLink) (p : PathLink → Bool) (t : Tied s) (found : find p s.links ≡ Some l)
    (others : (n : ℕ) → (l.link == n) ≡ false → Agree f s.handles (link_of s.sending n) (find (has_number n) s.links)) where
  abbrev hand : ℕ
  hand = handle_of l.stage

  own : find (has_number l.link) s.links ≡ Some l
  own = found_number p s.links l t.rising found

  -- another link, where the handle of this one is written and names none anew
  others_stay : (st : HandleState) (n : ℕ) → handle_in l.stage ≡ Some hand → ((peer : ℕ) → is_named peer st ≡ true → is_named peer (state_of s.handles hand) ≡ true) → (l.link == n) ≡ false
      → Agree f (with_state hand st s.handles) (link_of s.sending n) (find (has_number n) s.links)
  others_stay st n has less ne =
      agree_on f f s.handles (with_state hand st s.handles) (link_of s.sending n) (find (has_number n) s.links)
      (λ k is j at. record { fold = refl; names = λ peer named. named_stays s.handles hand st peer j (apart p n s l k t found is ne hand j has at) (less peer) named }) (others n ne)

  -- credits that are kept no more
  record Leaves (xs : List SendingLink) : Type 0 where
    other : (n : ℕ) → (l.link == n) ≡ false → link_of xs n ≡ link_of s.sending n
    none : link_of xs l.link ≡ None

  without_it : Leaves (without l.link s.sending)
  without_it = record { other = λ n ne. without_other n l.link s.sending ne; none = without_here l.link s.sending }

  -- it is dropped
  dropped_agree : (xs : List SendingLink) (st : HandleState) → Leaves xs → handle_in l.stage ≡ Some hand → ((peer : ℕ) → is_named peer st ≡ true → is_named peer (state_of s.handles hand) ≡ true)
      → AllAgree f (record s { sending = xs; links = dropped l.link s.links; handles = with_state hand st s.handles })
  dropped_agree xs st leaves has less n = by (l.link == n) refl
    where
      by : (b : Bool) → (l.link == n) ≡ b → Agree f (with_state hand st s.handles) (link_of xs n) (find (has_number n) (dropped l.link s.links))
      by false ne =
          agree_as f (with_state hand st s.handles) _ _ _ _ (leaves.other n ne)
          (find-filter (λ k. not (has_number l.link k)) (has_number n) (λ k e. ne_to k.link n (λ same. no_clash (l.link == n) (eq_to l.link n (sym (eq_of k.link l.link (not_false (k.link == l.link) e)) ∙ same)) ne)) s.links)
          (others_stay st n has less ne)
      by true e =
          let same : l.link ≡ n = eq_of l.link n e in
          agree_as f (with_state hand st s.handles) None _ None _ (subst (λ (m : ℕ). link_of xs m ≡ None) same leaves.none)
          (ap (λ (m : ℕ). find (has_number n) (dropped m s.links)) same ∙ none_left (has_number n) (λ k. not (has_number n k)) (λ k is. ap not is) s.links) refl

  -- another takes its place
  placed_agree : (x : PathLink) (st : HandleState) → handle_in l.stage ≡ Some hand → ((peer : ℕ) → is_named peer st ≡ true → is_named peer (state_of s.handles hand) ≡ true)
      → x.link ≡ l.link → HasAsked f x.link x.name x.receives x.stage → IsSpent f x
      → AllAgree f (record s { sending = without l.link s.sending; links = put x s.links; handles = with_state hand st s.handles })
  placed_agree x st has less number new spent n = by (l.link == n) refl
    where
      by : (b : Bool) → (l.link == n) ≡ b → Agree f (with_state hand st s.handles) (link_of (without l.link s.sending) n) (find (has_number n) (put x s.links))
      by false ne =
          agree_as f (with_state hand st s.handles) _ _ _ _ (without_other n l.link s.sending ne) (placed_other n x s.links (ap (λ (m : ℕ). m == n) number ∙ ne)) (others_stay st n has less ne)
      by true e =
          let same : l.link ≡ n = eq_of l.link n e in
          agree_as f (with_state hand st s.handles) None _ (Some x) _ (subst (λ (m : ℕ). link_of (without l.link s.sending) m ≡ None) same (without_here l.link s.sending))
          (placed_here n x l s.links (number ∙ same) (subst (λ (m : ℕ). find (has_number m) s.links ≡ Some l) same own)) (new, spent)

module _ (f : ℕ → Option Credit) (s : LinksState) (l : PathLink) (p : PathLink → Bool) (t : Tied s) (all : AllAgree f s) (found : find p s.links ≡ Some l) where
  rest : (n : ℕ) → (l.link == n) ≡ false → Agree f s.handles (link_of s.sending n) (find (has_number n) s.links)
  rest n ne = all n

  -- the link itself
  itself : Agree f s.handles (link_of s.sending l.link) (Some l)
  itself = subst (Agree f s.handles (link_of s.sending l.link)) (own f s l p t found rest) (all l.link)

  -- in the role in which it was attached
  role_own : handle_in l.stage ≡ Some (handle_of l.stage) → role_in (f (handle_of l.stage)) ≡ Some l.receives
  role_own has = agree_role f s.handles (link_of s.sending l.link) l (handle_of l.stage) has itself

  -- the gateway's detach, of a link that the container detached or of another
  none_of_left : is_left l ≡ true → link_of s.sending l.link ≡ None
  none_of_left left_is = by (link_of s.sending l.link) itself
    where
      out : (x : SendingLink) (g : Stage) → is_stage_left g ≡ true → AtStage f s.handles x g → ⊥
      out x stage.Wanted e i = absurd cc
      out x (stage.Asked k) e i = absurd cc
      out x (stage.Open k) e i = absurd cc
      out x (stage.Refused k) e i = absurd cc
      out x (stage.Left k) e i = i
      out x (stage.Given k) e i = absurd cc
      out x (stage.Failed k fault) e i = absurd cc

      by : (o : Option SendingLink) → Agree f s.handles o (Some l) → o ≡ None
      by None i = refl
      by (Some x) i = absurd (out x l.stage left_is i.1.1)

  gone_agree : is_left l ≡ true → AllAgree f (gone_on (Some l) s)
  gone_agree left_is =
      subst (λ (ks : List PathLink). AllAgree f (record { sending = s.sending; links = ks; handles = with_state (handle_of l.stage) (with_sent (state_of s.handles (handle_of l.stage))) s.handles }))
      (sym (gone_is p s.sending s.links s.handles l t found left_is))
      (dropped_agree f s l p t found rest s.sending (with_sent (state_of s.handles (handle_of l.stage))) (record { other = λ n ne. refl; none = none_of_left left_is }) (left_handle l.stage left_is)
      (λ peer is. sent_named (state_of s.handles (handle_of l.stage)) peer is))

  given_agree : (is_stage_open l.stage || is_stage_failed l.stage) ≡ true → AllAgree f (given_on (Some l) s)
  given_agree up =
      placed_agree f s l p t found rest (given_by l) (with_sent (state_of s.handles (handle_of l.stage))) (up_handle l.stage up) (λ peer is. sent_named (state_of s.handles (handle_of l.stage)) peer is) refl
      (role_own (up_handle l.stage up)) tt

  -- a transfer on a receiving link fails
  failed_agree : (fault : TransferFault) → l.receives ≡ true → handle_in l.stage ≡ Some (handle_of l.stage) → AllAgree f (record s { links = put (failed_by fault l) s.links })
  failed_agree fault role has n = by (l.link == n) refl
    where
      mine : (o : Option SendingLink) → Agree f s.handles o (Some l) → Agree f s.handles o (Some (failed_by fault l))
      mine None i = (role_own has, role)
      mine (Some x) i = absurd (no_clash l.receives role i.1.0)

      by : (b : Bool) → (l.link == n) ≡ b → Agree f s.handles (link_of s.sending n) (find (has_number n) (put (failed_by fault l) s.links))
      by false ne = agree_as f s.handles _ _ _ _ refl (placed_other n (failed_by fault l) s.links ne) (all n)
      by true e =
          let same : l.link ≡ n = eq_of l.link n e in
          let is : find (has_number n) s.links ≡ Some l = subst (λ (m : ℕ). find (has_number m) s.links ≡ Some l) same (own f s l p t found rest) in
          agree_as f s.handles _ _ (Some (failed_by fault l)) _ refl (placed_here n (failed_by fault l) l s.links same is) (mine (link_of s.sending n) (subst (Agree f s.handles (link_of s.sending n)) is (all n)))

-- the container's detach
module _ (f : ℕ → Option Credit) (peer : ℕ) (s : LinksState) (t : Tied s) (all : AllAgree f s) where
  abbrev detach_fold : ℕ → Option Credit
  detach_fold k = option_map (detached peer) (f k)

  -- of the link that is named
  module _ (h : ℕ) (handle : named_by s.handles peer ≡ Some h) (l : PathLink) (found : find (is_at h) s.links ≡ Some l) where
    at_it : is_stage_at h l.stage ≡ true
    at_it = found_passes (is_at h) s.links l found

    has_it : handle_in l.stage ≡ Some (handle_of l.stage)
    has_it = has_handle l.stage h (is_at_handle h l.stage at_it)

    around : (n : ℕ) → (l.link == n) ≡ false → Agree detach_fold s.handles (link_of s.sending n) (find (has_number n) s.links)
    around n ne = others_apart f peer (detached peer) (detach_mark peer) s all h handle l t found n ne

    -- what was kept stays with the link
    over_now : (x : SendingLink) (j : ℕ) → x.link ≡ l.link → is_named peer (state_of s.handles j) ≡ true → IsKept f s.handles x j → IsOver detach_fold l.link x.state.count x.state.credit j
    over_now x j number named k = record {
      credit = record k.credit { ended = true };
      is = ap (option_map (detached peer)) k.is
          ∙ ap (λ (b : Bool). Some (cond b (record k.credit { ended = true }) k.credit))
          (peer_same peer k.peer k.credit k.answers ∙ eq_to k.peer peer (one_peer (state_of s.handles j) k.peer peer k.names.here named));
      peer = k.peer;
      answers = k.answers;
      number = k.number ∙ number;
      states = k.count;
      low = k.low;
      exact = k.exact;
      over = refl;
    }

    over_at : (x : SendingLink) (g : Stage) → x.link ≡ l.link → is_stage_at h g ≡ true → is_stage_given g ≡ false → AtStage f s.handles x g → IsOver detach_fold l.link x.state.count x.state.credit (handle_of g)
    over_at x stage.Wanted number at off i = absurd cc
    over_at x (stage.Asked j) number at off i = absurd cc
    over_at x (stage.Open j) number at off i = over_now x j number (subst (λ (m : ℕ). is_named peer (state_of s.handles m) ≡ true) (sym (eq_of j h at)) (named_here s peer h handle)) i
    over_at x (stage.Refused j) number at off i = over_now x j number (subst (λ (m : ℕ). is_named peer (state_of s.handles m) ≡ true) (sym (eq_of j h at)) (named_here s peer h handle)) i
    over_at x (stage.Left j) number at off i = absurd cc
    over_at x (stage.Given j) number at off i = absurd cc
    over_at x (stage.Failed j fault) number at off i = absurd i

    receives_at : (g : Stage) → is_stage_at h g ≡ true → is_stage_given g ≡ false → AtEnd f l.link l.count l.credit l.receives g → l.receives ≡ true
    receives_at stage.Wanted at off e = e
    receives_at (stage.Asked j) at off e = e
    receives_at (stage.Open j) at off e = e
    receives_at (stage.Refused j) at off e = e
    receives_at (stage.Left j) at off e = absurd cc
    receives_at (stage.Given j) at off e = absurd cc
    receives_at (stage.Failed j fault) at off e = e

    over_of : (o : Option SendingLink) → link_of s.sending l.link ≡ o → is_given l ≡ false → Agree f s.handles o (Some l) → l.receives ≡ false
        → IsOver detach_fold l.link (count_in o) (credit_in o) (handle_of l.stage)
    over_of None e off i sends = absurd (no_clash l.receives (receives_at l.stage at_it off i.1) sends)
    over_of (Some x) e off i sends = over_at x l.stage (found_sender l.link s.sending x e) at_it off i.1.1

    detached_agree : AllAgree detach_fold (detached_on (Some l) s)
    detached_agree = by (is_given l) refl
      where
        by : (b : Bool) → is_given l ≡ b
            → AllAgree detach_fold (record {
              sending = without l.link s.sending;
              links = cond b (dropped l.link s.links) (put (left_by s.sending l) s.links);
              handles = with_state (handle_of l.stage) (with_read (state_of s.handles (handle_of l.stage))) s.handles;
            })
        by true given =
            dropped_agree detach_fold s l (is_at h) t found around (without l.link s.sending) (with_read (state_of s.handles (handle_of l.stage)))
            (without_it detach_fold s l (is_at h) t found around) has_it (λ q is. read_named (state_of s.handles (handle_of l.stage)) q is)
        by false off =
            placed_agree detach_fold s l (is_at h) t found around (left_by s.sending l) (with_read (state_of s.handles (handle_of l.stage))) has_it
            (λ q is. read_named (state_of s.handles (handle_of l.stage)) q is) refl
            (mark_role f peer (detached peer) (detach_mark peer) s all (handle_of l.stage) l.receives (role_own f s l (is_at h) t all found has_it))
            (over_of (link_of s.sending l.link) refl off (itself f s l (is_at h) t all found))

  pub link_detached_agree : AllAgree detach_fold (link_detached peer s)
  link_detached_agree = by (named_by s.handles peer) refl
    where
      at : (h : ℕ) → named_by s.handles peer ≡ Some h → (o : Option PathLink) → find (is_at h) s.links ≡ o → AllAgree detach_fold (detached_on o s)
      at h handle None e = empty_agree f peer (detached peer) (detach_mark peer) s all h handle (none_sends s h e)
      at h handle (Some l) e = detached_agree h handle l e

      by : (o : Option ℕ) → named_by s.handles peer ≡ o → AllAgree detach_fold (detached_on (at_handle o s.links) s)
      by None e = unnamed_agree f peer (detached peer) (detach_mark peer) s all e
      by (Some h) e = at h e (find (is_at h) s.links) refl

-- ---- by what they name

pub parted_agree : (f : ℕ → Option Credit) (s : LinksState) (o : Option PathLink) → Tied s → AllAgree f s → IfSome o (IsThere s) → AllAgree f (parted o s)
parted_agree f s None t a there = a
parted_agree f s (Some l) t a there = by (is_left l) refl
  where
    by : (b : Bool) → is_left l ≡ b → AllAgree f (cond b (gone_on (Some l) s) (given_on (Some l) s))
    by true e = gone_agree f s l (has_number l.link) t a there.0 e
    by false e = given_agree f s l (has_number l.link) t a there.0 (there.1 e)

failed_at : (f : ℕ → Option Credit) (fault : TransferFault) (s : LinksState) (h : ℕ) (o : Option PathLink) → Tied s → AllAgree f s → find (is_at h) s.links ≡ o → AllAgree f (failed_on o fault s)
failed_at f fault s h None t a e = a
failed_at f fault s h (Some l) t a e = by (is_stage_whole l.stage && l.receives) refl
  where
    by : (b : Bool) → (is_stage_whole l.stage && l.receives) ≡ b → AllAgree f (cond b (record s { links = put (failed_by fault l) s.links }) s)
    by true is =
        failed_agree f s l (is_at h) t a e fault (and_right (is_stage_whole l.stage) l.receives is)
        (has_handle l.stage h (is_at_handle h l.stage (found_passes (is_at h) s.links l e)))
    by false is = a

pub link_failed_agree : (f : ℕ → Option Credit) (peer : ℕ) (fault : TransferFault) (s : LinksState) → Tied s → AllAgree f s → AllAgree f (link_failed peer fault s)
link_failed_agree f peer fault s t a = by (named_by s.handles peer)
  where
    by : (o : Option ℕ) → AllAgree f (failed_on (at_handle o s.links) fault s)
    by None = a
    by (Some h) = failed_at f fault s h (find (is_at h) s.links) t a refl
