-- What of an event changes the deliveries alone, and leaves the links.
use Rattle.std.proofs.Common.{◌≡◌, ℕ, List, Bool, true, false, Option, Some, None, refl, cond}
use Rattle.consume_path.specs.declared.delivery.Content.{Content}
use Rattle.consume_path.specs.declared.delivery.NextSettle.{NextSettle}
use Rattle.consume_path.specs.declared.receiving.NextGrant.{NextGrant}
use Rattle.consume_path.specs.declared.receiving.Part.{Part}
use Rattle.session_path.specs.declared.path.AttachHeard.{AttachHeard}
use Rattle.session_path.specs.declared.path.PathLink.{PathLink}
use Rattle.session_path.specs.Links.{LinksState, link_flowed, told_on, with_receiver}
use Rattle.session_path.specs.Path.{PathState, begun_if, disposed_by, dropped_by, flow_of}
use Rattle.session_path.specs.Path.{flowed_by, got_on, granted_by, grant_in, is_grant_next}
use Rattle.session_path.specs.Path.{link_flow_sent}
use Rattle.session_path.specs.Path.{receiver_flowed, transferred_on}

pub attach_same : (o : Option PathLink) (a : AttachHeard) (s : PathState) → (begun_if o a s).links ≡ s.links
attach_same None a s = refl
attach_same (Some l) a s = by l.receives a.there
  where
    by : (b c : Bool) → (begun_if (Some (record l { receives = b })) (record a { there = c }) s).links ≡ s.links
    by true true = refl
    by true false = refl
    by false true = refl
    by false false = refl

receiver_same : (l : PathLink) (count : Option ℕ) (echo : Bool) (s : PathState) → (receiver_flowed l count echo s).links ≡ s.links
receiver_same l count echo s = refl

-- a get takes a link that is there, or one more
abbrev pub got_links : Option PathLink → LinksState → LinksState
got_links None s = with_receiver s
got_links (Some l) s = s

pub got_same : (o : Option PathLink) (address : List ℕ) (no_ack : Bool) (s : PathState) → (got_on o address no_ack s).links ≡ got_links o s.links
got_same None address no_ack s = refl
got_same (Some l) address no_ack s = refl

-- a flow of the container on a sending link changes them, and none on a receiving link
abbrev pub flowed_if : Option PathLink → ℕ → Option ℕ → ℕ → Bool → Bool → LinksState → LinksState
flowed_if None peer count credit drain echo s = link_flowed peer count credit drain echo s
flowed_if (Some l) peer count credit drain echo s = s

pub flowed_same : (o : Option PathLink) (peer : ℕ) (count : Option ℕ) (credit : ℕ) (drain echo : Bool) (s : PathState)
    → (flowed_by o peer count credit drain echo s).links ≡ flowed_if o peer count credit drain echo s.links
flowed_same None peer count credit drain echo s = refl
flowed_same (Some l) peer count credit drain echo s = receiver_same l count echo s

pub transfer_same : (o : Option PathLink) (part : Part) (payload : List ℕ) (image : Option Content) (again : Bool) (s : PathState)
    → (transferred_on o part payload image again s).links ≡ s.links
transfer_same None part payload image again s = refl
transfer_same (Some l) part payload image again s = refl

granted_same : (o : Option NextGrant) (s : PathState) → (granted_by o s).links ≡ s.links
granted_same None s = refl
granted_same (Some g) s = refl

-- the flow that went
pub flow_sent_same : (s : PathState) → (link_flow_sent s).links ≡ cond (is_grant_next s) s.links (told_on (flow_of s.publishes.list s.links) s.links)
flow_sent_same s = by (is_grant_next s)
  where
    by : (b : Bool) → (cond b (granted_by (grant_in s) s) (record s { links = told_on (flow_of s.publishes.list s.links) s.links })).links ≡ cond b s.links (told_on (flow_of s.publishes.list s.links) s.links)
    by true = granted_same (grant_in s) s
    by false = refl

pub disposed_same : (o : Option NextSettle) (s : PathState) → (disposed_by o s).links ≡ s.links
disposed_same None s = refl
disposed_same (Some x) s = refl

pub dropped_same : (o : Option PathLink) (s : PathState) → (dropped_by o s).links ≡ s.links
dropped_same None s = refl
dropped_same (Some l) s = by l.receives
  where
    by : (b : Bool) → (dropped_by (Some (record l { receives = b })) s).links ≡ s.links
    by true = refl
    by false = refl
