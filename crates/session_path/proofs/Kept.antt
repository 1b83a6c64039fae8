-- What the events of receiving links leave as it was.
use Rattle.std.proofs.Common.{◌≡◌, ℕ, List, ◌++◌, Bool, true, false, Option, Some, None, refl, cond}
use Rattle.std.proofs.Common.{ap}
use Rattle.std.specs.Prelude.{[], ◌∷◌, ◌&&◌}
use Rattle.consume_path.specs.declared.delivery.Content.{Content}
use Rattle.consume_path.specs.declared.delivery.NextSettle.{NextSettle}
use Rattle.consume_path.specs.declared.receiving.NextGrant.{NextGrant}
use Rattle.consume_path.specs.declared.receiving.Part.{Part}
use Rattle.session_path.specs.Links.{told_on}
use Rattle.session_path.specs.Path.{PathState, begun_if, begun_on, disposed_by, dropped, dropped_by}
use Rattle.session_path.specs.Path.{flow_of, flowed_by, got_on, granted_by, names_by, oks_by}
use Rattle.session_path.specs.Path.{transferred_on}
use Rattle.session_path.specs.Laws.{arrival_oks, begun_names, begun_oks, flow_oks}
use Rattle.session_path.specs.declared.path.AttachHeard.{AttachHeard}
use Rattle.session_path.specs.declared.path.PathLink.{PathLink}
use Rattle.session_path.specs.declared.path.PathOk.{PathOk}

-- the publishes, and what is owed to the container and to the client
pub record IsKept (s t : PathState) : Type 0 where
  pub publishes : t.publishes ≡ s.publishes
  pub settles : t.settles ≡ s.settles
  pub oks : t.oks ≡ s.oks
  pub names : t.names ≡ s.names
  pub queue : t.queue ≡ s.queue

same : (s : PathState) → IsKept s s
same s = record { publishes = refl; settles = refl; oks = refl; names = refl; queue = refl }

pub got_keeps : (o : Option PathLink) (address : List ℕ) (no_ack : Bool) (s : PathState) → IsKept s (got_on o address no_ack s)
got_keeps None address no_ack s = record { publishes = refl; settles = refl; oks = refl; names = refl; queue = refl }
got_keeps (Some l) address no_ack s = record { publishes = refl; settles = refl; oks = refl; names = refl; queue = refl }

pub granted : (b : Bool) (o : Option NextGrant) (s : PathState) → IsKept s (cond b (granted_by o s) (record s { links = told_on (flow_of s.publishes.list s.links) s.links }))
granted true None s = same s
granted true (Some g) s = record { publishes = refl; settles = refl; oks = refl; names = refl; queue = refl }
granted false o s = record { publishes = refl; settles = refl; oks = refl; names = refl; queue = refl }

pub disposed : (o : Option NextSettle) (s : PathState) → IsKept s (disposed_by o s)
disposed None s = same s
disposed (Some x) s = record { publishes = refl; settles = refl; oks = refl; names = refl; queue = refl }

pub parted_keeps : (o : Option PathLink) (s : PathState) → IsKept s (dropped_by o s)
parted_keeps None s = same s
parted_keeps (Some l) s = by l.receives
  where
    by : (b : Bool) → IsKept s (cond b (dropped l.link s) s)
    by true = record { publishes = refl; settles = refl; oks = refl; names = refl; queue = refl }
    by false = same s

nil : {A : Type 0} (xs : List A) → xs ≡ xs ++ []
nil [] = refl
nil (x ∷ xs) = ap (λ ys. x ∷ ys) (nil xs)

-- a flow and a transfer make the answers to gets due
pub record IsTold (new : List PathOk) (s t : PathState) : Type 0 where
  pub publishes : t.publishes ≡ s.publishes
  pub settles : t.settles ≡ s.settles
  pub oks : t.oks ≡ s.oks ++ new
  pub names : t.names ≡ s.names
  pub queue : t.queue ≡ s.queue

pub flowed : (o : Option PathLink) (peer : ℕ) (count : Option ℕ) (credit : ℕ) (drain echo : Bool) (s : PathState)
    → IsTold (flow_oks o count echo s.deliveries) s (flowed_by o peer count credit drain echo s)
flowed None peer count credit drain echo s = record { publishes = refl; settles = refl; oks = nil s.oks; names = refl; queue = refl }
flowed (Some l) peer count credit drain echo s = record { publishes = refl; settles = refl; oks = refl; names = refl; queue = refl }

pub transferred : (o : Option PathLink) (part : Part) (payload : List ℕ) (image : Option Content) (again : Bool) (s : PathState)
    → IsTold (arrival_oks o part payload image again s.deliveries) s (transferred_on o part payload image again s)
transferred None part payload image again s = record { publishes = refl; settles = refl; oks = nil s.oks; names = refl; queue = refl }
transferred (Some l) part payload image again s = record { publishes = refl; settles = refl; oks = refl; names = refl; queue = refl }

-- an attach makes an answer due at most
pub record IsBegun (o : Option PathLink) (a : AttachHeard) (s t : PathState) : Type 0 where
  pub publishes : t.publishes ≡ s.publishes
  pub settles : t.settles ≡ s.settles
  pub oks : t.oks ≡ s.oks ++ begun_oks o a s.awaited
  pub names : t.names ≡ s.names ++ begun_names o a s.awaited s.queue s.deliveries
  pub queue : t.queue ≡ s.queue

pub begun : (o : Option PathLink) (a : AttachHeard) (s : PathState) → IsBegun o a s (begun_if o a s)
begun None a s = record { publishes = refl; settles = refl; oks = nil s.oks; names = nil s.names; queue = refl }
begun (Some l) a s = record { publishes = by_publishes (l.receives && a.there); settles = by_settles (l.receives && a.there); oks = by_oks (l.receives && a.there); names = by_names (l.receives && a.there); queue = by_queue (l.receives && a.there) }
  where
    by_publishes : (b : Bool) → (cond b (begun_on l.link a.count s) s).publishes ≡ s.publishes
    by_publishes true = refl
    by_publishes false = refl

    by_settles : (b : Bool) → (cond b (begun_on l.link a.count s) s).settles ≡ s.settles
    by_settles true = refl
    by_settles false = refl

    by_names : (b : Bool) → (cond b (begun_on l.link a.count s) s).names ≡ s.names ++ cond b (names_by l.link s.awaited s.queue s.deliveries) []
    by_names true = refl
    by_names false = nil s.names

    by_queue : (b : Bool) → (cond b (begun_on l.link a.count s) s).queue ≡ s.queue
    by_queue true = refl
    by_queue false = refl

    by_oks : (b : Bool) → (cond b (begun_on l.link a.count s) s).oks ≡ s.oks ++ cond b (oks_by l.link s.awaited) []
    by_oks true = refl
    by_oks false = nil s.oks
