-- What all pairs of a run share.
use Rattle.std.specs.Prelude.{◌≡◌, ℕ, ◌≤◌, Bool, false, IsTrue, List, [], ◌∷◌, length, Option}
use Rattle.std.specs.Prelude.{IfSome, bytes_eq, find}
use Rattle.std.specs.Option.{option_map}
use Rattle.std.specs.Char.{is_ascii}
use Rattle.std.specs.List.{list_all, list_any, AllByRecursion}
use Rattle.gate_model.specs.declared.setup.Route.{Route}
use Rattle.std.specs.Str.{is_utf8}

pub record SetupText : Type 0 where
  -- the name by which containers know the gateway
  pub name : List ℕ
  -- the host that they are asked for
  pub host : Option (List ℕ)
  -- the virtual host that clients may open
  pub vhost : List ℕ
  -- the exchanges that they may publish to, besides the default one
  pub routes : List Route

-- what clients may open and publish to
pub record SiteText : Type 0 where
  pub vhost : List ℕ
  pub routes : List Route

abbrev pub site_of : SetupText → SiteText
site_of s = record { vhost = s.vhost; routes = s.routes }

abbrev pub is_named : List ℕ → Route → Bool
is_named name r = bytes_eq r.exchange name

-- the address that an exchange stands for
abbrev pub route_to : List Route → List ℕ → Option (List ℕ)
route_to routes name = option_map (λ r. r.address) (find (is_named name) routes)

-- the name is ASCII and has at most 100 bytes
pub record IsName (name : List ℕ) : Type 0 where
  pub ascii : IsTrue (list_all is_ascii name)
  pub short : length name ≤ 100

-- a host is UTF-8 and has at most 200 bytes
pub record IsHost (host : List ℕ) : Type 0 where
  pub utf8 : IsTrue (is_utf8 host)
  pub short : length host ≤ 200

-- an exchange and an address have a name of 1 to 255 bytes
pub record IsRoute (r : Route) : Type 0 where
  pub named : 1 ≤ length r.exchange
  pub short : length r.exchange ≤ 255
  pub addressed : 1 ≤ length r.address
  pub brief : length r.address ≤ 255

-- and no exchange is named twice
abbrev pub AreApart : List Route → Type 0
AreApart [] = Unit {0}
AreApart (r ∷ rs) = (list_any (is_named r.exchange) rs ≡ false) × AreApart rs

pub record AreRoutes (rs : List Route) : Type 0 where
  pub each : AllByRecursion IsRoute rs
  pub apart : AreApart rs

pub record IsInForm (s : SetupText) : Type 0 where
  pub name : IsName s.name
  pub host : IfSome s.host IsHost
  pub vhost : length s.vhost ≤ 255
  pub routes : AreRoutes s.routes
