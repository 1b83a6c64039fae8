-- How histories grow: by calls, by marks between them, and one after the other.
use Rattle.std.proofs.Common.{◌≡◌, List, [], ◌∷◌, ◌++◌, Option, None, Some, sym, ap, ◌∙◌}
use Rattle.gate_outside.specs.declared.log.LogEntry.{LogEntry}
use Rattle.gate_outside.specs.History.{Tells}
use Rattle.gate_runs.specs.Marks.{Mark, History, Call, calls, Extends, HasHistory}

-- one call
pub extends_call : (a b : Option (List LogEntry)) (entry : LogEntry) (R : History → History → Type 0) → Tells a b entry
    → ((m : History) → R m (Call entry ∷ m)) → Extends a b R
extends_call a None entry R t r = tt
extends_call None (Some new) entry R t r = absurd t
extends_call (Some old) (Some new) entry R t r =
    λ m base e. (Call entry ∷ m, t ∙ ap (λ (log : List LogEntry). entry ∷ log) e, r m)

-- no call
pub extends_none : (a : Option (List LogEntry)) (R : History → History → Type 0) → ((m : History) → R m m) → Extends a a R
extends_none None R r = tt
extends_none (Some log) R r = λ m base e. (m, e, r m)

-- a weaker relation
pub extends_map : (a b : Option (List LogEntry)) (R S : History → History → Type 0) → Extends a b R
    → ((m n : History) → R m n → S m n) → Extends a b S
extends_map a None R S g f = tt
extends_map None (Some new) R S g f = absurd g
extends_map (Some old) (Some new) R S g f = λ m base e. let h = g m base e in (h.0, h.1, f m h.0 h.2)

-- a note behind the calls
pub extends_note : (a b : Option (List LogEntry)) (x : Mark) (R S : History → History → Type 0) → ((m : History) → calls (x ∷ m) ≡ calls m)
    → Extends a b R → ((m n : History) → R m n → S m (x ∷ n)) → Extends a b S
extends_note a None x R S c g f = tt
extends_note None (Some new) x R S c g f = absurd g
extends_note (Some old) (Some new) x R S c g f =
    λ m base e. let h = g m base e in (x ∷ h.0, h.1 ∙ ap (λ (log : List LogEntry). log ++ base) (sym (c h.0)), f m h.0 h.2)

-- one after the other
pub extends_then : (a b d : Option (List LogEntry)) (R S T : History → History → Type 0) → Extends a b R → Extends b d S
    → ((m n k : History) → R m n → S n k → T m k) → Extends a d T
extends_then a b None R S T g h f = tt
extends_then a None (Some new) R S T g h f = absurd h
extends_then None (Some mid) (Some new) R S T g h f = absurd g
extends_then (Some old) (Some mid) (Some new) R S T g h f =
    λ m base e. let x = g m base e in let y = h x.0 base x.1 in (y.0, y.1, f m x.0 y.0 x.2 y.2)

-- from the beginning
pub history_extends : (base : List LogEntry) (a b : Option (List LogEntry)) (R : History → History → Type 0) (P : History → Type 0)
    → Extends a b R → a ≡ Some base → ((n : History) → R [] n → P n) → HasHistory base b P
history_extends base a None R P g e f = tt
history_extends base None (Some new) R P g e f = absurd g
history_extends base (Some old) (Some new) R P g e f =
    let same : old ≡ base = cc in let h = g [] base same in (h.0, h.1, f h.0 h.2)

-- notes behind the calls, which the history says
pub extends_more : (a b : Option (List LogEntry)) (R S : History → History → Type 0) → Extends a b R
    → ((m n : History) → R m n → (k : History) × (calls k ≡ calls n) × S m k) → Extends a b S
extends_more a None R S g f = tt
extends_more None (Some new) R S g f = absurd g
extends_more (Some old) (Some new) R S g f =
    λ m base e. let h = g m base e in let k = f m h.0 h.2 in (k.0, h.1 ∙ ap (λ (log : List LogEntry). log ++ base) (sym k.1), k.2)
