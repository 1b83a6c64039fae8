-- How the bytes that are no frame yet are kept (AMQP 0-9-1 4.2.3).
use Rattle.std.specs.Prelude.{◌≡◌, ℕ, ◌<◌, ◌≤◌, List, length, drop}
use Rattle.wire_base.specs.declared.scan.Scan.{Scan}
use Rattle.wire_base.specs.declared.scan.Scan.TheVariants.{Whole, More, Bad}

-- the bytes before the payload are apart from those behind them
abbrev pub AreSplit : List ℕ → List ℕ → Type 0
AreSplit head behind = (length head ≤ 7) × (0 < length behind → length head ≡ 7)

-- what a scan found whole is dropped, and else all stays
abbrev pub left_by : {A F : Type 0} → Scan A F → List ℕ → List ℕ
left_by (Whole found n) bytes = drop n bytes
left_by More bytes = bytes
left_by (Bad fault) bytes = bytes
