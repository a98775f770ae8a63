-- What the options of a server are made of.
use Rattle.std.specs.Prelude.{◌≡◌, ◌<◌, ◌-◌, ◌*◌, ◌^◌, ℕ, Option, None, Some}
use Rattle.std.specs.{Duration.as_nanos, declared.time.Duration.Duration}
use Rattle.mlt_types.specs.declared.limits.Limits.{Limits}
use Rattle.mlt_cli.specs.declared.words.Connections.{Connections}

-- a time of so many seconds, and none of 0
abbrev pub IsTimeOf : ℕ → Option Duration → Type 0
IsTimeOf count time = (count ≡ 0 → time ≡ None)
    × (0 < count → (duration : Duration) × (time ≡ Some duration)
    × (as_nanos duration ≡ count * 1000000000))

-- the limits of every server, with so many numbers of transactions
pub record HasNumbers (limits : Limits) (count : ℕ) : Type 0 where
  pub numbers : limits.max_ids ≡ count
  pub transactions : limits.max_open ≡ 64
  pub pages : limits.max_pages ≡ 70000
  pub depth : limits.max_depth ≡ 16
  pub ops : limits.max_ops ≡ 1024

-- A server of so many connections has 2 ^ 32 numbers of transactions; one without an end has the most of both.
abbrev pub AreLimitsOf : Connections → Limits → ℕ → Type 0
AreLimitsOf (Connections.Limit limit) limits connections = HasNumbers limits (2 ^ 32) × (connections ≡ limit)
AreLimitsOf (Connections.Endless _) limits connections = HasNumbers limits (2 ^ 63 - 1) × (connections ≡ 2 ^ 63 - 1)
