-- Which transactions wait for which.
use Rattle.std.specs.Prelude.{ℕ, ◌≡◌, ◌==◌, ◌<◌, ◌⊎◌, ◌&&◌, nat_lt, Bool, true, false, not, List, [], ◌∷◌, ◌++◌, length, map, find, Option, None, Some, is_none, filter, option_map}
use Rattle.std.specs.Option.{option_or}
use Rattle.mlt_work_waits.specs.declared.wait.{Awaited.Awaited, Waker.Waker, Waiting.Waiting, Whose.Whose}

-- who waits for a lock of an object, and who for a lock of a page
pub record Waits : Type 0 where
  pub objects : List Waiting
  pub pages : List Waiting

abbrev pub nobody_waits : Waits
nobody_waits = record { objects = []; pages = [] }

abbrev pub waits_of : Awaited → Waits → List Waiting
waits_of Awaited.Objects waits = waits.objects
waits_of Awaited.Pages waits = waits.pages

-- one more waits for such a lock
abbrev pub joined : Awaited → Waiting → Waits → Waits
joined Awaited.Objects wait waits = record waits { objects = waits.objects ++ wait ∷ [] }
joined Awaited.Pages wait waits = record waits { pages = waits.pages ++ wait ∷ [] }

-- the wait is one of these
abbrev pub is_for : Whose → Waiting → Bool
is_for (Whose.One tx) wait = wait.holder == tx
is_for (Whose.Turn tx) wait = wait.holder == tx && is_none wait.timestamp
is_for (Whose.Of tx) wait = wait.waiter == tx
is_for Whose.All wait = true

-- who has the one timestamp is younger than who has the other: without one it waits for its turn alone
abbrev pub is_later : Option ℕ → Option ℕ → Bool
is_later (Some own) (Some other) = nat_lt other own
is_later None (Some other) = true
is_later own None = false

-- the wait is younger than the other
abbrev pub is_younger : Waiting → Waiting → Bool
is_younger wait other = is_later wait.timestamp other.timestamp

-- the other waits
abbrev pub others_in : Whose → List Waiting → List Waiting
others_in given waits = filter (λ wait. not (is_for given wait)) waits

-- the wakers of these waits, in their order
abbrev pub wakers_in : Whose → List Waiting → List Waker
wakers_in given waits = map (λ wait. wait.waker) (filter (is_for given) waits)

-- these waits for such locks end
abbrev pub released : Awaited → Whose → Waits → Waits
released Awaited.Objects given waits = record waits { objects = others_in given waits.objects }
released Awaited.Pages given waits = record waits { pages = others_in given waits.pages }

-- one of these is a wait of x for y
abbrev pub IsAmong : List Waiting → ℕ → ℕ → Type 0
IsAmong [] x y = ⊥
IsAmong (wait ∷ more) x y = ((wait.waiter ≡ x) × (wait.holder ≡ y)) ⊎ IsAmong more x y

-- x waits for a lock of y
abbrev pub IsFor : Waits → ℕ → ℕ → Type 0
IsFor waits x y = IsAmong waits.objects x y ⊎ IsAmong waits.pages x y

-- the first wait of x
abbrev pub wait_in : List Waiting → ℕ → Option Waiting
wait_in waits x = find (λ wait. wait.waiter == x) waits

-- for whom x waits, by the first of its waits
abbrev pub holder_in : List Waiting → ℕ → Option ℕ
holder_in waits x = option_map (λ wait. wait.holder) (wait_in waits x)

abbrev pub holder_of : Waits → ℕ → Option ℕ
holder_of waits x = option_or (holder_in waits.objects x) (holder_in waits.pages x)

-- the waits for objects alone
abbrev pub for_objects : Waits → Waits
for_objects waits = record waits { pages = [] }

-- x waits for the first of these, each for the next, and the last for y; where there is none, x is y
abbrev pub LeadsBy : Waits → ℕ → List ℕ → ℕ → Type 0
LeadsBy waits x [] y = x ≡ y
LeadsBy waits x (next ∷ more) y = IsFor waits x next × LeadsBy waits next more y

-- waits lead from x to y
abbrev pub LeadsTo : Waits → ℕ → ℕ → Type 0
LeadsTo waits x y = (path : List ℕ) × LeadsBy waits x path y

-- x waits for nobody
abbrev pub IsAwake : Waits → ℕ → Type 0
IsAwake waits x = (y : ℕ) → IsFor waits x y → ⊥

-- from each the waits lead to one that waits for nobody
abbrev pub LeadToAwake : Waits → Type 0
LeadToAwake waits = (x : ℕ) → (y : ℕ) × LeadsTo waits x y × IsAwake waits y

-- nobody waits for two
abbrev pub IsFunctional : Waits → Type 0
IsFunctional waits = (x y z : ℕ) → IsFor waits x y → IsFor waits x z → y ≡ z

-- Nobody waits for two, and whom somebody waits for never waits for it, be it by way of others.
pub record IsAcyclic (waits : Waits) : Type 0 where
  pub functional : IsFunctional waits
  pub no_cycle : (x y : ℕ) → IsFor waits x y → LeadsTo waits y x → ⊥

-- One more wait finds room, is the first of its transaction, and closes no cycle.
pub record CanJoin (awaited : Awaited) (wait : Waiting) (waits : Waits) : Type 0 where
  pub room : length (waits_of awaited waits) < 64
  pub first : IsAwake waits wait.waiter
  pub open_end : LeadsTo waits wait.holder wait.waiter → ⊥

-- there is no room for one more wait, or it waits already, or the wait would close a cycle
abbrev pub CantJoin : Awaited → Waiting → Waits → Type 0
CantJoin awaited wait waits =
    (length (waits_of awaited waits) ≡ 64)
    ⊎ (((y : ℕ) × IsFor waits wait.waiter y)
    ⊎ LeadsTo waits wait.holder wait.waiter)

-- the wait would close a cycle with waits for objects alone
abbrev pub Deadlocks : Waiting → Waits → Type 0
Deadlocks wait waits = LeadsTo (for_objects waits) wait.holder wait.waiter

-- The wait, for an object, stands on the way from x to y.
pub record IsOnWay (waits : Waits) (x y : ℕ) (wait : Waiting) : Type 0 where
  pub stands : wait_in waits.objects wait.waiter ≡ Some wait
  pub before : LeadsTo (for_objects waits) x wait.waiter
  pub behind : LeadsTo (for_objects waits) wait.holder y

-- one is the wait itself, or stands on the way that leads back to it
abbrev pub IsOfCycle : Waiting → Waits → Waiting → Type 0
IsOfCycle wait waits one = (one ≡ wait) ⊎ IsOnWay waits wait.holder wait.waiter one

-- The wait would close a cycle, of which none is younger than this one.
pub record IsYoungest (wait : Waiting) (waits : Waits) (one : Waiting) : Type 0 where
  pub closes : Deadlocks wait waits
  pub of_cycle : IsOfCycle wait waits one
  pub youngest : (other : Waiting) → IsOfCycle wait waits other → is_younger other one ≡ false
