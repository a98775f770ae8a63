-- Numbers that handles draw from a counter, each once and none left out: what a handle knows, the rule, and the kinds of step.
use Rattle.std.specs.Prelude.{◌≡◌, ℕ, ◌+◌, ◌-◌, ◌^◌, ◌<◌, ◌≤◌, ◌⊎◌, List, [], ◌∷◌, ◌++◌, length, slice_index, nat_lt, ◌==◌, if◌then◌else◌}
use mathlib.Core.Option.{some}
use lib.ListN.{get_elem?}
use Rattle.mlt_work.specs.declared.claim_handles.ClaimView.{ClaimView}

-- what a handle knows, by its fields in order
abbrev pub view : ℕ → ℕ → ℕ → List ℕ → ClaimView
view parts overruns clients drawn = record { parts = parts; overruns = overruns; clients = clients; drawn = drawn }

-- how often the number stands in the list
abbrev pub times : ℕ → List ℕ → ℕ
times number [] = 0
times number (x ∷ xs) = (if x == number then 1 else 0) + times number xs

-- 1 for a number below the word, else 0
abbrev pub once_below : ℕ → ℕ → ℕ
once_below number word = if nat_lt number word then 1 else 0

-- the list has just the numbers below the word, each once
abbrev pub AreAllBelow : ℕ → List ℕ → Type 0
AreAllBelow word drawn = (number : ℕ) → times number drawn ≡ once_below number word

-- a number of each view, added up
abbrev pub total : (ClaimView → ℕ) → List ClaimView → ℕ
total of_view [] = 0
total of_view (v ∷ vs) = of_view v + total of_view vs

-- the parts of a handle
abbrev pub parts_of : ClaimView → ℕ
parts_of v = v.parts

-- how many numbers past the last client a handle may draw
abbrev pub overruns_of : ClaimView → ℕ
overruns_of v = v.overruns

-- how often the handle drew the number
abbrev pub times_of : ℕ → ClaimView → ℕ
times_of number v = times number v.drawn

-- a spent view drew nothing, and every other one knows the number of clients
pub record IsClaimView (clients : ℕ) (v : ClaimView) : Type 0 where
  pub spent : v.parts ≡ 0 → v.drawn ≡ []
  pub known : 0 < v.parts → v.clients ≡ clients

-- The rule. All handles together drew each number below the word just once, and no other number. Together they have the nine
-- parts of the whole. Numbers past the last client are at most as many as handles were split off, so at most eight.
pub record IsClaimed (clients word : ℕ) (views : List ClaimView) : Type 0 where
  pub few : clients < 2 ^ 63
  pub parts : total parts_of views ≡ 9
  pub overruns : total overruns_of views ≤ 8
  pub bound : (word ≤ clients) ⊎ (word + total overruns_of views ≤ clients + 8)
  pub drawn : (number : ℕ) → total (times_of number) views ≡ once_below number word
  pub each : (seat : ℕ) (v : ClaimView) → get_elem? views seat ≡ some v → IsClaimView clients v

-- the rule of the one word and of all views
abbrev pub IsKept : ℕ → List ℕ → List ClaimView → Type 0
IsKept clients words views = (length words ≡ 1) × IsClaimed clients (slice_index words 0) views

-- Table made: the word is 0. The first handle has all parts, may be split eight times and drew nothing.
abbrev pub first_view : ℕ → ClaimView
first_view clients = view 9 8 clients []

-- Handle split: the first handle's count of splits rises, so it has one part and one overrun less.
abbrev pub after_split : ClaimView → ClaimView
after_split v = view (v.parts - 1) (v.overruns - 1) v.clients v.drawn

-- The handle split off drew nothing. It may draw one number past the last client.
abbrev pub new_view : ℕ → ClaimView
new_view clients = view 1 1 clients []

-- Word raised by one: the handle drew the old word. Past the last client it draws no more.
abbrev pub after_draw : ClaimView → ℕ → ClaimView
after_draw v word = view v.parts (if nat_lt word v.clients then v.overruns else v.overruns - 1) v.clients (v.drawn ++ word ∷ [])

-- Handle joined: the first handle takes in the part and the numbers of the other.
abbrev pub after_join : ClaimView → ClaimView → ClaimView
after_join v w = view (v.parts + w.parts) v.overruns v.clients (v.drawn ++ w.drawn)

-- The view of the handle that was taken in.
abbrev pub spent_view : ClaimView
spent_view = view 0 0 0 []

-- Table closed: the handle that has all parts drew just the numbers below the word.
abbrev pub HasAll : ClaimView → Type 0
HasAll v = v.parts ≡ 9
