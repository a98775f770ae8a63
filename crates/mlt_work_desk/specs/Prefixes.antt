-- What threads have seen of a past that only grows: what a handle knows, the rule, and the kinds of step.
use Rattle.std.specs.Prelude.{◌≡◌, ◌==◌, ◌≤◌, ℕ, List, [], ◌∷◌, ◌++◌, Bool, true, false, count_by, sum_by}
use mathlib.Core.Option.{some}
use lib.ListN.{get_elem?}
use Rattle.mlt_event.specs.declared.{event.Event.Event, told.Told.Told}
use Rattle.mlt_trace.specs.{Numbers.begun_txs, declared.item.TraceItem.TraceItem}
use Rattle.mlt_work_desk.specs.declared.log_handles.{LogView.LogView, Past.Past}

-- these are the first ones of a list
abbrev pub StartsWith : {A : Type 0} → List A → List A → Type 0
StartsWith {A} all first = (rest : List A) × (all ≡ first ++ rest)

-- nothing was done yet
abbrev pub no_past : Past
no_past = record { acts = []; items = [] }

-- after one more event with its answer, where the history has these items
abbrev pub after_act : Past → Event → Told → List TraceItem → Past
after_act past event told items = record { acts = past.acts ++ (event, told) ∷ []; items = items }

-- it has begun with the other one: the acts and the items of that are its first ones
pub record HasBegunWith (past first : Past) : Type 0 where
  pub acts : StartsWith past.acts first.acts
  pub items : StartsWith past.items first.items

-- what a handle knows, by its fields in order
abbrev pub view : Bool → Past → Past → List ℕ → LogView
view writes past taken begun = record { writes = writes; past = past; taken = taken; begun = begun }

-- what the writer knows of this past
abbrev pub writer_view : Past → LogView
writer_view past = view true past no_past []

-- what a snapshot of this past knows that has begun these transactions
abbrev pub snapshot_view : Past → List ℕ → LogView
snapshot_view past begun = view false past no_past begun

-- Of this past, a handle knows the beginning, as does a snapshot that it has taken in. Just one handle is the writer's, and that knows all.
pub record Knows (past : Past) (writer seat : ℕ) (v : LogView) : Type 0 where
  pub first : HasBegunWith past v.past
  pub taken : HasBegunWith past v.taken
  pub all : v.writes ≡ true → (seat ≡ writer) × (v.past ≡ past)

-- how often it stands among these
abbrev pub times : ℕ → List ℕ → ℕ
times tx txs = count_by (λ x. x == tx) txs

-- The rule of all views: there is such a past, and a writer of it; and all handles together have begun no transaction more often than that has.
abbrev pub AreKept : List LogView → Type 0
AreKept views = (past : Past) × (writer : ℕ)
    × ((seat : ℕ) (v : LogView) → get_elem? views seat ≡ some v → Knows past writer seat v)
    × ((tx : ℕ) → sum_by (λ v. times tx v.begun) views ≤ times tx (begun_txs past.items))

-- Table made: the writer knows that nothing was done.
abbrev pub first_view : LogView
first_view = writer_view no_past

-- Handle joined: the writer takes in what a snapshot knows, and what it has begun.
abbrev pub after_join : LogView → LogView → LogView
after_join v w = view v.writes v.past w.past (v.begun ++ w.begun)

-- Handle joined: the one takes in what the other has begun.
abbrev pub after_gathering : LogView → LogView → LogView
after_gathering v w = view v.writes v.past v.taken (v.begun ++ w.begun)

-- The view of the handle that was taken in.
abbrev pub spent_view : LogView
spent_view = snapshot_view no_past []

-- Handle split: what the writer has begun goes to the new one.
abbrev pub without_begun : LogView → LogView
without_begun v = view v.writes v.past v.taken []

-- Word read by the writer: this is the past from now on, with these begins. It had begun with what the writer had taken in.
abbrev pub HasGrown : Past → List ℕ → LogView → LogView → Type 0
HasGrown past begun before after =
    (after ≡ view true past no_past (before.begun ++ begun)) × HasBegunWith before.past before.taken

-- Word read by the writer: what it has taken in has begun no transaction more often than the past has.
abbrev pub HasCounted : LogView → LogView → Type 0
HasCounted before after = (after ≡ writer_view before.past)
    × ((tx : ℕ) → times tx before.begun ≤ times tx (begun_txs before.past.items))
