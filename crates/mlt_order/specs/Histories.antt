-- Histories of transactions: the lists that a history tells of, and which entry may come next.
use Rattle.std.specs.Prelude.{◌≡◌, ◌≢◌, ℕ, List, [], ◌∷◌, ◌++◌, Contains}
use Rattle.mlt_order.specs.{Interleavings.UndoneTo, Runs.IsSerialBase, Runs.RightCommutesBackward, Tables.table_with}

-- What happened to the transaction of a number.
pub data Entry (P : Type 0) : Type 0 where
  -- it began
  Begun : (i : ℕ) → Entry P
  -- it did an item
  Did : (i : ℕ) (item : P) → Entry P
  -- the last of its items that was left was taken back
  TookBack : (i : ℕ) → Entry P
  -- it committed
  Committed : (i : ℕ) → Entry P
  -- it was closed with no item left
  Closed : (i : ℕ) → Entry P

-- How far the transaction of a number has come: not begun, begun and not ended, committed or closed.
pub data Stage : Type 0 where
  Fresh : Stage
  Running : Stage
  Ended : Stage

-- What a history tells of.
pub record Lists (P : Type 0) : Type 0 where
  -- how far each number has come
  pub stage : ℕ → Stage
  -- the transcripts of the transactions that committed, in the order of the commits
  pub committed : List (List P)
  -- of each running transaction its items that were not taken back, in order
  pub transcripts : ℕ → List P
  -- of each running transaction all its items, taken back or not, in order
  pub held : ℕ → List P

-- nothing has begun
abbrev pub no_lists : {P : Type 0} → Lists P
no_lists = record { stage = λ i. Stage.Fresh; committed = []; transcripts = λ i. []; held = λ i. [] }

-- the list without its last item
abbrev pub but_last : {P : Type 0} → List P → List P
but_last [] = []
but_last (x ∷ []) = []
but_last (x ∷ y ∷ ys) = x ∷ but_last (y ∷ ys)

-- the transaction ends, and nothing of it is open or held
abbrev pub ended : {P : Type 0} → Lists P → ℕ → Lists P
ended lists i = record lists {
  stage = table_with lists.stage i Stage.Ended;
  transcripts = table_with lists.transcripts i [];
  held = table_with lists.held i [];
}

-- the lists after one more entry
abbrev pub after_entry : {P : Type 0} → Lists P → Entry P → Lists P
after_entry lists (Begun i) = record lists { stage = table_with lists.stage i Stage.Running }
after_entry lists (Did i item) = record lists {
  transcripts = table_with lists.transcripts i (lists.transcripts i ++ item ∷ []);
  held = table_with lists.held i (lists.held i ++ item ∷ []);
}
after_entry lists (TookBack i) = record lists { transcripts = table_with lists.transcripts i (but_last (lists.transcripts i)) }
after_entry lists (Committed i) = record (ended lists i) { committed = lists.committed ++ lists.transcripts i ∷ [] }
after_entry lists (Closed i) = ended lists i

-- the lists after more entries
abbrev pub after_entries : {P : Type 0} → Lists P → List (Entry P) → Lists P
after_entries lists [] = lists
after_entries lists (entry ∷ entries) = after_entries (after_entry lists entry) entries

-- the lists that a history tells of
abbrev pub lists_of : {P : Type 0} → List (Entry P) → Lists P
lists_of history = after_entries no_lists history

-- the items that were done, each with its number, in order
abbrev pub items_done : {P : Type 0} → List (Entry P) → List (ℕ × P)
items_done [] = []
items_done (Did i item ∷ entries) = (i, item) ∷ items_done entries
items_done (_ ∷ entries) = items_done entries

-- the item right commutes backward with each item that the transaction of another number holds
abbrev pub CommutesWithOthers : {S P : Type 0} → (S → P → S → Type 0) → (ℕ → List P) → ℕ → P → Type 0
CommutesWithOthers {S} {P} step held i item =
    (j : ℕ) (earlier : P) → j ≢ i → Contains (held j) earlier → RightCommutesBackward step earlier item

-- An entry may come, and leads from one state to another: who begins has not begun; who does an
-- item, commits or is closed is running; an item right commutes backward with all that others hold;
-- what is taken back was the last; and who is closed has no item left.
abbrev pub MayCome : {S P : Type 0} → (S → P → S → Type 0) → Lists P → S → Entry P → S → Type 0
-- a number is given out once
MayCome step lists before (Begun i) after = (lists.stage i ≡ Stage.Fresh) × (before ≡ after)
-- an item is done by a running transaction, past all that others hold
MayCome step lists before (Did i item) after =
    (lists.stage i ≡ Stage.Running) × CommutesWithOthers step lists.held i item × step before item after
-- the last item is taken back, and the state is one from which it leads here
MayCome {S} {P} step lists before (TookBack i) after =
    (rest : List P) × (last : P) × (lists.transcripts i ≡ rest ++ last ∷ []) × step after last before
MayCome step lists before (Committed i) after = (lists.stage i ≡ Stage.Running) × (before ≡ after)
-- what is closed has no item left
MayCome step lists before (Closed i) after =
    (lists.stage i ≡ Stage.Running) × (lists.transcripts i ≡ []) × (before ≡ after)

-- the entries may come one after another, from these lists and this state to that state
abbrev pub MayFollow : {S P : Type 0} → (S → P → S → Type 0) → Lists P → S → List (Entry P) → S → Type 0
MayFollow step lists before [] after = before ≡ after
MayFollow {S} step lists before (entry ∷ entries) after =
    (next : S) × MayCome step lists before entry next × MayFollow step (after_entry lists entry) next entries after

-- a history of transactions that leads from the start, where nothing has begun, to the state
abbrev pub IsHistory : {S P : Type 0} → (S → P → S → Type 0) → S → List (Entry P) → S → Type 0
IsHistory step start history state = MayFollow step no_lists start history state

-- The committed transcripts, run one after another in the order of the commits, lead from the start to a base; and with
-- the transcripts of running transactions undone, that base is left of the state.
abbrev pub IsCommitOrderSerializable : {S P : Type 0} → (S → P → S → Type 0) → S → Lists P → S → Type 0
IsCommitOrderSerializable {S} step start lists state =
    (base : S) × IsSerialBase step start lists.committed base × UndoneTo step base lists.transcripts state
