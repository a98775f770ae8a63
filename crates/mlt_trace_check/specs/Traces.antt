-- Which traces are accepted, and where the first fault of any other text stands.
use Rattle.std.specs.Prelude.{◌≡◌, ◌≢◌, ℕ, ◌+◌, ◌<◌, List, [], ◌∷◌, ◌++◌, length, map, Contains}
use Rattle.mlt_types.specs.declared.refusal.TraceCause.{TraceCause}
use Rattle.mlt_object_kinds.specs.{declared.operation.ObjOp.ObjOp, declared.operation.ObjReply.ObjReply, Bases.Base, Bases.Step, Bases.empty_base}
use Rattle.mlt_order.specs.{Histories.Lists, Histories.lists_of, Histories.Stage.Running, Runs.IsSerialBase, Runs.Runs}
use Rattle.mlt_text_words.specs.Lines.{Raw, lines}
use Rattle.mlt_trace.specs.{declared.item.TraceItem.TraceItem, Entries.entries_of, Numbers.begun_txs, Numbers.commit_count, Numbers.committed_txs}
use Rattle.mlt_trace.specs.declared.item.TraceItem.TheVariants.{Begin, Op, Back, Commit, Abort}
use Rattle.mlt_trace_check.specs.{declared.reading.TraceReading.TheVariants.Bad, declared.reading.TraceReading.TheVariants.Says, Readings.reading}

-- what the items tell of: who is running, and what was done, taken back and committed
abbrev pub told : List TraceItem → Lists (ObjOp × ObjReply)
told items = lists_of (entries_of items)

abbrev pub IsRunning : List TraceItem → ℕ → Type 0
IsRunning items tx = (told items).stage tx ≡ Running

-- no operation of the transaction was taken back
abbrev pub IsWhole : List TraceItem → ℕ → Type 0
IsWhole items tx = Contains items (Back tx) → ⊥

-- The item may stand behind these items: a begin is of a number above all begun before; who does
-- anything else is running; who does an operation or commits has taken nothing back; something is
-- left to take back, and nothing at an abort; and commits are counted from 1.
abbrev pub HasPlace : List TraceItem → TraceItem → Type 0
HasPlace items (Begin tx) = (other : ℕ) → Contains (begun_txs items) other → other < tx
HasPlace items (Op tx done) = IsRunning items tx × IsWhole items tx
HasPlace items (Back tx) = IsRunning items tx × ((told items).transcripts tx ≢ [])
HasPlace items (Commit tx number) = IsRunning items tx × IsWhole items tx × (number ≡ commit_count items + 1)
HasPlace items (Abort tx) = IsRunning items tx × ((told items).transcripts tx ≡ [])

-- each item may stand where it stands
abbrev pub ArePlaced : List TraceItem → Type 0
ArePlaced items = (before later : List TraceItem) (item : TraceItem) → items ≡ before ++ item ∷ later → HasPlace before item

-- The lines say these items, each in its place, and the committed transcripts, in the order of the commits, lead from
-- the empty base to this one.
pub record IsTrace (raws : List Raw) (items : List TraceItem) (base : Base) : Type 0 where
  pub said : map reading raws ≡ map Says items
  pub placed : ArePlaced items
  pub serial : IsSerialBase Step empty_base (told items).committed base

-- The text is a trace with this committed order and this base: each line is an item, each item has
-- its place, and the committed transcripts lead to the base.
abbrev pub IsAcceptedTrace : List ℕ → List ℕ → Base → Type 0
IsAcceptedTrace text txs base = (items : List TraceItem) × IsTrace (lines text) items base × (txs ≡ committed_txs items)

-- Of the operations of the transaction, the one at this line is the first that is not legal: those before it lead from
-- the base to one where it, with its reply, leads nowhere.
abbrev pub HasFalseReply : List TraceItem → Base → ℕ → ℕ → Type 0
HasFalseReply items base tx line =
    (upto : List TraceItem) × (later : List TraceItem) × (done : ObjOp × ObjReply) × (rest : List (ObjOp × ObjReply)) × (middle : Base)
    × (items ≡ upto ++ Op tx done ∷ later) × (line ≡ length upto + 1)
    × ((told items).transcripts tx ≡ (told upto).transcripts tx ++ done ∷ rest)
    × Runs Step base ((told upto).transcripts tx) middle
    × ((after : Base) → Step middle done after → ⊥)

-- behind these items, of which the commits lead to the base, the item has this fault, which names this line
abbrev pub IsItemFault : List TraceItem → Base → TraceItem → ℕ → TraceCause → Type 0
IsItemFault items base item line TraceCause.Place = (HasPlace items item → ⊥) × (line ≡ length items + 1)
IsItemFault items base item line TraceCause.Reply =
    (tx : ℕ) × (number : ℕ) × (item ≡ Commit tx number) × HasPlace items item × HasFalseReply items base tx line
IsItemFault items base item line other = ⊥

-- the line has this fault behind these items
abbrev pub IsLineFault : List TraceItem → Base → Raw → ℕ → TraceCause → Type 0
IsLineFault items base raw line TraceCause.Line = (reading raw ≡ Bad TraceCause.Line) × (line ≡ length items + 1)
IsLineFault items base raw line TraceCause.Cut = (reading raw ≡ Bad TraceCause.Cut) × (line ≡ length items + 1)
IsLineFault items base raw line TraceCause.Words = (reading raw ≡ Bad TraceCause.Words) × (line ≡ length items + 1)
IsLineFault items base raw line fault = (item : TraceItem) × (reading raw ≡ Says item) × IsItemFault items base item line fault

-- the lines before the faulty one are a trace
abbrev pub IsFirstFaultOf : List Raw → ℕ → TraceCause → Type 0
IsFirstFaultOf raws line fault =
    (before : List Raw) × (raw : Raw) × (after : List Raw) × (items : List TraceItem) × (base : Base)
    × (raws ≡ before ++ raw ∷ after) × IsTrace before items base × IsLineFault items base raw line fault

-- the first line at which a text stops being an accepted trace, counted from 1, and the first cause
-- there
abbrev pub IsFirstFault : List ℕ → ℕ → TraceCause → Type 0
IsFirstFault text line fault = IsFirstFaultOf (lines text) line fault
