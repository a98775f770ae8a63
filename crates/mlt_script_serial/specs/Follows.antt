-- What a script asks, and which transcripts follow it.
use Rattle.std.specs.Prelude.{◌≡◌, ◌≤◌, ℕ, List, [], ◌∷◌, ◌++◌, length, Bool, true, false, ◌==◌, slice_index, slice_set, replicate, if◌then◌else◌}
use Rattle.mlt_object_kinds.specs.{declared.account.AccountOp.AccountOp, declared.counter.CounterOp.CounterOp, declared.operation.ObjOp.ObjOp, declared.operation.ObjOp.TheVariants.Account, declared.operation.ObjOp.TheVariants.Counter, declared.operation.ObjOp.TheVariants.Size, declared.operation.ObjReply.ObjReply, Bases.Transcript}
use Rattle.mlt_script.specs.{declared.statement.Asking.Asking, declared.statement.Asking.TheVariants.Fixed, declared.statement.Asking.TheVariants.By, declared.statement.Wanted.Wanted, declared.statement.Source.Source, declared.statement.Statement.Statement, declared.statement.Statement.TheVariants.Ask, declared.statement.Statement.TheVariants.Need, declared.statement.Statement.TheVariants.Let, declared.statement.Ending.Ending, declared.statement.Ending.TheVariants.Commit, declared.statement.Ending.TheVariants.Abort, Blocks.Block, Blocks.Block.Nothing, Blocks.Block.Then, Blocks.Block.If, Amounts.with_amount, Scripts.ScriptForm}
use Rattle.mlt_script_serial.specs.declared.cursor.Next.{Next}
use Rattle.mlt_text_words.specs.Letters.{index_of}

-- What is left of a script: its end, or an operation that it asks and how it goes on at each reply.
pub data Questions : Type 0 where
  Ends : Ending → Questions
  Asks : ObjOp → (ObjReply → Questions) → Questions

-- the values of the variables a to z
abbrev pub Variables : Type 0
Variables = List ℕ

abbrev pub no_values : Variables
no_values = replicate 26 0

-- the operation that is asked
abbrev pub asked : Variables → Asking → ObjOp
asked vs (Fixed op) = op
asked vs (By op l) = with_amount op (slice_index vs (index_of l))

abbrev pub asked_from : Source → ObjOp
asked_from (Source.Balance a) = Account a AccountOp.Balance
asked_from (Source.Read c) = Counter c CounterOp.Read
asked_from (Source.Size s) = Size s

-- whether the two replies are the same one
abbrev pub same_reply : ObjReply → ObjReply → Bool
same_reply ObjReply.Opened ObjReply.Opened = true
same_reply ObjReply.Exists ObjReply.Exists = true
same_reply ObjReply.Closed ObjReply.Closed = true
same_reply ObjReply.NotEmpty ObjReply.NotEmpty = true
same_reply ObjReply.Done ObjReply.Done = true
same_reply ObjReply.Over ObjReply.Over = true
same_reply ObjReply.Short ObjReply.Short = true
same_reply ObjReply.Missing ObjReply.Missing = true
same_reply ObjReply.Added ObjReply.Added = true
same_reply ObjReply.Present ObjReply.Present = true
same_reply ObjReply.Removed ObjReply.Removed = true
same_reply ObjReply.Absent ObjReply.Absent = true
same_reply ObjReply.Yes ObjReply.Yes = true
same_reply ObjReply.No ObjReply.No = true
same_reply (ObjReply.Is v) (ObjReply.Is w) = v == w
same_reply _ _ = false

-- the reply that a script compares with
abbrev pub wanted_reply : Variables → Wanted → ObjReply
wanted_reply vs (Wanted.Reply r) = r
wanted_reply vs (Wanted.ValueOf l) = ObjReply.Is (slice_index vs (index_of l))

abbrev pub is_wanted : Variables → Wanted → ObjReply → Bool
is_wanted vs w r = same_reply r (wanted_reply vs w)

-- the value of a reply, 0 where it is none
abbrev pub value_of : ObjReply → ℕ
value_of (ObjReply.Is v) = v
value_of r = 0

-- What a statement of one line asks.
abbrev pub asked_by : Variables → Statement → ObjOp
asked_by vs (Ask a) = asked vs a
asked_by vs (Need a w) = asked vs a
asked_by vs (Let l s) = asked_from s

-- whether the script goes on at the reply
abbrev pub goes_on : Variables → Statement → ObjReply → Bool
goes_on vs (Ask a) r = true
goes_on vs (Need a w) r = is_wanted vs w r
goes_on vs (Let l s) r = true

-- the variables after it
abbrev pub set_by : Variables → Statement → ObjReply → Variables
set_by vs (Ask a) r = vs
set_by vs (Need a w) r = vs
set_by vs (Let l s) r = slice_set vs (index_of l) (value_of r)

-- What statements ask, and then what comes after them, by cases on the statements.
abbrev pub questions : Block → Variables → (Variables → Questions) → Questions
questions Nothing vs after = after vs
questions (Then s rest) vs after =
    Asks (asked_by vs s) (λ r. if goes_on vs s r then questions rest (set_by vs s r) after else Ends Abort)
questions (If a w first second rest) vs after =
    Asks (asked vs a) (λ r. if is_wanted vs w r
    then questions first vs (λ us. questions rest us after)
    else questions second vs (λ us. questions rest us after))

-- what a script asks, up to its ending
abbrev pub questions_of_script : ScriptForm → Questions
questions_of_script s = questions s.block no_values (λ vs. Ends s.ending)

-- Told the replies of the transcript in turn, these questions are for just its operations, and the others are left.
abbrev pub Reaches : Questions → Transcript → Questions → Type 0
Reaches p [] q = p ≡ q
Reaches (Asks op next) (x ∷ t) q = (x.0 ≡ op) × Reaches (next x.1) t q
Reaches (Ends e) (x ∷ t) q = ⊥

-- Told the replies of the transcript in turn, the script asks for just its operations, and then ends so.
abbrev pub Follows : ScriptForm → Transcript → Ending → Type 0
Follows s t end = Reaches (questions_of_script s) t (Ends end)

-- The transcript is the front of one that follows the script.
abbrev pub IsPartial : ScriptForm → Transcript → Type 0
IsPartial s t = (more : Transcript) × (end : Ending) × Follows s (t ++ more) end

-- Whatever they are told, these questions ask at most so many operations.
abbrev pub AsksAtMost : ℕ → Questions → Type 0
AsksAtMost most p = (t : Transcript) (q : Questions) → Reaches p t q → length t ≤ most

-- what comes next of these questions: the operation that they ask, or their ending
abbrev pub IsNext : Next → Questions → Type 0
IsNext (Next.Op o) (Asks op after) = o ≡ op
IsNext Next.Commit (Ends e) = e ≡ Commit
IsNext Next.Abort (Ends e) = e ≡ Abort
IsNext n p = ⊥

-- these questions ask an operation: they are not at their end
abbrev pub IsAsking : Questions → Type 0
IsAsking (Asks op after) = Unit {0}
IsAsking (Ends e) = ⊥

-- what is left of these questions once they were told a reply
abbrev pub answered : Questions → ObjReply → Questions
answered (Asks op after) r = after r
answered (Ends e) r = Ends e
