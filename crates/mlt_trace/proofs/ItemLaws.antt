-- What one more item makes of the entries and numbers of a history.
use Rattle.std.proofs.Common.{◌≡◌, ℕ, ◌+◌, List, [], ◌∷◌, ◌++◌, length, refl, sym, subst, ap, ◌∙◌, arith, length-append}
use Rattle.mlt_object_kinds.specs.declared.operation.{ObjOp.ObjOp, ObjReply.ObjReply}
use Rattle.mlt_trace.proofs.Names.{Entry, TraceItem, Begin, Op, Back, Commit, Abort, entries_of, CountsFrom, begun_txs}
use Rattle.mlt_order.specs.Histories.{Lists, no_lists, after_entry, after_entries, lists_of}
use Rattle.mlt_trace.specs.{Entries.entry_of, Numbers.committed_txs, Numbers.commit_numbers, Numbers.begin_count, Numbers.commit_count}

pub entries_of-append : (items later : List TraceItem) → entries_of (items ++ later) ≡ entries_of items ++ entries_of later
entries_of-append [] later = refl
entries_of-append (item ∷ items) later = ap (λ es. entry_of item ∷ es) (entries_of-append items later)

pub commit_numbers-append : (items later : List TraceItem) → commit_numbers (items ++ later) ≡ commit_numbers items ++ commit_numbers later
commit_numbers-append [] later = refl
commit_numbers-append (Commit tx number ∷ items) later = ap (λ ns. number ∷ ns) (commit_numbers-append items later)
commit_numbers-append (Begin tx ∷ items) later = commit_numbers-append items later
commit_numbers-append (Op tx done ∷ items) later = commit_numbers-append items later
commit_numbers-append (Back tx ∷ items) later = commit_numbers-append items later
commit_numbers-append (Abort tx ∷ items) later = commit_numbers-append items later

pub begun_txs-append : (items later : List TraceItem) → begun_txs (items ++ later) ≡ begun_txs items ++ begun_txs later
begun_txs-append [] later = refl
begun_txs-append (Begin tx ∷ items) later = ap (λ ns. tx ∷ ns) (begun_txs-append items later)
begun_txs-append (Commit tx number ∷ items) later = begun_txs-append items later
begun_txs-append (Op tx done ∷ items) later = begun_txs-append items later
begun_txs-append (Back tx ∷ items) later = begun_txs-append items later
begun_txs-append (Abort tx ∷ items) later = begun_txs-append items later

append_nil : (ns : List ℕ) → ns ++ [] ≡ ns
append_nil [] = refl
append_nil (n ∷ ns) = ap (λ z. n ∷ z) (append_nil ns)

-- what counts goes on to count where the next number comes
pub counts_on : (ns : List ℕ) (first next : ℕ) → next ≡ length ns + first → CountsFrom first ns → CountsFrom first (ns ++ next ∷ [])
counts_on [] first next is counts = (is ∙ omega arith, tt)
counts_on (n ∷ ns) first next is counts = (counts.0, counts_on ns (first + 1) next (omega (arith, is)) counts.1)

pub commits_counted : (items : List TraceItem) (tx number : ℕ) → commit_count (items ++ Commit tx number ∷ []) ≡ commit_count items + 1
commits_counted items tx number = ap length (commit_numbers-append items (Commit tx number ∷ [])) ∙ length-append (commit_numbers items) (number ∷ [])

pub commit_keeps_counted : (items : List TraceItem) (tx : ℕ) → CountsFrom 1 (commit_numbers items) → CountsFrom 1 (commit_numbers (items ++ Commit tx (commit_count items + 1) ∷ []))
commit_keeps_counted items tx counted =
    subst (CountsFrom 1) (sym (commit_numbers-append items (Commit tx (commit_count items + 1) ∷ []))) (counts_on (commit_numbers items) 1 (commit_count items + 1) refl counted)

pub no_commit : (items : List TraceItem) (item : TraceItem) → commit_numbers (item ∷ []) ≡ [] → commit_numbers (items ++ item ∷ []) ≡ commit_numbers items
no_commit items item none = commit_numbers-append items (item ∷ []) ∙ ap (λ ns. commit_numbers items ++ ns) none ∙ append_nil (commit_numbers items)

pub begins_counted : (items : List TraceItem) (tx : ℕ) → begin_count (items ++ Begin tx ∷ []) ≡ begin_count items + 1
begins_counted items tx = ap length (begun_txs-append items (Begin tx ∷ [])) ∙ length-append (begun_txs items) (tx ∷ [])

pub begin_keeps_order : (items : List TraceItem) → CountsFrom 1 (begun_txs items) → CountsFrom 1 (begun_txs (items ++ Begin (begin_count items + 1) ∷ []))
begin_keeps_order items counted =
    subst (CountsFrom 1) (sym (begun_txs-append items (Begin (begin_count items + 1) ∷ []))) (counts_on (begun_txs items) 1 (begin_count items + 1) refl counted)

pub no_begin : (items : List TraceItem) (item : TraceItem) → begun_txs (item ∷ []) ≡ [] → begun_txs (items ++ item ∷ []) ≡ begun_txs items
no_begin items item none = begun_txs-append items (item ∷ []) ∙ ap (λ ns. begun_txs items ++ ns) none ∙ append_nil (begun_txs items)

pub committed_txs_counted : (items : List TraceItem) → length (committed_txs items) ≡ commit_count items
committed_txs_counted [] = refl
committed_txs_counted (Commit tx number ∷ items) = let rest = committed_txs_counted items in omega (arith, rest)
committed_txs_counted (Begin tx ∷ items) = committed_txs_counted items
committed_txs_counted (Op tx done ∷ items) = committed_txs_counted items
committed_txs_counted (Back tx ∷ items) = committed_txs_counted items
committed_txs_counted (Abort tx ∷ items) = committed_txs_counted items

pub transcripts_counted_from : (items : List TraceItem) (lists : Lists (ObjOp × ObjReply)) → length (after_entries lists (entries_of items)).committed ≡ length lists.committed + commit_count items
transcripts_counted_from [] lists = omega arith
transcripts_counted_from (Commit tx number ∷ items) lists =
    let rest = transcripts_counted_from items (after_entry lists (Entry.Committed tx)) in
    let one = length-append lists.committed (lists.transcripts tx ∷ []) in
    omega (arith, rest, one)
transcripts_counted_from (Begin tx ∷ items) lists = transcripts_counted_from items (after_entry lists (Entry.Begun tx))
transcripts_counted_from (Op tx done ∷ items) lists = transcripts_counted_from items (after_entry lists (Entry.Did tx done))
transcripts_counted_from (Back tx ∷ items) lists = transcripts_counted_from items (after_entry lists (Entry.TookBack tx))
transcripts_counted_from (Abort tx ∷ items) lists = transcripts_counted_from items (after_entry lists (Entry.Closed tx))

pub transcripts_counted : (items : List TraceItem) → length (lists_of (entries_of items)).committed ≡ commit_count items
transcripts_counted items = transcripts_counted_from items no_lists ∙ omega arith
