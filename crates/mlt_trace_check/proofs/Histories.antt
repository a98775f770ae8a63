-- A history passes the checker.
use Rattle.std.proofs.Common.{◌≡◌, ◌≢◌, ℕ, List, [], refl, sym, subst}
use Rattle.mlt_object_kinds.{specs.Bases.Base, specs.Bases.Step, specs.Bases.empty_base, proofs.BaseLaws.base_one_start}
use Rattle.mlt_order.{specs.Histories.IsCommitOrderSerializable, specs.Histories.IsHistory, specs.Histories.Stage.Running, specs.Interleavings.UndoneTo, specs.Runs.IsInjective, specs.Runs.IsSerialBase, proofs.Keeping.kept_by_history}
use Rattle.mlt_trace.specs.{declared.item.TraceItem.TraceItem, Items.trace_text, Entries.entries_of, Numbers.committed_txs}
use Rattle.mlt_trace_check.{specs.Traces.ArePlaced, specs.Traces.IsAcceptedTrace, specs.Traces.told, proofs.Fronts.base_functional, specs.Writable.AreWritable, proofs.Lines.lines_say_items}

pub accepted : (items : List TraceItem) (base : Base) → AreWritable items → ArePlaced items → IsSerialBase Step empty_base (told items).committed base
    → IsAcceptedTrace (trace_text items) (committed_txs items) base
accepted items base writable placed serial = (items, record { said = lines_say_items items writable; placed = placed; serial = serial }, refl)

base_injective : IsInjective Step
base_injective one other after item h k = base_one_start one other after item.0 item.1 h k

-- the committed transcripts of a history lead to a base, and that is left when the open ones are undone
pub serializable : (items : List TraceItem) (state : Base) → IsHistory Step empty_base (entries_of items) state → IsCommitOrderSerializable Step empty_base (told items) state
serializable items state h = (kept_by_history Step empty_base base_functional base_injective (entries_of items) state h).serializable

abbrev AcceptedWithOpen : List TraceItem → Base → Type 0
AcceptedWithOpen items state = (base : Base) × IsAcceptedTrace (trace_text items) (committed_txs items) base × UndoneTo Step base (told items).transcripts state

pub accepted_history : (items : List TraceItem) (state : Base) → AreWritable items → ArePlaced items → IsHistory Step empty_base (entries_of items) state → AcceptedWithOpen items state
accepted_history items state writable placed h =
    let base = serializable items state h in
    (base.0, accepted items base.0 writable placed base.1, base.2)

pub accepted_where_nothing_is_open : (items : List TraceItem) (state : Base) → AreWritable items → ArePlaced items → IsHistory Step empty_base (entries_of items) state
    → ((tx : ℕ) → (told items).transcripts tx ≡ []) → IsAcceptedTrace (trace_text items) (committed_txs items) state
accepted_where_nothing_is_open items state writable placed h none =
    let base = serializable items state h in
    let same : base.0 ≡ state = base.2 [] (λ tx. sym (none tx)) in
    accepted items state writable placed (subst (IsSerialBase Step empty_base (told items).committed) same base.1)

-- of a transaction that does not run nothing is open
pub nothing_of_others : (items : List TraceItem) (state : Base) → IsHistory Step empty_base (entries_of items) state → (tx : ℕ) → (told items).stage tx ≢ Running → (told items).transcripts tx ≡ []
nothing_of_others items state h tx apart = let none = (kept_by_history Step empty_base base_functional base_injective (entries_of items) state h).only tx apart in none.0
