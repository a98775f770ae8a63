-- What items do to the operations that stand, and who else has such on their keys.
use Rattle.std.proofs.Common.{◌≡◌, ℕ, Option, Some, None, Contains, sym, ◌∙◌}
use Rattle.mlt_tx_meaning.proofs.Names.{both_ways, IsInRange, key_number, Cell, ObjOp, ObjReply, Transcript, cell_of, Gains, Ledger, NoOtherLast, last_by, Appends, Presence, Standing, last_of, op_key, presence_of, standing_of, MayDo, PagesMeanHistory, AbstractState, ledger_of, lists_in}
use Rattle.mlt_object_base.proofs.Meanings.{same_cell}
use Rattle.mlt_tx_meaning.proofs.{Matches.lists_kept, Opposites.opposites_clash, Replies.IsCount, Replies.count_says_nothing, Transcripts.gains_none, Transcripts.gains_presence, Transcripts.last_from}

-- one item more of transaction tx makes of what stands what it did to its key's presence
abbrev pub Says : Option Presence → Standing → Standing → ℕ → ℕ → Type 0
Says (Some p) before after tx key = Appends before after tx key p
Says None before after tx key = after ≡ before

pub gain_says : (before after : ℕ → Transcript) (tx : ℕ) (item : ObjOp × ObjReply) → Gains before after tx item → (o : Option Presence) → presence_of item ≡ o
    → Says o (standing_of before) (standing_of after) tx (op_key item.0)
gain_says before after tx item gains (Some p) is = gains_presence before after tx item gains p is
gain_says before after tx item gains None is = gains_none before after tx item gains is

-- no other transaction's last operation on the key is another one
abbrev pub IsUnopposed : Option Presence → Ledger → ℕ → ℕ → Type 0
IsUnopposed (Some p) ledger tx key = (q : Presence) → (q ≡ p → ⊥) → NoOtherLast ledger tx key q
IsUnopposed None ledger tx key = Unit {0}

module _ (state : AbstractState) (h : PagesMeanHistory state) where
  -- what stands last of a key was done by an open item, on the key's cell
  stands_by_item : (cell : Cell) → IsInRange cell → (owner : ℕ) (p : Presence) → last_by (ledger_of state) owner (key_number cell) ≡ Some p
      → (item : ObjOp × ObjReply) × Contains ((lists_in state).held owner) item × (cell_of item.0 ≡ cell) × (presence_of item ≡ Some p)
  stands_by_item cell is owner p last =
      let from = last_from (key_number cell) ((lists_in state).transcripts owner) p last in
      let held = (lists_kept state h).covers owner from.0 from.1 in
      (from.0, held, same_cell (cell_of from.0.0) cell (h.records.in_range owner from.0 held) is from.2, from.3)

  -- a transaction that may do an item meets no opposite one
  pub may_do_unopposed : (tx : ℕ) (item : ObjOp × ObjReply) → MayDo state tx item → (o : Option Presence) → presence_of item ≡ o → IsUnopposed o (ledger_of state) tx (op_key item.0)
  may_do_unopposed tx item may None is = tt
  may_do_unopposed tx item may (Some p) is = λ q differ other is_open others last.
      let by = stands_by_item (cell_of item.0) may.in_range.cell other q last in
      both_ways _ (may.free other by.0 others by.1) (opposites_clash by.0 item q p by.2 by.3 is differ)

-- of a count's key nothing stands, where what was done is on cells that there can be
pub nothing_on_counts : (transcripts : ℕ → Transcript) → ((i : ℕ) (item : ObjOp × ObjReply) → Contains (transcripts i) item → IsInRange (cell_of item.0))
    → (cell : Cell) → IsCount cell → IsInRange cell → (owner : ℕ) (p : Presence) → last_of (standing_of transcripts owner (key_number cell)) ≡ Some p → ⊥
nothing_on_counts transcripts in_range cell on is owner p last =
    let from = last_from (key_number cell) (transcripts owner) p last in
    let same = same_cell (cell_of from.0.0) cell (in_range owner from.0 from.1) is from.2 in
    let says : Some p ≡ None = sym from.3 ∙ count_says_nothing from.0 cell same on in
    cc says
