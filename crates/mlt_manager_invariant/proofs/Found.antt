-- What an operation that is told its reply has found, and leaves of the clean pages
use Rattle.std.proofs.Common.{◌≡◌, ℕ, None, Option, Some, refl, sym, ap, subst, ◌∙◌, nat_cmp}
use Rattle.std.specs.FinMap as map
use Rattle.mlt_manager_invariant.proofs.Names.{none-some, IsInRange, Mode, Page, ObjOp, ObjReply, cell_of, RecChange, Request, Do, changes_on, own_change_on, decision, size_key_of, target_of, Agrees, View, HasRead, Stands, WalkFields, Phase, leaves_as_told, IsTold, LeavesAsTold, Performs, TwoRecordWalk, AccessPath, One, Two, IsOperating, OperatesBy, OperationFields, StandsOrTold, FitsPhase, IsWalking, walking, ChangesPages, EndsWith, PagesMeanHistory, AbstractState, context_of, walk_leaves_change, found_is_record}
use Rattle.mlt_object_base.specs.{Effects.reply_of, Meaning.changes_of, Meaning.size_record_in, Meaning.told_by}
use Rattle.mlt_hash_form.specs.{Held.own_or_clean, Records.live_records}
use Rattle.mlt_hash.proofs.Passed.{read_at_bucket}
use Rattle.mlt_tx_meaning.{specs.Presences.op_key, specs.AbstractStates.record_of, proofs.TwoEnds.done_leaves}
use Rattle.mlt_manager_invariant.proofs.OneChange.{no_size_change, own_alone}

-- the operation is told what the records ask for, and makes the changes that go with it
pub record IsAnswered (state : AbstractState) (i : ℕ) (op : ObjOp) (reply : ObjReply) (pages : map.FinMap nat_cmp Page) : Type 0 where
  pub told : told_by (live_records state.pages) op ≡ reply
  pub changes : ChangesPages state i (changes_on op (changes_of (live_records state.pages) op)) pages

-- one on one record changes this one alone
answered_by : (state : AbstractState) (i : ℕ) (op : ObjOp) (reply : ObjReply) (pages : map.FinMap nat_cmp Page) (change : Option RecChange) → size_key_of (Do op) ≡ None → reply_of op (record_of state op) ≡ (reply, change)
    → ChangesPages state i (own_change_on op change) pages → IsAnswered state i op reply pages
answered_by state i op reply pages change alone is changes =
    let records = live_records state.pages in
    let all : changes_of records op ≡ record { own = change; size = None } =
    λ j. record { own = (is j).1; size = no_size_change op (told_by records op) (size_record_in records op) alone j } in
    let list = ap (changes_on op) all ∙ own_alone op change in
    record {
      told = ap (λ (d : ObjReply × Option RecChange). d.0) is;
      changes = subst (λ l. ChangesPages state i l pages) (sym list) changes;
    }

module _ (state : AbstractState) (i : ℕ) (o : OperationFields) (view : View) (op : ObjOp) (reply : ObjReply) (pages : map.FinMap nat_cmp Page)
    (match : PagesMeanHistory state) (in_range : IsInRange (cell_of op)) (operates : IsOperating (context_of state i) o view) (asked : o.request ≡ Do op) (told : o.reply ≡ Some reply)
    (agree : Agrees view.seen (map.get state.pages)) (ends : EndsWith state view pages) where
  -- ---- on one record

  module _ (walk : WalkFields) (walks : IsWalking (context_of state i) (walking o.request o.reply walk) view) where
    alone : size_key_of (Do op) ≡ None
    alone = ap size_key_of (sym asked) ∙ walks.alone

    key_is : walk.key ≡ op_key op
    key_is = ap (λ (t : ℕ × Mode). t.0) (walks.target ∙ ap target_of asked)

    found_here : (found : Option ℕ) → HasRead (context_of state i) walk.key view found → found ≡ record_of state op
    found_here found read = found_is_record state i (cell_of op) walk.key view found match read key_is agree

    decided_here : (found : Option ℕ) (r : ObjReply) (change : Option RecChange) → HasRead (context_of state i) walk.key view found → o.reply ≡ Some r → decision o.request found ≡ (r, change)
        → reply_of op (record_of state op) ≡ (reply, change)
    decided_here found r change read is decided =
        let same : Some r ≡ Some reply = sym is ∙ told in
        let one : r ≡ reply = cc in
        ap (λ f. reply_of op f) (sym (found_here found read)) ∙ ap (λ (q : Request). decision q found) (sym asked) ∙ decided ∙ ap (λ x. (x, change)) one

    by_phase : (p : Phase) → walk.phase ≡ p → FitsPhase p (context_of state i) (walking o.request o.reply walk) view → Stands p (context_of state i) walk view → IsAnswered state i op reply pages
    by_phase Phase.Start is fits stands = absurd (none-some reply (sym fits ∙ told))
    by_phase (Phase.Headed dir row depth) is fits stands = absurd (none-some reply (sym fits ∙ told))
    by_phase (Phase.Placed bucket depth) is fits stands = absurd (none-some reply (sym fits ∙ told))
    by_phase (Phase.AtBucket bucket depth found) is fits stands =
        let read = read_at_bucket (context_of state i) walk view bucket depth found stands in
        answered_by state i op reply pages None alone (decided_here found fits.0 None read fits.1 fits.2)
        (λ q. ends.ends q ∙ ap (λ own. own_or_clean own (map.get state.pages q)) (stands.unwritten.own q))
    by_phase (Phase.Full next) is fits stands = absurd fits
    by_phase (Phase.Adding value bucket room_depth unsplit) is fits stands = absurd (none-some reply (sym fits.0 ∙ told))
    by_phase (Phase.Splitting value room_depth) is fits stands = absurd (none-some reply (sym fits.0 ∙ told))
    by_phase (Phase.Changed bucket done) is fits stands =
        answered_by state i op reply pages (Some fits.decided) alone (decided_here fits.found fits.reply (Some fits.decided) fits.read fits.told fits.asked)
        (walk_leaves_change state i pages walk view bucket done stands agree ends.ends match.file.form (cell_of op) fits.decided key_is
        (subst (λ (f : Option ℕ). Performs fits.decided f done) (found_here fits.found fits.read) fits.performs))

    answered_on_one : IsAnswered state i op reply pages
    answered_on_one = by_phase walk.phase refl walks.fits walks.stands

  -- ---- on two

  answered_on_two : (two_records : TwoRecordWalk) → StandsOrTold o.reply two_records (context_of state i) o.request view → IsAnswered state i op reply pages
  answered_on_two two_records stands =
      let there : IsTold two_records (context_of state i) (Do op) reply view =
      subst (λ (q : Request). IsTold two_records (context_of state i) q reply view) asked (subst (λ (r : Option ObjReply). StandsOrTold r two_records (context_of state i) o.request view) told stands) in
      let leaves : LeavesAsTold (context_of state i) (Do op) reply view (map.get state.pages) =
      leaves_as_told (context_of state i) (Do op) reply view (map.get state.pages) match.file.bounded agree match.file.form match.file.shallow two_records there in
      let both = done_leaves state i reply view pages match ends op in_range leaves in
      record { told = both.0; changes = both.1 }

  by_access_path : (c : AccessPath) → OperatesBy c (context_of state i) o view → IsAnswered state i op reply pages
  by_access_path (One walk) walks = answered_on_one walk walks
  by_access_path (Two two_records) stands = answered_on_two two_records stands

  -- **An operation that is told its reply was told what the base has, and its end makes the changes.**
  pub is_answered : IsAnswered state i op reply pages
  is_answered = by_access_path o.access_path operates
