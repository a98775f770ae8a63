-- What an operation on two records knows by its view alone
use Rattle.std.proofs.Common.{◌≡◌, ◌<◌, true, arith, nat_cmp}
use Rattle.std.specs.FinMap as map
use Rattle.std.specs.FinSet as set
use Rattle.mlt_tx_two_records.proofs.Names.{ObjReply, Request, FilePages, HasForm, Agrees, over, View, rebased, KeepsNoMore, WalkContext, context_after, one_key, standing_holds_few, TwoRecordWalk, First, Owing, Wide, WideStage, IsTold}
use Rattle.mlt_tx_two_records.{specs.TwoRecordWalks.Stands, proofs.FirstLaws.owes_fewer, proofs.FirstLaws.told_fewer}
use Rattle.mlt_tx_two_records.proofs.WideOwners.{agreed_since, form_since, own_still, present_still, size_still, told_both_still}

module _ (context : WalkContext) (fewer : set.FinSet nat_cmp) (request : Request) (view : View) (clean : FilePages) (no_more : KeepsNoMore context.active fewer view) (is_open : set.contains context.active context.tx ≡ true)
    (agree : Agrees view.seen clean) (form : HasForm context.bits clean context.root) where
  -- **Owners that close leave it where it stands,**
  pub two_records_still : (two_records : TwoRecordWalk) → Stands two_records context request view → Stands two_records (record context { active = fewer }) request view
  two_records_still (First pair) stands = record { keys = stands.keys; under_way = stands.under_way; finding = stands.finding }
  two_records_still (Owing pair reply) stands = owes_fewer context fewer view no_more is_open request pair reply stands
  two_records_still (Wide WideStage.Own walk) stands = own_still context fewer view clean no_more is_open agree form request walk stands
  two_records_still (Wide WideStage.Size walk) stands = size_still context fewer view clean no_more is_open agree form request walk stands

  -- **and with its reply told.**
  pub told_still : (two_records : TwoRecordWalk) (reply : ObjReply) → IsTold two_records context request reply view → IsTold two_records (record context { active = fewer }) request reply view
  told_still (First pair) reply told = told_fewer context fewer view no_more is_open request pair reply told
  told_still (Owing pair before) reply told = told_fewer context fewer view no_more is_open request pair reply told
  told_still (Wide WideStage.Own walk) reply told = present_still context fewer view clean no_more is_open agree form request walk reply told
  told_still (Wide WideStage.Size walk) reply told = told_both_still context fewer view clean no_more is_open agree form request walk reply told

module _ (context : WalkContext) (request : Request) (view : View) (clean : FilePages) (agree : Agrees view.seen clean) (form : HasForm context.bits clean context.root) where
  -- **It holds fewer than 300 pages, where it stands,**
  pub holds_few : (two_records : TwoRecordWalk) → Stands two_records context request view → map.len view.modes < 300
  holds_few (First pair) stands = let few = stands.finding.few in omega (arith, few)
  holds_few (Owing pair reply) stands = let few = stands.changed.holding.few in omega (arith, few)
  holds_few (Wide WideStage.Own walk) stands = standing_holds_few (one_key context) walk view clean stands.stands agree form
  holds_few (Wide WideStage.Size walk) stands =
      standing_holds_few (context_after stands.since context) walk (rebased stands.since.written view) (over clean stands.since.written) stands.stands
      (agreed_since context request view stands.since clean stands.put agree form) (form_since context request view stands.since clean stands.put agree form)

  -- **and with its reply told.**
  pub told_holds_few : (two_records : TwoRecordWalk) (reply : ObjReply) → IsTold two_records context request reply view → map.len view.modes < 300
  told_holds_few (First pair) reply told = let few = told.holding.few in omega (arith, few)
  told_holds_few (Owing pair before) reply told = let few = told.holding.few in omega (arith, few)
  told_holds_few (Wide WideStage.Own walk) reply told = standing_holds_few (one_key context) walk view clean told.stands agree form
  told_holds_few (Wide WideStage.Size walk) reply told =
      standing_holds_few (context_after told.since context) walk (rebased told.since.written view) (over clean told.since.written) told.stands
      (agreed_since context request view told.since clean told.put agree form) (form_since context request view told.since clean told.put agree form)
