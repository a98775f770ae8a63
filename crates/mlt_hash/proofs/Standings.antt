-- What is true of every walk, wherever it stands
use Rattle.std.proofs.Common.{◌≡◌, ℕ, ◌<◌, ◌≤◌, ◌+◌, Option, Some, arith}
use Rattle.std.specs.FinMap as map
use Rattle.mlt_hash.proofs.Names.{Page, HeadFields, HasForm, look_up, Agrees, View, read_is_there, HasClean, rest_holds_few, WalkContext, GoesAfter, HasRead, HoldsBeside, IsStanding, Stands, WalkFields, split_target, Phase}
use Rattle.mlt_hash_split.proofs.Few.{split_holds_few}
use Rattle.mlt_hash.proofs.{Beside.few_before, Beside.few_beside, Paths.header_small, Readings.none_held}

-- on its way a walk holds few pages
few_on_way : (context : WalkContext) (walk : WalkFields) (view : View) (header : HeadFields) (others : ℕ) (clean : ℕ → Option Page) → Agrees view.seen clean → HasForm context.bits clean context.root → GoesAfter walk.pass context.before → view.seen context.root ≡ Some (Some (Page.Head header))
    → others ≤ context.before.buckets + 2 → HoldsBeside view header others → map.len view.modes < 300
few_on_way context walk view header others clean agree form follows head le among =
    few_beside view header others (omega (arith, le, few_before walk.pass context.before follows)) (header_small context.bits clean context.root header form (agree context.root (Some (Page.Head header)) head)) among

few_at : (phase : Phase) (context : WalkContext) (walk : WalkFields) (view : View) (clean : ℕ → Option Page) → Agrees view.seen clean → HasForm context.bits clean context.root → Stands phase context walk view → map.len view.modes < 300
few_at Phase.Start context walk view clean agree form s = let few = none_held view.modes s.0.unheld in omega (arith, few)
few_at (Phase.Headed dir row depth) context walk view clean agree form s = few_on_way context walk view s.header (context.before.buckets + 1) clean agree form s.goes_after s.head (omega arith) s.among
few_at (Phase.Placed bucket depth) context walk view clean agree form s = few_on_way context walk view s.header (context.before.buckets + 1) clean agree form s.goes_after s.head (omega arith) s.among
few_at (Phase.AtBucket bucket depth found) context walk view clean agree form s = few_on_way context walk view s.header (context.before.buckets + 2) clean agree form s.goes_after s.head (omega arith) s.among
few_at (Phase.Full next) context walk view clean agree form s = omega (arith, s)
few_at (Phase.Adding value bucket room_depth unsplit) context walk view clean agree form s =
    let w : HasClean (split_target context walk room_depth) view = record { clean = clean; agrees = agree; form = form } in
    rest_holds_few (split_target context walk room_depth) view bucket s.header s.fields w s.rest
few_at (Phase.Splitting value room_depth) context walk view clean agree form s =
    let w : HasClean (split_target context walk room_depth) view = record { clean = clean; agrees = agree; form = form } in
    split_holds_few (split_target context walk room_depth) view s.split w s.under_way
few_at (Phase.Changed bucket done) context walk view clean agree form s = s.few

-- **A walk that stands holds fewer than 300 pages.**
pub standing_holds_few : (context : WalkContext) (walk : WalkFields) (view : View) (clean : ℕ → Option Page) → IsStanding context walk view → Agrees view.seen clean → HasForm context.bits clean context.root → map.len view.modes < 300
standing_holds_few context walk view clean stands agree form = few_at walk.phase context walk view clean agree form stands

-- **What was found of a key is on the clean pages still.**
pub found_still : (context : WalkContext) (key : ℕ) (view : View) (found : Option ℕ) (clean : ℕ → Option Page) → HasRead context key view found → Agrees view.seen clean → found ≡ look_up context.bits clean context.root key
found_still context key view found clean read agree = read_is_there context.bits context.root key view read.dir read.bucket found clean read.way agree
