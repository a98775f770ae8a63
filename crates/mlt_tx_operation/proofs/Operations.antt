-- Where an operation stands, on one record or on two
use Rattle.std.proofs.Common.{◌≡◌, ◌≢◌, ℕ, Option, None, Some, true, refl, subst, ◌∙◌, arith, nat_cmp}
use Rattle.std.specs.FinMap as map
use Rattle.std.specs.FinSet as set
use Rattle.mlt_types.specs.{Cells.IsInRange, Cells.key_number, declared.cell.Cell.Cell}
use Rattle.mlt_tx_operation.proofs.Names.{ElementOp, Element, ObjReply, Request, Do, TakeBack, size_key_of, target_of, pages_of, Agrees, nothing_written, LocalState, View, view_of, WalkContext, one_key, Phase, TwoRecordWalk, First, Owing, Wide, WideStage, AccessPath, One, Two, MayOperate, OperatesBy, OperationFields, access_path_for, on_one, on_two, started_for, FitsPhase, MayWalkOn, WalkingFields}
use Rattle.mlt_object_kinds.specs.Operations.{cell_of}
use Rattle.mlt_object_base.proofs.Meanings.{same_cell}
use Rattle.mlt_hash_form.specs.File.{FilePages, HasForm}
use Rattle.mlt_hash_split.specs.Rests.{KeepsNoMore}
use Rattle.mlt_hash_pair.proofs.Laws.{starts as pair_starts}
use Rattle.mlt_hash.proofs.{Laws.at_start, Owners.stands_still, Passed.read_as}
use Rattle.mlt_tx_two_records.{specs.TwoRecordWalks.MayGoOn, specs.TwoRecordWalks.Stands, proofs.TwoRecordLaws.two_records_still, proofs.TwoRecordLaws.told_still}
use Rattle.mlt_tx_operation.specs.Operating.{CanDoBy, IsOperating, StandsOrTold}

-- ---- the start

-- the cell that a request is on
abbrev pub cell_asked : Request → Cell
cell_asked (Do op) = cell_of op
cell_asked (TakeBack done) = cell_of done.0

-- the key of an element is not that of a size
element_apart : (s e size : ℕ) → IsInRange (Cell.Element s e) → size ≡ key_number (Cell.Size s) → key_number (Cell.Element s e) ≢ size
element_apart s e size range is same = let one : Cell.Element s e ≡ Cell.Size s = same_cell (Cell.Element s e) (Cell.Size s) range range.0 (same ∙ is) in cc

keys_apart : (request : Request) (size : ℕ) → IsInRange (cell_asked request) → size_key_of request ≡ Some size → (target_of request).0 ≢ size
keys_apart (Do (Element s e ElementOp.Add)) size range is = element_apart s e size range cc
keys_apart (Do (Element s e ElementOp.Remove)) size range is = element_apart s e size range cc
keys_apart (TakeBack (Element s e ElementOp.Add, ObjReply.Added)) size range is = element_apart s e size range cc
keys_apart (TakeBack (Element s e ElementOp.Remove, ObjReply.Removed)) size range is = element_apart s e size range cc
keys_apart other size range none = absurd cc

starts_by : (key : Option ℕ) (context : WalkContext) (request : Request) (m : LocalState) → size_key_of request ≡ key → IsInRange (cell_asked request) → pages_of m.locks m.running.tx ≡ map.empty
    → OperatesBy (access_path_for request key) (one_key context) (record { request = request; reply = None; access_path = access_path_for request key }) (view_of m)
starts_by None context request m is range none = record { alone = is; target = refl; stands = (at_start m none, refl); fits = refl }
starts_by (Some size) context request m is range none = record {
  keys = record { own_is = refl; size_is = is; apart = keys_apart request size range is };
  under_way = omega arith;
  finding = pair_starts context.bits context.root (target_of request).0 size m (keys_apart request size range is) none;
}

-- **An operation that has taken no step stands where no page is held.**
pub starts : (context : WalkContext) (request : Request) (m : LocalState) → IsInRange (cell_asked request) → pages_of m.locks m.running.tx ≡ map.empty → IsOperating (one_key context) (started_for request) (view_of m)
starts context request m range none = starts_by (size_key_of request) context request m refl range none

-- ---- what a step of one asks

-- **One on one record may take a step of its walk.**
pub may_walk_on : (context : WalkContext) (m : LocalState) (o : WalkingFields) → MayOperate (one_key context) m (on_one o) → MayWalkOn (one_key context) m o
may_walk_on context m o may = record {
  walks = record {
    bounded = may.bounded;
    small = may.small;
    may = may.may;
    written = nothing_written (view_of m);
    file = may.file;
    shallow = may.shallow;
    stands = may.operates.stands;
  };
  operates = may.operates;
  back = subst (λ (key : Option ℕ). CanDoBy key (one_key context) may.file.clean o.request) may.operates.alone may.can;
}

-- one on two records has a key of a size
size_key : (two_records : TwoRecordWalk) (context : WalkContext) (request : Request) (view : View) → Stands two_records context request view → (size : ℕ) × (size_key_of request ≡ Some size)
size_key (First pair) context request view stands = (pair.right, stands.keys.size_is)
size_key (Owing pair reply) context request view stands = (pair.right, stands.keys.size_is)
size_key (Wide WideStage.Own walk) context request view stands = (stands.size, stands.keys.size_is)
size_key (Wide WideStage.Size walk) context request view stands = (walk.key, stands.keys.size_is)

-- **One on two records may go on.**
pub may_go_on : (context : WalkContext) (m : LocalState) (request : Request) (two_records : TwoRecordWalk) → MayOperate (one_key context) m (on_two request None two_records) → MayGoOn (one_key context) m request two_records
may_go_on context m request two_records may = record {
  bounded = may.bounded;
  small = may.small;
  may = may.may;
  file = may.file;
  shallow = may.shallow;
  stands = may.operates;
  can = subst (λ (key : Option ℕ). CanDoBy key (one_key context) may.file.clean request) (size_key two_records (one_key context) request (view_of m) may.operates).1 may.can;
}

-- ---- owners of ghosts close

-- what a walk's phase says of a reply does not name who is open
fits_for : (p : Phase) (context : WalkContext) (active : set.FinSet nat_cmp) (o : WalkingFields) (view : View) → FitsPhase p context o view → FitsPhase p (record context { active = active }) o view
fits_for (Phase.Changed bucket done) context active o view fits = record {
  found = fits.found;
  reply = fits.reply;
  decided = fits.decided;
  read = read_as context active o.walk.key view fits.found fits.read;
  told = fits.told;
  asked = fits.asked;
  performs = fits.performs;
}
fits_for other context active o view fits = fits

-- Whose ghosts are kept: on the pages that are held no more than before, and its own.
pub record KeepsFewer (context : WalkContext) (fewer : set.FinSet nat_cmp) (view : View) (clean : FilePages) : Type 0 where
  pub no_more : KeepsNoMore context.active fewer view
  pub own : set.contains context.active context.tx ≡ true
  pub agree : Agrees view.seen clean
  pub form : HasForm context.bits clean context.root

two_stands : (reply : Option ObjReply) (two_records : TwoRecordWalk) (context : WalkContext) (fewer : set.FinSet nat_cmp) (request : Request) (view : View) (clean : FilePages) → StandsOrTold reply two_records (one_key context) request view → KeepsFewer context fewer view clean
    → StandsOrTold reply two_records (one_key (record context { active = fewer })) request view
two_stands None two_records context fewer request view clean stands keeps = two_records_still (one_key context) fewer request view clean keeps.no_more keeps.own keeps.agree keeps.form two_records stands
two_stands (Some reply) two_records context fewer request view clean told keeps = told_still (one_key context) fewer request view clean keeps.no_more keeps.own keeps.agree keeps.form two_records reply told

stands_by : (c : AccessPath) (context : WalkContext) (fewer : set.FinSet nat_cmp) (o : OperationFields) (view : View) (clean : FilePages) → OperatesBy c (one_key context) o view → KeepsFewer context fewer view clean
    → OperatesBy c (one_key (record context { active = fewer })) o view
stands_by (One walk) context fewer o view clean walks keeps = record {
  alone = walks.alone;
  target = walks.target;
  stands = stands_still (one_key context) fewer walk view clean keeps.no_more keeps.agree keeps.form walks.stands;
  fits = fits_for walk.phase (one_key context) fewer _ view walks.fits;
}
stands_by (Two two_records) context fewer o view clean stands keeps = two_stands o.reply two_records context fewer o.request view clean stands keeps

-- **Where owners of ghosts close, an operation stands on.**
pub stands_with : (context : WalkContext) (fewer : set.FinSet nat_cmp) (o : OperationFields) (view : View) (clean : FilePages) → IsOperating (one_key context) o view → KeepsFewer context fewer view clean
    → IsOperating (one_key (record context { active = fewer })) o view
stands_with context fewer o view clean operates keeps = stands_by o.access_path context fewer o view clean operates keeps
