-- Where a walk on its way stands
use Rattle.std.proofs.Common.{◌≡◌, ℕ, Option, subst, nat_cmp}
use Rattle.std.specs.FinSet as set
use Rattle.mlt_hash.proofs.Names.{View, WalkContext, IsAtBucket, IsHeaded, IsPlaced, IsStanding, Stands, WalkFields, Phase}

-- a walk stands where its phase says
pub stands_at : (context : WalkContext) (walk : WalkFields) (view : View) (phase : Phase) → walk.phase ≡ phase → IsStanding context walk view → Stands phase context walk view
stands_at context walk view phase is stands = subst (λ (phase : Phase). Stands phase context walk view) is stands

-- whoever is open, a walk on its way stands where it stands
pub headed_for : (context : WalkContext) (active : set.FinSet nat_cmp) (walk : WalkFields) (view : View) (dir row depth : ℕ) → IsHeaded context walk view dir row depth → IsHeaded (record context { active = active }) walk view dir row depth
headed_for context active walk view dir row depth here = record { goes_after = here.goes_after; unwritten = here.unwritten; header = here.header; held = here.held; among = here.among; head = here.head; dir_is = here.dir_is; row_is = here.row_is; depth_is = here.depth_is; shallow = here.shallow }

pub placed_for : (context : WalkContext) (active : set.FinSet nat_cmp) (walk : WalkFields) (view : View) (bucket depth : ℕ) → IsPlaced context walk view bucket depth → IsPlaced (record context { active = active }) walk view bucket depth
placed_for context active walk view bucket depth here = record { goes_after = here.goes_after; unwritten = here.unwritten; header = here.header; held = here.held; among = here.among; head = here.head; dir = here.dir; listed = here.listed; bucket_is = here.bucket_is; depth_is = here.depth_is; shallow = here.shallow }

pub at_bucket_for : (context : WalkContext) (active : set.FinSet nat_cmp) (walk : WalkFields) (view : View) (bucket depth : ℕ) (found : Option ℕ) → IsAtBucket context walk view bucket depth found → IsAtBucket (record context { active = active }) walk view bucket depth found
at_bucket_for context active walk view bucket depth found here = record {
  goes_after = here.goes_after;
  unwritten = here.unwritten;
  header = here.header;
  held = here.held;
  among = here.among;
  head = here.head;
  dir = here.dir;
  listed = here.listed;
  bucket_is = here.bucket_is;
  depth_is = here.depth_is;
  shallow = here.shallow;
  fields = here.fields;
  at = here.at;
  found_is = here.found_is;
}
