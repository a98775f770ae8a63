-- Owners of ghosts close while the wide pass of an operation on two records stands
use Rattle.std.proofs.Common.{◌≡◌, true, sym, subst, nat_cmp}
use Rattle.std.specs.FinSet as set
use Rattle.mlt_tx_two_records.proofs.Names.{ObjReply, Request, FilePages, HasForm, Agrees, over, View, rebased, KeepsNoMore, WalkContext, Before, IsChanged, IsStanding, Stands, WalkFields, context_after, one_key, Phase, HasPutOwn, HasToldBoth, HasToldPresent, IsGoingToOwn, IsGoingToSize}
use Rattle.mlt_hash_access.proofs.Rebased.{rebased_agrees}
use Rattle.mlt_hash.proofs.{Owners.stands_still, Passed.read_as, Stood.keeps_no_more_written}

-- **What was put for the own record leaves a hash file, whatever the clean pages are elsewhere.**
module _ (context : WalkContext) (request : Request) (view : View) (since : Before) (clean : FilePages) (put : HasPutOwn context request view since) (agree : Agrees view.seen clean) (form : HasForm context.bits clean context.root) where
  pub agreed_then : Agrees put.then_view.seen clean
  agreed_then q p sees = agree q p (put.seen q p sees)

  pub form_since : HasForm context.bits (over clean since.written) context.root
  form_since =
      let changed : IsChanged (one_key context) put.walk put.then_view put.bucket put.done = put.changed in
      subst (λ (s : Before). HasForm context.bits (over clean s.written) context.root) (sym put.since_is) (changed.changes.changes clean agreed_then form).form

  pub agreed_since : Agrees (rebased since.written view).seen (over clean since.written)
  agreed_since = rebased_agrees since.written view clean agree

module _ (context : WalkContext) (fewer : set.FinSet nat_cmp) (view : View) (clean : FilePages) (no_more : KeepsNoMore context.active fewer view) (is_open : set.contains context.active context.tx ≡ true)
    (agree : Agrees view.seen clean) (form : HasForm context.bits clean context.root) (request : Request) where
  abbrev closed : WalkContext
  closed = record context { active = fewer }

  put_still : (since : Before) → HasPutOwn context request view since → HasPutOwn closed request view since
  put_still since put =
      let was : IsStanding (one_key context) put.walk put.then_view = subst (λ (p : Phase). Stands p (one_key context) put.walk put.then_view) (sym put.phase) put.changed in
      let still = stands_still (one_key context) fewer put.walk put.then_view clean (λ q p sees. no_more q p (put.seen q p sees)) (agreed_then context request view since clean put agree form) form was in
      record {
        walk = put.walk;
        to_key = put.to_key;
        then_view = put.then_view;
        bucket = put.bucket;
        done = put.done;
        phase = put.phase;
        changed = subst (λ (p : Phase). Stands p (one_key closed) put.walk put.then_view) put.phase still;
        reply = put.reply;
        value = put.value;
        decided = put.decided;
        performs = put.performs;
        since_is = put.since_is;
        seen = put.seen;
        written = put.written;
        stood = put.stood;
      }

  since_still : (since : Before) (walk : WalkFields) → HasPutOwn context request view since → IsStanding (context_after since context) walk (rebased since.written view) → IsStanding (context_after since closed) walk (rebased since.written view)
  since_still since walk put stands =
      stands_still (context_after since context) fewer walk (rebased since.written view) (over clean since.written)
      (keeps_no_more_written since.written context.tx context.active fewer view put.stood is_open no_more)
      (agreed_since context request view since clean put agree form) (form_since context request view since clean put agree form) stands

  pub own_still : (walk : WalkFields) → IsGoingToOwn context request walk view → IsGoingToOwn closed request walk view
  own_still walk going =
      let stands = stands_still (one_key context) fewer walk view clean no_more agree form going.stands in
      search (stands, going.adds, going.keys, going.to_key, going.under_way, going.puts)

  pub size_still : (walk : WalkFields) → IsGoingToSize context request walk view → IsGoingToSize closed request walk view
  unfolding put_still
  size_still walk going = record {
    adds = going.adds;
    since = going.since;
    put = put_still going.since going.put;
    keys = going.keys;
    to_key = going.to_key;
    under_way = going.under_way;
    stands = since_still going.since walk going.put going.stands;
    puts = going.puts;
  }

  pub present_still : (walk : WalkFields) (reply : ObjReply) → HasToldPresent context request walk reply view → HasToldPresent closed request walk reply view
  present_still walk reply told =
      let stands = stands_still (one_key context) fewer walk view clean no_more agree form told.stands in
      search (stands, told.adds, told.keys, told.to_key, told.at_bucket, told.decided, told.resized)

  pub told_both_still : (walk : WalkFields) (reply : ObjReply) → HasToldBoth context request walk reply view → HasToldBoth closed request walk reply view
  unfolding put_still
  told_both_still walk reply told = record {
    adds = told.adds;
    since = told.since;
    put = put_still told.since told.put;
    reply_is = told.reply_is;
    keys = told.keys;
    to_key = told.to_key;
    bucket = told.bucket;
    done = told.done;
    phase = told.phase;
    stands = since_still told.since walk told.put told.stands;
    found = told.found;
    read = read_as (context_after told.since context) fewer walk.key (rebased told.since.written view) told.found told.read;
    resize = told.resize;
    resized = told.resized;
    performs = told.performs;
  }
