-- A wide pass that has put its own record goes on to the key of the size
use Rattle.std.proofs.Common.{◌≡◌, ℕ, None, Some, refl, sym, ap, subst, ◌∙◌}
use Rattle.mlt_tx_two_records.proofs.Names.{Exclusive, Request, size_key_of, target_of, LocalState, view_of, same_some, WalkContext, Before, IsChanged, MayWalk, Stands, WalkFields, context_after, one_key, IsUnderWay, Phase, HasKeys, HasJustPut, HasPutOwn, IsGoingToSize, PutsSize, PutsThen}
use Rattle.mlt_hash.specs.{Walks.SlotsStood, Walks.before_of, Walks.nothing_before, Changes.IsChangedPhase}

module _ (context : WalkContext) (m : LocalState) (request : Request) (walk : WalkFields) (just : HasJustPut context m request walk) where
  -- It may go on,
  pub may_turn : context.before ≡ nothing_before → MayWalk context m walk
  may_turn first = subst (λ (b : Before). MayWalk (context_after b context) m walk) (sym first) just.may.walks

  pub has_changed : IsChangedPhase walk.phase
  has_changed = subst IsChangedPhase (sym just.phase) tt

  -- what it has done so far
  abbrev pub all_of_it : Before
  all_of_it = before_of (view_of m)

  changed : IsChanged (one_key context) walk (view_of m) just.bucket just.done
  changed = subst (λ (p : Phase). Stands p (one_key context) walk (view_of m)) just.phase just.may.walks.stands

  -- **and goes to the key of the size.**
  module _ (on : WalkFields) (size dir row depth : ℕ) (is : size_key_of request ≡ Some size) (goes : on ≡ record walk { key = size; mode = Exclusive; phase = Phase.Headed dir row depth; split = None }) (over : MayWalk (context_after all_of_it context) m on) (stood : SlotsStood (view_of m).own context.tx (view_of m)) where
    key_is : on.key ≡ size
    key_is = ap (λ (w : WalkFields). w.key) goes

    phase_is : on.phase ≡ Phase.Headed dir row depth
    phase_is = ap (λ (w : WalkFields). w.phase) goes

    keys : HasKeys request (target_of request).0 on.key
    keys = record {
      own_is = refl;
      size_is = is ∙ ap Some (sym key_is);
      apart = λ same. just.may.keys.apart (just.may.keys.own_is ∙ same ∙ key_is ∙ same_some size just.may.size (sym is ∙ just.may.keys.size_is));
    }

    put : HasPutOwn context request (view_of m) all_of_it
    put = record {
      walk = walk;
      to_key = just.may.to_key;
      then_view = view_of m;
      bucket = just.bucket;
      done = just.done;
      phase = just.phase;
      changed = changed;
      reply = just.reply;
      value = just.value;
      decided = just.decided;
      performs = just.performs;
      since_is = refl;
      seen = λ q p sees. sees;
      written = over.written;
      stood = stood;
    }

    pub goes_over : IsGoingToSize context request on (view_of m)
    goes_over = record {
      adds = just.may.adds;
      since = all_of_it;
      put = put;
      keys = keys;
      to_key = record {
        key_is = refl;
        wide = ap (λ (w : WalkFields). w.pass) goes ∙ just.may.to_key.wide;
        mode = ap (λ (w : WalkFields). w.mode) goes;
      };
      under_way = subst IsUnderWay (sym phase_is) tt;
      stands = over.stands;
      puts = subst (λ (p : Phase). PutsThen p (PutsSize request put.reply)) (sym phase_is) tt;
    }
