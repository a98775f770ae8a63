use Rattle.mlt_manager_invariant.proofs.Places.{back_place, begin_place, close_place, commit_place, done_place}
use Rattle.mlt_manager_invariant.proofs.trace_laws.sound_states_give_places.Goals as goal

pub returns : goal.returns
returns c = record {
  begin = begin_place;
  done = λ s i t done sound was. done_place s i t sound was done;
  back = back_place;
  commit = commit_place;
  close = close_place;
}
