use Rattle.std.proofs.Common.{◌≡◌, IsSome, sym, ap, subst, ◌∙◌}
use Rattle.std.specs.FinMap as map
use Rattle.mlt_hash_file.proofs.Names.{nothing_before, records_after, live_records, PageStore}
use Rattle.mlt_hash.specs.Changes.{IsAtRecord}
use Rattle.mlt_hash_file.proofs.{Alone.keeps_both, AlonePasses.found_at, AloneWalks.ready_on, HashFiles.changes_records, HashFiles.file_before, HashFiles.found_is_record, HashFiles.ready_to_find}
use Rattle.mlt_hash_file.proofs.hash_file.HashFile.set.Goals as goal

pub find-requires : goal.find-requires
find-requires g c κs within = (within, ready_to_find g.P.Pseudo.bits_of c.self.inside.root c.self.inside.runner c.self.invariant.0 c.self.invariant.1 c.find-walk.result (λ i. (c.find-walk.ensures i).phase))

pub set-requires : goal.set-requires
set-requires g c κs within =
    let record_is = found_is_record g.P.Pseudo.bits_of c.self.inside.root c.self.inside.runner c.self.invariant.0 c.self.invariant.1 _ c.find.ensures.keeps _ _ _ c.find.ensures.alone c.find.ensures.arrives in
    let there = subst IsSome (sym (record_is ∙ (λ i. map.get (live_records ((c.self.view_is i).pages)) ((c.find-walk.ensures i).key)))) c.requires.present in
    let file = file_before g.P.Pseudo.bits_of c.self.inside.root c.self.inside.runner c.self.invariant.0 c.self.invariant.1 in
    let ready = ready_on nothing_before g.P.Pseudo.bits_of c.self.inside.root c.self.inside.runner c.find.new.self c.find.new.walk c.find.ensures.keeps c.find.ensures.written file c.find.ensures.arrives.stands in
    (within, (c.find.ensures.arrives.same.mode ∙ (λ i. (c.find-walk.ensures i).mode), (subst IsAtRecord (sym (found_at c.find.new.walk.phase c.find.result c.find.ensures.arrives.found)) there, ready)))

pub returns-clause-records : goal.returns-clause-records
returns-clause-records g c =
    let key : c.find.new.walk.key ≡ c.args.key = c.find.ensures.arrives.same.key ∙ (λ i. (c.find-walk.ensures i).key) in
    let keeps = keeps_both c.self.inside.runner c.find.new.self c.set.new.self c.find.ensures.keeps c.in-Changed.ensures.keeps in
    ap (λ (s : PageStore). live_records s.pages) c.end.ensures.store
    ∙ changes_records g.P.Pseudo.bits_of c.self.inside.root c.self.inside.runner c.self.invariant.0 c.self.invariant.1 c.set.new.self keeps c.find.new.walk.key c.args.value c.in-Changed.ensures.tells.changed
    ∙ (λ i. records_after (live_records ((c.self.view_is i).pages)) (key i) c.args.value)
