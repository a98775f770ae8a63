use Rattle.std.proofs.Common.{Some, sym, ap, ◌∙◌, rules}
use Rattle.std.specs.FinMap as map
use Rattle.mlt_hash_file.proofs.Names.{live_records, PageStore, transport}
use Rattle.mlt_hash_file.proofs.HashFiles.{absent_before, changes_records, file_before, refuses, store_stays}
use Rattle.mlt_hash_file.{proofs.Alone.keeps_both, proofs.AloneEnds.idle_starts, proofs.AloneEnds.idle_store, specs.HashFiles.Refuses}
use Rattle.mlt_hash_file.proofs.hash_file.HashFile.insert.Goals as goal

pub insert-requires-clause-nothing : goal.insert-requires-clause-nothing
insert-requires-clause-nothing g c = idle_starts c.self.inside.runner c.self.invariant.0

pub insert-requires-clause-file : goal.insert-requires-clause-file
insert-requires-clause-file g c = file_before g.P.Pseudo.bits_of c.self.inside.root c.self.inside.runner c.self.invariant.0 c.self.invariant.1

pub insert-requires-clause-absent : goal.insert-requires-clause-absent
insert-requires-clause-absent g c =
    absent_before g.P.Pseudo.bits_of c.self.inside.root c.self.inside.runner c.self.invariant.0 c.self.invariant.1 c.find-walk.result.key
    ((λ i. map.get (live_records ((c.self.view_is i).pages)) ((c.find-walk.ensures i).key)) ∙ c.requires.absent)

pub returns-in-Changed-clause-records : goal.returns-in-Changed-clause-records
returns-in-Changed-clause-records g c =
    ap (λ (s : PageStore). live_records s.pages) c.end.ensures.store
    ∙ changes_records g.P.Pseudo.bits_of c.self.inside.root c.self.inside.runner c.self.invariant.0 c.self.invariant.1 c.insert.new.self c.in-Changed.ensures.keeps c.find-walk.result.key (Some c.args.value) c.in-Changed.ensures.tells
    ∙ (λ i. map.insert (live_records ((c.self.view_is i).pages)) ((c.find-walk.ensures i).key) c.args.value)

pub invariant_of-self-in-Refused : goal.invariant_of-self-in-Refused
invariant_of-self-in-Refused g c =
    let keeps = keeps_both c.self.inside.runner c.insert.new.self c.roll_back.new.self c.in-Refused.ensures.keeps c.roll_back.ensures.keeps in
    (c.roll_back.ensures.idle, rw (store_stays c.self.inside.runner c.roll_back.new.self c.self.invariant.0 keeps (sym (idle_store c.roll_back.new.self c.roll_back.ensures.idle))) c.self.invariant.1)

pub returns-in-Refused : goal.returns-in-Refused
returns-in-Refused g c =
    let keeps = keeps_both c.self.inside.runner c.insert.new.self c.roll_back.new.self c.in-Refused.ensures.keeps c.roll_back.ensures.keeps in
    let stays = store_stays c.self.inside.runner c.roll_back.new.self c.self.invariant.0 keeps (sym (idle_store c.roll_back.new.self c.roll_back.ensures.idle)) in
    record {
      records = tt;
      limits = search rules;
      file = rw stays c.self.invariant.1;
      err = (λ i. record { pages = (stays i).pages; root = c.self.inside.root.page; max_depth = c.self.inside.root.max_depth; max_pages = (stays i).max_pages; pseudo = c.self.inside.root.pseudo }) ∙ c.self.view_is;
      refusal =
          transport (λ i. Refuses g.P.Pseudo.bits_of (c.self.view_is i) ((c.find-walk.ensures i).key) c.in-Refused.refusal)
          (refuses g.P.Pseudo.bits_of c.self.inside.root c.self.inside.runner c.self.invariant.0 c.self.invariant.1 c.insert.new.self c.in-Refused.ensures.keeps c.find-walk.result.key c.in-Refused.refusal c.in-Refused.ensures.tells);
    }
