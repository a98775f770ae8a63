use Rattle.std.proofs.Common.{◌∙◌}
use Rattle.std.specs.FinMap as map
use Rattle.mlt_hash_file.proofs.Names.{live_records}
use Rattle.mlt_hash_file.proofs.HashFiles.{found_is_record, ready_to_find, store_read}
use Rattle.mlt_hash_file.proofs.hash_file.HashFile.get.Goals as goal

pub find-found-requires : goal.find-found-requires
find-found-requires g c κs within = (within, ready_to_find g.P.Pseudo.bits_of c.self.inside.root c.self.inside.runner c.self.invariant.0 c.self.invariant.1 c.find-walk.result (λ i. (c.find-walk.ensures i).phase))

pub invariant_of-self : goal.invariant_of-self
invariant_of-self g c =
    let stays = c.end.ensures.store ∙ store_read g.P.Pseudo.bits_of c.self.inside.root c.self.inside.runner c.self.invariant.0 c.self.invariant.1 _ c.find-found.ensures.keeps _ _ _ c.find-found.ensures.alone c.find-found.ensures.arrives in
    (c.end.ensures.idle, rw stays c.self.invariant.1)

pub returns : goal.returns
returns g c =
    let stays = c.end.ensures.store ∙ store_read g.P.Pseudo.bits_of c.self.inside.root c.self.inside.runner c.self.invariant.0 c.self.invariant.1 _ c.find-found.ensures.keeps _ _ _ c.find-found.ensures.alone c.find-found.ensures.arrives in
    record {
      value =
          found_is_record g.P.Pseudo.bits_of c.self.inside.root c.self.inside.runner c.self.invariant.0 c.self.invariant.1 _ c.find-found.ensures.keeps _ _ _ c.find-found.ensures.alone c.find-found.ensures.arrives
          ∙ (λ i. map.get (live_records ((c.self.view_is i).pages)) ((c.find-walk.ensures i).key));
      same = (λ i. record { pages = (stays i).pages; root = c.self.inside.root.page; max_depth = c.self.inside.root.max_depth; max_pages = (stays i).max_pages; pseudo = c.self.inside.root.pseudo }) ∙ c.self.view_is;
      file = rw stays c.self.invariant.1;
    }
