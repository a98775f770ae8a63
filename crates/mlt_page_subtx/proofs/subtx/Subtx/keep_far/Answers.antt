use Rattle.std.proofs.Common.{nat_eq, subst, sym, ap, ◌∙◌, ◌≤◌}
use Rattle.mlt_page_subtx.proofs.Names.{Images, Running, image_of}
use Rattle.std.specs.FinMap as map
use Rattle.indexmap.proofs.CallerLemmas.{insert_entry-new}
use Rattle.mlt_page_subtx.proofs.Lists.{kept_entry, no_entry}
use Rattle.mlt_page_subtx.proofs.subtx.Subtx.keep_far.Goals as goal

pub invariant_of-self-2 : goal.invariant_of-self-2
invariant_of-self-2 c =
    let same = sym (ap (λ (r : Running). r.images) c.self.view_is) in
    let none = ap (λ images. image_of images c.args.page) (sym same) ∙ c.requires.anew in
    let more = kept_entry c.self.inside.near c.self.inside.far.entries c.insert.new.self.entries c.args.page c.args.first c.self.invariant none (subst (λ (images : Images). 2 ≤ map.len images) same c.requires.full)
    (c.in_ok-insert.ensures.entries ∙ insert_entry-new nat_eq c.self.inside.far c.args.page c.args.first (no_entry c.self.inside.near c.self.inside.far.entries c.args.page none)) in
    more.kept

pub returns-clause-ok : goal.returns-clause-ok
returns-clause-ok c =
    let same = sym (ap (λ (r : Running). r.images) c.self.view_is) in
    let none = ap (λ images. image_of images c.args.page) (sym same) ∙ c.requires.anew in
    let more = kept_entry c.self.inside.near c.self.inside.far.entries c.insert.new.self.entries c.args.page c.args.first c.self.invariant none (subst (λ (images : Images). 2 ≤ map.len images) same c.requires.full)
    (c.in_ok-insert.ensures.entries ∙ insert_entry-new nat_eq c.self.inside.far c.args.page c.args.first (no_entry c.self.inside.near c.self.inside.far.entries c.args.page none)) in
    ap (λ (images : Images). record { tx = c.self.inside.tx; images = images }) more.images
    ∙ ap (λ (r : Running). record { tx = r.tx; images = map.insert r.images c.args.page c.args.first }) c.self.view_is
