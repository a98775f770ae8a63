use Rattle.std.proofs.Common.{◌≡◌, ap, ◌∙◌, ◌++◌, [], ◌∷◌, List, length, subst, option_to_list}
use Rattle.mlt_page_subtx.proofs.Names.{Image, AreThere, images_in, images_of}
use Rattle.mlt_page_subtx.proofs.Lists.{put_back_more, behind_and_front, entry_is_last, last_is_there, none_left, none_popped}
use Rattle.mlt_page_subtx.proofs.subtx.put_all_back.Goals as goal

pub put_back-requires : goal.put_back-requires
put_back-requires c =
    let near = c.args.near.now in
    let split : near ++ images_in c.loop-entry.far.entries ≡ (near ++ images_in c.pop.new.self.entries) ++ record { page = c.in-Some.entry.0; first = c.in-Some.entry.1 } ∷ [] =
    entry_is_last near c.loop-entry.far.entries c.pop.new.self.entries c.in-Some.entry.0 c.in-Some.entry.1 (c.pop.ensures.entries ∙ ap (λ o. c.pop.new.self.entries ++ option_to_list o) c.in-Some.is) in
    last_is_there (near ++ images_in c.pop.new.self.entries) (record { page = c.in-Some.entry.0; first = c.in-Some.entry.1 }) c.loop-entry.store.pages
    (subst (λ (xs : List Image). AreThere (images_of xs) c.loop-entry.store.pages) split c.loop-entry.invariant.there)

pub loop-entry-preserved : goal.loop-entry-preserved
loop-entry-preserved c =
    let near = c.args.near.now in
    let split : near ++ images_in c.loop-entry.far.entries ≡ (near ++ images_in c.pop.new.self.entries) ++ record { page = c.in-Some.entry.0; first = c.in-Some.entry.1 } ∷ [] =
    entry_is_last near c.loop-entry.far.entries c.pop.new.self.entries c.in-Some.entry.0 c.in-Some.entry.1 (c.pop.ensures.entries ∙ ap (λ o. c.pop.new.self.entries ++ option_to_list o) c.in-Some.is) in
    put_back_more _ (near ++ images_in c.pop.new.self.entries) (record { page = c.in-Some.entry.0; first = c.in-Some.entry.1 }) c.loop-entry.store c.put_back.new.store _ _ split c.loop-entry.invariant c.put_back.ensures

pub put_back-requires-in-Some-pop : goal.put_back-requires-in-Some-pop
put_back-requires-in-Some-pop c =
    last_is_there c.pop-in-loop-image.new.self c.in-Some-pop.image c.loop-image.store.pages
    (subst (λ (xs : List Image). AreThere (images_of xs) c.loop-image.store.pages) c.in-Some-pop.ensures.last c.loop-image.invariant.there)

pub loop-image-preserved : goal.loop-image-preserved
loop-image-preserved c =
    put_back_more _ c.pop-in-loop-image.new.self c.in-Some-pop.image c.loop-image.store c.put_back-in-Some-pop.new.store _ _ c.in-Some-pop.ensures.last c.loop-image.invariant c.put_back-in-Some-pop.ensures

pub returns-clause-store : goal.returns-clause-store
returns-clause-store c =
    let near = c.args.near.now in
    let entries = c.loop-entry.far.entries in
    behind_and_front near (images_in entries) c.loop-image.near (near ++ images_in c.args.far.now.entries) c.loop-entry.store c.loop-image.store c.args.store.now
    (ap images_in (none_left entries (none_popped (length entries) c.in_default.ensures.found.1)))
    c.in_default-pop.ensures.none.0
    c.loop-entry.invariant c.loop-image.invariant
