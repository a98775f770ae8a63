use Rattle.std.proofs.Common.{sym, ap, ◌∙◌}
use Rattle.mlt_hash_split.proofs.Names.{SplitFields, local}
use Rattle.mlt_hash_split.proofs.{Doubling.place_of_double, HeldPages.clean_now, Steps.makes_second_half}
use Rattle.mlt_hash_split.proofs.split.Split.advance.Goals as goal

pub double_page-requires : goal.double_page-requires
double_page-requires g c =
    let phase = sym (ap (λ (s : SplitFields). s.phase) c.self.view_is) ∙ c.in-Double.is in
    let old = local c.args.subtx.now c.args.pages.now in
    let ready = c.requires.1 in
    (phase, (c.requires.0, (ready, place_of_double g.target old c.args.self.now c.in-Double.place phase ready.may (clean_now g.target old ready.may ready.file) ready.under_way)))

pub returns-in-SecondHalf-clause-no_room : goal.returns-in-SecondHalf-clause-no_room
returns-in-SecondHalf-clause-no_room g c =
    let phase = sym (ap (λ (s : SplitFields). s.phase) c.self.view_is) ∙ c.in-SecondHalf.is in
    let told = c.make_second_half.ensures.no_room in
    (λ is. (makes_second_half c.args.self.now.phase c.in-SecondHalf.place phase, told.0 is), λ full. told.1 full.1)
