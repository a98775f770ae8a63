use Rattle.std.proofs.Common.{is_some, sym, ap, ◌∙◌}
use Rattle.std.{proofs.lemmas.Bool.false≢true, specs.Option.option_copied_mut}
use Rattle.std.specs.FinMap as map
use Rattle.mlt_page.{specs.Numbered.pages_of, specs.declared.store.Store.TheInside.Inside, proofs.Numbered.page_written}
use Rattle.mlt_page.proofs.store.Store.replace.Goals.{in-Some, in-None+in-Head-1, in-None+in-Dir-1, in-None+in-Bucket-1}
use Rattle.mlt_page.proofs.store.Store.replace.Goals as goal

pub returns-clause-pages : goal.returns-clause-pages
returns-clause-pages c = elim c.match-get_mut.branch [
  | in-Some w ↦ λ _.
      ap (λ (s : Inside). record { pages = pages_of s.pages; max_pages = s.max_pages }) w.self-inside-is
      ∙ page_written c.self.inside.pages c.self.inside.max_pages c.number.inside.0 c.args.number w.in-Some.place.now w.replace.new.dest c.args.self.now c.self.view_is c.number.view_is (sym c.get_mut.follows ∙ ap option_copied_mut w.in-Some.is)
      ∙ ap (λ page. record c.args.self.now { pages = map.insert c.args.self.now.pages c.args.number page }) w.replace.ensures.after
  | in-None+in-Head-1 w ↦ λ yes. absurd (false≢true (ap is_some (sym w.result-is) ∙ yes))
  | in-None+in-Dir-1 w ↦ λ yes. absurd (false≢true (ap is_some (sym w.result-is) ∙ yes))
  | in-None+in-Bucket-1 w ↦ λ yes. absurd (false≢true (ap is_some (sym w.result-is) ∙ yes))
]
