use Rattle.mlt_object_base.proofs.Texts.{counters_text}
use Rattle.mlt_object_base.proofs.counters.Counters.push_text.Goals as goal

pub returns-clause-text : goal.returns-clause-text
returns-clause-text c =
    counters_text c.push_counters.result _ _ c.self.inside.values.entries c.args.self.now c.self.view_is c.self.invariant c.push_counters.ensures.text c.push_counters.ensures.by_number
